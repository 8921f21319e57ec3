-- The numbers, names and texts of the refusals.
use Rattle.std.specs.Prelude.{ℕ, List, ◌++◌, codes, decimal}
use Rattle.ids.specs.declared.refusal.Refusal.{Refusal}
use Rattle.ids.specs.declared.refusal.Refusal.TheVariants.{Memory, ArenaFull, NoRegister, EmptyRegister, Remote, Local, NoNode, NoLetter, NoField, TooManyFields, SelfSend, LinkSpent, CyclesSpent, NotDirector, CycleRunning, NothingToDo, OutOfOrder, AckBeyond, BadFrame, WrongNode, BadImage, ImageTooLarge, Disk, Closed, TooManyBytes, NoBytes, NotNow}

-- the number of a refusal in texts
abbrev pub number_of : Refusal → ℕ
number_of Memory = 1
number_of ArenaFull = 2
number_of NoRegister = 3
number_of EmptyRegister = 4
number_of Remote = 5
number_of Local = 6
number_of NoNode = 7
number_of NoLetter = 8
number_of NoField = 9
number_of TooManyFields = 10
number_of SelfSend = 11
number_of LinkSpent = 12
number_of CyclesSpent = 13
number_of NotDirector = 14
number_of CycleRunning = 15
number_of NothingToDo = 16
number_of OutOfOrder = 17
number_of AckBeyond = 18
number_of BadFrame = 19
number_of WrongNode = 20
number_of BadImage = 21
number_of ImageTooLarge = 22
number_of Disk = 23
number_of Closed = 24
number_of TooManyBytes = 25
number_of NoBytes = 26
number_of NotNow = 27

-- the name of a refusal in texts
abbrev pub name_of : Refusal → List ℕ
name_of Memory = codes "Memory"
name_of ArenaFull = codes "ArenaFull"
name_of NoRegister = codes "NoRegister"
name_of EmptyRegister = codes "EmptyRegister"
name_of Remote = codes "Remote"
name_of Local = codes "Local"
name_of NoNode = codes "NoNode"
name_of NoLetter = codes "NoLetter"
name_of NoField = codes "NoField"
name_of TooManyFields = codes "TooManyFields"
name_of SelfSend = codes "SelfSend"
name_of LinkSpent = codes "LinkSpent"
name_of CyclesSpent = codes "CyclesSpent"
name_of NotDirector = codes "NotDirector"
name_of CycleRunning = codes "CycleRunning"
name_of NothingToDo = codes "NothingToDo"
name_of OutOfOrder = codes "OutOfOrder"
name_of AckBeyond = codes "AckBeyond"
name_of BadFrame = codes "BadFrame"
name_of WrongNode = codes "WrongNode"
name_of BadImage = codes "BadImage"
name_of ImageTooLarge = codes "ImageTooLarge"
name_of Disk = codes "Disk"
name_of Closed = codes "Closed"
name_of TooManyBytes = codes "TooManyBytes"
name_of NoBytes = codes "NoBytes"
name_of NotNow = codes "NotNow"

-- a refusal: its number and its name
abbrev pub refusal_text : Refusal → List ℕ
refusal_text e = decimal (number_of e) ++ (codes " " ++ name_of e)
