-- Worked examples, computed: what has been done for a program after some steps, what of it is
-- stored, and which answers have left.
use Rattle.std.proofs.Common.{◌≡◌, ℕ, List, [], ◌∷◌, map, refl}
use Rattle.programs.specs.declared.program.TheConstants.{FORGOTTEN}
use Rattle.programs.specs.Runs.{new_host, run, Answer, Ask, BeginSave, Crash, Deed, Done, EndSave, FailSave, Forget, Forgot, Leave, Open, Opened, Performed, ReachDisk, Refused, Says, Speaks, Step}

-- an answer that has left, without what it shows
record Word : Type 0 where
  session : ℕ
  number : ℕ
  says : Says

abbrev word : ℕ → ℕ → Says → Word
word session number says = record { session = session; number = number; says = says }

-- What has been done, what of it is stored, and what has left. The last is the first.
record Row (steps : List Step) (done stored : List Deed) (left : List Word) : Type 0 where
  now : (run new_host steps).now.done ≡ done
  kept : (run new_host steps).stored.done ≡ stored
  said : map (λ (a : Answer). word a.session a.number a.says) (run new_host steps).left ≡ left

-- A process opens the program, and two requests are performed. No answer leaves before a save.
first-process : Row
    (Open 7 1 ∷ Ask 7 1 ∷ Ask 7 2 ∷ Leave 0 ∷ Leave 1 ∷ Leave 2 ∷ [])
    (Performed 7 2 ∷ Performed 7 1 ∷ Opened 7 1 ∷ []) [] []
first-process = record { now = refl; kept = refl; said = refl }

-- Nor while the save is under way. Once it is stored, they leave.
answered : Row
    (Open 7 1
    ∷ Ask 7 1
    ∷ BeginSave
    ∷ Leave 0
    ∷ EndSave
    ∷ Leave 1
    ∷ Leave 0
    ∷ [])
    (Performed 7 1 ∷ Opened 7 1 ∷ []) (Performed 7 1 ∷ Opened 7 1 ∷ [])
    (word 7 1 Done ∷ word 7 1 Speaks ∷ [])
answered = record { now = refl; kept = refl; said = refl }

-- What comes while a save is under way waits for the next one.
next-save : Row
    (Open 7 1 ∷ BeginSave ∷ Ask 7 1 ∷ EndSave ∷ Leave 0 ∷ Leave 1 ∷ [])
    (Performed 7 1 ∷ Opened 7 1 ∷ []) (Opened 7 1 ∷ []) (word 7 1 Speaks ∷ [])
next-save = record { now = refl; kept = refl; said = refl }

-- No other save begins before that one is over.
one-save : Row (Open 7 1 ∷ BeginSave ∷ Ask 7 1 ∷ BeginSave ∷ EndSave ∷ Leave 0 ∷ [])
    (Performed 7 1 ∷ Opened 7 1 ∷ []) (Opened 7 1 ∷ []) []
one-save = record { now = refl; kept = refl; said = refl }

-- A save that failed stores nothing, and the next one stores all.
failed-save : Row
    (Open 7 1
    ∷ BeginSave
    ∷ FailSave
    ∷ Leave 0
    ∷ BeginSave
    ∷ EndSave
    ∷ Leave 0
    ∷ [])
    (Opened 7 1 ∷ []) (Opened 7 1 ∷ []) (word 7 1 Speaks ∷ [])
failed-save = record { now = refl; kept = refl; said = refl }

-- A request that is repeated is answered again, and not performed.
repeated : Row (Open 7 1 ∷ Ask 7 1 ∷ Ask 7 1 ∷ BeginSave ∷ EndSave ∷ Leave 0 ∷ Leave 1 ∷ [])
    (Performed 7 1 ∷ Opened 7 1 ∷ []) (Performed 7 1 ∷ Opened 7 1 ∷ [])
    (word 7 1 Done ∷ word 7 1 Done ∷ [])
repeated = record { now = refl; kept = refl; said = refl }

-- A crash takes back what wasn't stored, so no answer of it has left, and it is asked again.
crash : Row
    (Open 7 1
    ∷ BeginSave
    ∷ EndSave
    ∷ Ask 7 1
    ∷ Leave 0
    ∷ Crash
    ∷ Ask 7 1
    ∷ [])
    (Performed 7 1 ∷ Opened 7 1 ∷ []) (Opened 7 1 ∷ []) []
crash = record { now = refl; kept = refl; said = refl }

-- The save under way had reached the disk, which the process never knew. So the request isn't
-- performed again.
crash-behind-a-save : Row
    (Open 7 1 ∷ Ask 7 1 ∷ BeginSave ∷ ReachDisk ∷ Leave 0 ∷ Crash ∷ Ask 7 1 ∷ [])
    (Performed 7 1 ∷ Opened 7 1 ∷ []) (Performed 7 1 ∷ Opened 7 1 ∷ []) []
crash-behind-a-save = record { now = refl; kept = refl; said = refl }

-- Another process opens the program. Requests of the first one are refused, its opening that comes
-- late too, and one by a number that was used.
taken-over : Row
    (Open 7 1
    ∷ Ask 7 1
    ∷ Open 8 2
    ∷ Ask 7 2
    ∷ Open 7 1
    ∷ Open 9 2
    ∷ Ask 8 2
    ∷ BeginSave
    ∷ EndSave
    ∷ Leave 3
    ∷ Leave 2
    ∷ Leave 1
    ∷ Leave 0
    ∷ [])
    (Performed 8 2 ∷ Opened 8 2 ∷ Performed 7 1 ∷ Opened 7 1 ∷ [])
    (Performed 8 2 ∷ Opened 8 2 ∷ Performed 7 1 ∷ Opened 7 1 ∷ [])
    (word 8 2 Done ∷ word 9 2 Refused ∷ word 7 1 Refused ∷ word 7 2 Refused ∷ [])
taken-over = record { now = refl; kept = refl; said = refl }

-- A process that has just opened the program asks for its last request, which is stored. The answer
-- waits until the opening is stored, too.
opening-first : Row
    (Open 7 1
    ∷ Ask 7 1
    ∷ BeginSave
    ∷ EndSave
    ∷ Open 8 2
    ∷ Ask 8 1
    ∷ Leave 0
    ∷ BeginSave
    ∷ EndSave
    ∷ Leave 0
    ∷ [])
    (Opened 8 2 ∷ Performed 7 1 ∷ Opened 7 1 ∷ [])
    (Opened 8 2 ∷ Performed 7 1 ∷ Opened 7 1 ∷ []) (word 8 1 Done ∷ [])
opening-first = record { now = refl; kept = refl; said = refl }

-- Sessions of nobody, and numbers that are 0 or too high.
nobody : Row
    (Open 0 1
    ∷ Open FORGOTTEN 1
    ∷ Ask 0 1
    ∷ Open 7 2
    ∷ Open 7 0
    ∷ Ask 7 1
    ∷ Open 7 1
    ∷ Ask 7 0
    ∷ Ask 7 2
    ∷ [])
    (Opened 7 1 ∷ []) [] []
nobody = record { now = refl; kept = refl; said = refl }

-- The operator has the program forgotten. Nobody speaks for it until it is opened again.
forgotten-one : Row
    (Open 7 1 ∷ Ask 7 1 ∷ Forget ∷ Ask 7 2 ∷ Ask FORGOTTEN 2 ∷ Open 7 1 ∷ Open 9 2 ∷ Ask 9 2 ∷ [])
    (Performed 9 2 ∷ Opened 9 2 ∷ Forgot ∷ Performed 7 1 ∷ Opened 7 1 ∷ []) [] []
forgotten-one = record { now = refl; kept = refl; said = refl }
