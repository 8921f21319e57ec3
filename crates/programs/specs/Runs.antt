-- What can happen to a program of a node, step by step, and what has been done for it.
--
-- Packets come in any order and any number of times, from anybody. A save holds the program as it
-- is when the save begins. A crash leaves what is stored, and every answer that waited is lost.
--
-- A request may be the next one and not be performed, if its bytes aren't events or if memory is
-- short. An opening may not be taken if the program can't have its registers. Then nothing changes:
-- it is as if the packet had been lost, or as a Read.
use Rattle.std.specs.Prelude.{◌≡◌, ℕ, Bool, true, false, cond, List, [], ◌∷◌, ◌++◌, Option, Some, None, slice_get}
use Rattle.programs.specs.declared.images.Images.{Images}
use Rattle.programs.specs.declared.program.Program.{Program}
use Rattle.programs.specs.declared.program.Opening.{Opening}
use Rattle.programs.specs.declared.program.Opening.TheVariants as opening
use Rattle.programs.specs.declared.program.Request.{Request}
use Rattle.programs.specs.declared.program.Request.TheVariants as request
use Rattle.programs.specs.Decisions.{forgotten, opened, opening_of, performed, request_of}
use Rattle.programs.specs.Images.{begun_images, changed_images, failed_images, image_due, may_begin, may_leave, new_images, stored_images}

-- ---- what has been done

-- A deed for a program: the process with this session began to speak for it, by an opening with
-- this number; the request of this session and this number was performed; the operator forgot it.
pub data Deed : Type 0 where
  Opened : ℕ → ℕ → Deed
  Performed : ℕ → ℕ → Deed
  Forgot : Deed

-- A program with all that was done for it, the last deed first. (The node's objects, which the
-- events of requests change, are as the deeds have made them. So are the results of the last one.)
pub record Value : Type 0 where
  pub program : Program
  pub done : List Deed

-- The second list is the first one with more deeds, or none, in front of it: they came later.
pub record IsPast (earlier later : List Deed) : Type 0 where
  pub newer : List Deed
  pub is : later ≡ newer ++ earlier

-- ---- answers

-- what an answer says
pub data Says : Type 0 where
  -- the process speaks for the program
  Speaks : Says
  -- the request was performed, with its results
  Done : Says
  -- the request or the opening is refused
  Refused : Says
  -- what was read
  Told : Says
  -- the program is forgotten
  Forgets : Says

-- An answer to a packet with this session and this number. It shows the state in which these deeds
-- were done: the number of the last request, how many openings there were, results.
pub record Answer : Type 0 where
  pub session : ℕ
  pub number : ℕ
  pub says : Says
  pub shows : List Deed

-- an answer that waits until what the image `due` holds is stored
pub record Waiting : Type 0 where
  pub due : ℕ
  pub answer : Answer

-- ---- a host

-- A host, as far as one program of its node is concerned.
pub record Host : Type 0 where
  -- the program now, and the image that holds it as it is now
  pub now : Value
  pub due : ℕ
  -- the images of this process; what the save that is under way holds; what is stored
  pub images : Images
  pub saving : Option Value
  pub stored : Value
  pub waiting : List Waiting
  -- the answers that have left, of all processes that ever ran the node
  pub left : List Answer

abbrev pub new_value : Value
new_value = record { program = record { session = 0; round = 0; number = 0 }; done = [] }

abbrev pub new_host : Host
new_host = record {
  now = new_value;
  due = 0;
  images = new_images;
  saving = None;
  stored = new_value;
  waiting = [];
  left = [];
}

-- ---- what a step does

-- an answer waits
abbrev pub waits : Host → ℕ → Answer → Host
waits h due answer =
    record h { waiting = record { due = due; answer = answer } ∷ h.waiting }

-- an answer that shows the present state waits until that is stored
abbrev pub answers : Host → ℕ → ℕ → Says → Host
answers h session number says =
    waits h (image_due h.images)
    (record { session = session; number = number; says = says; shows = h.now.done })

-- The program has changed. The next image holds it.
abbrev pub becomes : Host → Program → Deed → Host
becomes h program deed =
    record h {
      now = record { program = program; done = deed ∷ h.now.done };
      due = image_due (changed_images h.images);
      images = changed_images h.images;
    }

-- an answer that shows the program waits until that is stored as it is now
abbrev pub shows_program : Host → ℕ → ℕ → Says → Host
shows_program h session number says =
    waits h h.due
    (record { session = session; number = number; says = says; shows = h.now.done })

abbrev pub after_open : Host → ℕ → ℕ → Opening → Host
after_open h session number opening.New =
    answers (becomes h (opened h.now.program session) (Opened session number)) session number
    Speaks
after_open h session number opening.Again = answers h session number Speaks
after_open h session number opening.Stale = answers h session number Refused
after_open h session number opening.Malformed = answers h session number Refused

abbrev pub after_ask : Host → ℕ → ℕ → Request → Host
after_ask h session number request.Next =
    shows_program (becomes h (performed h.now.program) (Performed session number)) session number
    Done
after_ask h session number request.Repeated = shows_program h session number Done
after_ask h session number request.Stale = answers h session number Refused
after_ask h session number request.Ahead = answers h session number Refused
after_ask h session number request.Superseded = answers h session number Refused
after_ask h session number request.Malformed = answers h session number Refused

-- a save begins, or not
abbrev pub saves : Host → Bool → Host
saves h true = record h { images = begun_images h.images true; saving = Some h.now }
saves h false = h

-- what the save under way holds reaches the disk
abbrev pub reached : Host → Option Value → Host
reached h (Some value) = record h { stored = value }
reached h None = h

-- the process is told that the save is stored
abbrev pub ended : Host → Option Value → Host
ended h (Some value) =
    record h { images = stored_images h.images; saving = None; stored = value }
ended h None = h

-- the process is told that the save failed
abbrev pub gives_up : Host → Option Value → Host
gives_up h (Some value) = record h { images = failed_images h.images; saving = None }
gives_up h None = h

-- another process goes on from what is stored
abbrev pub crashed : Host → Host
crashed h =
    record h {
      now = h.stored;
      due = 0;
      images = new_images;
      saving = None;
      waiting = [];
    }

-- An answer leaves if it may. (It may leave again: the network may repeat it.)
abbrev pub leaves : Host → Option Waiting → Host
leaves h (Some w) = cond (may_leave h.images w.due) (record h { left = w.answer ∷ h.left }) h
leaves h None = h

pub data Step : Type 0 where
  -- an opening comes, or a request for events, with this session and this number
  Open : ℕ → ℕ → Step
  Ask : ℕ → ℕ → Step
  -- another request with this session and this number comes, which changes nothing: it reads.
  -- (What else it shows may have to wait longer.)
  Read : ℕ → ℕ → Step
  -- the operator has the program forgotten
  Forget : Step
  -- something else of the node changes: a message comes, another program's request is performed
  Change : Step
  -- a save begins
  BeginSave : Step
  -- what it holds reaches the disk; the process isn't told yet, or never
  ReachDisk : Step
  -- the process is told that it is stored, or that it failed
  EndSave : Step
  FailSave : Step
  -- the process ends at any moment, and the next one begins with what is stored
  Crash : Step
  -- the answer in this place leaves, if it may
  Leave : ℕ → Step

abbrev pub step : Host → Step → Host
step h (Open session number) =
    after_open h session number (opening_of h.now.program session number)
step h (Ask session number) =
    after_ask h session number (request_of h.now.program session number)
step h (Read session number) = shows_program h session number Told
step h Forget = answers (becomes h (forgotten h.now.program) Forgot) 0 0 Forgets
step h Change = record h { images = changed_images h.images }
step h BeginSave = saves h (may_begin h.images)
step h ReachDisk = reached h h.saving
step h EndSave = ended h h.saving
step h FailSave = gives_up h h.saving
step h Crash = crashed h
step h (Leave place) = leaves h (slice_get h.waiting place)

abbrev pub run : Host → List Step → Host
run h [] = h
run h (s ∷ steps) = run (step h s) steps

-- the property holds after any steps of a program of a new node
abbrev pub OfEveryRun : (Host → Type 0) → Type 0
OfEveryRun P = (steps : List Step) → P (run new_host steps)
