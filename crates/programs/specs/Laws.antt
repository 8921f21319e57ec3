-- The theorems. Each holds after any steps of `Runs`.
use Rattle.std.specs.Prelude.{◌≡◌, ◌≢◌, ◌↔◌, ◌<◌, ◌+◌, ℕ, zero, suc, List, [], ◌∷◌, ◌++◌, Option, Some, None, slice_get}
use Rattle.std.specs.List.{Contains}
use Rattle.programs.specs.declared.images.TheConstants.{NEVER}
use Rattle.programs.specs.declared.program.Opening.TheVariants as opening
use Rattle.programs.specs.declared.program.Request.TheVariants as request
use Rattle.programs.specs.Decisions.{opened, opening_of, performed, request_of, IsSession, SpeaksFor}
use Rattle.programs.specs.Runs.{run, step, Deed, Opened, Performed, Forgot, Value, IsPast, Speaks, Done, Answer, Host, Waiting, Open, Ask, BeginSave, EndSave, FailSave, Leave, Step}

-- ---- once, in order

-- the numbers of the requests that were performed, the last one first
abbrev pub requests_of : List Deed → List ℕ
requests_of [] = []
requests_of (Opened session number ∷ ds) = requests_of ds
requests_of (Performed session number ∷ ds) = number ∷ requests_of ds
requests_of (Forgot ∷ ds) = requests_of ds

-- the numbers of the openings that were taken, the last one first
abbrev pub openings_of : List Deed → List ℕ
openings_of [] = []
openings_of (Opened session number ∷ ds) = number ∷ openings_of ds
openings_of (Performed session number ∷ ds) = openings_of ds
openings_of (Forgot ∷ ds) = openings_of ds

-- n, n - 1, and so on down to 1
abbrev pub count_down : ℕ → List ℕ
count_down zero = []
count_down (suc n) = suc n ∷ count_down n

-- the process that speaks after these deeds: that of the last opening, unless the program was
-- forgotten since
abbrev pub speaker : List Deed → Option ℕ
speaker [] = None
speaker (Opened session number ∷ ds) = Some session
speaker (Performed session number ∷ ds) = speaker ds
speaker (Forgot ∷ ds) = None

-- What was done for a program, in some value.
pub record IsInOrder (v : Value) : Type 0 where
  -- the requests from 1 up to the program's number were performed, in order, each once
  pub requests : requests_of v.done ≡ count_down v.program.number
  -- the openings from 1 up to its round were taken, in order, each once
  pub openings : openings_of v.done ≡ count_down v.program.round
  -- each request was performed for the process that spoke for the program then
  pub speakers : (newer older : List Deed) (session number : ℕ)
      → v.done ≡ newer ++ Performed session number ∷ older → speaker older ≡ Some session
  -- Once another process has opened the program, no request of an earlier one is performed, unless
  -- that one opens it again.
  pub superseded : (newer between older : List Deed) (session number other round : ℕ)
      → v.done ≡ newer ++ Performed session number ∷ between ++ Opened other round ∷ older
      → session ≢ other → (again : ℕ) × Contains between (Opened session again)

-- The requests are performed once and in order, in the present state, in what the save under way
-- holds, and in what is stored. What is stored is a part of the past.
pub record AreInOrder (h : Host) : Type 0 where
  pub now : IsInOrder h.now
  pub saving : (v : Value) → h.saving ≡ Some v → IsInOrder v × IsPast v.done h.now.done
  pub stored : IsInOrder h.stored
  pub past : IsPast h.stored.done h.now.done

-- ---- what was answered stays

-- What an answer shows that has left is stored. It stays stored whatever follows, also crashes, and
-- is a part of the past of every later state.
abbrev pub AnswersStay : Host → Type 0
AnswersStay h =
    (a : Answer) → Contains h.left a → (more : List Step)
    → IsPast a.shows (run h more).stored.done × IsPast a.shows (run h more).now.done

-- A request that was answered as done has been performed: in the state that the answer shows, and
-- for the process that is answered, or else for an earlier one, before this one opened the program.
-- Whatever follows, that is the one request with its number that has been performed.
pub record IsDoneOnce (h : Host) (a : Answer) : Type 0 where
  pub performer : ℕ
  pub shown : Contains a.shows (Performed performer a.number)
  pub asked : speaker a.shows ≡ Some a.session
  pub last : (rest : List ℕ) × requests_of a.shows ≡ a.number ∷ rest
  pub once : (more : List Step) (other : ℕ)
      → Contains (run h more).now.done (Performed other a.number) ↔ (other ≡ performer)

abbrev pub DoneIsDoneOnce : Host → Type 0
DoneIsDoneOnce h =
    (a : Answer) → Contains h.left a → a.says ≡ Done → IsDoneOnce h a

-- A process that was answered that it speaks for the program has opened it, and this stays known.
-- That opening is never taken again: not even after another process has opened the program.
pub record IsOpenedOnce (h : Host) (a : Answer) : Type 0 where
  pub number : ℕ
  pub asked : speaker a.shows ≡ Some a.session
  pub known : (more : List Step) → Contains (run h more).stored.done (Opened a.session number)
  pub late : (more : List Step)
      → opening_of (run h more).now.program a.session number ≢ opening.New

abbrev pub OpeningsStay : Host → Type 0
OpeningsStay h = (a : Answer) → Contains h.left a → a.says ≡ Speaks → IsOpenedOnce h a

-- An opening that was taken is refused once another process speaks for the program.
abbrev pub LateOpeningsFail : Host → Type 0
LateOpeningsFail h =
    (session number : ℕ) → Contains h.now.done (Opened session number)
    → session ≢ h.now.program.session
    → opening_of h.now.program session number ≡ opening.Stale

-- ---- what is refused changes nothing

-- An answer waits that didn't before. All else is the same.
pub record OnlyAnswers (before after : Host) : Type 0 where
  pub waiting : Waiting
  pub is : after ≡ record before { waiting = waiting ∷ before.waiting }

-- A request that is not the next one changes nothing, nor does an opening that is not a new one.
pub record RefusedChangeNothing (h : Host) : Type 0 where
  pub requests : (session number : ℕ)
      → request_of h.now.program session number ≢ request.Next
      → OnlyAnswers h (step h (Ask session number))
  pub openings : (session number : ℕ)
      → opening_of h.now.program session number ≢ opening.New
      → OnlyAnswers h (step h (Open session number))

-- ---- what is asked is done

-- The process that speaks for the program has its next request performed. Once the save that begins
-- next is stored, the answer may leave.
pub record NextIsDone (h : Host) : Type 0 where
  pub performed : (session : ℕ) → SpeaksFor h.now.program session
      → (step h (Ask session (h.now.program.number + 1))).now
      ≡ record {
        program = performed h.now.program;
        done = Performed session (h.now.program.number + 1) ∷ h.now.done;
      }
  pub answered : (session : ℕ) → SpeaksFor h.now.program session → h.images.taken + 2 < NEVER
      → Contains
      (run h
      (Ask session (h.now.program.number + 1)
      ∷ FailSave
      ∷ BeginSave
      ∷ EndSave
      ∷ Leave 0
      ∷ [])).left
      (record {
        session = session;
        number = h.now.program.number + 1;
        says = Done;
        shows = Performed session (h.now.program.number + 1) ∷ h.now.done;
      })

-- A process with a session of its own begins to speak for the program by the next number, and then
-- the requests of this process are performed.
abbrev pub NewIsOpened : Host → Type 0
NewIsOpened h =
    (session : ℕ) → IsSession session → session ≢ h.now.program.session
    → ((step h (Open session (h.now.program.round + 1))).now
    ≡ record {
      program = opened h.now.program session;
      done = Opened session (h.now.program.round + 1) ∷ h.now.done;
    })
    × SpeaksFor (step h (Open session (h.now.program.round + 1))).now.program session

-- Each answer that waits may leave once the next save is stored. (Numbers must be left.)
abbrev pub AnswersLeave : Host → Type 0
AnswersLeave h =
    (place : ℕ) (w : Waiting) → slice_get h.waiting place ≡ Some w
    → h.images.taken + 2 < NEVER
    → Contains (run h (FailSave ∷ BeginSave ∷ EndSave ∷ Leave place ∷ [])).left w.answer
