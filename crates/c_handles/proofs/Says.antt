-- What is said of the steps by which a world goes on.
use Rattle.std.proofs.Common.{◌≡◌, ◌≢◌, ℕ, ◌<◌, true, Bool, List, [], ◌∷◌, ◌++◌, Result, Ok, Err, ap, ◌∙◌}
use Rattle.std.proofs.lemmas.List.Elements.{filter-append}
use Rattle.ids.specs.declared.refusal.Refusal.{Refusal}
use Rattle.ids.specs.declared.refusal.Refusal.TheVariants.{LinkSpent, Memory}
use Rattle.model.specs.declared.event.Answer.{Answer}
use Rattle.model.specs.declared.event.Event.{Event}
use Rattle.model.specs.declared.event.Event.TheVariants as event
use Rattle.model.specs.declared.step.Step.{Step}
use Rattle.model.specs.declared.step.Step.TheVariants as step
use Rattle.model.specs.Cuts.{Among}
use Rattle.model.specs.World.{World, happens, outcome_of, run, take_step}
use Rattle.laws.specs.Objects.{Sight}
use Rattle.laws.specs.Sights.{choice_at_start, observed_in_cut}
use Rattle.laws.specs.Fairness.{HasTurn, is_turns}
use Rattle.laws.proofs.Told.{as_outcome, observed-append}
use Rattle.c_values.specs.declared.fault.Fault.{Fault}
use Rattle.c_values.specs.declared.fault.Fault.TheVariants as fault
use Rattle.c_handles.specs.Laws.{Telling, is_told, nothing_told, told_by, told_in, told_of_event, tolds}
use Rattle.c_handles.specs.Programs.{Act, Call, End, On, Work}
use Rattle.c_handles.proofs.Trails.{Did, IsTried}

abbrev pub Says : Type 1
Says = World → List Step → Type 0

-- in these steps programs are told this
abbrev pub tells : Telling → Says
tells told w later = (saved : ℕ → Bool) → tolds (observed_in_cut w later saved) ≡ told saved

-- a step of a turn that isn't refused because a link has no number left
abbrev pub IsTurn : World → Step → Type 0
IsTurn w s = (is_turns s ≡ true) × (outcome_of (take_step w s) ≢ Err LinkSpent)

abbrev pub AreTurns : Says
AreTurns w [] = Unit {0}
AreTurns w (s ∷ ss) = IsTurn w s × AreTurns (happens w s) ss

pub turns-on : (w : World) (a b : List Step) → AreTurns w a → AreTurns (run w a) b
    → AreTurns w (a ++ b)
turns-on w [] b first then = then
turns-on w (s ∷ ss) b first then = (first.0, turns-on (happens w s) ss b first.1 then)

-- programs are told nothing, and the steps are a turn's
abbrev pub quietly : Says
quietly w later = tells nothing_told w later × AreTurns w later

pub quiet-on : (w : World) (a b : List Step) → quietly w a → quietly (run w a) b
    → quietly w (a ++ b)
quiet-on w a b first then = (
  λ saved.
      ap tolds (observed-append w a b saved)
      ∙ filter-append is_told (observed_in_cut w a (choice_at_start b saved))
      (observed_in_cut (run w a) b saved)
      ∙ ap (λ (l : List Sight). l ++ tolds (observed_in_cut (run w a) b saved))
      (first.0 (choice_at_start b saved))
      ∙ then.0 saved,
  turns-on w a b first.1 then.1,
)

-- ---- an event of a node's own

-- the step of the event; none, if memory ran out; or, for Next, what brings the message in
pub data EventSteps (i : ℕ) (e : Event) (r : Result Answer Refusal) (w : World) : List Step → Type 0
  where
    made : outcome_of (take_step w (step.Act i e)) ≡ as_outcome r
        → EventSteps i e r w (step.Act i e ∷ [])
    unmade : r ≡ Err Memory → EventSteps i e r w []
    came_in : (later : List Step) (from : ℕ) → e ≡ event.Next from → AreTurns w later
        → EventSteps i e r w later

abbrev pub acted : ℕ → Event → Result Answer Refusal → Says
acted i e r w later = tells (told_of_event i e r) w later × EventSteps i e r w later

-- the same of a result as a call returns it
abbrev pub acted_by : ℕ → Event → Result Answer Fault → Says
acted_by i e (Ok a) = acted i e (Ok a)
acted_by i e (Err (fault.Refused x)) = acted i e (Err x)
acted_by i e (Err f) = quietly

pub acted-tells : (i : ℕ) (e : Event) (r : Result Answer Fault) (w : World) (later : List Step)
    → acted_by i e r w later → tells (told_by i e r) w later
acted-tells i e (Ok a) w later so = so.0
acted-tells i e (Err (fault.Refused x)) w later so = so.0
acted-tells i e (Err f) w later so = so.0

-- ---- events of a turn

-- a node's own event, but Next
abbrev pub IsActed : Event → Type 0
IsActed e = (from : ℕ) → e ≢ event.Next from

abbrev pub Tried : ℕ → List Did → List Step → Type 0
Tried i ds later =
    (d : Did) → Among d ds → IsTried d.result → IsActed d.event
    → Among (step.Act i d.event) later

abbrev pub trailed : ℕ → List Did → Says
trailed i ds w later = quietly w later × Tried i ds later

-- ---- each call

-- A turn's work that came to its end tries all.
abbrev pub HasWorked : ℕ → ℕ → ℕ → Result (Unit {0}) Fault → List Step → Type 0
HasWorked i scans slots r later = r ≡ Ok tt → 0 < scans → 0 < slots → HasTurn i later

abbrev pub worked : ℕ → ℕ → ℕ → Result (Unit {0}) Fault → Says
worked i scans slots r w later = quietly w later × HasWorked i scans slots r later

abbrev pub said_by : Call → Says
said_by (On i (Act e r)) = acted_by i e r
said_by (On i (Work scans slots work r)) = worked i scans slots r
said_by (End i) = tells nothing_told
said_by c = quietly

pub said-tells : (c : Call) (w : World) (later : List Step) → said_by c w later
    → tells (told_in c) w later
said-tells (On i (Act e r)) w later so = acted-tells i e r w later so
said-tells (On i (Work scans slots work r)) w later so = so.0.0
said-tells (On i d) w later so = so.0
said-tells (End i) w later so = so
said-tells c w later so = so.0
