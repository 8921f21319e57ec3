-- Worked examples of what programs observe. First come runs of two steps; then a run with a restart
-- and a sweep, and its sights in two cuts. The restart undoes what node 1 received first. Nothing
-- is seen of the collector, and what came after a save isn't in the saved state.
use Rattle.std.proofs.Common.{◌≡◌, Bool, true, false, List, [], ◌∷◌, ◌++◌, Some, Ok, Err, refl}
use Rattle.std.specs.Int.{int_wrap}
use Rattle.ids.specs.declared.refusal.Refusal.TheVariants.{EmptyRegister}
use Rattle.model.specs.declared.event.Event.TheVariants as event
use Rattle.model.specs.declared.event.Answer.TheVariants as answer
use Rattle.model.specs.declared.step.Step.{Step}
use Rattle.model.specs.declared.step.Step.TheVariants as step
use Rattle.model.specs.Counting.{append, announce}
use Rattle.model.specs.Shading.{make_grey, see_to, enter, join}
use Rattle.model.specs.Collecting.{probe, begun, conclude, passed, free_one, swept_slots}
use Rattle.model.specs.Steps.{act, receive, count_in, take_body, settled, taken_in}
use Rattle.model.specs.World.{take_step, new_world}
use Rattle.laws.specs.Objects.{new_space, Sight, told, came, IsRun}
use Rattle.laws.specs.Sights.{observed_in_cut}
use Rattle.laws.proofs.rows.Rows.{object, space, alloc, drop_register, give, accept, made, sent, letter, received, done, refused, accepted}
use Rattle.laws.proofs.rows.Words.{begin_cycle, sweep_slots, save, restart, deliver, ok, began, freed_done, Row, ◌gives◌, ◌shows◌, Prints, handed_over}
use Rattle.laws.proofs.rows.CycleRows.{two_probes}

-- ---- two steps

abbrev in_cut_of : List Step → Bool → List Sight
in_cut_of steps saved = observed_in_cut (new_world (space 2 4 16)) steps (λ _. saved)

abbrev object_made : List Sight
object_made = told 0 (event.Alloc 0 1) (Ok (answer.New (object 0 0 1))) ∷ []

-- the restart takes the object back
pub made-restarted : (in_cut_of (alloc 0 0 1 ∷ restart 0 ∷ []) false ≡ [])
    × (in_cut_of (alloc 0 0 1 ∷ restart 0 ∷ []) true ≡ [])
unfolding take_step act
made-restarted = (refl, refl)

-- the saved state has the object too
pub made-saved : (in_cut_of (alloc 0 0 1 ∷ save 0 ∷ []) false ≡ object_made)
    × (in_cut_of (alloc 0 0 1 ∷ save 0 ∷ []) true ≡ object_made)
unfolding take_step act
made-saved = (refl, refl)

-- only the current state has it
pub saved-made : (in_cut_of (save 0 ∷ alloc 0 0 1 ∷ []) false ≡ object_made)
    × (in_cut_of (save 0 ∷ alloc 0 0 1 ∷ []) true ≡ [])
unfolding take_step act
saved-made = (refl, refl)

-- ---- many steps

abbrev rows : List Row
rows =
    handed_over 0 1 1 7 0
    ++ restart 1 gives done
    ∷ deliver 0 1 1 gives received
    ∷ accept 1 1 gives letter 0 7 (object 0 0 1)
    ∷ give 1 0 8 0 gives sent 1
    ∷ drop_register 1 1 gives ok
    ∷ save 1 gives done
    ∷ deliver 1 0 1 gives received
    ∷ begin_cycle 0 gives began 1
    ∷ two_probes 1 2 2
    ++ sweep_slots 0 16 gives freed_done 1
    ∷ step.Act 0 (event.Word 0) gives refused EmptyRegister
    ∷ alloc 0 0 0 gives made (object 0 0 2)
    ∷ []

pub sights-print : Prints (space 2 4 16) rows
unfolding int_wrap take_step act receive append announce see_to make_grey enter join begun probe
    conclude passed free_one swept_slots count_in take_body settled taken_in
sights-print = refl

abbrev steps_in : List Row → List Step
steps_in [] = []
steps_in (s gives r ∷ rs) = s ∷ steps_in rs
steps_in (i shows n ∷ rs) = steps_in rs

-- node 0 gives node 1 its object
abbrev given : List Sight
given =
    told 0 (event.Alloc 0 1) (Ok (answer.New (object 0 0 1)))
    ∷ told 0 (event.Give 1 7 0) (Ok (answer.Sent 1))
    ∷ told 0 (event.Drop 0) (Ok answer.Done)
    ∷ came 0 1
    ∷ []

-- the sights up to the last saves
abbrev before_saves : List Sight
before_saves =
    given
    ++ told 1 (event.Accept 1)
    (Ok (answer.Letter (accepted 0 7 (Some (object 0 0 1)))))
    ∷ told 1 (event.Give 0 8 0) (Ok (answer.Sent 1))
    ∷ told 1 (event.Drop 1) (Ok answer.Done)
    ∷ came 1 0
    ∷ []

-- what the restart undid can't be seen together with what came after it: the one message comes once
pub not-twice : IsRun (space 2 4 16) (new_space (space 2 4 16)) (
    given
    ++ told 1 (event.Accept 0)
    (Ok (answer.Letter (accepted 0 7 (Some (object 0 0 1)))))
    ∷ came 0 1
    ∷ []) → ⊥
not-twice run = run.1.1.1.1.1.0.2 refl

abbrev after_sweep : List Sight
after_sweep =
    told 0 (event.Word 0) (Err EmptyRegister)
    ∷ told 0 (event.Alloc 0 0) (Ok (answer.New (object 0 0 2)))
    ∷ []

pub saved-sights : observed_in_cut (new_world (space 2 4 16)) (steps_in rows) (λ _. true)
    ≡ before_saves
unfolding int_wrap take_step act receive append announce see_to make_grey enter join begun probe
    conclude passed free_one swept_slots count_in take_body settled taken_in
saved-sights = refl

pub current-sights : observed_in_cut (new_world (space 2 4 16)) (steps_in rows) (λ _. false)
    ≡ before_saves ++ after_sweep
unfolding int_wrap take_step act receive append announce see_to make_grey enter join begun probe
    conclude passed free_one swept_slots count_in take_body settled taken_in
current-sights = refl
