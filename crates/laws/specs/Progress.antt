-- Collection never gets stuck ("Progress" in docs/PROOF.md). Take a space after any list of steps.
-- The collector alone, by the moves of `Strategy`, ends the cycle's marking, has each node sweep
-- the cycle, and frees what was garbage. No step of it is refused, and the number of moves is
-- bounded, if no link runs out of numbers.
use Rattle.std.specs.Prelude.{◌≡◌, ◌⊎◌, ℕ, ◌+◌, ◌<◌, ◌≤◌, Bool, true, List, map}
use Rattle.std.specs.List.{range_with_len}
use Rattle.ids.specs.declared.names.Ref.{Ref}
use Rattle.ids.specs.declared.limits.TheConstants.{GREATEST_CYCLE}
use Rattle.model.specs.declared.age.Scope.{Scope}
use Rattle.model.specs.declared.step.Step.{Step}
use Rattle.model.specs.declared.event.Event.TheVariants as event
use Rattle.model.specs.declared.step.Step.TheVariants as step
use Rattle.model.specs.Collecting.{is_swept_everywhere}
use Rattle.model.specs.World.{World, run, happens}
use Rattle.model.specs.Cuts.{Cut, cut, IsLive}
use Rattle.model.specs.Agreement.{Terminated, OldGarbage}
use Rattle.laws.specs.Statements.{Garbage}
use Rattle.laws.specs.Strategy.{now, play, IsPlayed}
use Rattle.laws.specs.Bounds.{flight, work_left, whole_work, marking_moves, cycle_moves, both_moves, soon_moves, marking_room, cycle_room, both_room, soon_room, HasRoom}

abbrev pub current_cycle : World → ℕ
current_cycle w = (now w 0).local.phases.cycle

-- node 0 counts the cycle's marking as ended
pub record HasEnded (cycle : ℕ) (c : Cut) : Type 0 where
  pub current : (c 0).local.phases.cycle ≡ cycle
  pub ended : (c 0).local.phases.ended ≡ cycle

-- each node has swept the cycle, and node 0 was told so
pub record IsSwept (n cycle : ℕ) (c : Cut) : Type 0 where
  pub current : (c 0).local.phases.cycle ≡ cycle
  pub swept : (i : ℕ) → i < n → (c i).local.phases.swept ≡ cycle
  pub reported : is_swept_everywhere (c 0).local.phases ≡ true

-- After some number of moves, at most `most`, this is true of the current states.
pub record Comes (n most : ℕ) (w : World) (P : World → Type 0) : Type 0 where
  pub moves : ℕ
  pub few : moves ≤ most
  pub played : IsPlayed n moves w
  pub holds : P (play n moves w)

-- The cycle's marking ends. (Here and below, n is the number of nodes.)
abbrev pub MarkingCanEnd : ℕ → World → Type 0
MarkingCanEnd n w =
    HasRoom (marking_room n (now w)) (now w)
    → Comes n (marking_moves n (now w)) w (λ v. HasEnded (current_cycle w) (now v))

-- Each node sweeps the cycle.
abbrev pub CycleCanEnd : ℕ → World → Type 0
CycleCanEnd n w =
    HasRoom (cycle_room n (now w)) (now w)
    → Comes n (cycle_moves n (now w)) w (λ v. IsSwept n (current_cycle w) (now v))

-- Each node sweeps the next cycle too. Once each is saved after that, none of them has an object
-- that was garbage at the start, saved or not, in any choice of current and saved states.
abbrev pub saves : ℕ → List Step
saves n = map step.Save (range_with_len 0 n)

abbrev pub IsGone : World → World → Ref → Type 0
IsGone w v r =
    OldGarbage w r ⊎ Garbage w r → (choice : ℕ → Bool) → IsLive (cut v choice) r → ⊥

abbrev pub GarbageCanGo : ℕ → World → Type 0
GarbageCanGo n w =
    current_cycle w < GREATEST_CYCLE → HasRoom (both_room n (now w)) (now w)
    → Comes n (both_moves n (now w)) w
    (λ v. IsSwept n (current_cycle w + 1) (now v) × ((r : Ref) → IsGone w (run v (saves n)) r))

-- Once marking has terminated, node 0 finds that in three rounds of the token, if nothing else is
-- in flight.
abbrev pub EndIsFoundSoon : ℕ → World → Type 0
EndIsFoundSoon n w =
    Terminated n (current_cycle w) (now w) → HasRoom (soon_room n (now w)) (now w)
    → Comes n (soon_moves n (now w)) w (λ v. HasEnded (current_cycle w) (now v))

-- A Reclaim of either scope, or a Resolve, adds nothing to what bounds are made of, and takes no
-- number. Nor does it undo that marking has terminated.
pub record AddsNoWork (n : ℕ) (c d : Cut) : Type 0 where
  pub flight : flight n d ≤ flight n c
  pub left : work_left n d ≤ work_left n c
  pub whole : whole_work n d ≤ whole_work n c
  pub sent : (i : ℕ) → (d i).sent ≡ (c i).sent
  pub terminated : (cycle : ℕ) → Terminated n cycle c → Terminated n cycle d

-- So a node may reclaim between any two moves, and the bounds on these still hold.
abbrev pub ReclaimsAddNoWork : ℕ → World → Type 0
ReclaimsAddNoWork n w =
    (i : ℕ) (scope : Scope)
    → AddsNoWork n (now w) (now (happens w (step.Act i (event.Reclaim scope))))

abbrev pub ResolvesAddNoWork : ℕ → World → Type 0
ResolvesAddNoWork n w =
    (i register : ℕ) (r : Ref)
    → AddsNoWork n (now w) (now (happens w (step.Act i (event.Resolve register r))))
