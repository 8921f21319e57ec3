use Rattle.std.proofs.Common.{◌≡◌, ℕ, ◌+◌, ◌<◌, Some, slice_get}
use Rattle.restore_choice.specs.Choices.{IsAfter}
use Rattle.restore_choice.specs.declared.State.{State}
use Rattle.restore_choice.proofs.are_in_order.Given as goal

abbrev pub invariant-loop-at : goal.invariant-loop-at
invariant-loop-at l =
    (k : ℕ) (first second : State) → k + 1 < l.at → slice_get l.states k ≡ Some first
    → slice_get l.states (k + 1) ≡ Some second → IsAfter first second
