use Rattle.std.proofs.Common.{◌≡◌, ◌≤◌, ℕ, length, vec_capacity, Some, slice_get}
use Rattle.wire.specs.declared.seats.Watch.{Watch}
use Rattle.wire.specs.Readers.{IsDealer, IsFreshWatch}
use Rattle.wire.proofs.seats.Wire.watches.Given as goal

abbrev pub invariant-loop : goal.invariant-loop
invariant-loop l =
    (length l.watching.items ≡ l.counter) × (l.fn.count ≤ vec_capacity l.watching)
    × IsDealer l.self l.self.nodes l.dealer
    × ((k : ℕ) (x : Watch) → slice_get l.watching.items k ≡ Some x → IsFreshWatch l.self x)
