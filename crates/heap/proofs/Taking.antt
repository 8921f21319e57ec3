-- A letter is taken into one register after the other.
use Rattle.std.proofs.Common.{◌≡◌, ℕ, suc, ◌+◌, ◌-◌, ◌<◌, ap, arith}
use Rattle.model.specs.State.{Heap}
use Rattle.model.specs.Heaps.{letter_taken, letters_taken}
use Rattle.heap.specs.Heap.{HeapView, KeepsRoom}

-- the next step of a loop
pub taken-next : (n i : ℕ) (h : Heap) (r : ℕ) → i < n
    → letters_taken (n - i) h (r + i)
    ≡ letters_taken (n - (i + 1)) (letter_taken h (r + i)) (r + (i + 1))
taken-next n i h r more =
    let left : n - i ≡ suc (n - (i + 1)) = omega (arith, more) in
    let next : suc (r + i) ≡ r + (i + 1) = omega arith in
    rw left (ap (letters_taken (n - (i + 1)) (letter_taken h (r + i))) next)

pub room-both : {a b c : HeapView} → KeepsRoom a b → KeepsRoom b c → KeepsRoom a c
room-both one two = record {
  room = omega (arith, one.room, two.room);
  letter_room = omega (arith, one.letter_room, two.letter_room);
}
