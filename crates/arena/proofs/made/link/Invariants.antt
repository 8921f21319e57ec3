use Rattle.std.proofs.Common.{◌≡◌, ◌≤◌, ◌+◌, drop, length, map, count_by}
use Rattle.arena_slot.specs.Entry.{slot_of, is_unlinked}
use Rattle.arena.specs.Made.{IsLinking}
use Rattle.arena.proofs.made.link.Given as goal

abbrev pub invariant-loop-left : goal.invariant-loop-left
invariant-loop-left g l = record {
  left : l.left ≤ length l.free;
  linking : IsLinking l.entries.items (drop l.left l.free) l.first;
  slots : map slot_of l.entries.items ≡ map slot_of l.fn.entries.items;
  capacity : l.entries.capacity ≡ l.fn.entries.capacity;
  counted : count_by is_unlinked l.entries.items + length l.free
      ≡ count_by is_unlinked l.fn.entries.items + l.left;
}

abbrev pub decreases-loop-left : goal.decreases-loop-left
decreases-loop-left g l = l.left
