use Rattle.std.proofs.Common.{◌≡◌, ℕ, ◌-◌, ◌<◌, ◌≤◌, false}
use Rattle.heap.specs.Blocks.{is_flagged}
use Rattle.heap.proofs.blocks.Blocks.next.Given as goal

-- the slots that were passed over are in blocks without a flag
abbrev pub invariant-loop-next : goal.invariant-loop-next
invariant-loop-next l =
    record {
      after : l.slot ≤ l.next;
      within : l.next ≤ l.end;
      skips : (k : ℕ) → l.slot ≤ k → k < l.next → is_flagged l.self k ≡ false;
    }

abbrev pub decreases-loop-next : goal.decreases-loop-next
decreases-loop-next l = l.end - l.next
