use Rattle.std.proofs.Common.{◌≡◌, ◌++◌, map, take, drop}
use Rattle.world.specs.Outboxes.{all_released}
use Rattle.world.proofs.outbox.release_staged.Given as goal

abbrev pub invariant-loop-outbox : goal.invariant-loop-outbox
invariant-loop-outbox l = l.row ≡ map all_released (take l.outbox-index l.initial.row) ++ drop
    l.outbox-index l.initial.row
