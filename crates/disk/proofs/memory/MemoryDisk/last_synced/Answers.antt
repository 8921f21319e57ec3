use Rattle.std.proofs.Common.{arith}
use Rattle.disk.specs.Record.{areas_of}
use Rattle.disk.proofs.Undoing.{undone_next}
use Rattle.disk.proofs.memory.MemoryDisk.last_synced.Goals as goal

pub loop-left-preserved : goal.loop-left-preserved
loop-left-preserved c =
    let left = c.loop-left.left in
    let disk = c.args.self.now in (
      omega (arith, c.loop-left.invariant.0),
      undone_next left disk.undo.items (areas_of c.loop-left.last) c.loop-left-test.true
          c.loop-left.invariant.0 c.index.ensures c.in_ok-undo.ensures c.loop-left.invariant.1,
    )
