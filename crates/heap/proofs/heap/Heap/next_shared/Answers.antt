use Rattle.model.specs.Reclaiming.{is_recent}
use Rattle.model.proofs.Seeing.{old-unshared}
use Rattle.heap.specs.Blocks.{Covers}
use Rattle.heap.proofs.Flags.{unflagged}
use Rattle.heap.proofs.heap.Heap.next_shared.Goals as goal

pub returns-in-Young-clause-skips : goal.returns-in-Young-clause-skips
returns-in-Young-clause-skips c k from to =
    let h = c.args.self.now.heap in
    let covers : Covers is_recent c.self.inside.recent h.slots =
    rw (← c.self.view_is) c.self.invariant.recent in
    rw (c.in-Young.is)
    (old-unshared h k (unflagged covers k (c.next-in-Young.ensures.skips k from to)))
