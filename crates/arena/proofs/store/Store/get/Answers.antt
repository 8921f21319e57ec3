use Rattle.arena.proofs.Reach.{at_chunk, at_item}
use Rattle.arena.proofs.store.Store.get.Goals as goal

pub get-chunk-requires : goal.get-chunk-requires
get-chunk-requires g c =
    at_chunk c.chunks-chunks.ensures c.self.invariant.1 c.args.index
    (rw (← c.self.view_is) at c.requires)

pub get-requires : goal.get-requires
get-requires g c =
    let below = rw (← c.self.view_is) at c.requires in
    (at_item c.chunks-chunks.ensures c.self.invariant.1 c.args.index below _
    c.get-chunk.ensures).within

pub returns : goal.returns
returns g c =
    let below = rw (← c.self.view_is) at c.requires in
    rw (← c.self.view_is)
    ((at_item c.chunks-chunks.ensures c.self.invariant.1 c.args.index below _
    c.get-chunk.ensures).read _ c.get.ensures)
