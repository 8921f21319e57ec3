use Rattle.std.proofs.Common.{◌<◌, ◌%◌, ◌∷◌, [], List, length, ap, ◌∙◌}
use Rattle.std.proofs.Common.{arith}
use Rattle.std.proofs.Math.ListN.{length-append}
use Rattle.arena.specs.Row.{row}
use Rattle.arena.specs.Chunked.{chunks_of, flat}
use Rattle.arena.specs.declared.root.TheConstants.{CHUNK}
use Rattle.arena.proofs.Reach.{at_last, in_last}
use Rattle.arena.proofs.store.Store.push.Goals as goal

pub get_mut-chunk-requires : goal.get_mut-chunk-requires
get_mut-chunk-requires g c =
    let some : 0 < c.self.inside.len % CHUNK = omega (arith, c.if-self-eq0.false) in
    at_last c.chunks_mut-chunks.ensures.value c.self.invariant.1 _ c.self.invariant.0 some

pub push-requires : goal.push-requires
push-requires g c =
    let some : 0 < c.self.inside.len % CHUNK = omega (arith, c.if-self-eq0.false) in
    (in_last c.chunks_mut-chunks.ensures.value c.self.invariant.1 _ c.self.invariant.0 some _
    c.get_mut-chunk.ensures.value c.args.item).room

pub invariant_of-self : goal.invariant_of-self
invariant_of-self g c =
    let some : 0 < c.self.inside.len % CHUNK = omega (arith, c.if-self-eq0.false) in
    let there = in_last c.chunks_mut-chunks.ensures.value c.self.invariant.1 _ c.self.invariant.0
    some _ c.get_mut-chunk.ensures.value c.args.item in
    let items = flat (chunks_of c.self.inside.root) in
    let long = ap length there.items ∙ length-append items (c.args.item ∷ []) in
    rw (c.push.ensures) ((omega (arith, long, c.self.invariant.0), there.still))

pub returns-clause-done : goal.returns-clause-done
returns-clause-done g c =
    let some : 0 < c.self.inside.len % CHUNK = omega (arith, c.if-self-eq0.false) in
    let there = in_last c.chunks_mut-chunks.ensures.value c.self.invariant.1 _ c.self.invariant.0
    some _ c.get_mut-chunk.ensures.value c.args.item in
    rw (← c.self.view_is, c.push.ensures)
    (ap (λ (xs : List g.row.E.Denot). row xs c.self.inside.capacity) there.items)
