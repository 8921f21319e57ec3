use Rattle.std.proofs.Common.{rules, ◌%◌, ◌∷◌, [], List, length, ap, ◌∙◌, arith}
use Rattle.std.proofs.Math.ListN.{length-append}
use Rattle.arena.specs.Row.{row}
use Rattle.arena.specs.Chunked.{chunks_of, flat, HasRoom}
use Rattle.arena.specs.declared.root.TheConstants.{CHUNK}
use Rattle.arena.proofs.Reach.{added}
use Rattle.arena.proofs.store.Store.push_chunk.Goals as goal

pub invariant_of-self-2 : goal.invariant_of-self-2
invariant_of-self-2 g c =
    let full = rw (← c.self.view_is) at c.requires in
    let has : HasRoom c.make_room.new.self (chunks_of c.self.inside.root) = search rules in
    let grown = added c.self.inside.root c.self.invariant.1 has c.chunks_mut.ensures.value
    c.self.invariant.0 (ap (λ n. n % CHUNK) c.self.invariant.0 ∙ full) c.args.item
    c.in_ok-add_chunk.ensures.done in
    let items = flat (chunks_of c.self.inside.root) in
    let long = ap length grown.0 ∙ length-append items (c.args.item ∷ []) in
    (omega (arith, long, c.self.invariant.0), grown.1)

pub returns-clause-done : goal.returns-clause-done
returns-clause-done g c =
    let full = rw (← c.self.view_is) at c.requires in
    let has : HasRoom c.make_room.new.self (chunks_of c.self.inside.root) = search rules in
    let grown = added c.self.inside.root c.self.invariant.1 has c.chunks_mut.ensures.value
    c.self.invariant.0 (ap (λ n. n % CHUNK) c.self.invariant.0 ∙ full) c.args.item
    c.in_ok-add_chunk.ensures.done in
    rw (← c.self.view_is) (ap (λ (xs : List g.row.E.Denot). row xs c.self.inside.capacity) grown.0)
