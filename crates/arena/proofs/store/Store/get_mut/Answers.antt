use Rattle.std.proofs.Common.{List, length, refl, sym, ap, ◌∙◌}
use Rattle.std.proofs.lemmas.List.{length-set}
use Rattle.arena.specs.Row.{row}
use Rattle.arena.proofs.Reach.{at_chunk, at_item}
use Rattle.arena.proofs.store.Store.get_mut.Goals as goal

pub get_mut-chunk-requires : goal.get_mut-chunk-requires
get_mut-chunk-requires g c =
    at_chunk c.chunks_mut-chunks.ensures.value c.self.invariant.1 c.args.index
    (rw (← c.self.view_is) at c.requires)

pub get_mut-requires : goal.get_mut-requires
get_mut-requires g c =
    let below = rw (← c.self.view_is) at c.requires in
    (at_item c.chunks_mut-chunks.ensures.value c.self.invariant.1 c.args.index below _
    c.get_mut-chunk.ensures.value).within

pub invariant_of-self-lent : goal.invariant_of-self-lent
invariant_of-self-lent g c w =
    let below = rw (← c.self.view_is) at c.requires in
    let there = at_item c.chunks_mut-chunks.ensures.value c.self.invariant.1 c.args.index below _
    c.get_mut-chunk.ensures.value in
    (c.self.invariant.0 ∙ sym (ap length (there.write w) ∙ length-set _ _ w), there.still w)

pub returns : goal.returns
returns g c =
    let below = rw (← c.self.view_is) at c.requires in
    let there = at_item c.chunks_mut-chunks.ensures.value c.self.invariant.1 c.args.index below _
    c.get_mut-chunk.ensures.value in (
      (
        refl,
        λ w. rw (← c.self.view_is)
            (ap (λ (xs : List g.row.E.Denot). row xs c.self.inside.capacity) (there.write w)),
      ),
      record {
        writes_back = tt;
        value =
            rw (← c.self.view_is) (there.read _ c.get_mut.ensures.value);
      },
    )
