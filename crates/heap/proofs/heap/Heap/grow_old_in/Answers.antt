use Rattle.std.proofs.Common.{sym, ◌∙◌}
use Rattle.heap.proofs.Ages.{IsAt, aged-stored, aged-is}
use Rattle.heap.proofs.heap.Heap.grow_old_in.Goals as goal

pub invariant_of-self : goal.invariant_of-self
invariant_of-self c =
    let at : IsAt c.self.inside c.args.slot c.in-Some.key c.in-Some-get_mut.object.now =
    record {
      named = sym c.in-Some.is ∙ c.key_at.ensures;
      there = c.in-Some-get_mut.ensures.value;
    } in
    aged-is _ at c.grow_old.ensures c.self.invariant

pub returns-in-Some-get_mut : goal.returns-in-Some-get_mut
returns-in-Some-get_mut c =
    let at : IsAt c.self.inside c.args.slot c.in-Some.key c.in-Some-get_mut.object.now =
    record {
      named = sym c.in-Some.is ∙ c.key_at.ensures;
      there = c.in-Some-get_mut.ensures.value;
    } in
    rw (← c.self.view_is)
    (aged-stored c.self.inside c.args.slot c.in-Some.key _ _ at c.grow_old.ensures)
