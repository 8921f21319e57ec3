use Rattle.std.proofs.Common.{refl}
use Rattle.arena.proofs.Chains.{lends}
use Rattle.arena.proofs.Arena.value_mut.Goals as goal

pub invariant_of-self-lent : goal.invariant_of-self-lent
invariant_of-self-lent g c w =
    let there = rw (← c.self.view_is) at c.requires in
    let read = c.get_mut-entry.ensures.value in
    (lends c.self.invariant c.args.key _ w there read).linked

pub returns : goal.returns
returns g c =
    let there = rw (← c.self.view_is) at c.requires in
    let read = c.get_mut-entry.ensures.value in
    let v = c.value_mut.result.now in
    let lent = lends c.self.invariant c.args.key _ v there read in (
      (
        refl,
        λ w. rw (← c.self.view_is)
            (lends c.self.invariant c.args.key _ w there read).done,
      ),
      record {
        writes_back = tt;
        value = rw (← c.self.view_is) (lent.value v c.value_mut.ensures.value);
      },
    )
