use Rattle.std.proofs.Common.{◌∙◌, sym, refl}
use Rattle.node.specs.Inside.{view_of}
use Rattle.node.proofs.Sharing.{node-reclaims, plain-refused}
use Rattle.node.proofs.Sound.{heap-back, sound-heap}
use Rattle.node.proofs.node_core.Core.reclaim.Goals as goal

pub invariant_of-self : goal.invariant_of-self
invariant_of-self c = heap-back c.self.invariant c.in_err-freed.ensures.unchanged

pub invariant_of-self-2 : goal.invariant_of-self-2
invariant_of-self-2 c =
    sound-heap c.self.invariant
    (node-reclaims _ c.args.scope c.self.invariant.node c.in_ok-freed.ensures.done)
    c.in_ok-freed.ensures.limit

pub returns-then-not-is_wide : goal.returns-then-not-is_wide
returns-then-not-is_wide c = record {
  performs = rw (← c.self.view_is)
      (plain-refused (view_of c.self.inside) c.args.scope c.self.invariant.node
      (sym c.is_wide.ensures.value ∙ c.if-not-is_wide.true));
  unchanged = refl;
}
