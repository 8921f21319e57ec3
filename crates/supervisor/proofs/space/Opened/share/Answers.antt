use Rattle.std.proofs.Common.{◌∙◌, ap, subst, sym}
use Rattle.wire.specs.Readers.{opened_with}
use Rattle.wire.specs.Rule.{nodes_of}
use Rattle.wire.specs.declared.seats.Wire.{Wire}
use Rattle.supervisor.specs.Opened.{AreWatches}
use Rattle.supervisor.proofs.space.Opened.share.Goals as goal

pub invariant_of-result : goal.invariant_of-result
invariant_of-result g c =
    let opened = c.args.self in
    let same = c.in_ok-wire.ensures.wire in
    record {
      each = c.in_ok-wire.ensures.count ∙ opened.each;
      some = opened.some;
      wide = ap (λ (w : Wire). nodes_of (opened_with w)) same ∙ opened.wide;
      of = subst (λ (w : Wire). AreWatches w opened.watches.items) (sym same) opened.of;
      planned = λ t is. absurd cc;
    }

pub share_on-requires-clause-begun : goal.share_on-requires-clause-begun
share_on-requires-clause-begun g c = c.args.self.begun
