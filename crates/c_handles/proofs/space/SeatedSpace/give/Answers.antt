use Rattle.std.proofs.Common.{ℕ, Some, ap, arith, refl, slice_set}
use Rattle.c_handles.proofs.space.SeatedSpace.give.Goals as goal

pub returns : goal.returns
returns c =
    let old = c.args.self.now in
    record {
      shut = c.if-self.false;
      inside = omega (arith, c.if-node-nodes.false, c.nodes.ensures.value);
      image = c.in_ok-image.image;
      copied = c.in_ok-image.ensures.same;
      images = ap (λ (k : ℕ). slice_set old.images.items k (Some c.in_ok-image.image))
          c.from.ensures;
      sizes = record { shape = refl; watches = refl; open_still = refl };
      cells = refl;
      watching = refl;
    }
