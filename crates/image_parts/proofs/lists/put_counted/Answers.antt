use Rattle.std.proofs.Common.{refl}
use Rattle.codec.proofs.Writing.{uncounted}
use Rattle.image_parts.proofs.lists.put_counted.Goals as goal

pub returns-else-count : goal.returns-else-count
returns-else-count g c =
    uncounted _ _ _ (c.count.ensures.over c.if-count.false) refl g.met.T.Writable.long
