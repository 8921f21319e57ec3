-- A seat that is the same as before, although it may know different things.
use Rattle.std.proofs.Common.{◌∙◌}
use Rattle.wire.specs.Readers.{IsSame, IsSeatOf}
use Rattle.wire.specs.declared.seats.NodeSeat.{NodeSeat}
use Rattle.wire.specs.declared.seats.Wire.{Wire}

pub still-of : (w : Wire) (s t : NodeSeat) → IsSeatOf w s → IsSame s t → IsSeatOf w t
still-of w s t of same = (same.0 ∙ of.0, same.3 ∙ of.1, same.4 ∙ of.2)

pub same-again : (r s t : NodeSeat) → IsSame r s → IsSame s t → IsSame r t
same-again r s t first next = (
  next.0 ∙ first.0,
  next.1 ∙ first.1,
  next.2 ∙ first.2,
  next.3 ∙ first.3,
  next.4 ∙ first.4,
)
