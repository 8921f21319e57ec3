use Rattle.std.proofs.Common.{map, sym, subst}
use Rattle.wire.specs.declared.seats.Wire.{Wire}
use Rattle.cell.specs.Names.{IsNamed, name_of}
use Rattle.supervisor.specs.Opened.{AreSeats}
use Rattle.supervisor.proofs.cells.share_on.Goals as goal

pub share_all-requires-clause-name : goal.share_all-requires-clause-name
share_all-requires-clause-name g c =
    subst (λ (w : Wire). IsNamed g.W.Naming.wire (name_of w)) (sym c.in_ok-wire.ensures.ok)
    c.requires.name

pub share_all-requires-clause-seats : goal.share_all-requires-clause-seats
share_all-requires-clause-seats g c =
    subst (λ (w : Wire). AreSeats w (map (λ y. y.seat) c.args.cells.items))
    (sym c.in_ok-wire.ensures.ok) c.requires.seats

pub share_all-requires-clause-begun : goal.share_all-requires-clause-begun
share_all-requires-clause-begun g c = c.requires.begun
