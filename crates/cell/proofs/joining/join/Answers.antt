use Rattle.std.proofs.Common.{List, subst, sym}
use Rattle.node.specs.Keeping.{WholeNode}
use Rattle.wire.specs.Readers.{AreOpened, IsMade}
use Rattle.wire.specs.declared.seats.NodeSeat.{NodeSeat}
use Rattle.cell.specs.Opened.{cores}
use Rattle.cell.proofs.Ready.{made-ready}
use Rattle.cell.proofs.joining.join.Goals as goal

pub new-requires : goal.new-requires
new-requires g c =
    subst (λ (l : List WholeNode). AreOpened c.args.shape (cores l) g.opening)
    (sym c.as_slice.ensures.value) c.requires.1.0

pub seat_all-requires : goal.seat_all-requires
seat_all-requires g c = made-ready c.requires.1.0 c.requires.1.1 c.in_ok-wire.ensures.made

pub returns-clause-made : goal.returns-clause-made
returns-clause-made g c =
    subst (λ (l : List NodeSeat).
    IsMade g.opening c.args.watches c.in_ok-wire.wire l c.in_ok-wire.watching.items)
    (sym c.in_ok-cells.ensures.seats) c.in_ok-wire.ensures.made
