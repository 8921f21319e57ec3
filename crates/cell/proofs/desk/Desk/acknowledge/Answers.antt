use Rattle.std.proofs.Common.{sym, subst}
use Rattle.std.proofs.Math.Logic.{∥∥₁_map}
use Rattle.wire.specs.Readers.{known}
use Rattle.cell.specs.Desks.{AreTaken}
use Rattle.cell.proofs.Seats.{facts}
use Rattle.cell.proofs.Standing.{stands-acknowledged}
use Rattle.cell.proofs.desk.Desk.acknowledge.Goals as goal

pub invariant_of-self-inside : goal.invariant_of-self-inside
invariant_of-self-inside c =
    let desk = c.self.inside in
    let pair = (known desk.seat).pair in
    let said = c.act.ensures.acted.acts in
    facts desk.at
    (stands-acknowledged c.args.ack c.act.result desk.stands said.leaves
    (said.states pair.current desk.stands.shows) said.unchanged)
    desk.was desk.ended_is desk.unsaved
    (subst (AreTaken (known desk.seat).taken) (sym said.early) desk.taken)
    (∥∥₁_map desk.led (c.act.ensures.logged desk.saved.value))
