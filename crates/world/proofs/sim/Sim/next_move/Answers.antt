use Rattle.std.proofs.Common.{sym, arith}
use Rattle.std.proofs.lemmas.Bool.{both_ways}
use Rattle.world.proofs.Moves.{sender-has, receiver-has, bring-shown, other-shown}
use Rattle.world.proofs.sim.Sim.next_move.Goals as goal

pub in_flight-requires-clause-to : goal.in_flight-requires-clause-to
in_flight-requires-clause-to c =
    omega (
      arith,
      c.receiver-to.ensures,
      sender-has c.args.self.now.sites c.sender-from.result c.sender-from.ensures
          (omega (arith, c.if-from-count.true, c.count.ensures.value)),
    )

pub unreachable-requires : goal.unreachable-requires
unreachable-requires c =
    both_ways _ (sym c.in_default.ensures.there)
    (receiver-has c.args.self.now.sites c.sender-from.result c.receiver-to.result
    c.sender-from.ensures (omega (arith, c.if-from-count.true, c.count.ensures.value))
    c.receiver-to.ensures)

pub returns-then-from-count-clause-is : goal.returns-then-from-count-clause-is
returns-then-from-count-clause-is c = λ w shown.
    bring-shown shown.world c.sender-from.result c.receiver-to.result c.sender-from.ensures
    (omega (arith, c.if-from-count.true, c.count.ensures.value)) c.receiver-to.ensures

pub returns-clause-is : goal.returns-clause-is
returns-clause-is c = λ w shown.
    other-shown shown.world _
    (omega (arith, c.if-from-count.false, c.count.ensures.value, c.sender-from.ensures))
    (c.own_move-node.ensures.is w shown)
