use Rattle.std.proofs.Common.{List, sym, subst}
use Rattle.msg.specs.Frames.{Plain}
use Rattle.wire.specs.Readers.{inbox, known}
use Rattle.wire.proofs.Mailed.{received-pair, received-taken}
use Rattle.cell.specs.Desks.{AreTaken}
use Rattle.cell.proofs.Seats.{other-on, still-facts}
use Rattle.cell.proofs.Waiting.{taken-more}
use Rattle.cell.proofs.desk.Desk.take.Goals as goal

pub receive-requires-clause-from : goal.receive-requires-clause-from
receive-requires-clause-from c =
    other-on c.self.inside c.args.wire.now c.args.from (rw (← c.self.view_is) at c.requires.wire)
    (rw (← c.self.view_is) at c.requires.other)

pub invariant_of-self-inside : goal.invariant_of-self-inside
invariant_of-self-inside c =
    let desk = c.self.inside in
    let seat = c.receive.new.seat in
    let box = inbox desk.seat c.args.from in
    let told = c.receive.ensures.taken in
    let lost = c.receive.ensures.lost in
    let more = received-taken box c.args.from c.receive.result (known desk.seat) (known seat) told
    lost in
    still-facts desk seat c.receive.ensures.same
    (received-pair box c.args.from c.receive.result (known desk.seat) (known seat) told lost)
    (subst (λ (ts : List Plain). AreTaken ts desk.logged.node.early) (sym more.1)
    (taken-more (known desk.seat).taken more.0 desk.logged.node.early desk.taken))
