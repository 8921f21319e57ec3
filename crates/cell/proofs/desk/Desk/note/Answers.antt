use Rattle.std.proofs.Common.{ap}
use Rattle.cell.proofs.Seats.{same-facts}
use Rattle.cell.proofs.desk.Desk.note.Goals as goal

pub invariant_of-self-inside : goal.invariant_of-self-inside
invariant_of-self-inside c =
    let is = c.note.ensures.known in
    same-facts c.self.inside c.note.new.seat c.note.ensures.same (ap (λ v. v.pair) is)
    (ap (λ v. v.taken) is)
