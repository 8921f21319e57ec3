use Rattle.std.proofs.Common.{ap}
use Rattle.cell.proofs.Seats.{same-facts}
use Rattle.cell.proofs.desk.Desk.learn.Goals as goal

pub invariant_of-self-inside : goal.invariant_of-self-inside
invariant_of-self-inside c =
    let is = c.learn.ensures.learned.known in
    same-facts c.self.inside c.learn.new.seat c.learn.ensures.same (ap (λ v. v.pair) is)
    (ap (λ v. v.taken) is)
