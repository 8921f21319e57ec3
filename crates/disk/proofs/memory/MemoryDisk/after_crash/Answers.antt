use Rattle.std.proofs.Common.{◌∙◌, subst, sym}
use Rattle.disk.specs.Areas.{Areas}
use Rattle.disk.specs.Crashes.{Only}
use Rattle.disk.specs.Memory.{left_by}
use Rattle.disk.proofs.Torn.{filled_left}
use Rattle.disk.proofs.memory.MemoryDisk.after_crash.Goals as goal

pub returns-clause-left : goal.returns-clause-left
returns-clause-left c =
    let before = c.args.self.now in
    let left = c.holding.result in
    let filled = c.holding.ensures.held ∙ c.in_ok-left.ensures in
    record {
      filled = filled;
      possible = subst (λ (d : Areas). left_by before d) (sym filled)
          (filled_left c.args.fill before.account.state);
      durable = subst (λ (d : Areas). Only d (left_by left)) (sym c.holding.ensures.held)
          c.holding.ensures.durable;
      faultless = c.holding.ensures.faultless;
    }
