use Rattle.std.proofs.Common.{ap, length, arith}
use Rattle.disk.specs.Record.{areas_of}
use Rattle.disk.proofs.Torn.{changed_by_write, set_leaves, set_risk}
use Rattle.disk.proofs.file.FileDisk.look_again.Goals as goal

pub returns-in-Ok-clause-change : goal.returns-in-Ok-clause-change
returns-in-Ok-clause-change g c =
    let held = c.args.self.now.account.state.held in
    changed_by_write c.args.area c.args.at c.args.len (areas_of held)
    (areas_of c.write.new.self.held) (record {
      bytes = c.deref.result.now;
      within = c.requires.within;
      fits = omega (arith, ap length c.deref.ensures.value, c.in-Ok.ensures);
      held = c.write.ensures.held;
    })

pub returns-in-Ok-clause-crash : goal.returns-in-Ok-clause-crash
returns-in-Ok-clause-crash g c =
    set_leaves c.args.self.now.account.state c.write.new.self c.write.ensures.synced
    c.write.ensures.ranges

pub returns-in-Ok-clause-risk : goal.returns-in-Ok-clause-risk
returns-in-Ok-clause-risk g c =
    set_risk c.args.self.now.account.state c.write.new.self c.write.ensures.synced
    c.write.ensures.ranges
