use Rattle.std.proofs.Common.{◌∙◌}
use Rattle.disk.specs.Memory.{held_by, left_by}
use Rattle.wire.specs.Readers.{opened_with}
use Rattle.cell.specs.Closing.{AreOfOneKill}
use Rattle.trials.specs.Chains.{AreLeftBy}
use Rattle.trials.proofs.Chained.{killed-now, some-then}
use Rattle.trials.proofs.killed.kill_all.Goals as goal

pub returns : goal.returns
returns c =
    some-then (λ v. AreLeftBy held_by left_by c.survey.new.cells v.items)
    (λ v. AreOfOneKill held_by left_by (opened_with c.args.wire.now) v.items)
    c.all_left.result
    (λ v left. killed-now c.stop_first.ensures.cells
    (c.stop_first.ensures.count ∙ c.requires.count) c.survey.ensures.learned
    c.survey.ensures.at_once left)
    c.all_left.ensures
