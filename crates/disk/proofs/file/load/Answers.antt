use Rattle.std.proofs.Common.{◌∙◌, sym}
use Rattle.disk.specs.Areas.{Changes, Torn}
use Rattle.disk.proofs.Torn.{loaded_by, set_reaches}
use Rattle.disk.proofs.file.load.Goals as goal

pub returns : goal.returns
returns c =
    let s = c.args.account.now.state in
    let mid = c.risk.new.self.state in
    let s' = c.set.new.self in
    let content = c.read_to_end.new.buf in
    loaded_by content.items mid (sym (c.len.ensures ∙ content.ok.0))
    c.in-Ok.ensures.held c.set.ensures.held
    (set_reaches (Changes c.args.area (Torn 0 c.len.result)) s mid s' c.set.ensures.synced
    c.set.ensures.ranges c.in-Ok.ensures.risks.torn)
