use Rattle.std.proofs.lemmas.Result.{err_from_is_err_and}
use Rattle.node.specs.Keeping.{waiting}
use Rattle.cell.proofs.Nexts.{next-refused, next-taken}
use Rattle.cell.proofs.cell.Cell.next.Goals as goal

pub returns-clause-pumped : goal.returns-clause-pumped
returns-clause-pumped g c =
    let old = c.args.self.now in
    let said = c.in_ok-answer.ensures in
    next-taken c.args.from (waiting old.node.early c.args.from) old c.act.new.self c.requires.waits
    record {
      given = said.given c.requires.ready;
      memory_free = said.memory_free;
      traced = said.traced;
    }

pub returns-in_err-answer-clause-pumped : goal.returns-in_err-answer-clause-pumped
returns-in_err-answer-clause-pumped g c =
    let old = c.args.self.now in
    let said = c.in_err-answer.ensures in
    let p = err_from_is_err_and c.from_residual.result c.from_residual.ensures.1 in
    rw (p.1, p.2)
    (next-refused c.args.from (waiting old.node.early c.args.from) old c.act.new.self
    c.requires.waits record {
      given = said.given c.requires.ready;
      memory_free = said.memory_free;
      traced = said.traced;
    })
