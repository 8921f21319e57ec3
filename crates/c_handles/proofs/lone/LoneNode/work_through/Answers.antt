use Rattle.std.proofs.lemmas.Result.{err_from_is_err_and}
use Rattle.c_handles.specs.Work.{NodeDoes, at, collects, node_turns}
use Rattle.c_handles.proofs.Tries.{led_on, plays_ended}
use Rattle.c_handles.proofs.lone.LoneNode.work_through.Goals as goal

pub returns-in_err-receive_early : goal.returns-in_err-receive_early
returns-in_err-receive_early c =
    let p = err_from_is_err_and c.from_residual.result c.from_residual.ensures.1 in
    let old = c.args.self.now in
    rw (p.1, p.2) (plays_ended NodeDoes (node_turns old)
    (collects c.args.scans c.args.slots) (at old c.args.work.now)
    (at c.receive_early.new.self c.receive_early.new.work) c.in_err-receive_early.field-0.0
    c.in_err-receive_early.ensures.done)

pub returns : goal.returns
returns c =
    let old = c.args.self.now in
    led_on NodeDoes (node_turns old) (collects c.args.scans c.args.slots)
    (at old c.args.work.now) (at c.receive_early.new.self c.receive_early.new.work)
    c.in_ok-receive_early.ensures.done (at c.collect.new.on c.collect.new.work) c.collect.result
    c.collect.ensures
