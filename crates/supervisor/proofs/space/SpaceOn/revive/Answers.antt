use Rattle.std.proofs.Common.{ℕ, List, ◌++◌, ap, map, subst, sym}
use Rattle.std.specs.Global.{Vec}
use Rattle.std.specs.List.Sorted.{IsPermutation}
use Rattle.workers.specs.declared.run.Report.{Report}
use Rattle.supervisor.specs.Teams.{nodes_of, started_in, working}
use Rattle.supervisor.proofs.Teams.{if-err, if-ok, one-more, others-still}
use denote.Exit.{no}
use denote.Param.Send.{arg_send, param_send, sendable}
use Rattle.cell.proofs.Sent.{shared-send, shared-sync}
use Rattle.supervisor.proofs.space.SpaceOn.revive.Goals as goal

pub begin-requires-send-S : goal.begin-requires-send-S
begin-requires-send-S g c κs within =
    param_send _ _ (arg_send _ no _ (shared-send _ _ _ _ c.type_bounds.send-D))

pub begin-requires-sync-S : goal.begin-requires-sync-S
begin-requires-sync-S g c κs within =
    let sent = c.type_bounds.send-D in search (shared-sync, sent, sendable) depth 20

pub returns-in-Ok-begin-clause-begun : goal.returns-in-Ok-begin-clause-begun
returns-in-Ok-begin-clause-begun g c =
    let mid = c.await_end.new.self in
    let before = started_in c.args.self.now.team in
    one-more c.args.node before (working mid) (working c.begin.new.self)
    (map (λ r. r.node) c.begin.new.self.reports.items)
    (subst (λ (v : Vec Report). IsPermutation before (working mid ++ map (λ r. r.node) v.items))
    (sym c.begin.ensures.reports)
    (subst (λ (l : List ℕ). IsPermutation l (nodes_of mid)) (sym (ap started_in c.in-Some.is))
    c.await_end.ensures.same))
    (if-ok c.begin.result _ c.in-Ok-begin.is c.begin.ensures.begun)

pub returns-clause-left : goal.returns-clause-left
returns-clause-left g c =
    others-still c.args.node c.await_end.new.self c.begin.new.self
    (if-err c.begin.result _ c.in-Err-begin.is c.begin.ensures.unchanged)
    (if-ok c.await_end.result _ c.in-Ok.is c.await_end.ensures.ended)
