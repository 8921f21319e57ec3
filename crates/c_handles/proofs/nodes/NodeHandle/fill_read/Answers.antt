use Rattle.std.proofs.Common.{Ok, subst, sym}
use Rattle.std.proofs.lemmas.Result.{err_from_is_err_and}
use Rattle.ids.specs.declared.refusal.Refusal.TheVariants.{Memory}
use Rattle.c_values.specs.declared.fault.Fault.TheVariants as fault
use Rattle.c_handles.specs.Lone.{Read}
use Rattle.c_handles.specs.declared.lone.LoneNode.{LoneNode}
use Rattle.c_handles.proofs.Filling.{filled, in_use, not_made}
use Rattle.c_handles.proofs.nodes.NodeHandle.fill_read.Goals as goal

pub returns-in_err-test_empty : goal.returns-in_err-test_empty
returns-in_err-test_empty c =
    let p = err_from_is_err_and c.from_residual.result c.from_residual.ensures.1 in
    let was = c.in_err-test_empty.ensures in
    rw (p.1, p.2) (in_use (Read c.args.bytes.now c.args.limit) c.args.self.now.held
    c.test_empty.new.self.held c.in_err-test_empty.field-0.0 was.same was.empty)

pub returns-in_err-node : goal.returns-in_err-node
returns-in_err-node c =
    let exit = c.from_residual-in_err-node in
    let p = err_from_is_err_and exit.result exit.ensures.1 in
    let was = c.in_ok-test_empty.ensures in
    rw (p.1, p.2) (not_made (Read c.args.bytes.now c.args.limit) c.args.self.now.held
    c.test_empty.new.self.held c.in_err-node.field-0.0 was.same was.empty c.in_err-node.ensures)

pub returns-in_err-full : goal.returns-in_err-full
returns-in_err-full c =
    let exit = c.from_residual-in_err-full in
    let p = err_from_is_err_and exit.result exit.ensures.1 in
    let was = c.in_ok-test_empty.ensures in
    rw (p.1, p.2) (not_made (Read c.args.bytes.now c.args.limit) c.args.self.now.held
    c.test_empty.new.self.held (fault.Refused Memory) was.same was.empty tt)

pub returns : goal.returns
returns c =
    let Makes = Read c.args.bytes.now c.args.limit in
    filled Makes c.args.self.now.held c.put.new.self.held c.in_ok-full.full.value c.put.ensures
    c.in_ok-test_empty.ensures.empty
    (subst (λ (n : LoneNode). Makes (Ok n)) (sym c.in_ok-full.ensures.ok) c.in_ok-node.ensures)
