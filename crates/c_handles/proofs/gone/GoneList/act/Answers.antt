use Rattle.std.proofs.Common.{◌∙◌, Ok, ap, drop, subst, sym}
use Rattle.std.proofs.lemmas.Result.{err_from_is_err_and}
use Rattle.model.specs.View.{NodeView}
use Rattle.c_handles.specs.Candidates.{AreFreed, Expects, confirming}
use Rattle.c_handles.proofs.Listing.{expects_bound, expects_freed, freeing_act, listing_err, listing_memory, listing_ok, of_err, of_ok}
use Rattle.c_handles.proofs.gone.GoneList.act.Goals as goal
use Rattle.c_handles.proofs.gone.GoneList.act.Goals.{In_ok-before}

expects : (c : In_ok-before)
    → Expects c.args.logged.now.node.core.local c.args.event.now c.args.self.now c.expect.new.self
    (Ok c.in_ok-before.before)
expects c = of_ok c.args.event.now c.args.self.now c.core.ensures.value c.in_ok-before.ensures

pub returns-in_err-before : goal.returns-in_err-before
returns-in_err-before c =
    let p = err_from_is_err_and c.from_residual.result c.from_residual.ensures.1 in
    rw (p.1, p.2)
    (listing_memory c.args.logged.now c.args.self.now c.requires.frees c.requires.tracks
    (of_err c.args.event.now c.core.ensures.value c.in_err-before.ensures))

pub confirm-requires-clause-bound : goal.confirm-requires-clause-bound
confirm-requires-clause-bound c =
    expects_bound c.args.logged.now.node.core c.args.event.now c.args.self.now
    (expects (goal.at.confirm-requires-clause-bound c).In_ok-before)

pub confirm-requires-clause-freed : goal.confirm-requires-clause-freed
confirm-requires-clause-freed c =
    let old = c.args.logged.now in
    let e = c.args.event.now in
    let v = c.args.self.now in
    subst (λ (n : NodeView). AreFreed e n.local.heap (drop c.in_ok-before.before
    c.expect.new.self.list)) (sym c.core-in-Ok.ensures.value)
    (expects_freed old.node.core e v
    (expects (goal.at.confirm-requires-clause-freed c).In_ok-before)
    (freeing_act old v c.requires.frees c.requires.tracks
    c.in-Ok.ensures.acted))

pub returns-in-Ok : goal.returns-in-Ok
returns-in-Ok c =
    let before = c.in_ok-before.before in
    let w = c.expect.new.self in
    listing_ok c.args.logged.now c.args.self.now c.requires.frees c.requires.tracks
    c.in-Ok.ensures.acted
    (expects (goal.at.returns-in-Ok c).In_ok-before)
    (c.confirm.ensures
    ∙ ap (λ (n : NodeView). confirming before n.local.heap w) c.core-in-Ok.ensures.value)

pub withdraw-requires : goal.withdraw-requires
withdraw-requires c =
    (expects_bound c.args.logged.now.node.core c.args.event.now c.args.self.now
    (expects (goal.at.withdraw-requires c).In_ok-before)).0

pub returns-in-Err : goal.returns-in-Err
returns-in-Err c =
    listing_err c.args.logged.now c.args.self.now c.requires.frees c.requires.tracks
    c.in-Err.ensures.acted
    (expects (goal.at.returns-in-Err c).In_ok-before) c.withdraw.ensures
