use Rattle.std.proofs.Common.{◌≡◌, ◌∙◌, Ok, ap, drop, inl, inr, refl, subst, sym}
use Rattle.std.proofs.lemmas.Result.{err_from_is_err_and}
use Rattle.model.specs.View.{NodeView, view_act}
use Rattle.node.specs.Keeping.{WholeNode}
use Rattle.c_handles.specs.Candidates.{AreFreed, Expects, confirming}
use Rattle.c_handles.specs.Cells.{cell_listed}
use Rattle.c_handles.proofs.Listing.{confirmed, expects_freed, freeing_view, of_err, of_ok, unlisted, withdrawn}
use Rattle.c_handles.proofs.Seats.{acted_by}
use Rattle.c_handles.proofs.seated.SeatedCell.act_listing.Goals as goal
use Rattle.c_handles.proofs.seated.SeatedCell.act_listing.Goals.{In-Ok, In_ok-before}

expects : (c : In_ok-before)
    → Expects c.args.self.now.cell.node.core.local c.args.event.now c.args.self.now.gone
    c.expect.new.self (Ok c.in_ok-before.before)
expects c =
    of_ok c.args.event.now c.args.self.now.gone
    (c.core.ensures.value ∙ ap (λ (n : WholeNode). n.core) c.node.ensures.value)
    c.in_ok-before.ensures

view : (c : In-Ok)
    → view_act c.args.self.now.cell.node.core c.args.event.now
    ≡ Ok (c.act.new.self.node.core, c.in-Ok.answer)
view c =
    freeing_view c.args.self.now.cell.node c.args.event.now c.requires.frees
    (c.in-Ok.ensures.given c.requires.ready).acted.performs

pub returns-in_err-before : goal.returns-in_err-before
returns-in_err-before c =
    let p = err_from_is_err_and c.from_residual.result c.from_residual.ensures.1 in
    let old = c.args.self.now in
    let said = of_err c.args.event.now
    (c.core.ensures.value ∙ ap (λ (n : WholeNode). n.core) c.node.ensures.value)
    c.in_err-before.ensures in
    rw (p.1, p.2)
    (inr (record {
      ready = c.requires.ready;
      unlisted = unlisted old.cell.node old.gone c.requires.frees c.requires.tracks said;
      same = refl;
      keeps = record { wire = refl; mark = refl; imaged = refl; gone = said.0 };
      fresh = refl;
    }))

pub confirm-requires-clause-freed : goal.confirm-requires-clause-freed
confirm-requires-clause-freed c =
    let old = c.args.self.now in
    let e = c.args.event.now in
    subst (λ (n : NodeView). AreFreed e n.local.heap (drop c.in_ok-before.before
    c.expect.new.self.list))
    (sym (c.core-in-Ok.ensures.value
    ∙ ap (λ (n : WholeNode). n.core) c.node-in-Ok.ensures.value))
    (expects_freed old.cell.node.core e old.gone
    (expects (goal.at.confirm-requires-clause-freed c).In_ok-before)
    (view (goal.at.confirm-requires-clause-freed c).In-Ok))

pub returns-in-Ok : goal.returns-in-Ok
returns-in-Ok c =
    let old = c.args.self.now in
    let e = c.args.event.now in
    let h = c.in-Ok.ensures in
    let w = c.expect.new.self in
    acted_by {old = cell_listed old c.act.new.self.node.core e}
    (record {
      wire = refl;
      mark = refl;
      imaged = refl;
      gone = c.confirm.ensures
          ∙ ap (λ (n : NodeView). confirming c.in_ok-before.before n.local.heap w)
          (c.core-in-Ok.ensures.value
          ∙ ap (λ (n : WholeNode). n.core) c.node-in-Ok.ensures.value)
          ∙ confirmed old.cell.node.core e old.gone
          (expects (goal.at.returns-in-Ok c).In_ok-before)
          (view (goal.at.returns-in-Ok c).In-Ok) c.requires.frees c.requires.tracks;
    })
    h.given h.memory_free h.closed h.shut h.goes_on h.traced refl

pub returns-in-Err : goal.returns-in-Err
returns-in-Err c =
    let old = c.args.self.now in
    let h = c.in-Err.ensures in
    inl (acted_by (record {
      wire = refl;
      mark = refl;
      imaged = refl;
      gone = c.withdraw.ensures
          ∙ withdrawn old.cell.node.core c.args.event.now old.gone
          (expects (goal.at.returns-in-Err c).In_ok-before);
    })
    h.given h.memory_free h.closed h.shut h.goes_on h.traced refl)
