use Rattle.std.proofs.Common.{◌≡◌, ◌∙◌, Bool, List, Option, Some, true, ap, refl, subst, sym}
use Rattle.std.specs.Global.{Vec}
use Rattle.std.specs.Prelude.{◌==◌}
use Rattle.std.proofs.lemmas.Bool.{eq-eqb}
use Rattle.node.specs.Keeping.{WholeNode}
use Rattle.c_handles.specs.declared.lone.images.Counts.{Counts}
use Rattle.c_handles.specs.Gone.{GoneView}
use Rattle.c_handles.specs.Images.{after_kept, kept_result, keeps}
use Rattle.c_handles.specs.Logs.{KeepsLog}
use Rattle.c_handles.specs.contracts.lone.LoneNode.{the_view}
use Rattle.c_handles.proofs.Logs.{kept_logs}
use Rattle.c_handles.proofs.lone.LoneNode.kept.Goals as goal

pub returns : goal.returns
returns c =
    let old = the_view c.self.inside in
    let same : (c.args.mark == old.mark) ≡ true =
    eq-eqb c.args.mark old.mark c.if-mark-self.false in
    let node : c.keep.new.node ≡ keeps c.in-Some.counts.items old.node =
    c.keep.ensures ∙ ap (λ (l : List Counts). keeps l old.node) c.deref.ensures.value in
    let now : record old {
      node = c.keep.new.node;
      is_unsaved = old.is_changed;
      is_kept = true;
      gone = c.kept.new.self;
    } ≡ after_kept old.counts (c.args.mark == old.mark) old =
    ap (λ (n : WholeNode). record old {
      node = n;
      is_unsaved = old.is_changed;
      is_kept = true;
      gone = c.kept.new.self;
    }) node
    ∙ ap (λ (g : GoneView). record old {
      node = keeps c.in-Some.counts.items old.node;
      is_unsaved = old.is_changed;
      is_kept = true;
      gone = g;
    }) c.kept.ensures
    ∙ sym (ap (λ (o : Option (Vec Counts)). after_kept o (c.args.mark == old.mark) old) c.in-Some.is
    ∙ ap (λ (b : Bool). after_kept (Some c.in-Some.counts) b old) same) in
    rw (← c.self.view_is) (
      now,
      sym (ap (λ (o : Option (Vec Counts)). kept_result o (c.args.mark == old.mark)) c.in-Some.is
          ∙ ap (λ (b : Bool). kept_result (Some c.in-Some.counts) b) same),
      subst (KeepsLog old) (sym now)
          (kept_logs old old.counts (c.args.mark == old.mark) refl),
    )
