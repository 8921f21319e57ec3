use Rattle.std.proofs.Common.{◌≡◌, ℕ, length, take, ◌+◌, ◌-◌, List, refl, sym, ap, ◌∙◌, arith}
use Rattle.std.proofs.lemmas.List.{take_all}
use Rattle.std.proofs.lemmas.List.{length-set}
use Rattle.ids.specs.declared.names.Ref.{Ref}
use Rattle.model.specs.Shading.{marks_for}
use Rattle.link.specs.Links.{LinksView}
use Rattle.remote_marks.specs.Asked.{all_appended}
use Rattle.remote_marks.proofs.Sent.{retracted-more}
use Rattle.remote_marks.proofs.marks.retract_marks.Goals as goal

pub loop-left-init : goal.loop-left-init
loop-left-init c =
    let ts : List Ref = c.args.targets.now in
    record {
      back = λ cycle was sound same.
          same ∙ ap (λ (rs : List Ref). all_appended was (marks_for cycle rs))
          (sym (take_all (length ts) ts (omega arith)));
      width = refl;
      sound = c.width-width.ensures.sound;
      within = omega arith;
    }

pub loop-left-preserved : goal.loop-left-preserved
loop-left-preserved c =
    let ts : List Ref = c.args.targets.now in
    let old = c.loop-left.invariant in
    let done = c.retract_mark.ensures.done in
    let one_more : c.loop-left.left ≡ c.loop-left.left - 1 + 1 = omega arith in
    record {
      back = λ cycle was sound same.
          done ∙ retracted-more cycle ts (c.loop-left.left - 1) _ (omega (arith, old.within))
          sound
          (old.back cycle was sound same
          ∙ ap (λ (k : ℕ). all_appended was (marks_for cycle (take k ts))) one_more);
      width = ap (λ (v : LinksView). length v.links) done ∙ length-set _ _ _ ∙ old.width;
      sound = c.retract_mark.ensures.sound;
      within = omega (arith, old.within);
    }

pub returns : goal.returns
returns c =
    let old = c.loop-left.invariant in
    let none : c.loop-left.left ≡ 0 = omega arith in
    record {
      back = λ cycle was sound same.
          old.back cycle was sound same
          ∙ ap (λ (k : ℕ). all_appended was (marks_for cycle (take k c.args.targets.now))) none;
      width = old.width;
      sound = old.sound;
    }
