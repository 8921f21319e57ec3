use Rattle.std.proofs.Common.{not, ap, sym, ◌∙◌, subst}
use Rattle.std.proofs.lemmas.Bool.{not-true, cond-true, cond-false}
use Rattle.ids.specs.declared.names.Ref.{Ref}
use Rattle.model.specs.Shading.{is_in}
use Rattle.remote_marks.specs.RefSet.{RefSetView, IsIndexed}
use Rattle.remote_marks.proofs.Indexed.{absent, found, inserted, removed}
use Rattle.remote_marks.proofs.ref_set.RefSet.insert.Goals as goal

pub invariant_of-self-then-is_err : goal.invariant_of-self-then-is_err
invariant_of-self-then-is_err c =
    let r : Ref = c.args.reference in
    let fresh = absent r c.self.invariant
    (not-true _ (sym c.in_ok-insert.ensures.added ∙ c.if-not-branch.false)) in
    let same = c.push.ensures.items
    ∙ cond-false _ _ _ (c.is_err.ensures.negation ∙ ap not c.if-is_err.true) in
    subst (IsIndexed c.remove.new.self.keys) (sym same)
    (removed r (inserted r c.self.invariant fresh c.in_ok-insert.ensures.updates)
    c.remove.ensures.updates)

pub invariant_of-self-else-is_err : goal.invariant_of-self-else-is_err
invariant_of-self-else-is_err c =
    let r : Ref = c.args.reference in
    let fresh = absent r c.self.invariant
    (not-true _ (sym c.in_ok-insert.ensures.added ∙ c.if-not-branch.false)) in
    let longer = c.push.ensures.items
    ∙ cond-true _ _ _ (c.is_err.ensures.negation ∙ ap not c.if-is_err.false) in
    subst (IsIndexed c.insert.new.self.keys) (sym longer)
    (inserted r c.self.invariant fresh c.in_ok-insert.ensures.updates)

pub returns-then-not-branch-clause-added : goal.returns-then-not-branch-clause-added
returns-then-not-branch-clause-added c =
    let r : Ref = c.args.reference in
    sym c.if-not-branch.true ∙ c.in_ok-insert.ensures.added
    ∙ ap not (found r c.self.invariant)
    ∙ ap (λ (v : RefSetView). not (is_in r v.keys)) c.self.view_is
