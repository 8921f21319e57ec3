use Rattle.std.proofs.Common.{◌≡◌, ◌<◌, ◌∙◌, ℕ, Some, List, length, get_or, ap, arith, subst, refl, slice_get}
use Rattle.model.specs.State.{got_from}
use Rattle.model.specs.View.{link_to}
use Rattle.node.specs.Keeping.{WholeNode}
use Rattle.wire.specs.OneAge.{Fit, IsBetween}
use Rattle.wire.proofs.NewWires.{there}
use Rattle.wire.proofs.fitting.apart_from.Goals as goal
use borrow.Author.Count.{below_more}

at-place : {A : Type 0} (xs : List A) (k i : ℕ) (x : A) → i ≡ k → k < length xs
    → x ≡ get_or xs i x → slice_get xs k ≡ Some x
at-place xs k i x same below is = there xs k x below (is ∙ ap (λ j. get_or xs j x) same)

fits-here : (xs : List WholeNode) (i j : ℕ) (a b : WholeNode) → slice_get xs i ≡ Some a
    → slice_get xs j ≡ Some b → IsBetween (link_to a.core j) (got_from b.core.local i) → Fit xs i j
fits-here xs i j a b is are between n m first second =
    let one : a ≡ n = cc in
    let two : b ≡ m = cc in
    subst (λ n. IsBetween (link_to n.core j) (got_from m.core.local i)) one
    (subst (λ m. IsBetween (link_to a.core j) (got_from m.core.local i)) two between)

pub returns-then-not-fit-clause-apart : goal.returns-then-not-fit-clause-apart
returns-then-not-fit-clause-apart c = record {
  sender = c.index-nodes-from.result;
  receiver = c.index-nodes-from-in-loop-to.result;
  first = at-place _ _ _ _ c.from.ensures (omega arith) c.index-nodes-from.is;
  second =
      at-place _ _ _ _ c.from-in-loop-to.ensures (omega arith) c.index-nodes-from-in-loop-to.is;
  apart = c.fit.ensures.apart c.if-not-fit.true;
}

pub loop-to-preserved : goal.loop-to-preserved
loop-to-preserved c =
    below_more (Fit c.args.nodes.now c.args.from) _ c.loop-to.invariant
    (fits-here _ _ _ _ _
    (at-place _ _ _ _ c.from.ensures (omega arith) c.index-nodes-from.is)
    (at-place _ _ _ _ c.from-in-loop-to.ensures (omega arith)
    c.index-nodes-from-in-loop-to.is)
    (c.if-not-fit.ensures.fits refl))
