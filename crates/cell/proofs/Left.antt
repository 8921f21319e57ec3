-- What a space left on its disks is the world in which it continues.
use Rattle.std.proofs.Common.{◌≡◌, ℕ, zero, suc, true, Bool, List, [], ◌∷◌, ◌++◌, Ok, Err, append_assoc, length, length-append, set, refl, sym, ap, ◌∙◌, subst, arith}
use Rattle.std.specs.Prelude.{cond}
use Rattle.std.proofs.Math.Logic.{∥∥₁_elim}
use Rattle.std.proofs.Math.Seq.{get_or-append_seam, set-append_seam}
use Rattle.std.proofs.Props.{props}
use Rattle.std.proofs.lemmas.Bool.{lt-ltb}
use Rattle.std.proofs.lemmas.List.{length-map}
use Rattle.ids.specs.Limits.{Shaped}
use Rattle.ids.specs.declared.refusal.Refusal.TheVariants.{NoNode}
use Rattle.model.specs.State.{NodeState, no_node, node_at}
use Rattle.model.specs.View.{NodeView, Shows}
use Rattle.model.specs.World.{World, happens, is_node, new_world, run, take_step, world_after}
use Rattle.model.specs.declared.step.Outcome.TheVariants as outcome
use Rattle.model.specs.declared.step.Step.{Step}
use Rattle.model.specs.declared.step.Step.TheVariants as step
use Rattle.model.proofs.Runs.{run-append}
use Rattle.laws.proofs.Cuts.{run-keeps-sent}
use Rattle.laws.proofs.KeepsSent.{new-keeps-sent}
use Rattle.disk.specs.Areas.{Areas, IsBlank}
use Rattle.node_store.proofs.Stores.{keeps_some}
use Rattle.wire.specs.Readers.{IsSavedAs}
use Rattle.cell.specs.Disks.{OpensTo}
use Rattle.cell.specs.Laws.{restarted, IsLeft, LeftIsOpened}
use Rattle.cell.specs.Opened.{IsReadFrom}
use Rattle.cell.specs.Reached.{AreAlike, IsReached}
use Rattle.node.specs.Keeping.{WholeNode, alone}
use Rattle.cell.proofs.Found.{stands-read}
use Rattle.cell.proofs.Opening.{core-found, kept-found, same-found}
use Rattle.wire.proofs.Places.{mapped-from}

-- ---- All nodes restart from their saved states

-- restarts of this many nodes, from this one on
abbrev pub restarts : ℕ → ℕ → List Step
restarts k zero = []
restarts k (suc n) = step.Restart k ∷ restarts (suc k) n

restarted-at : (before xs ys : List NodeState) (x y : NodeState)
    → happens (record { current = before ++ x ∷ xs; saved = before ++ y ∷ ys })
    (step.Restart (length before))
    ≡ record { current = before ++ y ∷ xs; saved = before ++ y ∷ ys }
unfolding take_step
restarted-at before xs ys x y =
    let w : World = record { current = before ++ x ∷ xs; saved = before ++ y ∷ ys } in
    let inside : is_node w (length before) ≡ true =
    lt-ltb (length before) (length (before ++ x ∷ xs))
    (omega (arith, length-append before (x ∷ xs))) in
    ap (λ (b : Bool). world_after w (cond b
    (Ok (
      record w {
        current = set w.current (length before) (node_at w.saved (length before));
      },
      outcome.Done,
    ))
    (Err NoNode))) inside
    ∙ ap (λ (l : List NodeState). record { current = l; saved = w.saved })
    (ap (λ (s : NodeState). set (before ++ x ∷ xs) (length before) s)
    (get_or-append_seam before y ys no_node)
    ∙ set-append_seam before x xs y)

pub run-restarts : (before xs ys : List NodeState) → length xs ≡ length ys
    → run (record { current = before ++ xs; saved = before ++ ys })
    (restarts (length before) (length xs))
    ≡ record { current = before ++ ys; saved = before ++ ys }
run-restarts before [] [] same = refl
run-restarts before [] (y ∷ ys) same = absurd (omega (arith, same))
run-restarts before (x ∷ xs) [] same = absurd (omega (arith, same))
run-restarts before (x ∷ xs) (y ∷ ys) same =
    let first = append_assoc before (y ∷ []) xs in
    let second = append_assoc before (y ∷ []) ys in
    let count : suc (length before) ≡ length (before ++ y ∷ []) =
    omega (arith, length-append before (y ∷ [])) in
    ap (λ (w : World). run w (restarts (suc (length before)) (length xs)))
    (restarted-at before xs ys x y)
    ∙ (λ i. run (record { current = sym first i; saved = sym second i })
    (restarts (count i) (length xs)))
    ∙ run-restarts (before ++ y ∷ []) xs ys (omega (arith, same))
    ∙ (λ i. record { current = second i; saved = second i })

unfoldable pub restarted-reached : (w : World) → IsReached w → IsReached (restarted w)
restarted-reached w r =
    let end : World = run (new_world r.shape) r.steps in
    let width : length end.saved ≡ length end.current =
    (run-keeps-sent (new_world r.shape) r.steps (new-keeps-sent r.shape)).width in
    let all = restarts 0 (length end.current) in
    record {
      shape = r.shape;
      limits = r.limits;
      steps = r.steps ++ all;
      by = subst (AreAlike (restarted w))
          (sym (run-append (new_world r.shape) r.steps all
          ∙ run-restarts [] end.current end.saved (sym width)))
          (record { current = r.by.saved; saved = r.by.saved });
    }

-- ---- What is read from what was left

not-blank : (n : NodeView) (c : Areas) → OpensTo n c → IsBlank c → ⊥
not-blank n c opens = keeps_some (alone n) c opens

-- the node that is read is the one that was left
left-is : (shape : Shaped) (k width : ℕ) (s : NodeState) (c : Areas) (n : NodeView)
    (left : IsLeft k width s c) → OpensTo n c → n ≡ left.node
left-is shape k width s c n left found =
    ∥∥₁_elim left.opens (hlevel props) (λ opens. same-found n left.node c found opens)

-- the node that is read is the one that was left
left-found : (shape : Shaped) (k width : ℕ) (s : NodeState) (c : Areas) (whole : WholeNode)
    → IsLeft k width s c → IsReadFrom shape k c whole → OpensTo whole.core c
left-found shape k width s c whole left read =
    core-found whole c (read.held (λ empty. ∥∥₁_elim left.opens (hlevel props)
    (λ opens. not-blank left.node c opens empty)))

pub left-node : (shape : Shaped) (k width : ℕ) (s : NodeState) (c : Areas) (whole : WholeNode)
    (left : IsLeft k width s c) → IsReadFrom shape k c whole → whole.core ≡ left.node
left-node shape k width s c whole left read =
    left-is shape k width s c whole.core left (left-found shape k width s c whole left read)

pub left-stands : (shape : Shaped) (k width : ℕ) (s : NodeState) (c : Areas) (whole : WholeNode)
    → IsLeft k width s c → IsReadFrom shape k c whole → IsSavedAs whole.core s
left-stands shape k width s c whole left read =
    let n : NodeView = whole.core in
    let found : OpensTo n c = left-found shape k width s c whole left read in
    let is = left-is shape k width s c n left found in
    let stands = stands-read k width s n
    (ap (λ (m : NodeView). m.local.own) is ∙ left.saved.own)
    (ap (λ (m : NodeView). m.local.shape.nodes) is ∙ left.saved.nodes)
    (subst (λ (m : NodeView). Shows m s) (sym is) left.saved.shows)
    (kept-found n c found) in
    record { shows = stands.shows; released = stands.released; acks = stands.acks }

pub left-opened : LeftIsOpened
left-opened shape w nodes width count read = record {
  saved = refl;
  width = width;
  count = length-map nodes (λ m. m.core) ∙ count;
  each = λ k n there.
      (let of = mapped-from (λ m. m.core) nodes k n there in
      let from = read k of.0 of.1 in
      subst (λ (m : NodeView). IsSavedAs m (node_at w.saved k)) (sym of.2)
      (left-stands shape k shape.nodes (node_at w.saved k) from.0 of.0 from.1 from.2));
}
