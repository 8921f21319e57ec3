use Rattle.std.proofs.Common.{◌≡◌, ◌<◌, ℕ, arith, ◌++◌, cond, [], length, List, ap, refl, sym, ◌∙◌, subst}
use Rattle.std.proofs.lemmas.Bool.{eqb-true}
use Rattle.std.proofs.lemmas.Result.{err_from_is_err_and}
use Rattle.std.specs.List.{AllByRecursion}
use Rattle.ids.specs.declared.limits.TheConstants.{GREATEST_COUNTED}
use Rattle.model.specs.Counting.{counted_marks}
use Rattle.model.specs.Shading.{filled, make_all_grey, marks_for, unasked}
use Rattle.model.specs.State.{Heap}
use Rattle.model.specs.References.{IsWithin}
use Rattle.model.specs.View.{NodeView}
use Rattle.cycles.specs.Balances.{IsBounded}
use Rattle.link.specs.Links.{IsLinks}
use Rattle.remote_marks.specs.Asked.{IsRefused, all_appended}
use Rattle.node.specs.Errands.{errand, extra_ring, extra_sends, listed, with_extra}
use Rattle.node.specs.Inside.{view_of}
use Rattle.node.specs.Invariant.{IsNode, links_of}
use Rattle.node.proofs.Balances.{balance-small}
use Rattle.node.proofs.Errands.{IsDone, Parts, Plan, Ready, here-idle, here-run, here-sends, here-stands, marked-small, met-within, nodes-inside, planned}
use Rattle.node.proofs.Events.{parts-same}
use Rattle.node.proofs.Runs.{errand-joins, errand-stays, runs-done, runs-same}
use Rattle.node.proofs.Sound.{sound-heap, with_heap}
use Rattle.ids.specs.declared.names.Ref.{Ref}
use Rattle.node.proofs.node_core.Core.run.Goals as goal
use Rattle.node.proofs.node_core.Core.run.Goals.{After-count, After-count-arg-1, After-is_empty}

-- ---- what several goals need

abbrev plan : (c : After-is_empty) → Plan (view_of c.self.inside)
plan c = record {
  due = c.args.due;
  references = c.args.references.now;
  met = c.while_marking-met.result.now;
  more = c.args.extra;
  meets = rw (sym c.ended.ensures, sym c.cycle-current.ensures.value) c.while_marking-met.ensures;
}

-- the errand of a node that joins no cycle
stays : (c : After-is_empty)
    → errand c.args.cycle c.args.due (filled c.args.references.now) c.args.extra
    (view_of c.self.inside).local
    ≡ planned (plan c)
stays c =
    errand-stays _ _ _ _ _ (omega (arith, c.if-cycle-current.false, c.cycle-current.ensures.value))

ready : (c : After-count-arg-1)
    → Ready (plan (goal.at.count-requires-clause-counted c).After-is_empty)
ready c =
    let n : NodeView = view_of c.self.inside in
    let us : List Ref = filled c.while_marking-met.result.now in
    let marked : List Ref = cond c.args.due (unasked n.local.own n.local.asked us) [] in
    record {
      node = c.self.invariant.node;
      within =
          rw (← c.self.view_is) at c.requires.within;
      marks = subst (λ (k : ℕ). IsLinks (all_appended (links_of n) (marks_for k marked)))
          c.cycle-current.ensures.value c.in_ok-marks.ensures.marked;
    }

within : (c : After-is_empty)
    → AllByRecursion (IsWithin (view_of c.self.inside).local.shape) (filled c.args.references.now)
within c =
    rw (← c.self.view_is) at c.requires.within

-- ---- the goals

pub returns-then-cycle-current : goal.returns-then-cycle-current
returns-then-cycle-current c =
    runs-same
    (errand-joins c.args.cycle c.args.due (filled c.args.references.now) c.args.extra _
    (subst (λ (m : NodeView). m.local.phases.cycle < c.args.cycle) c.self.view_is
    (omega (arith, c.if-cycle-current.true, c.cycle-current.ensures.value))))
    c.run_joining.ensures

pub returns-then-is_nothing : goal.returns-then-is_nothing
returns-then-is_nothing c =
    let at = (goal.at.returns-then-is_nothing c).After-is_empty in
    rw (← c.self.view_is)
    (runs-same (stays at)
    (runs-done (here-idle (plan at)
    (eqb-true _ 0 (sym c.is_empty.ensures ∙ c.if-is_empty.true))
    (sym c.is_nothing.ensures ∙ c.if-is_nothing.true))))

pub send_out-requires-clause-nodes : goal.send_out-requires-clause-nodes
send_out-requires-clause-nodes c =
    let at = (goal.at.send_out-requires-clause-nodes c).After-is_empty in
    let n : NodeView = view_of c.self.inside in
    nodes-inside n _ c.self.invariant.node
    (met-within (plan at) (IsWithin n.local.shape) (within at))

pub returns-in_err-marks : goal.returns-in_err-marks
returns-in_err-marks c =
    let at = (goal.at.returns-in_err-marks c).After-is_empty in
    let n : NodeView = view_of c.self.inside in
    let us = filled c.while_marking-met.result.now in
    let marked = cond c.args.due (unasked n.local.own n.local.asked us) [] in
    let left = c.in_err-marks.ensures in
    let r = err_from_is_err_and c.from_residual-in_err-marks.result
    c.from_residual-in_err-marks.ensures.1 in
    let told = subst
    (λ (k : ℕ). IsRefused (links_of n)
    (marks_for k marked ++ extra_sends n.local.own (length n.links) k c.args.extra)
    c.in_err-marks.field-0.0)
    c.cycle-current.ensures.value left.refused in
    let sends = here-sends (plan at) c.self.invariant.node.links.width in
    rw (r.1, r.2)
    (rw (← c.self.view_is)
    (runs-same (stays at)
    (record {
      done = tt;
      refused = subst (λ ms. IsRefused (links_of n) ms c.in_err-marks.field-0.0) sends told;
      unchanged = parts-same n c.make_room.ensures.same.heap left.unchanged.0 refl
          left.unchanged.1;
    })))

pub count-requires-clause-small : goal.count-requires-clause-small
count-requires-clause-small c = balance-small (view_of c.self.inside) c.self.invariant.node

pub count-requires-clause-counted : goal.count-requires-clause-counted
count-requires-clause-counted c =
    let n : NodeView = view_of c.self.inside in
    subst (λ (k : ℕ). IsBounded GREATEST_COUNTED (counted_marks k n.local.ring))
    (sym c.in_ok-marks.ensures.count) (marked-small _ (ready c))

-- the parts after the code's calls
abbrev left : After-count → Parts
left c = record {
  heap = c.mark.new.heap.heap;
  asked = c.send_out.new.asked.keys;
  ring = c.count.new.ring;
  links = c.send_out.new.links;
}

done : (c : After-count)
    → IsDone (view_of c.self.inside) (view_of c.self.inside).local.phases.cycle c.args.due
    (filled c.while_marking-met.result.now) c.args.extra (left c)
done c =
    let n : NodeView = view_of c.self.inside in
    let us = filled c.while_marking-met.result.now in
    subst (λ (k : ℕ). IsDone n k c.args.due us c.args.extra (left c)) c.cycle-current.ensures.value
    (record {
      heap = c.mark.ensures.heap
          ∙ ap (λ (h : Heap). with_extra c.args.extra
          (make_all_grey n.local.own c.cycle-current.result (listed c.args.extra h) us))
          c.make_room.ensures.same.heap;
      keys = c.in_ok-marks.ensures.keys;
      ring = c.count.ensures
          ∙ ap (λ (k : ℕ). extra_ring c.cycle-current.result c.args.extra
          (counted_marks k n.local.ring)) c.in_ok-marks.ensures.count;
      sent = c.in_ok-marks.ensures.done;
    })

pub invariant_of-self : goal.invariant_of-self
invariant_of-self c =
    let same = c.make_room.ensures.same in
    let n : NodeView = view_of c.self.inside in
    sound-heap c.self.invariant
    (subst (λ (h : Heap). IsNode (with_heap n h)) (sym same.heap) c.self.invariant.node) same.limit

pub invariant_of-self-in_err-marks : goal.invariant_of-self-in_err-marks
invariant_of-self-in_err-marks c =
    let same = c.make_room.ensures.same in
    let left = c.in_err-marks.ensures.unchanged in
    record {
      node = subst IsNode (sym (parts-same (view_of c.self.inside) same.heap left.0 refl left.1))
          c.self.invariant.node;
      limit = same.limit ∙ c.self.invariant.limit;
    }

pub invariant_of-self-2 : goal.invariant_of-self-2
invariant_of-self-2 c =
    let at = goal.at.invariant_of-self-2 c in
    record {
      node =
          here-stands (plan at.After-is_empty) c.self.invariant.node (done at.After-count)
          (ready at.After-count-arg-1)
          (rw (← c.self.view_is) at c.requires.extra)
          c.in_ok-marks.ensures.sound;
      limit = c.mark.ensures.limit ∙ c.make_room.ensures.same.limit ∙ c.self.invariant.limit;
    }

pub returns : goal.returns
returns c =
    let at = goal.at.returns c in
    let n : NodeView = view_of c.self.inside in
    rw (← c.self.view_is)
    (runs-same (stays at.After-is_empty)
    (runs-done (here-run (plan at.After-is_empty) c.self.invariant.node (done at.After-count))))
