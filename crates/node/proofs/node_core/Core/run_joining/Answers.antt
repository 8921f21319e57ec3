use Rattle.std.proofs.Common.{◌≡◌, ℕ, ◌<◌, ◌==◌, ◌++◌, true, false, cond, List, [], length, map, ap, refl, sym, ◌∙◌, subst, arith}
use Rattle.std.proofs.lemmas.Bool.{ne_eqb}
use Rattle.std.proofs.lemmas.Result.{err_from_is_err_and}
use Rattle.std.specs.List.{AllByRecursion}
use Rattle.ids.specs.declared.limits.TheConstants.{GREATEST_COUNTED}
use Rattle.ids.specs.declared.names.Ref.{Ref}
use Rattle.model.specs.Counting.{counted_marks}
use Rattle.model.specs.Effects.{then}
use Rattle.model.specs.Shading.{filled, join, make_all_grey, marks_for, roots, unasked}
use Rattle.model.specs.State.{Heap, Phases}
use Rattle.model.specs.Steps.{fits}
use Rattle.model.specs.References.{IsWithin}
use Rattle.model.specs.View.{NodeView, used}
use Rattle.model.proofs.Appending.{length-append_to}
use Rattle.model.proofs.References.{holds-roots}
use Rattle.cycles.specs.Phases.{IsPhases}
use Rattle.cycles.specs.Balances.{IsBounded}
use Rattle.cycles.proofs.Bounds.{bounded_entered}
use Rattle.link.specs.Links.{IsLinks}
use Rattle.remote_marks.specs.Asked.{AreSent, IsRefused, all_appended}
use Rattle.node.specs.Errands.{IsRun, MayJoin, errand_here, extra_ring, extra_sends, listed, with_extra}
use Rattle.node.specs.Inside.{view_of}
use Rattle.node.specs.Invariant.{IsNode, links_of}
use Rattle.node.proofs.Balances.{balance-small}
use Rattle.node.proofs.Errands.{IsDone, Parts, Plan, Ready, here-run, here-stands, joined-stands, joined_node, joined_plan, joining-refused, joining-run, marked-small, nodes-inside}
use Rattle.node.proofs.Events.{parts-same, with_parts}
use Rattle.node.proofs.Sound.{sound-heap, with_heap}
use Rattle.node.proofs.node_core.Core.run_joining.Goals as goal
use Rattle.node.proofs.node_core.Core.run_joining.Goals.{After-make_room, After-count-arg-1, After-count}

-- ---- what several goals need

within : (c : After-make_room)
    → AllByRecursion (IsWithin (view_of c.self.inside).local.shape) (filled c.args.references.now)
within c =
    rw (← c.self.view_is) at c.requires.within

may : (c : After-make_room) → MayJoin c.args.cycle (view_of c.self.inside).local.phases
may c =
    rw (← c.self.view_is) at c.requires.joins

before : (c : After-make_room)
    → ((view_of c.self.inside).local.phases.ended == c.args.cycle) ≡ false
before c =
    let p : Phases = (view_of c.self.inside).local.phases in
    ne_eqb p.ended c.args.cycle
    (λ same. absurd
    (omega (arith, same, (may c).next, c.self.invariant.node.phases.phases.ended)))

-- what is said of the heap as room was made in it holds of the heap before
of-heap : (c : After-make_room) (P : Heap → Type 0) → P c.make_room.new.self.heap
    → P (view_of c.self.inside).local.heap
of-heap c P h = subst P c.make_room.ensures.same.heap h

-- the node once it has joined
stands : (c : After-count-arg-1) → IsNode (joined_node (view_of c.self.inside) c.args.cycle)
stands c =
    let at = (goal.at.count-requires-clause-small c).After-make_room in
    let n : NodeView = view_of c.self.inside in
    joined-stands n c.args.cycle (before at) c.self.invariant.node (may at)
    (subst IsPhases c.join.ensures.done c.join.ensures.sound)
    (of-heap at (λ (h : Heap). IsLinks (all_appended (links_of n)
    (marks_for c.args.cycle (unasked n.local.own [] (filled (roots h))))))
    c.in_ok-asked.ensures.joined)

ring-joined : (c : After-count-arg-1)
    → c.count_marks.new.self ≡ (joined_node (view_of c.self.inside) c.args.cycle).local.ring
ring-joined c =
    let n : NodeView = view_of c.self.inside in
    c.count_marks.ensures
    ∙ ap (λ (k : ℕ). counted_marks k c.join-2.new.self)
    (c.in_ok-asked.ensures.roots
    ∙ ap (λ (h : Heap). length (unasked n.local.own [] (filled (roots h))))
    c.make_room.ensures.same.heap)
    ∙ ap (counted_marks _) c.join-2.ensures

abbrev plan : (c : After-count-arg-1) → Plan (joined_node (view_of c.self.inside) c.args.cycle)
plan c =
    joined_plan (view_of c.self.inside) c.args.cycle
    (before (goal.at.count-requires-clause-small c).After-make_room) c.args.due
    c.args.references.now c.args.extra

ready : (c : After-count-arg-1) → Ready (plan c)
ready c =
    let at = (goal.at.count-requires-clause-small c).After-make_room in
    let n : NodeView = view_of c.self.inside in
    record {
      node = stands c;
      within = within at;
      marks = of-heap at (λ (h : Heap).
          let first : List Ref = unasked n.local.own [] (filled (roots h)) in
          IsLinks (all_appended (all_appended (links_of n) (marks_for c.args.cycle first))
          (marks_for c.args.cycle
          (cond c.args.due (unasked n.local.own first (filled c.args.references.now)) []))))
          c.in_ok-asked.ensures.marked;
    }

-- the parts after the code's calls
abbrev left : After-count → Parts
left c = record {
  heap = c.mark.new.heap.heap;
  asked = c.in_ok-asked.field-0.asked.keys;
  ring = c.count.new.ring;
  links = c.send_joining.new.links;
}

done : (c : After-count)
    → IsDone (joined_node (view_of c.self.inside) c.args.cycle) c.args.cycle c.args.due
    (filled c.args.references.now) c.args.extra (left c)
done c =
    let at = (goal.at.returns c).After-make_room in
    let n : NodeView = view_of c.self.inside in
    let cycle = c.args.cycle in
    let x = c.args.extra in
    let rs : List Ref = filled c.args.references.now in
    let told = c.in_ok-asked.ensures in
    let first : List Ref = unasked n.local.own [] (filled (roots c.make_room.new.self.heap)) in
    of-heap at (λ (h : Heap).
    IsDone (joined_node (record n { local = record n.local { heap = h } }) cycle) cycle c.args.due
    rs x (left c))
    (record {
      heap = c.mark.ensures.heap
          ∙ ap (λ (h : Heap). with_extra x (make_all_grey n.local.own cycle (listed x h) rs))
          c.shade_held.ensures.heap;
      keys = told.keys;
      ring = c.count.ensures
          ∙ ap (extra_ring cycle x)
          (ap (λ (k : ℕ). counted_marks k c.count_marks.new.self) told.marks
          ∙ ap (counted_marks _)
          (c.count_marks.ensures
          ∙ ap (λ (k : ℕ). counted_marks k c.join-2.new.self) told.roots
          ∙ ap (counted_marks _) c.join-2.ensures));
      sent = subst (λ (k : ℕ). AreSent
          (marks_for cycle (cond c.args.due (unasked n.local.own first rs) [])
          ++ extra_sends n.local.own k cycle x)
          (all_appended (links_of n) (marks_for cycle first)) c.send_joining.new.links)
          (sym (length-append_to n.links (marks_for cycle first))) told.done;
    })

-- ---- the goals

pub send_joining-requires-clause-roots : goal.send_joining-requires-clause-roots
send_joining-requires-clause-roots c =
    let n : NodeView = view_of c.self.inside in
    subst
    (λ (h : Heap). AllByRecursion (λ (r : Ref). r.node < length n.links) (filled (roots h)))
    (sym c.make_room.ensures.same.heap)
    (nodes-inside n _ c.self.invariant.node
    (holds-roots (IsWithin n.local.shape) n.local.heap c.self.invariant.node.references))

pub send_joining-requires-clause-nodes : goal.send_joining-requires-clause-nodes
send_joining-requires-clause-nodes c =
    nodes-inside (view_of c.self.inside) _ c.self.invariant.node
    (within (goal.at.send_joining-requires-clause-nodes c).After-make_room)

pub send_joining-requires-clause-sound : goal.send_joining-requires-clause-sound
send_joining-requires-clause-sound c = c.self.invariant.node.links.links

pub returns-in_err-asked : goal.returns-in_err-asked
returns-in_err-asked c =
    let at = (goal.at.returns-in_err-asked c).After-make_room in
    let n : NodeView = view_of c.self.inside in
    let cycle = c.args.cycle in
    let left = c.in_err-asked.ensures in
    let r = err_from_is_err_and c.from_residual-in_err-asked.result
    c.from_residual-in_err-asked.ensures.1 in
    let told = of-heap at (λ (h : Heap).
    let first : List Ref = unasked n.local.own [] (filled (roots h)) in
    IsRefused (links_of n)
    (marks_for cycle first
    ++ (marks_for cycle
    (cond c.args.due (unasked n.local.own first (filled c.args.references.now)) [])
    ++ extra_sends n.local.own (length n.links) cycle c.args.extra))
    c.in_err-asked.field-0.0) left.refused in
    rw (r.1, r.2)
    (rw (← c.self.view_is)
    (record {
      done = tt;
      refused = λ other.
          let spent = told other in (
            spent.0,
            joining-refused n cycle (before at) c.args.due c.args.references.now c.args.extra
                c.self.invariant.node.links.width spent.1,
          );
      unchanged = parts-same n c.make_room.ensures.same.heap refl refl left.unchanged;
    }))

pub shade_held-requires : goal.shade_held-requires
shade_held-requires c =
    omega (
      arith,
      c.in_ok-make_room.ensures.room.room,
      c.root_count.ensures.count,
      ap (λ (h : Heap). length (roots h)) c.make_room.ensures.same.heap,
    )

pub mark-requires-clause-room : goal.mark-requires-clause-room
mark-requires-clause-room c =
    omega (
      arith,
      c.in_ok-make_room.ensures.room.room,
      c.shade_held.ensures.room,
      c.root_count.ensures.count,
      ap (λ (h : Heap). length (roots h)) c.make_room.ensures.same.heap,
    )

pub join-requires-clause-next : goal.join-requires-clause-next
join-requires-clause-next c = (may (goal.at.join-requires-clause-next c).After-make_room).next

pub join-requires-clause-swept : goal.join-requires-clause-swept
join-requires-clause-swept c = (may (goal.at.join-requires-clause-swept c).After-make_room).swept

pub join-requires-2 : goal.join-requires-2
join-requires-2 c = balance-small (view_of c.self.inside) c.self.invariant.node

pub count_marks-requires-clause-small : goal.count_marks-requires-clause-small
count_marks-requires-clause-small c =
    let n : NodeView = view_of c.self.inside in
    subst (IsBounded GREATEST_COUNTED) (sym c.join-2.ensures)
    (bounded_entered GREATEST_COUNTED n.local.ring (balance-small n c.self.invariant.node))

pub count-requires-clause-small : goal.count-requires-clause-small
count-requires-clause-small c =
    subst (IsBounded GREATEST_COUNTED) (sym (ring-joined c))
    (balance-small (joined_node (view_of c.self.inside) c.args.cycle) (stands c))

pub count-requires-clause-counted : goal.count-requires-clause-counted
count-requires-clause-counted c =
    let at = (goal.at.count-requires-clause-small c).After-make_room in
    let n : NodeView = view_of c.self.inside in
    let rs : List Ref = filled c.args.references.now in
    let count = of-heap at (λ (h : Heap). c.in_ok-asked.field-0.marks
    ≡ length (cond c.args.due
    (unasked n.local.own (unasked n.local.own [] (filled (roots h))) rs) []))
    c.in_ok-asked.ensures.marks in
    subst (IsBounded GREATEST_COUNTED)
    (sym (ap (λ (k : ℕ). counted_marks k c.count_marks.new.self) count
    ∙ ap (counted_marks _) (ring-joined c)))
    (marked-small (plan c) (ready c))

pub invariant_of-self : goal.invariant_of-self
invariant_of-self c =
    let same = c.make_room.ensures.same in
    let n : NodeView = view_of c.self.inside in
    sound-heap c.self.invariant
    (subst (λ (h : Heap). IsNode (with_heap n h)) (sym same.heap) c.self.invariant.node) same.limit

pub invariant_of-self-in_err-asked : goal.invariant_of-self-in_err-asked
invariant_of-self-in_err-asked c =
    let same = c.make_room.ensures.same in
    record {
      node = subst IsNode (sym (parts-same (view_of c.self.inside) same.heap refl refl
          c.in_err-asked.ensures.unchanged)) c.self.invariant.node;
      limit = same.limit ∙ c.self.invariant.limit;
    }

pub invariant_of-self-2 : goal.invariant_of-self-2
invariant_of-self-2 c =
    let here = goal.at.invariant_of-self-2 c in
    let n : NodeView = view_of c.self.inside in
    record {
      node =
          subst
          (λ (p : Phases). IsNode (with_parts n c.mark.new.heap.heap
          c.in_ok-asked.field-0.asked.keys p c.count.new.ring c.send_joining.new.links))
          (sym c.join.ensures.done)
          (here-stands (plan here.After-count-arg-1) (stands here.After-count-arg-1)
          (done here.After-count) (ready here.After-count-arg-1)
          (rw (← c.self.view_is) at c.requires.extra)
          c.in_ok-asked.ensures.sound);
      limit = c.mark.ensures.limit ∙ c.shade_held.ensures.limit
          ∙ c.make_room.ensures.same.limit ∙ c.self.invariant.limit;
    }

pub returns : goal.returns
returns c =
    let here = goal.at.returns c in
    let at = here.After-make_room in
    let n : NodeView = view_of c.self.inside in
    let cycle = c.args.cycle in
    let rs : List Ref = filled c.args.references.now in
    let fit = of-heap at (λ (h : Heap). fits (map used n.links)
    (marks_for cycle (unasked n.local.own [] (filled (roots h)))) ≡ true)
    c.in_ok-asked.ensures.fits in
    let run : IsRun (then (join n.local cycle) (errand_here c.args.due rs c.args.extra)) n
    (with_parts n c.mark.new.heap.heap c.in_ok-asked.field-0.asked.keys c.join.new.self
    c.count.new.ring c.send_joining.new.links) =
    subst
    (λ (p : Phases). IsRun (then (join n.local cycle) (errand_here c.args.due rs c.args.extra)) n
    (with_parts n c.mark.new.heap.heap c.in_ok-asked.field-0.asked.keys p c.count.new.ring
    c.send_joining.new.links))
    (sym c.join.ensures.done)
    (joining-run n cycle (before at) c.args.due c.args.references.now c.args.extra fit
    (here-run (plan here.After-count-arg-1) (stands here.After-count-arg-1)
    (done here.After-count))) in
    rw (← c.self.view_is)
    (record { done = run; refused = tt; unchanged = tt })
