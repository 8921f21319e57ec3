-- A node after it has seen to references, and after it has joined a cycle.
use Rattle.std.proofs.Common.{◌≡◌, ℕ, ◌+◌, ◌<◌, ◌≤◌, ◌==◌, Bool, true, cond, List, [], ◌∷◌, ◌++◌, length, refl, sym, ◌∙◌, subst, ⊎_elim, arith}
use Rattle.std.specs.List.{AllByRecursion}
use Rattle.std.proofs.lemmas.Bool.{cases_Bool, cond_both}
use Rattle.std.proofs.lemmas.List.{length-set, length-map}
use Rattle.ids.specs.declared.names.Ref.{Ref}
use Rattle.msg.specs.declared.body.Message.{Message}
use Rattle.model.specs.State.{Heap, LocalState}
use Rattle.model.specs.Effects.{Work}
use Rattle.model.specs.Heaps.{object_at, with_rewritten}
use Rattle.model.specs.Shading.{enter, filled, is_open, is_unmarked, join, make_all_grey, make_grey, mark_for, marks_for, roots, unasked, with_mark, seen, see_to}
use Rattle.model.specs.References.{IsWithin}
use Rattle.model.specs.View.{NodeView, append_to}
use Rattle.model.specs.Counting.{counted_marks}
use Rattle.model.proofs.References.{holds-make_all_grey, holds-roots}
use Rattle.model.proofs.Stocks.{held-before, open-apart, stocked-greyed, stocked-later}
use Rattle.model.proofs.Asking.{asked-more, asked-none}
use Rattle.model.proofs.Shading.{see_to-open, see_to-closed}
use Rattle.cycles.specs.Phases.{IsPhases, in_cycle}
use Rattle.cycles.specs.Balances.{IsBounded}
use Rattle.cycles.proofs.Bounds.{bounded_entered, bounded_marks}
use Rattle.link.specs.Links.{IsLinks}
use Rattle.remote_marks.specs.Asked.{all_appended}
use Rattle.node.specs.Errands.{MayJoin}
use Rattle.node.specs.Invariant.{IsNode, links_of, number_sum}
use Rattle.node.proofs.Appended.{MaySend, linked-appended, linked-later, marks-may, none-may, numbers-appended}
use Rattle.node.proofs.Events.{after_step}

-- ---- the heap keeps its slots and its registers

abbrev SameSize : Heap → Heap → Type 0
SameSize g h = (length g.slots ≡ length h.slots) × (g.registers ≡ h.registers)

grey-one : (cycle : ℕ) (h : Heap) (r : Ref) → SameSize (make_grey cycle h r) h
unfolding make_grey
grey-one cycle h r =
    cond_both
    (is_unmarked cycle (object_at h r))
    (record (with_rewritten h r (with_mark cycle)) { grey = h.grey ++ r.slot ∷ [] })
    h
    (λ g. SameSize g h)
    (λ _. (length-set h.slots r.slot _, refl))
    (λ _. (refl, refl))

grey-all : (own cycle : ℕ) (h : Heap) (rs : List Ref)
    → SameSize (make_all_grey own cycle h rs) h
grey-all own cycle h [] = (refl, refl)
grey-all own cycle h (r ∷ rs) =
    let g : Heap = cond (r.node == own) (make_grey cycle h r) h in
    let one : SameSize g h =
    cond_both (r.node == own) (make_grey cycle h r) h (λ z. SameSize z h)
    (λ _. grey-one cycle h r) (λ _. (refl, refl)) in
    let others = grey-all own cycle g rs in
    (others.0 ∙ one.0, others.1 ∙ one.1)

pub grey-slots : (own cycle : ℕ) (h : Heap) (rs : List Ref)
    → length (make_all_grey own cycle h rs).slots ≡ length h.slots
grey-slots own cycle h rs = (grey-all own cycle h rs).0

pub seen-registers : (due : Bool) (rs : List Ref) (p : LocalState)
    → (see_to due rs p).local.heap.registers ≡ p.heap.registers
unfolding see_to
seen-registers due rs p = (grey-all p.own p.phases.cycle p.heap (cond (is_open p) rs [])).1

-- ---- the node

module _ (n : NodeView) (due : Bool) (rs : List Ref) (old : IsNode n)
    (all : AllByRecursion (IsWithin n.local.shape) rs) where
  node-open : is_open n.local ≡ true
      → IsLinks (all_appended (links_of n) (seen due rs n.local).sends)
      → IsNode (after_step n (seen due rs n.local).local (seen due rs n.local).sends)
  node-open opened links =
      let p : LocalState = n.local in
      let new : List Ref = unasked p.own p.asked rs in
      let marked : List Ref = cond due new [] in
      let ms : List (ℕ × Message) = marks_for p.phases.cycle marked in
      let may =
      cond_both due new []
      (λ (us : List Ref). MaySend p.shape p.own p.phases.cycle (marks_for p.phases.cycle us))
      (λ _. marks-may p.shape p.own p.phases.cycle p.asked rs old.phases.phases.within all)
      (λ _. none-may p.shape p.own p.phases.cycle) in
      let many : number_sum n.links p.got + length marked
      ≡ number_sum (append_to n.links ms) p.got =
      omega (
        arith,
        numbers-appended p.shape p.own p.phases.cycle (links_of n) ms old.links may,
        length-map marked (mark_for p.phases.cycle),
      ) in
      record {
        shape = old.shape;
        own = old.own;
        references = holds-make_all_grey (IsWithin p.shape) p.own p.phases.cycle p.heap rs
            old.references;
        stocked = stocked-greyed rs (open-apart p opened) old.stocked;
        asked = asked-more p.shape p.own p.asked rs old.asked all;
        phases = record {
          phases = old.phases.phases;
          cursor = omega (arith, old.phases.cursor, grey-slots p.own p.phases.cycle p.heap rs);
          reports = old.phases.reports;
          heard = old.phases.heard;
        };
        token = old.token;
        links = linked-appended p.shape p.own p.phases.cycle (links_of n) ms old.links may links;
        balance = subst (λ (most : ℕ). IsBounded most (counted_marks (length marked) p.ring)) many
            (bounded_marks (number_sum n.links p.got) (length marked) p.ring old.balance);
      }

  pub node-sees : IsLinks (all_appended (links_of n) (see_to due rs n.local).sends)
      → IsNode (after_step n (see_to due rs n.local).local (see_to due rs n.local).sends)
  node-sees =
      ⊎_elim {C = P (see_to due rs n.local)}
      (λ opened. subst P (sym (see_to-open due rs n.local opened)) (node-open opened))
      (λ shut. subst P (sym (see_to-closed due rs n.local shut)) (λ _. old))
      (cases_Bool (is_open n.local))
    where
      P : Work → Type 0
      P w = IsLinks (all_appended (links_of n) w.sends) → IsNode (after_step n w.local w.sends)

-- ---- the node joins a cycle

pub node-entered : (n : NodeView) (cycle : ℕ) → IsNode n → MayJoin cycle n.local.phases
    → IsPhases (in_cycle cycle n.local.phases) → IsNode (record n { local = enter n.local cycle })
unfolding enter
node-entered n cycle old may phases =
    let p : LocalState = n.local in
    let sound = old.phases.phases in
    let more : p.phases.cycle ≤ cycle = omega (arith, may.next) in
    let before : p.phases.ended < cycle = omega (arith, may.next, sound.ended) in
    let done : p.phases.ended ≡ p.phases.cycle =
    omega (arith, may.swept, sound.swept, sound.ended) in
    record {
      shape = old.shape;
      own = old.own;
      references = old.references;
      stocked = stocked-later old.stocked cycle p.phases.ended more (old.stocked.calm done);
      asked = asked-none p.shape p.own;
      phases = record {
        phases = phases;
        cursor = omega arith;
        reports = old.phases.reports;
        heard = old.phases.heard;
      };
      token = held-before cycle p.phases.ended p.ring.token before;
      links = linked-later cycle more old.links;
      balance = bounded_entered (number_sum n.links p.got) p.ring old.balance;
    }

pub node-joined : (n : NodeView) (cycle : ℕ) → IsNode n → MayJoin cycle n.local.phases
    → IsPhases (in_cycle cycle n.local.phases)
    → IsLinks (all_appended (links_of n) (join n.local cycle).sends)
    → IsNode (after_step n (join n.local cycle).local (join n.local cycle).sends)
unfolding join enter
node-joined n cycle old may phases =
    node-sees (record n { local = enter n.local cycle }) true (filled (roots n.local.heap))
    (node-entered n cycle old may phases)
    (holds-roots (IsWithin n.local.shape) n.local.heap old.references)
