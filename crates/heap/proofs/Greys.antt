-- The heap after an object in the arena is marked.
use Rattle.std.proofs.Common.{◌≡◌, ℕ, ◌+◌, ◌==◌, not, true, false, List, [], ◌∷◌, ◌++◌, Vec, Global, Some, None, refl, sym, ap, ◌∙◌, inl, inr, arith}
use Rattle.std.proofs.lemmas.Bool.{cond-true, cond-false}
use Rattle.std.proofs.lemmas.Bool.Decides.{eqb_tells}
use Rattle.ids.specs.declared.names.Ref.{Ref}
use Rattle.arena.specs.Arena.{get, with_value}
use Rattle.arena.specs.declared.Key.{Key}
use Rattle.model.specs.State.{Object, Heap}
use Rattle.model.specs.Heaps.{object_at, with_rewritten}
use Rattle.model.specs.Shading.{is_unmarked, with_mark, make_grey}
use Rattle.model.proofs.IdleWrites.{with_rewritten-kept}
use Rattle.heap.specs.Heap.{HeapView, Became}
use Rattle.heap.specs.Stored.{view_of}
use Rattle.heap.specs.declared.heap.Heap.TheInside.{Inside}
use Rattle.heap.proofs.Writes.{key_of, IsStored, rewritten-stored, object_at-stored}

-- a slot is added at the end of the list of grey ones, within its room
pub record IsPushed (before after : Vec ℕ Global) (slot : ℕ) : Type 0 where
  pub items : after.items ≡ before.items ++ slot ∷ []
  pub len : after.len ≡ before.len + 1
  pub cap : after.cap ≡ before.cap

-- the heap after a write through the arena
abbrev pub written : Inside → Key → Object → Inside
written h key x = record h { objects = with_value h.objects key x }

unmarked-stored : {h : Inside} {r : Ref} {key : Key} {o : Object} (cycle : ℕ) → IsStored h r key o
    → is_unmarked cycle (object_at (view_of h).heap r) ≡ not (o.mark == cycle)
unmarked-stored {h = h} {r = r} {key = key} cycle stored =
    ap (is_unmarked cycle) (object_at-stored h r key stored.name ∙ sym stored.there)

-- an unmarked object turns grey
pub turns-grey : {h : Inside} {r : Ref} {key : Key} {o x : Object} (cycle : ℕ)
    (grey : Vec ℕ Global) → IsStored h r key o → x ≡ with_mark cycle o
    → not (o.mark == cycle) ≡ true → IsPushed h.grey grey r.slot
    → Became (view_of h) (view_of (record (written h key x) { grey = grey }))
    (make_grey cycle (view_of h).heap r) 1
unfolding make_grey
turns-grey {h = h} {r = r} {key = key} {o = o} {x = x} cycle grey stored made white pushed =
    let g : Heap = (view_of h).heap in
    let next = h.grey.items ++ r.slot ∷ [] in
    let written = rewritten-stored h r key (with_mark cycle) o x stored made in
    let turned = cond-true (is_unmarked cycle (object_at g r))
    (record (with_rewritten g r (with_mark cycle)) { grey = g.grey ++ r.slot ∷ [] }) g
    (unmarked-stored cycle stored ∙ white) in
    record {
      heap = ap (λ (ks : List ℕ). record (view_of (record h {
        objects = with_value h.objects key x;
      })).heap { grey = ks }) pushed.items
          ∙ ap (λ (v : HeapView). record v.heap { grey = next }) written
          ∙ sym turned;
      limit = refl;
      room = omega (arith, pushed.len, pushed.cap);
      letter_room = refl;
    }

-- an object that is marked already, or isn't there, stays as it is
pub stays-marked : {h : Inside} {r : Ref} {key : Key} {o x : Object} (cycle : ℕ)
    → IsStored h r key o → x ≡ with_mark cycle o → not (o.mark == cycle) ≡ false
    → Became (view_of h) (view_of (written h key x)) (make_grey cycle (view_of h).heap r) 1
unfolding make_grey
stays-marked {h = h} {r = r} {key = key} {o = o} {x = x} cycle stored made marked =
    let g : Heap = (view_of h).heap in
    let found = object_at-stored h r key stored.name ∙ sym stored.there in
    let black = cond-false (is_unmarked cycle (object_at g r))
    (record (with_rewritten g r (with_mark cycle)) { grey = g.grey ++ r.slot ∷ [] }) g
    (unmarked-stored cycle stored ∙ marked) in
    let kept = with_rewritten-kept g r (with_mark cycle) (same_mark found) in
    let written = rewritten-stored h r key (with_mark cycle) o x stored made in
    record {
      heap = ap (λ (v : HeapView). v.heap) written ∙ kept ∙ sym black;
      limit = refl;
      room = omega arith;
      letter_room = refl;
    }
  where
    is_mark : o.mark ≡ cycle
    is_mark = elim (eqb_tells o.mark cycle) [
      | inl same ↦ same.1
      | inr differs ↦ absurd (let h : not false ≡ false = rw differs.0 at marked in cc)
    ]

    same_mark : object_at (view_of h).heap r ≡ Some o → (p : Object)
        → object_at (view_of h).heap r ≡ Some p → with_mark cycle p ≡ p
    same_mark found p there =
        let same : o ≡ p = cc in
        rw (← same) (ap (λ (m : ℕ). record o { mark = m }) (sym is_mark))

pub stays-absent : (h : Inside) (r : Ref) (key : Key) (cycle : ℕ) → key ≡ key_of r
    → None ≡ get h.objects key
    → Became (view_of h) (view_of h) (make_grey cycle (view_of h).heap r) 1
unfolding make_grey
stays-absent h r key cycle name absent =
    let g : Heap = (view_of h).heap in
    let none : is_unmarked cycle (object_at g r) ≡ false =
    ap (is_unmarked cycle) (object_at-stored h r key name ∙ sym absent) in
    record {
      heap = sym (cond-false (is_unmarked cycle (object_at g r))
          (record (with_rewritten g r (with_mark cycle)) { grey = g.grey ++ r.slot ∷ [] }) g none);
      limit = refl;
      room = omega arith;
      letter_room = refl;
    }
