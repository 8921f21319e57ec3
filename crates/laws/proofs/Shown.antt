-- What other nodes hear from a node. The references in its messages to its own objects name shared
-- objects afterwards. Shared objects stay shared. And a generation that was given out is never
-- again that of a private object.
use Rattle.std.proofs.Common.{◌≡◌, ◌≢◌, ℕ, ◌==◌, ◌⊎◌, ◌&&◌, Bool, true, cond, not, List, [], ◌∷◌, ◌++◌, refl, sym, ap, ◌∙◌, subst, ⊎_elim, inl, inr}
use Rattle.std.proofs.lemmas.Bool.{cond_both, cond-true, and_from, eq-eqb}
use Rattle.ids.specs.declared.names.Ref.{Ref}
use Rattle.msg.specs.declared.body.Body.{Body}
use Rattle.msg.specs.declared.body.Body.TheVariants as body
use Rattle.msg.specs.declared.body.Message.{Message}
use Rattle.model.specs.declared.event.Event.{Event}
use Rattle.model.specs.State.{Object, Occupied, Heap, LocalState, slot_at}
use Rattle.model.specs.Heaps.{with_rewritten, sharing, share_all, new_object, with_object, next_slot, generation_for, object_at}
use Rattle.model.specs.Effects.{Work, at_rest, then}
use Rattle.model.specs.Counting.{is_reference, is_idle, append, announce, stamped}
use Rattle.model.specs.Shading.{is_in, is_open, is_unmarked, with_mark, make_grey, make_all_grey, unasked, mark_for, marks_for, see_to, enter}
use Rattle.model.specs.Collecting.{is_garbage, looked_at, reports_sweep, after_sweep}
use Rattle.model.specs.Reclaiming.{aged, freed_within}
use Rattle.model.specs.Steps.{is_own, made, mentioned, carried, taken_in, settled, count_in, share}
use Rattle.model.specs.Cuts.{Among}
use Rattle.model.proofs.Ages.{aged-back}
use Rattle.model.proofs.Freeing.{Freed, freed-left, freed-some, freed-reclaiming, garbage-test}
use Rattle.model.proofs.Walk.{KeepsShared, quiet-shared, Collects, Walks, place-walks, post-walks, own-walks, taken-walks, work_in}
use Rattle.laws.proofs.Lookups.{among-append}
use Rattle.laws.proofs.Invariant.{FreeSlots}
use Rattle.laws.proofs.Slots.{rewritten-at, rewritten-back, object-where}
use Rattle.laws.proofs.Meets.{in-append, unasked-from, marks-from}
use Rattle.laws.proofs.Past.{PastAt, Ages, ages-same, ages-through, ages-collects, ages-rewritten, ages-walks, new-not_past}
use Rattle.laws.proofs.Light.{idle-mentions}
use Rattle.laws.proofs.PhaseSteps.{others-are}

-- an object of this generation in the slot, if there is one, is shared
abbrev pub IsShownAt : Heap → ℕ → ℕ → Type 0
IsShownAt h k g = (o : Object) → slot_at h k ≡ Occupied g o → o.shared ≡ true

-- ---- heaps

-- what was shown before is shown afterwards
abbrev KeepsShown : Heap → Heap → Type 0
KeepsShown h g = (k e : ℕ) → IsShownAt h k e → IsShownAt g k e

shown-rewritten : (h : Heap) (r : Ref) (f : Object → Object) → KeepsShared f
    → KeepsShown h (with_rewritten h r f)
shown-rewritten h r f keeps k e shown o there =
    let found = rewritten-back h r f k e o there in
    let before : found.0.shared ≡ true = shown found.0 found.1 in
    ⊎_elim {C = o.shared ≡ true}
    (λ (same : o ≡ found.0). ap (λ (z : Object). z.shared) same ∙ before)
    (λ (now : o ≡ f found.0). ap (λ (z : Object). z.shared) now ∙ keeps found.0 before)
    found.2

shown-grey : (cycle : ℕ) (h : Heap) (r : Ref) → KeepsShown h (make_grey cycle h r)
unfolding make_grey
shown-grey cycle h r k e shown =
    cond_both (is_unmarked cycle (object_at h r))
    (record (with_rewritten h r (with_mark cycle)) { grey = h.grey ++ r.slot ∷ [] }) h
    (λ (z : Heap). IsShownAt z k e)
    (λ _. shown-rewritten h r (with_mark cycle) (λ o is. is) k e shown) (λ _. shown)

shown-all_grey : (own cycle : ℕ) (h : Heap) (rs : List Ref)
    → KeepsShown h (make_all_grey own cycle h rs)
shown-all_grey own cycle h [] k e shown = shown
shown-all_grey own cycle h (r ∷ rs) k e shown =
    shown-all_grey own cycle (cond (r.node == own) (make_grey cycle h r) h) rs k e
    (cond_both (r.node == own) (make_grey cycle h r) h (λ (z : Heap). IsShownAt z k e)
    (λ _. shown-grey cycle h r k e shown) (λ _. shown))

shown-freed : {h g : Heap} → Freed h g → KeepsShown h g
shown-freed freed k e shown o there = shown o (freed-left freed k e o there)

-- what is left becomes old
shown-aged : (h : Heap) → KeepsShown h (aged h)
shown-aged h k e shown o there =
    let found = aged-back h k e o there in
    ap (λ (z : Object). z.shared) found.2 ∙ shown found.0 found.1

-- a new object has a generation that wasn't given out before
shown-object : (h : Heap) (o : Object) → FreeSlots h.slots h.free → (k e : ℕ) → PastAt h k e
    → IsShownAt h k e → IsShownAt (with_object h o) k e
shown-object h o free k e past shown y there =
    ⊎_elim {C = y.shared ≡ true}
    (λ was. shown y was)
    (λ now.
    absurd (let here : PastAt h (next_slot h.free h.slots) (generation_for h.free h.slots) =
    subst (λ (z : ℕ). PastAt h z (generation_for h.free h.slots)) now.0
    (subst (λ (z : ℕ). PastAt h k z) now.1 past) in
    new-not_past h.free h.slots free here.used here.past))
    (object-where h.free h.slots o free k e y there)

-- ---- objects become shared

shown-shared : (h : Heap) (r : Ref) → IsShownAt (with_rewritten h r sharing) r.slot r.generation
shown-shared h r o there =
    let found = rewritten-at h r sharing r.slot r.generation o there in
    ap (λ (z : Object). z.shared)
    (found.2
    ∙ cond-true ((r.slot == r.slot) && (r.generation == r.generation)) (sharing found.0) found.0
    (and_from _ _ (eq-eqb r.slot r.slot refl) (eq-eqb r.generation r.generation refl)))

shown-share_all : (own : ℕ) (h : Heap) (rs : List Ref) → KeepsShown h (share_all own h rs)
shown-share_all own h [] k e shown = shown
shown-share_all own h (r ∷ rs) k e shown =
    shown-share_all own (cond (r.node == own) (with_rewritten h r sharing) h) rs k e
    (cond_both (r.node == own) (with_rewritten h r sharing) h (λ (z : Heap). IsShownAt z k e)
    (λ _. shown-rewritten h r sharing (λ o is. refl) k e shown) (λ _. shown))

-- the node's own objects among these references are shared
all-shared : (own : ℕ) (h : Heap) (rs : List Ref) (r : Ref) → Among r rs → r.node ≡ own
    → IsShownAt (share_all own h rs) r.slot r.generation
all-shared own h [] r never here = absurd never
all-shared own h (s ∷ rs) r (inl same) here =
    let now : Heap = cond (s.node == own) (with_rewritten h s sharing) h in
    let at : (s.node == own) ≡ true =
    eq-eqb s.node own (ap (λ (z : Ref). z.node) (sym same) ∙ here) in
    shown-share_all own now rs r.slot r.generation
    (subst (λ (z : Heap). IsShownAt z r.slot r.generation)
    (sym (cond-true (s.node == own) (with_rewritten h s sharing) h at))
    (subst (λ (z : Ref). IsShownAt (with_rewritten h s sharing) z.slot z.generation) (sym same)
    (shown-shared h s)))
all-shared own h (s ∷ rs) r (inr later) here =
    all-shared own (cond (s.node == own) (with_rewritten h s sharing) h) rs r later here

-- ---- what is heard from a node

-- what a node says of its own objects is shown afterwards, if it was given out before
abbrev SaysOnly : LocalState → Heap → List (ℕ × Message) → Type 0
SaysOnly p h ms =
    (to : ℕ) (x : Message) → Among (to, x) ms → (r : Ref) → Among r (mentioned x.body)
    → r.node ≡ p.own → PastAt p.heap r.slot r.generation → IsShownAt h r.slot r.generation

pub record Tells (p : LocalState) (w : Work) : Type 0 where
  pub own : w.local.own ≡ p.own
  pub ages : Ages p w.local
  pub shown : (k g : ℕ) → PastAt p.heap k g → IsShownAt p.heap k g → IsShownAt w.local.heap k g
  -- it asks only for other nodes' objects
  pub asks : (r : Ref) → is_in r w.local.asked ≡ true
      → (is_in r p.asked ≡ true) ⊎ (r.node ≢ p.own)
  pub says : SaysOnly p w.local.heap w.sends

tells-both : (p : LocalState) (w : Work) (f : LocalState → Work) → Tells p w
    → Tells w.local (f w.local) → Tells p (then w f)
tells-both p w f first second = record {
  own = second.own ∙ first.own;
  ages = ages-through first.ages second.ages;
  shown = λ k g past shown.
      second.shown k g (first.ages.past k g past) (first.shown k g past shown);
  asks = λ r asked.
      ⊎_elim {C = (is_in r p.asked ≡ true) ⊎ (r.node ≢ p.own)}
      (λ before. first.asks r before)
      (λ (far : r.node ≢ w.local.own). inr (λ (e : r.node ≡ p.own). far (e ∙ sym first.own)))
      (second.asks r asked);
  says = λ to x a r mention here past.
      ⊎_elim {C = IsShownAt (f w.local).local.heap r.slot r.generation}
      (λ before.
      second.shown r.slot r.generation (first.ages.past r.slot r.generation past)
      (first.says to x before r mention here past))
      (λ now.
      second.says to x now r mention (here ∙ sym first.own)
      (first.ages.past r.slot r.generation past))
      (among-append (to, x) w.sends (f w.local).sends a);
}

-- nothing is sent, and nothing is asked for
tells-quiet : (p q : LocalState) → q.own ≡ p.own → Ages p q → q.asked ≡ p.asked
    → ((k g : ℕ) → PastAt p.heap k g → IsShownAt p.heap k g → IsShownAt q.heap k g)
    → Tells p (at_rest q)
tells-quiet p q own ages asked shown = record {
  own = own;
  ages = ages;
  shown = shown;
  asks = λ r a. inl (subst (λ (z : List Ref). is_in r z ≡ true) asked a);
  says = λ to x never. absurd never;
}

-- ---- messages

-- what a message with references mentions, it carries
reference-mentions : (b : Body) → is_reference b ≡ true → mentioned b ≡ carried b
reference-mentions (body.Give label reference) is = refl
reference-mentions (body.Put target place reference) is = refl
reference-mentions (body.Get target place label) is = refl
reference-mentions (body.Post label references bytes) is = refl
reference-mentions (body.Fetch target label offset count) is = refl
reference-mentions b is = absurd cc

-- the only message that is appended
abbrev appended : ℕ → Message → List (ℕ × Message)
appended to x = (to, x) ∷ []

says-one : (p : LocalState) (h : Heap) (to : ℕ) (x : Message)
    → ((r : Ref) → Among r (mentioned x.body) → r.node ≡ p.own → IsShownAt h r.slot r.generation)
    → SaysOnly p h (appended to x)
says-one p h to x all k y a r mention here past =
    ⊎_elim {C = IsShownAt h r.slot r.generation}
    (λ (e : (k, y) ≡ (to, x)).
    all r (subst (λ (z : Message). Among r (mentioned z.body)) (ap (λ (z : ℕ × Message). z.1) e)
    mention) here)
    (λ never. absurd never) a

idle-says : (p : LocalState) (x : Message) → is_idle x.body ≡ true → (r : Ref)
    → Among r (mentioned x.body) → ⊥
idle-says p x idle r mention = subst (Among r) (idle-mentions x.body idle) mention

tells-append : (to : ℕ) (b : Body) (p : LocalState)
    → ((r : Ref) → Among r (mentioned b) → r.node ≡ p.own → IsShownAt p.heap r.slot r.generation)
    → Tells p (append to b p)
unfolding append
tells-append to b p all = record {
  own = refl;
  ages = ages-collects.rings p (append to b p).local.ring;
  shown = λ k g past shown. shown;
  asks = λ r a. inl a;
  says = says-one p p.heap to (stamped p b) all;
}

tells-announce : (b : Body) (p : LocalState) → is_idle b ≡ true → Tells p (announce b p)
unfolding announce
tells-announce b p idle = record {
  own = refl;
  ages = ages-same p;
  shown = λ k g past shown. shown;
  asks = λ r a. inl a;
  says = λ to x a r mention here past.
      absurd (idle-says p (stamped p b) idle r
      (subst (λ (z : Message). Among r (mentioned z.body)) (others-are p b p.shape.nodes to x a).0
      mention));
}

-- a node asks only for other nodes' objects
tells-see_to : (due : Bool) (rs : List Ref) (p : LocalState) → Tells p (see_to due rs p)
unfolding see_to
tells-see_to due rs p =
    let met : List Ref = cond (is_open p) rs [] in
    let new : List Ref = unasked p.own p.asked met in
    record {
      own = refl;
      ages = ages-collects.sees due rs p;
      shown = λ k g past. shown-all_grey p.own p.phases.cycle p.heap met k g;
      asks = λ r a.
          ⊎_elim {C = (is_in r p.asked ≡ true) ⊎ (r.node ≢ p.own)}
          (λ before. inl before) (λ now. inr (unasked-from p.own p.asked met r now).1)
          (in-append r p.asked new a);
      says = λ to x a r mention here past.
          absurd (far new (λ s b. (unasked-from p.own p.asked met s b).1) to x a r mention here);
    }
  where
    far : (new : List Ref) → ((s : Ref) → Among s new → s.node ≢ p.own) → (to : ℕ) (x : Message)
        → Among (to, x) (marks_for p.phases.cycle (cond due new [])) → (r : Ref)
        → Among r (mentioned x.body) → r.node ≡ p.own → ⊥
    far new others to x a r mention here =
        let found = marks-from p.phases.cycle (cond due new []) to x a in
        let there : Among found.0 new =
        cond_both due new [] (λ z. Among found.0 z → Among found.0 new) (λ _ b. b)
        (λ _ never. absurd never) found.1 in
        let message : x ≡ (mark_for p.phases.cycle found.0).1 =
        ap (λ (z : ℕ × Message). z.1) found.2 in
        ⊎_elim {C = ⊥}
        (λ (same : r ≡ found.0).
        others found.0 there (ap (λ (z : Ref). z.node) (sym same) ∙ here))
        (λ never. never)
        (subst (λ (z : Message). Among r (mentioned z.body)) message mention)

-- ---- every step

tells-collects : Collects Tells
unfolding enter
tells-collects = record {
  rest = λ p. tells-quiet p p refl (ages-same p) refl (λ k g past shown. shown);
  both = tells-both;
  sees = tells-see_to;
  enters = λ p cycle later. record {
    own = refl;
    ages = ages-collects.enters p cycle later;
    shown = λ k g past shown. shown;
    asks = λ r a. absurd cc;
    says = λ to x never. absurd never;
  };
  rings = λ p r. tells-quiet p _ refl (ages-collects.rings p r) refl (λ k g past shown. shown);
  ends = λ p. tells-quiet p _ refl (ages-collects.ends p) refl (λ k g past shown. shown);
  hears = λ p reports.
      tells-quiet p _ refl (ages-collects.hears p reports) refl (λ k g past shown. shown);
  scans = λ p. tells-quiet p _ refl (ages-collects.scans p) refl (λ k g past shown. shown);
  sends = λ to b p idle.
      tells-append to b p (λ r mention here. absurd (idle-says p (stamped p b) idle r mention));
  tells = λ b p idle. tells-announce b p idle;
}

tells-rewritten : (p : LocalState) (r : Ref) (f : Object → Object) → KeepsShared f
    → Tells p (at_rest (record p { heap = with_rewritten p.heap r f }))
tells-rewritten p r f keeps =
    tells-quiet p _ refl (ages-rewritten p r f) refl
    (λ k g past. shown-rewritten p.heap r f keeps k g)

pub tells-walks : Walks (λ p. FreeSlots p.heap.slots p.heap.free) Tells
tells-walks = record {
  moves = record {
    collects = tells-collects;
    roots = λ p registers letters.
        tells-quiet p _ refl (ages-walks.moves.roots p registers letters) refl
        (λ k g past shown. shown);
    rewrites = λ p r f quiet. tells-rewritten p r f (quiet-shared quiet);
    places = place-walks tells-collects tells-rewritten;
    makes = λ p register places free.
        tells-quiet p _ refl (ages-walks.moves.makes p register places free) refl
        (shown-object p.heap (new_object (not p.shape.wide) p.phases.cycle places) free);
    gives = λ to b p carries.
        post-walks tells-collects
        (λ q r. tells-rewritten q r sharing (λ o is. refl)) to b p
        (tells-append to b (share (carried b) p).local
        (λ r mention here.
        all-shared p.own p.heap (carried b) r
        (subst (Among r) (reference-mentions b carries) mention) here));
  };
  frees = record {
    sweeps = λ p count. record {
      own = refl;
      ages = ages-walks.frees.sweeps p count;
      shown = λ k g past.
          shown-freed (freed-some (λ _. is_garbage p.phases.cycle) (garbage-test p.phases.cycle)
          p.phases.cursor (looked_at p count) (record { heap = p.heap; freed = 0 })) k g;
      asks = λ r a. inl a;
      says = λ to x.
          cond_both (reports_sweep p count) ((0, stamped p body.Swept) ∷ []) []
          (λ z. Among (to, x) z → (r : Ref) → Among r (mentioned x.body) → r.node ≡ p.own
          → PastAt p.heap r.slot r.generation
          → IsShownAt (after_sweep p count).heap r.slot r.generation)
          (λ _ a r mention here past.
          says-one p (after_sweep p count).heap 0 (stamped p body.Swept)
          (λ s never. absurd never) to x a r mention here past)
          (λ _ never. absurd never);
    };
    reclaims = λ p scope.
        tells-quiet p _ refl (ages-walks.frees.reclaims p scope) refl
        (λ k g past shown.
        shown-aged (freed_within scope p.own p.heap) k g
        (shown-freed (freed-reclaiming scope p.own p.heap) k g shown));
  };
}

pub own-tells : (p : LocalState) (counts : List ℕ) (e : Event) → is_own e ≡ true
    → FreeSlots p.heap.slots p.heap.free → Tells p (work_in (made p counts e))
own-tells p counts e own free = own-walks tells-walks p counts e own free

pub taken-tells : (p : LocalState) (from number stamp : ℕ) (b : Body)
    → Tells p (work_in (taken_in p from number stamp b))
unfolding taken_in settled count_in
taken-tells p from number stamp b =
    let before = taken-walks tells-walks p from stamp b in
    record {
      own = before.own;
      ages = record { cycle = before.ages.cycle; past = before.ages.past };
      shown = before.shown;
      asks = before.asks;
      says = before.says;
    }
