-- The entries of what is gone from a heap: just the objects that the later one doesn't have, each
-- once.
use Rattle.std.proofs.Common.{◌≡◌, ℕ, zero, suc, ◌+◌, ◌<◌, ◌≤◌, ◌⊎◌, true, not, List, [], ◌∷◌, ◌++◌, length, inl, inr, refl, sym, ap, ◌∙◌, subst, ⊎_elim, arith}
use Rattle.std.proofs.lemmas.Bool.{both_ways, cases_Bool, cases_lt, cond-true, cond_both, eq-eqb, eqb-true}
use Rattle.ids.specs.declared.names.Ref.{Ref}
use Rattle.model.specs.Cuts.{Among}
use Rattle.model.specs.State.{Slot, Free, Occupied, Retired, Heap, slot_at}
use Rattle.model.proofs.Searching.{among-parts}
use Rattle.model.proofs.Slots.{occupied-within}
use Rattle.laws.proofs.Freeing.{Has, slot-has}
use Rattle.laws.proofs.Lookups.{among-append_left, among-append_right}
use Rattle.c_values.specs.declared.fields.CFreed.{CFreed}
use Rattle.c_handles.specs.Gone.{entries_from, entries_in, entry_of, gone, has_generation, is_gone}
use Rattle.c_handles.specs.Lists.{AreApart, reference_of, references}
use Rattle.c_handles.proofs.Entries.{Test}

-- ---- lists of references

pub references-append : (xs ys : List CFreed) → references (xs ++ ys) ≡ references xs
    ++ references ys
references-append [] ys = refl
references-append (x ∷ xs) ys =
    ap (λ (rs : List Ref). reference_of x ∷ rs) (references-append xs ys)

pub among-both : (r : Ref) (xs ys : List CFreed) → Among r (references (xs ++ ys))
    → Among r (references xs) ⊎ Among r (references ys)
among-both r xs ys a =
    among-parts r (references xs) (references ys)
    (subst (Among r) (references-append xs ys) a)

pub among-first : (r : Ref) (xs ys : List CFreed) → Among r (references xs)
    → Among r (references (xs ++ ys))
among-first r xs ys a =
    subst (Among r) (sym (references-append xs ys))
    (among-append_left r (references xs) (references ys) a)

pub among-second : (r : Ref) (xs ys : List CFreed) → Among r (references ys)
    → Among r (references (xs ++ ys))
among-second r xs ys a =
    subst (Among r) (sym (references-append xs ys))
    (among-append_right r (references xs) (references ys) a)

apart-append : (xs ys : List Ref) → AreApart xs → AreApart ys
    → ((r : Ref) → Among r xs → Among r ys → ⊥) → AreApart (xs ++ ys)
apart-append [] ys a b none = b
apart-append (x ∷ xs) ys a b none = (
  λ among.
      ⊎_elim {C = ⊥} a.0 (none x (inl refl)) (among-parts x xs ys among),
  apart-append xs ys a.1 b (λ r first. none r (inr first)),
)

pub apart-both : (xs ys : List CFreed) → AreApart (references xs) → AreApart (references ys)
    → ((r : Ref) → Among r (references xs) → Among r (references ys) → ⊥)
    → AreApart (references (xs ++ ys))
apart-both xs ys a b none =
    subst AreApart (sym (references-append xs ys))
    (apart-append (references xs) (references ys) a b none)

-- ---- one slot

-- the entry is that of the slot's object, which passes the test
record IsIn (passes : Test) (own k : ℕ) (s : Slot) (r : Ref) : Type 0 where
  node : r.node ≡ own
  slot : r.slot ≡ k
  has : Has s r.generation
  passed : passes k s ≡ true

in-slot : (passes : Test) (own k : ℕ) (s : Slot) (r : Ref)
    → Among r (references (entries_in passes own k s)) → IsIn passes own k s r
in-slot passes own k (Free g) r a = absurd a
in-slot passes own k (Occupied g o) r a =
    cond_both (passes k (Occupied g o)) (entry_of own k g o ∷ []) []
    (λ (es : List CFreed). Among r (references es) → IsIn passes own k (Occupied g o) r)
    (λ passed among.
    ⊎_elim {C = IsIn passes own k (Occupied g o) r}
    (λ (is : r ≡ record { node = own; slot = k; generation = g }). record {
      node = ap (λ (x : Ref). x.node) is;
      slot = ap (λ (x : Ref). x.slot) is;
      has = sym (ap (λ (x : Ref). x.generation) is);
      passed = passed;
    })
    (λ never. absurd never) among)
    (λ _ never. absurd never) a
in-slot passes own k Retired r a = absurd a

of-slot : (passes : Test) (own : ℕ) (s : Slot) (r : Ref) → r.node ≡ own → Has s r.generation
    → passes r.slot s ≡ true → Among r (references (entries_in passes own r.slot s))
of-slot passes own (Free g) r node has passed = absurd has
of-slot passes own (Occupied g o) r node has passed =
    subst (λ (es : List CFreed). Among r (references es))
    (sym (cond-true (passes r.slot (Occupied g o)) (entry_of own r.slot g o ∷ []) [] passed))
    (inl (let is : r ≡ record { node = own; slot = r.slot; generation = g } =
    ap (λ (x : ℕ). record { node = x; slot = r.slot; generation = r.generation }) node
    ∙ ap (λ (x : ℕ). record { node = own; slot = r.slot; generation = x }) (sym has) in is))
of-slot passes own Retired r node has passed = absurd has

apart-slot : (passes : Test) (own k : ℕ) (s : Slot)
    → AreApart (references (entries_in passes own k s))
apart-slot passes own k (Free g) = tt
apart-slot passes own k (Occupied g o) =
    cond_both (passes k (Occupied g o)) (entry_of own k g o ∷ []) []
    (λ (es : List CFreed). AreApart (references es))
    (λ _. ((λ never. never), tt)) (λ _. tt)
apart-slot passes own k Retired = tt

-- ---- many slots

record IsFrom (passes : Test) (own : ℕ) (h : Heap) (k : ℕ) (r : Ref) : Type 0 where
  node : r.node ≡ own
  from : k ≤ r.slot
  has : Has (slot_at h r.slot) r.generation
  passed : passes r.slot (slot_at h r.slot) ≡ true

from-slots : (passes : Test) (own : ℕ) (h : Heap) (k n : ℕ) (r : Ref)
    → Among r (references (entries_from passes own h k n)) → IsFrom passes own h k r
from-slots passes own h k zero r a = absurd a
from-slots passes own h k (suc n) r a =
    ⊎_elim {C = IsFrom passes own h k r}
    (λ here.
    (let is = in-slot passes own k (slot_at h k) r here in
    record {
      node = is.node;
      from = (let same = is.slot in omega (arith, same));
      has = subst (λ (j : ℕ). Has (slot_at h j) r.generation) (sym is.slot) is.has;
      passed = subst (λ (j : ℕ). passes j (slot_at h j) ≡ true) (sym is.slot) is.passed;
    }))
    (λ there.
    (let is = from-slots passes own h (k + 1) n r there in
    record {
      node = is.node;
      from = (let more = is.from in omega (arith, more));
      has = is.has;
      passed = is.passed;
    }))
    (among-both r (entries_in passes own k (slot_at h k)) (entries_from passes own h (k + 1) n) a)

of-slots : (passes : Test) (own : ℕ) (h : Heap) (k n : ℕ) (r : Ref) → r.node ≡ own → k ≤ r.slot
    → r.slot < k + n → Has (slot_at h r.slot) r.generation
    → passes r.slot (slot_at h r.slot) ≡ true
    → Among r (references (entries_from passes own h k n))
of-slots passes own h k zero r node from to has passed = absurd (omega (arith, from, to))
of-slots passes own h k (suc n) r node from to has passed =
    let here : List CFreed = entries_in passes own k (slot_at h k) in
    let rest : List CFreed = entries_from passes own h (k + 1) n in
    ⊎_elim {C = Among r (references (here ++ rest))}
    (λ (before : k < r.slot).
    among-second r here rest
    (of-slots passes own h (k + 1) n r node (omega (arith, before)) (omega (arith, to)) has passed))
    (λ (past : r.slot ≤ k).
    (let same : r.slot ≡ k = omega (arith, from, past) in
    among-first r here rest
    (subst (λ (j : ℕ). Among r (references (entries_in passes own j (slot_at h j)))) same
    (of-slot passes own (slot_at h r.slot) r node has passed))))
    (cases_lt k r.slot)

apart-slots : (passes : Test) (own : ℕ) (h : Heap) (k n : ℕ)
    → AreApart (references (entries_from passes own h k n))
apart-slots passes own h k zero = tt
apart-slots passes own h k (suc n) =
    apart-both (entries_in passes own k (slot_at h k)) (entries_from passes own h (k + 1) n)
    (apart-slot passes own k (slot_at h k)) (apart-slots passes own h (k + 1) n)
    (λ r here there.
    (let first = (in-slot passes own k (slot_at h k) r here).slot in
    let second = (from-slots passes own h (k + 1) n r there).from in
    omega (arith, first, second)))

-- ---- what is gone

pub has-generation : (s : Slot) (e : ℕ) → Has s e → has_generation e s ≡ true
has-generation (Free g) e has = absurd has
has-generation (Occupied g o) e has = eq-eqb g e has
has-generation Retired e has = absurd has

pub generation-has : (s : Slot) (e : ℕ) → has_generation e s ≡ true → Has s e
generation-has (Free g) e is = absurd cc
generation-has (Occupied g o) e is = eqb-true g e is
generation-has Retired e is = absurd cc

pub has-or-not : (s : Slot) (e : ℕ) → Has s e ⊎ (Has s e → ⊥)
has-or-not s e =
    ⊎_elim {C = Has s e ⊎ (Has s e → ⊥)} (λ is. inl (generation-has s e is))
    (λ isnt. inr (λ has. both_ways _ isnt (has-generation s e has)))
    (cases_Bool (has_generation e s))

is-gone : (later : Heap) (k : ℕ) (s : Slot) (e : ℕ) → Has s e → is_gone later k s ≡ true
    → Has (slot_at later k) e → ⊥
is-gone later k (Free g) e has gone still = has
is-gone later k (Occupied g o) e has gone still =
    both_ways _ (ap not (has-generation (slot_at later k) g
    (subst (Has (slot_at later k)) (sym has) still))) gone
is-gone later k Retired e has gone still = has

gone-is : (later : Heap) (k : ℕ) (s : Slot) (e : ℕ) → Has s e
    → (Has (slot_at later k) e → ⊥) → is_gone later k s ≡ true
gone-is later k (Free g) e has none = absurd has
gone-is later k (Occupied g o) e has none =
    ⊎_elim {C = not (has_generation g (slot_at later k)) ≡ true}
    (λ is. absurd
    (none (subst (Has (slot_at later k)) has (generation-has (slot_at later k) g is))))
    (λ isnt. ap not isnt)
    (cases_Bool (has_generation g (slot_at later k)))
gone-is later k Retired e has none = absurd has

-- just the objects that the later heap doesn't have
pub record HasGone (own : ℕ) (h later : Heap) (r : Ref) : Type 0 where
  pub node : r.node ≡ own
  pub had : Has (slot_at h r.slot) r.generation
  pub hasnt : Has (slot_at later r.slot) r.generation → ⊥

pub among-gone : (own : ℕ) (h later : Heap) (r : Ref) → Among r (references (gone own h later))
    → HasGone own h later r
among-gone own h later r a =
    let is = from-slots (is_gone later) own h 0 (length h.slots) r a in
    record {
      node = is.node;
      had = is.has;
      hasnt = is-gone later r.slot (slot_at h r.slot) r.generation is.has is.passed;
    }

pub gone-among : (own : ℕ) (h later : Heap) (r : Ref) → HasGone own h later r
    → Among r (references (gone own h later))
gone-among own h later r g =
    let found = slot-has (slot_at h r.slot) r.generation g.had in
    let inside = occupied-within h.slots r.slot r.generation found.0 found.1 in
    of-slots (is_gone later) own h 0 (length h.slots) r g.node (omega arith) (omega (arith, inside))
    g.had (gone-is later r.slot (slot_at h r.slot) r.generation g.had g.hasnt)

pub gone-apart : (own : ℕ) (h later : Heap) → AreApart (references (gone own h later))
gone-apart own h later = apart-slots (is_gone later) own h 0 (length h.slots)
