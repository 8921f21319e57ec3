-- A list of references and its index.
use Rattle.std.proofs.Common.{◌≡◌, ℕ, Bool, true, false, cond, ◌==◌, ◌&&◌, ◌||◌, List, [], ◌∷◌, ◌++◌, refl, sym, ap, ◌∙◌, arith}
use Rattle.std.specs.List.{list_any, AllByRecursion, IsDistinct}
use Rattle.std.specs.Cmp.{IsEquivalence}
use Rattle.std.specs.BTreeSet.{BTreeSet, Updates, contains}
use Rattle.std.specs.BTreeMap.{is_at}
use Rattle.std.specs.Ordering.{nat_cmp, ordering_then, is_eq}
use Rattle.std.specs.declared.cmp.Ordering.{Ordering}
use Rattle.std.proofs.lemmas.Bool.{cond-false}
use Rattle.std.proofs.lemmas.Cmp.{on_equiv, and_equiv, nat_eq_equiv}
use Rattle.std.proofs.lemmas.Bool.Decides.{nat_tests}
use Rattle.std.proofs.lemmas.List.Folds.{list_any-append}
use Rattle.std.proofs.lemmas.Map.Keys.{IsDistinct-push}
use Rattle.ids.specs.declared.names.Ref.{Ref}
use Rattle.model.specs.Shading.{is_same, is_in}
use Rattle.remote_marks.specs.RefSet.{IsIndexed}

-- ---- two references that are the same

same-laws : IsEquivalence is_same
same-laws =
    and_equiv (on_equiv (λ (r : Ref). r.node) nat_eq_equiv)
    (and_equiv (on_equiv (λ (r : Ref). r.slot) nat_eq_equiv)
    (on_equiv (λ (r : Ref). r.generation) nat_eq_equiv))

-- a list that has one of them has the other
in-same : (q r : Ref) (rs : List Ref) → is_same r q ≡ true → is_in q rs ≡ is_in r rs
in-same q r rs same =
    ap (λ (test : Ref → Bool). list_any test rs) (λ i x. sym (same-laws.congr r q x same) i)

-- the order of references: by node, slot and generation
abbrev pub by_parts : Ref → Ref → Ordering
by_parts a b =
    ordering_then (nat_cmp a.node b.node)
    (ordering_then (nat_cmp a.slot b.slot) (nat_cmp a.generation b.generation))

equal-then : (x y : ℕ) (o : Ordering)
    → is_eq (ordering_then (nat_cmp x y) o) ≡ ((x == y) && is_eq o)
equal-then x y o = grind (arith, nat_tests)

equal-last : (x y : ℕ) → is_eq (nat_cmp x y) ≡ (x == y)
equal-last x y = grind (arith, nat_tests)

at-same : (a b : Ref) → is_at (by_parts a) b ≡ is_same a b
at-same a b =
    equal-then a.node b.node _
    ∙ ap (λ (t : Bool). (a.node == b.node) && t)
    (equal-then a.slot b.slot _
    ∙ ap (λ (t : Bool). (a.slot == b.slot) && t) (equal-last a.generation b.generation))

-- what a look-up in the index returns
contains-in : (s : BTreeSet Ref) (q : Ref) → contains by_parts s q ≡ is_in q s.keys
contains-in s q = ap (λ (test : Ref → Bool). list_any test s.keys) (λ i x. at-same q x i)

-- ---- each once

distinct-none : IsDistinct is_same []
unfolding IsDistinct
distinct-none = tt

all-front : (P : Ref → Type 0) (xs : List Ref) (y : Ref) → AllByRecursion P (xs ++ y ∷ [])
    → AllByRecursion P xs × P y
all-front P [] y all = (tt, all.0)
all-front P (x ∷ xs) y all = let rest = all-front P xs y all.1 in ((all.0, rest.0), rest.1)

distinct-front : (xs : List Ref) (y : Ref) → IsDistinct is_same (xs ++ y ∷ [])
    → IsDistinct is_same xs × (is_in y xs ≡ false)
unfolding IsDistinct
distinct-front [] y once = (tt, refl)
distinct-front (x ∷ xs) y once =
    let here = all-front (λ z. is_same x z ≡ false) xs y once.0 in
    let rest = distinct-front xs y once.1 in
    ((here.0, rest.0), rw (same-laws.symm y x ∙ here.1) rest.1)

-- ---- changes

cond-or : (a b : Bool) → cond a true b ≡ (b || (a || false))
cond-or true true = refl
cond-or true false = refl
cond-or false true = refl
cond-or false false = refl

in-push : (q r : Ref) (rs : List Ref)
    → is_in q (rs ++ r ∷ []) ≡ cond (is_same r q) true (is_in q rs)
in-push q r rs =
    list_any-append (is_same q) rs (r ∷ [])
    ∙ ap (λ (t : Bool). is_in q rs || (t || false)) (same-laws.symm q r)
    ∙ sym (cond-or (is_same r q) (is_in q rs))

-- whether the index has a reference after another one was added or removed
in-updated : (was now : BTreeSet Ref) (r : Ref) (b : Bool) → Updates by_parts was now r b
    → (q : Ref) → is_in q now.keys ≡ cond (is_same r q) b (is_in q was.keys)
in-updated was now r b updates q =
    sym (contains-in now q)
    ∙ updates.0 q
    ∙ ap (λ (t : Bool). cond t b (contains by_parts was q)) (at-same r q)
    ∙ ap (λ (t : Bool). cond (is_same r q) b t) (contains-in was q)

pub indexed-none : {index order : List Ref} → index ≡ [] → order ≡ [] → IsIndexed index order
indexed-none none empty = rw (none, empty) (record { same = λ r. refl; once = distinct-none })

-- the index finds exactly the references of the list
pub found : {was : BTreeSet Ref} {order : List Ref} (r : Ref) → IsIndexed was.keys order
    → contains by_parts was r ≡ is_in r order
found {was = was} r indexed = contains-in was r ∙ indexed.same r

pub absent : {was : BTreeSet Ref} {order : List Ref} (r : Ref) → IsIndexed was.keys order
    → contains by_parts was r ≡ false → is_in r order ≡ false
absent r indexed none = sym (found r indexed) ∙ none

pub inserted : {was now : BTreeSet Ref} {order : List Ref} (r : Ref) → IsIndexed was.keys order
    → is_in r order ≡ false → Updates by_parts was now r true
    → IsIndexed now.keys (order ++ r ∷ [])
inserted {was = was} {now = now} {order = order} r indexed fresh updates = record {
  same = λ q.
      in-updated was now r true updates q
      ∙ ap (λ (t : Bool). cond (is_same r q) true t) (indexed.same q)
      ∙ sym (in-push q r order);
  once = IsDistinct-push same-laws order r indexed.once fresh;
}

-- a list without a reference, or with that reference only at the end
without : (q r : Ref) (rest : List Ref) → is_in r rest ≡ false → (t : Bool) → t ≡ is_same r q
    → cond t false (is_in q (rest ++ r ∷ [])) ≡ is_in q rest
without q r rest fresh true same = sym (in-same q r rest (sym same) ∙ fresh)
without q r rest fresh false apart =
    in-push q r rest ∙ cond-false (is_same r q) true (is_in q rest) (sym apart)

pub removed : {was now : BTreeSet Ref} {rest : List Ref} (r : Ref)
    → IsIndexed was.keys (rest ++ r ∷ []) → Updates by_parts was now r false
    → IsIndexed now.keys rest
removed {was = was} {now = now} {rest = rest} r indexed updates =
    let front = distinct-front rest r indexed.once in
    record {
      same = λ q.
          in-updated was now r false updates q
          ∙ ap (λ (t : Bool). cond (is_same r q) false t) (indexed.same q)
          ∙ without q r rest front.1 (is_same r q) refl;
      once = front.0;
    }
