-- How many mailboxes one node has, to others and from others.
use Rattle.std.proofs.Common.{◌≡◌, ℕ, ◌+◌, ◌*◌, ◌/◌, ◌%◌, ◌<◌, ◌≤◌, ◌==◌, eqb, cond, eq-eqb, ne_eqb, eqb-true, true, false, true≢false, List, [], ◌∷◌, length, map, sym, ◌∙◌, subst, ⊎_elim, arith, mod-lt, div-add-mod'}
use Rattle.std.specs.List.{list_any, AllByRecursion, IsDistinct}
use Rattle.std.proofs.Math.Nat.{div-lt_iff_lt-mul}
use Rattle.std.proofs.lemmas.Bool.{cond-true, cond-false, cases_Bool, cond_both, or_cases}
use Rattle.std.proofs.lemmas.List.{length-map}
use Rattle.std.proofs.lemmas.Map.Steps.{length-le_from_distinct_below}
use native.Mathlib.Decide.{ℕ_discrete}
use mathlib.Core.Logic.{dite}
use Rattle.wire.specs.Lists.{has, once}
use Rattle.atomic_table.specs.Table.{Me}
use Rattle.wire.specs.Views.{Known}
use Rattle.wire.specs.Seated.{IsOwnBox, Sits}
use Rattle.wire.proofs.Lists.{has-here, has-more}
use Rattle.wire.proofs.Sitting.{once-parts, once-more}

-- ---- A number for each of them

abbrev lane : ℕ → ℕ → ℕ → ℕ
lane me n k = cond (k / n == me) (k % n) (n + k / n)

lane-below : (me n k : ℕ) → 0 < n → k < n * n → lane me n k < n + n
lane-below me n k pos below =
    cond_both (k / n == me) (k % n) (n + k / n) (λ (z : ℕ). z < n + n)
    (λ _. (let less : k % n < n = mod-lt k pos in omega (arith, less)))
    (λ _. (let less : k / n < n = (div-lt_iff_lt-mul pos).1 below in omega (arith, less)))

lane-to : (me n k : ℕ) → (k / n == me) ≡ true → (lane me n k ≡ k % n) × (k / n ≡ me)
lane-to me n k is = (cond-true _ _ _ is, eqb-true (k / n) me is)

lane-from : (me n k : ℕ) → IsOwnBox me n k → (k / n == me) ≡ false
    → (lane me n k ≡ n + k / n) × (k % n ≡ me)
lane-from me n k own other = (
  cond-false _ _ _ other,
  ⊎_elim
      (λ first. absurd (true≢false (sym first ∙ other)))
      (λ second. eqb-true (k % n) me second)
      (or_cases (k / n == me) (k % n == me) own.1),
)

together : (n k j : ℕ) → k / n ≡ j / n → k % n ≡ j % n → k ≡ j
together n k j row column =
    sym (div-add-mod' k n) ∙ (λ i. row i * n + column i) ∙ div-add-mod' j n

lane-one : (me n k j : ℕ) → 0 < n → IsOwnBox me n k → IsOwnBox me n j
    → lane me n k ≡ lane me n j → k ≡ j
lane-one me n k j pos first second same =
    let low : k % n < n = mod-lt k pos in
    let least : j % n < n = mod-lt j pos in
    ⊎_elim
    (λ (a : (k / n == me) ≡ true). let x = lane-to me n k a in
    ⊎_elim
    (λ (b : (j / n == me) ≡ true). let y = lane-to me n j b in
    together n k j (x.1 ∙ sym y.1) (sym x.0 ∙ same ∙ y.0))
    (λ (b : (j / n == me) ≡ false). let y = lane-from me n j second b in
    let is : k % n ≡ n + j / n = sym x.0 ∙ same ∙ y.0 in absurd (omega (arith, is, low)))
    (cases_Bool (j / n == me)))
    (λ (a : (k / n == me) ≡ false). let x = lane-from me n k first a in
    ⊎_elim
    (λ (b : (j / n == me) ≡ true). let y = lane-to me n j b in
    let is : n + k / n ≡ j % n = sym x.0 ∙ same ∙ y.0 in absurd (omega (arith, is, least)))
    (λ (b : (j / n == me) ≡ false). let y = lane-from me n j second b in
    let is : n + k / n ≡ n + j / n = sym x.0 ∙ same ∙ y.0 in
    together n k j (let row : k / n ≡ j / n = omega (arith, is) in row) (x.1 ∙ sym y.1))
    (cases_Bool (j / n == me)))
    (cases_Bool (k / n == me))

-- ---- Numbers that occur once, by what each is mapped to

has-later : (k x : ℕ) (xs : List ℕ) → has k xs ≡ true → has k (x ∷ xs) ≡ true
has-later k x xs there =
    dite (ℕ_discrete k x)
    (λ is. cond-true _ _ _ (eq-eqb x k (sym is)))
    (λ apart. has-more x k xs apart ∙ there)

module _ (f : ℕ → ℕ) where
  abbrev IsOne : List ℕ → Type 0
  IsOne xs = (k j : ℕ) → has k xs ≡ true → has j xs ≡ true → f k ≡ f j → k ≡ j

  no-more : (x : ℕ) (xs : List ℕ) → has x xs ≡ false
      → ((j : ℕ) → has j xs ≡ true → f x ≡ f j → x ≡ j)
      → AllByRecursion (λ y. eqb (f x) y ≡ false) (map f xs)
  no-more x [] gone one = tt
  no-more x (y ∷ ys) gone one =
      dite (ℕ_discrete y x)
      (λ is. absurd (true≢false (sym (cond-true _ _ _ (eq-eqb y x is)) ∙ gone)))
      (λ apart. (
        ne_eqb (f x) (f y) (λ same. apart (sym (one y (has-here y ys) same))),
        no-more x ys (sym (cond-false _ _ _ (ne_eqb y x apart)) ∙ gone)
            (λ j there. one j (has-later j y ys there)),
      ))

  distinct : (xs : List ℕ) → once xs ≡ true → IsOne xs → IsDistinct eqb (map f xs)
  unfolding IsDistinct
  distinct [] single one = tt
  distinct (x ∷ xs) single one =
      let parts = once-parts x xs single in (
        no-more x xs parts.0 (λ j there. one x j (has-here x xs) (has-later j x xs there)),
        distinct xs parts.1
            (λ k j first second. one k j (has-later k x xs first) (has-later j x xs second)),
      )

  given-by : (q : ℕ) (xs : List ℕ) → list_any (eqb q) (map f xs) ≡ true
      → (k : ℕ) × (has k xs ≡ true) × (f k ≡ q)
  given-by q [] e = absurd (true≢false (sym e))
  given-by q (x ∷ xs) e =
      ⊎_elim
      (λ same. (x, has-here x xs, sym (eqb-true q (f x) same)))
      (λ later. let k = given-by q xs later in (k.0, has-later k.0 x xs k.1, k.2))
      (or_cases (eqb q (f x)) (list_any (eqb q) (map f xs)) e)

-- there are few enough that there is room for one more
pub room-for : {S : Type 0} {bytes : S → List ℕ} {me n : ℕ} {xs : List ℕ} {m : Me S Known}
    (at : ℕ) → Sits bytes me n xs m → has at xs ≡ false → IsOwnBox me n at → length xs < 2 * n
room-for {me = me} {n} {xs} at sits gone its =
    let pos : 0 < n = omega (arith, sits.within) in
    let all : (k : ℕ) → has k (at ∷ xs) ≡ true → IsOwnBox me n k =
    λ k there. dite (ℕ_discrete k at)
    (λ is. subst (IsOwnBox me n) (sym is) its)
    (λ apart. sits.own k (sym (has-more at k xs apart) ∙ there)) in
    let most : length (map (lane me n) (at ∷ xs)) ≤ n + n =
    length-le_from_distinct_below (map (lane me n) (at ∷ xs)) (n + n)
    (distinct (lane me n) (at ∷ xs) (once-more at xs gone sits.single)
    (λ k j first second. lane-one me n k j pos (all k first) (all j second)))
    (λ q e. let k = given-by (lane me n) q (at ∷ xs) e in
    subst (λ (z : ℕ). z < n + n) k.2 (lane-below me n k.0 pos (all k.0 k.1).0)) in
    let long : length (map (lane me n) (at ∷ xs)) ≡ length (at ∷ xs) =
    length-map (at ∷ xs) (lane me n) in
    omega (arith, most, long)
