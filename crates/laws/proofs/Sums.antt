-- Sums over the first numbers, and how many messages of a list pass a test.
use Rattle.std.proofs.Common.{◌≡◌, ◌≢◌, ℕ, zero, suc, ℤ, pos, ◌+◌, ◌+ℤ◌, ◌<◌, ◌≤◌, Bool, cond, List, [], ◌∷◌, ◌++◌, length, map, drop, Some, slice_get, refl, sym, ap, ◌∙◌, subst, ⊎_elim, arith}
use Rattle.std.specs.Prelude.{◌≤ℤ◌}
use Rattle.std.proofs.lemmas.Int.{ints}
use Rattle.std.proofs.lemmas.Bool.{cases_eq}
use Rattle.msg.specs.declared.body.Message.{Message}
use Rattle.std.specs.List.{sum_by}
use Rattle.std.proofs.lemmas.List.Sums.{sum_by-cons}
use Rattle.model.specs.State.{Slot}
use Rattle.model.specs.Reclaiming.{slot_aged}
use Rattle.model.specs.Agreement.{total, weighed, number_of}

pub total-same : (n : ℕ) (f g : ℕ → ℤ) → ((j : ℕ) → j < n → g j ≡ f j) → total n g ≡ total n f
total-same zero f g same = refl
total-same (suc n) f g same =
    let before : total n g ≡ total n f =
    total-same n f g (λ j h. same j (let k : j < suc n = omega (arith, h) in k)) in
    omega (arith, ints, before, same n (let k : n < suc n = omega arith in k))

-- one summand differs
pub total-one : (n : ℕ) (f g : ℕ → ℤ) (i : ℕ) (d : ℤ) → i < n → g i ≡ f i +ℤ d
    → ((j : ℕ) → j < n → j ≢ i → g j ≡ f j) → total n g ≡ total n f +ℤ d
total-one zero f g i d inside here same = absurd (omega (arith, inside))
total-one (suc n) f g i d inside here same = ⊎_elim {C = total (suc n) g ≡ total (suc n) f +ℤ d}
    (λ (e : n ≡ i).
    let before : total n g ≡ total n f =
    total-same n f g (λ j h. same j (let k : j < suc n = omega (arith, h) in k)
    (λ (q : j ≡ i). let k : n < n = subst (λ (z : ℕ). z < n) (q ∙ sym e) h in omega (arith, k))) in
    let last : g n ≡ f n +ℤ d = subst (λ (z : ℕ). g z ≡ f z +ℤ d) (sym e) here in
    omega (arith, ints, before, last))
    (λ (other : n ≢ i).
    let less : i < n = ⊎_elim {C = i < n}
    (λ (q : n ≡ i). absurd (other q))
    (λ (q : n ≢ i). omega (arith, inside, q)) (cases_eq n i) in
    let before : total n g ≡ total n f +ℤ d =
    total-one n f g i d less here
    (λ j h. same j (let k : j < suc n = omega (arith, h) in k)) in
    omega (arith, ints, before, same n (let k : n < suc n = omega arith in k) other))
    (cases_eq n i)

pub total-add : (n : ℕ) (f g h : ℕ → ℤ) → ((j : ℕ) → j < n → h j ≡ f j +ℤ g j)
    → total n h ≡ total n f +ℤ total n g
total-add zero f g h same = omega (arith, ints)
total-add (suc n) f g h same =
    let before : total n h ≡ total n f +ℤ total n g =
    total-add n f g h (λ j q. same j (let k : j < suc n = omega (arith, q) in k)) in
    omega (arith, ints, before, same n (let k : n < suc n = omega arith in k))

pub total-zero : (n : ℕ) (f : ℕ → ℤ) → ((j : ℕ) → j < n → f j ≡ pos 0) → total n f ≡ pos 0
total-zero zero f none = refl
total-zero (suc n) f none =
    let before : total n f ≡ pos 0 =
    total-zero n f (λ j q. none j (let k : j < suc n = omega (arith, q) in k)) in
    omega (arith, ints, before, none n (let k : n < suc n = omega arith in k))

pub total-nonneg : (n : ℕ) (f : ℕ → ℤ) → ((j : ℕ) → j < n → pos 0 ≤ℤ f j) → pos 0 ≤ℤ total n f
total-nonneg zero f some = omega (arith, ints)
total-nonneg (suc n) f some =
    let before : pos 0 ≤ℤ total n f =
    total-nonneg n f (λ j q. some j (let k : j < suc n = omega (arith, q) in k)) in
    omega (arith, ints, before, some n (let k : n < suc n = omega arith in k))

-- each summand is at most the sum, if none is negative
pub total-part : (n : ℕ) (f : ℕ → ℤ) (i : ℕ) → i < n → ((j : ℕ) → j < n → pos 0 ≤ℤ f j)
    → f i ≤ℤ total n f
total-part zero f i inside some = absurd (omega (arith, inside))
total-part (suc n) f i inside some = ⊎_elim {C = f i ≤ℤ total (suc n) f}
    (λ (e : n ≡ i).
    let before : pos 0 ≤ℤ total n f =
    total-nonneg n f (λ j q. some j (let k : j < suc n = omega (arith, q) in k)) in
    let last : f i ≡ f n = ap f (sym e) in
    omega (arith, ints, before, last))
    (λ (other : n ≢ i).
    let less : i < n = omega (arith, inside, other) in
    let before : f i ≤ℤ total n f =
    total-part n f i less (λ j q. some j (let k : j < suc n = omega (arith, q) in k)) in
    omega (arith, ints, before, some n (let k : n < suc n = omega arith in k)))
    (cases_eq n i)

pub total-le : (n : ℕ) (f g : ℕ → ℤ) → ((j : ℕ) → j < n → f j ≤ℤ g j) → total n f ≤ℤ total n g
total-le zero f g some = omega (arith, ints)
total-le (suc n) f g some =
    let before : total n f ≤ℤ total n g =
    total-le n f g (λ j q. some j (let k : j < suc n = omega (arith, q) in k)) in
    omega (arith, ints, before, some n (let k : n < suc n = omega arith in k))

-- ---- weights of messages

weighed-append : (g : Message → ℕ) (xs ys : List Message)
    → weighed g (xs ++ ys) ≡ weighed g xs + weighed g ys
weighed-append g [] ys = omega arith
weighed-append g (x ∷ xs) ys = omega (arith, weighed-append g xs ys)

drop-append : (k : ℕ) (xs ys : List Message) → k ≤ length xs → drop k (xs ++ ys) ≡ drop k xs ++ ys
drop-append zero xs ys h = refl
drop-append (suc k) [] ys h = absurd (omega (arith, h))
drop-append (suc k) (x ∷ xs) ys h =
    drop-append k xs ys (let w : k ≤ length xs = omega (arith, h) in w)

-- one more at the end
pub weighed-push : (g : Message → ℕ) (k : ℕ) (xs : List Message) (x : Message) → k ≤ length xs
    → weighed g (drop k (xs ++ x ∷ [])) ≡ weighed g (drop k xs) + g x
weighed-push g k xs x h =
    ap (weighed g) (drop-append k xs (x ∷ []) h)
    ∙ weighed-append g (drop k xs) (x ∷ [])
    ∙ (let e : weighed g (drop k xs) + (g x + 0) ≡ weighed g (drop k xs) + g x = omega arith in e)

-- the first one leaves
pub weighed-take : (g : Message → ℕ) (k : ℕ) (xs : List Message) (x : Message)
    → slice_get xs k ≡ Some x → weighed g (drop k xs) ≡ weighed g (drop (k + 1) xs) + g x
weighed-take g k [] x h = absurd cc
weighed-take g zero (y ∷ xs) x h =
    let same : y ≡ x = cc in
    subst (λ (z : Message). g y + weighed g xs ≡ weighed g xs + g z) same (omega arith)
weighed-take g (suc k) (y ∷ xs) x h =
    weighed-take g k xs x h
    ∙ ap (λ (l : ℕ). weighed g (drop l (y ∷ xs)) + g x)
    (let e : suc (k + 1) ≡ suc k + 1 = omega arith in e)

-- each message weighs at most as much as all
pub weighed-at : (g : Message → ℕ) (xs : List Message) (k : ℕ) (x : Message)
    → slice_get xs k ≡ Some x → g x ≤ weighed g xs
weighed-at g [] k x h = absurd cc
weighed-at g (y ∷ xs) zero x h =
    let same : g y ≡ g x = ap g (let e : y ≡ x = cc in e) in omega (arith, same)
weighed-at g (y ∷ xs) (suc k) x h = omega (arith, weighed-at g xs k x h)

pub number-same : (f g : Message → Bool) (xs : List Message)
    → ((k : ℕ) (x : Message) → slice_get xs k ≡ Some x → f x ≡ g x)
    → number_of f xs ≡ number_of g xs
number-same f g [] same = refl
number-same f g (x ∷ xs) same =
    let first : f x ≡ g x = same zero x refl in
    let rest : number_of f xs ≡ number_of g xs = number-same f g xs (λ k y h. same (suc k) y h) in
    ap (λ (b : Bool). cond b 1 0 + number_of f xs) first ∙ ap (λ (m : ℕ). cond (g x) 1 0 + m) rest

-- ---- slots that become old

pub sum-aged : (f : Slot → ℕ) → ((s : Slot) → f (slot_aged s) ≡ f s) → (slots : List Slot)
    → sum_by f (map slot_aged slots) ≡ sum_by f slots
sum-aged f same [] = refl
sum-aged f same (s ∷ slots) =
    sum_by-cons f (slot_aged s) (map slot_aged slots)
    ∙ (let first = same s in
    let others = sum-aged f same slots in
    let e : f (slot_aged s) + sum_by f (map slot_aged slots) ≡ f s + sum_by f slots =
    omega (arith, first, others) in e)
    ∙ sym (sum_by-cons f s slots)
