-- Look-ups in lists, stated as what holds at each index, with a default past the end and no bounds.
use Rattle.std.proofs.Common.{◌≡◌, ℕ, zero, suc, List, [], ◌∷◌, ◌++◌, ap, sym, ◌∙◌, append_assoc, append-nil, Some, slice_get, ltb, ltb-true, get_or, set, ◌<◌, ◌≤◌, le_refl, true, arith, subst, ◌⊎◌, inl, inr, ⊎_elim, ◌≢◌, refl, length, Bool, Option, None, option_to_list, unwrap_or}
use Rattle.std.specs.Prelude.{is_some, filter}
use Rattle.std.proofs.lemmas.Bool.{cases_eq, cond_both, cond-true}
use Rattle.ids.specs.declared.names.Ref.{Ref}
use Rattle.model.specs.References.{IfAny}
use Rattle.std.specs.List.{AllByRecursion}
use Rattle.std.proofs.lemmas.Option.{slice_get_within}
use Rattle.model.specs.Cuts.{Among}
use Rattle.model.proofs.Lookups.{slice_get-left, at_set_if}

-- a list, and the same list with more after it
abbrev pub Grows : {A : Type 0} → List A → List A → Type 0
Grows {A = A} xs ys = (more : List A) × (ys ≡ xs ++ more)

pub grows-refl : {A : Type 0} (xs : List A) → Grows xs xs
grows-refl xs = ([], sym (append-nil xs))

pub grows-trans : {A : Type 0} (xs ys zs : List A) → Grows xs ys → Grows ys zs → Grows xs zs
grows-trans {A = A} xs ys zs g h =
    (g.0 ++ h.0, h.1 ∙ ap (λ (z : List A). z ++ h.0) g.1 ∙ append_assoc xs g.0 h.0)

-- an element keeps its index
pub slice_get-append : {A : Type 0} (xs ys : List A) (k : ℕ) (x : A) → slice_get xs k ≡ Some x
    → slice_get (xs ++ ys) k ≡ Some x
slice_get-append xs ys k x h = slice_get-left xs ys k (slice_get_within xs k x h) ∙ h

pub slice_get-grows : {A : Type 0} (xs ys : List A) (k : ℕ) (x : A) → Grows xs ys
    → slice_get xs k ≡ Some x → slice_get ys k ≡ Some x
slice_get-grows {A = A} xs ys k x g h =
    subst (λ (z : List A). slice_get z k ≡ Some x) (sym g.1) (slice_get-append xs g.0 k x h)

-- an element of a list to which one more was appended
pub slice_get-push : {A : Type 0} (xs : List A) (y : A) (k : ℕ) (x : A)
    → slice_get (xs ++ y ∷ []) k ≡ Some x → (slice_get xs k ≡ Some x) ⊎ (x ≡ y)
slice_get-push [] y zero x h = inr cc
slice_get-push [] y (suc k) x h = absurd cc
slice_get-push (a ∷ xs) y zero x h = inl h
slice_get-push (a ∷ xs) y (suc k) x h = slice_get-push xs y k x h

-- after a write of a number that is no smaller, no number is smaller than before
pub set-no_fewer : (xs : List ℕ) (i n : ℕ) → get_or xs i 0 ≤ n → (k : ℕ)
    → get_or xs k 0 ≤ get_or (set xs i n) k 0
set-no_fewer xs i n more k =
    at_set_if (λ z. get_or xs k 0 ≤ z) xs i k n 0 (λ e. subst (λ (j : ℕ). get_or xs j 0 ≤ n) e more)
    (le_refl _)

pub nothing-below-zero : (k : ℕ) → ltb k 0 ≡ true → ⊥
nothing-below-zero k h = let below : k < 0 = ltb-true k 0 h in absurd (omega arith)

-- what holds of each element
pub all-among : {A : Type 0} (P : A → Type 0) (xs : List A) → AllByRecursion P xs → (x : A)
    → Among x xs → P x
all-among P [] all x never = absurd never
all-among P (y ∷ ys) all x (inl same) = subst P (sym same) all.0
all-among P (y ∷ ys) all x (inr later) = all-among P ys all.1 x later

pub any-map : (P Q : Ref → Type 0) → ((r : Ref) → P r → Q r) → (o : Option Ref) → IfAny P o
    → IfAny Q o
any-map P Q each None h = tt
any-map P Q each (Some r) h = each r h

pub any-some : (P : Ref → Type 0) (o : Option Ref) (r : Ref) → IfAny P o → o ≡ Some r → P r
any-some P None r h e = absurd cc
any-some P (Some s) r h e = let same : s ≡ r = cc in subst P same h

pub any-list : (P : Ref → Type 0) (o : Option Ref) → IfAny P o → AllByRecursion P (option_to_list o)
any-list P None h = tt
any-list P (Some r) h = (h, tt)

pub any-there : (P : Ref → Type 0) (o : Option Ref) (d : Ref) → is_some o ≡ true → IfAny P o
    → P (unwrap_or o d)
any-there P None d there h = absurd cc
any-there P (Some r) d there h = h

-- a number is in a list or not
pub among-or-not : (k : ℕ) (xs : List ℕ) → Among k xs ⊎ (Among k xs → ⊥)
among-or-not k [] = inr (λ h. h)
among-or-not k (x ∷ xs) = ⊎_elim {C = Among k (x ∷ xs) ⊎ (Among k (x ∷ xs) → ⊥)}
    (λ (e : k ≡ x). inl (inl e))
    (λ (other : k ≢ x). ⊎_elim {C = Among k (x ∷ xs) ⊎ (Among k (x ∷ xs) → ⊥)}
    (λ there. inl (inr there))
    (λ never. inr (λ h. ⊎_elim {C = ⊥} (λ e. other e) (λ t. never t) h))
    (among-or-not k xs))
    (cases_eq k x)

pub among-append_left : {A : Type 0} (x : A) (xs ys : List A) → Among x xs → Among x (xs ++ ys)
among-append_left x [] ys h = absurd h
among-append_left x (y ∷ xs) ys (inl e) = inl e
among-append_left x (y ∷ xs) ys (inr h) = inr (among-append_left x xs ys h)

pub among-append_right : {A : Type 0} (x : A) (xs ys : List A) → Among x ys → Among x (xs ++ ys)
among-append_right x [] ys h = h
among-append_right x (y ∷ xs) ys h = inr (among-append_right x xs ys h)

pub among-append : {A : Type 0} (x : A) (xs ys : List A) → Among x (xs ++ ys)
    → Among x xs ⊎ Among x ys
among-append x [] ys h = inr h
among-append x (y ∷ xs) ys (inl e) = inl (inl e)
among-append x (y ∷ xs) ys (inr h) =
    ⊎_elim {C = Among x (y ∷ xs) ⊎ Among x ys} (λ a. inl (inr a)) (λ b. inr b)
    (among-append x xs ys h)

-- the last element
pub slice_get-last : {A : Type 0} (xs : List A) (y : A)
    → slice_get (xs ++ y ∷ []) (length xs) ≡ Some y
slice_get-last [] y = refl
slice_get-last (x ∷ xs) y = slice_get-last xs y

-- what passes the test stays in the list, and nothing else is in it
pub among-filter : {A : Type 0} (test : A → Bool) (x : A) (xs : List A)
    → Among x (filter test xs) → Among x xs
among-filter test x [] never = never
among-filter test x (y ∷ ys) a =
    cond_both (test y) (y ∷ filter test ys) (filter test ys)
    (λ z. Among x z → Among x (y ∷ ys))
    (λ _ b. ⊎_elim {C = Among x (y ∷ ys)} (λ same. inl same)
    (λ later. inr (among-filter test x ys later)) b)
    (λ _ later. inr (among-filter test x ys later)) a

pub filter-among : {A : Type 0} (test : A → Bool) (x : A) (xs : List A) → Among x xs
    → test x ≡ true → Among x (filter test xs)
filter-among test x [] never passes = never
filter-among {A = A} test x (y ∷ ys) a passes =
    ⊎_elim {C = Among x (filter test (y ∷ ys))}
    (λ (same : x ≡ y).
    subst (Among x)
    (sym (cond-true (test y) (y ∷ filter test ys) (filter test ys)
    (subst (λ (z : A). test z ≡ true) same passes)))
    (inl same))
    (λ later.
    cond_both (test y) (y ∷ filter test ys) (filter test ys) (Among x)
    (λ _. inr (filter-among test x ys later passes)) (λ _. filter-among test x ys later passes)) a
