-- Look-ups in one list, and in two lists side by side.
use Rattle.std.proofs.Common.{◌≡◌, ℕ, zero, suc, ◌+◌, ◌<◌, List, [], ◌∷◌, ◌++◌, length, map, take, drop, get_or, set, slice_get, replicate, ap, sym, ◌∙◌, refl, arith}
use Rattle.std.specs.List.{AllByRecursion}
use Rattle.std.proofs.lemmas.List.{take-append-drop}

-- A relation that holds at an index of two lists of one length still holds after a write to one
-- index of both, if it holds of the written elements in case this index was written.
module _ {A B : Type 0} (P : A → B → Type 0) (d : A) (e : B) (x : A) (y : B) where
  pub both_set_if : (xs : List A) (ys : List B) (i : ℕ) → length xs ≡ length ys → (k : ℕ)
      → (i ≡ k → P x y) → P (get_or xs k d) (get_or ys k e)
      → P (get_or (set xs i x) k d) (get_or (set ys i y) k e)
  both_set_if [] [] i w k p h = h
  both_set_if [] (b ∷ ys) i w k p h = absurd (omega arith)
  both_set_if (a ∷ xs) [] i w k p h = absurd (omega arith)
  both_set_if (a ∷ xs) (b ∷ ys) zero w zero p h = p refl
  both_set_if (a ∷ xs) (b ∷ ys) zero w (suc k) p h = h
  both_set_if (a ∷ xs) (b ∷ ys) (suc i) w zero p h = h
  both_set_if (a ∷ xs) (b ∷ ys) (suc i) w (suc k) p h =
      both_set_if xs ys i (omega arith) k (λ q. p (ap suc q)) h

-- two functions that agree at every index of two lists of one length give the same list
pub maps_agree : {A B : Type 0} (f : A → ℕ) (g : B → ℕ) (xs : List A) (ys : List B) (d : A) (e : B)
    → length xs ≡ length ys → ((k : ℕ) → f (get_or xs k d) ≡ g (get_or ys k e))
    → map f xs ≡ map g ys
maps_agree f g [] [] d e w h = refl
maps_agree f g [] (b ∷ ys) d e w h = absurd (omega arith)
maps_agree f g (a ∷ xs) [] d e w h = absurd (omega arith)
maps_agree f g (a ∷ xs) (b ∷ ys) d e w h =
    let first : f a ≡ g b = h zero in
    let others : map f xs ≡ map g ys = maps_agree f g xs ys d e (omega arith) (λ j. h (suc j)) in
    cc

-- a property of the element at an index still holds after a write, if it holds of the written
-- element in case this index was written
pub at_set_if : {A : Type 0} (P : A → Type 0) (xs : List A) (i k : ℕ) (x d : A) → (i ≡ k → P x)
    → P (get_or xs k d) → P (get_or (set xs i x) k d)
at_set_if P [] i k x d p h = h
at_set_if P (a ∷ xs) zero zero x d p h = p refl
at_set_if P (a ∷ xs) zero (suc k) x d p h = h
at_set_if P (a ∷ xs) (suc i) zero x d p h = h
at_set_if P (a ∷ xs) (suc i) (suc k) x d p h = at_set_if P xs i k x d (λ e. p (ap suc e)) h

-- the same if it holds of the written element, whichever index was written
pub at_set : {A : Type 0} (P : A → Type 0) (xs : List A) (i k : ℕ) (x d : A) → P x
    → P (get_or xs k d) → P (get_or (set xs i x) k d)
at_set P xs i k x d p h = at_set_if P xs i k x d (λ _. p) h

-- a property of the element at each index still holds after one more element is appended
pub at_push : {A : Type 0} (P : A → Type 0) (xs : List A) (k : ℕ) (x d : A) → P x → P d
    → P (get_or xs k d) → P (get_or (xs ++ x ∷ []) k d)
at_push P [] zero x d p q h = p
at_push P [] (suc k) x d p q h = q
at_push P (a ∷ xs) zero x d p q h = h
at_push P (a ∷ xs) (suc k) x d p q h = at_push P xs k x d p q h

-- a write that doesn't change the function's value there
pub map-set_same : {A B : Type 0} (f : A → B) (xs : List A) (i : ℕ) (x d : A)
    → f x ≡ f (get_or xs i d) → map f (set xs i x) ≡ map f xs
map-set_same f [] i x d h = refl
map-set_same {B = B} f (a ∷ xs) zero x d h = ap (λ (z : B). z ∷ map f xs) h
map-set_same {B = B} f (a ∷ xs) (suc i) x d h =
    ap (λ (z : List B). f a ∷ z) (map-set_same f xs i x d h)

-- if P implies Q, and P holds of each element, then so does Q
pub all-map : {A : Type 0} (P Q : A → Type 0) → ((x : A) → P x → Q x) → (xs : List A)
    → AllByRecursion P xs → AllByRecursion Q xs
all-map P Q each [] all = tt
all-map P Q each (x ∷ xs) all = (each x all.0, all-map P Q each xs all.1)

-- a list of one repeated value has it at every index, and past the end
pub get_or-replicate_any : {A : Type 0} (n k : ℕ) (a : A) → get_or (replicate n a) k a ≡ a
get_or-replicate_any zero k a = refl
get_or-replicate_any (suc n) zero a = refl
get_or-replicate_any (suc n) (suc k) a = get_or-replicate_any n k a

-- the element at an index: of the first of two lists, of the front of a list, and of its rest
pub slice_get-left : {A : Type 0} (xs ys : List A) (k : ℕ) → k < length xs
    → slice_get (xs ++ ys) k ≡ slice_get xs k
slice_get-left [] ys k h = absurd (omega arith)
slice_get-left (x ∷ xs) ys zero h = refl
slice_get-left (x ∷ xs) ys (suc k) h = slice_get-left xs ys k (omega arith)

pub slice_get-take : {A : Type 0} (xs : List A) (n k : ℕ) → k < length (take n xs)
    → slice_get xs k ≡ slice_get (take n xs) k
slice_get-take {A = A} xs n k h =
    ap (λ (z : List A). slice_get z k) (sym (take-append-drop n xs))
    ∙ slice_get-left (take n xs) (drop n xs) k h

pub slice_get-drop : {A : Type 0} (xs : List A) (i k : ℕ)
    → slice_get (drop i xs) k ≡ slice_get xs (i + k)
slice_get-drop xs zero k = ap (slice_get xs) (let e : k ≡ 0 + k = omega arith in e)
slice_get-drop [] (suc i) k = refl
slice_get-drop (x ∷ xs) (suc i) k =
    let e : suc i + k ≡ suc (i + k) = omega arith in
    slice_get-drop xs i k ∙ ap (slice_get (x ∷ xs)) (sym e)
