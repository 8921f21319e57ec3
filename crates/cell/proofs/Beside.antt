-- Lists whose elements in the same places are related.
use Rattle.std.proofs.Common.{◌≡◌, ℕ, ◌++◌, List, [], ◌∷◌, Bool, true, false, Option, Some, None, length, map, slice_get, refl, sym, ap, ◌∙◌, subst, subst₂, arith, ⊎_elim}
use Rattle.std.proofs.lemmas.Option.{slice_get_within}
use Rattle.ids.specs.declared.saves.Saves.{Saves}
use Rattle.ids.specs.declared.saves.Saves.TheVariants.{Events, Images}
use Rattle.disk.specs.Areas.{Areas}
use Rattle.disk_journal.specs.declared.journal.Tail.{Tail}
use Rattle.cell.specs.Looking.{logs_at}
use Rattle.cell.specs.Opened.{AreBeside, IsChosen}
use Rattle.wire.proofs.Places.{mapped-from, mapped-there, pushed-at, some_at}
use Rattle.wire.proofs.Places.{same-there}

-- one more element of the second list
pub beside-next : {X Y : Type 0} {zs : List Y} {place : ℕ} {x : X} {y : Y} (Is : X → Y → Type 0)
    (xs : List X) (ys : List Y) → AreBeside (λ k. Is) xs ys → length ys ≡ place
    → slice_get xs place ≡ Some x → Is x y → zs ≡ ys ++ y ∷ [] → AreBeside (λ k. Is) xs zs
beside-next {place = place} {x} {y} Is xs ys h count there is more =
    λ k u v at also.
    ⊎_elim (λ old. h k u v at old)
    (λ last.
    let here : k ≡ place = last.0 ∙ count in
    let same : x ≡ u =
    same-there xs place x u there (subst (λ (j : ℕ). slice_get xs j ≡ Some u) here at) in
    subst₂ Is same (sym last.1) is)
    (pushed-at ys y k v (ap (λ l. slice_get l k) (sym more) ∙ also))

-- by a list between the two
pub beside-by : {X Y Z : Type 0} {P : X → Y → Type 0} {Q : Y → Z → Type 0} {R : X → Z → Type 0}
    (xs : List X) (ys : List Y) (zs : List Z) → length ys ≡ length xs
    → ((x : X) (y : Y) (z : Z) → P x y → Q y z → R x z) → AreBeside (λ k. P) xs ys
    → AreBeside (λ k. Q) ys zs → AreBeside (λ k. R) xs zs
beside-by xs ys zs count both first second = λ k x z at also.
    let between = some_at ys k (omega (arith, count, slice_get_within xs k x at)) in
    both x between.0 z (first k x between.0 at between.1) (second k between.0 z between.1 also)

-- of lists of which the second is mapped to the same as another
pub beside-mapped : {X Y Z C : Type 0} (Is : X → C → Type 0) (f : Y → C) (h : Z → C)
    (xs : List X) (ys : List Y) (zs : List Z) → map h zs ≡ map f ys
    → AreBeside (λ k x y. Is x (f y)) xs ys → AreBeside (λ k x z. Is x (h z)) xs zs
beside-mapped Is f h xs ys zs same beside = λ k x z at also.
    let from = mapped-from f ys k (h z)
    (ap (λ l. slice_get l k) (sym same) ∙ mapped-there h zs k z also) in
    subst (Is x) (sym from.2) (beside k x from.0 at from.1)

-- ---- Whether saves add events to a log

-- on a new disk
pub new-logs : (saves : Saves) (logs : Bool) → (saves ≡ Events → logs ≡ true)
    → (saves ≡ Images → logs ≡ false) → logs ≡ logs_at saves None
new-logs Events logs events images = events refl
new-logs Images logs events images = images refl

pub chosen-as : (saves : Saves) (seen : Areas) (place : Option Tail) (logs : Bool)
    → IsChosen saves seen (logs_at saves place) → logs ≡ logs_at saves place
    → IsChosen saves seen logs
chosen-as saves seen place logs chosen is = subst (IsChosen saves seen) (sym is) chosen
