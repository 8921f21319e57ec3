-- The seats of cells that are passed on one after another.
use Rattle.std.proofs.Common.{◌≡◌, ◌<◌, ◌∙◌, ◌++◌, ℕ, suc, List, [], ◌∷◌, Some, ap, drop, get_or, length, map, refl, slice_get, subst, sym, arith}
use Rattle.std.proofs.lemmas.List.{append_assoc, map-append}
use Rattle.std.proofs.lemmas.Option.{slice_get_read}
use Rattle.wire.proofs.Places.{mapped-there}
use Rattle.wire.specs.Readers.{IsSeatOf}
use Rattle.wire.specs.declared.seats.NodeSeat.{NodeSeat}
use Rattle.wire.specs.declared.seats.Wire.{Wire}
use Rattle.supervisor.specs.Opened.{AreSeats}

pub first-seat : {C : Type 0} (seat : C → NodeSeat) (wire : Wire) (cells : List C) (c : C)
    → AreSeats wire (map seat cells) → 0 < length cells → c ≡ get_or cells 0 c
    → IsSeatOf wire (seat c)
first-seat seat wire [] c h some is = absurd (omega arith)
first-seat seat wire (x ∷ xs) c h some is =
    subst (λ y. IsSeatOf wire (seat y)) (sym is) (h 0 (seat x) refl)

pub later-seats : {C : Type 0} (seat : C → NodeSeat) (wire : Wire) (cells rest : List C)
    → AreSeats wire (map seat cells) → rest ≡ drop 1 cells → AreSeats wire (map seat rest)
later-seats seat wire [] rest h is =
    subst (λ l. AreSeats wire (map seat l)) (sym is) h
later-seats seat wire (x ∷ xs) rest h is =
    subst (λ l. AreSeats wire (map seat l)) (sym is) (λ k s there. h (suc k) s there)

-- what holds of each of some things holds of the first, and of each of the others
pub first-of : {C : Type 0} (P : C → Type 0) (cells : List C) (c : C)
    → ((k : ℕ) (d : C) → slice_get cells k ≡ Some d → P d) → 0 < length cells
    → c ≡ get_or cells 0 c → P c
first-of P [] c h some is = absurd (omega arith)
first-of P (x ∷ xs) c h some is = subst P (sym is) (h 0 x refl)

pub later-of : {C : Type 0} (P : C → Type 0) (cells rest : List C)
    → ((k : ℕ) (d : C) → slice_get cells k ≡ Some d → P d) → rest ≡ drop 1 cells
    → (k : ℕ) (d : C) → slice_get rest k ≡ Some d → P d
later-of P [] rest h is k d there =
    h k d (ap (λ l. slice_get l k) (sym is) ∙ there)
later-of P (x ∷ xs) rest h is k d there =
    h (suc k) d (ap (λ l. slice_get l k) (sym is) ∙ there)

-- what is in a place of a list, as it was read from an equal list
pub found-in : {A B : Type 0} {all xs : List A} {place k : ℕ} {x : A} {y : B} (f : A → B)
    → xs ≡ all → k ≡ place → k < length xs → x ≡ get_or xs k x → y ≡ f x
    → slice_get (map f all) place ≡ Some y
found-in {xs = xs} {place = place} {k = k} {x = x} {y = y} f same here inside is last =
    subst (λ l. slice_get (map f l) place ≡ Some y) same
    (subst (λ i. slice_get (map f xs) i ≡ Some y) here
    (mapped-there f xs k x (slice_get_read xs (length xs) k x refl inside is) ∙ ap Some (sym last)))

-- The first of some things was passed on, as something that shows the same.
pub moved-one : {A C V : Type 0} (f : A → V) (g : C → V) (made new : List A) (x : A) (c : C)
    (cells rest : List C) → 0 < length cells → c ≡ get_or cells 0 c → rest ≡ drop 1 cells
    → f x ≡ g c → new ≡ made ++ x ∷ [] → map f new ++ map g rest ≡ map f made ++ map g cells
moved-one f g made new x c [] rest some is later same grown = absurd (omega arith)
moved-one f g made new x c (y ∷ ys) rest some is later same grown =
    ap (λ l. map f l ++ map g rest) grown
    ∙ ap (λ l. l ++ map g rest) (map-append f made (x ∷ []))
    ∙ append_assoc (map f made) (f x ∷ []) (map g rest)
    ∙ ap (λ z. map f made ++ z ∷ map g rest) (same ∙ ap g is)
    ∙ ap (λ l. map f made ++ g y ∷ map g l) later
