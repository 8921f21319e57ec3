-- What a crash leaves of the disks of a space while they are opened.
use Rattle.std.proofs.Common.{◌≡◌, ◌++◌, ℕ, List, [], ◌∷◌, Some, inl, inr, length, map, slice_get, sym, ap, ◌∙◌, subst, subst₂, arith, ⊎_elim}
use Rattle.std.proofs.lemmas.Option.{slice_get_within}
use Rattle.ids.specs.Limits.{Shaped}
use Rattle.disk.specs.Areas.{Areas, IsBlank}
use Rattle.disk.specs.Crashes.{LeavesOnly, StaysBlank, Unmoved}
use Rattle.disk_shelf.proofs.Moments.{joined, weaker}
use Rattle.image.specs.Wholes.{saved_whole}
use Rattle.node.specs.Keeping.{WholeNode, new_whole}
use Rattle.node_store.specs.Plain.{KeepsNone}
use Rattle.cell.specs.Disks.{OpensToNode}
use Rattle.cell.specs.Looking.{AreUnmoved}
use Rattle.cell.specs.Opened.{AreBeside, StaysOrNew}
use Rattle.cell.proofs.NewCells.{opens-new}
use Rattle.wire.proofs.Places.{mapped-from, mapped-there, pushed-at, same-there, some_at}

module _ {D : Type 0} {moment : D → ℕ} {left_since : D → ℕ → Areas → Type 0}
    (seen : D → Areas) (may_leave : D → Areas → Type 0) where
  -- a new node is created
  pub created : {disk new : D} {n : WholeNode} (shape : Shaped) (own : ℕ)
      → StaysBlank (may_leave disk) → may_leave disk (seen disk) → n ≡ new_whole shape own
      → LeavesOnly moment left_since disk new (KeepsNone (saved_whole n))
      → LeavesOnly moment left_since disk new (StaysOrNew seen may_leave shape own disk)
  created {disk} {new} {n} shape own blank reads is said =
      weaker said
      (λ c.
      ⊎_elim
      (λ none. inr (blank (seen disk) reads, inl none))
      (λ keeps. inr (
        blank (seen disk) reads,
        inr (subst (λ (m : WholeNode). OpensToNode m c) is (opens-new shape own n c is keeps)),
      )))

  -- the disk was read before
  pub since-read : {d e s : D} {shape : Shaped} {k : ℕ}
      → Unmoved seen may_leave moment left_since d e
      → LeavesOnly moment left_since e s (StaysOrNew seen may_leave shape k e)
      → LeavesOnly moment left_since d s (StaysOrNew seen may_leave shape k d)
  since-read {d} {e} {s} {shape} {k} quiet said =
      joined
      (weaker quiet.any_moment (λ c may. inl may))
      (weaker said
      (λ c.
      ⊎_elim
      (λ may. inl (quiet.crash c may))
      (λ none. inr (subst IsBlank quiet.same none.0, none.1))))

  -- the disks of a space, each with the store on it
  pub all-stores-since : {S : Type 0} {old new : List D} {shape : Shaped} (at : S → D)
      (ss : List S) → AreUnmoved seen may_leave moment left_since old new
      → AreBeside (λ k e s. LeavesOnly moment left_since e (at s)
      (StaysOrNew seen may_leave shape k e)) new ss
      → AreBeside (λ k d s. LeavesOnly moment left_since d (at s)
      (StaysOrNew seen may_leave shape k d)) old ss
  all-stores-since {old = old} {new} at ss quiet said k d s was there =
      let inside = slice_get_within old k d was in
      let count = quiet.count in
      let e = some_at new k (omega (arith, inside, count)) in
      since-read (quiet.each k d e.0 was e.1) (said k e.0 s e.1 there)

-- one more element of the second list
pub beside-at : {X Y : Type 0} {zs : List Y} {place : ℕ} {x : X} {y : Y} (Is : ℕ → X → Y → Type 0)
    (xs : List X) (ys : List Y) → AreBeside Is xs ys → length ys ≡ place
    → slice_get xs place ≡ Some x → Is place x y → zs ≡ ys ++ y ∷ [] → AreBeside Is xs zs
beside-at {place = place} {x} {y} Is xs ys h count there is more =
    λ k u v at also.
    ⊎_elim (λ old. h k u v at old)
    (λ last.
    let here : k ≡ place = last.0 ∙ count in
    let same : x ≡ u =
    same-there xs place x u there (subst (λ (j : ℕ). slice_get xs j ≡ Some u) here at) in
    subst (λ (j : ℕ). Is j u v) (sym here) (subst₂ (Is place) same (sym last.1) is))
    (pushed-at ys y k v (ap (λ l. slice_get l k) (sym more) ∙ also))

-- what holds beside the images of a list's elements
pub beside-image : {X Y C : Type 0} (Is : ℕ → X → C → Type 0) (f : Y → C) (xs : List X)
    (ys : List Y) → AreBeside (λ k x y. Is k x (f y)) xs ys → AreBeside Is xs (map f ys)
beside-image Is f xs ys h k x c at also =
    let from = mapped-from f ys k c also in
    subst (Is k x) (sym from.2) (h k x from.0 at from.1)

pub beside-of : {X Y C : Type 0} (Is : ℕ → X → C → Type 0) (f : Y → C) (xs : List X)
    (ys : List Y) → AreBeside Is xs (map f ys) → AreBeside (λ k x y. Is k x (f y)) xs ys
beside-of Is f xs ys h k x y at also = h k x (f y) at (mapped-there f ys k y also)
