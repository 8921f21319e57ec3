-- Disks that are read one after another, before anything is created on them, and their nodes, which
-- are then put on shelves.
use Rattle.std.proofs.Common.{◌≡◌, ◌≢◌, ◌<◌, ◌+◌, ◌++◌, ℕ, zero, suc, Bool, true, inl, inr, List, [], ◌∷◌, Option, Some, None, drop, get_or, length, length-append, length-set, set, slice_get, refl, sym, ap, ◌∙◌, subst, subst₂, arith, ⊎_elim}
use Rattle.std.proofs.lemmas.Option.{slice_get-get_or, slice_get_read, slice_get_within}
use Rattle.ids.specs.Limits.{Shaped}
use Rattle.ids.specs.declared.refusal.Refusal.{Refusal}
use Rattle.std.proofs.lemmas.Bool.Decides.{leb_tells}
use Rattle.disk.specs.Areas.{Areas, IsBlank}
use Rattle.disk.specs.Crashes.{Unmoved}
use Rattle.disk_shelf.specs.Seals.{first_of, IsIntact}
use Rattle.disk_journal.specs.declared.journal.Tail.{Tail}
use Rattle.node.specs.Keeping.{WholeNode}
use Rattle.cell.specs.Ages.{IsWhy}
use Rattle.cell.specs.Looking.{AreIntact, AreLookedAt, AreOn, AreUnmoved, IsLookedAt, IsOfReading}
use Rattle.cell.specs.Opened.{AreBeside, AreFound, HasAt, IsCause, IsReadFrom, unsealed}
use Rattle.cell.specs.declared.fault.Unopened.{Unopened}
use Rattle.cell.specs.declared.fault.Unopened.TheVariants as fault
use Rattle.cell.proofs.Causes.{earlier-cause}
use Rattle.cell.proofs.OnShelves.{first-there}
use Rattle.wire.proofs.Places.{pushed-at, some_at}
use Rattle.wire.proofs.Places.{same-there, set-from}

-- ---- Disks of which nothing changes

-- one disk is read that was as before
pub unmoved-next : {D : Type 0} {seen : D → Areas} {may_leave : D → Areas → Type 0} {moment : D → ℕ}
    {left_since : D → ℕ → Areas → Type 0} {old new : List D} (place : ℕ) (x y : D)
    → AreUnmoved seen may_leave moment left_since old new → slice_get old place ≡ Some x
    → Unmoved seen may_leave moment left_since x y
    → AreUnmoved seen may_leave moment left_since old (set new place y)
unmoved-next {seen = seen} {may_leave = may_leave} {moment = moment} {left_since = left_since}
    {old = old} {new = new} place x y h there one = record {
      count = length-set new place y ∙ h.count;
      each = λ k d e was is.
          ⊎_elim
          (λ (t : (k ≡ place) × (y ≡ e)).
          subst₂ (Unmoved seen may_leave moment left_since)
          (same-there old place x d there (subst (λ (j : ℕ). slice_get old j ≡ Some d) t.0 was))
          t.1 one)
          (λ (t : (k ≢ place) × (slice_get new k ≡ Some e)). h.each k d e was t.1)
          (set-from new place k y e is);
    }

-- ---- One node after another

-- a write doesn't change later elements
set-past : {A : Type 0} (xs : List A) (i k : ℕ) (y : A) → i < k
    → slice_get (set xs i y) k ≡ slice_get xs k
set-past [] i k y after = refl
set-past (a ∷ xs) zero zero y after = absurd (omega (arith, after))
set-past (a ∷ xs) zero (suc k) y after = refl
set-past (a ∷ xs) (suc i) zero y after = refl
set-past (a ∷ xs) (suc i) (suc k) y after = set-past xs i k y (omega (arith, after))

pub looked-next : {D : Type 0} {seen : D → Areas} {may_leave : D → Areas → Type 0} {faults : D → ℕ}
    {shape : Shaped} {number : ℕ} {old new : List D} {nodes ns : List WholeNode}
    {areas bs : List (Option Tail)} {x y : D} {n : WholeNode} {area : Option Tail}
    → AreLookedAt seen may_leave faults shape number old new nodes areas
    → slice_get old number ≡ Some x → IsLookedAt seen may_leave faults shape number x y n area
    → (ns ≡ nodes ++ n ∷ []) × (bs ≡ areas ++ area ∷ [])
    → AreLookedAt seen may_leave faults shape (number + 1) old (set new number y) ns bs
looked-next {D} {seen} {may_leave} {faults} {shape} {number} {old} {new} {nodes} {areas = areas}
    {x = x} {y} {n} {area} h there it is = record {
      nodes_count = ap length is.0 ∙ length-append nodes (n ∷ []) ∙ ap (λ i. i + 1) h.nodes_count;
      places_count = ap length is.1 ∙ length-append areas (area ∷ [])
          ∙ ap (λ i. i + 1) h.places_count;
      each = λ k d e m b was is_new stands at.
          ⊎_elim
          (λ first.
          let before : k < number =
          (let inside = slice_get_within nodes k m first in
          let count = h.nodes_count in
          omega (arith, inside, count)) in
          h.each k d e m b was
          (⊎_elim
          (λ (t : (k ≡ number) × (y ≡ e)). absurd (omega (arith, before, t.0)))
          (λ (t : (k ≢ number) × (slice_get new k ≡ Some e)). t.1)
          (set-from new number k y e is_new))
          first
          (⊎_elim (λ old_area. old_area)
          (λ last. absurd (let count = h.places_count in omega (arith, before, last.0, count)))
          (pushed-at areas area k b (ap (λ l. slice_get l k) (sym is.1) ∙ at))))
          (λ last.
          let here : k ≡ number = last.0 ∙ h.nodes_count in
          let x_is : x ≡ d =
          same-there old number x d there (subst (λ (j : ℕ). slice_get old j ≡ Some d) here was) in
          let y_is : y ≡ e =
          ⊎_elim
          (λ (t : (k ≡ number) × (y ≡ e)). t.1)
          (λ (t : (k ≢ number) × (slice_get new k ≡ Some e)). absurd (t.0 here))
          (set-from new number k y e is_new) in
          let b_is : b ≡ area =
          ⊎_elim
          (λ (earlier : slice_get areas k ≡ Some b).
          absurd (let inside = slice_get_within areas k b earlier in
          let count = h.places_count in omega (arith, inside, here, count)))
          (λ (t : (k ≡ length areas) × (b ≡ area)). t.1)
          (pushed-at areas area k b (ap (λ l. slice_get l k) (sym is.1) ∙ at)) in
          subst (λ (i : ℕ). IsLookedAt seen may_leave faults shape i d e m b) (sym here)
          (subst (λ (v : Option Tail). IsLookedAt seen may_leave faults shape number d e m v)
          (sym b_is)
          (subst (λ (v : WholeNode). IsLookedAt seen may_leave faults shape number d e v area)
          (sym last.1)
          (subst₂ (λ (v w : D). IsLookedAt seen may_leave faults shape number v w n area) x_is y_is
          it))))
          (pushed-at nodes n k m (ap (λ l. slice_get l k) (sym is.0) ∙ stands));
      rest = λ k past.
          set-past new number k y (let after : number < k = omega (arith, past) in after)
          ∙ h.rest k (omega (arith, past));
    }

-- ---- All of them

-- all disks of a space were read, and nothing was written on them
pub record AreAllRead {D : Type 0} (seen : D → Areas) (may_leave : D → Areas → Type 0)
    (moment faults : D → ℕ) (left_since : D → ℕ → Areas → Type 0) (shape : Shaped)
    (old new : List D) (nodes : List WholeNode) (areas : List (Option Tail)) : Type 0 where
  pub quiet : AreUnmoved seen may_leave moment left_since old new
  pub found : AreLookedAt seen may_leave faults shape shape.nodes old new nodes areas
  pub many : length old ≡ shape.nodes

pub were-read : {D : Type 0} {seen : D → Areas} {may_leave : D → Areas → Type 0}
    {moment faults : D → ℕ} {left_since : D → ℕ → Areas → Type 0} {shape : Shaped}
    {old slice new : List D} {nodes : List WholeNode} {areas : List (Option Tail)}
    → slice ≡ old → length old ≡ shape.nodes
    → AreUnmoved seen may_leave moment left_since slice new
    → AreLookedAt seen may_leave faults shape shape.nodes slice new nodes areas
    → AreAllRead seen may_leave moment faults left_since shape old new nodes areas
were-read {seen = seen} {may_leave} {moment} {faults} {left_since} {shape} {new = new} {nodes}
    {areas} same many quiet found = record {
      quiet = subst (λ l. AreUnmoved seen may_leave moment left_since l new) same quiet;
      found = subst (λ l. AreLookedAt seen may_leave faults shape shape.nodes l new nodes areas)
          same found;
      many = many;
    }

module _ {D : Type 0} {seen : D → Areas} {may_leave : D → Areas → Type 0} {moment faults : D → ℕ}
    {left_since : D → ℕ → Areas → Type 0} {shape : Shaped} {old new : List D}
    {nodes : List WholeNode} {areas : List (Option Tail)}
    (h : AreAllRead seen may_leave moment faults left_since shape old new nodes areas) where
  pub all-on : AreOn seen may_leave shape new nodes areas
  all-on = record {
    nodes_count = h.found.nodes_count ∙ sym h.many ∙ sym h.quiet.count;
    places_count = h.found.places_count ∙ sym h.many ∙ sym h.quiet.count;
    each = λ k e n area there stands at.
        (let was = some_at old k
        (let inside = slice_get_within new k e there in
        let count = h.quiet.count in omega (arith, inside, count)) in
        let it = h.found.each k was.0 e n area was.1 there stands at in
        (it.node, it.holds));
  }

  pub all-read : AreBeside (λ k d n. IsReadFrom shape k (seen d) n) old nodes
  all-read k d n was stands =
      let inside = slice_get_within old k d was in
      let there = some_at new k (let count = h.quiet.count in omega (arith, inside, count)) in
      let at = some_at areas k
      (let found = h.found.places_count in let many = h.many in
      omega (arith, inside, many, found)) in
      (h.found.each k d there.0 n at.0 was there.1 stands at.1).read

  -- why a node of one of these disks couldn't be created
  cause-before : (seals : D → Bool) (k : ℕ) (r : Refusal)
      → HasAt k (λ d. IsCause seen unsealed moment faults shape k d r) new
      → HasAt k (λ d. IsCause seen seals moment faults shape k d r) old
  cause-before seals k r cause =
      let count = h.quiet.count in
      let many = h.many in
      let inside = slice_get_within new k cause.value cause.there in
      let was = some_at old k (omega (arith, inside, count)) in
      let n = some_at nodes k
      (let found = h.found.nodes_count in omega (arith, inside, many, count, found)) in
      let at = some_at areas k
      (let found = h.found.places_count in omega (arith, inside, many, count, found)) in
      let it = h.found.each k was.0 cause.value n.0 at.0 was.1 cause.there n.1 at.1 in
      record {
        value = was.0;
        there = was.1;
        is = earlier-cause seals faults shape k r
            (h.quiet.each k was.0 cause.value was.1 cause.there) it.fine cause.is;
      }

  pub why-before : (seals : D → Bool) (e : Unopened) → (IsOfReading e → ⊥)
      → IsWhy seen unsealed moment faults shape new e → IsWhy seen seals moment faults shape old e
  why-before seals fault.Disks read why = absurd (read tt)
  why-before seals (fault.Another k) read why = absurd (read tt)
  why-before seals (fault.Ages i j) read why = absurd (read tt)
  why-before seals (fault.Failed k r) read why = cause-before seals k r why
  why-before seals fault.Memory read why = tt

-- ---- Their seals

-- of the first disks, up to this number, those that seal are intact
pub record AreIntactTo {D : Type 0} (seen : D → Areas) (seals : D → Bool) (number : ℕ)
    (disks : List D) : Type 0 where
  pub each : (k : ℕ) (d : D) → k < number → slice_get disks k ≡ Some d → seals d ≡ true
      → IsIntact (seen d)

-- nothing was changed on a disk on which nothing was ever created
pub blank-intact : {seen : Areas} → IsBlank seen → IsIntact seen
blank-intact blank mark first =
    let none : first_of [] ≡ Some mark = subst (λ l. first_of l ≡ Some mark) blank first in
    absurd cc

-- one more disk was compared
pub intact-next : {D : Type 0} {seen : D → Areas} {seals : D → Bool} {disks : List D} {number : ℕ}
    {x : D} → AreIntactTo seen seals number disks → slice_get disks number ≡ Some x
    → (seals x ≡ true → IsIntact (seen x)) → AreIntactTo seen seals (number + 1) disks
intact-next {D = D} {seen = seen} {seals = seals} {disks = disks} {number = number}
    {x = x} before there
    here = record {
      each = λ k d inside at sealing. elim (leb_tells (k + 1) number) [
        | inl fits ↦ before.each k d (let first = fits.1 in omega (arith, first)) at sealing
        | inr past ↦
            let last : k ≡ number = (let after = past.1 in omega (arith, after, inside)) in
            let is : x ≡ d =
            same-there disks number x d there
            (subst (λ (j : ℕ). slice_get disks j ≡ Some d) last at) in
            subst (λ (v : D). seals v ≡ true → IsIntact (seen v)) is here sealing
      ];
    }

pub intact-all : {D : Type 0} {seen : D → Areas} {seals : D → Bool} {disks : List D} {number : ℕ}
    → AreIntactTo seen seals number disks → length disks ≡ number → AreIntact seen seals disks
intact-all {disks = disks} are many k d there sealing =
    let inside = slice_get_within disks k d there in
    are.each k d (omega (arith, inside, many)) there sealing

-- ---- Their shelves

-- one more shelf of a node
pub shelf-next : {S : Type 0} {ss : List S} {place : ℕ} {n : WholeNode} {s : S}
    (Lies : WholeNode → S → Type 0) (nodes : List WholeNode) (shelves : List S)
    → AreBeside (λ k t m. Lies m t) shelves nodes → length shelves ≡ place
    → slice_get nodes place ≡ Some n → Lies n s → ss ≡ shelves ++ s ∷ []
    → AreBeside (λ k t m. Lies m t) ss nodes
shelf-next {place = place} {n} {s} Lies nodes shelves h count stands lies is k t m there at =
    ⊎_elim (λ old. h k t m old at)
    (λ last.
    let here : k ≡ place = last.0 ∙ count in
    let same : n ≡ m =
    same-there nodes place n m stands (subst (λ (j : ℕ). slice_get nodes j ≡ Some m) here at) in
    subst₂ Lies same (sym last.1) lies)
    (pushed-at shelves s k t (ap (λ l. slice_get l k) (sym is) ∙ there))

-- all nodes are on their shelves
pub shelves-found : {D S : Type 0} {seen : D → Areas} {may_leave : D → Areas → Type 0}
    {shape : Shaped} {disks : List D} {nodes : List WholeNode} {areas : List (Option Tail)}
    {shelves : List S} (Lies : WholeNode → S → Type 0)
    → AreOn seen may_leave shape disks nodes areas → length shelves ≡ length nodes
    → AreBeside (λ k t m. Lies m t) shelves nodes → AreFound Lies shape nodes shelves
shelves-found {disks = disks} {areas = areas} Lies on count h = record {
  same = count;
  each = λ k n s stands there.
      (let inside = slice_get_within _ k n stands in
      let d = some_at disks k (let many = on.nodes_count in omega (arith, inside, many)) in
      let area = some_at areas k
      (let many = on.nodes_count in let also = on.places_count in
      omega (arith, inside, many, also)) in
      ((on.each k d.0 n area.0 d.1 stands area.1).0, h k s n there stands));
}

-- ---- By the number of a node, and the place that it names

-- the disk in a place that wasn't read yet
pub read-there : {D : Type 0} {seen : D → Areas} {may_leave : D → Areas → Type 0} {faults : D → ℕ}
    {shape : Shaped} {number : ℕ} {old new : List D} {nodes : List WholeNode}
    {areas : List (Option Tail)} (at : ℕ) (d : D)
    → AreLookedAt seen may_leave faults shape number old new nodes areas
    → length new ≡ length old → at ≡ number → number < length old
    → slice_get old number ≡ Some (get_or new at d)
read-there {number = number} {old = old} {new = new} at d h count same inside =
    sym (h.rest number (omega arith))
    ∙ subst (λ (i : ℕ). slice_get new i ≡ Some (get_or new at d)) same
    (slice_get-get_or new at d (omega (arith, count, same, inside)))

pub unmoved-at : {D : Type 0} {seen : D → Areas} {may_leave : D → Areas → Type 0} {moment : D → ℕ}
    {left_since : D → ℕ → Areas → Type 0} {old new : List D} (number at : ℕ) (x y : D)
    → AreUnmoved seen may_leave moment left_since old new → at ≡ number
    → slice_get old number ≡ Some x → Unmoved seen may_leave moment left_since x y
    → AreUnmoved seen may_leave moment left_since old (set new at y)
unmoved-at {seen = seen} {may_leave = may_leave} {moment = moment} {left_since = left_since}
    {old = old} {new = new} number at x y h same there one =
    subst (λ (i : ℕ). AreUnmoved seen may_leave moment left_since old (set new i y)) (sym same)
    (unmoved-next number x y h there one)

pub looked-at : {D : Type 0} {seen : D → Areas} {may_leave : D → Areas → Type 0} {faults : D → ℕ}
    {shape : Shaped} {number : ℕ} {old new : List D} {nodes ns : List WholeNode}
    {areas bs : List (Option Tail)} {x y : D} {n : WholeNode} {area : Option Tail} (at : ℕ)
    → AreLookedAt seen may_leave faults shape number old new nodes areas → at ≡ number
    → slice_get old number ≡ Some x → IsLookedAt seen may_leave faults shape number x y n area
    → (ns ≡ nodes ++ n ∷ []) × (bs ≡ areas ++ area ∷ [])
    → AreLookedAt seen may_leave faults shape (number + 1) old (set new at y) ns bs
looked-at {seen = seen} {may_leave = may_leave} {faults = faults} {shape = shape}
    {number = number} {old = old} {new = new} {ns = ns} {bs = bs} {y = y} at h same there it is =
    subst
    (λ (i : ℕ). AreLookedAt seen may_leave faults shape (number + 1) old (set new i y) ns bs)
    (sym same) (looked-next h there it is)

-- ---- The disk, the node and the area of one place

pub record AreAt {D : Type 0} (disks : List D) (nodes : List WholeNode)
    (areas : List (Option Tail)) (k : ℕ) (d : D) (n : WholeNode) (place : Option Tail)
    : Type 0 where
  pub disk : slice_get disks k ≡ Some d
  pub node : slice_get nodes k ≡ Some n
  pub area : slice_get areas k ≡ Some place

-- The first of the disks that are left, and what its place in the other lists has.
pub first-at : {D : Type 0} {seen : D → Areas} {may_leave : D → Areas → Type 0} {shape : Shaped}
    {disks left : List D} {nodes : List WholeNode} {areas : List (Option Tail)} {k place : ℕ}
    {d : D} {n : WholeNode} → AreOn seen may_leave shape disks nodes areas → k < length nodes
    → place ≡ k → left ≡ drop k disks → d ≡ get_or left 0 d → n ≡ get_or nodes place n
    → AreAt disks nodes areas k d n (get_or areas place None)
first-at {disks = disks} {nodes = nodes} {areas = areas} {k = k} {place = place} {d = d} {n = n}
    on inside at rest first stands =
    let many = on.nodes_count in
    let placed = on.places_count in
    record {
      disk = first-there disks k d (omega (arith, inside, many))
          (subst (λ l. d ≡ get_or l 0 d) rest first);
      node = slice_get_read nodes (length nodes) k n refl inside
          (subst (λ (i : ℕ). n ≡ get_or nodes i n) at stands);
      area = subst (λ (i : ℕ). slice_get areas k ≡ Some (get_or areas i None)) (sym at)
          (slice_get-get_or areas k None (omega (arith, inside, many, placed)));
    }
