-- A mark that is seen shows that its save was whole.
use Rattle.std.proofs.Common.{◌≡◌, ◌<◌, ◌≤◌, ◌-◌, ℕ, zero, suc, Bool, cond, true, false, List, [], ◌∷◌, Option, Some, None, refl, sym, ◌∙◌, subst, arith, ⊎_elim, ltb}
use Rattle.std.proofs.lemmas.Bool.{and_parts, lt-ltb, ltb-false, ltb-true, not-true}
use Rattle.std.specs.List.{Contains}
use Rattle.slots.specs.declared.saving.TheConstants.{NUMBERS}
use Rattle.slots.specs.declared.opening.Found.{Found}
use Rattle.slots.specs.declared.opening.Choice.TheVariants as choice
use Rattle.slots.specs.Openings.{chosen, counts, is_expected, with_behind, with_mark, with_synced}
use Rattle.slots.specs.Disk.{is_mark_of, looked, looked_all, marked, read, same_kind, shown, whole_at, Content, Entry, ForEntry, ForMark, Item, Look, Reading}
use Rattle.slots.specs.Laws.{reading_of, MarksHold, SeesMark}

-- what a look leaves as it was, and that what was shown stays shown
record Goes (r s : Reading) : Type 0 where
  version : s.found.version ≡ r.found.version
  base : s.last.base ≡ r.last.base
  synced : r.found.synced ≤ s.found.synced

goes-nowhere : (r : Reading) → Goes r r
goes-nowhere r = record { version = refl; base = refl; synced = omega arith }

goes-both : (r s t : Reading) → Goes r s → Goes s t → Goes r t
goes-both r s t a b =
    let x = a.synced in
    let y = b.synced in
    record {
      version = b.version ∙ a.version;
      base = b.base ∙ a.base;
      synced = omega (arith, x, y);
    }

goes-synced : (r : Reading) (number : ℕ) → Goes r (record r { found = with_synced r.found number })
goes-synced r number = go (ltb r.found.synced number) refl
  where
    go : (b : Bool) → ltb r.found.synced number ≡ b
        → Goes r
        (record r { found = cond b (record (r.found) { synced = number }) r.found })
    go true e =
        let above = ltb-true r.found.synced number e in
        record { version = refl; base = refl; synced = omega (arith, above) }
    go false e = goes-nowhere r

goes-found : (b : Bool) (r : Reading) (number : ℕ)
    → Goes r (record r { found = cond b (with_synced r.found number) r.found })
goes-found true r number = goes-synced r number
goes-found false r number = goes-nowhere r

goes-if : (b : Bool) (r s : Reading) → Goes r s → Goes r (cond b s r)
goes-if true r s g = g
goes-if false r s g = goes-nowhere r

look-goes : (c : Content) (r : Reading) (look : Look) → Goes r (looked c r look)
look-goes c r (ForMark at) = go (whole_at c at)
  where
    go : (o : Option Item) → Goes r (marked r o)
    go None = goes-nowhere r
    go (Some m) =
        goes-if (is_mark_of r m) r (record r { found = with_mark r.found m.number })
        (goes-found (ltb m.number NUMBERS) r m.number)
look-goes c r (ForEntry claimed at) = go (whole_at c at)
  where
    go : (o : Option Item) → Goes r (shown r claimed o)
    go None = goes-nowhere r
    go (Some y) =
        goes-if (same_kind y.kind Entry) r
        (record r { found = with_behind r.found claimed y.number })
        (goes-found (is_expected r.found claimed y.number) r (y.number - 1))

looks-go : (c : Content) (r : Reading) (looks : List Look) → Goes r (looked_all c r looks)
looks-go c r [] = goes-nowhere r
looks-go c r (look ∷ looks) =
    goes-both r (looked c r look) (looked_all c (looked c r look) looks) (look-goes c r look)
    (looks-go c (looked c r look) looks)

-- the mark at this place, of the value that was read
record IsMarkAt (c : Content) (r : Reading) (at : ℕ) (m : Item) : Type 0 where
  whole : whole_at c at ≡ Some m
  of_value : is_mark_of r m ≡ true
  number : m.number < NUMBERS

-- a mark that is seen is counted
sees-one : (c : Content) (r : Reading) (at : ℕ) (m : Item) → IsMarkAt c r at m
    → m.number ≤ (looked c r (ForMark at)).found.synced
sees-one c r at m is =
    rw (is.whole, is.of_value, lt-ltb m.number NUMBERS is.number)
    (go (ltb r.found.synced m.number) refl)
  where
    go : (b : Bool) → ltb r.found.synced m.number ≡ b
        → m.number ≤ (cond b (record (r.found) { synced = m.number }) r.found).synced
    go true e = omega arith
    go false e =
        let within = ltb-false r.found.synced m.number e in
        omega (arith, within)

same-mark : (c : Content) (r s : Reading) (at : ℕ) (m : Item) → Goes r s → IsMarkAt c r at m
    → IsMarkAt c s at m
same-mark c r s at m g is = record {
  whole = is.whole;
  of_value = rw (g.version, g.base) is.of_value;
  number = is.number;
}

sees-all : (c : Content) (r : Reading) (looks : List Look) (at : ℕ) (m : Item)
    → Contains looks (ForMark at)
    → IsMarkAt c r at m
    → m.number ≤ (looked_all c r looks).found.synced
sees-all c r [] at m (k, inside, same) is = absurd (omega (arith, inside))
sees-all c r (look ∷ looks) at m (zero, inside, same) is =
    let one : m.number ≤ (looked c r look).found.synced =
    subst (λ (l : Look). m.number ≤ (looked c r l).found.synced) (sym same)
    (sees-one c r at m is) in
    let more = (looks-go c (looked c r look) looks).synced in
    omega (arith, one, more)
sees-all c r (look ∷ looks) at m (suc k, inside, same) is =
    sees-all c (looked c r look) looks at m (k, omega (arith, inside), same)
    (same-mark c r (looked c r look) at m (look-goes c r look) is)

sees : (most : ℕ) (c : Content) (looks : List Look) (m : Item) → SeesMark most c looks m
    → m.number ≤ (reading_of most c looks).found.synced
sees most c looks m s =
    sees-all c (read most c) looks s.at m s.look
    (record { whole = s.whole; of_value = s.of_value; number = s.number })

-- ---- the choice

counts-last : (a b : Found) → counts a b ≡ true
    → (a.synced ≤ a.number) × (b.synced ≤ a.number)
counts-last a b e =
    let parts = and_parts _ _ (and_parts _ _ e).1 in (
      ltb-false a.number a.synced (not-true (ltb a.number a.synced) parts.0),
      ltb-false a.number b.synced (not-true (ltb a.number b.synced) parts.1),
    )

first-last : (a b : Found) → chosen a b ≡ choice.First → (a.synced ≤ a.number) ×
    (b.synced ≤ a.number)
first-last a b e = go (counts a b) (counts b a) refl e
  where
    go : (x y : Bool) → counts a b ≡ x
        → cond x choice.First (cond y choice.Second choice.Damaged) ≡ choice.First
        → (a.synced ≤ a.number) × (b.synced ≤ a.number)
    go true y is e = counts-last a b is
    go false true is e = absurd cc
    go false false is e = absurd cc

second-last : (a b : Found) → chosen a b ≡ choice.Second
    → (b.synced ≤ b.number) × (a.synced ≤ b.number)
second-last a b e = go (counts a b) (counts b a) refl e
  where
    go : (x y : Bool) → counts b a ≡ y
        → cond x choice.First (cond y choice.Second choice.Damaged) ≡ choice.Second
        → (b.synced ≤ b.number) × (a.synced ≤ b.number)
    go true y is e = absurd cc
    go false true is e = counts-last b a is
    go false false is e = absurd cc

pub marks-hold : MarksHold
marks-hold most first second looks_first looks_second m seen = (
  (λ e.
      let last = first-last a b e in
      let x = last.0 in
      let y = last.1 in
      ⊎_elim {C = m.number ≤ a.number}
      (λ (s : SeesMark most first looks_first m).
      let z = sees most first looks_first m s in
      omega (arith, x, z))
      (λ (s : SeesMark most second looks_second m).
      let z = sees most second looks_second m s in
      omega (arith, y, z))
      seen),
  (λ e.
      let last = second-last a b e in
      let x = last.0 in
      let y = last.1 in
      ⊎_elim {C = m.number ≤ b.number}
      (λ (s : SeesMark most first looks_first m).
      let z = sees most first looks_first m s in
      omega (arith, y, z))
      (λ (s : SeesMark most second looks_second m).
      let z = sees most second looks_second m s in
      omega (arith, x, z))
      seen),
)
  where
    a : Found
    a = (reading_of most first looks_first).found

    b : Found
    b = (reading_of most second looks_second).found
