-- What a reader finds in a file that begins with a value and entries behind it.
use Rattle.std.proofs.Common.{◌≡◌, ◌<◌, ◌≤◌, ◌+◌, ◌-◌, ℕ, zero, suc, Bool, cond, true, false, List, [], ◌∷◌, ◌++◌, Option, Some, None, length, refl, sym, ap, ◌∙◌, subst, arith, ◌⊎◌, ⊎_elim}
use Rattle.std.proofs.lemmas.Bool.{and_from, and_parts, eq-eqb, eqb-true, lt-ltb, ltb-true}
use Rattle.slots.specs.declared.opening.Found.{Found}
use Rattle.slots.specs.Openings.{is_next, with_entry}
use Rattle.slots.specs.Disk.{behind_if, first_read, fits_behind, next_of, nothing_read, read, read_if, read_on, same_kind, whole_at, with_item, Content, Entry, Item, Kind, Reading, Value}
use Rattle.slots.proofs.Disk.{kind-same, whole-complete, whole-sound, IsWhole}

-- ---- one more entry

pub record Fits (r : Reading) (y : Item) : Type 0 where
  pub kind : y.kind ≡ Entry
  pub base : y.base ≡ r.last.base
  pub before : y.before ≡ r.last.seal
  pub version : r.found.version ≡ 2
  pub number : r.found.number < y.number

pub fits-parts : (r : Reading) (y : Item) → fits_behind r y ≡ true → Fits r y
fits-parts r y e =
    let parts = and_parts _ _ e in
    let first = and_parts _ _ parts.0 in
    let second = and_parts _ _ parts.1 in
    let third = and_parts _ _ second.1 in
    record {
      kind = kind-same y.kind Entry first.0;
      base = eqb-true _ _ first.1;
      before = eqb-true _ _ second.0;
      version = eqb-true _ _ third.0;
      number = ltb-true _ _ third.1;
    }

pub next-true : (r : Reading) (y : Item) → Fits r y → is_next r.found y.number ≡ true
next-true r y f = and_from _ _ (eq-eqb _ _ f.version) (lt-ltb _ _ f.number)

pub fits-from : (r : Reading) (y : Item) → Fits r y → fits_behind r y ≡ true
fits-from r y f =
    and_from _ _
    (and_from _ _ (ap (λ (k : Kind). same_kind k Entry) f.kind) (eq-eqb _ _ f.base))
    (and_from _ _ (eq-eqb _ _ f.before) (next-true r y f))

-- the entry is behind what was read
pub record IsBehind (c : Content) (r : Reading) (y : Item) : Type 0 where
  pub whole : IsWhole c r.end y
  pub fits : Fits r y
  pub since : y.since ≡ r.holds
  pub newer : y.before < y.seal
  pub some : 0 < y.size

next-if : (r : Reading) (y : Item) → Fits r y → behind_if r (Some y) ≡ Some y
next-if r y f = ap (λ (b : Bool). cond b (Some y) None) (fits-from r y f)

pub next-is : (c : Content) (r : Reading) (y : Item) → IsWhole c r.end y → Fits r y
    → next_of c r ≡ Some y
next-is c r y whole fits = ap (behind_if r) (whole-complete c r.end y whole) ∙ next-if r y fits

pub next-sound : (c : Content) (r : Reading) (y : Item) → next_of c r ≡ Some y
    → IsWhole c r.end y × Fits r y
next-sound c r y e = go (whole_at c r.end) refl e
  where
    go : (o : Option Item) → whole_at c r.end ≡ o → behind_if r o ≡ Some y
        → IsWhole c r.end y × Fits r y
    go None is e = absurd cc
    go (Some z) is e = last (fits_behind r z) refl e
      where
        last : (b : Bool) → fits_behind r z ≡ b → cond b (Some z) None ≡ Some y
            → IsWhole c r.end y × Fits r y
        last true fits e =
            let same : z ≡ y = cc in
            subst (λ (x : Item). IsWhole c r.end x × Fits r x) same
            (whole-sound c r.end z is, fits-parts r z fits)
        last false fits e = absurd cc

-- ---- entries one behind another

abbrev pub Chain : Content → Reading → List Item → Type 0
Chain c r [] = Unit {0}
Chain c r (y ∷ ys) = IsBehind c r y × Chain c (with_item r y) ys

-- what was read then
abbrev pub tail : Reading → List Item → Reading
tail r [] = r
tail r (y ∷ ys) = tail (with_item r y) ys

-- what holds of a reading of a value and entries that go together
pub record GoesTogether (r : Reading) : Type 0 where
  pub version : r.found.version ≡ 2
  pub number : r.found.number ≡ r.last.number
  pub holds : r.holds ≡ r.last.save
  pub synced : r.found.synced ≡ 0

found-with : (r : Reading) (y : Item) → Fits r y
    → with_entry r.found y.number ≡ record (r.found) { number = y.number }
found-with r y f =
    ap (λ (b : Bool). cond b (record (r.found) { number = y.number }) r.found) (next-true r y f)

pub together-with : (r : Reading) (y : Item) → GoesTogether r → Fits r y → y.since ≡ r.holds
    → GoesTogether (with_item r y)
together-with r y g fits since =
    let is = found-with r y fits in
    record {
      version = ap (λ (f : Found). f.version) is ∙ g.version;
      number = ap (λ (f : Found). f.number) is;
      holds = ap (λ (t : Bool). cond t y.save 0) (eq-eqb y.since r.holds since);
      synced = ap (λ (f : Found). f.synced) is ∙ g.synced;
    }

pub together-more : (c : Content) (r : Reading) (y : Item) → GoesTogether r → IsBehind c r y
    → GoesTogether (with_item r y)
together-more c r y g b = together-with r y g b.fits b.since

pub together : (c : Content) (r : Reading) (ys : List Item) → GoesTogether r → Chain c r ys
    → GoesTogether (tail r ys)
together c r [] g chain = g
together c r (y ∷ ys) g chain =
    together c (with_item r y) ys (together-more c r y g chain.0) chain.1

pub together-first : (x : Item) → GoesTogether (first_read x)
together-first x = record { version = refl; number = refl; holds = refl; synced = refl }

pub tail-end : (r : Reading) (ys : List Item) → r.end ≤ (tail r ys).end
tail-end r [] = omega arith
tail-end r (y ∷ ys) =
    let more = tail-end (with_item r y) ys in
    omega (arith, more)

pub tail-base : (c : Content) (r : Reading) (ys : List Item) → Chain c r ys
    → (tail r ys).last.base ≡ r.last.base
tail-base c r [] chain = refl
tail-base c r (y ∷ ys) chain = tail-base c (with_item r y) ys chain.1 ∙ chain.0.fits.base

pub tail-number : (c : Content) (r : Reading) (ys : List Item) → GoesTogether r → Chain c r ys
    → r.last.number ≤ (tail r ys).last.number
tail-number c r [] g chain = omega arith
tail-number c r (y ∷ ys) g chain =
    let more = tail-number c (with_item r y) ys (together-more c r y g chain.0) chain.1 in
    let next = chain.0.fits.number in
    let same = g.number in
    omega (arith, more, next, same)

-- seals grow, so there are no more entries than seals
pub tail-seal : (c : Content) (r : Reading) (ys : List Item) → Chain c r ys
    → r.last.seal + length ys ≤ (tail r ys).last.seal
tail-seal c r [] chain = omega arith
tail-seal c r (y ∷ ys) chain =
    let more = tail-seal c (with_item r y) ys chain.1 in
    let next = chain.0.newer in
    let same = chain.0.fits.before in
    omega (arith, more, next, same)

pub tail-more : (r : Reading) (ys : List Item) (y : Item)
    → tail r (ys ++ y ∷ []) ≡ with_item (tail r ys) y
tail-more r [] y = refl
tail-more r (x ∷ ys) y = tail-more (with_item r x) ys y

pub chain-more : (c : Content) (r : Reading) (ys : List Item) (y : Item) → Chain c r ys
    → IsBehind c (tail r ys) y
    → Chain c r (ys ++ y ∷ [])
chain-more c r [] y chain b = (b, tt)
chain-more c r (x ∷ ys) y chain b = (chain.0, chain-more c (with_item r x) ys y chain.1 b)

-- ---- what a write behind leaves

-- the contents are the same before this place
abbrev pub AreSame : ℕ → Content → Content → Type 0
AreSame end c d = (k : ℕ) → k < end → d k ≡ c k

pub whole-same : {c : Content} {at : ℕ} {x : Item} (d : Content) (end : ℕ) → IsWhole c at x
    → AreSame end c d
    → 0 < x.size
    → at + x.size ≤ end
    → IsWhole d at x
whole-same {at = at} d end w same some within = record {
  head = same at (omega (arith, some, within)) ∙ w.head;
  all = λ n below. same (at + n) (omega (arith, below, within)) ∙ w.all n below;
}

pub chain-same : (c d : Content) (end : ℕ) (r : Reading) (ys : List Item) → AreSame end c d
    → (tail r ys).end ≤ end
    → Chain c r ys
    → Chain d r ys
chain-same c d end r [] same within chain = tt
chain-same c d end r (y ∷ ys) same within chain =
    let more = tail-end (with_item r y) ys in
    let b = chain.0 in (
      record {
        whole = whole-same d end b.whole same b.some (omega (arith, more, within));
        fits = b.fits;
        since = b.since;
        newer = b.newer;
        some = b.some;
      },
      chain-same c d end (with_item r y) ys same within chain.1,
    )

-- ---- reading

read-next : (n : ℕ) (c : Content) (r : Reading) (y : Item) → next_of c r ≡ Some y
    → read_on (suc n) c r ≡ read_on n c (with_item r y)
read-next n c r y is =
    ap
    (λ (o : Option Item). elim o as (λ o. Reading)
    [ None ↦ r | Some z ↦ read_on n c (with_item r z) ])
    is

pub read-chain : (n m : ℕ) (c : Content) (r : Reading) (ys : List Item) → Chain c r ys
    → n ≡ length ys + m
    → read_on n c r ≡ read_on m c (tail r ys)
read-chain n m c r [] chain count = ap (λ (z : ℕ). read_on z c r) (zero-plus n m count)
  where
    zero-plus : (n m : ℕ) → n ≡ 0 + m → n ≡ m
    zero-plus n m e = omega (arith, e)
read-chain zero m c r (y ∷ ys) chain count = absurd (omega (arith, count))
read-chain (suc n) m c r (y ∷ ys) chain count =
    read-next n c r y (next-is c r y chain.0.whole chain.0.fits)
    ∙ read-chain n m c (with_item r y) ys chain.1 (omega (arith, count))

-- no entry is next
abbrev pub EndsThere : Content → Reading → Type 0
EndsThere c r = (y : Item) → next_of c r ≡ Some y → ⊥

pub read-stops : (n : ℕ) (c : Content) (r : Reading) → EndsThere c r → read_on n c r ≡ r
read-stops zero c r none = refl
read-stops (suc n) c r none = go (next_of c r) refl
  where
    go : (o : Option Item) → next_of c r ≡ o
        → elim o as (λ o. Reading) [ None ↦ r | Some y ↦ read_on n c (with_item r y) ] ≡ r
    go None e = refl
    go (Some y) e = absurd (none y e)

-- the file begins with this value, and these entries behind it
pub record Begins (c : Content) (v : Item) (ys : List Item) : Type 0 where
  pub value : IsWhole c 0 v
  pub kind : v.kind ≡ Value
  pub own : v.base ≡ v.seal
  pub some : 0 < v.size
  pub chain : Chain c (first_read v) ys

abbrev pub all_read : Item → List Item → Reading
all_read v ys = tail (first_read v) ys

pub begins-read : (n : ℕ) (c : Content) (v : Item) (ys : List Item) → Begins c v ys
    → read n c ≡ read_on n c (first_read v)
begins-read n c v ys b =
    ap (read_if n c) (whole-complete c 0 v b.value)
    ∙ ap (λ (k : Kind). cond (same_kind k Value) (read_on n c (first_read v)) nothing_read) b.kind

pub begins-together : (c : Content) (v : Item) (ys : List Item) → Begins c v ys
    → GoesTogether (all_read v ys)
begins-together c v ys b = together c (first_read v) ys (together-first v) b.chain

pub begins-same : (c d : Content) (end : ℕ) (v : Item) (ys : List Item) → AreSame end c d
    → (all_read v ys).end ≤ end
    → Begins c v ys
    → Begins d v ys
begins-same c d end v ys same within b =
    let more = tail-end (first_read v) ys in
    record {
      value = whole-same d end b.value same b.some (omega (arith, more, within));
      kind = b.kind;
      own = b.own;
      some = b.some;
      chain = chain-same c d end (first_read v) ys same within b.chain;
    }

-- an entry of this chain, or an earlier one of it
pub record IsKnown (last y : Item) : Type 0 where
  pub seal : y.seal ≤ last.seal
  pub number : y.number ≤ last.number
  pub newer : y.before < y.seal

-- a later one, at this place
pub record IsNewer (r : Reading) (at : ℕ) (y : Item) : Type 0 where
  pub place : at ≡ r.end
  pub before : y.before ≡ r.last.seal
  pub newer : r.last.seal < y.seal
  pub number : r.last.number < y.number
  pub since : y.since ≡ r.last.save
  pub some : 0 < y.size

-- All entries that are whole and belong behind this value are in the chain, or are of these.
abbrev pub Only : (ℕ → Item → Type 0) → Content → Reading → Type 0
Only P c r =
    (at : ℕ) (y : Item) → y.kind ≡ Entry → y.base ≡ r.last.base → IsWhole c at y
    → IsKnown r.last y ⊎ (IsNewer r at y × P at y)

-- no entry counts but those of the chain
abbrev pub Nothing : ℕ → Item → Type 0
Nothing at y = ⊥

-- an entry behind the chain is a newer one
pub next-newer : (P : ℕ → Item → Type 0) (c : Content) (r : Reading) (y : Item) → Only P c r
    → next_of c r ≡ Some y
    → IsNewer r r.end y × P r.end y
next-newer P c r y only e =
    let sound = next-sound c r y e in
    let fits = sound.1 in
    ⊎_elim {C = IsNewer r r.end y × P r.end y}
    (λ (known : IsKnown r.last y).
    let a = known.seal in
    let b = known.newer in
    let d = fits.before in
    absurd (omega (arith, a, b, d)))
    (λ (newer : IsNewer r r.end y × P r.end y). newer)
    (only r.end y fits.kind fits.base sound.0)

-- and nothing is behind that
pub none-behind : (P : ℕ → Item → Type 0) (c : Content) (r : Reading) (y : Item) → Only P c r
    → Fits r y
    → r.last.seal < y.seal
    → EndsThere c (with_item r y)
none-behind P c r y only fits newer z e =
    let sound = next-sound c (with_item r y) z e in
    let behind = sound.1.before in
    ⊎_elim {C = ⊥}
    (λ (known : IsKnown r.last z).
    let a = known.seal in
    let b = known.newer in
    omega (arith, a, b, behind, newer))
    (λ (other : IsNewer r (with_item r y).end z × P (with_item r y).end z).
    let a = other.0.before in
    omega (arith, a, behind, newer))
    (only (with_item r y).end z sound.1.kind (sound.1.base ∙ fits.base) sound.0)

-- What a reader finds: the chain, or the chain with one newer entry.
pub data Finds (P : ℕ → Item → Type 0) (c : Content) (r : Reading) (is : Reading) : Type 0 where
  Same : is ≡ r → EndsThere c r → Finds P c r is
  More : (y : Item) → is ≡ with_item r y → IsBehind c r y → P r.end y → Finds P c r is

pub finds : (P : ℕ → Item → Type 0) (n : ℕ) (c : Content) (v : Item) (ys : List Item)
    → Begins c v ys
    → Only P c (all_read v ys)
    → length ys < n
    → Finds P c (all_read v ys) (read n c)
finds P n c v ys b only most =
    subst (λ (is : Reading). Finds P c (all_read v ys) is) (sym reads)
    (go (next_of c (all_read v ys)) refl)
  where
    rest : ℕ
    rest = n - length ys - 1

    reads : read n c ≡ read_on (suc rest) c (all_read v ys)
    reads =
        begins-read n c v ys b
        ∙ read-chain n (suc rest) c (first_read v) ys b.chain (omega (arith, most))

    go : (o : Option Item) → next_of c (all_read v ys) ≡ o
        → Finds P c (all_read v ys) (read_on (suc rest) c (all_read v ys))
    go None e =
        Same
        (read-stops (suc rest) c (all_read v ys) (λ y f. absurd cc))
        (λ y f. absurd cc)
    go (Some y) e =
        let sound = next-sound c (all_read v ys) y e in
        let newer = next-newer P c (all_read v ys) y only e in
        More y
        (read-next rest c (all_read v ys) y e
        ∙ read-stops rest c (with_item (all_read v ys) y)
        (none-behind P c (all_read v ys) y only sound.1 newer.0.newer))
        (record {
          whole = sound.0;
          fits = sound.1;
          since = newer.0.since ∙ sym (begins-together c v ys b).holds;
          newer = subst (λ (z : ℕ). z < y.seal) (sym newer.0.before) newer.0.newer;
          some = newer.0.some;
        })
        newer.1
