-- Items that are written one behind another, and copies of entries.
use Rattle.std.proofs.Common.{◌≡◌, ◌<◌, ◌≤◌, ◌+◌, ◌-◌, ℕ, zero, suc, Bool, cond, true, false, List, [], ◌∷◌, ◌++◌, length, take, drop, refl, sym, ap, ◌∙◌, subst, arith, ltb}
use Rattle.std.proofs.lemmas.Bool.{lt-ltb, ltb-true}
use Rattle.slots.specs.Beside.{bytes_of, copies_of, last_seal, size_of}
use Rattle.slots.specs.Disk.{with_item, Content, Entry, Item, Of, Other, Reading}
use Rattle.slots.proofs.Disk.{IsWhole}
use Rattle.slots.proofs.Reading.{next-true, tail, together-with, Chain, Fits, GoesTogether, IsKnown}

-- ---- items that go together, in any file

pub record IsNext (r : Reading) (y : Item) : Type 0 where
  pub fits : Fits r y
  pub since : y.since ≡ r.holds
  pub newer : y.before < y.seal
  pub some : 0 < y.size

abbrev pub AreNext : Reading → List Item → Type 0
AreNext r [] = Unit {0}
AreNext r (y ∷ ys) = IsNext r y × AreNext (with_item r y) ys

pub next-more : (r : Reading) (xs : List Item) (y : Item) → AreNext r xs → IsNext (tail r xs) y
    → AreNext r (xs ++ y ∷ [])
next-more r [] y all n = (n, tt)
next-more r (x ∷ xs) y all n = (all.0, next-more (with_item r x) xs y all.1 n)

pub tail-both : (r : Reading) (xs ys : List Item) → tail r (xs ++ ys) ≡ tail (tail r xs) ys
tail-both r [] ys = refl
tail-both r (x ∷ xs) ys = tail-both (with_item r x) xs ys

pub chain-both : (c : Content) (r : Reading) (xs ys : List Item) → Chain c r xs
    → Chain c (tail r xs) ys
    → Chain c r (xs ++ ys)
chain-both c r [] ys a b = b
chain-both c r (x ∷ xs) ys a b = (a.0, chain-both c (with_item r x) xs ys a.1 b)

pub chain-first : (c : Content) (r : Reading) (xs ys : List Item) → Chain c r (xs ++ ys)
    → Chain c r xs
chain-first c r [] ys chain = tt
chain-first c r (x ∷ xs) ys chain = (chain.0, chain-first c (with_item r x) xs ys chain.1)

-- ---- their bytes

abbrev pub HasBytes : Content → ℕ → List Item → Type 0
HasBytes c at xs = (k : ℕ) → at ≤ k → k < at + size_of xs → c k ≡ bytes_of at xs k

first-bytes : (at : ℕ) (x : Item) (xs : List Item) (n : ℕ) → n < x.size
    → bytes_of at (x ∷ xs) (at + n) ≡ Of x n
first-bytes at x xs n below =
    ap (λ (b : Bool). cond b (Of x (at + n - at)) (bytes_of (at + x.size) xs (at + n)))
    (lt-ltb (at + n) (at + x.size) (omega (arith, below)))
    ∙ ap (Of x) (back at n)
  where
    back : (at n : ℕ) → at + n - at ≡ n
    back at n = omega arith

more-bytes : (at : ℕ) (x : Item) (xs : List Item) (k : ℕ) → at + x.size ≤ k
    → bytes_of at (x ∷ xs) k ≡ bytes_of (at + x.size) xs k
more-bytes at x xs k above = go (ltb k (at + x.size)) refl
  where
    go : (b : Bool) → ltb k (at + x.size) ≡ b
        → cond b (Of x (k - at)) (bytes_of (at + x.size) xs k) ≡ bytes_of (at + x.size) xs k
    go true e =
        let below = ltb-true k (at + x.size) e in
        absurd (omega (arith, below, above))
    go false e = refl

first-whole : (c : Content) (at : ℕ) (x : Item) (xs : List Item) → 0 < x.size
    → HasBytes c at (x ∷ xs)
    → IsWhole c at x
first-whole c at x xs some has = record {
  head =
      ap c (plus at) ∙ byte 0 some;
  all = byte;
}
  where
    plus : (n : ℕ) → n ≡ n + 0
    plus n = omega arith

    byte : (n : ℕ) → n < x.size → c (at + n) ≡ Of x n
    byte n below =
        has (at + n) (omega arith) (omega (arith, below)) ∙ first-bytes at x xs n below

pub chain-written : (c : Content) (r : Reading) (xs : List Item) → AreNext r xs
    → HasBytes c r.end xs
    → Chain c r xs
chain-written c r [] all has = tt
chain-written c r (x ∷ xs) all has =
    let n = all.0 in (
      record {
        whole = first-whole c r.end x xs n.some has;
        fits = n.fits;
        since = n.since;
        newer = n.newer;
        some = n.some;
      },
      chain-written c (with_item r x) xs all.1
          (λ k above below.
          has k (omega (arith, above)) (omega (arith, below))
          ∙ more-bytes r.end x xs k above),
    )

pub tail-size : (r : Reading) (xs : List Item) → (tail r xs).end ≡ r.end + size_of xs
tail-size r [] = omega arith
tail-size r (x ∷ xs) =
    let more = tail-size (with_item r x) xs in
    omega (arith, more)

pub next-base : (r : Reading) (xs : List Item) → AreNext r xs
    → (tail r xs).last.base ≡ r.last.base
next-base r [] all = refl
next-base r (x ∷ xs) all = next-base (with_item r x) xs all.1 ∙ all.0.fits.base

pub next-seal : (r : Reading) (xs : List Item) → AreNext r xs
    → r.last.seal ≤ (tail r xs).last.seal
next-seal r [] all = omega arith
next-seal r (x ∷ xs) all =
    let more = next-seal (with_item r x) xs all.1 in
    let newer = all.0.newer in
    let same = all.0.fits.before in
    omega (arith, more, newer, same)

pub next-number : (r : Reading) (xs : List Item) → r.found.number ≡ r.last.number
    → AreNext r xs
    → (r.last.number ≤ (tail r xs).last.number) ×
    ((tail r xs).found.number ≡ (tail r xs).last.number)
next-number r [] same all = (omega arith, same)
next-number r (x ∷ xs) same all =
    let is : (with_item r x).found.number ≡ x.number = taken r x all.0.fits in
    let more = next-number (with_item r x) xs is all.1 in
    let first = more.0 in
    let next = all.0.fits.number in
    (omega (arith, first, next, same), more.1)
  where
    taken : (r : Reading) (x : Item) → Fits r x → (with_item r x).found.number ≡ x.number
    taken r x fits =
        ap
        (λ (b : Bool). (cond b (record (r.found) { number = x.number }) r.found).number)
        (next-true r x fits)

-- what is written is known then
pub written-known : (r : Reading) (xs : List Item) (at k : ℕ) {n : ℕ} {y : Item}
    → r.found.number ≡ r.last.number
    → AreNext r xs
    → bytes_of at xs k ≡ Of y n
    → (y.kind ≡ Entry) × (y.base ≡ r.last.base) × IsKnown (tail r xs).last y
written-known r [] at k {n} {y} same all is = absurd (none is)
  where
    none : Other ≡ Of y n → ⊥
    none e = cc
written-known r (x ∷ xs) at k {n} {y} same all is =
    go (ltb k (at + x.size)) is
    (λ e.
    let more =
    written-known (with_item r x) xs (at + x.size) k (taken r x all.0.fits) all.1 e in
    (more.0, more.1 ∙ all.0.fits.base, more.2))
  where
    taken : (r : Reading) (x : Item) → Fits r x → (with_item r x).found.number ≡ x.number
    taken r x fits =
        ap
        (λ (b : Bool). (cond b (record (r.found) { number = x.number }) r.found).number)
        (next-true r x fits)

    go : (b : Bool)
        → cond b (Of x (k - at)) (bytes_of (at + x.size) xs k) ≡ Of y n
        → (bytes_of (at + x.size) xs k ≡ Of y n
        → (y.kind ≡ Entry) × (y.base ≡ r.last.base) × IsKnown (tail (with_item r x) xs).last y)
        → (y.kind ≡ Entry) × (y.base ≡ r.last.base) × IsKnown (tail (with_item r x) xs).last y
    go true e more =
        let it : x ≡ y = cc in
        let number = (next-number (with_item r x) xs (taken r x all.0.fits) all.1).0 in
        let seal = next-seal (with_item r x) xs all.1 in
        subst
        (λ (z : Item).
        (z.kind ≡ Entry) × (z.base ≡ r.last.base) × IsKnown (tail (with_item r x) xs).last z) it (
          all.0.fits.kind,
          all.0.fits.base,
          record { seal = seal; number = number; newer = all.0.newer },
        )
    go false e more = more e

-- ---- copies

-- an entry that goes on from this save, which has this number
pub record GoesOn (save number : ℕ) (x : Item) : Type 0 where
  pub kind : x.kind ≡ Entry
  pub since : x.since ≡ save
  pub more : number < x.number
  pub some : 0 < x.size

abbrev pub GoOn : (save number : ℕ) → List Item → Type 0
GoOn save number [] = Unit {0}
GoOn save number (x ∷ xs) = GoesOn save number x × GoOn x.save x.number xs

abbrev pub last_save : ℕ → List Item → ℕ
last_save save [] = save
last_save save (x ∷ xs) = last_save x.save xs

abbrev pub last_number : ℕ → List Item → ℕ
last_number number [] = number
last_number number (x ∷ xs) = last_number x.number xs

pub go-more : (save number : ℕ) (xs : List Item) (y : Item) → GoOn save number xs
    → GoesOn (last_save save xs) (last_number number xs) y
    → GoOn save number (xs ++ y ∷ [])
go-more save number [] y all g = (g, tt)
go-more save number (x ∷ xs) y all g = (all.0, go-more x.save x.number xs y all.1 g)

pub last-save-more : (save : ℕ) (xs : List Item) (y : Item)
    → last_save save (xs ++ y ∷ []) ≡ y.save
last-save-more save [] y = refl
last-save-more save (x ∷ xs) y = last-save-more x.save xs y

pub last-number-more : (number : ℕ) (xs : List Item) (y : Item)
    → last_number number (xs ++ y ∷ []) ≡ y.number
last-number-more number [] y = refl
last-number-more number (x ∷ xs) y = last-number-more x.number xs y

pub size-more : (xs : List Item) (y : Item) → size_of (xs ++ y ∷ []) ≡ size_of xs + y.size
size-more [] y = omega arith
size-more (x ∷ xs) y =
    let more = size-more xs y in
    omega (arith, more)

-- the first of them, and the others
pub record Parts (save number : ℕ) (first rest all : List Item) : Type 0 where
  pub first_on : GoOn save number first
  pub rest_on : GoOn (last_save save first) (last_number number first) rest
  pub save_is : last_save (last_save save first) rest ≡ last_save save all
  pub number_is : last_number (last_number number first) rest ≡ last_number number all
  pub size : size_of first + size_of rest ≡ size_of all

pub parts : (n save number : ℕ) (xs : List Item) → GoOn save number xs
    → Parts save number (take n xs) (drop n xs) xs
parts zero save number xs all = record {
  first_on = tt;
  rest_on = all;
  save_is = refl;
  number_is = refl;
  size = omega arith;
}
parts (suc n) save number [] all = record {
  first_on = tt;
  rest_on = tt;
  save_is = refl;
  number_is = refl;
  size = omega arith;
}
parts (suc n) save number (x ∷ xs) all =
    let p = parts n x.save x.number xs all.1 in
    let sum = p.size in
    record {
      first_on = (all.0, p.first_on);
      rest_on = p.rest_on;
      save_is = p.save_is;
      number_is = p.number_is;
      size = omega (arith, sum);
    }

pub copies-size : (base before fresh : ℕ) (xs : List Item)
    → size_of (copies_of base before fresh xs) ≡ size_of xs
copies-size base before fresh [] = refl
copies-size base before fresh (x ∷ xs) =
    ap (λ (n : ℕ). x.size + n) (copies-size base fresh (fresh + 1) xs)

-- what is read behind copies of these
pub record Copied (r : Reading) (fresh : ℕ) (xs ys : List Item) : Type 0 where
  pub next : AreNext r ys
  pub save : (tail r ys).last.save ≡ last_save r.last.save xs
  pub number : (tail r ys).last.number ≡ last_number r.last.number xs
  pub seal : (tail r ys).last.seal ≡ last_seal r.last.seal ys
  pub below : (tail r ys).last.seal < fresh + length xs
  pub together : GoesTogether (tail r ys)

together-next : (r : Reading) (y : Item) → GoesTogether r → IsNext r y
    → GoesTogether (with_item r y)
together-next r y g n = together-with r y g n.fits n.since

pub copied : (r : Reading) (fresh : ℕ) (xs : List Item) → GoesTogether r → r.last.seal < fresh
    → GoOn r.last.save r.last.number xs
    → Copied r fresh xs (copies_of r.last.base r.last.seal fresh xs)
copied r fresh [] g below all = record {
  next = tt;
  save = refl;
  number = refl;
  seal = refl;
  below = omega (arith, below);
  together = g;
}
copied r fresh (x ∷ xs) g below all =
    let y : Item = record x { base = r.last.base; before = r.last.seal; seal = fresh } in
    let same = g.number in
    let more = all.0.more in
    let fits : Fits r y =
    record {
      kind = all.0.kind;
      base = refl;
      before = refl;
      version = g.version;
      number = omega (arith, same, more);
    } in
    let next : IsNext r y =
    record { fits = fits; since = all.0.since ∙ sym g.holds; newer = below; some = all.0.some } in
    let rest = copied (with_item r y) (fresh + 1) xs (together-next r y g next) (omega arith)
    all.1 in
    let under = rest.below in
    record {
      next = (next, rest.next);
      save = rest.save;
      number = rest.number;
      seal = rest.seal;
      below = omega (arith, under);
      together = rest.together;
    }
