-- What a line says of who made a save, when a process is added to it, and when two are forgotten.
use Rattle.std.proofs.Common.{◌≡◌, ℕ, suc, ◌+◌, ◌<◌, ◌≤◌, ◌/◌, ◌⊎◌, Bool, true, false, cond, nat_le, List, [], ◌∷◌, ◌++◌, length, take, drop, get_or, ⊎_elim, inl, inr, ap, sym, subst, refl, ◌∙◌, arith, le_refl, length-append}
use Rattle.std.specs.Prelude.{⊤}
use Rattle.std.proofs.lemmas.Bool.{cases_lt, cond-true, cond-false, leb-false, lt-leb, le-ltb, lt-ltb}
use Rattle.std.proofs.lemmas.List.{length-take-le, length-drop}
use Rattle.std.proofs.Math.Seq.{drop-cons, split_at}
use Rattle.lineage.specs.Lines.{begun, forgotten, maker, maker_or, nobody, shortened}
use Rattle.lineage.specs.declared.Ancestor.{Ancestor}
use Rattle.lineage.proofs.Lines.{maker-push}

-- ---- in order

abbrev pub IsSortedFrom : ℕ → List Ancestor → Type 0
IsSortedFrom least [] = ⊤
IsSortedFrom least (a ∷ others) = (least ≤ a.run) × IsSortedFrom a.run others

abbrev pub last_run : ℕ → List Ancestor → ℕ
last_run first [] = first
last_run first (a ∷ others) = last_run a.run others

sorted-parts : (least : ℕ) (xs ys : List Ancestor) → IsSortedFrom least (xs ++ ys)
    → IsSortedFrom least xs × IsSortedFrom (last_run least xs) ys
sorted-parts least [] ys all = (tt, all)
sorted-parts least (a ∷ xs) ys all =
    let rest = sorted-parts a.run xs ys all.1 in ((all.0, rest.0), rest.1)

sorted-both : (least : ℕ) (xs ys : List Ancestor) → IsSortedFrom least xs
    → IsSortedFrom (last_run least xs) ys → IsSortedFrom least (xs ++ ys)
sorted-both least [] ys first second = second
sorted-both least (a ∷ xs) ys first second = (first.0, sorted-both a.run xs ys first.1 second)

sorted-from : (least fewer : ℕ) (ys : List Ancestor) → fewer ≤ least → IsSortedFrom least ys
    → IsSortedFrom fewer ys
sorted-from least fewer [] below all = tt
sorted-from least fewer (a ∷ ys) below all =
    let first = all.0 in (omega (arith, below, first), all.1)

last-append : (first : ℕ) (xs ys : List Ancestor)
    → last_run first (xs ++ ys) ≡ last_run (last_run first xs) ys
last-append first [] ys = refl
last-append first (a ∷ xs) ys = last-append a.run xs ys

last-below : (least fewer : ℕ) (ys : List Ancestor) → fewer ≤ least
    → last_run fewer ys ≤ last_run least ys
last-below least fewer [] below = below
last-below least fewer (a ∷ ys) below = le_refl _

-- ---- who made a save

maker-append : (none : ℕ) (xs ys : List Ancestor) (save : ℕ)
    → maker_or none (xs ++ ys) save ≡ maker_or (maker_or none xs save) ys save
maker-append none [] ys save = refl
maker-append none (a ∷ xs) ys save =
    maker-append (cond (nat_le a.run save) a.nonce none) xs ys save

-- what is known before the line doesn't matter, or the line says nothing
maker-before : (ys : List Ancestor) (none save : ℕ)
    → (maker ys save ≡ 0) ⊎ (maker ys save ≡ maker_or none ys save)
maker-before [] none save = inl refl
maker-before (a ∷ ys) none save = by (nat_le a.run save) (maker-before ys none save)
  where
    by : (b : Bool) → (maker ys save ≡ 0) ⊎ (maker ys save ≡ maker_or none ys save)
        → (maker_or (cond b a.nonce 0) ys save ≡ 0)
        ⊎ (maker_or (cond b a.nonce 0) ys save ≡ maker_or (cond b a.nonce none) ys save)
    by true rest = inr refl
    by false rest = rest

-- ---- two in the middle are forgotten

module _ (xs : List Ancestor) (a b : Ancestor) (zs : List Ancestor) where
  abbrev long : List Ancestor
  long = xs ++ a ∷ b ∷ zs

  abbrev short : List Ancestor
  short = xs ++ record { nonce = 0; run = a.run } ∷ zs

  in-order : IsSortedFrom 0 long → a.run ≤ b.run
  in-order all = (sorted-parts 0 xs (a ∷ b ∷ zs) all).1.1.0

  short-sorted : IsSortedFrom 0 long → IsSortedFrom 0 short
  short-sorted all =
      let parts = sorted-parts 0 xs (a ∷ b ∷ zs) all in
      sorted-both 0 xs (record { nonce = 0; run = a.run } ∷ zs) parts.0
      (parts.1.0, sorted-from b.run a.run zs parts.1.1.0 parts.1.1.1)

  short-last : IsSortedFrom 0 long → last_run 0 short ≤ last_run 0 long
  short-last all =
      let first = last-append 0 xs (record { nonce = 0; run = a.run } ∷ zs) in
      let second = last-append 0 xs (a ∷ b ∷ zs) in
      let few = last-below b.run a.run zs (in-order all) in
      omega (arith, first, second, few)

  short-maker : IsSortedFrom 0 long → (save : ℕ)
      → (maker short save ≡ 0) ⊎ (maker short save ≡ maker long save)
  short-maker all save =
      subst (λ (k : ℕ). (k ≡ 0) ⊎ (k ≡ maker long save))
      (sym (maker-append 0 xs (record { nonce = 0; run = a.run } ∷ zs) save))
      (subst (λ (k : ℕ). (maker_or (cond (nat_le a.run save) 0 before) zs save ≡ 0)
      ⊎ (maker_or (cond (nat_le a.run save) 0 before) zs save ≡ k))
      (sym (maker-append 0 xs (a ∷ b ∷ zs) save))
      (by (nat_le a.run save) refl))
    where
      before : ℕ
      before = maker xs save

      by : (first : Bool) → nat_le a.run save ≡ first
          → (maker_or (cond first 0 before) zs save ≡ 0)
          ⊎ (maker_or (cond first 0 before) zs save
          ≡ maker_or (cond (nat_le b.run save) b.nonce (cond first a.nonce before)) zs save)
      by true is =
          maker-before zs (cond (nat_le b.run save) b.nonce a.nonce) save
      by false is =
          let later = in-order all in
          let past = leb-false a.run save is in
          inr (ap (λ (k : ℕ). maker_or k zs save)
          (sym (cond-false (nat_le b.run save) b.nonce before
          (lt-leb b.run save (omega (arith, later, past))))))

-- ---- the line of a chain

-- What the line says of the chain is true. It is in order, up to this save.
pub record IsTold (line chain : List Ancestor) (last : ℕ) : Type 0 where
  pub tells : (save : ℕ) → (maker line save ≡ 0) ⊎ (maker line save ≡ maker chain save)
  pub sorted : IsSortedFrom 0 line
  pub below : last_run 0 line ≤ last

pub pushed : {line chain : List Ancestor} {last : ℕ} (a : Ancestor) → IsTold line chain last
    → last ≤ a.run → IsTold (line ++ a ∷ []) (chain ++ a ∷ []) a.run
pushed {line} {chain} {last} a is later = record {
  tells = λ save.
      subst (λ (k : ℕ). (k ≡ 0) ⊎ (k ≡ maker (chain ++ a ∷ []) save))
      (sym (maker-push line a 0 save))
      (subst (λ (k : ℕ). (cond (nat_le a.run save) a.nonce (maker line save) ≡ 0)
      ⊎ (cond (nat_le a.run save) a.nonce (maker line save) ≡ k))
      (sym (maker-push chain a 0 save))
      (by save (nat_le a.run save)));
  sorted = sorted-both 0 line (a ∷ []) is.sorted
      (let few = is.below in omega (arith, few, later), tt);
  below = let end = last-append 0 line (a ∷ []) in omega (arith, end);
}
  where
    by : (save : ℕ) (b : Bool)
        → (cond b a.nonce (maker line save) ≡ 0)
        ⊎ (cond b a.nonce (maker line save) ≡ cond b a.nonce (maker chain save))
    by save true = inr refl
    by save false = is.tells save

-- the parts of a line around its middle
parts-of : (line : List Ancestor) (at : ℕ) → at + 1 < length line
    → line ≡ take at line ++ get_or line at nobody ∷ get_or line (at + 1) nobody
    ∷ drop (at + 2) line
parts-of line at inside =
    let one : suc at ≡ at + 1 = omega arith in
    let two : suc (at + 1) ≡ at + 2 = omega arith in
    split_at line at nobody (omega (arith, inside))
    ∙ ap (λ (k : ℕ). take at line ++ get_or line at nobody ∷ drop k line) one
    ∙ ap (λ (l : List Ancestor). take at line ++ get_or line at nobody ∷ l)
    (drop-cons line (at + 1) nobody inside)
    ∙ ap (λ (k : ℕ).
    take at line ++ get_or line at nobody ∷ get_or line (at + 1) nobody ∷ drop k line) two

pub shortens : {line chain : List Ancestor} {last : ℕ} → 2 < length line
    → IsTold line chain last → IsTold (shortened line) chain last
shortens {line} {chain} {last} big is =
    let at : ℕ = length line / 2 in
    let xs : List Ancestor = take at line in
    let a : Ancestor = get_or line at nobody in
    let b : Ancestor = get_or line (at + 1) nobody in
    let zs : List Ancestor = drop (at + 2) line in
    let parts : line ≡ xs ++ a ∷ b ∷ zs = parts-of line at (omega (arith, big)) in
    let all : IsSortedFrom 0 (xs ++ a ∷ b ∷ zs) = subst (IsSortedFrom 0) parts is.sorted in
    record {
      tells = λ save.
          ⊎_elim
          {C = (maker (shortened line) save ≡ 0)
          ⊎ (maker (shortened line) save ≡ maker chain save)}
          (λ none. inl none)
          (λ same. ⊎_elim
          {C = (maker (shortened line) save ≡ 0)
          ⊎ (maker (shortened line) save ≡ maker chain save)}
          (λ none. inl (same ∙ ap (λ (l : List Ancestor). maker l save) (sym parts) ∙ none))
          (λ true_of. inr (same ∙ ap (λ (l : List Ancestor). maker l save) (sym parts) ∙ true_of))
          (is.tells save))
          (short-maker xs a b zs all save);
      sorted = short-sorted xs a b zs all;
      below =
          let few = short-last xs a b zs all in
          let same = ap (last_run 0) parts in
          let under = is.below in
          omega (arith, few, same, under);
    }

pub length-shortened : (line : List Ancestor) → 2 < length line
    → length (shortened line) + 1 ≡ length line
length-shortened line big =
    let at : ℕ = length line / 2 in
    let both = length-append (take at line) (forgotten line at ∷ drop (at + 2) line) in
    let first = length-take-le at line (omega (arith, big)) in
    let second = length-drop (at + 2) line in
    omega (arith, both, first, second, big)

-- ---- a process begins

begun-room : (room : ℕ) (line : List Ancestor) (a : Ancestor) → length line < room
    → begun room line a ≡ line ++ a ∷ []
begun-room room line a has = cond-true _ _ _ (lt-ltb (length line) room has)

begun-none : (room : ℕ) (line : List Ancestor) (a : Ancestor) → room ≤ length line → room < 3
    → begun room line a ≡ []
begun-none room line a full few =
    cond-false _ _ _ (le-ltb (length line) room full) ∙ cond-true _ _ _ (lt-ltb room 3 few)

begun-full : (room : ℕ) (line : List Ancestor) (a : Ancestor) → room ≤ length line → 2 < room
    → begun room line a ≡ shortened line ++ a ∷ []
begun-full room line a full many =
    cond-false _ _ _ (le-ltb (length line) room full)
    ∙ cond-false _ _ _ (le-ltb room 3 (omega (arith, many)))

-- A line that isn't full knows all that it should, from this save on.
pub record IsLineOf (room : ℕ) (line chain : List Ancestor) (last from : ℕ) : Type 0 where
  pub told : IsTold line chain last
  pub exact : 2 < room → length line < room → (save : ℕ) → from ≤ save
      → maker line save ≡ maker chain save

pub begins : {room : ℕ} {line chain : List Ancestor} {last from : ℕ} (a : Ancestor)
    → IsLineOf room line chain last from → last ≤ a.run
    → IsLineOf room (begun room line a) (chain ++ a ∷ []) a.run from
begins {room} {line} {chain} {last} {from} a is later =
    ⊎_elim {C = IsLineOf room (begun room line a) (chain ++ a ∷ []) a.run from}
    (λ (has : length line < room).
    subst (λ (l : List Ancestor). IsLineOf room l (chain ++ a ∷ []) a.run from)
    (sym (begun-room room line a has))
    (record {
      told = pushed a is.told later;
      exact = λ many few save known.
          maker-push line a 0 save
          ∙ ap (λ (k : ℕ). cond (nat_le a.run save) a.nonce k) (is.exact many has save known)
          ∙ sym (maker-push chain a 0 save);
    }))
    (λ (full : room ≤ length line).
    ⊎_elim {C = IsLineOf room (begun room line a) (chain ++ a ∷ []) a.run from}
    (λ (few : room < 3).
    subst (λ (l : List Ancestor). IsLineOf room l (chain ++ a ∷ []) a.run from)
    (sym (begun-none room line a full few))
    (record {
      told = record { tells = λ save. inl refl; sorted = tt; below = omega arith };
      exact = λ many. absurd (omega (arith, many, few));
    }))
    (λ (many : 3 ≤ room).
    subst (λ (l : List Ancestor). IsLineOf room l (chain ++ a ∷ []) a.run from)
    (sym (begun-full room line a full (omega (arith, many))))
    (record {
      told = pushed a (shortens (omega (arith, many, full)) is.told) later;
      exact = λ _ few. absurd
          (let long = length-append (shortened line) (a ∷ []) in
          let short = length-shortened line (omega (arith, many, full)) in
          omega (arith, few, long, short, full));
    }))
    (cases_lt room 3))
    (cases_lt (length line) room)
