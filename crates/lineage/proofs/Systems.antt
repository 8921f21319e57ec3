-- What holds of each run.
use Rattle.std.proofs.Common.{◌≡◌, ◌≢◌, ◌⊎◌, ℕ, zero, suc, ◌+◌, ◌-◌, ◌<◌, ◌≤◌, ◌==◌, ◌||◌, cond, Bool, true, List, [], ◌∷◌, ◌++◌, length, Option, Some, None, slice_get, ⊎_elim, inl, inr, ap, sym, subst, refl, ◌∙◌, arith, le_refl, length-append}
use Rattle.std.proofs.Math.Bool.{or-true}
use Rattle.std.proofs.lemmas.Bool.{cases_eq, cases_lt, cond-true, cond-false, cond_both, eq-eqb, le-leb, lt-leb, ltb-true, ne_eqb}
use Rattle.lineage.specs.Lines.{maker, nobody}
use Rattle.lineage.specs.Runs.{Among, AreNew, AreOfNewest, Begin, Forget, IsNew, IsTrueOf, Save, State, Step, System, Tell, Word, by_process, forgot, has_process, new_state, new_system, on, opened, place_of, process, run, saved, step, verdict, with_state, with_word}
use Rattle.lineage.specs.declared.Ancestor.{Ancestor}
use Rattle.lineage.specs.declared.Verdict.TheVariants.{Fits, Known, Older}
use Rattle.lineage.specs.Laws.{EndsWithCause, FindsOlder, NewestGoesOn}
use Rattle.lineage.proofs.States.{IsGood, earlier-made, last-made, last-of, forgot-good, new-good, opened-good, saved-good}

-- ---- lists

got-among : {A : Type 0} (x : A) (xs : List A) (k : ℕ) → slice_get xs k ≡ Some x → Among x xs
got-among x [] k is = absurd cc
got-among x (y ∷ ys) zero is = inl cc
got-among x (y ∷ ys) (suc k) is = inr (got-among x ys k is)

among-pushed : {A : Type 0} (x y : A) (xs : List A) → Among x (xs ++ y ∷ [])
    → Among x xs ⊎ (x ≡ y)
among-pushed x y [] (inl same) = inr same
among-pushed x y [] (inr never) = absurd never
among-pushed x y (z ∷ xs) (inl same) = inl (inl same)
among-pushed x y (z ∷ xs) (inr rest) =
    ⊎_elim {C = Among x (z ∷ xs) ⊎ (x ≡ y)} (λ there. inl (inr there)) (λ same. inr same)
    (among-pushed x y xs rest)

among-before : {A : Type 0} (x y : A) (xs : List A) → Among x xs → Among x (xs ++ y ∷ [])
among-before x y [] never = absurd never
among-before x y (z ∷ xs) (inl same) = inl same
among-before x y (z ∷ xs) (inr rest) = inr (among-before x y xs rest)

-- ---- one step

-- what holds of a system after a step, if it holds whatever state the step is of
module _ (P : System → Type 0) (s : System) (before : P s) where
  on-keeps : (o : Option State) (change : State → System)
      → ((x : State) → o ≡ Some x → P (change x))
      → P (on s o change)
  on-keeps None change after = before
  on-keeps (Some x) change after = after x refl

  by-keeps : (o : Option State) (change : State → System)
      → ((x : State) → o ≡ Some x → 0 < length x.chain → P (change x))
      → P (by_process s o change)
  by-keeps o change after =
      on-keeps o (λ x. cond (has_process x) (change x) s)
      (λ x is. cond_both (has_process x) (change x) s P
      (λ some. after x is (ltb-true 0 (length x.chain) some)) (λ _. before))

-- ---- all states are good

abbrev pub AreGood : ℕ → System → Type 0
AreGood room s = (x : State) → Among x s.states → IsGood room x

good-more : {room : ℕ} (s : System) {y : State} → AreGood room s → IsGood room y
    → AreGood room (with_state s y)
good-more {room} s {y} all one x there =
    ⊎_elim {C = IsGood room x} (λ old. all x old)
    (λ same. subst (IsGood room) (sym same) one) (among-pushed x y s.states there)

step-good : {room : ℕ} (s : System) (e : Step) → AreGood room s → AreGood room (step room s e)
step-good {room} s (Begin at nonce) all =
    on-keeps (AreGood room) s all (slice_get s.states at)
    (λ x. with_state s (opened room nonce x))
    (λ x is. good-more s all (opened-good nonce (all x (got-among x s.states at is))))
step-good {room} s (Save at) all =
    by-keeps (AreGood room) s all (slice_get s.states at) (λ x. with_state s (saved x))
    (λ x is some. good-more s all (saved-good some (all x (got-among x s.states at is))))
step-good {room} s (Forget at) all =
    by-keeps (AreGood room) s all (slice_get s.states at) (λ x. with_state s (forgot room x))
    (λ x is some. good-more s all (forgot-good some (all x (got-among x s.states at is))))
step-good {room} s (Tell at) all =
    by-keeps (AreGood room) s all (slice_get s.states at)
    (λ x. with_word s (record { known = (process x).nonce; save = x.saves }))
    (λ x is some. all)

run-good : {room : ℕ} (s : System) (es : List Step) → AreGood room s
    → AreGood room (run room s es)
run-good s [] all = all
run-good {room} s (e ∷ es) all = run-good (step room s e) es (step-good s e all)

first-good : (room : ℕ) → AreGood room new_system
first-good room x (inl same) = subst (IsGood room) (sym same) (new-good room)
first-good room x (inr never) = absurd never

-- ---- no process ends without cause

-- what the verdict is, by the tests that it makes
module _ (s : State) (w : Word) where
  own-is : w.known ≡ (process s).nonce → w.save ≤ s.saves → verdict s w ≡ Known
  own-is own within =
      cond-true _ _ _ (eq-eqb w.known (process s).nonce own)
      ∙ cond-true _ Known Older (le-leb w.save s.saves within)

  own-older : w.known ≡ (process s).nonce → s.saves < w.save → verdict s w ≡ Older
  own-older own past =
      cond-true _ _ _ (eq-eqb w.known (process s).nonce own)
      ∙ cond-false _ Known Older (lt-leb w.save s.saves past)

  other-is : w.known ≢ (process s).nonce
      → verdict s w
      ≡ cond (w.known == 0) Fits
      (cond ((maker s.line w.save == 0) || (maker s.line w.save == w.known)) Fits Older)
  other-is other = cond-false _ _ _ (ne_eqb w.known (process s).nonce other)

  none-fits : w.known ≢ (process s).nonce → w.known ≡ 0 → verdict s w ≡ Fits
  none-fits other none = other-is other ∙ cond-true _ _ _ (eq-eqb w.known 0 none)

  maker-fits : w.known ≢ (process s).nonce
      → (maker s.line w.save ≡ 0) ⊎ (maker s.line w.save ≡ w.known) → verdict s w ≡ Fits
  maker-fits other is =
      ⊎_elim {C = verdict s w ≡ Fits} (λ none. none-fits other none)
      (λ some. other-is other ∙ cond-false _ _ _ (ne_eqb w.known 0 some)
      ∙ cond-true _ Fits Older (either is))
      (cases_eq w.known 0)
    where
      either : (maker s.line w.save ≡ 0) ⊎ (maker s.line w.save ≡ w.known)
          → ((maker s.line w.save == 0) || (maker s.line w.save == w.known)) ≡ true
      either (inl none) =
          ap (λ (b : Bool). b || (maker s.line w.save == w.known))
          (eq-eqb (maker s.line w.save) 0 none)
      either (inr same) =
          ap (λ (b : Bool). (maker s.line w.save == 0) || b)
          (eq-eqb (maker s.line w.save) w.known same)
          ∙ or-true (maker s.line w.save == 0)

  maker-older : w.known ≢ (process s).nonce → w.known ≢ 0 → maker s.line w.save ≢ 0
      → maker s.line w.save ≢ w.known → verdict s w ≡ Older
  maker-older other some known apart =
      other-is other ∙ cond-false _ _ _ (ne_eqb w.known 0 some)
      ∙ cond-false _ Fits Older
      (ap (λ (b : Bool). b || (maker s.line w.save == w.known))
      (ne_eqb (maker s.line w.save) 0 known)
      ∙ ne_eqb (maker s.line w.save) w.known apart)

true-goes-on : {room : ℕ} (s : State) → IsGood room s → (w : Word) → IsTrueOf s w
    → verdict s w ≢ Older
true-goes-on s good w is older =
    ⊎_elim {C = ⊥}
    (λ (own : w.known ≡ (process s).nonce).
    let known = own-is s w own is.within in
    let never = sym known ∙ older in cc)
    (λ (other : w.known ≢ (process s).nonce).
    let fits = maker-fits s w other
    (⊎_elim {C = (maker s.line w.save ≡ 0) ⊎ (maker s.line w.save ≡ w.known)}
    (λ none. inl none) (λ same. inr (same ∙ is.made)) (good.line.told.tells w.save)) in
    let never = sym fits ∙ older in cc)
    (cases_eq w.known (process s).nonce)

pub ends-with-cause : EndsWithCause
ends-with-cause room steps s there w older is =
    true-goes-on s (run-good new_system steps (first-good room) s there) w is older

-- ---- the newest state goes on

-- Every word is true of the newest state.
record IsLatest (s : System) : Type 0 where
  newest : State
  last : slice_get s.states (length s.states - 1) ≡ Some newest
  words : (w : Word) → Among w s.words → IsTrueOf newest w

got-pushed : {A : Type 0} (x : A) (xs : List A)
    → slice_get (xs ++ x ∷ []) (length (xs ++ x ∷ []) - 1) ≡ Some x
got-pushed {A} x xs =
    let at : length (xs ++ x ∷ []) - 1 ≡ length xs =
    let l = length-append xs (x ∷ []) in omega (arith, l) in
    ap (slice_get (xs ++ x ∷ [])) at ∙ by xs
  where
    by : (ys : List A) → slice_get (ys ++ x ∷ []) (length ys) ≡ Some x
    by [] = refl
    by (y ∷ ys) = by ys

-- another state is saved, of which what was true still is
latest-more : (s : System) (y : State) → ((w : Word) → Among w s.words → IsTrueOf y w)
    → IsLatest (with_state s y)
latest-more s y words = record { newest = y; last = got-pushed y s.states; words = words }

true-opened : (room nonce : ℕ) {s : State} (w : Word) → IsTrueOf s w
    → IsTrueOf (opened room nonce s) w
true-opened room nonce {s} w is =
    let within = is.within in
    record {
      made = earlier-made s.chain (record { nonce = nonce; run = s.saves + 1 }) w.save
          (omega (arith, within)) ∙ is.made;
      within = omega (arith, within);
    }

true-saved : {s : State} (w : Word) → IsTrueOf s w → IsTrueOf (saved s) w
true-saved w is =
    let within = is.within in record { made = is.made; within = omega (arith, within) }

-- what a process says of itself is true
true-own : {room : ℕ} (s : State) → IsGood room s
    → IsTrueOf s (record { known = (process s).nonce; save = s.saves })
true-own s good = record { made = good.last s.saves good.own; within = le_refl _ }

step-latest : {room : ℕ} (s : System) (e : Step) → AreGood room s → IsLatest s
    → place_of e ≡ length s.states - 1 → IsLatest (step room s e)
step-latest {room} s e good is place = by e place
  where
    same : (at : ℕ) (x : State) → at ≡ length s.states - 1 → slice_get s.states at ≡ Some x
        → is.newest ≡ x
    same at x place there =
        let both = sym is.last ∙ ap (slice_get s.states) (sym place) ∙ there in cc

    moved : (at : ℕ) (x : State) → at ≡ length s.states - 1 → slice_get s.states at ≡ Some x
        → (w : Word) → Among w s.words → IsTrueOf x w
    moved at x place there w heard =
        subst (λ (y : State). IsTrueOf y w) (same at x place there) (is.words w heard)

    by : (e : Step) → place_of e ≡ length s.states - 1 → IsLatest (step room s e)
    by (Begin at nonce) place =
        on-keeps IsLatest s is (slice_get s.states at) (λ x. with_state s (opened room nonce x))
        (λ x there. latest-more s (opened room nonce x)
        (λ w heard. true-opened room nonce w (moved at x place there w heard)))
    by (Save at) place =
        by-keeps IsLatest s is (slice_get s.states at) (λ x. with_state s (saved x))
        (λ x there some. latest-more s (saved x)
        (λ w heard. true-saved w (moved at x place there w heard)))
    by (Forget at) place =
        by-keeps IsLatest s is (slice_get s.states at) (λ x. with_state s (forgot room x))
        (λ x there some. latest-more s (forgot room x)
        (λ w heard.
        let old = moved at x place there w heard in
        record { made = old.made; within = old.within }))
    by (Tell at) place =
        by-keeps IsLatest s is (slice_get s.states at)
        (λ x. with_word s (record { known = (process x).nonce; save = x.saves }))
        (λ x there some. record {
          newest = x;
          last = ap (slice_get s.states) (sym place) ∙ there;
          words = λ w heard.
              ⊎_elim {C = IsTrueOf x w} (λ old. moved at x place there w old)
              (λ now. subst (IsTrueOf x) (sym now)
              (true-own x (good x (got-among x s.states at there))))
              (among-pushed w (record { known = (process x).nonce; save = x.saves }) s.words heard);
        })

run-latest : {room : ℕ} (s : System) (es : List Step) → AreGood room s → IsLatest s
    → AreOfNewest room s es → IsLatest (run room s es)
run-latest s [] good is of = is
run-latest {room} s (e ∷ es) good is of =
    run-latest (step room s e) es (step-good s e good) (step-latest s e good is of.0) of.1

pub newest-goes-on : NewestGoesOn
newest-goes-on room steps of s last w heard =
    let good = run-good new_system steps (first-good room) in
    let latest = run-latest new_system steps (first-good room)
    (record { newest = new_state; last = refl; words = λ w never. absurd never }) of in
    let same : latest.newest ≡ s = let both = sym latest.last ∙ last in cc in
    true-goes-on s
    (good s (got-among s (run room new_system steps).states
    (length (run room new_system steps).states - 1) last)) w
    (subst (λ (x : State). IsTrueOf x w) same (latest.words w heard))

-- ---- an older copy is found

-- the process has a nonce, and each save since the first one was made by one that has one
record IsNamed (x : State) : Type 0 where
  nonce : 0 < length x.chain → (process x).nonce ≢ 0
  ran : 0 < length x.chain → 0 < (process x).run
  made : 0 < length x.chain → (save : ℕ) → 0 < save → maker x.chain save ≢ 0

-- some process said this word of itself
record IsSpoken (s : System) (w : Word) : Type 0 where
  by : State
  there : Among by s.states
  known : w.known ≡ (process by).nonce
  some : w.known ≢ 0
  ran : 0 < (process by).run
  after : (process by).run ≤ w.save

-- no two processes have one nonce
record AreApart (s : System) : Type 0 where
  named : (x : State) → Among x s.states → IsNamed x
  apart : (x y : State) → Among x s.states → Among y s.states
      → (process x).nonce ≡ (process y).nonce → process x ≡ process y
  spoken : (w : Word) → Among w s.words → IsSpoken s w

apart-more : (s : System) (y : State) → AreApart s → IsNamed y
    → ((x : State) → Among x s.states → (process x).nonce ≡ (process y).nonce
    → process x ≡ process y)
    → AreApart (with_state s y)
apart-more s y are one new = record {
  named = λ x there.
      ⊎_elim {C = IsNamed x} (λ old. are.named x old)
      (λ same. subst IsNamed (sym same) one) (among-pushed x y s.states there);
  apart = λ x z first second same.
      ⊎_elim {C = process x ≡ process z}
      (λ old. ⊎_elim {C = process x ≡ process z} (λ both. are.apart x z old both same)
      (λ is. subst (λ (u : State). (process x).nonce ≡ (process u).nonce → process x ≡ process u)
      (sym is) (new x old) same)
      (among-pushed z y s.states second))
      (λ is. ⊎_elim {C = process x ≡ process z}
      (λ old. sym (subst (λ (u : State). (process z).nonce ≡ (process u).nonce
      → process z ≡ process u) (sym is) (new z old) (sym same)))
      (λ both. ap process (is ∙ sym both)) (among-pushed z y s.states second))
      (among-pushed x y s.states first);
  spoken = λ w heard.
      let old = are.spoken w heard in
      record {
        by = old.by;
        there = among-before old.by y s.states old.there;
        known = old.known;
        some = old.some;
        ran = old.ran;
        after = old.after;
      };
}

opened-named : {room : ℕ} (nonce : ℕ) (x : State) → IsGood room x → IsNamed x → nonce ≢ 0
    → IsNamed (opened room nonce x)
opened-named {room} nonce x good is new =
    let a : Ancestor = record { nonce = nonce; run = x.saves + 1 } in
    let own : process (opened room nonce x) ≡ a = last-of nobody a x.chain in
    record {
      nonce = λ some. subst (λ (b : Ancestor). b.nonce ≢ 0) (sym own) new;
      ran = λ some. subst (λ (b : Ancestor). 0 < b.run) (sym own) (omega arith);
      made = λ some save from.
          ⊎_elim {C = maker (x.chain ++ a ∷ []) save ≢ 0}
          (λ (before : save < a.run).
          let many : 0 < length x.chain =
          ⊎_elim {C = 0 < length x.chain} (λ has. has)
          (λ few.
          let none = good.fresh (omega (arith, few)) in
          absurd (omega (arith, before, none, from)))
          (cases_lt 0 (length x.chain)) in
          subst (λ (k : ℕ). k ≢ 0) (sym (earlier-made x.chain a save before))
          (is.made many save from))
          (λ within. subst (λ (k : ℕ). k ≢ 0) (sym (last-made x.chain a save within)) new)
          (cases_lt save a.run);
    }

step-apart : {room : ℕ} (s : System) (e : Step) → AreGood room s → AreApart s → IsNew s e
    → AreApart (step room s e)
step-apart {room} s (Begin at nonce) good are new =
    on-keeps AreApart s are (slice_get s.states at) (λ x. with_state s (opened room nonce x))
    (λ x is.
    let there = got-among x s.states at is in
    let a : Ancestor = record { nonce = nonce; run = x.saves + 1 } in
    let own : process (opened room nonce x) ≡ a = last-of nobody a x.chain in
    apart-more s (opened room nonce x) are
    (opened-named nonce x (good x there) (are.named x there) new.0)
    (λ y among same. absurd (new.1 y among (same ∙ ap (λ (b : Ancestor). b.nonce) own))))
step-apart {room} s (Save at) good are new =
    by-keeps AreApart s are (slice_get s.states at) (λ x. with_state s (saved x))
    (λ x is some.
    let there = got-among x s.states at is in
    let old = are.named x there in
    apart-more s (saved x) are (record { nonce = old.nonce; ran = old.ran; made = old.made })
    (λ y among same. are.apart y x among there same))
step-apart {room} s (Forget at) good are new =
    by-keeps AreApart s are (slice_get s.states at) (λ x. with_state s (forgot room x))
    (λ x is some.
    let there = got-among x s.states at is in
    let old = are.named x there in
    apart-more s (forgot room x) are (record { nonce = old.nonce; ran = old.ran; made = old.made })
    (λ y among same. are.apart y x among there same))
step-apart {room} s (Tell at) good are new =
    by-keeps AreApart s are (slice_get s.states at)
    (λ x. with_word s (record { known = (process x).nonce; save = x.saves }))
    (λ x is some.
    let there = got-among x s.states at is in
    let old = are.named x there in
    record {
      named = are.named;
      apart = are.apart;
      spoken = λ w heard.
          ⊎_elim {C = IsSpoken (with_word s (record { known = (process x).nonce; save = x.saves }))
          w}
          (λ before.
          let was = are.spoken w before in
          record {
            by = was.by;
            there = was.there;
            known = was.known;
            some = was.some;
            ran = was.ran;
            after = was.after;
          })
          (λ now. record {
            by = x;
            there = there;
            known = ap (λ (v : Word). v.known) now;
            some = λ none. old.nonce some (sym (ap (λ (v : Word). v.known) now) ∙ none);
            ran = old.ran some;
            after = subst (λ (v : Word). (process x).run ≤ v.save) (sym now) (good x there).own;
          })
          (among-pushed w (record { known = (process x).nonce; save = x.saves }) s.words heard);
    })

run-apart : {room : ℕ} (s : System) (es : List Step) → AreGood room s → AreApart s
    → AreNew room s es → AreApart (run room s es)
run-apart s [] good are new = are
run-apart {room} s (e ∷ es) good are new =
    run-apart (step room s e) es (step-good s e good) (step-apart s e good are new.0) new.1

first-named : IsNamed new_state
first-named = record {
  nonce = λ some. absurd (omega (arith, some));
  ran = λ some. absurd (omega (arith, some));
  made = λ some. absurd (omega (arith, some));
}

first-apart : AreApart new_system
first-apart = record {
  named = λ x there.
      ⊎_elim {C = IsNamed x}
      (λ same. subst IsNamed (sym same) first-named) (λ never. absurd never) there;
  apart = λ x y first second same.
      ⊎_elim {C = process x ≡ process y}
      (λ one. ⊎_elim {C = process x ≡ process y}
      (λ two. ap process (one ∙ sym two)) (λ never. absurd never) second)
      (λ never. absurd never) first;
  spoken = λ w never. absurd never;
}

pub finds-older : FindsOlder
finds-older room many steps new s there begun few w heard known none =
    let good = run-good new_system steps (first-good room) s there in
    let are = run-apart new_system steps (first-good room) first-apart new in
    let word = are.spoken w heard in
    let some = ltb-true 0 (length s.chain) begun in
    let first = word.ran in
    let after = word.after in
    let exact = good.line.exact many few w.save known in
    ⊎_elim {C = verdict s w ≡ Older}
    (λ (own : w.known ≡ (process s).nonce).
    let same : process word.by ≡ process s =
    are.apart word.by s word.there there (sym word.known ∙ own) in
    ⊎_elim {C = verdict s w ≡ Older} (λ past. own-older s w own past)
    (λ within. absurd (none (record {
      made = good.last w.save (subst (λ (a : Ancestor). a.run ≤ w.save) same word.after) ∙ sym own;
      within = within;
    })))
    (cases_lt s.saves w.save))
    (λ (other : w.known ≢ (process s).nonce).
    maker-older s w other word.some
    (λ nobody_made. (are.named s there).made some w.save (omega (arith, first, after))
    (sym exact ∙ nobody_made))
    (λ made. ⊎_elim {C = ⊥}
    (λ past.
    let own = good.own in
    other (sym made ∙ exact ∙ good.last w.save (omega (arith, own, past))))
    (λ within. none (record { made = sym exact ∙ made; within = within }))
    (cases_lt s.saves w.save)))
    (cases_eq w.known (process s).nonce)
