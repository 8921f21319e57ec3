-- An opening finds what was saved last, or what was being saved.
use Rattle.std.proofs.Common.{◌≡◌, ◌≢◌, ◌<◌, ◌≤◌, ◌+◌, ◌-◌, ℕ, zero, suc, Bool, cond, true, false, ◌||◌, List, [], ◌∷◌, ◌++◌, Option, Some, None, length, refl, sym, ap, ◌∙◌, subst, arith, ◌⊎◌, inl, inr, ⊎_elim, ltb, eqb}
use Rattle.std.proofs.lemmas.Bool.{and_from, and_parts, cases_Bool, eq-eqb, eqb-false, eqb-true, lt-ltb, ltb-true, not-true, not_from_false}
use Rattle.std.specs.List.{Contains}
use Rattle.slots.specs.declared.opening.Found.{Found}
use Rattle.slots.specs.declared.opening.Choice.TheVariants.{First, Second}
use Rattle.slots.specs.declared.saving.TheConstants.{NUMBERS}
use Rattle.slots.specs.Openings.{chosen, counts, is_expected, with_behind, with_mark, with_synced, Counts}
use Rattle.slots.specs.Disk.{first_read, image, is_mark_of, looked, looked_all, marked, next_of, nothing_read, read, read_if, read_on, same_kind, shown, whole_at, with_item, Content, Entry, ForEntry, ForMark, Fates, Item, Kind, Look, Mark, Of, Reading, Value}
use Rattle.slots.proofs.Disk.{kind-same, whole-alone, whole-complete, whole-sound, IsWhole}
use Rattle.slots.proofs.Lists.{contains-head, contains-more}
use Rattle.slots.proofs.Reading.{all_read, begins-together, chain-more, finds, next-is, next-sound, tail, tail-base, tail-more, tail-number, tail-seal, together-first, Begins, Chain, EndsThere, Finds, Fits, GoesTogether, IsBehind, IsKnown, IsNewer, More, Only, Same, Nothing}
use Rattle.slots.proofs.Sound.{last_read, AreGood, Bounds, Good, IsAhead, IsBegun, IsBeside, IsPassed, Sound, View}

-- ---- what shows that more was whole

-- Nothing that was looked at shows a save beyond this number, and all else is as it was read.
pub record OnlyShows (most : ℕ) (r s : Reading) : Type 0 where
  pub version : s.found.version ≡ r.found.version
  pub number : s.found.number ≡ r.found.number
  pub last : s.last ≡ r.last
  pub end : s.end ≡ r.end
  pub holds : s.holds ≡ r.holds
  pub synced : r.found.synced ≤ most → s.found.synced ≤ most

shows-nothing : (most : ℕ) (r : Reading) → OnlyShows most r r
shows-nothing most r = record {
  version = refl;
  number = refl;
  last = refl;
  end = refl;
  holds = refl;
  synced = λ within. within;
}

shows-both : (most : ℕ) (r s t : Reading) → OnlyShows most r s → OnlyShows most s t
    → OnlyShows most r t
shows-both most r s t a b = record {
  version = b.version ∙ a.version;
  number = b.number ∙ a.number;
  last = b.last ∙ a.last;
  end = b.end ∙ a.end;
  holds = b.holds ∙ a.holds;
  synced = λ within. b.synced (a.synced within);
}

shows-synced : (most number : ℕ) (r : Reading) → number ≤ most
    → OnlyShows most r (record r { found = with_synced r.found number })
shows-synced most number r within = go (ltb r.found.synced number)
  where
    go : (b : Bool)
        → OnlyShows most r
        (record r { found = cond b (record (r.found) { synced = number }) r.found })
    go true = record {
      version = refl;
      number = refl;
      last = refl;
      end = refl;
      holds = refl;
      synced = λ before. within;
    }
    go false = shows-nothing most r

shows-if : (most : ℕ) (b : Bool) (r s : Reading) → (b ≡ true → OnlyShows most r s)
    → OnlyShows most r (cond b s r)
shows-if most true r s shows = shows refl
shows-if most false r s shows = shows-nothing most r

shows-found : (most : ℕ) (b : Bool) (r : Reading) (f : Found)
    → (b ≡ true → OnlyShows most r (record r { found = f }))
    → OnlyShows most r (record r { found = cond b f r.found })
shows-found most true r f shows = shows refl
shows-found most false r f shows = shows-nothing most r

shows-mark : (most : ℕ) (r : Reading) (m : Item) → m.number ≤ most
    → OnlyShows most r (record r { found = with_mark r.found m.number })
shows-mark most r m within =
    shows-found most (ltb m.number NUMBERS) r (with_synced r.found m.number)
    (λ e. shows-synced most m.number r within)

shows-entry : (most claimed : ℕ) (r : Reading) (y : Item) → y.number ≤ most + 1
    → OnlyShows most r (record r { found = with_behind r.found claimed y.number })
shows-entry most claimed r y within =
    shows-found most (is_expected r.found claimed y.number) r (with_synced r.found (y.number - 1))
    (λ e. shows-synced most (y.number - 1) r (omega (arith, within)))

-- what is whole in a file is good
whole-good : (number fresh : ℕ) (c : Content) (at : ℕ) (x : Item) → AreGood number fresh c
    → whole_at c at ≡ Some x
    → Good number fresh x
whole-good number fresh c at x good e = good at 0 x (whole-sound c at x e).head

look-shows : (number fresh : ℕ) (c : Content) (r : Reading) (look : Look)
    → AreGood number fresh c
    → OnlyShows number r (looked c r look)
look-shows number fresh c r (ForMark at) good = go (whole_at c at) refl
  where
    go : (o : Option Item) → whole_at c at ≡ o → OnlyShows number r (marked r o)
    go None e = shows-nothing number r
    go (Some m) e =
        shows-if number (is_mark_of r m) r (record r { found = with_mark r.found m.number })
        (λ is.
        shows-mark number r m
        ((whole-good number fresh c at m good e).mark
        (kind-same m.kind Mark (and_parts _ _ is).0)))
look-shows number fresh c r (ForEntry claimed at) good = go (whole_at c at) refl
  where
    go : (o : Option Item) → whole_at c at ≡ o → OnlyShows number r (shown r claimed o)
    go None e = shows-nothing number r
    go (Some y) e =
        shows-if number (same_kind y.kind Entry) r
        (record r { found = with_behind r.found claimed y.number })
        (λ is.
        shows-entry number claimed r y
        ((whole-good number fresh c at y good e).entry (kind-same y.kind Entry is)))

looks-show : (number fresh : ℕ) (c : Content) (r : Reading) (looks : List Look)
    → AreGood number fresh c
    → OnlyShows number r (looked_all c r looks)
looks-show number fresh c r [] good = shows-nothing number r
looks-show number fresh c r (look ∷ looks) good =
    shows-both number r (looked c r look) (looked_all c (looked c r look) looks)
    (look-shows number fresh c r look good)
    (looks-show number fresh c (looked c r look) looks good)

-- ---- a slot that is passed

-- Its value is passed, if it has one.
abbrev pub IsPassedSlot : ℕ → Content → Type 0
IsPassedSlot number c = (x : Item) → x.kind ≡ Value → IsWhole c 0 x → IsPassed number c x

-- what a reader may have found in it
pub record IsLow (number : ℕ) (r : Reading) : Type 0 where
  pub found : r.found.version ≢ 0 → r.found.number < number
  pub synced : r.found.synced ≡ 0

found-more : (r : Reading) (y : Item) → Fits r y
    → ((with_item r y).found.number ≡ y.number)
    × ((with_item r y).found.synced ≡ r.found.synced)
found-more r y fits =
    let is : ltb r.found.number y.number ≡ true = lt-ltb _ _ fits.number in
    let two : eqb r.found.version 2 ≡ true = eq-eqb _ _ fits.version in
    (rw (two, is) refl, rw (two, is) refl)

low-on : (number n : ℕ) (c : Content) (r : Reading) → r.found.number < number
    → r.found.synced ≡ 0
    → ((at : ℕ) (y : Item) → y.kind ≡ Entry → y.base ≡ r.last.base → IsWhole c at y
    → y.number < number)
    → IsLow number (read_on n c r)
low-on number zero c r below synced entries = record { found = λ some. below; synced = synced }
low-on number (suc n) c r below synced entries =
    go (next_of c r) refl
    (λ y whole fits.
    low-on number n c (with_item r y)
    (rw (found-more r y fits).0 (entries r.end y fits.kind fits.base whole))
    ((found-more r y fits).1 ∙ synced)
    (λ at z kind base inside. entries at z kind (base ∙ fits.base) inside))
  where
    go : (o : Option Item) → next_of c r ≡ o
        → ((y : Item) → IsWhole c r.end y → Fits r y
        → IsLow number (read_on n c (with_item r y)))
        → IsLow number
        (elim o as (λ o. Reading) [ None ↦ r | Some y ↦ read_on n c (with_item r y) ])
    go None e more = record { found = λ some. below; synced = synced }
    go (Some y) e more =
        let sound = next-sound c r y e in
        more y sound.0 sound.1

low-nothing : (number : ℕ) → IsLow number nothing_read
low-nothing number = record { found = λ some. absurd (some refl); synced = refl }

pub passed-read : (number n : ℕ) (c : Content) → IsPassedSlot number c
    → IsLow number (read n c)
passed-read number n c passed = go (whole_at c 0) refl
  where
    go : (o : Option Item) → whole_at c 0 ≡ o → IsLow number (read_if n c o)
    go None e = low-nothing number
    go (Some x) e = last (same_kind x.kind Value) refl
      where
        last : (b : Bool) → same_kind x.kind Value ≡ b
            → IsLow number (cond b (read_on n c (first_read x)) nothing_read)
        last true is =
            let p = passed x (kind-same x.kind Value is) (whole-sound c 0 x e) in
            low-on number n c (first_read x) p.value refl p.entries
        last false is = low-nothing number

-- ---- which slot counts

choose-true : (a b : Found) → Counts a b → counts a b ≡ true
choose-true a b c =
    and_from _ _
    (and_from _ _ (not_from_false _ (apart a.version c.whole)) (later (eqb b.version 0) refl))
    (and_from _ _ (not_from_false _ (not-less a.number a.synced c.last))
    (not_from_false _ (not-less a.number b.synced c.alone)))
  where
    apart : (n : ℕ) → n ≢ 0 → eqb n 0 ≡ false
    apart n some =
        ⊎_elim {C = eqb n 0 ≡ false} (λ (e : eqb n 0 ≡ true). absurd (some (eqb-true n 0 e)))
        (λ (e : eqb n 0 ≡ false). e) (cases_Bool (eqb n 0))

    not-less : (n m : ℕ) → m ≤ n → ltb n m ≡ false
    not-less n m within =
        ⊎_elim {C = ltb n m ≡ false}
        (λ (e : ltb n m ≡ true).
        let above = ltb-true n m e in
        absurd (omega (arith, above, within)))
        (λ (e : ltb n m ≡ false). e) (cases_Bool (ltb n m))

    later : (z : Bool) → eqb b.version 0 ≡ z → (z || ltb b.number a.number) ≡ true
    later true e = refl
    later false e = lt-ltb b.number a.number (c.later (eqb-false b.version 0 e))

choose-false : (a b : Found) → Counts a b → counts b a ≡ false
choose-false a b c =
    ⊎_elim {C = counts b a ≡ false}
    (λ (e : counts b a ≡ true).
    let parts = and_parts _ _ e in
    let first = and_parts _ _ parts.0 in
    let some = eqb-false b.version 0 (not-true (eqb b.version 0) first.0) in
    let below = c.later some in
    absurd
    (⊎_elim {C = ⊥} (λ (none : eqb a.version 0 ≡ true). c.whole (eqb-true a.version 0 none))
    (λ (more : ltb a.number b.number ≡ true).
    let above = ltb-true a.number b.number more in
    omega (arith, above, below))
    (either (eqb a.version 0) (ltb a.number b.number) first.1)))
    (λ (e : counts b a ≡ false). e) (cases_Bool (counts b a))
  where
    either : (x y : Bool) → (x || y) ≡ true → (x ≡ true) ⊎ (y ≡ true)
    either true y e = inl refl
    either false y e = inr e

pub chooses-first : (a b : Found) → Counts a b → chosen a b ≡ First
chooses-first a b c = rw (choose-true a b c) refl

pub chooses-second : (a b : Found) → Counts b a → chosen a b ≡ Second
chooses-second a b c = rw (choose-false b a c, choose-true b a c) refl

-- ---- the slot that counts

-- there are fewer entries than seals
last-cell : (c : Content) (r : Reading) (ys : List Item) (k n : ℕ) → c k ≡ Of r.last n
    → Chain c r ys
    → (at : ℕ) × (place : ℕ) × (c at ≡ Of (tail r ys).last place)
last-cell c r [] k n is chain = (k, n, is)
last-cell c r (y ∷ ys) k n is chain =
    last-cell c (with_item r y) ys r.end 0 chain.0.whole.head chain.1

-- what is last is good
pub last-good : (number fresh : ℕ) (c : Content) (v : Item) (ys : List Item) → Begins c v ys
    → AreGood number fresh c
    → Good number fresh (all_read v ys).last
last-good number fresh c v ys b good =
    let cell = last-cell c (first_read v) ys 0 0 b.value.head b.chain in
    good cell.0 cell.1 (all_read v ys).last cell.2

pub few-entries : (number fresh : ℕ) (c : Content) (v : Item) (ys : List Item) → Begins c v ys
    → AreGood number fresh c
    → length ys < fresh
few-entries number fresh c v ys b good =
    let cell = last-cell c (first_read v) ys 0 0 b.value.head b.chain in
    let below = (good cell.0 cell.1 (all_read v ys).last cell.2).seal in
    let grows = tail-seal c (first_read v) ys b.chain in
    omega (arith, below, grows)

-- what a reader finds in the slot that counts, with what may be behind
pub record HasRead (z : View) (s : Sound z) (c : Content) : Type 0 where
  pub entries : List Item
  pub begins : Begins c s.value entries
  pub only : Only Nothing c (all_read s.value entries)
  pub low : (last_read s).last.number ≤ (all_read s.value entries).last.number
  pub middle : (all_read s.value entries).last.number ≤ s.bounds.middle
  pub save : Contains (z.stored ∷ z.begun) (all_read s.value entries).last.save
  pub is : read z.fresh c ≡ all_read s.value entries

only-chain : (P : ℕ → Item → Type 0) (c : Content) (r : Reading) → Only P c r
    → r.found.version ≡ 2
    → r.found.number ≡ r.last.number
    → EndsThere c r
    → Only Nothing c r
only-chain P c r only two same none at y kind base whole =
    ⊎_elim {C = IsKnown r.last y ⊎ (IsNewer r at y × ⊥)}
    (λ (known : IsKnown r.last y). inl known)
    (λ (newer : IsNewer r at y × P at y).
    let number = newer.0.number in
    absurd
    (none y
    (next-is c r y (subst (λ (k : ℕ). IsWhole c k y) newer.0.place whole)
    (record {
      kind = kind;
      base = base;
      before = newer.0.before;
      version = two;
      number = omega (arith, number, same);
    }))))
    (only at y kind base whole)

only-more : (P : ℕ → Item → Type 0) (c : Content) (r : Reading) (y : Item) → Only P c r
    → r.found.number ≡ r.last.number
    → IsBehind c r y
    → Only Nothing c (with_item r y)
only-more P c r y only same b at z kind base whole =
    ⊎_elim {C = IsKnown y z ⊎ (IsNewer (with_item r y) at z × ⊥)}
    (λ (known : IsKnown r.last z).
    let seal = known.seal in
    let number = known.number in
    let newer = b.newer in
    let before = b.fits.before in
    let more = b.fits.number in
    inl
    (record {
      seal = omega (arith, seal, newer, before);
      number = omega (arith, number, more, same);
      newer = known.newer;
    }))
    (λ (newer : IsNewer r at z × P at z).
    let is : z ≡ y =
    whole-alone c r.end z y (subst (λ (k : ℕ). IsWhole c k z) newer.0.place whole) b.whole in
    inl
    (subst (λ (x : Item). IsKnown y x) (sym is)
    (record { seal = omega arith; number = omega arith; newer = b.newer })))
    (only at z kind (base ∙ b.fits.base) whole)

pub has-read : (z : View) (s : Sound z) (f : Fates) → HasRead z s (image f z.here)
has-read z s f =
    go (finds (IsBegun s.bounds.middle z.begun) z.fresh c s.value s.entries b only few)
  where
    c : Content
    c = image f z.here

    b : Begins c s.value s.entries
    b = s.here f

    only : Only (IsBegun s.bounds.middle z.begun) c (last_read s)
    only = s.only f

    few : length s.entries < z.fresh
    few = few-entries (last_read s).last.number z.fresh c s.value s.entries b (s.good_here f)

    all : GoesTogether (last_read s)
    all = begins-together c s.value s.entries b

    go : Finds (IsBegun s.bounds.middle z.begun) c (last_read s) (read z.fresh c)
        → HasRead z s c
    go (Same is none) = record {
      entries = s.entries;
      begins = b;
      only =
          only-chain (IsBegun s.bounds.middle z.begun) c (last_read s) only all.version
          all.number none;
      low = omega arith;
      middle = s.low;
      save =
          subst (λ (n : ℕ). Contains (z.stored ∷ z.begun) n) s.stored
          (contains-head z.stored z.begun);
      is = is;
    }
    go (More y is behind begun) =
        let more = tail-more (first_read s.value) s.entries y in
        let next = behind.fits.number in
        let same = all.number in
        record {
          entries = s.entries ++ y ∷ [];
          begins = record {
            value = b.value;
            kind = b.kind;
            own = b.own;
            some = b.some;
            chain = chain-more c (first_read s.value) s.entries y b.chain behind;
          };
          only =
              subst (λ (r : Reading). Only Nothing c r) (sym more)
              (only-more (IsBegun s.bounds.middle z.begun) c (last_read s) y only all.number
              behind);
          low =
              subst (λ (r : Reading). (last_read s).last.number ≤ r.last.number) (sym more)
              (omega (arith, next, same));
          middle =
              subst (λ (r : Reading). r.last.number ≤ s.bounds.middle) (sym more) begun.number;
          save =
              subst (λ (r : Reading). Contains (z.stored ∷ z.begun) r.last.save) (sym more)
              (contains-more z.stored y.save z.begun begun.save);
          is = is ∙ sym more;
        }

-- One content is chosen over the other one, and this was read in it.
pub record Chosen (z : View) (number : ℕ) (c d : Content) (r : Reading) : Type 0 where
  pub value : Item
  pub entries : List Item
  pub begins : Begins c value entries
  pub only : Only Nothing c (all_read value entries)
  pub passed : IsPassedSlot (all_read value entries).last.number d
  pub most : number ≤ (all_read value entries).last.number
  pub save : Contains (z.stored ∷ z.begun) (all_read value entries).last.save
  pub version : r.found.version ≡ 2
  pub number_is : r.found.number ≡ (all_read value entries).last.number
  pub end : r.end ≡ (all_read value entries).end
  pub last : r.last ≡ (all_read value entries).last
  pub holds : r.holds ≡ (all_read value entries).last.save

-- which of the two: the first one has the slot that counted before
abbrev pub Outcome : View → (number : ℕ) → (c d : Content) → (r q : Reading) → Type 0
Outcome z number c d r q =
    (Counts r.found q.found × Chosen z number c d r)
    ⊎ (Counts q.found r.found × Chosen z number d c q)

-- The value of the other slot is passed; or it is ahead.
beside-cases : (b : Bounds) (number : ℕ) (begun : List ℕ) (d : Content)
    → IsBeside b number begun d
    → IsPassedSlot number d ⊎ ((x : Item) × IsAhead b begun d x)
beside-cases b number begun d beside = go (whole_at d 0) refl
  where
    Either : Type 0
    Either = IsPassedSlot number d ⊎ ((x : Item) × IsAhead b begun d x)

    go : (o : Option Item) → whole_at d 0 ≡ o → Either
    go None e =
        inl
        (λ x kind whole.
        let is = whole-complete d 0 x whole in
        absurd cc)
    go (Some x) e = last (same_kind x.kind Value) refl
      where
        is : (y : Item) → IsWhole d 0 y → x ≡ y
        is y whole = whole-alone d 0 x y (whole-sound d 0 x e) whole

        last : (t : Bool) → same_kind x.kind Value ≡ t → Either
        last true k =
            ⊎_elim {C = Either}
            (λ (passed : IsPassed number d x).
            inl (λ y kind whole. subst (IsPassed number d) (is y whole) passed))
            (λ (ahead : IsAhead b begun d x). inr (x, ahead))
            (beside x (kind-same x.kind Value k) (whole-sound d 0 x e))
        last false k =
            inl
            (λ y kind whole.
            let same : same_kind x.kind Value ≡ true =
            ap (λ (z : Item). same_kind z.kind Value) (is y whole)
            ∙ ap (λ (t : Kind). same_kind t Value) kind in
            absurd cc)

pub passed-weaker : (less more : ℕ) (d : Content) (x : Item) → less ≤ more → IsPassed less d x
    → IsPassed more d x
passed-weaker less more d x within p =
    let below = p.value in
    record {
      value = omega (arith, below, within);
      entries = λ at y kind base whole.
          let under = p.entries at y kind base whole in
          omega (arith, under, within);
    }

-- a slot whose last entry has a lower number is passed
pub passed-chain : (number : ℕ) (c : Content) (v : Item) (ys : List Item) → Begins c v ys
    → Only Nothing c (all_read v ys)
    → (all_read v ys).last.number < number
    → IsPassedSlot number c
passed-chain number c v ys b only below x kind whole =
    let is : v ≡ x = whole-alone c 0 v x b.value whole in
    let grows = tail-number c (first_read v) ys (together-first v) b.chain in
    subst (IsPassed number c) is
    (record {
      value = omega (arith, grows, below);
      entries = λ at y kind base inside.
          ⊎_elim {C = y.number < number}
          (λ (known : IsKnown (all_read v ys).last y).
          let under = known.number in
          omega (arith, under, below))
          (λ (newer : IsNewer (all_read v ys) at y × ⊥). absurd newer.1)
          (only at y kind (base ∙ sym (tail-base c (first_read v) ys b.chain)) inside);
    })

-- what is read of a slot that is passed or not, with what was looked at
record Reads (most : ℕ) (r : Reading) (all : Reading) : Type 0 where
  version : r.found.version ≡ 2
  number : r.found.number ≡ all.last.number
  last : r.last ≡ all.last
  end : r.end ≡ all.end
  holds : r.holds ≡ all.last.save
  synced : r.found.synced ≤ most

reads-all : (most : ℕ) (read all r : Reading) → read ≡ all → GoesTogether all
    → OnlyShows most read r
    → Reads most r all
reads-all most read all r is g shows =
    go (subst (λ (z : Reading). OnlyShows most z r) is shows)
  where
    go : OnlyShows most all r → Reads most r all
    go shows =
        let none = g.synced in
        record {
          version = shows.version ∙ g.version;
          number = shows.number ∙ g.number;
          last = shows.last;
          end = shows.end;
          holds = shows.holds ∙ g.holds;
          synced = shows.synced (omega (arith, none));
        }

chosen-from : (z : View) (most : ℕ) (c d : Content) (v : Item) (ys : List Item) (r : Reading)
    → Begins c v ys × Only Nothing c (all_read v ys) × (most ≤ (all_read v ys).last.number)
    × Contains (z.stored ∷ z.begun) (all_read v ys).last.save × Reads most r (all_read v ys)
    × IsPassedSlot (all_read v ys).last.number d
    → Chosen z most c d r
chosen-from z most c d v ys r p = record {
  value = v;
  entries = ys;
  begins = p.0;
  only = p.1;
  passed = p.5;
  most = p.2;
  save = p.3;
  version = p.4.version;
  number_is = p.4.number;
  end = p.4.end;
  last = p.4.last;
  holds = p.4.holds;
}

-- Two sights of a folder, and what is read in them: of the slot that counts, and of the other.
pub record Sights : Type 0 where
  pub here : Fates
  pub beside : Fates
  pub looks_here : List Look
  pub looks_beside : List Look

abbrev pub seen_here : View → Sights → Content
seen_here z f = image f.here z.here

abbrev pub seen_beside : View → Sights → Content
seen_beside z f = image f.beside z.beside

abbrev pub read_here : View → Sights → Reading
read_here z f = looked_all (seen_here z f) (read z.fresh (seen_here z f)) f.looks_here

abbrev pub read_beside : View → Sights → Reading
read_beside z f = looked_all (seen_beside z f) (read z.fresh (seen_beside z f)) f.looks_beside

pub outcome : (z : View) (s : Sound z) (f : Sights)
    → Outcome z (last_read s).last.number (seen_here z f) (seen_beside z f) (read_here z f)
    (read_beside z f)
outcome z s f =
    ⊎_elim {C = Outcome z most c d (read_here z f) (read_beside z f)}
    (λ (passed : IsPassedSlot most d).
    let low = passed-read most z.fresh d passed in
    let none = low.synced in
    let here = reads_here in
    let within = h.low in
    let same = here.number in
    let last = here.synced in
    let alone = shows_beside.synced (omega (arith, none)) in
    inl (
      record {
        whole = λ e. two-not-zero (read_here z f).found.version here.version e;
        later = λ some.
            let number = shows_beside.number in
            let under =
            low.found (λ e. some (shows_beside.version ∙ e)) in
            omega (arith, under, number, within, same);
        last = omega (arith, last, within, same);
        alone = omega (arith, alone, within, same);
      },
      chosen-from z most c d s.value h.entries (read_here z f) (
        h.begins,
        h.only,
        h.low,
        h.save,
        here,
        λ x kind whole. passed-weaker most all.last.number d x within (passed x kind whole),
      ),
    ))
    (λ (ahead : (x : Item) × IsAhead s.bounds z.begun d x).
    let x = ahead.0 in
    let a = ahead.1 in
    let there = reads_ahead x a in
    let here = reads_here in
    let within = h.low in
    let middle = h.middle in
    let above = a.middle in
    let same = here.number in
    let number = there.number in
    let last = there.synced in
    let alone = here.synced in
    inr (
      record {
        whole = λ e. two-not-zero (read_beside z f).found.version there.version e;
        later = λ some. omega (arith, middle, above, same, number);
        last = omega (arith, last, within, middle, above, number);
        alone = omega (arith, alone, within, middle, above, number);
      },
      chosen-from z most d c x a.entries (read_beside z f) (
        a.begins,
        a.only,
        omega (arith, within, middle, above),
        contains-more z.stored (all_read x a.entries).last.save z.begun a.save,
        there,
        passed-chain (all_read x a.entries).last.number c s.value h.entries h.begins h.only
            (omega (arith, middle, above)),
      ),
    ))
    (beside-cases s.bounds most z.begun d (s.beside f.beside))
  where
    most : ℕ
    most = (last_read s).last.number

    c : Content
    c = seen_here z f

    d : Content
    d = seen_beside z f

    h : HasRead z s c
    h = has-read z s f.here

    all : Reading
    all = all_read s.value h.entries

    shows_here : OnlyShows most (read z.fresh c) (read_here z f)
    shows_here = looks-show most z.fresh c (read z.fresh c) f.looks_here (s.good_here f.here)

    shows_beside : OnlyShows most (read z.fresh d) (read_beside z f)
    shows_beside =
        looks-show most z.fresh d (read z.fresh d) f.looks_beside (s.good_beside f.beside)

    reads_here : Reads most (read_here z f) all
    reads_here =
        reads-all most (read z.fresh c) all (read_here z f) h.is
        (begins-together c s.value h.entries h.begins) shows_here

    two-not-zero : (n : ℕ) → n ≡ 2 → n ≡ 0 → ⊥
    two-not-zero n e g = omega (arith, e, g)

    ahead-read : (x : Item) (a : IsAhead s.bounds z.begun d x)
        → Finds Nothing d (all_read x a.entries) (read z.fresh d)
        → read z.fresh d ≡ all_read x a.entries
    ahead-read x a (Same is none) = is
    ahead-read x a (More y is behind never) = absurd never

    reads_ahead : (x : Item) (a : IsAhead s.bounds z.begun d x)
        → Reads most (read_beside z f) (all_read x a.entries)
    reads_ahead x a =
        reads-all most (read z.fresh d) (all_read x a.entries) (read_beside z f)
        (ahead-read x a
        (finds Nothing z.fresh d x a.entries a.begins a.only
        (few-entries most z.fresh d x a.entries a.begins (s.good_beside f.beside))))
        (begins-together d x a.entries a.begins) shows_beside
