-- What each write and each sync leaves of a sound folder.
use Rattle.std.proofs.Common.{◌≡◌, ◌≢◌, ◌<◌, ◌≤◌, ◌+◌, ℕ, Bool, true, false, List, [], ◌∷◌, ◌++◌, refl, sym, ap, ◌∙◌, subst, arith, ◌⊎◌, inl, inr, ⊎_elim}
use Rattle.slots.specs.Disk.{first_read, image, put, same_item, synced_after, with_item, with_write, written, Content, Entry, Fates, File, Item, Of, Other, Reading, Value, Write}
use Rattle.slots.proofs.Disk.{free-of, image-makes, item-itself, item-same, put-makes, put-whole, same-below, whole-alone, whole-before, IsFree, IsWhole, Makes}
use Rattle.slots.proofs.Lists.{contains-more}
use Rattle.slots.proofs.Openings.{passed-weaker, Chosen}
use Rattle.slots.proofs.Reading.{all_read, begins-same, begins-together, chain-more, tail-base, tail-more, tail-number, together-first, Begins, IsBehind, IsKnown, IsNewer}
use Rattle.slots.proofs.Sound.{last_read, Adds, AreGood, Bounds, Good, IsAhead, IsBegun, IsBeside, IsPassed, Replaces, Sound, View}

-- ---- what is good

pub good-more : (less more before after : ℕ) (x : Item) → less ≤ more → before ≤ after
    → Good less before x
    → Good more after x
good-more less more before after x within older g =
    let seal = g.seal in
    let base = g.base in
    record {
      seal = omega (arith, seal, older);
      base = omega (arith, base, older);
      entry = λ e.
          let number = g.entry e in
          omega (arith, number, within);
      mark = λ e.
          let number = g.mark e in
          omega (arith, number, within);
    }

pub all-good-more : (less more before after : ℕ) (c : Content) → less ≤ more → before ≤ after
    → AreGood less before c
    → AreGood more after c
all-good-more less more before after c within older good k n x is =
    good-more less more before after x within older (good k n x is)

-- everything of which this writes a byte
abbrev pub WritesGood : (number fresh : ℕ) → Write → Type 0
WritesGood number fresh w = (k n : ℕ) (x : Item) → w.bytes k ≡ Of x n → Good number fresh x

pub good-after : (number fresh : ℕ) (w : Write) (c d : Content) → Makes w c d
    → WritesGood number fresh w
    → AreGood number fresh c
    → AreGood number fresh d
good-after number fresh w c d makes new old k n x is =
    ⊎_elim {C = Good number fresh x} (λ (same : d k ≡ c k). old k n x (sym same ∙ is))
    (λ (other : (d k ≡ w.bytes k) ⊎ (d k ≡ Other)).
    ⊎_elim {C = Good number fresh x} (λ (this : d k ≡ w.bytes k). new k n x (sym this ∙ is))
    (λ (torn : d k ≡ Other). absurd (apart (sym torn ∙ is))) other)
    (makes k).cases
  where
    apart : Other ≡ Of x n → ⊥
    apart e = cc

pub item-written : (number fresh : ℕ) (x : Item) (at : ℕ) → Good number fresh x
    → WritesGood number fresh (written x at)
item-written number fresh x at good k n y is =
    let same : x ≡ y = cc in
    subst (Good number fresh) same good

-- ---- writes to the slot that counts

-- An entry that is whole after the write was so before, or is one of those that were begun.
abbrev pub BringsEntries : (z : View) → Sound z → Write → Type 0
BringsEntries z s w =
    (f : Fates) (at : ℕ) (y : Item) → y.kind ≡ Entry → y.base ≡ (last_read s).last.base
    → IsWhole (image f (with_write z.here w)) at y
    → IsFree w y ⊎ (IsNewer (last_read s) at y × IsBegun s.bounds.middle z.begun at y)

unfoldable pub sound-here : (z : View) (s : Sound z) (w : Write) → z.end ≤ w.from
    → WritesGood (last_read s).last.number z.fresh w
    → BringsEntries z s w
    → Sound (record z { here = with_write z.here w })
sound-here z s w behind good brings = record {
  value = s.value;
  entries = s.entries;
  bounds = s.bounds;
  here = λ f.
      begins-same (image f z.here) (image f (with_write z.here w)) (last_read s).end s.value
      s.entries
      (λ k below.
      same-below w (image f z.here) (image f (with_write z.here w)) (makes f) k
      (before k below))
      (omega arith) (s.here f);
  only = λ f at y kind base whole.
      ⊎_elim {C = IsKnown (last_read s).last y
      ⊎ (IsNewer (last_read s) at y × IsBegun s.bounds.middle z.begun at y)}
      (λ (free : IsFree w y).
      s.only f at y kind base
      (whole-before w (image f z.here) (image f (with_write z.here w)) at y (makes f) free whole))
      (λ (newer : IsNewer (last_read s) at y × IsBegun s.bounds.middle z.begun at y). inr newer)
      (brings f at y kind base whole);
  beside = s.beside;
  good_here = λ f.
      good-after (last_read s).last.number z.fresh w (image f z.here)
      (image f (with_write z.here w)) (makes f) good (s.good_here f);
  good_beside = s.good_beside;
  end = s.end;
  seal = s.seal;
  base = s.base;
  stored = s.stored;
  low = s.low;
  middle = s.middle;
  top = s.top;
}
  where
    makes : (f : Fates) → Makes w (image f z.here) (image f (with_write z.here w))
    makes f = image-makes f z.here.synced w z.here.writes

    before : (k : ℕ) → k < (last_read s).end → k < w.from
    before k below =
        let same = s.end in
        omega (arith, below, behind, same)

-- ---- writes to the other slot

-- a value that is whole after the write was so before, or is ahead
abbrev pub BringsValues : (z : View) → Sound z → Write → Type 0
BringsValues z s w =
    (f : Fates) (x : Item) → x.kind ≡ Value → IsWhole (image f (with_write z.beside w)) 0 x
    → IsFree w x ⊎ IsAhead s.bounds z.begun (image f (with_write z.beside w)) x

unfoldable pub sound-beside : (z : View) (s : Sound z) (w : Write) → s.bounds.long ≡ false
    → WritesGood (last_read s).last.number z.fresh w
    → ((y : Item) → y.kind ≡ Entry → IsFree w y)
    → BringsValues z s w
    → Sound (record z { beside = with_write z.beside w })
sound-beside z s w short good free brings = record {
  value = s.value;
  entries = s.entries;
  bounds = s.bounds;
  here = s.here;
  only = s.only;
  beside = λ f x kind whole.
      ⊎_elim {C = Beside f x}
      (λ (apart : IsFree w x).
      let was = before f 0 x apart whole in
      ⊎_elim {C = Beside f x}
      (λ (passed : IsPassed (last_read s).last.number (image f z.beside) x).
      inl
      (record {
        value = passed.value;
        entries = λ at y is base inside.
            passed.entries at y is base (before f at y (free y is) inside);
      }))
      (λ (ahead : IsAhead s.bounds z.begun (image f z.beside) x). inr (still f x whole ahead))
      (s.beside f x kind was))
      (λ (ahead : IsAhead s.bounds z.begun (image f (with_write z.beside w)) x). inr ahead)
      (brings f x kind whole);
  good_here = s.good_here;
  good_beside = λ f.
      good-after (last_read s).last.number z.fresh w (image f z.beside)
      (image f (with_write z.beside w)) (makes f) good (s.good_beside f);
  end = s.end;
  seal = s.seal;
  base = s.base;
  stored = s.stored;
  low = s.low;
  middle = s.middle;
  top = s.top;
}
  where
    Beside : Fates → Item → Type 0
    Beside f x =
        IsPassed (last_read s).last.number (image f (with_write z.beside w)) x
        ⊎ IsAhead s.bounds z.begun (image f (with_write z.beside w)) x

    makes : (f : Fates) → Makes w (image f z.beside) (image f (with_write z.beside w))
    makes f = image-makes f z.beside.synced w z.beside.writes

    before : (f : Fates) (at : ℕ) (y : Item) → IsFree w y
        → IsWhole (image f (with_write z.beside w)) at y
        → IsWhole (image f z.beside) at y
    before f at y apart whole =
        whole-before w (image f z.beside) (image f (with_write z.beside w)) at y (makes f) apart
        whole

    alone : (f : Fates) (x : Item) → (ys : List Item) → ys ≡ []
        → IsWhole (image f (with_write z.beside w)) 0 x
        → Begins (image f z.beside) x ys
        → Begins (image f (with_write z.beside w)) x ys
    alone f x [] e whole b = record {
      value = whole;
      kind = b.kind;
      own = b.own;
      some = b.some;
      chain = tt;
    }
    alone f x (y ∷ ys) e whole b = absurd cc

    still : (f : Fates) (x : Item) → IsWhole (image f (with_write z.beside w)) 0 x
        → IsAhead s.bounds z.begun (image f z.beside) x
        → IsAhead s.bounds z.begun (image f (with_write z.beside w)) x
    still f x whole a = record {
      entries = a.entries;
      begins = alone f x a.entries (a.short short) whole a.begins;
      only = λ at y kind base inside. a.only at y kind base (before f at y (free y kind) inside);
      middle = a.middle;
      top = a.top;
      save = a.save;
      short = a.short;
    }

-- ---- more seals are used

unfoldable pub sound-fresh : (z : View) (s : Sound z) (fresh : ℕ) → z.fresh ≤ fresh
    → Sound (record z { fresh = fresh })
sound-fresh z s fresh older = record {
  value = s.value;
  entries = s.entries;
  bounds = s.bounds;
  here = s.here;
  only = s.only;
  beside = s.beside;
  good_here = λ f.
      all-good-more (last_read s).last.number (last_read s).last.number z.fresh fresh
      (image f z.here) (omega arith) older (s.good_here f);
  good_beside = λ f.
      all-good-more (last_read s).last.number (last_read s).last.number z.fresh fresh
      (image f z.beside) (omega arith) older (s.good_beside f);
  end = s.end;
  seal = s.seal;
  base = s.base;
  stored = s.stored;
  low = s.low;
  middle = s.middle;
  top = s.top;
}

-- ---- what a rewrite writes

-- Something was written, and perhaps synced, that is all of one value, whose head isn't there.
pub record BringsBody (z : View) (s : Sound z) (g : File) (seal : ℕ) : Type 0 where
  pub write : Write
  pub back : Fates → Fates
  pub makes : (f : Fates) → Makes write (image (back f) z.beside) (image f g)
  pub good : WritesGood (last_read s).last.number z.fresh write
  pub whose : (k n : ℕ) (x : Item) → write.bytes k ≡ Of x n → x.base ≡ seal
  pub headless : (f : Fates) (n : ℕ) (x : Item) → image f g 0 ≡ Of x n → x.base ≢ seal

pub beside-after : (z : View) (s : Sound z) (g : File) (seal : ℕ) → s.bounds.long ≡ false
    → BringsBody z s g seal
    → (f : Fates)
    → IsBeside s.bounds (last_read s).last.number z.begun (image f g)
beside-after z s g seal short b f x kind whole =
    ⊎_elim {C = IsPassed (last_read s).last.number (image f g) x
    ⊎ IsAhead s.bounds z.begun (image f g) x}
    (λ (passed : IsPassed (last_read s).last.number (image (b.back f) z.beside) x).
    inl
    (record {
      value = passed.value;
      entries = λ at y is base inside. passed.entries at y is base (before at y base inside);
    }))
    (λ (a : IsAhead s.bounds z.begun (image (b.back f) z.beside) x).
    inr
    (record {
      entries = a.entries;
      begins = alone a.entries (a.short short) a.begins;
      only = λ at y is base inside. a.only at y is base (before at y (base ∙ same a) inside);
      middle = a.middle;
      top = a.top;
      save = a.save;
      short = a.short;
    }))
    (s.beside (b.back f) x kind (before 0 x refl whole))
  where
    apart : x.base ≢ seal
    apart = b.headless f 0 x whole.head

    before : (at : ℕ) (y : Item) → y.base ≡ x.base → IsWhole (image f g) at y
        → IsWhole (image (b.back f) z.beside) at y
    before at y base inside =
        whole-before b.write (image (b.back f) z.beside) (image f g) at y (b.makes f)
        (λ k n e. apart (sym base ∙ b.whose k n y e)) inside

    same : (a : IsAhead s.bounds z.begun (image (b.back f) z.beside) x)
        → (all_read x a.entries).last.base ≡ x.base
    same a = tail-base (image (b.back f) z.beside) (first_read x) a.entries a.begins.chain

    alone : (ys : List Item) → ys ≡ [] → Begins (image (b.back f) z.beside) x ys
        → Begins (image f g) x ys
    alone [] e k = record {
      value = whole;
      kind = k.kind;
      own = k.own;
      some = k.some;
      chain = tt;
    }
    alone (y ∷ ys) e k = absurd cc

unfoldable pub sound-body : (z : View) (s : Sound z) (g : File) (seal : ℕ)
    → s.bounds.long ≡ false
    → BringsBody z s g seal
    → Sound (record z { beside = g })
sound-body z s g seal short b = record {
  value = s.value;
  entries = s.entries;
  bounds = s.bounds;
  here = s.here;
  only = s.only;
  beside = λ f x kind whole. beside-after z s g seal short b f x kind whole;
  good_here = s.good_here;
  good_beside = λ f.
      good-after (last_read s).last.number z.fresh b.write (image (b.back f) z.beside) (image f g)
      (b.makes f) b.good (s.good_beside (b.back f));
  end = s.end;
  seal = s.seal;
  base = s.base;
  stored = s.stored;
  low = s.low;
  middle = s.middle;
  top = s.top;
}

-- ---- a save begins

-- A save may begin: with these bounds, all that was ahead still is.
pub record MayBegin (z : View) (s : Sound z) (number save fresh : ℕ) : Type 0 where
  pub bounds : Bounds
  pub older : z.fresh ≤ fresh
  pub more : s.bounds.middle ≤ bounds.middle
  pub within : bounds.middle ≤ bounds.top
  pub most : bounds.top ≤ number
  pub ahead : (c : Content) (x : Item) → IsAhead s.bounds z.begun c x
      → IsAhead bounds (save ∷ z.begun) c x

unfoldable pub sound-begin : (z : View) (s : Sound z) (number save fresh : ℕ)
    → MayBegin z s number save fresh
    → Sound (record z { number = number; fresh = fresh; begun = save ∷ z.begun })
sound-begin z s number save fresh may = record {
  value = s.value;
  entries = s.entries;
  bounds = may.bounds;
  here = s.here;
  only = λ f at y kind base whole.
      ⊎_elim {C = IsKnown (last_read s).last y
      ⊎ (IsNewer (last_read s) at y × IsBegun may.bounds.middle (save ∷ z.begun) at y)}
      (λ (known : IsKnown (last_read s).last y). inl known)
      (λ (newer : IsNewer (last_read s) at y × IsBegun s.bounds.middle z.begun at y).
      let below = newer.1.number in
      let more = may.more in
      inr (
        newer.0,
        record {
          number = omega (arith, below, more);
          save = contains-more save y.save z.begun newer.1.save;
        },
      ))
      (s.only f at y kind base whole);
  beside = λ f x kind whole.
      ⊎_elim {C = IsPassed (last_read s).last.number (image f z.beside) x
      ⊎ IsAhead may.bounds (save ∷ z.begun) (image f z.beside) x}
      (λ (passed : IsPassed (last_read s).last.number (image f z.beside) x). inl passed)
      (λ (a : IsAhead s.bounds z.begun (image f z.beside) x).
      inr (may.ahead (image f z.beside) x a))
      (s.beside f x kind whole);
  good_here = λ f.
      all-good-more (last_read s).last.number (last_read s).last.number z.fresh fresh
      (image f z.here) (omega arith) may.older (s.good_here f);
  good_beside = λ f.
      all-good-more (last_read s).last.number (last_read s).last.number z.fresh fresh
      (image f z.beside) (omega arith) may.older (s.good_beside f);
  end = s.end;
  seal = s.seal;
  base = s.base;
  stored = s.stored;
  low =
      let first = s.low in
      let more = may.more in
      omega (arith, first, more);
  middle = may.within;
  top = may.most;
}

-- ---- a save is stored

-- what is in a file after a sync stays
abbrev pub synced : Content → File
synced c = record { synced = c; writes = [] }

abbrev pub after_sync : Write → Fates → File → Content
after_sync w fates f = put w (image fates f)

-- an item is this one, or the write of this one writes nothing of it
pub this-or-free : (x y : Item) (at : ℕ) → (x ≡ y) ⊎ IsFree (written x at) y
this-or-free x y at = go (same_item x y) refl
  where
    go : (b : Bool) → same_item x y ≡ b → (x ≡ y) ⊎ IsFree (written x at) y
    go true e = inl (item-same x y e)
    go false e =
        inr
        (free-of x y at
        (λ is.
        let same : same_item x y ≡ true = ap (same_item x) (sym is) ∙ item-itself x in
        absurd cc))

pub good-of : (z : View) (number : ℕ) (x : Item) → x.seal < z.fresh → x.base < z.fresh
    → x.number ≡ number
    → Good number z.fresh x
good-of z number x seal base is = record {
  seal = seal;
  base = base;
  entry = λ e. omega (arith, is);
  mark = λ e. omega (arith, is);
}

abbrev pub with_added : View → Item → Fates → View
with_added z x fates =
    record z {
      here = synced_after (written x z.end) fates z.here;
      end = z.end + x.size;
      seal = x.seal;
      stored = x.save;
      begun = [];
    }

pub sound-added : (z : View) (s : Sound z) (x : Item) → Adds z s x → (fates : Fates)
    → Sound (with_added z x fates)
sound-added z s x a fates = record {
  value = s.value;
  entries = s.entries ++ x ∷ [];
  bounds = record { middle = x.number; top = x.number; long = false };
  here = λ f. begins;
  only = λ f at y kind base whole. inl (known at y kind base whole);
  beside = λ f y kind whole. inl (passed f y kind whole);
  good_here = λ f. good;
  good_beside = λ f.
      all-good-more (last_read s).last.number all.last.number z.fresh z.fresh
      (image f z.beside) grows (omega arith) (s.good_beside f);
  end = s_end ∙ ap (λ (r : Reading). r.end) (sym more);
  seal = ap (λ (r : Reading). r.last.seal) (sym more);
  base = s.base ∙ sym a.base ∙ ap (λ (r : Reading). r.last.base) (sym more);
  stored = ap (λ (r : Reading). r.last.save) (sym more);
  low = rw more (omega arith);
  middle = omega arith;
  top =
      let same = a.number in
      omega (arith, same);
}
  where
    all : Reading
    all = all_read s.value (s.entries ++ x ∷ [])

    more : all ≡ with_item (last_read s) x
    more = tail-more (first_read s.value) s.entries x

    w : Write
    w = written x z.end

    c : Content
    c = image fates z.here

    d : Content
    d = after_sync w fates z.here

    makes : Makes w c d
    makes = put-makes w c

    whole : IsWhole d z.end x
    whole = put-whole x z.end c a.newer.some

    s_end : z.end + x.size ≡ (with_item (last_read s) x).end
    s_end = ap (λ (n : ℕ). n + x.size) s.end

    behind : IsBehind d (last_read s) x
    behind =
        let together = begins-together c s.value s.entries (s.here fates) in
        let number = together.number in
        let next = a.newer.number in
        record {
          whole = subst (λ (k : ℕ). IsWhole d k x) s.end whole;
          fits = record {
            kind = a.kind;
            base = a.base;
            before = a.newer.before;
            version = together.version;
            number = omega (arith, number, next);
          };
          since = a.newer.since ∙ sym together.holds;
          newer = subst (λ (k : ℕ). k < x.seal) (sym a.newer.before) a.newer.newer;
          some = a.newer.some;
        }

    old : Begins d s.value s.entries
    old =
        begins-same c d (last_read s).end s.value s.entries
        (λ k below.
        let same = s.end in
        same-below w c d makes k (omega (arith, below, same)))
        (omega arith) (s.here fates)

    begins : Begins d s.value (s.entries ++ x ∷ [])
    begins = record {
      value = old.value;
      kind = old.kind;
      own = old.own;
      some = old.some;
      chain = chain-more d (first_read s.value) s.entries x old.chain behind;
    }

    itself : IsKnown x x
    itself = record { seal = omega arith; number = omega arith; newer = behind.newer }

    grows : (last_read s).last.number ≤ all.last.number
    grows =
        let next = a.newer.number in
        rw more (omega (arith, next))

    known-of : (at : ℕ) (y : Item) → y.kind ≡ Entry → y.base ≡ (last_read s).last.base
        → IsWhole d at y
        → IsKnown x y
    known-of at y kind base whole_y =
        ⊎_elim {C = IsKnown x y} (λ (is : x ≡ y). subst (IsKnown x) is itself)
        (λ (free : IsFree w y).
        ⊎_elim {C = IsKnown x y}
        (λ (known : IsKnown (last_read s).last y).
        let seal = known.seal in
        let number = known.number in
        let newer = a.newer.newer in
        let next = a.newer.number in
        record {
          seal = omega (arith, seal, newer);
          number = omega (arith, number, next);
          newer = known.newer;
        })
        (λ (newer : IsNewer (last_read s) at y × IsBegun s.bounds.middle z.begun at y).
        let is : x ≡ y =
        whole-alone d z.end x y whole
        (subst (λ (k : ℕ). IsWhole d k y) (newer.0.place ∙ sym s.end) whole_y) in
        subst (IsKnown x) is itself)
        (s.only fates at y kind base (whole-before w c d at y makes free whole_y)))
        (this-or-free x y z.end)

    known : (at : ℕ) (y : Item) → y.kind ≡ Entry → y.base ≡ all.last.base → IsWhole d at y
        → IsKnown all.last y
    known at y kind base whole_y =
        subst (λ (r : Reading). IsKnown r.last y) (sym more)
        (known-of at y kind (base ∙ ap (λ (r : Reading). r.last.base) more ∙ a.base) whole_y)

    passed : (f : Fates) (y : Item) → y.kind ≡ Value → IsWhole (image f z.beside) 0 y
        → IsPassed all.last.number (image f z.beside) y
    passed f y kind whole_y =
        ⊎_elim {C = IsPassed all.last.number (image f z.beside) y}
        (λ (p : IsPassed (last_read s).last.number (image f z.beside) y).
        passed-weaker (last_read s).last.number all.last.number (image f z.beside) y grows p)
        (λ (ahead : IsAhead s.bounds z.begun (image f z.beside) y).
        let above = ahead.middle in
        let below = ahead.top in
        let top = s.top in
        let same = a.middle in
        absurd (omega (arith, above, below, top, same)))
        (s.beside f y kind whole_y)

    base_low : x.base < z.fresh
    base_low =
        subst (λ (n : ℕ). n < z.fresh) (sym a.base)
        (subst (λ (n : ℕ). n < z.fresh)
        (sym (tail-base c (first_read s.value) s.entries (s.here fates).chain))
        (s.good_here fates 0 0 s.value (s.here fates).value.head).base)

    good : AreGood all.last.number z.fresh d
    good =
        good-after all.last.number z.fresh w c d makes
        (item-written all.last.number z.fresh x z.end
        (good-of z all.last.number x a.fresh base_low
        (ap (λ (r : Reading). r.last.number) (sym more))))
        (all-good-more (last_read s).last.number all.last.number z.fresh z.fresh c grows
        (omega arith) (s.good_here fates))

-- what is last then
pub added-last : (z : View) (s : Sound z) (x : Item) (a : Adds z s x) (fates : Fates)
    → ((last_read (sound-added z s x a fates)).last.number ≡ x.number)
    × ((sound-added z s x a fates).bounds.long ≡ false)
unfolding sound-added
added-last z s x a fates =
    (ap (λ (r : Reading). r.last.number) (tail-more (first_read s.value) s.entries x), refl)

abbrev pub replaced : View → Item → Fates → View
replaced z x fates =
    record z {
      here = synced_after (written x 0) fates z.beside;
      beside = z.here;
      end = x.size;
      seal = x.seal;
      base = x.seal;
      stored = x.save;
      begun = [];
    }

-- all of what counted is passed then
pub passed-here : (z : View) (s : Sound z) (number : ℕ) → s.bounds.middle < number → (f : Fates)
    → (y : Item)
    → IsWhole (image f z.here) 0 y
    → IsPassed number (image f z.here) y
passed-here z s number above f y whole =
    subst (IsPassed number c) (whole-alone c 0 s.value y b.value whole)
    (record {
      value =
          let grows = tail-number c (first_read s.value) s.entries (together-first s.value)
          b.chain in
          let low = s.low in
          omega (arith, grows, low, above);
      entries = λ at x kind base inside.
          ⊎_elim {C = x.number < number}
          (λ (known : IsKnown (last_read s).last x).
          let within = known.number in
          let low = s.low in
          omega (arith, within, low, above))
          (λ (newer : IsNewer (last_read s) at x × IsBegun s.bounds.middle z.begun at x).
          let within = newer.1.number in
          omega (arith, within, above))
          (s.only f at x kind
          (base ∙ sym (tail-base c (first_read s.value) s.entries b.chain)) inside);
    })
  where
    c : Content
    c = image f z.here

    b : Begins c s.value s.entries
    b = s.here f

pub sound-replaced : (z : View) (s : Sound z) (x : Item) → Replaces z s x → (fates : Fates)
    → Sound (replaced z x fates)
sound-replaced z s x r fates = record {
  value = x;
  entries = [];
  bounds = record { middle = x.number; top = x.number; long = false };
  here = λ f. record {
    value = whole;
    kind = r.kind;
    own = r.own;
    some = r.some;
    chain = tt;
  };
  only = λ f at y kind base inside. absurd (none at y kind base inside);
  beside = λ f y kind inside. inl (passed-here z s x.number above f y inside);
  good_here = λ f.
      good-after x.number z.fresh w c d makes
      (item-written x.number z.fresh x 0
      (good-of z x.number x r.fresh (subst (λ (n : ℕ). n < z.fresh) (sym r.own) r.fresh) refl))
      (all-good-more (last_read s).last.number x.number z.fresh z.fresh c grows (omega arith)
      (s.good_beside fates));
  good_beside = λ f.
      all-good-more (last_read s).last.number x.number z.fresh z.fresh (image f z.here) grows
      (omega arith) (s.good_here f);
  end = refl;
  seal = refl;
  base = sym r.own;
  stored = refl;
  low = omega arith;
  middle = omega arith;
  top =
      let same = r.number in
      omega (arith, same);
}
  where
    w : Write
    w = written x 0

    c : Content
    c = image fates z.beside

    d : Content
    d = after_sync w fates z.beside

    makes : Makes w c d
    makes = put-makes w c

    whole : IsWhole d 0 x
    whole = put-whole x 0 c r.some

    above : s.bounds.middle < x.number
    above =
        let middle = r.middle in
        let same = r.number in
        omega (arith, middle, same)

    grows : (last_read s).last.number ≤ x.number
    grows =
        let low = s.low in
        omega (arith, low, above)

    none : (at : ℕ) (y : Item) → y.kind ≡ Entry → y.base ≡ x.base → IsWhole d at y → ⊥
    none at y kind base inside =
        ⊎_elim {C = ⊥}
        (λ (is : x ≡ y).
        apart (sym r.kind ∙ ap (λ (z : Item). z.kind) is ∙ kind))
        (λ (free : IsFree w y).
        r.unused fates at 0 y (whole-before w c d at y makes free inside).head kind base)
        (this-or-free x y 0)
      where
        apart : Value ≡ Entry → ⊥
        apart e = cc

pub replaced-last : (z : View) (s : Sound z) (x : Item) (r : Replaces z s x) (fates : Fates)
    → ((last_read (sound-replaced z s x r fates)).last.number ≡ x.number)
    × ((sound-replaced z s x r fates).bounds.long ≡ false)
unfolding sound-replaced
replaced-last z s x r fates = (refl, refl)

-- ---- a folder is opened

abbrev pub reopened : View → (c d : Content) → Reading → View
reopened z c d r =
    record z {
      here = synced c;
      beside = synced d;
      end = r.end;
      seal = r.last.seal;
      base = r.last.base;
      number = r.found.number;
      stored = r.holds;
      begun = [];
    }

pub sound-reopened : (z : View) (number : ℕ) (c d : Content) (r : Reading)
    → Chosen z number c d r
    → AreGood number z.fresh c
    → AreGood number z.fresh d
    → Sound (reopened z c d r)
sound-reopened z number c d r h good_c good_d = record {
  value = h.value;
  entries = h.entries;
  bounds = record { middle = last.number; top = last.number; long = false };
  here = λ f. h.begins;
  only = λ f at y kind base whole.
      ⊎_elim {C = IsKnown last y
      ⊎ (IsNewer (all_read h.value h.entries) at y × IsBegun last.number [] at y)}
      (λ (known : IsKnown last y). inl known)
      (λ (newer : IsNewer (all_read h.value h.entries) at y × ⊥). absurd newer.1)
      (h.only at y kind base whole);
  beside = λ f x kind whole. inl (h.passed x kind whole);
  good_here = λ f.
      all-good-more number last.number z.fresh z.fresh c h.most (omega arith) good_c;
  good_beside = λ f.
      all-good-more number last.number z.fresh z.fresh d h.most (omega arith) good_d;
  end = h.end;
  seal = ap (λ (x : Item). x.seal) h.last;
  base = ap (λ (x : Item). x.base) h.last;
  stored = h.holds;
  low = omega arith;
  middle = omega arith;
  top =
      let same = h.number_is in
      omega (arith, same);
}
  where
    last : Item
    last = (all_read h.value h.entries).last

pub reopened-last : (z : View) (number : ℕ) (c d : Content) (r : Reading)
    → (h : Chosen z number c d r)
    → (good_c : AreGood number z.fresh c)
    → (good_d : AreGood number z.fresh d)
    → (r.found.number ≡ (last_read (sound-reopened z number c d r h good_c good_d)).last.number)
    × ((sound-reopened z number c d r h good_c good_d).bounds.long ≡ false)
unfolding sound-reopened
reopened-last z number c d r h good_c good_d = (h.number_is, refl)
