-- The end of a rewrite: all but its head is synced, and then its head.
use Rattle.std.proofs.Common.{◌≡◌, ◌<◌, ◌≤◌, ◌+◌, ℕ, Bool, true, false, List, [], refl, sym, ap, ◌∙◌, subst, arith, ◌⊎◌, inl, inr, ⊎_elim, ltb}
use Rattle.std.proofs.lemmas.Bool.{cases_Bool, ltb-false, ltb-true}
use Rattle.std.specs.List.{Contains}
use Rattle.slots.specs.declared.saving.TheConstants.{HEAD, TOP}
use Rattle.slots.specs.Beside.{head_of}
use Rattle.slots.specs.Disk.{first_read, image, put, same_item, synced_after, with_write, Content, Entry, Fates, Item, Mark, Of, Reading, Value, Write}
use Rattle.slots.proofs.Body.{body-only, outside-head, put-behind, put-there, IsBody}
use Rattle.slots.proofs.Disk.{image-makes, item-itself, item-same, put-makes, whole-before, IsFree, IsWhole, Makes}
use Rattle.slots.proofs.Reading.{all_read, begins-same, tail-base, Begins, IsKnown, IsNewer, Nothing, Only}
use Rattle.slots.proofs.Saves.{all-good-more, good-after, passed-here, sound-body, WritesGood}
use Rattle.slots.proofs.Sound.{last_read, AreGood, Ends, Good, IsAhead, IsBegun, IsBeside, IsPassed, Sound, Tops, Under, View}

-- ---- the same bytes

abbrev AreEqual : Content → Content → Type 0
AreEqual c d = (k : ℕ) → d k ≡ c k

whole-equal : (c d : Content) (at : ℕ) (x : Item) → AreEqual c d → IsWhole c at x → IsWhole d at x
whole-equal c d at x same w = record {
  head = same at ∙ w.head;
  all = λ n below. same (at + n) ∙ w.all n below;
}

begins-equal : (c d : Content) (v : Item) (ys : List Item) → AreEqual c d → Begins c v ys
    → Begins d v ys
begins-equal c d v ys same b =
    begins-same c d (all_read v ys).end v ys (λ k below. same k) (omega arith) b

only-equal : (c d : Content) (r : Reading) → AreEqual c d → Only Nothing c r → Only Nothing d r
only-equal c d r same only at y kind base whole =
    only at y kind base (whole-equal d c at y (λ k. sym (same k)) whole)

-- with the head, or with the head once more
head-twice : (v : Item) (c d : Content) → Makes (head_of v) c d
    → AreEqual (put (head_of v) c) (put (head_of v) d)
head-twice v c d makes k =
    ⊎_elim {C = put w d k ≡ put w c k}
    (λ (is : ltb k HEAD ≡ true).
    let less = ltb-true k HEAD is in
    put-there w d k (omega arith) (omega (arith, less))
    ∙ sym (put-there w c k (omega arith) (omega (arith, less))))
    (λ (not : ltb k HEAD ≡ false).
    let more = ltb-false k HEAD not in
    put-behind w d k (omega (arith, more))
    ∙ (makes k).outside (outside-head v k more)
    ∙ sym (put-behind w c k (omega (arith, more))))
    (cases_Bool (ltb k HEAD))
  where
    w : Write
    w = head_of v

-- if the value is whole, its head is there
head-there : (v : Item) (c d : Content) → Makes (head_of v) c d → HEAD ≤ v.size
    → IsWhole d 0 v
    → AreEqual (put (head_of v) c) d
head-there v c d makes large whole k =
    ⊎_elim {C = d k ≡ put w c k}
    (λ (is : ltb k HEAD ≡ true).
    let less = ltb-true k HEAD is in
    ap d (plus k)
    ∙ whole.all k (omega (arith, less, large))
    ∙ sym (put-there w c k (omega arith) (omega (arith, less))))
    (λ (not : ltb k HEAD ≡ false).
    let more = ltb-false k HEAD not in
    (makes k).outside (outside-head v k more)
    ∙ sym (put-behind w c k (omega (arith, more))))
    (cases_Bool (ltb k HEAD))
  where
    w : Write
    w = head_of v

    plus : (n : ℕ) → n ≡ 0 + n
    plus n = omega arith

-- an item is the value, or no byte of it is in the head
head-or-free : (v x : Item) → (v ≡ x) ⊎ IsFree (head_of v) x
head-or-free v x = go (same_item v x) refl
  where
    go : (b : Bool) → same_item v x ≡ b → (v ≡ x) ⊎ IsFree (head_of v) x
    go true e = inl (item-same v x e)
    go false e =
        inr
        (λ k n is.
        let it : v ≡ x = cc in
        let same : same_item v x ≡ true = ap (same_item v) (sym it) ∙ item-itself v in
        absurd cc)

value-entry : (v x : Item) → v.kind ≡ Value → x.kind ≡ Entry → v ≡ x → ⊥
value-entry v x is kind e = not-entry (sym is ∙ ap (λ (i : Item). i.kind) e ∙ kind)
  where
    not-entry : Value ≡ Entry → ⊥
    not-entry e = cc

-- ---- the head is written

abbrev pub topped : View → Under → Fates → View
topped z u fates =
    record z {
      beside = with_write (synced_after u.write fates z.beside) (head_of u.headless);
    }

head-good : (number fresh : ℕ) (v : Item) → v.kind ≡ Value → v.base ≡ v.seal → v.seal < fresh
    → WritesGood number fresh (head_of v)
head-good number fresh v kind own below k n x e =
    subst (Good number fresh) same
    (record {
      seal = below;
      base = omega (arith, own, below);
      entry = λ f. absurd (not-entry (sym kind ∙ f));
      mark = λ f. absurd (not-mark (sym kind ∙ f));
    })
  where
    same : v ≡ x
    same = cc

    not-entry : Value ≡ Entry → ⊥
    not-entry e = cc

    not-mark : Value ≡ Mark → ⊥
    not-mark e = cc

-- what is there once all but the head is synced
pub sound-headless : (z : View) (s : Sound z) (u : Under) → Ends z s u → (fates : Fates)
    → IsBeside s.bounds (last_read s).last.number z.begun (put u.write (image fates z.beside))
    × AreGood (last_read s).last.number z.fresh (put u.write (image fates z.beside))
unfolding sound-body
sound-headless z s u e fates = (t.beside fates, t.good_beside fates)
  where
    t : Sound (record z { beside = synced_after u.write fates z.beside })
    t =
        sound-body z s (synced_after u.write fates z.beside) u.headless.seal e.short
        (record {
          write = u.write;
          back = λ f. fates;
          makes = λ f. put-makes u.write (image fates z.beside);
          good = λ k n x is. (e.whose k n x is).1;
          whose = λ k n x is. (e.whose k n x is).0;
          headless = λ f n x is. (e.soon fates).headless n x is;
        })

pub topped-good : (z : View) (s : Sound z) (u : Under) → Ends z s u → (fates f : Fates)
    → AreGood (last_read s).last.number z.fresh (image f (topped z u fates).beside)
topped-good z s u e fates f =
    good-after (last_read s).last.number z.fresh (head_of u.headless)
    (put u.write (image fates z.beside)) (image f (topped z u fates).beside)
    (image-makes f (put u.write (image fates z.beside)) (head_of u.headless) [])
    (head-good (last_read s).last.number z.fresh u.headless (e.soon fates).begins.kind
    (e.soon fates).begins.own e.seal)
    (sound-headless z s u e fates).1

pub topped-beside : (z : View) (s : Sound z) (u : Under) (e : Ends z s u) (fates f : Fates)
    → IsBeside
    (record {
      middle = s.bounds.middle;
      top = (last_read s).last.number + 1;
      long = true;
    })
    (last_read s).last.number z.begun (image f (topped z u fates).beside)
topped-beside z s u e fates f x kind whole =
    ⊎_elim {C = Either x}
    (λ (is : v ≡ x).
    inr (subst Ahead is (ahead (subst (λ (i : Item). IsWhole c 0 i) (sym is) whole))))
    (λ (free : IsFree (head_of v) x).
    ⊎_elim {C = Either x}
    (λ (passed : IsPassed (last_read s).last.number d x).
    inl
    (record {
      value = passed.value;
      entries = λ at y is base inside.
          passed.entries at y is base
          (whole-before (head_of v) d c at y makes
          (λ k n same. value-entry v y body.begins.kind is (of-item k n y same)) inside);
    }))
    (λ (a : IsAhead s.bounds z.begun d x).
    let above = a.middle in
    let below = a.top in
    let top = e.top in
    let low = s.low in
    absurd (omega (arith, above, below, top, low)))
    ((sound-headless z s u e fates).0 x kind (whole-before (head_of v) d c 0 x makes free whole)))
    (head-or-free v x)
  where
    v : Item
    v = u.headless

    d : Content
    d = put u.write (image fates z.beside)

    c : Content
    c = image f (topped z u fates).beside

    makes : Makes (head_of v) d c
    makes = image-makes f d (head_of v) []

    body : IsBody d v e.entries
    body = e.soon fates

    Ahead : Item → Type 0
    Ahead i =
        IsAhead
        (record {
          middle = s.bounds.middle;
          top = (last_read s).last.number + 1;
          long = true;
        })
        z.begun c i

    Either : Item → Type 0
    Either i = IsPassed (last_read s).last.number c i ⊎ Ahead i

    of-item : (k n : ℕ) (y : Item) → Of v k ≡ Of y n → v ≡ y
    of-item k n y same = cc

    last : (all_read v e.entries).last ≡ u.item
    last = e.makes.last

    number : (all_read v e.entries).last.number ≡ (last_read s).last.number + 1
    number = ap (λ (i : Item). i.number) last ∙ e.next

    base : (all_read v e.entries).last.base ≡ v.seal
    base =
        tail-base (put (head_of v) d) (first_read v) e.entries body.begins.chain ∙ body.begins.own

    ahead : IsWhole c 0 v → Ahead v
    ahead there =
        let same = head-there v d c makes e.large there in
        let middle = s.middle in
        let top = e.top in
        record {
          entries = e.entries;
          begins = begins-equal (put (head_of v) d) c v e.entries same body.begins;
          only =
              only-equal (put (head_of v) d) c (all_read v e.entries) same
              (body-only d v e.entries body base body.begins.kind);
          middle = omega (arith, middle, top, number);
          top = omega (arith, number);
          save = subst (λ (i : Item). Contains z.begun i.save) (sym last) e.save;
          short = λ no. absurd cc;
        }

unfoldable pub sound-topped : (z : View) (s : Sound z) (u : Under) → Ends z s u → (fates : Fates)
    → Sound (topped z u fates)
sound-topped z s u e fates = record {
  value = s.value;
  entries = s.entries;
  bounds = record {
    middle = s.bounds.middle;
    top = (last_read s).last.number + 1;
    long = true;
  };
  here = s.here;
  only = s.only;
  beside = λ f x kind whole. topped-beside z s u e fates f x kind whole;
  good_here = s.good_here;
  good_beside = λ f. topped-good z s u e fates f;
  end = s.end;
  seal = s.seal;
  base = s.base;
  stored = s.stored;
  low = s.low;
  middle =
      let middle = s.middle in
      let top = e.top in
      omega (arith, middle, top);
  top =
      let number = e.number in
      let next = e.next in
      omega (arith, number, next);
}

pub tops-after : (z : View) (s : Sound z) (u : Under) (e : Ends z s u) (fates : Fates)
    → Tops (topped z u fates) (sound-topped z s u e fates)
    (record u { phase = TOP; write = head_of u.headless })
unfolding sound-topped
tops-after z s u e fates = record {
  entries = e.entries;
  makes = record {
    last = e.makes.last;
    end = e.makes.end;
    base = e.makes.base;
    to = e.makes.to;
    none = e.makes.none;
  };
  write = refl;
  number = e.number;
  middle =
      let middle = s.middle in
      let top = e.top in
      let number = e.number in
      let next = e.next in
      omega (arith, middle, top, number, next);
  soon = λ f.
      let same =
      head-twice v d (image f (topped z u fates).beside)
      (image-makes f d (head_of v) []) in (
        begins-equal (put (head_of v) d) (put (head_of v) (image f (topped z u fates).beside)) v
            e.entries same body.begins,
        only-equal (put (head_of v) d) (put (head_of v) (image f (topped z u fates).beside))
            (all_read v e.entries) same (body-only d v e.entries body base body.begins.kind),
      );
  seal = e.seal;
}
  where
    v : Item
    v = u.headless

    d : Content
    d = put u.write (image fates z.beside)

    body : IsBody d v e.entries
    body = e.soon fates

    base : (all_read v e.entries).last.base ≡ v.seal
    base =
        tail-base (put (head_of v) d) (first_read v) e.entries body.begins.chain ∙ body.begins.own

-- ---- the head is synced

abbrev pub switched_to : View → Under → Fates → View
switched_to z u fates =
    record z {
      here = synced_after (head_of u.headless) fates z.beside;
      beside = z.here;
      end = u.next_end;
      seal = u.item.seal;
      base = u.next_base;
      stored = u.item.save;
      begun = [];
    }

pub sound-switched : (z : View) (s : Sound z) (u : Under) → Tops z s u → (fates : Fates)
    → Sound (switched_to z u fates)
sound-switched z s u t fates = record {
  value = v;
  entries = t.entries;
  bounds = record { middle = last.number; top = last.number; long = false };
  here = λ f. begins;
  only = λ f at y kind base whole.
      ⊎_elim {C = IsKnown last y
      ⊎ (IsNewer (all_read v t.entries) at y × IsBegun last.number [] at y)}
      (λ (known : IsKnown last y). inl known)
      (λ (newer : IsNewer (all_read v t.entries) at y × ⊥). absurd newer.1)
      ((t.soon fates).1 at y kind base whole);
  beside = λ f y kind whole. inl (passed-here z s last.number above f y whole);
  good_here = λ f.
      good-after last.number z.fresh (head_of v) (image fates z.beside)
      (put (head_of v) (image fates z.beside)) (put-makes (head_of v) (image fates z.beside))
      (head-good last.number z.fresh v begins.kind begins.own t.seal)
      (all-good-more (last_read s).last.number last.number z.fresh z.fresh (image fates z.beside)
      grows (omega arith) (s.good_beside fates));
  good_beside = λ f.
      all-good-more (last_read s).last.number last.number z.fresh z.fresh (image f z.here) grows
      (omega arith) (s.good_here f);
  end = t.makes.end;
  seal = ap (λ (i : Item). i.seal) (sym t.makes.last);
  base = t.makes.base ∙ sym begins.own ∙ sym (tail-base _ (first_read v) t.entries begins.chain);
  stored = ap (λ (i : Item). i.save) (sym t.makes.last);
  low = omega arith;
  middle = omega arith;
  top = omega (arith, number);
}
  where
    v : Item
    v = u.headless

    last : Item
    last = (all_read v t.entries).last

    begins : Begins (put (head_of v) (image fates z.beside)) v t.entries
    begins = (t.soon fates).0

    number : last.number ≡ z.number
    number = ap (λ (i : Item). i.number) t.makes.last ∙ t.number

    above : s.bounds.middle < last.number
    above =
        let middle = t.middle in
        omega (arith, middle, number)

    grows : (last_read s).last.number ≤ last.number
    grows =
        let low = s.low in
        omega (arith, low, above)

pub switched-last : (z : View) (s : Sound z) (u : Under) (t : Tops z s u) (fates : Fates)
    → (z.number ≡ (last_read (sound-switched z s u t fates)).last.number)
    × ((sound-switched z s u t fates).bounds.long ≡ false)
unfolding sound-switched
switched-last z s u t fates =
    (sym t.number ∙ ap (λ (i : Item). i.number) (sym t.makes.last), refl)
