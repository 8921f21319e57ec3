-- Each step leaves a sound folder sound.
use Rattle.std.proofs.Common.{◌≡◌, ◌<◌, ◌≤◌, ◌+◌, ◌-◌, ℕ, Bool, cond, true, false, ◌||◌, [], ◌∷◌, Some, None, refl, sym, ap, ◌∙◌, subst, arith, ◌⊎◌, inl, inr, ⊎_elim, eqb}
use Rattle.std.proofs.lemmas.Bool.{and_parts, cases_Bool, eq-eqb, eqb-true, leb-true}
use Rattle.slots.specs.declared.saving.TheConstants.{DUE, IDLE}
use Rattle.slots.specs.declared.saving.Target.{Target}
use Rattle.slots.specs.Decisions.{adding, is_idle, may_add, may_replace, other, replacing}
use Rattle.slots.specs.Disk.{covers, image, put, synced_after, with_write, written, Cell, Content, Entry, Fates, File, Item, Kind, Of, Other, Reading, Value, Write}
use Rattle.slots.specs.Disk as disk
use Rattle.slots.specs.Runs.{begins, new_entry, new_whole, step, AddEntry, Folder, Replace}
use Rattle.slots.proofs.Disk.{free-of, image-makes, IsFree, IsWhole, Makes}
use Rattle.slots.proofs.Lists.{contains-head, contains-more}
use Rattle.slots.proofs.Openings.{last-good}
use Rattle.slots.proofs.Reading.{all_read, IsNewer}
use Rattle.slots.proofs.Saves.{item-written, sound-begin, sound-beside, sound-here, this-or-free, BringsEntries, BringsValues}
use Rattle.slots.proofs.Works.{works-keep}
use Rattle.slots.proofs.Sound.{last_read, under_of, view_of, All, Bounds, Good, Holds, IsAhead, IsBegun, IsSound, Sound, View}

-- ---- files by their slots

abbrev pub Two : ℕ → Type 0
Two i = (i ≡ 0) ⊎ (i ≡ 1)

pub other-apart : (i : ℕ) → Two i → (eqb (other i) i ≡ false) × (eqb i (other i) ≡ false)
other-apart i two =
    ⊎_elim {C = (eqb (other i) i ≡ false) × (eqb i (other i) ≡ false)}
    (λ (e : i ≡ 0). rw (e) (refl, refl)) (λ (e : i ≡ 1). rw (e) (refl, refl)) two

pub other-two : (i : ℕ) → Two i → Two (other i)
other-two i two =
    ⊎_elim {C = Two (other i)} (λ (e : i ≡ 0). rw (e) (inr refl)) (λ (e : i ≡ 1). rw (e) (inl refl))
    two

pub other-back : (i : ℕ) → Two i → other (other i) ≡ i
other-back i two =
    ⊎_elim {C = other (other i) ≡ i} (λ (e : i ≡ 0). rw (e) refl) (λ (e : i ≡ 1). rw (e) refl) two

abbrev pub changed : (ℕ → File) → ℕ → File → ℕ → File
changed files slot f i = cond (eqb i slot) f (files i)

-- what holds of two files, the first of which is replaced
pub file-here : (P : File → File → Type 0) (files : ℕ → File) (i : ℕ) {slot : ℕ} (f : File) → Two i
    → slot ≡ i
    → P f (files (other i))
    → P (changed files slot f i) (changed files slot f (other i))
file-here P files i f two is p =
    subst (λ (s : ℕ). P (changed files s f i) (changed files s f (other i))) (sym is)
    (rw (eq-eqb i i refl, (other-apart i two).0) p)

pub file-beside : (P : File → File → Type 0) (files : ℕ → File) (i : ℕ) {slot : ℕ} (f : File)
    → Two i
    → slot ≡ other i
    → P (files i) f
    → P (changed files slot f i) (changed files slot f (other i))
file-beside P files i f two is p =
    subst (λ (s : ℕ). P (changed files s f i) (changed files s f (other i))) (sym is)
    (rw ((other-apart i two).1, eq-eqb (other i) (other i) refl) p)

-- ---- an entry begins

-- An item of which there is no byte is whole at no other place than the one it is written to.
place-of : (x : Item) (from at : ℕ) (c d : Content) → ((k n : ℕ) → c k ≡ Of x n → ⊥)
    → Makes (written x from) c d
    → IsWhole d at x
    → at ≡ from
place-of x from at c d none makes whole =
    ⊎_elim {C = at ≡ from}
    (λ (inside : covers (written x from) at ≡ true).
    ⊎_elim {C = at ≡ from} (λ (same : d at ≡ c at). absurd (old same))
    (λ (other : (d at ≡ Of x (at - from)) ⊎ (d at ≡ Other)).
    ⊎_elim {C = at ≡ from}
    (λ (this : d at ≡ Of x (at - from)).
    let first : at - from ≡ 0 = same-place (at - from) 0 (sym this ∙ whole.head) in
    let above = leb-true from at (and_parts _ _ inside).0 in
    omega (arith, first, above))
    (λ (torn : d at ≡ Other). absurd (apart (sym torn ∙ whole.head))) other)
    (makes at).cases)
    (λ (outside : covers (written x from) at ≡ false). absurd (old ((makes at).outside outside)))
    (cases_Bool (covers (written x from) at))
  where
    same-place : (k n : ℕ) → Of x k ≡ Of x n → k ≡ n
    same-place k n e = cc

    apart : Other ≡ Of x 0 → ⊥
    apart e = cc

    old : d at ≡ c at → ⊥
    old same = none at 0 (sym same ∙ whole.head)

abbrev place_here : Folder → Target
place_here h = record {
  offset = h.slots.end;
  number = h.slots.number + 1;
  before = h.slots.seal;
  slot = h.slots.counts;
}

abbrev adds : Folder → ℕ → Folder
adds h bytes =
    begins h (adding h.slots bytes) (place_here h) (new_entry h bytes (place_here h))

adds-holds : (h : Folder) (bytes : ℕ) → All (view_of h) (under_of h)
    → h.slots.phase ≡ IDLE
    → All
    (record (view_of h) {
      here = with_write (h.files h.slots.counts)
          (written (new_entry h bytes (place_here h)) h.slots.end);
      number = h.slots.number + 1;
      fresh = h.fresh + 1;
      begun = h.fresh ∷ h.begun;
    })
    (under_of (adds h bytes))
unfolding sound-begin sound-here
adds-holds h bytes all idle = record {
  holds = record {
    sound = after;
    idle = λ e. absurd cc;
    short = λ a b. refl;
    entry = λ e. (
      refl,
      record {
        kind = refl;
        base = s.base;
        newer = newer;
        save = contains-head h.fresh h.begun;
        fresh = omega arith;
        next = ap (λ (n : ℕ). n + 1) rest;
        number = refl;
        middle = refl;
      },
    );
    whole = λ e. absurd cc;
  };
  works = λ o e.
      works-keep z s h.slots.counts o
      (record {
        here = with_write z.here (written x z.end);
        number = number;
        fresh = z.fresh + 1;
        begun = z.fresh ∷ z.begun;
      })
      after (omega arith, refl, refl) (all.works o e);
  last = λ e. absurd cc;
  top = λ e. absurd cc;
}
  where
    k : Holds (view_of h) h.slots.phase h.slots.next_end h.item
    k = all.holds

    z : View
    z = view_of h

    s : Sound z
    s = k.sound

    rest : z.number ≡ (last_read s).last.number
    rest = k.idle idle

    number : ℕ
    number = h.slots.number + 1

    x : Item
    x = new_entry h bytes (place_here h)

    s1 : Sound (record z { number = number; fresh = z.fresh + 1; begun = z.fresh ∷ z.begun })
    s1 =
        sound-begin z s number z.fresh (z.fresh + 1)
        (record {
          bounds = record { middle = number; top = number; long = false };
          older = omega arith;
          more =
              let middle = s.middle in
              let top = s.top in
              omega (arith, middle, top);
          within = omega arith;
          most = omega arith;
          ahead = λ c y ahead.
              let above = ahead.middle in
              let below = ahead.top in
              let low = s.low in
              let top = s.top in
              let same = rest in
              absurd (omega (arith, above, below, low, top, same));
        })

    last : Good (last_read s).last.number z.fresh (last_read s).last
    last =
        last-good (last_read s).last.number z.fresh (image (λ i k. disk.Lost) z.here) s.value
        s.entries (s.here (λ i k. disk.Lost)) (s.good_here (λ i k. disk.Lost))

    newer : IsNewer (last_read s) z.end x
    newer =
        let same = rest in
        record {
          place = s.end;
          before = s.seal;
          newer = last.seal;
          number = omega (arith, same);
          since = s.stored;
          some = omega arith;
        }

    base_low : z.base < z.fresh + 1
    base_low =
        let low = last.base in
        let same = s.base in
        omega (arith, low, same)

    brings : BringsEntries
        (record z { number = number; fresh = z.fresh + 1; begun = z.fresh ∷ z.begun }) s1
        (written x z.end)
    brings f at y kind base whole =
        ⊎_elim {C = IsFree (written x z.end) y
        ⊎ (IsNewer (last_read s) at y × IsBegun number (z.fresh ∷ z.begun) at y)}
        (λ (is : x ≡ y).
        let whole_x : IsWhole (image f (with_write z.here (written x z.end))) at x =
        subst (λ (i : Item). IsWhole (image f (with_write z.here (written x z.end))) at i) (sym is)
        whole in
        let place =
        place-of x z.end at (image f z.here) (image f (with_write z.here (written x z.end)))
        (λ k n e.
        let low = (s.good_here f k n x e).seal in
        omega (arith, low))
        (image-makes f z.here.synced (written x z.end) z.here.writes) whole_x in
        inr
        (subst
        (λ (i : Item). IsNewer (last_read s) at i × IsBegun number (z.fresh ∷ z.begun) at i) is (
          subst (λ (n : ℕ). IsNewer (last_read s) n x) (sym place) newer,
          record { number = omega arith; save = contains-head z.fresh z.begun },
        )))
        (λ (free : IsFree (written x z.end) y). inl free) (this-or-free x y z.end)

    after : Sound
        (record z {
          here = with_write z.here (written x z.end);
          number = number;
          fresh = z.fresh + 1;
          begun = z.fresh ∷ z.begun;
        })
    after =
        sound-here
        (record z { number = number; fresh = z.fresh + 1; begun = z.fresh ∷ z.begun }) s1
        (written x z.end) (omega arith)
        (item-written (last_read s).last.number (z.fresh + 1) x z.end
        (record {
          seal = omega arith;
          base = base_low;
          entry = λ e.
              let same = rest in
              omega (arith, same);
          mark = λ e. absurd cc;
        }))
        brings

adds-sound : (h : Folder) (bytes : ℕ) → IsSound h → h.slots.phase ≡ IDLE
    → IsSound (adds h bytes)
adds-sound h bytes s idle = record {
  two = s.two;
  all =
      file-here
      (λ (a b : File).
      All
      (record (view_of h) {
        here = a;
        beside = b;
        number = h.slots.number + 1;
        fresh = h.fresh + 1;
        begun = h.fresh ∷ h.begun;
      })
      (under_of (adds h bytes)))
      h.files h.slots.counts
      (with_write (h.files h.slots.counts)
      (written (new_entry h bytes (place_here h)) h.slots.end))
      s.two refl (adds-holds h bytes s.all idle);
  entry = λ e. (refl, refl);
  whole = λ e. absurd cc;
}

-- ---- a whole value begins

not-value : Value ≡ Entry → ⊥
not-value e = cc

abbrev place_beside : Folder → Target
place_beside h = record {
  offset = 0;
  number = h.slots.number + 1;
  before = 0;
  slot = other h.slots.counts;
}

abbrev replaces : Folder → ℕ → Folder
replaces h bytes =
    record
    (begins h (replacing h.slots bytes) (place_beside h) (new_whole h bytes (place_beside h))) {
      beside = None;
    }

replaces-holds : (h : Folder) (bytes : ℕ) → All (view_of h) (under_of h)
    → (h.slots.phase ≡ IDLE) ⊎ (h.slots.phase ≡ DUE)
    → All
    (record (view_of h) {
      beside = with_write (h.files (other h.slots.counts))
          (written (new_whole h bytes (place_beside h)) 0);
      number = h.slots.number + 1;
      fresh = h.fresh + 1;
      begun = h.fresh ∷ h.begun;
    })
    (under_of (replaces h bytes))
unfolding sound-begin sound-beside
replaces-holds h bytes all may = record {
  holds = record {
    sound = after;
    idle = λ e. absurd cc;
    short = λ a b. refl;
    entry = λ e. absurd cc;
    whole = λ e. (
      refl,
      record {
        kind = refl;
        own = refl;
        some = omega arith;
        fresh = omega arith;
        number = refl;
        middle = middle;
        unused = λ f at n y is kind base. new-cell f at n y is kind base;
      },
    );
  };
  works = λ o e. absurd cc;
  last = λ e. absurd cc;
  top = λ e. absurd cc;
}
  where
    k : Holds (view_of h) h.slots.phase h.slots.next_end h.item
    k = all.holds

    z : View
    z = view_of h

    s : Sound z
    s = k.sound

    short : s.bounds.long ≡ false
    short =
        ⊎_elim {C = s.bounds.long ≡ false}
        (λ (e : h.slots.phase ≡ IDLE). k.short (λ top. absurd cc) (λ unsure. absurd cc))
        (λ (e : h.slots.phase ≡ DUE). k.short (λ top. absurd cc) (λ unsure. absurd cc)) may

    number : ℕ
    number = h.slots.number + 1

    b : Bounds
    b = record { middle = s.bounds.middle; top = number; long = false }

    middle : s.bounds.middle < number
    middle =
        let first = s.middle in
        let top = s.top in
        omega (arith, first, top)

    x : Item
    x = new_whole h bytes (place_beside h)

    w : Write
    w = written x 0

    s1 : Sound (record z { number = number; fresh = z.fresh + 1; begun = z.fresh ∷ z.begun })
    s1 =
        sound-begin z s number z.fresh (z.fresh + 1)
        (record {
          bounds = b;
          older = omega arith;
          more = omega arith;
          within = omega (arith, middle);
          most = omega arith;
          ahead = λ c y a. record {
            entries = a.entries;
            begins = a.begins;
            only = a.only;
            middle = a.middle;
            top =
                let below = a.top in
                let top = s.top in
                omega (arith, below, top);
            save = contains-more z.fresh (all_read y a.entries).last.save z.begun a.save;
            short = λ e. a.short short;
          };
        })

    value-entry : (k n : ℕ) (y : Item) → Of x k ≡ Of y n → y.kind ≡ Entry → ⊥
    value-entry k n y e kind =
        let is : x ≡ y = cc in
        not-value (ap (λ (i : Item). i.kind) is ∙ kind)

    apart : (n : ℕ) (y : Item) → Other ≡ Of y n → ⊥
    apart n y e = cc

    new-cell : (f : Fates) (k n : ℕ) (y : Item)
        → image f (with_write z.beside w) k ≡ Of y n
        → y.kind ≡ Entry
        → y.base ≡ x.base
        → ⊥
    new-cell f k n y is kind base =
        ⊎_elim {C = ⊥}
        (λ (same : image f (with_write z.beside w) k ≡ image f z.beside k).
        let low = (s.good_beside f k n y (sym same ∙ is)).base in
        omega (arith, low, base))
        (λ (other : (image f (with_write z.beside w) k ≡ Of x (k - 0))
        ⊎ (image f (with_write z.beside w) k ≡ Other)).
        ⊎_elim {C = ⊥}
        (λ (this : image f (with_write z.beside w) k ≡ Of x (k - 0)).
        value-entry (k - 0) n y (sym this ∙ is) kind)
        (λ (torn : image f (with_write z.beside w) k ≡ Other). apart n y (sym torn ∙ is)) other)
        (image-makes f z.beside.synced w z.beside.writes k).cases

    only-this : (f : Fates)
        → (at : ℕ)
        → (y : Item)
        → y.kind ≡ Entry
        → y.base ≡ x.base
        → IsWhole (image f (with_write z.beside w)) at y
        → ⊥
    only-this f at y kind base whole = new-cell f at 0 y whole.head kind base

    number_low : (last_read s).last.number ≤ s.bounds.middle
    number_low = s.low

    ahead : (f : Fates) → IsWhole (image f (with_write z.beside w)) 0 x
        → IsAhead b (z.fresh ∷ z.begun) (image f (with_write z.beside w)) x
    ahead f whole = record {
      entries = [];
      begins = record {
        value = whole;
        kind = refl;
        own = refl;
        some = omega arith;
        chain = tt;
      };
      only = λ at y kind base inside. absurd (only-this f at y kind base inside);
      middle = middle;
      top = omega arith;
      save = contains-head z.fresh z.begun;
      short = λ e. refl;
    }

    brings : BringsValues
        (record z { number = number; fresh = z.fresh + 1; begun = z.fresh ∷ z.begun }) s1 w
    brings f y kind whole =
        ⊎_elim {C = IsFree w y
        ⊎ IsAhead b (z.fresh ∷ z.begun) (image f (with_write z.beside w)) y}
        (λ (is : x ≡ y).
        inr
        (subst
        (λ (i : Item). IsAhead b (z.fresh ∷ z.begun) (image f (with_write z.beside w)) i) is
        (ahead f
        (subst (λ (i : Item). IsWhole (image f (with_write z.beside w)) 0 i) (sym is) whole))))
        (λ (free : IsFree w y). inl free) (this-or-free x y 0)

    after : Sound
        (record z {
          beside = with_write z.beside w;
          number = number;
          fresh = z.fresh + 1;
          begun = z.fresh ∷ z.begun;
        })
    after =
        sound-beside
        (record z { number = number; fresh = z.fresh + 1; begun = z.fresh ∷ z.begun }) s1 w refl
        (item-written (last_read s).last.number (z.fresh + 1) x 0
        (record {
          seal = omega arith;
          base = omega arith;
          entry = λ e. absurd cc;
          mark = λ e. absurd cc;
        }))
        (λ y kind. free-of x y 0 (λ is. not-value (ap (λ (i : Item). i.kind) is ∙ kind)))
        brings

replaces-sound : (h : Folder) (bytes : ℕ) → IsSound h
    → (h.slots.phase ≡ IDLE) ⊎ (h.slots.phase ≡ DUE)
    → IsSound (replaces h bytes)
replaces-sound h bytes s may = record {
  two = s.two;
  all =
      file-beside
      (λ (a b : File).
      All
      (record (view_of h) {
        here = a;
        beside = b;
        number = h.slots.number + 1;
        fresh = h.fresh + 1;
        begun = h.fresh ∷ h.begun;
      })
      (under_of (replaces h bytes)))
      h.files h.slots.counts
      (with_write (h.files (other h.slots.counts))
      (written (new_whole h bytes (place_beside h)) 0))
      s.two refl (replaces-holds h bytes s.all may);
  entry = λ e. absurd cc;
  whole = λ e. (refl, refl, refl);
}

-- ---- steps that may do nothing

-- what may be begun is sound, and so is the same folder
pub add-sound : (h : Folder) (bytes : ℕ) → IsSound h → IsSound (step h (AddEntry bytes))
add-sound h bytes s = go (may_add h.slots bytes) refl
  where
    F : Bool → Folder
    F b =
        elim (cond b (Some (place_here h)) None) as (λ o. Folder) [
          | None ↦ h
          | Some place ↦
              begins h (cond b (adding h.slots bytes) h.slots) place (new_entry h bytes place)
        ]

    go : (b : Bool) → may_add h.slots bytes ≡ b → IsSound (F b)
    go true e =
        adds-sound h bytes s
        (eqb-true h.slots.phase IDLE (and_parts (is_idle h.slots) _ e).0)
    go false e = s

pub replace-sound : (h : Folder) (bytes : ℕ) → IsSound h → IsSound (step h (Replace bytes))
replace-sound h bytes s = go (may_replace h.slots bytes) refl
  where
    F : Bool → Folder
    F b =
        elim (cond b (Some (place_beside h)) None) as (λ o. Folder) [
          | None ↦ h
          | Some place ↦
              record (begins h (cond b (replacing h.slots bytes) h.slots) place
              (new_whole h bytes place)) {
                beside = None;
              }
        ]

    may : (a b : Bool) → (a || b) ≡ true → (a ≡ true) ⊎ (b ≡ true)
    may true b e = inl refl
    may false b e = inr e

    go : (b : Bool) → may_replace h.slots bytes ≡ b → IsSound (F b)
    go true e =
        replaces-sound h bytes s
        (⊎_elim {C = (h.slots.phase ≡ IDLE) ⊎ (h.slots.phase ≡ DUE)}
        (λ (idle : eqb h.slots.phase IDLE ≡ true). inl (eqb-true h.slots.phase IDLE idle))
        (λ (due : eqb h.slots.phase DUE ≡ true). inr (eqb-true h.slots.phase DUE due))
        (may (eqb h.slots.phase IDLE) (eqb h.slots.phase DUE)
        (and_parts (eqb h.slots.phase IDLE || eqb h.slots.phase DUE) _ e).0))
    go false e = s
