-- How saves end, and what needs no sync.
use Rattle.std.proofs.Common.{◌≡◌, ◌≢◌, ◌<◌, ◌≤◌, ◌+◌, ℕ, Bool, cond, true, false, ◌||◌, [], Option, Some, None, refl, sym, ap, ◌∙◌, subst, arith, ◌⊎◌, inl, inr, ⊎_elim, eqb}
use Rattle.std.proofs.lemmas.Bool.{eq-eqb, eqb-true}
use Rattle.slots.specs.declared.saving.TheConstants.{DUE, ENTRY, IDLE, LAST, TOP, UNSURE, WHOLE}
use Rattle.slots.specs.declared.saving.Mark.{Mark}
use Rattle.slots.specs.declared.saving.Slots.{Slots}
use Rattle.slots.specs.Decisions.{added, is_idle, other, switched}
use Rattle.slots.specs.Disk.{covers, image, put, synced_after, with_write, written, Cell, Content, Entry, Fates, File, Item, Kind, Of, Other, Reading, Value, Write}
use Rattle.slots.specs.Disk as disk
use Rattle.slots.specs.Runs.{new_mark, nothing, puts_mark, puts_zeros, step, with_file, with_rest, writes, zeros, Beside, Fail, Folder, PutMark, PutZeros, Store}
use Rattle.slots.proofs.Disk.{free-of}
use Rattle.slots.proofs.Openings.{last-good}
use Rattle.slots.proofs.Saves.{item-written, added-last, replaced-last, sound-added, sound-here, sound-replaced, replaced, with_added}
use Rattle.slots.specs.Beside.{head_of}
use Rattle.slots.proofs.Heads.{sound-switched, sound-topped, switched-last, switched_to, topped, tops-after}
use Rattle.slots.proofs.Works.{works-keep, works-stored}
use Rattle.slots.proofs.Steps.{changed, file-here, other-apart, other-back, other-two, Two}
use Rattle.slots.proofs.Sound.{last_read, under_of, view_of, Adds, All, Ends, Tops, Good, Holds, IsSound, Replaces, Sound, View}

-- ---- failures

abbrev pub in_phase : Folder → ℕ → Folder
in_phase h phase = record h { slots = record (h.slots) { phase = phase } }

pub doubt-sound : (h : Folder) → IsSound h → IsSound (in_phase h UNSURE)
doubt-sound h s = record {
  two = s.two;
  all = record {
    holds = record {
      sound = s.all.holds.sound;
      idle = λ e. absurd cc;
      short = λ top unsure. absurd (unsure refl);
      entry = λ e. absurd cc;
      whole = λ e. absurd cc;
    };
    works = s.all.works;
    last = λ e. absurd cc;
    top = λ e. absurd cc;
  };
  entry = λ e. absurd cc;
  whole = λ e. absurd cc;
}

due-sound : (h : Folder) → IsSound h → h.slots.phase ≢ TOP → h.slots.phase ≢ UNSURE
    → IsSound (in_phase h DUE)
due-sound h s top unsure = record {
  two = s.two;
  all = record {
    holds = record {
      sound = s.all.holds.sound;
      idle = λ e. absurd cc;
      short = λ a b. s.all.holds.short top unsure;
      entry = λ e. absurd cc;
      whole = λ e. absurd cc;
    };
    works = s.all.works;
    last = λ e. absurd cc;
    top = λ e. absurd cc;
  };
  entry = λ e. absurd cc;
  whole = λ e. absurd cc;
}

pub fail-sound : (h : Folder) → IsSound h → IsSound (step h Fail)
fail-sound h s = go (eqb h.slots.phase TOP) (saving) refl refl
  where
    saving : Bool
    saving = (eqb h.slots.phase ENTRY || eqb h.slots.phase WHOLE) || eqb h.slots.phase LAST

    either : (a b : Bool) → (a || b) ≡ true → (a ≡ true) ⊎ (b ≡ true)
    either true b e = inl refl
    either false b e = inr e

    one : saving ≡ true → (n : ℕ) → (n ≢ ENTRY) → (n ≢ WHOLE) → (n ≢ LAST)
        → h.slots.phase ≢ n
    one e n a b c is =
        ⊎_elim {C = ⊥}
        (λ (first : (eqb h.slots.phase ENTRY || eqb h.slots.phase WHOLE) ≡ true).
        ⊎_elim {C = ⊥}
        (λ (f : eqb h.slots.phase ENTRY ≡ true). a (sym is ∙ eqb-true h.slots.phase ENTRY f))
        (λ (f : eqb h.slots.phase WHOLE ≡ true). b (sym is ∙ eqb-true h.slots.phase WHOLE f))
        (either (eqb h.slots.phase ENTRY) (eqb h.slots.phase WHOLE) first))
        (λ (f : eqb h.slots.phase LAST ≡ true). c (sym is ∙ eqb-true h.slots.phase LAST f))
        (either (eqb h.slots.phase ENTRY || eqb h.slots.phase WHOLE) (eqb h.slots.phase LAST) e)

    go : (a b : Bool) → eqb h.slots.phase TOP ≡ a → saving ≡ b
        → IsSound
        (record h {
          slots = cond a (record (h.slots) { phase = UNSURE })
              (cond b (record (h.slots) { phase = DUE }) h.slots);
        })
    go true b e f = doubt-sound h s
    go false true e f =
        due-sound h s
        (one f TOP (λ e. absurd cc) (λ e. absurd cc) (λ e. absurd cc))
        (one f UNSURE (λ e. absurd cc) (λ e. absurd cc) (λ e. absurd cc))
    go false false e f = s

-- ---- a save is stored

abbrev pub stored_with : Folder → Fates → Slots → Folder
stored_with h fates slots =
    record (with_file h h.to (synced_after h.write fates (h.files h.to))) {
      slots = slots;
      stored = h.item.save;
      begun = [];
      beside = with_rest h.item h.beside;
    }

added-holds : (h : Folder) (fates : Fates) (k : All (view_of h) (under_of h))
    → Adds (view_of h) k.holds.sound h.item
    → All (with_added (view_of h) h.item fates)
    (under_of (stored_with h fates (added h.slots h.item.seal)))
added-holds h fates k a = record {
  holds = record {
    sound = sound-added (view_of h) k.holds.sound h.item a fates;
    idle = λ e. sym a.number ∙ sym (added-last (view_of h) k.holds.sound h.item a fates).0;
    short = λ top unsure. (added-last (view_of h) k.holds.sound h.item a fates).1;
    entry = λ e. absurd cc;
    whole = λ e. absurd cc;
  };
  works =
      works-stored (view_of h) k.holds.sound h.item a fates h.slots.counts h.beside k.works;
  last = λ e. absurd cc;
  top = λ e. absurd cc;
}

pub stored-entry : (h : Folder) (fates : Fates) → IsSound h → h.slots.phase ≡ ENTRY
    → IsSound (stored_with h fates (added h.slots h.item.seal))
stored-entry h fates s is = record {
  two = s.two;
  all =
      file-here P h.files h.slots.counts (synced_after h.write fates (h.files h.to)) s.two
      way.0
      (subst
      (λ (w : Write).
      P (synced_after w fates (h.files h.to)) (h.files (other h.slots.counts)))
      (sym way.1)
      (subst
      (λ (t : ℕ).
      P (synced_after (written h.item h.slots.end) fates (h.files t))
      (h.files (other h.slots.counts)))
      (sym way.0)
      (subst
      (λ (end : ℕ).
      All (record (with_added (view_of h) h.item fates) { end = end })
      (under_of (stored_with h fates (added h.slots h.item.seal))))
      (sym under.0) (added-holds h fates s.all under.1))));
  entry = λ e. absurd cc;
  whole = λ e. absurd cc;
}
  where
    way : (h.to ≡ h.slots.counts) × (h.write ≡ written h.item h.slots.end)
    way = s.entry is

    under : (h.slots.next_end ≡ h.slots.end + h.item.size)
        × Adds (view_of h) s.all.holds.sound h.item
    under = s.all.holds.entry is

    P : File → File → Type 0
    P a b =
        All
        (record (view_of h) {
          here = a;
          beside = b;
          end = h.slots.next_end;
          seal = h.item.seal;
          stored = h.item.save;
          begun = [];
        })
        (under_of (stored_with h fates (added h.slots h.item.seal)))

none-some : (o : Option Beside) (b : Beside) → o ≡ None → o ≡ Some b → ⊥
none-some o b e f = absurd cc

none-rest : (x : Item) (o : Option Beside) (b : Beside) → o ≡ None → with_rest x o ≡ Some b → ⊥
none-rest x None b e f = absurd cc
none-rest x (Some c) b e f = absurd cc

replaced-holds : (h : Folder) (fates : Fates) (k : All (view_of h) (under_of h))
    → Replaces (view_of h) k.holds.sound h.item
    → h.beside ≡ None
    → All (replaced (view_of h) h.item fates)
    (under_of (stored_with h fates (switched h.slots h.item.seal h.item.seal)))
replaced-holds h fates k r none = record {
  holds = record {
    sound = sound-replaced (view_of h) k.holds.sound h.item r fates;
    idle = λ e. sym r.number ∙ sym (replaced-last (view_of h) k.holds.sound h.item r fates).0;
    short = λ top unsure. (replaced-last (view_of h) k.holds.sound h.item r fates).1;
    entry = λ e. absurd cc;
    whole = λ e. absurd cc;
  };
  works = λ b e. absurd (none-rest h.item h.beside b none e);
  last = λ e. absurd cc;
  top = λ e. absurd cc;
}

pub stored-whole : (h : Folder) (fates : Fates) → IsSound h → h.slots.phase ≡ WHOLE
    → IsSound (stored_with h fates (switched h.slots h.item.seal h.item.seal))
stored-whole h fates s is = record {
  two = other-two h.slots.counts s.two;
  all =
      file-here P h.files (other h.slots.counts)
      (synced_after h.write fates (h.files h.to)) (other-two h.slots.counts s.two)
      way.0
      (subst
      (λ (w : Write).
      P (synced_after w fates (h.files h.to)) (h.files (other (other h.slots.counts))))
      (sym way.1)
      (subst
      (λ (t : ℕ).
      P (synced_after (written h.item 0) fates (h.files t))
      (h.files (other (other h.slots.counts))))
      (sym way.0)
      (subst
      (λ (i : ℕ).
      P (synced_after (written h.item 0) fates (h.files (other h.slots.counts))) (h.files i))
      (sym (other-back h.slots.counts s.two))
      (subst
      (λ (end : ℕ).
      All (record (replaced (view_of h) h.item fates) { end = end })
      (under_of (stored_with h fates (switched h.slots h.item.seal h.item.seal))))
      (sym under.0) (replaced-holds h fates s.all under.1 way.2)))));
  entry = λ e. absurd cc;
  whole = λ e. absurd cc;
}
  where
    way : (h.to ≡ other h.slots.counts) × (h.write ≡ written h.item 0) × (h.beside ≡ None)
    way = s.whole is

    under : (h.slots.next_end ≡ h.item.size) × Replaces (view_of h) s.all.holds.sound h.item
    under = s.all.holds.whole is

    P : File → File → Type 0
    P a b =
        All
        (record (view_of h) {
          here = a;
          beside = b;
          end = h.slots.next_end;
          seal = h.item.seal;
          base = h.item.seal;
          stored = h.item.save;
          begun = [];
        })
        (under_of (stored_with h fates (switched h.slots h.item.seal h.item.seal)))

-- ---- a rewrite ends

file-twice : (P : File → File → Type 0) (files : ℕ → File) (i : ℕ) {slot : ℕ} (f : File) (w : Write)
    → Two i
    → slot ≡ other i
    → P (files i) (with_write f w)
    → P
    (changed (changed files slot f) slot (with_write (changed files slot f slot) w) i)
    (changed (changed files slot f) slot (with_write (changed files slot f slot) w) (other i))
file-twice P files i f w two is p =
    subst
    (λ (s : ℕ).
    P (changed (changed files s f) s (with_write (changed files s f s) w) i)
    (changed (changed files s f) s (with_write (changed files s f s) w) (other i)))
    (sym is)
    (rw ((other-apart i two).1, eq-eqb (other i) (other i) refl) p)

abbrev topped_with : Folder → Fates → Folder
topped_with h fates =
    record
    (writes
    (record (with_file h h.to (synced_after h.write fates (h.files h.to))) {
      slots = record (h.slots) { phase = TOP };
    })
    h.to (head_of h.headless)) {
      write = head_of h.headless;
    }

tops-all : (h : Folder) (fates : Fates) (k : All (view_of h) (under_of h))
    → Ends (view_of h) k.holds.sound (under_of h)
    → All (topped (view_of h) (under_of h) fates) (under_of (topped_with h fates))
unfolding sound-topped
tops-all h fates k e = record {
  holds = record {
    sound = sound-topped (view_of h) k.holds.sound (under_of h) e fates;
    idle = λ e. absurd cc;
    short = λ top unsure. absurd (top refl);
    entry = λ e. absurd cc;
    whole = λ e. absurd cc;
  };
  works = λ b is. absurd (none-some h.beside b e.makes.none is);
  last = λ e. absurd cc;
  top = λ is. tops-after (view_of h) k.holds.sound (under_of h) e fates;
}

tops-sound : (h : Folder) (fates : Fates) → IsSound h → h.slots.phase ≡ LAST
    → IsSound (topped_with h fates)
tops-sound h fates s is = record {
  two = s.two;
  all =
      file-twice P h.files h.slots.counts (synced_after h.write fates (h.files h.to))
      (head_of h.headless) s.two e.makes.to
      (subst
      (λ (t : ℕ).
      P (h.files h.slots.counts)
      (with_write (synced_after h.write fates (h.files t)) (head_of h.headless)))
      (sym e.makes.to) (tops-all h fates s.all e));
  entry = λ e. absurd cc;
  whole = λ e. absurd cc;
}
  where
    e : Ends (view_of h) s.all.holds.sound (under_of h)
    e = s.all.last is

    P : File → File → Type 0
    P a b = All (record (view_of h) { here = a; beside = b }) (under_of (topped_with h fates))

switched-all : (h : Folder) (fates : Fates) (k : All (view_of h) (under_of h))
    → Tops (view_of h) k.holds.sound (under_of h)
    → All (switched_to (view_of h) (under_of h) fates)
    (under_of (stored_with h fates (switched h.slots h.slots.next_base h.item.seal)))
switched-all h fates k t = record {
  holds = record {
    sound = sound-switched (view_of h) k.holds.sound (under_of h) t fates;
    idle = λ e. (switched-last (view_of h) k.holds.sound (under_of h) t fates).0;
    short = λ top unsure. (switched-last (view_of h) k.holds.sound (under_of h) t fates).1;
    entry = λ e. absurd cc;
    whole = λ e. absurd cc;
  };
  works = λ b e. absurd (none-rest h.item h.beside b t.makes.none e);
  last = λ e. absurd cc;
  top = λ e. absurd cc;
}

stored-top : (h : Folder) (fates : Fates) → IsSound h → h.slots.phase ≡ TOP
    → IsSound (stored_with h fates (switched h.slots h.slots.next_base h.item.seal))
stored-top h fates s is = record {
  two = other-two h.slots.counts s.two;
  all =
      file-here P h.files (other h.slots.counts)
      (synced_after h.write fates (h.files h.to)) (other-two h.slots.counts s.two)
      t.makes.to
      (subst
      (λ (w : Write).
      P (synced_after w fates (h.files h.to)) (h.files (other (other h.slots.counts))))
      (sym t.write)
      (subst
      (λ (n : ℕ).
      P (synced_after (head_of h.headless) fates (h.files n))
      (h.files (other (other h.slots.counts))))
      (sym t.makes.to)
      (subst
      (λ (i : ℕ).
      P (synced_after (head_of h.headless) fates (h.files (other h.slots.counts))) (h.files i))
      (sym (other-back h.slots.counts s.two)) (switched-all h fates s.all t))));
  entry = λ e. absurd cc;
  whole = λ e. absurd cc;
}
  where
    t : Tops (view_of h) s.all.holds.sound (under_of h)
    t = s.all.top is

    P : File → File → Type 0
    P a b =
        All
        (record (view_of h) {
          here = a;
          beside = b;
          end = h.slots.next_end;
          seal = h.item.seal;
          base = h.slots.next_base;
          stored = h.item.save;
          begun = [];
        })
        (under_of (stored_with h fates (switched h.slots h.slots.next_base h.item.seal)))

-- ---- whatever is stored

pub store-sound : (h : Folder) (fates : Fates) → IsSound h → IsSound (step h (Store fates))
store-sound h fates s =
    go (eqb S.phase ENTRY) (eqb S.phase WHOLE) (eqb S.phase LAST) (eqb S.phase TOP) refl refl refl
    refl
  where
    S : Slots
    S = h.slots

    seal : ℕ
    seal = h.item.seal

    after : (a b c d : Bool) → Slots
    after a b c d =
        cond a (added S seal)
        (cond b (switched S seal seal)
        (cond c (record S { phase = TOP })
        (cond d (switched S S.next_base seal) S)))

    go : (a b c d : Bool) → eqb S.phase ENTRY ≡ a → eqb S.phase WHOLE ≡ b
        → eqb S.phase LAST ≡ c
        → eqb S.phase TOP ≡ d
        → IsSound
        (cond (a || (b || d)) (stored_with h fates (after a b c d))
        (cond c
        (record
        (writes
        (record (with_file h h.to (synced_after h.write fates (h.files h.to))) {
          slots = after a b c d;
        })
        h.to (head_of h.headless)) {
          write = head_of h.headless;
        })
        h))
    go true b c d e f g i = stored-entry h fates s (eqb-true S.phase ENTRY e)
    go false true c d e f g i = stored-whole h fates s (eqb-true S.phase WHOLE f)
    go false false true true e f g i =
        let last = eqb-true S.phase LAST g in
        let top = eqb-true S.phase TOP i in
        absurd cc
    go false false false true e f g i = stored-top h fates s (eqb-true S.phase TOP i)
    go false false true false e f g i = tops-sound h fates s (eqb-true S.phase LAST g)
    go false false false false e f g i = s

-- ---- marks and zeros

marks-holds : (h : Folder) → All (view_of h) (under_of h)
    → h.slots.phase ≡ IDLE
    → (m : Mark)
    → m ≡ record {
      offset = h.slots.end;
      number = h.slots.number;
      length = h.slots.length;
      base = h.slots.base;
      slot = h.slots.counts;
    }
    → All
    (record (view_of h) {
      here = with_write (h.files h.slots.counts) (written (new_mark m) h.slots.end);
    })
    (under_of h)
unfolding sound-here
marks-holds h all is m same = record {
  holds = record {
    sound = after;
    idle = k.idle;
    short = k.short;
    entry = λ e. absurd cc;
    whole = λ e. absurd cc;
  };
  works = λ b e.
      works-keep z s h.slots.counts b
      (record {
        here = with_write z.here w;
        number = z.number;
        fresh = z.fresh;
        begun = z.begun;
      })
      after (omega arith, refl, (all.works b e).short) (all.works b e);
  last = λ e. absurd cc;
  top = λ e. absurd cc;
}
  where
    k : Holds (view_of h) h.slots.phase h.slots.next_end h.item
    k = all.holds

    z : View
    z = view_of h

    s : Sound z
    s = k.sound

    w : Write
    w = written (new_mark m) z.end

    not-mark : disk.Mark ≡ Entry → ⊥
    not-mark e = cc

    last : Good (last_read s).last.number z.fresh (last_read s).last
    last =
        last-good (last_read s).last.number z.fresh (image (λ i k. disk.Lost) z.here) s.value
        s.entries (s.here (λ i k. disk.Lost)) (s.good_here (λ i k. disk.Lost))

    base_low : z.base < z.fresh
    base_low =
        let low = last.base in
        let e = s.base in
        omega (arith, low, e)

    after : Sound (record (view_of h) { here = with_write z.here w })
    after =
        sound-here z s w (omega arith)
        (item-written (last_read s).last.number z.fresh (new_mark m) z.end
        (record {
          seal = omega (arith, base_low);
          base = rw (same) base_low;
          entry = λ e. absurd cc;
          mark = λ e.
              let low = k.idle is in
              rw (same) (omega (arith, low));
        }))
        (λ f at y kind base whole.
        inl
        (free-of (new_mark m) y z.end
        (λ e. not-mark (ap (λ (i : Item). i.kind) e ∙ kind))))

pub mark-sound : (h : Folder) → IsSound h → IsSound (step h PutMark)
mark-sound h s = go (is_idle h.slots) refl
  where
    m : Mark
    m = record {
      offset = h.slots.end;
      number = h.slots.number;
      length = h.slots.length;
      base = h.slots.base;
      slot = h.slots.counts;
    }

    P : File → File → Type 0
    P a b =
        All (record (view_of h) { here = a; beside = b }) (under_of h)

    go : (b : Bool) → is_idle h.slots ≡ b → IsSound (puts_mark h (cond b (Some m) None))
    go true e =
        let is = eqb-true h.slots.phase IDLE e in
        record {
          two = s.two;
          all =
              file-here P h.files h.slots.counts
              (with_write (h.files h.slots.counts) (written (new_mark m) h.slots.end)) s.two refl
              (marks-holds h s.all is m refl);
          entry = s.entry;
          whole = s.whole;
        }
    go false e = s

zeros-holds : (h : Folder) (count : ℕ) → All (view_of h) (under_of h)
    → h.slots.phase ≡ ENTRY
    → All
    (record (view_of h) {
      here = with_write (h.files h.slots.counts) (zeros h.slots.next_end count);
    })
    (under_of h)
unfolding sound-here
zeros-holds h count all is = record {
  holds = record {
    sound = after;
    idle = λ e. absurd cc;
    short = k.short;
    entry = λ e. (
      under.0,
      record {
        kind = a.kind;
        base = a.base;
        newer = a.newer;
        save = a.save;
        fresh = a.fresh;
        next = a.next;
        number = a.number;
        middle = a.middle;
      },
    );
    whole = λ e. absurd cc;
  };
  works = λ b e.
      works-keep z s h.slots.counts b
      (record {
        here = with_write z.here w;
        number = z.number;
        fresh = z.fresh;
        begun = z.begun;
      })
      after (omega arith, refl, (all.works b e).short) (all.works b e);
  last = λ e. absurd cc;
  top = λ e. absurd cc;
}
  where
    k : Holds (view_of h) h.slots.phase h.slots.next_end h.item
    k = all.holds

    z : View
    z = view_of h

    s : Sound z
    s = k.sound

    w : Write
    w = zeros h.slots.next_end count

    under : (h.slots.next_end ≡ z.end + h.item.size) × Adds z s h.item
    under = k.entry is

    a : Adds z s h.item
    a = under.1

    behind : z.end ≤ h.slots.next_end
    behind =
        let same = under.0 in
        omega (arith, same)

    apart : (k n : ℕ) (x : Item) → nothing k ≡ Of x n → ⊥
    apart k n x e = cc

    after : Sound (record (view_of h) { here = with_write z.here w })
    after =
        sound-here z s w behind (λ k n x e. absurd (apart k n x e))
        (λ f at y kind base whole. inl (λ k n e. apart k n y e))

pub zeros-sound : (h : Folder) (count : ℕ) → IsSound h → IsSound (step h (PutZeros count))
zeros-sound h count s = go (eqb h.slots.phase ENTRY) refl
  where
    P : File → File → Type 0
    P a b =
        All (record (view_of h) { here = a; beside = b }) (under_of h)

    go : (b : Bool) → eqb h.slots.phase ENTRY ≡ b
        → IsSound (puts_zeros h count (cond b (Some h.slots.next_end) None))
    go true e =
        let is = eqb-true h.slots.phase ENTRY e in
        record {
          two = s.two;
          all =
              file-here P h.files h.slots.counts
              (with_write (h.files h.slots.counts) (zeros h.slots.next_end count)) s.two refl
              (zeros-holds h count s.all is);
          entry = s.entry;
          whole = s.whole;
        }
    go false e = s
