-- The theorems, from what holds after any steps.
use Rattle.std.proofs.Common.{◌≡◌, ◌≢◌, ◌<◌, ◌+◌, ◌-◌, ℕ, zero, suc, Bool, cond, true, false, List, [], ◌∷◌, Option, Some, None, drop, get_or, refl, sym, ap, ◌∙◌, subst, take, arith, ◌⊎◌, inl, inr, ⊎_elim, eqb}
use Rattle.std.proofs.lemmas.Bool.{eq-eqb}
use Rattle.std.specs.List.{Contains}
use Rattle.slots.specs.declared.saving.TheConstants.{DUE, IDLE, LAST}
use Rattle.slots.specs.declared.opening.Choice.{Choice}
use Rattle.slots.specs.declared.opening.Choice.TheVariants as choice
use Rattle.slots.specs.Beside.{size_of}
use Rattle.slots.specs.Decisions.{copying, last_place, other, value_place}
use Rattle.slots.specs.Openings.{chosen, Counts}
use Rattle.slots.specs.Disk.{put, written, Content, Entry, Fates, Item, Of, Other, Reading, Value}
use Rattle.slots.specs.Runs.{all_copied, begins_last, by_rewrite, choice_of, content, ends, if_rests, is_saving, new_folder, new_value, nothing, opens, reading_first, reading_second, run, step, rests, settles, tops, writes_copies, writes_value, AddEntry, AddLast, Beside, Doubt, Fail, Folder, GiveUp, Open, PutMark, PutZeros, Replace, Sight, StartRewrite, Step, Store, SyncBeside, WriteCopies, WriteValue, OfEveryRun}
use Rattle.slots.specs.Laws.{FindsLast, FindsStored, NeverDamaged}
use Rattle.slots.proofs.Disk.{put-makes, put-whole}
use Rattle.slots.proofs.Openings.{chooses-first, chooses-second, outcome, Chosen, Sights}
use Rattle.slots.proofs.Reading.{all_read}
use Rattle.slots.proofs.Saves.{reopened, reopened-last, sound-reopened}
use Rattle.slots.proofs.Sound.{last_read, view_of, All, AreGood, Good, IsSound, Sound, Under, View}
use Rattle.slots.proofs.Ends.{doubt-sound, fail-sound, mark-sound, store-sound, zeros-sound}
use Rattle.slots.proofs.Last.{last-sound}
use Rattle.slots.proofs.Rewrites.{copies-sound, give-up-sound, start-sound, value-sound}
use Rattle.slots.proofs.Steps.{add-sound, replace-sound}
use Rattle.slots.proofs.Syncs.{settle-sound}

-- ---- openings

-- what holds of an opening
record Opened (h : Folder) (s : Sight) : Type 0 where
  sound : IsSound (step h (Open s))
  finds : Contains (h.stored ∷ h.begun) (step h (Open s)).stored
  right : choice_of h s ≢ choice.Damaged

-- the same, if this is what is chosen
record OpenedBy (h : Folder) (s : Sight) (c : Choice) : Type 0 where
  sound : IsSound (opens h s c)
  finds : Contains (h.stored ∷ h.begun) (opens h s c).stored
  right : c ≢ choice.Damaged

opened-by : (h : Folder) (s : Sight) (c : Choice) → choice_of h s ≡ c → OpenedBy h s c
    → Opened h s
opened-by h s c is o = go (subst (OpenedBy h s) (sym is) o)
  where
    go : OpenedBy h s (choice_of h s) → Opened h s
    go o = record { sound = o.sound; finds = o.finds; right = o.right }

-- the folder as it would be known if this slot counted
abbrev view_at : Folder → ℕ → View
view_at h slot =
    record (view_of h) { here = h.files slot; beside = h.files (other slot) }

-- what is under way when a folder was opened
abbrev under_in : Folder → (slot phase : ℕ) → Under
under_in h slot phase = record {
  phase = phase;
  next_end = 0;
  next_base = 0;
  counts = slot;
  to = h.to;
  item = h.item;
  headless = h.headless;
  write = h.write;
  beside = None;
}

reopened-holds : (h : Folder) {number : ℕ} {c d : Content} {r : Reading}
    → Chosen (view_of h) number c d r
    → AreGood number h.fresh c
    → AreGood number h.fresh d
    → (slot : ℕ)
    → All (reopened (view_of h) c d r)
    (under_in h slot (cond (eqb r.found.version 2) IDLE DUE))
reopened-holds h {number} {c} {d} {r} chosen good_c good_d slot =
    subst (λ (phase : ℕ). All (reopened (view_of h) c d r) (under_in h slot phase))
    (sym (ap (λ (b : Bool). cond b IDLE DUE) (eq-eqb r.found.version 2 chosen.version)))
    (record {
      holds = record {
        sound = sound-reopened (view_of h) number c d r chosen good_c good_d;
        idle = λ e. (reopened-last (view_of h) number c d r chosen good_c good_d).0;
        short = λ top unsure. (reopened-last (view_of h) number c d r chosen good_c good_d).1;
        entry = λ e. absurd cc;
        whole = λ e. absurd cc;
      };
      works = λ b e. absurd cc;
      last = λ e. absurd cc;
      top = λ e. absurd cc;
    })

not-saving : (b : Bool) → (cond b IDLE DUE ≡ 1 → ⊥) × (cond b IDLE DUE ≡ 2 → ⊥)
not-saving true = (λ e. absurd cc, λ e. absurd cc)
not-saving false = (λ e. absurd cc, λ e. absurd cc)

found-in : (h : Folder) {number : ℕ} {c d : Content} {r : Reading}
    → Chosen (view_of h) number c d r
    → Contains (h.stored ∷ h.begun) r.holds
found-in h chosen =
    subst (Contains (h.stored ∷ h.begun)) (sym chosen.holds) chosen.save

opens-first : (h : Folder) (s : Sight) (number : ℕ)
    → Chosen (view_of h) number (content h s.first 0) (content h s.second 1) (reading_first h s)
    → AreGood number h.fresh (content h s.first 0)
    → AreGood number h.fresh (content h s.second 1)
    → OpenedBy h s choice.First
opens-first h s number chosen good_c good_d = record {
  sound = record {
    two = inl refl;
    all = reopened-holds h chosen good_c good_d 0;
    entry = λ e. absurd ((not-saving (eqb (reading_first h s).found.version 2)).0 e);
    whole = λ e. absurd ((not-saving (eqb (reading_first h s).found.version 2)).1 e);
  };
  finds = found-in h chosen;
  right = λ e. absurd cc;
}

opens-second : (h : Folder) (s : Sight) (number : ℕ)
    → Chosen (view_of h) number (content h s.second 1) (content h s.first 0) (reading_second h s)
    → AreGood number h.fresh (content h s.second 1)
    → AreGood number h.fresh (content h s.first 0)
    → OpenedBy h s choice.Second
opens-second h s number chosen good_c good_d = record {
  sound = record {
    two = inr refl;
    all = reopened-holds h chosen good_c good_d 1;
    entry = λ e. absurd ((not-saving (eqb (reading_second h s).found.version 2)).0 e);
    whole = λ e. absurd ((not-saving (eqb (reading_second h s).found.version 2)).1 e);
  };
  finds = found-in h chosen;
  right = λ e. absurd cc;
}

-- a choice depends only on what was saved
chosen-of : (z y : View) {number : ℕ} {c d : Content} {r : Reading}
    → z.stored ≡ y.stored
    → z.begun ≡ y.begun
    → Chosen z number c d r
    → Chosen y number c d r
chosen-of z y a b chosen = record {
  value = chosen.value;
  entries = chosen.entries;
  begins = chosen.begins;
  only = chosen.only;
  passed = chosen.passed;
  most = chosen.most;
  save =
      subst (λ (n : ℕ). Contains (n ∷ y.begun) (all_read chosen.value chosen.entries).last.save) a
      (subst
      (λ (l : List ℕ). Contains (z.stored ∷ l) (all_read chosen.value chosen.entries).last.save) b
      chosen.save);
  version = chosen.version;
  number_is = chosen.number_is;
  end = chosen.end;
  last = chosen.last;
  holds = chosen.holds;
}

abbrev first_sights : Sight → Sights
first_sights s = record {
  here = s.first;
  beside = s.second;
  looks_here = s.looks_first;
  looks_beside = s.looks_second;
}

abbrev second_sights : Sight → Sights
second_sights s = record {
  here = s.second;
  beside = s.first;
  looks_here = s.looks_second;
  looks_beside = s.looks_first;
}

open-first : (h : Folder) (s : Sight) → Sound (view_at h 0) → Opened h s
open-first h s k =
    ⊎_elim {C = Opened h s}
    (λ (o : Counts (reading_first h s).found (reading_second h s).found
    × Chosen (view_at h 0) number (content h s.first 0) (content h s.second 1)
    (reading_first h s)).
    opened-by h s choice.First
    (chooses-first (reading_first h s).found (reading_second h s).found o.0)
    (opens-first h s number
    (chosen-of (view_at h 0) (view_of h) refl refl o.1)
    (k.good_here s.first) (k.good_beside s.second)))
    (λ (o : Counts (reading_second h s).found (reading_first h s).found
    × Chosen (view_at h 0) number (content h s.second 1) (content h s.first 0)
    (reading_second h s)).
    opened-by h s choice.Second
    (chooses-second (reading_first h s).found (reading_second h s).found o.0)
    (opens-second h s number
    (chosen-of (view_at h 0) (view_of h) refl refl o.1)
    (k.good_beside s.second) (k.good_here s.first)))
    (outcome (view_at h 0) k (first_sights s))
  where
    number : ℕ
    number = (last_read k).last.number

open-second : (h : Folder) (s : Sight) → Sound (view_at h 1) → Opened h s
open-second h s k =
    ⊎_elim {C = Opened h s}
    (λ (o : Counts (reading_second h s).found (reading_first h s).found
    × Chosen (view_at h 1) number (content h s.second 1) (content h s.first 0)
    (reading_second h s)).
    opened-by h s choice.Second
    (chooses-second (reading_first h s).found (reading_second h s).found o.0)
    (opens-second h s number
    (chosen-of (view_at h 1) (view_of h) refl refl o.1)
    (k.good_here s.second) (k.good_beside s.first)))
    (λ (o : Counts (reading_first h s).found (reading_second h s).found
    × Chosen (view_at h 1) number (content h s.first 0) (content h s.second 1)
    (reading_first h s)).
    opened-by h s choice.First
    (chooses-first (reading_first h s).found (reading_second h s).found o.0)
    (opens-first h s number
    (chosen-of (view_at h 1) (view_of h) refl refl o.1)
    (k.good_beside s.first) (k.good_here s.second)))
    (outcome (view_at h 1) k (second_sights s))
  where
    number : ℕ
    number = (last_read k).last.number

open-any : (h : Folder) (s : Sight) → IsSound h → Opened h s
open-any h s k =
    ⊎_elim {C = Opened h s}
    (λ (e : h.slots.counts ≡ 0).
    open-first h s (subst (λ (i : ℕ). Sound (view_at h i)) e k.all.holds.sound))
    (λ (e : h.slots.counts ≡ 1).
    open-second h s (subst (λ (i : ℕ). Sound (view_at h i)) e k.all.holds.sound))
    k.two

-- ---- all steps

rewrite-sound : (h : Folder) (change : Beside → Folder) → IsSound h
    → ((b : Beside) → h.beside ≡ Some b → IsSound (change b))
    → (o : Option Beside)
    → h.beside ≡ o
    → IsSound (by_rewrite h o change)
rewrite-sound h change s each None e = s
rewrite-sound h change s each (Some b) e = each b e

rest-sound : (h : Folder) (change : Beside → Folder) → IsSound h
    → ((b : Beside) → h.beside ≡ Some b → rests b.doing ≡ true → IsSound (change b))
    → IsSound (if_rests h change)
rest-sound h change s each =
    rewrite-sound h (λ b. cond (rests b.doing) (change b) h) s
    (λ b is. go b is (rests b.doing) refl) h.beside refl
  where
    go : (b : Beside) → h.beside ≡ Some b → (t : Bool) → rests b.doing ≡ t
        → IsSound (cond t (change b) h)
    go b is true e = each b is e
    go b is false e = s

step-sound : (h : Folder) (t : Step) → IsSound h → IsSound (step h t)
step-sound h (AddEntry bytes) s = add-sound h bytes s
step-sound h (Replace bytes) s = replace-sound h bytes s
step-sound h (Store fates) s = store-sound h fates s
step-sound h Fail s = fail-sound h s
step-sound h Doubt s = doubt-sound h s
step-sound h PutMark s = mark-sound h s
step-sound h (PutZeros count) s = zeros-sound h count s
step-sound h StartRewrite s = start-sound h s
step-sound h (WriteValue bytes) s =
    rest-sound h (λ b. writes_value h b bytes (value_place b.state bytes)) s
    (λ b is rest. value-sound h s b bytes is rest)
step-sound h (WriteCopies count) s =
    rest-sound h
    (λ b.
    writes_copies h b (take count b.rest) (drop count b.rest)
    (copying b.state (b.state.from_end + size_of (take count b.rest))))
    s (λ b is rest. copies-sound h s b count is rest)
step-sound h (SyncBeside fates) s =
    rewrite-sound h (λ b. cond (rests b.doing) h (settles h b fates)) s
    (λ b is. settle-sound h s b fates is) h.beside refl
step-sound h GiveUp s = give-up-sound h s
step-sound h (AddLast bytes) s =
    rest-sound h
    (λ b.
    begins_last h b bytes (copying b.state h.slots.end)
    (last_place h.slots (all_copied h b) bytes))
    s (λ b is rest. last-sound h s b bytes is rest)
step-sound h (Open sight) s = (open-any h sight s).sound

run-sound : (steps : List Step) (h : Folder) → IsSound h → IsSound (run h steps)
run-sound [] h s = s
run-sound (t ∷ steps) h s = run-sound steps (step h t) (step-sound h t s)

-- ---- a new folder

nothing-of : (k n : ℕ) (x : Item) → nothing k ≡ Of x n → ⊥
nothing-of k n x e = cc

not-entry : Value ≡ Entry → ⊥
not-entry e = cc

new-cell : (number bytes k n : ℕ) (y : Item)
    → put (written (new_value number bytes) 0) nothing k ≡ Of y n
    → new_value number bytes ≡ y
new-cell number bytes k n y is =
    ⊎_elim {C = x ≡ y} (λ (same : c k ≡ nothing k). absurd (nothing-of k n y (sym same ∙ is)))
    (λ (more : (c k ≡ Of x (k - 0)) ⊎ (c k ≡ Other)).
    ⊎_elim {C = x ≡ y} (λ (this : c k ≡ Of x (k - 0)). same-item (k - 0) (sym this ∙ is))
    (λ (torn : c k ≡ Other). absurd (nothing-of k n y (sym torn ∙ is))) more)
    (put-makes (written x 0) nothing k).cases
  where
    x : Item
    x = new_value number bytes

    c : Content
    c = put (written x 0) nothing

    same-item : (k : ℕ) → Of x k ≡ Of y n → x ≡ y
    same-item k e = cc

new-sound : (number bytes : ℕ) → IsSound (new_folder number bytes)
new-sound number bytes = record {
  two = inl refl;
  all = record {
    holds = record {
      sound = record {
        value = x;
        entries = [];
        bounds = record { middle = number + 1; top = number + 1; long = false };
        here = λ f. record {
          value = put-whole x 0 nothing some;
          kind = refl;
          own = refl;
          some = some;
          chain = tt;
        };
        only = λ f at y kind base whole.
            let same = new-cell number bytes at 0 y whole.head in
            absurd (not-entry (ap (λ (i : Item). i.kind) same ∙ kind));
        beside = λ f y kind whole. absurd (nothing-of 0 0 y whole.head);
        good_here = λ f k n y is.
            subst (Good (number + 1) 2) (new-cell number bytes k n y is)
            (record {
              seal = omega arith;
              base = omega arith;
              entry = λ e. absurd cc;
              mark = λ e. absurd cc;
            });
        good_beside = λ f k n y is. absurd (nothing-of k n y is);
        end = refl;
        seal = refl;
        base = refl;
        stored = refl;
        low = omega arith;
        middle = omega arith;
        top = omega arith;
      };
      idle = λ e. refl;
      short = λ top unsure. refl;
      entry = λ e. absurd cc;
      whole = λ e. absurd cc;
    };
    works = λ b e. absurd cc;
    last = λ e. absurd cc;
    top = λ e. absurd cc;
  };
  entry = λ e. absurd cc;
  whole = λ e. absurd cc;
}
  where
    x : Item
    x = new_value number bytes

    some : 0 < x.size
    some = omega arith

-- ---- the theorems

of-every-run : (P : Folder → Type 0) → ((h : Folder) → IsSound h → P h) → OfEveryRun P
of-every-run P each number bytes steps =
    each (run (new_folder number bytes) steps)
    (run-sound steps (new_folder number bytes) (new-sound number bytes))

pub finds-last : OfEveryRun FindsLast
finds-last = of-every-run FindsLast (λ h s sight. (open-any h sight s).finds)

pub never-damaged : OfEveryRun NeverDamaged
never-damaged = of-every-run NeverDamaged (λ h s sight. (open-any h sight s).right)

only-one : (x y : ℕ) → Contains (x ∷ []) y → y ≡ x
only-one x y c = go c.0 c.1 c.2
  where
    go : (k : ℕ) → k < 1 → get_or (x ∷ []) k y ≡ y → y ≡ x
    go zero inside e = sym e
    go (suc k) inside e = absurd (omega (arith, inside))

stored-alone : (h : Folder) (fates : Fates) (s : Sight) → IsSound h
    → is_saving h ≡ true
    → (step (step h (Store fates)) (Open s)).stored ≡ h.item.save
stored-alone h fates s k saving =
    only-one h.item.save (step (step h (Store fates)) (Open s)).stored
    (subst
    (λ (b : Folder). Contains (b.stored ∷ b.begun) (step (step h (Store fates)) (Open s)).stored)
    (ap (λ (b : Bool). cond b (ends h fates) (cond (eqb h.slots.phase LAST) (tops h fates) h))
    saving)
    (open-any (step h (Store fates)) s (store-sound h fates k)).finds)

pub finds-stored : OfEveryRun FindsStored
finds-stored = of-every-run FindsStored
    (λ h s saving fates sight. stored-alone h fates sight s saving)
