-- The save that ends a rewrite begins.
use Rattle.std.proofs.Common.{◌≡◌, ◌<◌, ◌≤◌, ◌+◌, ◌-◌, ℕ, Bool, cond, true, false, List, [], ◌∷◌, ◌++◌, Option, Some, None, length, refl, sym, ap, ◌∙◌, subst, arith, eqb}
use Rattle.std.proofs.lemmas.Bool.{and_parts, eqb-false, eqb-true, not-true}
use Rattle.slots.specs.declared.saving.TheConstants.{IDLE}
use Rattle.slots.specs.declared.saving.Slots.{Slots}
use Rattle.slots.specs.declared.saving.Target.{Target}
use Rattle.slots.specs.declared.rewrite.Copying.{Copying}
use Rattle.slots.specs.declared.rewrite.Rewrite.{Rewrite}
use Rattle.slots.specs.Decisions.{copying, ending, last_place, may_copy, may_end, other}
use Rattle.slots.specs.Beside.{all_written, last_seal}
use Rattle.slots.specs.Disk.{first_read, image, put, with_item, with_write, Fates, File, Item, Reading}
use Rattle.slots.specs.Runs.{all_copied, begins_last, last_entry, last_items, new_copies, rests, writes, Beside, Folder}
use Rattle.slots.proofs.Body.{body-more, IsBody}
use Rattle.slots.proofs.Copies.{copies-size, next-seal, tail-both, tail-size, next-base, next-more, AreNext, Copied, IsNext, last_number, last_save}
use Rattle.slots.proofs.Disk.{image-makes, Makes}
use Rattle.slots.proofs.Lists.{contains-head, contains-more}
use Rattle.slots.proofs.Reading.{all_read, tail, Fits}
use Rattle.slots.proofs.Saves.{sound-begin, sound-body, BringsBody}
use Rattle.slots.proofs.Sound.{last_read, under_of, view_of, All, AtCopies, AtRest, AtStart, AtValue, IsReady, IsSound, IsTied, LeadsTo, Part, Reached, Sound, View, Works}
use Rattle.slots.proofs.Steps.{file-beside}
use Rattle.slots.proofs.Rewrites.{resting, ahead-of, items-bring, Ahead}

last-tail : (R : Reading) (cs : List Item) (x : Item) → tail R (cs ++ x ∷ []) ≡ with_item
    (tail R cs) x
last-tail R cs x = tail-both R cs (x ∷ [])

-- what is known of the rewrite that this save ends
record Ending (h : Folder) (s : IsSound h) (b : Beside) : Type 0 where
  reached : Reached
  ready : IsReady (view_of h).beside (record b { rest = [] }) reached
  leads : LeadsTo h.stored (last_read s.all.holds.sound).last.number h.slots.end reached b.rest
  from : b.state.from ≡ h.slots.counts
  below : reached.seal < h.fresh
  short : s.all.holds.sound.bounds.long ≡ false
  idle : h.slots.phase ≡ IDLE

abbrev last_state : Folder → Beside → Rewrite
last_state h b =
    record (b.state) {
      from_end = h.slots.end;
      from_seal = last_seal b.state.from_seal b.rest;
      seal = last_seal b.state.seal (new_copies h b b.rest);
      end = b.state.end + (h.slots.end - b.state.from_end);
    }

abbrev last_at : Folder → Beside → Target
last_at h b = record {
  offset = (last_state h b).end;
  number = h.slots.number + 1;
  before = (last_state h b).seal;
  slot = other h.slots.counts;
}

abbrev ends_with : Folder → Beside → ℕ → Folder
ends_with h b bytes =
    record
    (writes h (other h.slots.counts)
    (all_written (last_items h b bytes (last_at h b)) b.state.end)) {
      slots = ending h.slots (last_state h b) bytes;
      item = last_entry h b bytes (last_at h b);
      write = all_written (last_items h b bytes (last_at h b)) b.state.end;
      to = other h.slots.counts;
      headless = b.value;
      beside = None;
      begun = (h.fresh + length b.rest) ∷ h.begun;
      fresh = h.fresh + length b.rest + 1;
    }

ends-all : (h : Folder) (s : IsSound h) (b : Beside) (bytes : ℕ) (e : Ending h s b)
    → All
    (record (view_of h) {
      beside = with_write (h.files (other h.slots.counts))
          (all_written (last_items h b bytes (last_at h b)) b.state.end);
      number = h.slots.number + 1;
      fresh = h.fresh + length b.rest + 1;
      begun = (h.fresh + length b.rest) ∷ h.begun;
    })
    (under_of (ends_with h b bytes))
unfolding sound-begin sound-body items-bring
ends-all h s b bytes e = record {
  holds = record {
    sound = t;
    idle = λ e. absurd cc;
    short = λ x y. e.short;
    entry = λ e. absurd cc;
    whole = λ e. absurd cc;
  };
  works = λ o e. absurd cc;
  last = λ is. record {
    entries = b.copies ++ xs;
    makes = record {
      last = ap (λ (r : Reading). r.last) all;
      end = next_end;
      base = tied.base;
      to = refl;
      none = refl;
    };
    number = refl;
    next = ap (λ (n : ℕ). n + 1) idle;
    top = omega (arith, low, middle, top, idle);
    short = e.short;
    save = contains-head (h.fresh + length b.rest) h.begun;
    soon = λ f. body-soon f;
    large =
        let large = tied.large in
        omega (arith, large);
    whose = λ k n x is. (brings.whose k n x is, brings.good k n x is);
    seal =
        let first = a.fit.value in
        let below = C.below in
        let more = next-seal R cs C.next in
        omega (arith, first, below, more);
  };
  top = λ e. absurd cc;
}
  where
    z : View
    z = view_of h

    k0 : Sound z
    k0 = s.all.holds.sound

    idle : h.slots.number ≡ (last_read k0).last.number
    idle = s.all.holds.idle e.idle

    low : (last_read k0).last.number ≤ k0.bounds.middle
    low = k0.low

    middle : k0.bounds.middle ≤ k0.bounds.top
    middle = k0.middle

    top : k0.bounds.top ≤ h.slots.number
    top = k0.top

    R : Reading
    R = all_read b.value b.copies

    cs : List Item
    cs = new_copies h b b.rest

    a : Ahead h s b b.rest
    a = ahead-of h s b b.rest e.reached e.ready e.below e.leads.on

    C : Copied R h.fresh b.rest cs
    C = a.copies

    T : Reading
    T = tail R cs

    tied : IsTied b
    tied = a.fit.tied

    x : Item
    x = last_entry h b bytes (last_at h b)

    xs : List Item
    xs = cs ++ x ∷ []

    number : T.last.number ≡ h.slots.number
    number =
        C.number ∙ ap (λ (n : ℕ). last_number n b.rest) (sym e.ready.number) ∙ e.leads.last ∙ sym
        idle

    save : T.last.save ≡ h.stored
    save = C.save ∙ ap (λ (n : ℕ). last_save n b.rest) (sym e.ready.save) ∙ e.leads.save

    fits : Fits T x
    fits =
        let found = C.together.number in
        record {
          kind = refl;
          base = sym (next-base R cs C.next ∙ a.fit.base);
          before =
              ap (λ (n : ℕ). last_seal n cs) tied.seal ∙ sym C.seal;
          version = C.together.version;
          number = omega (arith, found, number);
        }

    next_x : IsNext T x
    next_x = record {
      fits = fits;
      since = sym save ∙ sym C.together.holds;
      newer =
          let below = C.below in
          let before = fits.before in
          omega (arith, below, before);
      some = omega arith;
    }

    next : AreNext R xs
    next = next-more R cs x C.next next_x

    last : tail R xs ≡ with_item T x
    last = last-tail R cs x

    all : all_read b.value (b.copies ++ xs) ≡ with_item T x
    all = tail-both (first_read b.value) b.copies xs ∙ last

    next_end : (ending h.slots (last_state h b) bytes).next_end
        ≡ (all_read b.value (b.copies ++ xs)).end
    next_end =
        let size = tail-size R cs in
        let same = copies-size b.value.seal b.state.seal h.fresh b.rest in
        let sum = e.leads.size in
        let from = e.ready.from in
        let end = tied.end in
        let both = ap (λ (r : Reading). r.end) all in
        omega (arith, size, same, sum, from, end, both)

    g : File
    g = with_write z.beside (all_written xs b.state.end)

    fresh : ℕ
    fresh = h.fresh + length b.rest + 1

    s1 : Sound
        (record z {
          number = h.slots.number + 1;
          fresh = fresh;
          begun = (h.fresh + length b.rest) ∷ h.begun;
        })
    s1 =
        sound-begin z k0 (h.slots.number + 1) (h.fresh + length b.rest) fresh
        (record {
          bounds = k0.bounds;
          older = omega arith;
          more = omega arith;
          within = middle;
          most = omega (arith, top);
          ahead = λ c y ahead. record {
            entries = ahead.entries;
            begins = ahead.begins;
            only = ahead.only;
            middle = ahead.middle;
            top = ahead.top;
            save =
                contains-more (h.fresh + length b.rest) (all_read y ahead.entries).last.save
                h.begun ahead.save;
            short = ahead.short;
          };
        })

    makes : (f : Fates) → Makes (all_written xs b.state.end) (image f z.beside) (image f g)
    makes f = image-makes f z.beside.synced (all_written xs b.state.end) z.beside.writes

    brings : BringsBody
        (record z {
          number = h.slots.number + 1;
          fresh = fresh;
          begun = (h.fresh + length b.rest) ∷ h.begun;
        })
        s1 g b.value.seal
    brings =
        items-bring
        (record z {
          number = h.slots.number + 1;
          fresh = fresh;
          begun = (h.fresh + length b.rest) ∷ h.begun;
        })
        s1 b g xs
        (record {
          fit = a.fit;
          next = next;
          seal = subst (λ (r : Reading). r.last.seal < fresh) (sym last) (omega arith);
          last =
              subst (λ (r : Reading). r.last.number ≤ (last_read k0).last.number + 1) (sym last)
              (omega (arith, idle));
        })
        makes (λ f n y is. (e.ready.body f).headless n y is)

    t : Sound
        (record z {
          beside = g;
          number = h.slots.number + 1;
          fresh = fresh;
          begun = (h.fresh + length b.rest) ∷ h.begun;
        })
    t =
        sound-body
        (record z {
          number = h.slots.number + 1;
          fresh = fresh;
          begun = (h.fresh + length b.rest) ∷ h.begun;
        })
        s1 g b.value.seal e.short brings

    body-soon : (f : Fates)
        → IsBody (put (all_written xs b.state.end) (image f g)) b.value (b.copies ++ xs)
    body-soon f =
        subst
        (λ (n : ℕ). IsBody (put (all_written xs n) (image f g)) b.value (b.copies ++ xs))
        (sym tied.end)
        (body-more xs (image f g) (e.ready.body f) tied.large next
        (subst (λ (n : ℕ). Makes (all_written xs n) (image f z.beside) (image f g)) tied.end
        (makes f)))

ends-sound : (h : Folder) (s : IsSound h) (b : Beside) (bytes : ℕ) → Ending h s b
    → IsSound (ends_with h b bytes)
ends-sound h s b bytes e = record {
  two = s.two;
  all =
      file-beside
      (λ (x y : File).
      All
      (record (view_of h) {
        here = x;
        beside = y;
        number = h.slots.number + 1;
        fresh = h.fresh + length b.rest + 1;
        begun = (h.fresh + length b.rest) ∷ h.begun;
      })
      (under_of (ends_with h b bytes)))
      h.files h.slots.counts
      (with_write (h.files (other h.slots.counts))
      (all_written (last_items h b bytes (last_at h b)) b.state.end))
      s.two refl (ends-all h s b bytes e);
  entry = λ e. absurd cc;
  whole = λ e. absurd cc;
}

abbrev with_last : Folder → Beside → ℕ → Slots → Option Copying → Option Target → Folder
with_last h b bytes slots (Some c) (Some t) =
    record (writes h t.slot (all_written (last_items h b bytes t) c.to)) {
      slots = slots;
      item = last_entry h b bytes t;
      write = all_written (last_items h b bytes t) c.to;
      to = t.slot;
      headless = b.value;
      beside = None;
      begun = (h.fresh + length b.rest) ∷ h.begun;
      fresh = h.fresh + length b.rest + 1;
    }
with_last h b bytes slots c t = h

pub last-sound : (h : Folder) (s : IsSound h) (b : Beside) (bytes : ℕ) → h.beside ≡ Some b
    → rests b.doing ≡ true
    → IsSound
    (begins_last h b bytes (copying b.state h.slots.end)
    (last_place h.slots (all_copied h b) bytes))
last-sound h s b bytes is rest =
    go (may_copy b.state h.slots.end) (may_end h.slots (all_copied h b) bytes) refl refl
  where
    w : Works (view_of h) s.all.holds.sound h.slots.counts b
    w = s.all.works b is

    copy : Copying
    copy = record {
      length = h.slots.end - b.state.from_end;
      from = b.state.from_end;
      to = b.state.end;
      from_slot = b.state.from;
      to_slot = other b.state.from;
    }

    state : Bool → Rewrite
    state x = cond x (last_state h b) b.state

    place : Rewrite → Target
    place r = record {
      offset = r.end;
      number = h.slots.number + 1;
      before = r.seal;
      slot = other h.slots.counts;
    }

    F : (x y : Bool) → Folder
    F x y =
        with_last h b bytes (cond y (ending h.slots (state x) bytes) h.slots)
        (cond x (Some copy) None) (cond y (Some (place (state x))) None)

    by-part : (may_copy b.state h.slots.end ≡ true) → h.slots.phase ≡ IDLE
        → Part (view_of h).beside h.slots.counts (record b { rest = [] }) w.reached
        → IsSound (F true true)
    by-part copies idle (AtStart started) =
        let some =
        eqb-false b.state.end 0
        (not-true (eqb b.state.end 0) (and_parts _ _ (and_parts _ _ copies).0).0) in
        absurd (some started.end)
    by-part copies idle (AtRest ready) =
        ends-sound h s b bytes
        (record {
          reached = w.reached;
          ready = ready;
          leads = w.leads;
          from = w.from;
          below = w.below;
          short = w.short;
          idle = idle;
        })
    by-part copies idle (AtValue v) = absurd ((resting b rest v.length).0 v.doing)
    by-part copies idle (AtCopies c) = absurd ((resting b rest 0).1 c.doing)

    go : (x y : Bool) → may_copy b.state h.slots.end ≡ x
        → may_end h.slots (state x) bytes ≡ y
        → IsSound (F x y)
    go true true e f =
        let idle =
        eqb-true h.slots.phase IDLE (and_parts _ _ (and_parts _ _ f).0).0 in
        by-part e idle w.part
    go true false e f = s
    go false true e f = s
    go false false e f = s
