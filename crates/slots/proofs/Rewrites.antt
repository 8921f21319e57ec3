-- Each step of a rewrite leaves a sound folder sound.
use Rattle.std.proofs.Common.{◌≡◌, ◌≢◌, ◌<◌, ◌≤◌, ◌+◌, ◌-◌, ℕ, Bool, cond, true, false, List, [], ◌∷◌, ◌++◌, Option, Some, None, length, take, drop, refl, sym, ap, ◌∙◌, subst, arith, ◌⊎◌, inl, inr, ⊎_elim, eqb, leb}
use Rattle.std.proofs.lemmas.Bool.{and_parts, eqb-false, eqb-true, not-true}
use Rattle.slots.specs.declared.saving.TheConstants.{HEAD, IDLE, MOST}
use Rattle.slots.specs.declared.saving.Target.{Target}
use Rattle.slots.specs.declared.rewrite.Copying.{Copying}
use Rattle.slots.specs.declared.rewrite.Rewrite.{Rewrite}
use Rattle.slots.specs.Decisions.{copying, is_idle, may_copy, may_rewrite, may_write, other, value_place}
use Rattle.slots.specs.Beside.{all_written, copies_of, head_of, last_seal, size_of, without_head}
use Rattle.slots.specs.Disk.{first_read, image, put, synced_after, with_write, Cell, Content, Entry, Fates, File, Item, Of, Other, Reading, Value, Write}
use Rattle.slots.specs.Disk as disk
use Rattle.slots.specs.Runs.{new_beside, new_copies, rests, step, value_of, with_file, writes_copies, writes_value, Beside, Folder, GiveUp, StartRewrite, WritesCopies, WritesValue}
use Rattle.slots.proofs.Body.{body-first, body-more, value-of-bytes, IsBody}
use Rattle.slots.proofs.Copies.{copied, copies-size, next-seal, parts, tail-both, written-known, AreNext, Copied, GoOn, Parts, last_number, last_save}
use Rattle.slots.proofs.Disk.{image-makes, outside-below, Makes, MayBe}
use Rattle.slots.proofs.Openings.{last-good}
use Rattle.slots.proofs.Reading.{all_read, begins-together, tail, tail-base, tail-end, tail-seal, GoesTogether}
use Rattle.slots.proofs.Saves.{sound-body, sound-fresh, BringsBody}
use Rattle.slots.proofs.Sound.{last_read, under_of, view_of, All, AtCopies, AtRest, AtStart, AtValue, Good, IsReady, IsSound, IsStarted, IsTied, LeadsTo, Part, Reached, Sound, View, Works}
use Rattle.slots.proofs.Steps.{file-beside}

pub none-some : (o : Option Beside) (b : Beside) → o ≡ None → o ≡ Some b → ⊥
none-some o b e f = absurd cc

-- ---- what a rewrite changes

-- Another file beside, more seals, and how far the rewrite is.
pub record News (h : Folder) (s : IsSound h) (b : Beside) : Type 0 where
  pub file : File
  pub fresh : ℕ
  pub older : h.fresh ≤ fresh
  pub seal : ℕ
  pub brings : BringsBody (record (view_of h) { fresh = fresh })
      (sound-fresh (view_of h) s.all.holds.sound fresh older) file seal
  pub from : b.state.from ≡ h.slots.counts
  pub reached : Reached
  pub leads : LeadsTo h.stored (last_read s.all.holds.sound).last.number h.slots.end reached b.rest
  pub below : reached.seal < fresh
  pub part : Part file h.slots.counts (record b { rest = [] }) reached

news-all : (h : Folder) (s : IsSound h) (old b : Beside) → h.beside ≡ Some old
    → (n : News h s b)
    → All (record (view_of h) { beside = n.file; fresh = n.fresh })
    (record (under_of h) { beside = Some b })
unfolding sound-fresh sound-body
news-all h s old b is n = record {
  holds = record {
    sound = t;
    idle = s.all.holds.idle;
    short = s.all.holds.short;
    entry = λ e.
        let x = s.all.holds.entry e in
        let a = x.1 in
        let fresh = a.fresh in
        let older = n.older in (
          x.0,
          record {
            kind = a.kind;
            base = a.base;
            newer = a.newer;
            save = a.save;
            fresh = omega (arith, fresh, older);
            next = a.next;
            number = a.number;
            middle = a.middle;
          },
        );
    whole = λ e. absurd (none-some h.beside old (s.whole e).2 is);
  };
  works = λ c e.
      let same : b ≡ c = cc in
      subst
      (Works (record (view_of h) { beside = n.file; fresh = n.fresh }) t h.slots.counts) same
      (record {
        short = short;
        from = n.from;
        reached = n.reached;
        leads = n.leads;
        below = n.below;
        part = n.part;
      });
  last = λ e. absurd (none-some h.beside old (s.all.last e).makes.none is);
  top = λ e. absurd (none-some h.beside old (s.all.top e).makes.none is);
}
  where
    short : s.all.holds.sound.bounds.long ≡ false
    short = (s.all.works old is).short

    t : Sound (record (view_of h) { beside = n.file; fresh = n.fresh })
    t =
        sound-body (record (view_of h) { fresh = n.fresh })
        (sound-fresh (view_of h) s.all.holds.sound n.fresh n.older) n.file n.seal short n.brings

abbrev pub with_news : Folder → ℕ → File → Beside → ℕ → Folder
with_news h slot f b fresh =
    record (with_file h slot f) { beside = Some b; fresh = fresh }

pub news-sound : (h : Folder) (s : IsSound h) (old b : Beside) → h.beside ≡ Some old
    → (n : News h s b)
    → (slot : ℕ)
    → slot ≡ other h.slots.counts
    → IsSound (with_news h slot n.file b n.fresh)
news-sound h s old b is n slot there = record {
  two = s.two;
  all =
      file-beside
      (λ (x y : File).
      All (record (view_of h) { here = x; beside = y; fresh = n.fresh })
      (record (under_of h) { beside = Some b }))
      h.files h.slots.counts n.file s.two there (news-all h s old b is n);
  entry = s.entry;
  whole = λ e. absurd (none-some h.beside old (s.whole e).2 is);
}

-- ---- it begins

start-works : (h : Folder) (s : IsSound h) (state : Rewrite) → h.slots.phase ≡ IDLE
    → state ≡ record {
      turn = h.slots.turns + 1;
      number = h.slots.number;
      from_end = h.slots.end;
      from_seal = h.slots.seal;
      base = 0;
      seal = 0;
      length = 0;
      end = 0;
      from = h.slots.counts;
    }
    → Works (view_of h) s.all.holds.sound h.slots.counts (new_beside h state)
start-works h s state idle is = record {
  short = s.all.holds.short (λ e. absurd cc) (λ e. absurd cc);
  from = ap (λ (r : Rewrite). r.from) is;
  reached = record { save = h.stored; number = h.slots.number; from = h.slots.end; seal = 0 };
  leads = record {
    on = tt;
    save = refl;
    last = s.all.holds.idle idle;
    size = omega arith;
  };
  below =
      let low = last.seal in
      omega (arith, low);
  part =
      AtStart
      (record {
        none = refl;
        rests = refl;
        end = ap (λ (r : Rewrite). r.end) is;
        save = refl;
        number = ap (λ (r : Rewrite). r.number) (sym is);
        from = ap (λ (r : Rewrite). r.from_end) (sym is);
      });
}
  where
    k : Sound (view_of h)
    k = s.all.holds.sound

    last : Good (last_read k).last.number h.fresh (last_read k).last
    last =
        last-good (last_read k).last.number h.fresh
        (image (λ i k. disk.Lost) (view_of h).here) k.value k.entries
        (k.here (λ i k. disk.Lost)) (k.good_here (λ i k. disk.Lost))

pub start-sound : (h : Folder) → IsSound h → IsSound (step h StartRewrite)
start-sound h s = go (may_rewrite h.slots) refl
  where
    state : Rewrite
    state = record {
      turn = h.slots.turns + 1;
      number = h.slots.number;
      from_end = h.slots.end;
      from_seal = h.slots.seal;
      base = 0;
      seal = 0;
      length = 0;
      end = 0;
      from = h.slots.counts;
    }

    F : Bool → Folder
    F b =
        elim (cond b (Some state) None) as (λ o. Folder) [
          | None ↦ h
          | Some r ↦
              record h {
                slots = cond b (record (h.slots) { turns = h.slots.turns + 1 }) h.slots;
                beside = Some (new_beside h r);
              }
        ]

    go : (b : Bool) → may_rewrite h.slots ≡ b → IsSound (F b)
    go true e =
        let idle = eqb-true h.slots.phase IDLE (and_parts (is_idle h.slots) _ e).0 in
        record {
          two = s.two;
          all = record {
            holds = s.all.holds;
            works = λ b is.
                let same : new_beside h state ≡ b = cc in
                subst (Works (view_of h) s.all.holds.sound h.slots.counts) same
                (start-works h s state idle refl);
            last = λ e. absurd cc;
            top = λ e. absurd cc;
          };
          entry = s.entry;
          whole = λ e. absurd cc;
        }
    go false e = s

-- ---- it is given up

pub give-up-sound : (h : Folder) → IsSound h → IsSound (step h GiveUp)
give-up-sound h s = record {
  two = s.two;
  all = record {
    holds = s.all.holds;
    works = λ b e. absurd cc;
    last = λ e.
        let x = s.all.last e in
        record {
          entries = x.entries;
          makes = record {
            last = x.makes.last;
            end = x.makes.end;
            base = x.makes.base;
            to = x.makes.to;
            none = refl;
          };
          number = x.number;
          next = x.next;
          top = x.top;
          short = x.short;
          save = x.save;
          soon = x.soon;
          large = x.large;
          whose = x.whose;
          seal = x.seal;
        };
    top = λ e.
        let x = s.all.top e in
        record {
          entries = x.entries;
          makes = record {
            last = x.makes.last;
            end = x.makes.end;
            base = x.makes.base;
            to = x.makes.to;
            none = refl;
          };
          write = x.write;
          number = x.number;
          middle = x.middle;
          soon = x.soon;
          seal = x.seal;
        };
  };
  entry = s.entry;
  whole = λ e.
      let x = s.whole e in
      (x.0, x.1, refl);
}

-- ---- its value is written

pub value-not-entry : Value ≡ Entry → ⊥
value-not-entry e = cc

pub value-not-mark : Value ≡ disk.Mark → ⊥
value-not-mark e = cc

pub none-of : (n : ℕ) (x : Item) → Other ≡ Of x n → ⊥
none-of n x e = cc

-- what the byte is of once a value is written: of something that was there, or of that value
value-cell : (v : Item) {old new : Cell} {k : ℕ} (n : ℕ) (x : Item)
    → MayBe (without_head v) old new k
    → new ≡ Of x n
    → (old ≡ Of x n) ⊎ (v ≡ x)
value-cell v {old} {new} {k} n x may is =
    ⊎_elim {C = (old ≡ Of x n) ⊎ (v ≡ x)} (λ (same : new ≡ old). inl (sym same ∙ is))
    (λ (other : (new ≡ (without_head v).bytes k) ⊎ (new ≡ Other)).
    ⊎_elim {C = (old ≡ Of x n) ⊎ (v ≡ x)}
    (λ (this : new ≡ (without_head v).bytes k). inr (value-of-bytes v k n x (sym this ∙ is)))
    (λ (torn : new ≡ Other). absurd (none-of n x (sym torn ∙ is))) other)
    may.cases

abbrev value_target : Beside → Target
value_target b = record {
  offset = 0;
  number = b.state.number;
  before = 0;
  slot = other b.state.from;
}

value-news : (h : Folder) (s : IsSound h) (b : Beside) (bytes : ℕ)
    → (w : Works (view_of h) s.all.holds.sound h.slots.counts b)
    → IsStarted (record b { rest = [] }) w.reached
    → leb bytes MOST ≡ true
    → News h s
    (record b {
      value = value_of h b bytes (value_target b);
      doing = WritesValue bytes;
      write = without_head (value_of h b bytes (value_target b));
      to = other b.state.from;
    })
unfolding sound-fresh
value-news h s b bytes works started fits = record {
  file = with_write z.beside w;
  fresh = h.fresh + 1;
  older = omega arith;
  seal = v.seal;
  brings = record {
    write = w;
    back = λ f. f;
    makes = makes;
    good = λ k n x e. subst (Good number (h.fresh + 1)) (value-of-bytes v k n x e) good;
    whose = λ k n x e. ap (λ (i : Item). i.base) (sym (value-of-bytes v k n x e));
    headless = λ f n x e. headless f n x e;
  };
  from = works.from;
  reached = record (works.reached) { seal = h.fresh };
  leads = record {
    on = works.leads.on;
    save = works.leads.save;
    last = works.leads.last;
    size = works.leads.size;
  };
  below = omega arith;
  part =
      AtValue
      (record {
        length = bytes;
        none = started.none;
        doing = refl;
        end = started.end;
        fits = fits;
        to = ap other works.from;
        write = refl;
        own = refl;
        kind = refl;
        size = refl;
        soon = λ f.
            body-first v (image f (with_write z.beside w)) refl refl large
            (λ k n y e kind base.
            ⊎_elim {C = ⊥}
            (λ (was : image f z.beside k ≡ Of y n).
            let low = (k0.good_beside f k n y was).base in
            omega (arith, low, base))
            (λ (it : v ≡ y). value-not-entry (ap (λ (i : Item). i.kind) it ∙ kind))
            (value-cell v n y (makes f k) e));
        save = started.save;
        number = started.number;
        from = started.from;
        seal = refl;
      });
}
  where
    z : View
    z = view_of h

    k0 : Sound z
    k0 = s.all.holds.sound

    number : ℕ
    number = (last_read k0).last.number

    v : Item
    v = value_of h b bytes (value_target b)

    w : Write
    w = without_head v

    large : HEAD < v.size
    large = omega arith

    makes : (f : Fates) → Makes w (image f z.beside) (image f (with_write z.beside w))
    makes f = image-makes f z.beside.synced w z.beside.writes

    good : Good number (h.fresh + 1) v
    good = record {
      seal = omega arith;
      base = omega arith;
      entry = λ e. absurd (value-not-entry e);
      mark = λ e. absurd cc;
    }

    headless : (f : Fates) (n : ℕ) (x : Item) → image f (with_write z.beside w) 0 ≡ Of x n
        → x.base ≢ v.seal
    headless f n x e base =
        ⊎_elim {C = ⊥}
        (λ (same : image f (with_write z.beside w) 0 ≡ image f z.beside 0).
        let low = (k0.good_beside f 0 n x (sym same ∙ e)).base in
        omega (arith, low, base))
        (λ (new : (image f (with_write z.beside w) 0 ≡ Other)
        ⊎ (image f (with_write z.beside w) 0 ≡ Other)).
        ⊎_elim {C = ⊥}
        (λ (this : image f (with_write z.beside w) 0 ≡ Other). none-of n x (sym this ∙ e))
        (λ (torn : image f (with_write z.beside w) 0 ≡ Other). none-of n x (sym torn ∙ e)) new)
        (makes f 0).cases

-- a rewrite at rest has no value yet, or has one
pub resting : (b : Beside) → rests b.doing ≡ true → (length : ℕ)
    → (b.doing ≡ WritesValue length → ⊥) × (b.doing ≡ WritesCopies → ⊥)
resting b e length = (
  (λ f. wrong (sym e ∙ ap rests f)),
  (λ f. wrong (sym e ∙ ap rests f)),
)
  where
    wrong : true ≡ false → ⊥
    wrong e = cc

pub tied-end : (g : File) (b : Beside) (r : Reached) → IsReady g b r → 0 < b.state.end
tied-end g b r ready =
    let large = ready.tied.large in
    let end = ready.tied.end in
    let above = tail-end (first_of b.value) b.copies in
    omega (arith, large, end, above)
  where
    first_of : Item → Reading
    first_of v = first_read v

pub value-sound : (h : Folder) (s : IsSound h) (b : Beside) (bytes : ℕ) → h.beside ≡ Some b
    → rests b.doing ≡ true
    → IsSound (writes_value h b bytes (value_place b.state bytes))
unfolding value-news
value-sound h s b bytes is rest = go (may_write b.state bytes) refl
  where
    w : Works (view_of h) s.all.holds.sound h.slots.counts b
    w = s.all.works b is

    P : Type 0
    P = IsSound (writes_value h b bytes (Some (value_target b)))

    new : Beside
    new =
        record b {
          value = value_of h b bytes (value_target b);
          doing = WritesValue bytes;
          write = without_head (value_of h b bytes (value_target b));
          to = other b.state.from;
        }

    by-part : (eqb b.state.end 0 ≡ true) → (leb bytes MOST ≡ true)
        → Part (view_of h).beside h.slots.counts (record b { rest = [] }) w.reached
        → P
    by-part first fits (AtStart started) =
        let n = value-news h s b bytes w started fits in
        let there = ap other w.from in
        subst (λ (f : File). IsSound (with_news h (other b.state.from) f new (h.fresh + 1)))
        (ap (λ (i : ℕ). with_write (h.files i) new.write) (sym there))
        (news-sound h s b new is n (other b.state.from) there)
    by-part first fits (AtRest ready) =
        let none = eqb-true b.state.end 0 first in
        let some = tied-end (view_of h).beside (record b { rest = [] }) w.reached ready in
        absurd (omega (arith, none, some))
    by-part first fits (AtValue v) = absurd ((resting b rest v.length).0 v.doing)
    by-part first fits (AtCopies c) = absurd ((resting b rest 0).1 c.doing)

    go : (t : Bool) → may_write b.state bytes ≡ t
        → IsSound (writes_value h b bytes (cond t (Some (value_target b)) None))
    go true e =
        let both = and_parts (eqb b.state.end 0) (leb bytes MOST) e in
        by-part both.0 both.1 w.part
    go false e = s

-- ---- copies are written

pub go-grows : (save number : ℕ) (xs : List Item) → GoOn save number xs
    → number ≤ last_number number xs
go-grows save number [] all = omega arith
go-grows save number (x ∷ xs) all =
    let more = go-grows x.save x.number xs all.1 in
    let first = all.0.more in
    omega (arith, more, first)

-- A rewrite's copies go together behind its value.
pub record CopiesFit (b : Beside) : Type 0 where
  pub tied : IsTied b
  pub base : (all_read b.value b.copies).last.base ≡ b.value.seal
  pub together : GoesTogether (all_read b.value b.copies)
  pub value : b.value.seal ≤ (all_read b.value b.copies).last.seal

-- what a rewrite that is ready knows of its copies, and of more copies
pub record Ahead (h : Folder) (s : IsSound h) (b : Beside) (es : List Item) : Type 0 where
  pub fit : CopiesFit b
  pub copies : Copied (all_read b.value b.copies) h.fresh es (new_copies h b es)

pub ahead-of : (h : Folder) (s : IsSound h) (b : Beside) (es : List Item) (r : Reached)
    → IsReady (view_of h).beside (record b { rest = [] }) r
    → r.seal < h.fresh
    → GoOn r.save r.number es
    → Ahead h s b es
ahead-of h s b es r ready below on = record {
  fit = record {
    tied = record {
      end = ready.tied.end;
      seal = ready.tied.seal;
      base = ready.tied.base;
      large = ready.tied.large;
    };
    base = base;
    together = together;
    value =
        let grows = tail-seal (put (head_of b.value) c) (first_read b.value) b.copies
        body.begins.chain in
        omega (arith, grows);
  };
  copies =
      subst (λ (seal : ℕ). Copied R h.fresh es (copies_of b.value.seal seal h.fresh es))
      (sym ready.tied.seal)
      (subst (λ (base : ℕ). Copied R h.fresh es (copies_of base R.last.seal h.fresh es)) base
      (copied R h.fresh es together (subst (λ (n : ℕ). n < h.fresh) ready.seal below)
      (subst (λ (n : ℕ). GoOn R.last.save n es) ready.number
      (subst (λ (n : ℕ). GoOn n r.number es) ready.save on))));
}
  where
    R : Reading
    R = all_read b.value b.copies

    c : Content
    c = image (λ i k. disk.Lost) (view_of h).beside

    body : IsBody c b.value b.copies
    body = ready.body (λ i k. disk.Lost)

    base : R.last.base ≡ b.value.seal
    base =
        tail-base (put (head_of b.value) c) (first_read b.value) b.copies body.begins.chain
        ∙ body.begins.own

    together : GoesTogether R
    together = begins-together (put (head_of b.value) c) b.value b.copies body.begins

-- items that go on behind a rewrite's copies
pub record GoBehind (z : View) (s : Sound z) (b : Beside) (xs : List Item) : Type 0 where
  pub fit : CopiesFit b
  pub next : AreNext (all_read b.value b.copies) xs
  pub seal : (tail (all_read b.value b.copies) xs).last.seal < z.fresh
  pub last : (tail (all_read b.value b.copies) xs).last.number ≤ (last_read s).last.number + 1

-- what brings such items
unfoldable pub items-bring : (z : View) (s : Sound z) (b : Beside) (g : File) (xs : List Item)
    → GoBehind z s b xs
    → ((f : Fates) → Makes (all_written xs b.state.end) (image f z.beside) (image f g))
    → ((f : Fates) (n : ℕ) (x : Item) → image f z.beside 0 ≡ Of x n → x.base ≢ b.value.seal)
    → BringsBody z s g b.value.seal
items-bring z s b g xs behind makes headless = record {
  write = all_written xs b.state.end;
  back = λ f. f;
  makes = makes;
  good = λ k n x e.
      let known = written-known R xs b.state.end k fit.together.number behind.next e in
      let base = known.1 in
      let own = fit.base in
      let first = fit.value in
      let last = behind.seal in
      let number = behind.last in
      let seal = known.2.seal in
      let low = known.2.number in
      let newer = next-seal R xs behind.next in
      let kind = known.0 in
      record {
        seal = omega (arith, seal, last);
        base = omega (arith, base, own, first, last, newer);
        entry = λ e. omega (arith, low, number);
        mark = λ e. absurd (not-mark (sym kind ∙ e));
      };
  whose = λ k n x e.
      (written-known R xs b.state.end k fit.together.number behind.next e).1 ∙ fit.base;
  headless = λ f n x e.
      headless f n x
      (sym
      ((makes f 0).outside
      (outside-below (all_written xs b.state.end) 0 some))
      ∙ e);
}
  where
    R : Reading
    R = all_read b.value b.copies

    fit : CopiesFit b
    fit = behind.fit

    not-mark : Entry ≡ disk.Mark → ⊥
    not-mark e = cc

    some : 0 < b.state.end
    some =
        let large = fit.tied.large in
        let end = fit.tied.end in
        let above = tail-end (first_read b.value) b.copies in
        omega (arith, large, end, above)

copies-news : (h : Folder) (s : IsSound h) (b : Beside) (count : ℕ)
    → (w : Works (view_of h) s.all.holds.sound h.slots.counts b)
    → IsReady (view_of h).beside (record b { rest = [] }) w.reached
    → may_copy b.state (b.state.from_end + size_of (take count b.rest)) ≡ true
    → News h s
    (record b {
      doing = WritesCopies;
      write = all_written (new_copies h b (take count b.rest)) b.state.end;
      to = other b.state.from;
      rest = drop count b.rest;
      next = new_copies h b (take count b.rest);
      next_of = take count b.rest;
    })
unfolding sound-fresh
copies-news h s b count w ready fits = record {
  file = g;
  fresh = fresh;
  older = omega arith;
  seal = b.value.seal;
  brings =
      items-bring (record z { fresh = fresh }) (sound-fresh z k0 fresh (omega arith)) b g xs
      (record { fit = a.fit; next = C.next; seal = C.below; last = number_low })
      makes
      (λ f n x e. (ready.body f).headless n x e);
  from = w.from;
  reached = record {
    save = T.last.save;
    number = T.last.number;
    from = b.state.from_end + size_of es;
    seal = T.last.seal;
  };
  leads = record {
    on =
        subst (λ (n : ℕ). GoOn n T.last.number (drop count b.rest)) (sym save)
        (subst (λ (n : ℕ). GoOn (last_save w.reached.save es) n (drop count b.rest)) (sym number)
        p.rest_on);
    save =
        ap (λ (n : ℕ). last_save n (drop count b.rest)) save ∙ p.save_is ∙ w.leads.save;
    last =
        ap (λ (n : ℕ). last_number n (drop count b.rest)) number ∙ p.number_is ∙ w.leads.last;
    size =
        let whole = w.leads.size in
        let sum = p.size in
        let from = ready.from in
        omega (arith, whole, sum, from);
  };
  below = C.below;
  part =
      AtCopies
      (record {
        doing = refl;
        tied = record {
          end = tied.end;
          seal = tied.seal;
          base = tied.base;
          large = tied.large;
        };
        fits = fits;
        to = ap other w.from;
        write = ap (all_written xs) tied.end;
        next = C.next;
        soon = λ f.
            body-more xs (image f g) (ready.body f) tied.large C.next
            (subst (λ (n : ℕ). Makes (all_written xs n) (image f z.beside) (image f g)) tied.end
            (makes f));
        size = copies-size b.value.seal b.state.seal h.fresh es;
        save = ap (λ (x : Reading). x.last.save) (sym both);
        number = ap (λ (x : Reading). x.last.number) (sym both);
        from = refl;
        seal = ap (λ (x : Reading). x.last.seal) (sym both);
        last =
            ap (λ (n : ℕ). last_seal n xs) tied.seal
            ∙ sym C.seal
            ∙ ap (λ (x : Reading). x.last.seal) (sym both);
      });
}
  where
    z : View
    z = view_of h

    k0 : Sound z
    k0 = s.all.holds.sound

    es : List Item
    es = take count b.rest

    xs : List Item
    xs = new_copies h b es

    fresh : ℕ
    fresh = h.fresh + length es

    g : File
    g = with_write z.beside (all_written xs b.state.end)

    R : Reading
    R = all_read b.value b.copies

    T : Reading
    T = tail R xs

    r : Reached
    r = w.reached

    p : Parts r.save r.number es (drop count b.rest) b.rest
    p = parts count r.save r.number b.rest w.leads.on

    a : Ahead h s b es
    a = ahead-of h s b es r ready w.below p.first_on

    C : Copied R h.fresh es xs
    C = a.copies

    tied : IsTied b
    tied = a.fit.tied

    both : all_read b.value (b.copies ++ xs) ≡ T
    both = tail-both (first_read b.value) b.copies xs

    save : T.last.save ≡ last_save r.save es
    save = C.save ∙ ap (λ (n : ℕ). last_save n es) (sym ready.save)

    number : T.last.number ≡ last_number r.number es
    number = C.number ∙ ap (λ (n : ℕ). last_number n es) (sym ready.number)

    number_low : T.last.number ≤ (last_read k0).last.number + 1
    number_low =
        let grows = go-grows (last_save r.save es) (last_number r.number es) (drop count b.rest)
        p.rest_on in
        let last = w.leads.last in
        let same = p.number_is in
        omega (arith, grows, last, same, number)

    makes : (f : Fates) → Makes (all_written xs b.state.end) (image f z.beside) (image f g)
    makes f = image-makes f z.beside.synced (all_written xs b.state.end) z.beside.writes

pub copies-sound : (h : Folder) (s : IsSound h) (b : Beside) (count : ℕ) → h.beside ≡ Some b
    → rests b.doing ≡ true
    → IsSound
    (writes_copies h b (take count b.rest) (drop count b.rest)
    (copying b.state (b.state.from_end + size_of (take count b.rest))))
unfolding copies-news
copies-sound h s b count is rest = go (may_copy b.state end) refl
  where
    end : ℕ
    end = b.state.from_end + size_of (take count b.rest)

    place : Copying
    place = record {
      length = end - b.state.from_end;
      from = b.state.from_end;
      to = b.state.end;
      from_slot = b.state.from;
      to_slot = other b.state.from;
    }

    w : Works (view_of h) s.all.holds.sound h.slots.counts b
    w = s.all.works b is

    new : Beside
    new =
        record b {
          doing = WritesCopies;
          write = all_written (new_copies h b (take count b.rest)) b.state.end;
          to = other b.state.from;
          rest = drop count b.rest;
          next = new_copies h b (take count b.rest);
          next_of = take count b.rest;
        }

    P : Type 0
    P = IsSound (writes_copies h b (take count b.rest) (drop count b.rest) (Some place))

    by-part : (may_copy b.state end ≡ true)
        → Part (view_of h).beside h.slots.counts (record b { rest = [] }) w.reached
        → P
    by-part fits (AtStart started) =
        let some =
        eqb-false b.state.end 0
        (not-true (eqb b.state.end 0) (and_parts _ _ (and_parts _ _ fits).0).0) in
        absurd (some started.end)
    by-part fits (AtRest ready) =
        let n = copies-news h s b count w ready fits in
        let there = ap other w.from in
        subst
        (λ (f : File). IsSound
        (with_news h place.to_slot f new (h.fresh + length (take count b.rest))))
        (ap
        (λ (i : ℕ).
        with_write (h.files i) (all_written (new_copies h b (take count b.rest)) b.state.end))
        (sym there))
        (news-sound h s b new is n place.to_slot there)
    by-part fits (AtValue v) = absurd ((resting b rest v.length).0 v.doing)
    by-part fits (AtCopies c) = absurd ((resting b rest 0).1 c.doing)

    go : (t : Bool) → may_copy b.state end ≡ t
        → IsSound
        (writes_copies h b (take count b.rest) (drop count b.rest) (cond t (Some place) None))
    go true e = by-part e w.part
    go false e = s
