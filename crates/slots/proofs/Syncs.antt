-- What a rewrite has written is synced, and it ends with an entry.
use Rattle.std.proofs.Common.{◌≡◌, ◌≤◌, ◌+◌, ◌-◌, ℕ, Bool, cond, List, [], ◌++◌, Some, refl, sym, ap, ◌∙◌, subst, arith, eqb, leb}
use Rattle.std.proofs.lemmas.Bool.{and_from, eq-eqb}
use Rattle.slots.specs.declared.saving.TheConstants.{MOST}
use Rattle.slots.specs.declared.rewrite.Rewrite.{Rewrite}
use Rattle.slots.specs.Decisions.{value_size}
use Rattle.slots.specs.Beside.{all_written, head_of, last_seal, size_of, without_head}
use Rattle.slots.specs.Disk.{first_read, image, put, synced_after, with_write, Cell, Content, Entry, Fates, File, Item, Of, Other, Reading, Value, Write}
use Rattle.slots.specs.Disk as disk
use Rattle.slots.specs.Runs.{done_by, rests, settles, with_file, Beside, Doing, Folder, Rests, WritesCopies, WritesValue}
use Rattle.slots.proofs.Body.{value-of-bytes, IsBody}
use Rattle.slots.proofs.Copies.{chain-first, next-seal, tail-both, tail-size, written-known}
use Rattle.slots.proofs.Disk.{put-makes}
use Rattle.slots.proofs.Reading.{all_read, tail, tail-base, tail-seal, together, together-first, Chain}
use Rattle.slots.proofs.Saves.{sound-fresh}
use Rattle.slots.proofs.Sound.{last_read, view_of, AtCopies, AtRest, AtStart, AtValue, Good, IsCopying, IsSound, IsValue, Part, View, Works}
use Rattle.slots.proofs.Rewrites.{go-grows, news-sound, value-not-entry, value-not-mark, with_news, News}

-- ---- what was written is synced

value-synced : (h : Folder) (s : IsSound h) (b : Beside) (fates : Fates)
    → (works : Works (view_of h) s.all.holds.sound h.slots.counts b)
    → (v : IsValue (view_of h).beside h.slots.counts (record b { rest = [] }) works.reached)
    → News h s
    (record b {
      state = record (b.state) {
        base = b.value.seal;
        seal = b.value.seal;
        length = v.length;
        end = value_size v.length;
      };
      doing = Rests;
    })
unfolding sound-fresh
value-synced h s b fates works v = record {
  file = synced_after w fates z.beside;
  fresh = h.fresh;
  older = omega arith;
  seal = b.value.seal;
  brings = record {
    write = w;
    back = λ f. fates;
    makes = λ f. put-makes w (image fates z.beside);
    good = λ k n x e. subst (Good number h.fresh) (value-of-bytes b.value k n x e) good;
    whose = λ k n x e.
        ap (λ (i : Item). i.base) (sym (value-of-bytes b.value k n x e)) ∙ v.own;
    headless = λ f n x e. (v.soon fates).headless n x e;
  };
  from = works.from;
  reached = works.reached;
  leads = works.leads;
  below = works.below;
  part =
      AtRest
      (record {
        rests = refl;
        tied = record {
          end = sym v.size ∙ ap (λ (ys : List Item). (all_read b.value ys).end) (sym v.none);
          seal = ap (λ (ys : List Item). (all_read b.value ys).last.seal) (sym v.none);
          base = refl;
          large =
              let size = v.size in
              omega (arith, size);
        };
        body = λ f.
            subst (IsBody (put w (image fates z.beside)) b.value) (sym v.none) (v.soon fates);
        save =
            v.save ∙ ap (λ (ys : List Item). (all_read b.value ys).last.save) (sym v.none);
        number =
            v.number ∙ ap (λ (ys : List Item). (all_read b.value ys).last.number) (sym v.none);
        from = v.from;
        seal =
            v.seal ∙ ap (λ (ys : List Item). (all_read b.value ys).last.seal) (sym v.none);
      });
}
  where
    z : View
    z = view_of h

    number : ℕ
    number = (last_read s.all.holds.sound).last.number

    w : Write
    w = without_head b.value

    good : Good number h.fresh b.value
    good =
        let below = works.below in
        let seal = v.seal in
        let own = v.own in
        let kind = v.kind in
        record {
          seal = omega (arith, below, seal);
          base = omega (arith, below, seal, own);
          entry = λ e. absurd (value-not-entry (sym kind ∙ e));
          mark = λ e. absurd (value-not-mark (sym kind ∙ e));
        }

copies-synced : (h : Folder) (s : IsSound h) (b : Beside) (fates : Fates)
    → (works : Works (view_of h) s.all.holds.sound h.slots.counts b)
    → IsCopying (view_of h).beside h.slots.counts (record b { rest = [] }) works.reached
    → News h s
    (record b {
      state = record (b.state) {
        from_end = b.state.from_end + size_of b.next_of;
        from_seal = last_seal b.state.from_seal b.next_of;
        seal = last_seal b.state.seal b.next;
        end = b.state.end
            + (b.state.from_end + size_of b.next_of - b.state.from_end);
      };
      copies = b.copies ++ b.next;
      doing = Rests;
    })
unfolding sound-fresh
copies-synced h s b fates works c = record {
  file = synced_after w fates z.beside;
  fresh = h.fresh;
  older = omega arith;
  seal = b.value.seal;
  brings = record {
    write = w;
    back = λ f. fates;
    makes = λ f. put-makes w (image fates z.beside);
    good = λ k n x e.
        let known = written-known R b.next R.end k number c.next e in
        let base = known.1 in
        let last = works.below in
        let seal = known.2.seal in
        let low = known.2.number in
        let kind = known.0 in
        let newer = next-seal R b.next c.next in
        let first = tail-seal (put (head_of b.value) d0) (first_read b.value) b.copies chain in
        let same = c.seal in
        let both = ap (λ (x : Reading). x.last.seal) all in
        let numbers = ap (λ (x : Reading). x.last.number) all in
        let reached = c.number in
        let own = base_own in
        record {
          seal = omega (arith, seal, last, same, both);
          base = omega (arith, base, own, first, newer, last, same, both);
          entry = λ e. omega (arith, low, numbers, reached, number_low);
          mark = λ e. absurd (not-mark (sym kind ∙ e));
        };
    whose = λ k n x e.
        (written-known R b.next R.end k number c.next e).1 ∙ base_own;
    headless = λ f n x e. (c.soon fates).headless n x e;
  };
  from = works.from;
  reached = works.reached;
  leads = works.leads;
  below = works.below;
  part =
      AtRest
      (record {
        rests = refl;
        tied = record {
          end =
              let size = c.size in
              let more = tail-size R b.next in
              let end = c.tied.end in
              let both = ap (λ (x : Reading). x.end) all in
              omega (arith, size, more, end, both);
          seal = c.last;
          base = c.tied.base;
          large = c.tied.large;
        };
        body = λ f. c.soon fates;
        save = c.save;
        number = c.number;
        from = c.from;
        seal = c.seal;
      });
}
  where
    not-mark : Entry ≡ disk.Mark → ⊥
    not-mark e = cc

    z : View
    z = view_of h

    R : Reading
    R = all_read b.value b.copies

    w : Write
    w = all_written b.next R.end

    d0 : Content
    d0 = put w (image fates z.beside)

    body : IsBody d0 b.value (b.copies ++ b.next)
    body = c.soon fates

    all : all_read b.value (b.copies ++ b.next) ≡ tail R b.next
    all = tail-both (first_read b.value) b.copies b.next

    chain : Chain (put (head_of b.value) d0) (first_read b.value) b.copies
    chain =
        chain-first (put (head_of b.value) d0) (first_read b.value) b.copies b.next
        body.begins.chain

    base_own : R.last.base ≡ b.value.seal
    base_own =
        tail-base (put (head_of b.value) d0) (first_read b.value) b.copies chain ∙ body.begins.own

    number : R.found.number ≡ R.last.number
    number =
        (together (put (head_of b.value) d0) (first_read b.value) b.copies
        (together-first b.value) chain).number

    number_low : works.reached.number ≤ (last_read s.all.holds.sound).last.number + 1
    number_low =
        let grows = go-grows works.reached.save works.reached.number b.rest works.leads.on in
        let last = works.leads.last in
        omega (arith, grows, last)

pub settle-sound : (h : Folder) (s : IsSound h) (b : Beside) (fates : Fates) → h.beside ≡ Some b
    → IsSound (cond (rests b.doing) h (settles h b fates))
unfolding value-synced copies-synced
settle-sound h s b fates is = by-part w.part
  where
    w : Works (view_of h) s.all.holds.sound h.slots.counts b
    w = s.all.works b is

    F : Doing → Folder
    F d =
        cond (rests d) h
        (record (with_file h b.to (synced_after b.write fates (h.files b.to))) {
          beside = Some (done_by b d);
        })

    of-value : (v : IsValue (view_of h).beside h.slots.counts (record b { rest = [] }) w.reached)
        → IsSound (F (WritesValue v.length))
    of-value v =
        let n = value-synced h s b fates w v in
        let fits = and_from (eqb b.state.end 0) (leb v.length MOST)
        (eq-eqb b.state.end 0 v.end) v.fits in
        subst
        (λ (t : Bool).
        IsSound
        (record (with_file h b.to (synced_after b.write fates (h.files b.to))) {
          beside = Some
              (record b {
                state = cond t
                    (record (b.state) {
                      base = b.value.seal;
                      seal = b.value.seal;
                      length = v.length;
                      end = value_size v.length;
                    })
                    b.state;
                doing = Rests;
              });
        }))
        (sym fits)
        (subst
        (λ (x : Write).
        IsSound
        (with_news h b.to (synced_after x fates (h.files b.to)) new h.fresh))
        (sym v.write)
        (subst
        (λ (i : ℕ).
        IsSound
        (with_news h b.to (synced_after (without_head b.value) fates (h.files i)) new
        h.fresh))
        (sym v.to) (news-sound h s b new is n b.to v.to)))
      where
        new : Beside
        new =
            record b {
              state = record (b.state) {
                base = b.value.seal;
                seal = b.value.seal;
                length = v.length;
                end = value_size v.length;
              };
              doing = Rests;
            }

    of-copies : (c : IsCopying (view_of h).beside h.slots.counts (record b { rest = [] }) w.reached)
        → IsSound (F WritesCopies)
    of-copies c =
        let n = copies-synced h s b fates w c in
        subst
        (λ (t : Bool).
        IsSound
        (record (with_file h b.to (synced_after b.write fates (h.files b.to))) {
          beside = Some
              (record b {
                state = cond t state b.state;
                copies = b.copies ++ b.next;
                doing = Rests;
              });
        }))
        (sym c.fits)
        (subst
        (λ (x : Write).
        IsSound (with_news h b.to (synced_after x fates (h.files b.to)) new h.fresh)) (sym c.write)
        (subst
        (λ (i : ℕ).
        IsSound
        (with_news h b.to
        (synced_after (all_written b.next (all_read b.value b.copies).end) fates (h.files i)) new
        h.fresh))
        (sym c.to) (news-sound h s b new is n b.to c.to)))
      where
        state : Rewrite
        state =
            record (b.state) {
              from_end = b.state.from_end + size_of b.next_of;
              from_seal = last_seal b.state.from_seal b.next_of;
              seal = last_seal b.state.seal b.next;
              end = b.state.end
                  + (b.state.from_end + size_of b.next_of - b.state.from_end);
            }

        new : Beside
        new = record b { state = state; copies = b.copies ++ b.next; doing = Rests }

    by-part : Part (view_of h).beside h.slots.counts (record b { rest = [] }) w.reached
        → IsSound (F b.doing)
    by-part (AtStart started) = subst (λ (d : Doing). IsSound (F d)) (sym started.rests) s
    by-part (AtRest ready) = subst (λ (d : Doing). IsSound (F d)) (sym ready.rests) s
    by-part (AtValue v) =
        subst (λ (d : Doing). IsSound (F d)) (sym v.doing) (of-value v)
    by-part (AtCopies c) = subst (λ (d : Doing). IsSound (F d)) (sym c.doing) (of-copies c)
