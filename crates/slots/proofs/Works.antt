-- What a save leaves of a rewrite that is under way.
use Rattle.std.proofs.Common.{◌≡◌, ◌≤◌, ℕ, false, List, [], ◌∷◌, ◌++◌, Option, Some, None, refl, sym, ◌∙◌, subst, arith}
use Rattle.slots.specs.Disk.{Fates, File, Item}
use Rattle.slots.specs.Runs.{with_rest, Beside}
use Rattle.slots.proofs.Copies.{go-more, last-number-more, last-save-more, size-more}
use Rattle.slots.proofs.Saves.{added-last, sound-added, with_added}
use Rattle.slots.proofs.Sound.{last_read, Adds, AnyWorks, LeadsTo, Sound, View, Works}

-- what a save that begins changes of a view
pub record Change : Type 0 where
  pub here : File
  pub number : ℕ
  pub fresh : ℕ
  pub begun : List ℕ

abbrev pub with_change : View → Change → View
with_change z c =
    record z { here = c.here; number = c.number; fresh = c.fresh; begun = c.begun }

pub works-keep : (z : View) (s : Sound z) (counts : ℕ) (b : Beside) (c : Change)
    → (t : Sound (with_change z c))
    → (z.fresh ≤ c.fresh) × ((last_read t).last.number ≡ (last_read s).last.number)
    × (t.bounds.long ≡ false)
    → Works z s counts b
    → Works (with_change z c) t counts b
works-keep z s counts b c t e w =
    let older = e.0 in
    let below = w.below in
    record {
      short = e.2;
      from = w.from;
      reached = w.reached;
      leads =
          subst (λ (n : ℕ). LeadsTo z.stored n z.end w.reached b.rest) (sym e.1) w.leads;
      below = omega (arith, older, below);
      part = w.part;
    }

works-one : (z : View) (s : Sound z) (x : Item) (a : Adds z s x) (fates : Fates) (counts : ℕ)
    → (b : Beside)
    → Works z s counts b
    → Works (with_added z x fates) (sound-added z s x a fates) counts
    (record b { rest = b.rest ++ x ∷ [] })
works-one z s x a fates counts b w =
    let last = added-last z s x a fates in
    let size = w.leads.size in
    let more = size-more b.rest x in
    let number = w.leads.last in
    let next = a.newer.number in
    record {
      short = last.1;
      from = w.from;
      reached = w.reached;
      leads = record {
        on =
            go-more w.reached.save w.reached.number b.rest x w.leads.on
            (record {
              kind = a.kind;
              since = a.newer.since ∙ sym s.stored ∙ sym w.leads.save;
              more = omega (arith, number, next);
              some = a.newer.some;
            });
        save = last-save-more w.reached.save b.rest x;
        last = last-number-more w.reached.number b.rest x ∙ sym last.0;
        size = omega (arith, size, more);
      };
      below = w.below;
      part = w.part;
    }

-- an entry that is stored is one more to be copied
pub works-stored : (z : View) (s : Sound z) (x : Item) (a : Adds z s x) (fates : Fates)
    → (counts : ℕ)
    → (o : Option Beside)
    → AnyWorks z s counts o
    → AnyWorks (with_added z x fates) (sound-added z s x a fates) counts (with_rest x o)
works-stored z s x a fates counts None all b e = absurd cc
works-stored z s x a fates counts (Some c) all b e =
    let same : record c { rest = c.rest ++ x ∷ [] } ≡ b = cc in
    subst (Works (with_added z x fates) (sound-added z s x a fates) counts) same
    (works-one z s x a fates counts c (all c refl))
