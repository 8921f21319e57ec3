-- Runs of calls of a disk, one call after another.
use Rattle.std.proofs.Common.{◌≡◌, Bool, length, List, Some, inl, inr, ⊎_elim, ℕ, arith, subst}
use Rattle.std.proofs.Common.{sym}
use Rattle.disk.specs.Areas.{Areas, Changes, IsBlank, Torn, part}
use Rattle.disk.specs.Crashes.{Elapses, Follows, LeavesOnly, Only}
use Rattle.disk.specs.declared.device.Area.{Area}
use Rattle.disk.proofs.Torn.{torn_same, unchanged}

module _ {D : Type 0} {moment : D → ℕ} {left_since : D → ℕ → Areas → Type 0} where
  -- before the first call
  pub started : {old : D} {P : Areas → Type 0} →
      ((c : Areas) → left_since old (moment old) c → P c) → LeavesOnly moment left_since old old P
  started here = record {
    later = omega arith;
    each = here;
    before = λ t c le left. inl left;
  }

  -- one more call, after which a crash leaves only areas that satisfy P
  pub goes_on : {old mid new : D} {P may_leave : Areas → Type 0} →
      LeavesOnly moment left_since old mid P →
      Elapses (moment mid) (moment new) (left_since mid) (left_since new) may_leave →
      ((c : Areas) → may_leave c → P c) → LeavesOnly moment left_since old new P
  goes_on {old} so_far time here = record {
    later = omega (arith, so_far.later, time.later);
    each = λ c left.
        ⊎_elim (so_far.each c) (here c) (time.nothing_else (moment old) c so_far.later left);
    before = λ t c le left. ⊎_elim (so_far.before t c le) (λ now. inr (here c now))
        (time.nothing_else t c (omega (arith, le, so_far.later)) left);
  }

  -- an area is written, when before a crash left what a read gives
  pub wrote : {old new : D} {before after : Areas → Type 0} (s : Areas) (area : Area) (at n : ℕ) →
      Only s before → ((c : Areas) → left_since old (moment old) c → before c) →
      Follows (Changes area (Torn at n)) before after →
      Elapses (moment old) (moment new) (left_since old) (left_since new) after →
      LeavesOnly moment left_since old new (Changes area (Torn at n) s)
  wrote s area at n only here follows time =
      let P : Areas → Type 0 = λ c. Changes area (Torn at n) s c in
      let nothing : P s = unchanged area (Torn at n) s (torn_same at n (part area s)) in
      goes_on (started (λ c left. subst P (sym (only c (here c left))) nothing)) time
      (λ c left.
      let from = follows c left in
      subst (λ (x : Areas). Changes area (Torn at n) x c) (only from.0 from.1) from.2)

  -- what satisfies P satisfies Q
  pub weaker : {old new : D} {P Q : Areas → Type 0} → LeavesOnly moment left_since old new P →
      ((c : Areas) → P c → Q c) → LeavesOnly moment left_since old new Q
  weaker run more = record {
    later = run.later;
    each = λ c left. more c (run.each c left);
    before = λ t c le left.
        ⊎_elim (λ past. inl past) (λ p. inr (more c p)) (run.before t c le left);
  }

  -- one run after another
  pub joined : {old mid new : D} {P : Areas → Type 0} → LeavesOnly moment left_since old mid P →
      LeavesOnly moment left_since mid new P → LeavesOnly moment left_since old new P
  joined {old} first second = record {
    later = omega (arith, first.later, second.later);
    each = λ c left.
        ⊎_elim (first.each c) (λ p. p) (second.before (moment old) c first.later left);
    before = λ t c le left. ⊎_elim (λ past. first.before t c le past) (λ p. inr p)
        (second.before t c (omega (arith, le, first.later)) left);
  }
