-- The timer runs since the window was sent from its begin, for a whole pause.
use Rattle.std.proofs.Common.{◌≡◌, ℕ, ◌<◌, ◌≤◌, ◌==◌, ◌&&◌, not, Bool, true, false, cond, nat_le, nat_lt, List, [], ◌∷◌, min, max, ⊎_elim, ap, sym, subst, refl, ◌∙◌, arith, le_refl}
use Rattle.std.proofs.lemmas.Bool.{cases_lt, cond-true, cond-false, cond_both, eq-eqb, leb-true, leb-false, le-leb, le-ltb, lt-leb, lt-ltb, ne_eqb}
use Rattle.sending.specs.declared.TheConstants.{FIRST_PAUSE, LONGEST_PAUSE}
use Rattle.sending.specs.declared.Sending.{Sending}
use Rattle.sending.specs.declared.Turn.{Turn}
use Rattle.sending.specs.Rules.{arrived, doubled, gone, is_over, kept, later, runs_out, started, stopped, timed, told_by, turned}
use Rattle.sending.specs.Runs.{Way, begins_after, first_or, moves, waits}
use Rattle.sending.specs.Laws.{AreApart, over_at, pause_after}
use Rattle.sending.proofs.Window.{told-any}

-- the pause that runs
abbrev pub pause_of : List ℕ → ℕ
pause_of [] = FIRST_PAUSE
pause_of (b ∷ begins) = pause_after begins

pub record Timer (again_at pause : ℕ) (begins : List ℕ) : Type 0 where
  pub at : again_at ≡ over_at begins
  pub lasts : pause ≡ pause_of begins
  pub apart : AreApart begins

abbrev pub IsTimer : Sending → List ℕ → Type 0
IsTimer s begins = Timer s.again_at s.pause begins

pub pause-least : (begins : List ℕ) → FIRST_PAUSE ≤ pause_after begins
pause-least [] = le_refl _
pause-least (b ∷ begins) = let more = pause-least begins in omega (arith, more)

pub pause-most : (begins : List ℕ) → pause_after begins ≤ LONGEST_PAUSE
pause-most [] = omega arith
pause-most (b ∷ begins) = omega arith

pub over-some : (b : ℕ) (begins : List ℕ) → 0 < over_at (b ∷ begins)
over-some b begins = let least = pause-least begins in omega (arith, least)

pub stopped-timer : (s : Sending) → IsTimer (stopped s) []
stopped-timer s = record { at = refl; lasts = refl; apart = tt }

-- ---- tests

lt-not-le : (a b : ℕ) → nat_lt a b ≡ not (nat_le b a)
lt-not-le a b =
    ⊎_elim {C = nat_lt a b ≡ not (nat_le b a)}
    (λ less. lt-ltb a b less ∙ sym (ap not (lt-leb b a less)))
    (λ most. le-ltb a b most ∙ sym (ap not (le-leb b a most)))
    (cases_lt a b)

-- ---- the timer

again-none : (s : Sending) → IsTimer s [] → s.again_at == 0 ≡ true
again-none s is = eq-eqb s.again_at 0 is.at

again-some : (s : Sending) (b : ℕ) (begins : List ℕ) → IsTimer s (b ∷ begins)
    → s.again_at == 0 ≡ false
again-some s b begins is =
    let some = over-some b begins in
    let at = is.at in
    ne_eqb s.again_at 0 (λ (none : s.again_at ≡ 0). absurd (omega (arith, none, some, at)))

-- after a turn that finds messages
waiting-timer : (s : Sending) (begins : List ℕ) (now : ℕ) → IsTimer s begins
    → IsTimer
    (cond (runs_out s now) (started now (record (gone s) { pause = doubled s.pause }))
    (cond (s.again_at == 0) (started now s) s))
    (cond (runs_out s now) (now ∷ begins) (first_or now begins))
waiting-timer s [] now is =
    let none = again-none s is in
    let still : runs_out s now ≡ false =
    ap (λ (b : Bool). not b && nat_le s.again_at now) none in
    subst (λ (b : Bool). IsTimer
    (cond b (started now (record (gone s) { pause = doubled s.pause }))
    (cond (s.again_at == 0) (started now s) s)) (cond b (now ∷ []) (now ∷ [])))
    (sym still)
    (subst (λ (b : Bool). IsTimer (cond b (started now s) s) (now ∷ [])) (sym none)
    (record { at = ap (later now) is.lasts; lasts = is.lasts; apart = tt }))
waiting-timer s (b ∷ begins) now is =
    let some = again-some s b begins is in
    subst (λ (x : Bool). IsTimer
    (cond (not x && nat_le s.again_at now)
    (started now (record (gone s) { pause = doubled s.pause })) (cond x (started now s) s))
    (cond (not x && nat_le s.again_at now) (now ∷ b ∷ begins) (b ∷ begins)))
    (sym some)
    (by (nat_le s.again_at now) refl)
  where
    by : (over : Bool) → nat_le s.again_at now ≡ over
        → IsTimer (cond over (started now (record (gone s) { pause = doubled s.pause })) s)
        (cond over (now ∷ b ∷ begins) (b ∷ begins))
    by true over = record {
      at = ap (λ (p : ℕ). later now (doubled p)) is.lasts;
      lasts = ap doubled is.lasts;
      apart =
          let past = leb-true s.again_at now over in
          let at = is.at in
          (omega (arith, past, at), is.apart);
    }
    by false over = is

timed-timer : (s : Sending) (begins : List ℕ) (now released : ℕ) → IsTimer s begins
    → IsTimer (timed s now released)
    (cond (nat_le released s.acknowledged) []
    (cond (is_over s now released) (now ∷ begins) (first_or now begins)))
timed-timer s begins now released is = by (nat_le released s.acknowledged)
  where
    by : (none : Bool)
        → IsTimer
        (cond none (stopped s)
        (cond (runs_out s now) (started now (record (gone s) { pause = doubled s.pause }))
        (cond (s.again_at == 0) (started now s) s)))
        (cond none []
        (cond (not none && runs_out s now) (now ∷ begins) (first_or now begins)))
    by true = stopped-timer s
    by false = waiting-timer s begins now is

-- ---- a turn

lists-still : (waits moves none : Bool) (first rest : List ℕ) → moves ≡ false
    → waits ≡ not none → cond waits (cond moves first rest) [] ≡ cond none [] rest
lists-still waits moves true first rest still is =
    cond-false waits (cond moves first rest) [] is
lists-still waits moves false first rest still is =
    cond-true waits (cond moves first rest) [] is ∙ cond-false moves first rest still

lists-moved : (waits moves none over : Bool) (first rest : List ℕ) → moves ≡ true
    → waits ≡ not none
    → cond waits (cond moves first rest) [] ≡ cond none [] (cond over first first)
lists-moved waits moves true over first rest moved is =
    cond-false waits (cond moves first rest) [] is
lists-moved waits moves false true first rest moved is =
    cond-true waits (cond moves first rest) [] is ∙ cond-true moves first rest moved
lists-moved waits moves false false first rest moved is =
    cond-true waits (cond moves first rest) [] is ∙ cond-true moves first rest moved

module _ (w : Way) (t : Turn) (is : IsTimer w.sending w.begins) where
  -- the times, if `x` is known after what is known of messages and saves
  abbrev times : Sending → List ℕ
  times x =
      cond (waits w t)
      (cond (moves w t) (t.now ∷ [])
      (cond (is_over x t.now t.released) (t.now ∷ w.begins) (first_or t.now w.begins)))
      []

  abbrev At : Sending → Type 0
  At x = IsTimer (timed x t.now t.released) (times x)

  still : t.acknowledged ≤ w.sending.acknowledged → (x d : ℕ)
      → At (record w.sending { tell_at = x; due = d })
  still few x d =
      let s : Sending = record w.sending { tell_at = x; due = d } in
      let most : max s.acknowledged t.acknowledged ≡ s.acknowledged = omega (arith, few) in
      subst (IsTimer (timed s t.now t.released))
      (sym (lists-still (waits w t) (moves w t) (nat_le t.released s.acknowledged) (t.now ∷ [])
      (cond (is_over s t.now t.released) (t.now ∷ w.begins) (first_or t.now w.begins))
      (le-ltb s.acknowledged t.acknowledged few)
      (ap (λ (k : ℕ). nat_lt k t.released) most ∙ lt-not-le s.acknowledged t.released)))
      (timed-timer s w.begins t.now t.released is)

  moved : w.sending.acknowledged < t.acknowledged → (k x d : ℕ)
      → At (record (arrived k t.acknowledged w.sending) { tell_at = x; due = d })
  moved more k x d =
      let s : Sending = record (arrived k t.acknowledged w.sending) { tell_at = x; due = d } in
      let most : max w.sending.acknowledged t.acknowledged ≡ t.acknowledged =
      omega (arith, more) in
      subst (IsTimer (timed s t.now t.released))
      (sym (lists-moved (waits w t) (moves w t) (nat_le t.released t.acknowledged)
      (is_over s t.now t.released) (t.now ∷ [])
      (cond (is_over s t.now t.released) (t.now ∷ w.begins) (first_or t.now w.begins))
      (lt-ltb w.sending.acknowledged t.acknowledged more)
      (ap (λ (k : ℕ). nat_lt k t.released) most ∙ lt-not-le t.acknowledged t.released)))
      (timed-timer s [] t.now t.released (record { at = refl; lasts = refl; apart = tt }))

  pub turned-timer : IsTimer (turned w.sending t) (begins_after w t)
  turned-timer =
      cond_both (nat_le t.acknowledged w.sending.acknowledged) w.sending
      (arrived (kept w.sending (min t.acknowledged w.sending.sent)) t.acknowledged w.sending)
      (λ (a : Sending). At (told_by a t.now t.stored))
      (λ few. told-any At w.sending t.now t.stored
      (still (leb-true t.acknowledged w.sending.acknowledged few)))
      (λ more. told-any At
      (arrived (kept w.sending (min t.acknowledged w.sending.sent)) t.acknowledged w.sending)
      t.now t.stored
      (moved (leb-false t.acknowledged w.sending.acknowledged more)
      (kept w.sending (min t.acknowledged w.sending.sent))))
