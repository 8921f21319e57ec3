-- What a crash may have left, once one more moment has passed.
use Rattle.std.proofs.Common.{◌≡◌, inl, inr, ⊎_elim, ℕ, ◌+◌, refl, subst, sym, arith}
use Rattle.disk.specs.Areas.{Areas}
use Rattle.disk.specs.Crashes.{Elapses}
use Rattle.disk.specs.Record.{leaves, moments, left_since, HasPassed, IsThen}
use Rattle.disk.specs.declared.state.State.{State}
use Rattle.disk.proofs.Torn.{Alike, alike_leaves}
use Rattle.disk.specs.declared.state.Past.{Past, Start, Then'}

-- Whatever the state is then: the past is one longer, by the state from before.
pub elapses_then : (past later : Past) (s s' : State) → IsThen past s later →
    Elapses (moments past) (moments later) (left_since past s) (left_since later s') (leaves s')
elapses_then past Start s s' is = absurd is
elapses_then past (Then' m before state) s s' is =
    let since : ℕ → Areas → Type 0 = left_since (Then' m before state) s' in
    let P : Past → State → Type 0 =
    λ p x. Elapses (moments p) (moments before + 1) (left_since p x) since (leaves s') in
    subst (λ p. P p s) is.0 (subst (P before) is.1 (record {
      later = omega arith;
      nothing_else = λ t c le l. ⊎_elim
          (λ over. inl (⊎_elim (λ earlier. inl earlier) (λ last. inr last.1) over))
          (λ now. inr now) l;
      keeps = λ t c le l. inl (⊎_elim (λ over. inl over) (λ now. inr (le, now)) l);
    }))

-- the same if the past has another name
pub elapses_by : (past mid later : Past) (s s' : State) → HasPassed past s mid → later ≡ mid →
    Elapses (moments past) (moments later) (left_since past s) (left_since later s') (leaves s')
elapses_by past mid later s s' passed same =
    let P : Past → Type 0 = λ p.
    Elapses (moments past) (moments p) (left_since past s) (left_since p s') (leaves s') in
    subst P (sym same) (passed s')

-- the same from a state that says the same
pub elapses_from : (past later : Past) (s s' : State) (since : ℕ → Areas → Type 0)
    (may_leave : Areas → Type 0) → Alike s s' →
    Elapses (moments past) (moments later) (left_since past s') since may_leave →
    Elapses (moments past) (moments later) (left_since past s) since may_leave
elapses_from past later s s' since may_leave alike time = record {
  later = time.later;
  nothing_else = λ t c le l. ⊎_elim
      (λ was. inl (⊎_elim (λ earlier. inl earlier)
      (λ now. inr ((alike_leaves s s' alike c).0 now)) was))
      (λ now. inr now) (time.nothing_else t c le l);
  keeps = λ t c le l. time.keeps t c le (⊎_elim (λ earlier. inl earlier)
      (λ now. inr ((alike_leaves s s' alike c).1 now)) l);
}

-- no moment passes, and the state stays the same
pub elapses_same : (past later : Past) (s s' : State) → later ≡ past → s' ≡ s →
    Elapses (moments past) (moments later) (left_since past s) (left_since later s') (leaves s')
elapses_same past later s s' same stays =
    let P : Past → State → Type 0 = λ p x.
    Elapses (moments past) (moments p) (left_since past s) (left_since p x) (leaves x) in
    subst (λ p. P p s') (sym same) (subst (P past) (sym stays) (record {
      later = omega arith;
      nothing_else = λ t c le l. inl l;
      keeps = λ t c le l. l;
    }))

-- no moment passes, and the state says the same
pub elapses_alike : (past later : Past) (s s' : State) → later ≡ past → Alike s s' →
    Elapses (moments past) (moments later) (left_since past s) (left_since later s') (leaves s')
elapses_alike past later s s' same alike =
    elapses_from past later s s' (left_since later s') (leaves s') alike
    (elapses_same past later s' s' same refl)
