-- Refusals. An event is a list of tests and an effect. The tests are made in this order, each with
-- its refusal. The effect is total: it is defined even if tests fail.
use Rattle.std.specs.Prelude.{◌≡◌, ◌≢◌, Bool, true, false, cond, List, [], ◌∷◌, Result, Ok, Err, IsOk}
use Rattle.ids.specs.declared.refusal.Refusal.{Refusal}
use Rattle.ids.specs.declared.refusal.Refusal.TheVariants.{LinkSpent, Memory}

-- the value if every test passes, else the refusal of the first test that fails
abbrev pub guarded : {A : Type 0} → List (Bool × Refusal) → A → Result A Refusal
guarded [] x = Ok x
guarded (c ∷ cs) x = cond c.0 (guarded cs x) (Err c.1)

-- every test passes
abbrev pub AllPass : List (Bool × Refusal) → Type 0
AllPass [] = Unit {0}
AllPass (c ∷ cs) = (c.0 ≡ true) × AllPass cs

-- an answer, or the refusal `LinkSpent`: a link has no number left
abbrev pub IsOkOrSpent : {Y : Type 0} → Result Y Refusal → Type 0
IsOkOrSpent (Ok y) = Unit {0}
IsOkOrSpent (Err e) = e ≡ LinkSpent

-- The results that `Memory` may replace when allocation fails. An answer is one. A call that shades
-- finds its messages only while it appends them, so it may also replace `LinkSpent` for a later
-- one.
abbrev pub IsReplaced : {Y : Type 0} → Bool → Result Y Refusal → Type 0
IsReplaced false answer = IsOk answer
IsReplaced true answer = IsOkOrSpent answer

-- Why a call fails, and with which refusal: for the first test that fails, or, although every test
-- passes, because allocation failed. If the call shades, the test that its messages get numbers
-- needn't pass for the latter.
pub data IsFirstRefusal {Y : Type 0} (shading : Bool) (e : Refusal)
    (answer : Result Y Refusal) : Type 0 where
  by_test : e ≢ Memory → answer ≡ Err e → IsFirstRefusal shading e answer
  by_memory : e ≡ Memory → IsReplaced shading answer → IsFirstRefusal shading e answer
