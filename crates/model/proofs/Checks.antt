-- Lists of tests: the result if all pass, and if one fails.
use Rattle.std.proofs.Common.{◌≡◌, ◌≢◌, Bool, true, false, List, [], ◌∷◌, ◌++◌, Ok, Err, refl, sym}
use Rattle.ids.specs.declared.refusal.Refusal.{Refusal}
use Rattle.model.specs.Checks.{guarded, AllPass}

-- if every test passed, the result is the value
pub guarded-ok : {A : Type 0} (cs : List (Bool × Refusal)) (x y : A) → guarded cs x ≡ Ok y → x ≡ y
guarded-ok [] x y h = cc
guarded-ok ((true, r) ∷ cs) x y h = guarded-ok cs x y h
guarded-ok ((false, r) ∷ cs) x y h = absurd cc

pub guarded-passes : {A : Type 0} (cs : List (Bool × Refusal)) (x y : A) → guarded cs x ≡ Ok y
    → AllPass cs
guarded-passes [] x y h = tt
guarded-passes ((true, r) ∷ cs) x y h = (refl, guarded-passes cs x y h)
guarded-passes ((false, r) ∷ cs) x y h = absurd cc

-- what passes every test is answered
pub guarded-pass : {A : Type 0} (cs : List (Bool × Refusal)) (x : A) → AllPass cs
    → guarded cs x ≡ Ok x
guarded-pass [] x h = refl
guarded-pass (c ∷ cs) x h = rw h.0 (guarded-pass cs x h.1)

-- the tests of two lists, one after the other
pub passed-parts : (ts us : List (Bool × Refusal)) → AllPass (ts ++ us) → AllPass ts × AllPass us
passed-parts [] us h = (tt, h)
passed-parts (t ∷ ts) us h = let rest = passed-parts ts us h.1 in ((h.0, rest.0), rest.1)

pub passed-both : (ts us : List (Bool × Refusal)) → AllPass ts → AllPass us → AllPass (ts ++ us)
passed-both [] us h g = g
passed-both (t ∷ ts) us h g = (h.0, passed-both ts us h.1 g)

-- a refusal that isn't this test's also comes without this test
pub guarded-without : {A : Type 0} (ts us : List (Bool × Refusal)) (c : Bool) (k e : Refusal)
    (x : A) → e ≢ k → guarded ((ts ++ (c, k) ∷ []) ++ us) x ≡ Err e → guarded (ts ++ us) x ≡ Err e
guarded-without [] us true k e x other h = h
guarded-without [] us false k e x other h = absurd (other (let same : k ≡ e = cc in sym same))
guarded-without ((true, r) ∷ ts) us c k e x other h = guarded-without ts us c k e x other h
guarded-without ((false, r) ∷ ts) us c k e x other h = h

-- tests that pass don't change the result
pub guarded-passed : {A : Type 0} (ts us : List (Bool × Refusal)) (x : A) → AllPass ts
    → guarded (ts ++ us) x ≡ guarded us x
guarded-passed [] us x h = refl
guarded-passed (t ∷ ts) us x h = rw h.0 (guarded-passed ts us x h.1)
