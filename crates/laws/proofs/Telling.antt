-- What a program is told about its events, it may also be told in a space without a collector: the
-- tests are the same, since the objects that registers name exist.
use Rattle.std.proofs.Common.{◌≡◌, ℕ, Bool, true, false, ◌==◌, ◌⊎◌, List, [], ◌∷◌, ◌++◌, length, map, take, drop, Option, None, Some, Ok, Err, refl, sym, ap, ◌∙◌, subst, ⊎_elim, inl, inr}
use Rattle.std.specs.Prelude.{◌&&◌, ◌||◌, is_some, not, nat_lt, nat_le, option_map}
use Rattle.ids.specs.declared.refusal.Refusal.{Refusal}
use Rattle.ids.specs.declared.refusal.Refusal.TheVariants.{ArenaFull, EmptyRegister, NoField, NoNode, NoRegister, Remote, SelfSend, TooManyFields, LinkSpent, TooManyBytes, NoBytes, NotNow}
use Rattle.model.specs.declared.event.Event.{Event}
use Rattle.model.specs.declared.event.Event.TheVariants as event
use Rattle.model.specs.Checks.{guarded, AllPass}
use Rattle.model.specs.State.{Object, Heap, LocalState, NodeState}
use Rattle.model.specs.Heaps.{is_register, is_filled, is_local, has_slot, has_place, named, object_at, own_tests, copy_tests, drop_tests, word_tests, register_tests, put_tests, get_tests, accept_tests, bytes_of, has_range, heap_bytes, post_tests, fetch_tests, is_marked_object}
use Rattle.model.specs.Shading.{is_open}
use Rattle.model.specs.Steps.{tests, made, fits, all_tests, checked, act}
use Rattle.laws.specs.Objects.{Thing, Space, object_in, has_that, bytes_in, bytes_told, is_program, checks, IsLimit, MayBeTold}
use Rattle.laws.specs.Sights.{thing_of}
use Rattle.model.proofs.Checks.{guarded-pass, guarded-passes}
use Rattle.laws.proofs.StepFacts.{after-err, last-refusal}
use Rattle.laws.proofs.Doings.{Here, thing-has, thing-there, object-same, Doing, own-answers}

-- ---- lists of tests

-- a refusal doesn't depend on the value
guarded-other : {A B : Type 0} (ts : List (Bool × Refusal)) (x : A) (y : B) (r : Refusal)
    → guarded ts x ≡ Err r → guarded ts y ≡ Err r
guarded-other [] x y r h = absurd cc
guarded-other ((true, e) ∷ ts) x y r h = guarded-other ts x y r h
guarded-other ((false, e) ∷ ts) x y r h = let same : e ≡ r = cc in ap Err same

-- of two lists, the first refuses, or it passes and the second refuses
refused-by : {A : Type 0} (ts us : List (Bool × Refusal)) (x : A) (r : Refusal)
    → guarded (ts ++ us) x ≡ Err r → (guarded ts x ≡ Err r) ⊎ (AllPass ts × (guarded us x ≡ Err r))
refused-by [] us x r h = inr (tt, h)
refused-by ((true, e) ∷ ts) us x r h =
    ⊎_elim
    {C = (guarded ts x ≡ Err r) ⊎ (AllPass ((true, e) ∷ ts) × (guarded us x ≡ Err r))}
    (λ first. inl first) (λ later. inr ((refl, later.0), later.1)) (refused-by ts us x r h)
refused-by ((false, e) ∷ ts) us x r h = inl h

-- two lists of tests that pass and fail alike
abbrev Alike : List (Bool × Refusal) → List (Bool × Refusal) → Type 0
Alike ts us = guarded {A = Unit {0}} ts tt ≡ guarded us tt

alike-pass : (ts us : List (Bool × Refusal)) → Alike ts us → AllPass ts → AllPass us
alike-pass ts us same passed = guarded-passes us tt tt (sym same ∙ guarded-pass ts tt passed)

alike-refuse : {A B : Type 0} (ts us : List (Bool × Refusal)) (x : A) (y : B) (r : Refusal)
    → Alike ts us → guarded ts x ≡ Err r → guarded us y ≡ Err r
alike-refuse ts us x y r same h =
    guarded-other us tt y r (sym same ∙ guarded-other ts x tt r h)

-- they are alike if their last tests agree whenever all tests before them pass
alike-last : (ts : List (Bool × Refusal)) (b c : Bool) (r : Refusal) → (AllPass ts → b ≡ c)
    → Alike (ts ++ (b, r) ∷ []) (ts ++ (c, r) ∷ [])
alike-last [] b c r h = ap (λ (z : Bool). guarded {A = Unit {0}} ((z, r) ∷ []) tt) (h tt)
alike-last ((true, e) ∷ ts) b c r h = alike-last ts b c r (λ passed. h (refl, passed))
alike-last ((false, e) ∷ ts) b c r h = refl

-- they are alike if what follows the same tests is, whenever these pass
alike-rest : {A : Type 0} (ts us vs : List (Bool × Refusal)) (x y : A)
    → (AllPass ts → guarded us x ≡ guarded vs y) → guarded (ts ++ us) x ≡ guarded (ts ++ vs) y
alike-rest [] us vs x y h = h tt
alike-rest ((true, e) ∷ ts) us vs x y h = alike-rest ts us vs x y (λ passed. h (refl, passed))
alike-rest ((false, e) ∷ ts) us vs x y h = refl

-- ---- the tests of events

-- An object of the node's own that a register names exists.
pub record Ready (s : Space) (p : LocalState) : Type 0 where
  pub here : Here s p.own p.heap
  pub there : (object : ℕ) → is_filled p.heap object ≡ true → is_local p.own p.heap object ≡ true
      → is_some (object_at p.heap (named p.heap object)) ≡ true

-- so it has the place in both, or in neither
has-same : {s : Space} {p : LocalState} (object place : ℕ) → Ready s p
    → is_filled p.heap object ≡ true → is_local p.own p.heap object ≡ true
    → has_place (object_at p.heap (named p.heap object)) place
    ≡ has_that (object_in s p.own object) place
has-same {p = p} object place x filled own =
    sym (ap (λ (z : Option Thing). has_that z place)
    (object-same object x.here own (x.there object filled own))
    ∙ thing-has (object_at p.heap (named p.heap object)) place)

some-same : {s : Space} {p : LocalState} (object : ℕ) → Ready s p
    → is_filled p.heap object ≡ true → is_local p.own p.heap object ≡ true
    → is_some (object_at p.heap (named p.heap object)) ≡ is_some (object_in s p.own object)
some-same {p = p} object x filled own =
    sym (ap (λ (z : Option Thing). is_some z)
    (object-same object x.here own (x.there object filled own))
    ∙ thing-there (object_at p.heap (named p.heap object)))

word-alike : {s : Space} (p : LocalState) (object : ℕ) → Ready s p
    → Alike (word_tests p.own p.heap object)
    (own_tests p.own (s.desk p.own) object (is_some (object_in s p.own object)))
word-alike {s = s} p object x =
    let b : Bool = is_some (object_in s p.own object) in
    alike-last
    (drop_tests p.heap object ++ (is_local p.own p.heap object, Remote) ∷ []) _ b NoField
    (λ passed. some-same object x passed.1.0 passed.1.1.0)
    ∙ ap (λ (z : Heap). guarded {A = Unit {0}}
    (own_tests p.own z object b) tt) (sym x.here.desk)

-- the tests on an object of the node's own, before those of the object
abbrev named_tests : ℕ → Heap → ℕ → List (Bool × Refusal)
named_tests own h object =
    (is_register h object, NoRegister) ∷ (is_filled h object, EmptyRegister)
    ∷ (is_local own h object, Remote) ∷ []

-- what is tested of the object, and what is read of it, is the same
held-alike : {A : Type 0} {s : Space} (p : LocalState) (object : ℕ) → Ready s p
    → (us : Option Thing → List (Bool × Refusal)) (f : Option Thing → A)
    → (let o = option_map thing_of (object_at p.heap (named p.heap object)) in
    guarded (named_tests p.own p.heap object ++ us o) (f o))
    ≡ guarded (named_tests p.own (s.desk p.own) object ++ us (object_in s p.own object))
    (f (object_in s p.own object))
held-alike {s = s} p object x us f =
    let o : Option Thing = option_map thing_of (object_at p.heap (named p.heap object)) in
    let t : Option Thing = object_in s p.own object in
    alike-rest (named_tests p.own p.heap object) (us o) (us t) (f o) (f t)
    (λ passed.
    ap (λ (z : Option Thing). guarded (us z) (f z))
    (sym (object-same object x.here passed.1.1.0 (x.there object passed.1.0 passed.1.1.0))))
    ∙ ap (λ (z : Heap). guarded (named_tests p.own z object ++ us t) (f t)) (sym x.here.desk)

-- the object is there, and has this many bytes from this offset on
abbrev ranged : Option Thing → Bool → ℕ → ℕ → List (Bool × Refusal)
ranged t wide offset count =
    (is_some t, NoField) ∷ (wide && has_range (bytes_in t) offset count, NoBytes) ∷ []

ranged-alike : (o : Option Object) (wide : Bool) (offset count : ℕ)
    → ◌≡◌ {A = List (Bool × Refusal)}
    ((is_some o, NoField) ∷ (wide && has_range (bytes_of o) offset count, NoBytes) ∷ [])
    (ranged (option_map thing_of o) wide offset count)
ranged-alike None wide offset count = refl
ranged-alike (Some o) wide offset count = refl

-- reading bytes is told the same
pub bytes-alike : {s : Space} (p : LocalState) (object offset count : ℕ) → Ready s p
    → heap_bytes p.own p.heap object offset count ≡ bytes_told s p.own object offset count
unfolding heap_bytes
bytes-alike {s = s} p object offset count x =
    by (object_at p.heap (named p.heap object))
    ∙ held-alike p object x (λ t. ranged t true offset count)
    (λ t. take count (drop offset (bytes_in t)))
  where
    by : (o : Option Object)
        → guarded (named_tests p.own p.heap object ++ (is_some o, NoField)
        ∷ (has_range (bytes_of o) offset count, NoBytes) ∷ [])
        (take count (drop offset (bytes_of o)))
        ≡ guarded (named_tests p.own p.heap object ++ ranged (option_map thing_of o) true offset
        count) (take count (drop offset (bytes_in (option_map thing_of o))))
    by None = refl
    by (Some o) = refl

-- all tests except those of a limit: that a slot is available, and that messages get numbers
abbrev tested : LocalState → Event → List (Bool × Refusal)
tested p (event.Alloc register places) =
    (is_register p.heap register, NoRegister)
    ∷ (nat_le places p.shape.places, TooManyFields) ∷ []
tested p (event.Resolve register reference) =
    (is_register p.heap register, NoRegister) ∷ (reference.node == p.own, Remote) ∷ []
tested p e = tests p e

abbrev limits : LocalState → List ℕ → Event → List (Bool × Refusal)
limits p counts (event.Alloc register places) =
    (has_slot p.shape.slots p.heap, ArenaFull)
    ∷ (fits counts (made p counts (event.Alloc register places)).sends, LinkSpent) ∷ []
limits p counts (event.Resolve register reference) =
    (is_some (object_at p.heap reference), NoField)
    ∷ (is_marked_object p.phases.cycle (object_at p.heap reference) || is_open p, NoField)
    ∷ (is_marked_object p.phases.cycle (object_at p.heap reference), NotNow)
    ∷ (true, LinkSpent) ∷ []
limits p counts e = (fits counts (made p counts e).sends, LinkSpent) ∷ []

tested-parts : (p : LocalState) (counts : List ℕ) (e : Event)
    → all_tests (tests p e) counts (made p counts e) ≡ tested p e ++ limits p counts e
tested-parts p counts (event.Alloc register places) = refl
tested-parts p counts (event.Resolve register reference) = refl
tested-parts p counts e = refl

tested-pass : (p : LocalState) (e : Event) → AllPass (tests p e) → AllPass (tested p e)
tested-pass p (event.Alloc register places) passed = (passed.0, (passed.1.0, tt))
tested-pass p (event.Resolve register reference) passed = (passed.0, (passed.1.0, tt))
tested-pass p e passed = passed

tests-alike : {s : Space} (p : LocalState) (e : Event) → is_program e ≡ true → Ready s p
    → Alike (tested p e) (checks s p.own p.shape e)
tests-alike p (event.Alloc register places) is x =
    ap (λ (z : Heap). guarded {A = Unit {0}}
    ((is_register z register, NoRegister) ∷ (nat_le places p.shape.places, TooManyFields) ∷ [])
    tt) (sym x.here.desk)
tests-alike p (event.Copy register source) is x =
    ap (λ (z : Heap). guarded {A = Unit {0}} (copy_tests z register source) tt) (sym x.here.desk)
tests-alike p (event.Drop register) is x =
    ap (λ (z : Heap). guarded {A = Unit {0}} (drop_tests z register) tt) (sym x.here.desk)
tests-alike p (event.Resolve register reference) is x =
    ap (λ (z : Heap). guarded {A = Unit {0}}
    ((is_register z register, NoRegister) ∷ (reference.node == p.own, Remote) ∷ []) tt)
    (sym x.here.desk)
tests-alike {s = s} p (event.Load register object place) is x =
    let b : Bool = has_that (object_in s p.own object) place in
    alike-last
    (copy_tests p.heap register object ++ (is_local p.own p.heap object, Remote) ∷ []) _ b NoField
    (λ passed. has-same object place x passed.1.1.0 passed.1.1.1.0)
    ∙ ap (λ (z : Heap). guarded {A = Unit {0}}
    ((is_register z register, NoRegister) ∷ own_tests p.own z object b) tt) (sym x.here.desk)
tests-alike {s = s} p (event.Store object place register) is x =
    let b : Bool = has_that (object_in s p.own object) place in
    let first : Heap → List (Bool × Refusal) =
    λ z.
    (is_register z object, NoRegister)
    ∷ (is_register z register, NoRegister)
    ∷ (is_filled z object, EmptyRegister)
    ∷ (is_filled z register, EmptyRegister)
    ∷ [] in
    alike-last (first p.heap ++ (is_local p.own p.heap object, Remote) ∷ []) _ b NoField
    (λ passed. has-same object place x passed.1.1.0 passed.1.1.1.1.0)
    ∙ ap (λ (z : Heap). guarded {A = Unit {0}} (first z ++ (is_local p.own z object, Remote) ∷
    (b, NoField) ∷ []) tt)
    (sym x.here.desk)
tests-alike {s = s} p (event.Clear object place) is x =
    let b : Bool = has_that (object_in s p.own object) place in
    alike-last
    (drop_tests p.heap object ++ (is_local p.own p.heap object, Remote) ∷ []) _ b NoField
    (λ passed. has-same object place x passed.1.0 passed.1.1.0)
    ∙ ap (λ (z : Heap). guarded {A = Unit {0}}
    (own_tests p.own z object b) tt) (sym x.here.desk)
tests-alike p (event.Word object) is x = word-alike p object x
tests-alike p (event.SetWord object word) is x = word-alike p object x
tests-alike p (event.SetBytes object bytes) is x =
    let few : Bool = p.shape.wide && nat_le (length bytes.now) p.shape.bytes in
    ap (λ (z : Bool). guarded {A = Unit {0}}
    (named_tests p.own p.heap object ++ (z, NoField) ∷ (few, TooManyBytes) ∷ []) tt)
    (sym (thing-there (object_at p.heap (named p.heap object))))
    ∙ held-alike p object x (λ t. (is_some t, NoField) ∷ (few, TooManyBytes) ∷ []) (λ _. tt)
tests-alike p (event.Patch object offset bytes) is x =
    ap (λ (z : List (Bool × Refusal)). guarded {A = Unit {0}}
    (named_tests p.own p.heap object ++ z) tt)
    (ranged-alike (object_at p.heap (named p.heap object)) p.shape.wide offset (length bytes.now))
    ∙ held-alike p object x (λ t. ranged t p.shape.wide offset (length bytes.now)) (λ _. tt)
tests-alike p (event.Give to label register) is x =
    ap (λ (z : Heap). guarded {A = Unit {0}}
    ((nat_lt to p.shape.nodes, NoNode) ∷ (not (to == p.own), SelfSend) ∷ register_tests z register)
    tt) (sym x.here.desk)
tests-alike p (event.Post to label first count bytes) is x =
    ap (λ (z : Heap). guarded {A = Unit {0}}
    ((nat_lt to p.shape.nodes, NoNode) ∷ (not (to == p.own), SelfSend) ∷ post_tests
    p.shape z first count (length bytes.now)) tt) (sym x.here.desk)
tests-alike p (event.Fetch object label offset count) is x =
    ap (λ (z : Heap). guarded {A = Unit {0}} (fetch_tests p.shape p.own z object count) tt)
    (sym x.here.desk)
tests-alike p (event.Accept register) is x =
    ap (λ (z : Heap). guarded {A = Unit {0}} (accept_tests z register) tt) (sym x.here.desk)
tests-alike p (event.Put object place register) is x =
    ap (λ (z : Heap). guarded {A = Unit {0}} (put_tests p.shape.places p.own z object place
    register) tt)
    (sym x.here.desk)
tests-alike p (event.Get object place label) is x =
    ap (λ (z : Heap). guarded {A = Unit {0}} (get_tests p.shape.places p.own z object place) tt)
    (sym x.here.desk)
tests-alike p e never x = absurd cc

-- ---- what a program is told

-- an answer
pub told-ok : {s : Space} (p : LocalState) (counts : List ℕ) (e : Event) → is_program e ≡ true
    → Ready s p → Doing s p e
    → MayBeTold s p.own p.shape e (Ok (made p counts e).answer)
told-ok {s = s} p counts e is x d = (
  alike-pass (tested p e) (checks s p.own p.shape e) (tests-alike p e is x)
      (tested-pass p e d.passed),
  own-answers p counts e is d,
)

-- an event that sends no message never fails with `LinkSpent`
never-refused : {A : Type 0} (x : A) (r : Refusal) → guarded ((true, LinkSpent) ∷ []) x ≡ Err r → ⊥
never-refused x r h = absurd cc

slot-refused : {A : Type 0} (b : Bool) (x : A) (r : Refusal)
    → guarded ((b, ArenaFull) ∷ (true, LinkSpent) ∷ []) x ≡ Err r → r ≡ ArenaFull
slot-refused true x r h = absurd cc
slot-refused false x r h = let same : ArenaFull ≡ r = cc in sym same

resolve-refused : {A : Type 0} (b m n : Bool) (x : A) (r : Refusal)
    → guarded ((b, NoField) ∷ (m || n, NoField) ∷ (m, NotNow) ∷ (true, LinkSpent) ∷ []) x ≡ Err r
    → (r ≡ NoField) ⊎ (r ≡ NotNow)
resolve-refused false m n x r h = let same : NoField ≡ r = cc in inl (sym same)
resolve-refused true true n x r h = absurd cc
resolve-refused true false false x r h = let same : NoField ≡ r = cc in inl (sym same)
resolve-refused true false true x r h = let same : NotNow ≡ r = cc in inr (sym same)

limit-refused : (p : LocalState) (counts : List ℕ) (e : Event) (r : Refusal) → is_program e ≡ true
    → guarded (limits p counts e) (made p counts e) ≡ Err r → IsLimit e r
limit-refused p counts (event.Alloc register places) r is h = slot-refused _ _ r h
limit-refused p counts (event.Load register object place) r is h =
    sym (last-refusal [] (fits counts _, LinkSpent) _ r tt h)
limit-refused p counts (event.Give to label register) r is h =
    sym (last-refusal [] (fits counts _, LinkSpent) _ r tt h)
limit-refused p counts (event.Post to label first count bytes) r is h =
    sym (last-refusal [] (fits counts _, LinkSpent) _ r tt h)
limit-refused p counts (event.Fetch object label offset count) r is h =
    sym (last-refusal [] (fits counts _, LinkSpent) _ r tt h)
limit-refused p counts (event.Put object place register) r is h =
    sym (last-refusal [] (fits counts _, LinkSpent) _ r tt h)
limit-refused p counts (event.Get object place label) r is h =
    sym (last-refusal [] (fits counts _, LinkSpent) _ r tt h)
limit-refused p counts (event.Resolve register reference) r is h =
    let o : Option Object = object_at p.heap reference in
    resolve-refused (is_some o) (is_marked_object p.phases.cycle o) (is_open p)
    (made p counts (event.Resolve register reference)) r h
limit-refused p counts (event.Reclaim scope) r never h = absurd cc
limit-refused p counts event.Begin r never h = absurd cc
limit-refused p counts event.Scan r never h = absurd cc
limit-refused p counts event.Pass r never h = absurd cc
limit-refused p counts (event.Sweep count) r never h = absurd cc
limit-refused p counts (event.Next from) r never h = absurd cc
limit-refused p counts (event.Data m) r never h = absurd cc
limit-refused p counts (event.Ack m) r never h = absurd cc
limit-refused p counts e r is h = never-refused _ r h

-- a refusal
pub told-err : {s : Space} (n : NodeState) (e : Event) (r : Refusal) → is_program e ≡ true
    → Ready s n.local → act n e ≡ Err r
    → MayBeTold s n.local.own n.local.shape e (Err r)
unfolding act
told-err {s = s} n e r is x refused =
    let p : LocalState = n.local in
    let counts : List ℕ = map length n.sent in
    let all = after-err n (checked (tests p e) counts (made p counts e)) r refused in
    let alike = tests-alike p e is x in
    ⊎_elim {C = MayBeTold s p.own p.shape e (Err r)}
    (λ first. inl (alike-refuse (tested p e) (checks s p.own p.shape e) _ s r alike first))
    (λ last. inr (
      alike-pass (tested p e) (checks s p.own p.shape e) alike last.0,
      limit-refused p counts e r is last.1,
    ))
    (refused-by (tested p e) (limits p counts e) (made p counts e) r
    (subst (λ (z : List (Bool × Refusal)). guarded z (made p counts e) ≡ Err r)
    (tested-parts p counts e) all))
