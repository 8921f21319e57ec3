-- Why a call fails. Some refusals are those of frames, images, disks and cells: no event of a node
-- fails with them.
use Rattle.std.proofs.Common.{◌≡◌, ◌≢◌, ◌⊎◌, inl, inr, ⊎_elim, ℕ, Bool, true, false, List, [], ◌∷◌, ◌++◌, map, Result, Ok, Err, refl, ap, sym, ◌∙◌, subst}
use Rattle.std.specs.List.{list_all}
use Rattle.std.proofs.lemmas.Bool.{and_parts, both_ways}
use Rattle.ids.specs.declared.refusal.Refusal.{Refusal}
use Rattle.ids.specs.declared.refusal.Refusal.TheVariants.{Memory, BadFrame, BadImage, ImageTooLarge, Disk, Closed}
use Rattle.model.specs.declared.event.Event.{Event}
use Rattle.model.specs.declared.event.Event.TheVariants as event
use Rattle.model.specs.Checks.{guarded, IsFirstRefusal, IsReplaced, by_test, by_memory}
use Rattle.model.specs.Effects.{Effect}
use Rattle.model.specs.Steps.{tests, made, all_tests, checked, ack_of}
use Rattle.model.specs.View.{Link, NodeView, used, ack_tests, let_go, view_after, view_act}

-- a refusal is `Memory` or something else
pub memory-or : (e : Refusal) → (e ≡ Memory) ⊎ (e ≢ Memory)
memory-or Memory = inl refl
memory-or e = inr (λ is. absurd cc)

pub memory-alone : (e : Refusal) → (e ≢ Memory → ⊥) → e ≡ Memory
memory-alone e never =
    ⊎_elim {C = e ≡ Memory} (λ is. is) (λ other. absurd (never other)) (memory-or e)

-- A call fails for the first reason if and only if its refusal is that of the definitions, unless
-- it is `Memory`, which replaces the definitions' result.
pub first-refusal : {Y : Type 0} {shading : Bool} {e : Refusal} {r : Result Y Refusal}
    → (e ≢ Memory → r ≡ Err e) → (e ≡ Memory → IsReplaced shading r) → IsFirstRefusal shading e r
first-refusal {shading = shading} {e = e} {r = r} test memory =
    ⊎_elim {C = IsFirstRefusal shading e r} (λ is. by_memory is (memory is))
    (λ other. by_test other (test other)) (memory-or e)

pub refused-as : {Y : Type 0} {shading : Bool} {e : Refusal} {r : Result Y Refusal}
    → IsFirstRefusal shading e r → e ≢ Memory → r ≡ Err e
refused-as (by_test other is) apart = is
refused-as (by_memory memory is) apart = absurd (apart memory)

-- ---- refusals of events

abbrev pub is_of_event : Refusal → Bool
is_of_event BadFrame = false
is_of_event BadImage = false
is_of_event ImageTooLarge = false
is_of_event Disk = false
is_of_event Closed = false
is_of_event r = true

abbrev are_of_event : List (Bool × Refusal) → Bool
are_of_event cs = list_all (λ c. is_of_event c.1) cs

guarded-of : {A : Type 0} (cs : List (Bool × Refusal)) (x : A) (f : Refusal)
    → are_of_event cs ≡ true → guarded cs x ≡ Err f → is_of_event f ≡ true
guarded-of [] x f all refused = absurd cc
guarded-of ((true, r) ∷ cs) x f all refused =
    guarded-of cs x f (and_parts (is_of_event r) (are_of_event cs) all).1 refused
guarded-of ((false, r) ∷ cs) x f all refused =
    let is : r ≡ f = cc in
    subst (λ (z : Refusal). is_of_event z ≡ true) is
    (and_parts (is_of_event r) (are_of_event cs) all).0

tests-of : (n : NodeView) (e : Event) (counts : List ℕ) (x : Effect)
    → are_of_event (all_tests (tests n.local e ++ ack_tests n (ack_of e)) counts x) ≡ true
tests-of n (event.Ack a) counts x = refl
tests-of n e counts x = refl

refused-before : (n : NodeView) (links : List Link) (r : Result Effect Refusal) (f : Refusal)
    → view_after n links r ≡ Err f → r ≡ Err f
refused-before n links (Ok x) f h = absurd cc
refused-before n links (Err e) f h = cc

view-of : (n : NodeView) (e : Event) (f : Refusal) → view_act n e ≡ Err f → is_of_event f ≡ true
unfolding view_act
view-of n e f h =
    let counts : List ℕ = map used n.links in
    let x : Effect = made n.local counts e in
    let ts : List (Bool × Refusal) = tests n.local e ++ ack_tests n (ack_of e) in
    guarded-of (all_tests ts counts x) x f (tests-of n e counts x)
    (refused-before n (let_go n.links (ack_of e)) (checked ts counts x) f h)

pub event-never : (shading : Bool) (n : NodeView) (e : Event) (f k : Refusal)
    → is_of_event k ≡ false → IsFirstRefusal shading f (view_act n e) → f ≢ k
event-never shading n e f k other (by_test apart is) same =
    both_ways _ other (ap is_of_event (sym same) ∙ view-of n e f is)
event-never shading n e f k other (by_memory memory is) same =
    both_ways _ other (ap is_of_event (sym same ∙ memory))
