-- An answered event, and a step of a space, taken apart once for all proofs.
use Rattle.std.proofs.Common.{◌≡◌, ℕ, ◌<◌, Bool, true, false, ◌==◌, ◌&&◌, ◌||◌, ltb-true, List, [], ◌∷◌, ◌++◌, length, map, get_or, set, Option, None, Some, Result, Ok, Err, refl, sym, ap, ◌∙◌, ◌+◌, subst, leb, leb-false, inl, inr, ◌⊎◌, ◌≤◌, length-set, arith}
use Rattle.std.proofs.lemmas.Bool.{cond_both, and_parts, cases_Bool, cond-true, cond-false, lt-ltb, ltb-false}
use Rattle.ids.specs.declared.limits.TheConstants.{WINDOW}
use Rattle.ids.specs.declared.refusal.Refusal.{Refusal}
use Rattle.ids.specs.declared.refusal.Refusal.TheVariants.{LinkSpent, NoNode, OutOfOrder, AckBeyond, WrongNode}
use Rattle.msg.specs.declared.body.Message.{Message}
use Rattle.model.specs.declared.event.Event.{Event}
use Rattle.model.specs.declared.event.Answer.{Answer}
use Rattle.model.specs.declared.event.Answer.TheVariants as answer
use Rattle.model.specs.declared.step.Step.{Step}
use Rattle.model.specs.declared.step.Step.TheVariants as step
use Rattle.model.specs.declared.step.Outcome.{Outcome}
use Rattle.model.specs.declared.step.Outcome.TheVariants as outcome
use Rattle.model.specs.Checks.{guarded, AllPass}
use Rattle.model.specs.State.{NodeState, node_at, sent_to, got_from}
use Rattle.model.specs.Effects.{Effect, unchanged}
use Rattle.model.specs.Steps.{tests, made, receipt_tests, receipt, is_addressed, is_repeat, is_early, may_take, taken_in, fits, all_tests, checked, after, act, receive, append_all, is_own}
use Rattle.model.specs.World.{World, released, acknowledged, release_count, moved, delivery, is_node, take_step, outcome_of, world_after, happens}
use Rattle.model.proofs.Checks.{guarded-ok, guarded-passes, passed-parts}
use Rattle.model.proofs.Lookups.{at_set_if}
use Rattle.laws.specs.Statements.{IfDone}
use Rattle.laws.proofs.Lookups.{Grows, grows-refl, grows-trans}

-- An answered event: the node afterwards and the answer; all tests passed, and all its messages got
-- numbers.
pub record Stepped (s : NodeState) (ts : List (Bool × Refusal)) (x : Effect) (t : NodeState)
    (a : Answer) : Type 0 where
  pub state : t ≡ record { local = x.local; sent = append_all s.sent x.sends }
  pub answer : a ≡ x.answer
  pub passed : AllPass ts
  pub numbered : fits (map length s.sent) x.sends ≡ true

-- the node after an effect, and the answer
abbrev effect_on : NodeState → Effect → NodeState × Answer
effect_on s x = (record { local = x.local; sent = append_all s.sent x.sends }, x.answer)

after-ok : (s : NodeState) (r : Result Effect Refusal) (y : NodeState × Answer) → after s r ≡ Ok y
    → (x : Effect) × (r ≡ Ok x) × (y ≡ effect_on s x)
after-ok s (Ok x) y h = (x, refl, cc)
after-ok s (Err e) y h = absurd cc

stepped : (s : NodeState) (ts : List (Bool × Refusal)) (x : Effect) (t : NodeState) (a : Answer)
    → after s (checked ts (map length s.sent) x) ≡ Ok (t, a) → Stepped s ts x t a
stepped s ts x t a h =
    let found = after-ok s (checked ts (map length s.sent) x) (t, a) h in
    let all = all_tests ts (map length s.sent) x in
    let parts =
    passed-parts ts ((fits (map length s.sent) x.sends, LinkSpent) ∷ [])
    (guarded-passes all x found.0 found.1) in
    let both : ◌≡◌ {A = NodeState × Answer} (t, a) (effect_on s x) =
    found.2 ∙ ap (effect_on s) (sym (guarded-ok all x found.0 found.1)) in
    record {
      state = ap (λ (z : NodeState × Answer). z.0) both;
      answer = ap (λ (z : NodeState × Answer). z.1) both;
      passed = parts.0;
      numbered = parts.1.0;
    }

-- an answered event of a node
pub act-ok : (s : NodeState) (e : Event) (t : NodeState) (a : Answer) → act s e ≡ Ok (t, a)
    → Stepped s (tests s.local e) (made s.local (map length s.sent) e) t a
unfolding act
act-ok s e t a h = stepped s (tests s.local e) (made s.local (map length s.sent) e) t a h

-- a message, with the nodes between which it goes, and its number
pub record Delivery : Type 0 where
  pub from : ℕ
  pub to : ℕ
  pub number : ℕ
  pub message : Message

-- it is given to a node
abbrev pub given_to : NodeState → Delivery → Result (NodeState × Answer) Refusal
given_to s m = receive s m.from m.to m.number m.message.stamp m.message.body

abbrev pub tests_of : NodeState → Delivery → List (Bool × Refusal)
tests_of s m = receipt_tests s.local m.from m.to m.number m.message.stamp m.message.body

abbrev pub IsTurnOf : NodeState → Delivery → Type 0
IsTurnOf s m = m.number ≡ got_from s.local m.from + 1

-- a message that was received, was a repeat, or came before its turn
receive-ok : (s : NodeState) (m : Delivery) (t : NodeState) (a : Answer) → given_to s m ≡ Ok (t, a)
    → Stepped s (tests_of s m) (receipt s.local m.from m.number m.message.stamp m.message.body) t a
unfolding receive
receive-ok s m t a h =
    stepped s (tests_of s m) (receipt s.local m.from m.number m.message.stamp m.message.body) t a h

-- A message that was answered is a repeat or early, and changes nothing. Or it is the next one,
-- which the node may receive, and it is received.
pub data Receipt (s : NodeState) (m : Delivery) (t : NodeState) (a : Answer) : Type 0 where
  repeated : t ≡ s → (a ≡ answer.Repeat) ⊎ (a ≡ answer.Early) → Receipt s m t a
  next : IsTurnOf s m → may_take s.local m.from m.message.stamp m.message.body ≡ true
      → Stepped s (tests_of s m) (taken_in s.local m.from m.number m.message.stamp m.message.body) t
      a
      → Receipt s m t a

-- if one of three tests passed and the first two failed, the last one passed
may-next : (again early may : Bool) → again ≡ false → early ≡ false
    → (again || (early || may)) ≡ true → may ≡ true
may-next false false may first due h = h
may-next true early may first due h = absurd cc
may-next false true may first due h = absurd cc

pub receipt-cases : (s : NodeState) (m : Delivery) (t : NodeState) (a : Answer)
    → given_to s m ≡ Ok (t, a) → Receipt s m t a
receipt-cases s m t a h =
    let x : Message = m.message in
    let found = receive-ok s m t a h in
    let as_found : (y : Effect) → receipt s.local m.from m.number x.stamp x.body ≡ y
    → Stepped s (tests_of s m) y t a =
    λ y e. subst (λ (z : Effect). Stepped s (tests_of s m) z t a) e found in
    elim (cases_Bool (is_repeat s.local m.from m.number)) as (λ _. Receipt s m t a) [
      | inl again ↦ let same =
          as_found (unchanged s.local answer.Repeat)
          (cond-true (is_repeat s.local m.from m.number) _ _ again) in repeated same.state
          (inl same.answer)
      | inr first ↦ elim (cases_Bool (is_early s.local m.from m.number)) as (λ _. Receipt s m t a) [
        | inl ahead ↦ let same =
            as_found (unchanged s.local answer.Early)
            (cond-false (is_repeat s.local m.from m.number) _ _ first
            ∙ cond-true (is_early s.local m.from m.number) _ _ ahead) in repeated same.state
            (inr same.answer)
        | inr due ↦ next
            (let later : got_from s.local m.from < m.number = leb-false m.number _ first in
            let last : m.number ≤ got_from s.local m.from + 1 = ltb-false _ m.number due in
            omega (arith, later, last))
            (may-next _ _ _ first due found.passed.1.1.0)
            (as_found (taken_in s.local m.from m.number x.stamp x.body)
            (cond-false (is_repeat s.local m.from m.number) _ _ first
            ∙ cond-false (is_early s.local m.from m.number) _ _ due))
      ]
    ]

-- new messages come last in what was sent
pub append_all-grows : (sent : List (List Message)) (ms : List (ℕ × Message)) (j : ℕ)
    → Grows (get_or sent j []) (get_or (append_all sent ms) j [])
append_all-grows sent [] j = grows-refl _
append_all-grows sent ((to, x) ∷ ms) j =
    let longer : List Message = get_or sent to [] ++ x ∷ [] in
    grows-trans (get_or sent j []) (get_or (set sent to longer) j []) _
    (at_set_if (Grows (get_or sent j [])) sent to j longer []
    (λ e. (x ∷ [], ap (λ (k : ℕ). get_or sent k [] ++ x ∷ []) e)) (grows-refl _))
    (append_all-grows (set sent to longer) ms j)

pub length-append_all : (sent : List (List Message)) (ms : List (ℕ × Message))
    → length (append_all sent ms) ≡ length sent
length-append_all sent [] = refl
length-append_all sent ((to, x) ∷ ms) =
    length-append_all (set sent to (get_or sent to [] ++ x ∷ [])) ms
    ∙ length-set sent to (get_or sent to [] ++ x ∷ [])

stepped-grows : {s t : NodeState} {ts : List (Bool × Refusal)} {x : Effect} {a : Answer} (j : ℕ)
    → Stepped s ts x t a → Grows (sent_to s j) (sent_to t j)
stepped-grows {s = s} {x = x} j h =
    let more = append_all-grows s.sent x.sends j in
    (more.0, ap (λ (z : NodeState). sent_to z j) h.state ∙ more.1)

-- what a node sent only grows
pub act-grows : (s : NodeState) (e : Event) (t : NodeState) (a : Answer) (j : ℕ)
    → act s e ≡ Ok (t, a) → Grows (sent_to s j) (sent_to t j)
act-grows s e t a j h = stepped-grows j (act-ok s e t a h)

pub receive-grows : (s : NodeState) (m : Delivery) (t : NodeState) (a : Answer) (j : ℕ)
    → given_to s m ≡ Ok (t, a) → Grows (sent_to s j) (sent_to t j)
receive-grows s m t a j h = stepped-grows j (receive-ok s m t a h)

abbrev pub IsReleased : World → Delivery → Type 0
IsReleased w m = released w m.from m.to m.number ≡ Some m.message

-- a node of the space answered an event of its own
pub record Acted (w : World) (i : ℕ) (e : Event) (t : NodeState) (a : Answer) : Type 0 where
  pub within : i < length w.current
  pub own : is_own e ≡ true
  pub answered : act (node_at w.current i) e ≡ Ok (t, a)

-- so the event wasn't refused
pub acted-done : (P : Event → Type 0) {w : World} {i : ℕ} {e : Event} {t : NodeState} {a : Answer}
    → Acted w i e t a → IfDone P (step.Act i e) (outcome_of (take_step w (step.Act i e))) → P e
unfolding take_step
acted-done P {w = w} {i = i} {e = e} {t = t} {a = a} x done =
    subst (λ (r : Result Outcome Refusal). IfDone P (step.Act i e) r)
    (ap (λ (r : Result (World × Outcome) Refusal). outcome_of r)
    (cond-true (is_node w i) _ _ (lt-ltb i (length w.current) x.within)
    ∙ cond-true (is_own e) _ _ x.own
    ∙ ap (λ (r : Result (NodeState × Answer) Refusal). moved w i r) x.answered))
    done

-- a released message was given to its receiver, and answered
pub record Delivered (w : World) (m : Delivery) (t : NodeState) (a : Answer) : Type 0 where
  pub within : m.to < length w.current
  pub there : IsReleased w m
  pub answered : given_to (node_at w.current m.to) m ≡ Ok (t, a)

-- what a step of a space does to it
pub data Happening (w : World) (s : Step) : World → Type 0 where
  nothing : Happening w s w
  acted : (i : ℕ) (e : Event) (t : NodeState) (a : Answer) → s ≡ step.Act i e → Acted w i e t a
      → Happening w s (record w { current = set w.current i t })
  delivered : (m : Delivery) (t : NodeState) (a : Answer) → Delivered w m t a
      → Happening w s (record w { current = set w.current m.to t })
  saved : (i : ℕ) → i < length w.current
      → Happening w s (record w { saved = set w.saved i (node_at w.current i) })
  restarted : (i : ℕ) → s ≡ step.Restart i → i < length w.current
      → Happening w s (record w { current = set w.current i (node_at w.saved i) })

moved-happening : (w : World) (s : Step) (i : ℕ) (r : Result (NodeState × Answer) Refusal)
    → ((t : NodeState) (a : Answer) → r ≡ Ok (t, a)
    → Happening w s (record w { current = set w.current i t }))
    → Happening w s (world_after w (moved w i r))
moved-happening w s i (Ok x) h = h x.0 x.1 refl
moved-happening w s i (Err e) h = nothing

delivered-happening : (w : World) (s : Step) (from to number : ℕ) (found : Option Message)
    → to < length w.current → released w from to number ≡ found
    → Happening w s (world_after w (delivery w from to number found))
delivered-happening w s from to number None within there = nothing
delivered-happening w s from to number (Some x) within there =
    let m : Delivery = record { from = from; to = to; number = number; message = x } in
    moved-happening w s to (given_to (node_at w.current to) m)
    (λ t a h. delivered m t a (record { within = within; there = there; answered = h }))

-- a step that only tests leaves the space as it was
tested-happening : (w : World) (s : Step) (cs : List (Bool × Refusal)) (o : Outcome)
    → Happening w s (world_after w (guarded cs (w, o)))
tested-happening w s [] o = nothing
tested-happening w s ((true, r) ∷ cs) o = tested-happening w s cs o
tested-happening w s ((false, r) ∷ cs) o = nothing

pub happening : (w : World) (s : Step) → Happening w s (happens w s)
unfolding take_step
happening w (step.Act i e) =
    let s : Step = step.Act i e in
    cond_both (is_node w i) _ _ (λ r. Happening w s (world_after w r))
    (λ within. cond_both (is_own e) _ _ (λ r. Happening w s (world_after w r))
    (λ own.
    moved-happening w s i (act (node_at w.current i) e)
    (λ t a h. acted i e t a refl
    (record { within = ltb-true _ _ within; own = own; answered = h })))
    (λ _. nothing))
    (λ _. nothing)
happening w (step.Save i) =
    cond_both (is_node w i) _ _ (λ r. Happening w (step.Save i) (world_after w r))
    (λ within. saved i (ltb-true _ _ within)) (λ _. nothing)
happening w (step.Restart i) =
    cond_both (is_node w i) _ _ (λ r. Happening w (step.Restart i) (world_after w r))
    (λ within. restarted i refl (ltb-true _ _ within)) (λ _. nothing)
happening w (step.Deliver from to number) =
    let s : Step = step.Deliver from to number in
    cond_both _ _ _ (λ r. Happening w s (world_after w r))
    (λ within.
    delivered-happening w s from to number (released w from to number)
    (ltb-true _ _ (and_parts (is_node w from) (is_node w to) within).1) refl)
    (λ _. nothing)
happening w (step.Hand from to) =
    let s : Step = step.Hand from to in
    cond_both (is_node w from && is_node w to) _ _ (λ r. Happening w s (world_after w r))
    (λ _. cond_both (from == to) _ _ (λ r. Happening w s (world_after w r))
    (λ _. nothing)
    (λ _.
    tested-happening w s ((is_addressed (node_at w.current from).local to from, WrongNode)
    ∷ (leb (acknowledged w from to) (release_count w from to), AckBeyond) ∷ [])
    (outcome.Handed (acknowledged w from to))))
    (λ _. nothing)

-- a delivery that was answered
moved-answer : (w : World) (i : ℕ) (r : Result (NodeState × Answer) Refusal) (a : Answer)
    → outcome_of (moved w i r) ≡ Ok (outcome.Answer a) → (t : NodeState) × (r ≡ Ok (t, a))
moved-answer w i (Ok y) a h =
    let says : y.1 ≡ a = cc in (y.0, ap (λ (z : Answer). Ok (y.0, z)) says)
moved-answer w i (Err e) a h = absurd cc

pub deliver-answer : (w : World) (m : Delivery) (a : Answer) → IsReleased w m
    → outcome_of (take_step w (step.Deliver m.from m.to m.number)) ≡ Ok (outcome.Answer a)
    → (t : NodeState) × (given_to (node_at w.current m.to) m ≡ Ok (t, a))
unfolding take_step
deliver-answer w m a there h =
    let given : Option Message → Result (World × Outcome) Refusal =
    delivery w m.from m.to m.number in
    let found : outcome_of (given (released w m.from m.to m.number)) ≡ Ok (outcome.Answer a) =
    cond_both (is_node w m.from && is_node w m.to) (given (released w m.from m.to m.number))
    (Err NoNode)
    (λ z.
    outcome_of z ≡ Ok (outcome.Answer a)
    → outcome_of (given (released w m.from m.to m.number)) ≡ Ok (outcome.Answer a)) (λ _ e. e)
    (λ _ e. absurd cc) h in
    moved-answer w m.to (given_to (node_at w.current m.to) m) a
    (subst (λ (z : Option Message). outcome_of (given z) ≡ Ok (outcome.Answer a)) there found)

-- a message that passes every test is refused only for its numbers
pub after-err : (s : NodeState) (r : Result Effect Refusal) (e : Refusal) → after s r ≡ Err e
    → r ≡ Err e
after-err s (Ok x) e h = absurd cc
after-err s (Err f) e h = cc

pub last-refusal : (ts : List (Bool × Refusal)) (last : Bool × Refusal) (x : Effect) (e : Refusal)
    → AllPass ts → guarded (ts ++ last ∷ []) x ≡ Err e → last.1 ≡ e
last-refusal [] last x e passed h =
    cond_both last.0 (Ok x) (Err last.1) (λ z. z ≡ Err e → last.1 ≡ e) (λ _ never. absurd cc)
    (λ _ same. cc) h
last-refusal ((true, r) ∷ ts) last x e passed h = last-refusal ts last x e passed.1 h
last-refusal ((false, r) ∷ ts) last x e passed h = let never = passed.0 in absurd cc

pub receive-passed : (s : NodeState) (m : Delivery) (e : Refusal) → AllPass (tests_of s m)
    → given_to s m ≡ Err e → e ≡ LinkSpent
unfolding receive
receive-passed s m e passed h =
    let x : Effect = receipt s.local m.from m.number m.message.stamp m.message.body in
    sym (last-refusal (tests_of s m) (fits (map length s.sent) x.sends, LinkSpent) x e passed
    (after-err s (checked (tests_of s m) (map length s.sent) x) e h))

-- and one that comes too early is refused for that
pub receive-early : (s : NodeState) (m : Delivery) (e : Refusal)
    → is_addressed s.local m.from m.to ≡ true
    → leb m.number (got_from s.local m.from + WINDOW) ≡ false
    → given_to s m ≡ Err e → e ≡ OutOfOrder
unfolding receive
receive-early s m e addressed early refused =
    let first : given_to s m ≡ Err OutOfOrder =
    ap (after s) (cond-true _ _ _ addressed ∙ cond-false _ _ _ early) in
    cc
