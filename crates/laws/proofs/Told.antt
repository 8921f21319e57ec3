-- What a program is told in a run may be told in a space without a collector, after what was seen
-- before.
use Rattle.std.proofs.Common.{◌≡◌, ◌≢◌, ◌<◌, ℕ, Bool, true, false, ◌&&◌, List, [], ◌∷◌, ◌++◌, append-nil, append_assoc, length, Result, Ok, Err, refl, sym, ap, ◌∙◌, subst}
use Rattle.std.specs.Prelude.{not, IfErr}
use Rattle.std.proofs.lemmas.Bool.{and_from, cond-true, lt-ltb, not_from_false}
use Rattle.ids.specs.Limits.{Shaped, IsShape}
use Rattle.ids.specs.declared.refusal.Refusal.{Refusal}
use Rattle.ids.specs.declared.refusal.Refusal.TheVariants.{Memory}
use Rattle.model.specs.declared.event.Answer.{Answer}
use Rattle.model.specs.declared.event.Event.{Event}
use Rattle.model.specs.declared.event.Event.TheVariants as event
use Rattle.model.specs.declared.step.Outcome.{Outcome}
use Rattle.model.specs.declared.step.Outcome.TheVariants as outcome
use Rattle.model.specs.declared.step.Step.{Step}
use Rattle.model.specs.declared.step.Step.TheVariants as step
use Rattle.model.specs.State.{NodeState, node_at}
use Rattle.model.specs.Steps.{ack_of, act, is_own}
use Rattle.model.specs.View.{NodeView, Follows, IsTold}
use Rattle.model.specs.World.{World, happens, is_node, moved, new_world, outcome_of, run, take_step}
use Rattle.model.proofs.Refusals.{refused-as}
use Rattle.laws.specs.Objects.{Sight, Space, IsRun, MayBeTold, after, after_sight, is_program, new_space, told}
use Rattle.laws.specs.Sights.{choice_at_start, observed_in_cut, observed_in_step, told_of}
use Rattle.laws.proofs.KeepsSent.{node-count}
use Rattle.laws.proofs.Transparent.{collector-is-unseen}

-- ---- one list of steps after another

pub choices-append : (xs ys : List Step) (choice : ℕ → Bool)
    → choice_at_start (xs ++ ys) choice ≡ choice_at_start xs (choice_at_start ys choice)
choices-append [] ys choice = refl
choices-append (step.Act i e ∷ xs) ys choice = choices-append xs ys choice
choices-append (step.Save i ∷ xs) ys choice =
    ap (λ (c : ℕ → Bool). choice_at_start (step.Save i ∷ []) c) (choices-append xs ys choice)
choices-append (step.Restart i ∷ xs) ys choice =
    ap (λ (c : ℕ → Bool). choice_at_start (step.Restart i ∷ []) c) (choices-append xs ys choice)
choices-append (step.Deliver from to number ∷ xs) ys choice = choices-append xs ys choice
choices-append (step.Hand from to ∷ xs) ys choice = choices-append xs ys choice

pub observed-append : (w : World) (xs ys : List Step) (choice : ℕ → Bool)
    → observed_in_cut w (xs ++ ys) choice
    ≡ observed_in_cut w xs (choice_at_start ys choice) ++ observed_in_cut (run w xs) ys choice
observed-append w [] ys choice = refl
observed-append w (x ∷ xs) ys choice =
    (λ i.
    observed_in_step w (choices-append xs ys choice i) x (outcome_of (take_step w x))
    ++ observed-append (happens w x) xs ys choice i)
    ∙ sym (append_assoc
    (observed_in_step w (choice_at_start xs (choice_at_start ys choice)) x
    (outcome_of (take_step w x)))
    (observed_in_cut (happens w x) xs (choice_at_start ys choice))
    (observed_in_cut (run (happens w x) xs) ys choice))

-- the last part of a run of a space without a collector
pub runs-then : (shape : Shaped) (s : Space) (xs ys : List Sight) → IsRun shape s (xs ++ ys)
    → IsRun shape (after s xs) ys
runs-then shape s [] ys runs = runs
runs-then shape s (x ∷ xs) ys runs = runs-then shape (after_sight s x) xs ys runs.1

-- ---- an event of a program

pub program-own : (e : Event) → is_program e ≡ true → is_own e ≡ true
program-own (event.Data d) is = absurd cc
program-own (event.Ack a) is = absurd cc
program-own e is = refl

program-told : (e : Event) (x : Refusal) → is_program e ≡ true → IsTold (ack_of e) x
program-told (event.Ack a) x is = absurd cc
program-told e x is = tt

-- the outcome of the step that the event is
abbrev pub as_outcome : Result Answer Refusal → Result Outcome Refusal
as_outcome (Ok a) = Ok (outcome.Answer a)
as_outcome (Err x) = Err x

pub told-once : (i : ℕ) (e : Event) (result : Result Answer Refusal)
    → told_of i e (as_outcome result) ≡ told i e result ∷ []
told-once i e (Ok a) = refl
told-once i e (Err x) = refl

pub moved-as : (w : World) (i : ℕ) (e : Event) (result : Result Answer Refusal) (n : NodeView)
    (r : Result (NodeState × Answer) Refusal) → is_program e ≡ true → Follows e result n r
    → IfErr result (λ x. x ≢ Memory) → outcome_of (moved w i r) ≡ as_outcome result
moved-as w i e (Ok a) n r is found plenty =
    ap (λ (q : Result (NodeState × Answer) Refusal). outcome_of (moved w i q)) found.1
moved-as w i e (Err x) n r is refused plenty =
    ap (λ (q : Result (NodeState × Answer) Refusal). outcome_of (moved w i q))
    (refused-as (refused (program-told e x is)) plenty)

pub acted-as : (w : World) (i : ℕ) (e : Event) (result : Result Answer Refusal)
    → is_node w i ≡ true → is_own e ≡ true
    → outcome_of (moved w i (act (node_at w.current i) e)) ≡ as_outcome result
    → outcome_of (take_step w (step.Act i e)) ≡ as_outcome result
unfolding take_step
acted-as w i e result inside own is =
    ap outcome_of
    (cond-true (is_node w i) _ _ inside ∙ cond-true (is_own e) _ _ own)
    ∙ is

-- the one more sight
pub sight-of : (w : World) (choice : ℕ → Bool) (i : ℕ) (e : Event) (result : Result Answer Refusal)
    → is_node w i ≡ true → is_program e ≡ true → choice i ≡ false
    → outcome_of (take_step w (step.Act i e)) ≡ as_outcome result
    → observed_in_cut w (step.Act i e ∷ []) choice ≡ told i e result ∷ []
sight-of w choice i e result inside program current is =
    append-nil (observed_in_step w choice (step.Act i e) (outcome_of (take_step w (step.Act i e))))
    ∙ cond-true (is_node w i && (is_program e && not (choice i))) _ _
    (and_from (is_node w i) _ inside
    (and_from (is_program e) _ program (not_from_false (choice i) current)))
    ∙ ap (told_of i e) is
    ∙ told-once i e result

-- what a program is told after any run
pub may-be-told : (shape : Shaped) → IsShape shape → (steps : List Step) (choice : ℕ → Bool)
    (i : ℕ) (e : Event) (result : Result Answer Refusal) (n : NodeView) → i < shape.nodes
    → is_program e ≡ true → choice i ≡ false
    → Follows e result n (act (node_at (run (new_world shape) steps).current i) e)
    → IfErr result (λ x. x ≢ Memory)
    → MayBeTold (after (new_space shape) (observed_in_cut (new_world shape) steps choice)) i shape
    e result
may-be-told shape within steps choice i e result n below program current follows plenty =
    let w : World = run (new_world shape) steps in
    let inside : is_node w i ≡ true =
    lt-ltb i (length w.current) (subst (λ (k : ℕ). i < k) (sym (node-count shape steps)) below) in
    let is = acted-as w i e result inside (program-own e program)
    (moved-as w i e result n (act (node_at w.current i) e) program follows plenty) in
    let last : List Step = step.Act i e ∷ [] in
    let sights : observed_in_cut (new_world shape) (steps ++ last) choice
    ≡ observed_in_cut (new_world shape) steps choice ++ told i e result ∷ [] =
    observed-append (new_world shape) steps last choice
    ∙ ap (λ (l : List Sight). observed_in_cut (new_world shape) steps choice ++ l)
    (sight-of w choice i e result inside program current is) in
    let runs = subst (IsRun shape (new_space shape)) sights
    (collector-is-unseen shape within (steps ++ last) choice).0 in
    (runs-then shape (new_space shape) (observed_in_cut (new_world shape) steps choice)
    (told i e result ∷ []) runs).0.2
