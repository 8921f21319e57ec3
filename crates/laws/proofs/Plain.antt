-- Each plain step keeps the invariant.
use Rattle.std.proofs.Common.{◌≡◌, ℕ, ◌+ℤ◌, ◌≤◌, ◌==◌, true, List, [], ◌∷◌, map, length, Some, refl, sym, ◌∙◌, subst, ltb-true, arith}
use Rattle.std.specs.Int.{w64, int_wrap}
use Rattle.std.proofs.lemmas.Bool.{eqb-true, not-true}
use Rattle.std.proofs.Math.Path.{fun_ext}
use Rattle.ids.specs.Limits.{Shaped}
use Rattle.msg.specs.declared.body.Token.{Token}
use Rattle.model.specs.declared.event.Event.{Event}
use Rattle.model.specs.declared.event.Event.TheVariants as event
use Rattle.model.specs.Checks.{AllPass}
use Rattle.model.specs.State.{NodeState}
use Rattle.model.specs.Collecting.{is_swept_everywhere, scanned, swept_slots}
use Rattle.model.specs.Steps.{tests, made, is_addressed}
use Rattle.model.specs.Cuts.{Cut, Becomes, PlainStep, acts, delivers}
use Rattle.model.proofs.Walk.{work_in}
use Rattle.laws.proofs.StepFacts.{act-ok, Receipt, repeated, next, receipt-cases}
use Rattle.laws.proofs.Turns.{at_becomes}
use Rattle.laws.proofs.Base.{inside-where, no-node-refuses, no-node-takes_nothing, first_in_flight}
use Rattle.laws.proofs.Invariant.{Unknown, Recalled, Inv}
use Rattle.laws.proofs.Moves.{worked}
use Rattle.laws.proofs.OwnEvents.{OwnStep, program-moves}
use Rattle.laws.proofs.Replies.{taken-inv}
use Rattle.laws.proofs.Cycles.{scan-inv, sweep-event}
use Rattle.laws.proofs.Rounds.{some-of, Passing, pass-inv}
use Rattle.laws.proofs.Begins.{Beginning, begin-inv}
use Rattle.laws.proofs.ReclaimSteps.{reclaim-inv}

-- no sum that a node passes on wraps
abbrev pub Unwrapped : Cut → Type 0
Unwrapped c = (i : ℕ) (t : Token) → (c i).local.ring.token ≡ Some t
    → int_wrap w64 (t.q +ℤ (c i).local.ring.earlier) ≡ t.q +ℤ (c i).local.ring.earlier

calm-is : (grey : List ℕ) → (length grey == 0) ≡ true → grey ≡ []
calm-is [] h = refl
calm-is (k ∷ grey) h = absurd (omega (arith, eqb-true (length (k ∷ grey)) 0 h))

-- a step of a node's own
own-inv : {shape : Shaped} {c d : Cut} (i : ℕ) (counts : List ℕ) (e : Event) → 2 ≤ shape.nodes
    → Unwrapped c → Unknown c × Recalled c → OwnStep shape c d i counts e → Inv shape d
unfolding scanned swept_slots
own-inv i counts (event.Reclaim scope) several unwrapped known step =
    reclaim-inv i scope step.inside known.0 known.1 step.becomes step.inv
own-inv {shape = shape} {c = c} {d = d} i counts event.Begin several unwrapped known step =
    let zero_is : i ≡ 0 =
    sym (step.inv.base.own i step.inside) ∙ eqb-true (c i).local.own 0 step.passed.0 in
    let begins : Beginning shape c d = record {
      inv = step.inv;
      several = several;
      swept = subst (λ (z : ℕ). is_swept_everywhere (c z).local.phases ≡ true) zero_is
          step.passed.1.0;
      becomes =
          subst (λ (z : ℕ).
          Becomes c d z (worked (c z) (work_in (made (c z).local counts event.Begin))))
          zero_is step.becomes;
    } in
    begin-inv begins
own-inv i counts event.Scan several unwrapped known step =
    (scan-inv i step.inside (not-true _ step.passed.0) step.becomes step.inv).inv
own-inv {shape = shape} {c = c} {d = d} i counts event.Pass several unwrapped known step =
    let found = some-of (c i).local.ring.token step.passed.0 in
    let passing : Passing shape c d i found.0 = record {
      inv = step.inv;
      inside = step.inside;
      several = several;
      held = found.1;
      calm = calm-is (c i).local.heap.grey step.passed.1.0;
      unwrapped = unwrapped i found.0 found.1;
      becomes = step.becomes;
    } in
    pass-inv passing
own-inv i counts (event.Sweep count) several unwrapped known step =
    sweep-event i count step.inside (ltb-true _ _ step.passed.0) step.becomes step.inv
own-inv i counts e several unwrapped known step =
    (program-moves i counts e refl step).inv

pub plain-inv : {shape : Shaped} {c d : Cut} → 2 ≤ shape.nodes → Unwrapped c
    → Unknown c × Recalled c → PlainStep c d → Inv shape c → Inv shape d
plain-inv {shape = shape} {c = c} {d = d} several unwrapped known
    (acts i e s a own answered becomes) inv =
    let found = act-ok (c i) e s a answered in
    own-inv i (map length (c i).sent) e several unwrapped known (record {
      inv = inv;
      inside = inside-where i (λ z. AllPass (tests z.local e)) inv.base found.passed
          (no-node-refuses e own);
      own = own;
      passed = found.passed;
      becomes = subst (λ (z : NodeState). Becomes c d i z) found.state becomes;
    })
plain-inv {shape = shape} {c = c} {d = d} several unwrapped known
    (delivers from to x s a flight answered becomes) inv =
    by (receipt-cases (c to) (first_in_flight c from to x) s a answered)
  where
    by : Receipt (c to) (first_in_flight c from to x) s a → Inv shape d
    by (repeated same says) =
        subst (λ (z : Cut). Inv shape z)
        (sym (fun_ext (at_becomes (λ j z. z ≡ c j) becomes same (λ j _. refl)))) inv
    by (next turn may found) =
        taken-inv x inv
        (inside-where to (λ z. is_addressed z.local from to ≡ true) inv.base found.passed.0
        (no-node-takes_nothing from to))
        flight (subst (λ (z : NodeState). Becomes c d to z) found.state becomes)
