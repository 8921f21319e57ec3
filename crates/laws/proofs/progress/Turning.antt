-- What a step within a cycle does to the current states, whichever it is.
use Rattle.std.proofs.Common.{◌++◌, ◌≡◌, ◌≢◌, ℕ, ◌<◌, ◌≤◌, Bool, true, false, ltb, ltb-true, List, [], ◌∷◌, length, map, set, Result, Ok, Err, IsOk, refl, sym, ap, ◌∙◌, subst, ⊎_elim, arith}
use Rattle.std.proofs.lemmas.Bool.{cond_both, cond-true, cond-false, cases_Bool, lt-ltb, ltb-false, not-true, not-false, both_ways}
use Rattle.std.proofs.lemmas.List.{set-get_or}
use Rattle.ids.specs.Limits.{Shaped}
use Rattle.ids.specs.declared.refusal.Refusal.{Refusal}
use Rattle.ids.specs.declared.refusal.Refusal.TheVariants.{LinkSpent, NoNode, NothingToDo}
use Rattle.msg.specs.declared.body.Message.{Message}
use Rattle.model.specs.declared.event.Event.{Event}
use Rattle.model.specs.declared.event.Event.TheVariants as event
use Rattle.model.specs.declared.event.Answer.{Answer}
use Rattle.model.specs.declared.step.Step.{Step}
use Rattle.model.specs.declared.step.Step.TheVariants as step
use Rattle.model.specs.Checks.{AllPass, guarded}
use Rattle.model.specs.State.{LocalState, NodeState, no_node, node_at}
use Rattle.model.specs.Effects.{Effect}
use Rattle.model.specs.Collecting.{scanned, passed, swept_slots}
use Rattle.model.specs.Steps.{is_own, tests, made, fits, after, act, receive}
use Rattle.model.specs.World.{World, KeepsSent, new_world, happens, take_step, world_after, outcome_of, is_node, moved}
use Rattle.model.specs.Cuts.{Cut, Becomes}
use Rattle.model.proofs.Checks.{guarded-passed}
use Rattle.model.proofs.Leaving.{own-stands}
use Rattle.laws.proofs.StepFacts.{act-ok, Delivery, Delivered, Happening, nothing, acted, delivered, saved, restarted, happening, Receipt, repeated, next, receipt-cases}
use Rattle.laws.proofs.KeepsSent.{new-keeps-sent}
use Rattle.laws.proofs.Cuts.{run-keeps-sent, turn-number, cut-in_flight, shown}
use Rattle.laws.proofs.Turns.{Turn}
use Rattle.laws.proofs.Base.{inside-where, no-node-refuses, own-heard}
use Rattle.laws.proofs.Invariant.{phases_of}
use Rattle.laws.specs.Strategy.{now, is_grey, has_token}
use Rattle.laws.specs.Fairness.{is_turns}
use Rattle.laws.proofs.progress.Spaces.{Reached, reached-whole, reached-count, acts-so, act-step}
use Rattle.laws.proofs.progress.Hearing.{Took, plain-took}

-- why a step that the collector tried changes nothing
abbrev pub Excuse : Cut → Step → Type 0
Excuse c (step.Act i event.Scan) = is_grey c i ≡ false
Excuse c (step.Act i event.Pass) = (has_token c i ≡ true) → is_grey c i ≡ true
Excuse c (step.Act i (event.Sweep count)) = (phases_of c i).ended ≤ (phases_of c i).swept
Excuse c s = Unit {0}

abbrev pub is_act : Step → Bool
is_act (step.Act i e) = true
is_act s = false

-- Nothing changes; or a message is received; or a node scans, passes the token, or sweeps.
pub data Did (shape : Shaped) (c d : Cut) (s : Step) : Type 0 where
  rests : d ≡ c → Excuse c s → Did shape c d s
  takes : (from to : ℕ) (x : Message) → Took shape c d from to x → is_act s ≡ false
      → Did shape c d s
  scans : (i : ℕ) → i < shape.nodes → is_grey c i ≡ true
      → Turn c d i (scanned (c i).local).local (scanned (c i).local).sends → Did shape c d s
  passes : (i : ℕ) → i < shape.nodes → has_token c i ≡ true → is_grey c i ≡ false
      → s ≡ step.Act i event.Pass
      → Turn c d i (passed (c i).local).local (passed (c i).local).sends → Did shape c d s
  sweeps : (i count : ℕ) → i < shape.nodes → (phases_of c i).swept < (phases_of c i).ended
      → s ≡ step.Act i (event.Sweep count)
      → Turn c d i (swept_slots (c i).local count).local (swept_slots (c i).local count).sends
      → Did shape c d s

-- ---- a node's own event

-- a refused event changes nothing
refused-step : (w : World) (i : ℕ) (e : Event) (r : Refusal) → is_own e ≡ true
    → act (node_at w.current i) e ≡ Err r → happens w (step.Act i e) ≡ w
unfolding take_step
refused-step w i e r own refused =
    cond_both (is_node w i) _ _ (λ z. world_after w z ≡ w)
    (λ _. ap (world_after w) (cond-true (is_own e) _ _ own ∙ ap (moved w i) refused)) (λ _. refl)

-- only a node of the space passes the tests of its own event
acts-inside : {shape : Shaped} (w : World) (i : ℕ) (e : Event) → Reached shape w
    → is_own e ≡ true → AllPass (tests (now w i).local e) → i < shape.nodes
acts-inside w i e r own passed =
    inside-where i (λ z. AllPass (tests z.local e)) (reached-whole r).inv.base passed
    (no-node-refuses e own)

-- an event that was answered
pub ok-acts : {shape : Shaped} (w : World) (i : ℕ) (e : Event) → Reached shape w
    → is_own e ≡ true → IsOk (outcome_of (take_step w (step.Act i e)))
    → Turn (now w) (now (happens w (step.Act i e))) i
    (made (now w i).local (map length (now w i).sent) e).local
    (made (now w i).local (map length (now w i).sent) e).sends
unfolding take_step
ok-acts {shape = shape} w i e r own ok =
    cond_both (is_node w i) _ _ (λ z. IsOk (outcome_of z) → Turns (world_after w z))
    (λ inside.
    subst (λ z. IsOk (outcome_of z) → Turns (world_after w z)) (sym (cond-true (is_own e) _ _ own))
    (by (ltb-true _ _ inside) (act (now w i) e) refl))
    (λ _ never. absurd cc) ok
  where
    x : Effect
    x = made (now w i).local (map length (now w i).sent) e

    Turns : World → Type 0
    Turns v = Turn (now w) (now v) i x.local x.sends

    by : i < length w.current → (z : Result (NodeState × Answer) Refusal) → act (now w i) e ≡ z
        → IsOk (outcome_of (moved w i z)) → Turns (world_after w (moved w i z))
    by inside (Err f) is never = absurd cc
    by inside (Ok y) is ok_is = record {
      becomes = subst (λ (z : NodeState).
          Becomes (now w) (now (record w { current = set w.current i y.0 })) i z)
          (act-ok (now w i) e y.0 y.1 is).state (shown w i y.0 (λ _. false) inside refl);
      heard = own-heard (own-stands (now w i).local (map length (now w i).sent) e own);
    }

-- what passes all tests is answered, unless a link has no number left
pub acts-ok : {shape : Shaped} (w : World) (i : ℕ) (e : Event) → Reached shape w
    → is_own e ≡ true → AllPass (tests (now w i).local e)
    → outcome_of (take_step w (step.Act i e)) ≢ Err LinkSpent
    → IsOk (outcome_of (take_step w (step.Act i e)))
unfolding act take_step
acts-ok {shape = shape} w i e r own passed numbered =
    let s : NodeState = now w i in
    let counts : List ℕ = map length s.sent in
    let x : Effect = made s.local counts e in
    let within : i < length w.current =
    (let inside = acts-inside w i e r own passed in
    omega (arith, reached-count r, inside)) in
    ⊎_elim {C = IsOk (outcome_of (take_step w (step.Act i e)))}
    (λ fit.
    subst (λ z. IsOk (outcome_of z))
    (sym (act-step w i e _ x.answer within own (acts-so s e passed fit))) refl)
    (λ full.
    absurd (numbered
    (ap outcome_of
    (cond-true (is_node w i) _ _ (lt-ltb i (length w.current) within)
    ∙ cond-true (is_own e) _ _ own
    ∙ ap (λ (z : Result Effect Refusal). moved w i (after s z))
    (guarded-passed (tests s.local e) ((fits counts x.sends, LinkSpent) ∷ []) x passed
    ∙ cond-false (fits counts x.sends) _ _ full)))))
    (cases_Bool (fits counts x.sends))

-- and done
acts-on : {shape : Shaped} (w : World) (i : ℕ) (e : Event) → Reached shape w → is_own e ≡ true
    → AllPass (tests (now w i).local e)
    → outcome_of (take_step w (step.Act i e)) ≢ Err LinkSpent
    → (i < shape.nodes)
    × Turn (now w) (now (happens w (step.Act i e))) i
    (made (now w i).local (map length (now w i).sent) e).local
    (made (now w i).local (map length (now w i).sent) e).sends
acts-on w i e r own passed numbered =
    (acts-inside w i e r own passed, ok-acts w i e r own (acts-ok w i e r own passed numbered))

-- A test fails, whatever comes after it.
fails : (s : NodeState) (e : Event) (q : Refusal)
    → ((us : List (Bool × Refusal)) (x : Effect) → guarded (tests s.local e ++ us) x ≡ Err q)
    → act s e ≡ Err q
unfolding act
fails s e q refuses =
    let x : Effect = made s.local (map length s.sent) e in
    ap (after s) (refuses ((fits (map length s.sent) x.sends, LinkSpent) ∷ []) x)

module _ {shape : Shaped} {w : World} (r : Reached shape w) where
  abbrev Does : Step → Type 0
  Does s = Did shape (now w) (now (happens w s)) s

  refused : (i : ℕ) (e : Event) (q : Refusal) → is_own e ≡ true
      → act (node_at w.current i) e ≡ Err q → Excuse (now w) (step.Act i e) → Does (step.Act i e)
  refused i e q own is excuse = rests (ap now (refused-step w i e q own is)) excuse

  did-scan : (i : ℕ) → outcome_of (take_step w (step.Act i event.Scan)) ≢ Err LinkSpent
      → Does (step.Act i event.Scan)
  did-scan i numbered = ⊎_elim {C = Does (step.Act i event.Scan)}
      (λ grey.
      let done = acts-on w i event.Scan r refl (grey, tt) numbered in
      scans i done.0 grey done.1)
      (λ calm.
      refused i event.Scan NothingToDo refl
      (fails (now w i) event.Scan NothingToDo (λ us x. cond-false _ _ _ calm)) calm)
      (cases_Bool (is_grey (now w) i))

  did-pass : (i : ℕ) → outcome_of (take_step w (step.Act i event.Pass)) ≢ Err LinkSpent
      → Does (step.Act i event.Pass)
  did-pass i numbered = ⊎_elim {C = Does (step.Act i event.Pass)}
      (λ has. ⊎_elim {C = Does (step.Act i event.Pass)}
      (λ grey.
      refused i event.Pass NothingToDo refl
      (fails (now w i) event.Pass NothingToDo
      (λ us x. cond-true _ _ _ has ∙ cond-false _ _ _ (not-true _ grey))) (λ _. grey))
      (λ calm.
      let done = acts-on w i event.Pass r refl (has, (not-false _ calm, tt)) numbered in
      passes i done.0 has calm refl done.1)
      (cases_Bool (is_grey (now w) i)))
      (λ none.
      refused i event.Pass NothingToDo refl
      (fails (now w i) event.Pass NothingToDo (λ us x. cond-false _ _ _ none))
      (λ has. absurd (both_ways _ none has)))
      (cases_Bool (has_token (now w) i))

  did-sweep : (i count : ℕ)
      → outcome_of (take_step w (step.Act i (event.Sweep count))) ≢ Err LinkSpent
      → Does (step.Act i (event.Sweep count))
  did-sweep i count numbered =
      let swept : ℕ = (phases_of (now w) i).swept in
      let ended : ℕ = (phases_of (now w) i).ended in
      ⊎_elim {C = Does (step.Act i (event.Sweep count))}
      (λ ready.
      let done = acts-on w i (event.Sweep count) r refl (ready, tt) numbered in
      sweeps i count done.0 (ltb-true swept ended ready) refl done.1)
      (λ none.
      refused i (event.Sweep count) NothingToDo refl
      (fails (now w i) (event.Sweep count) NothingToDo (λ us x. cond-false _ _ _ none))
      (ltb-false swept ended none))
      (cases_Bool (ltb swept ended))

  -- a state keeps no early messages
  did-next : (i from : ℕ) → Does (step.Act i (event.Next from))
  did-next i from =
      let p : LocalState = (now w i).local in
      ⊎_elim {C = Does (step.Act i (event.Next from))}
      (λ there.
      refused i (event.Next from) NothingToDo refl
      (fails (now w i) (event.Next from) NothingToDo (λ us x. cond-true _ _ _ there)) tt)
      (λ none.
      refused i (event.Next from) NoNode refl
      (fails (now w i) (event.Next from) NoNode (λ us x. cond-false _ _ _ none)) tt)
      (cases_Bool (ltb from p.shape.nodes))

  -- ---- a message, and the others

  keeps : KeepsSent w
  keeps =
      subst KeepsSent r.is
      (run-keeps-sent (new_world shape) r.steps (new-keeps-sent shape))

  did-deliver : (s : Step) (m : Delivery) (t : NodeState) (a : Answer) → Delivered w m t a
      → is_act s ≡ false → ((c : Cut) → Excuse c s)
      → Did shape (now w) (now (record w { current = set w.current m.to t })) s
  did-deliver s m t a x other free = by (receipt-cases (node_at w.current m.to) m t a x.answered)
    where
      v : World
      v = record w { current = set w.current m.to t }

      by : Receipt (node_at w.current m.to) m t a → Did shape (now w) (now v) s
      by (repeated same says) =
          rests (ap (λ (z : List NodeState). now (record w { current = z }))
          (ap (λ (z : NodeState). set w.current m.to z) same
          ∙ set-get_or w.current m.to no_node)) (free (now w))
      by (next turn may found) = ⊎_elim {C = Did shape (now w) (now v) s}
          (λ same. rests same (free (now w)))
          (λ took. takes m.from m.to m.message took other)
          (plain-took (reached-whole r).inv
          (cut-in_flight w (λ _. false) m keeps refl x.there turn)
          (subst (λ (k : ℕ).
          receive (now w m.to) m.from m.to k m.message.stamp m.message.body ≡ Ok (t, a))
          (turn-number w (λ _. false) m refl turn) x.answered)
          (shown w m.to t (λ _. false) x.within refl))

  did-other : (s : Step) (v : World) → Happening w s v
      → is_act s ≡ false → ((i : ℕ) → s ≢ step.Restart i)
      → ((c : Cut) → Excuse c s) → Did shape (now w) (now v) s
  did-other s v nothing other no_restart free = rests refl (free (now w))
  did-other s v (acted i e t a is x) other no_restart free =
      absurd (both_ways _ other (ap is_act is))
  did-other s v (delivered m t a x) other no_restart free = did-deliver s m t a x other free
  did-other s v (saved i within) other no_restart free = rests refl (free (now w))
  did-other s v (restarted i is within) other no_restart free = absurd (no_restart i is)

  pub did : (s : Step) → is_turns s ≡ true → outcome_of (take_step w s) ≢ Err LinkSpent
      → Does s
  did (step.Act i event.Scan) turns numbered = did-scan i numbered
  did (step.Act i event.Pass) turns numbered = did-pass i numbered
  did (step.Act i (event.Sweep count)) turns numbered = did-sweep i count numbered
  did (step.Act i (event.Next from)) turns numbered = did-next i from
  did (step.Act i e) turns numbered = absurd cc
  did (step.Save i) turns numbered =
      did-other (step.Save i) _ (happening w (step.Save i)) refl (λ _ e. absurd cc)
      (λ _. tt)
  did (step.Restart i) turns numbered = absurd cc
  did (step.Deliver from to number) turns numbered =
      did-other (step.Deliver from to number) _ (happening w (step.Deliver from to number))
      refl (λ _ e. absurd cc) (λ _. tt)
  did (step.Hand from to) turns numbered =
      did-other (step.Hand from to) _ (happening w (step.Hand from to)) refl
      (λ _ e. absurd cc) (λ _. tt)
