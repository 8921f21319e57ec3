-- Each cut after a step is a cut before it, or one that a plain step followed.
use Rattle.std.proofs.Common.{◌≡◌, ℕ, ◌≢◌, ◌+◌, ◌-◌, ◌<◌, Bool, true, false, cond, eqb, eq-eqb, ◌==◌, ne_eqb, ltb, lt-ltb, List, [], ◌∷◌, length, set, Option, Some, None, slice_get, Result, Ok, refl, sym, ap, ◌∙◌, subst, ⊎_elim, get_or-set_same, get_or-set_other, arith, le_refl}
use Rattle.std.proofs.lemmas.Bool.{cond_both, cond-true, cond-false, cases_Bool, cases_eq}
use Rattle.std.proofs.lemmas.List.{set-get_or}
use Rattle.std.proofs.Math.Path.{fun_ext}
use Rattle.msg.specs.declared.body.Message.{Message}
use Rattle.model.specs.declared.event.Event.{Event}
use Rattle.model.specs.declared.event.Answer.{Answer}
use Rattle.model.specs.declared.step.Step.{Step}
use Rattle.model.specs.declared.step.Outcome.{Outcome}
use Rattle.ids.specs.declared.refusal.Refusal.{Refusal}
use Rattle.model.specs.State.{NodeState, no_node, node_at, sent_to, got_from}
use Rattle.model.specs.Steps.{act, receive}
use Rattle.model.specs.World.{World, KeepsSent, released, numbered, new_world, happens, outcome_of, run, take_step}
use Rattle.model.specs.Cuts.{Cut, cut, taken, IsInFlight, Becomes, PlainStep, acts, delivers, PlainRun, still, further}
use Rattle.ids.specs.Limits.{Shaped}
use Rattle.model.specs.declared.step.Step.TheVariants as step
use Rattle.laws.specs.Statements.{OfEveryRun, CutsExtend, StaysUp, IfDone, EachDone}
use Rattle.laws.specs.Sights.{choosing}
use Rattle.model.proofs.Lookups.{at_set_if}
use Rattle.laws.proofs.Lookups.{Grows, grows-refl, slice_get-grows}
use Rattle.laws.proofs.StepFacts.{Delivery, given_to, IsTurnOf, IsReleased, Acted, Delivered, Happening, nothing, acted, delivered, saved, restarted, happening, acted-done, Receipt, repeated, next, receipt-cases}
use Rattle.laws.proofs.KeepsSent.{keeps-sent, new-keeps-sent}

-- A plain run whose nodes' own events all have a property.
abbrev pub HasEvent : (P : Event → Type 0) {c d : Cut} → PlainStep c d → Type 0
HasEvent P (acts i e s a own answered becomes) = P e
HasEvent P (delivers from to x s a flight answered becomes) = Unit {0}

pub data RunOf (P : Event → Type 0) (c : Cut) : Cut → Type 0 where
  rests : {d : Cut} → ((i : ℕ) → d i ≡ c i) → RunOf P c d
  steps_on : {d e : Cut} → RunOf P c d → (s : PlainStep d e) → HasEvent P s → RunOf P c e

pub plain-run : {P : Event → Type 0} {c d : Cut} → RunOf P c d → PlainRun c d
plain-run (rests same) = still same
plain-run (steps_on before s has) = further (plain-run before) s

-- one run after another
run-run : {P : Event → Type 0} {c d e : Cut} → RunOf P c d → RunOf P d e → RunOf P c e
run-run {P = P} {c = c} {d = d} {e = e} p (rests same) =
    subst (λ (z : Cut). RunOf P c z) (sym (fun_ext same)) p
run-run p (steps_on q s has) = steps_on (run-run p q) s has

-- the cut has the current state if that is chosen
pub current-chosen : (w : World) (choice : ℕ → Bool) (i : ℕ) → choice i ≡ false
    → cut w choice i ≡ node_at w.current i
current-chosen w choice i chosen = cond-false (choice i) _ _ chosen

-- what a node's saved state sent is the first part of what the node in a cut sent
pub cut-sent : (w : World) (choice : ℕ → Bool) (i j : ℕ) → KeepsSent w
    → Grows (sent_to (node_at w.saved i) j) (sent_to (cut w choice i) j)
cut-sent w choice i j h =
    cond_both (choice i) (node_at w.saved i) (node_at w.current i)
    (λ z. Grows (sent_to (node_at w.saved i) j) (sent_to z j)) (λ _. grows-refl _) (λ _. h.sent i j)

pub numbered-at : (sent : List Message) (k : ℕ) (x : Message) → numbered sent (k + 1) ≡ Some x
    → slice_get sent k ≡ Some x
numbered-at sent k x h =
    let back : k ≡ k + 1 - 1 = omega arith in
    let positive : 0 < k + 1 = omega arith in
    ap (slice_get sent) back
    ∙ sym (cond-true (ltb 0 (k + 1)) (slice_get sent (k + 1 - 1)) None (lt-ltb 0 (k + 1) positive))
    ∙ h

-- in each cut, a released message goes to another node, and is at its number in what the sender
-- sent
pub released-numbered : (own : Bool) (found : Option Message) (x : Message)
    → cond own None found ≡ Some x → (own ≡ false) × (found ≡ Some x)
released-numbered true found x h = absurd cc
released-numbered false found x h = (refl, h)

cut-released : (w : World) (choice : ℕ → Bool) (from to number : ℕ) (x : Message) → KeepsSent w
    → released w from to (number + 1) ≡ Some x
    → slice_get (sent_to (cut w choice from) to) number ≡ Some x
cut-released w choice from to number x h there =
    let sent : List Message = sent_to (node_at w.saved from) to in
    slice_get-grows sent _ number x (cut-sent w choice from to h)
    (numbered-at sent number x
    (released-numbered (from == to) (numbered sent (number + 1)) x there).1)

-- a released message that is next in turn is the first in flight if the receiver's current state is
-- chosen
pub turn-number : (w : World) (choice : ℕ → Bool) (m : Delivery) → choice m.to ≡ false
    → IsTurnOf (node_at w.current m.to) m → m.number ≡ taken (cut w choice) m.from m.to + 1
turn-number w choice m chosen turn =
    turn
    ∙ ap (λ (z : NodeState). got_from z.local m.from + 1)
    (sym (current-chosen w choice m.to chosen))

pub cut-in_flight : (w : World) (choice : ℕ → Bool) (m : Delivery) → KeepsSent w
    → choice m.to ≡ false → IsReleased w m → IsTurnOf (node_at w.current m.to) m
    → IsInFlight (cut w choice) m.from m.to (taken (cut w choice) m.from m.to) m.message
cut-in_flight w choice m h chosen there turn = record {
  later = le_refl _;
  there = cut-released w choice m.from m.to (taken (cut w choice) m.from m.to) m.message h
      (subst (λ (k : ℕ). released w m.from m.to k ≡ Some m.message)
      (turn-number w choice m chosen turn) there);
}

-- the cuts before and after
abbrev Before : (Event → Type 0) → World → Cut → Type 0
Before P w d = (earlier : ℕ → Bool) × RunOf P (cut w earlier) d

-- the current state of a node changes
module _ (w : World) (i : ℕ) (t : NodeState) (choice : ℕ → Bool) where
  abbrev pub after_change : Cut
  after_change = cut (record w { current = set w.current i t }) choice

  -- the change doesn't show if the node's saved state is chosen
  pub hidden : choice i ≡ true → (j : ℕ) → after_change j ≡ cut w choice j
  hidden chosen j =
      at_set_if (λ z. cond (choice j) (node_at w.saved j) z ≡ cut w choice j) w.current i j t
      no_node
      (λ e. let there : choice j ≡ true = subst (λ (n : ℕ). choice n ≡ true) e chosen in
      cond-true (choice j) (node_at w.saved j) t there
      ∙ sym (cond-true (choice j) (node_at w.saved j) (node_at w.current j) there))
      refl

  -- otherwise it shows
  pub shown : i < length w.current → choice i ≡ false → Becomes (cut w choice) after_change i t
  shown within chosen = record {
    changed = cond-false (choice i) _ _ chosen ∙ get_or-set_same w.current i t no_node within;
    others = λ j other.
        ap (λ (z : NodeState). cond (choice j) (node_at w.saved j) z)
        (get_or-set_other w.current i j t no_node other);
  }

  changed-by : (P : Event → Type 0) → i < length w.current
      → (choice i ≡ false → Becomes (cut w choice) after_change i t
      → (s : PlainStep (cut w choice) after_change) × HasEvent P s) → Before P w after_change
  changed-by P within step = (
    choice,
    ⊎_elim {C = RunOf P (cut w choice) after_change}
        (λ chosen. rests (hidden chosen))
        (λ chosen.
        let x = step chosen (shown within chosen) in steps_on (rests (λ j. refl)) x.0 x.1)
        (cases_Bool (choice i)),
  )

  -- nothing changed
  same-world : (P : Event → Type 0) → t ≡ node_at w.current i
      → RunOf P (cut w choice) after_change
  same-world P same =
      let states : set w.current i t ≡ w.current =
      ap (λ (z : NodeState). set w.current i z) same ∙ set-get_or w.current i no_node in
      subst
      (λ (z : List NodeState). RunOf P (cut w choice) (cut (record w { current = z }) choice))
      (sym states) (rests (λ j. refl))

cut-acted : (P : Event → Type 0) {i : ℕ} {e : Event} {t : NodeState} {a : Answer} (w : World)
    (choice : ℕ → Bool) → Acted w i e t a → P e → Before P w (after_change w i t choice)
cut-acted P {i = i} {e = e} {t = t} {a = a} w choice x has =
    changed-by w i t choice P x.within
    (λ chosen becomes. (
      acts i e t a x.own (subst (λ (z : NodeState). act z e ≡ Ok (t, a))
          (sym (current-chosen w choice i chosen)) x.answered) becomes,
      has,
    ))

cut-received : (P : Event → Type 0) {m : Delivery} {t : NodeState} {a : Answer} {d : Cut}
    (w : World)
    (choice : ℕ → Bool)
    → KeepsSent w → Delivered w m t a → IsTurnOf (node_at w.current m.to) m → choice m.to ≡ false
    → Becomes (cut w choice) d m.to t → (s : PlainStep (cut w choice) d) × HasEvent P s
cut-received P {m = m} {t = t} {a = a} w choice h x turn chosen becomes =
    let here : node_at w.current m.to ≡ cut w choice m.to =
    sym (current-chosen w choice m.to chosen) in (
      delivers m.from m.to m.message t a (cut-in_flight w choice m h chosen x.there turn)
          (subst (λ (k : ℕ).
          receive (cut w choice m.to) m.from m.to k m.message.stamp m.message.body ≡ Ok (t, a))
          (turn-number w choice m chosen turn)
          (subst (λ (z : NodeState). given_to z m ≡ Ok (t, a)) here x.answered))
          becomes,
      tt,
    )

cut-delivered : (P : Event → Type 0) {m : Delivery} {t : NodeState} {a : Answer} (w : World)
    (choice : ℕ → Bool)
    → KeepsSent w → Delivered w m t a → Receipt (node_at w.current m.to) m t a
    → Before P w (after_change w m.to t choice)
cut-delivered P {m = m} {t = t} w choice h x (repeated same says) =
    (choice, same-world w m.to t choice P same)
cut-delivered P {m = m} {t = t} w choice h x (next turn may found) =
    changed-by w m.to t choice P x.within
    (λ chosen becomes. cut-received P w choice h x turn chosen becomes)

-- After a save or a restart a node's current and saved states are the same, one that it had before.
either : (b : Bool) (x y : NodeState) → x ≡ y → cond b x y ≡ y
either true x y h = h
either false x y h = refl

pub cut-choosing : (w : World) (choice : ℕ → Bool) (i : ℕ) (b : Bool) (s : NodeState) (j : ℕ)
    → (j ≡ i → s ≡ cond b (node_at w.saved j) (node_at w.current j)) → (j ≢ i → s ≡ cut w choice j)
    → s ≡ cut w (choosing choice i b) j
cut-choosing w choice i b s j here others = ⊎_elim
    (λ (e : j ≡ i).
    here e
    ∙ sym (ap (λ (z : Bool). cond z (node_at w.saved j) (node_at w.current j))
    (cond-true (eqb j i) b (choice j) (eq-eqb j i e))))
    (λ (other : j ≢ i).
    others other
    ∙ sym (ap (λ (z : Bool). cond z (node_at w.saved j) (node_at w.current j))
    (cond-false (eqb j i) b (choice j) (ne_eqb j i other))))
    (cases_eq j i)

-- the element at a place that was written
set-here : (states : List NodeState) (i j : ℕ) (s : NodeState) → i < length states → j ≡ i
    → node_at (set states i s) j ≡ s
set-here states i j s within e =
    ap (node_at (set states i s)) e ∙ get_or-set_same states i s no_node within

pub cut-saved : (w : World) (i : ℕ) (choice : ℕ → Bool) → i < length w.saved → (j : ℕ)
    → cut (record w { saved = set w.saved i (node_at w.current i) }) choice j
    ≡ cut w (choosing choice i false) j
cut-saved w i choice within j =
    cut-choosing w choice i false _ j
    (λ e.
    either (choice j) _ _
    (set-here w.saved i j (node_at w.current i) within e ∙ ap (node_at w.current) (sym e)))
    (λ other.
    ap (λ (z : NodeState). cond (choice j) z (node_at w.current j))
    (get_or-set_other w.saved i j (node_at w.current i) no_node other))

pub cut-restarted : (w : World) (i : ℕ) (choice : ℕ → Bool) → i < length w.current → (j : ℕ)
    → cut (record w { current = set w.current i (node_at w.saved i) }) choice j
    ≡ cut w (choosing choice i true) j
cut-restarted w i choice within j =
    cut-choosing w choice i true _ j
    (λ e. let there : node_at (set w.current i (node_at w.saved i)) j ≡ node_at w.saved j =
    set-here w.current i j (node_at w.saved i) within e ∙ ap (node_at w.saved) (sym e) in
    either (choice j) _ _ (sym there) ∙ there)
    (λ other.
    ap (λ (z : NodeState). cond (choice j) (node_at w.saved j) z)
    (get_or-set_other w.current i j (node_at w.saved i) no_node other))

cut-happening : (P : Event → Type 0) {s : Step} (w v : World) (choice : ℕ → Bool)
    → Happening w s v → IfDone P s (outcome_of (take_step w s)) → KeepsSent w
    → Before P w (cut v choice)
cut-happening P w v choice nothing done h = (choice, rests (λ j. refl))
cut-happening P w v choice (acted i e t a is x) done h =
    cut-acted P w choice x
    (acted-done P x
    (subst (λ (z : Step). IfDone P z (outcome_of (take_step w z))) is done))
cut-happening P w v choice (delivered m t a x) done h =
    cut-delivered P w choice h x (receipt-cases (node_at w.current m.to) m t a x.answered)
cut-happening P w v choice (saved i within) done h =
    let inside : i < length w.saved = omega (arith, h.width) in
    (choosing choice i false, rests (cut-saved w i choice inside))
cut-happening P w v choice (restarted i is within) done h =
    (choosing choice i true, rests (cut-restarted w i choice within))

-- the same for a list of steps
cut-run : (P : Event → Type 0) (w : World) (steps : List Step) (choice : ℕ → Bool)
    → EachDone P w steps → KeepsSent w → Before P w (cut (run w steps) choice)
cut-run P w [] choice done h = (choice, rests (λ j. refl))
cut-run P w (s ∷ ss) choice done h =
    let later = cut-run P (happens w s) ss choice done.1 (keeps-sent w s h) in
    let first = cut-happening P w (happens w s) later.0 (happening w s) done.0 h in
    (first.0, run-run first.1 later.1)

pub run-keeps-sent : (w : World) (steps : List Step) → KeepsSent w → KeepsSent (run w steps)
run-keeps-sent w [] h = h
run-keeps-sent w (s ∷ ss) h = run-keeps-sent (happens w s) ss (keeps-sent w s h)

-- A node whose current state is chosen goes on from its current state, unless it restarts.
kept-delivered : (P : Event → Type 0) {m : Delivery} {t : NodeState} {a : Answer} (w : World)
    (choice : ℕ → Bool) (h : KeepsSent w) (x : Delivered w m t a)
    (r : Receipt (node_at w.current m.to) m t a) (i : ℕ)
    → (cut-delivered P w choice h x r).0 i ≡ choice i
unfolding cut-delivered changed-by
kept-delivered P w choice h x (repeated same says) i = refl
kept-delivered P w choice h x (next turn may found) i = refl

kept-happening : (P : Event → Type 0) {s : Step} (w v : World) (choice : ℕ → Bool)
    (x : Happening w s v) (done : IfDone P s (outcome_of (take_step w s))) (h : KeepsSent w) (i : ℕ)
    → s ≢ step.Restart i → choice i ≡ false
    → (cut-happening P w v choice x done h).0 i ≡ false
unfolding cut-happening cut-acted changed-by
kept-happening P w v choice nothing done h i other chosen = chosen
kept-happening P w v choice (acted j e t a is x) done h i other chosen = chosen
kept-happening P w v choice (delivered m t a x) done h i other chosen =
    kept-delivered P w choice h x (receipt-cases (node_at w.current m.to) m t a x.answered) i
    ∙ chosen
kept-happening P w v choice (saved j within) done h i other chosen =
    cond_both (eqb i j) false (choice i) (λ z. z ≡ false) (λ _. refl) (λ _. chosen)
kept-happening P w v choice (restarted j is within) done h i other chosen =
    let apart : i ≢ j = λ e. other (is ∙ ap step.Restart (sym e)) in
    cond-false (eqb i j) true (choice i) (ne_eqb i j apart) ∙ chosen

kept-run : (P : Event → Type 0) (w : World) (steps : List Step) (choice : ℕ → Bool)
    (done : EachDone P w steps) (h : KeepsSent w) (i : ℕ)
    → StaysUp i steps → choice i ≡ false → (cut-run P w steps choice done h).0 i ≡ false
unfolding cut-run
kept-run P w [] choice done h i stays chosen = chosen
kept-run P w (s ∷ ss) choice done h i stays chosen =
    let later = cut-run P (happens w s) ss choice done.1 (keeps-sent w s h) in
    kept-happening P w (happens w s) later.0 (happening w s) done.0 h i stays.0
    (kept-run P (happens w s) ss choice done.1 (keeps-sent w s h) i stays.1 chosen)

-- Every event has the property that all have.
abbrev AnyEvent : Event → Type 0
AnyEvent e = Unit {0}

any-done : (s : Step) (r : Result Outcome Refusal) → IfDone AnyEvent s r
any-done (step.Act i e) (Ok o) = tt
any-done s r = tt

pub all-done : (w : World) (steps : List Step) → EachDone AnyEvent w steps
all-done w [] = tt
all-done w (s ∷ ss) = (any-done s (outcome_of (take_step w s)), all-done (happens w s) ss)

-- The cut before some steps of a run from which the cut after them comes, and how.
pub cut-before : (P : Event → Type 0) (shape : Shaped) (earlier later : List Step)
    (choice : ℕ → Bool) → EachDone P (run (new_world shape) earlier) later
    → (before : ℕ → Bool) × RunOf P (cut (run (new_world shape) earlier) before)
    (cut (run (run (new_world shape) earlier) later) choice)
cut-before P shape earlier later choice done =
    cut-run P (run (new_world shape) earlier) later choice done
    (run-keeps-sent (new_world shape) earlier (new-keeps-sent shape))

pub cuts-extend : OfEveryRun CutsExtend
cuts-extend shape within earlier later choice =
    let before =
    cut-before AnyEvent shape earlier later choice
    (all-done (run (new_world shape) earlier) later) in
    (before.0, plain-run before.1)

pub kept-current : (P : Event → Type 0) (shape : Shaped) (earlier later : List Step)
    (choice : ℕ → Bool) (done : EachDone P (run (new_world shape) earlier) later) (i : ℕ)
    → StaysUp i later → choice i ≡ false
    → (cut-before P shape earlier later choice done).0 i ≡ false
unfolding cut-before cut-run
kept-current P shape earlier later choice done i stays chosen =
    kept-run P (run (new_world shape) earlier) later choice done
    (run-keeps-sent (new_world shape) earlier (new-keeps-sent shape)) i stays chosen
