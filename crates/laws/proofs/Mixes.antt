-- A mix of a run has for each node a state that was saved so far, or the current one. If a mix
-- fits, a run ends with its states.
use Rattle.std.proofs.Common.{◌≡◌, ◌≢◌, ℕ, ◌+◌, ◌-◌, ◌<◌, ◌≤◌, ◌==◌, ◌&&◌, ◌++◌, ◌⊎◌, true, false, ltb, lt-ltb, ne_eqb, List, [], ◌∷◌, length, length-set, set, append-nil, append_assoc, Some, slice_get, Ok, refl, sym, ap, ◌∙◌, subst, inl, inr, ⊎_elim, get_or, get_or-set_same, get_or-set_other, arith}
use Rattle.std.proofs.lemmas.Bool.{and_from, cond-true, cond-false, cases_eq, eqb-false}
use Rattle.ids.specs.Limits.{Shaped, IsShape}
use Rattle.msg.specs.declared.body.Message.{Message}
use Rattle.model.specs.declared.event.Event.{Event}
use Rattle.model.specs.declared.event.Answer.{Answer}
use Rattle.model.specs.declared.step.Step.{Step}
use Rattle.model.specs.declared.step.Step.TheVariants as step
use Rattle.model.specs.State.{LocalState, NodeState, no_node, node_at, sent_to, got_from}
use Rattle.model.specs.Steps.{act, is_own}
use Rattle.model.specs.World.{World, delivery, happens, is_node, moved, new_world, numbered, run, take_step, world_after}
use Rattle.model.specs.Cuts.{Cut, Becomes}
use Rattle.model.proofs.Lookups.{at_set_if, slice_get-left}
use Rattle.model.proofs.Leaving.{taken-stands}
use Rattle.model.proofs.Runs.{run-append, run-push}
use Rattle.laws.proofs.Lookups.{Grows, slice_get-grows}
use Rattle.laws.proofs.StepFacts.{Acted, Delivered, Delivery, Happening, Receipt, acted, delivered, given_to, happening, next, nothing, receipt-cases, repeated, restarted, saved}
use Rattle.laws.proofs.Onward.{Behind, Onward, run-saved}
use Rattle.laws.proofs.KeepsSent.{SentMore, sent-onward, new-keeps-sent, node-count}
use Rattle.laws.proofs.Cuts.{numbered-at, released-numbered, run-keeps-sent}
use Rattle.laws.proofs.Base.{all-base, inside-where}
use Rattle.laws.proofs.Net.{HeardMore, heard-onward, run-heard}
use Rattle.laws.proofs.Acting.{becomes-put, put, put-here}

-- ---- runs that end with everything saved

-- a run ends with these states, current and saved
pub record Played (shape : Shaped) (c : Cut) : Type 0 where
  pub steps : List Step
  pub current : (i : ℕ) → node_at (run (new_world shape) steps).current i ≡ c i
  pub saved : (i : ℕ) → node_at (run (new_world shape) steps).saved i ≡ c i

pub saved-width : (shape : Shaped) (steps : List Step)
    → length (run (new_world shape) steps).saved ≡ shape.nodes
saved-width shape steps =
    (run-keeps-sent (new_world shape) steps (new-keeps-sent shape)).width ∙ node-count shape steps

-- one state of a list changes as that of a cut does
set-becomes : {c d : Cut} {i : ℕ} {t : NodeState} (states : List NodeState) → i < length states
    → Becomes c d i t → ((j : ℕ) → node_at states j ≡ c j) → (j : ℕ)
    → node_at (set states i t) j ≡ d j
set-becomes {d = d} {i = i} {t = t} states within becomes same j =
    ⊎_elim {C = node_at (set states i t) j ≡ d j}
    (λ (e : j ≡ i).
    ap (node_at (set states i t)) e
    ∙ get_or-set_same states i t no_node within
    ∙ sym becomes.changed
    ∙ ap d (sym e))
    (λ (other : j ≢ i).
    get_or-set_other states i j t no_node other ∙ same j ∙ sym (becomes.others j other))
    (cases_eq j i)

save-goes : (w : World) (i : ℕ) → i < length w.current
    → happens w (step.Save i) ≡ record w { saved = set w.saved i (node_at w.current i) }
unfolding take_step
save-goes w i within =
    ap (world_after w) (cond-true (is_node w i) _ _ (lt-ltb i (length w.current) within))

-- a step that changes one node, and a save of this node
played-then : {shape : Shaped} {c d : Cut} {i : ℕ} {t : NodeState} (p : Played shape c) (s : Step)
    → i < shape.nodes → Becomes c d i t
    → happens (run (new_world shape) p.steps) s
    ≡ record (run (new_world shape) p.steps) {
      current = set (run (new_world shape) p.steps).current i t;
    }
    → Played shape d
played-then {shape = shape} {d = d} {i = i} {t = t} p s within becomes goes =
    let w : World = run (new_world shape) p.steps in
    let v : World = record w { current = set w.current i t } in
    let u : World = record v { saved = set w.saved i t } in
    let here : i < length w.current =
    subst (λ (n : ℕ). i < n) (sym (node-count shape p.steps)) within in
    let there : i < length w.saved =
    subst (λ (n : ℕ). i < n) (sym (saved-width shape p.steps)) within in
    let inside : i < length v.current =
    subst (λ (n : ℕ). i < n) (sym (length-set w.current i t)) here in
    let goes_on : run (new_world shape) (p.steps ++ s ∷ step.Save i ∷ []) ≡ u =
    run-append (new_world shape) p.steps (s ∷ step.Save i ∷ [])
    ∙ ap (λ (z : World). happens z (step.Save i)) goes
    ∙ save-goes v i inside
    ∙ ap (λ (z : NodeState). record v { saved = set w.saved i z })
    (get_or-set_same w.current i t no_node here) in
    record {
      steps = p.steps ++ s ∷ step.Save i ∷ [];
      current = λ j.
          ap (λ (z : World). node_at z.current j) goes_on
          ∙ set-becomes w.current here becomes p.current j;
      saved = λ j.
          ap (λ (z : World). node_at z.saved j) goes_on
          ∙ set-becomes w.saved there becomes p.saved j;
    }

-- ---- mixes

-- the space after steps from its start
abbrev pub space_after : Shaped → List Step → World
space_after shape steps = run (new_world shape) steps

-- the states that were saved so far, and those that are saved now
abbrev pub And : (ℕ → NodeState → Type 0) → World → ℕ → NodeState → Type 0
And Was v i s = Was i s ⊎ (s ≡ node_at v.saved i)

abbrev pub IsMix : (ℕ → NodeState → Type 0) → World → Cut → Type 0
IsMix Was w c = (i : ℕ) → Was i (c i) ⊎ (c i ≡ node_at w.current i)

-- none of this many nodes has received more of another than that one has sent to it
abbrev pub Fits : ℕ → Cut → Type 0
Fits n c =
    (i j : ℕ) → i < n → j < n → i ≢ j → got_from (c i).local j ≤ length (sent_to (c j) i)

-- Each of these states is no further than the one that is saved now.
abbrev AreBehind : (NodeState → NodeState → Type 0) → (ℕ → NodeState → Type 0) → World → Type 0
AreBehind R Was w = (i : ℕ) (s : NodeState) → Was i s → R s (node_at w.saved i)

-- What is known after some steps of the states that were saved so far: the states saved now are
-- among them, none is ahead of the one saved now, and a run ends with each mix that fits.
pub record Mixes (shape : Shaped) (Was : ℕ → NodeState → Type 0) (steps : List Step) : Type 0 where
  pub limits : IsShape shape
  pub now : (i : ℕ) → Was i (node_at (space_after shape steps).saved i)
  pub sent : AreBehind SentMore Was (space_after shape steps)
  pub heard : AreBehind HeardMore Was (space_after shape steps)
  pub play : (c : Cut) → IsMix Was (space_after shape steps) c → Fits shape.nodes c
      → Played shape c

-- If all that is saved after a step was saved before, only the current states may be new in a mix.
still-saved : (Was : ℕ → NodeState → Type 0) (w v : World) (c : Cut)
    → ((i : ℕ) → Was i (node_at w.saved i))
    → ((i : ℕ) → node_at v.saved i ≡ node_at w.saved i) → IsMix (And Was v) v c → IsMix Was v c
still-saved Was w v c now same mix i =
    ⊎_elim {C = Was i (c i) ⊎ (c i ≡ node_at v.current i)}
    (λ x.
    inl (⊎_elim {C = Was i (c i)} (λ was. was)
    (λ e. subst (Was i) (sym (e ∙ same i)) (now i)) x))
    (λ e. inr e)
    (mix i)

-- a state is the node's saved or its current one
abbrev IsEither : World → ℕ → NodeState → Type 0
IsEither w i s = (s ≡ node_at w.saved i) ⊎ (s ≡ node_at w.current i)

as-old : (Was : ℕ → NodeState → Type 0) (w : World) (i : ℕ) (s t : NodeState)
    → Was i (node_at w.saved i) → s ≡ t → IsEither w i t → Was i s ⊎ (s ≡ node_at w.current i)
as-old Was w i s t now e either =
    ⊎_elim {C = Was i s ⊎ (s ≡ node_at w.current i)}
    (λ was. inl (subst (Was i) (sym (e ∙ was)) now)) (λ is. inr (e ∙ is)) either

-- If no state is new after a step, each mix after it is one before it.
old-mix : (Was : ℕ → NodeState → Type 0) (w v : World) (c : Cut)
    → ((i : ℕ) → Was i (node_at w.saved i)) → ((i : ℕ) → IsEither w i (node_at v.saved i))
    → ((i : ℕ) → IsEither w i (node_at v.current i)) → IsMix (And Was v) v c → IsMix Was w c
old-mix Was w v c now kept goes mix i =
    ⊎_elim {C = Was i (c i) ⊎ (c i ≡ node_at w.current i)}
    (λ x.
    ⊎_elim {C = Was i (c i) ⊎ (c i ≡ node_at w.current i)} (λ was. inl was)
    (λ e. as-old Was w i (c i) (node_at v.saved i) (now i) e (kept i)) x)
    (λ e. as-old Was w i (c i) (node_at v.current i) (now i) e (goes i))
    (mix i)

-- One node has a new state after a step. A mix after the step is one before it, or has the new
-- state, and is one before the step with the old state in its place.
module _ (w : World) (i : ℕ) (t : NodeState) (c : Cut) where
  abbrev changed : World
  changed = record w { current = set w.current i t }

  abbrev before : Cut
  before = put c i (node_at w.current i)

  kept : (j : ℕ) → j ≢ i → before j ≡ c j
  kept = (becomes-put c i (node_at w.current i)).others

  pub record IsNewer (Was : ℕ → NodeState → Type 0) : Type 0 where
    pub is : c i ≡ t
    pub mix : IsMix Was w before

  elsewhere : (Was : ℕ → NodeState → Type 0) → IsMix Was changed c → (j : ℕ) → j ≢ i
      → Was j (c j) ⊎ (c j ≡ node_at w.current j)
  elsewhere Was mix j other =
      subst (λ (z : NodeState). Was j (c j) ⊎ (c j ≡ z))
      (get_or-set_other w.current i j t no_node other) (mix j)

  changed-mix : (Was : ℕ → NodeState → Type 0) → i < length w.current → IsMix Was changed c
      → IsMix Was w c ⊎ IsNewer Was
  changed-mix Was within mix =
      ⊎_elim {C = IsMix Was w c ⊎ IsNewer Was}
      (λ was. inl (λ j. ⊎_elim {C = Was j (c j) ⊎ (c j ≡ node_at w.current j)}
      (λ (e : j ≡ i). inl (subst (λ (k : ℕ). Was k (c k)) (sym e) was))
      (λ (other : j ≢ i). elsewhere Was mix j other)
      (cases_eq j i)))
      (λ new. inr (record {
        is = new ∙ get_or-set_same w.current i t no_node within;
        mix = λ j. ⊎_elim {C = Was j (before j) ⊎ (before j ≡ node_at w.current j)}
            (λ (e : j ≡ i).
            inr
            (ap before e ∙ put-here c i (node_at w.current i) ∙ ap (node_at w.current) (sym e)))
            (λ (other : j ≢ i).
            subst (λ (z : NodeState). Was j z ⊎ (z ≡ node_at w.current j))
            (sym (kept j other)) (elsewhere Was mix j other))
            (cases_eq j i);
      }))
      (mix i)

  -- from the one to the other
  goes-back : c i ≡ t → Becomes before c i t
  goes-back is = record { changed = is; others = λ j other. sym (kept j other) }

  -- What fits after the step fitted before it, since the node had received no more.
  fits-before : {n : ℕ} → c i ≡ t → HeardMore (node_at w.current i) t
      → ((a : ℕ) → a ≢ i → got_from (c a).local i ≤ length (sent_to (node_at w.current i) a))
      → Fits n c → Fits n before
  fits-before is more sent fits a b inside within apart =
      let old : NodeState = node_at w.current i in
      ⊎_elim {C = got_from (before a).local b ≤ length (sent_to (before b) a)}
      (λ (e : a ≡ i).
      let other : b ≢ i = λ f. apart (e ∙ sym f) in
      let got : got_from (before a).local b ≡ got_from old.local b =
      ap (λ (z : NodeState). got_from z.local b) (ap before e ∙ put-here c i old) in
      let was : got_from (c a).local b ≡ got_from t.local b =
      ap (λ (z : NodeState). got_from z.local b) (ap c e ∙ is) in
      let same : length (sent_to (before b) a) ≡ length (sent_to (c b) a) =
      ap (λ (z : NodeState). length (sent_to z a)) (kept b other) in
      let fit = fits a b inside within apart in
      let fewer = more b in
      omega (arith, got, was, same, fit, fewer))
      (λ (other : a ≢ i).
      let got : got_from (before a).local b ≡ got_from (c a).local b =
      ap (λ (z : NodeState). got_from z.local b) (kept a other) in
      ⊎_elim {C = got_from (before a).local b ≤ length (sent_to (before b) a)}
      (λ (f : b ≡ i).
      let from : got_from (c a).local b ≡ got_from (c a).local i =
      ap (got_from (c a).local) f in
      let same : length (sent_to (before b) a) ≡ length (sent_to old a) =
      ap (λ (z : NodeState). length (sent_to z a)) (ap before f ∙ put-here c i old) in
      let fit = sent a other in
      omega (arith, got, from, same, fit))
      (λ (apart_too : b ≢ i).
      let same : length (sent_to (before b) a) ≡ length (sent_to (c b) a) =
      ap (λ (z : NodeState). length (sent_to z a)) (kept b apart_too) in
      let fit = fits a b inside within apart in
      omega (arith, got, same, fit))
      (cases_eq b i))
      (cases_eq a i)

-- ---- a step

-- an event of a node, in a space in which that node has the same state
acted-goes : (w : World) (i : ℕ) (e : Event) (t : NodeState) (a : Answer) → i < length w.current
    → is_own e ≡ true → act (node_at w.current i) e ≡ Ok (t, a)
    → happens w (step.Act i e) ≡ record w { current = set w.current i t }
unfolding take_step
acted-goes w i e t a within own answered =
    ap (world_after w)
    (cond-true (is_node w i) _ _ (lt-ltb i (length w.current) within)
    ∙ cond-true (is_own e) _ _ own
    ∙ ap (moved w i) answered)

-- a message is at its number
at-number : (sent : List Message) (k number : ℕ) (x : Message) → number ≡ k + 1
    → slice_get sent k ≡ Some x → numbered sent number ≡ Some x
at-number sent k number x is there =
    let positive : 0 < number = omega (arith, is) in
    let place : number - 1 ≡ k = omega (arith, is) in
    cond-true (ltb 0 number) _ _ (lt-ltb 0 number positive) ∙ ap (slice_get sent) place ∙ there

-- the receipt of a message, in a space in which its sender has it saved
delivered-goes : {t : NodeState} {a : Answer} (w : World) (m : Delivery)
    → m.from < length w.current → m.to < length w.current → m.from ≢ m.to
    → numbered (sent_to (node_at w.saved m.from) m.to) m.number ≡ Some m.message
    → given_to (node_at w.current m.to) m ≡ Ok (t, a)
    → happens w (step.Deliver m.from m.to m.number)
    ≡ record w { current = set w.current m.to t }
unfolding take_step
delivered-goes w m sender receiver apart there answered =
    ap (world_after w)
    (cond-true (is_node w m.from && is_node w m.to) _ _
    (and_from _ _ (lt-ltb m.from (length w.current) sender)
    (lt-ltb m.to (length w.current) receiver))
    ∙ ap (delivery w m.from m.to m.number)
    (cond-false (m.from == m.to) _ _ (ne_eqb m.from m.to apart) ∙ there)
    ∙ ap (moved w m.to) answered)

-- In a mix no node has received more of another than that one's current state has sent to it.
mix-sent : {shape : Shaped} {Was : ℕ → NodeState → Type 0} {steps : List Step}
    → Mixes shape Was steps → (c : Cut) (a i : ℕ)
    → Was a (c a) ⊎ (c a ≡ node_at (space_after shape steps).current a)
    → got_from (c a).local i ≤ length (sent_to (node_at (space_after shape steps).current i) a)
mix-sent {shape = shape} {steps = steps} mixes c a i mix =
    let w : World = space_after shape steps in
    let fit = (all-base shape mixes.limits steps (λ _. false)).within i a in
    ⊎_elim {C = got_from (c a).local i ≤ length (sent_to (node_at w.current i) a)}
    (λ was.
    let first = mixes.heard a (c a) was i in
    let later = run-heard shape steps a i in
    omega (arith, first, later, fit))
    (λ is.
    let same : got_from (c a).local i ≡ got_from (node_at w.current a).local i =
    ap (λ (z : NodeState). got_from z.local i) is in
    omega (arith, same, fit))
    mix

prefix-has : {A : Type 0} (xs ys : List A) (k : ℕ) (x : A) → Grows xs ys → k < length xs
    → slice_get ys k ≡ Some x → slice_get xs k ≡ Some x
prefix-has {A = A} xs ys k x more within there =
    sym (slice_get-left xs more.0 k within)
    ∙ ap (λ (z : List A). slice_get z k) (sym more.1)
    ∙ there

-- A state of the sender in a mix has a message that is saved now, if it has sent as many.
mix-has : {shape : Shaped} {Was : ℕ → NodeState → Type 0} {steps : List Step}
    → Mixes shape Was steps → (m : Delivery) (s : NodeState) (k : ℕ)
    → Was m.from s ⊎ (s ≡ node_at (space_after shape steps).current m.from)
    → k < length (sent_to s m.to)
    → slice_get (sent_to (node_at (space_after shape steps).saved m.from) m.to) k
    ≡ Some m.message
    → slice_get (sent_to s m.to) k ≡ Some m.message
mix-has {shape = shape} {steps = steps} mixes m s k mix within there =
    let w : World = space_after shape steps in
    let now : List Message = sent_to (node_at w.saved m.from) m.to in
    ⊎_elim {C = slice_get (sent_to s m.to) k ≡ Some m.message}
    (λ was. prefix-has (sent_to s m.to) now k m.message (mixes.sent m.from s was m.to) within there)
    (λ is.
    subst (λ (z : NodeState). slice_get (sent_to z m.to) k ≡ Some m.message) (sym is)
    (slice_get-grows now (sent_to (node_at w.current m.from) m.to) k m.message
    ((run-keeps-sent (new_world shape) steps (new-keeps-sent shape)).sent m.from m.to) there))
    mix

-- ---- the step of the run, as a step of the mix

-- The mix before the step of a node: a run ends with it.
played-before : {shape : Shaped} {Was : ℕ → NodeState → Type 0} {steps : List Step} {i : ℕ}
    {t : NodeState} (mixes : Mixes shape Was steps) (c : Cut)
    → HeardMore (node_at (space_after shape steps).current i) t
    → IsNewer (space_after shape steps) i t c Was → Fits shape.nodes c
    → Played shape (before (space_after shape steps) i t c)
played-before {shape = shape} {Was = Was} {steps = steps} {i = i} {t = t} mixes c more new fits =
    let w : World = space_after shape steps in
    let sent : (b : ℕ) → b ≢ i
    → got_from (c b).local i ≤ length (sent_to (node_at w.current i) b) =
    λ b other. mix-sent mixes c b i
    (subst (λ (z : NodeState). Was b z ⊎ (z ≡ node_at w.current b)) (kept w i t c b other)
    (new.mix b)) in
    mixes.play (before w i t c) new.mix (fits-before w i t c new.is more sent fits)

acted-plays : {shape : Shaped} {Was : ℕ → NodeState → Type 0} {steps : List Step} {i : ℕ}
    {e : Event} {t : NodeState} {a : Answer} (mixes : Mixes shape Was steps)
    → Acted (space_after shape steps) i e t a → (c : Cut)
    → IsNewer (space_after shape steps) i t c Was → Fits shape.nodes c → Played shape c
acted-plays {shape = shape} {steps = steps} {i = i} {e = e} {t = t} {a = a} mixes x c new fits =
    let w : World = space_after shape steps in
    let s : NodeState = node_at w.current i in
    let earlier = played-before mixes c (heard-onward.acts s e t a x.own x.answered) new fits in
    let v : World = space_after shape earlier.steps in
    let inside : i < shape.nodes =
    subst (λ (n : ℕ). i < n) (node-count shape steps) x.within in
    let state : node_at v.current i ≡ s = earlier.current i ∙ put-here c i s in
    played-then earlier (step.Act i e) inside (goes-back w i t c new.is)
    (acted-goes v i e t a (subst (λ (n : ℕ). i < n) (sym (node-count shape earlier.steps)) inside)
    x.own (subst (λ (z : NodeState). act z e ≡ Ok (t, a)) (sym state) x.answered))

-- a message that was released, at its turn
record IsDue (shape : Shaped) (w : World) (m : Delivery) : Type 0 where
  pub sender : m.from < shape.nodes
  pub receiver : m.to < shape.nodes
  pub apart : m.from ≢ m.to
  pub there : slice_get (sent_to (node_at w.saved m.from) m.to)
      (got_from (node_at w.current m.to).local m.from)
      ≡ Some m.message

is-due : {t : NodeState} {a : Answer} (shape : Shaped) → IsShape shape → (steps : List Step)
    (m : Delivery) → Delivered (space_after shape steps) m t a
    → m.number ≡ got_from (node_at (space_after shape steps).current m.to).local m.from + 1
    → IsDue shape (space_after shape steps) m
is-due shape limits steps m x turn =
    let w : World = space_after shape steps in
    let k : ℕ = got_from (node_at w.current m.to).local m.from in
    let sent : List Message = sent_to (node_at w.saved m.from) m.to in
    let found = released-numbered (m.from == m.to) (numbered sent m.number) m.message x.there in
    let there : slice_get sent k ≡ Some m.message =
    numbered-at sent k m.message
    (subst (λ (n : ℕ). numbered sent n ≡ Some m.message) turn found.1) in
    record {
      sender = inside-where m.from (λ z. slice_get (sent_to z m.to) k ≡ Some m.message)
          (all-base shape limits steps (λ _. true)) there (λ e. absurd cc);
      receiver = subst (λ (n : ℕ). m.to < n) (node-count shape steps) x.within;
      apart = eqb-false m.from m.to found.0;
      there = there;
    }

-- how many messages the receiver has of the sender afterwards
received-one : {m : Delivery} (shape : Shaped) (steps : List Step) (t : NodeState)
    → IsShape shape → IsDue shape (space_after shape steps) m
    → t.local.got
    ≡ set (node_at (space_after shape steps).current m.to).local.got m.from m.number
    → got_from t.local m.from ≡ m.number
received-one {m = m} shape steps t limits due counts =
    let s : NodeState = node_at (space_after shape steps).current m.to in
    let wide = (all-base shape limits steps (λ _. false)).heard m.to due.receiver in
    ap (λ (l : List ℕ). get_or l m.from 0) counts
    ∙ get_or-set_same s.local.got m.from m.number 0
    (subst (λ (n : ℕ). m.from < n) (sym wide) due.sender)

delivered-plays : {shape : Shaped} {Was : ℕ → NodeState → Type 0} {steps : List Step}
    {m : Delivery} {t : NodeState} {a : Answer} (mixes : Mixes shape Was steps)
    → Delivered (space_after shape steps) m t a
    → m.number ≡ got_from (node_at (space_after shape steps).current m.to).local m.from + 1
    → t.local.got
    ≡ set (node_at (space_after shape steps).current m.to).local.got m.from m.number
    → (c : Cut) → IsNewer (space_after shape steps) m.to t c Was → Fits shape.nodes c
    → Played shape c
delivered-plays {shape = shape} {steps = steps} {m = m} {t = t} {a = a}
    mixes x turn counts c new fits =
    let w : World = space_after shape steps in
    let s : NodeState = node_at w.current m.to in
    let k : ℕ = got_from s.local m.from in
    let d : Cut = before w m.to t c in
    let due = is-due shape mixes.limits steps m x turn in
    let earlier = played-before mixes c (heard-onward.receives s m t a x.answered) new fits in
    let v : World = space_after shape earlier.steps in
    let got = received-one shape steps t mixes.limits due counts in
    let received : got_from (c m.to).local m.from ≡ got_from t.local m.from =
    ap (λ (z : NodeState). got_from z.local m.from) new.is in
    let fit = fits m.to m.from due.receiver due.sender (λ e. due.apart (sym e)) in
    let same : length (sent_to (d m.from) m.to) ≡ length (sent_to (c m.from) m.to) =
    ap (λ (z : NodeState). length (sent_to z m.to)) (kept w m.to t c m.from due.apart) in
    let has : slice_get (sent_to (d m.from) m.to) k ≡ Some m.message =
    mix-has mixes m (d m.from) k (new.mix m.from)
    (omega (arith, turn, got, received, fit, same)) due.there in
    let many = sym (node-count shape earlier.steps) in
    let state : node_at v.current m.to ≡ s = earlier.current m.to ∙ put-here c m.to s in
    played-then earlier (step.Deliver m.from m.to m.number) due.receiver
    (goes-back w m.to t c new.is)
    (delivered-goes v m (subst (λ (n : ℕ). m.from < n) many due.sender)
    (subst (λ (n : ℕ). m.to < n) many due.receiver) due.apart
    (at-number (sent_to (node_at v.saved m.from) m.to) k m.number m.message turn
    (subst (λ (z : NodeState). slice_get (sent_to z m.to) k ≡ Some m.message)
    (sym (earlier.saved m.from)) has))
    (subst (λ (z : NodeState). given_to z m ≡ Ok (t, a)) (sym state) x.answered))

receipt-plays : {shape : Shaped} {Was : ℕ → NodeState → Type 0} {steps : List Step}
    {m : Delivery} {t : NodeState} {a : Answer} (mixes : Mixes shape Was steps)
    → Delivered (space_after shape steps) m t a → (c : Cut)
    → IsMix Was (changed (space_after shape steps) m.to t c) c → Fits shape.nodes c
    → Receipt (node_at (space_after shape steps).current m.to) m t a → Played shape c
receipt-plays {shape = shape} {Was = Was} {steps = steps} {m = m} {t = t}
    mixes x c mix fits (repeated same says) =
    let w : World = space_after shape steps in
    mixes.play c
    (old-mix Was w (changed w m.to t c) c mixes.now (λ j. inl refl)
    (λ j.
    at_set_if (IsEither w j) w.current m.to j t no_node
    (λ e. inr (same ∙ ap (node_at w.current) e)) (inr refl))
    (λ j. ⊎_elim {C = And Was (changed w m.to t c) j (c j)
    ⊎ (c j ≡ node_at (changed w m.to t c).current j)}
    (λ was. inl (inl was)) (λ e. inr e) (mix j)))
    fits
receipt-plays {shape = shape} {Was = Was} {steps = steps} {m = m} {t = t}
    mixes x c mix fits (next turn may found) =
    let w : World = space_after shape steps in
    let p : LocalState = (node_at w.current m.to).local in
    let counts : t.local.got ≡ set p.got m.from m.number =
    ap (λ (z : NodeState). z.local.got) found.state
    ∙ (taken-stands p m.from m.number m.message.stamp m.message.body).got in
    ⊎_elim {C = Played shape c} (λ old. mixes.play c old fits)
    (λ new. delivered-plays mixes x turn counts c new fits)
    (changed-mix w m.to t c Was x.within mix)

-- Whatever a step of the space does, a run ends with each mix that fits after it.
step-plays : {shape : Shaped} {Was : ℕ → NodeState → Type 0} {steps : List Step} {s : Step}
    {v : World} (mixes : Mixes shape Was steps) → Happening (space_after shape steps) s v
    → (c : Cut) → IsMix (And Was v) v c → Fits shape.nodes c → Played shape c
step-plays {shape = shape} {Was = Was} {steps = steps} mixes nothing c mix fits =
    let w : World = space_after shape steps in
    mixes.play c (old-mix Was w w c mixes.now (λ i. inl refl) (λ i. inr refl) mix) fits
step-plays {shape = shape} {Was = Was} {steps = steps} mixes (acted i e t a is x) c mix fits =
    let w : World = space_after shape steps in
    ⊎_elim {C = Played shape c} (λ old. mixes.play c old fits)
    (λ new. acted-plays mixes x c new fits)
    (changed-mix w i t c Was x.within
    (still-saved Was w (changed w i t c) c mixes.now (λ j. refl) mix))
step-plays {shape = shape} {Was = Was} {steps = steps} mixes (delivered m t a x) c mix fits =
    let w : World = space_after shape steps in
    receipt-plays mixes x c
    (still-saved Was w (changed w m.to t c) c mixes.now (λ j. refl) mix) fits
    (receipt-cases (node_at w.current m.to) m t a x.answered)
step-plays {shape = shape} {Was = Was} {steps = steps} {v = v} mixes (saved i within) c mix fits =
    let w : World = space_after shape steps in
    mixes.play c
    (old-mix Was w v c mixes.now
    (λ j.
    at_set_if (IsEither w j) w.saved i j (node_at w.current i) no_node
    (λ e. inr (ap (node_at w.current) e)) (inl refl))
    (λ j. inr refl)
    mix)
    fits
step-plays {shape = shape} {Was = Was} {steps = steps} {v = v}
    mixes (restarted i is within) c mix fits =
    let w : World = space_after shape steps in
    mixes.play c
    (old-mix Was w v c mixes.now (λ j. inl refl)
    (λ j.
    at_set_if (IsEither w j) w.current i j (node_at w.saved i) no_node
    (λ e. inl (ap (node_at w.saved) e)) (inr refl))
    mix)
    fits

-- ---- a run

-- the saved states of a space after one more step
abbrev pub AndThen : Shaped → (ℕ → NodeState → Type 0) → List Step → Step → ℕ → NodeState
    → Type 0
AndThen shape Was steps s = And Was (space_after shape (steps ++ s ∷ []))

further-on : {Was : ℕ → NodeState → Type 0} {R : NodeState → NodeState → Type 0} (shape : Shaped)
    (steps : List Step) → Onward R → (s : Step) → Behind R (space_after shape steps)
    → AreBehind R Was (space_after shape steps)
    → AreBehind R (AndThen shape Was steps s) (space_after shape (steps ++ s ∷ []))
further-on {R = R} shape steps onward s behind past i x was =
    let w : World = space_after shape steps in
    let v : World = space_after shape (steps ++ s ∷ []) in
    ⊎_elim {C = R x (node_at v.saved i)}
    (λ old.
    onward.order.both x (node_at w.saved i) (node_at v.saved i) (past i x old)
    (subst (λ (z : World). R (node_at w.saved i) (node_at z.saved i))
    (sym (run-push (new_world shape) steps s)) (run-saved onward w (s ∷ []) behind i)))
    (λ e.
    subst (λ (z : NodeState). R z (node_at v.saved i)) (sym e)
    (onward.order.same (node_at v.saved i)))
    was

mixes-step : {shape : Shaped} {Was : ℕ → NodeState → Type 0} {steps : List Step} (s : Step)
    → Mixes shape Was steps → Mixes shape (AndThen shape Was steps s) (steps ++ s ∷ [])
mixes-step {shape = shape} {steps = steps} s mixes =
    let w : World = space_after shape steps in
    let happened : Happening w s (space_after shape (steps ++ s ∷ [])) =
    subst (Happening w s) (sym (run-push (new_world shape) steps s)) (happening w s) in
    record {
      limits = mixes.limits;
      now = λ i. inr refl;
      sent = further-on shape steps sent-onward s
          (run-keeps-sent (new_world shape) steps (new-keeps-sent shape)).sent mixes.sent;
      heard = further-on shape steps heard-onward s (run-heard shape steps) mixes.heard;
      play = step-plays mixes happened;
    }

-- what was saved by the end of some more steps
abbrev pub Since : Shaped → (ℕ → NodeState → Type 0) → List Step → List Step → ℕ → NodeState
    → Type 0
Since shape Was steps [] = Was
Since shape Was steps (s ∷ ss) = Since shape (AndThen shape Was steps s) (steps ++ s ∷ []) ss

pub mixes-run : (shape : Shaped) (Was : ℕ → NodeState → Type 0) (steps later : List Step)
    → Mixes shape Was steps → Mixes shape (Since shape Was steps later) (steps ++ later)
mixes-run shape Was steps [] mixes = subst (Mixes shape Was) (sym (append-nil steps)) mixes
mixes-run shape Was steps (s ∷ ss) mixes =
    subst (Mixes shape (Since shape Was steps (s ∷ ss))) (append_assoc steps (s ∷ []) ss)
    (mixes-run shape (AndThen shape Was steps s) (steps ++ s ∷ []) ss (mixes-step s mixes))

-- At the start only the new nodes were saved.
abbrev pub IsFirst : Shaped → ℕ → NodeState → Type 0
IsFirst shape i s = s ≡ node_at (new_world shape).saved i

pub new-mixes : (shape : Shaped) → IsShape shape → Mixes shape (IsFirst shape) []
new-mixes shape limits = record {
  limits = limits;
  now = λ i. refl;
  sent = λ i s e.
      subst (λ (z : NodeState). SentMore z (node_at (new_world shape).saved i)) (sym e)
      (sent-onward.order.same (node_at (new_world shape).saved i));
  heard = λ i s e.
      subst (λ (z : NodeState). HeardMore z (node_at (new_world shape).saved i)) (sym e)
      (heard-onward.order.same (node_at (new_world shape).saved i));
  play = λ c mix fits.
      (let is : (i : ℕ) → node_at (new_world shape).saved i ≡ c i = λ i.
      sym (⊎_elim {C = c i ≡ node_at (new_world shape).saved i} (λ e. e) (λ e. e) (mix i)) in
      record { steps = []; current = is; saved = is });
}
