-- Worlds that differ at most in acknowledged messages. Every step keeps them so, and is an event of
-- both or of none.
use Rattle.std.proofs.Common.{◌≡◌, ◌≤◌, ◌<◌, ◌-◌, ℕ, Bool, true, false, cond, ◌==◌, ◌&&◌, leb, leb-false, le-leb, leb-true, ltb, le_refl, le_trans, List, [], ◌∷◌, set, slice_get, Option, None, Some, Result, Ok, Err, refl, sym, ap, ◌∙◌, subst, arith, ⊎_elim}
use Rattle.std.proofs.lemmas.Bool.{cases_Bool, cond_both, cond-true, cond-false}
use Rattle.ids.specs.declared.refusal.Refusal.{Refusal}
use Rattle.ids.specs.declared.refusal.Refusal.TheVariants.{AckBeyond, NoNode, WrongNode}
use Rattle.msg.specs.declared.body.Message.{Message}
use Rattle.model.specs.declared.event.Answer.{Answer}
use Rattle.model.specs.declared.event.Event.{Event}
use Rattle.model.specs.declared.step.Outcome.{Outcome}
use Rattle.model.specs.declared.step.Outcome.TheVariants as outcome
use Rattle.model.specs.declared.step.Step.{Step}
use Rattle.model.specs.declared.step.Step.TheVariants as step
use Rattle.model.specs.State.{LocalState, NodeState, got_from, no_node, node_at, sent_to}
use Rattle.model.specs.Steps.{act, is_addressed, receive}
use Rattle.model.specs.World.{World, acknowledged, delivery, handing, happens, is_eventful, is_node, moved, numbered, outcome_of, release_count, released, run, take_step, world_after}
use Rattle.model.proofs.Lookups.{at_set_if}
use Rattle.laws.specs.Statements.{EachDone, IfDone}
use Rattle.laws.proofs.Cuts.{released-numbered}
use Rattle.laws.proofs.Net.{HeardMore, heard-onward}
use Rattle.laws.proofs.Onward.{Behind, step-behind}
use Rattle.wire.specs.Rule.{AreEvents}
use Rattle.cell.specs.Reached.{AreAlike, AreLike}
use Rattle.cell.proofs.Alike.{AnsweredAlike, act-like, again-same, also-there, as-many, get-later, like-both, like-sym, likes-more, likes-set, receive-like}

-- ---- What is acknowledged

pub acks-like : (w v : World) (from to : ℕ) → AreAlike w v
    → acknowledged w from to ≡ acknowledged v from to
acks-like w v from to h = ap (λ (p : LocalState). got_from p from) (h.saved.each to).local

pub sent-like : (w v : World) (from to : ℕ) → AreAlike w v
    → release_count w from to ≡ release_count v from to
sent-like w v from to h =
    as-many (node_at w.saved from).sent (node_at v.saved from).sent to (h.saved.each from).counts

-- each saved state of the other has received no more than the current one
pub heard-like : (w v : World) → AreAlike w v → Behind HeardMore v → Behind HeardMore w
heard-like w v h heard i from =
    let was : got_from (node_at w.saved i).local from ≡ got_from (node_at v.saved i).local from =
    ap (λ (p : LocalState). got_from p from) (h.saved.each i).local in
    let is : got_from (node_at w.current i).local from ≡ got_from (node_at v.current i).local from =
    ap (λ (p : LocalState). got_from p from) (h.current.each i).local in
    omega (arith, was, is, heard i from)

pub alike-self : (w : World) → AreAlike w w
alike-self w = record {
  current = record {
    width = refl;
    each = λ i. record { local = refl; counts = refl; later = λ to. refl };
  };
  saved = record {
    width = refl;
    each = λ i. record { local = refl; counts = refl; later = λ to. refl };
  };
}

module _ (acked : ℕ → ℕ → ℕ) where
  likes-sym : (ss ts : List NodeState) → AreLike acked ss ts → AreLike acked ts ss
  likes-sym ss ts h = record {
    width = sym h.width;
    each = λ i. like-sym (acked i) (node_at ss i) (node_at ts i) (h.each i);
  }

  likes-both : (ss ts us : List NodeState) → AreLike acked ss ts → AreLike acked ts us
      → AreLike acked ss us
  likes-both ss ts us g h = record {
    width = g.width ∙ h.width;
    each = λ i.
        like-both (acked i) (node_at ss i) (node_at ts i) (node_at us i) (g.each i) (h.each i);
  }

pub alike-sym : (w v : World) → AreAlike w v → AreAlike v w
alike-sym w v h =
    let grows : (i to : ℕ) → acknowledged v i to ≤ acknowledged w i to =
    λ i to. omega (arith, acks-like w v i to h) in
    record {
      current = likes-more (acknowledged v) (acknowledged w) v.current w.current grows
          (likes-sym (acknowledged v) w.current v.current h.current);
      saved = likes-more (acknowledged v) (acknowledged w) v.saved w.saved grows
          (likes-sym (acknowledged v) w.saved v.saved h.saved);
    }

pub alike-both : (u w v : World) → AreAlike u w → AreAlike w v → AreAlike u v
alike-both u w v g h =
    let grows : (i to : ℕ) → acknowledged w i to ≤ acknowledged v i to =
    λ i to. omega (arith, acks-like w v i to h) in
    record {
      current = likes-both (acknowledged v) u.current w.current v.current
          (likes-more (acknowledged w) (acknowledged v) u.current w.current grows g.current)
          h.current;
      saved = likes-both (acknowledged v) u.saved w.saved v.saved
          (likes-more (acknowledged w) (acknowledged v) u.saved w.saved grows g.saved) h.saved;
    }

-- ---- A step of both

pub record StepsAlike (w v : World) (r q : Result (World × Outcome) Refusal) : Type 0 where
  pub outcome : outcome_of r ≡ outcome_of q
  pub worlds : AreAlike (world_after w r) (world_after v q)

refused-like : (w v : World) (e : Refusal) → AreAlike w v → StepsAlike w v (Err e) (Err e)
refused-like w v e h = record { outcome = refl; worlds = h }

cond-like : {w v : World} (b c : Bool) {r q s t : Result (World × Outcome) Refusal} → b ≡ c
    → StepsAlike w v r q → StepsAlike w v s t → StepsAlike w v (cond b r s) (cond c q t)
cond-like true true same first second = first
cond-like true false same first second = absurd cc
cond-like false true same first second = absurd cc
cond-like false false same first second = second

moved-like : (w v : World) (i : ℕ) (r q : Result (NodeState × Answer) Refusal) → AreAlike w v
    → AnsweredAlike (acknowledged v i) r q → StepsAlike w v (moved w i r) (moved v i q)
moved-like w v i (Ok x) (Ok y) h like = record {
  outcome = ap (λ (a : Answer). Ok (outcome.Answer a)) like.1;
  worlds = record {
    current = likes-set (acknowledged v) w.current v.current i x.0 y.0 h.current like.0;
    saved = h.saved;
  };
}
moved-like w v i (Ok x) (Err e) h like = absurd like
moved-like w v i (Err e) (Ok y) h like = absurd like
moved-like w v i (Err e) (Err f) h like =
    record { outcome = ap Err like; worlds = h }

-- ---- Messages

numbered-there : (sent : List Message) (number : ℕ) (x : Message)
    → numbered sent number ≡ Some x
    → (ltb 0 number ≡ true) × (slice_get sent (number - 1) ≡ Some x)
numbered-there sent number x =
    cond_both (ltb 0 number) (slice_get sent (number - 1)) None
    (λ z. z ≡ Some x → (ltb 0 number ≡ true) × (slice_get sent (number - 1) ≡ Some x))
    (λ first there. (first, there)) (λ _ never. absurd cc)

-- what a world has released
released-there : (w : World) (from to number : ℕ) (x : Message)
    → released w from to number ≡ Some x
    → ((from == to) ≡ false)
    × (ltb 0 number ≡ true)
    × (slice_get (sent_to (node_at w.saved from) to) (number - 1) ≡ Some x)
released-there w from to number x there =
    let sent : List Message = sent_to (node_at w.saved from) to in
    let found = released-numbered (from == to) (numbered sent number) x there in
    let at = numbered-there sent number x found.1 in
    (found.0, at.0, at.1)

released-from : (w : World) (from to number : ℕ) (x : Message) → (from == to) ≡ false
    → ltb 0 number ≡ true
    → slice_get (sent_to (node_at w.saved from) to) (number - 1) ≡ Some x
    → released w from to number ≡ Some x
released-from w from to number x apart first there =
    cond-false (from == to) _ _ apart ∙ cond-true (ltb 0 number) _ _ first ∙ there

-- a message that is released in one is released in the other, perhaps with another content
pub also-released : (w v : World) (from to number : ℕ) (x : Message) → AreAlike w v
    → released w from to number ≡ Some x
    → (y : Message) × (released v from to number ≡ Some y)
also-released w v from to number x h there =
    let found = released-there w from to number x there in
    let other =
    also-there (sent_to (node_at w.saved from) to) (sent_to (node_at v.saved from) to) (number - 1)
    x (sent-like w v from to h) found.2 in
    (other.0, released-from v from to number other.0 found.0 found.1 other.1)

-- what two such worlds have released under one number
pub record AreReleased (w v : World) (from to number : ℕ) (x y : Message) : Type 0 where
  pub alike : AreAlike w v
  pub there : released w from to number ≡ Some x
  pub other : released v from to number ≡ Some y

-- the content is the same unless the message is acknowledged
pub same-content : {w v : World} {from to number : ℕ} {x y : Message}
    → AreReleased w v from to number x y → acknowledged v from to < number → x ≡ y
same-content {w} {v} {from} {to} {number} {x} {y} h later =
    let first = (released-there w from to number x h.there).2 in
    let second = (released-there v from to number y h.other).2 in
    let after : acknowledged v from to ≤ number - 1 = omega (arith, later) in
    let both : ◌≡◌ {A = Option Message} (Some x) (Some y) =
    sym first
    ∙ get-later (sent_to (node_at w.saved from) to) (sent_to (node_at v.saved from) to)
    (acknowledged v from to) (number - 1) after ((h.alike.saved.each from).later to)
    ∙ second in
    cc

-- An acknowledged message is a repeat, whose answer doesn't depend on its content.
same-answer : {w v : World} {from to number : ℕ} {x y : Message}
    → AreReleased w v from to number x y → Behind HeardMore v
    → receive (node_at v.current to) from to number x.stamp x.body
    ≡ receive (node_at v.current to) from to number y.stamp y.body
same-answer {v = v} {from} {to} {number} {x} {y} h heard =
    ⊎_elim
    (λ again.
    let fewer : number ≤ acknowledged v from to = leb-true number _ again in
    again-same (node_at v.current to) from to number x y
    (le-leb number _ (le_trans fewer (heard to from))))
    (λ first.
    let same : x ≡ y = same-content h (leb-false number _ first) in
    ap (λ (z : Message). receive (node_at v.current to) from to number z.stamp z.body) same)
    (cases_Bool (leb number (acknowledged v from to)))

-- so both answer it alike
pub given-like : {w v : World} {from to number : ℕ} {x y : Message}
    → AreReleased w v from to number x y → Behind HeardMore v
    → AnsweredAlike (acknowledged v to)
    (receive (node_at w.current to) from to number x.stamp x.body)
    (receive (node_at v.current to) from to number y.stamp y.body)
given-like {w} {v} {from} {to} {number} {x} h heard =
    subst
    (AnsweredAlike (acknowledged v to)
    (receive (node_at w.current to) from to number x.stamp x.body))
    (same-answer h heard)
    (receive-like (acknowledged v to) (node_at w.current to) (node_at v.current to) from to number x
    (h.alike.current.each to))

-- what a world has released under a number, if anything
record IsReleasedAs (w : World) (from to number : ℕ) (o : Option Message) : Type 0 where
  is : released w from to number ≡ o

as-released : (w : World) (from to number : ℕ)
    → IsReleasedAs w from to number (released w from to number)
as-released w from to number = record { is = refl }

delivery-like : {w v : World} {from to number : ℕ} (o p : Option Message) → AreAlike w v
    → Behind HeardMore v → IsReleasedAs w from to number o → IsReleasedAs v from to number p
    → StepsAlike w v (delivery w from to number o) (delivery v from to number p)
delivery-like None None h heard there other =
    record { outcome = refl; worlds = h }
delivery-like {w} {v} {from} {to} {number} None (Some y) h heard there other =
    let found = also-released v w from to number y (alike-sym w v h) other.is in
    let never : ◌≡◌ {A = Option Message} (Some found.0) None = sym found.1 ∙ there.is in
    absurd cc
delivery-like {w} {v} {from} {to} {number} (Some x) None h heard there other =
    let found = also-released w v from to number x h there.is in
    let never : ◌≡◌ {A = Option Message} (Some found.0) None = sym found.1 ∙ other.is in
    absurd cc
delivery-like {w} {v} {from} {to} {number} (Some x) (Some y) h heard there other =
    moved-like w v to (receive (node_at w.current to) from to number x.stamp x.body)
    (receive (node_at v.current to) from to number y.stamp y.body) h
    (let both : AreReleased w v from to number x y =
    record { alike = h; there = there.is; other = other.is } in
    given-like both heard)

-- ---- Saves and restarts

-- what is acknowledged after a save
abbrev saved_at : World → ℕ → World
saved_at w i = record w { saved = set w.saved i (node_at w.current i) }

acks-grow : (v : World) (i from to : ℕ) → Behind HeardMore v
    → acknowledged v from to ≤ acknowledged (saved_at v i) from to
acks-grow v i from to heard =
    at_set_if (λ (z : NodeState). acknowledged v from to ≤ got_from z.local from) v.saved i to
    (node_at v.current i) no_node
    (λ is.
    subst (λ (k : ℕ). acknowledged v from to ≤ got_from (node_at v.current k).local from) (sym is)
    (heard to from))
    (le_refl _)

saved-like : (w v : World) (i : ℕ) → AreAlike w v → Behind HeardMore v
    → AreAlike (saved_at w i) (saved_at v i)
saved-like w v i h heard =
    let more : ℕ → ℕ → ℕ = acknowledged (saved_at v i) in
    let grows : (k to : ℕ) → acknowledged v k to ≤ more k to =
    λ k to. acks-grow v i k to heard in
    let current = likes-more (acknowledged v) more w.current v.current grows h.current in
    record {
      current = current;
      saved = likes-set more w.saved v.saved i (node_at w.current i) (node_at v.current i)
          (likes-more (acknowledged v) more w.saved v.saved grows h.saved) (current.each i);
    }

restarted-like : (w v : World) (i : ℕ) → AreAlike w v
    → AreAlike (record w { current = set w.current i (node_at w.saved i) })
    (record v { current = set v.current i (node_at v.saved i) })
restarted-like w v i h = record {
  current = likes-set (acknowledged v) w.current v.current i (node_at w.saved i)
      (node_at v.saved i) h.current (h.saved.each i);
  saved = h.saved;
}

-- ---- Any step

pub node-like : (w v : World) (i : ℕ) → AreAlike w v → is_node w i ≡ is_node v i
node-like w v i h = ap (λ (n : ℕ). ltb i n) h.current.width

both-nodes : (w v : World) (i j : ℕ) → AreAlike w v
    → (is_node w i && is_node w j) ≡ (is_node v i && is_node v j)
both-nodes w v i j h = λ k. node-like w v i h k && node-like w v j h k

handed-like : (w v : World) (from to : ℕ) → AreAlike w v
    → StepsAlike w v (handing w from to) (handing v from to)
handed-like w v from to h =
    let addressed : is_addressed (node_at w.current from).local to from
    ≡ is_addressed (node_at v.current from).local to from =
    ap (λ (p : LocalState). is_addressed p to from) (h.current.each from).local in
    let acks = acks-like w v from to h in
    let counts = sent-like w v from to h in
    let fewer : leb (acknowledged w from to) (release_count w from to)
    ≡ leb (acknowledged v from to) (release_count v from to) = λ i. leb (acks i) (counts i) in
    cond-like _ _ addressed
    (cond-like _ _ fewer
    (record { outcome = ap (λ (a : ℕ). Ok (outcome.Handed a)) acks; worlds = h })
    (refused-like w v AckBeyond h))
    (refused-like w v WrongNode h)

pub step-like : (w v : World) (s : Step) → AreAlike w v → Behind HeardMore v
    → StepsAlike w v (take_step w s) (take_step v s)
unfolding take_step
step-like w v (step.Act i e) h heard =
    cond-like _ _ (node-like w v i h)
    (cond-like _ _ refl
    (moved-like w v i (act (node_at w.current i) e) (act (node_at v.current i) e) h
    (act-like (acknowledged v i) (node_at w.current i) (node_at v.current i) e
    (h.current.each i)))
    (refused-like w v WrongNode h))
    (refused-like w v NoNode h)
step-like w v (step.Save i) h heard =
    cond-like _ _ (node-like w v i h)
    (record { outcome = refl; worlds = saved-like w v i h heard })
    (refused-like w v NoNode h)
step-like w v (step.Restart i) h heard =
    cond-like _ _ (node-like w v i h)
    (record { outcome = refl; worlds = restarted-like w v i h })
    (refused-like w v NoNode h)
step-like w v (step.Deliver from to number) h heard =
    cond-like _ _ (both-nodes w v from to h)
    (delivery-like (released w from to number) (released v from to number) h heard
    (as-released w from to number) (as-released v from to number))
    (refused-like w v NoNode h)
step-like w v (step.Hand from to) h heard =
    cond-like _ _ (both-nodes w v from to h)
    (cond-like (from == to) (from == to) refl (record { outcome = refl; worlds = h })
    (handed-like w v from to h))
    (refused-like w v NoNode h)

-- ---- Runs

pub run-like : (w v : World) (steps : List Step) → AreAlike w v → Behind HeardMore v
    → AreAlike (run w steps) (run v steps)
run-like w v [] h heard = h
run-like w v (s ∷ ss) h heard =
    run-like (happens w s) (happens v s) ss (step-like w v s h heard).worlds
    (step-behind heard-onward v s heard)

-- what is true of each event that is done in the one is true in the other
if-done-more : (P Q : Event → Type 0) → ((e : Event) → P e → Q e) → (s : Step)
    (r : Result Outcome Refusal) → IfDone P s r → IfDone Q s r
if-done-more P Q more (step.Act i e) (Ok o) has = more e has
if-done-more P Q more s r has = tt

pub done-like : (P Q : Event → Type 0) → ((e : Event) → P e → Q e) → (w v : World)
    (steps : List Step) → AreAlike w v → Behind HeardMore v → EachDone P w steps
    → EachDone Q v steps
done-like P Q more w v [] h heard each = tt
done-like P Q more w v (s ∷ ss) h heard each =
    let both = step-like w v s h heard in (
      subst (λ (r : Result Outcome Refusal). IfDone Q s r) both.outcome
          (if-done-more P Q more s (outcome_of (take_step w s)) each.0),
      done-like P Q more (happens w s) (happens v s) ss both.worlds
          (step-behind heard-onward v s heard) each.1,
    )

pub events-like : (w v : World) (log : List Step) → AreAlike w v → Behind HeardMore v
    → AreEvents w log → AreEvents v log
events-like w v [] h heard events = tt
events-like w v (s ∷ ss) h heard events = (
  sym (ap is_eventful (step-like w v s h heard).outcome) ∙ events.0,
  events-like (happens w s) (happens v s) ss (step-like w v s h heard).worlds
      (step-behind heard-onward v s heard) events.1,
)
