-- Which frames a node gives out whose caller carries them, and what single steps do to a space.
use Rattle.std.proofs.Common.{◌≡◌, ◌≢◌, ℕ, ◌+◌, ◌-◌, ◌<◌, true, ◌&&◌, List, length, get_or, set, slice_get, Option, Some, None, Ok, inl, inr, refl, sym, ap, ◌∙◌, subst, arith, ltb-true, get_or-set_same, get_or-set_other, Bool, ◌==◌}
use Rattle.std.specs.Prelude.{nat_lt, not}
use Rattle.std.proofs.lemmas.Bool.{and_from, and_parts, cases_Bool, cond-true, cond-false, eq-eqb, lt-ltb, ne_eqb}
use Rattle.ids.specs.declared.limits.TheConstants.{WINDOW}
use Rattle.msg.specs.Frames.{ack_frame, data_frame}
use Rattle.msg.specs.declared.body.Message.{Message}
use Rattle.model.specs.declared.event.Event.{Event}
use Rattle.model.specs.declared.event.Answer.{Answer}
use Rattle.model.specs.declared.step.Step.TheVariants as step
use Rattle.model.specs.State.{LocalState, NodeState, no_node, node_at, sent_to}
use Rattle.model.specs.Steps.{act, is_own, receive}
use Rattle.model.specs.View.{Link, NodeView, is_other, link_to, released_at}
use Rattle.model.specs.World.{World, KeepsSent, IsInNet, delivery, happens, is_node, moved, numbered, released, take_step, world_after}
use Rattle.model.proofs.Lookups.{slice_get-drop, slice_get-left}
use Rattle.laws.specs.Carried.{IsCarried}

-- ---- single steps

-- the current state of one node is this one now
pub record Moves (w v : World) (i : ℕ) (s : NodeState) : Type 0 where
  pub now : node_at v.current i ≡ s
  pub others : (k : ℕ) → k ≢ i → node_at v.current k ≡ node_at w.current k
  pub saved : v.saved ≡ w.saved

moves-to : (w : World) (i : ℕ) (s : NodeState) → i < length w.current
    → Moves w (record w { current = set w.current i s }) i s
moves-to w i s within = record {
  now = get_or-set_same w.current i s no_node within;
  others = λ k other. get_or-set_other w.current i k s no_node other;
  saved = refl;
}

-- it answered an event of its own
pub act-moves : (w : World) (i : ℕ) (e : Event) (s : NodeState) (a : Answer)
    → i < length w.current → is_own e ≡ true → act (node_at w.current i) e ≡ Ok (s, a)
    → Moves w (happens w (step.Act i e)) i s
unfolding take_step
act-moves w i e s a within own answered =
    subst (λ (v : World). Moves w v i s)
    (sym (ap (world_after w)
    (cond-true (is_node w i) _ _ (lt-ltb i (length w.current) within)
    ∙ cond-true (is_own e) _ _ own
    ∙ ap (moved w i) answered)))
    (moves-to w i s within)

-- it answered a message
pub deliver-moves : (w : World) (from to number : ℕ) (x : Message) (s : NodeState) (a : Answer)
    → from < length w.current → to < length w.current → released w from to number ≡ Some x
    → receive (node_at w.current to) from to number x.stamp x.body ≡ Ok (s, a)
    → Moves w (happens w (step.Deliver from to number)) to s
unfolding take_step
deliver-moves w from to number x s a f t there answered =
    subst (λ (v : World). Moves w v to s)
    (sym (ap (world_after w)
    (cond-true (is_node w from && is_node w to) _ _
    (and_from _ _ (lt-ltb from (length w.current) f) (lt-ltb to (length w.current) t))
    ∙ ap (delivery w from to number) there
    ∙ ap (moved w to) answered)))
    (moves-to w to s t)

-- it restarted
pub restart-moves : (w : World) (i : ℕ) → i < length w.current
    → Moves w (happens w (step.Restart i)) i (node_at w.saved i)
unfolding take_step
restart-moves w i within =
    subst (λ (v : World). Moves w v i (node_at w.saved i))
    (sym (ap (world_after w)
    (cond-true (is_node w i) _ _ (lt-ltb i (length w.current) within))))
    (moves-to w i (node_at w.saved i) within)

-- the saved state of one node is its current one now
pub record Saves (w v : World) (i : ℕ) : Type 0 where
  pub now : node_at v.saved i ≡ node_at w.current i
  pub others : (k : ℕ) → k ≢ i → node_at v.saved k ≡ node_at w.saved k
  pub current : v.current ≡ w.current

pub save-saves : (w : World) (i : ℕ) → KeepsSent w → i < length w.current
    → Saves w (happens w (step.Save i)) i
unfolding take_step
save-saves w i h within =
    subst (λ (v : World). Saves w v i)
    (sym (ap (world_after w)
    (cond-true (is_node w i) _ _ (lt-ltb i (length w.current) within))))
    (record {
      now = get_or-set_same w.saved i (node_at w.current i) no_node
          (let width = h.width in omega (arith, within, width));
      others = λ k other. get_or-set_other w.saved i k (node_at w.current i) no_node other;
      current = refl;
    })

-- ---- frames

-- another node of the space is another one, and in it
pub apart : (p : LocalState) (to : ℕ) → is_other p to ≡ true → to ≢ p.own
apart p to other same =
    let differs : not (to == p.own) ≡ true =
    (and_parts (nat_lt to p.shape.nodes) (not (to == p.own)) other).1 in
    let never : not true ≡ true =
    subst (λ (b : Bool). not b ≡ true) (eq-eqb to p.own same) differs in
    absurd cc

pub inside : (p : LocalState) (to : ℕ) → is_other p to ≡ true → to < p.shape.nodes
inside p to other =
    ltb-true to p.shape.nodes (and_parts (nat_lt to p.shape.nodes) (not (to == p.own)) other).0

-- a message in a released place of a window
pub record IsInPlace (l : Link) (place : ℕ) (x : Message) : Type 0 where
  pub before : l.base + place < l.kept
  pub there : slice_get l.unacknowledged place ≡ Some x

pub in-place : (l : Link) (place : ℕ) (x : Message) → released_at l place ≡ Some x
    → IsInPlace l place x
in-place l place x found =
    elim (cases_Bool (nat_lt place WINDOW && nat_lt (l.base + place) l.kept)) as
    (λ _. IsInPlace l place x) [
      | inl may ↦ record {
        before = ltb-true (l.base + place) l.kept
            (and_parts (nat_lt place WINDOW) (nat_lt (l.base + place) l.kept) may).1;
        there = sym (cond-true (nat_lt place WINDOW && nat_lt (l.base + place) l.kept)
            (slice_get l.unacknowledged place) None may) ∙ found;
      }
      | inr may ↦ let never : ◌≡◌ {A = Option Message} None (Some x) =
          sym (cond-false (nat_lt place WINDOW && nat_lt (l.base + place) l.kept)
          (slice_get l.unacknowledged place) None may) ∙ found in absurd cc
    ]

-- the message in place k of what was sent has the number k + 1
pub numbered-in : (sent : List Message) (k number : ℕ) (x : Message) → number ≡ k + 1
    → slice_get sent k ≡ Some x → numbered sent number ≡ Some x
numbered-in sent k number x is there =
    cond-true (nat_lt 0 number) (slice_get sent (number - 1)) None
    (lt-ltb 0 number (omega (arith, is)))
    ∙ ap (slice_get sent) (let before : number - 1 ≡ k = omega (arith, is) in before)
    ∙ there

module _ {w : World} (i : ℕ) {n : NodeView}
    (h : IsCarried (node_at w.saved i) (node_at w.current i) n)
    (grown : KeepsSent w) where
  -- the saved state sent a message that is in a released place
  saved-place : (to place : ℕ) (x : Message) → released_at (link_to n to) place ≡ Some x
      → slice_get (sent_to (node_at w.saved i) to) ((link_to n to).base + place) ≡ Some x
  saved-place to place x found =
      let l : Link = link_to n to in
      let at = in-place l place x found in
      let k : ℕ = l.base + place in
      let was : List Message = sent_to (node_at w.saved i) to in
      let more = grown.sent i to in
      let before = at.before in
      let few = h.sent to in
      sym (slice_get-left was more.0 k (omega (arith, before, few)))
      ∙ ap (λ (xs : List Message). slice_get xs k) (sym more.1)
      ∙ sym (slice_get-drop (sent_to (node_at w.current i) to) l.base place)
      ∙ ap (λ (xs : List Message). slice_get xs place) (sym (h.shows.links to).unacknowledged)
      ∙ at.there

  -- such a message was released
  pub window-in-net : (to place : ℕ) (x : Message) → i ≢ to
      → released_at (link_to n to) place ≡ Some x
      → IsInNet w (data_frame i to ((link_to n to).base + 1 + place) x.stamp x.body)
  window-in-net to place x apart found =
      cond-false (i == to) _ _ (ne_eqb i to apart)
      ∙ numbered-in (sent_to (node_at w.saved i) to) ((link_to n to).base + place)
      ((link_to n to).base + 1 + place) x (omega arith) (saved-place to place x found)

  -- what the node acknowledges was received by its saved state
  pub ack-in-net : (from : ℕ) → i < length w.current → from < length w.current → i ≢ from
      → IsInNet w (ack_frame i from (get_or n.acks from 0))
  ack-in-net from within other apart = (within, other, apart, h.received from)
