-- What only grows in a node, such as what it sent and received. A saved state has no more of it
-- than the current state, and no more than a state that is saved later.
use Rattle.std.proofs.Common.{◌≡◌, ℕ, true, set, List, [], ◌∷◌, Ok, subst}
use Rattle.ids.specs.Limits.{Shaped}
use Rattle.model.specs.declared.event.Event.{Event}
use Rattle.model.specs.declared.event.Answer.{Answer}
use Rattle.model.specs.declared.step.Step.{Step}
use Rattle.model.specs.State.{NodeState, no_node, node_at}
use Rattle.model.specs.Steps.{act, is_own}
use Rattle.model.specs.World.{World, new_world, happens, run}
use Rattle.model.proofs.Lookups.{at_set_if}
use Rattle.laws.proofs.StepFacts.{Delivery, given_to, Happening, nothing, acted, delivered, saved, restarted, happening}

-- a comparison of two states of a node
pub record Compares (R : NodeState → NodeState → Type 0) : Type 0 where
  pub same : (s : NodeState) → R s s
  pub both : (s t u : NodeState) → R s t → R t u → R s u

-- a comparison in which no event and no receipt goes back
pub record Onward (R : NodeState → NodeState → Type 0) : Type 0 where
  pub order : Compares R
  pub acts : (s : NodeState) (e : Event) (t : NodeState) (a : Answer) → is_own e ≡ true
      → act s e ≡ Ok (t, a) → R s t
  pub receives : (s : NodeState) (m : Delivery) (t : NodeState) (a : Answer)
      → given_to s m ≡ Ok (t, a) → R s t

-- each saved state is no further than the current one
abbrev pub Behind : (NodeState → NodeState → Type 0) → World → Type 0
Behind R w = (i : ℕ) → R (node_at w.saved i) (node_at w.current i)

pub new-behind : {R : NodeState → NodeState → Type 0} → Compares R → (shape : Shaped)
    → Behind R (new_world shape)
new-behind f shape i = f.same _

-- a node changes to a state that is further
pub behind-changed : {R : NodeState → NodeState → Type 0} → Compares R
    → (w : World) (i : ℕ) (t : NodeState) → Behind R w → R (node_at w.current i) t
    → Behind R (record w { current = set w.current i t })
behind-changed {R = R} f w i t h more k =
    at_set_if (R (node_at w.saved k)) w.current i k t no_node
    (λ e.
    f.both (node_at w.saved k) (node_at w.current k) t (h k)
    (subst (λ (n : ℕ). R (node_at w.current n) t) e more))
    (h k)

-- a node is saved
pub behind-saved : {R : NodeState → NodeState → Type 0} → Compares R → (w : World) (i : ℕ)
    → Behind R w → Behind R (record w { saved = set w.saved i (node_at w.current i) })
behind-saved {R = R} f w i h k =
    at_set_if (λ z. R z (node_at w.current k)) w.saved i k (node_at w.current i) no_node
    (λ e. subst (λ (n : ℕ). R (node_at w.current i) (node_at w.current n)) e (f.same _))
    (h k)

-- a node is restarted
pub behind-restarted : {R : NodeState → NodeState → Type 0} → Compares R → (w : World) (i : ℕ)
    → Behind R w → Behind R (record w { current = set w.current i (node_at w.saved i) })
behind-restarted {R = R} f w i h k =
    at_set_if (R (node_at w.saved k)) w.current i k (node_at w.saved i) no_node
    (λ e. subst (λ (n : ℕ). R (node_at w.saved n) (node_at w.saved i)) e (f.same _))
    (h k)

behind-happening : {R : NodeState → NodeState → Type 0} → {s : Step} → Onward R → (w v : World)
    → Happening w s v → Behind R w → Behind R v
behind-happening f w v nothing h = h
behind-happening f w v (acted i e t a is x) h =
    behind-changed f.order w i t h (f.acts (node_at w.current i) e t a x.own x.answered)
behind-happening f w v (delivered m t a x) h =
    behind-changed f.order w m.to t h (f.receives (node_at w.current m.to) m t a x.answered)
behind-happening f w v (saved i within) h = behind-saved f.order w i h
behind-happening f w v (restarted i is within) h = behind-restarted f.order w i h

pub step-behind : {R : NodeState → NodeState → Type 0} → Onward R → (w : World) (s : Step)
    → Behind R w → Behind R (happens w s)
step-behind f w s h = behind-happening f w (happens w s) (happening w s) h

-- the same for a list of steps
pub run-behind : {R : NodeState → NodeState → Type 0} → Onward R → (w : World) (steps : List Step)
    → Behind R w → Behind R (run w steps)
run-behind f w [] h = h
run-behind f w (s ∷ ss) h = run-behind f (happens w s) ss (step-behind f w s h)

-- each saved state is no further than the one after some step
saved-happening : {R : NodeState → NodeState → Type 0} → {s : Step} → Onward R → (w v : World)
    → Happening w s v → Behind R w → (k : ℕ) → R (node_at w.saved k) (node_at v.saved k)
saved-happening f w v nothing h k = f.order.same _
saved-happening f w v (acted i e t a is x) h k = f.order.same _
saved-happening f w v (delivered m t a x) h k = f.order.same _
saved-happening {R = R} f w v (saved i within) h k =
    at_set_if (R (node_at w.saved k)) w.saved i k (node_at w.current i) no_node
    (λ e. subst (λ (n : ℕ). R (node_at w.saved n) (node_at w.current i)) e (h i))
    (f.order.same _)
saved-happening f w v (restarted i is within) h k = f.order.same _

-- and after a list of steps
pub run-saved : {R : NodeState → NodeState → Type 0} → Onward R → (w : World) (steps : List Step)
    → Behind R w → (k : ℕ) → R (node_at w.saved k) (node_at (run w steps).saved k)
run-saved f w [] h k = f.order.same _
run-saved f w (s ∷ ss) h k =
    f.order.both (node_at w.saved k) (node_at (happens w s).saved k)
    (node_at (run (happens w s) ss).saved k)
    (saved-happening f w (happens w s) (happening w s) h k)
    (run-saved f (happens w s) ss (step-behind f w s h) k)
