-- Events of a space, one after another: what a list of events and one more leads to, and what an
-- event of one node leaves unchanged at the others.
use Rattle.std.proofs.Common.{◌≡◌, ◌≢◌, ℕ, ◌<◌, ◌≤◌, ◌==◌, cond, eq-eqb, ne_eqb, lt-ltb, Bool, true, false, List, [], ◌∷◌, ◌++◌, length, set, Some, Result, Ok, refl, sym, ap, ◌∙◌, subst, get_or-set_same, get_or-set_other, slice_get}
use Rattle.std.proofs.Math.Logic.{∥∥₁_elim}
use Rattle.std.proofs.Props.{props}
use Rattle.std.proofs.lemmas.Bool.{and_from, cond-true, cond-false}
use Rattle.ids.specs.declared.refusal.Refusal.{Refusal}
use Rattle.msg.specs.Frames.{Plain, data_frame}
use Rattle.msg.specs.declared.body.Message.{Message}
use Rattle.model.specs.declared.event.Event.{Event}
use Rattle.model.specs.declared.event.Answer.{Answer}
use Rattle.model.specs.declared.step.Step.{Step}
use Rattle.model.specs.declared.step.Step.TheVariants as step
use Rattle.model.specs.declared.step.Outcome.{Outcome}
use Rattle.model.specs.declared.step.Outcome.TheVariants as outcome
use Rattle.model.specs.State.{NodeState, no_node, node_at}
use Rattle.model.specs.Steps.{act, receive, is_own}
use Rattle.model.specs.Effects.{is_change}
use Rattle.model.specs.World.{World, KeepsSent, released, moved, delivery, take_step, world_after, outcome_of, happens, run, is_eventful, is_event, IsInNet}
use Rattle.model.proofs.Runs.{run-append, run-push}
use Rattle.laws.proofs.Onward.{Compares, Behind, run-behind, run-saved}
use Rattle.laws.proofs.KeepsSent.{sent-onward, run-count}
use Rattle.laws.proofs.Cuts.{run-keeps-sent}
use Rattle.laws.proofs.Net.{heard-onward, net-onward}
use Rattle.wire.specs.Views.{Pair, Known, pair_at}
use Rattle.wire.specs.Rule.{nodes_of, ended_of, IsOpening, node_of, events_of, AreEvents}
use Rattle.wire.specs.Plays.{Happens}
use Rattle.wire.proofs.Ages.{older-onward}

-- ---- One more event

cond-push : (b : Bool) (t s : Step) (xs ys : List Step) → xs ≡ ys ++ s ∷ []
    → cond b (t ∷ xs) xs ≡ cond b (t ∷ ys) ys ++ s ∷ []
cond-push true t s xs ys same = ap (λ (l : List Step). t ∷ l) same
cond-push false t s xs ys same = same

pub events-push_same : (i : ℕ) (log : List Step) (s : Step) → node_of s ≡ i
    → events_of i (log ++ s ∷ []) ≡ events_of i log ++ s ∷ []
events-push_same i [] s is = cond-true _ _ _ (eq-eqb (node_of s) i is)
events-push_same i (t ∷ ts) s is =
    cond-push (node_of t == i) t s _ _ (events-push_same i ts s is)

pub events-push_other : (i : ℕ) (log : List Step) (s : Step) → node_of s ≢ i
    → events_of i (log ++ s ∷ []) ≡ events_of i log
events-push_other i [] s apart = cond-false _ _ _ (ne_eqb (node_of s) i apart)
events-push_other i (t ∷ ts) s apart =
    ap (λ (l : List Step). cond (node_of t == i) (t ∷ l) l) (events-push_other i ts s apart)

pub are-push : (w : World) (log : List Step) (s : Step) → AreEvents w log
    → is_event (run w log) s ≡ true → AreEvents w (log ++ s ∷ [])
are-push w [] s are next = (next, tt)
are-push w (t ∷ ts) s are next = (are.0, are-push (happens w t) ts s are.1 next)

-- ---- What only grows

behind : {R : NodeState → NodeState → Type 0} → Compares R → (w : World) → IsOpening w → Behind R w
behind {R = R} order w opens i =
    subst (λ (l : List NodeState). R (node_at w.saved i) (node_at l i)) opens.same (order.same _)

pub keeps : (w : World) (log : List Step) → IsOpening w → KeepsSent (run w log)
keeps w log opens =
    run-keeps-sent w log
    (record { width = ap length opens.same; sent = behind sent-onward.order w opens })

module _ (w : World) (log : List Step) (opens : IsOpening w) where
  pub width : length (run w log).saved ≡ length (run w log).current
  width = (keeps w log opens).width

  pub count : length (run w log).current ≡ nodes_of w
  count = run-count w log

  -- a frame in the net is still there after more steps
  pub net-more : (more : List Step) (f : Plain) → IsInNet (run w log) f
      → IsInNet (run w (log ++ more)) f
  net-more more f there =
      subst (λ (v : World). IsInNet v f) (sym (run-append w log more))
      (net-onward (run w log) more f
      (run-behind sent-onward w log (behind sent-onward.order w opens))
      (run-behind heard-onward w log (behind heard-onward.order w opens)) there)

  pub net-push : (s : Step) (f : Plain) → IsInNet (run w log) f → IsInNet (run w (log ++ s ∷ [])) f
  net-push s f there = net-more (s ∷ []) f there

  pub ended-push : (s : Step) → ended_of (run w log) ≤ ended_of (run w (log ++ s ∷ []))
  ended-push s =
      let first = run-saved older-onward w log (behind older-onward.order w opens) 0 opens.ended in
      subst (λ (v : World). ended_of (run w log) ≤ ended_of v) (sym (run-push w log s))
      (run-saved older-onward (run w log) (s ∷ [])
      (run-behind older-onward w log (behind older-onward.order w opens)) 0 first.1).0

-- ---- What an event of one node does

-- the step is an event, after which node i has the pair q, and the others are unchanged
pub record IsLocal (w : World) (s : Step) (i : ℕ) (q : Pair) : Type 0 where
  pub node : node_of s ≡ i
  pub event : is_event w s ≡ true
  pub here : pair_at (happens w s) i ≡ q
  pub others : (j : ℕ) → j ≢ i → pair_at (happens w s) j ≡ pair_at w j

module _ (w : World) (i : ℕ) (q : Pair) (pair_is : pair_at w i ≡ q) where
  current_is : node_at w.current i ≡ q.current
  current_is = ap (λ (p : Pair). p.current) pair_is

  saved_is : node_at w.saved i ≡ q.saved
  saved_is = ap (λ (p : Pair). p.saved) pair_is

eventful : (w : World) (s : Step) (v : World) (o : Outcome) → take_step w s ≡ Ok (v, o)
    → is_eventful (Ok o) ≡ true → is_event w s ≡ true
eventful w s v o h e =
    ap (λ (r : Result (World × Outcome) Refusal). is_eventful (outcome_of r)) h ∙ e

leads : (w : World) (s : Step) (v : World) (o : Outcome) → take_step w s ≡ Ok (v, o)
    → happens w s ≡ v
leads w s v o h = ap (world_after w) h

-- a node of a world, and its pair
record Stands (w : World) (i : ℕ) (p : Pair) : Type 0 where
  pub below : i < length w.current
  pub pair_is : pair_at w i ≡ p

module _ {w : World} {i : ℕ} {p : Pair} (stands : Stands w i p) {q : Pair} where
  -- the node's current state is now t
  moved-local : (s : Step) (t : NodeState) (o : Outcome) → node_of s ≡ i
      → take_step w s ≡ Ok (record w { current = set w.current i t }, o)
      → is_eventful (Ok o) ≡ true → q ≡ record { current = t; saved = p.saved } → IsLocal w s i q
  moved-local s t o node took e is =
      let next : World = record w { current = set w.current i t } in
      let now = leads w s next o took in
      record {
        node = node;
        event = eventful w s next o took e;
        here = ap (λ (v : World). pair_at v i) now
            ∙ (λ k. record {
              current = get_or-set_same w.current i t no_node stands.below k;
              saved = saved_is w i p stands.pair_is k;
            })
            ∙ sym is;
        others = λ j apart. ap (λ (v : World). pair_at v j) now
            ∙ (λ k. record {
              current = get_or-set_other w.current i j t no_node apart k;
              saved = node_at w.saved j;
            });
      }

  -- the node's saved state is its current one
  saved-local : length w.saved ≡ length w.current
      → q ≡ record { current = p.current; saved = p.current } → IsLocal w (step.Save i) i q
  unfolding take_step
  saved-local wide is =
      let next : World = record w { saved = set w.saved i (node_at w.current i) } in
      let took : take_step w (step.Save i) ≡ Ok (next, outcome.Done) =
      cond-true _ _ _ (lt-ltb i _ stands.below) in
      let now = leads w (step.Save i) next outcome.Done took in
      record {
        node = refl;
        event = eventful w (step.Save i) next outcome.Done took refl;
        here = ap (λ (v : World). pair_at v i) now
            ∙ (λ k. record {
              current = node_at w.current i;
              saved = get_or-set_same w.saved i (node_at w.current i) no_node
                  (subst (λ (n : ℕ). i < n) (sym wide) stands.below) k;
            })
            ∙ ap (λ (s : NodeState). record { current = s; saved = s })
            (current_is w i p stands.pair_is)
            ∙ sym is;
        others = λ j apart. ap (λ (v : World). pair_at v j) now
            ∙ (λ k. record {
              current = node_at w.current j;
              saved = get_or-set_other w.saved i j (node_at w.current i) no_node apart k;
            });
      }

  restarted-local : q ≡ record { current = p.saved; saved = p.saved }
      → IsLocal w (step.Restart i) i q
  unfolding take_step
  restarted-local is =
      moved-local (step.Restart i) (node_at w.saved i) outcome.Done refl
      (cond-true _ _ _ (lt-ltb i _ stands.below)) refl
      (is
      ∙ ap (λ (s : NodeState). record { current = s; saved = p.saved })
      (sym (saved_is w i p stands.pair_is)))

  acted-local : (e : Event) (a : Answer) → is_own e ≡ true → q.saved ≡ p.saved
      → act p.current e ≡ Ok (q.current, a) → is_change a ≡ true → IsLocal w (step.Act i e) i q
  unfolding take_step
  acted-local e a own same acted event =
      moved-local (step.Act i e) q.current (outcome.Answer a) refl
      (cond-true _ _ _ (lt-ltb i _ stands.below)
      ∙ cond-true _ _ _ own
      ∙ ap (moved w i)
      (ap (λ (s : NodeState). act s e) (current_is w i p stands.pair_is) ∙ acted))
      event
      (λ k. record { current = q.current; saved = same k })

  delivered-local : {from number : ℕ} (x : Message) (a : Answer) → from < length w.current
      → released w from i number ≡ Some x → q.saved ≡ p.saved
      → (receive p.current from i number x.stamp x.body ≡ Ok (q.current, a)) × is_change a ≡ true
      → IsLocal w (step.Deliver from i number) i q
  unfolding take_step
  delivered-local {from} {number} x a there taken same received =
      moved-local (step.Deliver from i number) q.current (outcome.Answer a) refl
      (cond-true _ _ _
      (and_from _ _ (lt-ltb from (length w.current) there)
      (lt-ltb i (length w.current) stands.below))
      ∙ ap (delivery w from i number) taken
      ∙ ap (moved w i)
      (ap (λ (s : NodeState). receive s from i number x.stamp x.body)
      (current_is w i p stands.pair_is)
      ∙ received.0))
      received.1
      (λ k. record { current = q.current; saved = same k })

-- what the seat of a node may know of a world
pub record Knows (w : World) (v : Known) : Type 0 where
  pub below : v.me < length w.current
  pub nodes : v.nodes ≡ length w.current
  pub wide : length w.saved ≡ length w.current
  pub pair_is : pair_at w v.me ≡ v.pair
  pub released : (k : ℕ) (f : Plain) → slice_get v.taken k ≡ Some f → IsInNet w f

stands-of : (w : World) (v : Known) → Knows w v → Stands w v.me v.pair
stands-of w v h = record { below = h.below; pair_is = h.pair_is }

pub happens-local : (w : World) (v : Known) (s : Step) (q : Pair) → Knows w v → Happens v s q
    → IsLocal w s v.me q
happens-local w v (step.Act i e) q h t =
    subst (λ (n : ℕ). IsLocal w (step.Act n e) v.me q) (sym t.0)
    (acted-local (stands-of w v h) e t.3.0 t.1 t.2 t.3.1 t.3.2)
happens-local w v (step.Save i) q h t =
    subst (λ (n : ℕ). IsLocal w (step.Save n) v.me q) (sym t.0)
    (saved-local (stands-of w v h) h.wide t.1)
happens-local w v (step.Restart i) q h t =
    subst (λ (n : ℕ). IsLocal w (step.Restart n) v.me q) (sym t.0)
    (restarted-local (stands-of w v h) t.1)
happens-local w v (step.Deliver from to number) q h t =
    let x : Message = t.3.0 in
    subst (λ (n : ℕ). IsLocal w (step.Deliver from n number) v.me q) (sym t.0)
    (delivered-local (stands-of w v h) x t.3.1
    (subst (λ (n : ℕ). from < n) h.nodes t.1)
    (∥∥₁_elim t.3.2 (hlevel props)
    (λ taken. h.released taken.0 (data_frame from v.me number x.stamp x.body) taken.1)) t.2
    (t.3.3, t.3.4))
happens-local w v (step.Hand from to) q h never = absurd never
