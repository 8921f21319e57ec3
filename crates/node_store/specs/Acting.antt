-- What an event does to a node, and to its log.
use Rattle.std.specs.Prelude.{◌≡◌, ◌≢◌, ◌⊎◌, ℕ, Bool, false, true, cond, List, None, Option, Result, Ok, Err, IfErr, IfOk, IsTrue, OnErr, nat_le}
use Rattle.ids.specs.declared.refusal.Refusal.{Refusal}
use Rattle.ids.specs.declared.refusal.Refusal.TheVariants.{Memory}
use Rattle.model.specs.Effects.{is_change}
use Rattle.model.specs.State.{NodeState}
use Rattle.model.specs.Steps.{act, is_memory_free, is_shading}
use Rattle.model.specs.View.{Follows, Leaves, NodeView, Performs, Shows, link_to, view_act}
use Rattle.model.specs.declared.event.Answer.{Answer}
use Rattle.model.specs.declared.event.Answer.TheVariants as answer
use Rattle.model.specs.declared.event.Event.{Event}
use Rattle.model.specs.declared.event.Event.TheVariants as event
use Rattle.node.specs.Keeping.{WholeNode, early_after, met}
use Rattle.node_log.specs.Noted.{Noted}
use Rattle.node_store.specs.declared.logged.LoggedNode.{LoggedNode}

-- What an event is to the node. An answer and the node afterwards are what the definitions say,
-- also of each state that the node shows; a refusal is the first that applies, and changes nothing.
pub record Acts (old new : WholeNode) (e : Event) (r : Result Answer Refusal) : Type 0 where
  pub performs : Performs (is_shading (met old.early e)) r new.core
      (view_act old.core (met old.early e))
  pub states : (s : NodeState) → Shows old.core s
      → Follows (met old.early e) r new.core (act s (met old.early e))
  pub unchanged : OnErr r (new.core ≡ old.core)
  pub leaves : Leaves old.core new.core (met old.early e)
  pub memory_free : IsTrue (is_memory_free old.core.local (met old.early e))
      → IfErr r (λ f. f ≢ Memory)
  pub early : new.early ≡ early_after old.core.local old.early e r
  pub turn : met old.early e ≢ e → IfOk r (λ a. a ≡ answer.Received)

-- The event is an acknowledgement of messages that were all acknowledged before.
abbrev pub is_old_ack : NodeView → Event → Bool
is_old_ack n (event.Ack a) = nat_le a.number (link_to n a.by).base
is_old_ack n e = false

-- whether the event changed what is saved
abbrev pub has_changed : Result Answer Refusal → Bool
has_changed (Ok a) = is_change a
has_changed (Err e) = false

-- the log that a node keeps, unless it is lost
abbrev pub log_of : LoggedNode → Option (List ℕ)
log_of n = cond n.logs n.log None

-- The event is in the log, or that is lost, or none is kept; or it acknowledged nothing new and
-- isn't noted.
abbrev pub IsNoted : LoggedNode → LoggedNode → Event → Type 0
IsNoted old new e =
    Noted (log_of old) (log_of new) e
    ⊎ ((is_old_ack old.node.core e ≡ true) × (new.log ≡ old.log))

-- The event was given to the node, and what changed that was noted. Nothing else is noted.
pub record Acted (old new : LoggedNode) (e : Event) (r : Result Answer Refusal) : Type 0 where
  pub acts : Acts old.node new.node e r
  pub logs : new.logs ≡ old.logs
  pub noted : has_changed r ≡ true → IsNoted old new (met old.node.early e)
  pub quiet : has_changed r ≡ false → new.log ≡ old.log
