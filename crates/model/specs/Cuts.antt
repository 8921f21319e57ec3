-- What is reachable in a space ("Cuts and reach" in docs/PROOF.md).
use Rattle.std.specs.Prelude.{◌≡◌, ◌≢◌, ℕ, ◌+◌, ◌≤◌, Bool, true, cond, List, [], ◌∷◌, Some, None, Ok, slice_get, slice_index_or, ◌⊎◌}
use Rattle.ids.specs.declared.names.Ref.{Ref}
use Rattle.msg.specs.declared.body.Message.{Message}
use Rattle.model.specs.declared.event.Event.{Event}
use Rattle.model.specs.declared.event.Answer.{Answer}
use Rattle.model.specs.declared.event.Letter.{Letter}
use Rattle.model.specs.State.{Object, Occupied, NodeState, register_at, slot_at, got_from, sent_to, node_at}
use Rattle.model.specs.Steps.{carried, act, receive, is_own}
use Rattle.model.specs.World.{World}

-- a state for each node number
abbrev pub Cut : Type 0
Cut = ℕ → NodeState

-- for each node its saved state if the choice is true, else its current one
abbrev pub cut : World → (ℕ → Bool) → Cut
cut w saved i = cond (saved i) (node_at w.saved i) (node_at w.current i)

-- how many messages of one node another node has received
abbrev pub taken : Cut → ℕ → ℕ → ℕ
taken c from to = got_from (c to).local from

-- The message is in flight. Its place is its index among all messages ever sent on its link, so it
-- doesn't change when other messages are appended or received.
pub record IsInFlight (c : Cut) (from to place : ℕ) (x : Message) : Type 0 where
  pub later : taken c from to ≤ place
  pub there : slice_get (sent_to (c from) to) place ≡ Some x

-- membership in a list, by cases
abbrev pub Among : {A : Type 0} → A → List A → Type 0
Among x [] = ⊥
Among x (y ∷ ys) = (x ≡ y) ⊎ Among x ys

-- the object's owner still has it
pub record IsLive (c : Cut) (r : Ref) : Type 0 where
  pub object : Object
  pub there : slot_at (c r.node).local.heap r.slot ≡ Occupied r.generation object

-- What is reachable: the references in registers and letters; those that messages in flight carry;
-- and with a reference, all those in the places of its object.
pub data Reachable (c : Cut) : Ref → Type 0 where
  in_register : {r : Ref} (i k : ℕ) → register_at (c i).local.heap k ≡ Some r → Reachable c r
  in_letter : {r : Ref} (i k : ℕ) (l : Letter) → slice_get (c i).local.heap.letters k ≡ Some l
      → l.reference ≡ Some r → Reachable c r
  in_message : {r : Ref} (from to place : ℕ) (x : Message) → IsInFlight c from to place x
      → Among r (carried x.body) → Reachable c r
  in_place : {r : Ref} (owner : Ref) (o : Object) (k : ℕ) → Reachable c owner
      → slot_at (c owner.node).local.heap owner.slot ≡ Occupied owner.generation o
      → slice_index_or o.places k None ≡ Some r → Reachable c r

-- one node changes
pub record Becomes (c d : Cut) (i : ℕ) (s : NodeState) : Type 0 where
  pub changed : d i ≡ s
  pub others : (j : ℕ) → j ≢ i → d j ≡ c j

-- a step without saves and restarts: a node's own event, or the receipt of the first message in
-- flight on a link
pub data PlainStep (c d : Cut) : Type 0 where
  acts : (i : ℕ) (e : Event) (s : NodeState) (a : Answer) → is_own e ≡ true
      → act (c i) e ≡ Ok (s, a) → Becomes c d i s → PlainStep c d
  delivers : (from to : ℕ) (x : Message) (s : NodeState) (a : Answer)
      → IsInFlight c from to (taken c from to) x
      → receive (c to) from to (taken c from to + 1) x.stamp x.body ≡ Ok (s, a) → Becomes c d to s
      → PlainStep c d

pub data PlainRun (c : Cut) : Cut → Type 0 where
  still : {d : Cut} → ((i : ℕ) → d i ≡ c i) → PlainRun c d
  further : {d e : Cut} → PlainRun c d → PlainStep d e → PlainRun c e
