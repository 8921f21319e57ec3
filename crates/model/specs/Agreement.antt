-- What the end of a cycle's marking means, in the words of EWD998 ("The end of marking" in
-- docs/PROOF.md): which messages in flight a cycle counts, the nodes' balances of these messages,
-- and when marking has terminated.
use Rattle.std.specs.Prelude.{◌≡◌, ℕ, zero, suc, ℤ, pos, ◌+◌, ◌+ℤ◌, ◌≤◌, ◌<◌, Bool, false, cond, nat_lt, ◌==◌, List, [], ◌∷◌, drop}
use Rattle.ids.specs.declared.names.Ref.{Ref}
use Rattle.msg.specs.declared.body.Body.{Body}
use Rattle.msg.specs.declared.body.Body.TheVariants as body
use Rattle.msg.specs.declared.body.Message.{Message}
use Rattle.model.specs.State.{Object, Occupied, LocalState, slot_at, sent_to, node_at}
use Rattle.model.specs.Counting.{is_reference}
use Rattle.model.specs.World.{World}
use Rattle.model.specs.Cuts.{Cut, cut, taken, IsInFlight, Reachable}

-- the sum of the first n values of f
abbrev pub total : ℕ → (ℕ → ℤ) → ℤ
total zero f = pos 0
total (suc n) f = total n f +ℤ f n

-- the weights of a list of messages, added
abbrev pub weighed : (Message → ℕ) → List Message → ℕ
weighed g [] = 0
weighed g (x ∷ xs) = g x + weighed g xs

-- how many messages of a list pass a test
abbrev pub number_of : (Message → Bool) → List Message → ℕ
number_of f xs = weighed (λ x. cond (f x) 1 0) xs

-- the messages in flight on a link, the next one to be received first
abbrev pub in_flight : Cut → ℕ → ℕ → List Message
in_flight c from to = drop (taken c from to) (sent_to (c from) to)

-- the weights of the messages in flight between nodes below this number
abbrev pub load : ℕ → (Message → ℕ) → Cut → ℤ
load nodes g c = total nodes (λ from. total nodes (λ to. pos (weighed g (in_flight c from to))))

-- how many messages that pass a test are in flight between nodes below this number
abbrev pub flow : ℕ → (Message → Bool) → Cut → ℤ
flow nodes f c = load nodes (λ x. cond (f x) 1 0) c

-- A cycle counts its own Marks, and the messages with references that were sent before it.
abbrev pub counts : ℕ → ℕ → Body → Bool
counts cycle stamp (body.Mark target) = stamp == cycle
counts cycle stamp b = cond (is_reference b) (nat_lt stamp cycle) false

abbrev pub is_counted : ℕ → Message → Bool
is_counted cycle x = counts cycle x.stamp x.body

-- The node's balance in the cycle: of the messages that the cycle counts, those that it sent less
-- those that it received. For a node that hasn't joined the cycle, that is the sum of both
-- balances.
abbrev pub balance : ℕ → LocalState → ℤ
balance cycle p =
    cond (p.phases.cycle == cycle) p.ring.earlier (p.ring.earlier +ℤ p.ring.recent)

-- Marking has terminated in the cycle. Every node has joined it, no node that is in it has a grey
-- object, and no message that it counts is in flight.
pub record Terminated (nodes cycle : ℕ) (c : Cut) : Type 0 where
  pub joined : (i : ℕ) → i < nodes → cycle ≤ (c i).local.phases.cycle
  pub calm : (i : ℕ) → i < nodes → (c i).local.phases.cycle ≡ cycle → (c i).local.heap.grey ≡ []
  pub delivered : (from to place : ℕ) (x : Message) → IsInFlight c from to place x
      → is_counted cycle x ≡ false

-- The nodes agree that marking has ended in the cycle. It has terminated, node 0 counts it as
-- ended, and so does every node that is in a later cycle.
pub record EndsAlike (nodes cycle : ℕ) (c : Cut) : Type 0 where
  pub terminated : Terminated nodes cycle c
  pub director : cycle ≤ (c 0).local.phases.ended
  pub later : (i : ℕ) → i < nodes → cycle < (c i).local.phases.cycle
      → cycle ≤ (c i).local.phases.ended

-- a reference to an object that its owner's saved state holds, and that is reachable in no cut
pub record OldGarbage (w : World) (r : Ref) : Type 0 where
  pub object : Object
  pub saved : slot_at (node_at w.saved r.node).local.heap r.slot ≡ Occupied r.generation object
  pub unreachable : (choice : ℕ → Bool) → Reachable (cut w choice) r → ⊥
