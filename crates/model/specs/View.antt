-- A node as the code keeps it, and the state that it shows. Of the messages that it sent, it keeps
-- only those that aren't acknowledged.
use Rattle.std.specs.Prelude.{◌≡◌, ◌≢◌, ℕ, min, max, ◌+◌, ◌-◌, ◌≤◌, Bool, cond, nat_lt, nat_le, not, ◌==◌, ◌&&◌, List, [], ◌∷◌, ◌++◌, length, map, take, drop, replicate, Option, Some, None, Result, Ok, Err, OnErr, slice_index_or, slice_get, slice_set}
use Rattle.ids.specs.Limits.{Shaped}
use Rattle.ids.specs.declared.limits.TheConstants.{WINDOW}
use Rattle.ids.specs.declared.refusal.Refusal.{Refusal}
use Rattle.ids.specs.declared.refusal.Refusal.TheVariants.{AckBeyond}
use Rattle.msg.specs.declared.frame.Ack.{Ack}
use Rattle.msg.specs.declared.body.Body.{Body}
use Rattle.msg.specs.declared.body.Message.{Message}
use Rattle.model.specs.declared.event.Event.{Event}
use Rattle.model.specs.declared.event.Answer.{Answer}
use Rattle.model.specs.Checks.{IsFirstRefusal}
use Rattle.model.specs.State.{LocalState, NodeState, new_local, got_from}
use Rattle.model.specs.Effects.{Effect}
use Rattle.model.specs.Steps.{checked, tests, made, ack_of, taken_in, is_shading}

-- What a node keeps of the messages to another node: the highest acknowledged number, the messages
-- after it, and how many of all its messages a saved node holds.
pub record Link : Type 0 where
  pub base : ℕ
  pub unacknowledged : List Message
  pub kept : ℕ

-- a node as the code keeps it
pub record NodeView : Type 0 where
  pub local : LocalState
  pub links : List Link
  -- for each node, how many of its messages a saved node has received; these are acknowledged
  pub acks : List ℕ

abbrev pub no_link : Link
no_link = record { base = 0; unacknowledged = []; kept = 0 }

abbrev pub link_to : NodeView → ℕ → Link
link_to n i = slice_index_or n.links i no_link

-- how many messages were ever appended
abbrev pub used : Link → ℕ
used l = l.base + length l.unacknowledged

-- what only an acknowledgement changes
abbrev pub base_of : Link → ℕ
base_of l = l.base

-- what no event changes
abbrev pub kept_of : Link → ℕ
kept_of l = l.kept

abbrev pub appended : Link → Message → Link
appended l x = record l { unacknowledged = l.unacknowledged ++ x ∷ [] }

abbrev pub append_to : List Link → List (ℕ × Message) → List Link
append_to links [] = links
append_to links (m ∷ ms) =
    append_to (slice_set links m.0 (appended (slice_index_or links m.0 no_link) m.1)) ms

-- Takes back the message that was appended last, unless a saved node holds it.
abbrev pub retracted : Link → Link
retracted l =
    cond (nat_lt l.kept (used l))
    (record l { unacknowledged = take (length l.unacknowledged - 1) l.unacknowledged }) l

-- An acknowledgement must not go beyond the released messages, which are those that a saved node
-- holds.
abbrev pub ack_tests : NodeView → Option Ack → List (Bool × Refusal)
ack_tests n None = []
ack_tests n (Some a) = (nat_le a.number (link_to n a.by).kept, AckBeyond) ∷ []

-- The messages up to this number are dropped; none if the number was acknowledged before.
abbrev pub trimmed : Link → ℕ → Link
trimmed l number =
    record l {
      base = l.base + min (number - l.base) (length l.unacknowledged);
      unacknowledged = drop (number - l.base) l.unacknowledged;
    }

abbrev pub let_go : List Link → Option Ack → List Link
let_go links None = links
let_go links (Some a) =
    slice_set links a.by (trimmed (slice_index_or links a.by no_link) a.number)

abbrev pub view_after : NodeView → List Link → Result Effect Refusal
    → Result (NodeView × Answer) Refusal
view_after n links (Ok x) =
    Ok (record n { local = x.local; links = append_to links x.sends }, x.answer)
view_after n links (Err e) = Err e

-- an effect that fails only if its messages get no numbers
abbrev pub view_done : NodeView → Effect → Result (NodeView × Answer) Refusal
view_done n x = view_after n n.links (checked [] (map used n.links) x)

-- the next message from another node is received
abbrev pub view_taken : NodeView → ℕ → ℕ → Body → Result (NodeView × Answer) Refusal
view_taken n from stamp b = view_done n (taken_in n.local from (got_from n.local from + 1) stamp b)

-- an event of the node as the code keeps it
unfoldable pub view_act : NodeView → Event → Result (NodeView × Answer) Refusal
view_act n e =
    view_after n (let_go n.links (ack_of e))
    (checked (tests n.local e ++ ack_tests n (ack_of e)) (map used n.links)
    (made n.local (map used n.links) e))

-- all messages count as saved
abbrev pub all_kept : Link → Link
all_kept l = record l { kept = used l }

abbrev pub kept_view : NodeView → NodeView
kept_view n = record n { links = map all_kept n.links; acks = n.local.got }

-- the messages up to this number count as saved
abbrev pub kept_to : ℕ → Link → Link
kept_to number l = record l { kept = max l.kept (min number (used l)) }

-- a new node
abbrev pub new_view : Shaped → ℕ → NodeView
new_view shape own = record {
  local = new_local shape own;
  links = replicate shape.nodes no_link;
  acks = replicate shape.nodes 0;
}

-- another node of the shape
abbrev pub is_other : LocalState → ℕ → Bool
is_other p i = nat_lt i p.shape.nodes && not (i == p.own)

-- What was sent to another node, and received from it, counts as saved up to these numbers.
abbrev pub kept_with : ℕ → ℕ → ℕ → NodeView → NodeView
kept_with peer sent received n =
    cond (is_other n.local peer)
    (record n {
      links = slice_set n.links peer (kept_to sent (link_to n peer));
      acks = slice_set n.acks peer
          (max (slice_index_or n.acks peer 0) (min received (got_from n.local peer)));
    })
    n

-- the message of this number, while the node still keeps it
abbrev pub message_of : Link → ℕ → Option Message
message_of l number =
    cond (nat_le number l.base) None (slice_get l.unacknowledged (number - l.base - 1))

-- the message at this place of the link's window, if a saved node holds it
abbrev pub released_at : Link → ℕ → Option Message
released_at l place =
    cond (nat_lt place WINDOW && nat_lt (l.base + place) l.kept) (slice_get l.unacknowledged place)
    None

-- what a link keeps of all messages sent on it
pub record ShowsSent (l : Link) (sent : List Message) : Type 0 where
  pub within : l.base ≤ length sent
  pub unacknowledged : l.unacknowledged ≡ drop l.base sent

-- the node, as the code keeps it, shows the state
pub record Shows (n : NodeView) (s : NodeState) : Type 0 where
  pub local : n.local ≡ s.local
  pub width : length n.links ≡ length s.sent
  pub links : (i : ℕ) → ShowsSent (slice_index_or n.links i no_link) (slice_index_or s.sent i [])

-- a refusal that can be derived from a state; `AckBeyond` can't, since no state records what was
-- released
abbrev pub IsTold : Option Ack → Refusal → Type 0
IsTold None e = Unit {0}
IsTold (Some a) e = e ≢ AckBeyond

-- The result of a call for an event, and the node after it, compared with the event on the state.
-- An answer is the event's, and the node then shows the event's state. A refusal that can be
-- derived from the state is the first that applies.
abbrev pub Follows : Event → Result Answer Refusal → NodeView → Result (NodeState × Answer) Refusal
    → Type 0
Follows e (Ok a) new stepped = (s : NodeState) × (stepped ≡ Ok (s, a)) × Shows new s
Follows e (Err r) new stepped = IsTold (ack_of e) r → IsFirstRefusal (is_shading e) r stepped

-- The same, compared with the event on the node as the code keeps it. `shading` says whether the
-- event shades.
abbrev pub Performs : Bool → Result Answer Refusal → NodeView → Result (NodeView × Answer) Refusal
    → Type 0
Performs shading (Ok a) new stepped = stepped ≡ Ok (new, a)
Performs shading (Err e) new stepped = IsFirstRefusal shading e stepped

-- The effect of a call for an event; `stepped` is what the definitions say. An answer is that of
-- the event, and so is the node afterwards. A refusal is the first that applies, and changes
-- nothing.
pub record Performed (shading : Bool) (result : Result Answer Refusal) (old new : NodeView)
    (stepped : Result (NodeView × Answer) Refusal) : Type 0 where
  pub performs : Performs shading result new stepped
  pub unchanged : OnErr result (new ≡ old)

-- What every event leaves as it was: the node's number and shape, how many of its messages a saved
-- node holds, and what it acknowledges. Only an acknowledgement drops messages.
pub record Leaves (old new : NodeView) (e : Event) : Type 0 where
  pub shape : new.local.shape ≡ old.local.shape
  pub own : new.local.own ≡ old.local.own
  pub acks : new.acks ≡ old.acks
  pub kept : map kept_of new.links ≡ map kept_of old.links
  pub bases : ack_of e ≡ None → map base_of new.links ≡ map base_of old.links
