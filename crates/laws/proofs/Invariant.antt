-- The invariant of plain runs, one record for each of its clauses. A new space has it, and each
-- plain step keeps it.
use Rattle.std.proofs.Common.{◌≡◌, ◌≢◌, ℕ, ℤ, pos, ◌+◌, ◌+ℤ◌, ◌-ℤ◌, ◌%◌, ltb, ◌<◌, ◌≤◌, ◌⊎◌, Bool, true, false, cond, ◌==◌, List, [], length, get_or, None, Some, eqb}
use Rattle.std.specs.Prelude.{◌≤ℤ◌}
use Rattle.std.specs.List.{AllByRecursion, IsDistinct}
use Rattle.ids.specs.Limits.{Shaped}
use Rattle.ids.specs.declared.names.Ref.{Ref}
use Rattle.msg.specs.declared.body.Body.{Body}
use Rattle.msg.specs.declared.body.Body.TheVariants as body
use Rattle.msg.specs.declared.body.Colour.{Colour}
use Rattle.msg.specs.declared.body.Colour.TheVariants.{White, Black}
use Rattle.msg.specs.declared.body.Token.{Token}
use Rattle.msg.specs.declared.body.Message.{Message}
use Rattle.model.specs.State.{Object, Slot, Free, Occupied, Retired, Heap, Phases, LocalState, NodeState, no_node, register_at, slot_at, got_from, sent_to}
use Rattle.model.specs.Heaps.{is_old, next_generation, no_letter}
use Rattle.model.specs.Counting.{is_reference}
use Rattle.model.specs.Shading.{is_in, is_open, filled}
use Rattle.model.specs.Reclaiming.{is_young}
use Rattle.model.specs.References.{IfAny}
use Rattle.model.specs.Steps.{carried, mentioned}
use Rattle.model.specs.Cuts.{Cut, taken, IsInFlight, Among}
use Rattle.model.specs.Agreement.{total, flow, is_counted, balance}
use Rattle.laws.specs.Privacy.{IsPrivate}
use Rattle.laws.proofs.Safra.{Ringed, Safra}

-- ---- words

abbrev pub phases_of : Cut → ℕ → Phases
phases_of c i = (c i).local.phases

abbrev pub cycle_of : Cut → ℕ → ℕ
cycle_of c i = (c i).local.phases.cycle

-- the latest cycle is node 0's; its marking either goes on or has ended
abbrev pub Marking : Phases → Type 0
Marking first = first.ended < first.cycle

abbrev pub Resting : Phases → Type 0
Resting first = first.ended ≡ first.cycle

abbrev pub Joined : Cut → ℕ → Type 0
Joined c i = cycle_of c i ≡ cycle_of c 0

-- No sweep of this cycle may free the object. While marking goes on, this is any live object; after
-- that, any marked one.
pub record Safe (c : Cut) (r : Ref) : Type 0 where
  pub object : Object
  pub there : slot_at (c r.node).local.heap r.slot ≡ Occupied r.generation object
  pub marked : Resting (phases_of c 0) → object.mark ≡ cycle_of c 0

-- an object of the node's own is marked; for another node's object, the owner was asked
pub data Holds (p : LocalState) (r : Ref) : Type 0 where
  holds_marked : (o : Object) → r.node ≡ p.own → slot_at p.heap r.slot ≡ Occupied r.generation o
      → o.mark ≡ p.phases.cycle → Holds p r
  holds_asked : r.node ≢ p.own → is_in r p.asked ≡ true → Holds p r

-- the object is marked, or a Mark for it is in flight
pub data Covered (c : Cut) (r : Ref) : Type 0 where
  is_marked : (o : Object)
      → slot_at (c r.node).local.heap r.slot ≡ Occupied r.generation o
      → o.mark ≡ cycle_of c 0 → Covered c r
  is_asked : (from place : ℕ)
      → IsInFlight c from r.node place (record { stamp = cycle_of c 0; body = body.Mark r })
      → Covered c r

-- what registers and letters hold, and what an object's places hold
pub record RootsAll (P : Ref → Type 0) (h : Heap) : Type 0 where
  pub registers : (k : ℕ) → IfAny P (register_at h k)
  pub letters : (k : ℕ) → IfAny P (get_or h.letters k no_letter).reference

abbrev pub PlacesAll : (P : Ref → Type 0) → Object → Type 0
PlacesAll P o = (j : ℕ) → IfAny P (get_or o.places j None)

-- ---- each node

abbrev pub IsFree : Slot → Type 0
IsFree s = s ≡ Free (next_generation s)

-- the free list names free slots, each once
pub record FreeSlots (slots : List Slot) (named : List ℕ) : Type 0 where
  pub free : AllByRecursion (λ k. IsFree (get_or slots k Retired)) named
  pub once : IsDistinct eqb named

pub record Tidy (p : LocalState) : Type 0 where
  pub free : FreeSlots p.heap.slots p.heap.free
  pub room : length p.heap.slots ≤ p.shape.slots
  -- no mark is of a later cycle, and the node has grey objects only while it marks
  pub marks : (k g : ℕ) (o : Object) → slot_at p.heap k ≡ Occupied g o → o.mark ≤ p.phases.cycle
  pub calm : is_open p ≡ false → p.heap.grey ≡ []

-- The nodes below the shape's number are those of the space, each with a list of messages to each
-- node. No node has received anything that wasn't sent.
pub record Base (shape : Shaped) (c : Cut) : Type 0 where
  pub own : (i : ℕ) → i < shape.nodes → (c i).local.own ≡ i
  pub shapes : (i : ℕ) → i < shape.nodes → (c i).local.shape ≡ shape
  pub width : (i : ℕ) → i < shape.nodes → length (c i).sent ≡ shape.nodes
  pub heard : (i : ℕ) → i < shape.nodes → length (c i).local.got ≡ shape.nodes
  pub none : (i : ℕ) → shape.nodes ≤ i → c i ≡ no_node
  pub within : (from to : ℕ) → taken c from to ≤ length (sent_to (c from) to)

-- ---- phases and messages

-- Each node is in node 0's cycle, or in the one before, which it has then swept; the latter only
-- while node 0 marks.
pub record Phased (n : ℕ) (ph : ℕ → Phases) : Type 0 where
  pub swept : (i : ℕ) → (ph i).swept ≤ (ph i).ended
  pub ended : (i : ℕ) → (ph i).ended ≤ (ph i).cycle
  pub cycle : (i : ℕ) → (ph i).cycle ≤ (ph i).swept + 1
  pub cursor : (i : ℕ) → (ph i).swept ≡ (ph i).ended → (ph i).cursor ≡ 0
  pub first : (i : ℕ) → (ph i).ended ≤ (ph 0).ended
  pub apart : (i : ℕ) → i < n
      → ((ph i).cycle ≡ (ph 0).cycle)
      ⊎ (Marking (ph 0) × ((ph i).cycle + 1 ≡ (ph 0).cycle) × ((ph i).swept + 1 ≡ (ph 0).cycle))
  pub reports : (i : ℕ) → 0 < i → i < n → get_or (ph 0).reports i 0 ≤ (ph i).swept
  pub reporters : length (ph 0).reports ≡ n

-- a message with references is of node 0's cycle, or of the one before; the latter only while node
-- 0 marks
abbrev pub StampFits : Phases → ℕ → Type 0
StampFits first s = (s ≡ first.cycle) ⊎ (Marking first × (s + 1 ≡ first.cycle))

abbrev pub BodyFits : ℕ → (ℕ → Phases) → ℕ → ℕ → ℕ → Body → Type 0
BodyFits n ph from to s body.Begin = (from ≡ 0) × (s ≤ (ph 0).cycle)
BodyFits n ph from to s (body.Token t) =
    (from ≡ (to + 1) % n) × Marking (ph 0) × (s ≡ (ph 0).cycle)
BodyFits n ph from to s (body.Mark r) = (r.node ≡ to) × Marking (ph 0) × (s ≡ (ph 0).cycle)
BodyFits n ph from to s (body.Give label reference) = StampFits (ph 0) s
BodyFits n ph from to s (body.Put target place reference) = (target.node ≡ to) × StampFits (ph 0) s
BodyFits n ph from to s (body.Get target place label) = (target.node ≡ to) × StampFits (ph 0) s
BodyFits n ph from to s (body.Post label references bytes) = StampFits (ph 0) s
BodyFits n ph from to s (body.Fetch target label offset count) =
    (target.node ≡ to) × StampFits (ph 0) s
BodyFits n ph from to s body.Ended =
    (from ≡ 0) × Resting (ph 0) × (s ≡ (ph 0).cycle) × ((ph to).ended < (ph 0).cycle)
BodyFits n ph from to s body.Swept =
    (to ≡ 0) × (from ≢ 0) × (s ≡ (ph 0).cycle) × ((ph from).swept ≡ (ph 0).cycle)
    × (get_or (ph 0).reports from 0 < (ph 0).cycle)

-- a body that a link carries at most once in a cycle
abbrev pub is_single : Body → Bool
is_single body.Ended = true
is_single body.Swept = true
is_single b = false

-- In each cycle, a node hears only once that marking has ended, and reports only once that it
-- swept.
abbrev pub IsSaidOnce : Cut → Type 0
IsSaidOnce c =
    (from to k l : ℕ) (x y : Message) → IsInFlight c from to k x → IsInFlight c from to l y
    → x.body ≡ y.body → is_single x.body ≡ true → k ≡ l

pub record Messages (n : ℕ) (c : Cut) : Type 0 where
  pub fits : (from to place : ℕ) (x : Message) → IsInFlight c from to place x
      → BodyFits n (phases_of c) from to x.stamp x.body
  pub once : IsSaidOnce c

-- ---- references

-- What is safe refers only to what is safe.
pub record Closed (c : Cut) : Type 0 where
  pub roots : (i : ℕ) → RootsAll (Safe c) (c i).local.heap
  pub places : (i k g : ℕ) (o : Object) → slot_at (c i).local.heap k ≡ Occupied g o
      → (Resting (phases_of c 0) → o.mark ≡ cycle_of c 0) → PlacesAll (Safe c) o
  pub messages : (from to place : ℕ) (x : Message) → IsInFlight c from to place x
      → AllByRecursion (Safe c) (mentioned x.body)

-- While marking goes on, what was asked for and what messages of this cycle carry is covered.
pub record Cover (n : ℕ) (c : Cut) : Type 0 where
  pub asked : Marking (phases_of c 0) → (i : ℕ) (r : Ref) → i < n → Joined c i
      → is_in r (c i).local.asked ≡ true → Covered c r
  pub messages : Marking (phases_of c 0) → (from to place : ℕ) (x : Message)
      → IsInFlight c from to place x → x.stamp ≡ cycle_of c 0
      → AllByRecursion (Covered c) (carried x.body)

-- A node that marks holds what it can reach in one step.
pub record Held (c : Cut) : Type 0 where
  pub roots : (i : ℕ) → is_open (c i).local ≡ true → RootsAll (Holds (c i).local) (c i).local.heap
  pub blacks : (i k g : ℕ) (o : Object) → is_open (c i).local ≡ true
      → slot_at (c i).local.heap k ≡ Occupied g o → o.mark ≡ cycle_of c i
      → (Among k (c i).local.heap.grey → ⊥) → PlacesAll (Holds (c i).local) o

-- When marking has ended no object is grey, and no unmarked object is left behind a sweep.
pub record Rested (c : Cut) : Type 0 where
  pub grey : (i : ℕ) → Resting (phases_of c 0) → (c i).local.heap.grey ≡ []
  pub behind : (i k g : ℕ) (o : Object) → Resting (phases_of c 0)
      → slot_at (c i).local.heap k ≡ Occupied g o
      → (k < (phases_of c i).cursor) ⊎ ((phases_of c i).swept ≡ cycle_of c 0)
      → o.mark ≡ cycle_of c 0

-- ---- the ring

abbrev pub is_fresh : ℕ → Message → Bool
is_fresh cycle x = cond (is_reference x.body) (x.stamp == cycle) false

-- messages with references that a node has sent since it joined the cycle, less those received
abbrev pub fresh_balance : ℕ → LocalState → ℤ
fresh_balance cycle p = cond (p.phases.cycle == cycle) p.ring.recent (pos 0)

pub record Flows (n : ℕ) (c : Cut) : Type 0 where
  pub counted : total n (λ i. balance (cycle_of c 0) (c i).local)
      ≡ flow n (is_counted (cycle_of c 0)) c
  pub fresh : total n (λ i. fresh_balance (cycle_of c 0) (c i).local)
      ≡ flow n (is_fresh (cycle_of c 0)) c

abbrev pub IsPassive : ℕ → LocalState → Type 0
IsPassive cycle p = (p.phases.cycle ≡ cycle) × (p.heap.grey ≡ [])

abbrev pub IsBlack : ℕ → LocalState → Type 0
IsBlack cycle p = (p.phases.cycle ≢ cycle) ⊎ (p.ring.colour ≡ Black)

abbrev pub ringed : Cut → Ringed
ringed c = record {
  passive = λ i. IsPassive (cycle_of c 0) (c i).local;
  black = λ i. IsBlack (cycle_of c 0) (c i).local;
  owed = λ i. (c i).local.ring.earlier;
}

abbrev pub is_black : Colour → Bool
is_black White = false
is_black Black = true

-- how many messages the node has ever sent and received
abbrev pub numbers : ℕ → NodeState → ℤ
numbers n s = total n (λ j. pos (length (sent_to s j) + got_from s.local j))

-- Both balances together are at most that number, whatever their signs.
pub record Tally (n : ℕ) (s : NodeState) : Type 0 where
  pub plus_plus : (s.local.ring.earlier +ℤ s.local.ring.recent) ≤ℤ numbers n s
  pub plus_minus : (s.local.ring.earlier -ℤ s.local.ring.recent) ≤ℤ numbers n s
  pub minus_plus : (s.local.ring.recent -ℤ s.local.ring.earlier) ≤ℤ numbers n s
  pub minus_minus : ((pos 0 -ℤ s.local.ring.earlier) -ℤ s.local.ring.recent) ≤ℤ numbers n s

-- the sum over the nodes above t
abbrev pub above : ℕ → ℕ → (ℕ → ℤ) → ℤ
above n t f = total n (λ i. cond (ltb t i) (f i) (pos 0))

-- the token's sum is at most what the nodes above its place have sent and received
pub record Bound (n : ℕ) (c : Cut) (t : ℕ) (q : ℤ) : Type 0 where
  pub most : q ≤ℤ above n t (λ i. numbers n (c i))
  pub least : (pos 0 -ℤ q) ≤ℤ above n t (λ i. numbers n (c i))

-- the spot of a token: at a node, or in flight
pub data Spot : Type 0 where
  at_node : ℕ → Spot
  on_way : ℕ → ℕ → ℕ → Spot

-- the node at which the token is, or to which it goes
abbrev pub place_of_spot : Spot → ℕ
place_of_spot (at_node i) = i
place_of_spot (on_way from to place) = to

pub data IsAt (c : Cut) (t : Token) : Spot → Type 0 where
  is_held : (i : ℕ) → (c i).local.ring.token ≡ Some t → IsAt c t (at_node i)
  is_sent : (from to place stamp : ℕ)
      → IsInFlight c from to place (record { stamp = stamp; body = body.Token t })
      → IsAt c t (on_way from to place)

-- there is one token, for which Safra's invariant holds
pub record Round (n : ℕ) (c : Cut) : Type 0 where
  pub token : Token
  pub spot : Spot
  pub there : IsAt c token spot
  pub only : (t : Token) (s : Spot) → IsAt c t s → s ≡ spot
  pub near : place_of_spot spot < n
  pub joined : (i : ℕ) → spot ≡ at_node i → Joined c i
  pub safra : Safra n (ringed c) (place_of_spot spot) token.q (is_black token.colour)
  pub bound : Bound n c (place_of_spot spot) token.q

pub record Tokens (n : ℕ) (c : Cut) : Type 0 where
  pub round : Marking (phases_of c 0) → Round n c
  pub rest : (t : Token) (s : Spot) → Resting (phases_of c 0) → IsAt c t s → ⊥

-- ---- all clauses

pub record Inv (shape : Shaped) (c : Cut) : Type 0 where
  pub base : Base shape c
  pub tidy : (i : ℕ) → Tidy (c i).local
  pub phased : Phased shape.nodes (phases_of c)
  pub messages : Messages shape.nodes c
  pub closed : Closed c
  pub cover : Cover shape.nodes c
  pub held : Held c
  pub rested : Rested c
  pub flows : Flows shape.nodes c
  pub tokens : Tokens shape.nodes c
  pub tallies : (i : ℕ) → i < shape.nodes → Tally shape.nodes (c i)

-- ---- what others know of a node's objects

-- Node i may have the reference. It is its own, or no private object's.
abbrev pub MayHave : Cut → ℕ → Ref → Type 0
MayHave c i r = r.node ≢ i → IsPrivate c r → ⊥

-- No node has the reference of another node's private object, and no message in flight mentions a
-- private object.
pub record Unknown (c : Cut) : Type 0 where
  pub roots : (i : ℕ) → RootsAll (MayHave c i) (c i).local.heap
  pub places : (i k g : ℕ) (o : Object) → slot_at (c i).local.heap k ≡ Occupied g o
      → PlacesAll (MayHave c i) o
  -- a node asks only for other nodes' objects
  pub asked : (i : ℕ) (r : Ref) → is_in r (c i).local.asked ≡ true → IsPrivate c r → ⊥
  pub messages : (from to place : ℕ) (x : Message) → IsInFlight c from to place x
      → AllByRecursion (λ r. IsPrivate c r → ⊥) (mentioned x.body)

-- an object of this generation in the slot, if there is one, isn't young
abbrev pub IsGrownAt : Heap → ℕ → ℕ → Type 0
IsGrownAt h k g = (o : Object) → slot_at h k ≡ Occupied g o → is_young o.age ≡ false

-- an old object has the reference in a place
pub record OldHolds (h : Heap) (r : Ref) : Type 0 where
  pub slot : ℕ
  pub generation : ℕ
  pub holder : Object
  pub there : slot_at h slot ≡ Occupied generation holder
  pub old : is_old holder.age ≡ true
  pub among : Among r (filled holder.places)

-- What old objects name is remembered or old.
abbrev pub Remembers : ℕ → Heap → Type 0
Remembers own h = (r : Ref) → OldHolds h r → r.node ≡ own → IsGrownAt h r.slot r.generation

abbrev pub Recalled : Cut → Type 0
Recalled c = (i : ℕ) → Remembers (c i).local.own (c i).local.heap
