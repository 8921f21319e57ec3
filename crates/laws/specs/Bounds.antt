-- How many moves may be needed ("Progress" in docs/PROOF.md). The numbers are functions of the
-- current states.
--
-- Work is paid for in advance. A message that is sent costs its receipt and its number on its link,
-- and all that its receipt may lead to. So work bounds both the moves and the messages that they
-- send. Each move takes some of it away, except those of the token.
use Rattle.std.specs.Prelude.{ℕ, zero, suc, ◌+◌, ◌*◌, ◌≤◌, cond, ◌==◌, length}
use Rattle.std.specs.List.{sum_by}
use Rattle.ids.specs.declared.limits.TheConstants.{GREATEST_NUMBER}
use Rattle.msg.specs.declared.body.Body.{Body}
use Rattle.msg.specs.declared.body.Body.TheVariants as body
use Rattle.msg.specs.declared.body.Message.{Message}
use Rattle.model.specs.State.{Slot, Free, Occupied, Retired, Heap, LocalState, slot_at, sent_to}
use Rattle.model.specs.Heaps.{letters_of}
use Rattle.model.specs.Collecting.{places_in}
use Rattle.model.specs.Cuts.{Cut}
use Rattle.model.specs.Agreement.{weighed, in_flight}

-- the sum of the first n values of f
abbrev pub sum_to : ℕ → (ℕ → ℕ) → ℕ
sum_to zero f = 0
sum_to (suc n) f = sum_to n f + f n

-- What a message may cost: 1 for its receipt, which every message needs, and what the receipt may
-- lead to. The token's receipt is counted with its rounds.
-- * A Mark that is sent costs 2: its receipt, and its number on its link.
-- * A receiver may send a Mark for each reference that a message carries: 2 for Give and Get, which
--   carry one, and 4 for Put, which carries two.
-- * A Give may become a letter, which is a root: 2 for its Mark when the receiver joins, and 2 for
--   its Mark in the next cycle.
-- * A Get may make the receiver send a Mark of what it reads, which costs 2, and a Give, which
--   costs 8: its own 7, and its number on its link.
-- * A Post costs as much as a Give for each of its references, except that it is received once; as
--   a letter without any, if it has none. A Fetch carries one reference, and may make the receiver
--   send a Post without references, which costs as much as a Give.
abbrev pub cost_of : Body → ℕ
cost_of body.Begin = 1
cost_of (body.Token token) = 0
cost_of (body.Mark target) = 1
cost_of (body.Give label reference) = 7
cost_of (body.Put target place reference) = 5
cost_of (body.Get target place label) = 13
cost_of (body.Post label references bytes) = 1 + 6 * length (letters_of 0 label references bytes)
cost_of (body.Fetch target label offset count) = 11
cost_of body.Ended = 1
cost_of body.Swept = 1

abbrev pub weight : Message → ℕ
weight x = cost_of x.body

-- of all messages in flight
abbrev pub flight : ℕ → Cut → ℕ
flight n c = sum_to n (λ from. sum_to n (λ to. weighed weight (in_flight c from to)))

-- 1 for an object's scan, and 2 for a Mark of each of its places
abbrev pub scan_work : Slot → ℕ
scan_work s = 1 + 2 * length (places_in s)

abbrev pub slot_work : ℕ → Slot → ℕ
slot_work cycle (Free g) = 0
slot_work cycle (Occupied g o) = cond (o.mark == cycle) 0 (scan_work (Occupied g o))
slot_work cycle Retired = 0

abbrev pub grey_work : Heap → ℕ → ℕ
grey_work h k = scan_work (slot_at h k)

-- the objects that aren't marked, and those that are grey
abbrev pub heap_work : ℕ → Heap → ℕ
heap_work cycle h = sum_by (slot_work cycle) h.slots + sum_by (grey_work h) h.grey

-- 2 for a Mark of each root, which a node may send when it joins
abbrev pub root_work : Heap → ℕ
root_work h = 2 * (length h.registers + length h.letters)

-- a node that hasn't joined the cycle has to join it, 1, with its roots
abbrev pub node_work : ℕ → LocalState → ℕ
node_work cycle p = cond (p.phases.cycle == cycle) 0 (1 + root_work p.heap) + heap_work cycle p.heap

-- what is left to do before only the token moves
abbrev pub work_left : ℕ → Cut → ℕ
work_left n c = flight n c + sum_to n (λ i. node_work (c 0).local.phases.cycle (c i).local)

-- what a whole cycle may have to do for an object; at a node; and at all nodes
abbrev pub held_work : Slot → ℕ
held_work (Free g) = 0
held_work (Occupied g o) = scan_work (Occupied g o)
held_work Retired = 0

abbrev pub whole_node_work : LocalState → ℕ
whole_node_work p = root_work p.heap + sum_by held_work p.heap.slots

abbrev pub whole_work : ℕ → Cut → ℕ
whole_work n c = sum_to n (λ i. whole_node_work (c i).local)

-- The token goes round three times for each piece of work, and three times more at the end. A round
-- is n passes and n receipts.
abbrev pub rounds : ℕ → ℕ → ℕ
rounds n work = 6 * n * (work + 1)

-- until marking has ended
abbrev pub marking_moves : ℕ → Cut → ℕ
marking_moves n c = rounds n (work_left n c)

-- Until the cycle is swept: what is in flight at the end of marking, and for each node 4. These are
-- the receipt of Ended, the node's sweep, and the receipt and the number of its report.
abbrev pub cycle_moves : ℕ → Cut → ℕ
cycle_moves n c = marking_moves n c + work_left n c + 4 * n

-- What the next cycle may have to do: what is left of this one, a whole cycle, and for each node 4.
-- These are the receipts of Ended, of its report and of Begin, and its joining.
abbrev pub next_work : ℕ → Cut → ℕ
next_work n c = work_left n c + whole_work n c + 4 * n

-- until the next cycle is swept: this cycle, the move that begins the next, and that one
abbrev pub both_moves : ℕ → Cut → ℕ
both_moves n c = cycle_moves n c + 1 + rounds n (next_work n c) + next_work n c + 4 * n

-- Once marking has terminated: three rounds of the token, and what is in flight.
abbrev pub soon_moves : ℕ → Cut → ℕ
soon_moves n c = 6 * n + flight n c

-- Each link has numbers for this many more messages.
abbrev pub HasRoom : ℕ → Cut → Type 0
HasRoom k c = (from to : ℕ) → length (sent_to (c from) to) + k ≤ GREATEST_NUMBER

-- How many numbers a link may need. The moves pay for the numbers of all messages, except those by
-- which node 0 announces the end of marking, one for each node.
abbrev pub marking_room : ℕ → Cut → ℕ
marking_room n c = marking_moves n c + n

abbrev pub cycle_room : ℕ → Cut → ℕ
cycle_room n c = cycle_moves n c + n

abbrev pub soon_room : ℕ → Cut → ℕ
soon_room n c = soon_moves n c + n

-- The same for two cycles. Node 0 announces both ends, and the beginning of the next cycle. By the
-- move that begins it node 0 also joins, and may send a Mark for each of its roots.
abbrev pub both_room : ℕ → Cut → ℕ
both_room n c = both_moves n c + next_work n c + 3 * n
