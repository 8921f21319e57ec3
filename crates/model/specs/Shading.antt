-- Marking the objects that references name: the owner marks its own objects, and other nodes ask it
-- by a message ("Shading and vouching" in docs/RULES.md). The colours are those of Dijkstra,
-- Lamport, Martin, Scholten and Steffens.
use Rattle.std.specs.Prelude.{ℕ, pos, ◌-◌, ◌+ℤ◌, Bool, true, false, cond, not, nat_lt, ◌==◌, ◌&&◌, ◌||◌, List, [], ◌∷◌, ◌++◌, length, take, map, Option, Some, None, option_to_list, slice_index_or}
use Rattle.std.specs.List.{list_any}
use Rattle.ids.specs.declared.names.Ref.{Ref}
use Rattle.msg.specs.declared.body.Body.TheVariants as body
use Rattle.msg.specs.declared.body.Colour.TheVariants.{Black}
use Rattle.msg.specs.declared.body.Message.{Message}
use Rattle.model.specs.declared.event.Letter.{Letter}
use Rattle.model.specs.State.{Object, Heap, Ring, LocalState}
use Rattle.model.specs.Heaps.{object_at, with_rewritten}
use Rattle.model.specs.Effects.{Work, at_rest}
use Rattle.model.specs.Counting.{counted_marks}

abbrev pub is_same : Ref → Ref → Bool
is_same a b = (a.node == b.node) && ((a.slot == b.slot) && (a.generation == b.generation))

abbrev pub is_in : Ref → List Ref → Bool
is_in r rs = list_any (is_same r) rs

-- The node has joined a cycle, and doesn't know that its marking has ended. Otherwise nothing is
-- shaded.
abbrev pub is_open : LocalState → Bool
is_open p = not (p.phases.ended == p.phases.cycle)

-- a live object that isn't marked in this cycle
abbrev pub is_unmarked : ℕ → Option Object → Bool
is_unmarked cycle None = false
is_unmarked cycle (Some o) = not (o.mark == cycle)

abbrev pub with_mark : ℕ → Object → Object
with_mark cycle o = record o { mark = cycle }

-- a reference to an object of this node that shading would turn grey
abbrev pub wakes : ℕ → ℕ → Heap → Ref → Bool
wakes own cycle h r = (r.node == own) && is_unmarked cycle (object_at h r)

-- an unmarked object is marked, and its slot is appended to the grey list
unfoldable pub make_grey : ℕ → Heap → Ref → Heap
make_grey cycle h r =
    cond
    (is_unmarked cycle (object_at h r))
    (record (with_rewritten h r (with_mark cycle)) { grey = h.grey ++ r.slot ∷ [] })
    h

-- the node's own objects among these turn grey
abbrev pub make_all_grey : ℕ → ℕ → Heap → List Ref → Heap
make_all_grey own cycle h [] = h
make_all_grey own cycle h (r ∷ rs) =
    make_all_grey own cycle (cond (r.node == own) (make_grey cycle h r) h) rs

-- the references to other nodes' objects that haven't been asked for, each once
abbrev pub unasked : ℕ → List Ref → List Ref → List Ref
unasked own asked [] = []
unasked own asked (r ∷ rs) =
    cond
    (r.node == own || is_in r asked)
    (unasked own asked rs)
    (r ∷ unasked own (asked ++ r ∷ []) rs)

abbrev pub mark_for : ℕ → Ref → ℕ × Message
mark_for cycle r = (r.node, record { stamp = cycle; body = body.Mark r })

abbrev pub marks_for : ℕ → List Ref → List (ℕ × Message)
marks_for cycle rs = map (mark_for cycle) rs

-- What a marking node does with references that it meets: its own objects turn grey, and what it
-- didn't ask for before counts as asked for. If Marks are due, each of those is sent one.
abbrev pub seen : Bool → List Ref → LocalState → Work
seen due rs p =
    let new : List Ref = unasked p.own p.asked rs in
    let marked : List Ref = cond due new [] in
    record {
      local = record p {
        heap = make_all_grey p.own p.phases.cycle p.heap rs;
        asked = p.asked ++ new;
        ring = counted_marks (length marked) p.ring;
      };
      sends = marks_for p.phases.cycle marked;
    }

-- A node sees to references. To shade them is to send the Marks, once for each object in a cycle.
-- To vouch for them is not to send any: the node that they came from has seen to that. While the
-- node isn't marking, it meets none.
unfoldable pub see_to : Bool → List Ref → LocalState → Work
see_to due rs p = seen due (cond (is_open p) rs []) p

-- ---- joining ("Joining" in docs/RULES.md)

-- the references that are present
abbrev pub filled : List (Option Ref) → List Ref
filled [] = []
filled (o ∷ os) = option_to_list o ++ filled os

abbrev pub reference_of : Letter → Option Ref
reference_of l = l.reference

-- the roots that a node's program holds: its registers in order, then its letters, oldest first
abbrev pub roots : Heap → List (Option Ref)
roots h = h.registers ++ map reference_of h.letters

-- The ring after joining a cycle. The messages with references of the cycle that was left now count
-- with all earlier ones, and the node is black.
abbrev pub entered : Ring → Ring
entered r = record r { colour = Black; earlier = r.earlier +ℤ r.recent; recent = pos 0 }

unfoldable pub enter : LocalState → ℕ → LocalState
enter p cycle =
    record p {
      asked = [];
      phases = record p.phases { cycle = cycle; cursor = 0 };
      ring = entered p.ring;
    }

-- the node joins a cycle: its roots are shaded
unfoldable pub join : LocalState → ℕ → Work
join p cycle = see_to true (filled (roots p.heap)) (enter p cycle)

-- a node joins the cycle of a message, unless it is already in that cycle or past it
abbrev pub joined : LocalState → ℕ → Work
joined p stamp = cond (nat_lt p.phases.cycle stamp) (join p stamp) (at_rest p)

-- ---- grey objects

-- no object is grey
abbrev pub is_calm : Heap → Bool
is_calm h = length h.grey == 0

-- no object is grey, and none of these references would turn one grey
abbrev pub stays_calm : ℕ → ℕ → Heap → List Ref → Bool
stays_calm own cycle h rs = is_calm h && not (list_any (wakes own cycle h) rs)

-- the grey object that is scanned next, and the heap with that object off its grey list
abbrev pub last_grey : Heap → ℕ
last_grey h = slice_index_or h.grey (length h.grey - 1) 0

abbrev pub without_last_grey : Heap → Heap
without_last_grey h = record h { grey = take (length h.grey - 1) h.grey }
