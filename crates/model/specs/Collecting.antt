-- A node's own steps of a collection cycle ("Cycles", "Scanning", "The ring" and "Sweeping" in
-- docs/RULES.md). The node begins the cycle, scans grey objects, passes the token as in EWD998, and
-- sweeps what isn't marked.
use Rattle.std.specs.Prelude.{ℕ, zero, suc, min, ◌+◌, ◌-◌, ◌+ℤ◌, ◌%◌, pos, ℤ, Bool, true, false, cond, not, nat_lt, ◌==◌, ◌&&◌, List, [], ◌∷◌, length, drop, Option, None, is_some, slice_set}
use Rattle.std.specs.Int.{w64, int_wrap}
use Rattle.std.specs.List.{list_all}
use Rattle.std.specs.Option.{unwrap_or}
use Rattle.std.specs.Ordering.{int_eq}
use Rattle.ids.specs.declared.names.Ref.{Ref}
use Rattle.ids.specs.declared.limits.TheConstants.{GREATEST_GENERATION, GREATEST_CYCLE}
use Rattle.ids.specs.declared.refusal.Refusal.{Refusal}
use Rattle.ids.specs.declared.refusal.Refusal.TheVariants.{CyclesSpent, NotDirector, CycleRunning, NothingToDo}
use Rattle.msg.specs.declared.body.Body.TheVariants as body
use Rattle.msg.specs.declared.body.Colour.{Colour}
use Rattle.msg.specs.declared.body.Colour.TheVariants.{White, Black}
use Rattle.msg.specs.declared.body.Token.{Token}
use Rattle.model.specs.declared.event.Answer.TheVariants as answer
use Rattle.model.specs.State.{Slot, Free, Occupied, Retired, Heap, Phases, Ring, LocalState, slot_at}
use Rattle.model.specs.Effects.{Work, then, Effect, answers}
use Rattle.model.specs.Counting.{stamped, append, announce}
use Rattle.model.specs.Shading.{filled, see_to, join, is_calm, last_grey, without_last_grey}

-- ---- the ring

abbrev pub is_white : Colour → Bool
is_white White = true
is_white Black = false

abbrev pub whitened : Ring → Ring
whitened r = record r { colour = White }

abbrev pub without_token : Ring → Ring
without_token r = record r { token = None }

-- the token with which a probe starts: white, with the sum 0
abbrev pub new_token : Token
new_token = record { colour = White; q = pos 0 }

abbrev pub token_of : Ring → Token
token_of r = unwrap_or r.token new_token

-- the token's sum plus the node's balance, in two's complement of 64 bits
abbrev pub sum_of : Ring → ℤ
sum_of r = int_wrap w64 ((token_of r).q +ℤ r.earlier)

-- the token as the node passes it on: black if the node is black
abbrev pub forwarded : Ring → Token
forwarded r =
    record { colour = cond (is_white r.colour) (token_of r).colour Black; q = sum_of r }

-- Node 0 finds that no node was black and that all counted messages have arrived: node 0 and the
-- token are white, and the sum is 0.
abbrev pub is_concluded : Ring → Bool
is_concluded r =
    is_white r.colour && (is_white (token_of r).colour && int_eq (sum_of r) (pos 0))

-- the token comes from the next node; to the last node it comes from node 0
abbrev pub token_sender : LocalState → ℕ
token_sender p = (p.own + 1) % p.shape.nodes

-- node 0 sends a new token around the ring
unfoldable pub probe : LocalState → Work
probe p =
    append (p.shape.nodes - 1) (body.Token new_token) (record p { ring = whitened p.ring })

-- ---- Begin

-- node 0 has swept the last cycle, and all other nodes have reported it as swept
abbrev pub is_swept_everywhere : Phases → Bool
is_swept_everywhere ph =
    (ph.swept == ph.cycle) && list_all (λ report. report == ph.cycle) (drop 1 ph.reports)

abbrev pub begin_tests : LocalState → List (Bool × Refusal)
begin_tests p =
    (p.own == 0, NotDirector)
    ∷ (is_swept_everywhere p.phases, CycleRunning)
    ∷ (nat_lt p.phases.cycle GREATEST_CYCLE, CyclesSpent)
    ∷ []

-- node 0 joins the next cycle, starts a probe, and sends Begin to the others
unfoldable pub begun : LocalState → Effect
begun p =
    answers
    (then (then (join p (p.phases.cycle + 1)) probe) (announce body.Begin))
    (answer.Begun (p.phases.cycle + 1))

-- ---- Scan

abbrev pub scan_tests : LocalState → List (Bool × Refusal)
scan_tests p = (not (is_calm p.heap), NothingToDo) ∷ []

-- The generation of a slot, and the places of its object. A slot without an object has no places.
abbrev pub generation_in : Slot → ℕ
generation_in (Free g) = g
generation_in (Occupied g o) = g
generation_in Retired = 0

abbrev pub places_in : Slot → List (Option Ref)
places_in (Free g) = []
places_in (Occupied g o) = o.places
places_in Retired = []

abbrev pub scanned_reference : LocalState → Ref
scanned_reference p =
    record {
      node = p.own;
      slot = last_grey p.heap;
      generation = generation_in (slot_at p.heap (last_grey p.heap));
    }

-- the last grey object leaves the list, and the references in its places are shaded in order
unfoldable pub scan : LocalState → Work
scan p =
    see_to true (filled (places_in (slot_at p.heap (last_grey p.heap))))
    (record p { heap = without_last_grey p.heap })

unfoldable pub scanned : LocalState → Effect
scanned p = answers (scan p) (answer.Scanned (scanned_reference p))

-- ---- Pass

-- a node keeps the token while it has grey objects
abbrev pub pass_tests : LocalState → List (Bool × Refusal)
pass_tests p =
    (is_some p.ring.token, NothingToDo) ∷ (is_calm p.heap, NothingToDo) ∷ []

-- marking has ended, and node 0 sends Ended to the others
unfoldable pub conclude : LocalState → Work
conclude p =
    announce
    body.Ended
    (record p {
      phases = record p.phases { ended = p.phases.cycle };
      ring = without_token p.ring;
    })

-- node 0 concludes that marking has ended, or starts another probe
abbrev pub judged : LocalState → Effect
judged p =
    cond
    (is_concluded p.ring)
    (answers (conclude p) (answer.Ended p.phases.cycle))
    (answers (probe (record p { ring = without_token p.ring })) answer.ProbeAgain)

-- another node passes the token to the node before it
abbrev pub handed_on : LocalState → Effect
handed_on p =
    answers
    (append
    (p.own - 1)
    (body.Token (forwarded p.ring))
    (record p { ring = whitened (without_token p.ring) }))
    (answer.Passed (forwarded p.ring))

unfoldable pub passed : LocalState → Effect
passed p = cond (p.own == 0) (judged p) (handed_on p)

-- ---- Sweep

-- an object that this cycle hasn't marked
abbrev pub is_garbage : ℕ → Slot → Bool
is_garbage cycle (Free g) = false
is_garbage cycle (Occupied g o) = not (o.mark == cycle)
is_garbage cycle Retired = false

-- A freed slot is the next to be used, with the next generation. After the last generation it is
-- retired.
abbrev pub vacated_slot : ℕ → Slot
vacated_slot g = cond (g == GREATEST_GENERATION) Retired (Free (g + 1))

abbrev pub vacated_free : ℕ → ℕ → List ℕ → List ℕ
vacated_free k g free = cond (g == GREATEST_GENERATION) free (k ∷ free)

abbrev pub vacated : Heap → ℕ → ℕ → Heap
vacated h k g =
    record h {
      slots = slice_set h.slots k (vacated_slot g);
      free = vacated_free k g h.free;
    }

-- a heap, and how many of its objects have been freed so far
pub record Sweeping : Type 0 where
  pub heap : Heap
  pub freed : ℕ

-- The object of a slot is freed, if the slot passes the test.
unfoldable pub free_one : (ℕ → Slot → Bool) → ℕ → Sweeping → Sweeping
free_one lost k s =
    cond
    (lost k (slot_at s.heap k))
    (record {
      heap = vacated s.heap k (generation_in (slot_at s.heap k));
      freed = s.freed + 1;
    })
    s

-- this many slots, from slot k on
abbrev pub free_some : (ℕ → Slot → Bool) → ℕ → ℕ → Sweeping → Sweeping
free_some lost k zero s = s
free_some lost k (suc n) s = free_some lost (k + 1) n (free_one lost k s)

abbrev pub sweep_one : ℕ → ℕ → Sweeping → Sweeping
sweep_one cycle k s = free_one (λ _. is_garbage cycle) k s

abbrev pub sweep_some : ℕ → ℕ → ℕ → Sweeping → Sweeping
sweep_some cycle k n s = free_some (λ _. is_garbage cycle) k n s

abbrev pub sweep_tests : LocalState → List (Bool × Refusal)
sweep_tests p = (nat_lt p.phases.swept p.phases.ended, NothingToDo) ∷ []

-- how many slots are still to be swept, and how many of them this sweep looks at
abbrev pub unswept : LocalState → ℕ
unswept p = length p.heap.slots - p.phases.cursor

abbrev pub looked_at : LocalState → ℕ → ℕ
looked_at p count = min count (unswept p)

abbrev pub sweeps_last : LocalState → ℕ → Bool
sweeps_last p count = p.phases.cursor + looked_at p count == length p.heap.slots

abbrev pub sweeping : LocalState → ℕ → Sweeping
sweeping p count =
    sweep_some
    p.phases.cycle
    p.phases.cursor
    (looked_at p count)
    (record { heap = p.heap; freed = 0 })

-- once all slots are swept, the cycle counts as swept, and the cursor is 0 for the next one
abbrev pub after_sweep : LocalState → ℕ → LocalState
after_sweep p count =
    record p {
      heap = (sweeping p count).heap;
      phases = record p.phases {
        swept = cond (sweeps_last p count) p.phases.cycle p.phases.swept;
        cursor = cond (sweeps_last p count) 0 (p.phases.cursor + looked_at p count);
      };
    }

-- a node other than node 0 then reports this to node 0
abbrev pub reports_sweep : LocalState → ℕ → Bool
reports_sweep p count = sweeps_last p count && not (p.own == 0)

abbrev pub sweep : LocalState → ℕ → Work
sweep p count =
    record {
      local = after_sweep p count;
      sends = cond (reports_sweep p count) ((0, stamped p body.Swept) ∷ []) [];
    }

unfoldable pub swept_slots : LocalState → ℕ → Effect
swept_slots p count =
    answers (sweep p count) (answer.Freed (sweeping p count).freed (sweeps_last p count))
