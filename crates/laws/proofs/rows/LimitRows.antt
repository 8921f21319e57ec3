-- Worked examples at the limits, computed for one node in states that are set up by hand.
use Rattle.std.proofs.Common.{◌≡◌, ℕ, ℤ, ◌^◌, ◌-◌, pos, neg_ℤ, true, false, [], ◌∷◌, Some, Result, Ok, Err, refl}
use Rattle.std.specs.Int.{int_wrap}
use Rattle.ids.specs.declared.limits.TheConstants.{GREATEST_GENERATION, GREATEST_NUMBER}
use Rattle.ids.specs.declared.limits.TheConstants.{GREATEST_CYCLE}
use Rattle.ids.specs.declared.refusal.Refusal.{Refusal}
use Rattle.ids.specs.declared.refusal.Refusal.TheVariants.{LinkSpent, CyclesSpent, NotDirector, CycleRunning}
use Rattle.msg.specs.declared.body.Colour.{Colour}
use Rattle.msg.specs.declared.body.Colour.TheVariants.{White, Black}
use Rattle.model.specs.declared.age.Age.TheVariants.{Old}
use Rattle.model.specs.declared.event.Event.TheVariants as event
use Rattle.model.specs.declared.event.Answer.{Answer}
use Rattle.model.specs.declared.event.Answer.TheVariants as answer
use Rattle.model.specs.State.{Object, Free, Occupied, Retired, LocalState, new_local}
use Rattle.model.specs.Effects.{Effect}
use Rattle.model.specs.Counting.{append, announce}
use Rattle.model.specs.Shading.{make_grey, see_to, enter, join}
use Rattle.model.specs.Collecting.{probe, begun, scan, scanned, conclude, passed, free_one, swept_slots}
use Rattle.model.specs.Steps.{effect, is_memory_free}
use Rattle.laws.proofs.rows.Rows.{Answers, effect_answer, object, space}

-- ---- cycles

-- a node of two after this many cycles, all swept, and with this report of node 1
abbrev after_cycles : ℕ → ℕ → ℕ → LocalState
after_cycles own count report =
    let p : LocalState = new_local (space 2 1 2) own in
    record p {
      phases = record {
        cycle = count;
        ended = count;
        swept = count;
        cursor = 0;
        reports = 0 ∷ report ∷ [];
      };
    }

abbrev last_but_one : ℕ
last_but_one = GREATEST_CYCLE - 1

-- how the node answers Begin after it has appended this many messages for node 1
abbrev begins : LocalState → ℕ → Result Answer Refusal
begins p count = effect_answer (effect p (0 ∷ count ∷ []) event.Begin)

-- The last cycle is that of the greatest number. The refusals come in their order, and that for the
-- link comes last: two messages are appended, so two numbers are needed.
pub cycles : Answers (
    (begins (after_cycles 0 last_but_one last_but_one) 0, Ok (answer.Begun GREATEST_CYCLE))
    ∷ (begins (after_cycles 0 GREATEST_CYCLE GREATEST_CYCLE) 0, Err CyclesSpent)
    ∷ (begins (after_cycles 0 GREATEST_CYCLE 7) GREATEST_NUMBER, Err CycleRunning)
    ∷ (begins (after_cycles 1 GREATEST_CYCLE 7) GREATEST_NUMBER, Err NotDirector)
    ∷ (begins (after_cycles 0 GREATEST_CYCLE GREATEST_CYCLE) GREATEST_NUMBER, Err CyclesSpent)
    ∷ (begins (after_cycles 0 7 7) (GREATEST_NUMBER - 1), Err LinkSpent)
    ∷ (begins (after_cycles 0 7 7) (GREATEST_NUMBER - 2), Ok (answer.Begun 8))
    ∷ [])
unfolding append announce see_to make_grey enter join begun probe
cycles = refl

-- ---- Marks

-- node 0 of two, with one grey object whose two places name two objects of node 1
abbrev scanning : LocalState
scanning =
    let p : LocalState = new_local (space 2 1 2) 0 in
    record p {
      phases = record p.phases { cycle = 1 };
      heap = record p.heap {
        slots =
            Occupied 3 (record {
              word = 0;
              bytes = [];
              places = Some (object 1 0 1) ∷ Some (object 1 1 1) ∷ [];
              mark = 1;
              shared = true;
              age = Old;
            })
            ∷ [];
        grey = 0 ∷ [];
      };
    }

-- how it answers Scan after it has appended this many messages for node 1
abbrev scans : ℕ → Result Answer Refusal
scans count = effect_answer (effect scanning (0 ∷ count ∷ []) event.Scan)

-- two Marks need two numbers
pub marks : Answers (
    (scans (GREATEST_NUMBER - 1), Err LinkSpent)
    ∷ (scans (GREATEST_NUMBER - 2), Ok (answer.Scanned (object 0 0 3)))
    ∷ [])
unfolding append see_to make_grey scan scanned
marks = refl

-- ---- the token's sum

-- a node of two that marks in cycle 1, with this colour, balance and token
abbrev with_token : ℕ → Colour → ℤ → Colour → ℤ → LocalState
with_token own colour earlier dark q =
    let p : LocalState = new_local (space 2 1 2) own in
    record p {
      phases = record p.phases { cycle = 1 };
      ring = record {
        colour = colour;
        earlier = earlier;
        recent = pos 9;
        token = Some (record { colour = dark; q = q });
      };
    }

abbrev passes : LocalState → Result Answer Refusal
passes p = effect_answer (effect p (0 ∷ 0 ∷ []) event.Pass)

abbrev passed_token : Colour → ℤ → Result Answer Refusal
passed_token colour q = Ok (answer.Passed (record { colour = colour; q = q }))

-- the greatest and the least number of 64 bits
abbrev greatest : ℤ
greatest = pos (2 ^ 63 - 1)

abbrev least : ℤ
least = neg_ℤ (pos (2 ^ 63))

-- The balance is added in two's complement of 64 bits. A black node makes the token black, and no
-- node makes it white.
pub sums : Answers (
    (passes (with_token 1 White (neg_ℤ (pos 3)) White (pos 5)), passed_token White (pos 2))
    ∷ (passes (with_token 1 White (pos 1) White greatest), passed_token White least)
    ∷ (passes (with_token 1 White (neg_ℤ (pos 1)) White least), passed_token White greatest)
    ∷ (passes (with_token 1 Black (pos 0) White (pos 0)), passed_token Black (pos 0))
    ∷ (passes (with_token 1 White (pos 0) Black (pos 0)), passed_token Black (pos 0))
    ∷ [])
unfolding int_wrap append passed
sums = refl

-- Node 0 concludes if it is white, the token is white, and the sum of token and balance is 0.
pub verdicts : Answers (
    (passes (with_token 0 White (pos 3) White (neg_ℤ (pos 3))), Ok (answer.Ended 1))
    ∷ (passes (with_token 0 White (pos 2) White (neg_ℤ (pos 3))), Ok answer.ProbeAgain)
    ∷ (passes (with_token 0 White (pos 0) White (pos 3)), Ok answer.ProbeAgain)
    ∷ (passes (with_token 0 Black (pos 3) White (neg_ℤ (pos 3))), Ok answer.ProbeAgain)
    ∷ (passes (with_token 0 White (pos 3) Black (neg_ℤ (pos 3))), Ok answer.ProbeAgain)
    ∷ [])
unfolding int_wrap append announce probe conclude passed
verdicts = refl

-- ---- generations

abbrev unmarked : Object
unmarked = record { word = 0; bytes = []; places = []; mark = 0; shared = true; age = Old }

abbrev marked : Object
marked = record { word = 0; bytes = []; places = []; mark = 1; shared = true; age = Old }

-- a node that is to sweep cycle 1: an object of the greatest generation, one of the generation
-- before it, a marked one, and a free slot
abbrev sweepable : ℕ → LocalState
sweepable own =
    let p : LocalState = new_local (space 2 1 5) own in
    record p {
      phases = record p.phases { cycle = 1; ended = 1 };
      heap = record p.heap {
        slots =
            Occupied GREATEST_GENERATION unmarked
            ∷ Occupied (GREATEST_GENERATION - 1) unmarked
            ∷ Occupied 4 marked
            ∷ Free 2
            ∷ [];
        free = 3 ∷ [];
      };
    }

abbrev effect_of : Result Effect Refusal → Effect
effect_of (Ok x) = x
effect_of (Err e) = record { local = new_local (space 0 0 0) 1; sends = []; answer = answer.Done }

abbrev swept : Effect
swept = effect_of (effect (sweepable 0) (0 ∷ 0 ∷ []) (event.Sweep 16))

-- A slot that has used up its generations is retired. The other freed slots have the next
-- generation, and are used before those that were free already.
pub generations : (swept.answer ≡ answer.Freed 2 true)
    × (swept.local.heap.slots
    ≡ Retired ∷ Free GREATEST_GENERATION ∷ Occupied 4 marked ∷ Free 2 ∷ [])
    × (swept.local.heap.free ≡ 1 ∷ 3 ∷ [])
unfolding free_one swept_slots
generations = (refl, refl, refl)

-- A sweep appends a message, and so may allocate, only if it is the last one of a node other than
-- 0.
pub sweep-memory : (is_memory_free (sweepable 0) (event.Sweep 4) ≡ true)
    × (is_memory_free (sweepable 1) (event.Sweep 3) ≡ true)
    × (is_memory_free (sweepable 1) (event.Sweep 4) ≡ false)
sweep-memory = (refl, refl, refl)

-- how the node with this number answers Sweep when no link has a number left
abbrev sweeps : ℕ → ℕ → Result Answer Refusal
sweeps own count =
    effect_answer
    (effect (sweepable own) (GREATEST_NUMBER ∷ GREATEST_NUMBER ∷ []) (event.Sweep count))

-- the report needs a number
pub reports : Answers (
    (sweeps 1 3, Ok (answer.Freed 2 false))
    ∷ (sweeps 1 4, Err LinkSpent)
    ∷ (sweeps 0 4, Ok (answer.Freed 2 true))
    ∷ [])
unfolding free_one swept_slots
reports = refl
