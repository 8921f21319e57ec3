-- What the collector does to end a cycle: a move that the space determines, and the same again
-- ("Progress" in docs/PROOF.md). A space that does nothing else ends the cycle and sweeps it.
use Rattle.std.specs.Prelude.{ℕ, zero, suc, ◌+◌, ◌*◌, ◌≤◌, ◌≡◌, Bool, true, false, cond, not, nat_lt, ◌==◌, is_some, List, [], ◌∷◌, ◌++◌, length, IsOk}
use Rattle.std.specs.List.{AllByRecursion, position_or_len, range_with_len}
use Rattle.model.specs.declared.event.Event.{Event}
use Rattle.model.specs.declared.event.Event.TheVariants as event
use Rattle.model.specs.declared.step.Step.{Step}
use Rattle.model.specs.declared.step.Step.TheVariants as step
use Rattle.model.specs.State.{sent_to}
use Rattle.model.specs.Shading.{is_open, is_calm}
use Rattle.model.specs.World.{World, run, outcomes}
use Rattle.model.specs.Cuts.{Cut, cut, taken}

-- the current states
abbrev pub now : World → Cut
now w = cut w (λ _. false)

-- the least number below n that passes, or n
abbrev pub least : ℕ → (ℕ → Bool) → ℕ
least n f = position_or_len f (range_with_len 0 n)

-- a message in flight is received; or a node does one of its own events
pub data Move : Type 0 where
  Bring : ℕ → ℕ → Move
  Do : ℕ → Event → Move

abbrev pub is_waiting : Cut → ℕ → ℕ → Bool
is_waiting c from to = nat_lt (taken c from to) (length (sent_to (c from) to))

abbrev pub has_waiting : ℕ → Cut → ℕ → Bool
has_waiting n c from = nat_lt (least n (is_waiting c from)) n

abbrev pub is_grey : Cut → ℕ → Bool
is_grey c i = not (is_calm (c i).local.heap)

abbrev pub has_token : Cut → ℕ → Bool
has_token c i = is_some (c i).local.ring.token

abbrev pub is_unswept : Cut → ℕ → Bool
is_unswept c i = not ((c i).local.phases.swept == (c 0).local.phases.cycle)

-- A message in flight is received first. While marking goes on, grey objects are scanned, and then
-- the token is passed. After that each node sweeps all its slots, and last a cycle begins.
abbrev pub bring_move : ℕ → Cut → ℕ → Move
bring_move n c from = Bring from (least n (is_waiting c from))

abbrev pub mark_move : ℕ → Cut → ℕ → Move
mark_move n c i = cond (nat_lt i n) (Do i event.Scan) (Do (least n (has_token c)) event.Pass)

abbrev pub sweep_move : ℕ → Cut → ℕ → Move
sweep_move n c i =
    cond (nat_lt i n) (Do i (event.Sweep (length (c i).local.heap.slots))) (Do 0 event.Begin)

abbrev pub own_move : ℕ → Cut → Move
own_move n c =
    cond
    (is_open (c 0).local)
    (mark_move n c (least n (is_grey c)))
    (sweep_move n c (least n (is_unswept c)))

abbrev pub next_move : ℕ → Cut → Move
next_move n c =
    cond
    (nat_lt (least n (has_waiting n c)) n)
    (bring_move n c (least n (has_waiting n c)))
    (own_move n c)

-- The steps of a move. Both nodes are saved before a message is given to its receiver: so it is
-- released, and all that was received before is acknowledged.
abbrev pub steps_of : Cut → Move → List Step
steps_of c (Bring from to) =
    step.Save from ∷ step.Save to ∷ step.Hand from to
    ∷ step.Deliver from to (taken c from to + 1) ∷ []
steps_of c (Do i e) = step.Act i e ∷ []

abbrev pub next_steps : ℕ → World → List Step
next_steps n w = steps_of (now w) (next_move n (now w))

-- the steps of the first k moves, and the space after them
abbrev pub played : ℕ → ℕ → World → List Step
played n zero w = []
played n (suc k) w = next_steps n w ++ played n k (run w (next_steps n w))

abbrev pub play : ℕ → ℕ → World → World
play n k w = run w (played n k w)

-- a step of the collector, a save, a delivery or an acknowledgement
abbrev pub is_collectors : Step → Bool
is_collectors (step.Act i event.Begin) = true
is_collectors (step.Act i event.Scan) = true
is_collectors (step.Act i event.Pass) = true
is_collectors (step.Act i (event.Sweep count)) = true
is_collectors (step.Act i e) = false
is_collectors (step.Save i) = true
is_collectors (step.Restart i) = false
is_collectors (step.Deliver from to number) = true
is_collectors (step.Hand from to) = true

-- None of the steps of these k moves is a program's, a restart or a Next, none is refused, and
-- there are at most four a move.
pub record IsPlayed (n k : ℕ) (w : World) : Type 0 where
  pub collectors : AllByRecursion (λ s. is_collectors s ≡ true) (played n k w)
  pub answered : AllByRecursion IsOk (outcomes w (played n k w))
  pub few : length (played n k w) ≤ 4 * k
