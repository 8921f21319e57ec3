-- The calls of a worker's turns.
use Rattle.std.specs.Prelude.{◌≡◌, ℕ, ◌+◌, ◌≤◌, zero, suc, nat_lt, ◌==◌, Bool, true, false, not, cond, List, [], ◌∷◌, ◌++◌, replicate, Option, Some, None}
use Rattle.model.specs.declared.age.Scope.{Scope}
use Rattle.workers.specs.Calls.{Called, At, Look, Pass, PumpIn, PumpOut, Raise, Reclaim, Save, Scan, Sweep, asked, freed_in, received_in}
use Rattle.workers.specs.declared.calls.CallsMade.{CallsMade}
use Rattle.workers.specs.declared.gate.Stage.{Stage}
use Rattle.workers.specs.declared.gate.Stage.TheVariants as stage
use Rattle.workers.specs.declared.run.Turns.{Turns, Start, Then'}
use Rattle.workers.specs.declared.turn.Counts.{Counts}

-- the gate is asked, and answers whether the worker continues
abbrev pub at : ℕ → ℕ → Stage → Bool → Called
at node turn s goes_on = At (record { node = node; turn = turn; stage = s }) goes_on

-- whether the gate ended the worker there
abbrev pub ends_at : Option Stage → Stage → Bool
ends_at (Some stage.Start) stage.Start = true
ends_at (Some stage.TakenIn) stage.TakenIn = true
ends_at (Some stage.Collected) stage.Collected = true
ends_at (Some stage.Saved) stage.Saved = true
ends_at (Some stage.Sent) stage.Sent = true
ends_at _ _ = false

-- one call for each other node below a number, ascending
abbrev pub each_other : (ℕ → Called) → ℕ → ℕ → List Called
each_other make own zero = []
each_other make own (suc n) = each_other make own n ++ cond (n == own) [] (make n ∷ [])

abbrev pub takes : ℕ → ℕ → List Called
takes own n = each_other (λ from. PumpIn from) own n

abbrev pub sends : ℕ → ℕ → List Called
sends own n = each_other (λ to. PumpOut to) own n

-- scans until one fails, at most eight
abbrev pub scans : ℕ → List Called
scans n = replicate n (Scan true) ++ cond (nat_lt n 8) (Scan false ∷ []) []

-- a reclaim, or none
abbrev pub reclaims : Option Scope → List Called
reclaims None = []
reclaims (Some scope) = Reclaim scope ∷ []

-- a sweep, and perhaps a reclaim
abbrev pub frees : Option Scope → List Called
frees due = Sweep 64 ∷ reclaims due

-- the collector's part
abbrev pub collects : ℕ → Option Scope → List Called
collects scanned due = scans scanned ++ Pass ∷ frees due

-- a save, if there is something to save
abbrev pub saves : Bool → List Called
saves unsaved = Look unsaved ∷ cond unsaved (Save ∷ []) []

-- node 0 raises the last ended cycle on the board
abbrev pub raises : ℕ → List Called
raises node = cond (node == 0) (Raise ∷ []) []

-- the gate is asked, and these calls follow if it doesn't end the worker there
abbrev pub asks : ℕ → ℕ → Option Stage → Stage → List Called → List Called
asks node turn ended s rest =
    at node turn s (not (ends_at ended s)) ∷ cond (ends_at ended s) [] rest

abbrev pub turn_of : ℕ → ℕ → ℕ → Option Stage → ℕ → Option Scope → Bool → List Called
turn_of node nodes turn ended scanned due unsaved =
    asks node turn ended stage.Start
    (takes node nodes ++ asks node turn ended stage.TakenIn
    (collects scanned due ++ asks node turn ended stage.Collected
    (saves unsaved ++ asks node turn ended stage.Saved
    (sends node nodes ++ (raises node ++ asks node turn ended stage.Sent [])))))

-- a turn with this number, for a node of a space of this many nodes, up to the stage at which the
-- gate ended the worker
pub record IsTurn (node nodes turn : ℕ) (ended : Option Stage) (past : CallsMade) : Type 0 where
  pub scanned : ℕ
  pub few : scanned ≤ 8
  pub reclaimed : Option Scope
  pub unsaved : Bool
  pub whole : asked past ≡ turn_of node nodes turn ended scanned reclaimed unsaved

-- nothing has been done yet in the turn
pub record IsNew (c : Counts) (past : CallsMade) : Type 0 where
  pub asks : asked past ≡ []
  pub receives : received_in past ≡ 0
  pub frees : freed_in past ≡ 0
  pub received : c.received ≡ 0
  pub freed : c.freed ≡ 0

-- turns, one after another, counted from 1
abbrev pub count : Turns → ℕ
count Start = 0
count (Then' m before past) = count before + 1

-- whether a turn that ended there is whole
abbrev pub is_whole : Option Stage → Bool
is_whole None = true
is_whole (Some stage.Sent) = true
is_whole _ = false

-- the whole turns among turns the last of which ended there
abbrev pub whole_turns : Option Stage → Turns → ℕ
whole_turns ended Start = 0
whole_turns ended (Then' m before past) = count before + cond (is_whole ended) 1 0

-- turns for a node, the last of them up to the stage at which the gate ended the worker
abbrev pub AreTurns : ℕ → ℕ → Option Stage → Turns → Type 0
AreTurns node nodes ended Start = ended ≡ None
AreTurns node nodes ended (Then' m before past) =
    AreTurns node nodes None before × IsTurn node nodes (count before + 1) ended past.value

abbrev pub received_over : Turns → ℕ
received_over Start = 0
received_over (Then' m before past) = received_over before + received_in past.value

abbrev pub freed_over : Turns → ℕ
freed_over Start = 0
freed_over (Then' m before past) = freed_over before + freed_in past.value

-- One more turn. If the turns before are a node's turns and this is its next one, all of them are.
pub record AddsTurn (past : CallsMade) (old new : Turns) : Type 0 where
  pub counts : count new ≡ count old + 1
  pub wholes : (ended : Option Stage)
      → whole_turns ended new ≡ count old + cond (is_whole ended) 1 0
  pub receives : received_over new ≡ received_over old + received_in past
  pub frees : freed_over new ≡ freed_over old + freed_in past
  pub turns : (node nodes : ℕ) (ended : Option Stage) → AreTurns node nodes None old
      → IsTurn node nodes (count old + 1) ended past → AreTurns node nodes ended new
