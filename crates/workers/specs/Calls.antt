-- The calls of a turn, in order, and what they did.
use Rattle.std.specs.Prelude.{◌≡◌, ℕ, ◌+◌, Bool, is_ok, List, [], ◌∷◌, ◌++◌, Ok}
use Rattle.model.specs.declared.age.Scope.{Scope}
use Rattle.model.specs.declared.event.Answer.TheVariants as answer
use Rattle.wire.specs.declared.pumped.Inbound.TheVariants as inbound
use Rattle.workers.specs.declared.calls.WorkerCall.{WorkerCall}
use Rattle.workers.specs.declared.calls.WorkerCall.TheVariants as call
use Rattle.workers.specs.declared.calls.CallsMade.{CallsMade, Start, Then'}
use Rattle.workers.specs.declared.gate.Point.{Point}

-- what was called: a call without its answer, unless the turn depends on that
pub data Called : Type 0 where
  At : Point → Bool → Called
  PumpIn : ℕ → Called
  Scan : Bool → Called
  Pass : Called
  Sweep : ℕ → Called
  Reclaim : Scope → Called
  Look : Bool → Called
  Save : Called
  PumpOut : ℕ → Called
  Raise : Called

abbrev pub plain : WorkerCall → Called
plain (call.At point goes_on) = At point goes_on
plain (call.PumpIn from answered) = PumpIn from
plain (call.Scan answered) = Scan (is_ok answered)
plain call.Pass = Pass
plain (call.Sweep count answered) = Sweep count
plain (call.Reclaim scope answered) = Reclaim scope
plain (call.Look unsaved) = Look unsaved
plain call.Save = Save
plain (call.PumpOut to) = PumpOut to
plain call.Raise = Raise

-- how many messages a call received: a message counts once it is received, neither when it comes
-- early nor when it comes again
abbrev pub received_by : WorkerCall → ℕ
received_by (call.PumpIn from (Ok (inbound.Event answer.Received))) = 1
received_by _ = 0

-- how many objects a call freed
abbrev pub freed_by : WorkerCall → ℕ
freed_by (call.Sweep count (Ok (answer.Freed freed done))) = freed
freed_by (call.Reclaim scope (Ok (answer.Reclaimed freed))) = freed
freed_by _ = 0

-- the completed calls
abbrev pub asked : CallsMade → List Called
asked Start = []
asked (Then' m before c) = asked before ++ plain c ∷ []

abbrev pub received_in : CallsMade → ℕ
received_in Start = 0
received_in (Then' m before c) = received_in before + received_by c

abbrev pub freed_in : CallsMade → ℕ
freed_in Start = 0
freed_in (Then' m before c) = freed_in before + freed_by c

-- these calls were made, and received this many messages and freed this many objects
pub record Makes (calls : List Called) (received freed : ℕ) (old new : CallsMade) : Type 0 where
  pub asks : asked new ≡ asked old ++ calls
  pub receives : received_in new ≡ received_in old + received
  pub frees : freed_in new ≡ freed_in old + freed

-- one more call
abbrev pub Adds : WorkerCall → CallsMade → CallsMade → Type 0
Adds c old new = Makes (plain c ∷ []) (received_by c) (freed_by c) old new
