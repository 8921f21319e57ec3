-- What the exports do: they call the method of a handle, return the status of its result, and write
-- what the result holds.
use Rattle.std.specs.Prelude.{◌≡◌, ℕ, ℤ, Bool, Option, Some, None, Result, Err}
use Rattle.model.specs.declared.event.Answer.{Answer}
use Rattle.model.specs.declared.event.Event.{Event}
use Rattle.c_values.specs.Faults.{Through, read, status, status_of, written}
use Rattle.c_values.specs.Fields.{answer_fields, bit}
use Rattle.c_handles.specs.Lone.{NodeActs}
use Rattle.c_values.specs.declared.fault.Fault.{Fault}
use Rattle.c_values.specs.declared.fault.Fault.TheVariants as fault
use Rattle.c_values.specs.declared.fields.CAnswer.{CAnswer}
use Rattle.c_handles.specs.declared.lone.LoneNode.{LoneNode}
use Rattle.c_handles.specs.Cells.{CellActs}
use Rattle.c_handles.specs.declared.seated.SeatedCell.{SeatedCell}

-- The call read this of what the handle holds, which stays as it was. What it read was written, as
-- these fields.
pub record Reads {X A B : Type 0} (found : X → Result A Fault) (fields : A → B) (old new : Option X)
    (s : ℤ) (before after : B) : Type 0 where
  pub same : new ≡ old
  pub status : s ≡ status (read found old)
  pub value : after ≡ written fields (read found old) before

-- The call did this with some result, which was written to the answer.
pub record Answered {X : Type 0} (Does : Option X → Option X → Result Answer Fault → Type 0)
    (old new : Option X) (s : ℤ) (before after : CAnswer) : Type 0 where
  pub result : Result Answer Fault
  pub does : Does old new result
  pub status : s ≡ status result
  pub answer : after ≡ written answer_fields result before

-- The call did this, with some result that says nothing else.
pub record Finished {X : Type 0} (Does : Option X → Option X → Result (Unit {0}) Fault → Type 0)
    (old new : Option X) (s : ℤ) : Type 0 where
  pub result : Result (Unit {0}) Fault
  pub does : Does old new result
  pub status : s ≡ status result

-- the same of a call whose handle isn't named here
pub record Finishes (Does : Result (Unit {0}) Fault → Type 0) (s : ℤ) : Type 0 where
  pub result : Result (Unit {0}) Fault
  pub does : Does result
  pub status : s ≡ status result

-- The call did this with some result, whose number was written.
pub record Numbered (Does : Result ℕ Fault → Type 0) (s : ℤ) (before after : ℕ) : Type 0 where
  pub result : Result ℕ Fault
  pub does : Does result
  pub status : s ≡ status result
  pub number : after ≡ written (λ x. x) result before

-- The call did this with some result, which was written as 1 or 0.
pub record Flagged (Does : Result Bool Fault → Type 0) (s : ℤ) (before after : ℕ) : Type 0 where
  pub result : Result Bool Fault
  pub does : Does result
  pub status : s ≡ status result
  pub flag : after ≡ written bit result before

-- the two nodes of a fault, or what was there
abbrev pub sender_of : Result (Unit {0}) Fault → ℕ → ℕ
sender_of (Err (fault.Ages sender receiver)) before = sender
sender_of r before = before

abbrev pub receiver_of : Result (Unit {0}) Fault → ℕ → ℕ
receiver_of (Err (fault.Ages sender receiver)) before = receiver
receiver_of r before = before

-- The call did this with some result. If that names two nodes, their numbers were written.
pub record OpenedOr {X : Type 0} (Does : Option X → Option X → Result (Unit {0}) Fault → Type 0)
    (old new : Option X) (s : ℤ) (from sender to receiver : ℕ) : Type 0 where
  pub result : Result (Unit {0}) Fault
  pub does : Does old new result
  pub status : s ≡ status result
  pub first : sender ≡ sender_of result from
  pub second : receiver ≡ receiver_of result to

abbrev pub NodeCalled : Event → Option LoneNode → Option LoneNode → ℤ → CAnswer → CAnswer → Type 0
NodeCalled e = Answered (Through (NodeActs e))

-- the same for an event that fields describe, if they describe one
abbrev pub NodeActed : Option Event → Option LoneNode → Option LoneNode → ℤ → CAnswer → CAnswer
    → Type 0
NodeActed (Some e) old new s before after = NodeCalled e old new s before after
NodeActed None old new s before after =
    (new ≡ old) × (s ≡ status_of fault.BadArgument) × (after ≡ before)

-- the same for a cell
abbrev pub CellCalled : Event → Option SeatedCell → Option SeatedCell → ℤ → CAnswer → CAnswer
    → Type 0
CellCalled e = Answered (Through (CellActs e))

abbrev pub CellActed : Option Event → Option SeatedCell → Option SeatedCell → ℤ → CAnswer
    → CAnswer → Type 0
CellActed (Some e) old new s before after = CellCalled e old new s before after
CellActed None old new s before after =
    (new ≡ old) × (s ≡ status_of fault.BadArgument) × (after ≡ before)
