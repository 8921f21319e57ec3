-- Reading the bytes of objects and of letters. It is no event of the node.
use Rattle.std.specs.Prelude.{◌≡◌, ◌⊎◌, ℕ, List, length, IsErrOf, IsTrue, Option, Result, Ok, Err}
use Rattle.ids.specs.declared.refusal.Refusal.{Refusal}
use Rattle.ids.specs.declared.refusal.Refusal.TheVariants.{Closed}
use Rattle.model.specs.declared.event.Accepted.{Accepted}
use Rattle.model.specs.Heaps.{heap_bytes, heap_bytes_len, heap_letter, heap_letter_part}
use Rattle.disk.specs.Areas.{Areas}
use Rattle.node.specs.Keeping.{WholeNode}
use Rattle.cell.specs.Cells.{CellView}
use Rattle.cell.specs.Locked.{IsLocked, WasShut}
use Rattle.cell.specs.Names.{Name}

-- this many bytes of an object of the node, from this offset on, or the refusal of reading them
abbrev pub node_bytes : WholeNode → ℕ → ℕ → ℕ → Result (List ℕ) Refusal
node_bytes n object offset count =
    heap_bytes n.core.local.own n.core.local.heap object offset count

-- how many bytes an object of the node has, or the refusal of reading them
abbrev pub node_bytes_len : WholeNode → ℕ → Result ℕ Refusal
node_bytes_len n object = heap_bytes_len n.core.local.own n.core.local.heap object

-- what is told of the node's oldest letter before it is accepted, and the letter's first bytes
abbrev pub node_letter : WholeNode → Result Accepted Refusal
node_letter n = heap_letter n.core.local.heap

abbrev pub node_letter_part : WholeNode → ℕ → Result (List ℕ) Refusal
node_letter_part n count = heap_letter_part n.core.local.heap count

-- The bytes that were read fill the buffer; or the call returns the refusal, and the buffer is as
-- before.
abbrev pub Fills : Result (List ℕ) Refusal → List ℕ → List ℕ → Result (Unit {0}) Refusal → Type 0
Fills read old new (Ok u) = read ≡ Ok new
Fills read old new (Err e) = (read ≡ Err e) × (new ≡ old)

-- what a call was told of a cell that it had locked
pub record WasRead {D : Type 0} (may_leave : D → Areas → Type 0) (wire : Option Name)
    (Tells : CellView D → Type 0) : Type 0 where
  pub cell : CellView D
  pub locked : IsLocked may_leave wire cell
  pub ready : IsTrue cell.is_open
  pub told : Tells cell

-- the bytes were read into a buffer, or the cell was closed
abbrev pub WasFilled : {D : Type 0} → (D → Areas → Type 0) → Option Name → ℕ → ℕ → List ℕ → List ℕ
    → Result (Unit {0}) Refusal → Type 0
WasFilled may_leave wire object offset old new result =
    (IsErrOf result Closed × (new ≡ old) × WasShut may_leave wire)
    ⊎ WasRead may_leave wire
    (λ c. Fills (node_bytes c.node object offset (length old)) old new result)

-- the bytes were counted, or the cell was closed
abbrev pub WasMeasured : {D : Type 0} → (D → Areas → Type 0) → Option Name → ℕ → Result ℕ Refusal
    → Type 0
WasMeasured may_leave wire object result =
    (IsErrOf result Closed × WasShut may_leave wire)
    ⊎ WasRead may_leave wire (λ c. result ≡ node_bytes_len c.node object)

-- the oldest letter was looked at, or the cell was closed
abbrev pub WasTold : {D : Type 0} → (D → Areas → Type 0) → Option Name → Result Accepted Refusal
    → Type 0
WasTold may_leave wire result =
    (IsErrOf result Closed × WasShut may_leave wire)
    ⊎ WasRead may_leave wire (λ c. result ≡ node_letter c.node)

-- its first bytes were read into a buffer, or the cell was closed
abbrev pub WasCopied : {D : Type 0} → (D → Areas → Type 0) → Option Name → List ℕ → List ℕ
    → Result (Unit {0}) Refusal → Type 0
WasCopied may_leave wire old new result =
    (IsErrOf result Closed × (new ≡ old) × WasShut may_leave wire)
    ⊎ WasRead may_leave wire (λ c. Fills (node_letter_part c.node (length old)) old new result)
