-- What reads of a node return.
use Rattle.std.specs.Prelude.{ℕ, List, cond, Option, Some, None, Result, Ok, Err, slice_get, slice_index_or}
use Rattle.ids.specs.declared.names.Ref.{Ref}
use Rattle.ids.specs.declared.refusal.Refusal.{Refusal}
use Rattle.ids.specs.declared.refusal.Refusal.TheVariants.{NoNode, NoRegister}
use Rattle.msg.specs.declared.frame.Data.{Data}
use Rattle.model.specs.State.{LocalState, got_from}
use Rattle.model.specs.Heaps.{heap_bytes, heap_bytes_len, heap_letter, heap_letter_bytes}
use Rattle.model.specs.declared.event.Accepted.{Accepted}
use Rattle.model.specs.View.{NodeView, is_other, link_to, used}
use Rattle.node.specs.Keeping.{WholeNode, waiting}
use Rattle.c_values.specs.declared.fault.Fault.{Fault}
use Rattle.c_values.specs.declared.fault.Fault.TheVariants as fault
use Rattle.c_values.specs.declared.fields.CLink.{CLink}

-- this value, or nothing
abbrev pub found : {A : Type 0} → Option A → Result A Fault
found (Some a) = Ok a
found None = Err fault.Nothing

-- nothing, if this is another node
abbrev pub other_node : LocalState → ℕ → Result (Unit {0}) Fault
other_node p node = cond (is_other p node) (Ok tt) (Err (fault.Refused NoNode))

abbrev pub held_in : Option (Option Ref) → Result Ref Fault
held_in (Some r) = found r
held_in None = Err (fault.Refused NoRegister)

abbrev pub register_of : LocalState → ℕ → Result Ref Fault
register_of p register = held_in (slice_get p.heap.registers register)

-- what the node refuses, it refuses here too
abbrev pub given : {A : Type 0} → Result A Refusal → Result A Fault
given (Ok a) = Ok a
given (Err e) = Err (fault.Refused e)

-- this many bytes of an object, from this offset on
abbrev pub object_bytes : LocalState → ℕ → ℕ → ℕ → Result (List ℕ) Fault
object_bytes p object offset count = given (heap_bytes p.own p.heap object offset count)

-- how many bytes an object has
abbrev pub object_len : LocalState → ℕ → Result ℕ Fault
object_len p object = given (heap_bytes_len p.own p.heap object)

-- what the oldest letter is, before it is accepted, and its bytes
abbrev pub letter_of : LocalState → Result Accepted Fault
letter_of p = given (heap_letter p.heap)

abbrev pub letter_bytes : LocalState → Result (List ℕ) Fault
letter_bytes p = given (heap_letter_bytes p.heap)

abbrev pub link_fields : NodeView → ℕ → CLink
link_fields n peer = record {
  appended = used (link_to n peer);
  released = (link_to n peer).kept;
  acknowledged = (link_to n peer).base;
  received = got_from n.local peer;
  received_saved = slice_index_or n.acks peer 0;
}

abbrev pub link_of : NodeView → ℕ → Result CLink Fault
link_of n peer =
    cond (is_other n.local peer) (Ok (link_fields n peer)) (Err (fault.Refused NoNode))

abbrev pub number_of : Option Data → Result ℕ Fault
number_of (Some d) = Ok d.number
number_of None = Err fault.Nothing

abbrev pub waiting_number : WholeNode → ℕ → Result ℕ Fault
waiting_number n from =
    cond (is_other n.core.local from) (number_of (waiting n.early from))
    (Err (fault.Refused NoNode))
