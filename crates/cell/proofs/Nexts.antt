-- What happened to the waiting message, if one waits.
use Rattle.std.proofs.Common.{◌≡◌, ◌≢◌, ℕ, true, [], ◌∷◌, ◌++◌, Option, None, Some, is_some, Result, Ok, Err, IfErr, IsTrue}
use Rattle.circular_buffer.specs.Buffer.{keep_last}
use Rattle.ids.specs.declared.limits.TheConstants.{TRACE_EVENTS}
use Rattle.ids.specs.declared.refusal.Refusal.{Refusal}
use Rattle.ids.specs.declared.refusal.Refusal.TheVariants.{Memory}
use Rattle.msg.specs.declared.frame.Data.{Data}
use Rattle.model.specs.declared.event.Answer.{Answer}
use Rattle.model.specs.declared.event.Event.TheVariants as event
use Rattle.model.specs.Steps.{is_memory_free}
use Rattle.node.specs.Keeping.{next_event, next_step}
use Rattle.cell.specs.Cells.{CellView}
use Rattle.cell.specs.Lines.{call_of}
use Rattle.wire.specs.Readers.{inbox, known}
use Rattle.wire.specs.declared.pumped.Inbound.{Inbound}
use Rattle.wire.specs.declared.pumped.Inbound.TheVariants as inbound
use Rattle.cell.specs.Events.{outcome_of, Given}
use Rattle.cell.specs.Pumping.{PumpedBy}

-- What a cell did with the event Next of this node, of which this message waits, if any.
pub record DidNext {D : Type 0} (from : ℕ) (o : Option Data) (r : Result Answer Refusal)
    (old new : CellView D) : Type 0 where
  pub given : Given (event.Next from) (next_event from o)
      (next_step (known old.seat).me from o) r old.node new.node (known old.seat) (known new.seat)
  pub memory_free : IsTrue (is_memory_free old.node.core.local (next_event from o))
      → IfErr r (λ e. e ≢ Memory)
  pub traced : new.trace ≡ keep_last TRACE_EVENTS (old.trace
      ++ record { call = call_of (event.Next from); outcome = outcome_of r } ∷ [])

-- the same as an outcome of `pump_in`
abbrev Next : {D : Type 0} → ℕ → Option Data → Result Inbound Refusal → CellView D → CellView D
    → Type 0
Next from o r old new =
    PumpedBy o (inbox old.seat from) from r old.node new.node (known old.seat) (known new.seat)
    old.trace new.trace

pub next-taken : {D : Type 0} {a : Answer} (from : ℕ) (o : Option Data) (old new : CellView D)
    → is_some o ≡ true → DidNext from o (Ok a) old new
    → Next from o (Ok (inbound.Event a)) old new
next-taken from None old new waits h = absurd cc
next-taken from (Some d) old new waits h =
    record { given = h.given; memory_free = h.memory_free; traced = h.traced }

pub next-refused : {D : Type 0} {e : Refusal} (from : ℕ) (o : Option Data) (old new : CellView D)
    → is_some o ≡ true → DidNext from o (Err e) old new → Next from o (Err e) old new
next-refused from None old new waits h = absurd cc
next-refused from (Some d) old new waits h =
    record { given = h.given; memory_free = h.memory_free; traced = h.traced }
