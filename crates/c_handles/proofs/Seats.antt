-- What a call of a seated cell says, by what the cell's own call says.
use Rattle.std.proofs.Common.{◌≡◌, ◌≢◌, ◌&&◌, ◌∙◌, [], ◌∷◌, ◌++◌, Bool, true, false, IfErr, IsErrOf, IsTrue, ℕ, Ok, Result, ap, inl, inr, subst, sym}
use Rattle.std.specs.Prelude.{◌↔◌}
use Rattle.std.proofs.Math.Bool.{and-true}
use Rattle.std.proofs.lemmas.Bool.{cases_Bool, cond-false}
use Rattle.circular_buffer.specs.Buffer.{keep_last}
use Rattle.ids.specs.declared.limits.TheConstants.{TRACE_EVENTS}
use Rattle.ids.specs.declared.refusal.Refusal.{Refusal}
use Rattle.ids.specs.declared.refusal.Refusal.TheVariants as refusal
use Rattle.model.specs.Steps.{is_memory_free}
use Rattle.model.specs.View.{is_other}
use Rattle.model.specs.declared.event.Answer.{Answer}
use Rattle.model.specs.declared.event.Event.{Event}
use Rattle.node.specs.Keeping.{met, own_step}
use Rattle.wire.specs.Readers.{known}
use Rattle.wire.specs.declared.pumped.Inbound.{Inbound}
use Rattle.cell.specs.Cells.{GoesOn}
use Rattle.cell.specs.Events.{Given, outcome_of}
use Rattle.cell.specs.Lines.{call_of}
use Rattle.cell.specs.Pumping.{PumpedIn}
use Rattle.c_handles.specs.Cells.{Acted, CellActs, fresh_after, fresh_received, Keeps, Pumped}
use Rattle.model.specs.Steps.{frees}
use Rattle.c_handles.specs.Gone.{GoneView, listing}
use Rattle.c_handles.specs.declared.seated.SeatedCell.{SeatedCell}

module _ {old new : SeatedCell} (keeps : Keeps old new) where
  -- an event of the node's own
  pub acted_by : {e : Event} {r : Result Answer Refusal}
      → (IsTrue old.cell.is_open → Given e (met old.cell.node.early e)
      (own_step old.cell.node.early (known old.cell.seat).me e) r old.cell.node new.cell.node
      (known old.cell.seat) (known new.cell.seat))
      → (IsTrue (is_memory_free old.cell.node.core.local (met old.cell.node.early e))
      → IfErr r (λ f. f ≢ refusal.Memory))
      → IsErrOf r refusal.Closed ↔ (old.cell.is_open ≡ false)
      → (old.cell.is_open ≡ false → new.cell ≡ record old.cell { trace = new.cell.trace })
      → GoesOn old.cell new.cell
      → new.cell.trace ≡ keep_last TRACE_EVENTS (old.cell.trace
      ++ record { call = call_of e; outcome = outcome_of r } ∷ [])
      → new.is_fresh ≡ fresh_after r old.is_fresh → Acted e old new r
  acted_by given memory_free closed shut goes_on traced fresh = record {
    given = given;
    memory_free = memory_free;
    closed = closed;
    shut = shut;
    goes_on = goes_on;
    traced = traced;
    keeps = keeps;
    fresh = fresh;
  }

  -- a message or a frame that comes in
  pub pumped_by : {from : ℕ} {r : Result Inbound Refusal}
      → (IsTrue old.cell.is_open → IsTrue (is_other old.cell.node.core.local from)
      → PumpedIn from r old.cell new.cell)
      → IsErrOf r refusal.Closed ↔ (old.cell.is_open ≡ false)
      → (old.cell.is_open ≡ false → new.cell ≡ old.cell)
      → (IsTrue old.cell.is_open → is_other old.cell.node.core.local from ≡ false
      → IsErrOf r refusal.NoNode × (new.cell ≡ old.cell))
      → GoesOn old.cell new.cell → new.is_fresh ≡ fresh_received r old.is_fresh
      → Pumped from old new r
  pumped_by pumped closed shut no_node goes_on fresh = record {
    pumped = pumped;
    closed = closed;
    shut = shut;
    no_node = no_node;
    goes_on = goes_on;
    keeps = keeps;
    fresh = fresh;
  }

-- ---- Events that free objects

-- an event that frees nothing, or of a cell that lists nothing
pub acted_plain : {old new : SeatedCell} {e : Event} {a : Answer}
    → (frees e && (old.gone.tracks && old.cell.is_open)) ≡ false → Acted e old new (Ok a)
    → CellActs e old new (Ok a)
acted_plain {old} {new} {e} {a} off acted =
    let ready : old.cell.is_open ≡ true =
    elim (cases_Bool old.cell.is_open) [
      | inl is ↦ is
      | inr shut ↦ (let never = acted.closed.1 shut in absurd cc)
    ] in
    let none : (frees e && old.gone.tracks) ≡ false =
    sym (ap (λ (b : Bool). frees e && (old.gone.tracks && b)) ready
    ∙ ap (λ (b : Bool). frees e && b) (and-true old.gone.tracks)) ∙ off in
    subst (λ (v : GoneView). Acted e (record old { gone = v }) new (Ok a))
    (sym (cond-false (frees e && old.gone.tracks)
    (listing old.cell.node.core.local.own old.cell.node.core.local.heap
    new.cell.node.core.local.heap old.gone) old.gone none)) acted
