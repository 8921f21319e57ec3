-- No node refuses an event with `Closed`.
use Rattle.std.proofs.Common.{◌≡◌, ℕ, Bool, Option, Some, None, Result, Ok, Err, inl, inr, refl, subst, sym, ◌∙◌, true, false}
use Rattle.ids.specs.declared.refusal.Refusal.{Refusal}
use Rattle.ids.specs.declared.refusal.Refusal.TheVariants.{Closed, Memory}
use Rattle.model.specs.declared.event.Event.{Event}
use Rattle.model.specs.declared.event.Event.TheVariants as event
use Rattle.model.specs.declared.event.Answer.{Answer}
use Rattle.msg.specs.Frames.{plain}
use Rattle.msg.specs.declared.frame.Data.{Data}
use Rattle.msg.specs.declared.frame.Frame.{Frame}
use Rattle.msg.specs.declared.frame.Frame.TheVariants as frame
use Rattle.node.specs.Keeping.{WholeNode, waiting}
use Rattle.wire.specs.Readers.{inbox, known}
use Rattle.wire.specs.Views.{Known}
use Rattle.cell.specs.Cells.{CellView}
use Rattle.wire.specs.declared.pumped.Inbound.{Inbound}
use Rattle.wire.specs.Sending.{emptied}
use Rattle.cell.specs.Events.{Handled}
use Rattle.cell.specs.Pumping.{PumpedBy, PumpedIn}
use Rattle.model.specs.View.{NodeView, Performs, view_act}
use Rattle.model.proofs.Refusals.{event-never}

-- a call that performs an event
pub never-closed : (shading : Bool) (e : Event) (n m : NodeView) (r : Result Answer Refusal)
    → Performs shading r m (view_act n e) → r ≡ Err Closed → ⊥
never-closed shading e n m (Ok a) performs closed = absurd cc
never-closed shading e n m (Err r) performs closed =
    event-never shading n e r Closed refl performs (let is : r ≡ Closed = cc in is)

handled-not-closed : (f : Frame) (old new : WholeNode) (v w : Known)
    → Handled f (Err Closed) old new v w → ⊥
handled-not-closed (frame.Data d) old new v w h =
    never-closed true (event.Data d) old.core new.core (Err Closed) h.acted.performs refl
handled-not-closed (frame.Ack a) old new v w h =
    never-closed false (event.Ack a) old.core new.core (Err Closed) h.performs refl

by-not-closed : {D : Type 0} (o : Option Data) (from : ℕ) (r : Result Inbound Refusal)
    (old new : CellView D)
    → PumpedBy o (inbox old.seat from) from r old.node new.node (known old.seat) (known new.seat)
    old.trace new.trace → r ≡ Err Closed → ⊥
by-not-closed o from (Ok i) old new took closed = absurd cc
by-not-closed (Some d) from (Err e) old new took closed =
    never-closed true (event.Data d) old.node.core new.node.core (Err e)
    took.given.acted.performs cc
by-not-closed None from (Err e) old new (inr lost) closed =
    let is : Memory ≡ Closed = sym lost.memory ∙ (let same : e ≡ Closed = cc in same) in absurd cc
by-not-closed None from (Err e) old new (inl took) closed =
    let is : e ≡ Closed = cc in
    let seen : Known =
    emptied (inbox old.seat from) took.taken took.cleared (plain took.frame) (known old.seat) in
    handled-not-closed took.frame old.node new.node seen (known new.seat)
    (subst (λ (r : Refusal). Handled took.frame (Err r) old.node new.node seen (known new.seat)) is
    took.handled)

pub pumped-not-closed : {D : Type 0} (from : ℕ) (r : Result Inbound Refusal) (old new : CellView D)
    → PumpedIn from r old new → r ≡ Err Closed → ⊥
pumped-not-closed from r old new = by-not-closed (waiting old.node.early from) from r old new
