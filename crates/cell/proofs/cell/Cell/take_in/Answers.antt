use Rattle.std.proofs.Common.{◌≡◌, ◌<◌, ℕ, Bool, true, [], ◌∷◌, ◌++◌, Result, Ok, Err, inl, inr, refl, sym, ap, ◌∙◌, subst}
use Rattle.node_store.specs.Stores.{disk_of, is_ready_in, logs_in}
use Rattle.cell.proofs.Dropping.{IsTakenFrame, at-last, dropped-as, handled-dropped, handled-took, looked-took, out-took, took-again}
use Rattle.cell.proofs.Opening.{stays-open}
use Rattle.cell.proofs.Still.{is-still, still-kept}
use Rattle.circular_buffer.specs.Buffer.{keep_last}
use Rattle.ids.specs.declared.limits.TheConstants.{TRACE_EVENTS}
use Rattle.ids.specs.declared.refusal.Refusal.{Refusal}
use Rattle.msg.specs.Frames.{plain}
use Rattle.model.specs.declared.event.Answer.{Answer}
use Rattle.model.specs.Steps.{is_memory_free}
use Rattle.node.specs.Keeping.{WholeNode}
use Rattle.wire.specs.Rule.{sender}
use Rattle.wire.specs.Views.{Known}
use Rattle.wire.specs.Readers.{inbox, known}
use Rattle.cell.specs.Cells.{CellView}
use Rattle.cell.specs.Desks.{DeskView}
use Rattle.cell.specs.Events.{event_of, Handled, IsMarked}
use Rattle.cell.specs.Pumping.{LostIn, SawEmpty, TookFrom, TookIn, TookOrLost}
use Rattle.wire.proofs.Same.{same-again}
use Rattle.cell.proofs.Views.{cell_at, seat-goes-on}
use Rattle.cell.proofs.cell.Cell.take_in.Goals as goal

took-or-lost : {D : Type 0} (from : ℕ) (r : Result Answer Refusal) (old new : CellView D)
    → TookFrom from r old new → TookOrLost from r old new
took-or-lost from (Ok a) old new took = took
took-or-lost from (Err e) old new took = inl took

-- ---- There was no memory for the frame

pub invariant_of-self-inside : goal.invariant_of-self-inside
invariant_of-self-inside g c =
    let cell = c.self.inside in
    let lost = c.in-Err.ensures.lost.1 in
    still-kept (g.D.Disk.may_leave (disk_of cell.store))
    (is-still cell.desk c.take.new.self
    (out-took (inbox cell.desk.seat c.args.from) c.args.from lost.0 (known cell.desk.seat)
    (known c.take.new.self.seat) lost.2)
    c.take.ensures.stays)
    cell.dropped cell.saved_dropped cell.while_open cell.left cell.imaged

pub returns-in-Err-clause-took : goal.returns-in-Err-clause-took
returns-in-Err-clause-took g c =
    let cell = c.self.inside in
    let desk = c.take.new.self in
    let lost = c.in-Err.ensures.lost in
    inr (subst (λ (v : CellView g.row.D.Denot).
    LostIn (inbox v.seat c.args.from) c.args.from c.in-Err.refusal v.node desk.node (known v.seat)
    (known desk.seat) v.trace cell.trace) c.self.view_is
    record {
      memory = lost.0;
      frame = lost.1.0;
      letter = lost.1.1;
      took = lost.1.2;
      node = ap (λ d. d.node) c.take.ensures.stays;
      trace = refl;
    })

pub returns-in-Err-clause-goes_on : goal.returns-in-Err-clause-goes_on
returns-in-Err-clause-goes_on g c =
    let cell = c.self.inside in
    rw (← c.self.view_is)
    (seat-goes-on
    (cell_at cell.origin.value (disk_of cell.store) (is_ready_in cell.store) (logs_in cell.store)
    cell.trace cell.desk)
    c.take.new.self c.take.ensures.same (ap (λ (v : Known). v.events) c.in-Err.ensures.lost.1.2.3.2)
    c.take.ensures.stays)

-- ---- The mailbox wasn't full

pub invariant_of-self-inside-in_default : goal.invariant_of-self-inside-in_default
invariant_of-self-inside-in_default g c =
    let cell = c.self.inside in
    let missed = rw c.in_default.is at c.in-Ok.ensures.taken in
    still-kept (g.D.Disk.may_leave (disk_of cell.store))
    (is-still cell.desk c.take.new.self
    (looked-took (inbox cell.desk.seat c.args.from) 1 (known cell.desk.seat)
    (known c.take.new.self.seat) missed)
    c.take.ensures.stays)
    cell.dropped cell.saved_dropped cell.while_open cell.left cell.imaged

pub returns-in_default-clause-took : goal.returns-in_default-clause-took
returns-in_default-clause-took g c =
    let cell = c.self.inside in
    let desk = c.take.new.self in
    subst (λ (v : CellView g.row.D.Denot).
    SawEmpty (inbox v.seat c.args.from) v.node desk.node (known v.seat) (known desk.seat) v.trace
    cell.trace) c.self.view_is
    record {
      found = rw c.in_default.is at c.in-Ok.ensures.taken;
      node = ap (λ d. d.node) c.take.ensures.stays;
      trace = refl;
    }

pub returns-in_default-clause-goes_on : goal.returns-in_default-clause-goes_on
returns-in_default-clause-goes_on g c =
    let cell = c.self.inside in
    let missed = rw c.in_default.is at c.in-Ok.ensures.taken in
    rw (← c.self.view_is)
    (seat-goes-on
    (cell_at cell.origin.value (disk_of cell.store) (is_ready_in cell.store) (logs_in cell.store)
    cell.trace cell.desk)
    c.take.new.self c.take.ensures.same (ap (λ (v : Known). v.events) missed.3)
    c.take.ensures.stays)

-- ---- The node was given the frame

pub invariant_of-self-inside-2 : goal.invariant_of-self-inside-2
invariant_of-self-inside-2 g c =
    let cell = c.self.inside in
    let desk = c.handle-answered.new.self in
    let ready : is_ready_in cell.store ≡ true =
    ap (λ v. v.is_open) c.self.view_is ∙ c.requires.ready in
    let took = c.take.ensures in
    let said = c.handle-answered.ensures in
    let u = known cell.desk.seat in
    let v = known c.take.new.self.seat in
    let w = known desk.seat in
    let f = c.in-Some.frame in
    let told = rw c.in-Some.is at c.in-Ok.ensures.taken in
    let saved = ap (λ d. d.saved) said.stays ∙ ap (λ d. d.saved) took.stays in
    let more = out-took (inbox cell.desk.seat c.args.from) c.args.from (plain f) u v told in
    let taken : IsTakenFrame v f = record {
      taken = at-last u v (plain f) (ap (λ (x : Known). x.taken) told.3.2);
      receiver = told.1 ∙ sym more.me;
    } in
    let first = cell.origin.value in (
      handled-dropped f c.handle-answered.result c.take.new.self.node desk.node w said.handled taken
          (dropped-as first u v cell.desk.node.core c.take.new.self.node.core more
          (ap (λ d. d.node.core) took.stays) cell.dropped),
      (
        dropped-as first u w cell.desk.saved desk.saved
            (took-again u v w more (handled-took f c.handle-answered.result
            c.take.new.self.node desk.node v w said.handled))
            saved cell.saved_dropped,
        stays-open cell.desk.saved desk.saved desk.node.core
            (g.D.Disk.may_leave (disk_of cell.store)) saved (cell.while_open ready) cell.imaged,
      ),
    )

pub handle-answered-requires-clause-taken : goal.handle-answered-requires-clause-taken
handle-answered-requires-clause-taken g c =
    let taken = rw c.in-Some.is at c.in-Ok.ensures.taken in
    at-last (known c.self.inside.desk.seat) (known c.take.new.self.seat) (plain c.in-Some.frame)
    (ap (λ (v : Known). v.taken) taken.3.2)

pub returns-clause-took : goal.returns-clause-took
returns-clause-took g c =
    let cell = c.self.inside in
    let desk = c.handle-answered.new.self in
    let f = c.in-Some.frame in
    let result = c.handle-answered.result in
    let taken = rw c.in-Some.is at c.in-Ok.ensures.taken in
    took-or-lost c.args.from result c.args.self.now
    (cell_at cell.origin.value (disk_of cell.store) (is_ready_in cell.store) (logs_in cell.store)
    c.push.new.self desk)
    (subst (λ (v : CellView g.row.D.Denot).
    TookIn (inbox v.seat c.args.from) c.args.from result v.node desk.node (known v.seat)
    (known desk.seat) v.trace c.push.new.self) c.self.view_is
    record {
      frame = f;
      sender = taken.0;
      receiver = taken.1;
      released = (taken.2.log, taken.2.events, taken.2.net);
      arrives = taken.2;
      taken = taken.3.0;
      cleared = taken.3.1;
      handled = subst (λ (v : Known). Handled f result cell.desk.node desk.node v (known desk.seat))
          taken.3.2
          (subst (λ (n : WholeNode).
          Handled f result n desk.node (known c.take.new.self.seat) (known desk.seat))
          (ap (λ d. d.node) c.take.ensures.stays) c.handle-answered.ensures.handled);
      memory_free = λ free.
          c.handle-answered.ensures.memory_free
          (subst (λ (n : WholeNode). is_memory_free n.core.local (event_of f) ≡ true)
          (sym (ap (λ d. d.node) c.take.ensures.stays)) free);
      traced = c.push.ensures
          ∙ (λ i. keep_last TRACE_EVENTS (cell.trace ++ record {
            call = c.call_for-call.ensures i;
            outcome = c.outcome.ensures i;
          } ∷ []));
    })

pub handle-answered-requires-clause-sender : goal.handle-answered-requires-clause-sender
handle-answered-requires-clause-sender g c =
    let f = plain c.in-Some.frame in
    let taken = rw c.in-Some.is at c.in-Ok.ensures.taken in
    subst (λ (v : Known). sender f < v.nodes) (sym taken.3.2)
    (subst (λ (k : ℕ). k < (known c.self.inside.desk.seat).nodes) (sym taken.0)
    c.take.ensures.inside)

pub handle-answered-requires-clause-receiver : goal.handle-answered-requires-clause-receiver
handle-answered-requires-clause-receiver g c =
    let taken = rw c.in-Some.is at c.in-Ok.ensures.taken in
    taken.1 ∙ sym (ap (λ (v : Known). v.me) taken.3.2)

pub returns-clause-goes_on : goal.returns-clause-goes_on
returns-clause-goes_on g c =
    let cell = c.self.inside in
    let desk = c.handle-answered.new.self in
    let took = c.take.ensures in
    let said = c.handle-answered.ensures in
    let taken = rw c.in-Some.is at c.in-Ok.ensures.taken in
    let v = known cell.desk.seat in
    rw (← c.self.view_is)
    record {
      same = same-again cell.desk.seat c.take.new.self.seat desk.seat took.same said.same;
      marked = subst (λ (b : Bool). IsMarked v (known desk.seat) b desk.unsaved)
          (ap (λ d. d.unsaved) took.stays)
          (subst (λ (u : Known). IsMarked u (known desk.seat) c.take.new.self.unsaved desk.unsaved)
          taken.3.2 said.unsaved);
      stays = ap (cell_at cell.origin.value (disk_of cell.store) (is_ready_in cell.store)
          (logs_in cell.store) c.push.new.self)
          (said.stays ∙ ap (λ (d : DeskView). record d {
            node = desk.node;
            seat = desk.seat;
            unsaved = desk.unsaved;
          }) took.stays);
    }
