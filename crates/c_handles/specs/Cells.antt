-- A cell with its wire, as C uses it: what the calls do.
use Rattle.std.specs.Prelude.{◌≡◌, ◌≢◌, ◌↔◌, ◌⊎◌, ℕ, ◌+◌, ◌%◌, ◌^◌, ◌++◌, [], ◌∷◌, Bool, true, false, cond, ◌==◌, ◌&&◌, List, Option, Some, None, Result, Ok, Err, IfErr, IfOk, IsErrOf, IsTrue, OnErr, OnOk, replicate, slice_index_or}
use Rattle.circular_buffer.specs.Buffer.{keep_last}
use Rattle.ids.specs.declared.limits.TheConstants.{GREATEST_NODES, TRACE_EVENTS}
use Rattle.ids.specs.declared.refusal.Refusal.{Refusal}
use Rattle.ids.specs.declared.refusal.Refusal.TheVariants as refusal
use Rattle.cell.specs.Lines.{call_of}
use Rattle.model.specs.Steps.{is_memory_free}
use Rattle.model.specs.View.{NodeView, is_other, kept_view}
use Rattle.model.specs.declared.event.Answer.{Answer}
use Rattle.model.specs.declared.event.Event.{Event}
use Rattle.node.specs.Keeping.{kept_whole, met, own_step}
use Rattle.image.specs.Images.{IsTooLarge, image_of}
use Rattle.image.specs.Wholes.{IsWholeOf}
use Rattle.disk.specs.Crashes.{Grew}
use Rattle.disk.specs.Memory.{held_by, left_by}
use Rattle.disk_shelf.specs.Shelf.{OpensAs}
use Rattle.node_store.specs.Plain.{StaysPlain}
use Rattle.wire.specs.Readers.{known, outbox, seat_node, IsSame}
use Rattle.wire.specs.Views.{raises}
use Rattle.cell.specs.Cells.{GoesOn}
use Rattle.cell.specs.Disks.{is_same_node, HoldsSaved}
use Rattle.cell.specs.Pumping.{PumpedIn}
use Rattle.wire.specs.Entering.{Entered}
use Rattle.wire.specs.Sending.{frame_due, places_after, IsSent}
use Rattle.wire.specs.declared.pumped.Inbound.{Inbound}
use Rattle.wire.specs.declared.pumped.Inbound.TheVariants as inbound
use Rattle.model.specs.declared.step.Step.TheVariants as step
use Rattle.cell.specs.Events.{outcome_of}
use Rattle.cell.specs.Events as events
use Rattle.c_values.specs.Bytes.{Wrote}
use Rattle.c_values.specs.declared.fields.CFreed.{CFreed}
use Rattle.c_handles.specs.Gone.{HandsOut, IsUnlisted, emptying, list_after, settling, tracking}
use Rattle.c_handles.specs.Images.{Sized}
use Rattle.c_values.specs.declared.fault.Fault.{Fault}
use Rattle.c_values.specs.declared.fault.Fault.TheVariants as fault
use Rattle.c_handles.specs.declared.seated.SeatedCell.{SeatedCell}

-- the wire, the marks, and the list of what is gone stay as they are
pub record Keeps (old new : SeatedCell) : Type 0 where
  pub wire : new.wire ≡ old.wire
  pub mark : new.mark ≡ old.mark
  pub imaged : new.imaged ≡ old.imaged
  pub gone : new.gone ≡ old.gone

-- the mark of the last image is of use unless the event was answered
abbrev pub fresh_after : {A E : Type 0} → Result A E → Bool → Bool
fresh_after (Ok a) was = false
fresh_after (Err e) was = was

-- What `Cell::act` ensures.
pub record Acted (e : Event) (old new : SeatedCell) (r : Result Answer Refusal) : Type 0 where
  pub given : IsTrue old.cell.is_open
      → events.Given e (met old.cell.node.early e)
      (own_step old.cell.node.early (known old.cell.seat).me e) r old.cell.node new.cell.node
      (known old.cell.seat) (known new.cell.seat)
  pub memory_free : IsTrue (is_memory_free old.cell.node.core.local
      (met old.cell.node.early e)) → IfErr r (λ f. f ≢ refusal.Memory)
  pub closed : IsErrOf r refusal.Closed ↔ (old.cell.is_open ≡ false)
  pub shut : old.cell.is_open ≡ false
      → new.cell ≡ record old.cell { trace = new.cell.trace }
  pub goes_on : GoesOn old.cell new.cell
  pub traced : new.cell.trace ≡ keep_last TRACE_EVENTS (old.cell.trace
      ++ record { call = call_of e; outcome = outcome_of r } ∷ [])
  pub keeps : Keeps old new
  pub fresh : new.is_fresh ≡ fresh_after r old.is_fresh

-- the list of what is gone has what the event freed, after which this is the node
abbrev pub cell_listed : SeatedCell → NodeView → Event → SeatedCell
cell_listed old n e =
    record old { gone = list_after old.gone old.cell.node.core.local n.local e }

-- The cell is open, and there was no memory for the list.
pub record CellUnlisted (old new : SeatedCell) (e : Event) (f : Refusal) : Type 0 where
  pub ready : IsTrue old.cell.is_open
  pub unlisted : IsUnlisted old.gone old.cell.node.core e f
  pub same : new.cell ≡ old.cell
  pub keeps : Keeps old new
  pub fresh : new.is_fresh ≡ old.is_fresh

-- The node was given the event, and what it freed is listed; or there was no memory for the list.
abbrev pub CellActs : Event → SeatedCell → SeatedCell → Result Answer Fault → Type 0
CellActs e old new (Ok a) = Acted e (cell_listed old new.cell.node.core e) new (Ok a)
CellActs e old new (Err (fault.Refused f)) = Acted e old new (Err f) ⊎ CellUnlisted old new e f
CellActs e old new (Err f) = ⊥

-- ---- Frames

abbrev pub fresh_received : Result Inbound Refusal → Bool → Bool
fresh_received (Ok (inbound.Event a)) was = false
fresh_received (Ok inbound.Empty) was = was
fresh_received (Err e) was = was

-- What `Cell::pump_in` ensures.
pub record Pumped (from : ℕ) (old new : SeatedCell) (r : Result Inbound Refusal) : Type 0 where
  pub pumped : IsTrue old.cell.is_open → IsTrue (is_other old.cell.node.core.local from)
      → PumpedIn from r old.cell new.cell
  pub closed : IsErrOf r refusal.Closed ↔ (old.cell.is_open ≡ false)
  pub shut : old.cell.is_open ≡ false → new.cell ≡ old.cell
  pub no_node : IsTrue old.cell.is_open → is_other old.cell.node.core.local from ≡ false
      → IsErrOf r refusal.NoNode × (new.cell ≡ old.cell)
  pub goes_on : GoesOn old.cell new.cell
  pub keeps : Keeps old new
  pub fresh : new.is_fresh ≡ fresh_received r old.is_fresh

abbrev pub Received : ℕ → SeatedCell → SeatedCell → Result Answer Fault → Type 0
Received from old new (Ok a) = Pumped from old new (Ok (inbound.Event a))
Received from old new (Err fault.Nothing) = Pumped from old new (Ok inbound.Empty)
Received from old new (Err (fault.Refused e)) = Pumped from old new (Err e)
Received from old new (Err e) = ⊥

-- What `Cell::pump_out` ensures: whether a frame was sent.
pub record SentTo (to : ℕ) (old new : SeatedCell) (r : Result Bool Refusal) : Type 0 where
  pub sent : IfOk r (λ is_sent. IsSent (outbox old.cell.seat to)
      (frame_due old.cell.node.core to (slice_index_or old.cell.places to 0)) is_sent
      (known old.cell.seat) (known new.cell.seat))
  pub places : IfOk r (λ is_sent.
      new.cell.places ≡ places_after is_sent old.cell.node.core to old.cell.places)
  pub refused : OnErr r (new.cell ≡ old.cell)
  pub closed : IsErrOf r refusal.Closed ↔ (old.cell.is_open ≡ false)
  pub no_node : IsTrue old.cell.is_open
      → (IsErrOf r refusal.NoNode ↔ (is_other old.cell.node.core.local to ≡ false))
  pub same : IsSame old.cell.seat new.cell.seat
  pub stays : new.cell
      ≡ record old.cell { seat = new.cell.seat; places = new.cell.places }
  pub keeps : Keeps old new
  pub fresh : new.is_fresh ≡ old.is_fresh

abbrev pub Sent : ℕ → SeatedCell → SeatedCell → Result Bool Fault → Type 0
Sent to old new (Ok is_sent) = SentTo to old new (Ok is_sent)
Sent to old new (Err (fault.Refused e)) = SentTo to old new (Err e)
Sent to old new (Err e) = ⊥

-- ---- Images

-- The image of the node was written, and this is its mark now.
pub record Took (old new : SeatedCell) (mark : ℕ) : Type 0 where
  pub cell : new.cell ≡ old.cell
  pub wire : new.wire ≡ old.wire
  pub marked : new.mark ≡ mark
  pub next : mark ≡ (old.mark + 1) % 2 ^ 64
  pub fresh : new.is_fresh ≡ true
  pub imaged : new.imaged.value ≡ old.cell.node.core
  pub gone : new.gone ≡ old.gone

-- The image of the node is written, and gets a new mark; or nothing changes.
abbrev pub Imaged : SeatedCell → SeatedCell → Result ℕ Fault → List ℕ → List ℕ → ℕ → ℕ → Type 0
Imaged old new (Ok mark) held now before needed =
    Took old new mark × Wrote (image_of old.cell.node.core) (Ok tt) held now needed
Imaged old new (Err fault.ShortBuffer) held now before needed =
    (new ≡ old) × Wrote (image_of old.cell.node.core) (Err fault.ShortBuffer) held now needed
Imaged old new (Err (fault.Refused e)) held now before needed =
    (new ≡ old) × Sized old.cell.node.core (Err (fault.Refused e)) × (now ≡ held)
    × (needed ≡ before)
Imaged old new (Err e) held now before needed = ⊥

-- ---- Saving

-- The mark is that of the last image, and nothing has happened since. Of a closed cell it isn't
-- tested.
abbrev pub may_save : ℕ → SeatedCell → Bool
may_save mark c = cond c.cell.is_open (c.is_fresh && mark == c.mark) true

-- What `Cell::save` ensures. What is saved is the core of which the last image was taken.
pub record SavedAs (old new : SeatedCell) (r : Result (Unit {0}) Refusal) : Type 0 where
  pub imaged : IsTrue old.cell.is_open → old.imaged.value ≡ old.cell.node.core
  pub done : OnOk r (new.cell ≡ record old.cell {
    node = kept_whole old.cell.node;
    saved = kept_view old.cell.node.core;
    seat = new.cell.seat;
    unsaved = false;
    disk = new.cell.disk;
    is_open = true;
    trace = new.cell.trace;
  })
  pub knows : OnOk r (known new.cell.seat ≡ events.saved_by (known old.cell.seat))
  pub entered : OnOk r (Entered (step.Save (known old.cell.seat).me)
      (known old.cell.seat) (known new.cell.seat))
  pub same : IsSame old.cell.seat new.cell.seat
  pub refused : OnErr r (new.cell ≡ record old.cell {
    disk = new.cell.disk;
    is_open = new.cell.is_open;
    trace = new.cell.trace;
  })
  pub closed : IsErrOf r refusal.Closed ↔ (old.cell.is_open ≡ false)
  pub disk : IsErrOf r refusal.Disk
      → Grew old.cell.disk.account.failures new.cell.disk.account.failures
      × (new.cell.is_open ≡ false)
  pub too_large : IsErrOf r refusal.ImageTooLarge
      ↔ IsTrue old.cell.is_open × IsTooLarge old.cell.node.core
  pub unchanged : IfErr r (λ e. e ≢ refusal.Disk
      → new.cell ≡ record old.cell { trace = new.cell.trace })
  pub others : IfErr r (λ e. (e ≡ refusal.Closed) ⊎ ((e ≡ refusal.ImageTooLarge)
      ⊎ ((e ≡ refusal.Memory) ⊎ (e ≡ refusal.Disk))))
  pub keeps : Keeps old new
  pub fresh : new.is_fresh ≡ fresh_after r old.is_fresh

-- What is gone is ready: the saved node doesn't have it.
abbrev pub SavedBy : Bool → SeatedCell → SeatedCell → Result (Unit {0}) Fault → Type 0
SavedBy false old new r = (new ≡ old) × (r ≡ Err fault.WrongMark)
SavedBy true old new (Ok u) =
    SavedAs (record old { gone = settling old.gone }) new (Ok u)
SavedBy true old new (Err (fault.Refused e)) = SavedAs old new (Err e)
SavedBy true old new (Err e) = ⊥

abbrev pub Saved : ℕ → SeatedCell → SeatedCell → Result (Unit {0}) Fault → Type 0
Saved mark old new r = SavedBy (may_save mark old) old new r

-- What `Cell::reopen` ensures.
pub record ReopenedAs (old new : SeatedCell) (r : Result (Unit {0}) Refusal) : Type 0 where
  pub opened : OnOk r (OpensAs IsWholeOf new.cell.node (held_by old.cell.disk))
  pub done : OnOk r (new.cell ≡ record old.cell {
    node = new.cell.node;
    saved = new.cell.node.core;
    seat = new.cell.seat;
    places = replicate GREATEST_NODES 0;
    unsaved = false;
    disk = new.cell.disk;
    is_open = true;
    trace = new.cell.trace;
  })
  pub knows : OnOk r (known new.cell.seat
      ≡ events.reopened_by (is_same_node new.cell.node.core old.cell.saved)
      (known old.cell.seat))
  pub entered : OnOk r (Entered
      (events.found_step (is_same_node new.cell.node.core old.cell.saved)
      (known old.cell.seat).me) (known old.cell.seat) (known new.cell.seat))
  pub restarted : OnOk r (IsTrue old.cell.is_open
      ⊎ HoldsSaved (left_by old.cell.disk) old.cell.saved
      → known new.cell.seat ≡ events.restarted_by (known old.cell.seat))
  pub saved_still : OnErr r (IsTrue old.cell.is_open
      ⊎ HoldsSaved (left_by old.cell.disk) old.cell.saved
      → HoldsSaved (left_by new.cell.disk) new.cell.saved)
  -- what a crash leaves is an image, and no log follows it
  pub plain : StaysPlain (left_by new.cell.disk)
  pub same : IsSame old.cell.seat new.cell.seat
  pub refused : OnErr r (new.cell ≡ record old.cell {
    disk = new.cell.disk;
    is_open = false;
    trace = new.cell.trace;
  })
  pub others : IfErr r (λ e. (e ≡ refusal.Memory) ⊎ (e ≡ refusal.Disk))
  pub keeps : Keeps old new
  pub fresh : new.is_fresh ≡ fresh_after r old.is_fresh

-- A list that is kept is empty then.
abbrev pub Reopened : SeatedCell → SeatedCell → Result (Unit {0}) Fault → Type 0
Reopened old new (Ok u) = ReopenedAs (record old { gone = emptying old.gone }) new (Ok u)
Reopened old new (Err (fault.Refused e)) = ReopenedAs old new (Err e)
Reopened old new (Err e) = ⊥

-- ---- The board

-- What `Cell::raise` ensures, with the number of the cycle.
pub record RaisedAs (old new : SeatedCell) (r : Result ℕ Refusal) : Type 0 where
  pub raised : IfOk r (λ n. (n ≡ (known old.cell.seat).pair.saved.local.phases.ended)
      × (known new.cell.seat ≡ raises n (known old.cell.seat)))
  pub closed : IsErrOf r refusal.Closed ↔ (old.cell.is_open ≡ false)
  pub director : IfErr r (λ e. e ≢ refusal.Closed
      → (e ≡ refusal.NotDirector) × (seat_node old.cell.seat ≢ 0))
  pub refused : OnErr r (new.cell ≡ old.cell)
  pub same : IsSame old.cell.seat new.cell.seat
  pub stays : new.cell ≡ record old.cell { seat = new.cell.seat }
  pub keeps : Keeps old new
  pub fresh : new.is_fresh ≡ old.is_fresh

abbrev pub Raised : SeatedCell → SeatedCell → Result ℕ Fault → Type 0
Raised old new (Ok n) = RaisedAs old new (Ok n)
Raised old new (Err (fault.Refused e)) = RaisedAs old new (Err e)
Raised old new (Err e) = ⊥

-- ---- What is gone

-- a list is kept from now on, or none is
abbrev pub CellTracks : Bool → SeatedCell → SeatedCell → Result (Unit {0}) Fault → Type 0
CellTracks on old new r =
    (new ≡ record old { gone = tracking on old.gone }) × (r ≡ Ok tt)

-- what is ready of the list is handed out
pub record CellHandsOut (old new : SeatedCell) (count : ℕ) (held now : List CFreed)
    : Type 0 where
  pub hands_out : HandsOut old.gone new.gone count held now
  pub stays : new ≡ record old { gone = new.gone }

-- ---- The same for what a handle holds

abbrev pub SizedSame : SeatedCell → SeatedCell → Result ℕ Fault → Type 0
SizedSame old new r = (new ≡ old) × Sized old.cell.node.core r

abbrev pub HandleImaged : Option SeatedCell → Option SeatedCell → Result ℕ Fault → List ℕ
    → List ℕ → ℕ → ℕ → Type 0
HandleImaged (Some old) (Some new) r held now before needed =
    Imaged old new r held now before needed
HandleImaged (Some old) None r held now before needed = ⊥
HandleImaged None new r held now before needed =
    (new ≡ None) × (r ≡ Err fault.NoHandle) × (now ≡ held) × (needed ≡ before)
