-- A cell as its callers see it, in terms of what it sees of its desk.
use Rattle.std.proofs.Common.{◌≡◌, ◌∙◌, Bool, List, ap, sym}
use Rattle.model.specs.View.{NodeView}
use Rattle.wire.specs.Readers.{known, IsSame}
use Rattle.cell.specs.declared.trace.TraceLine.{TraceLine}
use Rattle.cell.specs.Cells.{CellView, GoesOn, desk_of}
use Rattle.cell.specs.Desks.{DeskView}

abbrev pub cell_at : {D : Type 0} → NodeView → D → Bool → Bool → List TraceLine → DeskView
    → CellView D
cell_at origin disk is_open logs trace desk = record {
  node = desk.node;
  saved = desk.saved;
  origin = origin;
  seat = desk.seat;
  places = desk.places;
  unsaved = desk.unsaved;
  disk = disk;
  is_open = is_open;
  logs = logs;
  trace = trace;
}

-- The cell goes on if only its seat has changed, which learned of no event.
pub seat-goes-on : {D : Type 0} (old : CellView D) (new : DeskView) → IsSame old.seat new.seat
    → (known new.seat).events ≡ (known old.seat).events
    → new ≡ record (desk_of old) { seat = new.seat }
    → GoesOn old (cell_at old.origin old.disk old.is_open old.logs old.trace new)
seat-goes-on old new same events stays = record {
  same = same;
  marked = ((λ _. ap (λ d. d.unsaved) stays), (λ more. absurd (more events)));
  stays = ap (cell_at old.origin old.disk old.is_open old.logs old.trace)
      (stays ∙ ap (λ (d : DeskView). record (desk_of old) {
        node = d.node;
        seat = new.seat;
        unsaved = d.unsaved;
      }) (sym stays));
}
