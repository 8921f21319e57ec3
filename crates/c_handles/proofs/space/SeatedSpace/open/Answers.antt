use Rattle.std.proofs.Common.{◌∙◌, All, List, None, ap, map, refl, replicate, subst, sym, ℕ}
use Rattle.wire.specs.Readers.{IsSeatOf, IsWatchOf}
use Rattle.wire.specs.declared.seats.Watch.{Watch}
use Rattle.wire.specs.declared.seats.Wire.{Wire}
use Rattle.wire.proofs.Places.{mapped-there}
use Rattle.c_handles.specs.Opening.{AreBegun, EachOf, Image, IsFreshIn, IsOnWire, watch_in}
use Rattle.c_handles.proofs.space.SeatedSpace.open.Goals as goal

pub seat_all-requires : goal.seat_all-requires
seat_all-requires c =
    let cells = c.in_ok-wire.cells.items in
    record {
      seats = subst (λ (w : Wire). EachOf (λ y. IsSeatOf w y.seat) cells)
          (sym c.in_ok-wire-2.ensures.ok)
          (λ k y there. (c.in_ok-wire.ensures.begun.made.each_seat k y.seat
          (mapped-there (λ z. z.seat) cells k y there)).of);
      plain = c.in_ok-wire.ensures.begun.logs;
    }

pub seat_watches-requires : goal.seat_watches-requires
seat_watches-requires c =
    subst (λ (w : Wire). EachOf (IsWatchOf w) c.in_ok-wire.watches.items)
    (sym c.in_ok-wire-2.ensures.ok)
    (λ k y there. (c.in_ok-wire.ensures.begun.made.each_watch k y there).of)

pub returns : goal.returns
returns c =
    let old = c.args.self.now in
    let wire = c.in_ok-wire.wire in
    let cells = c.in_ok-wire.cells.items in
    let same = c.in_ok-wire-2.ensures.ok in (
      c.if-self.false,
      record {
        wire = wire;
        cells = cells;
        begun = subst
            (λ (l : List Image). AreBegun old.shape l old.watches wire cells
            (map watch_in c.in_ok-watching.watching.items))
            c.deref.ensures.value
            (subst (λ (l : List Watch).
            AreBegun old.shape c.deref.result.now old.watches wire cells l)
            (sym c.in_ok-watching.ensures.watches) c.in_ok-wire.ensures.begun);
        held = c.in_ok-cells.ensures.cells;
        fresh = subst (λ (w : Wire). All (IsFreshIn w) c.in_ok-cells.cells.items) same
            c.in_ok-cells.ensures.fresh;
        on_wire = subst (λ (w : Wire). All (IsOnWire w) c.in_ok-watching.watching.items) same
            c.in_ok-watching.ensures.wire;
        opened = refl;
        images = c.in_ok-images.ensures.empty
            ∙ ap (λ (n : ℕ). replicate n None) c.nodes.ensures.value;
        shape = refl;
        watches = refl;
      },
    )
