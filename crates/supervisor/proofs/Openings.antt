-- What an opening gives, once its cells are shared.
use Rattle.std.proofs.Common.{◌≡◌, ◌∙◌, All, List, ap, length, map, subst, sym}
use Rattle.std.proofs.lemmas.List.{length-map}
use Rattle.std.proofs.lemmas.List.Elements.{All-map}
use mathlib.Core.List.{map-map}
use Rattle.ids.specs.Limits.{Shaped}
use Rattle.disk.specs.Areas.{Areas}
use Rattle.wire.specs.Readers.{IsMade}
use Rattle.wire.specs.declared.seats.Watch.{Watch}
use Rattle.wire.specs.declared.seats.Wire.{Wire}
use Rattle.cell.specs.Cells.{CellView, IsNew, desk_of}
use Rattle.cell.specs.Desks.{DeskView, new_desk}
use Rattle.cell.specs.Opened.{cores, world_of, AreBeside, IsReadFrom}
use Rattle.supervisor.specs.Opened.{HaveOpened}
use Rattle.supervisor.specs.declared.cells.TheConstants.{WATCHES}

pub have-opened : {D : Type 0} {seen : D → Areas} {shape : Shaped} {disks : List D}
    (cells : List (CellView D)) {wire : Wire} {watches : List Watch}
    → length cells ≡ length disks
    → AreBeside (λ k d n. IsReadFrom shape k (seen d) n) disks (map (λ c. c.node) cells)
    → All IsNew cells
    → IsMade (world_of (cores (map (λ c. c.node) cells))) WATCHES wire (map (λ c. c.seat) cells)
    watches
    → HaveOpened seen shape disks (map desk_of cells) wire watches
have-opened {D = D} {seen = seen} {shape = shape} {disks = disks} cells {wire = wire}
    {watches = watches} all read new made =
    let nodes = sym (map-map (λ (x : DeskView). x.node) (desk_of {D = D}) cells) in
    let seats = sym (map-map (λ (x : DeskView). x.seat) (desk_of {D = D}) cells) in
    record {
      all = length-map cells (desk_of {D = D}) ∙ all;
      read = subst
          (λ ns. AreBeside (λ k d n. IsReadFrom shape k (seen d) n) disks ns)
          nodes read;
      new = All-map (λ (x : DeskView). x ≡ new_desk x.node x.seat) (desk_of {D = D}) cells
          (λ k d inside. ap desk_of (new k d inside));
      made = subst
          (λ ns. IsMade (world_of (cores ns)) WATCHES wire
          (map (λ c. c.seat) (map desk_of cells)) watches) nodes
          (subst
          (λ ss. IsMade (world_of (cores (map (λ c. c.node) cells))) WATCHES
          wire ss watches) seats made);
    }
