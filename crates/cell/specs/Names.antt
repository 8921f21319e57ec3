-- Which wire something belongs to; only proofs distinguish wires.
use Rattle.std.specs.Prelude.{◌≡◌, Option}
use Rattle.std.specs.Option.{ForSome}
use Rattle.atomic_table.specs.Seated.{TableId}
use Rattle.model.specs.World.{World}
use Rattle.wire.specs.Readers.{known, opened_with, raised_opening}
use Rattle.wire.specs.declared.seats.Wire.{Wire}
use Rattle.wire.specs.declared.seats.NodeSeat.{NodeSeat}
use Rattle.wire.specs.declared.seats.Raised.{Raised}

-- a wire's table, and the world with which it was made
pub record Name : Type 0 where
  pub table : TableId
  pub opening : World

abbrev pub name_of : Wire → Name
name_of w = record { table = w.table.shared.table_id; opening = opened_with w }

abbrev pub seat_name : NodeSeat → Name
seat_name s = record { table = s.seat.table_id; opening = (known s).opening }

abbrev pub raised_on : Raised → Name
raised_on r = record { table = r.of.value.table_id; opening = raised_opening r }

-- it belongs to this wire, if one is named
abbrev pub IsNamed : Option Name → Name → Type 0
IsNamed wire it = ForSome wire (λ t. it ≡ t)
