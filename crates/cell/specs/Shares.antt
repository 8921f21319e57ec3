-- What is known of a shared cell, whoever has used it since.
use Rattle.disk.specs.declared.device.Disk as disk
use Rattle.cell.specs.Desks.{DeskView}
use Rattle.cell.specs.declared.shared.Naming as naming
use Rattle.cell.specs.declared.shared.SharedOn.{SharedOn}

-- the node and the seat with which it was made
abbrev pub first_of : {D W : Type 0} {g : disk.Ghosts D} {w : naming.Ghosts W} → SharedOn D W g w
    → DeskView
first_of s = s.first.value
