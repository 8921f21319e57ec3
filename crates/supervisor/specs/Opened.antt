-- The cells and the watches of a wire, the workers of a space, and the errors of opening a space.
use Rattle.std.specs.Prelude.{◌≡◌, ℕ, All, List, Some, length, map, slice_get}
use Rattle.ids.specs.Limits.{Shaped}
use Rattle.disk.specs.Areas.{Areas}
use Rattle.wire.specs.Readers.{IsMade, IsSeatOf, IsWatchOf}
use Rattle.wire.specs.declared.seats.NodeSeat.{NodeSeat}
use Rattle.wire.specs.declared.seats.Wire.{Wire}
use Rattle.wire.specs.declared.seats.Watch.{Watch}
use Rattle.cell.specs.Desks.{DeskView, new_desk}
use Rattle.cell.specs.Opened.{cores, world_of, AreBeside, IsReadFrom}
use Rattle.supervisor.specs.declared.cells.TheConstants.{WATCHES}
use Rattle.supervisor.specs.declared.fault.OpenFault.{OpenFault}
use Rattle.supervisor.specs.declared.fault.OpenFault.TheVariants as fault
use Rattle.cell.specs.declared.fault.Unopened.{Unopened}
use Rattle.cell.specs.declared.fault.Unopened.TheVariants as unopened

-- watches of this wire
abbrev pub AreWatches : Wire → List Watch → Type 0
AreWatches wire watches = (k : ℕ) (x : Watch) → slice_get watches k ≡ Some x → IsWatchOf wire x

-- seats of this wire
abbrev pub AreSeats : Wire → List NodeSeat → Type 0
AreSeats wire seats = (k : ℕ) (s : NodeSeat) → slice_get seats k ≡ Some s → IsSeatOf wire s

-- nodes, each in the place of its number
abbrev pub AreInPlace : {N : Type 0} → List N → (N → ℕ) → Type 0
AreInPlace {N} nodes number = (k : ℕ) (n : N) → slice_get nodes k ≡ Some n → number n ≡ k

-- What an opening of these disks gives: the nodes that were read, each at its seat, in order, and
-- the watches of a wire between them. The wire begins in the world of these nodes. Since then no
-- seat has entered an event, taken a frame or sent one, and no watch has seen anything.
pub record HaveOpened {D : Type 0} (seen : D → Areas) (shape : Shaped) (disks : List D)
    (desks : List DeskView) (wire : Wire) (watches : List Watch) : Type 0 where
  pub all : length desks ≡ length disks
  pub read : AreBeside (λ k d n. IsReadFrom shape k (seen d) n) disks (map (λ c. c.node) desks)
  pub new : All (λ c. c ≡ new_desk c.node c.seat) desks
  pub made : IsMade (world_of (cores (map (λ c. c.node) desks))) WATCHES wire
      (map (λ c. c.seat) desks) watches

-- why a space isn't opened if its cells aren't
abbrev pub fault_of : Unopened → OpenFault
fault_of unopened.Disks = fault.Disks
fault_of (unopened.Another node) = fault.Another node
fault_of (unopened.Ages sender receiver) = fault.Ages sender receiver
fault_of (unopened.Failed node e) = fault.Failed node e
fault_of unopened.Memory = fault.Memory

-- what holds of the fault of opening cells; the configuration has been read
abbrev pub IfUnopened : (Unopened → Type 0) → OpenFault → Type 0
IfUnopened P fault.Config = ⊥
IfUnopened P fault.Disks = P unopened.Disks
IfUnopened P (fault.Another node) = P (unopened.Another node)
IfUnopened P (fault.Ages sender receiver) = P (unopened.Ages sender receiver)
IfUnopened P (fault.Failed node e) = P (unopened.Failed node e)
IfUnopened P fault.Memory = P unopened.Memory
