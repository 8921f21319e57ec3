-- Why a space isn't opened, by why its cells aren't.
use Rattle.std.proofs.Common.{◌≡◌, Err, IsErrOf, ap, subst, sym}
use Rattle.cell.specs.declared.fault.Unopened.{Unopened}
use Rattle.cell.specs.declared.fault.Unopened.TheVariants as unopened
use Rattle.supervisor.specs.Opened.{IfUnopened, fault_of}
use Rattle.supervisor.specs.declared.fault.OpenFault.{OpenFault}
use Rattle.supervisor.specs.declared.fault.OpenFault.TheVariants as fault

by_why : (P : Unopened → Type 0) (why : Unopened) → P why → IfUnopened P (fault_of why)
by_why P unopened.Disks holds = holds
by_why P (unopened.Another node) holds = holds
by_why P (unopened.Ages sender receiver) holds = holds
by_why P (unopened.Failed node e) holds = holds
by_why P unopened.Memory holds = holds

pub unopened_by : (P : Unopened → Type 0) (why : Unopened) (f : OpenFault)
    → f ≡ fault_of why → P why → IfUnopened P f
unopened_by P why f is holds = subst (IfUnopened P) (sym is) (by_why P why holds)

pub disks_by : {T U : Type 0} (why : Unopened) (f : OpenFault) → f ≡ fault_of why
    → IsErrOf {T = T} (Err why) unopened.Disks → IsErrOf {T = U} (Err f) fault.Disks
disks_by unopened.Disks f is same = ap (λ e. Err e) is
disks_by (unopened.Another node) f is same = absurd cc
disks_by (unopened.Ages sender receiver) f is same = absurd cc
disks_by (unopened.Failed node e) f is same = absurd cc
disks_by unopened.Memory f is same = absurd cc
