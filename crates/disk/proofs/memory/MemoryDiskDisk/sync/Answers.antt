use Rattle.std.proofs.Common.{ap, subst, sym, refl}
use Rattle.std.proofs.lemmas.Bool.{false≢true}
use Rattle.disk.specs.Record.{leaves}
use Rattle.disk.specs.declared.state.State.{State}
use Rattle.disk.proofs.Times.{elapses_same, elapses_then}
use Rattle.disk.proofs.Causes.{counted_cause, no_cause}
use Rattle.disk.proofs.memory.MemoryDiskDisk.sync.Goals as goal

pub returns-then-falters-clause-crash : goal.returns-then-falters-clause-crash
returns-then-falters-clause-crash c x left =
    subst (λ (s : State). leaves s x) c.fault.ensures.state left

pub returns-then-falters-clause-kept : goal.returns-then-falters-clause-kept
returns-then-falters-clause-kept c x left =
    subst (λ (s : State). leaves s x) (sym c.fault.ensures.state) left

pub returns-then-falters-clause-time : goal.returns-then-falters-clause-time
returns-then-falters-clause-time c =
    let old = c.args.self.now.account in
    elapses_same old.past.value c.fault.new.self.past.value old.state
    c.fault.new.self.state (ap (λ p. p.value) c.fault.ensures.past) c.fault.ensures.state

pub returns-clause-time : goal.returns-clause-time
returns-clause-time c =
    let old = c.args.self.now.account in
    elapses_then old.past.value c.settle.new.self.past.value old.state
    c.settle.new.self.state c.settle.ensures.time

pub returns-then-falters-clause-cause : goal.returns-then-falters-clause-cause
returns-then-falters-clause-cause c =
    counted_cause refl c.fault.ensures.counted tt refl

pub returns-clause-cause : goal.returns-clause-cause
returns-clause-cause c =
    no_cause c.settle.ensures.failures false≢true
