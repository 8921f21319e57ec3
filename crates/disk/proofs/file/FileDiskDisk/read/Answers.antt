use Rattle.std.proofs.Common.{ap, subst, sym, refl}
use Rattle.std.proofs.lemmas.Bool.{false≢true}
use Rattle.disk.specs.Record.{leaves}
use Rattle.disk.specs.declared.state.State.{State}
use Rattle.disk.proofs.Times.{elapses_same}
use Rattle.disk.proofs.Causes.{counted_cause, no_cause}
use Rattle.disk.proofs.file.FileDiskDisk.read.Goals as goal

pub returns-then-not-holds-clause-crash : goal.returns-then-not-holds-clause-crash
returns-then-not-holds-clause-crash g c x left =
    subst (λ (s : State). leaves s x) c.fault.ensures.state left

pub returns-then-not-holds-clause-kept : goal.returns-then-not-holds-clause-kept
returns-then-not-holds-clause-kept g c x left =
    subst (λ (s : State). leaves s x) (sym c.fault.ensures.state) left

pub returns-then-not-holds-clause-time : goal.returns-then-not-holds-clause-time
returns-then-not-holds-clause-time g c =
    elapses_same c.args.self.now.account.past.value c.fault.new.self.past.value
    c.args.self.now.account.state c.fault.new.self.state (ap (λ p. p.value) c.fault.ensures.past)
    c.fault.ensures.state

pub returns-clause-time : goal.returns-clause-time
returns-clause-time g c =
    let account = c.args.self.now.account in
    elapses_same account.past.value account.past.value account.state account.state refl refl

pub returns-then-not-holds-clause-cause : goal.returns-then-not-holds-clause-cause
returns-then-not-holds-clause-cause g c =
    counted_cause refl c.fault.ensures.counted tt refl

pub returns-clause-cause : goal.returns-clause-cause
returns-clause-cause g c =
    no_cause refl false≢true
