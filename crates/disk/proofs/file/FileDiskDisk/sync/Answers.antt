use Rattle.std.proofs.Common.{◌∙◌, ap, subst, sym, refl}
use Rattle.std.proofs.lemmas.Bool.{false≢true}
use Rattle.disk.specs.Crashes.{Elapses, Only}
use Rattle.disk.specs.Record.{areas_of, leaves, left_since, moments}
use Rattle.disk.specs.declared.account.Account.{Account}
use Rattle.disk.specs.declared.state.State.{State}
use Rattle.disk.proofs.Times.{elapses_same, elapses_then}
use Rattle.disk.proofs.Causes.{counted_cause, no_cause}
use Rattle.disk.proofs.file.FileDiskDisk.sync.Goals as goal

pub returns-then-not-write_through-clause-crash : goal.returns-then-not-write_through-clause-crash
returns-then-not-write_through-clause-crash g c x left =
    subst (λ (m : Account). leaves m.state x) c.write_through.ensures
    (subst (λ (s : State). leaves s x) c.fault.ensures.state left)

pub returns-then-not-write_through-clause-kept : goal.returns-then-not-write_through-clause-kept
returns-then-not-write_through-clause-kept g c x left =
    subst (λ (s : State). leaves s x) (sym c.fault.ensures.state)
    (subst (λ (m : Account). leaves m.state x) (sym c.write_through.ensures) left)

pub returns-then-not-write_through-clause-time : goal.returns-then-not-write_through-clause-time
returns-then-not-write_through-clause-time g c =
    let old = c.args.self.now.account in
    let new = c.fault.new.self in
    elapses_same old.past.value new.past.value old.state new.state
    (ap (λ p. p.value) c.fault.ensures.past ∙ ap (λ m. m.past.value) c.write_through.ensures)
    (c.fault.ensures.state ∙ ap (λ m. m.state) c.write_through.ensures)

pub returns-clause-durable : goal.returns-clause-durable
returns-clause-durable g c =
    let P : Account → Type 0 = λ m. Only (areas_of m.state.held) (leaves c.settle.new.self.state)
    in subst P c.write_through.ensures c.settle.ensures.durable

pub returns-clause-crash : goal.returns-clause-crash
returns-clause-crash g c x left =
    subst (λ (m : Account). leaves m.state x) c.write_through.ensures
    (c.settle.ensures.crash x left)

pub returns-clause-time : goal.returns-clause-time
returns-clause-time g c =
    let later = c.settle.new.self in
    let P : Account → Type 0 = λ m. Elapses (moments m.past.value) (moments later.past.value)
    (left_since m.past.value m.state) (left_since later.past.value later.state)
    (leaves later.state) in
    let mid = c.write_through.new.self.account in
    subst P c.write_through.ensures
    (elapses_then mid.past.value later.past.value mid.state later.state c.settle.ensures.time)

pub returns-then-not-write_through-clause-cause : goal.returns-then-not-write_through-clause-cause
returns-then-not-write_through-clause-cause g c =
    counted_cause (ap (λ m. m.failures) c.write_through.ensures) c.fault.ensures.counted tt refl

pub returns-clause-cause : goal.returns-clause-cause
returns-clause-cause g c =
    no_cause (c.settle.ensures.failures ∙ ap (λ m. m.failures) c.write_through.ensures)
    false≢true
