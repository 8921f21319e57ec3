use Rattle.std.proofs.Common.{◌∙◌, ap, subst, sym, length, arith, refl}
use Rattle.std.proofs.lemmas.Bool.{false≢true}
use Rattle.disk.specs.Areas.{Areas, Changes, Torn}
use Rattle.disk.specs.Record.{areas_of, leaves}
use Rattle.disk.specs.declared.state.State.{State}
use Rattle.disk.proofs.Times.{elapses_by}
use Rattle.disk.proofs.Torn.{changed_by_write, changed_to, follows_set, risk_left, set_leaves}
use Rattle.disk.proofs.Torn.{set_reaches, written_from}
use Rattle.disk.proofs.Causes.{counted_cause, err_cause}
use Rattle.disk.proofs.file.FileDiskDisk.write_at.Goals as goal

pub returns-then-is_err-clause-crash : goal.returns-then-is_err-clause-crash
returns-then-is_err-clause-crash g c c' left =
    let step = Changes c.args.area (Torn c.args.at (length c.args.bytes.now)) in
    let noted = c.in_ok-begin.ensures in
    let found = c.look_again.new.self.account.state in
    let change = subst (λ (x : Areas). step x (areas_of found.held)) noted.held
    c.look_again.ensures.change in
    follows_set step c.args.self.now.account.state c.begin.new.self.state found noted.risks.crash
    c.look_again.ensures.crash change c'
    (subst (λ (s : State). leaves s c') c.fault.ensures.state left)

pub returns-clause-crash : goal.returns-clause-crash
returns-clause-crash g c =
    let n = length c.args.bytes.now in
    let s = c.args.self.now.account.state in
    let mid = c.begin.new.self.state in
    let new = c.write.new.self in
    let change = changed_by_write c.args.area c.args.at n (areas_of s.held) (areas_of new.held)
    (record {
      bytes = c.args.bytes.now;
      within = c.requires;
      fits = omega arith;
      held = written_from c.args.area c.args.at c.args.bytes.now (areas_of s.held)
          (areas_of mid.held) (areas_of new.held) c.in_ok-begin.ensures.held c.write.ensures.held;
    }) in
    follows_set (Changes c.args.area (Torn c.args.at n)) s mid new c.in_ok-begin.ensures.risks.crash
    (set_leaves mid new c.write.ensures.synced c.write.ensures.ranges) change

pub returns-then-is_err-clause-torn_too : goal.returns-then-is_err-clause-torn_too
returns-then-is_err-clause-torn_too g c is d x left torn =
    subst (λ (s : State). leaves s x) (sym c.fault.ensures.state)
    (risk_left c.look_again.new.self.account.state x
    (c.look_again.ensures.risk x (c.in_ok-begin.ensures.risks.torn d x left torn)))

pub returns-clause-torn : goal.returns-clause-torn
returns-clause-torn g c =
    set_reaches (Changes c.args.area (Torn c.args.at (length c.args.bytes.now)))
    c.args.self.now.account.state c.begin.new.self.state c.write.new.self c.write.ensures.synced
    c.write.ensures.ranges c.in_ok-begin.ensures.risks.torn

pub returns-then-is_err-clause-failed : goal.returns-then-is_err-clause-failed
returns-then-is_err-clause-failed g c =
    let step = Changes c.args.area (Torn c.args.at (length c.args.bytes.now)) in
    let found = c.look_again.new.self.account.state in
    subst (λ (s : State). step (areas_of c.args.self.now.account.state.held) (areas_of s.held))
    (sym c.fault.ensures.state)
    (subst (λ (x : Areas). step x (areas_of found.held)) c.in_ok-begin.ensures.held
    c.look_again.ensures.change)

pub returns-then-is_err-clause-time : goal.returns-then-is_err-clause-time
returns-then-is_err-clause-time g c =
    elapses_by c.args.self.now.account.past.value c.begin.new.self.past.value
    c.fault.new.self.past.value c.args.self.now.account.state c.fault.new.self.state
    c.in_ok-begin.ensures.gone
    (ap (λ p. p.value) (c.fault.ensures.past ∙ c.look_again.ensures.past))

pub returns-clause-written : goal.returns-clause-written
returns-clause-written g c =
    let held = areas_of c.args.self.now.account.state.held in
    changed_to c.args.area c.args.at c.args.bytes.now held (areas_of c.write.new.self.held)
    (written_from c.args.area c.args.at c.args.bytes.now held (areas_of c.begin.new.self.state.held)
    (areas_of c.write.new.self.held) c.in_ok-begin.ensures.held c.write.ensures.held)

pub returns-clause-time : goal.returns-clause-time
returns-clause-time g c = c.in_ok-begin.ensures.gone c.write.new.self

pub returns-in_err-begin-clause-cause : goal.returns-in_err-begin-clause-cause
returns-in_err-begin-clause-cause g c =
    err_cause c.in_err-begin.ensures.cause c.from_residual.ensures.0

pub returns-then-is_err-clause-cause : goal.returns-then-is_err-clause-cause
returns-then-is_err-clause-cause g c =
    counted_cause (c.look_again.ensures.failures
    ∙ c.in_ok-begin.ensures.cause.fine false≢true) c.fault.ensures.counted tt refl

pub returns-clause-cause : goal.returns-clause-cause
returns-clause-cause g c =
    c.in_ok-begin.ensures.cause
