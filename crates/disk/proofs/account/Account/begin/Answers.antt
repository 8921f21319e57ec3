use Rattle.std.proofs.Common.{ap, refl}
use Rattle.std.proofs.lemmas.Result.{on_err_weaker, on_ok_weaker}
use Rattle.disk.specs.Record.{left_since, leaves}
use Rattle.disk.proofs.Causes.{counted_cause}
use Rattle.disk.proofs.Times.{elapses_alike, elapses_from, elapses_then}
use Rattle.disk.proofs.Torn.{Alike, alike_after, alike_leaves, follows_alike, risks_from}
use Rattle.disk.proofs.account.Account.begin.Goals as goal
use Rattle.disk.proofs.account.Account.begin.Goals.{After-reserve}

-- room was made, and nothing else
roomy : (c : After-reserve) → Alike c.args.self.now.state c.reserve.new.self
roomy c = record {
  held = c.reserve.ensures.held;
  synced = c.reserve.ensures.synced;
  ranges = ap (λ r. r.items) c.reserve.ensures.ranges;
}

pub returns-then-is_err-clause-risks : goal.returns-then-is_err-clause-risks
returns-then-is_err-clause-risks c =
    let s = c.args.self.now.state in
    let new = c.fault.new.self.state in
    let alike = alike_after s c.reserve.new.self new
    (roomy (goal.at.returns-then-is_err-clause-risks c).After-reserve) c.fault.ensures.state in
    record {
      crash = follows_alike c.args.area c.args.at c.args.len s new alike;
      torn = tt;
      refused = alike_leaves s new alike;
    }

pub returns-then-is_err-clause-time : goal.returns-then-is_err-clause-time
returns-then-is_err-clause-time c =
    let s = c.args.self.now.state in
    let mid = roomy (goal.at.returns-then-is_err-clause-time c).After-reserve in
    elapses_alike c.args.self.now.past.value c.fault.new.self.past.value s c.fault.new.self.state
    (ap (λ p. p.value) c.fault.ensures.past)
    (alike_after s c.reserve.new.self c.fault.new.self.state mid c.fault.ensures.state)

pub returns-clause-risks : goal.returns-clause-risks
returns-clause-risks c =
    risks_from (roomy (goal.at.returns-clause-risks c).After-reserve) c.risk.ensures.risks

pub returns-clause-gone : goal.returns-clause-gone
returns-clause-gone c =
    let past = c.args.self.now.past.value in
    let mid = roomy (goal.at.returns-clause-gone c).After-reserve in
    on_ok_weaker c.risk.result
    (λ _ s'. elapses_from past c.risk.new.self.past.value c.args.self.now.state c.reserve.new.self
    (left_since c.risk.new.self.past.value s') (leaves s') mid
    (elapses_then past c.risk.new.self.past.value c.reserve.new.self s' c.risk.ensures.time))
    c.risk.ensures.risks.torn

pub returns-clause-time : goal.returns-clause-time
returns-clause-time c =
    let past = c.args.self.now.past.value in
    let s' = c.risk.new.self.state in
    let mid = roomy (goal.at.returns-clause-time c).After-reserve in
    on_err_weaker c.risk.result
    (λ _. elapses_from past c.risk.new.self.past.value c.args.self.now.state c.reserve.new.self
    (left_since c.risk.new.self.past.value s') (leaves s') mid
    (elapses_then past c.risk.new.self.past.value c.reserve.new.self s' c.risk.ensures.time))
    c.risk.ensures.risks.refused

pub returns-then-is_err-clause-cause : goal.returns-then-is_err-clause-cause
returns-then-is_err-clause-cause c =
    counted_cause refl c.fault.ensures.counted tt refl

pub returns-clause-cause : goal.returns-clause-cause
returns-clause-cause c = c.risk.ensures.cause
