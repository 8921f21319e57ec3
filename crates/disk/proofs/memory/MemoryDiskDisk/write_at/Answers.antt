use Rattle.std.proofs.Common.{◌≡◌, ◌∙◌, ◌↔◌, ap, length, subst, sym, arith, refl}
use Rattle.std.proofs.lemmas.Bool.{false≢true}
use Rattle.std.proofs.lemmas.Result.{err_from_is_err_and}
use Rattle.disk.specs.Areas.{Areas, Changes, Torn}
use Rattle.disk.specs.Crashes.{Elapses, Follows, Reaches}
use Rattle.disk.specs.Record.{areas_of, leaves, left_since, moments, Passes}
use Rattle.disk.specs.declared.account.Account.{Account}
use Rattle.disk.specs.declared.state.State.{State}
use Rattle.disk.proofs.Times.{elapses_by, elapses_same, elapses_then}
use Rattle.disk.proofs.Torn.{alike_leaves, changed_by_write, changed_none, changed_to}
use Rattle.disk.proofs.Torn.{follows_alike, follows_set, risk_left, same_alike, set_leaves}
use Rattle.disk.proofs.Torn.{set_reaches, written_from}
use Rattle.disk.proofs.Causes.{counted_cause, device_no_memory, err_cause, later_cause}
use Rattle.disk.proofs.Causes.{memory_no_device, ok_no_err}
use Rattle.disk.proofs.memory.MemoryDiskDisk.write_at.Goals as goal

-- the device fails

pub returns-in_err-risk : goal.returns-in_err-risk
returns-in_err-risk c =
    let p = err_from_is_err_and c.from_residual.result c.from_residual.ensures.1 in
    let s = c.args.self.now.account.state in
    let new = c.risk.new.self in
    let noted = c.in_err-risk.ensures in
    let same = ap areas_of c.risk.ensures.held in
    rw (p.1, p.2) (record {
      written = tt;
      failed = changed_none c.args.area c.args.at (length c.args.bytes.now) (areas_of s.held)
          (areas_of new.state.held) same;
      kept = same;
      crash = c.risk.ensures.risks.crash;
      torn = tt;
      torn_too = λ is. absurd (memory_no_device noted.memory is);
      refused = λ _. (same, noted.risks.refused);
      time = elapses_then c.args.self.now.account.past.value new.past.value s new.state
          c.risk.ensures.time;
      cause = err_cause noted.cause refl;
      plan = record { fails = λ _. refl; next = c.falters.ensures.next };
    })

pub returns-then-falters : goal.returns-then-falters
returns-then-falters c =
    let old = c.args.self.now.account in
    let mid = c.risk.new.self in
    let new = c.fault.new.self in
    let stays = c.fault.ensures.state in
    let same = ap areas_of (ap (λ s. s.held) stays ∙ c.risk.ensures.held) in
    record {
      written = tt;
      failed = changed_none c.args.area c.args.at (length c.args.bytes.now)
          (areas_of old.state.held) (areas_of new.state.held) same;
      kept = same;
      crash = λ x left. c.risk.ensures.risks.crash x (subst (λ (s : State). leaves s x) stays left);
      torn = tt;
      torn_too = λ is d x left torn. subst (λ (s : State). leaves s x) (sym stays)
          (risk_left mid.state x (c.in_ok-risk.ensures.risks.torn d x left torn));
      refused = λ is. absurd (device_no_memory c.fault.ensures.same is);
      time = elapses_by old.past.value mid.past.value new.past.value old.state new.state
          (λ s'. elapses_then old.past.value mid.past.value old.state s' c.risk.ensures.time)
          (ap (λ p. p.value) c.fault.ensures.past);
      cause = counted_cause (c.in_ok-risk.ensures.cause.fine false≢true) c.fault.ensures.counted tt
          refl;
      plan = record { fails = λ _. refl; next = c.falters.ensures.next };
    }

-- there is no memory for what is replaced

pub returns-then-is_err : goal.returns-then-is_err
returns-then-is_err c =
    let old = c.args.self.now.account in
    let fault = c.fault-then-is_err.ensures in
    let new = c.fault-then-is_err.new.self in
    let stays = fault.state ∙ ap (λ a. a.state) c.keep.ensures.account in
    let same = ap (λ x. areas_of x.held) stays in
    let n = length c.args.bytes.now in
    let alike = same_alike old.state new.state stays in
    record {
      written = tt;
      failed = changed_none c.args.area c.args.at n (areas_of old.state.held)
          (areas_of new.state.held) same;
      kept = same;
      crash = follows_alike c.args.area c.args.at n old.state new.state alike;
      torn = tt;
      torn_too = λ is. absurd (memory_no_device fault.same is);
      refused = λ _. (same, alike_leaves old.state new.state alike);
      time = elapses_same old.past.value new.past.value old.state new.state
          (ap (λ p. p.value) (fault.past ∙ ap (λ a. a.past) c.keep.ensures.account)) stays;
      cause = counted_cause (ap (λ a. a.failures) c.keep.ensures.account) fault.counted tt refl;
      plan = record {
        fails = λ _. refl;
        next = c.keep.ensures.plan ∙ c.falters.ensures.next;
      };
    }

-- there is no memory for the record

pub returns-in_err-begin : goal.returns-in_err-begin
returns-in_err-begin c =
    let exit = c.from_residual-in_err-begin in
    let p = err_from_is_err_and exit.result exit.ensures.1 in
    let s = c.args.self.now.account.state in
    let new = c.begin.new.self in
    let begun = c.in_err-begin.ensures in
    let n = length c.args.bytes.now in
    let same = c.begin.ensures.held ∙ ap (λ a. areas_of a.state.held) c.keep.ensures.account in
    let Crash : Account → Type 0 = λ a. Follows (Changes c.args.area (Torn c.args.at n))
    (leaves a.state) (leaves new.state) in
    let Time : Account → Type 0 = λ a. Passes a new in
    let Same : Account → Type 0 = λ a. (x : Areas) → leaves new.state x ↔ leaves a.state x in
    rw (p.1, p.2) (record {
      written = tt;
      failed = changed_none c.args.area c.args.at n (areas_of s.held) (areas_of new.state.held)
          same;
      kept = same;
      crash = subst Crash c.keep.ensures.account c.begin.ensures.risks.crash;
      torn = tt;
      torn_too = λ is. absurd (memory_no_device begun.memory is);
      refused = λ _. (same, subst Same c.keep.ensures.account begun.risks.refused);
      time = subst Time c.keep.ensures.account begun.time;
      cause = later_cause (ap (λ a. a.failures) c.keep.ensures.account)
          (err_cause begun.cause refl);
      plan = record {
        fails = λ _. refl;
        next = c.keep.ensures.plan ∙ c.falters.ensures.next;
      };
    })

-- the bytes are written

pub returns : goal.returns
returns c =
    let s = c.args.self.now.account.state in
    let kept = c.keep.new.self.account.state in
    let mid = c.begin.new.self.state in
    let new = c.write.new.self in
    let at = c.args.at in
    let bytes = c.args.bytes.now in
    let n = length bytes in
    let step = Changes c.args.area (Torn at n) in
    let account = c.keep.ensures.account in
    let past = c.begin.new.self.past.value in
    let same : areas_of mid.held ≡ areas_of s.held =
    c.in_ok-begin.ensures.held ∙ ap (λ a. areas_of a.state.held) account in
    let held = written_from c.args.area at bytes (areas_of s.held) (areas_of mid.held)
    (areas_of new.held) same c.write.ensures.held in
    let change = changed_by_write c.args.area at n (areas_of s.held) (areas_of new.held)
    (record { bytes = bytes; within = c.requires; fits = omega arith; held = held }) in
    let Crash : Account → Type 0 = λ a. Follows step (leaves a.state) (leaves mid) in
    let Reach : Account → Type 0 = λ a. Reaches step (leaves a.state) (leaves new) in
    let Time : Account → Type 0 = λ a. Elapses (moments a.past.value) (moments past)
    (left_since a.past.value a.state) (left_since past new) (leaves new) in
    record {
      written = changed_to c.args.area at bytes (areas_of s.held) (areas_of new.held) held;
      failed = tt;
      kept = tt;
      crash = follows_set step s mid new (subst Crash account c.in_ok-begin.ensures.risks.crash)
          (set_leaves mid new c.write.ensures.synced c.write.ensures.ranges) change;
      torn = subst Reach account (set_reaches step kept mid new c.write.ensures.synced
          c.write.ensures.ranges c.in_ok-begin.ensures.risks.torn);
      torn_too = λ is. absurd (ok_no_err is);
      refused = λ is. absurd (ok_no_err is);
      time = subst Time account (c.in_ok-begin.ensures.gone new);
      cause = later_cause (ap (λ a. a.failures) account) c.in_ok-begin.ensures.cause;
      plan = record {
        fails = λ due. sym (sym c.falters.ensures.due ∙ c.if-falters.false) ∙ due;
        next = c.keep.ensures.plan ∙ c.falters.ensures.next;
      };
    }
