use Rattle.std.proofs.Common.{inl, inr}
use Rattle.wire.specs.Readers.{opened_with}
use Rattle.cell.specs.Closing.{AreOfOneMoment}
use Rattle.trials.specs.Chains.{CanBegin}
use Rattle.trials.proofs.Chained.{by-begin, given}
use Rattle.trials.proofs.once.visit.Goals as goal

pub returns : goal.returns
returns g c = λ begins.
    given (λ v. AreOfOneMoment g.D.Disk.may_leave (opened_with c.in-Ok.opened.wire) v.items)
    (λ v. CanBegin g.D.Disk.seen g.D.Disk.may_leave c.args.config.now.shape v.items)
    c.in-Ok-serve.served.closed c.given_out.result (λ x. x.disks)
    c.given_out.ensures.none c.given_out.ensures.disks
    (λ v once. inr (inl (record {
      opening = opened_with c.in-Ok.opened.wire;
      reached = by-begin c.in-Ok.ensures.fresh c.in-Ok.ensures.closed c.in-Ok.ensures.killed
          begins;
      width = c.in-Ok.ensures.width;
      once = once;
    })))
    c.in-Ok-serve.ensures.once
