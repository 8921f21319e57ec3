use Rattle.std.proofs.Common.{rules, ◌≡◌, max, sym, subst}
use Rattle.wire.specs.Plays.{WasEnded}
use Rattle.wire.specs.Readers.{heard, raised_cycle, watch_opening}
use Rattle.wire.proofs.Ended.{greater-ended}
use Rattle.wire.proofs.seats.Watch.hear.Goals as goal

pub invariant_of-self : goal.invariant_of-self
invariant_of-self c =
    let watch = c.args.self.now in
    let raised = c.args.raised.now in
    let is : c.max-self.result.number ≡ max (heard watch) (raised_cycle raised) = search rules in
    record {
      watches = watch.watches;
      loaded = watch.loaded;
      told = subst (WasEnded (watch_opening watch)) (sym is)
          (greater-ended (watch_opening watch) (heard watch) (raised_cycle raised) watch.told
          (subst (λ o. WasEnded o (raised_cycle raised)) c.requires.wire.1 raised.ended));
    }
