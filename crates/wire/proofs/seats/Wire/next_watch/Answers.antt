use Rattle.std.proofs.Common.{ℕ, ◌*◌, ◌+◌, ◌<◌, sym, ap, subst, arith}
use Rattle.wire.specs.Views.{Known}
use Rattle.wire.proofs.DealSteps.{watch_splits}
use Rattle.wire.proofs.seats.Wire.next_watch.Goals as goal

pub split_seat-seat-requires : goal.split_seat-seat-requires
split_seat-seat-requires c =
    let w = c.args.self.now in (
      c.requires.0,
      subst (λ (k : ℕ). 0 < k) (sym w.words)
          (let less : 0 < w.nodes * w.nodes + 2 = omega arith in less),
      watch_splits c.args.dealer.now.id c.args.dealer.now.me.0
          (ap (λ (v : Known). v.role) c.requires.1),
    )
