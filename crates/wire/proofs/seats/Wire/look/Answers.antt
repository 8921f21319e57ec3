use Rattle.std.proofs.Common.{ℕ, ◌*◌, ◌+◌, ◌<◌, sym, ap, subst, arith}
use Rattle.wire.proofs.Numbers.{a-watch}
use Rattle.wire.proofs.BoardSteps.{looks_allowed}
use Rattle.wire.specs.Views.{Known}
use Rattle.wire.specs.Plays.{WasEnded}
use Rattle.wire.specs.Seated.{IsWatching}
use Rattle.wire.specs.Readers.{watch_opening}
use Rattle.wire.proofs.seats.Wire.look.Goals as goal
use Rattle.wire.proofs.seats.Wire.look.Goals.{then-number-watch, else-number-watch}

pub load-number-requires : goal.load-number-requires
load-number-requires c =
    let w = c.args.self.now in
    let x = c.args.watch.now in (
      c.requires.wire.0,
      subst (λ (k : ℕ). w.nodes * w.nodes + 1 < k) (sym w.words)
          (let less : w.nodes * w.nodes + 1 < w.nodes * w.nodes + 2 = omega arith in less),
      looks_allowed x.seat.id x.seat.me
          (ap (λ (k : ℕ). k * k + 1) (sym w.opening)) (a-watch _ x.watches),
    )

pub invariant_of-watch : goal.invariant_of-watch
invariant_of-watch c =
    let x = c.args.watch.now in
    let told = c.load-number.ensures.2 in
    record {
      watches = subst (λ (v : Known). IsWatching v.role) (sym told.0) x.watches;
      loaded = subst (λ (v : Known). WasEnded v.opening v.number) (sym told.0) ∣ told.4 ∣₁;
      told = subst (λ (v : Known). WasEnded v.opening x.heard.number) (sym told.0) x.told;
    }

pub returns-clause-was_ended : goal.returns-clause-was_ended
returns-clause-was_ended c =
    let x = c.args.watch.now in
    let opening = watch_opening x in
    elim c.if-number-watch.branch as (λ _. WasEnded opening c.if-number-watch.result.0) [
      | then-number-watch w ↦ subst (λ (y : ℕ × Unit {0}). WasEnded opening y.0)
          (sym w.result-is) x.told
      | else-number-watch w ↦ subst (λ (y : ℕ × Unit {0}). WasEnded opening y.0)
          (sym w.result-is) ∣ c.load-number.ensures.2.4 ∣₁
    ]
