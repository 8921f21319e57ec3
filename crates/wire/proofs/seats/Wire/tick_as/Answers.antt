use Rattle.std.proofs.Common.{ℕ, ◌*◌, ◌+◌, ◌<◌, sym, ap, subst, arith, refl}
use Rattle.wire.proofs.Numbers.{a-node}
use Rattle.wire.specs.Seated.{Sits}
use Rattle.wire.proofs.Sitting.{sits-still}
use Rattle.wire.proofs.CountSteps.{ticks_allowed}
use Rattle.wire.proofs.seats.Wire.tick_as.Goals as goal

pub fetch_add-requires : goal.fetch_add-requires
fetch_add-requires g c =
    let w = c.args.self.now in
    let s = c.args.seat.now in (
      c.requires.wire.0,
      subst (λ (k : ℕ). w.nodes * w.nodes < k) (sym w.words)
          (let less : w.nodes * w.nodes < w.nodes * w.nodes + 2 = omega arith in less),
      ticks_allowed s.seat.id s.seat.me g.H.Happening.event
          g.H.Happening.pair (ap (λ (k : ℕ). k * k) (sym w.opening)) (a-node _ s.sits.role)
          c.requires.event,
    )

pub invariant_of-seat-clause-sits : goal.invariant_of-seat-clause-sits
invariant_of-seat-clause-sits g c =
    let s = c.args.seat.now in
    let told = c.fetch_add.ensures.2 in
    subst (Sits (λ v. v.items) s.node s.nodes s.held.items)
    (λ i. (sym told.0 i, sym told.1 i)) (sits-still s.sits)

pub returns : goal.returns
returns g c =
    let told = c.fetch_add.ensures in
    record {
      same = (told.0, told.1, refl, refl, ap (λ v. v.opening) told.2.0);
      ticked = told.2.0;
      entered = (c.fetch_add.result, told.2.2);
    }

pub invariant_of-seat-clause-supplied : goal.invariant_of-seat-clause-supplied
invariant_of-seat-clause-supplied g c = ∣ c.fetch_add.ensures.2.3 ∣₁
