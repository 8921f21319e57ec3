use Rattle.std.proofs.Common.{ℕ, ◌*◌, ◌+◌, ◌<◌, sym, ap, ◌∙◌, subst, arith, leb-true, refl}
use Rattle.wire.specs.Plays.{HasEnded, IsSupplied}
use Rattle.wire.proofs.Numbers.{a-node}
use Rattle.wire.proofs.BoardSteps.{raises_allowed}
use Rattle.wire.specs.Seated.{Sits}
use Rattle.wire.proofs.Sitting.{sits-still}
use Rattle.wire.proofs.Supplying.{still-supplied}
use Rattle.wire.proofs.seats.Wire.raise.Goals as goal

pub fetch_max-requires : goal.fetch_max-requires
fetch_max-requires c =
    let w = c.args.self.now in
    let s = c.args.seat.now in (
      c.requires.wire.0,
      subst (λ (k : ℕ). w.nodes * w.nodes + 1 < k) (sym w.words)
          (let less : w.nodes * w.nodes + 1 < w.nodes * w.nodes + 2 = omega arith in less),
      raises_allowed s.seat.id c.args.cycle.number s.seat.me
          (ap (λ (k : ℕ). k * k + 1) (sym w.opening)) (a-node _ s.sits.role)
          (sym s.sits.me_is ∙ c.requires.first) c.requires.ended
          (leb-true c.args.cycle.number _ c.args.cycle.fits),
    )

pub invariant_of-seat-clause-supplied : goal.invariant_of-seat-clause-supplied
invariant_of-seat-clause-supplied c =
    subst IsSupplied (sym c.fetch_max.ensures.2.0) (still-supplied c.args.seat.now.supplied)

pub invariant_of-seat-clause-sits : goal.invariant_of-seat-clause-sits
invariant_of-seat-clause-sits c =
    let s = c.args.seat.now in
    let told = c.fetch_max.ensures.2 in
    subst (Sits (λ v. v.items) s.node s.nodes s.held.items)
    (λ i. (sym told.0 i, sym told.1 i)) (sits-still s.sits)

pub returns : goal.returns
returns c =
    let told = c.fetch_max.ensures in
    let opening = ap (λ v. v.opening) told.2.0 in
    let shown = ap (λ s. s.me.0.opening) c.of.ensures ∙ opening in
    record {
      same = (told.0, told.1, refl, refl, opening);
      raised = told.2.0;
      cycle = (
        refl,
        (ap (λ s. s.table_id) c.of.ensures ∙ told.0 ∙ c.requires.wire.0, shown ∙ c.requires.wire.2),
      );
      opening = shown;
      was_ended = ∣ told.2.2 ∣₁;
    }

pub invariant_of-result : goal.invariant_of-result
invariant_of-result c =
    let told = c.fetch_max.ensures.2 in
    let shown = ap (λ s. s.me.0.opening) c.of.ensures ∙ ap (λ v. v.opening) told.0 in
    record { ended = ∣ subst (λ o. HasEnded o c.args.cycle.number) (sym shown) told.2 ∣₁ }
