use Rattle.std.proofs.Common.{rules, ◌≡◌, ℕ, ◌+◌, ◌*◌, ◌/◌, ◌<◌, refl, sym, ap, ◌∙◌, subst, subst₂, arith}
use Rattle.wire.specs.Views.{takes_in}
use Rattle.wire.specs.Plays.{IsSupplied}
use Rattle.wire.specs.Seated.{Sits}
use Rattle.wire.proofs.Numbers.{box-of, in-words, own-to, a-node}
use Rattle.wire.proofs.Sitting.{fresh-minds, sits-took}
use Rattle.wire.proofs.Room.{room-for}
use Rattle.wire.proofs.Supplying.{still-supplied}
use Rattle.wire.proofs.MailPlays.{takes_allowed}
use Rattle.wire.proofs.seats.Wire.take.Goals as goal

pub compare_exchange-found-requires : goal.compare_exchange-found-requires
compare_exchange-found-requires c =
    let w = c.args.self.now in
    let s = c.args.seat.now in
    let from_is : c.from.result < s.nodes = search rules in
    let box = box-of c.from.result s.node s.nodes from_is s.sits.within
    (c.requires.wire.1 ∙ sym w.opening) refl in (
      c.requires.wire.0,
      in-words box.below w.opening w.words,
      takes_allowed s.seat.id s.seat.me box.below
          (a-node _ s.sits.role) (sym s.sits.me_is ∙ box.receiver),
    )

pub hold-requires : goal.hold-requires
hold-requires c =
    let s = c.args.seat.now in
    let at = c.from.result * s.nodes + s.node in
    let from_is : c.from.result < s.nodes = search rules in
    let told = c.compare_exchange-found.ensures.2.0 c.if-found-ne-FULL.false in
    let few = room-for at s.sits (s.sits.minded at ∙ fresh-minds at s.seat.me.0 told.1.4.3)
    (own-to c.from.result s.node s.nodes from_is s.sits.within) in
    omega (arith, few, s.room, s.held.ok.0)

pub invariant_of-seat-2 : goal.invariant_of-seat-2
invariant_of-seat-2 c =
    let s = c.args.seat.now in
    let at = c.from.result * s.nodes + s.node in
    let from_is : c.from.result < s.nodes = search rules in
    let told = c.compare_exchange-found.ensures.2.0 c.if-found-ne-FULL.false in
    record {
      sits = subst₂ (Sits (λ v. v.items) s.node s.nodes) (sym c.hold.ensures.items)
          (λ i. (sym told.1.0.1 i, sym told.1.4.1 i))
          (sits-took at told.1.0.0 told.1.4.0 told.0 s.sits told.1.4.3
          (own-to c.from.result s.node s.nodes from_is s.sits.within) told.1.4.2.1);
      supplied = ∣ told.1.5 ∣₁;
      room = search rules;
    }

pub returns-clause-taken : goal.returns-clause-taken
returns-clause-taken c =
    let s = c.args.seat.now in
    let at = c.from.result * s.nodes + s.node in
    let from_is : c.from.result < s.nodes = search rules in
    let same : c.from.result ≡ c.args.from = search rules in
    let from = c.from.result in
    let box = box-of {k = s.nodes} {m = at} from s.node s.nodes from_is s.sits.within refl refl in
    let told = c.compare_exchange-found.ensures.2.0 c.if-found-ne-FULL.false in
    let new = c.compare_exchange-found.ensures in (
      refl,
      (
        ap (λ z. z.table_id) c.of.ensures ∙ new.0,
        ap (λ z. z.id) c.of.ensures ∙ new.1,
      ),
      (
        told.0,
        told.1.4.2.0,
        told.1.1 ∙ ap (λ (k : ℕ). at / k) (sym s.sits.nodes_is) ∙ sym box.sender ∙ same,
        told.1.2 ∙ sym s.sits.me_is,
        told.1.3,
        (
          told.1.0.0,
          told.1.0.1
              ∙ ap (λ (k : ℕ). takes_in (k * s.nodes + s.node) told.1.0.0 told.0 s.seat.me.0) same,
        ),
      ),
    )

pub invariant_of-seat-clause-supplied : goal.invariant_of-seat-clause-supplied
invariant_of-seat-clause-supplied c =
    let told = c.compare_exchange-found.ensures.2.1 c.if-found-ne-FULL.true in
    subst IsSupplied (sym told.1) (still-supplied c.args.seat.now.supplied)
