use Rattle.std.proofs.Common.{rules, ◌+◌, ◌*◌, ◌<◌, refl, sym, ◌∙◌, subst, subst₂, arith}
use Rattle.wire.proofs.Numbers.{box-of, in-words, own-from, a-node}
use Rattle.wire.specs.Plays.{IsSupplied}
use Rattle.wire.specs.Seated.{Sits}
use Rattle.wire.proofs.Sitting.{fresh-minds, sits-claimed}
use Rattle.wire.proofs.Room.{room-for}
use Rattle.wire.proofs.Supplying.{still-supplied}
use Rattle.wire.proofs.MailPlays.{claims_allowed}
use Rattle.wire.proofs.seats.Wire.claim.Goals as goal

pub compare_exchange-found-requires : goal.compare_exchange-found-requires
compare_exchange-found-requires c =
    let w = c.args.self.now in
    let s = c.args.seat.now in
    let to_is : c.from.result < s.nodes = search rules in
    let box = box-of s.node c.from.result s.nodes s.sits.within to_is
    (c.requires.wire.1 ∙ sym w.opening) refl in (
      c.requires.wire.0,
      in-words box.below w.opening w.words,
      claims_allowed s.seat.id s.seat.me box.below
          (a-node _ s.sits.role) (sym s.sits.me_is ∙ box.sender),
    )

pub hold-requires : goal.hold-requires
hold-requires c =
    let s = c.args.seat.now in
    let at = s.node * s.nodes + c.from.result in
    let to_is : c.from.result < s.nodes = search rules in
    let told = c.compare_exchange-found.ensures.2.0 c.if-found-ne-EMPTY.false in
    let few = room-for at s.sits (s.sits.minded at ∙ fresh-minds at s.seat.me.0 told.4)
    (own-from s.node c.from.result s.nodes s.sits.within to_is) in
    omega (arith, few, s.room, s.held.ok.0)

pub invariant_of-seat-2 : goal.invariant_of-seat-2
invariant_of-seat-2 c =
    let s = c.args.seat.now in
    let to = c.from.result in
    let at = s.node * s.nodes + to in
    let to_is : to < s.nodes = search rules in
    let told = c.compare_exchange-found.ensures.2.0 c.if-found-ne-EMPTY.false in
    record {
      sits = subst₂ (Sits (λ v. v.items) s.node s.nodes) (sym c.hold.ensures.items)
          (λ i. (sym told.2 i, sym told.3 i))
          (sits-claimed at told.0 told.1 s.sits told.4
          (own-from s.node to s.nodes s.sits.within to_is));
      supplied = subst IsSupplied (sym told.2) (still-supplied s.supplied);
      room = search rules;
    }

pub invariant_of-seat-clause-supplied : goal.invariant_of-seat-clause-supplied
invariant_of-seat-clause-supplied c =
    let told = c.compare_exchange-found.ensures.2.1 c.if-found-ne-EMPTY.true in
    subst IsSupplied (sym told.1) (still-supplied c.args.seat.now.supplied)
