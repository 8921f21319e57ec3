use Rattle.std.proofs.Common.{rules, ◌≡◌, ℕ, ◌+◌, ◌*◌, ◌<◌, ◌∷◌, drop, refl, sym, ap, ◌∙◌, subst}
use lib.ListN.{get_elem?}
use Rattle.atomic_table.specs.Table.{rest}
use Rattle.wire.specs.Lists.{has, found}
use Rattle.wire.specs.Views.{Known, clears}
use Rattle.wire.specs.Plays.{IsSupplied}
use Rattle.wire.specs.Seated.{Sits}
use Rattle.wire.proofs.Numbers.{box-of, in-words, a-node}
use Rattle.wire.proofs.Sitting.{sits-left, sits-cleared}
use Rattle.wire.proofs.Supplying.{still-supplied}
use Rattle.wire.proofs.MailPlays.{clears_allowed}
use Rattle.wire.proofs.seats.Wire.clear.Goals as goal

pub store-requires : goal.store-requires
store-requires c =
    let w = c.args.self.now in
    let s = c.args.seat.now in
    let at = c.from.result * s.nodes + s.node in
    let from_is : c.from.result < s.nodes = search rules in
    let same : c.from.result ≡ c.args.taken.from = search rules in
    let box = box-of {m = at} c.from.result s.node s.nodes from_is s.sits.within
    (c.requires.wire.1 ∙ sym w.opening) refl in
    let now = c.exchange-bytes.ensures in
    let view_is : c.exchange-bytes.new.seat.me.0 ≡ s.seat.me.0 =
    ap (λ m. m.0) now.3 ∙ c.bring.ensures.known in
    let front = ap (λ m. m.1) now.3 in (
      now.0 ∙ c.bring.ensures.same.0 ∙ c.requires.wire.0,
      in-words box.below w.opening w.words,
      clears_allowed c.exchange-bytes.new.seat.id
          c.exchange-bytes.new.seat.me c.new.result c.requires.taken.2.0
          (ap (λ (v : Known). v.role) view_is ∙ a-node _ s.sits.role)
          (ap (λ (v : Known). found at v.emptying) view_is
          ∙ ap (λ (k : ℕ). found (k * s.nodes + s.node) s.seat.me.0.emptying) same
          ∙ c.requires.taken.2.1)
          (front ∙ (λ i. (at, c.new.result) ∷ sym (ap rest front) i)),
    )

pub invariant_of-seat : goal.invariant_of-seat
invariant_of-seat c =
    let s = c.args.seat.now in
    let b = c.bring.new.self in
    let at = c.from.result * s.nodes + s.node in
    let now = c.exchange-bytes.ensures in
    let told = c.store.ensures.2 in
    let sits = subst (λ o. Sits (λ v. v.items) b.node b.nodes b.held.items (b.seat.me.0, o))
    c.bring.ensures.front.1 b.sits in
    record {
      sits = sits-left
          (sits-cleared at told.0.0 _ sits
          (sym (ap (λ m. has at m.0.filling) now.3) ∙ told.2))
          (ap (drop 1) sits.order ∙ sym c.remove.ensures.items)
          (sym (told.0.1 ∙ ap (λ m. clears at told.0.0 m.0) now.3))
          (sym (told.1 ∙ ap (λ m. rest m.1) now.3));
      supplied = subst IsSupplied (sym told.0.1)
          (still-supplied (subst (λ m. IsSupplied m.0) (sym now.3) b.supplied));
      room = search rules;
    }

pub returns-clause-bytes : goal.returns-clause-bytes
returns-clause-bytes c = λ f there.
    let s = c.args.seat.now in
    let b = c.bring.new.self in
    let at = c.from.result * s.nodes + s.node in
    let same : c.from.result ≡ c.args.taken.from = search rules in
    let now = c.exchange-bytes.ensures in
    b.sits.spells 0 at c.exchange-bytes.result f
    (ap (λ o. get_elem? o 0) now.2)
    (ap (λ (v : Known). found at v.emptying) c.bring.ensures.known
    ∙ ap (λ (k : ℕ). found (k * s.nodes + s.node) s.seat.me.0.emptying) same ∙ there)
