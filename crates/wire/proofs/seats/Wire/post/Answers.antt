use Rattle.std.proofs.Common.{rules, ◌≡◌, ℕ, ◌+◌, ◌*◌, ◌<◌, ◌∷◌, drop, refl, sym, ap, ◌∙◌, subst, subst₂}
use Rattle.atomic_table.specs.Table.{rest}
use Rattle.wire.specs.Lists.{has, found}
use Rattle.wire.specs.Views.{Known, posts}
use Rattle.wire.specs.Plays.{IsSupplied, Owns}
use Rattle.wire.specs.Seated.{Sits}
use Rattle.wire.proofs.Numbers.{box-of, in-words, a-node}
use Rattle.wire.proofs.Sitting.{sits-left, sits-posted}
use Rattle.wire.proofs.Supplying.{still-supplied}
use Rattle.wire.proofs.MailPlays.{posts_allowed}
use Rattle.wire.proofs.seats.Wire.post.Goals as goal

pub store-requires : goal.store-requires
store-requires c =
    let w = c.args.self.now in
    let s = c.args.seat.now in
    let at = s.node * s.nodes + c.from.result in
    let to_is : c.from.result < s.nodes = search rules in
    let same : c.from.result ≡ c.args.claim.to = search rules in
    let box = box-of {m = at} s.node c.from.result s.nodes s.sits.within to_is
    (c.requires.wire.1 ∙ sym w.opening) refl in
    let now = c.exchange-emptied.ensures in
    let view_is : c.exchange-emptied.new.seat.me.0 ≡ s.seat.me.0 =
    ap (λ m. m.0) now.3 ∙ c.bring.ensures.known in
    let front = ap (λ m. m.1) now.3 in (
      now.0 ∙ c.bring.ensures.same.0 ∙ c.requires.wire.0,
      in-words box.below w.opening w.words,
      posts_allowed c.exchange-emptied.new.seat.id
          c.exchange-emptied.new.seat.me c.args.bytes
          (ap (λ (v : Known). v.role) view_is ∙ a-node _ s.sits.role)
          (ap (λ (v : Known). has at v.filling) view_is
          ∙ ap (λ (k : ℕ). has (s.node * s.nodes + k) s.seat.me.0.filling) same
          ∙ c.requires.claim.2)
          (front ∙ (λ i. (at, c.args.bytes) ∷ sym (ap rest front) i))
          (subst₂ (λ (k : ℕ) (v : Known). Owns (s.node * s.nodes + k) v c.args.bytes.items)
          (sym same) (sym view_is) c.requires.released),
    )

pub invariant_of-seat : goal.invariant_of-seat
invariant_of-seat c =
    let s = c.args.seat.now in
    let b = c.bring.new.self in
    let at = s.node * s.nodes + c.from.result in
    let now = c.exchange-emptied.ensures in
    let told = c.store.ensures.2 in
    let sits = subst (λ o. Sits (λ v. v.items) b.node b.nodes b.held.items (b.seat.me.0, o))
    c.bring.ensures.front.1 b.sits in
    record {
      sits = sits-left
          (sits-posted at told.1.0.0 told.0 _ sits
          (sym (ap (λ m. found at m.0.emptying) now.3) ∙ told.1.2))
          (ap (drop 1) sits.order ∙ sym c.remove.ensures.items)
          (sym (told.1.0.1 ∙ ap (λ m. posts at told.1.0.0 told.0 m.0) now.3))
          (sym (told.1.1 ∙ ap (λ m. rest m.1) now.3));
      supplied = subst IsSupplied (sym told.1.0.1)
          (still-supplied (subst (λ m. IsSupplied m.0) (sym now.3) b.supplied));
      room = search rules;
    }
