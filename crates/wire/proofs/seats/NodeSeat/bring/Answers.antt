use Rattle.std.proofs.Common.{rules, ◌<◌, ℕ, List, ◌∷◌, drop, sym, ap, ◌∙◌, subst, subst₂}
use Rattle.wire.specs.Plays.{IsSupplied}
use Rattle.wire.specs.Seated.{Sits}
use Rattle.wire.proofs.Sitting.{before, nearer-held, headed, sits-turned, in-front}
use Rattle.wire.proofs.seats.NodeSeat.bring.Goals as goal

pub invariant_of-self : goal.invariant_of-self
invariant_of-self c = record {
  sits = subst₂ (Sits (λ v. v.items) c.loop-self.self.node c.loop-self.self.nodes)
      (sym c.rotate_left.ensures.items) (sym c.turn.ensures.2)
      (sits-turned c.loop-self.self.sits);
  supplied = subst (λ m. IsSupplied m.0) (sym c.turn.ensures.2) c.loop-self.self.supplied;
  room = search rules;
}

pub loop-self-smaller : goal.loop-self-smaller
loop-self-smaller c =
    let near = nearer-held c.args.at c.index.result.now c.loop-self.self.held.items
    c.loop-self.invariant.0
    (λ e. c.loop-self-test.true (c.index.ensures ∙ e)) in
    subst
    (λ (l : List ℕ). before c.args.at l < before c.args.at c.loop-self.self.held.items)
    (sym c.rotate_left.ensures.items) near.1

pub returns-clause-front : goal.returns-clause-front
returns-clause-front c =
    let held = c.loop-self.self.held.items in
    in-front c.args.at (drop 1 held) c.loop-self.self.sits
    (headed c.args.at c.index.result.now held c.loop-self.invariant.0
    ∙ ap (λ (k : ℕ). k ∷ drop 1 held) (sym c.index.ensures ∙ c.loop-self-test.false))
