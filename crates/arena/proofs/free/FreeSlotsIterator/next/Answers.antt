use Rattle.std.proofs.Common.{◌∙◌, sym, ap, length, inr, arith}
use Rattle.arena.proofs.Linking.{comes_next}
use Rattle.arena.proofs.free.FreeSlotsIterator.next.Goals as goal

pub next-self-inside-requires : goal.next-self-inside-requires
next-self-inside-requires g c =
    let es = c.self.inside.entries.now.items in
    let some = c.if-self-eq0.false in
    (comes_next es _ _ c.get.result.now c.self.invariant some c.get.ensures).free

pub invariant_of-self : goal.invariant_of-self
invariant_of-self g c =
    let es = c.self.inside.entries.now.items in
    let some = c.if-self-eq0.false in
    let next = comes_next es _ _ c.get.result.now c.self.invariant some c.get.ensures in
    rw c.next-self-inside.ensures (λ i has. c.self.invariant i (rw next.chained (inr has)))

pub returns-clause-steps : goal.returns-clause-steps
returns-clause-steps g c =
    let es = c.self.inside.entries.now.items in
    let some = c.if-self-eq0.false in
    let next = comes_next es _ _ c.get.result.now c.self.invariant some c.get.ensures in
    rw c.next-self-inside.ensures (sym c.self.view_is ∙ next.chained)

pub returns-clause-goes : goal.returns-clause-goes
returns-clause-goes g c =
    let es = c.self.inside.entries.now.items in
    let some = c.if-self-eq0.false in
    let next = comes_next es _ _ c.get.result.now c.self.invariant some c.get.ensures in
    let chained = sym c.self.view_is ∙ next.chained in
    let after = c.next-self-inside.ensures in
    rw after (record {
      on = λ _. (tt, tt, omega (arith, ap length chained));
      keeps = tt;
      rests = λ _. tt;
    })
