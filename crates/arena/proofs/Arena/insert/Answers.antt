use Rattle.std.proofs.Common.{sym, ◌∙◌}
use Rattle.arena.proofs.Chains.{adds}
use Rattle.arena.proofs.Arena.insert.Goals as goal

pub invariant_of-self : goal.invariant_of-self
invariant_of-self g c =
    let room = rw (← c.self.view_is) at (sym c.is_full.ensures ∙ c.if-is_full.false) in
    let a = adds c.self.invariant c.args.value c.if-self-gt0.false room in
    rw (c.in-Ok.ensures.done) a.linked

pub returns-in-Ok-clause-key : goal.returns-in-Ok-clause-key
returns-in-Ok-clause-key g c =
    let room = rw (← c.self.view_is) at (sym c.is_full.ensures ∙ c.if-is_full.false) in
    let a = adds c.self.invariant c.args.value c.if-self-gt0.false room in
    rw (← c.self.view_is, c.len-high.ensures) a.key

pub returns-in-Ok-clause-within : goal.returns-in-Ok-clause-within
returns-in-Ok-clause-within g c =
    let room = rw (← c.self.view_is) at (sym c.is_full.ensures ∙ c.if-is_full.false) in
    let a = adds c.self.invariant c.args.value c.if-self-gt0.false room in
    rw (← c.self.view_is, c.len-high.ensures) a.within

pub returns-in-Ok-clause-done : goal.returns-in-Ok-clause-done
returns-in-Ok-clause-done g c =
    let room = rw (← c.self.view_is) at (sym c.is_full.ensures ∙ c.if-is_full.false) in
    let a = adds c.self.invariant c.args.value c.if-self-gt0.false room in
    rw (← c.self.view_is, c.in-Ok.ensures.done) a.done
