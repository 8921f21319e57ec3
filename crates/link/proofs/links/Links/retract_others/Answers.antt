use Rattle.std.proofs.Common.{◌≡◌, ◌+◌, ◌-◌, ◌==◌, true, false, length, ap, ◌∙◌, arith}
use Rattle.std.proofs.lemmas.Bool.Decides.{nat_tests}
use Rattle.std.proofs.lemmas.List.{length-set}
use Rattle.model.specs.View.{retracted}
use Rattle.link.specs.Links.{LinksView, link_at, announced_below, retracted_to}
use Rattle.link.proofs.Announcing.{retracted-announced, announced-own}
use Rattle.link.proofs.links.Links.retract_others.Goals as goal

pub loop-left-preserved-then-left-own : goal.loop-left-preserved-then-left-own
loop-left-preserved-then-left-own c =
    let loop = c.loop-left in
    let own = c.args.own in
    let n = loop.left - 1 in
    let count : loop.left ≡ n + 1 = omega arith in
    let differs : (n == own) ≡ false = grind (arith, nat_tests) in
    let done = c.retract.ensures.done in
    let width = ap (λ (w : LinksView). length w.links) done in
    let same = length-set loop.self.links n (retracted (link_at loop.self n)) in
    record {
      within = omega (arith, width, same);
      back = λ v x sound e.
          done
          ∙ ap (λ (w : LinksView). retracted_to w n)
          (loop.invariant.back v x sound e ∙ ap (announced_below v own x) count)
          ∙ retracted-announced v own n x sound differs;
    }

pub loop-left-preserved : goal.loop-left-preserved
loop-left-preserved c =
    let loop = c.loop-left in
    let own = c.args.own in
    let n = loop.left - 1 in
    let count : loop.left ≡ n + 1 = omega arith in
    let same : (n == own) ≡ true = grind (arith, nat_tests) in
    record {
      within = omega arith;
      back = λ v x sound e.
          loop.invariant.back v x sound e
          ∙ ap (announced_below v own x) count
          ∙ announced-own v own n x same;
    }
