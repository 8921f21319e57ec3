use Rattle.std.proofs.Common.{◌<◌, ◌&&◌, Bool, length, drop, ◌+◌, ap, sym, ◌∙◌, arith}
use Rattle.node.specs.Parts.{are_whole}
use Rattle.node.proofs.Restorable.{whole-next}
use Rattle.node.proofs.node_core.parts.home.are_whole.Goals as goal

pub loop-number-preserved : goal.loop-number-preserved
loop-number-preserved c =
    let ls = c.args.letters.now.items in
    let k = c.loop-number.number in
    let inside : k < length ls =
    omega (arith, c.loop-number-test.true, c.loop-number.invariant.count)
    in
    record {
      count = c.loop-number.invariant.count;
      left = sym (whole-next ls k inside
          ∙ ap (λ (b : Bool). b && are_whole (drop (k + 1) ls))
          (sym c.is_whole.ensures ∙ c.if-not-is_whole.false))
          ∙ c.loop-number.invariant.left;
    }

pub returns-then-not-is_whole : goal.returns-then-not-is_whole
returns-then-not-is_whole c =
    let ls = c.args.letters.now.items in
    let k = c.loop-number.number in
    let inside : k < length ls =
    omega (arith, c.loop-number-test.true, c.loop-number.invariant.count)
    in
    sym (sym c.loop-number.invariant.left
    ∙ whole-next ls k inside
    ∙ ap (λ (b : Bool). b && are_whole (drop (k + 1) ls))
    (sym c.is_whole.ensures ∙ c.if-not-is_whole.true))
