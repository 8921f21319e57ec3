use Rattle.std.proofs.Common.{arith, get_or, sym, take, ◌-◌, ◌∙◌}
use Rattle.std.proofs.lemmas.Bool.{cond-false, cond-true, le-leb, lt-leb}
use Rattle.lineage.specs.Lines.{maker, nobody}
use Rattle.lineage.proofs.Lines.{maker-back}
use Rattle.lineage.proofs.maker.Goals as goal

pub returns-then-line-at : goal.returns-then-line-at
returns-then-line-at c =
    let line = c.args.line.now in
    let a = get_or line (c.loop-at.at - 1) nobody in
    sym (cond-true _ a.nonce (maker (take (c.loop-at.at - 1) line) c.args.save)
    (le-leb a.run c.args.save c.if-line-at.true))
    ∙ sym (maker-back line c.loop-at.at c.args.save c.loop-at-test.true c.loop-at.invariant.0)
    ∙ c.loop-at.invariant.1

pub loop-at-preserved : goal.loop-at-preserved
loop-at-preserved c =
    let line = c.args.line.now in
    let a = get_or line (c.loop-at.at - 1) nobody in
    let few = c.loop-at.invariant.0 in (
      omega (arith, few),
      sym (cond-false _ a.nonce (maker (take (c.loop-at.at - 1) line) c.args.save)
          (lt-leb a.run c.args.save c.if-line-at.false))
          ∙ sym (maker-back line c.loop-at.at c.args.save c.loop-at-test.true few)
          ∙ c.loop-at.invariant.1,
    )
