use Rattle.std.proofs.Common.{◌∙◌, ap, sym, arith, drop}
use Rattle.std.proofs.lemmas.Bool.{false≢true}
use Rattle.disk.specs.Areas.{part}
use Rattle.disk_shelf.proofs.Records.{length_again, recorded_short, told_read, untold_none, whole_behind}
use Rattle.disk_shelf.proofs.save.told_length.Goals as goal

pub returns-then-not-branch-clause-none : goal.returns-then-not-branch-clause-none
returns-then-not-branch-clause-none g c bad =
    let whole = whole_behind c.args.at 0 c.args.at (omega arith) (omega arith)
    c.in_ok-read_whole.ensures.whole in
    recorded_short _ (whole.short c.if-not-branch.true)

pub returns-then-not-branch-2-clause-untold : goal.returns-then-not-branch-2-clause-untold
returns-then-not-branch-2-clause-untold g c bad says =
    let whole = whole_behind c.args.at 0 c.args.at (omega arith) (omega arith)
    c.in_ok-read_whole.ensures.whole in
    let is = told_read _ c.read_whole.new.into (whole.bytes c.if-not-branch.false)
    ∙ sym c.from_be_bytes-len.ensures in
    let same = ap (λ d. drop c.args.at (part c.args.area d)) c.read_whole.ensures.quiet.same in
    let all = c.in_ok-may_have.ensures.exact.1 (length_again is (sym same) says.1) in
    false≢true (sym c.if-not-branch-2.true ∙ all)

pub returns-then-not-branch-2-clause-none : goal.returns-then-not-branch-2-clause-none
returns-then-not-branch-2-clause-none g c bad =
    untold_none _ (returns-then-not-branch-2-clause-untold g c bad)

pub returns-clause-told : goal.returns-clause-told
returns-clause-told g c =
    let whole = whole_behind c.args.at 0 c.args.at (omega arith) (omega arith)
    c.in_ok-read_whole.ensures.whole in
    told_read _ c.read_whole.new.into (whole.bytes c.if-not-branch.false)
    ∙ sym c.from_be_bytes-len.ensures

pub returns-clause-tells : goal.returns-clause-tells
returns-clause-tells g c =
    let whole = whole_behind c.args.at 0 c.args.at (omega arith) (omega arith)
    c.in_ok-read_whole.ensures.whole in
    let same = ap (λ d. drop c.args.at (part c.args.area d)) c.read_whole.ensures.quiet.same in
    let is = c.in_ok-may_have.ensures.exact.0 c.if-not-branch-2.false in (
      omega (arith, whole.enough c.if-not-branch.false),
      length_again (sym (returns-clause-told g c)) same is,
    )
