use Rattle.std.proofs.Common.{◌+◌, ◌-◌, ◌/◌, arith, length, set}
use Rattle.std.proofs.lemmas.Slice.{put_mid-rotated}
use Rattle.std.proofs.lemmas.List.{length-set}
use Rattle.lineage.specs.Lines.{forgotten, nobody}
use Rattle.lineage.proofs.Lines.{begins-full}
use Rattle.lineage.proofs.begin.Goals as goal

pub returns-clause-begun : goal.returns-clause-begun
returns-clause-begun c =
    let line = c.args.line.now in
    let short = set line (length line / 2) (forgotten line (length line / 2)) in
    let wide = length-set line (length line / 2) (forgotten line (length line / 2)) in
    let big = c.if-line-lt3.false in
    begins-full line _ c.args.count _ c.args.process (omega (arith, big))
    (omega (arith, c.if-count-line.false))
    (put_mid-rotated (length line / 2 + 1) (length short - (length line / 2 + 1)) short _ nobody
    (omega (arith, wide, big)) (omega arith)
    c.rotate_left.ensures.after)
