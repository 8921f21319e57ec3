use Rattle.std.proofs.Common.{◌≡◌, ◌∙◌, IfOk, ap, arith, map, subst, sym}
use Rattle.wire.specs.Readers.{IsSeatOf}
use Rattle.cell.specs.Cells.{IsSound}
use Rattle.cell.specs.Moments.{EachCell, HaveLearned}
use Rattle.supervisor.specs.Closing.{IsBack, IsRow, IsWhy}
use Rattle.supervisor.proofs.Backs.{AreBack, all-back, back-seats, both-ok, err-then, of-one-moment, written-back}
use Rattle.supervisor.proofs.closing.take_at_once.Goals as goal

pub survey-requires : goal.survey-requires
survey-requires g c =
    subst (λ l. EachCell (λ k x. IsSeatOf c.args.wire.now x.seat) l)
    (sym c.as_mut_slice.ensures.value)
    (back-seats c.args.wire.now g.W.Naming.wire c.requires.named g.W.Naming.begun
    c.in_ok-cells.cells.items
    c.in_ok-cells.ensures.back)

pub returns-clause-once : goal.returns-clause-once
returns-clause-once g c =
    let old = c.in_ok-cells.cells.items in
    let new = c.survey.new.cells in
    let back = written-back c.as_mut_slice.ensures.value c.in_ok-cells.cells.ok.0
    c.survey.ensures.learned.count in
    both-ok _ _ _ c.take_disks.result (λ disks same sound.
    let all : AreBack c.args.wire.now g.D.Disk.may_leave g.W.Naming.wire g.W.Naming.begun old new =
    record {
      named = c.requires.named;
      back = c.in_ok-cells.ensures.back;
      rows = subst (EachCell IsRow) c.as_slice.ensures.value c.in_default.ensures.rows;
      count = omega (arith, c.in_ok-cells.ensures.count, c.requires.wide, c.in_ok-cells.cells.ok);
      learned = subst (λ l. HaveLearned l new) c.as_mut_slice.ensures.value
          c.survey.ensures.learned;
      sound = sound;
      begun = c.requires.begun;
    } in
    of-one-moment all disks.items same c.survey.ensures.at_once)
    (subst (λ l. IfOk c.take_disks.result (λ v. map (λ x. x.disk) l ≡ v.items)) back
    c.take_disks.ensures.disks)
    (subst (λ l. IfOk c.take_disks.result (λ _. EachCell (λ k x. IsSound g.D.Disk.may_leave x) l))
    back c.take_disks.ensures.sound)

pub returns-clause-why : goal.returns-clause-why
returns-clause-why g c =
    err-then c.take_disks.result c.take_disks.ensures.memory (λ u is.
    subst (λ f. IsWhy c.args.nodes f u.cells.items) (sym is) tt)

pub returns-clause-back : goal.returns-clause-back
returns-clause-back g c =
    let old = c.in_ok-cells.cells.items in
    let new = c.survey.new.cells in
    let learned = subst (λ l. HaveLearned l new) c.as_mut_slice.ensures.value
    c.survey.ensures.learned in
    err-then c.take_disks.result c.take_disks.ensures.back (λ u same.
    subst (EachCell (IsBack g.W.Naming.wire g.W.Naming.begun))
    (sym (ap (λ v. v.items) same
    ∙ written-back c.as_mut_slice.ensures.value c.in_ok-cells.cells.ok.0
    c.survey.ensures.learned.count))
    (all-back g.W.Naming.wire g.W.Naming.begun old new learned c.in_ok-cells.ensures.back))
