use Rattle.std.proofs.Common.{Err, Ok, arith, inr, subst, ◌∙◌}
use Rattle.c_handles.specs.Collecting.{HasUnswept}
use Rattle.c_handles.proofs.Handles.{IsDue, begins}
use Rattle.c_handles.proofs.collecting.end.Goals as goal

pub returns-in-Ok : goal.returns-in-Ok
returns-in-Ok c =
    let due : IsDue c.args.cycle c.args.cells.now c.is_swept.new.cells = record {
      same = c.is_swept.ensures.same ∙ c.is_unsaved.ensures.same;
      some = omega (
        arith,
        c.requires.all,
        c.requires.some,
        c.is_unsaved.ensures.width,
        c.is_swept.ensures.width,
      );
      saved = c.if-is_unsaved.ensures.says;
      unswept = subst (HasUnswept c.args.cycle) c.is_unsaved.ensures.same
          c.if-is_swept.ensures.says;
    } in
    inr (begins due c.index-cells-0.result c.act.new.self (Ok c.in-Ok.field-0) c.in-Ok.ensures)

pub returns-in-Err : goal.returns-in-Err
returns-in-Err c =
    let due : IsDue c.args.cycle c.args.cells.now c.is_swept.new.cells = record {
      same = c.is_swept.ensures.same ∙ c.is_unsaved.ensures.same;
      some = omega (
        arith,
        c.requires.all,
        c.requires.some,
        c.is_unsaved.ensures.width,
        c.is_swept.ensures.width,
      );
      saved = c.if-is_unsaved.ensures.says;
      unswept = subst (HasUnswept c.args.cycle) c.is_unsaved.ensures.same
          c.if-is_swept.ensures.says;
    } in
    begins due c.index-cells-0.result c.act.new.self (Err c.in-Err.fault) c.in-Err.ensures
