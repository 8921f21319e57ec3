use Rattle.std.proofs.Common.{◌∙◌, inr, map, subst, sym}
use Rattle.std.proofs.lemmas.List.{length-map}
use Rattle.disk.specs.Memory.{held_by, left_by}
use Rattle.wire.specs.Readers.{opened_with}
use Rattle.wire.proofs.Places.{mapped-there}
use Rattle.cell.specs.Closing.{AreOfOneKill}
use Rattle.cell.specs.Moments.{EachCell}
use Rattle.trials.specs.Chains.{CanBegin, IsCellAt}
use Rattle.trials.proofs.Chained.{by-begin, each-made, some-then}
use Rattle.trials.proofs.killed.kill.Goals as goal

pub kill_all-requires-clause-cells : goal.kill_all-requires-clause-cells
kill_all-requires-clause-cells c =
    let cells = c.in-Ok.cells.items in
    subst (EachCell (IsCellAt c.in-Ok.wire)) (sym c.as_mut_slice.ensures.value)
    (each-made c.in-Ok.wire _ _ cells (map (λ x. x.seat) cells) _
    (λ k x there. mapped-there (λ y. y.seat) cells k x there) c.in-Ok.ensures.made
    c.in-Ok.ensures.begun)

pub returns : goal.returns
returns c = λ begins.
    some-then (λ v. AreOfOneKill held_by left_by (opened_with c.in-Ok.wire) v.items)
    (λ v. CanBegin held_by left_by c.args.shape v.items)
    c.kill_all.result
    (λ v kill. inr (inr (record {
      opening = opened_with c.in-Ok.wire;
      reached = by-begin c.in-Ok.ensures.fresh c.in-Ok.ensures.closed c.in-Ok.ensures.killed
          begins;
      width = c.in-Ok.wire.opening ∙ sym c.in-Ok.ensures.made.seat_count
          ∙ length-map c.in-Ok.cells.items (λ x. x.seat) ∙ sym c.in-Ok.cells.ok.0
          ∙ c.in-Ok.ensures.count;
      kill = kill;
    })))
    c.kill_all.ensures
