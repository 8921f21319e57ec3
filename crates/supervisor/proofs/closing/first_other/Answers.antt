use Rattle.std.proofs.Common.{◌≡◌, ℕ, arith, get_or, length, refl, subst}
use Rattle.std.proofs.lemmas.Option.{slice_get_read, slice_get_within}
use Rattle.supervisor.specs.Closing.{IsRow}
use Rattle.supervisor.proofs.Backs.{each-next}
use Rattle.supervisor.proofs.closing.first_other.Goals as goal

pub loop-place-init : goal.loop-place-init
loop-place-init g c = λ k d there below. absurd (omega (arith, below))

pub loop-place-preserved : goal.loop-place-preserved
loop-place-preserved g c =
    each-next IsRow c.args.cells.now c.loop-place.place c.index-cells-from.result
    (subst
    (λ (i : ℕ). c.index-cells-from.result ≡ get_or c.args.cells.now i c.index-cells-from.result)
    c.from.ensures c.index-cells-from.is)
    (c.is_row.ensures.row c.if-not-is_row.false) c.loop-place.invariant

pub returns-then-not-is_row-clause-other : goal.returns-then-not-is_row-clause-other
returns-then-not-is_row-clause-other g c = record {
  cell = c.index-cells-from.result;
  there = slice_get_read c.args.cells.now (length c.args.cells.now) c.loop-place.place
      c.index-cells-from.result refl (omega (arith, c.requires))
      (subst
      (λ (i : ℕ). c.index-cells-from.result ≡ get_or c.args.cells.now i c.index-cells-from.result)
      c.from.ensures c.index-cells-from.is);
  other = c.is_row.ensures.other c.if-not-is_row.true;
  before = c.loop-place.invariant;
}

pub returns : goal.returns
returns g c = record {
  rows = λ k d there.
      c.loop-place.invariant k d there
      (let inside = slice_get_within c.args.cells.now k d there in
      omega (arith, inside, c.requires));
  other = tt;
}
