use Rattle.std.proofs.Common.{◌≡◌, ◌<◌, ◌∙◌, ℕ, None, Some, ap, arith, get_or, length, refl, subst, sym}
use Rattle.std.specs.Prelude.{slice_get, slice_set}
use Rattle.std.proofs.lemmas.List.{set-get_or}
use Rattle.wire.proofs.NewWires.{there}
use Rattle.c_handles.specs.Opening.{Seat}
use Rattle.c_handles.proofs.space.SeatedSpace.cell.Goals as goal
use Rattle.c_handles.proofs.space.SeatedSpace.cell.Goals.{After-from}

-- the node has a place among the cells
inside : (c : After-from) → c.from.result < length c.args.self.now.cells.items
inside c =
    let old = c.args.self.now in
    omega (
      arith,
      c.from.ensures,
      c.if-node-nodes.false,
      c.nodes.ensures.value,
      old.seated,
      old.cells.ok.0,
    )

pub returns-in-Some : goal.returns-in-Some
returns-in-Some c =
    let old = c.args.self.now in
    let place = c.from.result in
    let within = inside (goal.at.returns-in-Some c).After-from in
    let found = there old.cells.items place c.index_mut.result.now within
    c.index_mut.ensures.value in
    record {
      box = c.in-Some.cell;
      is = refl;
      there = subst (λ (k : ℕ). slice_get old.cells.items k ≡ Some (Some c.in-Some.cell))
          c.from.ensures (found ∙ ap Some (sym c.in-Some.ensures.value));
      cells = (λ i. slice_set old.cells.items (c.from.ensures i) (c.in-Some.ensures.after i));
      sizes = record { shape = refl; watches = refl; open_still = refl };
      images = refl;
      watching = refl;
    }

pub returns-in-None : goal.returns-in-None
returns-in-None c =
    let old = c.args.self.now in
    let place = c.from.result in
    let within = inside (goal.at.returns-in-None c).After-from in
    let was = c.index_mut.result.now in
    let found = there old.cells.items place was within c.index_mut.ensures.value in
    let none : None ≡ was = c.in-None.ensures.value in
    let same : c.take.new.self ≡ get_or old.cells.items place was =
    c.in-None.ensures.after ∙ none ∙ c.index_mut.ensures.value in
    record {
      none = subst (λ (k : ℕ). slice_get old.cells.items k ≡ Some None) c.from.ensures
          (found ∙ ap Some (sym none));
      still = ap (λ (x : Seat). slice_set old.cells.items place x) same
          ∙ set-get_or old.cells.items place was;
      sizes = record { shape = refl; watches = refl; open_still = refl };
      images = refl;
      watching = refl;
    }
