use Rattle.std.proofs.Common.{◌≡◌, ◌∙◌, List, Some, None, ap, arith, refl, subst, sym, ℕ}
use Rattle.std.proofs.lemmas.Result.{err_from_is_err_and}
use Rattle.std.specs.Option.{option_map}
use Rattle.disk_shelf.specs.Shelf.{recorded}
use Rattle.c_handles.proofs.Batches.{IsLeft, left_bad, left_next, left_nowhere}
use Rattle.c_handles.proofs.lone.reopening.redo_all.Goals as goal

pub returns-in_default-clause-refused : goal.returns-in_default-clause-refused
returns-in_default-clause-refused c = λ other.
    let none : recorded c.loop-rest.rest.now ≡ None =
    sym c.first_batch.ensures.found ∙ ap (option_map (λ b. b.now)) c.in_default.is in (
      refl,
      λ last led. left_bad c.loop-rest.invariant.1 (omega (arith, c.loop-rest-test.true)) none last
          led,
    )

pub returns-in_err-redo-clause-refused : goal.returns-in_err-redo-clause-refused
returns-in_err-redo-clause-refused c =
    let found : recorded c.loop-rest.rest.now ≡ Some c.in-Some.batch.now =
    sym c.first_batch.ensures.found ∙ ap (option_map (λ b. b.now)) c.in-Some.is in
    let p = err_from_is_err_and c.from_residual.result c.from_residual.ensures.1 in
    rw (p.1, p.2) (λ other.
    let h = c.in_err-redo.ensures.refused other in (
      h.0,
      λ last led. left_nowhere c.loop-rest.invariant.1 found h.1 last led,
    ))

pub loop-rest-preserved : goal.loop-rest-preserved
loop-rest-preserved c =
    let found : recorded c.loop-rest.rest.now ≡ Some c.in-Some.batch.now =
    sym c.first_batch.ensures.found ∙ ap (option_map (λ b. b.now)) c.in-Some.is in
    let led = c.in_ok-redo.ensures.led in (
      led.1,
      subst (λ (l : List ℕ). IsLeft c.args.batches.now c.args.node.now l c.redo.new.value)
          (sym c.behind-rest.ensures)
          (left_next c.loop-rest.invariant.1 found c.redo.new.value led),
    )
