use Rattle.std.proofs.Common.{◌≢◌, ◌∙◌, refl, rules, sym}
use Rattle.ids.specs.declared.refusal.Refusal.TheVariants.{Memory}
use Rattle.model.specs.Steps.{is_shading}
use Rattle.node.specs.Keeping.{met}
use Rattle.node_store.proofs.Alone.{alone-after, done-alone, met-same, not-done, quiet-not-done}
use Rattle.node_store.proofs.redoing.perform.Goals as goal

pub returns-in-Err-Memory : goal.returns-in-Err-Memory
returns-in-Err-Memory c = record {
  done = tt;
  alone = tt;
  refused = λ other. absurd (other refl);
}

pub returns-in-Err : goal.returns-in-Err
returns-in-Err c =
    let other : c.in-Err.field-0 ≢ Memory = search rules in
    record {
      done = tt;
      alone = tt;
      refused = λ _. (
        refl,
        λ m. not-done (is_shading (met c.args.node.now.early c.args.event.now))
            (met-same c.args.event.now c.requires) other c.in-Err.ensures.performs,
      );
    }

pub returns-then-not-is_change : goal.returns-then-not-is_change
returns-then-not-is_change c =
    record {
      done = tt;
      alone = tt;
      refused = λ _. (
        refl,
        λ m. quiet-not-done (met-same c.args.event.now c.requires) c.in-Ok.ensures.performs
            (sym c.is_change.ensures ∙ c.if-not-is_change.true),
      );
    }

pub returns : goal.returns
returns c =
    let said = c.in-Ok.ensures in
    let now = sym c.is_change.ensures ∙ c.if-not-is_change.false in
    record {
      done = done-alone c.args.event.now c.in-Ok.answer c.requires said.performs now;
      alone = alone-after c.args.event.now c.in-Ok.answer c.requires said.early
          c.act.ensures.leaves.shape now;
      refused = tt;
    }
