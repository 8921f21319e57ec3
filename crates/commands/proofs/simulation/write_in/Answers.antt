use Rattle.std.proofs.Common.{◌≡◌, ◌∙◌, None, Ok, ap, inr, refl, sym}
use Rattle.commands.specs.Freed.{sweeper}
use Rattle.commands.specs.Script.{writes}
use Rattle.commands.specs.declared.bytes.Writing.{Writing}
use Rattle.commands.specs.declared.bytes.Writing.TheVariants as writing
use Rattle.std.specs.Prelude.{ℕ, List}
use Rattle.std.specs.Borrow.{Bor}
use Rattle.model.specs.declared.step.Step.TheVariants as step
use Rattle.commands.proofs.Replies.{write_taken, write_refused}
use Rattle.commands.proofs.simulation.write_in.Goals as goal

-- no event that writes or sends bytes is a sweep
no_sweep : (node : ℕ) (w : Writing) (b : Bor (List ℕ)) → sweeper (step.Act node (writes w b)) ≡ None
no_sweep node (writing.All object) b = refl
no_sweep node (writing.Part object offset) b = refl
no_sweep node (writing.Letter to label first count) b = refl

pub returns-in-Ok-act : goal.returns-in-Ok-act
returns-in-Ok-act c =
    write_taken (λ b. step.Act c.args.node (writes c.args.writing b)) c.as_slice.result
    (c.in-Ok.ensures.ok ∙ ap (λ bytes. Ok bytes) (sym c.as_slice.ensures.value))
    (rw c.event.ensures at c.in-Ok-act.ensures.stepped)
    (no_sweep c.args.node c.args.writing c.as_slice.result)

pub returns-in-Ok : goal.returns-in-Ok
returns-in-Ok c =
    write_refused (λ b. step.Act c.args.node (writes c.args.writing b)) c.as_slice.result
    (c.in-Ok.ensures.ok ∙ ap (λ bytes. Ok bytes) (sym c.as_slice.ensures.value))
    (rw c.event.ensures at c.in-Err-act.ensures.stepped)

pub returns-in-Err-OutOfMemory : goal.returns-in-Err-OutOfMemory
returns-in-Err-OutOfMemory c = λ f h shown. (h, inr (refl, refl), shown)
