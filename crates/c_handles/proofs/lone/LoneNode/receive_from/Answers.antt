use Rattle.std.proofs.Common.{◌≡◌, ◌==◌, false, cond, subst, sym, [], ◌∷◌, Bool}
use Rattle.std.proofs.lemmas.Bool.{ne_eqb}
use Rattle.ids.specs.declared.limits.TheConstants.{WINDOW}
use Rattle.c_handles.specs.declared.working.Task.TheVariants as task
use Rattle.c_handles.specs.Work.{NodeDoes, Part, Plays, Repeats, at}
use Rattle.c_handles.proofs.Tries.{last_part}
use Rattle.c_handles.proofs.lone.LoneNode.receive_from.Goals as goal

pub returns-clause-done : goal.returns-clause-done
returns-clause-done c =
    let other : (c.args.from == c.args.own) ≡ false =
    ne_eqb c.args.from c.args.own c.if-from-own.false in
    let part : Part = record { task = task.Receive c.args.from; most = WINDOW } in
    let old = at c.args.self.now c.args.work.now in
    let new = at c.repeat.new.on c.repeat.new.work in
    subst (λ (b : Bool). Plays NodeDoes (cond b [] (part ∷ [])) old new c.repeat.result)
    (sym other) (last_part NodeDoes part old new c.repeat.result
    (subst (λ n. Repeats NodeDoes part.task n old new c.repeat.result) c.from.ensures
    c.repeat.ensures.done))
