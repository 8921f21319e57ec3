use Rattle.std.proofs.Common.{[], ◌∷◌, subst, ℕ}
use Rattle.std.specs.Prelude.{min}
use Rattle.std.proofs.lemmas.Result.{err_from_is_err_and}
use Rattle.c_handles.specs.declared.working.Task.TheVariants as task
use Rattle.c_handles.specs.Work.{Part, Repeats, at}
use Rattle.c_handles.proofs.Tries.{last_part, led_part, part_ended}
use Rattle.c_handles.proofs.working.collect.Goals as goal

abbrev scan : ℕ → Part
scan scans = record { task = task.Scan; most = scans }

abbrev pass : Part
pass = record { task = task.Pass; most = 1 }

abbrev sweep : ℕ → Part
sweep slots = record { task = task.Sweep slots; most = min slots 1 }

pub returns-in_err-scan : goal.returns-in_err-scan
returns-in_err-scan g c =
    let exit = c.from_residual in
    let p = err_from_is_err_and exit.result exit.ensures.1 in
    rw (p.1, p.2) (part_ended g.W.Worked.does (scan c.args.scans) (pass ∷ sweep c.args.slots ∷ [])
    (at c.args.on.now c.args.work.now) (at c.scan.new.on c.scan.new.work)
    c.in_err-scan.field-0.0 c.in_err-scan.ensures.done)

pub returns-in_err-repeat : goal.returns-in_err-repeat
returns-in_err-repeat g c =
    let exit = c.from_residual-in_err-repeat in
    let p = err_from_is_err_and exit.result exit.ensures.1 in
    let mid = at c.scan.new.on c.scan.new.work in
    let new = at c.repeat.new.on c.repeat.new.work in
    rw (p.1, p.2) (led_part g.W.Worked.does (scan c.args.scans) (pass ∷ sweep c.args.slots ∷ [])
    (at c.args.on.now c.args.work.now) mid c.in_ok-scan.ensures.done new _
    (part_ended g.W.Worked.does pass (sweep c.args.slots ∷ []) mid new c.in_err-repeat.field-0.0
    c.in_err-repeat.ensures.done))

pub returns : goal.returns
returns g c =
    let mid = at c.scan.new.on c.scan.new.work in
    let late = at c.repeat.new.on c.repeat.new.work in
    let new = at c.repeat-2.new.on c.repeat-2.new.work in
    led_part g.W.Worked.does (scan c.args.scans) (pass ∷ sweep c.args.slots ∷ [])
    (at c.args.on.now c.args.work.now) mid c.in_ok-scan.ensures.done new _
    (led_part g.W.Worked.does pass (sweep c.args.slots ∷ []) mid late c.in_ok-repeat.ensures.done
    new _
    (last_part g.W.Worked.does (sweep c.args.slots) late new c.repeat-2.result
    (subst (λ n. Repeats g.W.Worked.does (task.Sweep c.args.slots) n late new c.repeat-2.result)
    c.min.ensures c.repeat-2.ensures.done)))
