use Rattle.std.proofs.Common.{◌<◌, List, length, ap, ◌∙◌, Option, subst, sym, arith}
use Rattle.ids.specs.Limits.{Shaped}
use Rattle.ids.specs.declared.names.Ref.{Ref}
use Rattle.model.specs.References.{IfAny, IsWithin}
use Rattle.model.specs.View.{NodeView}
use Rattle.node.proofs.Runs.{run-stands}
use Rattle.node.proofs.Shading.{errand-registers}
use Rattle.node.proofs.node_core.Core.load.Goals as goal

pub set_register-requires-clause-there : goal.set_register-requires-clause-there
set_register-requires-clause-there c =
    let same =
    ap (λ (m : NodeView). m.local.heap.registers) c.in_ok-run.ensures.done.now
    ∙ errand-registers c.cycle-cycle.result _ c.args.self.now.local
    (omega (arith, c.cycle-cycle.ensures.value)) in
    subst (λ (rs : List (Option Ref)). c.args.register < length rs) (sym same)
    c.in_ok-value.ensures.there

pub set_register-requires-clause-within : goal.set_register-requires-clause-within
set_register-requires-clause-within c =
    let same = run-stands c.cycle-cycle.result _ _ _ c.in_ok-run.ensures.done in
    subst (λ (s : Shaped). IfAny (IsWithin s) c.in_ok-value.value) (sym same.shape)
    c.in_ok-value.ensures.within
