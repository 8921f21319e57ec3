use Rattle.std.proofs.Common.{◌≡◌, ◌≢◌, ◌∙◌}
use Rattle.std.proofs.lemmas.Result.{IfErr-weaker, IfOk-weaker}
use Rattle.ids.specs.declared.refusal.Refusal.{Refusal}
use Rattle.ids.specs.declared.refusal.Refusal.TheVariants.{BadImage, Memory}
use Rattle.model.specs.View.{NodeView}
use Rattle.image.specs.Nodes.{IsImageOf}
use Rattle.image.proofs.Spelled.{image_of_one}
use Rattle.model.proofs.Refusals.{memory-alone}
use Rattle.world.proofs.saved.SavedNode.read.Goals as goal

-- bytes spell at most one node
pub returns-clause-same : goal.returns-clause-same
returns-clause-same c =
    let bytes = c.deref.result.now in
    IfOk-weaker c.core_from_bytes.result (λ (n : NodeView). IsImageOf bytes n)
    (λ (n : NodeView). n ≡ c.args.self.now)
    (λ n is.
    image_of_one bytes n c.self.inside.says.value is (rw c.deref.ensures.value c.self.invariant)
    ∙ c.self.view_is)
    c.core_from_bytes.ensures.read

-- and these bytes spell one
pub returns-clause-refused : goal.returns-clause-refused
returns-clause-refused c =
    let bytes = c.deref.result.now in
    let image : IsImageOf bytes c.self.inside.says.value =
    rw c.deref.ensures.value c.self.invariant in
    IfErr-weaker c.core_from_bytes.result
    (λ (e : Refusal). e ≢ Memory → (e ≡ BadImage) × ((n : NodeView) → IsImageOf bytes n → ⊥))
    (λ (e : Refusal). e ≡ Memory)
    (λ e refused. memory-alone e (λ other. (refused other).1 c.self.inside.says.value image))
    c.core_from_bytes.ensures.refused
