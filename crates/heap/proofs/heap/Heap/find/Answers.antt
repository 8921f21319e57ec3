use Rattle.std.proofs.Common.{[], ◌∷◌, Option, subst, sym, ◌∙◌}
use Rattle.ids.specs.declared.names.Ref.{Ref}
use Rattle.model.specs.Searching.{Search, Finds, noted, sought}
use Rattle.model.proofs.Searching.{finds-new}
use Rattle.heap.proofs.heap.Heap.find.Goals as goal

pub returns-then-is_new : goal.returns-then-is_new
returns-then-is_new c =
    let own = c.args.own in
    let h = sought c.args.scope c.args.self.now.heap in
    let s = c.args.search.now in
    let object = c.in-Some.object in
    let is = c.if-is_new.true in
    let found = finds-new {own = own} {h = h} object s (c.is_new.ensures.inside is)
    (sym c.is_new.ensures.value ∙ is) in
    subst (λ (t : Search). Finds own h (c.args.reference ∷ []) s t) (sym c.note.ensures)
    (subst (λ (o : Option Ref). Finds own h (o ∷ []) s (noted s object.slot)) (sym c.in-Some.is)
    found)
