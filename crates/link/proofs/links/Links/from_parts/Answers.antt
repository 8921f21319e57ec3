use Rattle.std.proofs.Common.{◌≡◌, ◌∷◌, ◌++◌, [], ◌∙◌, ◌^◌, ◌<◌, true≢false, refl, sym, ap, subst, length, map, arith}
use Rattle.std.proofs.Common.{append_assoc}
use Rattle.std.proofs.lemmas.Grind.{common_steps}
use Rattle.std.proofs.lemmas.List.Elements.{All-append, All-cons, All-nil}
use Rattle.link.specs.Links.{IsLinks}
use Rattle.link.specs.Ends.{view_of}
use Rattle.link.specs.Parts.{IsNumbered, ends_given}
use Rattle.link.proofs.Given.{shown-given, links-given, numbered_in}
use Rattle.link.proofs.links.Links.from_parts.Goals as goal

pub returns-in_default-clause-refused : goal.returns-in_default-clause-refused
returns-in_default-clause-refused c = λ other. (
  refl,
  λ links.
      let done = c.loop-part.yielded in
      let part = c.in-Some.part in
      let all = c.args.parts.items in
      let came : done ++ part ∷ c.next.new.self.rest.items ≡ all =
      ap (λ xs. done ++ xs) (sym c.in-Some.ensures.steps.0) ∙ c.loop-part.invariant.came in
      let numbered = numbered_in done part _ all came links in
      absurd (true≢false (sym (c.in_default.ensures.numbered.1 numbered))),
)

pub loop-part-preserved : goal.loop-part-preserved
loop-part-preserved c =
    let done = c.loop-part.yielded in
    let part = c.in-Some.part in
    let left = c.in-Some.ensures.steps.0 in
    let fits = c.in-Some-from_parts.ensures.numbered.0 refl in
    let numbered = All-cons IsNumbered part [] fits (All-nil IsNumbered) in
    record {
      came = append_assoc done _ _
          ∙ ap (λ xs. done ++ xs) (sym left)
          ∙ c.loop-part.invariant.came;
      made = grind (arith, common_steps);
      numbered =
          All-append IsNumbered done (part ∷ []) c.loop-part.invariant.numbered numbered;
    }

pub invariant_of-result : goal.invariant_of-result
invariant_of-result c =
    let all : c.loop-part.yielded ≡ c.args.parts.items = grind (arith, common_steps) in
    let few : length c.args.parts.items < 2 ^ 8 = omega arith in
    let ends = c.loop-part.invariant.made ∙ ap (map ends_given) all in
    let made = ap view_of ends ∙ shown-given c.args.parts.items in
    let numbered = rw all at c.loop-part.invariant.numbered in
    subst IsLinks (sym made) (links-given c.args.parts.items few numbered)

pub returns-clause-made : goal.returns-clause-made
returns-clause-made c =
    let all : c.loop-part.yielded ≡ c.args.parts.items = grind (arith, common_steps) in
    let ends = c.loop-part.invariant.made ∙ ap (map ends_given) all in
    ap view_of ends ∙ shown-given c.args.parts.items

pub returns-clause-sound : goal.returns-clause-sound
returns-clause-sound c =
    let all : c.loop-part.yielded ≡ c.args.parts.items = grind (arith, common_steps) in
    let few : length c.args.parts.items < 2 ^ 8 = omega arith in
    links-given c.args.parts.items few (rw all at c.loop-part.invariant.numbered)
