-- How a call sets the mark that says whether an event happened.
use Rattle.std.proofs.Common.{◌≡◌, Bool, true, [], ◌∷◌, ◌++◌, length, length-append, Result, Ok, Err, sym, ap, ◌∙◌, ⊎_elim, arith}
use Rattle.std.proofs.lemmas.Bool.{cases_Bool, cond-true, cond-false}
use Rattle.ids.specs.declared.refusal.Refusal.{Refusal}
use Rattle.model.specs.declared.event.Event.{Event}
use Rattle.model.specs.declared.event.Answer.{Answer}
use Rattle.model.specs.declared.step.Step.{Step}
use Rattle.wire.specs.Views.{Known, ticks}
use Rattle.model.specs.Effects.{is_change}
use Rattle.wire.specs.Entering.{known_after, pair_by}
use Rattle.cell.specs.Events.{unsaved_after, IsMarked}

pub marked-after : {w : Known} {is : Bool} (e : Event) (s : Step) (r : Result Answer Refusal)
    (v : Known) (was : Bool) → w ≡ known_after e s r v → is ≡ unsaved_after r was
    → IsMarked v w was is
marked-after e s (Err x) v was known says =
    (λ _. says, λ differs. absurd (differs (ap (λ (u : Known). u.events) known)))
marked-after {w} e s (Ok a) v was known says =
    ⊎_elim
    (λ yes.
    let grew : w.events ≡ v.events ++ s ∷ [] =
    ap (λ (u : Known). u.events)
    (known ∙ cond-true (is_change a) (ticks s (pair_by e v.pair) v) v yes) in (
      λ same. absurd (omega (
        arith,
        ap length (sym grew ∙ same),
        length-append v.events (s ∷ []),
      )),
      λ _. says ∙ cond-true (is_change a) true was yes,
    ))
    (λ no.
    let stayed : w.events ≡ v.events =
    ap (λ (u : Known). u.events)
    (known ∙ cond-false (is_change a) (ticks s (pair_by e v.pair) v) v no) in
    (λ _. says ∙ cond-false (is_change a) true was no, λ differs. absurd (differs stayed)))
    (cases_Bool (is_change a))
