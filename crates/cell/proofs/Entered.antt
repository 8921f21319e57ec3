-- What a seat knows after an answer, whether or not the answer is that of an event that counts.
use Rattle.std.proofs.Common.{◌≡◌, Bool, true, false, cond, Result, Ok, refl, sym, ap, ◌∙◌, ⊎_elim}
use Rattle.std.proofs.lemmas.Bool.{cases_Bool, cond-false, cond-true, cond_both, false≢true}
use Rattle.ids.specs.declared.refusal.Refusal.{Refusal}
use Rattle.model.specs.declared.event.Answer.{Answer}
use Rattle.model.specs.declared.event.Event.{Event}
use Rattle.model.specs.declared.step.Step.{Step}
use Rattle.model.specs.State.{NodeState}
use Rattle.model.specs.Steps.{act}
use Rattle.model.specs.Effects.{is_change}
use Rattle.wire.specs.Entering.{known_after, pair_by, state_of}
use Rattle.wire.specs.Views.{Known, Pair, ticks}
use Rattle.cell.specs.Desks.{IsUnsaved}

-- the pair that has this current state, if an event that doesn't count leaves it as it was
pub pair-after : (e : Event) (s : Step) (a : Answer) (v : Known) (t : NodeState)
    → act v.pair.current e ≡ Ok (t, a) → (is_change a ≡ false → t ≡ v.pair.current)
    → (known_after e s (Ok a) v).pair ≡ record { current = t; saved = v.pair.saved }
pair-after e s a v t answered quiet =
    ⊎_elim
    (λ counts.
    ap (λ (w : Known). w.pair)
    (cond-true (is_change a) (ticks s (pair_by e v.pair) v) v counts)
    ∙ ap (λ (r : Result (NodeState × Answer) Refusal).
    let q : Pair = record { current = state_of v.pair.current r; saved = v.pair.saved } in q)
    answered)
    (λ other.
    ap (λ (w : Known). w.pair)
    (cond-false (is_change a) (ticks s (pair_by e v.pair) v) v other)
    ∙ ap (λ (u : NodeState).
    let q : Pair = record { current = u; saved = v.pair.saved } in q) (sym (quiet other)))
    (cases_Bool (is_change a))

-- the seat took nothing from the wire then
pub taken-then : (e : Event) (s : Step) (a : Answer) (v : Known)
    → (known_after e s (Ok a) v).taken ≡ v.taken
taken-then e s a v =
    cond_both (is_change a) (ticks s (pair_by e v.pair) v) v (λ (w : Known). w.taken ≡ v.taken)
    (λ _. refl) (λ _. refl)

-- if nothing is unsaved then, the event doesn't count, and nothing was unsaved before
pub unsaved-after : {was : Bool} {p : Pair} {t : NodeState} (counts now : Bool) → IsUnsaved was p
    → (counts ≡ false → t ≡ p.current) → now ≡ cond counts true was
    → IsUnsaved now (record { current = t; saved = p.saved })
unsaved-after true now before quiet is none = absurd (false≢true (sym none ∙ is))
unsaved-after false now before quiet is none = quiet refl ∙ before (sym is ∙ none)
