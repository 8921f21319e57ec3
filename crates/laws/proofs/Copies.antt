-- Saved states of different moments go together if they fit.
use Rattle.std.proofs.Common.{append-nil, append_assoc, ◌≡◌, ◌++◌, ◌∷◌, [], ℕ, List, ap, arith, inl, inr, refl, subst, sym, ◌∙◌, ◌⊎◌, ⊎_elim}
use Rattle.std.proofs.lemmas.Bool.{cases_lt}
use Rattle.std.proofs.lemmas.List.{ext_get_or, get_or_past}
use Rattle.ids.specs.Limits.{Shaped}
use Rattle.model.specs.declared.step.Step.{Step}
use Rattle.model.specs.State.{NodeState, no_node, node_at}
use Rattle.model.specs.World.{World}
use Rattle.model.specs.Cuts.{Cut}
use Rattle.laws.specs.Copies.{CopiesGoTogether, WasSaved}
use Rattle.laws.proofs.KeepsSent.{node-count}
use Rattle.laws.proofs.Mixes.{AndThen, IsFirst, IsMix, Played, Since, mixes-run, new-mixes, saved-width, space_after}

-- what was saved stays among what was saved so far
since-keeps : {i : ℕ} {s : NodeState} (shape : Shaped) (Was : ℕ → NodeState → Type 0)
    (steps later : List Step) → Was i s → Since shape Was steps later i s
since-keeps shape Was steps [] was = was
since-keeps shape Was steps (s ∷ ss) was =
    since-keeps shape (AndThen shape Was steps s) (steps ++ s ∷ []) ss (inl was)

-- so a state that was saved at some moment is among them
since-was : (shape : Shaped) (Was : ℕ → NodeState → Type 0) (i : ℕ)
    (steps earlier later : List Step) → Was i (node_at (space_after shape steps).saved i)
    → Since shape Was steps (earlier ++ later) i
    (node_at (space_after shape (steps ++ earlier)).saved i)
since-was shape Was i steps [] later was =
    subst
    (λ (l : List Step). Since shape Was steps later i (node_at (space_after shape l).saved i))
    (sym (append-nil steps)) (since-keeps shape Was steps later was)
since-was shape Was i steps (s ∷ ss) later was =
    subst
    (λ (l : List Step).
    Since shape Was steps (s ∷ ss ++ later) i (node_at (space_after shape l).saved i))
    (append_assoc steps (s ∷ []) ss)
    (since-was shape (AndThen shape Was steps s) i (steps ++ s ∷ []) ss later (inr refl))

-- a state that was saved, as one of a mix
was-mix : (shape : Shaped) (steps : List Step) (i : ℕ) (s : NodeState)
    → WasSaved shape steps i s → Since shape (IsFirst shape) [] steps i s
was-mix shape steps i s x =
    subst (λ (l : List Step). Since shape (IsFirst shape) [] l i s) (sym x.parts)
    (subst (Since shape (IsFirst shape) [] (x.earlier ++ x.later) i) (sym x.state)
    (since-was shape (IsFirst shape) i [] x.earlier x.later refl))

pub copies-go-together : CopiesGoTogether
copies-go-together shape limits steps states width was fits =
    let w : World = space_after shape steps in
    let Was : ℕ → NodeState → Type 0 = Since shape (IsFirst shape) [] steps in
    let mixes = mixes-run shape (IsFirst shape) [] steps (new-mixes shape limits) in
    let c : Cut = node_at states in
    let mix : IsMix Was w c = λ i.
    ⊎_elim {C = Was i (c i) ⊎ (c i ≡ node_at w.current i)}
    (λ within. inl (was-mix shape steps i (c i) (was i within)))
    (λ past.
    let count = node-count shape steps in
    inr
    (get_or_past states i no_node (omega (arith, width, past))
    ∙ sym (get_or_past w.current i no_node (omega (arith, count, past)))))
    (cases_lt i shape.nodes) in
    let played : Played shape c = mixes.play c mix fits in
    let end : World = space_after shape played.steps in
    let current : end.current ≡ states =
    ext_get_or no_node end.current states (node-count shape played.steps ∙ sym width)
    (λ i within. played.current i) in
    let saved : end.saved ≡ states =
    ext_get_or no_node end.saved states (saved-width shape played.steps ∙ sym width)
    (λ i within. played.saved i) in (
      played.steps,
      ap (λ (l : List NodeState). record { current = l; saved = end.saved }) current
          ∙ ap (λ (l : List NodeState). record { current = states; saved = l }) saved,
    )
