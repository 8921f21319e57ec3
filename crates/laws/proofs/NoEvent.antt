-- A step that isn't an event changes nothing.
use Rattle.std.proofs.Common.{◌≡◌, ℕ, Bool, true, false, ◌==◌, ◌&&◌, List, [], ◌∷◌, length, map, set, Option, None, Some, Result, Ok, Err, refl, ap, ◌∙◌, subst, leb}
use Rattle.std.proofs.lemmas.Bool.{cond_both}
use Rattle.std.proofs.lemmas.List.{set-get_or}
use Rattle.ids.specs.declared.refusal.Refusal.{Refusal}
use Rattle.ids.specs.declared.refusal.Refusal.TheVariants.{AckBeyond, WrongNode}
use Rattle.msg.specs.declared.body.Message.{Message}
use Rattle.model.specs.declared.event.Event.{Event}
use Rattle.model.specs.declared.event.Event.TheVariants as event
use Rattle.model.specs.declared.event.Answer.{Answer}
use Rattle.model.specs.declared.event.Answer.TheVariants as answer
use Rattle.model.specs.declared.step.Step.TheVariants as step
use Rattle.model.specs.declared.step.Outcome.{Outcome}
use Rattle.model.specs.declared.step.Outcome.TheVariants as outcome
use Rattle.model.specs.Checks.{guarded}
use Rattle.model.specs.State.{LocalState, NodeState, no_node, node_at}
use Rattle.model.specs.Effects.{Effect, answers, is_change}
use Rattle.model.specs.Steps.{act, made, taken_in, is_own, is_addressed, append_all}
use Rattle.model.specs.Collecting.{without_token, is_concluded, probe, begun, scanned, conclude, judged, handed_on, passed, swept_slots}
use Rattle.model.specs.World.{World, released, acknowledged, release_count, moved, delivery, is_node, take_step, outcome_of, world_after, is_eventful}
use Rattle.laws.specs.Statements.{OnlyEventsChange}
use Rattle.laws.proofs.StepFacts.{Delivery, given_to, act-ok, Receipt, repeated, next, receipt-cases}

-- an answer that makes no event
abbrev IsQuiet : Answer → Type 0
IsQuiet a = is_change a ≡ false

-- nothing is changed and nothing is sent
record IsNothing (p : LocalState) (x : Effect) : Type 0 where
  pub local : x.local ≡ p
  pub sends : x.sends ≡ []

quiet-passed : (p : LocalState) → IsQuiet (passed p).answer → ⊥
unfolding passed
quiet-passed p =
    cond_both (p.own == 0) (judged p) (handed_on p) (λ (x : Effect). IsQuiet x.answer → ⊥)
    (λ _. cond_both (is_concluded p.ring)
    (answers (conclude p) (answer.Ended p.phases.cycle))
    (answers (probe (record p { ring = without_token p.ring })) answer.ProbeAgain)
    (λ (x : Effect). IsQuiet x.answer → ⊥) (λ _ quiet. absurd cc) (λ _ quiet. absurd cc))
    (λ _ quiet. absurd cc)

quiet-effect : (p : LocalState) (counts : List ℕ) (e : Event)
    → is_own e ≡ true → IsQuiet (made p counts e).answer → IsNothing p (made p counts e)
unfolding begun scanned swept_slots
quiet-effect p counts (event.Word object) own quiet = record { local = refl; sends = refl }
quiet-effect p counts event.Pass own quiet = absurd (quiet-passed p quiet)
quiet-effect p counts (event.Data d) own quiet = absurd cc
quiet-effect p counts (event.Ack a) own quiet = absurd cc
quiet-effect p counts e own quiet = absurd cc

nothing-done : (s : NodeState) (x : Effect)
    → IsNothing s.local x → record { local = x.local; sent = append_all s.sent x.sends } ≡ s
nothing-done s x h = rw (h.local, h.sends) refl

quiet-act : (s : NodeState) (e : Event) (t : NodeState) (a : Answer)
    → is_own e ≡ true → act s e ≡ Ok (t, a) → IsQuiet a → t ≡ s
quiet-act s e t a own answered quiet =
    let found = act-ok s e t a answered in
    found.state
    ∙ nothing-done s (made s.local (map length s.sent) e)
    (quiet-effect s.local (map length s.sent) e own (subst IsQuiet found.answer quiet))

quiet-receipt : (s : NodeState) (m : Delivery) (t : NodeState) (a : Answer) → Receipt s m t a
    → IsQuiet a → t ≡ s
unfolding taken_in
quiet-receipt s m t a (repeated same says) quiet = same
quiet-receipt s m t a (next turn may found) quiet =
    absurd (let received : IsQuiet answer.Received = subst IsQuiet found.answer quiet in cc)

-- the same for a space
abbrev Leaves : World → Result (World × Outcome) Refusal → Type 0
Leaves w r = is_eventful (outcome_of r) ≡ false → world_after w r ≡ w

quiet-moved : (w : World) (i : ℕ) (r : Result (NodeState × Answer) Refusal)
    → ((t : NodeState) (a : Answer) → r ≡ Ok (t, a) → IsQuiet a → t ≡ node_at w.current i)
    → Leaves w (moved w i r)
quiet-moved w i (Ok x) same quiet =
    let states : set w.current i x.0 ≡ w.current =
    ap (λ (z : NodeState). set w.current i z) (same x.0 x.1 refl quiet)
    ∙ set-get_or w.current i no_node in
    ap (λ (z : List NodeState). record w { current = z }) states
quiet-moved w i (Err e) same quiet = refl

quiet-delivery : (w : World) (from to number : ℕ) (found : Option Message)
    → Leaves w (delivery w from to number found)
quiet-delivery w from to number None quiet = refl
quiet-delivery w from to number (Some x) quiet =
    let m : Delivery = record { from = from; to = to; number = number; message = x } in
    quiet-moved w to (given_to (node_at w.current to) m)
    (λ t a answered.
    quiet-receipt (node_at w.current to) m t a
    (receipt-cases (node_at w.current to) m t a answered))
    quiet

-- a step that only tests
quiet-test : (w : World) (cs : List (Bool × Refusal)) (o : Outcome) → Leaves w (guarded cs (w, o))
quiet-test w [] o quiet = refl
quiet-test w ((true, r) ∷ cs) o quiet = quiet-test w cs o quiet
quiet-test w ((false, r) ∷ cs) o quiet = refl

pub only-events-change : OnlyEventsChange
unfolding take_step
only-events-change w (step.Act i e) =
    cond_both (is_node w i) _ _ (Leaves w)
    (λ _. cond_both (is_own e) _ _ (Leaves w)
    (λ own.
    quiet-moved w i (act (node_at w.current i) e)
    (λ t a answered. quiet-act (node_at w.current i) e t a own answered))
    (λ _ _. refl))
    (λ _ _. refl)
only-events-change w (step.Save i) =
    cond_both (is_node w i) _ _ (Leaves w) (λ _ never. absurd cc) (λ _ _. refl)
only-events-change w (step.Restart i) =
    cond_both (is_node w i) _ _ (Leaves w) (λ _ never. absurd cc) (λ _ _. refl)
only-events-change w (step.Deliver from to number) =
    cond_both (is_node w from && is_node w to) _ _ (Leaves w)
    (λ _. quiet-delivery w from to number (released w from to number))
    (λ _ _. refl)
only-events-change w (step.Hand from to) =
    cond_both (is_node w from && is_node w to) _ _ (Leaves w)
    (λ _. cond_both (from == to) _ _ (Leaves w)
    (λ _ _. refl)
    (λ _.
    quiet-test w ((is_addressed (node_at w.current from).local to from, WrongNode)
    ∷ (leb (acknowledged w from to) (release_count w from to), AckBeyond) ∷ [])
    (outcome.Handed (acknowledged w from to))))
    (λ _ _. refl)
