-- What programs see of a space whose wire began in a reached world.
use Rattle.std.proofs.Common.{◌≡◌, ◌≢◌, ◌<◌, ◌≤◌, ◌+◌, ℕ, Bool, zero, suc, true, cond, ◌&&◌, List, [], ◌∷◌, ◌++◌, append-nil, append_assoc, length, Option, Some, None, Result, Ok, refl, sym, ap, ◌∙◌, subst, arith, ⊎_elim, ◌==◌}
use Rattle.std.specs.Prelude.{not}
use Rattle.std.proofs.lemmas.Bool.{cond_both, cond-false, eqb-false, lt-ltb}
use Rattle.ids.specs.declared.refusal.Refusal.{Refusal}
use Rattle.msg.specs.declared.body.Message.{Message}
use Rattle.model.specs.declared.event.Answer.TheVariants as answer
use Rattle.model.specs.declared.event.Event.{Event}
use Rattle.model.specs.declared.event.Event.TheVariants as event
use Rattle.model.specs.declared.step.Outcome.{Outcome}
use Rattle.model.specs.declared.step.Outcome.TheVariants as outcome
use Rattle.model.specs.declared.step.Step.{Step}
use Rattle.model.specs.declared.step.Step.TheVariants as step
use Rattle.model.specs.State.{LocalState, NodeState, got_from, node_at, slot_at}
use Rattle.model.specs.Heaps.{heap_bytes}
use Rattle.model.specs.Steps.{act}
use Rattle.model.specs.View.{Follows}
use Rattle.model.specs.World.{World, happens, is_node, moved, new_world, outcome_of, released, run, take_step}
use Rattle.model.specs.Cuts.{Cut, cut}
use Rattle.model.proofs.Runs.{run-append}
use Rattle.laws.specs.Objects.{Sight, Space, IsRun, after, is_program, new_space, told}
use Rattle.laws.specs.Sights.{LooksLike, came_of, choice_at_start, observed_in_cut, observed_in_step, programs, told_of}
use Rattle.laws.proofs.KeepsSent.{run-count}
use Rattle.laws.proofs.Net.{HeardMore, heard-onward}
use Rattle.laws.proofs.Onward.{Behind, run-behind, step-behind}
use Rattle.laws.proofs.StepFacts.{Delivery, IsTurnOf, Receipt, deliver-answer, next, receipt-cases, repeated}
use Rattle.laws.proofs.Told.{acted-as, choices-append, moved-as, observed-append, program-own, runs-then, sight-of}
use Rattle.laws.proofs.Transparent.{collector-is-unseen}
use Rattle.node.specs.Keeping.{Rings, met}
use Rattle.wire.specs.Views.{Pair}
use Rattle.cell.specs.Reached.{AreAlike, IsReached}
use Rattle.cell.specs.Unseen.{CellsAreToldSo, CellsReadSo, NewIsUnseen, ReachedIsUnseen, SightsAreKept, SightsGoOn, sights_after, sights_before, space_after}
use Rattle.cell.proofs.AlikeCuts.{CutsAlike, cuts-alike, reached-too}
use Rattle.cell.proofs.AlikeRuns.{AreReleased, also-released, alike-sym, node-like, run-like, same-content, step-like}
use Rattle.cell.proofs.Holding.{saved-count}
use Rattle.cell.proofs.Left.{restarted-reached, restarts}
use Rattle.cell.proofs.OneAge.{reopened-is-reached}
use Rattle.cell.proofs.Reaches.{end_of, heard-end, like-reached, new-reached, stays-reached, world-of-reached}

-- ---- Worlds that differ at most in acknowledged messages

-- only a message that is received is seen
came-received : (from to : ℕ) (r : Result Outcome Refusal) (x y : Message)
    → (r ≡ Ok (outcome.Answer answer.Received) → x ≡ y)
    → came_of from to r (Some x) ≡ came_of from to r (Some y)
came-received from to (Ok (outcome.Answer answer.Received)) x y same =
    ap (λ (z : Message). came_of from to (Ok (outcome.Answer answer.Received)) (Some z))
    (same refl)
came-received from to r x y same = refl

in-turn-of : {s : NodeState} {m : Delivery} {t : NodeState} → Receipt s m t answer.Received
    → IsTurnOf s m
in-turn-of (repeated same says) =
    ⊎_elim (λ again. absurd cc) (λ ahead. absurd cc) says
in-turn-of (next turn may found) = turn

came-like : (w v : World) (from to number : ℕ) (o p : Option Message) → AreAlike w v
    → Behind HeardMore v → released w from to number ≡ o → released v from to number ≡ p
    → came_of from to (outcome_of (take_step v (step.Deliver from to number))) o
    ≡ came_of from to (outcome_of (take_step v (step.Deliver from to number))) p
came-like w v from to number None None h heard there other = refl
came-like w v from to number None (Some y) h heard there other =
    let found = also-released v w from to number y (alike-sym w v h) other in
    let never : ◌≡◌ {A = Option Message} (Some found.0) None = sym found.1 ∙ there in
    absurd cc
came-like w v from to number (Some x) None h heard there other =
    let found = also-released w v from to number x h there in
    let never : ◌≡◌ {A = Option Message} (Some found.0) None = sym found.1 ∙ other in
    absurd cc
came-like w v from to number (Some x) (Some y) h heard there other =
    came-received from to (outcome_of (take_step v (step.Deliver from to number))) x y
    (λ received.
    let m : Delivery = record { from = from; to = to; number = number; message = y } in
    let found = deliver-answer v m answer.Received other received in
    let turn : number ≡ got_from (node_at v.current to).local from + 1 =
    in-turn-of (receipt-cases (node_at v.current to) m found.0 answer.Received found.1) in
    let more = heard to from in
    let both : AreReleased w v from to number x y =
    record { alike = h; there = there; other = other } in
    same-content both (omega (arith, turn, more)))

step-observed : (w v : World) (choice : ℕ → Bool) (s : Step) → AreAlike w v → Behind HeardMore v
    → observed_in_step w choice s (outcome_of (take_step w s))
    ≡ observed_in_step v choice s (outcome_of (take_step v s))
step-observed w v choice (step.Act i e) h heard =
    λ k. cond (node-like w v i h k && (is_program e && not (choice i)))
    (told_of i e ((step-like w v (step.Act i e) h heard).outcome k)) []
step-observed w v choice (step.Save i) h heard = refl
step-observed w v choice (step.Restart i) h heard = refl
step-observed w v choice (step.Deliver from to number) h heard =
    ap (λ (r : Result Outcome Refusal).
    cond (choice to) [] (came_of from to r (released w from to number)))
    (step-like w v (step.Deliver from to number) h heard).outcome
    ∙ ap (λ (l : List Sight). cond (choice to) [] l)
    (came-like w v from to number (released w from to number) (released v from to number) h heard
    refl refl)
step-observed w v choice (step.Hand from to) h heard = refl

pub observed-like : (w v : World) (steps : List Step) (choice : ℕ → Bool) → AreAlike w v
    → Behind HeardMore v → observed_in_cut w steps choice ≡ observed_in_cut v steps choice
observed-like w v [] choice h heard = refl
observed-like w v (s ∷ ss) choice h heard =
    λ k. step-observed w v (choice_at_start ss choice) s h heard k
    ++ observed-like (happens w s) (happens v s) ss choice (step-like w v s h heard).worlds
    (step-behind heard-onward v s heard) k

-- ---- A reached world

-- the sights are those of one run from a new space
pub sights-are : (w : World) (r : IsReached w) (steps : List Step) (choice : ℕ → Bool)
    → sights_after r steps choice ≡ observed_in_cut (new_world r.shape) (r.steps ++ steps) choice
sights-are w r steps choice =
    ap (λ (l : List Sight). sights_before r (choice_at_start steps choice) ++ l)
    (observed-like w (end_of r) steps choice r.by (heard-end r))
    ∙ sym (observed-append (new_world r.shape) r.steps steps choice)

looks-too : {s : Space} {c d : Cut} → CutsAlike c d → LooksLike s d → LooksLike s c
looks-too {s} {c} {d} h looks = record {
  registers = λ i. looks.registers i
      ∙ ap (λ (p : LocalState). p.heap.registers) (sym (h.locals i));
  letters = λ i. looks.letters i ∙ ap (λ (p : LocalState). p.heap.letters) (sym (h.locals i));
  messages = λ from to. looks.messages from to ∙ ap programs (sym (h.flights from to));
  objects = λ r reached.
      (let found = looks.objects r (reached-too h reached) in (
        found.0,
        ap (λ (p : LocalState). slot_at p.heap r.slot) (h.locals r.node) ∙ found.1,
        found.2,
      ));
  bytes = λ i object offset count.
      ap (λ (p : LocalState). heap_bytes p.own p.heap object offset count) (h.locals i)
      ∙ looks.bytes i object offset count;
}

cuts-then : (w : World) (r : IsReached w) (steps : List Step) (choice : ℕ → Bool)
    → CutsAlike (cut (run w steps) choice) (cut (run (end_of r) steps) choice)
cuts-then w r steps choice =
    let heard = heard-end r in
    cuts-alike (run w steps) (run (end_of r) steps) choice
    (run-like w (end_of r) steps r.by heard)
    (run-behind heard-onward (end_of r) steps heard)

pub reached-is-unseen : ReachedIsUnseen
reached-is-unseen w r steps choice =
    let all = r.steps ++ steps in
    let unseen = collector-is-unseen r.shape r.limits all choice in
    let same = sym (sights-are w r steps choice) in
    let cuts = cuts-then w r steps choice in (
      subst (IsRun r.shape (new_space r.shape)) same unseen.0,
      looks-too cuts
          (subst (λ (v : World). LooksLike (space_after r steps choice) (cut v choice))
          (run-append (new_world r.shape) r.steps steps)
          (subst (λ (l : List Sight).
          LooksLike (after (new_space r.shape) l) (cut (run (new_world r.shape) all) choice))
          same unseen.1)),
    )

-- ---- What a cell's program is told

program-met : (es : Rings) (e : Event) → is_program e ≡ true → met es e ≡ e
program-met es (event.Next from) is = absurd cc
program-met es e is = refl

pub cells-are-told-so : CellsAreToldSo
cells-are-told-so e result v log choice r below leads current told_it =
    let w : World = run v.opening log in
    let me = v.me in
    let program = told_it.program in
    let inside : is_node w me ≡ true =
    lt-ltb me (length w.current) (let count = run-count v.opening log in
    omega (arith, count, below)) in
    let here : node_at w.current me ≡ v.pair.current =
    ap (λ (p : Pair). p.current) leads.pair in
    let follows : Follows e result told_it.new.core (act v.pair.current e) =
    subst (λ (f : Event). Follows f result told_it.new.core (act v.pair.current f))
    (program-met told_it.early e program) told_it.given.acted.states in
    let is = acted-as w me e result inside (program-own e program)
    (ap (λ (s : NodeState). outcome_of (moved w me (act s e))) here
    ∙ moved-as w me e result told_it.new.core (act v.pair.current e) program follows
    told_it.plenty) in
    let last : List Step = step.Act me e ∷ [] in
    let sights : sights_after r (log ++ last) choice
    ≡ sights_after r log choice ++ told me e result ∷ [] =
    (λ k. sights_before r (choices-append log last choice k)
    ++ observed-append v.opening log last choice k)
    ∙ ap (λ (l : List Sight). sights_before r (choice_at_start log choice)
    ++ (observed_in_cut v.opening log choice ++ l))
    (sight-of w choice me e result inside program current is)
    ∙ sym (append_assoc (sights_before r (choice_at_start log choice))
    (observed_in_cut v.opening log choice) (told me e result ∷ [])) in
    let runs = subst (IsRun r.shape (new_space r.shape)) sights
    (reached-is-unseen v.opening r (log ++ last) choice).0 in
    (runs-then r.shape (new_space r.shape) (sights_after r log choice)
    (told me e result ∷ []) runs).0.2

pub cells-read-so : CellsReadSo
cells-read-so n v log choice r object offset count leads current shows =
    let w : World = run v.opening log in
    let here : cut w choice v.me ≡ v.pair.current =
    cond-false (choice v.me) (node_at w.saved v.me) (node_at w.current v.me) current
    ∙ ap (λ (p : Pair). p.current) leads.pair in
    let same : n.local ≡ (cut w choice v.me).local =
    shows.local ∙ ap (λ (s : NodeState). s.local) (sym here) in
    ap (λ (p : LocalState). heap_bytes p.own p.heap object offset count) same
    ∙ (reached-is-unseen v.opening r log choice).1.bytes v.me object offset count

-- ---- From one space to the next

pub new-is-unseen : NewIsUnseen
unfolding new-reached
new-is-unseen shape limits = (new-reached shape limits, refl, λ choice. refl)

pub sights-go-on : SightsGoOn
unfolding stays-reached
sights-go-on w r steps =
    (stays-reached w steps r, refl, λ choice. sym (sights-are w r steps choice))

restarts-true : (k n : ℕ) (choice : ℕ → Bool) (j : ℕ) → k ≤ j → j < k + n
    → choice_at_start (restarts k n) choice j ≡ true
restarts-true k zero choice j from to = absurd (omega (arith, from, to))
restarts-true k (suc n) choice j from to =
    cond_both (j == k) true (choice_at_start (restarts (suc k) n) choice j) (λ b. b ≡ true)
    (λ is. refl)
    (λ apart.
    let other : k ≢ j = λ same. eqb-false j k apart (sym same) in
    restarts-true (suc k) n choice j (omega (arith, from, other)) (omega (arith, to)))

restarts-unseen : (w : World) (k n : ℕ) (choice : ℕ → Bool)
    → observed_in_cut w (restarts k n) choice ≡ []
restarts-unseen w k zero choice = refl
restarts-unseen w k (suc n) choice =
    restarts-unseen (happens w (step.Restart k)) (suc k) n choice

pub sights-are-kept : SightsAreKept
unfolding reopened-is-reached world-of-reached like-reached restarted-reached
sights-are-kept shape w nodes left ages =
    let r = left.reached in
    let new : World = new_world r.shape in
    let n : ℕ = length (end_of r).current in
    let count = r.by.current.width in
    let many = saved-count w r in
    let width = left.width in (
      (reopened-is-reached shape w nodes left ages).0,
      refl,
      λ choice. (
        choice_at_start (restarts 0 n) choice,
        λ k below. restarts-true 0 n choice k (omega arith)
            (omega (arith, below, count, many, width)),
        observed-append new r.steps (restarts 0 n) choice
            ∙ ap (λ (l : List Sight).
            observed_in_cut new r.steps (choice_at_start (restarts 0 n) choice) ++ l)
            (restarts-unseen (end_of r) 0 n choice)
            ∙ append-nil
            (observed_in_cut new r.steps (choice_at_start (restarts 0 n) choice)),
      ),
    )
