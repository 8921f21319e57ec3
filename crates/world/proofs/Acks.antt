-- An acknowledgement that the code's space hands over is that of the definitions.
use Rattle.std.proofs.Common.{◌≡◌, ◌≢◌, ℕ, ◌<◌, ◌≤◌, true, false, List, [], ◌∷◌, length, get_or, Result, Ok, Err, refl, ap, sym, ◌∙◌, subst, le_refl, arith, eq-eqb}
use Rattle.std.specs.Prelude.{nat_le}
use Rattle.std.proofs.lemmas.Bool.{ne_eqb, le-leb, lt-leb, lt-ltb, and_from, not_from_false, cond-true, cond-false}
use Rattle.std.proofs.lemmas.List.{set-get_or}
use Rattle.ids.specs.declared.refusal.Refusal.{Refusal}
use Rattle.ids.specs.declared.refusal.Refusal.TheVariants.{AckBeyond}
use Rattle.msg.specs.declared.frame.Ack.{Ack}
use Rattle.model.specs.Checks.{guarded}
use Rattle.model.specs.declared.event.Event.TheVariants as event
use Rattle.model.specs.declared.event.Answer.{Answer}
use Rattle.model.specs.declared.step.Step.TheVariants as step
use Rattle.model.specs.declared.step.Outcome.TheVariants as outcome
use Rattle.model.specs.State.{NodeState, node_at, no_node}
use Rattle.model.specs.Steps.{is_addressed}
use Rattle.model.specs.View.{NodeView, is_other, link_to, view_act}
use Rattle.model.specs.World.{World, take_step, acknowledged, release_count}
use Rattle.model.proofs.Shown.{ack-done, ack-refused}
use Rattle.laws.proofs.StepFacts.{act-ok}
use Rattle.laws.proofs.Base.{addressed-between}
use Rattle.world.specs.Sites.{SiteView}
use Rattle.world.specs.Shows.{ShowsWorld, Stepped, Given, IsPlaced, IsSim, IsAckOf, site_at}
use Rattle.world.proofs.Refusals.{first-by}
use Rattle.world.specs.Spaces.{outcome_by}
use Rattle.world.proofs.Steps.{Gives, given, nothing, are-nodes}

pub hand-to-itself : (n : List SiteView) (from to : ℕ) → from < length n → to < length n → from ≡ to
    → Stepped (Ok outcome.NoFrame) n n (step.Hand from to)
unfolding take_step
hand-to-itself n from to less below same =
    nothing n (step.Hand from to) outcome.NoFrame
    (λ w h. cond-true _ _ _ (are-nodes h from to less below)
    ∙ cond-true _ _ _ (eq-eqb from to same)) (λ saves. saves) refl

-- a message from another node to this one
pub addressed-to : {n : List SiteView} {from to : ℕ} → IsSim n → from < length n → to < length n
    → from ≢ to → is_addressed (site_at n from).current.local to from ≡ true
addressed-to {n = n} {from = from} {to = to} sim less below apart =
    let placed = sim.current from less in
    addressed-between (site_at n from).current.local to from (length n) placed.own placed.nodes
    below (λ e. apart (sym e))

-- the node with one number sees another number as another node
pub is-another : {n : List SiteView} {from to : ℕ} {q : SiteView} → IsSim n → from < length n
    → to < length n → from ≢ to → q ≡ site_at n to → is_other q.current.local from ≡ true
is-another {n = n} {from = from} {to = to} {q = q} sim less below apart there =
    let placed : IsPlaced (length n) to q.current =
    subst (λ (z : SiteView). IsPlaced (length n) to z.current) (sym there) (sim.current to below) in
    and_from _ _ (lt-ltb from q.current.local.shape.nodes (omega (arith, less, placed.nodes)))
    (not_from_false _ (ne_eqb from q.current.local.own (λ e. apart (e ∙ placed.own))))

-- an acknowledgement from one node to another, in the space that is shown
module _ {n : List SiteView} {w : World} {from to : ℕ} {a : Ack} (h : ShowsWorld n w)
    (less : from < length n) (below : to < length n) (apart : from ≢ to)
    (ack : IsAckOf n from to a) where
  told : a.number ≡ acknowledged w from to
  told = ack.number ∙ ap (λ (z : List ℕ). get_or z from 0) (h.each to).saved.acks

  counted : (link_to (site_at n from).current a.by).kept ≡ release_count w from to
  counted =
      ap (λ k. (link_to (site_at n from).current k).kept) ack.by
      ∙ (h.each from).current.counted to

  -- the step between two nodes, reduced to the test of the number
  handed : take_step w (step.Hand from to) ≡ guarded
      ((nat_le (acknowledged w from to) (release_count w from to), AckBeyond) ∷ [])
      (w, outcome.Handed (acknowledged w from to))
  unfolding take_step
  handed =
      let reached = rw (ack.by, ack.of, (h.each from).current.shows.local) at
      ack.addressed in
      cond-true _ _ _ (are-nodes h from to less below) ∙ cond-false _ _ _ (ne_eqb from to apart)
      ∙ cond-true _ _ _ reached

  hand-within : a.number ≤ (link_to (site_at n from).current a.by).kept
      → take_step w (step.Hand from to) ≡ Ok (w, outcome.Handed a.number)
  hand-within within =
      let few : acknowledged w from to ≤ release_count w from to =
      omega (arith, within, told, counted) in
      handed ∙ cond-true _ _ _ (le-leb _ _ few) ∙ ap (λ k. Ok (w, outcome.Handed k)) (sym told)

  hand-beyond : (link_to (site_at n from).current a.by).kept < a.number
      → take_step w (step.Hand from to) ≡ Err AckBeyond
  hand-beyond beyond =
      let far : release_count w from to < acknowledged w from to =
      omega (arith, beyond, told, counted) in
      handed ∙ cond-false _ _ _ (lt-leb _ _ far)

  hand-gives : Gives n w from (event.Ack a) (step.Hand from to) (λ _. outcome.Handed a.number)
  hand-gives =
      let u : NodeView = (site_at n from).current in
      record {
        answers = λ v t x performs stepped.
            let s : NodeState = node_at w.current from in
            let same : t ≡ s = (act-ok s (event.Ack a) t x stepped).state in
            rw (same, set-get_or w.current from no_node)
            (hand-within (ack-done u v a x performs).0);
        refuses = λ f first.
            first-by false (view_act u (event.Ack a)) (take_step w (step.Hand from to)) f
            (λ g is. let refusal = ack-refused u a g ack.addressed is in
            rw refusal.0 (hand-beyond refusal.1))
            (λ v is. rw (hand-within (ack-done u v.0 a v.1 is).0) refl)
            first;
        within = rw (ack.by, told) (le_refl _);
        free = λ is. refl;
      }

pub hands : {n m : List SiteView} {from to : ℕ} {a : Ack} {r : Result Answer Refusal}
    → to < length n → from ≢ to → IsAckOf n from to a → Given r n m from (event.Ack a)
    → Stepped (outcome_by (λ _. outcome.Handed a.number) r) n m (step.Hand from to)
hands {from = from} below apart ack h =
    given h (λ all x. rw ack.by refl) (λ saves. saves)
    (λ w shown. hand-gives shown h.within below apart ack)
