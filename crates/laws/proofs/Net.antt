-- Frames in the net stay there, and the acknowledgements among them are accepted.
use Rattle.std.proofs.Common.{◌≡◌, ◌≢◌, ℕ, ◌-◌, ◌<◌, ◌≤◌, true, false, ltb, ◌==◌, le-leb, le_refl, le_trans, List, length, map, None, Some, Ok, refl, sym, ◌∙◌, subst, arith, slice_get}
use Rattle.std.proofs.lemmas.Bool.{and_from, ne_eqb, lt-ltb, cond-true, cond-false, cond_both}
use Rattle.ids.specs.Limits.{Shaped, IsShape}
use Rattle.msg.specs.Frames.{Plain, data_frame, ack_frame}
use Rattle.msg.specs.declared.body.Message.{Message}
use Rattle.model.specs.declared.event.Event.{Event}
use Rattle.model.specs.declared.event.Answer.{Answer}
use Rattle.model.specs.declared.step.Step.{Step}
use Rattle.model.specs.declared.step.Step.TheVariants as step
use Rattle.model.specs.declared.step.Outcome.TheVariants as outcome
use Rattle.model.specs.State.{NodeState, node_at, got_from, sent_to}
use Rattle.model.specs.Steps.{act, is_own, is_addressed}
use Rattle.model.specs.World.{World, new_world, run, numbered, released, acknowledged, release_count, take_step, IsInNet}
use Rattle.model.proofs.Leaving.{own-stands, taken-stands}
use Rattle.laws.specs.Statements.{OfEveryRun, NetGrows, NoneBeyond, AcknowledgementsGoThrough, HandsGoThrough, AcknowledgedIsTakenIn}
use Rattle.laws.proofs.Lookups.{Grows, slice_get-grows}
use Rattle.laws.proofs.StepFacts.{Delivery, act-ok, Receipt, repeated, next, receipt-cases}
use Rattle.laws.proofs.Onward.{Onward, Behind, new-behind, run-behind, run-saved}
use Rattle.laws.proofs.KeepsSent.{SentMore, sent-onward, new-keeps-sent, node-count, run-count}
use Rattle.laws.proofs.Cuts.{released-numbered, run-keeps-sent}
use Rattle.laws.proofs.Base.{own-heard, taken-heard, between-nodes, all-base}

-- a message keeps its number
numbered-grows : (xs ys : List Message) (number : ℕ) (x : Message)
    → Grows xs ys → numbered xs number ≡ Some x → numbered ys number ≡ Some x
numbered-grows xs ys number x more =
    cond_both (ltb 0 number) (slice_get xs (number - 1)) None
    (λ z. z ≡ Some x → numbered ys number ≡ Some x)
    (λ first there. cond-true _ _ _ first ∙ slice_get-grows xs ys (number - 1) x more there)
    (λ _ never. absurd cc)

pub released-grows : (w v : World) (from to number : ℕ) (x : Message)
    → Grows (sent_to (node_at w.saved from) to) (sent_to (node_at v.saved from) to)
    → released w from to number ≡ Some x → released v from to number ≡ Some x
released-grows w v from to number x more there =
    let sent : List Message = sent_to (node_at w.saved from) to in
    let found = released-numbered (from == to) (numbered sent number) x there in
    cond-false _ _ _ found.0
    ∙ numbered-grows sent (sent_to (node_at v.saved from) to) number x more found.1

-- at least as many messages were received from every node
abbrev pub HeardMore : NodeState → NodeState → Type 0
HeardMore s t = (from : ℕ) → got_from s.local from ≤ got_from t.local from

act-heard : (s : NodeState) (e : Event) (t : NodeState) (a : Answer) → is_own e ≡ true
    → act s e ≡ Ok (t, a) → HeardMore s t
act-heard s e t a own answered =
    subst (HeardMore s) (sym (act-ok s e t a answered).state)
    (own-heard (own-stands s.local (map length s.sent) e own))

receive-heard : (s : NodeState) (m : Delivery) (t : NodeState) (a : Answer) → Receipt s m t a
    → HeardMore s t
receive-heard s m t a (repeated same says) = subst (HeardMore s) (sym same) (λ j. le_refl _)
receive-heard s m t a (next turn may found) =
    subst (HeardMore s) (sym found.state)
    (taken-heard s.local m.from m.number
    (taken-stands s.local m.from m.number m.message.stamp m.message.body) (omega arith))

pub heard-onward : Onward HeardMore
heard-onward = record {
  order = record {
    same = λ s from. le_refl _;
    both = λ s t u g h from. le_trans (g from) (h from);
  };
  acts = act-heard;
  receives = λ s m t a answered. receive-heard s m t a (receipt-cases s m t a answered);
}

pub run-heard : (shape : Shaped) (steps : List Step)
    → Behind HeardMore (run (new_world shape) steps)
run-heard shape steps =
    run-behind heard-onward (new_world shape) steps (new-behind heard-onward.order shape)

-- whatever was released stays so, in any space whose saved states are behind its current ones
pub net-onward : (w : World) (later : List Step) (f : Plain)
    → Behind SentMore w → Behind HeardMore w → IsInNet w f → IsInNet (run w later) f
net-onward w later (data_frame from to number stamp b) sent heard there =
    released-grows w (run w later) from to number (record { stamp = stamp; body = b })
    (run-saved sent-onward w later sent from to)
    there
net-onward w later (ack_frame by of number) sent heard there =
    let count : length (run w later).current ≡ length w.current = run-count w later in (
      subst (λ (n : ℕ). by < n) (sym count) there.0,
      subst (λ (n : ℕ). of < n) (sym count) there.1,
      there.2,
      le_trans there.3 (run-saved heard-onward w later heard by of),
    )

pub net-grows : OfEveryRun NetGrows
net-grows shape within earlier later f there =
    net-onward (run (new_world shape) earlier) later f
    (run-keeps-sent (new_world shape) earlier (new-keeps-sent shape)).sent
    (run-heard shape earlier)
    there

-- in the cut of all saved states, nothing was received that wasn't sent
acknowledged-sent : (shape : Shaped) → IsShape shape → (steps : List Step) (from to : ℕ)
    → acknowledged (run (new_world shape) steps) from to
    ≤ release_count (run (new_world shape) steps) from to
acknowledged-sent shape within steps from to =
    (all-base shape within steps (λ _. true)).within from to

pub none-beyond : OfEveryRun NoneBeyond
none-beyond shape within steps by of number there =
    le_trans there.3 (acknowledged-sent shape within steps of by)

pub acknowledged-is-taken-in : OfEveryRun AcknowledgedIsTakenIn
acknowledged-is-taken-in shape within steps by of number there =
    le_trans there.3 (run-heard shape steps by of)

pub ack-addressed : (shape : Shaped) → IsShape shape → (steps : List Step) (from to number : ℕ)
    → IsInNet (run (new_world shape) steps) (ack_frame from to number)
    → is_addressed (node_at (run (new_world shape) steps).current to).local from to ≡ true
ack-addressed shape within steps from to number there =
    let count = node-count shape steps in
    between-nodes (all-base shape within steps (λ _. false)) from to
    (subst (λ (n : ℕ). from < n) count there.0)
    (subst (λ (n : ℕ). to < n) count there.1)
    there.2

pub acknowledgements-go-through : OfEveryRun AcknowledgementsGoThrough
unfolding act
acknowledgements-go-through shape within steps a there =
    rw (ack-addressed shape within steps a.by a.of a.number there) refl

-- so the tests of a Hand pass
hand-passes : (w : World) (from to : ℕ)
    → from < length w.current → to < length w.current → from ≢ to
    → is_addressed (node_at w.current from).local to from ≡ true
    → acknowledged w from to ≤ release_count w from to
    → take_step w (step.Hand from to) ≡ Ok (w, outcome.Handed (acknowledged w from to))
unfolding take_step
hand-passes w from to f t apart addressed fewer =
    cond-true _ _ _
    (and_from _ _ (lt-ltb from (length w.current) f) (lt-ltb to (length w.current) t))
    ∙ cond-false _ _ _ (ne_eqb from to apart)
    ∙ cond-true _ _ _ addressed
    ∙ cond-true _ _ _ (le-leb _ _ fewer)

pub hands-go-through : OfEveryRun HandsGoThrough
hands-go-through shape within steps from to f t apart =
    let count = node-count shape steps in
    hand-passes (run (new_world shape) steps) from to f t apart
    (between-nodes (all-base shape within steps (λ _. false)) to from
    (subst (λ (k : ℕ). to < k) count t)
    (subst (λ (k : ℕ). from < k) count f)
    (λ e. apart (sym e)))
    (acknowledged-sent shape within steps from to)
