-- What isn't an event leaves the node's state as it was, and a frame that was taken may be given to
-- the node.
use Rattle.std.proofs.Common.{◌≡◌, ℕ, ◌<◌, true, false, [], ◌∷◌, slice_get, Some, Result, Ok, refl, sym, ap, ◌∙◌, subst}
use Rattle.std.proofs.Math.Logic.{∥∥₁_map}
use Rattle.ids.specs.declared.refusal.Refusal.{Refusal}
use Rattle.msg.specs.declared.frame.Ack.{Ack}
use Rattle.msg.specs.declared.frame.Data.{Data}
use Rattle.model.specs.declared.event.Event.{Event}
use Rattle.model.specs.declared.event.Event.TheVariants as event
use Rattle.model.specs.declared.event.Answer.{Answer}
use Rattle.model.specs.declared.event.Answer.TheVariants as answer
use Rattle.model.specs.declared.step.Step.{Step}
use Rattle.model.specs.declared.step.Step.TheVariants as step
use Rattle.model.specs.declared.step.Outcome.{Outcome}
use Rattle.model.specs.declared.step.Outcome.TheVariants as outcome
use Rattle.model.specs.State.{NodeState, node_at}
use Rattle.model.specs.Steps.{act, receive, taken_in, is_own}
use Rattle.model.specs.World.{World, take_step, outcome_of, world_after, happens, is_eventful}
use Rattle.laws.proofs.StepFacts.{Delivery, given_to, act-ok, Receipt, repeated, next, receipt-cases}
use Rattle.laws.proofs.NoEvent.{only-events-change}
use Rattle.wire.specs.Views.{Known}
use Rattle.msg.specs.Frames.{data_frame}
use Rattle.cell.specs.Desks.{IsTaken}
use Rattle.cell.specs.Events.{MayAct}
use Rattle.model.specs.Effects.{is_change}

-- a space of one node
abbrev alone : NodeState → World
alone s = record { current = s ∷ []; saved = s ∷ [] }

own-step : (s : NodeState) (e : Event) (t : NodeState) (a : Answer) → is_own e ≡ true
    → act s e ≡ Ok (t, a)
    → take_step (alone s) (step.Act 0 e)
    ≡ Ok (record { current = t ∷ []; saved = s ∷ [] }, outcome.Answer a)
unfolding take_step
own-step s e t a own answered = rw (own, answered) refl

pub quiet-own : (s : NodeState) (e : Event) (t : NodeState) (a : Answer) → is_own e ≡ true
    → act s e ≡ Ok (t, a) → is_change a ≡ false → t ≡ s
quiet-own s e t a own answered quiet =
    let stepped = own-step s e t a own answered in
    let same : happens (alone s) (step.Act 0 e) ≡ alone s =
    only-events-change (alone s) (step.Act 0 e)
    (ap (λ (r : Result (World × Outcome) Refusal). is_eventful (outcome_of r)) stepped ∙ quiet) in
    ap (λ (w : World). node_at w.current 0)
    (sym (ap (world_after (alone s)) stepped) ∙ same)

-- an acknowledgement changes no state
pub quiet-ack : (s : NodeState) (x : Ack) (t : NodeState) (a : Answer)
    → act s (event.Ack x) ≡ Ok (t, a) → t ≡ s
quiet-ack s x t a answered = (act-ok s (event.Ack x) t a answered).state

quiet-receipt : (s : NodeState) (m : Delivery) (t : NodeState) (a : Answer) → Receipt s m t a
    → is_change a ≡ false → t ≡ s
unfolding taken_in
quiet-receipt s m t a (repeated same says) quiet = same
quiet-receipt s m t a (next turn may found) quiet =
    absurd (let received : is_change answer.Received ≡ false =
    subst (λ (x : Answer). is_change x ≡ false) found.answer quiet in cc)

-- a message, as it is delivered
abbrev delivery_of : Data → Delivery
delivery_of d = record {
  from = d.from;
  to = d.to;
  number = d.number;
  message = record { stamp = d.stamp; body = d.body };
}

received : (s : NodeState) (d : Data) (t : NodeState) (a : Answer)
    → act s (event.Data d) ≡ Ok (t, a) → given_to s (delivery_of d) ≡ Ok (t, a)
unfolding act receive
received s d t a answered = answered

pub own-may : (v : Known) (e : Event) (i : ℕ) → i ≡ v.me → is_own e ≡ true
    → MayAct v e (step.Act i e)
own-may v e i me own = record {
  happens = λ t a answered counts. (me, own, refl, (a, answered, counts));
  quiet = λ t a answered quiet. quiet-own v.pair.current e t a own answered quiet;
}

-- which step the receipt of a message is
abbrev pub delivered-by : ℕ → Event → Step
delivered-by me (event.Data d) = step.Deliver d.from me d.number
delivered-by me e = step.Act me e

-- a message whose frame was taken from another node
pub data-may : (v : Known) (d : Data) → IsTaken v.taken d → d.to ≡ v.me → d.from < v.nodes
    → MayAct v (event.Data d) (step.Deliver d.from v.me d.number)
data-may v d taken to from = record {
  happens = λ t a answered counts. (
    refl,
    from,
    refl,
    (
      record { stamp = d.stamp; body = d.body },
      a,
      ∥∥₁_map taken (λ at. (
        at.0,
        subst (λ (i : ℕ).
            slice_get v.taken at.0 ≡ Some (data_frame d.from i d.number d.stamp d.body)) to at.1,
      )),
      subst (λ (i : ℕ). receive v.pair.current d.from i d.number d.stamp d.body ≡ Ok (t, a)) to
          (received v.pair.current d t a answered),
      counts,
    ),
  );
  quiet = λ t a answered quiet.
      quiet-receipt v.pair.current (delivery_of d) t a
      (receipt-cases v.pair.current (delivery_of d) t a
      (received v.pair.current d t a answered)) quiet;
}
