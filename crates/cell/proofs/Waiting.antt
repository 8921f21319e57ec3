-- A message that waits for its turn: its frame was taken, and which event it is.
use Rattle.std.proofs.Common.{◌≡◌, ℕ, zero, suc, ◌+◌, ◌<◌, ap, true, List, [], ◌∷◌, ◌++◌, length, Option, Some, None, Result, refl, sym, ◌∙◌, subst, arith}
use Rattle.std.proofs.Math.Logic.{∥∥₁_elim, ∥∥₁_map}
use Rattle.std.proofs.Props.{props}
use Rattle.ids.specs.declared.limits.TheConstants.{WINDOW}
use Rattle.ids.specs.declared.refusal.Refusal.{Refusal}
use Rattle.msg.specs.Frames.{Plain, plain_data}
use Rattle.msg.specs.declared.frame.Data.{Data}
use Rattle.model.specs.declared.event.Event.{Event}
use Rattle.model.specs.declared.event.Event.TheVariants as event
use Rattle.model.specs.declared.event.Answer.{Answer}
use Rattle.model.specs.declared.step.Step.TheVariants as step
use Rattle.model.specs.State.{LocalState, got_from}
use Rattle.model.specs.Steps.{is_own}
use Rattle.model.proofs.Lookups.{get_or-replicate_any}
use Rattle.laws.proofs.Lookups.{slice_get-append}
use Rattle.node.specs.Keeping.{AreKeptIn, Rings, WholeNode, early_after, met, next_event, next_step, no_rings, own_step, waiting}
use Rattle.node.proofs.Kept.{after-all, of-none}
use Rattle.wire.specs.Plays.{IsSupplied}
use Rattle.wire.specs.Views.{Known}
use Rattle.cell.specs.Desks.{AreTaken, IsTaken}
use Rattle.cell.specs.Events.{IsDue, MayAct}
use Rattle.cell.proofs.Quiet.{data-may, own-may}

-- ---- What is kept was taken

pub taken-none : (taken : List Plain) (nodes : ℕ) → AreTaken taken (no_rings nodes)
taken-none taken nodes = record { each = of-none (λ from d. IsTaken taken d) nodes }

-- more was taken
pub taken-more : (taken more : List Plain) (es : Rings) → AreTaken taken es
    → AreTaken (taken ++ more) es
taken-more taken more es h = record {
  each = λ from place d there.
      ∥∥₁_map (h.each from place d there)
      (λ at. (at.0, slice_get-append taken more at.0 _ at.1));
}

pub taken-after : (taken : List Plain) (p : LocalState) (es : Rings) (e : Event)
    (r : Result Answer Refusal) → AreTaken taken es
    → ((d : Data) → e ≡ event.Data d → IsTaken taken d) → AreTaken taken (early_after p es e r)
taken-after taken p es e r h new =
    record { each = after-all (λ from d. IsTaken taken d) p es e r h.each new }

-- the same of the node that answered an event, and of its seat, which took nothing then
pub acted-taken : {taken now : List Plain} {es new : Rings} (p : LocalState) (e : Event)
    (r : Result Answer Refusal) → AreTaken taken es
    → ((d : Data) → e ≡ event.Data d → IsTaken taken d) → new ≡ early_after p es e r → now ≡ taken
    → AreTaken now new
acted-taken {taken} {es = es} {new} p e r h its early same =
    subst (λ (ts : List Plain). AreTaken ts new) (sym same)
    (subst (AreTaken taken) (sym early) (taken-after taken p es e r h its))

-- ---- As an event

-- a node at its seat, with messages that the seat took
pub record SitsAt (v : Known) (n : WholeNode) : Type 0 where
  pub own : n.core.local.own ≡ v.me
  pub nodes : n.core.local.shape.nodes ≡ v.nodes
  pub kept : AreKeptIn n
  pub taken : AreTaken v.taken n.early

waits-within : (es : Rings) (from : ℕ) (d : Data) → waiting es from ≡ Some d → from < length es
waits-within [] from d there =
    let none : ◌≡◌ {A = Option Data} None (Some d) =
    sym (get_or-replicate_any {A = Option Data} WINDOW 0 None) ∙ there in
    absurd cc
waits-within (x ∷ xs) zero d there = omega arith
waits-within (x ∷ xs) (suc k) d there =
    let inside = waits-within xs k d there in omega (arith, inside)

-- a waiting message may be delivered to a node at its seat
pub waiting-may : (v : Known) (n : WholeNode) (from : ℕ) (d : Data) → SitsAt v n
    → waiting n.early from ≡ Some d → MayAct v (event.Data d) (step.Deliver from v.me d.number)
waiting-may v n from d h there =
    let at = h.kept.named from 0 d there in
    let inside : from < v.nodes =
    subst (λ (k : ℕ). from < k) (h.kept.width ∙ h.nodes) (waits-within n.early from d there) in
    subst (λ (i : ℕ). MayAct v (event.Data d) (step.Deliver i v.me d.number)) at.sender
    (data-may v d (h.taken.each from 0 d there) (at.receiver ∙ h.own)
    (subst (λ (i : ℕ). i < v.nodes) (sym at.sender) inside))

-- the waiting message is due
pub waiting-due : (v : Known) (n : WholeNode) (from : ℕ) (d : Data) → SitsAt v n → IsSupplied v
    → waiting n.early from ≡ Some d → IsDue v n.core.local d
waiting-due v n from d h supplied there =
    let at = h.kept.named from 0 d there in
    record {
      arrives = ∥∥₁_elim (h.taken.each from 0 d there) (hlevel props) (λ taken.
          ∥∥₁_map supplied (λ l. record {
            log = l.0;
            events = l.1.events;
            net = l.1.net taken.0 (plain_data d) taken.1;
            pair = l.1.pair;
            own = l.1.own;
          }));
      receiver = at.receiver ∙ h.own;
      turn = at.number
          ∙ ap (λ (k : ℕ). got_from n.core.local k + 1 + 0) (sym at.sender)
          ∙ (let z : got_from n.core.local d.from + 1 + 0 ≡ got_from n.core.local d.from + 1 =
          omega arith in z);
    }

-- nothing else is
pub none-due : (v : Known) (p : LocalState) (from : ℕ) (d : Data)
    → event.Next from ≡ event.Data d → IsDue v p d
none-due v p from d never = absurd cc

-- an event of the node's own is what it is to the core, which is this step
pub own-met-may : (v : Known) (n : WholeNode) → SitsAt v n → (e : Event) → is_own e ≡ true
    → MayAct v (met n.early e) (own_step n.early v.me e)
own-met-may v n h (event.Next from) own =
    by (waiting n.early from) refl
  where
    by : (o : Option Data) → waiting n.early from ≡ o
        → MayAct v (next_event from o) (next_step v.me from o)
    by None is = own-may v (event.Next from) v.me refl own
    by (Some d) is = waiting-may v n from d h is
own-met-may v n h e own = own-may v e v.me refl own

-- a message that `Next` is to the core is due
pub own-met-due : {v : Known} {n : WholeNode} → SitsAt v n → IsSupplied v → (e : Event)
    → (from : ℕ) (d : Data) → e ≡ event.Next from → met n.early e ≡ event.Data d
    → IsDue v n.core.local d
own-met-due {v} {n} h supplied e from d next is =
    by (waiting n.early from) refl
    (subst (λ (x : Event). met n.early x ≡ event.Data d) next is)
  where
    by : (o : Option Data) → waiting n.early from ≡ o → next_event from o ≡ event.Data d
        → IsDue v n.core.local d
    by None is same = none-due v n.core.local from d same
    by (Some x) is same =
        subst (IsDue v n.core.local) (let told : x ≡ d = cc in told)
        (waiting-due v n from x h supplied is)

-- an event of the node's own brings no frame
pub own-brings : (taken : List Plain) (e : Event) → is_own e ≡ true
    → (d : Data) → e ≡ event.Data d → IsTaken taken d
own-brings taken e own d is =
    let never : is_own (event.Data d) ≡ true = subst (λ (x : Event). is_own x ≡ true) is own in
    absurd cc
