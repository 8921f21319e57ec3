-- A delivery of the code's space is that of the definitions.
use Rattle.std.proofs.Common.{◌≡◌, ◌≢◌, ℕ, zero, suc, ◌+◌, ◌-◌, ◌<◌, Bool, true, false, ◌||◌, not, cond, List, length, Option, Some, None, Result, Ok, Err, ltb, refl, ap, sym, ◌∙◌, subst, arith, eq-eqb}
use Rattle.std.proofs.lemmas.Bool.{ne_eqb, cond-true, cond-false}
use Rattle.ids.specs.declared.refusal.Refusal.{Refusal}
use Rattle.ids.specs.declared.refusal.Refusal.TheVariants.{BadFrame, ImageTooLarge}
use Rattle.frames.specs.Grammar.{spelling, Fits}
use Rattle.msg.specs.Frames.{Plain, data_frame, plain_data}
use Rattle.msg.specs.declared.body.Body.{Body}
use Rattle.msg.specs.declared.body.Message.{Message}
use Rattle.msg.specs.declared.frame.Data.{Data}
use Rattle.model.specs.declared.event.Event.TheVariants as event
use Rattle.model.specs.declared.event.Answer.{Answer}
use Rattle.model.specs.declared.step.Step.TheVariants as step
use Rattle.model.specs.declared.step.Outcome.TheVariants as outcome
use Rattle.model.specs.State.{LocalState, NodeState, node_at}
use Rattle.model.specs.Steps.{act, receive}
use Rattle.model.specs.World.{World, take_step, moved, released, delivery, is_free_message}
use Rattle.world.specs.Outboxes.{IsFrameOf}
use Rattle.world.specs.Sites.{SiteView}
use Rattle.world.specs.Shows.{ShowsWorld, Stepped, Given, frame_at}
use Rattle.world.specs.Spaces.{outcome_by}
use Rattle.world.proofs.Steps.{Gives, LetsGo, given, moves, lets-nothing-go, never, nothing, are-nodes}

-- a number has a message and its frame, or neither
both-numbered : (from to place : ℕ) (b : Bool) (sent : Option Message) (frame : Option (List ℕ))
    → IsFrameOf from to place sent frame
    → IsFrameOf from to place (cond b sent None) (cond b frame None)
both-numbered from to place true sent frame h = h
both-numbered from to place false sent frame h = tt

both-released : (n : List SiteView) (w : World) (from to number : ℕ) → ShowsWorld n w → from ≢ to
    → IsFrameOf from to (number - 1) (released w from to number) (frame_at n from to number)
both-released n w from to number h apart =
    subst (λ (o : Option Message). IsFrameOf from to (number - 1) o (frame_at n from to number))
    (sym (cond-false _ _ _ (ne_eqb from to apart)))
    (both-numbered from to (number - 1) (ltb 0 number) _ _
    ((h.each from).released to (number - 1) apart))

missing-as : (from to place : ℕ) (sent : Option Message) → IsFrameOf from to place sent None
    → sent ≡ None
missing-as from to place None h = refl
missing-as from to place (Some x) h = absurd h

-- nothing was released under this number
deliver-nothing : (n : List SiteView) (from to number : ℕ) → from < length n → to < length n
    → ((w : World) → ShowsWorld n w → released w from to number ≡ None)
    → Stepped (Ok outcome.NoFrame) n n (step.Deliver from to number)
unfolding take_step
deliver-nothing n from to number less below none =
    nothing n (step.Deliver from to number) outcome.NoFrame
    (λ w h. cond-true _ _ _ (are-nodes h from to less below)
    ∙ ap (delivery w from to number) (none w h)) (λ saves. saves) refl

pub deliver-to-itself : (n : List SiteView) (from to number : ℕ) → from < length n → to < length n
    → from ≡ to → Stepped (Ok outcome.NoFrame) n n (step.Deliver from to number)
deliver-to-itself n from to number less below same =
    deliver-nothing n from to number less below (λ w h. cond-true _ _ _ (eq-eqb from to same))

pub deliver-missing : (n : List SiteView) (from to number : ℕ) → from < length n → to < length n
    → from ≢ to → frame_at n from to number ≡ None
    → Stepped (Ok outcome.NoFrame) n n (step.Deliver from to number)
deliver-missing n from to number less below apart none =
    deliver-nothing n from to number less below
    (λ w h. missing-as from to (number - 1) _
    (rw none at (both-released n w from to number h apart)))

-- ---- a message that was released

-- what was released under a number is the frame of this message
pub record IsReleased (w : World) (from to number : ℕ) (bytes : List ℕ) : Type 0 where
  pub message : Message
  pub there : released w from to number ≡ Some message
  pub fits : Fits (data_frame from to number message.stamp message.body)
  pub spelled : bytes ≡ spelling (data_frame from to number message.stamp message.body)

released-as : {bytes : List ℕ} (w : World) (from to number : ℕ) (sent : Option Message)
    → released w from to number ≡ sent → number - 1 + 1 ≡ number
    → IsFrameOf from to (number - 1) sent (Some bytes) → IsReleased w from to number bytes
released-as w from to number None is back h = absurd h
released-as w from to number (Some x) is back h =
    let frame = rw back at h in
    record { message = x; there = is; fits = frame.0; spelled = frame.1 }

-- numbers begin with 1
above-zero : (n : List SiteView) (from to number : ℕ) (bytes : List ℕ)
    → frame_at n from to number ≡ Some bytes → number - 1 + 1 ≡ number
above-zero n from to zero bytes h = let e : ◌≡◌ {A = Option (List ℕ)} None (Some bytes) = h in
    absurd cc
above-zero n from to (suc k) bytes h = omega arith

-- a node's receipt of a message's frame
act-receives : (s : NodeState) (d : Data) (from to number : ℕ) (x : Message)
    → plain_data d ≡ data_frame from to number x.stamp x.body
    → act s (event.Data d) ≡ receive s from to number x.stamp x.body
unfolding act receive
act-receives s d from to number x h = cc

-- if the delivery of a released message never fails for lack of memory, the message needs none
next-free : (nodes : Bool) (p : LocalState) (from number : ℕ) (sent : Option Message) (x : Message)
    → nodes ≡ true → sent ≡ Some x → (not nodes || is_free_message p from number sent) ≡ true
    → is_free_message p from number (Some x) ≡ true
next-free nodes p from number sent x are is h = rw (are, is) at h

-- if the node is given the frame of a released message, that is the message's delivery
pub delivery-gives : {n : List SiteView} {w : World} {from to number : ℕ} {d : Data} (x : Message)
    → ShowsWorld n w → from < length n → to < length n → released w from to number ≡ Some x
    → plain_data d ≡ data_frame from to number x.stamp x.body
    → Gives n w to (event.Data d) (step.Deliver from to number) outcome.Answer
unfolding take_step
delivery-gives {w = w} {from = from} {to = to} {number = number} {d = d} x shown less below there
    same =
    let are = are-nodes shown from to less below in
    let received = act-receives (node_at w.current to) d from to number x same in
    let sender : d.from ≡ from = cc in
    let place : d.number ≡ number = cc in
    let body : d.body ≡ x.body = cc in
    moves shown refl refl
    (cond-true _ _ _ are ∙ ap (delivery w from to number) there ∙ ap (moved w to) (sym received))
    (λ free. rw (sender, place, body)
    (next-free _ (node_at w.current to).local from number _ x are there free))

pub delivery-lets-go : (from to number : ℕ) (d : Data)
    → LetsGo to (event.Data d) (step.Deliver from to number) outcome.Answer
delivery-lets-go from to number d =
    lets-nothing-go to (event.Data d) (step.Deliver from to number) refl (λ all x. refl)

module _ {n : List SiteView} {from to number : ℕ} {bytes : List ℕ} (apart : from ≢ to)
    (there : frame_at n from to number ≡ Some bytes) where
  pub found : (w : World) → ShowsWorld n w → IsReleased w from to number bytes
  found w h =
      released-as w from to number (released w from to number) refl
      (above-zero n from to number bytes there)
      (rw there at (both-released n w from to number h apart))

  -- it is never read as anything but a message
  pub deliver-never : (e : Refusal) → e ≡ BadFrame
      → ((x : Plain) → Fits x → bytes ≡ spelling x → (stamp : ℕ) (b : Body) → x
      ≡ data_frame from to number stamp b → ⊥) → Stepped (Err e) n n (step.Deliver from to number)
  deliver-never e bad wrong =
      never n (step.Deliver from to number) e
      (λ size. let other : BadFrame ≡ ImageTooLarge = sym bad ∙ size in absurd cc) (λ saves. saves)
      (λ w h. let x = found w h in wrong _ x.fits x.spelled x.message.stamp x.message.body refl)

  pub delivered : {m : List SiteView} {d : Data} {r : Result Answer Refusal} → from < length n
      → Given r n m to (event.Data d)
      → ((x : Plain) → Fits x → bytes ≡ spelling x → plain_data d ≡ x)
      → Stepped (outcome_by outcome.Answer r) n m (step.Deliver from to number)
  delivered {d = d} less h reads =
      given h (delivery-lets-go from to number d) (λ saves. saves)
      (λ w shown.
      let x = found w shown in
      delivery-gives x.message shown less h.within x.there (reads _ x.fits x.spelled))
