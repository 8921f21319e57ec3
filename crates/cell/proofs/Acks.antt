-- An acknowledgement that came over the wire is never refused.
use Rattle.std.proofs.Common.{◌≡◌, ◌≢◌, ◌≤◌, ◌<◌, ℕ, true, length, Result, Err, le-leb, refl, sym, ap, ◌∙◌, subst, arith}
use Rattle.std.specs.Prelude.{nat_le, IfErr, IsOk, IsTrue}
use Rattle.ids.specs.declared.refusal.Refusal.{Refusal}
use Rattle.ids.specs.declared.refusal.Refusal.TheVariants.{Memory}
use Rattle.msg.specs.Frames.{plain, plain_ack}
use Rattle.msg.specs.declared.frame.Ack.{Ack}
use Rattle.msg.specs.declared.frame.Frame.{Frame}
use Rattle.msg.specs.declared.frame.Frame.TheVariants as frame
use Rattle.model.specs.declared.event.Answer.{Answer}
use Rattle.model.specs.declared.event.Event.TheVariants as event
use Rattle.model.specs.State.{LocalState, NodeState, node_at, sent_to}
use Rattle.model.specs.Steps.{is_addressed, is_memory_free}
use Rattle.model.specs.View.{NodeView, link_to, view_act}
use Rattle.model.specs.World.{World, release_count, run, IsInNet}
use Rattle.model.proofs.Refusals.{refused-as}
use Rattle.laws.proofs.Net.{ack-addressed, none-beyond}
use Rattle.wire.specs.Rule.{receiver}
use Rattle.wire.specs.Sending.{emptied}
use Rattle.wire.specs.Views.{Pair}
use Rattle.cell.specs.Events.{event_of, Handled}
use Rattle.cell.specs.Laws.{CellsRefuseNoAck}
use Rattle.cell.specs.Reached.{IsReached}
use Rattle.cell.proofs.AlikeRuns.{acks-like, sent-like}
use Rattle.cell.proofs.Reaches.{end_of, stays-reached}

-- an acknowledgement in the net is for its receiver, and covers released messages alone
record Fits (w : World) (a : Ack) : Type 0 where
  addressed : is_addressed (node_at w.current a.of).local a.by a.of ≡ true
  within : a.number ≤ release_count w a.of a.by

acks-fit : (w : World) (a : Ack) → IsReached w → IsInNet w (plain_ack a) → Fits w a
acks-fit w a r there =
    let end : World = end_of r in
    let count = r.by.current.width in
    let acks = acks-like w end a.of a.by r.by in
    let number = there.3 in
    let also : IsInNet end (plain_ack a) = (
      subst (λ (n : ℕ). a.by < n) count there.0,
      subst (λ (n : ℕ). a.of < n) count there.1,
      there.2,
      omega (arith, acks, number),
    ) in
    let sent = sent-like w end a.of a.by r.by in
    let fewer = none-beyond r.shape r.limits r.steps a.by a.of a.number also in
    record {
      addressed = ap (λ (p : LocalState). is_addressed p a.by a.of)
          (r.by.current.each a.of).local
          ∙ ack-addressed r.shape r.limits r.steps a.by a.of a.number also;
      within = omega (arith, sent, fewer);
    }

accepted : (n : NodeView) (a : Ack) → is_addressed n.local a.by a.of ≡ true
    → nat_le a.number (link_to n a.by).kept ≡ true → IsOk (view_act n (event.Ack a))
unfolding view_act
accepted n a addressed within = rw (addressed, within) refl

not-refused : (r : Result (NodeView × Answer) Refusal) (e : Refusal) → IsOk r → r ≡ Err e → ⊥
not-refused r e ok is = absurd (let never = subst IsOk is ok in cc)

pub cells-refuse-no-ack : CellsRefuseNoAck
cells-refuse-no-ack a me width old v reached stands refusing =
    let took = refusing.took in
    let is = refusing.is in
    let e = refusing.refusal in
    let w : World = run v.opening took.arrives.log in
    let net : IsInNet w (plain_ack a) =
    subst (λ (f : Frame). IsInNet w (plain f)) is took.arrives.net in
    let taken = emptied refusing.box took.taken took.cleared (plain took.frame) v in
    let handled : Handled (frame.Ack a) (Err e) old refusing.new taken refusing.w =
    subst (λ (f : Frame). Handled f (Err e) old refusing.new taken refusing.w) is took.handled in
    let plenty : e ≢ Memory =
    subst (λ (f : Frame). IsTrue (is_memory_free old.core.local (event_of f))
    → IfErr {T = Answer} (Err e) (λ x. x ≢ Memory)) is took.memory_free refl in
    let refused = refused-as handled.performs plenty in
    let of : a.of ≡ v.me =
    sym (ap (λ (f : Frame). receiver (plain f)) is) ∙ took.receiver in
    let current : node_at w.current a.of ≡ v.pair.current =
    ap (λ (i : ℕ). node_at w.current i) of ∙ ap (λ (p : Pair). p.current) took.arrives.pair in
    let saved : node_at w.saved a.of ≡ v.pair.saved =
    ap (λ (i : ℕ). node_at w.saved i) of ∙ ap (λ (p : Pair). p.saved) took.arrives.pair in
    let fits = acks-fit w a (stays-reached v.opening took.arrives.log reached) net in
    let kept : (link_to old.core a.by).kept ≡ release_count w a.of a.by =
    stands.released a.by ∙ sym (ap (λ (s : NodeState). length (sent_to s a.by)) saved) in
    let within = fits.within in
    not-refused (view_act old.core (event.Ack a)) e
    (accepted old.core a
    (ap (λ (p : LocalState). is_addressed p a.by a.of)
    (stands.shows.local ∙ ap (λ (s : NodeState). s.local) (sym current)) ∙ fits.addressed)
    (le-leb a.number (link_to old.core a.by).kept (omega (arith, kept, within))))
    refused
