-- The frame that a desk's node sends next is one that its saved state releases.
use Rattle.std.proofs.Common.{◌≡◌, ℕ, ◌+◌, ◌<◌, true, List, length, take, Option, Some, None, slice_get, refl, sym, ap, ◌∙◌, subst, arith}
use Rattle.std.specs.Prelude.{slice_index_or}
use Rattle.std.specs.Option.{option_map}
use Rattle.std.proofs.lemmas.Bool.{cond-true}
use Rattle.msg.specs.Frames.{Plain}
use Rattle.msg.specs.declared.body.Message.{Message}
use Rattle.model.specs.State.{got_from, sent_to}
use Rattle.model.specs.View.{NodeView, is_other, link_to, released_at}
use Rattle.model.proofs.Lookups.{slice_get-drop, slice_get-take}
use Rattle.laws.proofs.Carried.{apart, in-place, numbered-in}
use Rattle.node.specs.Frames.{frame_of}
use Rattle.wire.specs.Views.{Pair}
use Rattle.wire.specs.Plays.{Releases}
use Rattle.cell.specs.Desks.{StandsAt}
use Rattle.wire.specs.Sending.{frame_or_ack, frame_due}

-- the saved state sent such a message
saved-place : {me width : ℕ} {p : Pair} {n : NodeView} (to place : ℕ) (x : Message)
    → StandsAt me width p n → released_at (link_to n to) place ≡ Some x
    → slice_get (sent_to p.saved to) ((link_to n to).base + place) ≡ Some x
saved-place {p = p} {n = n} to place x h found =
    let l = link_to n to in
    let at = in-place l place x found in
    let few = length (sent_to p.saved to) in
    let sent = sent_to p.current to in
    let below : l.base + place < length (take few sent) =
    subst (λ (k : ℕ). l.base + place < k) (h.released to ∙ sym (ap length (h.behind to)))
    at.before in
    ap (λ (xs : List Message). slice_get xs (l.base + place)) (sym (h.behind to))
    ∙ sym (slice_get-take sent few (l.base + place) below)
    ∙ sym (slice_get-drop sent l.base place)
    ∙ ap (λ (xs : List Message). slice_get xs place) (sym (h.shows.links to).unacknowledged)
    ∙ at.there

due-by : {me width : ℕ} {p : Pair} {n : NodeView} (to place : ℕ) (o : Option Message)
    → StandsAt me width p n → is_other n.local to ≡ true → released_at (link_to n to) place ≡ o
    → Releases me p.saved
    (frame_or_ack n to
    (option_map (frame_of n.local.own to ((link_to n to).base + 1 + place)) o))
due-by {p = p} {n = n} to place None h other found = (
  h.own,
  (λ same. apart n.local to other (same ∙ sym h.own)),
  (let same : slice_index_or n.acks to 0 ≡ got_from p.saved.local to =
      ap (λ (got : List ℕ). slice_index_or got to 0) h.acks in
      omega (arith, same)),
)
due-by {p = p} {n = n} to place (Some x) h other found = (
  h.own,
  (λ same. apart n.local to other (same ∙ sym h.own)),
  numbered-in (sent_to p.saved to) ((link_to n to).base + place)
      ((link_to n to).base + 1 + place) x (omega arith)
      (saved-place to place x h found),
)

pub due-releases : {me width : ℕ} {p : Pair} {n : NodeView} (to place : ℕ)
    → StandsAt me width p n → is_other n.local to ≡ true
    → Releases me p.saved (frame_due n to place)
due-releases {me} {p = p} {n = n} to place h other =
    subst (λ (o : Option Plain). Releases me p.saved (frame_or_ack n to o))
    (sym (cond-true (is_other n.local to)
    (option_map (frame_of n.local.own to ((link_to n to).base + 1 + place))
    (released_at (link_to n to) place)) None other))
    (due-by to place (released_at (link_to n to) place) h other refl)
