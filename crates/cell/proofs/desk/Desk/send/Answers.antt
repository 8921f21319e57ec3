use Rattle.std.proofs.Common.{◌≡◌, Bool, true, false, List, refl, slice_index_or, slice_set, sym, ◌∙◌, subst, ℕ}
use Rattle.std.proofs.lemmas.Result.{err_from_is_err_and}
use Rattle.msg.specs.Frames.{Plain}
use Rattle.model.specs.View.{NodeView}
use Rattle.wire.specs.Readers.{known, outbox}
use Rattle.wire.specs.Views.{Known}
use Rattle.cell.specs.declared.desk.Desk.TheInside.{Inside}
use Rattle.wire.specs.Rule.{Spells}
use Rattle.wire.specs.Plays.{Releases}
use Rattle.wire.specs.Sending.{IsSent, frame_due, next_place, places_after}
use Rattle.cell.proofs.Releasing.{due-releases}
use Rattle.wire.proofs.Mailed.{due-to, sent-pair, sent-taken}
use Rattle.cell.proofs.Seats.{other-on, same-facts}
use Rattle.cell.proofs.desk.Desk.send.Goals as goal

placed : {is : Bool} {i j next : ℕ} (n : NodeView) (to : ℕ) (places : List ℕ) → is ≡ true → i ≡ to
    → j ≡ to → next ≡ next_place n to (slice_index_or places i 0)
    → slice_set places j next ≡ places_after is n to places
placed n to places sent from at follows = rw (sent, follows, from, at) refl

-- the frame that is due, by the place that was read
sent-by : (desk : Inside) (to : ℕ) {place : ℕ} (is : Bool) (w : Known) → place ≡ to
    → IsSent (outbox desk.seat to)
    (frame_due desk.logged.node.core to (slice_index_or desk.places place 0)) is (known desk.seat) w
    → IsSent (outbox desk.seat to)
    (frame_due desk.logged.node.core to (slice_index_or desk.places to 0)) is (known desk.seat) w
sent-by desk to is w same sent =
    subst (λ (i : ℕ). IsSent (outbox desk.seat to)
    (frame_due desk.logged.node.core to (slice_index_or desk.places i 0)) is (known desk.seat) w)
    same sent

unplaced : (is : Bool) (n : NodeView) (to : ℕ) (places : List ℕ) → is ≡ false
    → places ≡ places_after is n to places
unplaced is n to places unsent = rw unsent refl

pub send-is_sent-requires-clause-to : goal.send-is_sent-requires-clause-to
send-is_sent-requires-clause-to c =
    other-on c.self.inside c.args.wire.now c.args.to
    (rw (← c.self.view_is) at c.requires.wire) (rw (← c.self.view_is) at c.requires.other)

pub send-is_sent-requires-clause-spelled : goal.send-is_sent-requires-clause-spelled
send-is_sent-requires-clause-spelled c =
    subst (λ (f : Plain). Spells f c.in_ok-bytes.bytes.items) c.due-next.ensures.frame
    c.in_ok-bytes.ensures.spelled

pub send-is_sent-requires-clause-receiver : goal.send-is_sent-requires-clause-receiver
send-is_sent-requires-clause-receiver c =
    due-to c.self.inside.logged.node.core c.args.to
    (slice_index_or c.self.inside.places c.from.result 0)

pub send-is_sent-requires-clause-released : goal.send-is_sent-requires-clause-released
send-is_sent-requires-clause-released c =
    let desk = c.self.inside in
    let place = slice_index_or desk.places c.from.result 0 in
    subst (λ (i : ℕ). Releases i (known desk.seat).pair.saved
    (frame_due desk.logged.node.core c.args.to place))
    (sym desk.at.own ∙ desk.seat.sits.me_is)
    (due-releases c.args.to place desk.stands (rw (← c.self.view_is) at c.requires.other))

pub invariant_of-self-inside : goal.invariant_of-self-inside
invariant_of-self-inside c =
    let sent = c.send-is_sent.ensures.sent in
    same-facts c.self.inside c.send-is_sent.new.seat c.send-is_sent.ensures.same
    (sent-pair _ _ c.send-is_sent.result _ _ sent) (sent-taken _ _ c.send-is_sent.result _ _ sent)

pub invariant_of-self-inside-else-is_sent : goal.invariant_of-self-inside-else-is_sent
invariant_of-self-inside-else-is_sent c =
    let sent = c.send-is_sent.ensures.sent in
    same-facts c.self.inside c.send-is_sent.new.seat c.send-is_sent.ensures.same
    (sent-pair _ _ c.send-is_sent.result _ _ sent) (sent-taken _ _ c.send-is_sent.result _ _ sent)

pub returns-in_err-bytes : goal.returns-in_err-bytes
returns-in_err-bytes c =
    let p = err_from_is_err_and c.from_residual.result c.from_residual.ensures.1 in
    rw (p.1, p.2) (record {
      same = (refl, refl, refl, refl, refl);
      sent = tt;
      places = tt;
      refused = (c.in_err-bytes.ensures.refused, refl);
      stays = refl;
    })

pub returns-then-is_sent : goal.returns-then-is_sent
returns-then-is_sent c =
    let desk = c.self.inside in
    rw (← c.self.view_is) (record {
      same = c.send-is_sent.ensures.same;
      sent = sent-by desk c.args.to _ _ c.from.ensures c.send-is_sent.ensures.sent;
      places = placed desk.logged.node.core c.args.to desk.places c.if-is_sent.true c.from.ensures
          c.from-then-is_sent.ensures c.due-next.ensures.next;
      refused = tt;
      stays = refl;
    })

pub returns-else-is_sent : goal.returns-else-is_sent
returns-else-is_sent c =
    let desk = c.self.inside in
    rw (← c.self.view_is) (record {
      same = c.send-is_sent.ensures.same;
      sent = sent-by desk c.args.to _ _ c.from.ensures c.send-is_sent.ensures.sent;
      places = unplaced _ desk.logged.node.core c.args.to desk.places c.if-is_sent.false;
      refused = tt;
      stays = refl;
    })
