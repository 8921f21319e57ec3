-- What a frame that goes through a mailbox changes of what a seat knows.
use Rattle.std.proofs.Common.{◌++◌, ◌∷◌, ◌≡◌, ℕ, ◌+◌, ◌*◌, Bool, true, false, List, [], MatchOption, Option, Some, None, Result, Ok, Err, refl, sym, ap, ◌∙◌}
use Rattle.std.specs.Prelude.{cond, IfErr, IfOk}
use Rattle.ids.specs.declared.refusal.Refusal.{Refusal}
use Rattle.ids.specs.declared.refusal.Refusal.TheVariants.{Memory}
use Rattle.std.specs.Option.{option_map}
use Rattle.std.proofs.lemmas.List.{append-nil}
use Rattle.frames.proofs.Frames.{no_spelling_begins_another}
use Rattle.msg.specs.Frames.{Plain, plain}
use Rattle.frames.specs.Grammar.{is_letter, spelling}
use Rattle.msg.specs.declared.body.Message.{Message}
use Rattle.msg.specs.declared.frame.Frame.{Frame}
use Rattle.model.specs.View.{NodeView, is_other, link_to, released_at}
use Rattle.node.specs.Frames.{frame_of}
use Rattle.wire.specs.Lists.{found}
use Rattle.wire.specs.Plays.{Arrives}
use Rattle.wire.specs.Readers.{inbox, known, IsSame}
use Rattle.wire.specs.Rule.{receiver, sender, Spells}
use Rattle.wire.specs.Sending.{emptied, frame_due, frame_or_ack, IsSent, TookOut}
use Rattle.wire.specs.Views.{FindsOther, Known, takes_in}
use Rattle.wire.specs.declared.seats.NodeSeat.{NodeSeat}
use Rattle.wire.proofs.Lists.{found-here}

-- bytes spell at most one frame
pub one_frame : {bytes : List ℕ} (f g : Plain) → Spells f bytes → Spells g bytes → f ≡ g
one_frame f g first second =
    (no_spelling_begins_another f g [] first.0 second.0
    (append-nil (spelling f) ∙ sym first.1 ∙ second.1)).1

-- the mailbox that was just taken from, and the frame in it
pub found-taken : (s t : NodeSeat) {from at : ℕ} (place : ℕ) (f : Plain) → IsSame s t → at ≡ from
    → known t ≡ takes_in (inbox s from) place f (known s)
    → (inbox t at ≡ inbox s from) × (found (inbox t at) (known t).emptying ≡ Some f)
found-taken s t {from} {at} place f same is known_is =
    let box : inbox t at ≡ inbox s from = λ i. is i * same.3 i + same.2 i in (
      box,
      (λ i. found (box i) (known_is i).emptying)
          ∙ found-here (inbox s from) f (known s).emptying,
    )

-- ---- Frames that go out

-- sending a frame, or failing to, changes nothing that the seat knows of the node's states
pub sent-pair : (box : ℕ) (f : Plain) (sent : Bool) (v w : Known) → IsSent box f sent v w
    → w.pair ≡ v.pair
sent-pair box f true v w h = ap (λ (u : Known). u.pair) h.2
sent-pair box f false v w h = ap (λ (u : Known). u.pair) h.3

pub sent-taken : (box : ℕ) (f : Plain) (sent : Bool) (v w : Known) → IsSent box f sent v w
    → w.taken ≡ v.taken
sent-taken box f true v w h = ap (λ (u : Known). u.taken) h.2
sent-taken box f false v w h = ap (λ (u : Known). u.taken) h.3

goes-to : (n : NodeView) (to number : ℕ) (other : Bool) (o : Option Message)
    → receiver (frame_or_ack n to (cond other (option_map (frame_of n.local.own to number) o) None))
    ≡ to
goes-to n to number true (Some x) = refl
goes-to n to number true None = refl
goes-to n to number false o = refl

pub due-to : (n : NodeView) (to place : ℕ) → receiver (frame_due n to place) ≡ to
due-to n to place =
    goes-to n to ((link_to n to).base + 1 + place) (is_other n.local to)
    (released_at (link_to n to) place)

-- ---- Frames that came in

-- what the seat took from the mailbox, if anything
abbrev IsReceived : ℕ → ℕ → Result (Option Frame) Refusal → Known → Known → Type 0
IsReceived box from r v w = IfOk r (λ o. MatchOption o (FindsOther box 1 v w)
    (λ f. TookOut box from (plain f) v w))

-- what it took and lost
abbrev IsLost : ℕ → ℕ → Result (Option Frame) Refusal → Known → Known → Type 0
IsLost box from r v w = IfErr r (λ e. (e ≡ Memory)
    × ((f : Plain) × (is_letter f ≡ true) × TookOut box from f v w))

-- receiving a frame changes nothing that the seat knows of the node's states either
pub received-pair : (box from : ℕ) (r : Result (Option Frame) Refusal) (v w : Known)
    → IsReceived box from r v w → IsLost box from r v w → w.pair ≡ v.pair
received-pair box from (Ok None) v w h lost = ap (λ (u : Known). u.pair) h.3
received-pair box from (Ok (Some f)) v w h lost = ap (λ (u : Known). u.pair) h.3.2
received-pair box from (Err e) v w h lost = ap (λ (u : Known). u.pair) lost.1.2.3.2

-- the frames that the seat took since
pub received-taken : (box from : ℕ) (r : Result (Option Frame) Refusal) (v w : Known)
    → IsReceived box from r v w → IsLost box from r v w
    → (more : List Plain) × (w.taken ≡ v.taken ++ more)
received-taken box from (Ok None) v w h lost =
    ([], ap (λ (u : Known). u.taken) h.3 ∙ sym (append-nil v.taken))
received-taken box from (Ok (Some f)) v w h lost =
    (plain f ∷ [], ap (λ (u : Known). u.taken) h.3.2)
received-taken box from (Err e) v w h lost =
    (lost.1.0 ∷ [], ap (λ (u : Known). u.taken) lost.1.2.3.2)
