-- The node at a desk is in the state that the desk says, also after a call.
use Rattle.std.proofs.Common.{◌≡◌, ℕ, List, [], ◌++◌, length, take, drop, get_or, Result, Ok, Err, OnErr, sym, ap, ◌∙◌, subst, append-nil}
use Rattle.std.proofs.lemmas.List.{take-append-drop}
use Rattle.std.proofs.Math.Seq.{take-append_seam}
use Rattle.std.proofs.Math.ListN.{get_or-map}
use Rattle.ids.specs.declared.refusal.Refusal.{Refusal}
use Rattle.msg.specs.declared.body.Message.{Message}
use Rattle.model.specs.declared.event.Event.{Event}
use Rattle.model.specs.declared.event.Answer.{Answer}
use Rattle.model.specs.State.{NodeState, sent_to}
use Rattle.model.specs.Steps.{act}
use Rattle.model.specs.View.{NodeView, Follows, Shows, Leaves, no_link, kept_of}
use Rattle.laws.proofs.Lookups.{Grows, grows-trans}
use Rattle.laws.proofs.StepFacts.{act-grows}
use Rattle.wire.specs.Views.{Pair}
use Rattle.msg.specs.declared.frame.Ack.{Ack}
use Rattle.model.specs.declared.event.Event.TheVariants as event
use Rattle.cell.proofs.Quiet.{quiet-ack}
use Rattle.cell.specs.Desks.{IsBehind, StandsAt}

-- a list that begins with another one still does after it has grown
grown : (xs ys zs : List Message) → take (length xs) ys ≡ xs → Grows ys zs
    → take (length xs) zs ≡ xs
grown xs ys zs front more =
    let begins : ys ≡ xs ++ drop (length xs) ys =
    sym (take-append-drop (length xs) ys)
    ∙ ap (λ (z : List Message). z ++ drop (length xs) ys) front in
    let all = grows-trans xs ys zs (drop (length xs) ys, begins) more in
    ap (take (length xs)) all.1 ∙ take-append_seam xs all.0

pub behind-acted : (s t : NodeState) (e : Event) (u : NodeState) (a : Answer) → IsBehind s t
    → act t e ≡ Ok (u, a) → IsBehind s u
behind-acted s t e u a behind answered j =
    grown (sent_to s j) (sent_to t j) (sent_to u j) (behind j) (act-grows t e u a j answered)

pub behind-itself : (s : NodeState) → IsBehind s s
behind-itself s j =
    ap (take (length (sent_to s j))) (sym (append-nil (sent_to s j)))
    ∙ take-append_seam (sent_to s j) []

-- the node performed an event, and shows the state after it
pub stands-moved : {me width : ℕ} {p : Pair} {n m : NodeView} {e : Event} (t : NodeState)
    → StandsAt me width p n → Leaves n m e → Shows m t → IsBehind p.saved t
    → StandsAt me width (record { current = t; saved = p.saved }) m
stands-moved {n = n} {m} t h leaves shows behind = record {
  own = leaves.own ∙ h.own;
  nodes = ap (λ s. s.nodes) leaves.shape ∙ h.nodes;
  shows = shows;
  released = λ j.
      sym (get_or-map kept_of m.links j no_link)
      ∙ ap (λ (ks : List ℕ). get_or ks j 0) leaves.kept
      ∙ get_or-map kept_of n.links j no_link
      ∙ h.released j;
  acks = leaves.acks ∙ h.acks;
  behind = behind;
}

-- it performed one that changes no state
pub stands-quiet : {me width : ℕ} {p : Pair} {n m : NodeView} {e : Event} (t : NodeState)
    → StandsAt me width p n → Leaves n m e → Shows m t → t ≡ p.current → StandsAt me width p m
stands-quiet {p = p} {m = m} t h leaves shows same =
    stands-moved p.current h leaves (subst (Shows m) same shows) h.behind

-- it was given an acknowledgement, whatever the outcome
pub stands-acknowledged : {me width : ℕ} {p : Pair} {n m : NodeView} (x : Ack)
    (r : Result Answer Refusal) → StandsAt me width p n → Leaves n m (event.Ack x)
    → Follows (event.Ack x) r m (act p.current (event.Ack x)) → OnErr r (m ≡ n)
    → StandsAt me width p m
stands-acknowledged {p = p} x (Ok a) h leaves found unchanged =
    stands-quiet found.0 h leaves found.2 (quiet-ack p.current x found.0 a found.1)
stands-acknowledged {me} {width} {p} x (Err e) h leaves found unchanged =
    subst (StandsAt me width p) (sym unchanged) h
