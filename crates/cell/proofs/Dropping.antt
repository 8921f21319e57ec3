-- A node drops no more of its messages than frames acknowledge that its seat took.
use Rattle.std.proofs.Common.{◌≡◌, ◌⊎◌, ◌+◌, ◌-◌, ◌≤◌, ℕ, Bool, true, false, IfOk, IfErr, List, [], ◌∷◌, ◌++◌, append-nil, length, map, min, set, get_or, Option, None, Some, Result, Ok, Err, OnErr, slice_get, inl, inr, ⊎_elim, refl, sym, ap, ◌∙◌, subst, arith, le_refl, le_trans}
use Rattle.std.proofs.Math.ListN.{get_or-map}
use Rattle.std.proofs.Math.Logic.{∥∥₁_map}
use Rattle.std.proofs.lemmas.Bool.{cases_Bool, cases_lt, cond_both}
use Rattle.ids.specs.declared.refusal.Refusal.{Refusal}
use Rattle.ids.specs.declared.refusal.Refusal.TheVariants.{Memory}
use Rattle.msg.specs.Frames.{Plain, ack_frame, plain}
use Rattle.msg.specs.declared.body.Message.{Message}
use Rattle.msg.specs.declared.frame.Ack.{Ack}
use Rattle.msg.specs.declared.frame.Data.{Data}
use Rattle.msg.specs.declared.frame.Frame.{Frame}
use Rattle.msg.specs.declared.frame.Frame.TheVariants as frame
use Rattle.model.specs.declared.event.Answer.{Answer}
use Rattle.model.specs.declared.event.Event.{Event}
use Rattle.model.specs.declared.event.Event.TheVariants as event
use Rattle.model.specs.declared.step.Step.{Step}
use Rattle.model.specs.Steps.{ack_of, is_own}
use Rattle.model.specs.View.{Link, NodeView, Performs, all_kept, append_to, appended, base_of, kept_view, let_go, link_to, no_link, trimmed, view_act}
use Rattle.model.proofs.Leaving.{act-leaves}
use Rattle.model.proofs.Lookups.{at_set_if, map-set_same}
use Rattle.model.proofs.Shown.{view-ok}
use Rattle.laws.proofs.Lookups.{slice_get-append, slice_get-last}
use Rattle.node.specs.Keeping.{Rings, WholeNode, met, next_event, waiting}
use Rattle.wire.specs.Lists.{Continues}
use Rattle.wire.specs.Readers.{known}
use Rattle.wire.specs.Rule.{receiver}
use Rattle.wire.specs.Views.{FindsOther, Known, ticks}
use Rattle.wire.proofs.Lists.{continues-both}
use Rattle.cell.specs.Desks.{DeskView, HasDropped, IsDropped}
use Rattle.cell.specs.Disks.{is_same_node}
use Rattle.cell.specs.Events.{Given, Handled}
use Rattle.model.specs.Effects.{is_change}
use Rattle.wire.specs.Entering.{known_after, pair_by}
use Rattle.wire.specs.Sending.{IsSent, TookOut}
use Rattle.cell.proofs.Sames.{same-true}

-- ---- The messages that a link dropped

base-at : (xs ys : List Link) (to : ℕ) → map base_of xs ≡ map base_of ys
    → (get_or xs to no_link).base ≡ (get_or ys to no_link).base
base-at xs ys to same =
    sym (get_or-map base_of xs to no_link)
    ∙ ap (λ (l : List ℕ). get_or l to 0) same
    ∙ get_or-map base_of ys to no_link

appended-bases : (links : List Link) (ms : List (ℕ × Message))
    → map base_of (append_to links ms) ≡ map base_of links
appended-bases links [] = refl
appended-bases links (m ∷ ms) =
    appended-bases (set links m.0 (appended (get_or links m.0 no_link) m.1)) ms
    ∙ map-set_same base_of links m.0 _ no_link refl

trimmed-base : (l : Link) (number : ℕ)
    → ((trimmed l number).base ≤ l.base) ⊎ ((trimmed l number).base ≤ number)
trimmed-base l number =
    let len : ℕ = length l.unacknowledged in
    ⊎_elim
    (λ before. inl (let none : l.base + min (number - l.base) len ≤ l.base =
    omega (arith, before) in none))
    (λ after. inr (let few : l.base + min (number - l.base) len ≤ number = omega (arith, after) in
    few))
    (cases_lt number l.base)

-- an acknowledgement drops no message above its number
ack-drops : (n m : NodeView) (a : Ack) (x : Answer) (to : ℕ) → view_act n (event.Ack a) ≡ Ok (m, x)
    → ((link_to m to).base ≤ (link_to n to).base)
    ⊎ ((a.by ≡ to) × ((link_to m to).base ≤ a.number))
unfolding view_act
ack-drops n m a x to done =
    let found = view-ok n m (let_go n.links (Some a)) _ x done in
    let same : (link_to m to).base ≡ (get_or (let_go n.links (Some a)) to no_link).base =
    ap (λ (v : NodeView). (link_to v to).base) found.2
    ∙ base-at (append_to (let_go n.links (Some a)) found.0.sends) (let_go n.links (Some a)) to
    (appended-bases (let_go n.links (Some a)) found.0.sends) in
    subst (λ (b : ℕ). (b ≤ (link_to n to).base) ⊎ ((a.by ≡ to) × (b ≤ a.number))) (sym same)
    (at_set_if
    (λ (l : Link). (l.base ≤ (link_to n to).base) ⊎ ((a.by ≡ to) × (l.base ≤ a.number)))
    n.links a.by to (trimmed (get_or n.links a.by no_link) a.number) no_link
    (λ is. ⊎_elim
    (λ less. inl (subst
    (λ (k : ℕ). (trimmed (get_or n.links a.by no_link) a.number).base ≤ (link_to n k).base) is
    less))
    (λ few. inr (is, few))
    (trimmed-base (get_or n.links a.by no_link) a.number))
    (inl (le_refl _)))

-- ---- What a seat took

-- the seat of the same node, with no fewer frames
pub record TookMore (v w : Known) : Type 0 where
  pub me : w.me ≡ v.me
  pub taken : Continues v.taken w.taken

pub took-same : (v w : Known) → w.me ≡ v.me → w.taken ≡ v.taken → TookMore v w
took-same v w me same =
    record { me = me; taken = ([], same ∙ sym (append-nil v.taken)) }

still-dropped : {v w : Known} (first to less base : ℕ) → TookMore v w → less ≤ base
    → IsDropped first v to base → IsDropped first w to less
still-dropped {v = v} first to less base more below h =
    ∥∥₁_map h (⊎_elim
    (λ old. inl (le_trans below old))
    (λ f. inr (
      f.0,
      f.1,
      ap (λ (l : List Plain). slice_get l f.0) more.taken.1
          ∙ slice_get-append v.taken more.taken.0 f.0 (ack_frame to v.me f.1) f.2
          ∙ ap (λ (i : ℕ). Some (ack_frame to i f.1)) (sym more.me),
      le_trans below f.3,
    )))

pub dropped-less : (first : NodeView) (v w : Known) (n m : NodeView) → TookMore v w
    → map base_of m.links ≡ map base_of n.links → HasDropped first v n → HasDropped first w m
dropped-less first v w n m more same h = record {
  each = λ to.
      still-dropped (link_to first to).base to (link_to m to).base (link_to n to).base more
      (subst (λ (b : ℕ). (link_to m to).base ≤ b) (base-at m.links n.links to same) (le_refl _))
      (h.each to);
}

pub dropped-as : (first : NodeView) (v w : Known) (n m : NodeView) → TookMore v w → m ≡ n
    → HasDropped first v n → HasDropped first w m
dropped-as first v w n m more same h =
    dropped-less first v w n m more (ap (λ (x : NodeView). map base_of x.links) same) h

-- a node that was just read has dropped what it had dropped
pub dropped-first : (v : Known) (n : NodeView) → HasDropped n v n
dropped-first v n = record { each = λ to. ∣ inl (le_refl _) ∣₁ }

pub dropped-same : (first n : NodeView) (v : Known) → n ≡ first → HasDropped first v n
dropped-same first n v same = subst (HasDropped first v) (sym same) (dropped-first v first)

kept-bases : (links : List Link) → map base_of (map all_kept links) ≡ map base_of links
kept-bases [] = refl
kept-bases (l ∷ ls) = ap (λ (xs : List ℕ). l.base ∷ xs) (kept-bases ls)

pub dropped-kept : (first : NodeView) (v w : Known) (n : NodeView) → TookMore v w
    → HasDropped first v n → HasDropped first w (kept_view n)
dropped-kept first v w n more h =
    dropped-less first v w n (kept_view n) more (kept-bases n.links) h

-- the node that a reopening found
pub dropped-found : {first : NodeView} {v w : Known} {n saved : NodeView} (found : NodeView)
    → TookMore v w → (is_same_node found saved ≡ false → found ≡ kept_view n)
    → HasDropped first v n → HasDropped first v saved → HasDropped first w found
dropped-found {first} {v} {w} {n} {saved} found more which now before =
    ⊎_elim
    (λ same. dropped-as first v w saved found more (same-true found saved same) before)
    (λ other. subst (HasDropped first w) (sym (which other)) (dropped-kept first v w n more now))
    (cases_Bool (is_same_node found saved))

-- ---- Events

-- the seat took this frame, which is for its node
pub record IsTakenFrame (w : Known) (f : Frame) : Type 0 where
  pub taken : ∥ ((k : ℕ) × (slice_get w.taken k ≡ Some (plain f))) ∥₁
  pub receiver : receiver (plain f) ≡ w.me

-- the performed event: either no acknowledgement, or one that the seat took
dropped-acked : {first : NodeView} {v w : Known} {n : NodeView} {a : Ack} (m : NodeView)
    (x : Answer) → TookMore v w → IsTakenFrame w (frame.Ack a)
    → view_act n (event.Ack a) ≡ Ok (m, x) → HasDropped first v n → HasDropped first w m
dropped-acked {first} {n = n} {a = a} m x more acked done h = record {
  each = λ to. ⊎_elim
      (λ less.
      still-dropped (link_to first to).base to (link_to m to).base (link_to n to).base more less
      (h.each to))
      (λ its. ∥∥₁_map acked.taken (λ at. inr (
        at.0,
        a.number,
        at.1 ∙ (λ i. Some (ack_frame (its.0 i) (acked.receiver i) a.number)),
        its.1,
      )))
      (ack-drops n m a x to done);
}

ack-dropped : {first : NodeView} {v w : Known} {n : NodeView} {a : Ack} (m : NodeView)
    (r : Result Answer Refusal) → TookMore v w → IsTakenFrame w (frame.Ack a)
    → Performs false r m (view_act n (event.Ack a)) → OnErr r (m ≡ n) → HasDropped first v n
    → HasDropped first w m
ack-dropped m (Ok x) more acked performs same h =
    dropped-acked m x more acked performs h
ack-dropped {first} {v} {w} {n} m (Err e) more acked performs same h =
    dropped-as first v w n m more same h

after-took : (e : Event) (s : Step) (r : Result Answer Refusal) (v : Known)
    → TookMore v (known_after e s r v)
after-took e s (Ok a) v =
    cond_both (is_change a) (ticks s (pair_by e v.pair) v) v (TookMore v)
    (λ _. took-same v (ticks s (pair_by e v.pair) v) refl refl)
    (λ _. took-same v v refl refl)
after-took e s (Err f) v = took-same v v refl refl

pub given-took : {e is : Event} {s : Step} {r : Result Answer Refusal} {old new : WholeNode}
    {v w : Known} → Given e is s r old new v w → TookMore v w
given-took {is = is} {s = s} {r = r} {v = v} given =
    subst (TookMore v) (sym given.acted.known) (after-took is s r v)

pub given-dropped : {first : NodeView} {e is : Event} {s : Step} {r : Result Answer Refusal}
    {old new : WholeNode} {v w : Known} → Given e is s r old new v w → ack_of is ≡ None
    → HasDropped first v old.core → HasDropped first w new.core
given-dropped {first} {is = is} {r = r} {old = old} {new = new} {v = v} {w = w} given none h =
    dropped-less first v w old.core new.core (given-took given)
    ((act-leaves old.core new.core is r
    (record { performs = given.acted.performs; unchanged = given.acted.unchanged })).bases none)
    h

next-none : (from : ℕ) (o : Option Data) → ack_of (next_event from o) ≡ None
next-none from None = refl
next-none from (Some d) = refl

-- an event of the node's own is no acknowledgement
pub own-none : (es : Rings) (e : Event) → is_own e ≡ true → ack_of (met es e) ≡ None
own-none es (event.Next from) own = next-none from (waiting es from)
own-none es (event.Ack a) own = absurd cc
own-none es e own = refl

pub handled-dropped : {first : NodeView} {v : Known} (f : Frame) (r : Result Answer Refusal)
    (old new : WholeNode) (w : Known) → Handled f r old new v w → IsTakenFrame v f
    → HasDropped first v old.core → HasDropped first w new.core
handled-dropped (frame.Data d) r old new w handled taken h =
    given-dropped handled refl h
handled-dropped {first} {v} (frame.Ack a) r old new w handled taken h =
    subst (λ (u : Known). HasDropped first u new.core) (sym handled.known)
    (ack-dropped new.core r (took-same v v refl refl) taken handled.performs handled.unchanged h)

pub handled-took : (f : Frame) (r : Result Answer Refusal) (old new : WholeNode) (v w : Known)
    → Handled f r old new v w → TookMore v w
handled-took (frame.Data d) r old new v w handled =
    given-took handled
handled-took (frame.Ack a) r old new v w handled =
    subst (TookMore v) (sym handled.known) (took-same v v refl refl)

pub took-again : (u v w : Known) → TookMore u v → TookMore v w → TookMore u w
took-again u v w first next = record {
  me = next.me ∙ first.me;
  taken = continues-both u.taken v.taken w.taken first.taken next.taken;
}

-- looking at a mailbox takes no frame
pub looked-took : (box word : ℕ) (v w : Known) → FindsOther box word v w → TookMore v w
looked-took box word v w h =
    took-same v w (ap (λ (u : Known). u.me) h.3) (ap (λ (u : Known). u.taken) h.3)

-- taking one out takes it, even if it is lost then
pub out-took : (box from : ℕ) (f : Plain) (v w : Known) → TookOut box from f v w → TookMore v w
out-took box from f v w h = record {
  me = ap (λ (u : Known). u.me) h.3.2;
  taken = (f ∷ [], ap (λ (u : Known). u.taken) h.3.2);
}

-- sending a frame takes none
pub sent-took : (box : ℕ) (f : Plain) (sent : Bool) (v w : Known) → IsSent box f sent v w
    → TookMore v w
sent-took box f true v w h =
    took-same v w (ap (λ (u : Known). u.me) h.2) (ap (λ (u : Known). u.taken) h.2)
sent-took box f false v w h =
    looked-took box 0 v w h

-- the frame that was taken last
pub at-last : (v w : Known) (f : Plain) → w.taken ≡ v.taken ++ f ∷ []
    → ∥ ((k : ℕ) × (slice_get w.taken k ≡ Some f)) ∥₁
at-last v w f is =
    ∣ (
      length v.taken,
      ap (λ (l : List Plain). slice_get l (length v.taken)) is ∙ slice_get-last v.taken f,
    ) ∣₁

-- so does failing to send one
pub send-took : (box : ℕ) (f : Plain) (r : Result Bool Refusal) (old new : DeskView)
    → IfOk r (λ sent. IsSent box f sent (known old.seat) (known new.seat))
    → IfErr r (λ e. (e ≡ Memory) × (new ≡ old)) → TookMore (known old.seat) (known new.seat)
send-took box f (Ok sent) old new done failed =
    sent-took box f sent (known old.seat) (known new.seat) done
send-took box f (Err e) old new done failed =
    took-same (known old.seat) (known new.seat) (ap (λ (d : DeskView). (known d.seat).me) failed.1)
    (ap (λ (d : DeskView). (known d.seat).taken) failed.1)
