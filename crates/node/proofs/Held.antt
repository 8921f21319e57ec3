-- The early messages that a node keeps are in their places, and no event changes that.
use Rattle.std.proofs.Common.{◌≡◌, ◌≢◌, ℕ, suc, ◌+◌, ◌-◌, ◌==◌, ◌&&◌, Bool, true, not, eq-eqb, lt-ltb, List, length, get_or, set, Option, Some, None, Result, Ok, Err, refl, ap, sym, ◌∙◌, subst, arith, eqb-true}
use Rattle.std.specs.Prelude.{IfOk, IfErr, IsTrue}
use Rattle.std.proofs.lemmas.Bool.{and_parts}
use Rattle.std.proofs.lemmas.List.{length-set, length-replicate}
use Rattle.ids.specs.declared.refusal.Refusal.{Refusal}
use Rattle.ids.specs.declared.refusal.Refusal.TheVariants.{Memory}
use Rattle.msg.specs.declared.frame.Data.{Data}
use Rattle.model.specs.declared.event.Event.{Event}
use Rattle.model.specs.declared.event.Event.TheVariants as event
use Rattle.model.specs.declared.event.Answer.{Answer}
use Rattle.model.specs.declared.event.Answer.TheVariants as answer
use Rattle.model.specs.State.{got_from}
use Rattle.model.specs.Checks.{IsOkOrSpent, by_memory}
use Rattle.model.specs.Steps.{is_addressed, is_early, is_memory_free, is_next, is_shading}
use Rattle.model.specs.View.{NodeView, Performed, view_act}
use Rattle.model.proofs.Shown.{act-shown}
use Rattle.model.proofs.Leaving.{Turned, again, ahead, due, got_after, act-got, act-leaves, data-turned}
use Rattle.model.proofs.Lookups.{at_set_if, both_set_if, get_or-replicate_any}
use Rattle.link.specs.Early.{no_early, shifted, emptied}
use Rattle.msg.specs.Limits.{is_post}
use Rattle.node.specs.Invariant.{IsNode}
use Rattle.node.proofs.Events.{okay}
use Rattle.node.proofs.Receipts.{early-unchanged}
use Rattle.node.proofs.Rings.{empty-fills, emptied-fills, placed-fills, shifted-fills}
use Rattle.node.specs.Keeping.{Rings, WholeNode, alone, ring_of, waiting, next_event, met, shifted_at, after_data, after_next, early_after, Handled, IsInPlace, RingStands, AreKept, AreKeptIn}

-- ---- one ring

-- a frame moves to the place before
in-place : (own got from place : ℕ) (d : Data) → IsInPlace own got from (suc place) d
    → IsInPlace own (got + 1) from place d
in-place own got from place d was = record {
  apart = was.apart;
  sender = was.sender;
  receiver = was.receiver;
  number = omega (arith, was.number);
}

shifted-stands : (own got from : ℕ) (ring : List (Option Data)) → RingStands own got from ring
    → RingStands own (got + 1) from (shifted ring)
shifted-stands own got from =
    shifted-fills (IsInPlace own got from) (IsInPlace own (got + 1) from) (in-place own got from)

-- ---- all rings

-- one ring changes
kept-set : (nodes own : ℕ) (got : List ℕ) (es : Rings) (from : ℕ) (ring : List (Option Data))
    → AreKept nodes own got es → RingStands own (get_or got from 0) from ring
    → AreKept nodes own got (set es from ring)
kept-set nodes own got es from ring h stands = record {
  width = length-set es from ring ∙ h.width;
  counted = h.counted;
  named = λ k.
      at_set_if (RingStands own (get_or got k 0) k) es from k ring no_early
      (λ same. subst (λ (z : ℕ). RingStands own (get_or got z 0) z ring) same stands)
      (h.named k);
}

-- the next message is received
kept-due : (nodes own : ℕ) (got : List ℕ) (es : Rings) (from number : ℕ)
    → AreKept nodes own got es → number ≡ get_or got from 0 + 1
    → AreKept nodes own (set got from number) (shifted_at es from)
kept-due nodes own got es from number h turn =
    let ring : List (Option Data) = shifted (ring_of es from) in
    let stands : RingStands own number from ring =
    subst (λ (z : ℕ). RingStands own z from ring) (sym turn)
    (shifted-stands own (get_or got from 0) from (ring_of es from) (h.named from)) in
    record {
      width = length-set es from ring ∙ h.width;
      counted = length-set got from number ∙ h.counted;
      named = λ k.
          both_set_if (λ (g : ℕ) (r : List (Option Data)). RingStands own g k r) 0 no_early number
          ring got es from (h.counted ∙ sym h.width) k
          (λ same. subst (λ (z : ℕ). RingStands own number z ring) same stands) (h.named k);
    }

pub alone-kept : (n : NodeView) → IsNode n → AreKeptIn (alone n)
alone-kept n h = record {
  width = length-replicate n.local.shape.nodes no_early;
  counted = h.links.links.received ∙ h.links.width;
  named = λ from.
      subst (RingStands n.local.own (got_from n.local from) from)
      (sym
      (get_or-replicate_any {A = List (Option Data)} n.local.shape.nodes from no_early))
      (empty-fills (IsInPlace n.local.own (got_from n.local from) from));
}

-- ---- an event

abbrev KeptAfter : NodeView → Event → Result Answer Refusal → Rings → Type 0
KeptAfter n e r es =
    AreKept n.local.shape.nodes n.local.own (got_after n.local.got e r) es

-- a message
data-kept : (n new : NodeView) (es : Rings) (d : Data) (r : Result Answer Refusal)
    → AreKept n.local.shape.nodes n.local.own n.local.got es
    → Performed true r n new (view_act n (event.Data d))
    → KeptAfter n (event.Data d) r (after_data (got_from n.local d.from) es d r)
data-kept n new es d (Err f) h p = h
data-kept n new es d (Ok a) h p =
    let found = data-turned n new d a p.performs in
    by found.0 found.1
  where
    Goal : Answer → Type 0
    Goal z =
        KeptAfter n (event.Data d) (Ok z) (after_data (got_from n.local d.from) es d (Ok z))

    by : is_addressed n.local d.from d.to ≡ true → Turned n.local d a → Goal a
    by addressed (again old says) = subst Goal (sym says) h
    by addressed (ahead later within says) =
        let place : ℕ = d.number - got_from n.local d.from - 1 in
        subst Goal (sym says)
        (kept-set _ _ n.local.got es d.from _ h
        (placed-fills (IsInPlace n.local.own (got_from n.local d.from) d.from) place d
        (ring_of es d.from)
        (record {
          apart = λ same.
              (let differs : not (d.from == n.local.own) ≡ true =
              (and_parts _ _ (and_parts (d.to == n.local.own) _ addressed).1).1 in
              let never : not true ≡ true =
              subst (λ (b : Bool). not b ≡ true) (eq-eqb d.from n.local.own same) differs in
              absurd cc);
          sender = refl;
          receiver = eqb-true d.to n.local.own (and_parts (d.to == n.local.own) _ addressed).0;
          number = omega (arith, later);
        })
        (h.named d.from)))
    by addressed (due turn says) =
        subst Goal (sym says) (kept-due _ _ n.local.got es d.from d.number h turn)

-- the frame that waits is the next one of its node, so it is received unless it is refused
module _ (n : NodeView) (es : Rings) (from : ℕ) (d : Data)
    (h : AreKept n.local.shape.nodes n.local.own n.local.got es) (waits : waiting es from ≡ Some d)
  where
    its-turn : d.number ≡ get_or n.local.got from 0 + 1
    its-turn = let number = (h.named from 0 d waits).number in omega (arith, number)

    as-told : got_from n.local d.from ≡ get_or n.local.got from 0
    as-told = ap (λ (z : ℕ). get_or n.local.got z 0) (h.named from 0 d waits).sender

    turn-received : {new : NodeView} (a : Answer) → view_act n (event.Data d) ≡ Ok (new, a)
        → a ≡ answer.Received
    turn-received {new = new} a answered = by (data-turned n new d a answered).1
      where
        by : Turned n.local d a → a ≡ answer.Received
        by (again old says) = absurd (omega (arith, old, its-turn, as-told))
        by (ahead later within says) = absurd (omega (arith, later, its-turn, as-told))
        by (due turn says) = says

    refused-kept : (f : Refusal)
        → AreKept n.local.shape.nodes n.local.own n.local.got (after_next es from (Some d) (Err f))
    refused-kept Memory = h
    refused-kept f =
        kept-set _ _ n.local.got es from _ h
        (emptied-fills (IsInPlace n.local.own (get_or n.local.got from 0) from) (ring_of es from)
        (h.named from))

    waited-kept : {new : NodeView} (r : Result Answer Refusal)
        → Performed true r n new (view_act n (event.Data d))
        → KeptAfter n (event.Data d) r (after_next es from (Some d) r)
    waited-kept (Err f) p = refused-kept f
    waited-kept (Ok a) p =
        subst (λ (z : Answer). KeptAfter n (event.Data d) (Ok z) (shifted_at es from))
        (sym (turn-received a p.performs))
        (subst
        (λ (z : ℕ).
        AreKept n.local.shape.nodes n.local.own (set n.local.got z d.number) (shifted_at es from))
        (sym (h.named from 0 d waits).sender)
        (kept-due _ _ n.local.got es from d.number h its-turn))

-- Next, by what waits
next-kept : (n : NodeView) {new : NodeView} (es : Rings) (from : ℕ) (o : Option Data)
    (r : Result Answer Refusal)
    → AreKept n.local.shape.nodes n.local.own n.local.got es → waiting es from ≡ o
    → Performed (is_shading (next_event from o)) r n new (view_act n (next_event from o))
    → KeptAfter n (next_event from o) r (after_next es from o r)
next-kept n es from None r h waits p = h
next-kept n es from (Some d) r h waits p = waited-kept n es from d h waits r p

event-kept : (n new : NodeView) (es : Rings) (e : Event) (r : Result Answer Refusal)
    → AreKept n.local.shape.nodes n.local.own n.local.got es
    → Performed (is_shading (met es e)) r n new (view_act n (met es e))
    → KeptAfter n (met es e) r (early_after n.local es e r)
event-kept n new es (event.Data d) r h p = data-kept n new es d r h p
event-kept n new es (event.Next from) r h p = next-kept n es from (waiting es from) r h refl p
event-kept n new es e r h p = h

pub handled-kept : (old new : WholeNode) (e : Event) (r : Result Answer Refusal)
    → Handled old new e r → AreKeptIn new
handled-kept old new e r x =
    let leaves = act-leaves old.core new.core (met old.early e) r x.performed in
    let got = act-got old.core new.core (met old.early e) r x.performed in
    let nodes : new.core.local.shape.nodes ≡ old.core.local.shape.nodes =
    ap (λ z. z.nodes) leaves.shape in
    let kept = event-kept old.core new.core old.early e r x.before x.performed in
    record {
      width = ap length x.early ∙ kept.width ∙ sym nodes;
      counted = ap length got ∙ kept.counted ∙ sym nodes;
      named = λ from. rw (got, x.early, leaves.own) (kept.named from);
    }

-- the answer to Next, when a frame waits
next-turn : (n : NodeView) {new : NodeView} (es : Rings) {from : ℕ} (o : Option Data)
    (r : Result Answer Refusal)
    → AreKept n.local.shape.nodes n.local.own n.local.got es → waiting es from ≡ o
    → Performed (is_shading (next_event from o)) r n new (view_act n (next_event from o))
    → next_event from o ≢ event.Next from → IfOk r (λ a. a ≡ answer.Received)
next-turn n es None r h waits p differs = absurd (differs refl)
next-turn n es {from = from} (Some d) (Ok a) h waits p differs =
    turn-received n es from d h waits a p.performs
next-turn n es (Some d) (Err f) h waits p differs = tt

pub handled-turn : (old new : WholeNode) (e : Event) (r : Result Answer Refusal)
    → Handled old new e r → met old.early e ≢ e → IfOk r (λ a. a ≡ answer.Received)
handled-turn old new (event.Next from) r x =
    next-turn old.core old.early (waiting old.early from) r x.before refl x.performed
handled-turn old new e r x = λ differs. absurd (differs refl)

-- ---- what the code does

-- Next, by what waits
pub next-handled : {n m : NodeView} {es fs : Rings} {from : ℕ} {o : Option Data}
    {r : Result Answer Refusal} → AreKeptIn (record { core = n; early = es })
    → waiting es from ≡ o
    → Performed (is_shading (next_event from o)) r n m (view_act n (next_event from o))
    → (IsTrue (is_memory_free n.local (next_event from o)) → IfErr r (λ f. f ≢ Memory))
    → fs ≡ after_next es from o r
    → Handled (record { core = n; early = es }) (record { core = m; early = fs })
    (event.Next from) r
next-handled {n} {m} {es} {fs} {from} {o} {r} h waits p free kept =
    subst
    (λ (z : Option Data).
    Performed (is_shading (next_event from z)) r n m (view_act n (next_event from z))
    → (IsTrue (is_memory_free n.local (next_event from z)) → IfErr r (λ f. f ≢ Memory))
    → fs ≡ after_next es from z r
    → Handled (record { core = n; early = es }) (record { core = m; early = fs })
    (event.Next from) r)
    waits
    (λ q g k. record { before = h; performed = q; memory_free = g; early = k }) p free kept

-- a message
pub data-handled : {n m : NodeView} {es fs : Rings} {d : Data} {r : Result Answer Refusal}
    → AreKeptIn (record { core = n; early = es })
    → Performed true r n m (view_act n (event.Data d))
    → (IsTrue (is_memory_free n.local (event.Data d)) → IfErr r (λ f. f ≢ Memory))
    → fs ≡ after_data (got_from n.local d.from) es d r
    → Handled (record { core = n; early = es }) (record { core = m; early = fs })
    (event.Data d) r
data-handled {n} {m} {es} {fs} {d} {r} h p free kept = record {
  before = h;
  performed = p;
  memory_free = free;
  early = kept;
}

-- an early message that couldn't be copied: the core is as it was
abbrev core_in : NodeView → Result (NodeView × Answer) Refusal → NodeView
core_in n (Ok x) = x.0
core_in n (Err e) = n

same-core : (n m : NodeView) (a b : Answer) → okay m a ≡ okay n b → m ≡ n
same-core n m a b both = ap (core_in n) both

module _ (n m : NodeView) (d : Data) (a : Answer)
    (p : Performed true (Ok a) n m (view_act n (event.Data d))) (early : a ≡ answer.Early) where
  ahead-both : (is_early n.local d.from d.number ≡ true) × (m ≡ n)
  ahead-both = by (data-turned n m d a p.performs).0 (data-turned n m d a p.performs).1
    where
      by : is_addressed n.local d.from d.to ≡ true → Turned n.local d a
          → (is_early n.local d.from d.number ≡ true) × (m ≡ n)
      by addressed (again old says) = absurd cc
      by addressed (due turn says) = absurd cc
      by addressed (ahead later within says) =
          let is = early-unchanged n d addressed later within in (
            lt-ltb (got_from n.local d.from + 1) d.number later,
            same-core n m a answer.Early (sym p.performs ∙ is),
          )

  pub copy-failed : {es fs : Rings} {e : Refusal} → AreKeptIn (record { core = n; early = es })
      → e ≡ Memory
      → is_post d.body ≡ true → fs ≡ es
      → Handled (record { core = n; early = es }) (record { core = m; early = fs })
      (event.Data d) (Err e)
  copy-failed {es} {fs} {e} h memory post kept = record {
    before = h;
    performed = record {
      performs = by_memory memory (subst IsOkOrSpent (sym p.performs) tt);
      unchanged = ahead-both.1;
    };
    memory_free = λ safe _.
        let never : not (is_post d.body && is_early n.local d.from d.number) ≡ true =
        (and_parts (not (is_next n.local d.from d.number)) _ safe).1 in
        let yes : not true ≡ true = rw (post, ahead-both.0) at never in
        absurd cc;
    early = kept;
  }

-- a refused frame leaves its place, if the core is as it was
pub emptied-kept : (n m : NodeView) (es fs : Rings) (from : ℕ)
    → AreKeptIn (record { core = n; early = es }) → m ≡ n
    → fs ≡ set es from (emptied (ring_of es from))
    → AreKeptIn (record { core = m; early = fs })
emptied-kept n m es fs from h same left =
    rw (same, left)
    (kept-set _ _ n.local.got es from _ h
    (emptied-fills (IsInPlace n.local.own (got_from n.local from) from) (ring_of es from)
    (h.named from)))

-- any other event
pub other-handled : {n m : NodeView} {es : Rings} {r : Result Answer Refusal} (e : Event)
    → AreKeptIn (record { core = n; early = es })
    → ((from : ℕ) → e ≡ event.Next from → ⊥) → ((d : Data) → e ≡ event.Data d → ⊥)
    → Performed (is_shading e) r n m (view_act n e)
    → (IsTrue (is_memory_free n.local e) → IfErr r (λ f. f ≢ Memory))
    → Handled (record { core = n; early = es }) (record { core = m; early = es }) e r
other-handled (event.Data d) h waits comes p free = absurd (comes d refl)
other-handled (event.Next from) h waits comes p free = absurd (waits from refl)
other-handled e h waits comes p free =
    record { before = h; performed = p; memory_free = free; early = refl }

pub ruleset handled = (handled-kept, handled-turn, other-handled, act-shown, act-leaves)
