-- What a node keeps after an event it kept before, except a message that arrives with the event.
use Rattle.std.proofs.Common.{◌≡◌, ℕ, ◌-◌, List, set, Option, Some, None, Result, Ok, Err, refl, sym, subst}
use Rattle.ids.specs.declared.refusal.Refusal.{Refusal}
use Rattle.ids.specs.declared.refusal.Refusal.TheVariants.{Memory}
use Rattle.msg.specs.declared.frame.Data.{Data}
use Rattle.model.specs.declared.event.Event.{Event}
use Rattle.model.specs.declared.event.Event.TheVariants as event
use Rattle.model.specs.declared.event.Answer.{Answer}
use Rattle.model.specs.declared.event.Answer.TheVariants as answer
use Rattle.model.specs.State.{LocalState, got_from}
use Rattle.model.proofs.Lookups.{at_set_if, get_or-replicate_any}
use Rattle.link.specs.Early.{no_early}
use Rattle.node.specs.Keeping.{OfAll, OfRing, Rings, no_rings, ring_of, after_data, after_next, early_after, waiting}
use Rattle.node.proofs.Rings.{empty-fills, emptied-fills, placed-fills, shifted-fills}

-- ---- all rings

pub of-none : (P : ℕ → Data → Type 0) (nodes : ℕ) → OfAll P (no_rings nodes)
of-none P nodes from =
    subst (OfRing (P from))
    (sym (get_or-replicate_any {A = List (Option Data)} nodes from no_early))
    (empty-fills (λ place. P from))

of-set : (P : ℕ → Data → Type 0) (es : Rings) (from : ℕ) (ring : List (Option Data)) → OfAll P es
    → OfRing (P from) ring → OfAll P (set es from ring)
of-set P es from ring h new k =
    at_set_if (OfRing (P k)) es from k ring no_early
    (λ same. subst (λ (z : ℕ). OfRing (P z) ring) same new) (h k)

-- ---- an event

after-message : (P : ℕ → Data → Type 0) (taken : ℕ) (es : Rings) (d : Data)
    (r : Result Answer Refusal) → OfAll P es → P d.from d → OfAll P (after_data taken es d r)
after-message P taken es d (Ok answer.Received) h new =
    of-set P es d.from _ h
    (shifted-fills (λ place. P d.from) (λ place. P d.from) (λ place e is. is) (ring_of es d.from)
    (h d.from))
after-message P taken es d (Ok answer.Early) h new =
    of-set P es d.from _ h
    (placed-fills (λ place. P d.from) (d.number - taken - 1) d (ring_of es d.from) new (h d.from))
after-message P taken es d r h new = h

after-waiting : (P : ℕ → Data → Type 0) (es : Rings) (from : ℕ) (o : Option Data)
    (r : Result Answer Refusal) → OfAll P es → OfAll P (after_next es from o r)
after-waiting P es from None r h = h
after-waiting P es from (Some d) (Ok a) h =
    of-set P es from _ h
    (shifted-fills (λ place. P from) (λ place. P from) (λ place e is. is) (ring_of es from)
    (h from))
after-waiting P es from (Some d) (Err Memory) h = h
after-waiting P es from (Some d) (Err e) h =
    of-set P es from _ h (emptied-fills (λ place. P from) (ring_of es from) (h from))

pub after-all : (P : ℕ → Data → Type 0) (p : LocalState) (es : Rings) (e : Event)
    (r : Result Answer Refusal) → OfAll P es → ((d : Data) → e ≡ event.Data d → P d.from d)
    → OfAll P (early_after p es e r)
after-all P p es (event.Data d) r h new =
    after-message P (got_from p d.from) es d r h (new d refl)
after-all P p es (event.Next from) r h new = after-waiting P es from (waiting es from) r h
after-all P p es e r h new = h
