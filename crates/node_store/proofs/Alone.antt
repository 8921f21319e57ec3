-- Nodes that keep no early message, and events that leave them so.
use Rattle.std.proofs.Common.{◌≡◌, ◌≢◌, ℕ, zero, suc, Bool, true, false, List, ◌∷◌, set, replicate, Option, None, Result, Ok, Err, refl, ap, sym, ◌∙◌}
use Rattle.std.proofs.lemmas.Bool.{false≢true}
use Rattle.msg.specs.declared.frame.Data.{Data}
use Rattle.model.specs.declared.event.Event.{Event}
use Rattle.model.specs.declared.event.Event.TheVariants as event
use Rattle.model.specs.declared.event.Answer.{Answer}
use Rattle.model.specs.declared.event.Answer.TheVariants as answer
use Rattle.model.specs.Checks.{IsFirstRefusal}
use Rattle.model.specs.Effects.{is_change}
use Rattle.model.specs.View.{NodeView, view_act}
use Rattle.model.specs.State.{LocalState, got_from}
use Rattle.model.proofs.Refusals.{refused-as}
use Rattle.model.proofs.Lookups.{get_or-replicate_any}
use Rattle.link.specs.Early.{no_early, place_at, shifted}
use Rattle.ids.specs.Limits.{Shaped}
use Rattle.ids.specs.declared.refusal.Refusal.{Refusal}
use Rattle.ids.specs.declared.refusal.Refusal.TheVariants.{Memory}
use Rattle.ids.specs.declared.limits.TheConstants.{WINDOW}
use Rattle.node.specs.Keeping.{Rings, WholeNode, after_data, after_next, early_after, met, next_event, no_rings, shifted_at, waiting}
use Rattle.node_store.specs.Logs.{IsDone}
use Rattle.node_store.specs.Values.{IsAlone}

-- the same element once more
set-same : {A : Type 0} (n k : ℕ) (a : A) → set (replicate n a) k a ≡ replicate n a
set-same zero k a = refl
set-same (suc n) zero a = refl
set-same (suc n) (suc k) a = ap (λ l. a ∷ l) (set-same n k a)

none-waits : (nodes from : ℕ) → waiting (no_rings nodes) from ≡ None
none-waits nodes from =
    ap (λ r. place_at r 0) (get_or-replicate_any {A = List (Option Data)} nodes from no_early)
    ∙ get_or-replicate_any {A = Option Data} WINDOW 0 None

-- every event reaches the core as it is
pub met-alone : (nodes : ℕ) (e : Event) → met (no_rings nodes) e ≡ e
met-alone nodes (event.Next from) = ap (next_event from) (none-waits nodes from)
met-alone nodes e = refl

pub met-same : {n : WholeNode} (e : Event) → IsAlone n → met n.early e ≡ e
met-same {n = n} e is =
    ap (λ (w : WholeNode). met w.early e) is ∙ met-alone n.core.local.shape.nodes e

err-no-ok : {A E : Type 0} {x : A} {e : E} → ◌≡◌ {A = Result A E} (Err e) (Ok x) → ⊥
err-no-ok is = absurd cc

ok-same : {A E : Type 0} {x y : A} → ◌≡◌ {A = Result A E} (Ok x) (Ok y) → x ≡ y
ok-same is = cc

-- an event that is refused, or whose answer is quiet, isn't done
pub not-done : {now m : NodeView} {e t : Event} {r : Refusal} (shading : Bool) → t ≡ e
    → r ≢ Memory → IsFirstRefusal shading r (view_act now t) → IsDone now e m → ⊥
not-done {now} {m} {e} {t} {r} shading same other refused done =
    err-no-ok (sym (refused-as refused other) ∙ ap (view_act now) same ∙ done.acts)

pub quiet-not-done : {now new m : NodeView} {e t : Event} {a : Answer} → t ≡ e
    → view_act now t ≡ Ok (new, a) → is_change a ≡ false → IsDone now e m → ⊥
quiet-not-done {now} {new} {m} {e} {t} {a} same acts quiet done =
    let parts = ok-same (sym acts ∙ ap (view_act now) same ∙ done.acts) in
    false≢true (sym quiet ∙ ap (λ (x : NodeView × Answer). is_change x.1) parts ∙ done.now)

-- and one that is answered otherwise is
pub done-alone : {n : WholeNode} {m : NodeView} (e : Event) (a : Answer) → IsAlone n
    → view_act n.core (met n.early e) ≡ Ok (m, a) → is_change a ≡ true → IsDone n.core e m
done-alone {n} {m} e a is acts now = record {
  answer = a;
  acts = ap (view_act n.core) (sym (met-same e is)) ∙ acts;
  now = now;
}

shifted-none : (nodes from : ℕ) → shifted_at (no_rings nodes) from ≡ no_rings nodes
shifted-none nodes from =
    ap (λ r. set (no_rings nodes) from (shifted r))
    (get_or-replicate_any {A = List (Option Data)} nodes from no_early)
    ∙ set-same nodes from no_early

after-alone : (taken nodes : ℕ) (d : Data) (a : Answer) → is_change a ≡ true
    → after_data taken (no_rings nodes) d (Ok a) ≡ no_rings nodes
after-alone taken nodes d answer.Received now = shifted-none nodes d.from
after-alone taken nodes d answer.Early now = absurd (false≢true now)
after-alone taken nodes d a now = refl

-- and no message is kept afterwards
pub early-alone : (p : LocalState) (nodes : ℕ) (e : Event) (a : Answer) → is_change a ≡ true
    → early_after p (no_rings nodes) e (Ok a) ≡ no_rings nodes
early-alone p nodes (event.Data d) a now = after-alone (got_from p d.from) nodes d a now
early-alone p nodes (event.Next from) a now =
    ap (λ o. after_next (no_rings nodes) from o (Ok a)) (none-waits nodes from)
early-alone p nodes e a now = refl

pub alone-after : {n m : WholeNode} (e : Event) (a : Answer) → IsAlone n
    → m.early ≡ early_after n.core.local n.early e (Ok a)
    → m.core.local.shape ≡ n.core.local.shape → is_change a ≡ true → IsAlone m
alone-after {n} {m} e a is early shape now =
    let none : m.early ≡ no_rings m.core.local.shape.nodes =
    early
    ∙ ap (λ (es : Rings). early_after n.core.local es e (Ok a))
    (ap (λ (w : WholeNode). w.early) is)
    ∙ early-alone n.core.local n.core.local.shape.nodes e a now
    ∙ ap (λ (s : Shaped). no_rings s.nodes) (sym shape) in
    ap (λ (es : Rings). record { core = m.core; early = es }) none
