-- What an event changes whose answer is quiet, or that acknowledges nothing new: nothing that is
-- saved.
use Rattle.std.proofs.Common.{◌≡◌, ℕ, true, false, ◌==◌, ◌+◌, ◌-◌, ◌≤◌, drop, set, length, List, [], ◌∷◌, ◌++◌, map, Option, None, Ok, refl, ap, sym, ◌∙◌, arith}
use Rattle.std.specs.Prelude.{min}
use Rattle.std.proofs.lemmas.Bool.{cond_both, leb-true, true≢false}
use Rattle.std.proofs.lemmas.List.{set-get_or}
use Rattle.std.proofs.Math.Nat.{min-le_left}
use Rattle.ids.specs.declared.refusal.Refusal.TheVariants.{LinkSpent}
use Rattle.msg.specs.declared.body.Message.{Message}
use Rattle.msg.specs.declared.frame.Ack.{Ack}
use Rattle.model.specs.declared.event.Event.{Event}
use Rattle.model.specs.declared.event.Event.TheVariants as event
use Rattle.model.specs.declared.event.Answer.{Answer}
use Rattle.model.specs.declared.event.Answer.TheVariants as answer
use Rattle.model.specs.State.{LocalState}
use Rattle.model.specs.Collecting.{begun, scanned, passed, swept_slots, judged, handed_on, is_concluded}
use Rattle.model.specs.Effects.{Effect, is_change, unchanged}
use Rattle.model.specs.Steps.{tests, made, fits, ack_of, is_repeat, is_early as is_ahead, taken_in}
use Rattle.model.specs.View.{Link, NodeView, used, ack_tests, append_to, let_go, link_to, no_link, trimmed, view_act}
use Rattle.model.proofs.Checks.{guarded-ok}
use Rattle.model.proofs.Shown.{ack-done, view-ok}
use Rattle.node_store.specs.Acting.{is_old_ack}

abbrev IsKept : LocalState → Event → Effect → Type 0
IsKept p e x = is_change x.answer ≡ false → (x ≡ unchanged p x.answer) × (ack_of e ≡ None)

effect-quiet : (p : LocalState) (counts : List ℕ) (e : Event) → IsKept p e (made p counts e)
unfolding taken_in begun scanned passed swept_slots
effect-quiet p counts (event.Data d) =
    cond_both (is_repeat p d.from d.number) (unchanged p answer.Repeat) _
    (IsKept p (event.Data d))
    (λ _ h. (refl, refl))
    (λ _.
    cond_both (is_ahead p d.from d.number) (unchanged p answer.Early)
    (taken_in p d.from d.number d.stamp d.body) (IsKept p (event.Data d))
    (λ _ h. (refl, refl))
    (λ _ h. absurd (true≢false h)))
effect-quiet p counts (event.Word object) = λ h. (refl, refl)
effect-quiet p counts event.Begin = λ h. absurd (true≢false h)
effect-quiet p counts event.Scan = λ h. absurd (true≢false h)
effect-quiet p counts event.Pass =
    cond_both (p.own == 0) (judged p) (handed_on p) (IsKept p event.Pass)
    (λ _. cond_both (is_concluded p.ring) _ _ (IsKept p event.Pass)
    (λ _ h. absurd (true≢false h)) (λ _ h. absurd (true≢false h)))
    (λ _ h. absurd (true≢false h))
effect-quiet p counts (event.Sweep count) = λ h. absurd (true≢false h)
effect-quiet p counts e = λ h. absurd (true≢false h)

pub quiet-same : (n m : NodeView) (e : Event) (a : Answer) → view_act n e ≡ Ok (m, a)
    → is_change a ≡ false → m ≡ n
unfolding view_act
quiet-same n m e a h early =
    let x : Effect = made n.local (map used n.links) e in
    let found = view-ok n m (let_go n.links (ack_of e)) _ a h in
    let same : x ≡ found.0 =
    guarded-ok ((tests n.local e ++ ack_tests n (ack_of e))
    ++ (fits (map used n.links) x.sends, LinkSpent) ∷ []) x found.0 found.1 in
    let says : is_change x.answer ≡ false =
    ap (λ (z : Effect). is_change z.answer) same ∙ ap is_change (sym found.3) ∙ early in
    let kept = effect-quiet n.local (map used n.links) e says in
    found.2
    ∙ ap (λ (z : Effect). record n {
      local = z.local;
      links = append_to (let_go n.links (ack_of e)) z.sends;
    }) (sym same ∙ kept.0)
    ∙ ap (λ (o : Option Ack). record n { links = let_go n.links o }) kept.1

-- ---- acknowledgements

-- an acknowledgement of messages that were acknowledged before
unchanged-link : (l : Link) (number : ℕ) → number ≤ l.base → trimmed l number ≡ l
unchanged-link l number old =
    let none : number - l.base ≡ 0 = omega (arith, old) in
    let still : l.base + min (number - l.base) (length l.unacknowledged) ≡ l.base =
    omega (arith, none, min-le_left (number - l.base) (length l.unacknowledged)) in
    let all : drop (number - l.base) l.unacknowledged ≡ l.unacknowledged =
    ap (λ (k : ℕ). drop k l.unacknowledged) none in
    ap (λ (k : ℕ). record l {
      base = k;
      unacknowledged = drop (number - l.base) l.unacknowledged;
    }) still
    ∙ ap (λ (ms : List Message). record l { unacknowledged = ms }) all

old-ack : (n new : NodeView) (a : Ack) (x : Answer) → view_act n (event.Ack a) ≡ Ok (new, x)
    → a.number ≤ (link_to n a.by).base → new ≡ n
old-ack n new a x h old =
    (ack-done n new a x h).1
    ∙ ap (λ (l : Link). record n { links = set n.links a.by l })
    (unchanged-link (link_to n a.by) a.number old)
    ∙ ap (λ (ls : List Link). record n { links = ls }) (set-get_or n.links a.by no_link)

pub old-same : (n m : NodeView) (e : Event) (a : Answer) → view_act n e ≡ Ok (m, a)
    → is_old_ack n e ≡ true → m ≡ n
old-same n m (event.Ack b) a h old = old-ack n m b a h (leb-true _ _ old)
old-same n m e a h old = absurd (true≢false (sym old))
