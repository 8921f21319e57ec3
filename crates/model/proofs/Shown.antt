-- An event on a node that keeps windows is the event on every state that it shows. This is proved
-- once for all events.
use Rattle.std.proofs.Common.{◌≡◌, ℕ, ◌+◌, ◌-◌, ◌<◌, ◌≤◌, min, Bool, true, false, List, [], ◌∷◌, ◌++◌, length, map, drop, get_or, set, Option, Some, None, Result, Ok, Err, refl, ap, sym, ◌∙◌, subst, ⊎_elim, arith, length-append, append-nil}
use Rattle.std.specs.Prelude.{nat_le, IsOk}
use Rattle.std.proofs.Math.Nat.{min-le_right, min-eq_left, min-eq_right}
use Rattle.std.proofs.Math.ListN.{drop_of_length-le}
use Rattle.std.proofs.lemmas.Bool.{cases_lt, cases_Bool, lt-leb, le-leb, leb-true, leb-false, le-ltb, or_right, cond-true, cond-false}
use Rattle.ids.specs.declared.limits.TheConstants.{WINDOW}
use Rattle.ids.specs.declared.refusal.Refusal.{Refusal}
use Rattle.ids.specs.declared.refusal.Refusal.TheVariants.{AckBeyond, WrongNode, LinkSpent}
use Rattle.msg.specs.declared.frame.Ack.{Ack}
use Rattle.msg.specs.declared.body.Message.{Message}
use Rattle.model.specs.declared.event.Event.{Event}
use Rattle.model.specs.declared.event.Answer.{Answer}
use Rattle.model.specs.declared.event.Event.TheVariants as event
use Rattle.model.specs.declared.event.Answer.TheVariants as answer
use Rattle.msg.specs.declared.frame.Data.{Data}
use Rattle.model.specs.State.{LocalState, NodeState, got_from}
use Rattle.model.specs.Checks.{guarded, AllPass, IsOkOrSpent, IsReplaced, by_test, by_memory}
use Rattle.model.specs.Effects.{Effect, unchanged}
use Rattle.model.specs.Steps.{checked, tests, made, fits, ack_of, is_addressed, is_repeat, is_early, may_take, receipt_tests, receipt, taken_in, act, after, is_shading, append_all}
use Rattle.model.specs.View.{Link, NodeView, ShowsSent, Shows, link_to, IsTold, Follows, Performs, no_link, used, appended, append_to, ack_tests, trimmed, let_go, view_act, view_after, view_done}
use Rattle.model.proofs.Checks.{guarded-ok, guarded-passes, guarded-pass, guarded-without, passed-parts, passed-both, guarded-passed}
use Rattle.model.proofs.Lookups.{both_set_if, maps_agree}
use Rattle.std.proofs.lemmas.List.{length-set, length-drop, drop-drop, drop-append-le, set-get_or}

-- one more message on a link
shows_appended : (l : Link) (sent : List Message) (x : Message) → ShowsSent l sent
    → ShowsSent (appended l x) (sent ++ x ∷ [])
shows_appended l sent x h = record {
  within = omega (arith, h.within, length-append sent (x ∷ []));
  unacknowledged = ap (λ w. w ++ x ∷ []) h.unacknowledged
      ∙ sym (drop-append-le l.base sent (x ∷ []) h.within);
}

record ShowAll (links : List Link) (sent : List (List Message)) : Type 0 where
  width : length links ≡ length sent
  each : (i : ℕ) → ShowsSent (get_or links i no_link) (get_or sent i [])

shows_sends : (links : List Link) (sent : List (List Message)) (ms : List (ℕ × Message))
    → ShowAll links sent → ShowAll (append_to links ms) (append_all sent ms)
shows_sends links sent [] h = h
shows_sends links sent (m ∷ ms) h =
    shows_sends (set links m.0 (appended (get_or links m.0 no_link) m.1))
    (set sent m.0 (get_or sent m.0 [] ++ m.1 ∷ [])) ms (record {
      width = length-set links m.0 _ ∙ h.width ∙ sym (length-set sent m.0 _);
      each = λ i. both_set_if ShowsSent no_link [] _ _ links sent m.0 h.width i
          (λ _. shows_appended _ _ _ (h.each m.0)) (h.each i);
    })

pub used_is : (l : Link) (sent : List Message) → ShowsSent l sent → used l ≡ length sent
used_is l sent h = omega (arith, ap length h.unacknowledged, length-drop l.base sent, h.within)

counts_agree : (n : NodeView) (s : NodeState) → Shows n s → map used n.links ≡ map length s.sent
counts_agree n s h =
    maps_agree used length n.links s.sent no_link [] h.width (λ k. used_is _ _ (h.links k))

-- a link shows the same messages after some were dropped
shows_trimmed : (l : Link) (sent : List Message) (number : ℕ) → ShowsSent l sent
    → ShowsSent (trimmed l number) sent
shows_trimmed l sent number h =
    let k = number - l.base in
    let left : length l.unacknowledged ≡ length sent - l.base =
    ap length h.unacknowledged ∙ length-drop l.base sent in
    let few : min k (length l.unacknowledged) ≤ length l.unacknowledged =
    min-le_right k (length l.unacknowledged) in
    let gone : drop k l.unacknowledged ≡ drop (l.base + k) sent =
    ap (drop k) h.unacknowledged ∙ drop-drop k l.base sent in
    record {
      within = omega (arith, few, left, h.within);
      unacknowledged = ⊎_elim
          {C = drop k l.unacknowledged ≡ drop (l.base + min k (length l.unacknowledged)) sent}
          (λ (less : k < length l.unacknowledged).
          gone
          ∙ ap (λ (j : ℕ). drop (l.base + j) sent)
          (sym (min-eq_left (let most : k ≤ length l.unacknowledged = omega arith in most))))
          (λ (past : length l.unacknowledged ≤ k).
          drop_of_length-le l.unacknowledged past
          ∙ sym
          (drop_of_length-le sent
          (let whole : length sent ≤ l.base + min k (length l.unacknowledged) =
          omega (arith, min-eq_right past, left, h.within) in
          whole)))
          (cases_lt k (length l.unacknowledged));
    }

shows_let_go : (links : List Link) (sent : List (List Message)) (o : Option Ack)
    → ShowAll links sent → ShowAll (let_go links o) sent
shows_let_go links sent None h = h
shows_let_go links sent (Some a) h = record {
  width = length-set links a.by _ ∙ h.width;
  each = subst (λ (z : List (List Message)).
      (i : ℕ)
      → ShowsSent
      (get_or (set links a.by (trimmed (get_or links a.by no_link) a.number)) i no_link)
      (get_or z i [])) (set-get_or sent a.by [])
      (λ i. both_set_if ShowsSent no_link [] _ _ links sent a.by h.width i
      (λ _. shows_trimmed _ _ a.number (h.each a.by)) (h.each i));
}

-- the tests on the code's node: also those of an acknowledgement, which a state can't make
abbrev unheard : List (Bool × Refusal) → NodeView → Option Ack → List (Bool × Refusal)
    → List (Bool × Refusal)
unheard ts n o us = (ts ++ ack_tests n o) ++ us

passed-heard : (ts us : List (Bool × Refusal)) (n : NodeView) (o : Option Ack)
    → AllPass (unheard ts n o us) → AllPass (ts ++ us)
passed-heard ts us n o h =
    let parts = passed-parts (ts ++ ack_tests n o) us h in
    passed-both ts us (passed-parts ts (ack_tests n o) parts.0).0 parts.1

refused-heard : {A : Type 0} (ts us : List (Bool × Refusal)) (n : NodeView) (o : Option Ack) (x : A)
    (e : Refusal) → IsTold o e → guarded (unheard ts n o us) x ≡ Err e
    → guarded (ts ++ us) x ≡ Err e
refused-heard ts us n None x e told h =
    subst (λ (z : List (Bool × Refusal)). guarded (z ++ us) x ≡ Err e) (append-nil ts) h
refused-heard ts us n (Some a) x e told h = guarded-without ts us _ AckBeyond e x told h

pub view-ok : (n new : NodeView) (links : List Link) (r : Result Effect Refusal) (a : Answer)
    → view_after n links r ≡ Ok (new, a)
    → (x : Effect) × (r ≡ Ok x)
    × (new ≡ record n { local = x.local; links = append_to links x.sends }) × (a ≡ x.answer)
view-ok n new links (Ok x) a h =
    let both : ◌≡◌ {A = NodeView × Answer}
    (record n { local = x.local; links = append_to links x.sends }, x.answer) (new, a) =
    cc in (
      x,
      refl,
      sym (ap (λ (z : NodeView × Answer). z.0) both),
      sym (ap (λ (z : NodeView × Answer). z.1) both),
    )
view-ok n new links (Err e) a h = absurd cc

view-answered : (n : NodeView) (links : List Link) (r : Result Effect Refusal)
    → IsOk (view_after n links r) → (x : Effect) × (r ≡ Ok x)
view-answered n links (Ok x) h = (x, refl)
view-answered n links (Err e) h = absurd cc

view-err : (n : NodeView) (links : List Link) (r : Result Effect Refusal) (e : Refusal)
    → view_after n links r ≡ Err e → r ≡ Err e
view-err n links (Ok x) e h = absurd cc
view-err n links (Err f) e h = let same : f ≡ e = cc in ap (λ z. Err z) same

spent-told : (o : Option Ack) (e : Refusal) → e ≡ LinkSpent → IsTold o e
spent-told None e h = tt
spent-told (Some a) e h = λ beyond. let wrong : LinkSpent ≡ AckBeyond = sym h ∙ beyond in absurd cc

-- the tests, the numbers of messages and the effect are those of the state
module _ {n : NodeView} {s : NodeState} (h : Shows n s) (e : Event)
    (ts f : List (Bool × Refusal)) (x : Effect) where
  -- the links without what the event drops, and the tests on the code's node
  abbrev left : List Link
  left = let_go n.links (ack_of e)

  abbrev all : List (Bool × Refusal)
  all = unheard ts n (ack_of e) f

  -- if these pass, so do those on the state
  answers : (y : Effect) → guarded all x ≡ Ok y → after s (guarded (ts ++ f) x) ≡ after s (Ok x)
  answers y is =
      ap (after s)
      (guarded-pass (ts ++ f) x (passed-heard ts f n (ack_of e) (guarded-passes all x y is)))

  -- `Memory` replaces the same results on the state as on the code's node
  spent-heard : (r : Result Effect Refusal) → guarded all x ≡ r
      → IsOkOrSpent (view_after n left r) → IsOkOrSpent (after s (guarded (ts ++ f) x))
  spent-heard (Ok y) is t =
      subst (λ (z : Result (NodeState × Answer) Refusal). IsOkOrSpent z) (sym (answers y is)) tt
  spent-heard (Err r) is t =
      subst (λ (z : Result (NodeState × Answer) Refusal). IsOkOrSpent z)
      (sym (ap (after s) (refused-heard ts f n (ack_of e) x r (spent-told (ack_of e) r t) is))) t

  replaced-heard : (shading : Bool) → IsReplaced shading (view_after n left (guarded all x))
      → IsReplaced shading (after s (guarded (ts ++ f) x))
  replaced-heard false answered =
      let found = view-answered n left (guarded all x) answered in
      subst (λ (z : Result (NodeState × Answer) Refusal). IsOk z)
      (sym (answers found.0 found.1)) refl
  replaced-heard true t = spent-heard (guarded all x) refl t

  follows_effect : (new : NodeView) (r : Result Answer Refusal)
      → Performs (is_shading e) r new (view_after n left (guarded all x))
      → Follows e r new (after s (guarded (ts ++ f) x))
  follows_effect new (Ok a) p =
      let found = view-ok n new left (guarded all x) a p in
      let same : x ≡ found.0 = guarded-ok all x found.0 found.1 in
      let links : ShowAll (append_to left x.sends) (append_all s.sent x.sends) =
      shows_sends left s.sent x.sends
      (shows_let_go n.links s.sent (ack_of e) (record { width = h.width; each = h.links })) in
      let shown : Shows (record n { local = x.local; links = append_to left x.sends })
      (record { local = x.local; sent = append_all s.sent x.sends }) =
      record { local = refl; width = links.width; links = links.each } in (
        record { local = x.local; sent = append_all s.sent x.sends },
        answers found.0 found.1
            ∙ ap
            (λ (z : Answer). Ok (record { local = x.local; sent = append_all s.sent x.sends }, z))
            (ap (λ (z : Effect). z.answer) same ∙ sym found.3),
        subst
            (λ (z : NodeView).
            Shows z (record { local = x.local; sent = append_all s.sent x.sends }))
            (ap (λ (z : Effect). record n {
              local = z.local;
              links = append_to left z.sends;
            }) same ∙ sym found.2) shown,
      )
  follows_effect new (Err r) (by_test other p) = λ told.
      by_test other (ap (after s)
      (refused-heard ts f n (ack_of e) x r told (view-err n left (guarded all x) r p)))
  follows_effect new (Err r) (by_memory full p) = λ told.
      by_memory full (replaced-heard (is_shading e) p)

-- A node's result for an event, and the node after it, follow the event on every state that the
-- node shows.
pub act-shown : (n new : NodeView) (e : Event) (r : Result Answer Refusal)
    → Performs (is_shading e) r new (view_act n e) → (s : NodeState) → Shows n s
    → Follows e r new (act s e)
unfolding act view_act
act-shown n new e r p s h =
    let local : n.local ≡ s.local = h.local in
    let counts : map used n.links ≡ map length s.sent = counts_agree n s h in
    let ready : Performs (is_shading e) r new
    (view_after n (let_go n.links (ack_of e))
    (checked (tests s.local e ++ ack_tests n (ack_of e)) (map length s.sent)
    (made s.local (map length s.sent) e))) =
    subst (λ (c : List ℕ).
    Performs (is_shading e) r new
    (view_after n (let_go n.links (ack_of e))
    (checked (tests s.local e ++ ack_tests n (ack_of e)) c (made s.local c e)))) counts
    (subst (λ (z : LocalState).
    Performs (is_shading e) r new
    (view_after n (let_go n.links (ack_of e))
    (checked (tests z e ++ ack_tests n (ack_of e)) (map used n.links)
    (made z (map used n.links) e)))) local p) in
    follows_effect h e (tests s.local e)
    ((fits (map length s.sent) (made s.local (map length s.sent) e).sends, LinkSpent) ∷ [])
    (made s.local (map length s.sent) e) new r ready

-- a message that the node may receive in its turn
pub view-taken_in : (n : NodeView) (d : Data) → is_addressed n.local d.from d.to ≡ true
    → d.number ≡ got_from n.local d.from + 1 → may_take n.local d.from d.stamp d.body ≡ true
    → view_act n (event.Data d)
    ≡ view_done n (taken_in n.local d.from (got_from n.local d.from + 1) d.stamp d.body)
unfolding view_act
view-taken_in n d addressed turn may =
    let later : got_from n.local d.from < d.number = omega (arith, turn) in
    let inside : d.number ≤ got_from n.local d.from + WINDOW = omega (arith, turn) in
    let new : is_repeat n.local d.from d.number ≡ false =
    lt-leb d.number (got_from n.local d.from) later in
    let due : is_early n.local d.from d.number ≡ false =
    le-ltb (got_from n.local d.from + 1) d.number
    (let h : d.number ≤ got_from n.local d.from + 1 = omega (arith, turn) in h) in
    let taken = or_right (is_early n.local d.from d.number) _ may in
    let passed : AllPass (receipt_tests n.local d.from d.to d.number d.stamp d.body) =
    (addressed, (le-leb _ _ inside, (or_right (is_repeat n.local d.from d.number) _ taken, tt))) in
    ap (view_after n n.links)
    (guarded-passed (receipt_tests n.local d.from d.to d.number d.stamp d.body)
    ((fits (map used n.links) (receipt n.local d.from d.number d.stamp d.body).sends, LinkSpent)
    ∷ []) (receipt n.local d.from d.number d.stamp d.body) passed)
    ∙ ap (view_done n)
    (cond-false (is_repeat n.local d.from d.number) (unchanged n.local answer.Repeat) _ new
    ∙ cond-false (is_early n.local d.from d.number) (unchanged n.local answer.Early)
    (taken_in n.local d.from d.number d.stamp d.body) due
    ∙ ap (λ (k : ℕ). taken_in n.local d.from k d.stamp d.body) turn)

-- ---- acknowledgements

ack-passes : (n new : NodeView) (a : Ack) (x : Answer) → view_act n (event.Ack a) ≡ Ok (new, x)
    → (y : Effect)
    × AllPass
    ((is_addressed n.local a.by a.of, WrongNode)
    ∷ (nat_le a.number (link_to n a.by).kept, AckBeyond) ∷ (true, LinkSpent) ∷ [])
    × (new
    ≡ record n {
      local = n.local;
      links = set n.links a.by (trimmed (link_to n a.by) a.number);
    })
    × (x ≡ answer.Done)
unfolding view_act
ack-passes n new a x h =
    let ts : List (Bool × Refusal) =
    (is_addressed n.local a.by a.of, WrongNode)
    ∷ (nat_le a.number (link_to n a.by).kept, AckBeyond) ∷ (true, LinkSpent) ∷ [] in
    let found =
    view-ok n new (let_go n.links (Some a)) (guarded ts (unchanged n.local answer.Done)) x h in
    let same : unchanged n.local answer.Done ≡ found.0 =
    guarded-ok ts (unchanged n.local answer.Done) found.0 found.1 in (
      found.0,
      guarded-passes ts (unchanged n.local answer.Done) found.0 found.1,
      found.2
          ∙ ap (λ (z : Effect). record n {
            local = z.local;
            links = append_to (let_go n.links (Some a)) z.sends;
          }) (sym same),
      found.3 ∙ ap (λ (z : Effect). z.answer) (sym same),
    )

-- an answered acknowledgement is of released messages, and drops them
pub ack-done : (n new : NodeView) (a : Ack) (x : Answer) → view_act n (event.Ack a) ≡ Ok (new, x)
    → (a.number ≤ (link_to n a.by).kept)
    × (new ≡ record n { links = set n.links a.by (trimmed (link_to n a.by) a.number) })
ack-done n new a x h =
    let found = ack-passes n new a x h in
    (leb-true _ _ found.1.1.0, found.2)

-- if it is addressed to the node, it is refused only if it goes beyond what was released
pub ack-refused : (n : NodeView) (a : Ack) (e : Refusal) → is_addressed n.local a.by a.of ≡ true
    → view_act n (event.Ack a) ≡ Err e → (e ≡ AckBeyond) × ((link_to n a.by).kept < a.number)
unfolding view_act
ack-refused n a e addressed h =
    let ts : List (Bool × Refusal) =
    (is_addressed n.local a.by a.of, WrongNode)
    ∷ (nat_le a.number (link_to n a.by).kept, AckBeyond) ∷ (true, LinkSpent) ∷ [] in
    let r : guarded ts (unchanged n.local answer.Done) ≡ Err e =
    view-err n (let_go n.links (Some a)) (guarded ts (unchanged n.local answer.Done)) e h in
    let s : guarded ((nat_le a.number (link_to n a.by).kept, AckBeyond) ∷ (true, LinkSpent) ∷ [])
    (unchanged n.local answer.Done) ≡ Err e =
    sym (cond-true (is_addressed n.local a.by a.of) _ (Err WrongNode) addressed) ∙ r in
    ⊎_elim {C = (e ≡ AckBeyond) × ((link_to n a.by).kept < a.number)}
    (λ within.
    absurd
    (let wrong : ◌≡◌ {A = Result Effect Refusal} (Ok (unchanged n.local answer.Done)) (Err e) =
    sym
    (cond-true (nat_le a.number (link_to n a.by).kept) (Ok (unchanged n.local answer.Done))
    (Err AckBeyond) within) ∙ s in
    cc))
    (λ beyond.
    let same : ◌≡◌ {A = Result Effect Refusal} (Err AckBeyond) (Err e) =
    sym
    (cond-false (nat_le a.number (link_to n a.by).kept) (Ok (unchanged n.local answer.Done))
    (Err AckBeyond) beyond) ∙ s in
    (let again : AckBeyond ≡ e = cc in sym again, leb-false _ _ beyond))
    (cases_Bool (nat_le a.number (link_to n a.by).kept))
