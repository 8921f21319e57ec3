-- States that differ at most in messages up to some numbers. An event reads the local part and the
-- counts of messages alone, so it keeps them alike.
use Rattle.std.proofs.Common.{◌≡◌, ◌≤◌, ◌+◌, ◌-◌, ℕ, zero, suc, true, List, [], ◌∷◌, ◌++◌, length, length-append, length-set, map, drop, drop-drop, get_or, set, slice_get, Some, Result, Ok, Err, refl, sym, ap, ◌∙◌, subst, arith}
use Rattle.std.proofs.lemmas.List.{length-map, map-set}
use Rattle.std.proofs.Math.ListN.{get_or-map}
use Rattle.std.proofs.lemmas.Option.{slice_get_within}
use Rattle.ids.specs.declared.refusal.Refusal.{Refusal}
use Rattle.msg.specs.declared.body.Message.{Message}
use Rattle.model.specs.declared.event.Event.{Event}
use Rattle.model.specs.declared.event.Answer.{Answer}
use Rattle.model.specs.State.{NodeState, node_at, no_node, sent_to}
use Rattle.model.specs.Effects.{Effect}
use Rattle.model.specs.Steps.{act, after, append_all, effect, is_repeat, receive, received}
use Rattle.model.proofs.Lookups.{both_set_if, slice_get-drop}
use Rattle.cell.specs.Reached.{AreLike, IsLike}
use Rattle.wire.proofs.Places.{some_at}

-- ---- Lists that are the same from some place on

pub drop-more : {A : Type 0} (xs ys : List A) (m n : ℕ) → m ≤ n → drop m xs ≡ drop m ys
    → drop n xs ≡ drop n ys
drop-more xs ys m n fewer same =
    let at : m + (n - m) ≡ n = omega (arith, fewer) in
    ap (λ (k : ℕ). drop k xs) (sym at) ∙ sym (drop-drop (n - m) m xs) ∙ ap (drop (n - m)) same
    ∙ drop-drop (n - m) m ys ∙ ap (λ (k : ℕ). drop k ys) at

drop-push : {A : Type 0} (xs ys : List A) (x : A) (n : ℕ) → length xs ≡ length ys
    → drop n xs ≡ drop n ys → drop n (xs ++ x ∷ []) ≡ drop n (ys ++ x ∷ [])
drop-push {A = A} xs ys x zero wide same = ap (λ (l : List A). l ++ x ∷ []) same
drop-push [] [] x (suc n) wide same = refl
drop-push [] (b ∷ ys) x (suc n) wide same = absurd (omega (arith, wide))
drop-push (a ∷ xs) [] x (suc n) wide same = absurd (omega (arith, wide))
drop-push (a ∷ xs) (b ∷ ys) x (suc n) wide same =
    drop-push xs ys x n (omega (arith, wide)) same

pub get-later : {A : Type 0} (xs ys : List A) (n k : ℕ) → n ≤ k → drop n xs ≡ drop n ys
    → slice_get xs k ≡ slice_get ys k
get-later {A = A} xs ys n k later same =
    let at : n + (k - n) ≡ k = omega (arith, later) in
    ap (slice_get xs) (sym at) ∙ sym (slice_get-drop xs n (k - n))
    ∙ ap (λ (l : List A). slice_get l (k - n)) same ∙ slice_get-drop ys n (k - n)
    ∙ ap (slice_get ys) at

-- a list of the same length has an element in the same place
pub also-there : {A : Type 0} (xs ys : List A) (k : ℕ) (x : A) → length xs ≡ length ys
    → slice_get xs k ≡ Some x → (y : A) × (slice_get ys k ≡ Some y)
also-there xs ys k x wide there =
    some_at ys k (omega (arith, wide, slice_get_within xs k x there))

-- ---- What was sent to each node

pub record AreSent (acked : ℕ → ℕ) (xs ys : List (List Message)) : Type 0 where
  pub counts : map length xs ≡ map length ys
  pub later : (to : ℕ) → drop (acked to) (get_or xs to []) ≡ drop (acked to) (get_or ys to [])

wide : (xs ys : List (List Message)) → map length xs ≡ map length ys → length xs ≡ length ys
wide xs ys counts = sym (length-map xs length) ∙ ap length counts ∙ length-map ys length

pub as-many : (xs ys : List (List Message)) (to : ℕ) → map length xs ≡ map length ys
    → length (get_or xs to []) ≡ length (get_or ys to [])
as-many xs ys to counts =
    sym (get_or-map length xs to []) ∙ ap (λ (ks : List ℕ). get_or ks to 0) counts
    ∙ get_or-map length ys to []

-- one more message to a node
abbrev pushed : List (List Message) → ℕ → Message → List (List Message)
pushed xs to x = set xs to (get_or xs to [] ++ x ∷ [])

pushed-like : (acked : ℕ → ℕ) (xs ys : List (List Message)) (to : ℕ) (x : Message)
    → AreSent acked xs ys → AreSent acked (pushed xs to x) (pushed ys to x)
pushed-like acked xs ys to x h =
    let first : List Message = get_or xs to [] ++ x ∷ [] in
    let second : List Message = get_or ys to [] ++ x ∷ [] in
    let before = as-many xs ys to h.counts in
    let many : length first ≡ length second =
    omega (
      arith,
      before,
      length-append (get_or xs to []) (x ∷ []),
      length-append (get_or ys to []) (x ∷ []),
    ) in
    record {
      counts = map-set length xs to first ∙ (λ i. set (h.counts i) to (many i))
          ∙ sym (map-set length ys to second);
      later = λ j.
          both_set_if (λ (a b : List Message). drop (acked j) a ≡ drop (acked j) b) [] [] first
          second xs ys to (wide xs ys h.counts) j
          (λ is. drop-push (get_or xs to []) (get_or ys to []) x (acked j) before
          (subst (λ (k : ℕ). drop (acked j) (get_or xs k []) ≡ drop (acked j) (get_or ys k []))
          (sym is) (h.later j)))
          (h.later j);
    }

appended-like : (acked : ℕ → ℕ) (xs ys : List (List Message)) (ms : List (ℕ × Message))
    → AreSent acked xs ys → AreSent acked (append_all xs ms) (append_all ys ms)
appended-like acked xs ys [] h = h
appended-like acked xs ys ((to, x) ∷ ms) h =
    appended-like acked (pushed xs to x) (pushed ys to x) ms (pushed-like acked xs ys to x h)

-- ---- States

pub same-like : (acked : ℕ → ℕ) (s : NodeState) → IsLike acked s s
same-like acked s = record { local = refl; counts = refl; later = λ to. refl }

pub like-sym : (acked : ℕ → ℕ) (s t : NodeState) → IsLike acked s t → IsLike acked t s
like-sym acked s t h =
    record { local = sym h.local; counts = sym h.counts; later = λ to. sym (h.later to) }

pub like-both : (acked : ℕ → ℕ) (s t u : NodeState) → IsLike acked s t → IsLike acked t u
    → IsLike acked s u
like-both acked s t u g h = record {
  local = g.local ∙ h.local;
  counts = g.counts ∙ h.counts;
  later = λ to. g.later to ∙ h.later to;
}

-- more messages may differ
pub like-more : (acked more : ℕ → ℕ) (s t : NodeState) → ((to : ℕ) → acked to ≤ more to)
    → IsLike acked s t → IsLike more s t
like-more acked more s t grows h = record {
  local = h.local;
  counts = h.counts;
  later = λ to.
      drop-more (sent_to s to) (sent_to t to) (acked to) (more to) (grows to) (h.later to);
}

-- ---- Events

-- equal answers, and states that are alike, or equal refusals
abbrev pub AnsweredAlike : (ℕ → ℕ) → Result (NodeState × Answer) Refusal
    → Result (NodeState × Answer) Refusal → Type 0
AnsweredAlike acked (Ok x) (Ok y) = IsLike acked x.0 y.0 × (x.1 ≡ y.1)
AnsweredAlike acked (Ok x) (Err e) = ⊥
AnsweredAlike acked (Err e) (Ok y) = ⊥
AnsweredAlike acked (Err e) (Err f) = e ≡ f

after-like : (acked : ℕ → ℕ) (s t : NodeState) (r : Result Effect Refusal) → IsLike acked s t
    → AnsweredAlike acked (after s r) (after t r)
after-like acked s t (Ok x) h =
    let sent = appended-like acked s.sent t.sent x.sends
    (record { counts = h.counts; later = h.later }) in
    (record { local = refl; counts = sent.counts; later = sent.later }, refl)
after-like acked s t (Err e) h = refl

pub act-like : (acked : ℕ → ℕ) (s t : NodeState) (e : Event) → IsLike acked s t
    → AnsweredAlike acked (act s e) (act t e)
unfolding act
act-like acked s t e h =
    let found : Result Effect Refusal = effect s.local (map length s.sent) e in
    let same : found ≡ effect t.local (map length t.sent) e =
    λ i. effect (h.local i) (h.counts i) e in
    subst (λ (r : Result Effect Refusal). AnsweredAlike acked (after s found) (after t r)) same
    (after-like acked s t found h)

pub receive-like : (acked : ℕ → ℕ) (s t : NodeState) (from to number : ℕ) (x : Message)
    → IsLike acked s t
    → AnsweredAlike acked (receive s from to number x.stamp x.body)
    (receive t from to number x.stamp x.body)
unfolding receive
receive-like acked s t from to number x h =
    let found : Result Effect Refusal =
    received s.local (map length s.sent) from to number x.stamp x.body in
    let same : found ≡ received t.local (map length t.sent) from to number x.stamp x.body =
    λ i. received (h.local i) (h.counts i) from to number x.stamp x.body in
    subst (λ (r : Result Effect Refusal). AnsweredAlike acked (after s found) (after t r)) same
    (after-like acked s t found h)

-- a repeat is answered by its number alone
pub again-same : (s : NodeState) (from to number : ℕ) (x y : Message)
    → is_repeat s.local from number ≡ true
    → receive s from to number x.stamp x.body ≡ receive s from to number y.stamp y.body
unfolding receive
again-same s from to number x y again = rw again refl

-- an answer or a refusal of one is that of the other
pub other-answer : (acked : ℕ → ℕ) (r q : Result (NodeState × Answer) Refusal) (s : NodeState)
    (a : Answer) → AnsweredAlike acked r q → r ≡ Ok (s, a)
    → (t : NodeState) × (q ≡ Ok (t, a)) × IsLike acked s t
other-answer acked (Ok x) (Ok y) s a h is =
    let same : ◌≡◌ {A = NodeState × Answer} x (s, a) = cc in (
      y.0,
      ap (λ (b : Answer). Ok (y.0, b)) (sym h.1 ∙ ap (λ (z : NodeState × Answer). z.1) same),
      subst (λ (z : NodeState). IsLike acked z y.0)
          (ap (λ (z : NodeState × Answer). z.0) same) h.0,
    )
other-answer acked (Ok x) (Err e) s a h is = absurd h
other-answer acked (Err e) q s a h is = absurd cc

pub other-refusal : (acked : ℕ → ℕ) (r q : Result (NodeState × Answer) Refusal) (e : Refusal)
    → AnsweredAlike acked r q → r ≡ Err e → q ≡ Err e
other-refusal acked (Ok x) q e h is = absurd cc
other-refusal acked (Err f) (Ok y) e h is = absurd h
other-refusal acked (Err f) (Err g) e h is = ap Err (sym h) ∙ is

-- ---- The states of all nodes

pub likes-more : (acked more : ℕ → ℕ → ℕ) (ss ts : List NodeState)
    → ((i to : ℕ) → acked i to ≤ more i to) → AreLike acked ss ts → AreLike more ss ts
likes-more acked more ss ts grows h = record {
  width = h.width;
  each = λ i. like-more (acked i) (more i) (node_at ss i) (node_at ts i) (grows i) (h.each i);
}

pub likes-set : (acked : ℕ → ℕ → ℕ) (ss ts : List NodeState) (i : ℕ) (s t : NodeState)
    → AreLike acked ss ts → IsLike (acked i) s t → AreLike acked (set ss i s) (set ts i t)
likes-set acked ss ts i s t h like = record {
  width = length-set ss i s ∙ h.width ∙ sym (length-set ts i t);
  each = λ k.
      both_set_if (λ (a b : NodeState). IsLike (acked k) a b) no_node no_node s t ss ts i h.width k
      (λ is. subst (λ (j : ℕ). IsLike (acked j) s t) is like) (h.each k);
}
