-- If a seat says that it took one more step on a mailbox, that step is the last one on the mailbox.
use Rattle.std.proofs.Common.{◌≡◌, ◌≢◌, ℕ, zero, suc, ◌+◌, ◌==◌, eq-eqb, Bool, true, List, [], ◌∷◌, ◌++◌, append-nil, length, Option, Some, None, slice_get, refl, sym, ap, ◌∙◌, subst, ⊎_elim, arith}
use Rattle.std.specs.Prelude.{slice_index}
use Rattle.std.specs.List.{filter}
use Rattle.std.proofs.lemmas.Bool.{cond-true, cond-false, cases_Bool}
use Rattle.std.proofs.lemmas.List.Elements.{filter-append}
use mathlib.Core.Option.{some, some-injective}
use mathlib.Core.Logic.{dite}
use native.Mathlib.Decide.{ℕ_discrete}
use lib.ListN.{get_elem?}
use Rattle.atomic_table.specs.Table.{State}
use Rattle.atomic_table.proofs.Lists.{at_set, set_else}
use Rattle.laws.proofs.Lookups.{slice_get-append}
use Rattle.model.specs.World.{World}
use Rattle.wire.specs.Views.{node, Visit, Known, visit}
use Rattle.wire.specs.Rule.{face, by_node, on_box, AreVisits}
use Rattle.wire.specs.Laws.{Tells, VisitsAreTrue}
use Rattle.wire.proofs.Boxes.{set-at}
use Rattle.wire.proofs.Stays.{node-of}
use Rattle.wire.proofs.Visits.{filter-here}

-- ---- Elements of a list

abbrev Stands : {X : Type 0} → X → List X → Type 0
Stands x xs = (k : ℕ) × (slice_get xs k ≡ Some x)

module _ {X : Type 0} (p : X → Bool) where
  kept : (xs : List X) (k : ℕ) (x : X) → slice_get xs k ≡ Some x → p x ≡ true
      → Stands x (filter p xs)
  kept [] k x e hit = absurd cc
  kept (y ∷ ys) zero x e hit =
      let is : y ≡ x = cc in
      (0, ap (λ (l : List X). slice_get l 0) (cond-true _ _ _ (ap p is ∙ hit)) ∙ e)
  kept (y ∷ ys) (suc k) x e hit =
      let later = kept ys k x e hit in
      ⊎_elim
      (λ yes. (
        suc later.0,
        ap (λ (l : List X). slice_get l (suc later.0)) (cond-true _ _ _ yes) ∙ later.1,
      ))
      (λ gone. (
        later.0,
        ap (λ (l : List X). slice_get l later.0) (cond-false _ _ _ gone) ∙ later.1,
      ))
      (cases_Bool (p y))

  first-among : (y : X) (ys zs : List X) (x : X)
      → ((j : ℕ) → slice_get zs j ≡ Some x → Stands x ys)
      → (k : ℕ) → slice_get (y ∷ zs) k ≡ Some x → Stands x (y ∷ ys)
  first-among y ys zs x others zero there = (0, there)
  first-among y ys zs x others (suc j) there =
      let later = others j there in (suc later.0, later.1)

  among : (xs : List X) (k : ℕ) (x : X) → slice_get (filter p xs) k ≡ Some x → Stands x xs
  among [] k x e = absurd cc
  among (y ∷ ys) k x e =
      ⊎_elim
      (λ yes.
      first-among y ys (filter p ys) x (λ j there. among ys j x there) k
      (sym (ap (λ (l : List X). slice_get l k) (cond-true _ _ _ yes)) ∙ e))
      (λ gone.
      let later = among ys k x
      (sym (ap (λ (l : List X). slice_get l k) (cond-false _ _ _ gone)) ∙ e) in
      (suc later.0, later.1))
      (cases_Bool (p y))

  all-kept : (xs : List X) → ((k : ℕ) (x : X) → slice_get xs k ≡ Some x → p x ≡ true)
      → filter p xs ≡ xs
  all-kept [] all = refl
  all-kept (x ∷ xs) all =
      cond-true _ _ _ (all 0 x refl)
      ∙ ap (λ (l : List X). x ∷ l) (all-kept xs (λ k y e. all (suc k) y e))

module _ {X : Type 0} where
  -- a list that begins with another one
  goes-on : (xs ys : List X)
      → ((k : ℕ) (x : X) → slice_get xs k ≡ Some x → slice_get ys k ≡ Some x)
      → (rest : List X) × (ys ≡ xs ++ rest)
  goes-on [] ys alike = (ys, refl)
  goes-on (x ∷ xs) [] alike =
      let never : ◌≡◌ {A = Option X} None (Some x) = alike 0 x refl in absurd cc
  goes-on (x ∷ xs) (y ∷ ys) alike =
      let same : ◌≡◌ {A = Option X} (Some y) (Some x) = alike 0 x refl in
      let first : y ≡ x = cc in
      let later = goes-on xs ys (λ k z e. alike (suc k) z e) in
      (later.0, (λ i. first i ∷ later.1 i))

  rest-same : (xs ys zs : List X) → xs ++ ys ≡ xs ++ zs → ys ≡ zs
  rest-same [] ys zs e = e
  rest-same (x ∷ xs) ys zs e = rest-same xs ys zs cc

-- ---- Steps on a mailbox

placed : {x : Visit} (m word : ℕ) (xs : List Visit) (place first k : ℕ)
    → AreVisits m word place first xs → slice_get xs k ≡ Some x → x.place ≡ place + k
placed m word [] place first k h e = absurd cc
placed {x} m word (y ∷ ys) place first zero h e =
    let is : y ≡ x = cc in
    let same : x.place ≡ place = ap (λ (z : Visit). z.place) (sym is) ∙ h.1 in
    omega (arith, same)
placed m word (y ∷ ys) place first (suc k) h e =
    let later = placed m word ys (suc place) y.left k h.3 e in omega (arith, later)

last-one : {before after : ℕ} (m : ℕ) (e : Visit) (xs : List Visit) (place first : ℕ)
    → AreVisits m before place first xs → AreVisits m after place first (xs ++ e ∷ [])
    → (e.found ≡ before) × (e.left ≡ after)
last-one m e [] place first h g = (g.2 ∙ h, g.3)
last-one m e (x ∷ xs) place first h g =
    last-one m e xs (suc place) x.left h.3 g.3

-- a seat's step on a mailbox, between two states of the wire
record Telling {S : Type 0} (bytes : S → List ℕ) (opening : World) : Type 0 where
  pub s : State S Known
  pub t : State S Known
  pub box : ℕ
  pub place : ℕ
  pub found : ℕ
  pub left : ℕ
  pub tells : Tells bytes opening s t box place found left

module _ {S : Type 0} {bytes : S → List ℕ} {opening : World} (it : Telling bytes opening) where
  abbrev s : State S Known
  s = it.s

  abbrev t : State S Known
  t = it.t

  abbrev box : ℕ
  box = it.box

  abbrev place : ℕ
  place = it.place

  abbrev found : ℕ
  found = it.found

  abbrev left : ℕ
  left = it.left

  abbrev h : Tells bytes opening s t box place found left
  h = it.tells

  abbrev last : Visit
  last = visit box place found left h.old

  abbrev olds : List Visit
  olds = h.before.mail.visits box

  abbrev news : List Visit
  news = h.after.mail.visits box

  now-at : get_elem? t.views h.seat ≡ some h.new
  now-at =
      subst (λ (vs : List Known). get_elem? vs h.seat ≡ some h.new) (sym h.stepped)
      (set-at s.views h.seat h.new h.old h.at)

  -- the seat's own steps, and those of another seat
  mine : by_node h.old.me news ≡ by_node h.old.me olds ++ last ∷ []
  mine =
      let old = node-of
      (record { state = s; holds = h.before; id = h.seat; view = h.old; at = h.at }) h.was_node in
      let new = node-of
      (record { state = t; holds = h.after; id = h.seat; view = h.new; at = now-at }) h.is_node in
      ap (λ (i : ℕ). by_node i news) (sym h.same) ∙ new.visited box h.inside
      ∙ ap (on_box box) h.visits
      ∙ filter-here (λ x. x.box == box) h.old.visits last (eq-eqb box box refl)
      ∙ ap (λ (xs : List Visit). xs ++ last ∷ []) (sym (old.visited box h.inside))

  theirs : (j : ℕ) (u : Known) → j ≢ h.seat → get_elem? s.views j ≡ some u → u.role ≡ node
      → by_node u.me news ≡ by_node u.me olds
  theirs j u apart at role =
      let now : get_elem? t.views j ≡ some u =
      subst (λ (vs : List Known). get_elem? vs j ≡ some u) (sym h.stepped)
      (set_else s.views h.seat j h.new apart ∙ at) in
      let old = node-of
      (record { state = s; holds = h.before; id = j; view = u; at = at }) role in
      let new = node-of
      (record { state = t; holds = h.after; id = j; view = u; at = now }) role in
      new.visited box h.inside ∙ sym (old.visited box h.inside)

  -- each earlier step is still there afterwards, at the same place
  alike : (k : ℕ) (x : Visit) → slice_get olds k ≡ Some x → slice_get news k ≡ Some x
  alike k x e =
      let seat = h.before.visitors box h.inside k x e in
      let own = kept (λ y. y.node == x.node) olds k x e (eq-eqb x.node x.node refl) in
      let there : Stands x (by_node x.node news) =
      dite (ℕ_discrete seat.0 h.seat)
      (λ is.
      let same : h.old ≡ seat.1 =
      some-injective h.old seat.1
      (sym h.at ∙ subst (λ (j : ℕ). get_elem? s.views j ≡ some seat.1) is seat.2) in
      let me : h.old.me ≡ x.node = ap (λ (u : Known). u.me) same ∙ seat.4 in
      subst (λ (i : ℕ). Stands x (by_node i olds) → Stands x (by_node i news)) me
      (λ was. (
        was.0,
        ap (λ (l : List Visit). slice_get l was.0) mine
            ∙ slice_get-append (by_node h.old.me olds) (last ∷ []) was.0 x was.1,
      ))
      own)
      (λ apart.
      subst (λ (i : ℕ). Stands x (by_node i olds) → Stands x (by_node i news)) seat.4
      (λ was. (
        was.0,
        ap (λ (l : List Visit). slice_get l was.0)
            (theirs seat.0 seat.1 apart seat.2 seat.3) ∙ was.1,
      ))
      own) in
      let now = among (λ y. y.node == x.node) news there.0 x there.1 in
      let first = placed box _ olds 0 0 k (h.before.visits box h.inside) e in
      let second = placed box _ news 0 0 now.0 (h.after.visits box h.inside) now.1 in
      subst (λ (i : ℕ). slice_get news i ≡ Some x)
      (let same : now.0 ≡ k = omega (arith, first, second) in same) now.1

  more : List Visit
  more = (goes-on olds news alike).0

  more-is : news ≡ olds ++ more
  unfolding more
  more-is = (goes-on olds news alike).1

  by-me : by_node h.old.me more ≡ last ∷ []
  by-me =
      rest-same (by_node h.old.me olds) (by_node h.old.me more) (last ∷ [])
      (sym (filter-append _ olds more) ∙ ap (by_node h.old.me) (sym more-is) ∙ mine)

  all-mine : (k : ℕ) (x : Visit) → slice_get more k ≡ Some x → (x.node == h.old.me) ≡ true
  all-mine k x e =
      let there : slice_get news (length olds + k) ≡ Some x =
      ap (λ (l : List Visit). slice_get l (length olds + k)) more-is ∙ later olds k x e in
      let seat = h.after.visitors box h.inside (length olds + k) x there in
      ⊎_elim
      (λ (is : (seat.0 ≡ h.seat) × (h.new ≡ seat.1)).
      eq-eqb x.node h.old.me
      (sym seat.4 ∙ ap (λ (u : Known). u.me) (sym is.1) ∙ h.same))
      (λ (is : (seat.0 ≢ h.seat) × (get_elem? s.views seat.0 ≡ some seat.1)).
      let none : by_node seat.1.me more ≡ [] =
      rest-same (by_node seat.1.me olds) (by_node seat.1.me more) []
      (sym (filter-append _ olds more) ∙ ap (by_node seat.1.me) (sym more-is)
      ∙ theirs seat.0 seat.1 is.0 is.1 seat.3 ∙ sym (append-nil (by_node seat.1.me olds))) in
      let some = kept (λ y. y.node == x.node) more k x e (eq-eqb x.node x.node refl) in
      let never : ◌≡◌ {A = Option Visit} None (Some x) =
      sym (ap (λ (l : List Visit). slice_get l some.0) none)
      ∙ ap (λ (i : ℕ). slice_get (by_node i more) some.0) seat.4 ∙ some.1 in
      absurd cc)
      (at_set s.views h.seat seat.0 h.new seat.1
      (subst (λ (vs : List Known). get_elem? vs seat.0 ≡ some seat.1) h.stepped seat.2))
    where
      later : (xs : List Visit) (j : ℕ) (y : Visit) → slice_get more j ≡ Some y
          → slice_get (xs ++ more) (length xs + j) ≡ Some y
      later [] j y e = ap (slice_get more) (let z : 0 + j ≡ j = omega arith in z) ∙ e
      later (x ∷ xs) j y e =
          ap (slice_get (x ∷ xs ++ more))
          (let z : suc (length xs) + j ≡ suc (length xs + j) = omega arith in z)
          ∙ later xs j y e

  one-more : news ≡ olds ++ last ∷ []
  one-more =
      more-is
      ∙ ap (λ (l : List Visit). olds ++ l)
      (sym (all-kept (λ x. x.node == h.old.me) more all-mine) ∙ by-me)

  told : (found ≡ slice_index s.words box) × (left ≡ slice_index t.words box)
  told =
      let ends = last-one box last olds 0 0 (h.before.visits box h.inside)
      (subst (AreVisits box (face (h.after.mail.boxes box)) 0 0) one-more
      (h.after.visits box h.inside)) in (
        ends.0 ∙ sym (h.before.each_box box h.inside).shows,
        ends.1 ∙ sym (h.after.each_box box h.inside).shows,
      )

pub visits-true : {S : Type 0} (bytes : S → List ℕ) → VisitsAreTrue bytes
visits-true bytes opening s t box place found left h =
    told (record {
      s = s;
      t = t;
      box = box;
      place = place;
      found = found;
      left = left;
      tells = h;
    })
