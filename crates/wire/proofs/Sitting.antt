-- What a seat records of the slots that it holds, as slots come and go.
use Rattle.std.proofs.Common.{◌≡◌, ◌≢◌, ℕ, zero, suc, ◌<◌, ◌==◌, cond, eq-eqb, ne_eqb, Bool, true, false, true≢false, List, [], ◌∷◌, ◌++◌, drop, take, get_or, Option, Some, None, refl, sym, ap, ◌∙◌, subst, subst₂, ⊎_elim, arith}
use Rattle.std.specs.Prelude.{is_some}
use Rattle.std.proofs.lemmas.Bool.{cond-true, cond-false, cases_Bool}
use mathlib.Core.Option.{some, some-ne-none, some-injective}
use mathlib.Core.Logic.{dite}
use native.Mathlib.Decide.{ℕ_discrete}
use lib.ListN.{get_elem?}
use Rattle.atomic_table.specs.Table.{rest, turned}
use Rattle.atomic_table.proofs.Lists.{at_snoc}
use Rattle.msg.specs.Frames.{Plain}
use Rattle.frames.specs.Grammar.{spelling}
use Rattle.wire.specs.Lists.{has, found, cleared, once}
use Rattle.model.specs.declared.step.Step.{Step}
use Rattle.wire.specs.Views.{Known, Pair, Visit, is_node, claims, takes_in, posts, clears}
use Rattle.wire.specs.Plays.{IsFresh}
use Rattle.wire.specs.Seated.{minds, boxes_of, IsOwnBox, Sits}
use Rattle.wire.proofs.Lists.{has-here, has-more, has-gone, has-stays, found-here, found-more, found-gone, found-stays}

-- ---- Numbers that occur once

pub once-parts : (x : ℕ) (xs : List ℕ) → once (x ∷ xs) ≡ true
    → (has x xs ≡ false) × (once xs ≡ true)
once-parts x xs e =
    ⊎_elim
    (λ there. absurd (true≢false (sym e ∙ cond-true _ _ _ there)))
    (λ gone. (gone, sym (cond-false _ _ _ gone) ∙ e))
    (cases_Bool (has x xs))

pub once-more : (x : ℕ) (xs : List ℕ) → has x xs ≡ false → once xs ≡ true → once (x ∷ xs) ≡ true
once-more x xs gone e = cond-false _ _ _ gone ∙ e

-- the first one moves to the end
has-last : (k x : ℕ) (xs : List ℕ) → has k (xs ++ x ∷ []) ≡ has k (x ∷ xs)
has-last k x [] = refl
has-last k x (y ∷ ys) =
    ap (cond (y == k) true) (has-last k x ys) ∙ swapped (y == k) (x == k) (has k ys)
  where
    swapped : (a b c : Bool) → cond a true (cond b true c) ≡ cond b true (cond a true c)
    swapped true true c = refl
    swapped true false c = refl
    swapped false true c = refl
    swapped false false c = refl

once-last : (x : ℕ) (xs : List ℕ) → once (x ∷ xs) ≡ true → once (xs ++ x ∷ []) ≡ true
once-last x [] e = e
once-last x (y ∷ ys) e =
    let a = once-parts x (y ∷ ys) e in
    let b = once-parts y ys a.1 in
    let apart : y ≢ x = λ is. true≢false (sym (cond-true _ _ _ (eq-eqb y x is)) ∙ a.0) in
    once-more y (ys ++ x ∷ [])
    (has-last y x ys ∙ has-more x y ys apart ∙ b.0)
    (once-last x ys (once-more x ys (sym (cond-false _ _ _ (ne_eqb y x apart)) ∙ a.0) b.1))

-- how many come before a number
abbrev pub before : ℕ → List ℕ → ℕ
before k [] = 0
before k (x ∷ xs) = cond (x == k) 0 (suc (before k xs))

before-last : (k x : ℕ) (xs : List ℕ) → has k xs ≡ true → before k (xs ++ x ∷ []) ≡ before k xs
before-last k x [] e = absurd (true≢false (sym e))
before-last k x (y ∷ ys) e =
    dite (ℕ_discrete y k)
    (λ is. cond-true _ _ _ (eq-eqb y k is) ∙ sym (cond-true _ _ _ (eq-eqb y k is)))
    (λ n. ap (λ (z : ℕ). cond (y == k) 0 (suc z))
    (before-last k x ys (sym (cond-false _ _ _ (ne_eqb y k n)) ∙ e)))

-- a turn brings a number nearer to the front, unless it is first
pub nearer : (k x : ℕ) (xs : List ℕ) → has k (x ∷ xs) ≡ true → x ≢ k
    → (has k (xs ++ x ∷ []) ≡ true) × (before k (xs ++ x ∷ []) < before k (x ∷ xs))
nearer k x xs e apart =
    let later : has k xs ≡ true = sym (cond-false _ _ _ (ne_eqb x k apart)) ∙ e in
    let a = before-last k x xs later in
    let b : before k (x ∷ xs) ≡ suc (before k xs) = cond-false _ _ _ (ne_eqb x k apart) in
    (has-last k x xs ∙ e, omega (arith, a, b))

pub nearer-held : (k d : ℕ) (xs : List ℕ) → has k xs ≡ true → get_or xs 0 d ≢ k
    → (has k (drop 1 xs ++ take 1 xs) ≡ true) × (before k (drop 1 xs ++ take 1 xs) < before k xs)
nearer-held k d [] e apart = absurd (true≢false (sym e))
nearer-held k d (x ∷ xs) e apart = nearer k x xs e apart

pub headed : (k d : ℕ) (xs : List ℕ) → has k xs ≡ true → xs ≡ get_or xs 0 d ∷ drop 1 xs
headed k d [] e = absurd (true≢false (sym e))
headed k d (x ∷ xs) e = refl

-- ---- Slots

in-boxes : {S : Type 0} (out : List (ℕ × S)) (i b : ℕ) (x : S) → get_elem? out i ≡ some (b, x)
    → has b (boxes_of out) ≡ true
in-boxes [] i b x e = absurd (some-ne-none (b, x) (sym e))
in-boxes (y ∷ ys) zero b x e =
    cond-true _ _ _ (eq-eqb y.0 b (ap (λ (z : ℕ × _). z.0) (some-injective y (b, x) e)))
in-boxes (y ∷ ys) (suc i) b x e =
    dite (ℕ_discrete y.0 b)
    (λ is. cond-true _ _ _ (eq-eqb y.0 b is))
    (λ n. cond-false _ _ _ (ne_eqb y.0 b n) ∙ in-boxes ys i b x e)

boxes-last : {S : Type 0} (out : List (ℕ × S)) (b : ℕ) (x : S)
    → boxes_of (out ++ (b, x) ∷ []) ≡ boxes_of out ++ b ∷ []
boxes-last [] b x = refl
boxes-last (y ∷ ys) b x = ap (λ (l : List ℕ). y.0 ∷ l) (boxes-last ys b x)

pub fresh-minds : (k : ℕ) (v : Known) → IsFresh k v → minds k v ≡ false
fresh-minds k v e = cond-false _ _ _ e.0 ∙ ap is_some e.1

abbrev Seated : {S : Type 0} → (S → List ℕ) → ℕ → ℕ → List ℕ → Known → List (ℕ × S) → Type 0
Seated bytes me nodes held v out = Sits bytes me nodes held (v, out)

-- a seat of this node that begins to fill or empty this mailbox: what it knew and knows
record IsFront (me nodes : ℕ) (v w : Known) (at : ℕ) : Type 0 where
  fresh : IsFresh at v
  its : IsOwnBox me nodes at
  same : (w.role ≡ v.role) × (w.me ≡ v.me) × (w.nodes ≡ v.nodes)
  here : minds at w ≡ true
  others : (k : ℕ) → k ≢ at → minds k v ≡ minds k w

module _ {S : Type 0} {bytes : S → List ℕ} {me nodes : ℕ} where
  -- a step on no slot
  pub sits-still : {held : List ℕ} {v : Known} {out : List (ℕ × S)} {pair : Pair}
      {events seen : List Step} {taken sent : List Plain} {visits : List Visit} {number shown : ℕ}
      → Seated bytes me nodes held v out
      → Seated bytes me nodes held (record v {
        pair = pair;
        events = events;
        taken = taken;
        sent = sent;
        visits = visits;
        number = number;
        shown = shown;
        seen = seen;
      }) out
  sits-still s = record {
    role = s.role;
    me_is = s.me_is;
    nodes_is = s.nodes_is;
    within = s.within;
    few = s.few;
    order = s.order;
    minded = s.minded;
    single = s.single;
    own = s.own;
    spells = s.spells;
  }

  -- one more slot is in front
  sits-held : {held : List ℕ} {v w : Known} {at : ℕ} {out : List (ℕ × S)} (x : S)
      → Seated bytes me nodes held v out → IsFront me nodes v w at
      → ((i b : ℕ) (y : S) (g : Plain) → get_elem? ((at, x) ∷ out) i ≡ some (b, y)
      → found b w.emptying ≡ Some g → bytes y ≡ spelling g)
      → Seated bytes me nodes (at ∷ held) w ((at, x) ∷ out)
  sits-held {held} {v} {w} {at} x s h spells = record {
    role = ap is_node h.same.0 ∙ s.role;
    me_is = s.me_is ∙ sym h.same.1;
    nodes_is = s.nodes_is ∙ sym h.same.2;
    within = s.within;
    few = s.few;
    order = ap (λ (l : List ℕ). at ∷ l) s.order;
    minded = λ k. dite (ℕ_discrete k at)
        (λ is. subst (λ (j : ℕ). has j (at ∷ held) ≡ minds j w) (sym is)
        (has-here at held ∙ sym h.here))
        (λ apart. has-more at k held apart ∙ s.minded k ∙ h.others k apart);
    single = once-more at held (s.minded at ∙ fresh-minds at v h.fresh) s.single;
    own = λ k e. dite (ℕ_discrete k at)
        (λ is. subst (IsOwnBox me nodes) (sym is) h.its)
        (λ apart. s.own k (sym (has-more at k held apart) ∙ e));
    spells = spells;
  }

  pub sits-claimed : {held : List ℕ} {v : Known} {out : List (ℕ × S)} (at place : ℕ) (x : S)
      → Seated bytes me nodes held v out → IsFresh at v → IsOwnBox me nodes at
      → Seated bytes me nodes (at ∷ held) (claims at place v) ((at, x) ∷ out)
  sits-claimed {v = v} {out = out} at place x s fresh its =
      let front : IsFront me nodes v (claims at place v) at = record {
        fresh = fresh;
        its = its;
        same = (refl, refl, refl);
        here = cond-true _ _ _ (has-here at v.filling);
        others = λ k apart. ap (λ (b : Bool). cond b true (is_some (found k v.emptying)))
            (sym (has-more at k v.filling apart));
      } in
      sits-held x s front spells
    where
      spells : (i b : ℕ) (y : S) (g : Plain) → get_elem? ((at, x) ∷ out) i ≡ some (b, y)
          → found b v.emptying ≡ Some g → bytes y ≡ spelling g
      spells zero b y g e there =
          let same = some-injective (at, x) (b, y) e in
          let is : at ≡ b = ap (λ (z : ℕ × S). z.0) same in
          absurd (let never : ◌≡◌ {A = Option Plain} None (Some g) =
          sym fresh.1 ∙ ap (λ (j : ℕ). found j v.emptying) is ∙ there in cc)
      spells (suc i) b y g e there = s.spells i b y g e there

  pub sits-took : {held : List ℕ} {v : Known} {out : List (ℕ × S)} (at place : ℕ) (x : S)
      (f : Plain)
      → Seated bytes me nodes held v out → IsFresh at v → IsOwnBox me nodes at
      → bytes x ≡ spelling f
      → Seated bytes me nodes (at ∷ held) (takes_in at place f v) ((at, x) ∷ out)
  sits-took {held} {v} {out} at place x f s fresh its spelled =
      let front : IsFront me nodes v (takes_in at place f v) at = record {
        fresh = fresh;
        its = its;
        same = (refl, refl, refl);
        here = cond-false _ _ _ fresh.0 ∙ ap is_some (found-here at f v.emptying);
        others = λ k apart. ap (λ (o : Option Plain). cond (has k v.filling) true (is_some o))
            (sym (found-more at k f v.emptying apart));
      } in
      sits-held x s front spells
    where
      spells : (i b : ℕ) (y : S) (g : Plain) → get_elem? ((at, x) ∷ out) i ≡ some (b, y)
          → found b ((at, f) ∷ v.emptying) ≡ Some g → bytes y ≡ spelling g
      spells zero b y g e there =
          let same = some-injective (at, x) (b, y) e in
          let is : at ≡ b = ap (λ (z : ℕ × S). z.0) same in
          let some : ◌≡◌ {A = Option Plain} (Some f) (Some g) =
          sym (found-here at f v.emptying)
          ∙ ap (λ (j : ℕ). found j ((at, f) ∷ v.emptying)) is ∙ there in
          let frame : f ≡ g = cc in
          ap bytes (sym (ap (λ (z : ℕ × S). z.1) same)) ∙ spelled ∙ ap spelling frame
      spells (suc i) b y g e there =
          dite (ℕ_discrete b at)
          (λ is. absurd (true≢false
          (sym (in-boxes out i b y e) ∙ ap (has b) s.order ∙ ap (λ (j : ℕ). has j held) is
          ∙ s.minded at ∙ fresh-minds at v fresh)))
          (λ apart. s.spells i b y g e (sym (found-more at b f v.emptying apart) ∙ there))

  -- the first slot has gone back to the table
  sits-given : {held : List ℕ} {v : Known} {out : List (ℕ × S)} (w : Known) (at : ℕ) (x : S)
      → Seated bytes me nodes held v ((at, x) ∷ out)
      → (w.role ≡ v.role) × (w.me ≡ v.me) × (w.nodes ≡ v.nodes) → minds at w ≡ false
      → ((k : ℕ) → k ≢ at → minds k w ≡ minds k v)
      → ((b : ℕ) (f : Plain) → found b w.emptying ≡ Some f → found b v.emptying ≡ Some f)
      → Seated bytes me nodes (boxes_of out) w out
  sits-given {held} {v} {out} w at x s same gone others less =
      let parts = once-parts at (boxes_of out) (ap once s.order ∙ s.single) in
      record {
        role = ap is_node same.0 ∙ s.role;
        me_is = s.me_is ∙ sym same.1;
        nodes_is = s.nodes_is ∙ sym same.2;
        within = s.within;
        few = s.few;
        order = refl;
        minded = λ k. dite (ℕ_discrete k at)
            (λ is. subst (λ (j : ℕ). has j (boxes_of out) ≡ minds j w) (sym is)
            (parts.0 ∙ sym gone))
            (λ apart. sym (has-more at k (boxes_of out) apart) ∙ ap (has k) s.order ∙ s.minded k
            ∙ sym (others k apart));
        single = parts.1;
        own = λ k e. s.own k (ap (has k) (sym s.order) ∙ later k e);
        spells = λ i b y f e there. s.spells (suc i) b y f e (less b f there);
      }
    where
      later : (k : ℕ) → has k (boxes_of out) ≡ true → has k (at ∷ boxes_of out) ≡ true
      later k e =
          dite (ℕ_discrete k at)
          (λ is. cond-true _ _ _ (eq-eqb at k (sym is)))
          (λ apart. has-more at k (boxes_of out) apart ∙ e)

  pub sits-posted : {held : List ℕ} {v : Known} {out : List (ℕ × S)} (at place : ℕ) (f : Plain)
      (x : S)
      → Seated bytes me nodes held v ((at, x) ∷ out) → found at v.emptying ≡ None
      → Seated bytes me nodes (boxes_of out) (posts at place f v) out
  sits-posted {v = v} at place f x s none =
      sits-given (posts at place f v) at x s (refl, refl, refl)
      (cond-false _ _ _ (has-gone at v.filling) ∙ ap is_some none)
      (λ k apart. ap (λ (b : Bool). cond b true (is_some (found k v.emptying)))
      (has-stays at k v.filling apart))
      (λ b f e. e)

  pub sits-cleared : {held : List ℕ} {v : Known} {out : List (ℕ × S)} (at place : ℕ) (x : S)
      → Seated bytes me nodes held v ((at, x) ∷ out) → has at v.filling ≡ false
      → Seated bytes me nodes (boxes_of out) (clears at place v) out
  sits-cleared {v = v} at place x s none =
      sits-given (clears at place v) at x s (refl, refl, refl)
      (cond-false _ _ _ none ∙ ap is_some (found-gone at v.emptying))
      (λ k apart. ap (λ (o : Option Plain). cond (has k v.filling) true (is_some o))
      (found-stays at k v.emptying apart))
      (λ b f e. dite (ℕ_discrete b at)
      (λ is. absurd (let never : ◌≡◌ {A = Option Plain} None (Some f) =
      sym (found-gone at v.emptying)
      ∙ ap (λ (j : ℕ). found j (cleared at v.emptying)) (sym is) ∙ e in cc))
      (λ apart. sym (found-stays at b v.emptying apart) ∙ e))

  -- the same slots in another order
  sits-ordered : {held now : List ℕ} {v : Known} {out last : List (ℕ × S)}
      → Seated bytes me nodes held v out → boxes_of last ≡ now
      → ((k : ℕ) → has k now ≡ has k held) → once now ≡ true
      → ((i b : ℕ) (y : S) → get_elem? last i ≡ some (b, y)
      → (j : ℕ) × (get_elem? out j ≡ some (b, y)))
      → Seated bytes me nodes now v last
  sits-ordered s order same single there = record {
    role = s.role;
    me_is = s.me_is;
    nodes_is = s.nodes_is;
    within = s.within;
    few = s.few;
    order = order;
    minded = λ k. same k ∙ s.minded k;
    single = single;
    own = λ k e. s.own k (sym (same k) ∙ e);
    spells = λ i b y f e found. (let at = there i b y e in s.spells at.0 b y f at.1 found);
  }

  -- the first slot moves to the end
  pub sits-turned : {held : List ℕ} {v : Known} {out : List (ℕ × S)}
      → Seated bytes me nodes held v out
      → Seated bytes me nodes (drop 1 held ++ take 1 held) v (turned out)
  sits-turned {v = v} {out = []} s =
      subst (λ (l : List ℕ). Seated bytes me nodes (drop 1 l ++ take 1 l) v []) s.order
      (sits-ordered s refl (λ k. ap (has k) s.order) refl (λ i b y e. (i, e)))
  sits-turned {v = v} {out = (at, x) ∷ out} s =
      subst
      (λ (l : List ℕ).
      Seated bytes me nodes (drop 1 l ++ take 1 l) v (out ++ (at, x) ∷ [])) s.order
      (sits-ordered s (boxes-last out at x)
      (λ k. has-last k at (boxes_of out) ∙ ap (has k) s.order)
      (once-last at (boxes_of out) (ap once s.order ∙ s.single))
      (λ i b y e. ⊎_elim
      (λ (was : get_elem? out i ≡ some (b, y)). (suc i, was))
      (λ (is : (at, x) ≡ (b, y)). (zero, ap some is))
      (at_snoc out (at, x) (b, y) i e)))

  -- its number comes first if the slot does
  pub in-front : {held : List ℕ} {v : Known} {out : List (ℕ × S)} (at : ℕ) (tail : List ℕ)
      → Seated bytes me nodes held v out → held ≡ at ∷ tail → (x : S) × (out ≡ (at, x) ∷ rest out)
  in-front {out = []} at tail s is =
      let never : ◌≡◌ {A = List ℕ} [] (at ∷ tail) = s.order ∙ is in absurd cc
  in-front {out = (b, x) ∷ out} at tail s is =
      let same : ◌≡◌ {A = List ℕ} (b ∷ boxes_of out) (at ∷ tail) = s.order ∙ is in
      let first : b ≡ at = ap (λ (l : List ℕ). first_of l) same in
      (x, ap (λ (k : ℕ). (k, x) ∷ out) first)
    where
      first_of : List ℕ → ℕ
      first_of [] = 0
      first_of (y ∷ ys) = y

  -- what a seat holds once its first slot has gone, by equal lists and what it then knows
  pub sits-left : {held items : List ℕ} {v w : Known} {out left : List (ℕ × S)}
      → Seated bytes me nodes held v out → held ≡ items → v ≡ w → out ≡ left
      → Seated bytes me nodes items w left
  sits-left s first known last =
      subst₂ (Sits bytes me nodes) first (λ i. (known i, last i)) s
