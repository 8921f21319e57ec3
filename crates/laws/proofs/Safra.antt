-- Safra's invariant of a ring. For each node it is known whether it is passive, whether it is
-- black, and what it owes: what it has sent less what it has received. The token is at node t, with
-- the sum q and a colour.
use Rattle.std.proofs.Common.{◌≡◌, ◌≢◌, ℕ, suc, ℤ, pos, ◌+ℤ◌, ◌-ℤ◌, ◌<◌, ◌≤◌, Bool, true, false, sym, subst, ⊎_elim, ◌⊎◌, arith}
use Rattle.std.specs.Prelude.{◌<ℤ◌, ◌≤ℤ◌}
use Rattle.std.proofs.lemmas.Int.{ints}
use Rattle.std.proofs.lemmas.Bool.{cases_eq, cases_lt}
use Rattle.model.specs.Agreement.{total}
use Rattle.laws.proofs.Sums.{total-same, total-one, total-le}

pub record Ringed : Type 1 where
  pub passive : ℕ → Type 0
  pub black : ℕ → Type 0
  pub owed : ℕ → ℤ

abbrev pub PassiveAbove : ℕ → Ringed → ℕ → Type 0
PassiveAbove n r t = (i : ℕ) → t < i → i < n → r.passive i

pub record BlackUpTo (r : Ringed) (t : ℕ) : Type 0 where
  pub node : ℕ
  pub below : node ≤ t
  pub black : r.black node

-- The nodes above t are passive and q is what they owe. Or the other nodes owe more than q lacks.
-- Or one of these is black, or the token is.
pub data Safra (n : ℕ) (r : Ringed) (t : ℕ) (q : ℤ) (black : Bool) : Type 0 where
  exact : PassiveAbove n r t → total n r.owed ≡ total (suc t) r.owed +ℤ q → Safra n r t q black
  above_zero : pos 0 <ℤ (total (suc t) r.owed +ℤ q) → Safra n r t q black
  stained : BlackUpTo r t → Safra n r t q black
  dark : black ≡ true → Safra n r t q black

-- if the nodes above t are passive and all up to t are white, something is still in flight
abbrev pub Loud : ℕ → Ringed → ℕ → Type 0
Loud n r t = PassiveAbove n r t → (pos 0 <ℤ total n r.owed) ⊎ BlackUpTo r t

-- One node changes. Up to t, it owes no less and stays black, or it becomes black. Above t, it
-- stays passive and owes the same, or something is still in flight.
pub record NodeStep (n : ℕ) (r s : Ringed) (i t : ℕ) : Type 0 where
  pub inside : i < n
  pub passive : (j : ℕ) → j ≢ i → r.passive j → s.passive j
  pub black : (j : ℕ) → j ≢ i → r.black j → s.black j
  pub owed : (j : ℕ) → j ≢ i → s.owed j ≡ r.owed j
  pub near : i ≤ t → ((r.black i → s.black i) × (r.owed i ≤ℤ s.owed i)) ⊎ s.black i
  pub far : t < i → (r.passive i → s.passive i × (s.owed i ≡ r.owed i)) ⊎ Loud n r t

-- the sum of the nodes up to t
module _ {n : ℕ} {r s : Ringed} {i t : ℕ} (h : NodeStep n r s i t) where
  front-far : t < i → total (suc t) s.owed ≡ total (suc t) r.owed
  front-far away =
      total-same (suc t) r.owed s.owed
      (λ j below. h.owed j (λ (e : j ≡ i). omega (arith, away, below, e)))

  front-near : i ≤ t → r.owed i ≤ℤ s.owed i → total (suc t) r.owed ≤ℤ total (suc t) s.owed
  front-near near more =
      total-le (suc t) r.owed s.owed
      (λ j below. ⊎_elim {C = r.owed j ≤ℤ s.owed j}
      (λ (e : j ≡ i). subst (λ (z : ℕ). r.owed z ≤ℤ s.owed z) (sym e) more)
      (λ (other : j ≢ i). omega (arith, ints, h.owed j other)) (cases_eq j i))

  black-stays : (r.black i → s.black i) → BlackUpTo r t → BlackUpTo s t
  black-stays here b = ⊎_elim {C = BlackUpTo s t}
      (λ (e : b.node ≡ i). record {
        node = i;
        below = subst (λ (z : ℕ). z ≤ t) e b.below;
        black = here (subst r.black e b.black);
      })
      (λ (other : b.node ≢ i). record {
        node = b.node;
        below = b.below;
        black = h.black b.node other b.black;
      })
      (cases_eq b.node i)

  black-far : t < i → BlackUpTo r t → BlackUpTo s t
  black-far away b = record {
    node = b.node;
    below = b.below;
    black = h.black b.node (λ (e : b.node ≡ i). omega (arith, away, b.below, e)) b.black;
  }

  whole-same : s.owed i ≡ r.owed i → total n s.owed ≡ total n r.owed
  whole-same same =
      total-same n r.owed s.owed
      (λ j below. ⊎_elim {C = s.owed j ≡ r.owed j}
      (λ (e : j ≡ i). subst (λ (z : ℕ). s.owed z ≡ r.owed z) (sym e) same)
      (λ (other : j ≢ i). h.owed j other) (cases_eq j i))

  -- above t
  safra-far : (q : ℤ) (b : Bool) → t < i → Safra n r t q b → Safra n s t q b
  safra-far q b away (exact passive sum) = ⊎_elim {C = Safra n s t q b}
      (λ calm.
      let here = calm (passive i away h.inside) in
      exact
      (λ j above below. ⊎_elim {C = s.passive j}
      (λ (e : j ≡ i). subst s.passive (sym e) here.0)
      (λ (other : j ≢ i). h.passive j other (passive j above below)) (cases_eq j i))
      (omega (arith, ints, sum, front-far away, whole-same here.1)))
      (λ loud. ⊎_elim {C = Safra n s t q b}
      (λ positive. above_zero (omega (arith, ints, sum, front-far away, positive)))
      (λ black. stained (black-far away black))
      (loud passive))
      (h.far away)
  safra-far q b away (above_zero more) = above_zero (omega (arith, ints, more, front-far away))
  safra-far q b away (stained black) = stained (black-far away black)
  safra-far q b away (dark is) = dark is

  -- up to t, if it stays black and owes no less
  near-kept : (q : ℤ) (b : Bool) → i ≤ t → (r.black i → s.black i) → r.owed i ≤ℤ s.owed i
      → Safra n r t q b → Safra n s t q b
  near-kept q b near black more (exact passive sum) =
      exact
      (λ j above below.
      h.passive j (λ (e : j ≡ i). omega (arith, near, above, e)) (passive j above below))
      (let d : ℤ = s.owed i -ℤ r.owed i in
      let whole : total n s.owed ≡ total n r.owed +ℤ d =
      total-one n r.owed s.owed i d h.inside (omega (arith, ints)) (λ j _ other. h.owed j other) in
      let front : total (suc t) s.owed ≡ total (suc t) r.owed +ℤ d =
      total-one (suc t) r.owed s.owed i d (let k : i < suc t = omega (arith, near) in k)
      (omega (arith, ints)) (λ j _ other. h.owed j other) in
      omega (arith, ints, whole, front, sum))
  near-kept q b near black more (above_zero positive) =
      above_zero (omega (arith, ints, positive, front-near near more))
  near-kept q b near black more (stained there) = stained (black-stays black there)
  near-kept q b near black more (dark is) = dark is

  pub safra-step : (q : ℤ) (b : Bool) → Safra n r t q b → Safra n s t q b
  safra-step q b safra = ⊎_elim {C = Safra n s t q b}
      (λ (away : t < i). safra-far q b away safra)
      (λ (near : i ≤ t). ⊎_elim {C = Safra n s t q b}
      (λ kept. near-kept q b near kept.0 kept.1 safra)
      (λ black. stained (record { node = i; below = near; black = black }))
      (h.near near))
      (cases_lt t i)

-- a probe starts: no node is above the last one
pub safra-probe : (n : ℕ) (r : Ringed) (t : ℕ) (b : Bool) → suc t ≡ n → Safra n r t (pos 0) b
safra-probe n r t b last =
    exact (λ i above below. absurd (omega (arith, above, below, last)))
    (subst (λ (z : ℕ). total z r.owed ≡ total (suc t) r.owed +ℤ pos 0) last (omega (arith, ints)))

-- node 0 finds that nobody is black, and that everything that was owed has arrived
pub safra-verdict : (n : ℕ) (r : Ringed) (q : ℤ) → (r.black 0 → ⊥) → (q +ℤ r.owed 0) ≡ pos 0
    → Safra n r 0 q false → PassiveAbove n r 0 × (total n r.owed ≡ pos 0)
safra-verdict n r q white none (exact passive sum) =
    (passive, omega (arith, ints, sum, none))
safra-verdict n r q white none (above_zero more) =
    absurd (let k : pos 0 <ℤ pos 0 = omega (arith, ints, more, none) in omega (arith, ints, k))
safra-verdict n r q white none (stained there) =
    absurd
    (white (subst r.black (let e : there.node ≡ 0 = omega (arith, there.below) in e) there.black))
safra-verdict n r q white none (dark is) = absurd cc

-- the node with the token passes it to the node below, and becomes white
pub record Handing (n : ℕ) (r s : Ringed) (t : ℕ) : Type 0 where
  pub inside : suc t < n
  pub passive : r.passive (suc t)
  pub same_passive : (j : ℕ) → r.passive j → s.passive j
  pub owed : (j : ℕ) → s.owed j ≡ r.owed j
  pub black : (j : ℕ) → j ≢ suc t → r.black j → s.black j

pub safra-forward : {n : ℕ} {r s : Ringed} {t : ℕ} → Handing n r s t → (q : ℤ) (b later : Bool)
    → (b ≡ true → later ≡ true) → (r.black (suc t) → later ≡ true) → Safra n r (suc t) q b
    → Safra n s t (q +ℤ r.owed (suc t)) later
safra-forward {n = n} {r = r} {s = s} {t = t} h q b later dark_is black_is safra = by safra
  where
    whole : total n s.owed ≡ total n r.owed
    whole = total-same n r.owed s.owed (λ j _. h.owed j)

    front : total (suc t) s.owed ≡ total (suc t) r.owed
    front = total-same (suc t) r.owed s.owed (λ j _. h.owed j)

    by : Safra n r (suc t) q b → Safra n s t (q +ℤ r.owed (suc t)) later
    by (exact passive sum) =
        exact
        (λ j above below. ⊎_elim {C = s.passive j}
        (λ (e : j ≡ suc t). h.same_passive j (subst r.passive (sym e) h.passive))
        (λ (other : j ≢ suc t).
        h.same_passive j (passive j (let k : suc t < j = omega (arith, above, other) in k) below))
        (cases_eq j (suc t)))
        (omega (arith, ints, sum, whole, front))
    by (above_zero more) = above_zero (omega (arith, ints, more, front))
    by (stained there) = ⊎_elim {C = Safra n s t (q +ℤ r.owed (suc t)) later}
        (λ (e : there.node ≡ suc t). dark (black_is (subst r.black e there.black)))
        (λ (other : there.node ≢ suc t).
        stained (record {
          node = there.node;
          below = (let k : there.node ≤ t = omega (arith, there.below, other) in k);
          black = h.black there.node other there.black;
        }))
        (cases_eq there.node (suc t))
    by (dark is) = dark (dark_is is)
