-- Setting a mailbox, and what a seat then knows of it.
use Rattle.std.proofs.Common.{◌≡◌, ◌≢◌, ℕ, zero, suc, ◌+◌, ◌*◌, List, [], ◌∷◌, set, Option, Some, None, refl, sym, subst, arith}
use mathlib.Core.Option.{some, some-ne-none}
use native.Mathlib.Decide.{ℕ_discrete}
use lib.ListN.{get_elem?}
use Rattle.msg.specs.Frames.{Plain}
use Rattle.model.specs.World.{World}
use Rattle.wire.specs.Rule.{nodes_of, Box, empty, full, filling_by, emptying_by, face}

-- how many mailboxes there are, which is also the index of the count word; the board is behind it
abbrev pub mailboxes : World → ℕ
mailboxes w = nodes_of w * nodes_of w

abbrev pub board_at : World → ℕ
board_at w = mailboxes w + 1

abbrev pick : {P A : Type 0} → Dec P → A → A → A
pick (yes _) a b = a
pick (no _) a b = b

pub put : {A : Type 0} → (ℕ → A) → ℕ → A → ℕ → A
put boxes m b k = pick (ℕ_discrete k m) b (boxes k)

-- what holds of the new mailbox, and of each other one, holds of all afterwards
pub at_put : {A : Type 0} (boxes : ℕ → A) (m : ℕ) (b : A) (F : ℕ → A → Type 0) (k : ℕ) → F m b
    → (k ≢ m → F k (boxes k)) → F k (put boxes m b k)
unfolding put
at_put boxes m b F k here other = go (ℕ_discrete k m)
  where
    go : (d : Dec (k ≡ m)) → F k (pick d b (boxes k))
    go (yes e) = subst (λ (j : ℕ). F j b) (sym e) here
    go (no n) = other n

pub put-other : {A : Type 0} (boxes : ℕ → A) (m : ℕ) (b : A) (k : ℕ) → k ≢ m
    → put boxes m b k ≡ boxes k
put-other boxes m b k apart =
    at_put boxes m b (λ j x. j ≢ m → x ≡ boxes j) k (λ ne. absurd (ne refl)) (λ _ _. refl) apart

pub put-here : {A : Type 0} (boxes : ℕ → A) (m : ℕ) (b : A) (k : ℕ) → k ≡ m → put boxes m b k ≡ b
put-here boxes m b k is =
    at_put boxes m b (λ j x. j ≡ m → x ≡ b) k (λ _. refl) (λ ne e. absurd (ne e)) is

-- who holds it: 0 for nobody, else 1 more than the seat's index
abbrev pub holder : Box → ℕ
holder empty = 0
holder (full f) = 0
holder (filling_by j) = suc j
holder (emptying_by j f) = suc j

pub is-empty : (b : Box) → face b ≡ 0 → b ≡ empty
is-empty empty e = refl
is-empty (full f) e = absurd (omega arith)
is-empty (filling_by j) e = absurd (omega arith)
is-empty (emptying_by j f) e = absurd (omega arith)

pub is-full : (b : Box) → face b ≡ 1 → (f : Plain) × (b ≡ full f)
is-full empty e = absurd (omega arith)
is-full (full f) e = (f, refl)
is-full (filling_by j) e = absurd (omega arith)
is-full (emptying_by j f) e = absurd (omega arith)

pub none-from : {A : Type 0} (o : Option A) → ((a : A) → o ≡ Some a → ⊥) → o ≡ None
none-from None never = refl
none-from (Some a) never = absurd (never a refl)

pub set-at : {A : Type 0} (l : List A) (i : ℕ) (a b : A) → get_elem? l i ≡ some b
    → get_elem? (set l i a) i ≡ some a
set-at [] i a b e = absurd (some-ne-none b (sym e))
set-at (x ∷ xs) zero a b e = refl
set-at (x ∷ xs) (suc i) a b e = set-at xs i a b e
