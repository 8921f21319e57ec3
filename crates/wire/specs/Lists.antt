-- Small sets of mailboxes, by number: those that a seat is filling, and those that it is emptying.
-- Lists that begin with others.
use Rattle.std.specs.Prelude.{◌≡◌, ℕ, Bool, true, false, cond, ◌==◌, List, [], ◌∷◌, ◌++◌, Option, Some, None}
use Rattle.msg.specs.Frames.{Plain}

abbrev pub has : ℕ → List ℕ → Bool
has m [] = false
has m (x ∷ xs) = cond (x == m) true (has m xs)

abbrev pub without : ℕ → List ℕ → List ℕ
without m [] = []
without m (x ∷ xs) = cond (x == m) (without m xs) (x ∷ without m xs)

-- the frame listed under this mailbox number
abbrev pub found : ℕ → List (ℕ × Plain) → Option Plain
found m [] = None
found m (x ∷ xs) = cond (x.0 == m) (Some x.1) (found m xs)

abbrev pub cleared : ℕ → List (ℕ × Plain) → List (ℕ × Plain)
cleared m [] = []
cleared m (x ∷ xs) = cond (x.0 == m) (cleared m xs) (x ∷ cleared m xs)

-- no number occurs twice
abbrev pub once : List ℕ → Bool
once [] = true
once (x ∷ xs) = cond (has x xs) false (once xs)

-- the second list begins with the first
abbrev pub Continues : {A : Type 0} → List A → List A → Type 0
Continues {A} xs ys = (more : List A) × (ys ≡ xs ++ more)
