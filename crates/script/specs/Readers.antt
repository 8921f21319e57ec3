-- Words that are read one after another.
use Rattle.std.specs.Prelude.{ℕ, ◌≡◌, Bool, true, false, List, [], ◌∷◌}
use Rattle.std.specs.Prelude.{Option, Some, None, option_and_then}

-- the words that are left, or None once one was missing or wasn't a number
abbrev pub Left : Type 0
Left = Option (List (List ℕ))

-- what the first word means and the words after it
abbrev pub front : {A : Type 0} → (List ℕ → Option A) → List (List ℕ) → Option (A × List (List ℕ))
front meaning [] = None
front meaning (word ∷ words) = option_and_then (λ x. Some (x, words)) (meaning word)

-- The value is what the first word means, and the other words are left. If there is no word, or it
-- means nothing, the reader has failed.
pub record Reads {A : Type 0} (meaning : List ℕ → Option A) (old new : Left) (x : A) : Type 0 where
  pub is : option_and_then (front meaning) old ≡ option_and_then (λ words. Some (x, words)) new

-- no word is left, and all were there
abbrev pub is_done : Left → Bool
is_done None = false
is_done (Some []) = true
is_done (Some (word ∷ words)) = false
