-- The words before and after the `--` that ends the options.
use Rattle.std.proofs.Common.{◌≡◌, refl, ℕ, false, List, ◌∷◌, Option, Some, None}
use Rattle.std.specs.Prelude.{is_some, option_and_then, option_map}
use Rattle.words.specs.Called.{none_of, one_of, run, run_from}

-- one more word than none, than one, and than two
pub none_more : (word : List ℕ) (words : Option (List (List ℕ)))
    → is_some (option_and_then none_of (option_map (λ more. word ∷ more) words)) ≡ false
none_more word None = refl
none_more word (Some words) = refl

pub one_more : (word : List ℕ) (words : Option (List (List ℕ)))
    → option_and_then one_of (option_map (λ more. word ∷ more) words)
    ≡ option_map (λ none. word) (option_and_then none_of words)
one_more word None = refl
one_more word (Some words) = refl

pub two_more : (word : List ℕ) (words : Option (List (List ℕ)))
    → option_and_then run_from (option_map (λ more. word ∷ more) words)
    ≡ option_map (λ script. run word script) (option_and_then one_of words)
two_more word None = refl
two_more word (Some words) = refl
