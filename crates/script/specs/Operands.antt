-- The numbers after a verb, and lines that are built in place.
use Rattle.std.specs.Prelude.{ℕ, List, [], ◌∷◌, Option, Some, None, decimal, option_map}
use Rattle.script.specs.declared.line.Line.{Line}
use Rattle.script.specs.declared.operands.Operands.{Operands}
use Rattle.script.specs.declared.operands.Operands.TheVariants as operands
use Rattle.script.specs.Grammar.{of_three, of_two, plain, u64_of}

-- the numbers that the words spell, three at most
unfoldable pub operands_of : List (List ℕ) → Option Operands
operands_of [] = Some operands.Zero
operands_of (a ∷ []) = option_map (λ x. operands.One x) (u64_of a)
operands_of (a ∷ b ∷ []) = of_two u64_of u64_of (λ x y. operands.Two x y) a b
operands_of (a ∷ b ∷ c ∷ []) =
    of_three u64_of u64_of u64_of (λ x y z. operands.Three x y z) a b c
operands_of words = None

-- words that spell these numbers
abbrev pub spelled : Operands → List (List ℕ)
spelled operands.Zero = []
spelled (operands.One a) = decimal a ∷ []
spelled (operands.Two a b) = decimal a ∷ decimal b ∷ []
spelled (operands.Three a b c) = decimal a ∷ decimal b ∷ decimal c ∷ []

-- what a line became, if it was read
abbrev pub read : {X : Type 0} → Option X → Line → Option Line
read done line = option_map (λ d. plain line) done
