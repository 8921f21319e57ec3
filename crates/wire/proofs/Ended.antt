-- Cycles that node 0 had ended.
use Rattle.std.proofs.Common.{◌≡◌, ◌≤◌, ℕ, max, sym, subst, ⊎_elim, arith}
use Rattle.std.proofs.Math.Nat.{max-le, le-max_left, le-max_right}
use Rattle.std.proofs.lemmas.Bool.{cases_lt}
use Rattle.model.specs.World.{World}
use Rattle.wire.specs.Plays.{WasEnded}

greater : (a b : ℕ) → a ≤ b → max a b ≡ b
greater a b le =
    let most : max a b ≤ b = max-le le (let self : b ≤ b = omega arith in self) in
    let least : b ≤ max a b = le-max_right a b in
    omega (arith, most, least)

smaller : (a b : ℕ) → b ≤ a → max a b ≡ a
smaller a b le =
    let most : max a b ≤ a = max-le (let self : a ≤ a = omega arith in self) le in
    let least : a ≤ max a b = le-max_left a b in
    omega (arith, most, least)

pub greater-ended : (o : World) (a b : ℕ) → WasEnded o a → WasEnded o b → WasEnded o (max a b)
greater-ended o a b first second =
    ⊎_elim
    (λ before. subst (WasEnded o) (sym (greater a b (omega (arith, before)))) second)
    (λ after. subst (WasEnded o) (sym (smaller a b after)) first)
    (cases_lt a b)
