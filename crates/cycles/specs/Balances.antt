-- How large the balances of a node can be.
use Rattle.std.specs.Prelude.{ℕ, pos, neg_ℤ, ◌+ℤ◌, ◌-ℤ◌, ◌≤ℤ◌}
use Rattle.model.specs.State.{Ring}

-- Together they are no larger than this number of messages, whatever their signs.
pub record IsBounded (most : ℕ) (r : Ring) : Type 0 where
  pub sum : (r.earlier +ℤ r.recent) ≤ℤ pos most
  pub difference : (r.earlier -ℤ r.recent) ≤ℤ pos most
  pub opposite : (r.recent -ℤ r.earlier) ≤ℤ pos most
  pub negated : neg_ℤ (r.earlier +ℤ r.recent) ≤ℤ pos most
