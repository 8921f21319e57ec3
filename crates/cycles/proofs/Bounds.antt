-- The balances stay within the number of messages that a node has sent and received.
use Rattle.std.proofs.Common.{ℕ, ◌+◌, ◌≤◌, Option, Some, None, arith}
use Rattle.std.proofs.lemmas.Int.{ints}
use Rattle.model.specs.declared.balance.Balance.{Balance}
use Rattle.model.specs.declared.balance.Balance.TheVariants.{Earlier, Recent}
use Rattle.model.specs.State.{Ring, new_ring}
use Rattle.model.specs.Counting.{counted_up, counted_down, counted_marks}
use Rattle.model.specs.Shading.{entered}
use Rattle.cycles.specs.Balances.{IsBounded}

pub bounded_new : (most : ℕ) → IsBounded most new_ring
bounded_new most =
    record {
      sum = omega (arith, ints);
      difference = omega (arith, ints);
      opposite = omega (arith, ints);
      negated = omega (arith, ints);
    }

pub bounded_more : (most more : ℕ) (r : Ring) → most ≤ more → IsBounded most r → IsBounded more r
bounded_more most more r le h =
    record {
      sum = omega (arith, ints, h.sum, le);
      difference = omega (arith, ints, h.difference, le);
      opposite = omega (arith, ints, h.opposite, le);
      negated = omega (arith, ints, h.negated, le);
    }

pub bounded_marks : (most count : ℕ) (r : Ring) → IsBounded most r
    → IsBounded (most + count) (counted_marks count r)
bounded_marks most count r h =
    record {
      sum = omega (arith, ints, h.sum);
      difference = omega (arith, ints, h.difference);
      opposite = omega (arith, ints, h.opposite);
      negated = omega (arith, ints, h.negated);
    }

pub bounded_up : (most : ℕ) (b : Option Balance) (r : Ring) → IsBounded most r
    → IsBounded (most + 1) (counted_up b r)
bounded_up most (Some Earlier) r h = bounded_marks most 1 r h
bounded_up most (Some Recent) r h =
    record {
      sum = omega (arith, ints, h.sum);
      difference = omega (arith, ints, h.difference);
      opposite = omega (arith, ints, h.opposite);
      negated = omega (arith, ints, h.negated);
    }
bounded_up most None r h = bounded_more most (most + 1) r (omega arith) h

pub bounded_down : (most : ℕ) (b : Option Balance) (r : Ring) → IsBounded most r
    → IsBounded (most + 1) (counted_down b r)
bounded_down most (Some Earlier) r h =
    record {
      sum = omega (arith, ints, h.sum);
      difference = omega (arith, ints, h.difference);
      opposite = omega (arith, ints, h.opposite);
      negated = omega (arith, ints, h.negated);
    }
bounded_down most (Some Recent) r h =
    record {
      sum = omega (arith, ints, h.sum);
      difference = omega (arith, ints, h.difference);
      opposite = omega (arith, ints, h.opposite);
      negated = omega (arith, ints, h.negated);
    }
bounded_down most None r h = bounded_more most (most + 1) r (omega arith) h

pub bounded_entered : (most : ℕ) (r : Ring) → IsBounded most r → IsBounded most (entered r)
bounded_entered most r h =
    record {
      sum = omega (arith, ints, h.sum);
      difference = omega (arith, ints, h.sum);
      opposite = omega (arith, ints, h.negated);
      negated = omega (arith, ints, h.negated);
    }
