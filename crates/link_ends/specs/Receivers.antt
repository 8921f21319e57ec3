-- The view of a `Receiver` that contracts use.
use Rattle.std.specs.Prelude.{ℕ, min, max, ◌+◌, ◌≤◌, nat_le, cond, Result, Ok, Err}
use Rattle.ids.specs.declared.limits.TheConstants.{GREATEST_NUMBER, WINDOW}
use Rattle.ids.specs.declared.refusal.Refusal.{Refusal}
use Rattle.ids.specs.declared.refusal.Refusal.TheVariants.{OutOfOrder}
use Rattle.link_ends.specs.declared.receiver.Offer.{Offer}
use Rattle.link_ends.specs.declared.receiver.Offer.TheVariants.{Next, Repeat, Early}

-- the number of the last message that was received, and of the last one that a saved state has
-- received
pub record Received : Type 0 where
  pub taken : ℕ
  pub saved : ℕ

pub record IsReceived (r : Received) : Type 0 where
  pub saved : r.saved ≤ r.taken
  pub taken : r.taken ≤ GREATEST_NUMBER

abbrev pub new_received : Received
new_received = record { taken = 0; saved = 0 }

-- what was received, if a saved state holds all of it
abbrev pub received : ℕ → Received
received taken = record { taken = taken; saved = taken }

-- A message is a repeat up to the last number received, then the next one, then early up to the
-- last number of the window, and out of order after that.
abbrev pub offered : ℕ → ℕ → Result Offer Refusal
offered taken number =
    cond (nat_le number taken)
    (Ok Repeat)
    (cond (nat_le number (taken + 1)) (Ok Next)
    (cond (nat_le number (taken + WINDOW)) (Ok Early) (Err OutOfOrder)))

abbrev pub taken_next : Received → Received
taken_next r = record r { taken = r.taken + 1 }

abbrev pub all_saved : Received → Received
all_saved r = record r { saved = r.taken }

-- what was received up to this number counts as saved
abbrev pub saved_to : ℕ → Received → Received
saved_to number r = record r { saved = max r.saved (min number r.taken) }
