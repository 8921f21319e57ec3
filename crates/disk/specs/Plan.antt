-- Which calls of a disk in memory fail: none, all after this many more, or one after this many
-- more.
use Rattle.std.specs.Prelude.{◌≡◌, ◌↔◌, ◌==◌, ◌-◌, ℕ, Bool, false, IsTrue, if◌then◌else◌}
use Rattle.disk.specs.declared.plan.Plan.{Plan}
use Rattle.disk.specs.declared.plan.Plan.TheVariants.{Never, From, Once}

-- the k-th call from now on and all later ones
abbrev pub fails_from : ℕ → Plan
fails_from k = From (k - 1)

-- the k-th call from now on and no later one
abbrev pub fails_once : ℕ → Plan
fails_once k = Once (k - 1)

-- the next call fails
abbrev pub is_due : Plan → Bool
is_due Never = false
is_due (From good) = good == 0
is_due (Once good) = good == 0

-- after one more call
abbrev pub one_less : Plan → Plan
one_less Never = Never
one_less (From good) = From (good - 1)
one_less (Once good) = if good == 0 then Never else Once (good - 1)

-- a call fails if it is due, and counts as one
pub record AsPlanned (before after : Plan) (fault : Type 0) : Type 0 where
  pub fails : IsTrue (is_due before) → fault
  pub next : after ≡ one_less before

-- a call fails if and only if it is due, and counts as one
pub record OnlyAsPlanned (before after : Plan) (fault : Type 0) : Type 0 where
  pub fails : IsTrue (is_due before) ↔ fault
  pub next : after ≡ one_less before
