-- Counting a message leaves the token as it is.
use Rattle.std.proofs.Common.{◌≡◌, Option, Some, None, refl}
use Rattle.model.specs.declared.balance.Balance.{Balance}
use Rattle.model.specs.declared.balance.Balance.TheVariants.{Earlier, Recent}
use Rattle.model.specs.State.{Ring}
use Rattle.model.specs.Counting.{counted_up, counted_down}

-- counting doesn't change the token
pub up-token : (b : Option Balance) (r : Ring) → (counted_up b r).token ≡ r.token
up-token (Some Earlier) r = refl
up-token (Some Recent) r = refl
up-token None r = refl

pub down-token : (b : Option Balance) (r : Ring) → (counted_down b r).token ≡ r.token
down-token (Some Earlier) r = refl
down-token (Some Recent) r = refl
down-token None r = refl
