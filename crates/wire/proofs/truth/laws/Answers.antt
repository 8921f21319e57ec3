use Rattle.std.proofs.Common.{ℕ, Vec}
use Rattle.std.specs.Global.{Global}
use Rattle.wire.proofs.Telling.{visits-true}
use Rattle.wire.proofs.truth.laws.Goals as goal

pub returns : goal.returns
returns c = record { visits = visits-true {S = Vec ℕ Global} (λ v. v.items) }
