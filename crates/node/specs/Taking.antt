-- A message that a node may receive, and what it does to the node before it counts.
use Rattle.std.specs.Prelude.{◌≡◌, ◌≢◌, ℕ, ◌<◌, ◌≤◌, true}
use Rattle.std.specs.List.{AllByRecursion}
use Rattle.ids.specs.declared.limits.TheConstants.{GREATEST_CYCLE, GREATEST_NUMBER}
use Rattle.msg.specs.Limits.{body_fits}
use Rattle.msg.specs.declared.body.Body.{Body}
use Rattle.model.specs.Effects.{Work, then}
use Rattle.model.specs.References.{IsWithin}
use Rattle.model.specs.Shading.{joined}
use Rattle.model.specs.State.{LocalState, got_from}
use Rattle.model.specs.Steps.{mentioned, may_take, take_body, take_carried}

-- another node, from which one more message may be received
pub record IsSender (p : LocalState) (from : ℕ) : Type 0 where
  pub there : from < p.shape.nodes
  pub other : from ≢ p.own
  pub room : got_from p from < GREATEST_NUMBER

-- a message from that node, with the next number, that the node may receive
pub record IsTakable (p : LocalState) (from stamp : ℕ) (b : Body) : Type 0 where
  pub sender : IsSender p from
  pub cycle : stamp ≤ GREATEST_CYCLE
  pub fits : body_fits b ≡ true
  pub within : AllByRecursion (IsWithin p.shape) (mentioned b)
  pub may : may_take p from stamp b ≡ true

-- the node joins, sees to what the message carries, and follows its body
unfoldable pub followed : ℕ → ℕ → Body → LocalState → Work
followed from stamp b p =
    then (joined p stamp) (λ q. then (take_carried stamp b q) (take_body from stamp b))
