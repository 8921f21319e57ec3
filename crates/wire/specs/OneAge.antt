-- Whether nodes can be the saved states of one moment. Two nodes of one space can show that they
-- aren't, by what one keeps of its messages to the other.
use Rattle.std.specs.Prelude.{◌≡◌, ◌≤◌, ℕ, List, Some, slice_get}
use Rattle.model.specs.State.{got_from}
use Rattle.model.specs.View.{Link, link_to, used}
use Rattle.node.specs.Keeping.{WholeNode}

-- The receiver of a link has received this many messages: no more than were sent on it, and no
-- fewer than the sender has dropped because they were acknowledged. At every moment this holds of
-- saved states, also of those that a crash leaves.
pub record IsBetween (l : Link) (got : ℕ) : Type 0 where
  pub dropped : l.base ≤ got
  pub sent : got ≤ used l

-- so it does of the messages from node i to node j
abbrev pub Fit : List WholeNode → ℕ → ℕ → Type 0
Fit nodes i j =
    (n m : WholeNode) → slice_get nodes i ≡ Some n → slice_get nodes j ≡ Some m
    → IsBetween (link_to n.core j) (got_from m.core.local i)

-- it does between any two nodes
pub record AreOfOneAge (nodes : List WholeNode) : Type 0 where
  pub each : (i j : ℕ) → Fit nodes i j

-- it doesn't between these two, so they aren't of one moment
pub record AreApart (nodes : List WholeNode) (i j : ℕ) : Type 0 where
  pub sender : WholeNode
  pub receiver : WholeNode
  pub first : slice_get nodes i ≡ Some sender
  pub second : slice_get nodes j ≡ Some receiver
  pub apart : IsBetween (link_to sender.core j) (got_from receiver.core.local i) → ⊥
