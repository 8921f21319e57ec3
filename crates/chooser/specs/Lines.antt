-- What a line of numbers says of a state.
use Rattle.std.specs.Prelude.{◌≡◌, ◌++◌, ◌∷◌, ◌<◌, ℕ, List, length}
use Rattle.restore_choice.specs.declared.State.{State}
use Rattle.chooser.specs.declared.Line.{Line}

-- The numbers are the node's, and for each of this many nodes how many messages were received of
-- it, sent to it, and dropped for it.
pub record IsLine (nodes : ℕ) (numbers : List ℕ) (line : Line) : Type 0 where
  pub inside : line.node < nodes
  pub received : length line.state.received.items ≡ nodes
  pub sent : length line.state.sent.items ≡ nodes
  pub dropped : length line.state.dropped.items ≡ nodes
  pub all : numbers
      ≡ line.node
      ∷ (line.state.received.items ++ (line.state.sent.items ++ line.state.dropped.items))
