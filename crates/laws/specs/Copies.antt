-- Saved states of different moments of one run. If they fit, a run reaches them all at once. So
-- nodes may be restored from copies that weren't taken at one moment.
use Rattle.std.specs.Prelude.{◌++◌, ◌≡◌, ◌≢◌, ◌<◌, ◌≤◌, ℕ, List, length}
use Rattle.ids.specs.Limits.{Shaped, IsShape}
use Rattle.model.specs.declared.step.Step.{Step}
use Rattle.model.specs.State.{NodeState, node_at, got_from, sent_to}
use Rattle.model.specs.World.{new_world, run}

-- this was the node's saved state at some moment of the run
pub record WasSaved (shape : Shaped) (steps : List Step) (i : ℕ) (s : NodeState) : Type 0 where
  pub earlier : List Step
  pub later : List Step
  pub parts : steps ≡ earlier ++ later
  pub state : s ≡ node_at (run (new_world shape) earlier).saved i

-- no node has received more messages of another than that one has sent to it
abbrev pub FitTogether : Shaped → List NodeState → Type 0
FitTogether shape states =
    (i j : ℕ) → i < shape.nodes → j < shape.nodes → i ≢ j
    → got_from (node_at states i).local j ≤ length (sent_to (node_at states j) i)

-- For each node, take a state that was its saved one at some moment of one run. If these states
-- fit together, a run reaches the space whose current and saved states they are.
abbrev pub CopiesGoTogether : Type 0
CopiesGoTogether =
    (shape : Shaped) → IsShape shape → (steps : List Step) (states : List NodeState)
    → length states ≡ shape.nodes
    → ((i : ℕ) → i < shape.nodes → WasSaved shape steps i (node_at states i))
    → FitTogether shape states
    → (others : List Step)
    × (run (new_world shape) others ≡ record { current = states; saved = states })
