-- What a log has of a node's events.
use Rattle.std.specs.Prelude.{◌≡◌, ℕ, List, Option, Some}
use Rattle.model.specs.View.{NodeView}
use Rattle.node_store.specs.Logs.{Logged}

-- the log, unless it is lost, leads from the one node to the other
abbrev pub IsLogged : Option (List ℕ) → NodeView → NodeView → Type 0
IsLogged log first last = (bytes : List ℕ) → log ≡ Some bytes → Logged bytes first last
