-- Workers and their reports, and room for them.
use Rattle.std.specs.Prelude.{◌≡◌, ◌≢◌, ◌<◌, ◌≤◌, ◌+◌, ℕ, List, [], ◌∷◌, ◌++◌, length, map, slice_get, vec_capacity, vec_len, Option, Some, None}
use Rattle.workers.specs.declared.stop.Ended.{Ended}
use Rattle.supervisor.specs.declared.team.Team.{Team}

-- there is room for one more worker, and for the reports of all
pub record HasRoom (t : Team) : Type 0 where
  pub worker : vec_len t.workers < vec_capacity t.workers
  pub report : vec_len t.workers + vec_len t.reports < vec_capacity t.reports

-- the nodes of the workers that haven't been joined
abbrev pub working : Team → List ℕ
working t = map (λ w. w.of.node) t.workers.items

-- the nodes of all workers that were started
abbrev pub nodes_of : Team → List ℕ
nodes_of t = working t ++ map (λ r. r.node) t.reports.items

-- the same for a space, which may have no workers yet
abbrev pub working_in : Option Team → List ℕ
working_in None = []
working_in (Some t) = working t

abbrev pub started_in : Option Team → List ℕ
started_in None = []
started_in (Some t) = nodes_of t

-- none of these is this node
abbrev pub AreOthers : ℕ → List ℕ → Type 0
AreOthers node ns = (k n : ℕ) → slice_get ns k ≡ Some n → n ≢ node

-- the node is the last of these, and none of the others
pub record IsAlone (node : ℕ) (workers : List ℕ) : Type 0 where
  pub others : List ℕ
  pub last : workers ≡ others ++ node ∷ []
  pub apart : AreOthers node others

-- As many workers were found to have ended as were started.
abbrev pub AreOver : List ℕ → Option Ended → Type 0
AreOver started None = started ≡ []
AreOver started (Some found) = length started ≤ found.count
