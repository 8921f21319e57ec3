-- A node whose caller carries its frames and stores its images.
use Rattle.std.specs.Prelude.{ℕ, ◌≤◌, length, slice_index_or}
use Rattle.model.specs.State.{NodeState, got_from, sent_to}
use Rattle.model.specs.View.{NodeView, Shows, link_to}

-- The node shows its current state. Of what it sent and received, it counts no more as saved than
-- its saved state has.
pub record IsCarried (saved current : NodeState) (n : NodeView) : Type 0 where
  pub shows : Shows n current
  pub sent : (j : ℕ) → (link_to n j).kept ≤ length (sent_to saved j)
  pub received : (j : ℕ) → slice_index_or n.acks j 0 ≤ got_from saved.local j
