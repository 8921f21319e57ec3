-- A node of which C has a handle, as its callers see it.
use Rattle.std.specs.Prelude.{ℕ, Bool, List, Option}
use Rattle.std.specs.Global.{Vec}
use Rattle.node.specs.Keeping.{WholeNode}
use Rattle.c_handles.specs.Gone.{GoneView}
use Rattle.c_handles.specs.declared.lone.images.Counts.{Counts}

pub record LoneView : Type 0 where
  pub node : WholeNode
  -- how many messages to another node may be unacknowledged; 0 if any number
  pub limit : ℕ
  -- the number of images and batches, and what the last one holds of the links
  pub mark : ℕ
  pub counts : Option (Vec Counts)
  -- whether an event changed the node since the last image or batch, and since the last one that
  -- was kept
  pub is_changed : Bool
  pub is_unsaved : Bool
  -- whether a log is kept, and the log; if none is kept, what it holds means nothing
  pub logs : Bool
  pub log : Option (List ℕ)
  -- whether what the last image or batch holds counts as saved
  pub is_kept : Bool
  -- the objects that are gone
  pub gone : GoneView
