-- The log of a node: from which node its events lead to the node as it is.
use Rattle.std.specs.Prelude.{◌≡◌, ℕ, ◌≤◌, Bool, true, false, cond, List, [], Option, Some, None, slice_index_or}
use Rattle.std.specs.Global.{Vec}
use Rattle.model.specs.View.{NodeView, kept_view, link_to}
use Rattle.node_store.specs.Logs.{Logged}
use Rattle.c_handles.specs.declared.lone.images.Counts.{Counts}
use Rattle.c_handles.specs.declared.lone.LoneNode.{LoneNode}

-- ---- A node of which less counts as saved

-- The node is the other one, except that no more of its messages count as saved.
pub record IsBehind (n other : NodeView) : Type 0 where
  pub same : kept_view n ≡ kept_view other
  pub less : (peer : ℕ) → (link_to n peer).kept ≤ (link_to other peer).kept

abbrev pub no_counts : Counts
no_counts = record { sent = 0; received = 0 }

-- the messages that an image or a batch holds, if there was one, count as saved in the node
abbrev pub AreSaved : Option (Vec Counts) → NodeView → Type 0
AreSaved None n = Unit {0}
AreSaved (Some counts) n =
    (peer : ℕ) → (slice_index_or counts.items peer no_counts).sent ≤ (link_to n peer).kept

-- ---- A log

-- the log that a node keeps, unless it is lost
abbrev pub log_of : LoneNode → Option (List ℕ)
log_of n = cond n.logs n.log None

-- The bytes are events that lead from the first node to one that the other node is, except that
-- less of that may count as saved. What the last image or batch holds counts as saved there.
pub record Led (bytes : List ℕ) (first n : NodeView) (counts : Option (Vec Counts)) : Type 0 where
  pub last : NodeView
  pub logged : Logged bytes first last
  pub behind : IsBehind n last
  pub saved : AreSaved counts last

-- the same of a log, if there is one
abbrev pub LedIf : Option (List ℕ) → NodeView → NodeView → Option (Vec Counts) → Type 0
LedIf log first n counts = (bytes : List ℕ) → log ≡ Some bytes → Led bytes first n counts

-- the log, if the node keeps one, leads from this node to it
abbrev pub LogsFrom : NodeView → LoneNode → Type 0
LogsFrom first n = LedIf (log_of n) first n.node.core n.counts

-- what the log of one node led from, that of the other leads from
abbrev pub KeepsLog : LoneNode → LoneNode → Type 0
KeepsLog old new = (first : NodeView) → LogsFrom first old → LogsFrom first new

-- whether a handle has a node that keeps a log
abbrev pub logs_in : Option LoneNode → Bool
logs_in (Some n) = n.logs
logs_in None = false

-- an image begins a log, if there is to be one
abbrev pub begun : Bool → Option (List ℕ)
begun true = Some []
begun false = None

-- the events are kept from the next image on, or no more; if they are kept already, nothing changes
abbrev pub logging : Bool → LoneNode → LoneNode
logging true n = cond n.logs n (record n { logs = true; log = None })
logging false n = record n { logs = false }
