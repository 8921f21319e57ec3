-- What an image says about a slot, and about the links between its node and another one.
use Rattle.std.specs.Prelude.{ℕ, List, slice_index_or}
use Rattle.arena_slot.specs.declared.Slot as stored
use Rattle.msg.specs.declared.body.Message.{Message}
use Rattle.frames.specs.Formats.{IsCounted}
use Rattle.model.specs.State.{Object}
use Rattle.model.specs.References.{no_message}
use Rattle.model.specs.View.{Link}

-- a slot of the arena of objects
abbrev pub StoredSlot : Type 0
StoredSlot = stored.Slot Object

-- The highest acknowledged number of the node's messages, the messages after that one, and the
-- number of the last message received from the other node.
pub record StoredLink : Type 0 where
  pub base : ℕ
  pub unacknowledged : List Message
  pub received : ℕ

-- One byte says how many references each message has that is kept for another node. So it is at
-- every node, since objects have at most 255 places.
abbrev pub AreCounted : Link → Type 0
AreCounted l = (k : ℕ) → IsCounted (slice_index_or l.unacknowledged k no_message).body
