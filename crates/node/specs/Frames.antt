-- The frames that a node sends, as plain data.
use Rattle.std.specs.Prelude.{ℕ, ◌+◌, cond, Option, Some, None, slice_index_or}
use Rattle.std.specs.Option.{option_map}
use Rattle.msg.specs.Frames.{Plain, data_frame, ack_frame}
use Rattle.msg.specs.declared.body.Message.{Message}
use Rattle.model.specs.View.{NodeView, link_to, is_other, message_of, released_at}

abbrev pub frame_of : ℕ → ℕ → ℕ → Message → Plain
frame_of own to number x = data_frame own to number x.stamp x.body

-- the frame of a message that the node still keeps
abbrev pub numbered_frame : NodeView → ℕ → ℕ → Option Plain
numbered_frame n to number =
    cond (is_other n.local to)
    (option_map (frame_of n.local.own to number) (message_of (link_to n to) number)) None

-- the frame in a place of the window, if a saved state holds its message
abbrev pub released_frame : NodeView → ℕ → ℕ → Option Plain
released_frame n to place =
    cond (is_other n.local to) (option_map
    (frame_of n.local.own to ((link_to n to).base + 1 + place)) (released_at (link_to n to) place))
    None

-- the acknowledgement of what a saved state has received from another node
abbrev pub acknowledgement : NodeView → ℕ → Option Plain
acknowledgement n from =
    cond (is_other n.local from) (Some (ack_frame n.local.own from (slice_index_or n.acks from 0)))
    None
