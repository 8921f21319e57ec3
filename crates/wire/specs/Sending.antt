-- The frame that a node sends next to another one, and what becomes of one that it takes.
use Rattle.std.specs.Prelude.{◌≡◌, ℕ, ◌+◌, Bool, true, false, List, Option, Some, None, slice_index_or, slice_set}
use Rattle.wire.specs.Plays.{Arrives}
use Rattle.wire.specs.Rule.{receiver, sender}
use Rattle.wire.specs.Views.{Known, FindsOther, claims, clears, posts, takes_in}
use Rattle.msg.specs.Frames.{Plain, ack_frame}
use Rattle.model.specs.View.{NodeView}
use Rattle.node.specs.Frames.{released_frame}

-- the released message, if there is one, else the acknowledgement of what was received
abbrev pub frame_or_ack : NodeView → ℕ → Option Plain → Plain
frame_or_ack n to None = ack_frame n.local.own to (slice_index_or n.acks to 0)
frame_or_ack n to (Some f) = f

abbrev pub frame_due : NodeView → ℕ → ℕ → Plain
frame_due n to place = frame_or_ack n to (released_frame n to place)

-- the place after a released message is the next one; after an acknowledgement, the first
abbrev pub place_after : ℕ → Option Plain → ℕ
place_after place None = 0
place_after place (Some f) = place + 1

abbrev pub next_place : NodeView → ℕ → ℕ → ℕ
next_place n to place = place_after place (released_frame n to place)

-- This frame went into this mailbox by a claim and a post; or the seat took a step on the mailbox
-- that found it not empty, and nothing was sent.
abbrev pub IsSent : ℕ → Plain → Bool → Known → Known → Type 0
IsSent box f true v w =
    (claimed : ℕ) × (posted : ℕ) × (w ≡ posts box posted f (claims box claimed v))
IsSent box f false v w = FindsOther box 0 v w

-- the places in the windows to all nodes, after a frame was sent to one of them or not
abbrev pub places_after : Bool → NodeView → ℕ → List ℕ → List ℕ
places_after true n to places =
    slice_set places to (next_place n to (slice_index_or places to 0))
places_after false n to places = places

-- what the seat knows once it has taken the frame from a mailbox and emptied the mailbox, by steps
-- at these places
abbrev pub emptied : ℕ → ℕ → ℕ → Plain → Known → Known
emptied box taken cleared f v = clears box cleared (takes_in box taken f v)

-- The seat has taken this frame from a mailbox of that node and emptied the mailbox. Some list of
-- events that leads to the seat's pair has released the frame.
abbrev pub TookOut : ℕ → ℕ → Plain → Known → Known → Type 0
TookOut box from f v w =
    (sender f ≡ from) × (receiver f ≡ v.me) × Arrives v f
    × ((taken : ℕ) × (cleared : ℕ) × (w ≡ emptied box taken cleared f v))
