-- The frames of one node's messages to another.
use Rattle.std.specs.Prelude.{◌≡◌, ◌≢◌, ℕ, ◌+◌, ◌-◌, ◌<◌, ◌≤◌, cond, nat_lt, List, [], take, length, Option, Some, None, Result, OnOk, IfErr, slice_get, slice_index_or}
use Rattle.ids.specs.declared.refusal.Refusal.{Refusal}
use Rattle.ids.specs.declared.refusal.Refusal.TheVariants.{Memory}
use Rattle.msg.specs.Frames.{data_frame}
use Rattle.frames.specs.Grammar.{Fits, spelling}
use Rattle.msg.specs.declared.body.Message.{Message}
use Rattle.model.specs.View.{NodeView, link_to, used, message_of}

-- all frames, and how many of them are released; the others are those of a save that is not
-- finished or that was refused
pub record OutboxView : Type 0 where
  pub frames : List (List ℕ)
  pub released : ℕ

abbrev pub no_outbox : OutboxView
no_outbox = record { frames = []; released = 0 }

abbrev pub released_frames : OutboxView → List (List ℕ)
released_frames b = take b.released b.frames

abbrev pub all_released : OutboxView → OutboxView
all_released b = record b { released = length b.frames }

-- the frame of this number, if it was released; numbers begin with 1
abbrev pub numbered_bytes : List (List ℕ) → ℕ → Option (List ℕ)
numbered_bytes frames number = cond (nat_lt 0 number) (slice_get frames (number - 1)) None

-- The bytes are the frame of the message in this place among all from one node to another, counted
-- from 0. If there is no message, there is no frame.
abbrev pub IsFrameOf : (from to place : ℕ) → Option Message → Option (List ℕ) → Type 0
IsFrameOf from to place None None = Unit {0}
IsFrameOf from to place None (Some bytes) = ⊥
IsFrameOf from to place (Some x) None = ⊥
IsFrameOf from to place (Some x) (Some bytes) =
    Fits (data_frame from to (place + 1) x.stamp x.body)
    × (bytes ≡ spelling (data_frame from to (place + 1) x.stamp x.body))

-- the frames that were there, followed by those of messages that the node has appended since
pub record AreStaged (n : NodeView) (to : ℕ) (before after : List (List ℕ)) : Type 0 where
  pub kept : (link_to n to).base ≤ length before
  pub old : take (length before) after ≡ before
  pub new : (k : ℕ) → length before ≤ k → k < length after
      → IsFrameOf n.local.own to k (message_of (link_to n to) (k + 1)) (slice_get after k)

-- the same, up to the last message
pub record IsStaged (n : NodeView) (to : ℕ) (before after : List (List ℕ)) : Type 0 where
  pub frames : AreStaged n to before after
  pub all : used (link_to n to) ≤ length after

-- The frames of all messages to this node are made, or memory ran out. None is released.
pub record Stages (n : NodeView) (to : ℕ) (old new : OutboxView) (result : Result Unit Refusal)
    : Type 0 where
  pub released : released_frames new ≡ released_frames old
  pub staged : OnOk result (IsStaged n to (released_frames old) new.frames)
  pub refused : IfErr result (λ e. e ≡ Memory)

-- ---- the outboxes of a node, one to each node of the space

-- on each link to another node, no message is dropped before its frame was released
abbrev pub HasFrames : NodeView → List (List (List ℕ)) → Type 0
HasFrames n rows =
    (j : ℕ) → j ≢ n.local.own → (link_to n j).base ≤ length (slice_index_or rows j [])

-- the frames released before, followed by those of all messages since
abbrev pub Releases : NodeView → (before after : List (List (List ℕ))) → Type 0
Releases n before after =
    (j : ℕ) → j ≢ n.local.own → IsStaged n j (slice_index_or before j [])
    (slice_index_or after j [])

-- the outboxes to the nodes below this number have the frames of all messages, released or not
abbrev pub AreStagedTo : ℕ → NodeView → List (List (List ℕ)) → List OutboxView → Type 0
AreStagedTo end n before after =
    (j : ℕ) → j < end → j ≢ n.local.own
    → IsStaged n j (slice_index_or before j []) (slice_index_or after j no_outbox).frames
