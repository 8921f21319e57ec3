-- The one spelling of each frame.
use Rattle.std.specs.Prelude.{ℕ, Bool, true, false, List, [], ◌∷◌}
use Rattle.codec.specs.Formats as codec
use Rattle.codec.specs.Formats.{Format, Reader, Behind, tag, tagged, made_at}
use Rattle.msg.specs.Frames.{Plain, data_frame, ack_frame}
use Rattle.msg.specs.Limits.{is_plain_body, is_post}
use Rattle.frames.specs.Formats.{Sent, framed, known}

-- the first byte of a message for which plain spaces have room, and of another one
abbrev pub first_byte : Bool → ℕ
first_byte true = 0x45
first_byte false = 0x46

-- a message for which plain spaces have room, or another one
abbrev pub data_tag : Bool → Sent → Behind
data_tag true x = tag 0x45 (framed true) x
data_tag false x = tag 0x46 (framed false) x

abbrev pub frame_tag : Plain → Behind
frame_tag (data_frame from to number stamp body) =
    data_tag (is_plain_body body) ((from, (to, number)), (stamp, body))
frame_tag (ack_frame by of number) = tag 0x42 known (by, (of, number))

unfoldable pub data_at : Bool → Reader Plain
data_at plain bytes =
    made_at (framed plain) (λ x. data_frame x.0.0 x.0.1.0 x.0.1.1 x.1.0 x.1.1) bytes

unfoldable pub ack_at : Reader Plain
ack_at bytes = made_at known (λ x. ack_frame x.0 x.1.0 x.1.1) bytes

abbrev pub frames : List (ℕ × Reader Plain)
frames = (0x45, data_at true) ∷ (0x46, data_at false) ∷ (0x42, ack_at) ∷ []

unfoldable pub frame : Format Plain
frame = tagged frame_tag frames

unfoldable pub spelling : Plain → List ℕ
spelling f = frame.spell f

-- a message that is a letter with references and bytes
abbrev pub is_letter : Plain → Bool
is_letter (data_frame from to number stamp body) = is_post body
is_letter (ack_frame by of number) = false

-- what has a spelling
abbrev pub Fits : Plain → Type 0
Fits f = codec.Fits frame f
