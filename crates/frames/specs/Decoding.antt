-- What the code decodes.
use Rattle.std.specs.Prelude.{ℕ, ◌≡◌, Bool, true, false, List, Option, Some, None, Result, Ok, Err}
use Rattle.ids.specs.declared.refusal.Refusal.{Refusal}
use Rattle.ids.specs.declared.refusal.Refusal.TheVariants.{Memory, BadFrame}
use Rattle.codec.specs.Formats.{◌&◌, byte, number8, whole_at, ◌>>=◌}
use Rattle.codec.specs.declared.reader.Reader.{Reader}
use Rattle.codec.specs.Readers.{left, Reads}
use Rattle.msg.specs.declared.frame.Frame.{Frame}
use Rattle.msg.specs.Frames.{Plain, plain}
use Rattle.frames.specs.Formats.{Head, head}
use Rattle.frames.specs.Grammar.{Fits, spelling, is_letter, data_at, ack_at}

-- What a function returned is the frame that is to be read, or it refused bytes that spell no
-- frame. Memory runs out only at a letter with references and bytes.
abbrev pub Decodes : Result Frame Refusal → Option Plain → Type 0
Decodes (Ok f) read = read ≡ Some (plain f)
Decodes (Err e) None = e ≡ BadFrame
Decodes (Err e) (Some f) = (e ≡ Memory) × (is_letter f ≡ true)

-- What a function returned is this frame, or memory ran out for a letter with references and bytes.
abbrev pub IsDecoded : Plain → Result Frame Refusal → Type 0
IsDecoded f (Ok x) = plain x ≡ f
IsDecoded f (Err e) = (e ≡ Memory) × (is_letter f ≡ true)

-- the bytes are those of a letter with references and bytes
abbrev pub SpellLetter : List ℕ → Type 0
SpellLetter bytes = (f : Plain) × Fits f × (is_letter f ≡ true) × (bytes ≡ spelling f)

-- the message of all that was left, for which plain spaces have room or not
abbrev pub message_of : Bool → Reader → Option Plain
message_of plain r = left r >>= whole_at (data_at plain)

-- the acknowledgement of all that was left
abbrev pub ack_of : Reader → Option Plain
ack_of r = left r >>= whole_at ack_at

-- The message is read for which plain spaces have no room, if the parts before its body and the tag
-- of its body were read already.
abbrev pub DecodesBehind : Head → ℕ → ℕ → Reader → Result Frame Refusal → Type 0
DecodesBehind front stamp tag now result =
    (start : Reader) → Reads (head & number8 & byte) start now (front, (stamp, tag))
    → Decodes result (message_of false start)
