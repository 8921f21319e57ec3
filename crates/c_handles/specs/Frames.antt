-- The frames that a node's caller sends, as bytes.
use Rattle.std.specs.Prelude.{◌≡◌, ℕ, ◌+◌, ◌≤◌, ◌<◌, ◌⊎◌, true, false, cond, nat_lt, nat_le, zero, suc, List, [], ◌++◌, drop, length, Option, Some, None, Result, Ok, Err}
use Rattle.std.specs.Int.{w32, w64, to_be_bytes}
use Rattle.std.specs.Option.{option_map}
use Rattle.ids.specs.declared.limits.TheConstants.{WINDOW}
use Rattle.ids.specs.declared.refusal.Refusal.TheVariants.{Memory, NoNode}
use Rattle.msg.specs.Frames.{Plain, ack_frame, data_frame}
use Rattle.frames.specs.Grammar.{is_letter, spelling}
use Rattle.model.specs.View.{NodeView, is_other}
use Rattle.node.specs.Frames.{acknowledgement, released_frame}
use Rattle.c_handles.specs.Reads.{found}
use Rattle.c_values.specs.Bytes.{WroteIf}
use Rattle.c_values.specs.declared.fault.Fault.{Fault}
use Rattle.c_values.specs.declared.fault.Fault.TheVariants as fault
use Rattle.c_handles.specs.declared.lone.LoneNode.{LoneNode}
use Rattle.c_handles.specs.declared.packing.Packing.{Packing}

-- ---- One frame

abbrev pub frame_bytes : NodeView → ℕ → ℕ → Result (List ℕ) Fault
frame_bytes n to place =
    cond (nat_lt place WINDOW)
    (cond (is_other n.local to) (found (option_map spelling (released_frame n to place)))
    (Err (fault.Refused NoNode)))
    (Err fault.BadArgument)

abbrev pub ack_bytes : NodeView → ℕ → Result (List ℕ) Fault
ack_bytes n from =
    cond (is_other n.local from) (found (option_map spelling (acknowledgement n from)))
    (Err (fault.Refused NoNode))

-- a letter with references and bytes, for whose bytes memory may run out
abbrev pub IsLetter : Option Plain → Type 0
IsLetter None = ⊥
IsLetter (Some f) = is_letter f ≡ true

-- The bytes of a frame are written, or it is a fault and nothing is. Memory may run out for a
-- letter with references and bytes.
abbrev pub WroteFrame : NodeView → ℕ → ℕ → Result (Unit {0}) Fault → List ℕ → List ℕ → ℕ → ℕ
    → Type 0
WroteFrame n to place r old new before needed =
    WroteIf (frame_bytes n to place) r old new before needed
    ⊎ ((r ≡ Err (fault.Refused Memory)) × (new ≡ old) × (needed ≡ before)
    × IsLetter (released_frame n to place))

-- the same for what a handle holds
abbrev pub HandleFrame : Option LoneNode → ℕ → ℕ → Result (Unit {0}) Fault → List ℕ → List ℕ → ℕ
    → ℕ → Type 0
HandleFrame (Some n) to place r old new before needed =
    WroteFrame n.node.core to place r old new before needed
HandleFrame None to place r old new before needed =
    (r ≡ Err fault.NoHandle) × (new ≡ old) × (needed ≡ before)

-- ---- The frames of a window, one after another

abbrev pub number_of : Plain → ℕ
number_of (data_frame from to number stamp body) = number
number_of (ack_frame by of number) = number

-- a frame after its length and its number
abbrev pub packed : Plain → List ℕ
packed f =
    to_be_bytes w32 (length (spelling f)) ++ to_be_bytes w64 (number_of f) ++ spelling f

-- the parts that fit, how many these are, and how many bytes all parts have
pub record Packed : Type 0 where
  pub bytes : List ℕ
  pub count : ℕ
  pub needed : ℕ

abbrev pub nothing_packed : Packed
nothing_packed = record { bytes = []; count = 0; needed = 0 }

-- One more part. It fits if all parts up to it fit.
abbrev pub pack : ℕ → Packed → List ℕ → Packed
pack room p part =
    cond (nat_le (p.needed + length part) room)
    (record { bytes = p.bytes ++ part; count = p.count + 1; needed = p.needed + length part })
    (record p { needed = p.needed + length part })

-- one more frame, if there is one with a number above this one
abbrev pub pack_above : ℕ → ℕ → Packed → Option Plain → Packed
pack_above room after p None = p
pack_above room after p (Some f) = cond (nat_lt after (number_of f)) (pack room p (packed f)) p

-- the released frames in the first places of a window
abbrev pub packing : ℕ → NodeView → ℕ → ℕ → ℕ → Packed
packing room n to after zero = nothing_packed
packing room n to after (suc place) =
    pack_above room after (packing room n to after place) (released_frame n to place)

-- all of them
unfoldable pub window : ℕ → NodeView → ℕ → ℕ → Packed
window room n to after = packing room n to after WINDOW

-- A buffer with these parts at its front, and the counts of them.
pub record Holds (whole : List ℕ) (p : Packed) (c : Packing) (held : List ℕ) : Type 0 where
  pub count : c.count ≡ p.count
  pub needed : c.needed ≡ p.needed
  pub buffer : held ≡ p.bytes ++ drop (length p.bytes) whole
  pub within : length p.bytes ≤ length whole
  pub fits : p.needed ≤ length whole → length p.bytes ≡ p.needed

-- The frames of a window are in the buffer, as many as fit, and their count is the result. Or there
-- isn't one, or not even the first fits. Or memory runs out for a letter with references and bytes,
-- and what the buffer has then means nothing.
abbrev pub Packs : NodeView → ℕ → ℕ → Result ℕ Fault → List ℕ → List ℕ → ℕ → ℕ → Type 0
Packs n to after (Ok count) old new before needed =
    (is_other n.local to ≡ true) × (0 < count)
    × (count ≡ (window (length old) n to after).count)
    × (needed ≡ (window (length old) n to after).needed)
    × (new ≡ (window (length old) n to after).bytes
    ++ drop (length (window (length old) n to after).bytes) old)
Packs n to after (Err fault.ShortBuffer) old new before needed =
    (is_other n.local to ≡ true) × ((window (length old) n to after).count ≡ 0)
    × (needed ≡ (window (length old) n to after).needed) × (0 < needed) × (new ≡ old)
Packs n to after (Err fault.Nothing) old new before needed =
    (is_other n.local to ≡ true) × ((window (length old) n to after).needed ≡ 0)
    × (needed ≡ before) × (new ≡ old)
Packs n to after (Err (fault.Refused NoNode)) old new before needed =
    (is_other n.local to ≡ false) × (needed ≡ before) × (new ≡ old)
Packs n to after (Err (fault.Refused Memory)) old new before needed =
    (is_other n.local to ≡ true) × (length new ≡ length old) × (needed ≡ before)
    × ((place : ℕ) × IsLetter (released_frame n to place))
Packs n to after (Err e) old new before needed = ⊥

-- the same for what a handle holds
abbrev pub HandlePacks : Option LoneNode → ℕ → ℕ → Result ℕ Fault → List ℕ → List ℕ → ℕ → ℕ
    → Type 0
HandlePacks (Some n) to after r old new before needed =
    Packs n.node.core to after r old new before needed
HandlePacks None to after r old new before needed =
    (r ≡ Err fault.NoHandle) × (new ≡ old) × (needed ≡ before)
