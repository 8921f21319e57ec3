-- What is printed for a word that should spell a frame, and the status. The contents of the output
-- before and afterwards are described if they are known.
use Rattle.std.specs.Prelude.{◌≡◌, ℕ, List, [], ◌∷◌, ◌++◌, ◌⊎◌, Option, Result, Ok, Err, codes}
use Rattle.std.specs.Io.KnownBytes.{Appends}
use Rattle.hex.specs.Hex.{decode_of}
use Rattle.hex.specs.declared.error.FromHexError.{FromHexError}
use Rattle.ids.specs.declared.refusal.Refusal.TheVariants.{Memory, BadFrame}
use Rattle.msg.specs.Frames.{Plain}
use Rattle.frames.specs.Grammar.{Fits, spelling}
use Rattle.script.specs.Frames.{frame_text}
use Rattle.script.specs.Text.{refused_text}

-- for bytes
pub data PrintsSpelled (bytes : List ℕ) (status : ℕ) (old new : Option (List ℕ)) : Type 0 where
  -- they spell this frame
  frame : (f : Plain) → Fits f → bytes ≡ spelling f → status ≡ 0
      → Appends old new (frame_text f ++ (10 ∷ [])) → PrintsSpelled bytes status old new
  -- they spell no frame
  no_frame : ((f : Plain) → Fits f → bytes ≡ spelling f → ⊥) → status ≡ 1
      → Appends old new (refused_text BadFrame ++ (10 ∷ [])) → PrintsSpelled bytes status old new

-- for bytes, or for a word that isn't hexadecimal digits or has an odd number of them
abbrev pub PrintsBytes : Result (List ℕ) FromHexError → ℕ → Option (List ℕ) → Option (List ℕ)
    → Type 0
PrintsBytes (Ok bytes) status old new = PrintsSpelled bytes status old new
PrintsBytes (Err e) status old new = (status ≡ 2)
    × Appends old new (codes "words refused" ++ (10 ∷ []))

-- this is printed, or that memory ran out
abbrev pub OrMemory : Type 0 → ℕ → Option (List ℕ) → Option (List ℕ) → Type 0
OrMemory prints status old new =
    prints ⊎ ((status ≡ 1) × Appends old new (refused_text Memory ++ (10 ∷ [])))

-- for a word
abbrev pub PrintsDecoded : List ℕ → ℕ → Option (List ℕ) → Option (List ℕ) → Type 0
PrintsDecoded word status old new =
    OrMemory (PrintsBytes (decode_of word) status old new) status old new
