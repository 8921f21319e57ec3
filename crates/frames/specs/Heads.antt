-- What is read of a letter before its references and bytes are copied.
use Rattle.std.specs.Prelude.{ℕ, ◌≡◌}
use Rattle.frames.specs.declared.reading.LetterHead.{LetterHead}

-- a letter of these parts, with this many references and bytes
pub record IsHead (h : LetterHead) (sender receiver place cycle count size : ℕ) : Type 0 where
  pub from : h.from ≡ sender
  pub to : h.to ≡ receiver
  pub number : h.number ≡ place
  pub stamp : h.stamp ≡ cycle
  pub references : h.references ≡ count
  pub bytes : h.bytes ≡ size
