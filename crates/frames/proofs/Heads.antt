-- What is read of a letter before its references and bytes are copied.
use Rattle.std.proofs.Common.{◌≡◌, ℕ, List, [], ◌++◌, length, take, ◌≤◌, Option, Some, None, ◌∙◌, sym, ap, refl, arith}
use Rattle.std.proofs.lemmas.List.{append-nil, length-take-le}
use Rattle.codec.specs.Formats as codec
use Rattle.codec.specs.Formats.{Format, ◌&◌, ◌>>=◌, byte, number8}
use Rattle.codec.specs.Reading.{IsSound}
use Rattle.codec.specs.declared.reader.Reader.{Reader}
use Rattle.codec.specs.Readers.{left, with_rest, Reads}
use Rattle.codec.proofs.Laws.{◌⊗◌}
use Rattle.codec.proofs.Numbers.{byte_sound, number8_sound}
use Rattle.msg.specs.Frames.{data_frame}
use Rattle.frames.specs.declared.version.Version.TheVariants.{Second}
use Rattle.frames.specs.Formats.{Head, head, post, framed, body_format}
use Rattle.frames.specs.Grammar.{Fits, spelling, frame}
use Rattle.frames.proofs.Formats.{Posted, post_of, head_sound, post_grows}

-- a letter, with its first byte and its tag as numbers
abbrev pub Lettered : Type 0
Lettered = ℕ × (Head × (ℕ × (ℕ × Posted)))

abbrev lettered : Format Lettered
lettered = byte & head & number8 & byte & post Second

lettered_sound : IsSound lettered
lettered_sound =
    byte_sound ⊗ head_sound ⊗ number8_sound ⊗ byte_sound ⊗ post_grows.second

abbrev letter_of : Head → ℕ → Posted → Lettered
letter_of front stamp x = (0x46, (front, (stamp, (9, x))))

-- the spelling of a letter
letter_spelled : (front : Head) (stamp : ℕ) (x : Posted)
    → spelling (data_frame front.0 front.1.0 front.1.1 stamp (post_of x))
    ≡ lettered.spell (letter_of front stamp x)
unfolding spelling frame framed body_format
letter_spelled front stamp x = refl

letter_fits : (front : Head) (stamp : ℕ) (x : Posted)
    → Fits (data_frame front.0 front.1.0 front.1.1 stamp (post_of x))
    → codec.Fits lettered (letter_of front stamp x)
unfolding frame framed body_format
letter_fits front stamp x fits = record {
  wide = (
    omega arith,
    (fits.wide.0, (fits.wide.1.0, (omega arith, fits.wide.1.1))),
  );
  within = (
    tt,
    (fits.within.0.0, (fits.within.0.1.0, (tt, fits.within.0.1.1.1))),
  );
}

-- what was read of bytes that spell a value is that value
same_value : {A : Type 0} {F : Format A} {a b : Reader} {x y : A} (bytes : List ℕ)
    → left a ≡ Some bytes → Reads F a b x → F.read bytes ≡ Some (y, []) → x ≡ y
same_value {A = A} {F = F} {a = a} {b = b} {x = x} {y = y} bytes all took read =
    by (left b) (sym read ∙ rw all at took.is)
  where
    by : (q : Option (List ℕ)) → Some (y, []) ≡ with_rest x q → x ≡ y
    by None is = absurd cc
    by (Some rest) is = let e : (y, []) ≡ (x, rest) = cc in ap (λ (z : A × List ℕ). z.0) (sym e)

pub head_read : {a b : Reader} {x : Lettered} {bytes : List ℕ} (front : Head) (stamp : ℕ)
    (letter : Posted) → left a ≡ Some bytes → Reads lettered a b x
    → Fits (data_frame front.0 front.1.0 front.1.1 stamp (post_of letter))
    → bytes ≡ spelling (data_frame front.0 front.1.0 front.1.1 stamp (post_of letter))
    → x ≡ letter_of front stamp letter
head_read {bytes = bytes} front stamp letter all took fits same =
    let y = letter_of front stamp letter in
    let spelled : bytes ≡ lettered.spell y ++ [] = same
    ∙ letter_spelled front stamp letter ∙ sym (append-nil (lettered.spell y)) in
    same_value bytes all took
    (ap lettered.read spelled ∙ lettered_sound.again y [] (letter_fits front stamp letter fits))

-- how many places of a row have what was put into them
pub taken_all : {A : Type 0} {xs : List A} (row : List A) (count : ℕ) → count ≤ length row
    → take count row ≡ xs → count ≡ length xs
taken_all row count within is =
    sym (length-take-le count row within) ∙ ap length is
