-- What is read has that spelling, what has a spelling is read, and no spelling is a prefix of
-- another.
use Rattle.std.proofs.Common.{◌≡◌, ◌≢◌, Option, None, ℕ, Bool, true, false, List, [], ◌∷◌, ◌++◌, Some, Result, Ok, Err}
use Rattle.std.proofs.Common.{refl, sym, ap, subst, ◌∙◌}
use Rattle.std.proofs.lemmas.Bool.{and_parts, not-true}
use Rattle.std.specs.Prelude.{IfOk, IfErr, IsTrue, ◌&&◌, not}
use Rattle.ids.specs.declared.refusal.Refusal.{Refusal}
use Rattle.ids.specs.declared.refusal.Refusal.TheVariants.{Memory, BadFrame}
use Rattle.codec.specs.Formats.{whole_at}
use Rattle.codec.specs.Reading.{IsBytes, IsSound}
use Rattle.codec.specs.Formats as codec
use Rattle.codec.proofs.Laws.{◌⊕◌, found, tagged_takes, made_takes, made_again}
use Rattle.codec.proofs.Wholes.{whole_takes, whole_again, begins_none}
use Rattle.msg.specs.declared.body.Body.{Body}
use Rattle.msg.specs.declared.frame.Frame.{Frame}
use Rattle.frames.specs.Grammar.{spelling, frame, Fits, data_tag, data_at, ack_at, frames, first_byte}
use Rattle.frames.specs.Decoding.{Decodes, IsDecoded, SpellLetter}
use Rattle.msg.specs.Frames.{Plain, data_frame, ack_frame, plain}
use Rattle.msg.specs.Limits.{is_plain_body}
use Rattle.frames.specs.Formats.{Sent, Head, is_behind, is_framed, framed, known}
use Rattle.frames.proofs.Formats.{framed_sound, known_sound}

abbrev pub data_of : Sent → Plain
data_of x = data_frame x.0.0 x.0.1.0 x.0.1.1 x.1.0 x.1.1

abbrev ack_of : Head → Plain
ack_of x = ack_frame x.0 x.1.0 x.1.1

-- the body of what is behind a first byte is of that kind
is_of : (plain : Bool) (b : Body) (fits : Bool) → IsTrue (fits && is_behind plain b)
    → is_plain_body b ≡ plain
is_of true b fits is = (and_parts fits (is_plain_body b) is).1
is_of false b fits is = not-true _ (and_parts fits (not (is_plain_body b)) is).1

behind_first : (plain : Bool) (x : Sent) → codec.Fits (framed plain) x → IsTrue (is_framed plain x)
unfolding framed
behind_first plain x fits = fits.within.1

data_again : (plain : Bool) (x : Sent) (rest : List ℕ) → (data_tag plain x).is_wide
    → (data_tag plain x).is_within
    → frame.read ((data_tag plain x).bytes ++ rest) ≡ Some (data_of x, rest)
unfolding frame data_at ack_at
data_again true x rest wide within =
    made_again (framed true) data_of (framed_sound true) x rest wide within
data_again false x rest wide within =
    made_again (framed false) data_of (framed_sound false) x rest wide within

frame_again : (f : Plain) (rest : List ℕ) → Fits f
    → frame.read (frame.spell f ++ rest) ≡ Some (f, rest)
unfolding frame data_at ack_at
frame_again (data_frame from to number stamp body) rest fits =
    data_again (is_plain_body body) ((from, (to, number)), (stamp, body)) rest fits.wide fits.within
frame_again (ack_frame from to number) rest fits =
    made_again known ack_of known_sound (from, (to, number)) rest fits.wide fits.within

-- what follows a first byte is spelled with that byte
abbrev IsMade : Bool → Bool → Sent → Type 0
IsMade plain b x =
    ((data_tag b x).bytes ≡ first_byte plain ∷ (framed plain).spell x)
    × ((data_tag b x).is_wide × (data_tag b x).is_within)

made_so : (plain : Bool) (x : Sent) → codec.Fits (framed plain) x → IsMade plain plain x
made_so true x fits = (refl, (fits.wide, fits.within))
made_so false x fits = (refl, (fits.wide, fits.within))

data_made : (plain : Bool) (x : Sent) → codec.Fits (framed plain) x
    → (frame.spell (data_of x) ≡ first_byte plain ∷ (framed plain).spell x) × Fits (data_of x)
unfolding frame
data_made plain x fits =
    let is = is_of plain x.1.1 _ (behind_first plain x fits) in
    let made = subst (λ (b : Bool). IsMade plain b x) (sym is) (made_so plain x fits) in
    (made.0, record { wide = made.1.0; within = made.1.1 })

frame_sound : IsSound frame
unfolding frame data_at ack_at
frame_sound = record {
  takes = tagged_takes frame frames (
      made_takes (0x45 ∷ []) data_of (framed_sound true) (data_made true)
      ⊕ made_takes (0x46 ∷ []) data_of (framed_sound false) (data_made false)
      ⊕ found known frame 0x42 ack_of known_sound (λ _. refl) (λ _ w. w) (λ _ w. w)
      ⊕ tt
      );
  again = frame_again;
}

-- ---- what the code reads

pub is_found : (bytes : List ℕ) (r : Result Frame Refusal) → IsBytes bytes
    → Decodes r (whole_at frame.read bytes)
    → IfOk r (λ f. Fits (plain f) × (bytes ≡ spelling (plain f)))
unfolding spelling
is_found bytes (Err e) are read = tt
is_found bytes (Ok f) are read = whole_takes frame frame_sound bytes (plain f) are read

pub is_read : (bytes : List ℕ) (r : Result Frame Refusal) (f : Plain)
    → Decodes r (whole_at frame.read bytes) → Fits f → bytes ≡ spelling f → IsDecoded f r
unfolding spelling
is_read bytes r f read fits same =
    read_is r (subst (Decodes r)
    (ap (whole_at frame.read) same ∙ whole_again frame frame_sound f fits) read)
  where
    read_is : (p : Result Frame Refusal) → Decodes p (Some f) → IsDecoded f p
    read_is (Err e) h = h
    read_is (Ok x) h = cc

pub is_refused : (r : Result Frame Refusal) (o : Option Plain) → Decodes r o
    → IfErr r (λ e. e ≢ Memory → e ≡ BadFrame)
is_refused (Ok f) o read = tt
is_refused (Err e) None read = λ other. read
is_refused (Err e) (Some f) read = λ other. absurd (other read.0)

-- memory runs out only at a letter
pub is_letter_then : (bytes : List ℕ) (r : Result Frame Refusal) → IsBytes bytes
    → Decodes r (whole_at frame.read bytes) → IfErr r (λ e. e ≡ Memory → SpellLetter bytes)
unfolding spelling
is_letter_then bytes (Ok f) are read = tt
is_letter_then bytes (Err e) are read = by (whole_at frame.read bytes) refl read
  where
    by : (o : Option Plain) → whole_at frame.read bytes ≡ o → Decodes (Err e) o → e ≡ Memory
        → SpellLetter bytes
    by None is h = λ lacks. absurd cc
    by (Some f) is h =
        let took = whole_takes frame frame_sound bytes f are is in
        λ lacks. (f, took.0, h.1, took.1)

-- ---- the law

pub no_spelling_begins_another : (f g : Plain) (rest : List ℕ) → Fits f → Fits g
    → spelling f ++ rest ≡ spelling g → (rest ≡ []) × (f ≡ g)
unfolding spelling
no_spelling_begins_another = begins_none frame frame_sound
