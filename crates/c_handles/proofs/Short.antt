-- A frame that is no letter with references and bytes has at most 48 bytes. No frame has more than
-- 69,134.
use Rattle.std.proofs.Common.{◌≡◌, refl, ℕ, Bool, true, false, ◌+◌, ◌*◌, ◌≤◌, List, [], ◌∷◌, ◌++◌, length, length-append, arith, Option, Some, None}
use Rattle.std.specs.Int.{w32, w64, cast_unsigned, to_be_bytes}
use Rattle.std.specs.List.{flat_map}
use Rattle.std.specs.Prelude.{IsTrue, ◌&&◌, nat_le}
use Rattle.std.proofs.lemmas.Bool.{and_parts, leb-true, true≢false}
use Rattle.std.specs.List.{list_all}
use Rattle.ids.specs.declared.names.Ref.{Ref}
use Rattle.ids.specs.declared.limits.TheConstants.{GREATEST_CYCLE, GREATEST_LETTER, GREATEST_NUMBER, GREATEST_PLACES}
use Rattle.codec.specs.Formats.{bytes4, number4, number8, signed8}
use Rattle.msg.specs.declared.body.Body.{Body}
use Rattle.msg.specs.declared.body.Body.TheVariants as body
use Rattle.msg.specs.declared.body.Colour.{Colour}
use Rattle.msg.specs.declared.body.Colour.TheVariants.{White, Black}
use Rattle.frames.specs.declared.version.Version.TheVariants.{Second}
use Rattle.frames.specs.Formats.{Sent, reference, optional, colour, colour_tag, token, body_format, head, framed, is_behind, known, said, sent_fits}
use Rattle.msg.specs.Frames.{Plain, data_frame, ack_frame}
use Rattle.frames.specs.Grammar.{Fits, data_tag, frame, is_letter, spelling}
use Rattle.msg.specs.Limits.{body_fits, is_plain_body, is_post, nodes_fit, optional_fits}

four : (n : ℕ) → length (to_be_bytes w32 n) ≡ 4
four n = refl

eight : (n : ℕ) → length (to_be_bytes w64 n) ≡ 8
eight n = refl

reference-short : (r : Ref) → length ((reference Second).spell r) ≡ 13
unfolding reference number4 number8
reference-short r = omega (
  arith,
  length-append (to_be_bytes w32 r.slot) (to_be_bytes w64 r.generation),
  four r.slot,
  eight r.generation,
)

optional-short : (o : Option Ref) → length ((optional Second).spell o) ≤ 14
unfolding optional
optional-short None = omega arith
optional-short (Some r) = omega (arith, reference-short r)

optionals-short : (os : List (Option Ref))
    → length (flat_map (optional Second).spell os) ≤ 14 * length os
optionals-short [] = omega arith
optionals-short (o ∷ os) = omega (
  arith,
  length-append ((optional Second).spell o) (flat_map (optional Second).spell os),
  optional-short o,
  optionals-short os,
)

colour-short : (c : Colour) → length (colour_tag c).bytes ≡ 1
colour-short White = refl
colour-short Black = refl

body-short : (b : Body) → is_post b ≡ false → length (said Second b).bytes ≤ 29
unfolding token colour number4 signed8
body-short body.Begin short = omega arith
body-short (body.Token t) short =
    let sum = to_be_bytes w64 (cast_unsigned w64 t.q) in
    omega (arith, length-append (colour_tag t.colour).bytes sum, colour-short t.colour)
body-short (body.Mark target) short = omega (arith, reference-short target)
body-short (body.Give label o) short = omega (arith, optional-short o)
body-short (body.Put target place o) short =
    let rest = place ∷ (optional Second).spell o in
    omega (
      arith,
      length-append ((reference Second).spell target) rest,
      reference-short target,
      optional-short o,
    )
body-short (body.Get target place label) short =
    let rest = place ∷ to_be_bytes w32 label in
    omega (arith, length-append ((reference Second).spell target) rest, reference-short target)
body-short body.Ended short = omega arith
body-short body.Swept short = omega arith
body-short (body.Post label os bytes) short = absurd (true≢false short)
body-short (body.Fetch target label offset count) short =
    let rest = to_be_bytes w32 label ++ to_be_bytes w32 offset ++ to_be_bytes w32 count in
    omega (arith, length-append ((reference Second).spell target) rest, reference-short target)

-- the references and bytes of a letter
post-within : (label : ℕ) (os : List (Option Ref)) (bytes : List ℕ)
    → length (said Second (body.Post label os bytes)).bytes ≤ 10 + 14 * length os + length bytes
unfolding number4 bytes4
post-within label os bytes =
    let references = flat_map (optional Second).spell os in
    let rest = to_be_bytes w32 (length bytes) ++ bytes in
    omega (
      arith,
      length-append references rest,
      optionals-short os,
    )

body-within : (b : Body) → IsTrue (body_fits b) → length (said Second b).bytes ≤ 69115
body-within body.Begin fits = omega (arith, body-short body.Begin refl)
body-within (body.Token t) fits = omega (arith, body-short (body.Token t) refl)
body-within (body.Mark target) fits = omega (arith, body-short (body.Mark target) refl)
body-within (body.Give label o) fits = omega (arith, body-short (body.Give label o) refl)
body-within (body.Put target place o) fits =
    omega (arith, body-short (body.Put target place o) refl)
body-within (body.Get target place label) fits =
    omega (arith, body-short (body.Get target place label) refl)
body-within body.Ended fits = omega (arith, body-short body.Ended refl)
body-within body.Swept fits = omega (arith, body-short body.Swept refl)
body-within (body.Post label os bytes) fits =
    let count = nat_le (length os) GREATEST_PLACES in
    let long = nat_le (length bytes) GREATEST_LETTER in
    let first = and_parts count (long && list_all optional_fits os) fits in
    let second = and_parts long (list_all optional_fits os) first.1 in
    omega (
      arith,
      post-within label os bytes,
      leb-true (length os) GREATEST_PLACES first.0,
      leb-true (length bytes) GREATEST_LETTER second.0,
    )
body-within (body.Fetch target label offset count) fits =
    omega (arith, body-short (body.Fetch target label offset count) refl)

-- what a message has besides its body
data-length : (plain : Bool) (x : Sent)
    → length (data_tag plain x).bytes ≡ 19 + length (said Second x.1.1).bytes
unfolding framed head number8 body_format
data-length true x = omega arith
data-length false x = omega arith

pub frame_short : (f : Plain) → is_letter f ≡ false → length (spelling f) ≤ 48
unfolding spelling frame known head number8
frame_short (data_frame from to number stamp b) short = omega (
  arith,
  data-length (is_plain_body b) ((from, (to, number)), (stamp, b)),
  body-short b short,
)
frame_short (ack_frame from to number) short = omega arith

-- the body of a message that has a spelling is within the limits
sent-fits : (plain : Bool) (x : Sent) → IsTrue (sent_fits x && is_behind plain x.1.1)
    → IsTrue (body_fits x.1.1)
sent-fits plain x fits =
    let in_cycle = nat_le x.1.0 GREATEST_CYCLE && body_fits x.1.1 in
    let numbered = nat_le x.0.1.1 GREATEST_NUMBER && in_cycle in
    let whole = and_parts (sent_fits x) (is_behind plain x.1.1) fits in
    let first = and_parts (nodes_fit x.0.0 x.0.1.0) (nat_le 1 x.0.1.1 && numbered) whole.0 in
    let second = and_parts (nat_le 1 x.0.1.1) numbered first.1 in
    let third = and_parts (nat_le x.0.1.1 GREATEST_NUMBER) in_cycle second.1 in
    (and_parts (nat_le x.1.0 GREATEST_CYCLE) (body_fits x.1.1) third.1).1

body-fits : (plain : Bool) (x : Sent) → (data_tag plain x).is_within → IsTrue (body_fits x.1.1)
unfolding framed
body-fits true x within = sent-fits true x within.1
body-fits false x within = sent-fits false x within.1

pub frame_within : (f : Plain) → Fits f → length (spelling f) ≤ 69134
unfolding spelling frame known head number8
frame_within (data_frame from to number stamp b) fits =
    let x : Sent = ((from, (to, number)), (stamp, b)) in
    omega (
      arith,
      data-length (is_plain_body b) x,
      body-within b (body-fits (is_plain_body b) x fits.within),
    )
frame_within (ack_frame from to number) fits = omega arith
