-- What is written is a frame's spelling.
use Rattle.std.proofs.Common.{◌≡◌, ℕ, Bool, true, false, List, [], Option, Some, None}
use Rattle.std.proofs.Common.{refl}
use Rattle.std.specs.List.{AllByRecursion}
use Rattle.std.proofs.lemmas.Bool.{and_from, false≢true, not_from_false}
use Rattle.std.proofs.Common.{Result, Ok, Err, ◌∷◌}
use Rattle.std.specs.Prelude.{IsTrue, IfOk, OnOk}
use Rattle.std.specs.Global.{Vec}
use Rattle.ids.specs.declared.refusal.Refusal.{Refusal}
use Rattle.msg.specs.declared.frame.DataRef.{DataRef}
use Rattle.ids.specs.declared.names.Ref.{Ref}
use Rattle.codec.specs.Formats.{Format, ◌&◌, number4, number8, signed8, bytes4}
use Rattle.msg.specs.declared.body.Body.{Body}
use Rattle.msg.specs.declared.body.Body.TheVariants as body
use Rattle.msg.specs.declared.body.Colour.{Colour}
use Rattle.msg.specs.declared.body.Colour.TheVariants.{White, Black}
use Rattle.msg.specs.declared.body.Token.{Token}
use Rattle.msg.specs.declared.frame.FrameRef.{FrameRef}
use Rattle.msg.specs.declared.frame.FrameRef.TheVariants as frame
use Rattle.frames.specs.Formats.{generation, reference, optional, colour, token, body_format}
use Rattle.frames.specs.Formats.{head, Sent, framed, known, said, IsFor}
use Rattle.msg.specs.Limits.{data_fits, is_plain_body}
use Rattle.msg.specs.Frames.{plain_ref, plain_data_ref}
use Rattle.frames.specs.declared.version.Version.{Version}
use Rattle.frames.specs.declared.version.Version.TheVariants.{First, Second}
use Rattle.frames.specs.Grammar.{Fits, spelling}
use Rattle.frames.specs.Grammar as grammar

pub any_colour : (c : Colour) → colour.IsWithin c
unfolding colour
any_colour White = tt
any_colour Black = tt

pub any_generation : (v : Version) (g : ℕ) → (generation v).IsWithin g
unfolding number4 number8
any_generation First g = tt
any_generation Second g = tt

pub any_reference : (v : Version) (r : Ref) → (reference v).IsWithin r
unfolding reference number4
any_reference v r = (tt, (tt, any_generation v r.generation))

pub any_optional : (v : Version) (o : Option Ref) → (optional v).IsWithin o
unfolding optional
any_optional v None = tt
any_optional v (Some r) = any_reference v r

pub any_token : (t : Token) → token.IsWithin t
unfolding token signed8
any_token t = (any_colour t.colour, tt)

any_optionals : (v : Version) (os : List (Option Ref)) → AllByRecursion (optional v).IsWithin os
any_optionals v [] = tt
any_optionals v (o ∷ os) = (any_optional v o, any_optionals v os)

any_said : (v : Version) (b : Body) → (said v b).is_within
unfolding number4 bytes4
any_said v body.Begin = tt
any_said v (body.Token t) = any_token t
any_said v (body.Mark target) = any_reference v target
any_said v (body.Give label o) = (tt, any_optional v o)
any_said v (body.Put target place o) = (any_reference v target, (tt, any_optional v o))
any_said v (body.Get target place label) = (any_reference v target, (tt, tt))
any_said v body.Ended = tt
any_said v body.Swept = tt
any_said v (body.Post label os bytes) = (tt, ((tt, (refl, any_optionals v os)), (tt, refl)))
any_said v (body.Fetch target label offset count) = (any_reference v target, (tt, (tt, tt)))

-- a body's format has no limits, if the space has such a body
pub any_body : (wide : Bool) (v : Version) (b : Body) → IsFor wide b
    → (body_format wide v).IsWithin b
unfolding body_format
any_body wide v b is = (is, any_said v b)

-- wide spaces have every body
pub in_wide : (b : Body) → IsFor true b
in_wide body.Begin = tt
in_wide (body.Token t) = tt
in_wide (body.Mark target) = tt
in_wide (body.Give label o) = tt
in_wide (body.Put target place o) = tt
in_wide (body.Get target place label) = tt
in_wide body.Ended = tt
in_wide body.Swept = tt
in_wide (body.Post label os bytes) = refl
in_wide (body.Fetch target label offset count) = refl

plain_in : (b : Body) → is_plain_body b ≡ true → IsFor false b
plain_in body.Begin is = tt
plain_in (body.Token t) is = tt
plain_in (body.Mark target) is = tt
plain_in (body.Give label o) is = tt
plain_in (body.Put target place o) is = tt
plain_in (body.Get target place label) is = tt
plain_in body.Ended is = tt
plain_in body.Swept is = tt
plain_in (body.Post label os bytes) is = absurd (false≢true is)
plain_in (body.Fetch target label offset count) is = absurd (false≢true is)

-- what is behind the first byte of a message
abbrev pub parts : Format Sent
parts = head & number8 & body_format true Second

-- what is behind the first byte of its kind
data_within : (b : Bool) (x : Sent) → is_plain_body x.1.1 ≡ b
    → IsTrue (data_fits x.0.0 x.0.1.0 x.0.1.1 x.1.0 x.1.1) → (grammar.data_tag b x).is_within
unfolding framed head number8
data_within true x is fits =
    (((tt, (tt, tt)), (tt, any_body false Second x.1.1 (plain_in x.1.1 is))), and_from _ _ fits is)
data_within false x is fits = (
  ((tt, (tt, tt)), (tt, any_body true Second x.1.1 (in_wide x.1.1))),
  and_from _ _ fits (not_from_false _ is),
)

-- the first byte of a message, and what is behind it, are its spelling
pub data_spelled : (P : List ℕ → Type 0 → Type 0) (b : Bool) (x : Sent)
    → P (grammar.first_byte b ∷ parts.spell x) (parts.IsWide x)
    → P (grammar.data_tag b x).bytes (grammar.data_tag b x).is_wide
unfolding framed body_format
data_spelled P true x is = is
data_spelled P false x is = is

pub frame_fits : (f : FrameRef) → grammar.frame.IsWide (plain_ref f) → Fits (plain_ref f)
unfolding grammar.frame known head number8
frame_fits (frame.Data d) wide = record {
  wide = wide;
  within = data_within (is_plain_body d.body.now)
      ((d.from, (d.to, d.number)), (d.stamp, d.body.now)) refl
      d.fits;
}
frame_fits (frame.Ack a) wide = record { wide = wide; within = ((tt, (tt, tt)), a.fits) }

-- what was written
pub data_encoded : {is_open : Type 0} (r : Result (Vec ℕ) Refusal) (d : DataRef) → OnOk r is_open
    → (is_open → grammar.frame.IsWide (plain_data_ref d))
    → IfOk r (λ v. v.items ≡ spelling (plain_data_ref d))
    → IfOk r (λ v. Fits (plain_data_ref d) × (v.items ≡ spelling (plain_data_ref d)))
data_encoded (Ok v) d opened wide is = (frame_fits (frame.Data d) (wide opened), is)
data_encoded (Err e) d opened wide is = tt
