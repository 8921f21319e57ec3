-- How the parts of frames are spelled.
use Rattle.std.specs.Prelude.{ℕ, ◌≡◌, ◌<◌, ◌^◌, ⊤, length, Bool, true, false, ◌&&◌, not, List, [], ◌∷◌, ◌++◌, Option}
use Rattle.codec.specs.Formats.{Format, Reader, Behind, byte, number4, number8, signed8, nothing}
use Rattle.codec.specs.Formats.{mapped, ◌&◌, kept, tag, tagged, made_at, option, counted, bytes4}
use Rattle.ids.specs.declared.names.Ref.{Ref}
use Rattle.msg.specs.declared.body.Body.{Body}
use Rattle.msg.specs.declared.body.Body.TheVariants as body
use Rattle.msg.specs.declared.body.Colour.{Colour}
use Rattle.msg.specs.declared.body.Colour.TheVariants.{White, Black}
use Rattle.msg.specs.declared.body.Token.{Token}
use Rattle.frames.specs.declared.version.Version.{Version}
use Rattle.frames.specs.declared.version.Version.TheVariants.{First, Second}
use Rattle.msg.specs.Limits.{data_fits, ack_fits, is_plain_body}

-- a generation, which has four bytes in the first version
abbrev pub generation : Version → Format ℕ
generation First = number4
generation Second = number8

-- node, slot and generation
unfoldable pub reference : Version → Format Ref
reference v =
    mapped (byte & number4 & generation v)
    (λ x. record { node = x.0; slot = x.1.0; generation = x.1.1 })
    (λ r. (r.node, (r.slot, r.generation)))

-- 0, or 1 and a reference
unfoldable pub optional : Version → Format (Option Ref)
optional v = option (reference v)

abbrev pub colour_tag : Colour → Behind
colour_tag White = tag 0 nothing tt
colour_tag Black = tag 1 nothing tt

unfoldable pub colour : Format Colour
colour =
    tagged colour_tag ((0, made_at nothing (λ _. White)) ∷ (1, made_at nothing (λ _. Black)) ∷ [])

-- colour and q
unfoldable pub token : Format Token
token = mapped (colour & signed8) (λ x. record { colour = x.0; q = x.1 }) (λ t. (t.colour, t.q))

-- a label and an optional reference
abbrev pub give : Version → Format (ℕ × Option Ref)
give v = number4 & optional v

-- an object, one of its places, and an optional reference
abbrev pub put : Version → Format (Ref × (ℕ × Option Ref))
put v = reference v & byte & optional v

-- an object, one of its places, and a label
abbrev pub get : Version → Format (Ref × (ℕ × ℕ))
get v = reference v & byte & number4

-- a label, references and bytes
abbrev pub post : Version → Format (ℕ × (List (Option Ref) × List ℕ))
post v = number4 & counted byte (optional v) & bytes4

-- an object, a label, an offset, and a number of bytes
abbrev pub fetch : Version → Format (Ref × (ℕ × (ℕ × ℕ)))
fetch v = reference v & number4 & number4 & number4

-- a body that such a space has
abbrev pub IsFor : Bool → Body → Type 0
IsFor wide (body.Post label rs bytes) = wide ≡ true
IsFor wide (body.Fetch target label offset count) = wide ≡ true
IsFor wide b = ⊤

-- a tag and what the body says
abbrev pub said : Version → Body → Behind
said v body.Begin = tag 1 nothing tt
said v (body.Token t) = tag 2 token t
said v (body.Mark target) = tag 3 (reference v) target
said v (body.Give label r) = tag 4 (give v) (label, r)
said v (body.Put target place r) = tag 5 (put v) (target, (place, r))
said v (body.Get target place label) = tag 6 (get v) (target, (place, label))
said v body.Ended = tag 7 nothing tt
said v body.Swept = tag 8 nothing tt
said v (body.Post label rs bytes) = tag 9 (post v) (label, (rs, bytes))
said v (body.Fetch target label offset count) =
    tag 10 (fetch v) (target, (label, (offset, count)))

-- the same, of a body that a wide space or a plain one has
abbrev pub body_tag : Bool → Version → Body → Behind
body_tag wide v b = record (said v b) { is_within = IsFor wide b × (said v b).is_within }

unfoldable pub give_at : Version → Reader Body
give_at v bytes = made_at (give v) (λ x. body.Give x.0 x.1) bytes

unfoldable pub put_at : Version → Reader Body
put_at v bytes = made_at (put v) (λ x. body.Put x.0 x.1.0 x.1.1) bytes

unfoldable pub get_at : Version → Reader Body
get_at v bytes = made_at (get v) (λ x. body.Get x.0 x.1.0 x.1.1) bytes

unfoldable pub post_at : Version → Reader Body
post_at v bytes = made_at (post v) (λ x. body.Post x.0 x.1.0 x.1.1) bytes

unfoldable pub fetch_at : Version → Reader Body
fetch_at v bytes = made_at (fetch v) (λ x. body.Fetch x.0 x.1.0 x.1.1.0 x.1.1.1) bytes

-- what every space has
abbrev pub plain_bodies : Version → List (ℕ × Reader Body)
plain_bodies v =
    (1, made_at nothing (λ _. body.Begin))
    ∷ (2, made_at token body.Token)
    ∷ (3, made_at (reference v) body.Mark)
    ∷ (4, give_at v)
    ∷ (5, put_at v)
    ∷ (6, get_at v)
    ∷ (7, made_at nothing (λ _. body.Ended))
    ∷ (8, made_at nothing (λ _. body.Swept))
    ∷ []

-- what only wide spaces have
abbrev pub wide_bodies : Version → List (ℕ × Reader Body)
wide_bodies v = (9, post_at v) ∷ (10, fetch_at v) ∷ []

abbrev pub bodies : Bool → Version → List (ℕ × Reader Body)
bodies true v = plain_bodies v ++ wide_bodies v
bodies false v = plain_bodies v

unfoldable pub body_format : Bool → Version → Format Body
body_format wide v = tagged (body_tag wide v) (bodies wide v)

-- one byte says how many references the body has
abbrev pub IsCounted : Body → Type 0
IsCounted (body.Post label rs bytes) = length rs < 2 ^ 8
IsCounted b = ⊤

-- ---- what follows a frame's first byte, in the second version

-- from, to and number
abbrev pub Head : Type 0
Head = ℕ × (ℕ × ℕ)

unfoldable pub head : Format Head
head = byte & byte & number8

-- the stamp and the body follow
abbrev pub Sent : Type 0
Sent = Head × (ℕ × Body)

abbrev pub sent_fits : Sent → Bool
sent_fits x = data_fits x.0.0 x.0.1.0 x.0.1.1 x.1.0 x.1.1

unfoldable pub sent : Format Sent
sent = kept (head & number8 & body_format true Second) sent_fits

-- A message belongs behind the first byte of those for which plain spaces have room, or behind that
-- of the others.
abbrev pub is_behind : Bool → Body → Bool
is_behind true b = is_plain_body b
is_behind false b = not (is_plain_body b)

abbrev pub is_framed : Bool → Sent → Bool
is_framed plain x = sent_fits x && is_behind plain x.1.1

unfoldable pub framed : Bool → Format Sent
framed plain = kept (head & number8 & body_format (not plain) Second) (is_framed plain)

abbrev pub head_fits : Head → Bool
head_fits x = ack_fits x.0 x.1.0 x.1.1

unfoldable pub known : Format Head
known = kept head head_fits
