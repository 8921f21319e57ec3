-- What an image says, and its one spelling.
use Rattle.std.specs.Prelude.{ℕ, ◌-◌, ◌≡◌, ◌==◌, ◌&&◌, if◌then◌else◌, List, [], ◌∷◌, length, Bool, true, false, Option, Some, None, nat_lt, nat_le, ⊤}
use Rattle.ids.specs.Limits.{reference_fits}
use Rattle.ids.specs.declared.names.Ref.{Ref}
use Rattle.ids.specs.declared.limits.TheConstants.{FIRST_VERSION_NODES, GREATEST_NODES, GREATEST_BYTES, GREATEST_PLACES}
use Rattle.codec.specs.Formats as codec
use Rattle.codec.specs.Formats.{Format, Reader, Behind, byte, number2, number4, number8, signed8}
use Rattle.codec.specs.Formats.{nothing, mapped, joined, ◌&◌, kept, tag, tagged, behind, made_at}
use Rattle.codec.specs.Formats.{option, many, counted, bytes4}
use Rattle.msg.specs.declared.body.Body.{Body}
use Rattle.msg.specs.declared.body.Message.{Message}
use Rattle.msg.specs.declared.body.Token.{Token}
use Rattle.frames.specs.declared.version.Version.{Version}
use Rattle.frames.specs.declared.version.Version.TheVariants.{First, Second}
use Rattle.frames.specs.Formats.{generation, reference, optional, colour, token, body_format}
use Rattle.msg.specs.Limits.{optional_fits, body_fits}
use Rattle.model.specs.State.{Object, Ring}
use Rattle.model.specs.declared.age.Age.{Age}
use Rattle.model.specs.declared.age.Age.TheVariants.{Young, Remembered, Old}
use Rattle.model.specs.declared.event.Letter.{Letter}
use Rattle.image_parts.specs.declared.parts.Head.{Head}
use Rattle.image_parts.specs.declared.parts.PhasesParts.{PhasesParts}
use Rattle.arena_slot.specs.declared.Slot.TheVariants as slot
use Rattle.image_parts.specs.Links.{StoredLink, StoredSlot}
use Rattle.image_parts.specs.Layouts.{widths, is_wide, IsTooLong}
use Rattle.image_parts.specs.declared.layout.Layout.{Layout}
use Rattle.image_parts.specs.declared.layout.Layout.TheVariants as layout

-- what an image says about a node
pub record Stored : Type 0 where
  pub head : Head
  pub phases : PhasesParts
  pub ring : Ring
  -- at node 0 those of the other nodes, in ascending order; at other nodes empty
  pub reports : List ℕ
  pub registers : List (Option Ref)
  pub slots : List StoredSlot
  -- the free slots, the next to be used first
  pub free : List ℕ
  -- the grey slots; the last one is scanned first
  pub grey : List ℕ
  pub asked : List Ref
  -- oldest first
  pub letters : List Letter
  -- to the other nodes, in ascending order
  pub links : List StoredLink

-- ---- what comes before the lists

-- the number of the version, and in a wide space how many places and bytes an object has at most
abbrev pub layout_tag : Layout → Behind
layout_tag layout.First = tag 1 nothing tt
layout_tag layout.Second = tag 2 nothing tt
layout_tag (layout.Wide places bytes) = tag 4 (byte & number4) (places, bytes)

abbrev pub layouts : List (ℕ × Reader Layout)
layouts =
    (1, made_at nothing (λ _. layout.First))
    ∷ (2, made_at nothing (λ _. layout.Second))
    ∷ (4, made_at (byte & number4) (λ x. layout.Wide x.0 x.1))
    ∷ []

unfoldable pub layout_format : Format Layout
layout_format = tagged layout_tag layouts

-- the bytes `MR`, and the layout
abbrev pub Start : Type 0
Start = ℕ × (ℕ × Layout)

abbrev pub is_start : Start → Bool
is_start x = x.0 == 0x4D && x.1.0 == 0x52

unfoldable pub start_format : Format Layout
start_format =
    mapped (kept (byte & byte & layout_format) is_start) (λ x. x.1.1) (λ l. (0x4D, (0x52, l)))

-- how many nodes a space has at most
abbrev pub most_nodes : Version → ℕ
most_nodes First = FIRST_VERSION_NODES
most_nodes Second = GREATEST_NODES

abbrev pub nodes_fit : Version → ℕ × ℕ → Bool
nodes_fit v p = nat_lt p.1 p.0 && nat_le p.0 (most_nodes v)

-- the number of nodes, and the own number, which is smaller
unfoldable pub nodes_format : Version → Format (ℕ × ℕ)
nodes_format v = kept (byte & byte) (nodes_fit v)

-- the sizes of the space, with the node's own number
unfoldable pub head_format : Version → Format Head
head_format v =
    mapped (nodes_format v & number2 & number4)
    (λ x. record { nodes = x.0.0; own = x.0.1; registers = x.1.0; slots = x.1.1 })
    (λ h. ((h.nodes, h.own), (h.registers, h.slots)))

unfoldable pub phases_format : Format PhasesParts
phases_format =
    mapped (number8 & number8 & number8 & number4)
    (λ x. record { cycle = x.0; ended = x.1.0; swept = x.1.1.0; cursor = x.1.1.1 })
    (λ p. (p.cycle, (p.ended, (p.swept, p.cursor))))

-- 0, or 1 and a token
unfoldable pub held_format : Format (Option Token)
held_format = option token

unfoldable pub ring_format : Format Ring
ring_format =
    mapped (colour & signed8 & signed8 & held_format)
    (λ x. record { colour = x.0; earlier = x.1.0; recent = x.1.1.0; token = x.1.1.1 })
    (λ r. (r.colour, (r.earlier, (r.recent, r.token))))

-- ---- what the lists contain, all within the limits

abbrev pub near : Version → Format Ref
near v = kept (reference v) reference_fits

abbrev pub near_optional : Version → Format (Option Ref)
near_optional v = kept (optional v) optional_fits

abbrev pub near_body : Bool → Version → Format Body
near_body wide v = kept (body_format wide v) body_fits

-- how many places there are
unfoldable pub width_format : Format ℕ
width_format = kept byte (λ n. nat_le n GREATEST_PLACES)

unfoldable pub places_format : Version → Format (List (Option Ref))
places_format v = counted width_format (near_optional v)

-- this value, which isn't spelled
abbrev pub always : {A : Type 0} → A → Format A
always a = record {
  spell = λ _. [];
  IsWide = λ _. ⊤;
  IsWithin = λ x. x ≡ a;
  read = λ rest. Some (a, rest);
}

-- the bytes of an object, of a wide space or a plain one
abbrev pub bytes_format : Bool → Format (List ℕ)
bytes_format true = kept bytes4 (λ bytes. nat_le (length bytes) GREATEST_BYTES)
bytes_format false = always []

-- what is spelled of an object besides whether it is shared, and its age: its mark, its word, its
-- bytes and its places
abbrev pub Parts : Type 0
Parts = ℕ × (ℕ × (List ℕ × List (Option Ref)))

abbrev pub parts_of : Object → Parts
parts_of o = (o.mark, (o.word, (o.bytes, o.places)))

abbrev pub object_of : Bool → Age → Parts → Object
object_of shared age x = record {
  word = x.1.0;
  bytes = x.1.1.0;
  places = x.1.1.1;
  mark = x.0;
  shared = shared;
  age = age;
}

unfoldable pub parts_format : Bool → Version → Format Parts
parts_format wide v = number8 & number8 & bytes_format wide & places_format v

abbrev pub occupied : Bool → Version → Format (ℕ × Parts)
occupied wide v = generation v & parts_format wide v

unfoldable pub occupied_at : Bool → Version → Bool → Age → Reader StoredSlot
occupied_at wide v shared age bytes =
    made_at (occupied wide v) (λ x. slot.Occupied x.0 (object_of shared age x.1)) bytes

-- only in wide spaces are there objects that aren't both shared and old
abbrev pub only_wide_at : Bool → Version → Bool → Age → Reader StoredSlot
only_wide_at true v shared age = occupied_at true v shared age
only_wide_at false v shared age = λ _. None

abbrev pub IsPlain : Bool → Age → Type 0
IsPlain true Old = ⊤
IsPlain true Young = ⊥
IsPlain true Remembered = ⊥
IsPlain false age = ⊥

-- what the first byte of a slot with an object says: whether it is shared, and its age
abbrev pub kind_tag : Bool → Age → ℕ
kind_tag true Old = 1
kind_tag false Old = 3
kind_tag false Young = 4
kind_tag false Remembered = 5
kind_tag true Young = 6
kind_tag true Remembered = 7

-- that byte, and what follows it
abbrev pub object_tag : Bool → Bool → Age → Version → ℕ × Parts → Behind
object_tag true shared age v x = tag (kind_tag shared age) (occupied true v) x
object_tag false shared age v x = record (tag 1 (occupied false v) x) {
  is_within = IsPlain shared age × (occupied false v).IsWithin x;
}

-- a tag and what the slot holds
abbrev pub slot_tag : Bool → Version → StoredSlot → Behind
slot_tag wide v (slot.Free next) = tag 0 (generation v) next
slot_tag wide v (slot.Occupied own object) =
    object_tag wide object.shared object.age v (own, parts_of object)
slot_tag wide v slot.Retired = tag 2 nothing tt

abbrev pub slots_at : Bool → Version → List (ℕ × Reader StoredSlot)
slots_at wide v =
    (0, made_at (generation v) slot.Free)
    ∷ (1, occupied_at wide v true Old)
    ∷ (2, made_at nothing (λ _. slot.Retired))
    ∷ (3, only_wide_at wide v false Old)
    ∷ (4, only_wide_at wide v false Young)
    ∷ (5, only_wide_at wide v false Remembered)
    ∷ (6, only_wide_at wide v true Young)
    ∷ (7, only_wide_at wide v true Remembered)
    ∷ []

unfoldable pub slot_format : Bool → Version → Format StoredSlot
slot_format wide v = tagged (slot_tag wide v) (slots_at wide v)

-- how many more references of a letter follow, and its bytes, which plain spaces don't have
abbrev pub more_format : Bool → Format (ℕ × List ℕ)
more_format true = byte & bytes4
more_format false = always (0, [])

-- what every letter has: its sender, its label and a reference, as it is written
abbrev pub letter_front : Format (ℕ × (ℕ × Option Ref))
letter_front = byte & number4 & optional Second

abbrev pub LetterParts : Type 0
LetterParts = ℕ × (ℕ × (Option Ref × (ℕ × List ℕ)))

abbrev pub letter_of : LetterParts → Letter
letter_of x = record {
  from = x.0;
  label = x.1.0;
  reference = x.1.1.0;
  more = x.1.1.1.0;
  bytes = x.1.1.1.1;
}

unfoldable pub letter_format : Bool → Version → Format Letter
letter_format wide v =
    mapped (byte & number4 & near_optional v & more_format wide) letter_of
    (λ l. (l.from, (l.label, (l.reference, (l.more, l.bytes)))))

unfoldable pub message_format : Bool → Version → Format Message
message_format wide v =
    mapped (number8 & near_body wide v) (λ x. record { stamp = x.0; body = x.1 })
    (λ m. (m.stamp, m.body))

unfoldable pub link_format : Bool → Version → Format StoredLink
link_format wide v =
    mapped (number8 & counted number4 (message_format wide v) & number8)
    (λ x. record { base = x.0; unacknowledged = x.1.0; received = x.1.1 })
    (λ l. (l.base, (l.unacknowledged, l.received)))

-- ---- the whole

-- how many reports are spelled
abbrev pub reports_told : Head → ℕ
reports_told h = if h.own == 0 then h.nodes - 1 else 0

-- how many links are spelled
abbrev pub links_told : Head → ℕ
links_told h = h.nodes - 1

abbrev pub Front : Type 0
Front = Head × (PhasesParts × Ring)

unfoldable pub front_format : Version → Format Front
front_format v = head_format v & phases_format & ring_format

-- the lists whose lengths are known from the head
abbrev pub Told : Type 0
Told = List ℕ × List (Option Ref)

unfoldable pub told_format : Version → Head → Format Told
told_format v h = many number8 (reports_told h) & many (near_optional v) h.registers

-- the slots, and those of them that are free or grey
abbrev pub Slots : Type 0
Slots = List StoredSlot × (List ℕ × List ℕ)

unfoldable pub slots_format : Bool → Version → Format Slots
slots_format wide v =
    counted number4 (slot_format wide v) & counted number4 number4 & counted number4 number4

-- the references that were asked for, the letters, and the links
abbrev pub Others : Type 0
Others = List Ref × (List Letter × List StoredLink)

unfoldable pub others_format : Bool → Version → Head → Format Others
others_format wide v h =
    counted number4 (near v) & counted number4 (letter_format wide v)
    & many (link_format wide v) (links_told h)

-- the references that were asked for, and the letters
abbrev pub waiting_format : Bool → Version → Format (List Ref × List Letter)
waiting_format wide v = counted number4 (near v) & counted number4 (letter_format wide v)

-- what follows the front
abbrev pub Lists : Type 0
Lists = Told × (Slots × Others)

unfoldable pub lists_format : Bool → Version → Front → Format Lists
lists_format wide v f = told_format v f.0 & slots_format wide v & others_format wide v f.0

abbrev pub stored : Front × Lists → Stored
stored x =
    record {
      head = x.0.0;
      phases = x.0.1.0;
      ring = x.0.1.1;
      reports = x.1.0.0;
      registers = x.1.0.1;
      slots = x.1.1.0.0;
      free = x.1.1.0.1.0;
      grey = x.1.1.0.1.1;
      asked = x.1.1.1.0;
      letters = x.1.1.1.1.0;
      links = x.1.1.1.1.1;
    }

abbrev pub front_of : Stored → Front
front_of s = (s.head, (s.phases, s.ring))

abbrev pub told_of : Stored → Told
told_of s = (s.reports, s.registers)

abbrev pub slots_of : Stored → Slots
slots_of s = (s.slots, (s.free, s.grey))

abbrev pub others_of : Stored → Others
others_of s = (s.asked, (s.letters, s.links))

-- what an image of a wide space or a plain one says
unfoldable pub stored_format : Bool → Version → Format Stored
stored_format wide v =
    mapped (joined (front_format v) (lists_format wide v)) stored
    (λ s. (front_of s, (told_of s, (slots_of s, others_of s))))

-- what an image of this layout says
abbrev pub rest_format : Layout → Format Stored
rest_format l = stored_format (is_wide l) (widths l)

-- the start, and after it what the image says
unfoldable pub image_format : Format (Layout × Stored)
image_format = joined start_format rest_format

-- the whole image
unfoldable pub spelling : Layout → Stored → List ℕ
spelling l s = image_format.spell (l, s)

-- what has a spelling
abbrev pub Fits : Layout → Stored → Type 0
Fits l s = codec.Fits image_format (l, s)

-- the bytes are the image of this layout that says this
pub record IsImage (bytes : List ℕ) (l : Layout) (s : Stored) : Type 0 where
  pub fits : Fits l s
  pub spelled : bytes ≡ spelling l s
  pub within : IsTooLong (is_wide l) (length bytes) → ⊥

-- ---- behind a number of a version

-- the layout that is read behind this number
abbrev pub layout_behind : ℕ → Format Layout
layout_behind number = record layout_format { read = behind layouts number }

-- the layout, and what the image says
unfoldable pub behind_format : ℕ → Format (Layout × Stored)
behind_format number = joined (layout_behind number) rest_format
