-- The formats of the parts of an image are sound. What the first version spells of a part, the
-- second one spells too.
use Rattle.std.proofs.Common.{zero-le, suc-le-suc}
use Rattle.std.proofs.Common.{◌≡◌, ◌<◌, ℕ, List, [], ◌∷◌, ◌++◌, length, Some, true, false, refl, sym, ap, subst, ◌∙◌}
use Rattle.std.proofs.Common.{arith}
use Rattle.std.proofs.lemmas.Option.{same_Some}
use Rattle.std.proofs.lemmas.Bool.{and_parts, and_from, eqb-true, le-leb, leb-true}
use Rattle.std.specs.Prelude.{Bool, ◌&&◌, nat_lt, nat_le}
use Rattle.codec.specs.Formats.{Format, Fits, byte, number4, number8, nothing, counted, ◌&◌}
use Rattle.codec.specs.Lengths.{number4_long, number8_long}
use Rattle.codec.specs.Reading.{IsBytes, IsSound, IsLong, Took}
use Rattle.codec.proofs.Laws.{nothing_sound, mapped_sound, joined_sound, ◌⊗◌, kept_sound, ◌⊕◌, found}
use Rattle.codec.proofs.Laws.{tagged_takes, IsFound, made_again, option_sound, many_sound, counted_sound}
use Rattle.codec.proofs.Numbers.{byte_sound, number2_sound, number4_sound, number8_sound}
use Rattle.codec.proofs.Numbers.{signed8_sound}
use Rattle.codec.proofs.Runs.{bytes4_sound}
use Rattle.codec.proofs.Growing.{Later, Grows, same, mapped_grows, joined_grows, ◌⊛◌, kept_grows}
use Rattle.codec.proofs.Growing.{many_grows, counted_grows}
use Rattle.ids.specs.declared.limits.TheConstants.{FIRST_VERSION_NODES, GREATEST_NODES}
use Rattle.frames.specs.declared.version.Version.{Version}
use Rattle.frames.specs.declared.version.Version.TheVariants.{First, Second}
use Rattle.frames.specs.Formats.{generation}
use Rattle.frames.proofs.Formats.{any, generation_grows, reference_grows, optional_grows}
use Rattle.frames.proofs.Formats.{body_grows, colour_sound, token_sound}
use Rattle.frames.specs.Lengths.{reference_long, optional_long}
use Rattle.arena_slot.specs.declared.Slot.TheVariants as slot
use Rattle.model.specs.declared.age.Age.{Age}
use Rattle.model.specs.declared.age.Age.TheVariants.{Young, Remembered, Old}
use Rattle.image_parts.specs.Links.{StoredSlot}
use Rattle.image_parts.specs.Layouts.{widths, is_wide}
use Rattle.image_parts.specs.declared.layout.Layout.{Layout}
use Rattle.image_parts.specs.declared.layout.Layout.TheVariants as layout
use Rattle.image_parts.specs.Grammar.{layouts, layout_format, Start, is_start, start_format, most_nodes}
use Rattle.image_parts.specs.Grammar.{nodes_format, head_format}
use Rattle.image_parts.specs.Grammar.{phases_format, held_format, ring_format, near, near_optional}
use Rattle.image_parts.specs.Grammar.{near_body, width_format, places_format, always, bytes_format, more_format}
use Rattle.image_parts.specs.Grammar.{Parts, parts_of, object_of, parts_format, occupied, only_wide_at}
use Rattle.image_parts.specs.Grammar.{kind_tag, object_tag}
use Rattle.image_parts.specs.Grammar.{occupied_at, slots_at, slot_format, letter_format, message_format}
use Rattle.image_parts.specs.Grammar.{link_format, reports_told, links_told, Front, front_format}
use Rattle.image_parts.specs.Grammar.{told_format, slots_format, others_format, lists_format, stored}
use Rattle.image_parts.specs.Grammar.{stored_format, rest_format, image_format}

-- ---- the start

layout_again : (l : Layout) (rest : List ℕ) → Fits layout_format l
    → layout_format.read (layout_format.spell l ++ rest) ≡ Some (l, rest)
unfolding layout_format
layout_again layout.First rest fits = refl
layout_again layout.Second rest fits = refl
layout_again (layout.Wide places bytes) rest fits =
    made_again (byte & number4) (λ x. layout.Wide x.0 x.1) (byte_sound ⊗ number4_sound)
    (places, bytes) rest fits.wide fits.within

layout_sound : IsSound layout_format
unfolding layout_format
layout_sound = record {
  takes = tagged_takes layout_format layouts (
      found nothing layout_format 1 (λ _. layout.First) nothing_sound
      (λ _. refl) (λ _ w. w) (λ _ w. w)
      ⊕ found nothing layout_format 2 (λ _. layout.Second) nothing_sound
      (λ _. refl) (λ _ w. w) (λ _ w. w)
      ⊕ found (byte & number4) layout_format 4 (λ x. layout.Wide x.0 x.1)
      (byte_sound ⊗ number4_sound) (λ _. refl) (λ _ w. w) (λ _ w. w)
      ⊕ tt
      );
  again = layout_again;
}

is_start_is : (x : Start) → is_start x ≡ true → x ≡ (0x4D, (0x52, x.1.1))
is_start_is x h =
    let a = and_parts _ _ h in
    ap (λ (n : ℕ). (n, x.1)) (eqb-true _ _ a.0)
    ∙ ap (λ (n : ℕ). (0x4D, (n, x.1.1))) (eqb-true _ _ a.1)

start_sound : IsSound start_format
unfolding start_format
start_sound =
    mapped_sound _ _ _ (kept_sound _ is_start (byte_sound ⊗ byte_sound ⊗ layout_sound))
    (λ a fits. sym (is_start_is a fits.within.1)) (λ v. refl)

-- ---- each value of a list has at least one byte

object_long : (wide shared : Bool) (age : Age) (v : Version) (x : ℕ × Parts)
    → 0 < length (object_tag wide shared age v x).bytes
object_long true shared age v x = suc-le-suc zero-le
object_long false shared age v x = suc-le-suc zero-le

pub slot_long : (wide : Bool) (v : Version) → IsLong (slot_format wide v)
unfolding slot_format
slot_long wide v (slot.Free generation) = suc-le-suc zero-le
slot_long wide v (slot.Occupied generation object) =
    object_long wide object.shared object.age v (generation, parts_of object)
slot_long wide v slot.Retired = suc-le-suc zero-le

pub letter_long : (wide : Bool) (v : Version) → IsLong (letter_format wide v)
unfolding letter_format
letter_long wide v l = suc-le-suc zero-le

pub message_long : (wide : Bool) (v : Version) → IsLong (message_format wide v)
unfolding message_format number8
message_long wide v m = suc-le-suc zero-le

pub link_long : (wide : Bool) (v : Version) → IsLong (link_format wide v)
unfolding link_format number8
link_long wide v l = suc-le-suc zero-le

-- ---- what the lists contain

near_grows : Grows (near First) (near Second)
near_grows = kept_grows _ _ reference_grows (λ _ is. is)

near_optional_grows : Grows (near_optional First) (near_optional Second)
near_optional_grows = kept_grows _ _ optional_grows (λ _ is. is)

near_body_grows : (wide : Bool) → Grows (near_body wide First) (near_body wide Second)
near_body_grows wide = kept_grows _ _ (body_grows wide) (λ _ is. is)

module _ {A : Type 0} (a : A) where
  always_takes : (bytes : List ℕ) (x : A × List ℕ) → IsBytes bytes
      → (always a).read bytes ≡ Some x → Took (always a) bytes x
  always_takes bytes x are e =
      subst (Took (always a) bytes) {x = (a, bytes)} (same_Some (a, bytes) x e)
      (record { parts = refl; rest = are; fits = record { wide = tt; within = refl } })

  always_sound : IsSound (always a)
  always_sound = record {
    takes = always_takes;
    again = λ x rest fits. ap (λ (b : A). Some (b, rest)) (sym fits.within);
  }

bytes_sound : (wide : Bool) → IsSound (bytes_format wide)
bytes_sound true = kept_sound _ _ bytes4_sound
bytes_sound false = always_sound []

more_sound : (wide : Bool) → IsSound (more_format wide)
more_sound true = byte_sound ⊗ bytes4_sound
more_sound false = always_sound (0, [])

-- ---- slots, of a wide space or a plain one

module _ (wide : Bool) where
  parts_grows : Grows (parts_format wide First) (parts_format wide Second)
  unfolding parts_format places_format width_format
  parts_grows =
      same number8_sound ⊛ same number8_sound ⊛ same (bytes_sound wide)
      ⊛ counted_grows near_optional_grows (optional_long First) (optional_long Second) _
      (kept_sound _ _ byte_sound)

  occupied_grows : Grows (occupied wide First) (occupied wide Second)
  occupied_grows = generation_grows ⊛ parts_grows

  occupied_sound : (v : Version) → IsSound (occupied wide v)
  occupied_sound v = any (occupied wide) occupied_grows v

abbrev object_slot : Bool → Age → ℕ × Parts → StoredSlot
object_slot shared age x = slot.Occupied x.0 (object_of shared age x.1)

-- in a wide space: the reader of an object of this kind is found by its tag
wide_again : (shared : Bool) (age : Age) (v : Version) (rest : List ℕ)
    → (slot_format true v).read (kind_tag shared age ∷ rest)
    ≡ occupied_at true v shared age rest
unfolding slot_format
wide_again true Old v rest = refl
wide_again false Old v rest = refl
wide_again false Young v rest = refl
wide_again false Remembered v rest = refl
wide_again true Young v rest = refl
wide_again true Remembered v rest = refl

object_again : (wide shared : Bool) (age : Age) (v : Version) (x : ℕ × Parts) (rest : List ℕ)
    → Fits (slot_format wide v) (object_slot shared age x)
    → (slot_format wide v).read ((slot_format wide v).spell (object_slot shared age x) ++ rest)
    ≡ Some (object_slot shared age x, rest)
unfolding slot_format occupied_at
object_again true shared age v x rest fits =
    wide_again shared age v ((occupied true v).spell x ++ rest)
    ∙ made_again (occupied true v) (object_slot shared age) (occupied_sound true v) x rest
    fits.wide fits.within
object_again false true Old v x rest fits =
    made_again (occupied false v) (object_slot true Old) (occupied_sound false v) x rest
    fits.wide fits.within.1
object_again false true Young v x rest fits = absurd fits.within.0
object_again false true Remembered v x rest fits = absurd fits.within.0
object_again false false age v x rest fits = absurd fits.within.0

old_found : (wide : Bool) (v : Version)
    → IsFound (slot_format wide v) (1, occupied_at wide v true Old)
unfolding slot_format occupied_at
old_found true v =
    found (occupied true v) (slot_format true v) 1 (object_slot true Old) (occupied_sound true v)
    (λ _. refl) (λ _ w. w) (λ _ w. w)
old_found false v =
    found (occupied false v) (slot_format false v) 1 (object_slot true Old)
    (occupied_sound false v) (λ _. refl) (λ _ w. w) (λ _ w. (tt, w))

wide_found : (wide shared : Bool) (age : Age) (v : Version)
    → IsFound (slot_format wide v) (kind_tag shared age, only_wide_at wide v shared age)
unfolding slot_format occupied_at
wide_found true shared age v =
    found (occupied true v) (slot_format true v) (kind_tag shared age) (object_slot shared age)
    (occupied_sound true v) (λ _. refl) (λ _ w. w) (λ _ w. w)
wide_found false shared age v = λ bytes x are e. absurd cc

object_later : (wide shared : Bool) (age : Age) (x : ℕ × Parts)
    → Later (slot_format wide First) (slot_format wide Second) (object_slot shared age x)
unfolding slot_format
object_later true shared age x = (occupied_grows true).later x
object_later false shared age x =
    let later = (occupied_grows false).later x in (later.0, λ w. (w.0, later.1 w.1))

module _ (wide : Bool) where
  slot_again : (v : Version) (x : StoredSlot) (rest : List ℕ) → Fits (slot_format wide v) x
      → (slot_format wide v).read ((slot_format wide v).spell x ++ rest) ≡ Some (x, rest)
  unfolding slot_format occupied_at
  slot_again v (slot.Free g) rest fits =
      made_again (generation v) slot.Free (any generation generation_grows v) g rest fits.wide
      fits.within
  slot_again v (slot.Occupied g o) rest fits =
      object_again wide o.shared o.age v (g, parts_of o) rest fits
  slot_again v slot.Retired rest fits = refl

  slot_sound : (v : Version) → IsSound (slot_format wide v)
  unfolding slot_format occupied_at
  slot_sound v =
      let F = slot_format wide v in
      record {
        takes = tagged_takes F (slots_at wide v) (
            found (generation v) F 0 slot.Free (any generation generation_grows v)
            (λ _. refl) (λ _ w. w) (λ _ w. w)
            ⊕ old_found wide v
            ⊕ found nothing F 2 (λ _. slot.Retired) nothing_sound (λ _. refl) (λ _ w. w) (λ _ w. w)
            ⊕ wide_found wide false Old v
            ⊕ wide_found wide false Young v
            ⊕ wide_found wide false Remembered v
            ⊕ wide_found wide true Young v
            ⊕ wide_found wide true Remembered v
            ⊕ tt
            );
        again = slot_again v;
      }

  slot_later : (x : StoredSlot) → Later (slot_format wide First) (slot_format wide Second) x
  unfolding slot_format
  slot_later (slot.Free g) = generation_grows.later g
  slot_later (slot.Occupied g o) = object_later wide o.shared o.age (g, parts_of o)
  slot_later slot.Retired = (λ is. is, λ is. is)

  slot_grows : Grows (slot_format wide First) (slot_format wide Second)
  slot_grows = record { first = slot_sound First; second = slot_sound Second; later = slot_later }

-- ---- letters, messages and links

letter_grows : (wide : Bool) → Grows (letter_format wide First) (letter_format wide Second)
unfolding letter_format
letter_grows wide =
    mapped_grows _ _
    (same byte_sound ⊛ same number4_sound ⊛ near_optional_grows ⊛ same (more_sound wide))
    (λ _. refl) (λ _. refl)

message_grows : (wide : Bool) → Grows (message_format wide First) (message_format wide Second)
unfolding message_format
message_grows wide =
    mapped_grows _ _ (same number8_sound ⊛ near_body_grows wide) (λ _. refl) (λ _. refl)

-- how many there are, and each of them
all : {A : Type 0} (F : Version → Format A) → Grows (F First) (F Second)
    → ((v : Version) → IsLong (F v)) → Grows (counted number4 (F First))
    (counted number4 (F Second))
all F g long = counted_grows g (long First) (long Second) number4 number4_sound

link_grows : (wide : Bool) → Grows (link_format wide First) (link_format wide Second)
unfolding link_format
link_grows wide =
    mapped_grows _ _
    (same number8_sound ⊛ all (message_format wide) (message_grows wide) (message_long wide)
    ⊛ same number8_sound)
    (λ _. refl) (λ _. refl)

-- ---- the whole

phases_sound : IsSound phases_format
unfolding phases_format
phases_sound =
    mapped_sound _ _ _ (number8_sound ⊗ number8_sound ⊗ number8_sound ⊗ number4_sound)
    (λ a fits. refl) (λ p. refl)

ring_sound : IsSound ring_format
unfolding ring_format held_format
ring_sound =
    mapped_sound _ _ _ (colour_sound ⊗ signed8_sound ⊗ signed8_sound ⊗ option_sound _ token_sound)
    (λ a fits. refl) (λ r. refl)

abbrev are_nodes : Version → ℕ × ℕ → Bool
are_nodes v p = nat_lt p.1 p.0 && nat_le p.0 (most_nodes v)

more_nodes : (p : ℕ × ℕ) → are_nodes First p ≡ true → are_nodes Second p ≡ true
more_nodes p is =
    let both = and_parts (nat_lt p.1 p.0) (nat_le p.0 FIRST_VERSION_NODES) is in
    and_from _ _ both.0 (le-leb p.0 GREATEST_NODES (omega (arith, leb-true p.0 _ both.1)))

front_grows : Grows (front_format First) (front_format Second)
unfolding front_format head_format nodes_format
front_grows =
    let nodes = kept_grows (are_nodes First) (are_nodes Second) (same (byte_sound ⊗ byte_sound))
    more_nodes in
    mapped_grows _ _ (nodes ⊛ same number2_sound ⊛ same number4_sound) (λ _. refl) (λ _. refl)
    ⊛ same phases_sound ⊛ same ring_sound

lists_grows : (wide : Bool) (f : Front)
    → Grows (lists_format wide First f) (lists_format wide Second f)
unfolding lists_format told_format slots_format others_format
lists_grows wide f =
    let numbers = counted_sound number4 number4_sound number4_long number4 number4_sound in
    (same (many_sound number8 number8_sound number8_long (reports_told f.0))
    ⊛ many_grows near_optional_grows (optional_long First) (optional_long Second) f.0.registers)
    ⊛ (all (slot_format wide) (slot_grows wide) (slot_long wide) ⊛ same numbers ⊛ same numbers)
    ⊛ all near near_grows reference_long
    ⊛ all (letter_format wide) (letter_grows wide) (letter_long wide)
    ⊛ many_grows (link_grows wide) (link_long wide First) (link_long wide Second) (links_told f.0)

pub stored_grows : (wide : Bool) → Grows (stored_format wide First) (stored_format wide Second)
unfolding stored_format
stored_grows wide =
    mapped_grows stored _ (joined_grows front_grows (lists_grows wide)) (λ _. refl) (λ _. refl)

pub image_sound : IsSound image_format
unfolding image_format
image_sound =
    joined_sound start_format rest_format start_sound
    (λ l. any (stored_format (is_wide l)) (stored_grows (is_wide l)) (widths l))
