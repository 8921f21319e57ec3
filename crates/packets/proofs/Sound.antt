-- The formats are sound.
use Rattle.std.proofs.Common.{ℕ, Bool, refl, sym, ap}
use Rattle.std.specs.Prelude.{◌==◌, ◌&&◌}
use Rattle.std.proofs.lemmas.Bool.{eqb-true, and_parts}
use Rattle.codec.specs.Formats.{Format}
use Rattle.codec.specs.Reading.{IsSound}
use Rattle.codec.proofs.Laws.{mapped_sound, kept_sound, ◌⊗◌}
use Rattle.codec.proofs.Numbers.{byte_sound, number2_sound, number4_sound, number8_sound, signed8_sound}
use Rattle.packets.specs.Formats.{marked, process_format, packet_fields, packet_format, is_packet_head}
use Rattle.packets.specs.Formats.{request_fields, request_format, answer_fields, head_format}
use Rattle.packets.specs.Formats.{event_format, reference_format, answer_format, result_format}
use Rattle.packets.specs.Formats.{freed_format, object_format}
use Rattle.packets.proofs.Lengths.{length_sound}

-- what is behind a mark
marked_sound : {A : Type 0} (mark : ℕ) (F : Format A) (test : A → Bool) → IsSound F
    → IsSound (marked mark F test)
marked_sound mark F test sound =
    mapped_sound _ _ _ (kept_sound _ (λ x. x.0 == mark && test x.1) (number4_sound ⊗ sound))
    (λ a fits.
    ap (λ (m : ℕ). (m, a.1)) (sym (eqb-true _ _ (and_parts _ _ fits.within.1).0)))
    (λ a. refl)

process_sound : IsSound process_format
unfolding process_format
process_sound =
    mapped_sound _ _ _ (number8_sound ⊗ number8_sound ⊗ number8_sound) (λ _ _. refl) (λ _. refl)

pub packet_sound : IsSound packet_format
unfolding packet_format packet_fields
packet_sound =
    marked_sound _ _ is_packet_head
    (mapped_sound _ _ _
    ((number8_sound ⊗ byte_sound ⊗ byte_sound ⊗ process_sound) ⊗ number8_sound ⊗ number8_sound
    ⊗ number4_sound ⊗ byte_sound ⊗ number8_sound)
    (λ _ _. refl) (λ _. refl))

pub request_sound : IsSound request_format
unfolding request_format request_fields
request_sound =
    marked_sound _ _ _
    (mapped_sound _ _ _
    (byte_sound ⊗ byte_sound ⊗ number8_sound ⊗ number8_sound ⊗ number2_sound)
    (λ _ _. refl) (λ _. refl))

pub head_sound : IsSound head_format
unfolding head_format answer_fields
head_sound =
    marked_sound _ _ _
    (mapped_sound _ _ _
    ((byte_sound ⊗ byte_sound ⊗ number8_sound ⊗ number8_sound) ⊗ byte_sound ⊗ number8_sound
    ⊗ number8_sound ⊗ (byte_sound ⊗ byte_sound ⊗ number2_sound ⊗ number4_sound)
    ⊗ number2_sound)
    (λ _ _. refl) (λ _. refl))

pub event_sound : IsSound event_format
unfolding event_format
event_sound =
    mapped_sound _ _ _
    (byte_sound ⊗ byte_sound ⊗ byte_sound ⊗ number2_sound ⊗ number2_sound ⊗ number2_sound
    ⊗ number4_sound ⊗ number4_sound ⊗ number8_sound)
    (λ _ _. refl) (λ _. refl)

pub reference_sound : IsSound reference_format
unfolding reference_format
reference_sound =
    mapped_sound _ _ _ (byte_sound ⊗ number4_sound ⊗ number8_sound) (λ _ _. refl) (λ _. refl)

answer_sound : IsSound answer_format
unfolding answer_format
answer_sound =
    mapped_sound _ _ _
    (byte_sound ⊗ byte_sound ⊗ byte_sound ⊗ byte_sound ⊗ number4_sound ⊗ number4_sound
    ⊗ number8_sound ⊗ signed8_sound ⊗ reference_sound)
    (λ _ _. refl) (λ _. refl)

pub result_sound : IsSound result_format
unfolding result_format
result_sound = number2_sound ⊗ answer_sound

pub freed_sound : IsSound freed_format
unfolding freed_format
freed_sound = mapped_sound _ _ _ (reference_sound ⊗ number8_sound) (λ _ _. refl) (λ _. refl)

pub object_sound : IsSound object_format
unfolding object_format
object_sound =
    mapped_sound _ _ _
    (reference_sound ⊗ number8_sound ⊗ number4_sound ⊗ byte_sound ⊗ byte_sound ⊗ byte_sound
    ⊗ byte_sound)
    (λ _ _. refl) (λ _. refl)

pub ruleset sounds = (
  packet_sound,
  request_sound,
  head_sound,
  event_sound,
  reference_sound,
  result_sound,
  freed_sound,
  object_sound,
  length_sound,
)
