-- The image of a new node is short.
use Rattle.std.proofs.Common.{◌≡◌, ◌∙◌, ◌≢◌, ℕ, zero, suc, ◌+◌, ◌*◌, ◌≤◌, ◌==◌, if◌then◌else◌, Bool, true, false, List, [], ◌∷◌, length, drop, replicate, None, refl, ap, arith}
use Rattle.std.specs.List.{flat_map, remove}
use Rattle.codec.specs.Formats.{number2, number4, number8, signed8}
use Rattle.std.proofs.lemmas.List.{length-append, length-drop, length-replicate}
use Rattle.ids.specs.Limits.{Shaped, IsShape}
use Rattle.ids.specs.declared.limits.TheConstants.{GREATEST_IMAGE}
use Rattle.ids.specs.declared.refusal.Refusal.{Refusal}
use Rattle.ids.specs.declared.refusal.Refusal.TheVariants.{Memory, ImageTooLarge}
use Rattle.frames.specs.declared.version.Version.{Version}
use Rattle.frames.specs.declared.version.Version.TheVariants.{Second}
use Rattle.frames.specs.Formats.{reference, optional, colour}
use Rattle.model.specs.View.{no_link, new_view}
use Rattle.image_parts.specs.Links.{StoredLink}
use Rattle.image_parts.specs.Layouts.{layout_for, widths, is_wide}
use Rattle.image_parts.specs.declared.layout.Layout.{Layout}
use Rattle.image_parts.specs.declared.layout.Layout.TheVariants as layout
use Rattle.image_parts.specs.Grammar.{Stored, spelling, layout_format, start_format, image_format}
use Rattle.image_parts.specs.Grammar.{stored_format, lists_format, told_format, slots_format}
use Rattle.image_parts.specs.Grammar.{others_format, slot_format, letter_format, link_format}
use Rattle.image_parts.specs.Grammar.{front_format, front_of, nodes_format, head_format, phases_format}
use Rattle.image_parts.specs.Grammar.{ring_format, held_format}
use Rattle.image_parts.specs.Stored.{stored_link, stored_links}
use Rattle.image.specs.Images.{image_of, stored_by, IsTooLarge}
use Rattle.image.proofs.Saved.{widths_for}
use Rattle.image.proofs.Spelled.{wide_for}
use Rattle.model.proofs.Refusals.{memory-alone}

-- ---- its length

four : (n : ℕ) → length (number4.spell n) ≡ 4
unfolding number4
four n = refl

start_length : (l : Layout) → length (start_format.spell l) ≤ 8
unfolding start_format layout_format number4
start_length layout.First = omega arith
start_length layout.Second = omega arith
start_length (layout.Wide places bytes) = omega arith

-- the part before the lists, and each of the lists
stored_length : (wide : Bool) (s : Stored) → length ((stored_format wide Second).spell s)
    ≡ length ((front_format Second).spell (front_of s)) + 20
    + (length (flat_map number8.spell s.reports)
    + length (flat_map (optional Second).spell s.registers))
    + (length (flat_map (slot_format wide Second).spell s.slots)
    + length (flat_map number4.spell s.free)
    + length (flat_map number4.spell s.grey))
    + (length (flat_map (reference Second).spell s.asked)
    + length (flat_map (letter_format wide Second).spell s.letters)
    + length (flat_map (link_format wide Second).spell s.links))
unfolding stored_format lists_format told_format slots_format others_format
stored_length wide s =
    simp length-append (omega (
      arith,
      four (length s.slots),
      four (length s.free),
      four (length s.grey),
      four (length s.asked),
      four (length s.letters),
    ))

spelling_length : (shape : Shaped) (s : Stored)
    → length (spelling (layout_for shape) s)
    ≤ 8 + length ((stored_format shape.wide Second).spell s)
unfolding spelling image_format
spelling_length shape s =
    let l = layout_for shape in
    let both =
    length-append (start_format.spell l) ((stored_format (is_wide l) (widths l)).spell s) in
    let same =
    ap (λ (v : Version). length ((stored_format (is_wide l) v).spell s)) (widths_for shape)
    ∙ ap (λ (w : Bool). length ((stored_format w Second).spell s)) (wide_for shape) in
    omega (arith, both, same, start_length l)

all-reports : (ns : List ℕ) → length (flat_map number8.spell ns) ≡ 8 * length ns
unfolding number8
all-reports [] = refl
all-reports (n ∷ ns) =
    let this = length-append (number8.spell n) (flat_map number8.spell ns) in
    omega (arith, this, all-reports ns)

empty-registers : (n : ℕ) → length (flat_map (optional Second).spell (replicate n None)) ≡ n
unfolding optional
empty-registers zero = refl
empty-registers (suc n) = ap (λ k. suc k) (empty-registers n)

abbrev new_links : ℕ → List StoredLink
new_links n = stored_links (replicate n no_link) (replicate n 0)

empty-links : (wide : Bool) (n : ℕ)
    → length (flat_map (link_format wide Second).spell (new_links n)) ≡ 20 * n
unfolding link_format number4 number8
empty-links wide zero = refl
empty-links wide (suc n) =
    let this = length-append ((link_format wide Second).spell (stored_link (no_link, 0)))
    (flat_map (link_format wide Second).spell (new_links n))
    in omega (arith, this, empty-links wide n)

-- the links to other nodes
other-links : (wide : Bool) (own n : ℕ)
    → length (flat_map (link_format wide Second).spell (remove (new_links n) own)) ≤ 20 * n
unfolding link_format number4 number8
other-links wide zero zero = omega arith
other-links wide (suc own) zero = omega arith
other-links wide zero (suc n) = omega (arith, empty-links wide n)
other-links wide (suc own) (suc n) =
    let this = length-append ((link_format wide Second).spell (stored_link (no_link, 0)))
    (flat_map (link_format wide Second).spell (remove (new_links n) own)) in
    omega (arith, this, other-links wide own n)

new-reports : (b : Bool) (n : ℕ)
    → length (flat_map number8.spell (if b then drop 1 (replicate n 0) else [])) ≤ 8 * n
new-reports false n = omega arith
new-reports true n =
    let zeros : List ℕ = replicate n 0 in
    let all = all-reports (drop 1 zeros) in
    omega (arith, all, length-drop 1 zeros, length-replicate {A = ℕ} n 0)

new-front : (shape : Shaped) (own : ℕ)
    → length ((front_format Second).spell (front_of (stored_by (new_view shape own)))) ≡ 54
unfolding front_format head_format nodes_format phases_format ring_format held_format colour signed8
    number2 number4 number8
new-front shape own = refl

pub new-within : (shape : Shaped) (own : ℕ) → IsShape shape
    → length (image_of (new_view shape own)) ≤ GREATEST_IMAGE
new-within shape own h =
    let s : Stored = stored_by (new_view shape own) in
    omega (
      arith,
      h.most_nodes,
      h.most_registers,
      spelling_length shape s,
      stored_length shape.wide s,
      new-front shape own,
      new-reports (own == 0) shape.nodes,
      empty-registers shape.registers,
      other-links shape.wide own shape.nodes,
    )

-- so saving it fails only for lack of memory
pub new-starved : (shape : Shaped) (own : ℕ) (e : Refusal) → IsShape shape
    → (e ≢ Memory
    → (e ≡ ImageTooLarge) × IsTooLarge (new_view shape own))
    → e ≡ Memory
new-starved shape own e h size =
    memory-alone e (λ other. omega (arith, new-within shape own h, (size other).1.1))
