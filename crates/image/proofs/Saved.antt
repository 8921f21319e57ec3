-- A well-formed node has an image if all of its numbers fit into their fields and the image isn't
-- too long: that of the node as it is after a save.
use Rattle.std.proofs.Common.{◌≡◌, ℕ, suc, ◌+◌, ◌-◌, ◌<◌, ◌≤◌, ◌==◌, Bool, true, false, cond, List, [], ◌∷◌, length}
use Rattle.std.proofs.Common.{map, drop, replicate, get_or, Option, Some, None, refl, sym, ap, ◌∙◌}
use Rattle.std.proofs.Common.{arith, subst}
use Rattle.std.specs.Prelude.{option_to_list, IsTrue, Result, Ok, Err, OnOk}
use Rattle.std.specs.List.{AllByRecursion, list_all, zip, remove}
use Rattle.std.proofs.lemmas.Bool.{and_from, cond_both, eqb-false, lt-ltb, le-leb}
use Rattle.std.proofs.lemmas.List.{length-drop, length-replicate, ext_get_or, nil_from_length}
use Rattle.std.proofs.lemmas.List.Edits.{length-remove}
use Rattle.std.proofs.lemmas.List.Elements.{All-from_get_or, All-map, recursion_from_All}
use Rattle.std.proofs.lemmas.Simd.{map-map}
use Rattle.std.proofs.lemmas.Slice.Zip.{length-zip, get_or-zip, firsts-zip, seconds-zip}
use Rattle.ids.specs.Limits.{Shaped, IsShape, reference_fits}
use Rattle.ids.specs.declared.names.Ref.{Ref}
use Rattle.ids.specs.declared.limits.TheConstants.{GREATEST_NODES, GREATEST_SLOTS, GREATEST_PLACES}
use Rattle.ids.specs.declared.limits.TheConstants.{GREATEST_BYTES, GREATEST_LETTER, PLAIN_PLACES, WORD_BYTES}
use Rattle.ids.specs.declared.refusal.Refusal.{Refusal}
use Rattle.heap.specs.Heap.{slot_of}
use Rattle.model.proofs.Lookups.{get_or-replicate_any}
use Rattle.model.specs.declared.event.Letter.{Letter}
use Rattle.model.specs.State.{Object, Slot, Free, Occupied, Retired}
use Rattle.model.specs.Heaps.{no_letter}
use Rattle.model.specs.References.{IfAny, IsWithin, IsSendable, IsPlaced, no_message}
use Rattle.model.specs.Steps.{mentioned}
use Rattle.model.specs.View.{Link, NodeView, no_link, all_kept, kept_view}
use Rattle.model.specs.Shading.{filled}
use Rattle.model.specs.WellFormed.{AreLetters, IsSlotOf, AreReports}
use Rattle.msg.specs.declared.body.Body.{Body}
use Rattle.msg.specs.declared.body.Body.TheVariants as body
use Rattle.msg.specs.declared.body.Message.{Message}
use Rattle.msg.specs.declared.body.Token.{Token}
use Rattle.frames.specs.Formats.{IsFor}
use Rattle.frames.specs.declared.version.Version.{Version}
use Rattle.frames.specs.declared.version.Version.TheVariants.{Second}
use Rattle.msg.specs.Limits.{optional_fits, place_fits, body_fits}
use Rattle.node.specs.Invariant.{AllSendable, IsNode, IsStanding}
use Rattle.frames.proofs.Written.{any_colour, any_token, any_reference, any_optional, any_body}
use Rattle.codec.proofs.Growing.{each}
use Rattle.codec.specs.Formats.{number2, number4, number8, signed8, bytes4}
use Rattle.image_parts.specs.Grammar.{Fits, near, near_optional, letter_format, more_format, slot_format}
use Rattle.image_parts.specs.Grammar.{bytes_format, parts_format, parts_of, places_format, width_format}
use Rattle.image_parts.specs.Grammar.{message_format}
use Rattle.image_parts.specs.Grammar.{link_format, held_format, nodes_format, head_format}
use Rattle.image_parts.specs.Grammar.{phases_format, ring_format, front_format, told_format, slots_format}
use Rattle.image_parts.specs.Grammar.{others_format, lists_format, stored_format, front_of, told_of}
use Rattle.image_parts.specs.Grammar.{slots_of, others_of}
use Rattle.image_parts.specs.Grammar.{image_format, start_format, layout_format}
use Rattle.image_parts.specs.Layouts.{layout_for, shape_of, widths, is_wide}
use Rattle.image_parts.specs.declared.layout.Layout.{Layout}
use Rattle.image_parts.specs.declared.layout.Layout.TheVariants as layout
use Rattle.image_parts.specs.Stored.{stored_slot, stored_link, stored_links}
use Rattle.image.specs.Images.{IsTooLarge, stored_by, image_of}
use Rattle.image.proofs.Spelled.{wide_for, wide_within}
use Rattle.image.specs.Nodes.{link_of, received_of, node_of, IsImageOf}
use Rattle.image.proofs.Conditions.{standing_saved}
use Rattle.image_parts.proofs.Tagged.{object_within}
use Rattle.image_parts.proofs.Kept.{count_stored, stored_there}
use Rattle.image.proofs.Elements.{every, all_from, all_remove, put_back}

-- ---- what follows from the kind of the space

placed_for : (shape : Shaped) (b : Body) → IsPlaced shape b → IsFor shape.wide b
placed_for shape body.Begin placed = tt
placed_for shape (body.Token token) placed = tt
placed_for shape (body.Mark target) placed = tt
placed_for shape (body.Give label o) placed = tt
placed_for shape (body.Put target place o) placed = tt
placed_for shape (body.Get target place label) placed = tt
placed_for shape (body.Post label os bytes) placed = placed.0
placed_for shape (body.Fetch target label offset count) placed = placed.0
placed_for shape body.Ended placed = tt
placed_for shape body.Swept placed = tt

-- ---- within the limits

module _ (shape : Shaped) (sizes : IsShape shape) where
  reference : (r : Ref) → IsWithin shape r → IsTrue (reference_fits r)
  reference r is =
      and_from _ _ (lt-ltb r.node GREATEST_NODES (omega (arith, is.node, sizes.most_nodes)))
      (and_from _ _ (lt-ltb r.slot GREATEST_SLOTS (omega (arith, is.slot, sizes.most_slots)))
      (le-leb 1 r.generation is.generation))

  optional : (o : Option Ref) → IfAny (IsWithin shape) o → (near_optional Second).IsWithin o
  optional None is = (any_optional Second None, refl)
  optional (Some r) is = (any_optional Second (Some r), reference r is)

  optionals : (os : List (Option Ref)) → ((k : ℕ) → IfAny (IsWithin shape) (get_or os k None))
      → AllByRecursion (near_optional Second).IsWithin os
  optionals = all_from (IfAny (IsWithin shape)) None (near_optional Second).IsWithin optional

  -- ---- slots

  -- only in wide spaces objects have bytes
  all_bytes : (wide : Bool) → shape.wide ≡ wide → (bytes : List ℕ) → length bytes ≤ shape.bytes
      → (bytes_format wide).IsWithin bytes
  unfolding bytes4 number4
  all_bytes true is bytes few =
      ((tt, refl), le-leb (length bytes) GREATEST_BYTES (omega (arith, few, sizes.most_bytes)))
  all_bytes false is bytes few =
      let none = (sizes.plain is).bytes in nil_from_length bytes (omega (arith, few, none))

  one_slot : (cycle : ℕ) (s : Slot) → IsSlotOf shape cycle s
      → ((g : ℕ) (o : Object) (j : ℕ) → s ≡ Occupied g o
      → IfAny (IsWithin shape) (get_or o.places j None))
      → (slot_format shape.wide Second).IsWithin (stored_slot s)
  unfolding slot_format parts_format places_format width_format number4 number8
  one_slot cycle (Free g) is places = tt
  one_slot cycle (Occupied g o) is places =
      let each = optionals o.places (λ j. places g o j refl) in
      object_within shape.wide o.shared o.age (g, parts_of o) is.shared is.age (
        tt,
        (
          tt,
          (
            tt,
            (
              all_bytes shape.wide refl o.bytes is.bytes,
              (
                (tt, le-leb _ _ (omega (arith, is.places, sizes.most_places))),
                (refl, each),
              ),
            ),
          ),
        ),
      )
  one_slot cycle Retired is places = tt

  -- ---- messages

  any_near : (o : Option Ref) → AllByRecursion (IsWithin shape) (option_to_list o)
      → IsTrue (optional_fits o)
  any_near None is = refl
  any_near (Some r) is = reference r is.0

  all_near : (os : List (Option Ref)) → AllByRecursion (IsWithin shape) (filled os)
      → list_all optional_fits os ≡ true
  all_near [] is = refl
  all_near (None ∷ os) is = all_near os is
  all_near (Some r ∷ os) is =
      and_from (reference_fits r) (list_all optional_fits os) (reference r is.0) (all_near os is.1)

  one_place : (target : Ref) (place : ℕ) → IsWithin shape target → place < shape.places
      → IsTrue (place_fits target place)
  one_place target place is placed = and_from _ _ (reference target is)
      (lt-ltb place GREATEST_PLACES (omega (arith, placed, sizes.most_places)))

  one_body : (b : Body) → AllByRecursion (IsWithin shape) (mentioned b) → IsPlaced shape b
      → IsTrue (body_fits b)
  one_body body.Begin is placed = refl
  one_body (body.Token token) is placed = refl
  one_body (body.Mark target) is placed = reference target is.0
  one_body (body.Give label o) is placed = any_near o is
  one_body (body.Put target place o) is placed =
      and_from _ _ (one_place target place is.0 placed) (any_near o is.1)
  one_body (body.Get target place label) is placed = one_place target place is.0 placed
  one_body (body.Post label os bytes) is placed =
      and_from _ _ (le-leb (length os) GREATEST_PLACES (omega (arith, placed.1, sizes.most_places)))
      (and_from _ _ (le-leb (length bytes) GREATEST_LETTER placed.2) (all_near os is))
  one_body (body.Fetch target label offset count) is placed =
      and_from _ _ (reference target is.0)
      (le-leb (WORD_BYTES + count) GREATEST_LETTER placed.1)
  one_body body.Ended is placed = refl
  one_body body.Swept is placed = refl

  messages : (xs : List Message) → ((k : ℕ) → IsSendable shape (get_or xs k no_message))
      → AllByRecursion (message_format shape.wide Second).IsWithin xs
  unfolding message_format number8
  messages =
      all_from (IsSendable shape) no_message (message_format shape.wide Second).IsWithin
      (λ x is. (
        tt,
        (
          any_body shape.wide Second x.body (placed_for shape x.body is.place),
          one_body x.body is.references is.place,
        ),
      ))

  -- ---- letters

  -- only in wide spaces letters have several references, or bytes
  all_more : (wide : Bool) → shape.wide ≡ wide → (l : Letter)
      → (shape.wide ≡ false → (l.more ≡ 0) × (l.bytes ≡ []))
      → (more_format wide).IsWithin (l.more, l.bytes)
  unfolding bytes4 number4
  all_more true is l plain = (tt, (tt, refl))
  all_more false is l plain =
      let none = plain is in
      ap (λ (n : ℕ). (n, l.bytes)) none.0 ∙ ap (λ (b : List ℕ). (0, b)) none.1

  letters : (own : ℕ) (ls : List Letter) → AreLetters shape own ls
      → ((k : ℕ) → IfAny (IsWithin shape) (get_or ls k no_letter).reference)
      → AllByRecursion (letter_format shape.wide Second).IsWithin ls
  unfolding letter_format number4
  letters own [] are references = tt
  letters own (l ∷ ls) are references = (
    (tt, (tt, (optional l.reference (references 0), all_more shape.wide refl l are.1.1))),
    letters own ls are.2 (λ k. references (suc k)),
  )

  others : (own : ℕ) (links : List Link) (got : List ℕ) → length got ≡ length links
      → AllSendable shape links
      → AllByRecursion (link_format shape.wide Second).IsWithin
      (remove (stored_links links got) own)
  unfolding link_format number4 number8
  others own links got same is =
      let W = (link_format shape.wide Second).IsWithin in
      all_remove W (stored_links links got) own
      (All-map W stored_link (zip links got)
      (All-from_get_or (λ x. W (stored_link x)) (zip links got) (no_link, 0)
      (λ i lt.
      rw (get_or-zip links got i (no_link, 0) (omega (arith, lt, length-zip links got, same))
      (omega (arith, lt, length-zip links got, same)))
      (tt, ((tt, (refl, messages (get_or links i no_link).unacknowledged (is i))), tt)))))

-- ---- what has no limits

any_held : (o : Option Token) → held_format.IsWithin o
unfolding held_format
any_held None = tt
any_held (Some t) = any_token t

told_count : (b : Bool) (nodes : ℕ) (rs : List ℕ) → length rs ≡ nodes
    → length (cond b (drop 1 rs) []) ≡ cond b (nodes - 1) 0
told_count true nodes rs len = omega (arith, len, length-drop 1 rs)
told_count false nodes rs len = refl

-- ---- the node that the image says

slots_again : (ss : List Slot) → map slot_of (map stored_slot ss) ≡ ss
slots_again [] = refl
slots_again (Free g ∷ ss) = ap (λ (ys : List Slot). Free g ∷ ys) (slots_again ss)
slots_again (Occupied g o ∷ ss) = ap (λ (ys : List Slot). Occupied g o ∷ ys) (slots_again ss)
slots_again (Retired ∷ ss) = ap (λ (ys : List Slot). Retired ∷ ys) (slots_again ss)

reports_again : (own nodes : ℕ) (rs : List ℕ) (b : Bool) → (own == 0) ≡ b → length rs ≡ nodes
    → 0 < nodes → AreReports own rs
    → cond b (0 ∷ cond b (drop 1 rs) []) (replicate nodes 0) ≡ rs
reports_again own nodes [] true e len some is = absurd (omega (arith, len, some))
reports_again own nodes (r ∷ rs) true e len some is = ap (λ (x : ℕ). x ∷ rs) (sym is.first)
reports_again own nodes rs false e len some is =
    ext_get_or 0 (replicate nodes 0) rs (length-replicate nodes 0 ∙ sym len)
    (λ i _. get_or-replicate_any nodes i 0 ∙ sym (is.others (eqb-false own 0 e) i))

-- ---- the layout

-- the shape that the head of an image gives, in the layout of a node of the shape
shape_again : (shape : Shaped) → IsShape shape → (own : ℕ)
    → shape_of (layout_for shape) (record {
      nodes = shape.nodes;
      own = own;
      registers = shape.registers;
      slots = shape.slots;
    }) ≡ shape
shape_again shape sizes own = by shape.wide refl
  where
    by : (wide : Bool) → shape.wide ≡ wide
        → shape_of (cond wide (layout.Wide shape.places shape.bytes) layout.Second) (record {
          nodes = shape.nodes;
          own = own;
          registers = shape.registers;
          slots = shape.slots;
        }) ≡ shape
    by true is = ap (λ (b : Bool). record shape { wide = b }) (sym is)
    by false is =
        let plain = sizes.plain is in
        ap (λ (b : Bool). record shape { wide = b; places = PLAIN_PLACES; bytes = 0 }) (sym is)
        ∙ ap (λ (p : ℕ). record shape { places = p; bytes = 0 }) (sym plain.places)
        ∙ ap (λ (b : ℕ). record shape { bytes = b }) (sym plain.bytes)

pub widths_for : (shape : Shaped) → widths (layout_for shape) ≡ Second
widths_for shape =
    cond_both shape.wide (layout.Wide shape.places shape.bytes) layout.Second
    (λ (l : Layout). widths l ≡ Second)
    (λ _. refl) (λ _. refl)

started : (l : Layout) → start_format.IsWithin l
unfolding start_format layout_format number4
started layout.First = ((tt, (tt, tt)), refl)
started layout.Second = ((tt, (tt, tt)), refl)
started (layout.Wide places bytes) = ((tt, (tt, (tt, tt))), refl)

-- ---- the node

module _ (n : NodeView) (is : IsNode n) where
  same_width : length n.local.got ≡ length n.links
  same_width = is.links.links.received

  own_inside : n.local.own < length n.links
  own_inside =
      let width = is.links.width in
      omega (arith, is.own, width)

  -- the layout in which it is written
  abbrev layout_of : Layout
  layout_of = layout_for n.local.shape

  node_again : node_of layout_of (stored_by n) ≡ kept_view n
  node_again =
      let p = n.local in
      let xs = stored_links n.links p.got in
      let inside : p.own < length xs =
      omega (arith, own_inside, count_stored n.links p.got same_width) in
      let there = stored_there n.links p.got p.own
      (stored_link (no_link, 0)) own_inside same_width in
      let slots = slots_again p.heap.slots in
      let links =
      put_back link_of p.own xs (stored_link (no_link, 0)) no_link inside
      (ap link_of there ∙ ap all_kept is.links.timely.unused)
      ∙ map-map link_of stored_link (zip n.links p.got)
      ∙ sym (map-map all_kept (λ (x : Link × ℕ). x.0) (zip n.links p.got))
      ∙ ap (map all_kept) (firsts-zip n.links p.got same_width) in
      let got =
      put_back received_of p.own xs (stored_link (no_link, 0)) 0 inside
      (ap received_of there ∙ is.links.timely.unheard)
      ∙ map-map received_of stored_link (zip n.links p.got)
      ∙ seconds-zip n.links p.got same_width in
      let reports =
      reports_again p.own p.shape.nodes p.phases.reports (p.own == 0) refl is.phases.reports
      (omega (arith, is.own)) is.phases.heard in
      rw (slots, links, got, reports)
      (ap (λ (z : Shaped). record (kept_view n) { local = record p { shape = z } })
      (shape_again p.shape is.shape p.own))

  sized : (front_format Second).IsWithin (front_of (stored_by n))
  unfolding front_format head_format nodes_format phases_format ring_format number2 number4 number8
      signed8
  sized =
      let ring = n.local.ring in
      let placed = and_from _ _ (lt-ltb _ _ is.own) (le-leb _ _ is.shape.most_nodes) in (
        (((tt, tt), placed), (tt, tt)),
        ((tt, (tt, (tt, tt))), (any_colour ring.colour, (tt, (tt, any_held ring.token)))),
      )

  listed : (lists_format n.local.shape.wide Second (front_of (stored_by n))).IsWithin
      (told_of (stored_by n), (slots_of (stored_by n), others_of (stored_by n)))
  unfolding lists_format told_format slots_format others_format number4 number8
  listed =
      let p = n.local in
      let heap = p.heap in
      let told = told_count (p.own == 0) p.shape.nodes p.phases.reports is.phases.reports in
      let reports = every number8.IsWithin (λ _. tt) (stored_by n).reports in
      let registers = optionals p.shape is.shape heap.registers is.references.registers in
      let W = (slot_format p.shape.wide Second).IsWithin in
      let slots : AllByRecursion W (map stored_slot heap.slots) =
      recursion_from_All W _ (All-map W stored_slot heap.slots
      (All-from_get_or (λ s. W (stored_slot s)) heap.slots Retired (λ k _.
      one_slot p.shape is.shape p.phases.cycle (get_or heap.slots k Retired)
      (is.stocked.slots k) (is.references.places k)))) in
      let free = every number4.IsWithin (λ _. tt) heap.free in
      let grey = every number4.IsWithin (λ _. tt) heap.grey in
      let asked =
      each (IsWithin p.shape) (near Second).IsWithin
      (λ r within. (any_reference Second r, reference p.shape is.shape r within)) p.asked
      is.asked.within in
      let waiting =
      letters p.shape is.shape p.own heap.letters is.stocked.letters is.references.letters in
      let width : length (remove (stored_links n.links p.got) p.own) ≡ p.shape.nodes - 1 = omega (
        arith,
        own_inside,
        is.links.width,
        count_stored n.links p.got same_width,
        length-remove (stored_links n.links p.got) p.own,
      ) in
      let links = others p.shape is.shape p.own n.links p.got same_width is.links.messages in (
        ((told, reports), (is.stocked.registers, registers)),
        (
          ((tt, (refl, slots)), ((tt, (refl, free)), (tt, (refl, grey)))),
          ((tt, (refl, asked)), ((tt, (refl, waiting)), (width, links))),
        ),
      )

  fits : image_format.IsWide (layout_of, stored_by n) → Fits layout_of (stored_by n)
  unfolding image_format stored_format
  fits wide = record {
    wide = wide;
    within = (
      started layout_of,
      subst (λ (v : Version). (stored_format (is_wide layout_of) v).IsWithin (stored_by n))
          (sym (widths_for n.local.shape))
          (subst (λ (w : Bool). (stored_format w Second).IsWithin (stored_by n))
          (sym (wide_for n.local.shape)) (sized, listed)),
    );
  }

  -- what was written within the limit
  pub is_saved : {V is_open : Type 0} (r : Result V Refusal) → IsStanding (kept_view n)
      → OnOk r is_open → (is_open → image_format.IsWide (layout_of, stored_by n))
      → OnOk r (IsTooLarge n → ⊥)
      → OnOk r (IsImageOf (image_of n) (kept_view n))
  is_saved (Ok v) stands opened wide short = record {
    layout = layout_of;
    spelled = record {
      says = stored_by n;
      image = record {
        fits = fits (wide opened);
        spelled = refl;
        within = wide_within n short;
      };
      node = node_again;
    };
    saved = standing_saved (kept_view n) stands;
  }
  is_saved (Err e) stands opened wide short = tt
