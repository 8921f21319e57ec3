-- Bytes spell one node, and a node has one spelling, which says the node as it is after a save.
use Rattle.std.proofs.Common.{◌≡◌, ◌≤◌, ◌++◌, ℕ, List, [], length, ap, ◌∙◌, zero, suc, ◌-◌, ◌==◌, Bool}
use Rattle.std.proofs.Common.{lit<, true, false, replicate, cond, ◌∷◌, map, drop, refl, sym, subst, arith}
use Rattle.std.specs.List.{insert, remove}
use Rattle.std.proofs.lemmas.List.{append-nil, nil_from_length}
use Rattle.std.proofs.lemmas.Bool.{cond_both}
use Rattle.std.proofs.lemmas.Simd.{map-map}
use Rattle.ids.specs.Limits.{Shaped}
use Rattle.image_parts.specs.Layouts.{IsTooLong, is_wide, layout_for, shape_of}
use Rattle.image_parts.specs.declared.layout.Layout.{Layout}
use Rattle.image_parts.specs.declared.layout.Layout.TheVariants as layout
use Rattle.model.specs.View.{Link, NodeView, no_link, all_kept, kept_view}
use Rattle.heap.specs.Heap.{slot_of}
use Rattle.image_parts.specs.Grammar.{Stored, Fits, spelling, image_format, start_format, layout_format}
use Rattle.image_parts.specs.Links.{StoredLink, StoredSlot}
use Rattle.image_parts.specs.Stored.{stored_slot, stored_links}
use Rattle.image_parts.proofs.Formats.{stored_grows}
use Rattle.image_parts.proofs.Kept.{stored_back}
use Rattle.image_parts.proofs.Readings.{own_below, reports_count, links_count}
use Rattle.image_parts.proofs.Readings.{no_spelling_begins_another}
use Rattle.image.specs.Nodes.{link_of, received_of, node_of, Spells, IsImageOf}
use Rattle.image.specs.Images.{IsTooLarge, stored_by, image_of}
use Rattle.image.proofs.Elements.{map-insert}

-- ---- what a node's image says

slots_back : (xs : List StoredSlot) → map stored_slot (map slot_of xs) ≡ xs
slots_back [] = refl
slots_back (x ∷ xs) = rw (stored_back x) (ap (λ (ys : List StoredSlot). x ∷ ys) (slots_back xs))

all_links_back : (xs : List StoredLink) → stored_links (map link_of xs) (map received_of xs) ≡ xs
all_links_back [] = refl
all_links_back (x ∷ xs) = ap (λ (ys : List StoredLink). x ∷ ys) (all_links_back xs)

links_back : (own : ℕ) (xs : List StoredLink) → own ≤ length xs
    → remove (stored_links (insert (map link_of xs) own no_link)
    (insert (map received_of xs) own 0)) own ≡ xs
links_back zero xs le = all_links_back xs
links_back (suc own) [] le = absurd (omega (arith, le))
links_back (suc own) (x ∷ xs) le =
    ap (λ (ys : List StoredLink). x ∷ ys) (links_back own xs (omega (arith, le)))

reports_back : (b : Bool) (nodes : ℕ) (rs : List ℕ) → length rs ≡ cond b (nodes - 1) 0
    → cond b (drop 1 (cond b (0 ∷ rs) (replicate nodes 0))) [] ≡ rs
reports_back true nodes rs len = refl
reports_back false nodes rs len = sym (nil_from_length rs len)

-- the node that `s` says has an image that says `s`
pub says_back : (v : Layout) (s : Stored) → Fits v s → stored_by (node_of v s) ≡ s
says_back v s fits =
    let reports = reports_back (s.head.own == 0) s.head.nodes s.reports (reports_count v s fits) in
    let slots = slots_back s.slots in
    let links = links_back s.head.own s.links
    (omega (arith, own_below v s fits, links_count v s fits)) in
    rw (reports, slots, links) refl

-- ---- the laws

pub one_node : (v w : Layout) (bytes : List ℕ) (m n : NodeView) → Spells v bytes m
    → Spells w bytes n → m ≡ n
one_node v w bytes m n p q =
    let same : spelling v p.says ++ [] ≡ spelling w q.says =
    append-nil (spelling v p.says) ∙ sym p.image.spelled ∙ q.image.spelled in
    let e = no_spelling_begins_another v w p.says q.says [] p.image.fits q.image.fits same in
    sym p.node ∙ ap (λ (l : Layout). node_of l p.says) e.1 ∙ ap (node_of w) e.2 ∙ q.node

-- what the spelling of a node says
pub said_by : (v : Layout) (bytes : List ℕ) (n : NodeView) (p : Spells v bytes n)
    → p.says ≡ stored_by n
said_by v bytes n p = sym (says_back v p.says p.image.fits) ∙ ap stored_by p.node

pub one_spelling : (v : Layout) (n : NodeView) (bytes others : List ℕ) → Spells v bytes n
    → Spells v others n → bytes ≡ others
one_spelling v n bytes others p q =
    let e : p.says ≡ q.says = said_by v bytes n p ∙ sym (said_by v others n q) in
    p.image.spelled ∙ ap (spelling v) e ∙ sym q.image.spelled

pub all_saved : (v : Layout) (bytes : List ℕ) (n : NodeView) → Spells v bytes n
    → kept_view n ≡ n
all_saved v bytes n p =
    let ls = map link_of p.says.links in
    let own = p.says.head.own in
    let kept : map all_kept (insert ls own no_link) ≡ insert ls own no_link =
    map-insert all_kept ls own no_link
    ∙ ap (λ (ks : List Link). insert ks own no_link) (map-map all_kept link_of p.says.links) in
    subst (λ (m : NodeView). kept_view m ≡ m) p.node
    (ap (λ (ks : List Link). record (node_of v p.says) { links = ks }) kept)

-- ---- the layout in which the node is written

fits_later : (v : Layout) (s : Stored) → Fits v s → Fits (layout_for (shape_of v s.head)) s
unfolding image_format start_format layout_format
fits_later layout.First s fits =
    let later = (stored_grows false).later s in
    record {
      wide = ((lit< tt, (lit< tt, tt)), later.0 fits.wide.1);
      within = (((tt, (tt, tt)), refl), later.1 fits.within.1);
    }
fits_later layout.Second s fits = fits
fits_later (layout.Wide places bytes) s fits = fits

-- the node is the same in that layout
later_node : (v : Layout) (s : Stored) → node_of (layout_for (shape_of v s.head)) s ≡ node_of v s
later_node layout.First s = refl
later_node layout.Second s = refl
later_node (layout.Wide places bytes) s = refl

-- the layout in which a node is written is that of its kind
pub wide_for : (shape : Shaped) → is_wide (layout_for shape) ≡ shape.wide
wide_for shape =
    cond_both shape.wide (layout.Wide shape.places shape.bytes) layout.Second
    (λ (l : Layout). is_wide l ≡ shape.wide) sym sym

pub wide_within : (n : NodeView) → (IsTooLarge n → ⊥)
    → IsTooLong (is_wide (layout_for n.local.shape)) (length (image_of n)) → ⊥
wide_within n short long = short (sym (wide_for n.local.shape) ∙ long.0, long.1)

pub spelled_later : (v : Layout) (bytes : List ℕ) (n : NodeView) → Spells v bytes n
    → (IsTooLarge n → ⊥) → Spells (layout_for n.local.shape) (image_of n) n
spelled_later v bytes n p short =
    let l = layout_for n.local.shape in
    let shape : shape_of v p.says.head ≡ n.local.shape = ap
    (λ (m : NodeView). m.local.shape) p.node in
    record {
      says = p.says;
      image = record {
        fits = subst (λ (z : Shaped). Fits (layout_for z) p.says) shape
            (fits_later v p.says p.image.fits);
        spelled = ap (spelling l) (sym (said_by v bytes n p));
        within = wide_within n short;
      };
      node = ap (λ (z : Shaped). node_of (layout_for z) p.says) (sym shape)
          ∙ later_node v p.says ∙ p.node;
    }

-- ---- one image, one node

-- bytes are the image of at most one node
pub image_of_one : (bytes : List ℕ) (m n : NodeView) → IsImageOf bytes m → IsImageOf bytes n
    → m ≡ n
image_of_one bytes m n p q = one_node p.layout q.layout bytes m n p.spelled q.spelled

-- everything of a node that has an image counts as saved
pub kept_is : (bytes : List ℕ) (n : NodeView) → IsImageOf bytes n → kept_view n ≡ n
kept_is bytes n is = all_saved is.layout bytes n is.spelled
