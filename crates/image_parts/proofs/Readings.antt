-- What is read has that spelling, and what has a spelling is read. No spelling is a prefix of
-- another.
use Rattle.std.proofs.Common.{◌≡◌, ◌<◌, ◌++◌, ℕ, List, [], length, Option, Some, refl, ap, subst, ◌∙◌}
use Rattle.std.proofs.lemmas.Bool.{and_parts, ltb-true}
use Rattle.codec.specs.Formats as codec
use Rattle.std.specs.Prelude.{Bool}
use Rattle.codec.specs.Formats.{behind, whole_at}
use Rattle.codec.specs.declared.reader.Reader.{Reader}
use Rattle.codec.specs.Readers.{Reads, Takes}
use Rattle.codec.proofs.Readers.{joined_read}
use Rattle.frames.specs.declared.version.Version.{Version}
use Rattle.codec.specs.Reading.{IsBytes}
use Rattle.codec.proofs.Wholes.{whole_takes, whole_again, begins_none}
use Rattle.image_parts.specs.Layouts.{widths, is_wide, IsTooLong, says_wide}
use Rattle.image_parts.specs.declared.layout.Layout.{Layout}
use Rattle.image_parts.specs.declared.layout.Layout.TheVariants as layout
use Rattle.image_parts.specs.Grammar.{Stored, Fits, IsImage, spelling, image_format, stored_format}
use Rattle.image_parts.specs.Grammar.{always, rest_format, behind_format, layout_behind, layouts, start_format, layout_format}
use Rattle.image_parts.specs.Grammar.{reports_told, links_told, front_format, head_format, nodes_format}
use Rattle.image_parts.specs.Grammar.{lists_format, told_format, others_format}
use Rattle.image_parts.proofs.Formats.{image_sound}

-- ---- what a spelling implies about the sizes

-- what follows the start has a spelling
pub stored_fits : (l : Layout) (s : Stored) → Fits l s → codec.Fits (rest_format l) s
unfolding image_format
stored_fits l s fits = record { wide = fits.wide.1; within = fits.within.1 }

pub own_below : (l : Layout) (s : Stored) → Fits l s → s.head.own < s.head.nodes
unfolding stored_format front_format head_format nodes_format
own_below l s fits = ltb-true _ _ (and_parts _ _ (stored_fits l s fits).within.0.0.0.1).0

pub reports_count : (l : Layout) (s : Stored) → Fits l s
    → length s.reports ≡ reports_told s.head
unfolding stored_format lists_format told_format
reports_count l s fits = (stored_fits l s fits).within.1.0.0.0

pub links_count : (l : Layout) (s : Stored) → Fits l s → length s.links ≡ links_told s.head
unfolding stored_format lists_format others_format
links_count l s fits = (stored_fits l s fits).within.1.1.1.1.1.0

-- ---- the law

pub no_spelling_begins_another : (l m : Layout) (s t : Stored) (rest : List ℕ) → Fits l s
    → Fits m t → spelling l s ++ rest ≡ spelling m t → (rest ≡ []) × (l ≡ m) × (s ≡ t)
unfolding spelling
no_spelling_begins_another l m s t rest p q same =
    let both = begins_none image_format image_sound (l, s) (m, t) rest p q same in
    (both.0, ap (λ (x : Layout × Stored). x.0) both.1, ap (λ (x : Layout × Stored). x.1) both.1)

-- ---- what the code reads

-- what isn't spelled
pub none_read : {A : Type 0} {x : A} (a : Reader) → Reads (always x) a a x
none_read a = record { is = refl }

-- the rest, as the layout says it
pub rest_read : (l : Layout) {b c : Reader} {wide : Bool} {v : Version} {s : Stored}
    → wide ≡ is_wide l → v ≡ widths l → Reads (stored_format wide v) b c s
    → Reads (rest_format l) b c s
rest_read l {b = b} {c = c} {v = v} {s = s} kind same others =
    subst (λ (z : Version). Reads (stored_format (is_wide l) z) b c s) same
    (subst (λ (w : Bool). Reads (stored_format w v) b c s) kind others)

-- the start and the rest
pub image_read : {a b c : Reader} {l : Layout} {s : Stored} → Reads (rest_format l) b c s
    → Reads start_format a b l → Reads image_format a c (l, s)
unfolding image_format
image_read others start = joined_read rest_format start others

-- what is behind a number, and the rest
pub behind_read : (number : ℕ) {a b c : Reader} {l : Layout} {s : Stored}
    → Reads (rest_format l) b c s → Takes (behind layouts number) a b (Some l)
    → Reads (behind_format number) a c (l, s)
unfolding behind_format
behind_read number {a = a} {b = b} {l = l} others start =
    let first : Reads (layout_behind number) a b l = record { is = start.is } in
    joined_read rest_format first others

abbrev pub read : List ℕ → Option (Layout × Stored)
read = whole_at image_format.read

-- the version says whether the space is wide
pub spelled_wide : (l : Layout) (s : Stored) → says_wide (spelling l s) ≡ is_wide l
unfolding spelling image_format start_format layout_format
spelled_wide layout.First s = refl
spelled_wide layout.Second s = refl
spelled_wide (layout.Wide places bytes) s = refl

pub image_wide : (bytes : List ℕ) (l : Layout) (s : Stored) → IsImage bytes l s
    → says_wide bytes ≡ is_wide l
image_wide bytes l s image = ap says_wide image.spelled ∙ spelled_wide l s

spelled_by : (bytes : List ℕ) (l : Layout) (s : Stored) → IsBytes bytes
    → read bytes ≡ Some (l, s) → Fits l s × (bytes ≡ spelling l s)
unfolding spelling
spelled_by bytes l s are gives = whole_takes image_format image_sound bytes (l, s) are gives

pub spelled_so : (bytes : List ℕ) (l : Layout) (s : Stored) → IsBytes bytes
    → (IsTooLong (says_wide bytes) (length bytes) → ⊥) → read bytes ≡ Some (l, s)
    → IsImage bytes l s
spelled_so bytes l s are within gives =
    let t = spelled_by bytes l s are gives in
    let wide : says_wide bytes ≡ is_wide l = ap says_wide t.1 ∙ spelled_wide l s in
    record {
      fits = t.0;
      spelled = t.1;
      within = λ long. within (wide ∙ long.0, long.1);
    }

pub again : (bytes : List ℕ) (l : Layout) (s : Stored) → IsImage bytes l s
    → read bytes ≡ Some (l, s)
unfolding spelling
again bytes l s image =
    ap read image.spelled ∙ whole_again image_format image_sound (l, s) image.fits
