-- What a disk holds of a node, with a log or without one.
use Rattle.std.proofs.Common.{◌≡◌, ◌≢◌, ℕ, Bool, true, false, List, [], ◌∷◌, Option, Some, None}
use Rattle.std.proofs.Common.{refl, sym, ap, ◌∙◌, subst, map, arith, drop, length, ◌+◌}
use Rattle.std.proofs.Common.{Result, Ok, Err}
use Rattle.std.specs.Option.{option_map}
use Rattle.std.specs.Prelude.{IfSome, IsErrOf}
use Rattle.std.proofs.lemmas.Bool.{false≢true}
use Rattle.std.proofs.Math.ListN.{drop_of_length-le}
use Rattle.ids.specs.declared.refusal.Refusal.{Refusal}
use Rattle.ids.specs.declared.refusal.Refusal.TheVariants.{Closed, Disk as DiskFailed, ImageTooLarge}
use Rattle.std.proofs.lemmas.Simd.{map-map}
use Rattle.model.specs.View.{Link, NodeView, all_kept, kept_view}
use Rattle.image_parts.specs.Logs.{begins_logged, unlogged}
use Rattle.image.specs.Logged.{IsAnyWholeOf, IsEither}
use Rattle.image.specs.Nodes.{IsImageOf}
use Rattle.image.specs.Wholes.{IsWholeOf, IsWholeTooLarge}
use Rattle.image.proofs.Spelled.{kept_is}
use Rattle.disk.specs.Areas.{Areas, part, IsBlank}
use Rattle.disk_shelf.specs.Logs.{HasLog, IsKept, LeadAll, OpensIf}
use Rattle.disk_shelf.specs.Shelf.{half, image_at, opened, OpensAs, record_of, side}
use Rattle.disk_shelf.proofs.Logs.{selected_if}
use Rattle.disk_shelf.proofs.Records.{record_length}
use Rattle.disk_shelf.proofs.Values.{fresh_led}
use Rattle.disk_journal.proofs.Values.{opens_image, restores_image, restores_one}
use Rattle.node.specs.Keeping.{WholeNode, alone}
use Rattle.node_store.specs.Laws.{led_alone, one_led, one_whole, plain_spelling, read_alone}
use Rattle.node_store.specs.Plain.{IsPlain, Keeps}
use Rattle.disk_journal.specs.Tails.{IsSamePlace, place_for, room_at}
use Rattle.disk_journal.specs.declared.journal.Tail.{Tail}
use Rattle.node_store.specs.Stores.{LiesAt}
use Rattle.node_store.specs.Values.{IsAlone, LeadsWhole}

-- ---- images that no log follows

-- an image that no log follows
pub image_plain : (bytes : List ℕ) (n : NodeView) → IsImageOf bytes n
    → begins_logged bytes ≡ false
image_plain bytes n is =
    subst (λ l. begins_logged l ≡ false) (sym is.spelled.image.spelled)
    (plain_spelling is.layout is.spelled.says)

pub any_of : (bytes : List ℕ) (n : WholeNode) → IsWholeOf bytes n → IsAnyWholeOf bytes n
any_of bytes n is = (
  subst (λ b. IsEither b bytes n.core) (sym (image_plain bytes n.core is.0)) is.0,
  is.1,
)

whole_of : (bytes : List ℕ) (n : WholeNode) → begins_logged bytes ≡ false → IsAnyWholeOf bytes n
    → IsWholeOf bytes n
whole_of bytes n plain is = (subst (λ b. IsEither b bytes n.core) plain is.0, is.1)

-- ---- what a disk opens to

opens_by : (o : Option Bool) (c : Areas) (image : List ℕ) → side c.select ≡ o
    → image_at o c ≡ Some image → OpensIf false image [] c
opens_by None c image selected is =
    let both : ◌≡◌ {A = Option (List ℕ)} None (Some image) = is in absurd cc
opens_by (Some true) c image selected is =
    record { in_b = true; selected = selected; holds = (is, refl) }
opens_by (Some false) c image selected is =
    record { in_b = false; selected = selected; holds = (is, refl) }

no_batches : (image : List ℕ) (batches : List (List ℕ)) (c : Areas) → OpensIf false image batches c
    → batches ≡ []
no_batches image batches c o = o.holds.1

-- ---- nodes on disks

-- a disk that opens to an image without a log
pub keeps_read : (n : WholeNode) (c : Areas) → OpensAs IsWholeOf n c → Keeps n c
keeps_read n c found =
    restores_image
    (image_plain found.0 n.core found.2.0) (any_of found.0 n found.2)
    (opens_by (side c.select) c found.0 refl found.1)

-- if no log follows the image, the node is what the image is read as
pub read_kept : (n : WholeNode) (c : Areas) → IsPlain c → Keeps n c
    → OpensAs IsWholeOf n c
read_kept n c plain r =
    let is = opens_image r.found in
    let none : begins_logged r.image ≡ false = plain r.image is in
    let empty : r.batches ≡ [] =
    no_batches r.image r.batches c (subst (λ b. OpensIf b r.image r.batches c) none r.found) in
    let same : r.first ≡ n = subst (λ bs. LeadAll LeadsWhole bs r.first n) empty r.led in
    (r.image, is, whole_of r.image n none (subst (IsAnyWholeOf r.image) same r.read))

pub plain_read : (n : WholeNode) (c : Areas) → OpensAs IsWholeOf n c → IsPlain c
plain_read n c found image is =
    let both : ◌≡◌ {A = Option (List ℕ)} (Some found.0) (Some image) = sym found.1 ∙ is in
    let same : found.0 ≡ image = cc both in
    subst (λ l. begins_logged l ≡ false) same (image_plain found.0 n.core found.2.0)

pub keeps_alone : (n : WholeNode) (c : Areas) → Keeps n c → n ≡ alone n.core
keeps_alone n c r =
    fresh_led LeadsWhole IsAlone led_alone r.batches r.first n (read_alone r.image r.first r.read)
    r.led

pub keeps_one : (m n : WholeNode) (c : Areas) → Keeps m c → Keeps n c → m ≡ n
keeps_one = restores_one one_whole one_led

-- something was created on the disk
pub keeps_some : (n : WholeNode) (c : Areas) → Keeps n c → IsBlank c → ⊥
keeps_some n c r empty =
    let both : ◌≡◌ {A = Option Bool} None (Some r.found.in_b) =
    sym (ap side empty) ∙ r.found.selected in
    absurd cc

-- ---- everything counts as saved

twice : (ls : List Link) → map all_kept (map all_kept ls) ≡ map all_kept ls
twice ls = map-map all_kept all_kept ls

pub kept_twice : (n : NodeView) → kept_view (kept_view n) ≡ kept_view n
kept_twice n = ap (λ (ls : List Link). record (kept_view n) { links = ls }) (twice n.links)

IsKeptView : WholeNode → Type 0
IsKeptView n = kept_view n.core ≡ n.core

-- after each batch
led_kept : (batch : List ℕ) (v w : WholeNode) → LeadsWhole batch v w → IsKeptView w
unfolding IsKeptView
led_kept batch v w led =
    ap kept_view led.0.kept ∙ kept_twice led.0.before ∙ sym led.0.kept

read_kept_by : (logged : Bool) (bytes : List ℕ) (n : NodeView) → IsEither logged bytes n
    → kept_view n ≡ n
read_kept_by true bytes n is = kept_is (unlogged bytes) n is.plain
read_kept_by false bytes n is = kept_is bytes n is

pub keeps_kept : (n : WholeNode) (c : Areas) → Keeps n c → kept_view n.core ≡ n.core
unfolding IsKeptView
keeps_kept n c r =
    fresh_led LeadsWhole IsKeptView led_kept r.batches r.first n
    (read_kept_by (begins_logged r.image) r.image r.first.core r.read.0) r.led

-- ---- a disk with an image and nothing behind it

no_log : (batches : List (List ℕ)) (rest : List ℕ) → rest ≡ [] → HasLog batches rest → ⊥
no_log [] rest none log =
    let both : ◌≡◌ {A = Option Bool} None (Some false) = sym (ap side none) ∙ log in absurd cc
no_log (batch ∷ more) rest none log =
    let both : ◌≡◌ {A = Option Bool} None (Some true) = sym (ap side none) ∙ log.0 in absurd cc

pub bare_read : (n : WholeNode) (c : Areas) (in_b : Bool) (image : List ℕ)
    → side c.select ≡ Some in_b → part (half in_b) c ≡ record_of image → opened c ≡ Some image
    → Keeps n c → IsWholeOf image n
bare_read n c in_b image selected holds is r = by_logged (begins_logged r.image) refl
  where
    same : r.image ≡ image
    same =
        let both : ◌≡◌ {A = Option (List ℕ)} (Some r.image) (Some image) =
        sym (opens_image r.found) ∙ is in
        cc

    none : drop (8 + length r.image) (part (half in_b) c) ≡ []
    none =
        ap (drop (8 + length r.image)) holds
        ∙ drop_of_length-le (record_of image)
        (omega (arith, record_length image, ap length same))

    by_logged : (logged : Bool) → begins_logged r.image ≡ logged → IsWholeOf image n
    by_logged true logged =
        let found : OpensIf true r.image r.batches c =
        subst (λ b. OpensIf b r.image r.batches c) logged r.found in
        absurd (no_log r.batches (drop (8 + length r.image) (part (half in_b) c)) none
        (selected_if {logged = true} in_b c selected found).1)
    by_logged false plain =
        let whole = read_kept n c (λ i found.
        let both : ◌≡◌ {A = Option (List ℕ)} (Some image) (Some i) = sym is ∙ found in
        let this : image ≡ i = cc in
        subst (λ l. begins_logged l ≡ false) (same ∙ this) plain) r in
        let both : ◌≡◌ {A = Option (List ℕ)} (Some whole.0) (Some image) = sym whole.1 ∙ is in
        let this : whole.0 ≡ image = cc in
        subst (λ l. IsWholeOf l n) this whole.2

-- ---- refusals

-- the same refusal
pub same_refusal : {T : Type 0} {e f : Refusal} → ◌≡◌ {A = Result T Refusal} (Err e) (Err f)
    → e ≡ f
same_refusal is = cc

-- a save that succeeded, or in which the disk failed, was of an open store
pub open_before : {T : Type 0} {value : T} (ready : Bool)
    → (ready ≡ false → ◌≡◌ {A = Result T Refusal} (Ok value) (Err Closed)) → ready ≡ true
open_before true shut = refl
open_before false shut = let never = shut refl in absurd cc

pub failed_before : {T : Type 0} {e : Refusal} (ready : Bool) → e ≡ DiskFailed
    → (ready ≡ false → ◌≡◌ {A = Result T Refusal} (Err e) (Err Closed)) → ready ≡ true
failed_before true failed shut = refl
failed_before false failed shut =
    let never : DiskFailed ≡ Closed = sym failed ∙ same_refusal (shut refl) in absurd cc

-- ---- wide spaces

-- a node of a wide space isn't too large
pub wide_saved : {T : Type 0} {e : Refusal} (n : WholeNode)
    → (IsErrOf {T = T} (Err e) ImageTooLarge → IsWholeTooLarge n)
    → n.core.local.shape.wide ≡ true → e ≢ ImageTooLarge
wide_saved n large wide is = false≢true (sym (large (ap Err is)).0 ∙ wide)

-- ---- bytes that may be there

pub some_mapped : {B : Type 0} (o : Option B) (f : B → List ℕ) (Q : List ℕ → Type 0)
    → IfSome (option_map f o) Q → IfSome o (λ b. Q (f b))
some_mapped None f Q h = tt
some_mapped (Some b) f Q h = h

pub mapped_some : {B : Type 0} (o : Option B) (f : B → List ℕ) (Q : List ℕ → Type 0)
    → IfSome o (λ b. Q (f b)) → IfSome (option_map f o) Q
mapped_some None f Q h = tt
mapped_some (Some b) f Q h = h

-- ---- places

-- the whole image is written, if no log is to follow it
pub no_place : (t : Tail) → (t.logs ≡ false → t.end ≡ None) → (log : Option (List ℕ))
    → (t.logs ≡ true → IfSome log (λ bytes. place_for t bytes ≡ None))
    → IfSome log (λ bytes. place_for t bytes ≡ None)
no_place t none log all = by t.logs refl
  where
    each : t.end ≡ None → (o : Option (List ℕ)) → IfSome o (λ bytes. place_for t bytes ≡ None)
    each is None = tt
    each is (Some bytes) = ap (λ end. room_at t.start end (length bytes)) is

    by : (b : Bool) → t.logs ≡ b → IfSome log (λ bytes. place_for t bytes ≡ None)
    by true is = all is
    by false is = each (none is) log

-- the same place, except for what seals are written there
pub same_lies : {D : Type 0} (seen : D → Areas) (may_leave : D → Areas → Type 0) (disk : D)
    (place other : Tail) → IsSamePlace place other → LiesAt seen may_leave disk place →
    LiesAt seen may_leave disk other
same_lies seen may_leave disk place other same lies = record {
  kept = subst (λ end. IsKept seen may_leave begins_logged disk other.in_b end) (sym same.end)
      (subst (λ b. IsKept seen may_leave begins_logged disk b place.end) (sym same.side)
      lies.kept);
  plain = λ is.
      let was = lies.plain (sym same.logs ∙ is) in (same.end ∙ was.0, was.1);
}
