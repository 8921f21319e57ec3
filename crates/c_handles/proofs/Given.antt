-- Spaces that are opened on images: what the disks of these images have, and what follows of the
-- cells.
use Rattle.std.proofs.Common.{inl, ◌≡◌, ℕ, ◌≤◌, Bool, List, [], false, Some, None, length, map, refl, sym, arith, ap, ◌∙◌, subst}
use Rattle.std.specs.Prelude.{slice_get}
use Rattle.std.proofs.lemmas.List.{append-nil, length-map}
use Rattle.std.proofs.lemmas.Option.{slice_get_within}
use Rattle.ids.specs.Limits.{Shaped}
use Rattle.disk_shelf.specs.declared.persist.TheConstants.{GREATEST_SAVED}
use Rattle.ids.specs.declared.refusal.Refusal.{Refusal}
use Rattle.ids.specs.declared.refusal.Refusal.TheVariants as refusal
use Rattle.node.specs.Keeping.{WholeNode, alone}
use Rattle.disk.specs.Areas.{Areas}
use Rattle.disk.specs.Memory.{blank, held_by}
use Rattle.disk_shelf.specs.Shelf.{record_of, recorded}
use Rattle.disk.specs.declared.memory.MemoryDisk.{MemoryDisk}
use Rattle.disk_shelf.proofs.Quiet.{same_some}
use Rattle.disk_shelf.proofs.Records.{recorded_front}
use Rattle.node_store.specs.Plain.{IsPlain}
use Rattle.node_store.proofs.Stores.{bare_read, keeps_read, keeps_some, plain_read}
use Rattle.cell.specs.Cells.{CellView}
use Rattle.cell.specs.Ages as ages
use Rattle.wire.specs.OneAge.{AreApart}
use Rattle.cell.specs.Ages.{AreRead}
use Rattle.cell.specs.Opened.{AreBeside, HasAt, HoldsAnother, HoldsNone, IsCause, IsReadFrom}
use Rattle.cell.specs.declared.fault.Unopened.{Unopened}
use Rattle.cell.specs.declared.fault.Unopened.TheVariants as unopened
use Rattle.cell.specs.Opened as cells
use Rattle.wire.proofs.Places.{mapped-from, mapped-there, some_at}
use Rattle.c_values.specs.declared.fault.Fault.TheVariants as fault
use Rattle.c_handles.specs.Opening.{AreOfTwoAges, Begins, EachOf, HasPlace, HoldsNoImage, HoldsOther, Image, IsShort, IsTooLarge, IsWhy, areas_in, fault_of}

-- a disk that was made of an image opens to it
opens : (image : List ℕ) → length image ≤ GREATEST_SAVED
    → recorded (record_of image) ≡ Some image
opens image short =
    ap recorded (sym (append-nil (record_of image))) ∙ recorded_front image [] short

-- the images and the disks that were made of them
pub record AreDisksOf (images : List Image) (disks : List MemoryDisk) : Type 0 where
  pub held : map held_by disks ≡ map areas_in images
  pub short : EachOf IsShort images

pub disk-at : {images : List Image} {disks : List MemoryDisk} → AreDisksOf images disks → (k : ℕ)
    (i : Image) → slice_get images k ≡ Some i
    → (d : MemoryDisk) × (slice_get disks k ≡ Some d) × (areas_in i ≡ held_by d)
disk-at {images = images} {disks = disks} are k i there =
    mapped-from held_by disks k (areas_in i)
    (subst (λ (l : List Areas). slice_get l k ≡ Some (areas_in i)) (sym are.held)
    (mapped-there areas_in images k i there))

pub image-at : {images : List Image} {disks : List MemoryDisk} → AreDisksOf images disks → (k : ℕ)
    (d : MemoryDisk) → slice_get disks k ≡ Some d
    → (i : Image) × (slice_get images k ≡ Some i) × (held_by d ≡ areas_in i)
image-at {images = images} {disks = disks} are k d there =
    mapped-from areas_in images k (held_by d)
    (subst (λ (l : List Areas). slice_get l k ≡ Some (held_by d)) are.held
    (mapped-there held_by disks k d there))

pub same-count : {images : List Image} {disks : List MemoryDisk} → AreDisksOf images disks
    → length disks ≡ length images
same-count {images = images} {disks = disks} are =
    sym (length-map disks held_by) ∙ ap length are.held ∙ length-map images areas_in

-- ---- The nodes

begins : (shape : Shaped) (k : ℕ) (i : Image) (n : WholeNode) → IsShort i
    → IsReadFrom shape k (areas_in i) n → Begins shape k i n
begins shape k None n short read = read.blank refl
begins shape k (Some v) n short read =
    bare_read n (areas_in (Some v)) false v.items refl refl (opens v.items short.0)
    (read.held (λ e. absurd cc))

pub all-begin : (shape : Shaped) (images : List Image) (disks : List MemoryDisk)
    (nodes : List WholeNode) → AreDisksOf images disks
    → AreBeside (λ k d n. IsReadFrom shape k (held_by d) n) disks nodes
    → AreBeside (λ k i n. Begins shape k i n) images nodes
all-begin shape images disks nodes are read = λ k i n at_image at_node.
    let of = disk-at are k i at_image in
    begins shape k i n (are.short k i at_image)
    (subst (λ (c : Areas). IsReadFrom shape k c n) (sym of.2) (read k of.0 n of.1 at_node))

-- no log follows an image that was given
plain-in : (shape : Shaped) (k : ℕ) (i : Image) (n : WholeNode) → IsShort i
    → IsReadFrom shape k (areas_in i) n → IsPlain (areas_in i)
plain-in shape k None n short read = λ image found. absurd cc
plain-in shape k (Some v) n short read =
    plain_read n (areas_in (Some v))
    (v.items, opens v.items short.0, begins shape k (Some v) n short read)

pub no-logs : (shape : Shaped) (images : List Image) (disks : List MemoryDisk)
    (cells : List (CellView MemoryDisk)) → AreDisksOf images disks → length cells ≡ length disks
    → AreBeside (λ k d n. IsReadFrom shape k (held_by d) n) disks (map (λ c. c.node) cells)
    → ((k : ℕ) (d : MemoryDisk) (c : CellView MemoryDisk) → slice_get disks k ≡ Some d
    → slice_get cells k ≡ Some c → IsPlain (held_by d) → c.logs ≡ false)
    → EachOf (λ c. c.logs ≡ false) cells
no-logs shape images disks cells are count read logs = λ k c there.
    let d = some_at disks k (omega (arith, count, slice_get_within cells k c there)) in
    let i = image-at are k d.0 d.1 in
    logs k d.0 c d.1 there
    (subst IsPlain (sym i.2)
    (plain-in shape k i.0 c.node (are.short k i.0 i.1)
    (subst (λ (a : Areas). IsReadFrom shape k a c.node) i.2
    (read k d.0 c.node d.1 (mapped-there (λ y. y.node) cells k c there)))))

pub two-ages : (shape : Shaped) (images : List Image) (disks : List MemoryDisk)
    (sender receiver : ℕ) → AreDisksOf images disks
    → AreRead held_by shape disks (λ ns. AreApart ns sender receiver)
    → AreOfTwoAges shape images sender receiver
two-ages shape images disks sender receiver are h = record {
  nodes = h.nodes;
  count = h.count ∙ same-count are;
  read = all-begin shape images disks h.nodes are h.read;
  apart = h.are;
}

-- ---- What is wrong with an image

other-in : (shape : Shaped) (k : ℕ) (i : Image) → IsShort i → HoldsAnother shape k (areas_in i)
    → HoldsOther shape k i
other-in shape k None short h = absurd (keeps_some (alone h.node) blank h.opens refl)
other-in shape k (Some v) short h =
    let whole = bare_read (alone h.node) (areas_in (Some v)) false v.items refl refl
    (opens v.items short.0) h.opens in
    (h.node, whole.0, h.is_other)

none-in : (seals : Bool) (i : Image) → HoldsNone seals (areas_in i) → HoldsNoImage i
none-in seals None h = h.written refl
none-in seals (Some v) h = λ n fits whole.
    h.none n (keeps_read n (areas_in (Some v)) (v.items, opens v.items fits.0, whole))
    (λ sealing mark is. inl (let first : mark ≡ 0 = sym (same_some is) in omega (arith, first)))

large-in : (shape : Shaped) (k : ℕ) (i : Image) → cells.IsTooLarge shape k (areas_in i)
    → IsTooLarge shape k i
large-in shape k None h = h.large
large-in shape k (Some v) h = let blank = h.blank in absurd cc

-- what a property of a disk means for the image
moved : {P : MemoryDisk → Type 0} {Q : ℕ → Image → Type 0} {images : List Image}
    {disks : List MemoryDisk} (k : ℕ) → AreDisksOf images disks
    → ((d : MemoryDisk) (i : Image) → IsShort i → held_by d ≡ areas_in i → P d → Q k i)
    → HasAt k P disks → HasPlace Q images
moved k are f h =
    let of = image-at are k h.value h.there in
    record {
      place = k;
      value = of.0;
      there = of.1;
      is = f h.value of.0 (are.short k of.0 of.1) of.2 h.is;
    }

pub wrong-disks : (shape : Shaped) (images : List Image) (disks : List MemoryDisk) (k : ℕ)
    → AreDisksOf images disks → HasAt k (λ d. HoldsAnother shape k (held_by d)) disks
    → HasPlace (λ k i. HoldsOther shape k i) images
wrong-disks shape images disks k are =
    moved k are (λ d i short is h.
    other-in shape k i short (subst (λ (c : Areas). HoldsAnother shape k c) is h))

module _ (seals : MemoryDisk → Bool) (moment faults : MemoryDisk → ℕ) (shape : Shaped)
    {images : List Image} {disks : List MemoryDisk} (are : AreDisksOf images disks) where
  pub why-refused : (k : ℕ) (e : Refusal)
      → HasAt k (λ d. IsCause held_by seals moment faults shape k d e) disks
      → IsWhy shape images (fault.Refused e)
  why-refused k refusal.Memory h = tt
  why-refused k refusal.Disk h = tt
  why-refused k refusal.BadImage h =
      moved k are (λ d i short is x. none-in (seals d) i (subst (HoldsNone (seals d)) is x)) h
  why-refused k refusal.ImageTooLarge h =
      moved k are (λ d i short is x.
      large-in shape k i (subst (λ (c : Areas). cells.IsTooLarge shape k c) is x)) h
  why-refused k refusal.ArenaFull h = h.is
  why-refused k refusal.NoRegister h = h.is
  why-refused k refusal.EmptyRegister h = h.is
  why-refused k refusal.Remote h = h.is
  why-refused k refusal.Local h = h.is
  why-refused k refusal.NoNode h = h.is
  why-refused k refusal.NoLetter h = h.is
  why-refused k refusal.NoField h = h.is
  why-refused k refusal.TooManyFields h = h.is
  why-refused k refusal.SelfSend h = h.is
  why-refused k refusal.LinkSpent h = h.is
  why-refused k refusal.CyclesSpent h = h.is
  why-refused k refusal.NotDirector h = h.is
  why-refused k refusal.CycleRunning h = h.is
  why-refused k refusal.NothingToDo h = h.is
  why-refused k refusal.OutOfOrder h = h.is
  why-refused k refusal.AckBeyond h = h.is
  why-refused k refusal.BadFrame h = h.is
  why-refused k refusal.WrongNode h = h.is
  why-refused k refusal.Closed h = h.is
  why-refused k refusal.TooManyBytes h = h.is
  why-refused k refusal.NoBytes h = h.is
  why-refused k refusal.NotNow h = h.is

  pub why : length disks ≡ shape.nodes → (e : Unopened)
      → ages.IsWhy held_by seals moment faults shape disks e → IsWhy shape images (fault_of e)
  why many unopened.Disks h = absurd (h many)
  why many (unopened.Another k) h = wrong-disks shape images disks k are h
  why many (unopened.Ages sender receiver) h = two-ages shape images disks sender receiver are h
  why many (unopened.Failed k e) h = why-refused k e h
  why many unopened.Memory h = tt
