-- Images of a node that its caller stores.
use Rattle.std.specs.Prelude.{◌≡◌, ℕ, ◌+◌, ◌%◌, ◌^◌, zero, suc, Bool, true, false, ◌==◌, List, [], ◌∷◌, ◌++◌, length, Option, Some, None, Result, Ok, Err, slice_index_or}
use Rattle.std.specs.Global.{Vec}
use Rattle.ids.specs.declared.refusal.Refusal.TheVariants.{ImageTooLarge, Memory}
use Rattle.model.specs.State.{got_from}
use Rattle.model.specs.View.{NodeView, kept_view, link_to, used}
use Rattle.node.specs.Keeping.{WholeNode, kept_whole, kept_whole_with}
use Rattle.image.specs.Images.{IsTooLarge, image_of}
use Rattle.image.specs.Logged.{IsAnyWholeOf}
use Rattle.image.specs.Wholes.{saved_whole}
use Rattle.node_store.specs.Values.{image_by}
use Rattle.c_values.specs.Bytes.{Wrote}
use Rattle.c_values.specs.declared.fault.Fault.{Fault}
use Rattle.c_values.specs.declared.fault.Fault.TheVariants as fault
use Rattle.c_handles.specs.Gone.{covering, keeping, settling}
use Rattle.c_handles.specs.Logs.{KeepsLog, LogsFrom, begun, logging, no_counts}
use Rattle.c_handles.specs.declared.lone.images.Counts.{Counts}
use Rattle.c_handles.specs.declared.lone.LoneNode.{LoneNode}

-- ---- What an image holds of the links

-- how many messages were sent to a node and received from it
abbrev pub counted : NodeView → ℕ → Counts
counted n peer = record { sent = used (link_to n peer); received = got_from n.local peer }

abbrev pub counts_below : NodeView → ℕ → List Counts
counts_below n zero = []
counts_below n (suc peer) = counts_below n peer ++ counted n peer ∷ []

-- for each node of the space
unfoldable pub counts_of : NodeView → List Counts
counts_of n = counts_below n (length n.links)

-- These numbers count as saved, on the links to the first nodes.
abbrev pub keeps_below : List Counts → ℕ → WholeNode → WholeNode
keeps_below counts zero n = n
keeps_below counts (suc peer) n =
    kept_whole_with peer (slice_index_or counts peer no_counts).sent
    (slice_index_or counts peer no_counts).received (keeps_below counts peer n)

unfoldable pub keeps : List Counts → WholeNode → WholeNode
keeps counts n = keeps_below counts (length n.core.links) n

-- ---- The calls

-- the image of the node: one that a log may follow, if the node keeps a log
abbrev pub image_in : LoneNode → List ℕ
image_in n = image_by n.logs n.node.core

-- the length of the node's image, or the reason why it has none
abbrev pub SizedAs : NodeView → List ℕ → Result ℕ Fault → Type 0
SizedAs n image (Ok size) = size ≡ length image
SizedAs n image (Err (fault.Refused ImageTooLarge)) = IsTooLarge n
SizedAs n image (Err (fault.Refused Memory)) = IsTooLarge n → ⊥
SizedAs n image (Err e) = ⊥

-- the same of the image of a node without a log
abbrev pub Sized : NodeView → Result ℕ Fault → Type 0
Sized n = SizedAs n (image_of n)

-- a node of which an image or a batch with this mark was taken, which holds this of the links
abbrev pub marked : LoneNode → Vec Counts → ℕ → Option (List ℕ) → LoneNode
marked n counts mark log = record n {
  counts = Some counts;
  mark = mark;
  is_changed = false;
  log = log;
  is_kept = false;
  gone = covering n.gone;
}

-- What is kept for the mark of an image. The image is read as the node, as it is once it is saved,
-- and a log begins, if the node is to keep one.
pub record Took (old new : LoneNode) (mark : ℕ) : Type 0 where
  pub counts : Vec Counts
  pub counted : counts.items ≡ counts_of old.node.core
  pub stays : new ≡ marked old counts mark (begun old.logs)
  pub next : mark ≡ (old.mark + 1) % 2 ^ 64
  pub read : IsAnyWholeOf (image_in old) (saved_whole old.node)
  pub logs : LogsFrom (kept_view old.node.core) new

-- The image of the node is written, and what it holds is kept for the mark; or nothing changes.
abbrev pub Imaged : LoneNode → LoneNode → Result ℕ Fault → List ℕ → List ℕ → ℕ → ℕ → Type 0
Imaged old new (Ok mark) held now before needed =
    Took old new mark × Wrote (image_in old) (Ok tt) held now needed
Imaged old new (Err fault.ShortBuffer) held now before needed =
    (new ≡ old) × Wrote (image_in old) (Err fault.ShortBuffer) held now needed
Imaged old new (Err (fault.Refused e)) held now before needed =
    (new ≡ old) × SizedAs old.node.core (image_in old) (Err (fault.Refused e)) × (now ≡ held)
    × (needed ≡ before)
Imaged old new (Err e) held now before needed = ⊥

-- What the last image or batch holds counts as saved, if this is its mark.
abbrev pub after_kept : Option (Vec Counts) → Bool → LoneNode → LoneNode
after_kept None same n = n
after_kept (Some counts) false n = n
after_kept (Some counts) true n =
    record n {
      node = keeps counts.items n.node;
      is_unsaved = n.is_changed;
      is_kept = true;
      gone = keeping n.gone;
    }

abbrev pub kept_result : Option (Vec Counts) → Bool → Result (Unit {0}) Fault
kept_result None same = Err fault.WrongMark
kept_result (Some counts) false = Err fault.WrongMark
kept_result (Some counts) true = Ok tt

abbrev pub Kept : ℕ → LoneNode → LoneNode → Result (Unit {0}) Fault → Type 0
Kept mark old new r =
    (new ≡ after_kept old.counts (mark == old.mark) old)
    × (r ≡ kept_result old.counts (mark == old.mark)) × KeepsLog old new

-- Everything counts as saved, without an image. The log is lost.
abbrev pub released : LoneNode → LoneNode
released n = record n {
  node = kept_whole n.node;
  is_changed = false;
  is_unsaved = false;
  log = None;
  gone = settling n.gone;
}

abbrev pub Released : LoneNode → LoneNode → Result (Unit {0}) Fault → Type 0
Released old new r = (new ≡ released old) × (r ≡ Ok tt)

-- A log is kept from the next image on, or none is.
abbrev pub Logs : Bool → LoneNode → LoneNode → Result (Unit {0}) Fault → Type 0
Logs on old new r = (new ≡ logging on old) × (r ≡ Ok tt)

-- ---- The same for what a handle holds

abbrev pub SizedSame : LoneNode → LoneNode → Result ℕ Fault → Type 0
SizedSame old new r = (new ≡ old) × SizedAs old.node.core (image_in old) r

-- bytes of what a handle holds are written
abbrev pub HandleWrites : (LoneNode → LoneNode → Result ℕ Fault → List ℕ → List ℕ → ℕ → ℕ → Type 0)
    → Option LoneNode → Option LoneNode → Result ℕ Fault → List ℕ → List ℕ → ℕ → ℕ → Type 0
HandleWrites Writes (Some old) (Some new) r held now before needed =
    Writes old new r held now before needed
HandleWrites Writes (Some old) None r held now before needed = ⊥
HandleWrites Writes None new r held now before needed =
    (new ≡ None) × (r ≡ Err fault.NoHandle) × (now ≡ held) × (needed ≡ before)

abbrev pub HandleImaged : Option LoneNode → Option LoneNode → Result ℕ Fault → List ℕ → List ℕ → ℕ
    → ℕ → Type 0
HandleImaged = HandleWrites Imaged
