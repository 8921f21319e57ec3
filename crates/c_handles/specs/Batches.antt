-- Batches: the events of a node since its last image or batch, as bytes.
use Rattle.std.specs.Prelude.{◌≡◌, ℕ, ◌+◌, ◌%◌, ◌^◌, nat_le, cond, Bool, true, false, List, [], ◌∷◌, ◌++◌, length, drop, Option, Some, None, Result, Ok, Err}
use Rattle.std.specs.Global.{Vec}
use Rattle.ids.specs.declared.refusal.Refusal.TheVariants.{BadImage, Memory}
use Rattle.disk_shelf.specs.Logs.{LeadAll}
use Rattle.disk_shelf.specs.Shelf.{record_of, recorded}
use Rattle.image_parts.specs.Logs.{begins_logged}
use Rattle.model.specs.View.{kept_view}
use Rattle.node.specs.Keeping.{WholeNode}
use Rattle.image.specs.Logged.{IsAnyWholeOf}
use Rattle.image.specs.Wholes.{saved_whole}
use Rattle.node_store.specs.Values.{LeadsWhole}
use Rattle.node_log.specs.declared.log.TheConstants.{GREATEST_LOG}
use Rattle.c_values.specs.Bytes.{Wrote}
use Rattle.c_values.specs.declared.fault.Fault.{Fault}
use Rattle.c_values.specs.declared.fault.Fault.TheVariants as fault
use Rattle.c_handles.specs.Images.{HandleWrites, counts_of, marked}
use Rattle.c_handles.specs.Lone.{lone}
use Rattle.c_handles.specs.Logs.{LogsFrom, log_of}
use Rattle.c_handles.specs.declared.lone.images.Counts.{Counts}
use Rattle.c_handles.specs.declared.lone.LoneNode.{LoneNode}

-- ---- What is stored of a node

-- these batches, each after its length, are the bytes
abbrev pub AreBatches : List (List ℕ) → List ℕ → Type 0
AreBatches [] bytes = bytes ≡ []
AreBatches (batch ∷ more) bytes =
    (recorded bytes ≡ Some batch) × AreBatches more (drop (8 + length batch) bytes)

-- the batches lead from the one node to the other
abbrev pub LogLeads : List ℕ → WholeNode → WholeNode → Type 0
LogLeads bytes first last =
    (batches : List (List ℕ)) × AreBatches batches bytes × LeadAll LeadsWhole batches first last

-- An image and the batches after it are those of the node. There are batches only after an image
-- that a log may follow.
pub record IsStored (image batches : List ℕ) (n : WholeNode) : Type 0 where
  pub first : WholeNode
  pub read : IsAnyWholeOf image first
  pub plain : begins_logged image ≡ false → batches ≡ []
  pub led : LogLeads batches first n

-- ---- Giving a batch

abbrev pub short : Option (List ℕ) → Option (List ℕ)
short (Some bytes) = cond (nat_le (length bytes) GREATEST_LOG) (Some bytes) None
short None = None

-- the events of the next batch: the log, if what the last image or batch holds counts as saved
abbrev pub batch_of : LoneNode → Option (List ℕ)
batch_of n = cond n.is_kept (short (log_of n)) None

abbrev pub size_of : Option (List ℕ) → Result ℕ Fault
size_of (Some bytes) = Ok (8 + length bytes)
size_of None = Err fault.NoLog

-- What is kept for the mark of a batch, and that the bytes may follow what was stored before. The
-- node that they lead to is this one, as it is once it is saved.
pub record GaveBatch (old new : LoneNode) (mark : ℕ) (bytes : List ℕ) : Type 0 where
  pub counts : Vec Counts
  pub counted : counts.items ≡ counts_of old.node.core
  pub stays : new ≡ marked old counts mark (Some [])
  pub next : mark ≡ (old.mark + 1) % 2 ^ 64
  pub stored : (image batches : List ℕ) (first : WholeNode) → begins_logged image ≡ true
      → IsStored image batches first → LogsFrom first.core old
      → IsStored image (batches ++ record_of bytes) (saved_whole old.node)
  pub logs : LogsFrom (kept_view old.node.core) new

abbrev pub BatchOr : Option (List ℕ) → LoneNode → LoneNode → Result ℕ Fault → List ℕ → List ℕ → ℕ
    → ℕ → Type 0
BatchOr (Some bytes) old new (Ok mark) held now before needed =
    GaveBatch old new mark bytes × Wrote (record_of bytes) (Ok tt) held now needed
BatchOr (Some bytes) old new (Err fault.ShortBuffer) held now before needed =
    (new ≡ old) × Wrote (record_of bytes) (Err fault.ShortBuffer) held now needed
BatchOr (Some bytes) old new (Err (fault.Refused Memory)) held now before needed =
    (new ≡ old) × (now ≡ held) × (needed ≡ before)
BatchOr (Some bytes) old new (Err e) held now before needed = ⊥
BatchOr None old new r held now before needed =
    (r ≡ Err fault.NoLog) × (new ≡ old) × (now ≡ held) × (needed ≡ before)

-- The batch is written, and what it leads to is kept for the mark; or nothing changes.
abbrev pub Batched : LoneNode → LoneNode → Result ℕ Fault → List ℕ → List ℕ → ℕ → ℕ → Type 0
Batched old new r held now before needed =
    BatchOr (batch_of old) old new r held now before needed

-- the same for what a handle holds
abbrev pub HandleBatched : Option LoneNode → Option LoneNode → Result ℕ Fault → List ℕ → List ℕ
    → ℕ → ℕ → Type 0
HandleBatched = HandleWrites Batched

-- ---- Taking them back

-- what is stored counts as saved, and a log was begun; if one may follow the image, the next batch
-- follows what is stored
abbrev pub reopened : Bool → WholeNode → ℕ → LoneNode
reopened logged n limit = record (lone n limit) { logs = true; is_kept = logged }

-- the node of an image and the batches after it, or the reason why there isn't one
abbrev pub Reopened : List ℕ → List ℕ → ℕ → Result LoneNode Fault → Type 0
Reopened image batches limit (Ok n) =
    IsStored image batches n.node × (n ≡ reopened (begins_logged image) n.node limit)
    × LogsFrom n.node.core n
Reopened image batches limit (Err (fault.Refused Memory)) = Unit {0}
Reopened image batches limit (Err (fault.Refused BadImage)) =
    (n : WholeNode) → IsStored image batches n → ⊥
Reopened image batches limit (Err e) = ⊥
