-- What a disk holds of a node.
use Rattle.std.specs.Prelude.{◌≡◌, ◌⊎◌, ℕ, false, List, Some}
use Rattle.disk.specs.Areas.{Areas, IsBlank}
use Rattle.disk_shelf.specs.Logs.{Restores}
use Rattle.disk_shelf.specs.Shelf.{opened}
use Rattle.image_parts.specs.Logs.{begins_logged}
use Rattle.image.specs.Logged.{IsAnyWholeOf}
use Rattle.node.specs.Keeping.{WholeNode}
use Rattle.node_store.specs.Values.{LeadsWhole}

-- The disk opens to this node: to an image, and to the events behind it if a log follows it.
abbrev pub Keeps : WholeNode → Areas → Type 0
Keeps n c = Restores begins_logged IsAnyWholeOf LeadsWhole n c

-- the disk opens to the old node or to the new one
abbrev pub KeepsEither : WholeNode → WholeNode → Areas → Type 0
KeepsEither old new c = Keeps old c ⊎ Keeps new c

-- the disk is blank, or opens to this node
abbrev pub KeepsNone : WholeNode → Areas → Type 0
KeepsNone new c = IsBlank c ⊎ Keeps new c

-- no log follows the image that the disk opens to
abbrev pub IsPlain : Areas → Type 0
IsPlain c = (image : List ℕ) → opened c ≡ Some image → begins_logged image ≡ false

-- nor the image in what a crash leaves
abbrev pub StaysPlain : (Areas → Type 0) → Type 0
StaysPlain may_leave = (c : Areas) → may_leave c → IsPlain c
