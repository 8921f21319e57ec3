-- The images that a process takes of its node for saves, which are numbered from 1 on. A flag is 0
-- for no; any other number means yes.
use Rattle.std.specs.Prelude.{◌≡◌, ◌≢◌, ◌<◌, ◌≤◌, ◌+◌, ◌-◌, ℕ, Bool, true, false, ◌&&◌, not, cond, nat_lt, nat_le, ◌==◌}
use Rattle.programs.specs.declared.images.TheConstants.{NEVER}
use Rattle.programs.specs.declared.images.Images.{Images}

abbrev pub new_images : Images
new_images = record { taken = 0; kept = 0; changed = 0; saving = 0 }

abbrev pub has_changed : Images → Bool
has_changed i = not (i.changed == 0)

-- something has changed
abbrev pub changed_images : Images → Images
changed_images i = record i { changed = 1 }

-- A save may begin: one is due, none is under way, and a number is left.
pub record MayBegin (i : Images) : Type 0 where
  pub due : i.changed ≢ 0
  pub alone : i.saving ≡ 0
  pub numbered : i.taken + 1 < NEVER

abbrev pub may_begin : Images → Bool
may_begin i = has_changed i && i.saving == 0 && nat_lt i.taken (NEVER - 1)

-- the next image is taken, for a save that begins, or not
abbrev pub begun_images : Images → Bool → Images
begun_images i true = record i { taken = i.taken + 1; changed = 0; saving = 1 }
begun_images i false = i

-- the save that was under way is stored, or has failed
abbrev pub stored_images : Images → Images
stored_images i = cond (i.saving == 0) i (record i { kept = i.taken; saving = 0 })

abbrev pub failed_images : Images → Images
failed_images i = cond (i.saving == 0) i (record i { changed = 1; saving = 0 })

-- The image that will hold what has happened so far: the last one that was taken, or the next one
-- if something has changed since. (NEVER if the next one has no number.)
abbrev pub due_image : Bool → ℕ → ℕ
due_image changed taken = cond (changed && nat_lt taken NEVER) (taken + 1) taken

abbrev pub image_due : Images → ℕ
image_due i = due_image (has_changed i) i.taken

-- An answer that shows what the image `due` holds may leave.
pub record MayLeave (i : Images) (due : ℕ) : Type 0 where
  pub stored : due ≤ i.kept
  pub numbered : due < NEVER

abbrev pub may_leave : Images → ℕ → Bool
may_leave i due = nat_le due i.kept && nat_lt due NEVER
