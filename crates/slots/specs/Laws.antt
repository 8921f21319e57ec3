-- What holds of every run, and of every opening.
use Rattle.std.specs.Prelude.{◌≡◌, ◌≢◌, ◌≤◌, ◌<◌, ◌⊎◌, ℕ, true, ◌∷◌, List, Some}
use Rattle.std.specs.List.{Contains}
use Rattle.slots.specs.declared.saving.TheConstants.{NUMBERS}
use Rattle.slots.specs.declared.opening.Choice.TheVariants as choice
use Rattle.slots.specs.Openings.{chosen}
use Rattle.slots.specs.Disk.{is_mark_of, looked_all, read, whole_at, Content, ForMark, Item, Look, Reading}
use Rattle.slots.specs.Runs.{Folder, Sight, choice_of, is_saving, step, Open, Store}
use Rattle.slots.specs.Disk as disk

-- An opening finds what was saved last, of which it is known that it is stored; or what one of the
-- saves begun since then was to save. So nothing older is found, and not nothing.
abbrev pub FindsLast : Folder → Type 0
FindsLast h = (s : Sight) → Contains (h.stored ∷ h.begun) (step h (Open s)).stored

-- Once the sync after a save has succeeded, an opening finds that.
abbrev pub FindsStored : Folder → Type 0
FindsStored h =
    is_saving h ≡ true → (fates : disk.Fates) (s : Sight)
    → (step (step h (Store fates)) (Open s)).stored ≡ h.item.save

-- It is never said that the folder is damaged.
abbrev pub NeverDamaged : Folder → Type 0
NeverDamaged h = (s : Sight) → choice_of h s ≢ choice.Damaged

-- ---- marks

-- what is read of this content, whatever has become of it
abbrev pub reading_of : ℕ → Content → List Look → Reading
reading_of most c looks = looked_all c (read most c) looks

-- The reader looks at the place of a mark, which is whole, and of the value that was read.
pub record SeesMark (most : ℕ) (c : Content) (looks : List Look) (m : Item) : Type 0 where
  pub at : ℕ
  pub look : Contains looks (ForMark at)
  pub whole : whole_at c at ≡ Some m
  pub of_value : is_mark_of (read most c) m ≡ true
  pub number : m.number < NUMBERS

-- Whatever two files hold: if a mark is seen in one of them, no save before that of the mark is
-- opened, of either file. Then they are said to be damaged.
abbrev pub MarksHold : Type 0
MarksHold =
    (most : ℕ) (first second : Content) (looks_first looks_second : List Look) (m : Item)
    → SeesMark most first looks_first m ⊎ SeesMark most second looks_second m
    → (chosen (reading_of most first looks_first).found
    (reading_of most second looks_second).found
    ≡ choice.First
    → m.number ≤ (reading_of most first looks_first).found.number)
    × (chosen (reading_of most first looks_first).found
    (reading_of most second looks_second).found
    ≡ choice.Second
    → m.number ≤ (reading_of most second looks_second).found.number)
