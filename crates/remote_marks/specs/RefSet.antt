-- The view of an ordered set of references, and how it is tied to its index.
use Rattle.std.specs.Prelude.{◌≡◌, List}
use Rattle.std.specs.List.{IsDistinct}
use Rattle.ids.specs.declared.names.Ref.{Ref}
use Rattle.model.specs.Shading.{is_in, is_same}

-- the references, the oldest first
pub record RefSetView : Type 0 where
  pub keys : List Ref

-- the index has exactly the references of the list, and the list has each of them once
pub record IsIndexed (index order : List Ref) : Type 0 where
  pub same : (r : Ref) → is_in r index ≡ is_in r order
  pub once : IsDistinct is_same order
