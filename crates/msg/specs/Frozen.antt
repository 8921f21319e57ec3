-- Values that no longer change, as plain data.
use Rattle.std.specs.Prelude.{List, [], Option, Some, None}
use Rattle.std.specs.declared.sync.ArcSlice.{ArcSlice}
use Rattle.std.specs.Arc.{arc_slice_items}

abbrev pub frozen : {T A : Type 0} → Option (ArcSlice T A) → List T
frozen None = []
frozen (Some items) = arc_slice_items items
