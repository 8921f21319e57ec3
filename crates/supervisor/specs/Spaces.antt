-- What a call of a space leaves as it is.
use Rattle.std.specs.Prelude.{◌≡◌}

-- Four parts of a space stay the same.
abbrev pub Stay : {A B C E : Type 0} → A × B × C × E → A × B × C × E → Type 0
Stay old new = new ≡ old
