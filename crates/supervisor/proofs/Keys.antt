-- A table has as many keys as its map has entries.
use Rattle.std.proofs.Common.{◌≡◌, List, [], ◌∷◌, length, suc, String, Global, refl, ap}
use Rattle.toml.specs.View.{members_view}
use Rattle.toml.specs.declared.value.Value.{Value}
use Rattle.supervisor.specs.Settings.{count_keys}

pub as-many-keys : (es : List (String Global × Value)) → count_keys (members_view es) ≡ length es
as-many-keys [] = refl
as-many-keys (e ∷ es) = ap suc (as-many-keys es)
