-- The view of `EarlyFrames` that contracts use: a list with one entry for each place of the window,
-- each a frame or nothing. The first place is that of the message to be received next.
use Rattle.std.specs.Prelude.{ℕ, cond, List, [], ◌∷◌, ◌++◌, drop, replicate, Option, Some, None, is_some, slice_index_or, slice_set}
use Rattle.ids.specs.declared.limits.TheConstants.{WINDOW}
use Rattle.msg.specs.declared.frame.Data.{Data}

abbrev pub no_early : List (Option Data)
no_early = replicate WINDOW None

abbrev pub place_at : List (Option Data) → ℕ → Option Data
place_at ring place = slice_index_or ring place None

-- a frame that is in its place already stays
abbrev pub placed : List (Option Data) → ℕ → Data → List (Option Data)
placed ring place d =
    cond (is_some (place_at ring place)) ring (slice_set ring place (Some d))

-- the first place is removed, and an empty one is added at the end
abbrev pub shifted : List (Option Data) → List (Option Data)
shifted ring = drop 1 ring ++ None ∷ []

abbrev pub emptied : List (Option Data) → List (Option Data)
emptied ring = slice_set ring 0 None
