-- What the calls on packets do with the places that C gives.
use Rattle.std.specs.Prelude.{◌≡◌, ◌≢◌, ℕ, ℤ, pos, List, Option, Some, None}
use Rattle.std.specs.Option.{option_map}
use Rattle.codec.specs.Formats.{Format}
use Rattle.packets.specs.Laying.{HasNoFrame, IsFramed}

-- The value was written, and the number is 1. Without a value it is 0.
abbrev pub Gave : {A : Type 0} → Option A → A → A → ℤ → Type 0
Gave None old new number = (new ≡ old) × (number ≡ pos 0)
Gave (Some value) old new number = (new ≡ value) × (number ≡ pos 1)

-- The value that the bytes begin with was written; or they begin with none.
abbrev pub ReadInto : {A : Type 0} → Format A → List ℕ → A → A → ℤ → Type 0
ReadInto F bytes old new number = Gave (option_map (λ x. x.0) (F.read bytes)) old new number

-- The frame that the bytes begin with is from `new` up to `end`; or they begin with none, and `end`
-- is 0.
pub record FrameInto (bytes : List ℕ) (old new end : ℕ) : Type 0 where
  pub there : end ≢ 0 → IsFramed bytes new end
  pub none : end ≡ 0 → HasNoFrame bytes
  pub unchanged : end ≡ 0 → new ≡ old
