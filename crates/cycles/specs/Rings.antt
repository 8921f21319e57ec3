-- A node's part of the ring with given fields, and after changes.
use Rattle.std.specs.Prelude.{ℤ, Option, Some}
use Rattle.msg.specs.declared.body.Colour.{Colour}
use Rattle.msg.specs.declared.body.Token.{Token}
use Rattle.model.specs.State.{Ring}

abbrev pub ring_of : Colour → ℤ → ℤ → Option Token → Ring
ring_of colour earlier recent token =
    record { colour = colour; earlier = earlier; recent = recent; token = token }

-- the token has arrived
abbrev pub with_token : Token → Ring → Ring
with_token token r = record r { token = Some token }
