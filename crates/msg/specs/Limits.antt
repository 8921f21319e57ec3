-- The limits of what a frame holds, as tests.
use Rattle.std.specs.Prelude.{ℕ, ◌+◌, ◌==◌, ◌&&◌, nat_lt, nat_le, Bool, true, false, not, List, length, Option, Some, None}
use Rattle.std.specs.List.{list_all}
use Rattle.ids.specs.Limits.{reference_fits}
use Rattle.ids.specs.declared.names.Ref.{Ref}
use Rattle.ids.specs.declared.limits.TheConstants.{GREATEST_NODES, GREATEST_PLACES}
use Rattle.ids.specs.declared.limits.TheConstants.{GREATEST_NUMBER, GREATEST_CYCLE}
use Rattle.ids.specs.declared.limits.TheConstants.{GREATEST_LETTER, WORD_BYTES}
use Rattle.ids.specs.declared.limits.TheConstants.{PLAIN_PLACES, PLAIN_SLOTS}
use Rattle.msg.specs.declared.body.Body.{Body}
use Rattle.msg.specs.declared.body.Body.TheVariants as body

abbrev pub optional_fits : Option Ref → Bool
optional_fits None = true
optional_fits (Some r) = reference_fits r

-- a place of an object
abbrev pub place_fits : Ref → ℕ → Bool
place_fits target place = reference_fits target && nat_lt place GREATEST_PLACES

-- a letter with references and bytes, as only wide spaces have them
abbrev pub is_post : Body → Bool
is_post (body.Post label references bytes) = true
is_post b = false

-- a letter may carry these references, and this many bytes
abbrev pub letter_fits : List (Option Ref) → ℕ → Bool
letter_fits references count =
    nat_le (length references) GREATEST_PLACES
    && (nat_le count GREATEST_LETTER && list_all optional_fits references)

-- an object's word and this many of its bytes are no more than a letter may carry
abbrev pub fetch_fits : ℕ → Bool
fetch_fits count = nat_le (WORD_BYTES + count) GREATEST_LETTER

-- a body whose references and places are within the limits
abbrev pub body_fits : Body → Bool
body_fits body.Begin = true
body_fits (body.Token token) = true
body_fits (body.Mark target) = reference_fits target
body_fits (body.Give label reference) = optional_fits reference
body_fits (body.Put target place reference) = place_fits target place && optional_fits reference
body_fits (body.Get target place label) = place_fits target place
body_fits (body.Post label references bytes) = letter_fits references (length bytes)
body_fits (body.Fetch target label offset count) = reference_fits target && fetch_fits count
body_fits body.Ended = true
body_fits body.Swept = true

-- a reference that a plain space has room for
abbrev pub is_plain_reference : Ref → Bool
is_plain_reference r = nat_lt r.slot PLAIN_SLOTS

abbrev pub is_plain_optional : Option Ref → Bool
is_plain_optional None = true
is_plain_optional (Some r) = is_plain_reference r

-- a place that an object of a plain space may have
abbrev pub is_plain_place : Ref → ℕ → Bool
is_plain_place target place = is_plain_reference target && nat_lt place PLAIN_PLACES

-- a body whose references and places are within the limits of plain spaces
abbrev pub is_plain_body : Body → Bool
is_plain_body body.Begin = true
is_plain_body (body.Token token) = true
is_plain_body (body.Mark target) = is_plain_reference target
is_plain_body (body.Give label reference) = is_plain_optional reference
is_plain_body (body.Put target place reference) =
    is_plain_place target place && is_plain_optional reference
is_plain_body (body.Get target place label) = is_plain_place target place
is_plain_body (body.Post label references bytes) = false
is_plain_body (body.Fetch target label offset count) = false
is_plain_body body.Ended = true
is_plain_body body.Swept = true

-- two different nodes
abbrev pub nodes_fit : ℕ → ℕ → Bool
nodes_fit from to = nat_lt from GREATEST_NODES && (nat_lt to GREATEST_NODES && not (from == to))

-- the parts of a data frame: two different nodes, the message's number, its stamp and its body
abbrev pub data_fits : ℕ → ℕ → ℕ → ℕ → Body → Bool
data_fits from to number stamp body =
    nodes_fit from to
    && (nat_le 1 number
    && (nat_le number GREATEST_NUMBER && (nat_le stamp GREATEST_CYCLE && body_fits body)))

-- the parts of an acknowledgement: two different nodes, and a number
abbrev pub ack_fits : ℕ → ℕ → ℕ → Bool
ack_fits by of number = nodes_fit by of && nat_le number GREATEST_NUMBER
