-- The texts of messages and frames, as the program prints them.
use Rattle.std.specs.Prelude.{ℕ, List, ◌++◌, codes, decimal, length}
use Rattle.std.specs.Fmt.{signed_decimal}
use Rattle.ids.specs.Texts.{optional_text, reference_text}
use Rattle.msg.specs.Frames.{Plain, data_frame, ack_frame}
use Rattle.msg.specs.declared.body.Body.{Body}
use Rattle.msg.specs.declared.body.Body.TheVariants as body
use Rattle.msg.specs.declared.body.Colour.{Colour}
use Rattle.msg.specs.declared.body.Colour.TheVariants.{White, Black}
use Rattle.msg.specs.declared.body.Token.{Token}

abbrev pub colour_text : Colour → List ℕ
colour_text White = codes "white"
colour_text Black = codes "black"

-- the token: its colour, and the sum of the balances that it has collected
abbrev pub token_text : Token → List ℕ
token_text t = colour_text t.colour ++ (codes " " ++ signed_decimal t.q)

-- the body of a message: its kind and its fields
abbrev pub body_text : Body → List ℕ
body_text body.Begin = codes "begin"
body_text (body.Token token) = codes "token " ++ token_text token
body_text (body.Mark target) = codes "mark " ++ reference_text target
body_text (body.Give label reference) =
    codes "give " ++ (decimal label ++ (codes " " ++ optional_text reference))
body_text (body.Put target place reference) =
    codes "put " ++ (reference_text target ++ (codes " " ++ (decimal place
    ++ (codes " " ++ optional_text reference))))
body_text (body.Get target place label) =
    codes "get " ++ (reference_text target ++ (codes " " ++ (decimal place
    ++ (codes " " ++ decimal label))))
body_text (body.Post label references bytes) =
    codes "post " ++ (decimal label ++ (codes " " ++ (decimal (length references)
    ++ (codes " references " ++ (decimal (length bytes) ++ codes " bytes")))))
body_text (body.Fetch target label offset count) =
    codes "fetch " ++ (reference_text target ++ (codes " " ++ (decimal label
    ++ (codes " " ++ (decimal offset ++ (codes " " ++ decimal count))))))
body_text body.Ended = codes "ended"
body_text body.Swept = codes "swept"

-- the two nodes of a frame, and its number
abbrev pub head_text : ℕ → ℕ → ℕ → List ℕ
head_text from to number =
    decimal from ++ (codes " to " ++ (decimal to ++ (codes " number " ++ decimal number)))

abbrev pub frame_text : Plain → List ℕ
frame_text (data_frame from to number stamp body) =
    codes "data " ++ (head_text from to number ++ (codes " stamp " ++ (decimal stamp
    ++ (codes " " ++ body_text body))))
frame_text (ack_frame by of number) = codes "ack " ++ head_text by of number
