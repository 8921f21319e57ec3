-- Events as plain data, and the one spelling of each.
use Rattle.std.specs.Prelude.{ℕ, List, [], ◌∷◌}
use Rattle.codec.specs.Formats.{Format, Reader, Behind, byte, number2, number4, number8, nothing}
use Rattle.codec.specs.Formats.{bytes4, ◌&◌, tag, tagged, made_at}
use Rattle.ids.specs.declared.names.Ref.{Ref}
use Rattle.msg.specs.declared.body.Body.{Body}
use Rattle.model.specs.declared.age.Scope.{Scope}
use Rattle.model.specs.declared.age.Scope.TheVariants as scope
use Rattle.frames.specs.declared.version.Version.TheVariants.{Second}
use Rattle.frames.specs.Formats.{reference, sent, known}

-- an event without the proof that its message is within the limits
pub data Entry : Type 0 where
  -- register and places
  alloc : ℕ → ℕ → Entry
  -- register and source
  copy : ℕ → ℕ → Entry
  -- register
  dropped : ℕ → Entry
  -- register, object and place
  load : ℕ → ℕ → ℕ → Entry
  -- object, place and register
  store : ℕ → ℕ → ℕ → Entry
  -- object and place
  clear : ℕ → ℕ → Entry
  -- object
  word : ℕ → Entry
  -- object and word
  set_word : ℕ → ℕ → Entry
  -- object and bytes
  set_bytes : ℕ → List ℕ → Entry
  -- object, offset and bytes
  patch : ℕ → ℕ → List ℕ → Entry
  -- node, label and register
  give : ℕ → ℕ → ℕ → Entry
  -- register
  accept : ℕ → Entry
  -- object, place and register
  put : ℕ → ℕ → ℕ → Entry
  -- object, place and label
  get : ℕ → ℕ → ℕ → Entry
  -- node, label, first register, count and bytes
  post : ℕ → ℕ → ℕ → ℕ → List ℕ → Entry
  -- object, label, offset and count
  fetch : ℕ → ℕ → ℕ → ℕ → Entry
  -- register and reference
  resolve : ℕ → Ref → Entry
  -- scope
  reclaim : Scope → Entry
  begin : Entry
  scan : Entry
  pass : Entry
  -- count
  sweep : ℕ → Entry
  -- node
  next : ℕ → Entry
  -- from, to, number, stamp and body
  received : ℕ → ℕ → ℕ → ℕ → Body → Entry
  -- by, of and number
  acknowledged : ℕ → ℕ → ℕ → Entry

-- how what follows a tag is spelled

abbrev pub one : Format ℕ
one = number2

abbrev pub two : Format (ℕ × ℕ)
two = number2 & number2

abbrev pub placed : Format (ℕ × ℕ)
placed = number2 & byte

abbrev pub loaded : Format (ℕ × (ℕ × ℕ))
loaded = number2 & number2 & byte

abbrev pub stored : Format (ℕ × (ℕ × ℕ))
stored = number2 & byte & number2

abbrev pub worded : Format (ℕ × ℕ)
worded = number2 & number8

abbrev pub filled : Format (ℕ × List ℕ)
filled = number2 & bytes4

abbrev pub patched : Format (ℕ × (ℕ × List ℕ))
patched = number2 & number4 & bytes4

abbrev pub given : Format (ℕ × (ℕ × ℕ))
given = byte & number4 & number2

abbrev pub asked : Format (ℕ × (ℕ × ℕ))
asked = number2 & byte & number4

abbrev pub posted : Format (ℕ × (ℕ × (ℕ × (ℕ × List ℕ))))
posted = byte & number4 & number2 & byte & bytes4

abbrev pub fetched : Format (ℕ × (ℕ × (ℕ × ℕ)))
fetched = number2 & number4 & number4 & number4

abbrev pub resolved : Format (ℕ × Ref)
resolved = number2 & reference Second

abbrev pub entry_tag : Entry → Behind
entry_tag (alloc register places) = tag 1 placed (register, places)
entry_tag (copy register source) = tag 2 two (register, source)
entry_tag (dropped register) = tag 3 one register
entry_tag (load register object place) = tag 4 loaded (register, (object, place))
entry_tag (store object place register) = tag 5 stored (object, (place, register))
entry_tag (clear object place) = tag 6 placed (object, place)
entry_tag (word object) = tag 7 one object
entry_tag (set_word object value) = tag 8 worded (object, value)
entry_tag (set_bytes object bytes) = tag 18 filled (object, bytes)
entry_tag (patch object offset bytes) = tag 19 patched (object, (offset, bytes))
entry_tag (give to label register) = tag 9 given (to, (label, register))
entry_tag (accept register) = tag 10 one register
entry_tag (put object place register) = tag 11 stored (object, (place, register))
entry_tag (get object place label) = tag 12 asked (object, (place, label))
entry_tag (reclaim scope.All) = tag 20 nothing tt
entry_tag (reclaim scope.Young) = tag 21 nothing tt
entry_tag (post to label first count bytes) =
    tag 22 posted (to, (label, (first, (count, bytes))))
entry_tag (fetch object label offset count) = tag 23 fetched (object, (label, (offset, count)))
entry_tag (resolve register r) = tag 24 resolved (register, r)
entry_tag begin = tag 13 nothing tt
entry_tag scan = tag 14 nothing tt
entry_tag pass = tag 15 nothing tt
entry_tag (sweep count) = tag 16 number4 count
entry_tag (next from) = tag 17 byte from
entry_tag (received from to number stamp body) =
    tag 0x45 sent ((from, (to, number)), (stamp, body))
entry_tag (acknowledged by of number) = tag 0x42 known (by, (of, number))

unfoldable pub alloc_at : Reader Entry
alloc_at bytes = made_at placed (λ x. alloc x.0 x.1) bytes

unfoldable pub copy_at : Reader Entry
copy_at bytes = made_at two (λ x. copy x.0 x.1) bytes

unfoldable pub load_at : Reader Entry
load_at bytes = made_at loaded (λ x. load x.0 x.1.0 x.1.1) bytes

unfoldable pub store_at : Reader Entry
store_at bytes = made_at stored (λ x. store x.0 x.1.0 x.1.1) bytes

unfoldable pub clear_at : Reader Entry
clear_at bytes = made_at placed (λ x. clear x.0 x.1) bytes

unfoldable pub set_word_at : Reader Entry
set_word_at bytes = made_at worded (λ x. set_word x.0 x.1) bytes

unfoldable pub set_bytes_at : Reader Entry
set_bytes_at bytes = made_at filled (λ x. set_bytes x.0 x.1) bytes

unfoldable pub patch_at : Reader Entry
patch_at bytes = made_at patched (λ x. patch x.0 x.1.0 x.1.1) bytes

unfoldable pub give_at : Reader Entry
give_at bytes = made_at given (λ x. give x.0 x.1.0 x.1.1) bytes

unfoldable pub put_at : Reader Entry
put_at bytes = made_at stored (λ x. put x.0 x.1.0 x.1.1) bytes

unfoldable pub get_at : Reader Entry
get_at bytes = made_at asked (λ x. get x.0 x.1.0 x.1.1) bytes

unfoldable pub post_at : Reader Entry
post_at bytes = made_at posted (λ x. post x.0 x.1.0 x.1.1.0 x.1.1.1.0 x.1.1.1.1) bytes

unfoldable pub fetch_at : Reader Entry
fetch_at bytes = made_at fetched (λ x. fetch x.0 x.1.0 x.1.1.0 x.1.1.1) bytes

unfoldable pub resolve_at : Reader Entry
resolve_at bytes = made_at resolved (λ x. resolve x.0 x.1) bytes

unfoldable pub received_at : Reader Entry
received_at bytes = made_at sent (λ x. received x.0.0 x.0.1.0 x.0.1.1 x.1.0 x.1.1) bytes

unfoldable pub acknowledged_at : Reader Entry
acknowledged_at bytes = made_at known (λ x. acknowledged x.0 x.1.0 x.1.1) bytes

abbrev pub entries : List (ℕ × Reader Entry)
entries =
    (1, alloc_at)
    ∷ (2, copy_at)
    ∷ (3, made_at one dropped)
    ∷ (4, load_at)
    ∷ (5, store_at)
    ∷ (6, clear_at)
    ∷ (7, made_at one word)
    ∷ (8, set_word_at)
    ∷ (9, give_at)
    ∷ (10, made_at one accept)
    ∷ (11, put_at)
    ∷ (12, get_at)
    ∷ (13, made_at nothing (λ _. begin))
    ∷ (14, made_at nothing (λ _. scan))
    ∷ (15, made_at nothing (λ _. pass))
    ∷ (16, made_at number4 sweep)
    ∷ (17, made_at byte next)
    ∷ (18, set_bytes_at)
    ∷ (19, patch_at)
    ∷ (20, made_at nothing (λ _. reclaim scope.All))
    ∷ (21, made_at nothing (λ _. reclaim scope.Young))
    ∷ (22, post_at)
    ∷ (23, fetch_at)
    ∷ (24, resolve_at)
    ∷ (0x42, acknowledged_at)
    ∷ (0x45, received_at)
    ∷ []

-- how an event is spelled
unfoldable pub entry : Format Entry
entry = tagged entry_tag entries
