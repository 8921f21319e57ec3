-- What a TOML document says about a space.
use Rattle.std.specs.Prelude.{ℕ, ℤ, Bool, true, pos, ◌==◌, ◌+◌, ◌&&◌, nat_le, suc, cond, List, Option, Some, None, codes, is_some, option_and_then, option_map, string_bytes}
use Rattle.std.specs.Str.{bytes_eq}
use Rattle.ids.specs.Limits.{Shaped, plain_shape, wide_shape}
use Rattle.ids.specs.declared.limits.TheConstants.{LEAST_NODES, GREATEST_NODES}
use Rattle.ids.specs.declared.limits.TheConstants.{GREATEST_BYTES, GREATEST_PLACES, GREATEST_REGISTERS}
use Rattle.ids.specs.declared.limits.TheConstants.{GREATEST_SLOTS, PLAIN_REGISTERS, PLAIN_SLOTS}
use Rattle.ids.specs.declared.saves.Saves.{Saves}
use Rattle.ids.specs.declared.saves.Saves.TheVariants as saves
use Rattle.toml.specs.Data.{Data, Members, no_members, member, as_bool, as_integer, as_str, get_member}
use Rattle.toml.specs.Parse.{parse_document}
use Rattle.supervisor.specs.declared.config.Config.{Config}
use Rattle.supervisor.specs.declared.config.Found.{Found}
use Rattle.supervisor.specs.declared.config.ObjectSize.{ObjectSize}
use Rattle.supervisor.specs.declared.config.TheConstants.{GREATEST_TURNS}

-- the sizes of a space, the most turns of a worker, what a save writes, the folder of its disks,
-- whether saves get seals there, and whether workers reclaim
pub record Settings : Type 0 where
  pub shape : Shaped
  pub turns : ℕ
  pub saves : Saves
  pub folder : Option (List ℕ)
  pub seals : Bool
  pub reclaims : Bool

abbrev pub settings_of : Config → Settings
settings_of c = record {
  shape = c.shape;
  turns = c.turns;
  saves = c.saves;
  folder = option_map (λ s. string_bytes s) c.folder;
  seals = c.seals;
  reclaims = c.reclaims;
}

abbrev pub found_settings : Found → Settings
found_settings f = record {
  shape = f.shape;
  turns = f.turns;
  saves = f.saves;
  folder = option_map (λ s. s.now) f.folder;
  seals = f.seals;
  reclaims = f.reclaims;
}

-- a number within these limits
abbrev pub within : ℕ → ℕ → Option ℤ → Option ℕ
within least greatest (Some (pos n)) = cond (nat_le least n && nat_le n greatest) (Some n) None
within least greatest _ = None

abbrev pub number_at : List ℕ → ℕ → ℕ → Members → Option ℕ
number_at key least greatest t =
    within least greatest (option_and_then as_integer (get_member key t))

-- a number of places and one of bytes, or neither; anything else is rejected
abbrev pub size_in : Option Data → Option Data → Option (Option ObjectSize)
size_in None None = Some None
size_in (Some d) (Some e) =
    option_and_then (λ places. option_map (λ bytes.
    Some (record { places = places; bytes = bytes }))
    (within 0 GREATEST_BYTES (as_integer e)))
    (within 0 GREATEST_PLACES (as_integer d))
size_in _ _ = None

-- a string or nothing; anything else is rejected
abbrev pub folder_in : Option Data → Option (Option (List ℕ))
folder_in None = Some None
folder_in (Some d) = option_map (λ s. Some s) (as_str d)

-- one of two names or nothing; anything else is rejected
abbrev pub saves_named : List ℕ → Option Saves
saves_named name =
    cond (bytes_eq name (codes "images")) (Some saves.Images)
    (cond (bytes_eq name (codes "events")) (Some saves.Events) None)

abbrev pub saves_in : Option Data → Option (Option Saves)
saves_in None = Some None
saves_in (Some d) = option_map (λ s. Some s) (option_and_then saves_named (as_str d))

-- a truth value or nothing; anything else is rejected
abbrev pub flag_in : Option Data → Option (Option Bool)
flag_in None = Some None
flag_in (Some d) = option_map (λ b. Some b) (as_bool d)

-- true unless the configuration says otherwise: that saves get seals, and that workers reclaim
abbrev pub is_on : Option Bool → Bool
is_on (Some b) = b
is_on None = true

-- a save writes the image unless the configuration says otherwise
abbrev pub chosen : Option Saves → Saves
chosen (Some s) = s
chosen None = saves.Images

-- how many keys there are; each key occurs once in a table
abbrev pub count_keys : Members → ℕ
count_keys no_members = 0
count_keys (member key d ms) = suc (count_keys ms)

-- With the size of an object, the space is wide.
abbrev pub most_registers : Option ObjectSize → ℕ
most_registers (Some size) = GREATEST_REGISTERS
most_registers None = PLAIN_REGISTERS

abbrev pub most_slots : Option ObjectSize → ℕ
most_slots (Some size) = GREATEST_SLOTS
most_slots None = PLAIN_SLOTS

abbrev pub shape_of : Option ObjectSize → ℕ → ℕ → ℕ → Shaped
shape_of (Some size) nodes registers slots =
    wide_shape nodes registers slots size.places size.bytes
shape_of None nodes registers slots = plain_shape nodes registers slots

abbrev pub shape_at : Option ObjectSize → Members → Option Shaped
shape_at size t =
    option_and_then (λ nodes. option_and_then (λ registers. option_map (λ slots.
    shape_of size nodes registers slots)
    (number_at (codes "slots") 1 (most_slots size) t))
    (number_at (codes "registers") 1 (most_registers size) t))
    (number_at (codes "nodes") LEAST_NODES GREATEST_NODES t)

-- the four required keys, the optional ones if they are there, and no other key
abbrev pub table_settings : Members → Option Settings
table_settings t =
    option_and_then (λ size. option_and_then (λ shape. option_and_then (λ turns.
    option_and_then (λ save. option_and_then (λ folder. option_and_then (λ seals.
    option_and_then (λ reclaims.
    cond (count_keys t == 4 + cond (is_some size) 2 0 + cond (is_some save) 1 0
    + cond (is_some folder) 1 0 + cond (is_some seals) 1 0 + cond (is_some reclaims) 1 0)
    (Some (record {
      shape = shape;
      turns = turns;
      saves = chosen save;
      folder = folder;
      seals = is_on seals;
      reclaims = is_on reclaims;
    })) None)
    (flag_in (get_member (codes "reclaims") t)))
    (flag_in (get_member (codes "seals") t)))
    (folder_in (get_member (codes "folder") t)))
    (saves_in (get_member (codes "saves") t)))
    (number_at (codes "turns") 1 GREATEST_TURNS t))
    (shape_at size t))
    (size_in (get_member (codes "places") t) (get_member (codes "bytes") t))

abbrev pub text_settings : List ℕ → Option Settings
text_settings text = option_and_then table_settings (parse_document text)
