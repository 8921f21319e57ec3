-- Being within the limits.
use Rattle.std.specs.Prelude.{ℕ, ◌≡◌, ◌≤◌, Bool, true, false, ◌&&◌, nat_lt, nat_le}
use Rattle.ids.specs.declared.names.Ref.{Ref}
use Rattle.ids.specs.declared.limits.TheConstants.{LEAST_NODES, GREATEST_NODES}
use Rattle.ids.specs.declared.limits.TheConstants.{GREATEST_REGISTERS, GREATEST_SLOTS}
use Rattle.ids.specs.declared.limits.TheConstants.{GREATEST_BYTES, GREATEST_PLACES, PLAIN_PLACES}
use Rattle.ids.specs.declared.limits.TheConstants.{PLAIN_REGISTERS, PLAIN_SLOTS}

-- The sizes of a space, and its kind: wide, or plain. `places` is how many places an object has at
-- most, and `bytes` how many bytes.
pub record Shaped : Type 0 where
  pub nodes : ℕ
  pub registers : ℕ
  pub slots : ℕ
  pub places : ℕ
  pub bytes : ℕ
  pub wide : Bool

-- a plain space of these sizes
abbrev pub plain_shape : ℕ → ℕ → ℕ → Shaped
plain_shape nodes registers slots = record {
  nodes = nodes;
  registers = registers;
  slots = slots;
  places = PLAIN_PLACES;
  bytes = 0;
  wide = false;
}

-- a wide space of these sizes
abbrev pub wide_shape : ℕ → ℕ → ℕ → ℕ → ℕ → Shaped
wide_shape nodes registers slots places bytes = record {
  nodes = nodes;
  registers = registers;
  slots = slots;
  places = places;
  bytes = bytes;
  wide = true;
}

-- the sizes of a plain space
pub record IsPlainSized (s : Shaped) : Type 0 where
  pub most_registers : s.registers ≤ PLAIN_REGISTERS
  pub most_slots : s.slots ≤ PLAIN_SLOTS
  pub places : s.places ≡ PLAIN_PLACES
  pub bytes : s.bytes ≡ 0

-- sizes within the limits of their kind
pub record IsShape (s : Shaped) : Type 0 where
  pub least_nodes : LEAST_NODES ≤ s.nodes
  pub most_nodes : s.nodes ≤ GREATEST_NODES
  pub least_registers : 1 ≤ s.registers
  pub most_registers : s.registers ≤ GREATEST_REGISTERS
  pub least_slots : 1 ≤ s.slots
  pub most_slots : s.slots ≤ GREATEST_SLOTS
  pub most_places : s.places ≤ GREATEST_PLACES
  pub most_bytes : s.bytes ≤ GREATEST_BYTES
  pub plain : s.wide ≡ false → IsPlainSized s

-- a reference within the limits
abbrev pub reference_fits : Ref → Bool
reference_fits r =
    nat_lt r.node GREATEST_NODES && (nat_lt r.slot GREATEST_SLOTS && nat_le 1 r.generation)
