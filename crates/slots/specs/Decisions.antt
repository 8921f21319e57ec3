-- The places to which saves are written, and what is so of the slots after each call. All numbers
-- are below 2 ^ 64.
use Rattle.std.specs.Prelude.{ℕ, ◌+◌, ◌-◌, Bool, ◌&&◌, ◌||◌, not, cond, nat_lt, nat_le, ◌==◌, Option, Some, None}
use Rattle.slots.specs.declared.saving.TheConstants.{DUE, ENTRY, ENTRY_HEAD, HEAD, IDLE, LAST, MOST, NUMBERS, TAIL, TOP, UNSURE, WHOLE}
use Rattle.slots.specs.declared.saving.Slots.{Slots}
use Rattle.slots.specs.declared.saving.Target.{Target}
use Rattle.slots.specs.declared.saving.Mark.{Mark}
use Rattle.slots.specs.declared.rewrite.Rewrite.{Rewrite}
use Rattle.slots.specs.declared.rewrite.Copying.{Copying}
use Rattle.slots.specs.declared.opening.Found.{Found}

-- how many bytes a value and an entry of this length have, with what is around them
abbrev pub value_size : ℕ → ℕ
value_size length = HEAD + length + TAIL

abbrev pub entry_size : ℕ → ℕ
entry_size length = ENTRY_HEAD + length + TAIL

abbrev pub other : ℕ → ℕ
other slot = cond (slot == 0) 1 0

-- ---- an open folder

abbrev pub created : ℕ → Slots
created number = record {
  number = number;
  end = 0;
  seal = 0;
  base = 0;
  length = 0;
  next_end = 0;
  next_base = 0;
  next_length = 0;
  turns = 0;
  counts = 1;
  phase = DUE;
}

abbrev pub opened : ℕ → Found → (end seal base length : ℕ) → Slots
opened slot found end seal base length = record {
  number = found.number;
  end = end;
  seal = seal;
  base = base;
  length = length;
  next_end = 0;
  next_base = 0;
  next_length = 0;
  turns = 0;
  counts = slot;
  phase = cond (found.version == 2) IDLE DUE;
}

-- nothing is under way, and an entry may be added
abbrev pub is_idle : Slots → Bool
is_idle s = s.phase == IDLE

-- a save that ends so may begin
abbrev pub fits : Slots → (end length : ℕ) → Bool
fits s end length =
    (nat_lt s.number NUMBERS && nat_lt s.turns NUMBERS) && (nat_le end MOST && nat_le length MOST)

-- ---- entries

abbrev pub may_add : Slots → ℕ → Bool
may_add s length = is_idle s && fits s s.end length

abbrev pub adding : Slots → ℕ → Slots
adding s length =
    record s {
      phase = ENTRY;
      number = s.number + 1;
      next_end = s.end + entry_size length;
    }

abbrev pub entry_place : Slots → ℕ → Option Target
entry_place s length =
    cond (may_add s length)
    (Some (record { offset = s.end; number = s.number + 1; before = s.seal; slot = s.counts }))
    None

abbrev pub after_entry : Slots → ℕ → Slots
after_entry s length = cond (may_add s length) (adding s length) s

-- ---- whole values

abbrev pub may_replace : Slots → ℕ → Bool
may_replace s length = (is_idle s || s.phase == DUE) && fits s 0 length

abbrev pub replacing : Slots → ℕ → Slots
replacing s length =
    record s {
      phase = WHOLE;
      number = s.number + 1;
      turns = s.turns + 1;
      next_end = value_size length;
      next_length = length;
    }

abbrev pub whole_place : Slots → ℕ → Option Target
whole_place s length =
    cond (may_replace s length)
    (Some (record { offset = 0; number = s.number + 1; before = 0; slot = other s.counts })) None

abbrev pub after_whole : Slots → ℕ → Slots
after_whole s length = cond (may_replace s length) (replacing s length) s

-- ---- rewrites

abbrev pub may_rewrite : Slots → Bool
may_rewrite s = is_idle s && nat_lt s.turns NUMBERS

abbrev pub rewrite_of : Slots → Option Rewrite
rewrite_of s =
    cond (may_rewrite s)
    (Some
    (record {
      turn = s.turns + 1;
      number = s.number;
      from_end = s.end;
      from_seal = s.seal;
      base = 0;
      seal = 0;
      length = 0;
      end = 0;
      from = s.counts;
    }))
    None

abbrev pub after_rewrite : Slots → Slots
after_rewrite s = cond (may_rewrite s) (record s { turns = s.turns + 1 }) s

abbrev pub may_write : Rewrite → ℕ → Bool
may_write r length = r.end == 0 && nat_le length MOST

abbrev pub value_place : Rewrite → ℕ → Option Target
value_place r length =
    cond (may_write r length)
    (Some (record { offset = 0; number = r.number; before = 0; slot = other r.from })) None

abbrev pub after_value : Rewrite → (length seal : ℕ) → Rewrite
after_value r length seal =
    cond (may_write r length)
    (record r { base = seal; seal = seal; length = length; end = value_size length }) r

abbrev pub may_copy : Rewrite → ℕ → Bool
may_copy r end =
    (not (r.end == 0) && nat_le r.end MOST) && (nat_le end MOST && nat_le r.from_end end)

abbrev pub copying : Rewrite → ℕ → Option Copying
copying r end =
    cond (may_copy r end)
    (Some
    (record {
      length = end - r.from_end;
      from = r.from_end;
      to = r.end;
      from_slot = r.from;
      to_slot = other r.from;
    }))
    None

abbrev pub after_copies : Rewrite → (end from_seal seal : ℕ) → Rewrite
after_copies r end from_seal seal =
    cond (may_copy r end)
    (record r {
      from_end = end;
      from_seal = from_seal;
      seal = seal;
      end = r.end + (end - r.from_end);
    })
    r

-- the rewrite is the last one that was begun, and has copied all entries
abbrev pub is_ready : Slots → Rewrite → Bool
is_ready s r = (r.turn == s.turns && not (r.end == 0)) && r.from_end == s.end

abbrev pub may_end : Slots → Rewrite → ℕ → Bool
may_end s r length = (is_idle s && fits s r.end length) && is_ready s r

abbrev pub ending : Slots → Rewrite → ℕ → Slots
ending s r length =
    record s {
      phase = LAST;
      number = s.number + 1;
      next_end = r.end + entry_size length;
      next_base = r.base;
      next_length = r.length;
    }

abbrev pub last_place : Slots → Rewrite → ℕ → Option Target
last_place s r length =
    cond (may_end s r length)
    (Some (record {
      offset = r.end;
      number = s.number + 1;
      before = r.seal;
      slot = other s.counts;
    }))
    None

abbrev pub after_last : Slots → Rewrite → ℕ → Slots
after_last s r length = cond (may_end s r length) (ending s r length) s

-- ---- how saves end

-- an entry counts
abbrev pub added : Slots → ℕ → Slots
added s seal = record s { phase = IDLE; end = s.next_end; seal = seal }

-- what is in the other slot counts: a value with this seal, and these last ones
abbrev pub switched : Slots → (base seal : ℕ) → Slots
switched s base seal =
    record s {
      phase = IDLE;
      counts = other s.counts;
      end = s.next_end;
      seal = seal;
      base = base;
      length = s.next_length;
    }

abbrev pub after_stored : Slots → ℕ → Slots
after_stored s seal =
    cond (s.phase == ENTRY) (added s seal)
    (cond (s.phase == WHOLE) (switched s seal seal)
    (cond (s.phase == LAST) (record s { phase = TOP })
    (cond (s.phase == TOP) (switched s s.next_base seal) s)))

-- the head of a rewrite, once all else of it is synced
abbrev pub head_place : Slots → Option Target
head_place s =
    cond (s.phase == TOP)
    (Some (record { offset = 0; number = s.number; before = 0; slot = other s.counts })) None

abbrev pub after_failure : Slots → Slots
after_failure s =
    cond (s.phase == TOP) (record s { phase = UNSURE })
    (cond ((s.phase == ENTRY || s.phase == WHOLE) || s.phase == LAST) (record s { phase = DUE }) s)

-- a write that fails leaves what counted: it isn't that of a head, and no sync has failed
abbrev pub is_known : Slots → Bool
is_known s = not (s.phase == TOP) && not (s.phase == UNSURE)

abbrev pub unsure : Slots → Slots
unsure s = record s { phase = UNSURE }

-- ---- what needs no sync

abbrev pub zeros_at : Slots → Option ℕ
zeros_at s = cond (s.phase == ENTRY) (Some s.next_end) None

abbrev pub mark_of : Slots → Option Mark
mark_of s =
    cond (is_idle s)
    (Some
    (record {
      offset = s.end;
      number = s.number;
      length = s.length;
      base = s.base;
      slot = s.counts;
    }))
    None
