use Rattle.std.proofs.Common.{◌≡◌, ◌∙◌, refl, length, map, ap, arith}
use Rattle.std.proofs.lemmas.List.{length-map}
use Rattle.std.proofs.lemmas.Result.{err_from_is_err_and}
use Rattle.arena_slot.specs.Entry.{slot_of}
use Rattle.arena.specs.Row.{Row}
use Rattle.arena_slot.specs.declared.Entry.{Entry}
use Rattle.arena.proofs.Linking.{Made, starts, misses, makes, some_unlinked, none_unlinked}
use Rattle.arena.proofs.Arena.from_slots.Given.{Over}
use Rattle.arena.proofs.Arena.from_slots.Goals as goal

pub link-requires-clause-unlinked : goal.link-requires-clause-unlinked
link-requires-clause-unlinked g c =
    let es = c.parts-entries.result.0.items in
    rw (c.limited-entries.ensures, c.parts-entries.ensures.counted.unlinked)
    (starts (map slot_of es))

pub returns-in_err-first-clause-refused : goal.returns-in_err-first-clause-refused
returns-in_err-first-clause-refused g c =
    let p = err_from_is_err_and c.from_residual.result c.from_residual.ensures.1 in
    rw (p.1, p.2, ← c.parts-entries.ensures.seen) (
      c.in_err-first.ensures.refused.0,
      rw c.limited-entries.ensures at (c.in_err-first.ensures.refused.1 c.args.limit),
    )

pub returns-then-free-vacant-clause-refused : goal.returns-then-free-vacant-clause-refused
returns-then-free-vacant-clause-refused g c =
    let counted = rw c.limited-entries.ensures at c.in_ok-first.ensures.counted in
    let vacant = c.parts-entries.ensures.counted.vacant_ones in
    let one = some_unlinked c.link.new.entries.items
    (omega (arith, counted, vacant, c.if-free-vacant.true)) in
    let seen = rw c.limited-entries.ensures at c.in_ok-first.ensures.slots in (
      refl,
      rw (← c.parts-entries.ensures.seen, ← seen)
          (misses c.in_ok-first.ensures.linked one.0 one.1 c.args.limit),
    )

-- the arena that is made; the list has as many numbers as there are free slots
abbrev IsMade : (g : Over) (c : goal.Else-free-vacant g) → Type 0
IsMade g c =
    (c.parts-entries.result.2 ≡ length c.args.free.now)
    × Made c.args.slots.items c.link.new.entries.items c.args.free.now c.in_ok-first.first
    c.args.limit

is_made : (g : Over) (c : goal.Else-free-vacant g) → IsMade g c
is_made g c =
    let before = c.parts-entries.ensures.counted in
    let counted = rw c.limited-entries.ensures at c.in_ok-first.ensures.counted in
    let seen = rw c.limited-entries.ensures at c.in_ok-first.ensures.slots in
    let none = none_unlinked c.link.new.entries.items
    (omega (arith, counted, before.vacant_ones, c.if-free-vacant.false)) in
    let few = length-map c.parts-entries.result.0.items slot_of in (
      omega (arith, counted, before.vacant_ones, c.if-free-vacant.false),
      rw (← c.parts-entries.ensures.seen)
          (makes seen c.in_ok-first.ensures.linked none (before.all_born.0 c.if-not-born.false)
          c.args.limit (omega arith) (omega (arith, few, c.if-len-limit.false, c.len.ensures))),
    )

pub invariant_of-result : goal.invariant_of-result
invariant_of-result g c =
    let kept = c.in_ok-first.ensures.capacity ∙ ap (λ (r : Row (Entry g.row.T.Denot)). r.capacity)
    c.limited-entries.ensures in
    let made = is_made g c in
    rw (made.0, kept, c.parts-entries.ensures.counted.occupied_ones)
    (rw (← c.parts-entries.ensures.seen) at made.1.linked)

pub returns-clause-made : goal.returns-clause-made
returns-clause-made g c =
    let kept = c.in_ok-first.ensures.capacity ∙ ap (λ (r : Row (Entry g.row.T.Denot)). r.capacity)
    c.limited-entries.ensures in
    let made = is_made g c in
    rw (made.0, kept) made.1.is

pub returns-clause-sound : goal.returns-clause-sound
returns-clause-sound g c = (is_made g c).1.sound
