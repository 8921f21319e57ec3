use Rattle.std.proofs.Common.{◌-◌, ◌<◌, ◌^◌, get_or, length, refl, sym, ap, ◌∙◌, arith}
use Rattle.std.proofs.lemmas.List.{length-map}
use Rattle.arena_slot.specs.Entry.{slot_of}
use Rattle.arena.proofs.Linking.{links_one, refuses, drop-back}
use Rattle.arena.proofs.made.link.Goals as goal

pub loop-left-preserved : goal.loop-left-preserved
loop-left-preserved g c =
    let before = c.loop-left in
    let k = get_or c.args.free.now (before.left - 1) 0 in
    let some = c.loop-left-test.true in
    let ends = drop-back c.args.free.now before.left some before.invariant.left in
    let unlinked = sym c.link_one.ensures.answer ∙ c.if-not-link_one.false in
    let same = before.invariant.slots in
    let now = length-map before.entries.items slot_of in
    let first = length-map c.args.entries.now.items slot_of in
    let short : length before.entries.items < 2 ^ 32 =
    omega (arith, c.requires.short, ap length same, now, first) in
    let links = links_one before.invariant.linking k unlinked short in
    record {
      left = omega arith;
      linking = rw (ends, c.if-not-link_one.ensures.done refl) links.linking;
      slots = rw (c.if-not-link_one.ensures.done refl) (links.slots ∙ same);
      capacity = rw (c.if-not-link_one.ensures.done refl) before.invariant.capacity;
      counted = rw (c.if-not-link_one.ensures.done refl)
          (omega (arith, links.counted, before.invariant.counted, some));
    }

pub returns-then-not-link_one-clause-refused : goal.returns-then-not-link_one-clause-refused
returns-then-not-link_one-clause-refused g c =
    let before = c.loop-left in
    let k = get_or c.args.free.now (before.left - 1) 0 in
    let some = c.loop-left-test.true in
    let ends = drop-back c.args.free.now before.left some before.invariant.left in
    let linked = sym c.link_one.ensures.answer ∙ c.if-not-link_one.true in
    let wrong = refuses before.invariant.linking c.args.free.now (before.left - 1) k ends linked in
    (refl, rw (← before.invariant.slots) wrong)
