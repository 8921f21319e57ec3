use Rattle.std.proofs.Common.{◌≡◌, Bool, true, false, cond, refl, ap, ◌∙◌, arith}
use mir.Val.{bool_byte}
use Rattle.arena.proofs.Linking.{counted_more, counts_fit, slots_more}
use Rattle.arena.proofs.made.Slots.push.Goals as goal

byte_is : (b : Bool) → bool_byte b ≡ cond b 1 0
byte_is true = refl
byte_is false = refl

pub invariant_of-self : goal.invariant_of-self
invariant_of-self g c = rw c.in_default.ensures.unchanged c.self.invariant

pub overflow_add-self : goal.overflow_add-self
overflow_add-self g c =
    let room = rw (← c.self.view_is) at c.requires in
    let more = counted_more c.self.invariant c.args.slot c.is_born-born.result
    c.is_born-born.ensures
    room in
    let free = c.from.ensures ∙ byte_is _ ∙ ap (λ b. cond b 1 0) c.is_free-free.ensures in
    let fits = counts_fit more in
    omega (arith, free, fits.0)

pub overflow_add-self-2 : goal.overflow_add-self-2
overflow_add-self-2 g c =
    let room = rw (← c.self.view_is) at c.requires in
    let more = counted_more c.self.invariant c.args.slot c.is_born-born.result
    c.is_born-born.ensures
    room in
    let occupied =
    c.from-2.ensures ∙ byte_is _ ∙ ap (λ b. cond b 1 0) c.is_occupied-occupied.ensures in
    let fits = counts_fit more in
    omega (arith, occupied, fits.1)

pub invariant_of-self-2 : goal.invariant_of-self-2
invariant_of-self-2 g c =
    let room = rw (← c.self.view_is) at c.requires in
    let pushed = c.in-Ok.ensures.done in
    let more = counted_more c.self.invariant c.args.slot c.is_born-born.result
    c.is_born-born.ensures
    room in
    let free = c.from.ensures ∙ byte_is _ ∙ ap (λ b. cond b 1 0) c.is_free-free.ensures in
    let occupied =
    c.from-2.ensures ∙ byte_is _ ∙ ap (λ b. cond b 1 0) c.is_occupied-occupied.ensures in
    rw (pushed, c.unlinked.ensures, free, occupied) more

pub returns-clause-done : goal.returns-clause-done
returns-clause-done g c =
    rw (c.in-Ok.ensures.done, c.unlinked.ensures, slots_more, ← c.self.view_is) refl
