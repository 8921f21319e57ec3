use Rattle.std.proofs.Common.{◌+◌, ◌^◌, ◌<◌, arith}
use Rattle.arena.proofs.Chains.{fills, first_within, len_fits}
use Rattle.arena.proofs.Arena.reuse.Goals as goal

pub get_mut-requires : goal.get_mut-requires
get_mut-requires g c = first_within c.self.invariant (rw (← c.self.view_is) at c.requires)

pub occupy-generation-requires : goal.occupy-generation-requires
occupy-generation-requires g c =
    let some = rw (← c.self.view_is) at c.requires in
    (fills c.self.invariant _ c.args.value some c.get_mut.ensures.value).free

pub overflow_add-self : goal.overflow_add-self
overflow_add-self g c =
    let some = rw (← c.self.view_is) at c.requires in
    let f = fills c.self.invariant _ c.args.value some c.get_mut.ensures.value in
    let below : c.self.inside.len + 1 < 2 ^ 32 = len_fits f.linked in
    omega arith

pub invariant_of-self : goal.invariant_of-self
invariant_of-self g c =
    let some = rw (← c.self.view_is) at c.requires in
    let f = fills c.self.invariant _ c.args.value some c.get_mut.ensures.value in
    let occupied = c.occupy-generation.ensures in
    rw (occupied.done, occupied.next) f.linked

pub returns-clause-key : goal.returns-clause-key
returns-clause-key g c =
    let some = rw (← c.self.view_is) at c.requires in
    let f = fills c.self.invariant _ c.args.value some c.get_mut.ensures.value in
    rw (← c.self.view_is, c.occupy-generation.ensures.generation) f.key

pub returns-clause-within : goal.returns-clause-within
returns-clause-within g c =
    let some = rw (← c.self.view_is) at c.requires in
    let f = fills c.self.invariant _ c.args.value some c.get_mut.ensures.value in
    rw (← c.self.view_is, c.occupy-generation.ensures.generation) f.within

pub returns-clause-done : goal.returns-clause-done
returns-clause-done g c =
    let some = rw (← c.self.view_is) at c.requires in
    let f = fills c.self.invariant _ c.args.value some c.get_mut.ensures.value in
    let occupied = c.occupy-generation.ensures in
    rw (← c.self.view_is, occupied.done, occupied.next) f.done
