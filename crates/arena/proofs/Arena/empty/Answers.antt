use Rattle.std.proofs.Common.{◌+◌, ◌^◌, ◌<◌, Some, sym, ◌∙◌, arith}
use Rattle.arena.specs.declared.Key.{Key}
use Rattle.arena.proofs.Chains.{retires, frees, holds, vacant_fits}
use Rattle.arena.proofs.Taking.{IsRead, there, goes, counted}
use Rattle.arena.proofs.Arena.empty.Goals as goal

pub overflow_sub-self : goal.overflow_sub-self
overflow_sub-self g c =
    let is : IsRead c.self.inside.entries.items c.args.slot c.get_mut-entry.result.now =
    record { within = rw (← c.self.view_is) at c.requires; read = c.get_mut-entry.ensures.value } in
    let some = there c.self.invariant is c.in-Some.generation
    (sym c.in-Some.is ∙ c.generation.ensures) in
    counted _ c.self.invariant some

pub invariant_of-self-then-generation : goal.invariant_of-self-then-generation
invariant_of-self-then-generation g c =
    let key : Key = record { slot = c.args.slot; generation = c.in-Some.generation } in
    let is : IsRead c.self.inside.entries.items c.args.slot c.get_mut-entry.result.now =
    record { within = rw (← c.self.view_is) at c.requires; read = c.get_mut-entry.ensures.value } in
    let some = there c.self.invariant is c.in-Some.generation
    (sym c.in-Some.is ∙ c.generation.ensures) in
    let r = retires c.self.invariant key some c.if-generation.true in
    rw c.retire.ensures r.linked

pub returns-then-generation-clause-done : goal.returns-then-generation-clause-done
returns-then-generation-clause-done g c =
    let key : Key = record { slot = c.args.slot; generation = c.in-Some.generation } in
    let is : IsRead c.self.inside.entries.items c.args.slot c.get_mut-entry.result.now =
    record { within = rw (← c.self.view_is) at c.requires; read = c.get_mut-entry.ensures.value } in
    let named = sym c.in-Some.is ∙ c.generation.ensures in
    let some = there c.self.invariant is c.in-Some.generation named in
    let r = retires c.self.invariant key some c.if-generation.true in
    rw (← c.self.view_is, c.retire.ensures)
    (r.done ∙ goes c.self.invariant is (Some c.in-Some.generation) named)

pub overflow_add-self : goal.overflow_add-self
overflow_add-self g c =
    let key : Key = record { slot = c.args.slot; generation = c.in-Some.generation } in
    let is : IsRead c.self.inside.entries.items c.args.slot c.get_mut-entry.result.now =
    record { within = rw (← c.self.view_is) at c.requires; read = c.get_mut-entry.ensures.value } in
    let some = there c.self.invariant is c.in-Some.generation
    (sym c.in-Some.is ∙ c.generation.ensures) in
    let f = frees c.self.invariant key some c.if-generation.false in
    let below : c.self.inside.vacant + 1 < 2 ^ 32 = vacant_fits f.linked in
    omega arith

pub invariant_of-self-2 : goal.invariant_of-self-2
invariant_of-self-2 g c =
    let key : Key = record { slot = c.args.slot; generation = c.in-Some.generation } in
    let is : IsRead c.self.inside.entries.items c.args.slot c.get_mut-entry.result.now =
    record { within = rw (← c.self.view_is) at c.requires; read = c.get_mut-entry.ensures.value } in
    let some = there c.self.invariant is c.in-Some.generation
    (sym c.in-Some.is ∙ c.generation.ensures) in
    let f = frees c.self.invariant key some c.if-generation.false in
    let h = holds c.self.invariant key _ some c.get_mut-entry.ensures.value in
    rw (c.free.ensures, h.generation) f.linked

pub returns-clause-done : goal.returns-clause-done
returns-clause-done g c =
    let key : Key = record { slot = c.args.slot; generation = c.in-Some.generation } in
    let is : IsRead c.self.inside.entries.items c.args.slot c.get_mut-entry.result.now =
    record { within = rw (← c.self.view_is) at c.requires; read = c.get_mut-entry.ensures.value } in
    let named = sym c.in-Some.is ∙ c.generation.ensures in
    let some = there c.self.invariant is c.in-Some.generation named in
    let f = frees c.self.invariant key some c.if-generation.false in
    let h = holds c.self.invariant key _ some c.get_mut-entry.ensures.value in
    rw (← c.self.view_is, c.free.ensures, h.generation)
    (f.done ∙ goes c.self.invariant is (Some c.in-Some.generation) named)
