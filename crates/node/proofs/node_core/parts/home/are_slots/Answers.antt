use Rattle.std.proofs.Common.{◌≡◌, ℕ, ◌<◌, Bool, List, map, length, get_or, refl, sym, ap, ◌∙◌, arith}
use Rattle.std.proofs.Math.ListN.{get_or-map}
use Rattle.std.proofs.lemmas.List.{length-map}
use Rattle.std.proofs.lemmas.List.Folds.{list_all_more}
use Rattle.arena_slot.specs.declared.Slot as stored
use Rattle.arena_slot.specs.declared.Slot.TheVariants as slot
use Rattle.heap.specs.Heap.{slot_of}
use Rattle.model.specs.State.{Object, Slot, Retired}
use Rattle.node.specs.Parts.{is_slot}
use Rattle.node.proofs.node_core.parts.home.are_slots.Goals as goal

-- the answer for one slot
answered : (P : Slot → Bool) (ss : List (stored.Slot Object)) (s : stored.Slot Object)
    (n : ℕ) {b : Bool} → s ≡ get_or ss n slot.Retired → b ≡ P (slot_of s)
    → P (get_or (map slot_of ss) n Retired) ≡ b
answered P ss s n at is =
    ap P (get_or-map slot_of ss n slot.Retired)
    ∙ sym (is ∙ ap (λ (x : stored.Slot Object). P (slot_of x)) at)

pub loop-number-preserved : goal.loop-number-preserved
loop-number-preserved c =
    let ss = c.args.slots.now.items in
    let n = c.loop-number.number in
    let P = is_slot c.args.shape c.args.cycle in
    let within : n < length (map slot_of ss) =
    omega (arith, c.loop-number-test.true, c.len-number-end.ensures, length-map ss slot_of) in
    let is = answered P ss _ n c.slot.ensures c.is_slot.ensures ∙ c.if-not-is_slot.false in
    list_all_more P (map slot_of ss) n Retired within ∙ rw (c.loop-number.invariant, is) refl
