use Rattle.std.proofs.Common.{◌+◌, ◌<◌, List, Option, None, length, drop, get_or, ap, ◌∙◌, arith}
use Rattle.ids.specs.declared.names.Ref.{Ref}
use Rattle.model.specs.State.{Heap}
use Rattle.model.specs.Shading.{make_all_grey, filled, roots}
use Rattle.heap.proofs.Shades.{shaded-next, roots-shaded}
use Rattle.heap.proofs.heap.Heap.shade_roots.Goals as goal

pub loop-number-preserved : goal.loop-number-preserved
loop-number-preserved c =
    let old = c.loop-number.invariant in
    let own = c.args.own in
    let cycle = c.args.cycle in
    let h = c.loop-number.self.heap in
    let i = c.loop-number.number in
    let all = roots c.args.self.now.heap in
    let read = c.root-reference.ensures ∙ ap (λ (os : List (Option Ref)). get_or os i None) old.same
    in
    let there : i < length all = omega arith in
    let shaded = c.shade_one.ensures in
    record {
      same = ap roots shaded.heap ∙ roots-shaded own cycle h _ ∙ old.same;
      count = old.count;
      left = ap (λ (g : Heap). make_all_grey own cycle g (filled (drop (i + 1) all))) shaded.heap
          ∙ shaded-next own cycle h all i _ there read
          ∙ old.left;
      limit = shaded.limit ∙ old.limit;
      room = omega arith;
      letter_room = shaded.letter_room ∙ old.letter_room;
    }
