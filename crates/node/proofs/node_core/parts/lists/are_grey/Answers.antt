use Rattle.std.proofs.Common.{◌<◌, true, false, get_or, length, sym, ◌∙◌, arith}
use Rattle.std.proofs.lemmas.List.{get_or_default, length-set}
use Rattle.node.proofs.Lists.{came_more}
use Rattle.node.proofs.node_core.parts.lists.are_grey.Goals as goal

pub index-requires : goal.index-requires
index-requires c =
    omega (arith, c.is_marked.ensures.there c.if-not-is_marked.false, c.loop-slot.invariant.size)

pub index_mut-requires : goal.index_mut-requires
index_mut-requires c =
    omega (arith, c.is_marked.ensures.there c.if-not-is_marked.false, c.loop-slot.invariant.size)

pub loop-slot-preserved : goal.loop-slot-preserved
loop-slot-preserved c =
    let now = c.loop-slot in
    let was = now.invariant in
    let marked = c.if-not-is_marked.false in
    let within : get_or c.args.grey.now now.slot-index 0 < length now.came.items =
    omega (arith, c.is_marked.ensures.there marked, was.size) in
    record {
      size = length-set now.came.items (get_or c.args.grey.now now.slot-index 0) true ∙ was.size;
      came = came_more was.came within (sym c.is_marked.ensures.value ∙ marked)
          (get_or_default now.came.items (get_or c.args.grey.now now.slot-index 0) false _ within
          ∙ sym c.index.ensures ∙ c.if-index.false);
    }
