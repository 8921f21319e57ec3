use Rattle.std.proofs.Common.{◌≡◌, ◌<◌, ◌^◌, refl, subst, arith}
use Rattle.model.specs.View.{new_view}
use Rattle.link.proofs.EveryLink.{links-new}
use Rattle.node.specs.Inside.{view_of}
use Rattle.node.specs.Invariant.{IsNode}
use Rattle.node.proofs.Nodes.{node-new}
use Rattle.node.proofs.node_core.Core.new.Goals as goal

pub invariant_of-result : goal.invariant_of-result
invariant_of-result c =
    let shape = c.args.shape in
    let own = c.args.own.number in
    let within = c.nodes.ensures.within in
    let there : own < shape.nodes = omega (arith, c.if-own-nodes.false, c.nodes.ensures.value) in
    let few : shape.nodes < 2 ^ 8 = omega (arith, within.most_nodes) in
    let heap = c.in_ok-new.ensures.made in
    let same : new_view shape own ≡ view_of (record {
      shape = shape;
      own = own;
      heap = c.in_ok-new.field-0;
      asked = c.new-2.result;
      phases = c.in_ok-new-2.field-0;
      ring = c.new-4.result;
      links = c.in_ok-new-3.field-0;
    }) = rw (
      heap.heap,
      c.new-2.ensures.empty,
      c.in_ok-new-2.ensures.made,
      c.new-4.ensures,
      c.in_ok-new-3.ensures.made,
      c.nodes-2.ensures.value,
      c.nodes-3.ensures.value,
    ) refl in
    record {
      node = subst IsNode same (node-new shape own within there (links-new shape.nodes few));
      limit = heap.limit;
    }
