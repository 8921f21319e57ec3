-- How a node's fields are seen as its view.
use Rattle.std.specs.Prelude.{◌≡◌}
use Rattle.node.specs.declared.node_core.Core.TheInside.{Inside}
use Rattle.model.specs.View.{NodeView}
use Rattle.node.specs.Invariant.{IsNode}

abbrev pub view_of : Inside → NodeView
view_of n =
    record {
      local = record {
        shape = n.shape;
        own = n.own;
        heap = n.heap.heap;
        asked = n.asked.keys;
        phases = n.phases;
        ring = n.ring;
        got = n.links.got;
      };
      links = n.links.links;
      acks = n.links.acks;
    }

-- the heap may use the slots of the shape
pub record IsSound (n : Inside) : Type 0 where
  pub node : IsNode (view_of n)
  pub limit : n.heap.limit ≡ n.shape.slots
