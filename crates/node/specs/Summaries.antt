-- A node in numbers.
use Rattle.std.specs.Prelude.{length, count_by, is_some}
use Rattle.model.specs.Reclaiming.{is_occupied}
use Rattle.model.specs.State.{LocalState}
use Rattle.model.specs.declared.summary.Summary.{Summary}

abbrev pub summary_of : LocalState → Summary
summary_of p =
    record {
      shape = p.shape;
      own = p.own;
      cycle = p.phases.cycle;
      ended = p.phases.ended;
      swept = p.phases.swept;
      colour = p.ring.colour;
      earlier = p.ring.earlier;
      recent = p.ring.recent;
      grey = length p.heap.grey;
      live = count_by is_occupied p.heap.slots;
      has_token = is_some p.ring.token;
      letters = length p.heap.letters;
    }
