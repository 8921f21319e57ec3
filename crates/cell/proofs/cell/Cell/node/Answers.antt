use Rattle.std.proofs.Common.{◌∙◌}
use Rattle.cell.proofs.cell.Cell.node.Goals as goal

pub returns-clause-sound : goal.returns-clause-sound
returns-clause-sound g c =
    let cell = c.self.inside in
    let desk = c.node.ensures.sound in
    rw (← c.self.view_is)
    record {
      stands = desk.stands;
      was = desk.was;
      unsaved = desk.unsaved;
      taken = desk.taken;
      while_open = cell.while_open;
      left = cell.left;
      plain = λ none. c.logs-logs.ensures.plain (c.logs-logs.ensures.value ∙ none);
      imaged = cell.imaged;
      dropped = cell.dropped;
      saved_dropped = cell.saved_dropped;
    }
