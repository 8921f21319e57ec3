use Rattle.markring.proofs.running.run_line.Goals as goal

pub returns-clause-told : goal.returns-clause-told
returns-clause-told g c = record {
  outcome = c.take_line-told.result;
  of = c.take_line-told.ensures.told;
  prints = c.in_ok-print_told.ensures;
  is = c.status_after.ensures;
}
