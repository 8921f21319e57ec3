use Rattle.image.proofs.Spelled.{one_node, one_spelling, all_saved, spelled_later}
use Rattle.image.proofs.law.nodes_spelled.Goals as goal

pub returns : goal.returns
returns c = record {
  one_node = one_node;
  one_spelling = one_spelling;
  saved = all_saved;
  written = spelled_later;
}
