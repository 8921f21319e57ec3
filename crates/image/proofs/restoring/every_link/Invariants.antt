use Rattle.std.proofs.Common.{◌≡◌, ◌++◌, map}
use Rattle.link.specs.Parts.{link_given, taken_given}
use Rattle.image.specs.Nodes.{link_of, received_of}
use Rattle.image.proofs.restoring.every_link.Given as goal

abbrev pub invariant-loop-link : goal.invariant-loop-link
invariant-loop-link l = record {
  came : l.yielded ++ l.link-iterator.rest.items ≡ l.fn.stored.items;
  sent : map link_given l.links.items ≡ map link_of l.yielded;
  taken : map taken_given l.links.items ≡ map received_of l.yielded;
}
