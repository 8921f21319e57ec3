use Rattle.std.proofs.Common.{◌≡◌, ◌++◌, map}
use Rattle.std.specs.List.{All}
use Rattle.link.specs.Parts.{IsNumbered, ends_given}
use Rattle.link.proofs.links.Links.from_parts.Given as goal

abbrev pub invariant-loop-part : goal.invariant-loop-part
invariant-loop-part l = record {
  came : l.yielded ++ l.part-iterator.rest.items ≡ l.fn.parts.items;
  made : l.by_node.items ≡ map ends_given l.yielded;
  numbered : All IsNumbered l.yielded;
}
