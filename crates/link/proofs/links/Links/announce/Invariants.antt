use Rattle.std.proofs.Common.{◌≡◌, length}
use Rattle.link.specs.Links.{IsLinks, announced_below}
use Rattle.link.proofs.links.Links.announce.Given as goal

abbrev pub invariant-loop-to : goal.invariant-loop-to
invariant-loop-to l =
    record {
      last : l.to-end ≡ length l.fn.self.links;
      below : l.self ≡ announced_below l.fn.self l.own l.message l.to;
      sound : IsLinks l.self;
    }
