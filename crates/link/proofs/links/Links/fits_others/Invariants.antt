use Rattle.std.proofs.Common.{◌≡◌, length, map}
use Rattle.msg.specs.declared.body.Message.{Message}
use Rattle.model.specs.Steps.{fits}
use Rattle.model.specs.View.{used}
use Rattle.link.specs.Links.{for_others}
use Rattle.link.proofs.links.Links.fits_others.Given as goal

abbrev pub invariant-loop-to : goal.invariant-loop-to
invariant-loop-to l =
    record {
      last : l.to-end ≡ length l.self.links;
      below : (x : Message) → l.fits ≡ fits (map used l.self.links) (for_others l.own x l.to);
    }
