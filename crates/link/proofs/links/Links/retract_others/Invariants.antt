use Rattle.std.proofs.Common.{◌≡◌, ◌≤◌, length}
use Rattle.msg.specs.declared.body.Message.{Message}
use Rattle.link.specs.Links.{LinksView, IsLinks, announced_below}
use Rattle.link.proofs.links.Links.retract_others.Given as goal

abbrev pub invariant-loop-left : goal.invariant-loop-left
invariant-loop-left l =
    record {
      within : l.left ≤ length l.self.links;
      back : (v : LinksView) (x : Message) → IsLinks v →
          l.fn.self ≡ announced_below v l.own x l.below →
          l.self ≡ announced_below v l.own x l.left;
    }

abbrev pub decreases-loop-left : goal.decreases-loop-left
decreases-loop-left l = l.left
