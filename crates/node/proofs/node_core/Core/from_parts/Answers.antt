use Rattle.std.proofs.Common.{refl}
use Rattle.std.proofs.lemmas.Result.{err_from_is_err_and}
use Rattle.link.specs.Links.{LinksView}
use Rattle.link.specs.Parts.{links_given}
use Rattle.node.specs.Invariant.{IsBalanced, IsNode}
use Rattle.node.specs.Parts.{node_given}
use Rattle.node.proofs.Restorable.{parts-from, standing}
use Rattle.node.proofs.node_core.Core.from_parts.Goals as goal

pub returns-in_err-asked-clause-refused : goal.returns-in_err-asked-clause-refused
returns-in_err-asked-clause-refused c =
    let r = err_from_is_err_and c.from_residual.result c.from_residual.ensures.1 in
    rw (r.1, r.2)
    (λ other.
    let told = c.in_err-asked.ensures.refused other in
    (told.0, λ is. told.1 (parts-from (node_given c.args.parts) is.node)))

pub returns-in_err-links-clause-refused : goal.returns-in_err-links-clause-refused
returns-in_err-links-clause-refused c =
    let exit = c.from_residual-in_err-links in
    let r = err_from_is_err_and exit.result exit.ensures.1 in
    rw (r.1, r.2)
    (λ other.
    let told = c.in_err-links.ensures.refused other in
    (told.0, λ is. told.1 is.node.links.links))

pub returns-clause-made : goal.returns-clause-made
returns-clause-made c =
    rw (c.in_ok-heap.ensures.made.heap, c.in_ok-asked.ensures.asked, c.in_ok-links.ensures.made)
    refl

pub returns-clause-right : goal.returns-clause-right
returns-clause-right c =
    let p = c.args.parts in
    let heap = c.in_ok-heap.ensures.sound in
    let v : LinksView = links_given p.links.items in
    let balance : IsBalanced p.ring v.links v.got =
    rw (c.number_sum.ensures, c.in_ok-links.ensures.made) at
    (c.is_bounded.ensures.0 c.if-not-is_bounded.false) in
    record {
      node = standing (node_given p) c.in_ok-asked.ensures.right heap c.in_ok-links.ensures.sound
          balance;
      slots = heap.slots;
    }

pub invariant_of-result : goal.invariant_of-result
invariant_of-result c =
    let p = c.args.parts in
    let heap = c.in_ok-heap.ensures in
    let v : LinksView = links_given p.links.items in
    let balance : IsBalanced p.ring v.links v.got =
    rw (c.number_sum.ensures, c.in_ok-links.ensures.made) at
    (c.is_bounded.ensures.0 c.if-not-is_bounded.false) in
    let node : IsNode (node_given p) =
    standing (node_given p) c.in_ok-asked.ensures.right heap.sound c.in_ok-links.ensures.sound
    balance in
    record {
      node = rw (heap.made.heap, c.in_ok-asked.ensures.asked, c.in_ok-links.ensures.made) node;
      limit = heap.made.limit;
    }
