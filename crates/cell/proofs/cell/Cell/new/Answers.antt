use Rattle.std.proofs.Common.{◌≡◌, ◌∙◌, ap, sym}
use Rattle.wire.specs.Readers.{known}
use Rattle.cell.proofs.Dropping.{dropped-same}
use Rattle.cell.proofs.Opening.{core-found, imaged-found, open-holds, stays-open}
use Rattle.node_store.specs.Stores.{disk_of}
use Rattle.node_store.proofs.Stores.{keeps_alone, keeps_kept}
use Rattle.cell.proofs.cell.Cell.new.Goals as goal

pub new-requires-2-clause-kept : goal.new-requires-2-clause-kept
new-requires-2-clause-kept g c =
    keeps_kept c.args.node (g.D.Disk.seen (disk_of c.args.store)) c.requires.disk

pub new-requires-2-clause-alone : goal.new-requires-2-clause-alone
new-requires-2-clause-alone g c =
    keeps_alone c.args.node (g.D.Disk.seen (disk_of c.args.store)) c.requires.disk

pub invariant_of-result : goal.invariant_of-result
invariant_of-result g c =
    let seen = g.D.Disk.seen (disk_of c.args.store) in
    let may_leave = g.D.Disk.may_leave (disk_of c.args.store) in
    let desk = c.new-2.result in
    let first = c.of-origin.result.value in
    let is : c.args.node.core ≡ first = sym (c.of-origin.ensures ∙ c.core.ensures.value) in (
      dropped-same first desk.node.core (known desk.seat)
          (ap (λ d. d.node.core) c.new-2.ensures ∙ is),
      (
        dropped-same first desk.saved (known desk.seat) (ap (λ d. d.saved) c.new-2.ensures ∙ is),
        stays-open c.args.node.core desk.saved desk.node.core may_leave
            (ap (λ d. d.saved) c.new-2.ensures)
            (open-holds c.args.node.core seen may_leave
            (c.is_ready-ready.ensures.only (c.is_ready-ready.ensures.ready ∙ c.requires.ready))
            ∣ core-found c.args.node seen c.requires.disk ∣₁)
            (imaged-found c.args.node.core seen may_leave
            (g.met.D.Disk.reads_left (disk_of c.args.store))
            (λ none. c.logs.ensures.plain (c.logs.ensures.value ∙ none))
            ∣ core-found c.args.node seen c.requires.disk ∣₁),
      ),
    )
