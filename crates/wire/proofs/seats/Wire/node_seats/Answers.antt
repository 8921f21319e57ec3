use Rattle.std.proofs.Common.{rules, sym, ap, ◌∙◌, slice_get}
use Rattle.wire.specs.Readers.{IsSeated}
use Rattle.wire.proofs.Rows.{each-push}
use Rattle.wire.proofs.seats.Wire.node_seats.Goals as goal

pub loop-node-preserved : goal.loop-node-preserved
loop-node-preserved c =
    let i = c.loop-node.invariant in (
      search rules,
      search rules,
      c.next_seat.ensures.dealer,
      (λ k s e. each-push (IsSeated c.args.self.now) c.loop-node.seats.items c.next_seat.result
          c.loop-node.node i.0 i.3 c.next_seat.ensures.seat k s
          (ap (λ l. slice_get l k) (sym c.push_reserved.ensures.items) ∙ e)),
    )
