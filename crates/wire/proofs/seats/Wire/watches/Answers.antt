use Rattle.std.proofs.Common.{rules, sym, ap, ◌∙◌, slice_get}
use Rattle.wire.specs.Readers.{IsFreshWatch}
use Rattle.wire.proofs.Rows.{each-push}
use Rattle.wire.proofs.seats.Wire.watches.Goals as goal

pub loop-preserved : goal.loop-preserved
loop-preserved c =
    let i = c.loop.invariant in (
      search rules,
      search rules,
      c.next_watch.ensures.dealer,
      (λ k x e. each-push (λ _. IsFreshWatch c.args.self.now) c.loop.watching.items
          c.next_watch.result c.loop.counter i.0 i.3 c.next_watch.ensures.watch k x
          (ap (λ l. slice_get l k) (sym c.push_reserved.ensures.items) ∙ e)),
    )
