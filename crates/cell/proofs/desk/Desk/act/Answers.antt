use Rattle.std.proofs.Common.{refl, sym, ◌∙◌}
use Rattle.wire.specs.Readers.{known}
use Rattle.cell.proofs.Waiting.{SitsAt, own-brings, own-met-due, own-met-may}
use Rattle.cell.proofs.desk.Desk.act.Goals as goal

pub perform-requires : goal.perform-requires
perform-requires c =
    let desk = c.self.inside in
    let v = known desk.seat in
    let e = c.args.event.now in
    let me = sym desk.at.own ∙ desk.seat.sits.me_is in
    let sits : SitsAt v desk.logged.node = record {
      own = desk.stands.own ∙ me;
      nodes = desk.stands.nodes ∙ sym desk.at.nodes ∙ desk.seat.sits.nodes_is;
      kept = c.core-core.ensures.kept;
      taken = desk.taken;
    } in (
      c.requires.wire,
      (
        refl,
        (
          own-brings (known c.args.self.now.seat).taken e c.requires.own,
          rw (← c.self.view_is) (
            own-met-may v desk.logged.node sits e c.requires.own,
            own-met-due sits desk.seat.supplied e,
          ),
        ),
      ),
    )
