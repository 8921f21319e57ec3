use Rattle.cell.specs.Locked.{IsLocked}
use Rattle.cell.proofs.Answered.{was-answered}
use Rattle.cell.proofs.shared.SharedOn.act.Goals as goal

pub returns : goal.returns
returns g c =
    let held = c.deref_mut.result.now in
    let old = held.cell in
    let locked : IsLocked g.D.Disk.may_leave g.W.Naming.wire old =
    record { sound = c.node-node.ensures.sound; name = held.named } in
    record {
      answered = was-answered c.args.event.now c.act.result old.is_open
          (λ ready. record {
            before = old;
            after = c.act.new.self;
            locked = locked;
            ready = ready;
            given = c.act.ensures.given ready;
            goes_on = c.act.ensures.goes_on;
          })
          (λ shut. (
            c.act.ensures.closed.1 shut,
            record { before = old; locked = locked; shut = shut },
          ));
    }
