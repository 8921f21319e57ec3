use Rattle.std.proofs.Common.{subst, sym}
use Rattle.c_handles.specs.Lone.{Handled}
use Rattle.c_handles.proofs.Exits.{took_frame}
use Rattle.c_handles.proofs.lone.LoneNode.take.Goals as goal

pub returns-in-Data : goal.returns-in-Data
returns-in-Data c =
    took_frame c.in_ok-data.field-0 c.in_ok-data.ensures.found
    (subst (λ f. Handled f c.args.self.now c.perform_plain.new.self c.perform_plain.result)
    (sym c.in-Data.is) c.perform_plain.ensures)

pub returns-in-Ack : goal.returns-in-Ack
returns-in-Ack c =
    took_frame c.in_ok-data.field-0 c.in_ok-data.ensures.found
    (subst (λ f. Handled f c.args.self.now c.acknowledge.new.self c.acknowledge.result)
    (sym c.in-Ack.is) c.acknowledge.ensures)
