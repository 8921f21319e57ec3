use Rattle.std.proofs.Common.{◌∙◌, sym}
use Rattle.std.proofs.lemmas.Result.{IfOk-weaker, IfErr-weaker}
use Rattle.model.specs.State.{LocalState}
use Rattle.model.specs.Heaps.{heap_bytes}
use Rattle.world.proofs.Steps.{read_shown}
use Rattle.world.proofs.sim.Sim.bytes.Goals as goal

pub returns-in-Some : goal.returns-in-Some
returns-in-Some c =
    let reads = λ (p : LocalState).
    heap_bytes p.own p.heap c.args.object c.args.offset c.args.count in
    record {
      value = IfOk-weaker c.bytes.result _ _
          (λ b is. λ w shown.
          sym (read_shown reads c.args.number shown.world c.in-Some.ensures.core) ∙ is)
          c.bytes.ensures.value;
      refused = IfErr-weaker c.bytes.result _ _
          (λ e is. λ w shown.
          sym (read_shown reads c.args.number shown.world c.in-Some.ensures.core) ∙ is)
          c.bytes.ensures.refused;
    }

pub returns-in-None : goal.returns-in-None
returns-in-None c =
    let reads = λ (p : LocalState).
    heap_bytes p.own p.heap c.args.object c.args.offset c.args.count in
    record {
      value = tt;
      refused = λ w shown.
          sym (read_shown reads c.args.number shown.world c.in-None.ensures.core);
    }
