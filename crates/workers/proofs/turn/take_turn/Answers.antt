use Rattle.std.proofs.Common.{rules, ◌≡◌, ◌++◌, Bool, true, List, Option, is_ok, refl, subst}
use Rattle.workers.specs.Calls.{Called, asked}
use Rattle.workers.specs.Turns.{turn_of}
use Rattle.workers.specs.declared.gate.Stage.{Stage}
use Rattle.workers.proofs.Making.{answered, at-last, then, up_to_sent}
use Rattle.workers.proofs.turn.take_turn.Goals as goal

pub returns-clause-calls : goal.returns-clause-calls
returns-clause-calls g c =
    let scanned = c.collect-counts.ensures in
    let saved = c.save_unsaved.ensures in
    let made =
    then (answered true (search rules) c.ask.ensures.made)
    (then c.take_in-counts.ensures
    (then (answered true (search rules) c.ask-2.ensures.made)
    (then scanned.3 (then (answered true (search rules) c.ask-3.ensures.made)
    (then saved.1 (then (answered true (search rules) c.ask-4.ensures.made)
    (then c.send_out.ensures (then c.raise.ensures c.ask-5.ensures.made)))))))) in
    let part : Bool → List Called =
    λ b. up_to_sent c.args.node c.args.nodes c.args.number scanned.0 scanned.2 saved.0 b in
    let whole : Option Stage → List Called =
    λ t. turn_of c.args.node c.args.nodes c.args.number t scanned.0 scanned.2 saved.0 in
    record {
      scanned = scanned.0;
      few = scanned.1;
      reclaimed = scanned.2;
      unsaved = saved.0;
      whole = at-last part whole c.ask-5.result c.ask-5.ensures.stage refl refl
          (subst (λ l. asked c.ask-5.new.calls.past.value ≡ l ++ part (is_ok c.ask-5.result))
          c.requires.asks made.asks);
    }
