use Rattle.std.proofs.Common.{rules, ◌≡◌, refl}
use Rattle.std.proofs.lemmas.Result.{err_from_is_err_and}
use Rattle.disk.proofs.Torn.{Alike, alike_leaves, follows_alike, follows_noted, pushed, reaches_noted}
use Rattle.disk.specs.declared.state.Range.{Range}
use Rattle.disk.specs.declared.state.State.{State}
use Rattle.disk.proofs.state.State.note.Goals as goal

pub returns-clause-risks : goal.returns-clause-risks
returns-clause-risks c =
    let r : Range = record {
      area = c.args.area;
      at = c.args.at;
      len = c.args.len;
      before = c.of-before.result;
    } in
    let noted = pushed {s = c.args.self.now} r c.push.new.self c.of-before.ensures (search rules) in
    record { crash = follows_noted noted; torn = reaches_noted noted; refused = tt }

pub returns-in_err-push-clause-risks : goal.returns-in_err-push-clause-risks
returns-in_err-push-clause-risks c =
    let s = c.args.self.now in
    let s' : State = record s { ranges = c.push.new.self } in
    let items : c.push.new.self.items ≡ s.ranges.items = search rules in
    let alike : Alike s s' = record { held = refl; synced = refl; ranges = items } in
    let p = err_from_is_err_and c.from_residual.result c.from_residual.ensures.1 in
    rw p.1 (record {
      crash = follows_alike c.args.area c.args.at c.args.len s s' alike;
      torn = tt;
      refused = alike_leaves s s' alike;
    })
