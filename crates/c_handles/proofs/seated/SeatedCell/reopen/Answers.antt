use Rattle.std.proofs.Common.{ap, refl, ◌∙◌}
use Rattle.disk.specs.Memory.{held_by}
use Rattle.disk.specs.Record.{reads_left}
use Rattle.node_store.proofs.Stores.{read_kept}
use Rattle.c_handles.proofs.seated.SeatedCell.reopen.Goals as goal

pub returns : goal.returns
returns c =
    let old = c.args.self.now in
    let disk = old.cell.disk in
    let said = c.in_ok-reopened.ensures in
    record {
      opened = read_kept c.reopen-reopened.new.self.node (held_by disk)
          (c.node-node.ensures.sound.plain old.plain (held_by disk) (reads_left disk.account.state))
          said.opened;
      done = said.done;
      knows = said.known;
      entered = said.entered;
      restarted = said.restarted;
      saved_still = said.saved_still;
      plain = c.node-node-2.ensures.sound.plain (ap (λ v. v.logs) said.done ∙ old.plain);
      same = said.same;
      refused = said.refused;
      others = said.others;
      keeps = record { wire = refl; mark = refl; imaged = refl; gone = c.empty.ensures };
      fresh = refl;
    }
