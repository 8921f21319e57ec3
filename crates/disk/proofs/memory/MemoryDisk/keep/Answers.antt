use Rattle.std.proofs.Common.{rules}
use Rattle.disk.proofs.Undoing.{either_undone, kept_undone}
use Rattle.disk.proofs.memory.MemoryDisk.keep.Goals as goal

pub invariant_of-self : goal.invariant_of-self
invariant_of-self c =
    let old = c.args.self.now in
    record {
      undoes = either_undone old.undo.items _ c.requires c.in_ok-undo.ensures old.undoes
          c.push.ensures.items;
    }

pub returns-clause-undoes : goal.returns-clause-undoes
returns-clause-undoes c =
    let old = c.args.self.now in
    kept_undone {next = c.push.new.self.items} old.undo.items c.requires c.in_ok-undo.ensures
    old.undoes (search rules)
