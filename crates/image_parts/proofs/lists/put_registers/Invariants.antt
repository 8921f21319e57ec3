use Rattle.std.proofs.Common.{◌≤◌, ◌-◌, take, length}
use Rattle.codec.specs.Writing.{PutsAll}
use Rattle.frames.specs.Formats.{optional}
use Rattle.frames.specs.declared.version.Version.TheVariants.{Second}
use Rattle.image_parts.proofs.lists.put_registers.Given as goal

abbrev pub invariant-loop-done : goal.invariant-loop-done
invariant-loop-done l = record {
  within : l.done ≤ length l.registers;
  written : PutsAll (optional Second) l.fn.out l.out (take l.done l.registers);
}

abbrev pub decreases-loop-done : goal.decreases-loop-done
decreases-loop-done l = length l.registers - l.done
