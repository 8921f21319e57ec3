use Rattle.std.proofs.Common.{◌≡◌, take, is_none}
use Rattle.std.specs.List.{list_all}
use Rattle.node.proofs.node_core.joining.are_empty.Given as goal

abbrev pub invariant-loop-register : goal.invariant-loop-register
invariant-loop-register l = l.empty ≡ list_all is_none (take l.register-index l.registers)
