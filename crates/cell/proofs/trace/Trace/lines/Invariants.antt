use Rattle.std.proofs.Common.{◌≡◌, map, take, string_bytes}
use Rattle.cell.specs.Lines.{line_text}
use Rattle.cell.proofs.trace.Trace.lines.Given as goal

-- the texts so far are those of the first lines
abbrev pub invariant-loop-place : goal.invariant-loop-place
invariant-loop-place l =
    map string_bytes l.texts.items ≡ map line_text (take l.place l.self)
