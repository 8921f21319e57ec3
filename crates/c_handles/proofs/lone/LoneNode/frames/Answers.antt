use Rattle.std.proofs.Common.{rules, ℕ, List, ◌++◌, drop, length, sym, ap, ◌∙◌}
use Rattle.c_handles.proofs.Packs.{window_none}
use Rattle.c_handles.proofs.lone.LoneNode.frames.Goals as goal

pub returns-then-packing-eq0-2 : goal.returns-then-packing-eq0-2
returns-then-packing-eq0-2 c =
    let old = c.args.buffer.now in
    let done = c.in_ok-packing.ensures.packed in
    let none = sym done.count ∙ c.if-packing-eq0-2.true in
    let core = c.self.inside.logged.node.core in
    let bytes = window_none (length old) core c.args.to c.args.after none in
    rw (← c.self.view_is) (
      search rules,
      none,
      done.needed,
      search rules,
      done.buffer ∙ ap (λ (bs : List ℕ). bs ++ drop (length bs) old) bytes,
    )
