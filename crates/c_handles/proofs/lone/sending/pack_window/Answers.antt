use Rattle.std.proofs.Common.{arith, length, subst, suc, ℕ, ◌+◌}
use Rattle.std.proofs.lemmas.Result.{err_from_is_err_and}
use Rattle.c_handles.specs.Frames.{Holds, IsLetter, pack_above, packing, window}
use Rattle.c_handles.proofs.lone.sending.pack_window.Goals as goal

pub loop-place-preserved : goal.loop-place-preserved
loop-place-preserved c =
    let whole = c.args.buffer.now in
    let place = c.loop-place.place in
    let packed = λ (k : ℕ).
    packing (length whole) c.args.node.now.core c.args.to c.args.after k in
    record {
      holds = subst
          (λ (k : ℕ). Holds whole (packed k) c.add_above.new.self c.add_above.new.buffer)
          {x = suc place} {y = place + 1} (omega arith)
          (subst
          (λ f. Holds whole (pack_above (length whole) c.args.after (packed place) f)
          c.add_above.new.self c.add_above.new.buffer)
          c.frame_at.ensures
          (c.in_ok-add_above.ensures.added whole (packed place) c.loop-place.invariant.holds));
      needed = omega (arith, c.add_above.ensures.needed, c.loop-place.invariant.needed);
      count = omega (arith, c.add_above.ensures.count, c.loop-place.invariant.count);
    }

pub returns-in_err-add_above-clause-refused : goal.returns-in_err-add_above-clause-refused
returns-in_err-add_above-clause-refused c =
    let p = err_from_is_err_and c.from_residual.result c.from_residual.ensures.1 in
    let refused = c.in_err-add_above.ensures.refused in
    rw (p.1, p.2)
    (refused.0, (c.loop-place.place, subst IsLetter c.frame_at.ensures refused.1))

pub returns-clause-packed : goal.returns-clause-packed
unfolding window
returns-clause-packed c =
    let whole = c.args.buffer.now in
    subst
    (λ (k : ℕ).
    Holds whole (packing (length whole) c.args.node.now.core c.args.to c.args.after k)
    c.loop-place.packing c.loop-place.buffer)
    {x = c.loop-place.place} {y = 32}
    (omega (arith, c.loop-place-test.false, c.loop-place.auto.place-end))
    c.loop-place.invariant.holds
