use Rattle.std.proofs.Common.{◌<◌, ◌≡◌, ◌∙◌, length, refl, rules, sym}
use Rattle.std.proofs.lemmas.Result.{err_from_is_err_and}
use Rattle.cell.proofs.Bytes.{bytes-count, more-than-there, unmeasured}
use Rattle.cell.proofs.shared.Held.bytes.Goals as goal

pub returns-in_err-_len-clause-read : goal.returns-in_err-_len-clause-read
returns-in_err-_len-clause-read g c =
    let n = c.args.self.now.cell.node.core.local in
    let p = err_from_is_err_and c.from_residual.result c.from_residual.ensures.1 in
    rw (p.1, p.2) (λ ready. (
      unmeasured n.own n.heap c.args.object c.args.offset (length c.args.buffer.now)
          c.in_err-_len.field-0.0 (sym (c.in_err-_len.ensures.read ready)),
      refl,
    ))

pub returns-in_default-clause-read : goal.returns-in_default-clause-read
returns-in_default-clause-read g c =
    let n = c.args.self.now.cell.node.core.local in
    let long : c.in_ok-_len._len < length c.args.buffer.now = search rules in
    λ ready. (
      more-than-there n.own n.heap c.args.object c.args.offset (length c.args.buffer.now)
          c.in_ok-_len._len (sym (c.in_ok-_len.ensures.read ready)) long,
      refl,
    )

pub copy_from_slice-requires : goal.copy_from_slice-requires
copy_from_slice-requires g c =
    let n = c.args.self.now.cell.node.core.local in
    let counted : length c.args.buffer.now ≡ c.in-Ok.count = search rules in
    counted
    ∙ sym (bytes-count n.own n.heap c.args.object c.args.offset c.in-Ok.count
    c.in_ok-bytes.bytes.now c.in_ok-bytes.ensures.value)
