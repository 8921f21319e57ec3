use Rattle.std.proofs.Common.{◌∙◌, ◌+◌, ap, length, slice_set}
use Rattle.std.proofs.lemmas.Result.{err_from_is_err_and}
use Rattle.image.proofs.Logged.{logged_behind, logged_saved, not_large}
use Rattle.image.proofs.saving.to_logged_behind.Goals as goal

pub returns-in_err-bytes-clause-refused : goal.returns-in_err-bytes-clause-refused
returns-in_err-bytes-clause-refused c =
    let p = err_from_is_err_and c.from_residual.result c.from_residual.ensures.1 in
    rw (p.1, p.2) c.in_err-bytes.ensures.refused

pub returns-in_err-bytes-clause-last : goal.returns-in_err-bytes-clause-last
returns-in_err-bytes-clause-last c =
    let p = err_from_is_err_and c.from_residual.result c.from_residual.ensures.1 in
    rw (p.1, p.2) c.in_err-bytes.ensures.last

pub returns-clause-written : goal.returns-clause-written
returns-clause-written c =
    let front = c.args.front.now in
    let number = c.logged_number-number.result in
    c.with_version.ensures
    ∙ ap (λ l. slice_set l (length front + 2) number) c.in_ok-bytes.ensures.written
    ∙ logged_behind front c.args.node.now.core number
    (rw c.state.ensures.value at c.logged_number-number.ensures)

pub returns-clause-within : goal.returns-clause-within
returns-clause-within c =
    let n = c.args.node.now.core in
    not_large n c.in_ok-bytes.ensures.image

pub returns-clause-image : goal.returns-clause-image
returns-clause-image c = logged_saved c.args.node.now.core c.in_ok-bytes.ensures.image
