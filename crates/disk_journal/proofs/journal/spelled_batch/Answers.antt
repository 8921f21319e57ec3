use Rattle.std.proofs.Common.{◌∙◌, ◌++◌, ◌∷◌, [], ap}
use Rattle.disk_journal.proofs.Spelled.{shut_alone, shut_more}
use Rattle.disk_journal.proofs.journal.spelled_batch.Goals as goal

pub returns-in_default : goal.returns-in_default
returns-in_default c =
    shut_alone c.args.batch.now
    (c.in_ok-bytes.ensures ∙ ap (λ l. l ++ 0 ∷ []) c.in_ok-record.ensures)

pub returns : goal.returns
returns c =
    shut_more c.args.batch.now _
    (c.in_ok-bytes.ensures ∙ ap (λ l. l ++ 0 ∷ []) c.in_ok-record.ensures) c.in_ok-bytes-2.ensures
