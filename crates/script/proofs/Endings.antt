-- Texts that are put before others.
use Rattle.std.proofs.Common.{ℕ, List, ◌++◌, ap, sym, ◌∙◌, append_assoc}
use Rattle.script.specs.declared.ending.Ending.{Ending}
use Rattle.script.specs.Endings.{Grows, held}

-- one after the other
pub both : (later earlier : List ℕ) (old mid new : Ending) → Grows later old mid
    → Grows earlier mid new → Grows (earlier ++ later) old new
both later earlier old mid new first second =
    second ∙ ap (λ bs. earlier ++ bs) first ∙ sym (append_assoc earlier later (held old))
