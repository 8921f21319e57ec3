use Rattle.std.proofs.Common.{arith, sym, ◌∷◌, ◌∙◌, [], List, ap, length, set, ℕ}
use Rattle.std.proofs.lemmas.Bool.{eqb-false}
use Rattle.std.proofs.lemmas.List.{length-set, take_more_set}
use Rattle.lineage.specs.Lines.{begun, nobody}
use Rattle.lineage.specs.declared.Ancestor.{Ancestor}
use Rattle.lineage.proofs.forget.Goals as goal

pub returns-clause-forgot : goal.returns-clause-forgot
returns-clause-forgot c =
    let line = c.args.line.now in
    c.begin.ensures.begun
    ∙ ap (λ (l : List Ancestor). begun (length (set line 0 nobody)) l c.args.process)
    (take_more_set line 0 nobody
    (omega (arith, eqb-false _ 0 (sym c.is_empty.ensures ∙ c.if-is_empty.false))))
    ∙ ap (λ (n : ℕ). begun n (nobody ∷ []) c.args.process) (length-set line 0 nobody)
