use Rattle.std.proofs.Common.{Ok, inl}
use Rattle.std.proofs.lemmas.Result.{err_from_is_err_and}
use Rattle.c_handles.proofs.Exits.{gave, gave_refusal}
use Rattle.c_handles.proofs.Listing.{given_plain}
use Rattle.c_handles.proofs.lone.LoneNode.perform_noting.Goals as goal

pub returns-in_err-answer : goal.returns-in_err-answer
returns-in_err-answer c =
    let p = err_from_is_err_and c.from_residual.result c.from_residual.ensures.1 in
    rw (p.1, p.2, ← c.self.view_is) (inl (gave_refusal c.in_err-answer.ensures.acted))

pub returns : goal.returns
returns c =
    let a = c.in_ok-answer.answer in
    rw (c.mark_changed.ensures, c.is_change.ensures, ← c.self.view_is)
    (given_plain (rw (← c.self.view_is) at c.requires) (gave (Ok a) c.in_ok-answer.ensures.acted))
