use Rattle.std.proofs.lemmas.Result.{err_from_is_err_and}
use Rattle.c_handles.specs.contracts.lone.LoneNode.{the_view}
use Rattle.c_handles.proofs.Listing.{listing_gave, listing_refused}
use Rattle.c_handles.proofs.lone.LoneNode.perform_listing.Goals as goal

pub returns-in_err-answer : goal.returns-in_err-answer
returns-in_err-answer c =
    let p = err_from_is_err_and c.from_residual.result c.from_residual.ensures.1 in
    rw (p.1, p.2, ← c.self.view_is) (listing_refused c.in_err-answer.ensures)

pub returns : goal.returns
returns c =
    rw (c.mark_changed.ensures, c.is_change.ensures, ← c.self.view_is)
    (listing_gave (the_view c.self.inside) c.in_ok-answer.ensures)
