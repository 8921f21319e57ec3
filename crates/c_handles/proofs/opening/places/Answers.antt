use Rattle.std.proofs.Common.{◌≡◌, ◌∷◌, ◌++◌, ◌∙◌, List, None, Option, [], ap, arith, replicate, ℕ}
use Rattle.std.proofs.lemmas.List.{replicate_more}
use Rattle.std.proofs.lemmas.Result.{err_from_is_err_and}
use Rattle.c_handles.proofs.opening.places.Goals as goal

pub loop-init : goal.loop-init
loop-init g c = c.new-places.ensures.items

pub loop-preserved : goal.loop-preserved
loop-preserved g c =
    c.in_ok-push.ensures.items
    ∙ ap (λ (l : List (Option g.row.T.Denot)). l ++ None ∷ []) c.loop.invariant
    ∙ replicate_more c.loop.counter None

pub returns-in_err-push : goal.returns-in_err-push
returns-in_err-push g c =
    let p = err_from_is_err_and c.from_residual.result c.from_residual.ensures.1 in
    rw p.1 (record { empty = tt; refused = p.2 })

pub returns : goal.returns
returns g c =
    let all : c.loop.counter ≡ c.args.count =
    omega (arith, c.loop-test.false, c.loop.auto.counter-end) in
    record {
      empty = c.loop.invariant
          ∙ ap (λ (n : ℕ). replicate {A = Option g.row.T.Denot} n None) all;
      refused = tt;
    }
