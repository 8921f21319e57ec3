-- A message that was kept until its turn is refused only if a number or memory runs out.
use Rattle.std.proofs.Common.{◌≡◌, ◌+◌, ℕ, Err, refl, sym, ap, ◌∙◌, ⊎_elim, arith}
use Rattle.std.proofs.Math.Logic.{∥∥₁_elim}
use Rattle.std.proofs.Props.{props}
use Rattle.ids.specs.declared.refusal.Refusal.{Refusal}
use Rattle.ids.specs.declared.refusal.Refusal.TheVariants.{LinkSpent}
use Rattle.msg.specs.Frames.{plain_data}
use Rattle.msg.specs.declared.frame.Data.{Data}
use Rattle.model.specs.State.{LocalState, NodeState, got_from, node_at}
use Rattle.model.specs.Steps.{receive}
use Rattle.model.specs.World.{run}
use Rattle.model.proofs.Refusals.{refused-as}
use Rattle.wire.specs.Plays.{Arrives}
use Rattle.wire.specs.Views.{Known, Pair}
use Rattle.cell.specs.Events.{IsDue}
use Rattle.cell.specs.Laws.{NextIsTakenIn}
use Rattle.cell.specs.Reached.{IsReached}
use Rattle.cell.proofs.Composed.{in-turn, received}
use Rattle.cell.proofs.Reaches.{stays-reached}

due-taken : {v : Known} {p : LocalState} {d : Data} (e : Refusal) → IsReached v.opening
    → p ≡ v.pair.current.local → IsDue v p d → Arrives v (plain_data d)
    → receive v.pair.current d.from d.to d.number d.stamp d.body ≡ Err e → e ≡ LinkSpent
due-taken {v} {p} {d} e reached shows due arrives refused =
    let here : node_at (run v.opening arrives.log).current d.to ≡ v.pair.current =
    ap (λ (i : ℕ). node_at (run v.opening arrives.log).current i) due.receiver
    ∙ ap (λ (q : Pair). q.current) arrives.pair in
    let got : got_from (node_at (run v.opening arrives.log).current d.to).local d.from + 1
    ≡ d.number =
    ap (λ (s : NodeState). got_from s.local d.from + 1) here
    ∙ ap (λ (l : LocalState). got_from l d.from + 1) (sym shows) ∙ sym due.turn in
    ⊎_elim
    (λ spent. spent)
    (λ beyond. absurd (omega (arith, got, beyond.1)))
    (in-turn (run v.opening arrives.log) (stays-reached v.opening arrives.log reached) d.from d.to
    d.number d.stamp d.body e arrives.net
    (ap (λ (s : NodeState). receive s d.from d.to d.number d.stamp d.body) here ∙ refused))

pub next-taken-in : NextIsTakenIn
next-taken-in from d s e old new v w reached shows given plenty =
    let due = given.due from d refl refl in
    let refused = received v.pair.current d e (refused-as (given.acted.states tt) plenty) in
    ∥∥₁_elim due.arrives (hlevel props)
    (λ arrives. due-taken e reached shows.local due arrives refused)
