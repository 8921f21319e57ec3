-- Cells of a reached world drop only messages that are acknowledged, also in each later world.
use Rattle.std.proofs.Common.{◌≡◌, ◌≤◌, ◌<◌, ℕ, List, length, sym, ◌∙◌, subst, ⊎_elim, arith, le_trans}
use Rattle.std.proofs.Math.Logic.{∥∥₁_elim}
use Rattle.std.proofs.Props.{props}
use Rattle.std.proofs.lemmas.Bool.{cases_lt}
use Rattle.model.specs.declared.step.Step.{Step}
use Rattle.model.specs.State.{node_at}
use Rattle.model.specs.View.{NodeView, Shows, link_to}
use Rattle.model.specs.World.{World, acknowledged, new_world, run}
use Rattle.laws.proofs.Cuts.{run-keeps-sent}
use Rattle.laws.proofs.KeepsSent.{new-keeps-sent, run-count}
use Rattle.laws.proofs.Net.{heard-onward}
use Rattle.laws.proofs.Onward.{run-saved}
use Rattle.disk.specs.Areas.{Areas}
use Rattle.wire.specs.Plays.{LeadsTo}
use Rattle.wire.specs.Readers.{known, seat_node}
use Rattle.wire.specs.Rule.{nodes_of}
use Rattle.cell.specs.Cells.{CellView}
use Rattle.cell.specs.Closing.{HasBegun, IsOfNode}
use Rattle.cell.specs.Desks.{HasDropped}
use Rattle.cell.specs.Reached.{IsReached}
use Rattle.cell.proofs.AlikeRuns.{heard-like}
use Rattle.cell.proofs.Applied.{node-count}
use Rattle.cell.proofs.OneAge.{none-sent-past}
use Rattle.cell.proofs.Reaches.{end_of, heard-end, stays-reached}

-- a reached world has as many saved states as current ones
pub saved-count : (w : World) → IsReached w → length w.saved ≡ length w.current
saved-count w r =
    r.by.saved.width
    ∙ (run-keeps-sent (new_world r.shape) r.steps (new-keeps-sent r.shape)).width
    ∙ sym r.by.current.width

-- what was acknowledged stays so
pub acked-still : (w : World) (steps : List Step) (k to : ℕ) → IsReached w
    → acknowledged w k to ≤ acknowledged (run w steps) k to
acked-still w steps k to r =
    run-saved heard-onward w steps (heard-like w (end_of r) r.by (heard-end r)) to k

module _ {D : Type 0} {may_leave : D → Areas → Type 0} {opening : World} {nodes : ℕ}
    (log later : List Step) (reached : IsReached opening) (width : nodes_of opening ≡ nodes)
    (k to : ℕ) (c : CellView D) (m : NodeView) (is : IsOfNode may_leave opening nodes k c)
  where
    -- the world in question
    abbrev then_ : World
    then_ = run (run opening log) later

    was-held : LeadsTo (known c.seat) log → HasDropped c.origin (known c.seat) m
        → (link_to c.origin to).base ≤ acknowledged opening k to
        → (link_to m to).base ≤ acknowledged then_ k to
    was-held leads dropped first =
        let now = acked-still (run opening log) later k to (stays-reached opening log reached) in
        let me : (known c.seat).me ≡ k = sym c.seat.sits.me_is ∙ is.number in
        ∥∥₁_elim (dropped.each to) (hlevel props)
        (⊎_elim
        (λ before.
        le_trans before (le_trans first (le_trans (acked-still opening log k to reached) now)))
        (λ f.
        let net = leads.net f.0 _ f.2 in
        le_trans f.3
        (le_trans
        (subst (λ (i : ℕ). f.1 ≤ acknowledged (run opening log) i to) me
        (subst (λ (o : World). f.1 ≤ acknowledged (run o log) (known c.seat).me to)
        is.of.began net.3))
        now)))

    -- the first node of the cell, by the number of the cell
    first-held : HasBegun c → to < nodes_of opening
        → (link_to c.origin to).base ≤ acknowledged opening k to
    first-held begun inside =
        subst (λ (i : ℕ). (link_to c.origin to).base ≤ acknowledged opening i to) is.number
        (subst
        (λ (o : World). (link_to c.origin to).base ≤ acknowledged o (seat_node c.seat) to)
        is.of.began
        (begun to (subst (λ (o : World). to < nodes_of o) (sym is.of.began) inside)))

    -- no message was dropped that was for a node that isn't there
    none-held : k < nodes → nodes ≤ to → Shows m (node_at then_.saved k)
        → (link_to m to).base ≤ 0
    none-held inside past shows =
        let r = stays-reached (run opening log) later (stays-reached opening log reached) in
        let count = node-count then_ r in
        let wide : length then_.current ≡ nodes =
        run-count (run opening log) later ∙ run-count opening log ∙ width in
        let none = none-sent-past then_ k to r (omega (arith, count, wide, inside))
        (omega (arith, count, wide, past)) in
        let within = (shows.links to).within in
        omega (arith, within, none)

    pub still-held : LeadsTo (known c.seat) log → HasDropped c.origin (known c.seat) m → HasBegun c
        → k < nodes → Shows m (node_at then_.saved k)
        → (link_to m to).base ≤ acknowledged then_ k to
    still-held leads dropped begun inside shows =
        ⊎_elim
        (λ below. was-held leads dropped (first-held begun below))
        (λ past.
        let none = none-held inside (omega (arith, width, past)) shows in
        omega (arith, none))
        (cases_lt to (nodes_of opening))
