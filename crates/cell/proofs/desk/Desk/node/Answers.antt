use Rattle.std.proofs.Common.{ℕ, subst, sym}
use Rattle.wire.specs.Readers.{known}
use Rattle.cell.specs.Desks.{IsSavedNode, StandsAt}
use Rattle.cell.proofs.desk.Desk.node.Goals as goal

pub returns-clause-sound : goal.returns-clause-sound
returns-clause-sound c =
    let desk = c.self.inside in
    let n = desk.logged.node.core in
    rw (← c.self.view_is)
    record {
      stands = subst (λ (i : ℕ). StandsAt i desk.seat.nodes (known desk.seat).pair n)
          (sym desk.at.own)
          (subst (λ (i : ℕ). StandsAt desk.own i (known desk.seat).pair n)
          (sym desk.at.nodes) desk.stands);
      was = subst
          (λ (i : ℕ). IsSavedNode i desk.seat.nodes (known desk.seat).pair.saved desk.saved.value)
          (sym desk.at.own)
          (subst
          (λ (i : ℕ). IsSavedNode desk.own i (known desk.seat).pair.saved desk.saved.value)
          (sym desk.at.nodes) desk.was);
      unsaved = desk.unsaved;
      taken = desk.taken;
    }
