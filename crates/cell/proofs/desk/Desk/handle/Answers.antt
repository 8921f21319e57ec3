use Rattle.std.proofs.Common.{◌≡◌, ◌<◌, refl, sym, ap, ◌∙◌, subst, Some}
use Rattle.std.proofs.Math.Logic.{∥∥₁_map}
use Rattle.msg.specs.Frames.{plain}
use Rattle.msg.specs.declared.frame.Frame.{Frame}
use Rattle.wire.specs.Rule.{receiver, sender}
use Rattle.wire.specs.Readers.{known}
use Rattle.cell.specs.Desks.{IsTaken}
use Rattle.cell.proofs.Marks.{marked-after}
use Rattle.cell.proofs.Quiet.{data-may}
use Rattle.cell.proofs.desk.Desk.handle.Goals as goal

pub perform-requires : goal.perform-requires
perform-requires c =
    let v = known c.args.self.now.seat in
    let d = c.in-Data.data in
    let to : d.to ≡ v.me =
    sym (ap (λ (f : Frame). receiver (plain f)) c.in-Data.is) ∙ c.requires.receiver in
    let from : d.from < v.nodes =
    subst (λ (f : Frame). sender (plain f) < v.nodes) c.in-Data.is c.requires.sender in
    let taken : IsTaken v.taken d =
    ∥∥₁_map c.requires.taken
    (λ at. (at.0, at.1 ∙ ap (λ (f : Frame). Some (plain f)) c.in-Data.is)) in (
      c.requires.wire,
      (
        refl,
        (
          λ x is. subst (IsTaken v.taken) (let same : d ≡ x = cc in same) taken,
          (data-may v d taken to from, λ i x next is. absurd cc),
        ),
      ),
    )

pub returns-in-Data-clause-unsaved : goal.returns-in-Data-clause-unsaved
returns-in-Data-clause-unsaved c =
    marked-after _ _ c.perform.result _ _ c.perform.ensures.given.acted.known
    c.perform.ensures.unsaved
