use Rattle.std.proofs.Common.{◌≡◌, ℕ, List, OnOk, length, take, sym, ap, ◌∙◌, subst}
use Rattle.std.proofs.lemmas.List.{length-take-le}
use Rattle.world.specs.Outboxes.{OutboxView, released_frames, IsStaged}
use Rattle.world.proofs.outbox.Outbox.stage_new.Goals as goal

pub returns : goal.returns
returns c =
    let inside = c.self.inside in
    let after = c.stage_frames.new.frames in
    let many : length c.truncate.new.self ≡ inside.released =
    ap length c.truncate.ensures ∙ length-take-le inside.released inside.frames c.self.invariant in
    record {
      released =
          subst (λ (v : OutboxView). take inside.released after ≡ released_frames v) c.self.view_is
          (ap (λ (k : ℕ). take k after) (sym many) ∙ c.stage_frames.ensures.kept
          ∙ c.truncate.ensures);
      staged =
          subst (λ (v : OutboxView).
          OnOk c.stage_frames.result (IsStaged c.args.node.now c.args.to (released_frames v) after))
          c.self.view_is
          (subst (λ (frames : List (List ℕ)).
          OnOk c.stage_frames.result (IsStaged c.args.node.now c.args.to frames after))
          c.truncate.ensures c.stage_frames.ensures.staged);
      refused = c.stage_frames.ensures.refused;
    }
