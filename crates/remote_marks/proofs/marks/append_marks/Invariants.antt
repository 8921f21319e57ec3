use Rattle.std.proofs.Common.{◌≡◌, ℕ, List, length, take}
use Rattle.ids.specs.declared.names.Ref.{Ref}
use Rattle.model.specs.Shading.{marks_for}
use Rattle.link.specs.Links.{LinksView, IsLinks}
use Rattle.remote_marks.specs.Asked.{AreSent}
use Rattle.remote_marks.proofs.marks.append_marks.Given as goal

-- the Marks of these references are appended
pub record Sent (cycle : ℕ) (targets : List Ref) (first now : LinksView) : Type 0 where
  pub sent : AreSent (marks_for cycle targets) first now
  pub width : length now.links ≡ length first.links
  pub sound : IsLinks now

abbrev pub invariant-loop-sent : goal.invariant-loop-sent
invariant-loop-sent l = Sent l.cycle (take l.sent l.targets) l.initial.links l.links
