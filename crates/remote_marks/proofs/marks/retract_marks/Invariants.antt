use Rattle.std.proofs.Common.{◌≡◌, ℕ, ◌≤◌, List, length, take}
use Rattle.ids.specs.declared.names.Ref.{Ref}
use Rattle.model.specs.Shading.{marks_for}
use Rattle.link.specs.Links.{LinksView, IsLinks}
use Rattle.remote_marks.specs.Asked.{all_appended}
use Rattle.remote_marks.proofs.marks.retract_marks.Given as goal

-- the first `left` Marks are left
pub record Left (targets : List Ref) (left : ℕ) (first now : LinksView) : Type 0 where
  pub back : (cycle : ℕ) (was : LinksView) → IsLinks was →
      first ≡ all_appended was (marks_for cycle targets) →
      now ≡ all_appended was (marks_for cycle (take left targets))
  pub width : length now.links ≡ length first.links
  pub sound : IsLinks now
  pub within : left ≤ length targets

abbrev pub invariant-loop-left : goal.invariant-loop-left
invariant-loop-left l = Left l.targets l.left l.initial.links l.links

abbrev pub decreases-loop-left : goal.decreases-loop-left
decreases-loop-left l = l.left
