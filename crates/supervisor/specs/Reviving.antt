-- Why a node wasn't revived, and what that leaves.
use Rattle.std.specs.Prelude.{◌≡◌, ℕ, List}
use Rattle.ids.specs.declared.refusal.Refusal.{Refusal}
use Rattle.ids.specs.declared.refusal.Refusal.TheVariants as refusal
use Rattle.supervisor.specs.Teams.{AreOthers}
use Rattle.supervisor.specs.declared.reviving.Unrevived.{Unrevived}
use Rattle.supervisor.specs.declared.reviving.Unrevived.TheVariants as fault

-- the refusal that it comes from
abbrev pub refusal_of : Unrevived → Refusal
refusal_of fault.NoNode = refusal.NoNode
refusal_of fault.NoRoom = refusal.Memory
refusal_of (fault.Shut shut) = shut.refusal
refusal_of (fault.NotStarted reopened) = refusal.Memory

-- The workers that haven't been joined, before and after: the same, or none of this node is left.
abbrev pub IsLeftBy : ℕ → List ℕ → List ℕ → Unrevived → Type 0
IsLeftBy node before after fault.NoNode = after ≡ before
IsLeftBy node before after fault.NoRoom = after ≡ before
IsLeftBy node before after (fault.Shut shut) = AreOthers node after
IsLeftBy node before after (fault.NotStarted reopened) = AreOthers node after
