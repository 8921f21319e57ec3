-- What a node's seat records of the slots that it holds.
use Rattle.std.specs.Prelude.{◌≡◌, ℕ, ◌*◌, ◌/◌, ◌%◌, ◌==◌, ◌<◌, ◌≤◌, ◌||◌, Bool, true, cond, is_some, List, [], ◌∷◌, Some}
use mathlib.Core.Option.{some}
use lib.ListN.{get_elem?}
use Rattle.atomic_table.specs.Table.{Me}
use Rattle.ids.specs.declared.limits.TheConstants.{GREATEST_NODES}
use Rattle.msg.specs.Frames.{Plain}
use Rattle.frames.specs.Grammar.{spelling}
use Rattle.wire.specs.Lists.{has, found, once}
use Rattle.wire.specs.Views.{Role, Known, is_node, is_watch}

-- the seat is filling or emptying this mailbox
abbrev pub minds : ℕ → Known → Bool
minds k v = cond (has k v.filling) true (is_some (found k v.emptying))

-- the mailboxes of slots
abbrev pub boxes_of : {S : Type 0} → List (ℕ × S) → List ℕ
boxes_of [] = []
boxes_of (x ∷ xs) = x.0 ∷ boxes_of xs

-- the mailbox is one from the node or to it
abbrev pub IsOwnBox : ℕ → ℕ → ℕ → Type 0
IsOwnBox me nodes k = (k < nodes * nodes) × ((k / nodes == me || k % nodes == me) ≡ true)

pub record Sits {S : Type 0} (bytes : S → List ℕ) (me nodes : ℕ) (held : List ℕ)
    (m : Me S Known) : Type 0 where
  pub role : is_node m.0.role ≡ true
  pub me_is : me ≡ m.0.me
  pub nodes_is : nodes ≡ m.0.nodes
  pub within : me < nodes
  pub few : nodes ≤ GREATEST_NODES
  -- the slots that the seat holds, in their order, are those of the mailboxes that it is filling or
  -- emptying
  pub order : boxes_of m.1 ≡ held
  pub minded : (k : ℕ) → has k held ≡ minds k m.0
  pub single : once held ≡ true
  pub own : (k : ℕ) → has k held ≡ true → IsOwnBox me nodes k
  -- and those that it is emptying have the frame's bytes
  pub spells : (i b : ℕ) (x : S) (f : Plain) → get_elem? m.1 i ≡ some (b, x)
      → found b m.0.emptying ≡ Some f → bytes x ≡ spelling f

abbrev pub IsWatching : Role → Type 0
IsWatching r = is_watch r ≡ true
