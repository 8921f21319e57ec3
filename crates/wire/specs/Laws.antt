-- A seat's record of its steps on mailboxes is true, whoever wrote the code that took them.
use Rattle.std.specs.Prelude.{◌≡◌, ℕ, ◌*◌, ◌<◌, List, set, slice_index}
use mathlib.Core.Option.{some}
use lib.ListN.{get_elem?}
use Rattle.atomic_table.specs.Table.{State}
use Rattle.model.specs.World.{World}
use Rattle.wire.specs.Views.{node, Known, visits_with}
use Rattle.wire.specs.Rule.{nodes_of, Holds}

-- A step that keeps the rule, and after which a node's seat says that it took one more step on a
-- mailbox, found this word and left that one.
pub record Tells {S : Type 0} (bytes : S → List ℕ) (opening : World) (s t : State S Known)
    (box place found left : ℕ) : Type 0 where
  pub before : Holds bytes opening s
  pub after : Holds bytes opening t
  pub seat : ℕ
  pub old : Known
  pub new : Known
  pub at : get_elem? s.views seat ≡ some old
  pub stepped : t.views ≡ set s.views seat new
  pub was_node : old.role ≡ node
  pub is_node : new.role ≡ node
  pub same : new.me ≡ old.me
  pub inside : box < nodes_of opening * nodes_of opening
  pub visits : new.visits ≡ visits_with box place found left old

-- The word that the seat says it found was there right before the step, and the one that it says it
-- left is there right after the step.
abbrev pub VisitsAreTrue : {S : Type 0} → (S → List ℕ) → Type 0
VisitsAreTrue {S} bytes =
    (opening : World) (s t : State S Known) (box place found left : ℕ)
    → Tells bytes opening s t box place found left
    → (found ≡ slice_index s.words box) × (left ≡ slice_index t.words box)
