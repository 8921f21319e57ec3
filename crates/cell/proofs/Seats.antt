-- A desk whose seat took a step on a mailbox: the seat is the same, and knows the same about its
-- node.
use Rattle.std.proofs.Common.{◌≡◌, ◌≢◌, ℕ, ◌<◌, List, true, sym, ap, ◌∙◌, subst}
use Rattle.msg.specs.Frames.{Plain}
use Rattle.model.specs.View.{is_other}
use Rattle.laws.proofs.Carried.{apart, inside}
use Rattle.wire.specs.Views.{Pair}
use Rattle.wire.specs.Readers.{known, seat_node, IsSame, IsSeatOf}
use Rattle.wire.specs.declared.seats.NodeSeat.{NodeSeat}
use Rattle.wire.specs.declared.seats.Wire.{Wire}
use Rattle.node_store.specs.Acting.{log_of}
use Rattle.node_store.specs.Noted.{IsLogged}
use Rattle.cell.specs.Desks.{AreTaken, IsSavedNode, IsSeatAt, IsUnsaved, StandsAt}
use Rattle.cell.specs.declared.desk.Desk.TheInside.{Inside}

-- another node of the space, in terms of the wire
pub other-on : (desk : Inside) (w : Wire) (to : ℕ) → IsSeatOf w desk.seat
    → is_other desk.logged.node.core.local to ≡ true → (to < w.nodes) × (to ≢ seat_node desk.seat)
other-on desk w to of other = (
  subst (λ k. to < k) (desk.stands.nodes ∙ sym desk.at.nodes ∙ of.1)
      (inside desk.logged.node.core.local to other),
  λ same. apart desk.logged.node.core.local to other (same ∙ desk.at.own ∙ sym desk.stands.own),
)

-- what a desk needs of a seat
pub record Keeps (desk : Inside) (t : NodeSeat) : Type 0 where
  pub at : IsSeatAt desk.own desk.nodes t
  pub stands : StandsAt desk.own desk.nodes (known t).pair desk.logged.node.core
  pub was : IsSavedNode desk.own desk.nodes (known t).pair.saved desk.saved.value
  pub ended_is : desk.ended.number ≡ (known t).pair.saved.local.phases.ended
  pub unsaved : IsUnsaved desk.is_unsaved (known t).pair

pub steps-on : (desk : Inside) (t : NodeSeat) → IsSame desk.seat t
    → (known t).pair ≡ (known desk.seat).pair → Keeps desk t
steps-on desk t same pair = record {
  at = record { own = same.2 ∙ desk.at.own; nodes = same.3 ∙ desk.at.nodes };
  stands = subst (λ (p : Pair). StandsAt desk.own desk.nodes p desk.logged.node.core) (sym pair)
      desk.stands;
  was = subst (λ (p : Pair). IsSavedNode desk.own desk.nodes p.saved desk.saved.value) (sym pair)
      desk.was;
  ended_is = desk.ended_is ∙ sym (ap (λ (p : Pair). p.saved.local.phases.ended) pair);
  unsaved = subst (IsUnsaved desk.is_unsaved) (sym pair) desk.unsaved;
}

-- the facts of the type `Desk`, in their order
pub facts : {A B C D E F G : Type 0} → A → B → C → D → E → F → G
    → A × (B × (C × (D × (E × (F × (G × Unit {0}))))))
facts at stands was ended unsaved taken logged =
    (at, (stands, (was, (ended, (unsaved, (taken, (logged, tt)))))))

abbrev pub Facts : Inside → NodeSeat → Type 0
Facts desk t =
    IsSeatAt desk.own desk.nodes t
    × (StandsAt desk.own desk.nodes (known t).pair desk.logged.node.core
    × (IsSavedNode desk.own desk.nodes (known t).pair.saved desk.saved.value
    × ((desk.ended.number ≡ (known t).pair.saved.local.phases.ended)
    × (IsUnsaved desk.is_unsaved (known t).pair
    × (AreTaken (known t).taken desk.logged.node.early
    × (∥ IsLogged (log_of desk.logged) desk.saved.value desk.logged.node.core ∥₁ × Unit {0}))))))

-- they still hold if only what the seat took from the wire has changed
pub still-facts : (desk : Inside) (t : NodeSeat) → IsSame desk.seat t
    → (known t).pair ≡ (known desk.seat).pair → AreTaken (known t).taken desk.logged.node.early
    → Facts desk t
still-facts desk t same pair taken =
    let kept = steps-on desk t same pair in
    facts kept.at kept.stands kept.was kept.ended_is kept.unsaved taken desk.led

-- or not even that
pub same-facts : (desk : Inside) (t : NodeSeat) → IsSame desk.seat t
    → (known t).pair ≡ (known desk.seat).pair → (known t).taken ≡ (known desk.seat).taken
    → Facts desk t
same-facts desk t same pair taken =
    still-facts desk t same pair
    (subst (λ (ts : List Plain). AreTaken ts desk.logged.node.early) (sym taken) desk.taken)
