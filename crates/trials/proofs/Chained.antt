-- Disks on which a next space can begin.
use Rattle.std.proofs.Common.{◌≡◌, ◌<◌, ◌≤◌, ℕ, List, Option, None, Result, Ok, Err, Some, length, set, slice_get, sym, ap, ◌∙◌, subst, subst₂, arith, ⊎_elim}
use Rattle.std.specs.Prelude.{IfErr, IfOk, IfSome}
use Rattle.std.proofs.lemmas.Option.{slice_get_within}
use Rattle.ids.specs.Limits.{Shaped}
use Rattle.disk.specs.Areas.{Areas}
use Rattle.model.specs.View.{NodeView, link_to}
use Rattle.model.specs.World.{World, acknowledged}
use Rattle.wire.specs.Readers.{known, opened_with, seat_node, IsMade, IsSame}
use Rattle.wire.specs.Rule.{nodes_of}
use Rattle.wire.specs.declared.seats.NodeSeat.{NodeSeat}
use Rattle.wire.specs.declared.seats.Watch.{Watch}
use Rattle.wire.specs.declared.seats.Wire.{Wire}
use Rattle.wire.proofs.Places.{set-from, some_at}
use Rattle.cell.specs.Cells.{CellView}
use Rattle.cell.specs.Closing.{AreOfOneKill, AreOfOneMoment, HaveBegun}
use Rattle.cell.specs.Moments.{AreAtOnce, EachCell, HaveLearned}
use Rattle.cell.specs.Reached.{IsReached}
use Rattle.cell.specs.Theorems.{AreFresh}
use Rattle.trials.specs.Chains.{AreLeftBy, CanBegin, IsCellAt}

-- what a space gave out, if it did
pub given : {T E V : Type 0} (P Q : V → Type 0) (r : Result T E) (o : Option V) (f : T → V)
    → IfErr r (λ _. o ≡ None) → IfOk r (λ c. IfSome o (λ v. v ≡ f c))
    → ((v : V) → P v → Q v) → IfOk r (λ c. P (f c)) → IfSome o Q
given P Q (Ok c) None f none same next h = tt
given P Q (Ok c) (Some v) f none same next h = next v (subst P (sym same) h)
given P Q (Err e) None f none same next h = tt
given P Q (Err e) (Some v) f none same next h = absurd (let never = none in cc)

-- what holds of an opening on such disks in each of the three cases
pub by-begin : {D : Type 0} {seen : D → Areas} {may_leave : D → Areas → Type 0} {shape : Shaped}
    {disks : List D} {P : Type 0} → (AreFresh seen shape disks → P)
    → ((opening : World) → IsReached opening → nodes_of opening ≡ shape.nodes
    → AreOfOneMoment may_leave opening disks → P)
    → ((opening : World) → IsReached opening → nodes_of opening ≡ shape.nodes
    → AreOfOneKill seen may_leave opening disks → P)
    → CanBegin seen may_leave shape disks → P
by-begin fresh closed killed =
    ⊎_elim fresh
    (⊎_elim (λ c. closed c.opening c.reached c.width c.once)
    (λ k. killed k.opening k.reached k.width k.kill))

pub some-then : {T : Type 0} (P Q : T → Type 0) (o : Option T) → ((x : T) → P x → Q x)
    → IfSome o P → IfSome o Q
some-then P Q None next h = tt
some-then P Q (Some x) next h = next x h

-- ---- The cells of a space

-- what the first nodes had dropped
abbrev HadDropped : World → ℕ → NodeView → Type 0
HadDropped opening node first =
    (to : ℕ) → to < nodes_of opening → (link_to first to).base ≤ acknowledged opening node to

pub still-at : {D : Type 0} (wire : Wire) (k : ℕ) (c d : CellView D) → IsSame c.seat d.seat
    → d.origin ≡ c.origin → IsCellAt wire k c → IsCellAt wire k d
still-at wire k c d same origin is = record {
  of = (same.0 ∙ is.of.0, same.3 ∙ is.of.1, same.4 ∙ is.of.2);
  number = same.2 ∙ is.number;
  begun = subst (λ (o : World). HadDropped o (seat_node d.seat) d.origin) (sym same.4)
      (subst (λ (n : ℕ). HadDropped (known c.seat).opening n d.origin) (sym same.2)
      (subst (λ (v : NodeView). HadDropped (known c.seat).opening (seat_node c.seat) v)
      (sym origin) is.begun));
}

pub each-set : {D : Type 0} (wire : Wire) (xs : List (CellView D)) (i : ℕ) (x y : CellView D)
    → EachCell (IsCellAt wire) xs → slice_get xs i ≡ Some x → IsSame x.seat y.seat
    → y.origin ≡ x.origin → EachCell (IsCellAt wire) (set xs i y)
each-set wire xs i x y h there same origin = λ k z is.
    ⊎_elim
    (λ t. subst₂ (IsCellAt wire) (sym t.0) t.1 (still-at wire i x y same origin (h i x there)))
    (λ t. h k z t.1)
    (set-from xs i k y z is)

-- the cells of an opening
pub each-made : {D : Type 0} (wire : Wire) (w : World) (watches : ℕ) (cells : List (CellView D))
    (seats : List NodeSeat) (watching : List Watch)
    → ((k : ℕ) (c : CellView D) → slice_get cells k ≡ Some c → slice_get seats k ≡ Some c.seat)
    → IsMade w watches wire seats watching → HaveBegun cells → EachCell (IsCellAt wire) cells
each-made wire w watches cells seats watching at made begun = λ k c there.
    let seat = made.each_seat k c.seat (at k c there) in
    record { of = seat.of; number = seat.node; begun = begun k c there }

pub killed-now : {D : Type 0} {seen : D → Areas} {may_leave : D → Areas → Type 0} {wire : Wire}
    {old new : List (CellView D)} {disks : List D} → EachCell (IsCellAt wire) old
    → length old ≡ nodes_of (opened_with wire) → HaveLearned old new
    → AreAtOnce (opened_with wire) new → AreLeftBy seen may_leave new disks
    → AreOfOneKill seen may_leave (opened_with wire) disks
killed-now {D} {seen} {may_leave} {wire} {old} {new} {disks} each count learned once left =
    let at : EachCell (IsCellAt wire) new =
    λ k d there.
    (let inside = slice_get_within new k d there in
    let same = learned.count in
    let c = some_at old k (omega (arith, inside, same)) in
    let h = learned.each k c.0 d c.1 there in
    still-at wire k c.0 d h.same (ap (λ (v : CellView D). v.origin) h.stays) (each k c.0 c.1)) in
    let many = learned.count ∙ count in
    record {
      cells = new;
      count = many;
      as_many = left.count ∙ many;
      each = λ k d there.
          (let is = at k d there in
          let inside = slice_get_within new k d there in
          let disk = some_at disks k (let same = left.count in omega (arith, inside, same)) in
          let number = is.number in
          record {
            of = record {
              sound = (left.each k d disk.0 there disk.1).0;
              began = is.of.2;
              inside = omega (arith, inside, many, number);
            };
            number = number;
            width = is.of.1 ∙ sym wire.opening;
          });
      once = once;
      begun = λ k d there. (at k d there).begun;
      left = λ k d disk there on. (left.each k d disk there on).1;
    }
