-- Cells that threads have given back are those of one wire, and their disks are of one moment.
use Rattle.std.proofs.Common.{◌≡◌, ◌<◌, ◌≤◌, ◌+◌, ℕ, Bool, IsTrue, IfErr, IfOk, IsErrOf, OnOk, Result, is_ok, true, Ok, Err, List, [], ◌++◌, drop, get_or, length, map, take, Option, Some, slice_get, refl, sym, ap, ◌∙◌, subst, arith}
use Rattle.std.proofs.lemmas.Option.{get_or_from_slice_get, slice_get_read, slice_get_within}
use Rattle.std.proofs.Math.Seq.{take-append_seam}
use mathlib.Core.Logic.{dite}
use native.Mathlib.Decide.{ℕ_discrete}
use Rattle.model.proofs.Lookups.{slice_get-drop}
use Rattle.disk.specs.Areas.{Areas}
use Rattle.model.specs.View.{NodeView, link_to}
use Rattle.model.specs.World.{World, acknowledged}
use Rattle.wire.specs.Readers.{known, opened_with, seat_node, IsSame, IsSeatOf}
use Rattle.wire.specs.Rule.{nodes_of}
use Rattle.wire.specs.declared.seats.Wire.{Wire}
use Rattle.cell.specs.Cells.{CellView, IsSound}
use Rattle.cell.specs.Closing.{AreOfOneMoment, HasBegun, HaveBegun, IsLast}
use Rattle.cell.specs.Moments.{AreAtOnce, EachCell, HasLearned, HaveLearned}
use Rattle.cell.specs.Names.{IsNamed, Name, name_of, seat_name}
use Rattle.wire.proofs.Places.{some_at}
use Rattle.supervisor.specs.Closing.{IsBack, IsRow}

-- a cell that learned something was made with the same node, on the same wire
still-begun : {D : Type 0} (c d : CellView D) → IsSame c.seat d.seat → d.origin ≡ c.origin
    → HasBegun c → HasBegun d
still-begun c d same first begun to inside =
    subst (λ (o : World). (link_to d.origin to).base ≤ acknowledged o (seat_node d.seat) to)
    (sym same.4)
    (subst
    (λ (i : ℕ). (link_to d.origin to).base ≤ acknowledged (known c.seat).opening i to)
    (sym same.2)
    (subst
    (λ (v : NodeView).
    (link_to v to).base ≤ acknowledged (known c.seat).opening (seat_node c.seat) to)
    (sym first)
    (begun to (subst (λ (o : World). to < nodes_of o) same.4 inside))))

-- a cell that threads gave back, after it learned something
still-back : {D : Type 0} (wire : Option Name) (is_begun : Bool) (k : ℕ) (c d : CellView D)
    → HasLearned c d → IsBack wire is_begun k c → IsBack wire is_begun k d
still-back wire is_begun k c d learned h =
    let same = learned.same in
    record {
      name = subst (IsNamed wire)
          (λ i. record { table = sym same.0 i; opening = sym same.4 i }) h.name;
      width = same.3 ∙ h.width ∙ ap nodes_of (sym same.4);
      begun = λ is.
          still-begun c d same (ap (λ (v : CellView _). v.origin) learned.stays) (h.begun is);
    }

pub all-back : {D : Type 0} (wire : Option Name) (is_begun : Bool) (old new : List (CellView D))
    → HaveLearned old new → EachCell (IsBack wire is_begun) old
    → EachCell (IsBack wire is_begun) new
all-back wire is_begun old new learned back k d there =
    let inside = slice_get_within new k d there in
    let was = some_at old k (let long = learned.count in omega (arith, inside, long)) in
    still-back wire is_begun k was.0 d (learned.each k was.0 d was.1 there) (back k was.0 was.1)

module _ {D : Type 0} (wire : Wire) (name : Option Name) (named : name ≡ Some (name_of wire))
    (is_begun : Bool) where
  back-seat : (k : ℕ) (c : CellView D) → IsBack name is_begun k c → IsSeatOf wire c.seat
  back-seat k c h =
      let is : seat_name c.seat ≡ name_of wire = h.name (name_of wire) named in
      let opening : (known c.seat).opening ≡ opened_with wire = ap (λ (n : Name). n.opening) is in (
        ap (λ (n : Name). n.table) is,
        h.width ∙ ap nodes_of opening ∙ wire.opening,
        opening,
      )

  pub back-seats : (cells : List (CellView D)) → EachCell (IsBack name is_begun) cells
      → EachCell (λ k c. IsSeatOf wire c.seat) cells
  back-seats cells back k c there = back-seat k c (back k c there)

-- The cells of a space that is closed: as threads gave them back, and after they learned of one
-- moment.
pub record AreBack {D : Type 0} (wire : Wire) (may_leave : D → Areas → Type 0) (name : Option Name)
    (is_begun : Bool) (old new : List (CellView D)) : Type 0 where
  pub named : name ≡ Some (name_of wire)
  pub back : EachCell (IsBack name is_begun) old
  pub rows : EachCell IsRow old
  pub count : length old ≡ nodes_of (opened_with wire)
  pub learned : HaveLearned old new
  pub sound : EachCell (λ k c. IsSound may_leave c) new
  pub begun : IsTrue is_begun

module _ {D : Type 0} {wire : Wire} {may_leave : D → Areas → Type 0} {name : Option Name}
    {is_begun : Bool} {old new : List (CellView D)}
    (h : AreBack wire may_leave name is_begun old new) where
  have-begun : HaveBegun new
  have-begun k d there =
      let inside = slice_get_within new k d there in
      let was = some_at old k
      (let long = h.learned.count in omega (arith, inside, long)) in
      let learned = h.learned.each k was.0 d was.1 there in
      still-begun was.0 d learned.same (ap (λ (v : CellView D). v.origin) learned.stays)
      ((h.back k was.0 was.1).begun h.begun)

  last-cell : EachCell (IsLast may_leave (opened_with wire) (nodes_of (opened_with wire))) new
  last-cell k d there =
      let inside = slice_get_within new k d there in
      let was = some_at old k
      (let long = h.learned.count in omega (arith, inside, long)) in
      let c = was.0 in
      let learned = h.learned.each k c d was.1 there in
      let seat = back-seat wire name h.named is_begun k c (h.back k c was.1) in
      let row = h.rows k c was.1 in
      let number : seat_node d.seat ≡ k = learned.same.2 ∙ row.number in
      record {
        of = record {
          sound = h.sound k d there;
          began = learned.same.4 ∙ seat.2;
          inside = subst (λ (i : ℕ). i < nodes_of (opened_with wire)) (sym number)
              (let long = h.learned.count in let count = h.count in
              omega (arith, inside, long, count));
        };
        number = number;
        ready = ap (λ (v : CellView D). v.is_open) learned.stays ∙ row.ready;
        width = learned.same.3 ∙ seat.1 ∙ sym wire.opening;
      }

  pub of-one-moment : (disks : List D) → map (λ c. c.disk) new ≡ disks
      → AreAtOnce (opened_with wire) new → AreOfOneMoment may_leave (opened_with wire) disks
  of-one-moment disks same once = record {
    cells = new;
    same = same;
    count = h.learned.count ∙ h.count;
    each = last-cell;
    once = once;
    begun = have-begun;
  }

-- a slice that began as all items of a vector of this length, and that is written back into it
pub written-back : {C : Type 0} {old slice new : List C} {len : ℕ} → slice ≡ old → len ≡ length old
    → length new ≡ length slice → take len (new ++ drop (length new) old) ≡ new
written-back {old = old} {new = new} same long count =
    ap (λ (n : ℕ). take n (new ++ drop (length new) old))
    (long ∙ sym (ap length same) ∙ sym count)
    ∙ take-append_seam new (drop (length new) old)

-- ---- One cell after another

module _ {D : Type 0} where
  -- the first of the cells that are left is in the place of that number
  pub first-left : (all left : List (CellView D)) (number : ℕ) (c : CellView D)
      → left ≡ drop number all → 0 < length left → c ≡ get_or left 0 c
      → slice_get all number ≡ Some c
  first-left all left number c is some first =
      ap (slice_get all) (let same : number ≡ number + 0 = omega arith in same)
      ∙ sym (slice_get-drop all number 0)
      ∙ ap (λ (l : List (CellView D)). slice_get l 0) (sym is)
      ∙ slice_get_read left (length left) 0 c refl some first

  pub holds-next : (P : CellView D → Type 0) (all : List (CellView D)) {number : ℕ}
      {c : CellView D} → slice_get all number ≡ Some c → P c
      → EachCell (λ k d. k < number → P d) all → EachCell (λ k d. k < number + 1 → P d) all
  holds-next P all {number} {c} here kept each k d there below =
      dite (ℕ_discrete k number)
      (λ same.
      let both : ◌≡◌ {A = Option (CellView D)} (Some c) (Some d) =
      sym here ∙ subst (λ (j : ℕ). slice_get all j ≡ Some d) same there in
      let one : c ≡ d = cc in
      subst P one kept)
      (λ apart. each k d there (let before : k < number = omega (arith, below, apart) in before))

  -- one more place of a list, by its number
  pub each-next : (P : ℕ → CellView D → Type 0) (all : List (CellView D)) (place : ℕ)
      (first : CellView D) → first ≡ get_or all place first → P place first
      → EachCell (λ k d. k < place → P k d) all → EachCell (λ k d. k < place + 1 → P k d) all
  each-next P all place first here now each k d there below =
      dite (ℕ_discrete k place)
      (λ same.
      let is : first ≡ d =
      here ∙ get_or_from_slice_get all place d first
      (subst (λ (j : ℕ). slice_get all j ≡ Some d) same there) in
      subst (λ (j : ℕ). P j d) (sym same) (subst (P place) is now))
      (λ apart. each k d there (let before : k < place = omega (arith, below, apart) in before))

-- what holds of each cell of none
pub none-yet : {D : Type 0} (P : ℕ → CellView D → Type 0) (cells : List (CellView D)) → cells ≡ []
    → EachCell P cells
none-yet P cells none k c there =
    let no : ◌≡◌ {A = Option (CellView _)} (slice_get [] k) (Some c) =
    subst (λ l. slice_get l k ≡ Some c) none there in
    absurd cc

-- what holds of a call that succeeded
pub ok-then : {V E A : Type 0} (r : Result V E) → is_ok r ≡ true → OnOk r A → A
ok-then (Ok v) is h = h
ok-then (Err e) is h = absurd cc

-- a value is no error
pub no-error : {V W E : Type 0} (v : V) (r : Result W E) (e : E) → IsErrOf (Ok v) e → IsErrOf r e
no-error v r e is = absurd cc

-- what holds of a result if one thing and another hold of it
pub both-ok : {V E : Type 0} (P Q R : V → Type 0) (r : Result V E) → ((v : V) → P v → Q v → R v)
    → IfOk r P → IfOk r Q → IfOk r R
both-ok P Q R (Ok v) are first second = are v first second
both-ok P Q R (Err e) are first second = tt

-- what follows from what a clause says of an error
pub err-then : {V U : Type 0} {P Q : U → Type 0} (r : Result V U) → IfErr r P
    → ((u : U) → P u → Q u) → IfErr r Q
err-then (Ok v) is then = tt
err-then (Err u) is then = then u is
