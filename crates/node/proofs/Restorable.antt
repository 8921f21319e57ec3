-- What is tested of the parts of a saved node is what holds of every node.
use Rattle.std.proofs.Common.{◌≡◌, ◌≢◌, ℕ, zero, suc, drop, ◌+◌, ◌-◌, ◌<◌, ◌≤◌, ◌==◌, Bool, true, false, ◌&&◌, List, [], ◌∷◌, length, get_or, Option, Some, None, refl, ap, sym, ◌∙◌, subst, ⊎_elim, arith}
use Rattle.std.specs.Prelude.{◌||◌, ◌↔◌, is_some, nat_le}
use Rattle.std.specs.List.{AllByRecursion, list_all}
use Rattle.std.proofs.lemmas.Bool.{and_from, and_parts, cases_eq, cases_lt, eq-eqb, eqb-true, le-leb, leb-true}
use Rattle.std.proofs.lemmas.Bool.Decides.{nat_tests}
use Rattle.std.proofs.lemmas.List.{get_or_past, nil_from_length}
use Rattle.ids.specs.Limits.{Shaped}
use Rattle.ids.specs.declared.limits.TheConstants.{GREATEST_CYCLE}
use Rattle.ids.specs.declared.names.Ref.{Ref}
use Rattle.msg.specs.declared.body.Body.{Body}
use Rattle.msg.specs.declared.body.Body.TheVariants as body
use Rattle.msg.specs.declared.body.Message.{Message}
use Rattle.msg.specs.declared.body.Token.{Token}
use Rattle.model.specs.declared.age.Age.{Age}
use Rattle.model.specs.declared.age.Age.TheVariants.{Young, Remembered, Old}
use Rattle.model.specs.declared.event.Letter.{Letter}
use Rattle.model.specs.State.{Object, Slot, Free, Occupied, Retired, Heap, Phases, LocalState, slot_at}
use Rattle.model.specs.Heaps.{is_old, no_letter}
use Rattle.model.specs.References.{IfAny, IsWithin, IsPlaced, IsSendable, no_message}
use Rattle.model.specs.Shading.{is_same}
use Rattle.model.specs.Steps.{mentioned}
use Rattle.model.specs.View.{Link, NodeView, no_link, used}
use Rattle.model.specs.WellFormed.{AreLetters, IsOther, IsSlotOf, HasMarked, IsHeld, AreReports}
use Rattle.model.proofs.Asking.{same-flip}
use Rattle.model.proofs.Lookups.{all-map}
use Rattle.model.proofs.Stocks.{calm-empty}
use Rattle.heap.specs.Heap.{IsBorn, IsHeapFor}
use Rattle.link.specs.Links.{IsLinks, link_at}
use Rattle.link_ends.specs.Senders.{IsLink}
use Rattle.node.specs.Invariant.{IsBalanced, IsNode, links_of}
use Rattle.node.specs.Parts.{is_named, is_any_named, is_foreign, is_letter, is_modest, are_whole, is_slot, is_placed, is_message, is_marked, is_report, are_messages, AreHeard, AreParts}
use Rattle.node.proofs.Listed.{listed-is, each-is, all-at, all-each, all-both, distinct-apart, apart-distinct, distinct-before, before-distinct}

-- the next of several letters
whole-step : (ls : List Letter) (k : ℕ) → k < length ls
    → are_whole (drop k ls)
    ≡ (nat_le (get_or ls k no_letter).more (length ls - suc k) && are_whole (drop (suc k) ls))
whole-step [] k inside = absurd (omega (arith, inside))
whole-step (l ∷ ls) zero inside =
    let left : length (l ∷ ls) - suc zero ≡ length ls = omega arith in
    ap (λ (n : ℕ). nat_le l.more n && are_whole ls) (sym left)
whole-step (l ∷ ls) (suc k) inside =
    let left : length (l ∷ ls) - suc (suc k) ≡ length ls - suc k = omega arith in
    whole-step ls k (omega (arith, inside))
    ∙ ap (λ (n : ℕ). nat_le (get_or ls k no_letter).more n && are_whole (drop (suc k) ls))
    (sym left)

pub whole-next : (ls : List Letter) (k : ℕ) → k < length ls
    → are_whole (drop k ls)
    ≡ (nat_le (get_or ls k no_letter).more (length ls - (k + 1)) && are_whole (drop (k + 1) ls))
whole-next ls k inside =
    let next : suc k ≡ k + 1 = omega arith in
    subst
    (λ (n : ℕ). are_whole (drop k ls)
    ≡ (nat_le (get_or ls k no_letter).more (length ls - n) && are_whole (drop n ls)))
    next (whole-step ls k inside)

module _ (shape : Shaped) where
  -- ---- references

  named-is : (r : Ref) → is_named shape r ≡ true ↔ IsWithin shape r
  named-is r = grind (arith, nat_tests)

  any-is : (v : Option Ref) → is_any_named shape v ≡ true ↔ IfAny (IsWithin shape) v
  any-is None = (λ _. tt, λ _. refl)
  any-is (Some r) = named-is r

  -- ---- slots

  abbrev HoldsWithin : List (Option Ref) → Type 0
  HoldsWithin vs = (j : ℕ) → IfAny (IsWithin shape) (get_or vs j None)

  any-each : (vs : List (Option Ref)) → list_all (is_any_named shape) vs ≡ true ↔ HoldsWithin vs
  any-each vs = each-is (IfAny (IsWithin shape)) (is_any_named shape) any-is vs None tt

  -- in a plain space the object is shared and old
  abbrev IsKnown : Object → Type 0
  IsKnown o = shape.wide ≡ false → (o.shared ≡ true) × (o.age ≡ Old)

  known-is : (o : Object) → (shape.wide || (o.shared && is_old o.age)) ≡ true ↔ IsKnown o
  known-is o = (to shape.wide o.shared o.age, from shape.wide o.shared o.age)
    where
      to : (a b : Bool) (c : Age) → a || (b && is_old c) ≡ true → a ≡ false
          → (b ≡ true) × (c ≡ Old)
      to true b c is plain = absurd cc
      to false true Old is plain = (refl, refl)
      to false true Young is plain = absurd cc
      to false true Remembered is plain = absurd cc
      to false false c is plain = absurd cc

      from : (a b : Bool) (c : Age) → (a ≡ false → (b ≡ true) × (c ≡ Old))
          → a || (b && is_old c) ≡ true
      from true b c is = refl
      from false b c is = rw ((is refl).0, (is refl).1) refl

  module _ (cycle : ℕ) where
    -- a slot's first generation isn't tested here
    abbrev IsGiven : Slot → Type 0
    IsGiven (Free g) = 2 ≤ g
    IsGiven (Occupied g o) =
        (o.mark ≤ cycle)
        × (IsKnown o
        × ((length o.places ≤ shape.places)
        × ((length o.bytes ≤ shape.bytes) × HoldsWithin o.places)))
    IsGiven Retired = Unit {0}

    slot-is : (s : Slot) → is_slot shape cycle s ≡ true ↔ IsGiven s
    slot-is (Free g) = grind (arith, nat_tests)
    slot-is (Occupied g o) = grind (arith, nat_tests, known-is o, any-each o.places)
    slot-is Retired = (λ _. tt, λ _. refl)

    slots-are : (slots : List Slot)
        → list_all (is_slot shape cycle) slots ≡ true
        ↔ ((k : ℕ) → IsGiven (get_or slots k Retired))
    slots-are slots = each-is IsGiven (is_slot shape cycle) slot-is slots Retired tt

    given-slot : (s : Slot) → IsGiven s → IsBorn s → IsSlotOf shape cycle s
    given-slot (Free g) is born = is
    given-slot (Occupied g o) is born = record {
      born = born;
      places = is.1.1.0;
      bytes = is.1.1.1.0;
      mark = is.0;
      shared = λ plain. (is.1.0 plain).0;
      age = λ plain. (is.1.0 plain).1;
    }
    given-slot Retired is born = tt

    given-holds : (s : Slot) (g : ℕ) (o : Object) → IsGiven s → s ≡ Occupied g o
        → HoldsWithin o.places
    given-holds (Occupied f x) g o is e =
        let same : x ≡ o = cc in subst (λ (z : Object). HoldsWithin z.places) same is.1.1.1.1
    given-holds s g o is e = absurd cc

    slot-given : (s : Slot) → IsSlotOf shape cycle s
        → ((g : ℕ) (o : Object) → s ≡ Occupied g o → HoldsWithin o.places) → IsGiven s
    slot-given (Free g) is holds = is
    slot-given (Occupied g o) is holds =
        let known : IsKnown o = λ plain. (is.shared plain, is.age plain) in
        (is.mark, (known, (is.places, (is.bytes, holds g o refl))))
    slot-given Retired is holds = tt

  -- ---- letters, and what was asked for

  abbrev IsModest : Letter → Type 0
  IsModest l = shape.wide ≡ false → (l.more ≡ 0) × (l.bytes ≡ [])

  modest-is : (l : Letter) → is_modest shape l ≡ true ↔ IsModest l
  modest-is l = (to shape.wide l.more l.bytes, from shape.wide l.more l.bytes)
    where
      to : (a : Bool) (n : ℕ) (bs : List ℕ) → a || (n == 0 && length bs == 0) ≡ true → a ≡ false
          → (n ≡ 0) × (bs ≡ [])
      to true n bs is plain = absurd cc
      to false n bs is plain =
          let both = and_parts (n == 0) (length bs == 0) is in
          (eqb-true n 0 both.0, nil_from_length bs (eqb-true (length bs) 0 both.1))

      from : (a : Bool) (n : ℕ) (bs : List ℕ) → (a ≡ false → (n ≡ 0) × (bs ≡ []))
          → a || (n == 0 && length bs == 0) ≡ true
      from true n bs is = refl
      from false n bs is = rw ((is refl).0, (is refl).1) refl

  module _ (own : ℕ) where
    abbrev IsFrom : Letter → Type 0
    IsFrom l = IsOther shape own l.from × (IsModest l × IfAny (IsWithin shape) l.reference)

    letter-is : (l : Letter) → is_letter shape own l ≡ true ↔ IsFrom l
    letter-is l = grind (arith, nat_tests, modest-is l, any-is l.reference)

    -- as many follow each of them as it says
    letters-whole : (ls : List Letter)
        → ((list_all (is_letter shape own) ls ≡ true) × (are_whole ls ≡ true))
        ↔ (AreLetters shape own ls
        × AllByRecursion (λ (l : Letter). IfAny (IsWithin shape) l.reference) ls)
    letters-whole [] = (λ _. (tt, tt), λ _. (refl, refl))
    letters-whole (l ∷ ls) =
        let rest = letters-whole ls in
        let any = any-is l.reference in (
          λ both.
              let first = and_parts (is_letter shape own l) (list_all (is_letter shape own) ls)
              both.0 in
              let last = and_parts (nat_le l.more (length ls)) (are_whole ls) both.1 in
              let after = rest.0 (first.1, last.1) in
              let one = (letter-is l).0 first.0 in
              ((one.0, (leb-true l.more (length ls) last.0, one.1.0), after.0), (one.1.1, after.1)),
          λ both.
              let after = rest.1 (both.0.2, both.1.1) in (
                and_from (is_letter shape own l) (list_all (is_letter shape own) ls)
                    ((letter-is l).1 (both.0.0, (both.0.1.1, both.1.0))) after.0,
                and_from (nat_le l.more (length ls)) (are_whole ls)
                    (le-leb l.more (length ls) both.0.1.0) after.1,
              ),
        )

    abbrev IsForeign : Ref → Type 0
    IsForeign r = IsWithin shape r × (r.node ≢ own)

    asked-are : (rs : List Ref)
        → list_all (is_foreign shape own) rs ≡ true ↔ AllByRecursion IsForeign rs
    asked-are =
        listed-is IsForeign (is_foreign shape own)
        (λ (r : Ref). grind (arith, nat_tests, named-is r))

  -- ---- messages

  placed-is : (b : Body) → is_placed shape b ≡ true ↔ IsPlaced shape b
  placed-is (body.Put target place reference) = grind (arith, nat_tests)
  placed-is (body.Get target place label) = grind (arith, nat_tests)
  placed-is (body.Post label references bytes) = grind (arith, nat_tests)
  placed-is (body.Fetch target label offset count) = grind (arith, nat_tests)
  placed-is b = (λ _. tt, λ _. refl)

  module _ (cycle : ℕ) (within : cycle ≤ GREATEST_CYCLE) where
    abbrev IsTimed : Message → Type 0
    IsTimed x = IsSendable shape x × (x.stamp ≤ cycle)

    message-is : (x : Message) → is_message shape cycle x ≡ true ↔ IsTimed x
    message-is x =
        let named = listed-is (IsWithin shape) (is_named shape) named-is (mentioned x.body) in
        grind (arith, nat_tests, named, placed-is x.body, within)

    none-timed : IsTimed no_message
    none-timed =
        (record { stamp = omega arith; references = tt; place = tt }, omega arith)

    abbrev AreTimed : Link → Type 0
    AreTimed l = (k : ℕ) → IsTimed (get_or l.unacknowledged k no_message)

    links-are : (ls : List Link)
        → list_all (are_messages shape cycle) ls ≡ true ↔ ((i : ℕ) → AreTimed (get_or ls i no_link))
    links-are ls =
        each-is AreTimed (are_messages shape cycle)
        (λ (l : Link).
        each-is IsTimed (is_message shape cycle) message-is l.unacknowledged no_message none-timed)
        ls no_link (λ k. none-timed)

-- ---- grey objects

marked-is : (cycle : ℕ) (s : Slot) → is_marked cycle s ≡ true ↔ HasMarked cycle s
marked-is cycle (Occupied g o) = (eqb-true o.mark cycle, eq-eqb o.mark cycle)
marked-is cycle (Free g) = (λ is. absurd cc, λ is. absurd is)
marked-is cycle Retired = (λ is. absurd cc, λ is. absurd is)

-- ---- reports

module _ (own : ℕ) (reports : List ℕ) where
  heard-is : AreReports own reports → (i : ℕ) → is_report own i (get_or reports i 0) ≡ true
  heard-is is i =
      let first : i ≡ 0 → get_or reports i 0 ≡ 0 = λ e. rw e is.first in
      let far : own ≢ 0 → get_or reports i 0 ≡ 0 = λ other. is.others other i in
      ⊎_elim {C = is_report own i (get_or reports i 0) ≡ true}
      (λ (here : own ≡ 0). ⊎_elim {C = is_report own i (get_or reports i 0) ≡ true}
      (λ (e : i ≡ 0). let none = first e in grind (arith, nat_tests, none))
      (λ (later : i ≢ 0). grind (arith, nat_tests, here, later)) (cases_eq i 0))
      (λ (other : own ≢ 0). let none = far other in grind (arith, nat_tests, none))
      (cases_eq own 0)

  -- a report that there can't be
  none-heard : (i report : ℕ) → (own ≡ 0 → i ≡ 0) → is_report own i report ≡ true → report ≡ 0
  none-heard i report apart is = grind (arith, nat_tests, apart, is)

  heard-reports : (nodes : ℕ) → AreHeard own nodes reports → AreReports own reports
  heard-reports nodes is =
      let none : (i : ℕ) → (own ≡ 0 → i ≡ 0) → get_or reports i 0 ≡ 0 =
      λ i apart.
      ⊎_elim {C = get_or reports i 0 ≡ 0}
      (λ inside. none-heard i (get_or reports i 0) apart (is.each i inside))
      (get_or_past reports i 0) (cases_lt i (length reports)) in
      record {
        first = none 0 (λ _. refl);
        others = λ far i. none i (λ here. absurd (far here));
      }

-- ---- the token, and the link to the node itself

token-is : (cycle ended : ℕ) (token : Option Token)
    → (cycle ≤ ended → is_some token ≡ false) ↔ IsHeld cycle ended token
token-is cycle ended None = (λ _. tt, λ _ _. refl)
token-is cycle ended (Some token) = (
  λ none.
      ⊎_elim {C = ended < cycle} (λ before. before)
      (λ over. absurd (let never : is_some (Some token) ≡ false = none over in cc))
      (cases_lt ended cycle),
  λ before over. absurd (omega (arith, over, before)),
)

unused-link : (l : Link) → IsLink l → used l ≡ 0 → l ≡ no_link
unused-link l is none =
    let base : l.base ≡ 0 = omega (arith, none) in
    let kept : l.kept ≡ 0 = omega (arith, none, is.kept) in
    let count : length l.unacknowledged ≡ 0 = omega (arith, none) in
    rw (base, kept, nil_from_length l.unacknowledged count) refl

-- ---- the node

module _ (n : NodeView) where
  abbrev local : LocalState
  local = n.local

  abbrev shape : Shaped
  shape = n.local.shape

  abbrev heap : Heap
  heap = n.local.heap

  abbrev phases : Phases
  phases = n.local.phases

  pub parts-from : IsNode n → AreParts n
  parts-from is =
      let letters = (letters-whole shape local.own heap.letters).1 (
        is.stocked.letters,
        all-each (λ (l : Letter). IfAny (IsWithin shape) l.reference) heap.letters no_letter
            (λ k _. is.references.letters k),
      ) in
      record {
        shape = is.shape;
        phases = is.phases.phases;
        home = record {
          own = is.own;
          holds = record {
            slots = (slots-are shape phases.cycle heap.slots).1
                (λ k. slot-given shape phases.cycle (slot_at heap k) (is.stocked.slots k)
                (λ g o e j. is.references.places k g o j e));
            registers = (any-each shape heap.registers).1 is.references.registers;
            letters = letters.0;
            whole = letters.1;
          };
          cursor = is.phases.cursor;
          reports = record {
            count = is.phases.reports;
            each = λ i _. heard-is local.own phases.reports is.phases.heard i;
          };
          calm = λ over.
              let done : phases.ended ≡ phases.cycle =
              omega (arith, over, is.phases.phases.ended) in
              ap (λ (ks : List ℕ). length ks == 0) (is.stocked.calm done);
          token = (token-is phases.cycle phases.ended local.ring.token).1 is.token;
        };
        grey = record {
          marked = λ i inside.
              (marked-is phases.cycle (slot_at heap (get_or heap.grey i 0))).1
              (all-at (λ (k : ℕ). HasMarked phases.cycle (slot_at heap k)) heap.grey 0 i inside
              is.stocked.grey);
          once = distinct-apart heap.grey is.stocked.once;
        };
        asked = record {
          foreign = (asked-are shape local.own local.asked).1
              (all-both (IsWithin shape) (λ (r : Ref). r.node ≢ local.own) local.asked
              is.asked.within
              is.asked.others);
          once = distinct-before is_same same-flip local.asked is.asked.once;
        };
        ends = record {
          width = is.links.width;
          messages = (links-are shape phases.cycle is.phases.phases.within n.links).1
              (λ i k. (is.links.messages i k, is.links.timely.stamps i k));
          unsent = ap used is.links.timely.unused;
          untaken = is.links.timely.unheard;
        };
      }

  pub standing : AreParts n → IsHeapFor n.local.shape n.local.heap → IsLinks (links_of n)
      → IsBalanced n.local.ring n.links n.local.got → IsNode n
  standing is made links balance =
      let all = is.home.holds in
      let given = (slots-are shape phases.cycle heap.slots).0 all.slots in
      let letters = (letters-whole shape local.own heap.letters).0 (all.letters, all.whole) in
      let asked = (asked-are shape local.own local.asked).0 is.asked.foreign in
      let timed = (links-are shape phases.cycle is.phases.within n.links).0 is.ends.messages in
      record {
        shape = is.shape;
        own = is.home.own;
        references = record {
          registers = (any-each shape heap.registers).0 all.registers;
          letters = λ k.
              ⊎_elim {C = IfAny (IsWithin shape) (get_or heap.letters k no_letter).reference}
              (λ inside.
              all-at (λ (l : Letter). IfAny (IsWithin shape) l.reference) heap.letters no_letter k
              inside letters.1)
              (λ past. rw (get_or_past heap.letters k no_letter past) tt)
              (cases_lt k (length heap.letters));
          places = λ k g o j e.
              given-holds shape phases.cycle (slot_at heap k) g o (given k) e j;
        };
        stocked = record {
          registers = made.registers;
          letters = letters.0;
          slots = λ k.
              given-slot shape phases.cycle (slot_at heap k) (given k) (made.born k);
          grey = all-each (λ (k : ℕ). HasMarked phases.cycle (slot_at heap k)) heap.grey 0
              (λ i inside. (marked-is phases.cycle (slot_at heap (get_or heap.grey i 0))).0
              (is.grey.marked i inside));
          once = apart-distinct heap.grey is.grey.once;
          calm = λ done. calm-empty heap (is.home.calm (omega (arith, done)));
        };
        asked = record {
          within = all-map (IsForeign shape local.own) (IsWithin shape) (λ r one. one.0) local.asked
              asked;
          others = all-map (IsForeign shape local.own) (λ (r : Ref). r.node ≢ local.own)
              (λ r one. one.1) local.asked asked;
          once = before-distinct is_same same-flip local.asked is.asked.once;
        };
        phases = record {
          phases = is.phases;
          cursor = is.home.cursor;
          reports = is.home.reports.count;
          heard = heard-reports local.own phases.reports shape.nodes is.home.reports;
        };
        token = (token-is phases.cycle phases.ended local.ring.token).0 is.home.token;
        links = record {
          width = is.ends.width;
          links = links;
          messages = λ i k. (timed i k).0;
          timely = record {
            unused = unused-link (link_at (links_of n) local.own) (links.links local.own)
                is.ends.unsent;
            unheard = is.ends.untaken;
            stamps = λ i k. (timed i k).1;
          };
        };
        balance = balance;
      }
