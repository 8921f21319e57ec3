-- What a call of one handle among several does to what they hold.
use Rattle.std.proofs.Common.{◌≡◌, ℕ, ◌+◌, ◌<◌, ◌≤◌, Bool, true, false, List, Option, None, Result, length, refl, subst, sym, ap, arith, ⊎_elim, ◌∙◌, length-set, slice_index_or, slice_set}
use Rattle.std.proofs.lemmas.Bool.{cases_lt, false≢true}
use Rattle.std.proofs.lemmas.List.{get_or-map, length-map, map-set}
use Rattle.std.proofs.Math.Seq.{map-set_same}
use Rattle.model.specs.declared.event.Answer.{Answer}
use Rattle.model.specs.declared.event.Event.TheVariants as event
use Rattle.c_values.specs.Faults.{Through}
use Rattle.c_values.specs.declared.fault.Fault.{Fault}
use Rattle.c_handles.specs.Cells.{CellActs}
use Rattle.c_handles.specs.Collecting.{AllAre, AreInOrder, AreSaved, AtCell, Begins, HasUnswept, SomeIs, begun, cell_at, helds, is_in_place}
use Rattle.c_handles.specs.declared.cell_handle.CellHandle.{CellHandle}
use Rattle.c_handles.specs.declared.seated.SeatedCell.{SeatedCell}

length-helds : (cells : List CellHandle) → length (helds cells) ≡ length cells
length-helds cells = length-map cells (λ h. h.held)

-- what one of them holds
pub held_at : (cells : List CellHandle) (k : ℕ) (d : CellHandle) → k < length cells
    → cell_at (helds cells) k ≡ (slice_index_or cells k d).held
held_at cells k d less = get_or-map (λ h. h.held) cells k d None less

-- a call of one of them
pub at_cell : {A : Type 0}
    {Does : Option SeatedCell → Option SeatedCell → Result A Fault → Type 0} {r : Result A Fault}
    (cells : List CellHandle) (k i : ℕ) (d now : CellHandle) → i ≡ k → k < length cells
    → Does (slice_index_or cells i d).held now.held r
    → AtCell k Does (helds cells) (helds (slice_set cells i now)) r
at_cell {A} {Does} {r} cells k i d now at less does = record {
  cell = now.held;
  is = map-set (λ h. h.held) cells i now ∙ ap (λ j. slice_set (helds cells) j now.held) at;
  does = subst (λ was. Does was now.held r)
      (sym (held_at cells k d less ∙ ap (λ j. (slice_index_or cells j d).held) (sym at))) does;
}

-- one that changes nothing
pub same_helds : (cells : List CellHandle) (i : ℕ) (d now : CellHandle)
    → now.held ≡ (slice_index_or cells i d).held → helds (slice_set cells i now) ≡ helds cells
same_helds cells i d now same = map-set_same (λ h. h.held) cells i now d same

-- ---- Looking at one after the other

-- The first ones were looked at, and each passed the test with this result. Nothing changed.
pub record Looked (test : ℕ → Option SeatedCell → Bool) (b : Bool) (start cells : List CellHandle)
    (node : ℕ) : Type 0 where
  pub width : length cells ≡ length start
  pub same : helds cells ≡ helds start
  pub before : (k : ℕ) → k < node → test k (cell_at (helds start) k) ≡ b

module _ {test : ℕ → Option SeatedCell → Bool} {b : Bool} {start cells : List CellHandle}
    {node : ℕ} (looked : Looked test b start cells node) (i : ℕ) (d : CellHandle) (at : i ≡ node)
    (less : node < length start) where
  -- what the next one holds
  next : cell_at (helds start) node ≡ (slice_index_or cells i d).held
  next =
      ap (λ cs. cell_at cs node) (sym looked.same)
      ∙ held_at cells node d (subst (λ n. node < n) (sym looked.width) less)
      ∙ ap (λ j. (slice_index_or cells j d).held) (sym at)

  pub tested : (c : Bool) → test node (slice_index_or cells i d).held ≡ c
      → SomeIs test c (helds start)
  tested c is = record {
    place = node;
    there = subst (λ n. node < n) (sym (length-helds start)) less;
    is = ap (test node) next ∙ is;
  }

  pub look_on : (now : CellHandle) → now.held ≡ (slice_index_or cells i d).held
      → test node (slice_index_or cells i d).held ≡ b
      → Looked test b start (slice_set cells i now) (node + 1)
  look_on now same is = record {
    width = length-set cells i now ∙ looked.width;
    same = same_helds cells i d now same ∙ looked.same;
    before = λ k before. ⊎_elim (λ earlier. looked.before k earlier)
        (λ later. subst (λ j. test j (cell_at (helds start) j) ≡ b) {x = node} {y = k}
        (omega (arith, before, later)) (ap (test node) next ∙ is)) (cases_lt k node);
  }

pub look_same : {test : ℕ → Option SeatedCell → Bool} {b : Bool} {start cells : List CellHandle}
    {node : ℕ} → Looked test b start cells node → (i : ℕ) (d now : CellHandle)
    → now.held ≡ (slice_index_or cells i d).held → helds (slice_set cells i now) ≡ helds start
look_same {cells = cells} looked i d now same = same_helds cells i d now same ∙ looked.same

pub all_looked : {test : ℕ → Option SeatedCell → Bool} {b : Bool} {start cells : List CellHandle}
    {node : ℕ} → Looked test b start cells node → length start ≤ node
    → AllAre test b (helds start)
all_looked {start = start} looked all k less =
    looked.before k (omega (arith, all, subst (λ n. k < n) (length-helds start) less))

-- ---- Cells in order

-- one isn't in its place
pub out_of_order : (n : ℕ) (start : List CellHandle) → n ≡ length start
    → SomeIs (λ k. is_in_place k n) false (helds start) → AreInOrder (helds start) → ⊥
out_of_order n start is some order =
    false≢true (sym some.is
    ∙ subst (λ m. is_in_place some.place m (cell_at (helds start) some.place) ≡ true)
    (length-helds start ∙ sym is) (order.each some.place some.there))

-- ---- The end

-- All cells are saved, and a node hasn't swept the cycle.
pub record IsDue (cycle : ℕ) (start now : List CellHandle) : Type 0 where
  pub same : helds now ≡ helds start
  pub some : 0 < length now
  pub saved : AreSaved (helds start)
  pub unswept : HasUnswept cycle (helds start)

-- so node 0 begins one
pub begins : {cycle : ℕ} {start now : List CellHandle} → IsDue cycle start now
    → (d new : CellHandle) (a : Result Answer Fault)
    → Through (CellActs event.Begin) (slice_index_or now 0 d).held new.held a
    → Begins cycle (helds start) (helds (slice_set now 0 new)) (begun a)
begins {now = now} due d new a does = record {
  saved = due.saved;
  unswept = due.unswept;
  result = a;
  at = subst (λ was. AtCell 0 (Through (CellActs event.Begin)) was (helds (slice_set now 0 new)) a)
      due.same (at_cell now 0 0 d new refl due.some does);
  says = refl;
}
