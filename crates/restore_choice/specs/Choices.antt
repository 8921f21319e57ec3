-- Which saved states of nodes go together. A choice has for each node the index of one of its
-- states.
use Rattle.std.specs.Prelude.{◌≡◌, ◌≢◌, ◌<◌, ◌≤◌, ◌+◌, ℕ, List, [], Option, Some, None, length, slice_get, slice_index, Vec}
use Rattle.std.specs.Global.{Global}
use Rattle.restore_choice.specs.declared.State.{State}
use Rattle.restore_choice.specs.declared.Answer.{Answer}
use Rattle.restore_choice.specs.declared.Answer.TheVariants.{Newest, NoneFits, OutOfOrder}

-- how many messages a state counts as received of a node, sent to it, and dropped for it
abbrev pub received_in : Option State → ℕ → ℕ
received_in None from = 0
received_in (Some s) from = slice_index s.received.items from

abbrev pub sent_in : Option State → ℕ → ℕ
sent_in None to = 0
sent_in (Some s) to = slice_index s.sent.items to

abbrev pub dropped_in : Option State → ℕ → ℕ
dropped_in None to = 0
dropped_in (Some s) to = slice_index s.dropped.items to

-- the states of a node
abbrev pub all_of : Option (Vec State Global) → List State
all_of None = []
all_of (Some v) = v.items

abbrev pub states_of : List (Vec State Global) → ℕ → List State
states_of histories node = all_of (slice_get histories node)

-- the state that is chosen of a node
abbrev pub chosen_of : List (Vec State Global) → List ℕ → ℕ → Option State
chosen_of histories choice node = slice_get (states_of histories node) (slice_index choice node)

pub record IsChoice (histories : List (Vec State Global)) (choice : List ℕ) : Type 0 where
  pub width : length choice ≡ length histories
  pub each : (i : ℕ) → i < length histories
      → slice_index choice i < length (states_of histories i)

-- The first state, of node i, has received no more of node j than the second one, of node j, has
-- sent to it, and dropped no more for it than that one has received.
pub record FitsBeside (i j : ℕ) (first second : Option State) : Type 0 where
  pub received : received_in first j ≤ sent_in second i
  pub dropped : dropped_in first j ≤ received_in second i

-- so it is of each two nodes
abbrev pub Fits : List (Vec State Global) → List ℕ → Type 0
Fits histories choice =
    (i j : ℕ) → i < length histories → j < length histories → i ≢ j
    → FitsBeside i j (chosen_of histories choice i) (chosen_of histories choice j)

-- The choice fits, and has of each node a state that is at least as new as that of any other choice
-- that fits.
pub record IsGreatest (histories : List (Vec State Global)) (choice : List ℕ) : Type 0 where
  pub is : IsChoice histories choice
  pub fits : Fits histories choice
  pub greatest : (other : List ℕ) → IsChoice histories other → Fits histories other → (i : ℕ)
      → i < length histories → slice_index other i ≤ slice_index choice i

-- no choice fits
abbrev pub NoneFit : List (Vec State Global) → Type 0
NoneFit histories =
    (choice : List ℕ) → IsChoice histories choice → Fits histories choice → ⊥

-- The second state comes after the first one of the same node: what it received and sent has only
-- grown.
pub record IsAfter (first second : State) : Type 0 where
  pub received : (j : ℕ)
      → slice_index first.received.items j ≤ slice_index second.received.items j
  pub sent : (j : ℕ) → slice_index first.sent.items j ≤ slice_index second.sent.items j

-- the states of a node are in their order, oldest first
abbrev pub AreInOrder : List State → Type 0
AreInOrder states =
    (k : ℕ) (first second : State) → slice_get states k ≡ Some first
    → slice_get states (k + 1) ≡ Some second → IsAfter first second

abbrev pub AreHistories : List (Vec State Global) → Type 0
AreHistories histories = (i : ℕ) → AreInOrder (states_of histories i)

-- Some other node shows that this one's state is too new to go with any state that the other one
-- may have.
pub record IsAhead (histories : List (Vec State Global)) (choice : List ℕ) (node : ℕ) : Type 0 where
  pub inside : node < length histories
  pub other : ℕ
  pub within : other < length histories
  pub apart : node ≢ other
  pub ahead : FitsBeside node other (chosen_of histories choice node)
      (chosen_of histories choice other) → ⊥

-- the answer about these histories
abbrev pub IsAnswer : List (Vec State Global) → Answer → Type 0
IsAnswer histories (Newest choice) = IsGreatest histories choice.items
IsAnswer histories NoneFits = NoneFit histories
IsAnswer histories (OutOfOrder node) = AreInOrder (states_of histories node) → ⊥
