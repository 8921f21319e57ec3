-- What holds of a wire between any two atomic steps ("The rule" in docs/WIRE.md). The word m, for m
-- below n * n, is that of the mailbox from node m / n to node m % n, and the slot m holds its
-- bytes. Then come the count word and the board.
use Rattle.std.specs.Prelude.{◌≡◌, ℕ, suc, ◌+◌, ◌*◌, ◌/◌, ◌%◌, ◌^◌, ◌<◌, ◌≤◌, true, cond, ◌==◌, List, [], ◌∷◌, ◌++◌, length, slice_index, slice_get, Some}
use Rattle.std.specs.List.{filter}
use mathlib.Core.Option as maybe
use mathlib.Core.Option.{some}
use lib.ListN.{get_elem?}
use Rattle.atomic_table.specs.Table.{State}
use Rattle.ids.specs.declared.limits.TheConstants.{GREATEST_CYCLE}
use Rattle.msg.specs.Frames.{Plain, data_frame, ack_frame}
use Rattle.frames.specs.Grammar.{Fits, spelling}
use Rattle.model.specs.declared.step.Step.{Step}
use Rattle.model.specs.declared.step.Step.TheVariants as step
use Rattle.model.specs.State.{node_at}
use Rattle.model.specs.World.{World, happens, is_event, run, IsInNet}
use Rattle.wire.specs.Views.{Role, dealer, node, watch, Visit, Known, pair_at}
use Rattle.wire.specs.Lists.{has, found, Continues}

abbrev pub nodes_of : World → ℕ
nodes_of w = length w.current

-- the cycle whose marking node 0's saved state knows to have ended
abbrev pub ended_of : World → ℕ
ended_of w = (node_at w.saved 0).local.phases.ended

-- a world in which everything is saved; as in every world, node 0 knows of no end of a cycle after
-- its own
pub record IsOpening (w : World) : Type 0 where
  pub same : w.saved ≡ w.current
  pub ended : ended_of w ≤ (node_at w.saved 0).local.phases.cycle

-- the node whose pair a step changes
abbrev pub node_of : Step → ℕ
node_of (step.Act i e) = i
node_of (step.Save i) = i
node_of (step.Restart i) = i
node_of (step.Deliver from to number) = to
node_of (step.Hand from to) = from

-- the steps of one node, in order
abbrev pub events_of : ℕ → List Step → List Step
events_of i [] = []
events_of i (s ∷ ss) = cond (node_of s == i) (s ∷ events_of i ss) (events_of i ss)

-- each step of the list is an event of the space after the steps before it
abbrev pub AreEvents : World → List Step → Type 0
AreEvents w [] = Unit {0}
AreEvents w (s ∷ ss) = (is_event w s ≡ true) × AreEvents (happens w s) ss

abbrev pub sender : Plain → ℕ
sender (data_frame from to number stamp body) = from
sender (ack_frame by of number) = by

abbrev pub receiver : Plain → ℕ
receiver (data_frame from to number stamp body) = to
receiver (ack_frame by of number) = of

-- the bytes are the one spelling of the frame
abbrev pub Spells : Plain → List ℕ → Type 0
Spells f bytes = Fits f × (bytes ≡ spelling f)

-- a mailbox; a seat that is filling or emptying it is named by its index
pub data Box : Type 0 where
  empty : Box
  full : Plain → Box
  filling_by : ℕ → Box
  emptying_by : ℕ → Plain → Box

abbrev pub face : Box → ℕ
face empty = 0
face (full f) = 1
face (emptying_by j f) = 2
face (filling_by j) = 3

-- the frame that is in it, if there is one
abbrev pub lying : Box → List Plain
lying empty = []
lying (full f) = f ∷ []
lying (filling_by j) = []
lying (emptying_by j f) = []

-- the mailbox between the frame's nodes, and those frames of a list that belong to one mailbox
abbrev pub box_of : ℕ → Plain → ℕ
box_of n f = sender f * n + receiver f

abbrev pub in_box : ℕ → ℕ → List Plain → List Plain
in_box n m [] = []
in_box n m (f ∷ fs) = cond (box_of n f == m) (f ∷ in_box n m fs) (in_box n m fs)

-- Of a list of steps on mailboxes: those that a node's seat took, and those on one mailbox.
abbrev pub by_node : ℕ → List Visit → List Visit
by_node i xs = filter (λ x. x.node == i) xs

abbrev pub on_box : ℕ → List Visit → List Visit
on_box m xs = filter (λ x. x.box == m) xs

-- Steps on the mailbox m, one after another from this place and word on. Each finds the word that
-- the one before left, so the last one leaves this word.
abbrev pub AreVisits : ℕ → ℕ → ℕ → ℕ → List Visit → Type 0
AreVisits m word place first [] = first ≡ word
AreVisits m word place first (x ∷ xs) =
    (x.box ≡ m) × (x.place ≡ place) × (x.found ≡ first) × AreVisits m word (suc place) x.left xs

-- The mailboxes, and for each of them, in order: the frames that were ever posted to it, the frames
-- that were ever taken from it, and the steps that were ever taken on it.
pub record Mail : Type 0 where
  pub boxes : ℕ → Box
  pub posted : ℕ → List Plain
  pub got : ℕ → List Plain
  pub visits : ℕ → List Visit

module _ {S : Type 0} (bytes : S → List ℕ) (n : ℕ) (w : World)
    (homes : List (maybe.Option S)) (views : List Known) (m : ℕ) where
  -- the frame's bytes are in the slot
  abbrev pub Holding : Plain → Type 0
  Holding f = (x : S) × (get_elem? homes m ≡ some (some x)) × Spells f (bytes x)

  -- The slot is in the table while the mailbox is empty or full. Otherwise the seat that is filling
  -- or emptying the mailbox has it, and its view says so.
  abbrev pub Content : Box → Type 0
  Content empty = (x : S) × (get_elem? homes m ≡ some (some x))
  Content (full f) = Holding f × IsInNet w f × (sender f ≡ m / n) × (receiver f ≡ m % n)
  Content (filling_by j) =
      (v : Known) × (get_elem? views j ≡ some v) × (v.role ≡ node) × (v.me ≡ m / n)
      × (has m v.filling ≡ true)
  Content (emptying_by j f) =
      (v : Known) × (get_elem? views j ≡ some v) × (v.role ≡ node) × (v.me ≡ m % n)
      × (found m v.emptying ≡ Some f)

pub record BoxOk {S : Type 0} (bytes : S → List ℕ) (n : ℕ) (w : World)
    (words : List ℕ) (homes : List (maybe.Option S)) (views : List Known) (m : ℕ) (b : Box) : Type 0
  where
    pub shows : slice_index words m ≡ face b
    pub content : Content bytes n w homes views m b

-- a node's seat, with the index j
pub record NodeOk (opening : World) (log : List Step) (board : ℕ) (mail : Mail) (j : ℕ)
    (v : Known) : Type 0 where
  pub below : v.me < nodes_of opening
  pub nodes_is : v.nodes ≡ nodes_of opening
  pub opening_is : v.opening ≡ opening
  pub pair_is : pair_at (run opening log) v.me ≡ v.pair
  pub events_are : v.events ≡ events_of v.me log
  pub released : (k : ℕ) (f : Plain) → slice_get v.taken k ≡ Some f → IsInNet (run opening log) f
  pub fills : (m : ℕ) → has m v.filling ≡ true
      → (m < nodes_of opening * nodes_of opening) × (mail.boxes m ≡ filling_by j)
  pub empties : (m : ℕ) (f : Plain) → found m v.emptying ≡ Some f
      → (m < nodes_of opening * nodes_of opening) × (mail.boxes m ≡ emptying_by j f)
  -- it posted what was ever posted to its mailboxes, and took what was ever taken from them
  pub sends : (m : ℕ) → m < nodes_of opening * nodes_of opening → v.me ≡ m / nodes_of opening
      → mail.posted m ≡ in_box (nodes_of opening) m v.sent
  pub gets : (m : ℕ) → m < nodes_of opening * nodes_of opening → v.me ≡ m % nodes_of opening
      → mail.got m ≡ in_box (nodes_of opening) m v.taken
  -- and the steps that it took on a mailbox are the ones that its view records
  pub visited : (m : ℕ) → m < nodes_of opening * nodes_of opening
      → by_node v.me (mail.visits m) ≡ on_box m v.visits
  -- the board shows the greatest number that node 0's seat raised
  pub shows : v.me ≡ 0 → board ≡ v.shown

-- There is one dealer. The nodes that have no seat yet are as they were, and so are their mailboxes
-- and, before node 0 has a seat, the board.
pub record DealerOk (opening : World) (log : List Step) (board : ℕ) (mail : Mail)
    (views : List Known) (j : ℕ) (v : Known) : Type 0 where
  pub nodes_is : v.nodes ≡ nodes_of opening
  pub opening_is : v.opening ≡ opening
  pub earlier : (k : ℕ) (u : Known) → get_elem? views k ≡ some u → u.role ≡ node → u.me < v.me
  pub alone : (k : ℕ) (u : Known) → get_elem? views k ≡ some u → u.role ≡ dealer → k ≡ j
  pub still : (i : ℕ) → v.me ≤ i
      → (events_of i log ≡ []) × (pair_at (run opening log) i ≡ pair_at opening i)
  pub unsent : (m : ℕ) → m < nodes_of opening * nodes_of opening → v.me ≤ m / nodes_of opening
      → mail.posted m ≡ []
  pub untaken : (m : ℕ) → m < nodes_of opening * nodes_of opening → v.me ≤ m % nodes_of opening
      → mail.got m ≡ []
  pub unseen : v.me ≡ 0 → board ≡ 0

-- the node has a seat
abbrev pub HasSeat : List Known → ℕ → Type 0
HasSeat views i =
    (j : ℕ) × (v : Known) × (get_elem? views j ≡ some v) × (v.role ≡ node) × (v.me ≡ i)

-- each step was a seat's
abbrev pub AreTaken : List Known → List Visit → Type 0
AreTaken views xs = (k : ℕ) (x : Visit) → slice_get xs k ≡ Some x → HasSeat views x.node

pub record WatchOk (opening : World) (board : ℕ) (v : Known) : Type 0 where
  pub opening_is : v.opening ≡ opening
  pub loaded : v.number ≤ board

abbrev pub SeatOk : World → List Step → ℕ → List Known → Mail → ℕ → Known → Role → Type 0
SeatOk opening log board views mail j v dealer = DealerOk opening log board mail views j v
SeatOk opening log board views mail j v node = NodeOk opening log board mail j v
SeatOk opening log board views mail j v watch = WatchOk opening board v

-- Some list of events leads from the opening world to the pairs in the seats' views. Each view has
-- its node's events of the list, in order; the count word is the list's length, modulo 2^64.
pub record Holds {S : Type 0} (bytes : S → List ℕ) (opening : World)
    (s : State S Known) : Type 0 where
  pub log : List Step
  pub mail : Mail
  pub opens : IsOpening opening
  pub wide : length s.words ≡ nodes_of opening * nodes_of opening + 2
  pub slots : length s.homes ≡ nodes_of opening * nodes_of opening
  pub events : AreEvents opening log
  pub count : slice_index s.words (nodes_of opening * nodes_of opening) ≡ length log % 2 ^ 64
  pub board : slice_index s.words (nodes_of opening * nodes_of opening + 1)
      ≤ ended_of (run opening log)
  pub fits : slice_index s.words (nodes_of opening * nodes_of opening + 1) ≤ GREATEST_CYCLE
  pub each_box : (m : ℕ) → m < nodes_of opening * nodes_of opening
      → BoxOk bytes (nodes_of opening) (run opening log) s.words s.homes s.views m (mail.boxes m)
  -- no frame is lost, duplicated or reordered on the way
  pub in_order : (m : ℕ) → m < nodes_of opening * nodes_of opening
      → mail.posted m ≡ mail.got m ++ lying (mail.boxes m)
  -- The word of a mailbox is what the steps on it led to, and only seats took such steps.
  pub visits : (m : ℕ) → m < nodes_of opening * nodes_of opening
      → AreVisits m (face (mail.boxes m)) 0 0 (mail.visits m)
  pub visitors : (m : ℕ) → m < nodes_of opening * nodes_of opening
      → AreTaken s.views (mail.visits m)
  pub each_seat : (j : ℕ) (v : Known) → get_elem? s.views j ≡ some v
      → SeatOk opening log (slice_index s.words (nodes_of opening * nodes_of opening + 1)) s.views
      mail j v v.role
  -- the list that a seat learned last is a beginning of this one
  pub learned : (j : ℕ) (v : Known) → get_elem? s.views j ≡ some v → Continues v.seen log
  -- a node has one seat
  pub one : (j k : ℕ) (v u : Known) → get_elem? s.views j ≡ some v → get_elem? s.views k ≡ some u
      → v.role ≡ node → u.role ≡ node → v.me ≡ u.me → j ≡ k
