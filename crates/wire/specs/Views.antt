-- What each seat of a wire knows, for proofs only.
use Rattle.std.specs.Prelude.{◌≡◌, ◌≢◌, ℕ, ◌+◌, max, Bool, true, false, List, [], ◌∷◌, ◌++◌, length}
use Rattle.msg.specs.Frames.{Plain}
use Rattle.model.specs.declared.step.Step.{Step}
use Rattle.model.specs.State.{NodeState, no_node, node_at}
use Rattle.model.specs.World.{World}
use Rattle.wire.specs.Lists.{without, cleared}

-- The dealer makes the seats while the wire is made. After that, each seat is a node's or a
-- watch's.
pub data Role : Type 0 where
  dealer : Role
  node : Role
  watch : Role

-- a node's current state, and its last saved one
pub record Pair : Type 0 where
  pub current : NodeState
  pub saved : NodeState

-- One step on a mailbox: how many steps any seats had taken on it before; the node whose seat took
-- the step; the word that it found, and the one that it left.
pub record Visit : Type 0 where
  pub box : ℕ
  pub place : ℕ
  pub node : ℕ
  pub found : ℕ
  pub left : ℕ

pub record Known : Type 0 where
  pub role : Role
  -- the node; for the dealer, the first one that has no seat yet
  pub me : ℕ
  pub nodes : ℕ
  -- the world as the wire was made
  pub opening : World
  pub pair : Pair
  -- the node's events since then, in order
  pub events : List Step
  -- mailboxes that the seat is filling
  pub filling : List ℕ
  -- mailboxes that it is emptying, each with the frame in it
  pub emptying : List (ℕ × Plain)
  -- the frames that it ever took
  pub taken : List Plain
  -- the frames that it ever posted, in order
  pub sent : List Plain
  -- the steps that it ever took on mailboxes, in order: claims and takes, including those that
  -- found another word, posts and clears
  pub visits : List Visit
  -- the number that it raised last; for a watch, the one that it loaded last
  pub number : ℕ
  -- the greatest number that it raised
  pub shown : ℕ
  -- for a watch, the numbers that it ever loaded from the board, in order
  pub looks : List ℕ
  -- the list of events that it learned last, with which the history of the space begins
  pub seen : List Step

abbrev pub pair_at : World → ℕ → Pair
pair_at w i = record { current = node_at w.current i; saved = node_at w.saved i }

abbrev pub no_pair : Pair
no_pair = record { current = no_node; saved = no_node }

abbrev pub is_node : Role → Bool
is_node node = true
is_node r = false

abbrev pub is_watch : Role → Bool
is_watch watch = true
is_watch r = false

-- a seat that has done nothing yet
abbrev pub fresh : Role → ℕ → ℕ → World → Pair → Known
fresh role me nodes opening pair = record {
  role = role;
  me = me;
  nodes = nodes;
  opening = opening;
  pair = pair;
  events = [];
  filling = [];
  emptying = [];
  taken = [];
  sent = [];
  visits = [];
  number = 0;
  shown = 0;
  looks = [];
  seen = [];
}

abbrev pub dealer_of : World → ℕ → Known
dealer_of opening me = fresh dealer me (length opening.current) opening no_pair

-- the dealer as the wire is made
abbrev pub dealing : World → Known
dealing opening = dealer_of opening 0

abbrev pub node_of_opening : World → ℕ → Known
node_of_opening opening me =
    fresh node me (length opening.current) opening (pair_at opening me)

abbrev pub watch_of : World → Known
watch_of opening = fresh watch 0 (length opening.current) opening no_pair

-- ---- How a call changes what a seat knows

-- the seat's next step on a mailbox, and all of its steps with that one added
abbrev pub visit : ℕ → ℕ → ℕ → ℕ → Known → Visit
visit box place found left v =
    record { box = box; place = place; node = v.me; found = found; left = left }

abbrev pub visits_with : ℕ → ℕ → ℕ → ℕ → Known → List Visit
visits_with box place found left v = v.visits ++ visit box place found left v ∷ []

-- a claim or a take that found this word in the mailbox, and did nothing else
abbrev pub notes : ℕ → ℕ → ℕ → Known → Known
notes box place word v = record v { visits = visits_with box place word word v }

-- the seat took one step on the mailbox, which found a word other than this one
abbrev pub FindsOther : ℕ → ℕ → Known → Known → Type 0
FindsOther box word v w =
    (place : ℕ) × (found : ℕ) × (found ≢ word) × (w ≡ notes box place found v)

abbrev pub claims : ℕ → ℕ → Known → Known
claims box place v =
    record v { visits = visits_with box place 0 3 v; filling = box ∷ v.filling }

abbrev pub takes_in : ℕ → ℕ → Plain → Known → Known
takes_in box place f v = record v {
  visits = visits_with box place 1 2 v;
  emptying = (box, f) ∷ v.emptying;
  taken = v.taken ++ f ∷ [];
}

abbrev pub posts : ℕ → ℕ → Plain → Known → Known
posts box place f v = record v {
  visits = visits_with box place 3 1 v;
  filling = without box v.filling;
  sent = v.sent ++ f ∷ [];
}

abbrev pub clears : ℕ → ℕ → Known → Known
clears box place v =
    record v { visits = visits_with box place 2 0 v; emptying = cleared box v.emptying }

-- one more event of the node, and the pair after it
abbrev pub ticks : Step → Pair → Known → Known
ticks s q v = record v { pair = q; events = v.events ++ s ∷ [] }

-- a number was raised
abbrev pub raises : ℕ → Known → Known
raises number v = record v { number = number; shown = max v.shown number }

-- a number was loaded from the board
abbrev pub marks : ℕ → Known → Known
marks number v = record v { number = number; looks = v.looks ++ number ∷ [] }

-- the seat learned that the history begins with this list of events
abbrev pub learns : List Step → Known → Known
learns log v = record v { seen = log }

-- a note of what the seat learned last, which is a seat that may only be read
abbrev pub note_of : Known → Known
note_of v = learns v.seen (fresh watch 0 v.nodes v.opening no_pair)

-- ---- Dealing

abbrev pub dealer_after : Known → Known
dealer_after v = record v { me = v.me + 1 }

abbrev pub next_node : Known → Known
next_node v = fresh node v.me v.nodes v.opening (pair_at v.opening v.me)

abbrev pub next_watch : Known → Known
next_watch v = fresh watch 0 v.nodes v.opening no_pair
