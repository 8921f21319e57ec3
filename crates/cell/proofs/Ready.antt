-- A wire between nodes on their shelves, and their seats.
use Rattle.std.proofs.Common.{◌≡◌, ◌<◌, ◌+◌, ◌++◌, ◌∷◌, [], append_assoc, map, ℕ, Bool, List, Some, length, length-append, drop, get_or, replicate, slice_get, refl, sym, ap, ◌∙◌, subst, arith}
use Rattle.std.proofs.lemmas.List.{append-nil, nil_from_length, length-drop, length-map, length-replicate, get_or-map, map-append, map-id}
use Rattle.std.proofs.Math.ListN.{get_or-map as get_or-mapped}
use Rattle.std.proofs.Math.Seq.{drop-append_seam}
use Rattle.std.proofs.lemmas.Option.{slice_get_within, get_or_from_slice_get}
use Rattle.ids.specs.Limits.{Shaped}
use Rattle.msg.specs.declared.body.Message.{Message}
use Rattle.model.specs.State.{NodeState, no_node, node_at, sent_to}
use Rattle.model.specs.World.{World}
use Rattle.model.specs.View.{Link, NodeView, Shows, ShowsSent, all_kept, kept_view, link_to, no_link, used}
use Rattle.model.proofs.Lookups.{slice_get-drop}
use Rattle.disk.specs.Areas.{Areas}
use Rattle.node.specs.Keeping.{WholeNode}
use Rattle.wire.specs.Views.{Known, Pair, pair_at}
use Rattle.wire.specs.Readers.{known, opened_with, AreOpened, IsMade, IsSavedAs, IsSeated}
use Rattle.wire.specs.declared.seats.Wire.{Wire}
use Rattle.wire.specs.declared.seats.NodeSeat.{NodeSeat}
use Rattle.wire.specs.declared.seats.Watch.{Watch}
use Rattle.wire.proofs.NewWires.{there}
use Rattle.wire.specs.OneAge.{AreOfOneAge}
use Rattle.cell.specs.Ages.{AreRead}
use Rattle.cell.specs.Cells.{CellView, IsNew, new_cell}
use Rattle.cell.specs.Desks.{IsAtSeat}
use Rattle.cell.specs.Opened.{AreBeside, AreFound, AreReady, IsNodeOf, IsReadFrom, IsReady, cores, no_message, sent_of, state_of, world_of}
use Rattle.wire.proofs.Places.{mapped-from, mapped-there}

-- ---- The states of nodes whose messages are all saved

pub many-sent : (l : Link) → length (sent_of l) ≡ used l
many-sent l =
    length-append (replicate l.base no_message) l.unacknowledged
    ∙ ap (λ (i : ℕ). i + length l.unacknowledged) (length-replicate l.base no_message)

shown-sent : (l : Link) → ShowsSent l (sent_of l)
shown-sent l = record {
  within = omega (arith, many-sent l);
  unacknowledged =
      sym (drop-append_seam (replicate l.base no_message) l.unacknowledged)
      ∙ ap (λ (i : ℕ). drop i (sent_of l)) (length-replicate l.base no_message);
}

pub sent-at : (n : NodeView) (j : ℕ) → sent_to (state_of n) j ≡ sent_of (link_to n j)
sent-at n j = get_or-mapped sent_of n.links j no_link

pub shown : (n : NodeView) → Shows n (state_of n)
shown n = record {
  local = refl;
  width = sym (length-map n.links sent_of);
  links = λ j.
      subst (λ (ms : List Message). ShowsSent (link_to n j) ms) (sym (sent-at n j))
      (shown-sent (link_to n j));
}

saved-as : (n : NodeView) → kept_view n ≡ n → IsSavedAs n (state_of n)
saved-as n h = record {
  shows = shown n;
  released = λ j.
      ap (λ (v : NodeView). (link_to v j).kept) (sym h)
      ∙ ap (λ (l : Link). l.kept) (get_or-mapped all_kept n.links j no_link)
      ∙ sym (ap length (sent-at n j) ∙ many-sent (link_to n j));
  acks = ap (λ (v : NodeView). v.acks) (sym h);
}

pub state-at : (nodes : List NodeView) (k : ℕ) (n : NodeView) → slice_get nodes k ≡ Some n
    → node_at (world_of nodes).current k ≡ state_of n
state-at nodes k n there =
    get_or-map state_of nodes k n no_node (slice_get_within nodes k n there)
    ∙ ap state_of (get_or_from_slice_get nodes k n n there)

pub opened : (shape : Shaped) (nodes : List WholeNode) → length nodes ≡ shape.nodes
    → ((k : ℕ) (n : WholeNode) → slice_get nodes k ≡ Some n → kept_view n.core ≡ n.core)
    → AreOpened shape (cores nodes) (world_of (cores nodes))
opened shape nodes count kept =
    let width : length (cores nodes) ≡ shape.nodes = length-map nodes (λ m. m.core) ∙ count in
    record {
      saved = refl;
      width = length-map (cores nodes) state_of ∙ width;
      count = width;
      each = λ k n there.
          (let of = mapped-from (λ m. m.core) nodes k n there in
          subst (λ (s : NodeState). IsSavedAs n s) (sym (state-at (cores nodes) k n there))
          (saved-as n (subst (λ (m : NodeView). kept_view m ≡ m) (sym of.2) (kept k of.0 of.1))));
    }

-- ---- Their seats

at-seat : {shape : Shaped} {w : World} {k : ℕ} {wire : Wire} {seat : NodeSeat}
    (nodes : List WholeNode) (n : WholeNode) → AreOpened shape (cores nodes) w
    → slice_get nodes k ≡ Some n → IsNodeOf shape k n.core
    → (opened_with wire ≡ w) × (wire.nodes ≡ length w.current) → IsSeated wire k seat
    → IsAtSeat n.core seat
at-seat {w = w} {k = k} {seat = seat} nodes n opens there is made seated =
    let pair : (known seat).pair ≡ pair_at w k =
    ap (λ (v : Known). v.pair) seated.known ∙ ap (λ (o : World). pair_at o k) made.0 in
    let current : (known seat).pair.current ≡ node_at w.current k =
    ap (λ (p : Pair). p.current) pair in
    record {
      own = is.numbered ∙ sym seated.node;
      nodes = ap (λ (s : Shaped). s.nodes) is.shaped
          ∙ sym (seated.of.1 ∙ made.1 ∙ opens.width);
      shows = subst (Shows n.core) (sym current)
          (opens.each k n.core (mapped-there (λ m. m.core) nodes k n there)).shows;
      saved = ap (λ (p : Pair). p.saved) pair
          ∙ ap (λ (l : List NodeState). node_at l k) opens.saved ∙ sym current;
    }

pub made-ready : {S : Type 0} {Lies : WholeNode → S → Type 0} {shape : Shaped}
    {nodes : List WholeNode} {shelves : List S} {count : ℕ} {w : World} {wire : Wire}
    {seats : List NodeSeat} {watches : List Watch} → AreOpened shape (cores nodes) w
    → AreFound Lies shape nodes shelves → IsMade w count wire seats watches
    → AreReady Lies nodes shelves seats
made-ready {nodes = nodes} {wire = wire} opens h made = record {
  shelved = h.same;
  seated = made.seat_count ∙ made.nodes ∙ opens.width ∙ sym opens.count
      ∙ length-map nodes (λ m. m.core);
  each = λ k n s seat there shelf sat.
      let found = h.each k n s there shelf in
      record {
        stands = at-seat nodes n opens there found.0 (made.opening, made.nodes)
            (made.each_seat k seat sat);
        lies = found.1;
      };
}

-- ---- One after another

pub first-ready : {S : Type 0} {Lies : WholeNode → S → Type 0}
    {nodes : List WholeNode} {shelves : List S} {seats : List NodeSeat} (n : WholeNode) (s : S)
    (seat : NodeSeat) → AreReady Lies nodes shelves seats → 0 < length nodes
    → (n ≡ get_or nodes 0 n) × (s ≡ get_or shelves 0 s) × (seat ≡ get_or seats 0 seat)
    → IsReady Lies n s seat
first-ready {nodes = nodes} {shelves = shelves} {seats = seats} n s seat h some is =
    h.each 0 n s seat (there nodes 0 n some is.0)
    (there shelves 0 s (omega (arith, some, h.shelved)) is.1)
    (there seats 0 seat (omega (arith, some, h.seated)) is.2)

later : {S : Type 0} {Lies : WholeNode → S → Type 0}
    {nodes : List WholeNode} {shelves : List S} {seats : List NodeSeat}
    → AreReady Lies nodes shelves seats
    → AreReady Lies (drop 1 nodes) (drop 1 shelves) (drop 1 seats)
later {nodes = nodes} {shelves = shelves} {seats = seats} h = record {
  shelved = omega (arith, h.shelved, length-drop 1 nodes, length-drop 1 shelves);
  seated = omega (arith, h.seated, length-drop 1 nodes, length-drop 1 seats);
  each = λ k n s seat at_node at_shelf at_place.
      h.each (1 + k) n s seat (sym (slice_get-drop nodes 1 k) ∙ at_node)
      (sym (slice_get-drop shelves 1 k) ∙ at_shelf) (sym (slice_get-drop seats 1 k) ∙ at_place);
}

pub later-ready : {S : Type 0} {Lies : WholeNode → S → Type 0}
    {nodes : List WholeNode} {shelves : List S} {seats : List NodeSeat} (ns : List WholeNode)
    (ss : List S) (ts : List NodeSeat) → AreReady Lies nodes shelves seats
    → (ns ≡ drop 1 nodes) × (ss ≡ drop 1 shelves) × (ts ≡ drop 1 seats)
    → AreReady Lies ns ss ts
later-ready {Lies = Lies} {shelves = shelves} {seats = seats} ns ss ts h is =
    subst (λ l. AreReady Lies ns ss l) (sym is.2)
    (subst (λ l. AreReady Lies ns l (drop 1 seats)) (sym is.1)
    (subst (λ l. AreReady Lies l (drop 1 shelves) (drop 1 seats)) (sym is.0) (later h)))

-- everything was passed on
pub handed-on : {A : Type 0} (done left all : List A) → done ++ left ≡ all → length left ≡ 0
    → done ≡ all
handed-on done left all were none =
    sym (append-nil done) ∙ ap (λ l. done ++ l) (sym (nil_from_length left none)) ∙ were

-- what was passed on, and what is left
pub record IsShifted {A B : Type 0} (done now : List A) (last : A) (left rest : List B) (first : B)
    : Type 0 where
  pub is : now ≡ done ++ last ∷ []
  pub front : first ≡ get_or left 0 first
  pub some : 0 < length left
  pub after : rest ≡ drop 1 left

pub shift : {A B : Type 0} {now : List A} {rest : List B} {first : B} (done : List A) (last : A)
    (left : List B) → now ≡ done ++ last ∷ [] → first ≡ get_or left 0 first → 0 < length left
    → rest ≡ drop 1 left → IsShifted done now last left rest first
shift done last left is front some after =
    record { is = is; front = front; some = some; after = after }

pub shifted-by : {A B C : Type 0} {done now : List A} {last : A} {left rest : List B} {first : B}
    {all : List C} (f : A → C) (h : B → C) → IsShifted done now last left rest first
    → f last ≡ h first → map f done ++ map h left ≡ all → map f now ++ map h rest ≡ all
shifted-by {left = []} f h s same were = (let some = s.some in absurd (omega (arith, some)))
shifted-by {done = done} {last = last} {left = b ∷ bs} {rest = rest} f h s same were =
    ap (λ l. map f l ++ map h rest) s.is
    ∙ ap (λ l. l ++ map h rest) (map-append f done (last ∷ []))
    ∙ append_assoc (map f done) (f last ∷ []) (map h rest)
    ∙ (λ i. map f done ++ (same ∙ ap h s.front) i ∷ map h (s.after i))
    ∙ were

pub shifted : {A B : Type 0} {done now : List A} {last : A} {left rest : List B} {first : B}
    {all : List B} (f : A → B) → IsShifted done now last left rest first → f last ≡ first
    → map f done ++ left ≡ all → map f now ++ rest ≡ all
shifted {done = done} {now = now} {left = left} {rest = rest} f s same were =
    ap (λ l. map f now ++ l) (sym (map-id rest))
    ∙ shifted-by f (λ b. b) s same (ap (λ l. map f done ++ l) (map-id left) ∙ were)

-- a cell that was made in this way is new
pub made-new : {D : Type 0} (c : CellView D) (n : WholeNode) (seat : NodeSeat) (disk : D)
    (logs : Bool) → c ≡ new_cell n seat disk logs → IsNew c
made-new c n seat disk logs made =
    made ∙ sym (ap (λ v. new_cell v.node v.seat v.disk v.logs) made)

-- the nodes of cells that were opened from these disks
pub opened-read : {D : Type 0} (seen : D → Areas) (shape : Shaped) (disks : List D)
    (cells : List (CellView D)) → length cells ≡ length disks
    → AreBeside (λ k d n. IsReadFrom shape k (seen d) n) disks (map (λ c. c.node) cells)
    → AreOfOneAge (map (λ c. c.node) cells) → AreRead seen shape disks AreOfOneAge
opened-read seen shape disks cells count read ages = record {
  nodes = map (λ c. c.node) cells;
  count = length-map cells (λ c. c.node) ∙ count;
  read = read;
  are = ages;
}
