-- The nodes in which a reached world begins are of one age, and the other way round.
use Rattle.std.proofs.Common.{◌≡◌, ◌≤◌, ◌<◌, ℕ, true, List, [], Some, length, slice_get, sym, ap, ◌∙◌, arith, ⊎_elim}
use Rattle.std.proofs.lemmas.Bool.{cases_lt}
use Rattle.std.proofs.lemmas.List.{get_or_past, length-map}
use Rattle.ids.specs.Limits.{Shaped}
use Rattle.model.specs.State.{LocalState, NodeState, got_from, node_at, sent_to}
use Rattle.model.specs.View.{link_to, used}
use Rattle.model.specs.World.{World, acknowledged, release_count}
use Rattle.laws.proofs.Base.{all-base}
use Rattle.node.specs.Keeping.{WholeNode}
use Rattle.wire.specs.Readers.{AreOpened}
use Rattle.wire.specs.OneAge.{AreOfOneAge}
use Rattle.cell.specs.Laws.{restarted}
use Rattle.cell.specs.Opened.{cores, state_of, world_of}
use Rattle.cell.specs.Reached.{AreHeld, IsReached}
use Rattle.cell.specs.Theorems.{BeginOfOneAge, LeftIsOfOneAge, ReopenedIsReached}
use Rattle.cell.proofs.AlikeRuns.{acks-like, sent-like}
use Rattle.cell.proofs.Applied.{node-count}
use Rattle.cell.proofs.Left.{left-opened, restarted-reached}
use Rattle.wire.proofs.Places.{mapped-there, some_at}
use Rattle.cell.proofs.Reaches.{end_of, world-of-reached}
use Rattle.cell.proofs.Ready.{many-sent, sent-at, state-at}
use Rattle.std.proofs.lemmas.Option.{slice_get_within}

-- no more is acknowledged than was released
acked-sent : (w : World) (from to : ℕ) → IsReached w
    → acknowledged w from to ≤ release_count w from to
acked-sent w from to r =
    let end : World = end_of r in
    let acks = acks-like w end from to r.by in
    let sent = sent-like w end from to r.by in
    let fewer = (all-base r.shape r.limits r.steps (λ _. true)).within from to in
    omega (arith, acks, sent, fewer)

-- no message was ever sent to a node that isn't there
pub none-sent-past : (w : World) (k to : ℕ) (r : IsReached w) → k < r.shape.nodes
    → r.shape.nodes ≤ to → release_count w k to ≡ 0
none-sent-past w k to r inside past =
    let end : World = end_of r in
    let width = (all-base r.shape r.limits r.steps (λ _. true)).width k inside in
    sent-like w end k to r.by
    ∙ ap length (get_or_past (node_at end.saved k).sent to [] (omega (arith, width, past)))

-- a node's state in the world of these nodes
pub at-place : (nodes : List WholeNode) (k : ℕ) (n : WholeNode) → slice_get nodes k ≡ Some n
    → node_at (world_of (cores nodes)).saved k ≡ state_of n.core
at-place nodes k n there =
    state-at (cores nodes) k n.core (mapped-there (λ m. m.core) nodes k n there)

pub begin-of-one-age : BeginOfOneAge
begin-of-one-age nodes begins = record {
  each = λ i j n m at_i at_j.
      (let w : World = world_of (cores nodes) in
      let got : acknowledged w i j ≡ got_from m.core.local i =
      ap (λ (s : NodeState). got_from s.local i) (at-place nodes j m at_j) in
      let sent : release_count w i j ≡ used (link_to n.core j) =
      ap (λ (s : NodeState). length (sent_to s j)) (at-place nodes i n at_i)
      ∙ ap length (sent-at n.core j) ∙ many-sent (link_to n.core j) in
      let held = begins.1 i j n at_i in
      let fewer = acked-sent w i j begins.0 in
      record {
        dropped = omega (arith, got, held);
        sent = omega (arith, got, sent, fewer);
      });
}

-- Nodes of one age have dropped only what is acknowledged in the world whose states they have.
pub held-by-age : (shape : Shaped) (w : World) (nodes : List WholeNode) → IsReached w
    → AreOpened shape (cores nodes) w → AreOfOneAge nodes → AreHeld nodes w
held-by-age shape w nodes reached opens ages k to n there =
    let many : length nodes ≡ length w.current =
    sym (length-map nodes (λ m. m.core)) ∙ opens.count ∙ sym opens.width in
    let core = mapped-there (λ m. m.core) nodes k n there in
    ⊎_elim
    (λ inside.
    let found = some_at nodes to inside in
    let m : WholeNode = found.0 in
    let local : m.core.local ≡ (node_at w.saved to).local =
    (opens.each to m.core (mapped-there (λ q. q.core) nodes to m found.1)).shows.local
    ∙ ap (λ (l : List NodeState). (node_at l to).local) (sym opens.saved) in
    let got : got_from m.core.local k ≡ acknowledged w k to =
    ap (λ (p : LocalState). got_from p k) local in
    let dropped = (ages.each k to n m there found.1).dropped in
    omega (arith, got, dropped))
    (λ past.
    let count = node-count w reached in
    let inside : k < reached.shape.nodes =
    omega (arith, count, many, slice_get_within nodes k n there) in
    let none = none-sent-past w k to reached inside (omega (arith, count, many, past)) in
    let same : length (sent_to (node_at w.current k) to) ≡ release_count w k to =
    ap (λ (l : List NodeState). length (sent_to (node_at l k) to)) (sym opens.saved) in
    let within = ((opens.each k n.core core).shows.links to).within in
    omega (arith, none, same, within))
    (cases_lt to (length nodes))

unfoldable pub reopened-is-reached : ReopenedIsReached
reopened-is-reached shape w nodes left ages =
    let reached = restarted-reached w left.reached in
    let opens = left-opened shape w nodes left.width left.count left.each in
    world-of-reached shape (restarted w) nodes reached opens
    (held-by-age shape (restarted w) nodes reached opens ages)

pub left-is-of-one-age : LeftIsOfOneAge
left-is-of-one-age shape w nodes left held =
    begin-of-one-age nodes
    (world-of-reached shape (restarted w) nodes (restarted-reached w left.reached)
    (left-opened shape w nodes left.width left.count left.each) held)
