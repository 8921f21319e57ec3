-- Worlds that a run reaches, except perhaps for acknowledged messages, and the nodes in which such
-- a world begins.
use Rattle.std.proofs.Common.{◌≡◌, ◌≤◌, ◌<◌, ◌⊎◌, ◌++◌, ℕ, List, [], Some, length, map, slice_get, refl, sym, ap, ◌∙◌, subst, arith, inl, inr, ⊎_elim}
use Rattle.std.proofs.lemmas.Bool.{cases_lt}
use Rattle.std.proofs.lemmas.List.{get_or_past, length-map}
use Rattle.std.proofs.lemmas.Option.{slice_get_within}
use Rattle.ids.specs.Limits.{Shaped, IsShape}
use Rattle.msg.specs.declared.body.Message.{Message}
use Rattle.model.specs.State.{NodeState, new_node, no_node, node_at, sent_to}
use Rattle.model.specs.View.{NodeView, Shows, link_to}
use Rattle.model.specs.World.{World, acknowledged, new_world, run}
use Rattle.model.proofs.Lookups.{get_or-replicate_any, maps_agree}
use Rattle.model.proofs.Runs.{run-append}
use Rattle.laws.proofs.Net.{HeardMore, run-heard}
use Rattle.laws.proofs.Onward.{Behind}
use Rattle.disk.specs.Areas.{Areas, IsBlank}
use Rattle.node.specs.Keeping.{WholeNode}
use Rattle.wire.specs.Readers.{AreOpened, IsSavedAs}
use Rattle.wire.proofs.NewWires.{new-at, new-saved, new-width}
use Rattle.cell.specs.Laws.{IsLeft}
use Rattle.cell.specs.Opened.{IsReadFrom, cores, state_of, world_of}
use Rattle.cell.specs.Reached.{AlikeGoOn, AreAlike, AreHeld, AreLike, IsLike, IsReached, WorldOfIsReached}
use Rattle.cell.specs.Theorems.{FreshIsReached, StaysReached}
use Rattle.cell.proofs.Alike.{drop-more, same-like}
use Rattle.cell.proofs.AlikeRuns.{acks-like, alike-both, alike-self, events-like, heard-like, run-like}
use Rattle.cell.proofs.Found.{used-is}
use Rattle.cell.proofs.Left.{left-stands}
use Rattle.wire.proofs.Places.{mapped-from, mapped-there, some_at}
use Rattle.cell.proofs.Ready.{shown, state-at}

-- ---- The run that reaches a world

-- the world to which the run leads; its acknowledged messages may be others
abbrev pub end_of : {w : World} → IsReached w → World
end_of r = run (new_world r.shape) r.steps

pub heard-end : {w : World} (r : IsReached w) → Behind HeardMore (end_of r)
heard-end r = run-heard r.shape r.steps

unfoldable pub new-reached : (shape : Shaped) → IsShape shape → IsReached (new_world shape)
new-reached shape limits = record {
  shape = shape;
  limits = limits;
  steps = [];
  by = alike-self (new_world shape);
}

unfoldable pub like-reached : (u w : World) → AreAlike u w → IsReached w → IsReached u
like-reached u w h r = record {
  shape = r.shape;
  limits = r.limits;
  steps = r.steps;
  by = alike-both u w (end_of r) h r.by;
}

unfoldable pub stays-reached : StaysReached
stays-reached w steps r = record {
  shape = r.shape;
  limits = r.limits;
  steps = r.steps ++ steps;
  by = subst (AreAlike (run w steps)) (sym (run-append (new_world r.shape) r.steps steps))
      (run-like w (end_of r) steps r.by (heard-end r));
}

pub alike-go-on : AlikeGoOn
alike-go-on w v log reached h events =
    let heard = heard-like v (end_of reached) reached.by (heard-end reached) in
    (events-like w v log h heard events, run-like w v log h heard)

-- ---- Two states that one node shows

pub shown-like : (n : NodeView) (s t : NodeState) (acked : ℕ → ℕ) → Shows n s → Shows n t
    → ((to : ℕ) → (link_to n to).base ≤ acked to) → IsLike acked s t
shown-like n s t acked first second held = record {
  local = sym first.local ∙ second.local;
  counts = maps_agree length length s.sent t.sent [] [] (sym first.width ∙ second.width)
      (λ to.
      sym (used-is (link_to n to) (sent_to s to) (first.links to))
      ∙ used-is (link_to n to) (sent_to t to) (second.links to));
  later = λ to.
      drop-more (sent_to s to) (sent_to t to) (link_to n to).base (acked to) (held to)
      (sym (first.links to).unacknowledged ∙ (second.links to).unacknowledged);
}

-- ---- The world of nodes

-- the states of the nodes, and those of a world that the nodes show
made-like : (shape : Shaped) (w : World) (nodes : List WholeNode)
    → AreOpened shape (cores nodes) w → AreHeld nodes w
    → AreLike (acknowledged w) (map state_of (cores nodes)) w.current
made-like shape w nodes opens held =
    let wide : length (map state_of (cores nodes)) ≡ length nodes =
    length-map (cores nodes) state_of ∙ length-map nodes (λ n. n.core) in
    let many : length nodes ≡ length w.current =
    sym (length-map nodes (λ n. n.core)) ∙ opens.count ∙ sym opens.width in
    record {
      width = wide ∙ many;
      each = λ i.
          (⊎_elim
          (λ inside.
          let found = some_at nodes i inside in
          let n : WholeNode = found.0 in
          let core = mapped-there (λ m. m.core) nodes i n found.1 in
          subst (λ (s : NodeState). IsLike (acknowledged w i) s (node_at w.current i))
          (sym (state-at (cores nodes) i n.core core))
          (shown-like n.core (state_of n.core) (node_at w.current i) (acknowledged w i)
          (shown n.core) (opens.each i n.core core).shows (λ to. held i to n found.1)))
          (λ past.
          let first : node_at (map state_of (cores nodes)) i ≡ no_node =
          get_or_past (map state_of (cores nodes)) i no_node (omega (arith, wide, past)) in
          let second : node_at w.current i ≡ no_node =
          get_or_past w.current i no_node (omega (arith, many, past)) in
          subst (λ (s : NodeState). IsLike (acknowledged w i) s (node_at w.current i))
          (second ∙ sym first) (same-like (acknowledged w i) (node_at w.current i)))
          (cases_lt i (length nodes)));
    }

pub made-alike : (shape : Shaped) (w : World) (nodes : List WholeNode)
    → AreOpened shape (cores nodes) w → AreHeld nodes w → AreAlike (world_of (cores nodes)) w
made-alike shape w nodes opens held =
    let like = made-like shape w nodes opens held in
    record {
      current = like;
      saved = subst (AreLike (acknowledged w) (map state_of (cores nodes))) (sym opens.saved) like;
    }

unfoldable pub world-of-reached : WorldOfIsReached
world-of-reached shape w nodes reached opens held =
    let made = made-alike shape w nodes opens held in (
      like-reached (world_of (cores nodes)) w made reached,
      λ k to n there.
          (let same = acks-like (world_of (cores nodes)) w k to made in
          omega (arith, same, held k to n there)),
    )

-- ---- New nodes

-- a node that shows a new one has dropped no message
new-base : (shape : Shaped) (own to : ℕ) (n : NodeView) → Shows n (new_node shape own)
    → (link_to n to).base ≤ 0
new-base shape own to n shows =
    subst (λ (ms : List Message). (link_to n to).base ≤ length ms)
    (get_or-replicate_any shape.nodes to []) (shows.links to).within

-- a node that was read from a disk that is blank, or on which a cell left a new node
fresh-saved : (shape : Shaped) (k : ℕ) (n : WholeNode) (c : Areas)
    → IsBlank c ⊎ IsLeft k shape.nodes (new_node shape k) c → IsReadFrom shape k c n
    → IsSavedAs n.core (new_node shape k)
fresh-saved shape k n c (inl blank) read =
    subst (λ (m : NodeView). IsSavedAs m (new_node shape k))
    (sym (ap (λ (m : WholeNode). m.core) (read.blank blank))) (new-saved shape k)
fresh-saved shape k n c (inr left) read =
    left-stands shape k shape.nodes (new_node shape k) c n left read

-- each of them is new
abbrev AreNew : Shaped → List WholeNode → Type 0
AreNew shape nodes =
    (k : ℕ) (n : WholeNode) → slice_get nodes k ≡ Some n → IsSavedAs n.core (new_node shape k)

new-opened : (shape : Shaped) (nodes : List WholeNode) → length nodes ≡ shape.nodes
    → AreNew shape nodes → AreOpened shape (cores nodes) (new_world shape)
new-opened shape nodes count new = record {
  saved = refl;
  width = new-width shape;
  count = length-map nodes (λ n. n.core) ∙ count;
  each = λ k n there.
      (let of = mapped-from (λ m. m.core) nodes k n there in
      let inside : k < shape.nodes = omega (arith, count, slice_get_within nodes k of.0 of.1) in
      subst (λ (m : NodeView). IsSavedAs m (node_at (new_world shape).current k)) (sym of.2)
      (subst (IsSavedAs of.0.core) (sym (new-at shape k inside)) (new k of.0 of.1)));
}

pub fresh-reached : FreshIsReached
fresh-reached shape nodes limits count read =
    let new : AreNew shape nodes =
    λ k n there.
    (let from = read k n there in fresh-saved shape k n from.0 from.1 from.2) in
    world-of-reached shape (new_world shape) nodes (new-reached shape limits)
    (new-opened shape nodes count new)
    (λ k to n there. (let none = new-base shape k to n.core (new k n there).shows in
    omega (arith, none)))
