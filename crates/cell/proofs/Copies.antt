-- Copies of different moments of one run begin a world that a run reaches.
use Rattle.std.proofs.Common.{◌≡◌, ℕ, List, Some, ap, arith, length, refl, slice_get, subst, sym, ◌∙◌}
use Rattle.std.proofs.lemmas.List.{length-map}
use Rattle.ids.specs.Limits.{Shaped}
use Rattle.model.specs.declared.step.Step.{Step}
use Rattle.model.specs.State.{LocalState, NodeState, got_from, node_at, sent_to}
use Rattle.model.specs.View.{NodeView, Shows, link_to}
use Rattle.model.specs.World.{World}
use Rattle.laws.specs.Copies.{FitTogether}
use Rattle.laws.proofs.Copies.{copies-go-together}
use Rattle.disk.specs.Areas.{Areas}
use Rattle.node.specs.Keeping.{WholeNode}
use Rattle.wire.specs.OneAge.{AreOfOneAge}
use Rattle.wire.specs.Readers.{AreOpened, IsSavedAs}
use Rattle.wire.proofs.Places.{mapped-from, some_at}
use Rattle.cell.specs.Copies.{AreCopies, CopiesAreReached, IsCopy}
use Rattle.cell.specs.Opened.{cores, IsReadFrom}
use Rattle.cell.specs.Reached.{AreAlike, IsLike, IsReached}
use Rattle.cell.proofs.Alike.{as-many}
use Rattle.cell.proofs.AlikeRuns.{alike-self}
use Rattle.cell.proofs.Found.{used-is}
use Rattle.cell.proofs.Left.{left-node, left-stands}
use Rattle.cell.proofs.OneAge.{held-by-age}
use Rattle.cell.proofs.Reaches.{world-of-reached}

-- a node that shows a state shows each one that differs only in messages that the node dropped
shows-like : (n : NodeView) (s t : NodeState) → Shows n s
    → IsLike (λ to. (link_to n to).base) s t → Shows n t
shows-like n s t shows like = record {
  local = shows.local ∙ like.local;
  width = shows.width
      ∙ sym (length-map s.sent length) ∙ ap length like.counts ∙ length-map t.sent length;
  links = λ to.
      (let sent = shows.links to in
      let many = as-many s.sent t.sent to like.counts in
      let within = sent.within in
      record {
        within = omega (arith, many, within);
        unacknowledged = sent.unacknowledged ∙ like.later to;
      });
}

-- a node that is read from a copy is saved in the state that it had
copy-saved : {shape : Shaped} {steps : List Step} {k : ℕ} {was : NodeState} {c : Areas}
    {n : WholeNode} → IsCopy shape steps k was c → IsReadFrom shape k c n → IsSavedAs n.core was
copy-saved {shape = shape} {k = k} {was = was} {c = c} {n = n} copy read =
    let saved = left-stands shape k shape.nodes copy.state c n copy.left read in
    let like : IsLike (λ to. (link_to n.core to).base) copy.state was =
    subst (λ (m : NodeView). IsLike (λ to. (link_to m to).base) copy.state was)
    (sym (left-node shape k shape.nodes copy.state c n copy.left read)) copy.like in
    record {
      shows = shows-like n.core copy.state was saved.shows like;
      released = λ to. saved.released to ∙ as-many copy.state.sent was.sent to copy.like.counts;
      acks = saved.acks ∙ ap (λ (p : LocalState). p.got) copy.like.local;
    }

copies-saved : {shape : Shaped} {steps : List Step} {nodes : List WholeNode}
    (copies : AreCopies shape steps nodes) (k : ℕ) (n : WholeNode) → slice_get nodes k ≡ Some n
    → IsSavedAs n.core (node_at copies.states k)
copies-saved copies k n there =
    let found = copies.each k n there in copy-saved found.1 found.2

-- Copies of one age fit together.
copies-fit : {shape : Shaped} {steps : List Step} {nodes : List WholeNode}
    (copies : AreCopies shape steps nodes) → AreOfOneAge nodes → FitTogether shape copies.states
copies-fit {shape = shape} {nodes = nodes} copies ages i j inside within apart =
    let count = copies.count in
    let receiver = some_at nodes i (omega (arith, count, inside)) in
    let sender = some_at nodes j (omega (arith, count, within)) in
    let n : WholeNode = receiver.0 in
    let m : WholeNode = sender.0 in
    let to = (copies-saved copies i n receiver.1).shows in
    let from = (copies-saved copies j m sender.1).shows in
    let got : got_from n.core.local j ≡ got_from (node_at copies.states i).local j =
    ap (λ (p : LocalState). got_from p j) to.local in
    let sent = used-is (link_to m.core i) (sent_to (node_at copies.states j) i) (from.links i) in
    let fit = (ages.each j i m n sender.1 receiver.1).sent in
    omega (arith, got, sent, fit)

copies-opened : {shape : Shaped} {steps : List Step} {nodes : List WholeNode}
    (copies : AreCopies shape steps nodes)
    → AreOpened shape (cores nodes)
    (record { current = copies.states; saved = copies.states })
copies-opened {nodes = nodes} copies = record {
  saved = refl;
  width = copies.width;
  count = length-map nodes (λ m. m.core) ∙ copies.count;
  each = λ k n there.
      (let of = mapped-from (λ m. m.core) nodes k n there in
      subst (λ (m : NodeView). IsSavedAs m (node_at copies.states k)) (sym of.2)
      (copies-saved copies k of.0 of.1));
}

pub copies-are-reached : CopiesAreReached
copies-are-reached shape steps nodes limits copies ages =
    let w : World = record { current = copies.states; saved = copies.states } in
    let found =
    copies-go-together shape limits steps copies.states copies.width
    (λ k inside.
    let count = copies.count in
    let at_k = some_at nodes k (omega (arith, count, inside)) in
    (copies.each k at_k.0 at_k.1).1.saved)
    (copies-fit copies ages) in
    let reached : IsReached w = record {
      shape = shape;
      limits = limits;
      steps = found.0;
      by = subst (AreAlike w) (sym found.1) (alike-self w);
    } in
    let opens = copies-opened copies in
    world-of-reached shape w nodes reached opens (held-by-age shape w nodes reached opens ages)
