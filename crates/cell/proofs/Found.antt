-- A node that was found on a disk, or as it was saved.
use Rattle.std.proofs.Common.{◌≡◌, ℕ, Bool, true, false, List, length, refl, sym, ap, ◌∙◌, subst, arith}
use Rattle.std.proofs.Math.ListN.{get_or-map}
use Rattle.std.proofs.lemmas.List.{length-drop}
use Rattle.model.specs.State.{LocalState, NodeState, sent_to}
use Rattle.model.specs.View.{Link, NodeView, Shows, ShowsSent, all_kept, kept_view, link_to, no_link, used}
use Rattle.laws.proofs.Carrying.{shows-kept}
use Rattle.wire.specs.Views.{Known, Pair}
use Rattle.wire.specs.Plays.{Happens}
use Rattle.cell.specs.Desks.{IsSavedNode, StandsAt}
use Rattle.cell.specs.Disks.{is_same_node}
use Rattle.cell.proofs.Sames.{same-true}
use Rattle.cell.specs.Events.{both_states, found_pair, found_step}
use Rattle.cell.proofs.Standing.{behind-itself}

-- how many messages were ever sent to a node
pub used-is : (l : Link) (sent : List _) → ShowsSent l sent → used l ≡ length sent
used-is l sent h = omega (arith, ap length h.unacknowledged, length-drop l.base sent, h.within)

-- a node whose messages all count as saved shows its state with everything saved
pub stands-read : (me width : ℕ) (s : NodeState) (n : NodeView) → n.local.own ≡ me
    → n.local.shape.nodes ≡ width → Shows n s → kept_view n ≡ n
    → StandsAt me width (both_states s) n
stands-read me width s n own nodes shows kept =
    record {
      own = own;
      nodes = nodes;
      shows = shows;
      released = λ j.
          sym (ap (λ (m : NodeView). (link_to m j).kept) kept)
          ∙ ap (λ (l : Link). l.kept) (get_or-map all_kept n.links j no_link)
          ∙ used-is (link_to n j) (sent_to s j) (shows.links j);
      acks = sym (ap (λ (m : NodeView). m.acks) kept)
          ∙ ap (λ (p : LocalState). p.got) shows.local;
      behind = behind-itself s;
    }

pub saved-read : (me width : ℕ) (s : NodeState) (n : NodeView) → n.local.own ≡ me
    → n.local.shape.nodes ≡ width → Shows n s → kept_view n ≡ n
    → IsSavedNode me width s n
saved-read me width s n own nodes shows kept =
    record { own = own; nodes = nodes; shows = shows; kept = kept }

-- the step that a reopening enters may happen
pub found-happens : (same : Bool) (v : Known)
    → Happens v (found_step same v.me) (found_pair same v.pair)
found-happens true v = (refl, refl)
found-happens false v = (refl, refl)

-- the node that was found is in the state in which the reopening leaves the seat
pub record IsFound (me width : ℕ) (p : Pair) (found : NodeView) : Type 0 where
  pub stands : StandsAt me width p found
  pub saved : IsSavedNode me width p.saved found

pub found-read : (me width : ℕ) (s : NodeState) (n : NodeView) → n.local.own ≡ me
    → n.local.shape.nodes ≡ width → Shows n s → kept_view n ≡ n
    → IsFound me width (both_states s) n
found-read me width s n own nodes shows kept = record {
  stands = stands-read me width s n own nodes shows kept;
  saved = saved-read me width s n own nodes shows kept;
}

found-by : {me width : ℕ} {p : Pair} {n was : NodeView} (found : NodeView) (same : Bool)
    → is_same_node found was ≡ same → StandsAt me width p n → IsSavedNode me width p.saved was
    → kept_view found ≡ found → (same ≡ false → found ≡ kept_view n)
    → IsFound me width (found_pair same p) found
found-by {me} {width} {p} {n} {was} found true same stands saved kept which =
    let is : found ≡ was = same-true found was same in
    found-read me width p.saved found (ap (λ (m : NodeView). m.local.own) is ∙ saved.own)
    (ap (λ (m : NodeView). m.local.shape.nodes) is ∙ saved.nodes)
    (subst (λ (m : NodeView). Shows m p.saved) (sym is) saved.shows) kept
found-by {me} {width} {p} {n} found false same stands saved kept which =
    let is : found ≡ kept_view n = which refl in
    found-read me width p.current found (ap (λ (m : NodeView). m.local.own) is ∙ stands.own)
    (ap (λ (m : NodeView). m.local.shape.nodes) is ∙ stands.nodes)
    (subst (λ (m : NodeView). Shows m p.current) (sym is)
    (shows-kept n p.current stands.shows)) kept

pub is-found : {me width : ℕ} {p : Pair} {n was : NodeView} (found : NodeView)
    → StandsAt me width p n → IsSavedNode me width p.saved was → kept_view found ≡ found
    → (is_same_node found was ≡ false → found ≡ kept_view n)
    → IsFound me width (found_pair (is_same_node found was) p) found
is-found {was = was} found stands saved kept which =
    found-by found (is_same_node found was) refl stands saved kept which
