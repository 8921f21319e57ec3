-- A new space.
use Rattle.std.proofs.Common.{◌≡◌, ℕ, zero, suc, ◌<◌, List, [], ◌∷◌, length, map, get_or, replicate, slice_get, refl, ap, sym, ◌∙◌, subst, arith}
use Rattle.std.specs.List.{range_with_len}
use Rattle.std.proofs.lemmas.List.{length-map}
use Rattle.std.proofs.lemmas.List.FromFn.{length-range_with_len, get_or-map-range_with_len, length-map-range_with_len}
use Rattle.std.proofs.lemmas.Simd.{map-map, splat_is_map}
use Rattle.msg.specs.declared.frame.Data.{Data}
use Rattle.ids.specs.Limits.{Shaped, IsShape, plain_shape}
use Rattle.model.specs.State.{NodeState, new_node, no_node, sent_to}
use Rattle.model.specs.View.{Link, new_view}
use Rattle.model.specs.World.{acknowledged, new_world}
use Rattle.model.proofs.Lookups.{get_or-replicate_any}
use Rattle.model.proofs.NewNodes.{new-link, nothing-sent, new-shown, new-counted}
use Rattle.laws.proofs.KeepsSent.{new-keeps-sent}
use Rattle.world.specs.Outboxes.{IsFrameOf}
use Rattle.world.specs.Sites.{SiteView, KeepingSite, frames_to, new_site, new_keeping}
use Rattle.world.specs.Spaces.{IsOfNet, ShowsSpace, early_of, site_of, space_of}
use Rattle.world.specs.Shows.{ShowsNode, ShowsWorld, IsPlaced, IsSim, no_site}
use Rattle.node.specs.Keeping.{OfAll, no_rings}
use Rattle.node.proofs.Kept.{of-none}

abbrev pub new_sites : Shaped → List SiteView
new_sites shape = map (new_site shape) (range_with_len 0 shape.nodes)

-- nothing was sent, released, acknowledged or dropped
new-node-shown : (shape : Shaped) (own : ℕ) (B : ℕ → ℕ)
    → ShowsNode (new_node shape own) B (new_view shape own) (new_node shape own)
new-node-shown shape own B = record {
  shows = new-shown shape own;
  counted = new-counted shape own;
  acks = refl;
  keeps = λ j. omega (arith, ap (λ (l : Link). l.base) (new-link shape own j));
}

-- a new site, the saved state that it shows, and what it shows of its current one
record ShowsNew (B : ℕ → ℕ) (i : ℕ) (q : SiteView) (s : NodeState) : Type 0 where
  current : ShowsNode s B q.current s
  saved : ShowsNode s B q.saved s
  released : (j k : ℕ) → IsFrameOf i j k (slice_get (sent_to s j) k) (slice_get (frames_to q j) k)

new-site-shown : (B : ℕ → ℕ) (i : ℕ) (shape : Shaped) (own : ℕ)
    → ShowsNew B i (new_site shape own) (new_node shape own)
new-site-shown B i shape own = record {
  current = new-node-shown shape own B;
  saved = new-node-shown shape own B;
  released = λ j k.
      rw (nothing-sent shape own j, get_or-replicate_any {A = List (List ℕ)} shape.nodes j []) tt;
}

-- this holds for the site of each number, and past the last one
each-shown : (B : ℕ → ℕ) (i : ℕ) (shape : Shaped) (xs : List ℕ) (k : ℕ)
    → ShowsNew B i (get_or (map (new_site shape) xs) k no_site)
    (get_or (map (new_node shape) xs) k no_node)
each-shown B i shape [] k = new-site-shown B i (plain_shape 0 0 0) 1
each-shown B i shape (x ∷ xs) zero = new-site-shown B i shape x
each-shown B i shape (x ∷ xs) (suc k) = each-shown B i shape xs k

pub new-shows : (shape : Shaped) → ShowsWorld (new_sites shape) (new_world shape)
new-shows shape = record {
  width = length-map (range_with_len 0 shape.nodes) (new_site shape)
      ∙ sym (length-map (range_with_len 0 shape.nodes) (new_node shape));
  grown = new-keeps-sent shape;
  each = λ i.
      let here = each-shown (acknowledged (new_world shape) i) i shape
      (range_with_len 0 shape.nodes) i in
      record {
        current = here.current;
        saved = here.saved;
        released = λ j k apart. here.released j k;
      };
}

pub new-sim : (shape : Shaped) → IsShape shape → IsSim (new_sites shape)
new-sim shape h =
    let width : length (new_sites shape) ≡ shape.nodes = length-map-range_with_len
    (new_site shape) 0 shape.nodes in
    let there = λ (i : ℕ) (less : i < length (new_sites shape)).
    get_or-map-range_with_len (new_site shape) 0 shape.nodes i i no_site
    (omega (arith, less, width)) (omega arith) in
    record {
      some = omega (arith, width, h.least_nodes);
      small = omega (arith, width, h.most_nodes);
      current = λ i less. subst (λ (q : SiteView). IsPlaced (length (new_sites shape)) i q.current)
          (sym (there i less)) (record { own = refl; nodes = sym width });
      saved = λ i less. subst (λ (q : SiteView). IsPlaced (length (new_sites shape)) i q.saved)
          (sym (there i less)) (record { own = refl; nodes = sym width });
    }

-- ---- with what the nodes keep

abbrev pub new_sites_keeping : Shaped → List KeepingSite
new_sites_keeping shape = map (new_keeping shape) (range_with_len 0 shape.nodes)

sites-alone : (shape : Shaped) → map site_of (new_sites_keeping shape) ≡ new_sites shape
sites-alone shape = map-map site_of (new_keeping shape) (range_with_len 0 shape.nodes)

-- no node keeps anything
nothing-kept : (P : ℕ → Data → Type 0) (shape : Shaped) (xs : List ℕ) (k : ℕ)
    → OfAll P (get_or (map early_of (map (new_keeping shape) xs)) k [])
nothing-kept P shape [] k = of-none P 0
nothing-kept P shape (x ∷ xs) zero = of-none P shape.nodes
nothing-kept P shape (x ∷ xs) (suc k) = nothing-kept P shape xs k

pub new-early : (shape : Shaped)
    → map early_of (new_sites_keeping shape) ≡ replicate shape.nodes (no_rings shape.nodes)
new-early shape =
    let numbers : List ℕ = range_with_len 0 shape.nodes in
    map-map early_of (new_keeping shape) numbers
    ∙ sym (splat_is_map numbers shape.nodes (no_rings shape.nodes)
    (length-range_with_len 0 shape.nodes))

pub new-space-shows : (shape : Shaped)
    → ShowsSpace (space_of (new_sites_keeping shape)) (new_world shape)
new-space-shows shape =
    let all : List KeepingSite = new_sites_keeping shape in
    record {
      world =
          subst (λ (z : List SiteView). ShowsWorld z (new_world shape)) (sym (sites-alone shape))
          (new-shows shape);
      width = length-map all early_of ∙ sym (length-map all site_of);
      held = λ i. nothing-kept (IsOfNet (new_world shape) i) shape (range_with_len 0 shape.nodes) i;
    }

pub new-space-sim : (shape : Shaped) → IsShape shape
    → IsSim (map site_of (new_sites_keeping shape))
new-space-sim shape h = subst IsSim (sym (sites-alone shape)) (new-sim shape h)
