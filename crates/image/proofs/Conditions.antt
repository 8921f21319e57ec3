-- A node that has a spelling is well-formed exactly if it meets all conditions of a saved node.
use Rattle.std.proofs.Common.{◌≡◌, ℕ, ◌-◌, ◌<◌, ◌≤◌, ◌==◌, Bool, true, false, cond, List, [], ◌∷◌, length}
use Rattle.std.proofs.Common.{get_or, map, replicate, refl, sym, ◌∙◌, subst, le_refl, arith}
use Rattle.std.specs.Prelude.{◌↔◌}
use Rattle.std.specs.List.{insert}
use Rattle.std.proofs.lemmas.Bool.{eqb-true}
use Rattle.std.proofs.lemmas.List.{length-map, length-replicate}
use Rattle.std.proofs.lemmas.List.Edits.{length-insert, get_or-insert_at}
use Rattle.std.proofs.lemmas.List.Elements.{All-from_get_or, All-map}
use Rattle.model.proofs.Lookups.{get_or-replicate_any}
use Rattle.image_parts.specs.declared.layout.Layout.{Layout}
use Rattle.model.specs.View.{Link, NodeView, no_link, link_to, used}
use Rattle.model.specs.WellFormed.{AreReports}
use Rattle.node.specs.Invariant.{AreLinked, IsStanding, links_of}
use Rattle.image_parts.specs.Grammar.{Stored, Fits}
use Rattle.image_parts.specs.Links.{StoredLink}
use Rattle.image.specs.Nodes.{link_of, received_of, node_of, Spells}
use Rattle.image.specs.Conditions.{IsSaved}
use Rattle.image.proofs.Elements.{at_any, all_insert}
use Rattle.image_parts.proofs.Readings.{own_below, links_count, reports_count}

pub standing_saved : (n : NodeView) → IsStanding n → IsSaved n
standing_saved n stands =
    let is = stands.node in
    record {
      shape = is.shape;
      own = is.own;
      phases = is.phases.phases;
      cursor = is.phases.cursor;
      token = is.token;
      slots = stands.slots;
      stocked = is.stocked;
      references = is.references;
      asked = is.asked;
      messages = λ i k. record {
        stamp = is.links.timely.stamps i k;
        references = (is.links.messages i k).references;
        place = (is.links.messages i k).place;
      };
      sent = λ i. (is.links.links.links i).used;
      received = is.links.links.numbers;
      balance = is.balance;
    }

-- ---- what a spelling implies

-- the reports of a node; only the image of node 0 has some
reports_are : (own nodes : ℕ) (told : List ℕ) (b : Bool) → (own == 0) ≡ b → own < nodes
    → length told ≡ cond b (nodes - 1) 0
    → (length (cond b (0 ∷ told) (replicate nodes 0)) ≡ nodes)
    × AreReports own (cond b (0 ∷ told) (replicate nodes 0))
reports_are own nodes told true is inside count = (
  omega (arith, inside, count),
  record { first = refl; others = λ far. absurd (far (eqb-true own 0 is)) },
)
reports_are own nodes told false is inside count =
    let none : (i : ℕ) → get_or (replicate nodes 0) i 0 ≡ 0 = λ i. get_or-replicate_any nodes i 0 in
    (length-replicate nodes 0, record { first = none 0; others = λ far. none })

no_stored : StoredLink
no_stored = record { base = 0; unacknowledged = []; received = 0 }

-- all of its messages count as saved
abbrev IsOne : Link → Type 0
IsOne l = l.kept ≡ used l

each_link : (l : Layout) (s : Stored) (i : ℕ) → IsOne (link_to (node_of l s) i)
each_link l s =
    at_any IsOne no_link refl (insert (map link_of s.links) s.head.own no_link)
    (all_insert IsOne no_link refl (map link_of s.links) s.head.own
    (All-map IsOne link_of s.links (All-from_get_or (λ k. IsOne (link_of k)) s.links no_stored
    (λ _ _. refl))))

-- ---- the node that the image says

module _ (v : Layout) (s : Stored) (fits : Fits v s) (saved : IsSaved (node_of v s)) where
  abbrev n : NodeView
  n = node_of v s

  abbrev own : ℕ
  own = s.head.own

  inside : {A : Type 0} (f : StoredLink → A) → own ≤ length (map f s.links)
  inside f = omega (arith, length-map s.links f, links_count v s fits, own_below v s fits)

  width : {A : Type 0} (f : StoredLink → A) (a : A)
      → length (insert (map f s.links) own a) ≡ s.head.nodes
  width f a =
      let count = length-insert (map f s.links) own a (inside f) in
      omega (arith, count, length-map s.links f, links_count v s fits, own_below v s fits)

  are_linked : AreLinked n.local.shape own n.local.phases.cycle (links_of n)
  are_linked =
      let sent = width link_of no_link in
      let got = width received_of 0 in
      record {
        width = sent;
        links = record {
          width = omega (arith, sent, saved.shape.most_nodes);
          received = got ∙ sym sent;
          acked = got ∙ sym sent;
          links = λ i.
              let kept = each_link v s i in
              record {
                base = omega (arith, kept);
                kept = omega (arith, kept);
                used = saved.sent i;
              };
          numbers = saved.received;
          acks = λ i. le_refl _;
        };
        messages = λ i k. record {
          stamp = omega (arith, (saved.messages i k).stamp, saved.phases.within);
          references = (saved.messages i k).references;
          place = (saved.messages i k).place;
        };
        timely = record {
          unused = get_or-insert_at (map link_of s.links) own no_link no_link (inside link_of);
          unheard = get_or-insert_at (map received_of s.links) own 0 0 (inside received_of);
          stamps = λ i k. (saved.messages i k).stamp;
        };
      }

  pub saved_standing : IsStanding (node_of v s)
  saved_standing =
      let reports = reports_are own s.head.nodes s.reports (own == 0) refl (own_below v s fits)
      (reports_count v s fits) in
      record {
        node = record {
          shape = saved.shape;
          own = saved.own;
          references = saved.references;
          stocked = saved.stocked;
          asked = saved.asked;
          phases = record {
            phases = saved.phases;
            cursor = saved.cursor;
            reports = reports.0;
            heard = reports.1;
          };
          token = saved.token;
          links = are_linked;
          balance = saved.balance;
        };
        slots = saved.slots;
      }

pub saved_both : (v : Layout) (bytes : List ℕ) (n : NodeView) → Spells v bytes n
    → (IsSaved n ↔ IsStanding n)
saved_both v bytes n p = (
  λ saved.
      subst IsStanding p.node
      (saved_standing v p.says p.image.fits (subst IsSaved (sym p.node) saved)),
  standing_saved n,
)
