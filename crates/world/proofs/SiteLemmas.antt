-- What the calls of a site leave of it.
use Rattle.std.proofs.Common.{◌≡◌, ◌≢◌, ℕ, zero, suc, ◌+◌, ◌-◌, max, ◌≤◌, List, [], ◌∷◌, length, map, get_or, set, replicate, Option, Some, None, Result, Ok, Err, refl, ap, sym, ◌∙◌, subst, le_refl, le_trans, arith}
use Rattle.std.proofs.lemmas.List.{length-drop, length_push, length-replicate, map-set}
use Rattle.std.proofs.Math.ListN.{get_or-map}
use Rattle.std.proofs.Math.Nat.{min-eq_left, sub-add-eq-max}
use Rattle.ids.specs.Limits.{Shaped}
use Rattle.std.specs.Prelude.{IsTrue, IfOk, IfErr}
use Rattle.std.proofs.lemmas.Result.{MatchResult-weaker}
use Rattle.ids.specs.declared.refusal.Refusal.{Refusal}
use Rattle.ids.specs.declared.refusal.Refusal.TheVariants.{Memory}
use Rattle.msg.specs.declared.body.Message.{Message}
use Rattle.msg.specs.declared.frame.Ack.{Ack}
use Rattle.model.specs.declared.event.Event.{Event}
use Rattle.model.specs.declared.event.Event.TheVariants as event
use Rattle.model.specs.declared.event.Answer.{Answer}
use Rattle.model.specs.Steps.{ack_of, is_memory_free, is_shading}
use Rattle.model.specs.View.{Link, NodeView, Performed, Leaves, no_link, link_to, used, appended, append_to, trimmed, let_go, view_act, new_view, all_kept, kept_view, base_of, kept_of}
use Rattle.model.proofs.Lookups.{at_set_if}
use Rattle.model.proofs.NewNodes.{new-link}
use Rattle.model.proofs.Shown.{view-ok, ack-done}
use Rattle.world.specs.Outboxes.{no_outbox, released_frames}
use Rattle.world.specs.Sites.{SiteView, IsBacked, IsSite, Acted, Saves, new_site, bases, bases_acked}

-- a number of each link that is the same in two nodes
pub link-same : (f : Link → ℕ) (v u : NodeView) (j : ℕ) → map f v.links ≡ map f u.links
    → f (link_to v j) ≡ f (link_to u j)
link-same f v u j e =
    sym (get_or-map f v.links j no_link) ∙ ap (λ (z : List ℕ). get_or z j (f no_link)) e
    ∙ get_or-map f u.links j no_link

-- ---- what was dropped

pub base-at : (n : NodeView) (j : ℕ) → get_or (bases n) j 0 ≡ (link_to n j).base
base-at n j = get_or-map base_of n.links j no_link

-- an acknowledgement within a bound that is given for each node
abbrev pub IsAckWithin : (ℕ → ℕ) → Option Ack → Type 0
IsAckWithin B None = Unit {0}
IsAckWithin B (Some a) = a.number ≤ B a.by

-- if what was dropped is within the bounds, so is what is dropped after the acknowledgement
pub bases-within : (B : ℕ → ℕ) (all : List ℕ) (o : Option Ack) (j : ℕ) → IsAckWithin B o
    → ((k : ℕ) → get_or all k 0 ≤ B k) → get_or (bases_acked all o) j 0 ≤ B j
bases-within B all None j told low = low j
bases-within B all (Some a) j told low =
    at_set_if (λ z. z ≤ B j) all a.by j (max a.number (get_or all a.by 0)) 0
    (λ e. subst (λ k. max a.number (get_or all a.by 0) ≤ B k) e (omega (arith, told, low a.by)))
    (low j)

-- ---- events

-- no event takes a message back
set-used : (links : List Link) (i j : ℕ) (l : Link) → used (get_or links i no_link) ≤ used l
    → used (get_or links j no_link) ≤ used (get_or (set links i l) j no_link)
set-used links i j l more =
    at_set_if (λ z. used (get_or links j no_link) ≤ used z) links i j l no_link
    (λ e. subst (λ k. used (get_or links k no_link) ≤ used l) e more) (le_refl _)

append-used : (links : List Link) (ms : List (ℕ × Message)) (j : ℕ)
    → used (get_or links j no_link) ≤ used (get_or (append_to links ms) j no_link)
append-used links [] j = le_refl _
append-used links (m ∷ ms) j =
    let old : Link = get_or links m.0 no_link in
    le_trans (set-used links m.0 j (appended old m.1)
    (omega (arith, length_push old.unacknowledged m.1)))
    (append-used (set links m.0 (appended old m.1)) ms j)

let_go-used : (links : List Link) (o : Option Ack) (j : ℕ)
    → used (get_or links j no_link) ≤ used (get_or (let_go links o) j no_link)
let_go-used links None j = le_refl _
let_go-used links (Some a) j =
    let old : Link = get_or links a.by no_link in
    set-used links a.by j (trimmed old a.number)
    (omega (arith, length-drop (a.number - old.base) old.unacknowledged))

act-used : (n new : NodeView) (e : Event) (r : Result Answer Refusal) (j : ℕ)
    → Performed (is_shading e) r n new (view_act n e) → used (link_to n j) ≤ used (link_to new j)
unfolding view_act
act-used n new e (Err f) j p =
    subst (λ (v : NodeView). used (link_to n j) ≤ used (link_to v j)) (sym p.unchanged) (le_refl _)
act-used n new e (Ok x) j p =
    let links : List Link = let_go n.links (ack_of e) in
    let found = view-ok n new links _ x p.performs in
    subst (λ (v : NodeView). used (link_to n j) ≤ used (link_to v j)) (sym found.2)
    (le_trans (let_go-used n.links (ack_of e) j) (append-used links found.0.sends j))

-- the event that an acknowledgement came with
ack-event : (e : Event) (a : Ack) → ack_of e ≡ Some a → e ≡ event.Ack a
ack-event (event.Ack b) a h = let same : b ≡ a = cc in ap (λ z. event.Ack z) same
ack-event e a h = absurd cc

-- dropping messages raises the base to the number, if that is above it
trimmed-base : (l : Link) (number : ℕ) → l.kept ≤ used l → number ≤ l.kept
    → (trimmed l number).base ≡ max number l.base
trimmed-base l number held few =
    let some : number - l.base ≤ length l.unacknowledged = omega arith in
    let other : l.base + (number - l.base) ≡ number - l.base + l.base = omega arith in
    ap (λ (k : ℕ). l.base + k) (min-eq_left some) ∙ other ∙ sub-add-eq-max number l.base

-- what an answered event drops
acted-lets_go : {rows : List (List (List ℕ))} {n new : NodeView} {e : Event}
    {r : Result Answer Refusal} → (o : Option Ack) → IsBacked rows n → Leaves n new e
    → Performed (is_shading e) r n new (view_act n e) → ack_of e ≡ o
    → IfOk r (λ x. (bases new ≡ bases_acked (bases n) o) × IsAckWithin (λ j. (link_to n j).kept) o)
acted-lets_go {r = Err f} o h left p is = tt
acted-lets_go {r = Ok x} None h left p none = (left.bases none, tt)
acted-lets_go {n = n} {new = new} {e = e} {r = Ok x} (Some a) h left p is =
    let done = ack-done n new a x (rw (ack-event e a is) at p.performs) in
    let moved = trimmed-base (link_to n a.by) a.number (h.kept a.by) done.0
    ∙ ap (max a.number) (sym (base-at n a.by)) in (
      ap bases done.1 ∙ map-set base_of n.links a.by (trimmed (link_to n a.by) a.number)
          ∙ ap (set (bases n) a.by) moved,
      done.0,
    )

acted-base : {rows : List (List (List ℕ))} {n new : NodeView} {e : Event}
    {r : Result Answer Refusal} → (j : ℕ) → IsBacked rows n → Leaves n new e
    → Performed (is_shading e) r n new (view_act n e) → (link_to new j).base ≤ (link_to new j).kept
acted-base {r = Err f} j h left p = rw p.unchanged (h.base j)
acted-base {n = n} {new = new} {e = e} {r = Ok x} j h left p =
    let done = acted-lets_go (ack_of e) h left p refl in
    let low = bases-within (λ k. (link_to n k).kept) (bases n) (ack_of e) j done.1
    (λ k. omega (arith, base-at n k, h.base k)) in
    omega (
      arith,
      low,
      base-at new j,
      ap (λ z. get_or z j 0) done.0,
      link-same kept_of new n j
          left.kept,
    )

-- the site after a call of its current node
module _ {q : SiteView} {v : NodeView} {e : Event} {r : Result Answer Refusal} (h : IsSite q)
    (left : Leaves q.current v e)
    (performed : Performed (is_shading e) r q.current v (view_act q.current e)) where
  pub site_acted : IsSite (record q { current = v })
  site_acted =
      let kept = λ (j : ℕ). link-same kept_of v q.current j left.kept in
      record {
        shape = h.shape ∙ sym left.shape;
        own = h.own ∙ sym left.own;
        acks = h.acks ∙ sym left.acks;
        width = h.width ∙ ap (λ (s : Shaped). s.nodes) (sym left.shape);
        current = record {
          base = λ j. acted-base j h.current left performed;
          kept = λ j. omega (arith, h.current.kept j, kept j, act-used q.current v e r j performed);
          frames = λ j apart.
              omega (arith, h.current.frames j (λ own. apart (own ∙ sym left.own)), kept j);
        };
        saved = h.saved;
      }

  pub acts : (IsTrue (is_memory_free q.current.local e) → IfErr r (λ f. f ≢ Memory))
      → Acted r q (record q { current = v }) e
  acts free = record {
    performs = performed.performs;
    unchanged = MatchResult-weaker r performed.unchanged (λ x _. tt)
        (λ f same. ap (λ (m : NodeView). record q { current = m }) same);
    others = refl;
    leaves = left;
    lets_go = MatchResult-weaker r
        (acted-lets_go (ack_of e) h.current left performed refl) (λ x done. done.0) (λ f _. tt);
    memory_free = free;
  }

-- ---- saves

pub kept-link : (n : NodeView) (j : ℕ) → link_to (kept_view n) j ≡ all_kept (link_to n j)
kept-link n j = get_or-map all_kept n.links j no_link

kept-backed : (rows : List (List (List ℕ))) (n : NodeView)
    → ((j : ℕ) → j ≢ n.local.own → used (link_to n j) ≤ length (get_or rows j []))
    → IsBacked rows (kept_view n)
kept-backed rows n all = record {
  base = λ j. rw (kept-link n j) (omega arith);
  kept = λ j. rw (kept-link n j) (le_refl _);
  frames = λ j apart. rw (kept-link n j) (all j apart);
}

pub site-saved : (q p : SiteView) → IsSite q → length p.released ≡ length q.released → Saves q p
    → IsSite p
site-saved q p h wide s =
    let backed : IsBacked p.released (kept_view q.current) = kept-backed p.released q.current
    (λ j apart. (s.frames j apart).all) in
    record {
      shape = ap (λ (n : NodeView). n.local.shape) (s.saved ∙ sym s.current);
      own = ap (λ (n : NodeView). n.local.own) (s.saved ∙ sym s.current);
      acks = ap (λ (n : NodeView). n.acks) (s.saved ∙ sym s.current);
      width = wide ∙ h.width ∙ ap (λ (n : NodeView). n.local.shape.nodes) (sym s.current);
      current = subst (IsBacked p.released) (sym s.current) backed;
      saved = subst (IsBacked p.released) (sym s.saved) backed;
    }

-- the saved node becomes the current one
pub site_restarted : (n v saved : NodeView) (rows : List (List (List ℕ)))
    → IsSite (record { current = n; saved = saved; released = rows }) → v ≡ saved
    → IsSite (record { current = v; saved = saved; released = rows })
site_restarted n v saved rows h same =
    subst (λ (m : NodeView). IsSite (record { current = m; saved = saved; released = rows }))
    (sym same)
    (record {
      shape = refl;
      own = refl;
      acks = refl;
      width = h.width ∙ ap (λ (s : Shaped). s.nodes) (sym h.shape);
      current = h.saved;
      saved = h.saved;
    })

-- ---- new sites

pub no-frames : (n : ℕ) → map released_frames (replicate n no_outbox) ≡ replicate n []
no-frames zero = refl
no-frames (suc n) = ap (λ zs. [] ∷ zs) (no-frames n)

new-backed : (rows : List (List (List ℕ))) (shape : Shaped) (own : ℕ)
    → IsBacked rows (new_view shape own)
new-backed rows shape own = record {
  base = λ j. rw (new-link shape own j) (omega arith);
  kept = λ j. rw (new-link shape own j) (omega arith);
  frames = λ j apart. rw (new-link shape own j) (omega arith);
}

pub site-new : (shape : Shaped) (own : ℕ) → IsSite (new_site shape own)
site-new shape own = record {
  shape = refl;
  own = refl;
  acks = refl;
  width = length-replicate {A = List (List ℕ)} shape.nodes [];
  current = new-backed _ shape own;
  saved = new-backed _ shape own;
}
