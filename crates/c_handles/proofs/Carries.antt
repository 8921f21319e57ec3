-- What saving a node and giving it frames come to, in terms of its links.
use Rattle.std.proofs.Common.{◌≡◌, ◌≢◌, ℕ, zero, suc, ◌+◌, ◌<◌, ◌≤◌, ◌++◌, true, List, [], ◌∷◌, length, get_or, Ok, refl, sym, ap, ◌∙◌, subst, ⊎_elim, arith, le_refl, length-set, get_or-set_same, get_or-set_other, leb-true, ltb-true}
use Rattle.std.specs.Prelude.{max, min}
use Rattle.std.proofs.Math.Seq.{get_or-append_seam}
use Rattle.std.proofs.lemmas.List.{get_or_append_left}
use Rattle.std.proofs.lemmas.Bool.{cases_eq, cond_both, cond-true}
use Rattle.msg.specs.declared.frame.Ack.{Ack}
use Rattle.msg.specs.declared.frame.Data.{Data}
use Rattle.model.specs.declared.event.Answer.{Answer}
use Rattle.model.specs.declared.event.Event.TheVariants as event
use Rattle.model.specs.Effects.{Effect}
use Rattle.model.specs.State.{LocalState, NodeState, got_from}
use Rattle.model.specs.Steps.{act, is_early, is_repeat, receipt}
use Rattle.model.specs.View.{Link, NodeView, is_other, kept_to, kept_with, link_to, no_link, trimmed, used, view_act}
use Rattle.model.proofs.Leaving.{taken-stands}
use Rattle.model.proofs.Lookups.{at_set_if}
use Rattle.model.proofs.Shown.{ack-done}
use Rattle.node.specs.Keeping.{WholeNode}
use Rattle.laws.proofs.StepFacts.{act-ok}
use Rattle.c_handles.specs.Images.{counted, counts_below, counts_of, keeps, keeps_below}
use Rattle.c_handles.specs.Logs.{no_counts}
use Rattle.c_handles.specs.declared.lone.images.Counts.{Counts}
use Rattle.c_handles.proofs.Logs.{counts-length}

-- ---- counts

counts-at : (n : NodeView) (k j : ℕ) → j < k
    → get_or (counts_below n k) j no_counts ≡ counted n j
counts-at n zero j below = absurd (omega (arith, below))
counts-at n (suc k) j below =
    let many : length (counts_below n k) ≡ k = counts-length n k in
    ⊎_elim {C = get_or (counts_below n (suc k)) j no_counts ≡ counted n j}
    (λ (last : j ≡ k).
    ap (λ (z : ℕ). get_or (counts_below n k ++ counted n k ∷ []) z no_counts) (last ∙ sym many)
    ∙ get_or-append_seam (counts_below n k) (counted n k) [] no_counts
    ∙ ap (counted n) (sym last))
    (λ (other : j ≢ k).
    get_or_append_left (counts_below n k) (counted n k ∷ []) no_counts j
    (omega (arith, below, other, many))
    ∙ counts-at n k j (omega (arith, below, other)))
    (cases_eq j k)

-- ---- what counts as saved

-- what the node had sent to another one, and received from it, counts as saved
pub record Saves (n m : NodeView) (j : ℕ) : Type 0 where
  pub sent : used (link_to n j) ≤ (link_to m j).kept
  pub received : got_from n.local j ≤ get_or m.acks j 0

-- the same node, and more may count as saved
record Alike (n m : NodeView) : Type 0 where
  local : m.local ≡ n.local
  links : length m.links ≡ length n.links
  acks : length m.acks ≡ length n.acks
  bases : (j : ℕ) → (link_to m j).base ≡ (link_to n j).base
  used_same : (j : ℕ) → used (link_to m j) ≡ used (link_to n j)

alike-with : (peer sent received : ℕ) (n m : NodeView) → Alike n m
    → Alike n (kept_with peer sent received m)
alike-with peer sent received n m h =
    cond_both (is_other m.local peer) _ m (Alike n)
    (λ _. record {
      local = h.local;
      links = length-set m.links peer _ ∙ h.links;
      acks = length-set m.acks peer _ ∙ h.acks;
      bases = λ j.
          at_set_if (λ (l : Link). l.base ≡ (link_to n j).base) m.links peer j
          (kept_to sent (link_to m peer)) no_link
          (λ (here : peer ≡ j). ap (λ (k : ℕ). (link_to m k).base) here ∙ h.bases j)
          (h.bases j);
      used_same = λ j.
          at_set_if (λ (l : Link). used l ≡ used (link_to n j)) m.links peer j
          (kept_to sent (link_to m peer)) no_link
          (λ (here : peer ≡ j). ap (λ (k : ℕ). used (link_to m k)) here ∙ h.used_same j)
          (h.used_same j);
    })
    (λ _. h)

keeps-alike : (counts : List Counts) (k : ℕ) (n : WholeNode)
    → Alike n.core (keeps_below counts k n).core
keeps-alike counts zero n =
    record {
      local = refl;
      links = refl;
      acks = refl;
      bases = λ j. refl;
      used_same = λ j. refl;
    }
keeps-alike counts (suc peer) n =
    alike-with peer (get_or counts peer no_counts).sent (get_or counts peer no_counts).received
    n.core (keeps_below counts peer n).core (keeps-alike counts peer n)

saves-with : {n m : NodeView} (peer : ℕ) (c : Counts) → Alike n m → is_other n.local peer ≡ true
    → peer < length n.links → length n.acks ≡ length n.links → c ≡ counted n peer
    → Saves n (kept_with peer c.sent c.received m) peer
saves-with {n} {m} peer c h other inside wide is =
    let link : Link = kept_to c.sent (link_to m peer) in
    let ack : ℕ = max (get_or m.acks peer 0) (min c.received (got_from m.local peer)) in
    subst (λ (z : NodeView). Saves n z peer)
    (sym (cond-true (is_other m.local peer) _ m
    (ap (λ (p : LocalState). is_other p peer) h.local ∙ other)))
    (record {
      sent =
          subst (λ (z : Link). used (link_to n peer) ≤ z.kept)
          (sym (get_or-set_same m.links peer link no_link
          (let l = h.links in omega (arith, l, inside))))
          (let u = h.used_same peer in
          let s = ap (λ (z : Counts). z.sent) is in omega (arith, u, s));
      received =
          subst (λ (z : ℕ). got_from n.local peer ≤ z)
          (sym (get_or-set_same m.acks peer ack 0
          (let a = h.acks in omega (arith, a, wide, inside))))
          (let g = ap (λ (p : LocalState). got_from p peer) h.local in
          let r = ap (λ (z : Counts). z.received) is in omega (arith, g, r));
    })

saves-on : (peer sent received j : ℕ) (n m : NodeView) → j ≢ peer → Saves n m j
    → Saves n (kept_with peer sent received m) j
saves-on peer sent received j n m other h =
    cond_both (is_other m.local peer) _ m (λ (z : NodeView). Saves n z j)
    (λ _. record {
      sent =
          subst (λ (z : Link). used (link_to n j) ≤ z.kept)
          (sym (get_or-set_other m.links peer j _ no_link other)) h.sent;
      received =
          subst (λ (z : ℕ). got_from n.local j ≤ z)
          (sym (get_or-set_other m.acks peer j _ 0 other)) h.received;
    })
    (λ _. h)

keeps-saves : (n : WholeNode) (k j : ℕ) → j < k → k ≤ length n.core.links
    → is_other n.core.local j ≡ true → length n.core.acks ≡ length n.core.links
    → Saves n.core (keeps_below (counts_below n.core (length n.core.links)) k n).core j
keeps-saves n zero j below inside other wide = absurd (omega (arith, below))
keeps-saves n (suc peer) j below inside other wide =
    let counts : List Counts = counts_below n.core (length n.core.links) in
    let c : Counts = get_or counts peer no_counts in
    let m : NodeView = (keeps_below counts peer n).core in
    ⊎_elim {C = Saves n.core (kept_with peer c.sent c.received m) j}
    (λ (last : j ≡ peer).
    subst (λ (z : ℕ). Saves n.core (kept_with peer c.sent c.received m) z) (sym last)
    (saves-with peer c (keeps-alike counts peer n)
    (subst (λ (z : ℕ). is_other n.core.local z ≡ true) last other)
    (omega (arith, inside)) wide
    (counts-at n.core (length n.core.links) peer (omega (arith, inside)))))
    (λ (apart : j ≢ peer).
    saves-on peer c.sent c.received j n.core m apart
    (keeps-saves n peer j (omega (arith, below, apart)) (omega (arith, inside)) other wide))
    (cases_eq j peer)

pub all-saved : (n : WholeNode) (counts : List Counts) → counts ≡ counts_of n.core → (j : ℕ)
    → j < length n.core.links → is_other n.core.local j ≡ true
    → length n.core.acks ≡ length n.core.links → Saves n.core (keeps counts n).core j
unfolding keeps counts_of
all-saved n counts is j inside other wide =
    subst (λ (z : List Counts). Saves n.core (keeps_below z (length n.core.links) n).core j)
    (sym is) (keeps-saves n (length n.core.links) j inside (le_refl _) other wide)

-- and the bases stay
pub kept-bases : (counts : List Counts) (n : WholeNode) (j : ℕ)
    → (link_to (keeps counts n).core j).base ≡ (link_to n.core j).base
unfolding keeps
kept-bases counts n = (keeps-alike counts (length n.core.links) n).bases

-- ---- frames

-- a message that comes no later than in its turn counts as received then
pub data-got : (s t : NodeState) (d : Data) (a : Answer) → act s (event.Data d) ≡ Ok (t, a)
    → d.from < length s.local.got → d.number ≤ got_from s.local d.from + 1
    → d.number ≤ got_from t.local d.from
data-got s t d a answered inside due =
    let p : LocalState = s.local in
    let local : t.local ≡ (receipt p d.from d.number d.stamp d.body).local =
    ap (λ (z : NodeState). z.local) (act-ok s (event.Data d) t a answered).state in
    subst (λ (z : LocalState). d.number ≤ got_from z d.from) (sym local)
    (cond_both (is_repeat p d.from d.number) _ _
    (λ (x : Effect). d.number ≤ got_from x.local d.from)
    (λ again. leb-true d.number (got_from p d.from) again)
    (λ _. cond_both (is_early p d.from d.number) _ _
    (λ (x : Effect). d.number ≤ got_from x.local d.from)
    (λ early. absurd
    (let later = ltb-true (got_from p d.from + 1) d.number early in omega (arith, later, due)))
    (λ _.
    subst (λ (z : List ℕ). d.number ≤ get_or z d.from 0)
    (sym (taken-stands p d.from d.number d.stamp d.body).got)
    (subst (λ (k : ℕ). d.number ≤ k) (sym (get_or-set_same p.got d.from d.number 0 inside))
    (le_refl _)))))

-- An acknowledgement moves the base on to its number, or to all that was sent.
pub ack-reaches : (n new : NodeView) (a : Ack) {x : Answer} (k : ℕ)
    → view_act n (event.Ack a) ≡ Ok (new, x) → a.by < length n.links → k ≤ a.number
    → k ≤ used (link_to n a.by) → k ≤ (link_to new a.by).base
ack-reaches n new a {x} k h inside most within =
    let l : Link = trimmed (link_to n a.by) a.number in
    subst (λ (z : NodeView). k ≤ (link_to z a.by).base) (sym (ack-done n new a x h).1)
    (subst (λ (z : Link). k ≤ z.base) (sym (get_or-set_same n.links a.by l no_link inside))
    (let e : k ≤ l.base = omega (arith, most, within) in e))
