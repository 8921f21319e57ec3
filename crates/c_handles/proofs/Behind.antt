-- A node of which less counts as saved does what the other one does.
use Rattle.std.proofs.Common.{◌≡◌, ℕ, ◌≤◌, Bool, List, [], ◌∷◌, ◌++◌, map, get_or, set, Option, Some, None, Ok, refl, ap, sym, ◌∙◌, subst, arith}
use Rattle.std.specs.Prelude.{max, min}
use Rattle.std.proofs.lemmas.Bool.{cond_both, le-leb}
use Rattle.std.proofs.lemmas.List.{map-set}
use Rattle.std.proofs.lemmas.Simd.{map-map}
use Rattle.std.proofs.Math.ListN.{get_or-map}
use Rattle.std.proofs.Math.Nat.{le_trans, max-le, min-le_left}
use Rattle.ids.specs.declared.refusal.Refusal.{Refusal}
use Rattle.ids.specs.declared.refusal.Refusal.TheVariants.{AckBeyond}
use Rattle.msg.specs.declared.body.Message.{Message}
use Rattle.msg.specs.declared.frame.Ack.{Ack}
use Rattle.model.specs.declared.event.Event.{Event}
use Rattle.model.specs.declared.event.Event.TheVariants as event
use Rattle.model.specs.declared.event.Answer.{Answer}
use Rattle.model.specs.Effects.{Effect}
use Rattle.model.specs.State.{LocalState, got_from}
use Rattle.model.specs.Steps.{ack_of, checked, made, tests}
use Rattle.model.specs.View.{Link, NodeView, ack_tests, all_kept, append_to, appended, kept_of, kept_to, kept_view, kept_with, is_other, let_go, link_to, no_link, trimmed, used, view_act, view_after}
use Rattle.model.proofs.Leaving.{act-leaves}
use Rattle.model.proofs.Lookups.{at_set_if, map-set_same}
use Rattle.model.proofs.Shown.{ack-done, view-ok}
use Rattle.c_handles.specs.Logs.{IsBehind}

-- ---- links that differ in what counts as saved

all-used : (ls : List Link) → map used (map all_kept ls) ≡ map used ls
all-used ls = map-map used all_kept ls

same-used : (ls ks : List Link) → map all_kept ls ≡ map all_kept ks → map used ls ≡ map used ks
same-used ls ks same = sym (all-used ls) ∙ ap (map used) same ∙ all-used ks

-- a change of one link that heeds nothing but the messages
same-set : (g : Link → Link) → ((l : Link) → all_kept (g l) ≡ all_kept (g (all_kept l)))
    → (ls ks : List Link) (i : ℕ) → map all_kept ls ≡ map all_kept ks
    → map all_kept (set ls i (g (get_or ls i no_link)))
    ≡ map all_kept (set ks i (g (get_or ks i no_link)))
same-set g heeds ls ks i same =
    over ls ∙ ap (λ (l : List Link). set l i (all_kept (g (get_or l i no_link)))) same
    ∙ sym (over ks)
  where
    over : (l : List Link) → map all_kept (set l i (g (get_or l i no_link)))
        ≡ set (map all_kept l) i (all_kept (g (get_or (map all_kept l) i no_link)))
    over l =
        map-set all_kept l i (g (get_or l i no_link))
        ∙ ap (set (map all_kept l) i)
        (heeds (get_or l i no_link)
        ∙ ap (λ (z : Link). all_kept (g z)) (sym (get_or-map all_kept l i no_link)))

same-let_go : (o : Option Ack) (ls ks : List Link) → map all_kept ls ≡ map all_kept ks
    → map all_kept (let_go ls o) ≡ map all_kept (let_go ks o)
same-let_go None ls ks same = same
same-let_go (Some a) ls ks same =
    same-set (λ l. trimmed l a.number) (λ l. refl) ls ks a.by same

same-appended : (ms : List (ℕ × Message)) (ls ks : List Link) → map all_kept ls ≡ map all_kept ks
    → map all_kept (append_to ls ms) ≡ map all_kept (append_to ks ms)
same-appended [] ls ks same = same
same-appended (m ∷ ms) ls ks same =
    same-appended ms (set ls m.0 (appended (get_or ls m.0 no_link) m.1))
    (set ks m.0 (appended (get_or ks m.0 no_link) m.1))
    (same-set (λ l. appended l m.1) (λ l. refl) ls ks m.0 same)

-- ---- an event

-- an acknowledgement that is answered is of released messages
released : (n new : NodeView) (e : Event) (x : Answer) → view_act n e ≡ Ok (new, x) → (a : Ack)
    → ack_of e ≡ Some a → a.number ≤ (link_to n a.by).kept
released n new (event.Ack b) x h a is =
    let same : b ≡ a = cc in
    subst (λ (c : Ack). c.number ≤ (link_to n c.by).kept) same (ack-done n new b x h).0
released n new e x h a is = absurd cc

module _ (n m : NodeView) (behind : IsBehind n m) where
  locals : n.local ≡ m.local
  locals = ap (λ (v : NodeView). v.local) behind.same

  links : map all_kept n.links ≡ map all_kept m.links
  links = ap (λ (v : NodeView). v.links) behind.same

  same-tests : (o : Option Ack)
      → ((a : Ack) → o ≡ Some a → a.number ≤ (link_to n a.by).kept)
      → ack_tests n o ≡ ack_tests m o
  same-tests None here = refl
  same-tests (Some a) here =
      ap (λ (b : Bool). (b, AckBeyond) ∷ [])
      (le-leb _ _ (here a refl)
      ∙ sym (le-leb _ _ (le_trans (here a refl) (behind.less a.by))))

  -- the same effect
  same-effect : (e : Event)
      → ((a : Ack) → ack_of e ≡ Some a → a.number ≤ (link_to n a.by).kept)
      → checked (tests m.local e ++ ack_tests m (ack_of e)) (map used m.links)
      (made m.local (map used m.links) e)
      ≡ checked (tests n.local e ++ ack_tests n (ack_of e)) (map used n.links)
      (made n.local (map used n.links) e)
  same-effect e here =
      sym (ap (λ (p : LocalState).
      checked (tests p e ++ ack_tests n (ack_of e)) (map used n.links)
      (made p (map used n.links) e)) locals
      ∙ ap (λ (t : List (Bool × Refusal)).
      checked (tests m.local e ++ t) (map used n.links) (made m.local (map used n.links) e))
      (same-tests (ack_of e) here)
      ∙ ap (λ (counts : List ℕ).
      checked (tests m.local e ++ ack_tests m (ack_of e)) counts (made m.local counts e))
      (same-used n.links m.links links))

-- what no event changes
kept-same : (n new : NodeView) (e : Event) (a : Answer) → view_act n e ≡ Ok (new, a) → (i : ℕ)
    → (link_to new i).kept ≡ (link_to n i).kept
kept-same n new e a h i =
    sym (get_or-map kept_of new.links i no_link)
    ∙ ap (λ (z : List ℕ). get_or z i 0)
    (act-leaves n new e (Ok a) (record { performs = h; unchanged = tt })).kept
    ∙ get_or-map kept_of n.links i no_link

-- the other node does this too
pub record Also (new m : NodeView) (e : Event) (a : Answer) : Type 0 where
  pub after : NodeView
  pub acts : view_act m e ≡ Ok (after, a)
  pub behind : IsBehind new after
  pub kept : (i : ℕ) → (link_to after i).kept ≡ (link_to m i).kept

pub also : (n new m : NodeView) (e : Event) (a : Answer) → IsBehind n m
    → view_act n e ≡ Ok (new, a) → Also new m e a
unfolding view_act
also n new m e a behind h =
    let here = released n new e a h in
    let found = view-ok n new (let_go n.links (ack_of e)) _ a h in
    let x : Effect = found.0 in
    let after : NodeView = record m {
      local = x.local;
      links = append_to (let_go m.links (ack_of e)) x.sends;
    } in
    let acts : view_act m e ≡ Ok (after, a) =
    ap (view_after m (let_go m.links (ack_of e))) (same-effect n m behind e here ∙ found.1)
    ∙ ap (λ (b : Answer). Ok (after, b)) (sym found.3) in
    let kept = kept-same m after e a acts in
    record {
      after = after;
      acts = acts;
      behind = record {
        same = ap kept_view found.2
            ∙ ap (λ (ls : List Link).
            record { local = x.local; links = ls; acks = x.local.got })
            (same-appended x.sends (let_go n.links (ack_of e)) (let_go m.links (ack_of e))
            (same-let_go (ack_of e) n.links m.links (links n m behind)));
        less = λ i. omega (arith, kept-same n new e a h i, kept i, behind.less i);
      };
      kept = kept;
    }

-- ---- more counts as saved

-- what the other node counts as saved too
pub behind_kept : (n m : NodeView) (peer sent received : ℕ) → sent ≤ (link_to m peer).kept
    → IsBehind n m → IsBehind (kept_with peer sent received n) m
behind_kept n m peer sent received saved behind =
    cond_both (is_other n.local peer)
    (record n {
      links = set n.links peer (kept_to sent (link_to n peer));
      acks = set n.acks peer
          (max (get_or n.acks peer 0) (min received (got_from n.local peer)));
    })
    n (λ (v : NodeView). IsBehind v m)
    (λ _.
    record {
      same = ap (λ (ls : List Link). record { local = n.local; links = ls; acks = n.local.got })
          (map-set_same all_kept n.links peer (kept_to sent (link_to n peer)) no_link refl)
          ∙ behind.same;
      less = λ i.
          at_set_if (λ (l : Link). l.kept ≤ (link_to m i).kept) n.links peer i
          (kept_to sent (link_to n peer)) no_link
          (λ here.
          subst (λ j. (kept_to sent (link_to n peer)).kept ≤ (link_to m j).kept) here
          (max-le (behind.less peer)
          (le_trans (min-le_left sent (used (link_to n peer))) saved)))
          (behind.less i);
    })
    (λ _. behind)

-- everything counts as saved in the other node
pub behind_all : (n : NodeView) → ((i : ℕ) → (link_to n i).kept ≤ used (link_to n i))
    → IsBehind n (kept_view n)
behind_all n within = record {
  same = ap (λ (ls : List Link). record { local = n.local; links = ls; acks = n.local.got })
      (sym (map-map all_kept all_kept n.links));
  less = λ i.
      omega (arith, within i, ap kept_of (get_or-map all_kept n.links i no_link));
}
