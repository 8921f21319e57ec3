-- What a node counts as acknowledged was acknowledged by a frame that handles gave out.
use Rattle.std.proofs.Common.{◌≡◌, ℕ, zero, suc, ◌<◌, ◌≤◌, ◌==◌, ◌++◌, ◌⊎◌, inl, inr, le_refl, length, length-set, true, List, [], ◌∷◌, get_or, None, Some, Ok, refl, sym, ap, ◌∙◌, subst, ⊎_elim, arith, eqb-true}
use Rattle.std.specs.Prelude.{nat_le, Bool}
use Rattle.ids.specs.declared.refusal.Refusal.{Refusal}
use Rattle.ids.specs.declared.refusal.Refusal.TheVariants.{AckBeyond, LinkSpent, WrongNode}
use Rattle.std.proofs.Math.ListN.{get_or-map}
use Rattle.std.proofs.lemmas.List.{length-map}
use Rattle.std.proofs.lemmas.Bool.{and_parts, cases_lt, cond_both}
use Rattle.msg.specs.Frames.{Plain, ack_frame, plain_ack}
use Rattle.msg.specs.declared.frame.Ack.{Ack}
use Rattle.model.specs.declared.event.Answer.{Answer}
use Rattle.model.specs.declared.event.Answer.TheVariants as answer
use Rattle.model.specs.Checks.{guarded}
use Rattle.model.specs.Effects.{unchanged}
use Rattle.model.specs.declared.event.Event.{Event}
use Rattle.model.specs.declared.event.Event.TheVariants as event
use Rattle.model.specs.Cuts.{Among}
use Rattle.model.specs.Steps.{ack_of, is_addressed}
use Rattle.model.specs.View.{Leaves, Link, NodeView, all_kept, base_of, is_other, kept_to, kept_view, kept_with, kept_of, let_go, link_to, no_link, trimmed, view_act}
use Rattle.model.proofs.Checks.{guarded-passes}
use Rattle.model.proofs.Lookups.{at_set_if}
use Rattle.model.proofs.Shown.{ack-done, view-ok}
use Rattle.node.specs.Keeping.{WholeNode}
use Rattle.laws.proofs.Lookups.{among-append_left}
use Rattle.c_handles.specs.Images.{keeps, keeps_below}
use Rattle.c_handles.specs.Logs.{no_counts}
use Rattle.c_handles.specs.declared.lone.images.Counts.{Counts}

pub data IsAcked (frames : List Plain) (own from base : ℕ) : Type 0 where
  none_yet : base ≡ 0 → IsAcked frames own from base
  by_frame : (number : ℕ) → base ≤ number → Among (ack_frame from own number) frames
      → IsAcked frames own from base

-- The node counts an acknowledgement for each of its links.
pub record AreAcked (frames : List Plain) (n : NodeView) : Type 0 where
  pub each : (j : ℕ) → IsAcked frames n.local.own j (link_to n j).base
  pub wide : length n.acks ≡ length n.links

pub acked-more : (frames given : List Plain) (n : NodeView) → AreAcked frames n
    → AreAcked (frames ++ given) n
acked-more frames given n all =
    record { each = λ j. by j (all.each j); wide = all.wide }
  where
    by : (j : ℕ) → IsAcked frames n.local.own j (link_to n j).base
        → IsAcked (frames ++ given) n.local.own j (link_to n j).base
    by j (none_yet is) = none_yet is
    by j (by_frame number le among) =
        by_frame number le (among-append_left (ack_frame j n.local.own number) frames given among)

same-bases : {frames : List Plain} (n m : NodeView) → m.local.own ≡ n.local.own
    → ((j : ℕ) → (link_to m j).base ≡ (link_to n j).base) → length m.acks ≡ length m.links
    → AreAcked frames n → AreAcked frames m
same-bases {frames} n m own same wide all = record {
  each = λ j.
      subst (λ (k : ℕ). IsAcked frames k j (link_to m j).base) (sym own)
      (subst (IsAcked frames n.local.own j) (sym (same j)) (all.each j));
  wide = wide;
}

-- ---- events

-- the bases stay, unless the event is an acknowledgement
pub left-bases : {n m : NodeView} {e : Event} → Leaves n m e → ack_of e ≡ None → (j : ℕ)
    → (link_to m j).base ≡ (link_to n j).base
left-bases {n = n} {m = m} leaves none j =
    sym (get_or-map base_of m.links j no_link)
    ∙ ap (λ (l : List ℕ). get_or l j 0) (leaves.bases none)
    ∙ get_or-map base_of n.links j no_link

pub left-acked : {frames : List Plain} {n m : NodeView} {e : Event} → Leaves n m e
    → ack_of e ≡ None → AreAcked frames n → AreAcked frames m
left-acked {n = n} {m = m} leaves none all =
    same-bases n m leaves.own (left-bases leaves none)
    (ap (λ (l : List ℕ). length l) leaves.acks ∙ all.wide
    ∙ sym (length-map n.links kept_of) ∙ ap (λ (l : List ℕ). length l) (sym leaves.kept)
    ∙ length-map m.links kept_of)
    all

-- An acknowledgement moves the base on, to its number at most.
trimmed-base : (l : Link) (number : ℕ) → (l.base ≤ (trimmed l number).base)
    × (((trimmed l number).base ≡ l.base) ⊎ ((trimmed l number).base ≤ number))
trimmed-base l number = (
  omega arith,
  ⊎_elim {C = ((trimmed l number).base ≡ l.base) ⊎ ((trimmed l number).base ≤ number)}
      (λ (more : l.base < number). inr (omega (arith, more)))
      (λ (none : number ≤ l.base). inl (omega (arith, none)))
      (cases_lt l.base number),
)

pub ack-bases : (n new : NodeView) (a : Ack) (x : Answer) → view_act n (event.Ack a) ≡ Ok (new, x)
    → (j : ℕ) → (link_to n j).base ≤ (link_to new j).base
ack-bases n new a x h j =
    subst (λ (z : NodeView). (link_to n j).base ≤ (link_to z j).base) (sym (ack-done n new a x h).1)
    (at_set_if (λ (z : Link). (link_to n j).base ≤ z.base) n.links a.by j
    (trimmed (link_to n a.by) a.number) no_link
    (λ (here : a.by ≡ j).
    subst (λ (k : ℕ). (link_to n k).base ≤ (trimmed (link_to n a.by) a.number).base) here
    (trimmed-base (link_to n a.by) a.number).0)
    (le_refl _))

-- the acknowledgement names the node
pub ack-own : (n new : NodeView) (a : Ack) (x : Answer) → view_act n (event.Ack a) ≡ Ok (new, x)
    → a.of ≡ n.local.own
unfolding view_act
ack-own n new a x h =
    let ts : List (Bool × Refusal) =
    (is_addressed n.local a.by a.of, WrongNode)
    ∷ (nat_le a.number (link_to n a.by).kept, AckBeyond) ∷ (true, LinkSpent) ∷ [] in
    let found =
    view-ok n new (let_go n.links (Some a)) (guarded ts (unchanged n.local answer.Done)) x h in
    let passed = guarded-passes ts (unchanged n.local answer.Done) found.0 found.1 in
    eqb-true a.of n.local.own (and_parts (a.of == n.local.own) _ passed.0).0

pub ack-acked : {frames : List Plain} (n new : NodeView) (a : Ack) (x : Answer)
    → view_act n (event.Ack a) ≡ Ok (new, x) → Among (plain_ack a) frames → AreAcked frames n
    → AreAcked frames new
ack-acked {frames} n new a x h among all =
    let own : ℕ = n.local.own in
    let l : Link = link_to n a.by in
    subst (AreAcked frames) (sym (ack-done n new a x h).1)
    (record {
      each = λ j.
          at_set_if (λ (z : Link). IsAcked frames own j z.base) n.links a.by j (trimmed l a.number)
          no_link
          (λ (here : a.by ≡ j).
          let there : Among (ack_frame j own a.number) frames =
          subst (λ (k : ℕ). Among (ack_frame k own a.number) frames) here
          (subst (λ (k : ℕ). Among (ack_frame a.by k a.number) frames) (ack-own n new a x h) among)
          in
          let before : IsAcked frames own j l.base =
          subst (λ (k : ℕ). IsAcked frames own j (link_to n k).base) (sym here) (all.each j) in
          ⊎_elim {C = IsAcked frames own j (trimmed l a.number).base}
          (λ same. subst (IsAcked frames own j) (sym same) before)
          (λ le. by_frame a.number le there)
          (trimmed-base l a.number).1)
          (all.each j);
      wide = all.wide ∙ sym (length-set n.links a.by (trimmed l a.number));
    })

-- ---- what counts as saved

-- everything
pub kept-acked : {frames : List Plain} (n : NodeView) → length n.local.got ≡ length n.links
    → AreAcked frames n → AreAcked frames (kept_view n)
kept-acked n wide all =
    same-bases n (kept_view n) refl
    (λ j. ap base_of (get_or-map all_kept n.links j no_link))
    (wide ∙ sym (length-map n.links all_kept)) all

-- more than before
with-acked : {frames : List Plain} (peer sent received : ℕ) (n : NodeView) → AreAcked frames n
    → AreAcked frames (kept_with peer sent received n)
with-acked {frames} peer sent received n all =
    cond_both (is_other n.local peer) _ n (AreAcked frames)
    (λ _. record {
      each = λ j.
          at_set_if (λ (z : Link). IsAcked frames n.local.own j z.base) n.links peer j
          (kept_to sent (link_to n peer)) no_link
          (λ (here : peer ≡ j).
          subst (λ (k : ℕ). IsAcked frames n.local.own j (link_to n k).base) (sym here)
          (all.each j))
          (all.each j);
      wide = length-set n.acks peer _ ∙ all.wide
          ∙ sym (length-set n.links peer (kept_to sent (link_to n peer)));
    })
    (λ _. all)

keeps_below-acked : {frames : List Plain} (counts : List Counts) (k : ℕ) (n : WholeNode)
    → AreAcked frames n.core → AreAcked frames (keeps_below counts k n).core
keeps_below-acked counts zero n all = all
keeps_below-acked counts (suc peer) n all =
    with-acked peer (get_or counts peer no_counts).sent (get_or counts peer no_counts).received
    (keeps_below counts peer n).core (keeps_below-acked counts peer n all)

pub keeps-acked : {frames : List Plain} (counts : List Counts) (n : WholeNode)
    → AreAcked frames n.core → AreAcked frames (keeps counts n).core
unfolding keeps
keeps-acked counts n all = keeps_below-acked counts (length n.core.links) n all
