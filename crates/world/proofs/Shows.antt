-- What a space shows after one of its sites has changed.
use Rattle.std.proofs.Common.{◌≡◌, ◌≢◌, ℕ, ◌+◌, ◌-◌, ◌<◌, ◌≤◌, List, [], length, get_or, set, slice_get, Option, Some, None, Ok, refl, ap, sym, ◌∙◌, subst, ⊎_elim, le_trans, le_refl, arith}
use Rattle.std.proofs.lemmas.Bool.{cases_eq, cases_lt, lt-leb, cond-false}
use Rattle.std.proofs.lemmas.List.{length-set, length-map, length-drop, set-get_or, get_or-set_same, get_or-set_other}
use Rattle.std.proofs.lemmas.Option.{slice_get-get_or, slice_get_past}
use Rattle.msg.specs.declared.body.Message.{Message}
use Rattle.msg.specs.declared.frame.Ack.{Ack}
use Rattle.model.specs.declared.event.Event.{Event}
use Rattle.model.specs.declared.step.Step.{Step}
use Rattle.model.specs.declared.step.Outcome.{Outcome}
use Rattle.model.specs.State.{LocalState, NodeState, node_at, no_node, got_from, sent_to}
use Rattle.model.specs.View.{Link, NodeView, Shows, ShowsSent, Leaves, link_to, used, all_kept, kept_view, message_of, kept_of}
use Rattle.model.specs.World.{World, KeepsSent, acknowledged, take_step, happens, world_after}
use Rattle.model.proofs.Lookups.{slice_get-take, slice_get-drop}
use Rattle.laws.proofs.KeepsSent.{keeps-sent}
use Rattle.laws.proofs.Lookups.{Grows, slice_get-grows}
use Rattle.node.specs.Invariant.{IsNode}
use Rattle.world.specs.Outboxes.{IsFrameOf, AreStaged, IsStaged}
use Rattle.world.specs.Sites.{SiteView, Saves, bases, bases_acked}
use Rattle.world.specs.Shows.{ShowsNode, ShowsSite, ShowsWorld, no_site, site_at}
use Rattle.world.proofs.SiteLemmas.{IsAckWithin, link-same, kept-link, bases-within, base-at}

-- ---- events

-- the node after an event, with a state that it shows
pub node-moved : {B : ℕ → ℕ} {n m : NodeView} {e : Event} {saved s t : NodeState} (o : Option Ack)
    → ShowsNode saved B n s → Leaves n m e → Shows m t → bases m ≡ bases_acked (bases n) o
    → IsAckWithin B o → ShowsNode saved B m t
node-moved {B = B} {n = n} {m = m} o h left shown let_go told = record {
  shows = shown;
  counted = λ j. link-same kept_of m n j left.kept ∙ h.counted j;
  acks = left.acks ∙ h.acks;
  keeps = λ j.
      let low = bases-within B (bases n) o j told (λ k. omega (arith, base-at n k, h.keeps k)) in
      omega (arith, base-at m j, ap (λ z. get_or z j 0) let_go, low);
}

-- ---- saves

-- counting all messages as saved changes nothing else
kept-sent : (l : Link) (sent : List Message) → ShowsSent l sent → ShowsSent (all_kept l) sent
kept-sent l sent h = record { within = h.within; unacknowledged = h.unacknowledged }

-- the link has appended as many messages as the state has sent
sent-used : (l : Link) (sent : List Message) → ShowsSent l sent → used l ≡ length sent
sent-used l sent h =
    omega (arith, h.within, ap length h.unacknowledged, length-drop l.base sent)

-- after a save, the state that is shown is the saved one
node-saved : (B C : ℕ → ℕ) (n : NodeView) {saved s : NodeState} → ShowsNode saved B n s
    → ((j : ℕ) → B j ≤ C j) → ShowsNode s C (kept_view n) s
node-saved B C n {s = s} h more = record {
  shows = record {
    local = h.shows.local;
    width = length-map n.links all_kept ∙ h.shows.width;
    links = λ j. rw (kept-link n j) (kept-sent (link_to n j) (sent_to s j) (h.shows.links j));
  };
  counted = λ j. rw (kept-link n j) (sent-used (link_to n j) (sent_to s j) (h.shows.links j));
  acks = ap (λ (p : LocalState). p.got) h.shows.local;
  keeps = λ j. rw (kept-link n j) (le_trans (h.keeps j) (more j));
}

-- more is acknowledged
node-more : (B C : ℕ → ℕ) {n : NodeView} {saved s : NodeState} → ((j : ℕ) → B j ≤ C j)
    → ShowsNode saved B n s → ShowsNode saved C n s
node-more B C more h = record {
  shows = h.shows;
  counted = h.counted;
  acks = h.acks;
  keeps = λ j. le_trans (h.keeps j) (more j);
}

-- what a node kept under a number is the message of that number
pub message-shown : (l : Link) (sent : List Message) (k : ℕ) → ShowsSent l sent → l.base ≤ k
    → message_of l (k + 1) ≡ slice_get sent k
message-shown l sent k h low =
    let place : k + 1 - l.base - 1 ≡ k - l.base = omega arith in
    let back : l.base + (k - l.base) ≡ k = omega arith in
    cond-false _ None _ (lt-leb (k + 1) l.base (omega arith))
    ∙ ap (slice_get l.unacknowledged) place
    ∙ ap (λ (z : List Message). slice_get z (k - l.base)) h.unacknowledged
    ∙ slice_get-drop sent l.base (k - l.base) ∙ ap (slice_get sent) back

-- each frame is that of its message
abbrev AreFrames : ℕ → ℕ → List Message → List (List ℕ) → Type 0
AreFrames i j sent frames = (k : ℕ) → IsFrameOf i j k (slice_get sent k) (slice_get frames k)

-- also after more messages were appended
module _ (was now : List Message) (grown : Grows was now) where
  saved-frames : {n : NodeView} {j : ℕ} {before after : List (List ℕ)} → IsStaged n j before after
      → ShowsSent (link_to n j) now → AreFrames n.local.own j was before
      → AreFrames n.local.own j now after
  saved-frames {n = n} {j = j} {before = before} {after = after} staged shown old k =
      let own : ℕ = n.local.own in
      let frames : AreStaged n j before after = staged.frames in
      let long : length now ≤ length after = omega (arith, staged.all, sent-used _ now shown) in
      ⊎_elim
      (λ (less : k < length before).
      let there = slice_get-get_or before k [] less in
      let front = slice_get-take after (length before) k (rw frames.old less) in
      rw (front, frames.old, there) (still (slice_get was k) refl (rw there at (old k))))
      (⊎_elim
      (λ (less : k < length after) (above : length before ≤ k).
      rw (message-shown _ now k shown (le_trans frames.kept above)) at (frames.new k above less))
      (λ (past : length after ≤ k) (_ : length before ≤ k).
      rw (slice_get_past after k past, slice_get_past now k (le_trans long past)) tt)
      (cases_lt k (length after)))
      (cases_lt k (length before))
    where
      still : (x : Option Message) → slice_get was k ≡ x
          → IsFrameOf n.local.own j k x (Some (get_or before k []))
          → IsFrameOf n.local.own j k (slice_get now k) (Some (get_or before k []))
      still None is h = absurd h
      still (Some x) is h = rw (slice_get-grows was now k x grown is) h

-- ---- the space as a whole

-- The site of node i changes, from q to p; m is the space after it.
pub record Changes (n m : List SiteView) (i : ℕ) (q p : SiteView) : Type 0 where
  pub within : i < length n
  pub old : q ≡ site_at n i
  pub new : m ≡ set n i p

-- what holds of the element written, and of all others
module _ {A : Type 0} (P : ℕ → A → Type 0) (xs : List A) {i : ℕ} (x d : A)
    (less : i < length xs) where
  at_each : P i x → (k : ℕ) → (k ≢ i → P k (get_or xs k d)) → P k (get_or (set xs i x) k d)
  at_each here k there =
      ⊎_elim (λ (same : k ≡ i). rw (same, get_or-set_same xs i x d less) here)
      (λ (other : k ≢ i). rw (get_or-set_other xs i k x d other) (there other)) (cases_eq k i)

-- if the definitions answer a step, it leads to the space that `happens` gives
grown-by : (w v : World) (s : Step) (o : Outcome) → KeepsSent w → take_step w s ≡ Ok (v, o)
    → KeepsSent v
grown-by w v s o h e =
    let same : happens w s ≡ v = ap (world_after w) e in
    subst KeepsSent same (keeps-sent w s h)

-- the saved states after a save of node i
abbrev pub saved_after : World → ℕ → World
saved_after w i = record w { saved = set w.saved i (node_at w.current i) }

module _ {n m : List SiteView} {i : ℕ} {q p : SiteView} (c : Changes n m i q p) where
  pub unchanged-sites : p ≡ q → m ≡ n
  unchanged-sites same = c.new ∙ ap (set n i) (same ∙ c.old) ∙ set-get_or n i no_site

  shows-changed : (w v : World) → ShowsWorld n w → length v.current ≡ length w.current → KeepsSent v
      → ShowsSite v i p → ((k : ℕ) → k ≢ i → ShowsSite w k (site_at n k)
      → ShowsSite v k (site_at n k)) → ShowsWorld m v
  shows-changed w v h same grown here there = record {
    width = ap length c.new ∙ length-set n i p ∙ h.width ∙ sym same;
    grown = grown;
    each = λ k.
        rw c.new
        (at_each (ShowsSite v) n p no_site c.within here k (λ other. there k other (h.each k)));
  }

  -- one node's current state changes
  pub shows-moved : {w : World} {t : NodeState} (s : Step) (o : Outcome) → ShowsWorld n w
      → take_step w s ≡ Ok (record w { current = set w.current i t }, o)
      → p ≡ record q { current = p.current }
      → ShowsNode (node_at w.saved i) (acknowledged w i) p.current t
      → ShowsWorld m (record w { current = set w.current i t })
  shows-moved {w = w} {t = t} s o h stepped same shown =
      let v : World = record w { current = set w.current i t } in
      let old : ShowsSite w i q = rw c.old (h.each i) in
      let less : i < length w.current = omega (arith, c.within, h.width) in
      shows-changed w v h (length-set w.current i t) (grown-by w v s o h.grown stepped)
      (subst (ShowsSite v i) (sym same) (record {
        current = rw (get_or-set_same w.current i t no_node less) shown;
        saved = old.saved;
        released = old.released;
      }))
      (λ k other was. record {
        current = rw (get_or-set_other w.current i k t no_node other) was.current;
        saved = was.saved;
        released = was.released;
      })

  -- the current state is saved
  pub shows-saved : {w : World} (s : Step) (o : Outcome) → ShowsWorld n w
      → take_step w s ≡ Ok (saved_after w i, o) → q.current.local.own ≡ i → Saves q p
      → IsNode q.current → ShowsWorld m (saved_after w i)
  shows-saved {w = w} s o h stepped own saves node =
      let v : World = saved_after w i in
      let t : NodeState = node_at w.current i in
      let old : ShowsSite w i q = rw c.old (h.each i) in
      let less : i < length w.saved = omega (arith, c.within, h.width, h.grown.width) in
      let now : node_at v.saved i ≡ t = get_or-set_same w.saved i t no_node less in
      -- the node has received whatever it acknowledges, so no less is acknowledged than before
      let heard : (k : ℕ) → got_from (node_at w.saved i).local k ≤ got_from t.local k = λ k.
      let acks = ap (λ z. get_or z k 0) old.current.acks in
      let local = ap (λ (x : LocalState). got_from x k) old.current.shows.local in
      omega (arith, acks, node.links.links.acks k, local) in
      let more : (k j : ℕ) → acknowledged w k j ≤ acknowledged v k j = λ k j.
      at_each (λ a (x : NodeState). got_from (node_at w.saved a).local k ≤ got_from x.local k)
      w.saved t no_node less (heard k) j (λ _. le_refl _) in
      let here = node-saved (acknowledged w i) (acknowledged v i) q.current old.current (more i) in
      shows-changed w v h refl (grown-by w v s o h.grown stepped)
      (record {
        current = rw (now, saves.current) here;
        saved = rw (now, saves.saved) here;
        released = λ j k apart.
            let staged = saves.frames j (λ e. apart (sym (e ∙ own))) in
            let frames = saved-frames _ _ (h.grown.sent i j) staged (old.current.shows.links j)
            (λ a. rw own (old.released j a apart)) in
            rw now (rw own at (frames k));
      })
      (λ k other was.
      let same = get_or-set_other w.saved i k t no_node other in
      record {
        current = rw same (node-more _ (acknowledged v k) (more k) was.current);
        saved = rw same (node-more _ (acknowledged v k) (more k) was.saved);
        released = λ j a apart. rw same (was.released j a apart);
      })
