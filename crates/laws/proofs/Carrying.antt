-- A node whose caller carries its frames still shows its states after what happens to it.
use Rattle.std.proofs.Common.{◌≡◌, ℕ, ◌+◌, ◌≤◌, List, length, get_or, set, length-append, length-set, sym, ap, ◌∙◌, subst, arith}
use Rattle.std.specs.Prelude.{max, min}
use Rattle.std.proofs.lemmas.Bool.{cond_both}
use Rattle.std.proofs.lemmas.List.{length-map}
use Rattle.std.proofs.Math.ListN.{get_or-map}
use Rattle.std.proofs.Math.Nat.{le_trans, max-le, min-le_left}
use Rattle.model.specs.declared.event.Event.{Event}
use Rattle.model.specs.State.{LocalState, NodeState, got_from, sent_to}
use Rattle.model.specs.View.{Link, NodeView, Leaves, Shows, ShowsSent, all_kept, is_other, kept_of, kept_to, kept_view, kept_with, link_to, no_link, used}
use Rattle.model.proofs.Lookups.{at_set_if}
use Rattle.model.proofs.Shown.{used_is}
use Rattle.laws.specs.Carried.{IsCarried}
use Rattle.laws.proofs.KeepsSent.{SentMore}
use Rattle.laws.proofs.Net.{HeardMore}

-- it answered an event
pub carried-acted : {saved current s : NodeState} {n m : NodeView} {e : Event}
    → IsCarried saved current n → Leaves n m e → Shows m s → IsCarried saved s m
carried-acted {n = n} {m = m} h leaves shows = record {
  shows = shows;
  sent = λ j.
      let same : (link_to m j).kept ≡ (link_to n j).kept =
      sym (get_or-map kept_of m.links j no_link)
      ∙ ap (λ (ks : List ℕ). get_or ks j 0) leaves.kept
      ∙ get_or-map kept_of n.links j no_link in
      let few = h.sent j in
      omega (arith, same, few);
  received = λ j.
      let same = ap (λ (ks : List ℕ). get_or ks j 0) leaves.acks in
      let few = h.received j in
      omega (arith, same, few);
}

-- its state was saved
pub carried-saved : {saved current : NodeState} {n : NodeView} → SentMore saved current
    → HeardMore saved current → IsCarried saved current n → IsCarried current current n
carried-saved {saved = saved} {current = current} sent heard h = record {
  shows = h.shows;
  sent = λ j.
      let more = sent j in
      let long : length (sent_to current j) ≡ length (sent_to saved j) + length more.0 =
      ap length more.1 ∙ length-append (sent_to saved j) more.0 in
      let few = h.sent j in
      omega (arith, long, few);
  received = λ j. le_trans (h.received j) (heard j);
}

-- ---- everything counts as saved

kept-link : (n : NodeView) (j : ℕ) → link_to (kept_view n) j ≡ all_kept (link_to n j)
kept-link n j = get_or-map all_kept n.links j no_link

-- a node that shows a state still does
pub shows-kept : (n : NodeView) (s : NodeState) → Shows n s → Shows (kept_view n) s
shows-kept n s h = record {
  local = h.local;
  width = length-map n.links all_kept ∙ h.width;
  links = λ j.
      subst (λ (l : Link). ShowsSent l (sent_to s j)) (sym (kept-link n j))
      (record { within = (h.links j).within; unacknowledged = (h.links j).unacknowledged });
}

pub carried-kept : {current : NodeState} {n : NodeView} → Shows n current
    → IsCarried current current (kept_view n)
carried-kept {current = current} {n = n} h = record {
  shows = shows-kept n current h;
  sent = λ j.
      let all = used_is (link_to n j) (sent_to current j) (h.links j) in
      let same : (link_to (kept_view n) j).kept ≡ used (link_to n j) =
      ap kept_of (kept-link n j) in
      omega (arith, all, same);
  received = λ j.
      let same : get_or n.local.got j 0 ≡ got_from current.local j =
      ap (λ (p : LocalState). got_from p j) h.local in
      omega (arith, same);
}

-- a node in which everything does
pub carried-whole : {current : NodeState} {n : NodeView} → kept_view n ≡ n → Shows n current
    → IsCarried current current n
carried-whole {current = current} whole h =
    subst (IsCarried current current) whole (carried-kept h)

-- ---- what was sent to one node, and received from it, counts as saved up to these numbers

pub carried-kept_with : {saved current : NodeState} {n : NodeView} (peer sent received : ℕ)
    → sent ≤ length (sent_to saved peer) → received ≤ got_from saved.local peer
    → IsCarried saved current n → IsCarried saved current (kept_with peer sent received n)
carried-kept_with {saved} {current} {n} peer sent received few heard h =
    let link : Link = kept_to sent (link_to n peer) in
    let ack : ℕ = max (get_or n.acks peer 0) (min received (got_from n.local peer)) in
    cond_both (is_other n.local peer)
    (record n { links = set n.links peer link; acks = set n.acks peer ack })
    n (IsCarried saved current)
    (λ _. record {
      shows = record {
        local = h.shows.local;
        width = length-set n.links peer link ∙ h.shows.width;
        links = λ j.
            at_set_if (λ (l : Link). ShowsSent l (sent_to current j)) n.links peer j link no_link
            (λ here.
            subst (λ (k : ℕ). ShowsSent link (sent_to current k)) here
            (record {
              within = (h.shows.links peer).within;
              unacknowledged = (h.shows.links peer).unacknowledged;
            }))
            (h.shows.links j);
      };
      sent = λ j.
          at_set_if (λ (l : Link). l.kept ≤ length (sent_to saved j)) n.links peer j link no_link
          (λ here.
          subst (λ (k : ℕ). link.kept ≤ length (sent_to saved k)) here
          (max-le (h.sent peer) (le_trans (min-le_left sent (used (link_to n peer))) few)))
          (h.sent j);
      received = λ j.
          at_set_if (λ (k : ℕ). k ≤ got_from saved.local j) n.acks peer j ack 0
          (λ here.
          subst (λ (k : ℕ). ack ≤ got_from saved.local k) here
          (max-le (h.received peer)
          (le_trans (min-le_left received (got_from n.local peer)) heard)))
          (h.received j);
    })
    (λ _. h)
