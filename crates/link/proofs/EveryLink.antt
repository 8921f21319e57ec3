-- Each change of the links of a node preserves what holds of all of them.
use Rattle.std.proofs.Common.{◌≡◌, ℕ, zero, suc, List, [], ◌∷◌, refl, ap, ◌+◌, ◌<◌, ◌≤◌, ◌^◌, get_or, set, sym, ◌∙◌, subst, le_refl, arith}
use Rattle.std.specs.Prelude.{min, max}
use Rattle.std.proofs.lemmas.List.{length-set, length-map, length-replicate}
use Rattle.std.proofs.Math.ListN.{get_or-map}
use Rattle.std.proofs.Math.Nat.{max-le, min-le_right}
use Rattle.ids.specs.declared.limits.TheConstants.{GREATEST_NUMBER}
use Rattle.msg.specs.declared.body.Message.{Message}
use Rattle.model.specs.View.{Link, no_link, used, append_to, retracted, all_kept, kept_to}
use Rattle.model.proofs.Lookups.{at_set, at_set_if, get_or-replicate_any}
use Rattle.link_ends.specs.Senders.{IsLink}
use Rattle.link.specs.Links.{LinksView, IsLinks, new_links, got_at, ack_at, appended_to, retracted_to, taken_next_from, kept_links, kept_peer}
use Rattle.link.proofs.OneLink.{link-none, link-kept, link-kept_to, retracted-appended}

pub links-new : (width : ℕ) → width < 2 ^ 8 → IsLinks (new_links width)
links-new width few =
    let wide = length-replicate width no_link in
    let same = length-replicate {A = ℕ} width 0 ∙ sym wide in
    record {
      width = omega (arith, few, wide);
      received = same;
      acked = same;
      links = λ i. subst IsLink (sym (get_or-replicate_any width i no_link)) link-none;
      numbers = λ i. omega (arith, get_or-replicate_any {A = ℕ} width i 0);
      acks = λ i. le_refl _;
    }

-- one link is changed
pub links-set : (v : LinksView) (to : ℕ) (l : Link) → IsLinks v → IsLink l →
    IsLinks (record v { links = set v.links to l })
links-set v to l old here =
    let same = length-set v.links to l in
    record {
      width = omega (arith, same, old.width);
      received = omega (arith, same, old.received);
      acked = omega (arith, same, old.acked);
      links = λ i. at_set IsLink v.links to i l no_link here (old.links i);
      numbers = old.numbers;
      acks = old.acks;
    }

pub links-taken : (v : LinksView) (from : ℕ) → IsLinks v → got_at v from < GREATEST_NUMBER →
    IsLinks (taken_next_from v from)
links-taken v from old room =
    let next = got_at v from + 1 in
    let within : next ≤ GREATEST_NUMBER = omega (arith, room) in
    let above : ack_at v from ≤ next = omega (arith, old.acks from) in
    record {
      width = old.width;
      received = omega (arith, length-set v.got from next, old.received);
      acked = old.acked;
      links = old.links;
      numbers = λ i. at_set (λ (k : ℕ). k ≤ GREATEST_NUMBER) v.got from i next 0
          within
          (old.numbers i);
      acks = λ i. at_set_if (λ (k : ℕ). ack_at v i ≤ k) v.got from i next 0
          (λ (same : from ≡ i). subst (λ (j : ℕ). ack_at v j ≤ next) same above)
          (old.acks i);
    }

pub links-kept : (v : LinksView) → IsLinks v → IsLinks (kept_links v)
links-kept v old =
    let same = length-map v.links all_kept in
    record {
      width = omega (arith, same, old.width);
      received = omega (arith, same, old.received);
      acked = omega (arith, same, old.received);
      links = λ i. subst IsLink (sym (get_or-map all_kept v.links i no_link))
          (link-kept _ (old.links i));
      numbers = old.numbers;
      acks = λ i. le_refl _;
    }

pub links-kept_peer : (v : LinksView) (peer sent received : ℕ) → IsLinks v
    → IsLinks (kept_peer v peer sent received)
links-kept_peer v peer sent received old =
    let l : Link = kept_to sent (get_or v.links peer no_link) in
    let acked : ℕ = max (ack_at v peer) (min received (got_at v peer)) in
    let within : acked ≤ got_at v peer = max-le (old.acks peer) (min-le_right received _) in
    let same = length-set v.links peer l in
    record {
      width = omega (arith, same, old.width);
      received = omega (arith, same, old.received);
      acked = omega (arith, same, length-set v.acks peer acked, old.acked);
      links = λ i. at_set IsLink v.links peer i l no_link
          (link-kept_to _ sent (old.links peer)) (old.links i);
      numbers = old.numbers;
      acks = λ i. at_set_if (λ (k : ℕ). k ≤ got_at v i) v.acks peer i acked 0
          (λ (here : peer ≡ i). subst (λ (j : ℕ). acked ≤ got_at v j) here within)
          (old.acks i);
    }

-- the message that was appended last is retracted
pub retracted-append_to : (links : List Link) (to : ℕ) (x : Message) →
    (get_or links to no_link).kept ≤ used (get_or links to no_link) →
    let sent = append_to links ((to, x) ∷ []) in
    set sent to (retracted (get_or sent to no_link)) ≡ links
retracted-append_to [] to x h = refl
retracted-append_to (l ∷ ls) zero x h = ap (λ (z : Link). z ∷ ls) (retracted-appended l x h)
retracted-append_to (l ∷ ls) (suc to) x h =
    ap (λ (zs : List Link). l ∷ zs) (retracted-append_to ls to x h)

pub retracted_to-appended_to : (v : LinksView) (to : ℕ) (x : Message) → IsLinks v →
    retracted_to (appended_to v to x) to ≡ v
retracted_to-appended_to v to x old =
    let same = retracted-append_to v.links to x (old.links to).kept in
    ap (λ (ls : List Link). record v { links = ls }) same
