-- Each change of a node preserves what holds of every node.
use Rattle.std.proofs.Common.{◌≡◌, ◌≢◌, ℕ, ◌+◌, ◌-◌, ◌<◌, ◌≤◌, List, [], ◌∷◌, length, get_or, set, replicate, refl, sym, ◌∙◌, subst, true, arith, le_refl}
use Rattle.std.specs.List.{sum_by}
use Rattle.std.proofs.lemmas.Bool.Decides.{nat_tests}
use Rattle.std.proofs.lemmas.List.{length-set, length-map, length-replicate, get_or-drop}
use Rattle.std.proofs.lemmas.List.Elements.{All-replicate}
use Rattle.std.proofs.lemmas.List.Sums.{sum_by-set}
use Rattle.std.proofs.Math.ListN.{get_or-map}
use Rattle.ids.specs.Limits.{Shaped, IsShape}
use Rattle.msg.specs.declared.body.Body.{Body}
use Rattle.msg.specs.declared.body.Message.{Message}
use Rattle.cycles.specs.Phases.{IsPhases}
use Rattle.model.specs.Counting.{balance_of, counted_down, counted_up, stamped}
use Rattle.model.specs.State.{Heap, Phases, Ring, new_phases}
use Rattle.model.specs.Steps.{is_addressed}
use Rattle.model.specs.View.{Link, NodeView, no_link, trimmed, all_kept, kept_to, new_view, is_other}
use Rattle.model.specs.References.{HoldsOnly, IsWithin, IsSendable, no_message}
use Rattle.model.specs.WellFormed.{IsOther, IsStocked, IsHeld}
use Rattle.model.proofs.Lookups.{at_set, get_or-replicate_any}
use Rattle.model.proofs.Asking.{asked-none, reports-new, timely-new, timely-trimmed, timely-same, timely-kept, timely-taken}
use Rattle.model.proofs.Balances.{down-token, up-token}
use Rattle.model.proofs.References.{holds-new_heap}
use Rattle.model.proofs.Stocks.{stocked-new}
use Rattle.link.specs.Links.{LinksView, IsLinks, announced, appended_to, for_others, taken_next_from, trimmed_to, kept_links, kept_peer, new_links}
use Rattle.remote_marks.specs.Asked.{all_appended}
use Rattle.cycles.specs.Balances.{IsBounded}
use Rattle.cycles.proofs.Bounds.{bounded_down, bounded_more, bounded_new, bounded_up}
use Rattle.node.specs.Invariant.{AreLinked, IsBalanced, IsNode, links_of, number_sum}
use Rattle.node.specs.Taking.{IsSender}
use Rattle.node.proofs.Appended.{MaySend, linked-appended, numbers-appended, one-may, others-may}
use Rattle.node.proofs.Balances.{balance-kept, balance-set, balance-trimmed}

-- a node with this heap and these phases
abbrev pub with_swept : NodeView → Heap → Phases → NodeView
with_swept n h phases = record n { local = record n.local { heap = h; phases = phases } }

-- the phases of a node that has swept this cycle last, and whose cursor is here
abbrev pub moved : ℕ → ℕ → Phases → Phases
moved swept cursor p = record p { swept = swept; cursor = cursor }

-- only the heap changed, and how far it is swept
pub node-moved : (n : NodeView) (h : Heap) {swept cursor : ℕ} → IsNode n
    → HoldsOnly (IsWithin n.local.shape) h
    → IsStocked n.local.shape n.local.own n.local.phases.cycle n.local.phases.ended h
    → IsPhases (moved swept cursor n.local.phases) → cursor ≤ length h.slots
    → IsNode (with_swept n h (moved swept cursor n.local.phases))
node-moved n h old all stocked sound inside = record {
  shape = old.shape;
  own = old.own;
  references = all;
  stocked = stocked;
  asked = old.asked;
  phases = record {
    phases = sound;
    cursor = inside;
    reports = old.phases.reports;
    heard = old.phases.heard;
  };
  token = old.token;
  links = old.links;
  balance = old.balance;
}

-- only the heap changed, and it has no fewer slots
pub node-heap : (n : NodeView) (h : Heap) → IsNode n → HoldsOnly (IsWithin n.local.shape) h
    → IsStocked n.local.shape n.local.own n.local.phases.cycle n.local.phases.ended h
    → length n.local.heap.slots ≤ length h.slots
    → IsNode (record n { local = record n.local { heap = h } })
node-heap n h old all stocked more =
    node-moved n h {swept = n.local.phases.swept} {cursor = n.local.phases.cursor} old all stocked
    old.phases.phases (omega (arith, old.phases.cursor, more))

-- the links and the ring changed
abbrev pub rewired : NodeView → LinksView → Ring → NodeView
rewired n l r =
    record n {
      local = record n.local { got = l.got; ring = r };
      links = l.links;
      acks = l.acks;
    }

pub node-rewired : (n : NodeView) (v : LinksView) (q : Ring) → IsNode n
    → q.token ≡ n.local.ring.token → AreLinked n.local.shape n.local.own n.local.phases.cycle v
    → IsBalanced q v.links v.got → IsNode (rewired n v q)
node-rewired n v q old same linked balance = record {
  shape = old.shape;
  own = old.own;
  references = old.references;
  stocked = old.stocked;
  asked = old.asked;
  phases = old.phases;
  token = subst (IsHeld n.local.phases.cycle n.local.phases.ended) (sym same) old.token;
  links = linked;
  balance = balance;
}

-- ---- links

no_message-sendable : (shape : Shaped) → IsSendable shape no_message
no_message-sendable shape = record { stamp = omega arith; references = tt; place = tt }

module _ (n : NodeView) (old : IsNode n) where
  linked-trimmed : (from number : ℕ) → from ≢ n.local.own
      → IsLinks (trimmed_to (links_of n) from number)
      → AreLinked n.local.shape n.local.own n.local.phases.cycle
      (trimmed_to (links_of n) from number)
  linked-trimmed from number other links = record {
    width = length-set n.links from _ ∙ old.links.width;
    links = links;
    messages = λ i k.
        at_set (λ (z : Link). IsSendable n.local.shape (get_or z.unacknowledged k no_message))
        n.links from i (trimmed (get_or n.links from no_link) number) no_link
        (let link : Link = get_or n.links from no_link in
        subst (IsSendable n.local.shape)
        (sym (get_or-drop (number - link.base) link.unacknowledged k no_message))
        (old.links.messages from (number - link.base + k)))
        (old.links.messages i k);
    timely = timely-trimmed old.links.timely from number other;
  }

  linked-kept_peer : (peer sent received : ℕ) → peer ≢ n.local.own
      → IsLinks (kept_peer (links_of n) peer sent received)
      → AreLinked n.local.shape n.local.own n.local.phases.cycle
      (kept_peer (links_of n) peer sent received)
  linked-kept_peer peer sent received other links =
      let l : Link = kept_to sent (get_or n.links peer no_link) in
      record {
        width = length-set n.links peer l ∙ old.links.width;
        links = links;
        messages = λ i k.
            at_set (λ (z : Link). IsSendable n.local.shape (get_or z.unacknowledged k no_message))
            n.links peer i l no_link (old.links.messages peer k) (old.links.messages i k);
        timely = timely-same old.links.timely peer l other refl;
      }

  linked-kept : IsLinks (kept_links (links_of n))
      → AreLinked n.local.shape n.local.own n.local.phases.cycle (kept_links (links_of n))
  linked-kept links = record {
    width = length-map n.links all_kept ∙ old.links.width;
    links = links;
    messages = λ i k.
        subst (λ (z : Link). IsSendable n.local.shape (get_or z.unacknowledged k no_message))
        (sym (get_or-map all_kept n.links i no_link)) (old.links.messages i k);
    timely = timely-kept old.links.timely;
  }

other-from : (n : NodeView) (i : ℕ) → is_other n.local i ≡ true
    → IsOther n.local.shape n.local.own i
other-from n i h = grind (arith, nat_tests, h)

-- a frame that is addressed to the node comes from another node of the shape
addressed-from : (n : NodeView) (from to : ℕ) → is_addressed n.local from to ≡ true
    → IsOther n.local.shape n.local.own from
addressed-from n from to h = grind (arith, nat_tests, h)

-- ---- the node

-- a message was appended, and counted
pub node-sent : (n : NodeView) (to : ℕ) (b : Body) → IsNode n → to < n.local.shape.nodes
    → to ≢ n.local.own → IsSendable n.local.shape (stamped n.local b)
    → IsLinks (appended_to (links_of n) to (stamped n.local b))
    → IsNode (rewired n (appended_to (links_of n) to (stamped n.local b))
    (counted_up (balance_of n.local.phases.cycle n.local.phases.cycle b) n.local.ring))
node-sent n to b old there other sendable links =
    let s : Shaped = n.local.shape in
    let own : ℕ = n.local.own in
    let cycle : ℕ = n.local.phases.cycle in
    let x : Message = stamped n.local b in
    let k = balance_of cycle cycle b in
    let may = one-may s own cycle to x (there, other) sendable (le_refl cycle) in
    node-rewired n (appended_to (links_of n) to x) (counted_up k n.local.ring) old
    (up-token k n.local.ring)
    (linked-appended s own cycle (links_of n) ((to, x) ∷ []) old.links may links)
    (subst (λ (most : ℕ). IsBounded most (counted_up k n.local.ring))
    (sym (numbers-appended s own cycle (links_of n) ((to, x) ∷ []) old.links may))
    (bounded_up (number_sum n.links n.local.got) k n.local.ring old.balance))

-- messages were acknowledged
pub node-trimmed : (n : NodeView) (from to number : ℕ) → IsNode n
    → is_addressed n.local from to ≡ true → IsLinks (trimmed_to (links_of n) from number)
    → IsNode (rewired n (trimmed_to (links_of n) from number) n.local.ring)
node-trimmed n from to number old addressed links =
    let there = addressed-from n from to addressed in
    let inside : from < length n.links = omega (arith, there.0, old.links.width) in
    node-rewired n (trimmed_to (links_of n) from number) n.local.ring old refl
    (linked-trimmed n old from number there.1 links)
    (balance-trimmed n.local.ring n.links n.local.got from number old.balance inside)

-- the same message was appended for all others
pub node-told : (n : NodeView) (b : Body) → IsNode n
    → IsSendable n.local.shape (stamped n.local b)
    → IsLinks (announced (links_of n) n.local.own (stamped n.local b))
    → IsNode (rewired n (announced (links_of n) n.local.own (stamped n.local b)) n.local.ring)
node-told n b old sendable links =
    let s : Shaped = n.local.shape in
    let own : ℕ = n.local.own in
    let cycle : ℕ = n.local.phases.cycle in
    let x : Message = stamped n.local b in
    let ms : List (ℕ × Message) = for_others own x (length n.links) in
    let may = subst (λ (k : ℕ). MaySend s own cycle (for_others own x k)) (sym old.links.width)
    (others-may s own cycle x sendable (le_refl cycle)) in
    let more = numbers-appended s own cycle (links_of n) ms old.links may in
    node-rewired n (all_appended (links_of n) ms) n.local.ring old refl
    (linked-appended s own cycle (links_of n) ms old.links may links)
    (bounded_more _ _ n.local.ring (omega (arith, more)) old.balance)

-- the next message from a node was received
pub node-counted : (n : NodeView) (from stamp : ℕ) (b : Body) → IsNode n → IsSender n.local from
    → IsLinks (taken_next_from (links_of n) from)
    → IsNode (rewired n (taken_next_from (links_of n) from)
    (counted_down (balance_of n.local.phases.cycle stamp b) n.local.ring))
node-counted n from stamp b old sender links =
    let k = balance_of n.local.phases.cycle stamp b in
    let got = n.local.got in
    let most : ℕ = number_sum n.links got in
    let inside : from < length got =
    omega (arith, sender.there, old.links.width, old.links.links.received) in
    let more : sum_by (λ (j : ℕ). j) (set got from (get_or got from 0 + 1)) + get_or got from 0
    ≡ sum_by (λ (j : ℕ). j) got + (get_or got from 0 + 1) =
    sum_by-set (λ (j : ℕ). j) got from (get_or got from 0 + 1) 0 inside in
    node-rewired n (taken_next_from (links_of n) from) (counted_down k n.local.ring) old
    (down-token k n.local.ring)
    (record {
      width = old.links.width;
      links = links;
      messages = old.links.messages;
      timely = timely-taken old.links.timely from (get_or got from 0 + 1) sender.other;
    })
    (bounded_more (most + 1) _ (counted_down k n.local.ring) (omega (arith, more))
    (bounded_down most k n.local.ring old.balance))

-- everything was saved
pub node-kept : (n : NodeView) → IsNode n → IsLinks (kept_links (links_of n))
    → IsNode (rewired n (kept_links (links_of n)) n.local.ring)
node-kept n old links =
    node-rewired n (kept_links (links_of n)) n.local.ring old refl (linked-kept n old links)
    (balance-kept n.local.ring n.links n.local.got old.balance)

pub node-kept_with : (n : NodeView) (peer sent received : ℕ) → IsNode n
    → is_other n.local peer ≡ true → IsLinks (kept_peer (links_of n) peer sent received)
    → IsNode (rewired n (kept_peer (links_of n) peer sent received) n.local.ring)
node-kept_with n peer sent received old is links =
    let there = other-from n peer is in
    let inside : peer < length n.links = omega (arith, there.0, old.links.width) in
    node-rewired n (kept_peer (links_of n) peer sent received) n.local.ring old refl
    (linked-kept_peer n old peer sent received there.1 links)
    (balance-set n.local.ring n.links n.local.got peer _ old.balance inside refl)

phases-new : (nodes : ℕ) → IsPhases (new_phases nodes)
phases-new nodes = record {
  swept = omega arith;
  ended = omega arith;
  cycle = omega arith;
  within = omega arith;
  cursor = λ _. refl;
  reports = All-replicate (λ (k : ℕ). k ≤ 0) nodes 0 (omega arith);
}

pub node-new : (shape : Shaped) (own : ℕ) → IsShape shape → own < shape.nodes
    → IsLinks (new_links shape.nodes) → IsNode (new_view shape own)
node-new shape own s within links = record {
  shape = s;
  own = within;
  references = holds-new_heap (IsWithin shape) shape;
  stocked = stocked-new shape own;
  asked = asked-none shape own;
  phases = record {
    phases = phases-new shape.nodes;
    cursor = omega arith;
    reports = length-replicate {A = ℕ} shape.nodes 0;
    heard = reports-new own shape.nodes;
  };
  token = tt;
  links = record {
    width = length-replicate shape.nodes no_link;
    links = links;
    messages = λ i k.
        subst (λ (l : Link). IsSendable shape (get_or l.unacknowledged k no_message))
        (sym (get_or-replicate_any shape.nodes i no_link)) (no_message-sendable shape);
    timely = timely-new own shape.nodes;
  };
  balance = bounded_new (number_sum (replicate shape.nodes no_link) (replicate shape.nodes 0));
}
