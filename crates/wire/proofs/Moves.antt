-- What remains of the rule when one seat changes a mailbox.
use Rattle.std.proofs.Common.{◌≡◌, ◌≢◌, ℕ, suc, ◌+◌, ◌/◌, ◌%◌, ◌<◌, ◌≤◌, true, List, ◌++◌, length, set, get_or, Some, refl, sym, ap, ◌∙◌, subst, arith, le_refl, length-set, get_or-set_other, get_or-set_same, slice_get}
use Rattle.std.specs.Prelude.{slice_index}
use mathlib.Core.Option as maybe
use mathlib.Core.Option.{some, some-injective}
use mathlib.Core.Logic.{dite}
use native.Mathlib.Decide.{ℕ_discrete}
use Rattle.atomic_table.proofs.Lists.{set_else}
use Rattle.ids.specs.declared.limits.TheConstants.{GREATEST_CYCLE}
use Rattle.msg.specs.Frames.{Plain}
use Rattle.model.specs.declared.step.Step.{Step}
use Rattle.model.specs.World.{World, run, IsInNet}
use Rattle.wire.specs.Lists.{has, found, Continues}
use Rattle.wire.specs.Views.{node, Known, visits_with, pair_at}
use Rattle.wire.specs.Rule.{nodes_of, ended_of, events_of, Box, Mail, filling_by, emptying_by, face, lying, in_box, Content, BoxOk, NodeOk, SeatOk, Holds}
use Rattle.wire.proofs.Boxes.{mailboxes, board_at, put, at_put, put-here, put-other, holder}
use Rattle.wire.proofs.Stays.{board_of, IsSeat, IsLike, Apart, Standing, Visits, same-log, turned, box-stays, node-of, one-more}

module _ {S : Type 0} {bytes : S → List ℕ} {opening : World} where
  -- the views when the seat's view is w
  abbrev after : Standing bytes opening → Known → List Known
  after p w = set p.state.views p.id w

  -- ---- A step that changes a mailbox

  pub record Move (p : Standing bytes opening) (w : Known) (m x : ℕ) (b : Box) : Type 0 where
    -- the content of the mailbox's slot
    pub home : maybe.Option S
    pub below : m < mailboxes opening
    pub role : p.view.role ≡ node
    pub seat : IsSeat p.view w
    pub shows : x ≡ face b
    pub content : Content bytes (nodes_of opening) (run opening p.holds.log)
        (set p.state.homes m home)
        (after p w) m b
    pub free : (j : ℕ) → j ≢ p.id → holder (p.holds.mail.boxes m) ≢ suc j
    pub like : (k : ℕ) → k ≢ m → IsLike k p.view w
    pub taken : (k : ℕ) (f : Plain) → slice_get w.taken k ≡ Some f
        → IsInNet (run opening p.holds.log) f
    pub fills : has m w.filling ≡ true → b ≡ filling_by p.id
    pub empties : (f : Plain) → found m w.emptying ≡ Some f → b ≡ emptying_by p.id f
    -- what has been posted to the mailbox by now, and what has been taken from it
    pub posted : List Plain
    pub got : List Plain
    pub in_order : posted ≡ got ++ lying b
    pub sends : p.view.me ≡ m / nodes_of opening → posted ≡ in_box (nodes_of opening) m w.sent
    pub gets : p.view.me ≡ m % nodes_of opening → got ≡ in_box (nodes_of opening) m w.taken
    pub sends_none : p.view.me ≢ m / nodes_of opening → posted ≡ p.holds.mail.posted m
    pub gets_none : p.view.me ≢ m % nodes_of opening → got ≡ p.holds.mail.got m
    -- the word that was there
    pub found : ℕ
    pub was : found ≡ face (p.holds.mail.boxes m)
    pub visits : w.visits ≡ visits_with m (length (p.holds.mail.visits m)) found x p.view
    pub sent : (k : ℕ) → k ≢ m
        → in_box (nodes_of opening) k w.sent ≡ in_box (nodes_of opening) k p.view.sent
    pub took : (k : ℕ) → k ≢ m
        → in_box (nodes_of opening) k w.taken ≡ in_box (nodes_of opening) k p.view.taken

  module _ (p : Standing bytes opening) (w : Known) (m x : ℕ) (b : Box)
      (t : Move p w m x b) where
    was-node : NodeOk opening p.holds.log (board_of p) p.holds.mail p.id
        p.view
    was-node = node-of p t.role

    visits : Visits p w (put p.holds.mail.boxes m b)
    visits =
        one-more p w (put p.holds.mail.boxes m b) m
        (record {
          found = t.found;
          left = x;
          alike = t.seat.alike;
          role = t.role;
          below = t.below;
          was = t.was;
          is = t.shows ∙ ap face (sym (put-here p.holds.mail.boxes m b m refl));
          same = λ k apart. ap face (put-other p.holds.mail.boxes m b k apart);
          visits = t.visits;
        })

    -- the mailboxes after this one has changed
    abbrev then : Mail
    then = record {
      boxes = put p.holds.mail.boxes m b;
      posted = put p.holds.mail.posted m t.posted;
      got = put p.holds.mail.got m t.got;
      visits = visits.all;
    }

    then-apart : (board : ℕ) → Apart (nodes_of opening) board board p.holds.mail then p.view
    then-apart board = record {
      posted = λ k. at_put p.holds.mail.posted m t.posted
          (λ i y. (p.view.role ≡ node → p.view.me ≢ i / nodes_of opening)
          → y ≡ p.holds.mail.posted i) k
          (λ a. t.sends_none (a t.role)) (λ _ _. refl);
      got = λ k. at_put p.holds.mail.got m t.got
          (λ i y. (p.view.role ≡ node → p.view.me ≢ i % nodes_of opening) → y ≡ p.holds.mail.got i)
          k
          (λ a. t.gets_none (a t.role)) (λ _ _. refl);
      visits = visits.others;
      board = λ _. refl;
    }

    then-ordered : (k : ℕ) → k < mailboxes opening
        → then.posted k ≡ then.got k ++ lying (then.boxes k)
    then-ordered k inside =
        dite (ℕ_discrete k m)
        (λ e. (let here : (i : ℕ) → i ≡ m → then.posted i ≡ then.got i ++ lying (then.boxes i) =
        λ i is. put-here p.holds.mail.posted m t.posted i is ∙ t.in_order
        ∙ (λ q. sym (put-here p.holds.mail.got m t.got i is) q
        ++ lying (sym (put-here p.holds.mail.boxes m b i is) q)) in here k e))
        (λ apart. put-other p.holds.mail.posted m t.posted k apart ∙ p.holds.in_order k inside
        ∙ (λ q. sym (put-other p.holds.mail.got m t.got k apart) q
        ++ lying (sym (put-other p.holds.mail.boxes m b k apart) q)))

    moved-node : NodeOk opening p.holds.log (board_of p) then p.id w
    moved-node = record {
      below = subst (λ (i : ℕ). i < nodes_of opening) (sym t.seat.alike.me) was-node.below;
      nodes_is = t.seat.nodes ∙ was-node.nodes_is;
      opening_is = t.seat.opens ∙ was-node.opening_is;
      pair_is = ap (pair_at (run opening p.holds.log)) t.seat.alike.me ∙ was-node.pair_is
          ∙ sym t.seat.pair;
      events_are = t.seat.events ∙ was-node.events_are
          ∙ ap (λ (i : ℕ). events_of i p.holds.log) (sym t.seat.alike.me);
      released = t.taken;
      fills = λ k. at_put p.holds.mail.boxes m b
          (λ i y. has i w.filling ≡ true → (i < mailboxes opening) × (y ≡ filling_by p.id)) k
          (λ e. (t.below, t.fills e))
          (λ apart e. was-node.fills k (sym (t.like k apart).fills ∙ e));
      empties = λ k f. at_put p.holds.mail.boxes m b
          (λ i y. found i w.emptying ≡ Some f → (i < mailboxes opening) × (y ≡ emptying_by p.id f))
          k
          (λ e. (t.below, t.empties f e))
          (λ apart e. was-node.empties k f (sym (t.like k apart).empties ∙ e));
      sends = λ k inside. at_put p.holds.mail.posted m t.posted
          (λ i y. w.me ≡ i / nodes_of opening → y ≡ in_box (nodes_of opening) i w.sent) k
          (λ me. t.sends (sym t.seat.alike.me ∙ me))
          (λ apart me. was-node.sends k inside (sym t.seat.alike.me ∙ me) ∙ sym (t.sent k apart));
      gets = λ k inside. at_put p.holds.mail.got m t.got
          (λ i y. w.me ≡ i % nodes_of opening → y ≡ in_box (nodes_of opening) i w.taken) k
          (λ me. t.gets (sym t.seat.alike.me ∙ me))
          (λ apart me. was-node.gets k inside (sym t.seat.alike.me ∙ me) ∙ sym (t.took k apart));
      visited = visits.mine t.role;
      shows = λ first. was-node.shows (sym t.seat.alike.me ∙ first) ∙ sym t.seat.shown;
    }

    pub moved : Holds bytes opening
        (record {
          words = set p.state.words m x;
          homes = set p.state.homes m t.home;
          views = after p w;
        })
    moved =
        let wide : length p.state.words ≡ mailboxes opening + 2 = p.holds.wide in
        let homes = set p.state.homes m t.home in
        let below : m < mailboxes opening = t.below in
        let other : (k : ℕ) → k ≢ m
        → get_or (set p.state.words m x) k 0 ≡ get_or p.state.words k 0 =
        λ k apart. get_or-set_other p.state.words m k x 0 apart in
        let count = other (mailboxes opening) (omega arith) in
        let board = other (board_at opening) (omega arith) in
        turned {p = p} {w = w} (record {
          alike = t.seat.alike;
          log = p.holds.log;
          mail = then;
          extends = same-log;
          apart = subst (λ (z : ℕ). Apart (nodes_of opening) (board_of p) z p.holds.mail
              then p.view) (sym board)
              (then-apart (board_of p));
          in_order = then-ordered;
          visits = visits.each;
          visitors = visits.taken;
          wide = length-set p.state.words m x;
          slots = length-set p.state.homes m t.home;
          events = p.holds.events;
          count = count ∙ p.holds.count;
          board = subst (λ (z : ℕ). z ≤ ended_of (run opening p.holds.log)) (sym board)
              p.holds.board;
          fits = subst (λ (z : ℕ). z ≤ GREATEST_CYCLE) (sym board) p.holds.fits;
          higher = subst (λ (z : ℕ). board_of p ≤ z) (sym board)
              (le_refl _);
          each = λ k k_below. at_put p.holds.mail.boxes m b
              (λ i y. i < mailboxes opening
              → BoxOk bytes (nodes_of opening) (run opening p.holds.log)
              (set p.state.words m x) homes
              (after p w) i y) k
              (λ _. record {
                shows = get_or-set_same p.state.words m x 0 (omega arith) ∙ t.shows;
                content = t.content;
              })
              (λ apart _. box-stays {p = p} {w = w} {homes = homes} (record {
                below = k_below;
                alike = t.seat.alike;
                extends = same-log;
                word = other k apart;
                home = set_else p.state.homes m k t.home apart;
                like = t.like k apart;
              }))
              k_below;
          theirs = λ j apart k held.
              put-other p.holds.mail.boxes m b k
              (λ e. t.free j apart
              (subst (λ (i : ℕ). holder (p.holds.mail.boxes i) ≡ suc j) e held));
          mine = subst
              (SeatOk opening p.holds.log (slice_index (set p.state.words m x) (board_at opening))
              (after p w) then p.id w)
              (sym (t.seat.alike.role ∙ t.role))
              (subst (λ (z : ℕ). NodeOk opening p.holds.log z then p.id w) (sym board)
              moved-node);
          seen = subst (λ (l : List Step). Continues l p.holds.log) (sym t.seat.seen)
              (p.holds.learned p.id p.view p.at);
        })
