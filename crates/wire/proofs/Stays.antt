-- What remains of the rule when one seat takes a step.
use Rattle.std.proofs.Common.{◌≡◌, ◌≢◌, ℕ, suc, ◌/◌, ◌%◌, ◌^◌, ◌<◌, ◌≤◌, ◌==◌, eq-eqb, ne_eqb, true, Some, List, [], ◌∷◌, ◌++◌, length, set, refl, sym, ap, ◌∙◌, subst, ⊎_elim, arith, le_refl, le_trans}
use Rattle.std.specs.Prelude.{slice_index}
use mathlib.Core.Option as maybe
use mathlib.Core.Option.{some, some-injective}
use mathlib.Core.Logic.{dite}
use native.Mathlib.Decide.{ℕ_discrete}
use lib.ListN.{get_elem?}
use Rattle.atomic_table.specs.Table.{State}
use Rattle.atomic_table.proofs.Lists.{at_set, set_else}
use Rattle.ids.specs.declared.limits.TheConstants.{GREATEST_CYCLE}
use Rattle.msg.specs.Frames.{Plain}
use Rattle.model.specs.declared.step.Step.{Step}
use Rattle.model.specs.World.{World, run, IsInNet}
use Rattle.wire.specs.Lists.{has, found, Continues}
use Rattle.wire.specs.Views.{Role, dealer, node, watch, Visit, Known, visit, visits_with, pair_at}
use Rattle.wire.specs.Rule.{nodes_of, ended_of, events_of, AreEvents, Box, Mail, empty, full, filling_by, emptying_by, face, lying, by_node, on_box, AreVisits, Content, BoxOk, NodeOk, DealerOk, HasSeat, AreTaken, SeatOk, Holds}
use Rattle.laws.proofs.Lookups.{slice_get-push}
use Rattle.wire.proofs.Boxes.{mailboxes, board_at, put, at_put, holder, set-at}
use Rattle.wire.proofs.Lists.{continues-both, continues-itself}
use Rattle.wire.proofs.Visits.{filter-here, filter-else, visits-push}

-- both views are equal in what the other seats read of a seat
pub record IsAlike (v w : Known) : Type 0 where
  pub role : w.role ≡ v.role
  pub me : w.me ≡ v.me

-- what a step on a mailbox leaves unchanged in its seat
pub record IsSeat (v w : Known) : Type 0 where
  pub alike : IsAlike v w
  pub nodes : w.nodes ≡ v.nodes
  pub opens : w.opening ≡ v.opening
  pub pair : w.pair ≡ v.pair
  pub events : w.events ≡ v.events
  pub shown : w.shown ≡ v.shown
  pub seen : w.seen ≡ v.seen

pub still-seat : {v : Known} {visits : List Visit} {filling : List ℕ}
    {emptying : List (ℕ × Plain)} {taken sent : List Plain}
    → IsSeat v (record v {
      visits = visits;
      filling = filling;
      emptying = emptying;
      taken = taken;
      sent = sent;
    })
still-seat = record {
  alike = record { role = refl; me = refl };
  nodes = refl;
  opens = refl;
  pair = refl;
  events = refl;
  shown = refl;
  seen = refl;
}

-- both views are equal in what a mailbox reads of a seat
pub record IsLike (m : ℕ) (v w : Known) : Type 0 where
  pub fills : has m w.filling ≡ has m v.filling
  pub empties : found m w.emptying ≡ found m v.emptying

abbrev pub Homes : Type 0 → Type 0
Homes S = List (maybe.Option S)

-- ---- A seat, and its step

-- What a list of events and a longer one have in common: everything released, and the other nodes.
-- The longer one begins with the other.
pub record Extends (opening : World) (log log' : List Step) (v : Known) : Type 0 where
  pub net : (f : Plain) → IsInNet (run opening log) f → IsInNet (run opening log') f
  pub others : (i : ℕ) → (v.role ≡ node → i ≢ v.me)
      → (pair_at (run opening log') i ≡ pair_at (run opening log) i)
      × (events_of i log' ≡ events_of i log)
  pub more : Continues log log'

pub same-log : {opening : World} {log : List Step} {v : Known} → Extends opening log log v
same-log {log = log} = record {
  net = λ f h. h;
  others = λ i apart. (refl, refl);
  more = continues-itself log;
}

-- What the step of a seat leaves unchanged: the mailboxes of other nodes, and the board unless the
-- seat is node 0's.
pub record Apart (n : ℕ) (old new : ℕ) (mail mail' : Mail) (v : Known) : Type 0 where
  pub posted : (m : ℕ) → (v.role ≡ node → v.me ≢ m / n) → mail'.posted m ≡ mail.posted m
  pub got : (m : ℕ) → (v.role ≡ node → v.me ≢ m % n) → mail'.got m ≡ mail.got m
  pub visits : (m i : ℕ) → (v.role ≡ node → v.me ≢ i)
      → by_node i (mail'.visits m) ≡ by_node i (mail.visits m)
  pub board : (v.role ≡ node → v.me ≢ 0) → new ≡ old

-- A node's seat is still as the rule says if only its visits have changed, and what it loaded,
-- showed or learned.
pub still-node : {opening : World} {log seen : List Step} {old new j number shown : ℕ}
    {mail : Mail} {v : Known} {all : ℕ → List Visit} {visits : List Visit}
    → NodeOk opening log old mail j v
    → ((m : ℕ) → m < mailboxes opening → by_node v.me (all m) ≡ on_box m visits)
    → (v.me ≡ 0 → new ≡ shown)
    → NodeOk opening log new (record mail { visits = all }) j
    (record v { visits = visits; number = number; shown = shown; seen = seen })
still-node ok visited shows = record {
  below = ok.below;
  nodes_is = ok.nodes_is;
  opening_is = ok.opening_is;
  pair_is = ok.pair_is;
  events_are = ok.events_are;
  released = ok.released;
  fills = ok.fills;
  empties = ok.empties;
  sends = ok.sends;
  gets = ok.gets;
  visited = visited;
  shows = shows;
}

-- the seat with the index j is node i's, and F holds of its view
abbrev Owner : List Known → ℕ → ℕ → (Known → Type 0) → Type 0
Owner views j i F =
    (v : Known) × (get_elem? views j ≡ some v) × (v.role ≡ node) × (v.me ≡ i) × F v

-- a seat in a state that keeps the rule
pub record Standing {S : Type 0} (bytes : S → List ℕ) (opening : World) : Type 0 where
  pub state : State S Known
  pub holds : Holds bytes opening state
  pub id : ℕ
  pub view : Known
  pub at : get_elem? state.views id ≡ some view

module _ {S : Type 0} {bytes : S → List ℕ} {opening : World} where
  -- what the board shows
  abbrev pub board_of : Standing bytes opening → ℕ
  board_of p = slice_index p.state.words (board_at opening)

  -- the views when the seat's view is w
  abbrev after : Standing bytes opening → Known → List Known
  after p w = set p.state.views p.id w

  module _ (p : Standing bytes opening) (w : Known) (alike : IsAlike p.view w) where
    -- a seat had its role before, and its node
    abbrev Was : ℕ → Known → Type 0
    Was j u = (x : Known) × (get_elem? p.state.views j ≡ some x) × (x.role ≡ u.role) × (x.me ≡ u.me)

    was : (j : ℕ) (u : Known) → get_elem? (after p w) j ≡ some u → Was j u
    was j u e =
        ⊎_elim
        (λ (t : (j ≡ p.id) × (w ≡ u)). (
          p.view,
          subst (λ (k : ℕ). get_elem? p.state.views k ≡ some p.view) (sym t.0) p.at,
          sym alike.role ∙ ap (λ (x : Known). x.role) t.1,
          sym alike.me ∙ ap (λ (x : Known). x.me) t.1,
        ))
        (λ (t : (j ≢ p.id) × (get_elem? p.state.views j ≡ some u)). (u, t.1, refl, refl))
        (at_set p.state.views p.id j w u e)

    owner-stays : (j i : ℕ) (F : Known → Type 0) → (F p.view → F w) → Owner p.state.views j i F
        → Owner (after p w) j i F
    owner-stays j i F still c =
        dite (ℕ_discrete j p.id)
        (λ e.
        let is : p.view ≡ c.0 =
        some-injective p.view c.0
        (sym p.at ∙ subst (λ (k : ℕ). get_elem? p.state.views k ≡ some c.0) e c.1) in (
          w,
          subst (λ (k : ℕ). get_elem? (after p w) k ≡ some w) (sym e)
              (set-at p.state.views p.id w p.view p.at),
          alike.role ∙ ap (λ (x : Known). x.role) is ∙ c.2,
          alike.me ∙ ap (λ (x : Known). x.me) is ∙ c.3,
          still (subst F (sym is) c.4),
        ))
        (λ apart. (c.0, set_else p.state.views p.id j w apart ∙ c.1, c.2, c.3, c.4))

    pub still-there : (i : ℕ) → HasSeat p.state.views i → HasSeat (after p w) i
    still-there i seat =
        let now = owner-stays seat.0 i (λ _. Unit {0}) (λ u. u)
        (seat.1, seat.2, seat.3, seat.4, tt) in
        (seat.0, now.0, now.1, now.2, now.3)

    abbrev IsOne : List Known → Type 0
    IsOne vs =
        (j k : ℕ) (x u : Known) → get_elem? vs j ≡ some x → get_elem? vs k ≡ some u
        → x.role ≡ node → u.role ≡ node → x.me ≡ u.me → j ≡ k

    one-stays : IsOne p.state.views → IsOne (after p w)
    one-stays one j k x u ex eu rx ru me =
        let a = was j x ex in let b = was k u eu in
        one j k a.0 b.0 a.1 b.1 (a.2 ∙ rx) (b.2 ∙ ru) (a.3 ∙ me ∙ sym b.3)

    dealer-stays : {log : List Step} {board : ℕ} {mail : Mail} {j : ℕ} {u : Known}
        → Extends opening p.holds.log log p.view
        → Apart (nodes_of opening) (board_of p) board p.holds.mail mail p.view
        → DealerOk opening p.holds.log (board_of p) p.holds.mail
        p.state.views j u
        → DealerOk opening log board mail (after p w) j u
    dealer-stays {u = u} extends apart h = record {
      nodes_is = h.nodes_is;
      opening_is = h.opening_is;
      earlier = λ k x e r. let a = was k x e in
          subst (λ (i : ℕ). i < u.me) a.3 (h.earlier k a.0 a.1 (a.2 ∙ r));
      alone = λ k x e r. let a = was k x e in h.alone k a.0 a.1 (a.2 ∙ r);
      still = λ i late. let a = h.still i late in let b = extends.others i (below i late) in
          (b.1 ∙ a.0, b.0 ∙ a.1);
      unsent = λ m inside late. apart.posted m (λ r e. below (m / nodes_of opening) late r (sym e))
          ∙ h.unsent m inside late;
      untaken = λ m inside late. apart.got m (λ r e. below (m % nodes_of opening) late r (sym e))
          ∙ h.untaken m inside late;
      unseen = λ first. apart.board (λ r e. below 0 (omega (arith, first)) r (sym e))
          ∙ h.unseen first;
    }
      where
        below : (i : ℕ) → u.me ≤ i → p.view.role ≡ node → i ≢ p.view.me
        below i late r e = let before : p.view.me < u.me = h.earlier p.id p.view p.at r in
            omega (arith, before, late, e)

  -- the step of the seat makes its view w
  pub record Turn (p : Standing bytes opening) (w : Known) (words : List ℕ)
      (homes : Homes S) : Type 0 where
    pub alike : IsAlike p.view w
    pub log : List Step
    pub mail : Mail
    pub extends : Extends opening p.holds.log log p.view
    pub apart : Apart (nodes_of opening) (board_of p) (slice_index words (board_at opening))
        p.holds.mail mail p.view
    pub wide : length words ≡ length p.state.words
    pub slots : length homes ≡ length p.state.homes
    pub events : AreEvents opening log
    pub count : slice_index words (mailboxes opening) ≡ length log % 2 ^ 64
    pub board : slice_index words (board_at opening) ≤ ended_of (run opening log)
    pub fits : slice_index words (board_at opening) ≤ GREATEST_CYCLE
    pub higher : board_of p ≤ slice_index words (board_at opening)
    pub each : (m : ℕ) → m < mailboxes opening
        → BoxOk bytes (nodes_of opening) (run opening log) words homes (after p w) m (mail.boxes m)
    pub in_order : (m : ℕ) → m < mailboxes opening
        → mail.posted m ≡ mail.got m ++ lying (mail.boxes m)
    pub visits : (m : ℕ) → m < mailboxes opening
        → AreVisits m (face (mail.boxes m)) 0 0 (mail.visits m)
    pub visitors : (m : ℕ) → m < mailboxes opening → AreTaken (after p w) (mail.visits m)
    pub theirs : (j : ℕ) → j ≢ p.id → (m : ℕ) → holder (p.holds.mail.boxes m) ≡ suc j
        → mail.boxes m ≡ p.holds.mail.boxes m
    pub mine : SeatOk opening log (slice_index words (board_at opening)) (after p w) mail p.id
        w w.role
    pub seen : Continues w.seen log

  module _ {p : Standing bytes opening} {w : Known} {words : List ℕ} {homes : Homes S}
      (t : Turn p w words homes) where
    theirs-stay : (j : ℕ) (u : Known) → j ≢ p.id → get_elem? p.state.views j ≡ some u → (r : Role)
        → u.role ≡ r
        → SeatOk opening p.holds.log (board_of p) p.state.views
        p.holds.mail j u r
        → SeatOk opening t.log (slice_index words (board_at opening)) (after p w) t.mail j u r
    theirs-stay j u apart at dealer is ok =
        dealer-stays p w t.alike t.extends t.apart ok
    theirs-stay j u apart at node is ok =
        let other : (i : ℕ) → u.me ≡ i → p.view.role ≡ node → p.view.me ≢ i =
        λ i me r e. apart (p.holds.one j p.id u p.view at p.at is r (me ∙ sym e)) in
        let same = t.extends.others u.me (λ r e. other u.me refl r (sym e)) in
        let theirs = t.theirs j apart in
        record {
          below = ok.below;
          nodes_is = ok.nodes_is;
          opening_is = ok.opening_is;
          pair_is = same.0 ∙ ok.pair_is;
          events_are = ok.events_are ∙ sym same.1;
          released = λ k f e. t.extends.net f (ok.released k f e);
          fills = λ m e. let a = ok.fills m e in (a.0, theirs m (ap holder a.1) ∙ a.1);
          empties = λ m f e. let a = ok.empties m f e in (a.0, theirs m (ap holder a.1) ∙ a.1);
          sends = λ m inside me. t.apart.posted m (other (m / nodes_of opening) me)
              ∙ ok.sends m inside me;
          gets = λ m inside me. t.apart.got m (other (m % nodes_of opening) me)
              ∙ ok.gets m inside me;
          visited = λ m inside. t.apart.visits m u.me (other u.me refl) ∙ ok.visited m inside;
          shows = λ first. t.apart.board (other 0 first) ∙ ok.shows first;
        }
    theirs-stay j u apart at watch is ok =
        record { opening_is = ok.opening_is; loaded = le_trans ok.loaded t.higher }

    pub turned :
        Holds bytes opening (record { words = words; homes = homes; views = after p w })
    turned = record {
      log = t.log;
      mail = t.mail;
      opens = p.holds.opens;
      wide = t.wide ∙ p.holds.wide;
      slots = t.slots ∙ p.holds.slots;
      events = t.events;
      count = t.count;
      board = t.board;
      fits = t.fits;
      each_box = t.each;
      in_order = t.in_order;
      visits = t.visits;
      visitors = t.visitors;
      each_seat = λ j u e.
          ⊎_elim
          (λ (is : (j ≡ p.id) × (w ≡ u)).
          subst
          (λ (x : ℕ × Known).
          SeatOk opening t.log (slice_index words (board_at opening)) (after p w) t.mail
          x.0 x.1 x.1.role)
          (λ k. (sym is.0 k, is.1 k)) t.mine)
          (λ (is : (j ≢ p.id) × (get_elem? p.state.views j ≡ some u)).
          theirs-stay j u is.0 is.1 u.role refl (p.holds.each_seat j u is.1))
          (at_set p.state.views p.id j w u e);
      learned = λ j u e.
          ⊎_elim
          (λ (is : (j ≡ p.id) × (w ≡ u)).
          subst (λ (x : Known). Continues x.seen t.log) is.1 t.seen)
          (λ (is : (j ≢ p.id) × (get_elem? p.state.views j ≡ some u)).
          continues-both u.seen p.holds.log t.log (p.holds.learned j u is.1) t.extends.more)
          (at_set p.state.views p.id j w u e);
      one = one-stays p w t.alike p.holds.one;
    }

  -- ---- A mailbox that the step leaves unchanged

  pub record Leaves (p : Standing bytes opening) (w : Known) (log : List Step) (words : List ℕ)
      (homes : Homes S) (m : ℕ) : Type 0 where
    pub below : m < mailboxes opening
    pub alike : IsAlike p.view w
    pub extends : Extends opening p.holds.log log p.view
    pub word : slice_index words m ≡ slice_index p.state.words m
    pub home : get_elem? homes m ≡ get_elem? p.state.homes m
    pub like : IsLike m p.view w

  module _ {p : Standing bytes opening} {w : Known} {log : List Step} {words : List ℕ}
      {homes : Homes S} {m : ℕ} (l : Leaves p w log words homes m) where
    content-stays : (b : Box)
        → Content bytes (nodes_of opening) (run opening p.holds.log) p.state.homes p.state.views m b
        → Content bytes (nodes_of opening) (run opening log) homes (after p w) m b
    content-stays empty c = (c.0, l.home ∙ c.1)
    content-stays (full f) c =
        ((c.0.0, l.home ∙ c.0.1, c.0.2), l.extends.net f c.1, c.2, c.3)
    content-stays (filling_by j) c =
        owner-stays p w l.alike j _ (λ v. has m v.filling ≡ true) (λ e. l.like.fills ∙ e) c
    content-stays (emptying_by j f) c =
        owner-stays p w l.alike j _ (λ v. found m v.emptying ≡ Some f) (λ e. l.like.empties ∙ e) c

    pub box-stays : BoxOk bytes (nodes_of opening) (run opening log) words homes (after p w) m
        (p.holds.mail.boxes m)
    box-stays =
        let ok = p.holds.each_box m l.below in
        record {
          shows = l.word ∙ ok.shows;
          content = content-stays (p.holds.mail.boxes m) ok.content;
        }

  pub node-of : (p : Standing bytes opening) → p.view.role ≡ node
      → NodeOk opening p.holds.log (board_of p) p.holds.mail p.id p.view
  node-of p role =
      subst
      (SeatOk opening p.holds.log (board_of p) p.state.views
      p.holds.mail p.id p.view)
      role (p.holds.each_seat p.id p.view p.at)

  -- ---- The steps on mailboxes, after this one

  pub record Visits (p : Standing bytes opening) (w : Known) (boxes : ℕ → Box) : Type 0 where
    pub all : ℕ → List Visit
    pub each : (m : ℕ) → m < mailboxes opening → AreVisits m (face (boxes m)) 0 0 (all m)
    pub taken : (m : ℕ) → m < mailboxes opening → AreTaken (after p w) (all m)
    pub others : (m i : ℕ) → (p.view.role ≡ node → p.view.me ≢ i)
        → by_node i (all m) ≡ by_node i (p.holds.mail.visits m)
    pub mine : p.view.role ≡ node → (m : ℕ) → m < mailboxes opening
        → by_node w.me (all m) ≡ on_box m w.visits

  -- the step is on no mailbox
  abbrev pub none-more : {p : Standing bytes opening} {w : Known} → IsAlike p.view w
      → w.visits ≡ p.view.visits → Visits p w p.holds.mail.boxes
  none-more {p} {w} alike same = record {
    all = p.holds.mail.visits;
    each = p.holds.visits;
    taken = λ m below k x e. still-there p w alike x.node (p.holds.visitors m below k x e);
    others = λ m i apart. refl;
    mine = λ role m below.
        ap (λ (i : ℕ). by_node i (p.holds.mail.visits m)) alike.me
        ∙ (node-of p role).visited m below ∙ ap (on_box m) (sym same);
  }

  -- the step is on the mailbox m
  pub record Visiting (p : Standing bytes opening) (w : Known) (boxes : ℕ → Box)
      (m : ℕ) : Type 0 where
    pub found : ℕ
    pub left : ℕ
    pub alike : IsAlike p.view w
    pub role : p.view.role ≡ node
    pub below : m < mailboxes opening
    pub was : found ≡ face (p.holds.mail.boxes m)
    pub is : left ≡ face (boxes m)
    pub same : (k : ℕ) → k ≢ m → face (boxes k) ≡ face (p.holds.mail.boxes k)
    pub visits : w.visits
        ≡ visits_with m (length (p.holds.mail.visits m)) found left p.view

  module _ (p : Standing bytes opening) (w : Known) (boxes : ℕ → Box) (m : ℕ)
      (t : Visiting p w boxes m) where
    abbrev before : ℕ → List Visit
    before = p.holds.mail.visits

    abbrev last : Visit
    last = visit m (length (before m)) t.found t.left p.view

    abbrev all : ℕ → List Visit
    all = put before m (before m ++ last ∷ [])

    each-follows : (k : ℕ) → k < mailboxes opening → AreVisits k (face (boxes k)) 0 0 (all k)
    each-follows k below =
        at_put before m (before m ++ last ∷ [])
        (λ i xs. i < mailboxes opening → AreVisits i (face (boxes i)) 0 0 xs) k
        (λ _.
        subst (λ (z : ℕ). AreVisits m z 0 0 (before m ++ last ∷ [])) t.is
        (visits-push last (before m) 0 0
        (p.holds.visits m t.below) refl (omega arith) t.was))
        (λ apart inside.
        subst (λ (z : ℕ). AreVisits k z 0 0 (before k)) (sym (t.same k apart))
        (p.holds.visits k inside))
        below

    each-taken : (k : ℕ) → k < mailboxes opening → AreTaken (after p w) (all k)
    each-taken k below =
        at_put before m (before m ++ last ∷ [])
        (λ i xs. i < mailboxes opening → AreTaken (after p w) xs) k
        (λ _ j x e.
        ⊎_elim
        (λ was. still-there p w t.alike x.node (p.holds.visitors m t.below j x was))
        (λ (is : x ≡ last). (
          p.id,
          w,
          set-at p.state.views p.id w p.view p.at,
          t.alike.role ∙ t.role,
          t.alike.me ∙ ap (λ (y : Visit). y.node) (sym is),
        ))
        (slice_get-push (before m) last j x e))
        (λ apart inside j x e.
        still-there p w t.alike x.node (p.holds.visitors k inside j x e))
        below

    mine-too : (k : ℕ) → k < mailboxes opening → by_node p.view.me (all k) ≡ on_box k w.visits
    mine-too k below =
        at_put before m (before m ++ last ∷ [])
        (λ i xs. i < mailboxes opening → by_node p.view.me xs ≡ on_box i w.visits) k
        (λ _.
        filter-here (λ x. x.node == p.view.me) (before m) last
        (eq-eqb p.view.me p.view.me refl)
        ∙ ap (λ (xs : List Visit). xs ++ last ∷ []) ((node-of p t.role).visited m t.below)
        ∙ sym (filter-here (λ x. x.box == m) p.view.visits last (eq-eqb m m refl))
        ∙ ap (on_box m) (sym t.visits))
        (λ apart inside.
        (node-of p t.role).visited k inside
        ∙ sym (filter-else (λ x. x.box == k) p.view.visits last
        (ne_eqb m k (λ e. apart (sym e))))
        ∙ ap (on_box k) (sym t.visits))
        below

    pub one-more : Visits p w boxes
    one-more = record {
      all = all;
      each = each-follows;
      taken = each-taken;
      others = λ k i apart.
          at_put before m (before m ++ last ∷ [])
          (λ j xs. by_node i xs ≡ by_node i (before j)) k
          (filter-else (λ x. x.node == i) (before m) last (ne_eqb p.view.me i (apart t.role)))
          (λ _. refl);
      mine = λ role k below.
          ap (λ (i : ℕ). by_node i (all k)) t.alike.me ∙ mine-too k below;
    }

  -- ---- A step that changes no mailbox

  pub record Note (p : Standing bytes opening) (w : Known) (log : List Step)
      (words : List ℕ) : Type 0 where
    pub alike : IsAlike p.view w
    pub filling : w.filling ≡ p.view.filling
    pub emptying : w.emptying ≡ p.view.emptying
    pub extends : Extends opening p.holds.log log p.view
    pub wide : length words ≡ length p.state.words
    pub boxes : (m : ℕ) → m < mailboxes opening → slice_index words m ≡ slice_index p.state.words m
    pub events : AreEvents opening log
    pub count : slice_index words (mailboxes opening) ≡ length log % 2 ^ 64
    pub board : slice_index words (board_at opening) ≤ ended_of (run opening log)
    pub fits : slice_index words (board_at opening) ≤ GREATEST_CYCLE
    pub higher : board_of p ≤ slice_index words (board_at opening)
    pub shown : (p.view.role ≡ node → p.view.me ≢ 0)
        → slice_index words (board_at opening) ≡ board_of p
    pub visits : Visits p w p.holds.mail.boxes
    pub mine : SeatOk opening log (slice_index words (board_at opening)) (after p w)
        (record p.holds.mail { visits = visits.all }) p.id w w.role
    pub seen : Continues w.seen log

  pub noted : (p : Standing bytes opening) (w : Known) (log : List Step)
      (words : List ℕ) → Note p w log words
      → Holds bytes opening (record { words = words; homes = p.state.homes; views = after p w })
  noted p w log words t =
      turned {p = p} {w = w} {words = words} (record {
        alike = t.alike;
        log = log;
        mail = record p.holds.mail { visits = t.visits.all };
        extends = t.extends;
        apart = record {
          posted = λ m a. refl;
          got = λ m a. refl;
          visits = t.visits.others;
          board = t.shown;
        };
        in_order = p.holds.in_order;
        visits = t.visits.each;
        visitors = t.visits.taken;
        wide = t.wide;
        slots = refl;
        events = t.events;
        count = t.count;
        board = t.board;
        fits = t.fits;
        higher = t.higher;
        each = λ m below. box-stays {p = p} {w = w} {homes = p.state.homes} (record {
          below = below;
          alike = t.alike;
          extends = t.extends;
          word = t.boxes m below;
          home = refl;
          like = record { fills = ap (has m) t.filling; empties = ap (found m) t.emptying };
        });
        theirs = λ j apart m held. refl;
        mine = t.mine;
        seen = t.seen;
      })

  -- the same if it changes no word and adds no event
  pub remarked : (p : Standing bytes opening) (w : Known) → IsAlike p.view w
      → w.filling ≡ p.view.filling → w.emptying ≡ p.view.emptying
      → (visits : Visits p w p.holds.mail.boxes)
      → SeatOk opening p.holds.log (board_of p) (after p w)
      (record p.holds.mail { visits = visits.all }) p.id w w.role
      → Continues w.seen p.holds.log
      → Holds bytes opening
      (record { words = p.state.words; homes = p.state.homes; views = after p w })
  remarked p w alike filling emptying visits mine seen =
      noted p w p.holds.log p.state.words (record {
        alike = alike;
        filling = filling;
        emptying = emptying;
        extends = same-log;
        wide = refl;
        boxes = λ m below. refl;
        events = p.holds.events;
        count = p.holds.count;
        board = p.holds.board;
        fits = p.holds.fits;
        higher = le_refl _;
        shown = λ _. refl;
        visits = visits;
        mine = mine;
        seen = seen;
      })
