-- A new wire satisfies the rule, and still does while its seats are made.
use Rattle.std.proofs.Common.{◌≡◌, ◌≢◌, ◌⊎◌, ℕ, zero, suc, ◌+◌, ◌<◌, ◌≤◌, ◌==◌, ne_eqb, true, false, List, [], ◌∷◌, ◌++◌, length, set, get_or, Option, Some, None, refl, sym, ap, ◌∙◌, subst, inl, inr, ⊎_elim, arith, zero-le, le_refl, le_trans}
use Rattle.std.specs.Prelude.{slice_index}
use mathlib.Core.Option.{some, some-injective, some-ne-none}
use lib.ListN.{get_elem?}
use Rattle.atomic_table.specs.Table.{State, Splits}
use Rattle.atomic_table.specs.Table as table
use Rattle.atomic_table.proofs.Lists.{at_set, set_else, set_again, at_longer, at_snoc, some_there}
use Rattle.ids.specs.declared.limits.TheConstants.{GREATEST_CYCLE}
use Rattle.msg.specs.Frames.{Plain}
use Rattle.model.specs.World.{World, run}
use Rattle.wire.specs.Views.{Role, dealer, node, watch, Visit, Known, pair_at, dealing, dealer_after, next_node, next_watch, note_of}
use Rattle.wire.specs.Lists.{Continues}
use Rattle.wire.specs.Rule.{nodes_of, ended_of, IsOpening, Box, Mail, empty, full, filling_by, emptying_by, Content, DealerOk, WatchOk, HasSeat, SeatOk, Holds}
use Rattle.wire.proofs.Boxes.{mailboxes, board_at}
use Rattle.wire.proofs.Stays.{node-of}
use Rattle.wire.proofs.Visits.{filter-none}

at-end : {A : Type 0} (l : List A) (a b : A) (j : ℕ) → get_elem? (l ++ a ∷ []) j ≡ some b
    → (get_elem? l j ≡ some b) ⊎ ((j ≡ length l) × (a ≡ b))
at-end [] a b zero e = inr (refl, some-injective a b e)
at-end [] a b (suc j) e = absurd (some-ne-none b (sym e))
at-end (x ∷ xs) a b zero e = inl e
at-end (x ∷ xs) a b (suc j) e =
    ⊎_elim (λ t. inl t) (λ t. inr (ap suc t.0, t.1)) (at-end xs a b j e)

abbrev Seats : List Known → Known → Known → ℕ → List Known
Seats views left right id = set views id left ++ right ∷ []

-- which seats there are after a deal
among : (views : List Known) (id : ℕ) (left right : Known) (k : ℕ) (u : Known)
    → get_elem? (Seats views left right id) k ≡ some u
    → ((k ≡ id) × (left ≡ u)) ⊎ ((get_elem? views k ≡ some u) ⊎ (right ≡ u))
among views id left right k u e =
    ⊎_elim
    (λ a. ⊎_elim
    (λ (is : (k ≡ id) × (left ≡ u)). inl is)
    (λ (is : (k ≢ id) × (get_elem? views k ≡ some u)). inr (inl is.1))
    (at_set views id k left u a))
    (λ (is : (k ≡ length (set views id left)) × (right ≡ u)). inr (inr is.1))
    (at-end (set views id left) right u k e)

clash : {A : Type 0} {r : Role} → r ≡ dealer → r ≡ node → A
clash d e = let never : ◌≡◌ {A = Role} dealer node = sym d ∙ e in absurd cc

later : (k : ℕ) → k ≤ k + 1
later k = omega arith

first-at : (v u : Known) (j : ℕ) → get_elem? (v ∷ []) j ≡ some u → (j ≡ 0) × (v ≡ u)
first-at v u zero e = (refl, some-injective v u e)
first-at v u (suc j) e = absurd (some-ne-none u (sym e))

abbrev no_mail : Mail
no_mail = record {
  boxes = λ _. empty;
  posted = λ _. [];
  got = λ _. [];
  visits = λ _. [];
}

-- the dealer becomes `left`, and the new seat is `right`
record Deal {S : Type 0} (bytes : S → List ℕ) (opening : World) : Type 0 where
  pub s : State S Known
  pub h : Holds bytes opening s
  pub id : ℕ
  pub v : Known
  pub left : Known
  pub right : Known
  pub at : get_elem? s.views id ≡ some v
  pub was : v.role ≡ dealer
  pub role : left.role ≡ dealer
  pub left_ok : DealerOk opening h.log (slice_index s.words (board_at opening)) h.mail
      (Seats s.views left right id) id left
  pub right_ok : SeatOk opening h.log (slice_index s.words (board_at opening))
      (Seats s.views left right id) h.mail (length (set s.views id left)) right right.role
  pub alone : right.role ≡ node → (k : ℕ) (u : Known) → get_elem? s.views k ≡ some u
      → u.role ≡ node → u.me ≢ right.me
  pub left_seen : Continues left.seen h.log
  pub right_seen : Continues right.seen h.log

-- one more seat that may only be read
record OneMore {S : Type 0} (bytes : S → List ℕ) (opening : World) : Type 0 where
  pub state : State S Known
  pub holds : Holds bytes opening state
  pub seat : Known
  pub is : seat.role ≡ watch
  pub ok : WatchOk opening (slice_index state.words (board_at opening)) seat
  pub seen : Continues seat.seen holds.log

module _ {S : Type 0} {bytes : S → List ℕ} {opening : World} where
  dealer-of : (s : State S Known) (h : Holds bytes opening s) (id : ℕ) (v : Known)
      → get_elem? s.views id ≡ some v → v.role ≡ dealer
      → DealerOk opening h.log (slice_index s.words (board_at opening)) h.mail s.views id v
  dealer-of s h id v at role =
      subst (SeatOk opening h.log (slice_index s.words (board_at opening)) s.views h.mail id v) role
      (h.each_seat id v at)

  module _ (t : Deal bytes opening) where
    abbrev s : State S Known
    s = t.s

    abbrev h : Holds bytes opening s
    h = t.h

    abbrev id : ℕ
    id = t.id

    abbrev left : Known
    left = t.left

    abbrev right : Known
    right = t.right

    not-node : {r : Role} → r ≡ dealer → r ≢ node
    not-node e f = let never : ◌≡◌ {A = Role} dealer node = sym e ∙ f in absurd cc

    -- a node's seat is one from before, or the new one
    old-node : (j : ℕ) (u : Known) → get_elem? (set s.views id left) j ≡ some u → u.role ≡ node
        → get_elem? s.views j ≡ some u
    old-node j u e r =
        ⊎_elim
        (λ (is : (j ≡ id) × (left ≡ u)).
        absurd (not-node t.role (ap (λ (x : Known). x.role) is.1 ∙ r)))
        (λ (is : (j ≢ id) × (get_elem? s.views j ≡ some u)). is.1)
        (at_set s.views id j left u e)

    kept-node : (j : ℕ) (u : Known) → get_elem? s.views j ≡ some u → u.role ≡ node
        → get_elem? (Seats s.views left right id) j ≡ some u
    kept-node j u e r =
        at_longer (set s.views id left) (right ∷ []) j u
        (set_else s.views id j left
        (λ is.
        not-node t.was
        (ap (λ (x : Known). x.role)
        (some-injective t.v u
        (sym t.at ∙ subst (λ (k : ℕ). get_elem? s.views k ≡ some u) is e))
        ∙ r))
        ∙ e)

    content-kept : (m : ℕ) (b : Box)
        → Content bytes (nodes_of opening) (run opening h.log) s.homes s.views m b
        → Content bytes (nodes_of opening) (run opening h.log) s.homes
        (Seats s.views left right id) m b
    content-kept m empty c = c
    content-kept m (full f) c = c
    content-kept m (filling_by j) c = (c.0, kept-node j c.0 c.1 c.2, c.2, c.3, c.4)
    content-kept m (emptying_by j f) c = (c.0, kept-node j c.0 c.1 c.2, c.2, c.3, c.4)

    seat-kept : {j : ℕ} {u : Known} → j ≢ id → get_elem? s.views j ≡ some u → (r : Role)
        → u.role ≡ r
        → SeatOk opening h.log (slice_index s.words (board_at opening)) s.views h.mail j u r
        → SeatOk opening h.log (slice_index s.words (board_at opening))
        (Seats s.views left right id)
        h.mail j u r
    seat-kept {j} {u} apart e dealer is ok =
        absurd (apart ((dealer-of s h id t.v t.at t.was).alone j u e is))
    seat-kept apart e node is ok = ok
    seat-kept apart e watch is ok = ok

    new-apart : {x u : Known} (k : ℕ) → get_elem? (set s.views id left) k ≡ some x → right ≡ u
        → x.role ≡ node → u.role ≡ node → x.me ≡ u.me → ⊥
    new-apart {x} k e is rx ru me =
        t.alone (ap (λ (y : Known). y.role) is ∙ ru) k x (old-node k x e rx) rx
        (me ∙ ap (λ (y : Known). y.me) (sym is))

    one-kept : {x u : Known} (j k : ℕ) → get_elem? (Seats s.views left right id) j ≡ some x
        → get_elem? (Seats s.views left right id) k ≡ some u
        → x.role ≡ node → u.role ≡ node → x.me ≡ u.me → j ≡ k
    one-kept {x} {u} j k ex eu rx ru me =
        ⊎_elim
        (λ a. ⊎_elim
        (λ b. h.one j k x u (old-node j x a rx) (old-node k u b ru) rx ru me)
        (λ (b : (k ≡ length (set s.views id left)) × (right ≡ u)).
        absurd (new-apart j a b.1 rx ru me))
        (at-end (set s.views id left) right u k eu))
        (λ (a : (j ≡ length (set s.views id left)) × (right ≡ x)). ⊎_elim
        (λ b. absurd (new-apart k b a.1 ru rx (sym me)))
        (λ (b : (k ≡ length (set s.views id left)) × (right ≡ u)). a.0 ∙ sym b.0)
        (at-end (set s.views id left) right u k eu))
        (at-end (set s.views id left) right x j ex)

    seats-kept : (j : ℕ) (u : Known) → get_elem? (Seats s.views left right id) j ≡ some u
        → SeatOk opening h.log (slice_index s.words (board_at opening))
        (Seats s.views left right id)
        h.mail j u u.role
    seats-kept j u e =
        ⊎_elim
        (λ a. ⊎_elim
        (λ (is : (j ≡ id) × (left ≡ u)).
        subst (λ (x : ℕ × Known). SeatOk opening h.log (slice_index s.words (board_at opening))
        (Seats s.views left right id) h.mail x.0 x.1 x.1.role)
        (λ k. (sym is.0 k, is.1 k))
        (subst (SeatOk opening h.log (slice_index s.words (board_at opening))
        (Seats s.views left right id)
        h.mail id left) (sym t.role) t.left_ok))
        (λ (is : (j ≢ id) × (get_elem? s.views j ≡ some u)).
        seat-kept is.0 is.1 u.role refl (h.each_seat j u is.1))
        (at_set s.views id j left u a))
        (λ (is : (j ≡ length (set s.views id left)) × (right ≡ u)).
        subst (λ (x : ℕ × Known). SeatOk opening h.log (slice_index s.words (board_at opening))
        (Seats s.views left right id) h.mail x.0 x.1 x.1.role)
        (λ k. (sym is.0 k, is.1 k)) t.right_ok)
        (at-end (set s.views id left) right u j e)

    dealt : Holds bytes opening
        (record { words = s.words; homes = s.homes; views = Seats s.views left right id })
    dealt = record {
      log = h.log;
      mail = h.mail;
      in_order = h.in_order;
      visits = h.visits;
      visitors = λ m below k x e.
          let seat = h.visitors m below k x e in (
            seat.0,
            seat.1,
            kept-node seat.0 seat.1 seat.2 seat.3,
            seat.3,
            seat.4,
          );
      opens = h.opens;
      wide = h.wide;
      slots = h.slots;
      events = h.events;
      count = h.count;
      board = h.board;
      fits = h.fits;
      each_box = λ m below. (
          let b = h.each_box m below in
          record { shows = b.shows; content = content-kept m (h.mail.boxes m) b.content }
          );
      each_seat = seats-kept;
      learned = λ j u e. ⊎_elim
          (λ (is : (j ≡ id) × (left ≡ u)).
          subst (λ (x : Known). Continues x.seen h.log) is.1 t.left_seen)
          (λ other. ⊎_elim
          (λ (a : get_elem? s.views j ≡ some u). h.learned j u a)
          (λ (is : right ≡ u). subst (λ (x : Known). Continues x.seen h.log) is t.right_seen)
          other)
          (among s.views id left right j u e);
      one = λ j k x u. one-kept j k;
    }

  pub next_splits : (id : ℕ) (v : Known) → v.role ≡ dealer → v.me < v.nodes
      → Splits (Holds bytes opening) id v (dealer_after v) (next_node v)
  next_splits id v role below s h at =
      let ok = dealer-of s h id v at role in
      let rest = ok.still v.me (omega arith) in
      dealt (record {
        s = s;
        h = h;
        id = id;
        v = v;
        left = dealer_after v;
        right = next_node v;
        at = at;
        was = role;
        role = role;
        left_ok = record {
          nodes_is = ok.nodes_is;
          opening_is = ok.opening_is;
          earlier = λ k u e r. ⊎_elim
              (λ (is : (k ≡ id) × (dealer_after v ≡ u)).
              clash (sym (ap (λ (x : Known). x.role) is.1) ∙ role) r)
              (λ other. ⊎_elim
              (λ (a : get_elem? s.views k ≡ some u).
              (let before : u.me < v.me = ok.earlier k u a r in
              let after : u.me < v.me + 1 = omega arith in after))
              (λ (is : next_node v ≡ u).
              subst (λ (x : Known). x.me < v.me + 1) is
              (let after : v.me < v.me + 1 = omega arith in after))
              other)
              (among s.views id (dealer_after v) (next_node v) k u e);
          alone = λ k u e r. ⊎_elim
              (λ (is : (k ≡ id) × (dealer_after v ≡ u)). is.0)
              (λ other. ⊎_elim
              (λ (a : get_elem? s.views k ≡ some u). ok.alone k u a r)
              (λ (is : next_node v ≡ u). clash r (sym (ap (λ (x : Known). x.role) is)))
              other)
              (among s.views id (dealer_after v) (next_node v) k u e);
          still = λ i late. ok.still i (omega arith);
          unsent = λ m inside late. ok.unsent m inside (le_trans (later v.me) late);
          untaken = λ m inside late. ok.untaken m inside (le_trans (later v.me) late);
          unseen = λ none. absurd (omega (arith, none));
        };
        right_ok = record {
          below = subst (λ (k : ℕ). v.me < k) ok.nodes_is below;
          nodes_is = ok.nodes_is;
          opening_is = ok.opening_is;
          pair_is = rest.1 ∙ ap (λ (o : World). pair_at o v.me) (sym ok.opening_is);
          events_are = sym rest.0;
          released = λ k f e. (let never : ◌≡◌ {A = Option Plain} None (Some f) = e in absurd cc);
          fills = λ m e. (let never : false ≡ true = e in absurd cc);
          empties = λ m f e. (let never : ◌≡◌ {A = Option Plain} None (Some f) = e in absurd cc);
          sends = λ m inside me. ok.unsent m inside (subst (λ (k : ℕ). v.me ≤ k) me (le_refl v.me));
          gets = λ m inside me. ok.untaken m inside (subst (λ (k : ℕ). v.me ≤ k) me (le_refl v.me));
          visited = λ m inside.
              filter-none (λ x. x.node == v.me) (h.mail.visits m) (λ k x e.
              ne_eqb x.node v.me (λ (is : x.node ≡ v.me).
              let seat = h.visitors m inside k x e in
              let before : seat.1.me < v.me = ok.earlier seat.0 seat.1 seat.2 seat.3 in
              let same : seat.1.me ≡ v.me = seat.4 ∙ is in
              omega (arith, before, same)));
          shows = ok.unseen;
        };
        alone = λ r k u a ru same. (let before : u.me < v.me = ok.earlier k u a ru in omega arith);
        left_seen = h.learned id v at;
        right_seen = (h.log, refl);
      })

  -- ---- One more seat that may only be read

  module _ (t : OneMore bytes opening) where
    abbrev st : State S Known
    st = t.state

    abbrev ok : Holds bytes opening st
    ok = t.holds

    abbrev w : Known
    w = t.seat

    -- a seat of another role is one from before
    before : {r : Role} (k : ℕ) (u : Known) → get_elem? (st.views ++ w ∷ []) k ≡ some u → u.role ≡ r
        → r ≢ watch → get_elem? st.views k ≡ some u
    before k u e role other =
        ⊎_elim
        (λ was. was)
        (λ (last : w ≡ u).
        absurd (other (sym role ∙ ap (λ (x : Known). x.role) (sym last) ∙ t.is)))
        (at_snoc st.views w u k e)

    no-watch : node ≢ watch
    no-watch e = let never : ◌≡◌ {A = Role} node watch = e in absurd cc

    dealer-watch : dealer ≢ watch
    dealer-watch e = let never : ◌≡◌ {A = Role} dealer watch = e in absurd cc

    still-has : {i : ℕ} → HasSeat st.views i → HasSeat (st.views ++ w ∷ []) i
    still-has seat =
        (seat.0, seat.1, at_longer st.views (w ∷ []) seat.0 seat.1 seat.2, seat.3, seat.4)

    content-still : (m : ℕ) (b : Box)
        → Content bytes (nodes_of opening) (run opening ok.log) st.homes st.views m b
        → Content bytes (nodes_of opening) (run opening ok.log) st.homes (st.views ++ w ∷ []) m b
    content-still m empty c = c
    content-still m (full f) c = c
    content-still m (filling_by j) c =
        (c.0, at_longer st.views (w ∷ []) j c.0 c.1, c.2, c.3, c.4)
    content-still m (emptying_by j f) c =
        (c.0, at_longer st.views (w ∷ []) j c.0 c.1, c.2, c.3, c.4)

    seat-still : (j : ℕ) (u : Known) (r : Role)
        → SeatOk opening ok.log (slice_index st.words (board_at opening)) st.views ok.mail j u r
        → SeatOk opening ok.log (slice_index st.words (board_at opening))
        (st.views ++ w ∷ []) ok.mail j u
        r
    seat-still j u dealer good = record {
      nodes_is = good.nodes_is;
      opening_is = good.opening_is;
      earlier = λ k x e r. good.earlier k x (before k x e r no-watch) r;
      alone = λ k x e r. good.alone k x (before k x e r dealer-watch) r;
      still = good.still;
      unsent = good.unsent;
      untaken = good.untaken;
      unseen = good.unseen;
    }
    seat-still j u node good = good
    seat-still j u watch good = good

    watched : Holds bytes opening
        (record { words = st.words; homes = st.homes; views = st.views ++ w ∷ [] })
    watched = record {
      log = ok.log;
      mail = ok.mail;
      in_order = ok.in_order;
      visits = ok.visits;
      visitors = λ m below k x e. still-has (ok.visitors m below k x e);
      opens = ok.opens;
      wide = ok.wide;
      slots = ok.slots;
      events = ok.events;
      count = ok.count;
      board = ok.board;
      fits = ok.fits;
      each_box = λ m below. (
          let b = ok.each_box m below in
          record { shows = b.shows; content = content-still m (ok.mail.boxes m) b.content }
          );
      each_seat = λ j u e. ⊎_elim
          (λ was. seat-still j u u.role (ok.each_seat j u was))
          (λ (last : w ≡ u).
          subst (λ (x : Known). SeatOk opening ok.log (slice_index st.words (board_at opening))
          (st.views ++ w ∷ []) ok.mail j x x.role) last
          (subst (SeatOk opening ok.log (slice_index st.words (board_at opening))
          (st.views ++ w ∷ [])
          ok.mail j w) (sym t.is) t.ok))
          (at_snoc st.views w u j e);
      learned = λ j u e. ⊎_elim
          (λ was. ok.learned j u was)
          (λ (last : w ≡ u). subst (λ (x : Known). Continues x.seen ok.log) last t.seen)
          (at_snoc st.views w u j e);
      one = λ j k x u ex eu rx ru.
          ok.one j k x u (before j x ex rx no-watch) (before k u eu ru no-watch) rx ru;
    }

  watch-after : (t : OneMore bytes opening) (id : ℕ) (v : Known)
      → get_elem? t.state.views id ≡ some v
      → Holds bytes opening (record {
        words = t.state.words;
        homes = t.state.homes;
        views = Seats t.state.views v t.seat id;
      })
  watch-after t id v at =
      subst
      (λ (vs : List Known). Holds bytes opening
      (record { words = t.state.words; homes = t.state.homes; views = vs ++ t.seat ∷ [] }))
      (sym (set_again t.state.views id v at)) (watched t)

  pub watch_splits : (id : ℕ) (v : Known) → v.role ≡ dealer
      → Splits (Holds bytes opening) id v v (next_watch v)
  watch_splits id v role s h at =
      let ok = dealer-of s h id v at role in
      watch-after
      (record {
        state = s;
        holds = h;
        seat = next_watch v;
        is = refl;
        ok = record { opening_is = ok.opening_is; loaded = zero-le };
        seen = (h.log, refl);
      })
      id v at

  -- a node's seat makes a note
  pub note_splits : (id : ℕ) (v : Known) → v.role ≡ node
      → Splits (Holds bytes opening) id v v (note_of v)
  note_splits id v role s h at =
      let ok = node-of (record { state = s; holds = h; id = id; view = v; at = at }) role in
      watch-after
      (record {
        state = s;
        holds = h;
        seat = note_of v;
        is = refl;
        ok = record { opening_is = ok.opening_is; loaded = zero-le };
        seen = h.learned id v at;
      })
      id v at

  pub starts : (words : List ℕ) (slots : List S) → IsOpening opening
      → length words ≡ mailboxes opening + 2 → ((k : ℕ) → get_or words k 0 ≡ 0)
      → length slots ≡ mailboxes opening
      → length (table.opening words slots (dealing opening)).homes ≡ mailboxes opening
      → Holds bytes opening (table.opening words slots (dealing opening))
  starts words slots opens wide zeros long homes =
      let v : Known = dealing opening in
      record {
        log = [];
        mail = no_mail;
        in_order = λ m below. refl;
        visits = λ m below. refl;
        visitors = λ m below k x e.
            (let never : ◌≡◌ {A = Option Visit} None (Some x) = e in absurd cc);
        opens = opens;
        wide = wide;
        slots = homes;
        events = tt;
        count = zeros (mailboxes opening);
        board = subst (λ (z : ℕ). z ≤ ended_of opening) (sym (zeros (board_at opening))) zero-le;
        fits = subst (λ (z : ℕ). z ≤ GREATEST_CYCLE) (sym (zeros (board_at opening))) zero-le;
        each_box = λ m below. record {
          shows = zeros m;
          content = some_there slots m (subst (λ (k : ℕ). m < k) (sym long) below);
        };
        each_seat = λ j u e. (
            let is = first-at v u j e in
            subst (λ (x : ℕ × Known). SeatOk opening [] (slice_index words (board_at opening))
            (v ∷ [])
            no_mail x.0 x.1 x.1.role) (λ k. (sym is.0 k, is.1 k))
            (record {
              nodes_is = refl;
              opening_is = refl;
              earlier = λ k x at r.
                  clash refl (ap (λ (y : Known). y.role) (first-at v x k at).1 ∙ r);
              alone = λ k x at r. (first-at v x k at).0;
              still = λ i late. (refl, refl);
              unsent = λ m inside late. refl;
              untaken = λ m inside late. refl;
              unseen = λ _. zeros (board_at opening);
            })
            );
        learned = λ j u e.
            subst (λ (x : Known). Continues x.seen []) (first-at v u j e).1 ([], refl);
        one = λ j k x u ex eu rx ru me.
            clash refl (ap (λ (y : Known). y.role) (first-at v x j ex).1 ∙ rx);
      }
