-- The four steps on a mailbox keep the rule.
use Rattle.std.proofs.Common.{◌≡◌, ◌≢◌, ℕ, suc, ◌/◌, ◌%◌, ◌<◌, ◌≤◌, true, false, true≢false, List, [], ◌∷◌, ◌++◌, append-nil, length, set, get_or, Option, Some, None, refl, sym, ap, ◌∙◌, subst, ⊎_elim, arith, ne_eqb, mod-lt}
use Rattle.std.proofs.lemmas.Bool.{cond-false, false_from_ne_true}
use Rattle.std.specs.Prelude.{slice_index}
use mathlib.Core.Option.{none, some, some-injective}
use lib.ListN.{get_elem?}
use lib.Seq.{set-get_or}
use Rattle.atomic_table.specs.Table.{State, keeps, takes, gives, stepped}
use Rattle.atomic_table.proofs.Lists.{set_here}
use Rattle.msg.specs.Frames.{Plain, data_frame, ack_frame}
use Rattle.model.specs.State.{NodeState, node_at, got_from, sent_to}
use Rattle.model.specs.World.{World, run, numbered, IsInNet}
use Rattle.laws.proofs.Lookups.{slice_get-push}
use Rattle.wire.specs.Lists.{has, found}
use Rattle.wire.specs.Views.{node, Pair, Known, notes, claims, takes_in, posts, clears}
use Rattle.wire.specs.Rule.{nodes_of, Box, empty, full, filling_by, emptying_by, face, lying, Content, NodeOk, SeatOk, Holds, Spells, sender, receiver}
use Rattle.wire.specs.Plays.{Releases, Owns, IsFresh}
use Rattle.wire.proofs.Lists.{has-here, has-more, has-gone, has-stays, found-here, found-more, found-gone, found-stays}
use Rattle.wire.proofs.InOrder.{box-number, box-here, box-else}
use Rattle.wire.proofs.Boxes.{mailboxes, board_at, holder, is-empty, is-full, none-from, set-at}
use Rattle.wire.proofs.Events.{count}
use Rattle.wire.proofs.Stays.{Standing, still-node, Visits, still-seat, remarked, node-of, one-more}
use Rattle.wire.proofs.Moves.{moved}

-- what a saved state releases is in the net
in-net : (w : World) (i : ℕ) (saved : NodeState) (f : Plain) → node_at w.saved i ≡ saved
    → i < length w.current → receiver f < length w.current → Releases i saved f → IsInNet w f
in-net w i saved (data_frame from to number stamp body) is below there rel =
    cond-false _ _ _ (ne_eqb from to (λ e. rel.1 (sym e ∙ rel.0)))
    ∙ ap (λ (t : NodeState). numbered (sent_to t to) number) (ap (node_at w.saved) rel.0 ∙ is)
    ∙ rel.2
in-net w i saved (ack_frame from to number) is below there rel = (
  subst (λ (k : ℕ). k < length w.current) (sym rel.0) below,
  there,
  (λ e. rel.1 (sym e ∙ rel.0)),
  subst (λ (t : NodeState). number ≤ got_from t.local to)
      (sym (ap (node_at w.saved) rel.0 ∙ is)) rel.2,
)

sender-is : (i : ℕ) (saved : NodeState) (f : Plain) → Releases i saved f → sender f ≡ i
sender-is i saved (data_frame from to number stamp body) rel = rel.0
sender-is i saved (ack_frame from to number) rel = rel.0

only-one : (id j k : ℕ) → k ≡ suc id → j ≢ id → k ≢ suc j
only-one id j k is apart e = let same : j ≡ id = omega arith in apart same

module _ {S : Type 0} {bytes : S → List ℕ} {opening : World} where
  module _ (p : Standing bytes opening) (role : p.view.role ≡ node) where
    abbrev s : State S Known
    s = p.state

    abbrev h : Holds bytes opening p.state
    h = p.holds

    abbrev id : ℕ
    id = p.id

    abbrev v : Known
    v = p.view

    ok : NodeOk opening h.log (slice_index s.words (board_at opening)) h.mail id v
    ok = node-of p role

    -- a mailbox that the seat is neither filling nor emptying
    fresh : (m : ℕ) → holder (h.mail.boxes m) ≢ suc id → IsFresh m v
    fresh m none_holds = (
      false_from_ne_true (has m v.filling) (λ e. none_holds (ap holder (ok.fills m e).1)),
      none-from (found m v.emptying) (λ f e. none_holds (ap holder (ok.empties m f e).1)),
    )

    -- a slot that comes back is in its place
    homed : (m : ℕ) (x : S) → m < mailboxes opening
        → get_elem? (set s.homes m (some x)) m ≡ some (some x)
    homed m x below = set_here s.homes m (some x) (subst (λ (k : ℕ). m < k) (sym h.slots) below)

    -- how many steps on the mailbox came before
    abbrev place : ℕ → ℕ
    place m = length (h.mail.visits m)

    -- a claim or a take that found another word
    pub missed : (m r : ℕ) → m < mailboxes opening → r ≡ get_or s.words m 0
        → Holds bytes opening (stepped s m r id [] (notes m (place m) r v) keeps)
    missed m r below is =
        let w : Known = notes m (place m) r v in
        let visits : Visits p w h.mail.boxes =
        one-more p w h.mail.boxes m
        (record {
          found = r;
          left = r;
          alike = record { role = refl; me = refl };
          role = role;
          below = below;
          was = is ∙ (h.each_box m below).shows;
          is = is ∙ (h.each_box m below).shows;
          same = λ k apart. refl;
          visits = refl;
        }) in
        subst
        (λ (ws : List ℕ).
        Holds bytes opening (record { words = ws; homes = s.homes; views = set s.views id w }))
        (sym (set-get_or s.words m 0) ∙ ap (set s.words m) (sym is))
        (remarked p w (record { role = refl; me = refl }) refl refl visits
        (subst
        (SeatOk opening h.log (slice_index s.words (board_at opening)) (set s.views id w)
        (record h.mail { visits = visits.all }) id w)
        (sym role)
        (still-node ok (visits.mine role) ok.shows))
        (h.learned id v p.at))

    pub claim-hit : (m : ℕ) → m < mailboxes opening → v.me ≡ m / nodes_of opening
        → get_or s.words m 0 ≡ 0 → (c : List (ℕ × S))
        → (x : S) × (get_elem? s.homes m ≡ some (some x))
        × Holds bytes opening (stepped s m 3 id c (claims m (place m) v) (takes m x)) × IsFresh m v
    claim-hit m below me_is hit c =
        let b = h.each_box m below in
        let is = is-empty (h.mail.boxes m) (sym b.shows ∙ hit) in
        let lies = subst
        (Content bytes (nodes_of opening) (run opening h.log) s.homes s.views m) is b.content in
        let loose : (j : ℕ) → holder (h.mail.boxes m) ≢ suc j =
        λ j e. (let never : 0 ≡ suc j = sym (ap holder is) ∙ e in omega arith) in
        let w : Known = claims m (place m) v in (
          lies.0,
          lies.1,
          moved p w m 3 (filling_by id) (record {
            home = none;
            below = below;
            role = role;
            seat = still-seat;
            shows = refl;
            content = (w, set-at s.views id w v p.at, role, me_is, has-here m v.filling);
            free = λ j _. loose j;
            like = λ k apart. record { fills = has-more m k v.filling apart; empties = refl };
            taken = ok.released;
            fills = λ _. refl;
            empties = λ f e. absurd (loose id (ap holder (ok.empties m f e).1));
            posted = h.mail.posted m;
            got = h.mail.got m;
            in_order = subst (λ (y : Box). h.mail.posted m ≡ h.mail.got m ++ lying y) is
                (h.in_order m below);
            sends = ok.sends m below;
            gets = ok.gets m below;
            sends_none = λ _. refl;
            gets_none = λ _. refl;
            found = 0;
            was = sym (ap face is);
            visits = refl;
            sent = λ k apart. refl;
            took = λ k apart. refl;
          }),
          fresh m (loose id),
        )

    pub take-hit : (m : ℕ) → m < mailboxes opening → v.me ≡ m % nodes_of opening
        → get_or s.words m 0 ≡ 1 → (c : List (ℕ × S))
        → (f : Plain) × (x : S) × (get_elem? s.homes m ≡ some (some x))
        × Holds bytes opening (stepped s m 2 id c (takes_in m (place m) f v) (takes m x))
        × IsFresh m v
        × Spells f (bytes x) × IsInNet (run opening h.log) f × (sender f ≡ m / nodes_of opening)
        × (receiver f ≡ m % nodes_of opening)
    take-hit m below me_is hit c =
        let b = h.each_box m below in
        let is = is-full (h.mail.boxes m) (sym b.shows ∙ hit) in
        let f : Plain = is.0 in
        let lies = subst
        (Content bytes (nodes_of opening) (run opening h.log) s.homes s.views m) is.1 b.content in
        let loose : (j : ℕ) → holder (h.mail.boxes m) ≢ suc j =
        λ j e. (let never : 0 ≡ suc j = sym (ap holder is.1) ∙ e in omega arith) in
        let w : Known = takes_in m (place m) f v in (
          f,
          lies.0.0,
          lies.0.1,
          moved p w m 2 (emptying_by id f) (record {
            home = none;
            below = below;
            role = role;
            seat = still-seat;
            shows = refl;
            content = (w, set-at s.views id w v p.at, role, me_is, found-here m f v.emptying);
            free = λ j _. loose j;
            like = λ k apart.
                record { fills = refl; empties = found-more m k f v.emptying apart };
            taken = λ k g e. ⊎_elim
                (λ before. ok.released k g before)
                (λ last. subst (IsInNet (run opening h.log)) (sym last) lies.1)
                (slice_get-push v.taken f k g e);
            fills = λ e. absurd (loose id (ap holder (ok.fills m e).1));
            empties = λ g e. (
                let some : ◌≡◌ {A = Option Plain} (Some f) (Some g) =
                sym (found-here m f v.emptying) ∙ e in
                let same : f ≡ g = cc in ap (emptying_by id) same
                );
            posted = h.mail.posted m;
            got = h.mail.got m ++ f ∷ [];
            in_order = subst (λ (y : Box). h.mail.posted m ≡ h.mail.got m ++ lying y) is.1
                (h.in_order m below) ∙ sym (append-nil (h.mail.got m ++ f ∷ []));
            sends = ok.sends m below;
            gets = λ me. ap (λ (fs : List Plain). fs ++ f ∷ []) (ok.gets m below me)
                ∙ sym (box-here (nodes_of opening) m f v.taken
                (box-number (nodes_of opening) m f lies.2 lies.3));
            sends_none = λ _. refl;
            gets_none = λ other. absurd (other me_is);
            found = 1;
            was = sym (ap face is.1);
            visits = refl;
            sent = λ k apart. refl;
            took = λ k apart. box-else (nodes_of opening) m k f v.taken
                (box-number (nodes_of opening) m f lies.2 lies.3) apart;
          }),
          fresh m (loose id),
          lies.0.2,
          lies.1,
          lies.2,
          lies.3,
        )

    pub post-done : (m : ℕ) → has m v.filling ≡ true → (x : S) (c : List (ℕ × S))
        → (owns : Owns m v (bytes x))
        → Holds bytes opening (stepped s m 1 id ((m, x) ∷ c) (posts m (place m) owns.0 v) gives)
        × (found m v.emptying ≡ None)
    post-done m filling x c owns =
        let mine = ok.fills m filling in
        let b = h.each_box m mine.0 in
        let was = subst (Content bytes (nodes_of opening) (run opening h.log) s.homes s.views m)
        mine.1 b.content in
        let is : v ≡ was.0 = some-injective v was.0 (sym p.at ∙ was.1) in
        let me_is : v.me ≡ m / nodes_of opening = ap (λ (u : Known). u.me) is ∙ was.3 in
        let f : Plain = owns.0 in
        let pos : 0 < nodes_of opening = (let below = ok.below in omega (arith, below)) in
        let to_is : receiver f ≡ m % nodes_of opening =
        owns.2 ∙ ap (λ (k : ℕ). m % k) ok.nodes_is in
        let number =
        box-number (nodes_of opening) m f (sender-is v.me v.pair.saved f owns.3 ∙ me_is) to_is in
        let long : length (run opening h.log).current ≡ nodes_of opening =
        count opening h.log h.opens in
        let net = in-net (run opening h.log) v.me v.pair.saved f
        (ap (λ (p : Pair). p.saved) ok.pair_is)
        (subst (λ (k : ℕ). v.me < k) (sym long) ok.below)
        (subst (λ (k : ℕ). receiver f < k) (sym long)
        (subst (λ (k : ℕ). k < nodes_of opening) (sym to_is) (mod-lt m pos)))
        owns.3 in (
          moved p (posts m (place m) f v) m 1 (full f) (record {
            home = some x;
            below = mine.0;
            role = role;
            seat = still-seat;
            shows = refl;
            content = (
              (x, homed m x mine.0, owns.1),
              net,
              sender-is v.me v.pair.saved f owns.3 ∙ me_is,
              to_is,
            );
            free = λ j apart. only-one id j (holder (h.mail.boxes m)) (ap holder mine.1) apart;
            like = λ k apart. record { fills = has-stays m k v.filling apart; empties = refl };
            taken = ok.released;
            fills = λ e. absurd (true≢false (sym e ∙ has-gone m v.filling));
            empties = λ g e. absurd (clash g (sym mine.1 ∙ (ok.empties m g e).1));
            posted = h.mail.posted m ++ f ∷ [];
            got = h.mail.got m;
            in_order = ap (λ (fs : List Plain). fs ++ f ∷ [])
                (subst (λ (y : Box). h.mail.posted m ≡ h.mail.got m ++ lying y) mine.1
                (h.in_order m mine.0) ∙ append-nil (h.mail.got m));
            sends = λ me. ap (λ (fs : List Plain). fs ++ f ∷ []) (ok.sends m mine.0 me)
                ∙ sym (box-here (nodes_of opening) m f v.sent number);
            gets = ok.gets m mine.0;
            sends_none = λ other. absurd (other me_is);
            gets_none = λ _. refl;
            found = 3;
            was = sym (ap face mine.1);
            visits = refl;
            sent = λ k apart. box-else (nodes_of opening) m k f v.sent number apart;
            took = λ k apart. refl;
          }),
          none-from (found m v.emptying) (λ g e. clash g (sym mine.1 ∙ (ok.empties m g e).1)),
        )
      where
        clash : (g : Plain) → filling_by id ≡ emptying_by id g → ⊥
        clash g e = let never : ◌≡◌ {A = ℕ} 3 2 = ap face e in absurd cc

    pub clear-done : (m : ℕ) (f : Plain) → found m v.emptying ≡ Some f → (x : S) (c : List (ℕ × S))
        → Holds bytes opening (stepped s m 0 id ((m, x) ∷ c) (clears m (place m) v) gives)
        × (has m v.filling ≡ false)
    clear-done m f emptying x c =
        let mine = ok.empties m f emptying in (
          moved p (clears m (place m) v) m 0 empty (record {
            home = some x;
            below = mine.0;
            role = role;
            seat = still-seat;
            shows = refl;
            content = (x, homed m x mine.0);
            free = λ j apart. only-one id j (holder (h.mail.boxes m)) (ap holder mine.1) apart;
            like = λ k apart. record { fills = refl; empties = found-stays m k v.emptying apart };
            taken = ok.released;
            fills = λ e. absurd (clash (sym (ok.fills m e).1 ∙ mine.1));
            empties = λ g e. (
                let never : ◌≡◌ {A = Option Plain} (Some g) None =
                sym e ∙ found-gone m v.emptying in absurd cc
                );
            posted = h.mail.posted m;
            got = h.mail.got m;
            in_order = subst (λ (y : Box). h.mail.posted m ≡ h.mail.got m ++ lying y) mine.1
                (h.in_order m mine.0);
            sends = ok.sends m mine.0;
            gets = ok.gets m mine.0;
            sends_none = λ _. refl;
            gets_none = λ _. refl;
            found = 2;
            was = sym (ap face mine.1);
            visits = refl;
            sent = λ k apart. refl;
            took = λ k apart. refl;
          }),
          false_from_ne_true (has m v.filling) (λ e. clash (sym (ok.fills m e).1 ∙ mine.1)),
        )
      where
        clash : filling_by id ≡ emptying_by id f → ⊥
        clash e = let never : ◌≡◌ {A = ℕ} 3 2 = ap face e in absurd cc
