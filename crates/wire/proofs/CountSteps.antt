-- A tick keeps the rule: one event enters the list.
use Rattle.std.proofs.Common.{◌≡◌, ℕ, ◌+◌, ◌%◌, ◌^◌, ◌<◌, ◌≤◌, List, [], ◌∷◌, ◌++◌, length, set, get_or, refl, sym, ap, ◌∙◌, subst, arith, le_refl, le_trans, length-set, length-append, get_or-set_other, get_or-set_same}
use Rattle.std.specs.Prelude.{slice_index}
use mathlib.Core.Option.{none}
use Rattle.atomic_table.specs.Table.{Me, step, keeps, Allows}
use Rattle.ids.specs.declared.limits.TheConstants.{GREATEST_CYCLE}
use Rattle.model.specs.declared.step.Step.{Step}
use Rattle.model.specs.World.{World, run, happens}
use Rattle.model.proofs.Runs.{run-push}
use Rattle.wire.specs.Views.{node, Pair, Known, ticks, pair_at}
use Rattle.wire.specs.Rule.{nodes_of, ended_of, AreEvents, NodeOk, SeatOk, Holds}
use Rattle.wire.specs.Plays.{Happens, Enters, ticked}
use Rattle.wire.proofs.Events.{count, width, net-push, ended-push, are-push, events-push_same, events-push_other, IsLocal, happens-local}
use Rattle.wire.proofs.Boxes.{mailboxes, board_at, set-at}
use Rattle.wire.proofs.Lists.{continues-both}
use Rattle.wire.proofs.Stays.{Standing, noted, node-of, none-more}
use Rattle.wire.proofs.Supplying.{led}

counted : (l r : ℕ) → r ≡ l % 2 ^ 64 → (r + 1) % 2 ^ 64 ≡ (l + 1) % 2 ^ 64
counted l r is = omega arith

module _ {S : Type 0} {bytes : S → List ℕ} {opening : World} where
  module _ (p : Standing bytes opening) (role : p.view.role ≡ node) (e : Step) (q : Pair)
      (event : Happens p.view e q) where
    abbrev h : Holds bytes opening p.state
    h = p.holds

    abbrev v : Known
    v = p.view

    ok : NodeOk opening h.log (slice_index p.state.words (board_at opening)) h.mail p.id v
    ok = node-of p role

    long : length (run opening h.log).current ≡ nodes_of opening
    long = count opening h.log h.opens

    local : IsLocal (run opening h.log) e v.me q
    local =
        happens-local (run opening h.log) v e q
        (record {
          below = subst (λ (k : ℕ). v.me < k) (sym long) ok.below;
          nodes = ok.nodes_is ∙ sym long;
          wide = width opening h.log h.opens;
          pair_is = ok.pair_is;
          released = ok.released;
        })
        event

    log : List Step
    log = h.log ++ e ∷ []

    now : run opening (h.log ++ e ∷ []) ≡ happens (run opening h.log) e
    now = run-push opening h.log e

    mine : NodeOk opening (h.log ++ e ∷ []) (slice_index p.state.words (board_at opening))
        h.mail p.id (ticks e q v)
    mine = record {
      below = ok.below;
      nodes_is = ok.nodes_is;
      opening_is = ok.opening_is;
      pair_is = ap (λ (w : World). pair_at w v.me) now ∙ local.here;
      events_are = ap (λ (l : List Step). l ++ e ∷ []) ok.events_are
          ∙ sym (events-push_same v.me h.log e local.node);
      released = λ k f there. net-push opening h.log h.opens e f (ok.released k f there);
      fills = ok.fills;
      empties = ok.empties;
      sends = ok.sends;
      gets = ok.gets;
      visited = ok.visited;
      shows = ok.shows;
    }

    enters : Enters e v (slice_index p.state.words (mailboxes opening)) (ticks e q v)
    enters = record {
      log = h.log;
      events = subst (λ (o : World). AreEvents o (h.log ++ e ∷ [])) (sym ok.opening_is)
          (are-push opening h.log e h.events local.event);
      before = ap (λ (o : World). pair_at (run o h.log) v.me) ok.opening_is ∙ ok.pair_is;
      after = ap (λ (o : World). pair_at (run o (h.log ++ e ∷ [])) v.me) ok.opening_is
          ∙ mine.pair_is;
      counted = h.count;
      own = mine.events_are;
    }

    -- the count afterwards
    abbrev x : ℕ
    x = (slice_index p.state.words (mailboxes opening) + 1) % 2 ^ 64

    ticked-on
        : Holds bytes opening (record {
          words = set p.state.words (mailboxes opening) x;
          homes = p.state.homes;
          views = set p.state.views p.id (ticks e q v);
        })
    ticked-on =
        let wide : length p.state.words ≡ mailboxes opening + 2 = h.wide in
        let words : List ℕ = set p.state.words (mailboxes opening) x in
        let board =
        get_or-set_other p.state.words (mailboxes opening) (board_at opening) x 0 (omega arith) in
        noted p (ticks e q v) (h.log ++ e ∷ []) words (record {
          alike = record { role = refl; me = refl };
          filling = refl;
          emptying = refl;
          extends = record {
            net = net-push opening h.log h.opens e;
            others = λ i apart. (
              ap (λ (w : World). pair_at w i) now ∙ local.others i (apart role),
              events-push_other i h.log e (λ same. apart role (sym same ∙ local.node)),
            );
            more = (e ∷ [], refl);
          };
          wide = length-set p.state.words (mailboxes opening) x;
          boxes = λ m below. get_or-set_other p.state.words (mailboxes opening) m x 0 (omega arith);
          events = are-push opening h.log e h.events local.event;
          count = get_or-set_same p.state.words (mailboxes opening) x 0 (omega arith)
              ∙ counted (length h.log) (slice_index p.state.words (mailboxes opening)) h.count
              ∙ ap (λ (k : ℕ). k % 2 ^ 64) (sym (length-append h.log (e ∷ [])));
          board = subst (λ (z : ℕ). z ≤ ended_of (run opening (h.log ++ e ∷ []))) (sym board)
              (le_trans h.board (ended-push opening h.log h.opens e));
          fits = subst (λ (z : ℕ). z ≤ GREATEST_CYCLE) (sym board) h.fits;
          higher = subst (λ (z : ℕ). get_or p.state.words (board_at opening) 0 ≤ z) (sym board)
              (le_refl _);
          shown = λ _. board;
          visits = none-more (record { role = refl; me = refl }) refl;
          mine = subst
              (SeatOk opening (h.log ++ e ∷ []) (slice_index words (board_at opening))
              (set p.state.views p.id (ticks e q v)) h.mail p.id (ticks e q v))
              (sym role)
              (subst (λ (z : ℕ). NodeOk opening (h.log ++ e ∷ []) z h.mail p.id (ticks e q v))
              (sym board) mine);
          seen = continues-both v.seen h.log (h.log ++ e ∷ []) (h.learned p.id v p.at)
              (e ∷ [], refl);
        })

  at-count : (slots id : ℕ) (me : Me S Known) (e : Step) (q : Pair) → me.0.role ≡ node
      → Happens me.0 e q
      → Allows (Holds bytes opening) slots id me (mailboxes opening) (λ r. (r + 1) % 2 ^ 64)
      (ticked e q (step slots (mailboxes opening) 1 0 none) me)
  at-count slots id me e q role event s h wide at small =
      let here : Standing bytes opening =
      record { state = s; holds = h; id = id; view = me.0; at = at } in
      let w : Known = ticks e q me.0 in
      let kept = ticked-on here role e q event in
      let after : Standing bytes opening =
      record { state = _; holds = kept; id = id; view = w; at = set-at s.views id w me.0 at } in (
        w,
        keeps,
        tt,
        kept,
        (refl, refl, enters here role e q event, (kept.log, led after role)),
      )

  pub ticks_allowed : {slots c : ℕ} (id : ℕ) (me : Me S Known) (e : Step) (q : Pair)
      → c ≡ mailboxes opening
      → me.0.role ≡ node → Happens me.0 e q
      → Allows (Holds bytes opening) slots id me c (λ r. (r + 1) % 2 ^ 64)
      (ticked e q (step slots c 1 0 none) me)
  ticks_allowed {slots} id me e q is role event =
      subst
      (λ (k : ℕ).
      Allows (Holds bytes opening) slots id me k (λ r. (r + 1) % 2 ^ 64)
      (ticked e q (step slots k 1 0 none) me))
      (sym is) (at-count slots id me e q role event)
