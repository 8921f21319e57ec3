-- Raising a number on the board, and looking at the board, keep the rule.
use Rattle.std.proofs.Common.{◌≡◌, ℕ, ◌+◌, ◌≤◌, max, List, length, set, refl, sym, ap, ◌∙◌, subst, arith, le_refl, length-set, get_or-set_other, get_or-set_same}
use Rattle.std.proofs.Math.Nat.{max-le, le-max_left}
use Rattle.std.specs.Prelude.{slice_index}
use mathlib.Core.Option.{none}
use lib.Seq.{set-get_or}
use Rattle.atomic_table.specs.Table.{Me, step, keeps, Allows}
use Rattle.ids.specs.declared.limits.TheConstants.{GREATEST_CYCLE}
use Rattle.model.specs.World.{World, run}
use Rattle.wire.specs.Views.{node, watch, Pair, Known, marks, raises, pair_at}
use Rattle.wire.specs.Rule.{ended_of, WatchOk, SeatOk, Holds}
use Rattle.wire.specs.Plays.{HasEnded, raised, looked}
use Rattle.wire.proofs.Boxes.{mailboxes, board_at}
use Rattle.wire.proofs.Stays.{Standing, still-node, noted, remarked, node-of, same-log, none-more}

module _ {S : Type 0} {bytes : S → List ℕ} {opening : World} where
  raise-at : (slots id k : ℕ) (me : Me S Known) → me.0.role ≡ node → me.0.me ≡ 0
      → k ≤ me.0.pair.saved.local.phases.ended → k ≤ GREATEST_CYCLE
      → Allows (Holds bytes opening) slots id me (board_at opening) (λ r. max r k)
      (raised (step slots (board_at opening) k 0 none) me)
  raise-at slots id k me role first ended within s h wide at small =
      let here : Standing bytes opening =
      record { state = s; holds = h; id = id; view = me.0; at = at } in
      let v : Known = me.0 in
      let r : ℕ = slice_index s.words (board_at opening) in
      let words : List ℕ = set s.words (board_at opening) (max r k) in
      let long : length s.words ≡ mailboxes opening + 2 = h.wide in
      let ok = node-of here role in
      let same = get_or-set_same s.words (board_at opening) (max r k) 0 (omega arith) in
      let saved : k ≤ ended_of (run opening h.log) =
      subst (λ (p : Pair). k ≤ p.saved.local.phases.ended)
      (sym ok.pair_is ∙ ap (pair_at (run opening h.log)) first) ended in (
        raises k v,
        keeps,
        tt,
        noted here (raises k v) h.log words (record {
          alike = record { role = refl; me = refl };
          filling = refl;
          emptying = refl;
          extends = same-log;
          wide = length-set s.words (board_at opening) (max r k);
          boxes = λ m below. get_or-set_other s.words (board_at opening) m (max r k) 0
              (omega arith);
          events = h.events;
          count = get_or-set_other s.words (board_at opening) (mailboxes opening) (max r k) 0
              (omega arith) ∙ h.count;
          board = subst (λ (z : ℕ). z ≤ ended_of (run opening h.log)) (sym same)
              (max-le h.board saved);
          fits = subst (λ (z : ℕ). z ≤ GREATEST_CYCLE) (sym same)
              (max-le h.fits within);
          higher = subst (λ (z : ℕ). r ≤ z) (sym same) (le-max_left r k);
          shown = λ other. absurd (other role first);
          visits = none-more (record { role = refl; me = refl }) refl;
          mine = subst
              (SeatOk opening h.log (slice_index words (board_at opening))
              (set s.views id (raises k v))
              h.mail id (raises k v))
              (sym role)
              (still-node ok ok.visited
              (λ _. same ∙ ap (λ (z : ℕ). max z k) (ok.shows first)));
          seen = h.learned id v at;
        }),
        (
          refl,
          refl,
          subst (λ (o : World). HasEnded o k) (sym ok.opening_is) (h.log, h.events, saved),
        ),
      )

  look-at : (slots id : ℕ) (me : Me S Known) → me.0.role ≡ watch
      → Allows (Holds bytes opening) slots id me (board_at opening) (λ r. r)
      (looked (step slots (board_at opening) 0 0 none) me)
  look-at slots id me role s h wide at small =
      let here : Standing bytes opening =
      record { state = s; holds = h; id = id; view = me.0; at = at } in
      let v : Known = me.0 in
      let r : ℕ = slice_index s.words (board_at opening) in
      let ok : WatchOk opening r v =
      subst (SeatOk opening h.log r s.views h.mail id v) role (h.each_seat id v at) in (
        marks r v,
        keeps,
        tt,
        subst
            (λ (ws : List ℕ).
            Holds bytes opening
            (record { words = ws; homes = s.homes; views = set s.views id (marks r v) }))
            (sym (set-get_or s.words (board_at opening) 0))
            (remarked here (marks r v) (record { role = refl; me = refl }) refl refl
            (none-more (record { role = refl; me = refl }) refl)
            (subst
            (SeatOk opening h.log r (set s.views id (marks r v)) h.mail id (marks r v))
            (sym role)
            (record { opening_is = ok.opening_is; loaded = le_refl r }))
            (h.learned id v at)),
        (
          refl,
          refl,
          ok.loaded,
          h.fits,
          subst (λ (o : World). HasEnded o r) (sym ok.opening_is) (h.log, h.events, h.board),
        ),
      )

  pub raises_allowed : {slots c : ℕ} (id k : ℕ) (me : Me S Known) → c ≡ board_at opening
      → me.0.role ≡ node
      → me.0.me ≡ 0 → k ≤ me.0.pair.saved.local.phases.ended → k ≤ GREATEST_CYCLE
      → Allows (Holds bytes opening) slots id me c (λ r. max r k)
      (raised (step slots c k 0 none) me)
  raises_allowed {slots} id k me is role first ended within =
      subst
      (λ (b : ℕ).
      Allows (Holds bytes opening) slots id me b (λ r. max r k) (raised (step slots b k 0 none) me))
      (sym is) (raise-at slots id k me role first ended within)

  pub looks_allowed : {slots c : ℕ} (id : ℕ) (me : Me S Known) → c ≡ board_at opening
      → me.0.role ≡ watch
      → Allows (Holds bytes opening) slots id me c (λ r. r) (looked (step slots c 0 0 none) me)
  looks_allowed {slots} id me is role =
      subst
      (λ (b : ℕ).
      Allows (Holds bytes opening) slots id me b (λ r. r) (looked (step slots b 0 0 none) me))
      (sym is) (look-at slots id me role)
