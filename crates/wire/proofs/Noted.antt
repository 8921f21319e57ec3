-- A seat that learns a beginning of the history keeps the rule.
use Rattle.std.proofs.Common.{◌≡◌, ℕ, List, refl, sym, ◌∙◌, subst}
use mathlib.Core.Option.{none, some}
use lib.ListN.{get_elem?}
use lib.Seq.{set-get_or}
use Rattle.atomic_table.specs.Table.{Me, step, keeps, Allows, Joins}
use Rattle.atomic_table.proofs.Lists.{set_again, set_else}
use Rattle.model.specs.declared.step.Step.{Step}
use Rattle.model.specs.World.{World}
use Rattle.wire.specs.Lists.{Continues}
use Rattle.wire.specs.Views.{node, Known, learns}
use Rattle.wire.specs.Rule.{IsOpening, SeatOk, Holds}
use Rattle.wire.specs.Plays.{Learns, learned}
use Rattle.wire.proofs.Lists.{continues-itself}
use Rattle.wire.proofs.Stays.{board_of, Standing, still-node, remarked, node-of, none-more}
use Rattle.wire.proofs.Supplying.{led}
use Rattle.std.specs.Prelude.{set}

module _ {S : Type 0} {bytes : S → List ℕ} {opening : World} where
  learnt : (p : Standing bytes opening) → p.view.role ≡ node → (seen : List Step)
      → Continues seen p.holds.log
      → Holds bytes opening (record {
        words = p.state.words;
        homes = p.state.homes;
        views = set p.state.views p.id (learns seen p.view);
      })
  learnt p role seen begins =
      let h = p.holds in
      let w : Known = learns seen p.view in
      let ok = node-of p role in
      remarked p w (record { role = refl; me = refl }) refl refl
      (none-more (record { role = refl; me = refl }) refl)
      (subst
      (SeatOk opening h.log (board_of p)
      (set p.state.views p.id w) h.mail p.id w)
      (sym role)
      (still-node ok ok.visited ok.shows))
      begins

  note-joined : (id other : ℕ) (v w : Known) → v.role ≡ node
      → Joins (Holds bytes opening) id v other w (learns w.seen v) w
  note-joined id other v w role s h at apart there =
      let here : Standing bytes opening =
      record { state = s; holds = h; id = id; view = v; at = at } in
      let both : Known = learns w.seen v in
      let was : get_elem? s.views other ≡ some w =
      sym (set_else s.views id other both apart) ∙ there in
      subst
      (λ (vs : List Known).
      Holds bytes opening (record { words = s.words; homes = s.homes; views = vs }))
      (sym (set_again (set s.views id both) other w there))
      (learnt here role w.seen (h.learned other w was))

  -- a seat learns what a note says; the note's view stays the same
  pub note_joins : (id other : ℕ) (v w spent : Known) → v.role ≡ node → w ≡ spent
      → Joins (Holds bytes opening) id v other w (learns w.seen v) spent
  note_joins id other v w spent role same =
      subst (λ (u : Known). Joins (Holds bytes opening) id v other w (learns w.seen v) u) same
      (note-joined id other v w role)

  learn-at : (slots id c : ℕ) (me : Me S Known) → me.0.role ≡ node
      → Allows (Holds bytes opening) slots id me c (λ r. r) (learned (step slots c 0 0 none) me)
  learn-at slots id c me role s h wide at small =
      let v : Known = me.0 in
      let here : Standing bytes opening =
      record { state = s; holds = h; id = id; view = v; at = at } in
      let ok = node-of here role in (
        learns h.log v,
        keeps,
        tt,
        subst
            (λ (ws : List ℕ).
            Holds bytes opening
            (record { words = ws; homes = s.homes; views = set s.views id (learns h.log v) }))
            (sym (set-get_or s.words c 0))
            (learnt here role h.log (continues-itself h.log)),
        (
          record {
            log = h.log;
            known = refl;
            opens = subst IsOpening (sym ok.opening_is) h.opens;
            leads = led here role;
            continues = h.learned id v at;
          },
          refl,
        ),
      )

  pub learns_allowed : {slots : ℕ} (id c : ℕ) (me : Me S Known) → me.0.role ≡ node
      → Allows (Holds bytes opening) slots id me c (λ r. r) (learned (step slots c 0 0 none) me)
  learns_allowed {slots} id c me role = learn-at slots id c me role

-- what a seat learned after it heeded a note
pub learned-from : (seen : List Step) (v between w : Known) → between ≡ learns seen v
    → Learns between.seen between w → Learns seen v w
learned-from seen v between w is h =
    from (subst (λ (u : Known). Learns u.seen u w) is h)
  where
    from : Learns seen (learns seen v) w → Learns seen v w
    from l = record {
      log = l.log;
      known = l.known;
      opens = l.opens;
      leads = record {
        events = l.leads.events;
        pair = l.leads.pair;
        own = l.leads.own;
        net = l.leads.net;
      };
      continues = l.continues;
    }
