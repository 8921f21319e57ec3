-- After each step, what a node still has to hear is in flight.
use Rattle.std.proofs.Common.{ltb-true, cond, ◌≡◌, ℕ, ◌<◌, ◌≤◌, ltb, set, refl, ap, ◌∙◌, ◌≢◌, ◌+◌, ◌⊎◌, Bool, true, List, [], length, map, get_or, Option, Some, Ok, slice_get, sym, subst, ⊎_elim, inl, inr, arith, le_refl, get_or-set_same, get_or-set_other}
use Rattle.std.proofs.lemmas.Bool.{cond_both, ltb-false, cond-true, cond-false, le-ltb, cases_eq, cases_lt, lt-ltb, and_parts, eqb-false, not-true}
use Rattle.msg.specs.declared.body.Body.{Body}
use Rattle.model.specs.State.{Phases, LocalState, NodeState, got_from, sent_to}
use Rattle.model.specs.Effects.{at_rest}
use Rattle.model.specs.Counting.{append}
use Rattle.model.specs.Shading.{see_to, join, joined}
use Rattle.model.specs.Steps.{count_in, take_carried, take_body, settled, taken_in, receive, is_addressed, tests}
use Rattle.model.proofs.Joining.{join-phases}
use Rattle.std.proofs.Math.Path.{fun_ext}
use Rattle.ids.specs.Limits.{Shaped, IsShape}
use Rattle.msg.specs.declared.body.Message.{Message}
use Rattle.model.specs.declared.event.Answer.{Answer}
use Rattle.model.specs.declared.step.Step.{Step}
use Rattle.model.specs.Checks.{AllPass}
use Rattle.model.specs.World.{new_world, run}
use Rattle.model.specs.Cuts.{Cut, cut, taken, IsInFlight, Becomes, PlainStep, acts, delivers, PlainRun, still, further}
use Rattle.model.proofs.Lookups.{at_set, get_or-replicate_any}
use Rattle.laws.proofs.Lookups.{set-no_fewer}
use Rattle.laws.proofs.StepFacts.{Receipt, repeated, next, act-ok, receipt-cases}
use Rattle.laws.proofs.Cuts.{cuts-extend}
use Rattle.laws.proofs.Turns.{Turn, at_becomes, at_turn, flies, StandsAt}
use Rattle.model.proofs.Leaving.{own-stands, taken-stands}
use Rattle.laws.proofs.Base.{inside-where, no-node-refuses, no-node-takes_nothing, first_in_flight, own-heard, taken-heard, at-new}
use Rattle.laws.proofs.Invariant.{phases_of, cycle_of, BodyFits, Inv}
use Rattle.laws.proofs.Replies.{stamp-most}
use Rattle.laws.proofs.Live.{Whole, run-whole, new-whole, several}
use Rattle.laws.proofs.progress.Heard.{taken-others, taken-placed, Others, ended_message, swept_message, Heard, alone-turn, Owns, own-heard-on}
use Rattle.msg.specs.declared.body.Body.TheVariants as body

-- an Ended or a Swept is heard
abbrev pub heard_phases : ℕ → ℕ → Body → Phases → Phases
heard_phases from stamp body.Ended ph = record ph { ended = ph.cycle }
heard_phases from stamp body.Swept ph = record ph { reports = set ph.reports from stamp }
heard_phases from stamp b ph = ph

heard-same : (from stamp : ℕ) (b : Body) (ph : Phases)
    → ((heard_phases from stamp b ph).cycle ≡ ph.cycle)
    × ((heard_phases from stamp b ph).swept ≡ ph.swept)
    × ((heard_phases from stamp b ph).cursor ≡ ph.cursor)
heard-same from stamp body.Ended ph = (refl, refl, refl)
heard-same from stamp b ph = (refl, refl, refl)

body-phases : (from stamp : ℕ) (b : Body) (p : LocalState)
    → (take_body from stamp b p).local.phases ≡ heard_phases from stamp b p.phases
unfolding take_body append see_to
body-phases from stamp body.Ended p = refl
body-phases from stamp b p = refl

settled-phases : (from number stamp : ℕ) (b : Body) (p : LocalState)
    → (settled from number stamp b p).local.phases ≡ heard_phases from stamp b p.phases
unfolding settled count_in see_to
settled-phases from number stamp b p = body-phases from stamp b (take_carried stamp b p).local

-- the phases of a node in the message's cycle or past it, after it has joined if need be
abbrev joined_to : ℕ → Phases → Phases
joined_to stamp ph = cond (ltb ph.cycle stamp) (record ph { cycle = stamp; cursor = 0 }) ph

taken-phases : (p : LocalState) (from number stamp : ℕ) (b : Body)
    → (taken_in p from number stamp b).local.phases
    ≡ heard_phases from stamp b (joined_to stamp p.phases)
unfolding taken_in
taken-phases p from number stamp b =
    settled-phases from number stamp b (joined p stamp).local
    ∙ ap (heard_phases from stamp b)
    (cond_both (ltb p.phases.cycle stamp) (join p stamp) (at_rest p)
    (λ w. w.local.phases ≡ joined_to stamp p.phases)
    (λ ahead. join-phases p stamp ∙ sym (cond-true (ltb p.phases.cycle stamp) _ _ ahead))
    (λ here. sym (cond-false (ltb p.phases.cycle stamp) _ _ here)))

-- what they have in common with those before
joined-keeps : (stamp : ℕ) (ph : Phases) → ((joined_to stamp ph).ended ≡ ph.ended)
    × ((joined_to stamp ph).swept ≡ ph.swept) × ((joined_to stamp ph).reports ≡ ph.reports)
joined-keeps stamp ph =
    cond_both (ltb ph.cycle stamp) (record ph { cycle = stamp; cursor = 0 }) ph
    (λ z. (z.ended ≡ ph.ended) × (z.swept ≡ ph.swept) × (z.reports ≡ ph.reports))
    (λ _. (refl, refl, refl)) (λ _. (refl, refl, refl))

joined-least : (stamp : ℕ) (ph : Phases) → ph.ended ≤ ph.cycle
    → (stamp ≤ (joined_to stamp ph).cycle) × (ph.ended ≤ (joined_to stamp ph).cycle)
joined-least stamp ph sound =
    cond_both (ltb ph.cycle stamp) (record ph { cycle = stamp; cursor = 0 }) ph
    (λ z. (stamp ≤ z.cycle) × (ph.ended ≤ z.cycle))
    (λ ahead. (le_refl stamp, omega (arith, sound, ltb-true ph.cycle stamp ahead)))
    (λ here. (ltb-false ph.cycle stamp here, sound))

-- ---- a receipt

-- the first message in flight on a link was received
pub record Took (shape : Shaped) (c d : Cut) (from to : ℕ) (x : Message) : Type 0 where
  pub inv : Inv shape c
  pub inside : to < shape.nodes
  pub apart : from ≢ to
  pub flight : IsInFlight c from to (taken c from to) x
  pub turn : Turn c d to
      (taken_in (c to).local from (taken c from to + 1) x.stamp x.body).local
      (taken_in (c to).local from (taken c from to + 1) x.stamp x.body).sends

module _ {shape : Shaped} {c d : Cut} {from to : ℕ} {x : Message} (h : Took shape c d from to x)
  where
    abbrev pub taker : LocalState
    taker = (c to).local

    abbrev pub after_it : LocalState
    after_it = (taken_in taker from (taken c from to + 1) x.stamp x.body).local

    pub fit : BodyFits shape.nodes (phases_of c) from to x.stamp x.body
    fit = h.inv.messages.fits from to (taken c from to) x h.flight

    pub stamp-latest : x.stamp ≤ cycle_of c 0
    stamp-latest = stamp-most shape.nodes (phases_of c) from to x.stamp x.body fit

    abbrev came : Phases
    came = joined_to x.stamp taker.phases

    came-is : after_it.phases ≡ heard_phases from x.stamp x.body came
    came-is = taken-phases taker from (taken c from to + 1) x.stamp x.body

    came-keeps : (came.ended ≡ taker.phases.ended) × (came.swept ≡ taker.phases.swept)
        × (came.reports ≡ taker.phases.reports)
    came-keeps = joined-keeps x.stamp taker.phases

    came-least : (x.stamp ≤ came.cycle) × (taker.phases.ended ≤ came.cycle)
    came-least = joined-least x.stamp taker.phases (h.inv.phased.ended to)

    -- the receiver joins the message's cycle, or is in its own as before
    pub took-joins : ((cycle_of c to < x.stamp) × (after_it.phases.cycle ≡ x.stamp))
        ⊎ ((x.stamp ≤ cycle_of c to) × (after_it.phases.cycle ≡ cycle_of c to)
        × (after_it.phases.cursor ≡ (phases_of c to).cursor))
    took-joins =
        let same = heard-same from x.stamp x.body came in
        let cycle : after_it.phases.cycle ≡ came.cycle =
        ap (λ (z : Phases). z.cycle) came-is ∙ same.0 in
        ⊎_elim {C = ((cycle_of c to < x.stamp) × (after_it.phases.cycle ≡ x.stamp))
        ⊎ ((x.stamp ≤ cycle_of c to) × (after_it.phases.cycle ≡ cycle_of c to)
        × (after_it.phases.cursor ≡ (phases_of c to).cursor))}
        (λ (ahead : cycle_of c to < x.stamp).
        inl (
          ahead,
          cycle
              ∙ ap (λ (z : Phases). z.cycle)
              (cond-true (ltb taker.phases.cycle x.stamp) _ taker.phases (lt-ltb _ _ ahead)),
        ))
        (λ (here : x.stamp ≤ cycle_of c to).
        let stays : came ≡ taker.phases =
        cond-false (ltb taker.phases.cycle x.stamp) _ taker.phases (le-ltb _ _ here) in
        inr (
          here,
          cycle ∙ ap (λ (z : Phases). z.cycle) stays,
          ap (λ (z : Phases). z.cursor) came-is ∙ same.2 ∙ ap (λ (z : Phases). z.cursor) stays,
        ))
        (cases_lt (cycle_of c to) x.stamp)

    -- node 0 joins no cycle
    pub took-cycle : cycle_of d 0 ≡ cycle_of c 0
    took-cycle =
        at_turn (λ j s. j ≡ 0 → s.local.phases.cycle ≡ cycle_of c j) h.turn
        (λ here.
        ap (λ (z : Phases). z.cycle) came-is ∙ (heard-same from x.stamp x.body came).0 ∙ same here)
        (λ j _ _. refl) 0 refl
      where
        same : to ≡ 0 → came.cycle ≡ cycle_of c to
        same here =
            ap (λ (z : Phases). z.cycle)
            (cond-false (ltb taker.phases.cycle x.stamp) _ taker.phases
            (le-ltb _ _
            (let k : cycle_of c to ≡ cycle_of c 0 = ap (cycle_of c) here in
            omega (arith, stamp-latest, k))))

    pub got-it : after_it.got ≡ set taker.got from (taken c from to + 1)
    got-it = (taken-stands taker from (taken c from to + 1) x.stamp x.body).got

    -- a message in flight stays so, unless it was received
    pub flies-on : (f t place : ℕ) (y : Message) → IsInFlight c f t place y
        → IsInFlight d f t place y ⊎ ((f ≡ from) × (t ≡ to) × (y ≡ x))
    flies-on f t place y flight =
        by (cases_eq t to) (cases_eq f from) (cases_eq place (taken c from to))
      where
        Stays : Type 0
        Stays = IsInFlight d f t place y ⊎ ((f ≡ from) × (t ≡ to) × (y ≡ x))

        flying : taken d f t ≤ place → Stays
        flying later = inl (flies h.turn f t place y flight later)

        here : t ≡ to → taken d f t ≡ get_or (set taker.got from (taken c from to + 1)) f 0
        here a =
            ap (taken d f) a
            ∙ ap (λ (s : NodeState). got_from s.local f) h.turn.becomes.changed
            ∙ ap (λ (z : List ℕ). get_or z f 0) got-it

        by : (t ≡ to) ⊎ (t ≢ to) → (f ≡ from) ⊎ (f ≢ from)
            → (place ≡ taken c from to) ⊎ (place ≢ taken c from to) → Stays
        by (inl a) (inl b) (inl e) =
            let there : slice_get (sent_to (c from) to) (taken c from to) ≡ Some y =
            subst (λ (z : ℕ). slice_get (sent_to (c from) to) z ≡ Some y) e
            (subst (λ (z : ℕ). slice_get (sent_to (c z) to) place ≡ Some y) b
            (subst (λ (z : ℕ). slice_get (sent_to (c f) z) place ≡ Some y) a flight.there)) in
            let both : ◌≡◌ {A = Option Message} (Some y) (Some x) = sym there ∙ h.flight.there in
            inr (b, a, cc)
        by (inr a) y1 z1 =
            flying
            (let same : taken d f t ≡ taken c f t =
            ap (λ (s : NodeState). got_from s.local f) (h.turn.becomes.others t a) in
            omega (arith, same, flight.later))
        by (inl a) (inr b) z1 =
            flying
            (let other = get_or-set_other taker.got from f (taken c from to + 1) 0 b in
            let was : taken c f t ≡ get_or taker.got f 0 = ap (taken c f) a in
            omega (arith, here a, other, was, flight.later))
        by (inl a) (inl b) (inr e) =
            flying
            (let was : taken c f t ≡ get_or taker.got f 0 = ap (taken c f) a in
            let same : taken c f t ≡ taken c from to = was ∙ ap (λ (z : ℕ). taken c z to) b in
            let most : get_or (set taker.got from (taken c from to + 1)) f 0 ≤ place =
            at_set (λ z. z ≤ place) taker.got from f (taken c from to + 1) 0
            (omega (arith, same, e, flight.later)) (omega (arith, was, flight.later)) in
            omega (arith, here a, most))

    remains : (f t : ℕ) (y : Message) → StandsAt c f t y
        → StandsAt d f t y ⊎ ((f ≡ from) × (t ≡ to) × (y ≡ x))
    remains f t y at = ⊎_elim {C = StandsAt d f t y ⊎ ((f ≡ from) × (t ≡ to) × (y ≡ x))}
        (λ flight. inl (record { place = at.place; flight = flight })) (λ received. inr received)
        (flies-on f t at.place y at.flight)

    now_here : (d to).local ≡ after_it
    now_here = ap (λ (s : NodeState). s.local) h.turn.becomes.changed

    -- no node forgets that marking has ended, or that a node has swept
    ended-more : (j : ℕ) → (phases_of c j).ended ≤ (phases_of d j).ended
    ended-more =
        at_turn (λ j s. (phases_of c j).ended ≤ s.local.phases.ended) h.turn
        (by x.body came-is) (λ j _. le_refl _)
      where
        by : (b : Body) → after_it.phases ≡ heard_phases from x.stamp b came
            → taker.phases.ended ≤ after_it.phases.ended
        by body.Ended e =
            omega (arith, came-least.1, ap (λ (z : Phases). z.ended) e)
        by b e = (omega (arith, came-keeps.0, ap (λ (z : Phases). z.ended) e))

    reports-more : (j k : ℕ) → get_or (phases_of c k).reports j 0
        ≤ get_or (phases_of d k).reports j 0
    reports-more j =
        at_turn (λ k s. get_or (phases_of c k).reports j 0 ≤ get_or s.local.phases.reports j 0)
        h.turn (by x.body fit came-is) (λ k _. le_refl _)
      where
        by : (b : Body) → BodyFits shape.nodes (phases_of c) from to x.stamp b
            → after_it.phases ≡ heard_phases from x.stamp b came
            → get_or taker.phases.reports j 0 ≤ get_or after_it.phases.reports j 0
        by body.Swept f e =
            subst (λ (z : List ℕ). get_or taker.phases.reports j 0 ≤ get_or z j 0)
            (sym (ap (λ (z : Phases). z.reports) e
            ∙ ap (λ (z : List ℕ). set z from x.stamp) came-keeps.2))
            (set-no_fewer taker.phases.reports from x.stamp
            (let same : get_or taker.phases.reports from 0
            ≡ get_or (phases_of c 0).reports from 0 =
            ap (λ (z : ℕ). get_or (phases_of c z).reports from 0) f.0 in
            let b = f.4 in omega (arith, same, f.2, b)) j)
        by b f e =
            (let same = ap (λ (z : List ℕ). get_or z j 0)
            (ap (λ (z : Phases). z.reports) e ∙ came-keeps.2) in
            omega (arith, same))

    pub new-swept : (j : ℕ) → (phases_of d j).swept ≡ (phases_of c j).swept
    new-swept =
        at_turn (λ j s. s.local.phases.swept ≡ (phases_of c j).swept) h.turn
        (ap (λ (z : Phases). z.swept) came-is ∙ (heard-same from x.stamp x.body came).1
        ∙ came-keeps.1) (λ j _. refl)

    -- nothing that node 0 receives says that marking has ended
    pub first-ended : (phases_of d 0).ended ≡ (phases_of c 0).ended
    first-ended =
        at_turn (λ j s. j ≡ 0 → s.local.phases.ended ≡ (phases_of c j).ended) h.turn
        (by x.body fit came-is) (λ j _ _. refl) 0 refl
      where
        by : (b : Body) → BodyFits shape.nodes (phases_of c) from to x.stamp b
            → after_it.phases ≡ heard_phases from x.stamp b came → to ≡ 0
            → after_it.phases.ended ≡ (phases_of c to).ended
        by body.Ended f e here = absurd (h.apart (f.0 ∙ sym here))
        by b f e here = ap (λ (z : Phases). z.ended) e ∙ came-keeps.0

    ended-heard : Heard shape.nodes c → (j : ℕ) → j < shape.nodes
        → (phases_of d j).ended < (phases_of d 0).ended
        → StandsAt d 0 j (ended_message (phases_of d 0).ended)
    ended-heard heard j inside less =
        subst (λ (z : ℕ). StandsAt d 0 j (ended_message z)) (sym first-ended)
        (⊎_elim {C = StandsAt d 0 j (ended_message (phases_of c 0).ended)}
        (λ stays. stays)
        (λ received.
        absurd
        (let all : (phases_of d j).ended ≡ came.cycle =
        ap (λ (k : ℕ). (phases_of d k).ended) received.1
        ∙ ap (λ (p : LocalState). p.phases.ended) now_here
        ∙ ap (λ (z : Phases). z.ended) came-is
        ∙ ap (λ (m : Message). (heard_phases from x.stamp m.body came).ended)
        (sym received.2) in
        let stamp : (phases_of c 0).ended ≡ x.stamp = ap (λ (m : Message). m.stamp) received.2 in
        omega (arith, all, stamp, came-least.0, first-ended, less)))
        (remains 0 j (ended_message (phases_of c 0).ended)
        (heard.ended j inside
        (omega (arith, ended-more j, first-ended, less)))))

    swept-heard : Heard shape.nodes c → (j : ℕ) → 0 < j → j < shape.nodes
        → get_or (phases_of d 0).reports j 0 < (phases_of d j).swept
        → StandsAt d j 0 (swept_message (phases_of d j).swept)
    swept-heard heard j above inside less =
        let same : (phases_of d j).swept ≡ (phases_of c j).swept = new-swept j in
        subst (λ (z : ℕ). StandsAt d j 0 (swept_message z)) (sym same)
        (⊎_elim {C = StandsAt d j 0 (swept_message (phases_of c j).swept)}
        (λ stays. stays)
        (λ received.
        absurd
        (let reports : (phases_of d 0).reports ≡ set (phases_of c 0).reports from x.stamp =
        ap (λ (k : ℕ). (phases_of d k).reports) received.1
        ∙ ap (λ (p : LocalState). p.phases.reports) now_here
        ∙ ap (λ (z : Phases). z.reports) came-is
        ∙ ap (λ (m : Message). (heard_phases from x.stamp m.body came).reports)
        (sym received.2)
        ∙ ap (λ (z : List ℕ). set z from x.stamp)
        (came-keeps.2 ∙ ap (λ (k : ℕ). (phases_of c k).reports) (sym received.1)) in
        let told : get_or (phases_of d 0).reports j 0 ≡ x.stamp =
        ap (λ (z : List ℕ). get_or z j 0) reports
        ∙ ap (λ (k : ℕ). get_or (set (phases_of c 0).reports from x.stamp) k 0) received.0
        ∙ get_or-set_same (phases_of c 0).reports from x.stamp 0
        (let k : from < length (phases_of c 0).reports =
        omega (arith, h.inv.phased.reporters, inside, received.0) in k)
        in
        let stamp : (phases_of c j).swept ≡ x.stamp = ap (λ (m : Message). m.stamp) received.2 in
        omega (arith, told, stamp, same, less)))
        (remains j 0 (swept_message (phases_of c j).swept)
        (heard.swept j above inside
        (omega (arith, reports-more j 0, same, less)))))

    taken-heard-on : Heard shape.nodes c → Heard shape.nodes d
    taken-heard-on heard =
        let own : taker.own ≡ to = h.inv.base.own to h.inside in
        record {
          alone = alone-turn h.turn
              (subst (λ (k : ℕ). Others k
              (taken_in taker from (taken c from to + 1) x.stamp x.body).sends) own
              (taken-others taker from (taken c from to + 1) x.stamp x.body
              (λ e. h.apart (e ∙ own))))
              heard.alone;
          placed =
              at_turn (λ j y. y.local.phases.cursor ≤ length y.local.heap.slots) h.turn
              (taken-placed taker from (taken c from to + 1) x.stamp x.body (heard.placed to))
              (λ j _. heard.placed j);
          ended = ended-heard heard;
          swept = swept-heard heard;
        }

-- ---- runs

-- The first message in flight on a link was given to its receiver: nothing changed, or it was
-- received.
pub plain-took : {shape : Shaped} {c d : Cut} {from to : ℕ} {x : Message} {s : NodeState}
    {a : Answer} → Inv shape c → IsInFlight c from to (taken c from to) x
    → receive (c to) from to (taken c from to + 1) x.stamp x.body ≡ Ok (s, a) → Becomes c d to s
    → (d ≡ c) ⊎ Took shape c d from to x
plain-took {shape} {c} {d} {from} {to} {x} {s} {a} inv flight answered becomes =
    by (receipt-cases (c to) (first_in_flight c from to x) s a answered)
  where
    by : Receipt (c to) (first_in_flight c from to x) s a → (d ≡ c) ⊎ Took shape c d from to x
    by (repeated same says) =
        inl (fun_ext (at_becomes (λ j z. z ≡ c j) becomes same (λ j _. refl)))
    by (next turn may found) =
        let inside : to < shape.nodes =
        inside-where to (λ z. is_addressed z.local from to ≡ true) inv.base found.passed.0
        (no-node-takes_nothing from to) in
        inr (record {
          inv = inv;
          inside = inside;
          apart = λ e. eqb-false from (c to).local.own
              (not-true _ (and_parts _ _ (and_parts _ _ found.passed.0).1).1)
              (e ∙ sym (inv.base.own to inside));
          flight = flight;
          turn = record {
            becomes = subst (λ (z : NodeState). Becomes c d to z) found.state becomes;
            heard = taken-heard (c to).local from (taken c from to + 1)
                (taken-stands (c to).local from (taken c from to + 1) x.stamp x.body) (omega arith);
          };
        })

heard-plain : {shape : Shaped} {c d : Cut} → 2 ≤ shape.nodes → Inv shape c → PlainStep c d
    → Heard shape.nodes c → Heard shape.nodes d
heard-plain {shape = shape} {c = c} {d = d} several inv (acts i e s a own answered becomes) heard =
    let found = act-ok (c i) e s a answered in
    let owns : Owns shape c d i e = record {
      inv = inv;
      several = several;
      inside = inside-where i (λ z. AllPass (tests z.local e)) inv.base found.passed
          (no-node-refuses e own);
      own = own;
      passed = found.passed;
      turn = record {
        becomes = subst (λ (z : NodeState). Becomes c d i z) found.state becomes;
        heard = own-heard (own-stands (c i).local (map length (c i).sent) e own);
      };
    } in
    own-heard-on e owns heard
heard-plain {shape = shape} several inv (delivers from to x s a flight answered becomes) heard =
    ⊎_elim (λ same. subst (λ (z : Cut). Heard shape.nodes z) (sym same) heard)
    (λ took. taken-heard-on took heard) (plain-took inv flight answered becomes)

heard-run : {shape : Shaped} {c d : Cut} → IsShape shape → PlainRun c d → Whole shape c
    → Heard shape.nodes c → Heard shape.nodes d
heard-run {shape = shape} limits (still same) whole heard =
    subst (λ (z : Cut). Heard shape.nodes z) (sym (fun_ext same)) heard
heard-run limits (further before s) whole heard =
    heard-plain (several limits) (run-whole limits before whole).inv s
    (heard-run limits before whole heard)

new-heard : (shape : Shaped) (choice : ℕ → Bool)
    → Heard shape.nodes (cut (new_world shape) choice)
new-heard shape choice =
    let c : Cut = cut (new_world shape) choice in
    let zero_is : (i : ℕ) → ((phases_of c i).ended ≡ 0) × ((phases_of c i).swept ≡ 0) =
    λ i. at-new shape choice i (λ s. (s.local.phases.ended ≡ 0) × (s.local.phases.swept ≡ 0))
    (λ z own. (refl, refl)) in
    record {
      alone = λ i. at-new shape choice i (λ s. sent_to s i ≡ [])
          (λ z own. get_or-replicate_any {A = List Message} z.nodes i []);
      placed = λ i.
          at-new shape choice i (λ s. s.local.phases.cursor ≤ length s.local.heap.slots)
          (λ z own. omega arith);
      ended = λ i inside less. absurd (omega (arith, (zero_is 0).0, less));
      swept = λ i above inside less. absurd (omega (arith, (zero_is i).1, less));
    }

pub all-heard : (shape : Shaped) → IsShape shape → (steps : List Step) (choice : ℕ → Bool)
    → Heard shape.nodes (cut (run (new_world shape) steps) choice)
all-heard shape limits steps choice =
    let before = cuts-extend shape limits [] steps choice in
    heard-run limits before.1 (new-whole shape limits before.0) (new-heard shape before.0)
