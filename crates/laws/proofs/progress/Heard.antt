-- What a node still has to hear is in flight: that marking has ended, and at node 0 that a node has
-- swept. No node sends anything to itself, and no cursor of a sweep is past the slots.
use Rattle.std.proofs.Common.{◌≡◌, ◌≢◌, ℕ, zero, suc, ◌+◌, ◌≤◌, ◌==◌, ltb, Bool, true, not, cond, List, [], ◌∷◌, length, option_to_list, refl, sym, ap, ◌∙◌, subst, ⊎_elim, arith, length-set, length-append, eqb-true, get_or, ◌<◌, ◌⊎◌, false, ◌++◌, map, set, inl, inr, get_or-set_other}
use Rattle.std.specs.List.{AllByRecursion}
use Rattle.std.proofs.lemmas.Bool.{cond_both, eqb-false, not-true, and_parts, cases_eq, cond-true, cond-false, ne_eqb, and_from, not_from_false}
use Rattle.ids.specs.Limits.{Shaped}
use Rattle.ids.specs.declared.names.Ref.{Ref}
use Rattle.msg.specs.declared.body.Body.{Body}
use Rattle.msg.specs.declared.body.Message.{Message}
use Rattle.model.specs.declared.event.Event.{Event}
use Rattle.model.specs.Checks.{AllPass}
use Rattle.model.specs.State.{Object, Slot, Occupied, Retired, LocalState, slot_at, Phases, NodeState, sent_to}
use Rattle.model.specs.Heaps.{object_at, place_of, place_loaded, rewritten, with_rewritten, sharing, slots_with, next_generation, new_object, named}
use Rattle.model.specs.Effects.{Work, at_rest, then, Effect}
use Rattle.model.specs.Counting.{append, stamped, announce, to_others}
use Rattle.model.specs.Shading.{is_open, see_to, unasked, marks_for, filled, roots, enter, join, joined, last_grey, without_last_grey}
use Rattle.model.specs.Collecting.{is_concluded, probe, begun, places_in, scan, scanned, conclude, judged, handed_on, passed, swept_slots, sweeping, sweeps_last, looked_at, reports_sweep}
use Rattle.std.proofs.lemmas.List.{length-map}
use Rattle.model.specs.Reclaiming.{reclaiming, slot_aged}
use Rattle.model.specs.Steps.{is_own, tests, made, carried, count_in, take_carried, take_body, settled, taken_in, append_all, post}
use Rattle.model.proofs.Asking.{unasked-others, marks-others}
use Rattle.model.proofs.Freeing.{freed-reclaiming}
use Rattle.model.proofs.Walk.{Collects, Walks, place-walks, post-walks, own-walks, taken-walks, join-walks, joined-walks, carried-walks}
use Rattle.model.proofs.Leaving.{stands-walks, own-stands}
use Rattle.laws.proofs.Sweeps.{swept-some}
use Rattle.model.proofs.References.{all-append}
use Rattle.laws.proofs.progress.HeapWork.{grey-all}
use Rattle.laws.proofs.progress.Flights.{taken-same}
use Rattle.laws.proofs.progress.Stages.{Passing, sends_on, concludes, passing}
use Rattle.model.specs.Cuts.{Cut, taken, Among}
use Rattle.laws.proofs.Lookups.{among-append_left, among-append_right}
use Rattle.laws.proofs.Turns.{Turn, at_turn, flies, StandsAt, sent-flies}
use Rattle.laws.proofs.Invariant.{phases_of, Inv}
use Rattle.msg.specs.declared.body.Body.TheVariants as body
use Rattle.model.specs.declared.event.Event.TheVariants as event

abbrev pub Others : ℕ → List (ℕ × Message) → Type 0
Others own ms = AllByRecursion (λ m. m.0 ≢ own) ms

-- two steps, of which the first leaves the node its number
others-both : (own : ℕ) (w : Work) (f : LocalState → Work) → w.local.own ≡ own → Others own w.sends
    → Others w.local.own (f w.local).sends → Others own (then w f).sends
others-both own w f same a b =
    all-append (λ m. m.0 ≢ own) w.sends (f w.local).sends a
    (subst (λ (z : ℕ). Others z (f w.local).sends) same b)

sees-others : (due : Bool) (rs : List Ref) (p : LocalState) → Others p.own (see_to due rs p).sends
unfolding see_to
sees-others due rs p =
    let us : List Ref = cond (is_open p) rs [] in
    cond_both due (unasked p.own p.asked us) []
    (λ (vs : List Ref). Others p.own (marks_for p.phases.cycle vs))
    (λ _.
    marks-others p.own p.phases.cycle (unasked p.own p.asked us) (unasked-others p.own p.asked us))
    (λ _. tt)

join-others : (p : LocalState) (cycle : ℕ) → Others p.own (join p cycle).sends
unfolding join enter
join-others p cycle = sees-others true (filled (roots p.heap)) (enter p cycle)

-- ---- a message

body-others : (from stamp : ℕ) (b : Body) (p : LocalState) → from ≢ p.own
    → Others p.own (take_body from stamp b p).sends
unfolding take_body append see_to
body-others from stamp (body.Mark target) p other = sees-others true (target ∷ []) p
body-others from stamp (body.Get target place label) p other =
    let rs : List Ref = option_to_list (place_of (object_at p.heap target) place) in
    others-both p.own (see_to true rs p)
    (post from (body.Give label (place_of (object_at p.heap target) place))) refl
    (sees-others true rs p) (other, tt)
body-others from stamp (body.Fetch target label offset count) p other = (other, tt)
body-others from stamp b p other = tt

pub taken-others : (p : LocalState) (from number stamp : ℕ) (b : Body) → from ≢ p.own
    → Others p.own (taken_in p from number stamp b).sends
unfolding taken_in settled
taken-others p from number stamp b other =
    let first : Others p.own (joined p stamp).sends =
    cond_both (ltb p.phases.cycle stamp) (join p stamp) (at_rest p)
    (λ (w : Work). Others p.own w.sends) (λ _. join-others p stamp) (λ _. tt) in
    let w : Work = joined p stamp in
    let same : w.local.own ≡ p.own = (joined-walks stands-walks.moves.collects p stamp).own in
    let k : LocalState = (take_carried stamp b w.local).local in
    let kept : k.own ≡ w.local.own =
    (carried-walks stands-walks.moves.collects stamp b w.local).own in
    others-both p.own w (λ q. then (take_carried stamp b q) (take_body from stamp b)) same first
    (others-both w.local.own (take_carried stamp b w.local) (take_body from stamp b) kept
    (sees-others (ltb stamp w.local.phases.cycle) (carried b) w.local)
    (body-others from stamp b k (λ e. other (e ∙ kept ∙ same))))

-- ---- a node's own event

to-others : (p : LocalState) (b : Body) (n : ℕ) → Others p.own (to_others p b n)
to-others p b zero = tt
to-others p b (suc n) =
    all-append (λ m. m.0 ≢ p.own) (to_others p b n) _ (to-others p b n)
    (cond_both (n == p.own) [] ((n, stamped p b) ∷ []) (Others p.own) (λ _. tt)
    (λ other. (eqb-false n p.own other, tt)))

passed-others : (p : LocalState) → 2 ≤ p.shape.nodes → Others p.own (passed p).sends
unfolding passed append probe conclude announce
passed-others p several =
    cond_both (p.own == 0) (judged p) (handed_on p) (λ (x : Effect). Others p.own x.sends)
    (λ first.
    let here : p.own ≡ 0 = eqb-true p.own 0 first in
    cond_both (is_concluded p.ring) _ _ (λ (x : Effect). Others p.own x.sends)
    (λ _. to-others p body.Ended p.shape.nodes)
    (λ _. (λ e. omega (arith, e, here, several), tt)))
    (λ above. (λ e. omega (arith, e, eqb-false p.own 0 above), tt))

begun-others : (p : LocalState) → p.own ≡ 0 → 2 ≤ p.shape.nodes → Others p.own (begun p).sends
unfolding begun probe append announce
begun-others p here several =
    let w : Work = join p (p.phases.cycle + 1) in
    let stands = join-walks stands-walks.moves.collects p (p.phases.cycle + 1) (omega arith) in
    let o = stands.own in
    let second : Others p.own (then w probe).sends =
    others-both p.own w probe o (join-others p (p.phases.cycle + 1))
    (λ e. omega (arith, e, o, ap (λ (z : Shaped). z.nodes) stands.shape, here, several), tt) in
    others-both p.own (then w probe) (announce body.Begin) o second
    (to-others (then w probe).local body.Begin w.local.shape.nodes)

pub own-others : (p : LocalState) (counts : List ℕ) (e : Event) → is_own e ≡ true
    → 2 ≤ p.shape.nodes → AllPass (tests p e) → Others p.own (made p counts e).sends
unfolding scanned scan append swept_slots
own-others p counts (event.Load register object place) own several passed =
    let rs : List Ref = option_to_list (place_loaded p.heap object place) in
    all-append (λ m. m.0 ≢ p.own) (see_to true rs p).sends [] (sees-others true rs p) tt
own-others p counts event.Begin own several passed =
    begun-others p (eqb-true p.own 0 passed.0) several
own-others p counts event.Scan own several passed =
    sees-others true (filled (places_in (slot_at p.heap (last_grey p.heap))))
    (record p { heap = without_last_grey p.heap })
own-others p counts event.Pass own several passed = passed-others p several
own-others p counts (event.Sweep count) own several passed =
    cond_both (reports_sweep p count) ((0, stamped p body.Swept) ∷ []) [] (Others p.own)
    (λ says.
    (λ e. eqb-false p.own 0 (not-true _ (and_parts (sweeps_last p count) _ says).1) (sym e), tt))
    (λ _. tt)
own-others p counts (event.Data d) own several passed = absurd cc
own-others p counts (event.Ack a) own several passed = absurd cc
own-others p counts (event.Give to label register) own several passed =
    (eqb-false to p.own (not-true _ passed.1.0), tt)
own-others p counts (event.Post to label first count bytes) own several passed =
    (eqb-false to p.own (not-true _ passed.1.0), tt)
own-others p counts (event.Fetch object label offset count) own several passed =
    (eqb-false (named p.heap object).node p.own (not-true _ passed.1.1.0), tt)
own-others p counts (event.Put object place register) own several passed =
    (eqb-false (named p.heap object).node p.own (not-true _ passed.1.1.1.0), tt)
own-others p counts (event.Get object place label) own several passed =
    (eqb-false (named p.heap object).node p.own (not-true _ passed.1.1.0), tt)
own-others p counts e own several passed = tt

-- ---- the cursor

abbrev IsPlaced : LocalState → Type 0
IsPlaced p = p.phases.cursor ≤ length p.heap.slots

abbrev KeepsPlaced : LocalState → Work → Type 0
KeepsPlaced p w = IsPlaced p → IsPlaced w.local

object-wider : (free : List ℕ) (slots : List Slot) (o : Object)
    → length slots ≤ length (slots_with free slots o)
object-wider [] slots o = omega (arith, length-append slots (Occupied 1 o ∷ []))
object-wider (k ∷ ks) slots o =
    omega (arith, length-set slots k (Occupied (next_generation (get_or slots k Retired)) o))

placed-collects : Collects KeepsPlaced
unfolding see_to enter append announce
placed-collects = record {
  rest = λ p h. h;
  both = λ p w f first second h. second (first h);
  sees = λ due rs p h.
      (omega (arith, (grey-all p.own p.phases.cycle p.heap (cond (is_open p) rs [])).width, h));
  enters = λ p cycle later h. omega arith;
  rings = λ p r h. h;
  ends = λ p h. h;
  hears = λ p reports h. h;
  scans = λ p h. h;
  sends = λ to b p quiet h. h;
  tells = λ b p quiet h. h;
}

rewritten-placed : (p : LocalState) (r : Ref) (f : Object → Object)
    → KeepsPlaced p (at_rest (record p { heap = with_rewritten p.heap r f }))
rewritten-placed p r f h =
    let e = length-set p.heap.slots r.slot (rewritten f r.generation (slot_at p.heap r.slot)) in
    omega (arith, e, h)

placed-walks : Walks (λ _. Unit {0}) KeepsPlaced
unfolding append
placed-walks = record {
  moves = record {
    collects = placed-collects;
    roots = λ p registers letters h. h;
    rewrites = λ p r f quiet. rewritten-placed p r f;
    places = place-walks placed-collects (λ p r f shared. rewritten-placed p r f);
    makes = λ p register places ready h.
        (let o : Object = new_object (not p.shape.wide) p.phases.cycle places in
        omega (arith, object-wider p.heap.free p.heap.slots o, h));
    gives = λ to b p carries.
        post-walks placed-collects (λ q r. rewritten-placed q r sharing) to b p (λ h. h);
  };
  frees = record {
    sweeps = λ p count h.
        (let wide : length (sweeping p count).heap.slots ≡ length p.heap.slots =
        (swept-some p.phases.cycle p.phases.cursor (looked_at p count)
        (record { heap = p.heap; freed = 0 })).width in
        cond_both (sweeps_last p count) 0 (p.phases.cursor + looked_at p count)
        (λ z. z ≤ length (sweeping p count).heap.slots)
        (λ _. omega arith) (λ _. omega (arith, wide, h)));
    reclaims = λ p scope h.
        (let e = (freed-reclaiming scope p.own p.heap).width in
        let f = length-map (reclaiming scope p.own p.heap).heap.slots slot_aged in
        omega (arith, e, f, h));
  };
}

pub own-placed : (p : LocalState) (counts : List ℕ) (e : Event) → is_own e ≡ true → IsPlaced p
    → IsPlaced (made p counts e).local
own-placed p counts e own = own-walks placed-walks p counts e own tt

pub taken-placed : (p : LocalState) (from number stamp : ℕ) (b : Body) → IsPlaced p
    → IsPlaced (taken_in p from number stamp b).local
unfolding taken_in settled count_in
taken-placed p from number stamp b = taken-walks placed-walks p from stamp b

abbrev pub ended_message : ℕ → Message
ended_message cycle = record { stamp = cycle; body = body.Ended }

abbrev pub swept_message : ℕ → Message
swept_message cycle = record { stamp = cycle; body = body.Swept }

pub record Heard (n : ℕ) (c : Cut) : Type 0 where
  pub alone : (i : ℕ) → sent_to (c i) i ≡ []
  pub placed : (i : ℕ) → (phases_of c i).cursor ≤ length (c i).local.heap.slots
  pub ended : (i : ℕ) → i < n → (phases_of c i).ended < (phases_of c 0).ended
      → StandsAt c 0 i (ended_message (phases_of c 0).ended)
  pub swept : (i : ℕ) → 0 < i → i < n → get_or (phases_of c 0).reports i 0 < (phases_of c i).swept
      → StandsAt c i 0 (swept_message (phases_of c i).swept)

-- ---- a node's own event

-- what others hear of a node's phases, and what it heard
record News (p q : Phases) : Type 0 where
  ended : q.ended ≡ p.ended
  swept : q.swept ≡ p.swept
  reports : q.reports ≡ p.reports

abbrev is_speaking : Event → Bool
is_speaking event.Pass = true
is_speaking (event.Sweep count) = true
is_speaking e = false

own-news : (p : LocalState) (counts : List ℕ) (e : Event) → is_own e ≡ true
    → is_speaking e ≡ false → News p.phases (made p counts e).local.phases
unfolding append announce see_to enter join begun probe scan scanned
own-news p counts event.Pass own quiet = absurd cc
own-news p counts (event.Sweep count) own quiet = absurd cc
own-news p counts (event.Data d) own quiet = absurd cc
own-news p counts (event.Ack a) own quiet = absurd cc
own-news p counts e own quiet = record { ended = refl; swept = refl; reports = refl }

-- a node that sends itself nothing
append-elsewhere : (own : ℕ) (sent : List (List Message)) (ms : List (ℕ × Message)) → Others own ms
    → get_or (append_all sent ms) own [] ≡ get_or sent own []
append-elsewhere own sent [] others = refl
append-elsewhere own sent ((to, x) ∷ ms) others =
    append-elsewhere own (set sent to (get_or sent to [] ++ x ∷ [])) ms others.1
    ∙ get_or-set_other sent to own (get_or sent to [] ++ x ∷ []) []
    (λ (e : own ≡ to). others.0 (sym e))

pub alone-turn : {c d : Cut} {i : ℕ} {q : LocalState} {ms : List (ℕ × Message)} → Turn c d i q ms
    → Others i ms → ((j : ℕ) → sent_to (c j) j ≡ []) → (j : ℕ) → sent_to (d j) j ≡ []
alone-turn {c = c} {i = i} {ms = ms} turn others alone =
    at_turn (λ j s. sent_to s j ≡ []) turn
    (append-elsewhere i (c i).sent ms others ∙ alone i) (λ j _. alone j)

-- what is in flight stays so, if nothing is received
stands-on : {c d : Cut} {i : ℕ} {q : LocalState} {ms : List (ℕ × Message)} (from to : ℕ)
    (x : Message) → Turn c d i q ms → q.got ≡ (c i).local.got → StandsAt c from to x
    → StandsAt d from to x
stands-on {c = c} {d = d} from to x turn got at = record {
  place = at.place;
  flight = flies turn from to at.place x at.flight
      (omega (arith, taken-same turn got from to, at.flight.later));
}

-- the message to each other node is among those sent
to-others-among : (p : LocalState) (b : Body) (n j : ℕ) → j < n → j ≢ p.own
    → Among (j, stamped p b) (to_others p b n)
to-others-among p b zero j below other = absurd (omega (arith, below))
to-others-among p b (suc n) j below other = ⊎_elim
    {C = Among (j, stamped p b) (to_others p b (suc n))}
    (λ (here : j ≡ n).
    among-append_right (j, stamped p b) (to_others p b n) _
    (subst (λ (z : List (ℕ × Message)). Among (j, stamped p b) z)
    (sym (cond-false (n == p.own) [] ((n, stamped p b) ∷ [])
    (ne_eqb n p.own (λ e. other (here ∙ e)))))
    (inl (ap (λ (k : ℕ). (k, stamped p b)) here))))
    (λ (apart : j ≢ n).
    among-append_left (j, stamped p b) (to_others p b n) _
    (to-others-among p b n j (let k : j < n = omega (arith, below, apart) in k) other))
    (cases_eq j n)

-- a node's own event
pub record Owns (shape : Shaped) (c d : Cut) (i : ℕ) (e : Event) : Type 0 where
  pub inv : Inv shape c
  pub several : 2 ≤ shape.nodes
  pub inside : i < shape.nodes
  pub own : is_own e ≡ true
  pub passed : AllPass (tests (c i).local e)
  pub turn : Turn c d i (made (c i).local (map length (c i).sent) e).local
      (made (c i).local (map length (c i).sent) e).sends

module _ {shape : Shaped} {c d : Cut} {i : ℕ} (e : Event) (h : Owns shape c d i e)
    (heard : Heard shape.nodes c) where
  abbrev p : LocalState
  p = (c i).local

  abbrev x : Effect
  x = made p (map length (c i).sent) e

  nodes : p.shape.nodes ≡ shape.nodes
  nodes = ap (λ (z : Shaped). z.nodes) (h.inv.base.shapes i h.inside)

  got : x.local.got ≡ p.got
  got = (own-stands p (map length (c i).sent) e h.own).got

  says : (to : ℕ) → taken d i to ≤ length (sent_to (c i) to)
  says to = omega (arith, h.inv.base.within i to, taken-same h.turn got i to)

  before : {j : ℕ} → x.local.phases.reports ≡ p.phases.reports → 0 < j → j < shape.nodes
      → get_or (phases_of d 0).reports j 0 < (phases_of d j).swept
      → (phases_of d j).swept ≡ (phases_of c j).swept
      → StandsAt d j 0 (swept_message (phases_of d j).swept)
  before {j} same above inside less swept =
      let reports : (phases_of d 0).reports ≡ (phases_of c 0).reports =
      at_turn (λ k s. s.local.phases.reports ≡ (phases_of c k).reports) h.turn same (λ k _. refl) 0
      in
      subst (λ (z : ℕ). StandsAt d j 0 (swept_message z)) (sym swept)
      (stands-on j 0 _ h.turn got
      (heard.swept j above inside
      (omega (arith, ap (λ (z : List ℕ). get_or z j 0) reports, swept, less))))

  -- by what the node says that changes
  owns : (x.local.phases.ended ≡ p.phases.ended)
      ⊎ ((i ≡ 0)
      × ((j : ℕ) → j < shape.nodes → j ≢ 0 → Among (j, ended_message x.local.phases.ended) x.sends))
      → (x.local.phases.swept ≡ p.phases.swept)
      ⊎ (i ≢ 0 → Among (0, swept_message x.local.phases.swept) x.sends)
      → x.local.phases.reports ≡ p.phases.reports → Heard shape.nodes d
  owns ended swept reports = record {
    alone = alone-turn h.turn
        (subst (λ (k : ℕ). Others k x.sends) (h.inv.base.own i h.inside)
        (own-others p (map length (c i).sent) e h.own
        (omega (arith, h.several, nodes)) h.passed)) heard.alone;
    placed = at_turn (λ j s. s.local.phases.cursor ≤ length s.local.heap.slots) h.turn
        (own-placed p (map length (c i).sent) e h.own (heard.placed i)) (λ j _. heard.placed j);
    ended = λ j inside less. ⊎_elim {C = StandsAt d 0 j (ended_message (phases_of d 0).ended)}
        (λ same.
        let stays : (k : ℕ) → (phases_of d k).ended ≡ (phases_of c k).ended =
        at_turn (λ k s. s.local.phases.ended ≡ (phases_of c k).ended) h.turn same (λ k _. refl) in
        subst (λ (z : ℕ). StandsAt d 0 j (ended_message z)) (sym (stays 0))
        (stands-on 0 j _ h.turn got
        (heard.ended j inside
        (omega (arith, stays j, stays 0, less)))))
        (λ spoke.
        let now : (phases_of d 0).ended ≡ x.local.phases.ended =
        ap (λ (k : ℕ). (phases_of d k).ended) (sym spoke.0)
        ∙ ap (λ (s : NodeState). s.local.phases.ended) h.turn.becomes.changed in
        let other : j ≢ 0 = λ e. omega (arith, ap (λ (k : ℕ). (phases_of d k).ended) e, less) in
        subst (λ (z : ℕ). StandsAt d 0 j (ended_message z)) (sym now)
        (subst (λ (k : ℕ). StandsAt d k j (ended_message x.local.phases.ended)) spoke.0
        (sent-flies h.turn j (ended_message x.local.phases.ended)
        (omega (arith, h.inv.base.width i h.inside, inside))
        (says j) (spoke.1 j inside other))))
        ended;
    swept = λ j above inside less.
        ⊎_elim {C = StandsAt d j 0 (swept_message (phases_of d j).swept)}
        (λ same.
        before reports above inside less
        (at_turn (λ k s. s.local.phases.swept ≡ (phases_of c k).swept) h.turn same (λ k _. refl) j))
        (λ spoke. ⊎_elim {C = StandsAt d j 0 (swept_message (phases_of d j).swept)}
        (λ (here : j ≡ i).
        let now : (phases_of d j).swept ≡ x.local.phases.swept =
        ap (λ (k : ℕ). (phases_of d k).swept) here
        ∙ ap (λ (s : NodeState). s.local.phases.swept) h.turn.becomes.changed in
        subst (λ (z : ℕ). StandsAt d j 0 (swept_message z)) (sym now)
        (subst (λ (k : ℕ). StandsAt d k 0 (swept_message x.local.phases.swept)) (sym here)
        (sent-flies h.turn 0 (swept_message x.local.phases.swept)
        (omega (arith, h.inv.base.width i h.inside, h.inside))
        (says 0) (spoke (λ (e : i ≡ 0). omega (arith, e, here, above))))))
        (λ (other : j ≢ i).
        before reports above inside less
        (ap (λ (s : NodeState). s.local.phases.swept) (h.turn.becomes.others j other)))
        (cases_eq j i))
        swept;
  }

pub own-heard-on : {shape : Shaped} {c d : Cut} {i : ℕ} (e : Event) → Owns shape c d i e
    → Heard shape.nodes c → Heard shape.nodes d
unfolding swept_slots
own-heard-on {shape = shape} {c = c} {d = d} {i = i} event.Pass h heard =
    by (passing (c i).local)
  where
    by : Passing (c i).local (passed (c i).local) → Heard shape.nodes d
    by (sends_on t k why local sends) =
        owns event.Pass h heard (inl (ap (λ (z : LocalState). z.phases.ended) local))
        (inl (ap (λ (z : LocalState). z.phases.swept) local))
        (ap (λ (z : LocalState). z.phases.reports) local)
    by (concludes first local sends) =
        let q : LocalState = (passed (c i).local).local in
        let zero_is : i ≡ 0 = sym (h.inv.base.own i h.inside) ∙ first in
        let same : q.phases.cycle ≡ q.phases.ended =
        ap (λ (z : LocalState). z.phases.cycle) local
        ∙ sym (ap (λ (z : LocalState). z.phases.ended) local) in
        owns event.Pass h heard
        (inr (
          zero_is,
          λ j inside other.
              subst (λ (z : List (ℕ × Message)). Among (j, ended_message q.phases.ended) z)
              (sym sends)
              (subst (λ (z : ℕ). Among (j, ended_message z)
              (to_others q body.Ended (c i).local.shape.nodes)) same
              (to-others-among q body.Ended (c i).local.shape.nodes j
              (omega (arith, inside, nodes event.Pass h heard))
              (λ e. other (e ∙ ap (λ (z : LocalState). z.own) local ∙ first)))),
        ))
        (inl (ap (λ (z : LocalState). z.phases.swept) local))
        (ap (λ (z : LocalState). z.phases.reports) local)
own-heard-on {c = c} {i = i} (event.Sweep count) h heard =
    let p : LocalState = (c i).local in
    owns (event.Sweep count) h heard (inl refl)
    (cond_both (sweeps_last p count) p.phases.cycle p.phases.swept
    (λ z. (z ≡ p.phases.swept)
    ⊎ (i ≢ 0 → Among (0, swept_message z) (swept_slots p count).sends))
    (λ last. inr (λ other.
    subst (λ (z : List (ℕ × Message)). Among (0, swept_message p.phases.cycle) z)
    (sym (cond-true (reports_sweep p count) ((0, stamped p body.Swept) ∷ []) []
    (and_from _ _ last
    (not_from_false _ (ne_eqb p.own 0 (λ e. other (sym (h.inv.base.own i h.inside) ∙ e)))))))
    (inl refl)))
    (λ _. inl refl))
    refl
own-heard-on {c = c} {i = i} e h heard =
    let n = own-news (c i).local (map length (c i).sent) e h.own refl in
    owns e h heard (inl n.ended) (inl n.swept) n.reports
