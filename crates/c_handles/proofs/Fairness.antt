-- Rounds of calls are rounds of the space that the handles show.
use Rattle.std.proofs.Common.{◌≡◌, ◌≢◌, ℕ, suc, ◌+◌, ◌<◌, ◌≤◌, List, [], ◌∷◌, ◌++◌, length, map, false, IsOk, Option, Some, Ok, Err, true, ◌-◌, refl, sym, ap, ◌∙◌, subst, arith, length-drop, ⊎_elim}
use Rattle.std.specs.List.{AllByRecursion, range_with_len}
use Rattle.std.proofs.lemmas.Bool.{cases_eq, cond_both}
use Rattle.ids.specs.Limits.{Shaped, IsShape}
use Rattle.ids.specs.declared.refusal.Refusal.TheVariants.{LinkSpent}
use Rattle.msg.specs.declared.body.Message.{Message}
use Rattle.ids.specs.declared.names.Ref.{Ref}
use Rattle.model.specs.declared.event.Answer.{Answer}
use Rattle.model.specs.declared.event.Event.TheVariants as event
use Rattle.model.specs.declared.step.Step.{Step}
use Rattle.model.specs.declared.step.Step.TheVariants as step
use Rattle.model.specs.declared.step.Outcome.TheVariants as outcome
use Rattle.model.specs.Cuts.{Among}
use Rattle.model.specs.State.{LocalState, NodeState, got_from, node_at, sent_to, slot_at}
use Rattle.model.specs.View.{Link, ShowsSent, link_to}
use Rattle.model.specs.World.{World, happens, is_node, outcome_of, outcomes, run, take_step, world_after}
use Rattle.model.proofs.Runs.{run-append}
use Rattle.laws.specs.Carried.{IsCarried}
use Rattle.laws.specs.Statements.{OfSpaces}
use Rattle.laws.specs.Strategy.{now}
use Rattle.laws.specs.Progress.{HasEnded, IsGone, IsSwept, current_cycle, saves}
use Rattle.laws.specs.Fairness.{AreRounds, HasTurn, IsRound, after_rounds, begins_after, begun_after, cycle_rounds, is_turns, marking_rounds, steps_in}
use Rattle.laws.proofs.Lookups.{among-append_left, among-append_right}
use Rattle.laws.proofs.progress.Rounded.{rounds-end-cycle, rounds-end-marking, rounds-free-garbage}
use Rattle.c_handles.specs.Fairness.{AfterRounds, AreCallRounds, AreFilled, CallsEndCycle, CallsEndMarking, CallsFreeGarbage, HandleHasEnded, HandlesHaveSwept, HasWorked, IsCallRound, IsWithin, received_by, sent_by}
use Rattle.c_handles.specs.Laws.{IsReachable}
use Rattle.c_handles.specs.Programs.{Act, Call, Choice, Deed, Does, DoesOn, Goes, Holds, IsShown, MayFind, On, Owes, Place, Release, Store, System, TakeBatch, TakeImage, Work, place_after, place_of}
use Rattle.c_handles.specs.declared.lone.LoneNode.{LoneNode}
use Rattle.c_handles.proofs.Says.{AreTurns, EventSteps, came_in, made, said_by, turns-on, unmade}
use Rattle.c_handles.proofs.Calls.{IsSound}
use Rattle.c_handles.proofs.Deeds.{AllShown, came, does-stepped, shown-on}
use Rattle.c_handles.proofs.Systems.{leads-by}

-- ---- handles stay full

pub after-filled : (d : Deed) (n : LoneNode) (p : Place) → (place_after d n p).handle ≡ Some n
after-filled (TakeImage (Ok mark) old new before needed) n p = refl
after-filled (TakeBatch (Ok mark) old new before needed) n p = refl
after-filled (Release r) n p = refl
after-filled d n p = refl

deed-filled : (shape : Shaped) {s t : System} {i : ℕ} (d : Deed) → DoesOn i d s t
    → AreFilled shape s → AreFilled shape t
deed-filled shape {s} {t} {i} d does filled j inside =
    ⊎_elim (λ (here : j ≡ i). (
      does.new,
      ap (λ (k : ℕ). (t.places k).handle) here ∙ ap (λ (p : Place). p.handle) does.becomes.here
          ∙ after-filled d does.new (s.places i),
    ))
    (λ (other : j ≢ i).
    let n = filled j inside in
    (n.0, ap (λ (p : Place). p.handle) (does.becomes.others j other) ∙ n.1))
    (cases_eq j i)

pub call-filled : (shape : Shaped) (s t : System) (c : Call) → IsWithin c → Does c s t
    → AreFilled shape s → AreFilled shape t
call-filled shape s t (On i d) within does filled j inside =
    deed-filled shape d does filled j inside
call-filled shape s t (Store i e others) within does filled j inside =
    let n = filled j inside in
    ⊎_elim (λ (here : j ≡ i). (
      n.0,
      ap (λ (k : ℕ). (t.places k).handle) here ∙ ap (λ (p : Place). p.handle) does.here
          ∙ ap (λ (k : ℕ). (s.places k).handle) (sym here) ∙ n.1,
    ))
    (λ (other : j ≢ i). (n.0, ap (λ (p : Place). p.handle) (does.others j other) ∙ n.1))
    (cases_eq j i)
call-filled shape s t c within does filled j inside = absurd within

-- ---- one round

-- The steps of some calls are those of turns, and each node has its turn whose call of `work` is
-- among them.
abbrev Turns : List Call → World → List Step → Type 0
Turns calls w later =
    AreTurns w later × ((i : ℕ) → HasWorked i calls → HasTurn i later)

record TurnLeads (shape : Shaped) (s : System) (calls : List Call) (t : System) (c : Choice)
    : Type 0 where
  before : Choice
  may : MayFind s before
  goes_on : (w : World) → IsShown shape s before w
      → (later : List Step) × IsShown shape t c (run w later) × Turns calls w later

-- The handles are full, and what callers did led to this.
pub record Sits (shape : Shaped) (s : System) : Type 0 where
  pub limits : IsShape shape
  pub sound : IsSound s
  pub shown : AllShown shape s
  pub filled : AreFilled shape s

pub sits-at-first : {shape : Shaped} {s : System} → IsReachable shape s → AreFilled shape s
    → Sits shape s
sits-at-first {s = s} r filled =
    let here = came r.limits r.calls s r.goes in
    record { limits = r.limits; sound = here.sound; shown = here.shown; filled = filled }

record TurnCame (shape : Shaped) (s : System) (calls : List Call) (t : System) : Type 0 where
  sits : Sits shape t
  leads : (c : Choice) → MayFind t c → TurnLeads shape s calls t c

pub sits-on : {shape : Shaped} {s : System} (t : System) (c : Call) → Sits shape s → IsWithin c
    → place_of c < shape.nodes → Does c s t → Owes shape s c → Sits shape t
sits-on {shape} {s} t c h within inside does owes =
    let one = does-stepped h.shown {t = t} h.limits h.sound c inside does owes in
    record {
      limits = h.limits;
      sound = one.sound;
      shown = shown-on h.shown (λ b may. leads-by (one.leads b may));
      filled = call-filled shape s t c within does h.filled;
    }

-- a turn of some steps is one of more
more-left : {i : ℕ} (ss ts : List Step) → HasTurn i ss → HasTurn i (ss ++ ts)
more-left ss ts h = record {
  scan = among-append_left _ ss ts h.scan;
  pass = among-append_left _ ss ts h.pass;
  count = h.count;
  sweep = among-append_left _ ss ts h.sweep;
}

more-right : {i : ℕ} (ss ts : List Step) → HasTurn i ts → HasTurn i (ss ++ ts)
more-right ss ts h = record {
  scan = among-append_right _ ss ts h.scan;
  pass = among-append_right _ ss ts h.pass;
  count = h.count;
  sweep = among-append_right _ ss ts h.sweep;
}

-- what is said by one call
pub said-turns : (c : Call) → IsWithin c → (w : World) (later : List Step) → said_by c w later
    → AreTurns w later
said-turns (On i (Act e r)) within w later so = absurd within
said-turns (On i (Work scans slots work r)) within w later so = so.0.1
said-turns (On i d) within w later so = so.1
said-turns (Store i e others) within w later so = so.1
said-turns c within w later so = absurd within

said-worked : {i : ℕ} {calls : List Call} (c : Call) (w : World) (later : List Step)
    (h : HasWorked i calls) → On i (Work h.scans h.slots h.work (Ok tt)) ≡ c → said_by c w later
    → HasTurn i later
said-worked c w later h is so =
    (subst (λ (z : Call). said_by z w later) (sym is) so).1 refl h.some.0 h.some.1

calls-came : {shape : Shaped} (calls : List Call) (s t : System) → Sits shape s
    → AllByRecursion IsWithin calls → Goes shape s calls t → TurnCame shape s calls t
calls-came {shape} [] s t h within same =
    subst (TurnCame shape s []) (sym same)
    (record {
      sits = h;
      leads = λ c may. record {
        before = c;
        may = may;
        goes_on = λ w h. ([], h, (tt, λ i worked. absurd worked.there));
      };
    })
calls-came {shape} (c ∷ cs) s t h within (next, inside, does, owes, rest) =
    let one = does-stepped h.shown {t = next} h.limits h.sound c inside does owes in
    let end = calls-came cs next t (sits-on next c h within.0 inside does owes) within.1 rest in
    record {
      sits = end.sits;
      leads = λ b may.
          let two = end.leads b may in
          let first = one.leads two.before two.may in
          record {
            before = first.before;
            may = first.may;
            goes_on = λ w h.
                let mid = first.goes_on w h in
                let last = two.goes_on (run w mid.0) mid.1 in (
                  mid.0 ++ last.0,
                  subst (IsShown shape t b) (sym (run-append w mid.0 last.0)) last.1,
                  (
                    turns-on w mid.0 last.0 (said-turns c within.0 w mid.0 mid.2) last.2.0,
                    by w mid.0 last.0 mid.2 last.2.1,
                  ),
                );
          };
    }
  where
    by : (w : World) (ss ts : List Step) → said_by c w ss
        → ((i : ℕ) → HasWorked i cs → HasTurn i ts) → (i : ℕ) → HasWorked i (c ∷ cs)
        → HasTurn i (ss ++ ts)
    by w ss ts so later i h =
        ⊎_elim (λ (is : On i (Work h.scans h.slots h.work (Ok tt)) ≡ c).
        more-left ss ts (said-worked c w ss h is so))
        (λ (more : Among (On i (Work h.scans h.slots h.work (Ok tt))) cs).
        more-right ss ts (later i (record {
          scans = h.scans;
          slots = h.slots;
          work = h.work;
          some = h.some;
          there = more;
        })))
        h.there

-- ---- what handles show

module _ {shape : Shaped} {s : System} {choice : Choice} {w : World}
    (shown : IsShown shape s choice w) (filled : AreFilled shape s) where
  carried : (i : ℕ) (inside : i < shape.nodes)
      → IsCarried (node_at w.saved i) (node_at w.current i) (filled i inside).0.node.core
  carried i inside =
      subst (λ (o : Option LoneNode). Holds o (node_at w.saved i) (node_at w.current i))
      (filled i inside).1 (shown.each i inside).holds

  pub sent-shown : (from to : ℕ) → from < shape.nodes
      → sent_by (s.places from).handle to ≡ length (sent_to (node_at w.current from) to)
  sent-shown from to inside =
      let n = filled from inside in
      let l : Link = link_to n.0.node.core to in
      let xs : List Message = sent_to (node_at w.current from) to in
      let shows : ShowsSent l xs = (carried from inside).shows.links to in
      let within = shows.within in
      let long : length l.unacknowledged ≡ length xs - l.base =
      ap length shows.unacknowledged ∙ length-drop l.base xs in
      ap (λ (o : Option LoneNode). sent_by o to) n.1
      ∙ (let e : l.base + length l.unacknowledged ≡ length xs = omega (arith, within, long) in e)

  pub received-shown : (to from : ℕ) → to < shape.nodes
      → received_by (s.places to).handle from ≡ got_from (node_at w.current to).local from
  received-shown to from inside =
      let n = filled to inside in
      ap (λ (o : Option LoneNode). received_by o from) n.1
      ∙ ap (λ (p : LocalState). got_from p from) (carried to inside).shows.local

-- ---- rounds

turns-are : (w : World) (later : List Step) → AreTurns w later
    → AllByRecursion (λ s. is_turns s ≡ true) later
turns-are w [] are = tt
turns-are w (s ∷ ss) are = (are.0.0, turns-are (happens w s) ss are.1)

turns-numbered : (w : World) (later : List Step) → AreTurns w later
    → AllByRecursion (λ o. o ≢ Err LinkSpent) (outcomes w later)
turns-numbered w [] are = tt
turns-numbered w (s ∷ ss) are = (are.0.1, turns-numbered (happens w s) ss are.1)

round-of : {shape : Shaped} {s t : System} {b c : Choice} {calls : List Call} (w : World)
    (later : List Step) → IsCallRound shape s calls t → AreFilled shape s → AreFilled shape t
    → IsShown shape s b w → IsShown shape t c (run w later) → Turns calls w later
    → IsRound shape.nodes w later
round-of w later r first last before after turns = record {
  turns = turns-are w later turns.0;
  numbered = turns-numbered w later turns.0;
  each = λ i inside. turns.1 i (r.works i inside);
  comes_in = λ from to k f t two below.
      (let sent = sent-shown before first from to f in
      let was = received-shown before first to from t in
      let is_now = received-shown after last to from t in
      let come = r.comes_in from to k f t two (omega (arith, sent, was, below)) in
      omega (arith, come, was, is_now));
}

record RoundsLead (shape : Shaped) (s : System) (rounds : List (List Call)) (t : System)
    (c : Choice) : Type 0 where
  before : Choice
  may : MayFind s before
  goes_on : (w : World) → IsShown shape s before w
      → (rs : List (List Step)) × (length rs ≡ length rounds) × AreRounds shape.nodes w rs
      × IsShown shape t c (after_rounds w rs)

rounds-lead : {shape : Shaped} (rounds : List (List Call)) (s t : System) → Sits shape s
    → AreCallRounds shape s rounds t → (c : Choice) → MayFind t c
    → RoundsLead shape s rounds t c
rounds-lead {shape} [] s t h same c may =
    subst (λ (z : System). MayFind z c → RoundsLead shape s [] z c) (sym same)
    (λ here. record {
      before = c;
      may = here;
      goes_on = λ w shown. ([], refl, tt, shown);
    }) may
rounds-lead {shape} (calls ∷ rest) s t h (next, round, rounds) c may =
    let one = calls-came calls s next h round.within round.goes in
    let end = rounds-lead rest next t one.sits rounds c may in
    let first = one.leads end.before end.may in
    record {
      before = first.before;
      may = first.may;
      goes_on = λ w shown.
          let mid = first.goes_on w shown in
          let last = end.goes_on (run w mid.0) mid.1 in (
            mid.0 ∷ last.0,
            ap suc last.1,
            (round-of w mid.0 round h.filled one.sits.filled shown mid.1 mid.2, last.2),
            subst (IsShown shape t c) (sym (run-append w mid.0 (steps_in last.0))) last.3,
          );
    }

-- what holds of the handles after rounds
rounds-sit : {shape : Shaped} (rounds : List (List Call)) (s t : System) → Sits shape s
    → AreCallRounds shape s rounds t → Sits shape t
rounds-sit {shape} [] s t h same = subst (Sits shape) (sym same) h
rounds-sit (calls ∷ rest) s t h (next, round, rounds) =
    rounds-sit rest next t (calls-came calls s next h round.within round.goes).sits rounds

-- ---- the statements

-- what rounds of steps lead to is shown by the handles
after-rounds : (needed : ℕ → World → ℕ) (Holds_of : Shaped → System → ℕ → Type 0)
    (P : ℕ → ℕ → World → Type 0)
    → OfSpaces (λ n w. (rs : List (List Step)) → AreRounds n w rs → needed n w ≤ length rs
    → P n (current_cycle w) (after_rounds w rs))
    → ((shape : Shaped) (t : System) (c : Choice) (v : World) (cycle : ℕ) → IsShape shape
    → IsShown shape t c v → AreFilled shape t → P shape.nodes cycle v → Holds_of shape t cycle)
    → AfterRounds needed Holds_of
after-rounds needed Holds_of P law holds shape s t rounds reachable filled are choice may =
    let limits = reachable.limits in
    let h = sits-at-first reachable filled in
    let l = rounds-lead rounds s t h are choice may in (
      l.before,
      l.may,
      λ w shown enough.
          (let end = l.goes_on w shown in
          let many = end.1 in
          let all = subst (λ (z : World). (rs : List (List Step)) → AreRounds shape.nodes z rs
          → needed shape.nodes z ≤ length rs
          → P shape.nodes (current_cycle z) (after_rounds z rs)) (sym shown.reached)
          (law shape limits shown.steps) in
          holds shape t choice (after_rounds w end.0) (current_cycle w) limits end.3
          (rounds-sit rounds s t h are).filled
          (all end.0 end.2 (omega (arith, enough, many)))),
    )

-- the node in a handle is as shown
pub held-local : {shape : Shaped} {s : System} {c : Choice} {w : World} (i : ℕ) (n : LoneNode)
    → IsShown shape s c w → i < shape.nodes → (s.places i).handle ≡ Some n
    → n.node.core.local ≡ (node_at w.current i).local
held-local {w = w} i n shown inside held =
    (subst (λ (o : Option LoneNode). Holds o (node_at w.saved i) (node_at w.current i)) held
    (shown.each i inside).holds).shows.local

pub calls-end-marking : CallsEndMarking
calls-end-marking =
    after-rounds (λ n w. marking_rounds n (now w)) HandleHasEnded
    (λ n cycle w. HasEnded cycle (now w)) rounds-end-marking
    (λ shape t c v cycle limits shown filled ended n held.
    let same = held-local 0 n shown
    (let many = limits.least_nodes in omega (arith, many)) held in (
      ap (λ (p : LocalState). p.phases.cycle) same ∙ ended.current,
      ap (λ (p : LocalState). p.phases.ended) same ∙ ended.ended,
    ))

pub calls-end-cycle : CallsEndCycle
calls-end-cycle =
    after-rounds (λ n w. cycle_rounds n (now w)) HandlesHaveSwept
    (λ n cycle w. IsSwept n cycle (now w)) rounds-end-cycle
    (λ shape t c v cycle limits shown filled swept i n inside held.
    ap (λ (p : LocalState). p.phases.swept) (held-local i n shown inside held)
    ∙ swept.swept i inside)

-- ---- garbage

-- the step by which node 0 begins a cycle
begin-step : {a : Answer} {w : World} {later : List Step}
    → EventSteps 0 event.Begin (Ok a) w later
    → (later ≡ step.Act 0 event.Begin ∷ [])
    × (outcome_of (take_step w (step.Act 0 event.Begin)) ≡ Ok (outcome.Answer a))
begin-step (made out) = (refl, out)
begin-step (unmade never) = absurd cc
begin-step (came_in later from never turns) = absurd cc

-- a save leaves the current states as they are
saves-leave : (is : List ℕ) (w : World) → (run w (map step.Save is)).current ≡ w.current
unfolding take_step
saves-leave [] w = refl
saves-leave (i ∷ is) w =
    saves-leave is (happens w (step.Save i))
    ∙ cond_both (is_node w i) _ _ (λ z. (world_after w z).current ≡ w.current) (λ _. refl)
    (λ _. refl)

pub calls-free-garbage : CallsFreeGarbage
calls-free-garbage shape s u v t rounds more a reachable filled are does later choice may =
    let limits = reachable.limits in
    let n : ℕ = shape.nodes in
    let first_inside : 0 < n = (let many = limits.least_nodes in omega (arith, many)) in
    let h = sits-at-first reachable filled in
    let there = rounds-sit rounds s u h are in
    let begin : Call = On 0 (Act event.Begin (Ok a)) in
    let one = does-stepped there.shown {t = v} limits there.sound begin first_inside does (record {
      of_space = tt;
      one_holder = tt;
      made_once = tt;
      goes_on = tt;
      in_order = tt;
      stored_first = tt;
    }) in
    let begun_sits : Sits shape v = record {
      limits = limits;
      sound = one.sound;
      shown = shown-on there.shown (λ c m. leads-by (one.leads c m));
      filled = deed-filled shape (Act event.Begin (Ok a)) does there.filled;
    } in
    let end = rounds-lead more v t begun_sits later choice may in
    let mid = one.leads end.before end.may in
    let start = rounds-lead rounds s u h are mid.before mid.may in (
      start.before,
      start.may,
      λ w shown.
          let first = start.goes_on w shown in
          let before : World = after_rounds w first.0 in
          let begun = mid.goes_on before first.3 in
          let began = begin-step begun.2.1 in
          let x : World = begun_after w first.0 in
          let at : IsShown shape v end.before x =
          subst (λ (ss : List Step). IsShown shape v end.before (run before ss)) began.0 begun.1 in
          let last = end.goes_on x at in (
            end.before,
            x,
            at,
            λ enough r inside garbage held.
                let law = subst (λ (z : World). (rs ts : List (List Step)) → AreRounds n z rs
                → IsOk (begins_after z rs) → AreRounds n (begun_after z rs) ts
                → cycle_rounds n (now (begun_after z rs)) ≤ length ts
                → IsSwept n (current_cycle z + 1) (now (after_rounds (begun_after z rs) ts))
                × ((q : Ref) → IsGone z (run (after_rounds (begun_after z rs) ts) (saves n)) q))
                (sym shown.reached) (rounds-free-garbage shape limits shown.steps) in
                let ends = law first.0 last.0 first.2 (subst IsOk (sym began.1) refl) last.2
                (let many = last.1 in omega (arith, enough, many)) in
                let z : World = after_rounds x last.0 in
                let local = held-local r.node held.0 last.3 inside held.2 in
                let saved = saves-leave (range_with_len 0 n) z in
                ends.1 r garbage (λ _. false) (record {
                  object = held.1;
                  there =
                      ap (λ (l : List NodeState).
                      slot_at (node_at l r.node).local.heap r.slot) saved
                      ∙ ap (λ (p : LocalState). slot_at p.heap r.slot) (sym local) ∙ held.3;
                }),
          ),
    )
