-- Steps in any order while marking goes on.
use Rattle.std.proofs.Common.{◌≡◌, ℕ, ◌+◌, ◌-◌, ◌*◌, ◌<◌, ◌≤◌, ◌⊎◌, ◌==◌, ltb-true, true, false, List, [], ◌∷◌, length, sym, ap, ◌∙◌, subst, ⊎_elim, inl, inr, arith, get_or}
use Rattle.std.specs.Prelude.{is_some}
use Rattle.std.proofs.lemmas.Bool.{both_ways, cond_both, cases_Bool, cases_eq}
use Rattle.std.proofs.lemmas.Option.{slice_get_within, slice_get-get_or}
use Rattle.ids.specs.Limits.{Shaped}
use Rattle.msg.specs.declared.body.Token.{Token}
use Rattle.msg.specs.declared.body.Message.{Message}
use Rattle.model.specs.declared.event.Event.TheVariants as event
use Rattle.model.specs.declared.step.Step.{Step}
use Rattle.model.specs.declared.step.Step.TheVariants as step
use Rattle.model.specs.State.{sent_to}
use Rattle.model.specs.References.{no_message}
use Rattle.model.specs.World.{World, happens, run}
use Rattle.model.specs.Cuts.{Cut, Among, taken, IsInFlight}
use Rattle.laws.proofs.Flights.{flight-inside}
use Rattle.laws.proofs.Rounds.{some-of}
use Rattle.laws.proofs.Turns.{flies}
use Rattle.laws.proofs.Invariant.{phases_of, cycle_of, Marking, Spot, at_node, on_way, place_of_spot, IsAt, is_held, is_sent, Inv}
use Rattle.laws.specs.Strategy.{now, is_grey, has_token, is_waiting}
use Rattle.laws.specs.Bounds.{work_left}
use Rattle.laws.specs.Fairness.{IsRound}
use Rattle.laws.proofs.progress.Flights.{sum-le, sum-add, sum-const, taken-same}
use Rattle.laws.proofs.progress.Spaces.{Reached, reached-whole, reached-more}
use Rattle.laws.proofs.progress.Choices.{Still}
use Rattle.laws.proofs.progress.Costs.{is_token, token-there}
use Rattle.laws.proofs.progress.Hearing.{flies-on}
use Rattle.laws.proofs.progress.Stages.{Budget, under_way}
use Rattle.laws.proofs.progress.TokenMoves.{TokenMove, moves_on, ends, token-comes, token-passes}
use Rattle.laws.proofs.progress.Turning.{Excuse, is_act, did}
use Rattle.laws.proofs.progress.Idling.{unjoined, width_of, slots_in, Keeps, IdleStep, nothing, token_in, token_on, Quiet, idle-grey, idle-quiet, MarkStep, idles, falls, finds, mark-step}
use Rattle.laws.proofs.progress.Listed.{AllRest, rest-same, rest-excuse}
use Rattle.laws.proofs.progress.Resting.{sweep_work, sweeps_left, rest_left, Rests, Turned, turned-on, RestRun, all_rest, left_less, rest-run}

-- ---- what steps come to

-- Marking goes on. What is left of it, with what comes after it, is no more than this.
pub record Marks (shape : Shaped) (cycle most : ℕ) (w : World) : Type 0 where
  pub reached : Reached shape w
  pub current : cycle_of (now w) 0 ≡ cycle
  pub marking : Marking (phases_of (now w) 0)
  pub within : work_left shape.nodes (now w) + 4 * shape.nodes + slots_in shape.nodes (now w) ≤ most

-- marking has ended, and no more than this is left
pub record Over (shape : Shaped) (cycle most : ℕ) (w : World) : Type 0 where
  pub rests : Rests shape cycle w
  pub left : rest_left shape.nodes cycle (now w) + shape.nodes ≤ most

-- each step does nothing, or moves the token
abbrev pub AllIdle : Shaped → World → List Step → Type 0
AllIdle shape w [] = Unit {0}
AllIdle shape w (s ∷ ss) =
    IdleStep shape (now w) (now (happens w s)) s
    × Keeps shape.nodes (now w) (now (happens w s)) × AllIdle shape (happens w s) ss

-- only the token may have moved
pub record Idly (shape : Shaped) (cycle most : ℕ) (w : World) (ss : List Step) : Type 0 where
  pub marks : Marks shape cycle most (run w ss)
  pub all : AllIdle shape w ss
  pub work : work_left shape.nodes (now (run w ss)) ≤ work_left shape.nodes (now w)
  pub joins : unjoined shape.nodes (now (run w ss)) ≤ unjoined shape.nodes (now w)

-- Marking ends; or some of the work is taken away, after which more nodes have joined if all was
-- quiet before; or only the token moves.
pub data Went (shape : Shaped) (cycle most : ℕ) (w : World) (ss : List Step) : Type 0 where
  over : Over shape cycle most (run w ss) → Went shape cycle most w ss
  less : Marks shape cycle most (run w ss)
      → work_left shape.nodes (now (run w ss)) + 1 ≤ work_left shape.nodes (now w)
      → unjoined shape.nodes (now (run w ss)) ≤ unjoined shape.nodes (now w)
      → (Quiet shape.nodes (now w)
      → unjoined shape.nodes (now (run w ss)) + 1 ≤ unjoined shape.nodes (now w))
      → Went shape cycle most w ss
  idle : Idly shape cycle most w ss → Went shape cycle most w ss

pub sweeps-most : (n cycle : ℕ) (c : Cut) → sweeps_left n cycle c ≤ 2 * n + slots_in n c
sweeps-most n cycle c =
    let a = sum-le n (λ j. sweep_work cycle (c j).local) (λ j. 2 + width_of (c j).local)
    (λ j _.
    cond_both ((c j).local.phases.swept == cycle) 0
    (2 + (width_of (c j).local - (c j).local.phases.cursor))
    (λ z. z ≤ 2 + width_of (c j).local) (λ _. omega arith) (λ _. omega arith)) in
    omega (arith, a, sum-add n (λ _. 2) (λ j. width_of (c j).local), sum-const n 2)

-- steps once marking has ended
pub over-run : {shape : Shaped} {cycle most : ℕ} (w : World) (ss : List Step)
    → Over shape cycle most w → Turned w ss → Over shape cycle most (run w ss)
over-run {shape} {cycle} {most} w ss o t =
    let r = rest-run w ss o.rests t in
    record { rests = r.0; left = by r.1 }
  where
    by : RestRun shape cycle w ss
        → rest_left shape.nodes cycle (now (run w ss)) + shape.nodes ≤ most
    by (all_rest all) =
        let e = ap (λ (z : Cut). rest_left shape.nodes cycle z) (rest-same w ss all) in
        omega (arith, o.left, e)
    by (left_less less_is) = omega (arith, o.left, less_is)

module _ {shape : Shaped} {cycle most : ℕ} {w : World} (m : Marks shape cycle most w) (s : Step)
    (ss : List Step) where
  abbrev u : World
  u = happens w s

  -- after the first step, if marking goes on
  marks-on : Keeps shape.nodes (now w) (now u)
      → work_left shape.nodes (now u) ≤ work_left shape.nodes (now w) → Marks shape cycle most u
  marks-on k le = record {
    reached = reached-more (s ∷ []) m.reached;
    current = k.cycle ∙ m.current;
    marking = (let marking = m.marking in omega (arith, k.cycle, k.ended, marking));
    within = (let slots = k.slots in let within = m.within in omega (arith, le, slots, within));
  }

  after-idle : IdleStep shape (now w) (now u) s → Keeps shape.nodes (now w) (now u)
      → work_left shape.nodes (now u) ≤ work_left shape.nodes (now w)
      → Went shape cycle most u ss → Went shape cycle most w (s ∷ ss)
  after-idle i k le (over o) = over o
  after-idle i k le (less marks work joins quiet) =
      let j = k.unjoined in
      less marks (omega (arith, work, le)) (omega (arith, joins, j))
      (λ q. let more = quiet (idle-quiet i q) in omega (arith, more, j))
  after-idle i k le (idle h) =
      let j = k.unjoined in
      let work = h.work in
      let joins = h.joins in
      idle (record {
        marks = h.marks;
        all = (i, k, h.all);
        work = omega (arith, work, le);
        joins = omega (arith, joins, j);
      })

  after-fall : Keeps shape.nodes (now w) (now u)
      → work_left shape.nodes (now u) + 1 ≤ work_left shape.nodes (now w)
      → (Quiet shape.nodes (now w)
      → unjoined shape.nodes (now u) + 1 ≤ unjoined shape.nodes (now w))
      → Went shape cycle most u ss → Went shape cycle most w (s ∷ ss)
  after-fall k fell falls_so (over o) = over o
  after-fall k fell falls_so (less marks work joins quiet) =
      let j = k.unjoined in
      less marks (omega (arith, work, fell)) (omega (arith, joins, j))
      (λ q. let more = falls_so q in omega (arith, joins, more))
  after-fall k fell falls_so (idle h) =
      let j = k.unjoined in
      let work = h.work in
      let joins = h.joins in
      less h.marks (omega (arith, work, fell)) (omega (arith, joins, j))
      (λ q. let more = falls_so q in omega (arith, joins, more))

  after-end : cycle_of (now u) 0 ≡ cycle_of (now w) 0
      → (phases_of (now u) 0).ended ≡ cycle_of (now w) 0
      → slots_in shape.nodes (now u) ≡ slots_in shape.nodes (now w)
      → work_left shape.nodes (now u) ≤ work_left shape.nodes (now w) + shape.nodes
      → Over shape cycle most u
  after-end same ended slots work =
      let within = m.within in
      let sweeps = sweeps-most shape.nodes cycle (now u) in
      record {
        rests = record {
          reached = reached-more (s ∷ []) m.reached;
          current = same ∙ m.current;
          ended = ended ∙ m.current;
        };
        left = omega (arith, within, sweeps, slots, work);
      }

pub went : {shape : Shaped} {cycle most : ℕ} (w : World) (ss : List Step)
    → Marks shape cycle most w → Turned w ss → Went shape cycle most w ss
went w [] m t =
    idle (record { marks = m; all = tt; work = omega arith; joins = omega arith })
went {shape} {cycle} {most} w (s ∷ ss) m t =
    by (λ next. went (happens w s) ss next (turned-on t))
    (mark-step s m.reached.limits (reached-whole m.reached) m.marking
    (did m.reached s t.turns.0 t.numbered.0))
  where
    by : (Marks shape cycle most (happens w s) → Went shape cycle most (happens w s) ss)
        → MarkStep shape (now w) (now (happens w s)) s → Went shape cycle most w (s ∷ ss)
    by go (idles i k le) = after-idle m s ss i k le (go (marks-on m s ss k le))
    by go (falls k fell falls_so) =
        after-fall m s ss k fell falls_so
        (go (marks-on m s ss k (omega (arith, fell))))
    by go (finds same ended slots work) =
        over (over-run (happens w s) ss (after-end m s ss same ended slots work) (turned-on t))

-- ---- a round of idle steps begins in quiet

idle-scan : (shape : Shaped) (w : World) (ss : List Step) (i : ℕ) → AllIdle shape w ss
    → Among (step.Act i event.Scan) ss → is_grey (now w) i ≡ false
idle-scan shape w [] i all never = absurd never
idle-scan shape w (s ∷ ss) i all (inl is) = by all.0
  where
    by : IdleStep shape (now w) (now (happens w s)) s → is_grey (now w) i ≡ false
    by (nothing same excuse) = subst (λ (z : Step). Excuse (now w) z) (sym is) excuse
    by (token_in from to x t took token here act) =
        absurd (both_ways _ act (sym (ap is_act is)))
    by (token_on j q ms pass idle_is tokens got step_is) = absurd cc
idle-scan shape w (s ∷ ss) i all (inr later) =
    sym (idle-grey all.0 i) ∙ idle-scan shape (happens w s) ss i all.2 later

-- a message in flight stays so, if it isn't a token
idle-flight-step : {shape : Shaped} {c d : Cut} {s : Step} (from to place : ℕ) (x : Message)
    → IdleStep shape c d s → IsInFlight c from to place x
    → IsInFlight d from to place x ⊎ (is_token x.body ≡ true)
idle-flight-step from to place x (nothing same excuse) flight =
    inl (subst (λ (z : Cut). IsInFlight z from to place x) (sym same) flight)
idle-flight-step {d = d} from to place x (token_in f g y t took token here act) flight =
    ⊎_elim {C = IsInFlight d from to place x ⊎ (is_token x.body ≡ true)} (λ stays. inl stays)
    (λ received.
    inr (ap (λ (z : Message). is_token z.body) received.2 ∙ ap is_token token))
    (flies-on took from to place x flight)
idle-flight-step from to place x (token_on i q ms pass idle_is tokens got step_is) flight =
    inl (flies idle_is.turn from to place x flight
    (let same = taken-same idle_is.turn got from to in
    let later = flight.later in omega (arith, same, later)))

idle-flight : (shape : Shaped) (w : World) (ss : List Step) {from to place : ℕ} {x : Message}
    → AllIdle shape w ss → IsInFlight (now w) from to place x
    → IsInFlight (now (run w ss)) from to place x ⊎ (is_token x.body ≡ true)
idle-flight shape w [] all flight = inl flight
idle-flight shape w (s ∷ ss) {from} {to} {place} {x} all flight =
    ⊎_elim {C = IsInFlight (now (run w (s ∷ ss))) from to place x ⊎ (is_token x.body ≡ true)}
    (λ stays. idle-flight shape (happens w s) ss all.2 stays) (λ token. inr token)
    (idle-flight-step from to place x all.0 flight)

-- the token's spot, if it is in flight
token-at : {shape : Shaped} {c : Cut} (inv : Inv shape c) (marking : Marking (phases_of c 0))
    (from to place : ℕ) (x : Message) → IsInFlight c from to place x → is_token x.body ≡ true
    → on_way from to place ≡ (inv.tokens.round marking).spot
token-at {c = c} inv marking from to place x flight token =
    let t = token-there x.body token in
    (inv.tokens.round marking).only t.0 (on_way from to place)
    (is_sent from to place x.stamp
    (subst (λ b. IsInFlight c from to place (record { stamp = x.stamp; body = b })) t.1 flight))

-- the message at a place of a link
abbrev message_at : Cut → ℕ → ℕ → ℕ → Message
message_at c from to place = get_or (sent_to (c from) to) place no_message

stands-there : (c : Cut) (from to place : ℕ) → taken c from to ≤ place
    → place < length (sent_to (c from) to) → IsInFlight c from to place (message_at c from to place)
stands-there c from to place later below = record {
  later = later;
  there = slice_get-get_or (sent_to (c from) to) place no_message below;
}

-- if a node holds the token in quiet, nothing is in flight
holder-still : {shape : Shaped} {c : Cut} → Inv shape c → Marking (phases_of c 0)
    → Quiet shape.nodes c → (i : ℕ) → has_token c i ≡ true → Still shape.nodes c
holder-still {shape = shape} {c = c} inv marking quiet i has from to f t =
    ⊎_elim {C = is_waiting c from to ≡ false}
    (λ waiting.
    absurd
    (let place : ℕ = taken c from to in
    let x : Message = message_at c from to place in
    let flight : IsInFlight c from to place x =
    stands-there c from to place (omega arith) (ltb-true _ _ waiting) in
    let token = some-of (c i).local.ring.token has in
    let held : at_node i ≡ (inv.tokens.round marking).spot =
    (inv.tokens.round marking).only token.0 (at_node i) (is_held i token.1) in
    let same : on_way from to place ≡ at_node i =
    token-at inv marking from to place x flight (quiet.tokens from to place x flight) ∙ sym held in
    let e : ◌≡◌ {A = ℕ} 1 0 = ap under_way same in
    omega (arith, e)))
    (λ none. none) (cases_Bool (is_waiting c from to))

module _ {shape : Shaped} {cycle most : ℕ} (w : World) (ss : List Step)
    (m : Marks shape cycle most w) (all : AllIdle shape w ss) (r : IsRound shape.nodes w ss) where
  abbrev c : Cut
  c = now w

  inv : Inv shape c
  inv = (reached-whole m.reached).inv

  -- of the first two messages in flight each is the token
  first-two : {from to : ℕ} {x : Message} (k : ℕ) → k < 2
      → IsInFlight c from to (taken c from to + k) x
      → is_token x.body ≡ true
  first-two {from} {to} {x} k two flight =
      let inside = flight-inside from to (taken c from to + k) x inv.base flight in
      let came = r.comes_in from to k inside.0 inside.1 two
      (slice_get_within (sent_to (c from) to) (taken c from to + k) x flight.there) in
      ⊎_elim {C = is_token x.body ≡ true}
      (λ stays. absurd (let later = stays.later in omega (arith, later, came))) (λ token. token)
      (idle-flight shape w ss all flight)

  pub quiet-start : Quiet shape.nodes c
  quiet-start = record {
    calm = λ i inside. idle-scan shape w ss i all (r.each i inside).scan;
    tokens = λ from to place x flight.
        ⊎_elim {C = is_token x.body ≡ true}
        (λ (first : place ≡ taken c from to).
        first-two 0 (omega arith)
        (subst (λ (k : ℕ). IsInFlight c from to k x)
        (let e : place ≡ taken c from to + 0 = omega (arith, first) in e) flight))
        (λ (behind : taken c from to < place). absurd (behind-none flight behind))
        (by-place (taken c from to) place flight.later);
  }
    where
      by-place : (k place : ℕ) → k ≤ place → (place ≡ k) ⊎ (k < place)
      by-place k place le = ⊎_elim (λ e. inl e) (λ other. inr (omega (arith, le, other)))
          (cases_eq place k)

      -- two tokens would be in flight
      behind-none : {from to place : ℕ} {x : Message} → IsInFlight c from to place x
          → taken c from to < place → ⊥
      behind-none {from} {to} {place} {x} flight behind =
          let k : ℕ = taken c from to in
          let within = slice_get_within (sent_to (c from) to) place x flight.there in
          let at : (j : ℕ) → j < 2
          → on_way from to (k + j) ≡ (inv.tokens.round m.marking).spot =
          λ j two.
          let there : IsInFlight c from to (k + j) (message_at c from to (k + j)) =
          stands-there c from to (k + j) (omega arith) (omega (arith, behind, within, two)) in
          token-at inv m.marking from to (k + j) _ there (first-two j two there) in
          let same : on_way from to (k + 0) ≡ on_way from to (k + 1) =
          at 0 (omega arith) ∙ sym (at 1 (omega arith)) in
          let e : k + 0 ≡ k + 1 = ap place_at same in
          omega (arith, e)
        where
          place_at : Spot → ℕ
          place_at (at_node i) = 0
          place_at (on_way f t p) = p

-- ---- and moves the token

pub idle-quiet-run : (shape : Shaped) (w : World) (ss : List Step) → AllIdle shape w ss
    → Quiet shape.nodes (now w) → Quiet shape.nodes (now (run w ss))
idle-quiet-run shape w [] all quiet = quiet
idle-quiet-run shape w (s ∷ ss) all quiet =
    idle-quiet-run shape (happens w s) ss all.2 (idle-quiet all.0 quiet)

pub data RingRun (shape : Shaped) (w : World) (ss : List Step) (budget : ℕ) : Type 0 where
  stood : AllRest w ss → RingRun shape w ss budget
  moved : (less : ℕ) → less < budget → Budget shape.nodes (now (run w ss)) 0 less
      → RingRun shape w ss budget

pub ring-run : {shape : Shaped} (w : World) (ss : List Step) (budget : ℕ) → Reached shape w
    → Marking (phases_of (now w) 0) → AllIdle shape w ss → Quiet shape.nodes (now w)
    → Budget shape.nodes (now w) 0 budget → RingRun shape w ss budget
ring-run w [] budget r marking all quiet spends = stood tt
ring-run {shape} w (s ∷ ss) budget r marking all quiet spends =
    let k = all.1 in
    by (λ rest left.
    ring-run (happens w s) ss rest (reached-more (s ∷ []) r)
    (let e = k.ended in let f = k.cycle in omega (arith, e, f, marking)) all.2
    (idle-quiet all.0 quiet) left) all.0
  where
    -- the token has moved
    after : ((rest : ℕ) → Budget shape.nodes (now (happens w s)) 0 rest
        → RingRun shape (happens w s) ss rest)
        → TokenMove shape.nodes (now w) (now (happens w s)) 0 budget
        → RingRun shape w (s ∷ ss) budget
    after go (moves_on i q ms idle_is few load left) = on (go (budget - 1) left)
      where
        lower : budget - 1 < budget
        lower = (let enough = spends.enough in omega (arith, enough))

        on : RingRun shape (happens w s) ss (budget - 1) → RingRun shape w (s ∷ ss) budget
        on (stood rest) =
            moved (budget - 1) lower
            (subst (λ (z : Cut). Budget shape.nodes z 0 (budget - 1))
            (sym (rest-same (happens w s) ss rest)) left)
        on (moved rest fewer later) = moved rest (omega (arith, fewer, lower)) later
    after go (ends i q ms idle_is few load ended) =
        absurd (let k = all.1 in let e = k.ended in omega (arith, ended, e, marking))

    by : ((rest : ℕ) → Budget shape.nodes (now (happens w s)) 0 rest
        → RingRun shape (happens w s) ss rest)
        → IdleStep shape (now w) (now (happens w s)) s → RingRun shape w (s ∷ ss) budget
    by go (nothing same excuse) =
        on (go budget (subst (λ (z : Cut). Budget shape.nodes z 0 budget) (sym same) spends))
      where
        on : RingRun shape (happens w s) ss budget → RingRun shape w (s ∷ ss) budget
        on (stood rest) = stood (same, excuse, rest)
        on (moved rest fewer later) = moved rest fewer later
    by go (token_in from to x t took token here act) =
        after go (token-comes took t token here marking spends)
    by go (token_on i q ms pass idle_is tokens got step_is) =
        after go
        (token-passes pass marking spends
        (holder-still (reached-whole r).inv marking quiet i pass.has))

-- in a round that changes something
pub stood-never : {shape : Shaped} {cycle most : ℕ} (w : World) (ss : List Step)
    → Marks shape cycle most w → Quiet shape.nodes (now w) → IsRound shape.nodes w ss
    → AllRest w ss → ⊥
stood-never {shape} w ss m quiet r all =
    let round = (reached-whole m.reached).inv.tokens.round m.marking in
    by round.token round.spot round.there round.near
  where
    by : (t : Token) (z : Spot) → IsAt (now w) t z → place_of_spot z < shape.nodes → ⊥
    by t (at_node i) (is_held i0 held) near =
        let has : has_token (now w) i ≡ true = ap is_some held in
        both_ways _ (quiet.calm i near)
        (rest-excuse w ss (step.Act i event.Pass) all (r.each i near).pass has)
    by t (on_way from to place) (is_sent f0 t0 p0 stamp flight) near =
        let c : Cut = now w in
        let inside = flight-inside from to place _ (reached-whole m.reached).inv.base flight in
        let within = slice_get_within (sent_to (c from) to) place _ flight.there in
        let later = flight.later in
        let came = r.comes_in from to 0 inside.0 inside.1 (omega arith)
        (omega (arith, later, within)) in
        let same : taken (now (run w ss)) from to ≡ taken c from to =
        ap (λ (z : Cut). taken z from to) (rest-same w ss all) in
        omega (arith, came, same)
