-- The invariant after a step of the phases: all others are told of a beginning or an end, and they
-- receive these messages.
use Rattle.std.proofs.Common.{◌≡◌, ◌≢◌, ℕ, zero, suc, ◌+◌, ◌<◌, ◌≤◌, ◌⊎◌, ◌==◌, cond, true, false, List, [], ◌∷◌, ◌++◌, length, get_or, set, Some, slice_get, refl, sym, ap, ◌∙◌, subst, ⊎_elim, inl, inr, arith, le_refl, length-append, get_or-set_other}
use Rattle.std.proofs.lemmas.Int.{ints}
use Rattle.std.proofs.lemmas.Bool.{cases_lt, cond_both, eqb-false}
use Rattle.std.proofs.lemmas.Option.{slice_get_within}
use Rattle.std.proofs.Math.Path.{fun_ext}
use Rattle.ids.specs.Limits.{Shaped}
use Rattle.msg.specs.declared.body.Body.{Body}
use Rattle.msg.specs.declared.body.Body.TheVariants as body
use Rattle.msg.specs.declared.body.Token.{Token}
use Rattle.msg.specs.declared.body.Message.{Message}
use Rattle.model.specs.State.{Heap, Phases, LocalState, NodeState, got_from, sent_to}
use Rattle.model.specs.Counting.{is_idle, stamped, to_others}
use Rattle.model.specs.Shading.{is_open}
use Rattle.model.specs.Steps.{append_all}
use Rattle.model.specs.Cuts.{Cut, taken, IsInFlight, Among, Becomes}
use Rattle.model.proofs.Lookups.{at_set_if, slice_get-left}
use Rattle.laws.proofs.Lookups.{among-append}
use Rattle.laws.proofs.StepFacts.{append_all-grows}
use Rattle.laws.proofs.Turns.{Turn, at_turn, flew}
use Rattle.laws.proofs.Rings.{RingStep, safra-turn}
use Rattle.laws.proofs.Tallies.{bound-turn}
use Rattle.laws.proofs.Acting.{all-from}
use Rattle.laws.proofs.Invariant.{phases_of, cycle_of, Marking, Phased, StampFits, BodyFits, is_single, IsSaidOnce, Tokens, IsBlack, Inv}
use Rattle.laws.proofs.Base.{unheard}
use Rattle.laws.proofs.Light.{light-inv, Speaks, speaks-flows, Hears, hears-turn, hears-flows, hears-width, hears-within, hears-others, hears-marks}
use Rattle.laws.proofs.RingSteps.{NoToken, tokens-same, token-back, token-on}

-- ---- what phases say of messages

-- they say the same if these parts of them are as before
pub record SaidAlike (ph qh : ℕ → Phases) (from to : ℕ) (b : Body) : Type 0 where
  pub first : ((qh 0).cycle ≡ (ph 0).cycle) × ((qh 0).ended ≡ (ph 0).ended)
  pub ended : b ≡ body.Ended → (qh to).ended ≡ (ph to).ended
  pub swept : b ≡ body.Swept
      → ((qh from).swept ≡ (ph from).swept)
      × (get_or (qh 0).reports from 0 ≡ get_or (ph 0).reports from 0)

pub fits-moved : {ph qh : ℕ → Phases} {from to : ℕ} {b : Body} (n s : ℕ)
    → SaidAlike ph qh from to b → BodyFits n ph from to s b → BodyFits n qh from to s b
fits-moved {ph} {qh} {from} {to} {b} n s alike = by b refl
  where
    first : ((qh 0).cycle ≡ (ph 0).cycle) × ((qh 0).ended ≡ (ph 0).ended)
    first = alike.first

    marking : Marking (ph 0) → Marking (qh 0)
    marking m = omega (arith, m, first.0, first.1)

    stamps : StampFits (ph 0) s → StampFits (qh 0) s
    stamps (inl now) = inl (now ∙ sym first.0)
    stamps (inr before) = inr (marking before.0, before.1 ∙ sym first.0)

    by : (z : Body) → b ≡ z → BodyFits n ph from to s z → BodyFits n qh from to s z
    by body.Begin e h = (h.0, (let w = h.1 in omega (arith, w, first.0)))
    by (body.Token t) e h = (h.0, marking h.1, h.2 ∙ sym first.0)
    by (body.Mark r) e h = (h.0, marking h.1, h.2 ∙ sym first.0)
    by (body.Give label reference) e h = stamps h
    by (body.Put target place reference) e h = (h.0, stamps h.1)
    by (body.Get target place label) e h = (h.0, stamps h.1)
    by (body.Post label references bytes) e h = stamps h
    by (body.Fetch target label offset count) e h = (h.0, stamps h.1)
    by body.Ended e h = (
      h.0,
      (let r = h.1 in omega (arith, r, first.0, first.1)),
      h.2 ∙ sym first.0,
      (let w = h.3 in omega (arith, w, alike.ended e, first.0)),
    )
    by body.Swept e h =
        let same = alike.swept e in (
          h.0,
          h.1,
          h.2 ∙ sym first.0,
          same.0 ∙ h.3 ∙ sym first.0,
          (let w = h.4 in omega (arith, w, same.1, first.0)),
        )

-- ---- steps that move no token

pub record Quietly (n : ℕ) (c d : Cut) (i : ℕ) (q : LocalState) (ms : List (ℕ × Message)) : Type 0
  where
    pub turn : Turn c d i q ms
    pub inside : i < n
    pub cycle : q.phases.cycle ≡ (c i).local.phases.cycle
    pub ended : (phases_of d 0).ended ≡ (phases_of c 0).ended
    pub grey : (c i).local.heap.grey ≡ [] → q.heap.grey ≡ []
    pub earlier : q.ring.earlier ≡ (c i).local.ring.earlier
    pub colour : q.ring.colour ≡ (c i).local.ring.colour
    pub token : q.ring.token ≡ (c i).local.ring.token
    pub none : (to : ℕ) (x : Message) (t : Token) → Among (to, x) ms → x.body ≡ body.Token t → ⊥
    pub stays : (from place stamp : ℕ) (t : Token)
        → IsInFlight c from i place (record { stamp = stamp; body = body.Token t })
        → got_from q from ≤ place

pub quiet-tokens : {n : ℕ} {c d : Cut} {i : ℕ} {q : LocalState} {ms : List (ℕ × Message)}
    → Quietly n c d i q ms → Tokens n c → Tokens n d
quiet-tokens {n = n} {c = c} {d = d} {i = i} {q = q} {ms = ms} h =
    let cycles : (j : ℕ) → cycle_of d j ≡ cycle_of c j =
    at_turn (λ j s. s.local.phases.cycle ≡ cycle_of c j) h.turn h.cycle (λ j _. refl) in
    let ring : (t : ℕ) → RingStep n c d i q ms t = λ t. record {
      turn = h.turn;
      inside = h.inside;
      cycle = cycles 0;
      near = λ _. inl (
        (λ b. ⊎_elim {C = IsBlack (cycle_of c 0) q}
            (λ apart. inl (λ e. apart (sym h.cycle ∙ e)))
            (λ black. inr (h.colour ∙ black)) b),
        omega (arith, ints, h.earlier),
      );
      far = λ _. inl (λ p. ((h.cycle ∙ p.0, h.grey p.1), h.earlier));
    } in
    let same : NoToken n c d = record {
      back = token-back h.turn h.token h.none;
      on = token-on h.turn h.token h.stays;
      phases = cycles;
      marking = λ m. omega (arith, m, h.ended, cycles 0);
      resting = λ m. omega (arith, m, h.ended, cycles 0);
      safra = λ t. safra-turn (ring t);
      bound = λ t z. bound-turn h.turn;
    } in
    tokens-same same

-- ---- messages to all others

pub others-are : (p : LocalState) (b : Body) (m to : ℕ) (x : Message)
    → Among (to, x) (to_others p b m) → (x ≡ stamped p b) × (to ≢ p.own) × (to < m)
others-are p b zero to x never = absurd never
others-are p b (suc m) to x a = ⊎_elim {C = (x ≡ stamped p b) × (to ≢ p.own) × (to < suc m)}
    (λ before.
    let found = others-are p b m to x before in
    (found.0, found.1, (let w = found.2 in omega (arith, w))))
    (λ last.
    cond_both (m == p.own) [] ((m, stamped p b) ∷ [])
    (λ z. Among (to, x) z → (x ≡ stamped p b) × (to ≢ p.own) × (to < suc m))
    (λ _ never. absurd never)
    (λ other here. ⊎_elim {C = (x ≡ stamped p b) × (to ≢ p.own) × (to < suc m)}
    (λ (e : (to, x) ≡ (m, stamped p b)).
    let at : to ≡ m = ap (λ (z : ℕ × Message). z.0) e in (
      ap (λ (z : ℕ × Message). z.1) e,
      (λ (own : to ≡ p.own). eqb-false m p.own other (sym at ∙ own)),
      omega (arith, at),
    ))
    (λ never. absurd never) here)
    last)
    (among-append (to, x) (to_others p b m) (cond (m == p.own) [] ((m, stamped p b) ∷ [])) a)

append_all-append : (sent : List (List Message)) (xs ys : List (ℕ × Message))
    → append_all sent (xs ++ ys) ≡ append_all (append_all sent xs) ys
append_all-append sent [] ys = refl
append_all-append sent ((to, x) ∷ xs) ys =
    append_all-append (set sent to (get_or sent to [] ++ x ∷ [])) xs ys

-- each of them gets at most one
others-once : (p : LocalState) (b : Body) (sent : List (List Message)) (m k : ℕ)
    → (m ≤ k → length (get_or (append_all sent (to_others p b m)) k []) ≡ length (get_or sent k []))
    × (length (get_or (append_all sent (to_others p b m)) k []) ≤ length (get_or sent k []) + 1)
others-once p b sent zero k = ((λ _. refl), omega arith)
others-once p b sent (suc m) k =
    let before = others-once p b sent m k in
    let old : List (List Message) = append_all sent (to_others p b m) in
    let longer : List Message = get_or old m [] ++ stamped p b ∷ [] in
    let all : (ms : List (ℕ × Message)) → ms ≡ cond (m == p.own) [] ((m, stamped p b) ∷ [])
    → (suc m ≤ k → length (get_or (append_all old ms) k []) ≡ length (get_or sent k []))
    × (length (get_or (append_all old ms) k []) ≤ length (get_or sent k []) + 1) =
    λ ms is.
    subst (λ (z : List (ℕ × Message)).
    (suc m ≤ k → length (get_or (append_all old z) k []) ≡ length (get_or sent k []))
    × (length (get_or (append_all old z) k []) ≤ length (get_or sent k []) + 1)) (sym is)
    (cond_both (m == p.own) [] ((m, stamped p b) ∷ [])
    (λ z. (suc m ≤ k → length (get_or (append_all old z) k []) ≡ length (get_or sent k []))
    × (length (get_or (append_all old z) k []) ≤ length (get_or sent k []) + 1))
    (λ _. ((λ past. before.0 (let w : m ≤ k = omega (arith, past) in w)), before.1))
    (λ _. (
      (λ past.
          ap (λ (z : List Message). length z)
          (get_or-set_other old m k longer [] (λ (e : k ≡ m). omega (arith, past, e)))
          ∙ before.0 (let w : m ≤ k = omega (arith, past) in w)),
      at_set_if (λ z. length z ≤ length (get_or sent k []) + 1) old m k longer []
          (λ (e : m ≡ k).
          let wide : length longer ≡ length (get_or old m []) + 1 =
          length-append (get_or old m []) (stamped p b ∷ []) in
          let same : length (get_or old k []) ≡ length (get_or sent k []) =
          before.0 (let w : m ≤ k = omega (arith, e) in w) in
          let there : length (get_or old m []) ≡ length (get_or old k []) =
          ap (λ (z : ℕ). length (get_or old z [])) e in
          omega (arith, wide, same, there))
          before.1,
    ))) in
    let whole : append_all sent (to_others p b (suc m))
    ≡ append_all old (cond (m == p.own) [] ((m, stamped p b) ∷ [])) =
    append_all-append sent (to_others p b m) (cond (m == p.own) [] ((m, stamped p b) ∷ [])) in
    subst
    (λ (z : List (List Message)). (suc m ≤ k → length (get_or z k []) ≡ length (get_or sent k []))
    × (length (get_or z k []) ≤ length (get_or sent k []) + 1)) (sym whole)
    (all (cond (m == p.own) [] ((m, stamped p b) ∷ [])) refl)

-- a new message in flight is the last on its link
pub others-last : {c d : Cut} {i : ℕ} {q : LocalState} {x : Message} (p : LocalState) (b : Body)
    (m : ℕ) → Turn c d i q (to_others p b m) → (k place : ℕ) → IsInFlight d i k place x
    → (IsInFlight c i k place x → ⊥) → place ≡ length (sent_to (c i) k)
others-last {c = c} {d = d} {i = i} {x = x} p b m turn k place flight new =
    let there : slice_get (get_or (append_all (c i).sent (to_others p b m)) k []) place ≡ Some x =
    ap (λ (z : NodeState). slice_get (sent_to z k) place) (sym turn.becomes.changed)
    ∙ flight.there in
    let below : place < length (get_or (append_all (c i).sent (to_others p b m)) k []) =
    slice_get_within _ place x there in
    let most = (others-once p b (c i).sent m k).1 in
    ⊎_elim {C = place ≡ length (sent_to (c i) k)}
    (λ (old : place < length (sent_to (c i) k)).
    let more = append_all-grows (c i).sent (to_others p b m) k in
    let fewer : taken c i k ≤ taken d i k =
    at_turn (λ j s. taken c i j ≤ got_from s.local i) turn (turn.heard i) (λ j _. le_refl _) k in
    absurd (new (record {
      later = omega (arith, fewer, flight.later);
      there =
          sym (slice_get-left (sent_to (c i) k) more.0 place old)
          ∙ ap (λ (z : List Message). slice_get z place) (sym more.1) ∙ there;
    })))
    (λ (past : length (sent_to (c i) k) ≤ place). omega (arith, past, below, most))
    (cases_lt place (length (sent_to (c i) k)))

-- A node is as before, and sends messages that bring no reference and no token.
pub record Says (shape : Shaped) (c d : Cut) (i : ℕ) (ms : List (ℕ × Message)) : Type 0 where
  pub inv : Inv shape c
  pub inside : i < shape.nodes
  pub becomes : Becomes c d i (record {
    local = (c i).local;
    sent = append_all (c i).sent ms;
  })
  pub reaches : (m : ℕ × Message) → Among m ms → m.0 < shape.nodes
  pub idle : (to : ℕ) (x : Message) → Among (to, x) ms → is_idle x.body ≡ true
  pub no_token : (to : ℕ) (x : Message) (t : Token) → Among (to, x) ms → x.body ≡ body.Token t → ⊥
  pub fits : (to : ℕ) (x : Message) → Among (to, x) ms
      → BodyFits shape.nodes (phases_of c) i to x.stamp x.body

module _ {shape : Shaped} {c d : Cut} {i : ℕ} {ms : List (ℕ × Message)}
    (h : Says shape c d i ms) where
  pub says-turn : Turn c d i (c i).local ms
  says-turn = record { becomes = h.becomes; heard = λ from. le_refl _ }

  pub says-phases : phases_of d ≡ phases_of c
  says-phases =
      fun_ext (at_turn (λ j s. s.local.phases ≡ phases_of c j) says-turn refl (λ j _. refl))

  says-ended : (phases_of d 0).ended ≡ (phases_of c 0).ended
  says-ended = ap (λ (z : ℕ → Phases). (z 0).ended) says-phases

  says-quiet : Quietly shape.nodes c d i (c i).local ms
  says-quiet = record {
    turn = says-turn;
    inside = h.inside;
    cycle = refl;
    ended = says-ended;
    grey = λ none. none;
    earlier = refl;
    colour = refl;
    token = refl;
    none = h.no_token;
    stays = λ from place stamp t flight. flight.later;
  }

  says-speaks : Speaks shape c d i (c i).local ms
  says-speaks = record {
    inv = h.inv;
    inside = h.inside;
    turn = says-turn;
    cycle = refl;
    got = refl;
    earlier = refl;
    recent = refl;
    all = all-from (λ m. m.0 < shape.nodes) ms h.reaches;
    idle = h.idle;
  }

  says-fits : (from to place : ℕ) (x : Message) → IsInFlight d from to place x
      → BodyFits shape.nodes (phases_of d) from to x.stamp x.body
  says-fits from to place x flight =
      subst (λ (z : ℕ → Phases). BodyFits shape.nodes z from to x.stamp x.body) (sym says-phases)
      (⊎_elim {C = BodyFits shape.nodes (phases_of c) from to x.stamp x.body}
      (λ before. h.inv.messages.fits from to place x before)
      (λ new.
      subst (λ (z : ℕ). BodyFits shape.nodes (phases_of c) z to x.stamp x.body) (sym new.0)
      (h.fits to x new.1))
      (flew says-turn from to place x flight))

  pub says-inv : IsSaidOnce d → Inv shape d
  says-inv once = light-inv (record {
    inv = h.inv;
    step = unheard h.inside says-turn refl refl refl h.inv.base;
    heap = refl;
    asked = refl;
    cycle = refl;
    ended = says-ended;
    opened = λ o. o;
    calm = λ shut. (h.inv.tidy i).calm shut;
    idle = h.idle;
    marks = λ from place stamp r flight. flight.later;
    flows = speaks-flows says-speaks;
    owed = (refl, refl);
    phased = subst (Phased shape.nodes) (sym says-phases) h.inv.phased;
    messages = record { fits = says-fits; once = once };
    tokens = quiet-tokens says-quiet h.inv.tokens;
    behind = λ k g o rest there past. h.inv.rested.behind i k g o rest there past;
  })

-- Node 0 sends a message to all others. If the message says that marking has ended, none of them
-- knows it, and no such message is in flight yet.
pub record Telling (shape : Shaped) (c d : Cut) (b : Body) : Type 0 where
  pub inv : Inv shape c
  pub inside : 0 < shape.nodes
  pub becomes : Becomes c d 0 (record {
    local = (c 0).local;
    sent = append_all (c 0).sent (to_others (c 0).local b shape.nodes);
  })
  pub idle : is_idle b ≡ true
  pub no_token : (t : Token) → b ≡ body.Token t → ⊥
  pub fits : (to : ℕ) → to ≢ 0 → to < shape.nodes
      → BodyFits shape.nodes (phases_of c) 0 to (cycle_of c 0) b
  pub first : (to place : ℕ) (x : Message) → is_single b ≡ true → IsInFlight c 0 to place x
      → x.body ≡ b → ⊥

pub tell-inv : {shape : Shaped} {c d : Cut} {b : Body} → Telling shape c d b → Inv shape d
tell-inv {shape = shape} {c = c} {d = d} {b = b} h =
    let p : LocalState = (c 0).local in
    let ms : List (ℕ × Message) = to_others p b shape.nodes in
    let own : p.own ≡ 0 = h.inv.base.own 0 h.inside in
    let are : (to : ℕ) (x : Message) → Among (to, x) ms
    → (x ≡ stamped p b) × (to ≢ p.own) × (to < shape.nodes) =
    others-are p b shape.nodes in
    let says : Says shape c d 0 ms = record {
      inv = h.inv;
      inside = h.inside;
      becomes = h.becomes;
      reaches = λ m a. (are m.0 m.1 a).2;
      idle = λ to x a. ap (λ (z : Message). is_idle z.body) (are to x a).0 ∙ h.idle;
      no_token = λ to x t a e.
          h.no_token t (ap (λ (z : Message). z.body) (sym (are to x a).0) ∙ e);
      fits = λ to x a.
          (let is = are to x a in
          subst (λ (z : Message). BodyFits shape.nodes (phases_of c) 0 to z.stamp z.body)
          (sym is.0) (h.fits to (λ (e : to ≡ 0). is.1 (e ∙ sym own)) is.2));
    } in
    says-inv says (λ from to k l x y fx fy same single. ⊎_elim {C = k ≡ l}
    (λ ex. ⊎_elim {C = k ≡ l}
    (λ ey. h.inv.messages.once from to k l x y ex ey same single)
    (λ ny. absurd (clash from to k y ex ny same single))
    (flew (says-turn says) from to l y fy))
    (λ nx. ⊎_elim {C = k ≡ l}
    (λ ey. absurd (clash from to l x ey nx (sym same) (ap is_single (sym same) ∙ single)))
    (λ ny.
    last to k x (subst (λ (z : ℕ). IsInFlight d z to k x) nx.0 fx) nx.1 single
    ∙ sym (last to l y (subst (λ (z : ℕ). IsInFlight d z to l y) ny.0 fy) ny.1
    (ap is_single (sym same) ∙ single)))
    (flew (says-turn says) from to l y fy))
    (flew (says-turn says) from to k x fx))
  where
    is-told : (to : ℕ) (x : Message) → Among (to, x) (to_others (c 0).local b shape.nodes)
        → x.body ≡ b
    is-told to x a = ap (λ (z : Message). z.body) (others-are (c 0).local b shape.nodes to x a).0

    clash : {x : Message} (from to k : ℕ) (y : Message) → IsInFlight c from to k x
        → (from ≡ 0) × Among (to, y) (to_others (c 0).local b shape.nodes) → x.body ≡ y.body
        → is_single x.body ≡ true → ⊥
    clash {x = x} from to k y fx new same single =
        let told : x.body ≡ b = same ∙ is-told to y new.1 in
        h.first to k x (ap is_single (sym told) ∙ single)
        (subst (λ (z : ℕ). IsInFlight c z to k x) new.0 fx) told

    last : (to k : ℕ) (x : Message) → IsInFlight d 0 to k x
        → Among (to, x) (to_others (c 0).local b shape.nodes) → is_single x.body ≡ true
        → k ≡ length (sent_to (c 0) to)
    last to k x flight a single =
        others-last (c 0).local b shape.nodes
        (record { becomes = h.becomes; heard = λ from. le_refl _ })
        to k flight
        (λ before.
        h.first to k x (ap is_single (sym (is-told to x a)) ∙ single) before (is-told to x a))

-- ---- an idle message that is no token is received

pub record Hearing (shape : Shaped) (c d : Cut) (i : ℕ) (q : LocalState) (j : ℕ) (x : Message)
    : Type 0 where
  pub hears : Hears shape c d i q j x
  pub same : q ≡ record (c i).local { got = q.got; phases = q.phases }
  pub no_token : (t : Token) → x.body ≡ body.Token t → ⊥
  pub ended : (phases_of d 0).ended ≡ (phases_of c 0).ended
  pub opened : is_open q ≡ true → is_open (c i).local ≡ true
  pub calm : is_open q ≡ false → (c i).local.heap.grey ≡ []
  pub phased : Phased shape.nodes (phases_of d)
  pub sweep : (q.phases.cursor ≡ (c i).local.phases.cursor)
      × (q.phases.swept ≡ (c i).local.phases.swept)
  pub fits : (from to place : ℕ) (y : Message) → IsInFlight c from to place y
      → taken d from to ≤ place
      → (y.body ≡ body.Ended → (phases_of d to).ended ≡ (phases_of c to).ended)
      × (y.body ≡ body.Swept
      → get_or (phases_of d 0).reports from 0 ≡ get_or (phases_of c 0).reports from 0)

pub hear-inv : {shape : Shaped} {c d : Cut} {i : ℕ} {q : LocalState} {j : ℕ} {x : Message}
    → Hearing shape c d i q j x → Inv shape d
hear-inv {shape = shape} {c = c} {d = d} {i = i} {q = q} {j = j} {x = x} h =
    let turn : Turn c d i q [] = hears-turn h.hears in
    let inv : Inv shape c = h.hears.inv in
    let heap : q.heap ≡ (c i).local.heap = ap (λ (z : LocalState). z.heap) h.same in
    let cycle0 : cycle_of d 0 ≡ cycle_of c 0 =
    at_turn (λ l s. s.local.phases.cycle ≡ cycle_of c l) turn h.hears.cycle (λ l _. refl) 0 in
    let swept : (l : ℕ) → (phases_of d l).swept ≡ (phases_of c l).swept =
    at_turn (λ l s. s.local.phases.swept ≡ (phases_of c l).swept) turn h.sweep.1 (λ l _. refl) in
    let was : (from to place : ℕ) (y : Message) → IsInFlight d from to place y
    → IsInFlight c from to place y =
    λ from to place y flight. ⊎_elim {C = IsInFlight c from to place y}
    (λ before. before) (λ new. absurd new.1) (flew turn from to place y flight) in
    let quiet : Quietly shape.nodes c d i q [] = record {
      turn = turn;
      inside = h.hears.inside;
      cycle = h.hears.cycle;
      ended = h.ended;
      grey = λ none. ap (λ (z : Heap). z.grey) heap ∙ none;
      earlier = h.hears.earlier;
      colour = ap (λ (z : LocalState). z.ring.colour) h.same;
      token = ap (λ (z : LocalState). z.ring.token) h.same;
      none = λ to y t a. absurd a;
      stays = λ from place stamp t flight. ⊎_elim {C = got_from q from ≤ place}
          (λ after. after)
          (λ is. absurd (h.no_token t (ap (λ (z : Message). z.body) (sym is.0))))
          (hears-others h.hears from place _ flight);
    } in
    light-inv (record {
      inv = inv;
      step = record {
        inside = h.hears.inside;
        turn = turn;
        own = ap (λ (z : LocalState). z.own) h.same;
        same_shape = ap (λ (z : LocalState). z.shape) h.same;
        heard = hears-width h.hears;
        within = hears-within h.hears;
      };
      heap = heap;
      asked = ap (λ (z : LocalState). z.asked) h.same;
      cycle = h.hears.cycle;
      ended = h.ended;
      opened = h.opened;
      calm = h.calm;
      idle = λ to y a. absurd a;
      marks = hears-marks h.hears;
      flows = hears-flows h.hears;
      owed = (h.hears.earlier, h.hears.recent);
      phased = h.phased;
      messages = record {
        fits = λ from to place y flight.
            let before = was from to place y flight in
            let same = h.fits from to place y before flight.later in
            let alike : SaidAlike (phases_of c) (phases_of d) from to y.body = record {
              first = (cycle0, h.ended);
              ended = same.0;
              swept = λ e. (swept from, same.1 e);
            } in
            fits-moved shape.nodes y.stamp alike (inv.messages.fits from to place y before);
        once = λ from to k l y z fy fz.
            inv.messages.once from to k l y z (was from to k y fy) (was from to l z fz);
      };
      tokens = quiet-tokens quiet inv.tokens;
      behind = λ k g o rest there past.
          inv.rested.behind i k g o rest there
          (⊎_elim {C = (k < (phases_of c i).cursor) ⊎ ((phases_of c i).swept ≡ cycle_of c 0)}
          (λ below.
          inl (let w : k < (c i).local.phases.cursor = omega (arith, below, h.sweep.0) in w))
          (λ done. inr (sym h.sweep.1 ∙ done)) past);
    })
