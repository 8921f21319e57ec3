-- A message that is delivered in its turn is addressed to its receiver, may be received, and finds
-- its target live.
use Rattle.std.proofs.Common.{◌≡◌, ◌≢◌, ℕ, ◌+◌, ◌%◌, ◌<◌, ◌≤◌, Bool, true, false, not, ◌==◌, ◌&&◌, ltb, ◌||◌, eq-eqb, ne_eqb, lt-ltb, le-leb, leb, leb-true, leb-false, List, [], ◌∷◌, length, Option, None, Some, refl, sym, ap, ◌∙◌, subst, inl, inr, ⊎_elim, arith}
use Rattle.std.specs.Prelude.{is_none}
use Rattle.std.specs.List.{AllByRecursion}
use Rattle.std.proofs.lemmas.Bool.{eqb-false, ltb-false, le-ltb, and_from, or_left, or_right, cases_Bool, cases_lt, cond_both, cond-true, cond-false, not_from_false}
use Rattle.std.proofs.lemmas.List.{get_or_past}
use Rattle.ids.specs.Limits.{Shaped}
use Rattle.ids.specs.declared.limits.TheConstants.{WINDOW}
use Rattle.ids.specs.declared.names.Ref.{Ref}
use Rattle.msg.specs.declared.body.Body.{Body}
use Rattle.msg.specs.declared.body.Body.TheVariants as body
use Rattle.msg.specs.declared.body.Token.{Token}
use Rattle.msg.specs.declared.body.Message.{Message}
use Rattle.model.specs.declared.event.Answer.TheVariants as answer
use Rattle.model.specs.Checks.{AllPass}
use Rattle.model.specs.State.{Phases, LocalState, NodeState, node_at, sent_to, got_from}
use Rattle.model.specs.Effects.{Work, at_rest}
use Rattle.model.specs.Shading.{is_calm, join, joined}
use Rattle.model.specs.Collecting.{token_sender}
use Rattle.model.specs.References.{IfAny, IsPlaced}
use Rattle.model.specs.Steps.{mentioned, target_of, may_reach, may_follow, is_marking, may_settle, may_take, is_within, are_within, is_repeat, is_early}
use Rattle.model.specs.World.{World, KeepsSent, new_world, run, numbered}
use Rattle.model.specs.Cuts.{Cut, cut, taken, IsInFlight, IsLive}
use Rattle.model.proofs.Joining.{join-phases, join-token}
use Rattle.laws.specs.Statements.{OfEveryRun, TargetsAreLive, NoneRefusedInTurn}
use Rattle.model.proofs.Slots.{occupied-within}
use Rattle.model.proofs.Lookups.{all-map}
use Rattle.laws.proofs.StepFacts.{Delivery, IsReleased, tests_of, Receipt, repeated, next, receipt-cases, deliver-answer, receive-passed, receive-early}
use Rattle.laws.proofs.KeepsSent.{new-keeps-sent}
use Rattle.laws.proofs.Cuts.{released-numbered, cut-in_flight, run-keeps-sent}
use Rattle.laws.proofs.Base.{inside-where, between-nodes}
use Rattle.laws.proofs.Invariant.{phases_of, cycle_of, Marking, Resting, Joined, Safe, Base, BodyFits, at_node, on_way, is_held, is_sent, Inv}
use Rattle.laws.proofs.Inner.{resting-joined, marking-open, occupied-inside}
use Rattle.laws.proofs.Acting.{latest}
use Rattle.laws.proofs.RingSteps.{way-not-node}
use Rattle.laws.proofs.Replies.{stamp-most}
use Rattle.laws.proofs.Live.{Whole, all-inv, all-whole}
use Rattle.laws.proofs.Placed.{Placed}

-- ---- targets

-- the object that a message is about is the receiver's own, and the message mentions it
pub target-own : (n : ℕ) (c : Cut) (from to s : ℕ) (b : Body) → BodyFits n (phases_of c) from to s b
    → IfAny (λ (r : Ref). r.node ≡ to) (target_of b)
target-own n c from to s (body.Mark target) fits = fits.0
target-own n c from to s (body.Put target place reference) fits = fits.0
target-own n c from to s (body.Get target place label) fits = fits.0
target-own n c from to s (body.Fetch target label offset count) fits = fits.0
target-own n c from to s b fits = tt

pub target-mentioned : (P : Ref → Type 0) (b : Body) → AllByRecursion P (mentioned b)
    → IfAny P (target_of b)
target-mentioned P (body.Mark target) all = all.0
target-mentioned P (body.Put target place reference) all = all.0
target-mentioned P (body.Get target place label) all = all.0
target-mentioned P (body.Fetch target label offset count) all = all.0
target-mentioned P b all = tt

received-target : {shape : Shaped} {t : NodeState} (w : World) (m : Delivery) (r : Ref)
    → KeepsSent w
    → Inv shape (cut w (λ _. false)) → IsReleased w m → target_of m.message.body ≡ Some r
    → Receipt (node_at w.current m.to) m t answer.Received
    → (r.node ≡ m.to) × IsLive (cut w (λ _. false)) r
received-target w m r h inv there about (repeated same says) =
    ⊎_elim (λ again. absurd cc) (λ ahead. absurd cc) says
received-target {shape = shape} w m r h inv there about (next turn may found) =
    let c : Cut = cut w (λ _. false) in
    let place : ℕ = got_from (node_at w.current m.to).local m.from in
    let flight : IsInFlight c m.from m.to place m.message =
    cut-in_flight w (λ _. false) m h refl there turn in
    let own : r.node ≡ m.to =
    subst (IfAny (λ (z : Ref). z.node ≡ m.to)) about
    (target-own shape.nodes c m.from m.to m.message.stamp m.message.body
    (inv.messages.fits m.from m.to place m.message flight)) in
    let safe : Safe c r =
    subst (IfAny (Safe c)) about
    (target-mentioned (Safe c) m.message.body
    (inv.closed.messages m.from m.to place m.message flight)) in
    (own, record { object = safe.object; there = safe.there })

pub targets-are-live : OfEveryRun TargetsAreLive
targets-are-live shape within steps from to number x target there about answered =
    let w : World = run (new_world shape) steps in
    let m : Delivery = record { from = from; to = to; number = number; message = x } in
    let h : KeepsSent w = run-keeps-sent (new_world shape) steps (new-keeps-sent shape) in
    let found = deliver-answer w m answer.Received there answered in
    received-target w m target h (all-inv shape within steps (λ _. false)) there about
    (receipt-cases (node_at w.current to) m found.0 answer.Received found.1)

-- ---- who sends to whom

-- only nodes of the space have sent anything, and only to other nodes
numbered-none : (sent : List Message) (number : ℕ) (x : Message) → sent ≡ []
    → numbered sent number ≡ Some x → ⊥
numbered-none [] number x none there =
    cond_both (ltb 0 number) None None (λ z. z ≡ Some x → ⊥) (λ _ e. absurd cc) (λ _ e. absurd cc)
    there
numbered-none (y ∷ ys) number x none there = absurd cc

released-between : {shape : Shaped} (w : World) (m : Delivery) → Base shape (cut w (λ _. true))
    → IsReleased w m → (m.from < shape.nodes) × (m.to < shape.nodes) × (m.from ≢ m.to)
released-between {shape = shape} w m base there =
    let n : ℕ = shape.nodes in
    let sent : List Message = sent_to (node_at w.saved m.from) m.to in
    let other = released-numbered (m.from == m.to) (numbered sent m.number) m.message there in
    let from_inside : m.from < n =
    inside-where m.from
    (λ z. numbered (sent_to z m.to) m.number ≡ Some m.message) base other.1
    (numbered-none [] m.number m.message refl) in
    let none : n ≤ m.to → sent ≡ [] =
    λ past.
    get_or_past (node_at w.saved m.from).sent m.to []
    (omega (arith, past, base.width m.from from_inside)) in
    let to_inside : m.to < n = ⊎_elim {C = m.to < n} (λ inside. inside)
    (λ past. absurd (numbered-none sent m.number m.message (none past) other.1)) (cases_lt m.to n)
    in
    (from_inside, to_inside, eqb-false m.from m.to other.0)

-- ---- a message in flight may be received, in its turn

-- a safe reference is within the shape
safe-within : {shape : Shaped} {c : Cut} → Inv shape c → (r : Ref) → Safe c r
    → is_within shape r ≡ true
safe-within {shape = shape} {c = c} inv r safe =
    let inside : r.node < shape.nodes =
    occupied-inside r.node r.slot r.generation safe.object inv.base safe.there in
    let used : r.slot < length (c r.node).local.heap.slots =
    occupied-within (c r.node).local.heap.slots r.slot r.generation safe.object safe.there in
    let room = (inv.tidy r.node).room in
    let slots : (c r.node).local.shape.slots ≡ shape.slots =
    ap (λ (z : Shaped). z.slots) (inv.base.shapes r.node inside) in
    and_from _ _ (lt-ltb r.node shape.nodes inside)
    (lt-ltb r.slot shape.slots (omega (arith, used, room, slots)))

all-within : (shape : Shaped) (rs : List Ref) → AllByRecursion (λ r. is_within shape r ≡ true) rs
    → are_within shape rs ≡ true
all-within shape [] all = refl
all-within shape (r ∷ rs) all = and_from _ _ all.0 (all-within shape rs all.1)

-- The first message in flight to a node fits it.
pub record Arrival (shape : Shaped) (c : Cut) (from to place : ℕ) (x : Message) : Type 0 where
  pub inv : Inv shape c
  pub placed : Placed shape c
  pub inside : to < shape.nodes
  pub flight : IsInFlight c from to place x

module _ {shape : Shaped} {c : Cut} {from to place : ℕ} {x : Message}
    (h : Arrival shape c from to place x) where
  abbrev here : LocalState
  here = (c to).local

  fits : BodyFits shape.nodes (phases_of c) from to x.stamp x.body
  fits = h.inv.messages.fits from to place x h.flight

  own : here.own ≡ to
  own = h.inv.base.own to h.inside

  behind : cycle_of c to < x.stamp → (x.stamp ≡ cycle_of c 0) × (cycle_of c to + 1 ≡ x.stamp)
      × (here.phases.swept + 1 ≡ x.stamp)
  behind ahead =
      let most : x.stamp ≤ cycle_of c 0 =
      stamp-most shape.nodes (phases_of c) from to x.stamp x.body fits in
      ⊎_elim
      {C = (x.stamp ≡ cycle_of c 0) × (cycle_of c to + 1 ≡ x.stamp)
      × (here.phases.swept + 1 ≡ x.stamp)}
      (λ there. absurd (omega (arith, there, ahead, most)))
      (λ b.
      (let p = b.1 in let q = b.2 in (
        omega (arith, p, ahead, most),
        omega (arith, p, ahead, most),
        omega (arith, p, q, ahead, most),
      )))
      (h.inv.phased.apart to h.inside)

  reaches : may_reach here x.stamp ≡ true
  reaches = ⊎_elim {C = may_reach here x.stamp ≡ true}
      (λ (ahead : cycle_of c to < x.stamp).
      let b = behind ahead in
      or_right (leb x.stamp here.phases.cycle) _
      (and_from _ _
      (not_from_false _ (ne_eqb here.own 0
      (λ e.
      (let zero_is : to ≡ 0 = sym own ∙ e in
      let same : cycle_of c to ≡ cycle_of c 0 = ap (cycle_of c) zero_is in
      omega (arith, same, ahead, b.0)))))
      (and_from _ _ (le-leb x.stamp (here.phases.cycle + 1) (omega (arith, b.1)))
      (le-leb here.phases.cycle here.phases.swept (omega (arith, b.1, b.2))))))
      (λ (there : x.stamp ≤ cycle_of c to). or_left _ _ (le-leb x.stamp here.phases.cycle there))
      (cases_lt (cycle_of c to) x.stamp)

  within : are_within here.shape (mentioned x.body) ≡ true
  within =
      subst (λ (z : Shaped). are_within z (mentioned x.body) ≡ true)
      (sym (h.inv.base.shapes to h.inside))
      (all-within shape (mentioned x.body)
      (all-map (Safe c) (λ r. is_within shape r ≡ true) (safe-within h.inv) (mentioned x.body)
      (h.inv.closed.messages from to place x h.flight)))

  follows : may_follow here from x.body ≡ true
  follows = by x.body fits (h.placed from to place x h.flight)
    where
      places : here.shape.places ≡ shape.places
      places = ap (λ (z : Shaped). z.places) (h.inv.base.shapes to h.inside)

      wide : here.shape.wide ≡ shape.wide
      wide = ap (λ (z : Shaped). z.wide) (h.inv.base.shapes to h.inside)

      by : (b : Body) → BodyFits shape.nodes (phases_of c) from to x.stamp b → IsPlaced shape b
          → may_follow here from b ≡ true
      by body.Begin f _ = eq-eqb from 0 f.0
      by (body.Token t) f _ =
          eq-eqb from (token_sender here)
          (f.0 ∙ ap (λ (z : ℕ). (z + 1) % shape.nodes) (sym own)
          ∙ ap (λ (z : ℕ). (here.own + 1) % z)
          (sym (ap (λ (z : Shaped). z.nodes) (h.inv.base.shapes to h.inside))))
      by (body.Mark r) f _ = eq-eqb r.node here.own (f.0 ∙ sym own)
      by (body.Give label reference) f _ = refl
      by (body.Put target slot reference) f fit =
          and_from _ _ (eq-eqb target.node here.own (f.0 ∙ sym own))
          (lt-ltb slot here.shape.places (omega (arith, fit, places)))
      by (body.Get target slot label) f fit =
          and_from _ _ (eq-eqb target.node here.own (f.0 ∙ sym own))
          (lt-ltb slot here.shape.places (omega (arith, fit, places)))
      by (body.Post label references bytes) f fit =
          and_from _ _ (wide ∙ fit.0)
          (and_from _ _ (le-leb _ _ (omega (arith, fit.1, places))) (le-leb _ _ fit.2))
      by (body.Fetch target label offset count) f fit =
          and_from _ _ (eq-eqb target.node here.own (f.0 ∙ sym own))
          (and_from _ _ (wide ∙ fit.0) (le-leb _ _ fit.1))
      by body.Ended f _ = eq-eqb from 0 f.0
      by body.Swept f _ = eq-eqb here.own 0 (own ∙ f.0)

  -- the node once it has joined the message's cycle
  abbrev settled_node : LocalState
  settled_node = (joined here x.stamp).local

  not-open-before : cycle_of c to < x.stamp → (here.phases.ended == x.stamp) ≡ false
  not-open-before ahead =
      ne_eqb here.phases.ended x.stamp
      (λ e. (let w = h.inv.phased.ended to in omega (arith, e, w, ahead)))

  none-held : (t : Token) (stamp : ℕ) → x ≡ record { stamp = stamp; body = body.Token t }
      → Marking (phases_of c 0) → here.ring.token ≡ None
  none-held t stamp is marking = by here.ring.token refl
    where
      by : (o : Option Token) → here.ring.token ≡ o → o ≡ None
      by None e = refl
      by (Some k) e =
          let round = h.inv.tokens.round marking in
          let flown : IsInFlight c from to place (record { stamp = stamp; body = body.Token t }) =
          subst (IsInFlight c from to place) is h.flight in
          absurd (way-not-node from to place to
          (round.only t (on_way from to place) (is_sent from to place stamp flown)
          ∙ sym (round.only k (at_node to) (is_held to e))))

  settled-token : (t : Token) → x.body ≡ body.Token t → Marking (phases_of c 0)
      → x.stamp ≡ cycle_of c 0
      → (is_marking settled_node x.stamp && is_none settled_node.ring.token) ≡ true
  settled-token t is marking now = ⊎_elim
      {C = (is_marking settled_node x.stamp && is_none settled_node.ring.token) ≡ true}
      (λ (ahead : cycle_of c to < x.stamp).
      let joins : joined here x.stamp ≡ join here x.stamp =
      cond-true (ltb (cycle_of c to) x.stamp) (join here x.stamp) (at_rest here)
      (lt-ltb _ _ ahead) in
      let phases : settled_node.phases ≡ record here.phases { cycle = x.stamp; cursor = 0 } =
      ap (λ (w : Work). w.local.phases) joins ∙ join-phases here x.stamp in
      let token : settled_node.ring.token ≡ None =
      ap (λ (w : Work). w.local.ring.token) joins ∙ join-token here x.stamp
      ∙ none-held t x.stamp whole marking in
      and_from _ _
      (and_from _ _
      (eq-eqb x.stamp settled_node.phases.cycle (sym (ap (λ (z : Phases). z.cycle) phases)))
      (ap (λ (z : Phases). not (z.ended == z.cycle)) phases
      ∙ not_from_false _ (not-open-before ahead)))
      (ap (λ (o : Option Token). is_none o) token))
      (λ (there : x.stamp ≤ cycle_of c to).
      let stays : joined here x.stamp ≡ at_rest here =
      cond-false (ltb (cycle_of c to) x.stamp) (join here x.stamp) (at_rest here)
      (le-ltb _ _ there) in
      let joined_now : Joined c to =
      (let w = latest h.inv to h.inside in omega (arith, now, there, w)) in
      subst (λ (w : Work). (is_marking w.local x.stamp && is_none w.local.ring.token) ≡ true)
      (sym stays)
      (and_from _ _
      (and_from _ _ (eq-eqb x.stamp here.phases.cycle (now ∙ sym joined_now))
      (marking-open h.inv marking joined_now))
      (ap (λ (o : Option Token). is_none o) (none-held t x.stamp whole marking))))
      (cases_lt (cycle_of c to) x.stamp)
    where
      whole : x ≡ record { stamp = x.stamp; body = body.Token t }
      whole = ap (λ (b : Body). record { stamp = x.stamp; body = b }) is

  -- when marking has ended, every node has joined
  rest-settled : Resting (phases_of c 0) → x.stamp ≡ cycle_of c 0
      → (joined here x.stamp ≡ at_rest here) × (x.stamp ≡ here.phases.cycle)
  rest-settled rest now =
      let joined_now : Joined c to = resting-joined h.inv rest h.inside in (
        cond-false (ltb (cycle_of c to) x.stamp) (join here x.stamp) (at_rest here)
            (le-ltb (cycle_of c to) x.stamp (omega (arith, now, joined_now))),
        now ∙ sym joined_now,
      )

  no-token-held : Resting (phases_of c 0) → here.ring.token ≡ None
  no-token-held rest = by here.ring.token refl
    where
      by : (o : Option Token) → here.ring.token ≡ o → o ≡ None
      by None e = refl
      by (Some k) e = absurd (h.inv.tokens.rest k (at_node to) rest (is_held to e))

  settles : may_settle settled_node x.stamp x.body ≡ true
  settles = by x.body refl fits
    where
      by : (b : Body) → x.body ≡ b → BodyFits shape.nodes (phases_of c) from to x.stamp b
          → may_settle settled_node x.stamp b ≡ true
      by body.Begin e f = refl
      by (body.Mark r) e f = refl
      by (body.Give label reference) e f = refl
      by (body.Put target slot reference) e f = refl
      by (body.Get target slot label) e f = refl
      by (body.Post label references bytes) e f = refl
      by (body.Fetch target label offset count) e f = refl
      by (body.Token t) e f = settled-token t e f.1 f.2
      by body.Ended e f =
          let both = rest-settled f.1 f.2 in
          subst (λ (w : Work).
          (is_marking w.local x.stamp && (is_calm w.local.heap && is_none w.local.ring.token))
          ≡ true)
          (sym both.0)
          (and_from _ _
          (and_from _ _ (eq-eqb x.stamp here.phases.cycle both.1)
          (not_from_false _ (ne_eqb here.phases.ended here.phases.cycle
          (λ same. (let w = f.3 in let v = f.2 in omega (arith, same, w, v, both.1))))))
          (and_from _ _ (ap (λ (z : List ℕ). length z == 0) (h.inv.rested.grey to f.1))
          (ap (λ (o : Option Token). is_none o) (no-token-held f.1))))
      by body.Swept e f =
          let rest : Resting (phases_of c 0) =
          (let a = f.3 in
          let b = h.inv.phased.swept from in
          let k = h.inv.phased.first from in
          let l = h.inv.phased.ended 0 in
          omega (arith, a, b, k, l)) in
          let both = rest-settled rest f.2 in
          subst (λ (w : Work). (x.stamp == w.local.phases.cycle) ≡ true) (sym both.0)
          (eq-eqb x.stamp here.phases.cycle both.1)

  pub taken-whole : may_take here from x.stamp x.body ≡ true
  taken-whole = and_from _ _ reaches (and_from _ _ within (and_from _ _ follows settles))

-- the tests of a receipt
turn-passes : (shape : Shaped) (w : World) (m : Delivery) → KeepsSent w
    → Whole shape (cut w (λ _. false))
    → (m.from < shape.nodes) × (m.to < shape.nodes) × (m.from ≢ m.to) → IsReleased w m
    → m.number ≤ got_from (node_at w.current m.to).local m.from + WINDOW
    → AllPass (tests_of (node_at w.current m.to) m)
turn-passes shape w m h whole between there turn =
    let c : Cut = cut w (λ _. false) in
    let p : LocalState = (node_at w.current m.to).local in
    let x : Message = m.message in
    let due : Bool = is_early p m.from m.number || may_take p m.from x.stamp x.body in
    let may : (is_repeat p m.from m.number || due) ≡ true =
    ⊎_elim {C = (is_repeat p m.from m.number || due) ≡ true}
    (λ again. or_left _ _ again)
    (λ first. or_right _ _
    (⊎_elim {C = due ≡ true}
    (λ ahead. or_left _ _ ahead)
    (λ next.
    let later : got_from p m.from < m.number = leb-false m.number (got_from p m.from) first in
    let last : m.number ≤ got_from p m.from + 1 = ltb-false _ m.number next in
    let arrival : Arrival shape c m.from m.to (taken c m.from m.to) x = record {
      inv = whole.inv;
      placed = whole.placed;
      inside = between.1;
      flight = cut-in_flight w (λ _. false) m h refl there (omega (arith, later, last));
    } in
    or_right _ _ (taken-whole arrival))
    (cases_Bool (is_early p m.from m.number))))
    (cases_Bool (is_repeat p m.from m.number)) in (
      between-nodes whole.inv.base m.from m.to between.0 between.1 between.2,
      (le-leb m.number _ turn, (may, tt)),
    )

-- a message is refused only if it is beyond the window, or if a number would be too great
pub none-refused-in-turn : OfEveryRun NoneRefusedInTurn
none-refused-in-turn shape within steps from to number stamp b e there refused =
    let w : World = run (new_world shape) steps in
    let m : Delivery = record
    { from = from; to = to; number = number; message = record { stamp = stamp; body = b } } in
    let s : NodeState = node_at w.current to in
    let h : KeepsSent w = run-keeps-sent (new_world shape) steps (new-keeps-sent shape) in
    let whole : Whole shape (cut w (λ _. false)) = all-whole shape within steps (λ _. false) in
    let between =
    released-between w m (all-inv shape within steps (λ _. true)).base there in
    ⊎_elim
    (λ turn.
    inl (receive-passed s m e (turn-passes shape w m h whole between there (leb-true number _ turn))
    refused))
    (λ early. inr (
      receive-early s m e
          (between-nodes whole.inv.base from to between.0 between.1 between.2)
          early
          refused,
      leb-false number _ early,
    ))
    (cases_Bool (leb number (got_from s.local from + WINDOW)))
