-- A move in a space: none of its steps is refused, and one node has then changed.
use Rattle.std.proofs.Common.{le_refl, get_or, ◌≡◌, ◌≢◌, ℕ, ◌+◌, ◌-◌, ◌<◌, ◌&&◌, Bool, true, false, ltb, lt-ltb, le-leb, ◌==◌, List, [], ◌∷◌, ◌++◌, length, map, set, Some, None, slice_get, Ok, refl, sym, ap, ◌∙◌, subst, arith, get_or-set_same, get_or-set_other, ltb-true}
use Rattle.std.proofs.lemmas.Bool.{and_from, or_right, cond-true, cond-false, ne_eqb, le-ltb, lt-leb}
use Rattle.std.proofs.lemmas.List.FromFn.{length-map-range_with_len}
use Rattle.ids.specs.Limits.{Shaped, IsShape}
use Rattle.ids.specs.declared.refusal.Refusal.{Refusal}
use Rattle.ids.specs.declared.refusal.Refusal.TheVariants.{LinkSpent}
use Rattle.ids.specs.declared.limits.TheConstants.{WINDOW}
use Rattle.msg.specs.declared.body.Message.{Message}
use Rattle.model.specs.declared.event.Event.{Event}
use Rattle.model.specs.declared.event.Answer.{Answer}
use Rattle.model.specs.declared.step.Step.{Step}
use Rattle.model.specs.Checks.{AllPass}
use Rattle.model.specs.State.{LocalState, NodeState, new_node, no_node, node_at, sent_to, got_from}
use Rattle.model.specs.Effects.{Effect}
use Rattle.model.specs.Steps.{is_own, tests, made, taken_in, fits, all_tests, receipt_tests, receipt, is_repeat, is_early, checked, after, act, receive, append_all}
use Rattle.model.specs.World.{World, new_world, take_step, run, is_node, released, numbered, moved, delivery, acknowledged}
use Rattle.model.specs.Cuts.{Cut, taken, IsInFlight, Becomes}
use Rattle.model.specs.References.{no_message}
use Rattle.std.proofs.lemmas.Option.{slice_get-get_or}
use Rattle.model.proofs.Checks.{guarded-pass, passed-both}
use Rattle.laws.proofs.KeepsSent.{run-count, new-keeps-sent}
use Rattle.laws.proofs.Cuts.{run-keeps-sent, shown}
use Rattle.laws.proofs.Deliveries.{Arrival, taken-whole}
use Rattle.laws.proofs.KeepsSent.{node-count}
use Rattle.laws.proofs.Net.{hands-go-through}
use Rattle.laws.proofs.Base.{between-nodes, own-heard, taken-heard}
use Rattle.laws.proofs.Flights.{flight-inside}
use Rattle.laws.proofs.Turns.{Turn}
use Rattle.model.proofs.Leaving.{own-stands, taken-stands}
use Rattle.laws.proofs.Live.{Whole, all-whole}
use Rattle.laws.specs.Strategy.{now, Move, Bring, Do, steps_of, next_move, next_steps, is_collectors, is_waiting}
use Rattle.laws.proofs.progress.Paths.{run-append, Goes, goes-one, goes-then}
use Rattle.laws.proofs.progress.Heard.{Heard}
use Rattle.laws.proofs.progress.Hearing.{all-heard, Took}
use Rattle.laws.proofs.Acting.{put, becomes-put}
use Rattle.model.specs.declared.step.Step.TheVariants as step
use Rattle.model.specs.declared.step.Outcome.TheVariants as outcome

-- ---- a node's answer

-- what passes all tests and gets its numbers is done
done : (s : NodeState) (ts : List (Bool × Refusal)) (x : Effect) → AllPass ts
    → fits (map length s.sent) x.sends ≡ true
    → after s (checked ts (map length s.sent) x)
    ≡ Ok (record { local = x.local; sent = append_all s.sent x.sends }, x.answer)
done s ts x passed fit =
    ap (after s)
    (guarded-pass (all_tests ts (map length s.sent) x) x
    (passed-both ts ((fits (map length s.sent) x.sends, LinkSpent) ∷ []) passed (fit, tt)))

pub acts-so : (s : NodeState) (e : Event) → AllPass (tests s.local e)
    → fits (map length s.sent) (made s.local (map length s.sent) e).sends ≡ true
    → act s e
    ≡ Ok (
      record {
        local = (made s.local (map length s.sent) e).local;
        sent = append_all s.sent (made s.local (map length s.sent) e).sends;
      },
      (made s.local (map length s.sent) e).answer,
    )
unfolding act
acts-so s e passed fit = done s (tests s.local e) (made s.local (map length s.sent) e) passed fit

-- the effect of a message that is received in its turn
abbrev pub taking : Cut → ℕ → ℕ → Message → Effect
taking c from to x = taken_in (c to).local from (taken c from to + 1) x.stamp x.body

receives-so : {shape : Shaped} {c : Cut} (from to : ℕ) (x : Message)
    → Arrival shape c from to (taken c from to) x → from ≢ to
    → fits (map length (c to).sent) (taking c from to x).sends ≡ true
    → receive (c to) from to (taken c from to + 1) x.stamp x.body
    ≡ Ok (
      record {
        local = (taking c from to x).local;
        sent = append_all (c to).sent (taking c from to x).sends;
      },
      (taking c from to x).answer,
    )
unfolding receive
receives-so {shape = shape} {c = c} from to x h apart fit =
    let s : NodeState = c to in
    let p : LocalState = s.local in
    let number : ℕ = taken c from to + 1 in
    let sender = (flight-inside from to (taken c from to) x h.inv.base h.flight).0 in
    let is : receipt p from number x.stamp x.body ≡ taking c from to x =
    cond-false (is_repeat p from number) _ _
    (lt-leb number (got_from p from) (omega arith))
    ∙ cond-false (is_early p from number) _ _
    (le-ltb (got_from p from + 1) number (omega arith)) in
    let passed : AllPass (receipt_tests p from to number x.stamp x.body) = (
      between-nodes h.inv.base from to sender h.inside apart,
      (
        le-leb number (got_from p from + WINDOW) (omega arith),
        (or_right _ _ (or_right _ _ (taken-whole h)), tt),
      ),
    ) in
    ap (λ (y : Effect).
    after s (checked (receipt_tests p from to number x.stamp x.body) (map length s.sent) y)) is
    ∙ done s (receipt_tests p from to number x.stamp x.body) (taking c from to x) passed fit

-- ---- spaces after any steps

pub record Reached (shape : Shaped) (w : World) : Type 0 where
  pub limits : IsShape shape
  pub steps : List Step
  pub is : run (new_world shape) steps ≡ w

pub reached-more : {shape : Shaped} {w : World} (ss : List Step) → Reached shape w
    → Reached shape (run w ss)
reached-more {shape = shape} ss r = record {
  limits = r.limits;
  steps = r.steps ++ ss;
  is = run-append (new_world shape) r.steps ss ∙ ap (λ (z : World). run z ss) r.is;
}

pub reached-whole : {shape : Shaped} {w : World} → Reached shape w → Whole shape (now w)
reached-whole {shape = shape} r =
    subst (λ (z : World). Whole shape (now z)) r.is
    (all-whole shape r.limits r.steps (λ _. false))

pub reached-heard : {shape : Shaped} {w : World} → Reached shape w → Heard shape.nodes (now w)
reached-heard {shape = shape} r =
    subst (λ (z : World). Heard shape.nodes (now z)) r.is
    (all-heard shape r.limits r.steps (λ _. false))

pub reached-count : {shape : Shaped} {w : World} → Reached shape w → length w.current ≡ shape.nodes
reached-count {shape = shape} r =
    subst (λ (z : World). length z.current ≡ shape.nodes) r.is
    (run-count (new_world shape) r.steps
    ∙ length-map-range_with_len (new_node shape) 0 shape.nodes)

pub reached-saved : {shape : Shaped} {w : World} → Reached shape w → length w.saved ≡ shape.nodes
reached-saved {shape = shape} {w = w} r =
    subst (λ (z : World). length z.saved ≡ length z.current) r.is
    (run-keeps-sent (new_world shape) r.steps (new-keeps-sent shape)).width
    ∙ reached-count r

-- ---- what a move leaves

-- Each step of the next move is answered. Node i is then as said and has sent these messages.
pub record Moved (shape : Shaped) (w : World) (i : ℕ) (q : LocalState) (ms : List (ℕ × Message))
    : Type 0 where
  pub goes : Goes w (next_steps shape.nodes w) (run w (next_steps shape.nodes w))
  pub reached : Reached shape (run w (next_steps shape.nodes w))
  pub turn : Turn (now w) (now (run w (next_steps shape.nodes w))) i q ms

moved-by : {shape : Shaped} {w v : World} {m : Move} {i : ℕ} {q : LocalState}
    {ms : List (ℕ × Message)} → Reached shape w → next_move shape.nodes (now w) ≡ m
    → Goes w (steps_of (now w) m) v → Turn (now w) (now v) i q ms → Moved shape w i q ms
moved-by {shape} {w} {v} {m} {i} {q} {ms} r is goes turn =
    let there : Goes w (next_steps shape.nodes w) v =
    subst (λ (z : Move). Goes w (steps_of (now w) z) v) (sym is) goes in
    record {
      goes = record { to = refl; collectors = there.collectors; answered = there.answered };
      reached = reached-more (next_steps shape.nodes w) r;
      turn = subst (λ (z : World). Turn (now w) (now z) i q ms) (sym there.to) turn;
    }

-- ---- a node's own event

pub act-step : (w : World) (i : ℕ) (e : Event) (t : NodeState) (a : Answer) → i < length w.current
    → is_own e ≡ true → act (node_at w.current i) e ≡ Ok (t, a)
    → take_step w (step.Act i e)
    ≡ Ok (record w { current = set w.current i t }, outcome.Answer a)
unfolding take_step
act-step w i e t a inside own answered =
    cond-true (is_node w i) _ _ (lt-ltb i (length w.current) inside)
    ∙ cond-true (is_own e) _ _ own
    ∙ ap (moved w i) answered

pub record Doing (shape : Shaped) (w : World) (i : ℕ) (e : Event) : Type 0 where
  pub reached : Reached shape w
  pub chosen : next_move shape.nodes (now w) ≡ Do i e
  pub inside : i < shape.nodes
  pub own : is_own e ≡ true
  pub collectors : is_collectors (step.Act i e) ≡ true
  pub passed : AllPass (tests (now w i).local e)
  pub numbered : fits (map length (now w i).sent)
      (made (now w i).local (map length (now w i).sent) e).sends ≡ true

pub do-moved : {shape : Shaped} (w : World) (i : ℕ) (e : Event) → Doing shape w i e
    → Moved shape w i (made (now w i).local (map length (now w i).sent) e).local
    (made (now w i).local (map length (now w i).sent) e).sends
do-moved {shape = shape} w i e h =
    let s : NodeState = now w i in
    let x : Effect = made s.local (map length s.sent) e in
    let t : NodeState = record { local = x.local; sent = append_all s.sent x.sends } in
    let v : World = record w { current = set w.current i t } in
    let inside : i < length w.current = omega (arith, reached-count h.reached, h.inside) in
    moved-by h.reached h.chosen
    (goes-one w v (step.Act i e) (outcome.Answer x.answer)
    (act-step w i e t x.answer inside h.own (acts-so s e h.passed h.numbered)) h.collectors)
    (record {
      becomes = shown w i t (λ _. false) inside refl;
      heard = own-heard (own-stands s.local (map length s.sent) e h.own);
    })

-- ---- a message

pub save-step : (w : World) (i : ℕ) → i < length w.current
    → take_step w (step.Save i)
    ≡ Ok (record w { saved = set w.saved i (node_at w.current i) }, outcome.Done)
unfolding take_step
save-step w i inside = cond-true (is_node w i) _ _ (lt-ltb i (length w.current) inside)

pub deliver-step : {x : Message} {t : NodeState} {a : Answer} (w : World) (from to number : ℕ)
    → from < length w.current → to < length w.current → released w from to number ≡ Some x
    → receive (node_at w.current to) from to number x.stamp x.body ≡ Ok (t, a)
    → take_step w (step.Deliver from to number)
    ≡ Ok (record w { current = set w.current to t }, outcome.Answer a)
unfolding take_step
deliver-step w from to number f g there answered =
    cond-true (is_node w from && is_node w to) _ _
    (and_from _ _ (lt-ltb from _ f) (lt-ltb to _ g))
    ∙ ap (delivery w from to number) there
    ∙ ap (moved w to) answered

numbered-next : (xs : List Message) (k : ℕ) (x : Message) → slice_get xs k ≡ Some x
    → numbered xs (k + 1) ≡ Some x
numbered-next xs k x there =
    cond-true (ltb 0 (k + 1)) (slice_get xs (k + 1 - 1)) None (lt-ltb 0 (k + 1) (omega arith))
    ∙ ap (slice_get xs) (let e : k + 1 - 1 ≡ k = omega arith in e) ∙ there

-- the link of the next move
pub record Link (shape : Shaped) (w : World) (from to : ℕ) : Type 0 where
  pub reached : Reached shape w
  pub chosen : next_move shape.nodes (now w) ≡ Bring from to
  pub sender : from < shape.nodes
  pub inside : to < shape.nodes
  pub waiting : is_waiting (now w) from to ≡ true

module _ {shape : Shaped} {w : World} {from to : ℕ} (h : Link shape w from to) where
  -- its first message, and what that does
  abbrev pub message_of : Message
  message_of = get_or (sent_to (now w from) to) (taken (now w) from to) no_message

  abbrev pub effect_there : Effect
  effect_there = taking (now w) from to message_of

  pub first-of : IsInFlight (now w) from to (taken (now w) from to) message_of
  first-of = record {
    later = le_refl _;
    there = slice_get-get_or (sent_to (now w from) to) (taken (now w) from to) no_message
        (ltb-true _ _ h.waiting);
  }

  link-apart : from ≢ to
  link-apart e =
      let none : length (sent_to (now w from) to) ≡ 0 =
      ap (λ (k : ℕ). length (sent_to (now w k) to)) e
      ∙ ap length ((reached-heard h.reached).alone to) in
      omega (arith, none, ltb-true _ _ h.waiting)

  -- the receiver afterwards
  abbrev then_there : NodeState
  then_there = record {
    local = effect_there.local;
    sent = append_all (now w to).sent effect_there.sends;
  }

  took : {d : Cut} → Becomes (now w) d to then_there → Took shape (now w) d from to message_of
  took becomes = record {
    inv = (reached-whole h.reached).inv;
    inside = h.inside;
    apart = link-apart;
    flight = first-of;
    turn = record {
      becomes = becomes;
      heard = taken-heard (now w to).local from (taken (now w) from to + 1)
          (taken-stands (now w to).local from (taken (now w) from to + 1) message_of.stamp
          message_of.body) (omega arith);
    };
  }

  -- in a cut of its own, what would be sent can be counted before the move
  pub would-take : Took shape (now w) (put (now w) to then_there) from to message_of
  would-take = took (becomes-put (now w) to then_there)

  pub link-took : Moved shape w to effect_there.local effect_there.sends
      → Took shape (now w) (now (run w (next_steps shape.nodes w))) from to message_of
  link-took m = took m.turn.becomes

  -- ---- the move

  abbrev w1 : World
  w1 = record w { saved = set w.saved from (now w from) }

  abbrev w2 : World
  w2 = record w1 { saved = set w1.saved to (now w to) }

  abbrev w3 : World
  w3 = record w2 { current = set w.current to then_there }

  abbrev number : ℕ
  number = taken (now w) from to + 1

  inside : (i : ℕ) → i < shape.nodes → i < length w.current
  inside i below = (omega (arith, reached-count h.reached, below))

  saves : Goes w (step.Save from ∷ step.Save to ∷ []) w2
  saves =
      goes-then (step.Save from ∷ []) (step.Save to ∷ [])
      (goes-one w w1 (step.Save from) outcome.Done (save-step w from (inside from h.sender)) refl)
      (goes-one w1 w2 (step.Save to) outcome.Done (save-step w1 to (inside to h.inside)) refl)

  handed : take_step w2 (step.Hand from to) ≡ Ok (w2, outcome.Handed (acknowledged w2 from to))
  handed =
      let r = reached-more (step.Save from ∷ step.Save to ∷ []) h.reached in
      let count = node-count shape r.steps in
      subst (λ (z : World). take_step z (step.Hand from to)
      ≡ Ok (z, outcome.Handed (acknowledged z from to)))
      (r.is ∙ saves.to)
      (hands-go-through shape r.limits r.steps from to (omega (arith, count, h.sender))
      (omega (arith, count, h.inside)) link-apart)

  there : released w2 from to number ≡ Some message_of
  there =
      let saved : from < length w.saved = omega (arith, reached-saved h.reached, h.sender) in
      let kept : node_at w2.saved from ≡ now w from =
      get_or-set_other w1.saved to from (now w to) no_node link-apart
      ∙ get_or-set_same w.saved from (now w from) no_node saved in
      cond-false (from == to) None (numbered (sent_to (node_at w2.saved from) to) number)
      (ne_eqb from to link-apart)
      ∙ ap (λ (z : NodeState). numbered (sent_to z to) number) kept
      ∙ numbered-next (sent_to (now w from) to) (taken (now w) from to) message_of first-of.there

  pub link-brought : fits (map length (now w to).sent) effect_there.sends ≡ true
      → Moved shape w to effect_there.local effect_there.sends
  link-brought fit =
      let arrival : Arrival shape (now w) from to (taken (now w) from to) message_of =
      record {
        inv = (reached-whole h.reached).inv;
        placed = (reached-whole h.reached).placed;
        inside = h.inside;
        flight = first-of;
      } in
      let delivered : take_step w2 (step.Deliver from to number)
      ≡ Ok (w3, outcome.Answer effect_there.answer) =
      deliver-step w2 from to number (inside from h.sender) (inside to h.inside) there
      (receives-so from to message_of arrival link-apart fit) in
      moved-by h.reached h.chosen
      (goes-then (step.Save from ∷ step.Save to ∷ [])
      (step.Hand from to ∷ step.Deliver from to number ∷ []) saves
      (goes-then (step.Hand from to ∷ []) (step.Deliver from to number ∷ [])
      (goes-one w2 w2 (step.Hand from to) (outcome.Handed (acknowledged w2 from to)) handed refl)
      (goes-one w2 w3 (step.Deliver from to number) (outcome.Answer effect_there.answer) delivered
      refl)))
      (took (shown w2 to then_there (λ _. false) (inside to h.inside) refl)).turn
