-- The collector can't be seen. What programs are told and receive in a run, as far as a cut keeps
-- it, is a run of a space without a collector.
use Rattle.std.proofs.Common.{◌≡◌, ℕ, ◌+◌, ◌≤◌, Bool, true, false, cond, ◌==◌, ◌&&◌, List, [], ◌∷◌, ◌++◌, length, map, take, drop, set, Option, None, Some, Result, Ok, Err, refl, sym, ap, ◌∙◌, subst, ⊎_elim, arith, ltb-true, leb}
use Rattle.std.specs.Prelude.{not, is_some}
use Rattle.std.proofs.lemmas.Bool.{cases_Bool, cases_lt, cond_both, cond-true, cond-false, and_parts, and_from, eqb-false, le-ltb, ltb-false, not_from_false, not-true}
use Rattle.std.proofs.lemmas.List.{get_or_past, set-get_or, drop_all}
use Rattle.std.proofs.lemmas.List.FromFn.{length-map-range_with_len}
use Rattle.ids.specs.Limits.{Shaped, IsShape}
use Rattle.ids.specs.declared.refusal.Refusal.{Refusal}
use Rattle.ids.specs.declared.refusal.Refusal.TheVariants.{NoNode, NoRegister, EmptyRegister, Remote, NoField, NoBytes, WrongNode, AckBeyond}
use Rattle.msg.specs.declared.body.Message.{Message}
use Rattle.model.specs.declared.event.Event.{Event}
use Rattle.model.specs.declared.event.Event.TheVariants as event
use Rattle.model.specs.declared.event.Answer.{Answer}
use Rattle.model.specs.declared.event.Answer.TheVariants as answer
use Rattle.model.specs.declared.step.Step.{Step}
use Rattle.model.specs.declared.step.Step.TheVariants as step
use Rattle.model.specs.declared.step.Outcome.{Outcome}
use Rattle.model.specs.declared.step.Outcome.TheVariants as outcome
use Rattle.model.specs.Checks.{guarded}
use Rattle.model.specs.State.{Object, Occupied, Heap, LocalState, NodeState, new_node, no_node, node_at, slot_at, sent_to}
use Rattle.model.specs.Heaps.{is_register, is_filled, is_local, object_at, named, bytes_of, has_range, heap_bytes}
use Rattle.model.specs.Counting.{is_reference}
use Rattle.model.specs.Steps.{made, act, receive, is_own, is_addressed, taken_in}
use Rattle.model.specs.World.{World, KeepsSent, new_world, released, acknowledged, release_count, moved, delivery, is_node, take_step, world_after, happens, run, outcome_of, is_eventful, is_event}
use Rattle.model.specs.Cuts.{Cut, cut, taken, Becomes}
use Rattle.model.proofs.Lookups.{get_or-replicate_any}
use Rattle.model.proofs.Walk.{work_in}
use Rattle.laws.specs.Objects.{Thing, Space, new_space, is_program, object_in, bytes_in, MayBeTold, bytes_told, Sight, told, came, IsRun, after_sight, after}
use Rattle.laws.specs.Sights.{came_of, observed_in_step, choosing, choice_before, choice_at_start, observed_in_cut, programs, CollectorIsUnseen}
use Rattle.laws.proofs.StepFacts.{Delivery, tests_of, IsTurnOf, IsReleased, Stepped, act-ok, Receipt, repeated, next, receipt-cases}
use Rattle.laws.proofs.NoEvent.{only-events-change}
use Rattle.laws.proofs.KeepsSent.{keeps-sent, new-keeps-sent, run-count}
use Rattle.laws.proofs.Cuts.{current-chosen, turn-number, after_change, hidden, shown, cut-choosing, cut-saved, cut-restarted, cut-in_flight, released-numbered}
use Rattle.laws.proofs.Base.{new-at, at-new}
use Rattle.laws.proofs.Moves.{worked}
use Rattle.laws.proofs.Invariant.{Inv}
use Rattle.laws.proofs.Live.{all-inv, reached-safe}
use Rattle.laws.proofs.Telling.{told-ok, told-err, bytes-alike}
use Rattle.laws.proofs.Doings.{Here}
use Rattle.laws.proofs.Seeing.{Same, same-becomes, At, ready, doing, program-same, cycle-same, Taking, came-is, came-same, quiet-same}

-- ---- a new space

new-same : (shape : Shaped) (choice : ℕ → Bool)
    → Same (new_space shape) (cut (new_world shape) choice)
new-same shape choice = record {
  here = λ i. record {
    desk =
        ap (λ (z : NodeState). z.local.heap) (sym (new-at shape choice i))
        ∙ at-new shape choice i
        (λ z. z.local.heap ≡ record z.local.heap { slots = []; free = []; grey = [] })
        (λ z own. refl);
    lives = λ k g o there.
        absurd (at-new shape choice i (λ z. slot_at z.local.heap k ≡ Occupied g o → ⊥)
        (λ z own never. absurd cc) there);
  };
  past = λ i k g made. absurd (let never = made.1 in cc);
  messages = λ from to.
      let none : sent_to (cut (new_world shape) choice from) to ≡ [] =
      at-new shape choice from (λ z. sent_to z to ≡ [])
      (λ z own. get_or-replicate_any {A = List Message} z.nodes to []) in
      let heard : ℕ = taken (cut (new_world shape) choice) from to in
      sym (ap (λ (z : List Message). programs (drop heard z)) none
      ∙ ap programs (drop_all heard [] (omega arith)));
}

-- ---- sights, one list after another

run-append : (shape : Shaped) (s : Space) (xs ys : List Sight) → IsRun shape s xs
    → IsRun shape (after s xs) ys → IsRun shape s (xs ++ ys)
run-append shape s [] ys a b = b
run-append shape s (x ∷ xs) ys a b = (a.0, run-append shape (after_sight s x) xs ys a.1 b)

after-append : (s : Space) (xs ys : List Sight) → after s (xs ++ ys) ≡ after (after s xs) ys
after-append s [] ys = refl
after-append s (x ∷ xs) ys = after-append (after_sight s x) xs ys

-- these sights are allowed, and the space afterwards matches the cut
pub record Seen (shape : Shaped) (s : Space) (xs : List Sight) (d : Cut) : Type 0 where
  pub runs : IsRun shape s xs
  pub same : Same (after s xs) d

seen-nothing : {shape : Shaped} {s : Space} {d : Cut} → Same s d → Seen shape s [] d
seen-nothing same = record { runs = tt; same = same }

-- a test says that it isn't seen
seen-unless : {shape : Shaped} {s : Space} {d : Cut} (b : Bool) (xs : List Sight) → b ≡ false
    → Same s d → Seen shape s (cond b xs []) d
seen-unless {shape = shape} {s = s} {d = d} b xs none same =
    subst (λ (z : List Sight). Seen shape s z d) (sym (cond-false b xs [] none))
    (seen-nothing same)

seen-where : {shape : Shaped} {s : Space} {d : Cut} (b : Bool) (x : Sight) → b ≡ true
    → Seen shape s (x ∷ []) d → Seen shape s (cond b (x ∷ []) []) d
seen-where {shape = shape} {s = s} {d = d} b x is h =
    subst (λ (z : List Sight). Seen shape s z d) (sym (cond-true b (x ∷ []) [] is)) h

-- ---- a world of a run

pub record Standing (shape : Shaped) (w : World) : Type 0 where
  pub invs : (more : List Step) (choice : ℕ → Bool) → Inv shape (cut (run w more) choice)
  pub keeps : KeepsSent w
  pub width : length w.current ≡ shape.nodes

standing-next : {shape : Shaped} {w : World} (s : Step) → Standing shape w
    → Standing shape (happens w s)
standing-next {w = w} s h = record {
  invs = λ more. h.invs (s ∷ more);
  keeps = keeps-sent w s h.keeps;
  width = run-count w (s ∷ []) ∙ h.width;
}

-- ---- a node's own event

own-program : (e : Event) → is_own e ≡ false → is_program e ≡ false
own-program (event.Data m) other = refl
own-program (event.Ack m) other = refl
own-program e other = absurd cc

-- only an event of a program is seen, and only if its node's current state is chosen
abbrev shows_act : World → (ℕ → Bool) → ℕ → Event → Bool
shows_act w choice i e = is_node w i && (is_program e && not (choice i))

-- the node is one of the space, and the event is its own
record Acting (shape : Shaped) (s : Space) (w : World) (choice : ℕ → Bool) (i : ℕ) (e : Event)
    : Type 0 where
  standing : Standing shape w
  same : Same s (cut w choice)
  within : is_node w i ≡ true
  own : is_own e ≡ true

at-node : {shape : Shaped} {s : Space} (w : World) (choice : ℕ → Bool) (i : ℕ)
    → Standing shape w → Same s (cut w choice) → is_node w i ≡ true
    → At shape s (cut w choice) i
at-node w choice i h same within = record {
  inv = h.invs [] choice;
  inside = (let k = ltb-true i (length w.current) within in
      let e = h.width in omega (arith, k, e));
  same = same;
}

-- what is told at a node of the cut
told-at : {shape : Shaped} {s : Space} {c : Cut} {i : ℕ} (e : Event)
    (r : Result Answer Refusal) → At shape s c i
    → MayBeTold s (c i).local.own (c i).local.shape e r → MayBeTold s i shape e r
told-at {shape = shape} {s = s} {c = c} {i = i} e r at h =
    subst (λ (z : ℕ). MayBeTold s z shape e r) (at.inv.base.own i at.inside)
    (subst (λ (z : Shaped). MayBeTold s (c i).local.own z e r)
    (at.inv.base.shapes i at.inside) h)

answer-seen : {shape : Shaped} {s : Space} {w : World} {choice : ℕ → Bool} {i : ℕ} {e : Event}
    (t : NodeState) (a : Answer) → Acting shape s w choice i e
    → act (node_at w.current i) e ≡ Ok (t, a)
    → Seen shape s (cond (shows_act w choice i e) (told i e (Ok a) ∷ []) [])
    (after_change w i t choice)
answer-seen {shape = shape} {s = s} {w = w} {choice = choice} {i = i} {e = e} t a x answered =
    ⊎_elim {C = Goal}
    (λ (chosen : choice i ≡ true).
    seen-unless (shows_act w choice i e) (told i e (Ok a) ∷ [])
    (ap (λ (z : Bool). is_node w i && (is_program e && not z)) chosen
    ∙ unseen (is_node w i) (is_program e))
    (same-becomes (hidden w i t choice chosen) x.same))
    (λ (chosen : choice i ≡ false).
    let at : At shape s (cut w choice) i = at-node w choice i x.standing x.same x.within in
    let becomes : Becomes (cut w choice) (after_change w i t choice) i t =
    shown w i t choice (ltb-true i (length w.current) x.within) chosen in
    let p : LocalState = (cut w choice i).local in
    let counts : List ℕ = map length (cut w choice i).sent in
    let found = act-ok (cut w choice i) e t a
    (subst (λ (z : NodeState). act z e ≡ Ok (t, a)) (sym (current-chosen w choice i chosen))
    answered) in
    ⊎_elim {C = Goal}
    (λ (is : is_program e ≡ true).
    seen-where (shows_act w choice i e) (told i e (Ok a))
    (and_from (is_node w i) _ x.within
    (and_from (is_program e) _ is (not_from_false _ chosen)))
    (record {
      runs = (
        (
          at.inside,
          is,
          subst (λ (z : Answer). MayBeTold s i shape e (Ok z)) (sym found.answer)
              (told-at e (Ok (made p counts e).answer) at
              (told-ok p counts e is (ready at) (doing at found.passed))),
        ),
        tt,
      );
      same = program-same e t a is x.own at found becomes;
    }))
    (λ (none : is_program e ≡ false).
    seen-unless (shows_act w choice i e) (told i e (Ok a) ∷ [])
    (ap (λ (z : Bool). is_node w i && (z && not (choice i))) none ∙ never (is_node w i))
    (cycle-same e t a none x.own at found becomes))
    (cases_Bool (is_program e)))
    (cases_Bool (choice i))
  where
    Goal : Type 0
    Goal = Seen shape s (cond (shows_act w choice i e) (told i e (Ok a) ∷ []) [])
        (after_change w i t choice)

    never : (b : Bool) → (b && false) ≡ false
    never true = refl
    never false = refl

    unseen : (b p : Bool) → (b && (p && false)) ≡ false
    unseen true true = refl
    unseen true false = refl
    unseen false p = refl

refusal-seen : {shape : Shaped} {s : Space} {w : World} {choice : ℕ → Bool} {i : ℕ} {e : Event}
    (r : Refusal) → Acting shape s w choice i e → act (node_at w.current i) e ≡ Err r
    → Seen shape s (cond (shows_act w choice i e) (told i e (Err r) ∷ []) []) (cut w choice)
refusal-seen {shape = shape} {s = s} {w = w} {choice = choice} {i = i} {e = e} r x refused =
    ⊎_elim {C = Seen shape s (cond (shows_act w choice i e) (told i e (Err r) ∷ []) [])
    (cut w choice)}
    (λ (shows : shows_act w choice i e ≡ true).
    let parts = and_parts (is_program e) (not (choice i)) (and_parts (is_node w i) _ shows).1 in
    let at : At shape s (cut w choice) i = at-node w choice i x.standing x.same x.within in
    seen-where (shows_act w choice i e) (told i e (Err r)) shows
    (record {
      runs = (
        (
          at.inside,
          parts.0,
          told-at e (Err r) at
              (told-err (cut w choice i) e r parts.0 (ready at)
              (subst (λ (z : NodeState). act z e ≡ Err r)
              (sym (current-chosen w choice i (not-true (choice i) parts.1))) refused)),
        ),
        tt,
      );
      same = x.same;
    }))
    (λ (hides : shows_act w choice i e ≡ false).
    seen-unless (shows_act w choice i e) (told i e (Err r) ∷ []) hides x.same)
    (cases_Bool (shows_act w choice i e))

abbrev StepSeen : Shaped → Space → World → (ℕ → Bool) → Step → Result (World × Outcome) Refusal
    → Type 0
StepSeen shape s w choice st r =
    Seen shape s (observed_in_step w choice st (outcome_of r)) (cut (world_after w r) choice)

act-seen : {shape : Shaped} {s : Space} (w : World) (choice : ℕ → Bool) (i : ℕ) (e : Event)
    → Standing shape w → Same s (cut w choice)
    → StepSeen shape s w choice (step.Act i e) (take_step w (step.Act i e))
unfolding take_step
act-seen {shape = shape} {s = s} w choice i e h same =
    cond_both (is_node w i) _ _ (StepSeen shape s w choice (step.Act i e))
    (λ within. cond_both (is_own e) _ _ (StepSeen shape s w choice (step.Act i e))
    (λ own. by (record { standing = h; same = same; within = within; own = own })
    (act (node_at w.current i) e) refl)
    (λ other.
    seen-unless (shows_act w choice i e) (told i e (Err WrongNode) ∷ [])
    (ap (λ (z : Bool). is_node w i && (z && not (choice i))) (own-program e other)
    ∙ ap (λ (z : Bool). z && false) within) same))
    (λ none.
    seen-unless (shows_act w choice i e) (told i e (Err NoNode) ∷ [])
    (ap (λ (z : Bool). z && (is_program e && not (choice i))) none) same)
  where
    by : Acting shape s w choice i e → (r : Result (NodeState × Answer) Refusal)
        → act (node_at w.current i) e ≡ r
        → StepSeen shape s w choice (step.Act i e) (moved w i r)
    by x (Ok (t, a)) answered = answer-seen t a x answered
    by x (Err r) refused = refusal-seen r x refused

-- ---- a delivery

-- a message was received, and its receiver's current state is chosen
record Coming (shape : Shaped) (s : Space) (w : World) (choice : ℕ → Bool) (m : Delivery)
    (t : NodeState) (a : Answer) : Type 0 where
  standing : Standing shape w
  same : Same s (cut w choice)
  sender : is_node w m.from ≡ true
  receiver : is_node w m.to ≡ true
  there : IsReleased w m
  turn : IsTurnOf (node_at w.current m.to) m
  found : Stepped (node_at w.current m.to) (tests_of (node_at w.current m.to) m)
      (taken_in (node_at w.current m.to).local m.from m.number m.message.stamp m.message.body) t a

coming-taking : {shape : Shaped} {s : Space} {w : World} {choice : ℕ → Bool} {m : Delivery}
    {t : NodeState} {a : Answer} → choice m.to ≡ false → Coming shape s w choice m t a
    → Taking shape s (cut w choice) (after_change w m.to t choice) m.from m.to m.message
coming-taking {shape = shape} {w = w} {choice = choice} {m = m} {t = t} {a = a} chosen x =
    let c : Cut = cut w choice in
    let here : node_at w.current m.to ≡ c m.to = sym (current-chosen w choice m.to chosen) in
    let state : t ≡ worked (c m.to)
    (work_in
    (taken_in (c m.to).local m.from (taken c m.from m.to + 1) m.message.stamp m.message.body)) =
    subst (λ (k : ℕ). t ≡ worked (c m.to)
    (work_in (taken_in (c m.to).local m.from k m.message.stamp m.message.body)))
    (turn-number w choice m chosen x.turn)
    (subst (λ (z : NodeState). t ≡ worked z
    (work_in (taken_in z.local m.from m.number m.message.stamp m.message.body))) here
    x.found.state) in
    record {
      at = at-node w choice m.to x.standing x.same x.receiver;
      sender = (let k = ltb-true m.from (length w.current) x.sender in
          let e = x.standing.width in omega (arith, k, e));
      apart =
          eqb-false m.from m.to
          (released-numbered (m.from == m.to) _ m.message x.there).0;
      flight = cut-in_flight w choice m x.standing.keeps chosen x.there x.turn;
      becomes = subst (λ (z : NodeState). Becomes c (after_change w m.to t choice) m.to z) state
          (shown w m.to t choice (ltb-true m.to (length w.current) x.receiver) chosen);
    }

coming-seen : {shape : Shaped} {s : Space} {w : World} {choice : ℕ → Bool} {m : Delivery}
    {t : NodeState} {a : Answer} → choice m.to ≡ false → Coming shape s w choice m t a
    → Seen shape s (cond (is_reference m.message.body) (came m.from m.to ∷ []) [])
    (after_change w m.to t choice)
coming-seen {shape = shape} {s = s} {w = w} {choice = choice} {m = m} {t = t} chosen x =
    let taking = coming-taking chosen x in
    let d : Cut = after_change w m.to t choice in
    ⊎_elim
    {C = Seen shape s (cond (is_reference m.message.body) (came m.from m.to ∷ []) []) d}
    (λ (is : is_reference m.message.body ≡ true).
    seen-where (is_reference m.message.body) (came m.from m.to) is
    (record {
      runs = (
        (
          taking.sender,
          taking.at.inside,
          λ (none : s.under_way m.from m.to ≡ []).
              absurd (let never = sym (came-is taking is) ∙ none in cc),
        ),
        tt,
      );
      same = came-same taking is;
    }))
    (λ (none : is_reference m.message.body ≡ false).
    seen-unless (is_reference m.message.body) (came m.from m.to ∷ []) none
    (quiet-same taking none))
    (cases_Bool (is_reference m.message.body))

-- if the receiver's saved state is chosen, nothing is seen
seen-shown : {shape : Shaped} {s : Space} {d : Cut} (b : Bool) (xs : List Sight)
    → (b ≡ true → Same s d) → (b ≡ false → Seen shape s xs d) → Seen shape s (cond b [] xs) d
seen-shown {shape = shape} {s = s} {d = d} b xs saved current =
    cond_both b [] xs (λ z. Seen shape s z d) (λ e. seen-nothing (saved e)) current

deliver-seen : {shape : Shaped} {s : Space} (w : World) (choice : ℕ → Bool) (from to number : ℕ)
    → Standing shape w → Same s (cut w choice)
    → StepSeen shape s w choice (step.Deliver from to number)
    (take_step w (step.Deliver from to number))
unfolding take_step taken_in
deliver-seen {shape = shape} {s = s} w choice from to number h same =
    cond_both (is_node w from && is_node w to) _ _
    (StepSeen shape s w choice (step.Deliver from to number))
    (λ both. by both (released w from to number) refl)
    (λ _. seen-shown (choice to) [] (λ _. same) (λ _. seen-nothing same))
  where
    was : Option Message
    was = released w from to number

    given : (is_node w from && is_node w to) ≡ true → (x : Message) → was ≡ Some x
        → (t : NodeState) (a : Answer)
        → (let m : Delivery = record { from = from; to = to; number = number; message = x } in
        Receipt (node_at w.current to) m t a)
        → Seen shape s (cond (choice to) [] (came_of from to (Ok (outcome.Answer a)) was))
        (after_change w to t choice)
    given both x there t a (repeated stays says) =
        let states : set w.current to t ≡ w.current =
        ap (λ (z : NodeState). set w.current to z) stays ∙ set-get_or w.current to no_node in
        let later : Same s (after_change w to t choice) =
        subst (λ (z : List NodeState). Same s (cut (record w { current = z }) choice))
        (sym states) same in
        seen-shown (choice to) (came_of from to (Ok (outcome.Answer a)) was) (λ _. later)
        (λ _.
        ⊎_elim
        (λ again.
        subst (λ (z : Answer). Seen shape s (came_of from to (Ok (outcome.Answer z)) was)
        (after_change w to t choice)) (sym again) (seen-nothing later))
        (λ ahead.
        subst (λ (z : Answer). Seen shape s (came_of from to (Ok (outcome.Answer z)) was)
        (after_change w to t choice)) (sym ahead) (seen-nothing later))
        says)
    given both x there t a (next turn may found) =
        let m : Delivery = record { from = from; to = to; number = number; message = x } in
        seen-shown (choice to) (came_of from to (Ok (outcome.Answer a)) was)
        (λ chosen. same-becomes (hidden w to t choice chosen) same)
        (λ chosen.
        subst (λ (z : Answer). Seen shape s (came_of from to (Ok (outcome.Answer z)) was)
        (after_change w to t choice)) (sym found.answer)
        (subst (λ (z : Option Message). Seen shape s
        (came_of from to (Ok (outcome.Answer answer.Received)) z)
        (after_change w to t choice)) (sym there)
        (coming-seen {m = m} {a = a} chosen (record {
          standing = h;
          same = same;
          sender = (and_parts (is_node w from) (is_node w to) both).0;
          receiver = (and_parts (is_node w from) (is_node w to) both).1;
          there = there;
          turn = turn;
          found = found;
        }))))

    answered : (is_node w from && is_node w to) ≡ true → (x : Message) → was ≡ Some x
        → (r : Result (NodeState × Answer) Refusal)
        → receive (node_at w.current to) from to number x.stamp x.body ≡ r
        → StepSeen shape s w choice (step.Deliver from to number) (moved w to r)
    answered both x there (Ok (t, a)) is =
        given both x there t a
        (receipt-cases (node_at w.current to)
        (record { from = from; to = to; number = number; message = x }) t a is)
    answered both x there (Err r) is =
        seen-shown (choice to) [] (λ _. same) (λ _. seen-nothing same)

    by : (is_node w from && is_node w to) ≡ true → (found : Option Message) → was ≡ found
        → StepSeen shape s w choice (step.Deliver from to number) (delivery w from to number found)
    by both None there = seen-shown (choice to) [] (λ _. same) (λ _. seen-nothing same)
    by both (Some x) there =
        answered both x there (receive (node_at w.current to) from to number x.stamp x.body) refl

-- ---- saves, restarts, and steps that change nothing

-- past the last node the choice makes no difference
past-choice : (w : World) (choice : ℕ → Bool) (i : ℕ) (b : Bool) → KeepsSent w
    → is_node w i ≡ false → (j : ℕ) → cut w choice j ≡ cut w (choosing choice i b) j
past-choice w choice i b h none j =
    let past : length w.current ≤ i = ltb-false i (length w.current) none in
    let width = h.width in
    let current : (k : ℕ) → k ≡ i → node_at w.current k ≡ no_node =
    λ k e. get_or_past w.current k no_node (omega (arith, past, e)) in
    let saved : (k : ℕ) → k ≡ i → node_at w.saved k ≡ no_node =
    λ k e. get_or_past w.saved k no_node (omega (arith, past, width, e)) in
    cut-choosing w choice i b (cut w choice j) j
    (λ e.
    cond_both (choice j) (node_at w.saved j) (node_at w.current j) (λ z. z ≡ no_node)
    (λ _. saved j e) (λ _. current j e)
    ∙ sym (cond_both b (node_at w.saved j) (node_at w.current j) (λ z. z ≡ no_node)
    (λ _. saved j e) (λ _. current j e)))
    (λ _. refl)

save-seen : {shape : Shaped} {s : Space} (w : World) (choice : ℕ → Bool) (i : ℕ)
    → Standing shape w → Same s (cut w (choosing choice i false))
    → Same s (cut (happens w (step.Save i)) choice)
unfolding take_step
save-seen {s = s} w choice i h same =
    cond_both (is_node w i) _ _ (λ r. Same s (cut (world_after w r) choice))
    (λ within.
    same-becomes
    (cut-saved w i choice
    (let k = ltb-true i (length w.current) within in
    let e = h.keeps.width in omega (arith, k, e))) same)
    (λ none. same-becomes (past-choice w choice i false h.keeps none) same)

restart-seen : {shape : Shaped} {s : Space} (w : World) (choice : ℕ → Bool) (i : ℕ)
    → Standing shape w → Same s (cut w (choosing choice i true))
    → Same s (cut (happens w (step.Restart i)) choice)
unfolding take_step
restart-seen {s = s} w choice i h same =
    cond_both (is_node w i) _ _ (λ r. Same s (cut (world_after w r) choice))
    (λ within.
    same-becomes (cut-restarted w i choice (ltb-true i (length w.current) within)) same)
    (λ none. same-becomes (past-choice w choice i true h.keeps none) same)

-- a Hand isn't an event
hand-quiet : (w : World) (from to : ℕ) → is_event w (step.Hand from to) ≡ false
unfolding take_step
hand-quiet w from to =
    cond_both (is_node w from && is_node w to) _ _ IsQuietStep
    (λ _. cond_both (from == to) _ _ IsQuietStep (λ _. refl)
    (λ _.
    tested-quiet w
    ((is_addressed (node_at w.current from).local to from, WrongNode)
    ∷ (leb (acknowledged w from to) (release_count w from to), AckBeyond) ∷ [])
    (acknowledged w from to)))
    (λ _. refl)
  where
    IsQuietStep : Result (World × Outcome) Refusal → Type 0
    IsQuietStep r = is_eventful (outcome_of r) ≡ false

    tested-quiet : (v : World) (cs : List (Bool × Refusal)) (number : ℕ)
        → is_eventful (outcome_of (guarded cs (v, outcome.Handed number))) ≡ false
    tested-quiet v [] number = refl
    tested-quiet v ((true, r) ∷ cs) number = tested-quiet v cs number
    tested-quiet v ((false, r) ∷ cs) number = refl

-- ---- runs

step-seen : {shape : Shaped} {s : Space} (w : World) (st : Step) (choice : ℕ → Bool)
    → Standing shape w → Same s (cut w (choice_before st choice))
    → StepSeen shape s w choice st (take_step w st)
step-seen w (step.Act i e) choice h same = act-seen w choice i e h same
step-seen w (step.Save i) choice h same = seen-nothing (save-seen w choice i h same)
step-seen w (step.Restart i) choice h same = seen-nothing (restart-seen w choice i h same)
step-seen w (step.Deliver from to number) choice h same =
    deliver-seen w choice from to number h same
step-seen {s = s} w (step.Hand from to) choice h same =
    seen-nothing
    (subst (λ (z : World). Same s (cut z choice))
    (sym (only-events-change w (step.Hand from to) (hand-quiet w from to))) same)

run-seen : {shape : Shaped} (w : World) (steps : List Step) (choice : ℕ → Bool) (s : Space)
    → Standing shape w → Same s (cut w (choice_at_start steps choice))
    → Seen shape s (observed_in_cut w steps choice) (cut (run w steps) choice)
run-seen w [] choice s h same = seen-nothing same
run-seen {shape = shape} w (st ∷ ss) choice s h same =
    let xs : List Sight =
    observed_in_step w (choice_at_start ss choice) st (outcome_of (take_step w st)) in
    let first = step-seen w st (choice_at_start ss choice) h same in
    let rest = run-seen (happens w st) ss choice (after s xs) (standing-next st h) first.same in
    record {
      runs = run-append shape s xs (observed_in_cut (happens w st) ss choice) first.runs
          rest.runs;
      same = subst (λ (z : Space). Same z (cut (run (happens w st) ss) choice))
          (sym (after-append s xs (observed_in_cut (happens w st) ss choice))) rest.same;
    }

new-standing : (shape : Shaped) → IsShape shape → Standing shape (new_world shape)
new-standing shape limits = record {
  invs = λ more choice. all-inv shape limits more choice;
  keeps = new-keeps-sent shape;
  width = length-map-range_with_len (new_node shape) 0 shape.nodes;
}

bytes-told : {shape : Shaped} {s : Space} {c : Cut} {i : ℕ} → At shape s c i
    → (object offset count : ℕ)
    → heap_bytes (c i).local.own (c i).local.heap object offset count
    ≡ bytes_told s i object offset count
bytes-told {s = s} {c = c} {i = i} at object offset count =
    subst (λ (z : ℕ). heap_bytes (c i).local.own (c i).local.heap object offset count
    ≡ bytes_told s z object offset count)
    (at.inv.base.own i at.inside)
    (bytes-alike (c i).local object offset count (ready at))

-- two lists of tests that fail at once, with the same refusal
both-refuse : {A : Type 0} {b c : Bool} (r : Refusal) (ts us : List (Bool × Refusal)) (x y : A)
    → b ≡ false → c ≡ false → guarded ((b, r) ∷ ts) x ≡ guarded ((c, r) ∷ us) y
both-refuse {b = true} r ts us x y never other = absurd cc
both-refuse {b = false} {c = true} r ts us x y one never = absurd cc
both-refuse {b = false} {c = false} r ts us x y one other = refl

-- past the last node there is no register
no-bytes : {s : Space} {i : ℕ} {n : NodeState} (object offset count : ℕ)
    → Here s i n.local.heap → n ≡ no_node
    → heap_bytes n.local.own n.local.heap object offset count
    ≡ bytes_told s i object offset count
unfolding heap_bytes
no-bytes {s = s} {i = i} {n = n} object offset count here is =
    let none : is_register n.local.heap object ≡ false =
    subst (λ (z : NodeState). is_register z.local.heap object ≡ false) (sym is)
    (le-ltb object 0 (omega arith)) in
    both-refuse NoRegister
    (left n.local.own n.local.heap (is_some found) (has_range (bytes_of found) offset count))
    (left i (s.desk i) (is_some thing) (has_range (bytes_in thing) offset count))
    (take count (drop offset (bytes_of found))) (take count (drop offset (bytes_in thing))) none
    (ap (λ (z : Heap). is_register z object) here.desk ∙ none)
  where
    found : Option Object
    found = object_at n.local.heap (named n.local.heap object)

    thing : Option Thing
    thing = object_in s i object

    left : ℕ → Heap → Bool → Bool → List (Bool × Refusal)
    left own h there within =
        (is_filled h object, EmptyRegister) ∷ (is_local own h object, Remote) ∷ (there, NoField)
        ∷ (within, NoBytes) ∷ []

pub collector-is-unseen : CollectorIsUnseen
collector-is-unseen shape limits steps choice =
    let w : World = new_world shape in
    let c : Cut = cut (run w steps) choice in
    let all = run-seen w steps choice (new_space shape) (new-standing shape limits)
    (new-same shape (choice_at_start steps choice)) in (
      all.runs,
      record {
        registers = λ i. ap (λ (z : Heap). z.registers) (all.same.here i).desk;
        letters = λ i. ap (λ (z : Heap). z.letters) (all.same.here i).desk;
        messages = all.same.messages;
        objects = λ r reached.
            (let safe = reached-safe (all-inv shape limits steps choice) r reached in (
              safe.object,
              safe.there,
              (all.same.here r.node).lives r.slot r.generation safe.object safe.there,
            ));
        bytes = λ i object offset count.
            ⊎_elim
            (λ inside.
            bytes-told (record {
              inv = all-inv shape limits steps choice;
              inside = inside;
              same = all.same;
            }) object offset count)
            (λ past.
            no-bytes object offset count (all.same.here i)
            ((all-inv shape limits steps choice).base.none i past))
            (cases_lt i shape.nodes);
      },
    )
