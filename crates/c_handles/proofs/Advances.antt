-- Calls after which a node goes on with its events: in each world that shows it, steps lead on.
use Rattle.std.proofs.Common.{◌≡◌, ◌≢◌, ℕ, ◌<◌, ◌==◌, ◌&&◌, true, false, Bool, List, [], ◌∷◌, ◌++◌, length, append-nil, cond, Option, Some, None, Result, Ok, Err, OnErr, inl, inr, refl, sym, ap, ◌∙◌, subst, arith, ltb-true, le_refl, le_trans, ◌≤◌}
use Rattle.std.specs.Prelude.{min, nat_lt, not}
use Rattle.std.proofs.lemmas.Bool.{and_parts, cond-false, cond-true, cond_both, eqb-true, lt-ltb}
use Rattle.ids.specs.Limits.{Shaped, IsShape}
use Rattle.ids.specs.declared.refusal.Refusal.{Refusal}
use Rattle.ids.specs.declared.refusal.Refusal.TheVariants.{LinkSpent, Memory, NothingToDo}
use Rattle.msg.specs.Frames.{Plain, plain, plain_ack, plain_data}
use Rattle.msg.specs.declared.frame.Ack.{Ack}
use Rattle.msg.specs.declared.frame.Data.{Data}
use Rattle.msg.specs.declared.frame.Frame.{Frame}
use Rattle.msg.specs.declared.frame.Frame.TheVariants as frame
use Rattle.msg.specs.declared.body.Message.{Message}
use Rattle.model.specs.declared.event.Answer.{Answer}
use Rattle.model.specs.declared.event.Answer.TheVariants as answer
use Rattle.model.specs.declared.step.Outcome.{Outcome}
use Rattle.model.specs.declared.step.Outcome.TheVariants as outcome
use Rattle.model.specs.Checks.{IsFirstRefusal, by_test, by_memory}
use Rattle.model.specs.Counting.{is_reference}
use Rattle.model.specs.declared.event.Event.{Event}
use Rattle.model.specs.declared.event.Event.TheVariants as event
use Rattle.model.specs.declared.step.Step.{Step}
use Rattle.model.specs.declared.step.Step.TheVariants as step
use Rattle.model.specs.Cuts.{Among}
use Rattle.model.specs.State.{NodeState, node_at}
use Rattle.model.specs.Steps.{ack_of, act, is_own, is_shading, receive}
use Rattle.model.specs.View.{Follows, IsTold, Leaves, NodeView, link_to}
use Rattle.node.specs.Keeping.{WholeNode}
use Rattle.model.specs.World.{World, IsInNet, happens, is_node, moved, outcome_of, released, run, take_step, world_after}
use Rattle.model.proofs.Runs.{run-append}
use Rattle.node.specs.Keeping.{OfAll, Rings, met, next_event, waiting}
use Rattle.node.proofs.Kept.{after-all}
use Rattle.laws.specs.Carried.{IsCarried}
use Rattle.laws.specs.Objects.{Sight, came, is_program, told}
use Rattle.laws.specs.Sights.{came_of, observed_in_cut, observed_in_step, told_of}
use Rattle.laws.proofs.Told.{as_outcome, told-once}
use Rattle.laws.proofs.Lookups.{among-append_left, among-append_right}
use Rattle.laws.proofs.progress.Spaces.{deliver-step}
use Rattle.laws.proofs.Base.{all-base}
use Rattle.laws.proofs.Carried.{Moves, act-moves, deliver-moves}
use Rattle.laws.proofs.Carrying.{carried-acted}
use Rattle.laws.proofs.StepFacts.{act-ok}
use Rattle.frames.specs.Grammar.{Fits, spelling}
use Rattle.c_values.specs.declared.fields.CWork.{CWork}
use Rattle.c_values.specs.declared.fault.Fault.{Fault}
use Rattle.c_values.specs.declared.fault.Fault.TheVariants as fault
use Rattle.c_handles.specs.Laws.{is_memory, nothing_told, told_of_event, tolds}
use Rattle.c_handles.specs.Logs.{KeepsLog}
use Rattle.c_handles.specs.Work.{NodeWorks}
use Rattle.c_handles.specs.Lone.{Acknowledged, Gave, Given, Handled, Heard, NodeActs, TookIn, is_congested, listed}
use Rattle.c_handles.specs.declared.working.Task.TheVariants as task
use Rattle.c_handles.specs.declared.lone.LoneNode.{LoneNode}
use Rattle.c_handles.proofs.Trails.{Did, IsQuiet, IsTried, had_none, was_done, Trail, Tries, turn-led, work-tries}
use Rattle.c_handles.proofs.Acked.{AreAcked, ack-acked, ack-bases, left-acked, left-bases}
use Rattle.c_handles.proofs.Says.{AreTurns, EventSteps, IsActed, Says, Tried, acted, acted_by, came_in, made, quiet-on, quietly, trailed, unmade, worked}
use Rattle.c_handles.proofs.Systems.{IsWorld, later-world, world-count}

-- the node keeps only early messages that handles gave out
abbrev pub AreGiven : List Plain → Rings → Type 0
AreGiven frames es = OfAll (λ from d. Among (plain_data d) frames) es

-- Steps that change the current state of one node at most, after which it shows this one. This is
-- said of them.
pub record Went (w : World) (i : ℕ) (so : Says) (n : NodeView) : Type 0 where
  pub later : List Step
  pub says : so w later
  pub others : (k : ℕ) → k ≢ i → node_at (run w later).current k ≡ node_at w.current k
  pub saved : (run w later).saved ≡ w.saved
  pub carried : IsCarried (node_at w.saved i) (node_at (run w later).current i) n

-- A call on a node, after which it is another one.
pub record Advances (shape : Shaped) (frames : List Plain) (i : ℕ) (so : Says)
    (n m : LoneNode) : Type 0 where
  pub counts : m.counts ≡ n.counts
  pub logs : KeepsLog n m
  pub early : AreGiven frames n.node.early → AreGiven frames m.node.early
  pub acked : AreAcked frames n.node.core → AreAcked frames m.node.core
  pub bases : (j : ℕ) → (link_to n.node.core j).base ≤ (link_to m.node.core j).base
  pub moves : AreGiven frames n.node.early → (w : World) → IsWorld shape frames w
      → IsCarried (node_at w.saved i) (node_at w.current i) n.node.core → Went w i so m.node.core

-- nothing moves
pub stays-so : {w : World} {i : ℕ} {n m : NodeView} {so : Says} → so w [] → m ≡ n
    → IsCarried (node_at w.saved i) (node_at w.current i) n → Went w i so m
stays-so {w} {i} says same h = record {
  later = [];
  says = says;
  others = λ k other. refl;
  saved = refl;
  carried = subst (IsCarried (node_at w.saved i) (node_at w.current i)) (sym same) h;
}

pub stays : {w : World} {i : ℕ} {n m : NodeView} → m ≡ n
    → IsCarried (node_at w.saved i) (node_at w.current i) n → Went w i quietly m
stays same h = stays-so {so = quietly} (λ saved. refl, tt) same h

-- the node is the same, except perhaps for what isn't part of the space
pub advances-same : {shape : Shaped} {frames : List Plain} {i : ℕ} {n m : LoneNode}
    → m.node ≡ n.node → m.counts ≡ n.counts → KeepsLog n m
    → Advances shape frames i quietly n m
advances-same {frames = frames} {n = n} {m = m} same counts logs = record {
  counts = counts;
  logs = logs;
  early = λ given. subst (λ x. AreGiven frames (x.early)) (sym same) given;
  acked = λ all. subst (λ x. AreAcked frames (x.core)) (sym same) all;
  bases = λ j.
      subst (λ (x : WholeNode). (link_to n.node.core j).base ≤ (link_to x.core j).base) (sym same)
      (le_refl _);
  moves = λ given w is h. stays (ap (λ x. x.core) same) h;
}

pub advances-not : {shape : Shaped} {frames : List Plain} {i : ℕ} {n m : LoneNode} → m ≡ n
    → Advances shape frames i quietly n m
advances-not {shape} {frames} {i} {n} {m} same =
    subst (Advances shape frames i quietly n) (sym same)
    (advances-same refl refl (λ first led. led))

-- nothing moves, and this is said of no steps
pub advances-so : {shape : Shaped} {frames : List Plain} {i : ℕ} {n m : LoneNode} (so : Says)
    → ((w : World) → so w []) → m ≡ n → Advances shape frames i so n m
advances-so {shape} {frames} {i} {n} so says same =
    subst (Advances shape frames i so n) (sym same)
    (record {
      counts = refl;
      logs = λ first led. led;
      early = λ given. given;
      acked = λ all. all;
      bases = λ j. le_refl _;
      moves = λ given w is h. stays-so {so = so} (says w) refl h;
    })

-- something else is said
resaid : {w : World} {i : ℕ} {a b : Says} {n : NodeView}
    → ((later : List Step) → a w later → b w later) → Went w i a n → Went w i b n
resaid more g = record {
  later = g.later;
  says = more g.later g.says;
  others = g.others;
  saved = g.saved;
  carried = g.carried;
}

pub advances-resaid : {shape : Shaped} {frames : List Plain} {i : ℕ} {a b : Says} {n m : LoneNode}
    → ((w : World) (later : List Step) → a w later → b w later) → Advances shape frames i a n m
    → Advances shape frames i b n m
advances-resaid more g = record {
  counts = g.counts;
  logs = g.logs;
  early = g.early;
  acked = g.acked;
  bases = g.bases;
  moves = λ given w is h. resaid (more w) (g.moves given w is h);
}

-- one call after another
pub advances-on : {shape : Shaped} → IsShape shape → {frames : List Plain} {i : ℕ}
    {n x m : LoneNode} {a b c : Says}
    → ((w : World) (ss ts : List Step) → a w ss → b (run w ss) ts → c w (ss ++ ts))
    → Advances shape frames i a n x → Advances shape frames i b x m
    → Advances shape frames i c n m
advances-on within {i = i} {x = x} {m = m} both a b = record {
  counts = b.counts ∙ a.counts;
  logs = λ first led. b.logs first (a.logs first led);
  early = λ given. b.early (a.early given);
  acked = λ all. b.acked (a.acked all);
  bases = λ j. le_trans (a.bases j) (b.bases j);
  moves = λ given w is h.
      let one = a.moves given w is h in
      let v : World = run w one.later in
      let saved = ap (λ (l : List NodeState). node_at l i) one.saved in
      let two = b.moves (a.early given) v (later-world within is one.later)
      (subst (λ (s : NodeState). IsCarried s (node_at v.current i) x.node.core) (sym saved)
      one.carried) in
      let end = run-append w one.later two.later in
      record {
        later = one.later ++ two.later;
        says = both w one.later two.later one.says two.says;
        others = λ k other.
            ap (λ (z : World). node_at z.current k) end
            ∙ two.others k other ∙ one.others k other;
        saved = ap (λ (z : World). z.saved) end ∙ two.saved ∙ one.saved;
        carried = subst (λ (z : World).
            IsCarried (node_at w.saved i) (node_at z.current i) m.node.core) (sym end)
            (subst (λ (s : NodeState).
            IsCarried s (node_at (run v two.later).current i) m.node.core) saved two.carried);
      };
}

-- ---- events

-- programs aren't told that a message was received
came-untold : (from to : ℕ) (r : Result Outcome Refusal) (o : Option Message)
    → tolds (came_of from to r o) ≡ []
came-untold from to (Ok (outcome.Answer answer.Received)) (Some x) =
    cond_both (is_reference x.body) (came from to ∷ []) []
    (λ (l : List Sight). tolds l ≡ []) (λ _. refl) (λ _. refl)
came-untold from to r o = refl

deliver-untold : (w : World) (from to number : ℕ) (saved : ℕ → Bool)
    → tolds (observed_in_cut w (step.Deliver from to number ∷ []) saved) ≡ []
deliver-untold w from to number saved =
    let r = outcome_of (take_step w (step.Deliver from to number)) in
    let o = released w from to number in
    ap tolds (append-nil (cond (saved to) [] (came_of from to r o)))
    ∙ cond_both (saved to) [] (came_of from to r o) (λ (l : List Sight). tolds l ≡ [])
    (λ _. refl) (λ _. came-untold from to r o)

-- the step of an event of a node's own, as its program is told of it
act-told : (w : World) (i : ℕ) (e : Event) (r : Result Answer Refusal) (saved : ℕ → Bool)
    → i < length w.current → outcome_of (take_step w (step.Act i e)) ≡ as_outcome r
    → tolds (observed_in_cut w (step.Act i e ∷ []) saved)
    ≡ cond (is_program e && not (saved i)) (told i e r ∷ []) []
act-told w i e r saved within is =
    let b : Bool = is_program e && not (saved i) in
    ap tolds
    (append-nil (observed_in_step w saved (step.Act i e) (outcome_of (take_step w (step.Act i e))))
    ∙ ap (λ (here : Bool).
    cond (here && b) (told_of i e (outcome_of (take_step w (step.Act i e)))) [])
    (lt-ltb i (length w.current) within)
    ∙ ap (λ (x : Result Outcome Refusal). cond b (told_of i e x) []) is
    ∙ ap (λ (l : List Sight). cond b l []) (told-once i e r))
    ∙ cond_both b (told i e r ∷ []) [] (λ (l : List Sight). tolds l ≡ l) (λ _. refl) (λ _. refl)

not-memory : (x : Refusal) → x ≢ Memory → is_memory x ≡ false
not-memory Memory other = absurd (other refl)
not-memory x other = refl

-- no program is told about an event of the collector
untold : (i : ℕ) (e : Event) (r : Result Answer Refusal) → is_program e ≡ false
    → (saved : ℕ → Bool) → told_of_event i e r saved ≡ []
untold i e (Ok a) none saved =
    ap (λ (b : Bool). cond (b && not (saved i)) (told i e (Ok a) ∷ []) []) none
untold i e (Err x) none saved =
    ap (λ (b : Bool).
    cond (is_memory x) [] (cond (b && not (saved i)) (told i e (Err x) ∷ []) [])) none
    ∙ cond_both (is_memory x) [] [] (λ (l : List Sight). l ≡ []) (λ _. refl) (λ _. refl)

own-told : (e : Event) (x : Refusal) → is_own e ≡ true → IsTold (ack_of e) x
own-told (event.Ack a) x own = absurd cc
own-told e x own = tt

module _ {shape : Shaped} (within : IsShape shape) {frames : List Plain} {w : World}
    (is : IsWorld shape frames w) {i : ℕ} (inside : i < shape.nodes) where
  pub below : i < length w.current
  below = let count = world-count is in omega (arith, inside, count)

  pub owns : (node_at w.current i).local.own ≡ i
  owns =
      subst (λ (v : World). (node_at v.current i).local.own ≡ i) (sym is.reached)
      ((all-base shape within is.steps (λ _. false)).own i inside)

  pub nodes : (node_at w.current i).local.shape.nodes ≡ shape.nodes
  nodes =
      subst (λ (v : World). (node_at v.current i).local.shape.nodes ≡ shape.nodes)
      (sym is.reached)
      (ap (λ (z : Shaped). z.nodes)
      ((all-base shape within is.steps (λ _. false)).shapes i inside))

  receives : (d : Data) (s : NodeState) (a : Answer) → IsInNet w (plain_data d)
      → act (node_at w.current i) (event.Data d) ≡ Ok (s, a)
      → Moves w (happens w (step.Deliver d.from i d.number)) i s
      × (outcome_of (take_step w (step.Deliver d.from i d.number)) ≡ Ok (outcome.Answer a))
  unfolding act receive
  receives d s a net answered =
      let p = (node_at w.current i).local in
      let addressed = (act-ok (node_at w.current i) (event.Data d) s a answered).passed.0 in
      let parts = and_parts (d.to == p.own) (nat_lt d.from p.shape.nodes && not (d.from == p.own))
      addressed in
      let to : d.to ≡ i = eqb-true d.to p.own parts.0 ∙ owns in
      let from : d.from < p.shape.nodes =
      ltb-true d.from p.shape.nodes
      (and_parts (nat_lt d.from p.shape.nodes) (not (d.from == p.own)) parts.1).0 in
      let x : Message = record { stamp = d.stamp; body = d.body } in
      let count = world-count is in
      let many = nodes in
      let sender : d.from < length w.current = omega (arith, from, count, many) in
      let there = subst (λ (k : ℕ). released w d.from k d.number ≡ Some x) to net in
      let said = subst (λ (k : ℕ).
      receive (node_at w.current i) d.from k d.number d.stamp d.body ≡ Ok (s, a)) to
      answered in (
        deliver-moves w d.from i d.number x s a sender below there said,
        ap outcome_of (deliver-step w d.from i d.number sender below there said),
      )

  -- the node was given a message that is in the net
  data-went : {n m : NodeView} (d : Data) (r : Result Answer Refusal) → IsInNet w (plain_data d)
      → IsCarried (node_at w.saved i) (node_at w.current i) n
      → Follows (event.Data d) r m (act (node_at w.current i) (event.Data d))
      → Leaves n m (event.Data d) → OnErr r (m ≡ n) → Went w i quietly m
  data-went {m = m} d (Ok a) net h found leaves same =
      let got = receives d found.0 a net found.1 in
      let moved = got.0 in
      record {
        later = step.Deliver d.from i d.number ∷ [];
        says = (
          deliver-untold w d.from i d.number,
          ((refl, λ e. absurd (let never = sym got.1 ∙ e in cc)), tt),
        );
        others = moved.others;
        saved = moved.saved;
        carried = subst (λ (s : NodeState). IsCarried (node_at w.saved i) s m) (sym moved.now)
            (carried-acted h leaves found.2);
      }
  data-went d (Err f) net h found leaves same = stays same h

  -- the step of an event of its own
  own-step : (e : Event) → is_own e ≡ true
      → take_step w (step.Act i e) ≡ moved w i (act (node_at w.current i) e)
  unfolding take_step
  own-step e own =
      cond-true (is_node w i) _ _ (lt-ltb i (length w.current) below)
      ∙ cond-true (is_own e) _ _ own

  -- it was refused, which is a step that changes nothing
  refused-went : {n m : NodeView} (e : Event) (x : Refusal) → is_own e ≡ true
      → act (node_at w.current i) e ≡ Err x → x ≢ Memory
      → IsCarried (node_at w.saved i) (node_at w.current i) n → m ≡ n
      → Went w i (acted i e (Err x)) m
  refused-went {n} {m} e x own refused other h same =
      let is : take_step w (step.Act i e) ≡ Err x = own-step e own ∙ ap (moved w i) refused in
      let still : happens w (step.Act i e) ≡ w = ap (world_after w) is in
      record {
        later = step.Act i e ∷ [];
        says = (
          λ saved.
              act-told w i e (Err x) saved below (ap outcome_of is)
              ∙ sym (cond-false (is_memory x) _ _ (not-memory x other)),
          made (ap outcome_of is),
        );
        others = λ k apart. ap (λ (v : World). node_at v.current k) still;
        saved = ap (λ (v : World). v.saved) still;
        carried = subst (λ (v : World). IsCarried (node_at w.saved i) (node_at v.current i) m)
            (sym still)
            (subst (IsCarried (node_at w.saved i) (node_at w.current i)) (sym same) h);
      }

  -- the node was given an event of its own
  own-went : {n m : NodeView} (e : Event) (r : Result Answer Refusal) → is_own e ≡ true
      → IsCarried (node_at w.saved i) (node_at w.current i) n
      → Follows e r m (act (node_at w.current i) e) → Leaves n m e → OnErr r (m ≡ n)
      → Went w i (acted i e r) m
  own-went {m = m} e (Ok a) own h found leaves same =
      let moved_to = act-moves w i e found.0 a below own found.1 in
      record {
        later = step.Act i e ∷ [];
        says = (
          λ saved.
              act-told w i e (Ok a) saved below
              (ap outcome_of (own-step e own ∙ ap (moved w i) found.1)),
          made (ap outcome_of (own-step e own ∙ ap (moved w i) found.1)),
        );
        others = moved_to.others;
        saved = moved_to.saved;
        carried = subst (λ (s : NodeState). IsCarried (node_at w.saved i) s m) (sym moved_to.now)
            (carried-acted h leaves found.2);
      }
  own-went {n} {m} e (Err x) own h found leaves same =
      by (found (own-told e x own))
    where
      by : IsFirstRefusal (is_shading e) x (act (node_at w.current i) e)
          → Went w i (acted i e (Err x)) m
      by (by_test other is) = refused-went e x own is other h same
      by (by_memory is replaced) =
          stays-so {so = acted i e (Err x)} (
            λ saved.
                sym (ap (λ (y : Refusal).
                cond (is_memory y) []
                (cond (is_program e && not (saved i)) (told i e (Err x) ∷ []) [])) is),
            unmade (ap (λ (y : Refusal). Err y) is),
          ) same h

  -- whatever it is to the core
  met-went : {n m : NodeView} (es : Rings) (e : Event) (r : Result Answer Refusal)
      → is_own e ≡ true → AreGiven frames es
      → IsCarried (node_at w.saved i) (node_at w.current i) n
      → Follows (met es e) r m (act (node_at w.current i) (met es e)) → Leaves n m (met es e)
      → OnErr r (m ≡ n) → Went w i (acted i e r) m
  met-went {n} {m} es (event.Next from) r own given h found leaves same =
      by (waiting es from) refl found leaves
    where
      by : (o : Option Data) → waiting es from ≡ o
          → Follows (next_event from o) r m (act (node_at w.current i) (next_event from o))
          → Leaves n m (next_event from o) → Went w i (acted i (event.Next from) r) m
      by None there found leaves = own-went (event.Next from) r refl h found leaves same
      by (Some d) there found leaves =
          resaid (λ later so. (
            λ saved. so.0 saved ∙ sym (untold i (event.Next from) r refl saved),
            came_in later from refl so.1,
          )) (data-went d r (is.net (plain_data d) (given from 0 d there)) h found leaves same)
  met-went es e r own given h found leaves same = own-went e r own h found leaves same

-- no event of a node's own is an acknowledgement
own-met : (es : Rings) (e : Event) → is_own e ≡ true → ack_of (met es e) ≡ None
own-met es (event.Next from) own = by (waiting es from)
  where
    by : (o : Option Data) → ack_of (next_event from o) ≡ None
    by None = refl
    by (Some d) = refl
own-met es (event.Ack a) own = absurd cc
own-met es e own = refl

-- no memory for a list
unlisted-told : (i : ℕ) (e : Event) (f : Refusal) → f ≡ Memory → (saved : ℕ → Bool)
    → nothing_told saved ≡ told_of_event i e (Err f) saved
unlisted-told i e f is saved =
    sym (ap (λ (y : Refusal).
    cond (is_memory y) [] (cond (is_program e && not (saved i)) (told i e (Err f) ∷ []) []))
    is)

-- nothing is left of a refused event
spent-same : (n x : LoneNode) (congested : Bool) (e : Event) {r : Result Answer Fault}
    → Given congested n x e r → r ≡ Err (fault.Refused LinkSpent) → x.node.core ≡ n.node.core
spent-same n x true e g is = ap (λ (z : LoneNode). z.node.core) g.0
spent-same n x false e g is = by (subst (λ z. Given false n x e z) is g)
  where
    by : Given false n x e (Err (fault.Refused LinkSpent)) → x.node.core ≡ n.node.core
    by (inl gave) = gave.acts.unchanged
    by (inr u) = ap (λ (z : LoneNode). z.node.core) u.same

never-spent : (r : Result Answer Fault) → r ≡ Err (fault.Refused LinkSpent) → IsTried r → ⊥
never-spent r is (was_done a) = absurd cc
never-spent r is had_none = absurd cc

tried-none : {f : Fault} → IsTried (Err f) → f ≡ fault.Refused NothingToDo
tried-none had_none = refl

tried-plenty : (f : Refusal) → IsTried (Err (fault.Refused f))
    → ◌≡◌ {A = Result Answer Refusal} (Err f) (Err Memory) → ⊥
tried-plenty f had_none e = absurd cc

unspent : (x : Result Answer Refusal) → as_outcome x ≡ Err LinkSpent → x ≡ Err LinkSpent
unspent (Ok a) e = absurd cc
unspent (Err f) e = cc

-- what is said of one event of a turn
abbrev done : ℕ → Did → Says
done i d w later =
    quietly w later
    × (IsTried d.result → IsActed d.event → Among (step.Act i d.event) later)

event-done : (i : ℕ) (d : Did) (q : IsQuiet d.event) (x : Result Answer Refusal) → x ≢ Err LinkSpent
    → (IsTried d.result → x ≢ Err Memory) → {w : World} {later : List Step}
    → EventSteps i d.event x w later
    → AreTurns w later × (IsTried d.result → IsActed d.event → Among (step.Act i d.event) later)
event-done i d q x numbered plenty (made out) =
    (((q.2 i, λ e. numbered (unspent x (sym out ∙ e))), tt), λ tried acts. inl refl)
event-done i d q x numbered plenty (unmade is) =
    (tt, λ tried acts. absurd (plenty tried is))
event-done i d q x numbered plenty (came_in ss from is turns) =
    (turns, λ tried acts. absurd (acts from is))

-- what was tried is among the steps
tried-among : (i : ℕ) {e : Event} {ds : List Did} (later : List Step) → Tried i ds later
    → Tries e ds
    → IsActed e → Among (step.Act i e) later
tried-among i {e} later all t acts_so =
    subst (λ (z : Event). Among (step.Act i z) later) t.is
    (all t.did t.there t.tried (subst IsActed (sym t.is) acts_so))

module _ {shape : Shaped} (within : IsShape shape) {frames : List Plain} {i : ℕ}
    (inside : i < shape.nodes) where
  -- the node was given an event of its own
  gave-advances : {n m : LoneNode} (e : Event) (r : Result Answer Refusal) → is_own e ≡ true
      → Gave n m e r → Advances shape frames i (acted i e r) n m
  gave-advances {n} {m} e r own g = record {
    counts = ap (λ (x : LoneNode). x.counts) g.stays;
    logs = g.logs;
    early = λ given.
        subst (AreGiven frames) (sym g.acts.early)
        (after-all (λ from d. Among (plain_data d) frames) n.node.core.local n.node.early e r given
        (λ d same.
        let never : is_own (event.Data d) ≡ true =
        subst (λ (x : Event). is_own x ≡ true) same own in
        absurd cc));
    acked = left-acked g.acts.leaves (own-met n.node.early e own);
    bases = λ j.
        (let same = left-bases g.acts.leaves (own-met n.node.early e own) j in omega (arith, same));
    moves = λ given w is h.
        met-went within is inside n.node.early e r own given h
        (g.acts.states (node_at w.current i) h.shows) g.acts.leaves g.acts.unchanged;
  }

  -- or a message that was given out
  gave-data-advances : {n m : LoneNode} (d : Data) (r : Result Answer Refusal)
      → Among (plain_data d) frames → Gave n m (event.Data d) r
      → Advances shape frames i quietly n m
  gave-data-advances {n} {m} d r among g = record {
    counts = ap (λ (x : LoneNode). x.counts) g.stays;
    logs = g.logs;
    early = λ given.
        subst (AreGiven frames) (sym g.acts.early)
        (after-all (λ from x. Among (plain_data x) frames) n.node.core.local n.node.early
        (event.Data d) r given
        (λ x same.
        let one : d ≡ x = cc in subst (λ (y : Data). Among (plain_data y) frames) one among));
    acked = left-acked g.acts.leaves refl;
    bases = λ j. (let same = left-bases g.acts.leaves refl j in omega (arith, same));
    moves = λ given w is h.
        data-went within is inside d r (is.net (plain_data d) among) h
        (g.acts.states (node_at w.current i) h.shows) g.acts.leaves g.acts.unchanged;
  }

  -- what is listed of it says nothing of the node
  unlisted : {n m : LoneNode} {so : Says} (c : NodeView) (e : Event)
      → Advances shape frames i so (listed n c e) m → Advances shape frames i so n m
  unlisted c e a =
      record {
        counts = a.counts;
        logs = a.logs;
        early = a.early;
        acked = a.acked;
        bases = a.bases;
        moves = a.moves;
      }

  given-advances : {n m : LoneNode} (e : Event) (r : Result Answer Fault) → is_own e ≡ true
      → Given false n m e r → Advances shape frames i (acted_by i e r) n m
  given-advances {n} {m} e (Ok a) own g =
      unlisted m.node.core e (gave-advances e (Ok a) own g)
  given-advances e (Err (fault.Refused f)) own (inl g) = gave-advances e (Err f) own g
  given-advances e (Err (fault.Refused f)) own (inr u) =
      advances-so (acted i e (Err f)) (λ w. (
        λ saved. unlisted-told i e f u.unlisted.memory saved,
        unmade (ap (λ (y : Refusal). Err y) u.unlisted.memory),
      )) u.same
  given-advances e (Err f) own g = absurd g

  given-data-advances : {n m : LoneNode} (d : Data) (r : Result Answer Fault)
      → Among (plain_data d) frames → Given false n m (event.Data d) r
      → Advances shape frames i quietly n m
  given-data-advances {n} {m} d (Ok a) among g =
      unlisted m.node.core (event.Data d) (gave-data-advances d (Ok a) among g)
  given-data-advances d (Err (fault.Refused f)) among (inl g) =
      gave-data-advances d (Err f) among g
  given-data-advances d (Err (fault.Refused f)) among (inr u) = advances-not u.same
  given-data-advances d (Err f) among g = absurd g

  -- an event of the node's own
  pub acts-advances : {n m : LoneNode} (congested : Bool) (e : Event) (r : Result Answer Fault)
      → is_own e ≡ true → Given congested n m e r → Advances shape frames i (acted_by i e r) n m
  acts-advances {n} {m} true e r own g =
      subst (λ (x : Result Answer Fault). Advances shape frames i (acted_by i e x) n m) (sym g.1)
      (advances-not g.0)
  acts-advances false e r own g = given-advances e r own g

  -- ---- frames

  heard-advances : {n m : LoneNode} (x : Ack) (r : Result Answer Refusal)
      → Among (plain_ack x) frames → Heard n m x r → Advances shape frames i quietly n m
  heard-advances {n} {m} x r among g = record {
    counts = ap (λ (z : LoneNode). z.counts) g.stays;
    logs = g.logs;
    early = λ given.
        subst (AreGiven frames) (sym g.acts.early)
        (after-all (λ from d. Among (plain_data d) frames) n.node.core.local n.node.early
        (event.Ack x) r given (λ d same. absurd cc));
    acked = acks r g;
    bases = grow r g;
    moves = λ given w is h. by r g h;
  }
    where
      by : {w : World} (r : Result Answer Refusal) → Heard n m x r
          → IsCarried (node_at w.saved i) (node_at w.current i) n.node.core
          → Went w i quietly m.node.core
      by {w} (Ok a) g h =
          let found = g.acts.states (node_at w.current i) h.shows in
          let still : found.0 ≡ node_at w.current i =
          (act-ok (node_at w.current i) (event.Ack x) found.0 a found.1).state in
          record {
            later = [];
            says = (λ saved. refl, tt);
            others = λ k other. refl;
            saved = refl;
            carried = subst (λ (s : NodeState). IsCarried (node_at w.saved i) s m.node.core) still
                (carried-acted h g.acts.leaves found.2);
          }
      by (Err f) g h = stays g.acts.unchanged h

      acks : (r : Result Answer Refusal) → Heard n m x r → AreAcked frames n.node.core
          → AreAcked frames m.node.core
      acks (Ok a) g all = ack-acked n.node.core m.node.core x a g.acts.performs among all
      acks (Err f) g all = subst (AreAcked frames) (sym g.acts.unchanged) all

      grow : (r : Result Answer Refusal) → Heard n m x r → (j : ℕ)
          → (link_to n.node.core j).base ≤ (link_to m.node.core j).base
      grow (Ok a) g j = ack-bases n.node.core m.node.core x a g.acts.performs j
      grow (Err f) g j =
          subst (λ (z : NodeView). (link_to n.node.core j).base ≤ (link_to z j).base)
          (sym g.acts.unchanged) (le_refl _)

  acknowledged-advances : {n m : LoneNode} (x : Ack) (r : Result Answer Fault)
      → Among (plain_ack x) frames → Acknowledged n m x r → Advances shape frames i quietly n m
  acknowledged-advances x (Ok a) among g = heard-advances x (Ok a) among g
  acknowledged-advances x (Err (fault.Refused f)) among g = heard-advances x (Err f) among g
  acknowledged-advances x (Err f) among g = absurd g

  handled-advances : {n m : LoneNode} (f : Frame) (r : Result Answer Fault)
      → Among (plain f) frames → Handled f n m r → Advances shape frames i quietly n m
  handled-advances {n} (frame.Data d) r among g =
      given-data-advances d r among g
  handled-advances (frame.Ack x) r among g = acknowledged-advances x r among g

  pub took-advances : {n m : LoneNode} {bytes : List ℕ} {r : Result Answer Fault}
      → ((f : Plain) → Fits f → bytes ≡ spelling f → Among f frames) → TookIn bytes n m r
      → Advances shape frames i quietly n m
  took-advances {r = r} of_space (inl g) =
      handled-advances g.frame r (of_space (plain g.frame) g.fits g.spelled) g.handled
  took-advances of_space (inr (inl g)) = advances-not g.same
  took-advances of_space (inr (inr g)) = advances-not g.same

  -- ---- a turn of the collector

  did-advances : {n x : LoneNode} (d : Did) → IsQuiet d.event
      → NodeActs d.event n x d.result → Advances shape frames i (done i d) n x
  did-advances {n} {x} d q acts =
      by d.result refl (acts-advances (is_congested n d.event) d.event d.result q.0 acts)
      (spent-same n x (is_congested n d.event) d.event acts)
    where
      by : (r : Result Answer Fault) → d.result ≡ r
          → Advances shape frames i (acted_by i d.event d.result) n x
          → (d.result ≡ Err (fault.Refused LinkSpent) → x.node.core ≡ n.node.core)
          → Advances shape frames i (done i d) n x
      by (Ok a) is g same =
          advances-resaid (λ w later so.
          (let told = subst (λ (z : Result Answer Fault). acted_by i d.event z w later) is so in
          let steps = event-done i d q (Ok a) (λ e. absurd cc) (λ _ e. absurd cc) told.1 in
          (((λ saved. told.0 saved ∙ untold i d.event (Ok a) q.1 saved), steps.0), steps.1))) g
      by (Err (fault.Refused LinkSpent)) is g same = record {
        counts = g.counts;
        logs = g.logs;
        early = g.early;
        acked = g.acked;
        bases = g.bases;
        moves = λ given w at h.
            stays-so {so = done i d} (
              (λ saved. refl, tt),
              λ tried acts. absurd (never-spent d.result is tried),
            ) (same is) h;
      }
      by (Err (fault.Refused f)) is g same =
          advances-resaid (λ w later so.
          (let told = subst (λ (z : Result Answer Fault). acted_by i d.event z w later) is so in
          let steps = event-done i d q (Err f) (λ e. absurd cc)
          (λ tried e. tried-plenty f (subst IsTried is tried) e) told.1 in
          (((λ saved. told.0 saved ∙ untold i d.event (Err f) q.1 saved), steps.0), steps.1))) g
      by (Err f) is g same =
          advances-resaid (λ w later so. (
            subst (λ (z : Result Answer Fault). acted_by i d.event z w later) is so,
            λ tried acts. absurd (let e = tried-none (subst IsTried is tried) in cc),
          )) g

  trail-advances : {n m : LoneNode} (ds : List Did) → Trail n ds m
      → Advances shape frames i (trailed i ds) n m
  trail-advances [] same =
      advances-resaid (λ w later so. (so, λ d never. absurd never)) (advances-not same)
  trail-advances {n} (d ∷ ds) (x, is, acts, rest) =
      advances-on within (λ w ss ts a b.
      (quiet-on w ss ts a.0 b.0, λ e among tried acts_so. by w e ss ts a b among tried acts_so))
      (did-advances d is acts) (trail-advances ds rest)
    where
      by : (w : World) (e : Did) (ss ts : List Step) → done i d w ss → trailed i ds (run w ss) ts
          → Among e (d ∷ ds) → IsTried e.result → IsActed e.event
          → Among (step.Act i e.event) (ss ++ ts)
      by w e ss ts a b (inl same) tried acts_so =
          among-append_left (step.Act i e.event) ss ts
          (subst (λ (z : Did). Among (step.Act i z.event) ss) (sym same)
          (a.1 (subst (λ (z : Did). IsTried z.result) same tried)
          (subst (λ (z : Did). IsActed z.event) same acts_so)))
      by w e ss ts a b (inr later) tried acts_so =
          among-append_right (step.Act i e.event) ss ts (b.1 e later tried acts_so)

  pub works-advances : {n m : LoneNode} (scans slots : ℕ) (work : CWork)
      (s : Result (Unit {0}) Fault) → NodeWorks scans slots n m work s
      → Advances shape frames i (worked i scans slots s) n m
  works-advances {n} {m} scans slots work (Ok u) g =
      let led = turn-led {n = n} {m = m} scans slots work (Ok u) g in
      advances-resaid (λ w later so. (
        so.0,
        λ is some more. record {
          scan = tried-among i later so.1 (work-tries scans slots work g
              (record { task = task.Scan; most = scans }) (inl refl) some) (λ from e. absurd cc);
          pass = tried-among i later so.1 (work-tries scans slots work g
              (record { task = task.Pass; most = 1 }) (inr (inl refl)) (omega arith))
              (λ from e. absurd cc);
          count = slots;
          sweep = tried-among i later so.1 (work-tries scans slots work g
              (record { task = task.Sweep slots; most = min slots 1 }) (inr (inr (inl refl)))
              (omega (arith, more))) (λ from e. absurd cc);
        },
      )) (trail-advances led.0 led.1)
  works-advances {n} {m} scans slots work (Err f) g =
      let led = turn-led {n = n} {m = m} scans slots work (Err f) g in
      advances-resaid (λ w later so. (so.0, λ is. absurd cc)) (trail-advances led.0 led.1)
