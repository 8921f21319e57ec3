-- Two lists of events lead to the same for a seat. So does each list between them.
use Rattle.std.proofs.Common.{◌≡◌, ◌≢◌, ℕ, ◌<◌, ◌==◌, cond, eq-eqb, ne_eqb, Bool, true, false, List, [], ◌∷◌, ◌++◌, length, length-append, append-nil, set, Option, None, Some, Result, Ok, Err, refl, sym, ap, ◌∙◌, subst, arith, get_or-set_other}
use Rattle.std.specs.Prelude.{◌&&◌, nat_le}
use Rattle.std.specs.List.{AllByRecursion}
use Rattle.std.proofs.lemmas.Bool.{cond-true, cond-false, cond_both, false≢true, ltb-true}
use native.Mathlib.Decide.{ℕ_discrete}
use mathlib.Core.Logic.{dite}
use Rattle.ids.specs.declared.refusal.Refusal.{Refusal}
use Rattle.ids.specs.declared.refusal.Refusal.TheVariants.{AckBeyond, NoNode, WrongNode}
use Rattle.msg.specs.declared.body.Message.{Message}
use Rattle.model.specs.declared.event.Answer.{Answer}
use Rattle.model.specs.declared.step.Step.{Step}
use Rattle.model.specs.declared.step.Step.TheVariants as step
use Rattle.model.specs.declared.step.Outcome.{Outcome}
use Rattle.model.specs.declared.step.Outcome.TheVariants as outcome
use Rattle.model.specs.Checks.{guarded}
use Rattle.model.specs.State.{NodeState, no_node, node_at}
use Rattle.model.specs.Steps.{act, is_addressed, is_own, receive}
use Rattle.model.specs.World.{World, acknowledged, delivery, handing, happens, is_event, is_eventful, is_node, moved, outcome_of, release_count, released, run, take_step, world_after, IsInNet}
use Rattle.model.proofs.Runs.{run-append}
use Rattle.laws.proofs.KeepsSent.{run-count}
use Rattle.wire.specs.Lists.{Continues}
use Rattle.wire.specs.Views.{Known, pair_at}
use Rattle.wire.specs.Rule.{IsOpening, node_of, events_of, AreEvents}
use Rattle.wire.specs.Plays.{LeadsTo}
use Rattle.wire.proofs.Events.{net-more}

-- ---- A step of another node

-- the result leaves the node as it was
abbrev Leaves : World → ℕ → Result (World × Outcome) Refusal → Type 0
Leaves w i r = pair_at (world_after w r) i ≡ pair_at w i

moved-apart : (w : World) (j i : ℕ) (r : Result (NodeState × Answer) Refusal) → j ≢ i
    → Leaves w i (moved w j r)
moved-apart w j i (Ok x) apart = λ k. record {
  current = get_or-set_other w.current j i x.0 no_node (λ e. apart (sym e)) k;
  saved = node_at w.saved i;
}
moved-apart w j i (Err e) apart = refl

delivery-apart : (w : World) (from to number i : ℕ) (o : Option Message) → to ≢ i
    → Leaves w i (delivery w from to number o)
delivery-apart w from to number i None apart = refl
delivery-apart w from to number i (Some x) apart =
    moved-apart w to i (receive (node_at w.current to) from to number x.stamp x.body) apart

step-apart : (w : World) (s : Step) (i : ℕ) → node_of s ≢ i
    → pair_at (happens w s) i ≡ pair_at w i
unfolding take_step
step-apart w (step.Act j e) i apart =
    cond_both (is_node w j)
    (cond (is_own e) (moved w j (act (node_at w.current j) e)) (Err WrongNode)) (Err NoNode)
    (Leaves w i)
    (λ _. cond_both (is_own e) (moved w j (act (node_at w.current j) e)) (Err WrongNode)
    (Leaves w i) (λ _. moved-apart w j i (act (node_at w.current j) e) apart) (λ _. refl))
    (λ _. refl)
step-apart w (step.Save j) i apart =
    cond_both (is_node w j)
    (Ok (record w { saved = set w.saved j (node_at w.current j) }, outcome.Done)) (Err NoNode)
    (Leaves w i)
    (λ _ k. record {
      current = node_at w.current i;
      saved = get_or-set_other w.saved j i (node_at w.current j) no_node (λ e. apart (sym e)) k;
    })
    (λ _. refl)
step-apart w (step.Restart j) i apart =
    cond_both (is_node w j)
    (Ok (record w { current = set w.current j (node_at w.saved j) }, outcome.Done)) (Err NoNode)
    (Leaves w i)
    (λ _ k. record {
      current = get_or-set_other w.current j i (node_at w.saved j) no_node (λ e. apart (sym e)) k;
      saved = node_at w.saved i;
    })
    (λ _. refl)
step-apart w (step.Deliver from to number) i apart =
    cond_both (is_node w from && is_node w to)
    (delivery w from to number (released w from to number)) (Err NoNode)
    (Leaves w i)
    (λ _. delivery-apart w from to number i (released w from to number) apart)
    (λ _. refl)
step-apart w (step.Hand from to) i apart =
    cond_both (is_node w from && is_node w to)
    (cond (from == to) (Ok (w, outcome.NoFrame)) (handing w from to)) (Err NoNode)
    (Leaves w i)
    (λ _. cond_both (from == to) (Ok (w, outcome.NoFrame)) (handing w from to) (Leaves w i)
    (λ _. refl) (λ _. handed))
    (λ _. refl)
  where
    handed : Leaves w i (handing w from to)
    handed =
        cond_both (is_addressed (node_at w.current from).local to from)
        (guarded ((nat_le (acknowledged w from to) (release_count w from to), AckBeyond) ∷ [])
        (w, outcome.Handed (acknowledged w from to)))
        (Err WrongNode) (Leaves w i)
        (λ _. cond_both (nat_le (acknowledged w from to) (release_count w from to))
        (Ok (w, outcome.Handed (acknowledged w from to))) (Err AckBeyond) (Leaves w i)
        (λ _. refl) (λ _. refl))
        (λ _. refl)

run-apart : (w : World) (steps : List Step) (i : ℕ) → events_of i steps ≡ []
    → pair_at (run w steps) i ≡ pair_at w i
run-apart w [] i none = refl
run-apart w (s ∷ ss) i none =
    dite (ℕ_discrete (node_of s) i)
    (λ is. absurd (let never : ◌≡◌ {A = List Step} (s ∷ events_of i ss) [] =
    sym (cond-true _ _ _ (eq-eqb (node_of s) i is)) ∙ none in cc))
    (λ apart.
    run-apart (happens w s) ss i (sym (cond-false _ _ _ (ne_eqb (node_of s) i apart)) ∙ none)
    ∙ step-apart w s i apart)

-- ---- Lists of events

cond-append : (b : Bool) (s : Step) (xs ys zs : List Step) → zs ≡ xs ++ ys
    → cond b (s ∷ zs) zs ≡ cond b (s ∷ xs) xs ++ ys
cond-append true s xs ys zs same = ap (λ (l : List Step). s ∷ l) same
cond-append false s xs ys zs same = same

pub events-append : (i : ℕ) (xs ys : List Step)
    → events_of i (xs ++ ys) ≡ events_of i xs ++ events_of i ys
events-append i [] ys = refl
events-append i (s ∷ ss) ys =
    cond-append (node_of s == i) s (events_of i ss) (events_of i ys) _ (events-append i ss ys)

events-front : (w : World) (xs ys : List Step) → AreEvents w (xs ++ ys) → AreEvents w xs
events-front w [] ys are = tt
events-front w (s ∷ ss) ys are = (are.0, events-front (happens w s) ss ys are.1)

pub events-back : (w : World) (xs ys : List Step) → AreEvents w (xs ++ ys)
    → AreEvents (run w xs) ys
events-back w [] ys are = are
events-back w (s ∷ ss) ys are = events-back (happens w s) ss ys are.1

none-long : (xs : List Step) → length xs ≡ 0 → xs ≡ []
none-long [] long = refl
none-long (x ∷ xs) long = absurd (omega (arith, long))

-- a list and a longer one with the same events of a node: between them is no event of the node
none-between : (i : ℕ) (first more last : List Step)
    → events_of i ((first ++ more) ++ last) ≡ events_of i first → events_of i more ≡ []
none-between i first more last same =
    let all = events-append i (first ++ more) last in
    let front = events-append i first more in
    let long = ap length (sym same ∙ all) in
    let whole = length-append (events_of i (first ++ more)) (events_of i last) in
    let part = ap length front ∙ length-append (events_of i first) (events_of i more) in
    none-long (events_of i more)
    (let none : length (events_of i more) ≡ 0 = omega (arith, long, whole, part) in none)

pub between : {v : Known} {first middle last : List Step} → IsOpening v.opening
    → LeadsTo v first → LeadsTo v last → Continues first middle → Continues middle last
    → LeadsTo v middle
between {v} {first} {middle} opens early late begins ends =
    let none : events_of v.me begins.0 ≡ [] =
    none-between v.me first begins.0 ends.0
    (ap (events_of v.me) (sym (ends.1 ∙ ap (λ (l : List Step). l ++ ends.0) begins.1))
    ∙ sym late.own ∙ early.own) in
    record {
      events = events-front v.opening middle ends.0
          (subst (AreEvents v.opening) ends.1 late.events);
      pair = ap (λ (l : List Step). pair_at (run v.opening l) v.me) begins.1
          ∙ ap (λ (w : World). pair_at w v.me) (run-append v.opening first begins.0)
          ∙ run-apart (run v.opening first) begins.0 v.me none
          ∙ early.pair;
      own = early.own
          ∙ sym (ap (events_of v.me) begins.1 ∙ events-append v.me first begins.0
          ∙ ap (λ (l : List Step). events_of v.me first ++ l) none ∙ append-nil _);
      net = λ k f there.
          subst (λ (l : List Step). IsInNet (run v.opening l) f) (sym begins.1)
          (net-more v.opening first opens begins.0 f (early.net k f there));
    }

-- ---- All nodes

answered : (b : Bool) (r : Result (World × Outcome) Refusal)
    → is_eventful (outcome_of (cond b r (Err NoNode))) ≡ true → b ≡ true
answered true r is = refl
answered false r is = absurd (false≢true is)

both-first : (a b : Bool) → (a && b) ≡ true → a ≡ true
both-first true b is = refl
both-first false b is = absurd (false≢true is)

both-second : (a b : Bool) → (a && b) ≡ true → b ≡ true
both-second true b is = is
both-second false b is = absurd (false≢true is)

-- an event is one of a node of the space
event-inside : (w : World) (s : Step) → is_event w s ≡ true → node_of s < length w.current
unfolding take_step
event-inside w (step.Act i e) is = ltb-true i (length w.current) (answered (is_node w i) _ is)
event-inside w (step.Save i) is = ltb-true i (length w.current) (answered (is_node w i) _ is)
event-inside w (step.Restart i) is = ltb-true i (length w.current) (answered (is_node w i) _ is)
event-inside w (step.Deliver from to number) is =
    ltb-true to (length w.current)
    (both-second (is_node w from) (is_node w to) (answered (is_node w from && is_node w to) _ is))
event-inside w (step.Hand from to) is =
    ltb-true from (length w.current)
    (both-first (is_node w from) (is_node w to) (answered (is_node w from && is_node w to) _ is))

module _ (P : Step → Type 0) where
  own-first : (b : Bool) (s : Step) (ss : List Step) → b ≡ true
      → AllByRecursion P (cond b (s ∷ ss) ss) → P s
  own-first true s ss is all = all.0
  own-first false s ss is all = absurd (false≢true is)

  later-ones : (b : Bool) (s : Step) (ss : List Step) → AllByRecursion P (cond b (s ∷ ss) ss)
      → AllByRecursion P ss
  later-ones true s ss all = all.1
  later-ones false s ss all = all

  -- what holds of the events of each node holds of all events
  pub all-events : (w : World) (log : List Step) → AreEvents w log
      → ((i : ℕ) → i < length w.current → AllByRecursion P (events_of i log))
      → AllByRecursion P log
  all-events w [] are each = tt
  all-events w (s ∷ ss) are each = (
    own-first (node_of s == node_of s) s (events_of (node_of s) ss) (eq-eqb (node_of s) _ refl)
        (each (node_of s) (event-inside w s are.0)),
    all-events (happens w s) ss are.1 (λ i inside.
        later-ones (node_of s == i) s (events_of i ss)
        (each i (subst (λ n. i < n) (run-count w (s ∷ [])) inside))),
  )
