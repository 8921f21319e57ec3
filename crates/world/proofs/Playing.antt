-- Playing the collector's strategy, move by move.
use Rattle.std.proofs.Common.{◌≡◌, ◌≢◌, ℕ, zero, suc, ◌+◌, ◌<◌, ◌≤◌, inl, inr, true, false, Bool, List, [], ◌∷◌, ◌++◌, length, take, drop, cond, nat_lt, Result, Ok, Err, IsOk, refl, ap, sym, ◌∙◌, subst, arith, ⊎_elim, append-nil, take-append-drop, get_or}
use Rattle.std.specs.Prelude.{◌↔◌, IfOk, IfErr}
use Rattle.std.specs.List.{AllByRecursion}
use Rattle.std.proofs.lemmas.Bool.{cases_Bool, cases_eq, cases_lt, false≢true}
use Rattle.std.proofs.lemmas.List.{take_more, drop_more}
use Rattle.std.proofs.lemmas.List.FromFn.{length-map-range_with_len}
use Rattle.ids.specs.Limits.{Shaped, IsShape}
use Rattle.ids.specs.declared.refusal.Refusal.{Refusal}
use Rattle.ids.specs.declared.refusal.Refusal.TheVariants.{Memory, ImageTooLarge}
use Rattle.ids.specs.declared.limits.TheConstants.{GREATEST_NUMBER}
use Rattle.model.specs.declared.event.Event.TheVariants as event
use Rattle.model.specs.declared.step.Step.{Step}
use Rattle.model.specs.declared.step.Step.TheVariants as step
use Rattle.model.specs.declared.step.Outcome.{Outcome}
use Rattle.model.specs.State.{LocalState, new_node}
use Rattle.model.specs.Cuts.{Cut}
use Rattle.model.specs.Shading.{is_open}
use Rattle.model.proofs.References.{all-append}
use Rattle.model.specs.World.{World, new_world, FollowsStep, take_step, outcome_of, world_after, run, outcomes}
use Rattle.laws.specs.Strategy.{now, least, is_collectors, is_grey, is_unswept, has_token, has_waiting, Move, Do, bring_move, mark_move, sweep_move, own_move, next_move, next_steps, steps_of, played, play}
use Rattle.laws.specs.Progress.{IsSwept, Comes, current_cycle}
use Rattle.laws.specs.Bounds.{cycle_moves}
use Rattle.laws.proofs.progress.Theorems.{cycle-can-end, garbage-can-go, gone, played-stays}
use Rattle.laws.proofs.KeepsSent.{run-count}
use Rattle.laws.proofs.progress.Paths.{run-append, outcomes-append}
use Rattle.world.specs.Sites.{SiteView}
use Rattle.world.specs.Shows.{HasTooLarge, SavesTooLarge}
use Rattle.world.specs.Spaces.{SpaceView, ShowsSpace, FollowsSpace}
use Rattle.world.specs.Collected.{IsOfCode, BreaksOff, TakesAll, Collects, StopsShort, PlaysUntil, CanFinish, CanCollect, HasCollected, ImagesFit}
use Rattle.world.specs.Answered.{is_taken}
use Rattle.world.specs.Moves.{local_at}
use Rattle.world.proofs.Moves.{local-shown}
use Rattle.model.proofs.Refusals.{refused-as}
use Rattle.world.proofs.Refusals.{step-first}
use Rattle.world.proofs.Answers.{not-memory, not-large}
use Rattle.world.proofs.Plays.{met-same}

-- ---- one more move

pub play-more : (n moves : ℕ) (w : World)
    → play n (suc moves) w ≡ run (play n moves w) (next_steps n (play n moves w))
play-more n zero w = ap (run w) (append-nil (next_steps n w))
play-more n (suc moves) w =
    let ss : List Step = next_steps n w in
    let v : World = run w ss in
    run-append w ss (played n (suc moves) v)
    ∙ play-more n moves v
    ∙ ap (λ (z : World). run z (next_steps n z)) (sym (run-append w ss (played n moves v)))

all-front : {A : Type 0} (P : A → Type 0) (xs ys : List A) → AllByRecursion P (xs ++ ys)
    → AllByRecursion P xs
all-front P [] ys h = tt
all-front P (x ∷ xs) ys h = (h.0, all-front P xs ys h.1)

all-back : {A : Type 0} (P : A → Type 0) (xs ys : List A) → AllByRecursion P (xs ++ ys)
    → AllByRecursion P ys
all-back P [] ys h = h
all-back P (x ∷ xs) ys h = all-back P xs ys h.1

-- the steps of the first k moves are answered
abbrev Answers : ℕ → ℕ → World → Type 0
Answers n k w = AllByRecursion IsOk (outcomes w (played n k w))

first-and-rest : (n k : ℕ) (w : World) → Answers n (suc k) w
    → AllByRecursion IsOk
    (outcomes w (next_steps n w)
    ++ outcomes (run w (next_steps n w)) (played n k (run w (next_steps n w))))
first-and-rest n k w all =
    subst (AllByRecursion IsOk)
    (outcomes-append w (next_steps n w) (played n k (run w (next_steps n w)))) all

-- if the definitions answer the steps of k moves, they answer those of each of them
pub move-answered : (n k moves : ℕ) (w : World) → Answers n k w → moves < k
    → AllByRecursion IsOk (outcomes (play n moves w) (next_steps n (play n moves w)))
move-answered n zero moves w all less = absurd (omega (arith, less))
move-answered n (suc k) zero w all less =
    all-front IsOk (outcomes w (next_steps n w)) _ (first-and-rest n k w all)
move-answered n (suc k) (suc moves) w all less =
    let v : World = run w (next_steps n w) in
    subst (λ (z : World). AllByRecursion IsOk (outcomes z (next_steps n z)))
    (sym (run-append w (next_steps n w) (played n moves v)))
    (move-answered n k moves v
    (all-back IsOk (outcomes w (next_steps n w)) (outcomes v (played n k v))
    (first-and-rest n k w all))
    (omega (arith, less)))

-- ---- a list of steps

lost-is : (e : Refusal) → is_taken (Err e) ≡ false → IsOfCode e
lost-is Memory lost = inl refl
lost-is ImageTooLarge lost = inr refl
lost-is e lost = absurd cc

-- a step that the definitions answer, and the code doesn't
of-code : (w : World) (s : Step) (e : Refusal) (new : SpaceView)
    → FollowsStep ShowsSpace w s (Err e) new → IsOk (outcome_of (take_step w s)) → IsOfCode e
of-code w s e new f ok =
    ⊎_elim {C = IsOfCode e}
    (λ (taken : is_taken (Err e) ≡ true).
    let refused : take_step w s ≡ Err e =
    refused-as (step-first w e (not-large e taken) s f.0)
    (not-memory e taken) in
    let never : IsOk (outcome_of (Err e)) = subst (λ z. IsOk (outcome_of z)) refused ok in
    absurd cc)
    (λ (lost : is_taken (Err e) ≡ false). lost-is e lost)
    (cases_Bool (is_taken (Err e)))

-- what the list of steps says of the one in this place
all-at : {A : Type 0} (P : A → Type 0) (xs : List A) (i : ℕ) (d : A) → AllByRecursion P xs
    → i < length xs → P (get_or xs i d)
all-at P [] i d h less = absurd (omega (arith, less))
all-at P (x ∷ xs) zero d h less = h.0
all-at P (x ∷ xs) (suc i) d h less = all-at P xs i d h.1 (omega (arith, less))

-- The steps of the list before this place were taken, and led to the space `old`. The step in this
-- place, which is next, is the collector's.
pub record IsAtStep (w : World) (old : SpaceView) (steps : List Step) (place : ℕ) (s : Step)
    : Type 0 where
  pub less : place < length steps
  pub item : s ≡ get_or steps place s
  pub own : is_collectors s ≡ true
  pub shown : ShowsSpace old (run w (take place steps))

pub at-step : {old : SpaceView} (w : World) (steps : List Step) (place : ℕ) (s : Step)
    → AllByRecursion (λ z. is_collectors z ≡ true) steps → place < length steps
    → s ≡ get_or steps place s → ShowsSpace old (run w (take place steps))
    → IsAtStep w old steps place s
at-step w steps place s all less item shown = record {
  less = less;
  item = item;
  own = subst (λ (z : Step). is_collectors z ≡ true) (sym item)
      (all-at (λ z. is_collectors z ≡ true) steps place s all less);
  shown = shown;
}

pub taken-more : {w : World} {old : SpaceView} {steps : List Step} {place : ℕ} {s : Step}
    (new : SpaceView) (o : Outcome) → IsAtStep w old steps place s
    → FollowsSpace (Ok o) old new s → ShowsSpace new (run w (take (place + 1) steps))
taken-more {w} {old} {steps} {place} {s} new o h follows =
    let v : World = run w (take place steps) in
    let f : FollowsStep ShowsSpace v s (Ok o) new =
    subst (λ (z : Step). FollowsStep ShowsSpace v z (Ok o) new) (met-same old.early s h.own)
    (follows v h.shown) in
    subst (ShowsSpace new)
    (sym
    (ap (run w)
    (take_more steps place s h.less ∙ ap (λ (z : Step). take place steps ++ z ∷ []) (sym h.item))
    ∙ run-append w (take place steps) (s ∷ [])
    ∙ ap (world_after v) f.1))
    f.2

pub broken : {w : World} {old : SpaceView} {steps : List Step} {place : ℕ} {s : Step}
    (new : SpaceView) (e : Refusal) → IsAtStep w old steps place s
    → FollowsSpace (Err e) old new s → BreaksOff e w new steps
broken {w} {old} {steps} {place} {s} new e h follows =
    let v : World = run w (take place steps) in
    let f : FollowsStep ShowsSpace v s (Err e) new =
    subst (λ (z : Step). FollowsStep ShowsSpace v z (Err e) new) (met-same old.early s h.own)
    (follows v h.shown) in
    record {
      done = take place steps;
      rest = drop place steps;
      parts = sym (take-append-drop place steps);
      shown = f.1;
      stop = record {
        step = s;
        later = drop (place + 1) steps;
        first = drop_more steps place s h.less
            ∙ ap (λ (z : Step). z ∷ drop (place + 1) steps) (sym h.item);
        refused = f.0;
      };
      cause = λ oks.
          let front : AllByRecursion IsOk (outcomes w (take place steps ++ drop place steps)) =
          subst (λ (z : List Step). AllByRecursion IsOk (outcomes w z))
          (sym (take-append-drop place steps)) oks in
          let back : AllByRecursion IsOk (outcomes v (drop place steps)) =
          all-back IsOk (outcomes w (take place steps)) (outcomes v (drop place steps))
          (subst (AllByRecursion IsOk) (outcomes-append w (take place steps) (drop place steps))
          front) in
          let ok : IsOk (outcome_of (take_step v s)) =
          (subst (λ (z : List Step). AllByRecursion IsOk (outcomes v z))
          (drop_more steps place s h.less
          ∙ ap (λ (z : Step). z ∷ drop (place + 1) steps) (sym h.item))
          back).0 in
          of-code v s e new f ok;
    }

-- A step that fails with `ImageTooLarge` saves a node whose image is too large.
saved-large : (sites : List SiteView) (s : Step) → SavesTooLarge sites s → HasTooLarge sites
saved-large sites (step.Save i) h = record { node = i; inside = h.0; too_large = h.1 }
saved-large sites s h = absurd h

pub not-saved : {old new : List SiteView} (s : Step) (e : Refusal)
    → ◌≡◌ {A = Result Outcome Refusal} (Err e) (Err ImageTooLarge) ↔ SavesTooLarge old s
    → new ≡ old → e ≡ ImageTooLarge → HasTooLarge new
not-saved {old = old} s e is same large =
    subst HasTooLarge (sym same) (saved-large old s (is.0 (ap Err large)))

-- ---- moves up to the end of a cycle

-- What is known after some moves: the space that they lead to, and that no space before it is the
-- one that is looked for.
pub record Played (n cycle moves : ℕ) (w : World) (new : SpaceView) : Type 0 where
  pub shown : ShowsSpace new (play n moves w)
  pub before : (k : ℕ) → k < moves → IsSwept n cycle (now (play n k w)) → ⊥

not-yet : {n cycle moves : ℕ} {w : World} {old : SpaceView} → Played n cycle moves w old
    → (IsSwept n cycle (now (play n moves w)) → ⊥) → (k : ℕ) → k < suc moves
    → IsSwept n cycle (now (play n k w)) → ⊥
not-yet {n = n} {cycle = cycle} {moves = moves} {w = w} p here k less is =
    ⊎_elim {C = ⊥} (λ (same : k ≡ moves).
    here (subst (λ (z : ℕ). IsSwept n cycle (now (play n z w))) same is))
    (λ (apart : k ≢ moves). p.before k (omega (arith, less, apart)) is)
    (cases_eq k moves)

pub played-more : {n cycle moves : ℕ} {w : World} {old : SpaceView} (new : SpaceView)
    → Played n cycle moves w old → (IsSwept n cycle (now (play n moves w)) → ⊥)
    → ShowsSpace new (run (play n moves w) (next_steps n (play n moves w)))
    → Played n cycle (suc moves) w new
played-more {n = n} {moves = moves} {w = w} new p here shown = record {
  shown = subst (ShowsSpace new) (sym (play-more n moves w)) shown;
  before = not-yet p here;
}

pub stops-short : {n cycle moves : ℕ} {w : World} {old : SpaceView} (e : Refusal)
    (new : SpaceView) → moves < GREATEST_NUMBER → Played n cycle moves w old
    → (IsSwept n cycle (now (play n moves w)) → ⊥)
    → BreaksOff e (play n moves w) new (next_steps n (play n moves w))
    → StopsShort n cycle e w new
stops-short {moves = moves} e new less p here b = record {
  moves = moves;
  few = omega (arith, less);
  before = λ k le below. not-yet p here k (omega (arith, le));
  done = b.done;
  rest = b.rest;
  parts = b.parts;
  shown = b.shown;
  stop = λ below. b.stop;
  spent = λ same. absurd (omega (arith, less, same));
  cause = λ below. b.cause;
}

-- ---- what the code knows at the end of a move

same-width : {w : World} {old new : SpaceView} (ss : List Step) → ShowsSpace old w
    → ShowsSpace new (run w ss) → length new.sites ≡ length old.sites
same-width {w = w} ss before after =
    after.world.width ∙ run-count w ss ∙ sym before.world.width

-- what the code says of each space that it shows: whether it is the one that is looked for
abbrev pub Finds : Bool → SpaceView → ℕ → Type 0
Finds found n cycle =
    (v : World) → ShowsSpace n v
    → (found ≡ true → IsSwept (length n.sites) cycle (now v))
    × (IsSwept (length n.sites) cycle (now v) → found ≡ true)

pub found-here : {cycle moves : ℕ} {w : World} {old new : SpaceView} → ShowsSpace old w
    → Played (length old.sites) cycle moves w new → Finds true new cycle
    → Collects (length old.sites) cycle moves w new
found-here {cycle = cycle} {moves = moves} {w = w} {old = old} {new = new} shown p finds =
    let n : ℕ = length old.sites in
    record {
      shown = p.shown;
      swept = subst (λ (z : ℕ). IsSwept z cycle (now (play n moves w)))
          (same-width (played n moves w) shown p.shown) ((finds (play n moves w) p.shown).0 refl);
      first = p.before;
    }

pub not-here : {cycle moves : ℕ} {w : World} {old new : SpaceView} → ShowsSpace old w
    → Played (length old.sites) cycle moves w new → Finds false new cycle
    → IsSwept (length old.sites) cycle (now (play (length old.sites) moves w)) → ⊥
not-here {cycle = cycle} {moves = moves} {w = w} {old = old} {new = new} shown p finds is =
    let n : ℕ = length old.sites in
    false≢true
    ((finds (play n moves w) p.shown).1
    (subst (λ (z : ℕ). IsSwept z cycle (now (play n moves w)))
    (sym (same-width (played n moves w) shown p.shown)) is))

-- what the code's next move leaves
abbrev pub Plays : Result Unit Refusal → SpaceView → SpaceView → Type 0
Plays result old new =
    (v : World) → ShowsSpace old v → TakesAll result v new (next_steps (length old.sites) v)

pub moves-on : {cycle moves : ℕ} {w : World} {old here new : SpaceView} (u : Unit)
    → ShowsSpace old w → Played (length old.sites) cycle moves w here → Finds false here cycle
    → Plays (Ok u) here new → Played (length old.sites) cycle (moves + 1) w new
moves-on {cycle = cycle} {moves = moves} {w = w} {old = old} {here = here} {new = new} u shown p
    finds plays =
    let n : ℕ = length old.sites in
    let v : World = play n moves w in
    subst (λ (z : ℕ). Played n cycle z w new) (omega arith)
    (played-more new p (not-here shown p finds)
    (subst (λ (z : ℕ). ShowsSpace new (run v (next_steps z v)))
    (same-width (played n moves w) shown p.shown) (plays v p.shown)))

pub breaks-off : {cycle moves : ℕ} {w : World} {old here new : SpaceView} (e : Refusal)
    → ShowsSpace old w → moves < GREATEST_NUMBER → Played (length old.sites) cycle moves w here
    → Finds false here cycle → Plays (Err e) here new
    → StopsShort (length old.sites) cycle e w new
breaks-off {cycle = cycle} {moves = moves} {w = w} {old = old} {here = here} {new = new} e shown
    less p finds plays =
    let n : ℕ = length old.sites in
    let v : World = play n moves w in
    stops-short e new less p (not-here shown p finds)
    (subst (λ (z : ℕ). BreaksOff e v new (next_steps z v))
    (same-width (played n moves w) shown p.shown) (plays v p.shown))

-- ---- by the theorems

-- moves that were played to the end are as few as it takes
few-moves : {n cycle most k : ℕ} {w : World} {new : SpaceView} {P : World → Type 0}
    → Collects n cycle k w new → (c : Comes n most w P)
    → IsSwept n cycle (now (play n c.moves w)) → k ≤ most
few-moves {n = n} {cycle = cycle} {most = most} {k = k} {w = w} h c is =
    ⊎_elim {C = k ≤ most} (λ (less : c.moves < k). absurd (h.first c.moves less is))
    (λ (le : k ≤ c.moves). omega (arith, le, c.few))
    (cases_lt c.moves k)

code-fails : {n cycle most : ℕ} {e : Refusal} {w : World} {new : SpaceView} {P : World → Type 0}
    → StopsShort n cycle e w new → (c : Comes n most w P) → most < GREATEST_NUMBER
    → IsSwept n cycle (now (play n c.moves w)) → IsOfCode e
code-fails {n = n} {cycle = cycle} {most = most} {e = e} {w = w} h c less is =
    ⊎_elim {C = IsOfCode e}
    (λ (below : h.moves < c.moves).
    h.cause (omega (arith, below, c.few, less))
    (move-answered n c.moves h.moves w c.played.answered below))
    (λ (le : c.moves ≤ h.moves). absurd (h.before c.moves le (omega (arith, c.few, less)) is))
    (cases_lt h.moves c.moves)

-- ---- the two public calls

pub shape-width : (shape : Shaped) (steps : List Step) {old : SpaceView}
    → ShowsSpace old (run (new_world shape) steps) → length old.sites ≡ shape.nodes
shape-width shape steps shown =
    shown.world.width ∙ run-count (new_world shape) steps
    ∙ length-map-range_with_len (new_node shape) 0 shape.nodes

-- what a call that plays until the cycle of this number comes to
abbrev pub PlaysTo : Result ℕ Refusal → SpaceView → SpaceView → (World → ℕ) → Type 0
PlaysTo result old new cycle =
    (w : World) → ShowsSpace old w → PlaysUntil result (length old.sites) (cycle w) w new

pub from-cycle : (result : Result ℕ Refusal) (old new : SpaceView) (cycle : ℕ)
    → cycle ≡ (local_at old.sites 0).phases.cycle → PlaysTo result old new (λ w. cycle)
    → PlaysTo result old new current_cycle
from-cycle result old new cycle is plays w shown =
    subst (λ (k : ℕ). PlaysUntil result (length old.sites) k w new)
    (is ∙ ap (λ (p : LocalState). p.phases.cycle) (local-shown shown.world 0)) (plays w shown)

pub after-cycle : (result : Result ℕ Refusal) (old new : SpaceView) (cycle : ℕ)
    → cycle ≡ (local_at old.sites 0).phases.cycle → PlaysTo result old new (λ w. cycle + 1)
    → PlaysTo result old new (λ w. current_cycle w + 1)
after-cycle result old new cycle is plays w shown =
    subst (λ (k : ℕ). PlaysUntil result (length old.sites) (k + 1) w new)
    (is ∙ ap (λ (p : LocalState). p.phases.cycle) (local-shown shown.world 0)) (plays w shown)

pub finishes : {old : SpaceView} (result : Result ℕ Refusal) (new : SpaceView)
    → PlaysTo result old new current_cycle → (shape : Shaped) → IsShape shape
    → (steps : List Step) → ShowsSpace old (run (new_world shape) steps)
    → CanFinish shape.nodes (run (new_world shape) steps)
    → IfOk result (λ k. k ≤ cycle_moves shape.nodes (now (run (new_world shape) steps)))
    × IfErr result IsOfCode
finishes (Ok k) new plays shape limits steps shown room =
    let w : World = run (new_world shape) steps in
    let c = cycle-can-end shape limits steps room in
    let h : Collects shape.nodes (current_cycle w) k w new =
    subst (λ (z : ℕ). Collects z (current_cycle w) k w new) (shape-width shape steps shown)
    (plays w shown) in
    (few-moves h c c.holds, tt)
finishes (Err e) new plays shape limits steps shown room =
    let w : World = run (new_world shape) steps in
    let c = cycle-can-end shape limits steps room in
    let h : StopsShort shape.nodes (current_cycle w) e w new =
    subst (λ (z : ℕ). StopsShort z (current_cycle w) e w new) (shape-width shape steps shown)
    (plays w shown) in
    (tt, code-fails h c (omega (arith, room 0 0, limits.least_nodes)) c.holds)

-- ---- the strategy's steps are the collector's

abbrev AreCollectors : List Step → Type 0
AreCollectors steps = AllByRecursion (λ s. is_collectors s ≡ true) steps

either-collects : (c : Cut) (b : Bool) (x y : Move) → AreCollectors (steps_of c x)
    → AreCollectors (steps_of c y) → AreCollectors (steps_of c (cond b x y))
either-collects c true x y first second = first
either-collects c false x y first second = second

move-collects : (n : ℕ) (c : Cut) → AreCollectors (steps_of c (next_move n c))
move-collects n c =
    let from = least n (has_waiting n c) in
    let grey = least n (is_grey c) in
    let unswept = least n (is_unswept c) in
    let slots = length (c unswept).local.heap.slots in
    either-collects c (nat_lt from n) (bring_move n c from) (own_move n c)
    (refl, (refl, (refl, (refl, tt))))
    (either-collects c (is_open (c 0).local) (mark_move n c grey) (sweep_move n c unswept)
    (either-collects c (nat_lt grey n) (Do grey event.Scan) (Do (least n (has_token c)) event.Pass)
    (refl, tt) (refl, tt))
    (either-collects c (nat_lt unswept n) (Do unswept (event.Sweep slots)) (Do 0 event.Begin)
    (refl, tt) (refl, tt)))

played-collects : (n k : ℕ) (w : World) → AreCollectors (played n k w)
played-collects n zero w = tt
played-collects n (suc k) w =
    all-append (λ s. is_collectors s ≡ true) (next_steps n w)
    (played n k (run w (next_steps n w)))
    (move-collects n (now w)) (played-collects n k (run w (next_steps n w)))

pub collects : {old : SpaceView} (result : Result ℕ Refusal) (new : SpaceView)
    → PlaysTo result old new (λ w. current_cycle w + 1) → (shape : Shaped) → IsShape shape
    → (steps : List Step) → ShowsSpace old (run (new_world shape) steps)
    → CanCollect shape.nodes (run (new_world shape) steps)
    → IfOk result (λ k. HasCollected shape.nodes k (run (new_world shape) steps))
    × IfErr result IsOfCode
collects (Ok k) new plays shape limits steps shown can =
    let w : World = run (new_world shape) steps in
    let c = garbage-can-go shape limits steps can.cycle can.room in
    let h : Collects shape.nodes (current_cycle w + 1) k w new =
    subst (λ (z : ℕ). Collects z (current_cycle w + 1) k w new) (shape-width shape steps shown)
    (plays w shown) in (
      record {
        few = few-moves h c c.holds.0;
        gone = gone shape limits steps (played shape.nodes k w) (current_cycle w + 1)
            (omega arith) h.swept (played-stays shape.nodes k w) (played-collects shape.nodes k w);
      },
      tt,
    )
collects (Err e) new plays shape limits steps shown can =
    let w : World = run (new_world shape) steps in
    let c = garbage-can-go shape limits steps can.cycle can.room in
    let h : StopsShort shape.nodes (current_cycle w + 1) e w new =
    subst (λ (z : ℕ). StopsShort z (current_cycle w + 1) e w new) (shape-width shape steps shown)
    (plays w shown) in
    (tt, code-fails h c (omega (arith, can.room 0 0, limits.least_nodes)) c.holds.0)

-- if all images fit, nothing but memory fails
pub all-fit : {w : World} (n cycle : ℕ) (result : Result ℕ Refusal) (new : SpaceView)
    → PlaysUntil result n cycle w new → IfErr result IsOfCode
    → IfErr result (λ e. e ≡ ImageTooLarge → HasTooLarge new.sites) → ImagesFit n w
    → IfErr result (λ e. e ≡ Memory)
all-fit n cycle (Ok k) new h code large fit = tt
all-fit n cycle (Err e) new h code large fit =
    ⊎_elim {C = e ≡ Memory} (λ memory. memory)
    (λ image. absurd (fit h.moves h.done new h.shown (large image))) code
