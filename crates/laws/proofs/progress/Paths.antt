-- Moves one after another: what a search for a space by moves needs of each move.
use Rattle.std.proofs.Common.{◌≡◌, ℕ, zero, suc, ◌+◌, ◌<◌, ◌≤◌, ◌⊎◌, true, List, [], ◌∷◌, ◌++◌, length, Result, Ok, IsOk, refl, sym, ap, ◌∙◌, subst, ⊎_elim, arith, length-append}
use Rattle.std.specs.List.{AllByRecursion}
use Rattle.ids.specs.declared.refusal.Refusal.{Refusal}
use Rattle.model.specs.declared.step.Step.{Step}
use Rattle.model.specs.declared.step.Outcome.{Outcome}
use Rattle.model.proofs.References.{all-append}
use Rattle.model.specs.World.{World, take_step, world_after, happens, run, outcome_of, outcomes}
use Rattle.model.specs.Cuts.{Cut}
use Rattle.laws.specs.Strategy.{now, Move, Bring, Do, steps_of, next_move, next_steps, played, is_collectors}
use Rattle.laws.specs.Progress.{Comes}

-- ---- steps one after another

pub run-append : (w : World) (ss ts : List Step) → run w (ss ++ ts) ≡ run (run w ss) ts
run-append w [] ts = refl
run-append w (s ∷ ss) ts = run-append (happens w s) ss ts

pub outcomes-append : (w : World) (ss ts : List Step)
    → outcomes w (ss ++ ts) ≡ outcomes w ss ++ outcomes (run w ss) ts
outcomes-append w [] ts = refl
outcomes-append w (s ∷ ss) ts =
    ap (λ (z : List (Result Outcome Refusal)). outcome_of (take_step w s) ∷ z)
    (outcomes-append (happens w s) ss ts)

-- these steps of the collector lead there, and none is refused
pub record Goes (w : World) (ss : List Step) (v : World) : Type 0 where
  pub to : run w ss ≡ v
  pub collectors : AllByRecursion (λ s. is_collectors s ≡ true) ss
  pub answered : AllByRecursion IsOk (outcomes w ss)

pub goes-one : (w v : World) (s : Step) (o : Outcome) → take_step w s ≡ Ok (v, o)
    → is_collectors s ≡ true → Goes w (s ∷ []) v
goes-one w v s o e is = record {
  to = ap (world_after w) e;
  collectors = (is, tt);
  answered = (subst (λ z. IsOk (outcome_of z)) (sym e) refl, tt);
}

pub goes-then : {w v u : World} (ss ts : List Step) → Goes w ss v → Goes v ts u
    → Goes w (ss ++ ts) u
goes-then {w = w} ss ts a b = record {
  to = run-append w ss ts ∙ ap (λ (z : World). run z ts) a.to ∙ b.to;
  collectors = all-append (λ s. is_collectors s ≡ true) ss ts a.collectors b.collectors;
  answered =
      subst (λ (z : List (Result Outcome Refusal)). AllByRecursion IsOk z)
      (sym (outcomes-append w ss ts))
      (all-append IsOk (outcomes w ss) (outcomes (run w ss) ts) a.answered
      (subst (λ (z : World). AllByRecursion IsOk (outcomes z ts)) (sym a.to) b.answered));
}

-- a move has at most four steps
steps-few : (c : Cut) (m : Move) → length (steps_of c m) ≤ 4
steps-few c (Bring from to) = omega arith
steps-few c (Do i e) = omega arith

-- ---- a search

-- at most this many moves lead to a space of which this is true
pub data Reaches (n : ℕ) (P : World → Type 0) : ℕ → World → Type 0 where
  here : (most : ℕ) (w : World) → P w → Reaches n P most w
  more : (most : ℕ) (w : World) → Goes w (next_steps n w) (run w (next_steps n w))
      → Reaches n P most (run w (next_steps n w)) → Reaches n P (suc most) w

pub reaches-later : {n : ℕ} {P : World → Type 0} (k l : ℕ) (w : World) → k ≤ l → Reaches n P k w
    → Reaches n P l w
reaches-later k l w le (here k0 w0 p) = here l w p
reaches-later k zero w le (more m w0 g r) = absurd (omega (arith, le))
reaches-later k (suc l) w le (more m w0 g r) =
    more l w g (reaches-later m l _ (let e : m ≤ l = omega (arith, le) in e) r)

pub reaches-then : {n : ℕ} {P Q : World → Type 0} (k l : ℕ) (w : World) → Reaches n P k w
    → ((v : World) → P v → Reaches n Q l v) → Reaches n Q (k + l) w
reaches-then k l w (here k0 w0 p) on =
    reaches-later l (k + l) w (let e : l ≤ k + l = omega arith in e) (on w p)
reaches-then {n = n} {Q = Q} k l w (more m w0 g r) on =
    subst (λ (z : ℕ). Reaches n Q z w) (let e : suc (m + l) ≡ suc m + l = omega arith in e)
    (more (m + l) w g (reaches-then m l _ r on))

pub reaches-as : {n : ℕ} {P Q : World → Type 0} (k : ℕ) (w : World) → ((v : World) → P v → Q v)
    → Reaches n P k w → Reaches n Q k w
reaches-as k w is (here k0 w0 p) = here k w (is w p)
reaches-as k w is (more m w0 g r) = more m w g (reaches-as m _ is r)

-- A budget for moves: what is true of the space and the budget stays true, and each move takes
-- something of the budget.
pub record Onward (n : ℕ) (S : World → ℕ → Type 0) (w : World) (budget : ℕ) : Type 0 where
  pub goes : Goes w (next_steps n w) (run w (next_steps n w))
  pub rest : ℕ
  pub less : rest < budget
  pub then : S (run w (next_steps n w)) rest

abbrev pub Searches : (n : ℕ) → (World → ℕ → Type 0) → (World → Type 0) → Type 0
Searches n S P = (w : World) (budget : ℕ) → S w budget → P w ⊎ Onward n S w budget

search-from : {n : ℕ} {S : World → ℕ → Type 0} {P : World → Type 0} → Searches n S P
    → (fuel : ℕ) (w : World) (budget : ℕ) → budget ≤ fuel → S w budget → Reaches n P budget w
search-from {n = n} {S = S} {P = P} searches zero w budget le s =
    ⊎_elim {C = Reaches n P budget w} (λ p. here budget w p)
    (λ (o : Onward n S w budget). absurd (omega (arith, le, o.less)))
    (searches w budget s)
search-from {n = n} {S = S} {P = P} searches (suc fuel) w budget le s =
    ⊎_elim {C = Reaches n P budget w} (λ p. here budget w p)
    (λ (o : Onward n S w budget).
    reaches-later (suc o.rest) budget w (let e : suc o.rest ≤ budget = omega (arith, o.less) in e)
    (more o.rest w o.goes
    (search-from searches fuel _ o.rest
    (let e : o.rest ≤ fuel = omega (arith, le, o.less) in e) o.then)))
    (searches w budget s)

pub searched : {n : ℕ} {S : World → ℕ → Type 0} {P : World → Type 0} → Searches n S P
    → (w : World) (budget : ℕ) → S w budget → Reaches n P budget w
searched searches w budget s =
    search-from searches budget w budget (let e : budget ≤ budget = omega arith in e) s

-- ---- what was found, as moves that were played

pub comes : {n : ℕ} {P : World → Type 0} (most : ℕ) (w : World) → Reaches n P most w
    → Comes n most w P
comes most w (here m w0 p) = record {
  moves = 0;
  few = omega arith;
  played = record { collectors = tt; answered = tt; few = omega arith };
  holds = p;
}
comes {n = n} {P = P} most w (more m w0 g r) =
    let ss : List Step = next_steps n w in
    let c : Comes n m (run w ss) P = comes m (run w ss) r in
    let ts : List Step = played n c.moves (run w ss) in
    let rest : Goes (run w ss) ts (run (run w ss) ts) =
    record { to = refl; collectors = c.played.collectors; answered = c.played.answered } in
    let all = goes-then ss ts g rest in
    record {
      moves = suc c.moves;
      few = omega (arith, c.few);
      played = record {
        collectors = all.collectors;
        answered = all.answered;
        few =
            (let l : length (ss ++ ts) ≡ length ss + length ts = length-append ss ts in
            omega (arith, steps-few (now w) (next_move n (now w)), c.played.few, l));
      };
      holds = subst P (sym (run-append w ss ts)) c.holds;
    }
