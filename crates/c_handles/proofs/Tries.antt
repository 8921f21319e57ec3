-- Tries of one task, and parts one after the other.
use Rattle.std.proofs.Common.{◌≡◌, ℕ, zero, suc, ◌+◌, ◌-◌, ◌<◌, ◌≤◌, List, [], ◌∷◌, ◌++◌, Result, Ok, Err, refl, subst, ap, arith}
use Rattle.model.specs.declared.event.Answer.{Answer}
use Rattle.c_values.specs.declared.fault.Fault.{Fault}
use Rattle.c_handles.specs.declared.working.Task.{Task}
use Rattle.c_handles.specs.Work.{At, Follows, Part, Plays, Repeats, at, counted, ending, turn_of, turns, turns_from}

-- What the tries that are left do from here, after `n` of them, all do from the start.
pub record Led {X : Type 0} (Does : Task → X → X → Result Answer Fault → Type 0) (t : Task)
    (most n : ℕ) (start now : At X) : Type 0 where
  pub on : (new : At X) (s : Result (Unit {0}) Fault) → Repeats Does t (most - n) now new s
      → Repeats Does t most start new s

module _ {X : Type 0} {Does : Task → X → X → Result Answer Fault → Type 0} {t : Task} {most n : ℕ}
    {start now : At X} where
  -- one more try, with what follows it
  once_more : Led Does t most n start now → n < most → (new : At X) (s : Result (Unit {0}) Fault)
      (x : X) (r : Result Answer Fault) → Does t now.it x r
      → Follows (λ then. Repeats Does t (most - (n + 1)) then new s) t x now.work new s r
      → Repeats Does t most start new s
  once_more led less new s x r does follows =
      led.on new s (subst (λ k. Repeats Does t k now new s)
      {x = suc (most - (n + 1))} {y = most - n} (omega (arith, less)) (x, r, does, follows))

  pub led_done : Led Does t most n start now → n < most → (x : X) (a : Answer)
      → Does t now.it x (Ok a) → Led Does t most (n + 1) start (at x (counted t a now.work))
  led_done led less x a does = record {
    on = λ new s rest. once_more led less new s x (Ok a) does rest;
  }

  pub led_failed : Led Does t most n start now → n < most → (x : X) (f : Fault)
      → Does t now.it x (Err f) → Repeats Does t most start (at x now.work) (ending f)
  led_failed led less x f does =
      once_more led less (at x now.work) (ending f) x (Err f) does (refl, refl)

  pub led_all : Led Does t most n start now → most ≤ n → Repeats Does t most start now (Ok tt)
  led_all led all =
      led.on now (Ok tt) (subst (λ k. Repeats Does t k now now (Ok tt))
      {x = zero} {y = most - n} (omega (arith, all)) (refl, refl))

-- ---- Parts

-- What the parts that are left do from here, all of them do from the start.
abbrev pub LedBy : {X : Type 0} → (Task → X → X → Result Answer Fault → Type 0) → List Part
    → List Part → At X → At X → Type 0
LedBy {X} Does all left start now =
    (new : At X) (s : Result (Unit {0}) Fault) → Plays Does left now new s
    → Plays Does all start new s

module _ {X : Type 0} (Does : Task → X → X → Result Answer Fault → Type 0) where
  -- the first part was done, or a fault ended it
  pub led_part : (p : Part) (ps : List Part) (old mid : At X)
      → Repeats Does p.task p.most old mid (Ok tt) → LedBy Does (p ∷ ps) ps old mid
  led_part p ps old mid tries new s rest = (mid, Ok tt, tries, rest)

  pub part_ended : (p : Part) (ps : List Part) (old new : At X) (f : Fault)
      → Repeats Does p.task p.most old new (Err f) → Plays Does (p ∷ ps) old new (Err f)
  part_ended p ps old new f tries = (new, Err f, tries, (refl, refl))

  -- the last part
  pub last_part : (p : Part) (old new : At X) (s : Result (Unit {0}) Fault)
      → Repeats Does p.task p.most old new s → Plays Does (p ∷ []) old new s
  last_part p old new (Ok u) tries = (new, Ok tt, tries, (refl, refl))
  last_part p old new (Err f) tries = (new, Err f, tries, (refl, refl))

  -- the first parts were done, or a fault ended one of them
  pub led_on : (ps qs : List Part) (old mid : At X) → Plays Does ps old mid (Ok tt)
      → LedBy Does (ps ++ qs) qs old mid
  led_on [] qs old mid first new s rest = subst (λ now. Plays Does qs now new s) first.0 rest
  led_on (p ∷ ps) qs old mid (now, Ok u, tries, more) new s rest =
      (now, Ok tt, tries, led_on ps qs now mid more new s rest)
  led_on (p ∷ ps) qs old mid (now, Err f, tries, more) new s rest = absurd cc

  pub plays_ended : (ps qs : List Part) (old new : At X) (f : Fault)
      → Plays Does ps old new (Err f) → Plays Does (ps ++ qs) old new (Err f)
  plays_ended [] qs old new f first = absurd cc
  plays_ended (p ∷ ps) qs old new f (now, Ok u, tries, more) =
      (now, Ok tt, tries, plays_ended ps qs now new f more)
  plays_ended (p ∷ ps) qs old new f (now, Err g, tries, more) = (now, Err g, tries, more)

-- ---- Nodes in turn

-- what the nodes from this one on do from here, all of them do from the start
pub record InTurn {X : Type 0} (Does : Task → X → X → Result Answer Fault → Type 0)
    (own nodes from : ℕ) (start now : At X) : Type 0 where
  pub on : LedBy Does (turns own nodes) (turns_from own from (nodes - from)) start now

one-less : (own from nodes : ℕ) → from < nodes
    → turns_from own from (suc (nodes - (from + 1))) ≡ turns_from own from (nodes - from)
one-less own from nodes less =
    ap (turns_from own from) {x = suc (nodes - (from + 1))} {y = nodes - from} (omega (arith, less))

module _ {X : Type 0} {Does : Task → X → X → Result Answer Fault → Type 0} {own nodes from : ℕ}
    {start now : At X} where
  pub turn_done : InTurn Does own nodes from start now → from < nodes → (mid : At X)
      → Plays Does (turn_of own from) now mid (Ok tt)
      → InTurn Does own nodes (from + 1) start mid
  turn_done led less mid first = record {
    on = λ new s rest.
        led.on new s (subst (λ ps. Plays Does ps now new s) (one-less own from nodes less)
        (led_on Does (turn_of own from) (turns_from own (from + 1) (nodes - (from + 1))) now mid
        first new s rest));
  }

  pub turn_ended : InTurn Does own nodes from start now → from < nodes → (new : At X) (f : Fault)
      → Plays Does (turn_of own from) now new (Err f)
      → Plays Does (turns own nodes) start new (Err f)
  turn_ended led less new f first =
      led.on new (Err f) (subst (λ ps. Plays Does ps now new (Err f)) (one-less own from nodes less)
      (plays_ended Does (turn_of own from) (turns_from own (from + 1) (nodes - (from + 1))) now new
      f first))

  pub turns_done : InTurn Does own nodes from start now → nodes ≤ from
      → Plays Does (turns own nodes) start now (Ok tt)
  turns_done led all =
      led.on now (Ok tt) (subst (λ n. Plays Does (turns_from own from n) now now (Ok tt))
      {x = zero} {y = nodes - from} (omega (arith, all)) (refl, refl))
