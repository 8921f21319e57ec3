-- Steps of one node, one after another: what each step ensures for the next.
use Rattle.std.proofs.Common.{◌≡◌, ℕ, ◌<◌, ◌⊎◌, ◌==◌, not, true, false, List, [], ◌∷◌, ◌++◌, get_or, set, refl, sym, ap, ◌∙◌, subst, ⊎_elim, arith, Bool}
use Rattle.std.proofs.lemmas.Bool.{cases_Bool, both_ways}
use Rattle.std.proofs.Math.Path.{fun_ext}
use Rattle.ids.specs.Limits.{Shaped}
use Rattle.ids.specs.declared.names.Ref.{Ref}
use Rattle.msg.specs.declared.body.Message.{Message}
use Rattle.model.specs.State.{Phases, LocalState, NodeState, got_from}
use Rattle.model.specs.Effects.{Work}
use Rattle.model.specs.Shading.{is_open, seen, see_to}
use Rattle.model.specs.Steps.{append_all}
use Rattle.model.specs.Cuts.{Cut, taken, IsInFlight, Among, Becomes}
use Rattle.model.proofs.Shading.{see_to-open, see_to-closed}
use Rattle.laws.proofs.Turns.{at_turn, at_becomes, flies}
use Rattle.laws.proofs.Rings.{Counted}
use Rattle.laws.proofs.Invariant.{phases_of, Marking, Safe, Holds, Covered, Inv}
use Rattle.laws.proofs.Inner.{Known, Inner, inner-inv, known-kept, safe-kept, same-phases}
use Rattle.laws.proofs.Meets.{Meeting, meet-holds, shade-inner, vouch-inner}

-- a node after some work
abbrev pub worked : NodeState → Work → NodeState
worked s w = record { local = w.local; sent = append_all s.sent w.sends }

pub append_all-append : (sent : List (List Message)) (xs ys : List (ℕ × Message))
    → append_all sent (xs ++ ys) ≡ append_all (append_all sent xs) ys
append_all-append sent [] ys = refl
append_all-append sent ((to, x) ∷ xs) ys =
    append_all-append (set sent to (get_or sent to [] ++ x ∷ [])) xs ys

-- a step that receives nothing, changes no phase, and keeps the invariant
pub record Moves (shape : Shaped) (c d : Cut) (i : ℕ) : Type 0 where
  pub inv : Inv shape d
  pub known : (r : Ref) → Known c i r → Known d i r
  pub safe : (r : Ref) → Safe c r → Safe d r
  pub covered : Marking (phases_of c 0) → (r : Ref) → Covered c r → Covered d r
  pub phases : phases_of d ≡ phases_of c
  pub flight : (from to place : ℕ) (x : Message) → IsInFlight c from to place x
      → IsInFlight d from to place x
  pub got : (d i).local.got ≡ (c i).local.got

pub inner-moves : {shape : Shaped} {c d : Cut} {i : ℕ} {q : LocalState} {ms : List (ℕ × Message)}
    → Inner shape c d i q ms → q.got ≡ (c i).local.got → Moves shape c d i
inner-moves {c = c} {d = d} {i = i} h got = record {
  inv = inner-inv h;
  known = known-kept h;
  safe = safe-kept h;
  covered = h.cover;
  phases = same-phases h;
  flight = λ from to place x f.
      flies h.turn from to place x f
      (let same : taken d from to ≡ taken c from to =
      at_turn (λ j s. got_from s.local from ≡ taken c from j) h.turn
      (ap (λ (z : List ℕ). get_or z from 0) got) (λ j _. refl) to in
      (let w = f.later in omega (arith, same, w)));
  got = ap (λ (s : NodeState). s.local.got) h.turn.becomes.changed ∙ got;
}

pub moves-through : {shape : Shaped} {c d e : Cut} {i : ℕ} → Moves shape c d i → Moves shape d e i
    → Moves shape c e i
moves-through a b = record {
  inv = b.inv;
  known = λ r k. b.known r (a.known r k);
  safe = λ r k. b.safe r (a.safe r k);
  covered = λ m r k.
      b.covered (subst (λ (z : ℕ → Phases). Marking (z 0)) (sym a.phases) m) r (a.covered m r k);
  phases = b.phases ∙ a.phases;
  flight = λ from to place x f. b.flight from to place x (a.flight from to place x f);
  got = b.got ∙ a.got;
}

-- nothing changes
pub same-cut : {c d : Cut} {i : ℕ} → Becomes c d i (c i) → d ≡ c
same-cut {c = c} b = fun_ext (at_becomes (λ j s. s ≡ c j) b refl (λ j _. refl))

pub moves-none : {shape : Shaped} {c d : Cut} {i : ℕ} → Becomes c d i (c i) → Inv shape c
    → Moves shape c d i
moves-none {shape = shape} {c = c} {d = d} {i = i} b inv =
    subst (λ (z : Cut). Moves shape c z i) (sym (same-cut b)) (record {
      inv = inv;
      known = λ r k. k;
      safe = λ r k. k;
      covered = λ m r k. k;
      phases = refl;
      flight = λ from to place x f. f;
      got = refl;
    })

-- ---- shading and vouching, whether the node marks or not

-- afterwards the references are known
pub record Met (shape : Shaped) (c d : Cut) (i : ℕ) (rs : List Ref) : Type 0 where
  pub moves : Moves shape c d i
  pub known : (r : Ref) → Among r rs → Known d i r

pub record Shadeable (shape : Shaped) (c : Cut) (i : ℕ) (rs : List Ref) : Type 0 where
  pub inv : Inv shape c
  pub inside : i < shape.nodes
  pub safe : (r : Ref) → Among r rs → Safe c r
  pub quiet : is_open (c i).local ≡ true
      → ((c i).local.heap.grey ≡ [] → (r : Ref) → Among r rs → Holds (c i).local r)
      ⊎ (Counted c × Marking (phases_of c 0))

open-now : {shape : Shaped} {c d : Cut} {i : ℕ} → Moves shape c d i
    → is_open (d i).local ≡ is_open (c i).local
open-now {i = i} m = ap (λ (z : ℕ → Phases). not ((z i).ended == (z i).cycle)) m.phases

-- A node that marks then holds them, and one that doesn't is as before.
see-met : {shape : Shaped} {c d : Cut} {i : ℕ} {rs : List Ref} (due : Bool) → Inv shape c
    → i < shape.nodes → ((r : Ref) → Among r rs → Safe c r)
    → (Meeting shape c i rs → Becomes c d i (worked (c i) (seen due rs (c i).local))
    → Inner shape c d i (seen due rs (c i).local).local (seen due rs (c i).local).sends)
    → Becomes c d i (worked (c i) (see_to due rs (c i).local)) → Met shape c d i rs
see-met {shape = shape} {c = c} {d = d} {i = i} {rs = rs} due inv inside safe inner becomes =
    let p : LocalState = (c i).local in
    ⊎_elim {C = Met shape c d i rs}
    (λ opened.
    let meeting : Meeting shape c i rs =
    record { inv = inv; inside = inside; opened = opened; safe = safe } in
    let became : Becomes c d i (worked (c i) (seen due rs p)) =
    subst (λ (z : Work). Becomes c d i (worked (c i) z)) (see_to-open due rs p opened) becomes in
    let moves : Moves shape c d i = inner-moves (inner meeting became) refl in
    record {
      moves = moves;
      known = λ r a. record {
        safe = moves.safe r (safe r a);
        held = λ _.
            subst (λ (z : NodeState). Holds z.local r) (sym became.changed)
            (meet-holds meeting {q = (seen due rs p).local} refl
            (record { shape = refl; own = refl; phases = refl; token = refl }) refl r a);
      };
    })
    (λ shut.
    let moves : Moves shape c d i =
    moves-none
    (subst (λ (z : Work). Becomes c d i (worked (c i) z)) (see_to-closed due rs p shut) becomes)
    inv in
    record {
      moves = moves;
      known = λ r a. record {
        safe = moves.safe r (safe r a);
        held = λ opened. absurd (both_ways _ shut (sym (open-now moves) ∙ opened));
      };
    })
    (cases_Bool (is_open p))

pub shade-met : {shape : Shaped} {c d : Cut} {i : ℕ} {rs : List Ref} → Shadeable shape c i rs
    → Becomes c d i (worked (c i) (see_to true rs (c i).local)) → Met shape c d i rs
shade-met s becomes =
    see-met true s.inv s.inside s.safe
    (λ meeting became.
    shade-inner (record { meeting = meeting; quiet = s.quiet meeting.opened }) became) becomes

pub record Vouchable (shape : Shaped) (c : Cut) (i : ℕ) (rs : List Ref) : Type 0 where
  pub inv : Inv shape c
  pub inside : i < shape.nodes
  pub safe : (r : Ref) → Among r rs → Safe c r
  pub covered : Marking (phases_of c 0) → is_open (c i).local ≡ true → (r : Ref) → Among r rs
      → Covered c r

pub vouch-met : {shape : Shaped} {c d : Cut} {i : ℕ} {rs : List Ref} → Vouchable shape c i rs
    → Becomes c d i (worked (c i) (see_to false rs (c i).local)) → Met shape c d i rs
vouch-met s becomes =
    see-met false s.inv s.inside s.safe
    (λ meeting became.
    vouch-inner (record { meeting = meeting; covered = λ m. s.covered m meeting.opened }) became)
    becomes
