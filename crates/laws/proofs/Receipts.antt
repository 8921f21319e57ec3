-- The invariant after a node has received a message. It joins the message's cycle if it isn't there
-- yet, shades or vouches for the references, does what the body asks for, and counts the message.
use Rattle.std.proofs.Common.{◌≡◌, ◌≢◌, ℕ, ◌+◌, ◌<◌, ◌≤◌, ltb, ltb-true, true, List, [], ◌∷◌, ◌++◌, length, get_or, Option, refl, sym, ap, ◌∙◌, subst, ⊎_elim, inl, inr, arith, Bool}
use Rattle.std.specs.List.{AllByRecursion}
use Rattle.std.proofs.lemmas.Bool.{cases_Bool, eq-eqb, lt-ltb, ltb-false, not_from_true}
use Rattle.ids.specs.Limits.{Shaped}
use Rattle.ids.specs.declared.names.Ref.{Ref}
use Rattle.msg.specs.declared.body.Body.{Body}
use Rattle.msg.specs.declared.body.Body.TheVariants as body
use Rattle.msg.specs.declared.body.Token.{Token}
use Rattle.msg.specs.declared.body.Message.{Message}
use Rattle.model.specs.declared.event.Letter.{Letter}
use Rattle.model.specs.State.{Object, Occupied, Phases, LocalState, NodeState, slot_at, got_from}
use Rattle.model.specs.Heaps.{no_letter, with_place, simple_letter, letters_of}
use Rattle.model.specs.References.{IfAny}
use Rattle.model.specs.Effects.{Work, then}
use Rattle.model.specs.Counting.{is_reference}
use Rattle.model.specs.Shading.{join, joined, see_to, filled}
use Rattle.model.specs.Steps.{carried, count_in, take_carried, take_body, settled, counted}
use Rattle.model.specs.Cuts.{Cut, taken, IsInFlight, Among, Becomes}
use Rattle.model.proofs.Lookups.{at_push}
use Rattle.model.proofs.Shading.{see_to-none}
use Rattle.laws.proofs.Rings.{counted-first}
use Rattle.laws.proofs.Lookups.{all-among}
use Rattle.laws.proofs.Turns.{at_turn, flies}
use Rattle.laws.proofs.Invariant.{phases_of, cycle_of, Marking, Resting, Joined, Safe, Holds, holds_marked, holds_asked, Covered, StampFits, Inv}
use Rattle.laws.proofs.Inner.{Known, known-roots, inner-inv, marking-open, open-joined, mentioned-carried}
use Rattle.laws.proofs.Acting.{with_heap, put, put-here, becomes-put, latest, all-from}
use Rattle.laws.proofs.HeapSteps.{re_rooted}
use Rattle.laws.proofs.Counts.{reference-counts, Kind, mark-kind, reference-kind, Counting, counted_local, count-inner}
use Rattle.laws.proofs.Moves.{worked, Moves, moves-through, Met, Shadeable, shade-met, Vouchable, vouch-met, append_all-append}
use Rattle.laws.proofs.OwnEvents.{roots-moves, rewrite-moves, known-option}
use Rattle.laws.proofs.Joins.{entering, enter-turn, enter-slots, Joining, join-inv}
use Rattle.laws.proofs.Dressing.{Dressing, dress-moves, roots-all}
use Rattle.laws.proofs.Letters.{roots-letters}

-- from the cut before to the one after some steps of the node
pub becomes-from : {c d e : Cut} {i : ℕ} {s t : NodeState} → Becomes c d i s → Becomes c e i t
    → Becomes d e i t
becomes-from a b = record {
  changed = b.changed;
  others = λ j other. b.others j other ∙ sym (a.others j other);
}

-- one step of the node after another
pub becomes-through : {c d e : Cut} {i : ℕ} {s t : NodeState} → Becomes c d i s → Becomes d e i t
    → Becomes c e i t
becomes-through a b = record {
  changed = b.changed;
  others = λ j other. b.others j other ∙ a.others j other;
}

-- ---- a node joins the cycle of a message

-- what joining ensures for the next step
pub record HasJoined (shape : Shaped) (c d : Cut) (i : ℕ) : Type 0 where
  pub inv : Inv shape d
  pub first : phases_of d 0 ≡ phases_of c 0
  pub flight : (from to place : ℕ) (x : Message) → IsInFlight c from to place x
      → IsInFlight d from to place x
  pub got : (d i).local.got ≡ (c i).local.got
  pub reached : cycle_of d i ≡ cycle_of c 0

pub join-step : {shape : Shaped} {c d : Cut} (i : ℕ) → Inv shape c → i < shape.nodes
    → cycle_of c i < cycle_of c 0
    → Becomes c d i (worked (c i) (join (c i).local (cycle_of c 0))) → HasJoined shape c d i
join-step {shape = shape} {c = c} {d = d} i inv inside behind becomes =
    let s : NodeState = c i in
    let n : ℕ = cycle_of c 0 in
    let grey : List ℕ = length s.local.heap.slots ∷ [] in
    let s1 : NodeState =
    record { local = entering s.local n grey s.local.ring.token; sent = s.sent } in
    let c1 : Cut = put c i s1 in
    let b1 = becomes-put c i s1 in
    let other : i ≢ 0 =
    λ e.
    (let same : cycle_of c i ≡ cycle_of c 0 = ap (cycle_of c) e in omega (arith, same, behind)) in
    let marking : Marking (phases_of c 0) =
    ⊎_elim {C = Marking (phases_of c 0)} (λ there. absurd (omega (arith, there, behind))) (λ b. b.0)
    (inv.phased.apart i inside) in
    let joining : Joining shape c c1 i grey = record {
      inv = inv;
      inside = inside;
      other = other;
      marking = marking;
      behind = λ e. omega (arith, e, behind);
      becomes = b1;
    } in
    let first : phases_of c1 0 ≡ phases_of c 0 =
    ap (λ (z : NodeState). z.local.phases) (b1.others 0 (λ e. other (sym e))) in
    let safe : (r : Ref) → Safe c r → Safe c1 r = λ r z. record {
      object = z.object;
      there = enter-slots b1 r.node r.slot ∙ z.there;
      marked = λ rest.
          absurd
          (let w : Resting (phases_of c 0) = subst Resting first rest in
          omega (arith, w, marking));
    } in
    let dressing : Dressing shape c1 d i n s = record {
      inv = join-inv joining;
      inside = inside;
      now = put-here c i s1;
      calm = (inv.tidy i).calm
          (not_from_true _ (eq-eqb _ _
          (⊎_elim {C = s.local.phases.ended ≡ s.local.phases.cycle}
          (λ there. absurd (omega (arith, there, behind)))
          (λ b.
          (let x = inv.phased.swept i in
          let y = inv.phased.ended i in omega (arith, b.1, b.2, x, y)))
          (inv.phased.apart i inside))));
      before = λ e. (let w = inv.phased.ended i in omega (arith, e, w, behind));
      safe = λ r a. safe r (roots-all (Safe c) s.local.heap (inv.closed.roots i) r a);
      becomes = becomes-from b1 becomes;
    } in
    let last : Moves shape c1 d i = dress-moves dressing in
    record {
      inv = last.inv;
      first = ap (λ (z : ℕ → Phases). z 0) last.phases ∙ first;
      flight = λ from to place x f.
          last.flight from to place x
          (flies (enter-turn b1) from to place x f
          (let same : taken c1 from to ≡ taken c from to =
          at_turn (λ l z. got_from z.local from ≡ taken c from l) (enter-turn b1) refl
          (λ l _. refl) to in
          let w = f.later in
          omega (arith, same, w)));
      got =
          last.got
          ∙ ap (λ (z : NodeState). z.local.got) (put-here c i s1);
      reached =
          ap (λ (z : ℕ → Phases). (z i).cycle) last.phases
          ∙ ap (λ (z : NodeState). z.local.phases.cycle) (put-here c i s1);
    }

-- ---- a message with references, or a Mark

-- The node is in the cycle of the message x, or past it; x is the first in flight from node j.
pub record Taking (shape : Shaped) (c : Cut) (i j : ℕ) (x : Message) : Type 0 where
  pub inv : Inv shape c
  pub inside : i < shape.nodes
  pub flight : IsInFlight c j i (taken c j i) x
  pub reached : x.stamp ≤ cycle_of c i

-- after other steps the message is still the first
pub later-taking : {shape : Shaped} {c d : Cut} {i j : ℕ} {x : Message} → Taking shape c i j x
    → Moves shape c d i → Taking shape d i j x
later-taking {c = c} {d = d} {i = i} {j = j} {x = x} s m = record {
  inv = m.inv;
  inside = s.inside;
  flight =
      subst (λ (z : ℕ). IsInFlight d j i z x) (ap (λ (z : List ℕ). get_or z j 0) (sym m.got))
      (m.flight j i (taken c j i) x s.flight);
  reached =
      (let same : cycle_of d i ≡ cycle_of c i = ap (λ (z : ℕ → Phases). (z i).cycle) m.phases in
      (let w = s.reached in omega (arith, w, same)));
}

-- only counting the message is left to do
pub count-last : {shape : Shaped} {c d e : Cut} {i j : ℕ} {x : Message} → Taking shape c i j x
    → Moves shape c d i → Kind d i x
    → ((t : Token) → x.body ≡ body.Token t → ⊥)
    → ((r : Ref) → x.body ≡ body.Mark r
    → (o : Object) × (slot_at (d r.node).local.heap r.slot ≡ Occupied r.generation o)
    × (o.mark ≡ cycle_of d 0))
    → (t : NodeState) → d i ≡ t
    → Becomes d e i (record {
      local = count_in j (taken c j i + 1) x.stamp x.body t.local;
      sent = t.sent;
    })
    → Inv shape e
unfolding count_in
count-last {shape = shape} {c = c} {d = d} {e = e} {i = i} {j = j} {x = x} s m kind no_token target
    t at becomes =
    let now : Taking shape d i j x = later-taking s m in
    let counting : Counting shape d i j x = record {
      inv = m.inv;
      inside = s.inside;
      flight = now.flight;
      kind = kind;
      no_token = no_token;
      target = target;
    } in
    let same : taken d j i ≡ taken c j i = ap (λ (z : List ℕ). get_or z j 0) m.got in
    inner-inv (count-inner counting
    (subst (λ (z : ℕ). Becomes d e i (record {
      local = counted_local (d i).local j (z + 1) x.stamp x.body;
      sent = (d i).sent;
    })) (sym same)
    (subst (λ (z : NodeState). Becomes d e i (record {
      local = counted_local z.local j (taken c j i + 1) x.stamp x.body;
      sent = z.sent;
    })) (sym at) becomes)))

-- the references that the message carries are shaded or vouched for
pub carried-met : {shape : Shaped} {c d : Cut} {i j : ℕ} {x : Message} → Taking shape c i j x
    → is_reference x.body ≡ true → StampFits (phases_of c 0) x.stamp
    → Becomes c d i (worked (c i) (take_carried x.stamp x.body (c i).local))
    → Met shape c d i (carried x.body)
carried-met {shape = shape} {c = c} {d = d} {i = i} {j = j} {x = x} s is fits becomes =
    let safe : (r : Ref) → Among r (carried x.body) → Safe c r =
    λ r a.
    all-among (Safe c) (carried x.body)
    (subst (λ (z : List Ref). AllByRecursion (Safe c) z) (mentioned-carried x.body is)
    (s.inv.closed.messages j i (taken c j i) x s.flight)) r a in
    ⊎_elim {C = Met shape c d i (carried x.body)}
    (λ older.
    let less : x.stamp < cycle_of c i = ltb-true x.stamp (cycle_of c i) older in
    let shadeable : Shadeable shape c i (carried x.body) = record {
      inv = s.inv;
      inside = s.inside;
      safe = safe;
      quiet = λ opened.
          inr (
            counted-first s.flight
                (reference-counts (cycle_of c 0) x.stamp x.body is
                ∙ lt-ltb x.stamp (cycle_of c 0)
                (let w = latest s.inv i s.inside in omega (arith, less, w))),
            ⊎_elim {C = Marking (phases_of c 0)}
                (λ now. absurd (let w = latest s.inv i s.inside in omega (arith, now, less, w)))
                (λ before. before.0) fits,
          );
    } in
    shade-met shadeable
    (subst (λ (z : Bool). Becomes c d i (worked (c i) (see_to z (carried x.body) (c i).local)))
    older becomes))
    (λ same.
    let most : cycle_of c i ≤ x.stamp = ltb-false x.stamp (cycle_of c i) same in
    let vouchable : Vouchable shape c i (carried x.body) = record {
      inv = s.inv;
      inside = s.inside;
      safe = safe;
      covered = λ marking opened r a.
          all-among (Covered c) (carried x.body)
          (s.inv.cover.messages marking j i (taken c j i) x s.flight
          (let w = open-joined s.inv s.inside opened in
          let z = s.reached in
          omega (arith, w, z, most))) r a;
    } in
    vouch-met vouchable
    (subst (λ (z : Bool). Becomes c d i (worked (c i) (see_to z (carried x.body) (c i).local)))
    same becomes))
    (cases_Bool (ltb x.stamp (cycle_of c i)))

abbrev pub Settles : Cut → Cut → ℕ → ℕ → ℕ → Body → Type 0
Settles c d i j stamp b =
    Becomes c d i (worked (c i) (settled j (taken c j i + 1) stamp b (c i).local))

-- it isn't a Mark
pub no-mark : (d : Cut) (b : Body) → is_reference b ≡ true → (r : Ref) → b ≡ body.Mark r
    → (o : Object) × (slot_at (d r.node).local.heap r.slot ≡ Occupied r.generation o)
    × (o.mark ≡ cycle_of d 0)
no-mark d b is r e =
    absurd (let never : is_reference (body.Mark r) ≡ true = ap is_reference (sym e) ∙ is in cc)

pub no-token : (b : Body) → is_reference b ≡ true → (t : Token) → b ≡ body.Token t → ⊥
no-token b is t e =
    absurd (let never : is_reference (body.Token t) ≡ true = ap is_reference (sym e) ∙ is in cc)

-- the node after it has followed a message, which then counts
abbrev pub followed : ℕ → ℕ → Body → NodeState → NodeState
followed j stamp b s =
    let s1 : NodeState = worked s (take_carried stamp b s.local) in
    worked s1 (take_body j stamp b s1.local)

abbrev pub counted_state : ℕ → ℕ → ℕ → Body → NodeState → NodeState
counted_state j number stamp b s = record s { local = count_in j number stamp b s.local }

settled-is : (j number stamp : ℕ) (b : Body) (s : NodeState)
    → worked s (settled j number stamp b s.local)
    ≡ counted_state j number stamp b (followed j stamp b s)
unfolding settled
settled-is j number stamp b s =
    let s1 : NodeState = worked s (take_carried stamp b s.local) in
    ap (λ (z : List (List Message)). record {
      local = (counted_state j number stamp b (followed j stamp b s)).local;
      sent = z;
    })
    (append_all-append s.sent (take_carried stamp b s.local).sends
    (take_body j stamp b s1.local).sends)

-- a message that carries nothing is followed at once
pub settled-bare : (j number stamp : ℕ) (b : Body) (p : LocalState) → carried b ≡ []
    → settled j number stamp b p ≡ counted j number stamp b (take_body j stamp b p)
unfolding settled
settled-bare j number stamp b p none =
    ap (λ (w : Work). counted j number stamp b (then w (take_body j stamp b)))
    (ap (λ (rs : List Ref). see_to (ltb stamp p.phases.cycle) rs p) none
    ∙ see_to-none (ltb stamp p.phases.cycle) p)

-- once a message with references is followed, it counts
pub reference-last : {shape : Shaped} {c d e : Cut} {i j : ℕ} {x : Message} → Taking shape c i j x
    → is_reference x.body ≡ true → StampFits (phases_of c 0) x.stamp → Moves shape c d i
    → Becomes c d i (followed j x.stamp x.body (c i)) → Settles c e i j x.stamp x.body
    → Inv shape e
reference-last {shape = shape} {c = c} {d = d} {e = e} {i = i} {j = j} {x = x} s is fits moves
    follows becomes =
    let later : Taking shape d i j x = later-taking s moves in
    count-last s moves
    (reference-kind x moves.inv s.inside is
    (subst (λ (z : ℕ → Phases). StampFits (z 0) x.stamp) (sym moves.phases) fits) later.reached)
    (no-token x.body is) (no-mark d x.body is) (followed j x.stamp x.body (c i)) follows.changed
    (becomes-from follows
    (subst (λ (z : NodeState). Becomes c e i z)
    (settled-is j (taken c j i + 1) x.stamp x.body (c i)) becomes))

-- a letter
pub take-give : {shape : Shaped} {c d : Cut} {i j stamp : ℕ} (label : ℕ) (reference : Option Ref)
    → Taking shape c i j (record { stamp = stamp; body = body.Give label reference })
    → StampFits (phases_of c 0) stamp → Settles c d i j stamp (body.Give label reference)
    → Inv shape d
unfolding take_body
take-give {shape = shape} {c = c} {d = d} {i = i} {j = j} {stamp = stamp} label reference s fits
    becomes =
    let b : Body = body.Give label reference in
    let x : Message = record { stamp = stamp; body = b } in
    let w : Work = take_carried stamp b (c i).local in
    let l : Letter = simple_letter j label reference in
    let s1 : NodeState = worked (c i) w in
    let c1 : Cut = put c i s1 in
    let s2 : NodeState = re_rooted s1 s1.local.heap.registers (s1.local.heap.letters ++ l ∷ []) in
    let c2 : Cut = put c1 i s2 in
    let met : Met shape c c1 i (carried b) = carried-met s refl fits (becomes-put c i s1) in
    let at1 : c1 i ≡ s1 = put-here c i s1 in
    let old = known-roots i met.moves.inv in
    let b2 : Becomes c1 c2 i
    (re_rooted (c1 i) (c1 i).local.heap.registers ((c1 i).local.heap.letters ++ l ∷ [])) =
    subst (λ (z : NodeState).
    Becomes c1 c2 i (re_rooted z z.local.heap.registers (z.local.heap.letters ++ l ∷ [])))
    (sym at1) (becomes-put c1 i s2) in
    let second : Moves shape c1 c2 i =
    roots-moves (c1 i).local.heap.registers ((c1 i).local.heap.letters ++ l ∷ []) s.inside b2
    (record {
      registers = old.registers;
      letters = λ k.
          at_push (λ z. IfAny (Known c1 i) z.reference) (c1 i).local.heap.letters k l no_letter
          (known-option reference met.known) tt (old.letters k);
    }) met.moves.inv in
    let moves : Moves shape c c2 i = moves-through met.moves second in
    reference-last s refl fits moves (becomes-through (becomes-put c i s1) (becomes-put c1 i s2))
    becomes

-- a letter with references and bytes
pub take-post : {shape : Shaped} {c d : Cut} {i j stamp : ℕ} (label : ℕ) (rs : List (Option Ref))
    (bytes : List ℕ)
    → Taking shape c i j (record { stamp = stamp; body = body.Post label rs bytes })
    → StampFits (phases_of c 0) stamp → Settles c d i j stamp (body.Post label rs bytes)
    → Inv shape d
unfolding take_body
take-post {shape = shape} {c = c} {d = d} {i = i} {j = j} {stamp = stamp} label rs bytes s fits
    becomes =
    let b : Body = body.Post label rs bytes in
    let w : Work = take_carried stamp b (c i).local in
    let ls : List Letter = letters_of j label rs bytes in
    let s1 : NodeState = worked (c i) w in
    let c1 : Cut = put c i s1 in
    let s2 : NodeState = re_rooted s1 s1.local.heap.registers (s1.local.heap.letters ++ ls) in
    let c2 : Cut = put c1 i s2 in
    let met : Met shape c c1 i (carried b) = carried-met s refl fits (becomes-put c i s1) in
    let at1 : c1 i ≡ s1 = put-here c i s1 in
    let b2 : Becomes c1 c2 i
    (re_rooted (c1 i) (c1 i).local.heap.registers ((c1 i).local.heap.letters ++ ls)) =
    subst (λ (z : NodeState).
    Becomes c1 c2 i (re_rooted z z.local.heap.registers (z.local.heap.letters ++ ls)))
    (sym at1) (becomes-put c1 i s2) in
    let second : Moves shape c1 c2 i =
    roots-moves (c1 i).local.heap.registers ((c1 i).local.heap.letters ++ ls) s.inside b2
    (roots-letters (Known c1 i) (c1 i).local.heap j label rs bytes (known-roots i met.moves.inv)
    (all-from (Known c1 i) (filled rs) met.known))
    met.moves.inv in
    let moves : Moves shape c c2 i = moves-through met.moves second in
    reference-last s refl fits moves (becomes-through (becomes-put c i s1) (becomes-put c1 i s2))
    becomes

-- a place is written
pub take-put : {shape : Shaped} {c d : Cut} {i j stamp : ℕ} (target : Ref) (place : ℕ)
    (reference : Option Ref)
    → Taking shape c i j (record { stamp = stamp; body = body.Put target place reference })
    → StampFits (phases_of c 0) stamp → Settles c d i j stamp (body.Put target place reference)
    → Inv shape d
unfolding take_body
take-put {shape = shape} {c = c} {d = d} {i = i} {j = j} {stamp = stamp} target place reference s
    fits becomes =
    let b : Body = body.Put target place reference in
    let x : Message = record { stamp = stamp; body = b } in
    let w : Work = take_carried stamp b (c i).local in
    let s1 : NodeState = worked (c i) w in
    let c1 : Cut = put c i s1 in
    let s2 : NodeState = with_heap s1
    (with_place s1.local.own s1.local.heap target place reference) in
    let c2 : Cut = put c1 i s2 in
    let met : Met shape c c1 i (carried b) = carried-met s refl fits (becomes-put c i s1) in
    let at1 : c1 i ≡ s1 = put-here c i s1 in
    let b2 : Becomes c1 c2 i
    (with_heap (c1 i)
    (with_place (c1 i).local.own (c1 i).local.heap target place reference)) =
    subst (λ (z : NodeState).
    Becomes c1 c2 i
    (with_heap z (with_place z.local.own z.local.heap target place reference)))
    (sym at1) (becomes-put c1 i s2) in
    let second : Moves shape c1 c2 i =
    rewrite-moves target place reference s.inside b2
    (known-option reference (λ r a. met.known r (inr a))) met.moves.inv in
    let moves : Moves shape c c2 i = moves-through met.moves second in
    reference-last s refl fits moves (becomes-through (becomes-put c i s1) (becomes-put c1 i s2))
    becomes

-- an object is marked
pub take-mark : {shape : Shaped} {c d : Cut} {i j stamp : ℕ} (r : Ref)
    → Taking shape c i j (record { stamp = stamp; body = body.Mark r })
    → Settles c d i j stamp (body.Mark r) → Inv shape d
unfolding take_body
take-mark {shape = shape} {c = c} {d = d} {i = i} {j = j} {stamp = stamp} r s becomes =
    let b : Body = body.Mark r in
    let x : Message = record { stamp = stamp; body = b } in
    let fits = s.inv.messages.fits j i (taken c j i) x s.flight in
    let marking : Marking (phases_of c 0) = fits.1 in
    let joined_now : Joined c i =
    (let z = s.reached in let w = latest s.inv i s.inside in omega (arith, z, w, fits.2)) in
    let s1 : NodeState = worked (c i) (see_to true (r ∷ []) (c i).local) in
    let c1 : Cut = put c i s1 in
    let safe : Safe c r = (s.inv.closed.messages j i (taken c j i) x s.flight).0 in
    let shadeable : Shadeable shape c i (r ∷ []) = record {
      inv = s.inv;
      inside = s.inside;
      safe = λ z a.
          ⊎_elim {C = Safe c z} (λ e. subst (Safe c) (sym e) safe) (λ never. absurd never) a;
      quiet = λ _.
          inr (
            counted-first s.flight (eq-eqb stamp (cycle_of c 0) fits.2),
            marking,
          );
    } in
    let met : Met shape c c1 i (r ∷ []) = shade-met shadeable (becomes-put c i s1) in
    let inv1 : Inv shape c1 = met.moves.inv in
    let marking1 : Marking (phases_of c1 0) =
    subst (λ (z : ℕ → Phases). Marking (z 0)) (sym met.moves.phases) marking in
    let cycles : (k : ℕ) → cycle_of c1 k ≡ cycle_of c k =
    λ k. ap (λ (z : ℕ → Phases). (z k).cycle) met.moves.phases in
    let joined1 : Joined c1 i = cycles i ∙ joined_now ∙ sym (cycles 0) in
    let held : Holds (c1 i).local r =
    (met.known r (inl refl)).held (marking-open inv1 marking1 joined1) in
    let stamps : stamp ≡ cycle_of c1 0 = fits.2 ∙ sym (cycles 0) in
    count-last s met.moves
    (subst (λ (z : ℕ). Kind c1 i (record { stamp = z; body = b })) (sym stamps)
    (mark-kind c1 i r joined1))
    (λ t e. absurd cc)
    (λ z e.
    (let same : r ≡ z = mark-of r z e in
    subst
    (λ (y : Ref). (o : Object) × (slot_at (c1 y.node).local.heap y.slot ≡ Occupied y.generation o)
    × (o.mark ≡ cycle_of c1 0)) same
    (target-marked inv1 joined1 (fits.0) held)))
    s1 (put-here c i s1)
    (becomes-from (becomes-put c i s1)
    (subst (λ (z : Work). Becomes c d i (worked (c i) z))
    (settled-bare j (taken c j i + 1) stamp b (c i).local refl) becomes))
  where
    mark-of : (a z : Ref) → body.Mark a ≡ body.Mark z → a ≡ z
    mark-of a z e = cc

    target-marked : {e : Cut} → Inv shape e → Joined e i → r.node ≡ i → Holds (e i).local r
        → (o : Object) × (slot_at (e r.node).local.heap r.slot ≡ Occupied r.generation o)
        × (o.mark ≡ cycle_of e 0)
    target-marked {e = e} inv joined here (holds_marked o own there mark) =
        (o, ap (λ (z : ℕ). slot_at (e z).local.heap r.slot) here ∙ there, mark ∙ joined)
    target-marked inv joined here (holds_asked far asked) =
        absurd (far (here ∙ sym (inv.base.own i s.inside)))
