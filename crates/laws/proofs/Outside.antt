-- What other nodes can know. Every reference that is anywhere in a cut was given out by its owner.
-- And if another node has it, or a message mentions it, then it names no private object. Each plain
-- step keeps this, so it holds of every cut.
use Rattle.std.proofs.Common.{◌≡◌, ◌≢◌, ℕ, ◌+◌, ◌⊎◌, not, Bool, true, List, [], length, map, None, Some, slice_get, refl, sym, ◌∙◌, subst, ⊎_elim, inl, inr, arith, le_refl}
use Rattle.std.proofs.lemmas.Bool.{cases_eq, both_ways}
use Rattle.std.proofs.Math.Path.{fun_ext}
use Rattle.ids.specs.Limits.{Shaped}
use Rattle.ids.specs.declared.names.Ref.{Ref}
use Rattle.msg.specs.declared.body.Body.{Body}
use Rattle.msg.specs.declared.body.Body.TheVariants as body
use Rattle.msg.specs.declared.body.Message.{Message}
use Rattle.model.specs.declared.event.Event.{Event}
use Rattle.model.specs.declared.event.Event.TheVariants as event
use Rattle.model.specs.Checks.{AllPass}
use Rattle.model.specs.State.{Object, Occupied, LocalState, NodeState, sent_to, slot_at}
use Rattle.model.specs.Heaps.{new_object, new_reference, next_slot, generation_for}
use Rattle.model.specs.References.{IfAny}
use Rattle.model.specs.Shading.{is_in}
use Rattle.model.specs.Effects.{Effect}
use Rattle.model.specs.Steps.{tests, made, mentioned, carried, taken_in, is_own, is_addressed}
use Rattle.model.specs.World.{new_world}
use Rattle.model.specs.Cuts.{Cut, cut, taken, Among, Becomes, PlainStep, acts, delivers}
use Rattle.model.proofs.Lookups.{get_or-replicate_any}
use Rattle.model.proofs.Leaving.{own-stands, taken-stands}
use Rattle.laws.specs.Privacy.{IsPrivate}
use Rattle.laws.proofs.Lookups.{any-map}
use Rattle.laws.proofs.StepFacts.{act-ok, Receipt, repeated, next, receipt-cases}
use Rattle.laws.proofs.Turns.{Turn, appended-from, at_becomes, at_turn}
use Rattle.laws.proofs.Base.{inside-where, no-node-refuses, no-node-takes_nothing, first_in_flight, own-heard, taken-heard, at-new}
use Rattle.laws.proofs.Inner.{carried-mentioned}
use Rattle.laws.proofs.Invariant.{FreeSlots, MayHave, Unknown, Inv}
use Rattle.laws.proofs.Acting.{all-from}
use Rattle.laws.proofs.Slots.{object-placed}
use Rattle.laws.proofs.New.{new-unsent}
use Rattle.laws.proofs.Past.{PastAt, occupied-past}
use Rattle.laws.proofs.Shown.{IsShownAt, Tells, own-tells, taken-tells}
use Rattle.laws.proofs.Good.{GoodPart, GoodMessage, GoodDone}
use Rattle.laws.proofs.GoodHeaps.{own_reference}
use Rattle.laws.proofs.GoodEvents.{Ready, IsAlloc, own-good, taken-good}
use Rattle.laws.proofs.GoodCuts.{ready, receiving}

-- Node i may have the reference: it was given out, and it is the node's own or no private object's.
pub record Near (c : Cut) (i : ℕ) (r : Ref) : Type 0 where
  pub past : PastAt (c r.node).local.heap r.slot r.generation
  pub shown : r.node ≢ i → IsShownAt (c r.node).local.heap r.slot r.generation

-- a message may mention the reference
pub record Public (c : Cut) (r : Ref) : Type 0 where
  pub past : PastAt (c r.node).local.heap r.slot r.generation
  pub shown : IsShownAt (c r.node).local.heap r.slot r.generation

pub record Outside (c : Cut) : Type 0 where
  pub part : (i : ℕ) → GoodPart (Near c i) 0 (c i).local
  -- a node asks only for other nodes' objects
  pub asks : (i : ℕ) (r : Ref) → is_in r (c i).local.asked ≡ true → r.node ≢ i
  -- all messages that were ever sent
  pub sent : (from to place : ℕ) (x : Message) → slice_get (sent_to (c from) to) place ≡ Some x
      → (r : Ref) → Among r (mentioned x.body) → Public c r

public-near : {c : Cut} {r : Ref} (i : ℕ) → Public c r → Near c i r
public-near i known = record { past = known.past; shown = λ _. known.shown }

-- ---- if every reference that is good is good in another sense

part-map : (G H : Ref → Type 0) → ((r : Ref) → G r → H r) → (p : LocalState) → GoodPart G 0 p
    → GoodPart H 0 p
part-map G H each p good = record {
  heap = record {
    roots = record {
      registers = λ k. any-map G H each _ (good.heap.roots.registers k);
      letters = λ k. any-map G H each _ (good.heap.roots.letters k);
    };
    places = λ k g o there _ j.
        any-map G H each _ (good.heap.places k g o there (marked k g o there) j);
    marks = λ k g o there more. each _ (good.heap.marks k g o there more);
    grey = good.heap.grey;
    kept = good.heap.kept;
  };
  asked = λ more r a. each r (good.asked more r a);
  phase = good.phase;
}
  where
    -- every object's own reference is good
    marked : (k g : ℕ) (o : Object) → slot_at p.heap k ≡ Occupied g o → G (own_reference p.own k g)
    marked k g o there = good.heap.marks k g o there (omega arith)

-- ---- messages

marks-mentioned : (b : Body) (r : Ref) → b ≡ body.Mark r → Among r (mentioned b)
marks-mentioned b r is = subst (λ (z : Body). Among r (mentioned z)) (sym is) (inl refl)

-- a message mentions what it carries, or asks for it
mentioned-good : (G : Ref → Type 0) (x : Message) → GoodMessage G 0 x → (r : Ref)
    → Among r (mentioned x.body) → G r
mentioned-good G x good r mention = by x.body refl mention
  where
    by : (b : Body) → x.body ≡ b → Among r (mentioned b) → G r
    by (body.Mark target) is a =
        ⊎_elim {C = G r}
        (λ (same : r ≡ target).
        subst G (sym same) (good.asks target is (omega arith)))
        (λ never. absurd never) a
    by (body.Give label reference) is a =
        good.carries r (subst (λ (z : Body). Among r (carried z)) (sym is) a)
    by (body.Put target place reference) is a =
        good.carries r (subst (λ (z : Body). Among r (carried z)) (sym is) a)
    by (body.Get target place label) is a =
        good.carries r (subst (λ (z : Body). Among r (carried z)) (sym is) a)
    by (body.Post label references bytes) is a =
        good.carries r (subst (λ (z : Body). Among r (carried z)) (sym is) a)
    by (body.Fetch target label offset count) is a =
        good.carries r (subst (λ (z : Body). Among r (carried z)) (sym is) a)
    by b is never = absurd never

sent-good : {c : Cut} (i : ℕ) (x : Message)
    → ((r : Ref) → Among r (mentioned x.body) → Public c r) → GoodMessage (Near c i) 0 x
sent-good i x all = record {
  carries = λ r a. public-near i (all r (carried-mentioned x.body r a));
  asks = λ r is _. public-near i (all r (marks-mentioned x.body r is));
}

-- ---- one node takes a step

-- The node i becomes q and sends the messages.
record Told (c d : Cut) (i : ℕ) (q : LocalState) (ms : List (ℕ × Message)) : Type 0 where
  turn : Turn c d i q ms
  own : (c i).local.own ≡ i
  tells : Tells (c i).local (record { local = q; sends = ms })

module _ {c d : Cut} {i : ℕ} {q : LocalState} {ms : List (ℕ × Message)}
    (t : Told c d i q ms) where
  past-later : (n k g : ℕ) → PastAt (c n).local.heap k g → PastAt (d n).local.heap k g
  past-later n k g =
      at_turn (λ j s. PastAt (c j).local.heap k g → PastAt s.local.heap k g) t.turn
      (t.tells.ages.past k g) (λ j _ past. past) n

  shown-later : (n k g : ℕ) → PastAt (c n).local.heap k g → IsShownAt (c n).local.heap k g
      → IsShownAt (d n).local.heap k g
  shown-later n k g =
      at_turn (λ j s. PastAt (c j).local.heap k g → IsShownAt (c j).local.heap k g
      → IsShownAt s.local.heap k g) t.turn
      (t.tells.shown k g) (λ j _ past shown. shown) n

  near-later : (j : ℕ) (r : Ref) → Near c j r → Near d j r
  near-later j r near = record {
    past = past-later r.node r.slot r.generation near.past;
    shown = λ far.
        shown-later r.node r.slot r.generation near.past (near.shown far);
  }

  public-later : (r : Ref) → Public c r → Public d r
  public-later r known = record {
    past = past-later r.node r.slot r.generation known.past;
    shown = shown-later r.node r.slot r.generation known.past known.shown;
  }

  -- what the node mentions in a message
  public-said : (to : ℕ) (x : Message) → Among (to, x) ms → (r : Ref) → Among r (mentioned x.body)
      → Near c i r → Public d r
  public-said to x a r mention near = record {
    past = past-later r.node r.slot r.generation near.past;
    shown =
        ⊎_elim {C = IsShownAt (d r.node).local.heap r.slot r.generation}
        (λ (here : r.node ≡ i).
        subst (λ (n : ℕ). IsShownAt (d n).local.heap r.slot r.generation) (sym here)
        (subst (λ (s : NodeState). IsShownAt s.local.heap r.slot r.generation)
        (sym t.turn.becomes.changed)
        (t.tells.says to x a r mention (here ∙ sym t.own)
        (subst (λ (n : ℕ). PastAt (c n).local.heap r.slot r.generation) here near.past))))
        (λ (far : r.node ≢ i).
        shown-later r.node r.slot r.generation near.past (near.shown far))
        (cases_eq r.node i);
  }

  turn-outside : GoodPart (Near d i) 0 q
      → ((to : ℕ) (x : Message) → Among (to, x) ms → (r : Ref) → Among r (mentioned x.body)
      → Near c i r)
      → Outside c → Outside d
  turn-outside part said out = record {
    part =
        at_turn (λ j s. GoodPart (Near d j) 0 s.local) t.turn part
        (λ j _. part-map (Near c j) (Near d j) (near-later j) (c j).local (out.part j));
    asks =
        at_turn (λ j s. (r : Ref) → is_in r s.local.asked ≡ true → r.node ≢ j) t.turn
        (λ r a.
        ⊎_elim {C = r.node ≢ i}
        (λ before. out.asks i r before)
        (λ (far : r.node ≢ (c i).local.own). λ (e : r.node ≡ i). far (e ∙ sym t.own))
        (t.tells.asks r a))
        (λ j _. out.asks j);
    sent = λ from to place x there r mention.
        ⊎_elim {C = Public d r}
        (λ before. public-later r (out.sent from to place x before r mention))
        (λ (now : (from ≡ i) × Among (to, x) ms).
        public-said to x now.1 r mention (said to x now.1 r mention))
        (at_turn (λ j s.
        slice_get (sent_to s to) place ≡ Some x
        → (slice_get (sent_to (c j) to) place ≡ Some x) ⊎ ((j ≡ i) × Among (to, x) ms)) t.turn
        (λ z.
        ⊎_elim {C = (slice_get (sent_to (c i) to) place ≡ Some x) ⊎ ((i ≡ i) × Among (to, x) ms)}
        (λ before. inl before) (λ new. inr (refl, new))
        (appended-from (c i).sent ms to place x z))
        (λ j _ z. inl z) from there);
  }

  done-outside : GoodDone (Near c i) 0 q ms → Outside c → Outside d
  done-outside done out =
      turn-outside (part-map (Near c i) (Near d i) (near-later i) q done.part)
      (λ to x a. mentioned-good (Near c i) x (done.sends to x a)) out

-- ---- a node's own event

is-alloc : (e : Event) → IsAlloc e ⊎ (IsAlloc e → ⊥)
is-alloc (event.Alloc register places) = inl tt
is-alloc e = inr (λ never. never)

alloc-silent : (p : LocalState) (counts : List ℕ) (e : Event) → IsAlloc e
    → (made p counts e).sends ≡ []
alloc-silent p counts (event.Alloc register places) is = refl
alloc-silent p counts e never = absurd never

-- the new object's reference is given out then
alloc-past : (p : LocalState) (counts : List ℕ) (e : Event) → IsAlloc e
    → FreeSlots p.heap.slots p.heap.free
    → PastAt (made p counts e).local.heap (new_reference p.own p.heap).slot
    (new_reference p.own p.heap).generation
alloc-past p counts (event.Alloc register places) is free =
    occupied-past (made p counts (event.Alloc register places)).local.heap
    (next_slot p.heap.free p.heap.slots) (generation_for p.heap.free p.heap.slots)
    (new_object (not p.shape.wide) p.phases.cycle places)
    (object-placed p.heap.free p.heap.slots
    (new_object (not p.shape.wide) p.phases.cycle places) free)
alloc-past p counts e never free = absurd never

own-outside : {c d : Cut} {i : ℕ} (counts : List ℕ) (e : Event) → is_own e ≡ true
    → AllPass (tests (c i).local e) → Ready (c i).local
    → Told c d i (made (c i).local counts e).local (made (c i).local counts e).sends
    → Outside c → Outside d
own-outside {c} {d} {i} counts e own passed ready t out =
    ⊎_elim {C = Outside d} allocates
    (λ other.
    done-outside t
    (own-good p counts e own passed ready (λ is. absurd (other is)) (λ r _. inl (omega arith))
    (out.part i)) out)
    (is-alloc e)
  where
    p : LocalState
    p = (c i).local

    new : IsAlloc e → Near d i (new_reference p.own p.heap)
    new is = record {
      past =
          subst (λ (n : ℕ). PastAt (d n).local.heap (new_reference p.own p.heap).slot
          (new_reference p.own p.heap).generation) (sym t.own)
          (subst (λ (s : NodeState). PastAt s.local.heap (new_reference p.own p.heap).slot
          (new_reference p.own p.heap).generation) (sym t.turn.becomes.changed)
          (alloc-past p counts e is ready.tidy.free));
      shown = λ far. absurd (far t.own);
    }

    allocates : IsAlloc e → Outside d
    allocates is =
        turn-outside t
        (own-good p counts e own passed ready new (λ r _. inl (omega arith))
        (part-map (Near c i) (Near d i) (near-later t i) p (out.part i))).part
        (λ to x a.
        absurd (subst (λ (z : List (ℕ × Message)). Among (to, x) z) (alloc-silent p counts e is) a))
        out

-- ---- plain steps

pub plain-outside : {shape : Shaped} {c d : Cut} → PlainStep c d → Inv shape c → Outside c
    → Outside d
plain-outside {c = c} {d = d} (acts i e s a own answered becomes) inv out =
    let p : LocalState = (c i).local in
    let counts : List ℕ = map length (c i).sent in
    let x : Effect = made p counts e in
    let found = act-ok (c i) e s a answered in
    let inside = inside-where i (λ z. AllPass (tests z.local e)) inv.base found.passed
    (no-node-refuses e own) in
    let t : Told c d i x.local x.sends = record {
      turn = record {
        becomes = subst (λ (z : NodeState). Becomes c d i z) found.state becomes;
        heard = own-heard (own-stands p counts e own);
      };
      own = inv.base.own i inside;
      tells = own-tells p counts e own (inv.tidy i).free;
    } in
    own-outside counts e own found.passed (ready inv inside) t out
plain-outside {shape = shape} {c = c} {d = d} (delivers from to x s a flight answered becomes) inv
    out =
    by (receipt-cases (c to) (first_in_flight c from to x) s a answered)
  where
    by : Receipt (c to) (first_in_flight c from to x) s a → Outside d
    by (repeated same says) =
        subst (λ (z : Cut). Outside z)
        (sym (fun_ext (at_becomes (λ j z. z ≡ c j) becomes same (λ j _. refl)))) out
    by (next turn may found) =
        let p : LocalState = (c to).local in
        let number : ℕ = taken c from to + 1 in
        let y : Effect = taken_in p from number x.stamp x.body in
        let inside =
        inside-where to (λ z. is_addressed z.local from to ≡ true) inv.base found.passed.0
        (no-node-takes_nothing from to) in
        let t : Told c d to y.local y.sends = record {
          turn = record {
            becomes = subst (λ (z : NodeState). Becomes c d to z) found.state becomes;
            heard = taken-heard p from number (taken-stands p from number x.stamp x.body)
                (omega arith);
          };
          own = inv.base.own to inside;
          tells = taken-tells p from number x.stamp x.body;
        } in
        done-outside t
        (taken-good p from number x
        (receiving inv inside flight may (out.part to)
        (sent-good to x (out.sent from to (taken c from to) x flight.there)))) out

-- ---- a new space

pub new-outside : (shape : Shaped) (choice : ℕ → Bool) → Outside (cut (new_world shape) choice)
new-outside shape choice = record {
  part = λ i. at-new shape choice i (λ s. GoodPart (Near c i) 0 s.local) (λ z own. record {
    heap = record {
      roots = record {
        registers = λ k.
            subst (IfAny (Near c i)) (sym (get_or-replicate_any z.registers k None)) tt;
        letters = λ k. tt;
      };
      places = λ k g o there. absurd cc;
      marks = λ k g o there more. absurd cc;
      grey = λ k g o never. absurd never;
      kept = λ k g o there. absurd cc;
    };
    asked = λ _ r never. absurd cc;
    phase = le_refl 0;
  });
  asks = λ i.
      at-new shape choice i (λ s. (r : Ref) → is_in r s.local.asked ≡ true → r.node ≢ i)
      (λ z own r never. absurd cc);
  sent = λ from to place x there r mention.
      absurd
      (at-new shape choice from (λ s. slice_get (sent_to s to) place ≡ Some x → ⊥)
      (λ z own. new-unsent z own to place x) there);
}
  where
    c : Cut
    c = cut (new_world shape) choice

-- ---- so private objects are unknown

pub shown-not_private : {c : Cut} {r : Ref} → IsShownAt (c r.node).local.heap r.slot r.generation
    → IsPrivate c r → ⊥
shown-not_private shown is =
    both_ways is.object.shared is.private (shown is.object is.there)

near-may : {c : Cut} {i : ℕ} (r : Ref) → Near c i r → MayHave c i r
near-may r near far = shown-not_private (near.shown far)

pub outside-unknown : {c : Cut} → Outside c → Unknown c
outside-unknown {c} out = record {
  roots = λ i. record {
    registers = λ k.
        any-map (Near c i) (MayHave c i) near-may _ ((out.part i).heap.roots.registers k);
    letters = λ k.
        any-map (Near c i) (MayHave c i) near-may _ ((out.part i).heap.roots.letters k);
  };
  places = λ i k g o there j.
      any-map (Near c i) (MayHave c i) near-may _
      ((out.part i).heap.places k g o there
      ((out.part i).heap.marks k g o there (omega arith)) j);
  asked = λ i r a. near-may r ((out.part i).asked (omega arith) r a) (out.asks i r a);
  messages = λ from to place x flight.
      all-from (λ r. IsPrivate c r → ⊥) (mentioned x.body)
      (λ r a. shown-not_private (out.sent from to place x flight.there r a).shown);
}
