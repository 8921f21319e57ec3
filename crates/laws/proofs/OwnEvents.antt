-- The invariant after each event of a program.
use Rattle.std.proofs.Common.{◌≡◌, ℕ, suc, ◌<◌, ◌⊎◌, ◌==◌, Bool, true, false, not, cond, List, [], ◌∷◌, get_or, set, Option, None, Some, option_to_list, refl, sym, ap, ◌∙◌, subst, inl, inr, arith, append-nil}
use Rattle.std.proofs.lemmas.Bool.{ltb-true, eqb-true, cond_both}
use Rattle.ids.specs.Limits.{Shaped}
use Rattle.ids.specs.declared.names.Ref.{Ref}
use Rattle.msg.specs.declared.body.Body.{Body}
use Rattle.msg.specs.declared.body.Body.TheVariants as body
use Rattle.msg.specs.declared.body.Message.{Message}
use Rattle.model.specs.declared.event.Event.{Event}
use Rattle.model.specs.declared.event.Event.TheVariants as event
use Rattle.model.specs.declared.event.Letter.{Letter}
use Rattle.model.specs.Checks.{AllPass}
use Rattle.model.specs.State.{Object, Occupied, Heap, Phases, NodeState, register_at, slot_at}
use Rattle.model.specs.Heaps.{with_object, new_object, new_reference, no_reference, named, object_at, place_of, place_loaded, oldest_letter, with_place, placing, remembering, filling, patching, with_rewritten, sharing, contents, letters_taken}
use Rattle.model.specs.References.{IfAny}
use Rattle.model.specs.Effects.{Work}
use Rattle.model.specs.Counting.{append}
use Rattle.model.specs.Shading.{is_open, see_to}
use Rattle.model.specs.Steps.{is_own, tests, made, append_all, carried, share, post}
use Rattle.model.specs.Cuts.{Cut, Among, Becomes}
use Rattle.model.proofs.Lookups.{all-map, at_set, at_set_if}
use Rattle.model.proofs.Slots.{found-object, same-object}
use Rattle.model.proofs.Ages.{noted_for, noted-keeps}
use Rattle.model.proofs.Walk.{work_in, taken-roots}
use Rattle.laws.proofs.Lookups.{any-map, any-some, any-list, any-there}
use Rattle.laws.proofs.Invariant.{cycle_of, Resting, Safe, Holds, holds_marked, holds_asked, RootsAll, Inv}
use Rattle.laws.proofs.Inner.{Known, known-roots, resting-joined, occupied-inside}
use Rattle.laws.proofs.Resolving.{resolved-there}
use Rattle.laws.proofs.Acting.{with_heap, put, put-here, becomes-put, onward}
use Rattle.laws.proofs.Slots.{object-placed}
use Rattle.laws.proofs.HeapSteps.{re_rooted, roots-inner, Rewriting, rewrite-inner, object-inner}
use Rattle.laws.proofs.Counts.{append-reference, Sending, send-inner}
use Rattle.laws.proofs.Moves.{worked, Moves, inner-moves, moves-through, moves-none, Met, Shadeable, shade-met}
use Rattle.model.proofs.References.{holds-filled, contents-any}
use Rattle.laws.proofs.Letters.{roots-taken}

-- ---- the steps that make up events

pub roots-moves : {shape : Shaped} {c d : Cut} {i : ℕ} (rs : List (Option Ref)) (ls : List Letter)
    → i < shape.nodes → Becomes c d i (re_rooted (c i) rs ls)
    → RootsAll (Known c i) (record (c i).local.heap { registers = rs; letters = ls })
    → Inv shape c → Moves shape c d i
roots-moves rs ls inside becomes known inv =
    inner-moves (roots-inner rs ls inside becomes known inv) refl

-- a register gets a known reference, or nothing
pub register-known : {shape : Shaped} {c : Cut} {i : ℕ} (k : ℕ) (v : Option Ref) → Inv shape c
    → IfAny (Known c i) v
    → RootsAll (Known c i)
    (record (c i).local.heap { registers = set (c i).local.heap.registers k v })
register-known {c = c} {i = i} k v inv known =
    let old = known-roots i inv in
    record {
      registers = λ j.
          at_set (IfAny (Known c i)) (c i).local.heap.registers k j v None known (old.registers j);
      letters = old.letters;
    }

-- a place of an object gets a known reference, or nothing
pub place-rewriting : {c : Cut} {i : ℕ} (place : ℕ) (v : Option Ref) → IfAny (Known c i) v
    → Rewriting c i (λ o. record o { places = set o.places place v })
place-rewriting {c = c} {i = i} place v known = record {
  mark = λ o. refl;
  places = λ o j.
      at_set_if (λ z. (z ≡ get_or o.places j None) ⊎ IfAny (Known c i) z) o.places place j v None
      (λ _. inr known) (inl refl);
}

pub rewrite-moves : {shape : Shaped} {c d : Cut} {i : ℕ} (r : Ref) (place : ℕ) (v : Option Ref)
    → i < shape.nodes
    → Becomes c d i (with_heap (c i) (with_place (c i).local.own (c i).local.heap r place v))
    → IfAny (Known c i) v → Inv shape c → Moves shape c d i
rewrite-moves {shape = shape} {c = c} {d = d} {i = i} r place v inside becomes known inv =
    let s : NodeState = c i in
    let t : NodeState = with_heap s (noted_for s.local.own s.local.heap r v) in
    let writes : Rewriting c i remembering =
    record { mark = λ o. refl; places = λ o j. inl refl } in
    let first : Moves shape c (put c i t) i =
    noted-keeps
    (λ (z : Heap). Becomes c (put c i t) i (with_heap s z) → Moves shape c (put c i t) i)
    s.local.own s.local.heap r v
    (λ z b. inner-moves (rewrite-inner z remembering inside b writes inv) refl)
    (λ b. moves-none b inv) (becomes-put c i t) in
    let now : IfAny (Known (put c i t) i) v =
    any-map (Known c i) (Known (put c i t) i) first.known v known in
    moves-through first
    (inner-moves
    (rewrite-inner r (placing place v) inside
    (onward t (λ z. with_heap z (with_rewritten z.local.heap r (placing place v))) becomes)
    (place-rewriting place v now) first.inv) refl)

-- objects become shared
pub share-moves : {shape : Shaped} {d : Cut} {i : ℕ} (rs : List Ref) {c : Cut} → i < shape.nodes
    → Becomes c d i (worked (c i) (share rs (c i).local)) → Inv shape c → Moves shape c d i
share-moves [] inside becomes inv = moves-none becomes inv
share-moves {shape = shape} {d = d} {i = i} (r ∷ rs) {c = c} inside becomes inv =
    let s : NodeState = c i in
    let h : Heap = cond (r.node == s.local.own)
    (with_rewritten s.local.heap r sharing) s.local.heap in
    let t : NodeState = with_heap s h in
    let writes : Rewriting c i sharing = record { mark = λ o. refl; places = λ o j. inl refl } in
    let first : Moves shape c (put c i t) i =
    cond_both (r.node == s.local.own) (with_rewritten s.local.heap r sharing) s.local.heap
    (λ (z : Heap). Becomes c (put c i t) i (with_heap s z) → Moves shape c (put c i t) i)
    (λ _ b. inner-moves (rewrite-inner r sharing inside b writes inv) refl)
    (λ _ b. moves-none b inv) (becomes-put c i t) in
    moves-through first
    (share-moves rs inside (onward t (λ z. worked z (share rs z.local)) becomes) first.inv)

send-moves : {shape : Shaped} {c d : Cut} {i to : ℕ} {b : Body} → Sending shape c i to b
    → Becomes c d i (worked (c i) (append to b (c i).local)) → Moves shape c d i
send-moves {c = c} {d = d} {i = i} {to = to} {b = b} s becomes =
    inner-moves
    (send-inner s
    (subst (λ (z : Work). Becomes c d i (worked (c i) z))
    (append-reference to b (c i).local s.reference) becomes))
    refl

-- a message with known references is sent
pub post-moves : {shape : Shaped} {c d : Cut} {i to : ℕ} {b : Body} → Sending shape c i to b
    → Becomes c d i (worked (c i) (post to b (c i).local)) → Moves shape c d i
post-moves {shape = shape} {c = c} {d = d} {i = i} {to = to} {b = b} s becomes =
    let t : NodeState = worked (c i) (share (carried b) (c i).local) in
    let first : Moves shape c (put c i t) i =
    share-moves (carried b) s.inside (becomes-put c i t) s.inv in
    let sends : Sending shape (put c i t) i to b = record {
      inv = first.inv;
      inside = s.inside;
      receiver = s.receiver;
      reference = s.reference;
      known = all-map (Known c i) (Known (put c i t) i) first.known (carried b) s.known;
      targets = s.targets;
    } in
    moves-through first (send-moves sends (onward t (λ z. worked z (append to b z.local)) becomes))

-- ---- the reference in a place is known once it is shaded

-- the reference in a place of an object of the node
pub place-there : (h : Heap) (r : Ref) (place : ℕ) (v : Ref)
    → place_of (object_at h r) place ≡ Some v
    → (o : Object) × (slot_at h r.slot ≡ Occupied r.generation o)
    × (get_or o.places place None ≡ Some v)
place-there h r place v e = by (object_at h r) refl e
  where
    by : (found : Option Object) → object_at h r ≡ found → place_of found place ≡ Some v
        → (o : Object) × (slot_at h r.slot ≡ Occupied r.generation o)
        × (get_or o.places place None ≡ Some v)
    by None is never = absurd cc
    by (Some o) is at = (o, found-object h r o is, at)

-- The object is known to the node, which owns it. So what it holds is safe, and the node holds it
-- if it has no grey object.
pub record Reading (shape : Shaped) (c : Cut) (i : ℕ) (r : Ref) : Type 0 where
  pub inv : Inv shape c
  pub inside : i < shape.nodes
  pub own : r.node ≡ i
  pub known : Known c i r

pub read-safe : {shape : Shaped} {c : Cut} {i : ℕ} {r : Ref} (place : ℕ) (v : Ref)
    → Reading shape c i r → place_of (object_at (c i).local.heap r) place ≡ Some v → Safe c v
read-safe {c = c} {i = i} {r = r} place v s e =
    let found = place-there (c i).local.heap r place v e in
    let safe : Safe c r = s.known.safe in
    let same : safe.object ≡ found.0 =
    same-object (slot_at (c i).local.heap r.slot) r.generation safe.object found.0
    (ap (λ (z : ℕ). slot_at (c z).local.heap r.slot) (sym s.own) ∙ safe.there) found.1 in
    any-some (Safe c) (get_or found.0.places place None) v
    (s.inv.closed.places i r.slot r.generation found.0 found.1
    (λ rest. ap (λ (z : Object). z.mark) (sym same) ∙ safe.marked rest) place)
    found.2

pub read-held : {shape : Shaped} {c : Cut} {i : ℕ} {r : Ref} (place : ℕ) (v : Ref)
    → Reading shape c i r → place_of (object_at (c i).local.heap r) place ≡ Some v
    → is_open (c i).local ≡ true → (c i).local.heap.grey ≡ [] → Holds (c i).local v
read-held {c = c} {i = i} {r = r} place v s e opened grey =
    let found = place-there (c i).local.heap r place v e in
    any-some (Holds (c i).local) (get_or found.0.places place None) v
    (s.inv.held.blacks i r.slot r.generation found.0 opened found.1
    (marked (s.known.held opened) found.0 found.1)
    (λ a. subst (λ (z : List ℕ). Among r.slot z) grey a) place)
    found.2
  where
    marked : Holds (c i).local r → (o : Object)
        → slot_at (c i).local.heap r.slot ≡ Occupied r.generation o → o.mark ≡ cycle_of c i
    marked (holds_marked x own there mark) o at =
        ap (λ (z : Object). z.mark)
        (same-object (slot_at (c i).local.heap r.slot) r.generation o x at there) ∙ mark
    marked (holds_asked far asked) o at = absurd (far (s.own ∙ sym (s.inv.base.own i s.inside)))

pub among-option : (v : Option Ref) (r : Ref) → Among r (option_to_list v) → v ≡ Some r
among-option None r never = absurd never
among-option (Some s) r (inl e) = ap Some (sym e)
among-option (Some s) r (inr never) = absurd never

pub read-shadeable : {shape : Shaped} {c : Cut} {i : ℕ} {r : Ref} (place : ℕ)
    → Reading shape c i r
    → Shadeable shape c i (option_to_list (place_of (object_at (c i).local.heap r) place))
read-shadeable {c = c} {i = i} {r = r} place s = record {
  inv = s.inv;
  inside = s.inside;
  safe = λ v a.
      read-safe place v s (among-option (place_of (object_at (c i).local.heap r) place) v a);
  quiet = λ opened.
      inl (λ grey v a.
      read-held place v s (among-option (place_of (object_at (c i).local.heap r) place) v a)
      opened grey);
}

pub known-option : {c : Cut} {i : ℕ} (v : Option Ref)
    → ((r : Ref) → Among r (option_to_list v) → Known c i r) → IfAny (Known c i) v
known-option None all = tt
known-option (Some r) all = all r (inl refl)

-- ---- events of a program

-- the events that mark, free, or bring a cycle on
abbrev pub is_collecting : Event → Bool
is_collecting (event.Reclaim scope) = true
is_collecting event.Begin = true
is_collecting event.Scan = true
is_collecting event.Pass = true
is_collecting (event.Sweep count) = true
is_collecting e = false

-- a node's own event
pub record OwnStep (shape : Shaped) (c d : Cut) (i : ℕ) (counts : List ℕ) (e : Event) : Type 0 where
  pub inv : Inv shape c
  pub inside : i < shape.nodes
  pub own : is_own e ≡ true
  pub passed : AllPass (tests (c i).local e)
  pub becomes : Becomes c d i (worked (c i) (work_in (made (c i).local counts e)))

pub program-moves : {shape : Shaped} {c d : Cut} (i : ℕ) (counts : List ℕ) (e : Event)
    → is_collecting e ≡ false → OwnStep shape c d i counts e → Moves shape c d i
program-moves {shape = shape} {c = c} {d = d} i counts (event.Alloc register places) plain step =
    let s : NodeState = c i in
    let h : Heap = s.local.heap in
    let shared : Bool = not s.local.shape.wide in
    let o : Object = new_object shared s.local.phases.cycle places in
    let r : Ref = new_reference s.local.own h in
    let t : NodeState = with_heap s (with_object h o) in
    let first : Moves shape c (put c i t) i =
    inner-moves
    (object-inner shared places step.inside (becomes-put c i t) step.passed.1.1.0 step.inv) refl in
    let b : Becomes (put c i t) d i
    (re_rooted (put c i t i) (set (put c i t i).local.heap.registers register (Some r))
    (put c i t i).local.heap.letters) =
    onward t (λ z. re_rooted z (set z.local.heap.registers register (Some r)) z.local.heap.letters)
    step.becomes in
    let placed : slot_at t.local.heap r.slot ≡ Occupied r.generation o =
    object-placed h.free h.slots o (step.inv.tidy i).free in
    let there : slot_at (put c i t i).local.heap r.slot ≡ Occupied r.generation o =
    ap (λ (z : NodeState). slot_at z.local.heap r.slot) (put-here c i t) ∙ placed in
    let here : r.node ≡ i = step.inv.base.own i step.inside in
    let cycle : (j : ℕ) → cycle_of (put c i t) j ≡ cycle_of c j =
    λ j. ap (λ (z : ℕ → Phases). (z j).cycle) first.phases in
    let known : Known (put c i t) i r = record {
      safe = record {
        object = o;
        there = ap (λ (z : ℕ). slot_at (put c i t z).local.heap r.slot) here ∙ there;
        marked = λ rest.
            resting-joined step.inv
            (subst (λ (z : ℕ → Phases). Resting (z 0)) first.phases rest) step.inside
            ∙ sym (cycle 0);
      };
      held = λ _.
          holds_marked o
          (ap (λ (z : NodeState). z.local.own) (sym (put-here c i t))) there
          (ap (λ (z : NodeState). z.local.phases.cycle) (sym (put-here c i t)));
    } in
    moves-through first
    (roots-moves _ _ step.inside b (register-known register (Some r) first.inv known) first.inv)
program-moves {c = c} i counts (event.Copy register source) plain step =
    roots-moves _ _ step.inside step.becomes
    (register-known register (register_at (c i).local.heap source) step.inv
    ((known-roots i step.inv).registers source)) step.inv
program-moves {c = c} i counts (event.Drop register) plain step =
    roots-moves _ _ step.inside step.becomes (register-known register None step.inv tt) step.inv
program-moves {c = c} i counts (event.Resolve register reference) plain step =
    let x = resolved-there (c i).local register reference step.passed in
    let here : reference.node ≡ i = x.own ∙ step.inv.base.own i step.inside in
    let known : Known c i reference = record {
      safe = record {
        object = x.object;
        there = ap (λ (z : ℕ). slot_at (c z).local.heap reference.slot) here ∙ x.there;
        marked = λ rest. x.marked ∙ resting-joined step.inv rest step.inside;
      };
      held = λ _. holds_marked x.object x.own x.there x.marked;
    } in
    roots-moves _ _ step.inside step.becomes
    (register-known register (Some reference) step.inv known) step.inv
program-moves {shape = shape} {c = c} {d = d} i counts (event.Load register object place) plain
    step =
    let s : NodeState = c i in
    let v : Option Ref = place_loaded s.local.heap object place in
    let w : Work = see_to true (option_to_list v) s.local in
    let t : NodeState = worked s w in
    let r : Ref = named s.local.heap object in
    let reads : Reading shape c i r = record {
      inv = step.inv;
      inside = step.inside;
      own = eqb-true r.node s.local.own step.passed.1.1.1.0 ∙ step.inv.base.own i step.inside;
      known = any-there (Known c i) (register_at s.local.heap object) no_reference step.passed.1.1.0
          ((known-roots i step.inv).registers object);
    } in
    let first : Met shape c (put c i t) i (option_to_list v) =
    shade-met (read-shadeable place reads) (becomes-put c i t) in
    let became : Becomes c d i
    (re_rooted t (set t.local.heap.registers register v) t.local.heap.letters) =
    subst (λ (z : List (ℕ × Message)). Becomes c d i
    (record {
      local = record w.local
          { heap = record w.local.heap { registers = set w.local.heap.registers register v } };
      sent = append_all s.sent z;
    })) (append-nil w.sends) step.becomes in
    let b : Becomes (put c i t) d i
    (re_rooted (put c i t i) (set (put c i t i).local.heap.registers register v)
    (put c i t i).local.heap.letters) =
    onward t (λ z. re_rooted z (set z.local.heap.registers register v) z.local.heap.letters)
    became in
    moves-through first.moves
    (roots-moves _ _ step.inside b
    (register-known register v first.moves.inv (known-option v first.known)) first.moves.inv)
program-moves {c = c} i counts (event.Store object place register) plain step =
    rewrite-moves (named (c i).local.heap object) place (register_at (c i).local.heap register)
    step.inside
    step.becomes ((known-roots i step.inv).registers register) step.inv
program-moves {c = c} i counts (event.Clear object place) plain step =
    rewrite-moves (named (c i).local.heap object) place None step.inside step.becomes tt step.inv
program-moves i counts (event.Word object) plain step =
    moves-none step.becomes step.inv
program-moves {c = c} i counts (event.SetWord object word) plain step =
    let writes : Rewriting c i (λ o. record o { word = word }) =
    record { mark = λ o. refl; places = λ o j. inl refl } in
    inner-moves
    (rewrite-inner (named (c i).local.heap object) _ step.inside step.becomes writes step.inv)
    refl
program-moves {c = c} i counts (event.SetBytes object bytes) plain step =
    let writes : Rewriting c i (filling bytes.now) =
    record { mark = λ o. refl; places = λ o j. inl refl } in
    inner-moves
    (rewrite-inner (named (c i).local.heap object) _ step.inside step.becomes writes step.inv)
    refl
program-moves {c = c} i counts (event.Patch object offset bytes) plain step =
    let writes : Rewriting c i (patching offset bytes.now) =
    record { mark = λ o. refl; places = λ o j. inl refl } in
    inner-moves
    (rewrite-inner (named (c i).local.heap object) _ step.inside step.becomes writes step.inv)
    refl
program-moves {shape = shape} {c = c} i counts (event.Give to label register) plain step =
    let nodes : (c i).local.shape.nodes ≡ shape.nodes =
    ap (λ (z : Shaped). z.nodes) (step.inv.base.shapes i step.inside) in
    let receiver : to < (c i).local.shape.nodes = ltb-true to _ step.passed.0 in
    let sends : Sending shape c i to (body.Give label (register_at (c i).local.heap register)) =
    record {
      inv = step.inv;
      inside = step.inside;
      receiver = omega (arith, receiver, nodes);
      reference = refl;
      known = any-list (Known c i) (register_at (c i).local.heap register)
          ((known-roots i step.inv).registers register);
      targets = tt;
    } in
    post-moves sends step.becomes
program-moves {c = c} {d = d} i counts (event.Accept register) plain step =
    let h : Heap = (c i).local.heap in
    let n : ℕ = suc (oldest_letter h).more in
    let taken : Heap = letters_taken n h register in
    let same = taken-roots n h register in
    roots-moves taken.registers taken.letters step.inside
    (subst (λ (z : Heap). Becomes c d i (with_heap (c i) z)) same step.becomes)
    (subst (RootsAll (Known c i)) same
    (roots-taken (Known c i) n h register (known-roots i step.inv)))
    step.inv
program-moves {shape = shape} {c = c} i counts (event.Post to label first count bytes) plain step =
    let h : Heap = (c i).local.heap in
    let rs : List (Option Ref) = contents h first count in
    let nodes : (c i).local.shape.nodes ≡ shape.nodes =
    ap (λ (z : Shaped). z.nodes) (step.inv.base.shapes i step.inside) in
    let receiver : to < (c i).local.shape.nodes = ltb-true to _ step.passed.0 in
    let sends : Sending shape c i to (body.Post label rs bytes.now) = record {
      inv = step.inv;
      inside = step.inside;
      receiver = omega (arith, receiver, nodes);
      reference = refl;
      known = holds-filled (Known c i) rs
          (contents-any (Known c i) h first count (known-roots i step.inv).registers);
      targets = tt;
    } in
    post-moves sends step.becomes
program-moves {shape = shape} {c = c} i counts (event.Fetch object label offset count) plain step =
    let r : Ref = named (c i).local.heap object in
    let known : Known c i r =
    any-there (Known c i) (register_at (c i).local.heap object) no_reference step.passed.1.0
    ((known-roots i step.inv).registers object) in
    let sends : Sending shape c i r.node (body.Fetch r label offset count) = record {
      inv = step.inv;
      inside = step.inside;
      receiver = occupied-inside r.node r.slot r.generation known.safe.object step.inv.base
          known.safe.there;
      reference = refl;
      known = (known, tt);
      targets = refl;
    } in
    post-moves sends step.becomes
program-moves {shape = shape} {c = c} i counts (event.Put object place register) plain step =
    let r : Ref = named (c i).local.heap object in
    let known : Known c i r =
    any-there (Known c i) (register_at (c i).local.heap object) no_reference step.passed.1.1.0
    ((known-roots i step.inv).registers object) in
    let sends : Sending shape c i r.node
    (body.Put r place (register_at (c i).local.heap register)) =
    record {
      inv = step.inv;
      inside = step.inside;
      receiver = occupied-inside r.node r.slot r.generation known.safe.object step.inv.base
          known.safe.there;
      reference = refl;
      known = (
        known,
        any-list (Known c i) (register_at (c i).local.heap register)
            ((known-roots i step.inv).registers register),
      );
      targets = refl;
    } in
    post-moves sends step.becomes
program-moves {shape = shape} {c = c} i counts (event.Get object place label) plain step =
    let r : Ref = named (c i).local.heap object in
    let known : Known c i r =
    any-there (Known c i) (register_at (c i).local.heap object) no_reference step.passed.1.0
    ((known-roots i step.inv).registers object) in
    let sends : Sending shape c i r.node (body.Get r place label) = record {
      inv = step.inv;
      inside = step.inside;
      receiver = occupied-inside r.node r.slot r.generation known.safe.object step.inv.base
          known.safe.there;
      reference = refl;
      known = (known, tt);
      targets = refl;
    } in
    post-moves sends step.becomes
program-moves i counts (event.Reclaim scope) plain step = absurd cc
program-moves i counts event.Begin plain step = absurd cc
program-moves i counts event.Scan plain step = absurd cc
program-moves i counts event.Pass plain step = absurd cc
program-moves i counts (event.Sweep count) plain step = absurd cc
program-moves i counts (event.Next from) plain step = let never = step.passed.1.0 in absurd cc
program-moves i counts (event.Data d) plain step =
    let own : is_own (event.Data d) ≡ true = step.own in absurd cc
program-moves i counts (event.Ack a) plain step =
    let own : is_own (event.Ack a) ≡ true = step.own in absurd cc
