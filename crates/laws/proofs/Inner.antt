-- A step of one node that changes no phase and moves no token. Objects are made, rewritten and
-- shaded; Marks and messages with references are sent and received. It keeps the invariant.
use Rattle.std.proofs.Common.{◌≡◌, ℕ, ℤ, ◌+◌, ◌<◌, ◌≤◌, ◌⊎◌, ◌==◌, not, Bool, true, false, List, [], length, get_or, Option, None, Some, refl, sym, ap, ◌∙◌, subst, ⊎_elim, inl, inr, arith}
use Rattle.std.specs.List.{AllByRecursion}
use Rattle.std.proofs.lemmas.Bool.{eq-eqb, ne_eqb, not_from_false, both_ways}
use Rattle.std.proofs.Math.Path.{fun_ext}
use Rattle.ids.specs.Limits.{Shaped}
use Rattle.ids.specs.declared.names.Ref.{Ref}
use Rattle.msg.specs.declared.body.Body.{Body}
use Rattle.msg.specs.declared.body.Body.TheVariants as body
use Rattle.msg.specs.declared.body.Token.{Token}
use Rattle.msg.specs.declared.body.Message.{Message}
use Rattle.model.specs.State.{Object, Slot, Occupied, Heap, Phases, Ring, LocalState, NodeState, slot_at, got_from, sent_to}
use Rattle.model.specs.Counting.{is_reference}
use Rattle.model.specs.Shading.{is_in, is_open}
use Rattle.model.specs.References.{IfAny}
use Rattle.model.specs.Steps.{carried, mentioned}
use Rattle.model.specs.Cuts.{Cut, taken, IsInFlight, Among}
use Rattle.model.proofs.Lookups.{all-map}
use Rattle.laws.proofs.Lookups.{any-map, among-or-not}
use Rattle.laws.proofs.Turns.{Turn, at_turn, flew, flies, sent-flies}
use Rattle.laws.proofs.Safra.{Safra}
use Rattle.laws.proofs.Base.{inside-where, BaseStep, base-step}
use Rattle.laws.proofs.Tallies.{bound-turn, tallies-turn}
use Rattle.laws.proofs.Invariant.{phases_of, cycle_of, Marking, Resting, Joined, Safe, Holds, holds_marked, holds_asked, Covered, is_marked, is_asked, RootsAll, PlacesAll, Tidy, Base, Phased, StampFits, BodyFits, is_single, Messages, Closed, Cover, Held, Rested, Flows, ringed, Tally, Spot, at_node, on_way, IsAt, is_held, is_sent, Round, Inv}

-- ---- what the invariant says of one reference

-- safe, and held by the node if it is marking
pub record Known (c : Cut) (i : ℕ) (r : Ref) : Type 0 where
  pub safe : Safe c r
  pub held : is_open (c i).local ≡ true → Holds (c i).local r

pub roots-map : {h : Heap} (P Q : Ref → Type 0) → ((r : Ref) → P r → Q r) → RootsAll P h
    → RootsAll Q h
roots-map {h = h} P Q each all = record {
  registers = λ k. any-map P Q each _ (all.registers k);
  letters = λ k. any-map P Q each _ (all.letters k);
}

known-any : (c : Cut) (i : ℕ) (o : Option Ref) → IfAny (Safe c) o
    → (is_open (c i).local ≡ true → IfAny (Holds (c i).local) o) → IfAny (Known c i) o
known-any c i None safe held = tt
known-any c i (Some r) safe held = record { safe = safe; held = held }

pub known-roots : {shape : Shaped} {c : Cut} (i : ℕ) → Inv shape c
    → RootsAll (Known c i) (c i).local.heap
known-roots {c = c} i inv = record {
  registers = λ k.
      known-any c i _ ((inv.closed.roots i).registers k)
      (λ opened. (inv.held.roots i opened).registers k);
  letters = λ k.
      known-any c i _ ((inv.closed.roots i).letters k)
      (λ opened. (inv.held.roots i opened).letters k);
}

pub resting-joined : {shape : Shaped} {c : Cut} {i : ℕ} → Inv shape c → Resting (phases_of c 0)
    → i < shape.nodes → Joined c i
resting-joined {c = c} {i = i} inv rest inside = ⊎_elim {C = Joined c i}
    (λ there. there)
    (λ behind. absurd (omega (arith, rest, behind.0)))
    (inv.phased.apart i inside)

-- a node sweeps only when marking has ended
pub sweeping-resting : {shape : Shaped} {c : Cut} {i : ℕ} → Inv shape c → i < shape.nodes
    → (phases_of c i).swept < (phases_of c i).ended → Resting (phases_of c 0)
sweeping-resting {c = c} {i = i} inv inside ready = ⊎_elim {C = Resting (phases_of c 0)}
    (λ joined.
    let x = inv.phased.cycle i in
    let y = inv.phased.ended i in
    let z = inv.phased.first i in
    let w = inv.phased.ended 0 in
    omega (arith, joined, x, y, z, w, ready))
    (λ behind. absurd (let y = inv.phased.ended i in omega (arith, behind.1, behind.2, y, ready)))
    (inv.phased.apart i inside)

pub marking-open : {shape : Shaped} {c : Cut} {i : ℕ} → Inv shape c → Marking (phases_of c 0)
    → Joined c i → is_open (c i).local ≡ true
marking-open {c = c} {i = i} inv marking joined =
    not_from_false _ (ne_eqb (c i).local.phases.ended (c i).local.phases.cycle
    (λ e. omega (arith, e, marking, joined, inv.phased.first i)))

pub open-joined : {shape : Shaped} {c : Cut} {i : ℕ} → Inv shape c → i < shape.nodes
    → is_open (c i).local ≡ true → Joined c i
open-joined {c = c} {i = i} inv inside opened = ⊎_elim {C = Joined c i}
    (λ there. there)
    (λ behind.
    absurd (let same : (c i).local.phases.ended ≡ (c i).local.phases.cycle =
    omega (arith, behind.1, behind.2, inv.phased.swept i, inv.phased.ended i) in
    let shut : is_open (c i).local ≡ false = ap not (eq-eqb _ _ same) in
    both_ways _ shut opened))
    (inv.phased.apart i inside)

pub occupied-inside : {shape : Shaped} {c : Cut} (i k g : ℕ) (o : Object) → Base shape c
    → slot_at (c i).local.heap k ≡ Occupied g o → i < shape.nodes
occupied-inside i k g o base there =
    inside-where i (λ z. slot_at z.local.heap k ≡ Occupied g o) base there (λ e. absurd cc)

pub holds-covered : {shape : Shaped} {c : Cut} {i : ℕ} {r : Ref} → Inv shape c
    → Marking (phases_of c 0) → i < shape.nodes → Joined c i → Holds (c i).local r → Covered c r
holds-covered {c = c} {i = i} {r = r} inv marking inside joined (holds_marked o own there mark) =
    let here : r.node ≡ i = own ∙ inv.base.own i inside in
    is_marked o (ap (λ (z : ℕ). slot_at (c z).local.heap r.slot) here ∙ there) (mark ∙ joined)
holds-covered {i = i} {r = r} inv marking inside joined (holds_asked far asked) =
    inv.cover.asked marking i r inside joined asked

pub mentioned-carried : (b : Body) → is_reference b ≡ true → mentioned b ≡ carried b
mentioned-carried (body.Mark target) is = absurd cc
mentioned-carried b is = refl

pub carried-mentioned : (b : Body) (r : Ref) → Among r (carried b) → Among r (mentioned b)
carried-mentioned (body.Mark target) r never = absurd never
carried-mentioned b r a = a

-- ---- the step

-- what stays as it was
pub record Same (p q : LocalState) : Type 0 where
  pub shape : q.shape ≡ p.shape
  pub own : q.own ≡ p.own
  pub phases : q.phases ≡ p.phases
  pub token : q.ring.token ≡ p.ring.token

-- The origin of the object y, which the node has afterwards. It was there before, and its places
-- hold what they held or known references; if it is no longer grey, it holds only known references.
-- Or it has just turned grey. Or it is new.
pub data Origin (c : Cut) (i : ℕ) (q : LocalState) (k g : ℕ) (y : Object) : Type 0 where
  kept : (x : Object) → slot_at (c i).local.heap k ≡ Occupied g x → y.mark ≡ x.mark
      → ((j : ℕ) → (get_or y.places j None ≡ get_or x.places j None)
      ⊎ IfAny (Known c i) (get_or y.places j None))
      → (Among k (c i).local.heap.grey → Among k q.heap.grey ⊎ PlacesAll (Known c i) y)
      → Origin c i q k g y
  greyed : (x : Object) → slot_at (c i).local.heap k ≡ Occupied g x
      → (Resting (phases_of c 0) → x.mark ≡ cycle_of c 0) → y.places ≡ x.places
      → y.mark ≡ cycle_of c i → Among k q.heap.grey → Origin c i q k g y
  fresh : y.mark ≡ cycle_of c i → PlacesAll (Known c i) y → Origin c i q k g y

-- the object in a slot stays there, and so does its mark, unless it is marked now
pub record StaysIn (s : Slot) (cycle g : ℕ) (x : Object) : Type 0 where
  pub object : Object
  pub there : s ≡ Occupied g object
  pub mark : (object.mark ≡ x.mark) ⊎ (object.mark ≡ cycle)

abbrev pub TargetsAt : ℕ → Body → Type 0
TargetsAt to (body.Put target place reference) = target.node ≡ to
TargetsAt to (body.Get target place label) = target.node ≡ to
TargetsAt to (body.Fetch target label offset count) = target.node ≡ to
TargetsAt to b = Unit {0}

-- what the node sends
pub data Sent (n : ℕ) (c : Cut) (i to : ℕ) (x : Message) : Type 0 where
  sends_mark : (r : Ref) → x ≡ record { stamp = cycle_of c i; body = body.Mark r } → r.node ≡ to
      → to < n → Safe c r → Marking (phases_of c 0) → Joined c i → Sent n c i to x
  sends_reference : x.stamp ≡ cycle_of c i → is_reference x.body ≡ true → to < n
      → AllByRecursion (Known c i) (carried x.body) → TargetsAt to x.body → Sent n c i to x

-- What the step keeps true at its node: of the heap, of what was asked for, and of what is sent.
pub record Preserves (shape : Shaped) (c : Cut) (i : ℕ) (q : LocalState) (ms : List (ℕ × Message))
    : Type 0 where
  pub tidy : Tidy q
  pub origin : (k g : ℕ) (y : Object) → slot_at q.heap k ≡ Occupied g y → Origin c i q k g y
  pub lasting : (k g : ℕ) (x : Object) → slot_at (c i).local.heap k ≡ Occupied g x
      → StaysIn (slot_at q.heap k) (cycle_of c i) g x
  pub roots : RootsAll (Known c i) q.heap
  pub resting : Resting (phases_of c 0) → q.heap.grey ≡ []
  pub still : (r : Ref) → is_in r (c i).local.asked ≡ true → is_in r q.asked ≡ true
  pub asks : Marking (phases_of c 0) → Joined c i → (r : Ref) → is_in r q.asked ≡ true
      → (is_in r (c i).local.asked ≡ true)
      ⊎ (Covered c r
      ⊎ ((r.node < shape.nodes)
      × Among (r.node, record { stamp = cycle_of c i; body = body.Mark r }) ms))
  pub sends : (to : ℕ) (x : Message) → Among (to, x) ms → Sent shape.nodes c i to x

-- neither the heap changes nor what was asked for
pub unshaded : {shape : Shaped} {c : Cut} {i : ℕ} {got : List ℕ} {ring : Ring}
    {ms : List (ℕ × Message)} → Inv shape c
    → ((to : ℕ) (x : Message) → Among (to, x) ms → Sent shape.nodes c i to x)
    → Preserves shape c i (record (c i).local { got = got; ring = ring }) ms
unshaded {i = i} inv sends = record {
  tidy = record {
    free = (inv.tidy i).free;
    room = (inv.tidy i).room;
    marks = (inv.tidy i).marks;
    calm = (inv.tidy i).calm;
  };
  origin = λ k g y there. kept y there refl (λ j. inl refl) (λ a. inl a);
  lasting = λ k g y there. record { object = y; there = there; mark = inl refl };
  roots = known-roots i inv;
  resting = λ rest. inv.rested.grey i rest;
  still = λ r asked. asked;
  asks = λ _ _ r asked. inl asked;
  sends = sends;
}

pub record Inner (shape : Shaped) (c d : Cut) (i : ℕ) (q : LocalState) (ms : List (ℕ × Message))
    : Type 0 where
  pub inv : Inv shape c
  pub inside : i < shape.nodes
  pub turn : Turn c d i q ms
  pub same : Same (c i).local q
  pub heard : length q.got ≡ length (c i).local.got
  pub within : (from : ℕ) → got_from q from ≤ length (sent_to (c from) i)
  pub preserves : Preserves shape c i q ms
  pub tokens : (from place stamp : ℕ) (t : Token)
      → IsInFlight c from i place (record { stamp = stamp; body = body.Token t })
      → got_from q from ≤ place
  pub cover : Marking (phases_of c 0) → (r : Ref) → Covered c r → Covered d r
  pub flows : Flows shape.nodes d
  pub tally : Tally shape.nodes (d i)
  pub safra : (t : ℕ) (z : ℤ) (b : Bool) → Safra shape.nodes (ringed c) t z b
      → Safra shape.nodes (ringed d) t z b

module _ {shape : Shaped} {c d : Cut} {i : ℕ} {q : LocalState} {ms : List (ℕ × Message)}
    (h : Inner shape c d i q ms) where
  pub same-phases : phases_of d ≡ phases_of c
  same-phases =
      fun_ext (at_turn (λ j s. s.local.phases ≡ phases_of c j) h.turn h.same.phases (λ j _. refl))

  same-first : phases_of d 0 ≡ phases_of c 0
  same-first = ap (λ (z : ℕ → Phases). z 0) same-phases

  pub same-cycle : cycle_of d 0 ≡ cycle_of c 0
  same-cycle = ap (λ (z : Phases). z.cycle) same-first

  marking-back : Marking (phases_of d 0) → Marking (phases_of c 0)
  marking-back = subst Marking same-first

  resting-back : Resting (phases_of d 0) → Resting (phases_of c 0)
  resting-back = subst Resting same-first

  -- every object of every node stays
  stays : (j k g : ℕ) (x : Object) → slot_at (c j).local.heap k ≡ Occupied g x
      → StaysIn (slot_at (d j).local.heap k) (cycle_of c j) g x
  stays j k g x =
      at_turn (λ l s. slot_at (c l).local.heap k ≡ Occupied g x
      → StaysIn (slot_at s.local.heap k) (cycle_of c l) g x) h.turn
      (h.preserves.lasting k g x)
      (λ l _ there. record { object = x; there = there; mark = inl refl }) j

  pub safe-kept : (r : Ref) → Safe c r → Safe d r
  safe-kept r safe =
      let found = stays r.node r.slot r.generation safe.object safe.there in
      record {
        object = found.object;
        there = found.there;
        marked = λ rest.
            let before = resting-back rest in
            ⊎_elim {C = found.object.mark ≡ cycle_of d 0}
            (λ same. same ∙ safe.marked before ∙ sym same-cycle)
            (λ now.
            now
            ∙ resting-joined h.inv before
            (occupied-inside r.node r.slot r.generation safe.object h.inv.base safe.there)
            ∙ sym same-cycle)
            found.mark;
      }

  -- what the node held it still holds
  holds-kept : (r : Ref) → Holds (c i).local r → Holds q r
  holds-kept r (holds_marked o own there mark) =
      let found = h.preserves.lasting r.slot r.generation o there in
      let cycle : q.phases.cycle ≡ cycle_of c i = ap (λ (z : Phases). z.cycle) h.same.phases in
      holds_marked found.object (own ∙ sym h.same.own) found.there
      (⊎_elim {C = found.object.mark ≡ q.phases.cycle}
      (λ same. same ∙ mark ∙ sym cycle) (λ now. now ∙ sym cycle) found.mark)
  holds-kept r (holds_asked far asked) =
      holds_asked (λ (e : r.node ≡ q.own). far (e ∙ h.same.own)) (h.preserves.still r asked)

  open-back : is_open q ≡ true → is_open (c i).local ≡ true
  open-back = subst (λ (z : Phases). not (z.ended == z.cycle) ≡ true) h.same.phases

  pub known-kept : (r : Ref) → Known c i r → Known d i r
  known-kept r known =
      let now : (d i).local ≡ q = ap (λ (z : NodeState). z.local) h.turn.becomes.changed in
      record {
        safe = safe-kept r known.safe;
        held = λ opened.
            subst (λ (z : LocalState). Holds z r) (sym now)
            (holds-kept r
            (known.held (open-back (subst (λ (z : LocalState). is_open z ≡ true) now opened))));
      }

  step-base : Base shape d
  step-base =
      let step : BaseStep shape c d i q ms = record {
        inside = h.inside;
        turn = h.turn;
        own = h.same.own;
        same_shape = h.same.shape;
        heard = h.heard;
        within = h.within;
      } in
      base-step step h.inv.base

  -- ---- messages

  -- a new message fits
  sent-fits : (to : ℕ) (x : Message) → Sent shape.nodes c i to x
      → BodyFits shape.nodes (phases_of c) i to x.stamp x.body
  sent-fits to x (sends_mark r is node inside safe marking joined) =
      subst (λ (z : Message). BodyFits shape.nodes (phases_of c) i to z.stamp z.body) (sym is)
      (node, marking, joined)
  sent-fits to x (sends_reference stamp reference inside known targets) =
      fits-reference x.body reference targets
      (⊎_elim {C = StampFits (phases_of c 0) x.stamp}
      (λ joined. inl (stamp ∙ joined))
      (λ behind.
      inr
      (behind.0, (let e : x.stamp + 1 ≡ cycle_of c 0 = omega (arith, stamp, behind.1) in e)))
      (h.inv.phased.apart i h.inside))
    where
      fits-reference : (b : Body) → is_reference b ≡ true → TargetsAt to b
          → StampFits (phases_of c 0) x.stamp → BodyFits shape.nodes (phases_of c) i to x.stamp b
      fits-reference (body.Give label reference) is here stamp = stamp
      fits-reference (body.Put target place reference) is here stamp = (here, stamp)
      fits-reference (body.Get target place label) is here stamp = (here, stamp)
      fits-reference (body.Post label references bytes) is here stamp = stamp
      fits-reference (body.Fetch target label offset count) is here stamp = (here, stamp)
      fits-reference b is here stamp = absurd cc

  sent-plain : (to : ℕ) (x : Message) → Sent shape.nodes c i to x → is_single x.body ≡ false
  sent-plain to x (sends_mark r is node inside safe marking joined) =
      ap (λ (z : Message). is_single z.body) is
  sent-plain to x (sends_reference stamp reference inside known targets) = plain x.body reference
    where
      plain : (b : Body) → is_reference b ≡ true → is_single b ≡ false
      plain body.Ended is = absurd cc
      plain body.Swept is = absurd cc
      plain b is = refl

  -- a single message was in flight before
  single-before : (from to place : ℕ) (x : Message) → IsInFlight d from to place x
      → is_single x.body ≡ true → IsInFlight c from to place x
  single-before from to place x flight single = ⊎_elim {C = IsInFlight c from to place x}
      (λ before. before)
      (λ new. absurd (both_ways _ (sent-plain to x (h.preserves.sends to x new.1)) single))
      (flew h.turn from to place x flight)

  step-messages : Messages shape.nodes d
  step-messages = record {
    fits = λ from to place x flight.
        subst (λ (z : ℕ → Phases). BodyFits shape.nodes z from to x.stamp x.body) (sym same-phases)
        (⊎_elim {C = BodyFits shape.nodes (phases_of c) from to x.stamp x.body}
        (λ before. h.inv.messages.fits from to place x before)
        (λ new.
        subst (λ (z : ℕ). BodyFits shape.nodes (phases_of c) z to x.stamp x.body) (sym new.0)
        (sent-fits to x (h.preserves.sends to x new.1)))
        (flew h.turn from to place x flight));
    once = λ from to k l x y fx fy same single.
        h.inv.messages.once from to k l x y (single-before from to k x fx single)
        (single-before from to l y fy (ap is_single (sym same) ∙ single)) same single;
  }

  -- ---- references

  safe-any : (o : Option Ref) → IfAny (Safe c) o → IfAny (Safe d) o
  safe-any = any-map (Safe c) (Safe d) safe-kept

  known-safe : (o : Option Ref) → IfAny (Known c i) o → IfAny (Safe d) o
  known-safe = any-map (Known c i) (Safe d) (λ r known. safe-kept r known.safe)

  places-safe : (k g : ℕ) (y : Object) → Origin c i q k g y
      → (Resting (phases_of c 0) → y.mark ≡ cycle_of c 0) → PlacesAll (Safe d) y
  places-safe k g y (kept x was mark places grey) marked j =
      ⊎_elim {C = IfAny (Safe d) (get_or y.places j None)}
      (λ same.
      subst (IfAny (Safe d)) (sym same)
      (safe-any _ (h.inv.closed.places i k g x was (λ rest. sym mark ∙ marked rest) j)))
      (λ known. known-safe _ known)
      (places j)
  places-safe k g y (greyed x was before same mark grey) marked j =
      subst (λ (z : List (Option Ref)). IfAny (Safe d) (get_or z j None)) (sym same)
      (safe-any _ (h.inv.closed.places i k g x was before j))
  places-safe k g y (fresh mark known) marked j = known-safe _ (known j)

  sent-safe : (to : ℕ) (x : Message) → Sent shape.nodes c i to x
      → AllByRecursion (Safe d) (mentioned x.body)
  sent-safe to x (sends_mark r is node inside safe marking joined) =
      subst (λ (z : Message). AllByRecursion (Safe d) (mentioned z.body)) (sym is)
      (safe-kept r safe, tt)
  sent-safe to x (sends_reference stamp reference inside known targets) =
      subst (λ (z : List Ref). AllByRecursion (Safe d) z) (sym (mentioned-carried x.body reference))
      (all-map (Known c i) (Safe d) (λ r k. safe-kept r k.safe) (carried x.body) known)

  step-closed : Closed d
  step-closed = record {
    roots = at_turn (λ j s. RootsAll (Safe d) s.local.heap) h.turn
        (roots-map (Known c i) (Safe d) (λ r known. safe-kept r known.safe) h.preserves.roots)
        (λ j _. roots-map (Safe c) (Safe d) safe-kept (h.inv.closed.roots j));
    places = λ j k g o there marked.
        at_turn (λ l s. slot_at s.local.heap k ≡ Occupied g o → PlacesAll (Safe d) o) h.turn
        (λ t. places-safe k g o (h.preserves.origin k g o t)
        (λ rest. marked (subst Resting (sym same-first) rest) ∙ same-cycle))
        (λ l _ t m. safe-any _ (h.inv.closed.places l k g o t
        (λ rest. marked (subst Resting (sym same-first) rest) ∙ same-cycle) m))
        j there;
    messages = λ from to place x flight. ⊎_elim {C = AllByRecursion (Safe d) (mentioned x.body)}
        (λ before.
        all-map (Safe c) (Safe d) safe-kept (mentioned x.body)
        (h.inv.closed.messages from to place x before))
        (λ new. sent-safe to x (h.preserves.sends to x new.1))
        (flew h.turn from to place x flight);
  }

  -- ---- what is covered

  asked-covered : Marking (phases_of c 0) → Joined c i → (r : Ref) → is_in r q.asked ≡ true
      → Covered d r
  asked-covered marking joined r asked = ⊎_elim {C = Covered d r}
      (λ before. h.cover marking r (h.inv.cover.asked marking i r h.inside joined before))
      (λ later. ⊎_elim {C = Covered d r}
      (λ covered. h.cover marking r covered)
      (λ sent.
      let mark : Message = record { stamp = cycle_of c i; body = body.Mark r } in
      let heard : taken d i r.node ≤ length (sent_to (c i) r.node) =
      at_turn (λ j s. got_from s.local i ≤ length (sent_to (c i) j)) h.turn
      (h.within i) (λ j _. h.inv.base.within i j) r.node in
      let found = sent-flies h.turn r.node mark
      (let w : r.node < length (c i).sent = omega (arith, sent.0, h.inv.base.width i h.inside) in w)
      heard sent.1 in
      is_asked i found.place
      (subst
      (λ (z : ℕ). IsInFlight d i r.node found.place (record { stamp = z; body = body.Mark r }))
      (joined ∙ sym same-cycle) found.flight))
      later)
      (h.preserves.asks marking joined r asked)

  sent-covered : Marking (phases_of c 0) → (to : ℕ) (x : Message) → Sent shape.nodes c i to x
      → x.stamp ≡ cycle_of c 0 → AllByRecursion (Covered d) (carried x.body)
  sent-covered marking to x (sends_mark r is node inside safe m joined) stamp =
      subst (λ (z : Message). AllByRecursion (Covered d) (carried z.body)) (sym is) tt
  sent-covered marking to x (sends_reference at reference inside known targets) stamp =
      let joined : Joined c i = sym at ∙ stamp in
      all-map (Known c i) (Covered d)
      (λ r k.
      h.cover marking r
      (holds-covered h.inv marking h.inside joined (k.held (marking-open h.inv marking joined))))
      (carried x.body) known

  step-cover : Cover shape.nodes d
  step-cover = record {
    asked = λ marking j r inside joined asked.
        at_turn (λ l s. l < shape.nodes → s.local.phases.cycle ≡ cycle_of d 0
        → is_in r s.local.asked ≡ true → Covered d r) h.turn
        (λ _ there a.
        asked-covered (marking-back marking)
        (ap (λ (z : Phases). z.cycle) (sym h.same.phases) ∙ there ∙ same-cycle) r a)
        (λ l _ within there a.
        h.cover (marking-back marking) r
        (h.inv.cover.asked (marking-back marking) l r within (there ∙ same-cycle) a))
        j inside joined asked;
    messages = λ marking from to place x flight stamp.
        ⊎_elim {C = AllByRecursion (Covered d) (carried x.body)}
        (λ before.
        all-map (Covered c) (Covered d) (h.cover (marking-back marking)) (carried x.body)
        (h.inv.cover.messages (marking-back marking) from to place x before (stamp ∙ same-cycle)))
        (λ new.
        sent-covered (marking-back marking) to x (h.preserves.sends to x new.1)
        (stamp ∙ same-cycle))
        (flew h.turn from to place x flight);
  }

  -- ---- what is held

  known-holds : is_open (c i).local ≡ true → (o : Option Ref) → IfAny (Known c i) o
      → IfAny (Holds q) o
  known-holds opened = any-map (Known c i) (Holds q) (λ r k. holds-kept r (k.held opened))

  places-held : is_open (c i).local ≡ true → (k g : ℕ) (y : Object) → Origin c i q k g y
      → y.mark ≡ q.phases.cycle → (Among k q.heap.grey → ⊥) → PlacesAll (Holds q) y
  places-held opened k g y (kept x was mark places grey) marked black =
      ⊎_elim {C = PlacesAll (Holds q) y}
      (λ there. ⊎_elim {C = PlacesAll (Holds q) y}
      (λ still. absurd (black still))
      (λ known j. known-holds opened _ (known j))
      (grey there))
      (λ never j. ⊎_elim {C = IfAny (Holds q) (get_or y.places j None)}
      (λ same.
      subst (IfAny (Holds q)) (sym same)
      (any-map (Holds (c i).local) (Holds q) holds-kept _
      (h.inv.held.blacks i k g x opened was
      (sym mark ∙ marked ∙ ap (λ (z : Phases). z.cycle) h.same.phases) never j)))
      (λ known. known-holds opened _ known)
      (places j))
      (among-or-not k (c i).local.heap.grey)
  places-held opened k g y (greyed x was before same mark grey) marked black = absurd (black grey)
  places-held opened k g y (fresh mark known) marked black = λ j. known-holds opened _ (known j)

  step-held : Held d
  step-held = record {
    roots = at_turn (λ j s. is_open s.local ≡ true → RootsAll (Holds s.local) s.local.heap) h.turn
        (λ opened.
        roots-map (Known c i) (Holds q) (λ r k. holds-kept r (k.held (open-back opened)))
        h.preserves.roots)
        (λ j _. h.inv.held.roots j);
    blacks = λ j k g o.
        at_turn (λ l s. is_open s.local ≡ true → slot_at s.local.heap k ≡ Occupied g o
        → o.mark ≡ s.local.phases.cycle → (Among k s.local.heap.grey → ⊥)
        → PlacesAll (Holds s.local) o) h.turn
        (λ opened there. places-held (open-back opened) k g o (h.preserves.origin k g o there))
        (λ l _. h.inv.held.blacks l k g o) j;
  }

  -- ---- when marking has ended

  behind-marked : (k g : ℕ) (y : Object) → Resting (phases_of c 0) → Origin c i q k g y
      → (k < (c i).local.phases.cursor) ⊎ ((c i).local.phases.swept ≡ cycle_of c 0)
      → y.mark ≡ cycle_of c 0
  behind-marked k g y rest (kept x was mark places grey) past =
      mark ∙ h.inv.rested.behind i k g x rest was past
  behind-marked k g y rest (greyed x was before same mark grey) past =
      mark ∙ resting-joined h.inv rest h.inside
  behind-marked k g y rest (fresh mark known) past = mark ∙ resting-joined h.inv rest h.inside

  step-rested : Rested d
  step-rested = record {
    grey = λ j rest.
        at_turn (λ l s. s.local.heap.grey ≡ []) h.turn (h.preserves.resting (resting-back rest))
        (λ l _. h.inv.rested.grey l (resting-back rest)) j;
    behind = λ j k g o rest there past.
        at_turn (λ l s. slot_at s.local.heap k ≡ Occupied g o
        → (k < s.local.phases.cursor) ⊎ (s.local.phases.swept ≡ cycle_of d 0)
        → o.mark ≡ cycle_of d 0) h.turn
        (λ t p.
        behind-marked k g o (resting-back rest) (h.preserves.origin k g o t)
        (subst (λ (z : Phases). (k < z.cursor) ⊎ (z.swept ≡ cycle_of c 0)) h.same.phases
        (subst (λ (z : ℕ). (k < q.phases.cursor) ⊎ (q.phases.swept ≡ z)) same-cycle p))
        ∙ sym same-cycle)
        (λ l _ t p.
        h.inv.rested.behind l k g o (resting-back rest) t
        (subst (λ (z : ℕ). (k < (c l).local.phases.cursor) ⊎ ((c l).local.phases.swept ≡ z))
        same-cycle p)
        ∙ sym same-cycle)
        j there past;
  }

  -- ---- tokens

  token-back : (t : Token) (s : Spot) → IsAt d t s → IsAt c t s
  token-back t (at_node j) (is_held j0 held) =
      is_held j0
      (at_turn (λ l s. s.local.ring.token ≡ Some t → (c l).local.ring.token ≡ Some t) h.turn
      (λ e. sym h.same.token ∙ e) (λ l _ e. e) j0 held)
  token-back t (on_way from to place) (is_sent f0 t0 p0 stamp flight) =
      is_sent f0 t0 p0 stamp
      (⊎_elim {C = IsInFlight c f0 t0 p0 (record { stamp = stamp; body = body.Token t })}
      (λ before. before)
      (λ new. absurd (no-token _ (h.preserves.sends t0 _ new.1) t refl))
      (flew h.turn f0 t0 p0 _ flight))
    where
      no-token : {to : ℕ} (x : Message) → Sent shape.nodes c i to x → (k : Token)
          → x.body ≡ body.Token k → ⊥
      no-token x (sends_mark r is node inside safe marking joined) k e =
          absurd
          (let same : body.Mark r ≡ body.Token k = ap (λ (z : Message). z.body) (sym is) ∙ e in
          cc)
      no-token x (sends_reference stamp reference inside known targets) k e =
          absurd
          (let never : is_reference (body.Token k) ≡ true =
          ap is_reference (sym e) ∙ reference in
          cc)

  token-on : (t : Token) (s : Spot) → IsAt c t s → IsAt d t s
  token-on t (at_node j) (is_held j0 held) =
      is_held j0
      (at_turn (λ l s. (c l).local.ring.token ≡ Some t → s.local.ring.token ≡ Some t) h.turn
      (λ e. h.same.token ∙ e) (λ l _ e. e) j0 held)
  token-on t (on_way from to place) (is_sent f0 t0 p0 stamp flight) =
      is_sent f0 t0 p0 stamp
      (flies h.turn f0 t0 p0 _ flight
      (at_turn (λ l s. IsInFlight c f0 l p0 (record { stamp = stamp; body = body.Token t })
      → got_from s.local f0 ≤ p0) h.turn
      (λ f. h.tokens f0 p0 stamp t f) (λ l _ f. f.later) t0 flight))

  step-round : Round shape.nodes c → Round shape.nodes d
  step-round round = record {
    token = round.token;
    spot = round.spot;
    there = token-on round.token round.spot round.there;
    only = λ t s at. round.only t s (token-back t s at);
    near = round.near;
    joined = λ j e.
        ap (λ (z : ℕ → Phases). (z j).cycle) same-phases ∙ round.joined j e ∙ sym same-cycle;
    safra = h.safra _ _ _ round.safra;
    bound = bound-turn h.turn round.bound;
  }

  pub inner-inv : Inv shape d
  inner-inv = record {
    base = step-base;
    tidy = at_turn (λ j s. Tidy s.local) h.turn h.preserves.tidy (λ j _. h.inv.tidy j);
    phased = subst (Phased shape.nodes) (sym same-phases) h.inv.phased;
    messages = step-messages;
    closed = step-closed;
    cover = step-cover;
    held = step-held;
    rested = step-rested;
    flows = h.flows;
    tokens = record {
      round = λ marking. step-round (h.inv.tokens.round (marking-back marking));
      rest = λ t s rest at. h.inv.tokens.rest t s (resting-back rest) (token-back t s at);
    };
    tallies = tallies-turn shape.nodes h.turn h.tally h.inv.tallies;
  }
