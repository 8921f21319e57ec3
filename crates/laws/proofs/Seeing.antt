-- A space without a collector keeps matching a cut while the cut takes a plain step. It has the
-- same registers and letters, the same messages of programs in flight, and the same in every object
-- that its node still has.
use Rattle.std.proofs.Common.{◌≡◌, ◌≢◌, ℕ, ◌+◌, ◌<◌, ◌≤◌, Bool, true, false, ◌==◌, ◌&&◌, eqb, List, [], ◌∷◌, ◌++◌, length, map, drop, get_or, set, Option, option_to_list, refl, sym, ap, ◌∙◌, subst, ⊎_elim, arith, append_assoc, get_or-set_same, get_or-set_other, ltb-true}
use Rattle.std.specs.Prelude.{is_some}
use Rattle.std.proofs.lemmas.Bool.{cases_eq, cond-true, cond-false, eq-eqb, ne_eqb, eqb-true, and_from}
use Rattle.std.proofs.Math.Path.{fun_ext}
use Rattle.model.specs.References.{IfAny}
use Rattle.ids.specs.Limits.{Shaped}
use Rattle.ids.specs.declared.names.Ref.{Ref}
use Rattle.msg.specs.declared.body.Body.{Body}
use Rattle.msg.specs.declared.body.Body.TheVariants as body
use Rattle.msg.specs.declared.body.Message.{Message}
use Rattle.model.specs.declared.event.Event.{Event}
use Rattle.model.specs.declared.event.Event.TheVariants as event
use Rattle.model.specs.declared.event.Answer.{Answer}
use Rattle.model.specs.Checks.{AllPass}
use Rattle.model.specs.State.{Object, LocalState, NodeState, slot_at, got_from, sent_to}
use Rattle.model.specs.Heaps.{is_filled, named, no_reference, object_at, place_of, place_loaded, fetched}
use Rattle.model.specs.Effects.{Work, Effect}
use Rattle.model.specs.Counting.{is_reference, stamped, append}
use Rattle.model.specs.Shading.{joined, see_to}
use Rattle.model.specs.Steps.{tests, made, is_own, take_carried, count_in, take_body, settled, taken_in, append_all, post}
use Rattle.model.specs.Cuts.{Cut, taken, IsInFlight, Becomes}
use Rattle.laws.specs.Objects.{Space, with_messages, is_program, does, arrives}
use Rattle.laws.specs.Sights.{programs}
use Rattle.model.proofs.Slots.{object-there}
use Rattle.model.proofs.Leaving.{own-stands, taken-stands}
use Rattle.model.proofs.Walk.{quiet-walks, work_in}
use Rattle.laws.proofs.Lookups.{any-there}
use Rattle.laws.proofs.StepFacts.{Stepped}
use Rattle.laws.proofs.Turns.{at_becomes}
use Rattle.laws.proofs.Moves.{worked}
use Rattle.laws.proofs.Invariant.{Safe, Inv}
use Rattle.laws.proofs.Inner.{occupied-inside}
use Rattle.laws.proofs.Deliveries.{target-own, target-mentioned}
use Rattle.laws.proofs.Past.{PastAt, Ages, ages-own, ages-taken}
use Rattle.laws.proofs.GoodHeaps.{own_reference}
use Rattle.laws.proofs.Things.{still-through, quiet-append, posts, posts-append, quiet-posts, sent-posts, drop-first}
use Rattle.laws.proofs.Unseen.{none-quiet, before_body, Calm, calm-before, unseen-own, calm-collects}
use Rattle.laws.proofs.Doings.{Here, IsMade, Effects, here-kept, effects-none, effects-behind, Doing, own-does, Following, body-does}
use Rattle.laws.proofs.Telling.{Ready}

-- The space matches the cut if this many messages of each link count as received. Every object that
-- its node still has is as it was made. No object was made under a reference that wasn't given out.
pub record SameAt (heard : ℕ → ℕ → ℕ) (s : Space) (c : Cut) : Type 0 where
  pub here : (i : ℕ) → Here s i (c i).local.heap
  pub past : (i k g : ℕ) → IsMade s (own_reference i k g) → PastAt (c i).local.heap k g
  pub messages : (from to : ℕ)
      → s.under_way from to ≡ programs (drop (heard from to) (sent_to (c from) to))

abbrev pub Same : Space → Cut → Type 0
Same s c = SameAt (taken c) s c

pub same-becomes : {s : Space} {c d : Cut} → ((i : ℕ) → d i ≡ c i) → Same s c → Same s d
same-becomes {s = s} same h = subst (λ (z : Cut). Same s z) (sym (fun_ext same)) h

-- ---- one node changes

-- The node i becomes q and sends the messages. The space before has in flight what the cut
-- afterwards hasn't received.
pub record Stepping (s t : Space) (c d : Cut) (i : ℕ) (q : LocalState) (ms : List (ℕ × Message))
    : Type 0 where
  pub becomes : Becomes c d i (record { local = q; sent = append_all (c i).sent ms })
  pub same : SameAt (taken d) s c
  pub effects : Effects s t i q.heap ms
  pub ages : Ages (c i).local q
  pub within : (to : ℕ) → taken d i to ≤ length (sent_to (c i) to)
  pub inside : (to : ℕ) → length (c i).sent ≤ to → posts to ms ≡ []

pub same-step : {s t : Space} {c d : Cut} {i : ℕ} {q : LocalState} {ms : List (ℕ × Message)}
    → Stepping s t c d i q ms → Same t d
same-step {s = s} {t = t} {c = c} {d = d} {i = i} {ms = ms} h = record {
  here = at_becomes (λ j z. Here t j z.local.heap) h.becomes h.effects.here
      (λ j other. record {
        desk = h.effects.desks j other ∙ (h.same.here j).desk;
        lives = λ k g o there.
            h.effects.objects (own_reference j k g) other ∙ (h.same.here j).lives k g o there;
      });
  past = at_becomes (λ j z. (k g : ℕ) → IsMade t (own_reference j k g)
      → PastAt z.local.heap k g) h.becomes
      (λ k g made. ⊎_elim (λ before. h.ages.past k g (h.same.past i k g before)) (λ new. new)
      (h.effects.past k g made))
      (λ j other k g made.
      h.same.past j k g
      (made.0, sym (h.effects.objects (own_reference j k g) other) ∙ made.1));
  messages = λ from to.
      at_becomes (λ j z. t.under_way j to ≡ programs (drop (taken d j to) (sent_to z to))) h.becomes
      (h.effects.sends to
      ∙ ap (λ (z : List Body). z ++ posts to ms) (h.same.messages i to)
      ∙ sym (sent-posts (c i).sent ms to (taken d i to) (h.within to) (h.inside to)))
      (λ j other. h.effects.others j to other ∙ h.same.messages j to) from;
}

-- ---- what a register names

pub safe-there : {c : Cut} (r : Ref) (i : ℕ) → r.node ≡ i → Safe c r
    → is_some (object_at (c i).local.heap r) ≡ true
safe-there {c = c} r i own safe =
    ap (λ (z : Option Object). is_some z)
    (object-there (slot_at (c i).local.heap r.slot) r.generation safe.object
    (ap (λ (z : ℕ). slot_at (c z).local.heap r.slot) (sym own) ∙ safe.there))

named-safe : {shape : Shaped} {c : Cut} (i object : ℕ) → Inv shape c
    → is_filled (c i).local.heap object ≡ true → Safe c (named (c i).local.heap object)
named-safe {c = c} i object inv filled =
    any-there (Safe c) _ no_reference filled ((inv.closed.roots i).registers object)

named-inside : {shape : Shaped} {c : Cut} (i object : ℕ) → Inv shape c
    → is_filled (c i).local.heap object ≡ true → (named (c i).local.heap object).node < shape.nodes
named-inside i object inv filled =
    let safe = named-safe i object inv filled in
    occupied-inside _ _ _ safe.object inv.base safe.there

-- a node of the cut
pub record At (shape : Shaped) (s : Space) (c : Cut) (i : ℕ) : Type 0 where
  pub inv : Inv shape c
  pub inside : i < shape.nodes
  pub same : Same s c

here-own : {shape : Shaped} {s : Space} {c : Cut} {i : ℕ} → At shape s c i
    → Here s (c i).local.own (c i).local.heap
here-own {s = s} {c = c} {i = i} x =
    subst (λ (z : ℕ). Here s z (c i).local.heap) (sym (x.inv.base.own i x.inside)) (x.same.here i)

pub ready : {shape : Shaped} {s : Space} {c : Cut} {i : ℕ} → At shape s c i
    → Ready s (c i).local
ready {c = c} {i = i} x = record {
  here = here-own x;
  there = λ object filled own.
      safe-there (named (c i).local.heap object) i
      (eqb-true _ _ own ∙ x.inv.base.own i x.inside) (named-safe i object x.inv filled);
}

pub doing : {shape : Shaped} {s : Space} {c : Cut} {i : ℕ} {e : Event} → At shape s c i
    → AllPass (tests (c i).local e) → Doing s (c i).local e
doing {s = s} {c = c} {i = i} x passed = record {
  here = here-own x;
  past =
      subst (λ (z : ℕ). (k g : ℕ) → IsMade s (own_reference z k g)
      → PastAt (c i).local.heap k g) (sym (x.inv.base.own i x.inside)) (x.same.past i);
  free = (x.inv.tidy i).free;
  passed = passed;
}

-- ---- a node's own event

one-inside : (j : ℕ) (y : Message) (n to : ℕ) → j < n → n ≤ to → posts to ((j, y) ∷ []) ≡ []
one-inside j y n to inside past =
    ap programs (cond-false (eqb j to) (y ∷ []) []
    (ne_eqb j to (λ e. absurd (omega (arith, e, inside, past)))))

own-inside : {shape : Shaped} {s : Space} {c : Cut} {i : ℕ} (counts : List ℕ) (e : Event)
    → is_own e ≡ true → At shape s c i → AllPass (tests (c i).local e) → (to : ℕ)
    → shape.nodes ≤ to → posts to (made (c i).local counts e).sends ≡ []
unfolding append
own-inside {c = c} {i = i} counts event.Begin own x passed to past =
    quiet-posts to _ (unseen-own (c i).local counts event.Begin refl refl).quiet
own-inside {c = c} {i = i} counts event.Scan own x passed to past =
    quiet-posts to _ (unseen-own (c i).local counts event.Scan refl refl).quiet
own-inside {c = c} {i = i} counts event.Pass own x passed to past =
    quiet-posts to _ (unseen-own (c i).local counts event.Pass refl refl).quiet
own-inside {c = c} {i = i} counts (event.Sweep count) own x passed to past =
    quiet-posts to _ (unseen-own (c i).local counts (event.Sweep count) refl refl).quiet
own-inside counts (event.Data m) never x passed to past = absurd cc
own-inside counts (event.Ack m) never x passed to past = absurd cc
own-inside {c = c} {i = i} counts (event.Load register object place) own x passed to past =
    let p : LocalState = (c i).local in
    let rs : List Ref = option_to_list (place_loaded p.heap object place) in
    quiet-posts to ((see_to true rs p).sends ++ [])
    (quiet-append _ [] (calm-collects.sees true rs p).quiet none-quiet)
own-inside {shape = shape} {c = c} {i = i} counts (event.Give j label register) own x passed to past
    =
    let below : j < (c i).local.shape.nodes = ltb-true j _ passed.0 in
    let same : (c i).local.shape.nodes ≡ shape.nodes =
    ap (λ (z : Shaped). z.nodes) (x.inv.base.shapes i x.inside) in
    one-inside j _ shape.nodes to (omega (arith, below, same)) past
own-inside {shape = shape} {c = c} {i = i} counts (event.Post j label first count bytes) own x
    passed to past =
    let below : j < (c i).local.shape.nodes = ltb-true j _ passed.0 in
    let same : (c i).local.shape.nodes ≡ shape.nodes =
    ap (λ (z : Shaped). z.nodes) (x.inv.base.shapes i x.inside) in
    one-inside j _ shape.nodes to (omega (arith, below, same)) past
own-inside {shape = shape} {c = c} {i = i} counts (event.Fetch object label offset count) own x
    passed to past =
    one-inside (named (c i).local.heap object).node _ shape.nodes to
    (named-inside i object x.inv passed.1.0) past
own-inside {shape = shape} {c = c} {i = i} counts (event.Put object place register) own x passed to
    past =
    one-inside (named (c i).local.heap object).node _ shape.nodes to
    (named-inside i object x.inv passed.1.1.0) past
own-inside {shape = shape} {c = c} {i = i} counts (event.Get object place label) own x passed to
    past =
    one-inside (named (c i).local.heap object).node _ shape.nodes to
    (named-inside i object x.inv passed.1.0) past
own-inside counts e own x passed to past = refl

-- what the event leaves if the other space becomes t
own-step : {shape : Shaped} {s t : Space} {c d : Cut} {i : ℕ} (counts : List ℕ) (e : Event)
    → is_own e ≡ true → At shape s c i → AllPass (tests (c i).local e)
    → Becomes c d i (worked (c i) (work_in (made (c i).local counts e)))
    → Effects s t i (made (c i).local counts e).local.heap (made (c i).local counts e).sends
    → Same t d
own-step {s = s} {t = t} {c = c} {d = d} {i = i} counts e own x passed becomes effects =
    let p : LocalState = (c i).local in
    let stands = own-stands p counts e own in
    let heard : (from to : ℕ) → taken d from to ≡ taken c from to =
    λ from to.
    at_becomes (λ j z. got_from z.local from ≡ taken c from j) becomes
    (ap (λ (z : List ℕ). get_or z from 0) stands.got) (λ j _. refl) to in
    same-step {s = s} {t = t} {q = (made p counts e).local} {ms = (made p counts e).sends} (record {
      becomes = becomes;
      same = record {
        here = x.same.here;
        past = x.same.past;
        messages = λ from to.
            x.same.messages from to
            ∙ ap (λ (z : ℕ). programs (drop z (sent_to (c from) to))) (sym (heard from to));
      };
      effects = effects;
      ages = ages-own p counts e own (x.inv.tidy i).free;
      within = λ to. (let w = x.inv.base.within i to in omega (arith, w, heard i to));
      inside = λ to past.
          own-inside counts e own x passed to
          (let w = x.inv.base.width i x.inside in omega (arith, past, w));
    })

-- an event of a program
pub program-same : {shape : Shaped} {s : Space} {c d : Cut} {i : ℕ} (e : Event) (t : NodeState)
    (a : Answer) → is_program e ≡ true → is_own e ≡ true → At shape s c i
    → Stepped (c i) (tests (c i).local e) (made (c i).local (map length (c i).sent) e) t a
    → Becomes c d i t → Same (does s i e a) d
program-same {s = s} {c = c} {d = d} {i = i} e t a is own x found becomes =
    let p : LocalState = (c i).local in
    let counts : List ℕ = map length (c i).sent in
    own-step counts e own x found.passed
    (subst (λ (z : NodeState). Becomes c d i z) found.state becomes)
    (subst (λ (z : Answer). Effects s (does s i e z) i (made p counts e).local.heap
    (made p counts e).sends) (sym found.answer)
    (subst (λ (z : ℕ). Effects s (does s z e (made p counts e).answer) z
    (made p counts e).local.heap (made p counts e).sends) (x.inv.base.own i x.inside)
    (own-does p counts e is (doing x found.passed))))

-- an event of the collector
pub cycle-same : {shape : Shaped} {s : Space} {c d : Cut} {i : ℕ} (e : Event) (t : NodeState)
    (a : Answer) → is_program e ≡ false → is_own e ≡ true → At shape s c i
    → Stepped (c i) (tests (c i).local e) (made (c i).local (map length (c i).sent) e) t a
    → Becomes c d i t → Same s d
cycle-same {s = s} {c = c} {d = d} {i = i} e t a none own x found becomes =
    let p : LocalState = (c i).local in
    let counts : List ℕ = map length (c i).sent in
    let unseen = unseen-own p counts e own none in
    own-step counts e own x found.passed
    (subst (λ (z : NodeState). Becomes c d i z) found.state becomes)
    (effects-none (here-kept (x.same.here i) unseen.kept) unseen.quiet)

-- ---- a message is received

-- the first message in flight, which the node may receive
pub record Taking (shape : Shaped) (s : Space) (c d : Cut) (from to : ℕ) (x : Message) : Type 0
  where
    pub at : At shape s c to
    pub sender : from < shape.nodes
    pub apart : from ≢ to
    pub flight : IsInFlight c from to (taken c from to) x
    pub becomes : Becomes c d to
        (worked (c to)
        (work_in (taken_in (c to).local from (taken c from to + 1) x.stamp x.body)))

-- what its body makes the node send goes to the sender
body-inside : (from stamp : ℕ) (b : Body) (p : LocalState) (k n : ℕ) → from < n → n ≤ k
    → posts k (take_body from stamp b p).sends ≡ []
unfolding take_body append
body-inside from stamp (body.Give label reference) p k n inside past = refl
body-inside from stamp (body.Put target place reference) p k n inside past = refl
body-inside from stamp (body.Get target place label) p k n inside past =
    let v : Option Ref = place_of (object_at p.heap target) place in
    let w : Work = see_to true (option_to_list v) p in
    let last : List (ℕ × Message) = (post from (body.Give label v) w.local).sends in
    posts-append k w.sends last
    ∙ ap (λ (z : List Body). z ++ posts k last)
    (quiet-posts k w.sends (calm-collects.sees true (option_to_list v) p).quiet)
    ∙ one-inside from (stamped w.local (body.Give label v)) n k inside past
body-inside from stamp (body.Post label references bytes) p k n inside past = refl
body-inside from stamp (body.Fetch target label offset count) p k n inside past =
    one-inside from
    (stamped p (body.Post label [] (fetched (object_at p.heap target) offset count))) n k inside
    past
body-inside from stamp (body.Mark target) p k n inside past =
    quiet-posts k _ (quiet-walks calm-collects from stamp (body.Mark target) p refl).quiet
body-inside from stamp b p k n inside past = refl

-- how many were received afterwards
module _ {shape : Shaped} {s : Space} {c d : Cut} {from to : ℕ} {x : Message}
    (h : Taking shape s c d from to x) where
  takes-got : (d to).local.got ≡ set (c to).local.got from (taken c from to + 1)
  takes-got =
      ap (λ (z : NodeState). z.local.got) h.becomes.changed
      ∙ (taken-stands (c to).local from (taken c from to + 1) x.stamp x.body).got

  taken-one : taken d from to ≡ taken c from to + 1
  taken-one =
      ap (λ (z : List ℕ). get_or z from 0) takes-got
      ∙ get_or-set_same (c to).local.got from (taken c from to + 1) 0
      (let w = h.at.inv.base.heard to h.at.inside in
      let v = h.sender in
      let k : from < length (c to).local.got = omega (arith, w, v) in k)

  taken-else : (a b : ℕ) → (a ≡ from → b ≢ to) → taken d a b ≡ taken c a b
  taken-else a b other =
      at_becomes (λ j z. (a ≡ from → j ≢ to) → got_from z.local a ≡ taken c a j) h.becomes
      (λ o.
      ap (λ (z : List ℕ). get_or z a 0)
      (taken-stands (c to).local from (taken c from to + 1) x.stamp x.body).got
      ∙ get_or-set_other (c to).local.got from a (taken c from to + 1) 0
      (λ (e : a ≡ from). o e refl))
      (λ j _ o. refl) b other

  -- what is in flight after it
  abbrev pub rest : List Body
  rest = programs (drop (taken d from to) (sent_to (c from) to))

  first-is : s.under_way from to ≡ programs (x ∷ drop (taken d from to) (sent_to (c from) to))
  first-is =
      h.at.same.messages from to
      ∙ ap programs (drop-first (taken c from to) (sent_to (c from) to) x h.flight.there)
      ∙ ap (λ (z : ℕ). programs (x ∷ drop z (sent_to (c from) to))) (sym taken-one)

  -- this link, and all others
  on-link : (P : ℕ → ℕ → Type 0) → P from to
      → ((a b : ℕ) → (a ≡ from → b ≢ to) → P a b) → (a b : ℕ) → P a b
  on-link P here else a b = ⊎_elim {C = P a b}
      (λ (ea : a ≡ from). ⊎_elim {C = P a b}
      (λ (eb : b ≡ to).
      subst (λ (z : ℕ). P z b) (sym ea) (subst (λ (z : ℕ). P from z) (sym eb) here))
      (λ (nb : b ≢ to). else a b (λ _. nb))
      (cases_eq b to))
      (λ (na : a ≢ from). else a b (λ e. absurd (na e)))
      (cases_eq a from)

  else-same : (a b : ℕ) → (a ≡ from → b ≢ to)
      → s.under_way a b ≡ programs (drop (taken d a b) (sent_to (c a) b))
  else-same a b other =
      h.at.same.messages a b
      ∙ ap (λ (z : ℕ). programs (drop z (sent_to (c a) b))) (sym (taken-else a b other))

  -- a message of the collector doesn't change what is in flight
  quiet-stage : is_reference x.body ≡ false → SameAt (taken d) s c
  quiet-stage none = record {
    here = h.at.same.here;
    past = h.at.same.past;
    messages =
        on-link (λ a b. s.under_way a b ≡ programs (drop (taken d a b) (sent_to (c a) b)))
        (first-is ∙ cond-false (is_reference x.body) (x.body ∷ rest) rest none)
        else-same;
  }

  -- a message of a program leaves the link
  abbrev pub left : Space
  left = with_messages s from to rest

  left-stage : SameAt (taken d) left c
  left-stage = record {
    here = λ i. (let z = h.at.same.here i in record { desk = z.desk; lives = z.lives });
    past = h.at.same.past;
    messages =
        on-link (λ a b. left.under_way a b ≡ programs (drop (taken d a b) (sent_to (c a) b)))
        (cond-true ((from == from) && (to == to)) rest (s.under_way from to)
        (and_from (from == from) (to == to) (eq-eqb from from refl) (eq-eqb to to refl)))
        (λ a b other.
        cond-false ((a == from) && (b == to)) rest (s.under_way a b)
        (⊎_elim {C = ((a == from) && (b == to)) ≡ false}
        (λ (is : a ≡ from).
        ap (λ (z : Bool). z && (b == to)) (eq-eqb a from is) ∙ ne_eqb b to (other is))
        (λ (no : a ≢ from). ap (λ (z : Bool). z && (b == to)) (ne_eqb a from no))
        (cases_eq a from))
        ∙ else-same a b other);
  }

  -- what happens before the body is followed isn't seen
  abbrev first : Work
  first = before_body (c to).local x.stamp x.body

  calm-first : Calm (c to).local.heap first
  calm-first = calm-before (c to).local x.stamp x.body

  following : Following left to x.body first.local
  following = record {
    here = here-kept ((left-stage).here to) calm-first.still.kept;
    own = λ r about.
        subst (IfAny (λ (z : Ref). z.node ≡ to)) about
        (target-own shape.nodes c from to x.stamp x.body
        (h.at.inv.messages.fits from to (taken c from to) x h.flight));
    there = λ target about.
        (let safe : Safe c target =
        subst (IfAny (Safe c)) about
        (target-mentioned (Safe c) x.body
        (h.at.inv.closed.messages from to (taken c from to) x h.flight)) in
        let own : target.node ≡ to =
        subst (IfAny (λ (z : Ref). z.node ≡ to)) about
        (target-own shape.nodes c from to x.stamp x.body
        (h.at.inv.messages.fits from to (taken c from to) x h.flight)) in
        let later = calm-first.still.lasting target.slot target.generation safe.object
        (ap (λ (z : ℕ). slot_at (c z).local.heap target.slot) (sym own) ∙ safe.there) in
        ap (λ (z : Option Object). is_some z)
        (object-there (slot_at first.local.heap target.slot) target.generation later.0 later.1));
  }

  -- the step, if the other space becomes t
  taken-step : {r t : Space} → SameAt (taken d) r c
      → Effects r t to (take_body from x.stamp x.body first.local).local.heap
      (take_body from x.stamp x.body first.local).sends
      → Same t d
  unfolding taken_in settled count_in
  taken-step {r = r} {t = t} stage effects =
      let p : LocalState = (c to).local in
      let number : ℕ = taken c from to + 1 in
      let y : Effect = taken_in p from number x.stamp x.body in
      let done : Work = take_body from x.stamp x.body first.local in
      let sends : first.sends ++ done.sends ≡ y.sends =
      append_assoc (joined p x.stamp).sends
      (take_carried x.stamp x.body (joined p x.stamp).local).sends
      done.sends in
      same-step {s = r} {t = t} {q = y.local} {ms = y.sends} (record {
        becomes = h.becomes;
        same = stage;
        effects = subst (Effects r t to y.local.heap) sends
            (effects-behind first.sends calm-first.quiet effects);
        ages = ages-taken p from number x.stamp x.body;
        within = λ k.
            (let w = h.at.inv.base.within to k in
            let e : taken d to k ≡ taken c to k =
            taken-else to k (λ is. absurd (h.apart (sym is))) in
            omega (arith, w, e));
        inside = λ k past.
            (let w = h.at.inv.base.width to h.at.inside in
            ap (posts k) (sym sends)
            ∙ posts-append k first.sends done.sends
            ∙ ap (λ (z : List Body). z ++ posts k done.sends)
            (quiet-posts k first.sends calm-first.quiet)
            ∙ body-inside from x.stamp x.body first.local k shape.nodes h.sender
            (omega (arith, past, w)));
      })

  -- a message of a program arrives
  pub came-is : is_reference x.body ≡ true → s.under_way from to ≡ x.body ∷ rest
  came-is is = first-is ∙ cond-true (is_reference x.body) (x.body ∷ rest) rest is

  pub came-same : is_reference x.body ≡ true → Same (arrives s from to (s.under_way from to)) d
  came-same is =
      subst (λ (z : List Body). Same (arrives s from to z) d) (sym (came-is is))
      (taken-step left-stage (body-does from x.stamp x.body first.local is following))

  -- a message of the collector isn't seen
  pub quiet-same : is_reference x.body ≡ false → Same s d
  quiet-same none =
      let calm = quiet-walks calm-collects from x.stamp x.body first.local none in
      taken-step (quiet-stage none)
      (effects-none
      (here-kept (h.at.same.here to) (still-through calm-first.still calm.still).kept) calm.quiet)
