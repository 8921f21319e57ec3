-- Only a Sweep, a Reclaim and a restart lose objects, and what is gone doesn't come back.
use Rattle.std.proofs.Common.{◌≡◌, ◌≢◌, ℕ, Ok, ◌+◌, ◌<◌, ◌==◌, true, false, List, [], ◌∷◌, length, map, set, ◌++◌, sym, subst, refl, ◌∙◌, ap, arith, ⊎_elim}
use Rattle.std.proofs.lemmas.Bool.{cases_eq, cond_both, false≢true}
use Rattle.ids.specs.Limits.{Shaped, IsShape}
use Rattle.ids.specs.declared.limits.TheConstants.{GREATEST_GENERATION}
use Rattle.ids.specs.declared.names.Ref.{Ref}
use Rattle.model.specs.declared.event.Event.{Event}
use Rattle.model.specs.declared.event.Event.TheVariants as event
use Rattle.model.specs.declared.event.Answer.{Answer}
use Rattle.model.specs.declared.step.Step.{Step}
use Rattle.model.specs.declared.step.Step.TheVariants as step
use Rattle.model.specs.State.{Object, Slot, Free, Occupied, Retired, NodeState, no_node, node_at, slot_at}
use Rattle.model.specs.Heaps.{rewritten, next_generation}
use Rattle.model.specs.Collecting.{vacated_slot}
use Rattle.model.specs.Reclaiming.{slot_aged}
use Rattle.model.specs.Steps.{act, frees, is_own, receive}
use Rattle.model.specs.World.{World, new_world, happens, run}
use Rattle.model.proofs.Lookups.{at_set_if}
use Rattle.model.proofs.Slots.{occupied-within}
use Rattle.laws.specs.Statements.{OfEveryRun, StaysUp}
use Rattle.laws.specs.Freeing.{Exists, may_lose, OthersLoseNothing, GoneForGood}
use Rattle.laws.proofs.StepFacts.{Delivery, act-ok, Receipt, repeated, next, receipt-cases, Happening, nothing, acted, delivered, saved, restarted, happening}
use Rattle.laws.proofs.Invariant.{IsFree, Tidy}
use Rattle.laws.proofs.Lasting.{IsKept, IsKeptFreed, At, Keeps, keeps-own, keeps-taken}
use Rattle.laws.proofs.Past.{PastSlot, past-kept, past-freed, occupied-past}
use Rattle.laws.proofs.progress.Paths.{run-append}
use Rattle.laws.proofs.Live.{all-inv}

-- ---- the slot has an object of this generation

abbrev pub Has : Slot → ℕ → Type 0
Has (Free n) e = ⊥
Has (Occupied g o) e = g ≡ e
Has Retired e = ⊥

pub has-kept : IsKept Has
has-kept = record { rewritten = has-rewritten; made = has-made }
  where
    has-rewritten : (f : Object → Object) (g : ℕ) (s : Slot) (e : ℕ) → Has s e
        → Has (rewritten f g s) e
    has-rewritten f g (Free n) e h = absurd h
    has-rewritten f g (Occupied n o) e h = h
    has-rewritten f g Retired e h = absurd h

    has-made : (s : Slot) (o : Object) (e : ℕ) → IsFree s → Has s e
        → Has (Occupied (next_generation s) o) e
    has-made (Free n) o e free h = absurd h
    has-made (Occupied n x) o e free h = absurd cc
    has-made Retired o e free h = absurd h

-- ---- the slot had an object of this generation, which is gone

abbrev pub Lost : Slot → ℕ → Type 0
Lost (Free n) e = e < n
Lost (Occupied g o) e = e < g
Lost Retired e = Unit {0}

pub lost-kept : IsKept Lost
lost-kept = record { rewritten = lost-rewritten; made = lost-made }
  where
    lost-rewritten : (f : Object → Object) (g : ℕ) (s : Slot) (e : ℕ) → Lost s e
        → Lost (rewritten f g s) e
    lost-rewritten f g (Free n) e h = h
    lost-rewritten f g (Occupied n o) e h = h
    lost-rewritten f g Retired e h = h

    lost-made : (s : Slot) (o : Object) (e : ℕ) → IsFree s → Lost s e
        → Lost (Occupied (next_generation s) o) e
    lost-made (Free n) o e free h = h
    lost-made (Occupied n x) o e free h = absurd cc
    lost-made Retired o e free h = absurd cc

pub lost-freed : IsKeptFreed Lost
lost-freed = record { vacated = lost-vacated; aged = lost-aged }
  where
    lost-vacated : (g : ℕ) (o : Object) (e : ℕ) → e < g → Lost (vacated_slot g) e
    lost-vacated g o e h =
        cond_both (g == GREATEST_GENERATION) Retired (Free (g + 1)) (λ z. Lost z e)
        (λ _. tt) (λ _. (let w : e < g + 1 = omega (arith, h) in w))

    lost-aged : (s : Slot) (e : ℕ) → Lost s e → Lost (slot_aged s) e
    lost-aged (Free n) e h = h
    lost-aged (Occupied n o) e h = h
    lost-aged Retired e h = h

-- ---- an event or a message

received-keeps : {Q : Slot → ℕ → Type 0} → IsKept Q → (s : NodeState) (m : Delivery)
    (t : NodeState) (a : Answer) → Receipt s m t a → Keeps Q s.local.heap t.local.heap
received-keeps {Q = Q} kept s m t a (repeated same says) k e x =
    subst (λ (z : NodeState). At Q z.local.heap k e) (sym same) x
received-keeps {Q = Q} kept s m t a (next turn may found) k e x =
    subst (λ (z : NodeState). At Q z.local.heap k e) (sym found.state)
    (keeps-taken kept s.local m.from m.number m.message.stamp m.message.body k e x)

own-keeps : {Q : Slot → ℕ → Type 0} → IsKept Q → (s : NodeState) (e : Event) (t : NodeState)
    (a : Answer) → is_own e ≡ true → act s e ≡ Ok (t, a) → (frees e ≡ true → IsKeptFreed Q)
    → Tidy s.local → Keeps Q s.local.heap t.local.heap
own-keeps {Q = Q} kept s e t a own answered may tidy k g x =
    subst (λ (z : NodeState). At Q z.local.heap k g) (sym (act-ok s e t a answered).state)
    (keeps-own kept s.local (map length s.sent) e own may tidy.free k g x)

-- what is kept when a node is given an event, which may bring a message
pub act-keeps : {Q : Slot → ℕ → Type 0} → IsKept Q → (s : NodeState) (e : Event) (t : NodeState)
    (a : Answer) → act s e ≡ Ok (t, a) → (frees e ≡ true → IsKeptFreed Q) → Tidy s.local
    → Keeps Q s.local.heap t.local.heap
unfolding act receive
act-keeps kept s (event.Data d) t a answered may tidy =
    let m : Delivery = record {
      from = d.from;
      to = d.to;
      number = d.number;
      message = record { stamp = d.stamp; body = d.body };
    } in
    received-keeps kept s m t a (receipt-cases s m t a answered)
act-keeps {Q = Q} kept s (event.Ack x) t a answered may tidy =
    λ k e held.
    subst (λ (z : NodeState). At Q z.local.heap k e)
    (sym (act-ok s (event.Ack x) t a answered).state) held
act-keeps kept s e t a answered may tidy = own-keeps kept s e t a refl answered may tidy

-- ---- a step

-- the node is in no step restarted, and each step that frees keeps the property too
record Spares (Q : Slot → ℕ → Type 0) (n : ℕ) (s : Step) : Type 0 where
  freed : (i : ℕ) (e : Event) → s ≡ step.Act i e → frees e ≡ true → IsKeptFreed Q
  stays : s ≢ step.Restart n

abbrev HoldsAt : (Slot → ℕ → Type 0) → World → ℕ → ℕ → ℕ → Type 0
HoldsAt Q w n k e = At Q (node_at w.current n).local.heap k e

abbrev AllTidy : World → Type 0
AllTidy w = (i : ℕ) → Tidy (node_at w.current i).local

-- a node changes so that it keeps the property
kept-changed : {Q : Slot → ℕ → Type 0} (w : World) (i : ℕ) (t : NodeState) (n k e : ℕ)
    → Keeps Q (node_at w.current i).local.heap t.local.heap → HoldsAt Q w n k e
    → HoldsAt Q (record w { current = set w.current i t }) n k e
kept-changed {Q = Q} w i t n k e keeps x =
    at_set_if (λ (z : NodeState). At Q z.local.heap k e) w.current i n t no_node
    (λ (same : i ≡ n).
    keeps k e (subst (λ (m : ℕ). HoldsAt Q w m k e) (sym same) x))
    x

happening-keeps : {Q : Slot → ℕ → Type 0} {s : Step} → IsKept Q → (w v : World) → Happening w s v
    → AllTidy w → (n k e : ℕ) → Spares Q n s → HoldsAt Q w n k e → HoldsAt Q v n k e
happening-keeps kept w v nothing tidy n k e spares x = x
happening-keeps kept w v (acted i ev t a is did) tidy n k e spares x =
    kept-changed w i t n k e
    (own-keeps kept (node_at w.current i) ev t a did.own did.answered (spares.freed i ev is)
    (tidy i))
    x
happening-keeps kept w v (delivered m t a did) tidy n k e spares x =
    let s : NodeState = node_at w.current m.to in
    kept-changed w m.to t n k e
    (received-keeps kept s m t a (receipt-cases s m t a did.answered)) x
happening-keeps kept w v (saved i within) tidy n k e spares x = x
happening-keeps {Q = Q} kept w v (restarted i is within) tidy n k e spares x =
    at_set_if (λ (z : NodeState). At Q z.local.heap k e) w.current i n (node_at w.saved i) no_node
    (λ (same : i ≡ n). absurd (spares.stays (is ∙ ap step.Restart same)))
    x

step-keeps : {Q : Slot → ℕ → Type 0} → IsKept Q → (w : World) (s : Step) → AllTidy w → (n k e : ℕ)
    → Spares Q n s → HoldsAt Q w n k e → HoldsAt Q (happens w s) n k e
step-keeps kept w s tidy n k e spares x =
    happening-keeps kept w (happens w s) (happening w s) tidy n k e spares x

-- ---- what is there, and what is gone

pub slot-has : (s : Slot) (e : ℕ) → Has s e → (o : Object) × (s ≡ Occupied e o)
slot-has (Free n) e h = absurd h
slot-has (Occupied g o) e h = (o, ap (λ (z : ℕ). Occupied z o) h)
slot-has Retired e h = absurd h

exists-has : (w : World) (r : Ref) → Exists w r → HoldsAt Has w r.node r.slot r.generation
exists-has w r live =
    let h = (node_at w.current r.node).local.heap in
    record {
      used = occupied-within h.slots r.slot r.generation live.object live.there;
      holds = subst (λ (s : Slot). Has s r.generation) (sym live.there) refl;
    }

has-exists : (w : World) (r : Ref) → HoldsAt Has w r.node r.slot r.generation → Exists w r
has-exists w r has =
    let found =
    slot-has (slot_at (node_at w.current r.node).local.heap r.slot) r.generation has.holds in
    record { object = found.0; there = found.1 }

tidy-after : (shape : Shaped) → IsShape shape → (steps later : List Step)
    → AllTidy (run (run (new_world shape) steps) later)
tidy-after shape limits steps later =
    subst AllTidy (run-append (new_world shape) steps later)
    (all-inv shape limits (steps ++ later) (λ _. false)).tidy

none-lost : (s : Step) (n : ℕ) → may_lose s ≡ false → Spares Has n s
none-lost s n none = record {
  freed = λ i e is frees.
      absurd (false≢true (sym none ∙ ap may_lose is ∙ frees));
  stays = λ is. false≢true (sym none ∙ ap may_lose is);
}

pub others-lose-nothing : OfEveryRun OthersLoseNothing
others-lose-nothing shape limits steps s r none live =
    let w : World = run (new_world shape) steps in
    has-exists (happens w s) r
    (step-keeps has-kept w s (tidy-after shape limits steps []) r.node r.slot r.generation
    (none-lost s r.node none) (exists-has w r live))

-- ---- what is gone stays so

spares-all : {Q : Slot → ℕ → Type 0} → IsKeptFreed Q → (n : ℕ) (s : Step) → s ≢ step.Restart n
    → Spares Q n s
spares-all freed n s stays = record { freed = λ i e is frees. freed; stays = stays }

-- a generation that was given out, and has no object, is lost
pub past-lost : (s : Slot) (e : ℕ) → PastSlot s e → (Has s e → ⊥) → Lost s e
past-lost (Free n) e past none = past
past-lost (Occupied g o) e past none =
    ⊎_elim {C = e < g} (λ same. absurd (none same)) (λ other. omega (arith, past, other))
    (cases_eq g e)
past-lost Retired e past none = tt

pub lost-never : (s : Slot) (e : ℕ) → Lost s e → Has s e → ⊥
lost-never (Free n) e lost has = has
lost-never (Occupied g o) e lost has = omega (arith, lost, has)
lost-never Retired e lost has = has

run-lost : (w : World) (steps : List Step) → ((some : List Step) → AllTidy (run w some)) → (r : Ref)
    → StaysUp r.node steps → HoldsAt Lost w r.node r.slot r.generation
    → HoldsAt Lost (run w steps) r.node r.slot r.generation
run-lost w [] tidy r stays x = x
run-lost w (s ∷ ss) tidy r stays x =
    run-lost (happens w s) ss (λ some. tidy (s ∷ some)) r stays.1
    (step-keeps lost-kept w s (tidy []) r.node r.slot r.generation
    (spares-all lost-freed r.node s stays.0) x)

pub gone-for-good : OfEveryRun GoneForGood
gone-for-good shape limits steps s later r live gone stays again =
    let w : World = run (new_world shape) steps in
    let v : World = happens w s in
    let past : HoldsAt PastSlot v r.node r.slot r.generation =
    step-keeps past-kept w s (tidy-after shape limits steps []) r.node r.slot r.generation
    (spares-all past-freed r.node s stays.0)
    (let at = occupied-past (node_at w.current r.node).local.heap r.slot r.generation live.object
    live.there in record { used = at.used; holds = at.past }) in
    let slot : Slot = slot_at (node_at v.current r.node).local.heap r.slot in
    let lost : HoldsAt Lost v r.node r.slot r.generation = record {
      used = past.used;
      holds = past-lost slot r.generation past.holds
          (λ has. gone (has-exists v r (record { used = past.used; holds = has })));
    } in
    let still =
    run-lost v later (λ some. tidy-after shape limits steps (s ∷ some)) r stays.1 lost in
    lost-never (slot_at (node_at (run v later).current r.node).local.heap r.slot) r.generation
    still.holds (exists-has (run v later) r again).holds
