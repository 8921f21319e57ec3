-- A node's own events keep what is good, and so does a message that it receives.
use Rattle.std.proofs.Common.{◌≡◌, ℕ, suc, ◌+◌, ◌-◌, ◌<◌, ◌≤◌, ◌⊎◌, ◌==◌, ltb, ltb-true, true, false, not, cond, List, [], ◌∷◌, length, take, Option, None, Some, option_to_list, refl, sym, ap, ◌∙◌, subst, ⊎_elim, inl, inr, arith, le_refl}
use Rattle.std.proofs.lemmas.Bool.{cases_lt, cond_both, eqb-true, eq-eqb, not-true, not_from_true, and_parts}
use Rattle.ids.specs.declared.names.Ref.{Ref}
use Rattle.msg.specs.declared.body.Body.{Body}
use Rattle.msg.specs.declared.body.Body.TheVariants as body
use Rattle.msg.specs.declared.body.Message.{Message}
use Rattle.model.specs.declared.event.Event.{Event}
use Rattle.model.specs.declared.event.Event.TheVariants as event
use Rattle.model.specs.declared.event.Answer.TheVariants as answer
use Rattle.model.specs.declared.event.Letter.{Letter}
use Rattle.model.specs.Checks.{AllPass}
use Rattle.model.specs.State.{Object, Occupied, LocalState, slot_at, register_at, Phases, Heap}
use Rattle.model.specs.Heaps.{no_letter, no_reference, named, new_reference, oldest_letter, with_letter, object_at, place_of, place_loaded, overwritten, simple_letter, letters_of, letters_taken, with_letters, contents, fetched}
use Rattle.model.specs.References.{IfAny}
use Rattle.model.specs.Effects.{Work, at_rest, Effect, answers}
use Rattle.model.specs.Counting.{stamped}
use Rattle.model.specs.Shading.{filled, join, joined, last_grey, without_last_grey, see_to}
use Rattle.model.specs.Collecting.{without_token, whitened, is_concluded, new_token, forwarded, probe, begun, places_in, scan, scanned, conclude, judged, handed_on, passed, looked_at, sweeps_last, reports_sweep, sweeping, swept_slots}
use Rattle.model.specs.Reclaiming.{reclaimed}
use Rattle.model.specs.Steps.{is_own, tests, made, carried, taken_in, settled, take_carried, take_body, count_in}
use Rattle.model.specs.Cuts.{Among}
use Rattle.model.proofs.Lookups.{at_push}
use Rattle.model.proofs.Slots.{occupied-within}
use Rattle.model.proofs.Leaving.{stands-walks}
use Rattle.model.proofs.Shading.{see_to-none}
use Rattle.model.proofs.Joining.{join-phases}
use Rattle.model.proofs.Walk.{joined-walks, carried-walks, taken-roots}
use Rattle.laws.specs.Statements.{resolved}
use Rattle.laws.proofs.Resolving.{resolved-there}
use Rattle.laws.proofs.Lookups.{any-list, any-there, all-among}
use Rattle.laws.proofs.Invariant.{Tidy}
use Rattle.laws.proofs.Dressing.{option-holds}
use Rattle.laws.proofs.Sweeps.{SweptHeap, swept-some, Lessens, swept-lessens, reclaimed-lessens}
use Rattle.laws.proofs.GoodHeaps.{own_reference, read-good, last-among, fewer-among, grey-good, heap-rooted, heap-registered, heap-fewer_grey, heap-rewritten, heap-placed, word-good, bytes-good, heap-object, heap-less}
use Rattle.laws.proofs.Good.{GoodPart, GoodMessage, GoodDone, done-quiet, done-through, part-with, part-ringed, idle-good, append-good, post-good, announce-good, join-good, see-good}
use Rattle.model.proofs.References.{holds-filled, contents-any}
use Rattle.laws.proofs.Acting.{all-from}
use Rattle.laws.proofs.Letters.{roots-letters, roots-taken}
use Rattle.std.specs.List.{AllByRecursion}

-- what a node's own event also relies on
pub record Ready (p : LocalState) : Type 0 where
  pub tidy : Tidy p
  pub swept : p.phases.swept ≤ p.phases.ended
  pub ended : p.phases.ended ≤ p.phases.cycle
  -- while the node sweeps, everything behind its cursor is marked
  pub behind : p.phases.swept < p.phases.ended → (k g : ℕ) (o : Object)
      → slot_at p.heap k ≡ Occupied g o → k < p.phases.cursor → o.mark ≡ p.phases.cycle

-- a node that has swept its cycle has no grey object
pub swept-calm : (p : LocalState) → Tidy p
    → p.phases.swept ≤ p.phases.ended → p.phases.ended ≤ p.phases.cycle
    → p.phases.cycle ≤ p.phases.swept → p.heap.grey ≡ []
swept-calm p tidy swept ended done =
    tidy.calm (not_from_true _ (eq-eqb p.phases.ended p.phases.cycle
    (let e : p.phases.ended ≡ p.phases.cycle = omega (arith, swept, ended, done) in e)))

-- ---- messages with references

reference-good : {G : Ref → Type 0} {since : ℕ} (x : Message)
    → ((r : Ref) → x.body ≡ body.Mark r → ⊥) → ((r : Ref) → Among r (carried x.body) → G r)
    → GoodMessage G since x
reference-good x other all = record { carries = all; asks = λ r e _. absurd (other r e) }

option-good : (G : Ref → Type 0) (v : Option Ref) → IfAny G v → (r : Ref)
    → Among r (option_to_list v) → G r
option-good G v is r a = all-among G (option_to_list v) (any-list G v is) r a

in-option : (v : Option Ref) (r : Ref) → v ≡ Some r → Among r (option_to_list v)
in-option v r e = subst (λ (z : Option Ref). Among r (option_to_list z)) (sym e) (inl refl)

give-good : {G : Ref → Type 0} {since : ℕ} (stamp label : ℕ) (v : Option Ref) → IfAny G v
    → GoodMessage G since (record { stamp = stamp; body = body.Give label v })
give-good {G = G} stamp label v is =
    reference-good (record { stamp = stamp; body = body.Give label v }) (λ r e. absurd cc)
    (option-good G v is)

put-good : {G : Ref → Type 0} {since : ℕ} (stamp : ℕ) (target : Ref) (place : ℕ) (v : Option Ref)
    → G target → IfAny G v
    → GoodMessage G since (record { stamp = stamp; body = body.Put target place v })
put-good {G = G} stamp target place v here is =
    reference-good (record { stamp = stamp; body = body.Put target place v }) (λ r e. absurd cc)
    (λ r a.
    ⊎_elim {C = G r} (λ (e : r ≡ target). subst G (sym e) here) (λ b. option-good G v is r b) a)

get-good : {G : Ref → Type 0} {since : ℕ} (stamp : ℕ) (target : Ref) (place label : ℕ) → G target
    → GoodMessage G since (record { stamp = stamp; body = body.Get target place label })
get-good {G = G} stamp target place label here =
    reference-good (record { stamp = stamp; body = body.Get target place label })
    (λ r e. absurd cc)
    (λ r a.
    ⊎_elim {C = G r} (λ (e : r ≡ target). subst G (sym e) here) (λ never. absurd never) a)

post-is-good : {G : Ref → Type 0} {since : ℕ} (stamp label : ℕ) (rs : List (Option Ref))
    (bytes : List ℕ) → ((r : Ref) → Among r (filled rs) → G r)
    → GoodMessage G since (record { stamp = stamp; body = body.Post label rs bytes })
post-is-good stamp label rs bytes all =
    reference-good (record { stamp = stamp; body = body.Post label rs bytes }) (λ r e. absurd cc)
    all

fetch-good : {G : Ref → Type 0} {since : ℕ} (stamp : ℕ) (target : Ref) (label offset count : ℕ)
    → G target
    → GoodMessage G since (record { stamp = stamp; body = body.Fetch target label offset count })
fetch-good {G = G} stamp target label offset count here =
    reference-good (record { stamp = stamp; body = body.Fetch target label offset count })
    (λ r e. absurd cc)
    (λ r a.
    ⊎_elim {C = G r} (λ (e : r ≡ target). subst G (sym e) here) (λ never. absurd never) a)

-- ---- steps of a collection cycle

scan-good : {G : Ref → Type 0} {since : ℕ} (p : LocalState) → (length p.heap.grey == 0) ≡ false
    → GoodPart G since p → GoodDone G since (scan p).local (scan p).sends
unfolding scan
scan-good p busy good =
    see-good true (filled (places_in (slot_at p.heap (last_grey p.heap))))
    (record p { heap = without_last_grey p.heap })
    (part-with (without_last_grey p.heap) good
    (heap-fewer_grey (take (length p.heap.grey - 1) p.heap.grey) (fewer-among p.heap busy)
    good.heap))
    (λ there r a. grey-good (last_grey p.heap) good.heap (last-among p.heap busy) there r a)

probe-good : {G : Ref → Type 0} {since : ℕ} (p : LocalState) → GoodPart G since p
    → GoodDone G since (probe p).local (probe p).sends
unfolding probe
probe-good p good =
    append-good (p.shape.nodes - 1) (body.Token new_token) (record p { ring = whitened p.ring })
    (idle-good (stamped p (body.Token new_token)) refl) (part-ringed (whitened p.ring) good)

begun-good : {G : Ref → Type 0} {since : ℕ} (p : LocalState) → p.heap.grey ≡ [] → GoodPart G since p
    → GoodDone G since (begun p).local (begun p).sends
unfolding begun
begun-good p calm good =
    let first = join-good p (p.phases.cycle + 1) calm (omega arith) good in
    let second = done-through first (probe-good (join p (p.phases.cycle + 1)).local first.part) in
    done-through second (announce-good body.Begin _ refl second.part)

passed-good : {G : Ref → Type 0} {since : ℕ} (p : LocalState) → GoodPart G since p
    → GoodDone G since (passed p).local (passed p).sends
unfolding passed conclude
passed-good {G = G} {since = since} p good =
    cond_both (p.own == 0) (judged p) (handed_on p)
    (λ (x : Effect). GoodDone G since x.local x.sends)
    (λ _.
    cond_both (is_concluded p.ring)
    (answers (conclude p) (answer.Ended p.phases.cycle))
    (answers (probe (record p { ring = without_token p.ring })) answer.ProbeAgain)
    (λ (x : Effect). GoodDone G since x.local x.sends)
    (λ _.
    announce-good body.Ended
    (record p {
      phases = record p.phases { ended = p.phases.cycle };
      ring = without_token p.ring;
    })
    refl (record { heap = good.heap; asked = good.asked; phase = good.phase }))
    (λ _.
    probe-good (record p { ring = without_token p.ring })
    (part-ringed (without_token p.ring) good)))
    (λ _.
    append-good (p.own - 1) (body.Token (forwarded p.ring))
    (record p { ring = whitened (without_token p.ring) })
    (idle-good (stamped p (body.Token (forwarded p.ring))) refl)
    (part-ringed (whitened (without_token p.ring)) good))

swept-good : {G : Ref → Type 0} {since : ℕ} (p : LocalState) (count : ℕ)
    → p.phases.swept < p.phases.ended → Ready p → GoodPart G since p
    → GoodDone G since (swept_slots p count).local (swept_slots p count).sends
unfolding swept_slots
swept-good {G = G} {since = since} p count ready r good = record {
  part = record {
    heap = heap-less now (swept-lessens heap) kept good.heap;
    asked = good.asked;
    phase =
        cond_both (sweeps_last p count) p.phases.cycle p.phases.swept (λ z. z ≤ p.phases.cycle)
        (λ _. le_refl _) (λ _. good.phase);
  };
  sends = λ to x.
      cond_both (reports_sweep p count) ((0, stamped p body.Swept) ∷ []) []
      (λ z. Among (to, x) z → GoodMessage G since x)
      (λ _ a.
      ⊎_elim {C = GoodMessage G since x}
      (λ (e : (to, x) ≡ (0, stamped p body.Swept)).
      subst (GoodMessage G since) (sym (ap (λ (z : ℕ × Message). z.1) e))
      (idle-good (stamped p body.Swept) refl))
      (λ never. absurd never) a)
      (λ _ never. absurd never);
}
  where
    to : ℕ
    to = p.phases.cursor + looked_at p count

    now : ℕ
    now = cond (sweeps_last p count) p.phases.cycle p.phases.swept

    heap : SweptHeap p.phases.cycle p.phases.cursor to p.heap (sweeping p count).heap
    heap =
        swept-some p.phases.cycle p.phases.cursor (looked_at p count)
        (record { heap = p.heap; freed = 0 })

    -- after the last slot, everything that is left is marked
    kept : (k e : ℕ) (y : Object) → slot_at (sweeping p count).heap k ≡ Occupied e y
        → now ≤ y.mark
    kept k e y there =
        let was = heap.back k e y there in
        cond_both (sweeps_last p count) p.phases.cycle p.phases.swept (λ z. z ≤ y.mark)
        (λ last.
        let inside : k < length p.heap.slots = occupied-within p.heap.slots k e y was.0 in
        let whole : to ≡ length p.heap.slots = eqb-true to (length p.heap.slots) last in
        let mark : y.mark ≡ p.phases.cycle =
        ⊎_elim {C = y.mark ≡ p.phases.cycle}
        (λ (before : k < p.phases.cursor). r.behind ready k e y was.0 before)
        (λ (later : p.phases.cursor ≤ k). was.1 later (omega (arith, inside, whole)))
        (cases_lt k p.phases.cursor) in
        omega (arith, mark))
        (λ _. good.heap.kept k e y was.0)

-- ---- a node's own events

abbrev pub IsAlloc : Event → Type 0
IsAlloc (event.Alloc register places) = Unit {0}
IsAlloc e = ⊥

-- what a Resolve brings back is marked in the node's cycle
resolved-good : {G : Ref → Type 0} {since : ℕ} (p : LocalState) (register : ℕ) (r : Ref)
    → AllPass (tests p (event.Resolve register r)) → GoodPart G since p → since ≤ p.phases.cycle
    → G r
resolved-good {G = G} {since = since} p register r passes good there =
    let x = resolved-there p register r passes in
    subst (λ (z : ℕ). G (own_reference z r.slot r.generation)) (sym x.own)
    (good.heap.marks r.slot r.generation x.object x.there
    (let w = x.marked in omega (arith, w, there)))

-- If the reference of an object that is made is good, and what is resolved before the cycle
-- `since`.
pub own-good : {G : Ref → Type 0} {since : ℕ} (p : LocalState) (counts : List ℕ) (e : Event)
    → is_own e ≡ true → AllPass (tests p e) → Ready p
    → (IsAlloc e → G (new_reference p.own p.heap))
    → ((r : Ref) → resolved e ≡ Some r → (since ≤ p.phases.cycle) ⊎ G r) → GoodPart G since p
    → GoodDone G since (made p counts e).local (made p counts e).sends
unfolding scanned
own-good p counts (event.Alloc register places) own passes r new back good =
    done-quiet (part-with _ good
    (heap-registered register (Some (new_reference p.own p.heap))
    (heap-object (not p.shape.wide) places r.tidy.free good.phase (new tt) good.heap)
    (new tt)))
own-good p counts (event.Copy register source) own passes r new back good =
    done-quiet (part-with _ good
    (heap-registered register (register_at p.heap source) good.heap
    (good.heap.roots.registers source)))
own-good p counts (event.Drop register) own passes r new back good =
    done-quiet (part-with _ good (heap-registered register None good.heap tt))
own-good {G = G} p counts (event.Load register object place) own passes r new back good =
    let v : Option Ref = place_loaded p.heap object place in
    let is : IfAny G v =
    read-good (named p.heap object) place good.heap
    (eqb-true (named p.heap object).node p.own passes.1.1.1.0)
    (any-there G (register_at p.heap object) no_reference passes.1.1.0
    (good.heap.roots.registers object)) in
    let first = see-good true (option_to_list v) p good (λ _. option-good G v is) in
    done-through first
    (done-quiet (part-with _ first.part (heap-registered register v first.part.heap is)))
own-good p counts (event.Store object place register) own passes r new back good =
    done-quiet (part-with _ good
    (heap-placed p.own (named p.heap object) place (register_at p.heap register)
    (good.heap.roots.registers register) good.heap))
own-good p counts (event.Clear object place) own passes r new back good =
    done-quiet (part-with _ good
    (heap-placed p.own (named p.heap object) place None tt good.heap))
own-good p counts (event.Word object) own passes r new back good = done-quiet good
own-good p counts (event.SetWord object word) own passes r new back good =
    done-quiet (part-with _ good
    (heap-rewritten (named p.heap object) _ (word-good word) good.heap))
own-good p counts (event.SetBytes object bytes) own passes r new back good =
    done-quiet (part-with _ good
    (heap-rewritten (named p.heap object) _ (bytes-good (λ _. bytes.now)) good.heap))
own-good p counts (event.Patch object offset bytes) own passes r new back good =
    done-quiet (part-with _ good
    (heap-rewritten (named p.heap object) _
    (bytes-good (λ old. overwritten old offset bytes.now)) good.heap))
own-good p counts (event.Give to label register) own passes r new back good =
    post-good to (body.Give label (register_at p.heap register)) p
    (give-good p.phases.cycle label (register_at p.heap register)
    (good.heap.roots.registers register)) good
own-good {G = G} p counts (event.Post to label first count bytes) own passes r new back good =
    let rs : List (Option Ref) = contents p.heap first count in
    let known : AllByRecursion G (filled rs) =
    holds-filled G rs (contents-any G p.heap first count good.heap.roots.registers) in
    post-good to (body.Post label rs bytes.now) p
    (post-is-good p.phases.cycle label rs bytes.now (λ r a. all-among G (filled rs) known r a)) good
own-good {G = G} p counts (event.Fetch object label offset count) own passes r new back good =
    post-good (named p.heap object).node (body.Fetch (named p.heap object) label offset count) p
    (fetch-good p.phases.cycle (named p.heap object) label offset count
    (any-there G (register_at p.heap object) no_reference passes.1.0
    (good.heap.roots.registers object))) good
own-good {G = G} p counts (event.Accept register) own passes r new back good =
    let n : ℕ = suc (oldest_letter p.heap).more in
    let same = taken-roots n p.heap register in
    done-quiet (part-with _ good
    (heap-rooted (letters_taken n p.heap register)
    (ap (λ (z : Heap). z.slots) same) (ap (λ (z : Heap). z.grey) same)
    (roots-taken G n p.heap register good.heap.roots)
    good.heap))
own-good {G = G} p counts (event.Put object place register) own passes r new back good =
    post-good (named p.heap object).node
    (body.Put (named p.heap object) place (register_at p.heap register)) p
    (put-good p.phases.cycle (named p.heap object) place (register_at p.heap register)
    (any-there G (register_at p.heap object) no_reference passes.1.1.0
    (good.heap.roots.registers object))
    (good.heap.roots.registers register)) good
own-good {G = G} p counts (event.Get object place label) own passes r new back good =
    post-good (named p.heap object).node (body.Get (named p.heap object) place label) p
    (get-good p.phases.cycle (named p.heap object) place label
    (any-there G (register_at p.heap object) no_reference passes.1.0
    (good.heap.roots.registers object))) good
own-good {G = G} p counts (event.Resolve register reference) own passes r new back good =
    done-quiet (part-with _ good
    (heap-registered register (Some reference) good.heap
    (⊎_elim {C = G reference}
    (λ there. resolved-good p register reference passes good there) (λ is. is)
    (back reference refl))))
own-good p counts event.Begin own passes r new back good =
    let swept : p.phases.swept ≡ p.phases.cycle =
    eqb-true p.phases.swept p.phases.cycle
    (and_parts (p.phases.swept == p.phases.cycle) _ passes.1.0).0 in
    begun-good p (swept-calm p r.tidy r.swept r.ended (omega (arith, swept))) good
own-good p counts event.Scan own passes r new back good = scan-good p (not-true _ passes.0) good
own-good p counts event.Pass own passes r new back good = passed-good p good
own-good p counts (event.Sweep count) own passes r new back good =
    swept-good p count (ltb-true p.phases.swept p.phases.ended passes.0) r good
own-good p counts (event.Reclaim scope) own passes r new back good =
    done-quiet (part-with (reclaimed scope p.own p.heap) good
    (heap-less p.phases.swept less kept good.heap))
  where
    less : Lessens p.heap (reclaimed scope p.own p.heap)
    less = reclaimed-lessens scope p.own p.heap

    kept : (k e : ℕ) (y : Object) → slot_at (reclaimed scope p.own p.heap) k ≡ Occupied e y
        → p.phases.swept ≤ y.mark
    kept k e y there =
        let x = less.left k e y there in
        subst (λ (z : Object). p.phases.swept ≤ z.mark) (sym x.2) (good.heap.kept k e x.0 x.1)
own-good p counts (event.Next from) own passes r new back good = done-quiet good
own-good p counts (event.Data d) own passes r new back good = absurd cc
own-good p counts (event.Ack a) own passes r new back good = absurd cc

-- ---- a message is received

-- a Mark is of the node's cycle or a later one; a Get is about an object of the node
abbrev pub IsFor : LocalState → ℕ → Body → Type 0
IsFor p stamp (body.Mark target) = p.phases.cycle ≤ stamp
IsFor p stamp (body.Get target place label) = target.node ≡ p.own
IsFor p stamp b = Unit {0}

pub record Receiving (G : Ref → Type 0) (since : ℕ) (p : LocalState) (x : Message) : Type 0 where
  pub good : GoodPart G since p
  pub calm : p.phases.cycle < x.stamp → p.heap.grey ≡ []
  pub message : GoodMessage G since x
  pub fits : IsFor p x.stamp x.body

joined-good : {G : Ref → Type 0} {since : ℕ} (p : LocalState) (stamp : ℕ)
    → (p.phases.cycle < stamp → p.heap.grey ≡ []) → GoodPart G since p
    → GoodDone G since (joined p stamp).local (joined p stamp).sends
joined-good {G = G} {since = since} p stamp calm good =
    cond_both (ltb p.phases.cycle stamp) (join p stamp) (at_rest p)
    (λ (x : Work). GoodDone G since x.local x.sends)
    (λ ahead.
    let later : p.phases.cycle < stamp = ltb-true p.phases.cycle stamp ahead in
    join-good p stamp (calm later) (omega (arith, later)) good)
    (λ _. done-quiet good)

joined-cycle : (p : LocalState) (stamp : ℕ) → p.phases.cycle ≤ stamp
    → (joined p stamp).local.phases.cycle ≤ stamp
joined-cycle p stamp most =
    cond_both (ltb p.phases.cycle stamp) (join p stamp) (at_rest p)
    (λ (w : Work). w.local.phases.cycle ≤ stamp)
    (λ _.
    (let e = ap (λ (z : Phases). z.cycle) (join-phases p stamp) in omega (arith, e))) (λ _. most)

carried-good : {G : Ref → Type 0} {since : ℕ} (p : LocalState) (stamp : ℕ) (b : Body)
    → ((r : Ref) → Among r (carried b) → G r) → GoodPart G since p
    → GoodDone G since (take_carried stamp b p).local (take_carried stamp b p).sends
carried-good {G = G} {since = since} p stamp b all good =
    see-good (ltb stamp p.phases.cycle) (carried b) p good (λ _. all)

body-good : {G : Ref → Type 0} {since : ℕ} (p : LocalState) (from stamp : ℕ) (b : Body)
    → GoodMessage G since (record { stamp = stamp; body = b }) → IsFor p stamp b
    → GoodPart G since p
    → GoodDone G since (take_body from stamp b p).local (take_body from stamp b p).sends
unfolding take_body
body-good p from stamp body.Begin message fits good = done-quiet good
body-good p from stamp (body.Token token) message fits good = done-quiet (part-ringed _ good)
body-good {G = G} p from stamp (body.Mark target) message fits good =
    see-good true (target ∷ []) p good
    (λ there r a.
    ⊎_elim {C = G r}
    (λ (e : r ≡ target). subst G (sym e) (message.asks target refl (omega (arith, there, fits))))
    (λ never. absurd never) a)
body-good {G = G} p from stamp (body.Give label reference) message fits good =
    let l : Letter = simple_letter from label reference in
    done-quiet (part-with _ good
    (heap-rooted (with_letter p.heap l) refl refl
    (record {
      registers = good.heap.roots.registers;
      letters = λ k.
          at_push (λ (z : Letter). IfAny G z.reference) p.heap.letters k l no_letter
          (option-holds G reference (λ r e. message.carries r (in-option reference r e)))
          tt (good.heap.roots.letters k);
    })
    good.heap))
body-good {G = G} p from stamp (body.Post label rs bytes) message fits good =
    done-quiet (part-with _ good
    (heap-rooted (with_letters p.heap (letters_of from label rs bytes)) refl refl
    (roots-letters G p.heap from label rs bytes good.heap.roots
    (all-from G (filled rs) message.carries))
    good.heap))
body-good {G = G} p from stamp (body.Fetch target label offset count) message fits good =
    post-good from (body.Post label [] (fetched (object_at p.heap target) offset count)) p
    (post-is-good _ label [] _ (λ r never. absurd never)) good
body-good {G = G} p from stamp (body.Put target place reference) message fits good =
    done-quiet (part-with _ good
    (heap-placed p.own target place reference
    (option-holds G reference (λ r e. message.carries r (inr (in-option reference r e))))
    good.heap))
body-good {G = G} p from stamp (body.Get target place label) message fits good =
    let v : Option Ref = place_of (object_at p.heap target) place in
    let is : IfAny G v =
    read-good target place good.heap fits (message.carries target (inl refl)) in
    let first = see-good true (option_to_list v) p good (λ _. option-good G v is) in
    done-through first
    (post-good from (body.Give label v) (see_to true (option_to_list v) p).local
    (give-good _ label v is) first.part)
body-good p from stamp body.Ended message fits good =
    done-quiet (record { heap = good.heap; asked = good.asked; phase = good.phase })
body-good p from stamp body.Swept message fits good =
    done-quiet (record { heap = good.heap; asked = good.asked; phase = good.phase })

pub taken-good : {G : Ref → Type 0} {since : ℕ} (p : LocalState) (from number : ℕ) (x : Message)
    → Receiving G since p x
    → GoodDone G since (taken_in p from number x.stamp x.body).local
    (taken_in p from number x.stamp x.body).sends
unfolding taken_in settled count_in
taken-good {G = G} {since = since} p from number x r =
    let q : LocalState = (joined p x.stamp).local in
    let y : LocalState = (take_carried x.stamp x.body q).local in
    let first = joined-good p x.stamp r.calm r.good in
    let second = carried-good q x.stamp x.body r.message.carries first.part in
    let third = body-good y from x.stamp x.body r.message (fits x.body r.fits) second.part in
    let done = done-through first (done-through second third) in
    record {
      part = record {
        heap = done.part.heap;
        asked = done.part.asked;
        phase = done.part.phase;
      };
      sends = done.sends;
    }
  where
    fits : (b : Body) → IsFor p x.stamp b
        → IsFor (take_carried x.stamp b (joined p x.stamp).local).local x.stamp b
    fits (body.Mark target) h =
        let q : LocalState = (joined p x.stamp).local in
        subst (λ (w : Work). w.local.phases.cycle ≤ x.stamp)
        (sym (see_to-none (ltb x.stamp q.phases.cycle) q)) (joined-cycle p x.stamp h)
    fits (body.Get target place label) h =
        let q : LocalState = (joined p x.stamp).local in
        h ∙ sym (joined-walks stands-walks.moves.collects p x.stamp).own
        ∙ sym (carried-walks stands-walks.moves.collects x.stamp (body.Get target place label)
        q).own
    fits b h = tt
