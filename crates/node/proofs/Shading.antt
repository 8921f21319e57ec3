-- The program's and the collector's events that see to references, each by an errand: Load, Begin
-- and Scan.
use Rattle.std.proofs.Common.{◌≡◌, ◌≤◌, ℕ, ◌+◌, ◌-◌, ◌==◌, true, false, List, length, [], ◌∷◌, ◌++◌, Option, option_to_list, Result, Ok, Err, append-nil, append_assoc, ap, refl, sym, ◌∙◌, subst, arith, le_refl}
use Rattle.std.proofs.lemmas.Bool.{and_parts}
use Rattle.std.specs.List.{AllByRecursion}
use Rattle.ids.specs.declared.names.Ref.{Ref}
use Rattle.std.specs.Prelude.{IfOk}
use Rattle.ids.specs.declared.refusal.Refusal.{Refusal}
use Rattle.msg.specs.declared.body.Body.TheVariants as body
use Rattle.msg.specs.declared.body.Message.{Message}
use Rattle.model.specs.declared.event.Answer.TheVariants as answer
use Rattle.model.specs.declared.event.Event.TheVariants as event
use Rattle.model.specs.Checks.{guarded}
use Rattle.model.specs.Collecting.{begun, new_token, places_in, probe, scan, scanned, scanned_reference, whitened}
use Rattle.model.specs.Counting.{announce, append, counted_marks, stamped}
use Rattle.model.specs.Effects.{Effect, Work, answers, at_rest, then}
use Rattle.model.specs.Heaps.{load_tests, named, place_loaded, with_register}
use Rattle.model.specs.References.{IfAny, IsWithin}
use Rattle.model.specs.Shading.{filled, is_calm, is_open, join, last_grey, make_all_grey, marks_for, see_to, seen, unasked, without_last_grey}
use Rattle.model.specs.State.{Heap, LocalState, slot_at}
use Rattle.model.specs.Steps.{with_loaded}
use Rattle.model.specs.View.{NodeView, Performed, view_act}
use Rattle.model.proofs.Checks.{guarded-ok}
use Rattle.model.proofs.References.{holds-make_all_grey, holds-place_of, holds-places, holds-without_last_grey}
use Rattle.model.proofs.Stocks.{open-apart, stocked-greyed, stocked-scanned}
use Rattle.model.proofs.Shading.{see_to-none, see_to-open, seen-none}
use Rattle.heap.specs.Heap.{are_own, next_held, scanned_own}
use Rattle.link.specs.Links.{for_others}
use Rattle.link.proofs.Announcing.{to_others-is}
use Rattle.node.specs.Errands.{IsRun, errand, errand_here, extra_work, scan_errand}
use Rattle.node.specs.Invariant.{IsNode}
use Rattle.node.specs.declared.node_core.errands.Extra.TheVariants as extra
use Rattle.node.proofs.Receiving.{filled-one}
use Rattle.node.proofs.Events.{shaded}
use Rattle.node.proofs.Nodes.{node-heap}
use Rattle.node.proofs.Runs.{errand-joins, errand-stays, stepped}
use Rattle.node.proofs.Seeing.{grey-slots, seen-registers}
use Rattle.node.proofs.Sound.{with_heap}

-- ---- Begin

begins-here : (p : LocalState) → errand_here false [] extra.Begins p ≡ extra_work extra.Begins p
unfolding errand_here
begins-here p = ap (λ (w : Work). then w (extra_work extra.Begins)) (see_to-none false p)

-- the cycle is joined, and the messages are those of a probe and of the announcement
pub begun-errand : (p : LocalState)
    → begun p
    ≡ answers (errand (p.phases.cycle + 1) false [] extra.Begins p)
    (answer.Begun (p.phases.cycle + 1))
unfolding begun probe append announce
begun-errand p =
    let cycle : ℕ = p.phases.cycle + 1 in
    let j : Work = join p cycle in
    let q : LocalState = j.local in
    let after : LocalState = record q { ring = whitened q.ring } in
    let token : List (ℕ × Message) = (q.shape.nodes - 1, stamped q (body.Token new_token)) ∷ [] in
    let others : List (ℕ × Message) = for_others q.own (stamped q body.Begin) q.shape.nodes in
    let said : List (ℕ × Message) → Effect =
    λ ms. record { local = after; sends = ms; answer = answer.Begun cycle } in
    ap (λ (ms : List (ℕ × Message)). said ((j.sends ++ token) ++ ms))
    (to_others-is after body.Begin q.shape.nodes)
    ∙ ap said (append_assoc j.sends token others)
    ∙ ap (λ (w : Work). answers (record { local = w.local; sends = j.sends ++ w.sends })
    (answer.Begun cycle)) (sym (begins-here q))
    ∙ ap (λ (w : Work). answers w (answer.Begun cycle))
    (sym (errand-joins cycle false [] extra.Begins p (omega arith)))

-- ---- Scan

pub scanned-errand : (p : LocalState)
    → scanned p
    ≡ answers
    (errand p.phases.cycle true (filled (places_in (slot_at p.heap (last_grey p.heap))))
    extra.Scanned p)
    (answer.Scanned (scanned_reference p))
unfolding scanned scan errand_here
scanned-errand p =
    let w : Work = scan p in
    ap (λ (ms : List (ℕ × Message)).
    record { local = w.local; sends = ms; answer = answer.Scanned (scanned_reference p) })
    (sym (append-nil w.sends))
    ∙ ap (λ (z : Work). answers z (answer.Scanned (scanned_reference p)))
    (sym (errand-stays p.phases.cycle true
    (filled (places_in (slot_at p.heap (last_grey p.heap)))) extra.Scanned p
    (le_refl p.phases.cycle)))

-- nothing is asked for references to the node's own objects
unasked-own : (own : ℕ) (asked rs : List Ref) → are_own own rs ≡ true
    → unasked own asked rs ≡ []
unasked-own own asked [] all = refl
unasked-own own asked (r ∷ rs) all =
    let parts = and_parts (r.node == own) (are_own own rs) all in
    rw parts.0 (unasked-own own asked rs parts.1)

-- they only turn grey
seen-own : (rs : List Ref) (p : LocalState) → are_own p.own rs ≡ true
    → seen true rs p
    ≡ at_rest (record p { heap = make_all_grey p.own p.phases.cycle p.heap rs })
seen-own rs p all =
    let greyed : LocalState = record p { heap = make_all_grey p.own p.phases.cycle p.heap rs } in
    ap (λ (us : List Ref). record {
      local = record greyed { asked = p.asked ++ us; ring = counted_marks (length us) p.ring };
      sends = marks_for p.phases.cycle us;
    }) (unasked-own p.own p.asked rs all)
    ∙ seen-none true greyed

-- so the scan of an object that holds no others changes only the heap
pub scan_errand-own : (p : LocalState) → is_open p ≡ true
    → are_own p.own (filled (next_held p.heap)) ≡ true
    → scan_errand p ≡ at_rest (record p { heap = scanned_own p.own p.phases.cycle p.heap })
unfolding errand_here
scan_errand-own p opened all =
    let rs : List Ref = filled (next_held p.heap) in
    let q : LocalState = record p { heap = without_last_grey p.heap } in
    errand-stays p.phases.cycle true rs extra.Scanned p (le_refl p.phases.cycle)
    ∙ ap (λ (w : Work). then w (extra_work extra.Scanned))
    (see_to-open true rs q opened ∙ seen-own rs q all)

pub performed-own : (n : NodeView) (h : Heap) → is_calm n.local.heap ≡ false
    → is_open n.local ≡ true → are_own n.local.own (filled (next_held n.local.heap)) ≡ true
    → h ≡ scanned_own n.local.own n.local.phases.cycle n.local.heap
    → Performed true (Ok (answer.Scanned (scanned_reference n.local))) n (with_heap n h)
    (view_act n event.Scan)
unfolding view_act
performed-own n h calm opened all is =
    let run : IsRun (scan_errand n.local) n (with_heap n h) =
    rw (scan_errand-own n.local opened all) (record { fits = refl; now = ap (with_heap n) is }) in
    rw calm (shaded (scanned-errand n.local) run)

pub node-scanned : (n : NodeView) → IsNode n → is_open n.local ≡ true
    → IsNode (with_heap n (scanned_own n.local.own n.local.phases.cycle n.local.heap))
node-scanned n old opened =
    let p : LocalState = n.local in
    let rs : List Ref = filled (next_held p.heap) in
    let h : Heap = without_last_grey p.heap in
    node-heap n (make_all_grey p.own p.phases.cycle h rs) old
    (holds-make_all_grey (IsWithin p.shape) p.own p.phases.cycle h rs
    (holds-without_last_grey (IsWithin p.shape) p.heap old.references))
    (stocked-greyed rs (open-apart p opened) (stocked-scanned old.stocked))
    (omega (arith, grey-slots p.own p.phases.cycle h rs))

-- what the places of the object in a slot hold
abbrev pub held_at : NodeView → ℕ → List Ref
held_at n slot = filled (places_in (slot_at n.local.heap slot))

pub held-within : (n : NodeView) → IsNode n → (slot : ℕ)
    → AllByRecursion (IsWithin n.local.shape) (held_at n slot)
held-within n old slot =
    holds-places (IsWithin n.local.shape) n.local.heap slot old.references

-- ---- Load

pub load-errand : (p : LocalState) (register : ℕ) (v : Option Ref)
    → then (see_to true (option_to_list v) p) (with_loaded register v)
    ≡ stepped (errand p.phases.cycle true (filled (v ∷ [])) extra.Nothing p)
    (λ q. record q { heap = with_register q.heap register v })
unfolding errand_here
load-errand p register v =
    rw (
      errand-stays p.phases.cycle true (filled (v ∷ [])) extra.Nothing p (le_refl p.phases.cycle),
      filled-one v,
    )
    refl

-- the registers are still there
pub errand-registers : (cycle : ℕ) (rs : List Ref) (p : LocalState) → cycle ≤ p.phases.cycle
    → (errand cycle true rs extra.Nothing p).local.heap.registers ≡ p.heap.registers
unfolding errand_here
errand-registers cycle rs p reached =
    ap (λ (w : Work). w.local.heap.registers)
    (errand-stays cycle true rs extra.Nothing p reached)
    ∙ seen-registers true rs p

-- what is read is within the shape
pub loaded-within : (n : NodeView) (register object place : ℕ) (r : Result (Option Ref) Refusal)
    → IsNode n
    → r ≡ guarded (load_tests n.local.own n.local.heap register object place)
    (place_loaded n.local.heap object place)
    → IfOk r (IfAny (IsWithin n.local.shape))
loaded-within n register object place (Err e) old is = tt
loaded-within n register object place (Ok v) old is =
    subst (IfAny (IsWithin n.local.shape))
    (guarded-ok (load_tests n.local.own n.local.heap register object place)
    (place_loaded n.local.heap object place) v (sym is))
    (holds-place_of (IsWithin n.local.shape) n.local.heap (named n.local.heap object) place
    old.references)

pub ruleset shading = (begun-errand, scanned-errand, load-errand)

pub ruleset reading = (holds-place_of, loaded-within)
