-- Private objects are unknown outside their nodes, in every cut of every run. And a reclaim frees
-- nothing that is reachable.
use Rattle.std.proofs.Common.{◌≡◌, ◌≢◌, ℕ, ◌-◌, ◌<◌, ◌==◌, Bool, cond, ltb, List, None, Some, Ok, slice_get, refl, sym, ap, ◌∙◌, subst, ⊎_elim}
use Rattle.std.proofs.lemmas.Bool.{cases_eq, cond_both, cond-true, cond-false, eq-eqb, ne_eqb}
use Rattle.std.proofs.lemmas.Option.{get_or_from_slice_get}
use Rattle.ids.specs.Limits.{Shaped}
use Rattle.ids.specs.declared.names.Ref.{Ref}
use Rattle.msg.specs.declared.body.Message.{Message}
use Rattle.model.specs.declared.event.Event.{Event}
use Rattle.model.specs.declared.event.Event.TheVariants as event
use Rattle.model.specs.declared.event.Letter.{Letter}
use Rattle.model.specs.Checks.{AllPass}
use Rattle.model.specs.State.{Object, Occupied, Heap, NodeState, node_at, sent_to, slot_at}
use Rattle.model.specs.Heaps.{no_letter}
use Rattle.model.specs.Reclaiming.{aging, reclaimed}
use Rattle.model.specs.Steps.{act, tests, mentioned}
use Rattle.model.specs.World.{World, KeepsSent, new_world, run, numbered, released}
use Rattle.model.specs.Cuts.{Cut, cut, Becomes, Reachable, in_register, in_letter, in_message, in_place}
use Rattle.model.proofs.Naming.{among-in}
use Rattle.laws.specs.Statements.{OfEveryRun}
use Rattle.laws.specs.Privacy.{IsPrivate, Knows, by_register, by_letter, by_place, by_question, PrivateIsUnknown, ReclaimsFreeNoneReachable}
use Rattle.laws.proofs.Lookups.{any-some, all-among, slice_get-grows}
use Rattle.laws.proofs.StepFacts.{act-ok}
use Rattle.laws.proofs.KeepsSent.{new-keeps-sent}
use Rattle.laws.proofs.Cuts.{cut-sent, released-numbered, run-keeps-sent}
use Rattle.laws.proofs.Base.{inside-where, no-node-refuses}
use Rattle.laws.proofs.Inner.{carried-mentioned}
use Rattle.laws.proofs.Acting.{with_heap}
use Rattle.laws.proofs.Invariant.{RootsAll, MayHave, Unknown}
use Rattle.laws.proofs.Dressing.{filled-among, all-roots, roots-all}
use Rattle.laws.proofs.ReclaimSteps.{Reclaiming, reclaim-step, Stays, root-stays, place-stays, shared-stays, other-stays}
use Rattle.laws.proofs.Outside.{Outside, shown-not_private, outside-unknown}
use Rattle.laws.proofs.Live.{Whole, all-whole, reached-safe}

-- ---- a private object is unknown

unknown-nodes : {c : Cut} (r : Ref) → Unknown c → IsPrivate c r → (i : ℕ) → i ≢ r.node
    → Knows (c i).local r → ⊥
unknown-nodes {c} r unknown private i other (by_register k e) =
    any-some (MayHave c i) _ r ((unknown.roots i).registers k) e (λ here. other (sym here)) private
unknown-nodes {c} r unknown private i other (by_letter k l e holds) =
    any-some (MayHave c i) _ r ((unknown.roots i).letters k)
    (ap (λ (z : Letter). z.reference)
    (get_or_from_slice_get (c i).local.heap.letters k l no_letter e) ∙ holds)
    (λ here. other (sym here)) private
unknown-nodes {c} r unknown private i other (by_place k g o j there e) =
    any-some (MayHave c i) _ r (unknown.places i k g o there j) e (λ here. other (sym here)) private
unknown-nodes {c} r unknown private i other (by_question a) =
    unknown.asked i r (among-in r (c i).local.asked a) private

-- what was released was sent in every cut
released-sent : (w : World) (choice : ℕ → Bool) (from to number : ℕ) (x : Message) → KeepsSent w
    → released w from to number ≡ Some x
    → slice_get (sent_to (cut w choice from) to) (number - 1) ≡ Some x
released-sent w choice from to number x keeps there =
    let sent : List Message = sent_to (node_at w.saved from) to in
    cond_both (ltb 0 number) (slice_get sent (number - 1)) None
    (λ z. z ≡ Some x → slice_get (sent_to (cut w choice from) to) (number - 1) ≡ Some x)
    (λ _ is. slice_get-grows sent _ (number - 1) x (cut-sent w choice from to keeps) is)
    (λ _ never. absurd cc)
    (released-numbered (from == to) (numbered sent number) x there).1

pub private-is-unknown : OfEveryRun PrivateIsUnknown
private-is-unknown shape limits steps choice r private =
    let w : World = run (new_world shape) steps in
    let out : Outside (cut w choice) = (all-whole shape limits steps choice).outside in
    let keeps : KeepsSent w = run-keeps-sent (new_world shape) steps (new-keeps-sent shape) in
    record {
      nodes = unknown-nodes r (outside-unknown out) private;
      messages = λ from to place x there mention.
          shown-not_private (out.sent from to place x there r mention).shown private;
      net = λ from to number x there mention.
          shown-not_private
          (out.sent from to (number - 1) x
          (released-sent w choice from to number x keeps there) r mention).shown
          private;
    }

-- ---- what is reachable stays

module _ {shape : Shaped} {c d : Cut} {i : ℕ} {g : Heap} (s : Reclaiming shape c d i g) where
  roots-stay : (j : ℕ) → RootsAll (Stays s) (c j).local.heap
  roots-stay j = ⊎_elim {C = RootsAll (Stays s) (c j).local.heap}
      (λ (here : j ≡ i).
      subst (λ (n : ℕ). RootsAll (Stays s) (c n).local.heap) (sym here)
      (all-roots (Stays s) (c i).local.heap (root-stays s)))
      (λ (other : j ≢ i).
      all-roots (Stays s) (c j).local.heap (λ r a.
      other-stays s j other r
      (roots-all (MayHave c j) (c j).local.heap (s.unknown.roots j) r a)))
      (cases_eq j i)

  reached-stays : (r : Ref) → Reachable c r → Stays s r
  reached-stays r (in_register j k there) =
      any-some (Stays s) _ r ((roots-stay j).registers k) there
  reached-stays r (in_letter j k l there holds) =
      any-some (Stays s) _ r ((roots-stay j).letters k)
      (ap (λ (z : Letter). z.reference)
      (get_or_from_slice_get (c j).local.heap.letters k l no_letter there) ∙ holds)
  reached-stays r (in_message from to place x flight among) =
      shared-stays s r
      (all-among (λ z. IsPrivate c z → ⊥) (mentioned x.body)
      (s.unknown.messages from to place x flight) r (carried-mentioned x.body r among))
  reached-stays r (in_place owner o k reached there place) = ⊎_elim {C = Stays s r}
      (λ (here : owner.node ≡ i).
      let at : slot_at (c i).local.heap owner.slot ≡ Occupied owner.generation o =
      subst (λ (n : ℕ). slot_at (c n).local.heap owner.slot ≡ Occupied owner.generation o) here
      there in
      place-stays s owner.slot owner.generation (aging o)
      (s.heap.keeps owner.slot owner.generation o at (reached-stays owner reached o (here, at))) r
      (filled-among o.places k r place))
      (λ (other : owner.node ≢ i).
      other-stays s owner.node other r
      (any-some (MayHave c owner.node) _ r
      (s.unknown.places owner.node owner.slot owner.generation o there k) place))
      (cases_eq owner.node i)

  reached-kept : (r : Ref) → Reachable c r → r.node ≡ i
      → (o : Object) × (slot_at (c i).local.heap r.slot ≡ Occupied r.generation o)
      × (slot_at g r.slot ≡ Occupied r.generation (aging o))
  reached-kept r reached here =
      let safe = reached-safe s.inv r reached in
      let there : slot_at (c i).local.heap r.slot ≡ Occupied r.generation safe.object =
      subst (λ (n : ℕ). slot_at (c n).local.heap r.slot ≡ Occupied r.generation safe.object) here
      safe.there in (
        safe.object,
        there,
        s.heap.keeps r.slot r.generation safe.object there
            (reached-stays r reached safe.object (here, there)),
      )

-- only node i is changed
changing : Cut → ℕ → NodeState → Cut
changing c i s j = cond (j == i) s (c j)

changing-becomes : (c : Cut) (i : ℕ) (s : NodeState) → Becomes c (changing c i s) i s
unfolding changing
changing-becomes c i s = record {
  changed = cond-true (i == i) s (c i) (eq-eqb i i refl);
  others = λ j other. cond-false (j == i) s (c j) (ne_eqb j i other);
}

pub reclaims-free-none-reachable : OfEveryRun ReclaimsFreeNoneReachable
reclaims-free-none-reachable shape limits steps i z s a answered choice r current reached here =
    let w : World = run (new_world shape) steps in
    let c : Cut = cut w choice in
    let whole : Whole shape c = all-whole shape limits steps choice in
    let at : c i ≡ node_at w.current i =
    cond-false (choice i) (node_at w.saved i) (node_at w.current i) current in
    let e : Event = event.Reclaim z in
    let found = act-ok (c i) e s a
    (subst (λ (n : NodeState). act n e ≡ Ok (s, a)) (sym at) answered) in
    let inside : i < shape.nodes =
    inside-where i (λ n. AllPass (tests n.local e)) whole.inv.base found.passed
    (no-node-refuses e refl) in
    let h : Heap = reclaimed z (c i).local.own (c i).local.heap in
    let step : Reclaiming shape c (changing c i (with_heap (c i) h)) i h =
    reclaim-step z whole.inv (outside-unknown whole.outside) whole.recalled inside
    (changing-becomes c i (with_heap (c i) h)) in
    let kept = reached-kept step r reached here in (
      kept.0,
      ap (λ (z : NodeState). slot_at z.local.heap r.slot) (sym at) ∙ kept.1,
      ap (λ (z : NodeState). slot_at z.local.heap r.slot) found.state ∙ kept.2,
    )
