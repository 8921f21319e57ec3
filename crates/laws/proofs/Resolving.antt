-- What a node has tested once it resolves a reference: it names an object of its own, which is
-- marked in its cycle.
use Rattle.std.proofs.Common.{◌≡◌, ℕ, true, Option, None, Some, refl}
use Rattle.std.proofs.lemmas.Bool.{eqb-true}
use Rattle.ids.specs.declared.names.Ref.{Ref}
use Rattle.model.specs.declared.event.Event.TheVariants as event
use Rattle.model.specs.Checks.{AllPass}
use Rattle.model.specs.State.{Object, Occupied, Heap, LocalState, slot_at}
use Rattle.model.specs.Heaps.{object_at, is_marked_object}
use Rattle.model.specs.Steps.{tests}
use Rattle.model.proofs.Slots.{found-object}

pub record Resolved (p : LocalState) (r : Ref) : Type 0 where
  pub object : Object
  pub own : r.node ≡ p.own
  pub there : slot_at p.heap r.slot ≡ Occupied r.generation object
  pub marked : object.mark ≡ p.phases.cycle

-- the object, and that it is marked
marked-there : (h : Heap) (cycle : ℕ) (r : Ref) → is_marked_object cycle (object_at h r) ≡ true
    → (o : Object) × (slot_at h r.slot ≡ Occupied r.generation o) × (o.mark ≡ cycle)
marked-there h cycle r is = by (object_at h r) refl is
  where
    by : (found : Option Object) → object_at h r ≡ found → is_marked_object cycle found ≡ true
        → (o : Object) × (slot_at h r.slot ≡ Occupied r.generation o) × (o.mark ≡ cycle)
    by None e never = absurd cc
    by (Some o) e marked = (o, found-object h r o e, eqb-true o.mark cycle marked)

pub resolved-there : (p : LocalState) (register : ℕ) (r : Ref)
    → AllPass (tests p (event.Resolve register r)) → Resolved p r
resolved-there p register r passed =
    let found = marked-there p.heap p.phases.cycle r passed.1.1.1.1.0 in
    record {
      object = found.0;
      own = eqb-true r.node p.own passed.1.0;
      there = found.1;
      marked = found.2;
    }
