-- No step within a cycle adds a slot to a heap, or takes one away.
use Rattle.std.proofs.Common.{◌≡◌, ℕ, true, [], length, length-set, refl, ◌∙◌}
use Rattle.ids.specs.declared.names.Ref.{Ref}
use Rattle.msg.specs.declared.body.Body.{Body}
use Rattle.model.specs.State.{Object, LocalState, slot_at}
use Rattle.model.specs.Heaps.{rewritten, with_rewritten, sharing}
use Rattle.model.specs.Effects.{Work, at_rest}
use Rattle.model.specs.Counting.{append, announce}
use Rattle.std.specs.Prelude.{cond}
use Rattle.model.specs.Shading.{is_open, filled, see_to, enter, last_grey, without_last_grey}
use Rattle.model.specs.Collecting.{places_in, scan, scanned, swept_slots, looked_at}
use Rattle.model.specs.Steps.{count_in, settled, taken_in}
use Rattle.model.proofs.Walk.{Collects, Moves, place-walks, post-walks, taken-moves}
use Rattle.laws.proofs.Sweeps.{swept-some}
use Rattle.laws.proofs.progress.HeapWork.{grey-all}

abbrev KeepsWidth : LocalState → Work → Type 0
KeepsWidth p w = length w.local.heap.slots ≡ length p.heap.slots

width-collects : Collects KeepsWidth
unfolding see_to enter append announce
width-collects = record {
  rest = λ p. refl;
  both = λ p w f first second. second ∙ first;
  sees = λ due rs p.
      (grey-all p.own p.phases.cycle p.heap (cond (is_open p) rs [])).width;
  enters = λ p cycle later. refl;
  rings = λ p r. refl;
  ends = λ p. refl;
  hears = λ p reports. refl;
  scans = λ p. refl;
  sends = λ to b p quiet. refl;
  tells = λ b p quiet. refl;
}

rewritten-width : (p : LocalState) (r : Ref) (f : Object → Object)
    → KeepsWidth p (at_rest (record p { heap = with_rewritten p.heap r f }))
rewritten-width p r f =
    length-set p.heap.slots r.slot (rewritten f r.generation (slot_at p.heap r.slot))

-- all moves but that of a new object
width-moves : Moves (λ _. ⊥) KeepsWidth
unfolding append
width-moves = record {
  collects = width-collects;
  roots = λ p registers letters. refl;
  rewrites = λ p r f quiet. rewritten-width p r f;
  places = place-walks width-collects (λ p r f shared. rewritten-width p r f);
  makes = λ p register places never. absurd never;
  gives = λ to b p carries.
      post-walks width-collects (λ q r. rewritten-width q r sharing) to b p refl;
}

pub taken-width : (p : LocalState) (from number stamp : ℕ) (b : Body)
    → length (taken_in p from number stamp b).local.heap.slots ≡ length p.heap.slots
unfolding taken_in settled count_in
taken-width p from number stamp b = taken-moves width-moves p from stamp b

pub scanned-width : (p : LocalState)
    → length (scanned p).local.heap.slots ≡ length p.heap.slots
unfolding scanned scan see_to
scanned-width p =
    width-collects.sees true (filled (places_in (slot_at p.heap (last_grey p.heap))))
    (record p { heap = without_last_grey p.heap })

pub swept-width : (p : LocalState) (count : ℕ)
    → length (swept_slots p count).local.heap.slots ≡ length p.heap.slots
unfolding swept_slots
swept-width p count =
    (swept-some p.phases.cycle p.phases.cursor (looked_at p count)
    (record { heap = p.heap; freed = 0 })).width
