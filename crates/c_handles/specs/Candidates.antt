-- What an event may free, as it is listed before the event. No public clause cites this module.
use Rattle.std.specs.Prelude.{◌≡◌, ◌⊎◌, ℕ, ◌+◌, ◌≤◌, ◌++◌, Bool, not, cond, nat_lt, List, [], drop, filter, length, take, slice_index_or, slice_set, Result, Ok, Err}
use Rattle.ids.specs.declared.refusal.Refusal.{Refusal}
use Rattle.ids.specs.declared.refusal.Refusal.TheVariants.{Memory}
use Rattle.model.specs.Checks.{AllPass}
use Rattle.model.specs.Collecting.{is_garbage, looked_at}
use Rattle.model.specs.Reclaiming.{is_in_scope}
use Rattle.model.specs.State.{Heap, LocalState, slot_at}
use Rattle.model.specs.Steps.{tests}
use Rattle.model.specs.declared.event.Answer.{Answer}
use Rattle.model.specs.declared.event.Event.{Event}
use Rattle.model.specs.declared.event.Event.TheVariants as event
use Rattle.node_store.specs.Acting.{Acted}
use Rattle.node_store.specs.declared.logged.LoggedNode.{LoggedNode}
use Rattle.c_values.specs.declared.fields.CFreed.{CFreed}
use Rattle.c_handles.specs.Gone.{GoneView, IsUnlisted, entries_from, has_generation, list_after}

-- A sweep frees no more than what isn't marked in the slots that it looks at, and a reclaim no more
-- than what is within its scope.
abbrev pub candidates : LocalState → Event → List CFreed
candidates p (event.Sweep count) =
    cond (nat_lt p.phases.swept p.phases.ended)
    (entries_from (λ _. is_garbage p.phases.cycle) p.own p.heap p.phases.cursor
    (looked_at p count))
    []
candidates p (event.Reclaim scope) =
    entries_from (λ _. is_in_scope scope) p.own p.heap 0 (length p.heap.slots)
candidates p e = []

-- the heap doesn't have the object of an entry
abbrev pub is_left_out : Heap → CFreed → Bool
is_left_out h f = not (has_generation f.reference.generation (slot_at h f.reference.slot))

-- What an event may free was added to a list; or there is no memory for that, and nothing of what
-- was listed is lost.
abbrev pub Adds : LocalState → Event → List CFreed → List CFreed → Result (Unit {0}) Refusal
    → Type 0
Adds p e old new (Ok u) = new ≡ old ++ candidates p e
Adds p e old new (Err f) =
    (f ≡ Memory) × AllPass (tests p e) × (take (length old) new ≡ old)

-- It was listed behind what is listed, which are as many as this; or nothing changed.
abbrev pub Expects : LocalState → Event → GoneView → GoneView → Result ℕ Refusal → Type 0
Expects p e v w (Ok before) =
    (before ≡ length v.list) × (v.covered ≤ before)
    × (w ≡ record v { list = v.list ++ candidates p e })
Expects p e v w (Err f) = (w ≡ v) × (f ≡ Memory) × AllPass (tests p e)

-- the list without what the heap has of what is behind the first ones
abbrev pub leaving : ℕ → Heap → List CFreed → List CFreed
leaving before h es = take before es ++ filter (is_left_out h) (drop before es)

abbrev pub confirming : ℕ → Heap → GoneView → GoneView
confirming before h v = record v { list = leaving before h v.list }

-- a sweep freed all of these
abbrev pub AreFreed : Event → Heap → List CFreed → Type 0
AreFreed (event.Sweep count) h es = filter (is_left_out h) es ≡ es
AreFreed e h es = Unit {0}

-- The entry in this place is moved behind the first ones if the heap doesn't have its object.
abbrev pub Leaves : Heap → ℕ → ℕ → List CFreed → ℕ → List CFreed → Type 0
Leaves h place left old count new =
    (f : CFreed) × (f ≡ slice_index_or old place f)
    × (count ≡ cond (is_left_out h f) (left + 1) left)
    × (new ≡ cond (is_left_out h f) (slice_set old left f) old)

-- The event was given to the node, and what it freed is listed; or there was no memory for the
-- list, and nothing changed.
abbrev pub ActsListing : LoggedNode → GoneView → LoggedNode → GoneView → Event
    → Result Answer Refusal → Type 0
ActsListing old v new w e (Ok a) =
    Acted old new e (Ok a) × (w ≡ list_after v old.node.core.local new.node.core.local e)
ActsListing old v new w e (Err f) =
    (w ≡ v) × (Acted old new e (Err f) ⊎ ((new ≡ old) × IsUnlisted v old.node.core e f))
