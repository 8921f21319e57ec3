-- The objects that are gone from a node, which its program asks for: what an event freed, and what
-- becomes of the list of them.
use Rattle.std.specs.Prelude.{◌≡◌, ℕ, zero, suc, ◌+◌, ◌-◌, ◌==◌, min, Bool, true, false, cond, not, ◌&&◌, List, [], ◌∷◌, ◌++◌, drop, length, take, Option, Some, None, Result, Ok, Err}
use Rattle.ids.specs.declared.refusal.Refusal.{Refusal}
use Rattle.ids.specs.declared.refusal.Refusal.TheVariants.{Memory}
use Rattle.model.specs.Checks.{IsFirstRefusal}
use Rattle.model.specs.State.{Object, Slot, Free, Occupied, Retired, Heap, LocalState, slot_at}
use Rattle.model.specs.Steps.{frees}
use Rattle.model.specs.View.{NodeView, view_act}
use Rattle.model.specs.declared.event.Event.{Event}
use Rattle.c_values.specs.declared.fault.Fault.{Fault}
use Rattle.c_values.specs.declared.fault.Fault.TheVariants as fault
use Rattle.c_values.specs.declared.fields.CFreed.{CFreed}

-- ---- What an event freed

-- an object of the node with this number, as the list has it
abbrev pub entry_of : ℕ → ℕ → ℕ → Object → CFreed
entry_of own slot generation o = record {
  reference = record { node = own; slot = slot; generation = generation };
  word = o.word;
}

-- the entry of the object in a slot, if there is one that passes the test
abbrev pub entries_in : (ℕ → Slot → Bool) → ℕ → ℕ → Slot → List CFreed
entries_in passes own k (Free g) = []
entries_in passes own k (Occupied g o) =
    cond (passes k (Occupied g o)) (entry_of own k g o ∷ []) []
entries_in passes own k Retired = []

-- those of this many slots, from slot k on
abbrev pub entries_from : (ℕ → Slot → Bool) → ℕ → Heap → ℕ → ℕ → List CFreed
entries_from passes own h k zero = []
entries_from passes own h k (suc n) =
    entries_in passes own k (slot_at h k) ++ entries_from passes own h (k + 1) n

abbrev pub has_generation : ℕ → Slot → Bool
has_generation g (Free e) = false
has_generation g (Occupied e o) = e == g
has_generation g Retired = false

-- the slot has an object that it doesn't have in the later heap
abbrev pub is_gone : Heap → ℕ → Slot → Bool
is_gone later k (Free g) = false
is_gone later k (Occupied g o) = not (has_generation g (slot_at later k))
is_gone later k Retired = false

-- the objects of a heap that a later one doesn't have, in order of their slots
abbrev pub gone : ℕ → Heap → Heap → List CFreed
gone own h later = entries_from (is_gone later) own h 0 (length h.slots)

-- ---- The list

-- Whether a list is kept; what is gone and wasn't handed out, in the order in which it went. The
-- first of these were gone already when the last image or batch was made, and the first of them in
-- the kept node too: they are ready to be handed out.
pub record GoneView : Type 0 where
  pub tracks : Bool
  pub list : List CFreed
  pub covered : ℕ
  pub ready : ℕ

-- no list is kept
abbrev pub untracked : GoneView
untracked = record { tracks = false; list = []; covered = 0; ready = 0 }

-- A list is kept from now on, or none is. If one is kept already, nothing changes.
abbrev pub tracking : Bool → GoneView → GoneView
tracking true v = cond v.tracks v (record untracked { tracks = true })
tracking false v = untracked

-- the objects that went from one heap to the next are listed
abbrev pub listing : ℕ → Heap → Heap → GoneView → GoneView
listing own h later v = record v { list = v.list ++ gone own h later }

-- an image or a batch was made
abbrev pub covering : GoneView → GoneView
covering v = record v { covered = length v.list }

-- the last one is kept
abbrev pub keeping : GoneView → GoneView
keeping v = record v { ready = v.covered }

-- whatever is kept later won't have what is gone
abbrev pub settling : GoneView → GoneView
settling v = record v { covered = length v.list; ready = length v.list }

-- nothing is listed any more
abbrev pub emptying : GoneView → GoneView
emptying v = record untracked { tracks = v.tracks }

-- this many were handed out
abbrev pub without : ℕ → GoneView → GoneView
without n v = record v {
  list = drop n v.list;
  covered = v.covered - n;
  ready = v.ready - n;
}

-- what is ready is handed out, as much as there is room for
pub record HandsOut (old new : GoneView) (count : ℕ) (held now : List CFreed) : Type 0 where
  pub many : count ≡ min old.ready (length held)
  pub handed : now ≡ take count old.list ++ drop count held
  pub left : new ≡ without count old

-- The same for what a handle holds, if handing out is this. It fails only if the handle is empty.
abbrev pub HandsOutIf : {X : Type 0} → (X → X → ℕ → List CFreed → List CFreed → Type 0)
    → Option X → Option X → Result ℕ Fault → List CFreed → List CFreed → Type 0
HandsOutIf Does (Some old) (Some new) (Ok count) held now = Does old new count held now
HandsOutIf Does (Some old) None (Ok count) held now = ⊥
HandsOutIf Does (Some old) new (Err f) held now = ⊥
HandsOutIf Does None new r held now = (new ≡ None) × (r ≡ Err fault.NoHandle) × (now ≡ held)

-- ---- An event

-- what the list is after the node, which is this one now, was given an event
abbrev pub list_after : GoneView → LocalState → LocalState → Event → GoneView
list_after v p q e = cond (frees e && v.tracks) (listing p.own p.heap q.heap v) v

-- There was no memory for the list, so the event wasn't given to the node, which doesn't refuse it
-- for another reason, except perhaps with `LinkSpent`.
pub record IsUnlisted (v : GoneView) (n : NodeView) (e : Event) (f : Refusal) : Type 0 where
  pub tracks : v.tracks ≡ true
  pub frees : frees e ≡ true
  pub memory : f ≡ Memory
  pub passes : IsFirstRefusal true Memory (view_act n e)
