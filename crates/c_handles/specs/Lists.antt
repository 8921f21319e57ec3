-- What the list of what is gone from a node holds after many calls: each object that went, once.
use Rattle.std.specs.Prelude.{◌≡◌, ◌≢◌, ◌⊎◌, ◌<◌, ◌==◌, ◌++◌, ℕ, true, cond, List, [], ◌∷◌, map, take, Some}
use Rattle.std.specs.List.{AllByRecursion}
use Rattle.ids.specs.Limits.{Shaped}
use Rattle.ids.specs.declared.names.Ref.{Ref}
use Rattle.model.specs.Cuts.{Among}
use Rattle.model.specs.State.{Object, Occupied, slot_at}
use Rattle.c_values.specs.declared.fields.CFreed.{CFreed}
use Rattle.c_handles.specs.Gone.{tracking, untracked}
use Rattle.c_handles.specs.Laws.{IsReachable}
use Rattle.c_handles.specs.Programs.{Call, End, Freed, Goes, On, Open, System, Track, Work}
use Rattle.c_handles.specs.declared.lone.LoneNode.{LoneNode}

-- The node stays in its handle, and its list is neither begun nor ended. A turn of the collector is
-- taken for the calls that do the same (`TurnsAreCalls`).
abbrev pub KeepsList : ℕ → Call → Type 0
KeepsList i (Open j how limit r) = j ≢ i
KeepsList i (End j) = j ≢ i
KeepsList i (On j (Track on r)) = j ≢ i
KeepsList i (On j (Work scans slots work r)) = j ≢ i
KeepsList i c = Unit {0}

-- what calls on the node handed out, in order
abbrev pub handed_by : ℕ → Call → List CFreed
handed_by i (On j (Freed count old new)) = cond (j == i) (take count new) []
handed_by i c = []

abbrev pub handed_in : ℕ → List Call → List CFreed
handed_in i [] = []
handed_in i (c ∷ cs) = handed_by i c ++ handed_in i cs

-- the node in the handle has the object
abbrev pub HasObject : System → ℕ → Ref → Type 0
HasObject s i r =
    (n : LoneNode) × ((s.places i).handle ≡ Some n) × (o : Object)
    × (slot_at n.node.core.local.heap r.slot ≡ Occupied r.generation o)

-- the same of one of the systems to which calls lead
abbrev pub HadObject : (shape : Shaped) (s : System) (calls : List Call) (t : System)
    → Goes shape s calls t → ℕ → Ref → Type 0
HadObject shape s [] t goes i r = HasObject s i r
HadObject shape s (c ∷ cs) t goes i r =
    HasObject s i r ⊎ HadObject shape goes.0 cs t goes.4 i r

-- what an entry names
abbrev pub reference_of : CFreed → Ref
reference_of f = record {
  node = f.reference.node;
  slot = f.reference.slot;
  generation = f.reference.generation;
}

abbrev pub references : List CFreed → List Ref
references = map reference_of

-- no reference is there twice
abbrev pub AreApart : List Ref → Type 0
AreApart [] = Unit {0}
AreApart (r ∷ rs) = (Among r rs → ⊥) × AreApart rs

-- These are just the objects of the node that it had and hasn't any more, each once.
pub record AreWhatWent (all : List CFreed) (own : ℕ) (Had Has : Ref → Type 0) : Type 0 where
  pub went : (r : Ref) → Among r (references all) → Had r × (Has r → ⊥)
  pub whole : (r : Ref) → r.node ≡ own → Had r → (Has r → ⊥) → Among r (references all)
  pub once : AreApart (references all)

-- What a node's list handed out since it was begun, together with what is still to come, are the
-- objects that some state of this handle had and its current one hasn't.
abbrev pub ListsAreExact : Type 0
ListsAreExact =
    (shape : Shaped) (s t : System) (calls : List Call) (i : ℕ) (n m : LoneNode)
    → IsReachable shape s → (goes : Goes shape s calls t) → i < shape.nodes
    → AllByRecursion (KeepsList i) calls → (s.places i).handle ≡ Some n
    → n.gone ≡ tracking true untracked → (t.places i).handle ≡ Some m
    → AreWhatWent (handed_in i calls ++ m.gone.list) i (HadObject shape s calls t goes i)
    (HasObject t i)
