-- The theorems on private objects. Only the node that has a private object knows it. So the node
-- may free it alone, and private garbage goes at once, rings included. A node may also look only at
-- what it made since it last did that.
use Rattle.std.specs.Prelude.{◌≡◌, ◌≢◌, ◌⊎◌, ℕ, ◌+◌, Bool, true, false, Some, None, Ok, slice_get, slice_index_or}
use Rattle.std.specs.List.{count_by}
use Rattle.ids.specs.declared.names.Ref.{Ref}
use Rattle.msg.specs.declared.body.Message.{Message}
use Rattle.model.specs.declared.age.Age.TheVariants as age
use Rattle.model.specs.declared.age.Scope.{Scope}
use Rattle.model.specs.declared.age.Scope.TheVariants as scope
use Rattle.model.specs.declared.event.Event.TheVariants as event
use Rattle.model.specs.declared.event.Answer.{Answer}
use Rattle.model.specs.declared.event.Answer.TheVariants as answer
use Rattle.model.specs.declared.event.Letter.{Letter}
use Rattle.model.specs.State.{Object, Occupied, Heap, LocalState, NodeState, node_at, sent_to, slot_at, register_at}
use Rattle.model.specs.Reclaiming.{is_occupied, aging}
use Rattle.model.specs.Steps.{mentioned, act}
use Rattle.model.specs.World.{World, released}
use Rattle.model.specs.Cuts.{Cut, cut, Among}
use Rattle.laws.specs.Statements.{KeepsReachable}

-- an object that only its node may know
pub record IsPrivate (c : Cut) (r : Ref) : Type 0 where
  pub object : Object
  pub there : slot_at (c r.node).local.heap r.slot ≡ Occupied r.generation object
  pub private : object.shared ≡ false

-- A node has the reference: in a register, in a letter, in a place of an object, or among those
-- that it asked for.
pub data Knows (p : LocalState) (r : Ref) : Type 0 where
  by_register : (k : ℕ) → register_at p.heap k ≡ Some r → Knows p r
  by_letter : (k : ℕ) (l : Letter) → slice_get p.heap.letters k ≡ Some l → l.reference ≡ Some r
      → Knows p r
  by_place : (k g : ℕ) (o : Object) (j : ℕ) → slot_at p.heap k ≡ Occupied g o
      → slice_index_or o.places j None ≡ Some r → Knows p r
  by_question : Among r p.asked → Knows p r

-- No other node has the reference. No message in the cut mentions it, whether it is in flight or
-- was received. Nor does any message in the net.
pub record IsUnknown (w : World) (c : Cut) (r : Ref) : Type 0 where
  pub nodes : (i : ℕ) → i ≢ r.node → Knows (c i).local r → ⊥
  pub messages : (from to place : ℕ) (x : Message) → slice_get (sent_to (c from) to) place ≡ Some x
      → Among r (mentioned x.body) → ⊥
  pub net : (from to number : ℕ) (x : Message) → released w from to number ≡ Some x
      → Among r (mentioned x.body) → ⊥

-- A private object is unknown outside its node, in every cut.
abbrev pub PrivateIsUnknown : World → Type 0
PrivateIsUnknown w =
    (choice : ℕ → Bool) (r : Ref) → IsPrivate (cut w choice) r → IsUnknown w (cut w choice) r

-- A reclaim of either scope frees nothing that is reachable. What is left becomes old, and stays as
-- it is otherwise.
abbrev pub ReclaimsFreeNoneReachable : World → Type 0
ReclaimsFreeNoneReachable w =
    (i : ℕ) (scope : Scope) (s : NodeState) (a : Answer)
    → act (node_at w.current i) (event.Reclaim scope) ≡ Ok (s, a)
    → KeepsReachable aging w i (node_at w.current i).local.heap s.local.heap

-- the reference names this object of the node
abbrev pub Names : ℕ → Heap → Ref → Object → Type 0
Names own h r o = (r.node ≡ own) × (slot_at h r.slot ≡ Occupied r.generation o)

-- What a node needs: its shared objects; what is in its registers and letters; and what is in the
-- places of an object of its own that it needs.
pub data Needs (own : ℕ) (h : Heap) : Ref → Type 0 where
  as_shared : {r : Ref} (o : Object) → Names own h r o → o.shared ≡ true → Needs own h r
  in_register : {r : Ref} (k : ℕ) → register_at h k ≡ Some r → Needs own h r
  in_letter : {r : Ref} (k : ℕ) (l : Letter) → slice_get h.letters k ≡ Some l
      → l.reference ≡ Some r → Needs own h r
  in_place : {r : Ref} (holder : Ref) (o : Object) (k : ℕ) → Needs own h holder
      → Names own h holder o → slice_index_or o.places k None ≡ Some r → Needs own h r

-- What a Reclaim does to a node apart from its objects: the answer says how many objects went, and
-- apart from the slots, the free slots and the grey list, all is as before.
pub record OnlyFrees (s t : NodeState) (a : Answer) : Type 0 where
  pub count : (n : ℕ) × (a ≡ answer.Reclaimed n)
      × (count_by is_occupied s.local.heap.slots ≡ n + count_by is_occupied t.local.heap.slots)
  pub same : t ≡ record s {
    local = record s.local {
      heap = record s.local.heap {
        slots = t.local.heap.slots;
        free = t.local.heap.free;
        grey = t.local.heap.grey;
      };
    };
  }

-- What a Reclaim leaves of a node.
pub record IsReclaimed (s t : NodeState) (a : Answer) : Type 0 where
  -- the node needs every object that it has now
  pub needed : (r : Ref) (o : Object) → Names t.local.own t.local.heap r o
      → Needs t.local.own t.local.heap r
  -- an object that it needed before is there, and old, and otherwise unchanged
  pub kept : (r : Ref) (o : Object) → Names s.local.own s.local.heap r o
      → Needs s.local.own s.local.heap r → Names t.local.own t.local.heap r (aging o)
  -- every object that is there is such an object
  pub left : (r : Ref) (o : Object) → Names t.local.own t.local.heap r o
      → (x : Object) × Names s.local.own s.local.heap r x × (o ≡ aging x)
      × Needs s.local.own s.local.heap r
  pub rest : OnlyFrees s t a

-- Private garbage goes. After a Reclaim of all, a node has no object that it doesn't need. This
-- holds of every node in any state, and no other node takes part.
abbrev pub PrivateGarbageGoes : Type 0
PrivateGarbageGoes =
    (s t : NodeState) (a : Answer) → act s (event.Reclaim scope.All) ≡ Ok (t, a)
    → IsReclaimed s t a

-- What a node needs as far as a Reclaim of the young looks: its shared objects and its remembered
-- ones, which old objects may name; what is in its registers and letters. And what is in the places
-- of an object that it needs so, unless that object is old.
pub data NeedsYoung (own : ℕ) (h : Heap) : Ref → Type 0 where
  from_shared : {r : Ref} (o : Object) → Names own h r o → o.shared ≡ true → NeedsYoung own h r
  from_remembered : {r : Ref} (o : Object) → Names own h r o → o.age ≡ age.Remembered
      → NeedsYoung own h r
  from_register : {r : Ref} (k : ℕ) → register_at h k ≡ Some r → NeedsYoung own h r
  from_letter : {r : Ref} (k : ℕ) (l : Letter) → slice_get h.letters k ≡ Some l
      → l.reference ≡ Some r → NeedsYoung own h r
  from_place : {r : Ref} (holder : Ref) (o : Object) (k : ℕ) → NeedsYoung own h holder
      → Names own h holder o → o.age ≢ age.Old → slice_index_or o.places k None ≡ Some r
      → NeedsYoung own h r

-- What a Reclaim of the young leaves of a node.
pub record IsYoungReclaimed (s t : NodeState) (a : Answer) : Type 0 where
  -- an object that was old is there, unchanged
  pub stays : (r : Ref) (o : Object) → Names s.local.own s.local.heap r o → o.age ≡ age.Old
      → Names t.local.own t.local.heap r o
  -- an object that it needed before is there, and old, and otherwise unchanged
  pub kept : (r : Ref) (o : Object) → Names s.local.own s.local.heap r o
      → NeedsYoung s.local.own s.local.heap r → Names t.local.own t.local.heap r (aging o)
  -- every object that is there is such an object
  pub left : (r : Ref) (o : Object) → Names t.local.own t.local.heap r o
      → (x : Object) × Names s.local.own s.local.heap r x × (o ≡ aging x)
      × ((x.age ≡ age.Old) ⊎ NeedsYoung s.local.own s.local.heap r)
  pub rest : OnlyFrees s t a

-- Young garbage goes. After a Reclaim of the young, a node has its old objects, and of the others
-- those that it needs. This too holds of every node in any state.
abbrev pub YoungGarbageGoes : Type 0
YoungGarbageGoes =
    (s t : NodeState) (a : Answer) → act s (event.Reclaim scope.Young) ≡ Ok (t, a)
    → IsYoungReclaimed s t a
