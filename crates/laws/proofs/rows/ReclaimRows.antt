-- Worked examples of reclaiming, computed: what a node frees by itself, and what it keeps.
use Rattle.std.proofs.Common.{◌≡◌, ℕ, pos, Bool, true, false, List, [], ◌∷◌, ◌++◌, Option, None, Some, Result, Ok, refl}
use Rattle.ids.specs.Limits.{Shaped, wide_shape}
use Rattle.ids.specs.declared.names.Ref.{Ref}
use Rattle.ids.specs.declared.limits.TheConstants.{GREATEST_GENERATION}
use Rattle.ids.specs.declared.refusal.Refusal.{Refusal}
use Rattle.ids.specs.declared.refusal.Refusal.TheVariants.{NothingToDo}
use Rattle.msg.specs.declared.body.Colour.TheVariants.{White}
use Rattle.model.specs.declared.age.Age.{Age}
use Rattle.model.specs.declared.age.Age.TheVariants.{Young, Remembered, Old}
use Rattle.model.specs.declared.age.Scope.TheVariants as scope
use Rattle.model.specs.declared.event.Event.TheVariants as event
use Rattle.model.specs.declared.event.Answer.TheVariants as answer
use Rattle.model.specs.declared.event.Letter.{Letter}
use Rattle.model.specs.declared.step.Step.{Step}
use Rattle.model.specs.declared.step.Step.TheVariants as step
use Rattle.model.specs.declared.step.Outcome.{Outcome}
use Rattle.model.specs.declared.step.Outcome.TheVariants as outcome
use Rattle.model.specs.State.{Slot, Free, Occupied, Retired, Heap}
use Rattle.model.specs.Counting.{append, announce}
use Rattle.model.specs.Shading.{make_grey, see_to, enter, join}
use Rattle.model.specs.Collecting.{probe, begun, scan, scanned, free_one}
use Rattle.model.specs.Reclaiming.{reclaimed}
use Rattle.model.specs.Steps.{act, receive, count_in, take_body, settled, taken_in}
use Rattle.model.specs.World.{take_step}
use Rattle.laws.proofs.rows.Rows.{object, space, alloc, drop_register, give, accept, made, sent, letter, received, done, refused}
use Rattle.laws.proofs.rows.ObjectRows.{store, clear, put, get}
use Rattle.laws.proofs.rows.Words.{begin_cycle, scan_grey, save, deliver, ok, began, scanned_grey, state, handed_over, Row, ◌gives◌, ◌shows◌, Prints}
use Rattle.model.specs.Heaps.{simple_letter}

-- a wide space of two nodes
abbrev wide : Shaped
wide = wide_shape 2 4 16 4 0

abbrev reclaim : ℕ → Step
reclaim node = step.Act node (event.Reclaim scope.All)

abbrev reclaim_young : ℕ → Step
reclaim_young node = step.Act node (event.Reclaim scope.Young)

abbrev reclaims : ℕ → Result Outcome Refusal
reclaims count = Ok (outcome.Answer (answer.Reclaimed count))

-- A ring of two private objects goes once no register names any of them. An object that a register
-- names stays. The slots are freed in order, so the last one is used first.
abbrev ring : List Row
ring =
    reclaim 0 gives refused NothingToDo
    ∷ alloc 0 0 1 gives made (object 0 0 1)
    ∷ alloc 0 1 1 gives made (object 0 1 1)
    ∷ alloc 0 2 0 gives made (object 0 2 1)
    ∷ store 0 0 0 1 gives ok
    ∷ store 0 1 0 0 gives ok
    ∷ reclaim 0 gives reclaims 0
    ∷ drop_register 0 0 gives ok
    ∷ reclaim 0 gives reclaims 0
    ∷ drop_register 0 1 gives ok
    ∷ 0 shows state 0 0 0 White (pos 0) (pos 0) 0 3 false 0
    ∷ reclaim 0 gives reclaims 2
    ∷ 0 shows state 0 0 0 White (pos 0) (pos 0) 0 1 false 0
    ∷ reclaim 0 gives reclaims 0
    ∷ alloc 0 0 0 gives made (object 0 1 2)
    ∷ alloc 0 1 0 gives made (object 0 0 2)
    ∷ []

pub ring-prints : Prints wide ring
unfolding take_step act free_one
ring-prints = refl

-- An object that is given away is shared, and stays. So does a private one in a place of it, until
-- the place is emptied.
abbrev given : List Row
given =
    alloc 0 0 1 gives made (object 0 0 1)
    ∷ alloc 0 1 0 gives made (object 0 1 1)
    ∷ store 0 0 0 1 gives ok
    ∷ give 0 1 7 0 gives sent 1
    ∷ drop_register 0 1 gives ok
    ∷ reclaim 0 gives reclaims 0
    ∷ clear 0 0 0 gives ok
    ∷ reclaim 0 gives reclaims 1
    ∷ drop_register 0 0 gives ok
    ∷ reclaim 0 gives refused NothingToDo
    ∷ 0 shows state 0 0 0 White (pos 0) (pos 1) 0 1 false 0
    ∷ []

pub given-prints : Prints wide given
unfolding take_step act append free_one
given-prints = refl

-- An object that is put into a place of another node's object is shared.
abbrev put_away : List Row
put_away =
    handed_over 1 0 1 7 0
    ++ alloc 0 1 0 gives made (object 0 0 1)
    ∷ alloc 0 2 0 gives made (object 0 1 1)
    ∷ put 0 0 0 1 gives sent 1
    ∷ drop_register 0 1 gives ok
    ∷ drop_register 0 2 gives ok
    ∷ reclaim 0 gives reclaims 1
    ∷ reclaim 0 gives refused NothingToDo
    ∷ 0 shows state 0 0 0 White (pos 0) (pos 0) 0 1 false 0
    ∷ []

pub put-away-prints : Prints wide put_away
unfolding take_step act receive append see_to count_in take_body settled taken_in free_one
put-away-prints = refl

-- A private object in a place of a shared one becomes shared when another node reads the place.
abbrev read_out : List Row
read_out =
    alloc 1 0 1 gives made (object 1 0 1)
    ∷ alloc 1 1 0 gives made (object 1 1 1)
    ∷ store 1 0 0 1 gives ok
    ∷ give 1 0 7 0 gives sent 1
    ∷ save 1 gives done
    ∷ deliver 1 0 1 gives received
    ∷ accept 0 0 gives letter 1 7 (object 1 0 1)
    ∷ get 0 0 0 9 gives sent 1
    ∷ reclaim 1 gives reclaims 0
    ∷ save 0 gives done
    ∷ deliver 0 1 1 gives received
    ∷ reclaim 1 gives refused NothingToDo
    ∷ []

pub read-out-prints : Prints wide read_out
unfolding take_step act receive append see_to count_in take_body settled taken_in free_one
read-out-prints = refl

-- A grey object that is freed leaves the grey list, and the others stay there.
abbrev grey : List Row
grey =
    alloc 0 0 0 gives made (object 0 0 1)
    ∷ alloc 0 1 0 gives made (object 0 1 1)
    ∷ begin_cycle 0 gives began 1
    ∷ 0 shows state 1 0 0 White (pos 0) (pos 0) 2 2 false 0
    ∷ drop_register 0 1 gives ok
    ∷ reclaim 0 gives reclaims 1
    ∷ 0 shows state 1 0 0 White (pos 0) (pos 0) 1 1 false 0
    ∷ scan_grey 0 gives scanned_grey (object 0 0 1)
    ∷ scan_grey 0 gives refused NothingToDo
    ∷ []

pub grey-prints : Prints wide grey
unfolding take_step act append announce see_to make_grey enter join begun probe scan scanned
    free_one
grey-prints = refl

-- A young ring goes by a Reclaim of the young too. What is left is old then, so nothing is young.
abbrev young_ring : List Row
young_ring =
    reclaim_young 0 gives refused NothingToDo
    ∷ alloc 0 0 1 gives made (object 0 0 1)
    ∷ alloc 0 1 1 gives made (object 0 1 1)
    ∷ alloc 0 2 0 gives made (object 0 2 1)
    ∷ store 0 0 0 1 gives ok
    ∷ store 0 1 0 0 gives ok
    ∷ drop_register 0 0 gives ok
    ∷ drop_register 0 1 gives ok
    ∷ reclaim_young 0 gives reclaims 2
    ∷ 0 shows state 0 0 0 White (pos 0) (pos 0) 0 1 false 0
    ∷ reclaim_young 0 gives refused NothingToDo
    ∷ []

pub young-ring-prints : Prints wide young_ring
unfolding take_step act free_one
young-ring-prints = refl

-- An old ring stays, and goes by a Reclaim of all.
abbrev old_ring : List Row
old_ring =
    alloc 0 0 1 gives made (object 0 0 1)
    ∷ alloc 0 1 1 gives made (object 0 1 1)
    ∷ store 0 0 0 1 gives ok
    ∷ store 0 1 0 0 gives ok
    ∷ reclaim_young 0 gives reclaims 0
    ∷ drop_register 0 0 gives ok
    ∷ drop_register 0 1 gives ok
    ∷ reclaim_young 0 gives refused NothingToDo
    ∷ alloc 0 2 0 gives made (object 0 2 1)
    ∷ drop_register 0 2 gives ok
    ∷ reclaim_young 0 gives reclaims 1
    ∷ reclaim 0 gives reclaims 2
    ∷ 0 shows state 0 0 0 White (pos 0) (pos 0) 0 0 false 0
    ∷ []

pub old-ring-prints : Prints wide old_ring
unfolding take_step act free_one
old-ring-prints = refl

-- A young object that an old one names stays, and so does what it names in turn. They are old then,
-- and go by a Reclaim of all once the old one names them no more.
abbrev remembered : List Row
remembered =
    alloc 0 0 1 gives made (object 0 0 1)
    ∷ reclaim_young 0 gives reclaims 0
    ∷ alloc 0 1 1 gives made (object 0 1 1)
    ∷ alloc 0 2 0 gives made (object 0 2 1)
    ∷ store 0 1 0 2 gives ok
    ∷ store 0 0 0 1 gives ok
    ∷ drop_register 0 1 gives ok
    ∷ drop_register 0 2 gives ok
    ∷ reclaim_young 0 gives reclaims 0
    ∷ clear 0 0 0 gives ok
    ∷ reclaim_young 0 gives refused NothingToDo
    ∷ reclaim 0 gives reclaims 2
    ∷ 0 shows state 0 0 0 White (pos 0) (pos 0) 0 1 false 0
    ∷ []

pub remembered-prints : Prints wide remembered
unfolding take_step act free_one
remembered-prints = refl

-- A remembered object stays even if the old one names it no more. Only a Reclaim of all looks.
abbrev forgotten : List Row
forgotten =
    alloc 0 0 1 gives made (object 0 0 1)
    ∷ reclaim_young 0 gives reclaims 0
    ∷ alloc 0 1 0 gives made (object 0 1 1)
    ∷ store 0 0 0 1 gives ok
    ∷ clear 0 0 0 gives ok
    ∷ drop_register 0 1 gives ok
    ∷ reclaim_young 0 gives reclaims 0
    ∷ reclaim 0 gives reclaims 1
    ∷ []

pub forgotten-prints : Prints wide forgotten
unfolding take_step act free_one
forgotten-prints = refl

-- What another node puts into a place of an old object is remembered too.
abbrev put_back : List Row
put_back =
    alloc 0 0 1 gives made (object 0 0 1)
    ∷ give 0 1 7 0 gives sent 1
    ∷ reclaim_young 0 gives reclaims 0
    ∷ alloc 0 1 0 gives made (object 0 1 1)
    ∷ give 0 1 8 1 gives sent 2
    ∷ save 0 gives done
    ∷ deliver 0 1 1 gives received
    ∷ deliver 0 1 2 gives received
    ∷ accept 1 0 gives letter 0 7 (object 0 0 1)
    ∷ accept 1 1 gives letter 0 8 (object 0 1 1)
    ∷ put 1 0 0 1 gives sent 1
    ∷ save 1 gives done
    ∷ deliver 1 0 1 gives received
    ∷ drop_register 0 1 gives ok
    ∷ reclaim_young 0 gives reclaims 0
    ∷ reclaim 0 gives refused NothingToDo
    ∷ []

pub put-back-prints : Prints wide put_back
unfolding take_step act receive append see_to count_in take_body settled taken_in free_one
put-back-prints = refl

-- In a plain space every object is shared and old, so there is nothing to reclaim.
abbrev plain : List Row
plain =
    alloc 0 0 0 gives made (object 0 0 1)
    ∷ drop_register 0 0 gives ok
    ∷ reclaim 0 gives refused NothingToDo
    ∷ reclaim_young 0 gives refused NothingToDo
    ∷ 0 shows state 0 0 0 White (pos 0) (pos 0) 0 1 false 0
    ∷ []

pub plain-prints : Prints (space 2 4 16) plain
unfolding take_step act
plain-prints = refl

-- ---- heaps that no run may have

-- an object of some generation, shared or private, with one place
abbrev aged : Age → ℕ → Bool → Option Ref → Slot
aged age generation shared place =
    Occupied generation
    (record { word = 0; bytes = []; places = place ∷ []; mark = 0; shared = shared; age = age })

-- an old one
abbrev held : ℕ → Bool → Option Ref → Slot
held = aged Old

abbrev heap : List Slot → List ℕ → List Letter → Heap
heap slots free letters =
    record { slots = slots; free = free; registers = None ∷ []; letters = letters; grey = [] }

-- a letter's reference is a root
abbrev mail : Letter
mail = simple_letter 1 7 (Some (object 0 1 1))

pub letter-keeps : reclaimed scope.All 0
    (heap (held 1 false None ∷ held 1 false None ∷ []) [] (mail ∷ []))
    ≡ heap (Free 2 ∷ held 1 false None ∷ []) (0 ∷ []) (mail ∷ [])
unfolding free_one
letter-keeps = refl

-- Neither an old reference to the slot keeps an object, nor one to the same slot of another node.
pub other-references : reclaimed scope.All 0
    (heap
    (held 1 true (Some (object 0 1 1))
    ∷ held 2 false None
    ∷ held 1 true (Some (object 1 3 1))
    ∷ held 1 false None ∷ []) [] [])
    ≡ heap
    (held 1 true (Some (object 0 1 1))
    ∷ Free 3
    ∷ held 1 true (Some (object 1 3 1))
    ∷ Free 2 ∷ [])
    (3 ∷ 1 ∷ [])
    []
unfolding free_one
other-references = refl

-- A chain of three private objects hangs on a shared one. Each stays, also the last one.
abbrev chain : List Slot
chain =
    held 1 false None
    ∷ held 1 false (Some (object 0 0 1))
    ∷ held 1 false (Some (object 0 1 1))
    ∷ held 1 true (Some (object 0 2 1))
    ∷ []

pub chain-stays : reclaimed scope.All 0 (heap chain [] []) ≡ heap chain [] []
unfolding free_one
chain-stays = refl

-- After the last generation the slot is retired.
pub last-generation : reclaimed scope.All 0
    (heap (held GREATEST_GENERATION false None ∷ []) [] [])
    ≡ heap (Retired ∷ []) [] []
unfolding free_one
last-generation = refl

-- A Reclaim of the young doesn't follow the places of old objects, and frees none of these.
pub not-followed : reclaimed scope.Young 0
    (heap
    (aged Old 1 true (Some (object 0 2 1))
    ∷ aged Old 1 false None
    ∷ aged Young 1 false None ∷ []) [] [])
    ≡ heap
    (aged Old 1 true (Some (object 0 2 1))
    ∷ aged Old 1 false None
    ∷ Free 2 ∷ [])
    (2 ∷ [])
    []
unfolding free_one
not-followed = refl

-- It keeps what is remembered and what is shared, and what young ones that it keeps name.
pub kept-young : reclaimed scope.Young 0
    (heap
    (aged Remembered 1 false (Some (object 0 1 1))
    ∷ aged Young 1 false None
    ∷ aged Young 1 true (Some (object 0 3 1))
    ∷ aged Young 1 false (Some (object 0 0 1)) ∷ []) [] [])
    ≡ heap
    (aged Old 1 false (Some (object 0 1 1))
    ∷ aged Old 1 false None
    ∷ aged Old 1 true (Some (object 0 3 1))
    ∷ aged Old 1 false (Some (object 0 0 1)) ∷ [])
    []
    []
unfolding free_one
kept-young = refl
