-- Worked examples of sweeping, computed: which slots are looked at, and how they are used again.
use Rattle.std.proofs.Common.{pos, false, List, [], ◌∷◌, ◌++◌, Some, refl}
use Rattle.std.specs.Int.{int_wrap}
use Rattle.ids.specs.declared.refusal.Refusal.TheVariants.{CycleRunning, NothingToDo}
use Rattle.msg.specs.declared.body.Colour.TheVariants.{White}
use Rattle.model.specs.Counting.{append, announce}
use Rattle.model.specs.Shading.{make_grey, see_to, enter, join}
use Rattle.model.specs.Collecting.{probe, begun, scan, scanned, conclude, passed, free_one, swept_slots}
use Rattle.model.specs.Steps.{act, receive, count_in, take_body, settled, taken_in}
use Rattle.model.specs.World.{take_step}
use Rattle.laws.proofs.rows.Rows.{object, space, alloc, drop_register, made, received, done, refused}
use Rattle.laws.proofs.rows.ObjectRows.{load, store, clear, value}
use Rattle.laws.proofs.rows.Words.{begin_cycle, scan_grey, sweep_slots, save, deliver, ok, began, scanned_grey, freed_done, freed_more, state, Row, ◌gives◌, ◌shows◌, Prints}
use Rattle.laws.proofs.rows.CycleRows.{two_probes}

-- Two objects that nothing names, at the end of marking.
abbrev two_unmarked : List Row
two_unmarked =
    alloc 0 0 0 gives made (object 0 0 1)
    ∷ alloc 0 1 0 gives made (object 0 1 1)
    ∷ drop_register 0 0 gives ok
    ∷ drop_register 0 1 gives ok
    ∷ begin_cycle 0 gives began 1
    ∷ two_probes 1 1 1

-- A slot is used again as soon as it is freed, while the sweep goes on.
abbrev slots_again : List Row
slots_again =
    two_unmarked
    ++ sweep_slots 0 1 gives freed_more 1
    ∷ alloc 0 2 0 gives made (object 0 0 2)
    ∷ sweep_slots 0 1 gives freed_done 1
    ∷ alloc 0 3 0 gives made (object 0 1 2)
    ∷ sweep_slots 0 1 gives refused NothingToDo
    ∷ []

pub slots-again-prints : Prints (space 2 4 16) slots_again
unfolding int_wrap take_step act receive append announce see_to make_grey enter join begun probe
    conclude passed free_one swept_slots count_in take_body settled taken_in
slots-again-prints = refl

-- Of the slots that one sweep frees, the last one is used first.
abbrev freed_last_first : List Row
freed_last_first =
    two_unmarked
    ++ sweep_slots 0 16 gives freed_done 2
    ∷ alloc 0 2 0 gives made (object 0 1 2)
    ∷ alloc 0 3 0 gives made (object 0 0 2)
    ∷ alloc 0 0 0 gives made (object 0 2 1)
    ∷ []

pub freed-last-first-prints : Prints (space 2 4 16) freed_last_first
unfolding int_wrap take_step act receive append announce see_to make_grey enter join begun probe
    conclude passed free_one swept_slots count_in take_body settled taken_in
freed-last-first-prints = refl

-- A sweep looks at no more slots than the given number. That number may be 0, which ends the sweep
-- if no slot is left.
abbrev swept_in_parts : List Row
swept_in_parts =
    sweep_slots 0 1 gives refused NothingToDo
    ∷ alloc 0 0 0 gives made (object 0 0 1)
    ∷ alloc 0 1 0 gives made (object 0 1 1)
    ∷ alloc 0 2 0 gives made (object 0 2 1)
    ∷ begin_cycle 0 gives began 1
    ∷ sweep_slots 0 1 gives refused NothingToDo
    ∷ drop_register 0 1 gives ok
    ∷ scan_grey 0 gives scanned_grey (object 0 2 1)
    ∷ scan_grey 0 gives scanned_grey (object 0 1 1)
    ∷ scan_grey 0 gives scanned_grey (object 0 0 1)
    ∷ two_probes 1 1 1
    ++ sweep_slots 0 0 gives freed_more 0
    ∷ sweep_slots 0 2 gives freed_more 0
    ∷ 0 shows state 1 1 0 White (pos 0) (pos 0) 0 3 false 0
    ∷ sweep_slots 0 1 gives freed_done 0
    ∷ sweep_slots 0 0 gives refused NothingToDo
    ∷ 0 shows state 1 1 1 White (pos 0) (pos 0) 0 3 false 0
    ∷ save 0 gives done
    ∷ deliver 0 1 4 gives received
    ∷ sweep_slots 1 0 gives freed_done 0
    ∷ []

pub swept-in-parts-prints : Prints (space 2 4 16) swept_in_parts
unfolding int_wrap take_step act receive append announce see_to make_grey enter join begun probe
    scan scanned conclude passed free_one swept_slots count_in take_body settled taken_in
swept-in-parts-prints = refl

-- An object that is made while marking goes on is marked, and stays.
abbrev made_marked : List Row
made_marked =
    begin_cycle 0 gives began 1
    ∷ alloc 0 0 0 gives made (object 0 0 1)
    ∷ drop_register 0 0 gives ok
    ∷ 0 shows state 1 0 0 White (pos 0) (pos 0) 0 1 false 0
    ∷ two_probes 1 1 1
    ++ sweep_slots 0 255 gives freed_done 0
    ∷ []

pub made-marked-prints : Prints (space 2 4 16) made_marked
unfolding int_wrap take_step act receive append announce see_to make_grey enter join begun probe
    conclude passed free_one swept_slots count_in take_body settled taken_in
made-marked-prints = refl

-- What is loaded is shaded, so it stays if its place is emptied before the object is scanned.
abbrev load_shades : List Row
load_shades =
    alloc 0 0 1 gives made (object 0 0 1)
    ∷ alloc 0 1 0 gives made (object 0 1 1)
    ∷ store 0 0 0 1 gives ok
    ∷ drop_register 0 1 gives ok
    ∷ begin_cycle 0 gives began 1
    ∷ 0 shows state 1 0 0 White (pos 0) (pos 0) 1 2 false 0
    ∷ load 0 1 0 0 gives value (Some (object 0 1 1))
    ∷ 0 shows state 1 0 0 White (pos 0) (pos 0) 2 2 false 0
    ∷ clear 0 0 0 gives ok
    ∷ scan_grey 0 gives scanned_grey (object 0 1 1)
    ∷ scan_grey 0 gives scanned_grey (object 0 0 1)
    ∷ two_probes 1 1 1
    ++ sweep_slots 0 16 gives freed_done 0
    ∷ []

pub load-shades-prints : Prints (space 2 4 16) load_shades
unfolding int_wrap take_step act receive append announce see_to make_grey enter join begun probe
    scan scanned conclude passed free_one swept_slots count_in take_body settled taken_in
load-shades-prints = refl

-- The next cycle waits for node 0's own sweep, though all others have reported theirs.
abbrev own_sweep : List Row
own_sweep =
    begin_cycle 0 gives began 1
    ∷ two_probes 1 1 1
    ++ save 0 gives done
    ∷ deliver 0 1 4 gives received
    ∷ sweep_slots 1 16 gives freed_done 0
    ∷ save 1 gives done
    ∷ deliver 1 0 3 gives received
    ∷ begin_cycle 0 gives refused CycleRunning
    ∷ sweep_slots 0 16 gives freed_done 0
    ∷ begin_cycle 0 gives began 2
    ∷ []

pub own-sweep-prints : Prints (space 2 4 16) own_sweep
unfolding int_wrap take_step act receive append announce see_to make_grey enter join begun probe
    conclude passed free_one swept_slots count_in take_body settled taken_in
own-sweep-prints = refl
