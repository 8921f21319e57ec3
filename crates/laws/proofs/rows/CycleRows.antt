-- Worked examples of whole cycles, computed: what is held stays, and what isn't held goes.
use Rattle.std.proofs.Common.{◌≡◌, ℕ, ◌+◌, pos, List, [], ◌∷◌, ◌++◌, refl}
use Rattle.std.specs.Int.{int_wrap}
use Rattle.ids.specs.declared.refusal.Refusal.TheVariants.{NothingToDo}
use Rattle.msg.specs.declared.body.Colour.TheVariants.{White, Black}
use Rattle.model.specs.State.{slot_at, node_at}
use Rattle.model.specs.Counting.{append, announce}
use Rattle.model.specs.Shading.{make_grey, see_to, enter, join}
use Rattle.model.specs.Collecting.{probe, begun, scan, scanned, conclude, passed, free_one, swept_slots}
use Rattle.model.specs.Steps.{act, receive, count_in, take_body, settled, taken_in}
use Rattle.model.specs.World.{take_step, new_world}
use Rattle.laws.proofs.rows.Rows.{object, space, alloc, drop_register, give, accept, made, sent, letter, received, done, refused}
use Rattle.laws.proofs.rows.ObjectRows.{store}
use Rattle.laws.proofs.rows.Words.{begin_cycle, scan_grey, pass_token, save, deliver, ok, began, scanned_grey, probe_again, ended, Row, ◌gives◌, Prints, mark_of, after, passes_on, both_sweep}

-- Two nodes mark nothing until this cycle ends. Node 1 was black when it joined, so the token goes
-- around twice. It comes to node 1 as this message of node 0, and back as this message of node 1.
abbrev pub two_probes : ℕ → ℕ → ℕ → List Row
two_probes cycle out back =
    save 0 gives done
    ∷ deliver 0 1 out gives received
    ∷ passes_on 1 (pos 0) Black back
    ++ pass_token 0 gives probe_again
    ∷ save 0 gives done
    ∷ deliver 0 1 (out + 1) gives received
    ∷ deliver 0 1 (out + 2) gives received
    ∷ passes_on 1 (pos 0) White (back + 1)
    ++ pass_token 0 gives ended cycle
    ∷ []

-- Both find nothing to free, and the next cycle begins. Node 1 is told of the end by this message
-- of node 0, and reports its sweep by this message.
abbrev pub swept_by_both : ℕ → ℕ → List Row
swept_by_both out back =
    both_sweep 0 out 0
    ++ save 1 gives done
    ∷ deliver 1 0 back gives received
    ∷ begin_cycle 0 gives began 2
    ∷ []

-- there are no objects at all
abbrev empty_space : List Row
empty_space =
    begin_cycle 0 gives began 1
    ∷ two_probes 1 1 1
    ++ swept_by_both 4 3

pub empty-space-prints : Prints (space 2 4 16) empty_space
unfolding int_wrap take_step act receive append announce see_to make_grey enter join begun probe
    conclude passed free_one swept_slots count_in take_body settled taken_in
empty-space-prints = refl

-- Two objects of two nodes name each other, and register 0 of node 0 names one of them.
abbrev pub building : List Row
building =
    alloc 0 0 1 gives made (object 0 0 1)
    ∷ alloc 1 0 1 gives made (object 1 0 1)
    ∷ give 0 1 7 0 gives sent 1
    ∷ save 0 gives done
    ∷ deliver 0 1 1 gives received
    ∷ accept 1 1 gives letter 0 7 (object 0 0 1)
    ∷ store 1 0 0 1 gives ok
    ∷ give 1 0 8 0 gives sent 1
    ∷ save 1 gives done
    ∷ deliver 1 0 1 gives received
    ∷ accept 0 1 gives letter 1 8 (object 1 0 1)
    ∷ store 0 0 0 1 gives ok
    ∷ drop_register 0 1 gives ok
    ∷ drop_register 1 0 gives ok
    ∷ drop_register 1 1 gives ok
    ∷ save 1 gives done
    ∷ []

-- They go when neither node holds one any more.
abbrev pub ring_swept : List Row
ring_swept =
    begin_cycle 0 gives began 1
    ∷ two_probes 1 2 2
    ++ both_sweep 1 5 1

-- that register is emptied, and both go
abbrev ring_freed : List Row
ring_freed = building ++ drop_register 0 0 gives ok ∷ ring_swept

pub ring-freed-prints : Prints (space 2 4 16) ring_freed
unfolding int_wrap take_step act receive append announce see_to make_grey enter join begun probe
    conclude passed free_one swept_slots count_in take_body settled taken_in
ring-freed-prints = refl

-- that register isn't emptied, and both stay
abbrev ring_kept : List Row
ring_kept =
    building
    ++ begin_cycle 0 gives began 1
    ∷ scan_grey 0 gives scanned_grey (object 0 0 1)
    ∷ save 0 gives done
    ∷ deliver 0 1 2 gives received
    ∷ passes_on 1 (pos 0) Black 2
    ++ pass_token 0 gives probe_again
    ∷ save 0 gives done
    ∷ deliver 0 1 3 gives received
    ∷ deliver 0 1 4 gives received
    ∷ deliver 0 1 5 gives received
    ∷ pass_token 1 gives refused NothingToDo
    ∷ scan_grey 1 gives scanned_grey (object 1 0 1)
    ∷ passes_on 1 (pos 0) Black 3
    ++ deliver 1 0 4 gives received
    ∷ pass_token 0 gives probe_again
    ∷ save 0 gives done
    ∷ deliver 0 1 6 gives received
    ∷ passes_on 1 (pos 0) White 5
    ++ pass_token 0 gives ended 1
    ∷ both_sweep 0 7 0

pub ring-kept-prints : Prints (space 2 4 16) ring_kept
unfolding int_wrap take_step act receive append announce see_to make_grey enter join begun probe
    scan scanned conclude passed free_one swept_slots count_in take_body settled taken_in
ring-kept-prints = refl

-- both are then marked with the cycle
abbrev mark_at : ℕ → ℕ
mark_at node =
    mark_of
    (slot_at
    (node_at (after (new_world (space 2 4 16)) ring_kept).current node).local.heap
    0)

pub ring-kept-marked : (mark_at 0 ≡ 1) × (mark_at 1 ≡ 1)
unfolding int_wrap take_step act receive append announce see_to make_grey enter join begun probe
    scan scanned conclude passed free_one swept_slots count_in take_body settled taken_in
ring-kept-marked = (refl, refl)
