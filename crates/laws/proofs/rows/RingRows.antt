-- Worked examples of the ring, computed: messages that were in flight when a node joined, and
-- messages that were sent in the cycle.
use Rattle.std.proofs.Common.{pos, neg_ℤ, true, false, List, [], ◌∷◌, ◌++◌, refl}
use Rattle.std.specs.Int.{int_wrap}
use Rattle.ids.specs.declared.refusal.Refusal.TheVariants.{NothingToDo}
use Rattle.msg.specs.declared.body.Colour.TheVariants.{White, Black}
use Rattle.model.specs.Counting.{append, announce}
use Rattle.model.specs.Shading.{make_grey, see_to, enter, join}
use Rattle.model.specs.Collecting.{probe, begun, scan, scanned, conclude, passed, free_one, swept_slots}
use Rattle.model.specs.Steps.{act, receive, count_in, take_body, settled, taken_in}
use Rattle.model.specs.World.{take_step}
use Rattle.laws.proofs.rows.Rows.{object, space, alloc, drop_register, give, accept, made, sent, letter, received, done, no_frame, refused}
use Rattle.laws.proofs.rows.Words.{begin_cycle, scan_grey, pass_token, sweep_slots, save, deliver, ok, began, scanned_grey, passed_token, probe_again, ended, freed_done, state, Row, ◌gives◌, ◌shows◌, Prints, passes_on, first_token, two_rounds, comes_over, handed_over}

-- A reference that was sent before joining is held back over three probes, none of which may
-- conclude.
abbrev held_back : List Row
held_back =
    alloc 1 0 0 gives made (object 1 0 1)
    ∷ give 1 2 5 0 gives sent 1
    ∷ drop_register 1 0 gives ok
    ∷ save 1 gives done
    ∷ begin_cycle 0 gives began 1
    ∷ two_rounds 1
    ++ pass_token 0 gives probe_again
    ∷ save 0 gives done
    ∷ deliver 0 2 4 gives received
    ∷ passes_on 2 (pos 0) White 3
    ++ passes_on 1 (pos 1) White 3
    ++ pass_token 0 gives probe_again
    ∷ save 0 gives done
    ∷ deliver 1 2 1 gives received
    ∷ save 2 gives done
    ∷ deliver 2 1 4 gives received
    ∷ deliver 0 2 5 gives received
    ∷ passes_on 2 (pos 0) Black 5
    ++ pass_token 1 gives refused NothingToDo
    ∷ scan_grey 1 gives scanned_grey (object 1 0 1)
    ∷ passes_on 1 (pos 0) Black 4
    ++ pass_token 0 gives probe_again
    ∷ save 0 gives done
    ∷ deliver 0 2 6 gives received
    ∷ passes_on 2 (pos 0) White 6
    ++ passes_on 1 (pos 0) White 5
    ++ pass_token 0 gives ended 1
    ∷ save 0 gives done
    ∷ deliver 0 1 1 gives received
    ∷ deliver 0 1 2 gives received
    ∷ sweep_slots 1 16 gives freed_done 0
    ∷ accept 2 0 gives letter 1 5 (object 1 0 1)
    ∷ []

pub held-back-prints : Prints (space 3 4 16) held_back
unfolding int_wrap take_step act receive append announce see_to make_grey enter join begun probe
    scan scanned conclude passed free_one swept_slots count_in take_body settled taken_in
held-back-prints = refl

-- A reference of the same cycle to a third node's object causes no Mark.
abbrev same_cycle : List Row
same_cycle =
    comes_over 0 1 0
    ++ begin_cycle 0 gives began 1
    ∷ scan_grey 0 gives scanned_grey (object 0 0 1)
    ∷ first_token
    ++ give 1 2 9 0 gives sent 1
    ∷ save 1 gives done
    ∷ deliver 1 2 1 gives received
    ∷ 2 shows state 1 0 0 White (pos 0) (neg_ℤ (pos 1)) 0 0 false 1
    ∷ save 2 gives done
    ∷ deliver 2 0 1 gives no_frame
    ∷ []

pub same-cycle-prints : Prints (space 3 4 16) same_cycle
unfolding int_wrap take_step act receive append announce see_to make_grey enter join begun probe
    scan scanned conclude passed count_in take_body settled taken_in
same-cycle-prints = refl

-- A reference of the same cycle to an unmarked object of the receiver comes before the Mark for it.
abbrev overtakes_mark : List Row
overtakes_mark =
    handed_over 2 1 0 1 0
    ++ begin_cycle 0 gives began 1
    ∷ save 0 gives done
    ∷ deliver 0 2 1 gives received
    ∷ passes_on 2 (pos 1) Black 2
    ++ give 1 0 2 0 gives sent 1
    ∷ passes_on 1 (pos 1) Black 1
    ++ accept 0 0 gives letter 1 2 (object 2 0 1)
    ∷ deliver 1 0 2 gives received
    ∷ pass_token 0 gives probe_again
    ∷ give 0 2 3 0 gives sent 4
    ∷ save 0 gives done
    ∷ deliver 0 2 2 gives received
    ∷ deliver 0 2 3 gives received
    ∷ pass_token 2 gives passed_token (pos 1) White
    ∷ deliver 0 2 4 gives received
    ∷ 2 shows state 1 0 0 White (pos 1) (neg_ℤ (pos 1)) 1 1 false 1
    ∷ save 2 gives done
    ∷ deliver 2 1 3 gives received
    ∷ passes_on 1 (pos 1) White 3
    ++ pass_token 0 gives probe_again
    ∷ deliver 1 2 1 gives received
    ∷ 2 shows state 1 0 0 Black (pos 0) (neg_ℤ (pos 1)) 1 1 false 1
    ∷ []

pub overtakes-mark-prints : Prints (space 3 4 16) overtakes_mark
unfolding int_wrap take_step act receive append announce see_to make_grey enter join begun probe
    conclude passed count_in take_body settled taken_in
overtakes-mark-prints = refl

-- Node 0 counts its own balance. In the second probe the token has met no black node and its sum is
-- 0, but a Mark from node 0 to node 1 hasn't arrived.
abbrev own_balance : List Row
own_balance =
    handed_over 1 0 0 1 0
    ++ give 0 1 2 1 gives sent 1
    ∷ save 0 gives done
    ∷ deliver 0 1 1 gives received
    ∷ begin_cycle 0 gives began 1
    ∷ 0 shows state 1 0 0 White (pos 1) (pos 0) 0 0 false 0
    ∷ first_token
    ++ 1 shows state 1 0 0 Black (pos 0) (pos 0) 0 1 true 1
    ∷ passes_on 1 (pos 0) Black 2
    ++ pass_token 0 gives probe_again
    ∷ save 0 gives done
    ∷ deliver 0 2 2 gives received
    ∷ deliver 0 2 3 gives received
    ∷ passes_on 2 (pos 0) White 2
    ++ passes_on 1 (pos 0) White 3
    ++ 0 shows state 1 0 0 White (pos 1) (pos 0) 0 0 true 0
    ∷ pass_token 0 gives probe_again
    ∷ save 0 gives done
    ∷ deliver 0 2 4 gives received
    ∷ passes_on 2 (pos 0) White 3
    ++ deliver 0 1 2 gives received
    ∷ pass_token 1 gives refused NothingToDo
    ∷ scan_grey 1 gives scanned_grey (object 1 0 1)
    ∷ passes_on 1 (neg_ℤ (pos 1)) Black 4
    ++ pass_token 0 gives probe_again
    ∷ save 0 gives done
    ∷ deliver 0 2 5 gives received
    ∷ passes_on 2 (pos 0) White 4
    ++ passes_on 1 (neg_ℤ (pos 1)) White 5
    ++ pass_token 0 gives ended 1
    ∷ []

pub own-balance-prints : Prints (space 3 4 16) own_balance
unfolding int_wrap take_step act receive append announce see_to make_grey enter join begun probe
    scan scanned conclude passed count_in take_body settled taken_in
own-balance-prints = refl
