-- Worked examples of the order in which references are shaded, and of what shading keeps, computed.
use Rattle.std.proofs.Common.{ℕ, ◌+◌, pos, neg_ℤ, true, false, List, [], ◌∷◌, ◌++◌, Some, refl}
use Rattle.std.specs.Int.{int_wrap}
use Rattle.ids.specs.declared.names.Ref.{Ref}
use Rattle.ids.specs.declared.refusal.Refusal.TheVariants.{NothingToDo}
use Rattle.msg.specs.declared.body.Colour.TheVariants.{White, Black}
use Rattle.model.specs.Counting.{append, announce}
use Rattle.model.specs.Shading.{make_grey, see_to, enter, join}
use Rattle.model.specs.Collecting.{probe, begun, scan, scanned, conclude, passed, free_one, swept_slots}
use Rattle.model.specs.Steps.{act, receive, count_in, take_body, settled, taken_in}
use Rattle.model.specs.World.{take_step}
use Rattle.laws.proofs.rows.Rows.{object, space, alloc, drop_register, give, accept, made, sent, letter, received, done, no_frame, refused}
use Rattle.laws.proofs.rows.ObjectRows.{copy, load, store, put, get, value}
use Rattle.laws.proofs.rows.Words.{begin_cycle, scan_grey, pass_token, save, deliver, ok, began, scanned_grey, probe_again, ended, state, Row, ◌gives◌, ◌shows◌, Prints, passes_on, first_token, comes_over, handed_over}
use Rattle.laws.proofs.rows.CycleRows.{swept_by_both}

-- The letters 1 and 2 bring node 0 references of these two registers of node 1, which name objects
-- in the slots of the same numbers. They end up in this register of node 0 and the next one.
abbrev two_given : (first second register : ℕ) → List Row
two_given first second register =
    give 1 0 1 first gives sent 1
    ∷ give 1 0 2 second gives sent 2
    ∷ drop_register 1 first gives ok
    ∷ drop_register 1 second gives ok
    ∷ save 1 gives done
    ∷ deliver 1 0 1 gives received
    ∷ deliver 1 0 2 gives received
    ∷ accept 0 register gives letter 1 1 (object 1 first 1)
    ∷ accept 0 (register + 1) gives letter 1 2 (object 1 second 1)
    ∷ []

-- A node that joins shades its registers in order, and then its letters, oldest first. The object
-- that turned grey last is scanned first.
abbrev roots_in_order : List Row
roots_in_order =
    alloc 1 0 0 gives made (object 1 0 1)
    ∷ alloc 1 1 0 gives made (object 1 1 1)
    ∷ alloc 1 2 0 gives made (object 1 2 1)
    ∷ alloc 1 3 0 gives made (object 1 3 1)
    ∷ two_given 3 2 0
    ++ give 0 1 3 0 gives sent 1
    ∷ give 0 1 4 1 gives sent 2
    ∷ drop_register 0 0 gives ok
    ∷ drop_register 0 1 gives ok
    ∷ save 0 gives done
    ∷ copy 1 2 0 gives ok
    ∷ copy 1 0 1 gives ok
    ∷ copy 1 1 2 gives ok
    ∷ drop_register 1 2 gives ok
    ∷ deliver 0 1 1 gives received
    ∷ deliver 0 1 2 gives received
    ∷ begin_cycle 0 gives began 1
    ∷ save 0 gives done
    ∷ deliver 0 1 3 gives received
    ∷ 1 shows state 1 0 0 Black (pos 0) (pos 0) 4 4 true 2
    ∷ scan_grey 1 gives scanned_grey (object 1 2 1)
    ∷ scan_grey 1 gives scanned_grey (object 1 3 1)
    ∷ scan_grey 1 gives scanned_grey (object 1 0 1)
    ∷ scan_grey 1 gives scanned_grey (object 1 1 1)
    ∷ scan_grey 1 gives refused NothingToDo
    ∷ []

pub roots-in-order-prints : Prints (space 2 4 16) roots_in_order
unfolding take_step act receive append announce see_to make_grey enter join begun probe scan scanned
    count_in take_body settled taken_in
roots-in-order-prints = refl

-- Only this object of register 0 still names what was in registers 1 and 2, and it is scanned.
abbrev scanned_alone : Ref → List Row
scanned_alone r =
    drop_register 0 1 gives ok
    ∷ drop_register 0 2 gives ok
    ∷ begin_cycle 0 gives began 1
    ∷ scan_grey 0 gives scanned_grey r
    ∷ []

-- The places of an object are shaded in order.
abbrev places_in_order : List Row
places_in_order =
    alloc 0 1 0 gives made (object 0 0 1)
    ∷ alloc 0 2 0 gives made (object 0 1 1)
    ∷ alloc 0 0 3 gives made (object 0 2 1)
    ∷ store 0 0 0 2 gives ok
    ∷ store 0 0 2 1 gives ok
    ∷ scanned_alone (object 0 2 1)
    ++ scan_grey 0 gives scanned_grey (object 0 0 1)
    ∷ scan_grey 0 gives scanned_grey (object 0 1 1)
    ∷ scan_grey 0 gives refused NothingToDo
    ∷ []

pub places-in-order-prints : Prints (space 2 4 16) places_in_order
unfolding take_step act append announce see_to make_grey enter join begun probe scan scanned
places-in-order-prints = refl

-- Node 1 makes two objects, the first with this many places. References to both end up in this
-- register of node 0 and the next one.
abbrev two_come_over : ℕ → ℕ → List Row
two_come_over places register =
    alloc 1 0 places gives made (object 1 0 1)
    ∷ alloc 1 1 0 gives made (object 1 1 1)
    ∷ two_given 0 1 register

-- Marks are sent in the order of the places, one for each object. The second place names the same
-- object as the first.
abbrev marks_in_order : List Row
marks_in_order =
    two_come_over 0 1
    ++ alloc 0 0 3 gives made (object 0 0 1)
    ∷ store 0 0 0 2 gives ok
    ∷ store 0 0 1 2 gives ok
    ∷ store 0 0 2 1 gives ok
    ∷ scanned_alone (object 0 0 1)
    ++ 0 shows state 1 0 0 White (pos 0) (pos 0) 0 1 false 0
    ∷ save 0 gives done
    ∷ deliver 0 1 1 gives received
    ∷ deliver 0 1 2 gives received
    ∷ deliver 0 1 3 gives received
    ∷ scan_grey 1 gives scanned_grey (object 1 1 1)
    ∷ deliver 0 1 4 gives received
    ∷ scan_grey 1 gives scanned_grey (object 1 0 1)
    ∷ deliver 0 1 5 gives no_frame
    ∷ []

pub marks-in-order-prints : Prints (space 2 4 16) marks_in_order
unfolding take_step act receive append announce see_to make_grey enter join begun probe scan scanned
    count_in take_body settled taken_in
marks-in-order-prints = refl

-- For a Put from an earlier cycle, the object that it writes to is shaded before the reference that
-- it brings. Node 1 has joined by the token, which comes to it from node 2.
abbrev target_first : List Row
target_first =
    two_come_over 1 0
    ++ put 0 0 0 1 gives sent 1
    ∷ drop_register 0 0 gives ok
    ∷ drop_register 0 1 gives ok
    ∷ begin_cycle 0 gives began 1
    ∷ first_token
    ++ 1 shows state 1 0 0 Black (pos 2) (pos 0) 0 2 true 0
    ∷ deliver 0 1 1 gives received
    ∷ 1 shows state 1 0 0 Black (pos 1) (pos 0) 2 2 true 0
    ∷ scan_grey 1 gives scanned_grey (object 1 1 1)
    ∷ scan_grey 1 gives scanned_grey (object 1 0 1)
    ∷ []

pub target-first-prints : Prints (space 3 4 16) target_first
unfolding int_wrap take_step act receive append announce see_to make_grey enter join begun probe
    scan scanned conclude passed count_in take_body settled taken_in
target-first-prints = refl

-- Node 0 gets an object whose place names what is in register 1 of node 1, and asks for that. A
-- cycle begins before node 1 hears of it. The object ends up in this register, and is dropped.
abbrev asked_before : ℕ → List Row
asked_before register =
    store 1 0 0 1 gives ok
    ∷ give 1 0 (register + 1) 0 gives sent 1
    ∷ drop_register 1 0 gives ok
    ∷ drop_register 1 1 gives ok
    ∷ save 1 gives done
    ∷ deliver 1 0 1 gives received
    ∷ accept 0 register gives letter 1 (register + 1) (object 1 0 1)
    ∷ get 0 register 0 (register + 2) gives sent (register + 1)
    ∷ drop_register 0 register gives ok
    ∷ begin_cycle 0 gives began 1
    ∷ first_token

-- What a Get asks for is shaded before it is sent back. If it names an object of the node that
-- asked, the Mark comes before the Give.
abbrev mark_before_answer : List Row
mark_before_answer =
    comes_over 0 1 1
    ++ alloc 1 0 1 gives made (object 1 0 1)
    ∷ asked_before 1
    ++ 1 shows state 1 0 0 Black (pos 0) (pos 0) 0 1 true 0
    ∷ deliver 0 1 2 gives received
    ∷ 1 shows state 1 0 0 Black (pos 0) (pos 1) 1 1 true 0
    ∷ save 1 gives done
    ∷ deliver 1 0 2 gives received
    ∷ 0 shows state 1 0 0 Black (pos 0) (pos 0) 1 1 false 0
    ∷ deliver 1 0 3 gives received
    ∷ 0 shows state 1 0 0 Black (pos 0) (neg_ℤ (pos 1)) 1 1 false 1
    ∷ accept 0 2 gives letter 1 3 (object 0 0 1)
    ∷ []

pub mark-before-answer-prints : Prints (space 3 4 16) mark_before_answer
unfolding int_wrap take_step act receive append announce see_to make_grey enter join begun probe
    conclude passed count_in take_body settled taken_in
mark-before-answer-prints = refl

-- An own object of the node turns grey when a Get asks for it.
abbrev value_shaded : List Row
value_shaded =
    alloc 1 0 1 gives made (object 1 0 1)
    ∷ alloc 1 1 0 gives made (object 1 1 1)
    ∷ asked_before 0
    ++ deliver 0 1 1 gives received
    ∷ 1 shows state 1 0 0 Black (pos 0) (pos 1) 2 2 true 0
    ∷ scan_grey 1 gives scanned_grey (object 1 1 1)
    ∷ scan_grey 1 gives scanned_grey (object 1 0 1)
    ∷ []

pub value-shaded-prints : Prints (space 3 4 16) value_shaded
unfolding int_wrap take_step act receive append announce see_to make_grey enter join begun probe
    scan scanned conclude passed count_in take_body settled taken_in
value-shaded-prints = refl

-- A reference that was vouched for counts as asked for: no Mark is sent when it is met again.
abbrev vouched_once : List Row
vouched_once =
    comes_over 0 1 0
    ++ begin_cycle 0 gives began 1
    ∷ first_token
    ++ give 1 2 9 0 gives sent 1
    ∷ save 1 gives done
    ∷ deliver 1 2 1 gives received
    ∷ accept 2 0 gives letter 1 9 (object 0 0 1)
    ∷ alloc 2 1 1 gives made (object 2 0 1)
    ∷ store 2 1 0 0 gives ok
    ∷ load 2 2 1 0 gives value (Some (object 0 0 1))
    ∷ 2 shows state 1 0 0 White (pos 0) (neg_ℤ (pos 1)) 0 1 false 0
    ∷ []

pub vouched-once-prints : Prints (space 3 4 16) vouched_once
unfolding int_wrap take_step act receive append announce see_to make_grey enter join begun probe
    conclude passed count_in take_body settled taken_in
vouched-once-prints = refl

-- What was asked for in one cycle is asked for again in the next.
abbrev asked_again : List Row
asked_again =
    handed_over 1 0 0 1 0
    ++ begin_cycle 0 gives began 1
    ∷ save 0 gives done
    ∷ deliver 0 1 1 gives received
    ∷ deliver 0 1 2 gives received
    ∷ deliver 0 1 3 gives received
    ∷ scan_grey 1 gives scanned_grey (object 1 0 1)
    ∷ 1 shows state 1 0 0 Black (pos 0) (pos 0) 0 1 true 0
    ∷ passes_on 1 (pos 0) Black 2
    ++ pass_token 0 gives probe_again
    ∷ save 0 gives done
    ∷ deliver 0 1 4 gives received
    ∷ passes_on 1 (pos 0) White 3
    ++ pass_token 0 gives ended 1
    ∷ swept_by_both 5 4
    ++ 0 shows state 2 1 1 White (pos 1) (pos 0) 0 0 false 0
    ∷ save 0 gives done
    ∷ deliver 0 1 6 gives received
    ∷ 1 shows state 2 1 1 Black (neg_ℤ (pos 1)) (pos 0) 1 1 false 0
    ∷ []

pub asked-again-prints : Prints (space 2 4 16) asked_again
unfolding int_wrap take_step act receive append announce see_to make_grey enter join begun probe
    scan scanned conclude passed free_one swept_slots count_in take_body settled taken_in
asked-again-prints = refl
