-- Worked examples of marking, computed: a cycle begins, and the roots of programs are shaded.
use Rattle.std.proofs.Common.{pos, neg_ℤ, false, List, [], ◌∷◌, ◌++◌, refl}
use Rattle.ids.specs.declared.refusal.Refusal.TheVariants.{NoRegister, EmptyRegister, Remote, NoField, TooManyFields, SelfSend, NotDirector, CycleRunning, NothingToDo}
use Rattle.msg.specs.declared.body.Colour.TheVariants.{White, Black}
use Rattle.model.specs.Counting.{append, announce}
use Rattle.model.specs.Shading.{make_grey, see_to, enter, join}
use Rattle.model.specs.Collecting.{probe, begun, scan, scanned}
use Rattle.model.specs.Steps.{act, receive, count_in, take_body, settled, taken_in}
use Rattle.model.specs.World.{take_step}
use Rattle.laws.proofs.rows.Rows.{object, space, alloc, drop_register, give, made, sent, received, done, refused}
use Rattle.laws.proofs.rows.ObjectRows.{load, store}
use Rattle.laws.proofs.rows.Words.{begin_cycle, scan_grey, save, deliver, ok, began, scanned_grey, state, Row, ◌gives◌, ◌shows◌, Prints, comes_over}

-- Node 0 has a letter with a reference of node 1 when the cycle begins, and asks node 1 to mark the
-- object. The Mark, the token and Begin are its messages 1, 2 and 3.
abbrev marked_at_owner : List Row
marked_at_owner =
    alloc 1 0 0 gives made (object 1 0 1)
    ∷ give 1 0 1 0 gives sent 1
    ∷ save 1 gives done
    ∷ deliver 1 0 1 gives received
    ∷ begin_cycle 0 gives began 1
    ∷ 0 shows state 1 0 0 White (pos 0) (pos 0) 0 0 false 1
    ∷ save 0 gives done
    ∷ deliver 0 1 1 gives received
    ∷ 1 shows state 1 0 0 Black (pos 0) (pos 0) 1 1 false 0
    ∷ deliver 0 1 2 gives received
    ∷ deliver 0 1 3 gives received
    ∷ scan_grey 1 gives scanned_grey (object 1 0 1)
    ∷ scan_grey 1 gives refused NothingToDo
    ∷ []

pub marked-at-owner-prints : Prints (space 2 4 16) marked_at_owner
unfolding take_step act receive append announce see_to make_grey enter join begun probe scan scanned
    count_in take_body settled taken_in
marked-at-owner-prints = refl

-- A scanned object's places name objects of two other nodes, which are asked to mark them.
abbrev two_owners : List Row
two_owners =
    comes_over 1 0 1
    ++ comes_over 2 0 2
    ++ alloc 0 0 2 gives made (object 0 0 1)
    ∷ store 0 0 0 1 gives ok
    ∷ store 0 0 1 2 gives ok
    ∷ drop_register 0 1 gives ok
    ∷ drop_register 0 2 gives ok
    ∷ begin_cycle 0 gives began 1
    ∷ 0 shows state 1 0 0 White (neg_ℤ (pos 2)) (pos 0) 1 1 false 0
    ∷ scan_grey 0 gives scanned_grey (object 0 0 1)
    ∷ 0 shows state 1 0 0 White (pos 0) (pos 0) 0 1 false 0
    ∷ []

pub two-owners-prints : Prints (space 3 4 16) two_owners
unfolding take_step act receive append announce see_to make_grey enter join begun probe scan scanned
    count_in take_body settled taken_in
two-owners-prints = refl

-- Refusals of loads and of related events, and of Begin.
abbrev refusals : List Row
refusals =
    load 0 0 256 0 gives refused NoRegister
    ∷ load 0 0 1 0 gives refused EmptyRegister
    ∷ comes_over 1 0 2
    ++ load 0 0 2 0 gives refused Remote
    ∷ alloc 0 0 9 gives refused TooManyFields
    ∷ alloc 0 0 8 gives made (object 0 0 1)
    ∷ load 0 1 0 8 gives refused NoField
    ∷ give 0 0 1 0 gives refused SelfSend
    ∷ begin_cycle 1 gives refused NotDirector
    ∷ begin_cycle 0 gives began 1
    ∷ begin_cycle 0 gives refused CycleRunning
    ∷ []

pub refusals-prints : Prints (space 2 256 16) refusals
unfolding take_step act receive append announce see_to make_grey enter join begun probe count_in
    take_body settled taken_in
refusals-prints = refl
