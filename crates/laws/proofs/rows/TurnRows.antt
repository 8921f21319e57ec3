-- Worked examples of messages that a node may receive, and of their effects, computed for one node
-- in states that are set up by hand. A row is the node's answer to its next message from another
-- node.
use Rattle.std.proofs.Common.{◌≡◌, ℕ, pos, neg_ℤ, true, false, [], ◌∷◌, Some, None, Result, Ok, Err, refl}
use Rattle.ids.specs.declared.names.Ref.{Ref}
use Rattle.ids.specs.declared.refusal.Refusal.{Refusal}
use Rattle.ids.specs.declared.refusal.Refusal.TheVariants.{WrongNode}
use Rattle.msg.specs.declared.body.Body.{Body}
use Rattle.msg.specs.declared.body.Body.TheVariants as body
use Rattle.msg.specs.declared.body.Colour.TheVariants.{White, Black}
use Rattle.msg.specs.declared.body.Token.{Token}
use Rattle.model.specs.declared.age.Age.TheVariants.{Old}
use Rattle.model.specs.declared.event.Answer.{Answer}
use Rattle.model.specs.declared.event.Answer.TheVariants as answer
use Rattle.model.specs.State.{Occupied, LocalState, new_local, slot_at}
use Rattle.model.specs.Effects.{Effect}
use Rattle.model.specs.Counting.{append}
use Rattle.model.specs.Shading.{make_grey, see_to, enter, join}
use Rattle.model.specs.Steps.{received, count_in, take_body, settled, taken_in}
use Rattle.laws.proofs.rows.Rows.{Answers, effect_answer, object, space}
use Rattle.laws.proofs.rows.Words.{state, numbers_of, mark_of}

-- a node of three: its number, the cycle it has joined, the one that ended, the one that it swept
abbrev standing : ℕ → ℕ → ℕ → ℕ → LocalState
standing own cycle last swept =
    let p : LocalState = new_local (space 3 4 16) own in
    record p { phases = record p.phases { cycle = cycle; ended = last; swept = swept } }

abbrev token : Token
token = record { colour = White; q = pos 5 }

abbrev holding_token : LocalState → LocalState
holding_token p = record p { ring = record p.ring { token = Some token } }

-- the node with one object, with this mark, in slot 0 under generation 2
abbrev with_object : ℕ → LocalState → LocalState
with_object mark p =
    record p {
      heap = record p.heap {
        slots =
            Occupied 2
            (record {
              word = 0;
              bytes = [];
              places = [];
              mark = mark;
              shared = true;
              age = Old;
            })
            ∷ [];
      };
    }

abbrev with_grey : LocalState → LocalState
with_grey p = record p { heap = record p.heap { grey = 0 ∷ [] } }

abbrev with_root : Ref → LocalState → LocalState
with_root r p = record p { heap = record p.heap { registers = None ∷ Some r ∷ [] } }

abbrev give : Body
give = body.Give 7 None

-- the node's answer to its first message from this sender, with this stamp
abbrev told : LocalState → ℕ → ℕ → Body → Result Answer Refusal
told p from stamp b = effect_answer (received p (0 ∷ 0 ∷ 0 ∷ []) from p.own 1 stamp b)

abbrev taken : Result Answer Refusal
taken = Ok answer.Received

abbrev wrong : Result Answer Refusal
wrong = Err WrongNode

-- A stamp above the node's cycle makes it join. It joins only the next cycle, only once it has
-- swept its own, and never at node 0.
pub stamps : Answers (
    (told (standing 1 0 0 0) 2 0 give, taken)
    ∷ (told (standing 1 0 0 0) 2 1 give, taken)
    ∷ (told (standing 1 0 0 0) 2 2 give, wrong)
    ∷ (told (standing 1 1 0 0) 2 0 give, taken)
    ∷ (told (standing 1 1 0 0) 2 1 give, taken)
    ∷ (told (standing 1 1 0 0) 2 2 give, wrong)
    ∷ (told (standing 1 1 1 0) 2 2 give, wrong)
    ∷ (told (standing 1 1 1 1) 2 2 give, taken)
    ∷ (told (standing 1 1 1 1) 2 3 give, wrong)
    ∷ (told (standing 0 1 1 1) 2 0 give, taken)
    ∷ (told (standing 0 1 1 1) 2 1 give, taken)
    ∷ (told (standing 0 1 1 1) 2 2 give, wrong)
    ∷ [])
unfolding append see_to make_grey enter join count_in take_body settled taken_in
stamps = refl

-- who may send what, and about which objects
pub senders : Answers (
    (told (standing 1 1 0 0) 0 1 body.Begin, taken)
    ∷ (told (standing 1 1 0 0) 0 0 body.Begin, taken)
    ∷ (told (standing 1 1 0 0) 2 1 body.Begin, wrong)
    ∷ (told (standing 1 1 0 0) 2 1 (body.Token token), taken)
    ∷ (told (standing 1 1 0 0) 0 1 (body.Token token), wrong)
    ∷ (told (standing 2 1 0 0) 0 1 (body.Token token), taken)
    ∷ (told (standing 2 1 0 0) 1 1 (body.Token token), wrong)
    ∷ (told (standing 0 1 0 0) 1 1 (body.Token token), taken)
    ∷ (told (standing 0 1 0 0) 2 1 (body.Token token), wrong)
    ∷ (told (standing 1 1 0 0) 0 1 (body.Mark (object 1 15 9)), taken)
    ∷ (told (standing 1 1 0 0) 0 1 (body.Mark (object 1 16 1)), wrong)
    ∷ (told (standing 1 1 0 0) 0 1 (body.Mark (object 2 0 1)), wrong)
    ∷ (told (standing 1 1 0 0) 0 1 (body.Put (object 1 0 1) 0 (Some (object 2 0 1))), taken)
    ∷ (told (standing 1 1 0 0) 0 1 (body.Put (object 0 0 1) 0 (Some (object 1 0 1))), wrong)
    ∷ (told (standing 1 1 0 0) 0 1 (body.Put (object 1 0 1) 0 (Some (object 3 0 1))), wrong)
    ∷ (told (standing 1 1 0 0) 0 1 (body.Get (object 1 0 1) 0 7), taken)
    ∷ (told (standing 1 1 0 0) 0 1 (body.Get (object 2 0 1) 0 7), wrong)
    ∷ (told (standing 1 1 0 0) 0 1 body.Ended, taken)
    ∷ (told (standing 1 1 0 0) 2 1 body.Ended, wrong)
    ∷ (told (standing 0 1 1 1) 1 1 body.Swept, taken)
    ∷ (told (standing 2 1 1 1) 1 1 body.Swept, wrong)
    ∷ [])
unfolding append see_to make_grey enter join count_in take_body settled taken_in
senders = refl

-- The token, Ended and Swept must fit the node as it is after joining.
pub in-phase : Answers (
    (told (standing 1 0 0 0) 2 1 (body.Token token), taken)
    ∷ (told (standing 1 0 0 0) 2 0 (body.Token token), wrong)
    ∷ (told (standing 1 1 0 0) 2 0 (body.Token token), wrong)
    ∷ (told (standing 1 1 1 0) 2 1 (body.Token token), wrong)
    ∷ (told (holding_token (standing 1 1 0 0)) 2 1 (body.Token token), wrong)
    ∷ (told (with_grey (with_object 1 (standing 1 1 0 0))) 2 1 (body.Token token), taken)
    ∷ (told (standing 1 1 0 0) 0 0 body.Ended, wrong)
    ∷ (told (standing 1 1 1 0) 0 1 body.Ended, wrong)
    ∷ (told (with_object 1 (standing 1 1 0 0)) 0 1 body.Ended, taken)
    ∷ (told (with_grey (with_object 1 (standing 1 1 0 0))) 0 1 body.Ended, wrong)
    ∷ (told (holding_token (standing 1 1 0 0)) 0 1 body.Ended, wrong)
    ∷ (told (standing 0 1 1 1) 1 0 body.Swept, wrong)
    ∷ [])
unfolding append see_to make_grey enter join count_in take_body settled taken_in
in-phase = refl

-- If the end of marking makes a node join first, the node may do so only if no object turns grey.
pub ended-unjoined : Answers (
    (told (standing 1 0 0 0) 0 1 body.Ended, taken)
    ∷ (told (with_object 0 (standing 1 0 0 0)) 0 1 body.Ended, taken)
    ∷ (told (with_root (object 1 0 2) (with_object 0 (standing 1 0 0 0))) 0 1 body.Ended, wrong)
    ∷ (told (with_root (object 1 0 1) (with_object 0 (standing 1 0 0 0))) 0 1 body.Ended, taken)
    ∷ (told (with_root (object 2 0 2) (with_object 0 (standing 1 0 0 0))) 0 1 body.Ended, taken)
    ∷ [])
unfolding append see_to make_grey enter join count_in take_body settled taken_in
ended-unjoined = refl

-- ---- the state afterwards

abbrev left_by : Result Effect Refusal → LocalState
left_by (Ok x) = x.local
left_by (Err e) = new_local (space 0 0 0) 1

-- the node after its first message from node 0
abbrev left : LocalState → ℕ → Body → LocalState
left p stamp b = left_by (received p (0 ∷ 0 ∷ 0 ∷ []) 0 p.own 1 stamp b)

-- Joining empties the list of references asked for, counts all messages as earlier ones, makes the
-- node black, and resets the cursor.
abbrev before_joining : LocalState
before_joining =
    let p : LocalState = standing 1 0 0 0 in
    record p {
      asked = object 2 3 1 ∷ [];
      phases = record p.phases { cursor = 3 };
      ring = record { colour = White; earlier = pos 4; recent = neg_ℤ (pos 1); token = None };
    }

abbrev has_joined : LocalState
has_joined = left before_joining 1 body.Begin

pub joins-anew : (has_joined.asked ≡ [])
    × (has_joined.phases ≡ record (standing 1 0 0 0).phases { cycle = 1 })
    × (has_joined.ring ≡ record { colour = Black; earlier = pos 3; recent = pos 0; token = None })
unfolding append see_to make_grey enter join count_in take_body settled taken_in
joins-anew = (refl, refl, refl)

-- A Mark of an earlier cycle counts with those of the present one, makes the node black, and marks
-- in the present cycle.
abbrev late_mark : LocalState
late_mark = left (with_object 1 (standing 1 2 1 1)) 1 (body.Mark (object 1 0 2))

pub mark-late : (numbers_of late_mark ≡ state 2 1 1 Black (neg_ℤ (pos 1)) (pos 0) 1 1 false 0)
    × (mark_of (slot_at late_mark.heap 0) ≡ 2)
unfolding append see_to make_grey enter join count_in take_body settled taken_in
mark-late = (refl, refl)

-- Once marking has ended nothing is shaded, but a message of an earlier cycle counts as before.
abbrev late_give : LocalState
late_give =
    left (with_object 0 (standing 1 1 1 0)) 0 (body.Give 7 (Some (object 1 0 2)))

pub give-late : (numbers_of late_give ≡ state 1 1 0 Black (neg_ℤ (pos 1)) (pos 0) 0 1 false 1)
    × (mark_of (slot_at late_give.heap 0) ≡ 0)
unfolding append see_to make_grey enter join count_in take_body settled taken_in
give-late = (refl, refl)

-- The token is held as it came, and is counted in no balance.
abbrev given_token : LocalState
given_token = left (standing 2 1 0 0) 1 (body.Token token)

pub token-held : (numbers_of given_token ≡ state 1 0 0 White (pos 0) (pos 0) 0 0 true 0)
    × (given_token.ring.token ≡ Some token)
unfolding append see_to make_grey enter join count_in take_body settled taken_in
token-held = (refl, refl)

-- Ended is counted in no balance either. The node notes that marking has ended.
abbrev told_ended : LocalState
told_ended = left (standing 1 1 0 0) 1 body.Ended

pub ended-noted : numbers_of told_ended ≡ state 1 1 0 White (pos 0) (pos 0) 0 0 false 0
unfolding append see_to make_grey enter join count_in take_body settled taken_in
ended-noted = refl

-- Node 0 notes Swept under the number of the node that has swept.
abbrev told_swept : LocalState
told_swept = left_by (received (standing 0 1 1 1) (0 ∷ 0 ∷ 0 ∷ []) 2 0 1 1 body.Swept)

pub swept-noted : told_swept.phases.reports ≡ 0 ∷ 0 ∷ 1 ∷ []
unfolding append see_to make_grey enter join count_in take_body settled taken_in
swept-noted = refl
