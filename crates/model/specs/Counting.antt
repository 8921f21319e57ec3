-- How messages are appended, and which are counted ("Counting" in docs/RULES.md).
use Rattle.std.specs.Prelude.{ℕ, zero, suc, pos, ◌+ℤ◌, ◌-ℤ◌, Bool, true, false, cond, nat_lt, ◌==◌, List, [], ◌∷◌, ◌++◌, Option, Some, None}
use Rattle.msg.specs.declared.body.Body.{Body}
use Rattle.msg.specs.declared.body.Body.TheVariants as body
use Rattle.msg.specs.declared.body.Message.{Message}
use Rattle.msg.specs.declared.body.Colour.TheVariants.{Black}
use Rattle.model.specs.declared.balance.Balance.{Balance}
use Rattle.model.specs.declared.balance.Balance.TheVariants.{Earlier, Recent}
use Rattle.model.specs.State.{Ring, LocalState}
use Rattle.model.specs.Effects.{Work}

-- a body that carries references, even if an optional one is absent
abbrev pub is_reference : Body → Bool
is_reference (body.Give label reference) = true
is_reference (body.Put target place reference) = true
is_reference (body.Get target place label) = true
is_reference (body.Post label references bytes) = true
is_reference (body.Fetch target label offset count) = true
is_reference b = false

-- a body that carries no reference, and asks for no mark
abbrev pub is_idle : Body → Bool
is_idle body.Begin = true
is_idle (body.Token token) = true
is_idle body.Ended = true
is_idle body.Swept = true
is_idle b = false

-- a message with references counts as earlier if its stamp is below the node's cycle
abbrev pub reference_balance : ℕ → ℕ → Balance
reference_balance cycle stamp = cond (nat_lt stamp cycle) Earlier Recent

-- The balance in which a node of this cycle counts a message of this stamp, both when it sends it
-- and when it receives it. Marks always count in the present cycle. Messages that are not Marks and
-- carry no references aren't counted.
abbrev pub balance_of : ℕ → ℕ → Body → Option Balance
balance_of cycle stamp (body.Mark target) = Some Earlier
balance_of cycle stamp (body.Give label reference) = Some (reference_balance cycle stamp)
balance_of cycle stamp (body.Put target place reference) = Some (reference_balance cycle stamp)
balance_of cycle stamp (body.Get target place label) = Some (reference_balance cycle stamp)
balance_of cycle stamp (body.Post label references bytes) = Some (reference_balance cycle stamp)
balance_of cycle stamp (body.Fetch target label offset count) =
    Some (reference_balance cycle stamp)
balance_of cycle stamp b = None

-- one more message was sent
abbrev pub counted_up : Option Balance → Ring → Ring
counted_up (Some Earlier) r = record r { earlier = r.earlier +ℤ pos 1 }
counted_up (Some Recent) r = record r { recent = r.recent +ℤ pos 1 }
counted_up None r = r

-- One more message was received. If it counts in the present cycle, the node becomes black.
abbrev pub counted_down : Option Balance → Ring → Ring
counted_down (Some Earlier) r = record r { colour = Black; earlier = r.earlier -ℤ pos 1 }
counted_down (Some Recent) r = record r { recent = r.recent -ℤ pos 1 }
counted_down None r = r

-- this many Marks were sent
abbrev pub counted_marks : ℕ → Ring → Ring
counted_marks count r = record r { earlier = r.earlier +ℤ pos count }

-- a message has its sender's cycle as its stamp
abbrev pub stamped : LocalState → Body → Message
stamped p b = record { stamp = p.phases.cycle; body = b }

-- a message is appended and counted
unfoldable pub append : ℕ → Body → LocalState → Work
append to b p =
    record {
      local = record p { ring = counted_up (balance_of p.phases.cycle p.phases.cycle b) p.ring };
      sends = (to, stamped p b) ∷ [];
    }

-- the same message for each other node below this number, in ascending order
abbrev pub to_others : LocalState → Body → ℕ → List (ℕ × Message)
to_others p b zero = []
to_others p b (suc n) = to_others p b n ++ cond (n == p.own) [] ((n, stamped p b) ∷ [])

-- a message that isn't counted is appended for each other node
unfoldable pub announce : Body → LocalState → Work
announce b p = record { local = p; sends = to_others p b p.shape.nodes }
