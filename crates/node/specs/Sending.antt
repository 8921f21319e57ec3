-- A message appended by a node.
use Rattle.std.specs.Prelude.{ℕ, Bool, not, ◌==◌, nat_lt, List, [], ◌∷◌, ◌++◌, length, map}
use Rattle.ids.specs.declared.refusal.Refusal.{Refusal}
use Rattle.ids.specs.declared.refusal.Refusal.TheVariants.{LinkSpent, NoNode, SelfSend}
use Rattle.link.specs.Links.{for_others}
use Rattle.msg.specs.declared.body.Message.{Message}
use Rattle.msg.specs.declared.body.Body.{Body}
use Rattle.msg.specs.declared.body.Body.TheVariants as body
use Rattle.model.specs.Counting.{balance_of, counted_up, stamped}
use Rattle.model.specs.Heaps.{post_tests}
use Rattle.model.specs.State.{LocalState}
use Rattle.model.specs.Steps.{fits}
use Rattle.model.specs.View.{NodeView, append_to, used}

-- it is counted
abbrev pub counted : LocalState → Body → LocalState
counted p b = record p { ring = counted_up (balance_of p.phases.cycle p.phases.cycle b) p.ring }

-- it comes last on its link, and is counted
abbrev pub with_sent : NodeView → ℕ → Body → NodeView
with_sent n to b =
    record n {
      local = counted n.local b;
      links = append_to n.links ((to, stamped n.local b) ∷ []);
    }

-- a letter without references, with these bytes
abbrev pub report : ℕ → ℕ → List ℕ → Message
report cycle label bytes = record { stamp = cycle; body = body.Post label [] bytes }

-- Sending a letter with the contents of `count` registers, and with `size` bytes. The
-- last test is whether it gets a number, which doesn't depend on what the message says.
abbrev pub letter_tests : NodeView → ℕ → ℕ → ℕ → ℕ → List (Bool × Refusal)
letter_tests n to first count size =
    ((nat_lt to n.local.shape.nodes, NoNode) ∷ (not (to == n.local.own), SelfSend)
    ∷ post_tests n.local.shape n.local.heap first count size)
    ++ (fits (map used n.links) ((to, report 0 0 []) ∷ []), LinkSpent) ∷ []

-- what is appended if the node sends the same to all others
abbrev pub told : NodeView → Body → List (ℕ × Message)
told n b = for_others n.local.own (stamped n.local b) (length n.links)
