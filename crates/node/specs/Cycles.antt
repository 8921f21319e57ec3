-- What a node sends in the course of a collection cycle, other than Marks, and what it sweeps.
use Rattle.std.specs.Prelude.{ℕ, ◌-◌, cond, ◌==◌, List, [], ◌∷◌}
use Rattle.msg.specs.declared.body.Body.TheVariants as body
use Rattle.msg.specs.declared.body.Message.{Message}
use Rattle.msg.specs.declared.body.Token.{Token}
use Rattle.model.specs.State.{LocalState}
use Rattle.model.specs.Counting.{stamped}
use Rattle.model.specs.Collecting.{Sweeping}
use Rattle.heap.specs.Heap.{swept}
use Rattle.link.specs.Links.{for_others}

-- when a cycle begins: the token to the last node, and Begin to all others
abbrev pub begins : ℕ → ℕ → ℕ → Token → List (ℕ × Message)
begins own width cycle token =
    (width - 1, record { stamp = cycle; body = body.Token token })
    ∷ for_others own (record { stamp = cycle; body = body.Begin }) width

-- a node other than 0 reports to node 0 that it has swept
abbrev pub reports : LocalState → List (ℕ × Message)
reports p = cond (p.own == 0) [] ((0, stamped p body.Swept) ∷ [])

-- the heap once this many more slots are swept, and how many objects that frees
abbrev pub slots_swept : ℕ → LocalState → Sweeping
slots_swept count p = swept p.phases.cycle p.phases.cursor count p.heap
