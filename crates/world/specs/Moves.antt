-- What the collector does next, as the sites of the code's space show it ("Progress" in
-- docs/PROOF.md).
use Rattle.std.specs.Prelude.{◌≡◌, ℕ, Bool, true, ◌+◌, nat_lt, not, is_some, ◌==◌, List, length}
use Rattle.model.specs.declared.step.Step.TheVariants as step
use Rattle.model.specs.State.{LocalState, got_from}
use Rattle.model.specs.Shading.{is_calm}
use Rattle.model.specs.View.{link_to, used}
use Rattle.laws.specs.Strategy.{Move, Bring, Do, least, is_collectors}
use Rattle.world.specs.declared.collecting.Sign.{Sign}
use Rattle.world.specs.declared.collecting.Sign.TheVariants as sign
use Rattle.world.specs.declared.collecting.Next.{Next}
use Rattle.world.specs.declared.collecting.Next.TheVariants as next
use Rattle.world.specs.Shows.{site_at}
use Rattle.world.specs.Sites.{SiteView}

abbrev pub local_at : List SiteView → ℕ → LocalState
local_at sites i = (site_at sites i).current.local

-- a message from one node to another is in flight
abbrev pub awaits : List SiteView → ℕ → ℕ → Bool
awaits sites from to =
    nat_lt (got_from (local_at sites to) from) (used (link_to (site_at sites from).current to))

abbrev pub has_awaiting : List SiteView → ℕ → Bool
has_awaiting sites from = nat_lt (least (length sites) (awaits sites from)) (length sites)

abbrev pub has_sign : Sign → LocalState → Bool
has_sign sign.Grey p = not (is_calm p.heap)
has_sign sign.Token p = is_some p.ring.token
has_sign (sign.Unswept cycle) p = not (p.phases.swept == cycle)

abbrev pub first_with : List SiteView → Sign → ℕ
first_with sites s = least (length sites) (λ i. has_sign s (local_at sites i))

-- the move of the definitions
abbrev pub move_of : Next → Move
move_of (next.Bring from to number) = Bring from to
move_of (next.Do node event) = Do node event

-- A message that is brought has the number after the last one that was received; and what a node
-- does is an event of the collector.
abbrev pub IsSound : List SiteView → Next → Type 0
IsSound sites (next.Bring from to number) = number ≡ got_from (local_at sites to) from + 1
IsSound sites (next.Do node event) = is_collectors (step.Act node event) ≡ true
