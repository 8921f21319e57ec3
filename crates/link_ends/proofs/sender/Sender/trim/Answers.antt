use Rattle.std.proofs.Common.{refl}
use Rattle.link_ends.proofs.Trimming.{trims-next, trims-done}
use Rattle.link_ends.proofs.sender.Sender.trim.Goals as goal

pub loop-self-init : goal.loop-self-init
loop-self-init c =
    rw (← c.self.view_is)
    (record { link = c.self.invariant; released = c.if-number-self.false; goal = refl })

pub invariant_of-self : goal.invariant_of-self
invariant_of-self c = c.loop-self.invariant.link

pub loop-self-preserved : goal.loop-self-preserved
loop-self-preserved c =
    rw (c.pop_front.ensures.rest) (trims-next _ _ _ c.loop-self.invariant c.loop-self-test.true)

pub returns-clause-done : goal.returns-clause-done
returns-clause-done c = trims-done c.loop-self.invariant c.loop-self-test.false

pub returns-clause-sound : goal.returns-clause-sound
returns-clause-sound c = c.loop-self.invariant.link
