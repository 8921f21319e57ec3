use Rattle.std.proofs.Common.{arith}
use Rattle.link.proofs.Ends.{reads, receiver_taken, sound_taken}
use Rattle.link.proofs.links.Links.take_next.Goals as goal

pub invariant_of-self : goal.invariant_of-self
invariant_of-self c =
    let r = reads c.self.view_is c.index_mut.ensures.value c.requires.there (omega arith) in
    rw c.take_next.ensures (sound_taken r c.self.invariant c.requires.room)

pub returns : goal.returns
returns c =
    let r = reads c.self.view_is c.index_mut.ensures.value c.requires.there (omega arith) in
    rw c.take_next.ensures
    (record { done = receiver_taken r; sound = sound_taken r c.self.invariant c.requires.room })
