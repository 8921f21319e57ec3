use Rattle.std.proofs.Common.{arith}
use Rattle.model.specs.View.{retracted}
use Rattle.link.proofs.Ends.{reads, sender_changed, sound_written}
use Rattle.link.proofs.links.Links.retract.Goals as goal

pub invariant_of-self : goal.invariant_of-self
invariant_of-self c =
    let r = reads c.self.view_is c.index_mut.ensures.value c.requires (omega arith) in
    sound_written r _ c.self.invariant c.retract.ensures.sound

pub returns : goal.returns
returns c =
    let r = reads c.self.view_is c.index_mut.ensures.value c.requires (omega arith) in
    record {
      done = sender_changed retracted r _ c.retract.ensures.done;
      sound = sound_written r _ c.self.invariant c.retract.ensures.sound;
    }
