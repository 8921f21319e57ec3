use Rattle.std.proofs.Common.{arith}
use Rattle.std.proofs.lemmas.Grind.{common_steps}
use Rattle.std.proofs.lemmas.Result.{on_ok_weaker}
use Rattle.model.specs.View.{Link, trimmed}
use Rattle.link.proofs.Ends.{reads, sender_read, sender_changed, sound_written}
use Rattle.link.proofs.links.Links.trim.Goals as goal

pub invariant_of-self : goal.invariant_of-self
invariant_of-self c =
    let r = reads c.self.view_is c.index_mut.ensures.value c.requires (omega arith) in
    sound_written r _ c.self.invariant c.trim.ensures.sound

pub returns : goal.returns
returns c =
    let r = reads c.self.view_is c.index_mut.ensures.value c.requires (omega arith) in
    let seen = sender_read r in
    let trims = λ (l : Link). trimmed l c.args.number in
    record {
      released = grind (arith, common_steps);
      done = on_ok_weaker c.trim.result (sender_changed trims r _) c.trim.ensures.done;
      refused = grind (arith, common_steps);
      unchanged = grind (arith, common_steps);
      sound = sound_written r _ c.self.invariant c.trim.ensures.sound;
    }
