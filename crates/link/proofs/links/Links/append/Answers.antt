use Rattle.std.proofs.Common.{arith}
use Rattle.std.proofs.lemmas.Grind.{common_steps}
use Rattle.std.proofs.lemmas.Bool.Decides.{nat_tests}
use Rattle.std.proofs.lemmas.Result.{on_ok_weaker}
use Rattle.model.specs.View.{Link, appended}
use Rattle.link.proofs.Ends.{reads, used_read, sender_changed, sound_written}
use Rattle.link.proofs.links.Links.append.Goals as goal

pub invariant_of-self : goal.invariant_of-self
invariant_of-self c =
    let r = reads c.self.view_is c.index_mut.ensures.value c.requires (omega arith) in
    sound_written r _ c.self.invariant c.append.ensures.sound

pub returns : goal.returns
returns c =
    let r = reads c.self.view_is c.index_mut.ensures.value c.requires (omega arith) in
    let count = used_read r in
    let appends = λ (l : Link). appended l c.args.message in
    record {
      fits = grind (arith, nat_tests);
      done = on_ok_weaker c.append.result (sender_changed appends r _) c.append.ensures.done;
      number = grind arith;
      refused = grind (arith, nat_tests);
      memory = grind (arith, nat_tests);
      unchanged = grind (arith, common_steps);
      sound = sound_written r _ c.self.invariant c.append.ensures.sound;
    }
