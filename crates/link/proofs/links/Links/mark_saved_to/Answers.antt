use Rattle.std.proofs.Common.{arith}
use Rattle.link.proofs.Ends.{reads, ends_kept_to, sound_kept_to}
use Rattle.link.proofs.links.Links.mark_saved_to.Goals as goal

pub invariant_of-self : goal.invariant_of-self
invariant_of-self c =
    let r = reads c.self.view_is c.index_mut.ensures.value c.requires (omega arith) in
    rw c.mark_saved_to.ensures (sound_kept_to c.args.sent c.args.received r c.self.invariant)

pub returns : goal.returns
returns c =
    let r = reads c.self.view_is c.index_mut.ensures.value c.requires (omega arith) in
    rw c.mark_saved_to.ensures
    (record {
      done = ends_kept_to c.args.sent c.args.received r;
      sound = sound_kept_to c.args.sent c.args.received r c.self.invariant;
    })
