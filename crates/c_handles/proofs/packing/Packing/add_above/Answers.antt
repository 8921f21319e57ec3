use Rattle.std.proofs.Common.{length, subst}
use Rattle.msg.specs.Frames.{plain_ref}
use Rattle.c_handles.specs.Frames.{Holds, Packed}
use Rattle.std.proofs.lemmas.Result.{on_ok_weaker}
use Rattle.c_handles.proofs.Packs.{above_next, above_skipped, more}
use Rattle.c_handles.proofs.packing.Packing.add_above.Goals as goal

pub returns-in_default : goal.returns-in_default
returns-in_default c =
    rw c.in_default.is (record {
      added = λ whole p h. h;
      needed = more c.args.self.now.needed 70000;
      count = more c.args.self.now.count 1;
      refused = tt;
    })

pub returns-then-after-number_of : goal.returns-then-after-number_of
returns-then-after-number_of c =
    let f = plain_ref c.in-Some.frame in
    let did = c.add_frame.ensures in
    rw c.in-Some.is (record {
      added = on_ok_weaker c.add_frame.result
          (λ adds whole p h.
          subst (λ (q : Packed). Holds whole q c.add_frame.new.self c.add_frame.new.buffer)
          (above_next (length whole) c.args.after c.number_of.result p f c.number_of.ensures
          c.if-after-number_of.true) (adds whole p h)) did.added;
      needed = did.needed;
      count = did.count;
      refused = did.refused;
    })

pub returns : goal.returns
returns c =
    rw c.in-Some.is (record {
      added = λ whole p h.
          subst (λ (q : Packed). Holds whole q c.args.self.now c.args.buffer.now)
          (above_skipped (length whole) c.args.after c.number_of.result p
          (plain_ref c.in-Some.frame)
          c.number_of.ensures c.if-after-number_of.false) h;
      needed = more c.args.self.now.needed 70000;
      count = more c.args.self.now.count 1;
      refused = tt;
    })
