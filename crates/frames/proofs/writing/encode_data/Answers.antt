use Rattle.frames.specs.Grammar.{spelling}
use Rattle.msg.specs.Frames.{plain_data_ref}
use Rattle.frames.proofs.Written.{data_encoded}
use Rattle.frames.proofs.writing.encode_data.Goals as goal

pub returns-clause-spelled : goal.returns-clause-spelled
unfolding spelling
returns-clause-spelled c =
    let m = c.args.message.now in
    data_encoded c.finish.result m c.finish.ensures.within c.put_data.ensures.known
    (c.finish.ensures.written (spelling (plain_data_ref m))
    (c.put_data.ensures.more _ c.new-out.ensures.empty))
