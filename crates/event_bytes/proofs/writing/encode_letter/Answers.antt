use Rattle.event_bytes.specs.Entries.{entry}
use Rattle.event_bytes.specs.Events.{received_of}
use Rattle.event_bytes.proofs.Within.{letter_encoded}
use Rattle.event_bytes.proofs.writing.encode_letter.Goals as goal

pub returns-clause-spelled : goal.returns-clause-spelled
returns-clause-spelled c =
    let m = c.args.message.now in
    letter_encoded c.finish.result m c.finish.ensures.within c.put_data.ensures.known
    (c.finish.ensures.written (entry.spell (received_of m))
    (c.put_data.ensures.more _ c.new-out.ensures.empty))
