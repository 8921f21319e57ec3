use Rattle.std.proofs.Common.{ap}
use Rattle.std.proofs.lemmas.Option.{IfSome_then}
use Rattle.codec.proofs.Readers.{both_read, tested}
use Rattle.frames.specs.Formats.{sent, sent_fits}
use Rattle.event_bytes.specs.Entries.{received, received_at}
use Rattle.event_bytes.specs.Events.{received_of}
use Rattle.event_bytes.proofs.Sound.{of_frame}
use Rattle.event_bytes.proofs.reading.read_data.Goals as goal

pub returns-clause-value : goal.returns-clause-value
unfolding received_at sent
returns-clause-value c =
    let parts =
    both_read c.read_head-from.ensures
    (both_read c.u64-stamp.ensures c.in_ok-body.ensures.value) in
    tested sent_fits parts (λ x. received x.0.0 x.0.1.0 x.0.1.1 x.1.0 x.1.1) received_of
    c.new.result c.new.ensures.within
    (IfSome_then c.new.result c.new.ensures.value (λ d same. ap of_frame same))
