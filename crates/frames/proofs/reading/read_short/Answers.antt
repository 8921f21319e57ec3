use Rattle.frames.proofs.Bodies.{plain_tag}
use Rattle.frames.proofs.reading.read_short.Goals as goal

pub returns-else-tag-eq-FETCH : goal.returns-else-tag-eq-FETCH
returns-else-tag-eq-FETCH c =
    plain_tag c.args.version c.requires c.if-tag-eq-FETCH.false c.read_behind.ensures
