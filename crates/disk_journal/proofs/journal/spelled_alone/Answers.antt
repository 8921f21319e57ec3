use Rattle.std.proofs.Common.{◌∙◌, ◌++◌, ap, arith, drop, false, length}
use Rattle.disk_shelf.specs.Seals.{behind}
use Rattle.disk_shelf.specs.Shelf.{record_of}
use Rattle.disk_shelf.proofs.Records.{record_image, record_length}
use Rattle.disk_journal.proofs.journal.spelled_alone.Goals as goal

pub sealed-requires : goal.sealed-requires
sealed-requires g c =
    let image = g.P.Persist.image false c.args.value.now in
    omega (arith, ap length c.in_ok-bytes.ensures.bytes, record_length image)

pub returns-clause-bytes : goal.returns-clause-bytes
returns-clause-bytes g c =
    let image = g.P.Persist.image false c.args.value.now in
    let is = c.in_ok-bytes.ensures.bytes in
    c.in_ok-bytes-2.ensures
    ∙ ap (λ l. l ++ behind c.args.seals (drop 8 l)) is
    ∙ ap (λ l. record_of image ++ behind c.args.seals l) (record_image image)

pub returns-clause-end : goal.returns-clause-end
returns-clause-end g c =
    let image = g.P.Persist.image false c.args.value.now in
    c.len-end.ensures ∙ c.in_ok-bytes.bytes.ok.0 ∙ ap length c.in_ok-bytes.ensures.bytes
    ∙ record_length image
