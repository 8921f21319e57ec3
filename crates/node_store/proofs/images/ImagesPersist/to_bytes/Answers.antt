use Rattle.std.proofs.Common.{refl}
use Rattle.std.proofs.lemmas.Result.{on_ok_weaker}
use Rattle.image.specs.Wholes.{saved_whole, whole_image}
use Rattle.node_store.proofs.Stores.{any_of}
use Rattle.node_store.proofs.images.ImagesPersist.to_bytes.Goals as goal

pub returns-else-logged-clause-readable : goal.returns-else-logged-clause-readable
returns-else-logged-clause-readable c =
    let n = c.args.value.now in
    rw c.if-logged.false (on_ok_weaker c.to_bytes_behind.result
    (λ is. any_of (whole_image n) (saved_whole n) (is, refl)) c.to_bytes_behind.ensures.image)
