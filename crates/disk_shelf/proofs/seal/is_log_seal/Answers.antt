use Rattle.std.proofs.Common.{◌∙◌, sym}
use Rattle.disk_shelf.proofs.seal.is_log_seal.Goals as goal

pub returns-then-is_same : goal.returns-then-is_same
returns-then-is_same c = (
  λ is. record {
    long = c.told-seal;
    head = c.is_same.ensures.0 c.if-is_same.true;
    check = c.is_same-then-is_same.ensures.0 is ∙ c.digest-check.ensures;
  },
  λ seal. c.is_same-then-is_same.ensures.1 (seal.check ∙ sym c.digest-check.ensures),
)
