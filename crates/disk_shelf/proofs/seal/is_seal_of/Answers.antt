use Rattle.std.proofs.Common.{◌≡◌, ◌∙◌, ap, arith, drop, length-drop, sym, take}
use Rattle.std.proofs.lemmas.List.{take_all}
use Rattle.disk_shelf.specs.Seals.{seal_head}
use Rattle.disk_shelf.proofs.Checks.{parted}
use Rattle.disk_shelf.proofs.seal.is_seal_of.Goals as goal

pub returns-then-is_same : goal.returns-then-is_same
returns-then-is_same c =
    let seal = c.args.seal.now in
    let all : take 16 (drop 16 seal) ≡ drop 16 seal =
    take_all 16 (drop 16 seal) (omega (arith, c.told-seal, length-drop 16 seal)) in (
      λ is. parted 16 seal seal_head _ (c.is_same.ensures.0 c.if-is_same.true)
          (sym all ∙ c.is_same-then-is_same.ensures.0 is ∙ c.first_digest-digest.ensures),
      λ same. c.is_same-then-is_same.ensures.1
          (all ∙ ap (drop 16) same ∙ sym c.first_digest-digest.ensures),
    )
