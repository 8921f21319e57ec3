use Rattle.std.proofs.Common.{◌≡◌, ◌∙◌, ◌-◌, ◌++◌, ap, arith, drop, length, length-drop, subst, sym}
use Rattle.std.proofs.lemmas.List.{append_assoc, take_all}
use Rattle.md5.specs.Md5.{md5}
use Rattle.disk_shelf.specs.Seals.{behind, seal_head}
use Rattle.disk_shelf.specs.Shelf.{record_of}
use Rattle.disk_shelf.proofs.seal.sealed.Goals as goal

pub returns : goal.returns
returns c =
    let old = c.args.bytes.items in
    let text = c.deref.result.now in
    let digest : c.first_digest-digest.result ≡ md5 (record_of (drop 8 old)) =
    c.first_digest-digest.ensures
    ∙ ap (λ l. md5 (record_of l)) (take_all (length text - 8) (drop 8 text)
    (omega (arith, length-drop 8 text)))
    ∙ ap (λ l. md5 (record_of (drop 8 l))) c.deref.ensures.value in
    subst (λ b. c.extend_from_slice-2.new.self.items ≡ old ++ behind b (drop 8 old))
    (sym c.if-not-seals.false)
    (c.in_ok-extend_from_slice-2.ensures.items
    ∙ ap (λ l. l ++ c.first_digest-digest.result) c.in_ok-extend_from_slice.ensures.items
    ∙ append_assoc old seal_head c.first_digest-digest.result
    ∙ ap (λ l. old ++ (seal_head ++ l)) digest)
