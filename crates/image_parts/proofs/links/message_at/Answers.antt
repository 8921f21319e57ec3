use Rattle.std.proofs.Common.{◌≡◌, ◌∙◌, None, ap, option_copied, sym, arith}
use Rattle.std.proofs.lemmas.List.{get_or_default}
use Rattle.std.proofs.lemmas.Option.{same_Some}
use Rattle.link.specs.Links.{link_at}
use Rattle.model.specs.References.{no_message}
use Rattle.image_parts.proofs.Kept.{message_kept}
use Rattle.image_parts.proofs.links.message_at.Goals as goal

pub overflow_add-base : goal.overflow_add-base
overflow_add-base c =
    let within = (c.requires.sound.links c.args.to).used in
    omega (arith, within, c.base.ensures, c.requires.kept)

pub overflow_add-base-2 : goal.overflow_add-base-2
overflow_add-base-2 c =
    let within = (c.requires.sound.links c.args.to).used in
    omega (arith, within, c.base.ensures, c.requires.kept)

pub unreachable-requires : goal.unreachable-requires
unreachable-requires c =
    let there = message_kept (link_at c.args.links.now c.args.to) c.base.result c.args.place
    (option_copied c.message.result) c.base.ensures c.requires.kept c.message.ensures.value in
    let none : option_copied c.message.result ≡ None = ap option_copied c.in-None.is in
    absurd cc

pub returns : goal.returns
returns c =
    let messages = (link_at c.args.links.now c.args.to).unacknowledged in
    same_Some _ _ (sym (ap option_copied c.in-Some.is)
    ∙ message_kept (link_at c.args.links.now c.args.to) c.base.result c.args.place
    (option_copied c.message.result) c.base.ensures c.requires.kept c.message.ensures.value)
    ∙ get_or_default messages c.args.place no_message c.in-Some.message.now c.requires.kept
