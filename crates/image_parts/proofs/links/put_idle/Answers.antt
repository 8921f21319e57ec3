use Rattle.std.proofs.Common.{true, List, sym, subst, arith}
use Rattle.codec.specs.Formats.{number4, number8}
use Rattle.codec.specs.Writing.{Puts}
use Rattle.codec.proofs.Writing.{so}
use Rattle.link.specs.Links.{link_at, got_at}
use Rattle.msg.specs.declared.body.Message.{Message}
use Rattle.frames.specs.declared.version.Version.TheVariants.{Second}
use Rattle.image_parts.specs.Grammar.{link_format}
use Rattle.image_parts.proofs.links.put_idle.Goals as goal

pub returns : goal.returns
unfolding link_format number4 number8
returns c =
    let links = c.args.links.now in
    let to = c.args.to in
    subst (λ (unacknowledged : List Message). Puts (link_format true Second) c.args.out.now
    c.array.new.self (record {
      base = (link_at links to).base;
      unacknowledged = unacknowledged;
      received = got_at links to;
    })) (sym c.requires.idle)
    (so (λ k. (
      omega (arith, c.base.type_inv, c.base.ensures),
      ((omega arith, tt), omega (arith, c.taken.type_inv, c.taken.ensures)),
    ))
    (rw (c.base.ensures, c.taken.ensures) at (rw c.idle_link.ensures at c.array.ensures)))
