use Rattle.std.proofs.Common.{subst, sym, ap, List, Option, ◌≡◌, ◌∙◌}
use Rattle.ids.specs.declared.names.Ref.{Ref}
use Rattle.frames.specs.Grammar.{Fits, spelling}
use Rattle.msg.specs.Frames.{data_frame}
use Rattle.msg.specs.declared.body.Body.{Body}
use Rattle.msg.specs.declared.body.Body.TheVariants as body
use Rattle.model.specs.View.{NodeView}
use Rattle.node.specs.Lacking.{Lacks}
use Rattle.world.specs.InsideSite.{view_of}
use Rattle.world.proofs.Lacking.{lacking, posted}
use Rattle.world.proofs.site.Site.lack.Goals as goal

pub returns : goal.returns
returns c =
    rw (← c.self.view_is)
    (λ d of.
    let x = posted d.body of.letter in
    let frame = λ (b : Body). data_frame d.from d.to d.number d.stamp b in
    let read = c.read_letter_head-head.ensures.value d.from d.to d.number d.stamp x.label
    x.references
    x.bytes (subst (λ (b : Body). Fits (frame b)) x.is of.fits)
    (subst (λ (b : Body). c.args.bytes.now ≡ spelling (frame b)) x.is of.spelled) in
    lacking (view_of c.self.inside) d c.lack.result
    (subst (λ (n : NodeView). Lacks n d c.lack.result) c.core.ensures.value
    (c.lack.ensures d (record {
      from = sym read.0.from;
      to = sym read.0.to;
      number = sym read.0.number;
      stamp = sym read.0.stamp;
      label = x.label;
      bytes = x.bytes;
      body = x.is ∙ ap (λ (rs : List (Option Ref)). body.Post x.label rs x.bytes) (sym read.1);
      size = sym read.0.bytes;
    })))
    c.core.ensures.kept)
