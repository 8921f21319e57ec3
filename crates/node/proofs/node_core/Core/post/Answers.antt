use Rattle.std.proofs.Common.{ap, refl, sym, ◌∙◌, subst}
use Rattle.std.proofs.lemmas.Result.{err_from_is_err_and}
use Rattle.model.specs.Heaps.{contents}
use Rattle.model.specs.View.{NodeView}
use Rattle.node.specs.Invariant.{IsNode}
use Rattle.node.proofs.Posting.{post-answered, post-refused, post-sendable}
use Rattle.node.proofs.node_core.Core.post.Goals as goal

pub returns-in_err-may_post : goal.returns-in_err-may_post
returns-in_err-may_post c =
    let r = err_from_is_err_and c.from_residual.result c.from_residual.ensures.1 in
    rw (r.1, r.2) (record {
      performs = post-refused c.args.self.now c.args.to c.args.first c.args.count c.args.bytes
          c.args.label _ (sym c.may_post.ensures ∙ c.in_err-may_post.was);
      unchanged = refl;
    })

pub send-requires-clause-sendable : goal.send-requires-clause-sendable
send-requires-clause-sendable c =
    post-sendable c.args.self.now c.args.to c.args.first c.args.count c.args.bytes c.args.label
    (subst IsNode c.self.view_is c.self.invariant.node)
    (sym c.may_post.ensures ∙ c.in_ok-may_post.was)
    (c.in_ok-share.ensures ∙ c.in_ok-references.ensures ∙ c.contents.ensures
    ∙ ap (λ (n : NodeView). contents n.local.heap c.args.first c.args.count) c.self.view_is)
    c.in_ok-new.ensures

pub returns : goal.returns
returns c = record {
  performs = post-answered c.args.self.now c.args.to c.args.first c.args.count c.args.bytes
      c.args.label
      (sym c.may_post.ensures ∙ c.in_ok-may_post.was)
      (c.in_ok-share.ensures ∙ c.in_ok-references.ensures ∙ c.contents.ensures
      ∙ ap (λ (n : NodeView). contents n.local.heap c.args.first c.args.count) c.self.view_is)
      c.in_ok-new.ensures
      (c.as_slice.ensures ∙ sym c.in_ok-share.ensures)
      c.in_ok-number.ensures.done
      c.share_each.ensures
      c.in_ok-number.ensures.number;
  unchanged = tt;
}
