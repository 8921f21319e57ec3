use Rattle.std.proofs.Common.{◌<◌, List, length, sym, ◌∙◌, subst}
use Rattle.std.specs.List.{AllByRecursion}
use Rattle.ids.specs.declared.names.Ref.{Ref}
use Rattle.model.specs.Shading.{filled, unasked}
use Rattle.model.proofs.Shading.{unasked-all}
use Rattle.remote_marks.proofs.Sent.{cut_end}
use Rattle.remote_marks.proofs.InTurn.{all-asked, few-asked}
use Rattle.remote_marks.proofs.asking.ask.Goals as goal

pub append_marks-requires : goal.append_marks-requires
append_marks-requires c =
    let old : List Ref = c.args.asked.now.keys in
    let rs : List Ref = filled c.args.references.now in
    let near = λ (r : Ref). r.node < length c.args.links.now.links in
    let told = c.in_ok-before.ensures in
    let cut = cut_end old (unasked c.args.own old rs) c.as_slice.result.now c.in_ok-before.before
    told.before (c.as_slice.ensures.keys ∙ told.done) in
    record {
      nodes = subst (AllByRecursion near) (sym cut)
          (unasked-all near c.args.own old rs c.requires.nodes);
    }

pub returns : goal.returns
returns c =
    let own = c.args.own in
    let old : List Ref = c.args.asked.now.keys in
    let rs : List Ref = filled c.args.references.now in
    let told = c.in_ok-before.ensures in
    let cut = cut_end old (unasked own old rs) c.as_slice.result.now c.in_ok-before.before
    told.before (c.as_slice.ensures.keys ∙ told.done) in
    let done = all-asked old (unasked own old rs) c.args.cycle told.done cut
    c.in_default.ensures.done in
    record {
      before = told.before;
      done = done;
      few = few-asked own old rs c.requires.nodes c.append_marks.ensures.sound done;
      refused = tt;
      unchanged = tt;
      width = c.append_marks.ensures.width;
      sound = c.append_marks.ensures.sound;
    }
