use Rattle.std.proofs.Common.{◌≡◌, ℕ, ◌<◌, List, [], ◌++◌, length, get_or, Option, None, ap, sym, ◌∙◌, subst, arith}
use Rattle.std.specs.List.{AllByRecursion}
use Rattle.std.specs.Option.{option_to_list}
use Rattle.std.proofs.lemmas.List.{take_all}
use Rattle.ids.specs.declared.names.Ref.{Ref}
use Rattle.model.specs.Shading.{filled, roots, unasked}
use Rattle.model.proofs.Shading.{unasked-all}
use Rattle.remote_marks.proofs.InTurn.{included, all-asked, few-asked}
use Rattle.node.proofs.roots.ask_for_roots.Goals as goal

pub loop-number-preserved : goal.loop-number-preserved
loop-number-preserved c =
    let own = c.args.own in
    let now : List Ref = c.loop-number.asked.keys in
    let os : List (Option Ref) = roots c.args.heap.now.heap in
    c.in_ok-include.ensures.done
    ∙ ap (λ (o : Option Ref). now ++ unasked own now (option_to_list o))
    (c.root.ensures ∙ ap (λ (k : ℕ). get_or os k None) (omega arith))
    ∙ included own [] now os c.loop-number.number
    (omega (arith, c.loop-number-test.true, c.root_count-number-end.ensures.count))
    c.loop-number.invariant

pub append_marks-requires : goal.append_marks-requires
append_marks-requires c =
    let os : List (Option Ref) = roots c.args.heap.now.heap in
    let near = λ (r : Ref). r.node < length c.args.links.now.links in
    let through = take_all c.loop-number.number os
    (omega (arith, c.loop-number-test.false, c.root_count-number-end.ensures.count)) in
    let all : c.loop-number.asked.keys ≡ unasked c.args.own [] (filled os) =
    c.loop-number.invariant
    ∙ ap (λ (us : List (Option Ref)). unasked c.args.own [] (filled us)) through in
    record {
      nodes = subst (AllByRecursion near) (sym (c.as_slice.ensures.keys ∙ all))
          (unasked-all near c.args.own [] (filled os) c.requires.nodes);
    }

pub returns : goal.returns
returns c =
    let own = c.args.own in
    let os : List (Option Ref) = roots c.args.heap.now.heap in
    let through = take_all c.loop-number.number os
    (omega (arith, c.loop-number-test.false, c.root_count-number-end.ensures.count)) in
    let all : c.loop-number.asked.keys ≡ unasked own [] (filled os) =
    c.loop-number.invariant
    ∙ ap (λ (us : List (Option Ref)). unasked own [] (filled us)) through in
    let done = all-asked [] (unasked own [] (filled os)) c.args.cycle all
    (c.as_slice.ensures.keys ∙ all) c.in_ok-append_marks.ensures.done in
    record {
      done = done;
      few = few-asked own [] (filled os) c.requires.nodes c.append_marks.ensures.sound done;
      refused = tt;
      unchanged = tt;
      width = c.append_marks.ensures.width;
      sound = c.append_marks.ensures.sound;
    }
