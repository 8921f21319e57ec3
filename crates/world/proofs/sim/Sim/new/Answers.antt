use Rattle.std.proofs.Common.{◌≡◌, sym, ◌∙◌, arith}
use Rattle.std.proofs.lemmas.List.FromFn.{map-range_with_len_more}
use Rattle.world.specs.Sites.{new_keeping}
use Rattle.world.proofs.New.{new-early, new-space-shows, new-space-sim}
use Rattle.world.proofs.sim.Sim.new.Goals as goal

pub loop-number-preserved : goal.loop-number-preserved
loop-number-preserved c =
    c.in_ok-push.ensures.items
    ∙ rw (c.loop-number.invariant, c.in_ok-new.ensures.made)
    (sym (map-range_with_len_more (new_keeping c.args.shape) 0 c.loop-number.number
    c.loop-number.number (omega arith)))

pub invariant_of-result : goal.invariant_of-result
invariant_of-result c =
    let all : c.loop-number.number ≡ c.args.shape.nodes =
    search arith in
    rw (c.loop-number.invariant, all) (new-space-sim c.args.shape search)

pub returns-clause-made : goal.returns-clause-made
returns-clause-made c =
    let all : c.loop-number.number ≡ c.args.shape.nodes =
    search arith in
    rw (c.loop-number.invariant, all) (new-space-shows c.args.shape)

pub returns-clause-early : goal.returns-clause-early
returns-clause-early c =
    let all : c.loop-number.number ≡ c.args.shape.nodes =
    search arith in
    rw (c.loop-number.invariant, all) (new-early c.args.shape)
