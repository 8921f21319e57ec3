use Rattle.std.proofs.Common.{length, ap, arith}
use Rattle.world.proofs.Cuts.{part}
use Rattle.world.proofs.packed.Frames.get.Goals as goal

pub slice_bounds-result-start : goal.slice_bounds-result-start
slice_bounds-result-start c =
    let read = part _ 0 _ _ _ c.self.invariant (rw (← c.self.view_is) at c.requires)
    c.index-end.ensures in
    rw (c.start.ensures, c.deref-2.ensures.value) read.ordered

pub slice_bounds-result-count : goal.slice_bounds-result-count
slice_bounds-result-count c =
    let read = part _ 0 _ _ _ c.self.invariant (rw (← c.self.view_is) at c.requires)
    c.index-end.ensures in
    rw (c.start.ensures, c.deref-2.ensures.value) read.ordered

pub slice_bounds-result-end : goal.slice_bounds-result-end
slice_bounds-result-end c =
    let read = part _ 0 _ _ _ c.self.invariant (rw (← c.self.view_is) at c.requires)
    c.index-end.ensures in
    omega (arith, read.within, ap length c.deref.ensures.value)

pub returns : goal.returns
returns c =
    let read = part _ 0 _ _ _ c.self.invariant (rw (← c.self.view_is) at c.requires)
    c.index-end.ensures in
    rw (← c.self.view_is, c.deref.ensures.value, c.start.ensures, c.deref-2.ensures.value) read.is
