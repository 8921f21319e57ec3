use Rattle.std.proofs.Common.{Ok, IfOk, sym, subst}
use Rattle.std.proofs.Common.{◌≡◌}
use Rattle.model.specs.declared.age.Scope.{Scope}
use Rattle.heap.specs.Heap.{heap_reclaim}
use Rattle.heap.proofs.heap.Heap.reclaim.Goals as goal

pub returns-in-All-clause-done : goal.returns-in-All-clause-done
returns-in-All-clause-done c =
    let a = c.args in
    subst (λ (s : Scope). IfOk c.reclaim_in.result
    (λ freed. heap_reclaim s a.own a.self.now.heap ≡ Ok (c.reclaim_in.new.self.heap, freed)))
    (sym c.in-All.is) c.reclaim_in.ensures.done

pub returns-in-Young-clause-done : goal.returns-in-Young-clause-done
returns-in-Young-clause-done c =
    let a = c.args in
    subst (λ (s : Scope). IfOk c.reclaim_in-in-Young.result
    (λ freed.
    heap_reclaim s a.own a.self.now.heap ≡ Ok (c.reclaim_in-in-Young.new.self.heap, freed)))
    (sym c.in-Young.is) c.reclaim_in-in-Young.ensures.done
