use Rattle.std.proofs.Common.{ℕ, Bool, List, Option, ⊎_elim, sym, ap, ◌∙◌, subst}
use Rattle.ids.specs.declared.names.Ref.{Ref}
use Rattle.model.specs.State.{Heap, slot_at}
use Rattle.model.specs.Collecting.{Sweeping}
use Rattle.model.specs.Reclaiming.{is_recent, left_grey, aged}
use Rattle.model.specs.Searching.{Finds, sought}
use Rattle.model.specs.Cuts.{Among}
use Rattle.model.proofs.Searching.{begins-rooted}
use Rattle.heap.specs.Heap.{HeapView, freed_unless}
use Rattle.heap.proofs.Reclaims.{sought-roots, reclaims}
use Rattle.heap.proofs.Settles.{settled, grey-aged}
use Rattle.heap.proofs.heap.Heap.reclaim_in.Goals as goal

pub follow_all-requires-clause-rooted : goal.follow_all-requires-clause-rooted
follow_all-requires-clause-rooted c =
    let h = c.args.self.now.heap in
    let z = sought c.args.scope h in
    begins-rooted c.find_shared.ensures
    (subst (λ (os : List (Option Ref)). Finds c.args.own z os c.find_shared.new.search
    c.find_roots.new.search)
    (sym (sought-roots c.args.scope h)) c.find_roots.ensures)

pub follow_all-requires-clause-waits : goal.follow_all-requires-clause-waits
follow_all-requires-clause-waits c k found =
    let f = c.find_roots.ensures in
    ⊎_elim {C = Among k c.find_roots.new.search.left}
    (λ before. f.waits k (c.find_shared.ensures.waits k before)) (λ new. new.1) (f.new k found)

pub forget_recent-requires : goal.forget_recent-requires
forget_recent-requires c k =
    let scope = c.args.scope in
    let g = c.follow_all.new.self.heap in
    let freed = ap (λ (v : HeapView). v.heap) c.free_all-freed.ensures.done
    ∙ ap (λ (bs : List Bool). (freed_unless scope bs g).heap) c.found.ensures in
    ap (λ (z : Heap). is_recent (slot_at z k)) freed
    ∙ (settled scope c.follow_all.ensures.grown).old k

pub returns-clause-done : goal.returns-clause-done
returns-clause-done c =
    let scope = c.args.scope in
    let h = c.args.self.now.heap in
    let g = c.follow_all.new.self.heap in
    let found = c.follow_all.new.search.found in
    let s = settled scope c.follow_all.ensures.grown in
    let all : Sweeping = freed_unless scope found h in
    let gone = ap (λ (v : HeapView). v.heap) c.forget_recent.ensures
    ∙ ap (λ (v : HeapView). v.heap) c.free_all-freed.ensures.done
    ∙ ap (λ (bs : List Bool). (freed_unless scope bs g).heap) c.found.ensures
    ∙ s.heap in
    let grey = c.leave_grey.ensures.done
    ∙ ap (λ (x : Heap). record x { grey = left_grey x }) gone
    ∙ ap (λ (ks : List ℕ). record (aged all.heap) { grey = ks }) (grey-aged all.heap) in
    let freed = c.free_all-freed.ensures.freed
    ∙ ap (λ (bs : List Bool). (freed_unless scope bs g).freed) c.found.ensures
    ∙ s.freed in
    reclaims scope c.args.own h found (sym c.has_in.ensures ∙ c.if-not-has_in.false)
    c.follow_all.ensures.tells grey freed
