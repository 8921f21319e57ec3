use Rattle.std.proofs.Common.{◌≡◌, ◌∙◌, None, Ok, Option, Some, subst, sym}
use Rattle.std.specs.Option.{ok_or, option_map}
use Rattle.std_alloc.specs.Box.{box_value}
use Rattle.c_values.specs.Faults.{Through}
use Rattle.c_handles.specs.Watches.{Looked, Looks}
use Rattle.c_handles.specs.declared.watching.SeatedWatch.{SeatedWatch}
use Rattle.c_handles.proofs.watch_handle.WatchHandle.look.Goals as goal

-- what was taken out of a handle that isn't empty
taken : {X Y E : Type 0} (f : X → Y) (o : Option X) (e : E) (x : X) → Ok x ≡ ok_or o e
    → Some (f x) ≡ option_map f o
taken f None e x is = search
taken f (Some y) e x is = search

pub returns : goal.returns
returns c =
    let number = c.look-number.result in
    let was = taken box_value c.take.result _ c.in_ok-watch.watch c.in_ok-watch.ensures.value in
    subst (λ (o : Option SeatedWatch). Through Looks o c.put.new.self.held (Ok number))
    (was ∙ c.take.ensures.taken)
    (subst (λ (o : Option SeatedWatch). Through Looks (Some c.in_ok-watch.watch.value) o (Ok number))
    (sym c.put.ensures)
    (subst (λ (w : SeatedWatch). Looked w c.look-number.new.self number) c.deref_mut.ensures.value
    c.look-number.ensures))
