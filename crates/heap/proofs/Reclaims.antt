-- The heap after all that isn't needed is freed, and the rest is old.
use Rattle.std.proofs.Common.{◌≡◌, ℕ, true, List, Bool, Ok, length, refl, sym, ap, ◌∙◌}
use Rattle.std.specs.List.{list_any}
use Rattle.std.proofs.lemmas.Bool.{cond-true}
use Rattle.model.specs.declared.age.Scope.{Scope}
use Rattle.model.specs.declared.age.Scope.TheVariants as scopes
use Rattle.model.specs.State.{Heap}
use Rattle.model.specs.Shading.{roots}
use Rattle.model.specs.Collecting.{Sweeping}
use Rattle.model.specs.Reclaiming.{is_in_scope, left_grey, aged}
use Rattle.model.specs.Searching.{Tells, sought}
use Rattle.model.proofs.Searching.{reclaiming-told}
use Rattle.model.proofs.Seeing.{sought-width}
use Rattle.heap.specs.Heap.{freed_unless, heap_reclaim}

-- a search doesn't hide roots
pub sought-roots : (scope : Scope) (h : Heap) → roots (sought scope h) ≡ roots h
sought-roots scopes.All h = refl
sought-roots scopes.Young h = refl

-- nor slots
pub sought-slots : (scope : Scope) (h : Heap) → length (sought scope h).slots ≡ length h.slots
sought-slots scopes.All h = refl
sought-slots scopes.Young h = sought-width h

-- what is freed leaves the list of grey objects, and the rest is old
abbrev after : Sweeping → Heap
after s = aged (record s.heap { grey = left_grey s.heap })

-- to free by what the search told, then to leave the grey list, and then to grow old is to reclaim
pub reclaims : (scope : Scope) (own : ℕ) (h : Heap) (found : List Bool) {g : Heap} {n : ℕ}
    → list_any (is_in_scope scope) h.slots ≡ true → Tells own (sought scope h) found
    → g ≡ after (freed_unless scope found h) → n ≡ (freed_unless scope found h).freed
    → heap_reclaim scope own h ≡ Ok (g, n)
reclaims scope own h found {g} {n} some tells heap freed =
    cond-true (list_any (is_in_scope scope) h.slots) _ _ some
    ∙ sym (ap (λ (s : Sweeping). Ok (after s, s.freed)) (reclaiming-told scope own h found tells))
    ∙ rw (heap, freed) refl
