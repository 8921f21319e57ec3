-- What stays of a seated cell after a call on its cell.
use Rattle.std.proofs.Common.{◌≡◌, ℕ, Bool, true, false, Option, Some, None, Result, Ok, Err, IsTrue, inl, inr, refl, ap, arith}
use Rattle.ids.specs.declared.refusal.Refusal.{Refusal}
use Rattle.model.specs.View.{is_other}
use Rattle.node.specs.Keeping.{WholeNode, waiting}
use Rattle.disk.specs.declared.memory.MemoryDisk.{MemoryDisk}
use Rattle.wire.specs.Readers.{inbox, known}
use Rattle.wire.specs.Views.{Known}
use Rattle.wire.specs.declared.pumped.Inbound.{Inbound}
use Rattle.wire.specs.declared.pumped.Inbound.TheVariants as inbound
use Rattle.cell.specs.Cells.{CellView}
use Rattle.cell.specs.Events.{Handled}
use Rattle.cell.specs.Pumping.{PumpedBy, PumpedIn}

pub in-both : {A : Type 0} {x y : A} (b : Bool) → (IsTrue b → x ≡ y) → (b ≡ false → x ≡ y) → x ≡ y
in-both true on off = on refl
in-both false on off = off refl

-- a frame that is refused changes no core
handled-still : (f : _) (e : Refusal) (old new : WholeNode) (v w : Known)
    → Handled f (Err e) old new v w → new.core ≡ old.core
handled-still f e old new v w h = grind (arith, h)

module _ (from : ℕ) (old new : CellView MemoryDisk) where
  refused-still : (o : Option _) (e : Refusal)
      → PumpedBy o (inbox old.seat from) from (Err e) old.node new.node (known old.seat)
      (known new.seat) old.trace new.trace → new.node.core ≡ old.node.core
  refused-still (Some d) e h = h.given.acted.unchanged
  refused-still None e (inl h) =
      handled-still h.frame e old.node new.node _ (known new.seat) h.handled
  refused-still None e (inr h) = ap (λ (n : WholeNode). n.core) h.node

  empty-still : (o : Option _)
      → PumpedBy o (inbox old.seat from) from (Ok inbound.Empty) old.node new.node (known old.seat)
      (known new.seat) old.trace new.trace → new.node.core ≡ old.node.core
  empty-still (Some d) h = absurd h
  empty-still None h = ap (λ (n : WholeNode). n.core) h.node

-- Nothing of the cell changes if it is closed or has no such node.
module _ (from : ℕ) (old new : CellView MemoryDisk) (R : Type 0)
    (stays : (old.is_open ≡ false → new ≡ old) × (IsTrue old.is_open
    → is_other old.node.core.local from ≡ false → R × (new ≡ old))) where
  still : (r : Result Inbound Refusal) → (PumpedIn from r old new → new.node.core ≡ old.node.core)
      → (IsTrue old.is_open → IsTrue (is_other old.node.core.local from) → PumpedIn from r old new)
      → new.node.core ≡ old.node.core
  still r does pumped =
      let core = λ (v : CellView MemoryDisk). v.node.core in
      in-both old.is_open
      (λ ready. in-both (is_other old.node.core.local from) (λ other. does (pumped ready other))
      (λ none. ap core (stays.1 ready none).1))
      (λ closed. ap core (stays.0 closed))

  pub still-refused : (e : Refusal)
      → (IsTrue old.is_open → IsTrue (is_other old.node.core.local from)
      → PumpedIn from (Err e) old new) → new.node.core ≡ old.node.core
  still-refused e =
      still (Err e) (refused-still from old new (waiting old.node.early from) e)

  pub still-empty : (IsTrue old.is_open → IsTrue (is_other old.node.core.local from)
      → PumpedIn from (Ok inbound.Empty) old new) → new.node.core ≡ old.node.core
  still-empty =
      still (Ok inbound.Empty) (empty-still from old new (waiting old.node.early from))
