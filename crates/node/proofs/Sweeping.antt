-- The next slots are swept.
use Rattle.std.proofs.Common.{◌≡◌, ℕ, ◌<◌, ◌≤◌, List, length, sym, subst, arith}
use Rattle.model.specs.State.{Heap, Phases, Slot}
use Rattle.model.specs.Collecting.{Sweeping, is_garbage, sweep_some}
use Rattle.model.specs.References.{IsWithin}
use Rattle.model.specs.View.{NodeView}
use Rattle.model.proofs.Freeing.{Freed, freed-some, garbage-test, holds-freed}
use Rattle.model.proofs.Stocks.{stocked-swept}
use Rattle.cycles.specs.Phases.{IsPhases}
use Rattle.heap.specs.Heap.{swept}
use Rattle.node.specs.Invariant.{IsNode}
use Rattle.node.proofs.Nodes.{moved, node-moved, with_swept}

-- ---- what holds of every node holds afterwards

-- a node that sweeps knows its marking to have ended
ended-here : (p : Phases) → IsPhases p → p.swept < p.ended → p.ended ≡ p.cycle
ended-here p is unfinished = omega (arith, is.ended, is.cycle, unfinished)

-- this many slots of a node that sweeps were swept, from slot `first` on
pub record Sweeps (n : NodeView) (cycle first count : ℕ) (h : Heap) : Type 0 where
  pub unfinished : n.local.phases.swept < n.local.phases.ended
  pub heap : h ≡ (swept cycle first count n.local.heap).heap

-- the phases moved so far, within these slots
pub record Moves (p : Phases) (slots : List Slot) (last cursor : ℕ) (phases : Phases) : Type 0 where
  pub sound : IsPhases phases
  pub is : phases ≡ moved last cursor p
  pub within : cursor ≤ length slots

-- a node with swept slots, and phases that fit them
pub node-swept : {n : NodeView} {h : Heap} {phases : Phases} {last cursor : ℕ}
    (cycle first count : ℕ) → IsNode n → Sweeps n cycle first count h
    → Moves n.local.phases n.local.heap.slots last cursor phases → IsNode (with_swept n h phases)
node-swept {n = n} {h = h} {phases = phases} {last = last} {cursor = cursor} cycle first count old s
    m =
    let p : Phases = n.local.phases in
    let before : Sweeping = record { heap = n.local.heap; freed = 0 } in
    let none = old.stocked.calm (ended-here p old.phases.phases s.unfinished) in
    let freed : Freed before.heap (sweep_some cycle first count before).heap =
    freed-some (λ _. is_garbage cycle) (garbage-test cycle) first count before in
    subst (λ (z : Phases). IsNode (with_swept n h z)) (sym m.is)
    (subst (λ (z : Heap). IsNode (with_swept n z (moved last cursor p))) (sym s.heap)
    (node-moved n _ old
    (holds-freed (IsWithin n.local.shape) freed old.references)
    (stocked-swept cycle first count before none old.stocked)
    (subst IsPhases m.is m.sound) (omega (arith, m.within, freed.width))))
