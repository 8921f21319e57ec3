-- What a kill leaves on the disks of a space, also within saves.
use Rattle.std.proofs.Common.{◌≡◌, ◌<◌, ◌≤◌, ◌++◌, ℕ, zero, suc, Bool, false, true, List, [], ◌∷◌, Option, Some, Ok, Err, append-nil, get_or-set_other, get_or-set_same, length, length-set, set, slice_get, refl, sym, ap, ◌∙◌, subst, arith, ⊎_elim}
use Rattle.std.specs.Prelude.{cond}
use Rattle.std.proofs.Math.Logic.{∥∥₁_elim}
use Rattle.std.proofs.Props.{props}
use Rattle.std.proofs.lemmas.Bool.{cases_lt, cond-false, cond-true, cond_both, lt-ltb}
use Rattle.std.proofs.lemmas.Option.{slice_get_within}
use Rattle.ids.specs.Limits.{Shaped}
use Rattle.ids.specs.declared.refusal.Refusal.TheVariants.{NoNode}
use Rattle.model.specs.declared.step.Outcome.TheVariants as outcome
use Rattle.model.specs.declared.step.Step.{Step}
use Rattle.model.specs.declared.step.Step.TheVariants as step
use Rattle.model.specs.State.{NodeState, no_node, node_at}
use Rattle.model.specs.View.{kept_view}
use Rattle.model.specs.World.{World, happens, is_node, run, take_step, world_after}
use Rattle.model.proofs.Runs.{run-append}
use Rattle.laws.proofs.KeepsSent.{run-count}
use Rattle.disk.specs.Areas.{Areas}
use Rattle.node.specs.Keeping.{WholeNode, alone}
use Rattle.node_store.proofs.Stores.{keeps_some}
use Rattle.wire.specs.Readers.{known, seat_node}
use Rattle.wire.specs.Rule.{nodes_of}
use Rattle.wire.specs.Views.{Pair}
use Rattle.wire.proofs.Places.{some_at}
use Rattle.cell.specs.Cells.{CellView, HoldsEither}
use Rattle.cell.specs.Closing.{AreKilled, AreOfOneKill, AreSaves, HaveBegun, IsOfNode, KilledIsLeft}
use Rattle.cell.specs.Moments.{EachCell}
use Rattle.cell.specs.Desks.{HasDropped, IsSavedNode}
use Rattle.cell.specs.Disks.{OpensTo, is_same_node}
use Rattle.cell.specs.Events.{found_pair}
use Rattle.cell.specs.Laws.{restarted, IsLeft}
use Rattle.cell.specs.Opened.{IsReadFrom}
use Rattle.cell.specs.Reached.{AreHeld, BeginReached, IsReached}
use Rattle.cell.specs.Theorems.{AreLeft}
use Rattle.cell.proofs.Dropping.{dropped-found, took-same}
use Rattle.cell.proofs.Found.{is-found}
use Rattle.cell.proofs.Holding.{saved-count, still-held}
use Rattle.cell.proofs.Left.{left-opened, restarted-reached}
use Rattle.cell.proofs.Opening.{core-found, kept-found, which-found}
use Rattle.cell.proofs.Reaches.{stays-reached, world-of-reached}
use Rattle.cell.proofs.Starting.{AreReadOf}
use Rattle.cell.proofs.Together.{pair-there}

-- ---- Saves of some nodes

-- of the first n nodes, those that aren't picked are saved
abbrev saves : (ℕ → Bool) → ℕ → List Step
saves pick zero = []
saves pick (suc n) = saves pick n ++ cond (pick n) [] (step.Save n ∷ [])

saves-both : (xs ys : List Step) → AreSaves xs → AreSaves ys → AreSaves (xs ++ ys)
saves-both [] ys first second = second
saves-both (step.Save i ∷ xs) ys first second = saves-both xs ys first second
saves-both (step.Act i e ∷ xs) ys first second = absurd first
saves-both (step.Restart i ∷ xs) ys first second = absurd first
saves-both (step.Deliver from to number ∷ xs) ys first second = absurd first
saves-both (step.Hand from to ∷ xs) ys first second = absurd first

are-saves : (pick : ℕ → Bool) (n : ℕ) → AreSaves (saves pick n)
are-saves pick zero = tt
are-saves pick (suc n) =
    saves-both (saves pick n) (cond (pick n) [] (step.Save n ∷ [])) (are-saves pick n)
    (cond_both (pick n) [] (step.Save n ∷ []) AreSaves (λ is. tt) (λ is. tt))

-- a world after such saves
record AreSaved (w v : World) (pick : ℕ → Bool) (n : ℕ) : Type 0 where
  current : v.current ≡ w.current
  count : length v.saved ≡ length w.saved
  done : (i : ℕ) → i < n
      → node_at v.saved i ≡ cond (pick i) (node_at w.saved i) (node_at w.current i)
  rest : (i : ℕ) → n ≤ i → node_at v.saved i ≡ node_at w.saved i

saved-one : (w : World) (k : ℕ) → k < length w.current
    → happens w (step.Save k) ≡ record w { saved = set w.saved k (node_at w.current k) }
unfolding take_step
saved-one w k inside =
    ap (λ (b : Bool). world_after w (cond b
    (Ok (record w { saved = set w.saved k (node_at w.current k) }, outcome.Done))
    (Err NoNode))) (let is : is_node w k ≡ true = lt-ltb k (length w.current) inside in is)

module _ (w : World) (pick : ℕ → Bool) (n : ℕ) where
  not-saved : {v : World} → pick n ≡ true → AreSaved w v pick n → AreSaved w v pick (suc n)
  not-saved {v} is h = record {
    current = h.current;
    count = h.count;
    done = λ i below.
        ⊎_elim (λ before. h.done i before)
        (λ last.
        let same : n ≡ i = omega (arith, below, last) in
        subst (λ (j : ℕ).
        node_at v.saved j ≡ cond (pick j) (node_at w.saved j) (node_at w.current j)) same
        (h.rest n (let self : n ≤ n = omega arith in self)
        ∙ sym (cond-true (pick n) (node_at w.saved n) (node_at w.current n) is)))
        (cases_lt i n);
    rest = λ i past. h.rest i (omega (arith, past));
  }

  one-saved : {v : World} → pick n ≡ false → n < length w.current
      → length w.saved ≡ length w.current → AreSaved w v pick n
      → AreSaved w (record v { saved = set v.saved n (node_at v.current n) }) pick (suc n)
  one-saved {v} isnt inside count h = record {
    current = h.current;
    count = length-set v.saved n (node_at v.current n) ∙ h.count;
    done = λ i below.
        ⊎_elim
        (λ before.
        get_or-set_other v.saved n i (node_at v.current n) no_node (omega (arith, before))
        ∙ h.done i before)
        (λ last.
        let same : n ≡ i = omega (arith, below, last) in
        subst (λ (j : ℕ). node_at (set v.saved n (node_at v.current n)) j
        ≡ cond (pick j) (node_at w.saved j) (node_at w.current j)) same
        (get_or-set_same v.saved n (node_at v.current n) no_node
        (let many = h.count in omega (arith, inside, count, many))
        ∙ ap (λ (l : List NodeState). node_at l n) h.current
        ∙ sym (cond-false (pick n) (node_at w.saved n) (node_at w.current n) isnt)))
        (cases_lt i n);
    rest = λ i past.
        get_or-set_other v.saved n i (node_at v.current n) no_node (omega (arith, past))
        ∙ h.rest i (omega (arith, past));
  }

saved-some : (w : World) (pick : ℕ → Bool) (n : ℕ) → n ≤ length w.current
    → length w.saved ≡ length w.current → AreSaved w (run w (saves pick n)) pick n
saved-some w pick zero inside count = record {
  current = refl;
  count = refl;
  done = λ i below. absurd (omega (arith, below));
  rest = λ i past. refl;
}
saved-some w pick (suc n) inside count =
    let before = saved-some w pick n (omega (arith, inside)) count in
    cond_both (pick n) [] (step.Save n ∷ [])
    (λ (l : List Step). AreSaved w (run w (saves pick n ++ l)) pick (suc n))
    (λ is.
    subst (λ (l : List Step). AreSaved w (run w l) pick (suc n))
    (sym (append-nil (saves pick n)))
    (not-saved w pick n is before))
    (λ isnt.
    subst (λ (v : World). AreSaved w v pick (suc n))
    (sym (run-append w (saves pick n) (step.Save n ∷ [])
    ∙ saved-one (run w (saves pick n)) n
    (let many = run-count w (saves pick n) in omega (arith, inside, many))))
    (one-saved w pick n isnt (omega (arith, inside)) count before))

-- ---- The nodes that are read

-- whether the node that is read is the last saved one of its cell
abbrev picked : {D : Type 0} → Option WholeNode → Option (CellView D) → Bool
picked (Some n) (Some c) = is_same_node n.core c.saved
picked o p = true

module _ {D : Type 0} {may_leave : D → Areas → Type 0} {shape : Shaped} {opening : World}
    {cells : List (CellView D)} {nodes : List WholeNode}
    (h : AreKilled may_leave shape opening cells nodes) where
  -- the world of that moment
  abbrev now : World
  now = run opening h.once.log

  abbrev pick : ℕ → Bool
  pick k = picked (slice_get nodes k) (slice_get cells k)

  abbrev later : List Step
  later = saves pick shape.nodes

  wide : length now.current ≡ shape.nodes
  wide = run-count opening h.once.log ∙ h.width

  many : length now.saved ≡ length now.current
  many = saved-count now (stays-reached opening h.once.log h.reached)

  are-saved : AreSaved now (run now later) pick shape.nodes
  are-saved =
      let count = wide in saved-some now pick shape.nodes (omega (arith, count)) many

  cell-of : (k : ℕ) (n : WholeNode) → slice_get nodes k ≡ Some n
      → (c : CellView D) × (slice_get cells k ≡ Some c)
  cell-of k n there =
      some_at cells k
      (let inside = slice_get_within nodes k n there in
      let count = h.count in
      let found = h.found in
      omega (arith, inside, count, found))

  -- the state of a node in the later world
  state-is : (k : ℕ) (c : CellView D) (n : WholeNode) → slice_get cells k ≡ Some c
      → slice_get nodes k ≡ Some n
      → node_at (run now later).saved k
      ≡ (found_pair (is_same_node n.core c.saved) (known c.seat).pair).saved
  state-is k c n at there =
      let is = h.each k c at in
      let pair = pair-there may_leave opening h.once.log c is.of (h.once.each k c at) in
      let saved : node_at now.saved k ≡ (known c.seat).pair.saved =
      ap (λ (i : ℕ). node_at now.saved i) (sym is.number) ∙ ap (λ (p : Pair). p.saved) pair in
      let current : node_at now.current k ≡ (known c.seat).pair.current =
      ap (λ (i : ℕ). node_at now.current i) (sym is.number) ∙ ap (λ (p : Pair). p.current) pair in
      are-saved.done k
      (let inside = slice_get_within nodes k n there in let found = h.found in
      omega (arith, inside, found))
      ∙ (λ i. cond (picked (there i) (at i)) (saved i) (current i))

  -- the node that was read is the last saved one, or the current one
  module _ (k : ℕ) (c : CellView D) (n : WholeNode) (at : slice_get cells k ≡ Some c)
      (there : slice_get nodes k ≡ Some n) where
    read-here : (x : Areas) × HoldsEither c x × IsReadFrom shape k x n
    read-here = h.read k c n at there

    opens-here : OpensTo n.core read-here.0
    opens-here =
        core-found n read-here.0
        (read-here.2.held (λ empty. ∥∥₁_elim read-here.1 (hlevel props)
        (⊎_elim
        (λ was. keeps_some (alone c.saved) read-here.0 was empty)
        (λ is. keeps_some _ read-here.0 is empty))))

    which-here : is_same_node n.core c.saved ≡ false → n.core ≡ kept_view c.node.core
    which-here = which-found c.saved c.node.core n.core read-here.0 opens-here read-here.1

    left-here : IsLeft k shape.nodes (node_at (run now later).saved k) read-here.0
    left-here =
        let is = h.each k c at in
        let s : NodeState = (found_pair (is_same_node n.core c.saved) (known c.seat).pair).saved in
        let found = is-found n.core is.of.sound.stands is.of.sound.was
        (kept-found n.core read-here.0 opens-here) which-here in
        record {
          node = n.core;
          saved = subst (λ (t : NodeState). IsSavedNode k shape.nodes t n.core)
              (sym (state-is k c n at there))
              (subst (λ (i : ℕ). IsSavedNode i shape.nodes s n.core) is.number
              (subst (λ (i : ℕ). IsSavedNode (seat_node c.seat) i s n.core) is.width
              found.saved));
          opens = ∣ opens-here ∣₁;
        }

    dropped-here : HasDropped c.origin (known c.seat) n.core
    dropped-here =
        let sound = (h.each k c at).of.sound in
        dropped-found n.core (took-same (known c.seat) (known c.seat) refl refl) which-here
        sound.dropped sound.saved_dropped

  are-left : AreLeft shape (run now later) nodes
  are-left = record {
    reached = stays-reached now later (stays-reached opening h.once.log h.reached);
    width = are-saved.count ∙ many ∙ wide;
    count = h.found;
    each = λ k n there.
        (let c = cell-of k n there in
        let read = read-here k c.0 n c.1 there in
        (read.0, left-here k c.0 n c.1 there, read.2));
  }

  are-held : HaveBegun cells → AreHeld nodes (restarted (run now later))
  unfolding left-here
  are-held begun k to n there =
      let c = cell-of k n there in
      let left = left-here k c.0 n c.1 there in
      still-held h.once.log later h.reached h.width k to c.0 n.core (h.each k c.0 c.1)
      (h.once.each k c.0 c.1) (dropped-here k c.0 n c.1 there) (begun k c.0 c.1)
      (let inside = slice_get_within nodes k n there in
      let found = h.found in omega (arith, inside, found))
      left.saved.shows

pub killed-is-left : {D : Type 0} (may_leave : D → Areas → Type 0) → KilledIsLeft may_leave
killed-is-left may_leave shape opening cells nodes h = record {
  saves = later h;
  are_saves = are-saves (pick h) shape.nodes;
  left = are-left h;
  held = are-held h;
}

-- ---- Nodes that are read from such disks

pub killed-begins : {D : Type 0} {may_leave : D → Areas → Type 0} (seen : D → Areas)
    (shape : Shaped) (opening : World) (disks : List D) → IsReached opening
    → nodes_of opening ≡ shape.nodes → AreOfOneKill seen may_leave opening disks
    → (nodes : List WholeNode) → length nodes ≡ length disks → AreReadOf seen shape disks nodes
    → BeginReached nodes
killed-begins {D} {may_leave} seen shape opening disks reached width kill nodes count read =
    let h : AreKilled may_leave shape opening kill.cells nodes = record {
      reached = reached;
      width = width;
      count = kill.count ∙ width;
      found = count ∙ kill.as_many ∙ width;
      each = subst (λ (n : ℕ). EachCell (IsOfNode may_leave opening n) kill.cells) width kill.each;
      once = kill.once;
      read = λ k c n at there.
          (let d = some_at disks k
          (let inside = slice_get_within nodes k n there in omega (arith, inside, count)) in (
            seen d.0,
            kill.left k c d.0 at d.1,
            read k d.0 n d.1 there,
          ));
    } in
    let survived = killed-is-left may_leave shape opening kill.cells nodes h in
    let w : World = run (run opening kill.once.log) survived.saves in
    let left = survived.left in
    world-of-reached shape (restarted w) nodes (restarted-reached w left.reached)
    (left-opened shape w nodes left.width left.count left.each) (survived.held kill.begun)
