-- Which node a cell's disk opens to.
use Rattle.std.proofs.Common.{◌≡◌, Bool, IsTrue, true, false, ◌≤◌, ℕ, sym, ap, ◌∙◌, subst, subst₂, inl, ⊎_elim}
use Rattle.std.proofs.Math.Logic.{∥∥₁_elim, ∥∥₁_map}
use Rattle.std.proofs.Props.{props}
use Rattle.model.specs.View.{NodeView, kept_view}
use Rattle.disk.specs.Areas.{Areas}
use Rattle.disk.specs.Crashes.{LeavesOnly, Only}
use Rattle.disk.specs.Record.{leaves}
use Rattle.disk_shelf.proofs.Moments.{started, weaker}
use Rattle.image.specs.Nodes.{HasImage}
use Rattle.node_store.specs.Plain.{IsPlain, KeepsEither, StaysPlain}
use Rattle.node_store.proofs.Stores.{keeps_alone, keeps_kept, keeps_one, read_kept}
use Rattle.disk.specs.declared.state.State.{State}
use Rattle.node.specs.Keeping.{WholeNode, alone}
use Rattle.cell.specs.Disks.{HoldsSaved, OpensTo, OpensToEither, OpensToNode, is_same_node}
use Rattle.cell.proofs.Sames.{same-node}

-- the core of the node that was found
pub core-found : (n : WholeNode) (c : Areas) → OpensToNode n c → OpensTo n.core c
core-found n c found = subst (λ (m : WholeNode). OpensToNode m c) (keeps_alone n c found) found

pub whole-found : (n : NodeView) (c : Areas) → OpensTo n c → OpensToNode (alone n) c
whole-found n c found = found

-- a disk opens to at most one node
pub same-found : (m n : NodeView) (c : Areas) → OpensTo m c → OpensTo n c → m ≡ n
same-found m n c first second =
    ap (λ (w : WholeNode). w.core) (keeps_one (alone m) (alone n) c first second)

-- all messages of a node that was found count as saved
pub kept-found : (n : NodeView) (c : Areas) → OpensTo n c → kept_view n ≡ n
kept-found n c found = keeps_kept (alone n) c found

-- if the node that was found isn't the last saved one, it is the current one
pub which-found : (saved n found : NodeView) (c : Areas) → OpensTo found c
    → ∥ OpensToEither saved n c ∥₁ → is_same_node found saved ≡ false → found ≡ kept_view n
which-found saved n found c there left other =
    ∥∥₁_elim left (hlevel props)
    (⊎_elim
    (λ was.
    let same : is_same_node found saved ≡ true =
    same-node found saved (same-found found saved c there was) in
    let never : true ≡ false = sym same ∙ other in
    absurd cc)
    (λ now. same-found found (kept_view n) c there now))

pub saved-found : (saved found : NodeView) (c : Areas) → OpensTo found c → ∥ OpensTo saved c ∥₁
    → is_same_node found saved ≡ true
saved-found saved found c there was =
    ∥∥₁_elim was (hlevel props)
    (λ old. same-node found saved (same-found found saved c there old))

-- if no log follows the image, the node that was found has an image
pub image-found : (n : NodeView) (c : Areas) → IsPlain c → OpensTo n c → HasImage n
image-found n c plain found = let read = read_kept (alone n) c plain found in (read.0, read.2.0)

-- some node is found
pub never-bad : (saved n : NodeView) (c : Areas) → ∥ OpensToEither saved n c ∥₁
    → ((m : WholeNode) → OpensToNode m c → ⊥) → ⊥
never-bad saved n c left none =
    ∥∥₁_elim left (hlevel props)
    (⊎_elim (λ was. none (alone saved) (whole-found saved c was))
    (λ now. none (alone (kept_view n)) (whole-found (kept_view n) c now)))

-- if a crash leaves only what is read, and that opens to a node, whatever a crash leaves does
pub open-holds : (saved : NodeView) (seen : Areas) (may_leave : Areas → Type 0)
    → Only seen may_leave → ∥ OpensTo saved seen ∥₁ → HoldsSaved may_leave saved
open-holds saved seen may_leave only opens x may =
    subst (λ (c : Areas). ∥ OpensTo saved c ∥₁) (sym (only x may)) opens

-- if a save may add no events to a log, the saved node has an image
abbrev pub IsImaged : Bool → NodeView → Type 0
IsImaged logs saved = logs ≡ false → ∥ HasImage saved ∥₁

-- what an open cell guarantees, if the disk and what was saved on it stay the same
pub stays-open : {ready logs : Bool} (was saved n : NodeView) (may_leave : Areas → Type 0)
    → saved ≡ was → HoldsSaved may_leave was → IsImaged logs was
    → (IsTrue ready → HoldsSaved may_leave saved)
    × (((x : Areas) → may_leave x → ∥ OpensToEither saved n x ∥₁)
    × (IsImaged logs saved × Unit {0}))
stays-open {logs = logs} was saved n may_leave same holds imaged =
    let still : HoldsSaved may_leave saved = subst (HoldsSaved may_leave) (sym same) holds in (
      λ _. still,
      ((λ x may. ∥∥₁_map (still x may) inl), (subst (IsImaged logs) (sym same) imaged, tt)),
    )

-- a node that was found in a store that keeps no log has an image
pub imaged-found : {logs : Bool} (n : NodeView) (seen : Areas) (may_leave : Areas → Type 0)
    → may_leave seen → (logs ≡ false → StaysPlain may_leave) → ∥ OpensTo n seen ∥₁
    → IsImaged logs n
imaged-found n seen may_leave now plain opens none =
    ∥∥₁_map opens (image-found n seen (plain none seen now))

-- what a cell guarantees, open or closed, if node and disk stay the same
pub stays-left : {ready logs : Bool} {was saved m n : NodeView} (may_leave : Areas → Type 0)
    → saved ≡ was → n ≡ m → (IsTrue ready → HoldsSaved may_leave was)
    → ((x : Areas) → may_leave x → ∥ OpensToEither was m x ∥₁) → IsImaged logs was
    → (IsTrue ready → HoldsSaved may_leave saved)
    × (((x : Areas) → may_leave x → ∥ OpensToEither saved n x ∥₁)
    × (IsImaged logs saved × Unit {0}))
stays-left {logs = logs} may_leave same still opens left imaged = (
  λ ready. subst (HoldsSaved may_leave) (sym same) (opens ready),
  (
    λ x may. subst₂ (λ (v w : NodeView). ∥ OpensToEither v w x ∥₁) (sym same) (sym still)
        (left x may),
    (subst (IsImaged logs) (sym same) imaged, tt),
  ),
)

-- the facts of the type `Cell`, in their order: first what its nodes dropped, then its disk
pub cell-facts : {A B C : Type 0} → A → B → C → A × (B × C)
cell-facts dropped saved disk = (dropped, (saved, disk))

-- what a cell guarantees whose disk in memory was given a plan of failures
pub told-to-fail : {logs logged ready was : Bool} {old new : State} (saved n : NodeView)
    → new ≡ old → ready ≡ was → logs ≡ logged → (IsTrue was → HoldsSaved (leaves old) saved)
    → ((x : Areas) → leaves old x → ∥ OpensToEither saved n x ∥₁) → IsImaged logged saved
    → (IsTrue ready → HoldsSaved (leaves new) saved)
    × (((x : Areas) → leaves new x → ∥ OpensToEither saved n x ∥₁)
    × (IsImaged logs saved × Unit {0}))
told-to-fail {new = new} saved n same as_before logs opens left imaged = (
  λ is x may. opens (sym as_before ∙ is) x (subst (λ (s : State). leaves s x) same may),
  (
    λ x may. left x (subst (λ (s : State). leaves s x) same may),
    (λ none. imaged (sym logs ∙ none), tt),
  ),
)

-- what a crash leaves after a save in which the disk failed
pub failed-left : {D : Type 0} {moment : D → ℕ} {left_since : D → ℕ → Areas → Type 0}
    {old new : D} (may_leave : D → Areas → Type 0) (saved n : NodeView)
    → ((t : ℕ) (c : Areas) → t ≤ moment new → may_leave new c → left_since new t c)
    → ∥ LeavesOnly moment left_since old new (KeepsEither (alone saved) (alone (kept_view n))) ∥₁
    → (c : Areas) → may_leave new c → ∥ OpensToEither saved n c ∥₁
failed-left {moment = moment} {old = old} may_leave saved n counts only c may =
    ∥∥₁_map only (λ o. o.each c (counts (moment old) c o.later may))

-- the premises of a save: the disk opens to the last saved node, and the log leads on from there
pub saved-by : {Opens Leads Done : Type 0} → ∥ Opens ∥₁ → ∥ Leads ∥₁ → (Opens → Leads → Done)
    → ∥ Done ∥₁
saved-by opens leads done = ∥∥₁_elim opens (hlevel props) (λ o. ∥∥₁_map leads (done o))

-- what a crash leaves at any moment of a save
pub saved-since : {D : Type 0} {moment : D → ℕ} {left_since : D → ℕ → Areas → Type 0}
    {old new : D} (saved n : NodeView)
    → ∥ LeavesOnly moment left_since old new (KeepsEither (alone saved) (alone (kept_view n))) ∥₁
    → ∥ LeavesOnly moment left_since old new (λ x. ∥ OpensToEither saved n x ∥₁) ∥₁
saved-since saved n said = ∥∥₁_map said (λ o. weaker o (λ c either. ∣ either ∣₁))

-- what it leaves if nothing was written
pub still-since : {D : Type 0} {moment : D → ℕ} {left_since : D → ℕ → Areas → Type 0} {old new : D}
    {may_leave P : Areas → Type 0} → ((c : Areas) → left_since old (moment old) c → may_leave c)
    → new ≡ old → ((c : Areas) → may_leave c → P c) → LeavesOnly moment left_since old new P
still-since {D} {moment} {left_since} {old} {P = P} now same left =
    subst (λ (d : D). LeavesOnly moment left_since old d P) (sym same)
    (started (λ c since. left c (now c since)))
