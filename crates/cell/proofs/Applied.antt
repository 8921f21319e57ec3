-- The theorems on runs, applied to worlds that a run reaches, except perhaps for acknowledged
-- messages.
use Rattle.std.proofs.Common.{◌≡◌, ◌≤◌, ◌<◌, ℕ, pos, Bool, List, Result, Ok, Err, length, sym, ap, ◌∙◌, subst}
use Rattle.ids.specs.declared.names.Ref.{Ref}
use Rattle.ids.specs.declared.refusal.Refusal.{Refusal}
use Rattle.model.specs.declared.event.Answer.{Answer}
use Rattle.model.specs.declared.event.Event.TheVariants as event
use Rattle.model.specs.declared.step.Step.{Step}
use Rattle.model.specs.State.{LocalState, NodeState, node_at, slot_at}
use Rattle.model.specs.Shading.{is_open}
use Rattle.model.specs.Steps.{act}
use Rattle.model.specs.World.{World, acknowledged, new_world, run}
use Rattle.model.specs.Cuts.{Cut, cut}
use Rattle.model.specs.Agreement.{balance, flow, is_counted, number_of, total, EndsAlike, OldGarbage}
use Rattle.laws.proofs.KeepsSent.{run-count}
use Rattle.laws.proofs.Live as laws
use Rattle.laws.proofs.Net.{heard-onward}
use Rattle.laws.proofs.OldGarbage as garbage
use Rattle.laws.proofs.Onward.{run-behind}
use Rattle.laws.proofs.Resolves as resolves
use Rattle.wire.proofs.NewWires.{new-width}
use Rattle.cell.specs.Reached.{AreAlike, IsReached}
use Rattle.laws.specs.Statements.{BalancesAddUp, Garbage, GarbageGoes, GetsBack, IsLeftAlone, NodesAgree, OldGarbageGoes, ReachIsLive, ReachResolves}
use Rattle.cell.specs.Theorems.{OfEveryReached}
use Rattle.cell.proofs.Alike.{AnsweredAlike, act-like}
use Rattle.cell.proofs.AlikeCuts.{CutsAlike, cuts-alike, cuts-sym, ends-too, leads-too, live-too, reached-too}
use Rattle.cell.proofs.AlikeRuns.{done-like, run-like}
use Rattle.cell.proofs.Reaches.{end_of, heard-end}

pub cuts-end : (w : World) (choice : ℕ → Bool) (r : IsReached w)
    → CutsAlike (cut w choice) (cut (end_of r) choice)
cuts-end w choice r = cuts-alike w (end_of r) choice r.by (heard-end r)

pub node-count : (w : World) (r : IsReached w) → length w.current ≡ r.shape.nodes
node-count w r =
    r.by.current.width ∙ run-count (new_world r.shape) r.steps ∙ new-width r.shape

pub reach-is-live : OfEveryReached ReachIsLive
reach-is-live w reached choice r reach =
    let cuts = cuts-end w choice reached in
    live-too r (cuts-sym cuts)
    (laws.reach-is-live reached.shape reached.limits reached.steps choice r
    (reached-too cuts reach))

-- both sides of the sum
balances-same : {c d : Cut} (n m : ℕ) → n ≡ m → CutsAlike c d
    → total m (λ i. balance (d 0).local.phases.cycle (d i).local)
    ≡ flow m (is_counted (d 0).local.phases.cycle) d
    → total n (λ i. balance (c 0).local.phases.cycle (c i).local)
    ≡ flow n (is_counted (c 0).local.phases.cycle) c
balances-same n m count h same =
    (λ k. total (count k) (λ i. balance (h.locals 0 k).phases.cycle (h.locals i k)))
    ∙ same
    ∙ sym (λ k.
    total (count k) (λ from. total (count k) (λ to.
    pos (number_of (is_counted (h.locals 0 k).phases.cycle) (h.flights from to k)))))

pub balances-add-up : OfEveryReached BalancesAddUp
balances-add-up w reached choice =
    balances-same (length w.current) (length (end_of reached).current) reached.by.current.width
    (cuts-end w choice reached)
    (laws.balances-add-up reached.shape reached.limits reached.steps choice)

pub nodes-agree : OfEveryReached NodesAgree
nodes-agree w reached choice i cycle inside ended =
    let cuts = cuts-end w choice reached in
    let count = reached.by.current.width in
    ends-too (length w.current) cycle (cuts-sym cuts)
    (subst (λ (n : ℕ). EndsAlike n cycle (cut (end_of reached) choice)) (sym count)
    (laws.nodes-agree reached.shape reached.limits reached.steps choice i cycle
    (subst (λ (n : ℕ). i < n) count inside)
    (subst (λ (p : LocalState). cycle ≤ p.phases.ended) (cuts.locals i) ended)))

old-too : (w v : World) (r : Ref) → AreAlike w v
    → ((choice : ℕ → Bool) → CutsAlike (cut w choice) (cut v choice)) → OldGarbage w r
    → OldGarbage v r
old-too w v r h cuts old = record {
  object = old.object;
  saved = sym (ap (λ (p : LocalState). slot_at p.heap r.slot) (h.saved.each r.node).local)
      ∙ old.saved;
  unreachable = λ choice reach.
      old.unreachable choice (reached-too (cuts-sym (cuts choice)) reach);
}

-- no later step resolves what leads to the reference
alone-too : (w : World) (reached : IsReached w) (r : Ref) (later : List Step)
    → IsLeftAlone w r later → IsLeftAlone (end_of reached) r later
alone-too w reached r later alone =
    done-like _ _
    (λ e has q is choice leads. has q is choice
    (leads-too (cuts-sym (cuts-end w choice reached)) leads))
    w (end_of reached) later reached.by (heard-end reached) alone

pub old-garbage-goes : OfEveryReached OldGarbageGoes
old-garbage-goes w reached later choice cycle r before old alone swept live =
    let end : World = end_of reached in
    let heard = heard-end reached in
    let cuts : CutsAlike (cut (run w later) choice) (cut (run end later) choice) =
    cuts-alike (run w later) (run end later) choice (run-like w end later reached.by heard)
    (run-behind heard-onward end later heard) in
    garbage.old-garbage-goes reached.shape reached.limits reached.steps later choice cycle r
    (subst (λ (p : LocalState). p.phases.cycle < cycle) (reached.by.current.each 0).local before)
    (old-too w end r reached.by (λ c. cuts-end w c reached) old)
    (alone-too w reached r later alone)
    (subst (λ (p : LocalState). cycle ≤ p.phases.swept) (cuts.locals r.node) swept)
    (live-too r cuts live)

garbage-too : (w v : World) (r : Ref) → AreAlike w v
    → ((choice : ℕ → Bool) → CutsAlike (cut w choice) (cut v choice)) → Garbage w r
    → Garbage v r
garbage-too w v r h cuts dead = record {
  object = dead.object;
  current = sym (ap (λ (p : LocalState). slot_at p.heap r.slot) (h.current.each r.node).local)
      ∙ dead.current;
  unreachable = λ choice reach.
      dead.unreachable choice (reached-too (cuts-sym (cuts choice)) reach);
}

pub garbage-goes : OfEveryReached GarbageGoes
garbage-goes w reached later choice cycle r before dead alone stays chosen swept live =
    let end : World = end_of reached in
    let heard = heard-end reached in
    let cuts : CutsAlike (cut (run w later) choice) (cut (run end later) choice) =
    cuts-alike (run w later) (run end later) choice (run-like w end later reached.by heard)
    (run-behind heard-onward end later heard) in
    garbage.garbage-goes reached.shape reached.limits reached.steps later choice cycle r
    (subst (λ (p : LocalState). p.phases.cycle < cycle) (reached.by.current.each 0).local before)
    (garbage-too w end r reached.by (λ c. cuts-end w c reached) dead)
    (alone-too w reached r later alone) stays chosen
    (subst (λ (p : LocalState). cycle ≤ p.phases.swept) (cuts.locals r.node) swept)
    (live-too r cuts live)

-- what one of two alike nodes is told, the other is told too
got-back-too : (acked : ℕ → ℕ) (p q : LocalState) (r u : Result (NodeState × Answer) Refusal)
    → p ≡ q → AnsweredAlike acked r u → GetsBack q u → GetsBack p r
got-back-too acked p q (Ok x) (Ok y) same like got = like.1 ∙ got
got-back-too acked p q (Ok x) (Err e) same like got = absurd like
got-back-too acked p q (Err e) (Ok y) same like got = absurd like
got-back-too acked p q (Err e) (Err f) same like got =
    (like ∙ got.0, ap (λ (z : LocalState). is_open z) same ∙ got.1)

pub reach-resolves : OfEveryReached ReachResolves
reach-resolves w reached choice i register r current reach here few =
    let end : World = end_of reached in
    let like = reached.by.current.each i in
    got-back-too (acknowledged end i) (node_at w.current i).local (node_at end.current i).local
    (act (node_at w.current i) (event.Resolve register r))
    (act (node_at end.current i) (event.Resolve register r))
    like.local
    (act-like (acknowledged end i) (node_at w.current i) (node_at end.current i)
    (event.Resolve register r) like)
    (resolves.reach-resolves reached.shape reached.limits reached.steps choice i register r current
    (reached-too (cuts-end w choice reached) reach) here
    (subst (λ (p : LocalState). register < length p.heap.registers) like.local few))
