-- Cells at one moment: what holds of the world of that moment holds of their nodes.
use Rattle.std.proofs.Common.{◌≡◌, ⊎_elim, ◌<◌, ◌≤◌, ◌++◌, ℕ, false, List, refl, sym, ap, ◌∙◌, subst, length}
use Rattle.ids.specs.declared.names.Ref.{Ref}
use Rattle.model.specs.declared.step.Step.{Step}
use Rattle.model.specs.State.{LocalState, NodeState, Object, Occupied, node_at, register_at, slot_at}
use Rattle.model.specs.World.{World, run}
use Rattle.model.specs.Cuts.{IsLive, cut, in_register}
use Rattle.model.proofs.Runs.{run-append}
use Rattle.laws.proofs.KeepsSent.{run-count}
use Rattle.disk.specs.Areas.{Areas}
use Rattle.wire.specs.Plays.{LeadsTo}
use Rattle.wire.specs.Readers.{known, seat_node}
use Rattle.wire.specs.Views.{Pair, pair_at}
use Rattle.cell.specs.Cells.{CellView}
use Rattle.cell.specs.Closing.{CellsAgree, CellsHaveNamed, IsCellOf, IsOver}
use Rattle.cell.specs.Garbage.{CellsFreeGarbage, HasNone, HasSwept, WasGarbage}
use Rattle.cell.proofs.Applied.{garbage-goes, nodes-agree, old-garbage-goes, reach-is-live}
use Rattle.cell.proofs.Reaches.{stays-reached}

module _ {D : Type 0} (may_leave : D → Areas → Type 0) where
  -- the pair of the cell's node, at the end of a list that leads to what its seat knows
  pub pair-there : (opening : World) (log : List Step) (c : CellView D)
      → IsCellOf may_leave opening c → LeadsTo (known c.seat) log
      → pair_at (run opening log) (seat_node c.seat) ≡ (known c.seat).pair
  pair-there opening log c of leads =
      (λ i. pair_at (run (sym of.began i) log) (c.seat.sits.me_is i)) ∙ leads.pair

  -- the node has its local state there
  pub local-there : (opening : World) (log : List Step) (c : CellView D)
      → IsCellOf may_leave opening c → LeadsTo (known c.seat) log
      → (node_at (run opening log).current (seat_node c.seat)).local ≡ c.node.core.local
  local-there opening log c of leads =
      ap (λ (p : Pair). p.current.local) (pair-there opening log c of leads)
      ∙ sym of.sound.stands.shows.local

  inside-there : (opening : World) (log : List Step) (c : CellView D)
      → IsCellOf may_leave opening c → seat_node c.seat < length (run opening log).current
  inside-there opening log c of =
      subst (λ (n : ℕ). seat_node c.seat < n) (sym (run-count opening log)) of.inside

  pub cells-agree : CellsAgree may_leave
  cells-agree opening cells i j cycle c d reached each once here there ended =
      let w : World = run opening once.log in
      let first = each i c here in
      let second = each j d there in
      let mine = local-there opening once.log c first (once.each i c here) in
      let theirs = local-there opening once.log d second (once.each j d there) in
      let all = nodes-agree w (stays-reached opening once.log reached) (λ _. false)
      (seat_node c.seat) cycle (inside-there opening once.log c first)
      (subst (λ (p : LocalState). cycle ≤ p.phases.ended) (sym mine) ended) in
      let inside = inside-there opening once.log d second in
      subst (IsOver cycle) theirs
      (record {
        joined = all.terminated.joined (seat_node d.seat) inside;
        calm = all.terminated.calm (seat_node d.seat) inside;
        later = all.later (seat_node d.seat) inside;
      })

  pub cells-have-named : CellsHaveNamed may_leave
  cells-have-named opening cells i j register r c d reached each once here there named its =
      let w : World = run opening once.log in
      let mine = local-there opening once.log c (each i c here) (once.each i c here) in
      let theirs = local-there opening once.log d (each j d there) (once.each j d there) in
      let live = reach-is-live w (stays-reached opening once.log reached) (λ _. false) r
      (in_register (seat_node c.seat) register
      (ap (λ (p : LocalState). register_at p.heap register) mine ∙ named)) in (
        live.object,
        ap (λ (p : LocalState). slot_at p.heap r.slot)
            (sym theirs ∙ ap (λ (k : ℕ). (node_at w.current k).local) its)
            ∙ live.there,
      )

  -- the cell's node doesn't have what was garbage
  has-freed : {opening : World} {before since : List Step} {cycle : ℕ} {r : Ref} {c : CellView D}
      → WasGarbage opening before since cycle r
      → HasSwept may_leave opening before since cycle r c → HasNone c.node.core r
  has-freed {opening} {before} {since} {cycle} {r} {c} was has =
      let w : World = run opening before in
      let there : (node_at (run w since).current r.node).local ≡ c.node.core.local =
      ap (λ (v : World). (node_at v.current r.node).local) (sym (run-append opening before since))
      ∙ ap (λ (i : ℕ). (node_at (run opening (before ++ since)).current i).local) (sym has.owns)
      ∙ local-there opening (before ++ since) c has.of has.leads in
      let reached = stays-reached opening before was.reached in
      let done = subst (λ (p : LocalState). cycle ≤ p.phases.swept) (sym there) has.swept in
      λ o held.
      let live : IsLive (cut (run w since) (λ _. false)) r = record {
        object = o;
        there = ap (λ (p : LocalState). slot_at p.heap r.slot) there ∙ held;
      } in
      ⊎_elim
      (λ old. old-garbage-goes w reached since (λ _. false) cycle r was.earlier old was.alone done
      live)
      (λ dead. garbage-goes w reached since (λ _. false) cycle r was.earlier dead.0 was.alone
      dead.1 refl done live)
      was.garbage

  pub cells-free-garbage : CellsFreeGarbage may_leave
  cells-free-garbage opening before since cycle r c was has =
      let none : HasNone c.node.core r = has-freed was has in (
        none,
        λ saved. subst (λ (p : LocalState). (o : Object) → slot_at p.heap r.slot
            ≡ Occupied r.generation o → ⊥)
            (has.of.sound.stands.shows.local
            ∙ ap (λ (s : NodeState). s.local) (has.of.sound.unsaved saved)
            ∙ sym has.of.sound.was.shows.local)
            none,
      )
