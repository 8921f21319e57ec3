-- Outcomes of errands, one after the other, and of steps that can't fail after an errand.
use Rattle.std.proofs.Common.{◌≡◌, ℕ, ◌<◌, ◌≤◌, ◌&&◌, Bool, true, false, List, [], map, Result, Ok, Err, ap, refl, sym, ◌∙◌, subst, le-ltb, lt-ltb}
use Rattle.std.specs.Prelude.{nat_lt}
use Rattle.std.proofs.lemmas.Bool.{cond-true, cond-false}
use Rattle.ids.specs.declared.names.Ref.{Ref}
use Rattle.ids.specs.declared.refusal.Refusal.{Refusal}
use Rattle.msg.specs.declared.body.Message.{Message}
use Rattle.model.specs.Effects.{Work, at_rest, then}
use Rattle.model.specs.Shading.{join, joined, see_to}
use Rattle.model.specs.State.{LocalState}
use Rattle.model.specs.Steps.{fits}
use Rattle.model.specs.View.{Link, NodeView, append_to, used}
use Rattle.model.proofs.Appending.{append_to-append, fits-append}
use Rattle.model.proofs.Leaving.{Stands, stands-through, stands-walks}
use Rattle.model.proofs.Shading.{see_to-none}
use Rattle.model.proofs.Walk.{joined-walks}
use Rattle.remote_marks.specs.Asked.{IsRefused}
use Rattle.node.specs.Errands.{IsRun, Runs, errand, errand_here}
use Rattle.node.specs.Invariant.{links_of}
use Rattle.node.specs.declared.node_core.errands.Extra.{Extra}
use Rattle.node.specs.declared.node_core.errands.Extra.TheVariants as extra
use Rattle.node.proofs.Events.{after_step}

pub run-both : (n : NodeView) (w : Work) (f : LocalState → Work) {new : NodeView}
    → fits (map used n.links) w.sends ≡ true
    → IsRun (f w.local) (after_step n w.local w.sends) new → IsRun (then w f) n new
run-both n w f first second = record {
  fits =
      fits-append n.links w.sends (f w.local).sends
      ∙ ap (λ (b : Bool). b && fits (map used (append_to n.links w.sends)) (f w.local).sends) first
      ∙ second.fits;
  now =
      second.now
      ∙ ap (λ (ls : List Link). record n { local = (f w.local).local; links = ls })
      (sym (append_to-append n.links w.sends (f w.local).sends));
}

-- a step of the node alone
pub run-then : {w : Work} {old mid new : NodeView} (f : LocalState → LocalState) → IsRun w old mid
    → new ≡ record mid { local = f mid.local }
    → IsRun (record { local = f w.local; sends = w.sends }) old new
run-then f run step = record {
  fits = run.fits;
  now = step ∙ ap (λ (m : NodeView). record m { local = f m.local }) run.now;
}

pub runs-done : {w : Work} {old new : NodeView} → IsRun w old new → Runs (Ok tt) w old new
runs-done run = record { done = run; refused = tt; unchanged = tt }

-- the same work, by another name
pub runs-same : {r : Result (Unit {0}) Refusal} {w v : Work} {old new : NodeView} → v ≡ w
    → Runs r w old new → Runs r v old new
runs-same {r = r} {old = old} {new = new} same runs =
    subst (λ (x : Work). Runs r x old new) (sym same) runs

-- an errand that is refused, before steps that send nothing
pub runs-refused : {e : Refusal} {w v : Work} {old new : NodeView} → v.sends ≡ w.sends
    → Runs (Err e) w old new → Runs (Err e) v old new
runs-refused {e = e} {old = old} same runs = record {
  done = tt;
  refused = subst (λ (ms : List (ℕ × Message)). IsRefused (links_of old) ms e) (sym same)
      runs.refused;
  unchanged = runs.unchanged;
}

-- an errand, and then a step of the node alone
abbrev pub stepped : Work → (LocalState → LocalState) → Work
stepped w f = record { local = f w.local; sends = w.sends }

-- ---- the work of an errand

module _ (cycle : ℕ) (due : Bool) (rs : List Ref) (x : Extra) (p : LocalState) where
  pub errand-joins : p.phases.cycle < cycle
      → errand cycle due rs x p ≡ then (join p cycle) (errand_here due rs x)
  unfolding errand
  errand-joins later =
      ap (λ (w : Work). then w (errand_here due rs x))
      (cond-true (nat_lt p.phases.cycle cycle) (join p cycle) (at_rest p)
      (lt-ltb p.phases.cycle cycle later))

  pub errand-stays : cycle ≤ p.phases.cycle
      → errand cycle due rs x p ≡ errand_here due rs x p
  unfolding errand
  errand-stays reached =
      ap (λ (w : Work). then w (errand_here due rs x))
      (cond-false (nat_lt p.phases.cycle cycle) (join p cycle) (at_rest p)
      (le-ltb p.phases.cycle cycle reached))

  errand-stands : Stands p (errand cycle due rs x p).local
  unfolding errand errand_here see_to
  errand-stands =
      stands-through (joined-walks stands-walks.moves.collects p cycle)
      (record { shape = refl; own = refl; got = refl })

  pub errand-phases : (errand cycle due rs x p).local.phases ≡ (joined p cycle).local.phases
  unfolding errand errand_here see_to
  errand-phases = refl

-- an errand leaves the node's number, its shape and what it has received
pub run-stands : {n new : NodeView} (cycle : ℕ) (due : Bool) (rs : List Ref) (x : Extra)
    → IsRun (errand cycle due rs x n.local) n new → Stands n.local new.local
run-stands {n = n} cycle due rs x run =
    subst (λ (m : NodeView). Stands n.local m.local) (sym run.now)
    (errand-stands cycle due rs x n.local)

-- without references it is joining
pub errand-quiet : (cycle : ℕ) (p : LocalState)
    → (errand cycle false [] extra.Nothing p).local ≡ (joined p cycle).local
unfolding errand errand_here
errand-quiet cycle p =
    ap (λ (w : Work). w.local) (see_to-none false (joined p cycle).local)

module _ {n new : NodeView} (cycle : ℕ) where
  pub run-phases : (due : Bool) (rs : List Ref) (x : Extra)
      → IsRun (errand cycle due rs x n.local) n new
      → new.local.phases ≡ (joined n.local cycle).local.phases
  run-phases due rs x run =
      ap (λ (m : NodeView). m.local.phases) run.now ∙ errand-phases cycle due rs x n.local

  pub run-quiet : IsRun (errand cycle false [] extra.Nothing n.local) n new
      → new.local ≡ (joined n.local cycle).local
  run-quiet run = ap (λ (m : NodeView). m.local) run.now ∙ errand-quiet cycle n.local
