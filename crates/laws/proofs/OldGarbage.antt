-- Old garbage goes. Take a reference that isn't reachable in a cut, and let the good references be
-- those that don't lead there. Then what a node has kept through the sweep of a cycle that began
-- later is good, so it isn't this one.
use Rattle.std.proofs.Common.{◌≡◌, ℕ, ◌<◌, ◌≤◌, false, Bool, List, [], ◌∷◌, length, get_or, Option, None, Some, slice_get, Result, Ok, sym, ap, ◌∙◌, subst, ⊎_elim, arith, le_refl}
use Rattle.std.proofs.lemmas.Bool.{cases_lt, cond_both}
use Rattle.std.proofs.lemmas.List.{get_or_past}
use Rattle.std.proofs.lemmas.Option.{slice_get-get_or}
use Rattle.std.proofs.Math.Path.{fun_ext}
use Rattle.ids.specs.Limits.{Shaped, IsShape}
use Rattle.ids.specs.declared.names.Ref.{Ref}
use Rattle.msg.specs.declared.body.Body.TheVariants as body
use Rattle.model.specs.declared.event.Answer.{Answer}
use Rattle.model.specs.declared.event.Letter.{Letter}
use Rattle.model.specs.declared.step.Step.{Step}
use Rattle.model.specs.declared.step.Step.TheVariants as step
use Rattle.model.specs.declared.step.Outcome.{Outcome}
use Rattle.ids.specs.declared.refusal.Refusal.{Refusal}
use Rattle.model.specs.State.{Occupied, NodeState, node_at, sent_to, slot_at}
use Rattle.model.specs.Heaps.{no_letter}
use Rattle.model.specs.References.{IfAny}
use Rattle.model.specs.World.{World, new_world, happens, outcome_of, run, take_step}
use Rattle.model.specs.Cuts.{Cut, cut, IsLive, Reachable, in_register, in_letter, in_message, in_place, PlainStep, acts, delivers}
use Rattle.laws.specs.Statements.{OfEveryRun, GarbageGoes, OldGarbageGoes, Leads, is_it, over_place, IsLeftAlone, LeavesAlone, IfDone, EachDone}
use Rattle.laws.proofs.StepFacts.{Delivery, act-ok, Receipt, repeated, next, receipt-cases, Happening, nothing, acted, delivered, saved, restarted, happening}
use Rattle.laws.proofs.Onward.{Compares, Behind, new-behind, behind-changed, behind-saved, behind-restarted}
use Rattle.laws.proofs.Cuts.{HasEvent, RunOf, rests, steps_on, plain-run, cut-before, current-chosen, kept-current}
use Rattle.laws.proofs.Base.{at-new}
use Rattle.laws.proofs.Invariant.{phases_of, cycle_of, Tidy, BodyFits, Inv}
use Rattle.laws.proofs.Inner.{occupied-inside}
use Rattle.laws.proofs.Acting.{latest}
use Rattle.laws.proofs.Dressing.{option-holds}
use Rattle.laws.proofs.New.{new-unsent}
use Rattle.laws.proofs.Live.{Whole, run-whole, all-whole, new-whole, all-inv}
use Rattle.laws.proofs.Past.{PastAt, occupied-past, Ages, ages-same, ages-through, ages-own, ages-taken}
use Rattle.laws.proofs.GoodHeaps.{own_reference}
use Rattle.laws.proofs.Good.{GoodPart}
use Rattle.laws.proofs.GoodCuts.{GoodCut, BringsGood, plain-good}

-- ---- a saved state is no later than the current one

abbrev Older : NodeState → NodeState → Type 0
Older s t = Ages s.local t.local

older : Compares Older
older = record {
  same = λ s. ages-same s.local;
  both = λ s t u a b. ages-through a b;
}

received-older : (s : NodeState) (m : Delivery) (t : NodeState) (a : Answer) → Receipt s m t a
    → Older s t
received-older s m t a (repeated same says) =
    subst (Older s) (sym same) (ages-same s.local)
received-older s m t a (next turn may found) =
    subst (Older s) (sym found.state)
    (ages-taken s.local m.from m.number m.message.stamp m.message.body)

older-happening : {s : Step} (w v : World) → Happening w s v
    → ((i : ℕ) → Tidy (node_at w.current i).local) → Behind Older w → Behind Older v
older-happening w v nothing tidy h = h
older-happening w v (acted i e t a is x) tidy h =
    let s : NodeState = node_at w.current i in
    behind-changed older w i t h
    (subst (Older s) (sym (act-ok s e t a x.answered).state)
    (ages-own s.local _ e x.own (tidy i).free))
older-happening w v (delivered m t a x) tidy h =
    let s : NodeState = node_at w.current m.to in
    behind-changed older w m.to t h
    (received-older s m t a (receipt-cases s m t a x.answered))
older-happening w v (saved i within) tidy h = behind-saved older w i h
older-happening w v (restarted i is within) tidy h = behind-restarted older w i h

older-run : (w : World) (steps : List Step)
    → ((some : List Step) (i : ℕ) → Tidy (node_at (run w some).current i).local)
    → Behind Older w → Behind Older (run w steps)
older-run w [] tidy h = h
older-run w (s ∷ ss) tidy h =
    older-run (happens w s) ss (λ some. tidy (s ∷ some))
    (older-happening w (happens w s) (happening w s) (tidy []) h)

all-older : (shape : Shaped) → IsShape shape → (steps : List Step)
    → Behind Older (run (new_world shape) steps)
all-older shape limits steps =
    older-run (new_world shape) steps
    (λ some. (all-inv shape limits some (λ _. false)).tidy)
    (new-behind older shape)

-- ---- runs keep what is good

pub run-good : {shape : Shaped} {G : Ref → Type 0} {since : ℕ} {c d : Cut} → IsShape shape
    → RunOf (BringsGood G) c d → Whole shape c → GoodCut G since c → GoodCut G since d
run-good {G = G} {since = since} limits (rests same) whole good =
    subst (λ (z : Cut). GoodCut G since z) (sym (fun_ext same)) good
run-good limits (steps_on before s has) whole good =
    plain-good (run-whole limits (plain-run before) whole).inv s has
    (run-good limits before whole good)

-- ---- every cut is good if every reference is

abbrev pub Anything : Ref → Type 0
Anything r = Unit {0}

new-good : (shape : Shaped) (choice : ℕ → Bool) → GoodCut Anything 0 (cut (new_world shape) choice)
new-good shape choice = record {
  part = λ i. at-new shape choice i (λ s. GoodPart Anything 0 s.local) (λ z own. record {
    heap = record {
      roots = record { registers = λ k. any _; letters = λ k. tt };
      places = λ k g o there. absurd cc;
      marks = λ k g o there more. tt;
      grey = λ k g o never. absurd never;
      kept = λ k g o there. absurd cc;
    };
    asked = λ _ r _. tt;
    phase = le_refl 0;
  });
  messages = λ from to place x flight.
      absurd
      (at-new shape choice from (λ s. slice_get (sent_to s to) place ≡ Some x → ⊥)
      (λ z own. new-unsent z own to place x) flight.there);
  new = λ r _. tt;
}
  where
    any : (v : Option Ref) → IfAny Anything v
    any None = tt
    any (Some r) = tt

pub all-good : (shape : Shaped) → IsShape shape → (steps : List Step) (choice : ℕ → Bool)
    → GoodCut Anything 0 (cut (run (new_world shape) steps) choice)
all-good shape limits steps choice =
    let before =
    cut-before (BringsGood Anything) shape [] steps choice
    (each-brings (new_world shape) steps) in
    run-good limits before.1 (new-whole shape limits before.0) (new-good shape before.0)
  where
    if-brings : (s : Step) (r : Result Outcome Refusal) → IfDone (BringsGood Anything) s r
    if-brings (step.Act i e) (Ok o) = λ r is. tt
    if-brings s r = tt

    each-brings : (w : World) (ss : List Step) → EachDone (BringsGood Anything) w ss
    each-brings w [] = tt
    each-brings w (s ∷ ss) =
        (if-brings s (outcome_of (take_step w s)), each-brings (happens w s) ss)

-- ---- what is good from some cut on: what doesn't lead to a reference that isn't reachable there

abbrev IsApart : Cut → Ref → Ref → Type 0
IsApart c r q = Leads c r q → ⊥

-- what a reachable reference leads to is reachable
led-reached : {c : Cut} {r : Ref} (q : Ref) → Leads c r q → Reachable c q → Reachable c r
led-reached q is_it reached = reached
led-reached q (over_place owner o k there place leads) reached =
    led-reached _ leads (in_place owner o k reached there place)

-- a reference that was given out there
abbrev PastIn : Cut → Ref → Type 0
PastIn c r = PastAt (c r.node).local.heap r.slot r.generation

-- what leads to such a reference was given out there too
leads-past : {c : Cut} {r : Ref} (q : Ref) → Leads c r q → PastIn c r → PastIn c q
leads-past q is_it past = past
leads-past {c = c} q (over_place owner o k there place leads) past =
    occupied-past (c owner.node).local.heap owner.slot owner.generation o there

-- a cut in which node 0 hasn't begun the cycle
module _ {shape : Shaped} {c : Cut} (cycle : ℕ) (r : Ref) (inv : Inv shape c)
    (kept : GoodCut Anything 0 c) (before : cycle_of c 0 < cycle) (past : PastIn c r)
    (unreachable : Reachable c r → ⊥) where
  -- and no other node has joined it
  below : (i : ℕ) → cycle_of c i < cycle
  below i = ⊎_elim {C = cycle_of c i < cycle}
      (λ (inside : i < shape.nodes). (let w = latest inv i inside in omega (arith, w, before)))
      (λ (past : shape.nodes ≤ i).
      subst (λ (s : NodeState). s.local.phases.cycle < cycle) (sym (inv.base.none i past))
      (omega (arith, before)))
      (cases_lt i shape.nodes)

  letter-reached : (i k : ℕ) (q : Ref)
      → (get_or (c i).local.heap.letters k no_letter).reference ≡ Some q → Reachable c q
  letter-reached i k q e =
      let ls : List Letter = (c i).local.heap.letters in
      ⊎_elim {C = Reachable c q}
      (λ (inside : k < length ls).
      in_letter i k (get_or ls k no_letter) (slice_get-get_or ls k no_letter inside) e)
      (λ (beyond : length ls ≤ k).
      absurd (let none : None ≡ Some q =
      sym (ap (λ (l : Letter). l.reference) (get_or_past ls k no_letter beyond)) ∙ e in cc))
      (cases_lt k (length ls))

  reached-apart : (q : Ref) → Reachable c q → IsApart c r q
  reached-apart q reached leads = unreachable (led-reached q leads reached)

  part-here : (i : ℕ) → GoodPart (IsApart c r) cycle (c i).local
  part-here i = record {
    heap = record {
      roots = record {
        registers = λ k.
            option-holds (IsApart c r) _ (λ q e. reached-apart q (in_register i k e));
        letters = λ k.
            option-holds (IsApart c r) _ (λ q e. reached-apart q (letter-reached i k q e));
      };
      -- an object leads to all that its places lead to
      places = λ k g o there is j.
          let own : (c i).local.own ≡ i = inv.base.own i (occupied-inside i k g o inv.base there) in
          let here : slot_at (c (c i).local.own).local.heap k ≡ Occupied g o =
          ap (λ (z : ℕ). slot_at (c z).local.heap k) own ∙ there in
          option-holds (IsApart c r) (get_or o.places j None) (λ q e leads.
          is (over_place (own_reference (c i).local.own k g) o j here e leads));
      marks = λ k g o there more.
          absurd (let w = (inv.tidy i).marks k g o there in let v = below i in
          omega (arith, w, v, more));
      grey = (kept.part i).heap.grey;
      kept = (kept.part i).heap.kept;
    };
    asked = λ there. absurd (let v = below i in omega (arith, v, there));
    phase = (kept.part i).phase;
  }

  good-here : GoodCut (IsApart c r) cycle c
  good-here = record {
    part = part-here;
    -- Marks are of node 0's cycle
    messages = λ from to place x flight. record {
      carries = λ q a. reached-apart q (in_message from to place x flight a);
      asks = λ q e there.
          absurd (let fits : BodyFits shape.nodes (phases_of c) from to x.stamp (body.Mark q) =
          subst (λ z. BodyFits shape.nodes (phases_of c) from to x.stamp z) e
          (inv.messages.fits from to place x flight) in
          let w = fits.2 in omega (arith, w, there, before));
    };
    new = λ q never leads. never (leads-past q leads past);
  }

-- ---- the theorem

-- what a node has kept through the sweep of a cycle is good from before the cycle
swept-apart : {c d : Cut} {cycle : ℕ} (r : Ref) → (d r.node).local.own ≡ r.node
    → GoodCut (IsApart c r) cycle d → cycle ≤ (d r.node).local.phases.swept → IsLive d r → ⊥
swept-apart {c = c} {d = d} {cycle = cycle} r own good done live =
    let part = (good.part r.node).heap in
    let mark : (d r.node).local.phases.swept ≤ live.object.mark =
    part.kept r.slot r.generation live.object live.there in
    subst (λ (z : ℕ). IsApart c r (own_reference z r.slot r.generation)) own
    (part.marks r.slot r.generation live.object live.there (omega (arith, mark, done))) is_it

-- no event of a run resolves what leads to the reference in this cut
run-apart : (w : World) (r : Ref) (choice : ℕ → Bool) {c d : Cut} → RunOf (LeavesAlone w r) c d
    → RunOf (BringsGood (IsApart (cut w choice) r)) c d
run-apart w r choice (rests same) = rests same
run-apart w r choice (steps_on before s has) =
    steps_on (run-apart w r choice before) s (by s has)
  where
    by : {c d : Cut} (s : PlainStep c d) → HasEvent (LeavesAlone w r) s
        → HasEvent (BringsGood (IsApart (cut w choice) r)) s
    by (acts i e t a own answered becomes) alone = λ q is. alone q is choice
    by (delivers from to x t a flight answered becomes) alone = tt

-- what was given out in an earlier cut, and was reachable in none, is gone
gone-since : (shape : Shaped) (limits : IsShape shape) (earlier later : List Step)
    (choice : ℕ → Bool) (cycle : ℕ) (r : Ref)
    → (node_at (run (new_world shape) earlier).current 0).local.phases.cycle < cycle
    → ((some : ℕ → Bool) → Reachable (cut (run (new_world shape) earlier) some) r → ⊥)
    → (alone : IsLeftAlone (run (new_world shape) earlier) r later)
    → PastIn
    (cut (run (new_world shape) earlier)
    (cut-before (LeavesAlone (run (new_world shape) earlier) r) shape earlier later choice alone).0)
    r
    → cycle ≤ (cut (run (run (new_world shape) earlier) later) choice r.node).local.phases.swept
    → IsLive (cut (run (run (new_world shape) earlier) later) choice) r → ⊥
gone-since shape limits earlier later choice cycle r before unreachable alone past done live =
    let w : World = run (new_world shape) earlier in
    let d : Cut = cut (run w later) choice in
    let extends = cut-before (LeavesAlone w r) shape earlier later choice alone in
    let c : Cut = cut w extends.0 in
    let behind : Behind Older w = all-older shape limits earlier in
    let first : cycle_of c 0 ≤ (node_at w.current 0).local.phases.cycle =
    cond_both (extends.0 0) (node_at w.saved 0) (node_at w.current 0)
    (λ z. z.local.phases.cycle ≤ (node_at w.current 0).local.phases.cycle)
    (λ _. (behind 0).cycle) (λ _. le_refl _) in
    let whole : Whole shape c = all-whole shape limits earlier extends.0 in
    let base = (run-whole limits (plain-run extends.1) whole).inv.base in
    let own : (d r.node).local.own ≡ r.node =
    base.own r.node (occupied-inside r.node r.slot r.generation live.object base live.there) in
    let good : GoodCut (IsApart c r) cycle d =
    run-good limits (run-apart w r extends.0 extends.1) whole
    (good-here cycle r whole.inv
    (all-good shape limits earlier extends.0) (omega (arith, first, before)) past
    (unreachable extends.0)) in
    swept-apart r own good done live

pub old-garbage-goes : OfEveryRun OldGarbageGoes
old-garbage-goes shape limits earlier later choice cycle r before old alone done live =
    let w : World = run (new_world shape) earlier in
    let extends = cut-before (LeavesAlone w r) shape earlier later choice alone in
    let since : Older (node_at w.saved r.node) (cut w extends.0 r.node) =
    cond_both (extends.0 r.node) (node_at w.saved r.node) (node_at w.current r.node)
    (Older (node_at w.saved r.node)) (λ _. ages-same _)
    (λ _. all-older shape limits earlier r.node) in
    gone-since shape limits earlier later choice cycle r before old.unreachable alone
    (since.past r.slot r.generation
    (occupied-past (node_at w.saved r.node).local.heap r.slot r.generation old.object old.saved))
    done live

pub garbage-goes : OfEveryRun GarbageGoes
garbage-goes shape limits earlier later choice cycle r before dead alone stays chosen done live =
    let w : World = run (new_world shape) earlier in
    let extends = cut-before (LeavesAlone w r) shape earlier later choice alone in
    let here : cut w extends.0 r.node ≡ node_at w.current r.node =
    current-chosen w extends.0 r.node
    (kept-current (LeavesAlone w r) shape earlier later choice alone r.node stays chosen) in
    gone-since shape limits earlier later choice cycle r before dead.unreachable alone
    (subst (λ (s : NodeState). PastAt s.local.heap r.slot r.generation) (sym here)
    (occupied-past (node_at w.current r.node).local.heap r.slot r.generation dead.object
    dead.current))
    done live
