-- What only grows at nodes while callers work, save and carry frames.
use Rattle.std.proofs.Common.{◌≡◌, ◌≢◌, ℕ, ◌<◌, ◌≤◌, ◌==◌, true, false, Bool, List, [], ◌∷◌, length, length-append, Option, None, Some, Result, Ok, Err, ⊎_elim, refl, sym, ap, ◌∙◌, subst, arith, le_refl, le_trans}
use Rattle.std.specs.Global.{Vec}
use Rattle.std.specs.List.{AllByRecursion}
use Rattle.std.proofs.Math.ListN.{get_or-map}
use Rattle.std.proofs.lemmas.Bool.{both_ways, cases_eq, cond_both}
use Rattle.ids.specs.Limits.{Shaped, IsShape}
use Rattle.msg.specs.Frames.{Plain}
use Rattle.frames.specs.Grammar.{Fits, spelling}
use Rattle.ids.specs.declared.refusal.Refusal.TheVariants.{Memory}
use Rattle.model.specs.declared.event.Answer.{Answer}
use Rattle.model.specs.declared.step.Step.{Step}
use Rattle.model.specs.Cuts.{Among}
use Rattle.model.specs.State.{NodeState, no_node, node_at, sent_to}
use Rattle.model.specs.View.{all_kept, base_of, link_to, no_link}
use Rattle.model.specs.World.{World, happens, run}
use Rattle.model.proofs.Lookups.{at_set_if}
use Rattle.laws.specs.Fairness.{is_turns}
use Rattle.laws.proofs.KeepsSent.{sent-onward}
use Rattle.laws.proofs.Net.{heard-onward}
use Rattle.laws.proofs.Onward.{Onward}
use Rattle.laws.proofs.StepFacts.{Happening, nothing, acted, delivered, saved, restarted, happening}
use Rattle.c_values.specs.declared.fault.Fault.{Fault}
use Rattle.c_values.specs.declared.fault.Fault.TheVariants as fault
use Rattle.c_handles.specs.Batches.{BatchOr, batch_of}
use Rattle.c_handles.specs.Fairness.{IsWithin, IsWithinDeed, received_by, sent_by}
use Rattle.c_handles.specs.Images.{after_kept}
use Rattle.c_handles.specs.Logs.{logging}
use Rattle.c_handles.specs.Programs.{Act, Call, Choice, Deed, Does, DoesOn, Freed, Goes, IsOfSpace, Keep, Log, On, Owes, Release, Store, System, Take, TakeBatch, TakeImage, Track, Work, newest, place_of}
use Rattle.c_handles.specs.declared.lone.images.Counts.{Counts}
use Rattle.c_handles.specs.declared.lone.LoneNode.{LoneNode}
use Rattle.c_handles.proofs.Advances.{took-advances, works-advances}
use Rattle.c_handles.proofs.Carries.{kept-bases}
use Rattle.c_handles.proofs.Deeds.{does-stepped}
use Rattle.c_handles.proofs.Fairness.{Sits, after-filled, sits-on, call-filled, received-shown, said-turns, sent-shown}
use Rattle.c_handles.proofs.Says.{AreTurns}
use Rattle.c_handles.proofs.Systems.{newest-among}

-- ---- steps

-- no step of a turn goes back
step-onward : {R : NodeState → NodeState → Type 0} → Onward R → (w : World) (s : Step)
    → is_turns s ≡ true → (i : ℕ) → R (node_at w.current i) (node_at (happens w s).current i)
step-onward {R} f w s turns i = by (happens w s) (happening w s)
  where
    by : (v : World) → Happening w s v → R (node_at w.current i) (node_at v.current i)
    by v nothing = f.order.same _
    by v (acted k e t a is x) =
        at_set_if (λ z. R (node_at w.current i) z) w.current k i t no_node
        (λ here.
        subst (λ (j : ℕ). R (node_at w.current j) t) here
        (f.acts (node_at w.current k) e t a x.own x.answered)) (f.order.same _)
    by v (delivered m t a x) =
        at_set_if (λ z. R (node_at w.current i) z) w.current m.to i t no_node
        (λ here.
        subst (λ (j : ℕ). R (node_at w.current j) t) here
        (f.receives (node_at w.current m.to) m t a x.answered)) (f.order.same _)
    by v (saved k within) = f.order.same _
    by v (restarted k is within) = absurd (both_ways _ (ap is_turns is) turns)

turns-onward : {R : NodeState → NodeState → Type 0} → Onward R → (w : World) (later : List Step)
    → AreTurns w later → (i : ℕ) → R (node_at w.current i) (node_at (run w later).current i)
turns-onward f w [] are i = f.order.same _
turns-onward f w (s ∷ ss) are i =
    f.order.both _ _ _ (step-onward f w s are.0.0 i) (turns-onward f (happens w s) ss are.1 i)

-- ---- the base of a link

abbrev pub base_by : Option LoneNode → ℕ → ℕ
base_by (Some n) to = (link_to n.node.core to).base
base_by None to = 0

abbrev Bases : LoneNode → LoneNode → Type 0
Bases n m = (j : ℕ) → (link_to n.node.core j).base ≤ (link_to m.node.core j).base

same-node : (n m : LoneNode) → m.node ≡ n.node → Bases n m
same-node n m same j =
    subst (λ z. (link_to n.node.core j).base ≤ (link_to z.core j).base) (sym same) (le_refl _)

keep-bases : (o : Option (Vec Counts)) (same : Bool) (n : LoneNode)
    → Bases n (after_kept o same n)
keep-bases None same n j = le_refl _
keep-bases (Some counts) false n j = le_refl _
keep-bases (Some counts) true n j =
    (let e = kept-bases counts.items n.node j in omega (arith, e))

deed-bases : {shape : Shaped} {s t : System} {i : ℕ} → IsShape shape → (frames : List Plain)
    → i < shape.nodes → (d : Deed) (does : DoesOn i d s t) → IsWithinDeed d
    → ((bytes : List ℕ) (r : Result Answer Fault) → d ≡ Take bytes r → (f : Plain) → Fits f
    → bytes ≡ spelling f → Among f frames)
    → Bases does.old does.new
deed-bases limits frames inside (Act e r) does within of_space = absurd within
deed-bases limits frames inside (Take bytes r) does within of_space =
    (took-advances limits {frames = frames} inside (of_space bytes r refl) does.meets).bases
deed-bases limits frames inside (Work scans slots work r) does within of_space =
    (works-advances limits {frames = frames} inside scans slots work r does.meets).bases
deed-bases limits frames inside (TakeImage (Ok mark) old new before needed) does within of_space =
    same-node does.old does.new (ap (λ (x : LoneNode). x.node) does.meets.0.stays)
deed-bases limits frames inside (TakeImage (Err fault.ShortBuffer) old new before needed) does
    within of_space = same-node does.old does.new (ap (λ (x : LoneNode). x.node) does.meets.0)
deed-bases limits frames inside (TakeImage (Err (fault.Refused e)) old new before needed) does
    within of_space = same-node does.old does.new (ap (λ (x : LoneNode). x.node) does.meets.0)
deed-bases limits frames inside (TakeImage (Err e) old new before needed) does within of_space =
    absurd does.meets
deed-bases limits frames inside (TakeBatch r old new before needed) does within of_space =
    by (batch_of does.old) r does.meets
  where
    same : does.new ≡ does.old → Bases does.old does.new
    same e = same-node does.old does.new (ap (λ (x : LoneNode). x.node) e)

    by : (b : Option (List ℕ)) (q : Result ℕ Fault)
        → BatchOr b does.old does.new q old new before needed → Bases does.old does.new
    by (Some bytes) (Ok mark) h =
        same-node does.old does.new (ap (λ (x : LoneNode). x.node) h.0.stays)
    by (Some bytes) (Err fault.ShortBuffer) h = same h.0
    by (Some bytes) (Err (fault.Refused Memory)) h = same h.0
    by (Some bytes) (Err (fault.Refused e)) h = absurd h
    by (Some bytes) (Err e) h = absurd h
    by None (Ok mark) h = absurd (let never = h.0 in cc)
    by None (Err e) h = same h.1
deed-bases limits frames inside (Keep mark r) does within of_space =
    subst (Bases does.old) (sym does.meets.0)
    (keep-bases does.old.counts (mark == does.old.mark) does.old)
deed-bases limits frames inside (Release r) does within of_space =
    λ j.
    (let e = ap base_of (get_or-map all_kept does.old.node.core.links j no_link) in
    subst (λ (x : LoneNode). (link_to does.old.node.core j).base ≤ (link_to x.node.core j).base)
    (sym does.meets.0) (omega (arith, e)))
deed-bases limits frames inside (Log on r) does within of_space =
    subst (Bases does.old) (sym does.meets.0) (by on)
  where
    by : (b : Bool) → Bases does.old (logging b does.old)
    by true =
        cond_both does.old.logs does.old (record does.old { logs = true; log = None })
        (Bases does.old) (λ _ j. le_refl _) (λ _ j. le_refl _)
    by false = λ j. le_refl _
deed-bases limits frames inside (Track on r) does within of_space =
    same-node does.old does.new (ap (λ (x : LoneNode). x.node) does.meets.0)
deed-bases limits frames inside (Freed count old new) does within of_space =
    same-node does.old does.new (ap (λ (x : LoneNode). x.node) does.meets.stays)
deed-bases limits frames inside d does within of_space =
    same-node does.old does.new (ap (λ (x : LoneNode). x.node) does.meets.1)

-- ---- calls

abbrev BasesGrow : System → System → Type 0
BasesGrow s t = (i j : ℕ) → base_by (s.places i).handle j ≤ base_by (t.places i).handle j

-- what grows
pub record Grown (shape : Shaped) (s t : System) : Type 0 where
  pub got : (i j : ℕ) → i < shape.nodes
      → received_by (s.places i).handle j ≤ received_by (t.places i).handle j
  pub sent : (i j : ℕ) → i < shape.nodes
      → sent_by (s.places i).handle j ≤ sent_by (t.places i).handle j
  pub bases : BasesGrow s t

call-bases : {shape : Shaped} {s : System} (t : System) (c : Call) → Sits shape s → IsWithin c
    → place_of c < shape.nodes → Does c s t → Owes shape s c → BasesGrow s t
call-bases {shape} {s} t (On k d) h within inside does owes i j =
    ⊎_elim {C = base_by (s.places i).handle j ≤ base_by (t.places i).handle j}
    (λ (here : i ≡ k).
    let bases = deed-bases h.limits s.frames inside d does within
    (λ bytes r is. subst (λ (z : Deed). IsOfSpace s (On k z)) is owes.of_space) j in
    let was = ap (λ (o : Option LoneNode). base_by o j)
    (ap (λ (z : ℕ). (s.places z).handle) here ∙ does.held) in
    let is_now = ap (λ (o : Option LoneNode). base_by o j)
    (ap (λ (z : ℕ). (t.places z).handle) here ∙ ap (λ p. p.handle) does.becomes.here
    ∙ after-filled d does.new (s.places k)) in
    omega (arith, bases, was, is_now))
    (λ (other : i ≢ k).
    let same = ap (λ p. base_by p.handle j) (does.becomes.others i other) in
    omega (arith, same))
    (cases_eq i k)
call-bases {shape} {s} t (Store k e others) h within inside does owes i j =
    ⊎_elim {C = base_by (s.places i).handle j ≤ base_by (t.places i).handle j}
    (λ (here : i ≡ k).
    let same = ap (λ (z : ℕ). base_by (t.places z).handle j) here
    ∙ ap (λ p. base_by p.handle j) does.here
    ∙ ap (λ (z : ℕ). base_by (s.places z).handle j) (sym here) in
    omega (arith, same))
    (λ (other : i ≢ k).
    let same = ap (λ p. base_by p.handle j) (does.others i other) in
    omega (arith, same))
    (cases_eq i k)
call-bases t c h within inside does owes i j = absurd within

pub call-grown : {shape : Shaped} {s : System} (t : System) (c : Call) → Sits shape s
    → IsWithin c → place_of c < shape.nodes → Does c s t → Owes shape s c → Grown shape s t
call-grown {shape} {s} t c h within inside does owes =
    let one = does-stepped h.shown {t = t} h.limits h.sound c inside does owes in
    let full = call-filled shape s t c within does h.filled in
    let last : Choice = λ k. newest (t.places k) in
    let l = one.leads last (λ k. newest-among (t.places k).stored (t.places k).taken) in
    let first = h.shown l.before l.may in
    let end = l.goes_on first.0 first.1 in
    let turns = said-turns c within first.0 end.0 end.2 in
    record {
      got = λ i j inside_i.
          (let heard = turns-onward heard-onward first.0 end.0 turns i j in
          let was = received-shown first.1 h.filled i j inside_i in
          let is_now = received-shown end.1 full i j inside_i in
          omega (arith, heard, was, is_now));
      sent = λ i j inside_i.
          (let more = turns-onward sent-onward first.0 end.0 turns i j in
          let was = sent-shown first.1 h.filled i j inside_i in
          let is_now = sent-shown end.1 full i j inside_i in
          let long = ap length more.1
          ∙ length-append (sent_to (node_at first.0.current i) j) more.0 in
          omega (arith, long, was, is_now));
      bases = call-bases t c h within inside does owes;
    }

pub grown-same : {shape : Shaped} (s : System) → Grown shape s s
grown-same s = record {
  got = λ i j inside. le_refl _;
  sent = λ i j inside. le_refl _;
  bases = λ i j. le_refl _;
}

pub grown-on : {shape : Shaped} {s t u : System} → Grown shape s t → Grown shape t u
    → Grown shape s u
grown-on a b = record {
  got = λ i j inside. le_trans (a.got i j inside) (b.got i j inside);
  sent = λ i j inside. le_trans (a.sent i j inside) (b.sent i j inside);
  bases = λ i j. le_trans (a.bases i j) (b.bases i j);
}

-- both, after some calls
pub record Went (shape : Shaped) (s t : System) : Type 0 where
  pub sits : Sits shape t
  pub grown : Grown shape s t

pub goes-went : {shape : Shaped} (calls : List Call) (s t : System) → Sits shape s
    → AllByRecursion IsWithin calls → Goes shape s calls t → Went shape s t
goes-went {shape} [] s t h within same =
    subst (Went shape s) (sym same) (record { sits = h; grown = grown-same s })
goes-went (c ∷ cs) s t h within (next, inside, does, owes, rest) =
    let later = goes-went cs next t (sits-on next c h within.0 inside does owes) within.1 rest in
    record {
      sits = later.sits;
      grown = grown-on (call-grown next c h within.0 inside does owes) later.grown;
    }
