-- The theorems on runs, of programs that hold the nodes of a space.
use Rattle.std.proofs.Common.{◌≡◌, ◌≢◌, ℕ, ◌<◌, ◌≤◌, Bool, true, false, [], Option, Result, Ok, Err, inl, inr, refl, sym, ap, ◌∙◌, subst, append-nil}
use Rattle.std.proofs.lemmas.Bool.{cond-false}
use Rattle.ids.specs.Limits.{Shaped}
use Rattle.std.specs.Prelude.{IfErr}
use Rattle.ids.specs.declared.refusal.Refusal.{Refusal}
use Rattle.ids.specs.declared.refusal.Refusal.TheVariants.{Memory}
use Rattle.msg.specs.Frames.{plain, plain_data}
use Rattle.msg.specs.declared.frame.Data.{Data}
use Rattle.msg.specs.declared.frame.Frame.{Frame}
use Rattle.msg.specs.declared.frame.Frame.TheVariants as frame
use Rattle.frames.specs.Grammar.{spelling}
use Rattle.frames.proofs.Frames.{no_spelling_begins_another}
use Rattle.model.specs.declared.event.Answer.{Answer}
use Rattle.model.specs.declared.event.Event.{Event}
use Rattle.model.specs.declared.event.Event.TheVariants as event
use Rattle.model.specs.Agreement.{EndsAlike}
use Rattle.model.specs.Cuts.{cut}
use Rattle.model.specs.Reclaiming.{aging}
use Rattle.model.specs.State.{LocalState, NodeState, Object, Occupied, node_at, slot_at}
use Rattle.model.specs.Steps.{act, receive}
use Rattle.model.specs.View.{Follows, Shows}
use Rattle.model.specs.World.{World, IsInNet, new_world}
use Rattle.model.proofs.Refusals.{refused-as}
use Rattle.node.specs.Keeping.{met}
use Rattle.laws.specs.Objects.{IsRun, after, is_program, new_space}
use Rattle.laws.specs.Sights.{LooksLike, observed_in_cut}
use Rattle.laws.specs.Statements.{IsSpentOrEarly, KeepsReachable, NodesAgree, NoneRefusedInTurn, OfEveryRun, OfSpaces, OldGarbageGoes}
use Rattle.laws.specs.Carried.{IsCarried}
use Rattle.laws.proofs.Deliveries.{none-refused-in-turn}
use Rattle.laws.proofs.Live.{nodes-agree, sweeps-free-none-reachable}
use Rattle.laws.proofs.OldGarbage.{old-garbage-goes}
use Rattle.laws.proofs.Privacy.{reclaims-free-none-reachable}
use Rattle.laws.proofs.Told.{may-be-told}
use Rattle.laws.proofs.Transparent.{collector-is-unseen}
use Rattle.c_values.specs.declared.fault.Fault.TheVariants as fault
use Rattle.c_handles.specs.Laws.{CallsGoOn, FreesNone, HandlesAgree, HandlesAreToldSo, HandlesAreUnseen, HandlesDropOldGarbage, IsHeld, NoneIsRefusedInTurn, OfEveryShown, OfShownSpaces, ProgramsAreShown, ProgramsGoOn, ReclaimsFreeNone, SweepsFreeNone, returned}
use Rattle.c_handles.specs.Lone.{Gave, Given, Handled, is_congested, listed}
use Rattle.c_handles.specs.Programs.{Choice, Holds, System}
use Rattle.c_handles.specs.declared.lone.LoneNode.{LoneNode}
use Rattle.c_handles.proofs.Deeds.{came, does-stepped, goes-came}
use Rattle.c_handles.proofs.Says.{said-tells}
use Rattle.c_handles.proofs.Systems.{world-count, world-of}

pub programs-are-shown : ProgramsAreShown
programs-are-shown shape s reachable choice may =
    (came reachable.limits reachable.calls s reachable.goes).shown choice may

pub programs-go-on : ProgramsGoOn
programs-go-on shape s t calls reachable goes choice may =
    let here = came reachable.limits reachable.calls s reachable.goes in
    let l = (goes-came reachable.limits calls s t here.sound here.shown goes).leads choice may in
    (l.before, l.may, l.goes_on)

pub calls-go-on : CallsGoOn
calls-go-on shape s t c reachable inside does owes choice may =
    let here = came reachable.limits reachable.calls s reachable.goes in
    let l = (does-stepped here.shown {t = t} reachable.limits here.sound c inside does owes).leads
    choice
    may in (
      l.before,
      l.may,
      λ w h. let end = l.goes_on w h in (end.0, end.1, said-tells c w end.0 end.2),
    )

pub of-every-shown : (P : World → Type 0) → OfEveryRun P → OfEveryShown P
of-every-shown P law shape s choice w limits shown =
    subst P (sym shown.reached) (law shape limits shown.steps)

pub of-shown-spaces : (P : ℕ → World → Type 0) → OfSpaces P → OfShownSpaces P
of-shown-spaces P law shape s choice w limits shown =
    subst (P shape.nodes) (sym shown.reached) (law shape limits shown.steps)

held-carried : {shape : Shaped} {s : System} {choice : Choice} {w : World} {i : ℕ} {n : LoneNode}
    → IsHeld shape s choice w i n
    → IsCarried (node_at w.saved i) (node_at w.current i) n.node.core
held-carried {w = w} {i = i} h =
    subst (λ (o : Option LoneNode). Holds o (node_at w.saved i) (node_at w.current i)) h.held
    (h.shown.each i h.inside).holds

-- an event that was answered wasn't refused before
answered : (n m : LoneNode) (e : Event) (a : Answer) (congested : Bool)
    → Given congested n m e (Ok a) → Gave (listed n m.node.core e) m e (Ok a)
answered n m e a true g = let never = g.1 in absurd cc
answered n m e a false g = g

-- ---- sweeps and reclaims

abbrev Frees : Event → (Object → Object) → World → Type 0
Frees e makes w =
    (i : ℕ) (s : NodeState) (a : Answer) → act (node_at w.current i) e ≡ Ok (s, a)
    → KeepsReachable makes w i (node_at w.current i).local.heap s.local.heap

frees-none : (e : Event) (makes : Object → Object) → OfEveryRun (Frees e makes)
    → ((n : LoneNode) → met n.node.early e ≡ e) → FreesNone e makes
frees-none e makes law same shape s choice w i n m a h meets =
    let g = answered n m e a (is_congested n e) meets.1 in
    let carried = held-carried h in
    let found = subst (λ (x : Event).
    (t : NodeState) × (act (node_at w.current i) x ≡ Ok (t, a))
    × Shows m.node.core t) (same n) (g.acts.states (node_at w.current i) carried.shows) in
    λ saved r current reach own.
    let kept =
    of-every-shown (Frees e makes) law shape s choice w h.limits h.shown i found.0 a found.1 saved r
    current
    reach own in (
      kept.0,
      ap (λ (p : LocalState). slot_at p.heap r.slot) carried.shows.local ∙ kept.1,
      ap (λ (p : LocalState). slot_at p.heap r.slot) found.2.local ∙ kept.2,
    )

pub sweeps-free-none : SweepsFreeNone
sweeps-free-none count =
    frees-none (event.Sweep count) (λ o. o)
    (λ shape limits steps i s a. sweeps-free-none-reachable shape limits steps i count s a)
    (λ n. refl)

pub reclaims-free-none : ReclaimsFreeNone
reclaims-free-none scope =
    frees-none (event.Reclaim scope) aging
    (λ shape limits steps i s a. reclaims-free-none-reachable shape limits steps i scope s a)
    (λ n. refl)

-- ---- the end of marking, and garbage

pub handles-agree : HandlesAgree
handles-agree shape s choice w i cycle n h ended saved current =
    let count = world-count (world-of h.shown) in
    let here : cut w saved i ≡ node_at w.current i =
    cond-false (saved i) (node_at w.saved i) (node_at w.current i) current in
    let same = ap (λ (p : LocalState). p.phases.ended) (held-carried h).shows.local
    ∙ ap (λ (x : NodeState). x.local.phases.ended) (sym here) in
    subst (λ (k : ℕ). EndsAlike k cycle (cut w saved)) count
    (of-every-shown NodesAgree nodes-agree shape s choice w h.limits h.shown saved i cycle
    (subst (λ (k : ℕ). i < k) (sym count) h.inside)
    (subst (λ (k : ℕ). cycle ≤ k) same ended))

pub handles-drop-old-garbage : HandlesDropOldGarbage
handles-drop-old-garbage shape s t before choice w later cycle r n o shown h begun old alone swept
    there =
    let local = (held-carried h).shows.local in
    of-every-shown OldGarbageGoes old-garbage-goes shape s before w h.limits shown later
    (λ _. false) cycle r
    begun old alone
    (subst (λ (p : LocalState). cycle ≤ p.phases.swept) local swept)
    (record {
      object = o;
      there = subst (λ (p : LocalState). slot_at p.heap r.slot ≡ Occupied r.generation o) local
          there;
    })

-- ---- what programs see

pub handles-are-unseen : HandlesAreUnseen
handles-are-unseen shape s choice w limits shown saved =
    subst (λ (v : World).
    IsRun shape (new_space shape) (observed_in_cut (new_world shape) shown.steps saved)
    × LooksLike (after (new_space shape) (observed_in_cut (new_world shape) shown.steps saved))
    (cut v saved)) (sym shown.reached)
    (collector-is-unseen shape limits shown.steps saved)

-- a result of the node is that of an event that was given to it
was-given : (n m : LoneNode) (e : Event) (r : Result Answer Refusal) (congested : Bool)
    → IfErr r (λ x. x ≢ Memory) → Given congested n m e (returned r)
    → ((t : NodeState) → Shows n.node.core t
    → Follows (met n.node.early e) r m.node.core (act t (met n.node.early e)))
was-given n m e (Ok a) true plenty g = let never = g.1 in absurd cc
was-given n m e (Err x) true plenty g = let never = g.1 in absurd cc
was-given n m e (Ok a) false plenty g = g.acts.states
was-given n m e (Err x) false plenty (inl g) = g.acts.states
was-given n m e (Err x) false plenty (inr u) = absurd (plenty u.unlisted.memory)

program-met : (n : LoneNode) (e : Event) → is_program e ≡ true → met n.node.early e ≡ e
program-met n (event.Next from) is = absurd cc
program-met n e is = refl

pub handles-are-told-so : HandlesAreToldSo
handles-are-told-so shape s choice w i n m e result h saved program current meets plenty =
    let states = was-given n m e result (is_congested n e) plenty meets.1 in
    let follows = subst (λ (x : Event).
    Follows x result m.node.core (act (node_at w.current i) x)) (program-met n e program)
    (states (node_at w.current i) (held-carried h).shows) in
    may-be-told shape h.limits h.shown.steps saved i e result m.node.core h.inside program current
    (subst (λ (v : World). Follows e result m.node.core (act (node_at v.current i) e))
    h.shown.reached follows)
    plenty

-- ---- messages

module _ (shape : Shaped) (s : System) (choice : Choice) (w : World) (i : ℕ) (n m : LoneNode)
    (d : Data) (e : Refusal) (h : IsHeld shape s choice w i n) (plenty : e ≢ Memory) where
  -- a message with the same content was given to the node
  refused-message : (x : Data) → plain_data d ≡ plain_data x → d.to ≡ i
      → IsInNet w (plain_data x) → Given false n m (event.Data x) (Err (fault.Refused e))
      → IsSpentOrEarly n.node.core.local d.from d.number e
  unfolding act receive
  refused-message x same to net g =
      let states = was-given n m (event.Data x) (Err e) false plenty g in
      let carried = held-carried h in
      let refused = refused-as (states (node_at w.current i) carried.shows tt) plenty in
      let from_is : d.from ≡ x.from = cc in
      let to_is : d.to ≡ x.to = cc in
      let number_is : d.number ≡ x.number = cc in
      let at : x.to ≡ i = sym to_is ∙ to in
      let told = of-every-shown NoneRefusedInTurn none-refused-in-turn shape s choice w h.limits
      h.shown x.from x.to
      x.number x.stamp x.body e net
      (subst (λ (k : ℕ).
      receive (node_at w.current k) x.from x.to x.number x.stamp x.body ≡ Err e) (sym at)
      refused) in
      subst (λ (k : ℕ). IsSpentOrEarly n.node.core.local d.from k e) (sym number_is)
      (subst (λ (k : ℕ). IsSpentOrEarly n.node.core.local k x.number e) (sym from_is)
      (subst (λ (p : LocalState). IsSpentOrEarly p x.from x.number e)
      (ap (λ (k : ℕ). (node_at w.current k).local) at ∙ sym carried.shows.local) told))

  refused-frame : (f : Frame) → plain_data d ≡ plain f → d.to ≡ i → IsInNet w (plain_data d)
      → Handled f n m (Err (fault.Refused e))
      → IsSpentOrEarly n.node.core.local d.from d.number e
  refused-frame (frame.Data x) same to net g =
      refused-message x same to (subst (IsInNet w) same net) g
  refused-frame (frame.Ack a) same to net g = absurd cc

pub none-is-refused-in-turn : NoneIsRefusedInTurn
none-is-refused-in-turn shape s choice w i n m d e h among fits to (inl took) plenty =
    let same : plain_data d ≡ plain took.frame =
    (no_spelling_begins_another (plain_data d) (plain took.frame) [] fits took.fits
    (append-nil (spelling (plain_data d)) ∙ took.spelled)).1 in
    refused-frame shape s choice w i n m d e h plenty took.frame same to
    (h.shown.frames (plain_data d) among) took.handled
none-is-refused-in-turn shape s choice w i n m d e h among fits to (inr (inl none)) plenty =
    absurd (none.none (plain_data d) fits refl)
none-is-refused-in-turn shape s choice w i n m d e h among fits to (inr (inr room)) plenty =
    absurd (plenty (let refused = room.refused in cc))
