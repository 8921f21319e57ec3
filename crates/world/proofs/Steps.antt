-- Each step of the code's space is the step of the definitions.
use Rattle.std.proofs.Common.{◌≡◌, ◌≢◌, ℕ, ◌<◌, ◌≤◌, subst, true, false, ◌&&◌, List, length, set, slice_get, ⊎_elim, Option, Some, None, Result, Ok, Err, ◌⊎◌, inl, inr, refl, ap, sym, ◌∙◌, arith, cond, Bool}
use Rattle.std.specs.Prelude.{IsOk, IfOk, IfErr, OnErr, ◌↔◌}
use Rattle.std.specs.Option.{option_map}
use Rattle.std.proofs.Math.ListN.{get_or-map}
use Rattle.std.proofs.lemmas.Option.{slice_get-get_or, slice_get_past}
use Rattle.std.proofs.lemmas.Bool.{cases_lt, lt-ltb, le-ltb, and_from, and_left, and_right, cond-true, cond-false, both_ways}
use Rattle.std.proofs.lemmas.List.{set-get_or, map-set}
use Rattle.std.proofs.lemmas.Simd.{map-map}
use Rattle.ids.specs.declared.refusal.Refusal.{Refusal}
use Rattle.ids.specs.declared.refusal.Refusal.TheVariants.{Memory, NoNode, ImageTooLarge}
use Rattle.image.specs.Images.{IsTooLarge}
use Rattle.model.specs.Checks.{IsFirstRefusal, by_test, by_memory}
use Rattle.model.specs.declared.event.Event.{Event}
use Rattle.model.specs.declared.event.Event.TheVariants as event
use Rattle.model.specs.declared.event.Answer.{Answer}
use Rattle.model.specs.declared.step.Step.{Step}
use Rattle.model.specs.declared.step.Step.TheVariants as step
use Rattle.model.specs.declared.step.Outcome.{Outcome}
use Rattle.model.specs.declared.step.Outcome.TheVariants as outcome
use Rattle.model.specs.State.{LocalState, NodeState, node_at}
use Rattle.model.specs.Steps.{act, ack_of, is_own, is_memory_free, is_shading}
use Rattle.model.specs.View.{NodeView, IsTold, view_act, all_kept, kept_view, base_of}
use Rattle.model.specs.World.{World, FollowsStep, IsStepRefusal, take_step, is_node, moved, acknowledged, is_step_memory_free, is_shading_step}
use Rattle.model.proofs.Shown.{act-shown}
use Rattle.model.proofs.Refusals.{event-never, memory-or}
use Rattle.node.specs.Invariant.{IsNode}
use Rattle.node.specs.Summaries.{summary_of}
use Rattle.world.specs.Sites.{SiteView, Saves, bases, bases_acked}
use Rattle.world.specs.Shows.{SiteBases, ShowsWorld, SavesTooLarge, Stepped, Given, IsSim, no_site, site_at, site_bases, bases_of, bases_at, bases_after, summary_at}
use Rattle.world.specs.Spaces.{outcome_by}
use Rattle.world.proofs.Refusals.{first-by, step-refused}
use Rattle.world.proofs.SiteLemmas.{IsAckWithin}
use Rattle.world.proofs.Shows.{Changes, unchanged-sites, shows-moved, shows-saved, node-moved, saved_after}

-- ---- the nodes that a step names

-- the step names a node that the space doesn't have
abbrev pub NamesNoNode : List SiteView → Step → Type 0
NamesNoNode n (step.Act i e) = length n ≤ i
NamesNoNode n (step.Save i) = length n ≤ i
NamesNoNode n (step.Restart i) = length n ≤ i
NamesNoNode n (step.Deliver from to number) = (length n ≤ from) ⊎ (length n ≤ to)
NamesNoNode n (step.Hand from to) = (length n ≤ from) ⊎ (length n ≤ to)

module _ {n : List SiteView} {w : World} (h : ShowsWorld n w) where
  pub is-node : (i : ℕ) → i < length n → is_node w i ≡ true
  is-node i less = lt-ltb i (length w.current) (omega (arith, less, h.width))

  pub are-nodes : (i j : ℕ) → i < length n → j < length n → (is_node w i && is_node w j) ≡ true
  are-nodes i j less below = and_from _ _ (is-node i less) (is-node j below)

  is-no-node : (i : ℕ) → length n ≤ i → is_node w i ≡ false
  is-no-node i past = le-ltb i (length w.current) (omega (arith, past, h.width))

  are-no-nodes : (i j : ℕ) → (length n ≤ i) ⊎ (length n ≤ j) → (is_node w i && is_node w j) ≡ false
  are-no-nodes i j (inl past) = and_left (is_node w i) (is_node w j) (is-no-node i past)
  are-no-nodes i j (inr past) = and_right (is_node w i) (is_node w j) (is-no-node j past)

  takes-no-node : (s : Step) → NamesNoNode n s → take_step w s ≡ Err NoNode
  unfolding take_step
  takes-no-node (step.Act i e) past = cond-false _ _ _ (is-no-node i past)
  takes-no-node (step.Save i) past = cond-false _ _ _ (is-no-node i past)
  takes-no-node (step.Restart i) past = cond-false _ _ _ (is-no-node i past)
  takes-no-node (step.Deliver from to k) past = cond-false _ _ _ (are-no-nodes from to past)
  takes-no-node (step.Hand from to) past = cond-false _ _ _ (are-no-nodes from to past)

  save-step : (i : ℕ) → i < length n
      → take_step w (step.Save i) ≡ Ok (saved_after w i, outcome.Done)
  unfolding take_step
  save-step i less = cond-true _ _ _ (is-node i less)

  restart-step : (i : ℕ) → i < length n
      → take_step w (step.Restart i)
      ≡ Ok (record w { current = set w.current i (node_at w.saved i) }, outcome.Done)
  unfolding take_step
  restart-step i less = cond-true _ _ _ (is-node i less)

-- ---- the possible results of a step

-- it is refused, and changes nothing
refusing : {n m : List SiteView} (s : Step) (e : Refusal) → m ≡ n
    → ((w : World) → ShowsWorld n w → IsStepRefusal w s e)
    → (e ≡ ImageTooLarge ↔ SavesTooLarge n s)
    → ((w : World) → ShowsWorld n w → is_step_memory_free w s ≡ true → e ≢ Memory)
    → Stepped (Err e) n m s
refusing s e same refused large free = record {
  follows = λ w h. (refused w h, rw same h);
  too_large = (
    λ is. large.0 (let size : e ≡ ImageTooLarge = cc in size),
    λ saves. ap (λ z. Err z) (large.1 saves),
  );
  unchanged = same;
  lets_go = tt;
  memory_free = free;
}

-- it is refused, but not for the size of an image
refusing-other : {n m : List SiteView} (s : Step) (e : Refusal) → m ≡ n
    → ((w : World) → ShowsWorld n w → IsFirstRefusal (is_shading_step s) e (take_step w s))
    → e ≢ ImageTooLarge → (SavesTooLarge n s → ⊥)
    → ((w : World) → ShowsWorld n w → is_step_memory_free w s ≡ true → e ≢ Memory)
    → Stepped (Err e) n m s
refusing-other s e same first other short free =
    refusing s e same (λ w h. step-refused w e other s (first w h))
    (λ is. absurd (other is), λ saves. absurd (short saves)) free

-- it is answered
answering : {n m : List SiteView} (s : Step) (o : Outcome)
    → ((w : World) → ShowsWorld n w → FollowsStep ShowsWorld w s (Ok o) m)
    → (SavesTooLarge n s → ⊥)
    → bases_of m ≡ bases_after (bases_of n) s o → Stepped (Ok o) n m s
answering s o follows short lets_go = record {
  follows = follows;
  too_large = (λ is. absurd cc, λ saves. absurd (short saves));
  unchanged = tt;
  lets_go = lets_go;
  memory_free = λ w h free. tt;
}

-- no node is saved if no existing node is named
none-saved : (n : List SiteView) (s : Step) → NamesNoNode n s → SavesTooLarge n s → ⊥
none-saved n (step.Save i) past saves = omega (arith, past, saves.0)
none-saved n (step.Act i e) past saves = saves
none-saved n (step.Restart i) past saves = saves
none-saved n (step.Deliver from to number) past saves = saves
none-saved n (step.Hand from to) past saves = saves

pub no-node : (n : List SiteView) (s : Step) → NamesNoNode n s → Stepped (Err NoNode) n n s
no-node n s past =
    refusing-other s NoNode refl
    (λ w h. by_test (λ e. absurd cc) (takes-no-node h s past))
    (λ e. absurd cc) (none-saved n s past) (λ w h free e. absurd cc)

-- the same for a step between two nodes, of which one isn't there
pub past-either : {n count from to : ℕ} → count ≡ n
    → (count ≤ from) ⊎ ((from < count) × (count ≤ to)) → (n ≤ from) ⊎ (n ≤ to)
past-either is (inl past) = inl (omega (arith, is, past))
past-either is (inr past) = inr (omega (arith, is, past.1))

-- a refusal that never occurs, since no space could be shown
pub never : (n : List SiteView) (s : Step) (e : Refusal) → e ≢ ImageTooLarge
    → (SavesTooLarge n s → ⊥) → ((w : World) → ShowsWorld n w → ⊥) → Stepped (Err e) n n s
never n s e other short none =
    refusing-other s e refl (λ w h. absurd (none w h)) other short (λ w h. absurd (none w h))

-- an answer that changes nothing
pub nothing : (n : List SiteView) (s : Step) (o : Outcome)
    → ((w : World) → ShowsWorld n w → take_step w s ≡ Ok (w, o)) → (SavesTooLarge n s → ⊥)
    → bases_of n ≡ bases_after (bases_of n) s o → Stepped (Ok o) n n s
nothing n s o is = answering s o (λ w h. (w, is w h, h))

-- ---- a node is given an event

-- The step gives node i the event e, in a space that shows w. Its outcome is o of the node's
-- answer.
pub record Gives (n : List SiteView) (w : World) (i : ℕ) (e : Event) (s : Step)
    (o : Answer → Outcome) : Type 0 where
  pub answers : (v : NodeView) (t : NodeState) (x : Answer)
      → view_act (site_at n i).current e ≡ Ok (v, x) → act (node_at w.current i) e ≡ Ok (t, x)
      → take_step w s ≡ Ok (record w { current = set w.current i t }, o x)
  pub refuses : (f : Refusal)
      → IsFirstRefusal (is_shading e) f (view_act (site_at n i).current e)
      → IsFirstRefusal (is_shading_step s) f (take_step w s)
  pub within : IsAckWithin (acknowledged w i) (ack_of e)
  pub free : is_step_memory_free w s ≡ true → is_memory_free (site_at n i).current.local e ≡ true

-- the step then drops the messages that the event drops
abbrev pub LetsGo : ℕ → Event → Step → (Answer → Outcome) → Type 0
LetsGo i e s o =
    (all : List SiteBases) (x : Answer) → bases_after all s (o x)
    ≡ set all i
    (record (bases_at all i) { current = bases_acked (bases_at all i).current (ack_of e) })

-- how many messages are dropped after one site has changed
bases-changed : {n m : List SiteView} {i : ℕ} {q p : SiteView} (f : SiteBases → SiteBases)
    → Changes n m i q p → site_bases p ≡ f (site_bases q)
    → bases_of m ≡ set (bases_of n) i (f (bases_at (bases_of n) i))
bases-changed {n = n} {i = i} {p = p} f c is =
    ap bases_of c.new ∙ map-set site_bases n i p
    ∙ ap (set (bases_of n) i)
    (is ∙ ap f (ap site_bases c.old ∙ sym (get_or-map site_bases n i no_site)))

-- the result in one space that is shown
pub given-follows : {n m : List SiteView} {i : ℕ} {e : Event} {s : Step} {o : Answer → Outcome}
    {w : World} (r : Result Answer Refusal) → Given r n m i e → ShowsWorld n w → Gives n w i e s o
    → FollowsStep ShowsWorld w s (outcome_by o r) m
given-follows {n = n} {m = m} {i = i} {e = e} {s = s} {w = w} (Err f) h shown gives =
    let c : Changes n m i (site_at n i) h.site =
    record { within = h.within; old = refl; new = h.others } in
    let other : f ≢ ImageTooLarge =
    event-never _ (site_at n i).current e f ImageTooLarge refl h.acted.performs in (
      step-refused w f other s (gives.refuses f h.acted.performs),
      rw (unchanged-sites c h.acted.unchanged) shown,
    )
given-follows {n = n} {m = m} {i = i} {e = e} {s = s} {o = o} {w = w} (Ok x) h shown gives =
    let q : SiteView = site_at n i in
    let acted = h.acted in
    let c : Changes n m i q h.site = record { within = h.within; old = refl; new = h.others } in
    let was = (shown.each i).current in
    let after = act-shown q.current h.site.current e (Ok x) acted.performs (node_at w.current i)
    was.shows in
    let stepped = gives.answers h.site.current after.0 x acted.performs after.1 in
    let node = node-moved (ack_of e) was acted.leaves after.2 acted.lets_go gives.within in
    let space = shows-moved c s (o x) shown stepped acted.others node in
    (record w { current = set w.current i after.0 }, stepped, space)

pub given-free : {n m : List SiteView} {i : ℕ} {e : Event} {s : Step} {o : Answer → Outcome}
    {w : World} (r : Result Answer Refusal) → Given r n m i e → Gives n w i e s o
    → is_step_memory_free w s ≡ true → IfErr (outcome_by o r) (λ f. f ≢ Memory)
given-free (Err f) h gives free = h.acted.memory_free (gives.free free)
given-free (Ok x) h gives free = tt

pub given-unchanged : {n m : List SiteView} {i : ℕ} {e : Event} (o : Answer → Outcome)
    (r : Result Answer Refusal) → Given r n m i e → OnErr (outcome_by o r) (m ≡ n)
given-unchanged {n = n} {m = m} {i = i} o (Err f) h =
    let c : Changes n m i (site_at n i) h.site =
    record { within = h.within; old = refl; new = h.others } in
    unchanged-sites c h.acted.unchanged
given-unchanged o (Ok x) h = tt

pub given-small : {n m : List SiteView} {i : ℕ} {e : Event} (o : Answer → Outcome)
    (r : Result Answer Refusal) → Given r n m i e → outcome_by o r ≢ Err ImageTooLarge
given-small {n = n} {i = i} {e = e} o (Err f) h is =
    event-never _ (site_at n i).current e f ImageTooLarge refl h.acted.performs
    (let size : f ≡ ImageTooLarge = cc in size)
given-small o (Ok x) h is = absurd cc

pub given-lets-go : {n m : List SiteView} {i : ℕ} {e : Event} (s : Step) (o : Answer → Outcome)
    (r : Result Answer Refusal) → Given r n m i e → LetsGo i e s o
    → IfOk (outcome_by o r) (λ x. bases_of m ≡ bases_after (bases_of n) s x)
given-lets-go s o (Err f) h lets_go = tt
given-lets-go {n = n} {m = m} {i = i} {e = e} s o (Ok x) h lets_go =
    let q : SiteView = site_at n i in
    let acted = h.acted in
    let c : Changes n m i q h.site = record { within = h.within; old = refl; new = h.others } in
    let row : site_bases h.site ≡ record (site_bases q)
    { current = bases_acked (bases q.current) (ack_of e) } =
    ap site_bases acted.others ∙ ap (λ z. record (site_bases q) { current = z }) acted.lets_go in
    bases-changed (λ b. record b { current = bases_acked b.current (ack_of e) }) c row
    ∙ sym (lets_go (bases_of n) x)

pub given : {n m : List SiteView} {i : ℕ} {e : Event} {s : Step} {o : Answer → Outcome}
    {r : Result Answer Refusal} → Given r n m i e → LetsGo i e s o → (SavesTooLarge n s → ⊥)
    → ((w : World) → ShowsWorld n w → Gives n w i e s o) → Stepped (outcome_by o r) n m s
given {s = s} {o = o} {r = r} h lets_go short gives = record {
  follows = λ w shown. given-follows r h shown (gives w shown);
  too_large = (λ is. absurd (given-small o r h is), λ saves. absurd (short saves));
  unchanged = given-unchanged o r h;
  lets_go = given-lets-go s o r h lets_go;
  memory_free = λ w shown free. given-free r h (gives w shown) free;
}

-- a step that changes a node by an event that is no acknowledgement
pub moves : {n : List SiteView} {w : World} {i : ℕ} {e : Event} {s : Step} → ShowsWorld n w
    → ack_of e ≡ None → is_shading_step s ≡ is_shading e
    → take_step w s ≡ moved w i (act (node_at w.current i) e)
    → (is_step_memory_free w s ≡ true → is_memory_free (node_at w.current i).local e ≡ true)
    → Gives n w i e s outcome.Answer
moves {n = n} {w = w} {i = i} {e = e} {s = s} h none kind step free = record {
  answers = λ v t x _ stepped. step ∙ ap (moved w i) stepped;
  refuses = λ f first.
      let u : NodeView = (site_at n i).current in
      let told : IsTold (ack_of e) f = rw none tt in
      let refused = act-shown u u e (Err f) first (node_at w.current i)
      (h.each i).current.shows told in
      rw kind
      (first-by (is_shading e) (act (node_at w.current i) e) (take_step w s) f
      (λ g is. step ∙ ap (moved w i) is)
      (λ x is. rw (step, is) refl) refused);
  within = rw none tt;
  free = λ is. rw (h.each i).current.shows.local (free is);
}

-- it drops no messages
pub lets-nothing-go : (i : ℕ) (e : Event) (s : Step) → ack_of e ≡ None
    → ((all : List SiteBases) (x : Answer) → bases_after all s (outcome.Answer x) ≡ all)
    → LetsGo i e s outcome.Answer
lets-nothing-go i e s none same all x = rw none
    (same all x ∙ sym (set-get_or all i (site_bases no_site)))

pub own-none : (e : Event) → is_own e ≡ true → ack_of e ≡ None
own-none (event.Ack a) own = absurd cc
own-none e own = refl

pub acted : {n m : List SiteView} {i : ℕ} {e : Event} {r : Result Answer Refusal} → Given r n m i e
    → is_own e ≡ true → Stepped (outcome_by outcome.Answer r) n m (step.Act i e)
unfolding take_step
acted {i = i} {e = e} h own =
    given h (lets-nothing-go i e (step.Act i e) (own-none e own) (λ all x. refl)) (λ saves. saves)
    (λ w shown.
    let there = is-node shown i h.within in
    moves shown (own-none e own) refl (cond-true _ _ _ there ∙ cond-true _ _ _ own)
    (λ free. rw there at free))

-- ---- steps of the other kinds

module _ {n m : List SiteView} {i : ℕ} {q p : SiteView} (c : Changes n m i q p) where
  -- allocation failed, so `Memory` replaces an answer
  starved : (s : Step) (e : Refusal) → p ≡ q → e ≡ Memory
      → is_shading_step s ≡ false
      → ((w : World) → ShowsWorld n w → IsOk (take_step w s) × (is_step_memory_free w s ≡ false))
      → (SavesTooLarge n s → ⊥) → Stepped (Err e) n m s
  starved s e same memory plain wants short =
      refusing-other s e (unchanged-sites c same)
      (λ w h. rw plain (by_memory memory (wants w h).0))
      (λ size. let never : Memory ≡ ImageTooLarge = sym memory ∙ size in absurd cc) short
      (λ w h free. absurd (both_ways _ (wants w h).1 free))

  -- the image of the site's node is too large
  abbrev IsOver : Type 0
  IsOver = IsTooLarge q.current

  over-saves : IsOver → SavesTooLarge n (step.Save i)
  over-saves over =
      (c.within, subst (λ (z : SiteView). IsTooLarge z.current) c.old over)

  saves-over : SavesTooLarge n (step.Save i) → IsOver
  saves-over saves =
      subst (λ (z : SiteView). IsTooLarge z.current) (sym c.old) saves.1

  -- a save fails because allocation fails, or because the image is too large
  pub save-refused : (e : Refusal) → p ≡ q → (e ≢ Memory → e ≡ ImageTooLarge)
      → (◌≡◌ {A = Result (Unit {0}) Refusal} (Err e) (Err ImageTooLarge) ↔ IsOver)
      → Stepped (Err e) n m (step.Save i)
  save-refused e same else large =
      ⊎_elim {C = Stepped (Err e) n m (step.Save i)}
      (λ (memory : e ≡ Memory).
      starved (step.Save i) e same memory refl
      (λ w h. (rw (save-step h i c.within) refl, rw (is-node h i c.within) refl))
      (λ saves.
      let size : ◌≡◌ {A = Result (Unit {0}) Refusal} (Err e) (Err ImageTooLarge) =
      large.1 (saves-over saves) in
      let never : ◌≡◌ {A = Result (Unit {0}) Refusal} (Err Memory) (Err ImageTooLarge) =
      rw memory at size in
      absurd cc))
      (λ (other : e ≢ Memory).
      let size : e ≡ ImageTooLarge = else other in
      refusing (step.Save i) e (unchanged-sites c same)
      (λ w h. rw (size, save-step h i c.within) refl)
      (λ is. over-saves (large.0 (ap (λ z. Err z) is)), λ saves. size)
      (λ w h free. other))
      (memory-or e)

  pub restart-starved : (e : Refusal) → p ≡ q → e ≡ Memory → Stepped (Err e) n m (step.Restart i)
  restart-starved e same memory =
      starved (step.Restart i) e same memory refl
      (λ w h. (rw (restart-step h i c.within) refl, rw (is-node h i c.within) refl))
      (λ saves. saves)

  pub saved : IsSim n → Saves q p → IsNode q.current → (IsOver → ⊥)
      → Stepped (Ok outcome.Done) n m (step.Save i)
  saved sim saves node short =
      let own = ap (λ (z : SiteView). z.current.local.own) c.old ∙ (sim.current i c.within).own in
      let same : bases (kept_view q.current) ≡ bases q.current =
      map-map base_of all_kept q.current.links in
      let row : site_bases p ≡ record { current = bases q.current; saved = bases q.current } =
      rw (saves.current, saves.saved, same) in
      answering (step.Save i) outcome.Done
      (λ w h.
      let stepped = save-step h i c.within in
      let shown = shows-saved c (step.Save i) outcome.Done h stepped own saves node in
      (saved_after w i, stepped, shown))
      (λ large. short (saves-over large))
      (bases-changed (λ b. record b { saved = b.current }) c row)

  pub restarted : p ≡ record q { current = q.saved } → Stepped (Ok outcome.Done) n m
      (step.Restart i)
  restarted is =
      let current : p.current ≡ q.saved = ap (λ (z : SiteView). z.current) is in
      let others : p ≡ record q { current = p.current } = is
      ∙ ap (λ v. record q { current = v }) (sym current) in
      answering (step.Restart i) outcome.Done
      (λ w h.
      let stepped = restart-step h i c.within in
      let shown = shows-moved c {t = node_at w.saved i} (step.Restart i) outcome.Done h stepped
      others
      (rw (current, c.old) (h.each i).saved) in
      (record w { current = set w.current i (node_at w.saved i) }, stepped, shown))
      (λ large. large)
      (bases-changed (λ b. record b { current = b.saved }) c (ap site_bases is))

-- ---- nodes

-- what is said of the current node of this number, if there is one

pub local_here : {X : Type 0} (f : LocalState → X) {r : Option NodeView} (o : Option SiteView)
    → r ≡ option_map (λ q. q.current) o
    → option_map (λ v. f v.local) r ≡ option_map (λ q. f q.current.local) o
local_here f None is = ap (option_map (λ v. f v.local)) is
local_here f (Some q) is = ap (option_map (λ v. f v.local)) is

pub local_shown : {X : Type 0} (f : LocalState → X) {n : List SiteView} {w : World} (i : ℕ)
    → ShowsWorld n w
    → option_map (λ q. f q.current.local) (slice_get n i)
    ≡ cond (is_node w i) (Some (f (node_at w.current i).local)) None
local_shown {X = X} f {n = n} {w = w} i h =
    let told : SiteView → X = λ q. f q.current.local in
    ⊎_elim
    (λ (less : i < length n).
    ap (option_map told) (slice_get-get_or n i no_site less)
    ∙ ap (λ p. Some (f p)) (h.each i).current.shows.local
    ∙ sym (cond-true _ _ _ (is-node h i less)))
    (λ (past : length n ≤ i).
    ap (option_map told) (slice_get_past n i past)
    ∙ sym (cond-false _ _ _ (le-ltb i (length w.current) (omega (arith, past, h.width)))))
    (cases_lt i (length n))

-- a node in numbers

pub state_here : {r : Option NodeView} (o : Option SiteView) → r ≡ option_map (λ q. q.current) o
    → option_map (λ v. summary_of v.local) r ≡ option_map (λ q. summary_of q.current.local) o
state_here o is = local_here summary_of o is

pub state_shown : {n : List SiteView} {w : World} (i : ℕ) → ShowsWorld n w
    → option_map (λ q. summary_of q.current.local) (slice_get n i) ≡ summary_at w i
state_shown i h = local_shown summary_of i h

-- what is read of a node

abbrev pub or_no_node : {A : Type 0} → Option (Result A Refusal) → Result A Refusal
or_no_node (Some r) = r
or_no_node None = Err NoNode

pub read_shown : {A : Type 0} {n : List SiteView} {w : World} (f : LocalState → Result A Refusal)
    (i : ℕ) → ShowsWorld n w
    → {r : Option NodeView} → r ≡ option_map (λ q. q.current) (slice_get n i)
    → or_no_node (option_map (λ v. f v.local) r)
    ≡ cond (is_node w i) (f (node_at w.current i).local) (Err NoNode)
read_shown {n = n} {w = w} f i h is =
    ap or_no_node (local_here f (slice_get n i) is ∙ local_shown f i h)
    ∙ by (is_node w i)
  where
    by : (b : Bool)
        → or_no_node (cond b (Some (f (node_at w.current i).local)) None)
        ≡ cond b (f (node_at w.current i).local) (Err NoNode)
    by true = refl
    by false = refl
