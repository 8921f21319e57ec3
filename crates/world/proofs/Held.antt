-- The messages that the nodes of a space keep were released; this is so after each step.
use Rattle.std.proofs.Common.{◌≡◌, ◌≢◌, ℕ, ◌-◌, ◌<◌, ◌≤◌, ◌==◌, ltb, ap₂, true, List, [], ◌∷◌, length, get_or, set, Option, Some, None, Result, Ok, Err, refl, ap, sym, ◌∙◌, subst, ⊎_elim, arith}
use Rattle.std.specs.Prelude.{◌↔◌, IfErr, IfOk, OnErr, OnOk, slice_get}
use Rattle.std.proofs.lemmas.Bool.{cases_lt, cond_both, false≢true}
use Rattle.std.proofs.lemmas.List.{length-set, length-map, get_or_read, get_or_past, set-get_or, set_past, map-set}
use Rattle.std.proofs.Math.ListN.{get_or-map}
use Rattle.ids.specs.Limits.{Shaped}
use Rattle.ids.specs.declared.refusal.Refusal.{Refusal}
use Rattle.ids.specs.declared.refusal.Refusal.TheVariants.{ImageTooLarge, Memory, NoNode}
use Rattle.image.specs.Images.{IsTooLarge}
use Rattle.msg.specs.Frames.{Plain, data_frame, plain_data}
use Rattle.frames.specs.Grammar.{Fits, spelling}
use Rattle.msg.specs.declared.body.Message.{Message}
use Rattle.msg.specs.declared.frame.Ack.{Ack}
use Rattle.msg.specs.declared.frame.Data.{Data}
use Rattle.model.specs.declared.event.Event.{Event}
use Rattle.model.specs.declared.event.Event.TheVariants as event
use Rattle.model.specs.declared.event.Answer.{Answer}
use Rattle.model.specs.declared.event.Answer.TheVariants as answer
use Rattle.model.specs.declared.step.Step.{Step}
use Rattle.model.specs.declared.step.Step.TheVariants as step
use Rattle.model.specs.declared.step.Outcome.{Outcome}
use Rattle.model.specs.declared.step.Outcome.TheVariants as outcome
use Rattle.model.specs.State.{LocalState, NodeState, node_at, no_node, sent_to}
use Rattle.model.specs.Steps.{is_own}
use Rattle.model.specs.View.{NodeView, kept_view}
use Rattle.model.specs.World.{World, FollowsStep, released, numbered, happens, world_after, is_step_memory_free}
use Rattle.model.proofs.Lookups.{at_set_if}
use Rattle.laws.proofs.Onward.{run-saved}
use Rattle.laws.proofs.KeepsSent.{SentMore, sent-onward}
use Rattle.laws.proofs.Cuts.{released-numbered}
use Rattle.laws.proofs.Net.{released-grows}
use Rattle.node.specs.Invariant.{IsNode}
use Rattle.node.specs.Keeping.{OfAll, Rings, early_after, no_rings, next_event, next_step, met, waiting}
use Rattle.world.specs.Sites.{SiteView, KeepingSite, Acted, ActedKeeping, Saves, restarted}
use Rattle.world.specs.Shows.{ShowsWorld, Stepped, Given, IsAckOf, IsSim, IsPlaced, SavesTooLarge, frame_at, no_site, site_at}
use Rattle.world.specs.Spaces.{SpaceView, FollowsSpace, GivenSpace, IsOfNet, KeepsAfter, ShowsSpace, SteppedSpace, early_of, given_early, kept_at, keeping_at, outcome_by, site_of, space_of, step_met}
use Rattle.node.proofs.Kept.{of-none, after-all}
use Rattle.world.proofs.Runs.{extends_space}
use Rattle.world.proofs.Shows.{Changes}
use Rattle.world.proofs.Steps.{Gives, acted, given-follows, given-free, given-lets-go, given-small, given-unchanged, no-node, save-refused, saved}
use Rattle.world.proofs.Acks.{hands}
use Rattle.world.proofs.Deliveries.{IsReleased, delivered, delivery-gives, delivery-lets-go, found}

-- ---- what was released stays released

grown-net : (w v : World) (i from : ℕ) (d : Data)
    → ((k : ℕ) → SentMore (node_at w.saved k) (node_at v.saved k)) → IsOfNet w i from d
    → IsOfNet v i from d
grown-net w v i from d more h = record {
  from = h.from;
  to = h.to;
  there =
      released-grows w v from i d.number (record { stamp = d.stamp; body = d.body }) (more from i)
      h.there;
}

-- each kept frame is of a message that was released
abbrev pub AreOfNet : World → List Rings → Type 0
AreOfNet w all = (i : ℕ) → OfAll (IsOfNet w i) (get_or all i [])

-- if this holds before a step, it holds after it
follows-space : {n : SpaceView} {w : World} (m : SpaceView) (s : Step) (r : Result Outcome Refusal)
    → ShowsSpace n w → length m.early ≡ length m.sites → AreOfNet w m.early
    → FollowsStep ShowsWorld w s r m.sites → FollowsStep ShowsSpace w s r m
follows-space m s (Err e) h width held f =
    (f.0, record { world = f.1; width = width; held = held })
follows-space {w = w} m s (Ok o) h width held f =
    let v : World = f.0 in
    let same : happens w s ≡ v = ap (world_after w) f.1 in
    let more : (k : ℕ) → SentMore (node_at w.saved k) (node_at v.saved k) = λ k.
    subst (λ (z : World). SentMore (node_at w.saved k) (node_at z.saved k)) same
    (run-saved sent-onward w (s ∷ []) h.world.grown.sent k) in (
      v,
      f.1,
      record {
        world = f.2;
        width = width;
        held = λ i from place d there. grown-net w v i from d more (held i from place d there);
      },
    )

-- what is kept afterwards is of messages that the space before had released
abbrev pub KeepsNet : SpaceView → SpaceView → Type 0
KeepsNet n m =
    (w : World) → ShowsSpace n w → (length m.early ≡ length m.sites) × AreOfNet w m.early

pub keeps-same : (n : SpaceView) → KeepsNet n n
keeps-same n w h = (h.width, h.held)

-- and it is what the definitions say
abbrev pub KeepsSo : SpaceView → SpaceView → Step → Result Outcome Refusal → Type 0
KeepsSo n m s r = (w : World) → ShowsSpace n w → KeepsAfter w n.early s r m.early

-- a step of the sites is one of the space
pub lifted : {n m : SpaceView} {s : Step} {r : Result Outcome Refusal} → step_met n.early s ≡ s
    → KeepsNet n m → KeepsSo n m s r → Stepped r n.sites m.sites s → SteppedSpace r n m s
lifted {n = n} {m = m} {s = s} {r = r} is keeps early h =
    let follows : FollowsSpace r n m s = λ w shown.
    let kept = keeps w shown in
    subst (λ (z : Step). FollowsStep ShowsSpace w z r m) (sym is)
    (follows-space m s r shown kept.0 kept.1 (h.follows w shown.world)) in
    record {
      follows = follows;
      runs = extends_space r n m s follows;
      too_large = h.too_large;
      unchanged = h.unchanged;
      early = early;
      turn = λ other. absurd (other is);
      lets_go = h.lets_go;
      memory_free = λ w shown free.
          h.memory_free w shown.world
          (subst (λ (z : Step). is_step_memory_free w z ≡ true) is free);
    }

-- ---- one site changes

pub record SpaceChanges (n m : SpaceView) (i : ℕ) (q p : KeepingSite) : Type 0 where
  pub sites : Changes n.sites m.sites i q.site p.site
  pub early : m.early ≡ set n.early i p.early
  pub was : q.early ≡ kept_at n.early i

changed : (qs : List KeepingSite) (i : ℕ) (q p : KeepingSite) → i < length qs
    → q ≡ get_or qs i q → SpaceChanges (space_of qs) (space_of (set qs i p)) i q p
changed qs i q p less read =
    let none : KeepingSite = record { site = no_site; early = [] } in
    let there : q ≡ get_or qs i none = get_or_read qs i q less read none in
    record {
      sites = record {
        within = omega (arith, less, length-map qs site_of);
        old = ap site_of there ∙ sym (get_or-map site_of qs i none);
        new = map-set site_of qs i p;
      };
      early = map-set early_of qs i p;
      was = ap early_of there ∙ sym (get_or-map early_of qs i none);
    }

-- in terms of the code, which reads the site at a place of its view of the space
pub space-changes : {n : SpaceView} {i place : ℕ} {q p : KeepingSite} (seen : List KeepingSite)
    → space_of seen ≡ n → place ≡ i → i < length n.sites → q ≡ get_or seen place q
    → SpaceChanges n (space_of (set seen place p)) i q p
space-changes {n = n} {i = i} {place = place} {q = q} {p = p} seen view named less read =
    subst (λ (z : SpaceView). SpaceChanges z (space_of (set seen place p)) i q p) view
    (subst (λ (z : ℕ). SpaceChanges (space_of seen) (space_of (set seen place p)) z q p) named
    (changed seen place q p
    (omega
    (arith, named, less, ap (λ (z : SpaceView). length z.sites) view, length-map seen site_of))
    read))

pub site-read-in : {n : SpaceView} {i place : ℕ} {q : KeepingSite} (seen : List KeepingSite)
    → space_of seen ≡ n → place ≡ i → i < length n.sites → q ≡ get_or seen place q
    → q.site ≡ site_at n.sites i
site-read-in {q = q} seen view named less read =
    (space-changes {p = q} seen view named less read).sites.old

-- the same, with what its current node keeps
pub keeping-read-in : {n : SpaceView} {i place : ℕ} {q : KeepingSite} (seen : List KeepingSite)
    → space_of seen ≡ n → place ≡ i → i < length n.sites → q ≡ get_or seen place q
    → q ≡ keeping_at n i
keeping-read-in {q = q} seen view named less read =
    let c = space-changes {p = q} seen view named less read in
    ap₂ (λ (a : SiteView) (b : Rings). record { site = a; early = b }) c.sites.old c.was

-- what a save does to its site
pub record SavesSite (r : Result Unit Refusal) (q p : KeepingSite) : Type 0 where
  pub done : OnOk r (Saves q.site p.site)
  pub early : p.early ≡ q.early
  pub node : OnOk r (IsNode q.site.current)
  pub unchanged : OnErr r (p ≡ q)
  pub refused : IfErr r (λ e. e ≢ Memory → e ≡ ImageTooLarge)
  pub too_large : r ≡ Err ImageTooLarge ↔ IsTooLarge q.site.current

module _ {n m : SpaceView} {i : ℕ} {q p : KeepingSite} (c : SpaceChanges n m i q p) where
  pub keeps-changed : ((w : World) → ShowsSpace n w → OfAll (IsOfNet w i) p.early) → KeepsNet n m
  keeps-changed here w h = (
    ap length c.early ∙ length-set n.early i p.early ∙ h.width
        ∙ sym (ap length c.sites.new ∙ length-set n.sites i p.site),
    λ k.
        subst (λ (z : List Rings). OfAll (IsOfNet w k) (get_or z k [])) (sym c.early)
        (at_set_if (OfAll (IsOfNet w k)) n.early i k p.early []
        (λ same. subst (λ (z : ℕ). OfAll (IsOfNet w z) p.early) same (here w h)) (h.held k)),
  )

  -- the node keeps what it kept
  pub keeps-early : p.early ≡ q.early → KeepsNet n m
  keeps-early same =
      keeps-changed (λ w h. subst (OfAll (IsOfNet w i)) (sym (same ∙ c.was)) (h.held i))

  -- it keeps nothing
  pub keeps-none : (nodes : ℕ) → p.early ≡ no_rings nodes → KeepsNet n m
  keeps-none nodes same =
      keeps-changed (λ w h. subst (OfAll (IsOfNet w i)) (sym same) (of-none (IsOfNet w i) nodes))

  -- so nothing changes in what the nodes keep
  pub early-same : p.early ≡ q.early → m.early ≡ n.early
  early-same same =
      c.early ∙ ap (set n.early i) (same ∙ c.was) ∙ set-get_or n.early i []

  -- every node still has its number
  stands : (f : SiteView → NodeView) → IsPlaced (length n.sites) i (f p.site)
      → ((k : ℕ) → k < length n.sites → IsPlaced (length n.sites) k (f (site_at n.sites k)))
      → (k : ℕ) → k < length n.sites
      → IsPlaced (length n.sites) k (f (site_at (set n.sites i p.site) k))
  stands f here all k less =
      at_set_if (λ (z : SiteView). IsPlaced (length n.sites) k (f z)) n.sites i k p.site no_site
      (λ same. subst (λ (z : ℕ). IsPlaced (length n.sites) z (f p.site)) same here) (all k less)

  sim-changed : IsSim n.sites → IsPlaced (length n.sites) i p.site.current
      → IsPlaced (length n.sites) i p.site.saved → IsSim m.sites
  sim-changed h current saved =
      let width : length (set n.sites i p.site) ≡ length n.sites =
      length-set n.sites i p.site in
      let after : List SiteView = set n.sites i p.site in
      let sim : IsSim after = record {
        some = omega (arith, width, h.some);
        small = omega (arith, width, h.small);
        current = λ k less.
            subst (λ (z : ℕ). IsPlaced z k (site_at after k).current) (sym width)
            (stands (λ z. z.current) current h.current k (omega (arith, less, width)));
        saved = λ k less.
            subst (λ (z : ℕ). IsPlaced z k (site_at after k).saved) (sym width)
            (stands (λ z. z.saved) saved h.saved k (omega (arith, less, width)));
      } in
      subst IsSim (sym c.sites.new) sim

  current-was : IsSim n.sites → IsPlaced (length n.sites) i q.site.current
  current-was h =
      subst (λ (z : SiteView). IsPlaced (length n.sites) i z.current) (sym c.sites.old)
      (h.current i c.sites.within)

  saved-was : IsSim n.sites → IsPlaced (length n.sites) i q.site.saved
  saved-was h =
      subst (λ (z : SiteView). IsPlaced (length n.sites) i z.saved) (sym c.sites.old)
      (h.saved i c.sites.within)

  -- a restart loses what its node kept
  pub early-lost : IsSim n.sites → p ≡ restarted q → (w : World) → ShowsSpace n w
      → m.early ≡ set n.early i (no_rings (length w.current))
  early-lost h is w shown =
      c.early ∙ ap (λ (z : KeepingSite). set n.early i z.early) is
      ∙ ap (λ k. set n.early i (no_rings k)) ((saved-was h).nodes ∙ shown.world.width)

  sim-acted : {r : Result Answer Refusal} {e : Event} → IsSim n.sites
      → Acted r q.site p.site e → IsSim m.sites
  sim-acted h a =
      let was = current-was h in
      sim-changed h
      (record {
        own = a.leaves.own ∙ was.own;
        nodes = ap (λ (x : Shaped). x.nodes) a.leaves.shape ∙ was.nodes;
      })
      (subst (λ (z : SiteView). IsPlaced (length n.sites) i z.saved) (sym a.others) (saved-was h))

  sim-saved : IsSim n.sites → Saves q.site p.site → IsSim m.sites
  sim-saved h saves =
      let was = current-was h in
      let kept : IsPlaced (length n.sites) i (kept_view q.site.current) =
      record { own = was.own; nodes = was.nodes } in
      sim-changed h (subst (IsPlaced (length n.sites) i) (sym saves.current) kept)
      (subst (IsPlaced (length n.sites) i) (sym saves.saved) kept)

  sim-restarted : IsSim n.sites → p ≡ restarted q → IsSim m.sites
  sim-restarted h is =
      sim-changed h
      (subst (λ (z : KeepingSite). IsPlaced (length n.sites) i z.site.current) (sym is)
      (saved-was h))
      (subst (λ (z : KeepingSite). IsPlaced (length n.sites) i z.site.saved) (sym is) (saved-was h))

  sim-same : IsSim n.sites → p ≡ q → IsSim m.sites
  sim-same h same =
      subst IsSim
      (sym (c.sites.new ∙ ap (set n.sites i) (ap site_of same ∙ c.sites.old)
      ∙ set-get_or n.sites i no_site))
      h

  -- whether the call succeeded or not
  pub sim-after-save : {A : Type 0} (r : Result A Refusal) → IsSim n.sites
      → OnOk r (Saves q.site p.site) → OnErr r (p ≡ q) → IsSim m.sites
  sim-after-save (Ok x) h done same = sim-saved h done
  sim-after-save (Err e) h done same = sim-same h same

  pub sim-after-restart : {A : Type 0} (r : Result A Refusal) → IsSim n.sites
      → OnOk r (p ≡ restarted q) → OnErr r (p ≡ q) → IsSim m.sites
  sim-after-restart (Ok x) h done same = sim-restarted h done
  sim-after-restart (Err e) h done same = sim-same h same

  -- and so is what the space is after it
  pub saved-space : (r : Result Unit Refusal) → IsSim n.sites → SavesSite r q p
      → SteppedSpace (outcome_by (λ _. outcome.Done) r) n m (step.Save i)
  saved-space (Ok x) h s =
      lifted refl (keeps-early s.early) (λ w shown. early-same s.early)
      (saved c.sites h s.done s.node (λ over. let never = s.too_large.1 over in absurd cc))
  saved-space (Err e) h s =
      lifted refl (keeps-early s.early) (λ w shown. early-same s.early)
      (save-refused c.sites _ (ap site_of s.unchanged) s.refused s.too_large)

-- in a wide space no image is too large
pub wide-saved : (n : List SiteView) (i : ℕ) (r : Result Unit Refusal)
    → (outcome_by (λ _. outcome.Done) r ≡ Err ImageTooLarge → SavesTooLarge n (step.Save i))
    → (site_at n i).current.local.shape.wide ≡ true → IfErr r (λ e. e ≢ ImageTooLarge)
wide-saved n i (Ok x) large wide = tt
wide-saved n i (Err e) large wide = λ is.
    false≢true (sym (large (ap (λ (z : Refusal). Err z) is)).1.0 ∙ wide)

-- ---- a node is given an event

pub given-space : {n : SpaceView} {i place : ℕ} {q p : KeepingSite} {e : Event}
    {r : Result Answer Refusal} (seen : List KeepingSite) → space_of seen ≡ n → place ≡ i
    → i < length n.sites → q ≡ get_or seen place q → ActedKeeping r q p e
    → GivenSpace r n (space_of (set seen place p)) i e
given-space {n = n} {i = i} {q = q} {p = p} {e = e} {r = r} seen view named less read acted =
    let c = space-changes {p = p} seen view named less read in
    let same : q ≡ keeping_at n i = keeping-read-in seen view named less read in
    record {
      within = c.sites.within;
      site = p;
      acted = subst (λ (z : KeepingSite). ActedKeeping r z p e) same acted;
      sites = c.sites.new;
      early = c.early;
    }

sites-given : {n m : SpaceView} {i : ℕ} {e : Event} {r : Result Answer Refusal}
    → GivenSpace r n m i e → Given r n.sites m.sites i (met (kept_at n.early i) e)
sites-given h = record {
  within = h.within;
  site = h.site.site;
  acted = h.acted.acted;
  others = h.sites;
}

given-changes : {n m : SpaceView} {i : ℕ} {e : Event} {r : Result Answer Refusal}
    (h : GivenSpace r n m i e) → SpaceChanges n m i (keeping_at n i) h.site
given-changes h = record {
  sites = record { within = h.within; old = refl; new = h.sites };
  early = h.early;
  was = refl;
}

-- the sites are still those of a space
pub given-sim : {n m : SpaceView} {i : ℕ} {e : Event} {r : Result Answer Refusal} → IsSim n.sites
    → GivenSpace r n m i e → IsSim m.sites
given-sim h given = sim-acted (given-changes given) h given.acted.acted

keeps-given : {n m : SpaceView} {i : ℕ} {e : Event} {r : Result Answer Refusal}
    → GivenSpace r n m i e
    → ((w : World) → ShowsSpace n w → (d : Data) → e ≡ event.Data d → IsOfNet w i d.from d)
    → KeepsNet n m
keeps-given {n = n} {i = i} {e = e} {r = r} h new =
    keeps-changed (given-changes h)
    (λ w shown.
    subst (OfAll (IsOfNet w i)) (sym h.acted.early)
    (after-all (IsOfNet w i) (site_at n.sites i).current.local (kept_at n.early i) e r
    (shown.held i)
    (new w shown)))

-- after the event, the nodes keep what its answer leaves of it
early-given : {n m : SpaceView} {i : ℕ} {e : Event} {r : Result Answer Refusal}
    → GivenSpace r n m i e → (w : World) → ShowsSpace n w
    → m.early ≡ given_early w n.early i e r
early-given {n = n} {i = i} {e = e} {r = r} h w shown =
    h.early ∙ ap (set n.early i) h.acted.early
    ∙ ap (λ (p : LocalState). set n.early i (early_after p (kept_at n.early i) e r))
    (shown.world.each i).current.shows.local

early-acted : {n m : SpaceView} {i : ℕ} {e : Event} (r : Result Answer Refusal)
    → GivenSpace r n m i e → KeepsSo n m (step.Act i e) (outcome_by outcome.Answer r)
early-acted (Ok a) h w shown = early-given h w shown
early-acted (Err f) h w shown = early-given h w shown

-- a released message was released by an existing node
released-within : (w : World) (from to number : ℕ) (x : Message)
    → released w from to number ≡ Some x → from < length w.saved
released-within w from to number x there =
    ⊎_elim {C = from < length w.saved} (λ less. less)
    (λ (past : length w.saved ≤ from).
    let none : node_at w.saved from ≡ no_node = get_or_past w.saved from no_node past in
    let sent : List Message = sent_to (node_at w.saved from) to in
    let empty : sent ≡ [] = ap (λ (s : NodeState). sent_to s to) none in
    let found : numbered sent number ≡ Some x =
    (released-numbered (from == to) (numbered sent number) x there).1 in
    absurd
    (never number (subst (λ (z : List Message). numbered z number ≡ Some x) empty found)))
    (cases_lt from (length w.saved))
  where
    never : (k : ℕ) → numbered [] k ≡ Some x → ⊥
    never k =
        cond_both (ltb 0 k) (slice_get [] (k - 1)) None (λ z. z ≡ Some x → ⊥)
        (λ _ is. absurd cc) (λ _ is. absurd cc)

-- Next of a frame that waits is its delivery
waiting-gives : {n : SpaceView} {w : World} {i from : ℕ} {d : Data} → ShowsSpace n w
    → i < length n.sites → waiting (kept_at n.early i) from ≡ Some d
    → Gives n.sites w i (event.Data d) (step.Deliver from i d.number) outcome.Answer
waiting-gives {n = n} {w = w} {i = i} {from = from} {d = d} shown below waits =
    let net : IsOfNet w i from d = shown.held i from 0 d waits in
    let x : Message = record { stamp = d.stamp; body = d.body } in
    let less = released-within w from i d.number x net.there in
    let same : plain_data d ≡ data_frame from i d.number d.stamp d.body =
    ap₂ (λ (a b : ℕ). data_frame a b d.number d.stamp d.body) net.from net.to in
    delivery-gives x shown.world
    (omega (arith, less, shown.world.grown.width, shown.world.width)) below net.there same

received-outcome : (r : Result Answer Refusal) → IfOk r (λ a. a ≡ answer.Received)
    → IfOk (outcome_by outcome.Answer r) (λ o. o ≡ outcome.Answer answer.Received)
received-outcome (Ok a) is = ap (λ (z : Answer). outcome.Answer z) is
received-outcome (Err f) is = is

waiting-taken : {n m : SpaceView} {i : ℕ} {r : Result Answer Refusal} (from : ℕ) (d : Data)
    → waiting (kept_at n.early i) from ≡ Some d → Given r n.sites m.sites i (event.Data d)
    → KeepsNet n m → KeepsSo n m (step.Act i (event.Next from)) (outcome_by outcome.Answer r)
    → IfOk r (λ a. a ≡ answer.Received)
    → SteppedSpace (outcome_by outcome.Answer r) n m (step.Act i (event.Next from))
waiting-taken {n = n} {m = m} {i = i} {r = r} from d waits h keeps early received =
    let is : step.Deliver from i d.number ≡ step_met n.early (step.Act i (event.Next from)) =
    sym (ap (next_step i from) waits) in
    let taken : Result Outcome Refusal = outcome_by outcome.Answer r in
    let follows : FollowsSpace taken n m (step.Act i (event.Next from)) = λ w shown.
    let kept = keeps w shown in
    subst (λ (z : Step). FollowsStep ShowsSpace w z taken m) is
    (follows-space m (step.Deliver from i d.number) taken shown kept.0 kept.1
    (given-follows r h shown.world (waiting-gives shown h.within waits))) in
    record {
      follows = follows;
      runs = extends_space taken n m (step.Act i (event.Next from)) follows;
      too_large = (λ large. absurd (given-small outcome.Answer r h large), λ saves. absurd saves);
      unchanged = given-unchanged outcome.Answer r h;
      early = early;
      turn = λ _. received-outcome r received;
      lets_go = given-lets-go (step.Deliver from i d.number) outcome.Answer r h
          (delivery-lets-go from i d.number d);
      memory_free = λ w shown free.
          given-free r h (waiting-gives shown h.within waits)
          (subst (λ (z : Step). is_step_memory_free w z ≡ true) (sym is) free);
    }

-- Next, by what waits
next-taken : {n m : SpaceView} {i : ℕ} {r : Result Answer Refusal} (from : ℕ) (o : Option Data)
    → waiting (kept_at n.early i) from ≡ o → Given r n.sites m.sites i (next_event from o)
    → KeepsNet n m → KeepsSo n m (step.Act i (event.Next from)) (outcome_by outcome.Answer r)
    → (next_event from o ≢ event.Next from → IfOk r (λ a. a ≡ answer.Received))
    → SteppedSpace (outcome_by outcome.Answer r) n m (step.Act i (event.Next from))
next-taken {i = i} from None none h keeps early turn =
    lifted (ap (next_step i from) none) keeps early (acted h refl)
next-taken from (Some d) waits h keeps early turn =
    waiting-taken from d waits h keeps early (turn (λ same. absurd cc))

pub acted-space : {n m : SpaceView} {i : ℕ} {r : Result Answer Refusal} (e : Event)
    → GivenSpace r n m i e → is_own e ≡ true
    → SteppedSpace (outcome_by outcome.Answer r) n m (step.Act i e)
acted-space (event.Data d) h own = absurd cc
acted-space {n = n} {i = i} {r = r} (event.Next from) h own =
    next-taken from (waiting (kept_at n.early i) from) refl (sites-given h)
    (keeps-given h (λ w shown d is. absurd cc)) (early-acted r h) h.acted.turn
acted-space {r = r} e h own =
    lifted refl (keeps-given h (λ w shown d is. absurd cc)) (early-acted r h)
    (acted (sites-given h) own)

-- an event never makes an image too large
pub acted-small : {n m : SpaceView} {i : ℕ} {e : Event} (r : Result Answer Refusal)
    → SteppedSpace (outcome_by outcome.Answer r) n m (step.Act i e)
    → IfErr r (λ f. f ≢ ImageTooLarge)
acted-small (Ok a) h = tt
acted-small (Err f) h = λ is. h.too_large.0 (ap (λ (z : Refusal). Err z) is)

-- the acknowledgement that is handed over
pub handed-space : {n m : SpaceView} {from to : ℕ} {a : Ack} {r : Result Answer Refusal}
    → to < length n.sites → from ≢ to → IsAckOf n.sites from to a
    → GivenSpace r n m from (event.Ack a)
    → SteppedSpace (outcome_by (λ _. outcome.Handed a.number) r) n m (step.Hand from to)
handed-space {n = n} {from = from} below apart ack h =
    lifted refl (keeps-given h (λ w shown d is. absurd cc))
    (λ w shown. early-given h w shown ∙ set-get_or n.early from [])
    (hands below apart ack (sites-given h))

-- the message that is delivered
of-net : {w : World} {from to number : ℕ} {bytes : List ℕ} (d : Data)
    (x : IsReleased w from to number bytes)
    → plain_data d ≡ data_frame from to number x.message.stamp x.message.body
    → IsOfNet w to from d
of-net {w = w} {from = from} {to = to} {number = number} d x same =
    let sender : d.from ≡ from = cc in
    let receiver : d.to ≡ to = cc in
    let place : d.number ≡ number = cc in
    let stamp : d.stamp ≡ x.message.stamp = cc in
    let body : d.body ≡ x.message.body = cc in
    record { from = sender; to = receiver; there = rw (place, stamp, body) x.there }

module _ {n : SpaceView} (from to number : ℕ) {bytes : List ℕ} {d : Data} (apart : from ≢ to)
    (there : frame_at n.sites from to number ≡ Some bytes)
    (reads : (x : Plain) → Fits x → bytes ≡ spelling x → plain_data d ≡ x) where
  of-frame : (w : World) → ShowsSpace n w → IsOfNet w to from d × (d.number ≡ number)
  of-frame w shown =
      let x = found apart there w shown.world in
      let same : plain_data d
      ≡ data_frame from to number x.message.stamp x.message.body = reads _ x.fits x.spelled in
      let place : d.number ≡ number = cc in
      (of-net d x same, place)

  -- what was kept, and perhaps the message that is delivered
  early-delivered : {m : SpaceView} (r : Result Answer Refusal) → GivenSpace r n m to (event.Data d)
      → KeepsSo n m (step.Deliver from to number) (outcome_by outcome.Answer r)
  early-delivered (Ok a) h w shown =
      let net = of-frame w shown in
      record { frame = d; numbered = net.1; is = net.0; early = early-given h w shown }
  early-delivered (Err f) h w shown = early-given h w shown ∙ set-get_or n.early to []

  pub delivered-space : {m : SpaceView} {r : Result Answer Refusal} → from < length n.sites
      → GivenSpace r n m to (event.Data d)
      → SteppedSpace (outcome_by outcome.Answer r) n m (step.Deliver from to number)
  delivered-space {r = r} less h =
      lifted refl
      (keeps-given h
      (λ w shown e is.
      let same : d ≡ e = cc in
      let net = (of-frame w shown).0 in
      subst (λ (z : Data). IsOfNet w to z.from z) same
      (subst (λ k. IsOfNet w to k d) (sym net.from) net)))
      (early-delivered r h)
      (delivered apart there less (sites-given h) reads)

-- ---- a node that doesn't exist

not-met : (n : SpaceView) (i : ℕ) (e : Event) → length n.early ≡ length n.sites
    → length n.sites ≤ i → step_met n.early (step.Act i e) ≡ step.Act i e
not-met n i (event.Next from) width past =
    let none : kept_at n.early i ≡ [] =
    get_or_past n.early i [] (omega (arith, width, past)) in
    let waits : waiting (kept_at n.early i) from ≡ None =
    ap (λ (es : Rings). waiting es from) none in
    ap (next_step i from) waits
not-met n i e width past = refl

pub no-node-acts : (n : SpaceView) (i : ℕ) (e : Event) → length n.early ≡ length n.sites
    → length n.sites ≤ i → SteppedSpace (Err NoNode) n n (step.Act i e)
no-node-acts n i e width past =
    lifted (not-met n i e width past) (keeps-same n)
    (λ w shown. sym (set_past n.early i _ (omega (arith, width, past))))
    (no-node n.sites (step.Act i e) past)

-- a step that changes nothing
pub same-space : {n : SpaceView} {s : Step} {r : Result Outcome Refusal} → step_met n.early s ≡ s
    → KeepsSo n n s r → Stepped r n.sites n.sites s → SteppedSpace r n n s
same-space {n = n} is early h = lifted is (keeps-same n) early h
