-- A space of the code, together with the early messages that its nodes keep, compared with a space
-- of the definitions.
use Rattle.std.specs.Prelude.{◌≡◌, ◌≢◌, ℕ, ◌++◌, List, [], ◌∷◌, length, map, IsTrue, IfOk, IfErr, OnErr, ◌↔◌, slice_index_or, Option, None, Some, Result, Ok, Err, ◌<◌, slice_set}
use Rattle.ids.specs.Limits.{Shaped}
use Rattle.ids.specs.declared.refusal.Refusal.{Refusal}
use Rattle.ids.specs.declared.refusal.Refusal.TheVariants.{Memory, ImageTooLarge}
use Rattle.msg.specs.declared.frame.Data.{Data}
use Rattle.model.specs.declared.event.Event.{Event}
use Rattle.model.specs.declared.event.Event.TheVariants as event
use Rattle.model.specs.declared.event.Answer.{Answer}
use Rattle.model.specs.declared.event.Answer.TheVariants as answer
use Rattle.model.specs.declared.step.Step.{Step}
use Rattle.model.specs.declared.step.Step.TheVariants as step
use Rattle.model.specs.declared.step.Outcome.{Outcome}
use Rattle.model.specs.declared.step.Outcome.TheVariants as outcome
use Rattle.model.specs.State.{node_at}
use Rattle.model.specs.World.{World, FollowsStep, new_world, released, run, is_step_memory_free}
use Rattle.link.specs.Early.{place_at}
use Rattle.node.specs.Keeping.{Rings, early_after, no_rings, own_step, ring_of}
use Rattle.world.specs.Sites.{SiteView, KeepingSite, ActedKeeping}
use Rattle.world.specs.Shows.{ShowsWorld, SavesTooLarge, bases_of, bases_after, site_at}

-- the sites, and for each of them the early messages that its current node keeps
pub record SpaceView : Type 0 where
  pub sites : List SiteView
  pub early : List Rings

abbrev pub site_of : KeepingSite → SiteView
site_of q = q.site

abbrev pub early_of : KeepingSite → Rings
early_of q = q.early

abbrev pub space_of : List KeepingSite → SpaceView
space_of qs = record { sites = map site_of qs; early = map early_of qs }

-- what a node keeps; one that doesn't exist keeps nothing
abbrev pub kept_at : List Rings → ℕ → Rings
kept_at all i = slice_index_or all i []

-- one site of the space
abbrev pub keeping_at : SpaceView → ℕ → KeepingSite
keeping_at n i = record { site = site_at n.sites i; early = kept_at n.early i }

-- the answer of the current node of this number to an event, and the space after it
pub record GivenSpace (result : Result Answer Refusal) (old new : SpaceView) (i : ℕ)
    (e : Event) : Type 0 where
  pub within : i < length old.sites
  pub site : KeepingSite
  pub acted : ActedKeeping result (keeping_at old i) site e
  pub sites : new.sites ≡ slice_set old.sites i site.site
  pub early : new.early ≡ slice_set old.early i site.early

-- The step of the definitions that a step is, by what the nodes keep. Next of a frame that waits is
-- its delivery.
abbrev pub step_met : List Rings → Step → Step
step_met all (step.Act i e) = own_step (kept_at all i) i e
step_met all s = s

-- the frame is of a message to the node that was released
pub record IsOfNet (w : World) (i sender : ℕ) (d : Data) : Type 0 where
  pub from : d.from ≡ sender
  pub to : d.to ≡ i
  pub there : released w sender i d.number ≡ Some (record { stamp = d.stamp; body = d.body })

-- The sites show the space, and each kept frame is of a message that was released.
pub record ShowsSpace (n : SpaceView) (w : World) : Type 0 where
  pub world : ShowsWorld n.sites w
  pub width : length n.early ≡ length n.sites
  pub held : (i from place : ℕ) (d : Data)
      → place_at (ring_of (kept_at n.early i) from) place ≡ Some d → IsOfNet w i from d

-- ---- what is kept after a step

-- what the nodes keep after one of them gave this answer to an event
abbrev pub given_early : World → List Rings → ℕ → Event → Result Answer Refusal → List Rings
given_early w all i e r =
    slice_set all i (early_after (node_at w.current i).local (kept_at all i) e r)

-- the message of this number was delivered, with this answer
pub record KeepsDelivered (w : World) (all : List Rings) (from to number : ℕ) (a : Answer)
    (es : List Rings) : Type 0 where
  pub frame : Data
  pub numbered : frame.number ≡ number
  pub is : IsOfNet w to from frame
  pub early : es ≡ given_early w all to (event.Data frame) (Ok a)

-- What the nodes of a space keep after a step, by what they kept before. A restart loses what its
-- node keeps; a save and an acknowledgement don't change it.
abbrev pub KeepsAfter : World → List Rings → Step → Result Outcome Refusal → List Rings → Type 0
KeepsAfter w all (step.Act i e) (Ok (outcome.Answer a)) es = es ≡ given_early w all i e (Ok a)
KeepsAfter w all (step.Act i e) (Err r) es = es ≡ given_early w all i e (Err r)
KeepsAfter w all (step.Restart i) (Ok o) es =
    es ≡ slice_set all i (no_rings (length w.current))
KeepsAfter w all (step.Deliver from to number) (Ok (outcome.Answer a)) es =
    KeepsDelivered w all from to number a es
KeepsAfter w all s r es = es ≡ all

-- ---- a step

-- the outcome of a step, by what a call for such steps alone returns
abbrev pub outcome_by : {A : Type 0} → (A → Outcome) → Result A Refusal → Result Outcome Refusal
outcome_by o (Ok x) = Ok (o x)
outcome_by o (Err f) = Err f

-- the outcome of a delivery, by the node's answer if there was a frame
abbrev pub delivered : Option Answer → Outcome
delivered (Some a) = outcome.Answer a
delivered None = outcome.NoFrame

-- the outcome of an acknowledgement, by its number if there was one
abbrev pub handed : Option ℕ → Outcome
handed (Some number) = outcome.Handed number
handed None = outcome.NoFrame

-- A step compared with the definitions' step that it is, on each of their spaces that was shown
-- before.
abbrev pub FollowsSpace : Result Outcome Refusal → SpaceView → SpaceView → Step → Type 0
FollowsSpace result old new s =
    (w : World) → ShowsSpace old w → FollowsStep ShowsSpace w (step_met old.early s) result new

-- Steps one after another are a run of the definitions, without those that fail with `Memory` or
-- `ImageTooLarge`.
abbrev pub ExtendsSpace : Result Outcome Refusal → SpaceView → SpaceView → Step → Type 0
ExtendsSpace result old new s =
    (shape : Shaped) (steps : List Step) → ShowsSpace old (run (new_world shape) steps)
    → result ≢ Err Memory → result ≢ Err ImageTooLarge
    → ShowsSpace new (run (new_world shape) (steps ++ step_met old.early s ∷ []))

-- The result of a step, and the space after it. A refusal leaves every site as it was, but an early
-- frame may have left its place.
pub record SteppedSpace (result : Result Outcome Refusal) (old new : SpaceView) (s : Step)
    : Type 0 where
  pub follows : FollowsSpace result old new s
  pub runs : ExtendsSpace result old new s
  pub too_large : result ≡ Err ImageTooLarge ↔ SavesTooLarge old.sites s
  pub unchanged : OnErr result (new.sites ≡ old.sites)
  pub early : (w : World) → ShowsSpace old w → KeepsAfter w old.early s result new.early
  pub turn : step_met old.early s ≢ s → IfOk result (λ o. o ≡ outcome.Answer answer.Received)
  pub lets_go : IfOk result (λ o. bases_of new.sites ≡ bases_after (bases_of old.sites) s o)
  pub memory_free : (w : World) → ShowsSpace old w
      → IsTrue (is_step_memory_free w (step_met old.early s))
      → IfErr result (λ e. e ≢ Memory)
