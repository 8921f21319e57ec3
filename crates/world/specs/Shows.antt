-- How the code's space shows a space of the definitions.
use Rattle.std.specs.Prelude.{◌≡◌, ◌≢◌, ℕ, ◌<◌, ◌≤◌, List, length, map, cond, IsTrue, IfOk, IfErr, OnErr, ◌↔◌, slice_get, slice_set, slice_index_or, Option, Some, None, Result, Err}
use Rattle.ids.specs.Limits.{plain_shape}
use Rattle.ids.specs.declared.refusal.Refusal.{Refusal}
use Rattle.ids.specs.declared.refusal.Refusal.TheVariants.{Memory, NoNode, ImageTooLarge}
use Rattle.ids.specs.declared.limits.TheConstants.{GREATEST_NODES}
use Rattle.msg.specs.declared.frame.Ack.{Ack}
use Rattle.model.specs.declared.event.Event.{Event}
use Rattle.model.specs.declared.event.Accepted.{Accepted}
use Rattle.model.specs.declared.event.Answer.{Answer}
use Rattle.model.specs.declared.step.Step.{Step}
use Rattle.model.specs.declared.step.Step.TheVariants as step
use Rattle.model.specs.declared.step.Outcome.{Outcome}
use Rattle.model.specs.declared.step.Outcome.TheVariants as outcome
use Rattle.model.specs.State.{NodeState, node_at, sent_to}
use Rattle.model.specs.Heaps.{heap_bytes, heap_letter, heap_letter_bytes}
use Rattle.model.specs.Steps.{is_addressed}
use Rattle.model.specs.View.{NodeView, Shows, link_to}
use Rattle.model.specs.World.{World, KeepsSent, FollowsStep, acknowledged, is_node, is_step_memory_free}
use Rattle.image.specs.Images.{IsTooLarge}
use Rattle.node.specs.Summaries.{summary_of}
use Rattle.model.specs.declared.summary.Summary.{Summary}
use Rattle.world.specs.Outboxes.{IsFrameOf, numbered_bytes}
use Rattle.world.specs.Sites.{SiteView, Acted, frames_to, new_site, bases, bases_to}

-- the site of a node; past the last one, a site that no space has
abbrev pub no_site : SiteView
no_site = new_site (plain_shape 0 0 0) 1

abbrev pub site_at : List SiteView → ℕ → SiteView
site_at sites i = slice_index_or sites i no_site

-- the frame of this number from one node to another, if it was released
abbrev pub frame_at : List SiteView → (from to number : ℕ) → Option (List ℕ)
frame_at sites from to number = numbered_bytes (frames_to (site_at sites from) to) number

-- what the saved node `to` acknowledges to the node `from`, and `from` accepts it as addressed to
-- it
pub record IsAckOf (sites : List SiteView) (from to : ℕ) (a : Ack) : Type 0 where
  pub by : a.by ≡ to
  pub of : a.of ≡ from
  pub number : a.number ≡ slice_index_or (site_at sites to).saved.acks from 0
  pub addressed : IsTrue (is_addressed (site_at sites from).current.local a.by a.of)

-- The node, current or saved, shows the state. Its saved state says how many messages it counts as
-- released, and what it acknowledges. It has dropped no message above the number acknowledged to
-- it.
pub record ShowsNode (saved : NodeState) (acked : ℕ → ℕ) (n : NodeView)
    (s : NodeState) : Type 0 where
  pub shows : Shows n s
  pub counted : (j : ℕ) → (link_to n j).kept ≡ length (sent_to saved j)
  pub acks : n.acks ≡ saved.local.got
  pub keeps : (j : ℕ) → (link_to n j).base ≤ acked j

pub record ShowsSite (w : World) (i : ℕ) (q : SiteView) : Type 0 where
  pub current : ShowsNode (node_at w.saved i) (acknowledged w i) q.current (node_at w.current i)
  pub saved : ShowsNode (node_at w.saved i) (acknowledged w i) q.saved (node_at w.saved i)
  -- each released frame spells the message of its number, and each message has one
  pub released : (j k : ℕ) → i ≢ j
      → IsFrameOf i j k (slice_get (sent_to (node_at w.saved i) j) k) (slice_get (frames_to q j) k)

pub record ShowsWorld (sites : List SiteView) (w : World) : Type 0 where
  pub width : length sites ≡ length w.current
  pub grown : KeepsSent w
  pub each : (i : ℕ) → ShowsSite w i (site_at sites i)

-- the node has this number, in a space of this many nodes
pub record IsPlaced (count i : ℕ) (n : NodeView) : Type 0 where
  pub own : n.local.own ≡ i
  pub nodes : n.local.shape.nodes ≡ count

pub record IsSim (sites : List SiteView) : Type 0 where
  pub some : 0 < length sites
  pub small : length sites ≤ GREATEST_NODES
  pub current : (i : ℕ) → i < length sites → IsPlaced (length sites) i (site_at sites i).current
  pub saved : (i : ℕ) → i < length sites → IsPlaced (length sites) i (site_at sites i).saved

-- the answer of the current node of this number to an event, and the space after it
pub record Given (result : Result Answer Refusal) (old new : List SiteView) (i : ℕ)
    (e : Event) : Type 0 where
  pub within : i < length old
  pub site : SiteView
  pub acted : Acted result (site_at old i) site e
  pub others : new ≡ slice_set old i site

-- how many messages the nodes of a site have dropped
pub record SiteBases : Type 0 where
  pub current : List ℕ
  pub saved : List ℕ

abbrev pub site_bases : SiteView → SiteBases
site_bases q = record { current = bases q.current; saved = bases q.saved }

abbrev pub bases_of : List SiteView → List SiteBases
bases_of sites = map site_bases sites

abbrev pub bases_at : List SiteBases → ℕ → SiteBases
bases_at all i = slice_index_or all i (site_bases no_site)

-- The same after an answered step. Only an acknowledgement makes a node drop messages, up to its
-- number. A save and a restart make both nodes of a site the same.
abbrev pub bases_after : List SiteBases → Step → Outcome → List SiteBases
bases_after all (step.Save i) o = slice_set all i
    (record (bases_at all i) { saved = (bases_at all i).current })
bases_after all (step.Restart i) o =
    slice_set all i (record (bases_at all i) { current = (bases_at all i).saved })
bases_after all (step.Hand from to) (outcome.Handed number) =
    slice_set all from
    (record (bases_at all from) { current = bases_to (bases_at all from).current to number })
bases_after all s o = all

-- the step saves a node that exists, and the node's image is too large
abbrev pub SavesTooLarge : List SiteView → Step → Type 0
SavesTooLarge sites (step.Save i) =
    (i < length sites) × IsTooLarge (site_at sites i).current
SavesTooLarge sites s = ⊥

-- some node's image is too large, so it can't be saved
pub record HasTooLarge (sites : List SiteView) : Type 0 where
  pub node : ℕ
  pub inside : node < length sites
  pub too_large : IsTooLarge (site_at sites node).current

-- A step compared with that of the definitions, on each of their spaces that was shown before.
abbrev pub FollowsShown : Result Outcome Refusal → List SiteView → List SiteView → Step → Type 0
FollowsShown result old new s =
    (w : World) → ShowsWorld old w → FollowsStep ShowsWorld w s result new

-- The result of a step, and the space after it. An answer is that of the definitions, whose new
-- space is then shown. A refusal is the first that applies, or `ImageTooLarge`, and changes
-- nothing.
pub record Stepped (result : Result Outcome Refusal) (old new : List SiteView)
    (s : Step) : Type 0 where
  pub follows : FollowsShown result old new s
  pub too_large : result ≡ Err ImageTooLarge ↔ SavesTooLarge old s
  pub unchanged : OnErr result (new ≡ old)
  pub lets_go : IfOk result (λ o. bases_of new ≡ bases_after (bases_of old) s o)
  pub memory_free : (w : World) → ShowsWorld old w → IsTrue (is_step_memory_free w s)
      → IfErr result (λ e. e ≢ Memory)

-- what is read of an object that a register of the current node of this number refers to: this
-- many bytes, from this offset on
abbrev pub bytes_read : World → ℕ → ℕ → ℕ → ℕ → Result (List ℕ) Refusal
bytes_read w i object offset count =
    let p = (node_at w.current i).local in
    cond (is_node w i) (heap_bytes p.own p.heap object offset count) (Err NoNode)

-- what is told of the oldest letter of the current node of this number, and the letter's bytes
abbrev pub letter_read : World → ℕ → Result Accepted Refusal
letter_read w i = cond (is_node w i) (heap_letter (node_at w.current i).local.heap) (Err NoNode)

abbrev pub letter_bytes_read : World → ℕ → Result (List ℕ) Refusal
letter_bytes_read w i =
    cond (is_node w i) (heap_letter_bytes (node_at w.current i).local.heap) (Err NoNode)

-- the current node of this number, in numbers
abbrev pub summary_at : World → ℕ → Option Summary
summary_at w i = cond (is_node w i) (Some (summary_of (node_at w.current i).local)) None
