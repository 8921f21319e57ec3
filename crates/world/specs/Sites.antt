-- One node of a space: the current node, the one saved last, and the frames of its messages.
use Rattle.std.specs.Prelude.{◌≡◌, ◌≢◌, ℕ, ◌≤◌, true, List, length, map, max, replicate, Option, Some, None, Result, IfOk, IfErr, OnErr, IsTrue, slice_set, slice_index_or, []}
use Rattle.ids.specs.Limits.{Shaped}
use Rattle.ids.specs.declared.refusal.Refusal.{Refusal}
use Rattle.ids.specs.declared.refusal.Refusal.TheVariants.{Memory}
use Rattle.msg.specs.Frames.{Plain, data_frame, ack_frame, plain_data}
use Rattle.msg.specs.Limits.{is_post}
use Rattle.msg.specs.declared.frame.Ack.{Ack}
use Rattle.msg.specs.declared.frame.Data.{Data}
use Rattle.frames.specs.Grammar.{Fits, spelling}
use Rattle.model.specs.declared.event.Event.{Event}
use Rattle.model.specs.declared.event.Answer.{Answer}
use Rattle.model.specs.declared.event.Answer.TheVariants as answer
use Rattle.model.specs.Steps.{ack_of, is_memory_free, is_shading}
use Rattle.model.specs.View.{NodeView, Performs, Leaves, view_act, new_view, kept_view, link_to, used, base_of}
use Rattle.node.specs.Keeping.{Rings, WholeNode, AreKeptIn, no_rings, met, early_after}
use Rattle.world.specs.Outboxes.{Releases}

pub record SiteView : Type 0 where
  pub current : NodeView
  pub saved : NodeView
  -- for each node, the frames of all messages to it that were ever released
  pub released : List (List (List ℕ))

abbrev pub frames_to : SiteView → ℕ → List (List ℕ)
frames_to q to = slice_index_or q.released to []

-- a new node, which counts as saved
abbrev pub new_site : Shaped → ℕ → SiteView
new_site shape own =
    record {
      current = new_view shape own;
      saved = new_view shape own;
      released = replicate shape.nodes [];
    }

-- On each link, no more messages are dropped than count as released. The released ones were
-- appended and, except on the node's link to itself, have frames.
pub record IsBacked (released : List (List (List ℕ))) (n : NodeView) : Type 0 where
  pub base : (j : ℕ) → (link_to n j).base ≤ (link_to n j).kept
  pub kept : (j : ℕ) → (link_to n j).kept ≤ used (link_to n j)
  pub frames : (j : ℕ) → j ≢ n.local.own
      → (link_to n j).kept ≤ length (slice_index_or released j [])

-- current and saved are one node, with frames for each node of the space
pub record IsSite (q : SiteView) : Type 0 where
  pub shape : q.saved.local.shape ≡ q.current.local.shape
  pub own : q.saved.local.own ≡ q.current.local.own
  -- what the saved node has received, which the current one knows
  pub acks : q.saved.acks ≡ q.current.acks
  pub width : length q.released ≡ q.current.local.shape.nodes
  pub current : IsBacked q.released q.current
  pub saved : IsBacked q.released q.saved

-- How many messages the node has dropped, for each link. These numbers and the state that the node
-- shows determine what it keeps.
abbrev pub bases : NodeView → List ℕ
bases n = map base_of n.links

-- the same once the messages to a node up to this number are dropped
abbrev pub bases_to : List ℕ → ℕ → ℕ → List ℕ
bases_to all to number = slice_set all to (max number (slice_index_or all to 0))

abbrev pub bases_acked : List ℕ → Option Ack → List ℕ
bases_acked all None = all
bases_acked all (Some a) = bases_to all a.by a.number

-- the answer of the current node to an event, and the site after it
pub record Acted (result : Result Answer Refusal) (old new : SiteView) (e : Event) : Type 0 where
  pub performs : Performs (is_shading e) result new.current (view_act old.current e)
  pub unchanged : OnErr result (new ≡ old)
  pub others : new ≡ record old { current = new.current }
  pub leaves : Leaves old.current new.current e
  pub lets_go : IfOk result (λ a. bases new.current ≡ bases_acked (bases old.current) (ack_of e))
  pub memory_free : IsTrue (is_memory_free old.current.local e) → IfErr result (λ r. r ≢ Memory)

-- a site after a save: all messages of the node are released
pub record Saves (old new : SiteView) : Type 0 where
  pub current : new.current ≡ kept_view old.current
  pub saved : new.saved ≡ kept_view old.current
  pub frames : Releases old.current old.released new.released

-- ---- the early messages that the current node keeps

-- the bytes spell this message, which is a letter with references and bytes
pub record IsLetterOf (bytes : List ℕ) (d : Data) : Type 0 where
  pub letter : is_post d.body ≡ true
  pub fits : Fits (plain_data d)
  pub spelled : bytes ≡ spelling (plain_data d)

abbrev pub IsNoMessage : Plain → Type 0
IsNoMessage (data_frame from to number stamp body) = ⊥
IsNoMessage (ack_frame by of number) = Unit

-- the bytes spell no message
abbrev pub SpellNoMessage : List ℕ → Type 0
SpellNoMessage bytes = (x : Plain) → Fits x → bytes ≡ spelling x → IsNoMessage x

-- A site, and the early messages that its current node keeps. No saved node has these.
pub record KeepingSite : Type 0 where
  pub site : SiteView
  pub early : Rings

abbrev pub new_keeping : Shaped → ℕ → KeepingSite
new_keeping shape own = record { site = new_site shape own; early = no_rings shape.nodes }

abbrev pub whole_at : KeepingSite → WholeNode
whole_at q = record { core = q.site.current; early = q.early }

-- the saved node is the current one again, and keeps no early messages
abbrev pub restarted : KeepingSite → KeepingSite
restarted q = record {
  site = record q.site { current = q.site.saved };
  early = no_rings q.site.saved.local.shape.nodes;
}

-- The answer of the current node to an event, and the site after it: the change to the core, and
-- the early messages that are then kept.
pub record ActedKeeping (result : Result Answer Refusal) (old new : KeepingSite) (e : Event) : Type
    0
  where
    pub acted : Acted result old.site new.site (met old.early e)
    pub early : new.early ≡ early_after old.site.current.local old.early e result
    pub turn : met old.early e ≢ e → IfOk result (λ a. a ≡ answer.Received)
    pub kept : AreKeptIn (whole_at new)
