-- The links with these parts, in which everything counts as held by a saved state.
use Rattle.std.specs.Prelude.{ℕ, ◌+◌, ◌≤◌, List, length, map}
use Rattle.ids.specs.declared.limits.TheConstants.{GREATEST_NUMBER}
use Rattle.model.specs.View.{Link}
use Rattle.link_ends.specs.Receivers.{received}
use Rattle.link_ends.specs.Senders.{sent}
use Rattle.link.specs.Links.{LinksView}
use Rattle.link.specs.declared.links.Ends.{Ends}
use Rattle.link.specs.declared.parts.LinkParts.{LinkParts}

abbrev pub link_given : LinkParts → Link
link_given p = sent p.base p.messages.items

abbrev pub taken_given : LinkParts → ℕ
taken_given p = p.taken

abbrev pub links_given : List LinkParts → LinksView
links_given ps =
    record { links = map link_given ps; got = map taken_given ps; acks = map taken_given ps }

-- the ends, and what holds of their numbers
abbrev pub ends_given : LinkParts → Ends
ends_given p = record { sender = link_given p; receiver = received p.taken }

pub record IsNumbered (p : LinkParts) : Type 0 where
  pub sent : p.base + length p.messages.items ≤ GREATEST_NUMBER
  pub taken : p.taken ≤ GREATEST_NUMBER
