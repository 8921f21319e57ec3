-- The view of `Links` that contracts use.
use Rattle.std.specs.Prelude.{◌≡◌, ℕ, zero, suc, min, max, ◌+◌, ◌<◌, ◌≤◌, ◌^◌, ◌==◌, Bool, cond, List, [], ◌∷◌, ◌++◌, length, map, replicate, slice_index_or, slice_set}
use Rattle.ids.specs.declared.limits.TheConstants.{GREATEST_NUMBER}
use Rattle.msg.specs.declared.body.Message.{Message}
use Rattle.model.specs.Steps.{fits}
use Rattle.model.specs.View.{Link, no_link, used, append_to, retracted, trimmed, all_kept, kept_to}
use Rattle.link_ends.specs.Senders.{IsLink}

-- For each node: what is kept of the messages to it, the number of the last message received from
-- it, and the number up to which its messages are acknowledged.
pub record LinksView : Type 0 where
  pub links : List Link
  pub got : List ℕ
  pub acks : List ℕ

-- the links of a node that has sent and received nothing, in a space of `width` nodes
abbrev pub new_links : ℕ → LinksView
new_links width =
    record { links = replicate width no_link; got = replicate width 0; acks = replicate width 0 }

abbrev pub link_at : LinksView → ℕ → Link
link_at v to = slice_index_or v.links to no_link

abbrev pub got_at : LinksView → ℕ → ℕ
got_at v from = slice_index_or v.got from 0

abbrev pub ack_at : LinksView → ℕ → ℕ
ack_at v from = slice_index_or v.acks from 0

-- a message for the node gets a number
abbrev pub fits_to : LinksView → ℕ → Message → Bool
fits_to v to x = fits (map used v.links) ((to, x) ∷ [])

abbrev pub appended_to : LinksView → ℕ → Message → LinksView
appended_to v to x = record v { links = append_to v.links ((to, x) ∷ []) }

-- a message for a node, unless that is the sender
abbrev pub for_other : ℕ → Message → ℕ → List (ℕ × Message)
for_other own x to = cond (to == own) [] ((to, x) ∷ [])

-- the same message for each other node below this number, in order of their numbers
abbrev pub for_others : ℕ → Message → ℕ → List (ℕ × Message)
for_others own x zero = []
for_others own x (suc n) = for_others own x n ++ for_other own x n

-- a message for every node except one gets all its numbers
abbrev pub fits_others : LinksView → ℕ → Message → Bool
fits_others v own x = fits (map used v.links) (for_others own x (length v.links))

-- the message is appended for the other nodes below this number, or for all of them
abbrev pub announced_below : LinksView → ℕ → Message → ℕ → LinksView
announced_below v own x n = record v { links = append_to v.links (for_others own x n) }

abbrev pub announced : LinksView → ℕ → Message → LinksView
announced v own x = announced_below v own x (length v.links)

abbrev pub retracted_to : LinksView → ℕ → LinksView
retracted_to v to = record v { links = slice_set v.links to (retracted (link_at v to)) }

abbrev pub trimmed_to : LinksView → ℕ → ℕ → LinksView
trimmed_to v to number = record v { links = slice_set v.links to (trimmed (link_at v to) number) }

abbrev pub taken_next_from : LinksView → ℕ → LinksView
taken_next_from v from = record v { got = slice_set v.got from (got_at v from + 1) }

-- all messages count as saved, and everything received may be acknowledged
abbrev pub kept_links : LinksView → LinksView
kept_links v = record v { links = map all_kept v.links; acks = v.got }

-- what was sent to a node and received from it counts as saved up to these numbers
abbrev pub kept_peer : LinksView → ℕ → ℕ → ℕ → LinksView
kept_peer v peer sent received = record v {
  links = slice_set v.links peer (kept_to sent (link_at v peer));
  acks = slice_set v.acks peer (max (ack_at v peer) (min received (got_at v peer)));
}

-- the three lists have the same length, and each link and each number is well-formed
pub record IsLinks (v : LinksView) : Type 0 where
  -- a node number is a byte
  pub width : length v.links < 2 ^ 8
  pub received : length v.got ≡ length v.links
  pub acked : length v.acks ≡ length v.links
  pub links : (i : ℕ) → IsLink (link_at v i)
  pub numbers : (i : ℕ) → got_at v i ≤ GREATEST_NUMBER
  -- what is acknowledged was received
  pub acks : (i : ℕ) → ack_at v i ≤ got_at v i
