-- A message that a node keeps may be sent.
use Rattle.std.proofs.Common.{◌≡◌, ℕ, ◌+◌, ◌-◌, ◌<◌, ◌≤◌, ◌&&◌, Bool, true, false, cond, List, [], ◌∷◌, length, Option, Some, None, option_to_list, slice_get, refl, subst, arith}
use Rattle.std.specs.List.{AllByRecursion, list_all}
use Rattle.std.proofs.lemmas.Bool.{and_from, le-leb}
use Rattle.std.proofs.lemmas.Bool.Decides.{nat_tests}
use Rattle.ids.specs.Limits.{Shaped, IsShape, reference_fits}
use Rattle.ids.specs.declared.names.Ref.{Ref}
use Rattle.msg.specs.Limits.{body_fits, data_fits, fetch_fits, optional_fits, place_fits}
use Rattle.msg.specs.declared.body.Body.{Body}
use Rattle.msg.specs.declared.body.Body.TheVariants as body
use Rattle.std.specs.Prelude.{nat_le, nat_lt}
use Rattle.std.proofs.lemmas.Option.{get_or_from_slice_get}
use Rattle.ids.specs.declared.limits.TheConstants.{GREATEST_LETTER, GREATEST_NUMBER, GREATEST_PLACES, WINDOW, WORD_BYTES}
use Rattle.msg.specs.declared.body.Message.{Message}
use Rattle.model.specs.References.{IsPlaced, IsSendable, IsWithin, no_message}
use Rattle.model.specs.Shading.{filled}
use Rattle.model.specs.Steps.{mentioned}
use Rattle.model.specs.View.{Link, NodeView, is_other, link_to, message_of, released_at}
use Rattle.node.specs.Invariant.{IsNode}

-- ---- what it says is within the limits of frames

module _ (shape : Shaped) (is : IsShape shape) where
  reference-fits : (r : Ref) → IsWithin shape r → reference_fits r ≡ true
  reference-fits r within = grind (arith, nat_tests, is, within)

  any-fits : (v : Option Ref) → AllByRecursion (IsWithin shape) (option_to_list v)
      → optional_fits v ≡ true
  any-fits None within = refl
  any-fits (Some r) within = reference-fits r within.0

  all-fit : (vs : List (Option Ref)) → AllByRecursion (IsWithin shape) (filled vs)
      → list_all optional_fits vs ≡ true
  all-fit [] within = refl
  all-fit (None ∷ vs) within = all-fit vs within
  all-fit (Some r ∷ vs) within =
      and_from (reference_fits r) (list_all optional_fits vs) (reference-fits r within.0)
      (all-fit vs within.1)

  place-fits : (target : Ref) (place : ℕ) → IsWithin shape target → place < shape.places
      → place_fits target place ≡ true
  place-fits target place within below =
      let fits = reference-fits target within in grind (arith, nat_tests, is, fits, below)

  sendable-fits : (b : Body) → AllByRecursion (IsWithin shape) (mentioned b) → IsPlaced shape b
      → body_fits b ≡ true
  sendable-fits (body.Mark target) within placed = reference-fits target within.0
  sendable-fits (body.Give label reference) within placed = any-fits reference within
  sendable-fits (body.Put target place reference) within placed =
      and_from (place_fits target place) (optional_fits reference)
      (place-fits target place within.0 placed) (any-fits reference within.1)
  sendable-fits (body.Get target place label) within placed =
      place-fits target place within.0 placed
  sendable-fits (body.Post label references bytes) within placed =
      and_from (nat_le (length references) GREATEST_PLACES) _
      (le-leb (length references) GREATEST_PLACES (omega (arith, placed.1, is.most_places)))
      (and_from (nat_le (length bytes) GREATEST_LETTER) _
      (le-leb (length bytes) GREATEST_LETTER placed.2) (all-fit references within))
  sendable-fits (body.Fetch target label offset count) within placed =
      and_from (reference_fits target) (fetch_fits count) (reference-fits target within.0)
      (le-leb (WORD_BYTES + count) GREATEST_LETTER placed.1)
  sendable-fits b within placed = refl

-- a frame with this message, and these addresses and number
pub frame-fits : (n : NodeView) (to number : ℕ) (x : Message) → IsNode n
    → is_other n.local to ≡ true → 1 ≤ number → number ≤ GREATEST_NUMBER
    → IsSendable n.local.shape x → data_fits n.local.own to number x.stamp x.body ≡ true
frame-fits n to number x old other first last may =
    let fits = sendable-fits n.local.shape old.shape x.body may.references may.place in
    let own = old.own in
    let nodes = old.shape in
    let stamp = may.stamp in
    grind (arith, nat_tests, other, first, last, stamp, fits, own, nodes)

module _ (n : NodeView) (old : IsNode n) (to : ℕ) (x : Message) where
  abbrev link : Link
  link = link_to n to

  stands : (k : ℕ) → slice_get link.unacknowledged k ≡ Some x → IsSendable n.local.shape x
  stands k there =
      subst (IsSendable n.local.shape)
      (get_or_from_slice_get link.unacknowledged k x no_message there)
      (old.links.messages to k)

  pub numbered-sendable : (number : ℕ) → message_of link number ≡ Some x
      → IsSendable n.local.shape x
  numbered-sendable number = either (nat_le number link.base)
    where
      either : (gone : Bool)
          → cond gone None (slice_get link.unacknowledged (number - link.base - 1)) ≡ Some x
          → IsSendable n.local.shape x
      either true never = absurd cc
      either false there = stands (number - link.base - 1) there

  pub released-sendable : (place : ℕ) → released_at link place ≡ Some x
      → IsSendable n.local.shape x
  released-sendable place = either (nat_lt place WINDOW && nat_lt (link.base + place) link.kept)
    where
      either : (shown : Bool) → cond shown (slice_get link.unacknowledged place) None ≡ Some x
          → IsSendable n.local.shape x
      either true there = stands place there
      either false never = absurd cc
