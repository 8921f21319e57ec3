-- The outcome of asking the owners of references to mark them.
use Rattle.std.specs.Prelude.{◌≡◌, ◌≢◌, ℕ, Bool, true, false, cond, List, [], ◌++◌, map}
use Rattle.ids.specs.declared.names.Ref.{Ref}
use Rattle.ids.specs.declared.refusal.Refusal.{Refusal}
use Rattle.ids.specs.declared.refusal.Refusal.TheVariants.{LinkSpent, Memory}
use Rattle.msg.specs.declared.body.Message.{Message}
use Rattle.model.specs.Shading.{marks_for}
use Rattle.model.specs.Steps.{fits}
use Rattle.model.specs.View.{used, append_to}
use Rattle.link.specs.Links.{LinksView}

-- each of these messages comes last on its link
abbrev pub all_appended : LinksView → List (ℕ × Message) → LinksView
all_appended v ms = record v { links = append_to v.links ms }

-- these messages get numbers, and are appended
pub record AreSent (ms : List (ℕ × Message)) (was links : LinksView) : Type 0 where
  pub fits : fits (map used was.links) ms ≡ true
  pub sent : links ≡ all_appended was ms

-- The new references come after those that were asked for before. Each has a Mark of this cycle,
-- last on the link to its owner, in the same order.
pub record IsAsked (before new : List Ref) (cycle : ℕ) (was : LinksView) (asked : List Ref)
    (links : LinksView) : Type 0 where
  pub keys : asked ≡ before ++ new
  pub fits : fits (map used was.links) (marks_for cycle new) ≡ true
  pub sent : links ≡ all_appended was (marks_for cycle new)

-- The new references come after those that were asked for before. If Marks are due, each has one.
pub record IsSeen (due : Bool) (before new : List Ref) (cycle : ℕ) (was : LinksView)
    (asked : List Ref) (links : LinksView) : Type 0 where
  pub keys : asked ≡ before ++ new
  pub sent : AreSent (marks_for cycle (cond due new [])) was links

-- The refusal of a call whose messages weren't appended. It is Memory, which may come before a link
-- turns out to have no number left, or LinkSpent, which comes only if some message gets no number.
abbrev pub IsRefused : LinksView → List (ℕ × Message) → Refusal → Type 0
IsRefused v ms e = e ≢ Memory → (e ≡ LinkSpent) × (fits (map used v.links) ms ≡ false)
