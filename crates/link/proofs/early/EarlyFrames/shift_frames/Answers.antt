use Rattle.std.proofs.Common.{◌≡◌, ◌∙◌, ◌∷◌, ◌++◌, ◌-◌, ℕ, [], List, Option, None, ap, sym, arith, length, length-append, length-drop, replicate}
use Rattle.ids.specs.declared.limits.TheConstants.{WINDOW}
use Rattle.msg.specs.declared.frame.Data.{Data}
use Rattle.link.proofs.Places.{all-none}
use Rattle.link.proofs.early.EarlyFrames.shift_frames.Goals as goal

pub invariant_of-self : goal.invariant_of-self
invariant_of-self c =
    let places = c.self.inside.places in
    let was = c.self.invariant in
    let more = places.items ++ None ∷ [] in
    let now : List (Option Data) = c.push_back.new.self.items in
    let long : length now ≡ WINDOW =
    rw c.push_back.ensures.items (
    omega (
      arith,
      was.0,
      was.1,
      length-append places.items (None ∷ []),
      length-drop (length more - places.capacity) more,
    )
    ) in (
      rw c.push_back.ensures.items was.0,
      long,
      λ empty.
          all-none now (sym c.are_empty-self-inside.ensures ∙ empty)
          ∙ ap (λ (n : ℕ). replicate n None) long,
    )
