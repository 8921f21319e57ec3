-- Changes of one link.
use Rattle.std.proofs.Common.{◌≡◌, ℕ, ◌+◌, ◌-◌, ◌<◌, ◌≤◌, List, [], ◌∷◌, ◌++◌, length, Ok, ap, ◌∙◌, arith, length-append, length-drop}
use Rattle.std.specs.Prelude.{min, max}
use Rattle.std.proofs.lemmas.Bool.{lt-ltb, cond-true}
use Rattle.std.proofs.lemmas.Bool.Decides.{nat_tests}
use Rattle.std.proofs.lemmas.List.{take_at}
use Rattle.std.proofs.Math.Nat.{le-max_left, max-le, min-le_left, min-le_right}
use Rattle.msg.specs.declared.body.Message.{Message}
use Rattle.model.specs.View.{Link, no_link, used, appended, retracted, trimmed, all_kept, kept_to}
use Rattle.link_ends.specs.declared.receiver.Offer.TheVariants.{Next}
use Rattle.link_ends.specs.Receivers.{offered}
use Rattle.link_ends.specs.Senders.{IsLink}

-- messages that were dropped still count as appended
pub used-trimmed : (l : Link) (number : ℕ) → used (trimmed l number) ≡ used l
used-trimmed l number =
    let k = number - l.base in
    let n = length l.unacknowledged in
    omega (arith, length-drop k l.unacknowledged, min-le_left k n, min-le_right k n)

-- the message that was appended last is retracted
pub retracted-appended : (l : Link) (x : Message) → l.kept ≤ used l → retracted (appended l x) ≡ l
retracted-appended l x h =
    let xs = l.unacknowledged in
    let longer = length-append xs (x ∷ []) in
    let unsaved : l.kept < used (appended l x) = omega (arith, h, longer) in
    let front : length xs ≡ length (xs ++ x ∷ []) - 1 = omega (arith, longer) in
    cond-true _ _ (appended l x) (lt-ltb _ _ unsaved)
    ∙ ap (λ (ys : List Message). record l { unacknowledged = ys }) (take_at xs (x ∷ []) _ front)

pub link-none : IsLink no_link
link-none = record { base = omega arith; kept = omega arith; used = omega arith }

pub link-kept : (l : Link) → IsLink l → IsLink (all_kept l)
link-kept l h = record { base = omega (arith, h.base, h.kept); kept = omega arith; used = h.used }

pub link-kept_to : (l : Link) (number : ℕ) → IsLink l → IsLink (kept_to number l)
link-kept_to l number h =
    let more : l.kept ≤ max l.kept (min number (used l)) = le-max_left _ _ in
    record {
      base = omega (arith, h.base, more);
      kept = max-le h.kept (min-le_right number (used l));
      used = h.used;
    }

-- a message that is the next one has the next number
pub offered-next : (taken number : ℕ) → offered taken number ≡ Ok Next → number ≡ taken + 1
offered-next taken number next = grind (arith, nat_tests)
