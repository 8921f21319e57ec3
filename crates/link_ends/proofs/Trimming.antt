-- Acknowledged messages are dropped one by one.
use Rattle.std.proofs.Common.{ℕ, zero, suc, ◌+◌, ◌-◌, ◌<◌, ◌≤◌, ◌≡◌, ◌∷◌, [], List, length, drop, min, refl, ap, sym, ◌∙◌, arith}
use Rattle.msg.specs.declared.body.Message.{Message}
use Rattle.model.specs.View.{Link, trimmed, used}
use Rattle.link_ends.specs.Senders.{IsLink}

-- This is on the way from a link to the one without the messages up to this number.
pub record Trims (l : Link) (number : ℕ) (now : Link) : Type 0 where
  pub link : IsLink now
  pub released : number ≤ now.kept
  pub goal : trimmed now number ≡ trimmed l number

cut : (base kept number k : ℕ) (x : Message) (xs : List Message)
    → number - base ≡ suc k → number - (base + 1) ≡ k
    → trimmed (record { base = base + 1; unacknowledged = xs; kept = kept }) number
    ≡ trimmed (record { base = base; unacknowledged = x ∷ xs; kept = kept }) number
cut base kept number k x xs some less =
    rw (some, less)
    (ap (λ n. record { base = n; unacknowledged = drop k xs; kept = kept }) (omega arith))

pub trims-next : {l : Link} {number : ℕ} (base kept : ℕ) (ms : List Message)
    → Trims l number (record { base = base; unacknowledged = ms; kept = kept }) → base < number
    → Trims l number (record { base = base + 1; unacknowledged = drop 1 ms; kept = kept })
trims-next base kept [] t less = absurd (omega (arith, less, t.released, t.link.kept))
trims-next {l} {number} base kept (x ∷ xs) t less =
    record {
      link = record {
        base = omega (arith, less, t.released);
        kept = omega (arith, t.link.kept);
        used = omega (arith, t.link.used);
      };
      released = t.released;
      goal = cut base kept number (number - (base + 1)) x xs (omega (arith, less)) refl ∙ t.goal;
    }

-- once no message is left to drop
pub trims-done : {l : Link} {number : ℕ} {now : Link} → Trims l number now → number ≤ now.base
    → now ≡ trimmed l number
trims-done {number = number} {now} t none =
    let nothing : number - now.base ≡ 0 = omega (arith, none) in
    let same : trimmed now number ≡ now =
    rw nothing (ap (λ n. record now { base = n }) (omega arith)) in
    sym same ∙ t.goal
