-- What node 0 concludes from the token, and what it announces then.
use Rattle.std.proofs.Common.{◌≡◌, ℕ, Bool, true, false, cond, sym, ◌∙◌, refl}
use Rattle.msg.specs.declared.body.Body.TheVariants as body
use Rattle.msg.specs.declared.body.Token.{Token}
use Rattle.model.specs.Collecting.{is_concluded, new_token, without_token}
use Rattle.model.specs.Counting.{to_others}
use Rattle.model.specs.State.{Ring, LocalState}
use Rattle.cycles.specs.Phases.{with_ended}
use Rattle.cycles.specs.declared.verdict.Verdict.TheVariants.{Ended, Probe}
use Rattle.cycles.specs.Verdicts.{verdict_of}
use Rattle.link.proofs.Announcing.{to_others-is}

pub concluded : (r : Ring) → verdict_of r ≡ Ended → is_concluded r ≡ true
concluded r = either (is_concluded r)
  where
    either : (b : Bool) → cond b Ended (Probe new_token) ≡ Ended → b ≡ true
    either true e = refl
    either false e = absurd cc

pub continued : (r : Ring) {token : Token} → verdict_of r ≡ Probe token
    → (is_concluded r ≡ false) × (token ≡ new_token)
continued r {token = token} = either (is_concluded r)
  where
    either : (b : Bool) → cond b Ended (Probe new_token) ≡ Probe token
        → (b ≡ false) × (token ≡ new_token)
    either true e = absurd cc
    either false e = (refl, let same : new_token ≡ token = cc in sym same)

-- marking has ended, and the token has left
abbrev pub ended_local : LocalState → LocalState
ended_local p = record p { phases = with_ended p.phases; ring = without_token p.ring }

-- that changes nothing of what the node announces
pub told_same : (p : LocalState) (nodes : ℕ)
    → to_others (ended_local p) body.Ended nodes ≡ to_others p body.Ended nodes
told_same p nodes =
    to_others-is (ended_local p) body.Ended nodes ∙ sym (to_others-is p body.Ended nodes)

pub ruleset judging = (concluded, continued, told_same, to_others-is)
