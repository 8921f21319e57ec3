-- Calls made one after another.
use Rattle.std.proofs.Common.{◌≡◌, ℕ, ◌+◌, Bool, true, false, List, ◌∷◌, [], ◌++◌, Option, None, Some, Result, Ok, Err, IfErr, is_ok, sym, ap, ◌∙◌, subst, append_assoc, arith}
use Rattle.std.specs.Result.{result_err}
use Rattle.model.specs.declared.age.Scope.{Scope}
use Rattle.workers.specs.Calls.{Called, Makes, asked}
use Rattle.workers.specs.Turns.{at, collects, raises, saves, sends, takes}
use Rattle.workers.specs.declared.calls.CallsMade.{CallsMade}
use Rattle.workers.specs.declared.gate.Stage.{Stage}
use Rattle.workers.specs.declared.gate.Stage.TheVariants as stage

-- these calls, and then those
pub then : {first second : List Called} {r f s g : ℕ} {old middle new : CallsMade}
    → Makes first r f old middle → Makes second s g middle new
    → Makes (first ++ second) (r + s) (f + g) old new
then {first} {second} {r} {f} {s} {g} {old} {middle} {new} before after =
    let grouped : asked new ≡ (asked old ++ first) ++ second =
    subst (λ m. asked new ≡ m ++ second) before.asks after.asks in
    record {
      asks = rw append_assoc at grouped;
      receives = omega (arith, before.receives, after.receives);
      frees = omega (arith, before.frees, after.frees);
    }

-- a question to the gate, with its answer
pub answered : {node turn r f : ℕ} {s : Stage} {b : Bool} {old new : CallsMade} (answer : Bool)
    → b ≡ answer → Makes (at node turn s b ∷ []) r f old new
    → Makes (at node turn s answer ∷ []) r f old new
answered {node} {turn} {r} {f} {s} {old = old} {new = new} answer is makes =
    subst (λ a. Makes (at node turn s a ∷ []) r f old new) is makes

-- the calls of a turn whose last question has this answer
abbrev pub up_to_sent : ℕ → ℕ → ℕ → ℕ → Option Scope → Bool → Bool → List Called
up_to_sent node nodes turn scanned due unsaved goes_on =
    (at node turn stage.Start true ∷ [])
    ++ (takes node nodes ++ ((at node turn stage.TakenIn true ∷ [])
    ++ (collects scanned due ++ ((at node turn stage.Collected true ∷ [])
    ++ (saves unsaved ++ ((at node turn stage.Saved true ∷ [])
    ++ (sends node nodes ++ (raises node ++ at node turn stage.Sent goes_on ∷ []))))))))

-- a whole turn, whether or not its last question ends the worker
pub at-last : {T : Type 0} {calls : List Called} (part : Bool → List Called)
    (whole : Option Stage → List Called) (r : Result T Stage) → IfErr r (λ s. s ≡ stage.Sent)
    → part true ≡ whole None → part false ≡ whole (Some stage.Sent)
    → calls ≡ part (is_ok r) → calls ≡ whole (result_err r)
at-last part whole (Ok x) is goes_on ends made = made ∙ goes_on
at-last part whole (Err s) is goes_on ends made =
    made ∙ ends ∙ ap (λ t. whole (Some t)) (sym is)
