-- What the calls on programs say to C.
use Rattle.std.specs.Prelude.{◌≡◌, ℕ, ℤ, pos, ◌⊎◌}
use Rattle.programs.specs.declared.program.Opening.{Opening}
use Rattle.programs.specs.declared.program.Opening.TheVariants as opening
use Rattle.programs.specs.declared.program.Program.{Program}
use Rattle.programs.specs.declared.program.Request.{Request}
use Rattle.programs.specs.declared.program.Request.TheVariants as request
use Rattle.programs.specs.Decisions.{after_opening, after_request, IsOpening, IsRequest}

-- the verdicts of markring_programs.h
abbrev pub opening_verdict : Opening → ℤ
opening_verdict opening.New = pos 0
opening_verdict opening.Again = pos 1
opening_verdict opening.Stale = pos 2
opening_verdict opening.Malformed = pos 5

abbrev pub request_verdict : Request → ℤ
request_verdict request.Next = pos 0
request_verdict request.Repeated = pos 1
request_verdict request.Stale = pos 2
request_verdict request.Ahead = pos 3
request_verdict request.Superseded = pos 4
request_verdict request.Malformed = pos 5

-- an opening of this program was judged
pub record JudgesOpening (p : Program) (session number : ℕ) (verdict : ℤ) : Type 0 where
  pub opening : Opening
  pub is : IsOpening p session number opening
  pub says : verdict ≡ opening_verdict opening

-- the same, and it was taken if it was a new one
pub record TakesOpening (old new : Program) (session number : ℕ) (verdict : ℤ) : Type 0 where
  pub opening : Opening
  pub is : IsOpening old session number opening
  pub says : verdict ≡ opening_verdict opening
  pub after : new ≡ after_opening old session opening

pub record JudgesRequest (p : Program) (session number : ℕ) (verdict : ℤ) : Type 0 where
  pub request : Request
  pub is : IsRequest p session number request
  pub says : verdict ≡ request_verdict request

pub record TakesRequest (old new : Program) (session number : ℕ) (verdict : ℤ) : Type 0 where
  pub request : Request
  pub is : IsRequest old session number request
  pub says : verdict ≡ request_verdict request
  pub after : new ≡ after_request old request

-- 1 if so, else 0
abbrev pub IsFlagOf : Type 0 → ℤ → Type 0
IsFlagOf P flag = ((flag ≡ pos 1) × P) ⊎ ((flag ≡ pos 0) × (P → ⊥))
