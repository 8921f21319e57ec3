-- What a node decides about one of its programs. A process has a session, a random number, by which
-- its openings and requests are known. All numbers are below 2 ^ 64, so nothing is one more than
-- the greatest of them.
use Rattle.std.specs.Prelude.{◌≡◌, ◌≢◌, ◌<◌, ◌+◌, ℕ, Bool, ◌&&◌, not, cond, nat_lt, ◌==◌}
use Rattle.programs.specs.declared.program.TheConstants.{FORGOTTEN}
use Rattle.programs.specs.declared.program.Program.{Program}
use Rattle.programs.specs.declared.program.Opening.{Opening}
use Rattle.programs.specs.declared.program.Opening.TheVariants as opening
use Rattle.programs.specs.declared.program.Request.{Request}
use Rattle.programs.specs.declared.program.Request.TheVariants as request

-- ---- who speaks

-- the session of a process: no process has the others
pub record IsSession (session : ℕ) : Type 0 where
  pub not_none : session ≢ 0
  pub not_forgotten : session ≢ FORGOTTEN

-- the process of this session speaks for the program
pub record SpeaksFor (p : Program) (session : ℕ) : Type 0 where
  pub is : IsSession session
  pub same : session ≡ p.session

-- ---- openings

-- what an opening with this session and this number is
abbrev pub IsOpening : Program → ℕ → ℕ → Opening → Type 0
IsOpening p session number opening.New =
    IsSession session × (session ≢ p.session) × (number ≡ p.round + 1)
IsOpening p session number opening.Again = SpeaksFor p session
IsOpening p session number opening.Stale =
    IsSession session × (session ≢ p.session) × (number ≢ p.round + 1)
IsOpening p session number opening.Malformed = IsSession session → ⊥

-- another process speaks for the program
abbrev pub opened : Program → ℕ → Program
opened p session = record p { session = session; round = p.round + 1 }

-- the program after an opening
abbrev pub after_opening : Program → ℕ → Opening → Program
after_opening p session opening.New = opened p session
after_opening p session _ = p

-- ---- requests

-- what a request with this session and this number is
abbrev pub IsRequest : Program → ℕ → ℕ → Request → Type 0
IsRequest p session number request.Next = SpeaksFor p session × (number ≡ p.number + 1)
IsRequest p session number request.Repeated =
    SpeaksFor p session × (number ≢ 0) × (number ≡ p.number)
IsRequest p session number request.Stale =
    SpeaksFor p session × (number ≢ 0) × (number < p.number)
IsRequest p session number request.Ahead = SpeaksFor p session × (p.number + 1 < number)
IsRequest p session number request.Malformed = SpeaksFor p session × (number ≡ 0)
IsRequest p session number request.Superseded = SpeaksFor p session → ⊥

-- one more request was performed
abbrev pub performed : Program → Program
performed p = record p { number = p.number + 1 }

-- the program after a request
abbrev pub after_request : Program → Request → Program
after_request p request.Next = performed p
after_request p _ = p

-- nobody speaks for the program any more
abbrev pub forgotten : Program → Program
forgotten p = record p { session = FORGOTTEN }

-- ---- the same as tests

abbrev pub is_session : ℕ → Bool
is_session session = not (session == 0) && not (session == FORGOTTEN)

abbrev pub speaks_for : Program → ℕ → Bool
speaks_for p session = is_session session && session == p.session

abbrev pub opening_of : Program → ℕ → ℕ → Opening
opening_of p session number =
    cond (is_session session)
    (cond (session == p.session) opening.Again
    (cond (number == p.round + 1) opening.New opening.Stale))
    opening.Malformed

abbrev pub numbered : Program → ℕ → Request
numbered p number =
    cond (number == 0) request.Malformed
    (cond (nat_lt number p.number) request.Stale
    (cond (number == p.number) request.Repeated
    (cond (number == p.number + 1) request.Next request.Ahead)))

abbrev pub request_of : Program → ℕ → ℕ → Request
request_of p session number = cond (speaks_for p session) (numbered p number) request.Superseded
