-- What was done for a program, one deed after the other.
use Rattle.std.proofs.Common.{◌≡◌, ◌≢◌, ◌≤◌, ◌+◌, ℕ, suc, List, [], ◌∷◌, ◌++◌, Some, refl, sym, ap, ◌∙◌, subst, arith, ⊎_elim}
use Rattle.std.proofs.lemmas.List.{append_assoc}
use Rattle.std.specs.List.{Contains}
use Rattle.programs.specs.declared.program.Program.{Program}
use Rattle.programs.specs.declared.program.Opening.TheVariants as opening
use Rattle.programs.specs.declared.program.Request.TheVariants as request
use Rattle.programs.specs.Decisions.{forgotten, opened, performed, IsOpening, IsRequest, IsSession, SpeaksFor}
use Rattle.programs.specs.Runs.{Deed, Opened, Performed, Forgot, Value, new_value}
use Rattle.programs.specs.Laws.{count_down, openings_of, requests_of, speaker, IsInOrder}
use Rattle.programs.proofs.Lists.{contains-head, contains-more, contains-none, contains-split}

-- the program after these deeds
abbrev pub program_after : List Deed → Program
program_after [] = new_value.program
program_after (Opened session number ∷ ds) = opened (program_after ds) session
program_after (Performed session number ∷ ds) = performed (program_after ds)
program_after (Forgot ∷ ds) = forgotten (program_after ds)

-- each deed was one that the state before it allows
abbrev pub AreRight : List Deed → Type 0
AreRight [] = Unit {0}
AreRight (Opened session number ∷ ds) =
    IsOpening (program_after ds) session number opening.New × AreRight ds
AreRight (Performed session number ∷ ds) =
    IsRequest (program_after ds) session number request.Next × AreRight ds
AreRight (Forgot ∷ ds) = AreRight ds

pub record IsGood (v : Value) : Type 0 where
  pub is : v.program ≡ program_after v.done
  pub right : AreRight v.done

pub right-past : (newer older : List Deed) → AreRight (newer ++ older) → AreRight older
right-past [] older h = h
right-past (Opened session number ∷ newer) older h = right-past newer older h.1
right-past (Performed session number ∷ newer) older h = right-past newer older h.1
right-past (Forgot ∷ newer) older h = right-past newer older h

-- ---- numbers

next-down : (n m : ℕ) → m ≡ n + 1 → count_down m ≡ m ∷ count_down n
next-down n m e =
    let next : m ≡ suc n = omega (arith, e) in
    rw next refl

pub requests-count : (ds : List Deed) → AreRight ds
    → requests_of ds ≡ count_down (program_after ds).number
requests-count [] h = refl
requests-count (Opened session number ∷ ds) h = requests-count ds h.1
requests-count (Performed session number ∷ ds) h =
    let e : number ≡ (program_after ds).number + 1 = h.0.1 in
    ap (λ (z : List ℕ). number ∷ z) (requests-count ds h.1)
    ∙ sym (next-down (program_after ds).number number e)
    ∙ ap count_down e
requests-count (Forgot ∷ ds) h = requests-count ds h

pub openings-count : (ds : List Deed) → AreRight ds
    → openings_of ds ≡ count_down (program_after ds).round
openings-count [] h = refl
openings-count (Opened session number ∷ ds) h =
    let e : number ≡ (program_after ds).round + 1 = h.0.2 in
    ap (λ (z : List ℕ). number ∷ z) (openings-count ds h.1)
    ∙ sym (next-down (program_after ds).round number e)
    ∙ ap count_down e
openings-count (Performed session number ∷ ds) h = openings-count ds h.1
openings-count (Forgot ∷ ds) h = openings-count ds h

-- ---- who spoke

pub speaker-is : (ds : List Deed) (session : ℕ) → SpeaksFor (program_after ds) session
    → speaker ds ≡ Some session
speaker-is [] session s = absurd (s.is.not_none s.same)
speaker-is (Opened other number ∷ ds) session s = ap Some (sym s.same)
speaker-is (Performed other number ∷ ds) session s =
    speaker-is ds session (record { is = s.is; same = s.same })
speaker-is (Forgot ∷ ds) session s = absurd (s.is.not_forgotten s.same)

speaker-then : (newer older : List Deed) (session number : ℕ)
    → AreRight (newer ++ Performed session number ∷ older) → speaker older ≡ Some session
speaker-then newer older session number h =
    let then = right-past newer (Performed session number ∷ older) h in
    speaker-is older session then.0.0

some-same : (x y : ℕ) → ◌≡◌ (Some x) (Some y) → x ≡ y
some-same x y e = cc

-- If another process speaks later, it has opened the program since.
opened-since : (between older : List Deed) (session other round : ℕ)
    → speaker (between ++ Opened other round ∷ older) ≡ Some session → session ≢ other
    → (again : ℕ) × Contains between (Opened session again)
opened-since [] older session other round says apart =
    absurd (apart (sym (some-same other session says)))
opened-since (Opened third again ∷ between) older session other round says apart = (
  again,
  subst (λ (z : ℕ). Contains (Opened third again ∷ between) (Opened z again))
      (some-same third session says) (contains-head (Opened third again) between),
)
opened-since (Performed third number ∷ between) older session other round says apart =
    let there = opened-since between older session other round says apart in
    (there.0, contains-more (Performed third number) (Opened session there.0) between there.1)
opened-since (Forgot ∷ between) older session other round says apart = absurd cc

pub in-order : (v : Value) → IsGood v → IsInOrder v
in-order v g = record {
  requests = requests-count v.done g.right
      ∙ ap (λ (p : Program). count_down p.number) (sym g.is);
  openings = openings-count v.done g.right
      ∙ ap (λ (p : Program). count_down p.round) (sym g.is);
  speakers = λ newer older session number e.
      speaker-then newer older session number (subst AreRight e g.right);
  superseded = λ newer between older session number other round e apart.
      let last = Performed session number ∷ between in
      let split = e ∙ append_assoc newer last (Opened other round ∷ older) in
      opened-since between older session other round
      (speaker-then newer (between ++ Opened other round ∷ older) session number
      (subst AreRight split g.right))
      apart;
}

-- ---- each once

-- the number of a request that was performed is one of those from 1 on
pub performed-below : (ds : List Deed) (session number : ℕ) → AreRight ds
    → Contains ds (Performed session number) → number ≤ (program_after ds).number
performed-below [] session number h there =
    absurd (contains-none (Performed session number) there)
performed-below (Opened other round ∷ ds) session number h there =
    ⊎_elim {C = number ≤ (program_after ds).number} (λ e. absurd cc)
    (λ behind. performed-below ds session number h.1 behind)
    (contains-split (Opened other round) (Performed session number) ds there)
performed-below (Performed other last ∷ ds) session number h there =
    let e : last ≡ (program_after ds).number + 1 = h.0.1 in
    ⊎_elim {C = number ≤ (program_after ds).number + 1}
    (λ (same : ◌≡◌ (Performed other last) (Performed session number)).
    let here : last ≡ number = cc in
    omega (arith, here, e))
    (λ behind.
    let below = performed-below ds session number h.1 behind in
    omega (arith, below))
    (contains-split (Performed other last) (Performed session number) ds there)
performed-below (Forgot ∷ ds) session number h there =
    ⊎_elim {C = number ≤ (program_after ds).number} (λ e. absurd cc)
    (λ behind. performed-below ds session number h behind)
    (contains-split Forgot (Performed session number) ds there)

-- no two requests with one number were performed
pub performed-once : (ds : List Deed) (first second number : ℕ) → AreRight ds
    → Contains ds (Performed first number) → Contains ds (Performed second number)
    → first ≡ second
performed-once [] first second number h one other =
    absurd (contains-none (Performed first number) one)
performed-once (Opened session round ∷ ds) first second number h one other =
    ⊎_elim {C = first ≡ second} (λ e. absurd cc)
    (λ a. ⊎_elim {C = first ≡ second} (λ e. absurd cc)
    (λ b. performed-once ds first second number h.1 a b)
    (contains-split (Opened session round) (Performed second number) ds other))
    (contains-split (Opened session round) (Performed first number) ds one)
performed-once (Performed session last ∷ ds) first second number h one other =
    let e : last ≡ (program_after ds).number + 1 = h.0.1 in
    ⊎_elim {C = first ≡ second}
    (λ (a : ◌≡◌ (Performed session last) (Performed first number)).
    ⊎_elim {C = first ≡ second}
    (λ (b : ◌≡◌ (Performed session last) (Performed second number)). cc)
    (λ b.
    let below = performed-below ds second number h.1 b in
    let here : last ≡ number = cc in
    absurd (omega (arith, below, here, e)))
    (contains-split (Performed session last) (Performed second number) ds other))
    (λ a.
    ⊎_elim {C = first ≡ second}
    (λ (b : ◌≡◌ (Performed session last) (Performed second number)).
    let below = performed-below ds first number h.1 a in
    let here : last ≡ number = cc in
    absurd (omega (arith, below, here, e)))
    (λ b. performed-once ds first second number h.1 a b)
    (contains-split (Performed session last) (Performed second number) ds other))
    (contains-split (Performed session last) (Performed first number) ds one)
performed-once (Forgot ∷ ds) first second number h one other =
    ⊎_elim {C = first ≡ second} (λ e. absurd cc)
    (λ a. ⊎_elim {C = first ≡ second} (λ e. absurd cc)
    (λ b. performed-once ds first second number h a b)
    (contains-split Forgot (Performed second number) ds other))
    (contains-split Forgot (Performed first number) ds one)

-- the last request that was performed
pub last-performed : (ds : List Deed) → AreRight ds → (program_after ds).number ≢ 0
    → (session : ℕ) × Contains ds (Performed session (program_after ds).number)
last-performed [] h some = absurd (some refl)
last-performed (Opened other round ∷ ds) h some =
    let there = last-performed ds h.1 some in
    let its = Performed there.0 (program_after ds).number in
    (there.0, contains-more (Opened other round) its ds there.1)
last-performed (Performed other last ∷ ds) h some = (
  other,
  subst (λ (n : ℕ). Contains (Performed other last ∷ ds) (Performed other n)) h.0.1
      (contains-head (Performed other last) ds),
)
last-performed (Forgot ∷ ds) h some =
    let there = last-performed ds h some in
    (there.0, contains-more Forgot (Performed there.0 (program_after ds).number) ds there.1)

-- the process that speaks has opened the program
pub opened-by : (ds : List Deed) (session : ℕ) → SpeaksFor (program_after ds) session
    → (number : ℕ) × Contains ds (Opened session number)
opened-by [] session s = absurd (s.is.not_none s.same)
opened-by (Opened other number ∷ ds) session s = (
  number,
  subst (λ (z : ℕ). Contains (Opened other number ∷ ds) (Opened z number)) (sym s.same)
      (contains-head (Opened other number) ds),
)
opened-by (Performed other number ∷ ds) session s =
    let there = opened-by ds session (record { is = s.is; same = s.same }) in
    (there.0, contains-more (Performed other number) (Opened session there.0) ds there.1)
opened-by (Forgot ∷ ds) session s = absurd (s.is.not_forgotten s.same)

-- an opening that was taken has a number up to the round
pub opened-below : (ds : List Deed) (session number : ℕ) → AreRight ds
    → Contains ds (Opened session number)
    → IsSession session × (number ≤ (program_after ds).round)
opened-below [] session number h there =
    absurd (contains-none (Opened session number) there)
opened-below (Opened other last ∷ ds) session number h there =
    let e : last ≡ (program_after ds).round + 1 = h.0.2 in
    ⊎_elim {C = IsSession session × (number ≤ (program_after ds).round + 1)}
    (λ (same : ◌≡◌ (Opened other last) (Opened session number)).
    let here : last ≡ number = cc in
    let its : other ≡ session = cc in
    (subst IsSession its h.0.0, omega (arith, here, e)))
    (λ behind.
    let below = opened-below ds session number h.1 behind in
    let within = below.1 in
    (below.0, omega (arith, within)))
    (contains-split (Opened other last) (Opened session number) ds there)
opened-below (Performed other last ∷ ds) session number h there =
    ⊎_elim {C = IsSession session × (number ≤ (program_after ds).round)} (λ e. absurd cc)
    (λ behind. opened-below ds session number h.1 behind)
    (contains-split (Performed other last) (Opened session number) ds there)
opened-below (Forgot ∷ ds) session number h there =
    ⊎_elim {C = IsSession session × (number ≤ (program_after ds).round)} (λ e. absurd cc)
    (λ behind. opened-below ds session number h behind)
    (contains-split Forgot (Opened session number) ds there)
