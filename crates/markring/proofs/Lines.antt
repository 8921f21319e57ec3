-- What has been printed before each iteration of the loop over a script's lines.
use Rattle.std.proofs.Common.{◌≡◌, ◌≢◌, ℕ, Bool, ◌+◌, ◌≤◌, max, List, [], ◌∷◌, ◌++◌, length, Option, refl, sym, ap, ◌∙◌, subst, arith, append_assoc, append-nil, length-append}
use Rattle.std.specs.Io.KnownBytes.{Appends}
use Rattle.std.specs.Str.Lines.{lines}
use Rattle.std.proofs.KnownBytes.{Appends-nil, Appends-trans}
use Rattle.std.proofs.lemmas.List.{nil_from_length}
use Rattle.markring.specs.declared.running.Told.{Told}
use Rattle.markring.specs.declared.running.Told.TheVariants as told
use Rattle.markring.specs.Told.{AreTold, GoesOn, IsEnd, IsVerdict, PrintsLine, PrintsTold, printed, status_after, status_of, told_text}

-- a verdict, or none, is how a cycle ends
pub verdict-ends : (cycle : ℕ) (t : Told) → IsVerdict cycle t → IsEnd t
verdict-ends cycle (told.Outcome o) is = tt
verdict-ends cycle (told.NoVerdict last) is = tt
verdict-ends cycle told.Nothing is = absurd is
verdict-ends cycle (told.Trace texts) is = absurd is
verdict-ends cycle (told.Bytes text) is = absurd is
verdict-ends cycle (told.Refused e) is = absurd is
verdict-ends cycle (told.NotAccepted last) is = absurd is
verdict-ends cycle told.NoCommand is = absurd is

-- an outcome after others
printed_push : (n : ℕ) (ts : List Told) (t : Told)
    → printed n (ts ++ t ∷ []) ≡ printed n ts ++ told_text (n + length ts) t
printed_push n [] t = append-nil (told_text n t) ∙ ap (λ k. told_text k t) (omega arith)
printed_push n (x ∷ ts) t =
    let place : n + 1 + length ts ≡ n + length (x ∷ ts) = omega arith in
    ap (λ bs. told_text n x ++ bs)
    (printed_push (n + 1) ts t ∙ ap (λ k. printed (n + 1) ts ++ told_text k t) place)
    ∙ sym (append_assoc (told_text n x) (printed (n + 1) ts) _)

status_of_push : (ts : List Told) (t : Told)
    → status_of (ts ++ t ∷ []) ≡ max (status_of ts) (status_after t)
status_of_push [] t = omega arith
status_of_push (x ∷ ts) t = omega (arith, status_of_push ts t)

-- no status is above 2
status_after_le : (t : Told) → status_after t ≤ 2
status_after_le told.Nothing = omega arith
status_after_le (told.Outcome o) = omega arith
status_after_le (told.Trace texts) = omega arith
status_after_le (told.Bytes text) = omega arith
status_after_le (told.Refused e) = omega arith
status_after_le (told.NotAccepted last) = omega arith
status_after_le (told.NoVerdict last) = omega arith
status_after_le told.NoCommand = omega arith

status_of_le : (ts : List Told) → status_of ts ≤ 2
status_of_le [] = omega arith
status_of_le (t ∷ ts) = omega (arith, status_after_le t, status_of_le ts)

pub small_status : {wide : Bool} {script : List ℕ} {status : ℕ} {old new : Option (List ℕ)}
    → PrintsTold wide script status old new → status ≤ 2
small_status prints =
    omega (arith, prints.worst, status_of_le prints.outcomes)

-- A point of the loop: the remaining text, how many lines were processed, the status so far, and
-- the contents of the output, if they are known.
pub record Point : Type 0 where
  pub rest : List ℕ
  pub count : ℕ
  pub status : ℕ
  pub output : Option (List ℕ)

-- before an iteration: the outcomes of the lines processed so far, and the remaining text
pub record PrintedBefore (wide : Bool) (script : List ℕ) (start : Option (List ℕ)) (p : Point)
    : Type 0 where
  pub outcomes : List Told
  pub counted : length outcomes ≡ p.count
  pub follow : (more : List Told) → AreTold wide (lines p.rest) more
      → AreTold wide (lines script) (outcomes ++ more)
  pub worst : p.status ≡ status_of outcomes
  pub appended : Appends start p.output (printed 1 outcomes)

-- before the first line
pub printed_nothing : (wide : Bool) (script : List ℕ) (known : Option (List ℕ))
    → PrintedBefore wide script known
    (record { rest = script; count = 0; status = 0; output = known })
printed_nothing wide script known = record {
  outcomes = [];
  counted = refl;
  follow = λ more follows. follows;
  worst = refl;
  appended = Appends-nil known;
}

goes_on : (t : Told) (ts : List Told) (P : Type 0) → t ≢ told.NoCommand → P → GoesOn t ts P
goes_on told.NoCommand ts P goes p = absurd (goes refl)
goes_on told.Nothing ts P goes p = p
goes_on (told.Outcome o) ts P goes p = p
goes_on (told.Trace texts) ts P goes p = p
goes_on (told.Bytes text) ts P goes p = p
goes_on (told.Refused e) ts P goes p = p
goes_on (told.NotAccepted last) ts P goes p = p
goes_on (told.NoVerdict last) ts P goes p = p

ends_here : (t : Told) → t ≡ told.NoCommand → (P : Type 0) → GoesOn t [] P
ends_here t last P = subst (λ z. GoesOn z [] P) (sym last) refl

-- the outcome by its status
last_told : (t : Told) → status_after t ≡ 2 → t ≡ told.NoCommand
last_told told.NoCommand e = refl
last_told told.Nothing e = absurd cc
last_told (told.Outcome o) e = absurd cc
last_told (told.Trace texts) e = absurd cc
last_told (told.Bytes text) e = absurd cc
last_told (told.Refused x) e = absurd cc
last_told (told.NotAccepted last) e = absurd cc
last_told (told.NoVerdict last) e = absurd cc

-- an iteration: the line and its outcome
pub record Turn (wide : Bool) (p q : Point) : Type 0 where
  pub text : List ℕ
  pub status : ℕ
  pub step : lines p.rest ≡ text ∷ lines q.rest
  pub counts : q.count ≡ p.count + 1
  pub says : PrintsLine wide text q.count p.output q.output status
  pub worse : q.status ≡ max p.status status

module _ (wide : Bool) (script : List ℕ) (start : Option (List ℕ)) (p q : Point)
    (before : PrintedBefore wide script start p) (turn : Turn wide p q) where
  abbrev outcome_now : Told
  outcome_now = turn.says.outcome

  abbrev outcomes_so_far : List Told
  outcomes_so_far = before.outcomes ++ outcome_now ∷ []

  appended_push : Appends start q.output (printed 1 outcomes_so_far)
  appended_push =
      let place : q.count ≡ 1 + length before.outcomes =
      omega (arith, before.counted, turn.counts) in
      let more : printed 1 before.outcomes ++ told_text q.count outcome_now
      ≡ printed 1 outcomes_so_far =
      ap (λ k. printed 1 before.outcomes ++ told_text k outcome_now) place
      ∙ sym (printed_push 1 before.outcomes outcome_now) in
      subst (Appends start q.output) more
      (Appends-trans start p.output q.output (printed 1 before.outcomes)
      (told_text q.count outcome_now) before.appended turn.says.prints)

  worst_push : q.status ≡ status_of outcomes_so_far
  worst_push =
      turn.worse ∙ ap (max p.status) turn.says.is
      ∙ ap (λ k. max k (status_after outcome_now)) before.worst
      ∙ sym (status_of_push before.outcomes outcome_now)

  -- a line that isn't the last
  pub printed_more : turn.status ≢ 2 → PrintedBefore wide script start q
  printed_more other =
      let goes : outcome_now ≢ told.NoCommand =
      (λ e. other (turn.says.is ∙ ap status_after e)) in
      record {
        outcomes = outcomes_so_far;
        counted =
            let more = length-append before.outcomes (outcome_now ∷ []) in
            omega (arith, before.counted, turn.counts, more);
        follow = λ ts follows.
            subst (AreTold wide (lines script))
            (sym (append_assoc before.outcomes (outcome_now ∷ []) ts))
            (before.follow (outcome_now ∷ ts)
            (subst (λ ls. AreTold wide ls (outcome_now ∷ ts)) (sym turn.step)
            (turn.says.of, goes_on outcome_now ts _ goes follows)));
        worst = worst_push;
        appended = appended_push;
      }

  -- one that is
  pub printed_last : turn.status ≡ 2 → PrintsTold wide script q.status start q.output
  printed_last last =
      let ends = last_told outcome_now (sym turn.says.is ∙ last) in
      record {
        outcomes = outcomes_so_far;
        follow = before.follow (outcome_now ∷ [])
            (subst (λ ls. AreTold wide ls (outcome_now ∷ [])) (sym turn.step)
            (turn.says.of, ends_here outcome_now ends (AreTold wide (lines q.rest) [])));
        worst = worst_push;
        appended = appended_push;
      }

-- no line is left
pub printed_all : (wide : Bool) (script : List ℕ) (start : Option (List ℕ)) (p : Point)
    → PrintedBefore wide script start p → length p.rest ≡ 0
    → PrintsTold wide script p.status start p.output
printed_all wide script start p before none = record {
  outcomes = before.outcomes;
  follow = subst (AreTold wide (lines script)) (append-nil before.outcomes)
      (before.follow [] (subst (λ t. AreTold wide (lines t) [])
      (sym (nil_from_length p.rest none)) refl));
  worst = before.worst;
  appended = before.appended;
}
