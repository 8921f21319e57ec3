-- The theorems, from what holds after any steps.
use Rattle.std.proofs.Common.{◌≡◌, ◌≢◌, ◌<◌, ◌≤◌, ◌+◌, ◌-◌, ℕ, zero, suc, Bool, true, false, not, List, [], ◌∷◌, Option, Some, None, refl, sym, ap, ◌∙◌, subst, arith, slice_get, eqb, ltb, ⊎_elim}
use Rattle.std.proofs.lemmas.Bool.{and_from, cases_Bool, le-leb, lt-ltb}
use Rattle.std.proofs.lemmas.List.Elements.{All-contains}
use Rattle.std.specs.List.{Contains}
use Rattle.programs.specs.declared.images.TheConstants.{NEVER}
use Rattle.programs.specs.declared.program.Program.{Program}
use Rattle.programs.specs.declared.program.Opening.{Opening}
use Rattle.programs.specs.declared.program.Opening.TheVariants as opening
use Rattle.programs.specs.declared.program.Request.{Request}
use Rattle.programs.specs.declared.program.Request.TheVariants as request
use Rattle.programs.specs.Decisions.{opening_of, request_of, IsOpening, IsRequest, IsSession, SpeaksFor}
use Rattle.programs.specs.Images.{changed_images, has_changed, image_due, may_leave}
use Rattle.programs.specs.Runs.{after_ask, new_host, run, step, Ask, Answer, BeginSave, Deed, Done, EndSave, FailSave, Host, IsPast, Leave, OfEveryRun, Opened, Performed, Speaks, Step, Value, Waiting}
use Rattle.programs.specs.Laws.{AnswersLeave, AnswersStay, AreInOrder, DoneIsDoneOnce, IsDoneOnce, IsOpenedOnce, LateOpeningsFail, NextIsDone, OpeningsStay, count_down}
use Rattle.programs.proofs.Deeds.{in-order, last-performed, opened-below, opened-by, performed-once, program_after, requests-count, speaker-is, IsGood}
use Rattle.programs.proofs.Lists.{contains-behind, contains-head, past-both}
use Rattle.programs.proofs.Sound.{flag_of, most, new-sound, view_of, HasLeft, IsSound, WaitsRightly}
use Rattle.programs.proofs.Steps.{most-below, opening-is, request-is, run-after, slice-all, step-after}

-- what holds of every sound host holds after any steps
of-every-run : (P : Host → Type 0) → ((h : Host) → IsSound h → P h) → OfEveryRun P
of-every-run P each steps = each (run new_host steps) (run-after steps new_host new-sound).sound

pub in-order-always : OfEveryRun AreInOrder
in-order-always =
    of-every-run AreInOrder
    (λ h s. record {
      now = in-order h.now s.view.now;
      saving = λ v e. (in-order v (s.view.saving v e).good, (s.view.saving v e).past);
      stored = in-order h.stored s.view.stored;
      past = s.view.past;
    })

-- ---- answers

answer-stays : (h : Host) → IsSound h → (a : Answer) → HasLeft h.stored a → (more : List Step)
    → IsPast a.shows (run h more).stored.done × IsPast a.shows (run h more).now.done
answer-stays h s a left more =
    let after = run-after more h s in
    let stored = past-both left.past after.grows in
    (stored, past-both stored after.sound.view.past)

left-is : (h : Host) → IsSound h → (a : Answer) → Contains h.left a → HasLeft h.stored a
left-is h s a there = All-contains (HasLeft h.stored) h.left a s.left there

pub answers-stay : OfEveryRun AnswersStay
answers-stay =
    of-every-run AnswersStay
    (λ h s a there more. answer-stays h s a (left-is h s a there) more)

past-contains : {earlier later : List Deed} (d : Deed) → IsPast earlier later → Contains earlier d
    → Contains later d
past-contains {earlier = earlier} {later = later} d p there =
    subst (λ (z : List Deed). Contains z d) (sym p.is) (contains-behind p.newer earlier d there)

counted : (m : ℕ) → m ≢ 0 → (rest : List ℕ) × (count_down m ≡ m ∷ rest)
counted zero some = absurd (some refl)
counted (suc m) some = (count_down m, refl)

done-once : (h : Host) → IsSound h → (a : Answer) → HasLeft h.stored a → a.says ≡ Done
    → IsDoneOnce h a
done-once h s a left says =
    let done = left.fits.done says in
    let some = λ (e : (program_after a.shows).number ≡ 0). done.2 (sym done.1 ∙ e) in
    let last = last-performed a.shows left.fits.right some in
    let shown : Contains a.shows (Performed last.0 a.number) =
    subst (λ (n : ℕ). Contains a.shows (Performed last.0 n)) done.1 last.1 in
    let count = counted a.number done.2 in
    record {
      performer = last.0;
      shown = shown;
      asked = speaker-is a.shows a.session done.0;
      last = (
        count.0,
        requests-count a.shows left.fits.right ∙ ap count_down done.1 ∙ count.1,
      );
      once = λ more other.
          let now = (answer-stays h s a left more).1 in
          let right = (run-after more h s).sound.view.now.right in
          let known = past-contains (Performed last.0 a.number) now shown in (
            (λ there.
                performed-once (run h more).now.done other last.0 a.number right there known),
            (λ same.
                subst (λ (z : ℕ). Contains (run h more).now.done (Performed z a.number)) (sym same)
                known),
          );
    }

pub done-always-once : OfEveryRun DoneIsDoneOnce
done-always-once =
    of-every-run DoneIsDoneOnce
    (λ h s a there says. done-once h s a (left-is h s a there) says)

-- ---- openings

-- an opening that was taken has a number that is not the next one
opened-number : (v : Value) → IsGood v → (session number : ℕ)
    → Contains v.done (Opened session number) → IsSession session × (number ≤ v.program.round)
opened-number v g session number there =
    let below = opened-below v.done session number g.right there in (
      below.0,
      subst (λ (p : Program). number ≤ p.round) (sym g.is) below.1,
    )

never-new : (p : Program) (session number : ℕ) → number ≤ p.round
    → opening_of p session number ≢ opening.New
never-new p session number within e =
    let is = subst (IsOpening p session number) e (opening-is p session number) in
    let next = is.2 in
    omega (arith, next, within)

opened-once : (h : Host) → IsSound h → (a : Answer) → HasLeft h.stored a → a.says ≡ Speaks
    → IsOpenedOnce h a
opened-once h s a left says =
    let speaks = left.fits.speaks says in
    let there = opened-by a.shows a.session speaks in
    record {
      number = there.0;
      asked = speaker-is a.shows a.session speaks;
      known = λ more.
          past-contains (Opened a.session there.0) (answer-stays h s a left more).0 there.1;
      late = λ more.
          let after = (run-after more h s).sound.view.now in
          never-new (run h more).now.program a.session there.0
          (opened-number (run h more).now after a.session there.0
          (past-contains (Opened a.session there.0) (answer-stays h s a left more).1 there.1)).1;
    }

pub openings-stay : OfEveryRun OpeningsStay
openings-stay =
    of-every-run OpeningsStay
    (λ h s a there says. opened-once h s a (left-is h s a there) says)

is-stale : (p : Program) (session number : ℕ) → IsSession session → number ≤ p.round
    → session ≢ p.session → (o : Opening) → IsOpening p session number o → o ≡ opening.Stale
is-stale p session number is within apart opening.New it =
    let next = it.2 in
    absurd (omega (arith, next, within))
is-stale p session number is within apart opening.Again it = absurd (apart it.same)
is-stale p session number is within apart opening.Stale it = refl
is-stale p session number is within apart opening.Malformed it = absurd (it is)

pub late-openings-fail : OfEveryRun LateOpeningsFail
late-openings-fail =
    of-every-run LateOpeningsFail
    (λ h s session number there apart.
    let was = opened-number h.now s.view.now session number there in
    is-stale h.now.program session number was.0 was.1 apart
    (opening_of h.now.program session number) (opening-is h.now.program session number))

-- ---- what waits may leave

-- an answer waits in this place for one of these images or for the next one, and numbers are left
record IsReady (h : Host) (place : ℕ) (w : Waiting) (taken : ℕ) : Type 0 where
  at : slice_get h.waiting place ≡ Some w
  soon : w.due ≤ taken + 1
  left : taken + 2 < NEVER

leaves-if : (due kept changed saving : ℕ) → due ≤ kept → due < NEVER
    → may_leave (record { taken = kept; kept = kept; changed = changed; saving = saving }) due
    ≡ true
leaves-if due kept changed saving within is =
    and_from _ _ (le-leb due kept within) (lt-ltb due NEVER is)

numbers-left : (taken : ℕ) → taken + 2 < NEVER → ltb taken (NEVER - 1) ≡ true
numbers-left taken left = lt-ltb taken (NEVER - 1) (omega (arith, left))

-- the steps after which it has left
abbrev until_left : ℕ → List Step
until_left place = FailSave ∷ BeginSave ∷ EndSave ∷ Leave place ∷ []

leave-saving : (h : Host) (place : ℕ) (w : Waiting) (v : Value) (taken kept changed : ℕ)
    → IsReady h place w taken
    → Contains
    (run
    (record h {
      images = record { taken = taken; kept = kept; changed = changed; saving = 1 };
      saving = Some v;
    })
    (until_left place)).left
    w.answer
leave-saving h place w v taken kept changed r =
    let soon = r.soon in
    let left = r.left in
    rw (
      numbers-left taken r.left,
      r.at,
      leaves-if w.due (taken + 1) 0 0 r.soon (omega (arith, soon, left)),
    )
    (contains-head w.answer h.left)

leave-changed : (h : Host) (place : ℕ) (w : Waiting) (taken kept changed : ℕ)
    → not (eqb changed 0) ≡ true → IsReady h place w taken
    → Contains
    (run
    (record h {
      images = record { taken = taken; kept = kept; changed = changed; saving = 0 };
      saving = None;
    })
    (until_left place)).left
    w.answer
leave-changed h place w taken kept changed e r =
    let soon = r.soon in
    let left = r.left in
    rw (
      e,
      numbers-left taken r.left,
      r.at,
      leaves-if w.due (taken + 1) 0 0 r.soon (omega (arith, soon, left)),
    )
    (contains-head w.answer h.left)

leave-same : (h : Host) (place : ℕ) (w : Waiting) (taken changed : ℕ)
    → not (eqb changed 0) ≡ false → w.due ≤ taken → IsReady h place w taken
    → Contains
    (run
    (record h {
      images = record { taken = taken; kept = taken; changed = changed; saving = 0 };
      saving = None;
    })
    (until_left place)).left
    w.answer
leave-same h place w taken changed e within r =
    let soon = r.soon in
    let left = r.left in
    rw (
      e,
      r.at,
      leaves-if w.due taken changed 0 within (omega (arith, soon, left)),
    )
    (contains-head w.answer h.left)

-- the host with these numbers of its images in place of its own
abbrev with_numbers : Host → ℕ → ℕ → Option Value → Host
with_numbers h kept saving value =
    record h {
      images = record (h.images) { kept = kept; saving = saving };
      saving = value;
    }

-- these are its own
record AreOwn (h : Host) (kept saving : ℕ) (value : Option Value) : Type 0 where
  kept_is : h.images.kept ≡ kept
  flag_is : h.images.saving ≡ saving
  value_is : h.saving ≡ value

with-own : (P : Host → Type 0) {h : Host} {kept saving : ℕ} {value : Option Value}
    → AreOwn h kept saving value → P (with_numbers h kept saving value) → P h
with-own P {h = h} {kept = kept} {saving = saving} {value = value} own p =
    subst (λ (k : ℕ). P (with_numbers h k h.images.saving h.saving)) (sym own.kept_is)
    (subst (λ (k : ℕ). P (with_numbers h kept k h.saving)) (sym own.flag_is)
    (subst (λ (o : Option Value). P (with_numbers h kept saving o)) (sym own.value_is) p))

leave-next : (h : Host) (place : ℕ) (w : Waiting) → IsSound h → IsReady h place w h.images.taken
    → w.due ≤ most (has_changed h.images) h.images.taken → (o : Option Value) → h.saving ≡ o
    → Contains (run h (until_left place)).left w.answer
leave-next h place w s r within (Some v) e =
    with-own (λ (z : Host). Contains (run z (until_left place)).left w.answer)
    (record { kept_is = refl; flag_is = s.flag ∙ ap flag_of e; value_is = e })
    (leave-saving h place w v h.images.taken h.images.kept h.images.changed r)
leave-next h place w s r within None e =
    ⊎_elim {C = Contains (run h (until_left place)).left w.answer}
    (λ (is : has_changed h.images ≡ true).
    with-own (λ (z : Host). Contains (run z (until_left place)).left w.answer)
    (record { kept_is = refl; flag_is = s.flag ∙ ap flag_of e; value_is = e })
    (leave-changed h place w h.images.taken h.images.kept h.images.changed is r))
    (λ (same : has_changed h.images ≡ false).
    with-own (λ (z : Host). Contains (run z (until_left place)).left w.answer)
    (record {
      kept_is = (s.view.rest e).kept same;
      flag_is = s.flag ∙ ap flag_of e;
      value_is = e;
    })
    (leave-same h place w h.images.taken h.images.changed same
    (subst (λ (b : Bool). w.due ≤ most b h.images.taken) same within) r))
    (cases_Bool (has_changed h.images))

-- what waits may leave once the next save is stored
answer-leaves : (h : Host) (place : ℕ) (w : Waiting) → IsSound h
    → slice_get h.waiting place ≡ Some w → h.images.taken + 2 < NEVER
    → Contains (run h (until_left place)).left w.answer
answer-leaves h place w s at left =
    let held = (slice-all (WaitsRightly (view_of h)) h.waiting place w at s.waiting).held in
    let within = held.most in
    let below = most-below (has_changed h.images) h.images.taken in
    leave-next h place w s (record { at = at; soon = omega (arith, within, below); left = left })
    within h.saving refl

pub answers-leave : OfEveryRun AnswersLeave
answers-leave = of-every-run AnswersLeave (λ h s place w at left. answer-leaves h place w s at left)

-- ---- what is next is done

is-next : (p : Program) (session number : ℕ) → SpeaksFor p session → number ≡ p.number + 1
    → (r : Request) → IsRequest p session number r → r ≡ request.Next
is-next p session number speaks next request.Next it = refl
is-next p session number speaks next request.Repeated it =
    let same = it.2 in
    absurd (omega (arith, next, same))
is-next p session number speaks next request.Stale it =
    let below = it.2 in
    absurd (omega (arith, next, below))
is-next p session number speaks next request.Ahead it =
    let above = it.1 in
    absurd (omega (arith, next, above))
is-next p session number speaks next request.Superseded it = absurd (it speaks)
is-next p session number speaks next request.Malformed it =
    let none = it.1 in
    absurd (omega (arith, next, none))

asked-next : (h : Host) (session : ℕ) → SpeaksFor h.now.program session
    → step h (Ask session (h.now.program.number + 1))
    ≡ after_ask h session (h.now.program.number + 1) request.Next
asked-next h session speaks =
    ap (after_ask h session (h.now.program.number + 1))
    (is-next h.now.program session (h.now.program.number + 1) speaks refl
    (request_of h.now.program session (h.now.program.number + 1))
    (request-is h.now.program session (h.now.program.number + 1)))

pub next-is-done : OfEveryRun NextIsDone
next-is-done =
    of-every-run NextIsDone
    (λ h s. record {
      performed = λ session speaks. ap (λ (z : Host). z.now) (asked-next h session speaks);
      answered = λ session speaks left.
          let number = h.now.program.number + 1 in
          let after = step-after h (Ask session number) s in
          let same = asked-next h session speaks in
          let answer : Answer =
          record {
            session = session;
            number = number;
            says = Done;
            shows = Performed session number ∷ h.now.done;
          } in
          subst (λ (z : Host). Contains (run z (until_left 0)).left answer) (sym same)
          (answer-leaves (after_ask h session number request.Next) 0
          (record { due = image_due (changed_images h.images); answer = answer })
          (subst IsSound same after.sound) refl left);
    })
