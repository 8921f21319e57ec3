-- The messages that are on their way are the first ones that aren't acknowledged.
use Rattle.std.proofs.Common.{◌≡◌, ◌≢◌, ◌⊎◌, ℕ, zero, suc, ◌+◌, ◌-◌, ◌<◌, ◌≤◌, ◌==◌, ◌&&◌, ◌||◌, not, Bool, true, false, cond, nat_le, nat_lt, List, [], ◌∷◌, ◌++◌, length, map, take, drop, set, replicate, min, ⊎_elim, inl, inr, ap, sym, subst, refl, ◌∙◌, arith, length-append, append_assoc}
use Rattle.std.specs.Prelude.{filter, sum, sum_by}
use Rattle.std.proofs.Math.Seq.{drop-nil, set-append_seam}
use Rattle.std.proofs.Math.ListN.{drop_of_length-le}
use Rattle.std.proofs.lemmas.Bool.{and_from, and_parts, cases_lt, cond-true, cond-false, cond_both, eq-eqb, eqb-false, eqb-true, le-leb, lt-ltb, le-ltb, leb-true, leb-false, ltb-true, or_cases, or_left, or_parts, or_right}
use Rattle.std.proofs.lemmas.List.{drop-append-le, drop-map, length-drop, length-map, length-take-le, map-append, take-append-le, take-map}
use Rattle.std.proofs.lemmas.List.Sums.{sum-map, sum_by-take-drop, sum_by_push}
use Rattle.sending.specs.declared.TheConstants.{FLIGHT_BYTES, TELL, WINDOW}
use Rattle.sending.specs.declared.Sending.{Sending}
use Rattle.sending.specs.declared.Turn.{Turn}
use Rattle.sending.specs.Rules.{acknowledged_by, arrived, begun, doubled, falls_due, fits, goes, goes_back, gone, is_next, is_over, kept, later, noticed, offered, owing, runs_out, started, stopped, timed, told_by, turned, went}
use Rattle.sending.specs.Runs.{Message}
use Rattle.sending.specs.Laws.{AreNext}

abbrev pub bytes_of : List Message → ℕ
bytes_of ms = sum_by (λ (m : Message). m.length) ms

abbrev pub lengths_of : List Message → List ℕ
lengths_of ms = map (λ (m : Message). m.length) ms

-- What is known of the messages that are on their way. (`rest` are lengths that mean nothing.)
pub record Window (acknowledged sent flight blocked : ℕ) (lengths : List ℕ) (ms : List Message)
    : Type 0 where
  pub next : AreNext acknowledged ms
  pub last : sent ≡ acknowledged + length ms
  pub rest : List ℕ
  pub held : lengths ≡ lengths_of ms ++ rest
  pub wide : length ms + length rest ≡ WINDOW
  pub bytes : flight ≡ bytes_of ms
  pub bounded : (flight ≤ FLIGHT_BYTES) ⊎ (length ms ≤ 1)
  pub waits : blocked ≢ 0 → 0 < length ms

abbrev pub IsWindow : Sending → List Message → Type 0
IsWindow s ms = Window s.acknowledged s.sent s.flight s.blocked s.lengths ms

pub begun-window : (acknowledged received : ℕ) → IsWindow (begun acknowledged received) []
begun-window acknowledged received = record {
  next = tt;
  last = omega arith;
  rest = replicate WINDOW 0;
  held = refl;
  wide = refl;
  bytes = refl;
  bounded = inl (omega arith);
  waits = λ never. absurd (never refl);
}

pub gone-window : (s : Sending) (ms : List Message) → IsWindow s ms → IsWindow (gone s) []
gone-window s ms is = record {
  next = tt;
  last = omega arith;
  rest = s.lengths;
  held = refl;
  wide =
      let all = ap length is.held in
      let both = length-append (lengths_of ms) is.rest in
      let same = length-map ms (λ (m : Message). m.length) in
      let wide = is.wide in
      omega (arith, all, both, same, wide);
  bytes = refl;
  bounded = inl (omega arith);
  waits = λ never. absurd (never refl);
}

-- ---- acknowledgements

abbrev pub above : ℕ → List Message → List Message
above n ms = filter (λ (m : Message). nat_lt n m.number) ms

above-drop : (a n : ℕ) (ms : List Message) → AreNext a ms → above n ms ≡ drop (n - a) ms
above-drop a n [] next = sym (drop-nil (n - a))
above-drop a n (m ∷ ms) next =
    ⊎_elim {C = above n (m ∷ ms) ≡ drop (n - a) (m ∷ ms)}
    (λ (above_all : n < m.number).
    let first = next.0 in
    let none : n - a ≡ 0 = omega (arith, above_all, first) in
    let none_then : n - m.number ≡ 0 = omega (arith, above_all) in
    cond-true (nat_lt n m.number) (m ∷ above n ms) (above n ms) (lt-ltb n m.number above_all)
    ∙ ap (λ (l : List Message). m ∷ l)
    (above-drop m.number n ms next.1 ∙ ap (λ (k : ℕ). drop k ms) none_then)
    ∙ ap (λ (k : ℕ). drop k (m ∷ ms)) (sym none))
    (λ (within : m.number ≤ n).
    let first = next.0 in
    let more : n - a ≡ suc (n - m.number) = omega (arith, within, first) in
    cond-false (nat_lt n m.number) (m ∷ above n ms) (above n ms) (le-ltb n m.number within)
    ∙ above-drop m.number n ms next.1
    ∙ ap (λ (k : ℕ). drop k (m ∷ ms)) (sym more))
    (cases_lt n m.number)

next-drop : (a k : ℕ) (ms : List Message) → AreNext a ms → AreNext (a + k) (drop k ms)
next-drop a k [] next = subst (AreNext (a + k)) (sym (drop-nil k)) tt
next-drop a zero (m ∷ ms) next =
    let same : a ≡ a + 0 = omega arith in
    subst (λ (b : ℕ). AreNext b (m ∷ ms)) same next
next-drop a (suc k) (m ∷ ms) next =
    let first = next.0 in
    let same : m.number + k ≡ a + suc k = omega (arith, first) in
    subst (λ (b : ℕ). AreNext b (drop k ms)) same (next-drop m.number k ms next.1)

-- The first `k` messages arrived.
module _ (s : Sending) (ms : List Message) (is : IsWindow s ms) (n k : ℕ)
    (later : s.acknowledged < n) (count : k ≡ min (n - s.acknowledged) (length ms)) where
  within : k ≤ length ms
  within = omega (arith, count)

  front : take k s.lengths ≡ lengths_of (take k ms)
  front =
      let same = length-map ms (λ (m : Message). m.length) in
      ap (take k) is.held
      ∙ take-append-le k (lengths_of ms) is.rest (omega (arith, same, within))
      ∙ take-map (λ (m : Message). m.length) k ms

  back : drop k s.lengths ≡ lengths_of (drop k ms) ++ is.rest
  back =
      let same = length-map ms (λ (m : Message). m.length) in
      ap (drop k) is.held
      ∙ drop-append-le k (lengths_of ms) is.rest (omega (arith, same, within))
      ∙ ap (λ (l : List ℕ). l ++ is.rest) (drop-map (λ (m : Message). m.length) k ms)

  dropped : above n ms ≡ drop k ms
  dropped =
      above-drop s.acknowledged n ms is.next
      ∙ ⊎_elim {C = drop (n - s.acknowledged) ms ≡ drop k ms}
      (λ (some : n - s.acknowledged < length ms).
      let same : n - s.acknowledged ≡ k = omega (arith, some, count) in
      ap (λ (j : ℕ). drop j ms) same)
      (λ (all : length ms ≤ n - s.acknowledged).
      drop_of_length-le ms all
      ∙ sym (drop_of_length-le ms (omega (arith, all, count))))
      (cases_lt (n - s.acknowledged) (length ms))

  next-after : AreNext n (drop k ms)
  next-after =
      ⊎_elim {C = AreNext n (drop k ms)}
      (λ (some : n - s.acknowledged < length ms).
      let same : s.acknowledged + k ≡ n = omega (arith, some, count, later) in
      subst (λ (a : ℕ). AreNext a (drop k ms)) same (next-drop s.acknowledged k ms is.next))
      (λ (all : length ms ≤ n - s.acknowledged).
      subst (AreNext n) (sym (drop_of_length-le ms (omega (arith, all, count)))) tt)
      (cases_lt (n - s.acknowledged) (length ms))

  arrived-window : IsWindow (arrived k n s) (drop k ms)
  arrived-window =
      let left = length-drop k ms in
      let parts = sum_by-take-drop (λ (m : Message). m.length) ms k in
      let gone_bytes : sum (take k s.lengths) ≡ bytes_of (take k ms) =
      ap sum front ∙ sum-map (λ (m : Message). m.length) (take k ms) in
      let bytes = is.bytes in
      let last = is.last in
      record {
        next = next-after;
        last = omega (arith, left, last, count, later);
        rest = is.rest ++ lengths_of (take k ms);
        held =
            ap (λ (l : List ℕ). l ++ take k s.lengths) back
            ∙ append_assoc (lengths_of (drop k ms)) is.rest (take k s.lengths)
            ∙ ap (λ (l : List ℕ). lengths_of (drop k ms) ++ (is.rest ++ l)) front;
        wide =
            let both = length-append is.rest (lengths_of (take k ms)) in
            let same = length-map (take k ms) (λ (m : Message). m.length) in
            let few = length-take-le k ms within in
            let wide = is.wide in
            omega (arith, left, both, same, few, wide, within);
        bytes = omega (arith, parts, gone_bytes, bytes);
        bounded =
            ⊎_elim {C = (s.flight - sum (take k s.lengths) ≤ FLIGHT_BYTES)
            ⊎ (length (drop k ms) ≤ 1)}
            (λ few. inl (omega (arith, few)))
            (λ one. inr (omega (arith, one, left)))
            is.bounded;
        waits = λ never. absurd (never refl);
      }

pub acknowledged-window : (s : Sending) (ms : List Message) (n : ℕ) → IsWindow s ms
    → IsWindow (acknowledged_by s n) (above n ms)
acknowledged-window s ms n is =
    cond_both (nat_le n s.acknowledged) s (arrived (kept s (min n s.sent)) n s)
    (λ (t : Sending). IsWindow t (above n ms))
    (λ earlier.
    let few = leb-true n s.acknowledged earlier in
    let none : n - s.acknowledged ≡ 0 = omega (arith, few) in
    subst (IsWindow s)
    (sym (above-drop s.acknowledged n ms is.next
    ∙ ap (λ (k : ℕ). drop k ms) none)) is)
    (λ not_earlier.
    let more = leb-false n s.acknowledged not_earlier in
    let last = is.last in
    let wide = is.wide in
    let count : kept s (min n s.sent) ≡ min (n - s.acknowledged) (length ms) =
    omega (arith, more, last, wide) in
    subst (IsWindow (arrived (kept s (min n s.sent)) n s))
    (sym (dropped s ms is n (kept s (min n s.sent)) more count))
    (arrived-window s ms is n (kept s (min n s.sent)) more count))

-- ---- a turn

-- what holds whatever is known of saves
pub told-any : (P : Sending → Type 0) (s : Sending) (now stored : ℕ)
    → ((x d : ℕ) → P (record s { tell_at = x; due = d })) → P (told_by s now stored)
told-any P s now stored all =
    cond_both (not (s.told == stored) && s.tell_at == 0) (record s { tell_at = later now TELL }) s
    (λ (t : Sending). P (falls_due t now))
    (λ _. falls (later now TELL))
    (λ _. falls s.tell_at)
  where
    falls : (x : ℕ) → P (falls_due (record s { tell_at = x }) now)
    falls x =
        cond_both (not (x == 0) && nat_le x now) (owing (record s { tell_at = x }))
        (record s { tell_at = x }) P (λ _. all x 1) (λ _. all x s.due)

timed-window : (s : Sending) (ms : List Message) (now released : ℕ) → IsWindow s ms
    → IsWindow (timed s now released) (cond (is_over s now released) [] ms)
timed-window s ms now released is =
    by (nat_le released s.acknowledged) (runs_out s now) (s.again_at == 0)
  where
    by : (none over off : Bool)
        → IsWindow
        (cond none (stopped s)
        (cond over (started now (record (gone s) { pause = doubled s.pause }))
        (cond off (started now s) s)))
        (cond (not none && over) [] ms)
    by true over off = is
    by false true off = gone-window s ms is
    by false false true = is
    by false false false = is

pub turned-window : (s : Sending) (ms : List Message) (t : Turn) → IsWindow s ms
    → IsWindow (turned s t) (cond (goes_back s t) [] (above t.acknowledged ms))
turned-window s ms t is =
    timed-window (noticed s t) (above t.acknowledged ms) t.now t.released
    (told-any (λ (x : Sending). IsWindow x (above t.acknowledged ms))
    (acknowledged_by s t.acknowledged) t.now t.stored
    (λ x d. acknowledged-window s ms t.acknowledged is))

-- ---- messages

next-more : (a : ℕ) (ms : List Message) (m : Message) → AreNext a ms
    → m.number ≡ a + length ms + 1 → AreNext a (ms ++ m ∷ [])
next-more a [] m next number = (omega (arith, number), tt)
next-more a (x ∷ ms) m next number =
    let first = next.0 in
    (first, next-more x.number ms m next.1 (omega (arith, first, number)))

set-first : (xs ys : List ℕ) (x : ℕ) → 0 < length ys
    → (zs : List ℕ) × (set (xs ++ ys) (length xs) x ≡ xs ++ x ∷ zs)
    × (length zs + 1 ≡ length ys)
set-first xs [] x some = absurd (omega (arith, some))
set-first xs (y ∷ ys) x some = (ys, set-append_seam xs y ys x, omega arith)

none-bytes : (ms : List Message) → length ms ≡ 0 → bytes_of ms ≡ 0
none-bytes [] none = refl
none-bytes (m ∷ ms) none = absurd (omega (arith, none))

-- a first message is counted from 0 on, which changes nothing
first-bytes : (s : Sending) (ms : List Message) → IsWindow s ms → length ms < WINDOW
    → cond (kept s s.sent == 0) 0 s.flight ≡ s.flight
first-bytes s ms is few =
    cond_both (kept s s.sent == 0) 0 s.flight (λ (x : ℕ). x ≡ s.flight)
    (λ none.
    let last = is.last in
    let zero_place = eqb-true (kept s s.sent) 0 none in
    sym (is.bytes ∙ none-bytes ms (omega (arith, last, few, zero_place))))
    (λ _. refl)

went-window : (s : Sending) (ms : List Message) (m : Message) → IsWindow s ms
    → length ms < WINDOW → m.number ≡ s.sent + 1
    → (length ms ≡ 0) ⊎ (s.flight + m.length ≤ FLIGHT_BYTES)
    → IsWindow (went s m.number m.length) (ms ++ m ∷ [])
went-window s ms m is few number fit =
    let last = is.last in
    let bytes = is.bytes in
    let wide = is.wide in
    let more = length-append ms (m ∷ []) in
    let sums = sum_by_push (λ (x : Message). x.length) ms m in
    let place : kept s s.sent ≡ length (lengths_of ms) =
    let same = length-map ms (λ (x : Message). x.length) in omega (arith, last, few, same) in
    let slot = set-first (lengths_of ms) is.rest m.length (omega (arith, few, wide)) in
    let flight = first-bytes s ms is few in
    let slots = slot.2 in
    record {
      next = next-more s.acknowledged ms m is.next (omega (arith, number, last));
      last = omega (arith, number, last, more);
      rest = slot.0;
      held =
          ap (λ (l : List ℕ). set l (kept s s.sent) m.length) is.held
          ∙ ap (λ (k : ℕ). set (lengths_of ms ++ is.rest) k m.length) place
          ∙ slot.1
          ∙ sym (append_assoc (lengths_of ms) (m.length ∷ []) slot.0)
          ∙ ap (λ (l : List ℕ). l ++ slot.0)
          (sym (map-append (λ (x : Message). x.length) ms (m ∷ [])));
      wide = omega (arith, more, wide, slots);
      bytes = omega (arith, flight, sums, bytes);
      bounded =
          ⊎_elim {C = (cond (kept s s.sent == 0) 0 s.flight + m.length ≤ FLIGHT_BYTES)
          ⊎ (length (ms ++ m ∷ []) ≤ 1)}
          (λ none. inr (omega (arith, none, more)))
          (λ fits_with. inl (omega (arith, fits_with, flight)))
          fit;
      waits = λ never. absurd (never refl);
    }

pub offered-window : (s : Sending) (ms : List Message) (m : Message) → IsWindow s ms
    → IsWindow (offered s m.number m.length)
    (cond (goes s m.number m.length) (ms ++ m ∷ []) ms)
offered-window s ms m is =
    by (is_next s m.number) (fits s m.length) refl refl
  where
    place : kept s s.sent ≡ length ms
    place = let last = is.last in let wide = is.wide in omega (arith, last, wide)

    by : (next fit : Bool) → is_next s m.number ≡ next → fits s m.length ≡ fit
        → IsWindow
        (cond next (cond fit (went s m.number m.length) (record s { blocked = 1 })) s)
        (cond (next && fit) (ms ++ m ∷ []) ms)
    by false fit is_it does = is
    by true true is_it does =
        let tests = and_parts _ _ is_it in
        let free = ltb-true (kept s s.sent) WINDOW tests.0 in
        went-window s ms m is (omega (arith, place, free))
        (eqb-true m.number (s.sent + 1) tests.1)
        (⊎_elim {C = (length ms ≡ 0) ⊎ (s.flight + m.length ≤ FLIGHT_BYTES)}
        (λ alone. inl (sym place ∙ eqb-true (kept s s.sent) 0 alone))
        (λ few. inr (leb-true (s.flight + m.length) FLIGHT_BYTES few))
        (or_cases (kept s s.sent == 0) (nat_le (s.flight + m.length) FLIGHT_BYTES) does))
    by true false is_it does = record {
      next = is.next;
      last = is.last;
      rest = is.rest;
      held = is.held;
      wide = is.wide;
      bytes = is.bytes;
      bounded = is.bounded;
      waits = λ _.
          let tests = or_parts (kept s s.sent == 0) (nat_le (s.flight + m.length) FLIGHT_BYTES)
          does in
          let some = eqb-false (kept s s.sent) 0 tests.0 in
          omega (arith, place, some);
    }

-- ---- what goes

-- the next message, with a place, which is alone or short enough
pub record Fitting (acknowledged : ℕ) (ms : List Message) (m : Message) : Type 0 where
  pub next : m.number ≡ acknowledged + length ms + 1
  pub few : length ms < WINDOW
  pub fits : (length ms ≡ 0) ⊎ (bytes_of ms + m.length ≤ FLIGHT_BYTES)

module _ (s : Sending) (ms : List Message) (m : Message) (is : IsWindow s ms) where
  place-is : kept s s.sent ≡ length ms
  place-is = let last = is.last in let wide = is.wide in omega (arith, last, wide)

  pub goes-if : Fitting s.acknowledged ms m → goes s m.number m.length ≡ true
  goes-if fit =
      let few = fit.few in
      let next = fit.next in
      let last = is.last in
      let bytes = is.bytes in
      and_from _ _
      (and_from _ _
      (lt-ltb (kept s s.sent) WINDOW (omega (arith, few, place-is)))
      (eq-eqb m.number (s.sent + 1) (omega (arith, next, last))))
      (⊎_elim {C = (kept s s.sent == 0 || nat_le (s.flight + m.length) FLIGHT_BYTES) ≡ true}
      (λ none. or_left _ _ (eq-eqb (kept s s.sent) 0 (place-is ∙ none)))
      (λ short. or_right _ _
      (le-leb (s.flight + m.length) FLIGHT_BYTES (omega (arith, short, bytes))))
      fit.fits)

  pub goes-only : goes s m.number m.length ≡ true → Fitting s.acknowledged ms m
  goes-only does =
      let both = and_parts (is_next s m.number) (fits s m.length) does in
      let tests = and_parts (nat_lt (kept s s.sent) WINDOW) (m.number == s.sent + 1) both.0 in
      let few = ltb-true (kept s s.sent) WINDOW tests.0 in
      let next = eqb-true m.number (s.sent + 1) tests.1 in
      let last = is.last in
      let bytes = is.bytes in
      record {
        next = omega (arith, next, last);
        few = omega (arith, few, place-is);
        fits =
            ⊎_elim {C = (length ms ≡ 0) ⊎ (bytes_of ms + m.length ≤ FLIGHT_BYTES)}
            (λ alone. inl (sym place-is ∙ eqb-true (kept s s.sent) 0 alone))
            (λ short.
            let within = leb-true (s.flight + m.length) FLIGHT_BYTES short in
            inr (omega (arith, within, bytes)))
            (or_cases (kept s s.sent == 0) (nat_le (s.flight + m.length) FLIGHT_BYTES) both.1);
      }
