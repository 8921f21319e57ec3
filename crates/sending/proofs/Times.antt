-- What happens in time, if clocks don't go back.
use Rattle.std.proofs.Common.{◌≡◌, ◌≢◌, ◌⊎◌, ℕ, ◌<◌, ◌≤◌, ◌==◌, ◌&&◌, not, Bool, true, false, cond, nat_le, List, [], ◌∷◌, ◌++◌, min, max, ⊎_elim, inl, inr, ap, sym, subst, refl, ◌∙◌, arith, le_refl}
use Rattle.std.proofs.lemmas.Bool.{and_from, and_left, and_parts, and_right, cases_Bool, cases_eq, cond-true, cond-false, cond_both, eq-eqb, leb-true, leb-false, le-leb, le-ltb, lt-leb, lt-ltb, ne_eqb}
use Rattle.sending.specs.declared.TheConstants.{TELL}
use Rattle.sending.specs.declared.Sending.{Sending}
use Rattle.sending.specs.declared.Turn.{Turn}
use Rattle.sending.specs.Rules.{acknowledged_by, arrived, falls_due, goes_back, is_over, kept, last_time, later, noticed, offered, owing, receiving, runs_out, set_time, telling, told_by, turned}
use Rattle.sending.specs.Runs.{Again, AreInTime, BeginsAgain, IsSilent, Leave, Look, Message, Offer, Owe, Receive, Step, StillWaits, Tell, Way, begins_after, first_or, looked, moves, new_way, run, step, waits}
use Rattle.sending.specs.Laws.{NoneTooEarly, SentAgain, ToldInTime, TurnsInTime, over_at}
use Rattle.sending.proofs.Window.{told-any}
use Rattle.sending.proofs.Timer.{IsTimer, over-some, pause-most, turned-timer}
use Rattle.sending.proofs.Steps.{new-sound, offered-any, receiving-any, run-sound, telling-any, timed-any}

-- ---- what a turn leaves

acknowledged-most : (s : Sending) (last : ℕ)
    → (acknowledged_by s last).acknowledged ≡ max s.acknowledged last
acknowledged-most s last =
    cond_both (nat_le last s.acknowledged) s (arrived (kept s (min last s.sent)) last s)
    (λ (a : Sending). a.acknowledged ≡ max s.acknowledged last)
    (λ few. let within = leb-true last s.acknowledged few in omega (arith, within))
    (λ more. let past = leb-false last s.acknowledged more in omega (arith, past))

turned-acknowledged : (s : Sending) (t : Turn)
    → (turned s t).acknowledged ≡ max s.acknowledged t.acknowledged
turned-acknowledged s t =
    timed-any (λ (x : Sending). x.acknowledged ≡ max s.acknowledged t.acknowledged) (noticed s t)
    t.now t.released
    (λ sent flight blocked pause again_at.
    told-any (λ (x : Sending). x.acknowledged ≡ max s.acknowledged t.acknowledged)
    (acknowledged_by s t.acknowledged) t.now t.stored
    (λ x d. acknowledged-most s t.acknowledged))

-- when a save is due, after a turn, and whether a packet is
abbrev tell_then : Sending → (now stored : ℕ) → ℕ
tell_then s now stored =
    cond (not (s.told == stored) && s.tell_at == 0) (later now TELL) s.tell_at

abbrev due_then : (tell_at due now : ℕ) → ℕ
due_then tell_at due now = cond (not (tell_at == 0) && nat_le tell_at now) 1 due

told-is : (s : Sending) (now stored : ℕ)
    → told_by s now stored
    ≡ record s {
      tell_at = tell_then s now stored;
      due = due_then (tell_then s now stored) s.due now;
    }
told-is s now stored = by (not (s.told == stored) && s.tell_at == 0)
  where
    falls : (x : ℕ) (c : Bool)
        → cond c (owing (record s { tell_at = x })) (record s { tell_at = x })
        ≡ record s { tell_at = x; due = cond c 1 s.due }
    falls x true = refl
    falls x false = refl

    by : (b : Bool)
        → falls_due (cond b (record s { tell_at = later now TELL }) s) now
        ≡ record s {
          tell_at = cond b (later now TELL) s.tell_at;
          due = due_then (cond b (later now TELL) s.tell_at) s.due now;
        }
    by true = falls (later now TELL) (not (later now TELL == 0) && nat_le (later now TELL) now)
    by false = falls s.tell_at (not (s.tell_at == 0) && nat_le s.tell_at now)

-- What holds of both after a turn.
module _ (P : (tell_at due : ℕ) → Type 0) (s : Sending) (t : Turn)
    (after : P (tell_then s t.now t.stored)
    (due_then (tell_then s t.now t.stored) s.due t.now)) where
  noticed-tell : P (noticed s t).tell_at (noticed s t).due
  noticed-tell =
      cond_both (nat_le t.acknowledged s.acknowledged) s
      (arrived (kept s (min t.acknowledged s.sent)) t.acknowledged s)
      (λ (a : Sending). P (told_by a t.now t.stored).tell_at (told_by a t.now t.stored).due)
      (λ _. by s after)
      (λ _. by (arrived (kept s (min t.acknowledged s.sent)) t.acknowledged s) after)
    where
      by : (a : Sending)
          → P (tell_then a t.now t.stored) (due_then (tell_then a t.now t.stored) a.due t.now)
          → P (told_by a t.now t.stored).tell_at (told_by a t.now t.stored).due
      by a holds =
          subst (λ (x : Sending). P x.tell_at x.due) (sym (told-is a t.now t.stored)) holds

  turned-tell : P (turned s t).tell_at (turned s t).due
  turned-tell =
      timed-any (λ (x : Sending). P x.tell_at x.due) (noticed s t) t.now t.released
      (λ sent flight blocked pause again_at. noticed-tell)

-- ---- clocks

abbrev pub latest : List ℕ → ℕ
latest [] = 0
latest (b ∷ begins) = b

-- No time is later than it can be by now.
pub record IsBefore (now : ℕ) (w : Way) : Type 0 where
  pub begun : latest w.begins ≤ now
  pub tell : w.sending.tell_at ≤ later now TELL

new-before : (acknowledged received : ℕ) → IsBefore 0 (new_way acknowledged received)
new-before acknowledged received = record { begun = le_refl _; tell = omega arith }

still-before : {w : Way} {sooner now : ℕ} → sooner ≤ now → IsBefore sooner w → IsBefore now w
still-before {w} {sooner} {now} more is = record {
  begun = let few = is.begun in omega (arith, few, more);
  tell = let few = is.tell in omega (arith, few, more);
}

latest-first : (now : ℕ) (begins : List ℕ) → latest begins ≤ now
    → latest (first_or now begins) ≤ now
latest-first now [] few = le_refl _
latest-first now (b ∷ begins) few = few

looked-before : {w : Way} {sooner : ℕ} (t : Turn) → sooner ≤ t.now → IsBefore sooner w
    → IsBefore t.now (looked w t)
looked-before {w} {sooner} t more is =
    let now = still-before more is in
    record {
      begun =
          cond_both (waits w t)
          (cond (moves w t) (t.now ∷ [])
          (cond (goes_back w.sending t) (t.now ∷ w.begins) (first_or t.now w.begins)))
          [] (λ (l : List ℕ). latest l ≤ t.now)
          (λ _. cond_both (moves w t) (t.now ∷ [])
          (cond (goes_back w.sending t) (t.now ∷ w.begins) (first_or t.now w.begins))
          (λ (l : List ℕ). latest l ≤ t.now)
          (λ _. le_refl _)
          (λ _. cond_both (goes_back w.sending t) (t.now ∷ w.begins) (first_or t.now w.begins)
          (λ (l : List ℕ). latest l ≤ t.now)
          (λ _. le_refl _) (λ _. latest-first t.now w.begins now.begun)))
          (λ _. omega arith);
      tell =
          turned-tell (λ (at due : ℕ). at ≤ later t.now TELL) w.sending t
          (cond_both (not (w.sending.told == t.stored) && w.sending.tell_at == 0)
          (later t.now TELL) w.sending.tell_at (λ (at : ℕ). at ≤ later t.now TELL)
          (λ _. le_refl _) (λ _. now.tell));
    }

offered-tell : (s : Sending) (m : Message)
    → (offered s m.number m.length).tell_at ≡ s.tell_at
offered-tell s m =
    offered-any (λ (x : Sending). x.tell_at ≡ s.tell_at) s m.number m.length
    (λ sent flight lengths blocked. refl)

receiving-tell : (s : Sending) (last : ℕ) → (receiving s last).tell_at ≡ s.tell_at
receiving-tell s last =
    receiving-any (λ (x : Sending). x.tell_at ≡ s.tell_at) s last (λ received due. refl)

telling-tell : (s : Sending) (stored : ℕ) → (telling s stored).tell_at ≡ s.tell_at
telling-tell s stored =
    telling-any (λ (x : Sending). x.tell_at ≡ s.tell_at) s stored (λ due. refl)

-- what holds before a turn, after steps in time
ready : (w : Way) (now : ℕ) (steps : List Step) (t : Turn) → IsBefore now w
    → AreInTime now (steps ++ Look t ∷ []) → IsBefore t.now (run w steps)
ready w now [] t is times = still-before times.0 is
ready w now (Look u ∷ steps) t is times =
    ready (looked w u) u.now steps t (looked-before u times.0 is) times.1
ready w now (Offer m ∷ steps) t is times =
    ready (step w (Offer m)) now steps t (record {
      begun = is.begun;
      tell = let few = is.tell in let same = offered-tell w.sending m in omega (arith, few, same);
    }) times
ready w now (Leave stored ∷ steps) t is times =
    ready (step w (Leave stored)) now steps t
    (record { begun = is.begun; tell = omega arith }) times
ready w now (Again ∷ steps) t is times =
    ready (step w Again) now steps t (record { begun = omega arith; tell = is.tell }) times
ready w now (Owe ∷ steps) t is times =
    ready (step w Owe) now steps t (record { begun = is.begun; tell = is.tell }) times
ready w now (Receive last ∷ steps) t is times =
    ready (step w (Receive last)) now steps t (record {
      begun = is.begun;
      tell = let few = is.tell in let same = receiving-tell w.sending last in
          omega (arith, few, same);
    }) times
ready w now (Tell stored ∷ steps) t is times =
    ready (step w (Tell stored)) now steps t (record {
      begun = is.begun;
      tell = let few = is.tell in let same = telling-tell w.sending stored in
          omega (arith, few, same);
    }) times

-- ---- the window is sent again

-- The window was sent from its begin at these times, and then messages wait after `last`.
pub record IsRunning (w : Way) (first : ℕ) (rest : List ℕ) (last : ℕ) : Type 0 where
  pub timer : IsTimer w.sending w.begins
  pub begins : w.begins ≡ first ∷ rest
  pub acknowledged : w.sending.acknowledged ≡ last

timer-at : {w : Way} {first : ℕ} {rest : List ℕ} {last : ℕ} → IsRunning w first rest last
    → (0 < w.sending.again_at) × (w.sending.again_at ≡ over_at (first ∷ rest))
timer-at {w} {first} {rest} {last} is =
    let there : IsTimer w.sending (first ∷ rest) =
    subst (IsTimer w.sending) is.begins is.timer in
    let at = there.at in
    let some = over-some first rest in
    (omega (arith, at, some), at)

-- a turn that finds nothing acknowledged
module _ (w : Way) (t : Turn) (few : t.acknowledged ≤ w.sending.acknowledged)
    (more : w.sending.acknowledged < t.released) where
  no-move : acknowledged_by w.sending t.acknowledged ≡ w.sending
  no-move =
      cond-true (nat_le t.acknowledged w.sending.acknowledged) w.sending
      (arrived (kept w.sending (min t.acknowledged w.sending.sent)) t.acknowledged w.sending)
      (le-leb t.acknowledged w.sending.acknowledged few)

  back-then : 0 < w.sending.again_at → w.sending.again_at ≤ t.now
      → goes_back w.sending t ≡ true
  back-then some over =
      subst (λ (a : Sending). is_over (told_by a t.now t.stored) t.now t.released ≡ true)
      (sym no-move)
      (told-any (λ (x : Sending). is_over x t.now t.released ≡ true) w.sending t.now t.stored
      (λ x d. and_from _ _
      (ap not (lt-leb t.released w.sending.acknowledged more))
      (and_from _ _
      (ap not (ne_eqb w.sending.again_at 0
      (λ (none : w.sending.again_at ≡ 0). absurd (omega (arith, none, some)))))
      (le-leb w.sending.again_at t.now over))))

  same-begins : (first : ℕ) (rest : List ℕ) → w.begins ≡ first ∷ rest
      → goes_back w.sending t ≡ false → begins_after w t ≡ first ∷ rest
  same-begins first rest is still =
      let most : max w.sending.acknowledged t.acknowledged ≡ w.sending.acknowledged =
      omega (arith, few) in
      cond-true (waits w t) _ []
      (lt-ltb (max w.sending.acknowledged t.acknowledged) t.released (omega (arith, most, more)))
      ∙ cond-false (moves w t) (t.now ∷ []) _
      (le-ltb w.sending.acknowledged t.acknowledged few)
      ∙ cond-false (goes_back w.sending t) (t.now ∷ w.begins) (first_or t.now w.begins) still
      ∙ ap (first_or t.now) is

still-runs : {w : Way} {first : ℕ} {rest : List ℕ} {last : ℕ} (s : Sending)
    → IsRunning w first rest last → IsTimer s w.begins
    → s.acknowledged ≡ w.sending.acknowledged
    → IsRunning (record w { sending = s }) first rest last
still-runs s is timer same = record {
  timer = timer;
  begins = is.begins;
  acknowledged = same ∙ is.acknowledged;
}

-- the same for the messages that are on their way
runs-sending : {w : Way} {first : ℕ} {rest : List ℕ} {last : ℕ} (ms : List Message)
    → IsRunning w first rest last → IsRunning (record w { on_way = ms }) first rest last
runs-sending ms is = record {
  timer = is.timer;
  begins = is.begins;
  acknowledged = is.acknowledged;
}

looked-runs : (w : Way) (first : ℕ) (rest : List ℕ) (last : ℕ) (t : Turn)
    → IsRunning w first rest last
    → t.acknowledged ≤ last → last < t.released → goes_back w.sending t ≡ false
    → IsRunning (looked w t) first rest last
looked-runs w first rest last t is few more still =
    let own = is.acknowledged in
    let after = turned-acknowledged w.sending t in
    record {
      timer = turned-timer w t is.timer;
      begins =
          same-begins w t (omega (arith, few, own)) (omega (arith, more, own)) first rest is.begins
          still;
      acknowledged = omega (arith, after, few, own);
    }

abbrev Ends : Way → List Step → Turn → Type 0
Ends w more u = BeginsAgain w (more ++ Look u ∷ [])

again-in-time : (w : Way) (first : ℕ) (rest : List ℕ) (last : ℕ) (u : Turn) (more : List Step)
    → IsRunning w first rest last → over_at (first ∷ rest) ≤ u.now
    → StillWaits last (more ++ Look u ∷ []) → Ends w more u
again-in-time w first rest last u [] is end still =
    let own = is.acknowledged in
    let few = still.0 in
    let waits = still.1 in
    let at = timer-at is in
    let by = at.1 in
    inl (back-then w u (omega (arith, few, own)) (omega (arith, waits, own)) at.0
    (omega (arith, by, end)))
again-in-time w first rest last u (Look t ∷ more) is end still =
    ⊎_elim {C = (goes_back w.sending t ≡ true) ⊎ Ends (looked w t) more u}
    (λ back. inl back)
    (λ stays. inr (again-in-time (looked w t) first rest last u more
    (looked-runs w first rest last t is still.0 still.1 stays) end still.2))
    (cases_Bool (goes_back w.sending t))
again-in-time w first rest last u (Offer m ∷ more) is end still =
    inr (again-in-time (step w (Offer m)) first rest last u more
    (runs-sending (step w (Offer m)).on_way
    (still-runs (offered w.sending m.number m.length) is
    (offered-any (λ (s : Sending). IsTimer s w.begins) w.sending m.number m.length
    (λ sent flight lengths blocked. is.timer))
    (offered-any (λ (s : Sending). s.acknowledged ≡ w.sending.acknowledged) w.sending m.number
    m.length
    (λ sent flight lengths blocked. refl)))) end still)
again-in-time w first rest last u (Leave stored ∷ more) is end still =
    inr (again-in-time (step w (Leave stored)) first rest last u more
    (still-runs (step w (Leave stored)).sending is is.timer refl) end still)
again-in-time w first rest last u (Again ∷ more) is end still = inl refl
again-in-time w first rest last u (Owe ∷ more) is end still =
    inr (again-in-time (step w Owe) first rest last u more
    (still-runs (step w Owe).sending is is.timer refl) end still)
again-in-time w first rest last u (Receive number ∷ more) is end still =
    inr (again-in-time (step w (Receive number)) first rest last u more
    (still-runs (receiving w.sending number) is
    (receiving-any (λ (s : Sending). IsTimer s w.begins) w.sending number
    (λ received due. is.timer))
    (receiving-any (λ (s : Sending). s.acknowledged ≡ w.sending.acknowledged) w.sending number
    (λ received due. refl))) end still)
again-in-time w first rest last u (Tell stored ∷ more) is end still =
    inr (again-in-time (step w (Tell stored)) first rest last u more
    (still-runs (telling w.sending stored) is
    (telling-any (λ (s : Sending). IsTimer s w.begins) w.sending stored (λ due. is.timer))
    (telling-any (λ (s : Sending). s.acknowledged ≡ w.sending.acknowledged) w.sending stored
    (λ due. refl))) end still)

-- a turn that finds messages starts the timer, unless it runs
record IsSome (l : List ℕ) : Type 0 where
  first : ℕ
  rest : List ℕ
  is : l ≡ first ∷ rest

some-first : (now : ℕ) (begins : List ℕ) → IsSome (first_or now begins)
some-first now [] = record { first = now; rest = []; is = refl }
some-first now (b ∷ begins) = record { first = b; rest = begins; is = refl }

some-begins : (w : Way) (t : Turn) → waits w t ≡ true → IsSome (begins_after w t)
some-begins w t some =
    subst IsSome
    (sym (cond-true (waits w t) (cond (moves w t) (t.now ∷ [])
    (cond (goes_back w.sending t) (t.now ∷ w.begins) (first_or t.now w.begins))) [] some))
    (cond_both (moves w t) (t.now ∷ [])
    (cond (goes_back w.sending t) (t.now ∷ w.begins) (first_or t.now w.begins)) IsSome
    (λ _. record { first = t.now; rest = []; is = refl })
    (λ _. cond_both (goes_back w.sending t) (t.now ∷ w.begins) (first_or t.now w.begins) IsSome
    (λ _. record { first = t.now; rest = w.begins; is = refl })
    (λ _. some-first t.now w.begins)))

waiting-runs : (w : Way) (t : Turn) → IsTimer w.sending w.begins → waits w t ≡ true
    → (some : IsSome (begins_after w t))
    → IsRunning (looked w t) some.first some.rest (looked w t).sending.acknowledged
waiting-runs w t timer waiting some = record {
  timer = turned-timer w t timer;
  begins = some.is;
  acknowledged = refl;
}

run-timer : (acknowledged received : ℕ) (before : List Step) (w : Way)
    → run (new_way acknowledged received) before ≡ w → IsTimer w.sending w.begins
run-timer acknowledged received before w same =
    let is = run-sound (new_way acknowledged received) before (new-sound acknowledged received) in
    subst (λ (v : Way). IsTimer v.sending v.begins) same is.timer

pub sent-again : SentAgain
sent-again acknowledged received before more t u w is waiting still end =
    let some = some-begins w t waiting in
    let over = ap over_at some.is in
    again-in-time (looked w t) some.first some.rest (looked w t).sending.acknowledged u more
    (waiting-runs w t (run-timer acknowledged received before w is) waiting some)
    (omega (arith, over, end)) still

-- what holds of each run that is in time, when a turn comes
after-before : (acknowledged received : ℕ) (before : List Step) (t : Turn)
    → AreInTime 0 (before ++ Look t ∷ [])
    → IsBefore t.now (looked (run (new_way acknowledged received) before) t)
after-before acknowledged received before t times =
    looked-before t (le_refl _)
    (ready (new_way acknowledged received) 0 before t (new-before acknowledged received) times)

-- ---- saves

-- after a turn that knows of a save of which no packet has spoken
tell-some : (w : Way) (t : Turn) → w.sending.told ≢ t.stored
    → 0 < (looked w t).sending.tell_at
tell-some w t new =
    turned-tell (λ (at due : ℕ). 0 < at) w.sending t
    (⊎_elim {C = 0 < tell_then w.sending t.now t.stored}
    (λ (none : w.sending.tell_at ≡ 0).
    let set_now : tell_then w.sending t.now t.stored ≡ later t.now TELL =
    cond-true (not (w.sending.told == t.stored) && w.sending.tell_at == 0) (later t.now TELL)
    w.sending.tell_at
    (and_from _ _ (ap not (ne_eqb w.sending.told t.stored new))
    (eq-eqb w.sending.tell_at 0 none)) in
    omega (arith, set_now))
    (λ (some : w.sending.tell_at ≢ 0).
    cond_both (not (w.sending.told == t.stored) && w.sending.tell_at == 0) (later t.now TELL)
    w.sending.tell_at (λ (at : ℕ). 0 < at) (λ _. omega arith) (λ _. omega (arith, some)))
    (cases_eq w.sending.tell_at 0))

-- a time that is set stays
tell-stays : (s : Sending) (now stored : ℕ) → 0 < s.tell_at
    → tell_then s now stored ≡ s.tell_at
tell-stays s now stored some =
    cond-false (not (s.told == stored) && s.tell_at == 0) (later now TELL) s.tell_at
    (and_right (not (s.told == stored)) (s.tell_at == 0)
    (ne_eqb s.tell_at 0 (λ (none : s.tell_at ≡ 0). absurd (omega (arith, none, some)))))

falls-due : (w : Way) (u : Turn) → 0 < w.sending.tell_at → w.sending.tell_at ≤ u.now
    → (looked w u).sending.due ≡ 1
falls-due w u some over =
    turned-tell (λ (at due : ℕ). due ≡ 1) w.sending u
    (let stays = tell-stays w.sending u.now u.stored some in
    cond-true _ 1 w.sending.due
    (and_from _ _
    (ap not (ne_eqb (tell_then w.sending u.now u.stored) 0
    (λ (none : tell_then w.sending u.now u.stored ≡ 0). absurd (omega (arith, none, some, stays)))))
    (le-leb (tell_then w.sending u.now u.stored) u.now (omega (arith, over, stays)))))

abbrev Due : Way → List Step → Turn → Type 0
Due w more u = (run w (more ++ Look u ∷ [])).sending.due ≡ 1

due-in-time : (w : Way) (at : ℕ) (u : Turn) (more : List Step) → 0 < at
    → w.sending.tell_at ≡ at → at ≤ u.now → IsSilent more → Due w more u
due-in-time w at u [] some is over silent =
    falls-due w u (omega (arith, some, is)) (omega (arith, is, over))
due-in-time w at u (Look t ∷ more) some is over silent =
    due-in-time (looked w t) at u more some
    (turned-tell (λ (x due : ℕ). x ≡ at) w.sending t
    (tell-stays w.sending t.now t.stored (omega (arith, some, is)) ∙ is)) over silent
due-in-time w at u (Offer m ∷ more) some is over silent =
    due-in-time (step w (Offer m)) at u more some (offered-tell w.sending m ∙ is) over silent
due-in-time w at u (Leave stored ∷ more) some is over silent = absurd silent
due-in-time w at u (Again ∷ more) some is over silent =
    due-in-time (step w Again) at u more some is over silent
due-in-time w at u (Owe ∷ more) some is over silent =
    due-in-time (step w Owe) at u more some is over silent
due-in-time w at u (Receive last ∷ more) some is over silent =
    due-in-time (step w (Receive last)) at u more some (receiving-tell w.sending last ∙ is) over
    silent
due-in-time w at u (Tell stored ∷ more) some is over silent =
    due-in-time (step w (Tell stored)) at u more some (telling-tell w.sending stored ∙ is) over
    silent

pub told-in-time : ToldInTime
told-in-time acknowledged received before more t u w is times new silent end =
    let P : Way → Type 0 = λ (v : Way). v.sending.told ≢ t.stored
    → (run (looked v t) (more ++ Look u ∷ [])).sending.due ≢ 0 in
    subst P is
    (λ new none.
    let v : Way = run (new_way acknowledged received) before in
    let by = (after-before acknowledged received before t times).tell in
    let due = due-in-time (looked v t) (looked v t).sending.tell_at u more
    (tell-some v t new) refl (omega (arith, by, end)) silent in
    let never : ◌≡◌ {A = ℕ} 1 0 = sym due ∙ none in
    cc)
    new

-- ---- when a turn is needed

set-some : (at : ℕ) → 0 < at → set_time at ≡ at
set-some at some =
    cond-false (at == 0) last_time at
    (ne_eqb at 0 (λ (none : at ≡ 0). absurd (omega (arith, none, some))))

pub turns-in-time : TurnsInTime
turns-in-time acknowledged received before t times =
    let v : Way = run (new_way acknowledged received) before in
    let past = after-before acknowledged received before t times in
    record {
      messages = λ waiting.
          let some = some-begins v t waiting in
          let over = ap over_at some.is in
          let at = timer-at
          (waiting-runs v t (run-timer acknowledged received before v refl) waiting some) in
          let same = at.1 in
          let set_at = set-some (looked v t).sending.again_at at.0 in
          omega (arith, over, same, set_at);
      soon = λ waiting.
          let some = some-begins v t waiting in
          let over = ap over_at some.is in
          let first = ap latest some.is in
          let few = past.begun in
          let most = pause-most some.rest in
          omega (arith, over, first, few, most);
      save = λ new.
          let by = past.tell in
          let set_at = set-some (looked v t).sending.tell_at (tell-some v t new) in
          omega (arith, by, set_at);
    }

-- before it is set, a time isn't over
early : (at now : ℕ) → now < set_time at → (not (at == 0) && nat_le at now) ≡ false
early at now before =
    ⊎_elim {C = (not (at == 0) && nat_le at now) ≡ false}
    (λ (none : at ≡ 0). and_left (not (at == 0)) (nat_le at now) (ap not (eq-eqb at 0 none)))
    (λ (some : at ≢ 0).
    let set_at : set_time at ≡ at = cond-false (at == 0) last_time at (ne_eqb at 0 some) in
    and_right (not (at == 0)) (nat_le at now) (lt-leb at now (omega (arith, before, set_at))))
    (cases_eq at 0)

pub none-too-early : NoneTooEarly
none-too-early s t before = (
  cond_both (nat_le t.acknowledged s.acknowledged) s
      (arrived (kept s (min t.acknowledged s.sent)) t.acknowledged s)
      (λ (a : Sending). is_over (told_by a t.now t.stored) t.now t.released ≡ false)
      (λ _. not-over s (early s.again_at t.now (omega (arith, before))))
      (λ _. not-over (arrived (kept s (min t.acknowledged s.sent)) t.acknowledged s) refl),
  turned-tell (λ (at due : ℕ). due ≡ s.due) s t
      (cond-false
      (not (tell_then s t.now t.stored == 0) && nat_le (tell_then s t.now t.stored) t.now)
      1 s.due
      (early (tell_then s t.now t.stored) t.now
      (cond_both (not (s.told == t.stored) && s.tell_at == 0) (later t.now TELL) s.tell_at
      (λ (at : ℕ). t.now < set_time at)
      (λ begins.
      let tests = and_parts (not (s.told == t.stored)) (s.tell_at == 0) begins in
      let last : set_time s.tell_at ≡ last_time =
      cond-true (s.tell_at == 0) last_time s.tell_at tests.1 in
      let set_at = set-some (later t.now TELL) (omega arith) in
      omega (arith, before, last, set_at))
      (λ _. omega (arith, before))))),
)
  where
    not-over : (a : Sending) → runs_out a t.now ≡ false
        → is_over (told_by a t.now t.stored) t.now t.released ≡ false
    not-over a still =
        told-any (λ (x : Sending). is_over x t.now t.released ≡ false) a t.now t.stored
        (λ x d. and_right (not (nat_le t.released a.acknowledged)) (runs_out a t.now) still)
