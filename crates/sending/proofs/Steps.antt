-- What each step keeps.
use Rattle.std.proofs.Common.{ℕ, ◌+◌, ◌==◌, cond, nat_le, List, [], ◌∷◌, length, set, subst, refl, arith}
use Rattle.std.proofs.lemmas.Bool.{cond_both}
use Rattle.sending.specs.declared.TheConstants.{FIRST_PAUSE}
use Rattle.sending.specs.declared.Sending.{Sending}
use Rattle.sending.specs.Rules.{doubled, fits, gone, is_next, kept, later, offered, owing, receiving, runs_out, started, stopped, telling, timed, went}
use Rattle.sending.specs.Runs.{Again, Leave, Look, Offer, Owe, Receive, Step, Tell, Way, new_way, run, step}
use Rattle.sending.specs.Laws.{InOrder, NextGoes, PausesGrow}
use Rattle.sending.proofs.Window.{IsWindow, begun-window, goes-if, goes-only, gone-window, offered-window, turned-window}
use Rattle.sending.proofs.Timer.{IsTimer, stopped-timer, turned-timer}

-- ---- what a call leaves as it is

-- Whatever the timer does, it changes these alone.
pub timed-any : (P : Sending → Type 0) (s : Sending) (now released : ℕ)
    → ((sent flight blocked pause again_at : ℕ)
    → P (record s {
      sent = sent;
      flight = flight;
      blocked = blocked;
      pause = pause;
      again_at = again_at;
    }))
    → P (timed s now released)
timed-any P s now released all =
    cond_both (nat_le released s.acknowledged) (stopped s)
    (cond (runs_out s now) (started now (record (gone s) { pause = doubled s.pause }))
    (cond (s.again_at == 0) (started now s) s))
    P
    (λ _. all s.sent s.flight s.blocked FIRST_PAUSE 0)
    (λ _. cond_both (runs_out s now) (started now (record (gone s) { pause = doubled s.pause }))
    (cond (s.again_at == 0) (started now s) s) P
    (λ _. all s.acknowledged 0 0 (doubled s.pause) (later now (doubled s.pause)))
    (λ _. cond_both (s.again_at == 0) (started now s) s P
    (λ _. all s.sent s.flight s.blocked s.pause (later now s.pause))
    (λ _. all s.sent s.flight s.blocked s.pause s.again_at)))

pub offered-any : (P : Sending → Type 0) (s : Sending) (number length : ℕ)
    → ((sent flight : ℕ) (lengths : List ℕ) (blocked : ℕ)
    → P (record s { sent = sent; flight = flight; lengths = lengths; blocked = blocked }))
    → P (offered s number length)
offered-any P s number length all =
    cond_both (is_next s number)
    (cond (fits s length) (went s number length) (record s { blocked = 1 })) s P
    (λ _. cond_both (fits s length) (went s number length) (record s { blocked = 1 }) P
    (λ _. all number (cond (kept s s.sent == 0) 0 s.flight + length)
    (set s.lengths (kept s s.sent) length) 0)
    (λ _. all s.sent s.flight s.lengths 1))
    (λ _. all s.sent s.flight s.lengths s.blocked)

pub receiving-any : (P : Sending → Type 0) (s : Sending) (last : ℕ)
    → ((received due : ℕ) → P (record s { received = received; due = due }))
    → P (receiving s last)
receiving-any P s last all =
    cond_both (s.received == last) s (owing (record s { received = last })) P
    (λ _. all s.received s.due) (λ _. all last 1)

pub telling-any : (P : Sending → Type 0) (s : Sending) (stored : ℕ)
    → ((due : ℕ) → P (record s { due = due })) → P (telling s stored)
telling-any P s stored all =
    cond_both (s.told == stored) s (owing s) P (λ _. all s.due) (λ _. all 1)

-- ---- the window and the timer

pub record IsSound (w : Way) : Type 0 where
  pub window : IsWindow w.sending w.on_way
  pub timer : IsTimer w.sending w.begins

pub new-sound : (acknowledged received : ℕ) → IsSound (new_way acknowledged received)
new-sound acknowledged received = record {
  window = begun-window acknowledged received;
  timer = record { at = refl; lasts = refl; apart = tt };
}

pub step-sound : (w : Way) (s : Step) → IsSound w → IsSound (step w s)
step-sound w (Look t) is = record {
  window = turned-window w.sending w.on_way t is.window;
  timer = turned-timer w t is.timer;
}
step-sound w (Offer m) is = record {
  window = offered-window w.sending w.on_way m is.window;
  timer = offered-any (λ (s : Sending). IsTimer s w.begins) w.sending m.number m.length
      (λ sent flight lengths blocked. is.timer);
}
step-sound w (Leave stored) is = record { window = is.window; timer = is.timer }
step-sound w Again is = record {
  window = gone-window w.sending w.on_way is.window;
  timer = stopped-timer w.sending;
}
step-sound w Owe is = record { window = is.window; timer = is.timer }
step-sound w (Receive last) is = record {
  window = receiving-any (λ (s : Sending). IsWindow s w.on_way) w.sending last
      (λ received due. is.window);
  timer = receiving-any (λ (s : Sending). IsTimer s w.begins) w.sending last
      (λ received due. is.timer);
}
step-sound w (Tell stored) is = record {
  window = telling-any (λ (s : Sending). IsWindow s w.on_way) w.sending stored
      (λ due. is.window);
  timer = telling-any (λ (s : Sending). IsTimer s w.begins) w.sending stored
      (λ due. is.timer);
}

pub run-sound : (w : Way) (steps : List Step) → IsSound w → IsSound (run w steps)
run-sound w [] is = is
run-sound w (s ∷ steps) is = run-sound (step w s) steps (step-sound w s is)

pub in-order : InOrder
in-order acknowledged received steps =
    let w : Way = run (new_way acknowledged received) steps in
    let is : IsWindow w.sending w.on_way =
    (run-sound (new_way acknowledged received) steps (new-sound acknowledged received)).window in
    record {
      next = is.next;
      last = is.last;
      few = let wide = is.wide in omega (arith, wide);
      bytes = is.bytes;
      bounded = is.bounded;
      blocked = is.waits;
    }

pub pauses-grow : PausesGrow
pauses-grow acknowledged received steps =
    let is = run-sound (new_way acknowledged received) steps (new-sound acknowledged received) in
    is.timer.apart

pub next-goes : NextGoes
next-goes acknowledged received steps m w same =
    let is = run-sound (new_way acknowledged received) steps (new-sound acknowledged received) in
    let window : IsWindow w.sending w.on_way =
    subst (λ (v : Way). IsWindow v.sending v.on_way) same is.window in (
      λ does.
          let fit = goes-only w.sending w.on_way m window does in
          record { next = fit.next; few = fit.few; fits = fit.fits },
      λ may.
          goes-if w.sending w.on_way m window
          (record { next = may.next; few = may.few; fits = may.fits }),
    )
