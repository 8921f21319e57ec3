-- What each call does with what is known of another node.
use Rattle.std.specs.Prelude.{ℕ, ◌+◌, ◌-◌, ◌*◌, ◌^◌, Bool, ◌&&◌, ◌||◌, not, cond, nat_le, nat_lt, ◌==◌, ◌++◌, min, max, take, drop, replicate, set, sum}
use Rattle.sending.specs.declared.TheConstants.{FIRST_PAUSE, FLIGHT_BYTES, LONGEST_PAUSE, TELL, WINDOW}
use Rattle.sending.specs.declared.Sending.{Sending}
use Rattle.sending.specs.declared.Turn.{Turn}

-- the last moment that a time can be
abbrev pub last_time : ℕ
last_time = 2 ^ 64 - 1

-- a time that is this much later, or the last moment
abbrev pub later : (time pause : ℕ) → ℕ
later time pause = min (time + pause) last_time

-- a new process, which has sent nothing: messages up to these are acknowledged, and received
abbrev pub begun : (acknowledged received : ℕ) → Sending
begun acknowledged received = record {
  acknowledged = acknowledged;
  sent = acknowledged;
  flight = 0;
  again_at = 0;
  pause = FIRST_PAUSE;
  received = received;
  told = 0;
  tell_at = 0;
  lengths = replicate WINDOW 0;
  blocked = 0;
  due = 1;
}

-- ---- the window is sent from its begin again

-- nothing is on its way any more
abbrev pub gone : Sending → Sending
gone s = record s { sent = s.acknowledged; flight = 0; blocked = 0 }

-- no message waits
abbrev pub stopped : Sending → Sending
stopped s = record s { pause = FIRST_PAUSE; again_at = 0 }

-- a packet is due
abbrev pub owing : Sending → Sending
owing s = record s { due = 1 }

-- all that was sent may be lost
abbrev pub again : Sending → Sending
again s = owing (stopped (gone s))

-- ---- a turn

-- how many messages up to this one are on their way
abbrev pub kept : Sending → (last : ℕ) → ℕ
kept s last = min (last - s.acknowledged) WINDOW

-- messages up to this one aren't on their way any more
abbrev pub arrived : (count last : ℕ) → Sending → Sending
arrived count last s =
    stopped
    (record s {
      acknowledged = last;
      sent = max s.sent last;
      flight = s.flight - sum (take count s.lengths);
      lengths = drop count s.lengths ++ take count s.lengths;
      blocked = 0;
    })

-- messages up to this one are acknowledged, or no more than were
abbrev pub acknowledged_by : Sending → (last : ℕ) → Sending
acknowledged_by s last =
    cond (nat_le last s.acknowledged) s (arrived (kept s (min last s.sent)) last s)

-- A save of which no packet has spoken is known: from now on, unless one was before.
abbrev pub tells : Sending → (now stored : ℕ) → Sending
tells s now stored =
    cond (not (s.told == stored) && s.tell_at == 0) (record s { tell_at = later now TELL }) s

-- it has been known long enough
abbrev pub falls_due : Sending → (now : ℕ) → Sending
falls_due s now = cond (not (s.tell_at == 0) && nat_le s.tell_at now) (owing s) s

-- this save is the last one that is stored
abbrev pub told_by : Sending → (now stored : ℕ) → Sending
told_by s now stored = falls_due (tells s now stored) now

-- the pause is over
abbrev pub runs_out : Sending → (now : ℕ) → Bool
runs_out s now = not (s.again_at == 0) && nat_le s.again_at now

-- and messages up to this one are released, which aren't all acknowledged
abbrev pub is_over : Sending → (now released : ℕ) → Bool
is_over s now released = not (nat_le released s.acknowledged) && runs_out s now

-- a pause begins
abbrev pub started : (now : ℕ) → Sending → Sending
started now s = record s { again_at = later now s.pause }

-- the next one
abbrev pub doubled : ℕ → ℕ
doubled pause = min (2 * pause) LONGEST_PAUSE

-- the window is sent again if the pause is over; a pause begins, unless one has, or nothing waits
abbrev pub timed : Sending → (now released : ℕ) → Sending
timed s now released =
    cond (nat_le released s.acknowledged) (stopped s)
    (cond (runs_out s now)
    (started now (record (gone s) { pause = doubled s.pause }))
    (cond (s.again_at == 0) (started now s) s))

-- what a turn finds, and then what it does
abbrev pub noticed : Sending → Turn → Sending
noticed s t = told_by (acknowledged_by s t.acknowledged) t.now t.stored

abbrev pub turned : Sending → Turn → Sending
turned s t = timed (noticed s t) t.now t.released

-- it sends the window again
abbrev pub goes_back : Sending → Turn → Bool
goes_back s t = is_over (noticed s t) t.now t.released

-- ---- messages and packets

-- the message is the next one, and there is a place for it in the window
abbrev pub is_next : Sending → (number : ℕ) → Bool
is_next s number = nat_lt (kept s s.sent) WINDOW && number == s.sent + 1

-- With it, not too many bytes are on their way. One may always be.
abbrev pub fits : Sending → (length : ℕ) → Bool
fits s length = kept s s.sent == 0 || nat_le (s.flight + length) FLIGHT_BYTES

-- the message goes with a packet
abbrev pub goes : Sending → (number length : ℕ) → Bool
goes s number length = is_next s number && fits s length

abbrev pub went : Sending → (number length : ℕ) → Sending
went s number length =
    record s {
      sent = number;
      flight = cond (kept s s.sent == 0) 0 s.flight + length;
      lengths = set s.lengths (kept s s.sent) length;
      blocked = 0;
    }

-- A message is offered. If it is the next one, and doesn't fit, it has to wait.
abbrev pub offered : Sending → (number length : ℕ) → Sending
offered s number length =
    cond (is_next s number)
    (cond (fits s length) (went s number length) (record s { blocked = 1 }))
    s

-- messages up to this one are received and saved
abbrev pub receiving : Sending → (last : ℕ) → Sending
receiving s last = cond (s.received == last) s (owing (record s { received = last }))

-- the other node has to hear of this save, unless a packet spoke of it
abbrev pub telling : Sending → (stored : ℕ) → Sending
telling s stored = cond (s.told == stored) s (owing s)

-- a packet goes, and speaks of this save
abbrev pub left : Sending → (stored : ℕ) → Sending
left s stored = record s { due = 0; told = stored; tell_at = 0 }

-- ---- the next turn

-- a time, or the last moment if none is set
abbrev pub set_time : ℕ → ℕ
set_time at = cond (at == 0) last_time at

-- a turn has something to do then, if nothing happens before
abbrev pub until : Sending → ℕ
until s = min (set_time s.again_at) (set_time s.tell_at)
