-- What holds of each run.
use Rattle.std.specs.Prelude.{◌≡◌, ◌≢◌, ◌↔◌, ◌⊎◌, ℕ, ◌+◌, ◌<◌, ◌*◌, ◌≤◌, ⊤, true, false, List, [], ◌∷◌, ◌++◌, length, min, sum_by}
use Rattle.sending.specs.declared.TheConstants.{FIRST_PAUSE, FLIGHT_BYTES, LONGEST_PAUSE, TELL, WINDOW}
use Rattle.sending.specs.declared.Sending.{Sending}
use Rattle.sending.specs.declared.Turn.{Turn}
use Rattle.sending.specs.Rules.{goes, goes_back, later, turned, until}
use Rattle.sending.specs.Runs.{AreInTime, BeginsAgain, IsSilent, Look, Message, Step, StillWaits, Way, looked, new_way, run, waits}

-- ---- what is on its way

-- the messages after this one, in order, each once
abbrev pub AreNext : ℕ → List Message → Type 0
AreNext last [] = ⊤
AreNext last (m ∷ others) = (m.number ≡ last + 1) × AreNext m.number others

-- Nothing is skipped, and not too much is on its way.
pub record IsInOrder (w : Way) : Type 0 where
  -- the first messages that aren't acknowledged
  pub next : AreNext w.sending.acknowledged w.on_way
  pub last : w.sending.sent ≡ w.sending.acknowledged + length w.on_way
  pub few : length w.on_way ≤ WINDOW
  -- their bytes, which are few unless a message is alone
  pub bytes : w.sending.flight ≡ sum_by (λ (m : Message). m.length) w.on_way
  pub bounded : (w.sending.flight ≤ FLIGHT_BYTES) ⊎ (length w.on_way ≤ 1)
  -- a message has to wait only for others
  pub blocked : w.sending.blocked ≢ 0 → 0 < length w.on_way

abbrev pub InOrder : Type 0
InOrder =
    (acknowledged received : ℕ) (steps : List Step)
    → IsInOrder (run (new_way acknowledged received) steps)

-- What goes with a packet: the next message, if there is a place for it, and if it is alone or has
-- few enough bytes. So a message of any length goes if nothing is on its way.
pub record MayGo (w : Way) (m : Message) : Type 0 where
  pub next : m.number ≡ w.sending.acknowledged + length w.on_way + 1
  pub few : length w.on_way < WINDOW
  pub fits :
      (length w.on_way ≡ 0)
      ⊎ (sum_by (λ (x : Message). x.length) w.on_way + m.length ≤ FLIGHT_BYTES)

abbrev pub NextGoes : Type 0
NextGoes =
    (acknowledged received : ℕ) (steps : List Step) (m : Message) (w : Way)
    → run (new_way acknowledged received) steps ≡ w
    → (goes w.sending m.number m.length ≡ true) ↔ MayGo w m

-- ---- how often the window is sent again

-- how long the pause is, after the window was sent again at each of these times
abbrev pub pause_after : List ℕ → ℕ
pause_after [] = FIRST_PAUSE
pause_after (t ∷ times) = min (2 * pause_after times) LONGEST_PAUSE

-- when it is over, after the window was sent at these times (the last one is first)
abbrev pub over_at : List ℕ → ℕ
over_at [] = 0
over_at (t ∷ times) = later t (pause_after times)

-- between two times a whole pause is over
abbrev pub AreApart : List ℕ → Type 0
AreApart [] = ⊤
AreApart (first ∷ []) = ⊤
AreApart (t ∷ before ∷ times) = (over_at (before ∷ times) ≤ t) × AreApart (before ∷ times)

-- The window isn't sent again too soon: each pause is twice as long as the one before, up to the
-- longest one, until messages are acknowledged.
abbrev pub PausesGrow : Type 0
PausesGrow =
    (acknowledged received : ℕ) (steps : List Step)
    → AreApart (run (new_way acknowledged received) steps).begins

-- Nor too late: what a turn finds that isn't acknowledged is sent again by the first turn that
-- comes when the pause is over, unless something is acknowledged before.
abbrev pub SentAgain : Type 0
SentAgain =
    (acknowledged received : ℕ) (before more : List Step) (t u : Turn) (w : Way)
    → run (new_way acknowledged received) before ≡ w
    → waits w t ≡ true
    → StillWaits (looked w t).sending.acknowledged (more ++ Look u ∷ [])
    → over_at (looked w t).begins ≤ u.now
    → BeginsAgain (looked w t) (more ++ Look u ∷ [])

-- ---- what a packet says

-- After a turn knows of a save of which no packet has spoken, a packet leaves, or it is due from
-- the first turn on that comes when the time for it is over.
abbrev pub ToldInTime : Type 0
ToldInTime =
    (acknowledged received : ℕ) (before more : List Step) (t u : Turn) (w : Way)
    → run (new_way acknowledged received) before ≡ w
    → AreInTime 0 (before ++ Look t ∷ [])
    → w.sending.told ≢ t.stored
    → IsSilent more
    → later t.now TELL ≤ u.now
    → (run (looked w t) (more ++ Look u ∷ [])).sending.due ≢ 0

-- ---- when a turn is needed

-- If messages wait, or a save of which no packet has spoken, then the next turn is needed in time.
pub record IsNeeded (w : Way) (t : Turn) : Type 0 where
  pub messages : waits w t ≡ true → until (looked w t).sending ≤ over_at (looked w t).begins
  pub soon : waits w t ≡ true → over_at (looked w t).begins ≤ later t.now LONGEST_PAUSE
  pub save : w.sending.told ≢ t.stored → until (looked w t).sending ≤ later t.now TELL

abbrev pub TurnsInTime : Type 0
TurnsInTime =
    (acknowledged received : ℕ) (before : List Step) (t : Turn)
    → AreInTime 0 (before ++ Look t ∷ [])
    → IsNeeded (run (new_way acknowledged received) before) t

-- A turn that comes earlier doesn't send the window again, and makes no packet due.
abbrev pub NoneTooEarly : Type 0
NoneTooEarly =
    (s : Sending) (t : Turn) → t.now < until s
    → (goes_back s t ≡ false) × ((turned s t).due ≡ s.due)
