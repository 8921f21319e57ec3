-- What can happen on the way to another node, step by step.
--
-- Nothing is assumed of packets: whichever of them are lost, repeated or late, what comes of it is
-- how far the other node has acknowledged when the host looks, and that may be anything.
use Rattle.std.specs.Prelude.{◌≡◌, ◌⊎◌, ℕ, ◌≤◌, ◌<◌, ⊤, Bool, true, false, cond, nat_lt, List, [], ◌∷◌, ◌++◌, filter, max}
use Rattle.sending.specs.declared.Sending.{Sending}
use Rattle.sending.specs.declared.Turn.{Turn}
use Rattle.sending.specs.Rules.{again, begun, goes, goes_back, left, offered, owing, receiving, telling, turned}

-- a message, and how many bytes it has
pub record Message : Type 0 where
  pub number : ℕ
  pub length : ℕ

-- The way to another node.
pub record Way : Type 0 where
  pub sending : Sending
  -- The messages that are on their way, the first one first: they were sent since the window was
  -- last sent from its begin, and aren't acknowledged.
  pub on_way : List Message
  -- The times at which the window was sent from its begin since a message was acknowledged, the
  -- last time first. The first time of all is that of the turn that found messages to send.
  pub begins : List ℕ

-- of a new process, which knows that messages up to the first number are acknowledged, and has
-- received and saved messages up to the second one
abbrev pub new_way : (acknowledged received : ℕ) → Way
new_way acknowledged received = record {
  sending = begun acknowledged received;
  on_way = [];
  begins = [];
}

pub data Step : Type 0 where
  -- the host has a turn
  Look : Turn → Step
  -- it offers a message
  Offer : Message → Step
  -- a packet leaves, when this save was the last one that is stored
  Leave : ℕ → Step
  -- all that was sent may be lost: the connection was, or another process runs the other node
  Again : Step
  -- a packet has to go: something has changed that it says; messages up to this one are received
  -- and saved; the node leaves, and this save is the last one that is stored
  Owe : Step
  Receive : ℕ → Step
  Tell : ℕ → Step

-- ---- a turn

-- it finds that messages were acknowledged
abbrev pub moves : Way → Turn → Bool
moves w t = nat_lt w.sending.acknowledged t.acknowledged

-- it finds released messages that aren't acknowledged
abbrev pub waits : Way → Turn → Bool
waits w t = nat_lt (max w.sending.acknowledged t.acknowledged) t.released

abbrev pub first_or : ℕ → List ℕ → List ℕ
first_or time [] = time ∷ []
first_or time (b ∷ begins) = b ∷ begins

-- the times at which the window was sent from its begin, then
abbrev pub begins_after : Way → Turn → List ℕ
begins_after w t =
    cond (waits w t)
    (cond (moves w t) (t.now ∷ [])
    (cond (goes_back w.sending t) (t.now ∷ w.begins) (first_or t.now w.begins)))
    []

abbrev pub looked : Way → Turn → Way
looked w t = record {
  sending = turned w.sending t;
  on_way =
      cond (goes_back w.sending t) []
      (filter (λ (m : Message). nat_lt t.acknowledged m.number) w.on_way);
  begins = begins_after w t;
}

-- ---- any step

abbrev pub sent_with : Way → Message → Way
sent_with w m = record {
  sending = offered w.sending m.number m.length;
  on_way = cond (goes w.sending m.number m.length) (w.on_way ++ m ∷ []) w.on_way;
  begins = w.begins;
}

abbrev pub step : Way → Step → Way
step w (Look t) = looked w t
step w (Offer m) = sent_with w m
step w (Leave stored) = record w { sending = left w.sending stored }
step w Again = record { sending = again w.sending; on_way = []; begins = [] }
step w Owe = record w { sending = owing w.sending }
step w (Receive last) = record w { sending = receiving w.sending last }
step w (Tell stored) = record w { sending = telling w.sending stored }

abbrev pub run : Way → List Step → Way
run w [] = w
run w (s ∷ steps) = run (step w s) steps

-- The window is sent from its begin again with this step.
abbrev pub begins_again : Way → Step → Bool
begins_again w (Look t) = goes_back w.sending t
begins_again w Again = true
begins_again w s = false

-- with one of these steps
abbrev pub BeginsAgain : Way → List Step → Type 0
BeginsAgain w [] = ⊥
BeginsAgain w (s ∷ steps) = (begins_again w s ≡ true) ⊎ BeginsAgain (step w s) steps

-- ---- assumptions

-- clocks don't go back
abbrev pub AreInTime : (now : ℕ) → List Step → Type 0
AreInTime now [] = ⊤
AreInTime now (Look t ∷ steps) = (now ≤ t.now) × AreInTime t.now steps
AreInTime now (s ∷ steps) = AreInTime now steps

-- no turn finds that more messages are acknowledged, nor that all are
abbrev pub StillWaits : (acknowledged : ℕ) → List Step → Type 0
StillWaits last [] = ⊤
StillWaits last (Look t ∷ steps) =
    (t.acknowledged ≤ last) × (last < t.released) × StillWaits last steps
StillWaits last (s ∷ steps) = StillWaits last steps

-- no packet leaves
abbrev pub IsSilent : List Step → Type 0
IsSilent [] = ⊤
IsSilent (Leave stored ∷ steps) = ⊥
IsSilent (s ∷ steps) = IsSilent steps
