-- Worked examples, computed: what is on its way after some steps, when the window was sent from its
-- begin, until when nothing has to be done, and whether a packet is due.
use Rattle.std.proofs.Common.{◌≡◌, ℕ, List, [], ◌∷◌, map, refl}
use Rattle.sending.specs.Rules.{last_time, until}
use Rattle.sending.specs.Runs.{Again, Leave, Look, Message, Offer, Receive, Step, new_way, run}

-- a turn at this time, with save 1 stored; a message with this number and 48 bytes
abbrev turn : (now released acknowledged : ℕ) → Step
turn now released acknowledged =
    Look (record { now = now; released = released; acknowledged = acknowledged; stored = 1 })

abbrev message : ℕ → Step
message number = Offer (record { number = number; length = 48 })

-- The numbers of the messages on their way, the times, and the rest.
record Row (steps : List Step) (numbers begins : List ℕ) (next due : ℕ) : Type 0 where
  on_way : map (λ (m : Message). m.number) (run (new_way 0 0) steps).on_way ≡ numbers
  times : (run (new_way 0 0) steps).begins ≡ begins
  waits : until (run (new_way 0 0) steps).sending ≡ next
  owes : (run (new_way 0 0) steps).sending.due ≡ due

-- A new process shows itself. Then nothing is due before a message is released.
first-packet : Row (turn 10 0 0 ∷ Leave 1 ∷ []) [] [] last_time 0
first-packet = record { on_way = refl; times = refl; waits = refl; owes = refl }

-- Messages go in order; others than the next one don't.
in-order : Row
    (turn 10 3 0 ∷ message 1 ∷ message 3 ∷ message 1 ∷ message 2 ∷ Leave 1 ∷ [])
    (1 ∷ 2 ∷ []) (10 ∷ []) 60 0
in-order = record { on_way = refl; times = refl; waits = refl; owes = refl }

-- They are sent again after 50 ms, then after 100.
again : Row
    (turn 10 2 0
    ∷ message 1
    ∷ message 2
    ∷ Leave 1
    ∷ turn 59 2 0
    ∷ turn 60 2 0
    ∷ message 1
    ∷ Leave 1
    ∷ [])
    (1 ∷ []) (60 ∷ 10 ∷ []) 160 0
again = record { on_way = refl; times = refl; waits = refl; owes = refl }

-- An acknowledgement ends the pause, and the next one is short.
acknowledged : Row
    (turn 10 2 0
    ∷ message 1
    ∷ message 2
    ∷ Leave 1
    ∷ turn 60 2 0
    ∷ message 1
    ∷ message 2
    ∷ turn 90 2 1
    ∷ Leave 1
    ∷ [])
    (2 ∷ []) (90 ∷ []) 140 0
acknowledged = record { on_way = refl; times = refl; waits = refl; owes = refl }

-- What was acknowledged before it was sent again isn't sent.
arrived-late : Row
    (turn 10 2 0 ∷ message 1 ∷ message 2 ∷ Again ∷ Leave 1 ∷ turn 20 3 2 ∷ message 3 ∷ [])
    (3 ∷ []) (20 ∷ []) 70 0
arrived-late = record { on_way = refl; times = refl; waits = refl; owes = refl }

-- A save is told of after a second.
told : Row (Leave 0 ∷ turn 10 0 0 ∷ turn 1009 0 0 ∷ []) [] [] 1010 0
told = record { on_way = refl; times = refl; waits = refl; owes = refl }

told-late : Row (Leave 0 ∷ turn 10 0 0 ∷ turn 1010 0 0 ∷ []) [] [] 1010 1
told-late = record { on_way = refl; times = refl; waits = refl; owes = refl }

-- An acknowledgement is due once.
owed : Row (Leave 1 ∷ Receive 5 ∷ Leave 1 ∷ Receive 5 ∷ []) [] [] last_time 0
owed = record { on_way = refl; times = refl; waits = refl; owes = refl }
