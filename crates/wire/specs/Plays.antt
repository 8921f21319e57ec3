-- What each kind of atomic step guarantees, and what it requires of its caller.
use Rattle.std.specs.Prelude.{◌≡◌, ◌≢◌, ℕ, ◌/◌, ◌%◌, ◌^◌, ◌<◌, ◌≤◌, true, false, List, [], ◌∷◌, ◌++◌, length, slice_get, Some, None, Ok}
use Rattle.atomic_table.specs.Table.{Me, Step, rest}
use Rattle.ids.specs.declared.limits.TheConstants.{GREATEST_CYCLE}
use Rattle.msg.specs.Frames.{Plain, data_frame, ack_frame}
use Rattle.msg.specs.declared.body.Message.{Message}
use Rattle.model.specs.declared.event.Answer.{Answer}
use Rattle.model.specs.declared.step.Step as model
use Rattle.model.specs.declared.step.Step.TheVariants as step
use Rattle.model.specs.Effects.{is_change}
use Rattle.model.specs.State.{NodeState, got_from, sent_to}
use Rattle.model.specs.Steps.{act, receive, is_own}
use Rattle.model.specs.World.{World, run, numbered, IsInNet}
use Rattle.wire.specs.Views.{Pair, Known, pair_at, notes, claims, takes_in, posts, clears, ticks, raises, marks, learns}
use Rattle.wire.specs.Lists.{has, found, Continues}
use Rattle.wire.specs.Rule.{IsOpening, AreEvents, events_of, ended_of, sender, receiver, Spells}

-- ---- What a caller owes

-- a frame that node i releases when this is its saved state
abbrev pub Releases : ℕ → NodeState → Plain → Type 0
Releases i saved (data_frame from to number stamp body) =
    (from ≡ i) × (to ≢ i)
    × (numbered (sent_to saved to) number ≡ Some (record { stamp = stamp; body = body }))
Releases i saved (ack_frame by of number) =
    (by ≡ i) × (of ≢ i) × (number ≤ got_from saved.local of)

-- the bytes spell a frame that the seat's node releases, for the mailbox's receiver
abbrev pub Owns : ℕ → Known → List ℕ → Type 0
Owns m v bytes =
    (f : Plain) × Spells f bytes × (receiver f ≡ m % v.nodes) × Releases v.me v.pair.saved f

-- the node took the frame of this message from the wire
abbrev pub HasTaken : Known → ℕ → ℕ → Message → Type 0
HasTaken v from number x =
    ∥ ((k : ℕ) × (slice_get v.taken k ≡ Some (data_frame from v.me number x.stamp x.body))) ∥₁

-- The step is an event of the seat's node, after which its pair is q. A delivered message was taken
-- from the wire.
abbrev pub Happens : Known → model.Step → Pair → Type 0
Happens v (step.Act i e) q =
    (i ≡ v.me) × (is_own e ≡ true) × (q.saved ≡ v.pair.saved)
    × ((a : Answer) × (act v.pair.current e ≡ Ok (q.current, a)) × (is_change a ≡ true))
Happens v (step.Save i) q =
    (i ≡ v.me) × (q ≡ record { current = v.pair.current; saved = v.pair.current })
Happens v (step.Restart i) q =
    (i ≡ v.me) × (q ≡ record { current = v.pair.saved; saved = v.pair.saved })
Happens v (step.Deliver from to number) q =
    (to ≡ v.me) × (from < v.nodes) × (q.saved ≡ v.pair.saved)
    × ((x : Message) × (a : Answer)
    × HasTaken v from number x
    × (receive v.pair.current from v.me number x.stamp x.body ≡ Ok (q.current, a))
    × (is_change a ≡ true))
Happens v (step.Hand from to) q = ⊥

-- ---- The rule, read at a step

-- The event is one of the space, and the next one of some list of events that leads to the seat's
-- pair.
pub record Enters (s : model.Step) (v : Known) (count : ℕ) (w : Known) : Type 0 where
  pub log : List model.Step
  pub events : AreEvents v.opening (log ++ s ∷ [])
  pub before : pair_at (run v.opening log) v.me ≡ v.pair
  pub after : pair_at (run v.opening (log ++ s ∷ [])) v.me ≡ w.pair
  pub counted : count ≡ length log % 2 ^ 64
  pub own : w.events ≡ events_of v.me (log ++ s ∷ [])

-- the frame is in the net of a world that some list of events leads to
abbrev pub IsReleased : World → Plain → Type 0
IsReleased opening f =
    (log : List model.Step) × AreEvents opening log × IsInNet (run opening log) f

-- Some list of events has the frame in its net, and leads to the seat's pair. So the frame may be
-- delivered in the current state of the seat's node.
pub record Arrives (v : Known) (f : Plain) : Type 0 where
  pub log : List model.Step
  pub events : AreEvents v.opening log
  pub net : IsInNet (run v.opening log) f
  pub pair : pair_at (run v.opening log) v.me ≡ v.pair
  pub own : v.events ≡ events_of v.me log

-- The list of events leads to what the seat knows of its node, and each frame that the seat took is
-- released after it.
pub record LeadsTo (v : Known) (log : List model.Step) : Type 0 where
  pub events : AreEvents v.opening log
  pub pair : pair_at (run v.opening log) v.me ≡ v.pair
  pub own : v.events ≡ events_of v.me log
  pub net : (k : ℕ) (f : Plain) → slice_get v.taken k ≡ Some f → IsInNet (run v.opening log) f

abbrev pub HasLed : Known → Type 0
HasLed v = (log : List model.Step) × LeadsTo v log

abbrev pub IsSupplied : Known → Type 0
IsSupplied v = ∥ HasLed v ∥₁

-- The seat learned a list of events that leads to what it knows, and that begins with the list
-- `seen`.
pub record Learns (seen : List model.Step) (v w : Known) : Type 0 where
  pub log : List model.Step
  pub known : w ≡ learns log v
  pub opens : IsOpening v.opening
  pub leads : LeadsTo v log
  pub continues : Continues seen log

-- node 0's saved state had counted this cycle as ended
abbrev pub HasEnded : World → ℕ → Type 0
HasEnded opening number =
    (log : List model.Step) × AreEvents opening log × (number ≤ ended_of (run opening log))

abbrev pub WasEnded : World → ℕ → Type 0
WasEnded opening number = ∥ HasEnded opening number ∥₁

-- ---- What a step guarantees

-- the seat is neither filling nor emptying the mailbox
abbrev pub IsFresh : ℕ → Known → Type 0
IsFresh box v = (has box v.filling ≡ false) × (found box v.emptying ≡ None)

module _ {S : Type 0} where
  -- the seat looked at the mailbox, and did nothing else
  abbrev pub Noted : Step S → Me S Known → ℕ → Me S Known → Type 0
  Noted st m r m' = (place : ℕ) × (m'.0 ≡ notes st.word place r m.0) × (m'.1 ≡ m.1)

  abbrev pub Claimed : Step S → Me S Known → Me S Known → Type 0
  Claimed st m m' =
      (place : ℕ) × (x : S) × (m'.0 ≡ claims st.word place m.0) × (m'.1 ≡ (st.word, x) ∷ m.1)
      × IsFresh st.word m.0

  abbrev pub claimed : Step S → Me S Known → ℕ → Me S Known → Type 0
  claimed st m r m' = (r ≡ 0 → Claimed st m m') × (r ≢ 0 → Noted st m r m')

  -- what was taken, and the slot with it
  abbrev pub Took : (S → List ℕ) → Step S → Me S Known → Me S Known → Plain → Type 0
  Took bytes st m m' f =
      ((place : ℕ) × (m'.0 ≡ takes_in st.word place f m.0)) × (sender f ≡ st.word / m.0.nodes)
      × (receiver f ≡ m.0.me) × Arrives m.0 f
      × ((x : S) × (m'.1 ≡ (st.word, x) ∷ m.1) × Spells f (bytes x) × IsFresh st.word m.0)
      × HasLed m'.0

  abbrev pub took : (S → List ℕ) → Step S → Me S Known → ℕ → Me S Known → Type 0
  took bytes st m r m' = (r ≡ 1 → (f : Plain) × Took bytes st m m' f) × (r ≢ 1 → Noted st m r m')

  -- what was posted: the frame in the first slot
  abbrev pub Posted : (S → List ℕ) → Step S → Me S Known → Me S Known → Plain → Type 0
  Posted bytes st m m' f =
      ((place : ℕ) × (m'.0 ≡ posts st.word place f m.0)) × (m'.1 ≡ rest m.1)
      × (found st.word m.0.emptying ≡ None)
      × ((x : S) × (m.1 ≡ (st.word, x) ∷ rest m.1) × Spells f (bytes x))

  abbrev pub posted : (S → List ℕ) → Step S → Me S Known → ℕ → Me S Known → Type 0
  posted bytes st m r m' = (f : Plain) × Posted bytes st m m' f

  abbrev pub emptied : Step S → Me S Known → ℕ → Me S Known → Type 0
  emptied st m r m' =
      ((place : ℕ) × (m'.0 ≡ clears st.word place m.0)) × (m'.1 ≡ rest m.1)
      × (has st.word m.0.filling ≡ false)

  abbrev pub ticked : model.Step → Pair → Step S → Me S Known → ℕ → Me S Known → Type 0
  ticked e q st m r m' =
      (m'.0 ≡ ticks e q m.0) × (m'.1 ≡ m.1) × Enters e m.0 r m'.0 × HasLed m'.0

  abbrev pub raised : Step S → Me S Known → ℕ → Me S Known → Type 0
  raised st m r m' =
      (m'.0 ≡ raises st.first m.0) × (m'.1 ≡ m.1) × HasEnded m.0.opening st.first

  abbrev pub looked : Step S → Me S Known → ℕ → Me S Known → Type 0
  looked st m r m' =
      (m'.0 ≡ marks r m.0) × (m'.1 ≡ m.1) × (m.0.number ≤ r) × (r ≤ GREATEST_CYCLE)
      × HasEnded m.0.opening r

  abbrev pub learned : Step S → Me S Known → ℕ → Me S Known → Type 0
  learned st m r m' = Learns m.0.seen m.0 m'.0 × (m'.1 ≡ m.1)
