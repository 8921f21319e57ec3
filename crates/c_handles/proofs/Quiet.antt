-- The calls of a collection are quiet: none of them reopens a cell or resolves a reference.
use Rattle.std.proofs.Common.{◌≡◌, ◌≤◌, ◌+◌, ℕ, zero, suc, Bool, true, false, cond, List, [], ◌∷◌, ◌++◌, length, length-set, append-nil, append_assoc, Option, Some, None, Result, Ok, Err, inl, inr, ⊎_elim, refl, sym, ap, ◌∙◌, subst}
use Rattle.std.specs.Prelude.{slice_set}
use Rattle.std.specs.List.{AllByRecursion}
use Rattle.std.proofs.lemmas.Bool.{cases_eq, cases_lt}
use Rattle.std.proofs.lemmas.List.{get_or_past, get_or-set_other, get_or-set_same}
use Rattle.ids.specs.declared.refusal.Refusal.{Refusal}
use Rattle.msg.specs.declared.frame.Data.{Data}
use Rattle.msg.specs.declared.frame.Frame.{Frame}
use Rattle.msg.specs.declared.frame.Frame.TheVariants as frame
use Rattle.model.specs.declared.event.Answer.{Answer}
use Rattle.model.specs.declared.event.Event.{Event}
use Rattle.model.specs.declared.event.Event.TheVariants as event
use Rattle.model.specs.declared.step.Step.{Step}
use Rattle.model.specs.declared.step.Step.TheVariants as step
use Rattle.model.specs.Effects.{is_change}
use Rattle.model.specs.View.{is_other}
use Rattle.model.proofs.References.{all-append}
use Rattle.node.specs.Keeping.{WholeNode, met, own_step, waiting}
use Rattle.wire.specs.Entering.{known_after, pair_by}
use Rattle.wire.specs.Readers.{inbox, known, outbox, IsSame}
use Rattle.wire.specs.Sending.{IsSent}
use Rattle.wire.specs.Views.{Known, ticks}
use Rattle.wire.specs.declared.pumped.Inbound.{Inbound}
use Rattle.wire.specs.declared.pumped.Inbound.TheVariants as inbound
use Rattle.wire.specs.declared.seats.NodeSeat.{NodeSeat}
use Rattle.msg.specs.Frames.{Plain}
use Rattle.cell.specs.Events.{Handled}
use Rattle.cell.specs.Pumping.{PumpedBy, TookIn}
use Rattle.cell.specs.declared.trace.TraceLine.{TraceLine}
use Rattle.c_values.specs.Faults.{Through}
use Rattle.c_values.specs.Fields.{no_work}
use Rattle.c_values.specs.declared.fault.Fault.{Fault}
use Rattle.c_values.specs.declared.fault.Fault.TheVariants as fault
use Rattle.c_values.specs.declared.fields.CWork.{CWork}
use Rattle.c_handles.specs.Cells.{Acted, CellActs, Pumped, Received, Sent, SentTo, cell_listed}
use Rattle.c_handles.specs.Collecting.{After, AtCell, Begins, Collects, Each, EndsAfter, Ends, Move, Receives, ReceivesFrom, Round, Sends, SendsTo, Turn, Unless, Works, all, cell_at}
use Rattle.c_handles.specs.Garbage.{AreQuiet, IsQuiet, IsQuietIf, is_quiet}
use Rattle.c_handles.specs.Work.{At, CellDoes, CellWorks, Part, Plays, Repeats, WorksIf, at, collects}
use Rattle.c_handles.specs.declared.seated.SeatedCell.{SeatedCell}
use Rattle.c_handles.specs.declared.working.Task.{Task}

-- ---- What a seat knows

-- the seat's events since then are quiet
record KnowsQuietly (v w : Known) : Type 0 where
  pub since : List Step
  pub events : w.events ≡ v.events ++ since
  pub quiet : AllByRecursion (λ s. is_quiet s ≡ true) since

still : (v w : Known) → w.events ≡ v.events → KnowsQuietly v w
still v w same = record {
  since = [];
  events = same ∙ sym (append-nil v.events);
  quiet = tt;
}

-- a quiet event, or none
after-answer : (e : Event) (s : Step) (b : Bool) (v w : Known) → is_quiet s ≡ true
    → w ≡ cond b (ticks s (pair_by e v.pair) v) v → KnowsQuietly v w
after-answer e s true v w calm is = record {
  since = s ∷ [];
  events = ap (λ (u : Known). u.events) is;
  quiet = (calm, tt);
}
after-answer e s false v w calm is = still v w (ap (λ (u : Known). u.events) is)

after-event : (e : Event) (s : Step) (r : Result Answer Refusal) (v w : Known) → is_quiet s ≡ true
    → w ≡ known_after e s r v → KnowsQuietly v w
after-event e s (Ok a) v w calm is = after-answer e s (is_change a) v w calm is
after-event e s (Err f) v w calm is = still v w (ap (λ (u : Known). u.events) is)

-- a frame that was taken
handled : (f : Frame) (r : Result Answer Refusal) (old new : WholeNode) (v w : Known)
    → Handled f r old new v w → KnowsQuietly v w
handled (frame.Data d) r old new v w h = after-event (event.Data d) _ r v w refl h.acted.known
handled (frame.Ack a) r old new v w h = still v w (ap (λ (u : Known). u.events) h.known)

took-in : {box from : ℕ} {r : Result Answer Refusal} {old new : WholeNode} {v w : Known}
    {before after : List TraceLine} → TookIn box from r old new v w before after
    → KnowsQuietly v w
took-in {r = r} {old} {new} {w = w} h =
    let q = handled h.frame r old new _ w h.handled in
    record { since = q.since; events = q.events; quiet = q.quiet }

pumped : (o : Option Data) (from : ℕ) (r : Result Inbound Refusal) (old new : SeatedCell)
    → PumpedBy o (inbox old.cell.seat from) from r old.cell.node new.cell.node
    (known old.cell.seat) (known new.cell.seat) old.cell.trace new.cell.trace
    → KnowsQuietly (known old.cell.seat) (known new.cell.seat)
pumped (Some d) from (Ok inbound.Empty) old new h = absurd h
pumped (Some d) from (Ok (inbound.Event a)) old new h =
    after-event (event.Data d) (step.Deliver from (known old.cell.seat).me d.number) (Ok a) _ _ refl
    h.given.acted.known
pumped (Some d) from (Err e) old new h =
    after-event (event.Data d) (step.Deliver from (known old.cell.seat).me d.number) (Err e) _ _
    refl h.given.acted.known
pumped None from (Ok inbound.Empty) old new h =
    still _ _ (ap (λ (u : Known). u.events) h.found.3)
pumped None from (Ok (inbound.Event a)) old new h = took-in h
pumped None from (Err e) old new (inl h) = took-in h
pumped None from (Err e) old new (inr h) = still _ _ (ap (λ (u : Known). u.events) h.took.3.2)

-- a frame that was sent, or not
sent : (box : ℕ) (f : Plain) (is_sent : Bool) (v w : Known) → IsSent box f is_sent v w
    → KnowsQuietly v w
sent box f true v w h = still v w (ap (λ (u : Known). u.events) h.2)
sent box f false v w h = still v w (ap (λ (u : Known). u.events) h.3)

-- ---- Calls of a cell

of-cell : (old new : SeatedCell) → IsSame old.cell.seat new.cell.seat
    → KnowsQuietly (known old.cell.seat) (known new.cell.seat) → IsQuiet old new
of-cell old new same q = record {
  same = same;
  since = q.since;
  events = q.events;
  quiet = q.quiet;
}

same-seat : (old new : SeatedCell) → new.cell.seat ≡ old.cell.seat → IsQuiet old new
same-seat old new is =
    of-cell old new
    (subst (IsSame old.cell.seat) (sym is) (refl, refl, refl, refl, refl))
    (still _ _ (ap (λ (s : NodeSeat). (known s).events) is))

module _ {from : ℕ} {old new : SeatedCell} {r : Result Inbound Refusal}
    (p : Pumped from old new r) where
  pumped-in : (ready is_peer : Bool) → old.cell.is_open ≡ ready
      → is_other old.cell.node.core.local from ≡ is_peer → IsQuiet old new
  pumped-in false is_peer shut peer = same-seat old new (ap (λ c. c.seat) (p.shut shut))
  pumped-in true false ready none = same-seat old new (ap (λ c. c.seat) (p.no_node ready none).1)
  pumped-in true true ready other =
      of-cell old new p.goes_on.same
      (pumped (waiting old.cell.node.early from) from r old new (p.pumped ready other))

  pumped-quiet : IsQuiet old new
  pumped-quiet =
      pumped-in old.cell.is_open (is_other old.cell.node.core.local from) refl refl

acted-in : (e : Event) (old new : SeatedCell) (r : Result Answer Refusal) (ready : Bool)
    → old.cell.is_open ≡ ready
    → is_quiet (own_step old.cell.node.early (known old.cell.seat).me e) ≡ true
    → Acted e old new r → IsQuiet old new
acted-in e old new r false shut calm h = same-seat old new (ap (λ c. c.seat) (h.shut shut))
acted-in e old new r true ready calm h =
    of-cell old new h.goes_on.same
    (after-event (met old.cell.node.early e) _ r _ _ calm (h.given ready).acted.known)

sent-to : (to : ℕ) (old new : SeatedCell) (r : Result Bool Refusal) → SentTo to old new r
    → IsQuiet old new
sent-to to old new (Ok is_sent) h =
    of-cell old new h.same (sent (outbox old.cell.seat to) _ is_sent _ _ h.sent)
sent-to to old new (Err e) h = same-seat old new (ap (λ c. c.seat) h.refused)

pub received-quiet : (from : ℕ) (old new : SeatedCell) (r : Result Answer Fault)
    → Received from old new r → IsQuiet old new
received-quiet from old new (Ok a) h = pumped-quiet h
received-quiet from old new (Err fault.Nothing) h = pumped-quiet h
received-quiet from old new (Err (fault.Refused e)) h = pumped-quiet h
received-quiet from old new (Err fault.NoHandle) h = absurd h
received-quiet from old new (Err fault.InUse) h = absurd h
received-quiet from old new (Err fault.ShortBuffer) h = absurd h
received-quiet from old new (Err fault.BadArgument) h = absurd h
received-quiet from old new (Err fault.WrongDisks) h = absurd h
received-quiet from old new (Err fault.WrongMark) h = absurd h
received-quiet from old new (Err fault.Congested) h = absurd h
received-quiet from old new (Err (fault.Ages sender receiver)) h = absurd h
received-quiet from old new (Err fault.NoLog) h = absurd h

pub sent-quiet : (to : ℕ) (old new : SeatedCell) (r : Result Bool Fault) → Sent to old new r
    → IsQuiet old new
sent-quiet to old new (Ok is_sent) h = sent-to to old new (Ok is_sent) h
sent-quiet to old new (Err (fault.Refused e)) h = sent-to to old new (Err e) h
sent-quiet to old new (Err fault.Nothing) h = absurd h
sent-quiet to old new (Err fault.NoHandle) h = absurd h
sent-quiet to old new (Err fault.InUse) h = absurd h
sent-quiet to old new (Err fault.ShortBuffer) h = absurd h
sent-quiet to old new (Err fault.BadArgument) h = absurd h
sent-quiet to old new (Err fault.WrongDisks) h = absurd h
sent-quiet to old new (Err fault.WrongMark) h = absurd h
sent-quiet to old new (Err fault.Congested) h = absurd h
sent-quiet to old new (Err (fault.Ages sender receiver)) h = absurd h
sent-quiet to old new (Err fault.NoLog) h = absurd h

-- it listed what the event freed, and is otherwise the same
acted-quiet : (e : Event) (old new : SeatedCell) (r : Result Answer Refusal)
    → is_quiet (own_step old.cell.node.early (known old.cell.seat).me e) ≡ true
    → Acted e (cell_listed old new.cell.node.core e) new r → IsQuiet old new
acted-quiet e old new r calm h =
    let q = acted-in e (cell_listed old new.cell.node.core e) new r old.cell.is_open refl calm h in
    record { same = q.same; since = q.since; events = q.events; quiet = q.quiet }

pub acts-quiet : (e : Event) (old new : SeatedCell) (r : Result Answer Fault)
    → is_quiet (own_step old.cell.node.early (known old.cell.seat).me e) ≡ true
    → CellActs e old new r → IsQuiet old new
acts-quiet e old new (Ok a) calm h = acted-quiet e old new (Ok a) calm h
acts-quiet e old new (Err (fault.Refused f)) calm (inl h) =
    acted-in e old new (Err f) old.cell.is_open refl calm h
acts-quiet e old new (Err (fault.Refused f)) calm (inr h) =
    same-seat old new (ap (λ c. c.seat) h.same)
acts-quiet e old new (Err fault.Nothing) calm h = absurd h
acts-quiet e old new (Err fault.NoHandle) calm h = absurd h
acts-quiet e old new (Err fault.InUse) calm h = absurd h
acts-quiet e old new (Err fault.ShortBuffer) calm h = absurd h
acts-quiet e old new (Err fault.BadArgument) calm h = absurd h
acts-quiet e old new (Err fault.WrongDisks) calm h = absurd h
acts-quiet e old new (Err fault.WrongMark) calm h = absurd h
acts-quiet e old new (Err fault.Congested) calm h = absurd h
acts-quiet e old new (Err (fault.Ages sender receiver)) calm h = absurd h
acts-quiet e old new (Err fault.NoLog) calm h = absurd h

-- ---- Calls one after the other

quiet-refl : (c : SeatedCell) → IsQuiet c c
quiet-refl c = same-seat c c refl

quiet-trans : (a b c : SeatedCell) → IsQuiet a b → IsQuiet b c → IsQuiet a c
quiet-trans a b c p q = record {
  same = (
    q.same.0 ∙ p.same.0,
    q.same.1 ∙ p.same.1,
    q.same.2 ∙ p.same.2,
    q.same.3 ∙ p.same.3,
    q.same.4 ∙ p.same.4,
  );
  since = p.since ++ q.since;
  events = q.events ∙ ap (λ (l : List Step). l ++ q.since) p.events
      ∙ append_assoc (known a.cell.seat).events p.since q.since;
  quiet = all-append (λ s. is_quiet s ≡ true) p.since q.since p.quiet q.quiet;
}

if-refl : (o : Option SeatedCell) → IsQuietIf o o
if-refl (Some c) = quiet-refl c
if-refl None = tt

if-trans : (a b c : Option SeatedCell) → IsQuietIf a b → IsQuietIf b c → IsQuietIf a c
if-trans (Some a) (Some b) (Some c) p q = quiet-trans a b c p q
if-trans (Some a) (Some b) None p q = absurd q
if-trans (Some a) None c p q = absurd p
if-trans None (Some b) c p q = absurd p
if-trans None None c p q = q

-- what a handle holds
through : {A : Type 0} {Does : SeatedCell → SeatedCell → Result A Fault → Type 0}
    → ((old new : SeatedCell) (r : Result A Fault) → Does old new r → IsQuiet old new)
    → (old new : Option SeatedCell) (r : Result A Fault) → Through Does old new r
    → IsQuietIf old new
through quiet (Some old) (Some new) r h = quiet old new r h
through quiet (Some old) None r h = absurd h
through quiet None new r h = subst (IsQuietIf None) (sym h.0) tt

-- tries of one task, and parts one after the other
repeats : (t : Task)
    → ((old new : SeatedCell) (r : Result Answer Fault) → CellDoes t old new r → IsQuiet old new)
    → (most : ℕ) (old new : At SeatedCell) (s : Result (Unit {0}) Fault)
    → Repeats CellDoes t most old new s → IsQuiet old.it new.it
repeats t quiet zero old new s h =
    subst (λ (x : At SeatedCell). IsQuiet old.it x.it) (sym h.0) (quiet-refl old.it)
repeats t quiet (suc most) old new s (x, Ok a, does, rest) =
    quiet-trans old.it x new.it (quiet old.it x (Ok a) does) (repeats t quiet most _ new s rest)
repeats t quiet (suc most) old new s (x, Err f, does, ends) =
    subst (λ (y : At SeatedCell). IsQuiet old.it y.it) (sym ends.0)
    (quiet old.it x (Err f) does)

abbrev QuietPart : Part → Type 0
QuietPart p =
    (old new : SeatedCell) (r : Result Answer Fault) → CellDoes p.task old new r
    → IsQuiet old new

plays : (ps : List Part) → AllByRecursion QuietPart ps → (old new : At SeatedCell)
    (s : Result (Unit {0}) Fault) → Plays CellDoes ps old new s → IsQuiet old.it new.it
plays [] quiet old new s h =
    subst (λ (x : At SeatedCell). IsQuiet old.it x.it) (sym h.0) (quiet-refl old.it)
plays (p ∷ ps) quiet old new s (mid, Ok u, tries, rest) =
    quiet-trans old.it mid.it new.it (repeats p.task quiet.0 p.most old mid (Ok u) tries)
    (plays ps quiet.1 mid new s rest)
plays (p ∷ ps) quiet old new s (mid, Err f, tries, ends) =
    subst (λ (x : At SeatedCell). IsQuiet old.it x.it) (sym ends.0)
    (repeats p.task quiet.0 p.most old mid (Err f) tries)

quiet-parts : (scans slots : ℕ) → AllByRecursion QuietPart (collects scans slots)
quiet-parts scans slots = (
  λ old new r h. acts-quiet event.Scan old new r refl h,
  (
    λ old new r h. acts-quiet event.Pass old new r refl h,
    (λ old new r h. acts-quiet (event.Sweep slots) old new r refl h, tt),
  ),
)

works : (old new : Option SeatedCell) (before after : CWork) (s : Result (Unit {0}) Fault)
    → WorksIf (CellWorks all all) old new before after s → IsQuietIf old new
works (Some old) (Some new) before after s h =
    plays (collects all all) (quiet-parts all all) (at old no_work) (at new h.done) s h.plays
works (Some old) None before after s h = absurd h
works None new before after s h = subst (IsQuietIf None) (sym h.0) tt

-- ---- Calls of several cells

are-refl : (cells : List (Option SeatedCell)) → AreQuiet cells cells
are-refl cells = record { width = refl; each = λ k. if-refl (cell_at cells k) }

are-trans : (a b c : List (Option SeatedCell)) → AreQuiet a b → AreQuiet b c → AreQuiet a c
are-trans a b c p q = record {
  width = q.width ∙ p.width;
  each = λ k. if-trans (cell_at a k) (cell_at b k) (cell_at c k) (p.each k) (q.each k);
}

are-same : (old new : List (Option SeatedCell)) → new ≡ old → AreQuiet old new
are-same old new is = subst (AreQuiet old) (sym is) (are-refl old)

-- one of them
at-place : (cells : List (Option SeatedCell)) (k : ℕ) (cell : Option SeatedCell)
    → IsQuietIf (cell_at cells k) cell
    → IsQuietIf (cell_at cells k) (cell_at (slice_set cells k cell) k)
at-place cells k cell quiet =
    ⊎_elim
    (λ within. subst (IsQuietIf (cell_at cells k)) (sym (get_or-set_same cells k cell None within))
    quiet)
    (λ beyond. subst (λ o. IsQuietIf o (cell_at (slice_set cells k cell) k))
    (sym (get_or_past cells k None beyond))
    (subst (IsQuietIf None) (sym (get_or_past (slice_set cells k cell) k None
    (subst (λ n. n ≤ k) (sym (length-set cells k cell)) beyond))) tt))
    (cases_lt k (length cells))

at-cell : {A : Type 0} {Does : Option SeatedCell → Option SeatedCell → Result A Fault → Type 0}
    → ((old new : Option SeatedCell) (r : Result A Fault) → Does old new r → IsQuietIf old new)
    → (k : ℕ) (old new : List (Option SeatedCell)) (r : Result A Fault)
    → AtCell k Does old new r → AreQuiet old new
at-cell quiet k old new r h =
    subst (AreQuiet old) (sym h.is) (record {
      width = length-set old k h.cell;
      each = λ j. ⊎_elim
          (λ same. subst (λ i. IsQuietIf (cell_at old i) (cell_at (slice_set old k h.cell) i))
          (sym same) (at-place old k h.cell (quiet (cell_at old k) h.cell r h.does)))
          (λ other. subst (IsQuietIf (cell_at old j))
          (sym (get_or-set_other old k j h.cell None other)) (if-refl (cell_at old j)))
          (cases_eq j k);
    })

abbrev Quiets : Move → Type 0
Quiets Does =
    (old new : List (Option SeatedCell)) (s : Result (Unit {0}) Fault) → Does old new s
    → AreQuiet old new

after-quiet : (First Second : Move) → Quiets First → Quiets Second → Quiets (After First Second)
after-quiet First Second one two old new s (mid, Ok u, first, rest) =
    are-trans old mid new (one old mid (Ok u) first) (two mid new s rest)
after-quiet First Second one two old new s (mid, Err f, first, ends) =
    subst (AreQuiet old) (sym ends.0) (one old mid (Err f) first)

unless-quiet : (b : Bool) (Does : Move) → Quiets Does → Quiets (Unless b Does)
unless-quiet true Does quiet old new s h = are-same old new h.0
unless-quiet false Does quiet old new s h = quiet old new s h

each-quiet : (Does : ℕ → Move) → ((k : ℕ) → Quiets (Does k)) → (k n : ℕ)
    → Quiets (Each Does k n)
each-quiet Does quiet k zero old new s h = are-same old new h.0
each-quiet Does quiet k (suc n) old new s h =
    after-quiet (Does k) (Each Does (k + 1) n) (quiet k) (each-quiet Does quiet (k + 1) n) old new s
    h

receives-quiet : (to from : ℕ) → Quiets (ReceivesFrom to from)
receives-quiet to from =
    unless-quiet _ (Receives to from) (λ old new s h.
    at-cell (through (received-quiet from)) to old new h.result h.at)

works-quiet : (k : ℕ) → Quiets (Works k)
works-quiet k old new s h =
    at-cell (λ was is r does. works was is no_work h.work r does) k old new s h.at

sends-quiet : (from to : ℕ) → Quiets (SendsTo from to)
sends-quiet from to =
    unless-quiet _ (Sends from to) (λ old new s h.
    at-cell (through (sent-quiet to)) from old new h.result h.at)

turn-quiet : (n k : ℕ) → Quiets (Turn n k)
turn-quiet n k =
    after-quiet _ _ (each-quiet (ReceivesFrom k) (receives-quiet k) 0 n)
    (after-quiet _ _ (works-quiet k) (each-quiet (SendsTo k) (sends-quiet k) 0 n))

round-quiet : (n : ℕ) → Quiets (Round n)
round-quiet n = each-quiet (Turn n) (turn-quiet n) 0 n

begins-quiet : (cycle : ℕ) (old new : List (Option SeatedCell)) (s : Result Bool Fault)
    → Begins cycle old new s → AreQuiet old new
begins-quiet cycle old new s h =
    at-cell (through (λ was is r does. acts-quiet event.Begin was is r refl does)) 0 old new
    h.result h.at

ends-quiet : (cycle : ℕ) (old new : List (Option SeatedCell)) (s : Result Bool Fault)
    → Ends cycle old new s → AreQuiet old new
ends-quiet cycle old new (Ok true) h = are-same old new h.0
ends-quiet cycle old new (Ok false) (inl h) = are-same old new h.0
ends-quiet cycle old new (Ok false) (inr h) = begins-quiet cycle old new (Ok false) h
ends-quiet cycle old new (Err f) h = begins-quiet cycle old new (Err f) h

ends-after : (cycle : ℕ) (mid new : List (Option SeatedCell)) (s : Result Bool Fault)
    (r : Result (Unit {0}) Fault) → EndsAfter cycle mid new s r → AreQuiet mid new
ends-after cycle mid new s (Ok u) h = ends-quiet cycle mid new s h
ends-after cycle mid new s (Err f) h = are-same mid new h.0

pub collects-quiet : (cycle : ℕ) (old new : List (Option SeatedCell)) (s : Result Bool Fault)
    → Collects cycle old new s → AreQuiet old new
collects-quiet cycle old new s h =
    are-trans old h.mid new
    (each-quiet (λ i. Round (length old)) (λ i. round-quiet (length old)) 0 h.rounds.count old h.mid
    h.result h.rounds.each)
    (ends-after cycle h.mid new s h.result h.ends)

pub same-quiet : (old new : List (Option SeatedCell)) → new ≡ old → AreQuiet old new
same-quiet = are-same
