-- A turn of the collector is a list of events, each of which a call could have given to the node.
use Rattle.std.proofs.Common.{◌≡◌, ◌≢◌, ℕ, zero, suc, ◌+◌, arith, inl, inr, ◌<◌, ◌==◌, true, false, Bool, cond, List, [], ◌∷◌, ◌++◌, Option, Some, Result, Ok, Err, ⊎_elim, refl, sym, ap, ◌∙◌, subst, append-nil}
use Rattle.std.proofs.Math.Path.{fun_ext}
use Rattle.std.proofs.lemmas.Bool.{cases_eq, cond-false, cond-true, cond_both, eq-eqb, lt-ltb, ne_eqb}
use Rattle.ids.specs.Limits.{Shaped}
use Rattle.ids.specs.declared.limits.TheConstants.{WINDOW}
use Rattle.ids.specs.declared.refusal.Refusal.TheVariants.{NothingToDo}
use Rattle.msg.specs.Frames.{Plain}
use Rattle.model.specs.declared.event.Answer.{Answer}
use Rattle.model.specs.declared.event.Event.{Event}
use Rattle.model.specs.declared.step.Step.TheVariants as step
use Rattle.model.specs.Cuts.{Among}
use Rattle.model.specs.Steps.{is_own}
use Rattle.laws.specs.Fairness.{is_turns}
use Rattle.laws.proofs.Lookups.{among-append_left, among-append_right}
use Rattle.laws.specs.Objects.{is_program}
use Rattle.c_values.specs.Fields.{no_work}
use Rattle.c_values.specs.declared.fault.Fault.{Fault}
use Rattle.c_values.specs.declared.fault.Fault.TheVariants as fault
use Rattle.c_values.specs.declared.fields.CWork.{CWork}
use Rattle.c_handles.specs.Laws.{AreActs, TurnsAreCalls}
use Rattle.c_handles.specs.Lone.{NodeActs, Given, is_congested}
use Rattle.c_handles.specs.Programs.{Act, Becomes, Call, Goes, On, Place, System}
use Rattle.c_handles.specs.Work.{At, GoesOn, NodeDoes, NodeWorks, Part, Plays, Repeats, at, collects, counted, ending, event_of, node_plan, node_turns, turn_of, turns_from}
use Rattle.c_handles.specs.Work.{Follows as Trying}
use Rattle.c_handles.specs.declared.working.Task.{Task}
use Rattle.c_handles.specs.declared.working.Task.TheVariants as task
use Rattle.c_handles.specs.declared.lone.LoneNode.{LoneNode}

-- ---- events, one after another

-- an event, and what the call returned
pub record Did : Type 0 where
  pub event : Event
  pub result : Result Answer Fault

-- an event of a turn
abbrev pub IsQuiet : Event → Type 0
IsQuiet e =
    (is_own e ≡ true) × (is_program e ≡ false) × ((i : ℕ) → is_turns (step.Act i e) ≡ true)

abbrev pub Trail : LoneNode → List Did → LoneNode → Type 0
Trail n [] m = m ≡ n
Trail n (d ∷ ds) m =
    (x : LoneNode) × IsQuiet d.event × NodeActs d.event n x d.result × Trail x ds m

-- some events lead from the one node to the other
abbrev pub Leading : LoneNode → LoneNode → Type 0
Leading n m = (ds : List Did) × Trail n ds m

trail-on : (ds es : List Did) (n x m : LoneNode) → Trail n ds x → Trail x es m
    → Trail n (ds ++ es) m
trail-on [] es n x m first then = subst (λ (y : LoneNode). Trail y es m) first then
trail-on (d ∷ ds) es n x m (y, quiet, acts, rest) then =
    (y, quiet, acts, trail-on ds es y x m rest then)

leading-on : {n x m : LoneNode} → Leading n x → Leading x m → Leading n m
leading-on {n} {x} {m} a b = (a.0 ++ b.0, trail-on a.0 b.0 n x m a.1 b.1)

-- no task sends a message of a program's
task-free : (n : LoneNode) (t : Task) → is_congested n (event_of t) ≡ false
task-free n (task.Receive from) =
    cond_both (n.limit == 0) false false (λ (b : Bool). b ≡ false) (λ _. refl) (λ _. refl)
task-free n task.Scan =
    cond_both (n.limit == 0) false false (λ (b : Bool). b ≡ false) (λ _. refl) (λ _. refl)
task-free n task.Pass =
    cond_both (n.limit == 0) false false (λ (b : Bool). b ≡ false) (λ _. refl) (λ _. refl)
task-free n (task.Sweep slots) =
    cond_both (n.limit == 0) false false (λ (b : Bool). b ≡ false) (λ _. refl) (λ _. refl)

abbrev IsDue : Task → Type 0
IsDue t = IsQuiet (event_of t)

-- each task that may be tried is one of a turn
abbrev AreDue : List Part → Type 0
AreDue [] = Unit {0}
AreDue (p ∷ ps) = (0 < p.most → IsDue p.task) × AreDue ps

due-append : (ps qs : List Part) → AreDue ps → AreDue qs → AreDue (ps ++ qs)
due-append [] qs a b = b
due-append (p ∷ ps) qs a b = (a.0, due-append ps qs a.1 b)

turns-due : (own from n : ℕ) → AreDue (turns_from own from n)
turns-due own from zero = tt
turns-due own from (suc n) =
    due-append (turn_of own from) (turns_from own (from + 1) n)
    (cond_both (from == own) [] (record { task = task.Receive from; most = WINDOW } ∷ []) AreDue
    (λ _. tt) (λ _. (λ _. (refl, refl, λ i. refl), tt)))
    (turns-due own (from + 1) n)

plan-due : (scans slots : ℕ) (n : LoneNode) → AreDue (node_plan scans slots n)
plan-due scans slots n =
    due-append (node_turns n) (collects scans slots)
    (turns-due n.node.core.local.own 0 n.node.core.local.shape.nodes) (
      λ _. (refl, refl, λ i. refl),
      (
        λ _. (refl, refl, λ i. refl),
        (
          λ some. (refl, refl, λ i. lt-ltb 0 slots (omega (arith, some))),
          tt,
        ),
      ),
    )

leading-same : {n m : LoneNode} → m ≡ n → Leading n m
leading-same same = ([], same)

leading-task : (t : Task) (n x : LoneNode) (r : Result Answer Fault) → IsDue t → NodeDoes t n x r
    → Leading n x
leading-task t n x r due does = (
  record { event = event_of t; result = r } ∷ [],
  (
    x,
    due,
    subst (λ (b : Bool). Given b n x (event_of t) r) (sym (task-free n t)) does,
    refl,
  ),
)

leading-follows : (t : Task) (x : LoneNode) (w : CWork) (new : At LoneNode)
    (s : Result (Unit {0}) Fault) (More : At LoneNode → Type 0) (r : Result Answer Fault)
    → ((now : At LoneNode) → More now → Leading now.it new.it) → Trying More t x w new s r
    → Leading x new.it
leading-follows t x w new s More (Ok a) more g = more (at x (counted t a w)) g
leading-follows t x w new s More (Err f) more g =
    leading-same (ap (λ (a : At LoneNode). a.it) g.0)

leading-repeats : (t : Task) (most : ℕ) (old new : At LoneNode) (s : Result (Unit {0}) Fault)
    → (0 < most → IsDue t) → Repeats NodeDoes t most old new s → Leading old.it new.it
leading-repeats t zero old new s due g = leading-same (ap (λ (a : At LoneNode). a.it) g.0)
leading-repeats t (suc most) old new s due (x, r, does, rest) =
    leading-on (leading-task t old.it x r (due (omega arith)) does)
    (leading-follows t x old.work new s (λ now. Repeats NodeDoes t most now new s) r
    (λ now. leading-repeats t most now new s (λ _. due (omega arith))) rest)

leading-goes : (mid new : At LoneNode) (s : Result (Unit {0}) Fault)
    (Rest : At LoneNode → Type 0) (r : Result (Unit {0}) Fault)
    → (Rest mid → Leading mid.it new.it) → GoesOn Rest mid new s r → Leading mid.it new.it
leading-goes mid new s Rest (Ok u) rest g = rest g
leading-goes mid new s Rest (Err f) rest g = leading-same (ap (λ (a : At LoneNode). a.it) g.0)

leading-plays : (parts : List Part) (old new : At LoneNode) (s : Result (Unit {0}) Fault)
    → AreDue parts → Plays NodeDoes parts old new s → Leading old.it new.it
leading-plays [] old new s due g = leading-same (ap (λ (a : At LoneNode). a.it) g.0)
leading-plays (p ∷ ps) old new s due (mid, r, played, rest) =
    leading-on (leading-repeats p.task p.most old mid r due.0 played)
    (leading-goes mid new s (λ now. Plays NodeDoes ps now new s) r
    (leading-plays ps mid new s due.1) rest)

pub turn-led : {n m : LoneNode} (scans slots : ℕ) (work : CWork) (s : Result (Unit {0}) Fault)
    → NodeWorks scans slots n m work s → Leading n m
turn-led {n} {m} scans slots work s g =
    leading-plays (node_plan scans slots n) (at n no_work) (at m g.done) s
    (plan-due scans slots n) g.plays

-- ---- what is tried

-- a try that was done, or for which there was nothing to do
pub data IsTried : Result Answer Fault → Type 0 where
  was_done : (a : Answer) → IsTried (Ok a)
  had_none : IsTried (Err (fault.Refused NothingToDo))

-- the event was tried
pub record Tries (e : Event) (ds : List Did) : Type 0 where
  pub did : Did
  pub there : Among did ds
  pub is : did.event ≡ e
  pub tried : IsTried did.result

ending-ok : (f : Fault) → ending f ≡ Ok tt → IsTried (Err f)
ending-ok (fault.Refused NothingToDo) is = had_none
ending-ok (fault.Refused f) is = absurd cc
ending-ok f is = absurd cc

-- parts that came to their end
repeats-try : (t : Task) (most : ℕ) (old new : At LoneNode) (due : 0 < suc most → IsDue t)
    (g : Repeats NodeDoes t (suc most) old new (Ok tt))
    → Tries (event_of t) (leading-repeats t (suc most) old new (Ok tt) due g).0
unfolding leading-repeats leading-on leading-task
repeats-try t most old new due (x, Ok a, does, rest) = record {
  did = record { event = event_of t; result = Ok a };
  there = inl refl;
  is = refl;
  tried = was_done a;
}
repeats-try t most old new due (x, Err f, does, rest) = record {
  did = record { event = event_of t; result = Err f };
  there = inl refl;
  is = refl;
  tried = ending-ok f (sym rest.1);
}

repeats-some : (t : Task) (most : ℕ) (old new : At LoneNode) (due : 0 < most → IsDue t)
    (g : Repeats NodeDoes t most old new (Ok tt)) → 0 < most
    → Tries (event_of t) (leading-repeats t most old new (Ok tt) due g).0
repeats-some t zero old new due g some = absurd (omega (arith, some))
repeats-some t (suc most) old new due g some = repeats-try t most old new due g

plays-try : (parts : List Part) (old new : At LoneNode) (due : AreDue parts)
    (g : Plays NodeDoes parts old new (Ok tt)) (p : Part) → Among p parts → 0 < p.most
    → Tries (event_of p.task) (leading-plays parts old new (Ok tt) due g).0
unfolding leading-plays leading-repeats leading-on leading-goes
plays-try [] old new due g p never some = absurd never
plays-try (q ∷ qs) old new due (mid, Ok u, played, rest) p (inr later) some =
    let t = plays-try qs mid new due.1 rest p later some in
    record {
      did = t.did;
      there = among-append_right t.did
          (leading-repeats q.task q.most old mid (Ok u) due.0 played).0
          (leading-plays qs mid new (Ok tt) due.1 rest).0 t.there;
      is = t.is;
      tried = t.tried;
    }
plays-try (q ∷ qs) old new due (mid, Err f, played, rest) p among some = absurd cc
plays-try (q ∷ qs) old new due (mid, Ok u, played, rest) p (inl same) some =
    let one = repeats-some q.task q.most old mid due.0 played
    (subst (λ (z : Part). 0 < z.most) same some) in
    subst (λ (z : Part). Tries (event_of z.task)
    (leading-plays (q ∷ qs) old new (Ok tt) due (mid, Ok u, played, rest)).0) (sym same)
    (record {
      did = one.did;
      there = among-append_left one.did
          (leading-repeats q.task q.most old mid (Ok u) due.0 played).0
          (leading-plays qs mid new (Ok tt) due.1 rest).0 one.there;
      is = one.is;
      tried = one.tried;
    })

pub work-tries : {n m : LoneNode} (scans slots : ℕ) (work : CWork)
    (g : NodeWorks scans slots n m work (Ok tt)) (p : Part) → Among p (collects scans slots)
    → 0 < p.most → Tries (event_of p.task) (turn-led {n = n} {m = m} scans slots work (Ok tt) g).0
unfolding turn-led leading-plays
work-tries {n} {m} scans slots work g p among some =
    plays-try (node_plan scans slots n) (at n no_work) (at m g.done) (plan-due scans slots n)
    g.plays p (among-append_right p (node_turns n) (collects scans slots) among) some

-- ---- as calls

-- the node in a handle is another one
with-node : System → ℕ → LoneNode → System
with-node s i x = record {
  places = λ k. cond (k == i) (record (s.places i) { handle = Some x }) (s.places k);
  frames = s.frames;
}

with-here : (s : System) (i : ℕ) (x : LoneNode)
    → (with-node s i x).places i ≡ record (s.places i) { handle = Some x }
unfolding with-node
with-here s i x = cond-true (i == i) _ _ (eq-eqb i i refl)

with-other : (s : System) (i : ℕ) (x : LoneNode) (k : ℕ) → k ≢ i
    → (with-node s i x).places k ≡ s.places k
unfolding with-node
with-other s i x k other = cond-false (k == i) _ _ (ne_eqb k i other)

with-frames : (s : System) (i : ℕ) (x : LoneNode) → (with-node s i x).frames ≡ s.frames
unfolding with-node
with-frames s i x = refl

abbrev Turned : System → System → ℕ → LoneNode → Type 0
Turned s t i m = Becomes s t i (record (s.places i) { handle = Some m }) []

becomes-with : (s : System) (i : ℕ) (x : LoneNode) → Turned s (with-node s i x) i x
becomes-with s i x = record {
  here = with-here s i x;
  others = with-other s i x;
  frames = with-frames s i x ∙ sym (append-nil s.frames);
}

-- the rest of what happened
becomes-from : (s t : System) (i : ℕ) (x m : LoneNode) → Turned s t i m
    → Turned (with-node s i x) t i m
becomes-from s t i x m h = record {
  here = h.here ∙ sym (ap (λ (p : Place). record p { handle = Some m }) (with-here s i x));
  others = λ k other. h.others k other ∙ sym (with-other s i x k other);
  frames = h.frames ∙ ap (λ (fs : List Plain). fs ++ []) (sym (with-frames s i x));
}

-- the same node in its handle is the same system
same-place : (p : Place) (n : LoneNode) → p.handle ≡ Some n → record p { handle = Some n } ≡ p
same-place p n held =
    ap (λ (h : Option LoneNode). record { handle = h; stored = p.stored; taken = p.taken })
    (sym held)

same-system : (s t : System) (i : ℕ) (n : LoneNode) → (s.places i).handle ≡ Some n
    → Turned s t i n → t ≡ s
same-system s t i n held h =
    let places : t.places ≡ s.places =
    fun_ext (λ k.
    ⊎_elim {C = t.places k ≡ s.places k}
    (λ (same : k ≡ i).
    subst (λ (j : ℕ). t.places j ≡ s.places j) (sym same)
    (h.here ∙ same-place (s.places i) n held))
    (λ (other : k ≢ i). h.others k other)
    (cases_eq k i)) in
    let frames : t.frames ≡ s.frames = h.frames ∙ append-nil s.frames in
    λ k. record { places = places k; frames = frames k }

-- what is owed for an event: nothing
trail-goes : (shape : Shaped) (i : ℕ) → i < shape.nodes → (ds : List Did) (s t : System)
    (n m : LoneNode) → (s.places i).handle ≡ Some n → Trail n ds m → Turned s t i m
    → (calls : List Call) × AreActs i calls × Goes shape s calls t
trail-goes shape i inside [] s t n m held same h = (
  [],
  tt,
  same-system s t i n held (subst (Turned s t i) same h),
)
trail-goes shape i inside (d ∷ ds) s t n m held (x, quiet, acts, rest) h =
    let next : System = with-node s i x in
    let here : (next.places i).handle ≡ Some x =
    ap (λ (p : Place). p.handle) (with-here s i x) in
    let end = trail-goes shape i inside ds next t x m here rest (becomes-from s t i x m h) in (
      On i (Act d.event d.result) ∷ end.0,
      (refl, end.1),
      (
        next,
        inside,
        record {
          old = n;
          new = x;
          held = held;
          meets = (quiet.0, acts);
          becomes = becomes-with s i x;
        },
        record {
          of_space = tt;
          one_holder = tt;
          made_once = tt;
          goes_on = tt;
          in_order = tt;
          stored_first = tt;
        },
        end.2,
      ),
    )

pub turns-are-calls : TurnsAreCalls
turns-are-calls shape s t i scans slots work r inside does =
    let led = turn-led {n = does.old} {m = does.new} scans slots work r does.meets in
    trail-goes shape i inside led.0 s t does.old does.new does.held led.1 does.becomes
