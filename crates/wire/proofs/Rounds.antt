-- Two rounds in which each learner learns from another one, and the moment that they show.
use Rattle.std.proofs.Common.{◌≡◌, ◌≢◌, ◌+◌, ◌<◌, ◌≤◌, ℕ, List, [], length, length-set, set, Some, slice_get, ⊎_elim, refl, sym, ap, ◌∙◌, subst, subst₂, arith}
use Rattle.std.proofs.lemmas.Bool.{cases_lt}
use Rattle.std.proofs.lemmas.Option.{slice_get_within}
use mathlib.Core.Logic.{dite}
use native.Mathlib.Decide.{ℕ_discrete}
use Rattle.model.specs.declared.step.Step.{Step}
use Rattle.model.specs.World.{World}
use Rattle.wire.specs.Lists.{Continues}
use Rattle.wire.specs.Moments.{AreAtOnce, EachAt, HasLearned, HaveLearned, LearnedFrom, Seating}
use Rattle.wire.specs.Plays.{LeadsTo, Learns}
use Rattle.wire.specs.Readers.{known, opened_with, IsSeatOf}
use Rattle.wire.specs.Rule.{AreEvents, IsOpening}
use Rattle.wire.specs.Views.{Known, learns}
use Rattle.wire.specs.declared.seats.Wire.{Wire}
use Rattle.wire.proofs.Between.{between}
use Rattle.wire.proofs.Lists.{continues-both, continues-itself}
use Rattle.wire.proofs.Places.{same-there, set-from, some_at}
use Rattle.wire.proofs.Same.{same-again, still-of}

-- ---- One learner after another

module _ {T : Type 0} (s : Seating T) where
  learned-itself : (c : T) → HasLearned s c c
  learned-itself c = record {
    same = (refl, refl, refl, refl, refl);
    stays = sym (s.with_own c);
    known = refl;
  }

  learned-again : (a b c : T) → HasLearned s a b → HasLearned s b c → HasLearned s a c
  learned-again a b c first next = record {
    same = same-again (s.seat a) (s.seat b) (s.seat c) first.same next.same;
    stays = next.stays ∙ ap (λ (v : T). s.at v (s.seat c)) first.stays
        ∙ s.with_last a (s.seat b) (s.seat c);
    known = next.known ∙ ap (learns (known (s.seat c)).seen) first.known;
  }

  pub all-itself : (xs : List T) → HaveLearned s xs xs
  all-itself xs = record {
    count = refl;
    each = λ k c d was is.
        subst (HasLearned s c) (same-there xs k c d was is) (learned-itself c);
  }

  all-again : (xs ys zs : List T) → HaveLearned s xs ys → HaveLearned s ys zs
      → HaveLearned s xs zs
  all-again xs ys zs first next = record {
    count = next.count ∙ first.count;
    each = λ k c d was is.
        (let inside = slice_get_within xs k c was in
        let between = some_at ys k (omega (arith, inside, first.count)) in
        learned-again c between.0 d (first.each k c between.0 was between.1)
        (next.each k between.0 d between.1 is));
  }

  one-learned : (xs : List T) (i : ℕ) (x y : T) → slice_get xs i ≡ Some x
      → HasLearned s x y → HaveLearned s xs (set xs i y)
  one-learned xs i x y there h = record {
    count = length-set xs i y;
    each = λ k c d was is.
        ⊎_elim
        (λ (t : (k ≡ i) × (y ≡ d)).
        subst₂ (HasLearned s)
        (same-there xs i x c there (subst (λ (j : ℕ). slice_get xs j ≡ Some c) t.0 was)) t.1 h)
        (λ (t : (k ≢ i) × (slice_get xs k ≡ Some d)).
        subst (HasLearned s c) (same-there xs k c d was t.1) (learned-itself c))
        (set-from xs i k y d is);
  }

  -- the learner b makes a note, and is b2 afterwards; then c learns, and is d afterwards
  pub record Turn (xs : List T) (at from : ℕ) (b b2 c d : T) : Type 0 where
    pub there : slice_get xs from ≡ Some b
    pub noted : HasLearned s b b2
    pub same : known (s.seat b2) ≡ known (s.seat b)
    pub learner : slice_get (set xs from b2) at ≡ Some c
    pub learned : HasLearned s c d
    pub leads : Learns (known (s.seat b)).seen (known (s.seat c)) (known (s.seat d))

  module _ {xs : List T} {at from : ℕ} {b b2 c d : T} (t : Turn xs at from b b2 c d) where
    noted-same : (k : ℕ) (x y : T) → slice_get xs k ≡ Some x
        → slice_get (set xs from b2) k ≡ Some y → known (s.seat y) ≡ known (s.seat x)
    noted-same k x y was is =
        ⊎_elim
        (λ (e : (k ≡ from) × (b2 ≡ y)).
        ap (λ (v : T). known (s.seat v)) (sym e.1) ∙ t.same
        ∙ ap (λ (v : T). known (s.seat v))
        (same-there xs from b x t.there
        (subst (λ (j : ℕ). slice_get xs j ≡ Some x) e.0 was)))
        (λ (e : (k ≢ from) × (slice_get xs k ≡ Some y)).
        ap (λ (v : T). known (s.seat v)) (same-there xs k y x e.1 was))
        (set-from xs from k b2 y is)

    after-turn : LearnedFrom s at from xs (set (set xs from b2) at d)
    after-turn = record {
      learned = all-again xs (set xs from b2) (set (set xs from b2) at d)
          (one-learned xs from b b2 t.there t.noted)
          (one-learned (set xs from b2) at c d t.learner t.learned);
      others = λ k x y was is apart.
          ⊎_elim
          (λ (e : (k ≡ at) × (d ≡ y)). absurd (apart e.0))
          (λ (e : (k ≢ at) × (slice_get (set xs from b2) k ≡ Some y)). noted-same k x y was e.1)
          (set-from (set xs from b2) at k d y is);
      leads = λ x y z first was is.
          (let source : b ≡ x = same-there xs from b x t.there first in
          let mine : known (s.seat c) ≡ known (s.seat y) = noted-same at y c was t.learner in
          let learner : d ≡ z =
          ⊎_elim
          (λ (e : (at ≡ at) × (d ≡ z)). e.1)
          (λ (e : (at ≢ at) × (slice_get (set xs from b2) at ≡ Some z)). absurd (e.0 refl))
          (set-from (set xs from b2) at at d z is) in
          subst (λ (v : T). Learns (known (s.seat x)).seen (known (s.seat y)) (known (s.seat v)))
          learner
          (subst (λ (v : Known). Learns (known (s.seat x)).seen v (known (s.seat d))) mine
          (subst (λ (v : T). Learns (known (s.seat v)).seen (known (s.seat c)) (known (s.seat d)))
          source t.leads)));
    }

  pub turned : {xs ys : List T} {at from : ℕ} {b b2 c d : T}
      → Turn xs at from b b2 c d → ys ≡ set (set xs from b2) at d → LearnedFrom s at from xs ys
  turned {xs} {at = at} {from = from} t is =
      subst (LearnedFrom s at from xs) (sym is) (after-turn t)

-- ---- What a seat knows that learned a list

pub record IsLed (v : Known) : Type 0 where
  pub opens : IsOpening v.opening
  pub leads : LeadsTo v v.seen

leads-same : (v w : Known) (log seen : List Step) → w ≡ learns seen v → LeadsTo v log
    → LeadsTo w log
leads-same v w log seen is h =
    subst (λ (u : Known). LeadsTo u log) (sym is)
    (record { events = h.events; pair = h.pair; own = h.own; net = h.net })

led-now : (seen : List Step) (v w : Known) → Learns seen v w → IsLed w
led-now seen v w h =
    subst IsLed (sym h.known)
    (record {
      opens = h.opens;
      leads = record {
        events = h.leads.events;
        pair = h.leads.pair;
        own = h.leads.own;
        net = h.leads.net;
      };
    })

seen-now : (seen : List Step) (v w : Known) → Learns seen v w → Continues seen w.seen
seen-now seen v w h =
    subst (λ (u : Known). Continues seen u.seen) (sym h.known) h.continues

-- ---- The two rounds

module _ {T : Type 0} (s : Seating T) (wire : Wire) where
  abbrev AreSeated : List T → Type 0
  AreSeated items = EachAt (λ k c. IsSeatOf wire (s.seat c)) items

  seated-still : (xs ys : List T) → AreSeated xs → HaveLearned s xs ys → AreSeated ys
  seated-still xs ys of h k d is =
      let inside = slice_get_within ys k d is in
      let was = some_at xs k (omega (arith, inside, h.count)) in
      still-of wire (s.seat was.0) (s.seat d) (of k was.0 was.1) (h.each k was.0 d was.1 is).same

  -- the seats of the learners, after one of them made a note
  pub noted-seats : (xs : List T) (from : ℕ) {b b2 : T} → AreSeated xs
      → slice_get xs from ≡ Some b → HasLearned s b b2 → AreSeated (set xs from b2)
  noted-seats xs from {b} {b2} of there noted =
      seated-still xs (set xs from b2) of (one-learned s xs from b b2 there noted)

module _ {T : Type 0} (s : Seating T) (wire : Wire) (start : List T) where
  -- Of the learners before the place `at`, each has learned a list, with which the one begins that
  -- the learner in the place `last` learned.
  pub record FirstRound (items : List T) (at last : ℕ) : Type 0 where
    pub learned : HaveLearned s start items
    pub seats : EachAt (λ k c. IsSeatOf wire (s.seat c)) items
    pub within : last ≤ at
    pub later : 0 < at → at ≡ last + 1
    pub led : (k : ℕ) (c d : T) → slice_get items k ≡ Some c
        → slice_get items last ≡ Some d → k < at
        → IsLed (known (s.seat c)) × Continues (known (s.seat c)).seen (known (s.seat d)).seen

  pub first-begins : EachAt (λ k c. IsSeatOf wire (s.seat c)) start → FirstRound start 0 0
  first-begins of = record {
    learned = all-itself s start;
    seats = of;
    within = omega arith;
    later = λ some. absurd (omega (arith, some));
    led = λ k c d was is below. absurd (omega (arith, below));
  }

  pub first-next : {xs ys : List T} {at last : ℕ} → FirstRound xs at last
      → at < length xs → LearnedFrom s at last xs ys → FirstRound ys (at + 1) at
  first-next {xs} {ys} {at} {last} h inside turn = record {
    learned = all-again s start xs ys h.learned turn.learned;
    seats = seated-still s wire xs ys h.seats turn.learned;
    within = omega arith;
    later = λ _. refl;
    led = λ k c d there last_there below.
        (let source = some_at xs last (omega (arith, inside, h.within)) in
        let learner = some_at xs at inside in
        let h2 = turn.leads source.0 learner.0 d source.1 learner.1 last_there in
        dite (ℕ_discrete k at)
        (λ is.
        let same : d ≡ c =
        same-there ys at d c last_there (subst (λ (j : ℕ). slice_get ys j ≡ Some c) is there) in
        subst (λ (x : T).
        IsLed (known (s.seat x)) × Continues (known (s.seat x)).seen (known (s.seat d)).seen) same
        (led-now _ _ _ h2, continues-itself (known (s.seat d)).seen))
        (λ apart.
        let was = some_at xs k
        (let long = turn.learned.count in
        let in_ys = slice_get_within ys k c there in omega (arith, long, in_ys)) in
        let same = turn.others k was.0 c was.1 there apart in
        let before = h.led k was.0 source.0 was.1 source.1
        (let lower : k < at = omega (arith, below, apart) in lower) in
        subst (λ (v : Known). IsLed v × Continues v.seen (known (s.seat d)).seen) (sym same) (
          before.0,
          continues-both _ _ _ before.1 (seen-now _ _ _ h2),
        )));
  }

  -- The middle list leads to the learners before the place `at`. Each of the others has learned a
  -- list with which the middle one begins, and which is that of the last one.
  pub record SecondRound (items : List T) (at last : ℕ) : Type 0 where
    pub learned : HaveLearned s start items
    pub seats : EachAt (λ k c. IsSeatOf wire (s.seat c)) items
    pub all : length items ≤ last + 1
    pub inside : 0 < length items → last < length items
    pub middle : List Step
    pub events : AreEvents (opened_with wire) middle
    pub done : (k : ℕ) (c : T) → slice_get items k ≡ Some c → k < at
        → LeadsTo (known (s.seat c)) middle
    pub rest : (k : ℕ) (c : T) → slice_get items k ≡ Some c → at ≤ k
        → IsLed (known (s.seat c)) × Continues (known (s.seat c)).seen middle
    pub end : (d : T) → slice_get items last ≡ Some d → at ≤ last
        → (known (s.seat d)).seen ≡ middle

  pub second-begins : {xs : List T} {at last : ℕ} → FirstRound xs at last
      → at ≡ length xs → SecondRound xs 0 last
  second-begins {xs} {at} {last} h all =
      ⊎_elim some none (cases_lt last (length xs))
    where
      nothing : length xs ≤ last → 0 < length xs → ⊥
      nothing empty some =
          let here = h.later (let begun : 0 < at = omega (arith, some, all) in begun) in
          omega (arith, empty, here, all)

      some : last < length xs → SecondRound xs 0 last
      some inside =
          let d = some_at xs last inside in
          let led = h.led last d.0 d.0 d.1 d.1 (omega (arith, inside, all)) in
          record {
            learned = h.learned;
            seats = h.seats;
            all = (let here = h.later (let begun : 0 < at = omega (arith, inside, all) in begun) in
                omega (arith, here, all));
            inside = λ _. inside;
            middle = (known (s.seat d.0)).seen;
            events = subst (λ (o : World). AreEvents o (known (s.seat d.0)).seen)
                (h.seats last d.0 d.1).2 led.0.leads.events;
            done = λ k c there below. absurd (omega (arith, below));
            rest = λ k c there _. h.led k c d.0 there d.1
                (let within = slice_get_within xs k c there in omega (arith, within, all));
            end = λ x there _.
                ap (λ (v : T). (known (s.seat v)).seen) (same-there xs last x d.0 there d.1);
          }

      none : length xs ≤ last → SecondRound xs 0 last
      none empty = record {
        learned = h.learned;
        seats = h.seats;
        all = omega (arith, empty);
        inside = λ some. absurd (nothing empty some);
        middle = [];
        events = tt;
        done = λ k c there below. absurd (omega (arith, below));
        rest = λ k c there _.
            absurd (nothing empty (let within = slice_get_within xs k c there in
            let some : 0 < length xs = omega (arith, within) in some));
        end = λ x there _.
            absurd (let within = slice_get_within xs last x there in omega (arith, within, empty));
      }

  pub second-next : {xs ys : List T} {at last : ℕ} → SecondRound xs at last
      → at < length xs → LearnedFrom s at last xs ys → SecondRound ys (at + 1) last
  second-next {xs} {ys} {at} {last} h inside turn = record {
    learned = all-again s start xs ys h.learned turn.learned;
    seats = seated-still s wire xs ys h.seats turn.learned;
    all = (let long = turn.learned.count in let most = h.all in omega (arith, long, most));
    inside = λ some. (let long = turn.learned.count in
        let last_inside = h.inside
        (let first : 0 < length xs = omega (arith, long, some) in first) in
        omega (arith, long, last_inside));
    middle = h.middle;
    events = h.events;
    done = λ k c there below. dite (ℕ_discrete k at)
        (λ is. now c (subst (λ (j : ℕ). slice_get ys j ≡ Some c) is there))
        (λ apart.
        let was = old k c there in
        subst (λ (v : Known). LeadsTo v h.middle)
        (sym (turn.others k was.0 c was.1 there apart))
        (h.done k was.0 was.1 (let lower : k < at = omega (arith, below, apart) in lower)));
    rest = λ k c there later.
        (let was = old k c there in
        subst (λ (v : Known). IsLed v × Continues v.seen h.middle)
        (sym (turn.others k was.0 c was.1 there
        (λ is. let never : at + 1 ≤ at = subst (λ (j : ℕ). at + 1 ≤ j) is later in
        omega (arith, never))))
        (h.rest k was.0 was.1 (let before : at ≤ k = omega (arith, later) in before)));
    end = λ d there later.
        (let was = old last d there in
        ap (λ (v : Known). v.seen)
        (turn.others last was.0 d was.1 there
        (λ is. let never : at + 1 ≤ at = subst (λ (j : ℕ). at + 1 ≤ j) is later in
        omega (arith, never)))
        ∙ h.end was.0 was.1 (let before : at ≤ last = omega (arith, later) in before));
  }
    where
      old : (k : ℕ) (c : T) → slice_get ys k ≡ Some c
          → (x : T) × (slice_get xs k ≡ Some x)
      old k c there =
          some_at xs k (let long = turn.learned.count in
          let within = slice_get_within ys k c there in omega (arith, long, within))

      now : (c : T) → slice_get ys at ≡ Some c → LeadsTo (known (s.seat c)) h.middle
      now c there =
          let before : at ≤ last = (let most = h.all in omega (arith, most, inside)) in
          let learner = some_at xs at inside in
          let last_inside : last < length xs =
          h.inside (let some : 0 < length xs = omega (arith, inside) in some) in
          let source = some_at xs last last_inside in
          let new = turn.leads source.0 learner.0 c source.1 learner.1 there in
          let mine = h.rest at learner.0 learner.1 (let self : at ≤ at = omega arith in self) in
          leads-same _ _ h.middle new.log new.known
          (between mine.0.opens mine.0.leads new.leads mine.1
          (subst (λ (l : List Step). Continues l new.log) (h.end source.0 source.1 before)
          new.continues))

  pub second-ends : {items : List T} {at last : ℕ} → SecondRound items at last
      → at ≡ length items → AreAtOnce s (opened_with wire) items
  second-ends {items} h all = record {
    log = h.middle;
    events = h.events;
    each = λ k c there.
        h.done k c there
        (let within = slice_get_within items k c there in omega (arith, within, all));
  }
