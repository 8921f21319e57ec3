-- A log is performed event by event.
use Rattle.std.proofs.Common.{◌≡◌, ◌≢◌, ℕ, length, true, false, List, [], ◌∷◌, ◌++◌, Option, Some, None, refl, ap, sym, ◌∙◌, subst}
use Rattle.std.specs.List.{AllByRecursion}
use Rattle.std.proofs.lemmas.Bool.{eqb-true, true≢false}
use Rattle.std.proofs.lemmas.List.{append-nil}
use Rattle.std.proofs.Common.{arith, length-append, ◌<◌}
use Rattle.std.proofs.Common.{append_assoc, Bool, cond}
use Rattle.codec.specs.Formats.{Fits}
use Rattle.codec.specs.Formats.{◌>>=◌}
use Rattle.codec.specs.Readers.{open_of, whole_of, with_rest}
use Rattle.codec.specs.Reading.{IsBytes}
use Rattle.model.specs.declared.event.Event.{Event}
use Rattle.model.specs.View.{NodeView, kept_view}
use Rattle.event_bytes.specs.Entries.{Entry}
use Rattle.event_bytes.specs.Entries.{entry}
use Rattle.event_bytes.specs.Events.{entry_of}
use Rattle.event_bytes.proofs.Sound.{entry_sound}
use Rattle.node_store.specs.Laws.{again-done, one-done, spelled-nothing}
use Rattle.node_store.specs.Noted.{IsLogged}
use Rattle.node_store.specs.Values.{IsAlone, LeadsWhole}
use Rattle.image.specs.Wholes.{saved_whole}
use Rattle.node.specs.Keeping.{Rings, WholeNode, kept_whole}
use Rattle.std.specs.Option.{option_map}
use Rattle.std.specs.Prelude.{IfSome}
use Rattle.node_store.specs.Logs.{AreDone, IsDone, Logged, spelled}

-- ---- one event after another

-- an event is read from these bytes, and these are left behind it
pub record ReadsEvent (rest : List ℕ) (e : Event) (behind : List ℕ) : Type 0 where
  pub are : IsBytes rest
  pub reads : entry.read rest ≡ Some (entry_of e, behind)

module _ {rest behind : List ℕ} {e : Event} (read : ReadsEvent rest e behind) where
  took : (rest ≡ entry.spell (entry_of e) ++ behind) × (IsBytes behind × Fits entry (entry_of e))
  took =
      let t = entry_sound.takes rest (entry_of e, behind) read.are read.reads in
      (t.parts, (t.rest, t.fits))

  bytes_behind : IsBytes behind
  bytes_behind = took.1.0

  -- what is left after the event leads on
  logged_on : {now mid last : NodeView} → IsDone now e mid → Logged behind mid last
      → Logged rest now last
  logged_on {mid = mid} done more = record {
    events = e ∷ more.events;
    fit = (took.1.1, more.fit);
    is = took.0 ∙ ap (λ l. entry.spell (entry_of e) ++ l) more.is;
    done = (mid, done, more.done);
  }

  -- what is left begins with that event
  logged_first : {now last : NodeView} → Logged rest now last
      → (mid : NodeView) × IsDone now e mid × Logged behind mid last
  logged_first {now} {last} log = by_events log.events log.fit log.is log.done
    where
      by_events : (es : List Event) → AllByRecursion (λ f. Fits entry (entry_of f)) es
          → rest ≡ spelled es → AreDone now es last
          → (mid : NodeView) × IsDone now e mid × Logged behind mid last
      by_events [] fit is done =
          absurd (spelled-nothing e behind (sym is ∙ took.0) took.1.1)
      by_events (f ∷ fs) fit is done =
          let both : ◌≡◌ {A = Option (Entry × List ℕ)}
          (Some (entry_of e, behind)) (Some (entry_of f, spelled fs)) =
          sym read.reads ∙ ap entry.read is ∙ entry_sound.again (entry_of f) (spelled fs) fit.0 in
          let parts : ◌≡◌ {A = Entry × List ℕ} (entry_of e, behind) (entry_of f, spelled fs) =
          cc both in
          let same = ap (λ (x : Entry × List ℕ). x.0) parts in (
            done.0,
            again-done now done.0 f e (sym same) done.1,
            record {
              events = fs;
              fit = fit.1;
              is = ap (λ (x : Entry × List ℕ). x.1) parts;
              done = done.2;
            },
          )

-- if no event is read from bytes, they are no log, unless they are empty
logged_unread : {rest : List ℕ} {now last : NodeView} → rest ≢ [] → entry.read rest ≡ None
    → Logged rest now last → ⊥
logged_unread {rest} {now} {last} some none log = by_events log.events log.fit log.is
  where
    by_events : (es : List Event) → AllByRecursion (λ f. Fits entry (entry_of f)) es
        → rest ≡ spelled es → ⊥
    by_events [] fit is = some is
    by_events (f ∷ fs) fit is =
        let both : ◌≡◌ {A = Option (Entry × List ℕ)} None (Some (entry_of f, spelled fs)) =
        sym none ∙ ap entry.read is ∙ entry_sound.again (entry_of f) (spelled fs) fit.0 in
        absurd cc

-- ---- a whole log

pub logged_none : (n : NodeView) → Logged [] n n
logged_none n = record { events = []; fit = tt; is = refl; done = refl }

-- one more event
pub logged_more : {bytes : List ℕ} {first now last : NodeView} (e : Event)
    → Fits entry (entry_of e) → IsDone now e last → Logged bytes first now
    → Logged (bytes ++ entry.spell (entry_of e)) first last
logged_more {bytes} {first} {now} {last} e fits is log = record {
  events = log.events ++ e ∷ [];
  fit = fit_more log.events log.fit;
  is = ap (λ l. l ++ entry.spell (entry_of e)) log.is ∙ sym (spelled_more log.events);
  done = done_more log.events first log.done;
}
  where
    fit_more : (es : List Event) → AllByRecursion (λ f. Fits entry (entry_of f)) es
        → AllByRecursion (λ f. Fits entry (entry_of f)) (es ++ e ∷ [])
    fit_more [] all = (fits, tt)
    fit_more (f ∷ fs) all = (all.0, fit_more fs all.1)

    spelled_more : (es : List Event)
        → spelled (es ++ e ∷ []) ≡ spelled es ++ entry.spell (entry_of e)
    spelled_more [] = append-nil (entry.spell (entry_of e))
    spelled_more (f ∷ fs) =
        ap (λ l. entry.spell (entry_of f) ++ l) (spelled_more fs)
        ∙ sym (append_assoc (entry.spell (entry_of f)) (spelled fs) (entry.spell (entry_of e)))

    done_more : (es : List Event) (n : NodeView) → AreDone n es now → AreDone n (es ++ e ∷ []) last
    done_more [] n same = (last, subst (λ k. IsDone k e last) (sym same) is, refl)
    done_more (f ∷ fs) n done = (done.0, done.1, done_more fs done.0 done.2)

-- ---- a log that is read

abbrev pub length_of : Option (List ℕ) → ℕ
length_of None = 0
length_of (Some rest) = length rest

-- A reader has bytes of a batch left. They lead from this node to the same ends as all of them from
-- the first node.
pub record IsLeft (batch : List ℕ) (first : NodeView) (o : Option (List ℕ)) (now : NodeView)
    : Type 0 where
  pub rest : List ℕ
  pub here : o ≡ Some rest
  pub are : IsBytes rest
  pub ahead : (last : NodeView) → Logged batch first last → Logged rest now last
  pub back : (last : NodeView) → Logged rest now last → Logged batch first last

-- all of a batch is left
pub left_all : (batch : List ℕ) (first : NodeView) → IsBytes batch
    → IsLeft batch first (Some batch) first
left_all batch first are = record {
  rest = batch;
  here = refl;
  are = are;
  ahead = λ last log. log;
  back = λ last log. log;
}

used_up : (rest : List ℕ) → whole_of (Some rest) ≡ true → rest ≡ []
used_up [] whole = refl
used_up (x ∷ rest) whole = absurd (omega (arith, eqb-true (length (x ∷ rest)) 0 whole))

module _ {batch : List ℕ} {first now : NodeView} {o : Option (List ℕ)} where
  -- the reader's bytes are used up
  pub left_end : IsLeft batch first o now → whole_of o ≡ true → Logged batch first now
  left_end left whole =
      let empty = used_up left.rest (subst (λ r. whole_of r ≡ true) left.here whole) in
      left.back now (subst (λ l. Logged l now now) (sym empty) (logged_none now))

  -- no event is read
  pub left_unread : IsLeft batch first o now → whole_of o ≡ false → (o >>= entry.read) ≡ None
      → (last : NodeView) → Logged batch first last → ⊥
  left_unread left whole none last log =
      logged_unread
      (λ empty. true≢false (subst (λ r. whole_of r ≡ false) (left.here ∙ ap Some empty) whole))
      (subst (λ r. (r >>= entry.read) ≡ None) left.here none) (left.ahead last log)

-- an event is read of what is left, and the reader goes on
pub record Took (batch : List ℕ) (first now : NodeView) (e : Event) (o behind : Option (List ℕ))
    : Type 0 where
  pub left : IsLeft batch first o now
  pub next : List ℕ
  pub there : behind ≡ Some next
  pub read : ReadsEvent left.rest e next

pub took_event : {batch : List ℕ} {first now : NodeView} {e : Event} {o : Option (List ℕ)}
    (behind : Option (List ℕ)) → IsLeft batch first o now
    → (o >>= entry.read) ≡ with_rest (entry_of e) behind → open_of behind ≡ true
    → Took batch first now e o behind
took_event None left reads going = absurd (true≢false (sym going))
took_event {e = e} (Some next) left reads going = record {
  left = left;
  next = next;
  there = refl;
  read = record {
    are = left.are;
    reads = subst (λ r. (r >>= entry.read) ≡ Some (entry_of e, next)) left.here reads;
  };
}

module _ {batch : List ℕ} {first now : NodeView} {e : Event} {o behind : Option (List ℕ)}
    (t : Took batch first now e o behind) where
  -- it isn't answered
  pub left_bad : ((after : NodeView) → IsDone now e after → ⊥) → (last : NodeView)
      → Logged batch first last → ⊥
  left_bad none last log =
      let found = logged_first t.read (t.left.ahead last log) in none found.0 found.1

  -- it is performed
  pub left_next : {after : NodeView} → IsDone now e after → IsLeft batch first behind after
  left_next {after} done = record {
    rest = t.next;
    here = t.there;
    are = bytes_behind t.read;
    ahead = λ last log.
        let found = logged_first t.read (t.left.ahead last log) in
        subst (λ n. Logged t.next n last) (one-done now found.0 after e e refl found.1 done)
        found.2;
    back = λ last log. t.left.back last (logged_on t.read done log);
  }

  -- there is less to read then
  pub left_less : length_of behind < length_of o
  left_less =
      let text = took t.read in
      let less : length t.next < length t.left.rest = longer (entry.spell (entry_of e)) text.0
      (λ none. spelled-nothing e [] (sym none ∙ sym (append-nil (entry.spell (entry_of e))))
      text.1.1) in
      omega (arith, less, ap length_of t.there, ap length_of t.left.here)
    where
      longer : (text : List ℕ) → t.left.rest ≡ text ++ t.next → (text ≡ [] → ⊥)
          → length t.next < length t.left.rest
      longer [] is some = absurd (some refl)
      longer (x ∷ text) is some =
          omega (arith, ap length is, length-append text t.next)

-- a reader that has failed leaves nothing
pub closed_none : {A : Type 0} (x : A) (behind : Option (List ℕ)) → open_of behind ≡ false
    → with_rest x behind ≡ None
closed_none x None closed = refl
closed_none x (Some rest) closed = absurd (true≢false closed)

-- a node that keeps no early message, once everything counts as saved
pub kept_alone : (n m : WholeNode) → IsAlone n → m ≡ kept_whole n → IsAlone m
kept_alone n m is kept =
    subst IsAlone (sym kept)
    (ap (λ (es : Rings). record { core = kept_view n.core; early = es })
    (ap (λ (w : WholeNode). w.early) is))

-- a log leads to the node as it is once saved
pub led_by : {B : Type 0} (bytes : B → List ℕ) (o : Option B) (old node : WholeNode)
    → IsLogged (option_map bytes o) old.core node.core
    → IfSome o (λ b. LeadsWhole (bytes b) old (saved_whole node))
led_by bytes None old node logged = tt
led_by bytes (Some b) old node logged = (
  record { before = node.core; logged = logged (bytes b) refl; kept = refl },
  refl,
)

-- a log that was just begun, if one is kept
pub begun_log : (logs : Bool) (log : Option (List ℕ)) (n : NodeView) → log ≡ Some []
    → IsLogged (cond logs log None) n n
begun_log true log n begun bytes is =
    let both : ◌≡◌ {A = Option (List ℕ)} (Some []) (Some bytes) = sym begun ∙ is in
    let same : [] ≡ bytes = cc both in
    subst (λ l. Logged l n n) same (logged_none n)
begun_log false log n begun bytes is = absurd cc
