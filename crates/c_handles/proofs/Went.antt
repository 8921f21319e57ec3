-- What a node's list handed out, with what is still to come, are the objects that went, each once.
use Rattle.std.proofs.Common.{◌≡◌, ◌≢◌, ℕ, zero, suc, ◌<◌, ◌≤◌, ◌⊎◌, ◌++◌, ◌==◌, ◌&&◌, Bool, true, false, cond, List, [], ◌∷◌, length, min, take, drop, Option, Some, None, Result, Ok, Err, inl, inr, refl, sym, ap, ◌∙◌, subst, ⊎_elim, arith, le_refl, append-nil, append_assoc}
use Rattle.std.specs.List.{AllByRecursion}
use Rattle.std.specs.Global.{Vec}
use Rattle.std.proofs.lemmas.Bool.{cases_Bool, cases_eq, cond-false, cond-true, cond_both, eq-eqb, ne_eqb, false≢true}
use Rattle.std.proofs.lemmas.List.{length-drop}
use Rattle.std.proofs.Math.Nat.{min-le_left}
use Rattle.std.specs.Prelude.{max, slice_index_or, slice_set}
use Rattle.ids.specs.Limits.{Shaped, IsShape}
use Rattle.ids.specs.declared.names.Ref.{Ref}
use Rattle.ids.specs.declared.refusal.Refusal.TheVariants.{Memory}
use Rattle.msg.specs.declared.frame.Data.{Data}
use Rattle.msg.specs.declared.frame.Frame.{Frame}
use Rattle.msg.specs.declared.frame.Frame.TheVariants as frame
use Rattle.model.specs.Cuts.{Among}
use Rattle.model.specs.State.{Heap, NodeState, Slot, got_from, node_at, slot_at}
use Rattle.model.specs.Steps.{act, frees}
use Rattle.model.specs.View.{NodeView, Shows, is_other, kept_to, link_to}
use Rattle.model.specs.World.{World}
use Rattle.model.specs.declared.event.Answer.{Answer}
use Rattle.model.specs.declared.event.Event.{Event}
use Rattle.model.specs.declared.event.Event.TheVariants as event
use Rattle.model.proofs.Slots.{occupied-within}
use Rattle.node.specs.Keeping.{Rings, WholeNode, kept_whole_with, met, next_event, waiting}
use Rattle.node_store.specs.Acting.{Acts}
use Rattle.laws.proofs.Freeing.{Has, Lost, act-keeps, has-kept, lost-freed, lost-kept, lost-never, past-lost, slot-has}
use Rattle.laws.proofs.Invariant.{Tidy}
use Rattle.laws.proofs.Lasting.{At, Keeps}
use Rattle.laws.proofs.Live.{all-inv}
use Rattle.laws.proofs.Past.{occupied-past, past-freed, past-kept}
use Rattle.c_values.specs.declared.fault.Fault.{Fault}
use Rattle.c_values.specs.declared.fault.Fault.TheVariants as fault
use Rattle.c_values.specs.declared.fields.CFreed.{CFreed}
use Rattle.c_handles.specs.Batches.{BatchOr, batch_of}
use Rattle.c_handles.specs.Gone.{GoneView, covering, gone, keeping, listing, settling, tracking, untracked}
use Rattle.c_handles.specs.Images.{Imaged, after_kept, keeps, keeps_below}
use Rattle.c_handles.specs.Logs.{logging, no_counts}
use Rattle.c_handles.specs.Lists.{AreApart, HadObject, HasObject, KeepsList, ListsAreExact, handed_by, handed_in, references}
use Rattle.c_handles.specs.Lone.{Gave, Given, HandedOut, Handled, TookIn, Unlisted, is_congested, listed}
use Rattle.c_handles.specs.Programs.{Act, AckFor, Call, Deed, Does, DoesOn, End, FrameAt, Frames, Freed, Goes, Holds, Keep, Log, Meets, On, Open, Place, Release, Store, System, Take, TakeBatch, TakeImage, Track, Work, place_after}
use Rattle.c_handles.specs.declared.lone.images.Counts.{Counts}
use Rattle.c_handles.specs.declared.lone.LoneNode.{LoneNode}
use Rattle.c_handles.proofs.Calls.{IsSound}
use Rattle.c_handles.proofs.Deeds.{AllShown, came, goes-came}
use Rattle.c_handles.proofs.Entered.{among-both, among-first, among-gone, among-second, apart-both, gone-among, gone-apart, has-or-not}

-- ---- one call on a node

abbrev heap_of : LoneNode → Heap
heap_of n = n.node.core.local.heap

abbrev HasRef : LoneNode → Ref → Type 0
HasRef n r = Has (slot_at (heap_of n) r.slot) r.generation

abbrev LostRef : LoneNode → Ref → Type 0
LostRef n r = At Lost (heap_of n) r.slot r.generation

abbrev IsBounded : GoneView → Type 0
IsBounded v = (v.ready ≤ v.covered) × (v.covered ≤ length v.list)

-- What a call does to a node that lists what is gone, with what it hands out. The list gets what
-- the node had before and hasn't after it. What is lost stays so.
record Turn (i : ℕ) (n m : LoneNode) (given : List CFreed) : Type 0 where
  bound : IsBounded n.gone → IsBounded m.gone
  tracks : m.gone.tracks ≡ n.gone.tracks
  lost : Keeps Lost (heap_of n) (heap_of m)
  loses : (r : Ref) → HasRef n r → (HasRef m r → ⊥) → LostRef m r
  more : List CFreed
  lists : IsBounded n.gone → given ++ m.gone.list ≡ n.gone.list ++ more
  went : (r : Ref) → Among r (references more) → HasRef n r × (HasRef m r → ⊥)
  whole : (r : Ref) → r.node ≡ i → HasRef n r → (HasRef m r → ⊥) → Among r (references more)
  apart : AreApart (references more)

-- the heap stays, and what is handed out is in front of what is left of the list
turn-still : {i : ℕ} {n m : LoneNode} {given : List CFreed} → heap_of m ≡ heap_of n
    → m.gone.tracks ≡ n.gone.tracks → (IsBounded n.gone → IsBounded m.gone)
    → (IsBounded n.gone → given ++ m.gone.list ≡ n.gone.list) → Turn i n m given
turn-still {n = n} {m = m} {given = given} same tracks bound lists =
    let still : (r : Ref) → HasRef n r → HasRef m r =
    λ r. subst (λ (h : Heap). Has (slot_at h r.slot) r.generation) (sym same) in
    record {
      bound = bound;
      tracks = tracks;
      lost = λ k e x. subst (λ (h : Heap). At Lost h k e) (sym same) x;
      loses = λ r has hasnt. absurd (hasnt (still r has));
      more = [];
      lists = λ b. lists b ∙ sym (append-nil n.gone.list);
      went = λ r never. absurd never;
      whole = λ r own has hasnt. absurd (hasnt (still r has));
      apart = tt;
    }

-- nothing of this changes
turn-same : {i : ℕ} {n m : LoneNode} → m ≡ n → Turn i n m []
turn-same {i} {n} same =
    subst (λ (x : LoneNode). Turn i n x []) (sym same)
    (turn-still refl refl (λ b. b) (λ b. refl))

-- ---- an event

-- the event, as it is to the node, and the states that the node shows before and after it
record IsActed (i : ℕ) (n m : LoneNode) (e : Event) : Type 0 where
  before : NodeState
  after : NodeState
  answer : Answer
  acted : act before e ≡ Ok (after, answer)
  tidy : Tidy before.local
  shows : Shows n.node.core before
  shows_then : Shows m.node.core after
  own : before.local.own ≡ i

module _ {i : ℕ} {n m : LoneNode} {e : Event} (is : IsActed i n m e) where
  keeps-by : {Q : Slot → ℕ → Type 0} → Keeps Q is.before.local.heap is.after.local.heap
      → Keeps Q (heap_of n) (heap_of m)
  keeps-by {Q} kept k g x =
      subst (λ (h : Heap). At Q h k g) (sym (ap (λ p. p.heap) is.shows_then.local))
      (kept k g (subst (λ (h : Heap). At Q h k g) (ap (λ p. p.heap) is.shows.local) x))

  lost-by : Keeps Lost (heap_of n) (heap_of m)
  lost-by =
      keeps-by (act-keeps lost-kept is.before e is.after is.answer is.acted (λ _. lost-freed)
      is.tidy)

  has-at : (h : Heap) (r : Ref) → Has (slot_at h r.slot) r.generation
      → At Has h r.slot r.generation
  has-at h r has =
      let found = slot-has (slot_at h r.slot) r.generation has in
      record {
        used = occupied-within h.slots r.slot r.generation found.0 found.1;
        holds = has;
      }

  loses-by : (r : Ref) → HasRef n r → (HasRef m r → ⊥) → LostRef m r
  loses-by r has hasnt =
      let found = slot-has (slot_at (heap_of n) r.slot) r.generation has in
      let first = occupied-past (heap_of n) r.slot r.generation found.0 found.1 in
      let past = keeps-by (act-keeps past-kept is.before e is.after is.answer is.acted
      (λ _. past-freed) is.tidy) r.slot r.generation
      (record { used = first.used; holds = first.past }) in
      record {
        used = past.used;
        holds = past-lost (slot_at (heap_of m) r.slot) r.generation past.holds hasnt;
      }

  -- it frees nothing, and lists nothing
  turn-kept : frees e ≡ false → m.gone ≡ n.gone → Turn i n m []
  turn-kept none same =
      let still : (r : Ref) → HasRef n r → HasRef m r =
      λ r has. (keeps-by (act-keeps has-kept is.before e is.after is.answer is.acted
      (λ some. absurd (false≢true (sym none ∙ some))) is.tidy) r.slot r.generation
      (has-at (heap_of n) r has)).holds in
      record {
        bound = subst IsBounded (sym same);
        tracks = ap (λ (v : GoneView). v.tracks) same;
        lost = lost-by;
        loses = loses-by;
        more = [];
        lists = λ b. ap (λ (v : GoneView). v.list) same ∙ sym (append-nil n.gone.list);
        went = λ r never. absurd never;
        whole = λ r own has hasnt. absurd (hasnt (still r has));
        apart = tt;
      }

  -- what it frees is listed
  turn-freed : m.gone ≡ listing n.node.core.local.own (heap_of n) (heap_of m) n.gone
      → Turn i n m []
  turn-freed same =
      let own : n.node.core.local.own ≡ i = ap (λ p. p.own) is.shows.local ∙ is.own in
      let went : List CFreed = gone n.node.core.local.own (heap_of n) (heap_of m) in
      record {
        bound = λ b.
            subst IsBounded (sym same) (
              b.0,
              (let longer = length-more n.gone.list went in let within = b.1 in
                  omega (arith, longer, within)),
            );
        tracks = ap (λ (v : GoneView). v.tracks) same;
        lost = lost-by;
        loses = loses-by;
        more = went;
        lists = λ b. ap (λ (v : GoneView). v.list) same;
        went = λ r among.
            (let g = among-gone n.node.core.local.own (heap_of n) (heap_of m) r among in
            (g.had, g.hasnt));
        whole = λ r here has hasnt.
            gone-among n.node.core.local.own (heap_of n) (heap_of m) r
            (record { node = here ∙ sym own; had = has; hasnt = hasnt });
        apart = gone-apart n.node.core.local.own (heap_of n) (heap_of m);
      }
    where
      length-more : (xs ys : List CFreed) → length xs ≤ length (xs ++ ys)
      length-more [] ys = omega arith
      length-more (x ∷ xs) ys = (let more = length-more xs ys in omega (arith, more))

-- ---- what a call does

-- the node in a handle, with a state that it shows
record IsOn (i : ℕ) (n : LoneNode) : Type 0 where
  state : NodeState
  tidy : Tidy state.local
  shows : Shows n.node.core state
  own : state.local.own ≡ i

turn-quiet : {i : ℕ} {n m : LoneNode} → m.node.core ≡ n.node.core → m.gone ≡ n.gone
    → Turn i n m []
turn-quiet {n = n} same still =
    turn-still (ap (λ v. v.local.heap) same) (ap (λ (v : GoneView). v.tracks) still)
    (subst IsBounded (sym still)) (λ b. ap (λ (v : GoneView). v.list) still)

-- the list isn't changed, but how much of it is ready may be
turn-view : {i : ℕ} {n m : LoneNode} (v : GoneView) → heap_of m ≡ heap_of n → m.gone ≡ v
    → v.tracks ≡ n.gone.tracks → v.list ≡ n.gone.list → (IsBounded n.gone → IsBounded v)
    → Turn i n m []
turn-view v heap same tracks list bound =
    turn-still heap (ap (λ (x : GoneView). x.tracks) same ∙ tracks)
    (λ b. subst IsBounded (sym same) (bound b)) (λ b. ap (λ (x : GoneView). x.list) same ∙ list)

frees-next : (from : ℕ) (o : Option Data) → frees (next_event from o) ≡ false
frees-next from None = refl
frees-next from (Some d) = refl

frees-met : (es : Rings) (e : Event) → frees (met es e) ≡ frees e
frees-met es (event.Next from) = frees-next from (waiting es from)
frees-met es e = refl

acted : {i : ℕ} {n m : LoneNode} (e : Event) (a : Answer) → Acts n.node m.node e (Ok a)
    → IsOn i n → IsActed i n m (met n.node.early e)
acted e a acts on =
    let found = acts.states on.state on.shows in
    record {
      before = on.state;
      after = found.0;
      answer = a;
      acted = found.1;
      tidy = on.tidy;
      shows = on.shows;
      shows_then = found.2;
      own = on.own;
    }

gave-turn : {i : ℕ} {n m : LoneNode} (e : Event) (a : Answer)
    → Gave (listed n m.node.core e) m e (Ok a) → n.gone.tracks ≡ true → IsOn i n
    → Turn i n m []
gave-turn {i} {n} {m} e a gave tracks on =
    let is = acted e a gave.acts on in
    let view : GoneView = listing n.node.core.local.own (heap_of n) (heap_of m) n.gone in
    let same : m.gone ≡ cond (frees e && n.gone.tracks) view n.gone =
    ap (λ (x : LoneNode). x.gone) gave.stays in
    ⊎_elim {C = Turn i n m []}
    (λ some.
    turn-freed is
    (same ∙ ap (λ (b : Bool). cond (b && n.gone.tracks) view n.gone) some
    ∙ ap (λ (b : Bool). cond b view n.gone) tracks))
    (λ none.
    turn-kept is (frees-met n.node.early e ∙ none)
    (same ∙ ap (λ (b : Bool). cond (b && n.gone.tracks) view n.gone) none))
    (cases_Bool (frees e))

given-turn : {i : ℕ} {n m : LoneNode} (congested : Bool) (e : Event) (r : Result Answer Fault)
    → Given congested n m e r → n.gone.tracks ≡ true → IsOn i n → Turn i n m []
given-turn true e r given tracks on = turn-same given.0
given-turn false e (Ok a) given tracks on = gave-turn e a given tracks on
given-turn {i} {n} {m} false e (Err (fault.Refused f)) given tracks on =
    ⊎_elim {C = Turn i n m []}
    (λ (gave : Gave n m e (Err f)).
    turn-quiet gave.acts.unchanged (ap (λ (x : LoneNode). x.gone) gave.stays))
    (λ (un : Unlisted n m e f). turn-same un.same)
    given
given-turn false e (Err f) given tracks on = absurd given

acknowledged-turn : {i : ℕ} {n m : LoneNode} (f : Frame) (r : Result Answer Fault)
    → Handled f n m r → n.gone.tracks ≡ true → IsOn i n → Turn i n m []
acknowledged-turn (frame.Data d) r handled tracks on =
    given-turn false (event.Data d) r handled tracks on
acknowledged-turn (frame.Ack a) (Ok x) handled tracks on =
    turn-kept (acted (event.Ack a) x handled.acts on) refl
    (ap (λ (y : LoneNode). y.gone) handled.stays)
acknowledged-turn (frame.Ack a) (Err (fault.Refused f)) handled tracks on =
    turn-quiet handled.acts.unchanged (ap (λ (y : LoneNode). y.gone) handled.stays)
acknowledged-turn (frame.Ack a) (Err f) handled tracks on = absurd handled

took-turn : {i : ℕ} {n m : LoneNode} (bytes : List ℕ) (r : Result Answer Fault)
    → TookIn bytes n m r → n.gone.tracks ≡ true → IsOn i n → Turn i n m []
took-turn {i} {n} {m} bytes r took tracks on =
    ⊎_elim {C = Turn i n m []} (λ t. acknowledged-turn t.frame r t.handled tracks on)
    (λ rest. ⊎_elim {C = Turn i n m []} (λ none. turn-same none.same) (λ room. turn-same room.same)
    rest)
    took

-- what an image or a batch covers is the whole list
covering-turn : {i : ℕ} {n m : LoneNode} → heap_of m ≡ heap_of n → m.gone ≡ covering n.gone
    → Turn i n m []
covering-turn {n = n} heap same =
    turn-view (covering n.gone) heap same refl refl
    (λ b. (let first = b.0 in let second = b.1 in omega (arith, first, second), le_refl _))

image-turn : {i : ℕ} {n m : LoneNode} (r : Result ℕ Fault) (old new : List ℕ) (before needed : ℕ)
    → Imaged n m r old new before needed → Turn i n m []
image-turn {n = n} (Ok mark) old new before needed is =
    covering-turn (ap (λ (x : LoneNode). heap_of x) is.0.stays)
    (ap (λ (x : LoneNode). x.gone) is.0.stays)
image-turn (Err fault.ShortBuffer) old new before needed is = turn-same is.0
image-turn (Err (fault.Refused e)) old new before needed is = turn-same is.0
image-turn (Err e) old new before needed is = absurd is

batch-turn : {i : ℕ} {n m : LoneNode} (o : Option (List ℕ)) (r : Result ℕ Fault)
    (old new : List ℕ) (before needed : ℕ) → BatchOr o n m r old new before needed
    → Turn i n m []
batch-turn None r old new before needed is = turn-same is.1
batch-turn (Some bytes) (Ok mark) old new before needed is =
    covering-turn (ap (λ (x : LoneNode). heap_of x) is.0.stays)
    (ap (λ (x : LoneNode). x.gone) is.0.stays)
batch-turn (Some bytes) (Err fault.ShortBuffer) old new before needed is = turn-same is.0
batch-turn (Some bytes) (Err (fault.Refused Memory)) old new before needed is = turn-same is.0
batch-turn (Some bytes) (Err e) old new before needed is = absurd is

keeps-local : (counts : List Counts) (k : ℕ) (n : WholeNode)
    → (keeps_below counts k n).core.local ≡ n.core.local
keeps-local counts zero n = refl
keeps-local counts (suc peer) n =
    kept-local peer (slice_index_or counts peer no_counts).sent
    (slice_index_or counts peer no_counts).received (keeps_below counts peer n)
    ∙ keeps-local counts peer n
  where
    kept-local : (peer sent received : ℕ) (n : WholeNode)
        → (kept_whole_with peer sent received n).core.local ≡ n.core.local
    kept-local peer sent received n =
        cond_both (is_other n.core.local peer)
        (record n.core {
          links = slice_set n.core.links peer (kept_to sent (link_to n.core peer));
          acks = slice_set n.core.acks peer
              (max (slice_index_or n.core.acks peer 0) (min received (got_from n.core.local peer)));
        })
        n.core (λ (v : NodeView). v.local ≡ n.core.local) (λ _. refl) (λ _. refl)

keep-turn : {i : ℕ} {n m : LoneNode} (o : Option (Vec Counts)) (same : Bool)
    → m ≡ after_kept o same n → Turn i n m []
unfolding keeps
keep-turn None same is = turn-same is
keep-turn (Some counts) false is = turn-same is
keep-turn {n = n} (Some counts) true is =
    turn-view (keeping n.gone)
    (ap (λ (x : LoneNode). heap_of x) is
    ∙ ap (λ p. p.heap) (keeps-local counts.items (length n.node.core.links) n.node))
    (ap (λ (x : LoneNode). x.gone) is) refl refl (λ b. (le_refl _, b.1))

log-turn : {i : ℕ} {n m : LoneNode} (on : Bool) → m ≡ logging on n → Turn i n m []
log-turn {i} {n} {m} true is =
    cond_both n.logs n (record n { logs = true; log = None })
    (λ (x : LoneNode). m ≡ x → Turn i n m [])
    (λ _ same. turn-same same)
    (λ _ same. turn-quiet (ap (λ (x : LoneNode). x.node.core) same)
    (ap (λ (x : LoneNode). x.gone) same))
    is
log-turn false is =
    turn-quiet (ap (λ (x : LoneNode). x.node.core) is) (ap (λ (x : LoneNode). x.gone) is)

-- what was handed out, and what is left
hand : (k : ℕ) (xs ys : List CFreed) → k ≤ length xs → take k (take k xs ++ ys) ++ drop k xs ≡ xs
hand zero xs ys within = refl
hand (suc k) [] ys within = absurd (omega (arith, within))
hand (suc k) (x ∷ xs) ys within =
    ap (λ (zs : List CFreed). x ∷ zs) (hand k xs ys (omega (arith, within)))

freed-turn : {i : ℕ} {n m : LoneNode} (count : ℕ) (old new : List CFreed)
    → HandedOut n m count old new → Turn i n m (handed_by i (On i (Freed count old new)))
freed-turn {i} {n} {m} count old new is =
    let v = n.gone in
    let left = is.hands_out.left in
    let given : handed_by i (On i (Freed count old new))
    ≡ take count (take count v.list ++ drop count old) =
    cond-true (i == i) (take count new) [] (eq-eqb i i refl)
    ∙ ap (take count) is.hands_out.handed in
    let few : IsBounded v → count ≤ length v.list =
    λ b. (let a = b.0 in let c = b.1 in let many = is.hands_out.many in
    let least = min-le_left v.ready (length old) in omega (arith, a, c, many, least)) in
    turn-still (ap (λ (x : LoneNode). heap_of x) is.stays) (ap (λ (x : GoneView). x.tracks) left)
    (λ b. subst IsBounded (sym left)
    (let a = b.0 in let c = b.1 in let long = length-drop count v.list in
    (omega (arith, a), omega (arith, c, long))))
    (λ b.
    rw (given, ap (λ (x : GoneView). x.list) left) (hand count v.list (drop count old) (few b)))

deed-turn : {i : ℕ} {n m : LoneNode} (d : Deed) → KeepsList i (On i d) → Meets d n m
    → n.gone.tracks ≡ true → IsOn i n → Turn i n m (handed_by i (On i d))
deed-turn {n = n} (Act e r) keeps meets tracks on =
    given-turn (is_congested n e) e r meets.1 tracks on
deed-turn (Take bytes r) keeps meets tracks on = took-turn bytes r meets tracks on
deed-turn (Work scans slots work r) keeps meets tracks on = absurd (keeps refl)
deed-turn (FrameAt to place r old new before needed) keeps meets tracks on = turn-same meets.1
deed-turn (AckFor from r old new before needed) keeps meets tracks on = turn-same meets.1
deed-turn (Frames to after r old new before needed) keeps meets tracks on = turn-same meets.1
deed-turn (TakeImage r old new before needed) keeps meets tracks on =
    image-turn r old new before needed meets
deed-turn {n = n} (TakeBatch r old new before needed) keeps meets tracks on =
    batch-turn (batch_of n) r old new before needed meets
deed-turn {n = n} (Keep mark r) keeps meets tracks on =
    keep-turn n.counts (mark == n.mark) meets.0
deed-turn {n = n} (Release r) keeps meets tracks on =
    turn-view (settling n.gone) (ap (λ (x : LoneNode). heap_of x) meets.0)
    (ap (λ (x : LoneNode). x.gone) meets.0) refl refl (λ b. (le_refl _, le_refl _))
deed-turn (Log on r) keeps meets tracks is = log-turn on meets.0
deed-turn (Track on r) keeps meets tracks is = absurd (keeps refl)
deed-turn (Freed count old new) keeps meets tracks on = freed-turn count old new meets

-- ---- many calls

-- All that was handed out and is listed was had, is lost, and is there once; and all that was had
-- is there, or the node has it.
record Lists (i : ℕ) (handed : List CFreed) (Had : Ref → Type 0) (n : LoneNode) : Type 0 where
  tracks : n.gone.tracks ≡ true
  bound : IsBounded n.gone
  lost : (r : Ref) → Among r (references (handed ++ n.gone.list)) → LostRef n r
  had : (r : Ref) → Among r (references (handed ++ n.gone.list)) → Had r
  whole : (r : Ref) → r.node ≡ i → Had r → (HasRef n r → ⊥)
      → Among r (references (handed ++ n.gone.list))
  apart : AreApart (references (handed ++ n.gone.list))

lists-as : {i : ℕ} {handed : List CFreed} {A B : Ref → Type 0} {n : LoneNode}
    → ((r : Ref) → A r → B r) → ((r : Ref) → B r → A r) → Lists i handed A n
    → Lists i handed B n
lists-as to from l = record {
  tracks = l.tracks;
  bound = l.bound;
  lost = l.lost;
  had = λ r a. to r (l.had r a);
  whole = λ r own h hasnt. l.whole r own (from r h) hasnt;
  apart = l.apart;
}

turned : {i : ℕ} {handed given : List CFreed} {Had : Ref → Type 0} {n m : LoneNode}
    → Lists i handed Had n → ((r : Ref) → HasRef n r → Had r) → Turn i n m given
    → Lists i (handed ++ given) (λ r. Had r ⊎ HasRef m r) m
turned {i} {handed} {given} {Had} {n} {m} l now t =
    let old : List CFreed = handed ++ n.gone.list in
    let same : (handed ++ given) ++ m.gone.list ≡ old ++ t.more =
    append_assoc handed given m.gone.list
    ∙ ap (λ (xs : List CFreed). handed ++ xs) (t.lists l.bound)
    ∙ sym (append_assoc handed n.gone.list t.more) in
    let parts : (r : Ref) → Among r (references ((handed ++ given) ++ m.gone.list))
    → Among r (references old) ⊎ Among r (references t.more) =
    λ r a. among-both r old t.more (subst (λ (xs : List CFreed). Among r (references xs)) same a) in
    let back : (r : Ref) → Among r (references (old ++ t.more))
    → Among r (references ((handed ++ given) ++ m.gone.list)) =
    λ r a. subst (λ (xs : List CFreed). Among r (references xs)) (sym same) a in
    record {
      tracks = t.tracks ∙ l.tracks;
      bound = t.bound l.bound;
      lost = λ r a.
          ⊎_elim {C = LostRef m r} (λ first. t.lost r.slot r.generation (l.lost r first))
          (λ second. t.loses r (t.went r second).0 (t.went r second).1) (parts r a);
      had = λ r a.
          ⊎_elim {C = Had r ⊎ HasRef m r} (λ first. inl (l.had r first))
          (λ second. inl (now r (t.went r second).0)) (parts r a);
      whole = λ r own h hasnt.
          ⊎_elim {C = Among r (references ((handed ++ given) ++ m.gone.list))}
          (λ before.
          ⊎_elim {C = Among r (references ((handed ++ given) ++ m.gone.list))}
          (λ has. back r (among-second r old t.more (t.whole r own has hasnt)))
          (λ none. back r (among-first r old t.more (l.whole r own before none)))
          (has-or-not (slot_at (heap_of n) r.slot) r.generation))
          (λ has. absurd (hasnt has)) h;
      apart = subst (λ (xs : List CFreed). AreApart (references xs)) (sym same)
          (apart-both old t.more l.apart t.apart
          (λ r first second.
          lost-never (slot_at (heap_of n) r.slot) r.generation (l.lost r first).holds
          (t.went r second).0));
    }

-- ---- the node in a handle

held-same : {n m : LoneNode} → ◌≡◌ {A = Option LoneNode} (Some n) (Some m) → n ≡ m
held-same both = cc

module _ {shape : Shaped} (within : IsShape shape) {i : ℕ} (inside : i < shape.nodes) where
  -- a node in a handle shows a state of a run
  on-shown : {s : System} {n : LoneNode} → AllShown shape s → (s.places i).handle ≡ Some n
      → IsOn i n
  on-shown {s} {n} shown held =
      let found = shown (λ k. (s.places k).stored) (λ k. inl refl) in
      let w : World = found.0 in
      let is = found.1 in
      let carried =
      subst (λ (o : Option LoneNode). Holds o (node_at w.saved i) (node_at w.current i)) held
      (is.each i inside).holds in
      let inv = all-inv shape within is.steps (λ _. false) in
      record {
        state = node_at w.current i;
        tidy = subst (λ (v : World). Tidy (node_at v.current i).local) (sym is.reached)
            (inv.tidy i);
        shows = carried.shows;
        own = subst (λ (v : World). (node_at v.current i).local.own ≡ i) (sym is.reached)
            (inv.base.own i inside);
      }

  has-object : (s : System) {n : LoneNode} → (s.places i).handle ≡ Some n → (r : Ref) → HasRef n r
      → HasObject s i r
  has-object s {n} held r has =
      let found = slot-has (slot_at (heap_of n) r.slot) r.generation has in
      (n, held, found.0, found.1)

  object-has : (s : System) {n : LoneNode} → (s.places i).handle ≡ Some n → (r : Ref)
      → HasObject s i r → HasRef n r
  object-has s {n} held r has =
      let same : has.0 ≡ n = held-same (sym has.1 ∙ held) in
      subst (λ (x : LoneNode). HasRef x r) same
      (subst (λ (z : Slot). Has z r.generation) (sym has.3) refl)

  -- what happened to the node in a call
  record Called (c : Call) (n : LoneNode) (t : System) : Type 0 where
    node : LoneNode
    held : (t.places i).handle ≡ Some node
    turn : Turn i n node (handed_by i c)

  called-other : (s t : System) {n : LoneNode} (c : Call) → t.places i ≡ s.places i
      → (s.places i).handle ≡ Some n → handed_by i c ≡ [] → Called c n t
  called-other s t {n} c same held none = record {
    node = n;
    held = ap (λ p. p.handle) same ∙ held;
    turn = subst (Turn i n n) (sym none) (turn-same refl);
  }

  placed : (d : Deed) (n : LoneNode) (p : Place) → (place_after d n p).handle ≡ Some n
  placed (TakeImage (Ok mark) old new before needed) n p = refl
  placed (TakeBatch (Ok mark) old new before needed) n p = refl
  placed (Release r) n p = refl
  placed d n p = refl

  called : (s t : System) {n : LoneNode} (c : Call) → Does c s t → KeepsList i c
      → AllShown shape s → (s.places i).handle ≡ Some n → n.gone.tracks ≡ true → Called c n t
  called s t (Open j how limit (Ok x)) does keeps shown held tracks =
      called-other s t (Open j how limit (Ok x)) (does.1.others i (λ same. keeps (sym same))) held
      refl
  called s t (Open j how limit (Err f)) does keeps shown held tracks =
      called-other s t (Open j how limit (Err f)) (ap (λ (x : System). x.places i) does.1) held refl
  called s t (End j) does keeps shown held tracks =
      called-other s t (End j) (does.others i (λ same. keeps (sym same))) held refl
  called s t {n} (Store j e others) does keeps shown held tracks =
      ⊎_elim {C = Called (Store j e others) n t}
      (λ (same : i ≡ j). record {
        node = n;
        held = ap (λ (k : ℕ). (t.places k).handle) same ∙ ap (λ p. p.handle) does.here
            ∙ ap (λ (k : ℕ). (s.places k).handle) (sym same) ∙ held;
        turn = turn-same refl;
      })
      (λ other. called-other s t (Store j e others) (does.others i other) held refl)
      (cases_eq i j)
  called s t {n} (On j d) does keeps shown held tracks =
      ⊎_elim {C = Called (On j d) n t}
      (λ (same : j ≡ i). here s t j d same does keeps shown held tracks)
      (λ other. called-other s t (On j d) (does.becomes.others i (λ is. other (sym is))) held
      (none j d other))
      (cases_eq j i)
    where
      none : (j : ℕ) (d : Deed) → j ≢ i → handed_by i (On j d) ≡ []
      none j (Freed count old new) other =
          cond-false (j == i) (take count new) [] (ne_eqb j i other)
      none j d other = refl

      here : (s t : System) {n : LoneNode} (j : ℕ) (d : Deed) → j ≡ i → DoesOn j d s t
          → KeepsList i (On j d) → AllShown shape s → (s.places i).handle ≡ Some n
          → n.gone.tracks ≡ true → Called (On j d) n t
      here s t {n} j d same does keeps shown held tracks =
          subst (λ (k : ℕ). DoesOn k d s t → KeepsList i (On k d) → Called (On k d) n t) (sym same)
          (λ on keep.
          (let old : on.old ≡ n = held-same (sym on.held ∙ held) in
          record {
            node = on.new;
            held = ap (λ p. p.handle) on.becomes.here ∙ placed d on.new (s.places i);
            turn = deed-turn d keep (subst (λ (x : LoneNode). Meets d x on.new) old on.meets) tracks
                (on-shown shown held);
          }))
          does keeps

  had-now : (s : System) (calls : List Call) (t : System) (goes : Goes shape s calls t) (r : Ref)
      → HasObject s i r → HadObject shape s calls t goes i r
  had-now s [] t goes r has = has
  had-now s (c ∷ cs) t goes r has = inl has

  listed-through : (calls : List Call) (s t : System) (goes : Goes shape s calls t)
      (handed : List CFreed) (Before : Ref → Type 0) (n m : LoneNode) → IsSound s
      → AllShown shape s → AllByRecursion (KeepsList i) calls → (s.places i).handle ≡ Some n
      → (t.places i).handle ≡ Some m → ((r : Ref) → HasRef n r → Before r)
      → Lists i handed Before n
      → Lists i (handed ++ handed_in i calls) (λ r. Before r ⊎ HadObject shape s calls t goes i r) m
  listed-through [] s t goes handed Before n m sound shown keeps held then now l =
      let same : m ≡ n =
      held-same (sym then ∙ ap (λ (x : System). (x.places i).handle) goes ∙ held) in
      subst (λ (x : LoneNode). Lists i (handed ++ []) (λ r. Before r ⊎ HasObject s i r) x)
      (sym same)
      (subst (λ (xs : List CFreed). Lists i xs (λ r. Before r ⊎ HasObject s i r) n)
      (sym (append-nil handed))
      (lists-as (λ r b. inl b)
      (λ r b. ⊎_elim {C = Before r} (λ x. x) (λ has. now r (object-has s held r has)) b) l))
  listed-through (c ∷ cs) s t (next, place, does, owes, rest) handed Before n m sound shown keeps
      held
      then now l =
      let call = called s next c does keeps.0 shown held l.tracks in
      let one = goes-came within (c ∷ []) s next sound shown (next, place, does, owes, refl) in
      let after = turned l now call.turn in
      let Then : Ref → Type 0 = λ r. Before r ⊎ HasRef call.node r in
      let all =
      listed-through cs next t rest (handed ++ handed_by i c) Then call.node m one.sound one.shown
      keeps.1 call.held then (λ r has. inr has) after in
      subst (λ (xs : List CFreed). Lists i xs
      (λ r. Before r ⊎ (HasObject s i r ⊎ HadObject shape next cs t rest i r)) m)
      (append_assoc handed (handed_by i c) (handed_in i cs))
      (lists-as
      (λ r x.
      ⊎_elim {C = Before r ⊎ (HasObject s i r ⊎ HadObject shape next cs t rest i r)}
      (λ y.
      ⊎_elim {C = Before r ⊎ (HasObject s i r ⊎ HadObject shape next cs t rest i r)}
      (λ b. inl b)
      (λ has. inr (inr (had-now next cs t rest r (has-object next call.held r has)))) y)
      (λ had. inr (inr had)) x)
      (λ r x.
      ⊎_elim {C = Then r ⊎ HadObject shape next cs t rest i r} (λ b. inl (inl b))
      (λ y.
      ⊎_elim {C = Then r ⊎ HadObject shape next cs t rest i r}
      (λ has. inl (inl (now r (object-has s held r has)))) (λ had. inr had) y) x)
      all)

pub lists-are-exact : ListsAreExact
lists-are-exact shape s t calls i n m reachable goes inside keeps held begun then =
    let from = came reachable.limits reachable.calls s reachable.goes in
    let begin : Lists i [] (HasRef n) n = record {
      tracks = ap (λ (v : GoneView). v.tracks) begun;
      bound = subst IsBounded (sym begun) (le_refl _, le_refl _);
      lost = λ r a. absurd (nothing begun r a);
      had = λ r a. absurd (nothing begun r a);
      whole = λ r own has hasnt. absurd (hasnt has);
      apart = subst (λ (v : GoneView). AreApart (references v.list)) (sym begun) tt;
    } in
    let all =
    listed-through reachable.limits inside calls s t goes [] (HasRef n) n m from.sound from.shown
    keeps held then (λ r has. has) begin in
    record {
      went = λ r a. (
        ⊎_elim {C = HadObject shape s calls t goes i r}
            (λ has. had-now reachable.limits inside s calls t goes r
            (has-object reachable.limits inside s held r has)) (λ had. had) (all.had r a),
        λ has.
            lost-never (slot_at (heap_of m) r.slot) r.generation (all.lost r a).holds
            (object-has reachable.limits inside t then r has),
      );
      whole = λ r own had hasnt.
          all.whole r own (inr had)
          (λ has. hasnt (has-object reachable.limits inside t then r has));
      once = all.apart;
    }
  where
    nothing : {v : GoneView} → v ≡ tracking true untracked → (r : Ref)
        → Among r (references v.list) → ⊥
    nothing same r a = subst (λ (x : GoneView). Among r (references x.list)) same a
