-- If each node has a turn twice, messages come in on every link.
use Rattle.std.proofs.Common.{◌≡◌, ◌≢◌, ℕ, ◌+◌, ◌-◌, ◌<◌, ◌≤◌, ◌==◌, true, false, Bool, List, [], ◌∷◌, ◌++◌, get_or, Option, None, Some, Ok, Err, inl, inr, ⊎_elim, refl, sym, ap, ◌∙◌, subst, arith, le_refl}
use Rattle.std.specs.Prelude.{option_to_list}
use Rattle.std.specs.Global.{Vec}
use Rattle.std.specs.List.{AllByRecursion}
use Rattle.std.proofs.lemmas.Bool.{cases_eq, cases_lt, cond-true}
use Rattle.ids.specs.Limits.{Shaped}
use Rattle.ids.specs.declared.limits.TheConstants.{WINDOW}
use Rattle.msg.specs.Frames.{ack_frame}
use Rattle.model.specs.Cuts.{Among}
use Rattle.model.specs.View.{NodeView, is_other, link_to}
use Rattle.node.specs.Frames.{acknowledgement}
use Rattle.node.specs.Keeping.{WholeNode}
use Rattle.laws.proofs.Lookups.{among-append_left, among-append_right}
use Rattle.c_handles.specs.Batches.{BatchOr, batch_of}
use Rattle.c_handles.specs.Fairness.{GaveMark, HasWorked, HaveTurns, IsTurnOf, IsWithin, IsWithinDeed, TurnsAreRounds, received_by, sent_by}
use Rattle.c_handles.specs.Images.{after_kept, counts_of, keeps, kept_result}
use Rattle.c_handles.specs.Programs.{Call, Deed, Goes, Keep, Meets, On, Store, System, TakeBatch, TakeImage, Work, window_of}
use Rattle.c_handles.specs.declared.lone.images.Counts.{Counts}
use Rattle.c_handles.specs.declared.lone.LoneNode.{LoneNode}
use Rattle.c_handles.proofs.Carries.{Saves, all-saved}
use Rattle.c_handles.proofs.Grown.{Went, base_by, goes-went, grown-on, grown-same}
use Rattle.c_handles.proofs.Fairness.{Sits, after-filled, sits-at-first}
use Rattle.c_handles.proofs.Taking.{ack-one, base-received, goes-append, links-wide, none-alone, others-are, own-is, parts-of, received-of, received-sent, sent-of, sound-of, windows-come, within-append, Parts}

-- ---- a turn

some-same : {x y : LoneNode} → ◌≡◌ {A = Option LoneNode} (Some x) (Some y) → x ≡ y
some-same e = cc

-- What a node's turn comes to: what it had sent and received before counts as saved, and then its
-- frames are taken.
record Turned (shape : Shaped) (i : ℕ) (s t : System) (turn : List Call)
    (h : IsTurnOf shape i s turn t) : Type 0 where
  middle : Went shape s h.middle
  end : Went shape h.middle t
  saves : (j : ℕ) → j < shape.nodes → j ≢ i
      → (sent_by (s.places i).handle j ≤ (link_to h.node.node.core j).kept)
      × (received_by (s.places i).handle j ≤ get_or h.node.node.core.acks j 0)

-- the node after an image or a batch was taken
record Marked (n m : LoneNode) (mark : ℕ) : Type 0 where
  counts : Vec Counts
  counted : counts.items ≡ counts_of n.node.core
  has : m.counts ≡ Some counts
  same : m.node ≡ n.node

deed-marked : (d : Deed) (n m : LoneNode) (given : ℕ) → GaveMark d given → Meets d n m
    → Marked n m given
deed-marked (TakeImage (Ok mark) old new before needed) n m given is meets = record {
  counts = meets.0.counts;
  counted = meets.0.counted;
  has = ap (λ (x : LoneNode). x.counts) meets.0.stays;
  same = ap (λ (x : LoneNode). x.node) meets.0.stays;
}
deed-marked (TakeBatch (Ok mark) old new before needed) n m given is meets =
    by (batch_of n) meets
  where
    by : (b : Option (List ℕ)) → BatchOr b n m (Ok mark) old new before needed → Marked n m given
    by (Some bytes) h = record {
      counts = h.0.counts;
      counted = h.0.counted;
      has = ap (λ (x : LoneNode). x.counts) h.0.stays;
      same = ap (λ (x : LoneNode). x.node) h.0.stays;
    }
    by None h = absurd (let never = h.0 in cc)
deed-marked (TakeImage (Err e) old new before needed) n m given never meets = absurd never
deed-marked (TakeBatch (Err e) old new before needed) n m given never meets = absurd never
deed-marked d n m given never meets = absurd never

marks-within : (d : Deed) (given : ℕ) → GaveMark d given → IsWithinDeed d
marks-within (TakeImage (Ok mark) old new before needed) given is = tt
marks-within (TakeBatch (Ok mark) old new before needed) given is = tt
marks-within (TakeImage (Err e) old new before needed) given never = absurd never
marks-within (TakeBatch (Err e) old new before needed) given never = absurd never
marks-within d given never = absurd never

-- what counts as saved after `keep` succeeded
keep-marked : (o : Option (Vec Counts)) (same : Bool) (counts : Vec Counts) (n m : LoneNode)
    → o ≡ Some counts → m ≡ after_kept o same n → Ok tt ≡ kept_result o same
    → m.node ≡ keeps counts.items n.node
keep-marked None same counts n m has is ok = absurd cc
keep-marked (Some other) false counts n m has is ok = absurd cc
keep-marked (Some other) true counts n m has is ok =
    let e : other ≡ counts = cc in
    ap (λ (x : LoneNode). x.node) is ∙ ap (λ (c : Vec Counts). keeps c.items n.node) e

turned : {shape : Shaped} {i : ℕ} {s t : System} {turn : List Call} → i < shape.nodes
    → Sits shape s → (h : IsTurnOf shape i s turn t) → Turned shape i s t turn h
turned {shape} {i} {s} {t} {turn} inside sits h = by h.saves
  where
    by : Goes shape s
        (On i (Work h.scans h.slots h.work (Ok tt)) ∷ On i h.deed ∷ Store i h.stored []
        ∷ On i (Keep h.mark (Ok tt)) ∷ []) h.middle → Turned shape i s t turn h
    by (
      s1,
      in1,
      works,
      owes1,
      (s2, in2, gives, owes2, (s3, in3, stores, owes3, (s4, in4, keeps_it, owes4, last))),
    ) =
        let deed_within = marks-within h.deed h.mark h.marks in
        let first = goes-went (On i (Work h.scans h.slots h.work (Ok tt)) ∷ []) s s1 sits (tt, tt)
        (s1, in1, works, owes1, refl) in
        let middle = goes-went (On i (Work h.scans h.slots h.work (Ok tt)) ∷ On i h.deed
        ∷ Store i h.stored [] ∷ On i (Keep h.mark (Ok tt)) ∷ []) s h.middle sits
        (tt, (deed_within, (tt, (tt, tt)))) h.saves in
        let end = goes-went h.gives h.middle t middle.sits h.within h.gives_on in
        let held1 : (s1.places i).handle ≡ Some gives.old = gives.held in
        let held2 : (s3.places i).handle ≡ Some gives.new =
        ap (λ p. p.handle) stores.here ∙ ap (λ p. p.handle) gives.becomes.here
        ∙ after-filled h.deed gives.new (s1.places i) in
        let same_old : keeps_it.old ≡ gives.new = some-same (sym keeps_it.held ∙ held2) in
        let held4 : (h.middle.places i).handle ≡ Some keeps_it.new =
        ap (λ (z : System). (z.places i).handle) last ∙ ap (λ p. p.handle) keeps_it.becomes.here
        ∙ after-filled (Keep h.mark (Ok tt)) keeps_it.new (s3.places i) in
        let same_new : keeps_it.new ≡ h.node = some-same (sym held4 ∙ h.held) in
        let marked = deed-marked h.deed gives.old gives.new h.mark h.marks gives.meets in
        let kept : h.node.node ≡ keeps marked.counts.items gives.old.node =
        ap (λ (x : LoneNode). x.node) (sym same_new)
        ∙ keep-marked keeps_it.old.counts (h.mark == keeps_it.old.mark) marked.counts keeps_it.old
        keeps_it.new
        (ap (λ (x : LoneNode). x.counts) same_old ∙ marked.has) keeps_it.meets.0 keeps_it.meets.1
        ∙ ap (λ (x : LoneNode). keeps marked.counts.items x.node) same_old
        ∙ ap (keeps marked.counts.items) marked.same in
        record {
          middle = middle;
          end = end;
          saves = λ j there apart.
              (let wide = (sound-of first.sits i held1).acked.wide in
              let links = links-wide first.sits i inside held1 in
              let saves_all = all-saved gives.old.node marked.counts.items marked.counted j
              (omega (arith, links, there)) (others-are first.sits i j inside there apart held1)
              wide in
              let at = subst (λ (x : WholeNode). Saves gives.old.node.core x.core j) (sym kept)
              saves_all in
              let sent = sent-of first.sits i j inside held1 in
              let got = received-of first.sits i j inside held1 in
              let more_sent = first.grown.sent i j inside in
              let more_got = first.grown.got i j inside in
              let kept_all = at.sent in
              let received_all = at.received in (
                omega (arith, kept_all, sent, more_sent),
                omega (arith, received_all, got, more_got),
              ));
        }

-- ---- turns of all nodes

-- the turn of a node among others
record Found (shape : Shaped) (i : ℕ) (s t : System) : Type 0 where
  inside : i < shape.nodes
  first : System
  last : System
  turn : List Call
  before : Went shape s first
  is_turn : IsTurnOf shape i first turn last
  turned_so : Turned shape i first last turn is_turn
  after : Went shape last t

turns-went : {shape : Shaped} (order : List ℕ) (calls : List Call) (s t : System) → Sits shape s
    → HaveTurns shape order s calls t → Went shape s t
turns-went {shape} [] calls s t h turns =
    subst (Went shape s) (sym turns.1) (record { sits = h; grown = grown-same s })
turns-went (i ∷ is) calls s t h (next, turn, rest, same, inside, is_turn, more) =
    let one = turned inside h is_turn in
    let later = turns-went is rest next t one.end.sits more in
    record {
      sits = later.sits;
      grown = grown-on one.middle.grown (grown-on one.end.grown later.grown);
    }

find-turn : {shape : Shaped} (i : ℕ) (order : List ℕ) (calls : List Call) (s t : System)
    → Sits shape s → HaveTurns shape order s calls t → Among i order → Found shape i s t
find-turn i [] calls s t h turns never = absurd never
find-turn {shape} i (k ∷ ks) calls s t h (next, turn, rest, same, inside, is_turn, more)
    (inl here) =
    let one = turned inside h is_turn in
    let later = turns-went ks rest next t one.end.sits more in
    subst (λ (z : ℕ). Found shape z s t) (sym here)
    (record {
      inside = inside;
      first = s;
      last = next;
      turn = turn;
      before = record { sits = h; grown = grown-same s };
      is_turn = is_turn;
      turned_so = one;
      after = later;
    })
find-turn i (k ∷ ks) calls s t h (next, turn, rest, same, inside, is_turn, more) (inr later) =
    let one = turned inside h is_turn in
    let f = find-turn i ks rest next t one.end.sits more later in
    record {
      inside = f.inside;
      first = f.first;
      last = f.last;
      turn = f.turn;
      before = record {
        sits = f.before.sits;
        grown = grown-on one.middle.grown (grown-on one.end.grown f.before.grown);
      };
      is_turn = f.is_turn;
      turned_so = f.turned_so;
      after = f.after;
    }

-- ---- messages come in

-- the calls of a turn in which its frames are taken
turn-parts : {shape : Shaped} {i : ℕ} {s t : System} (j : ℕ) (f : Found shape i s t)
    → j < shape.nodes → j ≢ i
    → Parts shape j (window_of f.is_turn.node.node.core j WINDOW)
    (option_to_list (acknowledgement f.is_turn.node.node.core j)) f.is_turn.middle f.last
turn-parts j f there apart =
    parts-of (window_of f.is_turn.node.node.core j WINDOW)
    (option_to_list (acknowledgement f.is_turn.node.node.core j))
    (f.is_turn.carries j there apart)
    (record {
      inside = there;
      sits = f.turned_so.middle.sits;
      within = f.is_turn.within;
      goes = f.is_turn.gives_on;
    })

-- the acknowledgement that a turn gives reaches the other node
acks-reach : {shape : Shaped} {s t : System} (from to k : ℕ) (f : Found shape to s t)
    → from < shape.nodes → from ≢ to → k ≤ received_by (s.places to).handle from
    → k ≤ sent_by (s.places from).handle to → k ≤ base_by (f.last.places from).handle to
acks-reach {shape} from to k f there apart got sent =
    let n : NodeView = f.is_turn.node.node.core in
    let middle = f.turned_so.middle in
    let saves = (f.turned_so.saves from there apart).1 in
    let other = others-are middle.sits to from f.inside there apart f.is_turn.held in
    let own = own-is middle.sits to f.inside f.is_turn.held in
    let number : ℕ = get_or n.acks from 0 in
    let is : acknowledgement n from ≡ Some (ack_frame n.local.own from number) =
    cond-true (is_other n.local from) _ None other in
    let p = turn-parts from f there apart in
    let grown_got = f.before.grown.got to from f.inside in
    let grown_sent = f.before.grown.sent from to there in
    let more = middle.grown.sent from to there in
    let still = p.grown_first.sent from to there in
    ack-one (ack_frame n.local.own from number) (option_to_list (acknowledgement n from))
    (record { of = from; is = ap (λ (z : ℕ). ack_frame z from number) own }) f.inside
    (ap option_to_list is) p.takes_then p.calls_then
    (omega (arith, got, grown_got, saves), omega (arith, sent, grown_sent, more, still))

-- the messages in the window of a turn reach the other node
window-reaches : {shape : Shaped} {s t : System} {from g : ℕ} (to k : ℕ) (f : Found shape from s t)
    → to < shape.nodes → to ≢ from → k < 2 → g ≤ base_by (s.places from).handle to
    → g + k < sent_by (s.places from).handle to
    → g + k < received_by (f.last.places to).handle from
window-reaches {shape} {s} {t} {from} {g} to k f there apart two based sent =
    let n : NodeView = f.is_turn.node.node.core in
    let middle = f.turned_so.middle in
    let base : ℕ = (link_to n to).base in
    let saves = (f.turned_so.saves to there apart).0 in
    let p = turn-parts to f there apart in
    let grown = p.grown_then.got to from there in
    let heard = p.grown_first.got to from there in
    let received = base-received middle.sits from to f.inside there f.is_turn.held in
    let base_grown = f.before.grown.bases from to in
    let base_more = middle.grown.bases from to in
    let base_is = ap (λ (o : Option LoneNode). base_by o to) f.is_turn.held in
    let sent_grown = f.before.grown.sent from to f.inside in
    let sent_more = middle.grown.sent from to f.inside in
    let uses = sent-of middle.sits from to f.inside f.is_turn.held in
    ⊎_elim {C = g + k < received_by (f.last.places to).handle from}
    (λ (past : g + k < base). omega (arith, past, received, heard, grown))
    (λ (within : base ≤ g + k).
    let place : ℕ = g + k - base in
    let come = windows-come {n = n} (record {
      there = f.inside;
      own = own-is middle.sits from f.inside f.is_turn.held;
      other = others-are middle.sits from to f.inside there apart f.is_turn.held;
    }) WINDOW (omega arith) p.takes_first p.calls_first received place (
      omega (arith, two, based, base_grown, base_more, base_is),
      record {
        kept = omega (arith, within, sent, sent_grown, saves);
        long = omega (arith, within, sent, sent_grown, sent_more, uses);
      },
    ) in
    omega (arith, come, within, grown))
    (cases_lt (g + k) base)

-- calls of turns
turns-goes : (shape : Shaped) (order : List ℕ) (calls : List Call) (s t : System)
    → HaveTurns shape order s calls t → Goes shape s calls t × AllByRecursion IsWithin calls
turns-goes shape [] calls s t turns =
    subst (λ (z : List Call). Goes shape s z t × AllByRecursion IsWithin z) (sym turns.0)
    (turns.1, tt)
turns-goes shape (i ∷ is) calls s t (next, turn, rest, same, inside, h, more) =
    let later = turns-goes shape is rest next t more in
    let deed_within = marks-within h.deed h.mark h.marks in
    let four : List Call = On i (Work h.scans h.slots h.work (Ok tt)) ∷ On i h.deed
    ∷ Store i h.stored [] ∷ On i (Keep h.mark (Ok tt)) ∷ [] in
    let goes = goes-append shape four h.gives s h.middle next h.saves h.gives_on in
    let within = within-append four h.gives (tt, (deed_within, (tt, (tt, tt)))) h.within in
    subst (λ (z : List Call). Goes shape s z t × AllByRecursion IsWithin z) (sym same)
    (subst (λ (z : List Call). Goes shape s (z ++ rest) t × AllByRecursion IsWithin (z ++ rest))
    (sym h.is) (
      goes-append shape (four ++ h.gives) rest s next t goes later.0,
      within-append (four ++ h.gives) rest within later.1,
    ))

-- each node's work is among them
turn-worked : {shape : Shaped} {i : ℕ} {s t : System} {turn : List Call}
    → IsTurnOf shape i s turn t → HasWorked i turn
turn-worked {i = i} h = record {
  scans = h.scans;
  slots = h.slots;
  work = h.work;
  some = h.some;
  there = subst (λ (z : List Call). Among (On i (Work h.scans h.slots h.work (Ok tt))) z) (sym h.is)
      (inl refl);
}

worked-left : {i : ℕ} (a b : List Call) → HasWorked i a → HasWorked i (a ++ b)
worked-left a b h = record {
  scans = h.scans;
  slots = h.slots;
  work = h.work;
  some = h.some;
  there = among-append_left _ a b h.there;
}

turns-worked : (shape : Shaped) (i : ℕ) (order : List ℕ) (calls : List Call) (s t : System)
    → HaveTurns shape order s calls t → Among i order → HasWorked i calls
turns-worked shape i [] calls s t turns never = absurd never
turns-worked shape i (k ∷ ks) calls s t (next, turn, rest, same, inside, h, more) (inl here) =
    subst (HasWorked i) (sym same)
    (worked-left turn rest (subst (λ (z : ℕ). HasWorked z turn) (sym here) (turn-worked h)))
turns-worked shape i (k ∷ ks) calls s t (next, turn, rest, same, inside, h, more) (inr later) =
    let w = turns-worked shape i ks rest next t more later in
    subst (HasWorked i) (sym same)
    (record {
      scans = w.scans;
      slots = w.slots;
      work = w.work;
      some = w.some;
      there = among-append_right _ turn rest w.there;
    })

pub turns-are-rounds : TurnsAreRounds
turns-are-rounds shape s u t first more reachable filled one two =
    let h = sits-at-first reachable filled in
    let a = turns-goes shape one.order first s u one.turns in
    let b = turns-goes shape two.order more u t two.turns in
    let mid = turns-went one.order first s u h one.turns in
    record {
      goes = goes-append shape first more s u t a.0 b.0;
      within = within-append first more a.1 b.1;
      works = λ i inside.
          worked-left first more
          (turns-worked shape i one.order first s u one.turns (one.all i inside));
      comes_in = λ from to k there inside two_of sent.
          ⊎_elim {C = received_by (s.places to).handle from + k
          < received_by (t.places to).handle from}
          (λ (same : from ≡ to).
          absurd
          (let none = none-alone h to inside in
          let is = ap (λ (z : ℕ). sent_by (s.places z).handle to) same in
          omega (arith, sent, none, is)))
          (λ (apart : from ≢ to).
          let g : ℕ = received_by (s.places to).handle from in
          let f = find-turn to one.order first s u h one.turns (one.all to inside) in
          let few = received-sent h to from inside there in
          let reached = acks-reach from to g f there apart (le_refl _) few in
          let based = f.after.grown.bases from to in
          let grown = mid.grown.sent from to there in
          let w = find-turn from two.order more u t mid.sits two.turns (two.all from there) in
          let come = window-reaches {g = g} to k w inside (λ e. apart (sym e)) two_of
          (omega (arith, reached, based)) (omega (arith, sent, grown)) in
          let after = w.after.grown.got to from inside in
          omega (arith, come, after))
          (cases_eq from to);
    }
