-- A node takes the frames that another one has for it, so its messages come in.
use Rattle.std.proofs.Common.{◌≡◌, ◌≢◌, ℕ, zero, suc, ◌+◌, ◌-◌, ◌<◌, ◌≤◌, ◌&&◌, ltb, true, false, List, [], ◌∷◌, ◌++◌, length, get_or, Option, None, Some, Ok, slice_get, inl, inr, ⊎_elim, refl, sym, ap, ◌∙◌, subst, arith, le_trans, lt-ltb, length-drop}
use Rattle.std.specs.Prelude.{option_to_list}
use Rattle.std.specs.List.{AllByRecursion}
use Rattle.std.specs.Option.{option_map}
use Rattle.std.proofs.lemmas.Bool.{and_from, cases_eq, cond-true, ne_eqb, not_from_false}
use Rattle.std.proofs.lemmas.List.{append-nil}
use Rattle.std.proofs.lemmas.Option.{slice_get-get_or}
use Rattle.ids.specs.Limits.{Shaped}
use Rattle.ids.specs.declared.limits.TheConstants.{WINDOW}
use Rattle.msg.specs.Frames.{Plain, ack_frame, data_frame, plain}
use Rattle.msg.specs.declared.body.Body.{Body}
use Rattle.msg.specs.declared.body.Message.{Message}
use Rattle.msg.specs.declared.frame.Frame.{Frame}
use Rattle.msg.specs.declared.frame.Frame.TheVariants as frame
use Rattle.frames.specs.Grammar.{Fits, spelling}
use Rattle.frames.proofs.Frames.{no_spelling_begins_another}
use Rattle.model.specs.declared.event.Answer.{Answer}
use Rattle.model.specs.Cuts.{cut}
use Rattle.model.specs.References.{no_message}
use Rattle.model.specs.State.{LocalState, got_from, node_at, sent_to}
use Rattle.model.specs.View.{Link, NodeView, is_other, link_to, used}
use Rattle.model.specs.World.{World, IsInNet}
use Rattle.node.specs.Frames.{frame_of, released_frame}
use Rattle.laws.specs.Carried.{IsCarried}
use Rattle.laws.specs.Statements.{AcknowledgedIsTakenIn}
use Rattle.laws.proofs.Base.{all-base}
use Rattle.laws.proofs.Invariant.{Base}
use Rattle.laws.proofs.Net.{acknowledged-is-taken-in}
use Rattle.laws.proofs.progress.Spaces.{Reached, reached-heard}
use Rattle.c_handles.specs.Fairness.{IsWithin, TakesIn, has_taken, passes_by, received_by, sent_by, takes}
use Rattle.c_handles.specs.Lone.{Handled, TookIn}
use Rattle.c_handles.specs.Programs.{Call, Choice, Does, Goes, Holds, IsShown, On, System, Take, newest, window_of}
use Rattle.c_handles.specs.declared.lone.LoneNode.{LoneNode}
use Rattle.c_handles.proofs.Acked.{IsAcked, by_frame, none_yet}
use Rattle.c_handles.proofs.Calls.{IsSoundIn, IsSoundNode}
use Rattle.c_handles.proofs.Carries.{ack-reaches, data-got}
use Rattle.c_handles.proofs.Grown.{Grown, Went, base_by, call-grown, goes-went}
use Rattle.c_handles.proofs.Fairness.{Sits, after-filled, sits-on}
use Rattle.c_handles.proofs.Systems.{newest-among}

-- ---- lists of calls

pub goes-append : (shape : Shaped) (a b : List Call) (s u t : System) → Goes shape s a u
    → Goes shape u b t → Goes shape s (a ++ b) t
goes-append shape [] b s u t first then =
    subst (λ (z : System). Goes shape z b t) first then
goes-append shape (c ∷ cs) b s u t (next, inside, does, owes, rest) then =
    (next, inside, does, owes, goes-append shape cs b next u t rest then)

goes-split : (shape : Shaped) (a b : List Call) (s t : System) → Goes shape s (a ++ b) t
    → (u : System) × Goes shape s a u × Goes shape u b t
goes-split shape [] b s t goes = (s, refl, goes)
goes-split shape (c ∷ cs) b s t (next, inside, does, owes, rest) =
    let later = goes-split shape cs b next t rest in
    (later.0, (next, inside, does, owes, later.1), later.2)

pub within-append : (a b : List Call) → AllByRecursion IsWithin a → AllByRecursion IsWithin b
    → AllByRecursion IsWithin (a ++ b)
within-append [] b first then = then
within-append (c ∷ cs) b first then = (first.0, within-append cs b first.1 then)

within-split : (a b : List Call) → AllByRecursion IsWithin (a ++ b)
    → AllByRecursion IsWithin a × AllByRecursion IsWithin b
within-split [] b all = (tt, all)
within-split (c ∷ cs) b all =
    let later = within-split cs b all.1 in ((all.0, later.0), later.1)

-- the calls in which the first of these frames are taken, and the others
record Split (i : ℕ) (xs ys : List Plain) (calls : List Call) : Type 0 where
  first : List Call
  then : List Call
  is : calls ≡ first ++ then
  takes_first : TakesIn i xs first
  takes_then : TakesIn i ys then

takes-split : {i : ℕ} (xs ys zs : List Plain) (calls : List Call) → zs ≡ xs ++ ys
    → TakesIn i zs calls → Split i xs ys calls
takes-split {i} [] ys zs calls same all = record {
  first = [];
  then = calls;
  is = refl;
  takes_first = has_taken [];
  takes_then = subst (λ (l : List Plain). TakesIn i l calls) same all;
}
takes-split {i} (x ∷ xs) ys zs calls same (has_taken calls0) = absurd cc
takes-split {i} (x ∷ xs) ys zs calls same (takes f fs bytes a cs fits is rest) =
    let here : f ≡ x = cc in
    let later : fs ≡ xs ++ ys = cc in
    let s = takes-split xs ys fs cs later rest in
    record {
      first = On i (Take bytes (Ok a)) ∷ s.first;
      then = s.then;
      is = ap (λ (z : List Call). On i (Take bytes (Ok a)) ∷ z) s.is;
      takes_first = subst (λ (z : Plain).
          TakesIn i (z ∷ xs) (On i (Take bytes (Ok a)) ∷ s.first)) here
          (takes f xs bytes a s.first fits is s.takes_first);
      takes_then = s.takes_then;
    }
takes-split {i} (x ∷ xs) ys zs calls same (passes_by fs c cs rest) =
    let s = takes-split (x ∷ xs) ys fs cs same rest in
    record {
      first = c ∷ s.first;
      then = s.then;
      is = ap (λ (z : List Call). c ∷ z) s.is;
      takes_first = passes_by (x ∷ xs) c s.first s.takes_first;
      takes_then = s.takes_then;
    }

-- ---- what handles show

-- a space that the handles show
pub record Seen (shape : Shaped) (s : System) : Type 0 where
  pub world : World
  pub choice : Choice
  pub shown : IsShown shape s choice world
  pub base : Base shape (cut world (λ _. false))
  pub reached : Reached shape world

pub seen : {shape : Shaped} {s : System} → Sits shape s → Seen shape s
seen {shape} {s} h =
    let w = h.shown (λ k. newest (s.places k))
    (λ k. newest-among (s.places k).stored (s.places k).taken) in
    record {
      world = w.0;
      choice = λ k. newest (s.places k);
      shown = w.1;
      base = subst (λ (v : World). Base shape (cut v (λ _. false))) (sym w.1.reached)
          (all-base shape h.limits w.1.steps (λ _. false));
      reached = record { limits = h.limits; steps = w.1.steps; is = sym w.1.reached };
    }

module _ {shape : Shaped} {s : System} (h : Sits shape s) where
  abbrev w : World
  w = (seen h).world

  carried : {n : LoneNode} (i : ℕ) → i < shape.nodes → (s.places i).handle ≡ Some n
      → IsCarried (node_at w.saved i) (node_at w.current i) n.node.core
  carried i inside held =
      subst (λ (o : Option LoneNode). Holds o (node_at w.saved i) (node_at w.current i)) held
      ((seen h).shown.each i inside).holds

  pub own-is : {n : LoneNode} (i : ℕ) → i < shape.nodes → (s.places i).handle ≡ Some n
      → n.node.core.local.own ≡ i
  own-is i inside held =
      ap (λ (p : LocalState). p.own) (carried i inside held).shows.local
      ∙ (seen h).base.own i inside

  pub links-wide : {n : LoneNode} (i : ℕ) → i < shape.nodes → (s.places i).handle ≡ Some n
      → length n.node.core.links ≡ shape.nodes
  links-wide i inside held =
      (carried i inside held).shows.width ∙ (seen h).base.width i inside

  pub others-are : {n : LoneNode} (i j : ℕ) → i < shape.nodes → j < shape.nodes → j ≢ i
      → (s.places i).handle ≡ Some n → is_other n.node.core.local j ≡ true
  others-are {n} i j inside there apart held =
      let own = own-is i inside held in
      let many : n.node.core.local.shape.nodes ≡ shape.nodes =
      ap (λ (p : LocalState). p.shape.nodes) (carried i inside held).shows.local
      ∙ ap (λ (z : Shaped). z.nodes) ((seen h).base.shapes i inside) in
      and_from _ _ (lt-ltb j n.node.core.local.shape.nodes (omega (arith, there, many)))
      (not_from_false _ (ne_eqb j n.node.core.local.own (λ e. apart (e ∙ own))))

  pub sent-of : {n : LoneNode} (i j : ℕ) → i < shape.nodes → (s.places i).handle ≡ Some n
      → (used (link_to n.node.core j) ≡ length (sent_to (node_at w.current i) j))
      × (sent_by (s.places i).handle j ≡ used (link_to n.node.core j))
  sent-of {n} i j inside held =
      let l : Link = link_to n.node.core j in
      let xs : List Message = sent_to (node_at w.current i) j in
      let shows = (carried i inside held).shows.links j in
      let within = shows.within in
      let long : length l.unacknowledged ≡ length xs - l.base =
      ap length shows.unacknowledged ∙ length-drop l.base xs in (
        omega (arith, within, long),
        ap (λ (o : Option LoneNode). sent_by o j) held,
      )

  pub received-of : {n : LoneNode} (i j : ℕ) → i < shape.nodes → (s.places i).handle ≡ Some n
      → (got_from n.node.core.local j ≡ got_from (node_at w.current i).local j)
      × (received_by (s.places i).handle j ≡ got_from n.node.core.local j)
  received-of i j inside held = (
    ap (λ (p : LocalState). got_from p j) (carried i inside held).shows.local,
    ap (λ (o : Option LoneNode). received_by o j) held,
  )

  pub sound-of : {n : LoneNode} (i : ℕ) → (s.places i).handle ≡ Some n
      → IsSoundNode s.frames (newest (s.places i)) n
  sound-of i held = subst (IsSoundIn s.frames (newest (s.places i))) held (h.sound.each i)

  -- a node has received no more than was sent to it
  pub received-sent : (to from : ℕ) → to < shape.nodes → from < shape.nodes
      → received_by (s.places to).handle from ≤ sent_by (s.places from).handle to
  received-sent to from inside there =
      let n = h.filled to inside in
      let m = h.filled from there in
      let got = received-of to from inside n.1 in
      let sent = sent-of from to there m.1 in
      let within = (seen h).base.within from to in
      omega (arith, within, got, sent)

  -- a node sends itself nothing
  pub none-alone : (i : ℕ) → i < shape.nodes → sent_by (s.places i).handle i ≡ 0
  none-alone i inside =
      let n = h.filled i inside in
      let sent = sent-of i i inside n.1 in
      sent.1 ∙ sent.0 ∙ ap length ((reached-heard (seen h).reached).alone i)

  -- what a node counts as acknowledged was received
  pub base-received : {n : LoneNode} (from to : ℕ) → from < shape.nodes → to < shape.nodes
      → (s.places from).handle ≡ Some n
      → (link_to n.node.core to).base ≤ received_by (s.places to).handle from
  base-received {n} from to inside there held = by ((sound-of from held).acked.each to)
    where
      by : IsAcked s.frames n.node.core.local.own to (link_to n.node.core to).base
          → (link_to n.node.core to).base ≤ received_by (s.places to).handle from
      by (none_yet is) = omega (arith, is)
      by (by_frame number le among) =
          let own = own-is from inside held in
          let m = h.filled to there in
          let got = received-of to from there m.1 in
          let net : IsInNet w (ack_frame to from number) =
          subst (λ (k : ℕ). IsInNet w (ack_frame to k number)) own
          ((seen h).shown.frames (ack_frame to n.node.core.local.own number) among) in
          let taken = subst AcknowledgedIsTakenIn (sym (seen h).shown.reached)
          (acknowledged-is-taken-in shape h.limits (seen h).shown.steps) to from number net in
          omega (arith, le, taken, got)

-- ---- a frame is taken

-- the bytes spell one frame
the-frame : {bytes : List ℕ} (f : Plain) (g : Frame) → Fits f → Fits (plain g)
    → bytes ≡ spelling f → bytes ≡ spelling (plain g) → f ≡ plain g
the-frame f g fits also is spelled =
    (no_spelling_begins_another f (plain g) [] fits also
    (append-nil (spelling f) ∙ sym is ∙ spelled)).1

-- the node takes the frame
record Taking (shape : Shaped) (i : ℕ) (f : Plain) (s t : System) : Type 0 where
  sits : Sits shape s
  inside : i < shape.nodes
  bytes : List ℕ
  answer : Answer
  does : Does (On i (Take bytes (Ok answer))) s t
  fits : Fits f
  is : bytes ≡ spelling f

-- the frame is a message of this number; it is an acknowledgement by this node up to this number
pub record IsData (f : Plain) (from number : ℕ) : Type 0 where
  pub to : ℕ
  pub stamp : ℕ
  pub body : Body
  pub is : f ≡ data_frame from to number stamp body

pub record IsAck (f : Plain) (from number : ℕ) : Type 0 where
  pub of : ℕ
  pub is : f ≡ ack_frame from of number

module _ {shape : Shaped} {i : ℕ} {f : Plain} {s t : System} (h : Taking shape i f s t) where
  abbrev does : Does (On i (Take h.bytes (Ok h.answer))) s t
  does = h.does

  abbrev held_after : (t.places i).handle ≡ Some does.new
  held_after =
      ap (λ p. p.handle) does.becomes.here
      ∙ after-filled (Take h.bytes (Ok h.answer)) does.new (s.places i)

  -- a message that comes no later than in its turn
  took-data : {from number : ℕ} → IsData f from number → from < shape.nodes
      → number ≤ received_by (s.places i).handle from + 1
      → number ≤ received_by (t.places i).handle from
  took-data {from} {number} x there due = by does.meets
    where
      handled : (g : Frame) → data_frame from x.to number x.stamp x.body ≡ plain g
          → Handled g does.old does.new (Ok h.answer)
          → number ≤ received_by (t.places i).handle from
      handled (frame.Data d) same g =
          let from_is : from ≡ d.from = cc in
          let number_is : number ≡ d.number = cc in
          let view = (seen h.sits).world in
          let shows = (carried h.sits i h.inside does.held).shows in
          let found = g.acts.states (node_at view.current i) shows in
          let was = received-of h.sits i from h.inside does.held in
          let heard = (seen h.sits).base.heard i h.inside in
          let got = data-got (node_at view.current i) found.0 d h.answer found.1
          (omega (arith, from_is, there, heard))
          (subst (λ (k : ℕ). d.number ≤ got_from (node_at view.current i).local k + 1) from_is
          (omega (arith, number_is, due, was))) in
          let local = ap (λ (p : LocalState). got_from p from) found.2.local in
          let here = subst (λ (k : ℕ). d.number ≤ got_from found.0.local k) (sym from_is) got in
          let is_now = ap (λ (o : Option LoneNode). received_by o from) held_after in
          omega (arith, number_is, here, local, is_now)
      handled (frame.Ack ack) same g = absurd cc

      by : TookIn h.bytes does.old does.new (Ok h.answer)
          → number ≤ received_by (t.places i).handle from
      by (inl took) =
          handled took.frame
          (sym x.is ∙ the-frame f took.frame h.fits took.fits h.is took.spelled) took.handled
      by (inr (inl none)) = absurd (let r = none.refused in cc)
      by (inr (inr room)) = absurd (let r = room.refused in cc)

  -- an acknowledgement
  took-ack : {by_node number : ℕ} (k : ℕ) → IsAck f by_node number → by_node < shape.nodes
      → k ≤ number → k ≤ sent_by (s.places i).handle by_node
      → k ≤ base_by (t.places i).handle by_node
  took-ack {by_node} {number} k x there most within = by does.meets
    where
      handled : (g : Frame) → ack_frame by_node x.of number ≡ plain g
          → Handled g does.old does.new (Ok h.answer)
          → k ≤ base_by (t.places i).handle by_node
      handled (frame.Data d) same g = absurd cc
      handled (frame.Ack ack) same g =
          let by_is : by_node ≡ ack.by = cc in
          let number_is : number ≡ ack.number = cc in
          let wide = links-wide h.sits i h.inside does.held in
          let sent = sent-of h.sits i by_node h.inside does.held in
          let reaches = ack-reaches does.old.node.core does.new.node.core ack k g.acts.performs
          (omega (arith, by_is, there, wide)) (omega (arith, number_is, most))
          (subst (λ (z : ℕ). k ≤ used (link_to does.old.node.core z)) by_is
          (omega (arith, sent, within))) in
          let here =
          subst (λ (z : ℕ). k ≤ (link_to does.new.node.core z).base) (sym by_is) reaches in
          let is_now = ap (λ (o : Option LoneNode). base_by o by_node) held_after in
          omega (arith, here, is_now)

      by : TookIn h.bytes does.old does.new (Ok h.answer) → k ≤ base_by (t.places i).handle by_node
      by (inl took) =
          handled took.frame
          (sym x.is ∙ the-frame f took.frame h.fits took.fits h.is took.spelled) took.handled
      by (inr (inl none)) = absurd (let r = none.refused in cc)
      by (inr (inr room)) = absurd (let r = room.refused in cc)

-- ---- frames one after another

-- these calls are made, and the node is one of the space
pub record Calling (shape : Shaped) (i : ℕ) (calls : List Call) (s t : System) : Type 0 where
  pub inside : i < shape.nodes
  pub sits : Sits shape s
  pub within : AllByRecursion IsWithin calls
  pub goes : Goes shape s calls t

-- after the first of the calls
record Next (shape : Shaped) (i : ℕ) (c : Call) (cs : List Call) (s t : System) : Type 0 where
  next : System
  does : Does c s next
  calling : Calling shape i cs next t
  grown : Grown shape s next
  later : Went shape next t

next-of : {shape : Shaped} {i : ℕ} {s t : System} (c : Call) (cs : List Call)
    → Calling shape i (c ∷ cs) s t → Next shape i c cs s t
next-of {shape} {i} {s} {t} c cs h = by h.goes
  where
    by : Goes shape s (c ∷ cs) t → Next shape i c cs s t
    by (next, inside_c, does, owes, goes) =
        let sits = sits-on next c h.sits h.within.0 inside_c does owes in
        record {
          next = next;
          does = does;
          calling = record {
            inside = h.inside;
            sits = sits;
            within = h.within.1;
            goes = goes;
          };
          grown = call-grown next c h.sits h.within.0 inside_c does owes;
          later = goes-went cs next t sits h.within.1 goes;
        }

-- somewhere among the calls
take-one : {shape : Shaped} {i from number : ℕ} {calls : List Call} {s t : System} (f : Plain)
    (fs : List Plain) → IsData f from number → from < shape.nodes → fs ≡ f ∷ []
    → TakesIn i fs calls → Calling shape i calls s t
    → number ≤ received_by (s.places i).handle from + 1
    → number ≤ received_by (t.places i).handle from
take-one f fs x there one (has_taken calls) h due = absurd cc
take-one {shape} {i} {from} {number} f fs x there one (takes g gs bytes a cs fits is rest) h due =
    let same : g ≡ f = cc in
    let k = next-of (On i (Take bytes (Ok a))) cs h in
    let now_is = took-data (record {
      sits = h.sits;
      inside = h.inside;
      bytes = bytes;
      answer = a;
      does = k.does;
      fits = fits;
      is = is;
    }) (subst (λ (z : Plain). IsData z from number) (sym same) x) there due in
    le_trans now_is (k.later.grown.got i from h.inside)
take-one {i = i} {from = from} f fs x there one (passes_by gs c cs rest) h due =
    let k = next-of c cs h in
    let grown = k.grown.got i from h.inside in
    take-one f gs x there one rest k.calling (omega (arith, grown, due))

pub ack-one : {shape : Shaped} {i by_node number k : ℕ} {calls : List Call} {s t : System}
    (f : Plain)
    (fs : List Plain) → IsAck f by_node number → by_node < shape.nodes → fs ≡ f ∷ []
    → TakesIn i fs calls → Calling shape i calls s t
    → (k ≤ number) × (k ≤ sent_by (s.places i).handle by_node)
    → k ≤ base_by (t.places i).handle by_node
ack-one f fs x there one (has_taken calls) h most = absurd cc
ack-one {shape} {i} {by_node} {number} {k} f fs x there one
    (takes g gs bytes a cs fits is rest) h most =
    let same : g ≡ f = cc in
    let n = next-of (On i (Take bytes (Ok a))) cs h in
    let now_is = took-ack (record {
      sits = h.sits;
      inside = h.inside;
      bytes = bytes;
      answer = a;
      does = n.does;
      fits = fits;
      is = is;
    }) k (subst (λ (z : Plain). IsAck z by_node number) (sym same) x) there most.0 most.1 in
    le_trans now_is (n.later.grown.bases i by_node)
ack-one {i = i} {by_node = by_node} f fs x there one (passes_by gs c cs rest) h most =
    let n = next-of c cs h in
    let grown = n.grown.sent i by_node h.inside in
    ack-one f gs x there one rest n.calling
    (most.0, (let sent = most.1 in omega (arith, grown, sent)))

-- the frame in a place of a window
frame-at : (n : NodeView) (to place : ℕ) → is_other n.local to ≡ true → place < WINDOW
    → (link_to n to).base + place < (link_to n to).kept
    → place < length (link_to n to).unacknowledged
    → released_frame n to place
    ≡ Some (frame_of n.local.own to ((link_to n to).base + 1 + place)
    (get_or (link_to n to).unacknowledged place no_message))
frame-at n to place other early kept there =
    let l : Link = link_to n to in
    cond-true (is_other n.local to) _ None other
    ∙ ap (option_map (frame_of n.local.own to (l.base + 1 + place)))
    (cond-true (ltb place WINDOW && ltb (l.base + place) l.kept)
    (slice_get l.unacknowledged place) None
    (and_from _ _ (lt-ltb place WINDOW early) (lt-ltb (l.base + place) l.kept kept))
    ∙ slice_get-get_or l.unacknowledged place no_message there)

-- the calls in which the first of the frames are taken, and then the others
pub record Parts (shape : Shaped) (i : ℕ) (xs ys : List Plain) (s t : System) : Type 0 where
  pub middle : System
  pub first : List Call
  pub then : List Call
  pub takes_first : TakesIn i xs first
  pub takes_then : TakesIn i ys then
  pub calls_first : Calling shape i first s middle
  pub calls_then : Calling shape i then middle t
  pub grown_first : Grown shape s middle
  pub grown_then : Grown shape middle t

pub parts-of : {shape : Shaped} {i : ℕ} {calls : List Call} {s t : System} (xs ys : List Plain)
    → TakesIn i (xs ++ ys) calls → Calling shape i calls s t → Parts shape i xs ys s t
parts-of {shape} {i} {calls} {s} {t} xs ys all h =
    let split = takes-split xs ys (xs ++ ys) calls refl all in
    let both = within-split split.first split.then
    (subst (AllByRecursion IsWithin) split.is h.within) in
    let parts = goes-split shape split.first split.then s t
    (subst (λ (z : List Call). Goes shape s z t) split.is h.goes) in
    let first = goes-went split.first s parts.0 h.sits both.0 parts.1 in
    let then = goes-went split.then parts.0 t first.sits both.1 parts.2 in
    record {
      middle = parts.0;
      first = split.first;
      then = split.then;
      takes_first = split.takes_first;
      takes_then = split.takes_then;
      calls_first = record {
        inside = h.inside;
        sits = h.sits;
        within = both.0;
        goes = parts.1;
      };
      calls_then = record {
        inside = h.inside;
        sits = first.sits;
        within = both.1;
        goes = parts.2;
      };
      grown_first = first.grown;
      grown_then = then.grown;
    }

-- a window of a node for another one
pub record Window (shape : Shaped) (from to : ℕ) (n : NodeView) : Type 0 where
  pub there : from < shape.nodes
  pub own : n.local.own ≡ from
  pub other : is_other n.local to ≡ true

-- a message is in this place of the window
pub record IsIn (n : NodeView) (to place : ℕ) : Type 0 where
  pub kept : (link_to n to).base + place < (link_to n to).kept
  pub long : place < length (link_to n to).unacknowledged

-- the frames in the first places of a window, in their order
pub windows-come : {shape : Shaped} {from to : ℕ} {n : NodeView} → Window shape from to n
    → (count : ℕ) → count ≤ WINDOW → {calls : List Call} {s t : System}
    → TakesIn to (window_of n to count) calls → Calling shape to calls s t
    → (link_to n to).base ≤ received_by (s.places to).handle from → (place : ℕ)
    → (place < count) × IsIn n to place
    → (link_to n to).base + 1 + place ≤ received_by (t.places to).handle from
windows-come v zero most all h based place (below, at) = absurd (omega (arith, below))
windows-come {shape} {from} {to} {n} v (suc count) most {calls} {s} {t} all h based place
    (below, at) =
    let base : ℕ = (link_to n to).base in
    let p = parts-of (window_of n to count) (option_to_list (released_frame n to count)) all h in
    let grown = p.grown_then.got to from h.inside in
    let kept = at.kept in
    let long = at.long in
    ⊎_elim {C = base + 1 + place ≤ received_by (t.places to).handle from}
    (λ (last : place ≡ count).
    let kept_here : base + count < (link_to n to).kept = omega (arith, kept, last) in
    let long_here : count < length (link_to n to).unacknowledged = omega (arith, long, last) in
    let x : Message = get_or (link_to n to).unacknowledged count no_message in
    let is = frame-at n to count v.other (omega (arith, most)) kept_here long_here in
    let heard = p.grown_first.got to from h.inside in
    let due : base + 1 + count ≤ received_by (p.middle.places to).handle from + 1 =
    ⊎_elim {C = base + 1 + count ≤ received_by (p.middle.places to).handle from + 1}
    (λ (none : count ≡ 0). omega (arith, based, heard, none))
    (λ (some : count ≢ 0).
    let before = windows-come v count (omega (arith, most)) p.takes_first p.calls_first based
    (count - 1) (
      omega (arith, some),
      record { kept = omega (arith, kept_here); long = omega (arith, long_here) },
    ) in
    omega (arith, before, some))
    (cases_eq count 0) in
    let done = take-one (frame_of n.local.own to (base + 1 + count) x)
    (option_to_list (released_frame n to count))
    (record {
      to = to;
      stamp = x.stamp;
      body = x.body;
      is = ap (λ (k : ℕ). frame_of k to (base + 1 + count) x) v.own;
    })
    v.there (ap option_to_list is) p.takes_then p.calls_then due in
    omega (arith, done, last))
    (λ (earlier : place ≢ count).
    let before = windows-come v count (omega (arith, most)) p.takes_first p.calls_first based place
    (omega (arith, below, earlier), at) in
    omega (arith, before, grown))
    (cases_eq place count)
