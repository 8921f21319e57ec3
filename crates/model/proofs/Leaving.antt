-- What no event changes: the node's number and the shape of its space, and on the node as the code
-- keeps it what `Leaves` names. The numbers received change only when a message is received. All is
-- proved once, from the effect of the event.
use Rattle.std.proofs.Common.{◌≡◌, ℕ, ◌+◌, ◌<◌, ◌≤◌, Bool, true, List, [], ◌∷◌, ◌++◌, map, get_or, set, Option, Some, None, Result, Ok, Err, refl, ap, sym, ◌∙◌, arith}
use Rattle.std.proofs.lemmas.Bool.{cond_both, leb-true, leb-false, ltb-true, ltb-false}
use Rattle.ids.specs.declared.limits.TheConstants.{WINDOW}
use Rattle.ids.specs.declared.refusal.Refusal.{Refusal}
use Rattle.ids.specs.declared.refusal.Refusal.TheVariants.{LinkSpent}
use Rattle.msg.specs.declared.body.Body.{Body}
use Rattle.msg.specs.declared.body.Message.{Message}
use Rattle.msg.specs.declared.frame.Ack.{Ack}
use Rattle.msg.specs.declared.frame.Data.{Data}
use Rattle.model.specs.declared.event.Event.{Event}
use Rattle.model.specs.declared.event.Event.TheVariants as event
use Rattle.model.specs.declared.event.Answer.{Answer}
use Rattle.model.specs.declared.event.Answer.TheVariants as answer
use Rattle.model.specs.Checks.{AllPass}
use Rattle.model.specs.State.{LocalState, got_from}
use Rattle.model.specs.Effects.{Effect, unchanged}
use Rattle.model.specs.Counting.{append, announce}
use Rattle.model.specs.Shading.{enter, see_to}
use Rattle.model.specs.Steps.{is_own, tests, made, fits, ack_of, is_addressed, is_shading, is_repeat, is_early, receipt, taken_in, settled, count_in}
use Rattle.model.specs.View.{Link, NodeView, Performed, Leaves, no_link, used, appended, append_to, ack_tests, let_go, view_act, base_of, kept_of}
use Rattle.model.proofs.Checks.{guarded-ok, guarded-passes, passed-parts}
use Rattle.model.proofs.Lookups.{map-set_same}
use Rattle.model.proofs.Shown.{view-ok}
use Rattle.model.proofs.Walk.{Walks, own-walks, taken-walks}

-- the same shape, node number and numbers received
pub record Stands (p q : LocalState) : Type 0 where
  pub shape : q.shape ≡ p.shape
  pub own : q.own ≡ p.own
  pub got : q.got ≡ p.got

pub stands-through : {p q r : LocalState} → Stands p q → Stands q r → Stands p r
stands-through f g =
    record { shape = g.shape ∙ f.shape; own = g.own ∙ f.own; got = g.got ∙ f.got }

-- the node, with a message counted as received
abbrev pub counted_in : LocalState → ℕ → ℕ → LocalState
counted_in p from number = record p { got = set p.got from number }

-- the numbers received after an event: a received message is the last one from its sender
abbrev pub got_after : List ℕ → Event → Result Answer Refusal → List ℕ
got_after got (event.Data d) (Ok answer.Received) = set got d.from d.number
got_after got e r = got

stays : {p q : LocalState} → q.shape ≡ p.shape → q.own ≡ p.own → q.got ≡ p.got → Stands p q
stays shape own got = record { shape = shape; own = own; got = got }

pub stands-walks : Walks (λ _. Unit {0}) (λ p w. Stands p w.local)
unfolding see_to enter append announce
stands-walks = record {
  moves = record {
    collects = record {
      rest = λ p. stays refl refl refl;
      both = λ p w f first second. stands-through first second;
      sees = λ due rs p. stays refl refl refl;
      enters = λ p cycle later. stays refl refl refl;
      rings = λ p r. stays refl refl refl;
      ends = λ p. stays refl refl refl;
      hears = λ p reports. stays refl refl refl;
      scans = λ p. stays refl refl refl;
      sends = λ to b p quiet. stays refl refl refl;
      tells = λ b p quiet. stays refl refl refl;
    };
    roots = λ p registers letters. stays refl refl refl;
    rewrites = λ p r f quiet. stays refl refl refl;
    places = λ p r place v. stays refl refl refl;
    makes = λ p register places ready. stays refl refl refl;
    gives = λ to b p carries. stays refl refl refl;
  };
  frees = record {
    sweeps = λ p count. stays refl refl refl;
    reclaims = λ p scope. stays refl refl refl;
  };
}

pub own-stands : (p : LocalState) (counts : List ℕ) (e : Event) → is_own e ≡ true
    → Stands p (made p counts e).local
own-stands p counts e own = own-walks stands-walks p counts e own tt

pub taken-stands : (p : LocalState) (from number stamp : ℕ) (b : Body)
    → Stands (counted_in p from number) (taken_in p from number stamp b).local
unfolding taken_in settled count_in
taken-stands p from number stamp b =
    let before = taken-walks stands-walks p from stamp b in
    record {
      shape = before.shape;
      own = before.own;
      got = ap (λ (z : List ℕ). set z from number) before.got;
    }

abbrev StandsTaken : LocalState → Data → Effect → Type 0
StandsTaken p d x =
    Stands (record p { got = got_after p.got (event.Data d) (Ok x.answer) }) x.local

made-stands : (p : LocalState) (counts : List ℕ) (e : Event)
    → Stands (record p { got = got_after p.got e (Ok (made p counts e).answer) })
    (made p counts e).local
unfolding taken_in
made-stands p counts (event.Data d) =
    cond_both (is_repeat p d.from d.number) (unchanged p answer.Repeat) _
    (StandsTaken p d)
    (λ _. record { shape = refl; own = refl; got = refl })
    (λ _.
    cond_both (is_early p d.from d.number) (unchanged p answer.Early)
    (taken_in p d.from d.number d.stamp d.body)
    (StandsTaken p d)
    (λ _. record { shape = refl; own = refl; got = refl })
    (λ _. taken-stands p d.from d.number d.stamp d.body))
made-stands p counts (event.Ack a) = record { shape = refl; own = refl; got = refl }
made-stands p counts e = own-stands p counts e refl

-- what appending a message doesn't change
appended-keeps : (f : Link → ℕ) → ((l : Link) (x : Message) → f (appended l x) ≡ f l)
    → (links : List Link) (ms : List (ℕ × Message)) → map f (append_to links ms) ≡ map f links
appended-keeps f same links [] = refl
appended-keeps f same links (m ∷ ms) =
    appended-keeps f same (set links m.0 (appended (get_or links m.0 no_link) m.1)) ms
    ∙ map-set_same f links m.0 _ no_link (same _ m.1)

let_go-kept : (links : List Link) (o : Option Ack)
    → map kept_of (let_go links o) ≡ map kept_of links
let_go-kept links None = refl
let_go-kept links (Some a) = map-set_same kept_of links a.by _ no_link refl

let_go-none : (links : List Link) (o : Option Ack) → o ≡ None → let_go links o ≡ links
let_go-none links o none = ap (let_go links) none

-- an answered event: every test passed, and the node and the answer are those of the effect
record Answered (n new : NodeView) (e : Event) (a : Answer) : Type 0 where
  passed : AllPass (tests n.local e)
  now : new ≡ record n {
    local = (made n.local (map used n.links) e).local;
    links = append_to (let_go n.links (ack_of e)) (made n.local (map used n.links) e).sends;
  }
  answer : a ≡ (made n.local (map used n.links) e).answer

answered : (n new : NodeView) (e : Event) (a : Answer) → view_act n e ≡ Ok (new, a)
    → Answered n new e a
unfolding view_act
answered n new e a h =
    let x : Effect = made n.local (map used n.links) e in
    let links : List Link = let_go n.links (ack_of e) in
    let heard : List (Bool × Refusal) = tests n.local e ++ ack_tests n (ack_of e) in
    let last : List (Bool × Refusal) = (fits (map used n.links) x.sends, LinkSpent) ∷ [] in
    let found = view-ok n new links _ a h in
    let same : x ≡ found.0 = guarded-ok (heard ++ last) x found.0 found.1 in
    let parts = passed-parts heard last (guarded-passes (heard ++ last) x found.0 found.1) in
    record {
      passed = (passed-parts (tests n.local e) (ack_tests n (ack_of e)) parts.0).0;
      now = found.2
          ∙ ap (λ (z : Effect). record n { local = z.local; links = append_to links z.sends })
          (sym same);
      answer = found.3 ∙ ap (λ (z : Effect). z.answer) (sym same);
    }

-- a call for an event leaves what every event leaves
pub act-leaves : (n new : NodeView) (e : Event) (r : Result Answer Refusal)
    → Performed (is_shading e) r n new (view_act n e) → Leaves n new e
unfolding view_act
act-leaves n new e (Err f) p =
    let same : new ≡ n = p.unchanged in
    record {
      shape = ap (λ (v : NodeView). v.local.shape) same;
      own = ap (λ (v : NodeView). v.local.own) same;
      acks = ap (λ (v : NodeView). v.acks) same;
      kept = ap (λ (v : NodeView). map kept_of v.links) same;
      bases = λ none. ap (λ (v : NodeView). map base_of v.links) same;
    }
act-leaves n new e (Ok a) p =
    let x : Effect = made n.local (map used n.links) e in
    let now = (answered n new e a p.performs).now in
    let stands = made-stands n.local (map used n.links) e in
    record {
      shape = ap (λ (v : NodeView). v.local.shape) now ∙ stands.shape;
      own = ap (λ (v : NodeView). v.local.own) now ∙ stands.own;
      acks = ap (λ (v : NodeView). v.acks) now;
      kept = ap (λ (v : NodeView). map kept_of v.links) now
          ∙ appended-keeps kept_of (λ l m. refl) (let_go n.links (ack_of e)) x.sends
          ∙ let_go-kept n.links (ack_of e);
      bases = λ none.
          ap (λ (v : NodeView). map base_of v.links) now
          ∙ appended-keeps base_of (λ l m. refl) (let_go n.links (ack_of e)) x.sends
          ∙ ap (map base_of) (let_go-none n.links (ack_of e) none);
    }

got-refused : (got : List ℕ) (e : Event) (f : Refusal) → got_after got e (Err f) ≡ got
got-refused got (event.Data d) f = refl
got-refused got e f = refl

-- the numbers received after a call for an event
pub act-got : (n new : NodeView) (e : Event) (r : Result Answer Refusal)
    → Performed (is_shading e) r n new (view_act n e)
    → new.local.got ≡ got_after n.local.got e r
act-got n new e (Err f) p =
    ap (λ (v : NodeView). v.local.got) p.unchanged ∙ sym (got-refused n.local.got e f)
act-got n new e (Ok a) p =
    let h = answered n new e a p.performs in
    ap (λ (v : NodeView). v.local.got) h.now ∙ (made-stands n.local (map used n.links) e).got
    ∙ ap (λ (z : Answer). got_after n.local.got e (Ok z)) (sym h.answer)

-- An answered message is a repeat; or it is ahead of its turn, but within the window; or its turn
-- has come.
pub data Turned (p : LocalState) (d : Data) (a : Answer) : Type 0 where
  again : d.number ≤ got_from p d.from → a ≡ answer.Repeat → Turned p d a
  ahead : got_from p d.from + 1 < d.number → d.number ≤ got_from p d.from + WINDOW
      → a ≡ answer.Early
      → Turned p d a
  due : d.number ≡ got_from p d.from + 1 → a ≡ answer.Received → Turned p d a

turned-cases : (p : LocalState) (d : Data) (a : Answer) → d.number ≤ got_from p d.from + WINDOW
    → a ≡ (receipt p d.from d.number d.stamp d.body).answer → Turned p d a
unfolding taken_in
turned-cases p d a within =
    cond_both (is_repeat p d.from d.number) (unchanged p answer.Repeat) _
    (λ (x : Effect). a ≡ x.answer → Turned p d a)
    (λ old says. again (leb-true d.number _ old) says)
    (λ first.
    cond_both (is_early p d.from d.number) (unchanged p answer.Early)
    (taken_in p d.from d.number d.stamp d.body)
    (λ (x : Effect). a ≡ x.answer → Turned p d a)
    (λ early says. ahead (ltb-true _ _ early) within says)
    (λ turn says.
    due
    (let later : got_from p d.from < d.number = leb-false d.number _ first in
    let next : d.number ≤ got_from p d.from + 1 = ltb-false _ d.number turn in
    omega (arith, later, next))
    says))

-- an answered message is addressed to the node
pub data-turned : (n new : NodeView) (d : Data) (a : Answer)
    → view_act n (event.Data d) ≡ Ok (new, a)
    → (is_addressed n.local d.from d.to ≡ true) × Turned n.local d a
data-turned n new d a h =
    let found = answered n new (event.Data d) a h in
    (found.passed.0, turned-cases n.local d a (leb-true _ _ found.passed.1.0) found.answer)
