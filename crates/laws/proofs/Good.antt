-- What is good in one node: in its heap, among what it asked for, and in what it sends. Shading,
-- vouching and joining keep it so.
use Rattle.std.proofs.Common.{◌≡◌, ℕ, ◌≤◌, true, List, [], ◌++◌, sym, ap, subst, ⊎_elim, arith, Bool, cond}
use Rattle.std.proofs.lemmas.Bool.{cond_both}
use Rattle.ids.specs.declared.names.Ref.{Ref}
use Rattle.msg.specs.declared.body.Body.{Body}
use Rattle.msg.specs.declared.body.Body.TheVariants as body
use Rattle.msg.specs.declared.body.Message.{Message}
use Rattle.model.specs.State.{Heap, Ring, LocalState}
use Rattle.model.specs.Counting.{is_idle, append, announce, stamped}
use Rattle.model.specs.Shading.{is_in, is_open, filled, roots, enter, join, make_all_grey, unasked, mark_for, seen, see_to}
use Rattle.model.specs.Heaps.{share_all}
use Rattle.model.specs.Steps.{carried, share, post}
use Rattle.model.specs.Cuts.{Among}
use Rattle.laws.proofs.Lookups.{among-append}
use Rattle.laws.proofs.Meets.{in-append, unasked-from, marks-from}
use Rattle.laws.proofs.Dressing.{roots-all}
use Rattle.laws.proofs.Light.{idle-carries}
use Rattle.laws.proofs.PhaseSteps.{others-are}
use Rattle.laws.proofs.GoodHeaps.{GoodHeap, heap-shared, heap-greyed, heap-entered}

pub record GoodPart (G : Ref → Type 0) (since : ℕ) (p : LocalState) : Type 0 where
  pub heap : GoodHeap G since p.own p.phases.cycle p.phases.swept p.heap
  -- what the node asked for in the cycle `since` or a later one is good
  pub asked : since ≤ p.phases.cycle → (r : Ref) → is_in r p.asked ≡ true → G r
  pub phase : p.phases.swept ≤ p.phases.cycle

-- What a message carries is good. What it asks for is good if its cycle is `since` or a later one.
pub record GoodMessage (G : Ref → Type 0) (since : ℕ) (x : Message) : Type 0 where
  pub carries : (r : Ref) → Among r (carried x.body) → G r
  pub asks : (r : Ref) → x.body ≡ body.Mark r → since ≤ x.stamp → G r

-- what a step leaves is good, and so is what it sends
pub record GoodDone (G : Ref → Type 0) (since : ℕ) (p : LocalState) (ms : List (ℕ × Message))
    : Type 0 where
  pub part : GoodPart G since p
  pub sends : (to : ℕ) (x : Message) → Among (to, x) ms → GoodMessage G since x

pub done-quiet : {G : Ref → Type 0} {since : ℕ} {p : LocalState} → GoodPart G since p
    → GoodDone G since p []
done-quiet good = record { part = good; sends = λ to x never. absurd never }

pub done-through : {G : Ref → Type 0} {since : ℕ} {p q : LocalState} {ms ns : List (ℕ × Message)}
    → GoodDone G since p ms → GoodDone G since q ns → GoodDone G since q (ms ++ ns)
done-through {G = G} {since = since} {ms = ms} {ns = ns} a b = record {
  part = b.part;
  sends = λ to x among.
      ⊎_elim {C = GoodMessage G since x} (λ first. a.sends to x first) (λ then. b.sends to x then)
      (among-append (to, x) ms ns among);
}

-- ---- parts that change little

pub part-with : {G : Ref → Type 0} {since : ℕ} {p : LocalState} (h : Heap) → GoodPart G since p
    → GoodHeap G since p.own p.phases.cycle p.phases.swept h
    → GoodPart G since (record p { heap = h })
part-with h good heap = record { heap = heap; asked = good.asked; phase = good.phase }

pub part-ringed : {G : Ref → Type 0} {since : ℕ} {p : LocalState} (r : Ring) → GoodPart G since p
    → GoodPart G since (record p { ring = r })
part-ringed r good = record { heap = good.heap; asked = good.asked; phase = good.phase }

-- ---- messages

-- messages that neither carry references nor ask for a mark
pub idle-good : {G : Ref → Type 0} {since : ℕ} (x : Message) → is_idle x.body ≡ true
    → GoodMessage G since x
idle-good x idle = record {
  carries = λ r a. absurd (subst (Among r) (idle-carries x.body idle) a);
  asks = λ r e _. absurd (let marks : is_idle (body.Mark r) ≡ true =
      subst (λ (z : Body). is_idle z ≡ true) e idle in cc);
}

pub append-good : {G : Ref → Type 0} {since : ℕ} (to : ℕ) (b : Body) (p : LocalState)
    → GoodMessage G since (stamped p b) → GoodPart G since p
    → GoodDone G since (append to b p).local (append to b p).sends
unfolding append
append-good {G = G} {since = since} to b p message good = record {
  part = part-ringed _ good;
  sends = λ k x a.
      ⊎_elim {C = GoodMessage G since x}
      (λ (e : (k, x) ≡ (to, stamped p b)).
      subst (GoodMessage G since) (sym (ap (λ (z : ℕ × Message). z.1) e)) message)
      (λ never. absurd never) a;
}

-- it shares what it carries
pub post-good : {G : Ref → Type 0} {since : ℕ} (to : ℕ) (b : Body) (p : LocalState)
    → GoodMessage G since (stamped p b) → GoodPart G since p
    → GoodDone G since (post to b p).local (post to b p).sends
post-good to b p message good =
    append-good to b (share (carried b) p).local message
    (part-with (share_all p.own p.heap (carried b)) good
    (heap-shared p.own (carried b) good.heap))

pub announce-good : {G : Ref → Type 0} {since : ℕ} (b : Body) (p : LocalState) → is_idle b ≡ true
    → GoodPart G since p → GoodDone G since (announce b p).local (announce b p).sends
unfolding announce
announce-good {G = G} {since = since} b p idle good = record {
  part = good;
  sends = λ to x a.
      subst (GoodMessage G since) (sym (others-are p b p.shape.nodes to x a).0)
      (idle-good (stamped p b) idle);
}

-- ---- shading, vouching, joining

-- the heap afterwards, and what was asked for
met-good : {G : Ref → Type 0} {since : ℕ} (p : LocalState) (rs : List Ref) (r : Ring)
    → GoodPart G since p → (since ≤ p.phases.cycle → (r : Ref) → Among r rs → G r)
    → GoodPart G since (record p {
      heap = make_all_grey p.own p.phases.cycle p.heap rs;
      asked = p.asked ++ unasked p.own p.asked rs;
      ring = r;
    })
met-good {G = G} p rs ring good brought = record {
  heap = heap-greyed rs good.phase brought good.heap;
  asked = λ there r known.
      ⊎_elim {C = G r} (λ before. good.asked there r before)
      (λ new. brought there r (unasked-from p.own p.asked rs r new).0)
      (in-append r p.asked (unasked p.own p.asked rs) known);
  phase = good.phase;
}

-- the node sees to references that are good if it has reached the cycle `since`
pub see-good : {G : Ref → Type 0} {since : ℕ} (due : Bool) (rs : List Ref) (p : LocalState)
    → GoodPart G since p → (since ≤ p.phases.cycle → (r : Ref) → Among r rs → G r)
    → GoodDone G since (see_to due rs p).local (see_to due rs p).sends
unfolding see_to
see-good {G = G} {since = since} due rs p good brought =
    let met : List Ref = cond (is_open p) rs [] in
    let new : List Ref = unasked p.own p.asked met in
    let all : since ≤ p.phases.cycle → (r : Ref) → Among r met → G r =
    λ there r.
    cond_both (is_open p) rs [] (λ z. Among r z → G r) (λ _. brought there r)
    (λ _ never. absurd never) in
    record {
      part = met-good p met (seen due met p).local.ring good all;
      sends = λ to x a. marks met all to x (marks-from p.phases.cycle (cond due new []) to x a);
    }
  where
    marks : (met : List Ref) → (since ≤ p.phases.cycle → (r : Ref) → Among r met → G r)
        → (to : ℕ) (x : Message)
        → (r : Ref) × Among r (cond due (unasked p.own p.asked met) [])
        × ((to, x) ≡ mark_for p.phases.cycle r)
        → GoodMessage G since x
    marks met all to x found =
        subst (GoodMessage G since) (sym (ap (λ (z : ℕ × Message). z.1) found.2))
        (record {
          carries = λ r never. absurd never;
          asks = λ r e there.
              (let same : found.0 ≡ r = cc in
              let new : Among found.0 (unasked p.own p.asked met) =
              cond_both due (unasked p.own p.asked met) []
              (λ z. Among found.0 z → Among found.0 (unasked p.own p.asked met))
              (λ _ a. a) (λ _ never. absurd never) found.1 in
              subst G same (all there found.0 (unasked-from p.own p.asked met found.0 new).0));
        })

-- the node moves to a later cycle while no object is grey
pub join-good : {G : Ref → Type 0} {since : ℕ} (p : LocalState) (cycle : ℕ) → p.heap.grey ≡ []
    → p.phases.cycle ≤ cycle → GoodPart G since p
    → GoodDone G since (join p cycle).local (join p cycle).sends
unfolding join enter
join-good {G = G} p cycle calm more good =
    see-good true (filled (roots p.heap)) (enter p cycle)
    (record {
      heap = heap-entered cycle calm good.heap;
      asked = λ _ r never. absurd cc;
      phase = (let w = good.phase in omega (arith, w, more));
    })
    (λ _. roots-all G p.heap good.heap.roots)
