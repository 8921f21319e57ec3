-- What the steps of a node cost: the work that they add, and the messages that they send.
use Rattle.std.proofs.Common.{◌≡◌, ◌≢◌, ℕ, zero, suc, ◌+◌, ◌*◌, ◌<◌, ◌≤◌, ◌==◌, ◌||◌, ◌⊎◌, ltb, ltb-true, Bool, true, false, cond, List, [], ◌∷◌, ◌++◌, length, map, Option, None, Some, option_to_list, refl, sym, ap, ◌∙◌, subst, ⊎_elim, arith, length-append, eq-eqb, ◌-◌, get_or, take}
use Rattle.std.specs.Prelude.{filter}
use Rattle.std.specs.List.{sum_by}
use Rattle.std.proofs.lemmas.Bool.{cases_Bool, cond_both, cond-true, cond-false, ltb-false, ne_eqb, or_left, eqb-false}
use Rattle.std.proofs.lemmas.List.{length-map, take_all}
use Rattle.ids.specs.declared.names.Ref.{Ref}
use Rattle.msg.specs.declared.body.Body.{Body}
use Rattle.msg.specs.declared.body.Token.{Token}
use Rattle.msg.specs.declared.body.Message.{Message}
use Rattle.model.specs.declared.event.Letter.{Letter}
use Rattle.model.specs.State.{Phases, LocalState, Slot, Free, Retired, Heap, slot_at}
use Rattle.model.specs.Heaps.{object_at, place_of, simple_letter, letters_of, more_letters, with_letters, fetched}
use Rattle.model.specs.Effects.{Work, at_rest, then}
use Rattle.model.specs.Counting.{append, stamped, to_others}
use Rattle.model.specs.Shading.{is_in, is_open, make_all_grey, seen, see_to, filled, reference_of, roots, unasked, marks_for, enter, join, is_calm, last_grey, without_last_grey}
use Rattle.model.specs.References.{IfAny}
use Rattle.model.specs.Steps.{carried, target_of, count_in, take_carried, take_body, settled, taken_in, post}
use Rattle.model.proofs.Shading.{see_to-open, see_to-closed}
use Rattle.model.proofs.Joining.{join-phases}
use Rattle.model.proofs.Walk.{join-walks}
use Rattle.model.proofs.Leaving.{stands-walks}
use Rattle.laws.proofs.Flights.{load_sent}
use Rattle.laws.specs.Bounds.{cost_of, weight, heap_work, root_work, held_work, node_work, whole_node_work, scan_work, slot_work, grey_work}
use Rattle.laws.proofs.progress.HeapWork.{SameWork, shared-same, grey-all, placed-same, aged-same}
use Rattle.std.proofs.lemmas.List.Sums.{sum_by-cons, sum_by_more}
use Rattle.model.specs.Collecting.{places_in, scan, scanned, is_garbage, vacated_slot, sweeping, looked_at, after_sweep}
use Rattle.model.specs.declared.age.Scope.{Scope}
use Rattle.model.specs.Reclaiming.{is_occupied, reclaiming, left_grey, freed_within, reclaimed}
use Rattle.model.proofs.Freeing.{Freed, garbage-test, occupied-object, freed-left, freed-some, freed-reclaiming}
use Rattle.msg.specs.declared.body.Body.TheVariants as body

-- ---- messages

-- what messages weigh, and how many they are
abbrev pub cost_sent : List (ℕ × Message) → ℕ
cost_sent ms = load_sent weight ms + length ms

pub load-append : (w : Message → ℕ) (xs ys : List (ℕ × Message))
    → load_sent w (xs ++ ys) ≡ load_sent w xs + load_sent w ys
load-append w [] ys = omega arith
load-append w (x ∷ xs) ys = omega (arith, load-append w xs ys)

cost-append : (xs ys : List (ℕ × Message)) → cost_sent (xs ++ ys) ≡ cost_sent xs + cost_sent ys
cost-append xs ys = omega (arith, load-append weight xs ys, length-append xs ys)

load-ones : (ms : List (ℕ × Message)) → load_sent (λ _. 1) ms ≡ length ms
load-ones [] = refl
load-ones (x ∷ ms) = omega (arith, load-ones ms)

-- the same message for each other node
others-most : (w : Message → ℕ) (p : LocalState) (b : Body) (n : ℕ) → w (stamped p b) ≤ 1
    → load_sent w (to_others p b n) ≤ n
others-most w p b zero one = omega arith
others-most w p b (suc n) one =
    let before = others-most w p b n one in
    cond_both (n == p.own) [] ((n, stamped p b) ∷ [])
    (λ (z : List (ℕ × Message)). load_sent w (to_others p b n ++ z) ≤ suc n)
    (λ _. omega (arith, before, load-append w (to_others p b n) []))
    (λ _. omega (arith, before, load-append w (to_others p b n) ((n, stamped p b) ∷ []), one))

pub others-load : (p : LocalState) (b : Body) (n : ℕ) → cost_of b ≤ 1
    → load_sent weight (to_others p b n) ≤ n
others-load p b n one = others-most weight p b n one

pub others-few : (p : LocalState) (b : Body) (n : ℕ) → length (to_others p b n) ≤ n
others-few p b n =
    omega (arith, others-most (λ _. 1) p b n (omega arith), load-ones (to_others p b n))

pub cost-marks : (cycle : ℕ) (rs : List Ref) → cost_sent (marks_for cycle rs) ≡ 2 * length rs
cost-marks cycle [] = omega arith
cost-marks cycle (r ∷ rs) = omega (arith, cost-marks cycle rs)

pub unasked-few : (own : ℕ) (asked rs : List Ref) → length (unasked own asked rs) ≤ length rs
unasked-few own asked [] = omega arith
unasked-few own asked (r ∷ rs) =
    cond_both (r.node == own || is_in r asked)
    (unasked own asked rs) (r ∷ unasked own (asked ++ r ∷ []) rs)
    (λ z. length z ≤ length (r ∷ rs))
    (λ _. omega (arith, unasked-few own asked rs))
    (λ _. omega (arith, unasked-few own (asked ++ r ∷ []) rs))

pub filled-few : (os : List (Option Ref)) → length (filled os) ≤ length os
filled-few [] = omega arith
filled-few (None ∷ os) = omega (arith, filled-few os)
filled-few (Some r ∷ os) = omega (arith, filled-few os)

-- ---- steps

-- A step adds at most this much to the work that is left, with what it sends; and at most this much
-- to what the next cycle may have to do.
pub record Pays (cycle more held : ℕ) (p : LocalState) (w : Work) : Type 0 where
  pub work : node_work cycle w.local + cost_sent w.sends ≤ node_work cycle p + more
  pub kept : whole_node_work w.local ≤ whole_node_work p + held

pub pays-then : {cycle a b k l : ℕ} {p : LocalState} {w : Work} (f : LocalState → Work)
    → Pays cycle a k p w → Pays cycle b l w.local (f w.local)
    → Pays cycle (a + b) (k + l) p (then w f)
pays-then {w = w} f first later = record {
  work = omega (arith, first.work, later.work, cost-append w.sends (f w.local).sends);
  kept = omega (arith, first.kept, later.kept);
}

pub pays-most : {cycle a k : ℕ} {p : LocalState} {w : Work} (b l : ℕ) → a ≤ b → k ≤ l
    → Pays cycle a k p w → Pays cycle b l p w
pays-most b l ab kl h = record {
  work = omega (arith, h.work, ab);
  kept = omega (arith, h.kept, kl);
}

pub pays-rest : (cycle : ℕ) (p : LocalState) → Pays cycle 0 0 p (at_rest p)
pays-rest cycle p = record { work = omega arith; kept = omega arith }

-- a heap with the same work, in a node of the same cycle
same-node : (cycle : ℕ) (p q : LocalState) → q.phases.cycle ≡ p.phases.cycle
    → SameWork cycle p.heap q.heap → node_work cycle q ≡ node_work cycle p
same-node cycle p q same s =
    let left : cond (q.phases.cycle == cycle) 0 (1 + root_work q.heap)
    ≡ cond (p.phases.cycle == cycle) 0 (1 + root_work p.heap) =
    ap (λ (z : ℕ). cond (z == cycle) 0 (1 + root_work q.heap)) same
    ∙ ap (λ (z : ℕ). cond (p.phases.cycle == cycle) 0 (1 + z)) s.roots in
    omega (arith, left, s.work)

pub pays-same : (cycle more : ℕ) (p : LocalState) (w : Work) → w.local.phases.cycle ≡ p.phases.cycle
    → SameWork cycle p.heap w.local.heap → cost_sent w.sends ≤ more → Pays cycle more 0 p w
pays-same cycle more p w same s few = record {
  work = omega (arith, same-node cycle p w.local same s, few);
  kept = omega (arith, s.roots, s.held);
}

-- ---- shading and vouching

-- a node that marks is in the cycle
abbrev pub IsTimed : ℕ → LocalState → Type 0
IsTimed cycle p = is_open p ≡ true → p.phases.cycle ≡ cycle

pub sees-pays : (cycle : ℕ) (due : Bool) (rs : List Ref) (p : LocalState) → IsTimed cycle p
    → Pays cycle (2 * length (unasked p.own p.asked rs)) 0 p (see_to due rs p)
sees-pays cycle due rs p timed =
    let news : List Ref = unasked p.own p.asked rs in
    let most : ℕ = 2 * length news in
    ⊎_elim {C = Pays cycle most 0 p (see_to due rs p)}
    (λ opened.
    subst (Pays cycle most 0 p) (sym (see_to-open due rs p opened))
    (pays-same cycle most p (seen due rs p) refl
    (subst (λ (z : ℕ). SameWork cycle p.heap (make_all_grey p.own z p.heap rs))
    (sym (timed opened)) (grey-all p.own cycle p.heap rs))
    (cond_both due news [] (λ (z : List Ref). cost_sent (marks_for p.phases.cycle z) ≤ most)
    (λ _. omega (arith, cost-marks p.phases.cycle news)) (λ _. omega arith))))
    (λ shut.
    subst (Pays cycle most 0 p) (sym (see_to-closed due rs p shut))
    (pays-most most 0 (omega arith) (omega arith) (pays-rest cycle p)))
    (cases_Bool (is_open p))

pub sees-most : (cycle : ℕ) (due : Bool) (rs : List Ref) (p : LocalState) → IsTimed cycle p
    → Pays cycle (2 * length rs) 0 p (see_to due rs p)
sees-most cycle due rs p timed =
    pays-most (2 * length rs) 0 (omega (arith, unasked-few p.own p.asked rs))
    (omega arith) (sees-pays cycle due rs p timed)

-- ---- joining

-- a node that joins the cycle sends at most a Mark for each register and each letter
pub join-pays : (cycle : ℕ) (p : LocalState) → p.phases.cycle ≢ cycle
    → (node_work cycle (join p cycle).local + cost_sent (join p cycle).sends + 1
    ≤ node_work cycle p)
    × (whole_node_work (join p cycle).local ≤ whole_node_work p)
unfolding join enter
join-pays cycle p apart =
    let q : LocalState = enter p cycle in
    let rs : List Ref = filled (roots p.heap) in
    let pays = sees-most cycle true rs q (λ _. refl) in
    let few : length rs ≤ length p.heap.registers + length p.heap.letters =
    (let b = length-append p.heap.registers (map reference_of p.heap.letters) in
    omega (arith, filled-few (roots p.heap), b, length-map p.heap.letters reference_of)) in
    let before : node_work cycle p ≡ 1 + root_work p.heap + heap_work cycle p.heap =
    ap (λ (z : ℕ). z + heap_work cycle p.heap)
    (cond-false (p.phases.cycle == cycle) 0 (1 + root_work p.heap) (ne_eqb _ _ apart)) in
    let after : node_work cycle q ≡ 0 + heap_work cycle p.heap =
    ap (λ (z : ℕ). z + heap_work cycle p.heap)
    (cond-true (cycle == cycle) 0 (1 + root_work p.heap) (eq-eqb cycle cycle refl)) in (
      (omega (arith, pays.work, few, before, after)),
      (omega (arith, pays.kept)),
    )

-- ---- a message

-- what following the body costs, and what the next cycle may have to do for it
abbrev body_cost : Body → ℕ
body_cost (body.Give label reference) = 2
body_cost (body.Get target place label) = 10
body_cost (body.Post label references bytes) = 2 * length (letters_of 0 label references bytes)
body_cost (body.Fetch target label offset count) = 8
body_cost b = 0

abbrev body_kept : Body → ℕ
body_kept (body.Give label reference) = 2
body_kept (body.Post label references bytes) = 2 * length (letters_of 0 label references bytes)
body_kept b = 0

abbrev pub is_token : Body → Bool
is_token (body.Token token) = true
is_token b = false

pub token-there : (b : Body) → is_token b ≡ true → (t : Token) × (b ≡ body.Token t)
token-there (body.Token t) h = (t, refl)
token-there b h = absurd cc

option-few : (v : Option Ref) → length (option_to_list v) ≤ 1
option-few None = omega arith
option-few (Some r) = omega arith

-- how many letters wait for one message, whoever sent it
more-count : (from label : ℕ) (rs : List (Option Ref))
    → length (more_letters from label rs) ≡ length rs
more-count from label [] = refl
more-count from label (r ∷ rs) = ap suc (more-count from label rs)

letters-count : (from label : ℕ) (rs : List (Option Ref)) (bytes : List ℕ)
    → length (letters_of from label rs bytes) ≡ length (letters_of 0 label rs bytes)
letters-count from label [] bytes = refl
letters-count from label (r ∷ rs) bytes =
    ap suc (more-count from label rs ∙ sym (more-count 0 label rs))

letters-many : (label : ℕ) (rs : List (Option Ref)) (bytes : List ℕ)
    → length rs ≤ length (letters_of 0 label rs bytes)
letters-many label [] bytes = omega arith
letters-many label (r ∷ rs) bytes = omega (arith, more-count 0 label rs)

-- letters that come are roots
letters-pays : (cycle : ℕ) (p : LocalState) (ls : List Letter)
    → Pays cycle (2 * length ls) (2 * length ls) p
    (at_rest (record p { heap = with_letters p.heap ls }))
letters-pays cycle p ls =
    let longer : length (p.heap.letters ++ ls) ≡ length p.heap.letters + length ls =
    length-append p.heap.letters ls in
    record {
      work =
          cond_both (p.phases.cycle == cycle) 0 (1 + root_work p.heap)
          (λ z. cond (p.phases.cycle == cycle) 0
          (1 + 2 * (length p.heap.registers + length (p.heap.letters ++ ls)))
          + heap_work cycle p.heap + 0 ≤ z + heap_work cycle p.heap + 2 * length ls)
          (λ now.
          let e = cond-true (p.phases.cycle == cycle) 0
          (1 + 2 * (length p.heap.registers + length (p.heap.letters ++ ls))) now in
          omega (arith, e))
          (λ before.
          let e = cond-false (p.phases.cycle == cycle) 0
          (1 + 2 * (length p.heap.registers + length (p.heap.letters ++ ls))) before in
          omega (arith, e, longer));
      kept = omega (arith, longer);
    }

body-pays : (cycle from stamp : ℕ) (b : Body) (p : LocalState)
    → IfAny (λ (r : Ref). r.node ≡ p.own) (target_of b) → IsTimed cycle p
    → Pays cycle (body_cost b) (body_kept b) p (take_body from stamp b p)
unfolding take_body append
body-pays cycle from stamp (body.Mark target) p own timed =
    let none : unasked p.own p.asked (target ∷ []) ≡ [] =
    cond-true (target.node == p.own || is_in target p.asked) []
    (target ∷ unasked p.own (p.asked ++ target ∷ []) [])
    (or_left _ _ (eq-eqb target.node p.own own)) in
    let few : length (unasked p.own p.asked (target ∷ [])) ≡ 0 = ap length none in
    pays-most 0 0 (omega (arith, few)) (omega arith) (sees-pays cycle true (target ∷ []) p timed)
body-pays cycle from stamp (body.Give label reference) p own timed =
    letters-pays cycle p (simple_letter from label reference ∷ [])
body-pays cycle from stamp (body.Post label references bytes) p own timed =
    let ls : List Letter = letters_of from label references bytes in
    let count = letters-count from label references bytes in
    let most : ℕ = 2 * length (letters_of 0 label references bytes) in
    pays-most most most (omega (arith, count)) (omega (arith, count)) (letters-pays cycle p ls)
body-pays cycle from stamp (body.Fetch target label offset count) p own timed =
    let says : Body = body.Post label [] (fetched (object_at p.heap target) offset count) in
    pays-same cycle 8 p (post from says p) refl (shared-same cycle p.own [] p.heap) (omega arith)
body-pays cycle from stamp (body.Put target place reference) p own timed =
    pays-same cycle 0 p (take_body from stamp (body.Put target place reference) p) refl
    (placed-same cycle p.own p.heap target place reference) (omega arith)
body-pays cycle from stamp (body.Get target place label) p own timed =
    let v : Option Ref = place_of (object_at p.heap target) place in
    let first = sees-most cycle true (option_to_list v) p timed in
    let w : Work = see_to true (option_to_list v) p in
    let sends : Pays cycle 8 0 w.local (post from (body.Give label v) w.local) =
    pays-same cycle 8 w.local (post from (body.Give label v) w.local) refl
    (shared-same cycle w.local.own (option_to_list v) w.local.heap) (omega arith) in
    pays-most 10 0 (omega (arith, option-few v)) (omega arith)
    (pays-then (post from (body.Give label v)) first sends)
body-pays cycle from stamp b p own timed = record { work = omega arith; kept = omega arith }

abbrev settled_cost : Body → ℕ
settled_cost b = 2 * length (carried b) + body_cost b

settled-pays : (cycle from number stamp : ℕ) (b : Body) (p : LocalState)
    → IfAny (λ (r : Ref). r.node ≡ p.own) (target_of b) → IsTimed cycle p
    → Pays cycle (settled_cost b) (body_kept b) p (settled from number stamp b p)
unfolding settled count_in see_to
settled-pays cycle from number stamp b p own timed =
    let pays : Pays cycle (settled_cost b) (0 + body_kept b) p
    (then (take_carried stamp b p) (take_body from stamp b)) =
    pays-then (take_body from stamp b)
    (sees-most cycle (ltb stamp p.phases.cycle) (carried b) p timed)
    (body-pays cycle from stamp b (take_carried stamp b p).local own timed) in
    record { work = pays.work; kept = (omega (arith, pays.kept)) }

-- each message but the token pays for its receipt as well
paid : (b : Body) → settled_cost b + body_kept b + cond (is_token b) 0 1 ≤ cost_of b
paid (body.Give label reference) = omega (arith, option-few reference)
paid (body.Put target place reference) = omega (arith, option-few reference)
paid (body.Post label references bytes) =
    omega (arith, filled-few references, letters-many label references bytes)
paid b = omega arith

-- The receipt of a message costs less than the message weighed, if it isn't the token; or if the
-- node joins by it.
pub record Receives (cycle stamp : ℕ) (b : Body) (p : LocalState) : Type 0 where
  pub own : IfAny (λ (r : Ref). r.node ≡ p.own) (target_of b)
  pub timed : IsTimed cycle p
  pub ahead : p.phases.cycle < stamp → stamp ≡ cycle

pub record Spends (cycle : ℕ) (b : Body) (p q : LocalState) (ms : List (ℕ × Message)) : Type 0
  where
    pub work : node_work cycle q + cost_sent ms + 1 ≤ node_work cycle p + cost_of b
    pub both : node_work cycle q + whole_node_work q + cost_sent ms + 1
        ≤ node_work cycle p + whole_node_work p + cost_of b

joins-pays : (from number stamp : ℕ) (b : Body) (p : LocalState)
    → IfAny (λ (r : Ref). r.node ≡ p.own) (target_of b) → p.phases.cycle < stamp
    → Spends stamp b p (then (join p stamp) (settled from number stamp b)).local
    (then (join p stamp) (settled from number stamp b)).sends
joins-pays from number stamp b p own ahead =
    let w : Work = join p stamp in
    let first = join-pays stamp p (λ e. omega (arith, e, ahead)) in
    let later = settled-pays stamp from number stamp b w.local
    (subst (λ (z : ℕ). IfAny (λ (r : Ref). r.node ≡ z) (target_of b))
    (sym (join-walks stands-walks.moves.collects p stamp ahead).own) own)
    (λ _. ap (λ (z : Phases). z.cycle) (join-phases p stamp)) in
    let s = cost-append w.sends (settled from number stamp b w.local).sends in
    let c = paid b in
    record {
      work = omega (arith, s, c, first.0, later.work);
      both = omega (arith, s, c, first.0, first.1, later.work, later.kept);
    }

pub taken-pays : (cycle from number stamp : ℕ) (b : Body) (p : LocalState)
    → Receives cycle stamp b p → (is_token b ≡ false) ⊎ (p.phases.cycle < stamp)
    → Spends cycle b p (taken_in p from number stamp b).local (taken_in p from number stamp b).sends
unfolding taken_in
taken-pays cycle from number stamp b p h either =
    cond_both (ltb p.phases.cycle stamp) (join p stamp) (at_rest p)
    (λ w. Spends cycle b p (then w (settled from number stamp b)).local
    (then w (settled from number stamp b)).sends)
    (λ ahead.
    let a : p.phases.cycle < stamp = ltb-true _ _ ahead in
    subst (λ (z : ℕ). Spends z b p (then (join p stamp) (settled from number stamp b)).local
    (then (join p stamp) (settled from number stamp b)).sends) (h.ahead a)
    (joins-pays from number stamp b p h.own a))
    (λ here.
    let none : is_token b ≡ false = ⊎_elim {C = is_token b ≡ false} (λ e. e)
    (λ (a : p.phases.cycle < stamp).
    absurd (let l : stamp ≤ p.phases.cycle = ltb-false _ _ here in omega (arith, a, l))) either in
    let pays = settled-pays cycle from number stamp b p h.own h.timed in
    let c = paid b in
    let fee : ◌≡◌ {A = ℕ} (cond (is_token b) 0 1) 1 = ap (λ (z : Bool). cond z 0 1) none in
    let x = pays.work in
    record { work = omega (arith, c, fee, x); both = omega (arith, c, fee, x, pays.kept) })

-- ---- a scan

without-last : (f : ℕ → ℕ) (xs : List ℕ) → (length xs == 0) ≡ false
    → sum_by f xs ≡ sum_by f (take (length xs - 1) xs) + f (get_or xs (length xs - 1) 0)
without-last f xs some =
    let positive : length xs ≢ 0 = eqb-false (length xs) 0 some in
    let whole : take (length xs - 1 + 1) xs ≡ xs =
    ap (λ (k : ℕ). take k xs)
    (let e : length xs - 1 + 1 ≡ length xs = omega (arith, positive) in e)
    ∙ take_all (length xs) xs (omega arith) in
    ap (sum_by f) (sym whole) ∙ sum_by_more f xs (length xs - 1) 0 (omega (arith, positive))

pub scan-pays : (cycle : ℕ) (p : LocalState) → is_calm p.heap ≡ false → IsTimed cycle p
    → (node_work cycle (scanned p).local + cost_sent (scanned p).sends + 1 ≤ node_work cycle p)
    × (whole_node_work (scanned p).local ≤ whole_node_work p)
unfolding scanned scan
scan-pays cycle p grey timed =
    let q : LocalState = record p { heap = without_last_grey p.heap } in
    let places = places_in (slot_at p.heap (last_grey p.heap)) in
    let pays = sees-most cycle true (filled places) q timed in
    let last = without-last (grey_work p.heap) p.heap.grey grey in
    (omega (arith, pays.work, filled-few places, last), omega (arith, pays.kept))

-- ---- objects are freed

vacant : (f : Slot → ℕ) (g : ℕ) → ((k : ℕ) → f (Free k) ≡ 0) → f Retired ≡ 0
    → f (vacated_slot g) ≡ 0
vacant f g free retired = cond_both _ Retired (Free (g + 1)) (λ z. f z ≡ 0) (λ _. retired)
    (λ _. free (g + 1))

sum-less : (f : Slot → ℕ) (xs ys : List Slot) → length xs ≡ length ys
    → ((k : ℕ) → f (get_or xs k Retired) ≤ f (get_or ys k Retired)) → sum_by f xs ≤ sum_by f ys
sum-less f [] ys wide less = omega arith
sum-less f (x ∷ xs) [] wide less = absurd (omega (arith, wide))
sum-less f (x ∷ xs) (y ∷ ys) wide less =
    let rest = sum-less f xs ys (omega (arith, wide)) (λ k. less (suc k)) in
    omega (arith, sum_by-cons f x xs, sum_by-cons f y ys, less 0, rest)

-- a sum over the slots that counts only objects
freed-sum : {h g : Heap} (f : Slot → ℕ) → ((k : ℕ) → f (Free k) ≡ 0) → f Retired ≡ 0 → Freed h g
    → sum_by f g.slots ≤ sum_by f h.slots
freed-sum {h = h} {g = g} f free retired freed =
    sum-less f g.slots h.slots freed.width
    (λ k. ⊎_elim {C = f (slot_at g k) ≤ f (slot_at h k)}
    (λ same. omega (arith, ap f same))
    (λ v. omega (arith, ap f v.is, vacant f v.generation free retired))
    (freed.each k))

-- The work grows neither in the slots nor in the grey list.
freed-less : {g : Heap} (cycle : ℕ) (p : LocalState) (grey : List ℕ) → Freed p.heap g
    → sum_by (grey_work g) grey ≤ sum_by (grey_work p.heap) p.heap.grey
    → (node_work cycle (record p { heap = record g { grey = grey } }) ≤ node_work cycle p)
    × (whole_node_work (record p { heap = record g { grey = grey } }) ≤ whole_node_work p)
freed-less {g = g} cycle p grey freed less =
    let work = freed-sum (slot_work cycle) (λ _. refl) refl freed in
    let held = freed-sum held_work (λ _. refl) refl freed in
    let regs = ap (λ (z : List (Option Ref)). length z) freed.registers in
    let lets = ap (λ (z : List Letter). length z) freed.letters in
    let roots : length g.registers + length g.letters
    ≡ length p.heap.registers + length p.heap.letters = omega (arith, regs, lets) in
    let left : cond (p.phases.cycle == cycle) 0
    (1 + 2 * (length g.registers + length g.letters))
    ≡ cond (p.phases.cycle == cycle) 0
    (1 + 2 * (length p.heap.registers + length p.heap.letters)) =
    ap (λ (z : ℕ). cond (p.phases.cycle == cycle) 0 (1 + 2 * z)) roots in
    (omega (arith, less, left, work), omega (arith, roots, held))

-- a sweep, if nothing is grey
pub sweep-frees : (cycle : ℕ) (p : LocalState) (count : ℕ) → p.heap.grey ≡ []
    → (node_work cycle (after_sweep p count) ≤ node_work cycle p)
    × (whole_node_work (after_sweep p count) ≤ whole_node_work p)
sweep-frees cycle p count calm =
    let g : Heap = (sweeping p count).heap in
    let freed : Freed p.heap g =
    freed-some (λ _. is_garbage p.phases.cycle) (garbage-test p.phases.cycle) p.phases.cursor
    (looked_at p count) (record { heap = p.heap; freed = 0 }) in
    let none = ap (sum_by (grey_work g)) (freed.grey ∙ calm) in
    freed-less cycle p g.grey freed (omega (arith, none))

-- What is still grey is as it was.
left-greys : {h g : Heap} → Freed h g → (ks : List ℕ)
    → sum_by (grey_work g) (filter (λ k. is_occupied (slot_at g k)) ks) ≤ sum_by (grey_work h) ks
left-greys freed [] = omega arith
left-greys {h = h} {g = g} freed (k ∷ ks) =
    let rest : List ℕ = filter (λ k. is_occupied (slot_at g k)) ks in
    let others = left-greys freed ks in
    cond_both (is_occupied (slot_at g k)) (k ∷ rest) rest
    (λ z. sum_by (grey_work g) z ≤ sum_by (grey_work h) (k ∷ ks))
    (λ there.
    let found = occupied-object (slot_at g k) there in
    let same : grey_work g k ≡ grey_work h k =
    ap scan_work (found.1 ∙ sym (freed-left freed k _ found.0 found.1)) in
    omega (arith, sum_by-cons (grey_work g) k rest, sum_by-cons (grey_work h) k ks, same, others))
    (λ _. omega (arith, sum_by-cons (grey_work h) k ks, others))

-- a reclaim
pub reclaim-frees : (cycle : ℕ) (scope : Scope) (p : LocalState)
    → (node_work cycle (record p { heap = reclaimed scope p.own p.heap }) ≤ node_work cycle p)
    × (whole_node_work (record p { heap = reclaimed scope p.own p.heap }) ≤ whole_node_work p)
reclaim-frees cycle scope p =
    let g : Heap = (reclaiming scope p.own p.heap).heap in
    let freed : Freed p.heap g = freed-reclaiming scope p.own p.heap in
    let less = left-greys freed g.grey in
    let same = ap (sum_by (grey_work p.heap)) freed.grey in
    let first = freed-less cycle p (left_grey g) freed (omega (arith, less, same)) in
    let q : LocalState = record p { heap = freed_within scope p.own p.heap } in
    let aged : SameWork cycle q.heap (reclaimed scope p.own p.heap) = aged-same cycle q.heap in
    let work = same-node cycle q (record p { heap = reclaimed scope p.own p.heap }) refl aged in
    let below = first.0 in
    let whole = first.1 in
    (omega (arith, work, below), omega (arith, aged.roots, aged.held, whole))
