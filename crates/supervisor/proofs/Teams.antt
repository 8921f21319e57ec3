-- Workers that are started and joined, by their nodes.
use Rattle.std.proofs.Common.{All, ◌≡◌, ◌≢◌, ◌<◌, ◌≤◌, ◌+◌, ◌++◌, ℕ, zero, suc, List, [], ◌∷◌, Option, Some, Result, Ok, Err, OnErr, OnOk, append_assoc, get_or, length, map, swap_remove, slice_get, vec_capacity, refl, sym, ap, ◌∙◌, subst, arith}
use Rattle.std.specs.Global.{Vec}
use Rattle.std.specs.List.{range_with_len}
use Rattle.std.specs.List.Sorted.{IsPermutation}
use Rattle.std.proofs.lemmas.List.{length-map, map_push}
use Rattle.std.proofs.lemmas.List.FromFn.{length-range_with_len}
use Rattle.std.proofs.lemmas.List.Sorted.{IsPermutation-append_left, IsPermutation-cons, IsPermutation-map, IsPermutation-middle, IsPermutation-swap_remove, IsPermutation-sym, IsPermutation-to_front, IsPermutation-trans}
use Rattle.std.proofs.lemmas.Option.{slice_get_read}
use mathlib.Core.Logic.{dite}
use native.Mathlib.Decide.{ℕ_discrete}
use Rattle.wire.proofs.Places.{mapped-there}
use Rattle.workers.specs.Runs.{IsReport}
use Rattle.workers.specs.declared.run.Report.{Report}
use Rattle.supervisor.specs.Teams.{AreOthers, HasRoom, working}
use Rattle.supervisor.specs.declared.team.TeamPlan.{TeamPlan}
use Rattle.supervisor.specs.declared.team.Reports.{Reports}
use Rattle.supervisor.specs.declared.team.Team.{Team}

-- one more node
pub range_more : (a n : ℕ) → range_with_len a (n + 1) ≡ range_with_len a n ++ (a + n) ∷ []
range_more a zero = ap (λ (k : ℕ). k ∷ []) (let same : a ≡ a + 0 = omega arith in same)
range_more a (suc n) =
    ap (range_with_len a) (let next : suc n + 1 ≡ suc (n + 1) = omega arith in next)
    ∙ ap (λ (l : List ℕ). a ∷ l)
    (range_more (a + 1) n
    ∙ ap (λ (k : ℕ). range_with_len (a + 1) n ++ k ∷ [])
    (let same : a + 1 + n ≡ a + suc n = omega arith in same))

-- none of the first of these, up to this place, is the node
abbrev pub AreOthersBelow : ℕ → ℕ → List ℕ → Type 0
AreOthersBelow node place ns = (k n : ℕ) → slice_get ns k ≡ Some n → k < place → n ≢ node

-- one more place at which none is the node
pub others-next : {W : Type 0} (node_of : W → ℕ) (ws : List W) (node place : ℕ) {w : W}
    → place < length ws → w ≡ get_or ws place w → node_of w ≢ node
    → AreOthersBelow node place (map node_of ws) → AreOthersBelow node (place + 1) (map node_of ws)
others-next node_of ws node place {w} inside is other before k n there below =
    dite (ℕ_discrete k place)
    (λ same.
    let here = mapped-there node_of ws place w
    (slice_get_read ws (length ws) place w refl inside is) in
    let found : ◌≡◌ {A = Option ℕ} (Some (node_of w)) (Some n) =
    sym here ∙ subst (λ (j : ℕ). slice_get (map node_of ws) j ≡ Some n) same there in
    let one : node_of w ≡ n = cc in
    subst (λ (m : ℕ). m ≢ node) one other)
    (λ apart. before k n there (let less : k < place = omega (arith, below, apart) in less))

module _ {W R : Type 0} (of : W → ℕ) (node_of : R → ℕ) where
  -- a worker is joined, and its report comes last
  pub joined : {ws left : List W} {w : W} {more : List R} {r : R} (rs : List R)
      → IsPermutation ws (w ∷ left) → more ≡ rs ++ r ∷ [] → node_of r ≡ of w
      → IsPermutation (map of ws ++ map node_of rs) (map of left ++ map node_of more)
  joined {ws} {left} {w} {more} {r} rs moved last own =
      let front = IsPermutation-append_left (map node_of rs) (map of ws) (map of (w ∷ left))
      (IsPermutation-map of ws (w ∷ left) moved) in
      let is : map of left ++ map node_of more ≡ (map of left ++ map node_of rs) ++ of w ∷ [] =
      ap (λ (l : List R). map of left ++ map node_of l) last
      ∙ ap (λ (l : List ℕ). map of left ++ l) (map_push node_of rs r)
      ∙ sym (append_assoc (map of left) (map node_of rs) (node_of r ∷ []))
      ∙ ap (λ (n : ℕ). (map of left ++ map node_of rs) ++ n ∷ []) own in
      IsPermutation-trans _ _ _ front
      (subst (IsPermutation (of w ∷ (map of left ++ map node_of rs))) (sym is)
      (IsPermutation-sym _ _ (IsPermutation-to_front (map of left ++ map node_of rs) (of w))))

-- ---- The workers of a team

-- one of the workers is taken out
pub taken-out : {W : Type 0} (ws left : List W) (place : ℕ) (w : W) → place < length ws
    → w ≡ get_or ws place w → left ≡ swap_remove ws place w → IsPermutation ws (w ∷ left)
taken-out ws left place w inside is last =
    subst (λ (l : List _). IsPermutation ws (w ∷ l)) (sym last)
    (IsPermutation-swap_remove ws place w inside is)

-- there is room for the worker of this node, if those before it were started
pub room-left : (t : Team) (node nodes : ℕ) → working t ≡ range_with_len 0 node
    → t.reports.items ≡ [] → node < nodes → nodes ≤ vec_capacity t.workers
    → nodes ≤ vec_capacity t.reports → HasRoom t
room-left t node nodes each none more room reports =
    let count : length t.workers.items ≡ node =
    sym (length-map t.workers.items (λ w. w.of.node)) ∙ ap length each
    ∙ length-range_with_len 0 node in
    let empty : length t.reports.items ≡ 0 = ap length none in
    record {
      worker = omega (arith, count, t.workers.ok.0, more, room);
      report = omega (arith, count, empty, t.workers.ok.0, t.reports.ok.0, more, reports);
    }

-- the report that a worker of this plan promised
pub report-in : (plan : TeamPlan) (of : Reports) (r : Report) → of.plan ≡ plan
    → IsReport of.node of.plan.nodes of.plan.turns r → IsReport r.node plan.nodes plan.turns r
report-in plan of r same h =
    subst (λ (p : TeamPlan). IsReport r.node p.nodes p.turns r) same
    (subst (λ (n : ℕ). IsReport n of.plan.nodes of.plan.turns r) (sym h.2.own) h)

-- the worker of one more node, for those that were started before
pub one-more : (node : ℕ) (before mid working reports : List ℕ)
    → IsPermutation before (mid ++ reports) → working ≡ mid ++ node ∷ []
    → IsPermutation (node ∷ before) (working ++ reports)
one-more node before mid working reports same last =
    subst (IsPermutation (node ∷ before))
    (sym (append_assoc mid (node ∷ []) reports)
    ∙ ap (λ (l : List ℕ). l ++ reports) (sym last))
    (IsPermutation-trans _ _ _ (IsPermutation-cons node before (mid ++ reports) same)
    (IsPermutation-sym _ _ (IsPermutation-middle mid node reports)))

-- what holds of a call that succeeded
pub if-ok : {V E A : Type 0} (r : Result V E) (v : V) → r ≡ Ok v → OnOk r A → A
if-ok {A = A} r v is h = subst (λ x. OnOk x A) is h

-- what holds of a call that failed
pub if-err : {V E A : Type 0} (r : Result V E) (e : E) → r ≡ Err e → OnErr r A → A
if-err {A = A} r e is h = subst (λ x. OnErr x A) is h

-- the same workers are left, so none of them is of this node
pub others-still : (node : ℕ) (t u : Team) → u.workers ≡ t.workers → AreOthers node (working t)
    → AreOthers node (working u)
others-still node t u same h =
    subst (λ ws. AreOthers node (map (λ w. w.of.node) ws.items)) (sym same) h

-- ---- reports of runs in a plan

abbrev pub AreReports : TeamPlan → List Report → Type 0
AreReports plan rs = All (λ r. ∥ IsReport r.node plan.nodes plan.turns r ∥₁) rs

pub reported-as : {p q : TeamPlan} (rs : List Report) → p ≡ q → AreReports p rs → AreReports q rs
reported-as rs same all = subst (λ (p : TeamPlan). AreReports p rs) same all

pub reported-in : (p : TeamPlan) {v w : Vec Report} → v ≡ w → AreReports p w.items
    → AreReports p v.items
reported-in p same all = subst (λ (v : Vec Report). AreReports p v.items) (sym same) all

pub none-reported : (p : TeamPlan) (rs : List Report) → rs ≡ [] → AreReports p rs
none-reported p rs none =
    subst (AreReports p) (sym none) (λ k d less. absurd (omega (arith, less)))

-- the first of four parts that stay
pub first-stays : {A B C E : Type 0} {x y : A × B × C × E} → y ≡ x → y.0 ≡ x.0
first-stays {A} {B} {C} {E} same = ap (λ (z : A × B × C × E). z.0) same
