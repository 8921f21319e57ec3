-- What going back keeps: every choice that fits has no newer state of any node.
use Rattle.std.proofs.Common.{◌≡◌, ◌≢◌, ◌-◌, ◌<◌, ◌≤◌, ℕ, List, Option, Some, ap, arith, get_or, get_or-set_same, get_or-set_other, length, length-set, set, slice_get, subst, sym, ◌∙◌, ⊎_elim}
use Rattle.std.specs.Prelude.{Vec}
use Rattle.std.specs.Global.{Global}
use Rattle.std.proofs.lemmas.Bool.{cases_eq}
use Rattle.restore_choice.specs.Choices.{AreHistories, Fits, FitsBeside, IsAfter, IsAhead, IsChoice, NoneFit, chosen_of, received_in, sent_in, states_of}
use Rattle.restore_choice.specs.declared.State.{State}
use Rattle.restore_choice.proofs.Orders.{later-after, some_at}

abbrev pub Histories : Type 0
Histories = List (Vec State Global)

-- no choice that fits has a newer state of any node
abbrev pub IsAboveAll : Histories → List ℕ → Type 0
IsAboveAll histories choice =
    (other : List ℕ) → IsChoice histories other → Fits histories other → (i : ℕ)
    → i < length histories → get_or other i 0 ≤ get_or choice i 0

-- the state that is chosen of a node
pub chosen-there : {histories : Histories} {choice : List ℕ} → IsChoice histories choice → (i : ℕ)
    → i < length histories → (s : State) × (chosen_of histories choice i ≡ Some s)
chosen-there {histories = histories} {choice = choice} is i inside =
    some_at (states_of histories i) (get_or choice i 0) (is.each i inside)

-- a choice that is no newer in a node
chosen-after : {histories : Histories} {choice other : List ℕ} → AreHistories histories
    → IsChoice histories choice → IsChoice histories other → (i : ℕ) → i < length histories
    → get_or other i 0 ≤ get_or choice i 0 → (s : State) × (t : State)
    × (chosen_of histories other i ≡ Some s) × (chosen_of histories choice i ≡ Some t)
    × IsAfter s t
chosen-after {histories = histories} {choice = choice} {other = other}
    order is was i inside fewer =
    let first = chosen-there was i inside in
    let second = chosen-there is i inside in (
      first.0,
      second.0,
      first.1,
      second.1,
      later-after (states_of histories i) (get_or other i 0) (get_or choice i 0) first.0 second.0
          (order i) fewer first.1 second.1,
    )

-- If a state fits beside one of another node, it fits beside a later one.
fits-later : (i j : ℕ) (o p q : Option State) (s t : State) → o ≡ Some s → p ≡ Some t → IsAfter s t
    → FitsBeside i j q o → FitsBeside i j q p
fits-later i j o p q s t first second after fits =
    let sent : sent_in o i ≤ sent_in p i =
    subst (λ (z : Option State). sent_in z i ≤ sent_in p i) (sym first)
    (subst (λ (z : Option State). sent_in (Some s) i ≤ sent_in z i) (sym second) (after.sent i)) in
    let received : received_in o i ≤ received_in p i =
    subst (λ (z : Option State). received_in z i ≤ received_in p i) (sym first)
    (subst (λ (z : Option State). received_in (Some s) i ≤ received_in z i) (sym second)
    (after.received i)) in
    let once = fits.received in
    let kept = fits.dropped in
    record {
      received = omega (arith, once, sent);
      dropped = omega (arith, kept, received);
    }

-- A node that is ahead has an older state in every choice that fits.
pub goes-back : {histories : Histories} {choice : List ℕ} {node : ℕ} → AreHistories histories
    → IsChoice histories choice → IsAboveAll histories choice → IsAhead histories choice node
    → (other : List ℕ) → IsChoice histories other → Fits histories other
    → get_or other node 0 < get_or choice node 0
goes-back {histories = histories} {choice = choice} {node = node}
    order is above ahead other was fits =
    let fewer = above other was fits node ahead.inside in
    ⊎_elim {C = get_or other node 0 < get_or choice node 0}
    (λ (same : get_or other node 0 ≡ get_or choice node 0).
    let later =
    chosen-after order is was ahead.other ahead.within
    (above other was fits ahead.other ahead.within) in
    absurd (ahead.ahead
    (fits-later node ahead.other (chosen_of histories other ahead.other)
    (chosen_of histories choice ahead.other) (chosen_of histories choice node) later.0 later.1
    later.2 later.3 later.4
    (subst
    (λ (k : ℕ).
    FitsBeside node ahead.other (slice_get (states_of histories node) k)
    (chosen_of histories other ahead.other))
    same (fits node ahead.other ahead.inside ahead.within ahead.apart)))))
    (λ (apart : get_or other node 0 ≢ get_or choice node 0). omega (arith, fewer, apart))
    (cases_eq (get_or other node 0) (get_or choice node 0))

-- so none fits if the node has no older one
pub none-older : {histories : Histories} {choice : List ℕ} {node : ℕ} → AreHistories histories
    → IsChoice histories choice → IsAboveAll histories choice → IsAhead histories choice node
    → get_or choice node 0 ≡ 0 → NoneFit histories
none-older order is above ahead first other was fits =
    let fewer = goes-back order is above ahead other was fits in
    omega (arith, first, fewer)

-- one state back
pub back-is : {histories : Histories} {choice : List ℕ} (node : ℕ) → IsChoice histories choice
    → IsChoice histories (set choice node (get_or choice node 0 - 1))
back-is {histories = histories} {choice = choice} node is = record {
  width = length-set choice node (get_or choice node 0 - 1) ∙ is.width;
  each = λ i inside.
      ⊎_elim
      {C = get_or (set choice node (get_or choice node 0 - 1)) i 0
      < length (states_of histories i)}
      (λ (e : i ≡ node).
      let width = is.width in
      let within : node < length choice = omega (arith, inside, e, width) in
      let here = is.each i inside in
      let same : get_or (set choice node (get_or choice node 0 - 1)) i 0
      ≡ get_or choice i 0 - 1 =
      ap (λ (k : ℕ). get_or (set choice node (get_or choice node 0 - 1)) k 0) e
      ∙ get_or-set_same choice node (get_or choice node 0 - 1) 0 within
      ∙ ap (λ (k : ℕ). get_or choice k 0 - 1) (sym e) in
      omega (arith, here, same))
      (λ (apart : i ≢ node).
      let here = is.each i inside in
      let same = get_or-set_other choice node i (get_or choice node 0 - 1) 0 apart in
      omega (arith, here, same))
      (cases_eq i node);
}

pub back-above : {histories : Histories} {choice : List ℕ} {node : ℕ} → AreHistories histories
    → IsChoice histories choice → IsAboveAll histories choice → IsAhead histories choice node
    → IsAboveAll histories (set choice node (get_or choice node 0 - 1))
back-above {histories = histories} {choice = choice} {node = node}
    order is above ahead other was fits i inside =
    ⊎_elim
    {C = get_or other i 0 ≤ get_or (set choice node (get_or choice node 0 - 1)) i 0}
    (λ (e : i ≡ node).
    let width = is.width in
    let within : node < length choice = omega (arith, inside, e, width) in
    let fewer = goes-back order is above ahead other was fits in
    let same : get_or (set choice node (get_or choice node 0 - 1)) i 0 ≡ get_or choice node 0 - 1 =
    ap (λ (k : ℕ). get_or (set choice node (get_or choice node 0 - 1)) k 0) e
    ∙ get_or-set_same choice node (get_or choice node 0 - 1) 0 within in
    let at : get_or other i 0 ≡ get_or other node 0 = ap (λ (k : ℕ). get_or other k 0) e in
    omega (arith, fewer, same, at))
    (λ (apart : i ≢ node).
    let fewer = above other was fits i inside in
    let same = get_or-set_other choice node i (get_or choice node 0 - 1) 0 apart in
    omega (arith, fewer, same))
    (cases_eq i node)
