-- The move that the code chooses is that of the definitions.
use Rattle.std.proofs.Common.{◌≡◌, ℕ, ◌+◌, ◌<◌, ◌≤◌, Bool, true, false, ltb, ltb-true, not, List, length, sym, ap, ◌∙◌, subst, arith, lt-ltb, eq-eqb, ◌≢◌, [], ◌∷◌}
use Rattle.std.specs.List.{range_with_len}
use Rattle.std.proofs.lemmas.Bool.{le-ltb, cond-true, cond-false, not-false, eqb-true, ne_eqb}
use Rattle.std.proofs.lemmas.List.FromFn.{length-range_with_len}
use Rattle.std.proofs.lemmas.List.Sums.{position_or_len_is, prefix_len-le-length, fails_before_first, passes_at_first}
use Rattle.model.specs.declared.event.Event.TheVariants as event
use Rattle.model.specs.declared.step.Step.TheVariants as step
use Rattle.model.specs.State.{LocalState, sent_to, got_from}
use Rattle.model.specs.Shading.{is_open}
use Rattle.model.specs.View.{link_to, used}
use Rattle.model.specs.World.{World}
use Rattle.model.proofs.Shown.{used_is}
use Rattle.model.specs.Cuts.{Cut}
use Rattle.model.specs.Collecting.{is_swept_everywhere}
use Rattle.laws.specs.Strategy.{now, least, Move, Bring, Do, is_waiting, has_waiting, is_grey, has_token, is_unswept, next_move, own_move, next_steps, steps_of}
use Rattle.laws.specs.Progress.{IsSwept}
use Rattle.laws.proofs.progress.Choices.{number-at, first-passes, first-none}
use Rattle.world.specs.Sites.{SiteView}
use Rattle.world.specs.declared.collecting.Sign.{Sign}
use Rattle.world.specs.declared.collecting.Sign.TheVariants as sign
use Rattle.world.specs.Shows.{site_at, ShowsWorld}
use Rattle.world.specs.Moves.{local_at, awaits, has_awaiting, has_sign, first_with}

-- the first number below n that passes, or n
pub first-is : (n k : ℕ) (f : ℕ → Bool) → k ≤ n → ((j : ℕ) → j < k → f j ≡ false)
    → (k < n → f k ≡ true) → k ≡ least n f
first-is n k f le before here =
    let many = length-range_with_len 0 n in
    sym
    (position_or_len_is f (range_with_len 0 n) k 0 (omega (arith, le, many))
    (λ j less. ap f (number-at n j (omega (arith, less, le))) ∙ before j less)
    (λ less.
    let below : k < n = omega (arith, less, many) in
    ap f (number-at n k below) ∙ here below))

first-le : (n : ℕ) (f : ℕ → Bool) → least n f ≤ n
first-le n f =
    omega
    (arith, prefix_len-le-length (λ x. not (f x)) (range_with_len 0 n), length-range_with_len 0 n)

-- by equal tests the same number
pub first-same : (n : ℕ) (f g : ℕ → Bool) → ((k : ℕ) → f k ≡ g k) → least n f ≡ least n g
first-same n f g same =
    first-is n (least n f) g (first-le n f)
    (λ j less.
    sym (same j) ∙ ap f (sym (number-at n j (omega (arith, less, first-le n f))))
    ∙ fails_before_first f (range_with_len 0 n) j 0 less)
    (λ below.
    sym (same (least n f)) ∙ ap f (sym (number-at n (least n f) below))
    ∙ passes_at_first f (range_with_len 0 n) 0
    (omega (arith, below, length-range_with_len 0 n)))

-- ---- whether marking goes on

pub opened : (p : LocalState) (ended cycle : ℕ) → ended ≡ p.phases.ended → cycle ≡ p.phases.cycle
    → ended ≢ cycle → is_open p ≡ true
opened p ended cycle e k apart =
    ap not (ne_eqb _ _ (λ same. apart (e ∙ same ∙ sym k)))

pub shut : (p : LocalState) (ended cycle : ℕ) → ended ≡ p.phases.ended → cycle ≡ p.phases.cycle
    → ended ≡ cycle → is_open p ≡ false
shut p ended cycle e k same = ap not (eq-eqb _ _ (sym e ∙ same ∙ k))

-- ---- what the sites show

module _ {sites : List SiteView} {w : World} (h : ShowsWorld sites w) where
  pub local-shown : (i : ℕ) → local_at sites i ≡ (now w i).local
  local-shown i = (h.each i).current.shows.local

  used-shown : (from to : ℕ)
      → used (link_to (site_at sites from).current to) ≡ length (sent_to (now w from) to)
  used-shown from to = used_is _ _ ((h.each from).current.shows.links to)

  pub awaits-shown : (from to : ℕ) → awaits sites from to ≡ is_waiting (now w) from to
  awaits-shown from to =
      ap (λ (p : LocalState).
      ltb (got_from p from) (used (link_to (site_at sites from).current to))) (local-shown to)
      ∙ ap (ltb (got_from (now w to).local from)) (used-shown from to)

  abbrev n : ℕ
  n = length sites

  pub to-shown : (from : ℕ) → least n (awaits sites from) ≡ least n (is_waiting (now w) from)
  to-shown from = first-same n (awaits sites from) (is_waiting (now w) from) (awaits-shown from)

  pub from-shown : least n (has_awaiting sites) ≡ least n (has_waiting n (now w))
  from-shown =
      first-same n (has_awaiting sites) (has_waiting n (now w))
      (λ from. ap (λ k. ltb k n) (to-shown from))

  pub sign-shown : (s : Sign)
      → first_with sites s ≡ least n (λ i. has_sign s (now w i).local)
  sign-shown s =
      first-same n (λ i. has_sign s (local_at sites i)) (λ i. has_sign s (now w i).local)
      (λ i. ap (has_sign s) (local-shown i))

  -- ---- the moves

  abbrev c : Cut
  c = now w

  open-shown : is_open (local_at sites 0) ≡ is_open (c 0).local
  open-shown = ap is_open (local-shown 0)

  pub pass-shown : (i : ℕ) → is_open (local_at sites 0) ≡ true → n ≤ first_with sites sign.Grey
      → i ≡ first_with sites sign.Token → Do i event.Pass ≡ own_move n c
  pass-shown i opened none is =
      let same : i ≡ least n (has_token c) = is ∙ sign-shown sign.Token in
      ap (λ k. Do k event.Pass) same
      ∙ sym
      (cond-true (is_open (c 0).local) _ _ (sym open-shown ∙ opened)
      ∙ cond-false (ltb (least n (is_grey c)) n) _ _
      (le-ltb _ _ (omega (arith, none, sign-shown sign.Grey))))

  unswept-shown : (cycle : ℕ) → cycle ≡ (local_at sites 0).phases.cycle
      → first_with sites (sign.Unswept cycle) ≡ least n (is_unswept c)
  unswept-shown cycle is =
      sign-shown (sign.Unswept cycle)
      ∙ ap (λ k. least n (λ i. has_sign (sign.Unswept k) (c i).local))
      (is ∙ ap (λ (p : LocalState). p.phases.cycle) (local-shown 0))

  pub sweep-shown : {i cycle slots : ℕ} → is_open (local_at sites 0) ≡ false
      → cycle ≡ (local_at sites 0).phases.cycle → i ≡ first_with sites (sign.Unswept cycle) → i < n
      → slots ≡ length (local_at sites i).heap.slots
      → Do i (event.Sweep slots) ≡ own_move n c
  sweep-shown {i} {cycle} {slots} shut here is less all =
      let same : i ≡ least n (is_unswept c) = is ∙ unswept-shown cycle here in
      let size : slots ≡ length (c i).local.heap.slots =
      all ∙ ap (λ (p : LocalState). length p.heap.slots) (local-shown i) in
      ap (λ k. Do i (event.Sweep k)) size
      ∙ ap (λ k. Do k (event.Sweep (length (c k).local.heap.slots))) same
      ∙ sym
      (cond-false (is_open (c 0).local) _ _ (sym open-shown ∙ shut)
      ∙ cond-true (ltb (least n (is_unswept c)) n) _ _
      (lt-ltb _ _ (omega (arith, less, same))))

  pub begin-shown : (cycle : ℕ) → is_open (local_at sites 0) ≡ false
      → cycle ≡ (local_at sites 0).phases.cycle → n ≤ first_with sites (sign.Unswept cycle)
      → Do 0 event.Begin ≡ own_move n c
  begin-shown cycle shut here none =
      sym
      (cond-false (is_open (c 0).local) _ _ (sym open-shown ∙ shut)
      ∙ cond-false (ltb (least n (is_unswept c)) n) _ _
      (le-ltb _ _ (omega (arith, none, unswept-shown cycle here))))

  pub bring-shown : (from to : ℕ) → from ≡ least n (has_awaiting sites) → from < n
      → to ≡ least n (awaits sites from) → Bring from to ≡ next_move n c
  bring-shown from to is less there =
      let same : from ≡ least n (has_waiting n c) = is ∙ from-shown in
      let receiver : to ≡ least n (is_waiting c from) = there ∙ to-shown from in
      ap (Bring from) receiver
      ∙ ap (λ k. Bring k (least n (is_waiting c k))) same
      ∙ sym
      (cond-true (ltb (least n (has_waiting n c)) n) _ _
      (lt-ltb _ _ (omega (arith, less, same))))

  pub other-shown : (m : Move) → n ≤ least n (has_awaiting sites) → m ≡ own_move n c
      → m ≡ next_move n c
  other-shown m none is =
      is
      ∙ sym
      (cond-false (ltb (least n (has_waiting n c)) n) _ _
      (le-ltb _ _ (omega (arith, none, from-shown))))

  -- the steps of a message that is brought
  pub steps-shown : (from to number : ℕ) → Bring from to ≡ next_move n c
      → number ≡ got_from (local_at sites to) from + 1
      → (step.Save from ∷ step.Save to ∷ step.Hand from to ∷ step.Deliver from to number ∷ [])
      ≡ next_steps n w
  steps-shown from to number is numbered =
      ap (λ k.
      step.Save from ∷ step.Save to ∷ step.Hand from to ∷ step.Deliver from to k ∷ [])
      (numbered ∙ ap (λ (p : LocalState). got_from p from + 1) (local-shown to))
      ∙ ap (steps_of c) is

  -- ---- the end

  pub swept-shown : (cycle : ℕ) → (local_at sites 0).phases.cycle ≡ cycle
      → is_swept_everywhere (local_at sites 0).phases ≡ true
      → n ≤ first_with sites (sign.Unswept cycle) → IsSwept n cycle c
  swept-shown cycle current told all = record {
    current = sym (ap (λ (p : LocalState). p.phases.cycle) (local-shown 0)) ∙ current;
    swept = λ i less.
        let none : has_sign (sign.Unswept cycle) (c i).local ≡ false =
        first-none n (λ k. has_sign (sign.Unswept cycle) (c k).local)
        (le-ltb _ _ (omega (arith, all, sign-shown (sign.Unswept cycle)))) i less in
        eqb-true _ _ (not-false _ none);
    reported =
        sym (ap (λ (p : LocalState). is_swept_everywhere p.phases) (local-shown 0)) ∙ told;
  }

  pub swept-found : (cycle : ℕ) → IsSwept n cycle c
      → ((local_at sites 0).phases.cycle ≡ cycle)
      × (is_swept_everywhere (local_at sites 0).phases ≡ true)
      × (first_with sites (sign.Unswept cycle) ≡ n)
  swept-found cycle h = (
    ap (λ (p : LocalState). p.phases.cycle) (local-shown 0) ∙ h.current,
    ap (λ (p : LocalState). is_swept_everywhere p.phases) (local-shown 0) ∙ h.reported,
    sign-shown (sign.Unswept cycle)
        ∙ sym
        (first-is n n (λ i. has_sign (sign.Unswept cycle) (c i).local) (omega arith)
        (λ j less. ap not (eq-eqb _ _ (h.swept j less)))
        (λ less. absurd (omega (arith, less)))),
  )

-- ---- a message that is in flight

pub sender-has : (sites : List SiteView) (from : ℕ)
    → from ≡ least (length sites) (has_awaiting sites) → from < length sites
    → least (length sites) (awaits sites from) < length sites
sender-has sites from is less =
    let m : ℕ = length sites in
    let found = first-passes m (has_awaiting sites) (lt-ltb _ _ (omega (arith, is, less))) in
    ltb-true _ _
    (subst (λ k. has_awaiting sites k ≡ true) (sym is) found.1)

pub receiver-has : (sites : List SiteView) (from to : ℕ)
    → from ≡ least (length sites) (has_awaiting sites) → from < length sites
    → to ≡ least (length sites) (awaits sites from) → awaits sites from to ≡ true
receiver-has sites from to is less there =
    let found = first-passes (length sites) (awaits sites from)
    (lt-ltb _ _ (sender-has sites from is less)) in
    subst (λ k. awaits sites from k ≡ true) (sym there) found.1
