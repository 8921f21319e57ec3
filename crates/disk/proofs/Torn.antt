-- Ranges that may hold any bytes after a crash.
use Rattle.std.specs.declared.alloc.Global.{Global}
use Rattle.std.proofs.Common.{Vec, ◌≡◌, ◌⊎◌, ◌↔◌, inl, inr, ⊎_elim, ℕ, ◌+◌, ◌-◌, ◌≤◌, List, [], ◌∷◌}
use Rattle.std.proofs.Common.{◌++◌, length, take, drop, replicate, refl, sym, ◌∙◌, ap, subst, arith}
use Rattle.std.proofs.Common.{◌<◌, suc, get_or, add-one, drop-cons}
use Rattle.std.proofs.Common.{Bool, cond, length-append, length-drop, append_assoc, Result}
use Rattle.std.proofs.lemmas.List.{take_at, drop_at, drop-drop, drop_all, length-take-le}
use Rattle.std.proofs.lemmas.List.{length-replicate}
use Rattle.std.proofs.lemmas.Bool.Decides.{leb_tells}
use Rattle.std.proofs.lemmas.Result.{on_err_weaker, on_ok_weaker}
use Rattle.disk.specs.Areas.{Areas, part, with_part, Changes, Holds, Torn, pasted}
use Rattle.disk.specs.Crashes.{Follows, Only, Reaches}
use Rattle.disk.specs.Record.{areas_of, synced, reads_left, torn_in, torn_by, at_risk, leaves}
use Rattle.disk.specs.Record.{filled_in, filled_by, filled, IsUnsynced, Loaded, Risks}
use Rattle.disk.specs.declared.device.Area.{Area}
use Rattle.disk.specs.declared.device.Area.TheVariants.{Select, A, B}
use Rattle.disk.specs.declared.state.Contents.{Contents}
use Rattle.disk.specs.declared.state.Range.{Range}
use Rattle.disk.specs.declared.state.State.{State}

-- a step of one area
pub changed : (area : Area) (step : List ℕ → List ℕ → Type 0) (d : Areas) (next : List ℕ) →
    step (part area d) next → Changes area step d (with_part area next d)
changed Select step d next is = (is, refl, refl)
changed A step d next is = (is, refl, refl)
changed B step d next is = (is, refl, refl)

pub unchanged : (area : Area) (step : List ℕ → List ℕ → Type 0) (d : Areas) →
    step (part area d) (part area d) → Changes area step d d
unchanged Select step d is = (is, refl, refl)
unchanged A step d is = (is, refl, refl)
unchanged B step d is = (is, refl, refl)

-- what is written, all of it or a prefix, is one of the possible outcomes
pub torn_pasted : (at n : ℕ) (bytes old : List ℕ) → at ≤ length old → length bytes ≤ n →
    Torn at n old (pasted at bytes old)
torn_pasted at n bytes old le fits =
    let k = length bytes in
    let front = length-take-le at old le in
    let rest = drop (at + k) old in
    let both : length (take at old ++ bytes) ≡ at + k =
    omega (arith, length-append (take at old) bytes, front) in
    let whole : length (pasted at bytes old) ≡ at + k + length rest =
    omega (arith, length-append (take at old ++ bytes) rest, both) in
    let tail = length-drop (at + k) old in
    let split : at + n ≡ (at + k) + (n - k) = omega (arith, fits) in
    record {
      before = ap (take at) (append_assoc (take at old) bytes rest)
          ∙ take_at (take at old) (bytes ++ rest) at front;
      after = ap (λ i. drop i (pasted at bytes old)) split
          ∙ sym (drop-drop (n - k) (at + k) (pasted at bytes old))
          ∙ ap (drop (n - k)) (drop_at (take at old ++ bytes) rest (at + k) both)
          ∙ drop-drop (n - k) (at + k) old
          ∙ sym (ap (λ i. drop i old) split);
      no_shorter = omega (arith, whole, tail);
      no_longer = omega (arith, whole, tail, fits);
    }

-- nothing is written
pub torn_same : (at n : ℕ) (old : List ℕ) → Torn at n old old
torn_same at n old = record {
  before = refl;
  after = refl;
  no_shorter = omega arith;
  no_longer = omega arith;
}

-- one more range
torn_push : (ranges : List Range) (r : Range) (P : Areas → Type 0) (c : Areas) →
    torn_by (ranges ++ r ∷ []) P c ↔ torn_in r (torn_by ranges P) c
torn_push [] r P c = (λ torn. torn, λ torn. torn)
torn_push (x ∷ ranges) r P c = torn_push ranges r (torn_in x P) c

-- what was synced and the ranges are the same
risk_same : (s s' : State) → synced s' ≡ synced s → s'.ranges.items ≡ s.ranges.items →
    (c : Areas) → at_risk s' c → at_risk s c
unfolding at_risk
risk_same s s' same ranges c torn =
    let at_old = subst (λ (d : Areas). torn_by s'.ranges.items (λ x. x ≡ d) c) same torn in
    subst (λ (rs : List Range). torn_by rs (λ x. x ≡ synced s) c) ranges at_old

-- a crash may leave what is at risk
pub risk_left : (s : State) (c : Areas) → at_risk s c → leaves s c
unfolding leaves
risk_left s c risk = inr risk

-- a range is recorded, before which the disk held what it holds now
pub record Noted (r : Range) (s s' : State) : Type 0 where
  pub before : r.before.value ≡ s.held
  pub held : s'.held ≡ s.held
  pub synced : synced s' ≡ synced s
  pub noted : s'.ranges.items ≡ s.ranges.items ++ r ∷ []

-- this holds if the range is pushed after the others
pub pushed : {s : State} (r : Range) (rs : Vec Range Global) → r.before.value ≡ s.held
    → rs.items ≡ s.ranges.items ++ r ∷ [] → Noted r s (record s { ranges = rs })
pushed r rs before items = record {
  before = before;
  held = refl;
  synced = refl;
  noted = items;
}

-- what is at risk then
risk_noted : {r : Range} {s s' : State} → Noted r s s' → (c : Areas) →
    at_risk s' c ↔ torn_in r (at_risk s) c
unfolding at_risk
risk_noted {r} {s} {s'} note c =
    let P : Areas → Type 0 = λ x. x ≡ synced s in
    let push = torn_push s.ranges.items r P c in (
      λ torn. push.0 (subst (λ (rs : List Range). torn_by rs P c) note.noted
          (subst (λ (d : Areas). torn_by s'.ranges.items (λ x. x ≡ d) c) note.synced torn)),
      λ torn. subst (λ (d : Areas). torn_by s'.ranges.items (λ x. x ≡ d) c) (sym note.synced)
          (subst (λ (rs : List Range). torn_by rs P c) (sym note.noted) (push.1 torn)),
    )

pub follows_noted : {r : Range} {s s' : State} → Noted r s s' →
    Follows (Changes r.area (Torn r.at r.len)) (leaves s) (leaves s')
unfolding leaves
follows_noted {r} {s} {s'} note c (inl now) = (
  c,
  inl (now ∙ ap areas_of note.held),
  unchanged r.area (Torn r.at r.len) c (torn_same r.at r.len (part r.area c)),
)
follows_noted {r} {s} {s'} note c (inr torn) =
    let from = (risk_noted note c).0 torn in (
      from.0,
      ⊎_elim (λ held. inl (held ∙ ap areas_of note.before))
          (λ risk. inr risk) from.1,
      from.2,
    )

pub reaches_noted : {r : Range} {s s' : State} → Noted r s s' →
    Reaches (Changes r.area (Torn r.at r.len)) (leaves s) (at_risk s')
unfolding leaves
reaches_noted {r} {s} {s'} note d c (inl held) torn =
    (risk_noted note c).1 (d, inl (held ∙ sym (ap areas_of note.before)), torn)
reaches_noted {r} {s} {s'} note d c (inr risk) torn =
    (risk_noted note c).1 (d, inr risk, torn)

-- other bytes are held, while what was synced and the ranges stay the same
pub set_leaves : (s s' : State) → synced s' ≡ synced s → s'.ranges ≡ s.ranges →
    (c : Areas) → leaves s' c → (c ≡ areas_of s'.held) ⊎ leaves s c
unfolding leaves
set_leaves s s' same ranges c (inl now) = inl now
set_leaves s s' same ranges c (inr torn) =
    inr (inr (risk_same s s' same (ap (λ (v : Vec Range Global). v.items) ranges) c torn))

-- then what was at risk still is
pub set_risk : (s s' : State) → synced s' ≡ synced s → s'.ranges ≡ s.ranges →
    (c : Areas) → at_risk s c → at_risk s' c
set_risk s s' same ranges =
    risk_same s' s (sym same) (sym (ap (λ (v : Vec Range Global). v.items) ranges))

pub set_reaches : (step : Areas → Areas → Type 0) (s mid s' : State) → synced s' ≡ synced mid →
    s'.ranges ≡ mid.ranges → Reaches step (leaves s) (at_risk mid) →
    Reaches step (leaves s) (leaves s')
unfolding leaves
set_reaches step s mid s' same ranges noted d c left torn =
    inr (set_risk mid s' same ranges c (noted d c left torn))

-- a range is recorded, and then other bytes are held in it
pub follows_set : (step : Areas → Areas → Type 0) (s mid s' : State) →
    Follows step (leaves s) (leaves mid) →
    ((c : Areas) → leaves s' c → (c ≡ areas_of s'.held) ⊎ leaves mid c) →
    step (areas_of s.held) (areas_of s'.held) → Follows step (leaves s) (leaves s')
follows_set step s mid s' noted set change c left = ⊎_elim
    (λ now. (
      areas_of s.held,
      reads_left s,
      subst (λ (x : Areas). step (areas_of s.held) x) (sym now) change,
    ))
    (λ earlier. noted c earlier) (set c left)

-- of n bytes to be written at this offset, `bytes` were
pub record Written (area : Area) (at n : ℕ) (d d' : Areas) : Type 0 where
  pub bytes : List ℕ
  pub within : at ≤ length (part area d)
  pub fits : length bytes ≤ n
  pub held : d' ≡ with_part area (pasted at bytes (part area d)) d

-- what such a write does to the areas
pub changed_by_write : (area : Area) (at n : ℕ) (d d' : Areas) → Written area at n d d' →
    Changes area (Torn at n) d d'
changed_by_write area at n d d' w =
    subst (λ (x : Areas). Changes area (Torn at n) d x) (sym w.held)
    (changed area (Torn at n) d (pasted at w.bytes (part area d))
    (torn_pasted at n w.bytes (part area d) w.within w.fits))

-- and when all of them were written
pub changed_to : (area : Area) (at : ℕ) (bytes : List ℕ) (d d' : Areas) →
    d' ≡ with_part area (pasted at bytes (part area d)) d → Changes area (Holds at bytes) d d'
changed_to area at bytes d d' held =
    subst (λ (x : Areas). Changes area (Holds at bytes) d x) (sym held)
    (changed area (Holds at bytes) d (pasted at bytes (part area d)) refl)

-- room was made before
pub written_from : (area : Area) (at : ℕ) (bytes : List ℕ) (d mid d' : Areas) → mid ≡ d →
    d' ≡ with_part area (pasted at bytes (part area mid)) mid →
    d' ≡ with_part area (pasted at bytes (part area d)) d
written_from area at bytes d mid d' same held =
    subst (λ (x : Areas). d' ≡ with_part area (pasted at bytes (part area x)) x) same held

-- two states that say the same
pub record Alike (s s' : State) : Type 0 where
  pub held : areas_of s'.held ≡ areas_of s.held
  pub synced : synced s' ≡ synced s
  pub ranges : s'.ranges.items ≡ s.ranges.items

pub same_alike : (s s' : State) → s' ≡ s → Alike s s'
same_alike s s' same = record {
  held = ap (λ (x : State). areas_of x.held) same;
  synced = ap (λ (x : State). synced x) same;
  ranges = ap (λ (x : State). x.ranges.items) same;
}

pub alike_after : (s mid s' : State) → Alike s mid → s' ≡ mid → Alike s s'
alike_after s mid s' alike same = subst (Alike s) (sym same) alike

alike_back : (s s' : State) → Alike s s' → Alike s' s
alike_back s s' alike =
    record { held = sym alike.held; synced = sym alike.synced; ranges = sym alike.ranges }

alike_left : (s s' : State) → Alike s s' → (c : Areas) → leaves s' c → leaves s c
unfolding leaves
alike_left s s' alike c (inl now) = inl (now ∙ alike.held)
alike_left s s' alike c (inr torn) = inr (risk_same s s' alike.synced alike.ranges c torn)

-- so a crash may leave the same
pub alike_leaves : (s s' : State) → Alike s s' → (c : Areas) → leaves s' c ↔ leaves s c
alike_leaves s s' alike c =
    (alike_left s s' alike c, alike_left s' s (alike_back s s' alike) c)

pub follows_alike : (area : Area) (at n : ℕ) (s s' : State) → Alike s s' →
    Follows (Changes area (Torn at n)) (leaves s) (leaves s')
follows_alike area at n s s' alike c left =
    let none = unchanged area (Torn at n) c (torn_same at n (part area c)) in
    (c, (alike_leaves s s' alike c).0 left, none)

-- a range that is recorded from one of them is recorded from the other
pub risks_from : {T E : Type 0} {area : Area} {at n : ℕ} {s mid new : State} {r : Result T E} →
    Alike s mid → Risks area at n mid new r → Risks area at n s new r
risks_from {s = s} {mid} {r = r} alike risks = record {
  crash = λ c left.
      let from = risks.crash c left in (from.0, (alike_leaves s mid alike from.0).0 from.1, from.2);
  torn = on_ok_weaker r
      (λ reaches d c left. reaches d c ((alike_leaves s mid alike d).1 left)) risks.torn;
  refused = on_err_weaker r (λ same c. (
    λ now. (alike_leaves s mid alike c).0 ((same c).0 now),
    λ was. (same c).1 ((alike_leaves s mid alike c).1 was),
  )) risks.refused;
}

-- nothing was written
pub changed_none : (area : Area) (at n : ℕ) (d d' : Areas) → d' ≡ d → Changes area (Torn at n) d d'
changed_none area at n d d' same =
    subst (λ (x : Areas). Changes area (Torn at n) d x) (sym same)
    (unchanged area (Torn at n) d (torn_same at n (part area d)))

-- everything is synced
pub only_synced : (s : State) (d : Areas) → areas_of s.held ≡ d → synced s ≡ d →
    s.ranges.items ≡ [] → Only d (leaves s)
unfolding leaves at_risk
only_synced s d held same none c (inl now) = now ∙ held
only_synced s d held same none c (inr torn) =
    let here : c ≡ synced s =
    subst (λ (rs : List Range). torn_by rs (λ x. x ≡ synced s) c) none torn in
    here ∙ same

pub settled_leaves : (s s' : State) → areas_of s'.held ≡ areas_of s.held →
    synced s' ≡ areas_of s.held → s'.ranges.items ≡ [] → (c : Areas) → leaves s' c → leaves s c
settled_leaves s s' held same none c left =
    subst (leaves s) (sym (only_synced s' (areas_of s.held) held same none c left)) (reads_left s)

-- any bytes are possible in an area that was loaded
any_torn : (old new : List ℕ) (n : ℕ) → old ≡ [] → length new ≤ n → Torn 0 n old new
any_torn old new n none fits = record {
  before = refl;
  after = drop_all (0 + n) new (omega (arith, fits))
      ∙ sym (drop_all (0 + n) old (omega (arith, ap length none)));
  no_shorter = omega (arith, ap length none);
  no_longer = omega (arith, fits);
}

-- all three areas of a blank disk were loaded
pub all_loaded : (s0 s1 s2 s3 : State) →
    areas_of s0.held ≡ record { select = []; a = []; b = [] } →
    Loaded Select s0 s1 → Loaded A s1 s2 → Loaded B s2 s3 → IsUnsynced s3
all_loaded s0 s1 s2 s3 blank select a b c fits =
    let d0 : Areas = record { select = []; a = []; b = [] } in
    let d1 : Areas = record { select = c.select; a = []; b = [] } in
    let d2 : Areas = record { select = c.select; a = c.a; b = [] } in
    let left0 = subst (leaves s0) blank (reads_left s0) in
    let left1 = select.torn d0 d1 left0 (
      any_torn [] c.select (length s1.held.select.items) refl
          (omega (arith, fits.select, ap length a.others.1, ap length b.others.1)),
      refl,
      refl,
    ) in
    let left2 = a.torn d1 d2 left1 (
      any_torn [] c.a (length s2.held.a.items) refl
          (omega (arith, fits.a, ap length b.others.2)),
      refl,
      refl,
    ) in
    b.torn d2 c left2
    (any_torn [] c.b (length s3.held.b.items) refl (omega (arith, fits.b)), refl, refl)

part_with : (area : Area) (next : List ℕ) (d : Areas) → part area (with_part area next d) ≡ next
part_with Select next d = refl
part_with A next d = refl
part_with B next d = refl

-- a range from the start is recorded, and then the area holds as many other bytes
pub loaded_by : {area : Area} {n : ℕ} {s s' : State} (next : List ℕ) (mid : State) →
    length next ≡ n → mid.held ≡ s.held →
    areas_of s'.held ≡ with_part area next (areas_of mid.held) →
    Reaches (Changes area (Torn 0 n)) (leaves s) (leaves s') → Loaded area s s'
loaded_by {area} {n} {s} {s'} next mid size held set torn =
    let d : Areas = areas_of s.held in
    let d' : Areas = areas_of s'.held in
    let any : List ℕ → List ℕ → Type 0 = λ _ _. Unit {0} in
    let whole : d' ≡ with_part area next d =
    set ∙ ap (λ (h : Contents). with_part area next (areas_of h)) held in
    let long : length (part area d') ≡ n =
    ap (λ (x : Areas). length (part area x)) whole ∙ ap length (part_with area next d) ∙ size in
    record {
      others = subst (λ (x : Areas). Changes area any d x) (sym whole) (changed area any d next tt);
      torn = subst (λ (k : ℕ). Reaches (Changes area (Torn 0 k)) (leaves s) (leaves s')) (sym long)
          torn;
    }

fill_torn : (fill : ℕ) (r : Range) (m : Areas) →
    Changes r.area (Torn r.at r.len) m (filled_in fill r m)
fill_torn fill r m =
    let old = part r.area m in
    let bytes = replicate r.len fill in
    let next = with_part r.area (pasted r.at bytes old) m in
    let P : Bool → Type 0 = λ b. Changes r.area (Torn r.at r.len) m (cond b next m) in
    elim (leb_tells r.at (length old)) [
      | inl fits ↦ subst P (sym fits.0) (changed r.area (Torn r.at r.len) m (pasted r.at bytes old)
          (torn_pasted r.at r.len bytes old fits.1 (omega (arith, length-replicate r.len fill))))
      | inr past ↦ subst P (sym past.0)
          (unchanged r.area (Torn r.at r.len) m (torn_same r.at r.len old))
    ]

fills_torn : (fill : ℕ) (ranges : List Range) (P : Areas → Type 0) (m : Areas) → P m →
    torn_by ranges P (filled_by fill ranges m)
fills_torn fill [] P m p = p
fills_torn fill (r ∷ ranges) P m p =
    fills_torn fill ranges (torn_in r P) (filled_in fill r m) (m, inr p, fill_torn fill r m)

-- a crash may leave what results if each byte that was written became this one
pub filled_left : (fill : ℕ) (s : State) → leaves s (filled fill s)
unfolding leaves at_risk filled
filled_left fill s = inr (fills_torn fill s.ranges.items (λ x. x ≡ synced s) (synced s) refl)

-- the next range is filled
pub filled_next : {read ranges : List Range} {r : Range} {d' whole : Areas} (fill i : ℕ)
    (d : Areas) → read ≡ ranges → i < length read → r ≡ get_or read i r →
    d' ≡ filled_in fill r d → filled_by fill (drop i ranges) d ≡ whole →
    filled_by fill (drop (i + 1) ranges) d' ≡ whole
filled_next {read} {ranges} {r} fill i d same within is next so_far =
    let inside : i < length ranges = omega (arith, ap length same, within) in
    let here : r ≡ get_or ranges i r = is ∙ ap (λ (rs : List Range). get_or rs i r) same in
    let first : drop i ranges ≡ r ∷ drop (suc i) ranges =
    drop-cons ranges i r inside ∙ ap (λ (x : Range). x ∷ drop (suc i) ranges) (sym here) in
    rw add-one (ap (filled_by fill (drop (suc i) ranges)) next
    ∙ ap (λ (rs : List Range). filled_by fill rs d) (sym first) ∙ so_far)

-- once every range was filled
pub all_filled : (fill i : ℕ) (s : State) (ranges : List Range) (d : Areas) →
    ranges ≡ s.ranges.items → length ranges ≤ i →
    filled_by fill (drop i s.ranges.items) d ≡ filled_by fill s.ranges.items (synced s) →
    d ≡ filled fill s
unfolding filled
all_filled fill i s ranges d same le is =
    let past : length s.ranges.items ≤ i = omega (arith, ap length same, le) in
    sym (ap (λ (rs : List Range). filled_by fill rs d) (drop_all i s.ranges.items past)) ∙ is
