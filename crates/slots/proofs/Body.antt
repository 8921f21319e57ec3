-- What a rewrite has written: a value without its head, and entries behind it.
use Rattle.std.proofs.Common.{◌≡◌, ◌≢◌, ◌<◌, ◌≤◌, ◌+◌, ℕ, Bool, cond, true, false, ◌&&◌, List, [], ◌++◌, refl, sym, ap, ◌∙◌, subst, arith, ◌⊎◌, inl, inr, ⊎_elim, leb, ltb}
use Rattle.std.proofs.lemmas.Bool.{and_from, cases_Bool, le-leb, lt-ltb, ltb-false, ltb-true}
use Rattle.slots.specs.declared.saving.TheConstants.{HEAD}
use Rattle.slots.specs.Beside.{all_written, head_of, without_head}
use Rattle.slots.specs.Disk.{covers, first_read, put, Content, Entry, Item, Of, Other, Reading, Value, Write}
use Rattle.slots.proofs.Copies.{chain-both, chain-written, tail-both, written-known, next-number, next-seal, AreNext, HasBytes}
use Rattle.slots.proofs.Disk.{outside-below, put-makes, Makes}
use Rattle.slots.proofs.Reading.{all_read, begins-same, begins-together, tail, tail-end, AreSame, Begins, IsKnown, Only, Nothing}

-- A slot that begins so once the head is written. No entry belongs there but those up to this
-- last one.
pub record IsBody (c : Content) (v : Item) (ys : List Item) : Type 0 where
  pub begins : Begins (put (head_of v) c) v ys
  pub headless : (n : ℕ) (x : Item) → c 0 ≡ Of x n → x.base ≢ v.seal
  pub known : (k n : ℕ) (y : Item) → c k ≡ Of y n → y.kind ≡ Entry → y.base ≡ v.seal
      → IsKnown (all_read v ys).last y

-- ---- writes

-- one write, and then the same again
pub makes-again : (w : Write) (c d e : Content) → Makes w c d → Makes w d e → Makes w c e
makes-again w c d e first second k = record {
  outside = λ out. (second k).outside out ∙ (first k).outside out;
  cases =
      ⊎_elim {C = (e k ≡ c k) ⊎ ((e k ≡ w.bytes k) ⊎ (e k ≡ Other))}
      (λ (same : e k ≡ d k).
      ⊎_elim {C = (e k ≡ c k) ⊎ ((e k ≡ w.bytes k) ⊎ (e k ≡ Other))}
      (λ (old : d k ≡ c k). inl (same ∙ old))
      (λ (new : (d k ≡ w.bytes k) ⊎ (d k ≡ Other)).
      ⊎_elim {C = (e k ≡ c k) ⊎ ((e k ≡ w.bytes k) ⊎ (e k ≡ Other))}
      (λ (this : d k ≡ w.bytes k). inr (inl (same ∙ this)))
      (λ (torn : d k ≡ Other). inr (inr (same ∙ torn))) new)
      (first k).cases)
      (λ (new : (e k ≡ w.bytes k) ⊎ (e k ≡ Other)). inr new) (second k).cases;
}

covered : (w : Write) (k : ℕ) → w.from ≤ k → k < w.from + w.count → covers w k ≡ true
covered w k above below =
    and_from _ _ (le-leb w.from k above) (lt-ltb k (w.from + w.count) below)

-- what was put is there
pub put-there : (w : Write) (c : Content) (k : ℕ) → w.from ≤ k → k < w.from + w.count
    → put w c k ≡ w.bytes k
put-there w c k above below =
    ap (λ (b : Bool). cond b (w.bytes k) (c k)) (covered w k above below)

outside-behind : (w : Write) (k : ℕ) → w.from + w.count ≤ k → covers w k ≡ false
outside-behind w k above = out (leb w.from k) (ltb k (w.from + w.count)) refl
  where
    out : (a b : Bool) → ltb k (w.from + w.count) ≡ b → (a && b) ≡ false
    out true true e =
        let below = ltb-true k (w.from + w.count) e in
        absurd (omega (arith, below, above))
    out true false e = refl
    out false b e = refl

pub outside-head : (v : Item) (k : ℕ) → HEAD ≤ k → covers (head_of v) k ≡ false
outside-head v k above = outside-behind (head_of v) k (omega (arith, above))

pub put-behind : (w : Write) (c : Content) (k : ℕ) → w.from + w.count ≤ k → put w c k ≡ c k
put-behind w c k above =
    ap (λ (b : Bool). cond b (w.bytes k) (c k)) (outside-behind w k above)

-- the head changes nothing behind it, and hides what is there
pub same-with-head : (v : Item) (c d : Content) (end : ℕ)
    → ((k : ℕ) → HEAD ≤ k → k < end → d k ≡ c k)
    → AreSame end (put (head_of v) c) (put (head_of v) d)
same-with-head v c d end same k below =
    ⊎_elim {C = put w d k ≡ put w c k}
    (λ (is : ltb k HEAD ≡ true).
    let less = ltb-true k HEAD is in
    put-there w d k (omega arith) (omega (arith, less))
    ∙ sym (put-there w c k (omega arith) (omega (arith, less))))
    (λ (not : ltb k HEAD ≡ false).
    let more = ltb-false k HEAD not in
    put-behind w d k (omega (arith, more))
    ∙ same k more below
    ∙ sym (put-behind w c k (omega (arith, more))))
    (cases_Bool (ltb k HEAD))
  where
    w : Write
    w = head_of v

-- ---- the value

none-of : (n : ℕ) (x : Item) → Other ≡ Of x n → ⊥
none-of n x e = cc

value-bytes : (v : Item) (k : ℕ) → HEAD ≤ k → (without_head v).bytes k ≡ Of v k
value-bytes v k above = go (ltb k HEAD) refl
  where
    go : (b : Bool) → ltb k HEAD ≡ b → cond b Other (Of v k) ≡ Of v k
    go true e =
        let below = ltb-true k HEAD e in
        absurd (omega (arith, below, above))
    go false e = refl

pub value-of-bytes : (v : Item) (k n : ℕ) (x : Item) → (without_head v).bytes k ≡ Of x n → v ≡ x
value-of-bytes v k n x e = go (ltb k HEAD) e
  where
    go : (b : Bool) → cond b Other (Of v k) ≡ Of x n → v ≡ x
    go true e = absurd (none-of n x e)
    go false e = cc

-- once the value is written and synced
pub body-first : (v : Item) (c : Content) → v.kind ≡ Value → v.base ≡ v.seal → HEAD < v.size
    → ((k n : ℕ) (y : Item) → c k ≡ Of y n → y.kind ≡ Entry → y.base ≢ v.seal)
    → IsBody (put (without_head v) c) v []
body-first v c kind own large old = record {
  begins = record {
    value = record {
      head = byte 0 (omega (arith, large));
      all = λ n below. ap (put (head_of v) d)
          (plus n) ∙ byte n below;
    };
    kind = kind;
    own = own;
    some = omega (arith, large);
    chain = tt;
  };
  headless = λ n x e.
      absurd (none-of n x (sym
      (put-there (without_head v) c 0 (omega arith) (omega (arith, large))) ∙ e));
  known = λ k n y e is base.
      absurd
      (⊎_elim {C = ⊥} (λ (same : d k ≡ c k). old k n y (sym same ∙ e) is base)
      (λ (new : (d k ≡ (without_head v).bytes k) ⊎ (d k ≡ Other)).
      ⊎_elim {C = ⊥}
      (λ (this : d k ≡ (without_head v).bytes k).
      not-entry
      (sym kind ∙ ap (λ (i : Item). i.kind) (value-of-bytes v k n y (sym this ∙ e)) ∙ is))
      (λ (torn : d k ≡ Other). none-of n y (sym torn ∙ e)) new)
      (put-makes (without_head v) c k).cases);
}
  where
    d : Content
    d = put (without_head v) c

    not-entry : Value ≡ Entry → ⊥
    not-entry e = cc

    plus : (n : ℕ) → 0 + n ≡ n
    plus n = omega arith

    byte : (n : ℕ) → n < v.size → put (head_of v) d n ≡ Of v n
    byte n below =
        ⊎_elim {C = put (head_of v) d n ≡ Of v n}
        (λ (is : ltb n HEAD ≡ true).
        let less = ltb-true n HEAD is in
        put-there (head_of v) d n (omega arith) (omega (arith, less)))
        (λ (not : ltb n HEAD ≡ false).
        let more = ltb-false n HEAD not in
        put-behind (head_of v) d n (omega (arith, more))
        ∙ put-there (without_head v) c n (omega arith) (omega (arith, below))
        ∙ value-bytes v n more)
        (cases_Bool (ltb n HEAD))

-- ---- entries behind it

-- once these are written and synced
pub body-more : {c : Content} {v : Item} {ys : List Item} (xs : List Item) (e : Content)
    → IsBody c v ys
    → HEAD < v.size
    → AreNext (all_read v ys) xs
    → Makes (all_written xs (all_read v ys).end) c e
    → IsBody (put (all_written xs (all_read v ys).end) e) v (ys ++ xs)
body-more {c} {v} {ys} xs e body large next makes = record {
  begins = record {
    value = still.value;
    kind = still.kind;
    own = still.own;
    some = still.some;
    chain =
        chain-both (put (head_of v) d) (first_read v) ys xs still.chain
        (chain-written (put (head_of v) d) (all_read v ys) xs next bytes);
  };
  headless = λ n x is. body.headless n x (sym (before 0 (omega (arith, above, large))) ∙ is);
  known = known;
}
  where
    w : Write
    w = all_written xs (all_read v ys).end

    d : Content
    d = put w e

    twice : Makes w c d
    twice = makes-again w c e d makes (put-makes w e)

    above : v.size ≤ (all_read v ys).end
    above = tail-end (first_read v) ys

    before : (k : ℕ) → k < (all_read v ys).end → d k ≡ c k
    before k below = (twice k).outside (outside-below w k below)

    still : Begins (put (head_of v) d) v ys
    still =
        begins-same (put (head_of v) c) (put (head_of v) d) (all_read v ys).end v ys
        (same-with-head v c d (all_read v ys).end (λ k more below. before k below))
        (omega arith) body.begins

    bytes : HasBytes (put (head_of v) d) (all_read v ys).end xs
    bytes k over below =
        put-behind (head_of v) d k (omega (arith, above, large, over))
        ∙ put-there w e k over below

    number : (all_read v ys).found.number ≡ (all_read v ys).last.number
    number = (begins-together (put (head_of v) c) v ys body.begins).number

    last : all_read v (ys ++ xs) ≡ tail (all_read v ys) xs
    last = tail-both (first_read v) ys xs

    known : (k n : ℕ) (y : Item) → d k ≡ Of y n → y.kind ≡ Entry → y.base ≡ v.seal
        → IsKnown (all_read v (ys ++ xs)).last y
    known k n y is kind base =
        subst (λ (r : Reading). IsKnown r.last y) (sym last)
        (⊎_elim {C = IsKnown (tail (all_read v ys) xs).last y}
        (λ (same : d k ≡ c k).
        let old = body.known k n y (sym same ∙ is) kind base in
        let seal = old.seal in
        let low = old.number in
        let more = next-seal (all_read v ys) xs next in
        let grows = (next-number (all_read v ys) xs number next).0 in
        record {
          seal = omega (arith, seal, more);
          number = omega (arith, low, grows);
          newer = old.newer;
        })
        (λ (new : (d k ≡ w.bytes k) ⊎ (d k ≡ Other)).
        ⊎_elim {C = IsKnown (tail (all_read v ys) xs).last y}
        (λ (this : d k ≡ w.bytes k).
        (written-known (all_read v ys) xs (all_read v ys).end k number next (sym this ∙ is)).2)
        (λ (torn : d k ≡ Other). absurd (none-of n y (sym torn ∙ is))) new)
        (twice k).cases)

-- ---- the head

-- With its head, no other entries count.
pub body-only : (c : Content) (v : Item) (ys : List Item) → IsBody c v ys
    → (all_read v ys).last.base ≡ v.seal
    → v.kind ≡ Value
    → Only Nothing (put (head_of v) c) (all_read v ys)
body-only c v ys body is_base is_value at y kind base whole =
    inl
    (⊎_elim {C = IsKnown (all_read v ys).last y}
    (λ (same : put (head_of v) c at ≡ c at).
    body.known at 0 y (sym same ∙ whole.head) kind (base ∙ is_base))
    (λ (new : (put (head_of v) c at ≡ Of v at) ⊎ (put (head_of v) c at ≡ Other)).
    ⊎_elim {C = IsKnown (all_read v ys).last y}
    (λ (this : put (head_of v) c at ≡ Of v at).
    let it : v ≡ y = same-item (sym this ∙ whole.head) in
    absurd (not-entry (sym is_value ∙ ap (λ (i : Item). i.kind) it ∙ kind)))
    (λ (torn : put (head_of v) c at ≡ Other). absurd (none-of 0 y (sym torn ∙ whole.head)))
    new)
    (put-makes (head_of v) c at).cases)
  where
    same-item : Of v at ≡ Of y 0 → v ≡ y
    same-item e = cc

    not-entry : Value ≡ Entry → ⊥
    not-entry e = cc
