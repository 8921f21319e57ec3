-- What writes leave of a file, and what is whole in it.
use Rattle.std.proofs.Common.{◌≡◌, ◌<◌, ◌+◌, ◌-◌, ℕ, zero, suc, Bool, cond, true, false, ◌&&◌, List, ◌∷◌, Some, None, length, refl, sym, ap, ◌∙◌, subst, arith, ◌⊎◌, inl, inr, ⊎_elim, leb, ltb, eqb}
use Rattle.std.proofs.lemmas.Bool.{and_from, and_parts, cases_Bool, eq-eqb, eqb-false, eqb-true, le-leb, leb-true, lt-ltb}
use Rattle.slots.specs.Disk.{covers, has_bytes, image_of, is_byte, left_by, put, same_item, same_kind, whole_at, whole_if, written, Cell, Content, Done, Entry, Fate, Fates, Item, Kind, Lost, Mark, Of, Other, Torn, Value, Write}

-- ---- items

pub kind-same : (a b : Kind) → same_kind a b ≡ true → a ≡ b
kind-same Value Value e = refl
kind-same Entry Entry e = refl
kind-same Mark Mark e = refl
kind-same Value Entry e = absurd cc
kind-same Value Mark e = absurd cc
kind-same Entry Value e = absurd cc
kind-same Entry Mark e = absurd cc
kind-same Mark Value e = absurd cc
kind-same Mark Entry e = absurd cc

pub kind-itself : (a : Kind) → same_kind a a ≡ true
kind-itself Value = refl
kind-itself Entry = refl
kind-itself Mark = refl

-- two items with the same fields
record AreAlike (x y : Item) : Type 0 where
  kind : x.kind ≡ y.kind
  size : x.size ≡ y.size
  number : x.number ≡ y.number
  seal : x.seal ≡ y.seal
  before : x.before ≡ y.before
  base : x.base ≡ y.base
  save : x.save ≡ y.save
  since : x.since ≡ y.since

both-same : (x y : Item) → AreAlike x y → x ≡ y
both-same x y a =
    ap (λ (z : Kind). record x { kind = z }) a.kind
    ∙ ap (λ (z : ℕ). record x { kind = y.kind; size = z }) a.size
    ∙ ap (λ (z : ℕ). record x { kind = y.kind; size = y.size; number = z }) a.number
    ∙ ap (λ (z : ℕ). record y
    { seal = z; before = x.before; base = x.base; save = x.save; since = x.since }) a.seal
    ∙ ap (λ (z : ℕ). record y
    { before = z; base = x.base; save = x.save; since = x.since }) a.before
    ∙ ap (λ (z : ℕ). record y { base = z; save = x.save; since = x.since }) a.base
    ∙ ap (λ (z : ℕ). record y { save = z; since = x.since }) a.save
    ∙ ap (λ (z : ℕ). record y { since = z }) a.since

pub item-same : (x y : Item) → same_item x y ≡ true → x ≡ y
item-same x y e =
    let parts = and_parts _ _ e in
    let first = and_parts _ _ parts.0 in
    let second = and_parts _ _ parts.1 in
    let a = and_parts _ _ first.0 in
    let b = and_parts _ _ first.1 in
    let c = and_parts _ _ second.0 in
    let d = and_parts _ _ second.1 in
    both-same x y
    (record {
      kind = kind-same x.kind y.kind a.0;
      size = eqb-true _ _ a.1;
      number = eqb-true _ _ b.0;
      seal = eqb-true _ _ b.1;
      before = eqb-true _ _ c.0;
      base = eqb-true _ _ c.1;
      save = eqb-true _ _ d.0;
      since = eqb-true _ _ d.1;
    })

pub item-itself : (x : Item) → same_item x x ≡ true
item-itself x =
    rw (
      kind-itself x.kind,
      eq-eqb x.size x.size refl,
      eq-eqb x.number x.number refl,
      eq-eqb x.seal x.seal refl,
      eq-eqb x.before x.before refl,
      eq-eqb x.base x.base refl,
      eq-eqb x.save x.save refl,
      eq-eqb x.since x.since refl,
    )
    refl

-- ---- what is whole

pub record IsWhole (c : Content) (at : ℕ) (x : Item) : Type 0 where
  pub head : c at ≡ Of x 0
  pub all : (n : ℕ) → n < x.size → c (at + n) ≡ Of x n

byte-is : (b : Cell) (x : Item) (n : ℕ) → is_byte b x n ≡ true → b ≡ Of x n
byte-is (Of y place) x n e =
    let parts = and_parts (same_item y x) (eqb place n) e in
    let same = item-same y x parts.0 in
    let where_is = eqb-true place n parts.1 in
    cc
byte-is Other x n e = absurd cc

byte-itself : (x : Item) (n : ℕ) → is_byte (Of x n) x n ≡ true
byte-itself x n = and_from _ _ (item-itself x) (eq-eqb n n refl)

bytes-are : (c : Content) (at : ℕ) (x : Item) (n : ℕ) → has_bytes c at x n ≡ true → (k : ℕ)
    → k < n
    → c (at + k) ≡ Of x k
bytes-are c at x zero e k below = absurd (omega arith)
bytes-are c at x (suc n) e k below =
    let parts = and_parts (is_byte (c (at + n)) x n) (has_bytes c at x n) e in
    ⊎_elim {C = c (at + k) ≡ Of x k}
    (λ (is : eqb k n ≡ true).
    subst (λ (z : ℕ). c (at + z) ≡ Of x z) (sym (eqb-true k n is))
    (byte-is (c (at + n)) x n parts.0))
    (λ (not : eqb k n ≡ false).
    let apart = eqb-false k n not in
    bytes-are c at x n parts.1 k (omega (arith, below, apart)))
    (cases_Bool (eqb k n))

bytes-from : (c : Content) (at : ℕ) (x : Item) (n : ℕ)
    → ((k : ℕ) → k < n → c (at + k) ≡ Of x k)
    → has_bytes c at x n ≡ true
bytes-from c at x zero all = refl
bytes-from c at x (suc n) all =
    and_from _ _ (rw (all n (omega arith)) (byte-itself x n))
    (bytes-from c at x n (λ k below. all k (omega (arith, below))))

some-same : {X : Type 0} (x y : X) → Some x ≡ Some y → x ≡ y
some-same x y e = cc

pub whole-sound : (c : Content) (at : ℕ) (x : Item) → whole_at c at ≡ Some x → IsWhole c at x
whole-sound c at x e = go (c at) refl e
  where
    go : (b : Cell) → c at ≡ b → whole_if c at b ≡ Some x → IsWhole c at x
    go (Of y zero) is e = last (has_bytes c at y y.size) refl e
      where
        last : (b : Bool) → has_bytes c at y y.size ≡ b → cond b (Some y) None ≡ Some x
            → IsWhole c at x
        last true all e =
            subst (IsWhole c at) (some-same y x e)
            (record { head = is; all = bytes-are c at y y.size all })
        last false all e = absurd cc
    go (Of y (suc n)) is e = absurd cc
    go Other is e = absurd cc

pub whole-complete : (c : Content) (at : ℕ) (x : Item) → IsWhole c at x → whole_at c at ≡ Some x
whole-complete c at x w =
    ap (whole_if c at) w.head
    ∙ ap (λ (b : Bool). cond b (Some x) None) (bytes-from c at x x.size w.all)

pub whole-alone : (c : Content) (at : ℕ) (x y : Item) → IsWhole c at x → IsWhole c at y → x ≡ y
whole-alone c at x y w v =
    some-same x y (sym (whole-complete c at x w) ∙ whole-complete c at y v)

-- ---- what a write leaves

-- the byte at this place after a write: the one before, or the one that was written, or another
pub record MayBe (w : Write) (old new : Cell) (k : ℕ) : Type 0 where
  pub outside : covers w k ≡ false → new ≡ old
  pub cases : (new ≡ old) ⊎ ((new ≡ w.bytes k) ⊎ (new ≡ Other))

-- a write makes the second content of the first one
abbrev pub Makes : Write → Content → Content → Type 0
Makes w c d = (k : ℕ) → MayBe w (c k) (d k) k

left-may : (w : Write) (old : Cell) (k : ℕ) (fate : Fate)
    → (left_by fate old (w.bytes k) ≡ old)
    ⊎ ((left_by fate old (w.bytes k) ≡ w.bytes k) ⊎ (left_by fate old (w.bytes k) ≡ Other))
left-may w old k Lost = inl refl
left-may w old k Done = inr (inl refl)
left-may w old k Torn = inr (inr refl)

pub image-makes : (f : Fates) (c : Content) (w : Write) (ws : List Write)
    → Makes w (image_of f c ws) (image_of f c (w ∷ ws))
image-makes f c w ws k = go (covers w k) refl
  where
    go : (b : Bool) → covers w k ≡ b
        → MayBe w (image_of f c ws k)
        (cond b (left_by (f (length ws) k) (image_of f c ws k) (w.bytes k)) (image_of f c ws k)) k
    go true e = record {
      outside = λ no. absurd cc;
      cases = left-may w (image_of f c ws k) k (f (length ws) k);
    }
    go false e = record { outside = λ no. refl; cases = inl refl }

pub put-makes : (w : Write) (c : Content) → Makes w c (put w c)
put-makes w c k = go (covers w k) refl
  where
    go : (b : Bool) → covers w k ≡ b → MayBe w (c k) (cond b (w.bytes k) (c k)) k
    go true e = record { outside = λ no. absurd cc; cases = inr (inl refl) }
    go false e = record { outside = λ no. refl; cases = inl refl }

-- no byte of this item is written
abbrev pub IsFree : Write → Item → Type 0
IsFree w x = (k n : ℕ) → w.bytes k ≡ Of x n → ⊥

byte-before : {w : Write} {old new : Cell} {k : ℕ} (x : Item) (n : ℕ) → MayBe w old new k
    → IsFree w x
    → new ≡ Of x n
    → old ≡ Of x n
byte-before {w} {old} {new} {k} x n may free is =
    ⊎_elim {C = old ≡ Of x n} (λ (same : new ≡ old). sym same ∙ is)
    (λ (other : (new ≡ w.bytes k) ⊎ (new ≡ Other)).
    ⊎_elim {C = old ≡ Of x n}
    (λ (written : new ≡ w.bytes k). absurd (free k n (sym written ∙ is)))
    (λ (torn : new ≡ Other). absurd (apart x n (sym torn ∙ is))) other)
    may.cases
  where
    apart : (x : Item) (n : ℕ) → Other ≡ Of x n → ⊥
    apart x n e = cc

-- what is whole then, and wasn't written, was so before
pub whole-before : (w : Write) (c d : Content) (at : ℕ) (x : Item) → Makes w c d → IsFree w x
    → IsWhole d at x
    → IsWhole c at x
whole-before w c d at x makes free whole = record {
  head = byte-before x 0 (makes at) free whole.head;
  all = λ n below. byte-before x n (makes (at + n)) free (whole.all n below);
}

pub outside-below : (w : Write) (k : ℕ) → k < w.from → covers w k ≡ false
outside-below w k below = go (leb w.from k) refl
  where
    go : (b : Bool) → leb w.from k ≡ b → (b && ltb k (w.from + w.count)) ≡ false
    go true e =
        let above = leb-true w.from k e in
        absurd (omega (arith, above, below))
    go false e = refl

-- what is before a write stays
pub same-below : (w : Write) (c d : Content) → Makes w c d → (k : ℕ) → k < w.from → d k ≡ c k
same-below w c d makes k below = (makes k).outside (outside-below w k below)

-- an item that was put is whole there
pub put-whole : (x : Item) (at : ℕ) (c : Content) → 0 < x.size
    → IsWhole (put (written x at) c) at x
put-whole x at c some = record {
  head = ap (λ (z : ℕ). put (written x at) c z) (plus-zero at) ∙ byte 0 some;
  all = byte;
}
  where
    plus-zero : (n : ℕ) → n ≡ n + 0
    plus-zero n = omega arith

    back : (at n : ℕ) → at + n - at ≡ n
    back at n = omega arith

    inside : (n : ℕ) → n < x.size → covers (written x at) (at + n) ≡ true
    inside n below = and_from _ _ (le-leb at (at + n) (omega arith))
        (lt-ltb (at + n) (at + x.size) (omega (arith, below)))

    byte : (n : ℕ) → n < x.size → put (written x at) c (at + n) ≡ Of x n
    byte n below =
        ap (λ (b : Bool). cond b (Of x (at + n - at)) (c (at + n))) (inside n below)
        ∙ ap (Of x) (back at n)

pub free-of : (x y : Item) (at : ℕ) → (x ≡ y → ⊥) → IsFree (written x at) y
free-of x y at apart k n e = apart cc
