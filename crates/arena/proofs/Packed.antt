-- The position of an item among chunks of which all except the last are full.
use Rattle.std.proofs.Common.{◌≡◌, ℕ, zero, suc, ◌+◌, ◌-◌, ◌*◌, ◌<◌, ◌≤◌, List, [], ◌∷◌, ◌++◌}
use Rattle.std.proofs.Common.{length, get_or, set, refl, sym, ap, ◌∙◌, subst, arith}
use Rattle.std.proofs.Math.ListN.{get_or-append, length-append}
use Rattle.std.proofs.lemmas.List.{get_or-append_right, set-append_left, set-append_right}
use Rattle.std.proofs.lemmas.List.{length-set, append_assoc, append-nil}
use Rattle.arena.specs.Row.{Row, row}
use Rattle.arena.specs.Chunked.{flat, IsPacked}
use Rattle.arena.specs.declared.root.TheConstants.{CHUNK}

-- a chunk that isn't the last one is full
within_first : (n len r : ℕ) → (0 < n → len ≡ CHUNK) → r < CHUNK → r < len + n → r < len
within_first zero len r full few below = omega arith
within_first (suc n) len r full few below =
    let long : len ≡ CHUNK = full (omega arith) in omega arith

full_one : (m len n : ℕ) → 0 < len → len ≤ CHUNK → (0 < n → len ≡ CHUNK) → len + n ≡ CHUNK * m
    → len ≡ CHUNK
full_one m len zero some few full all = omega arith
full_one m len (suc n) some few full all = full (omega arith)

none_after : (n len : ℕ) → (0 < n → len ≡ CHUNK) → len + n < CHUNK → n ≡ 0
none_after zero len full few = refl
none_after (suc n) len full few =
    let long : len ≡ CHUNK = full (omega arith) in absurd (omega arith)

none : {X : Type 0} (xs : List X) → length xs ≡ 0 → xs ≡ []
none [] e = refl
none (x ∷ xs) e = absurd (omega arith)

-- the number i is that of the r-th item of the q-th chunk, if there is such an item
pub record IsAt (q r i : ℕ) : Type 0 where
  pub is : i ≡ CHUNK * q + r
  pub few : r < CHUNK

-- the same in the chunks behind the first one
later : {q r i : ℕ} → IsAt (suc q) r i → IsAt q r (i - CHUNK)
later at = record { is = omega (arith, at.is); few = at.few }

module _ {E : Type 0} where
  -- the chunk c with another item at r
  abbrev pub rewritten : Row E → ℕ → E → Row E
  rewritten c r w = row (set c.items r w) c.capacity

  -- the i-th item is the r-th of the q-th chunk
  pub record Lies (cs : List (Row E)) (q r i : ℕ) (c : Row E) : Type 0 where
    pub within : r < length c.items
    pub read : (x : E) → x ≡ get_or c.items r x → x ≡ get_or (flat cs) i x
    pub write : (w : E) → flat (set cs q (rewritten c r w)) ≡ set (flat cs) i w
    pub packed : (w : E) → IsPacked (set cs q (rewritten c r w))

  pub chunk_there : (cs : List (Row E)) → IsPacked cs → (q r : ℕ) → r < CHUNK
      → CHUNK * q + r < length (flat cs) → q < length cs
  chunk_there [] p q r few below = absurd (omega arith)
  chunk_there (c ∷ cs) p zero r few below = omega arith
  chunk_there (c ∷ cs) p (suc q) r few below =
      let both : length (c.items ++ flat cs) ≡ length c.items + length (flat cs) =
      length-append c.items (flat cs) in
      omega (arith, chunk_there cs p.4 q r few (omega (arith, p.2)))

  pub lies : (cs : List (Row E)) → IsPacked cs → (q : ℕ) {r i : ℕ} {c : Row E} → IsAt q r i
      → i < length (flat cs) → c ≡ get_or cs q c → Lies cs q r i c
  lies [] p q at below is = absurd (omega arith)
  lies (c₀ ∷ cs) p zero {r} {i} at below is =
      let both : length (c₀.items ++ flat cs) ≡ length c₀.items + length (flat cs) =
      length-append c₀.items (flat cs) in
      let same : i ≡ r = omega (arith, at.is) in
      let here : i < length c₀.items =
      within_first (length (flat cs)) (length c₀.items) i p.3 (omega (arith, at.few))
      (omega arith) in
      subst (λ (d : Row E). Lies (c₀ ∷ cs) zero r i d) (sym is)
      (subst (λ (j : ℕ). Lies (c₀ ∷ cs) zero j i c₀) same (record {
        within = here;
        read = λ x e. e ∙ sym (get_or-append c₀.items (flat cs) x i here);
        write = λ w. sym (set-append_left c₀.items (flat cs) i w here);
        packed = λ w. let long = length-set c₀.items i w in (
          p.0,
          subst (λ (n : ℕ). 0 < n) (sym long) p.1,
          subst (λ (n : ℕ). n ≤ CHUNK) (sym long) p.2,
          (λ more. long ∙ p.3 more),
          p.4,
        );
      }))
  lies (c₀ ∷ cs) p (suc q) {r} {i} at below is =
      let both : length (c₀.items ++ flat cs) ≡ length c₀.items + length (flat cs) =
      length-append c₀.items (flat cs) in
      let full : length c₀.items ≡ CHUNK = p.3 (omega (arith, p.2)) in
      let past : CHUNK ≤ i = omega (arith, at.is) in
      let rest = lies cs p.4 q (later at) (omega arith) is in
      record {
        within = rest.within;
        read = λ x e. rest.read x e
            ∙ sym (get_or-append_right c₀.items (flat cs) CHUNK i x full past);
        write = λ w. ap (λ (ys : List E). c₀.items ++ ys) (rest.write w)
            ∙ sym (set-append_right c₀.items (flat cs) CHUNK i w full past);
        packed = λ w. (p.0, p.1, p.2, (λ _. full), rest.packed w);
      }

  -- a chunk of one item, behind chunks that are all full
  pub adds : (cs : List (Row E)) → IsPacked cs → (m : ℕ) → length (flat cs) ≡ CHUNK * m → (x : E)
      → (flat (cs ++ row (x ∷ []) CHUNK ∷ []) ≡ flat cs ++ x ∷ []) × IsPacked
      (cs ++ row (x ∷ []) CHUNK ∷ [])
  adds [] p m all x = (refl, (refl, omega arith, omega arith, (λ more. absurd (omega arith)), tt))
  adds (c ∷ cs) p m all x =
      let both : length (c.items ++ flat cs) ≡ length c.items + length (flat cs) =
      length-append c.items (flat cs) in
      let full : length c.items ≡ CHUNK =
      full_one m (length c.items) (length (flat cs)) p.1 p.2 p.3 (sym both ∙ all) in
      let rest = adds cs p.4 (m - 1) (omega arith) x in (
        ap (λ (ys : List E). c.items ++ ys) rest.0
            ∙ sym (append_assoc c.items (flat cs) (x ∷ [])),
        (p.0, p.1, p.2, (λ _. full), rest.1),
      )

  -- another item in the last chunk, which isn't full
  pub record Extends (cs : List (Row E)) (q : ℕ) (c : Row E) (x : E) : Type 0 where
    pub room : length c.items < c.capacity
    pub items : flat (set cs q (row (c.items ++ x ∷ []) c.capacity)) ≡ flat cs ++ x ∷ []
    pub packed : IsPacked (set cs q (row (c.items ++ x ∷ []) c.capacity))

  pub last_there : (cs : List (Row E)) → IsPacked cs → (q r : ℕ) → length (flat cs) ≡ CHUNK * q + r
      → 0 < r → q < length cs
  last_there [] p q r all some = absurd (omega arith)
  last_there (c ∷ cs) p zero r all some = omega arith
  last_there (c ∷ cs) p (suc q) r all some =
      let both : length (c.items ++ flat cs) ≡ length c.items + length (flat cs) =
      length-append c.items (flat cs) in
      let full : length c.items ≡ CHUNK = p.3 (omega (arith, p.2)) in
      omega (arith, last_there cs p.4 q r (omega arith) some)

  pub extends : {r : ℕ} {c : Row E} (cs : List (Row E)) → IsPacked cs → (q : ℕ)
      → IsAt q r (length (flat cs)) → 0 < r → c ≡ get_or cs q c → (x : E) → Extends cs q c x
  extends [] p q at some is x = absurd (omega (arith, at.is))
  extends (c₀ ∷ cs) p zero at some is x =
      let both : length (c₀.items ++ flat cs) ≡ length c₀.items + length (flat cs) =
      length-append c₀.items (flat cs) in
      let ends : length (flat cs) ≡ 0 =
      none_after (length (flat cs)) (length c₀.items) p.3 (omega (arith, at.is, at.few)) in
      let long : length (c₀.items ++ x ∷ []) ≡ length c₀.items + 1 =
      length-append c₀.items (x ∷ []) in
      subst (λ (d : Row E). Extends (c₀ ∷ cs) zero d x) (sym is) (record {
        room = omega (arith, p.0, at.is, at.few);
        items = ap (λ (ys : List E). (c₀.items ++ x ∷ []) ++ ys) (none (flat cs) ends)
            ∙ append-nil (c₀.items ++ x ∷ [])
            ∙ ap (λ (ys : List E). ys ++ x ∷ [])
            (sym (ap (λ (ys : List E). c₀.items ++ ys) (none (flat cs) ends)
            ∙ append-nil c₀.items));
        packed = (
          p.0,
          omega arith,
          omega (arith, at.is, at.few),
          (λ more. absurd (omega arith)),
          p.4,
        );
      })
  extends (c₀ ∷ cs) p (suc q) at some is x =
      let both : length (c₀.items ++ flat cs) ≡ length c₀.items + length (flat cs) =
      length-append c₀.items (flat cs) in
      let full : length c₀.items ≡ CHUNK = p.3 (omega (arith, p.2)) in
      let behind : IsAt q _ (length (flat cs)) =
      record { is = omega (arith, at.is); few = at.few } in
      let rest = extends cs p.4 q behind some is x in
      record {
        room = rest.room;
        items = ap (λ (ys : List E). c₀.items ++ ys) rest.items
            ∙ sym (append_assoc c₀.items (flat cs) (x ∷ []));
        packed = (p.0, p.1, p.2, (λ _. full), rest.packed);
      }
