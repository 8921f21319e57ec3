-- The chunk of an item, and its number there, as a `Store` computes them.
use Rattle.std.proofs.Common.{◌≡◌, ℕ, ◌/◌, ◌%◌, ◌<◌, List, [], ◌∷◌, ◌++◌, length, get_or}
use Rattle.std.proofs.Common.{set}
use Rattle.std.proofs.Common.{sym, ap, ◌∙◌, subst, arith}
use Rattle.arena.specs.Row.{Row, row}
use Rattle.arena.specs.Chunked.{chunks_of, flat, IsPacked, HasRoom}
use Rattle.arena.specs.declared.root.Root.{Root}
use Rattle.arena.specs.declared.root.Root.TheVariants.{Present}
use Rattle.arena.specs.declared.root.TheConstants.{CHUNK}
use Rattle.arena.proofs.Packed.{IsAt, rewritten, lies, chunk_there, last_there, extends, adds}

module _ {E : Type 0} where
  module _ {root : Root E} {chunks : Row (Row E)} (there : root ≡ Present chunks)
      (sound : IsPacked (chunks_of root)) where
    abbrev Items : List E
    Items = flat (chunks_of root)

    packed : IsPacked chunks.items
    packed = subst (λ (r : Root E). IsPacked (chunks_of r)) there sound

    same : flat chunks.items ≡ Items
    same = ap (λ (r : Root E). flat (chunks_of r)) (sym there)

    -- the item with the number i is in the chunk c
    pub record Reached (i : ℕ) (c : Row E) : Type 0 where
      pub within : i % CHUNK < length c.items
      pub read : (x : E) → x ≡ get_or c.items (i % CHUNK) x → x ≡ get_or Items i x
      pub write : (w : E) → flat
          (set chunks.items (i / CHUNK) (rewritten c (i % CHUNK) w)) ≡ set Items i w
      pub still : (w : E) → IsPacked (set chunks.items (i / CHUNK) (rewritten c (i % CHUNK) w))

    pub at_chunk : (i : ℕ) → i < length Items → i / CHUNK < length chunks.items
    at_chunk i below =
        let within : i < length (flat chunks.items) =
        subst (λ (xs : List E). i < length xs) (sym same) below in
        chunk_there chunks.items packed (i / CHUNK) (i % CHUNK) (omega arith) (omega arith)

    pub at_item : (i : ℕ) → i < length Items → (c : Row E) → c ≡ get_or chunks.items (i / CHUNK) c
        → Reached i c
    at_item i below c is =
        let within : i < length (flat chunks.items) =
        subst (λ (xs : List E). i < length xs) (sym same) below in
        let at : IsAt (i / CHUNK) (i % CHUNK) i = record { is = omega arith; few = omega arith } in
        let lie = lies chunks.items packed (i / CHUNK) at within is in
        record {
          within = lie.within;
          read = λ x e. subst (λ (xs : List E). x ≡ get_or xs i x) same (lie.read x e);
          write = λ w. lie.write w ∙ ap (λ (xs : List E). set xs i w) same;
          still = lie.packed;
        }

    -- the last chunk has room, unless all are full
    pub at_last : (n : ℕ) → n ≡ length Items → 0 < n % CHUNK → n / CHUNK < length chunks.items
    at_last n long some =
        let all : length (flat chunks.items) ≡ n = ap (λ (xs : List E). length xs) same
        ∙ sym long in
        last_there chunks.items packed (n / CHUNK) (n % CHUNK) (omega arith) some

    pub record Ended (n : ℕ) (c : Row E) (x : E) : Type 0 where
      pub room : length c.items < c.capacity
      pub items : flat (set chunks.items (n / CHUNK) (row (c.items ++ x ∷ []) c.capacity)) ≡ Items
          ++ x ∷ []
      pub still : IsPacked (set chunks.items (n / CHUNK) (row (c.items ++ x ∷ []) c.capacity))

    pub in_last : (n : ℕ) → n ≡ length Items → 0 < n % CHUNK → (c : Row E)
        → c ≡ get_or chunks.items (n / CHUNK) c → (x : E) → Ended n c x
    in_last n long some c is x =
        let all : length (flat chunks.items) ≡ n = ap (λ (xs : List E). length xs) same
        ∙ sym long in
        let at : IsAt (n / CHUNK) (n % CHUNK) (length (flat chunks.items)) =
        record { is = omega arith; few = omega arith } in
        let last = extends chunks.items packed (n / CHUNK) at some is x in
        record {
          room = last.room;
          items = last.items
              ∙ ap (λ (xs : List E). xs ++ x ∷ []) same;
          still = last.packed;
        }

  -- a chunk is added behind the others, all of which are full
  pub added : (root : Root E) {roomy : Root E} {chunks after : Row (Row E)} {n : ℕ}
      → IsPacked (chunks_of root) → HasRoom roomy (chunks_of root) → roomy ≡ Present chunks
      → n ≡ length (flat (chunks_of root)) → n % CHUNK ≡ 0 → (x : E)
      → after ≡ row (chunks.items ++ row (x ∷ []) CHUNK ∷ []) chunks.capacity
      → (flat after.items ≡ flat (chunks_of root) ++ x ∷ []) × IsPacked after.items
  added root {roomy} {chunks} {after} {n} sound has there long all x is =
      let kept : chunks.items ≡ chunks_of root =
      (subst (λ (r : Root E). HasRoom r (chunks_of root)) there has).0 in
      let items : after.items ≡ chunks_of root ++ row (x ∷ []) CHUNK
      ∷ [] = ap (λ (r : Row (Row E)). r.items) is
      ∙ ap (λ (cs : List (Row E)). cs ++ row (x ∷ []) CHUNK ∷ []) kept in
      let grown = adds (chunks_of root) sound (n / CHUNK) (omega (arith, long, all)) x in
      (ap flat items ∙ grown.0, subst IsPacked (sym items) grown.1)
