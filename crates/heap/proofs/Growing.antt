-- A search that makes old what it follows: it finds the same as in the heap as it was.
use Rattle.std.proofs.Common.{◌≡◌, ◌≢◌, ◌⊎◌, ℕ, zero, suc, replicate, Bool, true, false, List, [], ◌∷◌, ◌++◌, length, get_or, Option, refl, sym, ap, ◌∙◌, subst, inl, inr, ⊎_elim}
use Rattle.std.proofs.lemmas.Bool.{cases_Bool, cases_eq, cases_lt, both_ways}
use Rattle.std.proofs.lemmas.List.{get_or_past, get_or-set_same, get_or-set_other, length-set}
use Rattle.ids.specs.declared.names.Ref.{Ref}
use Rattle.model.specs.declared.age.Scope.{Scope}
use Rattle.model.specs.declared.age.Scope.TheVariants as scopes
use Rattle.model.specs.State.{Slot, Free, Occupied, Retired, Heap, slot_at}
use Rattle.model.specs.Shading.{is_in, filled}
use Rattle.model.specs.Collecting.{generation_in, places_in}
use Rattle.model.specs.Reclaiming.{is_occupied, is_recent, slot_aged, aged}
use Rattle.model.specs.Searching.{slot_sought_young, sought, Search, is_found, unfound, IsNamed, Finds, Rooted}
use Rattle.model.specs.Cuts.{Among}
use Rattle.model.proofs.Seeing.{sought-at}
use Rattle.model.proofs.Searching.{among-end, among-parts, rooted-next}
use Rattle.heap.specs.Heap.{aged_at}
use Rattle.heap.proofs.Settles.{aged-same, aged-twice, slot-old}

-- ---- what is found if slots are the same

sought-same : (scope : Scope) (g h : Heap) (k : ℕ) → slot_at g k ≡ slot_at h k
    → slot_at (sought scope g) k ≡ slot_at (sought scope h) k
sought-same scopes.All g h k same = same
sought-same scopes.Young g h k same =
    sought-at g k ∙ ap slot_sought_young same ∙ sym (sought-at h k)

named-same : {own : ℕ} {y z : Heap} {os : List (Option Ref)} {k : ℕ} → slot_at y k ≡ slot_at z k
    → IsNamed own y os k → IsNamed own z os k
named-same {own} {os = os} {k = k} same is =
    record {
      there = sym (ap is_occupied same) ∙ is.there;
      named = sym (ap (λ (s : Slot). is_in (record {
        node = own;
        slot = k;
        generation = generation_in s;
      }) (filled os)) same)
          ∙ is.named;
    }

-- a search that finds in one heap finds in another, if they agree on what wasn't found
finds-moved : {own : ℕ} {y z : Heap} {os : List (Option Ref)} {a b : Search}
    → ((k : ℕ) → is_found a k ≡ false → slot_at y k ≡ slot_at z k) → Finds own y os a b
    → Finds own z os a b
finds-moved {own} {y} {z} {os} {a} {b} same f =
    record {
      width = f.width;
      keeps = f.keeps;
      waits = f.waits;
      all = λ k is.
          elim (cases_Bool (is_found a k)) [
            | inl found ↦ f.keeps k found
            | inr none ↦ f.all k (named-same (sym (same k none)) is)
          ];
      new = λ k found.
          elim (cases_Bool (is_found a k)) [
            | inl before ↦ inl before
            | inr none ↦
                ⊎_elim {C = (is_found a k ≡ true) ⊎ (IsNamed own z os k × Among k b.left)}
                (λ before. inl before) (λ n. inr (named-same (same k none) n.0, n.1))
                (f.new k found)
          ];
      left = f.left;
      work = f.work;
    }

-- it may also have been told to find what it had found
finds-known : {own : ℕ} {z : Heap} {os : List (Option Ref)} {a b : Search}
    → ((k : ℕ) → IsNamed own z os k → is_found a k ≡ true) → Finds own z [] a b
    → Finds own z os a b
finds-known {own} {z} {os} {a} {b} known f =
    record {
      width = f.width;
      keeps = f.keeps;
      waits = f.waits;
      all = λ k is. f.keeps k (known k is);
      new = λ k found.
          ⊎_elim {C = (is_found a k ≡ true) ⊎ (IsNamed own z os k × Among k b.left)}
          (λ before. inl before)
          (λ n. absurd (let never : false ≡ true = n.0.named in cc))
          (f.new k found);
      left = f.left;
      work = f.work;
    }

-- ---- the heap while the search goes on

-- what the object in a slot names is found
abbrev Followed : ℕ → Heap → Search → ℕ → Type 0
Followed own z s k =
    (i : ℕ) → IsNamed own z (places_in (slot_at z k)) i → is_found s i ≡ true

-- Only what was followed has become old.
pub record Grows (scope : Scope) (own : ℕ) (h g : Heap) (s : Search) : Type 0 where
  pub same : aged g ≡ aged h
  pub each : (k : ℕ) → (slot_at g k ≡ slot_at h k) ⊎ (slot_at g k ≡ slot_aged (slot_at h k))
  pub rest : (k : ℕ) → is_found s k ≡ false → slot_at g k ≡ slot_at h k
  pub left : (k : ℕ) → Among k s.left
      → (slot_at g k ≡ slot_at h k) ⊎ Followed own (sought scope h) s k
  pub old : (k : ℕ) → is_found s k ≡ true → is_recent (slot_at g k) ≡ true → Among k s.left

-- what an old object holds isn't sought in a search for young garbage
aged-places : (s : Slot) → places_in (slot_sought_young (slot_aged s)) ≡ []
aged-places (Free g) = refl
aged-places (Occupied g o) = refl
aged-places Retired = refl

all-places : (s : Slot) → places_in (slot_aged s) ≡ places_in s
all-places (Free g) = refl
all-places (Occupied g o) = refl
all-places Retired = refl

-- what is followed in the heap that grows is followed in the heap as it was
followed-moved : {own : ℕ} (scope : Scope) (h g : Heap) {a b : Search} (j : ℕ)
    → ((slot_at g j ≡ slot_at h j) ⊎ Followed own (sought scope h) a j)
    → ((slot_at g j ≡ slot_at h j) ⊎ (slot_at g j ≡ slot_aged (slot_at h j)))
    → Finds own (sought scope h) (places_in (slot_at (sought scope g) j)) a b
    → Finds own (sought scope h) (places_in (slot_at (sought scope h) j)) a b
followed-moved {own} scope h g {a} {b} j (inl same) each f =
    subst (λ (os : List (Option Ref)). Finds own (sought scope h) os a b)
    (ap places_in (sought-same scope g h j same)) f
followed-moved {own} scope h g {a} {b} j (inr known) (inl same) f =
    subst (λ (os : List (Option Ref)). Finds own (sought scope h) os a b)
    (ap places_in (sought-same scope g h j same)) f
followed-moved {own} scopes.All h g {a} {b} j (inr known) (inr old) f =
    subst (λ (os : List (Option Ref)). Finds own h os a b)
    (ap places_in old ∙ all-places (slot_at h j)) f
followed-moved {own} scopes.Young h g {a} {b} j (inr known) (inr old) f =
    finds-known known
    (subst (λ (os : List (Option Ref)). Finds own (sought scopes.Young h) os a b)
    (ap places_in (sought-at g j ∙ ap slot_sought_young old) ∙ aged-places (slot_at h j)) f)

-- the next slot is taken from those that are left
pub record IsNext (s m : Search) (j : ℕ) : Type 0 where
  pub found : m.found ≡ s.found
  pub last : s.left ≡ m.left ++ j ∷ []

module _ {scope : Scope} {own : ℕ} {h g : Heap} {s m t : Search} {j : ℕ}
    (rooted : Rooted own (sought scope h) s) (grows : Grows scope own h g s) (n : IsNext s m j)
    (f : Finds own (sought scope g) (places_in (slot_at (sought scope g) j)) m t) where
  abbrev z : Heap
  z = sought scope h

  there : Among j s.left
  there = subst (Among j) (sym n.last) (among-end j m.left)

  before : (k : ℕ) → is_found s k ≡ is_found m k
  before k = ap (λ (bs : List Bool). get_or bs k false) (sym n.found)

  kept : (k : ℕ) → is_found s k ≡ true → is_found t k ≡ true
  kept k found = f.keeps k (sym (before k) ∙ found)

  here : is_found t j ≡ true
  here = kept j (rooted.search.found j there)

  next-finds : Finds own z (places_in (slot_at z j)) m t
  next-finds =
      let moved = finds-moved
      (λ k none. sought-same scope g h k (grows.rest k (before k ∙ none))) f in
      followed-moved scope h g j
      (⊎_elim {C = (slot_at g j ≡ slot_at h j) ⊎ Followed own z m j}
      (λ same. inl same)
      (λ known. inr (λ i is. sym (before i) ∙ known i is))
      (grows.left j there))
      (grows.each j) moved

  pub next-rooted : Rooted own z t
  next-rooted = rooted-next j rooted n.found n.last next-finds

  other-slot : (k : ℕ) → k ≢ j → slot_at (aged_at g j) k ≡ slot_at g k
  other-slot k differs =
      get_or-set_other g.slots j k (slot_aged (slot_at g j)) Retired differs

  this-slot : slot_at (aged_at g j) j ≡ slot_aged (slot_at g j)
  this-slot =
      elim (cases_lt j (length g.slots)) [
        | inl within ↦ get_or-set_same g.slots j (slot_aged (slot_at g j)) Retired within
        | inr past ↦
            get_or_past (aged_at g j).slots j Retired (rw length-set past)
            ∙ sym (ap slot_aged (get_or_past g.slots j Retired past))
      ]

  not-found : (k : ℕ) → is_found t k ≡ false → is_found s k ≡ false
  not-found k none =
      elim (cases_Bool (is_found s k)) [
        | inl found ↦ absurd (both_ways (is_found t k) none (kept k found))
        | inr never ↦ never
      ]

  -- what waits is as it was, or needn't be followed again
  next-left : (k : ℕ) → k ≢ j → Among k t.left
      → (slot_at g k ≡ slot_at h k) ⊎ Followed own z t k
  next-left k differs a =
      elim (cases_Bool (is_found s k)) [
        | inr none ↦ inl (grows.rest k none)
        | inl found ↦
            ⊎_elim {C = (slot_at g k ≡ slot_at h k) ⊎ Followed own z t k}
            (λ (waits : Among k s.left).
            ⊎_elim {C = (slot_at g k ≡ slot_at h k) ⊎ Followed own z t k}
            (λ same. inl same) (λ known. inr (λ i is. kept i (known i is)))
            (grows.left k waits))
            (λ known. inr (λ i is. kept i (known i is)))
            (rooted.search.followed k found)
      ]

  next-old : (k : ℕ) → k ≢ j → is_found t k ≡ true → is_recent (slot_at g k) ≡ true
      → Among k t.left
  next-old k differs found recent =
      elim (cases_Bool (is_found s k)) [
        | inl was ↦
            ⊎_elim {C = Among k t.left}
            (λ (waits : Among k m.left). f.waits k waits)
            (λ last.
            ⊎_elim {C = Among k t.left} (λ (e : k ≡ j). absurd (differs e)) (λ never. absurd never)
            last)
            (among-parts k m.left (j ∷ []) (subst (Among k) n.last (grows.old k was recent)))
        | inr none ↦
            ⊎_elim {C = Among k t.left}
            (λ was. absurd (both_ways (is_found s k) none (before k ∙ was))) (λ new. new.1)
            (f.new k found)
      ]

  -- and the object in its slot becomes old
  pub next-grows : Grows scope own h (aged_at g j) t
  next-grows =
      record {
        same = aged-same g j ∙ grows.same;
        each = λ k.
            elim (cases_eq k j) [
              | inl e ↦
                  subst (λ (i : ℕ). (slot_at (aged_at g j) i ≡ slot_at h i)
                  ⊎ (slot_at (aged_at g j) i ≡ slot_aged (slot_at h i))) (sym e)
                  (⊎_elim {C = (slot_at (aged_at g j) j ≡ slot_at h j)
                  ⊎ (slot_at (aged_at g j) j ≡ slot_aged (slot_at h j))}
                  (λ same. inr (this-slot ∙ ap slot_aged same))
                  (λ old. inr (this-slot ∙ ap slot_aged old ∙ aged-twice (slot_at h j)))
                  (grows.each j))
              | inr differs ↦
                  subst (λ (x : Slot). (x ≡ slot_at h k) ⊎ (x ≡ slot_aged (slot_at h k)))
                  (sym (other-slot k differs)) (grows.each k)
            ];
        rest = λ k none.
            let differs : k ≢ j = λ e.
            both_ways (is_found t k) none (subst (λ (i : ℕ). is_found t i ≡ true) (sym e) here) in
            other-slot k differs ∙ grows.rest k (not-found k none);
        left = λ k a.
            elim (cases_eq k j) [
              | inl e ↦
                  inr (subst (λ (i : ℕ). Followed own z t i) (sym e) (λ i is. next-finds.all i is))
              | inr differs ↦
                  ⊎_elim {C = (slot_at (aged_at g j) k ≡ slot_at h k) ⊎ Followed own z t k}
                  (λ same. inl (other-slot k differs ∙ same)) (λ known. inr known)
                  (next-left k differs a)
            ];
        old = λ k found recent.
            elim (cases_eq k j) [
              | inl e ↦
                  absurd (both_ways (is_recent (slot_at (aged_at g j) j))
                  (ap is_recent this-slot ∙ slot-old (slot_at g j))
                  (subst (λ (i : ℕ). is_recent (slot_at (aged_at g j) i) ≡ true) e recent))
              | inr differs ↦
                  next-old k differs found
                  (sym (ap is_recent (other-slot k differs)) ∙ recent)
            ];
      }

-- ---- the room that a search needs

pub unfound-new : (n : ℕ) → unfound (replicate n false) ≡ n
unfound-new zero = refl
unfound-new (suc n) = ap suc (unfound-new n)
