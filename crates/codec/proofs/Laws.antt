-- What is composed of sound formats is sound.
use Rattle.std.proofs.Common.{◌≡◌, ℕ, zero, suc, ◌≤◌, ◌<◌, Bool, true, false, cond, ltb, eqb}
use Rattle.std.proofs.Common.{List, [], ◌∷◌, ◌++◌, length, Option, Some, None, ◌⊎◌, inl, inr, refl}
use Rattle.std.proofs.Common.{sym, ap, subst, ◌∙◌, append_assoc, arith}
use Rattle.std.specs.Prelude.{⊤}
use Rattle.std.specs.Option.{option_and_then}
use Rattle.std.specs.List.{flat_map, AllByRecursion}
use Rattle.std.proofs.lemmas.Bool.{eqb-true, le-ltb}
use Rattle.std.proofs.lemmas.List.{length-append}
use Rattle.std.proofs.lemmas.List.Concat.{flat_map-cons}
use Rattle.std.proofs.lemmas.Option.{option_and_then_some, same_Some, cond_some}
use Rattle.codec.specs.Formats.{Format, Fits, Reader, nothing, mapped, joined, ◌&◌, kept}
use Rattle.codec.specs.Formats.{behind, tagged_at, made_at, option, each_at, many_at, many, counted}
use Rattle.codec.specs.Reading.{IsBytes, Took, IsSound, IsLong}

-- the parts of a step that gave a value
pub bind_some : {A B : Type 0} (o : Option A) (f : A → Option B) (y : B)
    → option_and_then f o ≡ Some y → (x : A) × (o ≡ Some x) × (f x ≡ Some y)
bind_some o f y e = option_and_then_some f o y e (λ x p q. (x, p, q))

nothing_takes : (bytes : List ℕ) (x : ⊤ × List ℕ) → IsBytes bytes → nothing.read bytes ≡ Some x
    → Took nothing bytes x
nothing_takes bytes x are e =
    let same : ◌≡◌ {A = ⊤ × List ℕ} (tt, bytes) x = cc in
    subst (Took nothing bytes) {x = (tt, bytes)} same
    (record { parts = refl; rest = are; fits = record { wide = tt; within = tt } })

pub nothing_sound : IsSound nothing
nothing_sound = record { takes = nothing_takes; again = λ u rest fits. refl }

-- ---- what is made of a value

module _ {A B : Type 0} {F : Format A} {G : Format B} (front : List ℕ) (make : A → B)
    (sound : IsSound F)
    (made : (a : A) → Fits F a → (G.spell (make a) ≡ front ++ F.spell a) × Fits G (make a)) where
  pub made_takes : (bytes : List ℕ) (x : B × List ℕ) → IsBytes bytes
      → made_at F make bytes ≡ Some x → Took G (front ++ bytes) x
  made_takes bytes x are e =
      let a = bind_some (F.read bytes) (λ a. Some (make a.0, a.1)) x e in
      let took = sound.takes bytes a.0 are a.1 in
      let b = made a.0.0 took.fits in
      subst (Took G (front ++ bytes)) {x = (make a.0.0, a.0.1)}
      (same_Some (make a.0.0, a.0.1) x a.2) (record {
        parts = ap (λ (t : List ℕ). front ++ t) took.parts
            ∙ sym (append_assoc front (F.spell a.0.0) a.0.1)
            ∙ ap (λ (t : List ℕ). t ++ a.0.1) (sym b.0);
        rest = took.rest;
        fits = b.1;
      })

pub made_again : {A B : Type 0} (F : Format A) (make : A → B) → IsSound F
    → (a : A) (rest : List ℕ) → F.IsWide a → F.IsWithin a
    → made_at F make (F.spell a ++ rest) ≡ Some (make a, rest)
made_again F make sound a rest wide within =
    rw (sound.again a rest (record { wide = wide; within = within })) refl

pub mapped_sound : {A B : Type 0} (F : Format A) (make : A → B) (parts : B → A) → IsSound F
    → ((a : A) → Fits F a → parts (make a) ≡ a) → ((b : B) → make (parts b) ≡ b)
    → IsSound (mapped F make parts)
mapped_sound {A = A} {B = B} F make parts sound back again = record {
  takes = made_takes [] make sound (λ a fits.
      let same = back a fits in (
        ap F.spell same,
        record {
          wide = subst F.IsWide (sym same) fits.wide;
          within = subst F.IsWithin (sym same) fits.within;
        },
      ));
  again = λ b rest fits.
      made_again F make sound (parts b) rest fits.wide fits.within
      ∙ ap (λ (c : B). Some (c, rest)) (again b);
}

-- ---- one value after another

module _ {A B : Type 0} (F : Format A) (G : A → Format B) (first : IsSound F)
    (second : (a : A) → IsSound (G a)) where
  joined_takes : (bytes : List ℕ) (x : (A × B) × List ℕ) → IsBytes bytes
      → (joined F G).read bytes ≡ Some x → Took (joined F G) bytes x
  joined_takes bytes x are e =
      let a =
      bind_some (F.read bytes)
      (λ a. option_and_then (λ b. Some ((a.0, b.0), b.1)) ((G a.0).read a.1)) x e in
      let b = bind_some ((G a.0.0).read a.0.1) (λ b. Some ((a.0.0, b.0), b.1)) x a.2 in
      let p = first.takes bytes a.0 are a.1 in
      let q = (second a.0.0).takes a.0.1 b.0 p.rest b.1 in
      let start = F.spell a.0.0 in
      subst (Took (joined F G) bytes) {x = ((a.0.0, b.0.0), b.0.1)}
      (same_Some ((a.0.0, b.0.0), b.0.1) x b.2) (record {
        parts = p.parts ∙ ap (λ (t : List ℕ). start ++ t) q.parts
            ∙ sym (append_assoc start ((G a.0.0).spell b.0.0) b.0.1);
        rest = q.rest;
        fits = record {
          wide = (p.fits.wide, q.fits.wide);
          within = (p.fits.within, q.fits.within);
        };
      })

  joined_again : (x : A × B) (rest : List ℕ) → Fits (joined F G) x
      → (joined F G).read ((F.spell x.0 ++ (G x.0).spell x.1) ++ rest) ≡ Some (x, rest)
  joined_again x rest fits =
      let p = first.again x.0 ((G x.0).spell x.1 ++ rest)
      (record { wide = fits.wide.0; within = fits.within.0 }) in
      let q = (second x.0).again x.1 rest
      (record { wide = fits.wide.1; within = fits.within.1 }) in
      ap (joined F G).read (append_assoc (F.spell x.0) ((G x.0).spell x.1) rest)
      ∙ rw (p, q) refl

  pub joined_sound : IsSound (joined F G)
  joined_sound = record { takes = joined_takes; again = joined_again }

infixr 20 ◌⊗◌
pub ◌⊗◌ : {A B : Type 0} {F : Format A} {G : Format B} → IsSound F → IsSound G → IsSound (F & G)
◌⊗◌ {F = F} {G = G} p q = joined_sound F (λ _. G) p (λ _. q)

-- ---- a value that passes a test

module _ {A : Type 0} (F : Format A) (test : A → Bool) (sound : IsSound F) where
  kept_takes : (bytes : List ℕ) (x : A × List ℕ) → IsBytes bytes
      → (kept F test).read bytes ≡ Some x → Took (kept F test) bytes x
  kept_takes bytes x are e =
      let a = bind_some (F.read bytes) (λ a. cond (test a.0) (Some a) None) x e in
      let passed = cond_some (test a.0.0) a.0 x a.2 in
      let took = sound.takes bytes a.0 are a.1 in
      subst (Took (kept F test) bytes) {x = a.0} passed.1 (record {
        parts = took.parts;
        rest = took.rest;
        fits = record {
          wide = took.fits.wide;
          within = (took.fits.within, passed.0);
        };
      })

  kept_again : (a : A) (rest : List ℕ) → Fits (kept F test) a
      → (kept F test).read (F.spell a ++ rest) ≡ Some (a, rest)
  kept_again a rest fits =
      let read = sound.again a rest (record { wide = fits.wide; within = fits.within.0 }) in
      let passes : test a ≡ true = fits.within.1 in
      rw (read, passes) refl

  pub kept_sound : IsSound (kept F test)
  kept_sound = record { takes = kept_takes; again = kept_again }

-- ---- a value after one of several tags

-- which way a test went
chosen : {A : Type 0} (b : Bool) (x y z : A) → cond b x y ≡ z
    → ((b ≡ true) × (x ≡ z)) ⊎ ((b ≡ false) × (y ≡ z))
chosen true x y z e = inl (refl, e)
chosen false x y z e = inr (refl, e)

-- what is read after the tag is spelled that way, with the tag
abbrev pub IsFound : {A : Type 0} → Format A → ℕ × Reader A → Type 0
IsFound {A = A} F choice =
    (bytes : List ℕ) (x : A × List ℕ) → IsBytes bytes → choice.1 bytes ≡ Some x
    → Took F (choice.0 ∷ bytes) x

-- a choice of what is made of a value
pub found : {A B : Type 0} (F : Format A) (G : Format B) (tag : ℕ) (make : A → B) → IsSound F
    → ((a : A) → G.spell (make a) ≡ tag ∷ F.spell a)
    → ((a : A) → F.IsWide a → G.IsWide (make a)) → ((a : A) → F.IsWithin a → G.IsWithin (make a))
    → IsFound G (tag, made_at F make)
found F G tag make sound spelled wide within =
    made_takes (tag ∷ []) make sound (λ a fits.
    (spelled a, record { wide = wide a fits.wide; within = within a fits.within }))

-- one choice before the others
infixr 15 ◌⊕◌
abbrev pub ◌⊕◌ : {A B : Type 0} → A → B → A × B
a ⊕ b = (a, b)

module _ {A : Type 0} (F : Format A) where
  abbrev pub AreFound : List (ℕ × Reader A) → Type 0
  AreFound [] = ⊤
  AreFound (choice ∷ others) = IsFound F choice × AreFound others

  behind_takes : (choices : List (ℕ × Reader A)) → AreFound choices
      → (tag : ℕ) (bytes : List ℕ) (x : A × List ℕ) → IsBytes bytes
      → behind choices tag bytes ≡ Some x → Took F (tag ∷ bytes) x
  behind_takes [] all tag bytes x are e = absurd cc
  behind_takes (choice ∷ others) all tag bytes x are e =
      elim (chosen (eqb tag choice.0) _ _ _ e) [
        | inl this ↦ rw (eqb-true _ _ this.0) (all.0 bytes x are this.1)
        | inr other ↦ behind_takes others all.1 tag bytes x are other.1
      ]

  pub tagged_takes : (choices : List (ℕ × Reader A)) → AreFound choices
      → (bytes : List ℕ) (x : A × List ℕ) → IsBytes bytes → tagged_at choices bytes ≡ Some x
      → Took F bytes x
  tagged_takes choices all [] x are e = absurd cc
  tagged_takes choices all (tag ∷ bytes) x are e =
      behind_takes choices all tag bytes x (λ i. are (suc i)) e

module _ {A : Type 0} (F : Format A) (sound : IsSound F) where
  option_takes : (bytes : List ℕ) (x : Option A × List ℕ) → IsBytes bytes
      → (option F).read bytes ≡ Some x → Took (option F) bytes x
  option_takes =
      tagged_takes (option F)
      ((0, made_at nothing (λ _. None)) ∷ (1, made_at F (λ a. Some a)) ∷ []) (
      found nothing (option F) 0 (λ _. None) nothing_sound (λ _. refl) (λ _ w. w) (λ _ w. w)
      ⊕ found F (option F) 1 (λ a. Some a) sound (λ _. refl) (λ _ w. w) (λ _ w. w)
      ⊕ tt
      )

  option_again : (o : Option A) (rest : List ℕ) → Fits (option F) o
      → (option F).read ((option F).spell o ++ rest) ≡ Some (o, rest)
  option_again None rest fits = refl
  option_again (Some a) rest fits =
      made_again F (λ x. Some x) sound a rest fits.wide fits.within

  pub option_sound : IsSound (option F)
  option_sound = record { takes = option_takes; again = option_again }

-- ---- lists

-- a list has no more values than its spelling has bytes
pub longer : {A : Type 0} (spell : A → List ℕ) → ((a : A) → 0 < length (spell a)) → (xs : List A)
    → length xs ≤ length (flat_map spell xs)
longer spell long [] = omega arith
longer spell long (x ∷ xs) =
    let others = longer spell long xs in
    rw flat_map-cons (omega (arith, length-append (spell x) (flat_map spell xs), others, long x))

module _ {A : Type 0} (F : Format A) (sound : IsSound F) (long : IsLong F) where
  each_takes : (n : ℕ) (bytes : List ℕ) (x : List A × List ℕ) → IsBytes bytes
      → each_at F.read n bytes ≡ Some x → Took (many F n) bytes x
  each_takes zero bytes x are e =
      subst (Took (many F 0) bytes) {x = ([], bytes)} (same_Some ([], bytes) x e)
      (record { parts = refl; rest = are; fits = record { wide = tt; within = (refl, tt) } })
  each_takes (suc n) bytes x are e =
      let a =
      bind_some (F.read bytes) (λ first.
      option_and_then (λ others. Some (first.0 ∷ others.0, others.1)) (each_at F.read n first.1))
      x e in
      let b =
      bind_some (each_at F.read n a.0.1) (λ others. Some (a.0.0 ∷ others.0, others.1)) x a.2 in
      let p = sound.takes bytes a.0 are a.1 in
      let q = each_takes n a.0.1 b.0 p.rest b.1 in
      let start = F.spell a.0.0 in
      subst (Took (many F (suc n)) bytes) {x = (a.0.0 ∷ b.0.0, b.0.1)}
      (same_Some (a.0.0 ∷ b.0.0, b.0.1) x b.2) (record {
        parts = p.parts ∙ ap (λ (t : List ℕ). start ++ t) q.parts
            ∙ sym (append_assoc start (flat_map F.spell b.0.0) b.0.1)
            ∙ ap (λ (t : List ℕ). t ++ b.0.1) (sym (flat_map-cons F.spell a.0.0 b.0.0));
        rest = q.rest;
        fits = record {
          wide = (p.fits.wide, q.fits.wide);
          within = (ap suc q.fits.within.0, (p.fits.within, q.fits.within.1));
        };
      })

  each_again : (xs : List A) (rest : List ℕ) → AllByRecursion F.IsWide xs
      → AllByRecursion F.IsWithin xs
      → each_at F.read (length xs) (flat_map F.spell xs ++ rest) ≡ Some (xs, rest)
  each_again [] rest wide within = refl
  each_again (a ∷ xs) rest wide within =
      let regrouped : flat_map F.spell (a ∷ xs) ++ rest
      ≡ F.spell a ++ (flat_map F.spell xs ++ rest) =
      ap (λ (t : List ℕ). t ++ rest) (flat_map-cons F.spell a xs)
      ∙ append_assoc (F.spell a) (flat_map F.spell xs) rest in
      let first = sound.again a (flat_map F.spell xs ++ rest)
      (record { wide = wide.0; within = within.0 }) in
      ap (each_at F.read (suc (length xs))) regrouped
      ∙ rw (first, each_again xs rest wide.1 within.1) refl

  many_takes : (n : ℕ) (bytes : List ℕ) (x : List A × List ℕ) → IsBytes bytes
      → many_at F.read n bytes ≡ Some x → Took (many F n) bytes x
  unfolding many_at
  many_takes n bytes x are e = by (ltb (length bytes) n) e where
    by : (b : Bool) → cond b None (each_at F.read n bytes) ≡ Some x → Took (many F n) bytes x
    by true h = absurd cc
    by false h = each_takes n bytes x are h

  many_again : (n : ℕ) (xs : List A) (rest : List ℕ) → Fits (many F n) xs
      → many_at F.read n (flat_map F.spell xs ++ rest) ≡ Some (xs, rest)
  unfolding many_at
  many_again n xs rest fits =
      let count = longer F.spell long xs in
      let len = length-append (flat_map F.spell xs) rest in
      let there : ltb (length (flat_map F.spell xs ++ rest)) n ≡ false =
      le-ltb _ _ (omega (arith, count, len, fits.within.0)) in
      rw there
      (ap (λ (k : ℕ). each_at F.read k (flat_map F.spell xs ++ rest)) (sym fits.within.0)
      ∙ each_again xs rest fits.wide fits.within.1)

  pub many_sound : (n : ℕ) → IsSound (many F n)
  many_sound n = record { takes = many_takes n; again = many_again n }

  pub counted_sound : (count : Format ℕ) → IsSound count → IsSound (counted count F)
  counted_sound count is =
      mapped_sound (joined count (many F)) (λ x. x.1) (λ xs. (length xs, xs))
      (joined_sound count (many F) is many_sound)
      (λ x fits. ap (λ (n : ℕ). (n, x.1)) fits.within.1.0) (λ xs. refl)
