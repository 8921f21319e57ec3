-- What one format spells, another one spells too, in fields that are at least as wide. Both are
-- sound.
use Rattle.std.proofs.Common.{◌≡◌, List, [], ◌∷◌, ℕ, Option, Some, None, length, true}
use Rattle.std.specs.Prelude.{Bool}
use Rattle.std.specs.List.{AllByRecursion}
use Rattle.codec.specs.Formats.{Format, mapped, joined, ◌&◌, kept, option, many, counted}
use Rattle.codec.specs.Reading.{IsSound, IsLong}
use Rattle.codec.proofs.Laws.{mapped_sound, joined_sound, kept_sound, option_sound, many_sound}
use Rattle.codec.proofs.Laws.{counted_sound}

-- a value that fits one format fits the other
abbrev pub Later : {A : Type 0} → Format A → Format A → A → Type 0
Later F G a = (F.IsWide a → G.IsWide a) × (F.IsWithin a → G.IsWithin a)

pub record Grows {A : Type 0} (F G : Format A) : Type 0 where
  pub first : IsSound F
  pub second : IsSound G
  pub later : (a : A) → Later F G a

pub same : {A : Type 0} {F : Format A} → IsSound F → Grows F F
same sound = record { first = sound; second = sound; later = λ a. (λ is. is, λ is. is) }

pub mapped_grows : {A B : Type 0} {F G : Format A} (make : A → B) (parts : B → A) → Grows F G
    → ((a : A) → parts (make a) ≡ a) → ((b : B) → make (parts b) ≡ b)
    → Grows (mapped F make parts) (mapped G make parts)
mapped_grows make parts g back again = record {
  first = mapped_sound _ make parts g.first (λ a _. back a) again;
  second = mapped_sound _ make parts g.second (λ a _. back a) again;
  later = λ b. g.later (parts b);
}

pub joined_grows : {A B : Type 0} {F G : Format A} {H K : A → Format B} → Grows F G
    → ((a : A) → Grows (H a) (K a)) → Grows (joined F H) (joined G K)
joined_grows p q = record {
  first = joined_sound _ _ p.first (λ a. (q a).first);
  second = joined_sound _ _ p.second (λ a. (q a).second);
  later = λ x.
      let a = p.later x.0 in
      let b = (q x.0).later x.1 in
      (λ is. (a.0 is.0, b.0 is.1), λ is. (a.1 is.0, b.1 is.1));
}

infixr 20 ◌⊛◌
pub ◌⊛◌ : {A B : Type 0} {F G : Format A} {H K : Format B} → Grows F G → Grows H K
    → Grows (F & H) (G & K)
p ⊛ q = joined_grows p (λ _. q)

pub kept_grows : {A : Type 0} {F G : Format A} (low high : A → Bool) → Grows F G
    → ((a : A) → low a ≡ true → high a ≡ true) → Grows (kept F low) (kept G high)
kept_grows low high g passes = record {
  first = kept_sound _ low g.first;
  second = kept_sound _ high g.second;
  later = λ a.
      let l = g.later a in
      (l.0, λ is. (l.1 is.0, passes a is.1));
}

pub option_grows : {A : Type 0} {F G : Format A} → Grows F G → Grows (option F) (option G)
option_grows {A = A} {F = F} {G = G} g = record {
  first = option_sound _ g.first;
  second = option_sound _ g.second;
  later = later;
} where
  later : (o : Option A) → Later (option F) (option G) o
  later None = (λ is. tt, λ is. tt)
  later (Some a) = g.later a

-- ---- lists

pub each : {A : Type 0} (P Q : A → Type 0) → ((a : A) → P a → Q a) → (xs : List A)
    → AllByRecursion P xs → AllByRecursion Q xs
each P Q follows [] all = tt
each P Q follows (x ∷ xs) all = (follows x all.0, each P Q follows xs all.1)

module _ {A : Type 0} {F G : Format A} (g : Grows F G) (low : IsLong F) (high : IsLong G) where
  pub many_grows : (n : ℕ) → Grows (many F n) (many G n)
  many_grows n = record {
    first = many_sound F g.first low n;
    second = many_sound G g.second high n;
    later = λ xs. (
      each F.IsWide G.IsWide (λ a. (g.later a).0) xs,
      λ is. (is.0, each F.IsWithin G.IsWithin (λ a. (g.later a).1) xs is.1),
    );
  }

  pub counted_grows : (count : Format ℕ) → IsSound count → Grows (counted count F) (counted count G)
  counted_grows count sound = record {
    first = counted_sound F g.first low count sound;
    second = counted_sound G g.second high count sound;
    later = λ xs. (joined_grows (same sound) many_grows).later (length xs, xs);
  }
