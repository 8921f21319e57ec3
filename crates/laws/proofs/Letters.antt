-- What registers and letters hold, after letters come and go.
use Rattle.std.proofs.Common.{ℕ, zero, suc, ◌≡◌, List, [], ◌∷◌, ◌++◌, drop, get_or, None, Option, refl, sym, subst}
use Rattle.std.specs.List.{AllByRecursion}
use Rattle.ids.specs.declared.names.Ref.{Ref}
use Rattle.model.specs.declared.event.Letter.{Letter}
use Rattle.model.specs.State.{Heap}
use Rattle.model.specs.Heaps.{no_letter, oldest_letter, letter_taken, letters_taken, with_letters, letters_of}
use Rattle.model.specs.Shading.{filled}
use Rattle.model.specs.References.{IfAny}
use Rattle.model.proofs.Lookups.{at_set}
use Rattle.model.proofs.References.{new-references}
use Rattle.laws.proofs.Invariant.{RootsAll}

letters-dropped : (ls : List Letter) (k : ℕ)
    → get_or (drop 1 ls) k no_letter ≡ get_or ls (suc k) no_letter
letters-dropped [] k = refl
letters-dropped (l ∷ ls) k = refl

-- more letters come
letters-more : (P : Ref → Type 0) (ls more : List Letter)
    → ((k : ℕ) → IfAny P (get_or ls k no_letter).reference)
    → AllByRecursion (λ (l : Letter). IfAny P l.reference) more → (k : ℕ)
    → IfAny P (get_or (ls ++ more) k no_letter).reference
letters-more P [] [] old new k = tt
letters-more P [] (m ∷ ms) old new zero = new.0
letters-more P [] (m ∷ ms) old new (suc k) = letters-more P [] ms (λ _. tt) new.1 k
letters-more P (l ∷ ls) more old new zero = old zero
letters-more P (l ∷ ls) more old new (suc k) =
    letters-more P ls more (λ i. old (suc i)) new k

pub roots-letters : (P : Ref → Type 0) (h : Heap) (from label : ℕ) (rs : List (Option Ref))
    (bytes : List ℕ) → RootsAll P h → AllByRecursion P (filled rs)
    → RootsAll P (with_letters h (letters_of from label rs bytes))
roots-letters P h from label rs bytes old new = record {
  registers = old.registers;
  letters =
      letters-more P h.letters (letters_of from label rs bytes) old.letters
      (new-references P from label rs bytes new);
}

-- a letter goes into registers
pub roots-taken : (P : Ref → Type 0) (n : ℕ) (h : Heap) (register : ℕ) → RootsAll P h
    → RootsAll P (letters_taken n h register)
roots-taken P zero h register old = old
roots-taken P (suc n) h register old =
    roots-taken P n (letter_taken h register) (suc register) (record {
      registers = λ k.
          at_set (IfAny P) h.registers register k (oldest_letter h).reference None
          (old.letters 0) (old.registers k);
      letters = λ k.
          subst (λ (z : Letter). IfAny P z.reference) (sym (letters-dropped h.letters k))
          (old.letters (suc k));
    })
