-- Texts, each on a line, written one after another.
use Rattle.std.proofs.Common.{◌≡◌, ◌∙◌, ℕ, ◌+◌, ◌<◌, List, [], ◌∷◌, ◌++◌, length, get_or, drop, map, Option, ap, sym, append_assoc}
use Rattle.std.proofs.lemmas.List.{drop_more}
use Rattle.std.specs.Io.KnownBytes.{Appends}
use Rattle.std.proofs.KnownBytes.{Appends-trans}
use Rattle.markring.specs.Told.{text_lines}

-- What was written so far, with the lines of the texts that are left, is all.
pub record Written (start now : Option (List ℕ)) (all : List ℕ) (left : List (List ℕ))
    : Type 0 where
  pub bytes : List ℕ
  pub appends : Appends start now bytes
  pub is : bytes ++ text_lines left ≡ all

-- one more line
pub next_text : {start now later : Option (List ℕ)} {all text : List ℕ} {left : List (List ℕ)}
    → Written start now all (text ∷ left) → Appends now later (text ++ 10 ∷ [])
    → Written start later all left
next_text {start} {now} {later} {all} {text} {left} written line =
    record {
      bytes = written.bytes ++ (text ++ 10 ∷ []);
      appends = Appends-trans start now later written.bytes (text ++ 10 ∷ []) written.appends line;
      is = append_assoc written.bytes (text ++ 10 ∷ []) (text_lines left)
          ∙ ap (λ bs. written.bytes ++ bs) (append_assoc text (10 ∷ []) (text_lines left))
          ∙ written.is;
    }

-- what is left begins with the next text
pub one_less : {X : Type 0} (f : X → List ℕ) (xs : List X) (i : ℕ) (x : X) → i < length xs
    → x ≡ get_or xs i x → map f (drop i xs) ≡ f x ∷ map f (drop (i + 1) xs)
one_less f xs i x within is =
    ap (map f) (drop_more xs i x within ∙ ap (λ y. y ∷ drop (i + 1) xs) (sym is))
