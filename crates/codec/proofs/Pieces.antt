-- What was appended to a piece, one text after another, and what is then written.
use Rattle.std.proofs.Common.{ℕ, ◌+◌, ◌≤◌, List, [], ◌∷◌, ◌++◌, ◌∙◌, ap, subst}
use Rattle.std.proofs.Common.{append_assoc, arith}
use Rattle.std.specs.Prelude.{⊤}
use Rattle.codec.specs.declared.writer.Writer.{Writer}
use Rattle.codec.specs.Pieces.{Gains}
use Rattle.codec.specs.Writing.{Writes}
use Rattle.codec.proofs.Writing.{so}

module _ {a b c x y : List ℕ} {m n k : ℕ} {P Q : Type 0} (one : Gains a b x m P)
    (two : Gains b c y n Q) (most : m + n ≤ k) where
  pub then_more : Gains a c (x ++ y) k (P × Q)
  then_more = record {
    is = two.is ∙ ap (λ (t : List ℕ). t ++ y) one.is ∙ append_assoc a x y;
    few = omega (arith, one.few, two.few, most);
    known = (one.known, two.known);
  }

-- what follows from a fact is known too, and there may be room to spare
pub gains_so : {a b x : List ℕ} {m k : ℕ} {P Q : Type 0} → (P → Q) → Gains a b x m P → m ≤ k
    → Gains a b x k Q
gains_so follows g most = record {
  is = g.is;
  few = omega (arith, g.few, most);
  known = follows g.known;
}

-- a tag, and what follows it
pub tag_gained : {a b c y : List ℕ} {t m n k : ℕ} {P Q : Type 0} → Gains a b (t ∷ []) m P
    → Gains b c y n Q → m + n ≤ k → Gains a c (t ∷ y) k Q
tag_gained one two most = gains_so (λ p. p.1) (then_more one two most) (omega arith)

-- a byte, and what follows it
pub byte_gained : {a b c y : List ℕ} {t m n k : ℕ} {P Q : Type 0} → Gains a b (t ∷ []) m P
    → Gains b c y n Q → m + n ≤ k → Gains a c (t ∷ y) k (P × Q)
byte_gained one two most = then_more one two most

-- a tag alone
pub tag_alone : {a b : List ℕ} {t m k : ℕ} {P : Type 0} → Gains a b (t ∷ []) m P → m ≤ k
    → Gains a b (t ∷ []) k ⊤
tag_alone one most = gains_so (λ _. tt) one most

pub ruleset gained = (then_more, tag_gained, byte_gained, tag_alone)

-- a piece that is written
pub piece_written : {v w : Writer} {p text : List ℕ} {most : ℕ} {P : Type 0}
    → Gains [] p text most P
    → Writes v w p ⊤ → Writes v w text P
piece_written {v = v} {w = w} {P = P} piece wrote =
    so (λ _. piece.known) (subst (λ (t : List ℕ). Writes v w t ⊤) piece.is wrote)
