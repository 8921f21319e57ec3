-- A tag, an object and one of its places in one piece, and what follows them.
use Rattle.std.proofs.Common.{ℕ, List, [], ◌∷◌, ◌++◌, subst, append_assoc}
use Rattle.codec.specs.declared.writer.Writer.{Writer}
use Rattle.codec.specs.Writing.{Writes}
use Rattle.codec.proofs.Writing.{both, so}

pub placed : {a b c : Writer} {tag : ℕ} {y : List ℕ} {P Q R : Type 0} (x : List ℕ) (place : ℕ)
    → Writes a b (tag ∷ (x ++ place ∷ [])) (P × Q) → Writes b c y R
    → Writes a c (tag ∷ (x ++ place ∷ y)) (P × (Q × R))
placed {a} {c = c} {tag} {y} {P} {Q} {R} x place one two =
    subst (λ (t : List ℕ). Writes a c (tag ∷ t) (P × (Q × R))) (append_assoc x (place ∷ []) y)
    (so (λ k. (k.0.0, (k.0.1, k.1))) (both one two))
