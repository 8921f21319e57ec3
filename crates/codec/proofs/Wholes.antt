-- Bytes that are read to their end.
use Rattle.std.proofs.Common.{◌≡◌, ℕ, cond, eqb, List, [], ◌++◌, length, Option, Some, None, sym}
use Rattle.std.proofs.Common.{ap, subst, ◌∙◌, refl}
use Rattle.std.proofs.lemmas.Bool.{eqb-true}
use Rattle.std.proofs.lemmas.List.{append-nil, nil_from_length}
use Rattle.std.proofs.lemmas.Option.{cond_some}
use Rattle.codec.specs.Formats.{Format, Fits, whole_at}
use Rattle.codec.specs.Reading.{IsBytes, IsSound}
use Rattle.codec.proofs.Laws.{bind_some}

module _ {A : Type 0} (F : Format A) (sound : IsSound F) where
  pub whole_takes : (bytes : List ℕ) (a : A) → IsBytes bytes → whole_at F.read bytes ≡ Some a
      → Fits F a × (bytes ≡ F.spell a)
  unfolding whole_at
  whole_takes bytes a are e =
      let x =
      bind_some (F.read bytes) (λ x. cond (eqb (length x.1) 0) (Some x.0) None) a e in
      let g = cond_some (eqb (length x.0.1) 0) x.0.0 a x.2 in
      let t = sound.takes bytes x.0 are x.1 in
      let none : x.0.1 ≡ [] = nil_from_length x.0.1 (eqb-true _ _ g.0) in
      subst (λ (b : A). Fits F b × (bytes ≡ F.spell b)) {x = x.0.0} g.1 (
        t.fits,
        t.parts ∙ ap (λ (r : List ℕ). F.spell x.0.0 ++ r) none ∙ append-nil (F.spell x.0.0),
      )

  pub whole_again : (a : A) → Fits F a → whole_at F.read (F.spell a) ≡ Some a
  unfolding whole_at
  whole_again a fits =
      let read : F.read (F.spell a) ≡ Some (a, []) =
      ap F.read (sym (append-nil (F.spell a))) ∙ sound.again a [] fits in
      rw read refl

  -- no spelling is a prefix of another one
  pub begins_none : (a b : A) (rest : List ℕ) → Fits F a → Fits F b
      → F.spell a ++ rest ≡ F.spell b → (rest ≡ []) × (a ≡ b)
  begins_none a b rest fa fb same =
      let e : ◌≡◌ {A = Option (A × List ℕ)} (Some (a, rest)) (Some (b, [])) =
      sym (sound.again a rest fa) ∙ ap F.read (same ∙ sym (append-nil (F.spell b)))
      ∙ sound.again b [] fb in
      let both : ◌≡◌ {A = A × List ℕ} (a, rest) (b, []) = cc in
      (ap (λ (z : A × List ℕ). z.1) both, ap (λ (z : A × List ℕ). z.0) both)
