-- The frames that a node keeps of one sender, each with a property that its place may decide.
use Rattle.std.proofs.Common.{◌≡◌, ℕ, suc, List, [], ◌∷◌, drop, set, Option, Some, None, is_some, sym, ◌∙◌, subst}
use Rattle.std.proofs.lemmas.Bool.{cond_both}
use Rattle.ids.specs.declared.limits.TheConstants.{WINDOW}
use Rattle.msg.specs.declared.frame.Data.{Data}
use Rattle.model.proofs.Lookups.{at_push, at_set_if, get_or-replicate_any}
use Rattle.link.specs.Early.{no_early, place_at, placed, shifted, emptied}

abbrev pub Fills : (ℕ → Data → Type 0) → List (Option Data) → Type 0
Fills Q ring = (place : ℕ) (d : Data) → place_at ring place ≡ Some d → Q place d

pub empty-fills : (Q : ℕ → Data → Type 0) → Fills Q no_early
empty-fills Q place d there =
    let none : ◌≡◌ {A = Option Data} None (Some d) =
    sym (get_or-replicate_any {A = Option Data} WINDOW place None) ∙ there in
    absurd cc

module _ (Q : ℕ → Data → Type 0) where
  -- each frame moves to the place before
  module _ (R : ℕ → Data → Type 0) (behind : (place : ℕ) (d : Data) → Q (suc place) d → R place d)
    where
      one-behind : (ring : List (Option Data)) → Fills Q ring → Fills R (drop 1 ring)
      one-behind [] h place d there =
          let none : ◌≡◌ {A = Option Data} None (Some d) = there in absurd cc
      one-behind (x ∷ xs) h place d there = behind place d (h (suc place) d there)

      pub shifted-fills : (ring : List (Option Data)) → Fills Q ring → Fills R (shifted ring)
      shifted-fills ring h place d =
          at_push (λ (o : Option Data). o ≡ Some d → R place d) (drop 1 ring) place None None
          (λ never. absurd cc) (λ never. absurd cc) (one-behind ring h place d)

  pub emptied-fills : (ring : List (Option Data)) → Fills Q ring → Fills Q (emptied ring)
  emptied-fills ring h place d =
      at_set_if (λ (o : Option Data). o ≡ Some d → Q place d) ring 0 place None None
      (λ _ never. absurd cc) (h place d)

  pub placed-fills : (at : ℕ) (e : Data) (ring : List (Option Data)) → Q at e → Fills Q ring
      → Fills Q (placed ring at e)
  placed-fills at e ring fits h =
      cond_both (is_some (place_at ring at)) ring (set ring at (Some e)) (Fills Q) (λ _. h)
      (λ _ place d.
      at_set_if (λ (o : Option Data). o ≡ Some d → Q place d) ring at place (Some e) None
      (λ same there.
      let is : e ≡ d = cc in
      subst (λ (z : ℕ). Q z d) same (subst (Q at) is fits))
      (h place d))
