-- The node that an image says is made of what the image says.
use Rattle.std.proofs.Common.{◌≡◌, ◌≢◌, ℕ, List, [], ◌∷◌, ◌++◌, length, map}
use Rattle.std.proofs.Common.{Option, Some, None, Result, Ok, Err, refl, sym, ap, ◌∙◌, subst}
use Rattle.std.specs.Prelude.{IfOk, IfErr, OnOk}
use Rattle.std.proofs.lemmas.List.{map_push}
use Rattle.std.proofs.lemmas.Option.{same_Some}
use Rattle.ids.specs.declared.refusal.Refusal.{Refusal}
use Rattle.ids.specs.declared.refusal.Refusal.TheVariants.{Memory, BadImage}
use Rattle.image_parts.specs.Layouts.{IsTooLong, says_wide}
use Rattle.image_parts.specs.declared.layout.Layout.{Layout}
use Rattle.model.specs.View.{NodeView}
use Rattle.node.specs.Invariant.{IsStanding}
use Rattle.image_parts.specs.Grammar.{Stored, Fits, IsImage}
use Rattle.image.specs.Conditions.{IsSaved}
use Rattle.image.specs.Nodes.{node_of, IsImageOf}
use Rattle.image.proofs.Conditions.{standing_saved, saved_standing}
use Rattle.image_parts.proofs.Readings.{read, again, image_wide}

-- one more element in each of two lists that say the same
pub same_more : {A B C : Type 0} (f : A → C) (g : B → C) (xs : List A) (ys : List B) (x : A) (y : B)
    → map f xs ≡ map g ys → f x ≡ g y → map f (xs ++ x ∷ []) ≡ map g (ys ++ y ∷ [])
same_more f g xs ys x y same one = rw (map_push f xs x, map_push g ys y, same, one) refl

-- the refusal of the node's call, stated for the node that the image says
pub said_refused : {given : NodeView} (said : NodeView) (r : Result NodeView Refusal)
    → IfErr r (λ e. e ≢ Memory → (e ≡ BadImage) × (IsStanding given → ⊥)) → given ≡ said
    → IfErr r (λ e. e ≢ Memory → (e ≡ BadImage) × (IsStanding said → ⊥))
said_refused said r refused same =
    subst (λ (m : NodeView). IfErr r (λ e. e ≢ Memory → (e ≡ BadImage) × (IsStanding m → ⊥))) same
    refused

-- what holds in any case holds of a refusal
pub in_any_case : {T X : Type 0} (r : Result T Refusal) → X → IfErr r (λ e. e ≡ Memory → X)
in_any_case (Ok x) is = tt
in_any_case (Err e) is = λ _. is

module _ (bytes : List ℕ) where
  pub is_image : (v : Layout) (s : Stored) (r : Result NodeView Refusal) → IsImage bytes v s
      → IfOk r (λ n. n ≡ node_of v s) → OnOk r (IsStanding (node_of v s)) → IfOk r (IsImageOf bytes)
  is_image v s (Ok n) image made stands = record {
    layout = v;
    spelled = record { says = s; image = image; node = sym made };
    saved = subst IsSaved (sym made) (standing_saved (node_of v s) stands);
  }
  is_image v s (Err e) image made stands = tt

  abbrev IsOfNone : Refusal → Type 0
  IsOfNone e = e ≢ Memory → (e ≡ BadImage) × ((n : NodeView) → IsImageOf bytes n → ⊥)

  -- bytes that are too long are the image of no node
  pub too_long : IsTooLong (says_wide bytes) (length bytes) → IsOfNone BadImage
  too_long long = λ _. (
    refl,
    λ n is.
        let image = is.spelled.image in
        image.within (sym (image_wide bytes is.layout is.spelled.says image) ∙ long.0, long.1),
  )

  pub image_short : (n : NodeView) → IsImageOf bytes n
      → IsTooLong (says_wide bytes) (length bytes) → ⊥
  image_short n is long = (too_long long (λ bad. absurd cc)).1 n is

  pub unread : (e : Refusal) → (e ≢ Memory → (e ≡ BadImage) × (read bytes ≡ None)) → IsOfNone e
  unread e refused = λ other.
      let h = refused other in (
        h.0,
        λ n is.
            let p = is.spelled in
            let some : ◌≡◌ {A = Option (Layout × Stored)} (Some (is.layout, p.says)) None =
            sym (again bytes is.layout p.says p.image) ∙ h.1 in
            absurd cc,
      )

  pub is_none : (v : Layout) (s : Stored) → Fits v s → read bytes ≡ Some (v, s)
      → (r : Result NodeView Refusal)
      → IfErr r (λ e. e ≢ Memory → (e ≡ BadImage) × (IsStanding (node_of v s) → ⊥))
      → IfErr r IsOfNone
  is_none v s fits says (Ok n) refused = tt
  is_none v s fits says (Err e) refused = λ other.
      let h = refused other in (
        h.0,
        λ n is.
            let p = is.spelled in
            let both : ◌≡◌ {A = Layout × Stored} (v, s) (is.layout, p.says) =
            same_Some (v, s) (is.layout, p.says)
            (sym says ∙ again bytes is.layout p.says p.image) in
            let same : node_of v s ≡ n =
            ap (λ (x : Layout × Stored). node_of x.0 x.1) both ∙ p.node in
            h.1 (saved_standing v s fits (subst IsSaved (sym same) is.saved)),
      )
