-- Images that a log follows, and those without one.
use Rattle.std.proofs.Common.{◌≡◌, ◌≢◌, ◌<◌, ℕ, List, [], ◌∷◌, length, refl, sym, ap, ◌∙◌, subst}
use Rattle.std.proofs.Common.{Some, None, Option, Result, arith, cond, true, ◌+◌, ◌-◌, ◌^◌, ◌++◌}
use Rattle.std.proofs.Common.{Bool, false, slice_set, zero, suc}
use Rattle.std.specs.Prelude.{slice_index}
use Rattle.std.proofs.lemmas.Bool.{cond_both}
use Rattle.std.proofs.lemmas.List.{set-append_right}
use Rattle.std.proofs.lemmas.Result.{IfErr-weaker, IfOk-weaker}
use Rattle.std.specs.Prelude.{IfErr, IfOk, OnOk}
use Rattle.ids.specs.Limits.{Shaped}
use Rattle.ids.specs.declared.refusal.Refusal.{Refusal}
use Rattle.ids.specs.declared.refusal.Refusal.TheVariants.{Memory, BadImage}
use Rattle.model.specs.View.{NodeView, kept_view}
use Rattle.codec.specs.Reading.{IsBytes}
use Rattle.image_parts.specs.Grammar.{Stored, IsImage, spelling, image_format, start_format}
use Rattle.image_parts.specs.Grammar.{layout_format}
use Rattle.image_parts.specs.Layouts.{IsTooLong, is_wide, layout_for, says_wide}
use Rattle.image_parts.specs.declared.layout.Layout.{Layout}
use Rattle.image_parts.specs.declared.layout.Layout.TheVariants as layout
use Rattle.image_parts.specs.Logs.{begins_logged, logged, logged_at, unlogged}
use Rattle.image_parts.proofs.Logs.{read_unlogged, unlogged_wide}
use Rattle.image_parts.proofs.Readings.{again, image_wide, read, spelled_so, spelled_wide}
use Rattle.image.specs.Images.{IsTooLarge, image_of, stored_by}
use Rattle.image.specs.Logged.{IsAnyImageOf, IsEither, IsLoggedOf, logged_image}
use Rattle.node.specs.Invariant.{IsStanding}
use Rattle.image.specs.Nodes.{IsImageOf, node_of}
use Rattle.image.proofs.Made.{image_short, is_image, is_none, too_long}
use Rattle.image.proofs.Spelled.{image_of_one, wide_for}

-- bytes are the image of at most one node, if a log follows it
pub logged_of_one : (bytes : List ℕ) (m n : NodeView) → IsLoggedOf bytes m → IsLoggedOf bytes n
    → m ≡ n
logged_of_one bytes m n a b = image_of_one (unlogged bytes) m n a.plain b.plain

-- ---- bytes with another version

unlogged_length : (bytes : List ℕ) → length (unlogged bytes) ≡ length bytes
unlogged_length [] = refl
unlogged_length (a ∷ []) = refl
unlogged_length (a ∷ b ∷ []) = refl
unlogged_length (a ∷ b ∷ v ∷ rest) = refl

unlogged_again : (bytes : List ℕ) → unlogged (logged bytes) ≡ bytes
unlogged_again [] = refl
unlogged_again (a ∷ []) = refl
unlogged_again (a ∷ b ∷ []) = refl
unlogged_again (a ∷ b ∷ v ∷ rest) =
    let back : (v + 1) - 1 ≡ v = omega arith in
    ap (λ (n : ℕ). a ∷ b ∷ n ∷ rest) back

unlogged_bytes : (bytes : List ℕ) → IsBytes bytes → IsBytes (unlogged bytes)
unlogged_bytes [] are = are
unlogged_bytes (a ∷ []) are = are
unlogged_bytes (a ∷ b ∷ []) are = are
unlogged_bytes (a ∷ b ∷ v ∷ rest) are = λ i. by i where
  by : (i : ℕ) → slice_index (unlogged (a ∷ b ∷ v ∷ rest)) i < 2 ^ 8
  by zero = are 0
  by (suc zero) = are 1
  by (suc (suc zero)) = (let small = are 2 in omega (arith, small))
  by (suc (suc (suc i))) = are (suc (suc (suc i)))

-- ---- what is written

-- the number of the version, if a log follows
abbrev pub logged_number : Layout → ℕ
logged_number layout.First = 2
logged_number layout.Second = 3
logged_number (layout.Wide places bytes) = 5

-- another number in the place of the version
numbered : (l : Layout) (s : Stored) → slice_set (spelling l s) 2 (logged_number l)
    ≡ logged (spelling l s)
unfolding spelling image_format start_format layout_format
numbered layout.First s = refl
numbered layout.Second s = refl
numbered (layout.Wide places bytes) s = refl

begins : (shape : Shaped) (s : Stored)
    → begins_logged (logged (spelling (layout_for shape) s)) ≡ true
unfolding spelling image_format start_format layout_format
begins shape s =
    cond_both shape.wide (layout.Wide shape.places shape.bytes) layout.Second
    (λ (l : Layout). begins_logged (logged (spelling l s)) ≡ true) (λ _. refl) (λ _. refl)

-- the bytes say that a log follows
pub logged_begins : (n : NodeView) → begins_logged (logged_image n) ≡ true
logged_begins n = begins n.local.shape (stored_by n)

pub not_large : (n : NodeView) → IsImageOf (image_of n) (kept_view n) → IsTooLarge n → ⊥
not_large n is long =
    let image = is.spelled.image in
    let l = layout_for n.local.shape in
    let wide : is_wide is.layout ≡ n.local.shape.wide =
    sym (image_wide (image_of n) is.layout is.spelled.says image)
    ∙ spelled_wide l (stored_by n) ∙ wide_for n.local.shape in
    image.within (wide ∙ long.0, long.1)

pub logged_saved : (n : NodeView) → IsImageOf (image_of n) (kept_view n) →
    IsLoggedOf (logged_image n) (kept_view n)
logged_saved n is = record {
  begins = logged_begins n;
  plain = subst (λ l. IsImageOf l (kept_view n)) (sym (unlogged_again (image_of n))) is;
}

-- the image behind other bytes becomes one that a log follows
pub logged_behind : (front : List ℕ) (n : NodeView) (number : ℕ)
    → number ≡ cond n.local.shape.wide 5 3
    → slice_set (front ++ image_of n) (length front + 2) number ≡ front ++ logged_image n
logged_behind front n number is =
    let two : (length front + 2) - length front ≡ 2 = omega arith in
    let same : number ≡ logged_number (layout_for n.local.shape) =
    is
    ∙ cond_both n.local.shape.wide (layout.Wide n.local.shape.places n.local.shape.bytes)
    layout.Second
    (λ (l : Layout). cond n.local.shape.wide 5 3 ≡ logged_number l)
    (λ wide. ap (λ b. cond b 5 3) wide) (λ plain. ap (λ b. cond b 5 3) plain) in
    set-append_right front (image_of n) (length front) (length front + 2) number refl (omega arith)
    ∙ ap (λ i. front ++ slice_set (image_of n) i number) two
    ∙ ap (λ k. front ++ slice_set (image_of n) 2 k) same
    ∙ ap (λ l. front ++ l) (numbered (layout_for n.local.shape) (stored_by n))

-- ---- what is read

module _ (bytes : List ℕ) (logs : begins_logged bytes ≡ true) where
  -- without a log they are as long, and of the same kind
  plain_long : IsTooLong (says_wide bytes) (length bytes)
      → IsTooLong (says_wide (unlogged bytes)) (length (unlogged bytes))
  plain_long long =
      (unlogged_wide bytes logs ∙ long.0, omega (arith, long.1, unlogged_length bytes))

  long_plain : IsTooLong (says_wide (unlogged bytes)) (length (unlogged bytes))
      → IsTooLong (says_wide bytes) (length bytes)
  long_plain long =
      (sym (unlogged_wide bytes logs) ∙ long.0, omega (arith, long.1, unlogged_length bytes))

  to_logged : (n : NodeView) → IsImageOf (unlogged bytes) n → IsLoggedOf bytes n
  to_logged n is = record { begins = logs; plain = is }

  abbrev IsOfNone : Refusal → Type 0
  IsOfNone e = e ≢ Memory → (e ≡ BadImage) × ((n : NodeView) → IsLoggedOf bytes n → ⊥)

  pub long_logged : IsTooLong (says_wide bytes) (length bytes) → IsOfNone BadImage
  long_logged long = λ _. (
    refl,
    λ n is. (too_long (unlogged bytes) (plain_long long) (λ bad. absurd cc)).1 n is.plain,
  )

  pub logged_short : (n : NodeView) → IsLoggedOf bytes n
      → IsTooLong (says_wide bytes) (length bytes) → ⊥
  logged_short n is long = (long_logged long (λ bad. absurd cc)).1 n is

  pub unread_logged : (e : Refusal) → (e ≢ Memory → (e ≡ BadImage) × (logged_at bytes ≡ None))
      → IsOfNone e
  unread_logged e refused = λ other.
      let h = refused other in (
        h.0,
        λ n is.
            let p = is.plain.spelled in
            let l = is.plain.layout in
            let some : ◌≡◌ {A = Option (Layout × Stored)} (Some (l, p.says)) None =
            sym (again (unlogged bytes) l p.says p.image) ∙ read_unlogged bytes logs ∙ h.1 in
            absurd cc,
      )

  -- the bytes are an image that a log follows, which says this
  pub record SaysLogged (l : Layout) (s : Stored) : Type 0 where
    pub are : IsBytes bytes
    pub within : IsTooLong (says_wide bytes) (length bytes) → ⊥
    pub says : logged_at bytes ≡ Some (l, s)

  module _ {l : Layout} {s : Stored} (image : SaysLogged l s) where
    reads : read (unlogged bytes) ≡ Some (l, s)
    reads = read_unlogged bytes logs ∙ image.says

    pub image_unlogged : IsImage (unlogged bytes) l s
    image_unlogged =
        spelled_so (unlogged bytes) l s (unlogged_bytes bytes image.are)
        (λ long. image.within (long_plain long)) reads

    pub logged_image_is : (r : Result NodeView Refusal) → IfOk r (λ n. n ≡ node_of l s)
        → OnOk r (IsStanding (node_of l s)) → IfOk r (IsLoggedOf bytes)
    logged_image_is r made stands =
        IfOk-weaker r (IsImageOf (unlogged bytes)) (IsLoggedOf bytes) to_logged
        (is_image (unlogged bytes) l s r image_unlogged made stands)

    pub logged_none : (r : Result NodeView Refusal)
        → IfErr r (λ e. e ≢ Memory → (e ≡ BadImage) × (IsStanding (node_of l s) → ⊥))
        → IfErr r IsOfNone
    logged_none r refused =
        IfErr-weaker r
        (λ e. e ≢ Memory → (e ≡ BadImage) × ((n : NodeView) → IsImageOf (unlogged bytes) n → ⊥))
        IsOfNone
        (λ e more other. let h = more other in (h.0, λ n is. h.1 n is.plain))
        (is_none (unlogged bytes) l s image_unlogged.fits reads r refused)

-- what is read isn't too long, with a log or without
pub any_short : (bytes : List ℕ) (n : NodeView) → IsAnyImageOf bytes n
    → IsTooLong (says_wide bytes) (length bytes) → ⊥
any_short bytes n is = by (begins_logged bytes) refl is where
  by : (logged : Bool) → begins_logged bytes ≡ logged → IsEither logged bytes n
      → IsTooLong (says_wide bytes) (length bytes) → ⊥
  by true logs is = logged_short bytes logs n is
  by false plain is = image_short bytes n is
