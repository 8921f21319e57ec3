-- What the tests of a message and the limits of its frame imply.
use Rattle.std.proofs.Common.{◌≡◌, ◌≢◌, ℕ, ◌+◌, ◌<◌, ◌≤◌, Bool, true, false, ◌==◌, ◌&&◌, not, List, [], ◌∷◌, length, Option, Some, None, Ok, Err, option_to_list, eq-eqb, refl, ap, sym, ◌∙◌, subst, arith}
use Rattle.std.specs.Prelude.{is_none, is_some, nat_lt, nat_le, IsTrue}
use Rattle.std.specs.List.{AllByRecursion, list_all}
use Rattle.std.proofs.lemmas.Bool.{and_parts, cond-true, cond_both, le-leb, le-ltb, lt-leb, lt-ltb, ltb-false, ltb-true, ne_eqb}
use Rattle.std.proofs.lemmas.Bool.Decides.{nat_tests}
use Rattle.ids.specs.Limits.{Shaped, reference_fits}
use Rattle.ids.specs.declared.limits.TheConstants.{GREATEST_LETTER, GREATEST_PLACES, WINDOW}
use Rattle.ids.specs.declared.names.Ref.{Ref}
use Rattle.ids.specs.declared.refusal.Refusal.{Refusal}
use Rattle.ids.specs.declared.refusal.Refusal.TheVariants.{Memory, OutOfOrder, WrongNode}
use Rattle.msg.specs.Limits.{optional_fits, body_fits}
use Rattle.msg.specs.declared.body.Body.{Body}
use Rattle.msg.specs.declared.body.Token.{Token}
use Rattle.msg.specs.declared.frame.Data.{Data}
use Rattle.msg.specs.declared.body.Body.TheVariants as body
use Rattle.model.specs.State.{LocalState, Phases, got_from}
use Rattle.model.specs.Checks.{by_test}
use Rattle.model.specs.Effects.{Work, at_rest}
use Rattle.model.specs.Shading.{filled, is_calm, join, joined, roots, stays_calm}
use Rattle.model.specs.declared.event.Answer.TheVariants as answer
use Rattle.model.specs.declared.event.Event.TheVariants as event
use Rattle.model.specs.Steps.{is_addressed, is_marking, is_memory_free, is_within, are_within, mentioned, may_reach, may_take, is_next}
use Rattle.model.specs.View.{NodeView, Performed, view_act}
use Rattle.model.specs.References.{IsWithin}
use Rattle.model.proofs.Joining.{join-calm, join-phases, join-token}
use Rattle.cycles.specs.Phases.{IsPhases}
use Rattle.link_ends.specs.Receivers.{offered}
use Rattle.node.specs.Taking.{IsTakable}

reference-within : (shape : Shaped) (r : Ref) → is_within shape r ≡ true → reference_fits r ≡ true
    → IsWithin shape r
reference-within shape r within fit = grind (arith, nat_tests, within, fit)

any-within : (shape : Shaped) (v : Option Ref) → are_within shape (option_to_list v) ≡ true
    → optional_fits v ≡ true → AllByRecursion (IsWithin shape) (option_to_list v)
any-within shape None within fit = tt
any-within shape (Some r) within fit =
    (reference-within shape r (grind (arith, nat_tests, within)) fit, tt)

-- the same of several
within-each : (shape : Shaped) (vs : List (Option Ref)) → are_within shape (filled vs) ≡ true
    → list_all optional_fits vs ≡ true → AllByRecursion (IsWithin shape) (filled vs)
within-each shape [] within fit = tt
within-each shape (None ∷ vs) within fit = within-each shape vs within fit
within-each shape (Some r ∷ vs) within fit =
    let inside = and_parts (is_within shape r) (are_within shape (filled vs)) within in
    let fits = and_parts (reference_fits r) (list_all optional_fits vs) fit in
    (reference-within shape r inside.0 fits.0, within-each shape vs inside.1 fits.1)

-- each one is tested on its own
pub each-within : (shape : Shaped) (vs : List (Option Ref))
    → list_all (λ (v : Option Ref). are_within shape (option_to_list v)) vs
    ≡ are_within shape (filled vs)
each-within shape [] = refl
each-within shape (None ∷ vs) = each-within shape vs
each-within shape (Some r ∷ vs) =
    one (is_within shape r) _
    ∙ ap (λ (b : Bool). is_within shape r && b) (each-within shape vs)
  where
    one : (a b : Bool) → (a && true) && b ≡ a && b
    one true b = refl
    one false b = refl

-- everything that a frame's body mentions is within the shape
within-mentioned : (shape : Shaped) (b : Body) → are_within shape (mentioned b) ≡ true
    → body_fits b ≡ true → AllByRecursion (IsWithin shape) (mentioned b)
within-mentioned shape (body.Mark target) within fit =
    (reference-within shape target (grind (arith, nat_tests, within)) fit, tt)
within-mentioned shape (body.Give label reference) within fit =
    any-within shape reference within fit
within-mentioned shape (body.Put target place reference) within fit = (
  reference-within shape target (grind (arith, nat_tests, within)) (grind (arith, nat_tests, fit)),
  any-within shape reference (grind (arith, nat_tests, within)) (grind (arith, nat_tests, fit)),
)
within-mentioned shape (body.Get target place label) within fit = (
  reference-within shape target (grind (arith, nat_tests, within))
      (grind (arith, nat_tests, fit)),
  tt,
)
within-mentioned shape (body.Post label references bytes) within fit =
    let inner = and_parts (nat_le (length references) GREATEST_PLACES) _ fit in
    within-each shape references within
    (and_parts (nat_le (length bytes) GREATEST_LETTER) _ inner.1).1
within-mentioned shape (body.Fetch target label offset count) within fit = (
  reference-within shape target (grind (arith, nat_tests, within))
      (grind (arith, nat_tests, fit)),
  tt,
)
within-mentioned shape b within fit = tt

-- a message that passed the tests in its turn may be received
pub takable : (p : LocalState) (d : Data) → is_addressed p d.from d.to ≡ true
    → d.number ≡ got_from p d.from + 1 → may_take p d.from d.stamp d.body ≡ true
    → IsTakable p d.from d.stamp d.body
takable p d addressed turn may = record {
  sender = record {
    there = grind (arith, nat_tests, addressed);
    other = grind (arith, nat_tests, addressed);
    room = grind (arith, nat_tests, turn, d.fits);
  };
  cycle = grind (arith, nat_tests, d.fits);
  fits = grind (arith, nat_tests, d.fits);
  within = within-mentioned p.shape d.body
      (and_parts (are_within p.shape (mentioned d.body)) _
      (and_parts (may_reach p d.stamp) _ may).1).0
      (grind (arith, nat_tests, d.fits));
  may = may;
}

-- ---- the tests of a node that joins the message's cycle first can be made before it joins

none-is : {A : Type 0} (o : Option A) → is_none o ≡ not (is_some o)
none-is None = refl
none-is (Some x) = refl

module _ (p : LocalState) (stamp : ℕ) where
  pub joined-token : is_none (joined p stamp).local.ring.token ≡ not (is_some p.ring.token)
  joined-token =
      cond_both (nat_lt p.phases.cycle stamp) (join p stamp) (at_rest p)
      (λ (w : Work). is_none w.local.ring.token ≡ not (is_some p.ring.token))
      (λ _. ap (λ (t : Option Token). is_none t) (join-token p stamp) ∙ none-is p.ring.token)
      (λ _. none-is p.ring.token)

  module _ (phases : IsPhases p.phases) (later : p.phases.cycle < stamp) where
    before : (p.phases.ended == stamp) ≡ false
    before =
        ne_eqb p.phases.ended stamp (λ same. absurd (omega (arith, same, phases.ended, later)))

    joined-later : (joined p stamp).local ≡ (join p stamp).local
    joined-later =
        ap (λ (w : Work). w.local)
        (cond-true (nat_lt p.phases.cycle stamp) (join p stamp) (at_rest p)
        (lt-ltb p.phases.cycle stamp later))

    pub marks-later : is_marking (joined p stamp).local stamp ≡ true
    marks-later =
        ap (λ (q : LocalState). is_marking q stamp) joined-later
        ∙ ap (λ (z : Phases). (stamp == z.cycle) && not (z.ended == z.cycle)) (join-phases p stamp)
        ∙ rw (eq-eqb stamp stamp refl, before) refl

    pub calm-later : is_calm (joined p stamp).local.heap
        ≡ stays_calm p.own stamp p.heap (filled (roots p.heap))
    calm-later =
        ap (λ (q : LocalState). is_calm q.heap) joined-later ∙ join-calm p stamp before

  -- the stamp is the node's cycle, or that of a cycle which the node joins
  pub joined-swept : (stamp == (joined p stamp).local.phases.cycle) ≡ nat_le p.phases.cycle stamp
  joined-swept =
      cond_both (nat_lt p.phases.cycle stamp) (join p stamp) (at_rest p)
      (λ (w : Work). (stamp == w.local.phases.cycle) ≡ nat_le p.phases.cycle stamp)
      (λ later.
      let less : p.phases.cycle < stamp = ltb-true p.phases.cycle stamp later in
      ap (λ (z : Phases). stamp == z.cycle) (join-phases p stamp)
      ∙ eq-eqb stamp stamp refl
      ∙ sym (le-leb p.phases.cycle stamp (omega (arith, less))))
      (λ here. let most = ltb-false p.phases.cycle stamp here in grind (arith, nat_tests, most))

-- ---- a message that isn't received

offered-err : (taken number : ℕ) {e : Refusal} → offered taken number ≡ Err e
    → (OutOfOrder ≡ e) × (nat_le number (taken + WINDOW) ≡ false)
offered-err taken number far = grind (arith, nat_tests)

module _ (n : NodeView) (d : Data) where
  abbrev got : ℕ
  got = got_from n.local d.from

  -- it is refused, and not for lack of memory
  abbrev pub Refuses : Refusal → Type 0
  Refuses e =
      Performed true (Err e) n n (view_act n (event.Data d))
      × (IsTrue (is_memory_free n.local (event.Data d)) → e ≢ Memory)

  pub not-addressed : is_addressed n.local d.from d.to ≡ false → Refuses WrongNode
  unfolding view_act
  not-addressed wrong = (
    record { performs = by_test (λ memory. absurd cc) (rw wrong refl); unchanged = refl },
    λ _ memory. absurd cc,
  )

  pub not-ordered : {e : Refusal} → is_addressed n.local d.from d.to ≡ true
      → offered (got_from n.local d.from) d.number ≡ Err e → Refuses e
  unfolding view_act
  not-ordered addressed far =
      let is = offered-err (got_from n.local d.from) d.number far in
      subst Refuses is.0 (
        record {
          performs = by_test (λ memory. absurd cc) (rw (addressed, is.1) refl);
          unchanged = refl;
        },
        λ _ memory. absurd cc,
      )

  -- it comes early, and changes nothing
  pub early-unchanged : is_addressed n.local d.from d.to ≡ true → got + 1 < d.number
      → d.number ≤ got + WINDOW → view_act n (event.Data d) ≡ Ok (n, answer.Early)
  unfolding view_act
  early-unchanged addressed later within =
      let inside : nat_le d.number (got + WINDOW) ≡ true = le-leb _ _ within in
      let new : nat_le d.number got ≡ false = lt-leb d.number got (omega (arith, later)) in
      let ahead : nat_lt (got + 1) d.number ≡ true = lt-ltb (got + 1) d.number later in
      rw (addressed, inside, new, ahead) refl

  -- its turn has come
  module _ (addressed : is_addressed n.local d.from d.to ≡ true)
      (turn : d.number ≡ got_from n.local d.from + 1) where
    pub not-takable : may_take n.local d.from d.stamp d.body ≡ false → Refuses WrongNode
    unfolding view_act
    not-takable may =
        let inside : nat_le d.number (got + WINDOW) ≡ true = le-leb _ _ (omega (arith, turn)) in
        let new : nat_le d.number got ≡ false = lt-leb d.number got (omega (arith, turn)) in
        let due : nat_lt (got + 1) d.number ≡ false =
        le-ltb (got + 1) d.number (omega (arith, turn)) in (
          record {
            performs = by_test (λ memory. absurd cc) (rw (addressed, inside, new, due, may) refl);
            unchanged = refl;
          },
          λ _ memory. absurd cc,
        )

    pub busy : IsTrue (is_memory_free n.local (event.Data d)) → ⊥
    busy free =
        let never : not true ≡ true =
        subst (λ (b : Bool). not b ≡ true) (eq-eqb d.number (got + 1) turn)
        (and_parts (not (is_next n.local d.from d.number)) _ free).0 in
        absurd cc

pub ruleset joining = (joined-token, joined-swept, marks-later, calm-later)
