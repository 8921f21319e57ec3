-- No line asks for an event that comes from another node.
use Rattle.std.proofs.Common.{◌≡◌, ℕ, Bool, true, false, cond, List, [], ◌∷◌, Option, Some, None, IfSome, refl, subst, sym, ◌∙◌}
use Rattle.std.specs.Option.{option_and_then, option_map}
use Rattle.ids.specs.declared.names.Ref.{Ref}
use Rattle.model.specs.declared.age.Scope.TheVariants as scope
use Rattle.model.specs.declared.event.Event.{Event}
use Rattle.model.specs.declared.event.Event.TheVariants as event
use Rattle.model.specs.declared.step.Step.{Step}
use Rattle.model.specs.declared.step.Step.TheVariants as step
use Rattle.model.specs.Steps.{is_own, lent}
use Rattle.model.specs.World.{is_own_step}
use Rattle.script.specs.declared.line.Line.{Line}
use Rattle.script.specs.declared.line.Line.TheVariants as line
use Rattle.script.specs.Operands.{read}
use Rattle.script.specs.Grammar.{Number, acted, alone, by_operands, command_of, delivery_of, hand_of, is_own_line, line_of, node_line_of, plain, numbered_of, only_wide, reclaim_of, set_bytes_of, patch_of, bytes_of, post_of, fetch_of, letter_of, either_of, of_three, of_two, reference_of, report_of, resolve_of, space_of, stepped, u16_of, u32_of, u64_of, u8_of, wide_of, with_none, with_one, with_three, with_two}

-- the value, if there is one, passes the test
record Passes {X : Type 0} (test : X → Bool) (o : Option X) : Type 0 where
  pub there : IfSome o (λ x. test x ≡ true)

module _ {X : Type 0} {test : X → Bool} where
  none : Passes test None
  none = record { there = tt }

  some : {x : X} → test x ≡ true → Passes test (Some x)
  some passes = record { there = passes }

  either : (b : Bool) {x y : Option X} → Passes test x → Passes test y → Passes test (cond b x y)
  either true p q = p
  either false p q = q

  one : (make : ℕ → X) → ((x : ℕ) → test (make x) ≡ true) → (o : Option ℕ)
      → Passes test (option_map make o)
  one make all None = none
  one make all (Some x) = some (all x)

  two : (f g : Number) (make : ℕ → ℕ → X) → ((x y : ℕ) → test (make x y) ≡ true)
      → (a b : List ℕ) → Passes test (of_two f g make a b)
  two f g make all a b =
      elim (f a)
      as (λ o. Passes test (option_and_then (λ x. option_map (λ y. make x y) (g b)) o)) [
        | None ↦ none
        | Some x ↦ one (λ y. make x y) (λ y. all x y) (g b)
      ]

  three : (f g h : Number) (make : ℕ → ℕ → ℕ → X) → ((x y z : ℕ) → test (make x y z) ≡ true)
      → (a b c : List ℕ) → Passes test (of_three f g h make a b c)
  three f g h make all a b c =
      elim (f a)
      as (λ o. Passes test (option_and_then (λ x. of_two g h (λ y z. make x y z) b c) o)) [
        | None ↦ none
        | Some x ↦ two g h (λ y z. make x y z) (λ y z. all x y z) b c
      ]

own-none : (verb : List ℕ) → Passes is_own (with_none verb)
unfolding with_none
own-none verb =
    either _ (some {x = event.Begin} refl)
    (either _ (some {x = event.Scan} refl) (either _ (some {x = event.Pass} refl) none))

own-one : (verb a : List ℕ) → Passes is_own (with_one verb a)
unfolding with_one
own-one verb a =
    either _ (one (λ x. event.Drop x) (λ x. refl) (u16_of a))
    (either _ (one (λ x. event.Accept x) (λ x. refl) (u16_of a))
    (either _ (one (λ x. event.Word x) (λ x. refl) (u16_of a))
    (either _ (one (λ x. event.Sweep x) (λ x. refl) (u32_of a))
    (either _ (one (λ x. event.Next x) (λ x. refl) (u8_of a)) none))))

own-two : (verb a b : List ℕ) → Passes is_own (with_two verb a b)
unfolding with_two
own-two verb a b =
    either _ (two u16_of u8_of (λ x y. event.Alloc x y) (λ x y. refl) a b)
    (either _ (two u16_of u16_of (λ x y. event.Copy x y) (λ x y. refl) a b)
    (either _ (two u16_of u8_of (λ x y. event.Clear x y) (λ x y. refl) a b)
    (either _ (two u16_of u64_of (λ x y. event.SetWord x y) (λ x y. refl) a b) none)))

own-three : (verb a b c : List ℕ) → Passes is_own (with_three verb a b c)
unfolding with_three
own-three verb a b c =
    either _ (three u8_of u32_of u16_of (λ x y z. event.Give x y z) (λ x y z. refl) a b c)
    (either _ (three u16_of u16_of u8_of (λ x y z. event.Load x y z) (λ x y z. refl) a b c)
    (either _ (three u16_of u8_of u16_of (λ x y z. event.Store x y z) (λ x y z. refl) a b c)
    (either _ (three u16_of u8_of u16_of (λ x y z. event.Put x y z) (λ x y z. refl) a b c)
    (either _ (three u16_of u8_of u32_of (λ x y z. event.Get x y z) (λ x y z. refl) a b c) none))))

own-acted : (node : ℕ) (e : Option Event) → Passes is_own e → Passes is_own_line (acted node e)
own-acted node None own = none
own-acted node (Some e) own = some own.there

own-alone : (node : ℕ) (verb : List ℕ) → Passes is_own_line (alone node verb)
unfolding alone
own-alone node verb =
    either _ (some {x = line.Step (step.Save node)} refl)
    (either _ (some {x = line.Step (step.Restart node)} refl)
    (either _ (some {x = line.State node} refl)
    (own-acted node (with_none verb) (own-none verb))))

own-numbered : (node : ℕ) (words : List (List ℕ)) → Passes is_own_line (numbered_of node words)
unfolding numbered_of
own-numbered node [] = none
own-numbered node (verb ∷ []) = own-alone node verb
own-numbered node (verb ∷ a ∷ []) = own-acted node (with_one verb a) (own-one verb a)
own-numbered node (verb ∷ a ∷ b ∷ []) = own-acted node (with_two verb a b) (own-two verb a b)
own-numbered node (verb ∷ a ∷ b ∷ c ∷ []) =
    own-acted node (with_three verb a b c) (own-three verb a b c)
own-numbered node (verb ∷ a ∷ b ∷ c ∷ d ∷ words) = none

own-set_bytes : (node : ℕ) (words : List (List ℕ)) → Passes is_own_line (set_bytes_of node words)
unfolding set_bytes_of
own-set_bytes node [] = none
own-set_bytes node (a ∷ []) = none
own-set_bytes node (a ∷ b ∷ []) =
    one (λ x. line.SetBytes node x (lent b)) (λ x. refl) (u16_of a)
own-set_bytes node (a ∷ b ∷ c ∷ words) = none

own-patch : (node : ℕ) (words : List (List ℕ)) → Passes is_own_line (patch_of node words)
unfolding patch_of
own-patch node [] = none
own-patch node (a ∷ []) = none
own-patch node (a ∷ b ∷ []) = none
own-patch node (a ∷ b ∷ c ∷ []) =
    two u16_of u32_of (λ x y. line.Patch node x y (lent c)) (λ x y. refl) a b
own-patch node (a ∷ b ∷ c ∷ d ∷ words) = none

own-bytes : (node : ℕ) (words : List (List ℕ)) → Passes is_own_line (bytes_of node words)
unfolding bytes_of
own-bytes node [] = none
own-bytes node (a ∷ []) = none
own-bytes node (a ∷ b ∷ []) = none
own-bytes node (a ∷ b ∷ c ∷ []) =
    three u16_of u32_of u32_of (λ x y z. line.Bytes node x y z) (λ x y z. refl) a b c
own-bytes node (a ∷ b ∷ c ∷ d ∷ words) = none

own-post : (node : ℕ) (words : List (List ℕ)) → Passes is_own_line (post_of node words)
unfolding post_of
own-post node [] = none
own-post node (a ∷ []) = none
own-post node (a ∷ b ∷ []) = none
own-post node (a ∷ b ∷ c ∷ []) = none
own-post node (a ∷ b ∷ c ∷ d ∷ []) = none
own-post node (a ∷ b ∷ c ∷ d ∷ e ∷ []) =
    elim (u8_of a)
    as (λ o. Passes is_own_line (option_and_then (λ to. of_three u32_of u16_of u8_of
    (λ x y z. line.Post node to x y z (lent e)) b c d) o)) [
      | None ↦ none
      | Some to ↦ three u32_of u16_of u8_of
          (λ x y z. line.Post node to x y z (lent e)) (λ x y z. refl) b c d
    ]
own-post node (a ∷ b ∷ c ∷ d ∷ e ∷ f ∷ words) = none

own-fetch : (node : ℕ) (words : List (List ℕ)) → Passes is_own_line (fetch_of node words)
unfolding fetch_of
own-fetch node [] = none
own-fetch node (a ∷ []) = none
own-fetch node (a ∷ b ∷ []) = none
own-fetch node (a ∷ b ∷ c ∷ []) = none
own-fetch node (a ∷ b ∷ c ∷ d ∷ []) =
    elim (u16_of a)
    as (λ o. Passes is_own_line (option_and_then (λ object. of_three u32_of u32_of u32_of
    (λ x y z. line.Fetch node object x y z) b c d) o)) [
      | None ↦ none
      | Some object ↦ three u32_of u32_of u32_of
          (λ x y z. line.Fetch node object x y z) (λ x y z. refl) b c d
    ]
own-fetch node (a ∷ b ∷ c ∷ d ∷ e ∷ words) = none

own-reference : (node register : ℕ) (r : Option Ref)
    → Passes is_own_line (option_map (λ reference. line.Resolve node register reference) r)
own-reference node register None = none
own-reference node register (Some r) = some refl

own-resolve : (node : ℕ) (words : List (List ℕ)) → Passes is_own_line (resolve_of node words)
unfolding resolve_of
own-resolve node [] = none
own-resolve node (a ∷ []) = none
own-resolve node (a ∷ b ∷ []) =
    elim (u16_of a)
    as (λ o. Passes is_own_line (option_and_then (λ register.
    option_map (λ reference. line.Resolve node register reference) (reference_of b)) o)) [
      | None ↦ none
      | Some register ↦ own-reference node register (reference_of b)
    ]
own-resolve node (a ∷ b ∷ c ∷ words) = none

own-letter : (node : ℕ) (words : List (List ℕ)) → Passes is_own_line (letter_of node words)
unfolding letter_of
own-letter node [] = some refl
own-letter node (a ∷ words) = none

own-reclaim : (node : ℕ) (words : List (List ℕ)) → Passes is_own_line (reclaim_of node words)
unfolding reclaim_of
own-reclaim node [] = some refl
own-reclaim node (a ∷ []) = either _ (some {x = line.Reclaim node scope.Young} refl) none
own-reclaim node (a ∷ b ∷ words) = none

own-only_wide : (node : ℕ) (words : List (List ℕ)) → Passes is_own_line (only_wide node words)
unfolding only_wide
own-only_wide node [] = none
own-only_wide node (verb ∷ words) =
    either _ (own-set_bytes node words)
    (either _ (own-patch node words)
    (either _ (own-bytes node words)
    (either _ (own-post node words)
    (either _ (own-fetch node words)
    (either _ (own-resolve node words)
    (either _ (own-letter node words) (either _ (own-reclaim node words) none)))))))

own-either : (o p : Option Line) → Passes is_own_line o → Passes is_own_line p
    → Passes is_own_line (either_of o p)
own-either None p first second = second
own-either (Some l) p first second = first

own-node : (node : ℕ) (words : List (List ℕ)) → Passes is_own_line (node_line_of node words)
unfolding node_line_of
own-node node words =
    own-either (numbered_of node words) (only_wide node words) (own-numbered node words)
    (own-only_wide node words)

own-space : (words : List (List ℕ)) → Passes is_own_line (space_of words)
unfolding space_of
own-space [] = none
own-space (a ∷ []) = none
own-space (a ∷ b ∷ []) = none
own-space (a ∷ b ∷ c ∷ []) =
    three u8_of u16_of u32_of (λ x y z. line.Space x y z) (λ x y z. refl) a b c
own-space (a ∷ b ∷ c ∷ d ∷ words) = none

own-stepped : (s : Option Step) → Passes is_own_step s → Passes is_own_line (stepped s)
own-stepped None own = none
own-stepped (Some s) own = some own.there

own-delivery : (words : List (List ℕ)) → Passes is_own_step (delivery_of words)
unfolding delivery_of
own-delivery [] = none
own-delivery (a ∷ []) = none
own-delivery (a ∷ b ∷ []) = none
own-delivery (a ∷ b ∷ c ∷ []) =
    three u8_of u8_of u64_of (λ x y z. step.Deliver x y z) (λ x y z. refl) a b c
own-delivery (a ∷ b ∷ c ∷ d ∷ words) = none

own-hand : (words : List (List ℕ)) → Passes is_own_step (hand_of words)
unfolding hand_of
own-hand [] = none
own-hand (a ∷ []) = none
own-hand (a ∷ b ∷ []) = two u8_of u8_of (λ x y. step.Hand x y) (λ x y. refl) a b
own-hand (a ∷ b ∷ c ∷ words) = none

own-report : (words : List (List ℕ)) → Passes is_own_line (report_of words)
unfolding report_of
own-report [] = some refl
own-report (a ∷ words) = none

-- after the first two numbers, the other three
own-wide : (words : List (List ℕ)) → Passes is_own_line (wide_of words)
unfolding wide_of
own-wide [] = none
own-wide (a ∷ []) = none
own-wide (a ∷ b ∷ []) = none
own-wide (a ∷ b ∷ c ∷ []) = none
own-wide (a ∷ b ∷ c ∷ d ∷ []) = none
own-wide (a ∷ b ∷ c ∷ d ∷ e ∷ []) =
    elim (u8_of a)
    as (λ o. Passes is_own_line (option_and_then (λ nodes. option_and_then (λ registers.
    of_three u32_of u8_of u32_of (λ x y z. line.Wide nodes registers x y z) c d e) (u16_of b))
    o)) [
      | None ↦ none
      | Some nodes ↦ elim (u16_of b)
          as (λ o. Passes is_own_line (option_and_then (λ registers.
          of_three u32_of u8_of u32_of (λ x y z. line.Wide nodes registers x y z) c d e) o)) [
            | None ↦ none
            | Some registers ↦ three u32_of u8_of u32_of
                (λ x y z. line.Wide nodes registers x y z) (λ x y z. refl) c d e
          ]
    ]
own-wide (a ∷ b ∷ c ∷ d ∷ e ∷ f ∷ words) = none

own-operands : (first : List ℕ) (words : List (List ℕ))
    → Passes is_own_line (by_operands first words)
unfolding by_operands
own-operands first words =
    either _ (own-space words)
    (either _ (own-stepped (delivery_of words) (own-delivery words))
    (either _ (own-stepped (hand_of words) (own-hand words))
    (either _ (own-report words)
    (elim (u8_of first)
    as (λ o. Passes is_own_line (option_and_then (λ node. node_line_of node words) o)) [
      | None ↦ none
      | Some node ↦ own-node node words
    ]))))

own-command : (first : List ℕ) (words : List (List ℕ))
    → Passes is_own_line (command_of first words)
unfolding command_of
own-command first words = either _ (own-wide words) (own-operands first words)

own-line : (words : List (List ℕ)) → Passes is_own_line (line_of words)
unfolding line_of
own-line [] = some refl
own-line (first ∷ words) = either _ (some {x = line.Blank} refl) (own-command first words)

-- an address doesn't matter
own-plain : (l : Line) → is_own_line (plain l) ≡ is_own_line l
own-plain (line.Step s) = refl
own-plain line.Blank = refl
own-plain (line.Space nodes registers slots) = refl
own-plain (line.Wide nodes registers slots places bytes) = refl
own-plain (line.SetBytes node object hex) = refl
own-plain (line.Patch node object offset hex) = refl
own-plain (line.Bytes node object offset count) = refl
own-plain (line.Post node to label first count hex) = refl
own-plain (line.Fetch node object label offset count) = refl
own-plain (line.Resolve node register reference) = refl
own-plain (line.Letter node) = refl
own-plain (line.Reclaim node scope) = refl
own-plain (line.State node) = refl
own-plain line.Report = refl

-- the same of a line that was built in place
pub own_read : {X : Type 0} (done : Option X) (l : Line) (words : List (List ℕ))
    → read done l ≡ line_of words → IfSome done (λ d. is_own_line l ≡ true)
own_read None l words e = tt
own_read (Some d) l words e =
    sym (own-plain l)
    ∙ subst (λ o. IfSome o (λ l. is_own_line l ≡ true)) (sym e) (own-line words).there
