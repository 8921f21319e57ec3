-- The effect of an event on a node by the definitions, from its tests and its messages.
use Rattle.std.proofs.Common.{◌≡◌, ◌≢◌, ℕ, ◌&&◌, not, Bool, true, false, List, [], ◌∷◌, ◌++◌, map, Result, Ok, Err, ap, refl, sym, ◌∙◌, subst}
use Rattle.std.specs.Prelude.{IsOk}
use Rattle.std.proofs.lemmas.Bool.{and_parts, false≢true}
use Rattle.ids.specs.declared.names.Ref.{Ref}
use Rattle.ids.specs.declared.refusal.Refusal.{Refusal}
use Rattle.ids.specs.declared.refusal.Refusal.TheVariants.{LinkSpent, Memory}
use Rattle.msg.specs.declared.body.Message.{Message}
use Rattle.model.specs.declared.event.Answer.{Answer}
use Rattle.model.specs.Checks.{guarded, IsFirstRefusal, IsOkOrSpent, by_test}
use Rattle.model.proofs.Refusals.{first-refusal}
use Rattle.model.specs.Effects.{Effect, Work, answers}
use Rattle.model.specs.State.{Heap, Phases, Ring, LocalState}
use Rattle.model.specs.Steps.{checked, fits}
use Rattle.model.specs.View.{NodeView, Performed, append_to, used, view_after, view_done}
use Rattle.link.specs.Links.{LinksView}
use Rattle.node.specs.Errands.{IsRun, Runs}
use Rattle.node.specs.Invariant.{links_of}

-- ---- lists of tests

-- more tests behind the first one that fails don't change the outcome
pub guarded-err : {A B : Type 0} (cs ds : List (Bool × Refusal)) (x : A) (y : B) (e : Refusal)
    → guarded cs x ≡ Err e → guarded (cs ++ ds) y ≡ Err e
guarded-err [] ds x y e h = absurd cc
guarded-err ((true, r) ∷ cs) ds x y e h = guarded-err cs ds x y e h
guarded-err ((false, r) ∷ cs) ds x y e h = cc

abbrev pub is_memory : Refusal → Bool
is_memory Memory = true
is_memory e = false

-- no test gives Memory
abbrev pub spares : List (Bool × Refusal) → Bool
spares [] = true
spares (c ∷ cs) = not (is_memory c.1) && spares cs

pub spared : {A : Type 0} (cs : List (Bool × Refusal)) (x : A) (e : Refusal) → spares cs ≡ true
    → guarded cs x ≡ Err e → e ≢ Memory
spared [] x e safe h = absurd cc
spared ((true, r) ∷ cs) x e safe h =
    spared cs x e (and_parts (not (is_memory r)) (spares cs) safe).1 h
spared ((false, r) ∷ cs) x e safe h = λ memory.
    let same : r ≡ Memory = cc in
    let never : not (is_memory Memory) ≡ true =
    subst (λ (z : Refusal). not (is_memory z) ≡ true) same
    (and_parts (not (is_memory r)) (spares cs) safe).0 in
    absurd cc

-- ---- an event other than an acknowledgement

-- the node with these parts, after it has appended these messages
abbrev pub after_step : NodeView → LocalState → List (ℕ × Message) → NodeView
after_step n p ms = record n { local = p; links = append_to n.links ms }

abbrev pub judged_view : NodeView → List (Bool × Refusal) → Effect
    → Result (NodeView × Answer) Refusal
judged_view n ts x = view_after n n.links (checked ts (map used n.links) x)

-- the node with these parts and these links
abbrev pub with_parts : NodeView → Heap → List Ref → Phases → Ring → LinksView → NodeView
with_parts n h asked phases ring l =
    record n {
      local = record n.local { heap = h; asked = asked; phases = phases; ring = ring; got = l.got };
      links = l.links;
      acks = l.acks;
    }

module _ (n : NodeView) {h : Heap} {asked : List Ref} {ring : Ring} {l : LinksView} where
  -- nothing changed
  pub parts-same : h ≡ n.local.heap → asked ≡ n.local.asked → ring ≡ n.local.ring → l ≡ links_of n
      → with_parts n h asked n.local.phases ring l ≡ n
  parts-same a b c d =
      ap (λ (z : Heap). with_parts n z asked n.local.phases ring l) a
      ∙ ap (λ (z : List Ref). with_parts n n.local.heap z n.local.phases ring l) b
      ∙ ap (λ (z : Ring). with_parts n n.local.heap n.local.asked n.local.phases z l) c
      ∙ ap (with_parts n n.local.heap n.local.asked n.local.phases n.local.ring) d

-- an answer, with the node after it
abbrev pub okay : NodeView → Answer → Result (NodeView × Answer) Refusal
okay m a = Ok (m, a)

-- one of an event's own tests fails
pub test_refused : {A : Type 0} (n : NodeView) (ts : List (Bool × Refusal)) (x : Effect) (y : A)
    (e : Refusal) → spares ts ≡ true → guarded ts y ≡ Err e
    → IsFirstRefusal false e (judged_view n ts x)
test_refused n ts x y e safe h =
    by_test (spared ts y e safe h)
    (ap (view_after n n.links)
    (guarded-err ts ((fits (map used n.links) x.sends, LinkSpent) ∷ []) y x e h))

-- all of its own tests pass, and its messages get numbers
pub tests_passed : {A : Type 0} (n : NodeView) (ts : List (Bool × Refusal)) (x : Effect) (y : A)
    → fits (map used n.links) x.sends ≡ true → IsOk (guarded ts y) → IsOk (judged_view n ts x)
tests_passed n [] x y numbers is = rw numbers refl
tests_passed n ((true, r) ∷ ts) x y numbers is = tests_passed n ts x y numbers is
tests_passed n ((false, r) ∷ ts) x y numbers is = absurd (false≢true is)

-- ---- an event that shades: the effect of its errand, and its answer

module _ {n new : NodeView} {x : Effect} {w : Work} {a : Answer} (is : x ≡ answers w a) where
  pub shaded : IsRun w n new → Performed true (Ok a) n new (view_done n x)
  shaded run =
      subst (λ (z : Effect). Performed true (Ok a) n new (view_done n z)) (sym is)
      (record {
        performs = rw run.fits (ap (λ (m : NodeView). okay m a) (sym run.now));
        unchanged = tt;
      })

  pub shaded-refused : {e : Refusal} → Runs (Err e) w n new
      → Performed true (Err e) n new (view_done n x)
  shaded-refused {e = e} runs =
      subst (λ (z : Effect). Performed true (Err e) n new (view_done n z)) (sym is)
      (record {
        performs = first-refusal
            (λ other. let spent = runs.refused other in rw (spent.1, spent.0) refl)
            (λ memory. either (fits (map used n.links) w.sends));
        unchanged = runs.unchanged;
      })
    where
      either : (b : Bool)
          → IsOkOrSpent (view_after n n.links (guarded ((b, LinkSpent) ∷ []) (answers w a)))
      either true = tt
      either false = refl
