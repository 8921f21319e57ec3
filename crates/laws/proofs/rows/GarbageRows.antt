-- A worked example of old garbage: two objects of two nodes that name each other. Both nodes have
-- saved them, and they are reachable in no cut. After the next cycle's sweeps they are gone.
use Rattle.std.proofs.Common.{◌≡◌, ℕ, zero, suc, ◌<◌, ◌≤◌, Bool, List, [], ◌∷◌, ◌++◌, Option, None, Some, slice_get, refl, sym, ◌∙◌, subst, arith, true}
use Rattle.std.proofs.lemmas.Bool.{cond_both}
use Rattle.std.specs.Int.{int_wrap}
use Rattle.ids.specs.declared.names.Ref.{Ref}
use Rattle.msg.specs.declared.body.Colour.TheVariants.{}
use Rattle.msg.specs.declared.body.Message.{Message}
use Rattle.model.specs.declared.age.Age.TheVariants.{Old}
use Rattle.model.specs.declared.event.Letter.{Letter}
use Rattle.msg.specs.declared.body.Body.TheVariants as body
use Rattle.model.specs.State.{Occupied, NodeState, new_phases, new_ring, no_node, node_at, sent_to, got_from, register_at}
use Rattle.model.specs.Counting.{append, announce}
use Rattle.model.specs.Shading.{make_grey, see_to, enter, join}
use Rattle.model.specs.Collecting.{probe, begun, conclude, passed, free_one, swept_slots}
use Rattle.model.specs.Steps.{act, receive, count_in, take_body, settled, taken_in}
use Rattle.model.specs.World.{World, take_step, new_world}
use Rattle.model.specs.Cuts.{cut, taken, IsInFlight, Reachable, in_register, in_letter, in_message, in_place}
use Rattle.model.specs.Agreement.{OldGarbage}
use Rattle.laws.proofs.rows.Rows.{object, space, drop_register, done}
use Rattle.laws.proofs.rows.Words.{save, ok, Row, ◌gives◌, Prints, after}
use Rattle.laws.proofs.rows.CycleRows.{building, ring_swept}

abbrev ring_left : List Row
ring_left = building ++ drop_register 0 0 gives ok ∷ save 0 gives done ∷ []

pub ring-swept-prints : Prints (space 2 4 16) (ring_left ++ ring_swept)
unfolding int_wrap take_step act receive append announce see_to make_grey enter join begun probe
    conclude passed free_one swept_slots count_in take_body settled taken_in
ring-swept-prints = refl

-- node i, which holds nothing, and whose object names that of node j
abbrev half : ℕ → ℕ → List (List Message) → List ℕ → NodeState
half i j sent got = record {
  local = record {
    shape = space 2 4 16;
    own = i;
    heap = record {
      slots =
          Occupied 1 (record {
            word = 0;
            bytes = [];
            places = Some (object j 0 1) ∷ [];
            mark = 0;
            shared = true;
            age = Old;
          })
          ∷ [];
      free = [];
      registers = None ∷ None ∷ None ∷ None ∷ [];
      letters = [];
      grey = [];
    };
    asked = [];
    phases = new_phases 2;
    ring = new_ring;
    got = got;
  };
  sent = sent;
}

abbrev named_once : ℕ → ℕ → List Message
named_once label i = record { stamp = 0; body = body.Give label (Some (object i 0 1)) } ∷ []

abbrev n0 : NodeState
n0 = half 0 1 ([] ∷ named_once 7 0 ∷ []) (0 ∷ 1 ∷ [])

abbrev n1 : NodeState
n1 = half 1 0 (named_once 8 1 ∷ [] ∷ []) (1 ∷ 0 ∷ [])

abbrev left : World
left = record { current = n0 ∷ n1 ∷ []; saved = n0 ∷ n1 ∷ [] }

left-is : after (new_world (space 2 4 16)) ring_left ≡ left
unfolding int_wrap take_step act receive append announce see_to make_grey enter join begun probe
    conclude passed free_one swept_slots count_in take_body settled taken_in
left-is = refl

-- what holds of both nodes' states, and of the default node past the end, holds in every cut
in-cut : (choice : ℕ → Bool) (i : ℕ) (P : ℕ → NodeState → Type 0)
    → P 0 (node_at left.current 0) → P 1 (node_at left.current 1) → ((j : ℕ) → P j no_node)
    → P i (cut left choice i)
in-cut choice zero P a b c =
    cond_both (choice 0) (node_at left.saved 0) (node_at left.current 0) (P 0) (λ _. a) (λ _. a)
in-cut choice (suc zero) P a b c =
    cond_both (choice 1) (node_at left.saved 1) (node_at left.current 1) (P 1) (λ _. b) (λ _. b)
in-cut choice (suc (suc i)) P a b c =
    cond_both (choice (suc (suc i))) no_node no_node (P (suc (suc i)))
    (λ _. c (suc (suc i))) (λ _. c (suc (suc i)))

empty-register : (choice : ℕ → Bool) (i k : ℕ) → register_at (cut left choice i).local.heap k ≡ None
empty-register choice i k =
    in-cut choice i (λ _ s. register_at s.local.heap k ≡ None) (four k) (four k) (λ _. none k)
  where
    none : (j : ℕ) → register_at no_node.local.heap j ≡ None
    none j = refl

    four : (j : ℕ) → register_at (node_at left.current 0).local.heap j ≡ None
    four zero = refl
    four (suc zero) = refl
    four (suc (suc zero)) = refl
    four (suc (suc (suc zero))) = refl
    four (suc (suc (suc (suc j)))) = refl

no-letters : (choice : ℕ → Bool) (i : ℕ) → (cut left choice i).local.heap.letters ≡ []
no-letters choice i =
    in-cut choice i (λ _ s. s.local.heap.letters ≡ []) refl refl (λ _. refl)

-- everything that was sent was received
all-taken : (choice : ℕ → Bool) (from to place : ℕ) (x : Message)
    → IsInFlight (cut left choice) from to place x → ⊥
all-taken choice from to place x flight =
    in-cut choice from (λ j s. taken (cut left choice) j to ≤ place
    → slice_get (sent_to s to) place ≡ Some x → ⊥) (first to place) (second to place)
    (λ j _ there. absurd cc) flight.later flight.there
  where
    heard : got_from (cut left choice 1).local 0 ≡ 1
    heard =
        cond_both (choice 1) (node_at left.saved 1) (node_at left.current 1)
        (λ s. got_from s.local 0 ≡ 1) (λ _. refl) (λ _. refl)

    answered : got_from (cut left choice 0).local 1 ≡ 1
    answered =
        cond_both (choice 0) (node_at left.saved 0) (node_at left.current 0)
        (λ s. got_from s.local 1 ≡ 1) (λ _. refl) (λ _. refl)

    first : (t p : ℕ) → taken (cut left choice) 0 t ≤ p
        → slice_get (sent_to (node_at left.current 0) t) p ≡ Some x → ⊥
    first zero p later there = absurd cc
    first (suc zero) zero later there = omega (arith, heard, later)
    first (suc zero) (suc p) later there = absurd cc
    first (suc (suc t)) p later there = absurd cc

    second : (t p : ℕ) → taken (cut left choice) 1 t ≤ p
        → slice_get (sent_to (node_at left.current 1) t) p ≡ Some x → ⊥
    second zero zero later there = omega (arith, answered, later)
    second zero (suc p) later there = absurd cc
    second (suc zero) p later there = absurd cc
    second (suc (suc t)) p later there = absurd cc

unreachable : (choice : ℕ → Bool) (r : Ref) → Reachable (cut left choice) r → ⊥
unreachable choice r (in_register i k e) =
    absurd (let never : None ≡ Some r = sym (empty-register choice i k) ∙ e in cc)
unreachable choice r (in_letter i k l there holds) =
    absurd (let never : ◌≡◌ {A = Option Letter} None (Some l) =
    subst (λ (z : List Letter). slice_get z k ≡ Some l) (no-letters choice i) there in cc)
unreachable choice r (in_message from to place x flight a) = all-taken choice from to place x flight
unreachable choice r (in_place owner o k reached there e) = unreachable choice owner reached

pub ring-is-garbage : (node : ℕ) → node < 2
    → OldGarbage (after (new_world (space 2 4 16)) ring_left) (object node 0 1)
ring-is-garbage node inside =
    subst (λ (w : World). OldGarbage w (object node 0 1)) (sym left-is) (by node inside)
  where
    by : (i : ℕ) → i < 2 → OldGarbage left (object i 0 1)
    by zero below = record {
      object = record {
        word = 0;
        bytes = [];
        places = Some (object 1 0 1) ∷ [];
        mark = 0;
        shared = true;
        age = Old;
      };
      saved = refl;
      unreachable = λ choice reached. unreachable choice (object 0 0 1) reached;
    }
    by (suc zero) below = record {
      object = record {
        word = 0;
        bytes = [];
        places = Some (object 0 0 1) ∷ [];
        mark = 0;
        shared = true;
        age = Old;
      };
      saved = refl;
      unreachable = λ choice reached. unreachable choice (object 1 0 1) reached;
    }
    by (suc (suc i)) below = absurd (omega (arith, below))
