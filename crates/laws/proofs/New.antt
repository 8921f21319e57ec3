-- A new space has the invariant, in each of its cuts.
use Rattle.std.proofs.Common.{◌≡◌, ℕ, zero, suc, ℤ, pos, ◌<◌, Bool, true, List, [], length, drop, replicate, get_or, None, Some, slice_get, cond, ◌==◌, refl, sym, ap, ◌∙◌, subst, inl, arith}
use Rattle.std.proofs.lemmas.Bool.{cond_both}
use Rattle.std.specs.List.{IsDistinct}
use Rattle.std.proofs.lemmas.List.{length-replicate}
use Rattle.ids.specs.Limits.{Shaped}
use Rattle.ids.specs.declared.names.Ref.{Ref}
use Rattle.msg.specs.declared.body.Body.TheVariants as body
use Rattle.msg.specs.declared.body.Token.{Token}
use Rattle.msg.specs.declared.body.Message.{Message}
use Rattle.model.specs.State.{NodeState, Occupied, slot_at, new_node, sent_to}
use Rattle.model.specs.Shading.{is_open}
use Rattle.model.specs.References.{IfAny}
use Rattle.model.specs.World.{new_world}
use Rattle.model.specs.Cuts.{Cut, cut, taken, IsInFlight}
use Rattle.model.specs.Agreement.{total, number_of, in_flight, flow, is_counted, balance}
use Rattle.model.proofs.Lookups.{get_or-replicate_any}
use Rattle.std.proofs.lemmas.Int.{ints}
use Rattle.laws.proofs.Tallies.{numbers-nonneg}
use Rattle.laws.proofs.Sums.{total-zero}
use Rattle.laws.proofs.Base.{new-inside, at-new, new-base}
use Rattle.laws.proofs.Invariant.{phases_of, cycle_of, Safe, Holds, FreeSlots, Tidy, RootsAll, Tally, is_fresh, fresh_balance, Spot, at_node, on_way, IsAt, is_held, is_sent, Inv}

pub new-unsent : (shape : Shaped) (own to place : ℕ) (x : Message)
    → slice_get (sent_to (new_node shape own) to) place ≡ Some x → ⊥
new-unsent shape own to place x there =
    absurd (let nothing : None ≡ Some x =
    subst (λ (z : List Message). slice_get z place ≡ Some x)
    (get_or-replicate_any {A = List Message} shape.nodes to []) there in
    cc)

no-free-slots : FreeSlots [] []
unfolding IsDistinct
no-free-slots = record { free = tt; once = tt }

no-messages : (g : ℕ) (xs : List Message) → xs ≡ [] → (f : Message → Bool)
    → number_of f (drop g xs) ≡ 0
no-messages g xs none f =
    ap (λ (z : List Message). number_of f (drop g z)) none ∙ empty g
  where
    empty : (k : ℕ) → number_of f (drop k []) ≡ 0
    empty zero = refl
    empty (suc k) = refl

pub new-inv : (shape : Shaped) (choice : ℕ → Bool) → 0 < shape.nodes
    → Inv shape (cut (new_world shape) choice)
new-inv shape choice some =
    let c : Cut = cut (new_world shape) choice in
    let at : (i : ℕ) (P : NodeState → Type 0) → ((z : Shaped) (own : ℕ) → P (new_node z own))
    → P (c i) =
    λ i P all. at-new shape choice i P all in
    let unsent : (from to place : ℕ) (x : Message) → IsInFlight c from to place x → ⊥ =
    λ from to place x flight.
    at from (λ s. slice_get (sent_to s to) place ≡ Some x → ⊥)
    (λ z own. new-unsent z own to place x) flight.there in
    let cycle : (i : ℕ) → cycle_of c i ≡ 0 =
    λ i. at i (λ s. s.local.phases.cycle ≡ 0) (λ z own. refl) in
    let ended : (i : ℕ) → (phases_of c i).ended ≡ 0 =
    λ i. at i (λ s. s.local.phases.ended ≡ 0) (λ z own. refl) in
    let swept : (i : ℕ) → (phases_of c i).swept ≡ 0 =
    λ i. at i (λ s. s.local.phases.swept ≡ 0) (λ z own. refl) in
    let none : (f : Message → Bool) → flow shape.nodes f c ≡ pos 0 =
    λ f.
    total-zero shape.nodes
    (λ from. total shape.nodes (λ to. pos (number_of f (in_flight c from to))))
    (λ from _.
    total-zero shape.nodes (λ to. pos (number_of f (in_flight c from to)))
    (λ to _.
    ap pos (no-messages (taken c from to) (sent_to (c from) to)
    (at from (λ s. sent_to s to ≡ [])
    (λ z own. get_or-replicate_any {A = List Message} z.nodes to [])) f))) in
    let quiet : (i : ℕ) (z : ℕ)
    → (balance z (c i).local ≡ pos 0) × (fresh_balance z (c i).local ≡ pos 0) =
    λ i z.
    at i (λ s. (balance z s.local ≡ pos 0) × (fresh_balance z s.local ≡ pos 0))
    (λ y own. (nothing-owed z, nothing-fresh z)) in
    record {
      base = new-base shape choice;
      tidy = λ i. at i (λ s. Tidy s.local) (λ z own. record {
        free = no-free-slots;
        room = omega arith;
        marks = λ k g o there. absurd cc;
        calm = λ _. refl;
      });
      phased = record {
        swept = λ i. omega (arith, swept i, ended i);
        ended = λ i. omega (arith, ended i, cycle i);
        cycle = λ i. omega (arith, swept i, cycle i);
        cursor = λ i _. at i (λ s. s.local.phases.cursor ≡ 0) (λ z own. refl);
        first = λ i. omega (arith, ended i, ended 0);
        apart = λ i _. inl (cycle i ∙ sym (cycle 0));
        reports = λ i _ _.
            (let same : get_or (phases_of c 0).reports i 0 ≡ 0 =
            at 0 (λ s. get_or s.local.phases.reports i 0 ≡ 0)
            (λ z own. get_or-replicate_any z.nodes i 0) in
            omega (arith, same, swept i));
        reporters =
            ap (λ (z : NodeState). length z.local.phases.reports) (new-inside shape choice 0 some)
            ∙ length-replicate shape.nodes 0;
      };
      messages = record {
        fits = λ from to place x flight. absurd (unsent from to place x flight);
        once = λ from to k l x y fx. absurd (unsent from to k x fx);
      };
      closed = record {
        roots = λ i. at i (λ s. RootsAll (Safe c) s.local.heap) (λ z own. record {
          registers = λ k. no-register (Safe c) z.registers k;
          letters = λ k. tt;
        });
        places = λ i k g o there.
            absurd
            (at i (λ s. slot_at s.local.heap k ≡ Occupied g o → ⊥) (λ z own e. absurd cc) there);
        messages = λ from to place x flight. absurd (unsent from to place x flight);
      };
      cover = record {
        asked = λ marking. absurd (omega (arith, marking, ended 0, cycle 0));
        messages = λ marking. absurd (omega (arith, marking, ended 0, cycle 0));
      };
      held = record {
        roots = λ i. at i (λ s. is_open s.local ≡ true → RootsAll (Holds s.local) s.local.heap)
            (λ z own never. absurd cc);
        blacks = λ i k g o _ there.
            absurd
            (at i (λ s. slot_at s.local.heap k ≡ Occupied g o → ⊥) (λ z own e. absurd cc) there);
      };
      rested = record {
        grey = λ i _. at i (λ s. s.local.heap.grey ≡ []) (λ z own. refl);
        behind = λ i k g o _ there.
            absurd
            (at i (λ s. slot_at s.local.heap k ≡ Occupied g o → ⊥) (λ z own e. absurd cc) there);
      };
      flows = record {
        counted =
            total-zero shape.nodes (λ i. balance (cycle_of c 0) (c i).local)
            (λ i _. (quiet i (cycle_of c 0)).0)
            ∙ sym (none (is_counted (cycle_of c 0)));
        fresh =
            total-zero shape.nodes (λ i. fresh_balance (cycle_of c 0) (c i).local)
            (λ i _. (quiet i (cycle_of c 0)).1)
            ∙ sym (none (is_fresh (cycle_of c 0)));
      };
      tokens = record {
        round = λ marking. absurd (omega (arith, marking, ended 0, cycle 0));
        rest = λ t s _ there. no-token t s there;
      };
      tallies = λ i _. at i (λ s. Tally shape.nodes s) (λ z own.
          (let least = numbers-nonneg shape.nodes (new_node z own) in record {
            plus_plus = omega (arith, ints, least);
            plus_minus = omega (arith, ints, least);
            minus_plus = omega (arith, ints, least);
            minus_minus = omega (arith, ints, least);
          }));
    }
  where
    no-register : (P : Ref → Type 0) (n k : ℕ) → IfAny P (get_or (replicate n None) k None)
    no-register P zero k = tt
    no-register P (suc n) zero = tt
    no-register P (suc n) (suc k) = no-register P n k

    nothing-owed : (z : ℕ) → ◌≡◌ {A = ℤ} (cond (0 == z) (pos 0) (pos 0)) (pos 0)
    nothing-owed z =
        cond_both (0 == z) (pos 0) (pos 0) (λ (y : ℤ). y ≡ pos 0) (λ _. refl) (λ _. refl)

    nothing-fresh : (z : ℕ) → ◌≡◌ {A = ℤ} (cond (0 == z) (pos 0) (pos 0)) (pos 0)
    nothing-fresh z =
        cond_both (0 == z) (pos 0) (pos 0) (λ (y : ℤ). y ≡ pos 0) (λ _. refl) (λ _. refl)

    no-token : (t : Token) (s : Spot) → IsAt (cut (new_world shape) choice) t s → ⊥
    no-token t (at_node i) (is_held i0 held) =
        at-new shape choice i0 (λ s. s.local.ring.token ≡ Some t → ⊥) (λ z own e. absurd cc) held
    no-token t (on_way from to place) (is_sent f0 t0 p0 stamp flight) =
        at-new shape choice f0 (λ s.
        slice_get (sent_to s t0) p0 ≡ Some (record { stamp = stamp; body = body.Token t }) → ⊥)
        (λ z own. new-unsent z own t0 p0 _) flight.there
