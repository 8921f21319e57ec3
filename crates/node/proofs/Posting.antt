-- A letter with references and bytes is sent.
use Rattle.std.proofs.Common.{◌≡◌, ℕ, ◌+◌, ◌≤◌, Bool, true, false, List, [], ◌∷◌, length, take, drop, map, Option, Result, Ok, Err, nat_le, ap, refl, arith}
use Rattle.std.specs.Borrow.{Bor}
use Rattle.std.specs.Prelude.{slice_index_or}
use Rattle.std.proofs.Math.Nat.{min-le_left}
use Rattle.std.proofs.lemmas.Bool.{and_parts, leb-true}
use Rattle.std.proofs.lemmas.List.{length-take}
use Rattle.ids.specs.declared.limits.TheConstants.{GREATEST_LETTER}
use Rattle.ids.specs.declared.names.Ref.{Ref}
use Rattle.ids.specs.declared.refusal.Refusal.{Refusal}
use Rattle.msg.specs.declared.body.Body.TheVariants as body
use Rattle.model.specs.declared.event.Answer.TheVariants as answer
use Rattle.model.specs.declared.event.Event.TheVariants as event
use Rattle.model.specs.Checks.{IsFirstRefusal, guarded, by_test}
use Rattle.model.specs.Counting.{append, stamped}
use Rattle.model.specs.Heaps.{contents, share_all}
use Rattle.model.specs.References.{IsSendable, IsWithin}
use Rattle.model.specs.Shading.{filled}
use Rattle.model.specs.View.{NodeView, used, view_act, view_after}
use Rattle.model.proofs.Checks.{guarded-passes}
use Rattle.model.proofs.References.{holds-contents}
use Rattle.node.specs.Invariant.{IsNode}
use Rattle.node.specs.Sending.{letter_tests, with_sent}
use Rattle.node.proofs.Events.{guarded-err, okay, spared}

-- tests that all pass let any value through
guarded-same : {A B : Type 0} (cs : List (Bool × Refusal)) (x : A) (y : B)
    → guarded cs x ≡ Ok x → guarded cs y ≡ Ok y
guarded-same [] x y h = refl
guarded-same ((true, r) ∷ cs) x y h = guarded-same cs x y h
guarded-same ((false, r) ∷ cs) x y h = absurd cc

-- the node's own objects that these name become shared
abbrev with_shared : NodeView → List (Option Ref) → NodeView
with_shared n vs =
    record n {
      local = record n.local { heap = share_all n.local.own n.local.heap (filled vs) };
    }

module _ (n : NodeView) (to first count : ℕ) (bytes : Bor (List ℕ)) where
  abbrev tested : Result (Unit {0}) Refusal
  tested = guarded (letter_tests n to first count (length bytes.now)) tt

  abbrev Passes : Type 0
  Passes = tested ≡ Ok tt

  -- a test fails
  pub post-refused : (label : ℕ) (e : Refusal) → tested ≡ Err e
      → IsFirstRefusal false e (view_act n (event.Post to label first count bytes))
  unfolding view_act append
  post-refused label e h =
      let tests = letter_tests n to first count (length bytes.now) in
      by_test (spared {A = Unit {0}} tests tt e refl h)
      (ap (view_after n n.links) (guarded-err {A = Unit {0}} tests [] tt _ e h))

  -- the letter may be sent
  pub post-sendable : (label : ℕ) {vs : List (Option Ref)} {bs : List ℕ} → IsNode n → Passes
      → vs ≡ contents n.local.heap first count → bs ≡ bytes.now
      → IsSendable n.local.shape (stamped n.local (body.Post label vs bs))
  post-sendable label {vs} {bs} is passes held same =
      let s = n.local.shape in
      let tests = letter_tests n to first count (length bytes.now) in
      let passed = guarded-passes {A = Unit {0}} tests tt tt passes in
      let few = and_parts s.wide (nat_le count s.places) passed.1.1.1.0 in
      let small = leb-true (length bytes.now) GREATEST_LETTER
      (and_parts (nat_le (length bytes.now) s.bytes) _ passed.1.1.1.1.0).1 in
      let rest : List (Option Ref) = drop first n.local.heap.registers in
      let taken : length (take count rest) ≤ count =
      rw (length-take count rest) (min-le_left count (length rest)) in
      let most = leb-true count s.places few.1 in
      record {
        stamp = is.phases.phases.within;
        references = rw held (holds-contents (IsWithin s) n.local.heap first count is.references);
        place = (
          few.0,
          omega (arith, most, taken, ap length held),
          omega (arith, small, ap length same),
        );
      }

  performed : (label : ℕ) → Passes
      → view_act n (event.Post to label first count bytes)
      ≡ okay
      (with_shared
      (with_sent n to (body.Post label (contents n.local.heap first count) bytes.now))
      (contents n.local.heap first count))
      (answer.Sent (slice_index_or (map used n.links) to 0 + 1))
  unfolding view_act append
  performed label passes =
      ap (view_after n n.links)
      (guarded-same {A = Unit {0}} (letter_tests n to first count (length bytes.now)) tt _ passes)

  -- and was sent
  pub post-answered : (label : ℕ) {vs us : List (Option Ref)} {bs : List ℕ} {m k : NodeView}
      {number : ℕ} → Passes → vs ≡ contents n.local.heap first count → bs ≡ bytes.now
      → us ≡ vs → m ≡ with_sent n to (body.Post label vs bs) → k ≡ with_shared m us
      → number ≡ slice_index_or (map used n.links) to 0 + 1
      → view_act n (event.Post to label first count bytes) ≡ okay k (answer.Sent number)
  post-answered label passes held same kept sent shared numbered =
      rw (numbered, shared, sent, kept, held, same) (performed label passes)
