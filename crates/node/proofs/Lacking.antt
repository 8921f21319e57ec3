-- What a node answers to a letter for which memory ran out before it became a message.
use Rattle.std.proofs.Common.{◌≡◌, ℕ, ◌+◌, ◌<◌, ◌≤◌, true, ◌&&◌, not, List, map, Option, Result, Ok, Err, refl, sym, subst, arith}
use Rattle.std.specs.Prelude.{IsTrue, nat_le, nat_lt}
use Rattle.std.proofs.lemmas.Bool.{and_parts, cond_both, false≢true, le-leb, lt-ltb}
use Rattle.std.proofs.lemmas.Bool.Decides.{nat_tests}
use Rattle.ids.specs.declared.names.Ref.{Ref}
use Rattle.ids.specs.declared.limits.TheConstants.{WINDOW}
use Rattle.ids.specs.declared.refusal.Refusal.{Refusal}
use Rattle.ids.specs.declared.refusal.Refusal.TheVariants.{Memory, LinkSpent}
use Rattle.msg.specs.Limits.{is_post}
use Rattle.msg.specs.declared.body.Body.TheVariants as body
use Rattle.msg.specs.declared.frame.Data.{Data}
use Rattle.model.specs.Checks.{IsReplaced, by_memory}
use Rattle.model.specs.Effects.{Effect}
use Rattle.model.specs.State.{got_from}
use Rattle.model.specs.declared.event.Answer.TheVariants as answer
use Rattle.model.specs.declared.event.Event.TheVariants as event
use Rattle.model.specs.Steps.{is_addressed, is_memory_free, is_next, may_take, taken_in, fits}
use Rattle.model.specs.View.{NodeView, view_act, view_after, view_done, used}
use Rattle.model.proofs.Shown.{view-taken_in}
use Rattle.link_ends.specs.declared.receiver.Offer.TheVariants.{Repeat, Early}
use Rattle.link_ends.specs.Receivers.{offered}
use Rattle.node.specs.Lacking.{Lacks}
use Rattle.node.proofs.Receipts.{busy, early-unchanged, Refuses}

-- memory runs out for a message that is answered, or whose messages get no numbers
lacks-memory : (n : NodeView) (d : Data) → IsReplaced true (view_act n (event.Data d))
    → (IsTrue (is_memory_free n.local (event.Data d)) → ⊥) → Lacks n d (Err Memory)
lacks-memory n d replaced busy = record {
  performed = record { performs = by_memory refl replaced; unchanged = refl };
  memory_free = λ free. absurd (busy free);
  repeats = tt;
}

-- it is refused before that
pub lacks-refused : {n : NodeView} {d : Data} {e : Refusal} → Refuses n d e → Lacks n d (Err e)
lacks-refused h = record { performed = h.0; memory_free = h.1; repeats = tt }

-- messages without tests before them
done-replaced : (n : NodeView) (x : Effect) → IsReplaced true (view_done n x)
done-replaced n x =
    cond_both (fits (map used n.links) x.sends) (Ok x) (Err LinkSpent)
    (λ (r : Result Effect Refusal). IsReplaced true (view_after n n.links r)) (λ _. tt) (λ _. refl)

module _ (n : NodeView) (d : Data) (addressed : is_addressed n.local d.from d.to ≡ true) where
  abbrev got : ℕ
  got = got_from n.local d.from

  repeat-unchanged : d.number ≤ got → view_act n (event.Data d) ≡ Ok (n, answer.Repeat)
  unfolding view_act
  repeat-unchanged old =
      let inside : nat_le d.number (got + WINDOW) ≡ true = le-leb _ _ (omega (arith, old)) in
      let known : nat_le d.number got ≡ true = le-leb _ _ old in
      rw (addressed, inside, known) refl

  pub lacks-repeat : offered got d.number ≡ Ok Repeat → Lacks n d (Ok answer.Repeat)
  lacks-repeat is =
      let old : d.number ≤ got = grind (arith, nat_tests) in
      record {
        performed = record { performs = repeat-unchanged old; unchanged = tt };
        memory_free = λ _. tt;
        repeats = refl;
      }

  pub lacks-early : (label : ℕ) (references : List (Option Ref)) (bytes : List ℕ)
      → d.body ≡ body.Post label references bytes → offered got d.number ≡ Ok Early
      → Lacks n d (Err Memory)
  lacks-early label references bytes post is =
      let later : got + 1 < d.number = grind (arith, nat_tests) in
      let within : d.number ≤ got + WINDOW = grind (arith, nat_tests) in
      let ahead : nat_lt (got + 1) d.number ≡ true = lt-ltb (got + 1) d.number later in
      lacks-memory n d (rw (early-unchanged n d addressed later within) tt)
      (λ free.
      let never : not (is_post d.body && nat_lt (got + 1) d.number) ≡ true =
      (and_parts (not (is_next n.local d.from d.number)) _ free).1 in
      false≢true (rw (post, ahead) at never))

  pub lacks-next : d.number ≡ got + 1 → may_take n.local d.from d.stamp d.body ≡ true
      → Lacks n d (Err Memory)
  lacks-next turn may =
      lacks-memory n d
      (subst (IsReplaced true) (sym (view-taken_in n d addressed turn may))
      (done-replaced n (taken_in n.local d.from (got + 1) d.stamp d.body)))
      (busy n d addressed turn)
