-- What no space without a collector sees: shading, vouching, joining, the collector's own steps and
-- its messages. They don't change registers, letters and objects, except that a sweep removes some
-- objects. They send no message of a program.
use Rattle.std.proofs.Common.{◌≡◌, ℕ, true, false, List, [], ◌∷◌, refl, ap, ◌∙◌, inl, inr, cond}
use Rattle.std.proofs.lemmas.Bool.{cond_both}
use Rattle.ids.specs.declared.names.Ref.{Ref}
use Rattle.msg.specs.declared.body.Body.{Body}
use Rattle.msg.specs.declared.body.Message.{Message}
use Rattle.model.specs.declared.event.Event.{Event}
use Rattle.model.specs.declared.event.Event.TheVariants as event
use Rattle.model.specs.State.{Heap, LocalState}
use Rattle.model.specs.Effects.{Work, then, Effect}
use Rattle.model.specs.Counting.{is_reference, append, announce, to_others}
use Rattle.model.specs.Shading.{is_open, enter, joined, marks_for, unasked, see_to}
use Rattle.model.specs.Collecting.{reports_sweep, looked_at, swept_slots}
use Rattle.model.specs.Steps.{is_own, made, take_carried, share}
use Rattle.model.proofs.Walk.{work_in, Collects, idle-quiet, joined-walks, carried-walks, begun-walks, scanned-walks, passed-walks, share-walks}
use Rattle.laws.specs.Objects.{is_program}
use Rattle.laws.proofs.Meets.{marks-from}
use Rattle.laws.specs.Sights.{thing_of}
use Rattle.laws.proofs.PhaseSteps.{others-are}
use Rattle.laws.proofs.Sweeps.{swept-some, reclaimed-lessens}
use Rattle.laws.proofs.Things.{Kept, Still, still-same, still-through, still-sharing, still-greys, IsQuiet, quiet-append}

-- some work after which no object is gone, and no message of a program was sent
pub record Calm (h : Heap) (w : Work) : Type 0 where
  pub still : Still h w.local.heap
  pub quiet : IsQuiet w.sends

pub none-quiet : IsQuiet []
none-quiet to x never = absurd never

one-quiet : (j : ℕ) (y : Message) → is_reference y.body ≡ false → IsQuiet ((j, y) ∷ [])
one-quiet j y none to x (inl same) =
    ap (λ (z : ℕ × Message). is_reference z.1.body) same ∙ none
one-quiet j y none to x (inr never) = absurd never

marks-quiet : (cycle : ℕ) (rs : List Ref) → IsQuiet (marks_for cycle rs)
marks-quiet cycle rs to x a =
    let found = marks-from cycle rs to x a in
    ap (λ (z : ℕ × Message). is_reference z.1.body) found.2

others-quiet : (p : LocalState) (b : Body) (n : ℕ) → is_reference b ≡ false
    → IsQuiet (to_others p b n)
others-quiet p b n none to x a =
    ap (λ (z : Message). is_reference z.body) (others-are p b n to x a).0 ∙ none

-- ---- the collector's moves

same-calm : {h : Heap} {w : Work} → w.local.heap.registers ≡ h.registers
    → w.local.heap.letters ≡ h.letters → w.local.heap.slots ≡ h.slots → IsQuiet w.sends → Calm h w
same-calm registers letters slots quiet =
    record { still = still-same registers letters slots; quiet = quiet }

pub calm-collects : Collects (λ p w. Calm p.heap w)
unfolding see_to enter append announce
calm-collects = record {
  rest = λ p. same-calm refl refl refl none-quiet;
  both = λ p w f first second. record {
    still = still-through first.still second.still;
    quiet = quiet-append w.sends (f w.local).sends first.quiet second.quiet;
  };
  sees = λ due rs p. record {
    still = still-greys p.own p.phases.cycle p.heap (cond (is_open p) rs []);
    quiet = marks-quiet p.phases.cycle
        (cond due (unasked p.own p.asked (cond (is_open p) rs [])) []);
  };
  enters = λ p cycle later. same-calm refl refl refl none-quiet;
  rings = λ p r. same-calm refl refl refl none-quiet;
  ends = λ p. same-calm refl refl refl none-quiet;
  hears = λ p reports. same-calm refl refl refl none-quiet;
  scans = λ p. same-calm refl refl refl none-quiet;
  sends = λ to b p idle. same-calm refl refl refl (one-quiet to _ (idle-quiet b idle));
  tells = λ b p idle.
      same-calm refl refl refl (others-quiet p b p.shape.nodes (idle-quiet b idle));
}

-- objects become shared
pub calm-shares : (p : LocalState) (rs : List Ref) → Calm p.heap (share rs p)
calm-shares =
    share-walks calm-collects
    (λ p r. record { still = still-sharing p.heap r; quiet = none-quiet })

-- a message is received, up to what its body asks for
abbrev pub before_body : LocalState → ℕ → Body → Work
before_body p stamp b = then (joined p stamp) (take_carried stamp b)

pub calm-before : (p : LocalState) (stamp : ℕ) (b : Body) → Calm p.heap (before_body p stamp b)
calm-before p stamp b =
    calm-collects.both p (joined p stamp) (take_carried stamp b)
    (joined-walks calm-collects p stamp)
    (carried-walks calm-collects stamp b (joined p stamp).local)

-- ---- the collector's own steps

-- the effect of a step that no space without a collector sees
pub record Unseen (h : Heap) (x : Effect) : Type 0 where
  pub kept : Kept h x.local.heap
  pub quiet : IsQuiet x.sends

unseen : {h : Heap} {x : Effect} → Calm h (work_in x) → Unseen h x
unseen calm = record { kept = calm.still.kept; quiet = calm.quiet }

pub unseen-own : (p : LocalState) (counts : List ℕ) (e : Event) → is_own e ≡ true
    → is_program e ≡ false → Unseen p.heap (made p counts e)
unfolding swept_slots
unseen-own p counts event.Begin own none = unseen (begun-walks calm-collects p)
unseen-own p counts event.Scan own none = unseen (scanned-walks calm-collects p)
unseen-own p counts event.Pass own none = unseen (passed-walks calm-collects p)
unseen-own p counts (event.Sweep count) own none =
    let swept = swept-some p.phases.cycle p.phases.cursor (looked_at p count)
    (record { heap = p.heap; freed = 0 }) in
    record {
      kept = record {
        registers = swept.registers;
        letters = swept.letters;
        objects = λ k e y there. (y, (swept.back k e y there).0, refl);
      };
      quiet = cond_both (reports_sweep p count) _ [] IsQuiet (λ _. one-quiet 0 _ refl)
          (λ _. none-quiet);
    }
unseen-own p counts (event.Reclaim scope) own none =
    let less = reclaimed-lessens scope p.own p.heap in
    record {
      kept = record {
        registers = less.registers;
        letters = less.letters;
        objects = λ k e y there.
            (let x = less.left k e y there in (x.0, x.1, ap thing_of x.2));
      };
      quiet = none-quiet;
    }
unseen-own p counts (event.Next from) own none = unseen (calm-collects.rest p)
unseen-own p counts (event.Data d) own none = absurd cc
unseen-own p counts (event.Ack a) own none = absurd cc
unseen-own p counts e own none = absurd cc
