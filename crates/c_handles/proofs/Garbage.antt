-- What was garbage is gone once each cell is saved and has swept the cycle.
use Rattle.std.proofs.Common.{◌≡◌, ◌<◌, ⊎_elim, ℕ, Bool, true, false, not, is_some, List, [], ◌∷◌, ◌++◌, length, Option, Some, None, Result, Ok, Err, inl, inr, refl, sym, ap, ◌∙◌, subst}
use Rattle.std.specs.List.{AllByRecursion}
use Rattle.std.proofs.lemmas.Bool.{cases_lt, false≢true, leb-true}
use Rattle.std.proofs.lemmas.List.{append_cancel_left, get_or_past}
use Rattle.ids.specs.declared.names.Ref.{Ref}
use Rattle.ids.specs.declared.refusal.Refusal.{Refusal}
use Rattle.model.specs.declared.step.Step.{Step}
use Rattle.model.specs.declared.step.Step.TheVariants as step
use Rattle.model.specs.declared.step.Outcome.{Outcome}
use Rattle.model.specs.World.{World, happens, outcome_of, run, take_step}
use Rattle.laws.specs.Statements.{IfDone, LeavesAlone, StaysUp, EachDone, resolved}
use Rattle.laws.proofs.KeepsSent.{run-count}
use Rattle.disk.specs.Memory.{left_by}
use Rattle.wire.specs.Readers.{known}
use Rattle.wire.specs.Rule.{AreEvents, events_of}
use Rattle.wire.proofs.Between.{all-events, events-append, events-back}
use Rattle.cell.specs.Garbage.{WasGarbage}
use Rattle.cell.proofs.Together.{cells-free-garbage}
use Rattle.c_values.specs.declared.fault.Fault.{Fault}
use Rattle.c_values.specs.declared.fault.Fault.TheVariants as fault
use Rattle.c_handles.specs.Collecting.{AreInOrder, AreSaved, AreSwept, Collects, EndsAfter, cell_at, has_swept, is_unsaved}
use Rattle.c_handles.specs.Garbage.{AreQuiet, Collected, GarbageIsGone, IsHistory, IsQuiet, IsQuietIf, is_quiet}
use Rattle.c_handles.specs.declared.seated.SeatedCell.{SeatedCell}
use Rattle.c_handles.proofs.Quiet.{collects-quiet, same-quiet}

-- ---- Quiet steps

abbrev AreCalm : List Step → Type 0
AreCalm steps = AllByRecursion (λ s. is_quiet s ≡ true) steps

-- nothing is resolved
alone : (o : Option Ref) (q : Ref) → not (is_some o) ≡ true → o ≡ Some q → ⊥
alone None q calm is = absurd cc
alone (Some r) q calm is = false≢true calm

if-done : (w : World) (r : Ref) (s : Step) (o : Result Outcome Refusal) → is_quiet s ≡ true
    → IfDone (LeavesAlone w r) s o
if-done w r (step.Act i e) (Ok o) calm = λ q is. absurd (alone (resolved e) q calm is)
if-done w r (step.Act i e) (Err f) calm = tt
if-done w r (step.Save i) o calm = tt
if-done w r (step.Restart i) o calm = tt
if-done w r (step.Deliver from to number) o calm = tt
if-done w r (step.Hand from to) o calm = tt

each-done : (w : World) (r : Ref) (v : World) (steps : List Step) → AreCalm steps
    → EachDone (LeavesAlone w r) v steps
each-done w r v [] calm = tt
each-done w r v (s ∷ ss) calm =
    (if-done w r s (outcome_of (take_step v s)) calm.0, each-done w r (happens v s) ss calm.1)

stays-up : (i : ℕ) (steps : List Step) → AreCalm steps → StaysUp i steps
stays-up i [] calm = tt
stays-up i (s ∷ ss) calm =
    (λ is. false≢true (subst (λ t. is_quiet t ≡ true) is calm.0), stays-up i ss calm.1)

-- ---- What was done since an earlier moment

module _ {opening : World} {before since : List Step} {earlier later : List (Option SeatedCell)}
    (h : IsHistory opening before since earlier later) where
  -- at a node
  of-cell : (k : ℕ) (c d : SeatedCell) → cell_at earlier k ≡ Some c → cell_at later k ≡ Some d
      → IsQuiet c d → AreCalm (events_of k since)
  of-cell k c d was is q =
      let led = h.were k c was in
      let leads = h.are k d is in
      let number = (h.each k d is).number in
      let mine : (known d.cell.seat).me ≡ k = sym d.cell.seat.sits.me_is ∙ number in
      let same : (known c.cell.seat).me ≡ k =
      sym c.cell.seat.sits.me_is ∙ sym q.same.2 ∙ number in
      let whole : events_of k before ++ events_of k since ≡ events_of k before ++ q.since =
      sym (events-append k before since)
      ∙ ap (λ i. events_of i (before ++ since)) (sym mine)
      ∙ sym leads.own ∙ q.events
      ∙ ap (λ (l : List Step). l ++ q.since)
      (led.own ∙ ap (λ i. events_of i before) same) in
      subst AreCalm (sym (append_cancel_left (events_of k before) _ _ whole)) q.quiet

  at-place : (k : ℕ) (o p : Option SeatedCell) → cell_at earlier k ≡ o → cell_at later k ≡ p
      → IsQuietIf o p → (p ≡ None → ⊥) → AreCalm (events_of k since)
  at-place k (Some c) (Some d) was is q there = of-cell k c d was is q
  at-place k None (Some d) was is q there = absurd q
  at-place k o None was is q there = absurd (there refl)

  -- at all nodes
  all-calm : (cycle : ℕ) → AreQuiet earlier later → AreSwept cycle later → (k : ℕ)
      (c : SeatedCell) → cell_at later k ≡ Some c → AreCalm since
  all-calm cycle quiet swept k c at =
      let of = (h.each k c at).of in
      let are = events-back opening before since
      (subst (λ (w : World). AreEvents w (before ++ since)) of.began (h.are k c at).events) in
      all-events (λ s. is_quiet s ≡ true) (run opening before) since are (λ i inside.
      at-place i _ _ refl refl (quiet.each i) (λ none.
      false≢true (subst (λ o. has_swept cycle o ≡ true) none
      (swept i (subst (λ n. i < n) (run-count opening before ∙ sym h.count) inside)))))

within : (cells : List (Option SeatedCell)) (k : ℕ) (c : SeatedCell) → cell_at cells k ≡ Some c
    → k < length cells
within cells k c at =
    ⊎_elim (λ less. less)
    (λ beyond. absurd (let none = sym (get_or_past cells k None beyond) ∙ at in cc))
    (cases_lt k (length cells))

garbage-is-gone : (cycle : ℕ) (cells : List (Option SeatedCell)) → AreSaved cells
    → AreSwept cycle cells → GarbageIsGone cycle cells
garbage-is-gone cycle cells saved swept opening before since past r h quiet first dead k c at its =
    let of = h.each k c at in
    let less = within cells k c at in
    let calm = all-calm h cycle quiet swept k c at in
    let was : WasGarbage opening before since cycle r = record {
      reached = h.reached;
      earlier = first;
      garbage = ⊎_elim (λ old. inl old) (λ new. inr (new, stays-up r.node since calm)) dead;
      alone = each-done (run opening before) r (run opening before) since calm;
    } in
    let none = cells-free-garbage left_by opening before since cycle r c.cell was (record {
      of = of.of;
      leads = h.are k c at;
      owns = of.number ∙ sym its;
      swept = leb-true cycle _ (subst (λ o. has_swept cycle o ≡ true) at (swept k less));
    }) in
    (none.0, none.1 (subst (λ o. is_unsaved o ≡ false) at (saved k less)))

-- ---- A collection

ended : (cycle : ℕ) (mid new : List (Option SeatedCell)) (s : Result Bool Fault)
    (r : Result (Unit {0}) Fault) → s ≡ Ok true → EndsAfter cycle mid new s r
    → GarbageIsGone cycle new
ended cycle mid new (Ok true) (Ok u) is h =
    subst (GarbageIsGone cycle) (sym h.0) (garbage-is-gone cycle mid h.1 h.2)
ended cycle mid new (Ok false) (Ok u) is h = absurd cc
ended cycle mid new (Err f) (Ok u) is h = absurd cc
ended cycle mid new s (Err f) is h = absurd (let failed = sym h.1 ∙ is in cc)

pub in-order : (cycle : ℕ) (old new : List (Option SeatedCell)) (s : Result Bool Fault)
    → AreInOrder old → Collects cycle old new s → Collected cycle old new s
in-order cycle old new s order h = record {
  collects = λ _. h;
  refused = λ not_so. absurd (not_so order);
  quiet = collects-quiet cycle old new s h;
  gone = λ is. ended cycle h.mid new s h.result is h.ends;
}

pub out-of-order : (cycle : ℕ) (old new : List (Option SeatedCell)) → (AreInOrder old → ⊥)
    → new ≡ old → Collected cycle old new (Err fault.BadArgument)
out-of-order cycle old new none same = record {
  collects = λ order. absurd (none order);
  refused = λ _. (same, refl);
  quiet = same-quiet old new same;
  gone = λ is. absurd cc;
}
