-- How a script's space follows the definitions.
use Rattle.std.proofs.Common.{◌≡◌, ◌∙◌, ℕ, true, false, List, [], ◌∷◌, ◌++◌, Result, Ok, Err, Option, Some, None, is_some, OnOk, IfOk, refl, ap, inl, subst, sym}
use Rattle.std.specs.Io.KnownBytes.{Appends}
use Rattle.script.specs.declared.line.Line.{Line}
use Rattle.script.specs.Grammar.{plain}
use Rattle.script.specs.Operands.{read}
use Rattle.std.specs.Borrow.{Bor}
use Rattle.std.proofs.lemmas.Bool.{false≢true}
use Rattle.hex.specs.declared.error.FromHexError.{FromHexError}
use Rattle.commands.specs.declared.simulation.Reply.{Reply}
use Rattle.ids.specs.Limits.{Shaped}
use Rattle.ids.specs.declared.refusal.Refusal.{Refusal}
use Rattle.model.specs.World.{World, new_world, take_step}
use Rattle.model.specs.declared.step.Step.{Step}
use Rattle.model.specs.declared.step.Outcome.{Outcome}
use Rattle.model.specs.declared.step.Outcome.TheVariants as outcome
use Rattle.commands.specs.declared.simulation.Reply.TheVariants as reply
use Rattle.commands.specs.declared.simulation.State.TheVariants as state
use Rattle.node.specs.Keeping.{Rings}
use Rattle.world.specs.Spaces.{KeepsAfter, ShowsSpace, SpaceView, SteppedSpace, step_met}
use Rattle.script.specs.Text.{outcome_text, refused_text}
use Rattle.commands.specs.declared.freed.Freed.{Freed}
use Rattle.commands.specs.Freed.{KeepsSums, freed_after, freed_in, freed_with, sweeper}
use Rattle.commands.specs.declared.simulation.State.{State}
use Rattle.commands.proofs.Sizes.{refused_too_large}
use Rattle.commands.specs.Script.{Held, PrintsReply, IsRead, RefusesStep, StepDone, StepRefused, StepTaken, awaited, denied, there, ShowsHeld, TakesBytes, TakesRead, TakesSpace, TakesStep, TakesWide, TakesWrite, hex_bytes, is_wide, none_kept}

-- what holds of the text that was printed, with its status
pub printed_as : {A E : Type 0} {Q P : ℕ → Type 0} (r : Result ℕ E) → OnOk r A
    → IfOk r Q → (A → (status : ℕ) → Q status → P status) → IfOk r P
printed_as (Ok status) text is follows = follows text status is
printed_as (Err e) text is follows = tt

-- a line that was read is the one that was built
pub read_some : {X : Type 0} (done : Option X) (l : Line) (said : Option Line)
    → read done l ≡ said → is_some done ≡ true → Some (plain l) ≡ said
read_some None l said e done = absurd cc
read_some (Some d) l said e done = e

-- a line that wasn't read is outside the grammar
pub read_none : {X : Type 0} (done : Option X) (l : Line) (said : Option Line)
    → read done l ≡ said → is_some done ≡ false → None ≡ said
read_none None l said e done = e
read_none (Some d) l said e done = absurd cc

pub made_shows : (h : Held) (sizes : Shaped) (x : SpaceView) (f : Freed)
    → ShowsHeld state.Unopened h → ShowsSpace x (new_world sizes)
    → x.early ≡ none_kept sizes.nodes → KeepsSums f.sums []
    → (k : Held) × TakesSpace h sizes (reply.Outcome outcome.Done) k
    × ShowsHeld (state.Open x f) k
made_shows awaited sizes x f shown made none fresh =
    (there (new_world sizes) (none_kept sizes.nodes) [], inl (refl, refl), (made, none, fresh))
made_shows denied sizes x f shown made none fresh = absurd shown
made_shows (there w all sums) sizes x f shown made none fresh = absurd shown

-- a step before there is a space
pub awaited_shows : (h : Held) (step : Step) → ShowsHeld state.Unopened h
    → (k : Held) × TakesStep h step reply.NoCommand k × ShowsHeld state.Unopened k
awaited_shows awaited step shown = (awaited, (refl, refl), shown)
awaited_shows denied step shown = absurd shown
awaited_shows (there w all sums) step shown = absurd shown

-- a step of a space that was refused
pub denied_shows : (h : Held) (step : Step) (e : Refusal)
    → ShowsHeld (state.Refused e) h
    → (k : Held) × TakesStep h step (reply.Refused e) k
    × ShowsHeld (state.Refused e) k
denied_shows awaited step e shown = absurd shown
denied_shows denied step e shown = (denied, (ap reply.Refused shown, refl), shown)
denied_shows (there w all sums) step e shown = absurd shown

-- a step that was taken
pub outcome_shows : {step : Step} {x y : SpaceView} {o : Outcome} (h : Held) (f g : Freed)
    → ShowsHeld (state.Open x f) h → SteppedSpace (Ok o) x y step
    → ((v : World) (sums : List ℕ) → ShowsSpace y v → KeepsSums f.sums sums
    → KeepsSums g.sums (freed_after v step o sums))
    → (k : Held) × TakesStep h step (reply.Outcome o) k
    × ShowsHeld (state.Open y g) k
outcome_shows awaited f g shown stepped noted = absurd shown
outcome_shows denied f g shown stepped noted = absurd shown
outcome_shows {step} {x} {y} {o} (there w all sums) f g shown stepped noted =
    let r = stepped.follows w shown.0 in
    let taken = subst (λ (z : List Rings). take_step w (step_met z step) ≡ Ok (r.0, o)) shown.1
    r.1 in
    let kept = subst (λ (z : List Rings). KeepsAfter w z step (Ok o) y.early) shown.1
    (stepped.early w shown.0) in (
      there r.0 y.early (freed_after r.0 step o sums),
      (r.0, y.early, taken, kept, refl),
      (r.2, refl, noted r.0 sums r.2 shown.2),
    )

-- a step that was refused
pub refusal_shows : (h : Held) (step : Step) (x y : SpaceView) (f : Freed) (e : Refusal)
    → ShowsHeld (state.Open x f) h
    → ((w : World) → ShowsSpace x w → RefusesStep w x.early step e
    × KeepsAfter w x.early step (Err e) y.early × ShowsSpace y w)
    → (k : Held) × TakesStep h step (reply.Refused e) k
    × ShowsHeld (state.Open y f) k
refusal_shows awaited step x y f e shown refused = absurd shown
refusal_shows denied step x y f e shown refused = absurd shown
refusal_shows (there w all sums) step x y f e shown refused =
    let r = refused w shown.0 in
    let why = subst (λ (z : List Rings). RefusesStep w z step e) shown.1 r.0 in
    let kept = subst (λ (z : List Rings). KeepsAfter w z step (Err e) y.early) shown.1 r.1 in
    (there w y.early sums, (y.early, why, kept, refl), (r.2, refl, shown.2))

-- a step that isn't a sweep was taken, and its outcome is on the line
pub step_taken : {s : Step} {x y : SpaceView} {line : List ℕ} → (o : Outcome)
    → SteppedSpace (Ok o) x y s → sweeper s ≡ None → line ≡ outcome_text o ++ 10 ∷ [] → (f : Freed)
    → StepDone s (Ok tt) (state.Open x f) (state.Open y f) line
step_taken {s} {x} {y} o stepped none text f = record {
  taken = record {
    outcome = o;
    answers = λ h shown. outcome_shows h f f shown stepped
        (λ w sums there kept. subst (λ z. KeepsSums f.sums (freed_with w z (freed_in o) sums))
        (sym none) kept);
    text = text;
  };
  refused = tt;
}

-- a step was refused
pub step_refused : {s : Step} {x y : SpaceView} {e : Refusal} {line : List ℕ}
    → SteppedSpace (Err e) x y s → (f : Freed)
    → StepDone s (Err e) (state.Open x f) (state.Open y f) line
step_refused {s} {x} {y} {e} stepped f = record {
  taken = tt;
  refused = λ h shown. refusal_shows h s x y f e shown
      (λ w there. (
        record {
          first = (stepped.follows w there).0;
          memory_free = stepped.memory_free w there;
          too_large = refused_too_large _ w s (Err e) there.world stepped.too_large;
        },
        stepped.early w there,
        (stepped.follows w there).1,
      ));
}

-- ---- bytes of objects

-- the event that writes the bytes was answered
pub write_taken : (s : Bor (List ℕ) → Step) {x y : SpaceView} {o : Outcome}
    {spelled : Result (List ℕ) FromHexError} (b : Bor (List ℕ)) → spelled ≡ Ok b.now
    → SteppedSpace (Ok o) x y (s b) → sweeper (s b) ≡ None → (f : Freed) (h : Held)
    → ShowsHeld (state.Open x f) h
    → (k : Held) × TakesBytes h spelled s (reply.Outcome o) k × ShowsHeld (state.Open y f) k
write_taken s {o = o} b is stepped none f h shown =
    let t = outcome_shows h f f shown stepped
    (λ w sums there kept. subst (λ z. KeepsSums f.sums (freed_with w z (freed_in o) sums))
    (sym none) kept) in (
      t.0,
      subst (λ z. TakesBytes h z s (reply.Outcome o) t.0) (sym is) (inl (b, refl, t.1)),
      t.2,
    )

-- it was refused
pub write_refused : (s : Bor (List ℕ) → Step) {x y : SpaceView} {e : Refusal}
    {spelled : Result (List ℕ) FromHexError} (b : Bor (List ℕ)) → spelled ≡ Ok b.now
    → SteppedSpace (Err e) x y (s b) → (f : Freed) (h : Held) → ShowsHeld (state.Open x f) h
    → (k : Held) × TakesBytes h spelled s (reply.Refused e) k × ShowsHeld (state.Open y f) k
write_refused s {e = e} b is stepped f h shown =
    let t = (step_refused {line = []} stepped f).refused h shown in (
      t.0,
      subst (λ z. TakesBytes h z s (reply.Refused e) t.0) (sym is) (inl (b, refl, t.1)),
      t.2,
    )

-- in a wide space a line that only wide spaces have means that
pub wide_writes : (s : Bor (List ℕ) → Step) {x y : SpaceView} (r : Reply) (word : List ℕ)
    (f : Freed) → ((w : World) → ShowsSpace x w → is_wide w ≡ true)
    → ((g : Freed) (h : Held) → ShowsHeld (state.Open x g) h
    → (k : Held) × TakesBytes h (hex_bytes word) s r k × ShowsHeld (state.Open y g) k)
    → (h : Held) → ShowsHeld (state.Open x f) h
    → (k : Held) × TakesWrite h word s r k × ShowsHeld (state.Open y f) k
wide_writes s r word f wide inner awaited shown = absurd shown
wide_writes s r word f wide inner denied shown = absurd shown
wide_writes s r word f wide inner (there w all sums) shown =
    let t = inner f (there w all sums) shown in (
      t.0,
      record {
        wide = λ _. t.1;
        plain = λ narrow. absurd (false≢true (sym narrow ∙ wide w shown.0));
      },
      t.2,
    )

-- the same for a step
pub wide_steps : {x y : SpaceView} (s : Step) (r : Reply) (f : Freed)
    → ((w : World) → ShowsSpace x w → is_wide w ≡ true)
    → ((g : Freed) (h : Held) → ShowsHeld (state.Open x g) h
    → (k : Held) × TakesStep h s r k × ShowsHeld (state.Open y g) k)
    → (h : Held) → ShowsHeld (state.Open x f) h
    → (k : Held) × TakesWide h s r k × ShowsHeld (state.Open y f) k
wide_steps s r f wide inner awaited shown = absurd shown
wide_steps s r f wide inner denied shown = absurd shown
wide_steps s r f wide inner (there w all sums) shown =
    let t = inner f (there w all sums) shown in (
      t.0,
      record {
        wide = λ _. t.1;
        plain = λ narrow. absurd (false≢true (sym narrow ∙ wide w shown.0));
      },
      t.2,
    )

-- and for reading
pub wide_reads : {x : SpaceView} (read : World → Result (List ℕ) Refusal) (r : Reply) (f : Freed)
    → ((w : World) → ShowsSpace x w → is_wide w ≡ true)
    → ((w : World) → ShowsSpace x w → IsRead (read w) r)
    → (h : Held) → ShowsHeld (state.Open x f) h
    → (k : Held) × TakesRead h read r k × ShowsHeld (state.Open x f) k
wide_reads read r f wide inner awaited shown = absurd shown
wide_reads read r f wide inner denied shown = absurd shown
wide_reads read r f wide inner (there w all sums) shown = (
  there w all sums,
  record {
    wide = λ _. (inner w shown.0, refl);
    plain = λ narrow. absurd (false≢true (sym narrow ∙ wide w shown.0));
  },
  shown,
)

-- the outcome was printed
pub prints_taken : {s : Step} {old new : State} {line : List ℕ} {before after : Option (List ℕ)}
    {status : ℕ} → StepTaken s old new line → Appends before after line → status ≡ 0 → (number : ℕ)
    → PrintsReply (λ h r later. TakesStep h s r later) number old new before after status
prints_taken {before = before} {after = after} taken text zero number = record {
  reply = reply.Outcome taken.outcome;
  answers = taken.answers;
  prints = subst (Appends before after) taken.text text;
  is = zero;
}

-- the refusal was printed
pub prints_refused : {s : Step} {old new : State} {e : Refusal} {before after : Option (List ℕ)}
    {status : ℕ} → StepRefused s old new e → Appends before after (refused_text e ++ 10 ∷ [])
    → status ≡ 1 → (number : ℕ)
    → PrintsReply (λ h r later. TakesStep h s r later) number old new before after status
prints_refused {e = e} refused text one number = record {
  reply = reply.Refused e;
  answers = refused;
  prints = text;
  is = one;
}
