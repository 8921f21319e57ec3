use Rattle.std.proofs.Common.{◌≡◌, ◌∙◌, Option, None, ap, arith, false, refl, subst, sym}
use Rattle.std.proofs.lemmas.Result.{err_from_is_err_and}
use Rattle.std.specs.Option.{option_map}
use Rattle.codec.specs.Formats.{◌>>=◌}
use Rattle.codec.specs.Readers.{is_open, left, with_rest}
use Rattle.model.specs.declared.event.Event.{Event}
use Rattle.node.specs.Keeping.{WholeNode}
use Rattle.event_bytes.specs.Entries.{entry}
use Rattle.event_bytes.specs.Events.{entry_of}
use Rattle.node_store.proofs.Ends.{IsLeft, Took, closed_none, kept_alone, left_all, left_bad, left_end}
use Rattle.node_store.proofs.Ends.{left_less, left_next, left_unread, took_event}
use Rattle.node_store.proofs.redoing.redo.Goals as goal
use Rattle.node_store.proofs.redoing.redo.Goals.{Else-not-is_open}

-- an event was read of what was left
read : (c : Else-not-is_open)
    → Took c.args.batch.now c.args.node.now.core c.loop-reader.node.core c.in-Some.event
    (left c.loop-reader.reader) (left c.read_event.new.reader)
read c =
    let after = left c.read_event.new.reader in
    took_event after c.loop-reader.invariant.1
    (c.in_ok-read.ensures.value.is
    ∙ ap (λ (o : Option Event). option_map entry_of o >>= λ x. with_rest x after) c.in-Some.is)
    (sym c.is_open.ensures ∙ c.if-not-is_open.false)

pub loop-reader-init : goal.loop-reader-init
loop-reader-init c = (
  c.requires,
  subst (λ o. IsLeft c.args.batch.now c.args.node.now.core o c.args.node.now.core)
      (sym c.new-reader.ensures)
      (left_all c.args.batch.now c.args.node.now.core (λ i. omega (arith, c.type_inv.batch i))),
)

pub returns-in_default-clause-refused : goal.returns-in_default-clause-refused
returns-in_default-clause-refused c = λ other.
    let now = c.loop-reader in
    let after = left c.read_event.new.reader in
    let none : (left now.reader >>= entry.read) ≡ None =
    c.in_ok-read.ensures.value.is
    ∙ ap (λ (o : Option Event). option_map entry_of o >>= λ x. with_rest x after)
    c.in_default.is in (
      refl,
      λ last led. left_unread now.invariant.1 (sym c.finish.ensures ∙ c.loop-reader-test.true) none
          led.0.before led.0.logged,
    )

pub returns-then-not-is_open-clause-refused : goal.returns-then-not-is_open-clause-refused
returns-then-not-is_open-clause-refused c = λ other.
    let now = c.loop-reader in
    let after = left c.read_event.new.reader in
    let closed : is_open c.read_event.new.reader ≡ false =
    sym c.is_open.ensures ∙ c.if-not-is_open.true in
    let none : (left now.reader >>= entry.read) ≡ None =
    c.in_ok-read.ensures.value.is
    ∙ ap (λ (o : Option Event). option_map entry_of o >>= λ x. with_rest x after) c.in-Some.is
    ∙ closed_none (entry_of c.in-Some.event) after closed in (
      refl,
      λ last led. left_unread now.invariant.1 (sym c.finish.ensures ∙ c.loop-reader-test.true) none
          led.0.before led.0.logged,
    )

pub perform-done-requires : goal.perform-done-requires
perform-done-requires c = c.loop-reader.invariant.0

pub loop-reader-smaller : goal.loop-reader-smaller
loop-reader-smaller c = left_less (read (goal.at.loop-reader-smaller c).Else-not-is_open)

pub loop-reader-preserved : goal.loop-reader-preserved
loop-reader-preserved c = (
  c.in_ok-done.ensures.alone,
  left_next (read (goal.at.loop-reader-preserved c).Else-not-is_open) c.in_ok-done.ensures.done,
)

pub returns-in_err-done-clause-refused : goal.returns-in_err-done-clause-refused
returns-in_err-done-clause-refused c =
    let at = (goal.at.returns-in_err-done-clause-refused c).Else-not-is_open in
    let p = err_from_is_err_and c.from_residual-in_err-done.result
    c.from_residual-in_err-done.ensures.1 in
    rw (p.1, p.2) (λ other.
    let h = c.in_err-done.ensures.refused other in
    (h.0, λ last led. left_bad (read at) h.1 led.0.before led.0.logged))

pub returns-clause-led : goal.returns-clause-led
returns-clause-led c =
    let now = c.loop-reader in (
      record {
        before = now.node.core;
        logged = left_end now.invariant.1 (sym c.finish.ensures ∙ c.loop-reader-test.false);
        kept = ap (λ (n : WholeNode). n.core) c.mark_saved.ensures;
      },
      kept_alone now.node c.mark_saved.new.self now.invariant.0 c.mark_saved.ensures,
    )
