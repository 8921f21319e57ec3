use Rattle.std.proofs.Common.{◌≡◌, ◌∙◌, [], ap, false, length, refl, subst, sym, true}
use Rattle.std.proofs.lemmas.Result.{err_from_is_err_and}
use Rattle.std.proofs.lemmas.Bool.{false≢true}
use Rattle.image_parts.specs.Logs.{begins_logged}
use Rattle.node_store.specs.Laws.{one_whole}
use Rattle.c_handles.specs.Batches.{LogLeads}
use Rattle.c_handles.proofs.Batches.{nil_of}
use Rattle.c_handles.proofs.lone.reopening.stored.Goals as goal

pub returns-then-batches-eq0-clause-stored : goal.returns-then-batches-eq0-clause-stored
returns-then-batches-eq0-clause-stored c =
    let none : c.args.batches.now ≡ [] = nil_of c.args.batches.now c.if-batches-eq0.true in
    record {
      first = c.in_ok-node.node;
      read = c.in_ok-node.ensures.value;
      plain = λ plain. none;
      led = ([], none, refl);
    }

pub returns-then-not-has_log-clause-refused : goal.returns-then-not-has_log-clause-refused
returns-then-not-has_log-clause-refused c = λ other.
    let plain : begins_logged c.args.image.now ≡ false =
    sym c.has_log.ensures ∙ c.if-not-has_log.true in (
      refl,
      λ n stored. c.if-batches-eq0.false (ap length (stored.plain plain)),
    )

pub returns-in_err-redo_all-clause-refused : goal.returns-in_err-redo_all-clause-refused
returns-in_err-redo_all-clause-refused c =
    let exit = c.from_residual-in_err-redo_all in
    let p = err_from_is_err_and exit.result exit.ensures.1 in
    rw (p.1, p.2) (λ other.
    let h = c.in_err-redo_all.ensures.refused other in (
      h.0,
      λ n stored.
          h.1 n (subst (λ w. LogLeads c.args.batches.now w n)
          (one_whole c.args.image.now stored.first c.in_ok-node.node stored.read
          c.in_ok-node.ensures.value) stored.led),
    ))

pub returns-clause-stored : goal.returns-clause-stored
returns-clause-stored c =
    let logged : begins_logged c.args.image.now ≡ true =
    sym c.has_log.ensures ∙ c.if-not-has_log.false in
    record {
      first = c.in_ok-node.node;
      read = c.in_ok-node.ensures.value;
      plain = λ plain. absurd (false≢true (sym plain ∙ logged));
      led = c.in_ok-redo_all.ensures.led;
    }
