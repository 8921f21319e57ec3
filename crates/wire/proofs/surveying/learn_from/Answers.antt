use Rattle.std.proofs.Common.{ℕ, ◌<◌, List, get_or, length-set, refl, set, sym, subst}
use Rattle.std.proofs.lemmas.Option.{slice_get-get_or}
use Rattle.model.specs.declared.step.Step.{Step}
use Rattle.wire.specs.Plays.{Learns}
use Rattle.wire.specs.Readers.{known}
use Rattle.wire.proofs.Rounds.{Turn, noted-seats, turned}
use Rattle.wire.proofs.surveying.learn_from.Goals as goal

pub note-note-requires : goal.note-note-requires
note-note-requires g c =
    let xs = c.args.learners.now in
    record {
      wire = c.requires.wire c.args.from (get_or xs c.args.from c.index-learners-from.result)
          (slice_get-get_or xs c.args.from c.index-learners-from.result c.requires.from);
    }

pub learn-requires-clause-wire : goal.learn-requires-clause-wire
learn-requires-clause-wire g c =
    let xs = c.args.learners.now in
    let ys = set xs c.args.from c.note-note.new.self in
    noted-seats g.T.Learner.seating c.args.wire.now xs c.args.from c.requires.wire
    (slice_get-get_or xs c.args.from c.index-learners-from.result c.requires.from)
    c.note-note.ensures.learned c.args.to (get_or ys c.args.to c.index-learners-to.result)
    (slice_get-get_or ys c.args.to c.index-learners-to.result
    (subst (λ (n : ℕ). c.args.to < n) (sym (length-set xs c.args.from c.note-note.new.self))
    c.requires.to))

pub returns : goal.returns
returns g c =
    let xs = c.args.learners.now in
    let b = get_or xs c.args.from c.index-learners-from.result in
    let ys = set xs c.args.from c.note-note.new.self in
    let x = get_or ys c.args.to c.index-learners-to.result in
    let turn : Turn g.T.Learner.seating xs c.args.to c.args.from b c.note-note.new.self x
    c.learn.new.self = record {
      there = slice_get-get_or xs c.args.from c.index-learners-from.result c.requires.from;
      noted = c.note-note.ensures.learned;
      same = c.note-note.ensures.known;
      learner = slice_get-get_or ys c.args.to c.index-learners-to.result
          (subst (λ (n : ℕ). c.args.to < n)
          (sym (length-set xs c.args.from c.note-note.new.self)) c.requires.to);
      learned = c.learn.ensures.learned;
      leads = subst (λ (l : List Step). Learns l (known (g.T.Learner.seating.seat x))
          (known (g.T.Learner.seating.seat c.learn.new.self)))
          c.note-note.ensures.seen c.learn.ensures.leads;
    } in
    turned g.T.Learner.seating turn refl
