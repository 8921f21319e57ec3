use Rattle.std.proofs.Common.{ℕ, ◌*◌, ◌+◌, ◌<◌, sym, ◌∙◌, subst, arith}
use Rattle.wire.specs.Plays.{IsSupplied}
use Rattle.wire.specs.Readers.{known, note_seen}
use Rattle.wire.proofs.Noted.{learned-from, learns_allowed}
use Rattle.wire.proofs.Numbers.{a-node}
use Rattle.wire.proofs.Supplying.{still-supplied}
use Rattle.wire.proofs.seats.Wire.learn.Goals as goal

pub load-requires : goal.load-requires
load-requires c =
    let w = c.args.self.now in
    let s = c.heed.new.seat in (
      c.heed.ensures.same.0 ∙ c.requires.wire.0,
      subst (λ (k : ℕ). w.nodes * w.nodes < k) (sym w.words)
          (let less : w.nodes * w.nodes < w.nodes * w.nodes + 2 = omega arith in less),
      learns_allowed s.seat.id (w.nodes * w.nodes) s.seat.me
          (a-node _ s.sits.role),
    )

pub returns-clause-learned : goal.returns-clause-learned
returns-clause-learned c =
    learned-from (note_seen c.args.note) (known c.args.seat.now) (known c.heed.new.seat) _
    c.heed.ensures.known c.load.ensures.2.0

pub invariant_of-seat-clause-supplied : goal.invariant_of-seat-clause-supplied
invariant_of-seat-clause-supplied c =
    subst IsSupplied (sym c.load.ensures.2.0.known) (still-supplied c.heed.new.seat.supplied)
