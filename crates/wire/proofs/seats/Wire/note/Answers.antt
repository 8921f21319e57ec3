use Rattle.std.proofs.Common.{ℕ, ◌*◌, ◌+◌, ◌<◌, sym, subst, arith}
use Rattle.wire.specs.Plays.{IsSupplied}
use Rattle.wire.proofs.DealSteps.{note_splits}
use Rattle.wire.proofs.Numbers.{a-node}
use Rattle.wire.proofs.seats.Wire.note.Goals as goal

pub split_seat-seat-requires : goal.split_seat-seat-requires
split_seat-seat-requires c =
    let w = c.args.self.now in
    let s = c.args.seat.now in (
      c.requires.wire.0,
      subst (λ (k : ℕ). 0 < k) (sym w.words)
          (let less : 0 < w.nodes * w.nodes + 2 = omega arith in less),
      note_splits s.seat.id s.seat.me.0 (a-node _ s.sits.role),
    )

pub invariant_of-seat-clause-supplied : goal.invariant_of-seat-clause-supplied
invariant_of-seat-clause-supplied c =
    subst (λ m. IsSupplied m.0) (sym c.split_seat-seat.ensures.2) c.args.seat.now.supplied
