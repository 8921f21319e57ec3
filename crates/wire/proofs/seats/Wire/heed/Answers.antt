use Rattle.std.proofs.Common.{ℕ, ◌*◌, ◌+◌, ◌<◌, sym, subst, arith}
use Rattle.wire.specs.Plays.{IsSupplied}
use Rattle.wire.proofs.Noted.{note_joins}
use Rattle.wire.proofs.Numbers.{a-node}
use Rattle.wire.proofs.Supplying.{still-supplied}
use Rattle.wire.proofs.seats.Wire.heed.Goals as goal

pub join_seat-requires : goal.join_seat-requires
join_seat-requires g c =
    let w = c.args.self.now in
    let s = c.args.seat.now in (
      c.requires.wire.0,
      c.requires.note,
      c.args.note.empty,
      subst (λ (k : ℕ). 0 < k) (sym w.words)
          (let less : 0 < w.nodes * w.nodes + 2 = omega arith in less),
      note_joins s.seat.id c.args.note.seat.id s.seat.me.0
          c.args.note.seat.me.0 g.N.Noting.view (a-node _ s.sits.role) c.requires.view,
    )

pub invariant_of-seat-clause-supplied : goal.invariant_of-seat-clause-supplied
invariant_of-seat-clause-supplied g c =
    subst (λ m. IsSupplied m.0) (sym c.join_seat.ensures.2)
    (still-supplied c.args.seat.now.supplied)
