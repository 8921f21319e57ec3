use Rattle.std.proofs.Common.{◌≡◌, ◌<◌, ℕ, sym, ap, ◌∙◌, subst}
use Rattle.frames.specs.Grammar.{spelling}
use Rattle.msg.specs.Frames.{Plain, plain}
use Rattle.wire.specs.Plays.{Arrives}
use Rattle.wire.specs.Readers.{inbox, known}
use Rattle.wire.specs.Rule.{receiver, sender}
use Rattle.wire.specs.Sending.{emptied}
use Rattle.wire.specs.Views.{clears}
use Rattle.wire.proofs.Mailed.{found-taken}
use Rattle.wire.proofs.Same.{same-again, still-of}
use Rattle.wire.proofs.seats.Wire.receive.Goals as goal

pub clear-bytes-requires-clause-wire : goal.clear-bytes-requires-clause-wire
clear-bytes-requires-clause-wire c =
    still-of c.args.self.now c.args.seat.now c.take.new.seat c.requires.wire c.take.ensures.same

pub clear-bytes-requires-clause-taken : goal.clear-bytes-requires-clause-taken
clear-bytes-requires-clause-taken c =
    let told = c.in-Some.ensures.taken in
    let same = c.take.ensures.same in (
      (told.1.0 ∙ sym same.0, told.1.1 ∙ sym same.1),
      subst (λ (k : ℕ). k < c.args.self.now.nodes) (sym told.0) c.requires.from.0,
      (
        told.2.0,
        (found-taken c.args.seat.now c.take.new.seat told.2.5.0 told.2.0 same told.0
            told.2.5.1).1,
      ),
    )

pub returns-clause-same : goal.returns-clause-same
returns-clause-same c =
    same-again c.args.seat.now c.take.new.seat c.clear-bytes.new.seat c.take.ensures.same
    c.clear-bytes.ensures.same

-- what a frame that was taken says of the seat, and how its bytes are spelled
pub returns-in-Ok-clause-taken : goal.returns-in-Ok-clause-taken
returns-in-Ok-clause-taken c =
    let s = c.args.seat.now in
    let told = c.in-Some.ensures.taken in
    let f : Plain = told.2.0 in
    let at = found-taken s c.take.new.seat told.2.5.0 f c.take.ensures.same told.0 told.2.5.1 in
    let bytes : c.deref.result.now ≡ spelling f =
    c.deref.ensures.value ∙ c.clear-bytes.ensures.bytes f at.1 in
    let cleared = c.clear-bytes.ensures.cleared in
    let same : plain c.in-Ok.frame ≡ f = c.in-Ok.ensures.only f told.2.1 bytes in (
      ap sender same ∙ told.2.2,
      ap receiver same ∙ told.2.3 ∙ s.sits.me_is,
      subst (Arrives (known s)) (sym same) told.2.4,
      (
        told.2.5.0,
        cleared.0,
        cleared.1
            ∙ (λ i. clears (at.0 i) cleared.0 (told.2.5.1 i))
            ∙ ap (λ (g : Plain).
            emptied (inbox s c.args.from) told.2.5.0 cleared.0 g (known s)) (sym same),
      ),
    )

pub returns-clause-lost : goal.returns-clause-lost
returns-clause-lost c =
    let s = c.args.seat.now in
    let told = c.in-Some.ensures.taken in
    let f : Plain = told.2.0 in
    let at = found-taken s c.take.new.seat told.2.5.0 f c.take.ensures.same told.0 told.2.5.1 in
    let bytes : c.deref.result.now ≡ spelling f =
    c.deref.ensures.value ∙ c.clear-bytes.ensures.bytes f at.1 in
    let cleared = c.clear-bytes.ensures.cleared in
    let refused = c.in-Err.ensures.only f told.2.1 bytes in (
      refused.0,
      (
        f,
        refused.1,
        (
          told.2.2,
          told.2.3 ∙ s.sits.me_is,
          told.2.4,
          (
            told.2.5.0,
            cleared.0,
            cleared.1 ∙ (λ i. clears (at.0 i) cleared.0 (told.2.5.1 i)),
          ),
        ),
      ),
    )
