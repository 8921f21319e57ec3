use Rattle.std.proofs.Common.{◌≡◌, ◌∙◌, ◌+◌, ◌-◌, ℕ, Some, ap, arith, drop, sym, take}
use Rattle.disk_shelf.specs.Shelf.{told}
use Rattle.disk_shelf.proofs.Records.{recorded_cut, recorded_is, recorded_long, recorded_short, told_read}
use Rattle.c_handles.proofs.lone.reopening.first_batch.Goals as goal

pub returns-then-bytes-lt-HEAD-clause-found : goal.returns-then-bytes-lt-HEAD-clause-found
returns-then-bytes-lt-HEAD-clause-found c =
    sym (recorded_short c.args.bytes.now c.if-bytes-lt-HEAD.true)

pub returns-then-len-gt-GREATEST_SAVED-clause-found :
    goal.returns-then-len-gt-GREATEST_SAVED-clause-found
returns-then-len-gt-GREATEST_SAVED-clause-found c =
    let says : told c.args.bytes.now ≡ c.from_be_bytes-len.result =
    told_read c.args.bytes.now c.copy_from_slice.new.self c.copy_from_slice.ensures.after
    ∙ sym c.from_be_bytes-len.ensures in
    sym (recorded_long c.args.bytes.now (omega (arith, says, c.if-len-gt-GREATEST_SAVED.true)))

pub returns-then-left-len-clause-found : goal.returns-then-left-len-clause-found
returns-then-left-len-clause-found c =
    let says : told c.args.bytes.now ≡ c.from_be_bytes-len.result =
    told_read c.args.bytes.now c.copy_from_slice.new.self c.copy_from_slice.ensures.after
    ∙ sym c.from_be_bytes-len.ensures in
    sym (recorded_cut c.args.bytes.now
    (omega (arith, says, c.if-left-len.true, c.if-bytes-lt-HEAD.false)))

pub returns-clause-found : goal.returns-clause-found
returns-clause-found c =
    let len = c.from_be_bytes-len.result in
    let says : told c.args.bytes.now ≡ len =
    told_read c.args.bytes.now c.copy_from_slice.new.self c.copy_from_slice.ensures.after
    ∙ sym c.from_be_bytes-len.ensures in
    let count : 8 + len - 8 ≡ len = omega arith in
    ap (λ (k : ℕ). Some (take k (drop 8 c.args.bytes.now))) count
    ∙ sym (recorded_is c.args.bytes.now len says c.if-len-gt-GREATEST_SAVED.false
    (omega (arith, c.if-left-len.false, c.if-bytes-lt-HEAD.false)))
