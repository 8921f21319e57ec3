use Rattle.std.proofs.Common.{◌≡◌, ◌<◌, ◌-◌, ◌+◌, ◌∙◌, ◌++◌, ℕ, List, Some, Vec, length, ap, arith, sym}
use Rattle.std.specs.Prelude.{min}
use Rattle.std.specs.Option.{option_map}
use Rattle.std.specs.declared.alloc.Global.{Global}
use Rattle.codec.specs.Formats.{Fits}
use Rattle.event_bytes.specs.Entries.{entry}
use Rattle.event_bytes.specs.Events.{entry_of}
use Rattle.node_log.proofs.Noting.{Parts, added, beyond, some_one, when_ok, within}
use Rattle.node_log.proofs.log.Log.note.Goals as goal
use Rattle.node_log.proofs.log.Log.note.Goals.{Else-is_err, Joined-self-2}

-- what is appended, if the event fits into what is left
appended : (c : Else-is_err)
    → Fits entry (entry_of c.args.event.now)
    × (c.extend.new.bytes.items ≡ c.in-Some-bytes.bytes.items
    ++ entry.spell (entry_of c.args.event.now))
appended c =
    let parts : Parts c.as_slice-start.result.now c.tail-tail.result.now c.args.event.now = record {
      old = c.new-piece.result;
      empty = c.new-piece.ensures;
      adds = rw c.as_slice-start.ensures c.add_event.ensures.start;
      behind = c.tail-tail.ensures;
    } in
    let fits = within parts (1048576 - c.min.result) c.if-start-tail.false (omega arith) in
    let all = when_ok c.extend.result (sym c.is_err.ensures.value ∙ c.if-is_err.false)
    c.extend.ensures.extended in
    (fits.0, all ∙ ap (λ (t : List ℕ). c.in-Some-bytes.bytes.items ++ t) fits.1)

pub returns-clause-noted : goal.returns-clause-noted
returns-clause-noted c =
    let more = appended c in
    added c.args.self.now c.args.event.now c.in-Some-bytes.bytes.items c.extend.new.bytes.items
    more.0
    (sym c.self.view_is
    ∙ ap (option_map (λ (v : Vec ℕ Global). v.items)) c.in-Some-bytes.is) more.1

pub returns-then-start-tail-clause-added : goal.returns-then-start-tail-clause-added
returns-then-start-tail-clause-added c = λ before was fits.
    let parts : Parts c.as_slice-start.result.now c.tail-tail.result.now c.args.event.now = record {
      old = c.new-piece.result;
      empty = c.new-piece.ensures;
      adds = rw c.as_slice-start.ensures c.add_event.ensures.start;
      behind = c.tail-tail.ensures;
    } in
    let same : c.in-Some-bytes.bytes.items ≡ before =
    some_one (sym (ap (option_map (λ (v : Vec ℕ Global). v.items)) c.in-Some-bytes.is)
    ∙ c.self.view_is ∙ was) in
    let full : 1048576 - min (length before) 1048576
    < length c.as_slice-start.result.now + length c.tail-tail.result.now =
    omega (
      arith,
      c.if-start-tail.true,
      c.min.ensures,
      c.len.ensures,
      c.in-Some-bytes.bytes.ok.0,
      ap length same,
    ) in
    absurd (beyond parts (length before) 1048576 (omega arith) full fits)

pub returns-clause-added : goal.returns-clause-added
returns-clause-added c = λ before was fits.
    let same : c.in-Some-bytes.bytes.items ≡ before =
    some_one (sym (ap (option_map (λ (v : Vec ℕ Global). v.items)) c.in-Some-bytes.is)
    ∙ c.self.view_is ∙ was) in
    ap Some ((appended c).1
    ∙ ap (λ (t : List ℕ). t ++ entry.spell (entry_of c.args.event.now)) same)
