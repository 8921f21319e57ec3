-- How what travels between processes is spelled: heads of packets, of requests and of answers, and
-- the records behind them. docs/FORMATS.md ("Packets") has the tables. Numbers are big-endian.
use Rattle.std.specs.Prelude.{ℕ, ◌≡◌, ◌==◌, ◌&&◌, nat_le, not, Bool, true, cond, min, ⊤, [], Some}
use Rattle.codec.specs.Formats.{Format, byte, number2, number4, number8, signed8, mapped, kept, joined, ◌&◌}
use Rattle.c_values.specs.declared.fields.CRef.{CRef}
use Rattle.c_values.specs.declared.fields.CAnswer.{CAnswer}
use Rattle.c_values.specs.declared.fields.CEvent.{CEvent}
use Rattle.c_values.specs.declared.fields.CFreed.{CFreed}
use Rattle.c_values.specs.declared.fields.CObject.{CObject}
use Rattle.lineage.specs.declared.senders.Process.{Process}
use Rattle.packets.specs.declared.heads.PacketHead.{PacketHead}
use Rattle.packets.specs.declared.heads.RequestHead.{RequestHead}
use Rattle.packets.specs.declared.heads.AnswerHead.{AnswerHead}
use Rattle.packets.specs.declared.heads.TheConstants.{PACKET, REQUEST, ANSWER}
use Rattle.packets.specs.declared.frames.TheConstants.{LONG}

-- ---- heads

-- a value behind four bytes that say what it is
abbrev pub marked : {A : Type 0} → ℕ → Format A → (A → Bool) → Format A
marked mark F test =
    mapped (kept (number4 & F) (λ x. x.0 == mark && test x.1)) (λ x. x.1) (λ a. (mark, a))

-- a process that runs a node: its nonce, the number of its first save, and that of its last one
unfoldable pub process_format : Format Process
process_format =
    mapped (number8 & number8 & number8)
    (λ x. record { nonce = x.0; run = x.1.0; saves = x.1.1 })
    (λ p. (p.nonce, (p.run, p.saves)))

-- a process has a nonce, and has saved; a flag is 0 or 1
abbrev pub is_packet_head : PacketHead → Bool
is_packet_head h =
    not (h.sender.nonce == 0)
    && (not (h.sender.run == 0) && (nat_le h.sender.run h.sender.saves && nat_le h.needs_cycle 1))

-- the space, the sender's node and the receiver's, and the sender's process
abbrev pub route : Format (ℕ × (ℕ × (ℕ × Process)))
route = number8 & byte & byte & process_format

unfoldable pub packet_fields : Format PacketHead
packet_fields =
    mapped (route & number8 & number8 & number4 & byte & number8)
    (λ x. record {
      space = x.0.0;
      from = x.0.1.0;
      to = x.0.1.1.0;
      sender = x.0.1.1.1;
      known_nonce = x.1.0;
      known_saves = x.1.1.0;
      live = x.1.1.1.0;
      needs_cycle = x.1.1.1.1.0;
      fits = x.1.1.1.1.1;
    })
    (λ h. (
      (h.space, (h.from, (h.to, h.sender))),
      (h.known_nonce, (h.known_saves, (h.live, (h.needs_cycle, h.fits)))),
    ))

unfoldable pub packet_format : Format PacketHead
packet_format = marked PACKET packet_fields is_packet_head

unfoldable pub request_fields : Format RequestHead
request_fields =
    mapped (byte & byte & number8 & number8 & number2)
    (λ x. record {
      kind = x.0;
      program = x.1.0;
      session = x.1.1.0;
      number = x.1.1.1.0;
      count = x.1.1.1.1;
    })
    (λ h. (h.kind, (h.program, (h.session, (h.number, h.count)))))

unfoldable pub request_format : Format RequestHead
request_format = marked REQUEST request_fields (λ _. true)

-- of which request an answer is: kind, program, session and number
abbrev pub asked : Format (ℕ × (ℕ × (ℕ × ℕ)))
asked = byte & byte & number8 & number8

-- nodes, own number, registers, slots
abbrev pub sizes : Format (ℕ × (ℕ × (ℕ × ℕ)))
sizes = byte & byte & number2 & number4

unfoldable pub answer_fields : Format AnswerHead
answer_fields =
    mapped (asked & byte & number8 & number8 & sizes & number2)
    (λ x. record {
      kind = x.0.0;
      program = x.0.1.0;
      session = x.0.1.1.0;
      number = x.0.1.1.1;
      verdict = x.1.0;
      last = x.1.1.0;
      round = x.1.1.1.0;
      nodes = x.1.1.1.1.0.0;
      own = x.1.1.1.1.0.1.0;
      registers = x.1.1.1.1.0.1.1.0;
      slots = x.1.1.1.1.0.1.1.1;
      count = x.1.1.1.1.1;
    })
    (λ h. (
      (h.kind, (h.program, (h.session, h.number))),
      (
        h.verdict,
        (h.last, (h.round, ((h.nodes, (h.own, (h.registers, h.slots))), h.count))),
      ),
    ))

unfoldable pub head_format : Format AnswerHead
head_format = marked ANSWER answer_fields (λ _. true)

-- ---- records

unfoldable pub event_format : Format CEvent
event_format =
    mapped
    (byte & byte & byte & number2 & number2 & number2 & number4 & number4 & number8)
    (λ x. record {
      kind = x.0;
      node = x.1.0;
      place = x.1.1.0;
      register = x.1.1.1.0;
      source = x.1.1.1.1.0;
      object = x.1.1.1.1.1.0;
      label = x.1.1.1.1.1.1.0;
      count = x.1.1.1.1.1.1.1.0;
      word = x.1.1.1.1.1.1.1.1;
    })
    (λ e. (
      e.kind,
      (
        e.node,
        (
          e.place,
          (e.register, (e.source, (e.object, (e.label, (e.count, e.word))))),
        ),
      ),
    ))

unfoldable pub reference_format : Format CRef
reference_format =
    mapped (byte & number4 & number8)
    (λ x. record { node = x.0; slot = x.1.0; generation = x.1.1 })
    (λ r. (r.node, (r.slot, r.generation)))

unfoldable pub answer_format : Format CAnswer
answer_format =
    mapped (byte & byte & byte & byte & number4 & number4 & number8 & signed8 & reference_format)
    (λ x. record {
      kind = x.0;
      node = x.1.0;
      colour = x.1.1.0;
      done = x.1.1.1.0;
      label = x.1.1.1.1.0;
      count = x.1.1.1.1.1.0;
      number = x.1.1.1.1.1.1.0;
      sum = x.1.1.1.1.1.1.1.0;
      reference = x.1.1.1.1.1.1.1.1;
    })
    (λ a. (
      a.kind,
      (
        a.node,
        (
          a.colour,
          (a.done, (a.label, (a.count, (a.number, (a.sum, a.reference))))),
        ),
      ),
    ))

-- the status of an event, and its answer
unfoldable pub result_format : Format (ℕ × CAnswer)
result_format = number2 & answer_format

-- an object that was freed, and its word
unfoldable pub freed_format : Format CFreed
freed_format =
    mapped (reference_format & number8) (λ x. record { reference = x.0; word = x.1 })
    (λ f. (f.reference, f.word))

unfoldable pub object_format : Format CObject
object_format =
    mapped (reference_format & number8 & number4 & byte & byte & byte & byte)
    (λ x. record {
      reference = x.0;
      word = x.1.0;
      bytes = x.1.1.0;
      places = x.1.1.1.0;
      marked = x.1.1.1.1.0;
      shared = x.1.1.1.1.1.0;
      age = x.1.1.1.1.1.1;
    })
    (λ o.
    (o.reference, (o.word, (o.bytes, (o.places, (o.marked, (o.shared, o.age)))))))

-- ---- frames in packets

-- the number itself, which takes no byte
abbrev pub given : ℕ → Format ℕ
given n = record {
  spell = λ _. [];
  IsWide = λ _. ⊤;
  IsWithin = λ m. m ≡ n;
  read = λ bytes. Some (n, bytes);
}

-- a number that two bytes say, or else the one that follows, which is no less
abbrev pub behind_short : ℕ → Format ℕ
behind_short n = cond (n == LONG) (kept number4 (nat_le LONG)) (given n)

-- the length of a frame, in two bytes; or if it is longer than these can say, in four behind LONG
unfoldable pub length_format : Format ℕ
length_format = mapped (joined number2 behind_short) (λ x. x.1) (λ n. (min n LONG, n))
