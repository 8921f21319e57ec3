-- What C sees of answers, events and numbers of nodes.
use Rattle.std.specs.Prelude.{ℕ, pos, Bool, true, false, cond, ◌==◌, Option, Some, None}
use Rattle.ids.specs.Limits.{Shaped, IsShape, wide_shape}
use Rattle.ids.specs.declared.limits.TheConstants.{PLAIN_PLACES}
use Rattle.ids.specs.declared.names.Ref.{Ref}
use Rattle.msg.specs.declared.body.Colour.{Colour}
use Rattle.msg.specs.declared.body.Colour.TheVariants.{White, Black}
use Rattle.msg.specs.declared.body.Token.{Token}
use Rattle.model.specs.declared.age.Age.{Age}
use Rattle.model.specs.declared.age.Age.TheVariants.{Old, Young, Remembered}
use Rattle.model.specs.declared.age.Scope.TheVariants as scope
use Rattle.model.specs.declared.event.Answer.{Answer}
use Rattle.model.specs.declared.event.Answer.TheVariants as answer
use Rattle.model.specs.declared.event.Event.{Event}
use Rattle.model.specs.declared.event.Event.TheVariants as event
use Rattle.model.specs.declared.event.Accepted.{Accepted}
use Rattle.model.specs.declared.summary.Summary.{Summary}
use Rattle.c_values.specs.declared.fields.CRef.{CRef}
use Rattle.c_values.specs.declared.fields.CAnswer.{CAnswer}
use Rattle.c_values.specs.declared.fields.CEvent.{CEvent}
use Rattle.c_values.specs.declared.fields.CShape.{CShape}
use Rattle.c_values.specs.declared.fields.CState.{CState}
use Rattle.c_values.specs.declared.fields.CWork.{CWork}

abbrev pub bit : Bool → ℕ
bit false = 0
bit true = 1

abbrev pub colour_number : Colour → ℕ
colour_number White = 0
colour_number Black = 1

abbrev pub age_number : Age → ℕ
age_number Old = 0
age_number Young = 1
age_number Remembered = 2

-- ---- References

abbrev pub no_reference : CRef
no_reference = record { node = 0; slot = 0; generation = 0 }

abbrev pub reference_fields : Ref → CRef
reference_fields r = record { node = r.node; slot = r.slot; generation = r.generation }

abbrev pub reference_of : CRef → Ref
reference_of c = record { node = c.node; slot = c.slot; generation = c.generation }

abbrev pub optional_fields : Option Ref → CRef
optional_fields None = no_reference
optional_fields (Some r) = reference_fields r

-- ---- Answers

abbrev pub no_answer : CAnswer
no_answer = record {
  kind = 0;
  node = 0;
  colour = 0;
  done = 0;
  label = 0;
  count = 0;
  number = 0;
  sum = pos 0;
  reference = no_reference;
}

abbrev pub numbered : ℕ → ℕ → CAnswer
numbered kind number = record no_answer { kind = kind; number = number }

abbrev pub referring : ℕ → CRef → CAnswer
referring kind reference = record no_answer { kind = kind; reference = reference }

abbrev pub letter_fields : Accepted → CAnswer
letter_fields x = record no_answer {
  kind = 5;
  node = x.from;
  label = x.label;
  count = x.count;
  number = x.length;
  reference = optional_fields x.reference;
}

abbrev pub token_fields : Token → CAnswer
token_fields t = record no_answer { kind = 8; colour = colour_number t.colour; sum = t.q }

abbrev pub freed_fields : ℕ → Bool → CAnswer
freed_fields count done = record no_answer { kind = 11; count = count; done = bit done }

abbrev pub answer_fields : Answer → CAnswer
answer_fields answer.Done = no_answer
answer_fields (answer.New r) = referring 1 (reference_fields r)
answer_fields (answer.Value r) = referring 2 (optional_fields r)
answer_fields (answer.Word word) = numbered 3 word
answer_fields (answer.Sent number) = numbered 4 number
answer_fields (answer.Letter x) = letter_fields x
answer_fields (answer.Begun cycle) = numbered 6 cycle
answer_fields (answer.Scanned r) = referring 7 (reference_fields r)
answer_fields (answer.Passed t) = token_fields t
answer_fields answer.ProbeAgain = record no_answer { kind = 9 }
answer_fields (answer.Ended cycle) = numbered 10 cycle
answer_fields (answer.Freed count done) = freed_fields count done
answer_fields (answer.Reclaimed count) = record no_answer { kind = 15; count = count }
answer_fields answer.Received = record no_answer { kind = 12 }
answer_fields answer.Repeat = record no_answer { kind = 13 }
answer_fields answer.Early = record no_answer { kind = 14 }

-- ---- Work

-- nothing was done
abbrev pub no_work : CWork
no_work = record {
  received = 0;
  scanned = 0;
  freed = 0;
  passed = 0;
  swept = 0;
  more = 0;
}

-- ---- Events

-- the reference that an event names
abbrev pub described_reference : CEvent → Ref
described_reference c = record { node = c.node; slot = c.count; generation = c.word }

-- the event of this kind
abbrev pub event_of : CEvent → Option Event
event_of c =
    cond (c.kind == 1) (Some (event.Alloc c.register c.place))
    (cond (c.kind == 2) (Some (event.Copy c.register c.source))
    (cond (c.kind == 3) (Some (event.Drop c.register))
    (cond (c.kind == 4) (Some (event.Load c.register c.object c.place))
    (cond (c.kind == 5) (Some (event.Store c.object c.place c.register))
    (cond (c.kind == 6) (Some (event.Clear c.object c.place))
    (cond (c.kind == 7) (Some (event.Word c.object))
    (cond (c.kind == 8) (Some (event.SetWord c.object c.word))
    (cond (c.kind == 9) (Some (event.Give c.node c.label c.register))
    (cond (c.kind == 10) (Some (event.Accept c.register))
    (cond (c.kind == 11) (Some (event.Put c.object c.place c.register))
    (cond (c.kind == 12) (Some (event.Get c.object c.place c.label))
    (cond (c.kind == 13) (Some event.Begin)
    (cond (c.kind == 14) (Some event.Scan)
    (cond (c.kind == 15) (Some event.Pass)
    (cond (c.kind == 16) (Some (event.Sweep c.count))
    (cond (c.kind == 17) (Some (event.Next c.node))
    (cond (c.kind == 20) (Some (event.Reclaim scope.All))
    (cond (c.kind == 21) (Some (event.Reclaim scope.Young))
    (cond (c.kind == 24) (Some (event.Resolve c.register (described_reference c)))
    None)))))))))))))))))))

-- ---- Sizes of spaces

abbrev pub plain_fields : ℕ → ℕ → ℕ → CShape
plain_fields nodes registers slots = record {
  slots = slots;
  bytes = 0;
  registers = registers;
  nodes = nodes;
  places = PLAIN_PLACES;
  wide = 0;
}

-- the sizes of this kind, within their limits or not; `wide` is 0 or 1
abbrev pub described : CShape → Option Shaped
described c = cond (c.wide == 0) (Some (record {
  nodes = c.nodes;
  registers = c.registers;
  slots = c.slots;
  places = c.places;
  bytes = c.bytes;
  wide = false;
})) (cond (c.wide == 1) (Some (wide_shape c.nodes c.registers c.slots c.places c.bytes)) None)

-- sizes are described, and within the limits of their kind
abbrev pub IsDescribed : Option Shaped → Type 0
IsDescribed (Some sizes) = IsShape sizes
IsDescribed None = ⊥

-- ---- Numbers of nodes

abbrev pub state_fields : Summary → CState
state_fields s = record {
  nodes = s.shape.nodes;
  own = s.own;
  colour = colour_number s.colour;
  has_token = bit s.has_token;
  registers = s.shape.registers;
  places = s.shape.places;
  wide = bit s.shape.wide;
  slots = s.shape.slots;
  live = s.live;
  cycle = s.cycle;
  ended = s.ended;
  swept = s.swept;
  earlier = s.earlier;
  recent = s.recent;
  grey = s.grey;
  letters = s.letters;
  bytes = s.shape.bytes;
}
