-- What events say is within the limits of their spellings.
use Rattle.std.proofs.Common.{◌≡◌, ℕ, true, Result, Ok, Err, refl}
use Rattle.std.specs.Prelude.{IfOk, OnOk}
use Rattle.std.specs.Global.{Vec}
use Rattle.ids.specs.declared.refusal.Refusal.{Refusal}
use Rattle.msg.specs.declared.frame.Data.{Data}
use Rattle.codec.specs.Formats.{Fits}
use Rattle.codec.specs.Formats.{number2, number4, number8, bytes4}
use Rattle.frames.specs.declared.version.Version.TheVariants.{Second}
use Rattle.frames.specs.Formats.{reference, sent, known, head}
use Rattle.frames.proofs.Written.{any_body, in_wide}
use Rattle.model.specs.declared.age.Scope.TheVariants as scope
use Rattle.model.specs.declared.event.Event.{Event}
use Rattle.model.specs.declared.event.Event.TheVariants as event
use Rattle.event_bytes.specs.Entries.{entry}
use Rattle.event_bytes.specs.Events.{entry_of, received_of}

-- what an event says is within the limits
pub entry_within : (e : Event) → entry.IsWithin (entry_of e)
unfolding entry reference sent known head number2 number4 number8 bytes4
entry_within (event.Data d) =
    (((tt, (tt, tt)), (tt, any_body true Second d.body (in_wide d.body))), d.fits)
entry_within (event.Ack a) = ((tt, (tt, tt)), a.fits)
entry_within (event.Alloc register places) = (tt, tt)
entry_within (event.Copy register source) = (tt, tt)
entry_within (event.Load register object place) = (tt, (tt, tt))
entry_within (event.Store object place register) = (tt, (tt, tt))
entry_within (event.Clear object place) = (tt, tt)
entry_within (event.SetWord object value) = (tt, tt)
entry_within (event.SetBytes object bytes) = (tt, (tt, refl))
entry_within (event.Patch object offset bytes) = (tt, (tt, (tt, refl)))
entry_within (event.Give to label register) = (tt, (tt, tt))
entry_within (event.Put object place register) = (tt, (tt, tt))
entry_within (event.Get object place label) = (tt, (tt, tt))
entry_within (event.Post to label first count bytes) = (tt, (tt, (tt, (tt, (tt, refl)))))
entry_within (event.Fetch object label offset count) = (tt, (tt, (tt, tt)))
entry_within (event.Resolve register reference) = (tt, (tt, (tt, tt)))
entry_within (event.Reclaim scope.All) = tt
entry_within (event.Reclaim scope.Young) = tt
entry_within e = tt

pub event_fits : (e : Event) → entry.IsWide (entry_of e) → Fits entry (entry_of e)
event_fits e wide = record { wide = wide; within = entry_within e }

-- a message that was written
pub letter_encoded : {is_open : Type 0} (r : Result (Vec ℕ) Refusal) (d : Data) → OnOk r is_open
    → (is_open → entry.IsWide (received_of d)) → IfOk r (λ v. v.items ≡ entry.spell (received_of d))
    → IfOk r (λ v. Fits entry (received_of d) × (v.items ≡ entry.spell (received_of d)))
letter_encoded (Ok v) d opened wide is = (event_fits (event.Data d) (wide opened), is)
letter_encoded (Err e) d opened wide is = tt
