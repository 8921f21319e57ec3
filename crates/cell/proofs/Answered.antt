-- A cell that answers is open.
use Rattle.std.proofs.Common.{◌≡◌, Bool, true, false, Option, Result, inl, inr, refl}
use Rattle.std.specs.Prelude.{IsErrOf}
use Rattle.ids.specs.declared.refusal.Refusal.{Refusal}
use Rattle.ids.specs.declared.refusal.Refusal.TheVariants.{Closed}
use Rattle.model.specs.declared.event.Event.{Event}
use Rattle.model.specs.declared.event.Answer.{Answer}
use Rattle.disk.specs.Areas.{Areas}
use Rattle.cell.specs.Locked.{WasAnswered, WasGiven, WasShut}
use Rattle.cell.specs.Names.{Name}

pub was-answered : {D : Type 0} {may_leave : D → Areas → Type 0} {wire : Option Name} (e : Event)
    (result : Result Answer Refusal) (is_open : Bool)
    → (is_open ≡ true → WasGiven may_leave wire e result)
    → (is_open ≡ false → IsErrOf result Closed × WasShut may_leave wire)
    → WasAnswered may_leave wire e result
was-answered e result true given closed = inr (given refl)
was-answered e result false given closed = inl (closed refl)
