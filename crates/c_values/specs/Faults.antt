-- The statuses of calls from C, and what a call writes.
use Rattle.std.specs.Prelude.{◌≡◌, ℤ, pos, Option, Some, None, Result, Ok, Err}
use Rattle.ids.specs.Refusals.{number_of}
use Rattle.c_values.specs.declared.fault.Fault.{Fault}
use Rattle.c_values.specs.declared.fault.Fault.TheVariants as fault

abbrev pub ok_status : ℤ
ok_status = pos 0

abbrev pub status_of : Fault → ℤ
status_of (fault.Refused e) = pos (number_of e)
status_of fault.NoHandle = pos 101
status_of fault.InUse = pos 102
status_of fault.ShortBuffer = pos 103
status_of fault.BadArgument = pos 104
status_of fault.WrongDisks = pos 105
status_of fault.WrongMark = pos 106
status_of fault.Congested = pos 107
status_of fault.Nothing = pos 108
status_of (fault.Ages sender receiver) = pos 109
status_of fault.NoLog = pos 110

-- ---- Calls of a handle

-- A call reads what the handle holds. Of an empty handle it fails.
abbrev pub read : {X A : Type 0} → (X → Result A Fault) → Option X → Result A Fault
read f (Some x) = f x
read f None = Err fault.NoHandle

-- A call may change what the handle holds. An empty one stays empty, and the call fails.
abbrev pub Through : {X A : Type 0} → (X → X → Result A Fault → Type 0) → Option X → Option X
    → Result A Fault → Type 0
Through Does (Some old) (Some new) r = Does old new r
Through Does (Some old) None r = ⊥
Through Does None new r = (new ≡ None) × (r ≡ Err fault.NoHandle)

-- A call fills an empty handle, or fails. One that isn't empty stays as it is.
abbrev pub Filled : {X : Type 0} → (Result X Fault → Type 0) → Option X → Option X
    → Result (Unit {0}) Fault → Type 0
Filled Makes (Some x) new r = (new ≡ Some x) × (r ≡ Err fault.InUse)
Filled Makes None (Some x) (Ok u) = Makes (Ok x)
Filled Makes None None (Ok u) = ⊥
Filled Makes None (Some x) (Err e) = ⊥
Filled Makes None None (Err e) = Makes (Err e)

-- nothing, if the handle is empty
abbrev pub empty : {X : Type 0} → Option X → Result (Unit {0}) Fault
empty (Some x) = Err fault.InUse
empty None = Ok tt

-- a call empties the handle; of an empty one it fails
abbrev pub Freed : {X : Type 0} → Option X → Option X → Result (Unit {0}) Fault → Type 0
Freed old new r = (new ≡ None) × (r ≡ read (λ x. Ok tt) old)

-- ---- What C sees of a result

-- the status
abbrev pub status : {A : Type 0} → Result A Fault → ℤ
status (Ok a) = ok_status
status (Err e) = status_of e

-- what a place of the caller's holds afterwards
abbrev pub written : {A B : Type 0} → (A → B) → Result A Fault → B → B
written f (Ok a) before = f a
written f (Err e) before = before
