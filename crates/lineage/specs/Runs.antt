-- What happens to a node over processes. Whatever was saved of it may be copied and put back, so
-- any state that was ever saved may be opened again, and a process may go on from any that it
-- saved.
use Rattle.std.specs.Prelude.{◌≡◌, ◌≢◌, ◌⊎◌, ℕ, ◌+◌, ◌-◌, ◌≤◌, ⊤, Bool, cond, nat_lt, List, [], ◌∷◌, ◌++◌, length, Option, Some, None, slice_get}
use Rattle.lineage.specs.Lines.{begun, judged, maker, nobody}
use Rattle.lineage.specs.declared.Ancestor.{Ancestor}
use Rattle.lineage.specs.declared.Verdict.{Verdict}

-- A state of a node that was saved: all processes that led to it, the number of its last save, and
-- the line that it holds. From `known_from` on, it should know who made the saves.
pub record State : Type 0 where
  pub chain : List Ancestor
  pub saves : ℕ
  pub line : List Ancestor
  pub known_from : ℕ

-- before the first process
abbrev pub new_state : State
new_state = record { chain = []; saves = 0; line = nobody ∷ []; known_from = 0 }

abbrev pub last_or : Ancestor → List Ancestor → Ancestor
last_or a [] = a
last_or a (b ∷ others) = last_or b others

-- the process that saved it
abbrev pub process : State → Ancestor
process s = last_or nobody s.chain

-- another process opens the state, and begins with a save
abbrev pub opened : (room nonce : ℕ) → State → State
opened room nonce s = record {
  chain = s.chain ++ record { nonce = nonce; run = s.saves + 1 } ∷ [];
  saves = s.saves + 1;
  line = begun room s.line (record { nonce = nonce; run = s.saves + 1 });
  known_from = s.known_from;
}

-- its process saves again
abbrev pub saved : State → State
saved s = record s { saves = s.saves + 1 }

-- its process forgets those before it
abbrev pub forgot : (room : ℕ) → State → State
forgot room s = record s {
  line = begun room (nobody ∷ []) (process s);
  known_from = (process s).run;
}

-- another node knows the process that has this nonce, and that it made this save
pub record Word : Type 0 where
  pub known : ℕ
  pub save : ℕ

-- all states that were saved, and all words of other nodes
pub record System : Type 0 where
  pub states : List State
  pub words : List Word

abbrev pub new_system : System
new_system = record { states = new_state ∷ []; words = [] }

-- What happens to the state at this place: a process opens it; its process saves again, or forgets
-- those before it; or another node hears of that process and its last save.
pub data Step : Type 0 where
  Begin : (at nonce : ℕ) → Step
  Save : (at : ℕ) → Step
  Forget : (at : ℕ) → Step
  Tell : (at : ℕ) → Step

abbrev pub with_state : System → State → System
with_state s x = record s { states = s.states ++ x ∷ [] }

abbrev pub with_word : System → Word → System
with_word s w = record s { words = s.words ++ w ∷ [] }

-- of a state that isn't there nothing comes
abbrev pub on : System → Option State → (State → System) → System
on s None change = s
on s (Some x) change = change x

abbrev pub has_process : State → Bool
has_process x = nat_lt 0 (length x.chain)

-- nor of one that no process saved
abbrev pub by_process : System → Option State → (State → System) → System
by_process s o change = on s o (λ x. cond (has_process x) (change x) s)

abbrev pub step : (room : ℕ) → System → Step → System
step room s (Begin at nonce) =
    on s (slice_get s.states at) (λ x. with_state s (opened room nonce x))
step room s (Save at) = by_process s (slice_get s.states at) (λ x. with_state s (saved x))
step room s (Forget at) = by_process s (slice_get s.states at) (λ x. with_state s (forgot room x))
step room s (Tell at) =
    by_process s (slice_get s.states at)
    (λ x. with_word s (record { known = (process x).nonce; save = x.saves }))

abbrev pub run : (room : ℕ) → System → List Step → System
run room s [] = s
run room s (e ∷ es) = run room (step room s e) es

abbrev pub Among : {A : Type 0} → A → List A → Type 0
Among x [] = ⊥
Among x (y ∷ ys) = (x ≡ y) ⊎ Among x ys

-- each process that begins has a nonce that no other one has, and that isn't 0
abbrev pub IsNew : System → Step → Type 0
IsNew s (Begin at nonce) =
    (nonce ≢ 0) × ((x : State) → Among x s.states → (process x).nonce ≢ nonce)
IsNew s e = ⊤

abbrev pub AreNew : (room : ℕ) → System → List Step → Type 0
AreNew room s [] = ⊤
AreNew room s (e ∷ es) = IsNew s e × AreNew room (step room s e) es

abbrev pub place_of : Step → ℕ
place_of (Begin at nonce) = at
place_of (Save at) = at
place_of (Forget at) = at
place_of (Tell at) = at

-- each step is of the state that was saved last: nothing older is put back, and one process at a
-- time runs the node
abbrev pub AreOfNewest : (room : ℕ) → System → List Step → Type 0
AreOfNewest room s [] = ⊤
AreOfNewest room s (e ∷ es) =
    (place_of e ≡ length s.states - 1) × AreOfNewest room (step room s e) es

-- The word is true of the state: a process that led to it made that save.
pub record IsTrueOf (s : State) (w : Word) : Type 0 where
  pub made : maker s.chain w.save ≡ w.known
  pub within : w.save ≤ s.saves

-- what the process of a state makes of the word
abbrev pub verdict : State → Word → Verdict
verdict s w = judged s.line (process s).nonce s.saves w.known w.save
