-- What holds of a host after any steps.
use Rattle.std.proofs.Common.{◌≡◌, ◌≢◌, ◌<◌, ◌≤◌, ◌+◌, ℕ, Bool, false, cond, List, [], Option, Some, None, refl, arith}
use Rattle.std.specs.List.{All}
use Rattle.programs.specs.declared.images.TheConstants.{NEVER}
use Rattle.programs.specs.Decisions.{SpeaksFor}
use Rattle.programs.specs.Images.{has_changed}
use Rattle.programs.specs.Runs.{new_host, Answer, Deed, Done, Host, IsPast, Speaks, Value, Waiting}
use Rattle.programs.proofs.Deeds.{program_after, AreRight, IsGood}
use Rattle.programs.proofs.Lists.{past-same}

-- a host without its answers
pub record View : Type 0 where
  pub now : Value
  pub changed : Bool
  pub images : ℕ
  pub kept : ℕ
  pub saving : Option Value
  pub stored : Value

abbrev pub view_of : Host → View
view_of h = record {
  now = h.now;
  changed = has_changed h.images;
  images = h.images.taken;
  kept = h.images.kept;
  saving = h.saving;
  stored = h.stored;
}

abbrev pub flag_of : Option Value → ℕ
flag_of (Some value) = 1
flag_of None = 0

-- the greatest number that the image of an answer may have
abbrev pub most : Bool → ℕ → ℕ
most changed images = cond changed (images + 1) images

-- The image `due` holds these deeds, once it is taken.
pub record IsHeld (v : View) (due : ℕ) (shows : List Deed) : Type 0 where
  pub past : IsPast shows v.now.done
  pub stored : due < NEVER → due ≤ v.kept → IsPast shows v.stored.done
  pub saving : due < NEVER → due ≤ v.images → (saved : Value) → v.saving ≡ Some saved
      → IsPast shows saved.done
  pub most : due ≤ most v.changed v.images

-- an answer is right in the state that it shows
pub record Fits (a : Answer) : Type 0 where
  pub right : AreRight a.shows
  pub speaks : a.says ≡ Speaks → SpeaksFor (program_after a.shows) a.session
  pub done : a.says ≡ Done
      → SpeaksFor (program_after a.shows) a.session
      × ((program_after a.shows).number ≡ a.number)
      × (a.number ≢ 0)

pub record WaitsRightly (v : View) (w : Waiting) : Type 0 where
  pub held : IsHeld v w.due w.answer.shows
  pub fits : Fits w.answer

pub record HasLeft (stored : Value) (a : Answer) : Type 0 where
  pub past : IsPast a.shows stored.done
  pub fits : Fits a

-- A save is under way, which holds this value.
pub record IsUnderWay (v : View) (saved : Value) : Type 0 where
  pub good : IsGood saved
  pub past : IsPast saved.done v.now.done
  pub stored : IsPast v.stored.done saved.done
  pub fewer : v.kept < v.images
  pub same : v.changed ≡ false → saved.done ≡ v.now.done

-- none is
pub record IsAtRest (v : View) : Type 0 where
  pub kept : v.changed ≡ false → v.kept ≡ v.images
  pub same : v.changed ≡ false → v.stored.done ≡ v.now.done

pub record IsSoundView (v : View) : Type 0 where
  pub now : IsGood v.now
  pub stored : IsGood v.stored
  pub past : IsPast v.stored.done v.now.done
  pub saving : (saved : Value) → v.saving ≡ Some saved → IsUnderWay v saved
  pub rest : v.saving ≡ None → IsAtRest v
  pub kept : v.kept ≤ v.images

pub record IsSound (h : Host) : Type 0 where
  pub view : IsSoundView (view_of h)
  pub due : IsHeld (view_of h) h.due h.now.done
  -- the flag says whether a save is under way
  pub flag : h.images.saving ≡ flag_of h.saving
  pub waiting : All (WaitsRightly (view_of h)) h.waiting
  pub left : All (HasLeft h.stored) h.left

-- The second host comes after the first one.
pub record IsAfter (before after : Host) : Type 0 where
  pub sound : IsSound after
  pub grows : IsPast before.stored.done after.stored.done

pub new-sound : IsSound new_host
new-sound = record {
  view = record {
    now = record { is = refl; right = tt };
    stored = record { is = refl; right = tt };
    past = past-same [];
    saving = λ saved e. absurd cc;
    rest = λ e. record { kept = λ same. refl; same = λ same. refl };
    kept = omega arith;
  };
  due = record {
    past = past-same [];
    stored = λ is within. past-same [];
    saving = λ is within saved e. absurd cc;
    most = omega arith;
  };
  flag = refl;
  waiting = λ k d inside. absurd (omega (arith, inside));
  left = λ k d inside. absurd (omega (arith, inside));
}
