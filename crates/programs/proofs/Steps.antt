-- Each step keeps what holds of a host, and what is stored only grows.
use Rattle.std.proofs.Common.{◌≡◌, ◌≤◌, ◌+◌, ℕ, zero, suc, Bool, cond, true, false, List, [], ◌∷◌, Option, Some, None, refl, sym, ap, ◌∙◌, subst, arith, ◌⊎◌, inl, inr, ⊎_elim, leb, ltb, eqb, slice_get, ◌&&◌, not}
use Rattle.std.proofs.lemmas.Bool.{and_cases, and_parts, cases_Bool, eqb-false, eqb-true, leb-true, ltb-false, ltb-true, not-false, not-true}
use Rattle.std.proofs.lemmas.List.Elements.{All-cons, All-head, All-tail, All-weaker}
use Rattle.std.specs.List.{All}
use Rattle.programs.specs.declared.images.TheConstants.{NEVER}
use Rattle.programs.specs.declared.program.TheConstants.{FORGOTTEN}
use Rattle.programs.specs.declared.images.Images.{Images}
use Rattle.programs.specs.declared.program.Program.{Program}
use Rattle.programs.specs.declared.program.Opening.{Opening}
use Rattle.programs.specs.declared.program.Opening.TheVariants as opening
use Rattle.programs.specs.declared.program.Request.{Request}
use Rattle.programs.specs.declared.program.Request.TheVariants as request
use Rattle.programs.specs.Decisions.{forgotten, is_session, numbered, opened, opening_of, performed, request_of, IsOpening, IsRequest, IsSession, SpeaksFor}
use Rattle.programs.specs.Images.{changed_images, due_image, failed_images, has_changed, image_due, may_begin, may_leave, stored_images}
use Rattle.programs.specs.Runs.{after_ask, after_open, answers, becomes, crashed, ended, gives_up, leaves, reached, run, saves, step, waits, Answer, Ask, BeginSave, Change, Crash, Deed, Done, EndSave, FailSave, Forget, Forgets, Forgot, Host, IsPast, Leave, Open, Opened, Performed, ReachDisk, Read, Refused, Says, Speaks, Step, Told, Value, Waiting}
use Rattle.programs.proofs.Deeds.{program_after, IsGood}
use Rattle.programs.proofs.Lists.{past-both, past-equal, past-more, past-same}
use Rattle.programs.proofs.Sound.{flag_of, most, view_of, Fits, HasLeft, IsAfter, IsHeld, IsSound, IsSoundView, View, WaitsRightly}

-- ---- decisions

session-true : (session : ℕ) → is_session session ≡ true → IsSession session
session-true session e =
    let both = and_parts (not (eqb session 0)) (not (eqb session FORGOTTEN)) e in
    record {
      not_none = eqb-false session 0 (not-true (eqb session 0) both.0);
      not_forgotten = eqb-false session FORGOTTEN (not-true (eqb session FORGOTTEN) both.1);
    }

session-false : (session : ℕ) → is_session session ≡ false → IsSession session → ⊥
session-false session e is =
    ⊎_elim {C = ⊥}
    (λ none. is.not_none (eqb-true session 0 (not-false (eqb session 0) none)))
    (λ lost. is.not_forgotten (eqb-true session FORGOTTEN (not-false (eqb session FORGOTTEN) lost)))
    (and_cases (not (eqb session 0)) (not (eqb session FORGOTTEN)) e)

pub opening-is : (p : Program) (session number : ℕ)
    → IsOpening p session number (opening_of p session number)
opening-is p session number =
    go (is_session session) refl (eqb session p.session) refl (eqb number (p.round + 1)) refl
  where
    go : (a : Bool) → is_session session ≡ a → (b : Bool) → eqb session p.session ≡ b
        → (c : Bool) → eqb number (p.round + 1) ≡ c
        → IsOpening p session number
        (cond a
        (cond b opening.Again
        (cond c opening.New opening.Stale)) opening.Malformed)
    go false e b f c g = session-false session e
    go true e true f c g =
        record { is = session-true session e; same = eqb-true session p.session f }
    go true e false f true g =
        (session-true session e, eqb-false session p.session f, eqb-true number (p.round + 1) g)
    go true e false f false g =
        (session-true session e, eqb-false session p.session f, eqb-false number (p.round + 1) g)

numbered-is : (p : Program) (session number : ℕ) → SpeaksFor p session
    → IsRequest p session number (numbered p number)
numbered-is p session number speaks =
    go (eqb number 0) refl (ltb number p.number) refl (eqb number p.number) refl
    (eqb number (p.number + 1)) refl
  where
    go : (a : Bool) → eqb number 0 ≡ a → (b : Bool) → ltb number p.number ≡ b
        → (c : Bool) → eqb number p.number ≡ c → (d : Bool) → eqb number (p.number + 1) ≡ d
        → IsRequest p session number
        (cond a request.Malformed
        (cond b request.Stale
        (cond c request.Repeated
        (cond d request.Next request.Ahead))))
    go true e b f c g d h = (speaks, eqb-true number 0 e)
    go false e true f c g d h =
        (speaks, eqb-false number 0 e, ltb-true number p.number f)
    go false e false f true g d h =
        (speaks, eqb-false number 0 e, eqb-true number p.number g)
    go false e false f false g true h = (speaks, eqb-true number (p.number + 1) h)
    go false e false f false g false h =
        let up = ltb-false number p.number f in
        let apart = eqb-false number p.number g in
        let other = eqb-false number (p.number + 1) h in
        (speaks, omega (arith, up, apart, other))

pub request-is : (p : Program) (session number : ℕ)
    → IsRequest p session number (request_of p session number)
request-is p session number = go (is_session session) refl (eqb session p.session) refl
  where
    go : (a : Bool) → is_session session ≡ a → (b : Bool) → eqb session p.session ≡ b
        → IsRequest p session number
        (cond (a && b) (numbered p number) request.Superseded)
    go true e true f =
        numbered-is p session number
        (record { is = session-true session e; same = eqb-true session p.session f })
    go true e false f = λ s. eqb-false session p.session f s.same
    go false e b f = λ s. session-false session e s.is

-- ---- answers that wait

pub most-below : (changed : Bool) (images : ℕ) → most changed images ≤ images + 1
most-below true images = omega arith
most-below false images = omega arith

next-image : (images : ℕ)
    → (due_image true images ≡ images + 1) ⊎ ((due_image true images ≡ images) × (NEVER ≤ images))
next-image images = go (ltb images NEVER) refl
  where
    go : (b : Bool) → ltb images NEVER ≡ b
        → (cond b (images + 1) images ≡ images + 1)
        ⊎ ((cond b (images + 1) images ≡ images) × (NEVER ≤ images))
    go true e = inl refl
    go false e = inr (refl, ltb-false images NEVER e)

-- the next image holds the present state
held-next : (v : View) → v.changed ≡ true → v.kept ≤ v.images
    → IsHeld v (due_image true v.images) v.now.done
held-next v changed kept =
    ⊎_elim {C = IsHeld v (due_image true v.images) v.now.done}
    (λ (next : due_image true v.images ≡ v.images + 1). record {
      past = past-same v.now.done;
      stored = λ is within. absurd (omega (arith, next, within, kept));
      saving = λ is within saved e. absurd (omega (arith, next, within));
      most = rw (changed, next) (omega arith);
    })
    (λ (last : (due_image true v.images ≡ v.images) × (NEVER ≤ v.images)).
    let same = last.0 in
    let spent = last.1 in
    record {
      past = past-same v.now.done;
      stored = λ is within. absurd (omega (arith, is, same, spent));
      saving = λ is within saved e. absurd (omega (arith, is, same, spent));
      most = rw (changed, same) (omega arith);
    })
    (next-image v.images)

held-last : (v : View) → v.changed ≡ false → IsSoundView v
    → (o : Option Value) → v.saving ≡ o → IsHeld v v.images v.now.done
held-last v same s (Some saved) e =
    let fewer = (s.saving saved e).fewer in
    record {
      past = past-same v.now.done;
      stored = λ is within. absurd (omega (arith, within, fewer));
      saving = λ is within other at. past-equal ((s.saving other at).same same);
      most = rw same (omega arith);
    }
held-last v same s None e = record {
  past = past-same v.now.done;
  stored = λ is within. past-equal ((s.rest e).same same);
  saving = λ is within other at. past-equal ((s.saving other at).same same);
  most = rw same (omega arith);
}

held-now : (v : View) → IsSoundView v → IsHeld v (due_image v.changed v.images) v.now.done
held-now v s =
    ⊎_elim {C = IsHeld v (due_image v.changed v.images) v.now.done}
    (λ (e : v.changed ≡ true).
    subst (λ (b : Bool). IsHeld v (due_image b v.images) v.now.done) (sym e)
    (held-next v e s.kept))
    (λ (e : v.changed ≡ false).
    subst (λ (b : Bool). IsHeld v (due_image b v.images) v.now.done) (sym e)
    (held-last v e s v.saving refl))
    (cases_Bool v.changed)

same-after : (h : Host) → IsSound h → IsAfter h h
same-after h s = record { sound = s; grows = past-same h.stored.done }

waits-after : (before h : Host) (due : ℕ) (a : Answer) → IsAfter before h
    → IsHeld (view_of h) due a.shows → Fits a → IsAfter before (waits h due a)
waits-after before h due a k held fits = record {
  sound = record {
    view = k.sound.view;
    due = k.sound.due;
    flag = k.sound.flag;
    waiting = All-cons (WaitsRightly (view_of h)) (record { due = due; answer = a }) h.waiting
        (record { held = held; fits = fits }) k.sound.waiting;
    left = k.sound.left;
  };
  grows = k.grows;
}

answered-after : (before h : Host) (session number : ℕ) (says : Says) → IsAfter before h
    → (says ≡ Speaks → SpeaksFor (program_after h.now.done) session) → (says ≡ Done → ⊥)
    → IsAfter before (answers h session number says)
answered-after before h session number says k speaks other =
    waits-after before h (image_due h.images)
    (record { session = session; number = number; says = says; shows = h.now.done })
    k (held-now (view_of h) k.sound.view)
    (record {
      right = k.sound.view.now.right;
      speaks = speaks;
      done = λ e. absurd (other e);
    })

-- ---- the program changes

-- what is held stays held when there are more deeds
held-more : (h : Host) (p : Program) (d : Deed) (due : ℕ) (shows : List Deed)
    → IsHeld (view_of h) due shows → IsHeld (view_of (becomes h p d)) due shows
held-more h p d due shows g =
    let below = g.most in
    let within = most-below (has_changed h.images) h.images.taken in
    record {
      past = past-more d g.past;
      stored = g.stored;
      saving = g.saving;
      most = omega (arith, below, within);
    }

becomes-after : (h : Host) (p : Program) (d : Deed) → IsSound h
    → IsGood (record { program = p; done = d ∷ h.now.done }) → IsAfter h (becomes h p d)
becomes-after h p d s good = record {
  sound = record {
    view = record {
      now = good;
      stored = s.view.stored;
      past = past-more d s.view.past;
      saving = λ saved e.
          let way = s.view.saving saved e in
          record {
            good = way.good;
            past = past-more d way.past;
            stored = way.stored;
            fewer = way.fewer;
            same = λ f. absurd cc;
          };
      rest = λ e. record { kept = λ f. absurd cc; same = λ f. absurd cc };
      kept = s.view.kept;
    };
    due = held-next (view_of (becomes h p d)) refl s.view.kept;
    flag = s.flag;
    waiting = All-weaker (WaitsRightly (view_of h)) (WaitsRightly (view_of (becomes h p d)))
        (λ w g. record {
          held = held-more h p d w.due w.answer.shows g.held;
          fits = g.fits;
        })
        h.waiting s.waiting;
    left = s.left;
  };
  grows = past-same h.stored.done;
}

-- ---- openings and requests

opening-after : (h : Host) (session number : ℕ) (o : Opening) → IsSound h
    → IsOpening h.now.program session number o → IsAfter h (after_open h session number o)
opening-after h session number opening.New s is =
    let at = s.view.now.is in
    let right = subst (λ (p : Program). IsOpening p session number opening.New) at is in
    answered-after h (becomes h (opened h.now.program session) (Opened session number))
    session number Speaks
    (becomes-after h (opened h.now.program session) (Opened session number) s
    (record {
      is = ap (λ (p : Program). opened p session) at;
      right = (right, s.view.now.right);
    }))
    (λ e. record { is = is.0; same = refl }) (λ e. absurd cc)
opening-after h session number opening.Again s is =
    answered-after h h session number Speaks (same-after h s)
    (λ e. subst (λ (p : Program). SpeaksFor p session) s.view.now.is is) (λ e. absurd cc)
opening-after h session number opening.Stale s is =
    answered-after h h session number Refused (same-after h s) (λ e. absurd cc) (λ e. absurd cc)
opening-after h session number opening.Malformed s is =
    answered-after h h session number Refused (same-after h s) (λ e. absurd cc) (λ e. absurd cc)

request-after : (h : Host) (session number : ℕ) (r : Request) → IsSound h
    → IsRequest h.now.program session number r → IsAfter h (after_ask h session number r)
request-after h session number request.Next s is =
    let at = s.view.now.is in
    let right = subst (λ (p : Program). IsRequest p session number request.Next) at is in
    let next = right.1 in
    let all =
    becomes-after h (performed h.now.program) (Performed session number) s
    (record { is = ap performed at; right = (right, s.view.now.right) }) in
    waits-after h (becomes h (performed h.now.program) (Performed session number))
    (image_due (changed_images h.images))
    (record {
      session = session;
      number = number;
      says = Done;
      shows = Performed session number ∷ h.now.done;
    })
    all all.sound.due
    (record {
      right = (right, s.view.now.right);
      speaks = λ e. absurd cc;
      done = λ e. (
        record { is = right.0.is; same = right.0.same },
        sym next,
        λ zero. omega (arith, next, zero),
      );
    })
request-after h session number request.Repeated s is =
    let at = s.view.now.is in
    waits-after h h h.due
    (record { session = session; number = number; says = Done; shows = h.now.done })
    (same-after h s) s.due
    (record {
      right = s.view.now.right;
      speaks = λ e. absurd cc;
      done = λ e. (
        subst (λ (p : Program). SpeaksFor p session) at is.0,
        sym (is.2 ∙ ap (λ (p : Program). p.number) at),
        is.1,
      );
    })
request-after h session number request.Stale s is =
    answered-after h h session number Refused (same-after h s) (λ e. absurd cc) (λ e. absurd cc)
request-after h session number request.Ahead s is =
    answered-after h h session number Refused (same-after h s) (λ e. absurd cc) (λ e. absurd cc)
request-after h session number request.Superseded s is =
    answered-after h h session number Refused (same-after h s) (λ e. absurd cc) (λ e. absurd cc)
request-after h session number request.Malformed s is =
    answered-after h h session number Refused (same-after h s) (λ e. absurd cc) (λ e. absurd cc)

forget-after : (h : Host) → IsSound h → IsAfter h (step h Forget)
forget-after h s =
    answered-after h (becomes h (forgotten h.now.program) Forgot) 0 0 Forgets
    (becomes-after h (forgotten h.now.program) Forgot s
    (record { is = ap forgotten s.view.now.is; right = s.view.now.right }))
    (λ e. absurd cc) (λ e. absurd cc)

change-after : (h : Host) → IsSound h → IsAfter h (step h Change)
change-after h s = record {
  sound = record {
    view = record {
      now = s.view.now;
      stored = s.view.stored;
      past = s.view.past;
      saving = λ saved e.
          let way = s.view.saving saved e in
          record {
            good = way.good;
            past = way.past;
            stored = way.stored;
            fewer = way.fewer;
            same = λ f. absurd cc;
          };
      rest = λ e. record { kept = λ f. absurd cc; same = λ f. absurd cc };
      kept = s.view.kept;
    };
    due = held-changed h h.due h.now.done s.due;
    flag = s.flag;
    waiting = All-weaker (WaitsRightly (view_of h)) (WaitsRightly (view_of (step h Change)))
        (λ w g. record {
          held = held-changed h w.due w.answer.shows g.held;
          fits = g.fits;
        })
        h.waiting s.waiting;
    left = s.left;
  };
  grows = past-same h.stored.done;
}
  where
    held-changed : (h : Host) (due : ℕ) (shows : List Deed) → IsHeld (view_of h) due shows
        → IsHeld (view_of (step h Change)) due shows
    held-changed h due shows g =
        let below = g.most in
        let within = most-below (has_changed h.images) h.images.taken in
        record {
          past = g.past;
          stored = g.stored;
          saving = g.saving;
          most = omega (arith, below, within);
        }

-- ---- saves

some-is : (x y : Value) → ◌≡◌ (Some x) (Some y) → x ≡ y
some-is x y e = cc

begun-after : (h : Host) (b : Bool) → IsSound h → IsAfter h (saves h b)
begun-after h false s = same-after h s
begun-after h true s =
    let within = s.view.kept in
    record {
      sound = record {
        view = record {
          now = s.view.now;
          stored = s.view.stored;
          past = s.view.past;
          saving = λ saved is.
              let at = some-is h.now saved is in
              record {
                good = subst IsGood at s.view.now;
                past = past-equal (ap (λ (z : Value). z.done) at);
                stored = subst (λ (z : Value). IsPast h.stored.done z.done) at s.view.past;
                fewer = omega (arith, within);
                same = λ _. ap (λ (z : Value). z.done) (sym at);
              };
          rest = λ is. absurd cc;
          kept = omega (arith, within);
        };
        due = held-begun h h.due h.now.done s.due;
        flag = refl;
        waiting = All-weaker (WaitsRightly (view_of h))
            (WaitsRightly (view_of (saves h true)))
            (λ w g. record {
              held = held-begun h w.due w.answer.shows g.held;
              fits = g.fits;
            })
            h.waiting s.waiting;
        left = s.left;
      };
      grows = past-same h.stored.done;
    }
  where
    held-begun : (h : Host) (due : ℕ) (shows : List Deed) → IsHeld (view_of h) due shows
        → IsHeld (view_of (saves h true)) due shows
    held-begun h due shows g =
        let below = g.most in
        let within = most-below (has_changed h.images) h.images.taken in
        record {
          past = g.past;
          stored = g.stored;
          saving = λ is until saved at.
              subst (λ (z : Value). IsPast shows z.done) (some-is h.now saved at) g.past;
          most = omega (arith, below, within);
        }

-- what has left is stored, also when more is
left-more : (h : Host) (saved : Value) → IsSound h → h.saving ≡ Some saved
    → All (HasLeft saved) h.left
left-more h saved s e =
    All-weaker (HasLeft h.stored) (HasLeft saved)
    (λ a g. record {
      past = past-both g.past (s.view.saving saved e).stored;
      fits = g.fits;
    })
    h.left s.left

reached-after : (h : Host) (o : Option Value) → h.saving ≡ o → IsSound h → IsAfter h (reached h o)
reached-after h None e s = same-after h s
reached-after h (Some value) e s =
    let way = s.view.saving value e in
    record {
      sound = record {
        view = record {
          now = s.view.now;
          stored = way.good;
          past = way.past;
          saving = λ saved is.
              let at = some-is value saved (sym e ∙ is) in
              let its = s.view.saving saved is in
              record {
                good = its.good;
                past = its.past;
                stored = past-equal (ap (λ (z : Value). z.done) (sym at));
                fewer = its.fewer;
                same = its.same;
              };
          rest = λ is. absurd (cc (e, is));
          kept = s.view.kept;
        };
        due = held-reached h value e s h.due h.now.done s.due;
        flag = s.flag;
        waiting = All-weaker (WaitsRightly (view_of h))
            (WaitsRightly (view_of (reached h (Some value))))
            (λ w g. record {
              held = held-reached h value e s w.due w.answer.shows g.held;
              fits = g.fits;
            })
            h.waiting s.waiting;
        left = left-more h value s e;
      };
      grows = way.stored;
    }
  where
    held-reached : (h : Host) (value : Value) → h.saving ≡ Some value → IsSound h
        → (due : ℕ) (shows : List Deed) → IsHeld (view_of h) due shows
        → IsHeld (view_of (reached h (Some value))) due shows
    held-reached h value e s due shows g = record {
      past = g.past;
      stored = λ is until. past-both (g.stored is until) (s.view.saving value e).stored;
      saving = g.saving;
      most = g.most;
    }

-- A save is under way, so the flag is 1.
flag-is : (h : Host) (value : Value) → h.saving ≡ Some value → IsSound h → h.images.saving ≡ 1
flag-is h value e s = s.flag ∙ ap flag_of e

stored-is : (i : Images) → i.saving ≡ 1
    → stored_images i ≡ record i { kept = i.taken; saving = 0 }
stored-is i e = rw e refl

failed-is : (i : Images) → i.saving ≡ 1 → failed_images i ≡ record i { changed = 1; saving = 0 }
failed-is i e = rw e refl

-- the process knows that this value is stored
abbrev told : Host → Value → Host
told h value =
    record h {
      images = record (h.images) { kept = h.images.taken; saving = 0 };
      saving = None;
      stored = value;
    }

told-after : (h : Host) (value : Value) → h.saving ≡ Some value → IsSound h
    → IsAfter h (told h value)
told-after h value e s =
    let way = s.view.saving value e in
    record {
      sound = record {
        view = record {
          now = s.view.now;
          stored = way.good;
          past = way.past;
          saving = λ saved is. absurd cc;
          rest = λ is. record { kept = λ same. refl; same = way.same };
          kept = omega arith;
        };
        due = held-told h value e h.due h.now.done s.due;
        flag = refl;
        waiting = All-weaker (WaitsRightly (view_of h))
            (WaitsRightly (view_of (told h value)))
            (λ w g. record {
              held = held-told h value e w.due w.answer.shows g.held;
              fits = g.fits;
            })
            h.waiting s.waiting;
        left = left-more h value s e;
      };
      grows = way.stored;
    }
  where
    held-told : (h : Host) (value : Value) → h.saving ≡ Some value → (due : ℕ)
        (shows : List Deed) → IsHeld (view_of h) due shows
        → IsHeld (view_of (told h value)) due shows
    held-told h value e due shows g = record {
      past = g.past;
      stored = λ is until. g.saving is until value e;
      saving = λ is until saved at. absurd cc;
      most = g.most;
    }

ended-after : (h : Host) (o : Option Value) → h.saving ≡ o → IsSound h → IsAfter h (ended h o)
ended-after h None e s = same-after h s
ended-after h (Some value) e s =
    subst
    (λ (i : Images). IsAfter h (record h { images = i; saving = None; stored = value }))
    (sym (stored-is h.images (flag-is h value e s)))
    (told-after h value e s)

-- the process knows that the save has failed
abbrev refused : Host → Host
refused h =
    record h { images = record (h.images) { changed = 1; saving = 0 }; saving = None }

refused-after : (h : Host) → IsSound h → IsAfter h (refused h)
refused-after h s = record {
  sound = record {
    view = record {
      now = s.view.now;
      stored = s.view.stored;
      past = s.view.past;
      saving = λ saved is. absurd cc;
      rest = λ is. record { kept = λ f. absurd cc; same = λ f. absurd cc };
      kept = s.view.kept;
    };
    due = held-refused h h.due h.now.done s.due;
    flag = refl;
    waiting = All-weaker (WaitsRightly (view_of h))
        (WaitsRightly (view_of (refused h)))
        (λ w g. record {
          held = held-refused h w.due w.answer.shows g.held;
          fits = g.fits;
        })
        h.waiting s.waiting;
    left = s.left;
  };
  grows = past-same h.stored.done;
}
  where
    held-refused : (h : Host) (due : ℕ) (shows : List Deed)
        → IsHeld (view_of h) due shows → IsHeld (view_of (refused h)) due shows
    held-refused h due shows g =
        let below = g.most in
        let within = most-below (has_changed h.images) h.images.taken in
        record {
          past = g.past;
          stored = g.stored;
          saving = λ is until saved at. absurd cc;
          most = omega (arith, below, within);
        }

failed-after : (h : Host) (o : Option Value) → h.saving ≡ o → IsSound h → IsAfter h (gives_up h o)
failed-after h None e s = same-after h s
failed-after h (Some value) e s =
    subst (λ (i : Images). IsAfter h (record h { images = i; saving = None }))
    (sym (failed-is h.images (flag-is h value e s)))
    (refused-after h s)

-- ---- crashes, and answers that leave

crashed-after : (h : Host) → IsSound h → IsAfter h (crashed h)
crashed-after h s = record {
  sound = record {
    view = record {
      now = s.view.stored;
      stored = s.view.stored;
      past = past-same h.stored.done;
      saving = λ saved e. absurd cc;
      rest = λ e. record { kept = λ f. refl; same = λ f. refl };
      kept = omega arith;
    };
    due = record {
      past = past-same h.stored.done;
      stored = λ is until. past-same h.stored.done;
      saving = λ is until saved e. absurd cc;
      most = omega arith;
    };
    flag = refl;
    waiting = λ k d inside. absurd (omega (arith, inside));
    left = s.left;
  };
  grows = past-same h.stored.done;
}

some-such : {X : Type 0} (x y : X) → ◌≡◌ (Some x) (Some y) → x ≡ y
some-such x y e = cc

pub slice-all : {X : Type 0} (P : X → Type 0) (xs : List X) (place : ℕ) (x : X)
    → slice_get xs place ≡ Some x → All P xs → P x
slice-all P [] place x e all = absurd cc
slice-all P (y ∷ xs) zero x e all =
    subst P (some-such y x e) (All-head P y xs all)
slice-all P (y ∷ xs) (suc place) x e all = slice-all P xs place x e (All-tail P y xs all)

left-after : (h : Host) (w : Waiting) → IsSound h → WaitsRightly (view_of h) w
    → (b : Bool) → may_leave h.images w.due ≡ b
    → IsAfter h (cond b (record h { left = w.answer ∷ h.left }) h)
left-after h w s g false e = same-after h s
left-after h w s g true e =
    let both = and_parts (leb w.due h.images.kept) (ltb w.due NEVER) e in
    record {
      sound = record {
        view = s.view;
        due = s.due;
        flag = s.flag;
        waiting = s.waiting;
        left = All-cons (HasLeft h.stored) w.answer h.left
            (record {
              past = g.held.stored (ltb-true w.due NEVER both.1)
                  (leb-true w.due h.images.kept both.0);
              fits = g.fits;
            })
            s.left;
      };
      grows = past-same h.stored.done;
    }

leaves-after : (h : Host) (place : ℕ) (o : Option Waiting) → slice_get h.waiting place ≡ o
    → IsSound h → IsAfter h (leaves h o)
leaves-after h place None e s = same-after h s
leaves-after h place (Some w) e s =
    left-after h w s
    (slice-all (WaitsRightly (view_of h)) h.waiting place w e s.waiting)
    (may_leave h.images w.due) refl

-- ---- runs

pub step-after : (h : Host) (s : Step) → IsSound h → IsAfter h (step h s)
step-after h (Open session number) s =
    opening-after h session number (opening_of h.now.program session number) s
    (opening-is h.now.program session number)
step-after h (Ask session number) s =
    request-after h session number (request_of h.now.program session number) s
    (request-is h.now.program session number)
step-after h (Read session number) s =
    waits-after h h h.due
    (record { session = session; number = number; says = Told; shows = h.now.done })
    (same-after h s) s.due
    (record {
      right = s.view.now.right;
      speaks = λ e. absurd cc;
      done = λ e. absurd cc;
    })
step-after h Forget s = forget-after h s
step-after h Change s = change-after h s
step-after h BeginSave s = begun-after h (may_begin h.images) s
step-after h ReachDisk s = reached-after h h.saving refl s
step-after h EndSave s = ended-after h h.saving refl s
step-after h FailSave s = failed-after h h.saving refl s
step-after h Crash s = crashed-after h s
step-after h (Leave place) s = leaves-after h place (slice_get h.waiting place) refl s

pub run-after : (steps : List Step) (h : Host) → IsSound h → IsAfter h (run h steps)
run-after [] h s = same-after h s
run-after (x ∷ steps) h s =
    let once = step-after h x s in
    let more = run-after steps (step h x) once.sound in
    record { sound = more.sound; grows = past-both once.grows more.grows }
