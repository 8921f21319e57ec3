-- If no frame fits, nothing is written.
use Rattle.std.proofs.Common.{◌≡◌, ℕ, ◌+◌, ◌<◌, ◌≤◌, Bool, true, false, cond, nat_lt, nat_le, zero, suc, [], length, Option, Some, None, refl, subst, sym, arith}
use Rattle.std.proofs.lemmas.Bool.{cond-false, cond-true, le-ltb, lt-ltb}
use Rattle.ids.specs.declared.limits.TheConstants.{WINDOW}
use Rattle.msg.specs.Frames.{Plain}
use Rattle.model.specs.View.{NodeView}
use Rattle.node.specs.Frames.{released_frame}
use Rattle.c_handles.specs.Frames.{Packed, number_of, pack, pack_above, packed, packing, window}

-- if no part fits, there are no bytes
abbrev IsNone : Packed → Type 0
IsNone p = p.count ≡ 0 → p.bytes ≡ []

either : (b : Bool) (p q : Packed) → IsNone p → IsNone q → IsNone (cond b p q)
either true p q at_p at_q = at_p
either false p q at_p at_q = at_q

above : (room after : ℕ) (p : Packed) (f : Option Plain) → IsNone p
    → IsNone (pack_above room after p f)
above room after p None none = none
above room after p (Some f) none =
    let fits = nat_le (p.needed + length (packed f)) room in
    either (nat_lt after (number_of f)) (pack room p (packed f)) p
    (either fits _ _ (λ e. absurd (omega (arith, e))) none) none

all : (room : ℕ) (n : NodeView) (to after place : ℕ) → IsNone (packing room n to after place)
all room n to after zero = λ e. refl
all room n to after (suc place) =
    above room after (packing room n to after place) (released_frame n to place)
    (all room n to after place)

pub window_none : (room : ℕ) (n : NodeView) (to after : ℕ) → (window room n to after).count ≡ 0
    → (window room n to after).bytes ≡ []
unfolding window
window_none room n to after = all room n to after WINDOW

-- ---- one more frame

pub above_next : (room after n : ℕ) (p : Packed) (f : Plain) → n ≡ number_of f → after < n
    → pack room p (packed f) ≡ pack_above room after p (Some f)
above_next room after n p f is above =
    sym (cond-true (nat_lt after (number_of f)) (pack room p (packed f)) p
    (lt-ltb after (number_of f) (subst (λ (k : ℕ). after < k) is above)))

pub above_skipped : (room after n : ℕ) (p : Packed) (f : Plain) → n ≡ number_of f → n ≤ after
    → p ≡ pack_above room after p (Some f)
above_skipped room after n p f is below =
    sym (cond-false (nat_lt after (number_of f)) (pack room p (packed f)) p
    (le-ltb after (number_of f) (subst (λ (k : ℕ). k ≤ after) is below)))

pub more : (n k : ℕ) → n ≤ n + k
more n k = omega arith
