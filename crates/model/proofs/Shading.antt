-- What a node does that sees to references, by whether it is marking; and lists of references.
use Rattle.std.proofs.Common.{◌≡◌, ℕ, Bool, true, false, cond, ◌==◌, ◌||◌, List, [], ◌∷◌, ◌++◌, length, Option, option_to_list, refl, ap, sym, ◌∙◌, ⊎_elim, append_assoc, append-nil}
use Rattle.std.specs.List.{AllByRecursion}
use Rattle.std.proofs.lemmas.Bool.{cases_Bool, cond_both, cond-true, cond-false}
use Rattle.std.proofs.Math.IntN.{+ℤ_idr}
use Rattle.ids.specs.declared.names.Ref.{Ref}
use Rattle.model.specs.State.{Heap, Ring, LocalState}
use Rattle.model.specs.Effects.{Work, at_rest, then}
use Rattle.model.specs.Counting.{counted_marks}
use Rattle.model.specs.Shading.{is_in, is_open, make_grey, make_all_grey, unasked, marks_for, seen, see_to, filled}

-- no Marks were sent
pub marks-none : (r : Ring) → counted_marks 0 r ≡ r
marks-none r = ap (λ z. record r { earlier = z }) (+ℤ_idr r.earlier)

pub seen-none : (due : Bool) (p : LocalState) → seen due [] p ≡ at_rest p
seen-none due p =
    cond_both due [] []
    (λ (rs : List Ref). record {
      local = record p { asked = p.asked ++ []; ring = counted_marks (length rs) p.ring };
      sends = marks_for p.phases.cycle rs;
    } ≡ at_rest p)
    (λ _. same) (λ _. same)
  where
    same : record {
      local = record p { asked = p.asked ++ []; ring = counted_marks 0 p.ring };
      sends = [];
    } ≡ at_rest p
    same =
        ap (λ (rs : List Ref).
        at_rest (record p { asked = rs; ring = counted_marks 0 p.ring })) (append-nil p.asked)
        ∙ ap (λ (r : Ring). at_rest (record p { ring = r })) (marks-none p.ring)

pub see_to-none : (due : Bool) (p : LocalState) → see_to due [] p ≡ at_rest p
unfolding see_to
see_to-none due p =
    cond_both (is_open p) [] [] (λ (rs : List Ref). seen due rs p ≡ at_rest p)
    (λ _. seen-none due p) (λ _. seen-none due p)

pub see_to-open : (due : Bool) (rs : List Ref) (p : LocalState) → is_open p ≡ true
    → see_to due rs p ≡ seen due rs p
unfolding see_to
see_to-open due rs p opened =
    ap (λ (us : List Ref). seen due us p) (cond-true (is_open p) rs [] opened)

pub see_to-closed : (due : Bool) (rs : List Ref) (p : LocalState) → is_open p ≡ false
    → see_to due rs p ≡ at_rest p
unfolding see_to
see_to-closed due rs p shut =
    ap (λ (us : List Ref). seen due us p) (cond-false (is_open p) rs [] shut) ∙ seen-none due p

-- an object of the node's own comes first: nothing is asked for it
pub see_to-own : (due : Bool) (r : Ref) (rs : List Ref) (p : LocalState) → is_open p ≡ true
    → (r.node == p.own) ≡ true
    → see_to due (r ∷ rs) p ≡ see_to due rs (record p { heap = make_grey p.phases.cycle p.heap r })
see_to-own due r rs p opened here =
    let q : LocalState = record p { heap = make_grey p.phases.cycle p.heap r } in
    let first : seen due (r ∷ rs) p ≡ seen due rs q = rw here refl in
    see_to-open due (r ∷ rs) p opened ∙ first ∙ sym (see_to-open due rs q opened)

-- so it may be seen to on its own, whether Marks are due or not
pub see_to-then : (due : Bool) (r : Ref) (rs : List Ref) (p : LocalState)
    → (r.node == p.own) ≡ true
    → then (see_to due (r ∷ []) p) (see_to true rs) ≡ see_to true (r ∷ rs) p
see_to-then due r rs p here =
    ⊎_elim {C = then (see_to due (r ∷ []) p) (see_to true rs) ≡ see_to true (r ∷ rs) p}
    (λ opened.
    ap (λ (w : Work). then w (see_to true rs))
    (see_to-own due r [] p opened here ∙ see_to-none due _)
    ∙ sym (see_to-own true r rs p opened here))
    (λ shut.
    ap (λ (w : Work). then w (see_to true rs)) (see_to-closed due (r ∷ []) p shut)
    ∙ see_to-closed true rs p shut
    ∙ sym (see_to-closed true (r ∷ rs) p shut))
    (cases_Bool (is_open p))

-- ---- lists of references

pub filled-append : (os qs : List (Option Ref)) → filled (os ++ qs) ≡ filled os ++ filled qs
filled-append [] qs = refl
filled-append (o ∷ os) qs =
    ap (λ (rs : List Ref). option_to_list o ++ rs) (filled-append os qs)
    ∙ sym (append_assoc (option_to_list o) (filled os) (filled qs))

pub make_all_grey-append : (own cycle : ℕ) (h : Heap) (rs us : List Ref)
    → make_all_grey own cycle h (rs ++ us) ≡ make_all_grey own cycle
    (make_all_grey own cycle h rs) us
make_all_grey-append own cycle h [] us = refl
make_all_grey-append own cycle h (r ∷ rs) us =
    make_all_grey-append own cycle (cond (r.node == own) (make_grey cycle h r) h) rs us

-- a property of all references is one of those among them that weren't asked for
pub unasked-all : (P : Ref → Type 0) (own : ℕ) (asked rs : List Ref) → AllByRecursion P rs
    → AllByRecursion P (unasked own asked rs)
unasked-all P own asked [] all = tt
unasked-all P own asked (r ∷ rs) all =
    cond_both (r.node == own || is_in r asked)
    (unasked own asked rs)
    (r ∷ unasked own (asked ++ r ∷ []) rs)
    (AllByRecursion P)
    (λ _. unasked-all P own asked rs all.1)
    (λ _. (all.0, unasked-all P own (asked ++ r ∷ []) rs all.1))

-- references are asked for one after another
pub unasked-append : (own : ℕ) (asked rs us : List Ref) → unasked own asked (rs ++ us)
    ≡ unasked own asked rs ++ unasked own (asked ++ unasked own asked rs) us
unasked-append own asked [] us = ap (λ (x : List Ref). unasked own x us) (sym (append-nil asked))
unasked-append own asked (r ∷ rs) us =
    ⊎_elim {C = unasked own asked ((r ∷ rs) ++ us)
    ≡ unasked own asked (r ∷ rs) ++ unasked own (asked ++ unasked own asked (r ∷ rs)) us}
    (λ passed. rw (passed) (unasked-append own asked rs us))
    (λ new. rw (new)
    (ap (λ (x : List Ref). r ∷ x)
    (unasked-append own (asked ++ r ∷ []) rs us
    ∙ ap (λ (x : List Ref). unasked own (asked ++ r ∷ []) rs ++ unasked own x us)
    (append_assoc asked (r ∷ []) (unasked own (asked ++ r ∷ []) rs)))))
    (cases_Bool (r.node == own || is_in r asked))
