-- Entries are taken out of a list in place: what is left moves to the front.
use Rattle.std.proofs.Common.{◌≡◌, ℕ, suc, ◌+◌, ◌<◌, ◌≤◌, ◌++◌, Bool, List, [], ◌∷◌, cond, length, take, drop, slice_index_or, slice_set, inl, inr, refl, sym, ap, subst, ◌∙◌, arith, append_assoc, append-nil}
use Rattle.std.specs.Prelude.{filter}
use Rattle.std.proofs.lemmas.Bool.{cases_Bool}
use Rattle.std.proofs.lemmas.List.{length-append, length-take-le, take-append-drop}
use Rattle.std.proofs.lemmas.List.Elements.{filter-append}
use Rattle.std.proofs.Math.Seq.{get_or-append_seam, set-append_seam}
use Rattle.model.specs.State.{Heap}
use Rattle.c_values.specs.declared.fields.CFreed.{CFreed}
use Rattle.c_handles.specs.Candidates.{Leaves, is_left_out}

-- The entries behind the first `before` are looked at, up to a place. What is left of them is
-- behind the first `left`, in a list whose entries from that place on are as they were.
pub record IsLeaving (h : Heap) (before left place : ℕ) (old now : List CFreed) : Type 0 where
  pub head : List CFreed
  pub done : List CFreed
  pub junk : List CFreed
  pub rest : List CFreed
  pub was : old ≡ head ++ (done ++ rest)
  pub first : length head ≡ before
  pub at : place ≡ before + length done
  pub is : now ≡ (head ++ filter (is_left_out h) done) ++ (junk ++ rest)
  pub many : left ≡ length (head ++ filter (is_left_out h) done)
  pub size : left + length junk ≡ place

pub leaving_none : {h : Heap} {before : ℕ} {old : List CFreed} → before ≤ length old
    → IsLeaving h before before before old old
leaving_none {h} {before} {old} within =
    let head : List CFreed = take before old in
    let same : length head ≡ before = length-take-le before old within in
    record {
      head = head;
      done = [];
      junk = [];
      rest = drop before old;
      was = sym (take-append-drop before old);
      first = same;
      at = omega arith;
      is = sym (ap (λ (es : List CFreed). es ++ drop before old) (append-nil head)
          ∙ take-append-drop before old);
      many = sym (ap length (append-nil head) ∙ same);
      size = omega arith;
    }

-- the entry behind the first ones is the first of the others
first-behind : (xs ys : List CFreed) (f : CFreed) → length xs < length (xs ++ ys)
    → f ≡ slice_index_or (xs ++ ys) (length xs) f → ys ≡ f ∷ drop 1 ys
first-behind xs [] f less is =
    let none : length (xs ++ []) ≡ length xs = ap length (append-nil xs) in
    absurd (omega (arith, less, none))
first-behind xs (y ∷ ys) f less is =
    let same : f ≡ y = is ∙ get_or-append_seam xs y ys f in
    ap (λ (x : CFreed). x ∷ ys) (sym same)

-- an entry moves over the first one that isn't left
moved-over : (front junk rest : List CFreed) (f : CFreed)
    → (js : List CFreed) × (length js ≡ length junk)
    × (slice_set (front ++ (junk ++ f ∷ rest)) (length front) f
    ≡ (front ++ f ∷ []) ++ (js ++ rest))
moved-over front [] rest f = (
  [],
  refl,
  set-append_seam front f rest f ∙ sym (append_assoc front (f ∷ []) rest),
)
moved-over front (j ∷ junk) rest f = (
  junk ++ f ∷ [],
  length-append junk (f ∷ []) ∙ (let e : length junk + 1 ≡ suc (length junk) = omega arith in e),
  set-append_seam front j (junk ++ f ∷ rest) f
      ∙ ap (λ (es : List CFreed). front ++ f ∷ es) (sym (append_assoc junk (f ∷ []) rest))
      ∙ sym (append_assoc front (f ∷ []) ((junk ++ f ∷ []) ++ rest)),
)

module _ {h : Heap} {before left place : ℕ} {old now : List CFreed}
    (so : IsLeaving h before left place old now) where
  abbrev p : CFreed → Bool
  p = is_left_out h

  abbrev front : List CFreed
  front = so.head ++ filter p so.done

  apart : now ≡ (front ++ so.junk) ++ so.rest
  apart = so.is ∙ sym (append_assoc front so.junk so.rest)

  reach : length (front ++ so.junk) ≡ place
  reach =
      let many = so.many in
      let size = so.size in
      length-append front so.junk ∙ (let e : length front + length so.junk ≡ place =
      omega (arith, many, size) in e)

  pub leaving_count : length now ≡ length old
  leaving_count =
      let a : length now ≡ length (front ++ so.junk) + length so.rest =
      ap length apart ∙ length-append (front ++ so.junk) so.rest in
      let b : length old ≡ length so.head + (length so.done + length so.rest) =
      ap length so.was ∙ length-append so.head (so.done ++ so.rest)
      ∙ ap (λ (n : ℕ). length so.head + n) (length-append so.done so.rest) in
      let c = reach in
      let d = so.first in
      let e = so.at in
      omega (arith, a, b, c, d, e)

  -- one more entry is looked at
  pub leaving_one : {count : ℕ} {next : List CFreed} → place < length now
      → Leaves h place left now count next → IsLeaving h before count (place + 1) old next
  leaving_one {count} {next} less (f, is, counts, moves) =
      let found : so.rest ≡ f ∷ drop 1 so.rest =
      first-behind (front ++ so.junk) so.rest f
      (subst (λ (es : List CFreed). length (front ++ so.junk) < length es) apart
      (let at = reach in omega (arith, less, at)))
      (is ∙ ap (λ (es : List CFreed). slice_index_or es place f) apart
      ∙ ap (λ (n : ℕ). slice_index_or ((front ++ so.junk) ++ so.rest) n f) (sym reach)) in
      let rest : List CFreed = drop 1 so.rest in
      let done : List CFreed = so.done ++ f ∷ [] in
      let was : old ≡ so.head ++ (done ++ rest) =
      so.was
      ∙ ap (λ (es : List CFreed). so.head ++ (so.done ++ es)) found
      ∙ ap (λ (es : List CFreed). so.head ++ es) (sym (append_assoc so.done (f ∷ []) rest)) in
      let at : place + 1 ≡ before + length done =
      let a = so.at in
      let b = length-append so.done (f ∷ []) in
      omega (arith, a, b) in
      let held : now ≡ front ++ (so.junk ++ f ∷ rest) =
      so.is ∙ ap (λ (es : List CFreed). front ++ (so.junk ++ es)) found in
      elim (cases_Bool (p f)) [
        | inl goes ↦
            let fronts : so.head ++ filter p done ≡ front ++ f ∷ [] =
            ap (λ (es : List CFreed). so.head ++ es)
            (filter-append p so.done (f ∷ [])
            ∙ ap (λ (b : Bool). filter p so.done ++ cond b (f ∷ []) []) goes)
            ∙ sym (append_assoc so.head (filter p so.done) (f ∷ [])) in
            let moved = moved-over front so.junk rest f in
            let counted : count ≡ left + 1 =
            counts ∙ ap (λ (b : Bool). cond b (left + 1) left) goes in
            let now-is : next ≡ slice_set now left f =
            moves ∙ ap (λ (b : Bool). cond b (slice_set now left f) now) goes in
            record {
              head = so.head;
              done = done;
              junk = moved.0;
              rest = rest;
              was = was;
              first = so.first;
              at = at;
              is = now-is
                  ∙ ap (λ (es : List CFreed). slice_set es left f) held
                  ∙ ap (λ (n : ℕ). slice_set (front ++ (so.junk ++ f ∷ rest)) n f) so.many
                  ∙ moved.2
                  ∙ ap (λ (es : List CFreed). es ++ (moved.0 ++ rest)) (sym fronts);
              many = (let a = so.many in
                  let b = ap length fronts in
                  let c = length-append front (f ∷ []) in
                  omega (arith, a, b, c, counted));
              size = (let a = so.size in
                  let b = moved.1 in
                  omega (arith, a, b, counted));
            }
        | inr stays ↦
            let fronts : so.head ++ filter p done ≡ front =
            ap (λ (es : List CFreed). so.head ++ es)
            (filter-append p so.done (f ∷ [])
            ∙ ap (λ (b : Bool). filter p so.done ++ cond b (f ∷ []) []) stays
            ∙ append-nil (filter p so.done)) in
            let counted : count ≡ left =
            counts ∙ ap (λ (b : Bool). cond b (left + 1) left) stays in
            record {
              head = so.head;
              done = done;
              junk = so.junk ++ f ∷ [];
              rest = rest;
              was = was;
              first = so.first;
              at = at;
              is = moves ∙ ap (λ (b : Bool). cond b (slice_set now left f) now) stays
                  ∙ held
                  ∙ ap (λ (es : List CFreed). front ++ es)
                  (sym (append_assoc so.junk (f ∷ []) rest))
                  ∙ ap (λ (es : List CFreed). es ++ ((so.junk ++ f ∷ []) ++ rest)) (sym fronts);
              many = counted ∙ so.many ∙ ap length (sym fronts);
              size = (let a = so.size in
                  let b = length-append so.junk (f ∷ []) in
                  omega (arith, a, b, counted));
            }
      ]
