-- Moves one after the other.
use Rattle.std.proofs.Common.{◌≡◌, ◌==◌, ℕ, zero, suc, ◌+◌, ◌<◌, ◌≤◌, List, Option, Result, Ok, Err, refl, subst, sym, arith}
use Rattle.std.proofs.lemmas.Bool.{ne_eqb}
use Rattle.c_values.specs.declared.fault.Fault.{Fault}
use Rattle.ids.specs.declared.limits.TheConstants.{WINDOW}
use Rattle.c_handles.specs.Collecting.{Each, HasUnsaved, Move, Round, Rounds, Unless}
use Rattle.c_handles.specs.declared.seated.SeatedCell.{SeatedCell}

module _ (Does : ℕ → Move) where
  -- the last of these moves
  last : (k j : ℕ) (old mid new : List (Option SeatedCell)) (s : Result (Unit {0}) Fault)
      → mid ≡ old → j ≡ k → Does j mid new s → Each Does k (suc zero) old new s
  last k j old mid new (Ok u) same at does = (
    new,
    Ok tt,
    subst (λ i. Does i old new (Ok tt)) at
        (subst (λ now. Does j now new (Ok tt)) same does),
    (refl, refl),
  )
  last k j old mid new (Err f) same at does = (
    new,
    Err f,
    subst (λ i. Does i old new (Err f)) at
        (subst (λ now. Does j now new (Err f)) same does),
    (refl, refl),
  )

  -- one more
  pub each_more : (k i j : ℕ) (old mid new : List (Option SeatedCell))
      (s : Result (Unit {0}) Fault) → Each Does k i old mid (Ok tt) → j ≡ k + i
      → Does j mid new s → Each Does k (suc i) old new s
  each_more k zero j old mid new s stays at does =
      last k j old mid new s stays.0 (omega (arith, at)) does
  each_more k (suc i) j old mid new s (now, Ok u, first, rest) at does = (
    now,
    Ok tt,
    first,
    each_more (k + 1) i j now mid new s rest (omega (arith, at)) does,
  )
  each_more k (suc i) j old mid new s (now, Err f, first, rest) at does = absurd cc

  pub each_next : (i : ℕ) (old mid new : List (Option SeatedCell)) → Each Does 0 i old mid (Ok tt)
      → Does i mid new (Ok tt) → Each Does 0 (i + 1) old new (Ok tt)
  each_next i old mid new each does =
      subst (λ n. Each Does 0 n old new (Ok tt)) {x = suc i} {y = i + 1} (omega arith)
      (each_more 0 i i old mid new (Ok tt) each (omega arith) does)

  -- the others are left out
  longer : (k i n : ℕ) (old new : List (Option SeatedCell)) (f : Fault) → i ≤ n
      → Each Does k i old new (Err f) → Each Does k n old new (Err f)
  longer k zero n old new f less stays = absurd cc
  longer k (suc i) zero old new f less each = absurd (omega (arith, less))
  longer k (suc i) (suc n) old new f less (now, Ok u, first, rest) =
      (now, Ok tt, first, longer (k + 1) i n now new f (omega (arith, less)) rest)
  longer k (suc i) (suc n) old new f less (now, Err g, first, rest) = (now, Err g, first, rest)

  -- one failed
  pub each_failed : (i n : ℕ) (old mid new : List (Option SeatedCell)) (f : Fault)
      → Each Does 0 i old mid (Ok tt) → i < n → Does i mid new (Err f)
      → Each Does 0 n old new (Err f)
  each_failed i n old mid new f each less does =
      longer 0 (suc i) n old new f (omega (arith, less))
      (each_more 0 i i old mid new (Err f) each (omega arith) does)

  -- all were made
  pub each_all : (i n : ℕ) (old new : List (Option SeatedCell)) → Each Does 0 i old new (Ok tt)
      → i ≡ n → Each Does 0 n old new (Ok tt)
  each_all i n old new each at = subst (λ k. Each Does 0 k old new (Ok tt)) at each

-- of another node than this one
pub of_other : (Does : Move) (j k : ℕ) (old new : List (Option SeatedCell))
    (s : Result (Unit {0}) Fault) → (j ≡ k → ⊥) → Does old new s → Unless (j == k) Does old new s
of_other Does j k old new s apart does =
    subst (λ b. Unless b Does old new s) (sym (ne_eqb j k apart)) does

-- ---- Rounds

module _ (n i : ℕ) (old mid : List (Option SeatedCell))
    (each : Each (λ j. Round n) 0 i old mid (Ok tt)) where
  -- one failed
  pub round_failed : (new : List (Option SeatedCell)) (f : Fault) → i < WINDOW + 1
      → Round n mid new (Err f) → Rounds n old new (Err f)
  round_failed new f less does = record {
    count = i + 1;
    some = omega arith;
    few = omega (arith, less);
    each = each_failed (λ j. Round n) i (i + 1) old mid new f each (omega arith) does;
    fewer = λ is fewer. absurd cc;
  }

  -- a cell has to be saved after one
  pub round_stopped : (now new : List (Option SeatedCell)) → i < WINDOW + 1
      → Round n mid now (Ok tt) → new ≡ now → HasUnsaved now → Rounds n old new (Ok tt)
  round_stopped now new less does same unsaved = record {
    count = i + 1;
    some = omega arith;
    few = omega (arith, less);
    each = subst (λ cells. Each (λ j. Round n) 0 (i + 1) old cells (Ok tt)) (sym same)
        (each_next (λ j. Round n) i old mid now each does);
    fewer = λ is fewer. subst HasUnsaved (sym same) unsaved;
  }

  pub round_next : (now new : List (Option SeatedCell)) → Round n mid now (Ok tt) → new ≡ now
      → Each (λ j. Round n) 0 (i + 1) old new (Ok tt)
  round_next now new does same =
      subst (λ cells. Each (λ j. Round n) 0 (i + 1) old cells (Ok tt)) (sym same)
      (each_next (λ j. Round n) i old mid now each does)

  -- all were made
  pub all_rounds : i ≡ WINDOW + 1 → Rounds n old mid (Ok tt)
  all_rounds is = record {
    count = i;
    some = omega (arith, is);
    few = omega (arith, is);
    each = each;
    fewer = λ ok less. absurd (omega (arith, is, less));
  }
