-- What holds of each state that was saved.
use Rattle.std.proofs.Common.{◌≡◌, ◌⊎◌, ℕ, ◌+◌, ◌<◌, ◌≤◌, Bool, true, false, cond, nat_le, List, [], ◌∷◌, ◌++◌, length, ⊎_elim, inl, inr, ap, sym, subst, refl, ◌∙◌, arith, le_refl, length-append}
use Rattle.std.proofs.lemmas.Bool.{cases_lt, cond-true, cond-false, le-leb, lt-leb}
use Rattle.lineage.specs.Lines.{begun, maker, nobody}
use Rattle.lineage.specs.Runs.{State, forgot, last_or, new_state, opened, process, saved}
use Rattle.lineage.specs.declared.Ancestor.{Ancestor}
use Rattle.lineage.proofs.Lines.{maker-push}
use Rattle.lineage.proofs.Makers.{IsLineOf, begins}

pub last-of : (a b : Ancestor) (chain : List Ancestor) → last_or a (chain ++ b ∷ []) ≡ b
last-of a b [] = refl
last-of a b (c ∷ chain) = last-of c b chain

-- The state's line is one of its chain, whose last process it is that saved it.
pub record IsGood (room : ℕ) (s : State) : Type 0 where
  pub line : IsLineOf room s.line s.chain s.saves s.known_from
  pub own : (process s).run ≤ s.saves
  pub last : (save : ℕ) → (process s).run ≤ save → maker s.chain save ≡ (process s).nonce
  pub fresh : length s.chain ≡ 0 → s.saves ≡ 0

-- who made the last saves, after a process began
pub last-made : (chain : List Ancestor) (a : Ancestor) (save : ℕ) → a.run ≤ save
    → maker (chain ++ a ∷ []) save ≡ a.nonce
last-made chain a save within =
    maker-push chain a 0 save ∙ cond-true (nat_le a.run save) _ _ (le-leb a.run save within)

-- and before
pub earlier-made : (chain : List Ancestor) (a : Ancestor) (save : ℕ) → save < a.run
    → maker (chain ++ a ∷ []) save ≡ maker chain save
earlier-made chain a save before =
    maker-push chain a 0 save ∙ cond-false (nat_le a.run save) _ _ (lt-leb a.run save before)

pub new-good : (room : ℕ) → IsGood room new_state
new-good room = record {
  line = record {
    told = record {
      tells = λ save. inl (nobody-made save);
      sorted = (le_refl _, tt);
      below = le_refl _;
    };
    exact = λ many few save known. nobody-made save;
  };
  own = le_refl _;
  last = λ save within. refl;
  fresh = λ e. refl;
}
  where
    nobody-made : (save : ℕ) → maker (nobody ∷ []) save ≡ 0
    nobody-made save = by (nat_le 0 save)
      where
        by : (b : Bool) → ◌≡◌ {A = ℕ} (cond b 0 0) 0
        by true = refl
        by false = refl

pub opened-good : {room : ℕ} {s : State} (nonce : ℕ) → IsGood room s
    → IsGood room (opened room nonce s)
opened-good {room} {s} nonce is =
    let a : Ancestor = record { nonce = nonce; run = s.saves + 1 } in
    let own : process (opened room nonce s) ≡ a = last-of nobody a s.chain in
    record {
      line = begins a is.line (omega arith);
      own = subst (λ (b : Ancestor). b.run ≤ s.saves + 1) (sym own) (le_refl _);
      last = λ save within.
          last-made s.chain a save (subst (λ (b : Ancestor). b.run ≤ save) own within)
          ∙ ap (λ (b : Ancestor). b.nonce) (sym own);
      fresh = λ none. absurd (let long = length-append s.chain (a ∷ []) in
          omega (arith, none, long));
    }

pub saved-good : {room : ℕ} {s : State} → 0 < length s.chain → IsGood room s
    → IsGood room (saved s)
saved-good {room} {s} some is = record {
  line = record {
    told = record {
      tells = is.line.told.tells;
      sorted = is.line.told.sorted;
      below = let few = is.line.told.below in omega (arith, few);
    };
    exact = is.line.exact;
  };
  own = let few = is.own in omega (arith, few);
  last = is.last;
  fresh = λ none. absurd (omega (arith, none, some));
}

pub forgot-good : {room : ℕ} {s : State} → 0 < length s.chain → IsGood room s
    → IsGood room (forgot room s)
forgot-good {room} {s} some is =
    let a : Ancestor = process s in
    let new : IsLineOf room (nobody ∷ []) [] 0 0 = (new-good room).line in
    let one : IsLineOf room (begun room (nobody ∷ []) a) ([] ++ a ∷ []) a.run 0 =
    begins a new (omega arith) in
    record {
      line = record {
        told = record {
          tells = λ save.
              ⊎_elim
              {C = (maker (begun room (nobody ∷ []) a) save ≡ 0)
              ⊎ (maker (begun room (nobody ∷ []) a) save ≡ maker s.chain save)}
              (λ none. inl none)
              (λ same. ⊎_elim
              {C = (maker (begun room (nobody ∷ []) a) save ≡ 0)
              ⊎ (maker (begun room (nobody ∷ []) a) save ≡ maker s.chain save)}
              (λ before. inl (same ∙ earlier-made [] a save before))
              (λ within. inr (same ∙ last-made [] a save within ∙ sym (is.last save within)))
              (cases_lt save a.run))
              (one.told.tells save);
          sorted = one.told.sorted;
          below = let few = one.told.below in let own = is.own in omega (arith, few, own);
        };
        exact = λ many few save known.
            one.exact many few save (omega arith) ∙ last-made [] a save known
            ∙ sym (is.last save known);
      };
      own = is.own;
      last = is.last;
      fresh = is.fresh;
    }
