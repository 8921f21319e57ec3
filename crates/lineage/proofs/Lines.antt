-- What a line says after a process began.
use Rattle.std.proofs.Common.{◌≡◌, ℕ, suc, ◌+◌, ◌-◌, ◌<◌, ◌≤◌, ◌/◌, List, [], ◌∷◌, ◌++◌, length, take, drop, set, get_or, ap, sym, refl, ◌∙◌, arith, le_refl, false, cond, nat_le, nat_lt, append_assoc, length-append}
use Rattle.std.specs.List.{remove}
use Rattle.std.proofs.lemmas.List.{take_all, drop-set-lt, take_more, take_more_set}
use Rattle.std.proofs.Math.Seq.{set-append_seam, take-length}
use Rattle.std.proofs.lemmas.Bool.{cond-false, le-ltb}
use Rattle.lineage.specs.Lines.{begun, forgotten, maker, maker_or, nobody, shortened}
use Rattle.lineage.specs.declared.Ancestor.{Ancestor}

module _ (line : List Ancestor) (big : 2 < length line) where
  abbrev middle : ℕ
  middle = length line / 2

  removed : remove (set line middle (forgotten line middle)) (middle + 1) ≡ shortened line
  removed =
      let two : suc (middle + 1) ≡ middle + 2 = omega arith in
      let S : List Ancestor = set line middle (forgotten line middle) in
      ap (λ (k : ℕ). take (middle + 1) S ++ drop k S) two
      ∙ ap (λ (l : List Ancestor). l ++ drop (middle + 2) S)
      (take_more_set line middle (forgotten line middle) (omega (arith, big)))
      ∙ ap (λ (l : List Ancestor). (take middle line ++ forgotten line middle ∷ []) ++ l)
      (drop-set-lt (middle + 2) line middle (forgotten line middle) (omega arith))
      ∙ append_assoc (take middle line) (forgotten line middle ∷ []) (drop (middle + 2) line)

-- the last element is overwritten
last-set : (xs all : List Ancestor) (x p : Ancestor) → all ≡ xs ++ x ∷ []
    → set all (length all - 1) p ≡ xs ++ p ∷ []
last-set xs all x p is =
    let at : length (xs ++ x ∷ []) - 1 ≡ length xs =
    let l = length-append xs (x ∷ []) in omega (arith, l) in
    ap (λ (l : List Ancestor). set l (length l - 1) p) is
    ∙ ap (λ (k : ℕ). set (xs ++ x ∷ []) k p) at
    ∙ set-append_seam xs x [] p

-- A process begins, and there is no room: two ancestors are forgotten.
pub begins-full : (line all : List Ancestor) (count : ℕ) (x p : Ancestor) → 2 < length line
    → length line ≤ count
    → all ≡ remove (set line (length line / 2) (forgotten line (length line / 2)))
    (length line / 2 + 1) ++ x ∷ []
    → take (length (set all (length all - 1) p)) (set all (length all - 1) p)
    ≡ begun (length line) (take count line) p
begins-full line all count x p big full is =
    let there : set all (length all - 1) p ≡ shortened line ++ p ∷ [] =
    last-set (shortened line) all x p
    (is ∙ ap (λ (l : List Ancestor). l ++ x ∷ []) (removed line big)) in
    let none : nat_lt (length line) (length line) ≡ false =
    le-ltb (length line) (length line) (le_refl _) in
    let many : nat_lt (length line) 3 ≡ false = le-ltb (length line) 3 (omega (arith, big)) in
    take-length _ ∙ there
    ∙ sym (cond-false (nat_lt (length line) 3) [] (shortened line ++ p ∷ []) many)
    ∙ sym (cond-false (nat_lt (length line) (length line)) (line ++ p ∷ [])
    (cond (nat_lt (length line) 3) [] (shortened line ++ p ∷ [])) none)
    ∙ ap (λ (l : List Ancestor). begun (length line) l p) (sym (take_all count line full))

-- ---- Who made a save

-- The last one made it, if it had begun by then.
pub maker-push : (line : List Ancestor) (a : Ancestor) (none save : ℕ)
    → maker_or none (line ++ a ∷ []) save
    ≡ cond (nat_le a.run save) a.nonce (maker_or none line save)
maker-push [] a none save = refl
maker-push (b ∷ line) a none save = maker-push line a (cond (nat_le b.run save) b.nonce none) save

-- the last one of the first `at`
pub maker-back : (line : List Ancestor) (at save : ℕ) → 0 < at → at ≤ length line
    → maker (take at line) save
    ≡ cond (nat_le (get_or line (at - 1) nobody).run save) (get_or line (at - 1) nobody).nonce
    (maker (take (at - 1) line) save)
maker-back line at save some inside =
    let before : at ≡ at - 1 + 1 = omega (arith, some) in
    ap (λ (k : ℕ). maker (take k line) save) before
    ∙ ap (λ (l : List Ancestor). maker l save)
    (take_more line (at - 1) nobody (omega (arith, some, inside)))
    ∙ maker-push (take (at - 1) line) (get_or line (at - 1) nobody) 0 save
