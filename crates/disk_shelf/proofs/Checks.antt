-- What a comparison with seals has found.
use Rattle.std.proofs.Common.{◌≡◌, ◌∙◌, ℕ, ◌+◌, ◌≤◌, ◌++◌, ◌∷◌, [], List, Option, None, Some}
use Rattle.std.proofs.Common.{ap, arith, drop, inl, inr, length, length-drop, subst, sym, take}
use Rattle.std.proofs.lemmas.List.{drop-drop, length-take, take-append-drop}
use Rattle.disk_shelf.specs.Seals.{AreSealed, first_of, IsEndSealed, IsSealed, link, SomeSealed}
use Rattle.disk_shelf.specs.Shelf.{recorded}
use Rattle.disk_shelf.proofs.Quiet.{same_some}
use Rattle.disk_shelf.proofs.Seals.{seal_length}

-- two parts make the whole
pub parted : (n : ℕ) (l first second : List ℕ) → take n l ≡ first → drop n l ≡ second →
    l ≡ first ++ second
parted n l first second front back =
    sym (take-append-drop n l) ∙ ap (λ x. x ++ drop n l) front ∙ ap (λ x. first ++ x) back

-- as many bytes as were taken are there
pub taken_inside : (n : ℕ) (l : List ℕ) → length (take n l) ≡ n → n ≤ length l
taken_inside n l is = omega (arith, is, length-take n l)

-- an area that is too short has no seal behind its image
pub seal_inside : (held : List ℕ) (sealed : IsSealed held) →
    40 + length sealed.image ≤ length held
seal_inside held sealed =
    let behind = drop (8 + length sealed.image) held in
    let inside = taken_inside 32 behind (ap length sealed.seal ∙ seal_length sealed.image) in
    omega (arith, inside, length-drop (8 + length sealed.image) held)

-- what is behind the byte at an offset
pub behind_here : (at : ℕ) {start : ℕ} {held held' : List ℕ} → start ≡ at + 1 → held' ≡ held →
    drop start held' ≡ drop 1 (drop at held)
behind_here at {start} {held} from same =
    ap (drop start) same ∙ ap (λ n. drop n held) from ∙ sym (drop-drop 1 at held)

-- what the first gate says
gate_apart : {x y : ℕ} {o : Option ℕ} → o ≡ Some x → o ≡ Some y → (x ≡ y → ⊥) → ⊥
gate_apart one other apart = apart (same_some (sym one ∙ other))

pub no_gate : (digest rest : List ℕ) → first_of rest ≡ None → SomeSealed digest rest → ⊥
no_gate digest rest none sealed = by sealed.0 sealed.1
  where
    never : {x : ℕ} → first_of rest ≡ Some x → ⊥
    never is =
        let both : ◌≡◌ {A = Option ℕ} None (Some _) = sym none ∙ is in absurd cc

    by : (batches : List (List ℕ)) → AreSealed batches digest rest → ⊥
    by [] (inl one) = never one
    by [] (inr zero) = never zero.0
    by (batch ∷ more) all = never all.0

pub other_gate : (digest rest : List ℕ) (gate : ℕ) → first_of rest ≡ Some gate →
    (gate ≡ 1 → ⊥) → (gate ≡ 0 → ⊥) → (first_of rest ≡ Some 0xFF → ⊥) → SomeSealed digest rest → ⊥
other_gate digest rest gate is one zero sealed_one sealed = by sealed.0 sealed.1
  where
    by : (batches : List (List ℕ)) → AreSealed batches digest rest → ⊥
    by [] (inl opens) = gate_apart is opens one
    by [] (inr ends) = gate_apart is ends.0 zero
    by (batch ∷ more) all = sealed_one all.0

pub end_gate : (digest rest : List ℕ) → first_of rest ≡ Some 0 → SomeSealed digest rest →
    IsEndSealed digest (drop 1 rest)
end_gate digest rest is sealed = by sealed.0 sealed.1
  where
    by : (batches : List (List ℕ)) → AreSealed batches digest rest →
        IsEndSealed digest (drop 1 rest)
    by [] (inl opens) = absurd (gate_apart is opens (λ e. omega (arith, e)))
    by [] (inr ends) = ends.1
    by (batch ∷ more) all = absurd (gate_apart is all.0 (λ e. omega (arith, e)))

pub no_sealed_batch : (digest rest : List ℕ) → first_of rest ≡ Some 0xFF →
    recorded (drop 1 rest) ≡ None → SomeSealed digest rest → ⊥
no_sealed_batch digest rest is none sealed = by sealed.0 sealed.1
  where
    by : (batches : List (List ℕ)) → AreSealed batches digest rest → ⊥
    by [] (inl opens) = gate_apart is opens (λ e. omega (arith, e))
    by [] (inr ends) = gate_apart is ends.0 (λ e. omega (arith, e))
    by (batch ∷ more) all =
        let both : ◌≡◌ {A = Option (List ℕ)} None (Some batch) = sym none ∙ all.1 in absurd cc

-- a batch with a seal is in front of the others
pub sealed_more : (digest batch rest : List ℕ) → first_of rest ≡ Some 0xFF →
    recorded (drop 1 rest) ≡ Some batch →
    SomeSealed (link digest batch) (drop (9 + length batch) rest) → SomeSealed digest rest
sealed_more digest batch rest is here others = (batch ∷ others.0, (is, here, others.1))

pub sealed_less : (digest batch rest : List ℕ) → first_of rest ≡ Some 0xFF →
    recorded (drop 1 rest) ≡ Some batch → SomeSealed digest rest →
    SomeSealed (link digest batch) (drop (9 + length batch) rest)
sealed_less digest batch rest is here sealed = by sealed.0 sealed.1
  where
    by : (batches : List (List ℕ)) → AreSealed batches digest rest →
        SomeSealed (link digest batch) (drop (9 + length batch) rest)
    by [] (inl opens) = absurd (gate_apart is opens (λ e. omega (arith, e)))
    by [] (inr ends) = absurd (gate_apart is ends.0 (λ e. omega (arith, e)))
    by (x ∷ more) all =
        let same : x ≡ batch = same_some (sym all.1 ∙ here) in
        (more, subst (λ b. AreSealed more (link digest b) (drop (9 + length b) rest)) same all.2)

-- the batches that were compared, from one offset of an area to another
pub record Compared (start at : ℕ) (first digest held : List ℕ) : Type 0 where
  pub forth : SomeSealed digest (drop at held) → SomeSealed first (drop start held)
  pub back : SomeSealed first (drop start held) → SomeSealed digest (drop at held)

pub compared_more : {start at next : ℕ} {first digest new held batch : List ℕ} →
    Compared start at first digest held → first_of (drop at held) ≡ Some 0xFF →
    recorded (drop 1 (drop at held)) ≡ Some batch → next ≡ at + (9 + length batch) →
    new ≡ link digest batch → Compared start next first new held
compared_more {at = at} {next} {digest = digest} {new} {held} {batch} so_far is here from one =
    let rest = drop at held in
    let moved : drop next held ≡ drop (9 + length batch) rest =
    ap (λ n. drop n held) from ∙ sym (drop-drop (9 + length batch) at held) in
    record {
      forth = λ s. so_far.forth (sealed_more digest batch rest is here
          (subst (SomeSealed (link digest batch)) moved
          (subst (λ d. SomeSealed d (drop next held)) one s)));
      back = λ s. subst (λ d. SomeSealed d (drop next held)) (sym one)
          (subst (SomeSealed (link digest batch)) (sym moved)
          (sealed_less digest batch rest is here (so_far.back s)));
    }
