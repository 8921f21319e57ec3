-- What is known of another node's process, packet by packet.
use Rattle.std.proofs.Common.{◌≡◌, ◌≢◌, ◌⊎◌, ℕ, ◌<◌, ◌≤◌, ◌==◌, ◌||◌, Bool, true, false, cond, nat_le, nat_lt, List, [], ◌∷◌, ⊎_elim, inl, inr, ap, sym, subst, refl, ◌∙◌, arith, le_refl}
use Rattle.std.proofs.Math.Bool.{or-true}
use Rattle.std.proofs.lemmas.Bool.{cond-true, cond-false, cond_both, eq-eqb, eqb-true, le-leb, leb-true, lt-leb, ltb-false, leb-false, ne_eqb}
use Rattle.lineage.specs.Laws.{LatestAlone, NeverBack, NewestIsMet}
use Rattle.lineage.specs.Senders.{AreInOrder, IsSame, Packet, goes_on, known_after, known_by, sender_of, word}
use Rattle.lineage.specs.declared.senders.Process.{Process}
use Rattle.lineage.specs.declared.senders.Sender.{Sender}
use Rattle.lineage.specs.declared.senders.Sender.TheVariants.{Behind, Later, Latest, Outdated}

abbrev IsOn : Process → Process → Type 0
IsOn p q = IsSame p q ⊎ (p.saves < q.run)

same-again : (p : Process) → IsSame p p
same-again p = record { nonce = refl; run = refl; saves = le_refl _ }

-- one packet
on-one : (known sender : Process) (heard : ℕ) → sender.run ≤ sender.saves
    → IsOn known (known_after known sender (sender_of known sender heard))
    × (known.saves ≤ (known_after known sender (sender_of known sender heard)).saves)
on-one known sender heard order =
    cond_both (sender.nonce == known.nonce)
    (cond (nat_lt sender.saves known.saves) Behind Latest)
    (cond (goes_on known heard) (cond (nat_le sender.run known.saves) Outdated Later) Outdated) Is
    (λ _. cond_both (nat_lt sender.saves known.saves) Behind Latest Is
    (λ _. (inl (same-again known), le_refl _))
    (λ many.
    let more = ltb-false sender.saves known.saves many in
    (inl (record { nonce = refl; run = refl; saves = more }), more)))
    (λ _. cond_both (goes_on known heard) (cond (nat_le sender.run known.saves) Outdated Later)
    Outdated Is
    (λ _. cond_both (nat_le sender.run known.saves) Outdated Later Is
    (λ _. (inl (same-again known), le_refl _))
    (λ later.
    let past = leb-false sender.run known.saves later in
    (inr past, omega (arith, past, order))))
    (λ _. (inl (same-again known), le_refl _)))
  where
    Is : Sender → Type 0
    Is s =
        IsOn known (known_after known sender s)
        × (known.saves ≤ (known_after known sender s).saves)

on-both : (p q r : Process) → IsOn p q → p.saves ≤ q.saves → IsOn q r → IsOn p r
on-both p q r one more (inr later) = inr (omega (arith, more, later))
on-both p q r (inl first) more (inl second) =
    let few = second.saves in
    inl (record {
      nonce = second.nonce ∙ first.nonce;
      run = second.run ∙ first.run;
      saves = omega (arith, more, few);
    })
on-both p q r (inr later) more (inl second) =
    inr (subst (λ (k : ℕ). p.saves < k) (sym second.run) later)

on-all : (known : Process) (ps : List Packet) → AreInOrder ps → IsOn known (known_by known ps)
on-all known [] order = inl (same-again known)
on-all known (p ∷ ps) order =
    let next = known_after known p.sender (sender_of known p.sender p.heard) in
    let one = on-one known p.sender p.heard order.0 in
    on-both known next (known_by next ps) one.0 one.1 (on-all next ps order.1)

pub never-back : NeverBack
never-back known ps order = on-all known ps order

pub latest-alone : LatestAlone
latest-alone known ps p other earlier =
    let q = known_by known ps in
    cond-false _ _ _ (ne_eqb p.sender.nonce q.nonce other)
    ∙ cond_both (goes_on q p.heard) (cond (nat_le p.sender.run q.saves) Outdated Later) Outdated
    (λ (s : Sender). s ≡ Outdated)
    (λ _. cond-true _ Outdated Later (le-leb p.sender.run q.saves earlier)) (λ _. refl)

pub newest-is-met : NewestIsMet
newest-is-met known ps p other later heard =
    let q = known_by known ps in
    let on : goes_on q p.heard ≡ true =
    ap (λ (b : Bool). (q.nonce == 0) || ((p.heard == 0) || b)) (eq-eqb p.heard (word q) heard)
    ∙ ap (λ (b : Bool). (q.nonce == 0) || b) (or-true (p.heard == 0)) ∙ or-true (q.nonce == 0) in
    cond-false _ _ _ (ne_eqb p.sender.nonce q.nonce other) ∙ cond-true _ _ _ on
    ∙ cond-false _ Outdated Later (lt-leb p.sender.run q.saves later)
