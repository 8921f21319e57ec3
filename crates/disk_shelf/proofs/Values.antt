-- To which values batches lead.
use Rattle.std.proofs.Common.{◌≡◌, ℕ, ◌+◌, Bool, true, false, List, [], ◌∷◌, ◌++◌}
use Rattle.std.proofs.Common.{length, drop, Option, Some, Vec, refl, sym, ◌∙◌, subst}
use Rattle.std.specs.declared.alloc.Global.{Global}
use Rattle.disk_shelf.specs.Logs.{HasLog, IsNext, LeadAll}
use Rattle.disk_shelf.proofs.Logs.{one_log, read_one, Read}
use Rattle.disk_shelf.proofs.Quiet.{same_some}

-- these batches were read, from the one offset of an area to the other, and lead from the one value
-- to the other
pub record Performed {V : Type 0} (leads : List ℕ → V → V → Type 0) (at end : ℕ) (held : List ℕ)
    (first mid : V) : Type 0 where
  pub batches : List (List ℕ)
  pub read : Read at end batches held
  pub led : LeadAll leads batches first mid

module _ {V : Type 0} {leads : List ℕ → V → V → Type 0}
    (one_end : (batch : List ℕ) (first v w : V) → leads batch first v → leads batch first w → v ≡ w)
  where
    -- after some batches, the others lead on
    lead_on : (batches more : List (List ℕ)) (first mid last : V) →
        LeadAll leads batches first mid →
        LeadAll leads (batches ++ more) first last → LeadAll leads more mid last
    lead_on [] more first mid last some all = subst (λ v. LeadAll leads more v last) some all
    lead_on (batch ∷ rest) more first mid last some all =
        lead_on rest more all.0 mid last
        (subst (λ v. LeadAll leads rest v mid)
        (one_end batch first some.0 all.0 some.1 all.1) some.2)
        all.2

    -- in any log that leads on, the batch behind those that were performed leads to a value
    pub next_led : {at end : ℕ} {held : List ℕ} {first mid : V} →
        Performed leads at end held first mid → (batch : Vec ℕ Global) →
        IsNext (drop end held) (Some batch) → (all : List (List ℕ)) (last : V) →
        HasLog all (drop at held) → LeadAll leads all first last → (v : V) × leads batch.items mid v
    next_led {at} {end} {held} {first} {mid} done batch next all last log led =
        let left = done.read.back all log in
        let same : all ≡ done.batches ++ left.0 =
        one_log all (done.batches ++ left.0) (drop at held) log (done.read.ahead left.0 left.1) in
        by left.0 left.1 (lead_on done.batches left.0 first mid last done.led
        (subst (λ l. LeadAll leads l first last) same led))
      where
        by : (more : List (List ℕ)) → HasLog more (drop end held) → LeadAll leads more mid last →
            (v : V) × leads batch.items mid v
        by [] log led =
            let both : ◌≡◌ {A = Option Bool} (Some true) (Some false) =
            sym next.0 ∙ log in absurd cc
        by (x ∷ more) log led =
            let one : x ≡ batch.items = same_some (sym log.1 ∙ next.1) in
            (led.0, subst (λ l. leads l mid led.0) one led.1)

-- what is led to is fresh
pub fresh_led : {V : Type 0} (leads : List ℕ → V → V → Type 0) (fresh : V → Type 0) →
    ((batch : List ℕ) (v w : V) → leads batch v w → fresh w) → (batches : List (List ℕ))
    (first last : V) → fresh first → LeadAll leads batches first last → fresh last
fresh_led leads fresh led_fresh [] first last is led = subst fresh led is
fresh_led leads fresh led_fresh (batch ∷ more) first last is led =
    fresh_led leads fresh led_fresh more led.0 last (led_fresh batch first led.0 led.1) led.2

-- one more batch leads to the next value
pub lead_more : {V : Type 0} (leads : List ℕ → V → V → Type 0) (batches : List (List ℕ))
    (batch : List ℕ) (first mid last : V) → LeadAll leads batches first mid →
    leads batch mid last → LeadAll leads (batches ++ batch ∷ []) first last
lead_more leads [] batch first mid last led one =
    (last, subst (λ v. leads batch v last) (sym led) one, refl)
lead_more leads (x ∷ rest) batch first mid last led one =
    (led.0, led.1, lead_more leads rest batch led.0 mid last led.2 one)

-- one more batch was performed
pub performed_more : {V : Type 0} {leads : List ℕ → V → V → Type 0} {at end next : ℕ}
    {held : List ℕ} {first mid last : V} → Performed leads at end held first mid →
    (batch : Vec ℕ Global) → IsNext (drop end held) (Some batch) → leads batch.items mid last →
    next ≡ end + (9 + length batch.items) → Performed leads at next held first last
performed_more {leads = leads} {first = first} {mid} {last} done batch here led from = record {
  batches = done.batches ++ batch.items ∷ [];
  read = read_one done.read here.0 here.1 from;
  led = lead_more leads done.batches batch.items first mid last done.led led;
}
