-- The four kinds of steps on a mailbox are allowed.
use Rattle.std.proofs.Common.{◌≡◌, ℕ, ◌/◌, ◌%◌, ◌<◌, true, List, ◌∷◌, length, get_or, Some, refl, sym, ap, ◌∙◌, subst, eqb}
use mathlib.Core.Option.{none}
use prog.Atomic.{either}
use Rattle.atomic_table.specs.Table.{State, Me, step, Act, keeps, takes, gives, carried_after, stepped, Valid, Allows, rest}
use Rattle.atomic_table.proofs.Lists.{exchanged}
use Rattle.msg.specs.Frames.{Plain}
use Rattle.model.specs.World.{World, run, IsInNet}
use Rattle.wire.specs.Lists.{has, found}
use Rattle.wire.specs.Views.{node, Known, notes, claims, takes_in, posts, clears}
use Rattle.wire.specs.Rule.{nodes_of, AreEvents, Holds}
use Rattle.wire.specs.Plays.{Owns, claimed, took, posted, emptied}
use Rattle.wire.specs.Views.{pair_at}
use Rattle.wire.proofs.Boxes.{mailboxes, set-at}
use Rattle.wire.proofs.Stays.{Standing, node-of}
use Rattle.wire.proofs.Supplying.{led}
use Rattle.wire.proofs.MailSteps.{missed, claim-hit, take-hit, post-done, clear-done}

-- what a step on the word m owes
abbrev Goes : {S : Type 0} → (S → List ℕ) → World → State S Known → ℕ → ℕ → Me S Known
    → (Me S Known → Type 0) → ℕ → Type 0
Goes {S} bytes opening s m id me told x =
    (w : Known) × (a : Act S) × Valid s.homes me.1 a
    × Holds bytes opening (stepped s m x id me.1 w a) × told (w, carried_after me.1 a)

module _ {S : Type 0} {bytes : S → List ℕ} {opening : World} where
  pub claims_allowed : {slots m : ℕ} (id : ℕ) (me : Me S Known) → m < mailboxes opening
      → me.0.role ≡ node
      → me.0.me ≡ m / nodes_of opening
      → Allows (Holds bytes opening) slots id me m (λ r. either (eqb r 0) 3 r)
      (claimed (step slots m 0 3 none) me)
  claims_allowed {slots} {m} id me below role me_is s h wide at small =
      let here : Standing bytes opening =
      record { state = s; holds = h; id = id; view = me.0; at = at } in
      let r : ℕ = get_or s.words m 0 in
      let place : ℕ = length (h.mail.visits m) in
      let told = claimed (step slots m 0 3 none) me r in
      exchanged r 0 3 (Goes bytes opening s m id me told)
      (λ hit.
      let c = claim-hit here role m below me_is hit me.1 in (
        claims m place me.0,
        takes m c.0,
        c.1,
        c.2,
        ((λ _. (place, c.0, refl, refl, c.3)), (λ miss. absurd (miss hit))),
      ))
      (λ miss. (
        notes m place r me.0,
        keeps,
        tt,
        missed here role m r below refl,
        ((λ hit. absurd (miss hit)), (λ _. (place, refl, refl))),
      ))

  pub takes_allowed : {slots m : ℕ} (id : ℕ) (me : Me S Known) → m < mailboxes opening
      → me.0.role ≡ node
      → me.0.me ≡ m % nodes_of opening
      → Allows (Holds bytes opening) slots id me m (λ r. either (eqb r 1) 2 r)
      (took bytes (step slots m 1 2 none) me)
  takes_allowed {slots} {m} id me below role me_is s h wide at small =
      let here : Standing bytes opening =
      record { state = s; holds = h; id = id; view = me.0; at = at } in
      let r : ℕ = get_or s.words m 0 in
      let place : ℕ = length (h.mail.visits m) in
      let told = took bytes (step slots m 1 2 none) me r in
      let mine = node-of here role in
      exchanged r 1 2 (Goes bytes opening s m id me told)
      (λ hit.
      let c = take-hit here role m below me_is hit me.1 in
      let w : Known = takes_in m place c.0 me.0 in
      let after : Standing bytes opening =
      record { state = _; holds = c.3; id = id; view = w; at = set-at s.views id w me.0 at } in (
        w,
        takes m c.1,
        c.2,
        c.3,
        (
          (λ _. (
            c.0,
            (
              (place, refl),
              c.7 ∙ ap (λ (k : ℕ). m / k) (sym mine.nodes_is),
              c.8 ∙ sym me_is,
              record {
                log = h.log;
                events = subst (λ (o : World). AreEvents o h.log) (sym mine.opening_is) h.events;
                net = subst (λ (o : World). IsInNet (run o h.log) c.0) (sym mine.opening_is) c.6;
                pair = ap (λ (o : World). pair_at (run o h.log) me.0.me) mine.opening_is
                    ∙ mine.pair_is;
                own = mine.events_are;
              },
              (c.1, refl, c.5, c.4),
              (c.3.log, led after role),
            ),
          )),
          (λ miss. absurd (miss hit)),
        ),
      ))
      (λ miss. (
        notes m place r me.0,
        keeps,
        tt,
        missed here role m r below refl,
        ((λ hit. absurd (miss hit)), (λ _. (place, refl, refl))),
      ))

  -- the bytes are in the first slot
  pub posts_allowed : {slots m : ℕ} (id : ℕ) (me : Me S Known) (x : S) → me.0.role ≡ node
      → has m me.0.filling ≡ true → me.1 ≡ (m, x) ∷ rest me.1 → Owns m me.0 (bytes x)
      → Allows (Holds bytes opening) slots id me m (λ _. 1)
      (λ _. posted bytes (step slots m 1 0 none) me 1)
  posts_allowed {m = m} id me x role filling front owns s h wide at small =
      let here : Standing bytes opening =
      record { state = s; holds = h; id = id; view = me.0; at = at } in
      let place : ℕ = length (h.mail.visits m) in
      let d = post-done here role m filling x (rest me.1) owns in (
        posts m place owns.0 me.0,
        gives,
        tt,
        subst
            (λ (c : List (ℕ × S)).
            Holds bytes opening (stepped s m 1 id c (posts m place owns.0 me.0) gives))
            (sym front) d.0,
        (owns.0, ((place, refl), refl, d.1, (x, front, owns.1))),
      )

  pub clears_allowed : {slots m : ℕ} (id : ℕ) (me : Me S Known) (x : S) (f : Plain)
      → me.0.role ≡ node
      → found m me.0.emptying ≡ Some f → me.1 ≡ (m, x) ∷ rest me.1
      → Allows (Holds bytes opening) slots id me m (λ _. 0)
      (λ _. emptied (step slots m 0 0 none) me 0)
  clears_allowed {m = m} id me x f role emptying front s h wide at small =
      let here : Standing bytes opening =
      record { state = s; holds = h; id = id; view = me.0; at = at } in
      let place : ℕ = length (h.mail.visits m) in
      let d = clear-done here role m f emptying x (rest me.1) in (
        clears m place me.0,
        gives,
        tt,
        subst
            (λ (c : List (ℕ × S)).
            Holds bytes opening (stepped s m 0 id c (clears m place me.0) gives))
            (sym front) d.0,
        ((place, refl), refl, d.1),
      )
