-- The list of events in the rule leads to what each node's seat knows. So some list still does
-- after each step of the seat.
use Rattle.std.proofs.Common.{◌≡◌, ℕ, List, sym, ap, ◌∙◌, subst}
use Rattle.std.proofs.Math.Logic.{∥∥₁_map}
use Rattle.msg.specs.Frames.{Plain}
use Rattle.model.specs.declared.step.Step.{Step}
use Rattle.model.specs.World.{World, run, IsInNet}
use Rattle.wire.specs.Views.{node, Visit, Known, pair_at}
use Rattle.wire.specs.Rule.{AreEvents}
use Rattle.wire.specs.Plays.{IsSupplied, LeadsTo}
use Rattle.wire.proofs.Stays.{Standing, node-of}

pub led : {S : Type 0} {bytes : S → List ℕ} {opening : World} (p : Standing bytes opening)
    → p.view.role ≡ node → LeadsTo p.view p.holds.log
led p role =
    let ok = node-of p role in
    let log : List Step = p.holds.log in
    record {
      events = subst (λ (o : World). AreEvents o log) (sym ok.opening_is) p.holds.events;
      pair = ap (λ (o : World). pair_at (run o log) p.view.me) ok.opening_is ∙ ok.pair_is;
      own = ok.events_are;
      net = λ k f there.
          subst (λ (o : World). IsInNet (run o log) f) (sym ok.opening_is) (ok.released k f there);
    }

pub still-supplied : {v : Known} {visits : List Visit} {filling : List ℕ}
    {emptying : List (ℕ × Plain)} {sent : List Plain} {number shown : ℕ} {seen : List Step}
    → IsSupplied v
    → IsSupplied (record v {
      visits = visits;
      filling = filling;
      emptying = emptying;
      sent = sent;
      number = number;
      shown = shown;
      seen = seen;
    })
still-supplied h =
    ∥∥₁_map h (λ l. (
      l.0,
      record { events = l.1.events; pair = l.1.pair; own = l.1.own; net = l.1.net },
    ))
