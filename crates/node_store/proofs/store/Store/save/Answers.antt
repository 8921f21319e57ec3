use Rattle.std.proofs.Common.{◌≡◌, IfSome, List, None, subst, sym, ℕ}
use Rattle.disk_journal.specs.Tails.{place_for}
use Rattle.disk_shelf.proofs.Quiet.{ok_no_err}
use Rattle.image.specs.Wholes.{saved_whole}
use Rattle.node.specs.Keeping.{WholeNode}
use Rattle.node_store.specs.Acting.{log_of}
use Rattle.node_store.specs.Noted.{IsLogged}
use Rattle.node_store.specs.Values.{LeadsWhole}
use Rattle.node_store.proofs.Ends.{led_by}
use Rattle.node_store.proofs.Stores.{failed_before, mapped_some, no_place, open_before, some_mapped, wide_saved}
use Rattle.node_store.proofs.store.Store.save.Given as given
use Rattle.node_store.proofs.store.Store.save.Goals as goal
use Rattle.node_store.proofs.store.Store.save.Goals.{After-events}

-- the batch that the log is leads from the node that is stored
leads : (g : given.Over) (c : After-events g) (old : WholeNode)
    → IsLogged (log_of c.args.node.now) old.core c.args.node.now.node.core
    → IfSome c.events.result (λ b. LeadsWhole b.now old (saved_whole c.args.node.now.node))
leads g c old logged =
    let n = c.args.node.now.node in
    led_by (λ b. b.now) c.events.result old n
    (subst (λ l. IsLogged l old.core n.core) (sym c.events.ensures) logged)

pub returns-in-Ok : goal.returns-in-Ok
returns-in-Ok g c =
    let journal = c.args.self.now.journal in
    let Q : List ℕ → Type 0 = λ bytes. place_for journal.tail bytes ≡ None in
    let n = c.args.node.now.node in
    let said = c.in-Ok.ensures in
    record {
      saved = λ old keeps logged. said.saved old keeps
          (leads g (goal.at.returns-in-Ok g c).After-events old logged);
      only = (c.save.new.self.kept said.after.ready).only;
      intact = said.intact;
      any_moment = λ old keeps logged. said.any_moment
          (open_before journal.ready said.after.closed.1) old keeps
          (leads g (goal.at.returns-in-Ok g c).After-events old logged);
      logs = said.logs;
      after = said.after;
      too_large = (
        λ is. absurd (ok_no_err is),
        λ t. said.too_large.1 (
          t.0,
          some_mapped c.events.result (λ b. b.now) Q
              (subst (λ l. IfSome l Q) (sym c.events.ensures)
              (no_place journal.tail (λ is. (journal.plain is).0) (log_of c.args.node.now) t.1)),
          t.2,
        ),
      );
      wide = λ _. tt;
    }

pub returns-in-Err : goal.returns-in-Err
returns-in-Err g c =
    let journal = c.args.self.now.journal in
    let Q : List ℕ → Type 0 = λ bytes. place_for journal.tail bytes ≡ None in
    let n = c.args.node.now.node in
    let said = c.in-Err.ensures in
    record {
      saved = tt;
      only = tt;
      intact = λ _. tt;
      any_moment = λ is old keeps logged. said.any_moment
          (failed_before journal.ready is said.after.closed.1) old keeps
          (leads g (goal.at.returns-in-Err g c).After-events old logged);
      logs = said.logs;
      after = said.after;
      too_large = (
        λ is. (let t = said.too_large.0 is in (
          t.0,
          λ _. subst (λ l. IfSome l Q) c.events.ensures
              (mapped_some c.events.result (λ b. b.now) Q t.1),
          t.2,
        )),
        λ t. said.too_large.1 (
          t.0,
          some_mapped c.events.result (λ b. b.now) Q
              (subst (λ l. IfSome l Q) (sym c.events.ensures)
              (no_place journal.tail (λ is. (journal.plain is).0) (log_of c.args.node.now) t.1)),
          t.2,
        ),
      );
      wide = wide_saved n (λ is. (said.too_large.0 is).2);
    }
