use Rattle.std.proofs.lemmas.Result.{on_ok_weaker}
use Rattle.node_store.proofs.store.Store.reopen.Goals as goal

pub returns-clause-only : goal.returns-clause-only
returns-clause-only g c =
    on_ok_weaker c.reopen.result (λ ready. (c.reopen.new.self.kept ready).only)
    c.reopen.ensures.ready
