use Rattle.std.proofs.lemmas.Result.{on_ok_weaker}
use Rattle.disk.proofs.Torn.{all_loaded}
use Rattle.disk.proofs.file.load_all.Goals as goal

pub returns : goal.returns
returns c =
    on_ok_weaker c.load-3.result
    (λ third. all_loaded c.args.account.now.state c.load.new.account.state
    c.load-2.new.account.state c.load-3.new.account.state c.requires c.in_ok-load.ensures
    c.in_ok-load-2.ensures third)
    c.load-3.ensures
