use Rattle.std.proofs.lemmas.Result.{err_from_is_err_and}
use Rattle.c_handles.specs.Spaces.{TakesWatch}
use Rattle.c_handles.proofs.Filling.{stayed}
use Rattle.c_handles.proofs.space_handle.SpaceHandle.watch.Goals as goal

pub returns-in_err-space : goal.returns-in_err-space
returns-in_err-space c =
    let p = err_from_is_err_and c.from_residual.result c.from_residual.ensures.1 in
    let said = c.test_empty.ensures in
    rw (p.1, p.2) (stayed TakesWatch c.args.self.now.held c.take_tested.new.self.held
    c.args.to.now.held c.test_empty.new.self.held c.in_err-space.field-0.0 said.same
    (rw said.empty at c.in_err-space.ensures))
