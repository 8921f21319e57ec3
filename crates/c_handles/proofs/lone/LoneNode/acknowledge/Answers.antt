use Rattle.std.proofs.Common.{Ok}
use Rattle.c_handles.proofs.Exits.{heard}
use Rattle.c_handles.proofs.lone.LoneNode.acknowledge.Goals as goal

pub returns-then-self : goal.returns-then-self
returns-then-self c =
    rw (← c.self.view_is) (heard (Ok c.in_ok-answer.answer) c.in_ok-answer.ensures.acted)
