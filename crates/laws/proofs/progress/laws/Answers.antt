use Rattle.laws.proofs.progress.Theorems.{marking-can-end, cycle-can-end, garbage-can-go, end-is-found-soon}
use Rattle.laws.proofs.progress.Rounded.{rounds-end-marking, rounds-end-cycle, rounds-let-begin, rounds-free-garbage}
use Rattle.laws.proofs.progress.LocalWork.{reclaims-add-no-work}
use Rattle.laws.proofs.progress.laws.Goals as goal

pub returns-clause-marking : goal.returns-clause-marking
returns-clause-marking c = marking-can-end

pub returns-clause-cycle : goal.returns-clause-cycle
returns-clause-cycle c = cycle-can-end

pub returns-clause-garbage : goal.returns-clause-garbage
returns-clause-garbage c = garbage-can-go

pub returns-clause-soon : goal.returns-clause-soon
returns-clause-soon c = end-is-found-soon

pub returns-clause-reclaims : goal.returns-clause-reclaims
returns-clause-reclaims c = reclaims-add-no-work

pub returns-clause-rounds_end_marking : goal.returns-clause-rounds_end_marking
returns-clause-rounds_end_marking c = rounds-end-marking

pub returns-clause-rounds_end_cycle : goal.returns-clause-rounds_end_cycle
returns-clause-rounds_end_cycle c = rounds-end-cycle

pub returns-clause-rounds_let_begin : goal.returns-clause-rounds_let_begin
returns-clause-rounds_let_begin c = rounds-let-begin

pub returns-clause-rounds_free_garbage : goal.returns-clause-rounds_free_garbage
returns-clause-rounds_free_garbage c = rounds-free-garbage
