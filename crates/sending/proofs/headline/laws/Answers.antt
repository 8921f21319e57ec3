use Rattle.sending.proofs.Steps.{in-order, next-goes, pauses-grow}
use Rattle.sending.proofs.Times.{none-too-early, sent-again, told-in-time, turns-in-time}
use Rattle.sending.proofs.headline.laws.Goals as goal

pub returns-clause-in_order : goal.returns-clause-in_order
returns-clause-in_order c = in-order

pub returns-clause-next_goes : goal.returns-clause-next_goes
returns-clause-next_goes c = next-goes

pub returns-clause-pauses_grow : goal.returns-clause-pauses_grow
returns-clause-pauses_grow c = pauses-grow

pub returns-clause-sent_again : goal.returns-clause-sent_again
returns-clause-sent_again c = sent-again

pub returns-clause-told_in_time : goal.returns-clause-told_in_time
returns-clause-told_in_time c = told-in-time

pub returns-clause-turns_in_time : goal.returns-clause-turns_in_time
returns-clause-turns_in_time c = turns-in-time

pub returns-clause-none_too_early : goal.returns-clause-none_too_early
returns-clause-none_too_early c = none-too-early
