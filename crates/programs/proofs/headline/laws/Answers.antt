use Rattle.programs.proofs.Theorems.{answers-leave, answers-stay, done-always-once, in-order-always, late-openings-fail, next-is-done, openings-stay}
use Rattle.programs.proofs.headline.laws.Goals as goal

pub returns-clause-in_order : goal.returns-clause-in_order
returns-clause-in_order c = in-order-always

pub returns-clause-answers_stay : goal.returns-clause-answers_stay
returns-clause-answers_stay c = answers-stay

pub returns-clause-done_once : goal.returns-clause-done_once
returns-clause-done_once c = done-always-once

pub returns-clause-openings_stay : goal.returns-clause-openings_stay
returns-clause-openings_stay c = openings-stay

pub returns-clause-late_openings : goal.returns-clause-late_openings
returns-clause-late_openings c = late-openings-fail

pub returns-clause-leave : goal.returns-clause-leave
returns-clause-leave c = answers-leave

pub returns-clause-next : goal.returns-clause-next
returns-clause-next c = next-is-done
