use Rattle.laws.proofs.NoEvent.{only-events-change}
use Rattle.laws.proofs.Copies.{copies-go-together}
use Rattle.laws.proofs.Cuts.{cuts-extend}
use Rattle.laws.proofs.Live.{reach-is-live, sweeps-free-none-reachable, nodes-agree, balances-add-up}
use Rattle.laws.proofs.OldGarbage.{garbage-goes, old-garbage-goes}
use Rattle.laws.proofs.Freeing.{others-lose-nothing, gone-for-good}
use Rattle.laws.proofs.Resolves.{reach-resolves}
use Rattle.laws.proofs.Privacy.{private-is-unknown, reclaims-free-none-reachable}
use Rattle.laws.proofs.Reclaims.{private-garbage-goes, young-garbage-goes}
use Rattle.laws.proofs.Deliveries.{targets-are-live, none-refused-in-turn}
use Rattle.laws.proofs.Net.{net-grows, none-beyond, acknowledgements-go-through, hands-go-through, acknowledged-is-taken-in}
use Rattle.laws.proofs.Transparent.{collector-is-unseen}
use Rattle.laws.proofs.progress.Theorems.{marking-can-end, cycle-can-end, garbage-can-go, end-is-found-soon}
use Rattle.laws.proofs.progress.LocalWork.{reclaims-add-no-work, resolves-add-no-work}
use Rattle.world.proofs.Answers.{answers-are-unseen}
use Rattle.world.proofs.Plays.{played-is-answered}
use Rattle.world.proofs.headline.laws.Goals as goal

pub returns-clause-transparent : goal.returns-clause-transparent
returns-clause-transparent c = collector-is-unseen

pub returns-clause-answers : goal.returns-clause-answers
returns-clause-answers c = answers-are-unseen

pub returns-clause-events : goal.returns-clause-events
returns-clause-events c = only-events-change

pub returns-clause-cuts_extend : goal.returns-clause-cuts_extend
returns-clause-cuts_extend c = cuts-extend

pub returns-clause-copies : goal.returns-clause-copies
returns-clause-copies c = copies-go-together

pub returns-clause-live : goal.returns-clause-live
returns-clause-live c = reach-is-live

pub returns-clause-frees_none_reachable : goal.returns-clause-frees_none_reachable
returns-clause-frees_none_reachable c = sweeps-free-none-reachable

pub returns-clause-agreement : goal.returns-clause-agreement
returns-clause-agreement c = nodes-agree

pub returns-clause-balances : goal.returns-clause-balances
returns-clause-balances c = balances-add-up

pub returns-clause-old_garbage : goal.returns-clause-old_garbage
returns-clause-old_garbage c = old-garbage-goes

pub returns-clause-garbage_goes : goal.returns-clause-garbage_goes
returns-clause-garbage_goes c = garbage-goes

pub returns-clause-resolves : goal.returns-clause-resolves
returns-clause-resolves c = reach-resolves

pub returns-clause-loses : goal.returns-clause-loses
returns-clause-loses c = others-lose-nothing

pub returns-clause-gone_for_good : goal.returns-clause-gone_for_good
returns-clause-gone_for_good c = gone-for-good

pub returns-clause-private : goal.returns-clause-private
returns-clause-private c = private-is-unknown

pub returns-clause-private_garbage : goal.returns-clause-private_garbage
returns-clause-private_garbage c = private-garbage-goes

pub returns-clause-young_garbage : goal.returns-clause-young_garbage
returns-clause-young_garbage c = young-garbage-goes

pub returns-clause-reclaims_free_none_reachable : goal.returns-clause-reclaims_free_none_reachable
returns-clause-reclaims_free_none_reachable c = reclaims-free-none-reachable

pub returns-clause-targets : goal.returns-clause-targets
returns-clause-targets c = targets-are-live

pub returns-clause-net : goal.returns-clause-net
returns-clause-net c = net-grows

pub returns-clause-in_turn : goal.returns-clause-in_turn
returns-clause-in_turn c = none-refused-in-turn

pub returns-clause-within : goal.returns-clause-within
returns-clause-within c = none-beyond

pub returns-clause-acknowledgements : goal.returns-clause-acknowledgements
returns-clause-acknowledgements c = acknowledgements-go-through

pub returns-clause-hands : goal.returns-clause-hands
returns-clause-hands c = hands-go-through

pub returns-clause-taken_in : goal.returns-clause-taken_in
returns-clause-taken_in c = acknowledged-is-taken-in

pub returns-clause-marking : goal.returns-clause-marking
returns-clause-marking c = marking-can-end

pub returns-clause-cycle : goal.returns-clause-cycle
returns-clause-cycle c = cycle-can-end

pub returns-clause-garbage : goal.returns-clause-garbage
returns-clause-garbage c = garbage-can-go

pub returns-clause-soon : goal.returns-clause-soon
returns-clause-soon c = end-is-found-soon

pub returns-clause-played : goal.returns-clause-played
returns-clause-played c = played-is-answered

pub returns-clause-reclaims : goal.returns-clause-reclaims
returns-clause-reclaims c = reclaims-add-no-work

pub returns-clause-resolves_quietly : goal.returns-clause-resolves_quietly
returns-clause-resolves_quietly c = resolves-add-no-work
